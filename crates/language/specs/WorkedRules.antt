-- The rules at work, by hand: program D of document 01, "Worked programs", is well formed; and a state class finds a method
-- of its root.
use Rattle.std.specs.Prelude.{◌≡◌, refl, ◌≢◌, ℕ, ◌<◌, List, [], ◌∷◌}
use Rattle.std.proofs.Common.{arith}
use Rattle.std.proofs.Math.Option.{none}
use Rattle.language.specs.Limits.{object_class}
use Rattle.language.specs.Lists.{nth, a_nil, a_cons}
use Rattle.language.specs.Frames.{frame}
use Rattle.language.specs.Tree.{bool, class, known, Expr, literal, literal_true, slot, get, new}
use Rattle.language.specs.Tree.{change, assign, set, call, block, nil, cons, root, state, Field}
use Rattle.language.specs.Tree.{Declaration, Class, Program}
use Rattle.language.specs.Effects.{no_effect, effect_of, effect_of_all, member, join}
use Rattle.language.specs.Program.{class_at}
use Rattle.language.specs.Environment.{Environment, fresh_slot, start_environment}
use Rattle.language.specs.ClassRelations.{field_here, declares_here, undeclared_nil, itself, above}
use Rattle.language.specs.ClassRelations.{RootOf}
use Rattle.language.specs.ClassRelations.{root_stays, root_above, FieldsOf, fields_none, fields_more}
use Rattle.language.specs.ClassRelations.{FindsMethod, finds_own, finds_above, class_declared}
use Rattle.language.specs.ClassRelations.{field_bool}
use Rattle.language.specs.ClassRelations.{changes_state}
use Rattle.language.specs.TypeRelations.{last_one, last_later, both_none, widens_bool, widens_class}
use Rattle.language.specs.TypeRelations.{AppliesAll, applies_bool, applies_root, applies_stays}
use Rattle.language.specs.TypeRelations.{applies_known, applies_slot}
use Rattle.language.specs.Rules.{HasType, type_literal, type_slot, type_new, type_get, type_set}
use Rattle.language.specs.Rules.{type_assign, type_call, type_block, type_change, types_nil, types_cons}
use Rattle.language.specs.WellFormed.{each_nil, each_cons, root_object, state_root, well_nil, well_cons}
use Rattle.language.specs.WellFormed.{methods_nil, ClassWell, classes_nil, classes_cons, ProgramWell}

root_no_state : root ≢ state
root_no_state e = let z : ◌≡◌ {A = ℕ} 0 1 = cc in omega arith

-- ---- program D: a root with a field, and two state classes

abbrev flag : Field
flag = record { type = bool; name = 0 }

abbrev root_class : Class
root_class = record { kind = root; super = object_class; fields = flag ∷ []; methods = [] }

abbrev state_class : Class
state_class = record { kind = state; super = 1; fields = []; methods = [] }

abbrev d_classes : List Class
d_classes = root_class ∷ state_class ∷ state_class ∷ []

-- A 1 with W 2; U 0 of I 1 with T; R 1 3; G 0 of I 1.
abbrev d_start : Expr
d_start = block (class 1 ∷ [])
    (cons (assign 1 (new 2))
    (cons (set 0 (slot 1) (literal literal_true)) (cons (change 1 3) (cons (get 0 (slot 1)) nil))))

abbrev program_d : Program
program_d = record { classes = d_classes; start = d_start }

-- Class 1 is its own root and has the field; it is the root of 2 and 3, which inherit the field.
root_of_1 : RootOf d_classes 1 1
unfolding class_at nth
root_of_1 = root_stays root_class refl root_no_state

root_of_2 : RootOf d_classes 2 1
unfolding class_at nth
root_of_2 = root_above state_class refl refl root_of_1

root_of_3 : RootOf d_classes 3 1
unfolding class_at nth
root_of_3 = root_above state_class refl refl root_of_1

fields_of_1 : FieldsOf d_classes 1 (flag ∷ [])
unfolding class_at nth
fields_of_1 = fields_more root_class refl (fields_none refl)

fields_of_3 : FieldsOf d_classes 3 (flag ∷ [])
unfolding class_at nth
fields_of_3 = fields_more state_class refl fields_of_1

-- Slot 1 as the block begins, and after R 1 3; its declared type is class 1.
abbrev earlier : Environment
earlier = frame none (fresh_slot (class 1) ∷ [])

abbrev later : Environment
later = frame none (record { declared = class 1; current = class 3 } ∷ [])

-- Class 2 fits class 1, which is above it; the slot keeps its current type.
assigned : HasType d_classes earlier (assign 1 (new 2)) (known (class 2)) earlier no_effect
unfolding class_at nth
assigned = type_assign (type_new (class_declared {k = 2} (omega arith))) refl
    (widens_class (above state_class refl itself))

-- T has no effect, so the object's class stays 1, and class 1 has the field.
field_set : HasType d_classes earlier (set 0 (slot 1) (literal literal_true)) (known bool) earlier
    (join no_effect no_effect)
unfolding nth member
field_set = type_set (type_slot refl) type_literal (applies_stays root_of_1 refl) fields_of_1
    (field_here refl)
    widens_bool

-- Slot and target have root 1, which stays when it is applied to slot 1; then the slot has class 3.
changed : HasType d_classes earlier (change 1 3) (known (class 3)) later (effect_of 1)
unfolding class_at nth member effect_of
changed = type_change refl refl (changes_state state_class refl refl) root_of_1 root_of_3 root-applied
  where
    root-applied : AppliesAll d_classes (effect_of 1) earlier earlier
    root-applied = record {
      this = both_none;
      slots = a_cons (applies_slot (applies_root root_of_1 refl))
          a_nil;
    }

got : HasType d_classes later (get 0 (slot 1)) (known bool) later no_effect
unfolding nth
got = type_get (type_slot refl) fields_of_3 (field_here refl)

-- Program D is well formed. The change comes after A 1, so the type of A 1 among the block's becomes class 1.
pub program_d_well : ProgramWell program_d
unfolding class_at nth member join effect_of
program_d_well = record {
  classes = classes_cons first-well (classes_cons (below_root 2 (omega arith))
      (classes_cons (below_root 3 (omega arith)) classes_nil));
  t = known bool;
  γ = start_environment;
  φ = effect_of 1;
  start = type_block (each_cons (class_declared {k = 1} (omega arith)) each_nil)
      (types_cons assigned (types_cons field_set (types_cons changed (types_cons got types_nil
      (applies_known applies_bool)) (applies_known (applies_stays root_of_3 refl)))
      (applies_known applies_bool))
      (applies_known (applies_root root_of_2 refl)))
      (last_later (last_later (last_later last_one)));
}
  where
    first-well : ClassWell d_classes 1 root_class
    first-well = record {
      earlier = omega arith;
      kind = root_object;
      inherited = [];
      inherits = fields_none refl;
      fields = well_cons {before = []} (omega arith) field_bool each_nil well_nil;
      methods = methods_nil;
    }

    below_root : (k : ℕ) → 1 < k → ClassWell d_classes k state_class
    below_root k l = record {
      earlier = l;
      kind = state_root;
      inherited = flag ∷ [];
      inherits = fields_of_1;
      fields = well_nil;
      methods = methods_nil;
    }

-- ---- a method of the root

abbrev always : Declaration
always = record {
  result = bool;
  name = 7;
  parameters = [];
  effects = [];
  body = block [] (cons (literal literal_true) nil);
}

abbrev with_method : Class
with_method = record { kind = root; super = object_class; fields = []; methods = always ∷ [] }

abbrev two_classes : List Class
two_classes = with_method ∷ state_class ∷ []

-- Class 2 does not declare method 7, so it finds its superclass's.
pub found_in_root : FindsMethod two_classes 2 7 1 always
unfolding class_at nth
found_in_root = finds_above state_class refl undeclared_nil (finds_own with_method refl (declares_here refl))

-- So a call of it on a new object of class 2 has its result's type.
pub call_typed : HasType two_classes start_environment (call 7 (new 2) nil) (known bool) start_environment
    (join (join no_effect no_effect) (effect_of_all []))
unfolding class_at nth member
call_typed = type_call always (type_new (class_declared {k = 2} (omega arith))) types_nil
    (applies_stays (root_above state_class refl refl (root_stays with_method refl root_no_state)) refl)
    found_in_root a_nil (record { this = both_none; slots = a_nil })
