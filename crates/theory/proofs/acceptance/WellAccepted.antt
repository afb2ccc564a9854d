-- The passes over headings and bodies accept well-formed programs. WellEqual has the converse.
use mathlib.Core.Path.{◌≡◌, refl}
use Prim.Native.Nat.{ℕ, zero, suc, ◌+◌, ◌≤◌, ◌<◌}
use mathlib.Core.Option.{Option, none, some}
use mathlib.Core.Bool.{true}
use mathlib.Core.List.{List, [], ◌∷◌}
use lib.ListN.{length, length-append}
use lib.Dec.{leb}
use borrow.Author.Tests.{eq-eqb, lt-ltb, le-leb}
use native.Mathlib.Omega.{arith}
use Rattle.language.specs.Limits.{Most, of_check}
use Rattle.language.specs.Lists.{Never, nth_lt}
use Rattle.language.specs.Results.{passed, bind_checked, require}
use Rattle.language.specs.Tree.{DeclaredType, bool, class, Kind, Field}
use Rattle.language.specs.Tree.{Declaration, heading_lines, method_lines, Class, class_lines, classes_lines}
use Rattle.language.specs.Tree.{Program}
use Rattle.language.specs.World.{Method}
use Rattle.language.specs.Effects.{effect_of_all, within}
use Rattle.language.specs.Program.{class_at, is_root_class, world, world_with, methods_of}
use Rattle.language.specs.Headings.{may_extend, same_type, same_types, lines_within, may_override}
use Rattle.language.specs.Headings.{check_fields, check_parameters, check_effects, check_methods, check_class}
use Rattle.language.specs.Headings.{check_classes, headings}
use Rattle.language.specs.Typing.{type_method, type_methods}
use Rattle.language.specs.Typing.{type_classes, bodies}
use Rattle.language.specs.ClassRelations.{TypeDeclared}
use Rattle.language.specs.WellFormed.{Each, each_nil, each_cons}
use Rattle.language.specs.WellFormed.{Extends, plain_object, plain_plain, root_object, root_plain, state_root}
use Rattle.language.specs.WellFormed.{state_state, FieldsWell, well_nil, well_cons, EffectWell, well_none}
use Rattle.language.specs.WellFormed.{well_root, Overrides, MethodWell, MethodsWell}
use Rattle.language.specs.WellFormed.{methods_nil, methods_cons, ClassesWell, classes_nil, classes_cons}
use Rattle.language.specs.WellFormed.{ProgramWell}
use Rattle.theory.proofs.typing.TypingRules.{complete}
use Rattle.theory.proofs.lookups.Superclasses.{Hierarchy}
use Rattle.theory.proofs.lookups.LookupsAgree.{unnamed_place, undeclared_is, declared_is}
use Rattle.theory.proofs.lookups.LookupsAgree.{field_type_declared, field_type_no_state}
use Rattle.theory.proofs.typing.RulesAgree.{computed}
use Rattle.theory.proofs.typing.TypesAgree.{widens_is}
use Rattle.theory.proofs.lookups.LookupLaws.{hierarchy, fields_follow, overridden}
use Rattle.theory.proofs.typing.EffectLaws.{member_of_all}
use Rattle.theory.proofs.acceptance.AcceptedWell.{kind_found}
use Rattle.theory.proofs.lookups.MethodNumbers.{NumberedFrom, first_effect, numbered_rest, numbered_all}
use Rattle.theory.proofs.lookups.MethodNumbers.{numbered_class, numbered_classes}

extends_test : {k : Kind} {o : Option Kind} → Extends k o → may_extend k o ≡ true
extends_test plain_object = refl
extends_test plain_plain = refl
extends_test root_object = refl
extends_test root_plain = refl
extends_test state_root = refl
extends_test state_state = refl

pub type_same : (t : DeclaredType) → same_type t t ≡ true
type_same bool = refl
type_same (class c) = eq-eqb c c refl

types_same : (ts : List DeclaredType) → same_types ts ts ≡ true
unfolding same_types
types_same [] = refl
types_same (t ∷ ts) = rw (type_same t, types_same ts)

module _ (P : List Class) where
  -- declared roots are classes of 1 to 64 where there are no more classes
  class_low : (k : ℕ) (c : Class) → class_at P k ≡ some c → (0 < k) × (k ≤ length P)
  unfolding class_at
  class_low zero c e = absurd (Never e)
  class_low (suc k) c e = (omega arith, nth_lt P k c e)

  within_lines : {last : ℕ} {cs : List ℕ} (φ : ℕ) → length P ≤ of_check.classes → EffectWell P last cs
      → within (effect_of_all cs) φ ≡ true → lines_within cs φ ≡ true
  unfolding lines_within
  within_lines φ l well_none e = refl
  within_lines φ l (well_root {k} {ks} c h r a w) e = let p = class_low k c h in let q =
      member_of_all k ks φ e in
      rw (lt-ltb 0 k p.0, le-leb k of_check.classes (omega arith), q.0) (within_lines φ l w q.1)

  override_test : (𝓗 : Hierarchy P) (super : ℕ) (m : Declaration) (o : Option Method)
      → (world P).method super m.name ≡ o → length P ≤ of_check.classes
      → EffectWell P 0 m.effects → Overrides P super m → may_override m o ≡ true
  override_test 𝓗 super m none e l w x = refl
  override_test 𝓗 super m (some M) e l w x = let y = overridden P 𝓗 M x e in rw (
    y.0,
    y.1,
    type_same M.result,
    types_same M.parameters,
    within_lines M.effect l w y.2,
  )

  -- The pass over the fields of a class accepts them, from whatever line on.
  pub FieldsPass : Most → Class → Type 0
  FieldsPass most c = (at : ℕ) → check_fields most P ((world P).fields c.super) at c.fields ≡ passed

  fields_test : {before fs : List Field} → FieldsWell P before fs → (at : ℕ)
      → check_fields of_check P before at fs ≡ passed
  unfolding check_fields require
  fields_test well_nil at = refl
  fields_test {before} (well_cons {f} p q r w) at = rw (
    lt-ltb (length before) 17 p,
    (declared_is P f.type).1 (field_type_declared P q),
    unnamed_place r,
    field_type_no_state P q,
  ) (fields_test w (at + 1))

  -- So it does under other limits, where there are no more fields than they allow.
  few_fields_test : (most : Most) {before fs : List Field} → FieldsWell P before fs
      → length before + length fs ≤ most.fields → (at : ℕ) → check_fields most P before at fs ≡ passed
  unfolding check_fields require
  few_fields_test most well_nil l at = refl
  few_fields_test most {before} (well_cons {fs} {f} p q r w) l at = rw (
    lt-ltb (length before) most.fields (omega (arith, l)),
    (declared_is P f.type).1 (field_type_declared P q),
    unnamed_place r,
    field_type_no_state P q,
  ) (few_fields_test most w (omega (arith, l, length-append before (f ∷ []))) (at + 1))

  all_fields_pass : (𝓗 : Hierarchy P) {k : ℕ} {cs : List Class} → ClassesWell P k cs
      → Each (FieldsPass of_check) cs
  unfolding FieldsPass
  all_fields_pass 𝓗 classes_nil = each_nil
  all_fields_pass 𝓗 (classes_cons w ws) =
      each_cons (λ at. fields_test (fields_follow P 𝓗 w) at) (all_fields_pass 𝓗 ws)

  few_fields_pass : (most : Most) (𝓗 : Hierarchy P) {k : ℕ} {cs : List Class} → ClassesWell P k cs
      → Each (λ c. length ((world P).fields c.super) + length c.fields ≤ most.fields) cs
      → Each (FieldsPass most) cs
  unfolding FieldsPass
  few_fields_pass most 𝓗 classes_nil each_nil = each_nil
  few_fields_pass most 𝓗 (classes_cons w ws) (each_cons l ls) =
      each_cons (λ at. few_fields_test most (fields_follow P 𝓗 w) l at) (few_fields_pass most 𝓗 ws ls)

  parameters_test : (most : Most) {ts : List DeclaredType} → Each (TypeDeclared P) ts → (at : ℕ)
      → check_parameters most P at ts ≡ passed
  unfolding check_parameters require
  parameters_test most each_nil at = refl
  parameters_test most (each_cons {a} d ds) at = rw ((declared_is P a).1 d) (parameters_test most ds (at + 1))

  -- a class of the list has a declared number
  pub class_count : (k : ℕ) (c : Class) → class_at P k ≡ some c → leb k (length P) ≡ true
  unfolding class_at
  class_count zero c e = absurd (Never e)
  class_count (suc k) c e = le-leb (suc k) (length P) (nth_lt P k c e)

  effects_test : (most : Most) {last : ℕ} {cs : List ℕ} → EffectWell P last cs → (at : ℕ)
      → check_effects most P last at cs ≡ passed
  unfolding check_effects require is_root_class world world_with
  effects_test most well_none at = refl
  effects_test most {last} (well_root {k} c h r l w) at =
      rw (class_count k c h, h, r, lt-ltb last k l) (effects_test most w (at + 1))

  module _ (𝓗 : Hierarchy P) where
    method-types : (k n at : ℕ) (super : ℕ) (before : List Declaration) (m : Declaration)
        → (world P).effect n ≡ effect_of_all m.effects
        → MethodWell P k super before m → type_method (world P) k n at m ≡ passed
    unfolding type_method bind_checked require
    method-types k n at super before m h w = rw (
      complete (world P) m.body (computed P 𝓗 m.body w.body) (at + heading_lines m),
      widens_is P 𝓗 w.body_type,
      h,
      w.body_effect,
    )

    methods-types : (k super : ℕ) {before ms : List Declaration} → MethodsWell P k super before ms
        → (n at : ℕ) → NumberedFrom P n ms → type_methods (world P) k n at ms ≡ passed
    unfolding type_methods bind_checked
    methods-types k super methods_nil n at h = refl
    methods-types k super {before} (methods_cons {ms} {m} w ws) n at h =
        rw (method-types k n at super before m (first_effect P n m ms h) w)
        (methods-types k super ws (suc n) (at + method_lines m) (numbered_rest P n m ms h))

    methods-test : (most : Most) (k super : ℕ) {before ms : List Declaration} → length P ≤ of_check.classes
        → MethodsWell P k super before ms → (at : ℕ) → check_methods most P super before at ms ≡ passed
    unfolding check_methods bind_checked require
    methods-test most k super l methods_nil at = refl
    methods-test most k super l (methods_cons {m} w ws) at = rw (
      (declared_is P m.result).1 w.result,
      undeclared_is w.name,
      override_test 𝓗 super m _ refl l w.effects w.overrides,
      parameters_test most w.parameters (at + 1),
      effects_test most w.effects (at + 1 + length m.parameters),
    ) (methods-test most k super l ws (at + method_lines m))

    classes-test : (most : Most) {k : ℕ} {cs : List Class} → length P ≤ of_check.classes → ClassesWell P k cs
        → Each (FieldsPass most) cs → (at : ℕ) → check_classes most P k at cs ≡ passed
    unfolding check_classes check_class bind_checked require FieldsPass
    classes-test most l classes_nil each_nil at = refl
    classes-test most {k} l (classes_cons {c} w ws) (each_cons f fs) at = rw (
      lt-ltb c.super k w.earlier,
      kind_found P c,
      extends_test w.kind,
      f (at + 1),
      methods-test most k c.super l w.methods (at + 1 + length c.fields),
    ) (classes-test most l ws fs (at + class_lines c))

    classes-types : {k : ℕ} {cs : List Class} → ClassesWell P k cs → (n at : ℕ)
        → NumberedFrom P n (methods_of cs) → type_classes (world P) k n at cs ≡ passed
    unfolding type_classes bind_checked
    classes-types classes_nil n at h = refl
    classes-types {k} (classes_cons {c} {cs} w ws) n at h =
        rw (methods-types k c.super w.methods n (at + 1 + length c.fields)
        (numbered_class P n c cs h))
        (classes-types ws (n + length c.methods) (at + class_lines c) (numbered_classes P n c cs h))

-- Headings and bodies that are well formed are accepted.
pub program_test : (p : Program) → length p.classes ≤ of_check.classes → ProgramWell p
    → (headings of_check p.classes ≡ passed) × (bodies p ≡ passed)
unfolding headings bodies bind_checked
program_test p l w = let P = p.classes in let 𝓗 = hierarchy P w.classes in (
  classes-test P 𝓗 of_check l w.classes (all_fields_pass P 𝓗 w.classes) 1,
  rw (
    classes-types P 𝓗 w.classes 0 1 (numbered_all P),
    complete (world P) p.start (computed P 𝓗 p.start w.start) (2 + classes_lines P),
  ),
)

-- The pass over headings accepts them under other limits too, where no class has more fields than they allow.
pub headings_test : (most : Most) (p : Program) → length p.classes ≤ of_check.classes → ProgramWell p
    → Each (λ c. length ((world p.classes).fields c.super) + length c.fields ≤ most.fields)
    p.classes
    → headings most p.classes ≡ passed
unfolding headings
headings_test most p l w few = let P = p.classes in let 𝓗 = hierarchy P w.classes in
    classes-test P 𝓗 most l w.classes (few_fields_pass P most 𝓗 w.classes few) 1
