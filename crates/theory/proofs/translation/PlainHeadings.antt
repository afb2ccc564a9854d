-- The plain program of a well-formed program is well formed: its headings and its bodies,
-- where the source has fields within the translator's limit and no reserved field name.
use mathlib.Core.Path.{◌≡◌, refl, sym, ap, ◌∙◌, subst}
use Prim.Native.Nat.{ℕ, suc, ◌+◌, ◌≤◌, ◌<◌}
use mathlib.Core.Option.{Option, none, some}
use mathlib.Core.Bool.{true}
use mathlib.Core.Logic.{◌≢◌}
use mathlib.Core.List.{List, [], ◌∷◌, ◌++◌, map, map-append}
use lib.ListN.{length, length-map}
use borrow.Author.Tests.{ltb-true, le-leb, eqb-false}
use native.Mathlib.Omega.{arith}
use Rattle.language.specs.Limits.{of_translator, id_field, object_class, fickle_class, identity_class}
use Rattle.language.specs.Lists.{nth, map_option, Never}
use Rattle.language.specs.Results.{accept, bind_checked_inv, require_inv}
use Rattle.language.specs.Frames.{Frame, frame}
use Rattle.language.specs.Tree.{DeclaredType, bool, class, plain, Field, Declaration, Class, class_lines}
use Rattle.language.specs.Tree.{Program}
use Rattle.language.specs.World.{Method, World, is_declared}
use Rattle.language.specs.Effects.{no_effect, within, effect_of_all}
use Rattle.language.specs.Program.{class_at, world, world_with}
use Rattle.language.specs.Headings.{check_fields, check_class, check_classes, headings}
use Rattle.language.specs.ClassRelations.{Undeclared, undeclared_nil, undeclared_cons, fields_none, FieldType}
use Rattle.language.specs.ClassRelations.{field_bool, field_class}
use Rattle.language.specs.WellFormed.{Each, each_nil, each_cons, FieldsWell, well_nil, well_cons}
use Rattle.language.specs.WellFormed.{well_none, Overrides, first, again, MethodWell, MethodsWell}
use Rattle.language.specs.WellFormed.{methods_nil, methods_cons, ClassWell, ClassesWell, classes_nil}
use Rattle.language.specs.WellFormed.{classes_cons, ProgramWell}
use Rattle.language.specs.Translation.{plain_class, plain_type, plain_field, variables, plain_method}
use Rattle.language.specs.Translation.{plain_classes, identity, fickle_object, plain_program, fields_free}
use Rattle.language.specs.Translation.{names_free}
use Rattle.theory.proofs.soundness.Fitting.{Laws}
use Rattle.theory.proofs.translation.PlainWorld.{imp_of_identity, id_of_implementor, plain_form}
use Rattle.theory.proofs.translation.PlainOf.{PlainOf}
use Rattle.theory.proofs.translation.PlainLookups.{plain_list, extends_plain, hierarchy_plain, lookups_plain}
use Rattle.theory.proofs.lookups.Superclasses.{Hierarchy, object_is_no_class, other_kind}
use Rattle.theory.proofs.lookups.LookupsAgree.{field_type_declared}
use Rattle.theory.proofs.typing.RulesAgree.{computed, stated}
use Rattle.theory.proofs.typing.TypesAgree.{stated_types, widens_is, is_widens}
use Rattle.theory.proofs.lookups.LookupsAgree.{method_told, world_finds, fields_found}
use Rattle.theory.proofs.lookups.LookupLaws.{hierarchy, fields_follow, overridden}
use Rattle.theory.proofs.translation.PlainRules.{fresh}
use Rattle.theory.proofs.translation.PlainSlots.{method_match, start_match}
use Rattle.theory.proofs.translation.PlainTypes.{NameLaws, free_name, fits_plain}
use Rattle.theory.proofs.translation.PlainTypes.{types_declared}
use Rattle.theory.proofs.translation.TranslationTyped.{translation_has}

-- A name that none of some fields has, none of their plain forms has; so of methods.
names_plain : {n : ℕ} {fs : List Field} → Each (λ g. g.name ≢ n) fs
    → Each (λ g. g.name ≢ n) (map plain_field fs)
names_plain each_nil = each_nil
names_plain (each_cons e es) = each_cons e (names_plain es)

undeclared_plain : (W : World) (k : ℕ) {m : ℕ} {ds : List Declaration} → Undeclared m ds
    → Undeclared m (map (plain_method W k) ds)
undeclared_plain W k undeclared_nil = undeclared_nil
undeclared_plain W k (undeclared_cons e u) = undeclared_cons e (undeclared_plain W k u)

module _ (P : List Class) (𝓗 : Hierarchy P) (laws : Laws (world P)) (𝓝 : NameLaws (world P)) where
  abbrev W : World
  W = world P

  abbrev Q : List Class
  Q = plain_list P

  abbrev 𝓗' : Hierarchy Q
  𝓗' = hierarchy_plain P 𝓗

  abbrev 𝓟 : PlainOf (world P) (world Q)
  𝓟 = lookups_plain P 𝓗

  -- Identity and FickleObject are types that a field may have.
  field_of_identity : FieldType Q (class identity_class)
  unfolding class_at nth
  field_of_identity = field_class identity refl (other_kind plain refl)

  field_of_fickle : FieldType Q (class fickle_class)
  unfolding class_at nth
  field_of_fickle = field_class fickle_object refl (other_kind plain refl)

  field_type_plain : (t : DeclaredType) → FieldType Q (plain_type t)
  field_type_plain bool = field_bool
  field_type_plain (class c) = field_of_identity

  fields_plain : {before fs : List Field} (at at' : ℕ) (u v : Unit {0}) → FieldsWell P before fs
      → check_fields of_translator P before at fs ≡ accept u → fields_free at' fs ≡ accept v
      → FieldsWell Q (id_of_implementor ∷ map plain_field before) (map plain_field fs)
  unfolding check_fields fields_free
  fields_plain at at' u v well_nil q r = well_nil
  fields_plain {before} at at' u v (well_cons {fs} {f} a b c w) q r =
      require_inv _ _ _ _ q λ e₁ q. require_inv _ _ _ _ q λ e₂ q. require_inv _ _ _ _ q λ e₃ q.
      require_inv _ _ _ _ q λ e₄ q.
      require_inv _ _ _ _ r λ e₅ r.
      let h : FieldsWell Q (id_of_implementor ∷ map plain_field (before ++ (f ∷ []))) (map plain_field fs)
      = fields_plain (at + 1) (at' + 1) u v w q r in
      well_cons (omega (arith, ltb-true (length before) 16 e₁, length-map before plain_field))
      (field_type_plain f.type)
      (each_cons (eqb-false id_field f.name (free_name f.name e₅)) (names_plain c))
      (subst (λ (l : List Field). FieldsWell Q (id_of_implementor ∷ l) (map plain_field fs))
      (map-append plain_field before (f ∷ [])) h)

  -- No effect is within any.
  nothing_within : (φ : ℕ) → within no_effect φ ≡ true
  unfolding within
  nothing_within φ = refl

  overrides_plain : (k super : ℕ) (m : Declaration) → Overrides P super m
      → Overrides Q (plain_class super) (plain_method W k m)
  unfolding effect_of_all
  overrides_plain k super m x = go (W.method super m.name) refl
    where
      go : (o : Option Method) → W.method super m.name ≡ o
          → Overrides Q (plain_class super) (plain_method W k m)
      go none e = first (λ o d y. absurd (Never
          (sym (𝓟.method super m.name ∙ ap (map_option plain_form) e) ∙ method_told Q 𝓗'.earlier y)))
      go (some M) e = let y = overridden P 𝓗 M x e in
          let z = world_finds Q 𝓗'.earlier (plain_class super) m.name (plain_form M)
          (𝓟.method super m.name ∙ ap (map_option plain_form) e) in
          again z.owner z.declaration z.finds
          (ap plain_type y.1 ∙ ap (λ (N : Method). N.result) (sym z.is))
          (ap (map plain_type) y.0 ∙ ap (λ (N : Method). N.parameters) (sym z.is))
          (nothing_within _)

  method_plain : (k super : ℕ) (before : List Declaration) (m : Declaration) → is_declared W k ≡ true
      → MethodWell P k super before m
      → MethodWell Q (plain_class k) (plain_class super) (map (plain_method W k) before) (plain_method W k m)
  method_plain k super before m i w =
      let δ : Frame DeclaredType = frame (some (class (plain_class k))) (map plain_type m.parameters) in
      let a = translation_has 𝓟 laws 𝓝 m.body (computed P 𝓗 m.body w.body)
      (variables m.parameters) δ
      (method_match W k k m.parameters i) in
      record {
        result = field_type_declared Q (field_type_plain m.result);
        parameters = stated_types Q (types_declared 𝓟 m.parameters);
        name = undeclared_plain W k w.name;
        overrides = overrides_plain k super m w.overrides;
        effects = well_none;
        t = a.0;
        γ = fresh δ;
        φ = no_effect;
        body = stated Q 𝓗' (plain_method W k m).body a.1;
        body_type = is_widens Q 𝓗' a.0 (plain_type m.result)
            (fits_plain 𝓟 m.result a.2 (widens_is P 𝓗 w.body_type));
        body_effect = nothing_within (effect_of_all []);
      }

  methods_plain : (k super : ℕ) {before ms : List Declaration} → is_declared W k ≡ true
      → MethodsWell P k super before ms
      → MethodsWell Q (plain_class k) (plain_class super) (map (plain_method W k) before)
      (map (plain_method W k) ms)
  methods_plain k super i methods_nil = methods_nil
  methods_plain k super {before} i (methods_cons {m} w ws)
      = methods_cons (method_plain k super before m i w) (methods_plain k super i ws)

  known_count : W.count ≡ length P
  unfolding world world_with
  known_count = refl

  class_declared : (k : ℕ) → k ≤ length P → is_declared W k ≡ true
  class_declared k l = rw known_count (le-leb k (length P) l)

  -- The classes from number k on.
  classes_plain : {k : ℕ} {cs : List Class} (at at' : ℕ) (u v : Unit {0}) → ClassesWell P k cs
      → check_classes of_translator P k at cs ≡ accept u → names_free at' cs ≡ accept v
      → k + length cs ≤ suc (length P)
      → ClassesWell Q (plain_class k) (plain_classes W k cs)
  unfolding check_classes check_class names_free plain_classes
  classes_plain at at' u v classes_nil q r l = classes_nil
  classes_plain {k} at at' u v (classes_cons {c} {cs} w ws) q r l =
      bind_checked_inv _ _ q λ a e q. require_inv _ _ _ _ e λ e₁ e. require_inv _ _ _ _ e λ e₂ e.
      bind_checked_inv _ _ e λ b e₃ e.
      bind_checked_inv _ _ r λ d f r.
      classes_cons
      (record {
        earlier = omega (arith, w.earlier);
        kind = extends_plain P 𝓗 (plain_class c.super);
        inherited = (world Q).fields (plain_class c.super);
        inherits = fields_found Q 𝓗'.earlier (plain_class c.super);
        fields = rw (𝓟.fields c.super (class_declared c.super (omega (arith, w.earlier))))
            (fields_plain (at + 1) (at' + 1) b d (fields_follow P 𝓗 w) e₃ f);
        methods = methods_plain k c.super (class_declared k (omega arith)) w.methods;
      })
      (classes_plain (at + class_lines c) (at' + class_lines c) u v ws q r (omega arith))

  -- Identity and FickleObject: a class that extends Object and has one field.
  one_field : (k : ℕ) (f : Field) → 0 < k → FieldType Q f.type
      → ClassWell Q k (record { kind = plain; super = object_class; fields = f ∷ []; methods = [] })
  one_field k f l t = record {
    earlier = l;
    kind = extends_plain P 𝓗 object_class;
    inherited = [];
    inherits = fields_none (object_is_no_class Q);
    fields = well_cons {before = []} (omega arith) t each_nil well_nil;
    methods = methods_nil;
  }

-- The plain program of a well-formed program within the limit of fields and without reserved names is well
-- formed.
pub program_plain : (p : Program) (u v : Unit {0}) → ProgramWell p → Laws (world p.classes)
    → NameLaws (world p.classes)
    → headings of_translator p.classes ≡ accept u → names_free 1 p.classes ≡ accept v
    → ProgramWell (plain_program p)
unfolding plain_program headings
program_plain p u v w laws 𝓝 q r =
    let P = p.classes in let 𝓗 : Hierarchy p.classes = hierarchy P w.classes in
    let a = translation_has (lookups_plain P 𝓗) laws 𝓝 p.start (computed P 𝓗 p.start w.start) []
    (frame none [])
    (start_match (world P)) in
    record {
      classes = classes_cons (one_field P 𝓗 laws 𝓝 1 imp_of_identity (omega arith)
          (field_of_fickle P 𝓗 laws 𝓝))
          (classes_cons (one_field P 𝓗 laws 𝓝 2 id_of_implementor (omega arith)
          (field_of_identity P 𝓗 laws 𝓝))
          (classes_plain P 𝓗 laws 𝓝 1 1 u v w.classes q r (omega arith)));
      t = a.0;
      γ = fresh (frame none []);
      φ = no_effect;
      start = stated (plain_list P) (hierarchy_plain P 𝓗) (plain_program p).start a.1;
    }
