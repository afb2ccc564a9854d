-- Programs whose headings and bodies the passes accept are well formed. WellPasses has the converse.
use mathlib.Core.Path.{◌≡◌, refl, sym, ap, ap₂, ◌∙◌, subst}
use Prim.Native.Nat.{ℕ, zero, suc, ◌+◌, ◌<◌}
use mathlib.Core.Option.{Option, none, some}
use mathlib.Core.Bool.{true, false, not}
use mathlib.Core.List.{List, [], ◌∷◌, ◌++◌}
use lib.ListN.{length}
use lib.Dec.{ltb}
use borrow.Author.Tests.{eqb-true, ltb-true}
use native.Mathlib.Omega.{arith}
use Rattle.language.specs.Limits.{Most, of_check}
use Rattle.language.specs.Lists.{nth, given, map_option, Never, inj}
use Rattle.language.specs.Results.{accept, bind_checked_inv, require_inv}
use Rattle.language.specs.Tree.{DeclaredType, bool, class, Kind, plain, root, state, unknown, Field}
use Rattle.language.specs.Tree.{Declaration, heading_lines, method_lines, Class, class_lines, classes_lines}
use Rattle.language.specs.Tree.{Program}
use Rattle.language.specs.World.{Method, place}
use Rattle.language.specs.Effects.{effect_of_all, within}
use Rattle.language.specs.Program.{declared, class_at, kind_at, is_root, is_root_class, is_state_type, world}
use Rattle.language.specs.Headings.{may_extend, is_some, same_type, same_types, may_override}
use Rattle.language.specs.Headings.{check_fields, check_parameters, check_effects, check_methods, check_class}
use Rattle.language.specs.Headings.{check_classes, headings}
use Rattle.language.specs.Environment.{method_environment, start_environment}
use Rattle.language.specs.Typing.{type_method, type_methods}
use Rattle.language.specs.Typing.{type_classes, bodies}
use Rattle.language.specs.ClassRelations.{TypeDeclared}
use Rattle.language.specs.WellFormed.{Each, each_nil, each_cons}
use Rattle.language.specs.WellFormed.{Extends, plain_object, plain_plain, root_object, root_plain, state_root}
use Rattle.language.specs.WellFormed.{state_state, FieldsWell, well_nil, well_cons, EffectWell, well_none}
use Rattle.language.specs.WellFormed.{well_root, Overrides, first, again, MethodsWell}
use Rattle.language.specs.WellFormed.{methods_nil, methods_cons, ClassesWell, classes_nil, classes_cons}
use Rattle.language.specs.WellFormed.{ProgramWell}
use Rattle.language.proofs.Booleans.{false≢, and_inv, not_true}
use Rattle.theory.proofs.typing.TypingRules.{derive}
use Rattle.theory.proofs.lookups.Superclasses.{kind_over, Hierarchy}
use Rattle.theory.proofs.lookups.LookupsAgree.{place_unnamed, is_undeclared, declared_is}
use Rattle.theory.proofs.lookups.LookupsAgree.{is_field_type, its_fields, finds_is}
use Rattle.theory.proofs.lookups.LookupsAgree.{is_finds}
use Rattle.theory.proofs.typing.RulesAgree.{stated}
use Rattle.theory.proofs.typing.TypesAgree.{is_widens}
use Rattle.theory.proofs.typing.EffectLaws.{lines_within_is}
use Rattle.theory.proofs.lookups.MethodNumbers.{NumberedFrom, first_effect, numbered_rest, numbered_all}
use Rattle.theory.proofs.lookups.MethodNumbers.{numbered_class, numbered_classes}
use Rattle.language.specs.Program.{world_with, methods_of}

some_none : {A : Type 0} (o : Option A) → not (is_some o) ≡ true → o ≡ none
some_none none e = refl
some_none (some a) e = false≢ e

pub extends : (k : Kind) (o : Option Kind) → may_extend k o ≡ true → Extends k o
extends plain none e = plain_object
extends plain (some plain) e = plain_plain
extends plain (some root) e = false≢ e
extends plain (some state) e = false≢ e
extends plain (some (unknown n)) e = false≢ e
extends root none e = root_object
extends root (some plain) e = root_plain
extends root (some root) e = false≢ e
extends root (some state) e = false≢ e
extends root (some (unknown n)) e = false≢ e
extends state none e = false≢ e
extends state (some plain) e = false≢ e
extends state (some root) e = state_root
extends state (some state) e = state_state
extends state (some (unknown n)) e = false≢ e
extends (unknown n) k e = false≢ e

same_type_is : (t u : DeclaredType) → same_type t u ≡ true → t ≡ u
same_type_is bool bool e = refl
same_type_is bool (class d) e = false≢ e
same_type_is (class c) bool e = false≢ e
same_type_is (class c) (class d) e = ap class (eqb-true c d e)

same_types_are : (ts us : List DeclaredType) → same_types ts us ≡ true → ts ≡ us
unfolding same_types
same_types_are [] [] e = refl
same_types_are [] (u ∷ us) e = false≢ e
same_types_are (t ∷ ts) [] e = false≢ e
same_types_are (t ∷ ts) (u ∷ us) e = let p = and_inv (same_type t u) (same_types ts us) e in
    ap₂ (λ (x : DeclaredType) (xs : List DeclaredType). x ∷ xs) (same_type_is t u p.0)
    (same_types_are ts us p.1)

root_kind : (k : Kind) → is_root k ≡ true → k ≡ root
root_kind plain e = false≢ e
root_kind root e = refl
root_kind state e = false≢ e
root_kind (unknown n) e = false≢ e

-- The kind that is found in the superclass is the one that a class extends.
pub kind_found : (P : List Class) (c : Class) → kind_at P c.super ≡ kind_over P c
unfolding kind_at
kind_found P c = go (class_at P c.super)
  where
    go : (o : Option Class)
        → given o none (λ (b : Class). some b.kind) ≡ map_option (λ (b : Class). b.kind) o
    go none = refl
    go (some b) = refl

module _ (P : List Class) where
  pub fields_well : (before : List Field) (at : ℕ) (fs : List Field) (u : Unit {0})
      → check_fields of_check P before at fs ≡ accept u → FieldsWell P before fs
  unfolding check_fields
  fields_well before at [] u q = well_nil
  fields_well before at (f ∷ fs) u q = require_inv _ _ _ _ q λ e₁ q. require_inv _ _ _ _ q λ e₂ q.
      require_inv _ _ _ _ q λ e₃ q. require_inv _ _ _ _ q λ e₄ q.
      well_cons (ltb-true (length before) 17 e₁)
      (is_field_type P f.type ((declared_is P f.type).0 e₂) (not_true (is_state_type P f.type) e₄))
      (place_unnamed f.name before (some_none (place f.name before) e₃))
      (fields_well (before ++ (f ∷ [])) (at + 1) fs u q)

  pub parameters_well : (at : ℕ) (ts : List DeclaredType) (u : Unit {0})
      → check_parameters of_check P at ts ≡ accept u
      → Each (TypeDeclared P) ts
  unfolding check_parameters
  parameters_well at [] u q = each_nil
  parameters_well at (t ∷ ts) u q = require_inv _ _ _ _ q λ e q.
      each_cons ((declared_is P t).0 e) (parameters_well (at + 1) ts u q)

  pub effects_well : (last at : ℕ) (cs : List ℕ) (u : Unit {0})
      → check_effects of_check P last at cs ≡ accept u
      → EffectWell P last cs
  unfolding check_effects is_root_class
  effects_well last at [] u q = well_none
  effects_well last at (c ∷ cs) u q = require_inv _ _ _ _ q λ e₁ q. require_inv _ _ _ _ q λ e₂ q.
      let p = and_inv (given (class_at P c) false λ d. is_root d.kind) (ltb last c) e₂ in
      go (class_at P c) refl p.0 (ltb-true last c p.1) (effects_well c (at + 1) cs u q)
    where
      go : (o : Option Class) → class_at P c ≡ o → given o false (λ d. is_root d.kind) ≡ true → last < c
          → EffectWell P c cs → EffectWell P last (c ∷ cs)
      go none h e l w = false≢ e
      go (some d) h e l w = well_root d h (root_kind d.kind e) l w

  -- Where the pass over headings accepts, the hierarchy is well formed.
  hierarchy_from : (most : Most) (k at : ℕ) (cs : List Class) (u : Unit {0})
      → check_classes most P k at cs ≡ accept u
      → (i : ℕ) (c : Class) → nth cs i ≡ some c → (c.super < i + k) × Extends c.kind (kind_over P c)
  unfolding check_classes check_class nth
  hierarchy_from most k at [] u q i c e = absurd (Never e)
  hierarchy_from most k at (x ∷ cs) u q zero c e = bind_checked_inv _ _ q λ a p q.
      require_inv _ _ _ _ p λ e₁ p.
      require_inv _ _ _ _ p λ e₂ p.
      let s : c.super ≡ x.super = ap (λ (y : Class). y.super) (sym (inj e)) in (
        omega (arith, ltb-true x.super k e₁, s),
        subst (λ (y : Class). Extends y.kind (kind_over P y)) (inj e)
            (subst (Extends x.kind) (kind_found P x) (extends x.kind (kind_at P x.super) e₂)),
      )
  hierarchy_from most k at (x ∷ cs) u q (suc i) c e = bind_checked_inv _ _ q λ a p q.
      let h = hierarchy_from most (suc k) (at + class_lines x) cs u q i c e in (omega (arith, h.0), h.1)

  headings_hierarchy : (most : Most) (u : Unit {0}) → headings most P ≡ accept u → Hierarchy P
  unfolding headings class_at
  headings_hierarchy most u q = record { earlier = λ k c e. (at k c e).0; kinds = λ k c e. (at k c e).1 }
    where
      at : (k : ℕ) (c : Class) → class_at P k ≡ some c → (c.super < k) × Extends c.kind (kind_over P c)
      at zero c e = absurd (Never e)
      at (suc i) c e = let h = hierarchy_from most 1 1 P u q i c e in (omega (arith, h.0), h.1)

  module _ (𝓗 : Hierarchy P) where
    overrides : (super : ℕ) (m : Declaration) (o : Option Method) → (world P).method super m.name ≡ o
        → may_override m o ≡ true → Overrides P super m
    unfolding world world_with
    overrides super m none h e = first (λ o d x. absurd (Never (sym h ∙ finds_is P 𝓗.earlier x)))
    overrides super m (some M) h e = let x = is_finds P 𝓗.earlier super m.name M h in
        let p = and_inv (same_type m.result M.result) _ e in
        let q = and_inv (same_types m.parameters M.parameters) _ p.1 in
        again x.owner x.declaration x.finds
        (same_type_is _ _ p.0 ∙ ap (λ (N : Method). N.result) (sym x.is))
        (same_types_are _ _ q.0 ∙ ap (λ (N : Method). N.parameters) (sym x.is))
        (subst (λ (N : Method). within (effect_of_all m.effects) N.effect ≡ true) (sym x.is)
        (lines_within_is _ _ q.1))

    methods-well : (k super n at : ℕ) (before ms : List Declaration) (u v : Unit {0}) → NumberedFrom P n ms
        → check_methods of_check P super before at ms ≡ accept u
        → type_methods (world P) k n at ms ≡ accept v → MethodsWell P k super before ms
    unfolding check_methods type_methods type_method
    methods-well k super n at before [] u v h q r = methods_nil
    methods-well k super n at before (m ∷ ms) u v h q r =
        require_inv _ _ _ _ q λ e₁ q. require_inv _ _ _ _ q λ e₂ q. require_inv _ _ _ _ q λ e₃ q.
        bind_checked_inv _ _ q λ a e₄ q. bind_checked_inv _ _ q λ b e₅ q. bind_checked_inv _ _ r λ c f r.
        bind_checked_inv _ _ f λ t f₁ f. require_inv _ _ _ _ f λ f₂ f. require_inv _ _ _ _ f λ f₃ f.
        methods_cons (record {
          result = (declared_is P m.result).0 e₁;
          parameters = parameters_well (at + 1) m.parameters a e₄;
          name = is_undeclared m.name before (some_none (declared before m.name) e₂);
          overrides = overrides super m _ refl e₃;
          effects = effects_well 0 (at + 1 + length m.parameters) m.effects b e₅;
          t = t.type;
          γ = t.slots;
          φ = t.effect;
          body = stated P 𝓗 m.body
              (derive (world P) m.body (at + heading_lines m) (method_environment k m.parameters) t f₁);
          body_type = is_widens P 𝓗 t.type m.result f₂;
          body_effect = subst (λ (φ : ℕ). within t.effect φ ≡ true) (first_effect P n m ms h) f₃;
        })
        (methods-well k super (suc n) (at + method_lines m) (m ∷ before) ms u v (numbered_rest P n m ms h) q
        r)

    classes-well : (k n at : ℕ) (cs : List Class) (u v : Unit {0}) → NumberedFrom P n (methods_of cs)
        → check_classes of_check P k at cs ≡ accept u
        → type_classes (world P) k n at cs ≡ accept v → ClassesWell P k cs
    unfolding check_classes check_class type_classes world world_with
    classes-well k n at [] u v h q r = classes_nil
    classes-well k n at (c ∷ cs) u v h q r = bind_checked_inv _ _ q λ a e q. require_inv _ _ _ _ e λ e₁ e.
        require_inv _ _ _ _ e λ e₂ e. bind_checked_inv _ _ e λ b e₃ e.
        bind_checked_inv _ _ r λ d f r.
        classes_cons (record {
          earlier = ltb-true c.super k e₁;
          kind = subst (Extends c.kind) (kind_found P c) (extends c.kind (kind_at P c.super) e₂);
          inherited = (world P).fields c.super;
          inherits = its_fields P 𝓗.earlier c.super;
          fields = fields_well _ (at + 1) c.fields b e₃;
          methods = methods-well k c.super n (at + 1 + length c.fields) [] c.methods a d
              (numbered_class P n c cs h) e f;
        })
        (classes-well (suc k) (n + length c.methods) (at + class_lines c) cs u v
        (numbered_classes P n c cs h) q r)

-- Headings and bodies that are accepted are well formed.
pub program_well : (p : Program) (u v : Unit {0}) → headings of_check p.classes ≡ accept u
    → bodies p ≡ accept v
    → ProgramWell p
unfolding headings bodies
program_well p u v q r = bind_checked_inv _ _ r λ a e r. bind_checked_inv _ _ r λ t f r.
    let P = p.classes in let 𝓗 = headings_hierarchy P of_check u q in
    record {
      classes = classes-well P 𝓗 1 0 1 P u a (numbered_all P) q e;
      t = t.type;
      γ = t.slots;
      φ = t.effect;
      start = stated P 𝓗 p.start (derive (world P) p.start (2 + classes_lines P) start_environment t f);
    }
