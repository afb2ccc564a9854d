-- What the heading pass's acceptance gives by itself, before any body is typed: superclasses come earlier,
-- every type in a heading is declared, X lines name classes, no class has more than 17 fields.
use Rattle.std.specs.Prelude.{◌≡◌, true}
use Rattle.std.proofs.Common.{sym, ap}
use Rattle.std.proofs.Math.Path.{subst}
use Prim.Native.Nat.{ℕ, zero, suc, ◌+◌, ◌≤◌, ◌<◌}
use Rattle.std.proofs.Math.Option.{Option, some}
use Rattle.std.proofs.lemmas.Bool.{false≢true}
use mathlib.Core.List.{List, [], ◌∷◌}
use Rattle.std.proofs.Math.ListN.{length}
use native.Mathlib.Omega.{arith}
use borrow.Author.Tests.{ltb-true}
use Rattle.language.specs.Limits.{of_check}
use Rattle.language.specs.Lists.{nth, Never, inj}
use Rattle.language.specs.Results.{accept, bind_checked_inv, require_inv}
use Rattle.language.specs.Tree.{DeclaredType, Kind, unknown, Field, Declaration, Class, class_lines}
use Rattle.language.specs.Tree.{method_lines}
use Rattle.language.specs.World.{is_declared_type}
use Rattle.language.specs.Program.{is_plain, is_root, is_state, class_at, kind_at, world, world_with}
use Rattle.language.specs.Headings.{check_methods, check_class, check_classes, headings}
use Rattle.language.specs.ClassRelations.{TypeDeclared}
use Rattle.language.specs.WellFormed.{Each, each_nil, each_cons, Extends, plain_object, plain_plain}
use Rattle.language.specs.WellFormed.{root_object, root_plain, state_root, state_state, FieldsWell, well_nil}
use Rattle.language.specs.WellFormed.{well_cons, EffectWell, well_none, well_root}
use Rattle.language.proofs.Classes.{class_count}
use Rattle.theory.proofs.acceptance.AcceptedWell.{extends, fields_well, parameters_well, effects_well}
use Rattle.theory.proofs.lookups.Superclasses.{fields_law}
use Rattle.theory.proofs.lookups.LookupsAgree.{declared_is, field_type_declared}
use Rattle.language.specs.MethodTables.{PlacedMethod}
use Rattle.theory.proofs.lookups.TranslatorLookups.{own_few}
use Rattle.theory.proofs.lookups.LookupLaws.{each_at, each_append}
use Rattle.layout.specs.Found.{Owned}

pub record MethodHeaded (P : List Class) (m : Declaration) : Type 0 where
  pub result : is_declared_type (world P) m.result ≡ true
  pub parameters : Each (TypeDeclared P) m.parameters
  pub effects : EffectWell P 0 m.effects

pub record ClassHeaded (P : List Class) (k : ℕ) (c : Class) : Type 0 where
  pub earlier : c.super < k
  pub kind : Extends c.kind (kind_at P c.super)
  pub fields : FieldsWell P ((world P).fields c.super) c.fields
  pub methods : Each (MethodHeaded P) c.methods

-- ---- of parts

pub declared_nth : (P : List Class) {ts : List DeclaredType} → Each (TypeDeclared P) ts
    → (i : ℕ) (t : DeclaredType)
    → nth ts i ≡ some t → is_declared_type (world P) t ≡ true
declared_nth P ds i t e = (declared_is P t).1 (each_at ds i t e)

-- A kind that may extend another is one of the three.
kind_known : {k : Kind} {o : Option Kind} (n : ℕ) → Extends k o → k ≡ unknown n → ⊥
kind_known n plain_object e = false≢true (sym (ap is_plain e))
kind_known n plain_plain e = false≢true (sym (ap is_plain e))
kind_known n root_object e = false≢true (sym (ap is_root e))
kind_known n root_plain e = false≢true (sym (ap is_root e))
kind_known n state_root e = false≢true (sym (ap is_state e))
kind_known n state_state e = false≢true (sym (ap is_state e))

module _ (P : List Class) where
  pub effects_declared : {last : ℕ} {cs : List ℕ} → EffectWell P last cs
      → Each (λ c. (1 ≤ c) × (c ≤ length P)) cs
  effects_declared well_none = each_nil
  effects_declared (well_root {k} c e r l w) = each_cons (class_count P k c e) (effects_declared w)

  own_declared : {before fs : List Field} → FieldsWell P before fs
      → Each (λ (f : Field). is_declared_type (world P) f.type ≡ true) fs
  own_declared well_nil = each_nil
  own_declared (well_cons {f} a b c w) =
      each_cons ((declared_is P f.type).1 (field_type_declared P b)) (own_declared w)

  methods_headed : (super at : ℕ) (before ms : List Declaration) (u : Unit {0})
      → check_methods of_check P super before at ms ≡ accept u → Each (MethodHeaded P) ms
  unfolding check_methods
  methods_headed super at before [] u q = each_nil
  methods_headed super at before (m ∷ ms) u q =
      require_inv _ _ _ _ q λ e₁ q. require_inv _ _ _ _ q λ e₂ q. require_inv _ _ _ _ q λ e₃ q.
      bind_checked_inv _ _ q λ a e₄ q. bind_checked_inv _ _ q λ b e₅ q.
      each_cons (record {
        result = e₁;
        parameters = parameters_well P (at + 1) m.parameters a e₄;
        effects = effects_well P 0 (at + 1 + length m.parameters) m.effects b e₅;
      }) (methods_headed super (at + method_lines m) (m ∷ before) ms u q)

  classes_headed : (k at : ℕ) (cs : List Class) (u : Unit {0}) → check_classes of_check P k at cs ≡ accept u
      → (i : ℕ) (c : Class) → nth cs i ≡ some c → ClassHeaded P (i + k) c
  unfolding check_classes check_class nth
  classes_headed k at [] u q i c e = absurd (Never e)
  classes_headed k at (x ∷ cs) u q zero c e =
      bind_checked_inv _ _ q λ a p q. require_inv _ _ _ _ p λ e₁ p.
      require_inv _ _ _ _ p λ e₂ p. bind_checked_inv _ _ p λ b e₃ p.
      let z : k ≡ 0 + k = omega arith in
      subst (λ (j : ℕ). ClassHeaded P j c) z (subst (ClassHeaded P k) (inj e) (record {
        earlier = ltb-true x.super k e₁;
        kind = extends x.kind _ e₂;
        fields = fields_well P _ (at + 1) x.fields b e₃;
        methods = methods_headed x.super (at + 1 + length x.fields) [] x.methods a p;
      }))
  classes_headed k at (x ∷ cs) u q (suc i) c e =
      bind_checked_inv _ _ q λ a p q.
      let z : i + suc k ≡ suc i + k = omega arith in
      subst (λ (j : ℕ). ClassHeaded P j c) z (classes_headed (suc k) (at + class_lines x) cs u q i c e)

  -- ---- of a program whose headings are accepted

  module _ (u : Unit {0}) (passed : headings of_check P ≡ accept u) where
    pub class_headed : (k : ℕ) (c : Class) → class_at P k ≡ some c → ClassHeaded P k c
    unfolding class_at headings
    class_headed zero c e = absurd (Never e)
    class_headed (suc i) c e = let z : i + 1 ≡ suc i = omega arith in
        subst (λ (j : ℕ). ClassHeaded P j c) z (classes_headed 1 1 P u passed i c e)

    pub super_lower : (k : ℕ) (c : Class) → class_at P k ≡ some c → c.super < k
    super_lower k c e = (class_headed k c e).earlier

    pub kinds_known : (k n : ℕ) (c : Class) → class_at P k ≡ some c → c.kind ≡ unknown n → ⊥
    kinds_known k n c e = kind_known n (class_headed k c e).kind

    pub fields_few : (k : ℕ) → length ((world P).fields k) ≤ 17
    unfolding world world_with
    fields_few k = fields_law P super_lower (λ fs. length fs ≤ 17) (omega arith)
        (λ k c p l. own_few (class_headed k c p).fields l)
        (suc k) k (omega arith)

    pub field_declared : (k i : ℕ) (f : Field) → nth ((world P).fields k) i ≡ some f
        → is_declared_type (world P) f.type ≡ true
    unfolding world world_with
    field_declared k i f e = each_at
        (fields_law P super_lower (Each (λ (f : Field). is_declared_type (world P) f.type ≡ true)) each_nil
        (λ k c p l. each_append l (own_declared (class_headed k c p).fields)) (suc k) k (omega arith)) i f e

    pub method_headed : (x : PlacedMethod) → Owned P x → MethodHeaded P x.declaration
    method_headed x y =
        each_at (class_headed x.owner y.owning y.is_class).methods y.place x.declaration
        y.there
