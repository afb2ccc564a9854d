-- What the heading and body rules give of lookups, for class lists of any length, so for every class count up
-- to 64 at once: every law on which soundness rests holds in the world of a well-formed program.
use mathlib.Core.Path.{◌≡◌, refl, sym, ap, ◌∙◌, subst}
use Prim.Native.Nat.{ℕ, zero, suc, ◌+◌, ◌<◌}
use mathlib.Core.Option.{Option, none, some}
use mathlib.Core.Bool.{Bool, true, false, cond}
use mathlib.Core.Logic.{◌⊎◌, inl, inr, ◌↔◌, ◌≢◌}
use mathlib.Core.List.{List, [], ◌++◌}
use lib.Dec.{eqb}
use borrow.Author.Tests.{eqb-true}
use native.Mathlib.Omega.{arith}
use Rattle.language.specs.Limits.{object_class}
use Rattle.language.specs.Lists.{nth, given, choice, Never, inj}
use Rattle.language.specs.Tree.{DeclaredType, bool, class, state, Field}
use Rattle.language.specs.Tree.{Declaration, Class, Program}
use Rattle.language.specs.World.{Method}
use Rattle.language.specs.Effects.{effect_of_all, within, member, apply_class, apply}
use Rattle.language.specs.Program.{declared, class_at}
use Rattle.language.specs.Program.{fields_at, method_at, below_at, root_at, world, world_with}
use Rattle.language.specs.ClassRelations.{Subclass, itself, below_object, above, FieldType}
use Rattle.language.specs.ClassRelations.{field_object, field_class}
use Rattle.language.specs.WellFormed.{Each, each_nil, each_cons, FieldsWell, well_nil, well_cons, Overrides}
use Rattle.language.specs.WellFormed.{first, again, MethodWell, MethodsWell, methods_nil, methods_cons}
use Rattle.language.specs.WellFormed.{ClassWell, ClassesWell, classes_nil, classes_cons, ProgramWell}
use Rattle.theory.proofs.soundness.Fitting.{BodyOk, Laws, BodiesOk}
use Rattle.theory.proofs.typing.EffectLaws.{within_refl, within_trans}
use Rattle.theory.proofs.lookups.Superclasses.{one_class, no_class, object_is_no_class, Hierarchy}
use Rattle.theory.proofs.lookups.Superclasses.{subclass_trans}
use Rattle.theory.proofs.lookups.Superclasses.{test_subclass, subclass_test}
use Rattle.theory.proofs.lookups.Superclasses.{nearest_least, fields_prefix, root_is, root_subclass}
use Rattle.theory.proofs.lookups.Superclasses.{root_of_other, root_up, root_same}
use Rattle.theory.proofs.lookups.LookupsAgree.{fields_are, method_of_class, no_class_no_method, finds_is}
use Rattle.theory.proofs.lookups.LookupsAgree.{is_finds, is_change, Finds}
use Rattle.theory.proofs.typing.RulesAgree.{computed}
use Rattle.theory.proofs.typing.TypesAgree.{widens_is}
use Rattle.language.specs.Program.{body_in, effect_in}
use Rattle.theory.proofs.lookups.MethodNumbers.{method_as, own_method}
use Rattle.theory.proofs.lookups.LookupsAgree.{declarer, world_finds, finds_body}

-- What holds of each of a list holds at each place.
pub each_at : {A : Type 0} {R : A → Type 0} {l : List A} → Each R l → (i : ℕ) (a : A) → nth l i ≡ some a → R a
unfolding nth
each_at each_nil i a e = absurd (Never e)
each_at {R = R} (each_cons r rs) zero a e = subst R (inj e) r
each_at (each_cons r rs) (suc i) a e = each_at rs i a e

pub each_append : {A : Type 0} {R : A → Type 0} {l m : List A} → Each R l → Each R m → Each R (l ++ m)
each_append each_nil s = s
each_append (each_cons r rs) s = each_cons r (each_append rs s)

-- The class of each number is well formed.
class_well_from : (P : List Class) {k : ℕ} {cs : List Class} → ClassesWell P k cs → (i : ℕ) (c : Class)
    → nth cs i ≡ some c → ClassWell P (i + k) c
unfolding nth
class_well_from P classes_nil i c e = absurd (Never e)
class_well_from P {k} (classes_cons w ws) zero c e =
    let z : k ≡ 0 + k = omega arith in subst (λ (n : ℕ). ClassWell P n c) z (subst (ClassWell P k) (inj e) w)
class_well_from P {k} (classes_cons w ws) (suc i) c e =
    let z : i + suc k ≡ suc i + k = omega arith in
    subst (λ (n : ℕ). ClassWell P n c) z (class_well_from P ws i c e)

pub class_well : (P : List Class) → ClassesWell P 1 P → (k : ℕ) (c : Class) → class_at P k ≡ some c
    → ClassWell P k c
unfolding class_at
class_well P w zero c e = absurd (Never e)
class_well P w (suc i) c e =
    let z : i + 1 ≡ suc i = omega arith in subst (λ (n : ℕ). ClassWell P n c) z (class_well_from P w i c e)

-- The hierarchy of well-formed classes is well formed.
pub hierarchy : (P : List Class) → ClassesWell P 1 P → Hierarchy P
hierarchy P w = record {
  earlier = λ k c e. (class_well P w k c e).earlier;
  kinds = λ k c e. (class_well P w k c e).kind;
}

module _ (P : List Class) (𝓗 : Hierarchy P) where
  -- A class's own fields follow those that are found in its superclass.
  pub fields_follow : {k : ℕ} {c : Class} → ClassWell P k c
      → FieldsWell P ((world P).fields c.super) c.fields
  unfolding world world_with
  fields_follow {c} w = subst (λ (l : List Field). FieldsWell P l c.fields)
      (sym (fields_are P 𝓗.earlier w.inherits)) w.fields

  -- What an overriding method has in common with the one that is found in the superclass.
  pub overridden : {super : ℕ} {m : Declaration} (M : Method) → Overrides P super m
      → (world P).method super m.name ≡ some M
      → (m.parameters ≡ M.parameters) × (m.result ≡ M.result)
      × (within (effect_of_all m.effects) M.effect ≡ true)
  unfolding world world_with
  overridden {super} {m} M (first f) e = let x = is_finds P 𝓗.earlier super m.name M e in
      absurd (f x.owner x.declaration x.finds)
  overridden {m} M (again o d x r p w) e = let q = inj (sym (finds_is P 𝓗.earlier x) ∙ e) in (
    p ∙ ap (λ (N : Method). N.parameters) q,
    r ∙ ap (λ (N : Method). N.result) q,
    subst (λ (N : Method). within (effect_of_all m.effects) N.effect ≡ true) q w,
  )

-- A method declared under a name is one of the well-formed methods, and of that name.
pub record WellDeclared (P : List Class) (k super m : ℕ) (d : Declaration) : Type 0 where
  pub before : List Declaration
  pub well : MethodWell P k super before d
  pub name : d.name ≡ m

pub well_declared : (P : List Class) (k super : ℕ) {before ms : List Declaration}
    → MethodsWell P k super before ms
    → (m : ℕ) (d : Declaration) → declared ms m ≡ some d → WellDeclared P k super m d
unfolding declared
well_declared P k super methods_nil m d e = absurd (Never e)
well_declared P k super {before} (methods_cons {ms} {m = x} w ws) m d e =
    go (eqb x.name m) refl (λ q. well_declared P k super ws m d q) e
  where
    go : (b : Bool) → eqb x.name m ≡ b → (declared ms m ≡ some d → WellDeclared P k super m d)
        → choice b (λ _. some x) (λ _. declared ms m) ≡ some d → WellDeclared P k super m d
    go true q ih e = subst (WellDeclared P k super m) (inj e)
        (record { before = before; well = w; name = eqb-true x.name m q })
    go false q ih e = ih e

module _ (P : List Class) (well : (k : ℕ) (c : Class) → class_at P k ≡ some c → ClassWell P k c) where
  -- Superclasses come before their classes.
  abbrev pub superclass_earlier : (k : ℕ) (c : Class) → class_at P k ≡ some c → c.super < k
  superclass_earlier k c p = (well k c p).earlier

  pub ordered : Hierarchy P
  ordered = record { earlier = superclass_earlier; kinds = λ k c p. (well k c p).kind }

  -- Down from a class that has a method, each class has one with the same heading and an effect within.
  Inherited : (c m : ℕ) (M : Method) → Type 0
  Inherited c m M = (N : Method) × (method_at P (effect_in P) (suc c) c m ≡ some N)
      × (N.parameters ≡ M.parameters)
      × (N.result ≡ M.result) × (within N.effect M.effect ≡ true)

  inherited : {c d : ℕ} → Subclass P c d → (m : ℕ) (M : Method)
      → method_at P (effect_in P) (suc d) d m ≡ some M
      → Inherited c m M
  unfolding Inherited world world_with
  inherited itself m M e = (M, e, refl, refl, within_refl M.effect)
  inherited (below_object p) m M e =
      absurd (Never (sym (no_class_no_method P superclass_earlier object_class m (object_is_no_class P)) ∙ e))
  inherited {c = k} (above c p r) m M e = go (inherited r m M e) (declared c.methods m) refl
    where
      go : Inherited c.super m M → (o : Option Declaration) → declared c.methods m ≡ o → Inherited k m M
      go x none q = (x.0, method_of_class P superclass_earlier k m c p ∙ rw q x.1, x.2, x.3, x.4)
      go x (some d) q = let w = well_declared P k c.super (well k c p).methods m d q in
          let y = overridden P ordered x.0 w.well.overrides
          (ap (λ (n : ℕ). method_at P (effect_in P) (suc c.super) c.super n) w.name ∙ x.1) in (
            method_as P k d,
            method_of_class P superclass_earlier k m c p ∙ rw q (ap some (own_method P k m c d p q)),
            y.0 ∙ x.2,
            y.1 ∙ x.3,
            within_trans (effect_of_all d.effects) x.0.effect M.effect y.2 x.4,
          )

  -- The body of every method that is found is typed as its heading says.
  found_body : (k m : ℕ) (M : Method) → Finds P k m M → BodyOk (world P) (body_in P) M
  found_body k m M x =
      let y = declarer P x.finds in
      let w = (well_declared P x.owner y.owning.super (well x.owner y.owning y.there).methods
      m x.declaration y.declares).well in
      subst (BodyOk (world P) (body_in P)) x.is (record {
        ty = w.t;
        env = w.γ;
        eff = w.φ;
        types = rw (finds_body P x.finds) (computed P ordered x.declaration.body w.body);
        fits_ret = widens_is P ordered w.body_type;
        inside = w.body_effect;
      })

  -- No field has a state class as its type, so no effect changes the type of a field.
  own_fields_typed : {before fs : List Field} → FieldsWell P before fs
      → Each (λ (f : Field). FieldType P f.type) fs
  own_fields_typed well_nil = each_nil
  own_fields_typed (well_cons a b c w) = each_cons b (own_fields_typed w)

  fields_typed : (n k : ℕ) → Each (λ (f : Field). FieldType P f.type) (fields_at P n k)
  unfolding fields_at
  fields_typed zero k = each_nil
  fields_typed (suc n) k = go (class_at P k) refl (λ c. fields_typed n c.super)
    where
      go : (o : Option Class) → class_at P k ≡ o
          → ((c : Class) → Each (λ (f : Field). FieldType P f.type) (fields_at P n c.super))
          → Each (λ (f : Field). FieldType P f.type)
          (given o [] λ c. fields_at P n c.super ++ c.fields)
      go none e ih = each_nil
      go (some c) e ih = each_append (ih c) (own_fields_typed (well k c e).fields)

  no_state_class : {k : ℕ} → FieldType P (class k) → (c : Class) → class_at P k ≡ some c → c.kind ≢ state
  no_state_class field_object c p = no_class (object_is_no_class P) p
  no_state_class (field_class b q s) c p = subst (λ (x : Class). x.kind ≢ state) (one_class q p) s

  steady_type : (φ : ℕ) (t : DeclaredType) → FieldType P t → apply (world P) φ t ≡ t
  unfolding apply_class world world_with
  steady_type φ bool x = refl
  steady_type φ (class k) x = ap class (own (root_at P (suc k) k)
      (root_of_other P superclass_earlier (no_state_class x) (root_is P superclass_earlier k)))
    where
      same : (b : Bool) → cond b k k ≡ k
      same true = refl
      same false = refl

      own : (r : ℕ) → r ≡ k → cond (member φ r) r k ≡ k
      own r q = rw q (same (member φ k))

  up_law : (c d : ℕ) → below_at P (suc c) c d ≡ true → (root_at P (suc d) d ≡ root_at P (suc c) c)
      ⊎ ((root_at P (suc d) d ≡ d) × (below_at P (suc (root_at P (suc c) c)) (root_at P (suc c) c) d ≡ true))
  up_law c d e = elim (root_up P superclass_earlier ordered.kinds
      (test_subclass P superclass_earlier e)
      (root_is P superclass_earlier c) (root_is P superclass_earlier d))
      [ inl p ↦ inl p | inr p ↦ inr (p.0, subclass_test P superclass_earlier p.1) ]

  classes_laws : Laws (world P)
  unfolding world world_with Inherited
  classes_laws = record {
    sub_refl = λ c. subclass_test P superclass_earlier itself;
    sub_trans = λ c d e s t. subclass_test P superclass_earlier
        (subclass_trans P (test_subclass P superclass_earlier s) (test_subclass P superclass_earlier t));
    sub_root = λ c. subclass_test P superclass_earlier
        (root_subclass P superclass_earlier (root_is P superclass_earlier c));
    up = λ c d s. up_law c d s;
    fickle_root = λ c d s h. root_same P superclass_earlier ordered.kinds
        (test_subclass P superclass_earlier s) (is_change P d h)
        (root_is P superclass_earlier c) (root_is P superclass_earlier d);
    prefix = λ c d s. fields_prefix P superclass_earlier (test_subclass P superclass_earlier s);
    solid = λ c i f e φ. steady_type φ f.type (each_at (fields_typed (suc c) c) i f e);
    lub_left = λ c d. subclass_test P superclass_earlier (nearest_least P superclass_earlier c d).left;
    lub_right = λ c d. subclass_test P superclass_earlier (nearest_least P superclass_earlier c d).right;
    override = λ c d m M s e. inherited (test_subclass P superclass_earlier s) m M e;
    owned = λ c m M e. let x = is_finds P superclass_earlier c m M e in subclass_test P superclass_earlier
        (subst (λ (N : Method). Subclass P c N.owner) x.is (declarer P x.finds).subclass);
  }

  classes_bodies : BodiesOk (world P) (body_in P)
  classes_bodies =
      record { each = λ c m M e. found_body c m M (world_finds P superclass_earlier c m M e) }

-- In the world of a well-formed program every law holds on which soundness rests.
pub well_formed_laws : (p : Program) → ProgramWell p → Laws (world p.classes)
well_formed_laws p w = classes_laws p.classes (class_well p.classes w.classes)

-- In it the body of every method that a lookup finds is typed as its heading says.
pub well_formed_bodies : (p : Program) → ProgramWell p
    → BodiesOk (world p.classes) (body_in p.classes)
well_formed_bodies p w = classes_bodies p.classes (class_well p.classes w.classes)

-- The subclass test of a well-formed program is Figure 20's subclass relation.
pub below_is_subclass : (p : Program) → ProgramWell p → (c d : ℕ)
    → ((world p.classes).below c d ≡ true) ↔ Subclass p.classes c d
unfolding world world_with
below_is_subclass p w c d = let P = p.classes in
    let earlier = (hierarchy P w.classes).earlier in
    ((λ e. test_subclass P earlier e), (λ s. subclass_test P earlier s))
