-- What is looked up in the classes of a plain program is what its source's classes give: they make a plain
-- world.
use mathlib.Core.Path.{◌≡◌, refl, sym, ap, ◌∙◌, subst}
use Prim.Native.Nat.{ℕ, zero, suc, ◌+◌, ◌-◌, ◌≤◌, ◌<◌}
use mathlib.Core.Option.{Option, none, some}
use mathlib.Core.Bool.{Bool, true, false}
use mathlib.Core.Logic.{◌⊎◌, inl, inr}
use mathlib.Core.List.{List, [], ◌∷◌, map, map-append}
use lib.ListN.{length, take, length-map, length-append}
use lib.Dec.{eqb, eqb-zero-suc, eqb-suc-zero, eqb-suc-suc}
use borrow.Author.Tests.{eq-eqb, leb-true}
use native.Mathlib.Omega.{arith}
use Rattle.language.specs.Limits.{object_class}
use Rattle.language.specs.Lists.{nth, given, choice, map_option, up, up_suc, nth_some, Never, inj}
use Rattle.language.specs.Tree.{plain, Declaration, Class, Program}
use Rattle.language.specs.World.{World, Method}
use Rattle.language.specs.Effects.{effect_of_all}
use Rattle.language.specs.Program.{method_of, declared, class_at, fields_at, method_at, below_at, root_at}
use Rattle.language.specs.Program.{nearest_at, is_changeable, world, world_with, effect_in, number_at}
use Rattle.language.specs.WellFormed.{Extends, plain_object, plain_plain, ClassesWell}
use Rattle.language.specs.Translation.{plain_class, plain_field, plain_method, plain_classes, identity}
use Rattle.language.specs.Translation.{fickle_object, plain_program, plain_body}
use Rattle.language.proofs.Booleans.{or_inr}
use Rattle.theory.proofs.lookups.Superclasses.{object_is_no_class, Hierarchy}
use Rattle.theory.proofs.lookups.MethodNumbers.{own_effect, own_body}
use Rattle.theory.proofs.lookups.LookupLaws.{hierarchy}
use Rattle.theory.proofs.lookups.LookupsAgree.{world_finds, Finds, declarer}
use Rattle.theory.proofs.translation.PlainWorld.{imp_of_identity, id_of_implementor, plain_form, IsPlain}
use Rattle.theory.proofs.translation.PlainWorld.{PlainBodies}
use Rattle.theory.proofs.translation.PlainOf.{PlainOf, plain_of_is_plain}
use Rattle.language.specs.Program.{declared_place, methods_of, body_in}

pub up_one : (i : ℕ) → up i 1 ≡ suc i
up_one zero = refl
up_one (suc i) = ap suc (up_one i)

-- Every class is below Object.
pub below_top : (P : List Class) (n k : ℕ) → below_at P n k object_class ≡ true
unfolding below_at
below_top P zero k = refl
below_top P (suc n) k = or_inr (eqb k 0) _ (go (class_at P k) (λ j. below_top P n j))
  where
    go : (o : Option Class) → ((j : ℕ) → below_at P n j object_class ≡ true)
        → given o true (λ c. below_at P n c.super object_class) ≡ true
    go none ih = refl
    go (some c) ih = ih c.super

module _ (W : World) where
  -- Class k as its plain class.
  abbrev pub plain_one : ℕ → Class → Class
  plain_one k c = record {
    kind = plain;
    super = plain_class c.super;
    fields = map plain_field c.fields;
    methods = map (plain_method W k) c.methods;
  }

  -- The class at a place, and how many there are.
  pub nth_plain : (j : ℕ) (cs : List Class) (i : ℕ)
      → nth (plain_classes W j cs) i ≡ map_option (plain_one (up i j)) (nth cs i)
  unfolding nth plain_classes
  nth_plain j [] i = refl
  nth_plain j (c ∷ cs) zero = refl
  nth_plain j (c ∷ cs) (suc i) = rw (← up_suc i j) (nth_plain (suc j) cs i)

  pub length_plain : (j : ℕ) (cs : List Class) → length (plain_classes W j cs) ≡ length cs
  unfolding plain_classes
  length_plain j [] = refl
  length_plain j (c ∷ cs) = ap suc (length_plain (suc j) cs)

  -- A method sought by name among the plain ones.
  declared_plain : (k : ℕ) (ds : List Declaration) (m : ℕ)
      → declared (map (plain_method W k) ds) m ≡ map_option (plain_method W k) (declared ds m)
  unfolding declared
  declared_plain k [] m = refl
  declared_plain k (d ∷ ds) m = go (eqb d.name m) (declared_plain k ds m)
    where
      go : (b : Bool) → declared (map (plain_method W k) ds) m ≡ map_option (plain_method W k) (declared ds m)
          → choice b (λ _. some (plain_method W k d)) (λ _. declared (map (plain_method W k) ds) m)
          ≡ map_option (plain_method W k) (choice b (λ _. some d) (λ _. declared ds m))
      go true h = refl
      go false h = h

  -- A plain method stands where its source stands, among those of its class and of all classes.
  place_plain : (k : ℕ) (ds : List Declaration) (m : ℕ)
      → declared_place (map (plain_method W k) ds) m ≡ declared_place ds m
  unfolding declared_place
  place_plain k [] m = refl
  place_plain k (d ∷ ds) m =
      ap (λ o. choice (eqb d.name m) (λ _. some 0) (λ _. map_option suc o)) (place_plain k ds m)

  methods_before : (j : ℕ) (cs : List Class) (i : ℕ)
      → length (methods_of (take i (plain_classes W j cs))) ≡ length (methods_of (take i cs))
  unfolding methods_of plain_classes
  methods_before j cs zero = refl
  methods_before j [] (suc i) = refl
  methods_before j (c ∷ cs) (suc i) = omega (
    arith,
    methods_before (suc j) cs i,
    length-map c.methods (plain_method W j),
    length-append (map (plain_method W j) c.methods) (methods_of (take i (plain_classes W (suc j) cs))),
    length-append c.methods (methods_of (take i cs)),
  )

-- The classes of the plain program.
abbrev pub plain_list : List Class → List Class
plain_list P = identity ∷ fickle_object ∷ plain_classes (world P) 1 P

module _ (P : List Class) (𝓗 : Hierarchy P) where
  abbrev W : World
  W = world P

  abbrev Q : List Class
  Q = plain_list P

  -- Class k + 2 there is the plain form of class k.
  pub class_plain : (i : ℕ)
      → class_at Q (suc (suc (suc i))) ≡ map_option (plain_one W (suc i)) (class_at P (suc i))
  unfolding class_at nth
  class_plain i = nth_plain W 1 P i ∙ ap (λ (k : ℕ). map_option (plain_one W k) (nth P i)) (up_one i)

  pub class_none : (i : ℕ) → class_at P (suc i) ≡ none → class_at Q (suc (suc (suc i))) ≡ none
  class_none i e = class_plain i ∙ ap (map_option (plain_one W (suc i))) e

  pub class_some : (i : ℕ) (c : Class) → class_at P (suc i) ≡ some c
      → class_at Q (suc (suc (suc i))) ≡ some (plain_one W (suc i) c)
  class_some i c e = class_plain i ∙ ap (map_option (plain_one W (suc i))) e

  class_within : (i : ℕ) → suc i ≤ length P → (c : Class) × (class_at P (suc i) ≡ some c)
  unfolding class_at
  class_within i p = nth_some P i p

  -- Fields, found in n steps up through the superclasses; FickleObject stands where Object stood.
  zero_fields : (n : ℕ)
      → fields_at Q (suc (suc (suc n))) 2 ≡ id_of_implementor ∷ map plain_field (fields_at P (suc n) 0)
  unfolding fields_at class_at nth
  zero_fields n = refl

  fields_agree : (n k : ℕ) → k < n → k ≤ length P
      → fields_at Q (suc (suc n)) (suc (suc k)) ≡ id_of_implementor ∷ map plain_field (fields_at P n k)
  unfolding fields_at
  fields_agree zero k p q = absurd (omega arith)
  fields_agree (suc n) zero p q = zero_fields n
  fields_agree (suc n) (suc i) p q =
      let x = class_within i q in let c = x.0 in let l = 𝓗.earlier (suc i) c x.1 in
      rw (class_some i c x.1, x.1, fields_agree n c.super (omega arith) (omega arith))
      (ap (λ r. id_of_implementor ∷ r) (sym (map-append plain_field (fields_at P n c.super) c.fields)))

  -- A plain method has the number of its source.
  number_plain : (i m : ℕ) → number_at Q (suc (suc (suc i))) m ≡ number_at P (suc i) m
  unfolding number_at methods_of
  number_plain i m =
      let z : suc (suc (suc i)) - 1 ≡ suc (suc i) = omega arith in
      let z' : suc i - 1 ≡ i = omega arith in
      rw (z, z', methods_before W 1 P i, class_plain i)
      (ap (λ n. length (methods_of (take i P)) + n) (go (class_at P (suc i))))
    where
      go : (o : Option Class)
          → given (map_option (plain_one W (suc i)) o) 0
          (λ c. given (declared_place c.methods m) 0 λ n. n)
          ≡ given o 0 (λ c. given (declared_place c.methods m) 0 λ n. n)
      go none = refl
      go (some c) = ap (λ o. given o 0 λ n. n) (place_plain W (suc i) c.methods m)

  -- Methods.
  zero_method : (n m : ℕ)
      → method_at Q (effect_in Q) (suc (suc (suc n))) 2 m
      ≡ map_option plain_form (method_at P (effect_in P) (suc n) 0 m)
  unfolding method_at class_at nth declared
  zero_method n m = refl

  method_agrees : (n k m : ℕ) → k < n
      → method_at Q (effect_in Q) (suc (suc n)) (suc (suc k)) m
      ≡ map_option plain_form (method_at P (effect_in P) n k m)
  unfolding method_at effect_of_all
  method_agrees zero k m p = absurd (omega arith)
  method_agrees (suc n) zero m p = zero_method n m
  method_agrees (suc n) (suc i) m p = go (class_at P (suc i)) refl (λ k q. method_agrees n k m q)
    where
      found : (c : Class) → class_at P (suc i) ≡ some c → (o : Option Declaration)
          → declared c.methods m ≡ o
          → method_at Q (effect_in Q) (suc (suc n)) (plain_class c.super) m
          ≡ map_option plain_form (method_at P (effect_in P) n c.super m)
          → given (map_option (plain_method W (suc i)) o)
          (method_at Q (effect_in Q) (suc (suc n)) (plain_class c.super) m)
          (λ d. some (method_of Q (effect_in Q) (suc (suc (suc i))) d))
          ≡ map_option plain_form (given o (method_at P (effect_in P) n c.super m)
          (λ d. some (method_of P (effect_in P) (suc i) d)))
      found c e none q h = h
      found c e (some d) q h = rw (
        own_effect Q (suc (suc (suc i))) m (plain_one W (suc i) c) (plain_method W (suc i) d)
            (class_some i c e)
            (declared_plain W (suc i) c.methods m ∙ ap (map_option (plain_method W (suc i))) q),
        number_plain i d.name,
      )

      go : (o : Option Class) → class_at P (suc i) ≡ o
          → ((k : ℕ) → k < n → method_at Q (effect_in Q) (suc (suc n)) (suc (suc k)) m ≡ map_option plain_form
          (method_at P (effect_in P) n k m))
          → method_at Q (effect_in Q) (suc (suc (suc n))) (suc (suc (suc i))) m
          ≡ map_option plain_form (method_at P (effect_in P) (suc n) (suc i) m)
      go none e ih = rw (class_none i e, e)
      go (some c) e ih = let l = 𝓗.earlier (suc i) c e in
          rw (class_some i c e, e, declared_plain W (suc i) c.methods m)
          (found c e (declared c.methods m) refl (ih c.super (omega arith)))

  -- Superclasses.
  two_eqb : (k d : ℕ) → eqb (suc (suc k)) (suc (suc d)) ≡ eqb k d
  two_eqb k d = eqb-suc-suc (suc k) (suc d) ∙ eqb-suc-suc k d

  zero_below : (n d : ℕ) → below_at Q (suc (suc (suc n))) 2 (suc (suc d)) ≡ below_at P (suc n) 0 d
  unfolding below_at class_at nth
  zero_below n zero = refl
  zero_below n (suc d) = rw (
    two_eqb 0 (suc d),
    eqb-zero-suc d,
    eqb-suc-zero d,
    eqb-zero-suc (suc (suc d)),
    eqb-suc-zero (suc (suc d)),
  )

  below_agrees : (n k d : ℕ) → k < n → k ≤ length P
      → below_at Q (suc (suc n)) (suc (suc k)) (suc (suc d)) ≡ below_at P n k d
  unfolding below_at
  below_agrees zero k d p q = absurd (omega arith)
  below_agrees (suc n) zero d p q = zero_below n d
  below_agrees (suc n) (suc i) d p q =
      let x = class_within i q in let c = x.0 in let l = 𝓗.earlier (suc i) c x.1 in
      rw (
        class_some i c x.1,
        x.1,
        below_agrees n c.super d (omega arith) (omega arith),
        two_eqb (suc i) d,
      )

  -- Every class of the plain program is plain.
  plain_kind : (k : ℕ)
      → (class_at Q k ≡ none) ⊎ ((c : Class) × (class_at Q k ≡ some c) × (c.kind ≡ plain))
  unfolding class_at nth
  plain_kind zero = inl refl
  plain_kind (suc zero) = inr (identity, refl, refl)
  plain_kind (suc (suc zero)) = inr (fickle_object, refl, refl)
  plain_kind (suc (suc (suc i))) = go (class_at P (suc i)) refl
    where
      go : (o : Option Class) → class_at P (suc i) ≡ o
          → (class_at Q (suc (suc (suc i))) ≡ none)
          ⊎ ((c : Class) × (class_at Q (suc (suc (suc i))) ≡ some c) × (c.kind ≡ plain))
      go none e = inl (class_none i e)
      go (some c) e = inr (plain_one W (suc i) c, class_some i c e, refl)

  -- Its hierarchy is well formed.
  pub extends_plain : (k : ℕ) → Extends plain (map_option (λ (b : Class). b.kind) (class_at Q k))
  extends_plain k = elim (plain_kind k) [ inl e ↦ rw e plain_object | inr h ↦ rw (h.1, h.2) plain_plain ]

  earlier_plain : (k : ℕ) (c : Class) → class_at Q k ≡ some c → (c.kind ≡ plain) × (c.super < k)
  unfolding class_at nth
  earlier_plain zero c e = absurd (Never e)
  earlier_plain (suc zero) c e = rw (← inj e) (refl, omega arith)
  earlier_plain (suc (suc zero)) c e = rw (← inj e) (refl, omega arith)
  earlier_plain (suc (suc (suc i))) c e = go (class_at P (suc i)) refl (sym (class_plain i) ∙ e)
    where
      go : (o : Option Class) → class_at P (suc i) ≡ o → map_option (plain_one W (suc i)) o ≡ some c
          → (c.kind ≡ plain) × (c.super < suc (suc (suc i)))
      go none p e = absurd (Never e)
      go (some b) p e = rw (← inj e) (refl, omega (arith, 𝓗.earlier (suc i) b p))

  pub hierarchy_plain : Hierarchy Q
  hierarchy_plain = record {
    earlier = λ k c e. (earlier_plain k c e).1;
    kinds = λ k c e. rw (earlier_plain k c e).0 (extends_plain c.super);
  }

  -- So each class is its own root, none can change, and each is nearest to itself.
  root_itself : (k : ℕ) → root_at Q (suc k) k ≡ k
  unfolding root_at
  root_itself k = elim (plain_kind k) [ inl e ↦ rw e | inr h ↦ rw (h.1, h.2) ]

  never_changeable : (k : ℕ) → is_changeable Q k ≡ false
  unfolding is_changeable
  never_changeable k = elim (plain_kind k) [ inl e ↦ rw e | inr h ↦ rw (h.1, h.2) ]

  nearest_itself : (k : ℕ) → nearest_at Q (suc k) k k ≡ k
  unfolding nearest_at below_at
  nearest_itself k = rw (eq-eqb k k refl)

  -- The nearest common superclass of two classes; it is found below Object at the latest.
  nearest_agrees : (n k d : ℕ) → k < n → k ≤ length P → d ≤ length P
      → nearest_at Q (suc (suc n)) (suc (suc k)) (suc (suc d)) ≡ suc (suc (nearest_at P n k d))
  unfolding nearest_at
  nearest_agrees zero k d p q r = absurd (omega arith)
  nearest_agrees (suc n) zero d p q r =
      rw (below_agrees (suc d) d zero (omega arith) r, below_top P (suc d) d)
  nearest_agrees (suc n) (suc i) d p q r =
      let x = class_within i q in let c = x.0 in let l = 𝓗.earlier (suc i) c x.1 in
      rw (below_agrees (suc d) d (suc i) (omega arith) r, class_some i c x.1, x.1)
      (go (below_at P (suc d) d (suc i)) c (nearest_agrees n c.super d (omega arith) (omega arith) r))
    where
      go : (b : Bool) (c : Class)
          → nearest_at Q (suc (suc n)) (suc (suc c.super)) (suc (suc d))
          ≡ suc (suc (nearest_at P n c.super d))
          → choice b (λ _. suc (suc (suc i)))
          (λ _. nearest_at Q (suc (suc n)) (suc (suc c.super)) (suc (suc d)))
          ≡ suc (suc (choice b (λ _. suc i) (λ _. nearest_at P n c.super d)))
      go true c h = refl
      go false c h = h

  identity_case : fields_at Q 2 1 ≡ imp_of_identity ∷ []
  unfolding fields_at class_at nth
  identity_case = refl

  -- The lookups of a plain program are those of the plain world.
  pub lookups_plain : PlainOf (world P) (world (plain_list P))
  unfolding world world_with below_at
  lookups_plain = record {
    count = ap (λ (n : ℕ). suc (suc n)) (length_plain (world P) 1 P);
    identity_fields = identity_case;
    fields = λ c d. fields_agree (suc c) c (omega arith) (leb-true c (length P) d);
    method = λ c m. method_agrees (suc c) c m (omega arith);
    below = λ c d e. below_agrees (suc c) c d (omega arith) (leb-true c (length P) e);
    below_identity = refl;
    root = λ c. root_itself c;
    changeable = λ c. never_changeable c;
    nearest = λ c d i j.
        nearest_agrees (suc c) c d (omega arith) (leb-true c (length P) i) (leb-true d (length P) j);
    makes = λ c e. e;
    nearest_same = λ c. nearest_itself c;
  }

  -- The body of a plain method is the translation of its source's body.
  bodies_plain : PlainBodies (world P) (body_in P) (body_in Q)
  bodies_plain = record { each = λ k m M e. go m M (world_finds P 𝓗.earlier k m M e) }
    where
      at : (m o : ℕ) (c : Class) (d : Declaration) → class_at P o ≡ some c → declared c.methods m ≡ some d
          → body_in Q (number_at P o d.name)
          ≡ plain_body W o d.parameters (body_in P (number_at P o d.name))
      at m zero c d e q = absurd (Never (sym (object_is_no_class P) ∙ e))
      at m (suc i) c d e q = rw (own_body P (suc i) m c d e q, ← number_plain i d.name)
          (own_body Q (suc (suc (suc i))) m (plain_one W (suc i) c) (plain_method W (suc i) d)
          (class_some i c e)
          (declared_plain W (suc i) c.methods m ∙ ap (map_option (plain_method W (suc i))) q))

      go : (m : ℕ) (M : Method) {k : ℕ} → Finds P k m M
          → body_in Q M.number ≡ plain_body W M.owner M.parameters (body_in P M.number)
      go m M x = let y = declarer P x.finds in subst
          (λ (N : Method). body_in Q N.number ≡ plain_body W N.owner N.parameters
          (body_in P N.number))
          x.is (at m x.owner y.owning x.declaration y.there y.declares)

-- The world of the plain form of a program with well-formed classes is the plain form of the program's world.
pub plain_program_is_plain : (p : Program) → ClassesWell p.classes 1 p.classes
    → IsPlain (world p.classes) (world (plain_program p).classes)
unfolding plain_program
plain_program_is_plain p w =
    plain_of_is_plain _ _ (lookups_plain p.classes (hierarchy p.classes w))

-- Its bodies are the translations of the program's bodies.
pub plain_program_bodies : (p : Program) → ClassesWell p.classes 1 p.classes
    → PlainBodies (world p.classes) (body_in p.classes) (body_in (plain_program p).classes)
unfolding plain_program
plain_program_bodies p w = bodies_plain p.classes (hierarchy p.classes w)
