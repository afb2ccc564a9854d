-- Laws of methods by number, and of what the world of a program is made of. Assumes nothing.
use mathlib.Core.Path.{◌≡◌, refl, ap}
use mathlib.Core.Bool.{Bool, true, false, ◌||◌}
use mathlib.Core.Option.{Option, none, some}
use mathlib.Core.List.{List, [], ◌∷◌, ◌++◌, map}
use Prim.Native.Nat.{ℕ, zero, suc, ◌+◌, ◌-◌}
use native.Mathlib.Omega.{arith}
use borrow.Author.Tests.{eqb-true}
use lib.Dec.{eqb, leb}
use lib.ListN.{length, take, length-append}
use Rattle.language.specs.Lists.{nth, given, choice, map_option, Never, inj, nth_append}
use Rattle.language.specs.Tree.{Declaration, Class}
use Rattle.language.specs.Effects.{effect_of_all}
use Rattle.language.specs.Program.{declared, declared_place, methods_of, class_at, number_at, effect_in}
use Rattle.language.specs.Program.{body_in, fields_at, below_at, class_heading, method_of}
use Rattle.language.specs.Program.{is_changeable}
use Rattle.language.specs.Program.{heading, world_with, nearest_at, method_at, root_at, is_state}

-- A declaration that is found has the name, and stands at its place.
pub record Placed (ds : List Declaration) (m : ℕ) (d : Declaration) : Type 0 where
  pub place : ℕ
  pub is : declared_place ds m ≡ some place
  pub there : nth ds place ≡ some d
  pub name : d.name ≡ m

pub declared_there : (ds : List Declaration) (m : ℕ) (d : Declaration) → declared ds m ≡ some d
    → Placed ds m d
unfolding declared declared_place nth
declared_there [] m d e = absurd (Never e)
declared_there (x ∷ ds) m d e = go (eqb x.name m) refl (λ e. declared_there ds m d e) e
  where
    go : (b : Bool) → eqb x.name m ≡ b → (declared ds m ≡ some d → Placed ds m d)
        → choice b (λ _. some x) (λ _. declared ds m) ≡ some d → Placed (x ∷ ds) m d
    go true t rec e = record {
      place = 0;
      is = rw t;
      there = e;
      name = let h : x ≡ d = inj e in rw (← h) (eqb-true x.name m t);
    }
    go false t rec e = let y = rec e in record {
      place = suc y.place;
      is = rw (t, y.is);
      there = y.there;
      name = y.name;
    }

-- What stands after a list.
pub nth_after : {A : Type 0} (l r : List A) (j : ℕ) → nth (l ++ r) (length l + j) ≡ nth r j
unfolding nth
nth_after [] r j = let e : 0 + j ≡ j = omega arith in rw e
nth_after (x ∷ l) r j = let e : suc (length l) + j ≡ suc (length l + j) = omega arith in
    rw e (nth_after l r j)

-- The methods of a class stand after those of the classes before it.
after_earlier : (P : List Class) (i : ℕ) (c : Class) (j : ℕ) (d : Declaration) → nth P i ≡ some c
    → nth c.methods j ≡ some d → nth (methods_of P) (length (methods_of (take i P)) + j) ≡ some d
unfolding methods_of nth
after_earlier [] i c j d e f = absurd (Never e)
after_earlier (x ∷ P) zero c j d e f =
    let h : x.methods ≡ c.methods = ap (λ (y : Class). y.methods) (inj e) in
    let q : 0 + j ≡ j = omega arith in
    rw q (nth_append x.methods (methods_of P) j d (rw h f))
after_earlier (x ∷ P) (suc i) c j d e f =
    let n = length (methods_of (take i P)) in
    let q : length (x.methods ++ methods_of (take i P)) + j ≡ length x.methods + (n + j) =
    omega (arith, length-append x.methods (methods_of (take i P))) in
    rw (q, nth_after x.methods (methods_of P) (n + j)) (after_earlier P i c j d e f)

-- The method that a class declares under a name has its number.
pub number_is : (P : List Class) (i m : ℕ) (c : Class) (j : ℕ) → nth P i ≡ some c
    → declared_place c.methods m ≡ some j → number_at P (suc i) m ≡ length (methods_of (take i P)) + j
unfolding class_at number_at
number_is P i m c j e f = let z : suc i - 1 ≡ i = omega arith in rw (e, f, z)

pub numbered : (P : List Class) (k m : ℕ) (c : Class) (d : Declaration) → class_at P k ≡ some c
    → declared c.methods m ≡ some d → nth (methods_of P) (number_at P k m) ≡ some d
unfolding class_at
numbered P zero m c d e f = absurd (Never e)
numbered P (suc i) m c d e f = let y = declared_there c.methods m d f in
    rw (number_is P i m c y.place e y.is) (after_earlier P i c y.place d e y.there)

pub effect_there : (P : List Class) (k m : ℕ) (c : Class) (d : Declaration) → class_at P k ≡ some c
    → declared c.methods m ≡ some d → effect_in P (number_at P k m) ≡ effect_of_all d.effects
unfolding effect_in
effect_there P k m c d e f = rw (numbered P k m c d e f)

pub body_there : (P : List Class) (k m : ℕ) (c : Class) (d : Declaration) → class_at P k ≡ some c
    → declared c.methods m ≡ some d → body_in P (number_at P k m) ≡ d.body
unfolding body_in
body_there P k m c d e f = rw (numbered P k m c d e f)

-- Lookups in classes and in their headings agree: neither bodies nor X lines have a part in them.
through : {A : Type 0} (o : Option Class) (a : A) (f g : Class → A)
    → ((c : Class) → f (class_heading c) ≡ g c)
    → given (map_option class_heading o) a f ≡ given o a g
through none a f g h = refl
through (some c) a f g h = h c

found_heading : {A : Type 0} (o : Option Declaration) (a : A) (f g : Declaration → A)
    → ((d : Declaration) → f (heading d) ≡ g d) → given (map_option heading o) a f ≡ given o a g
found_heading none a f g h = refl
found_heading (some d) a f g h = h d

heading_nth : (l : List Class) (k : ℕ) → nth (map class_heading l) k ≡ map_option class_heading (nth l k)
unfolding nth
heading_nth [] k = refl
heading_nth (c ∷ l) zero = refl
heading_nth (c ∷ l) (suc k) = heading_nth l k

same_classes : (l : List Class) → length (map class_heading l) ≡ length l
same_classes [] = refl
same_classes (c ∷ l) = ap suc (same_classes l)

same_declarations : (ds : List Declaration) → length (map heading ds) ≡ length ds
same_declarations [] = refl
same_declarations (d ∷ ds) = ap suc (same_declarations ds)

declared_heading : (ds : List Declaration) (m : ℕ)
    → declared (map heading ds) m ≡ map_option heading (declared ds m)
unfolding declared
declared_heading [] m = refl
declared_heading (d ∷ ds) m = go (eqb d.name m) (declared_heading ds m)
  where
    go : (b : Bool) → declared (map heading ds) m ≡ map_option heading (declared ds m)
        → choice b (λ _. some (heading d)) (λ _. declared (map heading ds) m)
        ≡ map_option heading (choice b (λ _. some d) (λ _. declared ds m))
    go true e = refl
    go false e = e

same_place : (ds : List Declaration) (m : ℕ) → declared_place (map heading ds) m ≡ declared_place ds m
unfolding declared_place
same_place [] m = refl
same_place (d ∷ ds) m =
    ap (λ o. choice (eqb d.name m) (λ _. some 0) (λ _. map_option suc o)) (same_place ds m)

same_methods : (n : ℕ) (l : List Class)
    → length (methods_of (take n (map class_heading l))) ≡ length (methods_of (take n l))
unfolding methods_of
same_methods zero l = refl
same_methods (suc n) [] = refl
same_methods (suc n) (c ∷ l) = omega (
  arith,
  same_methods n l,
  same_declarations c.methods,
  length-append (map heading c.methods) (methods_of (take n (map class_heading l))),
  length-append c.methods (methods_of (take n l)),
)

module _ (P : List Class) where
  abbrev Headings : List Class
  Headings = map class_heading P

  heading_at : (k : ℕ) → class_at Headings k ≡ map_option class_heading (class_at P k)
  unfolding class_at
  heading_at zero = refl
  heading_at (suc k) = heading_nth P k

  same_fields : (n k : ℕ) → fields_at Headings n k ≡ fields_at P n k
  unfolding fields_at
  same_fields zero k = refl
  same_fields (suc n) k = rw (heading_at k)
      (through (class_at P k) _ _ _ λ c. ap (λ l. l ++ c.fields) (same_fields n c.super))

  same_below : (n k d : ℕ) → below_at Headings n k d ≡ below_at P n k d
  unfolding below_at
  same_below zero k d = refl
  same_below (suc n) k d = rw (heading_at k)
      (ap (λ b. eqb k d || b) (through (class_at P k) _ _ _ λ c. same_below n c.super d))

  same_root : (n k : ℕ) → root_at Headings n k ≡ root_at P n k
  unfolding root_at
  same_root zero k = refl
  same_root (suc n) k = rw (heading_at k) (through (class_at P k) _ _ _
      λ c. ap (λ r. choice (is_state c.kind) (λ _. r) (λ _. k)) (same_root n c.super))

  same_nearest : (n k d : ℕ) → nearest_at Headings n k d ≡ nearest_at P n k d
  unfolding nearest_at
  same_nearest zero k d = refl
  same_nearest (suc n) k d = rw (heading_at k, same_below (suc d) d k)
      (ap (λ r. choice (below_at P (suc d) d k) (λ _. k) (λ _. r))
      (through (class_at P k) _ _ _ λ c. same_nearest n c.super d))

  same_changeable : (k : ℕ) → is_changeable Headings k ≡ is_changeable P k
  unfolding is_changeable
  same_changeable k = rw (heading_at k) (through (class_at P k) _ _ _ λ c. refl)

  same_number : (k m : ℕ) → number_at Headings k m ≡ number_at P k m
  unfolding number_at
  same_number k m = rw (heading_at k, same_methods (k - 1) P)
      (ap (λ i. length (methods_of (take (k - 1) P)) + i)
      (through (class_at P k) _ _ _ λ c. ap (λ o. given o 0 λ i. i) (same_place c.methods m)))

  module _ (effects : ℕ → ℕ) where
    same_of : (k : ℕ) (d : Declaration) → method_of Headings effects k (heading d) ≡ method_of P effects k d
    same_of k d = ap (λ i. record {
      number = i;
      owner = k;
      result = d.result;
      parameters = d.parameters;
      effect = effects i;
    }) (same_number k d.name)

    same-method : (n k m : ℕ) → method_at Headings effects n k m ≡ method_at P effects n k m
    unfolding method_at
    same-method zero k m = refl
    same-method (suc n) k m = rw (heading_at k) (through (class_at P k) _ _ _ λ c.
        rw (declared_heading c.methods m, same-method n c.super m)
        (found_heading (declared c.methods m) _ _ _ λ d. ap some (same_of k d)))

    -- The world is made of headings and an assignment of effects.
    pub world_of_headings : world_with Headings effects ≡ world_with P effects
    unfolding world_with
    world_of_headings i = record {
      count = same_classes P i;
      fields = λ k. same_fields (suc k) k i;
      method = λ k m. same-method (suc k) k m i;
      below = λ k d. same_below (suc k) k d i;
      root = λ k. same_root (suc k) k i;
      changeable = λ k. same_changeable k i;
      nearest = λ k d. same_nearest (suc k) k d i;
      makes = λ k. leb k (same_classes P i);
      effect = effects;
    }
