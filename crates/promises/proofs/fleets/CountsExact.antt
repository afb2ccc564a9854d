-- What the counts of a run that serves are: the objects that ended in a class or below it, each once.
use mathlib.Core.Path.{◌≡◌, refl, sym, ap, ◌∙◌, subst}
use mathlib.Core.Logic.{◌↔◌, ◌⊎◌, inl, inr, ◌≢◌}
use Prim.Native.Nat.{ℕ, zero, suc, ◌+◌, ◌≤◌, ◌<◌}
use mathlib.Core.Bool.{Bool, true, false, cond}
use mathlib.Core.Option.{some}
use mathlib.Core.List.{List, [], ◌∷◌}
use lib.ListN.{length}
use native.Mathlib.Omega.{arith}
use Rattle.language.specs.Limits.{object_class}
use Rattle.language.specs.Lists.{nth, nth_lt, Never, inj}
use Rattle.language.specs.Tree.{Class, Program}
use Rattle.language.specs.World.{World}
use Rattle.language.specs.Program.{world, class_at}
use Rattle.language.specs.ClassRelations.{Subclass, itself, below_object, above}
use Rattle.language.specs.WellFormed.{ProgramWell}
use Rattle.theory.proofs.lookups.LookupLaws.{below_is_subclass}
use Rattle.theory.proofs.lookups.Superclasses.{subclass_trans, no_class, object_is_no_class}
use Rattle.fleet.specs.Counts.{Counts, count_below, classes_in, run_counts}
use Rattle.promises.specs.Labels.{ended_in, IsDeclared, Serves, Rising, rising_nil, rising_cons}
use Rattle.promises.specs.Labels.{OneOf, here, later, CountsFor}
use Rattle.promises.proofs.fleets.CountsServe.{classes_length, class_ended_in, counted, counted_serves}

-- An empty list has no place, and a place of another is its first or one of the rest.
none_of : {j : ℕ} {js : List ℕ} → OneOf j js → length js ≢ 0
none_of here e = omega (arith, e)
none_of (later o) e = omega (arith, e)

first_or_later : {i j : ℕ} {js : List ℕ} → OneOf j (i ∷ js) → (j ≡ i) ⊎ OneOf j js
first_or_later here = inl refl
first_or_later (later o) = inr o

-- Places that are at least a are at least any b below it.
rising_weak : {a b : ℕ} {js : List ℕ} → b ≤ a → Rising a js → Rising b js
rising_weak l rising_nil = rising_nil
rising_weak {b} l (rising_cons {j} h r) = rising_cons {least = b} {j = j} (omega (arith, l, h)) r

module _ (W : World) (d : ℕ) where
  -- The places of the classes that are class d or below it, where the first class has place i.
  unfoldable places_below : ℕ → List ℕ → List ℕ
  places_below i [] = []
  places_below i (c ∷ cs) = cond (W.below c d) (i ∷ places_below (suc i) cs) (places_below (suc i) cs)

  -- They rise, and are as many as are counted.
  places_rise : (i : ℕ) (cs : List ℕ) → Rising i (places_below i cs)
  unfolding places_below
  places_rise i [] = rising_nil
  places_rise i (c ∷ cs) = go (W.below c d) (places_rise (suc i) cs)
    where
      go : (b : Bool) {js : List ℕ} → Rising (suc i) js → Rising i (cond b (i ∷ js) js)
      go true r = rising_cons {least = i} {j = i} (omega arith) r
      go false r = rising_weak {a = suc i} {b = i} (omega arith) r

  places_counted : (i : ℕ) (cs : List ℕ) → length (places_below i cs) ≡ count_below W d cs
  unfolding places_below count_below
  places_counted i [] = refl
  places_counted i (c ∷ cs) = go (W.below c d) (places_below (suc i) cs) (places_counted (suc i) cs)
    where
      go : (b : Bool) (js : List ℕ) {k : ℕ} → length js ≡ k → length (cond b (i ∷ js) js) ≡ cond b (suc k) k
      go true js e = ap suc e
      go false js e = e

  -- Place j has a class that is d or below it, where the first class has place i.
  record BelowAt (i : ℕ) (cs : List ℕ) (j : ℕ) : Type 0 where
    pub q : ℕ
    pub c : ℕ
    pub at : i + q ≡ j
    pub there : nth cs q ≡ some c
    pub below : W.below c d ≡ true

  -- Such places are found, and no others.
  found_below : (i : ℕ) (cs : List ℕ) (j : ℕ) → OneOf j (places_below i cs) → BelowAt i cs j
  unfolding places_below nth
  found_below i [] j o = absurd (none_of o refl)
  found_below i (c ∷ cs) j o = go (W.below c d) refl (found_below (suc i) cs j) o
    where
      further : BelowAt (suc i) cs j → BelowAt i (c ∷ cs) j
      further x =
          record { q = suc x.q; c = x.c; at = omega (arith, x.at); there = x.there; below = x.below }

      first : W.below c d ≡ true → {js : List ℕ} → (OneOf j js → BelowAt (suc i) cs j)
          → (j ≡ i) ⊎ OneOf j js → BelowAt i (c ∷ cs) j
      first e f (inl p) = record { q = 0; c = c; at = omega (arith, p); there = refl; below = e }
      first e f (inr o) = further (f o)

      go : (b : Bool) → W.below c d ≡ b → {js : List ℕ} → (OneOf j js → BelowAt (suc i) cs j)
          → OneOf j (cond b (i ∷ js) js) → BelowAt i (c ∷ cs) j
      go true e f o = first e f (first_or_later o)
      go false e f o = further (f o)

  below_found : (i : ℕ) (cs : List ℕ) (j q c : ℕ) → i + q ≡ j → nth cs q ≡ some c → W.below c d ≡ true
      → OneOf j (places_below i cs)
  unfolding places_below nth
  below_found i [] j q c p e h = absurd (Never e)
  below_found i (b ∷ cs) j zero c p e h =
      let first : W.below b d ≡ true = rw (inj e) h in
      let place : i ≡ j = omega (arith, p) in
      rw (first, place) here
  below_found i (b ∷ cs) j (suc q) c p e h =
      go (W.below b d) (places_below (suc i) cs) (below_found (suc i) cs j q c (omega (arith, p)) e h)
    where
      go : (b : Bool) (js : List ℕ) → OneOf j js → OneOf j (cond b (i ∷ js) js)
      go true js o = later o
      go false js o = o

-- The classes counted for class d are those of the objects that ended in it or below it.
counts_for : (p : Program) → ProgramWell p → (store : List ℕ) (n d : ℕ)
    → CountsFor p.classes store n d (count_below (world p.classes) d (classes_in n store))
counts_for p well store n d =
    let W = world p.classes in
    let cs = classes_in n store in
    let subclass : (c : ℕ) → (W.below c d ≡ true) ↔ Subclass p.classes c d =
    λ c. below_is_subclass p well c d in
    record {
      places = places_below W d 0 cs;
      rising = places_rise W d 0 cs;
      as_many = places_counted W d 0 cs;
      exactly = λ j. (
        (λ o. let x = found_below W d 0 cs j o in
            let q : x.q ≡ j = omega (arith, x.at) in
            let l : j < n = omega (arith, q, nth_lt cs x.q x.c x.there, classes_length n store) in
            let e : x.c ≡ ended_in store j = inj (sym x.there ∙ (rw q (class_ended_in n store j l))) in
            (l, rw (← e) ((subclass x.c).0 x.below))),
        (λ x. below_found W d 0 cs j j (ended_in store j) (omega arith) (class_ended_in n store j x.0)
            ((subclass (ended_in store j)).1 x.1)),
      );
    }

-- The places of a rising list are at least its least; those above its first are in the rest.
at_least : {a j : ℕ} {js : List ℕ} → Rising a js → OneOf j js → a ≤ j
at_least rising_nil o = absurd (none_of o refl)
at_least {j} (rising_cons {j = i} h r) o =
    elim (first_or_later o) [ inl e ↦ omega (arith, h, e) | inr o ↦ omega (arith, h, at_least r o) ]

in_rest : {i j : ℕ} {js : List ℕ} → i < j → OneOf j (i ∷ js) → OneOf j js
in_rest l o = elim (first_or_later o) [ inl e ↦ absurd (omega (arith, l, e)) | inr o ↦ o ]

-- A rising list is not longer than one that has all its places.
no_more : {a b : ℕ} {xs ys : List ℕ} → Rising a xs → Rising b ys
    → ((j : ℕ) → OneOf j xs → OneOf j ys) → length xs ≤ length ys
no_more rising_nil r f = omega arith
no_more (rising_cons {j = x} h s) rising_nil f = absurd (none_of (f x here) refl)
no_more (rising_cons {j = x} {js = xs} h s) (rising_cons k r) f =
    let all : Rising x (x ∷ xs) = rising_cons {least = x} {j = x} (omega arith) s in
    elim (first_or_later (f x here)) [
      | inl e ↦ omega (arith, no_more s r λ j o. in_rest (omega (arith, e, at_least s o)) (f j (later o)))
      | inr p ↦ let q = at_least r p in
          omega (arith, no_more all r λ j o. in_rest (omega (arith, q, at_least all o)) (f j o))
    ]

-- There is one count for a class.
one_count : {P : List Class} {store : List ℕ} {n d a b : ℕ}
    → CountsFor P store n d a → CountsFor P store n d b → a ≡ b
one_count x y = omega (
  arith,
  x.as_many,
  y.as_many,
  no_more x.rising y.rising (λ j o. (y.exactly j).1 ((x.exactly j).0 o)),
  no_more y.rising x.rising (λ j o. (x.exactly j).1 ((y.exactly j).0 o)),
)

same_counts : {a b : Counts} → a.printed ≡ b.printed → a.spoiled ≡ b.spoiled → a ≡ b
same_counts {a} {b} e f = rw (e, f)

-- The counts of a run that serves are those for its two classes.
pub counts_exactly : (rows store : List ℕ) (n printed spoiled : ℕ) (s : Serves rows store n printed spoiled)
    → (c : Counts) → (run_counts rows store n printed spoiled ≡ some c)
    ↔ (CountsFor s.program.classes store n printed c.printed
    × CountsFor s.program.classes store n spoiled c.spoiled)
counts_exactly rows store n printed spoiled s c =
    let P = s.program.classes in
    let is = counted rows store n printed spoiled s in
    let for-printed = counts_for s.program s.rows_of_it.well store n printed in
    let for-spoiled = counts_for s.program s.rows_of_it.well store n spoiled in (
      (λ e. subst (λ (c : Counts). CountsFor P store n printed c.printed
          × CountsFor P store n spoiled c.spoiled) (inj (sym is ∙ e)) (for-printed, for-spoiled)),
      (λ x. is ∙ ap some (same_counts (one_count for-printed x.0) (one_count for-spoiled x.1))),
    )

-- An object that counts as spoiled counts as printed.
pub spoiled_counts : {rows store : List ℕ} {n printed spoiled a b : ℕ}
    → (s : Serves rows store n printed spoiled)
    → (x : CountsFor s.program.classes store n printed a)
    → (y : CountsFor s.program.classes store n spoiled b)
    → (j : ℕ) → OneOf j y.places → OneOf j x.places
spoiled_counts s x y j o = let z = (y.exactly j).0 o in
    (x.exactly j).1 (z.0, subclass_trans s.program.classes z.1 s.below)

-- So there are no more spoiled labels than printed ones.
pub no_more_spoiled : (rows store : List ℕ) (n printed spoiled : ℕ) (c : Counts)
    → run_counts rows store n printed spoiled ≡ some c → c.spoiled ≤ c.printed
no_more_spoiled rows store n printed spoiled c e =
    let s = counted_serves rows store n printed spoiled c e in
    let x = (counts_exactly rows store n printed spoiled s c).0 e in
    omega (
      arith,
      x.0.as_many,
      x.1.as_many,
      no_more x.1.rising x.0.rising (spoiled_counts s x.0 x.1),
    )

-- Only Object is Object or above it.
above_object : {P : List Class} {k d : ℕ} → Subclass P k d → k ≡ object_class → d ≡ object_class
above_object itself e = e
above_object (below_object p) e = refl
above_object {P} (above c p r) e =
    no_class (object_is_no_class P) (subst (λ (k : ℕ). class_at P k ≡ some c) e p)

-- An object that ended in Object counts for no declared class.
pub object_not_counted : {P : List Class} {store : List ℕ} {n d a : ℕ} (x : CountsFor P store n d a)
    → IsDeclared P d → (j : ℕ) → ended_in store j ≡ object_class → OneOf j x.places → ⊥
object_not_counted x declared j e o = declared.not_object (above_object ((x.exactly j).0 o).1 e)
