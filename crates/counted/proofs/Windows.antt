-- Laws of the sums of some models, of windows of models, and of sums that grow with the lines.
use mathlib.Core.Path.{◌≡◌, refl, sym, ◌∙◌}
use mathlib.Core.Bool.{Bool, true, false, ◌&&◌, cond}
use mathlib.Core.Option.{Option, none, some}
use mathlib.Core.List.{List, [], ◌∷◌, ◌++◌}
use Prim.Native.Nat.{ℕ, ◌+◌, ◌≤◌, ◌<◌}
use native.Mathlib.Omega.{arith}
use borrow.Author.Tests.{leb-true, ltb-true, le-leb, lt-ltb}
use lib.Dec.{eqb, leb, ltb}
use Rattle.language.specs.Lists.{choice}
use Rattle.language.specs.WellFormed.{Each, each_nil, each_cons}
use Rattle.language.proofs.Booleans.{false≢, and_inv}
use Rattle.fleet.specs.Ranking.{Counted, add, plus, is_within, all_within, most_sum}
use Rattle.fleet.specs.LineLists.{in_models}
use Rattle.fleet.proofs.Summing.{add_in_models}
use Rattle.sums.specs.Window.{in_window}
use Rattle.counted.specs.Lines.{all_count, summing}

-- A test that implies another chooses the same of what the other chose.
pub chosen_twice : (p q : ℕ → Bool) → ((m : ℕ) → q m ≡ true → p m ≡ true) → (ds : List Counted)
    → in_models q (in_models p ds) ≡ in_models q ds
unfolding in_models
chosen_twice p q f [] = refl
chosen_twice p q f (d ∷ ds) = go (p d.model) refl (q d.model) refl (chosen_twice p q f ds)
  where
    go : (a : Bool) → p d.model ≡ a → (b : Bool) → q d.model ≡ b
        → in_models q (in_models p ds) ≡ in_models q ds
        → in_models q (cond a (d ∷ in_models p ds) (in_models p ds))
        ≡ cond b (d ∷ in_models q ds) (in_models q ds)
    go true e true g r = rw (g, r) refl
    go true e false g r = rw (g) r
    go false e true g r = false≢ (sym e ∙ f d.model g)
    go false e false g r = r

-- What is chosen passes the test.
pub chosen_pass : (p : ℕ → Bool) (ds : List Counted) → Each (λ d. p d.model ≡ true) (in_models p ds)
unfolding in_models
chosen_pass p [] = each_nil
chosen_pass p (d ∷ ds) = go (p d.model) refl (chosen_pass p ds)
  where
    go : (a : Bool) → p d.model ≡ a → Each (λ x. p x.model ≡ true) (in_models p ds)
        → Each (λ x. p x.model ≡ true) (cond a (d ∷ in_models p ds) (in_models p ds))
    go true e r = each_cons e r
    go false e r = r

-- Windows.
pub window_inv : (low end m : ℕ) → in_window low end m ≡ true → (low ≤ m) × (m < end)
window_inv low end m e = let h = and_inv (leb low m) (ltb m end) e in
    (leb-true low m h.0, ltb-true m end h.1)

pub window_narrower : (low end end' : ℕ) → end' ≤ end → (m : ℕ) → in_window low end' m ≡ true
    → in_window low end m ≡ true
window_narrower low end end' l m e = let h = window_inv low end' m e in
    rw (le-leb low m h.0, lt-ltb m end (omega (arith, h.1, l))) refl

-- Sums only grow.
grows : (d c : Counted) → is_within (plus d c) ≡ true → is_within d ≡ true
grows d c e =
    let p = and_inv (leb (d.printed + c.printed) most_sum)
    (leb (d.spoiled + c.spoiled) most_sum && leb (d.cents + c.cents) most_sum) e in
    let q = and_inv (leb (d.spoiled + c.spoiled) most_sum) (leb (d.cents + c.cents) most_sum) p.1 in
    rw (
      le-leb d.printed most_sum (omega (arith, leb-true (d.printed + c.printed) most_sum p.0)),
      le-leb d.spoiled most_sum (omega (arith, leb-true (d.spoiled + c.spoiled) most_sum q.0)),
      le-leb d.cents most_sum (omega (arith, leb-true (d.cents + c.cents) most_sum q.1)),
    ) refl

within_before : (c : Counted) (ds : List Counted) → all_within (add c ds) ≡ true → all_within ds ≡ true
unfolding add all_within
within_before c [] e = refl
within_before c (d ∷ ds) e = go (eqb d.model c.model) e (λ x. within_before c ds x)
  where
    go : (t : Bool) → all_within (choice t (λ _. plus d c ∷ ds) (λ _. d ∷ add c ds)) ≡ true
        → (all_within (add c ds) ≡ true → all_within ds ≡ true) → (is_within d && all_within ds) ≡ true
    go true h r = let x = and_inv (is_within (plus d c)) (all_within ds) h in
        rw (grows d c x.0, x.1) refl
    go false h r = let x = and_inv (is_within d) (all_within (add c ds)) h in
        rw (x.0, r x.1) refl

chosen_before : (p : ℕ → Bool) (c : Counted) (ds : List Counted)
    → all_within (in_models p (add c ds)) ≡ true
    → all_within (in_models p ds) ≡ true
chosen_before p c ds e = go (p c.model) (rw (add_in_models p c ds) at e)
  where
    go : (t : Bool) → all_within (cond t (add c (in_models p ds)) (in_models p ds)) ≡ true
        → all_within (in_models p ds) ≡ true
    go true h = within_before c (in_models p ds) h
    go false h = h

pub summing_before : (p : ℕ → Bool) (ds : List Counted) (ls : List (Option Counted))
    → all_within (in_models p (summing ds ls)) ≡ true → all_within (in_models p ds) ≡ true
unfolding summing
summing_before p ds [] e = e
summing_before p ds (none ∷ ls) e = summing_before p ds ls e
summing_before p ds (some c ∷ ls) e = chosen_before p c ds (summing_before p (add c ds) ls e)

pub summing_append : (ds : List Counted) (ls ms : List (Option Counted))
    → summing ds (ls ++ ms) ≡ summing (summing ds ls) ms
unfolding summing
summing_append ds [] ms = refl
summing_append ds (none ∷ ls) ms = summing_append ds ls ms
summing_append ds (some c ∷ ls) ms = summing_append (add c ds) ls ms

pub count_append : (ls ms : List (Option Counted)) → all_count (ls ++ ms) ≡ (all_count ls && all_count ms)
unfolding all_count
count_append [] ms = refl
count_append (none ∷ ls) ms = refl
count_append (some c ∷ ls) ms = count_append ls ms
