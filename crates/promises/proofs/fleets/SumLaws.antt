-- The sums of counted lines are their totals by model. Assumes nothing.
use mathlib.Core.Path.{◌≡◌, refl, sym, ap, ◌∙◌}
use mathlib.Core.Logic.{◌↔◌, ◌≢◌, ◌⊎◌, inl, inr}
use Prim.Native.Nat.{ℕ, ◌+◌}
use native.Mathlib.Omega.{arith}
use borrow.Author.Tests.{eqb-true, eq-eqb, ne_eqb}
use mathlib.Core.Bool.{Bool, true, false, cond}
use mathlib.Core.List.{List, [], ◌∷◌}
use lib.Dec.{eqb}
use lib.ListN.{length}
use Rattle.language.specs.Lists.{choice}
use Rattle.language.specs.WellFormed.{Each, each_nil, each_cons}
use Rattle.fleet.specs.Ranking.{Counted, plus, add}
use Rattle.fleet.specs.LineLists.{Other, Distinct, distinct_nil, distinct_cons}
use Rattle.fleet.proofs.Summing.{add_distinct}
use Rattle.promises.specs.Totals.{Has, has_here, has_later, total, totals, SumsOf}

-- Lines added one after another.
unfoldable pub added : List Counted → List Counted → List Counted
added ds [] = ds
added ds (x ∷ xs) = added (add x ds) xs

-- Models keep apart, and there are no others than those of the lines.
added_distinct : (ds xs : List Counted) → Distinct ds → Distinct (added ds xs)
unfolding added
added_distinct ds [] h = h
added_distinct ds (x ∷ xs) h = added_distinct (add x ds) xs (add_distinct x ds h)

add_has : (m : ℕ) (c : Counted) (ds : List Counted) → Has m (c ∷ ds) ↔ Has m (add c ds)
unfolding add
add_has m c [] = (λ h. h, λ h. h)
add_has m c (d ∷ ds) = go (eqb d.model c.model) refl (add_has m c ds)
  where
    here : eqb d.model c.model ≡ true → Has m (c ∷ d ∷ ds) → Has m (plus d c ∷ ds)
    here e (has_here h) = has_here (eqb-true d.model c.model e ∙ h)
    here e (has_later (has_here h)) = has_here h
    here e (has_later (has_later h)) = has_later h

    here_back : Has m (plus d c ∷ ds) → Has m (c ∷ d ∷ ds)
    here_back (has_here h) = has_later (has_here h)
    here_back (has_later h) = has_later (has_later h)

    later : (Has m (c ∷ ds) → Has m (add c ds)) → Has m (c ∷ d ∷ ds) → Has m (d ∷ add c ds)
    later r (has_here h) = has_later (r (has_here h))
    later r (has_later (has_here h)) = has_here h
    later r (has_later (has_later h)) = has_later (r (has_later h))

    swap : Has m (c ∷ ds) → Has m (c ∷ d ∷ ds)
    swap (has_here h) = has_here h
    swap (has_later h) = has_later (has_later h)

    later-back : (Has m (add c ds) → Has m (c ∷ ds)) → Has m (d ∷ add c ds) → Has m (c ∷ d ∷ ds)
    later-back r (has_here h) = has_later (has_here h)
    later-back r (has_later h) = swap (r h)

    go : (t : Bool) → eqb d.model c.model ≡ t → Has m (c ∷ ds) ↔ Has m (add c ds)
        → Has m (c ∷ d ∷ ds) ↔ Has m (choice t (λ _. plus d c ∷ ds) (λ _. d ∷ add c ds))
    go true e r = (here e, here_back)
    go false e r = (later r.0, later-back r.1)

module _ (m : ℕ) where
  added_keeps : (ds xs : List Counted) → Has m ds → Has m (added ds xs)
  unfolding added
  added_keeps ds [] h = h
  added_keeps ds (x ∷ xs) h = added_keeps (add x ds) xs ((add_has m x ds).0 (has_later h))

  added_takes : (ds xs : List Counted) → Has m xs → Has m (added ds xs)
  unfolding added
  added_takes ds (x ∷ xs) (has_here h) = added_keeps (add x ds) xs ((add_has m x ds).0 (has_here h))
  added_takes ds (x ∷ xs) (has_later h) = added_takes (add x ds) xs h
  added_takes ds [] x' = elim x' [ ]

  added_from : (ds xs : List Counted) → Has m (added ds xs) → Has m ds ⊎ Has m xs
  unfolding added
  added_from ds [] h = inl h
  added_from ds (x ∷ xs) h = elim (added_from (add x ds) xs h)
      [ inl k ↦ first ((add_has m x ds).1 k) | inr k ↦ inr (has_later k) ]
    where
      first : Has m (x ∷ ds) → Has m ds ⊎ Has m (x ∷ xs)
      first (has_here k) = inr (has_here k)
      first (has_later k) = inl k

  pub has_some : {xs : List Counted} → Has m xs → length xs ≢ 0
  has_some (has_here h) = omega arith
  has_some (has_later h) = omega arith

-- The totals of sums are those of the lines.
module _ (of : Counted → ℕ) (adds : (d c : Counted) → of (plus d c) ≡ of d + of c) (m : ℕ) where
  total_add : (c : Counted) (ds : List Counted) → total of m (add c ds) ≡ total of m (c ∷ ds)
  unfolding add total
  total_add c [] = refl
  total_add c (d ∷ ds) = go (eqb d.model c.model) refl (total_add c ds)
    where
      both : (t : Bool) → cond t (of (plus d c)) 0 ≡ cond t (of c) 0 + cond t (of d) 0
      both true = omega (arith, adds d c)
      both false = refl

      go : (t : Bool) → eqb d.model c.model ≡ t → total of m (add c ds) ≡ total of m (c ∷ ds)
          → total of m (choice t (λ _. plus d c ∷ ds) (λ _. d ∷ add c ds)) ≡ total of m (c ∷ d ∷ ds)
      go true e r = let same = ap (λ (k : ℕ). cond (eqb k m) (of c) 0) (eqb-true d.model c.model e) in
          omega (arith, same, both (eqb d.model m))
      go false e r = omega (arith, r)

  pub total_added : (ds xs : List Counted) → total of m (added ds xs) ≡ total of m ds + total of m xs
  unfolding added total
  total_added ds [] = omega arith
  total_added ds (x ∷ xs) = omega (arith, total_added (add x ds) xs, total_add x ds)

-- Where a model has no line its total is 0.
pub total_none : (of : Counted → ℕ) (m : ℕ) {ds : List Counted} → Each (Other m) ds → total of m ds ≡ 0
unfolding total
total_none of m each_nil = refl
total_none of m (each_cons {a} n h) = rw (ne_eqb a.model m n) (omega (arith, total_none of m h))

-- Of sums with different models each is its model's total.
total_one : (of : Counted → ℕ) {ds : List Counted} → Distinct ds
    → Each (λ (d : Counted). total of d.model ds ≡ of d) ds
unfolding total
total_one of distinct_nil = each_nil
total_one of (distinct_cons {d} {ds} h hs) = each_cons {a = d}
    (rw (eq-eqb d.model d.model refl) (omega (arith, total_none of d.model h)))
    (go h (total_one of hs))
  where
    go : {es : List Counted} → Each (Other d.model) es
        → Each (λ (e : Counted). total of e.model ds ≡ of e) es
        → Each (λ (e : Counted). cond (eqb d.model e.model) (of d) 0 + total of e.model ds ≡ of e) es
    go each_nil each_nil = each_nil
    go (each_cons {a} n ns) (each_cons r rs) =
        each_cons {a = a} (rw (ne_eqb d.model a.model (λ e. n (sym e))) (omega (arith, r))) (go ns rs)

-- Lines added one after another are summed.
pub added_sums : (xs : List Counted) → SumsOf xs (added [] xs)
unfolding total
added_sums xs = record {
  one_a_model = apart;
  same_models = λ m. (
    added_takes m [] xs,
    λ h. elim (added_from m [] xs h)
        [ inl k ↦ absurd (has_some m k refl) | inr k ↦ k ],
  );
  exact = go (total_one (λ x. x.printed) apart) (total_one (λ x. x.spoiled) apart)
      (total_one (λ x. x.cents) apart);
}
  where
    apart : Distinct (added [] xs)
    apart = added_distinct [] xs distinct_nil

    go : {es : List Counted}
        → Each (λ (e : Counted). total (λ x. x.printed) e.model (added [] xs) ≡ e.printed) es
        → Each (λ (e : Counted). total (λ x. x.spoiled) e.model (added [] xs) ≡ e.spoiled) es
        → Each (λ (e : Counted). total (λ x. x.cents) e.model (added [] xs) ≡ e.cents) es
        → Each (λ (e : Counted). e ≡ totals xs e.model) es
    go each_nil each_nil each_nil = each_nil
    go (each_cons {a} p ps) (each_cons q qs) (each_cons r rs) =
        let x : total (λ x. x.printed) a.model xs ≡ a.printed =
        omega (arith, p, total_added (λ x. x.printed) (λ d c. refl) a.model [] xs) in
        let y : total (λ x. x.spoiled) a.model xs ≡ a.spoiled =
        omega (arith, q, total_added (λ x. x.spoiled) (λ d c. refl) a.model [] xs) in
        let z : total (λ x. x.cents) a.model xs ≡ a.cents =
        omega (arith, r, total_added (λ x. x.cents) (λ d c. refl) a.model [] xs) in
        each_cons {a = a} (rw (x, y, z)) (go ps qs rs)
