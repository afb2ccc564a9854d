-- Sums by model: no two have one model, those of some models come from the lines of those models alone, and a line
-- changes only the sums of its own model. Assumes nothing.
use mathlib.Core.Path.{◌≡◌, refl, sym, ap, ◌∙◌}
use mathlib.Core.Bool.{Bool, true, false, ◌&&◌, cond, and-true}
use mathlib.Core.List.{List, [], ◌∷◌}
use mathlib.Core.Logic.{◌≢◌}
use Prim.Native.Nat.{ℕ}
use borrow.Author.Tests.{eqb-true, eqb-false}
use lib.Dec.{eqb}
use Rattle.language.specs.Lists.{choice}
use Rattle.language.specs.WellFormed.{Each, each_nil, each_cons}
use Rattle.language.proofs.Booleans.{false≢, and_inv}
use Rattle.fleet.specs.LineLists.{Other, Distinct, distinct_nil, distinct_cons, in_models}
use Rattle.fleet.specs.Ranking.{Counted, is_within, all_within, plus, add}

-- A line of another model leaves a model without sums where it had none.
add_other : (m : ℕ) (c : Counted) (ds : List Counted) → c.model ≢ m → Each (Other m) ds
    → Each (Other m) (add c ds)
unfolding add
add_other m c [] n each_nil = each_cons n each_nil
add_other m c (d ∷ ds) n (each_cons h hs) = go (eqb d.model c.model) (add_other m c ds n hs)
  where
    go : (t : Bool) → Each (Other m) (add c ds)
        → Each (Other m) (choice t (λ _. plus d c ∷ ds) (λ _. d ∷ add c ds))
    go true r = each_cons h hs
    go false r = each_cons h r

-- Adding a line keeps the models different.
pub add_distinct : (c : Counted) (ds : List Counted) → Distinct ds → Distinct (add c ds)
unfolding add
add_distinct c [] distinct_nil = distinct_cons each_nil distinct_nil
add_distinct c (d ∷ ds) (distinct_cons h hs) = go (eqb d.model c.model) refl (add_distinct c ds hs)
  where
    go : (t : Bool) → eqb d.model c.model ≡ t → Distinct (add c ds)
        → Distinct (choice t (λ _. plus d c ∷ ds) (λ _. d ∷ add c ds))
    go true e r = distinct_cons h hs
    go false e r = distinct_cons
        (add_other d.model c ds (λ f. eqb-false d.model c.model e (sym f)) h) r

-- The sums of these models change by a line of these models alone.
pub add_in_models : (p : ℕ → Bool) (c : Counted) (ds : List Counted)
    → in_models p (add c ds) ≡ cond (p c.model) (add c (in_models p ds)) (in_models p ds)
unfolding add in_models
add_in_models p c [] = refl
add_in_models p c (d ∷ ds) =
    go (eqb d.model c.model) refl (p d.model) refl (p c.model) refl (add_in_models p c ds)
  where
    go : (t : Bool) → eqb d.model c.model ≡ t → (u : Bool) → p d.model ≡ u
        → (v : Bool) → p c.model ≡ v
        → in_models p (add c ds) ≡ cond v (add c (in_models p ds)) (in_models p ds)
        → in_models p (choice t (λ _. plus d c ∷ ds) (λ _. d ∷ add c ds))
        ≡ cond v (add c (cond u (d ∷ in_models p ds) (in_models p ds)))
        (cond u (d ∷ in_models p ds) (in_models p ds))
    go true e true f true g r = rw (f, e)
    go true e true f false g r = false≢ (sym g ∙ ap p (sym (eqb-true d.model c.model e)) ∙ f)
    go true e false f true g r = false≢ (sym f ∙ ap p (eqb-true d.model c.model e) ∙ g)
    go true e false f false g r = rw f
    go false e true f true g r = rw (f, e, r)
    go false e true f false g r = rw (f, r)
    go false e false f true g r = rw (f, r)
    go false e false f false g r = rw (f, r)

-- A model's sums with one more line of it; the line itself where it is the first.
unfoldable pub sums_with : Counted → List Counted → Counted
sums_with c [] = c
sums_with c (d ∷ ds) = choice (eqb d.model c.model) (λ _. plus d c) (λ _. sums_with c ds)

-- Whether a line is taken depends on its model's sums with it alone.
pub add_within : (c : Counted) (ds : List Counted) → all_within ds ≡ true
    → all_within (add c ds) ≡ is_within (sums_with c ds)
unfolding add all_within sums_with
add_within c [] e = and-true (is_within c)
add_within c (d ∷ ds) e = let h = and_inv (is_within d) (all_within ds) e in
    go (eqb d.model c.model) h.0 h.1 (add_within c ds h.1)
  where
    go : (t : Bool) → is_within d ≡ true → all_within ds ≡ true
        → all_within (add c ds) ≡ is_within (sums_with c ds)
        → all_within (choice t (λ _. plus d c ∷ ds) (λ _. d ∷ add c ds))
        ≡ is_within (choice t (λ _. plus d c) (λ _. sums_with c ds))
    go true h hs r = rw hs (and-true (is_within (plus d c)))
    go false h hs r = ap (λ (t : Bool). t && all_within (add c ds)) h ∙ r
