-- Laws of the term that rules. Assumes nothing.
use mathlib.Core.Path.{◌≡◌, refl, ◌∙◌}
use mathlib.Core.Bool.{Bool, true, false, cond}
use mathlib.Core.List.{List, [], ◌∷◌, ◌++◌}
use mathlib.Core.Option.{Option, none, some}
use Prim.Native.Nat.{ℕ}
use native.Mathlib.Omega.{arith}
use borrow.Author.Tests.{leb-true, leb-false, ltb-true, ltb-false, lt-leb, lt-ltb, le-ltb}
use lib.Dec.{leb, ltb}
use Rattle.language.specs.Lists.{Never, inj}
use Rattle.language.specs.WellFormed.{Each, each_nil, each_cons}
use Rattle.prices.specs.Terms.{Term}
use Rattle.prices.specs.Prices.{holds, higher, ruling}

-- What holds of every term holds of the one that rules.
pub ruling_each : {P : Term → Type 0} (model day : ℕ) (ts : List Term) (t : Term) → Each P ts
    → ruling model day ts ≡ some t → P t
unfolding ruling
ruling_each model day [] t each_nil e = absurd (Never e)
ruling_each {P} model day (u ∷ ts) t (each_cons p h) e =
    go (holds model day u) (ruling model day ts) refl (λ v q. ruling_each model day ts v h q) e
  where
    pick : (b : Bool) (v : Term) → P v → cond b (some u) (some v) ≡ some t → P t
    pick true v q e = let k : u ≡ t = inj e in rw (← k) p
    pick false v q e = let k : v ≡ t = inj e in rw (← k) q

    go : (b : Bool) (r : Option Term) → ruling model day ts ≡ r
        → ((v : Term) → ruling model day ts ≡ some v → P v) → cond b (higher u r) r ≡ some t → P t
    go true none q ih e = let k : u ≡ t = inj e in rw (← k) p
    go true (some v) q ih e = pick (ltb v.signing u.signing) v (ih v q) e
    go false r q ih e = ih t (q ∙ e)

-- The term that rules after one more, which holds: the later of two that have the same signing number.
abbrev pub after : Option Term → Term → Option Term
after none t = some t
after (some u) t = cond (leb u.signing t.signing) (some t) (some u)

two : (u t : Term) → higher u (some t) ≡ after (some u) t
two u t = go (leb u.signing t.signing) refl
  where
    go : (b : Bool) → leb u.signing t.signing ≡ b
        → cond (ltb t.signing u.signing) (some u) (some t) ≡ cond b (some t) (some u)
    go true e = rw (le-ltb t.signing u.signing (leb-true u.signing t.signing e))
    go false e = rw (lt-ltb t.signing u.signing (leb-false u.signing t.signing e))

higher_after : (u : Term) (r : Option Term) (t : Term) → higher u (after r t) ≡ after (higher u r) t
higher_after u none t = two u t
higher_after u (some v) t = go (leb v.signing t.signing) refl (ltb v.signing u.signing) refl
  where
    go : (b : Bool) → leb v.signing t.signing ≡ b → (c : Bool) → ltb v.signing u.signing ≡ c
        → higher u (cond b (some t) (some v)) ≡ after (cond c (some u) (some v)) t
    go true p true q = two u t
    go true p false q =
        let h = leb-true v.signing t.signing p in
        let k = ltb-false v.signing u.signing q in
        rw (p, le-ltb t.signing u.signing (omega (arith, h, k)))
    go false p true q =
        let h = leb-false v.signing t.signing p in
        let k = ltb-true v.signing u.signing q in
        rw (q, lt-leb u.signing t.signing (omega (arith, h, k)))
    go false p false q = rw (p, q)

pub ruling_append : (model day : ℕ) (ts : List Term) (t : Term)
    → ruling model day (ts ++ (t ∷ []))
    ≡ cond (holds model day t) (after (ruling model day ts) t) (ruling model day ts)
unfolding ruling
ruling_append model day [] t = refl
ruling_append model day (u ∷ ts) t =
    rw (ruling_append model day ts t) (go (holds model day u) (holds model day t) (ruling model day ts))
  where
    go : (b c : Bool) (r : Option Term)
        → cond b (higher u (cond c (after r t) r)) (cond c (after r t) r)
        ≡ cond c (after (cond b (higher u r) r) t) (cond b (higher u r) r)
    go true true r = higher_after u r t
    go true false r = refl
    go false true r = refl
    go false false r = refl
