-- Laws of keeping the lower models of a window.
use mathlib.Core.Path.{◌≡◌, refl, ap, ◌∙◌}
use mathlib.Core.Bool.{Bool, true, false, cond}
use mathlib.Core.Logic.{◌⊎◌, inl, inr}
use mathlib.Core.List.{List, [], ◌∷◌, ◌++◌, append-nil}
use Prim.Native.Nat.{ℕ, ◌+◌, ◌*◌, ◌/◌, ◌≤◌, ◌<◌}
use native.Mathlib.Omega.{arith}
use native.Mathlib.Numerals.{add-one}
use borrow.Author.Tests.{lt-ltb, le-ltb}
use lib.Dec.{ltb}
use lib.ListN.{length, length-append, get_or}
use Rattle.fleet.specs.Ranking.{Counted}
use Rattle.fleet.specs.Entries.{entry, entries}
use Rattle.fleet.proofs.Entries.{entry_same}
use Rattle.fleet.specs.LineLists.{in_models}
use Rattle.sums.specs.Window.{below, Put, KeepsEntry}
use Rattle.sums.proofs.Tables.{put_last}

in_last : (p : ℕ → Bool) (ds : List Counted) (d : Counted) (b : Bool) → p d.model ≡ b
    → in_models p (ds ++ (d ∷ [])) ≡ in_models p ds ++ cond b (d ∷ []) []
unfolding in_models
in_last p [] d b e = rw e refl
in_last p (x ∷ ds) d b e = go (p x.model) (in_last p ds d b e)
  where
    go : (t : Bool) → in_models p (ds ++ (d ∷ [])) ≡ in_models p ds ++ cond b (d ∷ []) []
        → cond t (x ∷ in_models p (ds ++ (d ∷ []))) (in_models p (ds ++ (d ∷ [])))
        ≡ cond t (x ∷ in_models p ds) (in_models p ds) ++ cond b (d ∷ []) []
    go true r = ap (λ z. x ∷ z) r
    go false r = r

module _ (T : List ℕ) (end e : ℕ) where
  below_next : get_or T (e * 4) 0 < end
      → below end (entries T (e + 1)) ≡ below end (entries T e) ++ (entry T e ∷ [])
  unfolding entries entry
  below_next l = rw (add-one e) (in_last (λ m. ltb m end) (entries T e) (entry T e) true (lt-ltb _ end l))

  below_same : end ≤ get_or T (e * 4) 0 → below end (entries T (e + 1)) ≡ below end (entries T e)
  unfolding entries entry
  below_same l = rw (add-one e)
      (in_last (λ m. ltb m end) (entries T e) (entry T e) false (le-ltb _ end l)
      ∙ append-nil (below end (entries T e)))

-- The count of the entries so far.
pub record Counting (T : List ℕ) (end n e : ℕ) : Type 0 where
  pub less : n ≤ e
  pub is : n ≡ length (below end (entries T e))

pub counting_start : (T : List ℕ) (end : ℕ) → Counting T end 0 0
unfolding entries in_models
counting_start T end = record { less = omega arith; is = refl }

module _ {T : List ℕ} {end n e : ℕ} (h : Counting T end n e) where
  pub counting_one : get_or T (e * 4) 0 < end → Counting T end (n + 1) (e + 1)
  counting_one m = record {
    less = omega (arith, h.less);
    is = rw (below_next T end e m, length-append (below end (entries T e)) (entry T e ∷ []))
        (omega (arith, h.is));
  }

  pub counting_none : end ≤ get_or T (e * 4) 0 → Counting T end n (e + 1)
  counting_none m = record { less = omega (arith, h.less); is = rw (below_same T end e m) h.is }

-- The entries kept so far, and those that are still to be looked at.
pub record Keeping (T₀ T : List ℕ) (end kept e : ℕ) : Type 0 where
  pub less : kept ≤ e
  pub are : entries T kept ≡ below end (entries T₀ e)
  pub rest : (i : ℕ) → e * 4 ≤ i → get_or T₀ i 0 ≡ get_or T i 0
  pub long : length T ≡ length T₀

pub keeping_start : (T : List ℕ) (end : ℕ) → Keeping T T end 0 0
unfolding entries in_models
keeping_start T end = record { less = omega arith; are = refl; rest = λ i l. refl; long = refl }

module _ {T₀ T : List ℕ} {end kept e : ℕ} (h : Keeping T₀ T end kept e) where
  same_model : get_or T₀ (e * 4) 0 ≡ get_or T (e * 4) 0
  same_model = h.rest (e * 4) (omega arith)

  keeping_one : {T' : List ℕ} → get_or T (e * 4) 0 < end → Put T T' kept (entry T e)
      → Keeping T₀ T' end (kept + 1) (e + 1)
  keeping_one m o = record {
    less = omega (arith, h.less);
    are = rw (add-one kept, below_next T₀ end e (omega (arith, m, same_model)))
        (put_last o ∙ rw (h.are, entry_same T₀ T e (λ i x y. h.rest i x)) refl);
    rest = λ i x. h.rest i (omega (arith, x)) ∙ o.same i (inr (omega (arith, x, h.less)));
    long = o.long ∙ h.long;
  }

  keeping_none : end ≤ get_or T (e * 4) 0 → Keeping T₀ T end kept (e + 1)
  keeping_none m = record {
    less = omega (arith, h.less);
    are = rw (below_same T₀ end e (omega (arith, m, same_model))) h.are;
    rest = λ i x. h.rest i (omega (arith, x));
    long = h.long;
  }

-- The two ways of a step.
pub keeping_step : {T₀ T T' : List ℕ} {end kept e r : ℕ} → Keeping T₀ T end kept e
    → KeepsEntry T T' kept e end r → Keeping T₀ T' end r (e + 1)
keeping_step h o = elim o
    [ inl x ↦ rw x.0 (keeping_one h x.1.0 x.1.1) | inr x ↦ rw (x.0, x.1.1) (keeping_none h x.1.0) ]

-- Between what is kept at least and what is too much.
pub record Choosing (T : List ℕ) (count low end kept over : ℕ) : Type 0 where
  pub more : low < kept
  pub less : kept ≤ over
  pub most : over ≤ end
  pub half : (kept ≡ low + 1) ⊎ (length (below kept (entries T count)) ≤ count / 2)
