-- Laws of a table's entries: a line put at one, added at the end, added to a model's sums.
use mathlib.Core.Path.{◌≡◌, refl, sym, ap, ◌∙◌}
use mathlib.Core.Bool.{◌&&◌, and-true, and_assoc}
use mathlib.Core.Logic.{◌≢◌, ◌⊎◌, inl, inr}
use mathlib.Core.Option.{some}
use mathlib.Core.List.{List, [], ◌∷◌, ◌++◌}
use Prim.Native.Nat.{ℕ, zero, suc, ◌+◌, ◌*◌, ◌≤◌, ◌<◌}
use native.Mathlib.Omega.{arith}
use borrow.Author.Tests.{ne_eqb}
use lib.ListN.{length, length-set, set}
use lib.Seq.{get_or-set_same, get_or-set_other}
use Rattle.language.specs.Lists.{nth, nth_lt, inj, Never}
use Rattle.language.proofs.Lines.{le_or_less}
use Rattle.language.specs.WellFormed.{Each, each_nil, each_cons}
use Rattle.fleet.specs.Ranking.{Counted, add, is_within, all_within}
use Rattle.fleet.specs.Entries.{counted, entry, entries}
use Rattle.fleet.proofs.Entries.{entry_same, entries_same, entries_length, entries_nth, entries_set}
use Rattle.fleet.specs.LineLists.{Other, Distinct, distinct_nil, distinct_cons}
use Rattle.sums.specs.Window.{Put, Lacks, bucket_of, bucket_at, Chained}

-- Four numbers written one after another.
module _ (T : List ℕ) (e m p s c : ℕ) (l : e * 4 + 3 < length T) where
  a : ℕ
  a = e * 4

  T₁ : List ℕ
  T₁ = set T (e * 4) m

  T₂ : List ℕ
  T₂ = set T₁ (e * 4 + 1) p

  T₃ : List ℕ
  T₃ = set T₂ (e * 4 + 2) s

  l₁ : length T₁ ≡ length T
  unfolding T₁
  l₁ = length-set T (e * 4) m

  l₂ : length T₂ ≡ length T
  unfolding T₂
  l₂ = length-set T₁ (e * 4 + 1) p ∙ l₁

  l₃ : length T₃ ≡ length T
  unfolding T₃
  l₃ = length-set T₂ (e * 4 + 2) s ∙ l₂

  pub put_four : Put T (set (set (set (set T (e * 4) m) (e * 4 + 1) p) (e * 4 + 2) s) (e * 4 + 3) c) e
      (counted m p s c)
  unfolding entry T₁ T₂ T₃
  put_four = record {
    is = rw (
      get_or-set_other T₃ (e * 4 + 3) (e * 4) c 0 (omega arith),
      get_or-set_other T₂ (e * 4 + 2) (e * 4) s 0 (omega arith),
      get_or-set_other T₁ (e * 4 + 1) (e * 4) p 0 (omega arith),
      get_or-set_same T (e * 4) m 0 (omega (arith, l)),
      get_or-set_other T₃ (e * 4 + 3) (e * 4 + 1) c 0 (omega arith),
      get_or-set_other T₂ (e * 4 + 2) (e * 4 + 1) s 0 (omega arith),
      get_or-set_same T₁ (e * 4 + 1) p 0 (omega (arith, l, l₁)),
      get_or-set_other T₃ (e * 4 + 3) (e * 4 + 2) c 0 (omega arith),
      get_or-set_same T₂ (e * 4 + 2) s 0 (omega (arith, l, l₂)),
      get_or-set_same T₃ (e * 4 + 3) c 0 (omega (arith, l, l₃)),
    ) refl;
    same = λ i o. sym (get_or-set_other T₃ (e * 4 + 3) i c 0 (away i 3 (omega arith) o)
        ∙ get_or-set_other T₂ (e * 4 + 2) i s 0 (away i 2 (omega arith) o)
        ∙ get_or-set_other T₁ (e * 4 + 1) i p 0 (away i 1 (omega arith) o)
        ∙ get_or-set_other T (e * 4) i m 0 (away₀ i o));
    long = length-set T₃ (e * 4 + 3) c ∙ l₃;
  }
    where
      away : (i k : ℕ) → k < 4 → (i < e * 4) ⊎ (e * 4 + 4 ≤ i) → i ≢ e * 4 + k
      away i k z o = elim o [ inl h ↦ omega (arith, h) | inr h ↦ omega (arith, h, z) ]

      away₀ : (i : ℕ) → (i < e * 4) ⊎ (e * 4 + 4 ≤ i) → i ≢ e * 4
      away₀ i o = elim o [ inl h ↦ omega (arith, h) | inr h ↦ omega (arith, h) ]

-- A line put past the others, or in the place of another.
module _ {T T' : List ℕ} {e : ℕ} {c : Counted} (h : Put T T' e c) where
  put_before : (n : ℕ) → n ≤ e → entries T n ≡ entries T' n
  put_before n l = entries_same T T' n (λ i m. h.same i (inl (omega (arith, l, m))))

  pub put_last : entries T' (suc e) ≡ entries T e ++ (c ∷ [])
  unfolding entries
  put_last = rw (h.is, put_before e (omega arith)) refl

  pub put_at : (n : ℕ) → e < n → entries T' n ≡ set (entries T n) e c
  put_at n l = sym (entries_set T T' n e l h.same) ∙ ap (set (entries T n) e) h.is

  pub put_other : (j : ℕ) → j ≢ e → entry T j ≡ entry T' j
  put_other j n = entry_same T T' j (λ i x y. h.same i (away i x y))
    where
      away : (i : ℕ) → j * 4 ≤ i → i < j * 4 + 4 → (i < e * 4) ⊎ (e * 4 + 4 ≤ i)
      away i x y = elim (le_or_less (suc j) e)
          [ inl z ↦ inl (omega (arith, z, y)) | inr z ↦ inr (omega (arith, z, x, n)) ]

-- Chains go by the models of the entries alone.
pub chained_same : (T T' H N : List ℕ) (n : ℕ) → ((j : ℕ) → j < n → (entry T j).model ≡ (entry T' j).model)
    → Chained T H N n → Chained T' H N n
chained_same T T' H N n same h = record {
  head_last = λ j l. rw (sym (at j l)) (h.head_last j l);
  head_own = λ b e l q. let o = h.head_own b e l q in (o.0, sym (at e o.0) ∙ o.1);
  next_last = λ e j l m q. h.next_last e j l m (at j (omega (arith, l, m)) ∙ q ∙ sym (at e l));
  next_own = λ e k l q. let o = h.next_own e k l q in
      (o.0, sym (at k (omega (arith, o.0, l))) ∙ o.1 ∙ at e l);
}
  where
    at : (j : ℕ) → j < n → bucket_at T H N j ≡ bucket_at T' H N j
    at j l = ap (bucket_of (length H)) (same j l)

-- What holds of every entry holds of each of the list.
pub each_entry : (P : Counted → Type 0) (T : List ℕ) (n : ℕ) → ((j : ℕ) → j < n → P (entry T j))
    → Each P (entries T n)
unfolding nth
each_entry P T n f = go (entries T n) (λ j d e.
    let l : j < n = omega (arith, nth_lt (entries T n) j d e, entries_length T n) in
    rw (inj (sym (entries_nth T n j l) ∙ e)) at (f j l))
  where
    go : (ds : List Counted) → ((j : ℕ) (d : Counted) → nth ds j ≡ some d → P d) → Each P ds
    go [] g = each_nil
    go (d ∷ ds) g = each_cons (g 0 d refl) (go ds (λ j x e. g (suc j) x e))

pub entry_each : (P : Counted → Type 0) (T : List ℕ) (n : ℕ) → Each P (entries T n) → (j : ℕ) → j < n
    → P (entry T j)
unfolding nth
entry_each P T n h j l = go (entries T n) h j (entries_nth T n j l)
  where
    go : (ds : List Counted) → Each P ds → (i : ℕ) → nth ds i ≡ some (entry T j) → P (entry T j)
    go [] each_nil i e = absurd (Never e)
    go (d ∷ ds) (each_cons g gs) zero e = rw (inj e) at g
    go (d ∷ ds) (each_cons g gs) (suc i) e = go ds gs i e

pub lacks_each : (T : List ℕ) (n m : ℕ) → Lacks T n m → Each (Other m) (entries T n)
lacks_each T n m h = each_entry (Other m) T n h

-- A line of a model that has no sums.
pub add_new : (c : Counted) (ds : List Counted) → Each (Other c.model) ds → add c ds ≡ ds ++ (c ∷ [])
unfolding add
add_new c [] each_nil = refl
add_new c (d ∷ ds) (each_cons h hs) = rw (ne_eqb d.model c.model h, add_new c ds hs) refl

pub distinct_last : (c : Counted) (ds : List Counted) → Distinct ds → Each (Other c.model) ds
    → Distinct (ds ++ (c ∷ []))
distinct_last c [] distinct_nil each_nil = distinct_cons each_nil distinct_nil
distinct_last c (d ∷ ds) (distinct_cons o os) (each_cons h hs) =
    distinct_cons (last ds o) (distinct_last c ds os hs)
  where
    last : (xs : List Counted) → Each (Other d.model) xs → Each (Other d.model) (xs ++ (c ∷ []))
    last [] each_nil = each_cons (λ e. h (sym e)) each_nil
    last (x ∷ xs) (each_cons k ks) = each_cons k (last xs ks)

pub within_last : (c : Counted) (ds : List Counted)
    → all_within (ds ++ (c ∷ [])) ≡ (all_within ds && is_within c)
unfolding all_within
within_last c [] = and-true (is_within c)
within_last c (d ∷ ds) = rw (within_last c ds) (sym (and_assoc (is_within d) (all_within ds) (is_within c)))
