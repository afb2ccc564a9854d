-- Laws of buckets and chains.
use mathlib.Core.Path.{◌≡◌, refl, sym, ap, ◌∙◌}
use mathlib.Core.Logic.{◌≢◌, ◌⊎◌, inl, inr}
use mathlib.Core.List.{List}
use Prim.Native.Nat.{ℕ, zero, suc, ◌+◌, ◌-◌, ◌*◌, ◌/◌, ◌^◌, ◌≤◌, ◌<◌}
use native.Mathlib.Omega.{arith}
use lib.Bits.{and_le_r}
use lib.ListN.{length, length-set, get_or, set}
use lib.Seq.{get_or-set_same, get_or-set_other}
use Rattle.language.proofs.Lines.{le_or_less, less_or_same}
use Rattle.fleet.specs.Entries.{entry}
use Rattle.sums.specs.Window.{bucket_of, bucket_at, Chained, Sums, SomeSums, Lacks, HasAt}

pub bucket_small : (n m : ℕ) → 1 ≤ n → bucket_of n m < n
unfolding bucket_of
bucket_small n m l = omega (arith, and_le_r (m * 2654435769 / 2 ^ 18) (n - 1), l)

-- The walk along the chain of a bucket: at an entry of it, from 1, or past its end; no entry from here on is of the model.
pub record Walking (T H N : List ℕ) (m at : ℕ) : Type 0 where
  pub own : (n e : ℕ) → Sums T H N n → at ≡ suc e → (e < n) × (bucket_at T H N e ≡ bucket_of (length H) m)
  pub passed : (n j : ℕ) → Sums T H N n → j < n → at ≤ j → (entry T j).model ≢ m

module _ (T H N : List ℕ) (m : ℕ) where
  -- A model has one bucket.
  same_bucket : (j : ℕ) → (entry T j).model ≡ m → bucket_at T H N j ≡ bucket_of (length H) m
  same_bucket j e = ap (bucket_of (length H)) e

  pub walk_start : SomeSums T H N → Walking T H N m (get_or H (bucket_of (length H) m) 0)
  walk_start s = record {
    own = λ n e t q. t.chained.head_own (bucket_of (length H) m) e
        (bucket_small (length H) m t.sized.buckets) q;
    passed = λ n j t l g e.
        let h = t.chained.head_last j l in omega (arith, g, rw (same_bucket j e) at h);
  }

  walk_step : (e : ℕ) → Walking T H N m (suc e) → (entry T e).model ≢ m → Walking T H N m (get_or N e 0)
  walk_step e w other = record {
    own = λ n k t q. let o = w.own n e t refl in let p = t.chained.next_own e k o.0 q in
        ((omega (arith, p.0, o.0)), (p.1 ∙ o.1));
    passed = λ n j t l g f. let o = w.own n e t refl in elim (le_or_less (suc e) j) [
      | inl h ↦ w.passed n j t l h f
      | inr h ↦ elim (less_or_same j e (omega (arith, h))) [
        | inl x ↦ let y = t.chained.next_last e j o.0 x (same_bucket j f ∙ sym o.1) in
            omega (arith, y, g)
        | inr x ↦ other (rw x at f)
      ]
    ];
  }

  pub walk_end : Walking T H N m 0 → (n : ℕ) → Sums T H N n → Lacks T n m
  walk_end w n s = λ j l. w.passed n j s l (omega arith)

pub same_or_other : (a b : ℕ) → (a ≡ b) ⊎ (a ≢ b)
same_or_other a b = elim (le_or_less a b) [
  | inl h ↦ elim (less_or_same a b h) [ inl x ↦ inr (omega (arith, x)) | inr x ↦ inl x ]
  | inr h ↦ inr (omega (arith, h))
]

-- One more entry, at the head of its bucket.
module _ (T H N H' N' : List ℕ) (e : ℕ) (h : Chained T H N e)
    (long : length H' ≡ length H)
    (head : get_or H' (bucket_at T H N e) 0 ≡ suc e)
    (heads : (i : ℕ) → i ≢ bucket_at T H N e → get_or H' i 0 ≡ get_or H i 0)
    (next : get_or N' e 0 ≡ get_or H (bucket_at T H N e) 0)
    (nexts : (i : ℕ) → i ≢ e → get_or N' i 0 ≡ get_or N i 0) where
  at : (j : ℕ) → bucket_at T H' N' j ≡ bucket_at T H N j
  at j = ap (λ (n : ℕ). bucket_of n (entry T j).model) long

  chained_next : bucket_at T H N e < length H → Chained T H' N' (suc e)
  chained_next small = record {
    head_last = λ j l. rw (at j) (elim (same_or_other (bucket_at T H N j) (bucket_at T H N e)) [
      | inl q ↦ rw (q, head) (omega (arith, l))
      | inr q ↦ elim (less_or_same j e (omega (arith, l))) [
        | inl x ↦ rw (heads _ q) (h.head_last j x)
        | inr x ↦ absurd (q (ap (bucket_at T H N) x))
      ]
    ]);
    head_own = λ i k l q. rw (at k) (elim (same_or_other i (bucket_at T H N e)) [
      | inl x ↦ let z : suc e ≡ suc k = sym head ∙ rw x at q in let y : k ≡ e = omega (arith, z) in
          rw y ((omega arith), sym x)
      | inr x ↦ let o = h.head_own i k (omega (arith, l, long)) (sym (heads i x) ∙ q) in
          ((omega (arith, o.0)), o.1)
    ]);
    next_last = λ x j l m q. elim (same_or_other x e) [
      | inl y ↦ rw (y, next) (rw (sym (at j) ∙ q ∙ at x ∙ ap (bucket_at T H N) y) at
          (h.head_last j (omega (arith, m, y))))
      | inr y ↦ rw (nexts x y) (h.next_last x j (omega (arith, l, y)) m (sym (at j) ∙ q ∙ at x))
    ];
    next_own = λ x k l q. elim (same_or_other x e) [
      | inl y ↦ let o = h.head_own (bucket_at T H N e) k small (sym next ∙ rw y at q) in
          ((omega (arith, o.0, y)), at k ∙ o.1 ∙ ap (bucket_at T H N) (sym y) ∙ sym (at x))
      | inr y ↦ let o = h.next_own x k (omega (arith, l, y)) (sym (nexts x y) ∙ q) in
          (o.0, at k ∙ o.1 ∙ sym (at x))
    ];
  }

pub chained_set : (T H N : List ℕ) (e b : ℕ) → e < length N → Chained T H N e
    → b ≡ bucket_of (length H) (get_or T (e * 4) 0) → b < length H
    → Chained T (set H b (e + 1)) (set N e (get_or H b 0)) (suc e)
unfolding entry
chained_set T H N e b l h q small = chained_next T H N _ _ e h
    (length-set H b (e + 1))
    (rw (sym q) (get_or-set_same H b (e + 1) 0 small ∙ omega arith))
    (λ i n. get_or-set_other H b i (e + 1) 0 (rw (sym q) at n))
    (rw (sym q) (get_or-set_same N e (get_or H b 0) 0 l))
    (λ i n. get_or-set_other N e i (get_or H b 0) 0 n)
    (rw (sym q) small)

-- Where the walk is at an entry, that entry is in the table.
pub walk_in : (T H N : List ℕ) (m at : ℕ) → SomeSums T H N → Walking T H N m at → (at ≡ 0 → ⊥)
    → (1 ≤ at) × ((at - 1 < length N) × (((at - 1) * 4 < length T) × (at ≤ 65535)))
walk_in T H N m at s w q =
    let o = w.own s.count (at - 1) s.sums (omega (arith, q)) in
    let z = s.sums.sized in (
      (omega (arith, q)),
      (
        (omega (arith, o.0, s.sums.count)),
        ((omega (arith, o.0, s.sums.count, z.table)), (omega (arith, o.0, s.sums.count, z.most))),
      ),
    )

-- The step and the end of a walk as the code takes them.
module _ (T H N : List ℕ) (m at : ℕ) (q : at ≡ 0 → ⊥) where
  back : suc (at - 1) ≡ at
  back = omega (arith, q)

  pub walk_on : Walking T H N m at → (get_or T ((at - 1) * 4) 0 ≡ m → ⊥) → Walking T H N m (get_or N (at - 1) 0)
  unfolding entry
  walk_on w other = walk_step T H N m (at - 1) (rw back w) other

  pub walk_at : Walking T H N m at → get_or T ((at - 1) * 4) 0 ≡ m → (n : ℕ) → Sums T H N n
      → HasAt T n m (at - 1)
  unfolding entry
  walk_at w same n s = ((w.own n (at - 1) s (sym back)).0, same)

  pub walk_less : SomeSums T H N → Walking T H N m at → get_or N (at - 1) 0 < at
  walk_less s w = let o = w.own s.count (at - 1) s.sums (omega (arith, q)) in
      go (get_or N (at - 1) 0) refl o.0
    where
      go : (k : ℕ) → get_or N (at - 1) 0 ≡ k → at - 1 < s.count → get_or N (at - 1) 0 < at
      go zero e l = omega (arith, e, q)
      go (suc k) e l = let x = s.sums.chained.next_own (at - 1) k l e in omega (arith, e, x.0)

-- The entries before e are chained.
pub record Chaining (T H₀ N₀ H N : List ℕ) (e : ℕ) : Type 0 where
  pub chained : Chained T H N e
  pub heads : length H ≡ length H₀
  pub nexts : length N ≡ length N₀
