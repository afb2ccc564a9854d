-- What a table holds after a line was added.
use mathlib.Core.Path.{◌≡◌, refl, sym, ap, ◌∙◌}
use mathlib.Core.Bool.{true}
use mathlib.Core.Logic.{◌≢◌, inl, inr}
use mathlib.Core.Option.{some}
use mathlib.Core.List.{List, [], ◌∷◌, ◌++◌}
use Prim.Native.Nat.{ℕ, zero, suc, ◌+◌, ◌*◌, ◌<◌}
use native.Mathlib.Omega.{arith}
use borrow.Author.Tests.{eq-eqb, ne_eqb}
use lib.ListN.{length, set}
use Rattle.language.specs.Lists.{nth, inj, Never}
use Rattle.language.specs.WellFormed.{Each, each_nil, each_cons}
use Rattle.fleet.specs.Ranking.{Counted, add, plus, is_within, all_within}
use Rattle.fleet.specs.Entries.{entry, entries}
use Rattle.fleet.proofs.Entries.{entries_nth}
use Rattle.fleet.specs.LineLists.{Other, Distinct, distinct_cons}
use Rattle.fleet.proofs.Summing.{add_distinct, add_within, sums_with}
use Rattle.std.specs.Prelude.{Option, Some, None}
use Rattle.std.specs.Option.{ok_or}
use Rattle.sums.specs.declared.Unadded.TheVariants.{Exceeds}
use Rattle.sums.specs.Window.{Enters, Adds}
use Rattle.sums.specs.Window.{Put, Lacks, HasAt, Sized, Chained, Sums, SumsAfter}
use Rattle.sums.proofs.Tables.{put_last, put_at, put_other, chained_same, lacks_each, add_new}
use Rattle.sums.proofs.Tables.{distinct_last, within_last}
use Rattle.sums.proofs.Chains.{same_or_other}

-- The slices fit together while their lengths stay.
pub sized_same : {T H N T' H' N' : List ℕ} → length T' ≡ length T → length H' ≡ length H
    → length N' ≡ length N
    → Sized T H N → Sized T' H' N'
sized_same t h n s = record {
  buckets = omega (arith, s.buckets, h);
  table = omega (arith, s.table, t, n);
  least = omega (arith, s.least, n);
  most = omega (arith, s.most, n);
}

-- A new model.
module _ {T H N T' : List ℕ} {n : ℕ} {c : Counted} (s : Sums T H N n) (o : Put T T' n c) where
  -- The entries before the new one are chained as they were.
  pub enter_chained : Chained T' H N n
  enter_chained = chained_same T T' H N n
      (λ j l. ap (λ (x : Counted). x.model) (put_other o j (omega (arith, l)))) s.chained

  pub enter_after : {H' N' : List ℕ} → n < length N → Lacks T n c.model → is_within c ≡ true
      → Chained T' H' N' (suc n) → length H' ≡ length H → length N' ≡ length N
      → SumsAfter T H N T' H' N' (entries T n ++ (c ∷ [])) (suc n)
  enter_after l lacks w ch h k = record {
    sums = record {
      sized = sized_same o.long h k s.sized;
      count = omega (arith, l, k);
      chained = ch;
      distinct = rw (put_last o) (distinct_last c (entries T n) s.distinct
          (lacks_each T n c.model lacks));
      within = rw (put_last o, within_last c (entries T n), s.within, w) refl;
    };
    are = put_last o;
    kept = (o.long, (h, k));
  }

-- The sums of a model that stand at a place.
sums_with_at : (c : Counted) (ds : List Counted) (e : ℕ) (d : Counted) → nth ds e ≡ some d → Distinct ds
    → d.model ≡ c.model → (sums_with c ds ≡ plus d c) × (add c ds ≡ set ds e (plus d c))
unfolding nth add sums_with
sums_with_at c [] e d q g m = absurd (Never q)
sums_with_at c (x ∷ ds) zero d q g m =
    let z : x ≡ d = inj q in rw (z, eq-eqb d.model c.model m) (refl, refl)
sums_with_at c (x ∷ ds) (suc e) d q (distinct_cons o os) m =
    let r = sums_with_at c ds e d q os m in
    let y = ne_eqb x.model c.model (λ f. other ds e o q (sym (f ∙ sym m))) in
    rw (y) (r.0, ap (λ z. x ∷ z) r.1)
  where
    other : (ys : List Counted) (i : ℕ) → Each (Other x.model) ys → nth ys i ≡ some d → d.model ≢ x.model
    other [] i each_nil f = absurd (Never f)
    other (y ∷ ys) zero (each_cons k ks) f = rw (inj f) at k
    other (y ∷ ys) (suc i) (each_cons k ks) f = other ys i ks f

sums_with_new : (c : Counted) (ds : List Counted) → Each (Other c.model) ds → sums_with c ds ≡ c
unfolding sums_with
sums_with_new c [] each_nil = refl
sums_with_new c (d ∷ ds) (each_cons h hs) = rw (ne_eqb d.model c.model h) (sums_with_new c ds hs)

-- A model that has sums.
module _ {T H N : List ℕ} {n e : ℕ} (c : Counted) (s : Sums T H N n) (has : HasAt T n c.model e) where
  at_entry : (sums_with c (entries T n) ≡ plus (entry T e) c)
      × (add c (entries T n) ≡ set (entries T n) e (plus (entry T e) c))
  at_entry = sums_with_at c (entries T n) e (entry T e) (entries_nth T n e has.0) s.distinct has.1

  pub increase_within : all_within (add c (entries T n)) ≡ is_within (plus (entry T e) c)
  increase_within = add_within c (entries T n) s.within ∙ ap is_within at_entry.0

  pub increase_after : {T' : List ℕ} → Put T T' e (plus (entry T e) c) → is_within (plus (entry T e) c) ≡ true
      → SumsAfter T H N T' H N (add c (entries T n)) n
  increase_after {T'} o w = let q : entries T' n ≡ add c (entries T n) = put_at o n has.0
      ∙ sym at_entry.1 in
      record {
        sums = record {
          sized = sized_same o.long refl refl s.sized;
          count = s.count;
          chained = chained_same T T' H N n same s.chained;
          distinct = rw q (add_distinct c (entries T n) s.distinct);
          within = rw q (increase_within ∙ w);
        };
        are = q;
        kept = (o.long, (refl, refl));
      }
    where
      same : (j : ℕ) → j < n → (entry T j).model ≡ (entry T' j).model
      same j l = elim (same_or_other j e) [
        | inl y ↦ rw (y, o.is) refl
        | inr y ↦ ap (λ (x : Counted). x.model) (put_other o j y)
      ]

-- A line of a new model fits where it fits by itself.
pub enter_within : {T H N : List ℕ} {n : ℕ} (c : Counted) → Sums T H N n → Lacks T n c.model
    → all_within (add c (entries T n)) ≡ is_within c
enter_within {T} {H} {N} {n} c s lacks =
    let o = lacks_each T n c.model lacks in
    add_within c (entries T n) s.within ∙ ap is_within (sums_with_new c (entries T n) o)

pub has_room : {T H N : List ℕ} {n m e : ℕ} → Sums T H N n → HasAt T n m e → e * 4 + 3 < length T
has_room s h = omega (arith, h.0, s.count, s.sized.table)

-- A new model's line is the last.
pub entered : {T H N : List ℕ} (T' H' N' : List ℕ) {n : ℕ} (c : Counted) (r : Option ℕ) → Sums T H N n
    → Lacks T n c.model → Enters T H N T' H' N' n c r → Adds T H N T' H' N' n c (ok_or r Exceeds)
entered T' H' N' c None s lacks e = enter_within c s lacks ∙ e
entered {T} {H} {N} T' H' N' {n} c (Some k) s lacks e =
    rw (add_new c (entries T n) (lacks_each T n c.model lacks)) e.2
