-- What a window holds after a line: passed over, added, or added after the window was narrowed.
use mathlib.Core.Path.{◌≡◌, refl, sym, ap, ◌∙◌}
use mathlib.Core.Bool.{Bool, true, false, cond}
use mathlib.Core.Logic.{◌⊎◌, inl, inr}
use mathlib.Core.List.{List, [], ◌∷◌, ◌++◌}
use Prim.Native.Nat.{ℕ, ◌+◌, ◌/◌, ◌≤◌, ◌<◌}
use native.Mathlib.Omega.{arith}
use borrow.Author.Tests.{le-leb, lt-leb, lt-ltb, le-ltb, ltb-true}
use lib.Dec.{ltb}
use lib.ListN.{length}
use Rattle.language.specs.WellFormed.{Each, each_nil, each_cons}
use Rattle.language.proofs.Booleans.{and_inv}
use Rattle.fleet.specs.Ranking.{Counted, add, is_within, all_within}
use Rattle.fleet.specs.Entries.{entry, entries}
use Rattle.fleet.proofs.Entries.{entries_length}
use Rattle.fleet.specs.LineLists.{Other, Distinct, distinct_nil, distinct_cons, in_models}
use Rattle.fleet.proofs.Summing.{add_in_models}
use Rattle.sums.specs.declared.Window.{Window}
use Rattle.sums.specs.Window.{in_window, below, Lacks, Sized, Chained, SumsAfter, Open, Narrows}
use Rattle.sums.proofs.Tables.{each_entry, entry_each, lacks_each, add_new}
use Rattle.sums.proofs.Adding.{sized_same}

-- Tests that agree on some models choose the same of them.
agree : (p q : ℕ → Bool) (ds : List Counted) → Each (λ d. p d.model ≡ q d.model) ds
    → in_models p ds ≡ in_models q ds
unfolding in_models
agree p q [] each_nil = refl
agree p q (d ∷ ds) (each_cons h hs) = rw (h, agree p q ds hs) refl

pub all_same : (ds : List Counted) → in_models (λ _. true) ds ≡ ds
unfolding in_models
all_same [] = refl
all_same (d ∷ ds) = ap (λ z. d ∷ z) (all_same ds)

pub each_chosen : (P : Counted → Type 0) (p : ℕ → Bool) (ds : List Counted) → Each P ds
    → Each P (in_models p ds)
unfolding in_models
each_chosen P p [] each_nil = each_nil
each_chosen P p (d ∷ ds) (each_cons h hs) = go (p d.model) (each_chosen P p ds hs)
  where
    go : (b : Bool) → Each P (in_models p ds) → Each P (cond b (d ∷ in_models p ds) (in_models p ds))
    go true r = each_cons h r
    go false r = r

pub distinct_chosen : (p : ℕ → Bool) (ds : List Counted) → Distinct ds → Distinct (in_models p ds)
unfolding in_models
distinct_chosen p [] distinct_nil = distinct_nil
distinct_chosen p (d ∷ ds) (distinct_cons h hs) = go (p d.model) (distinct_chosen p ds hs)
  where
    go : (b : Bool) → Distinct (in_models p ds) → Distinct (cond b (d ∷ in_models p ds) (in_models p ds))
    go true r = distinct_cons (each_chosen (Other d.model) p ds h) r
    go false r = r

pub within_chosen : (p : ℕ → Bool) (ds : List Counted) → all_within ds ≡ true
    → all_within (in_models p ds) ≡ true
unfolding in_models all_within
within_chosen p [] e = refl
within_chosen p (d ∷ ds) e = let h = and_inv (is_within d) (all_within ds) e in
    go (p d.model) h.0 (within_chosen p ds h.1)
  where
    go : (b : Bool) → is_within d ≡ true → all_within (in_models p ds) ≡ true
        → all_within (cond b (d ∷ in_models p ds) (in_models p ds)) ≡ true
    go true h r = rw (h, r) refl
    go false h r = r

-- At most one model is below the number after the lowest.
one_lowest : (low : ℕ) (ds : List Counted) → Distinct ds → Each (λ d. low ≤ d.model) ds
    → length (below (low + 1) ds) ≤ 1
unfolding in_models
one_lowest low [] distinct_nil each_nil = omega arith
one_lowest low (d ∷ ds) (distinct_cons o os) (each_cons h hs) =
    go (ltb d.model (low + 1)) refl (one_lowest low ds os hs)
  where
    none : (xs : List Counted) → d.model ≡ low → Each (Other d.model) xs → Each (λ x. low ≤ x.model) xs
        → below (low + 1) xs ≡ []
    none [] q each_nil each_nil = refl
    none (x ∷ xs) q (each_cons k ks) (each_cons l ls) =
        rw (le-ltb x.model (low + 1) (omega (arith, k, l, q)), none xs q ks ls) refl

    go : (b : Bool) → ltb d.model (low + 1) ≡ b → length (below (low + 1) ds) ≤ 1
        → length (cond b (d ∷ below (low + 1) ds) (below (low + 1) ds)) ≤ 1
    go true e r = rw (none ds (omega (arith, ltb-true d.model (low + 1) e, h)) o hs) (omega arith)
    go false e r = r

module _ (low end m : ℕ) where
  pub window_in : low ≤ m → m < end → in_window low end m ≡ true
  window_in l h = rw (le-leb low m l, lt-ltb m end h) refl

  pub window_below : m < low → in_window low end m ≡ false
  window_below l = rw (lt-leb low m l) refl

  pub window_above : low ≤ m → end ≤ m → in_window low end m ≡ false
  window_above l h = rw (le-leb low m l, le-ltb m end h) refl

  window_ltb : low ≤ m → in_window low end m ≡ ltb m end
  window_ltb l = rw (le-leb low m l) refl

module _ {T H N : List ℕ} {low : ℕ} {w : Window} (o : Open T H N low w) where
  all_in : in_models (in_window low w.end) (entries T w.count) ≡ entries T w.count
  all_in = agree (in_window low w.end) (λ _. true) (entries T w.count)
      (each_entry (λ d. in_window low w.end d.model ≡ true) T w.count
      (λ j l. let h = o.all_in j l in window_in low w.end (entry T j).model h.0 h.1))
      ∙ all_same (entries T w.count)

  lower : (end : ℕ) → in_models (in_window low end) (entries T w.count) ≡ below end (entries T w.count)
  lower end = agree (in_window low end) (λ m. ltb m end) (entries T w.count)
      (each_entry (λ d. in_window low end d.model ≡ ltb d.model end) T w.count
      (λ j l. window_ltb low end (entry T j).model (o.all_in j l).0))

  -- A line of a model that is not in the window.
  pub passed_over : (c : Counted) → in_window low w.end c.model ≡ false
      → SumsAfter T H N T H N (in_models (in_window low w.end) (add c (entries T w.count))) w.count
  passed_over c q = record {
    sums = o.sums;
    are = sym (add_in_models (in_window low w.end) c (entries T w.count) ∙ rw q all_in);
    kept = (refl, (refl, refl));
  }

  -- A line that was added.
  pub taken_in : {T' H' N' : List ℕ} {k : ℕ} (c : Counted) → in_window low w.end c.model ≡ true
      → SumsAfter T H N T' H' N' (add c (entries T w.count)) k
      → SumsAfter T H N T' H' N' (in_models (in_window low w.end) (add c (entries T w.count))) k
  taken_in c q a = rw (add_in_models (in_window low w.end) c (entries T w.count), q, all_in) a

  -- Narrowing.
  pub narrowed : {T' H' N' : List ℕ} (v : Window) → w.count ≡ length N → low < v.end → v.end ≤ w.end
      → (v.end ≡ low + 1) ⊎ (length (below v.end (entries T w.count)) ≤ w.count / 2)
      → entries T' v.count ≡ below v.end (entries T w.count) → v.count ≤ w.count
      → length T' ≡ length T → Chained T' H' N' v.count → length H' ≡ length H → length N' ≡ length N
      → Narrows T H N T' H' N' low w v
  narrowed {T'} {H'} {N'} v full l m half q less t ch h n = record {
    wide = l;
    less = m;
    room = room half;
    after = record {
      sums = record {
        sized = sized_same t h n o.sums.sized;
        count = omega (arith, less, full, n);
        chained = ch;
        distinct = rw q (distinct_chosen (λ m. ltb m v.end) (entries T w.count) o.sums.distinct);
        within = rw q (within_chosen (λ m. ltb m v.end) (entries T w.count) o.sums.within);
      };
      are = q;
      kept = (t, (h, n));
    };
  }
    where
      many : v.count ≡ length (below v.end (entries T w.count))
      many = sym (entries_length T' v.count) ∙ ap length q

      room : (v.end ≡ low + 1) ⊎ (length (below v.end (entries T w.count)) ≤ w.count / 2)
          → v.count < length N'
      room x = elim x [
        | inl e ↦ let z = one_lowest low (entries T w.count) o.sums.distinct
            (each_entry (λ d. low ≤ d.model) T w.count (λ j l. (o.all_in j l).0)) in
            omega (arith, rw (sym e) at z, many, o.sums.sized.least, n)
        | inr e ↦ omega (arith, e, many, o.sums.sized.least, full, n)
      ]

  -- A line after narrowing: of a model that went, or a new one.
  module _ {T' H' N' : List ℕ} (v : Window) (x : Narrows T H N T' H' N' low w v) (c : Counted)
      (lacks : Lacks T w.count c.model) where
    pub gone : low ≤ c.model → v.end ≤ c.model
        → SumsAfter T H N T' H' N' (in_models (in_window low v.end) (add c (entries T w.count)))
        v.count
    gone l m = rw (
      add_in_models (in_window low v.end) c (entries T w.count),
      window_above low v.end c.model l m,
      lower v.end,
    ) x.after

    pub still_lacks : Lacks T' v.count c.model
    still_lacks = entry_each (Other c.model) T' v.count (rw x.after.are
        (each_chosen (Other c.model) (λ m. ltb m v.end) (entries T w.count)
        (lacks_each T w.count c.model lacks)))

    pub entered_after : {T'' H'' N'' : List ℕ} {k : ℕ} → low ≤ c.model → c.model < v.end
        → SumsAfter T' H' N' T'' H'' N'' (entries T' v.count ++ (c ∷ [])) k
        → SumsAfter T H N T'' H'' N'' (in_models (in_window low v.end) (add c (entries T w.count))) k
    entered_after l m a = record {
      sums = a.sums;
      are = a.are ∙ sym (add_in_models (in_window low v.end) c (entries T w.count)
          ∙ rw (window_in low v.end c.model l m, lower v.end, sym x.after.are)
          (add_new c (entries T' v.count) (lacks_each T' v.count c.model still_lacks)));
      kept = (
        a.kept.0 ∙ x.after.kept.0,
        (a.kept.1.0 ∙ x.after.kept.1.0, a.kept.1.1 ∙ x.after.kept.1.1),
      );
    }

-- A window over no sums.
pub opened : {T H N H' N' : List ℕ} → Sized T H N → Chained T H' N' 0 → length H' ≡ length H
    → length N' ≡ length N
    → SumsAfter T H N T H' N' [] 0
unfolding entries all_within
opened s ch h n = record {
  sums = record {
    sized = sized_same refl h n s;
    count = omega arith;
    chained = ch;
    distinct = distinct_nil;
    within = refl;
  };
  are = refl;
  kept = (refl, (h, n));
}
