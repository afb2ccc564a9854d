-- One more label spoiled on a line moves its model no further up in the report over all lines. Assumes nothing.
use mathlib.Core.Path.{◌≡◌, refl, sym, ap, ◌∙◌}
use mathlib.Core.Logic.{◌↔◌, ◌≢◌}
use Prim.Native.Nat.{ℕ, suc, ◌+◌, ◌≤◌, ◌<◌}
use native.Mathlib.Nat.{zero-add}
use native.Mathlib.Omega.{arith}
use borrow.Author.Tests.{eq-eqb, ne_eqb}
use mathlib.Core.Bool.{cond}
use mathlib.Core.List.{List, [], ◌∷◌, ◌++◌, map}
use mathlib.Core.Option.{some}
use lib.Dec.{eqb}
use Rattle.language.specs.Results.{accept}
use Rattle.language.specs.WellFormed.{Each, each_nil, each_cons}
use Rattle.fleet.specs.Ranking.{Counted, insert, sums, ranked}
use Rattle.fleet.specs.LineLists.{one_more_spoiled}
use Rattle.fleet.specs.LineLists.{Other, Distinct, distinct_cons}
use Rattle.fleet.specs.LineLists.{Permuted}
use Rattle.fleet.proofs.Sorting.{permuted_back, each_permuted, distinct_permuted, ranked_unique}
use Rattle.promises.specs.Totals.{Has, has_here, has_later, total, totals, SumsOf, place_of}
use Rattle.promises.proofs.fleets.SumLaws.{added_sums}
use Rattle.promises.proofs.fleets.SumEndings.{sums_are}
use Rattle.promises.proofs.fleets.ReportLaws.{has_permuted, put_first, no_model, same_sums}
use Rattle.promises.proofs.fleets.ReportOrder.{insert_spoiled}
use Rattle.promises.proofs.fleets.ReportParts.{has_append, total_append}

-- The sums of lines with one model put first.
record Parted (xs : List Counted) (m : ℕ) (ds : List Counted) : Type 0 where
  others : List Counted
  ranking : ranked ds ≡ insert (totals xs m) (ranked others)
  apart : Distinct others
  without : Each (Other m) others
  there : (k : ℕ) → k ≢ m → Has k xs ↔ Has k others
  exact : Each (λ (d : Counted). d ≡ totals xs d.model) others

parted : (xs : List Counted) (m : ℕ) (ds : List Counted) → Has m xs → SumsOf xs ds → Parted xs m ds
unfolding ranked
parted xs m ds h s = let f = put_first ((s.same_models m).0 h) in
    go f.first f.others f.of_model f.moved (distinct_permuted f.moved s.one_a_model)
    (each_permuted f.moved s.exact)
  where
    go : (d : Counted) (others : List Counted) → d.model ≡ m → Permuted ds (d ∷ others)
        → Distinct (d ∷ others)
        → Each (λ (d : Counted). d ≡ totals xs d.model) (d ∷ others) → Parted xs m ds
    go d others e p (distinct_cons n ns) (each_cons t ts) = record {
      others = others;
      ranking = ranked_unique p s.one_a_model
          ∙ ap (λ (x : Counted). insert x (ranked others)) (t ∙ ap (totals xs) e);
      apart = ns;
      without = rw e at n;
      there = λ k q. (
        λ a. past (has_permuted p ((s.same_models k).0 a)) (λ b. q (sym b ∙ e)),
        λ a. (s.same_models k).1 (has_permuted (permuted_back p) (has_later a)),
      );
      exact = ts;
    }
      where
        past : {k : ℕ} {ys : List Counted} → Has k (d ∷ ys) → d.model ≢ k → Has k ys
        past (has_here a) b = absurd (b a)
        past (has_later a) b = a

module _ (us : List Counted) (c : Counted) (vs : List Counted) where
  abbrev lines : List Counted
  lines = us ++ (c ∷ vs)

  abbrev lines' : List Counted
  lines' = us ++ (one_more_spoiled c ∷ vs)

  same_has : (k : ℕ) → Has k lines ↔ Has k lines'
  same_has k = (has_append {xs = us} {ys = us} (λ h. h) forth, has_append {xs = us} {ys = us} (λ h. h) back)
    where
      forth : Has k (c ∷ vs) → Has k (one_more_spoiled c ∷ vs)
      forth (has_here h) = has_here h
      forth (has_later h) = has_later h

      back : Has k (one_more_spoiled c ∷ vs) → Has k (c ∷ vs)
      back (has_here h) = has_here h
      back (has_later h) = has_later h

  has_it : Has c.model lines
  has_it = go us
    where
      go : (us : List Counted) → Has c.model (us ++ (c ∷ vs))
      go [] = has_here refl
      go (u ∷ us) = has_later (go us)

  -- What the line adds to a total, with one more label spoiled, is what its total grows by.
  total_grows : (of : Counted → ℕ) (k more : ℕ)
      → cond (eqb c.model k) (of (one_more_spoiled c)) 0 ≡ more + cond (eqb c.model k) (of c) 0
      → total of k lines' ≡ more + total of k lines
  unfolding total
  total_grows of k more e =
      omega (arith, e, total_append of k us (c ∷ vs), total_append of k us (one_more_spoiled c ∷ vs))

  same_total : (of : Counted → ℕ) (k : ℕ)
      → cond (eqb c.model k) (of (one_more_spoiled c)) 0 ≡ cond (eqb c.model k) (of c) 0
      → total of k lines' ≡ total of k lines
  same_total of k e = total_grows of k 0 (e ∙ sym (zero-add _)) ∙ zero-add (total of k lines)

  other_totals : (k : ℕ) → c.model ≢ k → totals lines' k ≡ totals lines k
  other_totals k n = rw (
    same_total (λ x. x.printed) k refl,
    same_total (λ x. x.spoiled) k (rw (ne_eqb c.model k n)),
    same_total (λ x. x.cents) k refl,
  )

  more_totals : totals lines' c.model ≡ one_more_spoiled (totals lines c.model)
  more_totals =
      let g = total_grows (λ x. x.spoiled) c.model 1
      (rw (eq-eqb c.model c.model refl) (omega arith)) in
      let h : total (λ x. x.spoiled) c.model lines' ≡ suc (total (λ x. x.spoiled) c.model lines) =
      omega (arith, g) in
      rw (same_total (λ x. x.printed) c.model refl, h, same_total (λ x. x.cents) c.model refl)

  other_exact : {ds : List Counted} → Each (Other c.model) ds
      → Each (λ (d : Counted). d ≡ totals lines' d.model) ds
      → Each (λ (d : Counted). d ≡ totals lines d.model) ds
  other_exact each_nil each_nil = each_nil
  other_exact (each_cons {a} n ns) (each_cons e es) =
      each_cons (e ∙ other_totals a.model (λ f. n (sym f))) (other_exact ns es)

  pub report_spoiled : total (λ x. x.spoiled) c.model lines < total (λ x. x.printed) c.model lines
      → (n k : ℕ) (ds es : List Counted)
      → sums n (map some lines) ≡ accept ds → sums k (map some lines') ≡ accept es
      → place_of c.model (ranked ds) ≤ place_of c.model (ranked es)
  report_spoiled h n k ds es e f =
      let m = c.model in
      let p = parted lines m ds has_it (rw (← (sums_are n lines ds e)) at (added_sums lines)) in
      let q = parted lines' m es ((same_has m).0 has_it)
      (rw (← (sums_are k lines' es f)) at (added_sums lines')) in
      let r = same_sums (totals lines) p.apart q.apart (both p q) p.exact
      (other_exact q.without q.exact) in
      rw (p.ranking, q.ranking, more_totals, ← (ranked_unique r p.apart))
      (insert_spoiled (totals lines m) (ranked p.others) h)
    where
      differ : {k m : ℕ} {ds : List Counted} → Each (Other m) ds → Has k ds → k ≢ m
      differ n a e = no_model n (rw e at a)

      both : (p : Parted lines c.model ds) (q : Parted lines' c.model es) (k : ℕ)
          → Has k p.others ↔ Has k q.others
      both p q k = (
        λ a. let d = differ p.without a in (q.there k d).0 ((same_has k).0 ((p.there k d).1 a)),
        λ a. let d = differ q.without a in (p.there k d).0 ((same_has k).1 ((q.there k d).1 a)),
      )
