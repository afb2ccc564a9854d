-- Laws of entering a term: after it the table tells the terms that rule with the new one among them. Assumes nothing.
use mathlib.Core.Path.{◌≡◌, refl, sym, ap, ◌∙◌}
use mathlib.Core.Bool.{Bool, true, false, cond, ◌&&◌}
use mathlib.Core.List.{List, [], ◌∷◌, ◌++◌}
use mathlib.Core.Option.{Option, none, some}
use Prim.Native.Nat.{ℕ, zero, suc, ◌+◌, ◌-◌, ◌≤◌, ◌<◌}
use native.Mathlib.Numerals.{add-one}
use native.Mathlib.Omega.{arith}
use borrow.Author.Tests.{leb-true, leb-false, eq-eqb, ne_eqb, eqb-true, eqb-false, lt-ltb, le-ltb}
use lib.Dec.{eqb, leb, ltb}
use lib.ListN.{length, get_or, set, length-set}
use lib.Seq.{get_or-set_same, get_or-set_other}
use Rattle.std.specs.Prelude.{Option as Kept, Some, None}
use Rattle.prices.specs.Terms.{Term, next_line}
use Rattle.prices.specs.Prices.{covers, ruling}
use Rattle.terms.specs.declared.Entry.{Entry}
use Rattle.terms.specs.Tables.{entry, kept, Ruled}
use Rattle.prices.proofs.Terms.{next_term}
use Rattle.prices.proofs.Rulings.{after, ruling_append}
use Rattle.terms.specs.Entering.{is_outranked, day_entered, entered_if, days_entered}
use Rattle.terms.specs.Entering.{term_entered}

-- ---- one day

module _ (table : List (Kept Entry)) (i : ℕ) (e : Entry) where
  pub day_outranked : is_outranked (get_or table i None) e.signing ≡ true → table ≡ day_entered table i e
  unfolding day_entered
  day_outranked q = rw q

  pub day_written : is_outranked (get_or table i None) e.signing ≡ false
      → set table i (Some e) ≡ day_entered table i e
  unfolding day_entered
  day_written q = rw q

  day_long : length (day_entered table i e) ≡ length table
  unfolding day_entered
  day_long = go (is_outranked (get_or table i None) e.signing)
    where
      go : (b : Bool) → length (cond b table (set table i (Some e))) ≡ length table
      go true = refl
      go false = length-set table i (Some e)

  -- the other days stay
  day_there : (j : ℕ) → (j ≡ i → ⊥) → get_or (day_entered table i e) j None ≡ get_or table j None
  unfolding day_entered
  day_there j n = go (is_outranked (get_or table i None) e.signing)
    where
      go : (b : Bool) → get_or (cond b table (set table i (Some e))) j None ≡ get_or table j None
      go true = refl
      go false = get_or-set_other table i j (Some e) None n

abbrev entry_of : Term → Entry
entry_of t = entry t.line t.signing t.cents

day_here : (table : List (Kept Entry)) (i : ℕ) (o : Option Term) (t : Term) → i < length table
    → get_or table i None ≡ kept o → get_or (day_entered table i (entry_of t)) i None ≡ kept (after o t)
unfolding day_entered
day_here table i none t h k = rw k (get_or-set_same table i (Some (entry_of t)) None h)
day_here table i (some u) t h k = rw k (go (leb u.signing t.signing) refl)
  where
    go : (b : Bool) → leb u.signing t.signing ≡ b
        → get_or (cond (ltb t.signing u.signing) table (set table i (Some (entry_of t)))) i None
        ≡ kept (cond b (some t) (some u))
    go true e = rw (le-ltb t.signing u.signing (leb-true u.signing t.signing e))
        (get_or-set_same table i (Some (entry_of t)) None h)
    go false e = rw (lt-ltb t.signing u.signing (leb-false u.signing t.signing e)) k

-- ---- some days

module _ (day first last : ℕ) (e : Entry) where
  covered_long : (b : Bool) (table : List (Kept Entry)) (i : ℕ)
      → length (entered_if day first last e b table i) ≡ length table
  covered_long true table i = day_long table i e
  covered_long false table i = refl

  covered_there : (b : Bool) (table : List (Kept Entry)) (i j : ℕ) → (j ≡ i → ⊥)
      → get_or (entered_if day first last e b table i) j None ≡ get_or table j None
  covered_there true table i j n = day_there table i e j n
  covered_there false table i j n = refl

  days_long : (left i : ℕ) (table : List (Kept Entry))
      → length (days_entered day first last e table i left) ≡ length table
  unfolding days_entered
  days_long zero i table = refl
  days_long (suc left) i table =
      days_long left (suc i) (entered_if day first last e (covers first last (day + i)) table i)
      ∙ covered_long (covers first last (day + i)) table i

  days_before : (left i k : ℕ) (table : List (Kept Entry)) → k < i
      → get_or (days_entered day first last e table i left) k None ≡ get_or table k None
  unfolding days_entered
  days_before zero i k table h = refl
  days_before (suc left) i k table h =
      days_before left (suc i) k (entered_if day first last e (covers first last (day + i)) table i)
      (omega (arith, h))
      ∙ covered_there (covers first last (day + i)) table i k (λ q. omega (arith, h, q))

module _ (day first last : ℕ) (t : Term) where
  covered_here : (b : Bool) (table : List (Kept Entry)) (i : ℕ) (o : Option Term) → i < length table
      → get_or table i None ≡ kept o
      → get_or (entered_if day first last (entry_of t) b table i) i None ≡ kept (cond b (after o t) o)
  covered_here true table i o h k = day_here table i o t h k
  covered_here false table i o h k = k

  days_at : (left i k : ℕ) (table : List (Kept Entry)) (o : Option Term) → k < length table
      → i ≤ k → k < i + left → get_or table k None ≡ kept o
      → get_or (days_entered day first last (entry_of t) table i left) k None
      ≡ kept (cond (covers first last (day + k)) (after o t) o)
  unfolding days_entered
  days_at zero i k table o h l u p = absurd (omega (arith, l, u))
  days_at (suc left) i k table o h l u p =
      go (eqb k i) refl (λ l u h p. days_at left (suc i) k next o h l u p)
    where
      next : List (Kept Entry)
      next = entered_if day first last (entry_of t) (covers first last (day + i)) table i

      go : (b : Bool) → eqb k i ≡ b
          → (suc i ≤ k → k < suc i + left → k < length next → get_or next k None ≡ kept o
          → get_or (days_entered day first last (entry_of t) next (suc i) left) k None
          ≡ kept (cond (covers first last (day + k)) (after o t) o))
          → get_or (days_entered day first last (entry_of t) next (suc i) left) k None
          ≡ kept (cond (covers first last (day + k)) (after o t) o)
      go true e ih =
          let q : k ≡ i = eqb-true k i e in
          let here : get_or next k None ≡ kept (cond (covers first last (day + k)) (after o t) o) =
          rw (← q) (covered_here (covers first last (day + k)) table k o h p) in
          days_before day first last (entry_of t) left (suc i) k next (omega (arith, q)) ∙ here
      go false e ih =
          let d = eqb-false k i e in
          ih (omega (arith, l, d)) (omega (arith, u))
          (omega (arith, h, covered_long day first last (entry_of t) (covers first last (day + i)) table i))
          (covered_there day first last (entry_of t) (covers first last (day + i)) table i k d ∙ p)

-- What holds between two days while a term is entered.
pub record Entering (day first last : ℕ) (e : Entry) (count : ℕ) (table₀ table : List (Kept Entry)) (i : ℕ) : Type 0
  where
    pub within : i ≤ count
    pub long : length table ≡ length table₀
    pub left : days_entered day first last e table₀ 0 count ≡ days_entered day first last e table i (count - i)

days_step : (day first last : ℕ) (e : Entry) (table : List (Kept Entry)) (i left : ℕ)
    → days_entered day first last e table i (suc left)
    ≡ days_entered day first last e (entered_if day first last e (covers first last (day + i)) table i) (suc i) left
unfolding days_entered
days_step day first last e table i left = refl

module _ {day first last : ℕ} {e : Entry} {count : ℕ} where
  pub entering_start : (table : List (Kept Entry)) → Entering day first last e count table table 0
  entering_start table =
      let z : count - 0 ≡ count = omega arith in
      record { within = omega arith; long = refl; left = rw z }

  module _ {table₀ table : List (Kept Entry)} {i : ℕ} (p : Entering day first last e count table₀ table i) where
    pub entering_done : count ≤ i → table ≡ days_entered day first last e table₀ 0 count
    unfolding days_entered
    entering_done h = let z : count - i ≡ 0 = omega (arith, h) in sym (rw z at p.left)

    pub entering_step : i < count → (b : Bool) → covers first last (day + i) ≡ b → (table' : List (Kept Entry))
        → table' ≡ entered_if day first last e b table i → Entering day first last e count table₀ table' (i + 1)
    entering_step h b c table' w =
        let z : count - i ≡ suc (count - (i + 1)) = omega (arith, h) in
        record {
          within = omega (arith, h);
          long = ap length w ∙ (covered_long day first last e b table i ∙ p.long);
          left = p.left ∙ rw (z, days_step day first last e table i (count - (i + 1)), c, w, add-one i);
        }

-- a term is entered if its model is the one asked for
module _ (model day count of first last : ℕ) (e : Entry) (table : List (Kept Entry)) where
  pub entered_of : of ≡ model → days_entered day first last e table 0 count
      ≡ term_entered model day count of first last e table
  entered_of q = rw (eq-eqb of model q)

  pub entered_other : (of ≡ model → ⊥) → table ≡ term_entered model day count of first last e table
  entered_other n = rw (ne_eqb of model n)

-- ---- the terms that rule

module _ {model day count : ℕ} {table : List (Kept Entry)} {ts : List Term} (r : Ruled model day count table ts)
    (few : count ≤ 31) (m f l c g : ℕ) where
  abbrev t : Term
  t = next_term ts m f l c g

  ruled-day : (k : ℕ) → k < count
      → get_or (term_entered model day count m f l (entry_of t) table) k None
      ≡ kept (ruling model (day + k) (ts ++ (t ∷ [])))
  ruled-day k h = rw (ruling_append model (day + k) ts t) (go (eqb m model))
    where
      o : Option Term
      o = ruling model (day + k) ts

      go : (b : Bool)
          → get_or (cond b (days_entered day f l (entry_of t) table 0 count) table) k None
          ≡ kept (cond (b && covers f l (day + k)) (after o t) o)
      go true = days_at day f l t count 0 k table o (omega (arith, h, few, r.long)) (omega arith) (omega (arith, h))
          (r.each k h)
      go false = r.each k h

  term-long : length (term_entered model day count m f l (entry_of t) table) ≡ length table
  term-long = go (eqb m model)
    where
      go : (b : Bool) → length (cond b (days_entered day f l (entry_of t) table 0 count) table) ≡ length table
      go true = days_long day f l (entry_of t) count 0 table
      go false = refl

  pub ruled_more : Ruled model day count (term_entered model day count m f l (entry (next_line ts) g c) table)
      (ts ++ (t ∷ []))
  ruled_more = record { long = term-long ∙ r.long; each = ruled-day }
