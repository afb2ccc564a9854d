-- The term that rules is the one with the highest signing number among those that hold; the price of a day is its
-- price, and a price is refused exactly as listed. Assumes nothing.
use mathlib.Core.Path.{◌≡◌, refl, sym, ap, ◌∙◌}
use mathlib.Core.Logic.{◌↔◌, ◌≢◌}
use mathlib.Core.Bool.{Bool, true, false, cond, ◌&&◌}
use mathlib.Core.List.{List, [], ◌∷◌}
use mathlib.Core.Option.{Option, none, some}
use Prim.Native.Nat.{ℕ, zero, suc, ◌≤◌, ◌<◌}
use native.Mathlib.Omega.{arith}
use borrow.Author.Tests.{eqb-true, eq-eqb, leb-true, leb-false, le-leb, lt-leb, ltb-true, ltb-false}
use lib.Dec.{eqb, leb, ltb}
use Rattle.std.specs.Prelude.{Option as Maybe, Some, None, Result, Ok, Err}
use Rattle.language.specs.declared.Refusal.{Refusal}
use Rattle.language.proofs.Refusals.{err_injective}
use Rattle.prices.specs.declared.Price.{Price}
use Rattle.promises.proofs.prices.CalendarAnswers.{not_done}
use Rattle.prices.specs.Prices.{price}
use Rattle.language.specs.Refusals.{refusal}
use Rattle.language.proofs.Booleans.{false≢, and_inv}
use Rattle.language.specs.Limits.{no_line}
use Rattle.language.specs.Lists.{nth, Never, inj}
use Rattle.language.specs.Results.{Checked, accept, refuse, require, bind_checked}
use Rattle.prices.specs.Calendar.{date, date_refusal, date_of, day_of}
use Rattle.prices.specs.declared.Date.{Date}
use Rattle.prices.proofs.Calendar.{date_of_day_of, day_refused, no_day}
use Rattle.prices.specs.Terms.{Term, terms_of}
use Rattle.prices.specs.Prices.{holds, higher, ruling, term_on, told_price, price_on_day, price_on_date}
use Rattle.prices.specs.Reports.{cents_of, cents_on}
use Rattle.promises.specs.PriceWords.{largest_day, ProperTerms, HoldsOn, HighestTerm, PricedBy}
use Rattle.promises.specs.PriceWords.{NoneHolds, PriceRefusal, price_by_text, no_such_day}
use Rattle.promises.specs.PriceWords.{TermsRefusal, DatePriceRefusal, date_price_by_text, no_such_date}
use Rattle.promises.proofs.prices.TermsRead.{terms_accepted, terms_refused}

-- ---- the term that rules

module _ (model day : ℕ) where
  pub holds_if : (t : Term) → holds model day t ≡ true → HoldsOn model day t
  holds_if t e =
      let a = and_inv (eqb t.model model) (leb t.first day && leb day t.last) e in
      let b = and_inv (leb t.first day) (leb day t.last) a.1 in record {
        of_model = eqb-true t.model model a.0;
        from = leb-true t.first day b.0;
        to = leb-true day t.last b.1;
      }

  holds_is : (t : Term) → HoldsOn model day t → holds model day t ≡ true
  holds_is t h =
      rw (
        eq-eqb t.model model h.of_model,
        le-leb t.first day h.from,
        le-leb day t.last h.to,
      )

  pub holds_not : (t : Term) → ¬ HoldsOn model day t → holds model day t ≡ false
  holds_not t h = go (holds model day t) refl
    where
      go : (b : Bool) → holds model day t ≡ b → b ≡ false
      go true e = absurd (h (holds_if t e))
      go false e = refl

  pub data Rules (ts : List Term) : Option Term → Type 0 where
    is_highest : {t : Term} → HighestTerm model day ts t → Rules ts (some t)
    none_holds : NoneHolds model day ts → Rules ts none

  -- A term before others that does not hold changes nothing; one that holds rules unless the others have a higher one.
  module _ (t : Term) (ts : List Term) where
    not_first : holds model day t ≡ false → (r : Option Term) → Rules ts r → Rules (t ∷ ts) r
    unfolding nth
    not_first e none (none_holds f) = none_holds go
      where
        go : (i : ℕ) (u : Term) → nth (t ∷ ts) i ≡ some u → ¬ HoldsOn model day u
        go zero u q h = false≢ (sym e ∙ holds_is t (rw (← inj q) at h))
        go (suc i) u q h = f i u q h
    not_first e (some v) (is_highest w) =
        is_highest (record {
          place = suc w.place;
          there = w.there;
          holds_then = w.holds_then;
          highest =
              go;
        })
      where
        go : (i : ℕ) (u : Term) → nth (t ∷ ts) i ≡ some u → HoldsOn model day u → u.signing ≤ v.signing
        go zero u q h = false≢ (sym e ∙ holds_is t (rw (← inj q) at h))
        go (suc i) u q h = w.highest i u q h

    first-or : holds model day t ≡ true → (r : Option Term) → Rules ts r → Rules (t ∷ ts) (higher t r)
    unfolding nth
    first-or e none (none_holds f) =
        is_highest (record { place = 0; there = refl; holds_then = holds_if t e; highest = go })
      where
        go : (i : ℕ) (u : Term) → nth (t ∷ ts) i ≡ some u → HoldsOn model day u → u.signing ≤ t.signing
        go zero u q h = rw (inj q) (omega arith)
        go (suc i) u q h = absurd (f i u q h)
    first-or e (some v) (is_highest w) = by-test (ltb v.signing t.signing) refl
      where
        by-test : (b : Bool) → ltb v.signing t.signing ≡ b → Rules (t ∷ ts) (cond b (some t) (some v))
        by-test true q = is_highest (record {
          place = 0;
          there = refl;
          holds_then = holds_if t e;
          highest =
              go;
        })
          where
            go : (i : ℕ) (u : Term) → nth (t ∷ ts) i ≡ some u → HoldsOn model day u → u.signing ≤ t.signing
            go zero u p h = rw (inj p) (omega arith)
            go (suc i) u p h = omega (arith, w.highest i u p h, ltb-true v.signing t.signing q)
        by-test false q = is_highest
            (record { place = suc w.place; there = w.there; holds_then = w.holds_then; highest = go })
          where
            go : (i : ℕ) (u : Term) → nth (t ∷ ts) i ≡ some u → HoldsOn model day u → u.signing ≤ v.signing
            go zero u p h = rw (← inj p) (ltb-false v.signing t.signing q)
            go (suc i) u p h = w.highest i u p h

  ruling_rules : (ts : List Term) → Rules ts (ruling model day ts)
  unfolding ruling nth
  ruling_rules [] = none_holds (λ i t e. absurd (Never e))
  ruling_rules (t ∷ ts) = go (holds model day t) refl (ruling_rules ts)
    where
      go : (b : Bool) → holds model day t ≡ b → Rules ts (ruling model day ts)
          → Rules (t ∷ ts) (cond b (higher t (ruling model day ts)) (ruling model day ts))
      go true e w = first-or t ts e (ruling model day ts) w
      go false e w = not_first t ts e (ruling model day ts) w

  -- Of proper terms one at most is highest.
  one_highest : (ts : List Term) → ProperTerms ts → (t u : Term) → HighestTerm model day ts t
      → HighestTerm model day ts u → t ≡ u
  one_highest ts p t u h k =
      let a = h.highest k.place u k.there k.holds_then in
      let b = k.highest h.place t h.there h.holds_then in
      let same : h.place ≡ k.place = p.signed_once h.place k.place t u h.there k.there
      (omega (arith, a, b)) in
      inj (sym h.there ∙ (ap (λ (i : ℕ). nth ts i) same ∙ k.there))

  -- The term that rules is the highest one, and none rules exactly if none holds.
  rules_highest : (ts : List Term) → ProperTerms ts → (t : Term)
      → (ruling model day ts ≡ some t) ↔ HighestTerm model day ts t
  rules_highest ts p t =
      (forth (ruling model day ts) (ruling_rules ts), back (ruling model day ts) (ruling_rules ts))
    where
      forth : (r : Option Term) → Rules ts r → r ≡ some t → HighestTerm model day ts t
      forth none (none_holds f) e = absurd (Never e)
      forth (some u) (is_highest w) e = rw (inj e) at w

      back : (r : Option Term) → Rules ts r → HighestTerm model day ts t → r ≡ some t
      back none (none_holds f) h = absurd (f h.place t h.there h.holds_then)
      back (some u) (is_highest w) h = ap some (one_highest ts p u t w h)

  rules_none : (ts : List Term) → (ruling model day ts ≡ none) ↔ NoneHolds model day ts
  rules_none ts = (
    forth (ruling model day ts) (ruling_rules ts),
    back (ruling model day ts)
        (ruling_rules ts),
  )
    where
      forth : (r : Option Term) → Rules ts r → r ≡ none → NoneHolds model day ts
      forth none (none_holds f) e = f
      forth (some u) (is_highest w) e = absurd (Never (sym e))

      back : (r : Option Term) → Rules ts r → NoneHolds model day ts → r ≡ none
      back none (none_holds f) h = refl
      back (some u) (is_highest w) h = absurd (h w.place u w.there w.holds_then)

  -- A model's price on a day is that of the highest term.
  pub cents_highest : (ts : List Term) → ProperTerms ts → (c : ℕ)
      → (cents_on model ts day ≡ some c) ↔ ((t : Term) × HighestTerm model day ts t × (t.cents ≡ c))
  cents_highest ts p c = (forth (ruling model day ts) refl, back)
    where
      forth : (r : Option Term) → ruling model day ts ≡ r → cents_of r ≡ some c
          → (t : Term) × HighestTerm model day ts t × (t.cents ≡ c)
      forth none e f = absurd (Never f)
      forth (some t) e f = (t, (rules_highest ts p t).0 e, inj f)

      back : (t : Term) × HighestTerm model day ts t × (t.cents ≡ c) → cents_on model ts day ≡ some c
      back w = rw ((rules_highest ts p w.0).1 w.1, w.2)

-- ---- the price of a day

-- No price is none.
cents_none : {A : Type 0} {c l : ℕ}
    → ◌≡◌ {A = Result (Maybe Price) Refusal} (Ok None) (Ok (Some (price c l))) → A
cents_none e = absurd (cc)

price_is : {c l d k : ℕ}
    → ◌≡◌ {A = Result (Maybe Price) Refusal} (Ok (Some (price c l))) (Ok (Some (price d k))) → (c ≡ d) × (l ≡ k)
price_is {c} {l} {d} {k} e = let f : price c l ≡ price d k = cc in
    (ap (λ (p : Price). p.cents) f, ap (λ (p : Price). p.line) f)

module _ (text : List ℕ) (model day : ℕ) where
  price_in : (ts : List Term) → terms_of text ≡ accept ts → day ≤ largest_day
      → price_on_day text model day ≡ told_price (accept (ruling model day ts))
  unfolding term_on bind_checked require
  price_in ts e h = rw (e, le-leb day largest_day h)

  price_out : (ts : List Term) → terms_of text ≡ accept ts → largest_day < day
      → price_on_day text model day ≡ Err (refusal date_refusal no_line)
  unfolding term_on bind_checked require
  price_out ts e h = rw (e, lt-leb day largest_day h)

  price_bad : (n k : ℕ) → terms_of text ≡ refuse n k → price_on_day text model day ≡ Err (refusal n k)
  unfolding term_on bind_checked
  price_bad n k e = rw e

  module _ (ts : List Term) (e : terms_of text ≡ accept ts) where
    proper : ProperTerms ts
    proper = ((terms_accepted text ts).0 e).proper

    -- The day has a price exactly if it is in range and a term holds; it is the highest term's.
    pub priced_by : (c l : ℕ)
        → (price_on_day text model day ≡ Ok (Some (price c l))) ↔ ((day ≤ largest_day) × PricedBy model day ts c l)
    priced_by c l = (forth (leb day largest_day) refl, back)
      where
        told : (r : Option Term) → ruling model day ts ≡ r → told_price (accept r) ≡ Ok (Some (price c l))
            → PricedBy model day ts c l
        told none q f = cents_none f
        told (some t) q f = record {
          term = t;
          is_highest = (rules_highest model day ts proper t).0 q;
          cents_are = (price_is f).0;
          line_is = (price_is f).1;
        }

        forth : (b : Bool) → leb day largest_day ≡ b → price_on_day text model day ≡ Ok (Some (price c l))
            → (day ≤ largest_day) × PricedBy model day ts c l
        forth true q f = let h = leb-true day largest_day q in
            (h, told (ruling model day ts) refl (sym (price_in ts e h) ∙ f))
        forth false q f = not_done (sym (price_out ts e (leb-false day largest_day q)) ∙ f)

        back : (day ≤ largest_day) × PricedBy model day ts c l → price_on_day text model day ≡ Ok (Some (price c l))
        back w = price_in ts e w.0 ∙ rw (
          (rules_highest model day ts proper w.1.term).1 w.1.is_highest,
          w.1.cents_are,
          w.1.line_is,
        )

    -- The day has none exactly if it is in range and no term holds.
    pub unpriced : (price_on_day text model day ≡ Ok None) ↔ ((day ≤ largest_day) × NoneHolds model day ts)
    unpriced = (forth (leb day largest_day) refl, back)
      where
        told : (r : Option Term) → ruling model day ts ≡ r → told_price (accept r) ≡ Ok None
            → NoneHolds model day ts
        told none q f = (rules_none model day ts).0 q
        told (some t) q f = cents_none (sym f)

        forth : (b : Bool) → leb day largest_day ≡ b → price_on_day text model day ≡ Ok None
            → (day ≤ largest_day) × NoneHolds model day ts
        forth true q f = let h = leb-true day largest_day q in
            (h, told (ruling model day ts) refl (sym (price_in ts e h) ∙ f))
        forth false q f = not_done (sym (price_out ts e (leb-false day largest_day q)) ∙ f)

        back : (day ≤ largest_day) × NoneHolds model day ts → price_on_day text model day ≡ Ok None
        back w = price_in ts e w.0 ∙ rw ((rules_none model day ts).1 w.1)

    -- The prices by which a report's runs are made are those of the days.
    pub cents_priced : day ≤ largest_day → (c : ℕ)
        → (cents_on model ts day ≡ some c) ↔ ((l : ℕ) × (price_on_day text model day ≡ Ok (Some (price c l))))
    cents_priced h c = (forth, back)
      where
        forth : cents_on model ts day ≡ some c → (l : ℕ) × (price_on_day text model day ≡ Ok (Some (price c l)))
        forth q = let w = (cents_highest model day ts proper c).0 q in (
          w.0.line,
          (priced_by c w.0.line).1
              (h, record { term = w.0; is_highest = w.1; cents_are = w.2; line_is = refl }),
        )

        back : (l : ℕ) × (price_on_day text model day ≡ Ok (Some (price c l))) → cents_on model ts day ≡ some c
        back w = let p = ((priced_by c w.0).0 w.1).1 in
            (cents_highest model day ts proper c).1 (p.term, p.is_highest, p.cents_are)

    pub cents_unpriced : day ≤ largest_day
        → (cents_on model ts day ≡ none) ↔ (price_on_day text model day ≡ Ok None)
    cents_unpriced h = (
      (λ q. unpriced.1 (h, (rules_none model day ts).0 (no-term (ruling model day ts) q))),
      (λ q. rw ((rules_none model day ts).1 (unpriced.0 q).1)),
    )
      where
        no-term : (r : Option Term) → cents_of r ≡ none → r ≡ none
        no-term none q = refl
        no-term (some t) q = absurd (Never (sym q))

  -- A price is refused exactly as listed.
  pub price_refused : (n k : ℕ) → (price_on_day text model day ≡ Err (refusal n k)) ↔ PriceRefusal text day n k
  price_refused n k = (forth (terms_of text) refl, back)
    where
      told : (r : Option Term) → told_price (accept r) ≡ Err (refusal n k) → PriceRefusal text day n k
      told none f = not_done (sym f)
      told (some t) f = not_done (sym f)

      by-day : (ts : List Term) → terms_of text ≡ accept ts → (b : Bool) → leb day largest_day ≡ b
          → price_on_day text model day ≡ Err (refusal n k) → PriceRefusal text day n k
      by-day ts e true q f =
          told (ruling model day ts) (sym (price_in ts e (leb-true day largest_day q)) ∙ f)
      by-day ts e false q f =
          let h = leb-false day largest_day q in
          let g : ◌≡◌ {A = Result (Maybe Price) Refusal} (Err (refusal date_refusal no_line)) (Err (refusal n k)) =
          sym (price_out ts e h) ∙ f in
          let a = err_injective g in
          let w : PriceRefusal text day date_refusal no_line =
          no_such_day ts ((terms_accepted text ts).0 e) h in
          rw (a.0, a.1) at w

      forth : (r : Checked (List Term)) → terms_of text ≡ r → price_on_day text model day ≡ Err (refusal n k)
          → PriceRefusal text day n k
      forth (accept ts) e f = by-day ts e (leb day largest_day) refl f
      forth (refuse m l) e f =
          let g : ◌≡◌ {A = Result (Maybe Price) Refusal} (Err (refusal m l)) (Err (refusal n k)) =
          sym (price_bad m l e) ∙ f in
          let a = err_injective g in
          price_by_text ((terms_refused text n k).0 (rw (a.0, a.1) at e))

      back : {n k : ℕ} → PriceRefusal text day n k → price_on_day text model day ≡ Err (refusal n k)
      back {n} {k} (price_by_text w) = price_bad n k ((terms_refused text n k).1 w)
      back (no_such_day ts w h) = price_out ts ((terms_accepted text ts).1 w) h

-- ---- the price of a date

-- A date with a day has the day's price.
pub price_of_date : (text : List ℕ) (model year month day n : ℕ) → day_of (date year month day) ≡ accept n
    → price_on_date text model year month day ≡ price_on_day text model n
unfolding term_on require
price_of_date text model year month day n e =
    let h = (date_of_day_of (date year month day) n e).0 in
    rw (e, le-leb n largest_day h)

-- A date that no day has is refused as a day out of range is.
pub price_of_no_date : (text : List ℕ) (model year month day : ℕ)
    → ((n : ℕ) → n ≤ largest_day → date_of n ≢ date year month day)
    → price_on_date text model year month day ≡ price_on_day text model (suc largest_day)
unfolding term_on require
price_of_no_date text model year month day h = rw (no_day (date year month day) h)

-- So a price on a date is refused exactly as listed.
module _ (text : List ℕ) (model year month day : ℕ) where
  abbrev asked : Date
  asked = date year month day

  abbrev Without : Type 0
  Without = (n : ℕ) → n ≤ largest_day → date_of n ≢ asked

  by_date : (j : ℕ) → (largest_day < j → Without) → {n k : ℕ} → PriceRefusal text j n k
      → DatePriceRefusal text asked n k
  by_date j f (price_by_text w) = date_price_by_text w
  by_date j f (no_such_day ts w h) = no_such_date ts w (f h)

  pub date_price_refused : (n k : ℕ)
      → (price_on_date text model year month day ≡ Err (refusal n k)) ↔ DatePriceRefusal text asked n k
  date_price_refused n k = (forth (day_of asked) refl, back)
    where
      without : (a b : ℕ) → day_of asked ≡ refuse a b → Without
      without a b e = ((day_refused asked a b).0 e).none_has

      forth : (r : Checked ℕ) → day_of asked ≡ r → price_on_date text model year month day ≡ Err (refusal n k)
          → DatePriceRefusal text asked n k
      forth (accept j) e f =
          by_date j (λ h. absurd (omega (arith, h, (date_of_day_of asked j e).0)))
          ((price_refused text model j n k).0 (sym (price_of_date text model year month day j e) ∙ f))
      forth (refuse a b) e f =
          let w = without a b e in
          by_date (suc largest_day) (λ h. w) ((price_refused text model (suc largest_day) n k).0
          (sym (price_of_no_date text model year month day w) ∙ f))

      by-text : {n k : ℕ} → TermsRefusal text n k → (r : Checked ℕ) → day_of asked ≡ r
          → price_on_date text model year month day ≡ Err (refusal n k)
      by-text {n} {k} w (accept j) e = price_of_date text model year month day j e
          ∙ (price_refused text model j n k).1 (price_by_text w)
      by-text {n} {k} w (refuse a b) e = price_of_no_date text model year month day (without a b e)
          ∙ (price_refused text model (suc largest_day) n k).1 (price_by_text w)

      back : {n k : ℕ} → DatePriceRefusal text asked n k
          → price_on_date text model year month day ≡ Err (refusal n k)
      back (date_price_by_text w) = by-text w (day_of asked) refl
      back {n} {k} (no_such_date ts w h) = price_of_no_date text model year month day h
          ∙ (price_refused text model (suc largest_day) n k).1 (no_such_day ts w (omega arith))
