-- A term that is signed next and appended to a text: the longer text has one term more, which rules where it holds;
-- elsewhere every price is as before. Assumes nothing.
use mathlib.Core.Path.{◌≡◌, refl, sym, ap, ◌∙◌}
use mathlib.Core.Logic.{inl, inr}
use mathlib.Core.Bool.{Bool, true, false}
use mathlib.Core.List.{List, [], ◌∷◌, ◌++◌}
use mathlib.Core.Option.{Option, some}
use Prim.Native.Nat.{ℕ, zero, suc, ◌+◌, ◌≤◌, ◌<◌}
use native.Mathlib.Omega.{arith}
use lib.Dec.{leb}
use lib.ListN.{length}
use Rattle.std.specs.Prelude.{Option as Maybe, Some, Result, Ok}
use Rattle.prices.specs.Prices.{price}
use Rattle.prices.specs.declared.Price.{Price}
use Rattle.language.specs.declared.Refusal.{Refusal as CodeRefusal}
use Rattle.language.specs.Lists.{nth_append_one, nth_last}
use Rattle.language.specs.Limits.{no_line}
use Rattle.language.specs.Results.{Checked, accept, refuse, require, bind_checked}
use Rattle.prices.specs.Calendar.{last_day, date_refusal}
use Rattle.prices.specs.Terms.{Term, terms_of}
use Rattle.prices.specs.Prices.{ruling, term_on, told_price, price_on_day}
use Rattle.prices.specs.Reports.{Days, month_days, PriceRun, price_runs, cents_on, run_lines, days_report}
use Rattle.prices.specs.Reports.{price_report}
use Rattle.prices.proofs.Rulings.{ruling_append}
use Rattle.promises.specs.PriceWords.{term_text, TermsOf, HoldsOn, HighestTerm}
use Rattle.promises.specs.PriceWords.{SignedNext}
use Rattle.promises.proofs.prices.TermsRead.{one_more, text_more, terms_accepted}
use Rattle.promises.proofs.prices.PricesHighest.{holds_not, cents_highest, priced_by}

-- Days with the same prices have the same runs.
same_runs : (p q : ℕ → Option ℕ) (count first : ℕ)
    → ((day : ℕ) → first ≤ day → day < first + count → p day ≡ q day)
    → price_runs p first count ≡ price_runs q first count
unfolding price_runs
same_runs p q zero first h = refl
same_runs p q (suc count) first h = rw (
  h first (omega arith) (omega arith),
  same_runs p q count (suc first) (λ day a b. h day (omega (arith, a)) (omega (arith, b))),
)

module _ (text : List ℕ) (ts : List Term) (e : terms_of text ≡ accept ts) (t : Term) (next : SignedNext ts t)
  where
    before : TermsOf text ts
    before = (terms_accepted text ts).0 e

    longer : TermsOf (text ++ term_text t) (ts ++ (t ∷ []))
    longer = record {
      written = ap (λ (x : List ℕ). x ++ term_text t) before.written ∙ sym (text_more ts t);
      proper = one_more ts t before.proper next.writable next.days_in_order next.on_line
          (λ w. omega (arith, next.above_all w.place w.term w.there, w.signing_is));
    }

    -- The longer text has these terms and this one.
    pub one_term_more : terms_of (text ++ term_text t) ≡ accept (ts ++ (t ∷ []))
    one_term_more = (terms_accepted (text ++ term_text t) (ts ++ (t ∷ []))).1 longer

    module _ (model day : ℕ) where
      -- Where the new term holds it is the highest.
      module _ (h : HoldsOn model day t) where
        new-highest : HighestTerm model day (ts ++ (t ∷ [])) t
        new-highest = record {
          place = length ts;
          there = nth_last ts t;
          holds_then = h;
          highest = λ i u q k. elim (nth_append_one ts t i u q) [
            | inl o ↦ omega (arith, next.above_all i u o)
            | inr o ↦ rw o.1 (omega arith)
          ];
        }

        pub new_price : price_on_day (text ++ term_text t) model day ≡ Ok (Some (price t.cents t.line))
        new_price = (priced_by (text ++ term_text t) model day (ts ++ (t ∷ [])) one_term_more t.cents
            t.line).1 (
              (omega (arith, h.to, next.writable.last_to)),
              record { term = t; is_highest = new-highest; cents_are = refl; line_is = refl },
            )

        pub new_cents : cents_on model (ts ++ (t ∷ [])) day ≡ some t.cents
        new_cents = (cents_highest model day (ts ++ (t ∷ [])) longer.proper t.cents).1
            (t, new-highest, refl)

      -- Where it does not hold nothing changes.
      module _ (h : ¬ HoldsOn model day t) where
        same-ruling : ruling model day (ts ++ (t ∷ [])) ≡ ruling model day ts
        same-ruling = ruling_append model day ts t ∙ rw (holds_not model day t h)

        pub same_price : price_on_day (text ++ term_text t) model day ≡ price_on_day text model day
        unfolding term_on bind_checked require
        same_price = rw (one_term_more, e) (go (leb day last_day))
          where
            answered : Bool → List Term → Result (Maybe Price) CodeRefusal
            answered b us = told_price (bind_checked (require b date_refusal no_line (λ _. accept day))
                (λ n. accept (ruling model n us)))

            go : (b : Bool) → answered b (ts ++ (t ∷ [])) ≡ answered b ts
            go true = rw same-ruling
            go false = refl

        pub same_cents : cents_on model (ts ++ (t ∷ [])) day ≡ cents_on model ts day
        same_cents = rw same-ruling

    -- A report over days where it does not hold for the model is as before.
    pub same_report : (model year month : ℕ)
        → ((days : Days) → month_days year month ≡ accept days
        → (day : ℕ) → days.first ≤ day → day < days.first + days.count → ¬ HoldsOn model day t)
        → price_report (text ++ term_text t) model year month ≡ price_report text model year month
    unfolding days_report bind_checked
    same_report model year month h = rw (one_term_more, e) (go (month_days year month) refl)
      where
        reported : Checked Days → List Term → Checked (List ℕ)
        reported r us = bind_checked r λ days.
            accept (run_lines (price_runs (cents_on model us) days.first days.count))

        go : (r : Checked Days) → month_days year month ≡ r → reported r (ts ++ (t ∷ [])) ≡ reported r ts
        go (refuse n k) q = refl
        go (accept days) q = ap (λ (rs : List PriceRun). accept (run_lines rs))
            (same_runs (cents_on model (ts ++ (t ∷ []))) (cents_on model ts) days.count days.first
            (λ day a b. same_cents model day (h days q day a b)))
