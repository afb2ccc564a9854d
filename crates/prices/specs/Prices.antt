-- The price of a model on a day
-- (document 02, §11: "the price of the term with the highest signing number among those that hold is answered, or
-- none"; the terms' 1 and 23 come first, then 24).
use Rattle.std.specs.Prelude.{Bool, cond, ◌&&◌, List, [], ◌∷◌, ℕ, eqb, leb, ltb, Option as Answered, Some, None, Result}
use Rattle.std.proofs.Math.Option.{Option, none, some}
use Rattle.language.specs.Results.{Checked, accept, bind_checked}
use Rattle.prices.specs.Calendar.{date, day_of, day_in_range}
use Rattle.prices.specs.Terms.{Term, terms_of}
use Rattle.language.specs.Refusals.{result_of}
use Rattle.language.specs.declared.Refusal.{Refusal}
use Rattle.prices.specs.declared.Price.{Price}

-- A term with these edge days covers the day: both edge days belong to it.
abbrev pub covers : ℕ → ℕ → ℕ → Bool
covers first last day = leb first day && leb day last

-- The term holds for the model on the day.
abbrev pub holds : ℕ → ℕ → Term → Bool
holds model day t = eqb t.model model && covers t.first t.last day

-- Of two terms the one with the higher signing number.
abbrev pub higher : Term → Option Term → Option Term
higher t none = some t
higher t (some u) = cond (ltb u.signing t.signing) (some t) (some u)

-- The term that rules: that with the highest signing number among those that hold.
unfoldable pub ruling : ℕ → ℕ → List Term → Option Term
ruling model day [] = none
ruling model day (t ∷ ts) = cond (holds model day t) (higher t (ruling model day ts)) (ruling model day ts)

-- The term that rules where the day is known; the terms' refusal comes before the day's.
unfoldable pub term_on : List ℕ → ℕ → Checked ℕ → Checked (Option Term)
term_on text model day =
    bind_checked (terms_of text) λ ts. bind_checked day λ n. accept (ruling model n ts)

-- The price of a term, and its line.
abbrev pub price : ℕ → ℕ → Price
price cents line = record { cents = cents; line = line }

abbrev pub price_of : Option Term → Answered Price
price_of none = None
price_of (some t) = Some (price t.cents t.line)

abbrev pub told_price : Checked (Option Term) → Result (Answered Price) Refusal
told_price term = result_of price_of term

abbrev pub price_on_day : List ℕ → ℕ → ℕ → Result (Answered Price) Refusal
price_on_day text model day = told_price (term_on text model (day_in_range day))

abbrev pub price_on_date : List ℕ → ℕ → ℕ → ℕ → ℕ → Result (Answered Price) Refusal
price_on_date text model year month day = told_price (term_on text model (day_of (date year month day)))
