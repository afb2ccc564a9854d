-- `pricing::price_on_date` meets its contract. Assumes nothing.
use Rattle.std.proofs.Common.{sym, ap, ◌∙◌, ℕ, Err}
use Rattle.language.specs.Results.{Checked}
use Rattle.prices.specs.Prices.{term_on, told_price}
use Rattle.pricing.proofs.Answers.{day_is, date_refused, price_no_day}
use Rattle.prices.specs.Calendar.{date, day_of}
use Rattle.prices.proofs.Calendar.{date_of_day_of}
use Rattle.pricing.proofs.price_on_date.Goals as goal

pub returns-in-Err : goal.returns-in-Err
returns-in-Err c = ap Err c.refuse_day.ensures ∙ price_no_day c.args.terms.now c.args.model
    ∙ ap (λ (d : Checked ℕ). told_price (term_on c.args.terms.now c.args.model d))
    (sym (date_refused c.args.year c.args.month c.args.day (sym c.day_of_date.ensures ∙ c.in-Err.is)))

pub price_within-requires : goal.price_within-requires
price_within-requires c = let d = date c.args.year c.args.month c.args.day in
    (date_of_day_of d _ (day_is (day_of d) _ (sym c.day_of_date.ensures ∙ c.in-Ok.is))).0

pub returns-in-Ok : goal.returns-in-Ok
returns-in-Ok c = let d = date c.args.year c.args.month c.args.day in
    c.price_within.ensures ∙ ap (λ (d : Checked ℕ). told_price (term_on c.args.terms.now c.args.model d))
    (sym (day_is (day_of d) _ (sym c.day_of_date.ensures ∙ c.in-Ok.is)))
