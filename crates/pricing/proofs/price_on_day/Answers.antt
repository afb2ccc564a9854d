-- `pricing::price_on_day` meets its contract. Assumes nothing.
use Rattle.std.proofs.Common.{sym, ap, ◌∙◌, ℕ, Err}
use Rattle.language.specs.Results.{Checked}
use Rattle.prices.specs.Prices.{term_on, told_price}
use Rattle.pricing.proofs.Answers.{day_within, day_beyond, price_no_day}
use Rattle.pricing.proofs.price_on_day.Goals as goal

pub returns-then-day-gt-LAST_DAY : goal.returns-then-day-gt-LAST_DAY
returns-then-day-gt-LAST_DAY c = ap Err c.refuse_day.ensures ∙ price_no_day c.args.terms.now c.args.model
    ∙ ap (λ (d : Checked ℕ). told_price (term_on c.args.terms.now c.args.model d))
    (sym (day_beyond c.args.day c.if-day-gt-LAST_DAY.true))

pub returns : goal.returns
returns c = c.price_within.ensures
    ∙ ap (λ (d : Checked ℕ). told_price (term_on c.args.terms.now c.args.model d))
    (sym (day_within c.args.day c.if-day-gt-LAST_DAY.false))
