-- `pricing::report_prices` meets its contract. Assumes nothing.
use Rattle.std.proofs.Common.{sym, ap, ◌∙◌, arith, Err}
use Rattle.pricing.proofs.Answers.{unmade, month_no_first, month_no_last, month_reported, month_bounds}
use Rattle.pricing.proofs.report_prices.Goals as goal

pub returns-in_default : goal.returns-in_default
returns-in_default c =
    let u = unmade c.args.terms.now c.args.model c.args.report.now in
    let none = sym c.day_of_date.ensures ∙ c.in_default.is in
    let e = month_no_first c.args.terms.now c.args.model c.args.year c.args.month none in
    rw e (ap Err c.refuse_day.ensures ∙ u.0, u.1)

pub returns-in_default-day_of_date : goal.returns-in_default-day_of_date
returns-in_default-day_of_date c =
    let u = unmade c.args.terms.now c.args.model c.args.report.now in
    let first = sym c.day_of_date.ensures ∙ c.in-Ok.is in
    let none = sym c.day_of_date-2.ensures ∙ c.in_default-day_of_date.is in
    let e = month_no_last c.args.year c.args.month c.days_in-most.ensures first c.args.terms.now c.args.model none in
    rw e (ap Err c.refuse_day-in_default-day_of_date.ensures ∙ u.0, u.1)

pub overflow_add-count : goal.overflow_add-count
overflow_add-count c =
    let first = sym c.day_of_date.ensures ∙ c.in-Ok.is in
    let last = sym c.day_of_date-2.ensures ∙ c.in-Ok-day_of_date.is in
    omega (arith, (month_bounds c.args.year c.args.month c.days_in-most.ensures first last).1)

pub overflow_sub-count : goal.overflow_sub-count
overflow_sub-count c =
    let first = sym c.day_of_date.ensures ∙ c.in-Ok.is in
    let last = sym c.day_of_date-2.ensures ∙ c.in-Ok-day_of_date.is in
    omega (arith, (month_bounds c.args.year c.args.month c.days_in-most.ensures first last).0)

pub invariant_of-report_days : goal.invariant_of-report_days
invariant_of-report_days c =
    let first = sym c.day_of_date.ensures ∙ c.in-Ok.is in
    let last = sym c.day_of_date-2.ensures ∙ c.in-Ok-day_of_date.is in
    let b = month_bounds c.args.year c.args.month c.days_in-most.ensures first last in
    record { in_range = omega (arith, b.0, b.1); few = b.2 }

pub report_days-requires : goal.report_days-requires
report_days-requires c =
    let first = sym c.day_of_date.ensures ∙ c.in-Ok.is in
    let last = sym c.day_of_date-2.ensures ∙ c.in-Ok-day_of_date.is in
    let b = month_bounds c.args.year c.args.month c.days_in-most.ensures first last in
    omega (arith, b.0, b.1)

pub returns : goal.returns
returns c =
    let first = sym c.day_of_date.ensures ∙ c.in-Ok.is in
    let last = sym c.day_of_date-2.ensures ∙ c.in-Ok-day_of_date.is in
    let e = month_reported c.args.year c.args.month c.days_in-most.ensures first last c.args.terms.now c.args.model in
    rw e c.report_days.ensures
