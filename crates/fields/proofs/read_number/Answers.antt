-- `fields::read_number` meets its contract. Assumes nothing.
use mathlib.Core.Path.{sym, ◌∙◌}
use Rattle.fields.proofs.Fields.{number_past, number_no_tab, number_bad, number_good}
use Rattle.fields.proofs.read_number.Goals as goal
use Rattle.fields.proofs.read_number.Goals.{then-s-at-via-then-s-at, then-s-at-via-else-s-at+then-s-at-ne9}

pub returns-then-s-at : goal.returns-then-s-at
returns-then-s-at c = elim c.then-s-at.branch [
  | then-s-at-via-then-s-at w ↦ number_past c.args.at c.args.s.now w.if-s-at.true
  | then-s-at-via-else-s-at+then-s-at-ne9 w ↦
      number_no_tab c.args.at c.args.s.now w.if-s-at.false w.if-s-at-ne9.true
]

pub returns-in_err-read_decimal : goal.returns-in_err-read_decimal
returns-in_err-read_decimal c =
    let n = number_bad c.args.at c.args.s.now c.if-s-at.false c.if-s-at-ne9.false c.find_field-f.result.now
    c.find_field-f.ensures (sym c.read_decimal.ensures ∙ c.in_err-read_decimal.was) in
    cc

pub returns : goal.returns
returns c = number_good c.args.at c.args.s.now c.if-s-at.false c.if-s-at-ne9.false c.find_field-f.result.now
    c.find_field-f.ensures _ (sym c.read_decimal.ensures ∙ c.in_ok-read_decimal.was)
