-- `reader::read_line` meets its contract. Assumes nothing.
use Rattle.std.proofs.Common.{sym, ◌∙◌, arith}
use Rattle.text.proofs.Lines.{line_past, line_none, line_unknown, line_no_first, line_one}
use Rattle.text.proofs.Lines.{line_no_second, line_two}
use Rattle.reader.proofs.read_line.Goals as goal

pub returns-then-s-at : goal.returns-then-s-at
returns-then-s-at c = line_past _ _ c.if-s-at.true

pub returns-in-0 : goal.returns-in-0
returns-in-0 c = c.close_line.ensures
    ∙ line_none _ _ _ c.if-s-at.false c.from-code.ensures _ c.count_numbers.ensures c.in-0.is

pub returns-in_default : goal.returns-in_default
returns-in_default c =
    line_unknown _ _ _ c.if-s-at.false c.from-code.ensures _ c.count_numbers.ensures (omega arith)

pub returns-in_err-first-in-1 : goal.returns-in_err-first-in-1
returns-in_err-first-in-1 c = c.from_residual.ensures
    ∙ line_no_first _ _ _ c.if-s-at.false c.from-code.ensures _ c.count_numbers.ensures (λ z. omega arith)
    (sym c.read_number.ensures ∙ c.in_err-first-in-1.was)

pub returns-in_ok-first-in-1 : goal.returns-in_ok-first-in-1
returns-in_ok-first-in-1 c = c.close_line-in-1.ensures
    ∙ line_one _ _ _ c.if-s-at.false c.from-code.ensures _ c.count_numbers.ensures _ _
    (sym c.read_number.ensures ∙ c.in_ok-first-in-1.was) c.in-1.is

pub returns-in_err-first-in-2 : goal.returns-in_err-first-in-2
returns-in_err-first-in-2 c = c.from_residual-in_err-first-in-2.ensures
    ∙ line_no_first _ _ _ c.if-s-at.false c.from-code.ensures _ c.count_numbers.ensures (λ z. omega arith)
    (sym c.read_number-in-2.ensures ∙ c.in_err-first-in-2.was)

pub returns-in_err-second-in-2 : goal.returns-in_err-second-in-2
returns-in_err-second-in-2 c = c.from_residual-in_err-second-in-2.ensures
    ∙ line_no_second _ _ _ c.if-s-at.false c.from-code.ensures _ c.count_numbers.ensures _ _
    (sym c.read_number-in-2.ensures ∙ c.in_ok-first-in-2.was) c.in-2.is
    (sym c.read_number-in-2-2.ensures ∙ c.in_err-second-in-2.was)

pub returns-in_ok-second-in-2 : goal.returns-in_ok-second-in-2
returns-in_ok-second-in-2 c = c.close_line-in-2.ensures
    ∙ line_two _ _ _ c.if-s-at.false c.from-code.ensures _ c.count_numbers.ensures _ _
    (sym c.read_number-in-2.ensures ∙ c.in_ok-first-in-2.was) _ _ c.in-2.is
    (sym c.read_number-in-2-2.ensures ∙ c.in_ok-second-in-2.was)
