-- V lines: between two of them, what is left to read tells of the whole. Assumes nothing.
use mathlib.Core.Path.{sym, ◌∙◌}
use native.Mathlib.Omega.{arith}
use Prim.Native.Nat.{◌+◌}
use Rattle.std.proofs.lemmas.Result.{err_from_is_err_and}
use Rattle.parsing.proofs.Places.{here}
use Rattle.parsing.proofs.LineLaws.{declaring_refused, declaring_other}
use Rattle.parsing.proofs.LineLaws.{declaring_over, declaring_step, declaring_end}
use Rattle.parsing.proofs.lines.pass_locals.Goals as goal

pub returns-in_err-check_row : goal.returns-in_err-check_row
returns-in_err-check_row c =
    let p = err_from_is_err_and c.from_residual.result c.from_residual.ensures.1 in
    rw (p.1, p.2) (declaring_refused c.loop-n.invariant (omega arith) (sym c.in_err-check_row.ensures.0))

pub returns-then-letter_at-ne-LOCAL : goal.returns-then-letter_at-ne-LOCAL
returns-then-letter_at-ne-LOCAL c =
    rw c.refusal_at.ensures (declaring_other c.loop-n.invariant (omega arith)
    (here c.args.rows.now (c.args.at + c.loop-n.n) (sym c.in_ok-check_row.ensures.0)
    c.in_ok-check_row.ensures.1)
    (λ e. c.if-letter_at-ne-LOCAL.true (c.letter_at.ensures ∙ e)))

pub returns-then-limits-slots : goal.returns-then-limits-slots
returns-then-limits-slots c =
    rw c.refusal_at-then-limits-slots.ensures (declaring_over c.loop-n.invariant (omega arith)
    (here c.args.rows.now (c.args.at + c.loop-n.n) (sym c.in_ok-check_row.ensures.0)
    c.in_ok-check_row.ensures.1)
    (sym c.letter_at.ensures ∙ c.if-letter_at-ne-LOCAL.false) c.if-limits-slots.true)

pub loop-n-preserved : goal.loop-n-preserved
loop-n-preserved c =
    declaring_step c.loop-n.invariant (omega arith)
    (here c.args.rows.now (c.args.at + c.loop-n.n) (sym c.in_ok-check_row.ensures.0)
    c.in_ok-check_row.ensures.1)
    (sym c.letter_at.ensures ∙ c.if-letter_at-ne-LOCAL.false)
    c.in_ok-check_row.ensures.1 c.if-limits-slots.false (omega arith) (omega arith) (omega arith)

pub returns : goal.returns
returns c = declaring_end c.loop-n.invariant (omega arith) (omega arith)
