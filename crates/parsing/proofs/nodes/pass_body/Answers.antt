-- A body: a row that is refused, another letter, or a block. Assumes nothing.
use mathlib.Core.Path.{sym, ◌∙◌}
use Prim.Native.Nat.{◌+◌}
use Rattle.std.proofs.lemmas.Result.{err_from_is_err_and}
use Rattle.parsing.proofs.Places.{here}
use Rattle.parsing.proofs.Passes.{told_as, told_refuse}
use Rattle.parsing.proofs.NodeLaws.{body_refused, body_other, body_here}
use Rattle.parsing.proofs.nodes.pass_body.Goals as goal

pub returns-in_err-check_row : goal.returns-in_err-check_row
returns-in_err-check_row c =
    let p = err_from_is_err_and c.from_residual.result c.from_residual.ensures.1 in
    rw (p.1, p.2) (told_as (body_refused c.args.limits c.args.rows.now c.args.at c.args.slots
    (sym c.in_err-check_row.ensures.0)) (told_refuse _ _))

pub returns-then-letter_at-ne-BLOCK : goal.returns-then-letter_at-ne-BLOCK
returns-then-letter_at-ne-BLOCK c =
    rw c.refusal_at.ensures (told_as (body_other c.args.limits c.args.rows.now c.args.at c.args.slots
    (here c.args.rows.now c.args.at (sym c.in_ok-check_row.ensures.0) c.in_ok-check_row.ensures.1)
    (λ e. c.if-letter_at-ne-BLOCK.true (c.letter_at.ensures ∙ e)))
    (told_refuse 3 (c.args.at + 1)))

pub returns : goal.returns
returns c = told_as (body_here c.args.limits c.args.rows.now c.args.at c.args.slots
    (here c.args.rows.now c.args.at (sym c.in_ok-check_row.ensures.0) c.in_ok-check_row.ensures.1)
    (sym c.letter_at.ensures ∙ c.if-letter_at-ne-BLOCK.false)) c.pass_node.ensures
