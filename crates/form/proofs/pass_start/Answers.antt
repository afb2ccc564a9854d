-- The start: its S line, its block, the end. Assumes nothing.
use mathlib.Core.Path.{refl, sym, ◌∙◌}
use Prim.Native.Nat.{◌+◌}
use Rattle.std.proofs.lemmas.Result.{err_from_is_err_and}
use Rattle.parsing.specs.Places.{rows_from}
use Rattle.language.specs.Form.{body}
use Rattle.parsing.specs.Columns.{most_of}
use Rattle.parsing.proofs.LineLaws.{end_room}
use Rattle.parsing.proofs.Places.{here}
use Rattle.parsing.proofs.Passes.{told_end}
use Rattle.form.proofs.Start.{start_refused, start_other, start_end, start_stop}
use Rattle.form.proofs.pass_start.Goals as goal

pub returns-in_err-check_row : goal.returns-in_err-check_row
returns-in_err-check_row c =
    let p = err_from_is_err_and c.from_residual.result c.from_residual.ensures.1 in
    λ cs e d. rw (p.1, p.2) (start_refused c.args.limits c.args.rows.now c.args.at cs
    (sym c.in_err-check_row.ensures.0))

pub returns-then-letter_at-ne-START : goal.returns-then-letter_at-ne-START
returns-then-letter_at-ne-START c = λ cs e d. rw c.refusal_at.ensures
    (start_other c.args.limits c.args.rows.now c.args.at cs
    (here c.args.rows.now c.args.at (sym c.in_ok-check_row.ensures.0) c.in_ok-check_row.ensures.1)
    (λ e. c.if-letter_at-ne-START.true (c.letter_at.ensures ∙ e)))

pub returns-in_err-next : goal.returns-in_err-next
returns-in_err-next c =
    let p = err_from_is_err_and c.from_residual-in_err-next.result c.from_residual-in_err-next.ensures.1 in
    λ cs e d. rw (p.1, p.2) (start_stop c.args.limits c.args.rows.now c.args.at cs
    (here c.args.rows.now c.args.at (sym c.in_ok-check_row.ensures.0) c.in_ok-check_row.ensures.1)
    (sym c.letter_at.ensures ∙ c.if-letter_at-ne-START.false) c.in_err-next.ensures refl)

pub finish-requires : goal.finish-requires
finish-requires c = (
  c.requires.whole,
  told_end (body (most_of c.args.limits) 1 (c.args.at + 1 + 1) (rows_from c.args.rows.now (c.args.at + 1)))
      c.in_ok-next.ensures refl λ e x y w o z. w,
)

pub returns : goal.returns
returns c = λ cs e d. start_end c.args.limits c.args.rows.now c.args.at cs
    (here c.args.rows.now c.args.at (sym c.in_ok-check_row.ensures.0) c.in_ok-check_row.ensures.1)
    (sym c.letter_at.ensures ∙ c.if-letter_at-ne-START.false) c.in_ok-next.ensures
    refl refl (λ w o. end_room c.requires w o) e d c.finish.ensures
