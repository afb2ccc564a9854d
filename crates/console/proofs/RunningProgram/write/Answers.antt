-- The running program meets its contract. Assumes nothing.
use Rattle.std.proofs.Common.{refl, arith}
use lib.ListN.{replicate}
use Rattle.std.proofs.lemmas.Result.{err_from_is_err_and}
use Rattle.console.proofs.Showing.{plain_made, runs_shown, runs_refused, both_shown}
use Rattle.console.proofs.RunningProgram.write.Goals as goal

pub returns-in_err-n : goal.returns-in_err-n
returns-in_err-n c =
    let p = err_from_is_err_and c.from_residual.result c.from_residual.ensures.1 in
    rw (p.1, p.2) (runs_refused c.args.rows.now (replicate 4000 0) c.translate_rows.result c.in_err-n.field-0.0 refl
    c.translate_rows.ensures.0 c.in_err-n.was)

pub returns : goal.returns
returns c =
    let made = plain_made c.args.rows.now (replicate 4000 0) c.translate_rows.new.out c.translate_rows.result
    c.in_ok-n.n refl c.translate_rows.ensures.0 c.translate_rows.ensures.1 c.in_ok-n.was in
    runs_shown c.args.rows.now c.translate_rows.new.out c.in_ok-n.n made c.put_line.result c.put_line.new.out
    (both_shown c.args.out.now c.put_line-then.new.out c.put_line.new.out _ _ c.put_line-then.result
    c.put_line.result c.put_line-then.ensures.0 c.put_line.ensures.0 c.put_line-then.ensures.2
    c.put_line.ensures.2 (omega (arith, c.put_line-then.ensures.1, c.put_line.ensures.1, c.requires)))
