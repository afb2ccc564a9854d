-- `console::write_source` meets its contract. Assumes nothing.
use Rattle.std.proofs.Common.{refl}
use lib.ListN.{replicate}
use Rattle.std.proofs.lemmas.Result.{err_from_is_err_and}
use Rattle.console.proofs.Showing.{source_made, source_refuse, of_rows, shown_as}
use Rattle.console.proofs.write_source.Goals as goal

pub returns-in_err-n : goal.returns-in_err-n
returns-in_err-n g c =
    let p = err_from_is_err_and c.from_residual.result c.from_residual.ensures.1 in
    rw (p.1, p.2) (source_refuse c.args.input.now (replicate 2720 0) c.read_source.result c.in_err-n.field-0.0 refl
    c.read_source.ensures.0 c.in_err-n.was g.P.Program.made)

pub returns : goal.returns
returns g c =
    shown_as c.write.result c.write.new.out
    (of_rows (source_made c.args.input.now (replicate 2720 0) c.read_source.new.rows c.read_source.result
    c.in_ok-n.n refl c.read_source.ensures.0 c.read_source.ensures.1 c.in_ok-n.was) g.P.Program.made)
    c.write.ensures
