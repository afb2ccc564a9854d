-- `console::write_held` meets its contract. Assumes nothing.
use native.Mathlib.Omega.{arith}
use Rattle.language.specs.Results.{bind_checked}
use Rattle.language.specs.Printed.{source_rows}
use Rattle.console.proofs.Showing.{shown, refusal_printed}
use Rattle.console.proofs.write_held.Goals as goal

pub returns-in-Err : goal.returns-in-Err
returns-in-Err g c =
    let k = shown c.write_source.new.out c.put_refusal.new.out _ c.put_refusal.result c.put_refusal.ensures.0
    (omega (arith, c.put_refusal.ensures.1, c.requires, c.write_source.auto.out)) c.put_refusal.ensures.2 in (
      refusal_printed (bind_checked (source_rows c.args.input.now) g.P.Program.made) c.in-Err.r.number
          c.in-Err.r.line _ c.in-Err.ensures k.0,
      k.1,
    )
