use native.Mathlib.Omega.{arith}
use Rattle.machine.proofs.Running.{start_pre, start_falls, start_small, run_done}
use Rattle.machine.proofs.run_start.Goals as goal

pub eval-outcome-requires : goal.eval-outcome-requires
eval-outcome-requires c = start_pre c.requires (omega arith)

pub end_told-requires : goal.end_told-requires
end_told-requires c = start_small c.requires (omega arith) c.eval-outcome.ensures

pub overflow_sub-steps : goal.overflow_sub-steps
overflow_sub-steps c = omega (arith, start_falls c.requires (omega arith) c.eval-outcome.ensures)

pub returns : goal.returns
returns c = run_done c.eval-outcome.result c.eval-outcome.new.tally c.end_told.result (omega arith)
    c.eval-outcome.ensures c.end_told.ensures
