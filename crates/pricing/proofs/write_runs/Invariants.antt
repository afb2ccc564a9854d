-- `pricing::write_runs` meets its contract. Assumes nothing.
use mathlib.Core.Option.{Option}
use Prim.Native.Nat.{ℕ, ◌-◌}
use Rattle.pricing.specs.Runs.{Priced}
use Rattle.pricing.proofs.Runs.{Writing}
use Rattle.pricing.proofs.write_runs.Given as goal

abbrev pub invariant-loop-i : goal.invariant-loop-i
invariant-loop-i l = (price : ℕ → Option ℕ) → Priced price l.days.first l.days.count l.table
    → Writing price l.days.first l.days.count l.initial.held l.held l.i l.at

abbrev pub decreases-loop-i : goal.decreases-loop-i
decreases-loop-i l = l.days.count - l.i
