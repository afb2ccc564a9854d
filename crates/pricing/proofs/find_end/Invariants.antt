-- `pricing::find_end` meets its contract. Assumes nothing.
use Rattle.std.proofs.Common.{◌≡◌, ℕ, ◌≤◌, ◌<◌, true, get_or, None}
use Rattle.pricing.specs.Runs.{has_price}
use Rattle.pricing.proofs.find_end.Given as goal

abbrev pub invariant-loop-j : goal.invariant-loop-j
invariant-loop-j l = (k : ℕ) → l.i ≤ k → k < l.j → has_price (get_or l.table k None) l.cents ≡ true
