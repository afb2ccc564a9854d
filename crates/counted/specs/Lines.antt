-- The lines that a report is made of: which count, and their sums.
use Rattle.std.specs.Prelude.{Bool, true, false, List, [], ◌∷◌}
use Rattle.std.proofs.Math.Option.{Option, none, some}
use Rattle.fleet.specs.Ranking.{Counted, add}

-- All of these lines count.
unfoldable pub all_count : List (Option Counted) → Bool
all_count [] = true
all_count (none ∷ ls) = false
all_count (some c ∷ ls) = all_count ls

-- The sums after these lines, whatever they are.
unfoldable pub summing : List Counted → List (Option Counted) → List Counted
summing ds [] = ds
summing ds (none ∷ ls) = summing ds ls
summing ds (some c ∷ ls) = summing (add c ds) ls

abbrev pub summed : List (Option Counted) → List Counted
summed ls = summing [] ls
