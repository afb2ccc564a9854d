-- `members::methods::check_parameters` meets its contract. Assumes nothing.
use mathlib.Core.Path.{◌≡◌}
use mathlib.Core.List.{List}
use lib.ListN.{length}
use Rattle.members.proofs.Loops.{Declaring}
use Rattle.members.specs.Ready.{ParameterLines}
use Rattle.language.specs.Tree.{Class}
use Rattle.members.proofs.methods.check_parameters.Given as goal

abbrev pub invariant-loop-at : goal.invariant-loop-at
invariant-loop-at l = (w : ParameterLines l.rows l.r l.n) → (P : List Class) → l.count ≡ length P
    → Declaring w P l.at
