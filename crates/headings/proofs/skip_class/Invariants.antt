-- `headings::skip_class` meets its contract. Assumes nothing.
use Prim.Native.Nat.{◌+◌, ◌-◌}
use lib.ListN.{length}
use Rattle.members.proofs.Lines.{Skipping}
use Rattle.members.specs.Ready.{ClassHere}
use Rattle.language.specs.Tree.{class_lines}
use Rattle.headings.proofs.skip_class.Given as goal

abbrev pub invariant-loop-at : goal.invariant-loop-at
invariant-loop-at l = (w : ClassHere l.rows l.ends l.r) → Skipping l.rows l.ends l.at (l.r + class_lines w.one)

abbrev pub decreases-loop-at : goal.decreases-loop-at
decreases-loop-at l = length l.rows - l.at
