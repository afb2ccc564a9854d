-- `headings::read_classes` meets its contract. Assumes nothing.
use Prim.Native.Nat.{◌-◌}
use Rattle.headings.proofs.Reading.{Reading}
use Rattle.headings.specs.Ready.{ReadReady}
use Rattle.headings.proofs.read_classes.Given as goal

abbrev pub invariant-loop-k : goal.invariant-loop-k
invariant-loop-k l = (w : ReadReady l.rows l.ends l.initial.tables) → Reading w l.tables l.k l.r

abbrev pub decreases-loop-k : goal.decreases-loop-k
decreases-loop-k l = 64 - l.k
