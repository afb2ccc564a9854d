-- `reader::parse_lines` meets its contract. Assumes nothing.
use Prim.Native.Nat.{◌-◌}
use Rattle.language.specs.Alphabet.{ours}
use Rattle.text.proofs.Parsing.{Parsing}
use Rattle.reader.proofs.parse_lines.Given as goal

abbrev pub invariant-loop-at : goal.invariant-loop-at
invariant-loop-at l = Parsing ours l.text l.initial.held l.held l.at l.line

abbrev pub decreases-loop-at : goal.decreases-loop-at
decreases-loop-at l = 60001 - l.line
