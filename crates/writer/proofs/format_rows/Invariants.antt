-- `writer::format_rows` meets its contract. Assumes nothing.
use Prim.Native.Nat.{◌+◌, ◌*◌}
use Rattle.language.specs.Alphabet.{ours}
use Rattle.text.proofs.Formatting.{Formatting}
use Rattle.writer.proofs.format_rows.Given as goal

abbrev pub invariant-loop-at : goal.invariant-loop-at
invariant-loop-at l = Formatting ours l.rows l.initial.held l.held (l.at * 4) l.end (l.at + 1)
