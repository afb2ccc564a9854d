-- `headings::start_block` meets its contract. Assumes nothing.
use Rattle.std.proofs.Common.{◌+◌, ◌-◌}
use Rattle.headings.proofs.Copying.{Copied}
use Rattle.headings.proofs.start_block.Given as goal

abbrev pub invariant-loop-i : goal.invariant-loop-i
invariant-loop-i l = Copied l.initial.tables l.tables l.from l.base l.i

abbrev pub invariant-loop-i-2 : goal.invariant-loop-i-2
invariant-loop-i-2 l = Copied l.initial.tables l.tables (l.from + 514) (l.base + 514) (l.i - 514)
