-- `reader::close_line` meets its contract. Assumes nothing.
use Rattle.std.proofs.Common.{sym}
use Rattle.text.proofs.Lines.{closed_past, closed_other, closed_feed}
use Rattle.reader.proofs.close_line.Goals as goal
use Rattle.reader.proofs.close_line.Goals.{then-s-at-via-then-s-at, then-s-at-via-else-s-at+then-s-at-ne10}

pub returns-then-s-at : goal.returns-then-s-at
returns-then-s-at c = elim c.then-s-at.branch [
  | then-s-at-via-then-s-at w ↦ sym (closed_past _ _ _ _ _ _ w.if-s-at.true)
  | then-s-at-via-else-s-at+then-s-at-ne10 w ↦
      sym (closed_other _ _ _ _ _ _ w.if-s-at.false w.if-s-at-ne10.true)
]

pub returns : goal.returns
returns c = sym (closed_feed _ _ _ _ _ _ c.if-s-at.false c.if-s-at-ne10.false)
