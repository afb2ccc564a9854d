use mathlib.Core.Path.{refl}
use Rattle.plain.proofs.Answers.{plain_short, plain_done}
use Rattle.plain.proofs.write_plain.Goals as goal

pub returns-then-out-count : goal.returns-then-out-count
returns-then-out-count c = plain_short c.emit_program-count.ensures c.if-out-count.true

pub returns : goal.returns
returns c = plain_done c.emit_program-count.ensures c.if-out-count.false c.emit_program-written.ensures refl
