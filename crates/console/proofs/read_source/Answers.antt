-- `console::read_source` meets its contract. Assumes nothing.
use mathlib.Core.Path.{◌∙◌}
use Rattle.console.proofs.Showing.{source_refused, source_answer, source_buffer}
use Rattle.console.proofs.read_source.Goals as goal

pub returns-then-input-gt-TEXT_ROOM : goal.returns-then-input-gt-TEXT_ROOM
returns-then-input-gt-TEXT_ROOM c = source_refused c.args.input.now
    c.args.rows.now c.requires c.if-input-gt-TEXT_ROOM.true

pub returns : goal.returns
returns c = (
  c.read_rows.ensures.0
      ∙ source_answer c.args.input.now c.args.rows.now c.requires c.if-input-gt-TEXT_ROOM.false,
  c.read_rows.ensures.1
      ∙ source_buffer c.args.input.now c.args.rows.now c.requires c.if-input-gt-TEXT_ROOM.false,
)
