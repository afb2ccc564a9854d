use mathlib.Core.Logic.{inl, inr}
use Rattle.frames.proofs.Frames.{slot_none, write_none, write_some}
use Rattle.frames.proofs.write_slot.Goals.{then-place-k-via-then-place-k}
use Rattle.frames.proofs.write_slot.Goals.{then-place-k-via-else-place-k+then-place-eq0}
use Rattle.frames.proofs.write_slot.Goals as goal

pub returns-then-place-k : goal.returns-then-place-k
returns-then-place-k c = write_none c.args.w c.requires.0 c.requires.1 (slot_none c.args.slots.now c.args.place c.args.k
    (elim c.then-place-k.branch [
      | then-place-k-via-then-place-k w ↦ inl w.if-place-k.true
      | then-place-k-via-else-place-k+then-place-eq0 w ↦ inr w.if-place-eq0.true
    ]) c.requires.0.room)

pub returns : goal.returns
returns c = write_some c.args.w c.requires.0 c.requires.1 c.if-place-k.false c.if-place-eq0.either
