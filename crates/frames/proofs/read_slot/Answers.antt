use mathlib.Core.Logic.{inl, inr}
use Prim.Native.Nat.{◌+◌}
use lib.ListN.{get_or}
use Rattle.frames.proofs.Frames.{slot_none, slot_some, read_none, read_some}
use Rattle.frames.proofs.read_slot.Goals.{then-place-k-via-then-place-k}
use Rattle.frames.proofs.read_slot.Goals.{then-place-k-via-else-place-k+then-place-eq0}
use Rattle.frames.proofs.read_slot.Goals as goal

pub returns-then-place-k : goal.returns-then-place-k
returns-then-place-k c = read_none (slot_none c.args.slots.now c.args.place c.args.k
    (elim c.then-place-k.branch [
      | then-place-k-via-then-place-k w ↦ inl w.if-place-k.true
      | then-place-k-via-else-place-k+then-place-eq0 w ↦ inr w.if-place-eq0.true
    ]) c.requires.room)

pub returns : goal.returns
returns c = read_some (get_or c.args.slots.now (c.args.place.base + c.args.k) 0)
    (slot_some c.args.slots.now c.args.place c.args.k c.if-place-k.false c.if-place-eq0.either
    c.requires.room) (c.requires.words (c.args.place.base + c.args.k))
