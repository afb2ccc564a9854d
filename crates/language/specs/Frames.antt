-- What stands in slots: `this`, slot 0, apart from the others, since a start block has none
-- (document 01, "Lines and rows").
use Rattle.std.specs.Prelude.{ℕ, zero, suc, List, ◌++◌, map, take, set as replace}
use Rattle.std.proofs.Math.Option.{Option}
use Rattle.language.specs.Lists.{nth, map_option}

pub record Frame (A : Type 0) : Type 0 where
  pub this : Option A
  pub slots : List A

module _ {A : Type 0} where
  abbrev pub frame : Option A → List A → Frame A
  frame t l = record { this = t; slots = l }

  -- What stands in a slot.
  abbrev pub at_slot : Frame A → ℕ → Option A
  at_slot γ zero = γ.this
  at_slot γ (suc k) = nth γ.slots k

  -- The frame with something else in a slot; a slot that is not there stays away.
  abbrev pub with_slot : Frame A → ℕ → A → Frame A
  with_slot γ zero a = frame (map_option (λ b. a) γ.this) γ.slots
  with_slot γ (suc k) a = frame γ.this (replace γ.slots k a)

  -- A block's locals come after the slots in scope, and go when it ends.
  abbrev pub opened : Frame A → List A → Frame A
  opened γ l = frame γ.this (γ.slots ++ l)

  abbrev pub closed : ℕ → Frame A → Frame A
  closed n γ = frame γ.this (take n γ.slots)

  abbrev pub map_frame : (A → A) → Frame A → Frame A
  map_frame f γ = frame (map_option f γ.this) (map f γ.slots)
