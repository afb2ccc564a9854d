-- What the functions of slots require and ensure, and how many slots a call needs.
use Rattle.std.specs.Prelude.{◌≡◌, true, false, cond, List, ℕ, ◌+◌, ◌*◌, ◌≤◌, ◌<◌, leb, length, get_or, ◌⊎◌}
use Rattle.language.specs.Results.{ok}
use Rattle.language.specs.Frames.{at_slot, with_slot}
use Rattle.language.specs.State.{Value as Meaning, null, truth, object, State}
use Rattle.language.specs.State.{with_frame}
use Rattle.language.specs.Evaluation.{need}
use Rattle.language.specs.Limits.{of_check}
use Rattle.objects.specs.Values.{word, SmallOutcome, told, bare, Outcome, Gave}
use Rattle.objects.specs.Values.{Stuck}
use Rattle.objects.specs.Acts.{Written, IsWord}
use Rattle.objects.specs.Holding.{first_value_of}
use Rattle.frames.specs.declared.Place.{Place}
use Rattle.frames.specs.Places.{frame_of}

-- The slots in scope are there, and all slots are words of values.
pub record Slots (l : List ℕ) (q : Place) : Type 0 where
  pub room : q.base + q.scope < length l
  pub words : (i : ℕ) → IsWord (get_or l i 0)

pub record Locals (R l : List ℕ) (row from n : ℕ) : Type 0 where
  pub room : from + n ≤ length l
  pub rows : (i : ℕ) → i < n → (row + i) * 4 + 1 < length R

abbrev pub Opened : List ℕ → List ℕ → List ℕ → ℕ → ℕ → ℕ → Type 0
Opened R l l' row from n = Written l l' from n (λ i. word (first_value_of (get_or R ((row + i) * 4 + 1) 0)))

pub record PostRead (l : List ℕ) (k : ℕ) (q : Place) (r : Outcome) : Type 0 where
  pub small : SmallOutcome r
  pub is : (t : State) → told r t ≡ bare (need (at_slot (frame_of l q) k) t λ v. ok v t)

pub record PostWrite (l l' : List ℕ) (k : ℕ) (v : Meaning) (q : Place) (r : Outcome) : Type 0 where
  pub long : length l' ≡ length l
  pub same : (i : ℕ) → (i < q.base) ⊎ (q.base + q.scope < i) → get_or l' i 0 ≡ get_or l i 0
  pub words : (i : ℕ) → IsWord (get_or l' i 0)
  pub small : SmallOutcome r
  pub is : (t : State) → told r (with_frame (frame_of l' q) t)
      ≡ bare (need (at_slot (frame_of l q) k) t λ _.
      ok v (with_frame (with_slot (frame_of l q) k v) t))

-- Z of a value.
abbrev pub null_tested : Meaning → Outcome
null_tested null = Gave (truth true)
null_tested (truth b) = Stuck
null_tested (object j) = Gave (truth false)

-- ---- room

-- How many values wait at most where d nodes nest: a receiver and arguments in each.
abbrev pub waiting : ℕ → ℕ
waiting d = (of_check.parameters + 1) * d

-- Slots come in segments of one length, in which any call has room for its frame and the values that wait in it.
abbrev pub segment_length : ℕ
segment_length = 1920

-- A whole segment of slots, all of them words of values.
pub record Segment (l : List ℕ) : Type 0 where
  pub whole : length l ≡ segment_length
  pub words : (i : ℕ) → IsWord (get_or l i 0)

-- How many slots a frame has at most, `this` included.
abbrev pub frame_room : ℕ
frame_room = 264

-- How many slots a call needs for `this`, n arguments and the locals of its body, and how many nodes nest in the body: no
-- more than it has rows, and no more than the limits allow.
unfoldable pub frame_width : ℕ → ℕ → ℕ
frame_width size n = cond (leb of_check.nesting size) frame_room (n + 1 + size)

unfoldable pub most_nested : ℕ → ℕ
most_nested size = cond (leb of_check.nesting size) of_check.nesting size
