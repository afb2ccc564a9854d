-- What the numbers of the evaluator mean: a value's word, an outcome, the tally; and what an outcome with a state tells.
use Rattle.std.specs.Prelude.{cond, [], ℕ, zero, suc, ◌+◌, ◌-◌, ◌*◌, ◌/◌, ◌%◌, ◌≤◌, ◌<◌, eqb, leb, ltb}
use Rattle.std.proofs.Math.Option.{none}
use Rattle.language.specs.Results.{ok, stop}
use Rattle.language.specs.Frames.{frame}
use Rattle.language.specs.State.{Value as Meaning, null, truth, object, State, Stop, raised, spent, deep}
use Rattle.language.specs.State.{full, stuck, Out, with_frame}
use Rattle.language.specs.Store.{value_number}
use Rattle.objects.specs.declared.Value.{Value}
use Rattle.objects.specs.declared.Tally.{Tally}
use Rattle.objects.specs.declared.Value.TheVariants.{Null, Truth, Object}
use Rattle.objects.specs.declared.Reached.{Reached}
use Rattle.objects.specs.declared.Reached.TheVariants.{Null as ReachedNull, Nothing, At}
use Rattle.language.specs.Limits.{spent_stop, deep_stop, full_stop, object_width}

-- A value is one word: its kind times 2^32, and its content. Null is 0 and 0, a truth value 1 and 0 or 1, an object 2 and
-- its number, from 1.
abbrev pub kind_size : ℕ
kind_size = 4294967296

abbrev pub word : Meaning → ℕ
word null = 0
word (truth b) = kind_size + cond b 1 0
word (object j) = 2 * kind_size + suc j

-- The value of a word.
abbrev pub numbered : ℕ → Meaning
numbered zero = null
numbered (suc j) = object j

abbrev pub of_kind : ℕ → ℕ → Meaning
of_kind zero content = null
of_kind (suc zero) content = truth (eqb content 1)
of_kind (suc (suc zero)) content = numbered content
of_kind (suc (suc (suc kind))) content = null

unfoldable pub meaning : ℕ → Meaning
meaning w = of_kind (w / kind_size) (w % kind_size)

-- A value as the code has it by cases: objects count from 1.
abbrev pub case_of : Meaning → Value
case_of null = Null
case_of (truth b) = Truth b
case_of (object j) = Object (suc j)

-- What a value leads to, where n objects are made: an object by its index in the store.
abbrev pub reached : ℕ → Meaning → Reached
reached made null = ReachedNull
reached made (truth b) = Nothing
reached made (object j) = cond (ltb j made) (At (j * object_width)) Nothing

-- How evaluating ended: with a value, with an exception, stopped (14 spent, 15 deep, 16 full), or where no rule goes on,
-- which no checked program reaches.
pub data Outcome : Type 0 where
  Gave : Meaning → Outcome
  Raised : ℕ → Outcome
  Stopped : ℕ → Outcome
  Stuck : Outcome

-- An outcome as one word: below 4 · 2^32 that of the value; from there on 0 more where no rule goes on, 1 or 2 more for an
-- exception, otherwise the stop's number more.
abbrev pub no_value : ℕ
no_value = 4 * kind_size

abbrev pub failure : ℕ → Outcome
failure n = cond (eqb n 0) Stuck (cond (leb n 2) (Raised n) (Stopped n))

unfoldable pub outcome : ℕ → Outcome
outcome x = cond (leb no_value x) (failure (x - no_value)) (Gave (meaning x))

-- How evaluating ended, and the tally then; the same of an outcome's number and the tally.
pub record Answer : Type 0 where
  pub outcome : Outcome
  pub counts : Tally

abbrev pub answer : Outcome → Tally → Answer
answer o n = record { outcome = o; counts = n }

abbrev pub answered : ℕ → Tally → Answer
answered r n = answer (outcome r) n

-- A value whose number fits its place in the store; an outcome with such a value, or a stop that there is.
abbrev pub Small : Meaning → Type 0
Small v = value_number v < 4294967296

abbrev pub SmallOutcome : Outcome → Type 0
SmallOutcome (Gave v) = Small v
SmallOutcome (Raised n) = Unit {0}
SmallOutcome (Stopped n) = (spent_stop ≤ n) × (n ≤ full_stop)
SmallOutcome Stuck = Unit {0}

-- The stop of a number.
abbrev pub stop_of : ℕ → Stop
stop_of n = cond (eqb n spent_stop) spent (cond (eqb n deep_stop) deep full)

-- What an outcome with a state means. Where a run ends without a value its slots are not looked at.
abbrev pub bare_state : State → State
bare_state s = with_frame (frame none []) s

abbrev pub told : Outcome → State → Out Meaning
told (Gave v) s = ok v s
told (Raised n) s = stop (raised n) (bare_state s)
told (Stopped n) s = stop (stop_of n) (bare_state s)
told Stuck s = stop stuck (bare_state s)

unfoldable pub bare : {A : Type 0} → Out A → Out A
bare (ok a s) = ok a s
bare (stop x s) = stop x (bare_state s)
