-- The numbers that cross to C (Packed, crate packing) of a run as the code gives it, where objects count from 1.
use Rattle.std.specs.Prelude.{ℕ, cond, Result, Ok, Err}
use Rattle.language.specs.declared.Refusal.{Refusal}
use Rattle.objects.specs.declared.Value.{Value}
use Rattle.objects.specs.declared.Value.TheVariants.{Null, Truth, Object}
use Rattle.machine.specs.declared.End.{End}
use Rattle.machine.specs.declared.End.TheVariants.{Gave, Raised, Stopped}
use Rattle.machine.specs.declared.Run.{Run}
use Rattle.machine.specs.Runs.{stop_told}
use Rattle.packing.specs.Packed.{refusal, packed_by, stored_by, exception, null_kind, bool_kind, object_kind}

abbrev pub kind_of : Value → ℕ
kind_of Null = null_kind
kind_of (Truth b) = bool_kind
kind_of (Object j) = object_kind

abbrev pub content_of : Value → ℕ
content_of Null = 0
content_of (Truth b) = cond b 1 0
content_of (Object j) = j

abbrev pub packed_end : End → ℕ
packed_end (Gave v) = 0
packed_end (Raised n) = refusal exception n
packed_end (Stopped s) = refusal (stop_told s) 0

abbrev pub packed_run : Result Run Refusal → ℕ
packed_run a = packed_by (λ (r : Run). packed_end r.outcome) a

abbrev pub kind_left : End → ℕ → ℕ
kind_left (Gave v) before = kind_of v
kind_left (Raised n) before = before
kind_left (Stopped s) before = before

abbrev pub kind_told : Result Run Refusal → ℕ → ℕ
kind_told (Ok r) before = kind_left r.outcome before
kind_told (Err r) before = before

abbrev pub content_left : End → ℕ → ℕ
content_left (Gave v) before = content_of v
content_left (Raised n) before = before
content_left (Stopped s) before = before

abbrev pub content_told : Result Run Refusal → ℕ → ℕ
content_told (Ok r) before = content_left r.outcome before
content_told (Err r) before = before

abbrev pub steps_told : Result Run Refusal → ℕ → ℕ
steps_told a before = stored_by (λ (r : Run). r.steps) a before

abbrev pub objects_told : Result Run Refusal → ℕ → ℕ
objects_told a before = stored_by (λ (r : Run). r.objects) a before

abbrev pub changes_told : Result Run Refusal → ℕ → ℕ
changes_told a before = stored_by (λ (r : Run). r.changes) a before
