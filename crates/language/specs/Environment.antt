-- Slots as typing has them, and those at the start of a body (document 01, "Bodies"; 002, section 3.3).
use Rattle.std.specs.Prelude.{ℕ, List, [], map}
use Rattle.std.proofs.Math.Option.{none, some}
use Rattle.language.specs.Frames.{Frame, frame}
use Rattle.language.specs.Tree.{DeclaredType, class}

-- A slot's declared type, and its type where typing stands.
pub record Slot : Type 0 where
  pub declared : DeclaredType
  pub current : DeclaredType

abbrev pub Environment : Type 0
Environment = Frame Slot

abbrev pub fresh_slot : DeclaredType → Slot
fresh_slot t = record { declared = t; current = t }

abbrev pub with_type : DeclaredType → Slot → Slot
with_type t s = record { declared = s.declared; current = t }

-- The slots at the start of a method's body, and of the start block.
abbrev pub method_environment : ℕ → List DeclaredType → Environment
method_environment owner ts = frame (some (fresh_slot (class owner))) (map fresh_slot ts)

abbrev pub start_environment : Environment
start_environment = frame none []
