-- The state of a run: values, objects, slots, counts; and why a run ends without a value (document 01, "Evaluation";
-- 002, section 3.2).
use Rattle.std.specs.Prelude.{ℕ, suc, Bool, true, false, List, [], ◌∷◌, map}
use Rattle.language.specs.Results.{Result}
use Rattle.language.specs.Frames.{Frame}
use Rattle.language.specs.Tree.{DeclaredType, bool, class, Literal, literal_true, literal_false}
use Rattle.language.specs.Tree.{literal_null, Field}

-- An object is named by how many were made before it.
pub data Value : Type 0 where
  null : Value
  truth : Bool → Value
  object : ℕ → Value

pub record Object : Type 0 where
  pub class_of : ℕ
  pub fields : List Value

-- Slots, objects in the order in which they were made, nodes entered, changes of class.
pub record State : Type 0 where
  pub frame : Frame Value
  pub heap : List Object
  pub steps : ℕ
  pub changes : ℕ

-- Why a run ends without a value. Stuck is a member that is not there, or a value of the wrong sort;
-- no accepted program gets there.
pub data Stop : Type 0 where
  raised : ℕ → Stop
  spent deep full stuck : Stop

abbrev pub Out : Type 0 → Type 0
Out A = Result State Stop A

abbrev pub entered : State → State
entered s = record { frame = s.frame; heap = s.heap; steps = suc s.steps; changes = s.changes }

abbrev pub with_frame : Frame Value → State → State
with_frame γ s = record { frame = γ; heap = s.heap; steps = s.steps; changes = s.changes }

abbrev pub with_heap : List Object → State → State
with_heap h s = record { frame = s.frame; heap = h; steps = s.steps; changes = s.changes }

abbrev pub with_change : List Object → State → State
with_change h s = record { frame = s.frame; heap = h; steps = s.steps; changes = suc s.changes }

-- New fields and locals hold false or null.
abbrev pub initial : DeclaredType → Value
initial bool = truth false
initial (class c) = null

abbrev pub initials : List Field → List Value
initials fs = map (λ f. initial f.type) fs

-- The value of a literal.
abbrev pub literal_value : Literal → Value
literal_value literal_true = truth true
literal_value literal_false = truth false
literal_value literal_null = null

-- The last of values, which a block gives; v where there is none.
abbrev pub last_value : Value → List Value → Value
last_value v [] = v
last_value v (w ∷ ws) = last_value w ws
