-- Which programs the translator takes, how a run of rows over a lent store ends, and when the run of a
-- program and that of its plain form end alike: the words in which the demands are stated. Objects are read
-- off the numbers of the stores.
use Rattle.std.specs.Prelude.{◌≡◌, ◌≢◌, ℕ, ◌+◌, ◌*◌, ◌≤◌, ◌<◌, List, [], map, length}
use Rattle.std.proofs.Math.Option.{some}
use Rattle.language.specs.Limits.{Most, most_calls, plain_steps_a_step}
use Rattle.language.specs.Lists.{nth}
use Rattle.language.specs.Results.{ok, stop, Checked, accept, refuse}
use Rattle.language.specs.Rows.{row_of, numbers_of}
use Rattle.language.specs.Tree.{Field, Class, Program, flatten_program}
use Rattle.language.specs.Program.{world}
use Rattle.language.specs.WellFormed.{Each, ProgramInForm}
use Rattle.language.specs.Translation.{plain_program}
use Rattle.language.specs.Verdict.{check}
use Rattle.language.specs.State.{Value, Object, State, Stop, raised, deep}
use Rattle.language.specs.Evaluation.{first_state}
use Rattle.language.specs.Runs.{Evaluates}
use Rattle.language.specs.Store.{heap_of_numbers, capacity, stored, Outcome, gave, ended, ran, Ran}
use Rattle.language.specs.Correspondence.{identities, EndAlike, Matches}
use Rattle.language.specs.WellFormed.{RowsOf}

-- The column "translator's input" of the table of limits (document 01, "Lines and rows"). The numbers are
-- written out here, so that the demand does not follow the definition if that has another one.
abbrev pub translator_column : Most
translator_column =
    record { rows = 680; classes = 62; fields = 16; parameters = 8; slots = 32; nesting = 24; name = 255 }

-- A field with neither of the names that the plain program needs for itself.
pub record Unreserved (f : Field) : Type 0 where
  pub not_id : f.name ≢ 254
  pub not_imp : f.name ≢ 255

-- A program within that column, with at most its number of fields in each class, its superclass's included, and no
-- field of a reserved name.
pub record Translatable (p : Program) : Type 0 where
  pub in_form : ProgramInForm translator_column p
  pub few_fields : Each (λ (c : Class).
      length ((world p.classes).fields c.super) + length c.fields ≤ translator_column.fields)
      p.classes
  pub unreserved : Each (λ (c : Class). Each Unreserved c.fields) p.classes

-- The numbers of the rows of a program's plain program.
abbrev pub plain_numbers : Program → List ℕ
plain_numbers p = numbers_of (map row_of (flatten_program (plain_program p)))

-- The numbers ns are the rows of a well-formed program that the translator takes, and out those of its plain
-- program.
pub record TranslatesTo (ns out : List ℕ) : Type 0 where
  pub program : Program
  pub rows_of_it : RowsOf ns program
  pub translatable : Translatable program
  pub plain_rows : out ≡ plain_numbers program

-- The classes that accepted rows declare; rows that are refused declare none.
abbrev pub classes_read : Checked Program → List Class
classes_read (accept p) = p.classes
classes_read (refuse n l) = []

-- The first n objects that the numbers of a store hold, read by the classes that the rows declare.
unfoldable pub objects_in : List ℕ → ℕ → List ℕ → List Object
objects_in ns n store = heap_of_numbers (world (classes_read (check ns))) n store

-- A value, an exception, or too deep a call (15).
pub data Proper : Outcome → Type 0 where
  a_value : {v : Value} → Proper (gave v)
  an_exception : {n : ℕ} → Proper (ended (raised n))
  too_deep : Proper (ended deep)

-- A run ends in one of some outcomes, with these counts of steps, objects made and changes of class.
pub record Ends (Outcomes : Outcome → Type 0) (a : Ran) : Type 0 where
  pub outcome : Outcome
  pub steps : ℕ
  pub objects : ℕ
  pub changes : ℕ
  pub answer : a.answer ≡ ran outcome steps objects changes
  pub one_of : Outcomes outcome

-- A run ends in a value, an exception or too deep a call.
abbrev pub EndsProperly : Ran → Type 0
EndsProperly a = Ends Proper a

-- The objects that a run of rows made, as the numbers of its store hold them afterwards, and the Identities
-- among them in the order in which they were made.
abbrev pub objects_after : (ns : List ℕ) {a : Ran} → EndsProperly a → List Object
objects_after ns {a} e = objects_in ns e.objects a.store

abbrev pub identities_after : (ns : List ℕ) {a : Ran} → EndsProperly a → List ℕ
identities_after ns e = identities 0 (objects_after ns e)

-- Object j, from 0, matches the j-th Identity made: the object in that Identity's `imp`, its implementor, has
-- class k + 2 where object j has class k, that Identity as `id`, and after `id` fields that correspond to
-- object j's in order.
pub record ObjectMatches (objects plain-objects : List Object) (j : ℕ) : Type 0 where
  pub object : Object
  pub there : nth objects j ≡ some object
  pub matches : Matches (identities 0 plain-objects) plain-objects j object

-- A run of rows, a, and one of their plain rows, a', end alike: both give corresponding values (both null,
-- the same truth value, or object j and the j-th Identity made), the same exception, or 15. Where the source
-- made n objects and changed the class of one r times, the plain run made exactly 2n + r objects, n
-- Identities among them, and changed no class; it took at least as many steps, and at most 84 times as many.
-- In the two stores afterwards object j matches the j-th Identity, for every object made.
pub record EndAlikeOnStores (ns out : List ℕ) (a a' : Ran) : Type 0 where
  pub source : EndsProperly a
  pub plain : EndsProperly a'
  pub alike : EndAlike (identities_after out plain) source.outcome plain.outcome
  pub objects : plain.objects ≡ 2 * source.objects + source.changes
  pub identities_made : length (identities_after out plain) ≡ source.objects
  pub unchanged : plain.changes ≡ 0
  pub steps_at_least : source.steps ≤ plain.steps
  pub steps_at_most : plain.steps ≤ plain_steps_a_step * source.steps
  pub each : (j : ℕ) → j < source.objects
      → ObjectMatches (objects_after ns source) (objects_after out plain) j

-- The evaluation relation (Runs: 002, Figures 3 to 6, with the stops of document 01) derives an outcome of a
-- program and the state then, within the fuel, the room for objects and 64 active calls.
pub data Derives (p : Program) (fuel room : ℕ) : Outcome → State → Type 0 where
  derives_value : {v : Value} {t : State}
      → Evaluates p.classes fuel room most_calls p.start first_state (ok v t)
      → Derives p fuel room (gave v) t
  derives_stop : {x : Stop} {t : State}
      → Evaluates p.classes fuel room most_calls p.start first_state (stop x t)
      → Derives p fuel room (ended x) t

-- What the relation derives of a program with fuel and the room of a store, as an answer and the store
-- afterwards: the outcome with its counts, and the objects made before what was there past them.
pub record DerivedRun (p : Program) (fuel : ℕ) (store : List ℕ) (a : Ran) : Type 0 where
  pub outcome : Outcome
  pub state : State
  pub derived : Derives p fuel (capacity store) outcome state
  pub answer : a.answer ≡ ran outcome state.steps (length state.heap) state.changes
  pub store_after : a.store ≡ stored state.heap store
