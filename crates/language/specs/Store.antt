-- Values and objects as numbers, and the run of rows over a lent store (document 01, "Evaluation").
use Rattle.std.specs.Prelude.{ℕ, zero, suc, ◌-◌, ◌*◌, ◌/◌, min, true, false, List, [], ◌∷◌, ◌++◌, map, length, get_or, take, drop, replicate, leb}
use Rattle.language.specs.Limits.{most_fuel, most_objects, object_width, limit_refusal, no_line}
use Rattle.language.specs.Limits.{spent_stop, deep_stop, full_stop}
use Rattle.language.specs.Results.{ok, stop, Checked, accept, refuse, require}
use Rattle.language.specs.Tree.{Program}
use Rattle.language.specs.World.{World}
use Rattle.language.specs.Verdict.{whole_rows, three_passes}
use Rattle.language.specs.State.{Value, null, truth, object, Object, State, Stop, raised, spent}
use Rattle.language.specs.State.{deep, full, stuck, Out}
use Rattle.language.specs.Evaluation.{with_limits, run}

-- A value is 0 null, 1 false, 2 true, or 2 + j for the j-th object made, from 1.
-- `object j` is the one that j others were made before, so its number is 3 + j.
abbrev pub value_number : Value → ℕ
value_number null = 0
value_number (truth false) = 1
value_number (truth true) = 2
value_number (object j) = suc (suc (suc j))

abbrev pub value_of_number : ℕ → Value
value_of_number zero = null
value_of_number (suc zero) = truth false
value_of_number (suc (suc zero)) = truth true
value_of_number (suc (suc (suc j))) = object j

-- An object is 18 numbers: class, then fields, unused ones 0.
abbrev pub object_numbers : Object → List ℕ
object_numbers o = o.class_of
    ∷ (map value_number o.fields ++ replicate (object_width - 1 - length o.fields) 0)

unfoldable pub heap_numbers : List Object → List ℕ
heap_numbers [] = []
heap_numbers (o ∷ os) = object_numbers o ++ heap_numbers os

-- The first n objects that numbers hold: of each as many fields as its class has.
unfoldable pub heap_of_numbers : World → ℕ → List ℕ → List Object
heap_of_numbers W zero store = []
heap_of_numbers W (suc n) store = let c = get_or store 0 0 in
    record { class_of = c; fields = map value_of_number (take (length (W.fields c)) (drop 1 store)) }
    ∷ heap_of_numbers W n (drop object_width store)

-- How many objects a store has room for.
unfoldable pub capacity : List ℕ → ℕ
capacity store = min (length store / object_width) most_objects

-- The store afterwards: the objects made; what held none is unchanged.
unfoldable pub stored : List Object → List ℕ → List ℕ
stored heap store = heap_numbers heap ++ drop (object_width * length heap) store

-- How a run ended: with a value, or stopped.
pub data Outcome : Type 0 where
  gave : Value → Outcome
  ended : Stop → Outcome

-- The number of an exception or stop. No accepted program gets stuck.
abbrev pub stop_number : Stop → ℕ
stop_number (raised n) = n
stop_number spent = spent_stop
stop_number deep = deep_stop
stop_number full = full_stop
stop_number stuck = 0

-- The answer of a run: a refusal, or the outcome with steps, objects made and changes of class.
pub data Answer : Type 0 where
  refused : ℕ → ℕ → Answer
  ran : Outcome → ℕ → ℕ → ℕ → Answer

-- An answer, and the store afterwards.
pub record Ran : Type 0 where
  pub answer : Answer
  pub store : List ℕ

abbrev pub finished : Outcome → State → List ℕ → Ran
finished o s store = record
    { answer = ran o s.steps (length s.heap) s.changes; store = stored s.heap store }

abbrev pub finish : Out Value → List ℕ → Ran
finish (ok v s) store = finished (gave v) s store
finish (stop x s) store = finished (ended x) s store

-- Rows not a multiple of 4 long, the fuel limit, the three passes: the program to run.
unfoldable pub runnable : List ℕ → ℕ → Checked Program
runnable ns fuel = whole_rows ns λ _. require (leb fuel most_fuel) limit_refusal no_line λ _. three_passes ns

-- The run; a refusal changes nothing.
abbrev pub run_checked : Checked Program → ℕ → List ℕ → Ran
run_checked (refuse n l) fuel store = record { answer = refused n l; store = store }
run_checked (accept p) fuel store = finish (run (with_limits fuel (capacity store)) p) store

unfoldable pub run_of : List ℕ → ℕ → List ℕ → Ran
run_of ns fuel store = run_checked (runnable ns fuel) fuel store
