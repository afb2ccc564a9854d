-- Demand 1: what the check, the translator, a run and the filling of a lent buffer give is one of the answers
-- that document 01 lists, and a refusal leaves what was lent as it was.
use mathlib.Core.Path.{◌≡◌, refl, ap, ◌∙◌}
use Prim.Native.Nat.{ℕ, ◌+◌, ◌*◌, ◌%◌, ◌≤◌}
use mathlib.Core.Bool.{Bool, true, false, cond}
use mathlib.Core.List.{List}
use lib.ListN.{length, drop, length-map}
use lib.Dec.{eqb, leb}
use borrow.Author.Tests.{eqb-false, leb-true, leb-false, eqb-true}
use native.Mathlib.Omega.{arith}
use Rattle.language.specs.Limits.{of_check, most_fuel, numbers_a_row, object_width, line_refusal}
use Rattle.language.specs.Limits.{limit_refusal, room_refusal, no_line}
use Rattle.language.specs.Results.{ok, stop, Checked, accept, refuse, require, Holds, holds_ok, holds_stop}
use Rattle.language.specs.Rows.{row_of, rows_of}
use Rattle.language.specs.Filling.{filled, overwritten, answer, buffer}
use Rattle.language.specs.Tree.{size, classes_lines, Program, flatten_program}
use Rattle.language.specs.World.{World}
use Rattle.language.specs.Program.{world, body_in}
use Rattle.language.specs.Form.{form}
use Rattle.language.specs.Verdict.{whole_rows, three_passes, check, verdict_of, verdict}
use Rattle.language.specs.State.{Value, State, Stop, Out}
use Rattle.language.specs.Evaluation.{with_limits, first_state, run}
use Rattle.language.specs.WellFormed.{ProgramWell}
use Rattle.language.specs.Store.{capacity, stored, ended, finish, runnable, run_checked, run_of}
use Rattle.theory.proofs.soundness.Fitting.{Fine, fine_null, fine_cast, fine_deep, fine_spent, fine_full}
use Rattle.theory.proofs.reading.RowCounts.{length_program}
use Rattle.theory.proofs.reading.FlattenProgram.{form_back}
use Rattle.theory.proofs.acceptance.Acceptance.{check_accepts}
use Rattle.theory.proofs.soundness.Members.{run_sound, runnable_check}
use Rattle.theory.proofs.evaluation.LimitedRuns.{Within, final, limited_start, ends_within}
use Rattle.theory.proofs.simulation.LimitedSimulation.{outcome}
use Rattle.theory.proofs.evaluation.StoreNumbers.{run_shaped, stored_rest, stored_length}
use Rattle.promises.specs.Listed.{PassRefusal, by_pass, CheckRefusal, no_whole_rows, by_form}
use Rattle.promises.specs.Listed.{by_headings, by_bodies}
use Rattle.promises.specs.Listed.{RunRefusal, no_rows_to_run, run_by_pass, too_much_fuel}
use Rattle.promises.specs.Listed.{ListedVerdict, is_accepted}
use Rattle.promises.specs.Listed.{is_refused, ListedOutcome, a_value, exception_1, exception_2, stop_14}
use Rattle.promises.specs.Listed.{stop_15, stop_16, ListedRun, is_refused_run, is_run, ListedFilling}
use Rattle.promises.specs.Listed.{is_filled, has_no_room, is_not_made}
use Rattle.promises.proofs.answers.Refusals.{RefusesOnly, answers, refuses_as, only, only_refused}
use Rattle.promises.proofs.answers.Refusals.{only_mono}
use Rattle.promises.proofs.answers.Refusals.{only_bind}
use Rattle.promises.proofs.answers.FormRefusals.{form_refusals}
use Rattle.promises.proofs.answers.PassRefusals.{heading_refusals, body_refusals}

-- The rows of a program that the pass over form reads are as many as its lines.
pub rows_read : (ns : List ℕ) (p : Program) → form of_check (rows_of ns) ≡ accept p
    → length (rows_of ns) ≡ 1 + classes_lines p.classes + size p.start
rows_read ns p e = ap length (form_back of_check (omega arith) (rows_of ns) p e).0
    ∙ (length-map (flatten_program p) row_of ∙ length_program p)

-- The three passes refuse only in the ways listed for them.
passes_refuse : (ns : List ℕ) → RefusesOnly (PassRefusal ns) (three_passes ns)
unfolding three_passes
passes_refuse ns =
    only_bind (only_refused (only (form_refusals of_check (rows_of ns)) (λ n l w. w))
    (λ n l q w. by_form q w))
    λ p e.
    let rows = length (rows_of ns) in let lines = rows_read ns p e in
    only_bind (only_refused (only (heading_refusals of_check p.classes rows (omega (arith, lines)))
    (λ n l w. w)) (λ n l q w. by_headings p e q w)) λ u e₂.
    only_bind (only_refused (only (body_refusals p rows (omega (arith, lines))) (λ n l w. w))
    (λ n l q w. by_bodies p e e₂ q w)) λ _ _. answers

-- The check refuses only in the ways listed for it.
pub check_refuses : (ns : List ℕ) → RefusesOnly (CheckRefusal ns) (check ns)
unfolding check whole_rows require
check_refuses ns = go (eqb (length ns % numbers_a_row) 0) refl
  where
    go : (b : Bool) → eqb (length ns % numbers_a_row) 0 ≡ b
        → RefusesOnly (CheckRefusal ns) (require b line_refusal no_line (λ _. three_passes ns))
    go true e = only_mono (passes_refuse ns) (λ n l w. by_pass (eqb-true (length ns % numbers_a_row) 0 e) w)
    go false e = refuses_as (no_whole_rows (eqb-false (length ns % numbers_a_row) 0 e))

-- The verdict is listed.
pub verdict_listed : (ns : List ℕ) → ListedVerdict ns (verdict ns)
unfolding verdict
verdict_listed ns = go (check_refuses ns)
  where
    go : {c : Checked Program} → RefusesOnly (CheckRefusal ns) c
        → ListedVerdict ns (verdict_of c)
    go answers = is_accepted
    go (refuses_as w) = is_refused w

-- What is run is refused only as listed for a run.
runnable_refuses : (ns : List ℕ) (fuel : ℕ)
    → RefusesOnly (RunRefusal ns fuel) (runnable ns fuel)
unfolding runnable whole_rows require
runnable_refuses ns fuel = go (eqb (length ns % numbers_a_row) 0) refl
  where
    fueled : (b : Bool) → leb fuel most_fuel ≡ b → length ns % numbers_a_row ≡ 0
        → RefusesOnly (RunRefusal ns fuel)
        (require b limit_refusal no_line (λ _. three_passes ns))
    fueled true e whole = only_mono (passes_refuse ns) (λ n l w.
        run_by_pass whole (leb-true fuel most_fuel e) w)
    fueled false e whole = refuses_as (too_much_fuel whole (leb-false fuel most_fuel e))

    go : (b : Bool) → eqb (length ns % numbers_a_row) 0 ≡ b → RefusesOnly (RunRefusal ns fuel)
        (require b line_refusal no_line
        (λ _. require (leb fuel most_fuel) limit_refusal no_line (λ _. three_passes ns)))
    go true e = fueled (leb fuel most_fuel) refl (eqb-true (length ns % numbers_a_row) 0 e)
    go false e = refuses_as (no_rows_to_run (eqb-false (length ns % numbers_a_row) 0 e))

-- The outcome of a sound run is listed.
outcome_listed : {W : World} {P : Value → State → Type 0} {r : Out Value} → Holds P (Fine W) r
    → ListedOutcome (outcome r)
outcome_listed (holds_ok h) = a_value
outcome_listed (holds_stop h) = go h
  where
    go : {W : World} {x : Stop} {s : State} → Fine W x s → ListedOutcome (ended x)
    go (fine_null h) = exception_1
    go (fine_cast h) = exception_2
    go (fine_deep h) = stop_15
    go (fine_spent h) = stop_14
    go (fine_full h) = stop_16

-- A run with limits ends within them.
run_within : (p : Program) (fuel room : ℕ) → Within fuel room (final (run (with_limits fuel room) p))
unfolding run
run_within p fuel room =
    ends_within fuel room
    (limited_start fuel room (world p.classes) (body_in p.classes) p.start first_state
    (record { fuel = omega arith; room = omega arith }))

-- The run of a well-formed program is listed.
finish_listed : (ns : List ℕ) (fuel : ℕ) (store : List ℕ) (p : Program) → ProgramWell p
    → ListedRun ns fuel store (finish (run (with_limits fuel (capacity store)) p) store)
finish_listed ns fuel store p w =
    let r = run (with_limits fuel (capacity store)) p in
    let shaped = run_shaped p w (with_limits fuel (capacity store)) in
    let limits = run_within p fuel (capacity store) in
    go r (outcome_listed (run_sound p w (with_limits fuel (capacity store)))) limits.fuel limits.room
    (stored_length (final r).heap shaped store limits.room) (stored_rest (final r).heap shaped store)
  where
    go : (r : Out Value) → ListedOutcome (outcome r) → (final r).steps ≤ fuel
        → length (final r).heap ≤ capacity store
        → length (stored (final r).heap store) ≡ length store
        → drop (object_width * length (final r).heap) (stored (final r).heap store)
        ≡ drop (object_width * length (final r).heap) store
        → ListedRun ns fuel store (finish r store)
    go (ok v s) o f k l d = is_run o f k l d
    go (stop x s) o f k l d = is_run o f k l d

-- What a run gives is listed.
pub run_listed : (ns : List ℕ) (fuel : ℕ) (store : List ℕ)
    → ListedRun ns fuel store (run_of ns fuel store)
unfolding run_of
run_listed ns fuel store = go (runnable ns fuel) refl (runnable_refuses ns fuel)
  where
    go : (c : Checked Program) → runnable ns fuel ≡ c → RefusesOnly (RunRefusal ns fuel) c
        → ListedRun ns fuel store (run_checked c fuel store)
    go (accept p) e w = finish_listed ns fuel store p
        ((check_accepts ns p).0 (runnable_check ns fuel p e)).well
    go (refuse n l) e (refuses_as w) = is_refused_run w

-- What filling a lent buffer gives is listed, where the refusals of what is made are.
pub filling_listed : (width : ℕ) {Refusal : ℕ → ℕ → Type 0} {made : Checked (List ℕ)}
    → RefusesOnly Refusal made
    → (old : List ℕ)
    → ListedFilling width Refusal made old (answer width made (length old)) (buffer made old)
filling_listed width (refuses_as w) old = is_not_made refl w
filling_listed width {Refusal} (answers {a}) old = go (leb (length a) (length old)) refl
  where
    go : (b : Bool) → leb (length a) (length old) ≡ b → ListedFilling width Refusal (accept a) old
        (filled width (cond b (accept a) (refuse room_refusal no_line)))
        (overwritten (cond b (accept a) (refuse room_refusal no_line)) old)
    go true e = is_filled refl (leb-true (length a) (length old) e)
    go false e = has_no_room refl (leb-false (length a) (length old) e)
