-- Demand 2 for runs of rows over a lent store: the run of accepted rows gives an answer and a store exactly
-- if the evaluation relation derives them, whatever the end; the relation is total and deterministic there,
-- and accepted rows with legal fuel are never refused.
use mathlib.Core.Path.{◌≡◌, refl, sym, ap, ◌∙◌, subst}
use mathlib.Core.Logic.{◌↔◌, ◌≢◌}
use Prim.Native.Nat.{ℕ, ◌≤◌}
use mathlib.Core.List.{List}
use lib.ListN.{length}
use borrow.Author.Tests.{leb-true}
use native.Mathlib.Omega.{arith}
use Rattle.language.specs.Limits.{most_fuel, most_calls}
use Rattle.language.specs.Results.{ok, stop, Checked, accept, refuse, require_inv}
use Rattle.language.specs.Tree.{Program}
use Rattle.language.specs.Verdict.{whole_rows, accepted, verdict}
use Rattle.language.specs.State.{Value, State, Out}
use Rattle.language.specs.Evaluation.{with_limits, first_state, run}
use Rattle.language.specs.Runs.{Evaluates}
use Rattle.language.specs.WellFormed.{ProgramWell}
use Rattle.language.specs.Store.{capacity, stored, Outcome, Answer, ran, refused, Ran, finished, finish}
use Rattle.language.specs.Store.{runnable, run_checked, run_of}
use Rattle.language.specs.WellFormed.{RowsOf}
use Rattle.theory.proofs.acceptance.Acceptance.{demand_2_accepts}
use Rattle.theory.proofs.soundness.Members.{accepted_run}
use Rattle.theory.proofs.evaluation.LimitedRuns.{final}
use Rattle.theory.proofs.simulation.LimitedSimulation.{outcome}
use Rattle.theory.proofs.evaluation.ProgramRuns.{run_derived, derived_is_run}
use Rattle.promises.specs.Endings.{Derives, derives_value, derives_stop, DerivedRun}

-- The answer and the store of a finished run.
pub finish_answer : (r : Out Value) (store : List ℕ)
    → (finish r store).answer ≡ ran (outcome r) (final r).steps (length (final r).heap) (final r).changes
finish_answer (ok v s) store = refl
finish_answer (stop x s) store = refl

pub finish_store : (r : Out Value) (store : List ℕ) → (finish r store).store ≡ stored (final r).heap store
finish_store (ok v s) store = refl
finish_store (stop x s) store = refl

runnable_fuel : (ns : List ℕ) (fuel : ℕ) (p : Program) → runnable ns fuel ≡ accept p → fuel ≤ most_fuel
unfolding runnable whole_rows
runnable_fuel ns fuel p q = require_inv _ _ _ _ q λ _ q. require_inv _ _ _ _ q λ l _.
    leb-true fuel most_fuel l

-- A run that ended was not refused: its fuel is within the limit.
pub ended_within_fuel : (ns : List ℕ) (fuel : ℕ) (store : List ℕ) {o : Outcome} {steps objects changes : ℕ}
    → (run_of ns fuel store).answer ≡ ran o steps objects changes → fuel ≤ most_fuel
unfolding run_of
ended_within_fuel ns fuel store {o} {steps} {objects} {changes} e = go (runnable ns fuel) refl e
  where
    go : (c : Checked Program) → runnable ns fuel ≡ c
        → (run_checked c fuel store).answer ≡ ran o steps objects changes → fuel ≤ most_fuel
    go (refuse n l) q e = absurd (let z : ◌≡◌ {A = ℕ} 0 1 = cc in omega arith)
    go (accept p) q e = runnable_fuel ns fuel p q

-- A run is its answer and its store.
same_run : {a b : Ran} → a.answer ≡ b.answer → a.store ≡ b.store → a ≡ b
same_run {a} {b} e f = ap with-answer e ∙ ap with-store f
  where
    with-answer : Answer → Ran
    with-answer x = record { answer = x; store = a.store }

    with-store : List ℕ → Ran
    with-store l = record { answer = b.answer; store = l }

-- The result of a run, as its outcome and state, is derived if the relation derives it.
result_derives : (p : Program) (fuel room : ℕ) (r : Out Value)
    → Evaluates p.classes fuel room most_calls p.start first_state r
    → Derives p fuel room (outcome r) (final r)
result_derives p fuel room (ok v t) d = derives_value d
result_derives p fuel room (stop x t) d = derives_stop d

-- The run of a well-formed program over a store is derived: the relation is total.
pub run_is_derived : (p : Program) → ProgramWell p → (fuel : ℕ) (store : List ℕ)
    → DerivedRun p fuel store (finish (run (with_limits fuel (capacity store)) p) store)
run_is_derived p w fuel store = let r = run (with_limits fuel (capacity store)) p in record {
  outcome = outcome r;
  state = final r;
  derived = result_derives p fuel (capacity store) r (run_derived p w fuel (capacity store));
  answer = finish_answer r store;
  store_after = finish_store r store;
}

-- What is derived of a well-formed program over a store is its run.
derived_finish : {p : Program} {fuel room : ℕ} {o : Outcome} {t : State} → ProgramWell p → (store : List ℕ)
    → Derives p fuel room o t
    → finish (run (with_limits fuel room) p) store ≡ finished o t store
derived_finish {p} {fuel} {room} w store (derives_value {v} {t} d) =
    ap (λ (r : Out Value). finish r store) (derived_is_run p w fuel room (ok v t) d)
derived_finish {p} {fuel} {room} w store (derives_stop {x} {t} d) =
    ap (λ (r : Out Value). finish r store) (derived_is_run p w fuel room (stop x t) d)

pub derived_is_finish : (p : Program) → ProgramWell p → (fuel : ℕ) (store : List ℕ) (a : Ran)
    → DerivedRun p fuel store a → finish (run (with_limits fuel (capacity store)) p) store ≡ a
derived_is_finish p w fuel store a d =
    derived_finish w store d.derived ∙ same_run (sym d.answer) (sym d.store_after)

-- The run of the rows of a well-formed program gives a exactly if the relation derives a.
pub runs_derived : (ns : List ℕ) (p : Program) → RowsOf ns p → (fuel : ℕ) → fuel ≤ most_fuel
    → (store : List ℕ) (a : Ran) → (run_of ns fuel store ≡ a) ↔ DerivedRun p fuel store a
runs_derived ns p rows fuel l store a = let e = accepted_run ns p rows fuel l store in (
  (λ q. subst (DerivedRun p fuel store) (sym e ∙ q) (run_is_derived p rows.well fuel store)),
  (λ d. e ∙ derived_is_finish p rows.well fuel store a d),
)

-- The relation derives one answer and store of a well-formed program at most.
pub one_derived : (p : Program) → ProgramWell p → (fuel : ℕ) (store : List ℕ) (a b : Ran)
    → DerivedRun p fuel store a → DerivedRun p fuel store b → a ≡ b
one_derived p w fuel store a b d d' =
    sym (derived_is_finish p w fuel store a d) ∙ derived_is_finish p w fuel store b d'

finish_runs : (r : Out Value) (store : List ℕ) (n l : ℕ) → (finish r store).answer ≢ refused n l
finish_runs (ok v s) store n l e = let z : ◌≡◌ {A = ℕ} 0 1 = cc in omega arith
finish_runs (stop x s) store n l e = let z : ◌≡◌ {A = ℕ} 0 1 = cc in omega arith

-- Accepted rows with fuel up to the limit are run, not refused.
pub accepted_not_refused : (ns : List ℕ) → verdict ns ≡ accepted → (fuel : ℕ) → fuel ≤ most_fuel
    → (store : List ℕ) (n l : ℕ) → (run_of ns fuel store).answer ≢ refused n l
accepted_not_refused ns v fuel q store n l e = let w = (demand_2_accepts ns).0 v in
    finish_runs (run (with_limits fuel (capacity store)) w.program) store n l
    (sym (ap (λ (a : Ran). a.answer) (accepted_run ns w.program w.rows_of_it fuel q store)) ∙ e)
