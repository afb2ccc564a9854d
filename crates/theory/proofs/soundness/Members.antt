-- Demand 2, members: a run of an accepted program finds every member that it seeks, and no value is of the
-- wrong sort. The evaluation's outcome `stuck` stands for either; it comes of no accepted program.
use mathlib.Core.Path.{◌≡◌, refl, sym, ap, ◌∙◌}
use mathlib.Core.Logic.{◌≢◌}
use Prim.Native.Nat.{ℕ, ◌≤◌}
use mathlib.Core.Bool.{Bool, true, false}
use mathlib.Core.List.{List, []}
use borrow.Author.Tests.{le-leb}
use native.Mathlib.Omega.{arith}
use Rattle.language.specs.Limits.{most_fuel, most_calls}
use Rattle.language.specs.Lists.{nth, Never, a_nil}
use Rattle.language.specs.Results.{ok, stop, Checked, accept, refuse, Holds, holds_ok, holds_stop, require}
use Rattle.language.specs.Results.{require_inv}
use Rattle.language.specs.Tree.{Program}
use Rattle.language.specs.World.{World}
use Rattle.language.specs.Program.{world, body_in}
use Rattle.language.specs.Verdict.{whole_rows, check, accepted, verdict}
use Rattle.language.specs.State.{Value, State, Stop, raised, spent, deep, full, stuck, Out}
use Rattle.language.specs.Evaluation.{Limits}
use Rattle.language.specs.Evaluation.{with_limits, call_at, first_state, run}
use Rattle.language.specs.Store.{ended, ran, finish, runnable, run_checked, capacity, run_of}
use Rattle.language.specs.WellFormed.{ProgramWell}
use Rattle.language.proofs.Booleans.{false≢}
use Rattle.theory.proofs.soundness.Fitting.{Good, Fine, fine_null, fine_cast, fine_deep, fine_spent}
use Rattle.theory.proofs.soundness.Fitting.{fine_full}
use Rattle.theory.proofs.soundness.Fitting.{this_none}
use Rattle.theory.proofs.soundness.Soundness.{calls_ok, expression_sound}
use Rattle.theory.proofs.typing.RulesAgree.{computed}
use Rattle.theory.proofs.lookups.LookupLaws.{hierarchy, well_formed_laws, well_formed_bodies}
use Rattle.language.specs.WellFormed.{RowsOf}
use Rattle.theory.proofs.acceptance.Acceptance.{check_accepts}

-- Every stop but stuck; every result but one that stopped stuck.
abbrev unstuck_stop : Stop → Bool
unstuck_stop (raised n) = true
unstuck_stop spent = true
unstuck_stop deep = true
unstuck_stop full = true
unstuck_stop stuck = false

abbrev unstuck : {A : Type 0} → Out A → Bool
unstuck (ok a s) = true
unstuck (stop x s) = unstuck_stop x

fine_unstuck : {W : World} {x : Stop} {s : State} → Fine W x s → unstuck_stop x ≡ true
fine_unstuck (fine_null h) = refl
fine_unstuck (fine_cast h) = refl
fine_unstuck (fine_deep h) = refl
fine_unstuck (fine_spent h) = refl
fine_unstuck (fine_full h) = refl

holds_unstuck : {A : Type 0} {W : World} {P : A → State → Type 0} {r : Out A} → Holds P (Fine W) r
    → unstuck r ≡ true
holds_unstuck (holds_ok h) = refl
holds_unstuck (holds_stop h) = fine_unstuck h

-- The run of a well-formed program, whatever its limits, ends in a value of its start block's type or in a
-- stop that is not stuck, in either case with a heap that fits its classes.
pub run_sound : (p : Program) (w : ProgramWell p) (L : Limits)
    → Holds (Good (world p.classes) w.γ w.φ w.t []) (Fine (world p.classes)) (run L p)
unfolding run nth
run_sound p w L = let P = p.classes in let W = world P in let laws = well_formed_laws p w in
    expression_sound laws L (λ M s. call_at W L (body_in P) most_calls M s)
    (calls_ok laws (body_in P) (well_formed_bodies p w) L most_calls)
    p.start (computed P (hierarchy P w.classes) p.start w.start) first_state
    (record { each = λ j o e. absurd (Never e) })
    (record { this = this_none; slots = a_nil })

run_unstuck : (p : Program) → ProgramWell p → (L : Limits) → unstuck (run L p) ≡ true
run_unstuck p w L = holds_unstuck (run_sound p w L)

-- The run of a well-formed program never gets stuck, whatever its limits.
pub well_formed_never_stuck : (p : Program) → ProgramWell p → (L : Limits) (s : State)
    → run L p ≢ stop stuck s
well_formed_never_stuck p w L s e = false≢ (sym (ap unstuck e) ∙ run_unstuck p w L)

required : {B : Type 0} (t : Bool) (n l : ℕ) (k : Bool → Checked B) {b : B} → t ≡ true → k true ≡ accept b
    → require t n l k ≡ accept b
unfolding require
required t n l k e f = rw e f

-- The program that a run takes is the one that the check answers.
pub runnable_check : (ns : List ℕ) (fuel : ℕ) (p : Program) → runnable ns fuel ≡ accept p
    → check ns ≡ accept p
unfolding runnable whole_rows check
runnable_check ns fuel p e = require_inv _ _ _ _ e λ l e. require_inv _ _ _ _ e λ _ e. required _ _ _ _ l e

finish_unstuck : (r : Out Value) (store : List ℕ) (steps objects changes : ℕ) → unstuck r ≡ true
    → (finish r store).answer ≢ ran (ended stuck) steps objects changes
finish_unstuck (ok v s) store n o c u e = let z : ◌≡◌ {A = ℕ} 0 1 = cc in omega arith
finish_unstuck (stop x s) store n o c u e = let q : x ≡ stuck = cc in false≢ (sym (ap unstuck_stop q) ∙ u)

-- Whatever the rows, the fuel and the store lent, no run ends stuck: rows that are not accepted are not run.
pub runs_never_stuck : (ns : List ℕ) (fuel : ℕ) (store : List ℕ) (steps objects changes : ℕ)
    → (run_of ns fuel store).answer ≢ ran (ended stuck) steps objects changes
unfolding run_of
runs_never_stuck ns fuel store steps objects changes = go (runnable ns fuel) refl
  where
    go : (c : Checked Program) → runnable ns fuel ≡ c
        → (run_checked c fuel store).answer ≢ ran (ended stuck) steps objects changes
    go (refuse n l) q e = let z : ◌≡◌ {A = ℕ} 0 1 = cc in omega arith
    go (accept p) q e = finish_unstuck (run (with_limits fuel (capacity store)) p) store steps objects changes
        (run_unstuck p ((check_accepts ns p).0 (runnable_check ns fuel p q)).well
        (with_limits fuel (capacity store))) e

-- Demand 2: where rows are accepted, their run with any fuel and any store never ends stuck:
-- every member that it seeks is there, and every value is of the sort that is needed.
pub demand_2_members : (ns : List ℕ) → verdict ns ≡ accepted
    → (fuel : ℕ) (store : List ℕ) (steps objects changes : ℕ)
    → (run_of ns fuel store).answer ≢ ran (ended stuck) steps objects changes
demand_2_members ns e = runs_never_stuck ns

-- The same of the program that the rows hold, under any limits, none included.
pub demand_2_members_any_limits : (ns : List ℕ) (p : Program) → check ns ≡ accept p
    → (L : Limits) (s : State) → run L p ≢ stop stuck s
demand_2_members_any_limits ns p e = well_formed_never_stuck p ((check_accepts ns p).0 e).well

-- The program that the check answers is run, where the fuel is within its limit.
check_runnable : (ns : List ℕ) (fuel : ℕ) (p : Program) → fuel ≤ most_fuel → check ns ≡ accept p
    → runnable ns fuel ≡ accept p
unfolding runnable whole_rows check
check_runnable ns fuel p l e = require_inv _ _ _ _ e λ whole passes.
    required _ _ _ _ whole (required _ _ _ _ (le-leb fuel most_fuel l) passes)

-- Rows of a well-formed program are run, where the fuel is within its limit: the answer is that of its run.
pub accepted_run : (ns : List ℕ) (p : Program) → RowsOf ns p → (fuel : ℕ) → fuel ≤ most_fuel
    → (store : List ℕ)
    → run_of ns fuel store ≡ finish (run (with_limits fuel (capacity store)) p) store
unfolding run_of
accepted_run ns p w fuel l store =
    ap (λ (c : Checked Program). run_checked c fuel store)
    (check_runnable ns fuel p l ((check_accepts ns p).1 w))
