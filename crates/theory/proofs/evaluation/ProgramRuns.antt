-- Demand 2 for runs of programs: the relation derives exactly what the run of a well-formed program gives,
-- whatever its end, and nothing else.
use mathlib.Core.Path.{◌≡◌, refl}
use Prim.Native.Nat.{ℕ}
use mathlib.Core.Logic.{◌≢◌}
use Rattle.language.specs.Limits.{most_calls}
use Rattle.language.specs.Results.{stop}
use Rattle.language.specs.Tree.{Program}
use Rattle.language.specs.State.{Value, State, stuck, Out}
use Rattle.language.specs.Evaluation.{with_limits, first_state, run}
use Rattle.language.specs.Runs.{Evaluates}
use Rattle.language.specs.WellFormed.{ProgramWell}
use Rattle.theory.proofs.evaluation.ObjectsAgree.{SupersEarlier}
use Rattle.theory.proofs.evaluation.RunsAgree.{Claim, value, stopped, nothing, all_sound, all_complete}
use Rattle.theory.proofs.lookups.LookupLaws.{class_well}
use Rattle.theory.proofs.soundness.Members.{well_formed_never_stuck}

-- What is claimed of a result that is not stuck is derived.
claimed : {D : Out Value → Type 0} {r : Out Value} → Claim D r → ((t : State) → r ≢ stop stuck t) → D r
claimed (value d) u = d
claimed (stopped d) u = d
claimed (nothing {t}) u = absurd (u t refl)

-- Superclasses of a well-formed program come before their classes.
well_earlier : (p : Program) → ProgramWell p → SupersEarlier p.classes
well_earlier p w k c e = (class_well p.classes w.classes k c e).earlier

-- What the run of a well-formed program gives is derived.
pub run_derived : (p : Program) → ProgramWell p → (fuel room : ℕ)
    → Evaluates p.classes fuel room most_calls p.start first_state
    (run (with_limits fuel room) p)
unfolding run
run_derived p w fuel room =
    claimed (all_complete p.classes (well_earlier p w) fuel room most_calls p.start first_state)
    (λ t. well_formed_never_stuck p w (with_limits fuel room) t)

-- What is derived of a well-formed program's start block is what its run gives.
pub derived_is_run : (p : Program) → ProgramWell p → (fuel room : ℕ) (r : Out Value)
    → Evaluates p.classes fuel room most_calls p.start first_state r
    → run (with_limits fuel room) p ≡ r
unfolding run
derived_is_run p w fuel room r d =
    all_sound p.classes (well_earlier p w) fuel room most_calls p.start first_state r d
