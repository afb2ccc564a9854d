-- Demand 3 for programs: the run of a well-formed program and the run of its plain form, with limits, both
-- ways.
use mathlib.Core.Path.{◌≡◌}
use Prim.Native.Nat.{ℕ, ◌+◌, ◌*◌, ◌≤◌}
use mathlib.Core.Bool.{true}
use lib.ListN.{length}
use Rattle.language.specs.Limits.{plain_steps_a_step}
use Rattle.language.specs.Tree.{Program}
use Rattle.language.specs.Program.{world, body_in}
use Rattle.language.specs.Evaluation.{with_limits, run}
use Rattle.language.specs.Translation.{plain_program}
use Rattle.language.specs.WellFormed.{ProgramWell}
use Rattle.language.specs.Environment.{start_environment}
use Rattle.theory.specs.ComputedRules.{HasType}
use Rattle.theory.proofs.soundness.Fitting.{Laws}
use Rattle.theory.proofs.typing.RulesAgree.{computed}
use Rattle.theory.proofs.lookups.LookupLaws.{hierarchy}
use Rattle.theory.proofs.evaluation.LimitedRuns.{final, proper}
use Rattle.theory.proofs.simulation.PlainSteps.{More}
use Rattle.theory.proofs.translation.PlainLookups.{plain_program_is_plain, plain_program_bodies}
use Rattle.theory.proofs.lookups.LookupLaws.{well_formed_bodies}
use Rattle.theory.proofs.simulation.LimitedSimulation.{EndsAlike, demand_3_forward, demand_3_backward}

module _ (p : Program) (well : ProgramWell p) (laws : Laws (world p.classes))
    (𝓜 : More (world p.classes))
  where
    start : HasType (world p.classes) start_environment p.start well.t well.γ well.φ
    start = computed p.classes (hierarchy p.classes well.classes) p.start well.start

    -- A run with fuel F and room K that ends in a value, an exception or 15, with n objects made and r
    -- changes of class: the plain program's run with fuel 84·F or more and room for 2n + r objects or more
    -- ends alike, object j matching the j-th Identity made.
    pub demand_3_run : (F F' K K' : ℕ) → plain_steps_a_step * F ≤ F' → proper (run (with_limits F K) p) ≡ true
        → 2 * length (final (run (with_limits F K) p)).heap + (final (run (with_limits F K) p)).changes ≤ K'
        → EndsAlike (run (with_limits F K) p) (run (with_limits F' K') (plain_program p))
    unfolding run plain_program
    demand_3_run F F' K K' f e l = demand_3_forward (world p.classes) _
        (plain_program_is_plain p well.classes) laws 𝓜 (body_in p.classes) _
        (well_formed_bodies p well) (plain_program_bodies p well.classes) p.start start F F' K K' f e l

    -- A plain program's run with fuel F and room K' that ends in a value, an exception or 15: the source's
    -- run with fuel F and room for as many objects as the plain run made ends alike.
    pub demand_3_run_back : (F K K' : ℕ) → proper (run (with_limits F K') (plain_program p)) ≡ true
        → length (final (run (with_limits F K') (plain_program p))).heap ≤ K
        → EndsAlike (run (with_limits F K) p) (run (with_limits F K') (plain_program p))
    unfolding run plain_program
    demand_3_run_back F K K' e l = demand_3_backward (world p.classes) _
        (plain_program_is_plain p well.classes) laws 𝓜 (body_in p.classes) _
        (well_formed_bodies p well) (plain_program_bodies p well.classes) p.start start F K K' e l
