-- What the run of a checked program requires and ensures, and how the caller is told of its end.
use Rattle.std.specs.Prelude.{◌≡◌, List, ℕ, ◌+◌}
use Rattle.language.specs.Tree.{Program}
use Rattle.language.specs.State.{raised, spent, deep, full}
use Rattle.language.specs.State.{stuck}
use Rattle.language.specs.Evaluation.{with_limits, run}
use Rattle.language.specs.Store.{capacity, Outcome as Ended, gave, ended, ran, finish, Ran as Finished}
use Rattle.language.specs.Limits.{spent_stop, deep_stop, full_stop}
use Rattle.language.specs.Layout.{start_row}
use Rattle.layout.specs.Held.{Held}
use Rattle.objects.specs.Values.{case_of, stop_of, Outcome, Gave}
use Rattle.objects.specs.Values.{Raised, Stopped, Stuck}
use Rattle.frames.specs.Slots.{Segment}
use Rattle.machine.specs.declared.Run.{Run}
use Rattle.machine.specs.declared.End.{End}
use Rattle.machine.specs.declared.End.TheVariants.{Gave as EndGave, Raised as EndRaised}
use Rattle.machine.specs.declared.End.TheVariants.{Stopped as EndStopped}
use Rattle.machine.specs.declared.Stop.{Stop}
use Rattle.machine.specs.declared.Stop.TheVariants.{Spent, Deep, Full, Stuck as StopStuck}

-- What an outcome means at the end of a run.
abbrev pub outcome_of : Outcome → Ended
outcome_of (Gave v) = gave v
outcome_of (Raised n) = ended (raised n)
outcome_of (Stopped n) = ended (stop_of n)
outcome_of Stuck = ended stuck

-- Rows and tables hold a program that the check accepts.
pub record PreChecked (R E T A M : List ℕ) : Type 0 where
  pub F : List ℕ
  pub C : List ℕ
  pub p : Program
  pub held : Held R E T A M F C p

-- Its start block is at a row, and there is a segment for the slots.
pub record PreRun (R E T A M l : List ℕ) (at : ℕ) : Type 0 where
  pub checked : PreChecked R E T A M
  pub start : at ≡ start_row checked.p + 1
  pub segment : Segment l

-- The number by which a stop is told; 0 where no rule goes on.
abbrev pub stop_told : Stop → ℕ
stop_told Spent = spent_stop
stop_told Deep = deep_stop
stop_told Full = full_stop
stop_told StopStuck = 0

-- How the caller is told of an end: objects count from 1; an exception is its number.
abbrev pub end_told : Ended → End
end_told (gave v) = EndGave (case_of v)
end_told (ended (raised n)) = EndRaised n
end_told (ended spent) = EndStopped Spent
end_told (ended deep) = EndStopped Deep
end_told (ended full) = EndStopped Full
end_told (ended stuck) = EndStopped StopStuck

-- The answer and the store tell how a run ended.
pub record Tells (x : Finished) (s' : List ℕ) (r : Run) : Type 0 where
  pub outcome : Ended
  pub is : x ≡ record { answer = ran outcome r.steps r.objects r.changes; store = s' }
  pub told : r.outcome ≡ end_told outcome

-- Answer and store are those of the run from the start block.
pub record PostRun (R E T A M s l s' : List ℕ) (at fuel : ℕ) (r : Run) : Type 0 where
  pub tells : (w : PreRun R E T A M l at)
      → Tells (finish (run (with_limits fuel (capacity s)) w.checked.p) s) s' r

-- Answer and store are those of the run of the program that the rows hold; it is not stuck.
pub record PostChecked (R E T A M s s' : List ℕ) (fuel : ℕ) (r : Run) : Type 0 where
  pub tells : (w : PreChecked R E T A M)
      → Tells (finish (run (with_limits fuel (capacity s)) w.p) s) s' r
  pub unstuck : r.outcome ≡ EndStopped StopStuck → ⊥
