-- The run of a checked program: its start block is found, and its end told. Assumes nothing.
use mathlib.Core.Path.{◌≡◌, refl, sym, ap, ◌∙◌}
use mathlib.Core.Logic.{◌⊎◌, inl, inr}
use mathlib.Core.List.{List}
use Prim.Native.Nat.{ℕ, ◌+◌, ◌-◌, ◌*◌, ◌≤◌, ◌<◌}
use native.Mathlib.Omega.{arith}
use lib.ListN.{length}
use Rattle.language.specs.Limits.{most_fuel}
use Rattle.language.specs.Results.{ok, stop, accept}
use Rattle.language.specs.Verdict.{check}
use Rattle.language.specs.Tree.{Program}
use Rattle.language.specs.Layout.{start_row}
use Rattle.language.specs.State.{Value as Meaning, State, Out, raised, spent, deep, full, stuck}
use Rattle.language.specs.Evaluation.{with_limits, run}
use Rattle.language.specs.Store.{Outcome as Ended, gave, ended, ran, Ran as Finished, finish, capacity, run_of}
use Rattle.layout.specs.Held.{Held}
use Rattle.theory.proofs.acceptance.Acceptance.{check_accepts}
use Rattle.theory.proofs.soundness.Members.{well_formed_never_stuck, accepted_run}
use Rattle.objects.specs.Values.{Outcome, Gave, Raised, SmallOutcome, outcome, case_of}
use Rattle.objects.proofs.Values.{outcome_failure, failure_stopped}
use Rattle.objects.specs.declared.Value.{Value}
use Rattle.machine.specs.declared.End.TheVariants.{Gave as EndGave, Raised as EndRaised}
use Rattle.machine.specs.declared.End.TheVariants.{Stopped as EndStopped}
use Rattle.machine.specs.declared.Stop.TheVariants.{Stuck as StopStuck}
use Rattle.machine.specs.declared.Run.{Run}
use Rattle.objects.specs.Acts.{LetterFrom, SomeLetter}
use Rattle.frames.specs.Slots.{Segment}
use Rattle.machine.specs.Runs.{PreRun, PostRun, PreChecked, PostChecked, Tells}
use Rattle.machine.specs.Runs.{outcome_of, end_told}
use Rattle.objects.proofs.Nth.{lt_or}
use Rattle.objects.proofs.Finding.{same_letter}
use Rattle.machine.proofs.Lines.{no_classes}
use Rattle.layout.specs.HeldLaws.{well}

-- ---- ends told

pub told_gave : {o : Outcome} {m : Meaning} {v : Value} → o ≡ Gave m → v ≡ case_of m
    → EndGave v ≡ end_told (outcome_of o)
told_gave e h = rw (e, h)

pub told_raised : {o : Outcome} {n : ℕ} → o ≡ Raised n → EndRaised n ≡ end_told (outcome_of o)
told_raised e = rw e

-- the words of failures that a run may end with
pub only_stuck : (o : ℕ) → 17179869184 ≤ o → SmallOutcome (outcome o) → (o ≡ 17179869185 → ⊥)
    → (o ≡ 17179869186 → ⊥) → (o ≡ 17179869198 → ⊥) → (o ≡ 17179869199 → ⊥) → (o ≡ 17179869200 → ⊥)
    → o ≡ 17179869184
only_stuck o h small n p s d f = go (lt_or (o - 17179869184) 3)
  where
    go : (o - 17179869184 < 3) ⊎ (3 ≤ o - 17179869184) → o ≡ 17179869184
    go (inl a) = omega arith
    go (inr a) =
        let z = rw (outcome_failure o h ∙ failure_stopped (o - 17179869184) a) at small in
        omega (arith, z)

stuck_only : (o : Ended) → EndStopped StopStuck ≡ end_told o → o ≡ ended stuck
stuck_only (gave v) e = cc
stuck_only (ended (raised n)) e = cc
stuck_only (ended spent) e = cc
stuck_only (ended deep) e = cc
stuck_only (ended full) e = cc
stuck_only (ended stuck) e = refl

stuck_end : (x : Out Meaning) (s s' : List ℕ) (a b c : ℕ)
    → finish x s ≡ record { answer = ran (ended stuck) a b c; store = s' } → (t : State) × (x ≡ stop stuck t)
stuck_end (ok v t) s s' a b c e =
    let f : ran (gave v) t.steps (length t.heap) t.changes ≡ ran (ended stuck) a b c =
    ap (λ (x : Finished). x.answer) e in
    let z : ◌≡◌ {A = ℕ} 0 1 = cc in
    absurd (omega arith)
stuck_end (stop y t) s s' a b c e =
    let f : ran (ended y) t.steps (length t.heap) t.changes ≡ ran (ended stuck) a b c =
    ap (λ (x : Finished). x.answer) e in
    let q : y ≡ stuck = cc in
    (t, rw q)

-- ---- the start block

module _ {R E T A M F C : List ℕ} {p : Program} (a : Held R E T A M F C p) where
  start_line : LetterFrom R 83 0 (start_row p)
  start_line = record {
    later = omega arith;
    short = omega (arith, a.headed.here.start_line.within);
    between = λ i x y e. (no_classes R E p.classes 1 0 a.headed.here.classes).none i x (omega arith) e;
    letter = a.headed.here.start_line.letter;
  }

  start_found : {b : ℕ} → LetterFrom R 83 0 b → b ≡ start_row p
  start_found f = same_letter f start_line

module _ {R E T A M : List ℕ} (c : PreChecked R E T A M) where
  pub some_start : SomeLetter R 83 0
  some_start = record { found = start_row c.p; from = start_line c.held }

  module _ {l : List ℕ} {b : ℕ} (f : LetterFrom R 83 0 b) (slots : Segment l) where
    abbrev started : PreChecked R E T A M → PreRun R E T A M l (b + 1)
    started c = record {
      checked = c;
      start = ap (λ (k : ℕ). k + 1) (start_found c.held f);
      segment =
          slots;
    }

    pub pre_start : PreRun R E T A M l (b + 1)
    pre_start = started c

    pub checked_done : {s s' : List ℕ} {fuel : ℕ} {r : Run} → PostRun R E T A M s l s' (b + 1) fuel r
        → PostChecked R E T A M s s' fuel r
    checked_done {s} {s'} {fuel} {r} post = record {
      tells = λ w. post.tells (started w);
      unstuck = λ z.
          let t = post.tells (started c) in
          let q = stuck_only t.outcome (sym z ∙ t.told) in
          let x = stuck_end (run (with_limits fuel (capacity s)) c.p) s s' r.steps r.objects
          r.changes (rw q at t.is) in
          well_formed_never_stuck c.p (well c.held) (with_limits fuel (capacity s)) x.0 x.1;
    }

  pub start_low : {b : ℕ} → LetterFrom R 83 0 b → b * 4 + 4 ≤ length R
  start_low f = omega (arith, start_found c.held f, c.held.headed.here.start_line.within)

-- The same of rows that the check accepts: the answer and the store are those of the rows' run.
pub tells_run_of : (R s s' : List ℕ) (p : Program) (fuel : ℕ) (r : Run) → check R ≡ accept p
    → fuel ≤ most_fuel
    → Tells (finish (run (with_limits fuel (capacity s)) p) s) s' r → Tells (run_of R fuel s) s' r
tells_run_of R s s' p fuel r e l t = rw (accepted_run R p ((check_accepts R p).0 e) fuel l s) t
