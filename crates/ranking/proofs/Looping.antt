-- What holds between two windows while all are judged.
use mathlib.Core.Path.{◌≡◌, ◌∙◌}
use mathlib.Core.Option.{Option}
use mathlib.Core.List.{List}
use Prim.Native.Nat.{ℕ, ◌≤◌}
use native.Mathlib.Omega.{arith}
use lib.ListN.{length}
use Rattle.fleet.specs.Ranking.{Counted}
use Rattle.sums.specs.Window.{Sized}
use Rattle.sums.proofs.Adding.{sized_same}
use Rattle.counted.specs.declared.Scan.{Scan}
use Rattle.counted.specs.Scanning.{all_models, Scanned}
use Rattle.ranking.specs.declared.Judged.{Judged}
use Rattle.ranking.specs.Judging.{Judging, JudgesNext, SomeNext}

pub record JudgingAll (number : ℕ) (ls : List (Option Counted)) (bytes low : ℕ) (j : Judged)
    (T₀ H₀ N₀ T H N : List ℕ) :
    Type 0 where
  pub judging : Judging number ls bytes low j
  pub less : low ≤ all_models
  pub sized : Sized T H N
  pub kept : (length T ≡ length T₀) × ((length H ≡ length H₀) × (length N ≡ length N₀))

module _ {number : ℕ} {ls : List (Option Counted)} {bytes low : ℕ} {j : Judged}
    {T₀ H₀ N₀ T H N T' H' N' : List ℕ}
    (a : JudgingAll number ls bytes low j T₀ H₀ N₀ T H N) {s : Scan}
    (c : Scanned number ls j.place low T H N T' H' N' s) where
  pub judges_next : JudgesNext number ls bytes low j T' s
  judges_next = record {
    judging = a.judging;
    reached = c.reached;
    wide = c.wide;
    clean = c.clean;
    holds = c.holds;
    long = λ z. let o = c.opened z in (
      (omega (arith, o.sums.count, o.sums.sized.table)),
      (omega (arith, o.sums.count, o.sums.sized.most)),
    );
  }

  pub some_next : SomeNext j T' s
  some_next = record { number = number; lines = ls; bytes = bytes; low = low; next = judges_next }

  pub judging_on : {r : Judged} → Judging number ls bytes s.window.end r
      → JudgingAll number ls bytes s.window.end r T₀ H₀ N₀ T' H' N'
  judging_on h = record {
    judging = h;
    less = c.most;
    sized = sized_same c.kept.0 c.kept.1.0 c.kept.1.1 a.sized;
    kept = (c.kept.0 ∙ a.kept.0, (c.kept.1.0 ∙ a.kept.1.0, c.kept.1.1 ∙ a.kept.1.1));
  }
