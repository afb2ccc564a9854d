-- Numbers that are not whole lines, and those that are.
use mathlib.Core.Path.{◌≡◌, refl}
use mathlib.Core.List.{List}
use Prim.Native.Nat.{ℕ, ◌%◌}
use lib.ListN.{length}
use Rattle.std.specs.Prelude.{Result, Err}
use Rattle.fleet.specs.Counts.{class_refusal}
use Rattle.fleet.specs.Ranking.{fault, report_answer}
use Rattle.fleet.specs.declared.Fault.{Fault}
use Rattle.language.specs.Limits.{line_refusal}
use Rattle.language.specs.Results.{require}
use Rattle.language.specs.Filling.{buffer}
use borrow.Author.Tests.{eq-eqb, ne_eqb}
use Rattle.ranking.specs.Judging.{Reports}
use Rattle.fleet.specs.Fleet.{runs_of, lines_of_runs, counted_lines}
use Rattle.fleet.specs.Fleet.{fleet_report, models_report}

module _ (ns old : List ℕ) where
  pub uneven_models : (length ns % 4 ≡ 0 → ⊥) → (Err (fault 1 0) ≡ report_answer (models_report ns) (length old))
      × (old ≡ buffer (models_report ns) old)
  unfolding models_report require
  uneven_models f = rw (ne_eqb (length ns % 4) 0 f) (refl, refl)

  pub even_models : (new : List ℕ) (r : Result ℕ Fault) → length ns % 4 ≡ 0 → Reports line_refusal (counted_lines ns) old new r
      → (r ≡ report_answer (models_report ns) (length old)) × (new ≡ buffer (models_report ns) old)
  unfolding models_report require
  even_models new r e h = rw (eq-eqb (length ns % 4) 0 e) h

module _ (ns P S old : List ℕ) where
  pub uneven_fleet : (length ns % 6 ≡ 0 → ⊥)
      → (Err (fault 1 0) ≡ report_answer (fleet_report ns P S) (length old))
      × (old ≡ buffer (fleet_report ns P S) old)
  unfolding fleet_report require
  uneven_fleet f = rw (ne_eqb (length ns % 6) 0 f) (refl, refl)

  pub even_fleet : (new : List ℕ) (r : Result ℕ Fault) → length ns % 6 ≡ 0 → Reports class_refusal (lines_of_runs (runs_of ns) P S) old new r
      → (r ≡ report_answer (fleet_report ns P S) (length old)) × (new ≡ buffer (fleet_report ns P S) old)
  unfolding fleet_report require
  even_fleet new r e h = rw (eq-eqb (length ns % 6) 0 e) h
