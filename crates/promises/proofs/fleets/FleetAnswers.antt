-- The reports over fleets and over counted lines are refused exactly as listed, and so are the services that write them.
-- Assumes nothing.
use mathlib.Core.Path.{◌≡◌, refl}
use mathlib.Core.Logic.{◌↔◌}
use Prim.Native.Nat.{ℕ, ◌%◌}
use borrow.Author.Tests.{eqb-true, eqb-false, eq-eqb, ne_eqb, leb-true, leb-false}
use mathlib.Core.Bool.{Bool, true, false, cond}
use mathlib.Core.List.{List}
use lib.Dec.{eqb, leb}
use lib.ListN.{length}
use Rattle.language.specs.Limits.{line_refusal, room_refusal, no_line}
use Rattle.language.specs.Filling.{buffer, overwritten}
use Rattle.language.specs.Results.{Checked, accept, refuse, require}
use Rattle.fleet.specs.Ranking.{report_of, reported, report_answer}
use Rattle.fleet.specs.Counts.{class_refusal}
use Rattle.fleet.specs.Fleet.{numbers_a_run, numbers_a_line, runs_of, lines_of_runs, fleet_report}
use Rattle.fleet.specs.Fleet.{counted_lines, models_report}
use Rattle.promises.specs.Totals.{ListRefusal, not_whole, by_lines, FleetRefusal, ModelsRefusal}
use Rattle.promises.specs.Totals.{ListedReport}
use Rattle.promises.specs.Totals.{is_reported, has_no_room, is_not_made}
use Rattle.promises.proofs.fleets.ReportLaws.{report_refused}

list_refused : (x : ℕ) (made : Checked (List ℕ)) {Refusal : ℕ → ℕ → Type 0}
    → ((n k : ℕ) → (made ≡ refuse n k) ↔ Refusal n k) → (n k : ℕ)
    → (require (eqb x 0) line_refusal no_line (λ _. made) ≡ refuse n k) ↔ ListRefusal x Refusal n k
unfolding require
list_refused x made {Refusal} h n k = (go (eqb x 0) refl, back)
  where
    go : (t : Bool) → eqb x 0 ≡ t → require t line_refusal no_line (λ _. made) ≡ refuse n k
        → ListRefusal x Refusal n k
    go true e f = by_lines (eqb-true x 0 e) ((h n k).0 f)
    go false e f =
        let a : line_refusal ≡ n = cc in let b : no_line ≡ k = cc in
        let r : ListRefusal x Refusal line_refusal no_line = not_whole (eqb-false x 0 e) in rw (a, b) at r

    back : {n k : ℕ} → ListRefusal x Refusal n k
        → require (eqb x 0) line_refusal no_line (λ _. made) ≡ refuse n k
    back (not_whole e) = rw (ne_eqb x 0 e)
    back {n} {k} (by_lines e r) = rw (eq-eqb x 0 e) ((h n k).1 r)

pub fleet_refused : (runs programs stores : List ℕ) (n k : ℕ)
    → (fleet_report runs programs stores ≡ refuse n k) ↔ FleetRefusal runs programs stores n k
unfolding fleet_report
fleet_refused runs programs stores = list_refused (length runs % numbers_a_run)
    (report_of class_refusal (lines_of_runs (runs_of runs) programs stores))
    (report_refused class_refusal (lines_of_runs (runs_of runs) programs stores))

pub models_refused : (counts : List ℕ) (n k : ℕ)
    → (models_report counts ≡ refuse n k) ↔ ModelsRefusal counts n k
unfolding models_report
models_refused counts =
    list_refused (length counts % numbers_a_line) (report_of line_refusal (counted_lines counts))
    (report_refused line_refusal (counted_lines counts))

-- The service answers a report or a refusal that is listed.
pub report_listed : {Refusal : ℕ → ℕ → Type 0} (made : Checked (List ℕ))
    → ((n k : ℕ) → (made ≡ refuse n k) ↔ Refusal n k) → (old : List ℕ)
    → ListedReport Refusal made old (report_answer made (length old)) (buffer made old)
report_listed (refuse n k) h old = is_not_made refl ((h n k).0 refl)
report_listed {Refusal} (accept bytes) h old = go (leb (length bytes) (length old)) refl
  where
    go : (b : Bool) → leb (length bytes) (length old) ≡ b → ListedReport Refusal (accept bytes) old
        (reported (cond b (accept bytes) (refuse room_refusal no_line)))
        (overwritten (cond b (accept bytes) (refuse room_refusal no_line)) old)
    go true e = is_reported refl (leb-true (length bytes) (length old) e)
    go false e = has_no_room refl (leb-false (length bytes) (length old) e)
