-- Demand 2, the verdict: rows are accepted exactly if they are the rows of a well-formed program.
-- The rules are those of WellFormed: the form and limits of document 01, "Lines and rows", and the rules for
-- headings and bodies of its "Verdict", with 002's Figures 7, 8, 20 and 21.
use mathlib.Core.Path.{◌≡◌, refl, sym, ap, ◌∙◌, subst}
use mathlib.Core.Logic.{◌↔◌}
use Prim.Native.Nat.{ℕ, ◌*◌, ◌%◌}
use mathlib.Core.List.{List, [], ◌∷◌, map}
use lib.ListN.{length}
use native.Mathlib.Omega.{arith}
use borrow.Author.Tests.{eqb-true, eq-eqb}
use Rattle.language.specs.Limits.{of_check, numbers_a_row}
use Rattle.language.specs.Results.{Checked, accept, refuse, bind_checked, require, bind_checked_inv}
use Rattle.language.specs.Results.{require_inv, accept_injective}
use Rattle.language.specs.Rows.{Row, row_of, rows_of, numbers_of}
use Rattle.language.specs.Tree.{Program, flatten_program}
use Rattle.language.specs.Verdict.{whole_rows, three_passes, check, Verdict, accepted, refused, verdict_of}
use Rattle.language.specs.Verdict.{verdict}
use Rattle.language.specs.WellFormed.{ProgramInForm, ProgramWell, RowsOf, WellFormedRows}
use Rattle.theory.proofs.reading.RowCounts.{length_program}
use Rattle.theory.proofs.reading.ParseProgram.{form_flat}
use Rattle.theory.proofs.reading.FlattenProgram.{form_back}
use Rattle.theory.proofs.acceptance.AcceptedWell.{program_well}
use Rattle.theory.proofs.acceptance.WellAccepted.{program_test}

-- The rows of the numbers of rows are those rows.
pub rows_of_numbers : (rs : List Row) → rows_of (numbers_of rs) ≡ rs
unfolding rows_of numbers_of
rows_of_numbers [] = refl
rows_of_numbers (r ∷ rs) = ap (λ (l : List Row). r ∷ l) (rows_of_numbers rs)

-- The numbers of the rows of numbers are those numbers, where they are of whole rows.
pub numbers_of_rows : (ns : List ℕ) → length ns % numbers_a_row ≡ 0 → numbers_of (rows_of ns) ≡ ns
unfolding rows_of numbers_of
numbers_of_rows [] e = refl
numbers_of_rows (a ∷ []) e = absurd (omega (arith, e))
numbers_of_rows (a ∷ b ∷ []) e = absurd (omega (arith, e))
numbers_of_rows (a ∷ b ∷ c ∷ []) e = absurd (omega (arith, e))
numbers_of_rows (a ∷ b ∷ c ∷ d ∷ ns) e =
    ap (λ (l : List ℕ). a ∷ b ∷ c ∷ d ∷ l) (numbers_of_rows ns (omega (arith, e)))

pub numbers_count : (rs : List Row) → length (numbers_of rs) ≡ numbers_a_row * length rs
unfolding numbers_of
numbers_count [] = refl
numbers_count (r ∷ rs) = omega (arith, numbers_count rs)

-- The numbers of rows are of whole rows.
pub numbers_whole : (rs : List Row) → length (numbers_of rs) % numbers_a_row ≡ 0
numbers_whole rs = omega (arith, numbers_count rs)

refused≢accepted : (n l : ℕ) → ◌≡◌ {A = Verdict} (refused n l) accepted → ⊥
refused≢accepted n l e = let z : ◌≡◌ {A = ℕ} 0 1 = cc in omega arith

-- Where the three passes answer a program, the numbers are its rows and it is well formed.
passes_well : (ns : List ℕ) (p : Program) → length ns % numbers_a_row ≡ 0 → three_passes ns ≡ accept p
    → RowsOf ns p
unfolding three_passes
passes_well ns p l e =
    bind_checked_inv _ _ e λ q e₁ e. bind_checked_inv _ _ e λ u e₂ e. bind_checked_inv _ _ e λ v e₃ e.
    rw (← accept_injective e) (let f = form_back of_check (omega arith) (rows_of ns) q e₁ in record {
      rows = ap numbers_of (sym f.0) ∙ numbers_of_rows ns l;
      in_form = f.1;
      well = program_well q u v e₂ e₃;
    })

-- The check answers a well-formed program to its rows.
well_check : (p : Program) → ProgramInForm of_check p → ProgramWell p
    → check (numbers_of (map row_of (flatten_program p))) ≡ accept p
unfolding check whole_rows three_passes require bind_checked
well_check p i w = let rs = map row_of (flatten_program p) in let t = program_test p i.few w in
    rw (
      eq-eqb (length (numbers_of rs) % numbers_a_row) 0 (numbers_whole rs),
      rows_of_numbers rs,
      form_flat of_check (omega arith) (omega arith) p i (omega (arith, i.rows, length_program p)),
      t.0,
      t.1,
    )

-- The check answers a program exactly if the numbers are its rows and it is well formed.
pub check_accepts : (ns : List ℕ) (p : Program) → (check ns ≡ accept p) ↔ RowsOf ns p
unfolding check whole_rows
check_accepts ns p = (
  (λ e. require_inv _ _ _ _ e λ l e. passes_well ns p (eqb-true (length ns % numbers_a_row) 0 l) e),
  (λ w. subst (λ (ns : List ℕ). check ns ≡ accept p) w.rows (well_check p w.in_form w.well)),
)

-- Demand 2: whatever the numbers, they are accepted exactly if they are the rows of a well-formed program.
pub demand_2_accepts : (ns : List ℕ) → (verdict ns ≡ accepted) ↔ WellFormedRows ns
unfolding verdict
demand_2_accepts ns = (
  (λ e. let x = accepted-program (check ns) e in
      record { program = x.0; rows_of_it = (check_accepts ns x.0).0 x.1 }),
  (λ w. ap verdict_of ((check_accepts ns w.program).1 w.rows_of_it)),
)
  where
    accepted-program : (c : Checked Program) → verdict_of c ≡ accepted → (p : Program) × (c ≡ accept p)
    accepted-program (accept p) e = (p, refl)
    accepted-program (refuse n l) e = absurd (refused≢accepted n l e)
