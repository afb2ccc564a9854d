-- Demand 3, acceptance: every accepted program within the translator's limits and without reserved names
-- has an accepted translation.
use mathlib.Core.Path.{◌≡◌, refl, ap}
use Prim.Native.Nat.{ℕ}
use mathlib.Core.List.{List, map}
use Rattle.language.specs.Results.{accept}
use Rattle.language.specs.Rows.{row_of, numbers_of}
use Rattle.language.specs.Tree.{Program, flatten_program}
use Rattle.language.specs.Program.{world}
use Rattle.language.specs.Verdict.{accepted, verdict_of, verdict}
use Rattle.language.specs.Translation.{plain_program, translation}
use Rattle.theory.proofs.lookups.LookupLaws.{well_formed_laws}
use Rattle.language.specs.WellFormed.{RowsOf}
use Rattle.theory.proofs.acceptance.Acceptance.{check_accepts}
use Rattle.theory.proofs.lookups.TranslatorLookups.{well_formed_more}
use Rattle.theory.proofs.acceptance.Translatable.{TranslatableRows, translation_takes, taken_laws}
use Rattle.theory.proofs.translation.PlainTypes.{NameLaws}
use Rattle.theory.proofs.translation.PlainHeadings.{program_plain}
use Rattle.theory.proofs.translation.PlainInForm.{plain_in_form}
use Rattle.theory.proofs.translation.PlainNames.{name_laws, small_world}

-- The rows of the plain program of a program that the translator takes are its rows, and it is well formed.
pub plain_rows : (ns : List ℕ) (p : Program) → TranslatableRows ns p
    → RowsOf (numbers_of (map row_of (flatten_program (plain_program p)))) (plain_program p)
plain_rows ns p r =
    let w = r.accepted.well in let 𝓣 = taken_laws ns p r in
    let 𝓝 : NameLaws (world p.classes) = name_laws (world p.classes) (well_formed_more p w) 𝓣 in
    record {
      rows = refl;
      in_form = plain_in_form p w (small_world p r.in_form 𝓣) 𝓝 r.in_form;
      well = program_plain p tt tt w (well_formed_laws p w) 𝓝 r.few_fields r.unreserved;
    }

-- Demand 3, acceptance: what the translator answers is accepted.
pub demand_3_accepted : (ns out : List ℕ) → translation ns ≡ accept out → verdict out ≡ accepted
unfolding verdict
demand_3_accepted ns out e = let x = translation_takes ns out e in
    rw x.2 (ap verdict_of ((check_accepts _ (plain_program x.0)).1 (plain_rows ns x.0 x.1)))
