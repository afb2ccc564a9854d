-- When the translator gives plain rows: for the rows of a well-formed program within its limits, in numbers,
-- and without reserved names, and for no others.
use mathlib.Core.Path.{◌≡◌, refl, sym, ap, ◌∙◌}
use mathlib.Core.Logic.{◌↔◌}
use mathlib.Core.Option.{some}
use Prim.Native.Nat.{ℕ, suc, ◌+◌}
use mathlib.Core.List.{List, [], ◌∷◌, map}
use borrow.Author.Tests.{eq-eqb, ne_eqb}
use native.Mathlib.Omega.{arith}
use Rattle.language.specs.Limits.{of_translator, id_field, imp_field}
use Rattle.language.specs.Lists.{nth}
use Rattle.language.specs.Results.{accept, passed, earlier, bind_checked, require}
use Rattle.language.specs.Rows.{row_of, rows_of}
use Rattle.language.specs.Tree.{Field, Class, class_lines, Program, flatten_program}
use Rattle.language.specs.Form.{form}
use Rattle.language.specs.Headings.{headings}
use Rattle.language.specs.WellFormed.{Each, each_nil, each_cons}
use Rattle.language.specs.Translation.{within_limits, fields_free, names_free, translation}
use Rattle.language.proofs.Booleans.{false≢}
use Rattle.theory.proofs.reading.RowCounts.{length_program}
use Rattle.theory.proofs.reading.ParseProgram.{form_flat}
use Rattle.language.specs.WellFormed.{RowsOf}
use Rattle.theory.proofs.acceptance.Acceptance.{rows_of_numbers, check_accepts}
use Rattle.theory.proofs.acceptance.WellAccepted.{headings_test}
use Rattle.theory.proofs.lookups.TranslatorLookups.{check_classes_few, Free}
use Rattle.theory.proofs.lookups.TranslatorLookups.{names_free_at, fields_are_free}
use Rattle.promises.specs.Endings.{Unreserved, Translatable, plain_numbers, TranslatesTo}
use Rattle.theory.proofs.acceptance.Translatable.{TranslatableRows, translation_takes, taken_laws, each_map}

-- What holds at each place holds of each.
each_of_nth : {A : Type 0} {R : A → Type 0} (l : List A) → ((i : ℕ) (a : A) → nth l i ≡ some a → R a)
    → Each R l
unfolding nth
each_of_nth [] f = each_nil
each_of_nth (a ∷ l) f = each_cons (f 0 a refl) (each_of_nth l λ i b e. f (suc i) b e)

-- Where the pass over names accepts, no field has a reserved name, and the other way round.
free_unreserved : (f : Field) → Free f → Unreserved f
unfolding Free
free_unreserved f r = record {
  not_id = λ h. false≢ (sym r.0 ∙ eq-eqb id_field f.name (sym h));
  not_imp = λ h. false≢ (sym r.1 ∙ eq-eqb imp_field f.name (sym h));
}

classes_unreserved : (cs : List Class) (u : Unit {0}) → names_free 1 cs ≡ accept u
    → Each (λ (c : Class). Each Unreserved c.fields) cs
classes_unreserved cs u q = each_of_nth cs λ i c e. let x = names_free_at 1 cs u q i c e in
    each_map free_unreserved (fields_are_free x.0 c.fields x.1 x.2)

unreserved_fields : (at : ℕ) {fs : List Field} → Each Unreserved fs → fields_free at fs ≡ passed
unfolding fields_free require
unreserved_fields at each_nil = refl
unreserved_fields at (each_cons {a} r rs) =
    rw (ne_eqb a.name id_field r.not_id, ne_eqb a.name imp_field r.not_imp)
    (unreserved_fields (at + 1) rs)

unreserved_classes : (at : ℕ) {cs : List Class} → Each (λ (c : Class). Each Unreserved c.fields) cs
    → names_free at cs ≡ passed
unfolding names_free bind_checked
unreserved_classes at each_nil = refl
unreserved_classes at (each_cons {a} r rs) =
    rw (unreserved_fields (at + 1) r) (unreserved_classes (at + class_lines a) rs)

-- A program that the translator takes is within its limits, in numbers.
taken_translatable : (ns : List ℕ) (p : Program) → TranslatableRows ns p → Translatable p
unfolding headings
taken_translatable ns p r = record {
  in_form = r.in_form;
  few_fields = each_of_nth p.classes λ i c e.
      check_classes_few of_translator p.classes 1 1 p.classes tt r.few_fields i c e
      ((taken_laws ns p r).few c.super);
  unreserved = classes_unreserved p.classes tt r.unreserved;
}

-- The rows of a well-formed program that is within the translator's limits are translated.
pub translatable_taken : (ns : List ℕ) (p : Program) → RowsOf ns p → Translatable p
    → translation ns ≡ accept (plain_numbers p)
unfolding translation within_limits bind_checked earlier
translatable_taken ns p r t =
    let read : form of_translator (rows_of ns) ≡ accept p
    = ap (form of_translator) (ap rows_of (sym r.rows) ∙ rows_of_numbers (map row_of (flatten_program p)))
    ∙ form_flat of_translator (omega arith) (omega arith) p t.in_form
    (omega (arith, t.in_form.rows, length_program p)) in
    rw (
      (check_accepts ns p).1 r,
      read,
      headings_test of_translator p (omega (arith, t.in_form.few)) r.well t.few_fields,
      unreserved_classes 1 t.unreserved,
    )

-- The translator gives plain rows exactly for the rows of a well-formed program within its limits, and they
-- are those of its plain program.
pub translates : (ns out : List ℕ) → (translation ns ≡ accept out) ↔ TranslatesTo ns out
translates ns out = (
  (λ e. let x = translation_takes ns out e in record {
    program = x.0;
    rows_of_it = x.1.accepted;
    translatable = taken_translatable ns x.0 x.1;
    plain_rows = x.2;
  }),
  (λ t. rw t.plain_rows (translatable_taken ns t.program t.rows_of_it t.translatable)),
)
