-- The pass over reserved names refuses with 12, on an F line of the program that gives one of them.
use mathlib.Core.Path.{◌≡◌, refl, sym, ap, ◌∙◌, subst}
use Prim.Native.Nat.{ℕ, ◌+◌, ◌-◌}
use mathlib.Core.Bool.{Bool, true, false, not, ◌||◌}
use mathlib.Core.Option.{some}
use mathlib.Core.List.{List, [], ◌∷◌, map}
use lib.ListN.{length, length-map}
use lib.Dec.{eqb}
use borrow.Author.Tests.{eqb-true}
use native.Mathlib.Omega.{arith}
use Rattle.language.specs.Limits.{id_field, imp_field, reserved_refusal}
use Rattle.language.specs.Lists.{nth}
use Rattle.language.specs.Results.{require, passed}
use Rattle.language.specs.Rows.{F_field, Record, written, Row, row_of, rows_of}
use Rattle.language.specs.Tree.{type_number, Field, Class, class_lines, Program, flatten_methods}
use Rattle.language.specs.Tree.{flatten_classes, flatten_program}
use Rattle.language.specs.Translation.{within_limits, fields_free, names_free}
use Rattle.language.proofs.Booleans.{false≢}
use Rattle.theory.proofs.reading.RowCounts.{length_methods}
use Rattle.language.specs.WellFormed.{RowsOf}
use Rattle.theory.proofs.acceptance.Acceptance.{rows_of_numbers}
use Rattle.promises.specs.Listed.{LineOf, Reserved, names_id, names_imp, TranslatorRefusal}
use Rattle.promises.specs.Listed.{reserved_name}
use Rattle.promises.proofs.answers.Refusals.{RefusesOnly, answers, refuses_as, only_mono, only_bind}
use Rattle.promises.proofs.answers.OnLines.{OnLine, here, later, on_left, on_right, on_from, on_to}
use Rattle.promises.proofs.answers.OnLines.{on_nth}
use Rattle.promises.proofs.answers.OnLines.{on_map}

-- An F line with a reserved name.
data ReservedField : Record → Type 0 where
  reserved_field : (type : ℕ) {name : ℕ} → Reserved name → ReservedField (written F_field type name)

-- 12 on such a line of records, the first of which is on line `at`.
data ReservedLine (at : ℕ) (xs : List Record) : ℕ → ℕ → Type 0 where
  reserved_line : {l : ℕ} → OnLine ReservedField at xs l → ReservedLine at xs reserved_refusal l

-- The name that the pass refuses is reserved.
is_reserved : (name : ℕ) → not (eqb name id_field || eqb name imp_field) ≡ false → Reserved name
is_reserved name e = go (eqb name id_field) (eqb name imp_field) refl refl e
  where
    go : (b c : Bool) → eqb name id_field ≡ b → eqb name imp_field ≡ c → not (b || c) ≡ false → Reserved name
    go true c p q e = subst Reserved (sym (eqb-true name id_field p)) names_id
    go false true p q e = subst Reserved (sym (eqb-true name imp_field q)) names_imp
    go false false p q e = absurd (false≢ (sym e))

abbrev field_record : Field → Record
field_record f = written F_field (type_number f.type) f.name

-- Lines of a longer list.
more : {at at₂ : ℕ} {xs ys : List Record}
    → ((l : ℕ) → OnLine ReservedField at xs l → OnLine ReservedField at₂ ys l)
    → (n l : ℕ) → ReservedLine at xs n l → ReservedLine at₂ ys n l
more f n l (reserved_line h) = reserved_line (f l h)

fields_reserved : (at : ℕ) (fs : List Field)
    → RefusesOnly (ReservedLine at (map field_record fs)) (fields_free at fs)
unfolding fields_free require
fields_reserved at [] = answers
fields_reserved at (f ∷ fs) = go (not (eqb f.name id_field || eqb f.name imp_field)) refl
    (only_mono (fields_reserved (at + 1) fs) (more λ l h. later h))
  where
    go : (b : Bool) → not (eqb f.name id_field || eqb f.name imp_field) ≡ b
        → RefusesOnly (ReservedLine at (map field_record (f ∷ fs))) (fields_free (at + 1) fs)
        → RefusesOnly (ReservedLine at (map field_record (f ∷ fs)))
        (require b reserved_refusal at (λ _. fields_free (at + 1) fs))
    go true e h = h
    go false e h = refuses_as (reserved_line (here
        (reserved_field (type_number f.type) (is_reserved f.name e))))

classes_reserved : (at : ℕ) (cs : List Class)
    → RefusesOnly (ReservedLine at (flatten_classes cs)) (names_free at cs)
unfolding names_free flatten_classes class_lines
classes_reserved at [] = answers
classes_reserved at (c ∷ cs) =
    only_bind (only_mono (fields_reserved (at + 1) c.fields) (more λ l h. later (on_left _ h))) λ _ _.
    only_mono (classes_reserved (at + class_lines c) cs) (more λ l h. later {at = at}
    (on_right (map field_record c.fields) (length c.fields) (length-map c.fields field_record)
    (on_right (flatten_methods c.methods) _ (length_methods c.methods)
    (subst (λ (k : ℕ). OnLine ReservedField k (flatten_classes cs) l) (omega arith) h))))

-- The rows of a program are those of its numbers.
rows_are : (ns : List ℕ) (p : Program) → RowsOf ns p → map row_of (flatten_program p) ≡ rows_of ns
rows_are ns p r = sym (rows_of_numbers (map row_of (flatten_program p))) ∙ ap rows_of r.rows

-- The row of such a line.
data ReservedRow : Row → Type 0 where
  reserved_row : (type : ℕ) {name : ℕ} → Reserved name → ReservedRow (row_of (written F_field type name))

reserved_row_of : (x : Record) → ReservedField x → ReservedRow (row_of x)
reserved_row_of x (reserved_field type w) = reserved_row type w

-- A line of the program is a row of its numbers.
line_refused : (ns : List ℕ) (p : Program) → RowsOf ns p → within_limits ns p ≡ passed → (n l : ℕ)
    → ReservedLine 1 (flatten_program p) n l → TranslatorRefusal ns n l
line_refused ns p r within n l (reserved_line h) =
    let rows = subst (λ (rs : List Row). OnLine ReservedRow 1 rs l) (rows_are ns p r)
    (on_map row_of reserved_row_of h) in
    found (on_nth rows (l - 1) (omega (arith, on_from rows)))
    (record { from = on_from rows; to = omega (arith, on_to rows) })
  where
    found : (q : Row) × (nth (rows_of ns) (l - 1) ≡ some q) × ReservedRow q → LineOf (length (rows_of ns)) l
        → TranslatorRefusal ns reserved_refusal l
    found (q, e, reserved_row type {name} w) line = reserved_name p type name r within line e w

-- The names of a program whose rows these are, and which the translator's limits let pass: refused only with
-- 12, on an F line with a reserved name.
pub names_refuse : (ns : List ℕ) (p : Program) → RowsOf ns p → within_limits ns p ≡ passed
    → RefusesOnly (TranslatorRefusal ns) (names_free 1 p.classes)
unfolding flatten_program
names_refuse ns p r within = only_mono (classes_reserved 1 p.classes) λ n l w.
    line_refused ns p r within n l (more (λ l h. on_left _ h) n l w)
