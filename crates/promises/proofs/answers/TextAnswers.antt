-- Demand 1, the reader and the writer: they refuse only in the ways listed for them, each on its line.
use mathlib.Core.Path.{◌≡◌, refl, sym, ap, ◌∙◌, subst}
use mathlib.Core.Logic.{◌≢◌}
use Prim.Native.Nat.{ℕ, zero, suc, ◌+◌, ◌%◌}
use mathlib.Core.Bool.{Bool, true, false, cond}
use mathlib.Core.Option.{some}
use mathlib.Core.List.{List, [], ◌∷◌}
use lib.ListN.{length, drop}
use lib.Dec.{eqb, ltb}
use borrow.Author.Tests.{ltb-true, ltb-false, eqb-true, eqb-false}
use native.Mathlib.Omega.{arith}
use Rattle.std.specs.Prelude.{Option as Maybe, Some, None}
use Rattle.language.specs.Limits.{of_check, numbers_a_row, line_refusal, limit_refusal, no_line}
use Rattle.language.specs.Lists.{nth, inj}
use Rattle.language.specs.Results.{Checked, refuse}
use Rattle.language.specs.Filling.{before}
use Rattle.language.specs.Rows.{Row, row, is_row, rows_of}
use Rattle.language.specs.TextLines.{line_of, line_text}
use Rattle.language.specs.declared.Line.{Line}
use Rattle.language.specs.Alphabet.{ours}
use Rattle.language.specs.Texts.{with_line, read_lines, read_text, write_lines, write_rows}
use Rattle.promises.specs.Listed.{LinesRead, no_line_read, line_read, ReaderRefusal, malformed_line}
use Rattle.promises.specs.Listed.{WellMade}
use Rattle.promises.specs.Listed.{line_too_many, WriterRefusal, no_whole_rows_written, malformed_row}
use Rattle.promises.specs.Listed.{row_too_many}
use Rattle.promises.proofs.answers.Refusals.{RefusesOnly, answers, refuses_as}

-- What is made before numbers is refused as they are.
only_before : {Listed : ℕ → ℕ → Type 0} {r : Checked (List ℕ)} (xs : List ℕ) → RefusesOnly Listed r
    → RefusesOnly Listed (before xs r)
only_before xs answers = answers
only_before xs (refuses_as w) = refuses_as w

nonempty : {x : ℕ} {s : List ℕ} → x ∷ s ≢ []
nonempty e = let z = ap length e in omega (arith, z)

-- One line more.
lines_then : {n : ℕ} {l : Line} {text s : List ℕ} → LinesRead n text s → line_of ours s ≡ Some l
    → LinesRead (1 + n) text (drop l.end s)
lines_then no_line_read e = line_read e no_line_read
lines_then (line_read e₁ r) e = line_read e₁ (lines_then r e)

module _ (text : List ℕ) where
  -- A text that follows n lines, of which `left` more are allowed; the next is line `line`.
  record Follows (left n line : ℕ) (s : List ℕ) : Type 0 where
    allowed : n + left ≡ of_check.rows
    next : line ≡ 1 + n
    lines : LinesRead n text s

  lines_refuse : (left n line : ℕ) (s : List ℕ) → Follows left n line s
      → RefusesOnly (ReaderRefusal text) (read_lines ours left line s)
  unfolding read_lines
  lines_refuse zero n line [] h = answers
  lines_refuse zero n line (x ∷ s) h = let all : n ≡ of_check.rows = omega (arith, h.allowed) in
      subst (λ (l : ℕ). RefusesOnly (ReaderRefusal text) {A = List ℕ} (refuse limit_refusal l))
      (omega (arith, h.next, h.allowed))
      (refuses_as (line_too_many (subst (λ (k : ℕ). LinesRead k text (x ∷ s)) all h.lines) nonempty))
  lines_refuse (suc left) n line [] h = answers
  lines_refuse (suc left) n line (x ∷ s) h =
      go (line_of ours (x ∷ s)) refl (λ used f. lines_refuse left (1 + n) (line + 1) (drop used (x ∷ s)) f)
    where
      go : (r : Maybe Line) → line_of ours (x ∷ s) ≡ r
          → ((used : ℕ) → Follows left (1 + n) (line + 1) (drop used (x ∷ s))
          → RefusesOnly (ReaderRefusal text) (read_lines ours left (line + 1) (drop used (x ∷ s))))
          → RefusesOnly (ReaderRefusal text)
          (with_line line (λ used. read_lines ours left (line + 1) (drop used (x ∷ s))) r)
      go None e f = subst (λ (l : ℕ). RefusesOnly (ReaderRefusal text) {A = List ℕ}
          (refuse line_refusal l))
          (sym h.next) (refuses_as (malformed_line (omega (arith, h.allowed)) h.lines nonempty e))
      go (Some l) e f = only_before (l.code ∷ l.first ∷ l.second ∷ 0 ∷ []) (f l.end (record {
        allowed = omega (arith, h.allowed);
        next = omega (arith, h.next);
        lines = lines_then h.lines e;
      }))

-- The reader refuses only in the ways listed for it.
pub reader_refuses : (text : List ℕ) → RefusesOnly (ReaderRefusal text) (read_text ours text)
reader_refuses text = lines_refuse text of_check.rows 0 1 text
    (record { allowed = refl; next = refl; lines = no_line_read })

-- One row more that is not malformed.
one_more : (ns : List ℕ) (n : ℕ) (r : Row) → WellMade ns n → nth (rows_of ns) n ≡ some r → is_row r ≡ true
    → WellMade ns (1 + n)
one_more ns n r h e t i r₁ l e₁ = go (ltb i n) refl
  where
    go : (b : Bool) → ltb i n ≡ b → is_row r₁ ≡ true
    go true q = h i r₁ (ltb-true i n q) e₁
    go false q = let same : i ≡ n = omega (arith, l, ltb-false i n q) in
        ap is_row (inj (sym e₁ ∙ (ap (nth (rows_of ns)) same ∙ e))) ∙ t

module _ (ns : List ℕ) where
  -- Rows that follow n rows, of which `left` more are allowed; the next makes line `line`.
  record FollowsRows (left n line : ℕ) (rows : List ℕ) : Type 0 where
    allowed : n + left ≡ of_check.rows
    next : line ≡ 1 + n
    whole : length rows % numbers_a_row ≡ 0
    well_made : WellMade ns n
    each : (i : ℕ) → nth (rows_of ns) (n + i) ≡ nth (rows_of rows) i
    count : length (rows_of ns) ≡ n + length (rows_of rows)

  rows_refuse : (left n line : ℕ) (rows : List ℕ) → FollowsRows left n line rows
      → RefusesOnly (WriterRefusal ns) (write_lines ours left line rows)
  unfolding write_lines rows_of nth
  rows_refuse zero n line [] h = answers
  rows_refuse zero n line (x ∷ []) h = absurd (omega (arith, h.whole))
  rows_refuse zero n line (x ∷ y ∷ []) h = absurd (omega (arith, h.whole))
  rows_refuse zero n line (x ∷ y ∷ z ∷ []) h = absurd (omega (arith, h.whole))
  rows_refuse zero n line (x ∷ y ∷ z ∷ w ∷ rows) h =
      subst (λ (l : ℕ). RefusesOnly (WriterRefusal ns) {A = List ℕ} (refuse limit_refusal l))
      (omega (arith, h.next, h.allowed))
      (refuses_as (row_too_many (subst (WellMade ns) (omega (arith, h.allowed)) h.well_made)
      (omega (arith, h.count, h.allowed))))
  rows_refuse (suc left) n line [] h = answers
  rows_refuse (suc left) n line (x ∷ []) h = absurd (omega (arith, h.whole))
  rows_refuse (suc left) n line (x ∷ y ∷ []) h = absurd (omega (arith, h.whole))
  rows_refuse (suc left) n line (x ∷ y ∷ z ∷ []) h = absurd (omega (arith, h.whole))
  rows_refuse (suc left) n line (x ∷ y ∷ z ∷ w ∷ rows) h =
      go (is_row (row x y z w)) refl (λ q. rows_refuse left (1 + n) (line + 1) rows (record {
        allowed = omega (arith, h.allowed);
        next = omega (arith, h.next);
        whole = omega (arith, h.whole);
        well_made = one_more ns n (row x y z w) h.well_made this q;
        each = λ i. subst (λ (k : ℕ). nth (rows_of ns) k ≡ nth (rows_of rows) i) (omega arith)
            (h.each (suc i));
        count = omega (arith, h.count);
      }))
    where
      this : nth (rows_of ns) n ≡ some (row x y z w)
      this = subst (λ (k : ℕ). nth (rows_of ns) k ≡ some (row x y z w)) (omega arith) (h.each 0)

      go : (b : Bool) → is_row (row x y z w) ≡ b
          → (is_row (row x y z w) ≡ true
          → RefusesOnly (WriterRefusal ns) (write_lines ours left (line + 1) rows))
          → RefusesOnly (WriterRefusal ns)
          (cond b (before (line_text ours x y z) (write_lines ours left (line + 1) rows))
          (refuse line_refusal line))
      go true e f = only_before (line_text ours x y z) (f e)
      go false e f = subst (λ (l : ℕ). RefusesOnly (WriterRefusal ns) {A = List ℕ} (refuse line_refusal l))
          (sym h.next)
          (refuses_as (malformed_row (row x y z w) (omega (arith, h.allowed)) h.well_made this e))

-- The writer refuses only in the ways listed for it.
pub writer_refuses : (ns : List ℕ) → RefusesOnly (WriterRefusal ns) (write_rows ours ns)
writer_refuses ns = go (eqb (length ns % numbers_a_row) 0) refl
  where
    go : (b : Bool) → eqb (length ns % numbers_a_row) 0 ≡ b
        → RefusesOnly (WriterRefusal ns)
        (cond b (write_lines ours of_check.rows 1 ns) (refuse line_refusal no_line))
    go true e = rows_refuse ns of_check.rows 0 1 ns (record {
      allowed = refl;
      next = refl;
      whole = eqb-true (length ns % numbers_a_row) 0 e;
      well_made = λ i r l _. absurd (omega (arith, l));
      each = λ i. ap (nth (rows_of ns)) (omega arith);
      count = omega arith;
    })
    go false e = refuses_as (no_whole_rows_written (eqb-false (length ns % numbers_a_row) 0 e))
