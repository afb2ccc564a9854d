-- Whole texts and their rows, as numbers, under an alphabet
-- (document 01, "Refusals and stops": line by line, 2 for line 60,001, then 1; then 13. The writer does the same over
-- rows; input rows not a multiple of 4 long come first, line 0).
use Rattle.std.specs.Prelude.{cond, List, [], ◌∷◌, ℕ, zero, suc, ◌+◌, ◌%◌, eqb, length, drop, Option, Some, None}
use Rattle.language.specs.Limits.{of_check, line_refusal, limit_refusal, numbers_a_row, no_line}
use Rattle.language.specs.Results.{Checked, accept, refuse}
use Rattle.language.specs.Filling.{before}
use Rattle.language.specs.Rows.{row, is_row}
use Rattle.language.specs.Alphabet.{Alphabet}
use Rattle.language.specs.TextLines.{line_of, line_text}
use Rattle.language.specs.declared.Line.{Line}

-- A line's row before the rows of the text after it, or the line's refusal.
abbrev pub with_line : ℕ → (ℕ → Checked (List ℕ)) → Option Line → Checked (List ℕ)
with_line line rest None = refuse line_refusal line
with_line line rest (Some l) = before (l.code ∷ l.first ∷ l.second ∷ 0 ∷ []) (rest l.end)

-- Where no line is allowed any more.
abbrev pub no_more : ℕ → List ℕ → Checked (List ℕ)
no_more line [] = accept []
no_more line (x ∷ s) = refuse limit_refusal line

-- The rows of a text that may have `left` lines more, the next of which is line `line`.
unfoldable pub read_lines : Alphabet → ℕ → ℕ → List ℕ → Checked (List ℕ)
read_lines α zero line s = no_more line s
read_lines α (suc left) line [] = accept []
read_lines α (suc left) line (x ∷ s) =
    with_line line (λ used. read_lines α left (line + 1) (drop used (x ∷ s))) (line_of α (x ∷ s))

abbrev pub read_text : Alphabet → List ℕ → Checked (List ℕ)
read_text α s = read_lines α of_check.rows 1 s

-- The text of rows, of which `left` more are allowed and the next makes line `line`.
unfoldable pub write_lines : Alphabet → ℕ → ℕ → List ℕ → Checked (List ℕ)
write_lines α zero line rows = no_more line rows
write_lines α (suc left) line [] = accept []
write_lines α (suc left) line (code ∷ []) = refuse line_refusal no_line
write_lines α (suc left) line (code ∷ a ∷ []) = refuse line_refusal no_line
write_lines α (suc left) line (code ∷ a ∷ b ∷ []) = refuse line_refusal no_line
write_lines α (suc left) line (code ∷ a ∷ b ∷ c ∷ rows) = cond (is_row (row code a b c))
    (before (line_text α code a b) (write_lines α left (line + 1) rows))
    (refuse line_refusal line)

abbrev pub write_rows : Alphabet → List ℕ → Checked (List ℕ)
write_rows α rows = cond (eqb (length rows % numbers_a_row) 0)
    (write_lines α of_check.rows 1 rows)
    (refuse line_refusal no_line)
