-- Rows by place: what stands at row `at`, whose line is at + 1, and how many lines of a letter stand from there on.
use Rattle.std.specs.Prelude.{◌≡◌, ◌⊎◌, Bool, false, cond, List, [], ◌∷◌, ℕ, suc, ◌+◌, ◌*◌, ◌%◌, ◌≤◌, ◌<◌, eqb, length, get_or, drop, Option, None, Some, Result, Err}
use Rattle.language.specs.Limits.{place_refusal}
use Rattle.language.specs.Lists.{given}
use Rattle.language.specs.declared.Refusal.{Refusal}
use Rattle.language.specs.Refusals.{refusal, result_of}
use Rattle.language.specs.Results.{Checked, accept, refuse}
use Rattle.language.specs.Rows.{Letter, letters, code, letter_among, name_of, Record, Row, row, rows_of}
use Rattle.language.specs.Rows.{Children, no_node, children, arguments, locals_and_nodes, shape}
use Rattle.language.specs.Form.{record_on}
use Rattle.parsing.specs.declared.limits.Limits.{Limits}
use Rattle.parsing.specs.Columns.{most_of}
use Rattle.parsing.specs.declared.nodes.Parts.{Parts}

-- The rows from row `at` on, and the row there.
unfoldable pub rows_from : List ℕ → ℕ → List Row
rows_from numbers at = rows_of (drop (at * 4) numbers)

abbrev pub row_at : List ℕ → ℕ → Row
row_at numbers at =
    row (get_or numbers (at * 4) 0) (get_or numbers (at * 4 + 1) 0) (get_or numbers (at * 4 + 2) 0)
    (get_or numbers (at * 4 + 3) 0)

-- Can a record be taken on a line, or why not.
unfoldable pub row_checked : Limits → ℕ → List Row → Result Unit Refusal
row_checked L line [] = Err (refusal place_refusal line)
row_checked L line (r ∷ rs) = result_of (λ _. tt) (record_on (most_of L) line r)

-- Is what was read a record of the letter of a code.
abbrev pub has_code : ℕ → Checked Record → Bool
has_code n (accept x) = eqb n (code x.letter)
has_code n (refuse number line) = false

-- Does one stand on a line; how many stand from there on, one after another.
unfoldable pub standing : Limits → ℕ → ℕ → List Row → Bool
standing L n line [] = false
standing L n line (r ∷ rs) = has_code n (record_on (most_of L) line r)

unfoldable pub run : Limits → ℕ → ℕ → List Row → ℕ
run L n line [] = 0
run L n line (r ∷ rs) = cond (has_code n (record_on (most_of L) line r)) (suc (run L n (line + 1) rs)) 0

-- The name that a row of a code gives.
unfoldable pub name_at : ℕ → ℕ → ℕ → ℕ
name_at n a b = given (letter_among letters n) 0 λ l. name_of l a b

-- How many V lines and children a node with these numbers has.
abbrev pub some_parts : ℕ → ℕ → Option Parts
some_parts v k = Some (record { locals = v; children = k })

abbrev pub parts : Children → ℕ → ℕ → Option Parts
parts no_node a b = None
parts (children n) a b = some_parts 0 n
parts arguments a b = some_parts 0 (b + 1)
parts locals_and_nodes a b = some_parts a b

abbrev pub parts_of : Letter → ℕ → ℕ → Option Parts
parts_of l a b = parts (shape l).nodes a b

unfoldable pub parts_at : ℕ → ℕ → ℕ → Option Parts
parts_at n a b = given (letter_among letters n) None λ l. parts_of l a b

-- What a pass may count on: whole rows, a table with an entry for each row that may be accepted,
-- a place that is no further than one past the last of these.
pub record Ready (L : Limits) (numbers table : List ℕ) (at : ℕ) : Type 0 where
  pub whole : length numbers % 4 ≡ 0
  pub room : (length numbers ≤ 4 * length table) ⊎ (L.rows ≤ length table)
  pub within : at ≤ L.rows
  pub inside : at * 4 ≤ length numbers

-- Where a record can be taken there is a row that is not too many.
abbrev pub There : Limits → List ℕ → ℕ → Type 0
There L numbers at = (at < L.rows) × (at * 4 + 4 ≤ length numbers)
