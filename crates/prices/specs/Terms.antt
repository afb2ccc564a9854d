-- Price terms as text
-- (document 02, §11: "A term is a line of five numbers, tabs between, written as in document 01: model, first day, last
-- day, price in cents, signing number").
use Rattle.std.specs.Prelude.{Bool, false, cond, ◌&&◌, ◌||◌, not, List, [], ◌∷◌, ◌++◌, ℕ, zero, suc, ◌+◌, ◌-◌, eqb, leb, length, drop, Option, Some, None}
use Rattle.language.specs.Limits.{line_refusal}
use Rattle.language.specs.Results.{Checked, accept, refuse, require}
use Rattle.language.specs.Decimals.{decimal_of}
use Rattle.language.specs.TextLines.{line_feed, field, taken}
use Rattle.fields.specs.Places.{number_at}
use Rattle.prices.specs.declared.TermLine.{TermLine}

-- The refusal of a line whose first day follows its last or whose signing number occurred earlier.
abbrev pub term_refusal : ℕ
term_refusal = 23

-- A term, with the line that it is on.
pub record Term : Type 0 where
  pub line : ℕ
  pub model : ℕ
  pub first : ℕ
  pub last : ℕ
  pub cents : ℕ
  pub signing : ℕ

abbrev pub price_term : ℕ → ℕ → ℕ → ℕ → ℕ → ℕ → Term
price_term line model first last cents signing = record {
  line = line;
  model = model;
  first = first;
  last = last;
  cents = cents;
  signing = signing;
}

-- The number that a line begins with.
abbrev pub first_number : List ℕ → Option (ℕ × ℕ)
first_number s = taken (length (field s)) (decimal_of (field s))

-- The rest of a line after a number, given the number and the place after it.
abbrev pub then_numbers : (ℕ → ℕ → Option TermLine) → Option (ℕ × ℕ) → Option TermLine
then_numbers rest None = None
then_numbers rest (Some n) = rest n.0 n.1

abbrev pub term_numbers : ℕ → ℕ → ℕ → ℕ → ℕ → ℕ → TermLine
term_numbers model first last cents signing end = record {
  model = model;
  first = first;
  last = last;
  cents = cents;
  signing = signing;
  end = end;
}

-- The line feed that ends a line, after `used` bytes of it.
unfoldable pub ended : ℕ → ℕ → ℕ → ℕ → ℕ → ℕ → List ℕ → Option TermLine
ended model first last cents signing used [] = None
ended model first last cents signing used (x ∷ s) =
    cond (eqb x line_feed) (Some (term_numbers model first last cents signing (used + 1))) None

-- The term's line that a text begins with.
unfoldable pub term_line : List ℕ → Option TermLine
term_line s =
    then_numbers (λ model a. then_numbers (λ first b. then_numbers (λ last c. then_numbers (λ cents d.
    then_numbers (λ signing e. ended model first last cents signing e (drop e s))
    (number_at d s)) (number_at c s)) (number_at b s)) (number_at a s)) (first_number s)

-- One of these terms has the signing number.
unfoldable pub is_signed : ℕ → List Term → Bool
is_signed n [] = false
is_signed n (t ∷ ts) = eqb t.signing n || is_signed n ts

-- The line after those of the terms seen.
abbrev pub next_line : List Term → ℕ
next_line seen = suc (length seen)

-- What follows the next line: `rest`, given the terms with the line's term among them and the bytes that the line
-- takes; or the line's refusal.
abbrev pub with_term : List Term → (List Term → ℕ → Checked (List Term)) → Option TermLine → Checked (List Term)
with_term seen rest None = refuse line_refusal (next_line seen)
with_term seen rest (Some t) =
    require (leb t.first t.last && not (is_signed t.signing seen)) term_refusal (next_line seen) λ _.
    rest (seen ++ (price_term (next_line seen) t.model t.first t.last t.cents t.signing ∷ [])) t.end

-- The terms of a text, after those seen; its first `skip` bytes belong to the last line read.
unfoldable pub terms_after : List Term → ℕ → List ℕ → Checked (List Term)
terms_after seen skip [] = accept seen
terms_after seen (suc skip) (x ∷ s) = terms_after seen skip s
terms_after seen zero (x ∷ s) =
    with_term seen (λ ts used. terms_after ts (used - 1) s) (term_line (x ∷ s))

abbrev pub terms_of : List ℕ → Checked (List Term)
terms_of text = terms_after [] 0 text
