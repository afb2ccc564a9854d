-- A line and its row, under an alphabet
-- (document 01, "Lines and rows": a letter, then numbers, each after a tab; the line ends in a line feed).
use Rattle.std.specs.Prelude.{Bool, true, cond, List, [], ◌∷◌, ◌++◌, ℕ, zero, suc, ◌+◌, eqb, length, drop, Option, Some, None}
use Rattle.language.specs.Lists.{given}
use Rattle.language.specs.Rows.{letters, code, numbers, letter_among}
use Rattle.language.specs.Alphabet.{Alphabet}
use Rattle.language.specs.Decimals.{decimal_of, digits}
use Rattle.language.specs.declared.Line.{Line}

abbrev pub tab : ℕ
tab = 9

abbrev pub line_feed : ℕ
line_feed = 10

-- A field ends before a tab or a line feed.
abbrev pub is_end : ℕ → Bool
is_end b = cond (eqb b tab) true (eqb b line_feed)

-- The field that a text begins with.
unfoldable pub field : List ℕ → List ℕ
field [] = []
field (b ∷ s) = cond (is_end b) [] (b ∷ field s)

-- A field's number, with how many bytes were taken.
abbrev pub taken : ℕ → Option ℕ → Option (ℕ × ℕ)
taken used (Some v) = Some (v, used)
taken used None = None

-- A tab, and the number in the field after it.
unfoldable pub number_of : List ℕ → Option (ℕ × ℕ)
number_of [] = None
number_of (b ∷ s) = cond (eqb b tab) (taken (1 + length (field s)) (decimal_of (field s))) None

abbrev pub line : ℕ → ℕ → ℕ → ℕ → Line
line code a b end = record { code = code; first = a; second = b; end = end }

-- The line feed that closes a line, after `used` bytes of it.
unfoldable pub closed : ℕ → ℕ → ℕ → ℕ → List ℕ → Option Line
closed code a b used [] = None
closed code a b used (x ∷ s) = cond (eqb x line_feed) (Some (line code a b (used + 1))) None

-- The rest of a line after a number, given the number and how many bytes it took.
abbrev pub then_line : (ℕ → ℕ → Option Line) → Option (ℕ × ℕ) → Option Line
then_line rest None = None
then_line rest (Some n) = rest n.0 n.1

-- The line of a letter that takes n numbers, given what follows the letter.
unfoldable pub numbered : ℕ → ℕ → List ℕ → Option Line
numbered zero code s = closed code 0 0 1 s
numbered (suc zero) code s = then_line (λ a n. closed code a 0 (1 + n) (drop n s)) (number_of s)
numbered (suc (suc zero)) code s =
    then_line (λ a n. then_line (λ b m. closed code a b (1 + n + m) (drop (n + m) s)) (number_of (drop n s)))
    (number_of s)
numbered (suc (suc (suc k))) code s = None

-- The line that a text begins with: its row, and how many bytes it takes. Its first byte stands for a letter, which says
-- how many numbers follow.
unfoldable pub line_of : Alphabet → List ℕ → Option Line
line_of α [] = None
line_of α (x ∷ s) = given (α.letter x) None λ l. numbered (numbers l) (code l) s

-- The numbers of a row, each after a tab.
abbrev pub numbers_text : ℕ → ℕ → ℕ → List ℕ
numbers_text zero a b = []
numbers_text (suc zero) a b = tab ∷ digits a
numbers_text (suc (suc k)) a b = tab ∷ (digits a ++ (tab ∷ digits b))

-- The line that begins with a byte, with n numbers.
abbrev pub line_from : ℕ → ℕ → ℕ → ℕ → List ℕ
line_from x count a b = x ∷ (numbers_text count a b ++ (line_feed ∷ []))

-- The line of a row, given its code and numbers; nothing where the code is no letter's.
unfoldable pub line_text : Alphabet → ℕ → ℕ → ℕ → List ℕ
line_text α n a b = given (letter_among letters n) [] λ l. line_from (α.byte l) (numbers l) a b
