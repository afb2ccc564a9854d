-- Alphabets: which byte stands for a letter at the start of its line (document 01, "Lines and rows").
-- A text is read and written under an alphabet. Rows have the codes of document 01's table under every alphabet.
use Rattle.std.specs.Prelude.{◌≡◌, ℕ}
use Rattle.std.proofs.Math.Option.{Option, some}
use Rattle.language.specs.Rows.{Letter, letters, code, letter_among}

-- The byte that stands for a letter, and the letter that a byte stands for, if it stands for one.
pub record Alphabet : Type 0 where
  pub byte : Letter → ℕ
  pub letter : ℕ → Option Letter

-- The two laws of an alphabet: the byte of a letter stands for that letter, and a byte that stands for a letter is the
-- byte of that letter.
pub record Laws (α : Alphabet) : Type 0 where
  pub letter_of_byte : (l : Letter) → α.letter (α.byte l) ≡ some l
  pub byte_of_letter : (b : ℕ) (l : Letter) → α.letter b ≡ some l → α.byte l ≡ b

-- Our own alphabet, document 01's table: each letter's byte is its ASCII code.
abbrev pub ours : Alphabet
ours = record { byte = code; letter = letter_among letters }
