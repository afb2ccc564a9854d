-- What the functions return that read a number at a place of a text.
use Rattle.std.specs.Prelude.{ℕ, ◌+◌, List, drop, Option, Some, None}
use Rattle.language.specs.TextLines.{number_of}

-- Lengths counted from a place of a text become places of it.
abbrev pub taken_at : ℕ → Option (ℕ × ℕ) → Option (ℕ × ℕ)
taken_at at (Some n) = Some (n.0, at + n.1)
taken_at at None = None

-- The tab at a place, the number after it, and the place after that.
abbrev pub number_at : ℕ → List ℕ → Option (ℕ × ℕ)
number_at at s = taken_at at (number_of (drop at s))
