-- The answers of functions that read a line at a place of a text.
use Rattle.std.specs.Prelude.{ℕ, ◌+◌, Option, Some, None}
use Rattle.language.specs.TextLines.{line}
use Rattle.language.specs.declared.Line.{Line}

-- Lengths counted from a place of a text become places of it.
abbrev pub line_at : ℕ → Option Line → Option Line
line_at at (Some l) = Some (line l.code l.first l.second (at + l.end))
line_at at None = None
