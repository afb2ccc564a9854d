-- V and P lines: the number of the type on each. Assumes nothing.
use mathlib.Core.Path.{◌≡◌, sym, ◌∙◌}
use mathlib.Core.List.{List, map}
use Prim.Native.Nat.{ℕ, ◌+◌, ◌*◌, ◌<◌}
use lib.ListN.{length, get_or}
use Rattle.language.specs.Lists.{nth_some}
use Rattle.language.specs.Rows.{Letter}
use Rattle.language.specs.Tree.{DeclaredType, type_number}
use Rattle.language.specs.Encoded.{RowAt, TypesAt}
use Rattle.language.proofs.Lines.{line_at}
use Rattle.expressions.proofs.Lists.{number_at}

-- A V or P line.
abbrev pub TypeAt : Letter → List ℕ → DeclaredType → ℕ → Type 0
TypeAt l R t i = RowAt R i l (type_number t) 0

-- The number of the type on each.
pub types_number : (l : Letter) (R : List ℕ) (ts : List DeclaredType) (r : ℕ) → TypesAt l R ts r → (i : ℕ)
    → i < length ts
    → get_or R ((r + i) * 4 + 1) 0 ≡ get_or (map type_number ts) i 0
types_number l R ts r h i m = let t = nth_some ts i m in
    (line_at (TypeAt l R) ts r h i t.0 t.1).first ∙ sym (number_at type_number ts i t.0 t.1)
