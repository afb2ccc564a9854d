-- What follows the classes of a program: the S line, the start block, the end.
use Rattle.std.specs.Prelude.{◌≡◌, List, ◌∷◌, ℕ, ◌+◌, ◌≤◌, length}
use Rattle.std.proofs.lemmas.List.Edits.{sets}
use Rattle.language.specs.Limits.{place_refusal}
use Rattle.language.specs.Results.{Checked, accept, refuse, require}
use Rattle.language.specs.Rows.{Row, S_start, same_letter}
use Rattle.language.specs.Tree.{size, Class, Program}
use Rattle.language.specs.Form.{after, next, body, at_end}
use Rattle.language.specs.Tables.{ends_of}
use Rattle.parsing.specs.declared.limits.Limits.{Limits}
use Rattle.parsing.specs.Columns.{most_of}

-- What follows the classes: the S line on line `line`, the start block, the end.
unfoldable pub start_read : Limits → List Class → ℕ → List Row → Checked Program
start_read L cs line rs = next (most_of L) line rs λ x rs.
    require (same_letter S_start x.letter) place_refusal line λ _.
    after (body (most_of L) 1 (line + 1) rs) λ e rs.
    at_end (most_of L) (line + 1 + size e) rs (record { classes = cs; start = e })

-- The table after the start, whose S line is row `at`.
unfoldable pub Starts : List Class → List ℕ → ℕ → Checked Program → List ℕ → Type 0
Starts cs table at (accept p) table' =
    (p.classes ≡ cs) × (table' ≡ sets table at ((at + 1) ∷ ends_of (at + 1) p.start))
    × (at + 1 + size p.start ≤ length table)
Starts cs table at (refuse n l) table' = Unit {0}

pub record Started (cs : List Class) (table : List ℕ) (at : ℕ) (x : Checked Program) (table' : List ℕ) : Type
    0 where
  pub it : Starts cs table at x table'
