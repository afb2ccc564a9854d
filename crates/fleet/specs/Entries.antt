-- Counted lines as numbers, four a line: model, printed, spoiled, cents.
use Rattle.std.specs.Prelude.{List, [], ◌∷◌, ◌++◌, ℕ, zero, suc, ◌+◌, ◌*◌, get_or}
use Rattle.fleet.specs.Ranking.{Counted}

abbrev pub counted : ℕ → ℕ → ℕ → ℕ → Counted
counted m p s c = record { model = m; printed = p; spoiled = s; cents = c }

-- The line at a place, from 0.
unfoldable pub entry : List ℕ → ℕ → Counted
entry T e = counted (get_or T (e * 4) 0) (get_or T (e * 4 + 1) 0) (get_or T (e * 4 + 2) 0) (get_or T (e * 4 + 3) 0)

-- The first n lines.
unfoldable pub entries : List ℕ → ℕ → List Counted
entries T zero = []
entries T (suc n) = entries T n ++ (entry T n ∷ [])

-- The lines at these places, in this order.
unfoldable pub picked : List ℕ → List ℕ → List Counted
picked T [] = []
picked T (e ∷ es) = entry T e ∷ picked T es
