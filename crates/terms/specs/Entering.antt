-- A term entered into a table that has an entry for each of some consecutive days on which a term rules.
use Rattle.std.specs.Prelude.{Bool, true, false, cond, List, ℕ, zero, suc, ◌+◌, eqb, ltb, get_or, set, Option, Some, None}
use Rattle.prices.specs.Prices.{covers}
use Rattle.terms.specs.declared.Entry.{Entry}

-- A term is entered, and has a higher signing number.
abbrev pub is_outranked : Option Entry → ℕ → Bool
is_outranked None signing = false
is_outranked (Some held) signing = ltb signing held.signing

-- Entered for day i of the table, unless the term there has a higher signing number.
unfoldable pub day_entered : List (Option Entry) → ℕ → Entry → List (Option Entry)
day_entered table i e = cond (is_outranked (get_or table i None) e.signing) table (set table i (Some e))

module _ (day first last : ℕ) (e : Entry) where
  -- Entered for day i if the term covers it.
  abbrev pub entered_if : Bool → List (Option Entry) → ℕ → List (Option Entry)
  entered_if true table i = day_entered table i e
  entered_if false table i = table

  -- Entered for those of `left` days from day i on that the term covers; day 0 of the table is `day`.
  unfoldable pub days_entered : List (Option Entry) → ℕ → ℕ → List (Option Entry)
  days_entered table i zero = table
  days_entered table i (suc left) =
      days_entered (entered_if (covers first last (day + i)) table i) (suc i) left

-- A term of another model is not entered.
abbrev pub term_entered : ℕ → ℕ → ℕ → ℕ → ℕ → ℕ → Entry → List (Option Entry) → List (Option Entry)
term_entered model day count of first last e table =
    cond (eqb of model) (days_entered day first last e table 0 count) table
