-- What a scan over the terms keeps in tables: the signing numbers that occurred, as bits, and for each of some
-- consecutive days the term that rules.
use Rattle.std.specs.Prelude.{◌≡◌, Bool, List, ℕ, ◌+◌, ◌/◌, ◌%◌, ◌≤◌, ◌<◌, length, get_or, Result, Option as Kept, Some, None, Ok, Err}
use Rattle.std.proofs.Math.Option.{Option, none, some}
use Rattle.language.specs.Effects.{member}
use Rattle.language.specs.Limits.{largest}
use Rattle.language.specs.Results.{accept, refuse}
use Rattle.language.specs.declared.Refusal.{Refusal}
use Rattle.terms.specs.declared.Entry.{Entry}
use Rattle.terms.specs.declared.Scanned.{Scanned}
use Rattle.prices.specs.Terms.{Term, is_signed, terms_of}
use Rattle.prices.specs.Prices.{ruling}

-- One mark for each signing number up to the largest, 64 to a word.
abbrev pub mark_words : ℕ
mark_words = 1024

-- Number n among sets of 64 numbers each.
abbrev pub is_marked : List ℕ → ℕ → Bool
is_marked sets n = member (get_or sets (n / 64) 0) (n % 64 + 1)

-- The marks are the signing numbers of these terms.
pub record Marks (sets : List ℕ) (ts : List Term) : Type 0 where
  pub long : length sets ≡ mark_words
  pub each : (n : ℕ) → n ≤ largest → is_marked sets n ≡ is_signed n ts

-- What is kept of a day's term: its line, signing number and cents; None where no term rules.
abbrev pub entry : ℕ → ℕ → ℕ → Entry
entry line signing cents = record { line = line; signing = signing; cents = cents }

abbrev pub kept : Option Term → Kept Entry
kept none = None
kept (some t) = Some (entry t.line t.signing t.cents)

-- The days of the longest month.
abbrev pub most_days : ℕ
most_days = 31

-- The table has room for the longest month and tells the terms that rule a model on `count` days from a day on.
pub record Ruled (model first count : ℕ) (table : List (Kept Entry)) (ts : List Term) : Type 0 where
  pub long : length table ≡ most_days
  pub each : (i : ℕ) → i < count → get_or table i None ≡ kept (ruling model (first + i) ts)

-- What is told of the terms of a text: how many they are, and a table of those that rule a model on some days; or their
-- refusal.
abbrev pub RuledBy : List ℕ → ℕ → ℕ → ℕ → Result Scanned Refusal → Type 0
RuledBy text model first count (Ok scanned) = (ts : List Term) × (terms_of text ≡ accept ts)
    × (scanned.terms ≡ length ts) × Ruled model first count scanned.table ts
RuledBy text model first count (Err r) = terms_of text ≡ refuse r.number r.line
