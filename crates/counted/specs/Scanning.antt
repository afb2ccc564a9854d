-- What the functions over lines require and give.
use Rattle.std.specs.Prelude.{◌≡◌, true, false, List, [], ◌∷◌, ℕ, ◌≤◌, ◌<◌, length, take}
use Rattle.std.specs.Prelude.{Option as Found, Some, None}
use Rattle.std.proofs.Math.Option.{Option, none, some}
use Rattle.language.specs.Lists.{nth}
use Rattle.fleet.specs.Ranking.{Counted, add, all_within, sum_refusal}
use Rattle.fleet.specs.Entries.{entries}
use Rattle.fleet.specs.LineLists.{in_models}
use Rattle.sums.specs.Window.{Open, in_window}
use Rattle.counted.specs.declared.Scan.{Scan}
use Rattle.counted.specs.Lines.{all_count, summed}

-- One more than the largest model.
abbrev pub all_models : ℕ
all_models = 4294967296

-- A line that is refused with a number, at a place from 0: it does not count, or takes a sum past the largest.
pub data Fault (number : ℕ) (ls : List (Option Counted)) (place : ℕ) : ℕ → Type 0 where
  no_line : nth ls place ≡ some none → Fault number ls place number
  past_sum : (c : Counted) → nth ls place ≡ some (some c)
      → all_within (add c (summed (take place ls))) ≡ false
      → Fault number ls place sum_refusal

-- The models of lines are numbers of 32 bits.
pub data Modelled : List (Option Counted) → Type 0 where
  modelled_nil : Modelled []
  modelled_none : {ls : List (Option Counted)} → Modelled ls → Modelled (none ∷ ls)
  modelled_some : {c : Counted} {ls : List (Option Counted)} → c.model < all_models → Modelled ls
      → Modelled (some c ∷ ls)

-- Up to a place, of at most `limit` lines, all lines count; there one is refused with the number found, or none is and that is the limit.
pub record Reached (number : ℕ) (ls : List (Option Counted)) (limit place : ℕ) (found : Found ℕ) : Type 0 where
  pub within : place ≤ limit
  pub count : all_count (take place ls) ≡ true
  pub end : found ≡ None → place ≡ limit
  pub fault : (k : ℕ) → found ≡ Some k → Fault number ls place k

-- The sums, of the models of a window, of the lines before a place.
abbrev pub window_sums : ℕ → ℕ → List (Option Counted) → ℕ → List Counted
window_sums low end ls place = in_models (in_window low end) (summed (take place ls))

-- What a scan of lines tells: how far they count, and a window of models none of whose sums goes past the largest before
-- that place; where no line was refused the table has these sums.
pub record Scanned (number : ℕ) (ls : List (Option Counted)) (limit low : ℕ) (T H N T' H' N' : List ℕ)
    (r : Scan) :
    Type 0 where
  pub reached : Reached number ls limit r.place r.refusal
  pub wide : low < r.window.end
  pub most : r.window.end ≤ all_models
  pub clean : all_within (window_sums low r.window.end ls r.place) ≡ true
  pub opened : r.refusal ≡ None → Open T' H' N' low r.window
  pub holds : r.refusal ≡ None → entries T' r.window.count ≡ window_sums low r.window.end ls r.place
  pub kept : (length T' ≡ length T) × ((length H' ≡ length H) × (length N' ≡ length N))
