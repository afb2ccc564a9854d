-- What judging, measuring and merging windows of models tell.
use Rattle.std.specs.Prelude.{◌≡◌, true, List, ◌++◌, ℕ, ◌+◌, ◌*◌, ◌≤◌, ◌<◌, length, take, drop}
use Rattle.std.specs.Prelude.{Option as Found, Some, None, Result}
use Rattle.std.proofs.Math.Option.{Option}
use Rattle.language.specs.WellFormed.{Each}
use Rattle.language.specs.Filling.{buffer}
use Rattle.fleet.specs.Ranking.{Counted, all_within, lines_of, ranked, report_of, report_answer}
use Rattle.fleet.specs.Entries.{entries}
use Rattle.fleet.specs.declared.Fault.{Fault as Refused}
use Rattle.fleet.specs.LineLists.{Sorted}
use Rattle.reports.specs.Places.{Printable}
use Rattle.sums.specs.Window.{Sized}
use Rattle.counted.specs.declared.Scan.{Scan}
use Rattle.counted.specs.Lines.{all_count, summed}
use Rattle.counted.specs.Scanning.{Fault, Reached, window_sums}
use Rattle.ranking.specs.declared.Judged.{Judged}

-- The slices that are lent for the sums of a window fit together, and those of the chains also serve for the order.
pub record Lent (T H N : List ℕ) : Type 0 where
  pub sized : Sized T H N
  pub heads_long : length N ≤ length H

-- Tables of these lengths fit together.
pub record Serving (numbers chains models : ℕ) : Type 0 where
  pub table : models * 4 ≤ numbers
  pub heads : models ≤ chains
  pub least : 2 ≤ models
  pub most : models < 65536
  pub numbers_few : numbers < 4294967296
  pub chains_few : chains < 4294967296

-- How much of `bytes` bytes the lines of some sums leave, or that they are more.
abbrev pub Measured : ℕ → Found ℕ → List Counted → Type 0
Measured bytes (Some left) ds = length (lines_of ds) + left ≡ bytes
Measured bytes None ds = bytes < length (lines_of ds)

-- The models below `low` are judged: n lines count, none of these models' sums goes past the largest before that
-- place, and where no line is refused so far, that is the room that their lines leave.
pub record Judging (number : ℕ) (ls : List (Option Counted)) (bytes low : ℕ) (j : Judged) : Type 0 where
  pub within : j.place ≤ length ls
  pub count : 0 < low → all_count (take j.place ls) ≡ true
  pub end : j.refusal ≡ None → j.place ≡ length ls
  pub fault : (k : ℕ) → j.refusal ≡ Some k → Fault number ls j.place k
  pub clean : all_within (window_sums 0 low ls j.place) ≡ true
  pub measured : j.refusal ≡ None → Measured bytes j.room (window_sums 0 low ls (length ls))

-- A scan of one more window, with its sums in the table where it refused no line.
pub record JudgesNext (number : ℕ) (ls : List (Option Counted)) (bytes low : ℕ) (j : Judged) (T : List ℕ)
    (s : Scan) :
    Type 0 where
  pub judging : Judging number ls bytes low j
  pub reached : Reached number ls j.place s.place s.refusal
  pub wide : low < s.window.end
  pub clean : all_within (window_sums low s.window.end ls s.place) ≡ true
  pub holds : s.refusal ≡ None → entries T s.window.count ≡ window_sums low s.window.end ls s.place
  pub long : s.refusal ≡ None → (s.window.count * 4 ≤ length T) × (s.window.count ≤ 65535)

-- Some of it, for lines and a place that are not told.
pub record SomeNext (j : Judged) (T : List ℕ) (s : Scan) : Type 0 where
  pub number : ℕ
  pub lines : List (Option Counted)
  pub bytes : ℕ
  pub low : ℕ
  pub next : JudgesNext number lines bytes low j T s

-- Lines stand in order in the first bytes of a report.
pub record Standing (report : List ℕ) (have : ℕ) (es : List Counted) : Type 0 where
  pub within : have ≤ length report
  pub text : take have report ≡ lines_of es
  pub sorted : Sorted es
  pub printable : Each Printable es

pub record Stands (report : List ℕ) (have : ℕ) : Type 0 where
  pub lines : List Counted
  pub standing : Standing report have lines

-- A table has `count` sums, and there is room for their order.
pub record Ready (T order spare : List ℕ) (count : ℕ) : Type 0 where
  pub table : count * 4 ≤ length T
  pub few : count ≤ 65535
  pub order_long : count ≤ length order
  pub spare_long : count ≤ length spare
  pub within : all_within (entries T count) ≡ true

-- A scan of all lines in a window of all models, with its sums in the table where it refused no line.
pub record Whole (number : ℕ) (ls : List (Option Counted)) (T order spare : List ℕ) (s : Scan) : Type 0 where
  pub reached : Reached number ls (length ls) s.place s.refusal
  pub small : s.place < 18446744073709551615
  pub clean : all_within (summed (take s.place ls)) ≡ true
  pub holds : s.refusal ≡ None → entries T s.window.count ≡ summed ls
  pub ready : s.refusal ≡ None → Ready T order spare s.window.count

-- The same of some lines.
pub record SomeWhole (T order spare : List ℕ) (s : Scan) : Type 0 where
  pub number : ℕ
  pub lines : List (Option Counted)
  pub whole : Whole number lines T order spare s

-- All lines count, none of their sums is past the largest, and their report fits into `bytes` bytes.
pub record Fits (ls : List (Option Counted)) (bytes : ℕ) : Type 0 where
  pub count : all_count ls ≡ true
  pub clean : all_within (summed ls) ≡ true
  pub room : length (lines_of (summed ls)) ≤ bytes

-- The bytes after the report was written, and how many these are.
pub record Written (ls : List (Option Counted)) (old new : List ℕ) (r : ℕ) : Type 0 where
  pub long : r ≡ length (lines_of (summed ls))
  pub are : new ≡ lines_of (ranked (summed ls)) ++ drop r old

-- A report is made of lines, of which one that does not count is refused with this number: the answer, and the bytes that are
-- lent for it.
abbrev pub Reports : ℕ → List (Option Counted) → List ℕ → List ℕ → Result ℕ Refused → Type 0
Reports number ls old new r = (r ≡ report_answer (report_of number ls) (length old))
    × (new ≡ buffer (report_of number ls) old)
