-- The demands, over texts, rows, fuel and lent stores as numbers: the definitions that the services'
-- contracts cite. What is listed is in Listed; what it is to end properly, to end alike on stores and to be
-- derived over a store is in Endings; the rules are those of WellFormed and Runs. The proofs are in the files
-- cited.
use mathlib.Core.Path.{◌≡◌}
use mathlib.Core.Logic.{◌↔◌, ◌≢◌}
use Prim.Native.Nat.{ℕ, ◌+◌, ◌*◌, ◌≤◌}
use mathlib.Core.List.{List}
use lib.ListN.{length}
use native.Mathlib.Omega.{arith}
use Rattle.language.specs.Limits.{most_fuel, numbers_a_row, plain_steps_a_step}
use Rattle.language.specs.Results.{accept}
use Rattle.language.specs.Filling.{answer, buffer}
use Rattle.language.specs.Tree.{Program}
use Rattle.language.specs.Verdict.{accepted, verdict}
use Rattle.language.specs.State.{stuck}
use Rattle.language.specs.WellFormed.{ProgramWell}
use Rattle.language.specs.Alphabet.{ours}
use Rattle.language.specs.Texts.{read_text, write_rows}
use Rattle.language.specs.Translation.{translation}
use Rattle.language.specs.Store.{capacity, ended, ran, refused, Ran, run_of}
use Rattle.promises.specs.Listed.{ReaderRefusal, WriterRefusal, TranslatorRefusal, ListedVerdict}
use Rattle.promises.specs.Listed.{ListedRun, ListedFilling}
use Rattle.promises.proofs.answers.TextAnswers.{reader_refuses, writer_refuses}
use Rattle.promises.proofs.answers.ListedAnswers.{verdict_listed, run_listed, filling_listed}
use Rattle.promises.proofs.answers.TranslatorAnswers.{translation_refuses}
use Rattle.language.specs.WellFormed.{RowsOf, WellFormedRows}
use Rattle.theory.proofs.acceptance.Acceptance.{demand_2_accepts as accepts_well_formed}
use Rattle.theory.proofs.soundness.Members.{demand_2_members as finds_members}
use Rattle.promises.specs.Endings.{Translatable, plain_numbers, TranslatesTo}
use Rattle.promises.specs.Endings.{EndsProperly, EndAlikeOnStores, DerivedRun}
use Rattle.promises.proofs.programs.RunsOfRows.{runs_derived, run_is_derived, one_derived}
use Rattle.promises.proofs.programs.RunsOfRows.{accepted_not_refused}
use Rattle.promises.proofs.programs.Translates.{translatable_taken, translates}
use Rattle.promises.proofs.programs.AcceptedTranslation.{demand_3_accepted as accepts_translations}
use Rattle.promises.proofs.programs.DemandsRows.{runs_alike, runs_alike_back}

-- Demand 1, the reader. Whatever the text, and whatever is lent for its rows, it answers how many rows it
-- wrote and leaves what was there past them; or it leaves all that was lent unchanged and refuses with 1 on
-- the first malformed line, with 2 on line 60,001 where the lines before it hold a row each, or with 13 on no
-- line where the rows do not fit.
pub demand_1_reader : (text old : List ℕ)
    → ListedFilling numbers_a_row (ReaderRefusal text) (read_text ours text) old
    (answer numbers_a_row (read_text ours text) (length old)) (buffer (read_text ours text) old)
demand_1_reader text old = filling_listed numbers_a_row (reader_refuses text) old

-- Demand 1, the writer. Whatever the numbers, and whatever is lent for their text, it answers how many bytes
-- it wrote and leaves what was there past them; or it leaves all that was lent unchanged and refuses with 1
-- on no line where the numbers are not whole rows, with 1 on the first line whose row is malformed, with 2 on
-- line 60,001 where there are more rows than 60,000, or with 13 on no line where the text does not fit.
pub demand_1_writer : (ns old : List ℕ)
    → ListedFilling 1 (WriterRefusal ns) (write_rows ours ns) old
    (answer 1 (write_rows ours ns) (length old)) (buffer (write_rows ours ns) old)
demand_1_writer ns old = filling_listed 1 (writer_refuses ns) old

-- Demand 1, the check. Whatever the numbers, they are accepted or refused with a number and a line that
-- document 01 lists for the check: with 1 on no line only where they are not whole rows, and with 1 on a line
-- only where its row is not a record.
pub demand_1_verdict : (ns : List ℕ) → ListedVerdict ns (verdict ns)
demand_1_verdict = verdict_listed

-- Demand 1, the translator. Whatever the numbers, and whatever is lent for the plain rows, it answers how
-- many rows it wrote and leaves what was there past them; or it leaves all that was lent unchanged and
-- refuses with a number and a line that document 01 lists for it: as the check, then 2 on a line over the
-- translator's limits, then 12 on an F line with name 254 or 255, then 13 where the plain rows do not fit.
pub demand_1_translation : (ns old : List ℕ)
    → ListedFilling numbers_a_row (TranslatorRefusal ns) (translation ns) old
    (answer numbers_a_row (translation ns) (length old)) (buffer (translation ns) old)
demand_1_translation ns old = filling_listed numbers_a_row (translation_refuses ns) old

-- Demand 1, runs. Whatever the numbers, the fuel and the store, a run is refused with a number and a line
-- that document 01 lists for it, and then the store is unchanged; or it ends in a value, exception 1 or 2, or
-- 14, 15 or 16, within fuel and room, and what held no object that it made is unchanged.
pub demand_1_run : (ns : List ℕ) (fuel : ℕ) (store : List ℕ)
    → ListedRun ns fuel store (run_of ns fuel store)
demand_1_run = run_listed

-- Demand 2, the verdict. Whatever the numbers, they are accepted exactly if they are the rows of a
-- well-formed program: in form, within the limits, its headings and bodies following the rules.
pub demand_2_accepts : (ns : List ℕ) → (verdict ns ≡ accepted) ↔ WellFormedRows ns
demand_2_accepts = accepts_well_formed

-- Demand 2, runs. The run of the rows of a well-formed program, with any fuel up to 100,000,000 and any
-- store, gives an answer and a store exactly if the evaluation relation derives them with that fuel, the room
-- of that store and at most 64 calls active: a value, an exception, 14, 15 or 16, with its steps, objects and
-- changes of class.
pub demand_2_runs : (ns : List ℕ) (p : Program) → RowsOf ns p → (fuel : ℕ) → fuel ≤ most_fuel
    → (store : List ℕ) (a : Ran)
    → (run_of ns fuel store ≡ a) ↔ DerivedRun p fuel store a
demand_2_runs = runs_derived

-- Demand 2, one result. Whatever the fuel and the store, the relation derives an answer and a store of a
-- well-formed program, and never two different ones.
pub demand_2_total : (p : Program) → ProgramWell p → (fuel : ℕ) (store : List ℕ)
    → (a : Ran) × DerivedRun p fuel store a
demand_2_total p w fuel store = (_, run_is_derived p w fuel store)

pub demand_2_deterministic : (p : Program) → ProgramWell p → (fuel : ℕ) (store : List ℕ) (a b : Ran)
    → DerivedRun p fuel store a → DerivedRun p fuel store b → a ≡ b
demand_2_deterministic = one_derived

-- Demand 2, accepted rows are run. With fuel up to 100,000,000 and any store no run of accepted rows is
-- refused.
pub demand_2_not_refused : (ns : List ℕ) → verdict ns ≡ accepted → (fuel : ℕ) → fuel ≤ most_fuel
    → (store : List ℕ) (n l : ℕ) → (run_of ns fuel store).answer ≢ refused n l
demand_2_not_refused = accepted_not_refused

-- Demand 2, members. A run of accepted rows, with any fuel and any store, never ends stuck: every field and
-- method that it seeks is there, and every value is of the sort that is needed.
pub demand_2_members : (ns : List ℕ) → verdict ns ≡ accepted
    → (fuel : ℕ) (store : List ℕ) (steps objects changes : ℕ)
    → (run_of ns fuel store).answer ≢ ran (ended stuck) steps objects changes
demand_2_members = finds_members

-- Demand 3 is asked of source runs with fuel up to 1,000,000; 84 times as much is within the limit of fuel.
abbrev pub most_source_fuel : ℕ
most_source_fuel = 1000000

-- Demand 3, the translator. Whatever the numbers, it gives plain rows exactly for the rows of a well-formed
-- program within its limits and without reserved names, and they are the rows of its plain program.
pub demand_3_translates : (ns out : List ℕ) → (translation ns ≡ accept out) ↔ TranslatesTo ns out
demand_3_translates = translates

-- Demand 3, acceptance. Every well-formed program within the translator's limits and without reserved names
-- has a translation, the rows of its plain program, and it is accepted.
pub demand_3_accepted : (ns : List ℕ) (p : Program) → RowsOf ns p → Translatable p
    → (translation ns ≡ accept (plain_numbers p)) × (verdict (plain_numbers p) ≡ accepted)
demand_3_accepted ns p rows taken = let e = translatable_taken ns p rows taken in
    (e, accepts_translations ns (plain_numbers p) e)

-- Demand 3. Take any accepted program within the translator's limits and without reserved names, so that it
-- has a translation (demand_3_translates), any fuel up to 1,000,000 and any store, whatever it held before.
-- If its run ends in a value, an exception or too deep a call (15), with n objects made and r changes of
-- class, then for every store with room for 2n + r objects, whatever it held before, the run of its plain
-- rows with 84 times the fuel ends alike, makes exactly 2n + r objects, and in the stores afterwards the j-th
-- object matches the j-th Identity made, for every j from 1 to n.
pub demand_3 : (ns out : List ℕ) → translation ns ≡ accept out
    → (fuel : ℕ) → fuel ≤ most_source_fuel
    → (store : List ℕ) (end : EndsProperly (run_of ns fuel store))
    → (plain_store : List ℕ)
    → 2 * end.objects + end.changes ≤ capacity plain_store
    → EndAlikeOnStores ns out (run_of ns fuel store) (run_of out (plain_steps_a_step * fuel) plain_store)
demand_3 ns out t fuel l store end plain_store room =
    runs_alike ns out t fuel _ (omega arith) (omega (arith, l)) store end plain_store (omega (arith, room))

-- Demand 3, back. If the run of the plain rows, with any fuel and any store, ends in one of those ways, then
-- for every store with room for as many objects as the plain run made, whatever it held before, the run of
-- the program with the same fuel ends alike.
pub demand_3_back : (ns out : List ℕ) → translation ns ≡ accept out
    → (fuel : ℕ) (plain_store : List ℕ) (end : EndsProperly (run_of out fuel plain_store))
    → (store : List ℕ)
    → end.objects ≤ capacity store
    → EndAlikeOnStores ns out (run_of ns fuel store) (run_of out fuel plain_store)
demand_3_back ns out t fuel plain_store end store room =
    runs_alike_back ns out t fuel plain_store end store room
