-- Worked examples of document 02, §1, by computation: fleets with their reports or refusals, counted lines, sums at the
-- largest, and the labels of program D counted from its own store and through the store of its plain run.
use Rattle.std.specs.Prelude.{◌≡◌, refl, ℕ, List, [], ◌∷◌, map, ◌++◌ as ◌then◌, replicate}
use Prim.Native.String.{String, ◌++◌}
use Rattle.std.proofs.Math.Option.{Option, some}
use Rattle.language.specs.Lists.{nth}
use Rattle.language.specs.Results.{Checked, accept, refuse, bind_checked, need_checked, require, earlier}
use Rattle.language.specs.Rows.{letter_among, record_of, rows_of, numbers_of}
use Rattle.language.specs.Decimals.{digit_of, scan, decimal_of, digits_in, digits}
use Rattle.language.specs.TextLines.{field, number_of, closed, numbered, line_of as text_line}
use Rattle.language.specs.Alphabet.{ours}
use Rattle.language.specs.Texts.{read_lines, read_text}
use Rattle.language.specs.Tree.{count, size, heading_lines, method_lines, methods_lines, class_lines}
use Rattle.language.specs.Tree.{classes_lines, flatten, flatten_methods, flatten_classes, flatten_program}
use Rattle.language.specs.World.{place, field_type}
use Rattle.language.specs.Effects.{effect_of, member, join, within, effect_of_all, apply_class}
use Rattle.language.specs.Program.{declared, class_at, kind_at, is_root_class, is_state_type, fields_at}
use Rattle.language.specs.Program.{methods_of, number_at, declared_place, method_at, below_at, root_at}
use Rattle.language.specs.Program.{nearest_at, is_changeable, world_with, effect_in, body_in, world}
use Rattle.language.specs.Typing.{need_class, all_fit, join_slots, can_change, locals_declared, type_of}
use Rattle.language.specs.Typing.{type_method, type_methods, type_classes, bodies}
use Rattle.language.specs.Form.{after, record_on, next, if_letter, locals, several, node_of, node, body}
use Rattle.language.specs.Form.{fields, parameters, effects, method, methods, classes, at_end, form}
use Rattle.language.specs.Headings.{same_types, lines_within, check_fields, check_parameters, check_effects}
use Rattle.language.specs.Headings.{check_methods, check_class, check_classes, headings}
use Rattle.language.specs.Verdict.{whole_rows, three_passes, check}
use Rattle.language.specs.Evaluation.{eval, call_at, run}
use Rattle.language.specs.Translation.{position, plain_slot, read_slot, ◌⊕◌, reads, copies, plain_change}
use Rattle.language.specs.Translation.{translate, plain_classes, plain_program, within_limits, fields_free}
use Rattle.language.specs.Translation.{names_free, translation}
use Rattle.language.specs.Store.{heap_numbers, capacity, stored, runnable, run_of}
use Rattle.language.specs.WorkedPrograms.{typed, program_d}
use Rattle.language.specs.Worked.{sevens}
use Rattle.fleet.specs.Counts.{Counts, knows_all, count_below, classes_in, run_counts, through_next}
use Rattle.fleet.specs.Counts.{classes_through, counts_through}
use Rattle.fleet.specs.Ranking.{Counted, sums, all_within, add, sums_from, insert, ranked, line_of}
use Rattle.fleet.specs.Ranking.{lines_of}
use Rattle.fleet.specs.Ranking.{report_of}
use Rattle.fleet.specs.Fleet.{runs_in, runs_of, lines_of_runs, fleet_report, lines_in, counted_lines}
use Rattle.fleet.specs.Fleet.{models_report}

-- The numbers of the rows of a text as it is typed; a text that is refused has none.
abbrev pub made_of : Checked (List ℕ) → List ℕ
made_of (accept ns) = ns
made_of (refuse n l) = []

abbrev pub rows_typed : String → List ℕ
rows_typed text = made_of (read_text ours (typed text))

-- Objects of these classes, each with 17 numbers more that counting does not look at.
unfoldable pub objects_of : List ℕ → List ℕ
objects_of [] = []
objects_of (c ∷ cs) = c ∷ (replicate 17 9 then objects_of cs)

-- Two classes, a root and its state.
abbrev pub two_classes : String
two_classes = "C 1 0\nC 2 1\nS\nB 0 1\nT\n"

-- Five: a plain class; a root, 2, and its states 3 and 4; and state 5 below 3.
abbrev pub five_classes : String
five_classes = "C 0 0\nC 1 0\nC 2 2\nC 2 2\nC 2 3\nS\nB 0 1\nT\n"

-- A fleet: runs of six numbers, the texts of their programs one after another, and the classes that their objects ended
-- in; with its report, in which a space stands for a tab, or its refusal.
pub record Example : Type 0 where
  pub runs : List ℕ
  pub programs : String
  pub ended : List ℕ
  pub report : Checked (List ℕ)

abbrev pub reports : List ℕ → String → List ℕ → String → Example
reports rs ps cs text = record { runs = rs; programs = ps; ended = cs; report = accept (typed text) }

abbrev pub refuses : List ℕ → String → List ℕ → ℕ → ℕ → Example
refuses rs ps cs number place = record { runs = rs; programs = ps; ended = cs; report = refuse number place }

unfoldable pub table : List Example
table =
    -- No runs have an empty report; five numbers are not whole runs.
    reports [] "" [] ""
    ∷ refuses (1 ∷ 2 ∷ 3 ∷ 4 ∷ 5 ∷ []) "" [] 1 0
    -- A spoiled label was printed too.
    ∷ reports (7 ∷ 5 ∷ 2 ∷ 1 ∷ 2 ∷ 10 ∷ []) two_classes (1 ∷ 2 ∷ []) "7 2 1 10\n"
    -- An object of class Object counts nowhere.
    ∷ reports (7 ∷ 5 ∷ 3 ∷ 1 ∷ 2 ∷ 10 ∷ []) two_classes (0 ∷ 1 ∷ 0 ∷ []) "7 1 0 10\n"
    -- Each run has its own program, store and classes.
    ∷ reports (7 ∷ 5 ∷ 1 ∷ 1 ∷ 2 ∷ 10 ∷ 8 ∷ 8 ∷ 2 ∷ 2 ∷ 4 ∷ 5 ∷ []) (two_classes ++ five_classes)
    (1 ∷ 4 ∷ 2 ∷ []) "8 2 1 5\n7 1 0 10\n"
    -- Spoiled is a sibling of printed.
    ∷ refuses (7 ∷ 8 ∷ 0 ∷ 3 ∷ 4 ∷ 10 ∷ []) five_classes [] 18 1
    -- On one run 18 comes before 17.
    ∷ refuses (7 ∷ 5 ∷ 0 ∷ 1 ∷ 1 ∷ 4294967295 ∷ []) two_classes [] 18 1
    -- The run that takes a sum past 4,000,000,000 is the line, and a run that is 18 after it is not reached.
    ∷ refuses (7 ∷ 5 ∷ 0 ∷ 1 ∷ 2 ∷ 3000000000 ∷ 7 ∷ 5 ∷ 0 ∷ 1 ∷ 2 ∷ 1000000001 ∷ 7 ∷ 5 ∷ 0 ∷ 1 ∷ 1 ∷ 0 ∷ [])
    (two_classes ++ (two_classes ++ two_classes)) [] 17 2
    -- Ten cents for three labels are more than three for one, which whole division would call as many.
    ∷ reports (1 ∷ 5 ∷ 3 ∷ 1 ∷ 2 ∷ 10 ∷ 2 ∷ 5 ∷ 1 ∷ 1 ∷ 2 ∷ 3 ∷ []) (two_classes ++ two_classes)
    (1 ∷ 1 ∷ 1 ∷ 1 ∷ []) "2 1 0 3\n1 3 0 10\n"
    -- Five for one good label of three are more than three for one.
    ∷ reports (1 ∷ 5 ∷ 3 ∷ 1 ∷ 2 ∷ 5 ∷ 2 ∷ 5 ∷ 1 ∷ 1 ∷ 2 ∷ 3 ∷ []) (two_classes ++ two_classes)
    (1 ∷ 2 ∷ 2 ∷ 1 ∷ []) "2 1 0 3\n1 3 2 5\n"
    ∷ []

-- Each fleet of the table has its report.
pub worked : map (λ (x : Example). fleet_report x.runs (rows_typed x.programs) (objects_of x.ended))
    table
    ≡ map (λ (x : Example). x.report) table
unfolding table objects_of typed nth bind_checked need_checked require earlier letter_among
    record_of rows_of numbers_of digit_of scan decimal_of digits_in digits field number_of closed numbered
    text_line read_lines count size heading_lines method_lines methods_lines class_lines classes_lines
    flatten flatten_methods flatten_classes flatten_program place field_type effect_of member join within
    effect_of_all apply_class declared class_at kind_at is_root_class is_state_type fields_at method_at
    below_at root_at nearest_at is_changeable world_with world need_class all_fit join_slots can_change
    locals_declared
    type_of type_method type_methods type_classes bodies after record_on next if_letter locals several
    node_of node body fields parameters effects method methods classes at_end form same_types lines_within
    check_fields check_parameters check_effects check_methods check_class check_classes headings whole_rows
    three_passes check knows_all count_below classes_in run_counts all_within add sums_from insert ranked
    line_of lines_of report_of runs_in runs_of lines_of_runs fleet_report
worked = refl

-- The line of a run that made no object.
abbrev pub of_model : ℕ → ℕ → Counted
of_model m c = record { model = m; printed = 0; spoiled = 0; cents = c }

-- A sum of 4,000,000,000 is not past the largest. This is said of the sums and not of the report, since `digits`, by
-- computation, counts down from its number.
pub largest_worked : sums 18 (some (of_model 7 3000000000) ∷ some (of_model 7 1000000000) ∷ [])
    ≡ accept (of_model 7 4000000000 ∷ [])
unfolding require all_within add sums_from
largest_worked = refl

-- Counted lines: a model's lines are summed; a line with more labels spoiled than printed is refused.
pub lines_worked : models_report (7 ∷ 2 ∷ 1 ∷ 10 ∷ 8 ∷ 3 ∷ 0 ∷ 9 ∷ 7 ∷ 1 ∷ 0 ∷ 2 ∷ [])
    ≡ accept (typed "8 3 0 9\n7 3 1 12\n")
unfolding typed bind_checked require digits_in digits all_within add sums_from insert ranked line_of
    lines_of report_of lines_in counted_lines models_report
lines_worked = refl

pub lines_refused : models_report (7 ∷ 2 ∷ 1 ∷ 10 ∷ 8 ∷ 3 ∷ 4 ∷ 9 ∷ []) ≡ refuse 1 2
unfolding bind_checked require all_within add sums_from report_of lines_in counted_lines models_report
lines_refused = refl

-- Program D of document 01: its label, class 2 at first, ends in class 3. The stores are those that its run and the run
-- of its plain rows leave, with 1 and 3 objects. The implementor of class 2 was replaced and counts nowhere.
abbrev pub rows_of_d : List ℕ
rows_of_d = rows_typed program_d

abbrev pub store_of_d : List ℕ
store_of_d = (run_of rows_of_d 9 (sevens 20)).store

abbrev pub plain_store_of_d : List ℕ
plain_store_of_d = (run_of (made_of (translation rows_of_d)) 52 (sevens 55)).store

abbrev pub labels : ℕ → ℕ → Option Counts
labels p s = some (record { printed = p; spoiled = s })

pub program_d_worked : ◌≡◌ {A = List (Option Counts)}
    (run_counts rows_of_d store_of_d 1 1 3 ∷ counts_through rows_of_d plain_store_of_d 3 1 3
    ∷ run_counts rows_of_d store_of_d 1 1 2 ∷ counts_through rows_of_d plain_store_of_d 3 1 2 ∷ [])
    (labels 1 1 ∷ labels 1 1 ∷ labels 1 0 ∷ labels 1 0 ∷ [])
unfolding typed nth bind_checked need_checked require earlier letter_among record_of rows_of
    numbers_of digit_of scan decimal_of field number_of closed numbered text_line read_lines count size
    heading_lines method_lines methods_lines class_lines classes_lines flatten flatten_methods
    flatten_classes flatten_program place field_type effect_of member join within effect_of_all apply_class
    declared class_at kind_at is_root_class is_state_type fields_at methods_of number_at declared_place
    method_at below_at root_at nearest_at is_changeable world_with effect_in body_in world need_class all_fit
    join_slots can_change locals_declared type_of type_method
    type_methods type_classes bodies after record_on next if_letter locals several node_of node body fields
    parameters effects method methods classes at_end form same_types lines_within check_fields
    check_parameters check_effects check_methods check_class check_classes headings whole_rows three_passes
    check knows_all count_below classes_in run_counts eval call_at run position plain_slot read_slot ◌⊕◌
    reads copies plain_change translate plain_classes plain_program within_limits fields_free names_free
    translation heap_numbers capacity stored runnable run_of through_next classes_through counts_through
program_d_worked = refl
