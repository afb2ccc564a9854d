-- The starred lines of document 01, "Worked programs": one table, one theorem, by computation, from the text that is
-- typed to the text that is printed.
-- After them come programs that the plausible errors of document 01 would get wrong, runs that stop, and texts that the
-- reader refuses.
use Rattle.std.specs.Prelude.{◌≡◌, refl, ℕ, ◌-◌, true, List, [], ◌∷◌, ◌++◌, map, length, replicate}
use Prim.Native.String.{String}
use Rattle.language.specs.Limits.{object_width, program_fuel, store_room}
use Rattle.language.specs.Lists.{nth}
use Rattle.language.specs.Results.{Checked, accept, refuse, bind_checked, need_checked, require}
use Rattle.language.specs.Results.{earlier}
use Rattle.language.specs.Rows.{Row, row, letter_among, record_of, rows_of, numbers_of}
use Rattle.language.specs.Decimals.{digit_of, scan, decimal_of, digits_in, digits}
use Rattle.language.specs.TextLines.{field, number_of, closed, numbered, line_of, line_text}
use Rattle.language.specs.Alphabet.{ours}
use Rattle.language.specs.Texts.{read_lines, read_text, write_lines, write_rows}
use Rattle.language.specs.Tree.{count, size, heading_lines, method_lines, methods_lines, class_lines}
use Rattle.language.specs.Tree.{classes_lines, flatten, flatten_methods, flatten_classes}
use Rattle.language.specs.Tree.{flatten_program}
use Rattle.language.specs.World.{place, field_type}
use Rattle.language.specs.Effects.{effect_of, member, join, within, effect_of_all, apply_class}
use Rattle.language.specs.Program.{declared, class_at, kind_at, is_root_class, is_state_type}
use Rattle.language.specs.Program.{methods_of, number_at, declared_place, world_with, effect_in}
use Rattle.language.specs.Program.{body_in}
use Rattle.language.specs.Program.{fields_at, method_at, below_at, root_at, nearest_at, is_changeable}
use Rattle.language.specs.Program.{world}
use Rattle.language.specs.Typing.{need_class, all_fit, join_slots, can_change, locals_declared}
use Rattle.language.specs.Typing.{type_of, type_method, type_methods, type_classes, bodies}
use Rattle.language.specs.Form.{after, record_on, next, if_letter, locals, several, node_of, node}
use Rattle.language.specs.Form.{body, fields, parameters, effects, method, methods, classes, at_end}
use Rattle.language.specs.Form.{form}
use Rattle.language.specs.Headings.{same_types, lines_within, check_fields, check_parameters}
use Rattle.language.specs.Headings.{check_effects, check_methods, check_class, check_classes}
use Rattle.language.specs.Headings.{headings}
use Rattle.language.specs.Verdict.{Verdict, accepted, refused, whole_rows, three_passes, check, verdict}
use Rattle.language.specs.State.{truth, object, raised, spent, deep, full}
use Rattle.language.specs.Evaluation.{eval, call_at, run}
use Rattle.language.specs.Translation.{position, plain_slot, read_slot, ◌⊕◌, reads, copies}
use Rattle.language.specs.Translation.{plain_change, translate, plain_classes, plain_program}
use Rattle.language.specs.Translation.{within_limits, fields_free, names_free, translation}
use Rattle.language.specs.Store.{Answer, Ran, ran, gave, ended, heap_numbers, capacity}
use Rattle.language.specs.Store.{stored, runnable, run_of}
use Rattle.language.specs.Printed.{refusal_text, counts_text, source_rows, plain_text, translate_output}
use Rattle.language.specs.Printed.{run_text, run_line, run_lines, run_output}
use Rattle.language.specs.WorkedPrograms.{typed, nothing, no_expressions, just_true, just_true_plain}
use Rattle.language.specs.WorkedPrograms.{program_d, field_below, state_field, state_under_object}
use Rattle.language.specs.WorkedPrograms.{change_this, null_receiver, same_field, second_method}
use Rattle.language.specs.WorkedPrograms.{just_null, just_object, long_method, long_method_plain}
use Rattle.language.specs.WorkedPrograms.{deep_recursion, three_objects, store_full, every_letter}
use Rattle.language.specs.WorkedPrograms.{no_line_feed, leading_zero, number_too_large, number_missing}
use Rattle.language.specs.WorkedPrograms.{number_too_many, no_such_letter, null_object, reserved_name}

-- What is asked of a text: its rows, the text that is written from them, what each of the two programs prints, the
-- verdict on its rows or on the plain rows, or a run of one of the two with the fuel given, in the store that the
-- running program lends or in another; or the line that is printed for a run with the fuel given.
pub data Question : Type 0 where
  its_rows its_text_again translating_prints running_prints verdict_on_it plain_verdict : Question
  run_with plain_run_with line_with : ℕ → Question
  run_in plain_run_in : ℕ → List ℕ → Question

-- Numbers or a refusal; what is printed; a verdict; the answer of a run; the answer with the store afterwards.
pub data Reply : Type 0 where
  made : Checked (List ℕ) → Reply
  printed : List ℕ → Reply
  judged : Verdict → Reply
  answered : Answer → Reply
  left : Ran → Reply

abbrev pub verdict_on : Checked (List ℕ) → Verdict
verdict_on (accept rows) = verdict rows
verdict_on (refuse n l) = refused n l

abbrev pub run_on : Checked (List ℕ) → ℕ → List ℕ → Ran
run_on (accept rows) fuel store = run_of rows fuel store
run_on (refuse n l) fuel store = record { answer = Answer.refused n l; store = store }

-- The store that the running program lends.
abbrev pub lent : List ℕ
lent = replicate store_room 0

abbrev pub plain_rows : List ℕ → Checked (List ℕ)
plain_rows text = bind_checked (read_text ours text) λ rows. translation rows

abbrev pub ask : List ℕ → Question → Reply
ask text its_rows = made (read_text ours text)
ask text its_text_again = made (bind_checked (read_text ours text) λ rows. write_rows ours rows)
ask text translating_prints = printed (translate_output text)
ask text running_prints = printed (run_output text)
ask text verdict_on_it = judged (verdict_on (read_text ours text))
ask text plain_verdict = judged (verdict_on (plain_rows text))
ask text (run_with fuel) = answered (run_on (read_text ours text) fuel lent).answer
ask text (plain_run_with fuel) = answered (run_on (plain_rows text) fuel lent).answer
ask text (line_with fuel) = printed (run_text (run_on (read_text ours text) fuel lent).answer)
ask text (run_in fuel store) = left (run_on (read_text ours text) fuel store)
ask text (plain_run_in fuel store) = left (run_on (plain_rows text) fuel store)

pub record Example : Type 0 where
  pub program : String
  pub question : Question
  pub reply : Reply

abbrev pub asked : String → Question → Reply → Example
asked p q r = record { program = p; question = q; reply = r }

-- The rows that are read.
abbrev pub reads_as : List Row → Reply
reads_as rs = made (accept (numbers_of rs))

-- What is printed, with a space for a tab.
abbrev pub prints : String → Reply
prints s = printed (typed s)

-- The answer of a run, and the store afterwards.
abbrev pub leaves : Answer → List ℕ → Reply
leaves a store = left (record { answer = a; store = store })

-- A store of sevens, so that every number shows whether the run has written it.
abbrev pub sevens : ℕ → List ℕ
sevens n = replicate n 7

-- The 18 numbers of an object: its class and fields, as given, then zeros.
abbrev pub object_of : List ℕ → List ℕ
object_of ns = ns ++ replicate (object_width - length ns) 0

-- The object of program D after its run: class 3, with true in its field.
abbrev pub object_of_d : List ℕ
object_of_d = object_of (3 ∷ 2 ∷ [])

-- The objects of plain D: the Identity, whose implementor is the third object; its implementor before the change; its
-- implementor afterwards.
abbrev pub plain_objects_of_d : List ℕ
plain_objects_of_d = object_of (1 ∷ 5 ∷ []) ++ (object_of (4 ∷ 3 ∷ 2 ∷ []) ++ object_of (5 ∷ 3 ∷ 2 ∷ []))

-- The first two of three objects: true and the second object in the fields of the first, false and null in the others.
abbrev pub two_objects : List ℕ
two_objects = object_of (1 ∷ 2 ∷ 4 ∷ []) ++ object_of (1 ∷ 1 ∷ 0 ∷ [])

-- Reading a text and writing its rows gives the text back.
abbrev pub comes_back : String → Example
comes_back p = asked p its_text_again (made (accept (typed p)))

abbrev pub readable : List String
readable =
    nothing ∷ no_expressions ∷ just_true ∷ just_true_plain ∷ program_d ∷ field_below ∷ state_field
    ∷ state_under_object ∷ change_this ∷ null_receiver ∷ same_field ∷ second_method ∷ just_null ∷ just_object
    ∷ null_object ∷ reserved_name ∷ long_method ∷ long_method_plain ∷ deep_recursion ∷ three_objects
    ∷ store_full ∷ every_letter ∷ []

-- The starred lines.
abbrev pub starred : List Example
starred =
    asked nothing its_rows (reads_as [])
    ∷ asked nothing verdict_on_it (judged (refused 3 1))
    ∷ asked nothing translating_prints (prints "! 3 1\n")
    ∷ asked nothing running_prints (prints "! 3 1\n")
    ∷ asked no_expressions verdict_on_it (judged (refused 3 2))
    ∷ asked no_expressions translating_prints (prints "! 3 2\n")
    ∷ asked no_expressions running_prints (prints "! 3 2\n")
    ∷ asked just_true its_rows (reads_as (row 83 0 0 0 ∷ row 66 0 1 0 ∷ row 84 0 0 0 ∷ []))
    ∷ asked just_true translating_prints (prints just_true_plain)
    ∷ asked just_true running_prints (prints "T 2 0 0\nT 2 0 0\n")
    ∷ asked program_d running_prints (prints "T 9 1 1\nT 52 3 0\n")
    ∷ asked program_d (run_with 9) (answered (ran (gave (truth true)) 9 1 1))
    ∷ asked program_d (run_with 8) (answered (ran (ended spent) 8 1 1))
    ∷ asked program_d (line_with 8) (prints "! 14 8 1 1\n")
    ∷ asked field_below verdict_on_it (judged (refused 8 15))
    ∷ asked field_below running_prints (prints "! 8 15\n")
    ∷ asked state_field verdict_on_it (judged (refused 5 2))
    ∷ asked state_field running_prints (prints "! 5 2\n")
    ∷ asked state_under_object verdict_on_it (judged (refused 5 1))
    ∷ asked state_under_object running_prints (prints "! 5 1\n")
    ∷ asked change_this verdict_on_it (judged (refused 10 2))
    ∷ asked change_this running_prints (prints "! 10 2\n")
    ∷ asked null_receiver (run_with program_fuel) (answered (ran (ended (raised 2)) 5 1 0))
    ∷ []

-- What the plausible errors get wrong.
abbrev pub plausible : List Example
plausible =
    -- The implementor is taken after the arguments have run.
    asked null_receiver running_prints (prints "E 2 5 1 0\nE 2 25 2 0\n")
    -- Fields below the root are not copied.
    ∷ asked same_field running_prints (prints "L 9 1 3\nL 86 5 0\n")
    -- The else arm of R does not end with a copy, whose type may be bool.
    ∷ asked program_d plain_verdict (judged accepted)
    -- Every method is typed.
    ∷ asked second_method verdict_on_it (judged (refused 9 5))
    ∷ asked second_method translating_prints (prints "! 9 5\n")
    ∷ []

-- The other outcomes of a run, a longer program, and what a run leaves in its store.
abbrev pub runs : List Example
runs =
    asked just_null running_prints (prints "N 2 0 0\nN 2 0 0\n")
    ∷ asked just_object running_prints (prints "O 1 2 1 0\nO 1 13 2 0\n")
    ∷ asked null_object running_prints (prints "E 1 3 0 0\nE 1 5 0 0\n")
    ∷ asked long_method translating_prints (prints long_method_plain)
    ∷ asked long_method running_prints (prints "L 16 1 1\nL 68 3 0\n")
    -- The check accepts a reserved name, and it runs; the translator refuses it, and so does the running program.
    ∷ asked reserved_name verdict_on_it (judged accepted)
    ∷ asked reserved_name (line_with 2) (prints "T 2 0 0\n")
    ∷ asked reserved_name translating_prints (prints "! 12 2\n")
    ∷ asked reserved_name running_prints (prints "! 12 2\n")
    -- Three steps come before the first call and each of 64 takes three; in the plain program 19 and nine.
    ∷ asked deep_recursion running_prints (prints "! 15 195 1 0\n! 15 595 2 0\n")
    ∷ asked deep_recursion (run_with program_fuel) (answered (ran (ended deep) 195 1 0))
    -- Plain D needs 52 steps; the store has one or two numbers too many.
    ∷ asked program_d (plain_run_with 52) (answered (ran (gave (truth true)) 52 3 0))
    ∷ asked program_d (plain_run_with 51) (answered (ran (ended spent) 51 3 0))
    ∷ asked program_d (run_in 9 (sevens 20))
    (leaves (ran (gave (truth true)) 9 1 1) (object_of_d ++ sevens 2))
    ∷ asked program_d (plain_run_in 52 (sevens 55))
    (leaves (ran (gave (truth true)) 52 3 0) (plain_objects_of_d ++ sevens 1))
    -- 36 numbers hold two objects, and so do 53. The W that finds the store full is a step and makes no object.
    ∷ asked three_objects (run_in 100 (sevens 36)) (leaves (ran (ended full) 10 2 0) two_objects)
    ∷ asked three_objects (run_in 100 (sevens 53))
    (leaves (ran (ended full) 10 2 0) (two_objects ++ sevens 17))
    ∷ asked three_objects (run_in 100 (sevens 54))
    (leaves (ran (gave (object 2)) 10 3 0) (two_objects ++ object_of (1 ∷ 1 ∷ 0 ∷ [])))
    -- 17 numbers hold none.
    ∷ asked three_objects (run_in 100 (sevens 17)) (leaves (ran (ended full) 3 0 0) (sevens 17))
    -- A refusal changes nothing; too much fuel is refused before the program is.
    ∷ asked change_this (run_in 100 (sevens 36)) (leaves (Answer.refused 10 2) (sevens 36))
    ∷ asked change_this (run_in 100000001 (sevens 36)) (leaves (Answer.refused 2 0) (sevens 36))
    -- The running program's store holds 166 objects. The source makes one, then three in each call; the plain program
    -- makes two, then six.
    ∷ asked store_full running_prints (prints "! 16 335 166 0\n! 16 1250 166 0\n")
    ∷ []

-- What the reader makes of a text.
abbrev pub texts : List Example
texts =
    asked every_letter its_rows (reads_as
    (row 67 1 2 0 ∷ row 70 3 4 0 ∷ row 77 5 6 0 ∷ row 80 7 0 0 ∷ row 88 8 0 0 ∷ row 83 0 0 0 ∷ row 66 9 10 0
    ∷ row 86 11 0 0 ∷ row 84 0 0 0 ∷ row 76 0 0 0 ∷ row 78 0 0 0 ∷ row 73 12 0 0 ∷ row 90 0 0 0
    ∷ row 71 13 0 0 ∷ row 75 14 0 0 ∷ row 87 15 0 0 ∷ row 82 16 17 0 ∷ row 65 18 0 0 ∷ row 85 19 0 0
    ∷ row 81 20 65535 0 ∷ row 74 0 0 0 ∷ []))
    ∷ asked every_letter running_prints (prints "! 3 6\n")
    ∷ asked no_line_feed its_rows (made (refuse 1 3))
    ∷ asked no_line_feed running_prints (prints "! 1 3\n")
    ∷ asked leading_zero its_rows (made (refuse 1 2))
    ∷ asked leading_zero translating_prints (prints "! 1 2\n")
    ∷ asked number_too_large its_rows (made (refuse 1 2))
    ∷ asked number_missing its_rows (made (refuse 1 2))
    ∷ asked number_too_many its_rows (made (refuse 1 3))
    ∷ asked no_such_letter its_rows (made (refuse 1 3))
    ∷ []

-- The table.
unfoldable pub table : List Example
table = map comes_back readable ++ (starred ++ (plausible ++ (runs ++ texts)))

-- Each example of the table has its reply.
pub worked : map (λ (x : Example). ask (typed x.program) x.question) table
    ≡ map (λ (x : Example). x.reply) table
unfolding table typed nth bind_checked need_checked require earlier letter_among record_of
    rows_of numbers_of digit_of scan decimal_of digits_in digits field number_of closed numbered line_of
    line_text read_lines write_lines count size heading_lines method_lines methods_lines class_lines
    classes_lines flatten flatten_methods flatten_classes flatten_program place field_type effect_of member
    join within effect_of_all apply_class declared class_at kind_at is_root_class is_state_type fields_at
    methods_of number_at declared_place method_at below_at root_at nearest_at is_changeable world_with
    effect_in
    body_in world need_class all_fit join_slots can_change
    locals_declared type_of type_method type_methods type_classes bodies after record_on next if_letter
    locals several node_of node body fields parameters effects method methods classes at_end form same_types
    lines_within check_fields check_parameters check_effects check_methods check_class check_classes
    headings whole_rows three_passes check verdict eval call_at run position plain_slot read_slot ◌⊕◌ reads
    copies plain_change translate plain_classes plain_program within_limits fields_free names_free
    translation heap_numbers capacity stored runnable run_of refusal_text counts_text source_rows plain_text
    translate_output run_line run_lines run_output
worked = refl
