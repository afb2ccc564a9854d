-- What the two programs print (document 01, "Worked programs"): the translating program the plain lines, the running
-- program a line for the source and a line for the plain program; a refusal has a line of its own.
use Rattle.std.specs.Prelude.{true, false, List, [], ◌∷◌, ◌++◌, ℕ, suc, replicate}
use Rattle.language.specs.Limits.{text_room, source_room, plain_room, store_room}
use Rattle.language.specs.Limits.{program_fuel}
use Rattle.language.specs.Results.{Checked, accept, refuse, bind_checked}
use Rattle.language.specs.State.{null, truth, object, raised, spent, deep, full, stuck}
use Rattle.language.specs.Store.{Outcome, gave, ended, stop_number, Answer, refused, ran, run_of}
use Rattle.language.specs.Translation.{translation}
use Rattle.language.specs.Filling.{held}
use Rattle.language.specs.Decimals.{digits}
use Rattle.language.specs.TextLines.{tab, line_feed}
use Rattle.language.specs.Alphabet.{ours}
use Rattle.language.specs.Texts.{read_text, write_rows}

-- A number after a tab.
abbrev pub number_text : ℕ → List ℕ
number_text n = tab ∷ digits n

-- `!`, the refusal's number and its line.
unfoldable pub refusal_text : ℕ → ℕ → List ℕ
refusal_text n l = 33 ∷ (number_text n ++ (number_text l ++ (line_feed ∷ [])))

-- T, L, N, O with its object's number, E with the exception, ! with the stop.
abbrev pub outcome_text : Outcome → List ℕ
outcome_text (gave null) = 78 ∷ []
outcome_text (gave (truth true)) = 84 ∷ []
outcome_text (gave (truth false)) = 76 ∷ []
outcome_text (gave (object j)) = 79 ∷ number_text (suc j)
outcome_text (ended (raised n)) = 69 ∷ number_text n
outcome_text (ended spent) = 33 ∷ number_text (stop_number spent)
outcome_text (ended deep) = 33 ∷ number_text (stop_number deep)
outcome_text (ended full) = 33 ∷ number_text (stop_number full)
outcome_text (ended stuck) = 33 ∷ number_text (stop_number stuck)

-- Steps, objects and changes, to the end of the line.
unfoldable pub counts_text : ℕ → ℕ → ℕ → List ℕ
counts_text steps objects changes =
    number_text steps ++ (number_text objects ++ (number_text changes ++ (line_feed ∷ [])))

-- The line of a run: the outcome and the counts.
abbrev pub run_text : Answer → List ℕ
run_text (refused n l) = refusal_text n l
run_text (ran o steps objects changes) = outcome_text o ++ counts_text steps objects changes

-- The rows of an input.
unfoldable pub source_rows : List ℕ → Checked (List ℕ)
source_rows input = bind_checked (held text_room (accept input)) λ text.
    held source_room (read_text ours text)

abbrev pub printed : Checked (List ℕ) → List ℕ
printed (accept text) = text
printed (refuse n l) = refusal_text n l

-- The translating program: the text of the plain rows.
unfoldable pub plain_text : List ℕ → Checked (List ℕ)
plain_text rows = bind_checked (held plain_room (translation rows)) λ plain.
    held text_room (write_rows ours plain)

unfoldable pub translate_output : List ℕ → List ℕ
translate_output input = printed (bind_checked (source_rows input) λ rows. plain_text rows)

-- The running program: the lines of the two runs; each has a store of zeros.
unfoldable pub run_line : List ℕ → List ℕ
run_line rows = run_text (run_of rows program_fuel (replicate store_room 0)).answer

unfoldable pub run_lines : List ℕ → Checked (List ℕ)
run_lines rows = bind_checked (held plain_room (translation rows)) λ plain.
    accept (run_line rows ++ run_line plain)

unfoldable pub run_output : List ℕ → List ℕ
run_output input = printed (bind_checked (source_rows input) λ rows. run_lines rows)
