-- What a service that fills a lent buffer answers, and what the buffer holds afterwards
-- (document 01, "Refusals and stops": a refusal changes no lent buffer, and past what was written it is unchanged).
-- Such a service makes of its input all the numbers to write, or a refusal.
use Rattle.std.specs.Prelude.{Bool, true, false, cond, List, [], ◌++◌, ℕ, ◌+◌, ◌/◌, leb, length, drop, Result}
use Rattle.language.specs.Limits.{room_refusal, no_line}
use Rattle.language.specs.Results.{Checked, accept, refuse}
use Rattle.language.specs.Refusals.{result_of}
use Rattle.language.specs.declared.Refusal.{Refusal}

-- Numbers before those that are made next.
abbrev pub before : List ℕ → Checked (List ℕ) → Checked (List ℕ)
before xs (accept ys) = accept (xs ++ ys)
before xs (refuse number line) = refuse number line

-- What is made, where `room` numbers are lent for it; 13 on no line where it is longer than that.
abbrev pub held : ℕ → Checked (List ℕ) → Checked (List ℕ)
held room (accept xs) = cond (leb (length xs) room) (accept xs) (refuse room_refusal no_line)
held room (refuse number line) = refuse number line

-- How many records of `width` numbers are made, or the refusal.
abbrev pub filled : ℕ → Checked (List ℕ) → Result ℕ Refusal
filled width made = result_of (λ xs. length xs / width) made

-- Numbers with those that are made before the rest of them; unchanged by a refusal.
abbrev pub overwritten : Checked (List ℕ) → List ℕ → List ℕ
overwritten (accept xs) old = xs ++ drop (length xs) old
overwritten (refuse number line) old = old

-- The answer where `room` numbers are lent and a record takes `width` of them.
abbrev pub answer : ℕ → Checked (List ℕ) → ℕ → Result ℕ Refusal
answer width made room = filled width (held room made)

-- The lent buffer afterwards.
abbrev pub buffer : Checked (List ℕ) → List ℕ → List ℕ
buffer made old = overwritten (held (length old) made) old

-- How many records of `width` numbers are made, `n` having been counted before.
abbrev pub tally : ℕ → ℕ → Checked (List ℕ) → Result ℕ Refusal
tally width n made = result_of (λ xs. n + length xs / width) made

abbrev pub is_made : Checked (List ℕ) → Bool
is_made (accept xs) = true
is_made (refuse number line) = false

-- The numbers that are made, none where there is a refusal.
abbrev pub made_numbers : Checked (List ℕ) → List ℕ
made_numbers (accept xs) = xs
made_numbers (refuse number line) = []
