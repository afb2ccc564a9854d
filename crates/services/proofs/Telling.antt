-- What is returned and stored of a run as the code gives it is that of the definition. Assumes nothing.
use mathlib.Core.Path.{◌≡◌, refl, ap, ◌∙◌}
use Prim.Native.Nat.{ℕ}
use native.Mathlib.Omega.{arith}
use Rattle.language.specs.State.{Value, null, truth, object, raised, spent, deep, full, stuck}
use Rattle.language.specs.Store.{Outcome, gave, ended, Answer, refused, ran}
use Rattle.machine.specs.Runs.{end_told}
use Rattle.objects.specs.Values.{case_of}
use Rattle.std.specs.Prelude.{Result}
use Rattle.language.specs.declared.Refusal.{Refusal}
use Rattle.machine.specs.declared.Run.{Run}
use Rattle.running.specs.Answers.{answer_told}
use Rattle.packing.specs.Packed.{packed_outcome, packed_answer, kind, content}
use Rattle.packing.specs.Packed.{kind_of_outcome, kind_after, content_of_outcome, content_after}
use Rattle.telling.specs.Cases.{kind_of}
use Rattle.packing.specs.Packed.{steps_after, objects_after, changes_after}
use Rattle.telling.specs.Cases.{content_of, packed_end, packed_run, kind_left, kind_told}
use Rattle.telling.specs.Cases.{content_left, content_told, steps_told, objects_told, changes_told}

outcome_packed : (o : Outcome) → packed_end (end_told o) ≡ packed_outcome o
outcome_packed (gave v) = refl
outcome_packed (ended (raised n)) = refl
outcome_packed (ended spent) = refl
outcome_packed (ended deep) = refl
outcome_packed (ended full) = refl
outcome_packed (ended stuck) = refl

answer_packed : (b : Answer) → packed_run (answer_told b) ≡ packed_answer b
answer_packed (refused number line) = refl
answer_packed (ran o steps objects changes) = outcome_packed o

-- An object has one number in both.
value_kind : (v : Value) → kind_of (case_of v) ≡ kind v
value_kind null = refl
value_kind (truth b) = refl
value_kind (object j) = refl

value_content : (v : Value) → content_of (case_of v) ≡ content v
value_content null = refl
value_content (truth b) = refl
value_content (object j) = omega arith

outcome_kind : (o : Outcome) (n : ℕ) → kind_left (end_told o) n ≡ kind_of_outcome o n
outcome_kind (gave v) n = value_kind v
outcome_kind (ended (raised k)) n = refl
outcome_kind (ended spent) n = refl
outcome_kind (ended deep) n = refl
outcome_kind (ended full) n = refl
outcome_kind (ended stuck) n = refl

outcome_content : (o : Outcome) (n : ℕ) → content_left (end_told o) n ≡ content_of_outcome o n
outcome_content (gave v) n = value_content v
outcome_content (ended (raised k)) n = refl
outcome_content (ended spent) n = refl
outcome_content (ended deep) n = refl
outcome_content (ended full) n = refl
outcome_content (ended stuck) n = refl

kinds_are : (b : Answer) (n : ℕ) → kind_told (answer_told b) n ≡ kind_after b n
kinds_are (refused number line) n = refl
kinds_are (ran o steps objects changes) n = outcome_kind o n

contents_are : (b : Answer) (n : ℕ) → content_told (answer_told b) n ≡ content_after b n
contents_are (refused number line) n = refl
contents_are (ran o steps objects changes) n = outcome_content o n

steps_are : (b : Answer) (n : ℕ) → steps_told (answer_told b) n ≡ steps_after b n
steps_are (refused number line) n = refl
steps_are (ran o steps objects changes) n = refl

objects_are : (b : Answer) (n : ℕ) → objects_told (answer_told b) n ≡ objects_after b n
objects_are (refused number line) n = refl
objects_are (ran o steps objects changes) n = refl

changes_are : (b : Answer) (n : ℕ) → changes_told (answer_told b) n ≡ changes_after b n
changes_are (refused number line) n = refl
changes_are (ran o steps objects changes) n = refl

-- What is returned and stored of an answer that tells b.
module _ {a : Result Run Refusal} (b : Answer) (e : a ≡ answer_told b) where
  pub number_is : packed_run a ≡ packed_answer b
  number_is = ap packed_run e ∙ answer_packed b

  pub kind_is : (n : ℕ) → kind_told a n ≡ kind_after b n
  kind_is n = ap (λ (x : Result Run Refusal). kind_told x n) e ∙ kinds_are b n

  pub content_is : (n : ℕ) → content_told a n ≡ content_after b n
  content_is n = ap (λ (x : Result Run Refusal). content_told x n) e ∙ contents_are b n

  pub steps_is : (n : ℕ) → steps_told a n ≡ steps_after b n
  steps_is n = ap (λ (x : Result Run Refusal). steps_told x n) e ∙ steps_are b n

  pub objects_is : (n : ℕ) → objects_told a n ≡ objects_after b n
  objects_is n = ap (λ (x : Result Run Refusal). objects_told x n) e ∙ objects_are b n

  pub changes_is : (n : ℕ) → changes_told a n ≡ changes_after b n
  changes_is n = ap (λ (x : Result Run Refusal). changes_told x n) e ∙ changes_are b n
