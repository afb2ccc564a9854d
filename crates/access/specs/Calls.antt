-- What Q answers, what it leaves in slots and table, and what it needs.
use Rattle.std.specs.Prelude.{◌≡◌, Bool, true, false, ◌&&◌, List, ℕ, zero, suc, ◌+◌, ◌*◌, ◌≤◌, ◌<◌, length, get_or, set}
use Rattle.language.specs.Effects.{join}
use Rattle.language.specs.declared.Refusal.{Refusal}
use Rattle.language.specs.Refusals.{refusal}
use Rattle.language.specs.Limits.{bool_number, member_refusal, of_check, type_refusal}
use Rattle.language.specs.ClassTables.{class_width, methods_from}
use Rattle.language.specs.MethodTables.{method_width, parameters_place}
use Rattle.types.specs.declared.Typing.{Typing}
use Rattle.types.specs.declared.Typing.TheVariants.{Bool as Bool_case, Class, Null}
use Rattle.types.specs.declared.slots.Scope.{Scope}
use Rattle.types.specs.Answers.{Answer, answer, case_of_number, current_in, refused, stored_case}
use Rattle.types.specs.Tables.{Applicable, applied, applied_slot, is_fitting, CaseIn, Changed, In_row}
use Rattle.access.specs.Fields.{InTables, NoClass}

-- Q with more arguments than any method has parameters.
unfoldable pub no_method_for : ℕ → Typing → Refusal
no_method_for at Bool_case = refusal type_refusal (at + 1)
no_method_for at (Class c) = refusal member_refusal (at + 1)
no_method_for at Null = refusal type_refusal (at + 1)

-- n stored arguments fit the types of n lines.
unfoldable pub all_fitting : List ℕ → List ℕ → List ℕ → ℕ → ℕ → ℕ → Bool
all_fitting R A S from row zero = true
all_fitting R A S from row (suc n) =
    is_fitting A (stored_case (get_or S from 0)) (get_or R (row * 4 + 1) 0) && all_fitting R A S (from + 1)
    (row + 1) n

pub record PreFitting (R A S : List ℕ) (from row n : ℕ) : Type 0 where
  pub slots : from + n ≤ length S
  pub rows : (row + n) * 4 ≤ length R
  pub values : (i : ℕ) → i < n → CaseIn (length A) (stored_case (get_or S (from + i) 0))
  pub types : (i : ℕ) → i < n → (get_or R ((row + i) * 4 + 1) 0 ≡ bool_number → ⊥)
      → get_or R ((row + i) * 4 + 1) 0 ≤ of_check.classes

-- Q. The table's number for a method: 0, or its number and 1. The row of a method's M line, and how many parameters it has.
abbrev pub method_place : List ℕ → ℕ → ℕ → ℕ
method_place T c m = get_or T (c * class_width + (methods_from + m)) 0

abbrev pub method_line : List ℕ → ℕ → ℕ
method_line M i = get_or M (i * method_width) 0

abbrev pub parameter_count : List ℕ → ℕ → ℕ
parameter_count M i = get_or M (i * method_width + parameters_place) 0

pub record PreMethod (R A M F S : List ℕ) (top n i : ℕ) : Type 0 where
  pub inside : i * method_width + parameters_place < length M
  pub effect : i < length F
  pub line : method_line M i * 4 + 3 < length R
  pub fitting : parameter_count M i ≡ n → PreFitting R A S top (method_line M i + 1) n

pub record PreInvoke (R T A M F S : List ℕ) (at : ℕ) (scope : Scope) (t : Typing) (ψ : ℕ) : Type 0 where
  pub row : In_row R at
  pub scoped : scope.size ≤ length S
  pub name : get_or R (at * 4 + 1) 0 < 256
  pub slots : (k : ℕ) → k < scope.size → Applicable T (current_in (get_or S k 0))
  pub receiver : (c : ℕ) → t ≡ Class c → InTables T ψ c
  pub method : (c i : ℕ) → t ≡ Class c → method_place T (applied T ψ c) (get_or R (at * 4 + 1) 0) ≡ suc i
      → PreMethod R A M F S scope.top (get_or R (at * 4 + 2) 0) i

-- The call's outcome: φ is the receiver's effect, ψ the arguments'; name and count are the row's.
module _ (R T A M F S C : List ℕ) (at : ℕ) (scope : Scope) (t : Typing) (φ ψ : ℕ) (S' C' : List ℕ)
    (r : Answer)
  where
    abbrev pub called : ℕ → ℕ
    called c = method_place T (applied T ψ c) (get_or R (at * 4 + 1) 0)

    abbrev pub given_count : ℕ
    given_count = get_or R (at * 4 + 2) 0

    abbrev pub arguments_fit : ℕ → Bool
    arguments_fit i = all_fitting R A S scope.top (method_line M i + 1) given_count

    pub record Unchanged : Type 0 where
      pub slots_same : S' ≡ S
      pub classes_same : C' ≡ C

    pub record Done (c i : ℕ) : Type 0 where
      pub out : r ≡ answer (case_of_number (get_or R (method_line M i * 4 + 1) 0))
          (join (join φ ψ) (get_or F i 0))
      pub slots : Changed S S' scope.size (λ k. applied_slot T (get_or F i 0) (get_or S k 0))
      pub noted : C' ≡ set C at (applied T ψ c)

    pub data Invoked : Type 0 where
      no_class : NoClass t → r ≡ refused type_refusal at → Unchanged → Invoked
      no_method : (c : ℕ) → t ≡ Class c → called c ≡ 0 → r ≡ refused member_refusal at → Unchanged → Invoked
      other_count : (c i : ℕ) → t ≡ Class c → called c ≡ suc i → (parameter_count M i ≡ given_count → ⊥)
          → r ≡ refused member_refusal at → Unchanged → Invoked
      unfit : (c i : ℕ) → t ≡ Class c → called c ≡ suc i → parameter_count M i ≡ given_count
          → arguments_fit i ≡ false → r ≡ refused type_refusal at → Unchanged → Invoked
      done : (c i : ℕ) → t ≡ Class c → called c ≡ suc i → parameter_count M i ≡ given_count
          → arguments_fit i ≡ true → Done c i → Invoked
