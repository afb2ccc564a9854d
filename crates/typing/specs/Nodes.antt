-- What each node's function answers, by the cases of its children's answers; what V, R and J leave in the slots, and what they
-- need.
use Rattle.std.specs.Prelude.{Option, Some, None, Result, Ok, Err, IsOk, Bool, true, false, cond, ◌&&◌, ◌≡◌, List, ℕ, suc, ◌+◌, ◌*◌, ◌≤◌, ◌<◌, zero, eqb, leb, ltb, length, get_or}
use Rattle.language.specs.Effects.{effect_of, join}
use Rattle.language.specs.Limits.{bool_number, name_refusal, of_check, slot_refusal, type_refusal}
use Rattle.language.specs.Limits.{change_refusal}
use Rattle.language.specs.declared.Refusal.{Refusal}
use Rattle.language.specs.Refusals.{refusal}
use Rattle.language.specs.ClassTables.{class_width, kind_place}
use Rattle.types.specs.declared.Typing.{Typing}
use Rattle.types.specs.declared.Typing.TheVariants.{Bool as Bool_case, Class, Null}
use Rattle.types.specs.declared.Typed.{Typed as TypedCase}
use Rattle.types.specs.Answers.{Answer, names_type, answer, case_of_number, absent, current_in}
use Rattle.types.specs.Answers.{with_current, fresh_in, refused}
use Rattle.types.specs.Tables.{is_fitting, CaseIn, applied_slot, joined_slot, root_in, Known, PreJoin}
use Rattle.types.specs.Tables.{joined_case, BothClasses, In_row}

-- Z.
unfoldable pub null_tested : ℕ → Typing → ℕ → Answer
null_tested at Bool_case φ = refused type_refusal at
null_tested at (Class c) φ = answer Bool_case φ
null_tested at Null φ = answer Bool_case φ

-- The current type of the slot that a row names, as a number.
abbrev pub named_type : List ℕ → List ℕ → ℕ → ℕ
named_type R S at = current_in (get_or S (get_or R (at * 4 + 1) 0) 0)

-- W, K and I.
unfoldable pub created : List ℕ → ℕ → ℕ → Answer
created R count at =
    cond (ltb count (get_or R (at * 4 + 1) 0)) (refused name_refusal at)
    (answer (Class (get_or R (at * 4 + 1) 0)) 0)

unfoldable pub slot_read : List ℕ → List ℕ → ℕ → ℕ → Answer
slot_read R S at scope =
    cond (leb scope (get_or R (at * 4 + 1) 0)) (refused slot_refusal at)
    (cond (eqb (named_type R S at) absent) (refused slot_refusal at)
    (answer (case_of_number (named_type R S at)) 0))

-- K, with its class; then once the class is declared.
unfoldable pub casted : ℕ → ℕ → Typing → ℕ → Answer
casted at c Bool_case φ = refused type_refusal at
casted at c (Class d) φ = answer (Class c) φ
casted at c Null φ = answer (Class c) φ

unfoldable pub cast_answer : List ℕ → ℕ → ℕ → TypedCase → Answer
cast_answer R count at a =
    cond (ltb count (get_or R (at * 4 + 1) 0)) (refused name_refusal at)
    (casted at (get_or R (at * 4 + 1) 0) a.typing a.effect)

-- A.
unfoldable pub assigned : List ℕ → List ℕ → List ℕ → ℕ → ℕ → TypedCase → Answer
assigned R A S at scope a =
    cond (eqb (get_or R (at * 4 + 1) 0) 0) (refused slot_refusal at)
    (cond (leb scope (get_or R (at * 4 + 1) 0)) (refused slot_refusal at)
    (cond (is_fitting A a.typing (named_type R S at)) (Ok a) (refused type_refusal at)))

pub record PreAssign (R A S : List ℕ) (at scope : ℕ) (t : Typing) : Type 0 where
  pub row : In_row R at
  pub scoped : scope ≤ length S
  pub value : CaseIn (length A) t
  pub slot : (get_or R (at * 4 + 1) 0 ≡ 0 → ⊥) → get_or R (at * 4 + 1) 0 < scope
      → (named_type R S at ≡ bool_number → ⊥)
      → named_type R S at ≤ of_check.classes

-- V lines: the first that names no type is refused.
unfoldable pub opening : List ℕ → ℕ → ℕ → ℕ → Result (Unit {0}) Refusal
opening R count row zero = Ok tt
opening R count row (suc v) =
    cond (names_type count (get_or R (row * 4 + 1) 0)) (opening R count (row + 1) v)
    (Err (refusal name_refusal (row + 1)))

pub record PreOpen (R S : List ℕ) (at scope v : ℕ) : Type 0 where
  pub rows : (at + 1 + v) * 4 ≤ length R
  pub low : at + 1 + v ≤ 65536
  pub slots : scope + v ≤ length S

pub record PostOpen (R S S' : List ℕ) (count at scope v : ℕ) (r : Result (Unit {0}) Refusal) : Type 0 where
  pub out : r ≡ opening R count (at + 1) v
  pub long : length S' ≡ length S
  pub below : (k : ℕ) → k < scope → get_or S' k 0 ≡ get_or S k 0
  pub after : (k : ℕ) → scope + v ≤ k → get_or S' k 0 ≡ get_or S k 0
  pub filled : IsOk r → (i : ℕ) → i < v
      → get_or S' (scope + i) 0 ≡ fresh_in (get_or R ((at + 1 + i) * 4 + 1) 0)

-- Whether a class is a root or a state class, by its kind.
unfoldable pub changeable_in : List ℕ → ℕ → Bool
changeable_in T c =
    cond (eqb c 0) false
    (cond (eqb (get_or T (c * class_width + kind_place) 0) 1) true
    (eqb (get_or T (c * class_width + kind_place) 0) 2))

-- R.
unfoldable pub can_change_in : List ℕ → ℕ → ℕ → Bool
can_change_in T c d = changeable_in T c && (changeable_in T d && eqb (root_in T c) (root_in T d))

unfoldable pub changed_answer : List ℕ → List ℕ → ℕ → ℕ → ℕ → ℕ → ℕ → Answer
changed_answer T S count at scope k d =
    cond (ltb count d) (refused name_refusal at)
    (cond (leb scope k) (refused slot_refusal at)
    (cond (eqb (current_in (get_or S k 0)) absent) (refused slot_refusal at)
    (cond (eqb (current_in (get_or S k 0)) bool_number) (refused change_refusal at)
    (cond (can_change_in T (current_in (get_or S k 0)) d) (answer (Class d) (effect_of (root_in T d)))
    (refused change_refusal at)))))

-- The slots after a change: the root is applied to all, and this one has the target's class.
unfoldable pub number_after : List ℕ → List ℕ → ℕ → ℕ → ℕ → ℕ
number_after T S k d i =
    cond (eqb i k) (with_current (get_or S i 0) d) (applied_slot T (effect_of (root_in T d)) (get_or S i 0))

pub record PreChange (R T S : List ℕ) (count at scope : ℕ) : Type 0 where
  pub row : In_row R at
  pub few : count ≤ of_check.classes
  pub long : (count + 1) * class_width ≤ length T
  pub roots : (k : ℕ) → k ≤ count → root_in T k ≤ of_check.classes
  pub scoped : scope ≤ length S
  pub slots : (k : ℕ) → k < scope → Known count (current_in (get_or S k 0))

pub record PostChange (R T S S' : List ℕ) (count at scope : ℕ) (r : Answer) : Type 0 where
  pub out : r ≡ changed_answer T S count at scope (get_or R (at * 4 + 1) 0) (get_or R (at * 4 + 2) 0)
  pub long : length S' ≡ length S
  pub rest : (i : ℕ) → scope ≤ i → get_or S' i 0 ≡ get_or S i 0
  pub slots : IsOk r → (i : ℕ) → i < scope → get_or S' i 0 ≡ number_after T S (get_or R (at * 4 + 1) 0) (get_or R (at * 4 + 2) 0) i

-- J, after its arms.
unfoldable pub joined_answer : ℕ → ℕ → Option Typing → Answer
joined_answer at φ (Some t) = answer t φ
joined_answer at φ None = refused type_refusal at

unfoldable pub chosen : List ℕ → List ℕ → ℕ → Typing → ℕ → Typing → Typing → Answer
chosen T A at Bool_case φ t u = joined_answer at φ (joined_case T A t u)
chosen T A at (Class c) φ t u = refused type_refusal at
chosen T A at Null φ t u = refused type_refusal at

pub record PreChoice (T A S : List ℕ) (at scope top : ℕ) (t u : Typing) : Type 0 where
  pub low : at < 65536
  pub types : BothClasses T A t u
  pub slots : PreJoin T A S scope top

pub record PostChoice (T A S S' : List ℕ) (at scope top : ℕ) (a b c : TypedCase) (r : Answer) : Type 0 where
  pub out : r ≡ chosen T A at a.typing (join a.effect (join b.effect c.effect)) b.typing
      c.typing
  pub long : length S' ≡ length S
  pub rest : (i : ℕ) → scope ≤ i → get_or S' i 0 ≡ get_or S i 0
  pub slots : IsOk r → (i : ℕ) → i < scope → get_or S' i 0 ≡ joined_slot T A (get_or S (top + i) 0) (get_or S i 0)
