-- What typing's answer stands for, and the numbers that stand for types in slots.
use mathlib.Core.Bool.{cond, ◌||◌}
use mathlib.Core.Bool
use Rattle.std.proofs.Math.Option.{Option, none, some}
use Rattle.std.specs.Prelude.{Result, Ok, Err, List, ◌∷◌, map, ℕ, ◌+◌, ◌*◌, ◌/◌, ◌%◌, eqb, leb}
use Rattle.language.specs.Results.{Checked}
use Rattle.language.specs.declared.Refusal.{Refusal}
use Rattle.language.specs.Refusals.{refusal, result_of}
use Rattle.language.specs.Tree.{bool, class, ExprType, known, null_type, type_number}
use Rattle.language.specs.Environment.{Slot, Environment}
use Rattle.language.specs.Typing.{Typed}
use Rattle.language.specs.Limits.{bool_number}
use Rattle.types.specs.declared.Typing.{Typing}
use Rattle.types.specs.declared.Typing.TheVariants.{Bool as Bool_case, Class, Null}
use Rattle.types.specs.declared.Typed.{Typed as TypedCase}

-- The case of a type.
abbrev pub typing_case : ExprType → Typing
typing_case (known bool) = Bool_case
typing_case (known (class c)) = Class c
typing_case null_type = Null

abbrev pub typed_case : Typing → ℕ → TypedCase
typed_case t φ = record { typing = t; effect = φ }

-- What typing answers: a type with its effect, or a refusal.
abbrev pub Answer : Type 0
Answer = Result TypedCase Refusal

abbrev pub answer : Typing → ℕ → Answer
answer t φ = Ok (typed_case t φ)

-- The answer that a definition's result stands for.
abbrev pub answered : Typed → TypedCase
answered a = typed_case (typing_case a.type) a.effect

abbrev pub answer_of : Checked Typed → Answer
answer_of q = result_of answered q

-- The case of a declared type's number.
unfoldable pub case_of_number : ℕ → Typing
case_of_number n = cond (eqb n bool_number) Bool_case (Class n)

-- The types of `this` where there is none, and null among arguments, are 65,535.
abbrev pub absent : ℕ
absent = 65535

abbrev pub case_number : Typing → ℕ
case_number Bool_case = bool_number
case_number (Class c) = c
case_number Null = absent

-- A refusal on the line of a row.
abbrev pub refused : ℕ → ℕ → Answer
refused n at = Err (refusal n (at + 1))

-- The case of a stored argument's number.
unfoldable pub stored_case : ℕ → Typing
stored_case n = cond (eqb n absent) Null (case_of_number n)

-- Whether a number is bool's or a declared class's.
unfoldable pub names_type : ℕ → ℕ → mathlib.Core.Bool.Bool
names_type count n = eqb n bool_number || leb n count

-- A slot as one number: its declared type's number in the upper half, its current type's in the lower. The numbers of types
-- are below 65,536.
abbrev pub half : ℕ
half = 65536

unfoldable pub slot_of : ℕ → ℕ → ℕ
slot_of declared current = declared * half + current

unfoldable pub current_in : ℕ → ℕ
current_in n = n % half

unfoldable pub declared_in : ℕ → ℕ
declared_in n = n / half

unfoldable pub with_current : ℕ → ℕ → ℕ
with_current n c = slot_of (declared_in n) (c % half)

-- A slot whose current type is its declared one.
unfoldable pub fresh_in : ℕ → ℕ
fresh_in n = slot_of (n % half) (n % half)

abbrev pub slot_number : Slot → ℕ
slot_number s = slot_of (type_number s.declared) (type_number s.current)

-- `this` where there is none.
abbrev pub this_number : Option Slot → ℕ
this_number none = slot_of absent absent
this_number (some s) = slot_number s

-- The numbers of an environment's slots, slot 0 first.
unfoldable pub numbers : Environment → List ℕ
numbers γ = this_number γ.this ∷ map slot_number γ.slots
