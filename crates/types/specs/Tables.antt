-- What the functions over the tables of classes give, in terms of the tables' numbers.
use Rattle.std.specs.Prelude.{◌≡◌, Bool, false, not, cond, List, ℕ, zero, suc, ◌+◌, ◌*◌, ◌≤◌, ◌<◌, eqb, length, get_or, Option, Some, None}
use Rattle.language.specs.Limits.{bool_number, of_check}
use Rattle.language.specs.Effects.{member}
use Rattle.language.specs.ClassTables.{class_width, super_place, root_place}
use Rattle.classes.specs.Subclasses.{is_below}
use Rattle.types.specs.declared.Typing.{Typing}
use Rattle.types.specs.declared.Typing.TheVariants.{Bool as Bool_case, Class, Null}
use Rattle.types.specs.declared.Typed.{Typed as TypedCase}
use Rattle.types.specs.Answers.{absent, case_number, current_in, with_current}

-- The tables' numbers alone make their use safe: roots and superclasses stand no later than their class.
pub record Sound (T A : List ℕ) (count : ℕ) : Type 0 where
  pub few : count ≤ of_check.classes
  pub long : (count + 1) * class_width ≤ length T
  pub long_above : count + 1 ≤ length A
  pub roots : (k : ℕ) → k ≤ count → get_or T (k * class_width + root_place) 0 ≤ k
  pub supers : (k : ℕ) → 1 ≤ k → k ≤ count → get_or T (k * class_width + super_place) 0 < k

abbrev pub root_in : List ℕ → ℕ → ℕ
root_in T k = get_or T (k * class_width + root_place) 0

unfoldable pub applied : List ℕ → ℕ → ℕ → ℕ
applied T φ k = cond (member φ (root_in T k)) (root_in T k) k

-- Going up from k, with fewer than n superclasses, to a class that d is or stands below.
unfoldable pub nearest_from : List ℕ → List ℕ → ℕ → ℕ → ℕ → ℕ
nearest_from T A zero k d = k
nearest_from T A (suc n) k d =
    cond (is_below A d k) k (nearest_from T A n (get_or T (k * class_width + super_place) 0) d)

unfoldable pub is_fitting : List ℕ → Typing → ℕ → Bool
is_fitting A Bool_case n = eqb n bool_number
is_fitting A (Class c) n = cond (eqb n bool_number) false (is_below A c n)
is_fitting A Null n = not (eqb n bool_number)

-- The number of a class, of bool, or of what is absent.
pub data Known (count : ℕ) : ℕ → Type 0 where
  a_class : {n : ℕ} → n ≤ count → Known count n
  a_bool : Known count bool_number
  an_absence : Known count absent

unfoldable pub applied_number : List ℕ → ℕ → ℕ → ℕ
applied_number T φ n = cond (eqb n bool_number) n (cond (eqb n absent) n (applied T φ n))

unfoldable pub joined_number : List ℕ → List ℕ → ℕ → ℕ → ℕ
joined_number T A a b =
    cond (eqb a bool_number) a (cond (eqb a absent) a (cond (eqb b bool_number) a
    (cond (eqb b absent) a (nearest_from T A (suc a) a b))))

-- A slot after an effect, and after two arms: its current type alone changes.
unfoldable pub applied_slot : List ℕ → ℕ → ℕ → ℕ
applied_slot T φ n = with_current n (applied_number T φ (current_in n))

unfoldable pub joined_slot : List ℕ → List ℕ → ℕ → ℕ → ℕ
joined_slot T A a b = with_current a (joined_number T A (current_in a) (current_in b))

-- A class case names a class below n; a type's number is bool's or a class's up to n.
abbrev pub CaseIn : ℕ → Typing → Type 0
CaseIn n Bool_case = Unit {0}
CaseIn n (Class c) = c < n
CaseIn n Null = Unit {0}

pub record PreNearest (T A : List ℕ) (c d : ℕ) : Type 0 where
  pub count : ℕ
  pub sound : Sound T A count
  pub first : c ≤ count
  pub second : d ≤ count

pub record Applicable (T : List ℕ) (n : ℕ) : Type 0 where
  pub inside : (n ≡ bool_number → ⊥) → (n ≡ absent → ⊥) → n * class_width + root_place < length T
  pub root : (n ≡ bool_number → ⊥) → (n ≡ absent → ⊥) → root_in T n ≤ of_check.classes

-- The first n slots are as f says, and the others as before.
pub record Changed (S S' : List ℕ) (n : ℕ) (f : ℕ → ℕ) : Type 0 where
  pub long : length S' ≡ length S
  pub below : (k : ℕ) → k < n → get_or S' k 0 ≡ f k
  pub rest : (k : ℕ) → n ≤ k → get_or S' k 0 ≡ get_or S k 0

-- The first n slots stand from `top` on too.
pub record Saved (S S' : List ℕ) (top n : ℕ) : Type 0 where
  pub long : length S' ≡ length S
  pub copied : (k : ℕ) → k < n → get_or S' (top + k) 0 ≡ get_or S k 0
  pub below : (k : ℕ) → k < top → get_or S' k 0 ≡ get_or S k 0

-- The first n slots and those from `top` on have changed places.
pub record Swapped (S S' : List ℕ) (top n : ℕ) : Type 0 where
  pub long : length S' ≡ length S
  pub first : (k : ℕ) → k < n → get_or S' k 0 ≡ get_or S (top + k) 0
  pub second : (k : ℕ) → k < n → get_or S' (top + k) 0 ≡ get_or S k 0
  pub between : (k : ℕ) → n ≤ k → k < top → get_or S' k 0 ≡ get_or S k 0

pub record PreJoin (T A S : List ℕ) (n top : ℕ) : Type 0 where
  pub count : ℕ
  pub sound : Sound T A count
  pub apart : n ≤ top
  pub room : top + n ≤ length S
  pub slots : (k : ℕ) → k < n → Known count (current_in (get_or S k 0))
  pub saved : (k : ℕ) → k < n → Known count (current_in (get_or S (top + k) 0))

pub record PreNumbers (T A : List ℕ) (a b : ℕ) : Type 0 where
  pub count : ℕ
  pub sound : Sound T A count
  pub first : Known count a
  pub second : Known count b

-- The numbers of the n types from `top` on after an argument's effect, then the number of its own type.
pub record PostStore (T S S' : List ℕ) (top n : ℕ) (r : TypedCase) : Type 0 where
  pub long : length S' ≡ length S
  pub below : (k : ℕ) → k < top → get_or S' k 0 ≡ get_or S k 0
  pub waiting : (k : ℕ) → k < n → get_or S' (top + k) 0 ≡ applied_number T r.effect (get_or S (top + k) 0)
  pub last : get_or S' (top + n) 0 ≡ case_number r.typing

-- The type of two arms, where they have one.
unfoldable pub joined_case : List ℕ → List ℕ → Typing → Typing → Option Typing
joined_case T A Bool_case Bool_case = Some Bool_case
joined_case T A Bool_case (Class d) = None
joined_case T A Bool_case Null = None
joined_case T A (Class c) Bool_case = None
joined_case T A (Class c) (Class d) = Some (Class (nearest_from T A (suc c) c d))
joined_case T A (Class c) Null = Some (Class c)
joined_case T A Null Bool_case = None
joined_case T A Null (Class d) = Some (Class d)
joined_case T A Null Null = Some Null

abbrev pub BothClasses : List ℕ → List ℕ → Typing → Typing → Type 0
BothClasses T A (Class c) (Class d) = PreNearest T A c d
BothClasses T A (Class c) Bool_case = Unit {0}
BothClasses T A (Class c) Null = Unit {0}
BothClasses T A Bool_case u = Unit {0}
BothClasses T A Null u = Unit {0}

-- A row is within the rows, and its number fits a line's.
abbrev pub In_row : List ℕ → ℕ → Type 0
In_row R at = (at * 4 + 3 < length R) × (at < 65536)
