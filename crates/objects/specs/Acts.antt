-- What the acts on objects require and ensure: each is that of the language's definition.
use Rattle.std.specs.Prelude.{◌≡◌, cond, List, ℕ, zero, suc, ◌+◌, ◌-◌, ◌*◌, ◌≤◌, ◌<◌, eqb, leb, length, get_or, drop, ◌⊎◌}
use Rattle.std.specs.Prelude.{Option, None, Some, Result, Ok, Err}
use Rattle.std.proofs.Math.Option.{some}
use Rattle.language.specs.Lists.{nth}
use Rattle.language.specs.Frames.{Frame}
use Rattle.language.specs.Tree.{count, Class}
use Rattle.language.specs.World.{Method}
use Rattle.language.specs.Program.{world, body_in}
use Rattle.language.specs.Encoded.{Encoded}
use Rattle.language.specs.State.{Value as Meaning, object, State, Out}
use Rattle.language.specs.Evaluation.{Limits, do_get, do_set, do_cast}
use Rattle.language.specs.State.{Object as Thing}
use Rattle.language.specs.Evaluation.{do_change, do_new, do_call, with_limits, call_at}
use Rattle.language.specs.Store.{value_number, capacity}
use Rattle.objects.specs.declared.Tally.{Tally}
use Rattle.objects.specs.Values.{Small, SmallOutcome, told, bare, Outcome, Gave, outcome}
use Rattle.objects.specs.Values.{Answer, answer, meaning, no_value}
use Rattle.objects.specs.Holding.{first_value_of, Sound, Holding, view}
use Rattle.language.specs.WellFormed.{BodyInForm}
use Rattle.layout.specs.ProperNodes.{Typed}
use Rattle.language.specs.Limits.{of_check, most_calls, object_width, deep_stop}
use Rattle.language.specs.ClassTables.{class_width, count_place, rows_place, methods_from}
use Rattle.language.specs.MethodTables.{method_width, parameters_place, body_place}

-- ---- numbers written one after the other

-- n numbers from an index on are those of f; the others are as before.
pub record Written (l l' : List ℕ) (from n : ℕ) (f : ℕ → ℕ) : Type 0 where
  pub long : length l' ≡ length l
  pub inside : (i : ℕ) → i < n → get_or l' (from + i) 0 ≡ f i
  pub outside : (x : ℕ) → (x < from) ⊎ (from + n ≤ x) → get_or l' x 0 ≡ get_or l x 0

-- The number of the type of field i of class c, and the stored number of its first value; 0 past the `count` fields.
abbrev pub field_type_in : List ℕ → List ℕ → ℕ → ℕ → ℕ
field_type_in R T c i = get_or R (get_or T (c * class_width + rows_place + i) 0 * 4 + 1) 0

unfoldable pub first_of : List ℕ → List ℕ → ℕ → ℕ → ℕ → ℕ
first_of R T c i count = cond (leb count i) 0 (value_number (first_value_of (field_type_in R T c i)))

pub record First (R T : List ℕ) (c i : ℕ) : Type 0 where
  pub place : i < of_check.fields
  pub table : c * class_width + class_width ≤ length T
  pub row : get_or T (c * class_width + rows_place + i) 0 * 4 + 1 < length R

pub record Fill (R T s : List ℕ) (o c from : ℕ) : Type 0 where
  pub table : c * class_width + class_width ≤ length T
  pub room : o + object_width ≤ length s
  pub start : from ≤ of_check.fields
  pub few : get_or T (c * class_width + count_place) 0 ≤ of_check.fields
  pub rows : (i : ℕ) → i < of_check.fields → i < get_or T (c * class_width + count_place) 0
      → get_or T (c * class_width + rows_place + i) 0 * 4 + 1 < length R

abbrev pub Filled : List ℕ → List ℕ → List ℕ → List ℕ → ℕ → ℕ → ℕ → Type 0
Filled R T s s' o c from =
    Written s s' (o + 1 + from) (object_width - 1 - from)
    (λ i. first_of R T c (from + i) (get_or T (c * class_width + count_place) 0))

-- ---- acts on the store

-- What becomes of the store.
pub record Stored (P : List Class) (s s' : List ℕ) (made made' : ℕ) : Type 0 where
  pub long : length s' ≡ length s
  pub rest : drop (made' * object_width) s' ≡ drop (made' * object_width) s
  pub more : made ≤ made'
  pub sound : Sound P made' s'

-- An act on objects is that of the definition, whatever the slots and the steps.
pub record Acts (P : List Class) (s s' : List ℕ) (n : Tally) (r : Answer) (o : State → Out Meaning) : Type 0
  where
    pub stored : Stored P s s' n.made r.counts.made
    pub left : r.counts.left ≡ n.left
    pub changed : r.counts.changes ≤ n.changes + 1
    pub small : SmallOutcome r.outcome
    pub is : (γ : Frame Meaning) (steps : ℕ)
        → told r.outcome (view P s' r.counts γ steps) ≡ bare (o (view P s n γ steps))

pub record PreNew (R T s : List ℕ) (c made : ℕ) : Type 0 where
  pub E : List ℕ
  pub A : List ℕ
  pub M : List ℕ
  pub P : List Class
  pub holding : Holding R E T A M s P made
  pub declared : c ≤ length P

pub record PostNew (R T s s' : List ℕ) (c : ℕ) (n : Tally) (r : Answer) : Type 0 where
  pub acts : (w : PreNew R T s c n.made) (F : ℕ)
      → Acts w.P s s' n r (λ t. do_new (world w.P) (with_limits F (capacity s)) c t)

-- A word of a value.
pub record IsWord (w : ℕ) : Type 0 where
  pub short : w < no_value
  pub small : Small (meaning w)

pub record PreChange (R T s : List ℕ) (w d : ℕ) (n : Tally) : Type 0 where
  pub new : PreNew R T s d n.made
  pub is_word : IsWord w
  pub counted : n.changes + 1 ≤ 4294967295

pub record PostChange (R T s s' : List ℕ) (v : Meaning) (d : ℕ) (n : Tally) (r : Answer) : Type 0 where
  pub acts : (w : PreNew R T s d n.made) → Acts w.P s s' n r (λ t. do_change (world w.P) d v t)

pub record PreObject (T s : List ℕ) (made : ℕ) : Type 0 where
  pub R : List ℕ
  pub E : List ℕ
  pub A : List ℕ
  pub M : List ℕ
  pub P : List Class
  pub holding : Holding R E T A M s P made

-- Where the class and the fields of the object at an index are, by the name of one.
pub record Spot (T s : List ℕ) (o f : ℕ) : Type 0 where
  pub class : get_or s o 0 * class_width + class_width ≤ length T
  pub room : o + object_width ≤ length s
  pub name : f < 256
  pub place : get_or T (get_or s o 0 * class_width + f) 0 ≤ of_check.fields

-- The index of a field, if the class has it.
unfoldable pub field_index : List ℕ → List ℕ → ℕ → ℕ → Option ℕ
field_index T s o f = let p = get_or T (get_or s o 0 * class_width + f) 0 in cond (eqb p 0) None (Some (o + p))

pub record PostLoad (T s : List ℕ) (v : Meaning) (f : ℕ) (n : Tally) (r : Outcome) : Type 0 where
  pub acts : (w : PreObject T s n.made) → Acts w.P s s n (answer r n) (λ t. do_get (world w.P) f v t)

pub record PostSave (T s s' : List ℕ) (v v' : Meaning) (f : ℕ) (n : Tally) (r : Outcome) : Type 0 where
  pub acts : (w : PreObject T s n.made)
      → Acts w.P s s' n (answer r n) (λ t. do_set (world w.P) f v v' t)

pub record PreCast (A s : List ℕ) (c made : ℕ) : Type 0 where
  pub R : List ℕ
  pub E : List ℕ
  pub T : List ℕ
  pub M : List ℕ
  pub P : List Class
  pub holding : Holding R E T A M s P made
  pub declared : c ≤ length P

pub record PostCast (A s : List ℕ) (v : Meaning) (c : ℕ) (n : Tally) (r : Outcome) : Type 0 where
  pub acts : (w : PreCast A s c n.made)
      → Acts w.P s s n (answer r n) (λ t. do_cast (world w.P) c v t)

-- ---- methods

-- The first row, from a row on, whose letter has code x.
pub record LetterFrom (R : List ℕ) (x row found : ℕ) : Type 0 where
  pub later : row ≤ found
  pub short : found * 4 < length R
  pub between : (i : ℕ) → row ≤ i → i < found → get_or R (i * 4) 0 ≡ x → ⊥
  pub letter : get_or R (found * 4) 0 ≡ x

pub record SomeLetter (R : List ℕ) (x row : ℕ) : Type 0 where
  pub found : ℕ
  pub from : LetterFrom R x row found

pub record PreFind (T M s : List ℕ) (m made : ℕ) : Type 0 where
  pub R : List ℕ
  pub E : List ℕ
  pub A : List ℕ
  pub P : List Class
  pub holding : Holding R E T A M s P made
  pub name : m < 256

-- The tables of classes and of methods reach what they have of method m of class c.
pub record MethodsOf (T M : List ℕ) (c m : ℕ) : Type 0 where
  pub table : c * class_width + class_width ≤ length T
  pub name : m < 256
  pub methods : (i : ℕ) → get_or T (c * class_width + methods_from + m) 0 ≡ suc i
      → i * method_width + method_width ≤ length M

-- What the tables tell of a call of method m on an object of class c: the row where the body begins, or an outcome.
abbrev pub allowed_in : List ℕ → ℕ → ℕ → ℕ → Result ℕ ℕ
allowed_in M i given calls =
    cond (eqb (get_or M (i * method_width + parameters_place) 0) given)
    (cond (leb most_calls calls) (Err (no_value + deep_stop))
    (Ok (get_or M (i * method_width + body_place) 0)))
    (Err no_value)

abbrev pub target_at : List ℕ → ℕ → ℕ → ℕ → Result ℕ ℕ
target_at M zero given calls = Err no_value
target_at M (suc i) given calls = allowed_in M i given calls

unfoldable pub target_in : List ℕ → List ℕ → ℕ → ℕ → ℕ → ℕ → Result ℕ ℕ
target_in T M c m given calls = target_at M (get_or T (c * class_width + methods_from + m) 0) given calls

-- The method found, which has as many parameters as there are arguments: its receiver's object, and its body, which is in
-- form and typed.
pub record Found (R E s : List ℕ) (P : List Class) (v : Meaning) (m given : ℕ) (n : Tally) (calls b : ℕ) :
    Type 0 where
  pub j : ℕ
  pub o : Thing
  pub M : Method
  pub receiver : v ≡ object j
  pub known : (γ : Frame Meaning) (steps : ℕ) → nth (view P s n γ steps).heap j ≡ some o
  pub method : (world P).method o.class_of m ≡ some M
  pub parameters : given ≡ length M.parameters
  pub encoded : Encoded R E (body_in P M.number) b
  pub in_form : BodyInForm of_check (1 + given) (body_in P M.number)
  pub typed : Typed P (body_in P M.number)
  pub allowed : calls < most_calls

pub record NotFound (P : List Class) (s : List ℕ) (v : Meaning) (m given : ℕ) (n : Tally) (calls : ℕ)
    (r : Outcome) : Type 0 where
  pub small : SmallOutcome r
  pub is : (L : Limits) (vs : List Meaning) (γ : Frame Meaning) (steps : ℕ) → length vs ≡ given
      → told r (view P s n γ steps)
      ≡ bare (do_call (world P) L (λ M s. call_at (world P) L (body_in P) (most_calls - calls) M s) m
      v
      vs (view P s n γ steps))
  pub fails : (w : Meaning) → r ≡ Gave w → ⊥

abbrev pub FindIs : List ℕ → List ℕ → List ℕ → List Class → Meaning → ℕ → ℕ → Tally → ℕ → Result ℕ ℕ → Type 0
FindIs R E s P v m given n calls (Ok b) = Found R E s P v m given n calls b
FindIs R E s P v m given n calls (Err o) = NotFound P s v m given n calls (outcome o)

pub record PostFind (T M s : List ℕ) (v : Meaning) (m given : ℕ) (n : Tally) (calls : ℕ) (r : Result ℕ ℕ) :
    Type 0
  where
    pub is : (w : PreFind T M s m n.made) → FindIs w.R w.E s w.P v m given n calls r
