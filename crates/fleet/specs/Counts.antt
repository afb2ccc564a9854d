-- The labels of one ended run, counted by the class they ended in (document 02, §1: "An object counts for a class if
-- it ended in it or below it. Spoiled lies strictly below printed"); from the store of the run, or through the
-- Identities of the store that its plain run left.
use Rattle.std.specs.Prelude.{Bool, true, ◌&&◌, cond, not, List, [], ◌∷◌, ℕ, zero, suc, ◌-◌, ◌*◌, ◌/◌, eqb, leb, ltb, length, get_or, drop}
use Rattle.std.specs.Prelude.{Result, Ok, Err}
use Rattle.std.proofs.Math.Option.{Option, none, some}
use Rattle.language.specs.Limits.{object_width, object_class, identity_class, fickle_class}
use Rattle.language.specs.Lists.{choice, bind_option, map_option}
use Rattle.language.specs.Results.{Checked, accept, refuse}
use Rattle.language.specs.Tree.{Program}
use Rattle.language.specs.World.{World}
use Rattle.language.specs.Program.{world}
use Rattle.language.specs.Verdict.{check}
use Rattle.language.specs.Refusals.{refusal}
use Rattle.language.specs.declared.Refusal.{Refusal}
use Rattle.fleet.specs.declared.Labels.{Labels}

-- The refusal of a run whose program, classes or store do not serve.
abbrev pub class_refusal : ℕ
class_refusal = 18

-- A run by itself is the first of its fleet.
abbrev pub first_place : ℕ
first_place = 1

-- The labels printed, those that were spoiled afterwards among them.
pub record Counts : Type 0 where
  pub printed : ℕ
  pub spoiled : ℕ

-- A program declares a class; Object is declared by none.
abbrev pub is_declared : World → ℕ → Bool
is_declared W c = ltb object_class c && leb c W.count

-- It declares both classes, and spoiled lies strictly below printed.
abbrev pub relates : World → ℕ → ℕ → Bool
relates W printed spoiled =
    is_declared W printed &&
    (is_declared W spoiled && (not (eqb spoiled printed) && W.below spoiled printed))

-- It lacks no class of these but Object.
unfoldable pub knows_all : World → List ℕ → Bool
knows_all W [] = true
knows_all W (c ∷ cs) = leb c W.count && knows_all W cs

-- How many of these classes are class d or stand below it.
unfoldable pub count_below : World → ℕ → List ℕ → ℕ
count_below W d [] = 0
count_below W d (c ∷ cs) = cond (W.below c d) (suc (count_below W d cs)) (count_below W d cs)

-- The labels among objects that ended in these classes; none where the program does not serve.
abbrev pub labels_of : World → ℕ → ℕ → List ℕ → Option Counts
labels_of W printed spoiled cs = choice (relates W printed spoiled && knows_all W cs)
    (λ _. some (record { printed = count_below W printed cs; spoiled = count_below W spoiled cs }))
    (λ _. none)

-- The classes that the first n objects of a store ended in: the first number of each.
unfoldable pub classes_in : ℕ → List ℕ → List ℕ
classes_in zero store = []
classes_in (suc n) store = get_or store 0 0 ∷ classes_in n (drop object_width store)

-- A store holds n objects.
abbrev pub holds_objects : ℕ → List ℕ → Bool
holds_objects n store = leb n (length store / object_width)

-- The labels of a checked program's objects.
abbrev pub labels_checked : Checked Program → ℕ → ℕ → List ℕ → Option Counts
labels_checked (accept p) printed spoiled cs = labels_of (world p.classes) printed spoiled cs
labels_checked (refuse n l) printed spoiled cs = none

-- The labels of a run of rows that made `objects` objects and left this store. What the store holds beyond them is ignored.
unfoldable pub run_counts : List ℕ → List ℕ → ℕ → ℕ → ℕ → Option Counts
run_counts rows store n printed spoiled = choice (holds_objects n store)
    (λ _. labels_checked (check rows) printed spoiled (classes_in n store))
    (λ _. none)

-- The first n objects of a plain store. A value is 2 + j for the j-th object made, from 1; an implementor of class k has
-- class k + 2 in the plain program.
module _ (n : ℕ) (store : List ℕ) where
  -- The value is an object among them.
  abbrev pub is_made : ℕ → Bool
  is_made v = leb 3 v && ltb (v - 3) n

  -- The class of that object.
  abbrev pub class_of_value : ℕ → ℕ
  class_of_value v = get_or store (object_width * (v - 3)) 0

  -- The class in the source of the implementor that the value is; none where it is no implementor.
  abbrev pub implemented : ℕ → Option ℕ
  implemented v = choice (is_made v && leb fickle_class (class_of_value v))
      (λ _. some (class_of_value v - fickle_class))
      (λ _. none)

  -- For each Identity among the next k objects, in order, the class of the implementor in its `imp`, its first field.
  unfoldable pub through_next : ℕ → List ℕ → Option (List ℕ)
  through_next zero rest = some []
  through_next (suc k) rest = choice (eqb (get_or rest 0 0) identity_class)
      (λ _. bind_option (implemented (get_or rest 1 0)) λ c.
      map_option (λ cs. c ∷ cs) (through_next k (drop object_width rest)))
      (λ _. through_next k (drop object_width rest))

-- The classes that the labels of the source ended in, as the first n objects of a plain store have them.
unfoldable pub classes_through : ℕ → List ℕ → Option (List ℕ)
classes_through n store = through_next n store n store

-- The labels of a run of rows, counted through the store that a run of their plain program left with `objects` objects.
unfoldable pub counts_through : List ℕ → List ℕ → ℕ → ℕ → ℕ → Option Counts
counts_through rows store n printed spoiled = choice (holds_objects n store)
    (λ _. bind_option (classes_through n store) λ cs. labels_checked (check rows) printed spoiled cs)
    (λ _. none)

-- The labels as counting answers them.
abbrev pub labels : ℕ → ℕ → Labels
labels printed spoiled = record { printed = printed; spoiled = spoiled }

-- What counting a run by itself answers.
abbrev pub count_told : Option Counts → Result Labels Refusal
count_told (some c) = Ok (labels c.printed c.spoiled)
count_told none = Err (refusal class_refusal first_place)
