-- When the labels of a run can be counted, and how many of its objects count for a class (document 02, §1):
-- the words in which the demands on counts are stated.
use Rattle.std.specs.Prelude.{◌≡◌, ◌↔◌, ◌⊎◌, ◌≢◌, ℕ, suc, ◌*◌, ◌≤◌, ◌<◌, List, [], ◌∷◌, length, get_or}
use Rattle.language.specs.Limits.{object_class, object_width}
use Rattle.language.specs.Tree.{Class, Program}
use Rattle.language.specs.ClassRelations.{Subclass}
use Rattle.language.specs.WellFormed.{RowsOf}

-- The class that object j of a store, from 0, ended in: the first of its numbers.
abbrev pub ended_in : List ℕ → ℕ → ℕ
ended_in store j = get_or store (object_width * j) 0

-- Class c is declared. Object is not.
pub record IsDeclared (P : List Class) (c : ℕ) : Type 0 where
  pub not_object : c ≢ object_class
  pub within : c ≤ length P

-- A run of rows that made n objects and left this store can be counted for two classes: its rows are those
-- of a well-formed program that declares both, spoiled strictly below printed; the store holds n objects, and
-- each of them ended in Object or in a class that the program declares.
pub record Serves (rows store : List ℕ) (n printed spoiled : ℕ) : Type 0 where
  pub program : Program
  pub rows_of_it : RowsOf rows program
  pub printed_declared : IsDeclared program.classes printed
  pub spoiled_declared : IsDeclared program.classes spoiled
  pub below : Subclass program.classes spoiled printed
  pub strictly : spoiled ≢ printed
  pub held : object_width * n ≤ length store
  pub known : (j : ℕ) → j < n
      → (ended_in store j ≡ object_class) ⊎ IsDeclared program.classes (ended_in store j)

-- Places in strictly rising order, none below the least.
pub data Rising : ℕ → List ℕ → Type 0 where
  rising_nil : {least : ℕ} → Rising least []
  rising_cons : {least j : ℕ} {js : List ℕ} → least ≤ j → Rising (suc j) js → Rising least (j ∷ js)

-- A place is one of a list.
pub data OneOf (j : ℕ) : List ℕ → Type 0 where
  here : {js : List ℕ} → OneOf j (j ∷ js)
  later : {i : ℕ} {js : List ℕ} → OneOf j js → OneOf j (i ∷ js)

-- So many of the first n objects of a store count for class d: exactly those that ended in it or below it,
-- each listed once, by its place.
pub record CountsFor (P : List Class) (store : List ℕ) (n d count : ℕ) : Type 0 where
  pub places : List ℕ
  pub rising : Rising 0 places
  pub as_many : length places ≡ count
  pub exactly : (j : ℕ) → OneOf j places ↔ ((j < n) × Subclass P (ended_in store j) d)
