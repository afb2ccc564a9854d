-- What the tables of a program's methods hold, by the number of a method. The heading pass fills them; typing, translation
-- and evaluation read them. A row is counted from 0.
-- Method i has the numbers from i · 4 on in the table of methods: the row of its M line, the class that declares it, how
-- many parameters it has, and the row of its body. The table of effects has its effect as a set.
use Rattle.std.specs.Prelude.{◌≡◌, ℕ, suc, ◌+◌, ◌*◌, ◌≤◌, List, [], ◌∷◌, ◌++◌, length, get_or}
use Rattle.std.proofs.Math.Option.{some}
use Rattle.language.specs.Lists.{nth}
use Rattle.language.specs.Tree.{Declaration, heading_lines, method_lines, Class, class_lines}
use Rattle.language.specs.Effects.{effect_of_all}

-- A method where it stands: its declaration, the class that declares it, the row of its M line.
pub record PlacedMethod : Type 0 where
  pub declaration : Declaration
  pub owner : ℕ
  pub row : ℕ

-- The methods of class k, of which the first stands at row r.
unfoldable pub placed_in : ℕ → ℕ → List Declaration → List PlacedMethod
placed_in k r [] = []
placed_in k r (d ∷ ds) = record { declaration = d; owner = k; row = r } ∷ placed_in k (r + method_lines d) ds

-- The methods of the classes from number k on, of which the first stands at row r.
unfoldable pub placed_from : ℕ → ℕ → List Class → List PlacedMethod
placed_from k r [] = []
placed_from k r (c ∷ cs) =
    placed_in k (r + 1 + length c.fields) c.methods ++ placed_from (suc k) (r + class_lines c) cs

-- The methods of a program, in order: method i stands at place i.
unfoldable pub placed_methods : List Class → List PlacedMethod
placed_methods P = placed_from 1 0 P

abbrev pub method_width : ℕ
method_width = 4

abbrev pub owner_place : ℕ
owner_place = 1

abbrev pub parameters_place : ℕ
parameters_place = 2

abbrev pub body_place : ℕ
body_place = 3

-- The tables of methods M and of effects F hold the methods of a list of classes.
pub record MethodTables (P : List Class) (M F : List ℕ) : Type 0 where
  pub long : length (placed_methods P) * method_width ≤ length M
  pub long_effects : length (placed_methods P) ≤ length F
  pub rows : (i : ℕ) (m : PlacedMethod) → nth (placed_methods P) i ≡ some m
      → get_or M (i * method_width) 0 ≡ m.row
  pub owners : (i : ℕ) (m : PlacedMethod) → nth (placed_methods P) i ≡ some m
      → get_or M (i * method_width + owner_place) 0 ≡ m.owner
  pub parameters : (i : ℕ) (m : PlacedMethod) → nth (placed_methods P) i ≡ some m
      → get_or M (i * method_width + parameters_place) 0 ≡ length m.declaration.parameters
  pub bodies : (i : ℕ) (m : PlacedMethod) → nth (placed_methods P) i ≡ some m
      → get_or M (i * method_width + body_place) 0 ≡ m.row + heading_lines m.declaration
  pub effects : (i : ℕ) (m : PlacedMethod) → nth (placed_methods P) i ≡ some m
      → get_or F i 0 ≡ effect_of_all m.declaration.effects
