-- Methods by number while the heading pass enters them: a method's number is how many come before it.
use Rattle.std.specs.Prelude.{◌≡◌, ℕ, ◌+◌, ◌-◌, ◌*◌, ◌≤◌, ◌<◌, List, length, take, get_or, eqb}
use Rattle.std.proofs.Math.Option.{Option, some}
use Rattle.language.specs.Lists.{nth, given, choice, map_option}
use Rattle.language.specs.Tree.{Declaration, heading_lines, Class}
use Rattle.language.specs.Effects.{effect_of_all}
use Rattle.language.specs.Program.{methods_of, declared_place}
use Rattle.language.specs.MethodTables.{PlacedMethod, placed_methods, method_width, owner_place}
use Rattle.language.specs.MethodTables.{parameters_place, body_place}

-- A method takes at least three rows of four numbers each: its M line, its B line and a node. So a program of at most
-- 60,000 rows has at most 20,000 methods.
abbrev pub numbers_a_method : ℕ
numbers_a_method = 12

abbrev pub most_methods : ℕ
most_methods = 20000

-- The number of the first method of class k, if it has one.
unfoldable pub first_number : List Class → ℕ → ℕ
first_number P k = length (methods_of (take (k - 1) P))

-- A method of class k whose M line is row r.
abbrev pub placed : Declaration → ℕ → ℕ → PlacedMethod
placed m k r = record { declaration = m; owner = k; row = r }

-- The numbers of methods by name: of those that a class declares, the first of them having a given number;
-- those of the class itself, else others; one more besides others.
abbrev pub own_number : ℕ → List Declaration → ℕ → Option ℕ
own_number first ds m = map_option (λ i. first + i) (declared_place ds m)

abbrev pub own_or : (ℕ → Option ℕ) → (ℕ → Option ℕ) → ℕ → Option ℕ
own_or own others m = given (own m) (others m) λ n. some n

abbrev pub with_number : ℕ → ℕ → (ℕ → Option ℕ) → ℕ → Option ℕ
with_number name n others m = choice (eqb name m) (λ _. some n) (λ _. others m)

-- The tables of methods M and of effects F are long enough and hold the methods whose numbers are below n.
pub record Numbered (P : List Class) (M F : List ℕ) (n : ℕ) : Type 0 where
  pub long : length (placed_methods P) * method_width ≤ length M
  pub long_effects : length (placed_methods P) ≤ length F
  pub rows : (i : ℕ) (m : PlacedMethod) → i < n → nth (placed_methods P) i ≡ some m
      → get_or M (i * method_width) 0 ≡ m.row
  pub owners : (i : ℕ) (m : PlacedMethod) → i < n → nth (placed_methods P) i ≡ some m
      → get_or M (i * method_width + owner_place) 0 ≡ m.owner
  pub parameters : (i : ℕ) (m : PlacedMethod) → i < n → nth (placed_methods P) i ≡ some m
      → get_or M (i * method_width + parameters_place) 0 ≡ length m.declaration.parameters
  pub bodies : (i : ℕ) (m : PlacedMethod) → i < n → nth (placed_methods P) i ≡ some m
      → get_or M (i * method_width + body_place) 0 ≡ m.row + heading_lines m.declaration
  pub effects : (i : ℕ) (m : PlacedMethod) → i < n → nth (placed_methods P) i ≡ some m
      → get_or F i 0 ≡ effect_of_all m.declaration.effects
