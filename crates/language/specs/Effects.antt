-- Effects: a set of at most 64 classes is one number, class c at bit c - 1
-- (document 01, "Bodies" and "A form for each place"; 002, section 3.3).
use Rattle.std.specs.Prelude.{ℕ, ◌-◌, ◌/◌, ◌%◌, ◌^◌, Bool, cond, List, [], ◌∷◌, eqb}
use Rattle.std.specs.Int.Bits.{bit_and, bit_or}
use Rattle.language.specs.Tree.{DeclaredType, bool, class, ExprType, known, null_type}
use Rattle.language.specs.World.{World}

abbrev pub no_effect : ℕ
no_effect = 0

-- The set of one class.
unfoldable pub effect_of : ℕ → ℕ
effect_of c = 2 ^ (c - 1)

-- Class c is in the set.
unfoldable pub member : ℕ → ℕ → Bool
member φ c = eqb (φ / 2 ^ (c - 1) % 2) 1

-- The classes of both.
unfoldable pub join : ℕ → ℕ → ℕ
join φ ψ = bit_or φ ψ

-- Every class of the first is in the second.
unfoldable pub within : ℕ → ℕ → Bool
within φ ψ = eqb (bit_and φ ψ) φ

-- The set of the numbers on X lines.
unfoldable pub effect_of_all : List ℕ → ℕ
effect_of_all [] = no_effect
effect_of_all (c ∷ cs) = join (effect_of c) (effect_of_all cs)

module _ (W : World) where
  -- An effect applied: a state class whose root is in it becomes that root.
  -- Any other class is its own root, and stays.
  unfoldable pub apply_class : ℕ → ℕ → ℕ
  apply_class φ c = cond (member φ (W.root c)) (W.root c) c

  abbrev pub apply : ℕ → DeclaredType → DeclaredType
  apply φ bool = bool
  apply φ (class c) = class (apply_class φ c)

  abbrev pub apply_expr : ℕ → ExprType → ExprType
  apply_expr φ (known t) = known (apply φ t)
  apply_expr φ null_type = null_type
