-- A program as its users look things up in it: typing, evaluation and translation take it in this form.
-- (002, Appendix A: 𝓕s, 𝓜, 𝓡, the subclass relation and ⊔.)
use Rattle.std.specs.Prelude.{ℕ, suc, Bool, true, List, [], ◌∷◌, eqb, leb}
use Rattle.std.proofs.Math.Option.{Option, none, some}
use Rattle.language.specs.Lists.{nth, bind_option, choice}
use Rattle.language.specs.Tree.{DeclaredType, bool, class, Field}

-- A method as a lookup finds it: its number, which is how many methods stand before it in the program; the class that
-- declares it; result and parameters; its effect as a set.
pub record Method : Type 0 where
  pub number : ℕ
  pub owner : ℕ
  pub result : DeclaredType
  pub parameters : List DeclaredType
  pub effect : ℕ

pub record World : Type 0 where
  pub count : ℕ  -- classes declared
  pub fields : ℕ → List Field  -- of a class, its superclass's first
  pub method : ℕ → ℕ → Option Method  -- of a class, by name
  pub below : ℕ → ℕ → Bool  -- one class is the other or below it
  pub root : ℕ → ℕ  -- of a state class its nearest root; of any other itself
  pub changeable : ℕ → Bool  -- a root or state class
  pub nearest : ℕ → ℕ → ℕ  -- the nearest common superclass
  pub makes : ℕ → Bool  -- W may make an object of it
  pub effect : ℕ → ℕ  -- of a method, by its number

-- The place of the field of a name, from 0.
unfoldable pub place : ℕ → List Field → Option ℕ
place n [] = none
place n (f ∷ fs) = choice (eqb f.name n) (λ _. some 0) (λ _. bind_option (place n fs) λ i. some (suc i))

-- The type of the field of a name.
unfoldable pub field_type : ℕ → List Field → Option DeclaredType
field_type n fs = bind_option (place n fs) λ i. bind_option (nth fs i) λ f. some f.type

module _ (W : World) where
  -- A class that the program declares; Object, 0, is always there.
  abbrev pub is_declared : ℕ → Bool
  is_declared c = leb c W.count

  abbrev pub is_declared_type : DeclaredType → Bool
  is_declared_type bool = true
  is_declared_type (class c) = is_declared c
