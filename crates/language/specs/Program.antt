-- A program as a list of classes, and what is looked up in it (document 01, "Verdict"; 002, Appendix A).
-- Classes count from 1; 0 is Object. A number that is no class counts as standing right below Object.
use Rattle.std.specs.Prelude.{ℕ, zero, suc, ◌+◌, ◌-◌, Bool, true, false, ◌||◌, List, [], ◌∷◌, ◌++◌, map, length, take, eqb, leb}
use Rattle.std.proofs.Math.Option.{Option, none, some}
use Rattle.language.specs.Limits.{object_class}
use Rattle.language.specs.Lists.{nth, given, choice, map_option}
use Rattle.language.specs.Tree.{DeclaredType, bool, class, Kind, plain, root, state, unknown, Field}
use Rattle.language.specs.Tree.{Declaration, Class, Expr, block, nil}
use Rattle.language.specs.World.{Method, World}
use Rattle.language.specs.Effects.{no_effect, effect_of_all}

abbrev pub is_plain : Kind → Bool
is_plain plain = true
is_plain root = false
is_plain state = false
is_plain (unknown n) = false

abbrev pub is_root : Kind → Bool
is_root plain = false
is_root root = true
is_root state = false
is_root (unknown n) = false

abbrev pub is_state : Kind → Bool
is_state plain = false
is_state root = false
is_state state = true
is_state (unknown n) = false

-- The declaration of a name among those of one class, and its place there, from 0.
unfoldable pub declared : List Declaration → ℕ → Option Declaration
declared [] m = none
declared (d ∷ ds) m = choice (eqb d.name m) (λ _. some d) (λ _. declared ds m)

unfoldable pub declared_place : List Declaration → ℕ → Option ℕ
declared_place [] m = none
declared_place (d ∷ ds) m = choice (eqb d.name m) (λ _. some 0) (λ _. map_option suc (declared_place ds m))

-- The methods of classes, in order.
unfoldable pub methods_of : List Class → List Declaration
methods_of [] = []
methods_of (c ∷ cs) = c.methods ++ methods_of cs

module _ (P : List Class) where
  unfoldable pub class_at : ℕ → Option Class
  class_at zero = none
  class_at (suc k) = nth P k

  unfoldable pub kind_at : ℕ → Option Kind
  kind_at k = given (class_at k) none λ c. some c.kind

  unfoldable pub is_root_class : ℕ → Bool
  is_root_class k = given (class_at k) false λ c. is_root c.kind

  unfoldable pub is_state_type : DeclaredType → Bool
  is_state_type bool = false
  is_state_type (class k) = given (class_at k) false λ c. is_state c.kind

  -- The recursions go up through the superclasses, of which there are fewer than n.
  unfoldable pub fields_at : ℕ → ℕ → List Field
  fields_at zero k = []
  fields_at (suc n) k = given (class_at k) [] λ c. fields_at n c.super ++ c.fields

  -- The number of the method that a class declares under a name: the methods of the classes before it come first.
  unfoldable pub number_at : ℕ → ℕ → ℕ
  number_at k m = length (methods_of (take (k - 1) P))
      + given (class_at k) 0 λ c. given (declared_place c.methods m) 0 λ i. i

  -- What a lookup finds of it, its effect taken from an assignment of effects to methods by number.
  abbrev pub method_of : (ℕ → ℕ) → ℕ → Declaration → Method
  method_of effects k d = record {
    number = number_at k d.name;
    owner = k;
    result = d.result;
    parameters = d.parameters;
    effect = effects (number_at k d.name);
  }

  unfoldable pub method_at : (ℕ → ℕ) → ℕ → ℕ → ℕ → Option Method
  method_at effects zero k m = none
  method_at effects (suc n) k m = given (class_at k) none λ c.
      given (declared c.methods m) (method_at effects n c.super m) λ d. some (method_of effects k d)

  unfoldable pub below_at : ℕ → ℕ → ℕ → Bool
  below_at zero k d = eqb d object_class
  below_at (suc n) k d = eqb k d || given (class_at k) (eqb d object_class) λ c. below_at n c.super d

  unfoldable pub root_at : ℕ → ℕ → ℕ
  root_at zero k = k
  root_at (suc n) k = given (class_at k) k λ c.
      choice (is_state c.kind) (λ _. root_at n c.super) (λ _. k)

  unfoldable pub nearest_at : ℕ → ℕ → ℕ → ℕ
  nearest_at zero k d = object_class
  nearest_at (suc n) k d = choice (below_at (suc d) d k)
      (λ _. k)
      (λ _. given (class_at k) object_class λ c. nearest_at n c.super d)

  unfoldable pub is_changeable : ℕ → Bool
  is_changeable k = given (class_at k) false λ c. is_root c.kind || is_state c.kind

  -- The world of these classes with an assignment of effects to their methods. Bodies and X lines have no part in it.
  unfoldable pub world_with : (ℕ → ℕ) → World
  world_with effects = record {
    count = length P;
    fields = λ k. fields_at (suc k) k;
    method = λ k m. method_at effects (suc k) k m;
    below = λ k d. below_at (suc k) k d;
    root = λ k. root_at (suc k) k;
    changeable = λ k. is_changeable k;
    nearest = λ k d. nearest_at (suc k) k d;
    makes = λ k. leb k (length P);
    effect = effects;
  }

-- Classes as their C, F, M and P lines tell them: bodies and X lines are left out.
abbrev pub no_body : Expr
no_body = block [] nil

abbrev pub heading : Declaration → Declaration
heading d =
    record { result = d.result; name = d.name; parameters = d.parameters; effects = []; body = no_body }

abbrev pub class_heading : Class → Class
class_heading c =
    record { kind = c.kind; super = c.super; fields = c.fields; methods = map heading c.methods }

-- The effects that X lines declare, and the bodies, by the number of their method.
unfoldable pub effect_in : List Class → ℕ → ℕ
effect_in P i = given (nth (methods_of P) i) no_effect λ d. effect_of_all d.effects

unfoldable pub body_in : List Class → ℕ → Expr
body_in P i = given (nth (methods_of P) i) no_body λ d. d.body

-- The world of a program, with the effects that its X lines declare.
unfoldable pub world : List Class → World
world P = world_with P (effect_in P)
