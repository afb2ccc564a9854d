-- What evaluation asks of the world of a plain program, made from that of its source (document 01, "The plain
-- program"): class 1 is Identity, class 2 FickleObject, class k + 2 the plain form of class k.
use mathlib.Core.Path.{◌≡◌, refl}
use Prim.Native.Nat.{ℕ}
use mathlib.Core.Option.{some}
use mathlib.Core.Bool.{true}
use mathlib.Core.List.{List, [], ◌∷◌, map}
use Rattle.language.specs.Limits.{identity_class, fickle_class, imp_field, id_field}
use Rattle.language.specs.Tree.{class, Field, Expr}
use Rattle.language.specs.World.{Method, World, place, is_declared}
use Rattle.language.specs.Effects.{no_effect}
use Rattle.language.specs.Translation.{plain_class, plain_type, plain_field, plain_body}

-- The fields `imp` of Identity and `id` of FickleObject.
abbrev pub imp_of_identity : Field
imp_of_identity = record { type = class fickle_class; name = imp_field }

abbrev pub id_of_implementor : Field
id_of_implementor = record { type = class identity_class; name = id_field }

-- A method of the source as the plain program has it; its number stays.
abbrev pub plain_form : Method → Method
plain_form M = record {
  number = M.number;
  owner = plain_class M.owner;
  result = plain_type M.result;
  parameters = map plain_type M.parameters;
  effect = no_effect;
}

-- The body of every method that a lookup finds is the translation of its source's body.
pub record PlainBodies (W : World) (bodies bodies' : ℕ → Expr) : Type 0 where
  pub each : (k m : ℕ) (M : Method) → W.method k m ≡ some M
      → bodies' M.number ≡ plain_body W M.owner M.parameters (bodies M.number)

-- What evaluation asks of a world for it to be the plain form of another, at the classes that are declared.
pub record IsPlain (W W' : World) : Type 0 where
  pub identity_fields : W'.fields identity_class ≡ imp_of_identity ∷ []
  pub implementor_fields : (k : ℕ) → is_declared W k ≡ true
      → W'.fields (plain_class k) ≡ id_of_implementor ∷ map plain_field (W.fields k)
  pub implementor_method : (k m : ℕ) (M : Method) → is_declared W k ≡ true → W.method k m ≡ some M
      → W'.method (plain_class k) m ≡ some (plain_form M)
  pub implementor_below : (k c : ℕ) → is_declared W k ≡ true
      → W'.below (plain_class k) (plain_class c) ≡ W.below k c

-- A field's plain form stands where the field stands.
pub place_map : (n : ℕ) (fs : List Field) → place n (map plain_field fs) ≡ place n fs
unfolding place
place_map n [] = refl
place_map n (f ∷ fs) = rw (place_map n fs)
