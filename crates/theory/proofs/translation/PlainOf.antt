-- Which worlds are those of a plain program: their lookups are the source's, as far as plain programs use
-- them. A number that is no class stands right below Object in each program, so the plain number of one is
-- set apart.
use mathlib.Core.Path.{◌≡◌, ap, ◌∙◌}
use Prim.Native.Nat.{ℕ}
use mathlib.Core.Bool.{true, false}
use mathlib.Core.List.{[], ◌∷◌, map}
use Rattle.language.specs.Limits.{identity_class}
use Rattle.language.specs.Lists.{map_option}
use Rattle.language.specs.World.{World, is_declared}
use Rattle.language.specs.Translation.{plain_class, plain_field}
use Rattle.theory.proofs.translation.PlainWorld.{imp_of_identity, id_of_implementor, plain_form, IsPlain}

pub record PlainOf (W W' : World) : Type 0 where
  pub count : W'.count ≡ plain_class W.count
  pub identity_fields : W'.fields identity_class ≡ imp_of_identity ∷ []
  pub fields : (c : ℕ) → is_declared W c ≡ true
      → W'.fields (plain_class c) ≡ id_of_implementor ∷ map plain_field (W.fields c)
  pub method : (c m : ℕ) → W'.method (plain_class c) m ≡ map_option plain_form (W.method c m)
  pub below : (c d : ℕ) → is_declared W c ≡ true → W'.below (plain_class c) (plain_class d) ≡ W.below c d
  pub below_identity : W'.below identity_class identity_class ≡ true
  pub root : (c : ℕ) → W'.root c ≡ c
  pub changeable : (c : ℕ) → W'.changeable c ≡ false
  pub nearest : (c d : ℕ) → is_declared W c ≡ true → is_declared W d ≡ true
      → W'.nearest (plain_class c) (plain_class d) ≡ plain_class (W.nearest c d)
  pub makes : (c : ℕ) → is_declared W' c ≡ true → W'.makes c ≡ true
  pub nearest_same : (c : ℕ) → W'.nearest c c ≡ c

-- Evaluation finds there what it asks of the plain form of a world.
pub plain_of_is_plain : (W W' : World) → PlainOf W W' → IsPlain W W'
plain_of_is_plain W W' 𝓟 = record {
  identity_fields = 𝓟.identity_fields;
  implementor_fields = λ k d. 𝓟.fields k d;
  implementor_method = λ k m M d e. 𝓟.method k m ∙ ap (map_option plain_form) e;
  implementor_below = λ k c d. 𝓟.below k c d;
}
