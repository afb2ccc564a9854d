-- Laws of the tests on booleans. Assumes nothing.
use mathlib.Core.Path.{◌≡◌, refl}
use mathlib.Core.Bool.{Bool, true, false, false≢true, ◌&&◌, ◌||◌, not}
use mathlib.Core.Logic.{◌⊎◌, inl, inr}

pub false≢ : {A : Type 0} → ◌≡◌ {A = Bool} false true → A
false≢ e = absurd (false≢true e)

pub and_inv : (a b : Bool) → (a && b) ≡ true → (a ≡ true) × (b ≡ true)
and_inv true b e = (refl, e)
and_inv false b e = false≢ e

pub or_inl : (a b : Bool) → a ≡ true → (a || b) ≡ true
or_inl true b e = refl
or_inl false b e = false≢ e

pub or_inr : (a b : Bool) → b ≡ true → (a || b) ≡ true
or_inr true b e = refl
or_inr false b e = e

pub or_inv : (a b : Bool) → (a || b) ≡ true → (a ≡ true) ⊎ (b ≡ true)
or_inv true b e = inl e
or_inv false b e = inr e

pub not_true : (b : Bool) → not b ≡ true → b ≡ false
not_true true e = false≢ e
not_true false e = refl
