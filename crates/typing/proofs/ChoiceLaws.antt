-- Laws of what J answers once its children are typed. Assumes nothing.
use mathlib.Core.Path.{◌≡◌, refl, sym}
use mathlib.Core.List.{List}
use Prim.Native.Nat.{ℕ}
use Rattle.std.specs.Prelude.{Option}
use Rattle.types.specs.declared.Typing.{Typing}
use Rattle.types.specs.declared.Typing.TheVariants.{Bool as Bool_case, Class, Null}
use Rattle.types.specs.Answers.{refused}
use Rattle.types.specs.Tables.{joined_case}
use Rattle.typing.specs.Nodes.{joined_answer, chosen}

pub chosen_other : (T A : List ℕ) (at φ : ℕ) (t u v : Typing) → (t ≡ Bool_case → ⊥)
    → refused 9 at ≡ chosen T A at t φ u v
unfolding chosen
chosen_other T A at φ Bool_case u v k = absurd (k refl)
chosen_other T A at φ (Class c) u v k = refl
chosen_other T A at φ Null u v k = refl

pub chosen_join : (T A : List ℕ) (at φ : ℕ) (t u v : Typing) (w : Option Typing) → t ≡ Bool_case
    → w ≡ joined_case T A u v → joined_answer at φ w ≡ chosen T A at t φ u v
unfolding chosen
chosen_join T A at φ t u v w q e = rw (q, sym e)
