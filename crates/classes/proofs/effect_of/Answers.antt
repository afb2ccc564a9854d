-- `classes::effect_of` meets its contract. Assumes nothing.
use mathlib.Core.Path.{ap, ◌∙◌}
use Prim.Native.Nat.{ℕ}
use native.Mathlib.Omega.{arith}
use Rattle.language.proofs.Effects.{one_shifted}
use Rattle.language.specs.Effects.{effect_of}
use Prim.Native.Nat.{◌^◌}
use Rattle.classes.proofs.effect_of.Goals as goal

pub returns : goal.returns
unfolding effect_of
returns c = one_shifted c.place_of.result (omega (arith, c.place_of.ensures))
    ∙ ap (λ (k : ℕ). 2 ^ k) c.place_of.ensures
