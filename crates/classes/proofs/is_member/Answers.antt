-- `classes::is_member` meets its contract. Assumes nothing.
use mathlib.Core.Path.{ap, ◌∙◌}
use Prim.Native.Nat.{ℕ, ◌/◌, ◌^◌}
use lib.Bits.{bit_and}
use lib.Dec.{eqb}
use Rattle.language.proofs.Effects.{member_mask}
use Rattle.classes.proofs.is_member.Goals as goal

pub returns : goal.returns
returns c = ap (λ (x : ℕ). eqb (bit_and (c.args.set / 2 ^ x) 1) 1) c.place_of.ensures
    ∙ member_mask c.args.set c.args.class
