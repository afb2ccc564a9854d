-- The tally of a node that is entered. Assumes nothing.
use mathlib.Core.Path.{◌≡◌, ap}
use Prim.Native.Nat.{ℕ, ◌-◌}
use native.Mathlib.Omega.{arith}
use Rattle.objects.specs.declared.Tally.{Tally}
use Rattle.frames.specs.Nodes.{entered}

-- where no fuel is left none is taken
pub entered_none : (n : Tally) → n.left ≡ 0 → entered n ≡ n
entered_none n z =
    let e : n.left - 1 ≡ n.left = omega arith in
    ap (λ (k : ℕ). record { left = k; made = n.made; changes = n.changes }) e
