-- What is emitted is written, and lines of the source are passed. Assumes nothing.
use mathlib.Core.Path.{◌≡◌}
use mathlib.Core.List.{List}
use Prim.Native.Nat.{ℕ, ◌+◌}
use Rattle.emitters.specs.Writing.{Written}
use Rattle.plain.specs.Emission.{Emitted}
use Rattle.emitters.proofs.Writing.{written_as}

pub whole : {xs ys O O' : List ℕ} {l p a q b : ℕ} → Written ys O O' p q → ys ≡ xs → b ≡ a + l
    → Emitted xs l O O' p a q b
whole w e r = record { written = written_as w e; passed = r }
