use mathlib.Core.Path.{◌≡◌}
use Prim.Native.Nat.{ℕ, ◌-◌, ◌*◌, ◌≤◌, ◌<◌}
use lib.ListN.{length, get_or}
use Rattle.objects.proofs.find_letter.Given as goal

abbrev pub invariant-loop-b : goal.invariant-loop-b
invariant-loop-b l = (l.row ≤ l.b) × ((i : ℕ) → l.row ≤ i → i < l.b → get_or l.rows (i * 4) 0 ≡ l.letter → ⊥)

abbrev pub decreases-loop-b : goal.decreases-loop-b
decreases-loop-b l = length l.rows - l.b
