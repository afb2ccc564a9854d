-- `fields::read_digits` meets its contract. Assumes nothing.
use Rattle.std.proofs.Common.{◌≡◌, ◌≤◌, drop, Some}
use Rattle.language.specs.Decimals.{scan}
use Rattle.fields.proofs.read_digits.Given as goal

abbrev pub invariant-loop-b : goal.invariant-loop-b
invariant-loop-b l = (l.value ≤ 65535) × (scan (Some 0) l.s ≡ scan (Some l.value) (drop l.b-index l.s))
