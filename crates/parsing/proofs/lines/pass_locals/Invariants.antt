-- V lines: between two of them, what is left to read tells of the whole. Assumes nothing.
use Prim.Native.Nat.{◌+◌, ◌-◌}
use Rattle.parsing.proofs.LineLaws.{Declaring}
use Rattle.parsing.proofs.lines.pass_locals.Given as goal

abbrev pub invariant-loop-n : goal.invariant-loop-n
invariant-loop-n l = Declaring l.limits l.rows l.initial.ends l.ends l.at l.count l.slots (l.at + l.n)
    (l.count - l.n) (l.slots + l.n)
