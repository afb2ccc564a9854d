-- `pricing::write_runs` meets its contract. Assumes nothing.
use Rattle.std.proofs.Common.{arith}
use Rattle.pricing.proofs.Runs.{is_none, writing_skip, writing_fits, writing_step, writing_end}
use Rattle.pricing.proofs.write_runs.Goals as goal

pub loop-i-preserved-in_default : goal.loop-i-preserved-in_default
loop-i-preserved-in_default c = λ price p. writing_skip p (c.loop-i.invariant price p) c.loop-i-test.true (is_none _ c.in_default.not-Some)

pub write_run-at-requires : goal.write_run-at-requires
write_run-at-requires c = writing_fits c.requires.1.1 (c.loop-i.invariant c.requires.1.0 c.requires.1.1) _ _
    c.find_end-end.ensures (omega arith) (omega arith) c.requires.0

pub loop-i-preserved : goal.loop-i-preserved
loop-i-preserved c = λ price p. writing_step p (c.loop-i.invariant price p) _ _ c.find_end-end.ensures (omega arith) _ _
    c.write_run-at.ensures.0 c.write_run-at.ensures.1

pub returns : goal.returns
returns c = let w = c.loop-i.invariant c.requires.1.0 c.requires.1.1 in (
  omega (arith, w.small, w.within),
  λ price p. writing_end p (c.loop-i.invariant price p) c.loop-i-test.false,
)
