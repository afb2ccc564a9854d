-- `pricing::write_run` meets its contract. Assumes nothing.
use Rattle.std.proofs.Common.{arith}
use Rattle.prices.proofs.Runs.{line_long}
use Rattle.pricing.proofs.Runs.{line_written}
use Rattle.pricing.proofs.write_run.Goals as goal

pub write_decimal-then-requires : goal.write_decimal-then-requires
write_decimal-then-requires c = omega (arith, line_long c.args.first c.args.last c.args.cents)

pub write_number-next-requires : goal.write_number-next-requires
write_number-next-requires c = omega (arith, line_long c.args.first c.args.last c.args.cents)

pub write_number-end-requires : goal.write_number-end-requires
write_number-end-requires c = omega (arith, line_long c.args.first c.args.last c.args.cents)

pub bounds-held-end : goal.bounds-held-end
bounds-held-end c = omega (arith, line_long c.args.first c.args.last c.args.cents)

pub overflow_add-result : goal.overflow_add-result
overflow_add-result c = omega (arith, line_long c.args.first c.args.last c.args.cents)

pub returns : goal.returns
returns c = let then = c.write_decimal-then.ensures in
    let next = c.write_number-next.ensures in
    let end = c.write_number-end.ensures in (
      omega (arith, line_long c.args.first c.args.last c.args.cents),
      rw (end.1, next.1, then.1) (line_written _ _ _ _ _ _ _ _ then.0 next.0 end.0),
    )
