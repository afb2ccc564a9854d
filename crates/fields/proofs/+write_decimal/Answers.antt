-- `fields::write_decimal` meets its contract. Assumes nothing.
use Rattle.std.proofs.Common.{arith}
use Rattle.fields.proofs.Decimals.{length_low, length_high, write_low, write_high}
use Rattle.fields.proofs.+write_decimal.Goals as goal

pub returns-then-n-lt10 : goal.returns-then-n-lt10
returns-then-n-lt10 t c = (omega (arith, length_low), write_low c.args.text.now c.args.at c.args.n c.if-n-lt10.true)

pub write_decimal-last-requires : goal.write_decimal-last-requires
write_decimal-last-requires t c = (omega arith, omega (arith, length_high c.args.n c.if-n-lt10.false))

pub returns : goal.returns
returns t c = (
  omega (arith, length_high c.args.n c.if-n-lt10.false),
  rw (c.write_decimal-last.ensures.1, c.write_decimal-last.ensures.0)
      (write_high c.args.text.now c.args.at c.args.n c.if-n-lt10.false),
)
