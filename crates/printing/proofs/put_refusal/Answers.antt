-- `printing::put_refusal` meets its contract. Assumes nothing.
use mathlib.Core.Path.{◌∙◌}
use native.Mathlib.Omega.{arith}
use lib.ListN.{length-set}
use Rattle.printing.proofs.Writing.{digits_ten, refusal_written, refusal_long}
use Rattle.printing.proofs.put_refusal.Goals as goal

pub write_number-end-requires : goal.write_number-end-requires
write_number-end-requires c = omega (
  arith,
  c.requires,
  c.put_numbered-then.ensures.1,
  c.put_numbered-then.auto.out,
  digits_ten c.args.line c.ranges.line.fits,
)

pub bounds-out-end : goal.bounds-out-end
bounds-out-end c = omega (
  arith,
  c.requires,
  c.put_numbered-then.ensures.1,
  c.put_numbered-then.auto.out,
  c.write_number-end.ensures.0,
  c.write_number-end.auto.text,
  digits_ten c.args.line c.ranges.line.fits,
)

pub overflow_add-result : goal.overflow_add-result
overflow_add-result c = omega (
  arith,
  c.requires,
  c.well_formed.0.0,
  c.put_numbered-then.ensures.1,
  c.write_number-end.ensures.0,
  digits_ten c.args.line c.ranges.line.fits,
)

pub shape_of-out : goal.shape_of-out
shape_of-out c = simp length-set (c.write_number-end.auto.text ∙ c.put_numbered-then.auto.out)

pub returns : goal.returns
returns c = (
  omega (
    arith,
    c.put_numbered-then.ensures.0,
    c.write_number-end.ensures.0,
    refusal_long c.args.number c.args.line,
  ),
  omega (
    arith,
    c.put_numbered-then.ensures.1,
    c.write_number-end.ensures.0,
    digits_ten c.args.line c.ranges.line.fits,
  ),
  rw (c.write_number-end.ensures.1, c.put_numbered-then.ensures.2)
      (refusal_written c.args.number c.args.line c.args.out.now c.args.at
      c.put_numbered-then.result c.write_number-end.result c.put_numbered-then.ensures.0
      c.write_number-end.ensures.0),
)
