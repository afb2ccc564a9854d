-- `printing::put_numbered` meets its contract. Assumes nothing.
use mathlib.Core.Path.{◌∙◌}
use native.Mathlib.Omega.{arith}
use lib.ListN.{length-set}
use Rattle.printing.proofs.Writing.{digits_ten, numbered_written}
use Rattle.printing.proofs.put_numbered.Goals as goal

pub write_number-requires : goal.write_number-requires
write_number-requires c = simp length-set (omega (
  arith,
  c.requires,
  digits_ten c.args.n
      c.ranges.n.fits,
))

pub shape_of-out : goal.shape_of-out
shape_of-out c = c.write_number.auto.text
    ∙ length-set c.args.out.now c.args.at c.args.letter

pub returns : goal.returns
returns c = (
  omega (arith, c.write_number.ensures.0),
  omega (
    arith,
    c.write_number.ensures.0,
    digits_ten c.args.n c.ranges.n.fits,
  ),
  c.write_number.ensures.1
      ∙ numbered_written c.args.out.now c.args.at c.args.letter c.args.n,
)
