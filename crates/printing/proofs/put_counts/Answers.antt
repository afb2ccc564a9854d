-- `printing::put_counts` meets its contract. Assumes nothing.
use mathlib.Core.Path.{◌∙◌}
use native.Mathlib.Omega.{arith}
use lib.ListN.{length-set}
use Rattle.printing.proofs.Writing.{digits_ten, counts_written, counts_long}
use Rattle.printing.proofs.put_counts.Goals as goal

pub write_number-first-requires : goal.write_number-first-requires
write_number-first-requires c = omega (
  arith,
  c.requires,
  digits_ten c.args.steps c.ranges.steps.fits,
)

pub write_number-second-requires : goal.write_number-second-requires
write_number-second-requires c = omega (
  arith,
  c.requires,
  digits_ten c.args.steps c.ranges.steps.fits,
  digits_ten c.args.objects c.ranges.objects.fits,
  c.write_number-first.ensures.0,
  c.write_number-first.auto.text,
)

pub write_number-end-requires : goal.write_number-end-requires
write_number-end-requires c = omega (
  arith,
  c.requires,
  digits_ten c.args.steps c.ranges.steps.fits,
  digits_ten c.args.objects c.ranges.objects.fits,
  digits_ten c.args.changes c.ranges.changes.fits,
  c.write_number-first.ensures.0,
  c.write_number-first.auto.text,
  c.write_number-second.ensures.0,
  c.write_number-second.auto.text,
)

pub bounds-out-end : goal.bounds-out-end
bounds-out-end c = omega (
  arith,
  c.requires,
  digits_ten c.args.steps c.ranges.steps.fits,
  digits_ten c.args.objects c.ranges.objects.fits,
  digits_ten c.args.changes c.ranges.changes.fits,
  c.write_number-first.ensures.0,
  c.write_number-first.auto.text,
  c.write_number-second.ensures.0,
  c.write_number-second.auto.text,
  c.write_number-end.ensures.0,
  c.write_number-end.auto.text,
)

pub overflow_add-result : goal.overflow_add-result
overflow_add-result c = omega (
  arith,
  c.requires,
  digits_ten c.args.steps c.ranges.steps.fits,
  digits_ten c.args.objects c.ranges.objects.fits,
  digits_ten c.args.changes c.ranges.changes.fits,
  c.write_number-first.ensures.0,
  c.write_number-second.ensures.0,
  c.write_number-end.ensures.0,
)

pub shape_of-out : goal.shape_of-out
shape_of-out c = simp length-set (c.write_number-end.auto.text ∙ c.write_number-second.auto.text ∙
    c.write_number-first.auto.text)

pub returns : goal.returns
returns c = (
  omega (
    arith,
    c.write_number-first.ensures.0,
    c.write_number-second.ensures.0,
    c.write_number-end.ensures.0,
    counts_long c.args.steps c.args.objects c.args.changes,
  ),
  omega (
    arith,
    digits_ten c.args.steps c.ranges.steps.fits,
    digits_ten c.args.objects c.ranges.objects.fits,
    digits_ten c.args.changes c.ranges.changes.fits,
    c.write_number-first.ensures.0,
    c.write_number-second.ensures.0,
    c.write_number-end.ensures.0,
  ),
  rw (
    c.write_number-end.ensures.1,
    c.write_number-second.ensures.1,
    c.write_number-first.ensures.1,
  )
      (counts_written c.args.steps c.args.objects c.args.changes
      c.args.out.now c.args.at c.write_number-first.result c.write_number-second.result
      c.write_number-end.result c.write_number-first.ensures.0
      c.write_number-second.ensures.0 c.write_number-end.ensures.0),
)
