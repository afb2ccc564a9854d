-- `fields::read_digits` meets its contract. Assumes nothing.
use Rattle.std.proofs.Common.{arith, sym, ◌∙◌}
use Rattle.fields.proofs.Decimals.{scan_stops, scan_high, scan_low, scan_end, digit_small}
use Rattle.fields.proofs.read_digits.Goals as goal

pub returns-in_err-grown : goal.returns-in_err-grown
returns-in_err-grown c =
    c.from_residual.ensures ∙ sym (c.loop-b.invariant.1 ∙ scan_stops _ _ _ c.loop-b-test.true (sym c.read_digit.ensures ∙ c.in_err-grown.was))

pub overflow_add-grown : goal.overflow_add-grown
overflow_add-grown c = omega (arith, digit_small _ _ (sym c.read_digit.ensures ∙ c.in_ok-grown.was))

pub returns-then-grown-gt-LARGEST : goal.returns-then-grown-gt-LARGEST
returns-then-grown-gt-LARGEST c = sym (c.loop-b.invariant.1 ∙ scan_high _ _ _ c.loop-b-test.true _
    (sym c.read_digit.ensures ∙ c.in_ok-grown.was) c.if-grown-gt-LARGEST.true)

pub loop-b-preserved : goal.loop-b-preserved
loop-b-preserved c = (
  omega arith,
  c.loop-b.invariant.1 ∙ scan_low _ _ _ c.loop-b-test.true _ (sym c.read_digit.ensures ∙ c.in_ok-grown.was) c.if-grown-gt-LARGEST.false,
)

pub returns : goal.returns
returns c = sym (c.loop-b.invariant.1 ∙ scan_end c.args.s.now c.loop-b.b-index c.loop-b.value (omega arith))
