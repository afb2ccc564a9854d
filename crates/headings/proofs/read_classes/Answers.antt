-- `headings::read_classes` meets its contract. Assumes nothing.
use mathlib.Core.Path.{refl, sym, ◌∙◌}
use native.Mathlib.Omega.{arith}
use lib.ListN.{length-set}
use Rattle.headings.proofs.Reading.{reading_start, reading_index, reading_bounds}
use Rattle.headings.proofs.Reading.{reading_here, reading_step, reading_count, reading_done}
use Rattle.headings.proofs.read_classes.Goals as goal

pub loop-k-init : goal.loop-k-init
loop-k-init c = λ w. reading_start w

pub letter_at-requires : goal.letter_at-requires
letter_at-requires c = omega (arith, (reading_index c.requires (c.loop-k.invariant c.requires)).0)

pub overflow_cast-tables : goal.overflow_cast-tables
overflow_cast-tables c = let b = reading_bounds c.requires (c.loop-k.invariant c.requires)
    (sym c.letter_at.ensures ∙ c.loop-k-test.true) in
    omega (arith, b.2, c.first.ensures)

pub bounds-tables-k : goal.bounds-tables-k
bounds-tables-k c = let b = reading_bounds c.requires (c.loop-k.invariant c.requires)
    (sym c.letter_at.ensures ∙ c.loop-k-test.true) in omega (arith, b.1)

pub overflow_cast-tables-in-loop-k : goal.overflow_cast-tables-in-loop-k
overflow_cast-tables-in-loop-k c = let b = reading_bounds c.requires (c.loop-k.invariant c.requires)
    (sym c.letter_at.ensures ∙ c.loop-k-test.true) in
    omega (arith, b.3, c.second.ensures)

pub bounds-tables-k-in-loop-k : goal.bounds-tables-k-in-loop-k
bounds-tables-k-in-loop-k c = let b = reading_bounds c.requires (c.loop-k.invariant c.requires)
    (sym c.letter_at.ensures ∙ c.loop-k-test.true) in
    simp length-set (omega (arith, b.1))

pub skip_class-r-requires : goal.skip_class-r-requires
skip_class-r-requires c = reading_here c.requires (c.loop-k.invariant c.requires)
    (sym c.letter_at.ensures ∙ c.loop-k-test.true)

pub loop-k-smaller : goal.loop-k-smaller
loop-k-smaller c = let b = reading_bounds c.requires (c.loop-k.invariant c.requires)
    (sym c.letter_at.ensures ∙ c.loop-k-test.true) in
    omega (arith, b.0)

pub loop-k-preserved : goal.loop-k-preserved
loop-k-preserved c = λ w. reading_step w (c.loop-k.invariant w)
    (sym c.letter_at.ensures ∙ c.loop-k-test.true)
    c.first.result c.second.result c.first.ensures
    c.second.ensures _ refl
    c.skip_class-r.result c.skip_class-r.ensures

pub returns : goal.returns
returns c = λ w. (
  reading_count w (c.loop-k.invariant w) (λ e. c.loop-k-test.false (c.letter_at.ensures ∙ e)),
  reading_done w
      (c.loop-k.invariant w) (λ e. c.loop-k-test.false (c.letter_at.ensures ∙ e)),
)
