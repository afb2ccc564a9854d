use mathlib.Core.Path.{sym, ◌∙◌}
use native.Mathlib.Omega.{arith}
use Rattle.plain.proofs.Classes.{classes_known, classes_class, classes_more, classes_done}
use Rattle.plain.proofs.node.Source.emit_classes.Goals as goal

pub emit_class-next-requires : goal.emit_class-next-requires
emit_class-next-requires c = classes_class c.loop-out.invariant.rest (sym c.letter_at.ensures ∙ c.loop-out-test.true)

pub loop-out-smaller : goal.loop-out-smaller
loop-out-smaller c = omega (
  arith,
  classes_known c.loop-out.invariant.rest,
  (classes_more c.loop-out.invariant c.emit_class-next.ensures (sym c.letter_at.ensures ∙ c.loop-out-test.true)).1,
)

pub loop-out-preserved : goal.loop-out-preserved
loop-out-preserved c =
    (classes_more c.loop-out.invariant c.emit_class-next.ensures (sym c.letter_at.ensures ∙ c.loop-out-test.true)).0

pub returns : goal.returns
returns c = classes_done c.loop-out.invariant (λ e. c.loop-out-test.false (c.letter_at.ensures ∙ e))
