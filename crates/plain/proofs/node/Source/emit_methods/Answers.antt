use mathlib.Core.Path.{sym, ◌∙◌}
use native.Mathlib.Omega.{arith}
use Rattle.layout.proofs.Walks.{method_parameters, method_effects}
use Rattle.plain.proofs.Methods.{methods_known, methods_here, methods_method}
use Rattle.plain.proofs.Methods.{methods_more, methods_done}
use Rattle.plain.proofs.node.Source.emit_methods.Goals as goal

pub count_rows-p-requires : goal.count_rows-p-requires
count_rows-p-requires c = method_parameters
    (methods_here c.loop-parameters.invariant.rest (sym c.letter_at.ensures ∙ c.loop-parameters-test.true))

pub count_rows-x-requires : goal.count_rows-x-requires
count_rows-x-requires c = method_effects
    (methods_here c.loop-parameters.invariant.rest (sym c.letter_at.ensures ∙ c.loop-parameters-test.true))
    _ c.count_rows-p.ensures

pub emit_method-next-requires : goal.emit_method-next-requires
emit_method-next-requires c = methods_method c.count_rows-p.ensures c.count_rows-x.ensures
    c.loop-parameters.invariant.rest (sym c.letter_at.ensures ∙ c.loop-parameters-test.true)

pub loop-parameters-smaller : goal.loop-parameters-smaller
loop-parameters-smaller c = omega (
  arith,
  methods_known c.loop-parameters.invariant.rest,
  (methods_more c.loop-parameters.invariant c.count_rows-p.ensures c.count_rows-x.ensures
      c.emit_method-next.ensures (sym c.letter_at.ensures ∙ c.loop-parameters-test.true)).1,
)

pub loop-parameters-preserved : goal.loop-parameters-preserved
loop-parameters-preserved c =
    (methods_more c.loop-parameters.invariant c.count_rows-p.ensures c.count_rows-x.ensures
    c.emit_method-next.ensures (sym c.letter_at.ensures ∙ c.loop-parameters-test.true)).0

pub returns : goal.returns
returns c = methods_done c.loop-parameters.invariant (λ e. c.loop-parameters-test.false (c.letter_at.ensures ∙ e))
