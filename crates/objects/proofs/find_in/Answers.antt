use mathlib.Core.Path.{◌∙◌, sym}
use native.Mathlib.Omega.{arith}
use Rattle.objects.proofs.Finding.{method_within, target_none, target_other, target_deep, target_body}
use Rattle.objects.proofs.find_in.Goals as goal

pub returns-then-number-eq0 : goal.returns-then-number-eq0
returns-then-number-eq0 c =
    target_none _ c.args.methods.now _ _ _ _ c.class_entry-number.ensures c.if-number-eq0.true

pub bounds-methods-method : goal.bounds-methods-method
bounds-methods-method c = omega (
  arith,
  method_within _ _ _ _ c.args.given c.args.calls c.class_entry-number.ensures c.if-number-eq0.false
      c.requires,
)

pub returns-then-from-given : goal.returns-then-from-given
returns-then-from-given c = target_other _ _ _ _ _ c.args.calls c.class_entry-number.ensures
    c.if-number-eq0.false (λ e. c.if-from-given.true (c.from.ensures ∙ e))

pub returns-then-calls-ge-MOST_CALLS : goal.returns-then-calls-ge-MOST_CALLS
returns-then-calls-ge-MOST_CALLS c = target_deep _ _ _ _ _ _ c.class_entry-number.ensures
    c.if-number-eq0.false (sym c.from.ensures ∙ c.if-from-given.false) c.if-calls-ge-MOST_CALLS.true

pub bounds-methods-method-2 : goal.bounds-methods-method-2
bounds-methods-method-2 c = omega (
  arith,
  method_within _ _ _ _ c.args.given c.args.calls c.class_entry-number.ensures c.if-number-eq0.false
      c.requires,
)

pub returns : goal.returns
returns c = rw c.from-2.ensures (target_body _ _ _ _ _ _ c.class_entry-number.ensures c.if-number-eq0.false
    (sym c.from.ensures ∙ c.if-from-given.false) c.if-calls-ge-MOST_CALLS.false)
