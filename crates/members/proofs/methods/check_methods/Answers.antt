-- `members::methods::check_methods` meets its contract. Assumes nothing.
use mathlib.Core.Path.{◌≡◌, refl, sym, ◌∙◌}
use Rattle.std.proofs.Common.{arith, rules, Err}
use Rattle.members.proofs.Entering.{entering_start, entering_within, entering_count}
use Rattle.members.proofs.Entering.{entering_ready, entering_here}
use Rattle.members.proofs.Entering.{entering_grows, entering_refused, entering_step, entering_end}
use Rattle.members.proofs.Entering.{entering_done}
use Rattle.members.proofs.methods.check_methods.Goals as goal

pub loop-tables-init : goal.loop-tables-init
loop-tables-init c = λ w. entering_start w

pub letter_at-requires : goal.letter_at-requires
letter_at-requires c = omega (arith, entering_within c.requires (c.loop-tables.invariant c.requires))

pub check_method-requires : goal.check_method-requires
check_method-requires c = entering_ready c.requires (c.loop-tables.invariant c.requires)
    (sym c.letter_at.ensures ∙ c.loop-tables-test.true)

pub returns-in_err-check_method : goal.returns-in_err-check_method
returns-in_err-check_method c = λ w.
    let p = c.loop-tables.invariant w in
    let l = sym c.letter_at.ensures ∙ c.loop-tables-test.true in
    let e : c.from_residual.result ≡ Err c.in_err-check_method.field-0.0 = search rules in (
      e ∙ entering_refused w p l _ (c.in_err-check_method.ensures (entering_ready w p l)).0,
      λ n o. absurd (cc),
    )

pub skip_method-at-requires : goal.skip_method-at-requires
skip_method-at-requires c = entering_here c.requires (c.loop-tables.invariant c.requires)
    (sym c.letter_at.ensures ∙ c.loop-tables-test.true)

pub overflow_add-next : goal.overflow_add-next
overflow_add-next c =
    let j = entering_count c.requires (c.loop-tables.invariant c.requires) in omega (arith, j.0, j.1)

pub loop-tables-smaller : goal.loop-tables-smaller
loop-tables-smaller c =
    let p = c.loop-tables.invariant c.requires in
    let g = entering_grows c.requires p (sym c.letter_at.ensures ∙ c.loop-tables-test.true)
    c.skip_method-at.result c.skip_method-at.ensures in
    let s = entering_within c.requires p in
    omega (arith, g, s)

pub loop-tables-preserved : goal.loop-tables-preserved
loop-tables-preserved c = λ w.
    let p = c.loop-tables.invariant w in
    let l = sym c.letter_at.ensures ∙ c.loop-tables-test.true in
    let y = c.in_ok-check_method.ensures (entering_ready w p l) in
    entering_step w p l y.0 _ _ _ (y.1 refl) _ c.skip_method-at.ensures

pub overflow_sub-result : goal.overflow_sub-result
overflow_sub-result c =
    let j = entering_count c.requires (c.loop-tables.invariant c.requires) in omega (arith, j.0, j.1)

pub overflow_cast-result : goal.overflow_cast-result
overflow_cast-result c =
    let j = entering_count c.requires (c.loop-tables.invariant c.requires) in omega (arith, j.0, j.1)

pub returns : goal.returns
returns c = λ w. (
  entering_end w (c.loop-tables.invariant w) (λ e. c.loop-tables-test.false (c.letter_at.ensures ∙ e)),
  λ n e.
      entering_done w (c.loop-tables.invariant w)
      (λ e. c.loop-tables-test.false (c.letter_at.ensures ∙ e)),
)
