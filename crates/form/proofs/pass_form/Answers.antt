-- The pass: between two classes, the classes read so far and what is left. Assumes nothing.
use mathlib.Core.Path.{refl, sym, ◌∙◌}
use Prim.Native.Nat.{◌+◌}
use native.Mathlib.Omega.{arith}
use Rattle.std.proofs.lemmas.Result.{err_from_is_err_and}
use Rattle.language.specs.Refusals.{refusal}
use Rattle.form.proofs.Start.{form_failed, form_done}
use Rattle.parsing.proofs.ClassLaws.{classing_start, classing_over, classing_stop, classing_less}
use Rattle.parsing.proofs.ClassLaws.{classing_step, classing_end}
use Rattle.form.proofs.pass_form.Goals as goal

pub loop-limits-init : goal.loop-limits-init
loop-limits-init c = classing_start c.args.rows.now c.args.ends.now
    (record {
      whole = c.requires.0;
      room = c.requires.1;
      within = omega arith;
      inside = omega arith;
    })

pub returns-then-limits-classes : goal.returns-then-limits-classes
returns-then-limits-classes c = rw c.refusal_at.ensures
    (form_failed c.args.limits c.args.rows.now c.args.ends.now (refusal 2 (c.loop-limits.i + 1))
    (classing_over c.loop-limits.invariant (c.is_letter.ensures.1 c.loop-limits-test.true)
    (sym c.is_letter.ensures.0 ∙ c.loop-limits-test.true) c.if-limits-classes.true))

pub returns-in_err-i : goal.returns-in_err-i
returns-in_err-i c =
    let p = err_from_is_err_and c.from_residual.result c.from_residual.ensures.1 in
    rw (p.1, p.2) (form_failed c.args.limits c.args.rows.now c.args.ends.now _
    (classing_stop c.loop-limits.invariant (c.is_letter.ensures.1 c.loop-limits-test.true)
    (sym c.is_letter.ensures.0 ∙ c.loop-limits-test.true) c.if-limits-classes.false c.in_err-i.ensures refl))

pub loop-limits-smaller : goal.loop-limits-smaller
loop-limits-smaller c = omega (
  arith,
  classing_less c.loop-limits.invariant (c.is_letter.ensures.1 c.loop-limits-test.true)
      (sym c.is_letter.ensures.0 ∙ c.loop-limits-test.true) c.if-limits-classes.false c.in_ok-i.ensures refl,
  c.is_letter.ensures.1 c.loop-limits-test.true,
)

pub loop-limits-preserved : goal.loop-limits-preserved
loop-limits-preserved c = classing_step c.loop-limits.invariant (c.is_letter.ensures.1 c.loop-limits-test.true)
    (sym c.is_letter.ensures.0 ∙ c.loop-limits-test.true) c.if-limits-classes.false c.in_ok-i.ensures refl
    c.pass_class.auto.ends

pub returns : goal.returns
returns c = form_done c.args.limits c.args.rows.now c.args.ends.now
    (classing_end c.loop-limits.invariant (sym c.is_letter.ensures.0 ∙ c.loop-limits-test.false))
    c.loop-limits.invariant.long c.pass_start.ensures
