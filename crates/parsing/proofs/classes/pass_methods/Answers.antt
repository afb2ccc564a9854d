-- Methods: between two of them, what is left to read tells of the whole. Assumes nothing.
use mathlib.Core.Path.{refl, sym, ◌∙◌}
use native.Mathlib.Omega.{arith}
use Rattle.std.proofs.lemmas.Result.{err_from_is_err_and}
use Rattle.parsing.proofs.ClassLaws.{listing_end, listing_stop, listing_step, listing_less}
use Rattle.parsing.proofs.classes.pass_methods.Goals as goal

pub returns-in_err-i : goal.returns-in_err-i
returns-in_err-i c =
    let p = err_from_is_err_and c.from_residual.result c.from_residual.ensures.1 in
    λ f h. rw (p.1, p.2) (listing_stop c.loop-limits.invariant (c.is_letter.ensures.1 c.loop-limits-test.true)
    (sym c.is_letter.ensures.0 ∙ c.loop-limits-test.true) c.in_err-i.ensures refl f h)

pub loop-limits-smaller : goal.loop-limits-smaller
loop-limits-smaller c = omega (
  arith,
  listing_less c.loop-limits.invariant (c.is_letter.ensures.1 c.loop-limits-test.true)
      (sym c.is_letter.ensures.0 ∙ c.loop-limits-test.true) c.in_ok-i.ensures refl,
  c.is_letter.ensures.1 c.loop-limits-test.true,
)

pub loop-limits-preserved : goal.loop-limits-preserved
loop-limits-preserved c = listing_step c.loop-limits.invariant (c.is_letter.ensures.1 c.loop-limits-test.true)
    (sym c.is_letter.ensures.0 ∙ c.loop-limits-test.true) c.in_ok-i.ensures refl c.pass_method.auto.ends

pub returns : goal.returns
returns c = λ f h.
    listing_end c.loop-limits.invariant (sym c.is_letter.ensures.0 ∙ c.loop-limits-test.false) f h
