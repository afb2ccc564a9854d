-- `headings::skip_class` meets its contract. Assumes nothing.
use mathlib.Core.Path.{sym, ◌∙◌}
use native.Mathlib.Omega.{arith}
use Rattle.members.proofs.Lines.{skip_here, skip_step, skip_within, skip_end, skip_grows}
use Rattle.members.proofs.Lines.{skip_start, class_within, class_fields}
use Rattle.headings.proofs.skip_class.Goals as goal

pub overflow_add-r : goal.overflow_add-r
overflow_add-r c = (let s = class_within c.requires in omega
    (arith, s, c.requires.standing.short))

pub count_rows-n-requires : goal.count_rows-n-requires
count_rows-n-requires c = class_fields c.requires

pub loop-at-init : goal.loop-at-init
loop-at-init c = λ w. skip_start w c.count_rows-n.result c.count_rows-n.ensures

pub letter_at-requires : goal.letter_at-requires
letter_at-requires c = let s = skip_within (c.loop-at.invariant c.requires) in omega (arith, s)

pub skip_method-at-requires : goal.skip_method-at-requires
skip_method-at-requires c = skip_here (c.loop-at.invariant c.requires) c.requires.standing.short
    (sym c.letter_at.ensures ∙ c.loop-at-test.true)

pub loop-at-smaller : goal.loop-at-smaller
loop-at-smaller c = (let g = skip_grows (c.loop-at.invariant c.requires) c.requires.standing.short
    (sym c.letter_at.ensures ∙ c.loop-at-test.true) c.skip_method-at.result
    c.skip_method-at.ensures in let s =
    skip_within (c.loop-at.invariant c.requires) in omega (arith, g, s))

pub loop-at-preserved : goal.loop-at-preserved
loop-at-preserved c = λ w. skip_step (c.loop-at.invariant w) w.standing.short
    (sym c.letter_at.ensures ∙ c.loop-at-test.true) c.skip_method-at.result
    c.skip_method-at.ensures

pub returns : goal.returns
returns c = λ w. skip_end (c.loop-at.invariant w)
    (λ e. c.loop-at-test.false (c.letter_at.ensures ∙ e))
