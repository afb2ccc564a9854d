use mathlib.Core.Path.{sym, ◌∙◌}
use Rattle.objects.specs.Values.{meaning}
use Rattle.objects.proofs.Values.{reached_null, reached_nothing}
use Rattle.objects.proofs.Acts.{cast_below, cast_of_null, cast_nothing, cast_not_below}
use Rattle.objects.proofs.cast_object.Goals as goal

pub returns-in-Null : goal.returns-in-Null
returns-in-Null c = cast_of_null c.args.w (reached_null _ (meaning c.args.w) c.in-Null.ensures)
    c.requires.word.short c.requires.word.small

pub returns-in-Nothing : goal.returns-in-Nothing
returns-in-Nothing c = cast_nothing (reached_nothing _ (meaning c.args.w) c.in-Nothing.ensures)

pub returns-in-At : goal.returns-in-At
returns-in-At c = cast_below c.args.w _ c.in-At.ensures (sym c.is_below.ensures ∙ c.if-is_below.true)
    c.requires.word.short c.requires.word.small

pub returns-in-At-2 : goal.returns-in-At-2
returns-in-At-2 c = cast_not_below c.args.w _ c.in-At.ensures (sym c.is_below.ensures ∙ c.if-is_below.false)
