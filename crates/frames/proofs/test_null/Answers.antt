use mathlib.Core.Path.{sym, ◌∙◌}
use Rattle.objects.specs.Values.{meaning}
use Rattle.frames.proofs.Frames.{null_is_true, truth_is_stuck, object_is_false}
use Rattle.frames.proofs.test_null.Goals as goal

pub returns-in-Null : goal.returns-in-Null
returns-in-Null c = null_is_true (meaning c.args.w)
    (sym c.value_of.ensures ∙ c.in-Null.is)

pub returns-in-Truth : goal.returns-in-Truth
returns-in-Truth c = truth_is_stuck (meaning c.args.w)
    (sym c.value_of.ensures ∙ c.in-Truth.is)

pub returns-in-Object : goal.returns-in-Object
returns-in-Object c = object_is_false (meaning c.args.w)
    (sym c.value_of.ensures ∙ c.in-Object.is)
