use Rattle.objects.specs.Values.{meaning}
use Rattle.objects.proofs.Values.{reached_null, reached_nothing}
use Rattle.objects.proofs.Changes.{change_of_null, change_nothing}
use Rattle.objects.proofs.change_class.Goals as goal

pub returns-in-Null : goal.returns-in-Null
returns-in-Null c = change_of_null c.args.w _ (reached_null _ (meaning c.args.w) c.in-Null.ensures)
    c.requires.is_word.short c.requires.is_word.small

pub returns-in-Nothing : goal.returns-in-Nothing
returns-in-Nothing c = change_nothing (reached_nothing _ (meaning c.args.w) c.in-Nothing.ensures)
