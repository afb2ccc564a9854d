use Rattle.objects.specs.Values.{meaning}
use Rattle.objects.proofs.Values.{reached_null, reached_nothing}
use Rattle.objects.proofs.Finding.{find_room, find_null, find_nothing, find_at}
use Rattle.objects.proofs.find_body.Goals as goal

pub find_in-requires : goal.find_in-requires
find_in-requires c = (find_room c.args.w c.requires c.in-At.ensures).1

pub returns-in-Null : goal.returns-in-Null
returns-in-Null c = find_null (reached_null _ (meaning c.args.w) c.in-Null.ensures)

pub returns-in-Nothing : goal.returns-in-Nothing
returns-in-Nothing c = find_nothing (reached_nothing _ (meaning c.args.w) c.in-Nothing.ensures)

pub returns-in-At : goal.returns-in-At
returns-in-At c = rw c.find_in.ensures (find_at c.args.w c.in-At.ensures c.requires.name)
