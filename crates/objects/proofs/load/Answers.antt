use native.Mathlib.Omega.{arith}
use Rattle.objects.specs.Values.{meaning}
use Rattle.objects.proofs.Values.{reached_null, reached_nothing}
use Rattle.objects.proofs.Acts.{reached_spot, index_within, load_null, load_nothing, load_lacks}
use Rattle.objects.proofs.Acts.{load_has}
use Rattle.objects.proofs.load.Goals as goal

pub find_field-requires : goal.find_field-requires
find_field-requires c = reached_spot c.args.w c.requires.pre_object c.requires.f_bound c.in-At.ensures

pub read_value-requires : goal.read_value-requires
read_value-requires c = index_within _ _ _ _ c.in-Some.ensures
    (reached_spot c.args.w c.requires.pre_object c.requires.f_bound c.in-At.ensures)

pub returns-in-Null : goal.returns-in-Null
returns-in-Null c = load_null (reached_null _ (meaning c.args.w) c.in-Null.ensures)

pub returns-in-Nothing : goal.returns-in-Nothing
returns-in-Nothing c = load_nothing (reached_nothing _ (meaning c.args.w) c.in-Nothing.ensures)

pub returns-in-Some : goal.returns-in-Some
returns-in-Some c = load_has c.args.w c.in-At.ensures c.requires.f_bound c.in-Some.ensures
    (omega (arith, c.type_inv.store c.in-Some.at)) c.read_value.ensures

pub returns-in-None : goal.returns-in-None
returns-in-None c = load_lacks c.args.w c.in-At.ensures c.requires.f_bound c.in-None.ensures
