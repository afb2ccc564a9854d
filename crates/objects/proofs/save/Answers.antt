use Rattle.objects.specs.Values.{meaning}
use Rattle.objects.proofs.Values.{reached_null, reached_nothing}
use Rattle.objects.proofs.Acts.{reached_spot, index_within, save_null, save_nothing, save_lacks}
use Rattle.objects.proofs.Acts.{save_has}
use Rattle.objects.proofs.save.Goals as goal

pub find_field-requires : goal.find_field-requires
find_field-requires c = reached_spot c.args.w c.requires.pre_object c.requires.f_bound.0 c.in-At.ensures

pub write_value-requires : goal.write_value-requires
write_value-requires c = (
  index_within _ _ _ _ c.in-Some.ensures
      (reached_spot c.args.w c.requires.pre_object c.requires.f_bound.0 c.in-At.ensures),
  c.requires.f_bound.1.small,
)

pub returns-in-Null : goal.returns-in-Null
returns-in-Null c = save_null (reached_null _ (meaning c.args.w) c.in-Null.ensures)

pub returns-in-Nothing : goal.returns-in-Nothing
returns-in-Nothing c = save_nothing (reached_nothing _ (meaning c.args.w) c.in-Nothing.ensures)

pub returns-in-Some : goal.returns-in-Some
returns-in-Some c = save_has c.args.w c.in-At.ensures c.requires.f_bound.0 c.in-Some.ensures c.args.v
    c.requires.f_bound.1.short c.requires.f_bound.1.small c.write_value.ensures

pub returns-in-None : goal.returns-in-None
returns-in-None c = save_lacks c.args.w c.in-At.ensures c.requires.f_bound.0 c.in-None.ensures
