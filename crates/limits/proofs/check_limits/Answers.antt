use mathlib.Core.Logic.{inr}
use native.Mathlib.Omega.{arith}
use Rattle.limits.proofs.Told.{checked_whole, checked_counted, limits_answer}
use Rattle.limits.proofs.check_limits.Goals as goal

pub check_translatable-formed-requires : goal.check_translatable-formed-requires
check_translatable-formed-requires c = (checked_whole c.requires, inr (omega arith))

pub check_fields-requires : goal.check_fields-requires
check_fields-requires c = checked_counted c.requires

pub returns : goal.returns
returns c =
    limits_answer c.check_translatable-formed.ensures.0 c.check_fields.ensures c.first_refused.ensures
