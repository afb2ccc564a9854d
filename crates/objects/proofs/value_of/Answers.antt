use native.Mathlib.Omega.{arith}
use Rattle.objects.proofs.Values.{kind_truth, kind_object, kind_other}
use Rattle.objects.proofs.value_of.Goals as goal

pub returns-in-1 : goal.returns-in-1
returns-in-1 c = kind_truth c.args.w c.in-1.is

pub returns-in-2 : goal.returns-in-2
returns-in-2 c = kind_object c.args.w c.in-2.is c.object_of.ensures

pub returns-in_default : goal.returns-in_default
returns-in_default c = kind_other c.args.w (omega arith) (omega arith)
