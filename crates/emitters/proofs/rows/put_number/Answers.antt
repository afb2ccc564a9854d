use mathlib.Core.Path.{sym}
use lib.Seq.{set_out}
use Rattle.emitters.proofs.rows.put_number.Goals as goal

pub returns-else-place-out : goal.returns-else-place-out
returns-else-place-out c = sym (set_out _ _ _ c.if-place-out.false)
