-- `members::fields::is_state` meets its contract. Assumes nothing.
use Rattle.std.proofs.Common.{arith, ap, ◌∙◌}
use mathlib.Core.Bool.{not}
use borrow.Author.Tests.{eq-eqb}
use Rattle.members.proofs.Tables.{state_bool, state_index, state_is}
use Rattle.members.proofs.fields.is_state.Goals as goal

pub class_entry-requires : goal.class_entry-requires
class_entry-requires c = omega (arith, state_index c.requires c.if-t-ne-BOOL.true)

pub returns-then-t-ne-BOOL : goal.returns-then-t-ne-BOOL
returns-then-t-ne-BOOL c = λ w. state_is w c.if-t-ne-BOOL.true c.class_entry.result c.class_entry.ensures

pub returns-else-t-ne-BOOL : goal.returns-else-t-ne-BOOL
returns-else-t-ne-BOOL c = λ w. ap not (eq-eqb c.args.t 255 c.if-t-ne-BOOL.false) ∙ state_bool w c.if-t-ne-BOOL.false
