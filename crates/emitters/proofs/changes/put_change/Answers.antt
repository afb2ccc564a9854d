use Rattle.emitters.proofs.Renewing.{change_root, change_copies, change_after, change_done}
use Prim.Native.Nat.{◌+◌, ◌*◌}
use native.Mathlib.Omega.{arith}
use Rattle.emitters.proofs.changes.put_change.Goals as goal

pub class_entry-root-requires : goal.class_entry-root-requires
class_entry-root-requires c = omega (arith, (change_root c.requires.some_change).0)

pub put_head-p-requires : goal.put_head-p-requires
put_head-p-requires c = (
  omega (arith, (change_root c.requires.some_change).1),
  omega arith,
  omega (arith, c.class_entry-root.ensures, c.type_inv.tables (c.args.target * 576 + 514)),
)

pub put_renew-q-requires-clause-some_copies : goal.put_renew-q-requires-clause-some_copies
put_renew-q-requires-clause-some_copies c =
    change_copies c.class_entry-root.ensures _ c.requires.some_change c.put_head-p.ensures

pub put-requires : goal.put-requires
put-requires c =
    change_after c.class_entry-root.ensures c.requires.some_change c.put_head-p.ensures c.put_renew-q.ensures

pub returns : goal.returns
returns c =
    change_done c.class_entry-root.ensures c.put_head-p.ensures c.put_renew-q.ensures c.put.ensures
