use Rattle.emitters.proofs.Renewing.{renew_in, renew_known, renew_fields, copies_ended, renew_done}
use native.Mathlib.Omega.{arith}
use Rattle.emitters.proofs.changes.put_renew.Goals as goal

pub class_entry-count-requires : goal.class_entry-count-requires
class_entry-count-requires c = omega (arith, renew_in c.requires.some_copies)

pub overflow_add-head : goal.overflow_add-head
overflow_add-head c = omega (arith, renew_known c.class_entry-count.ensures c.requires.some_copies)

pub put-p-requires : goal.put-p-requires
put-p-requires c = omega (arith, renew_known c.class_entry-count.ensures c.requires.some_copies)

pub overflow_mul-from : goal.overflow_mul-from
overflow_mul-from c = omega (arith, renew_in c.requires.some_copies)

pub overflow_add-from : goal.overflow_add-from
overflow_add-from c = omega (arith, renew_in c.requires.some_copies)

pub put_copies-q-requires : goal.put_copies-q-requires
put_copies-q-requires c = record {
  some_fields = renew_fields c.class_entry-count.ensures c.requires.some_copies;
  count_bound = (
    omega (arith, renew_known c.class_entry-count.ensures c.requires.some_copies),
    omega arith,
  );
}

pub put-requires : goal.put-requires
put-requires c = omega (
  arith,
  renew_known c.class_entry-count.ensures c.requires.some_copies,
  copies_ended c.class_entry-count.ensures c.requires.some_copies c.put_copies-q.ensures,
)

pub returns : goal.returns
returns c =
    renew_done c.class_entry-count.ensures c.put-p.ensures c.put_copies-q.ensures c.put.ensures
