use native.Mathlib.Omega.{arith}
use Rattle.objects.proofs.Changes.{reached_spots, fill_at, few_at, made_at, same_word}
use Rattle.objects.proofs.change_at.Goals as goal

pub class_entry-kept-requires : goal.class_entry-kept-requires
class_entry-kept-requires c = omega (
  arith,
  reached_spots c.args.w
      c.args.tally.now
      c.requires.w_value
      c.requires.pre_change,
  c.class_entry-root.ensures,
)

pub returns-then-count-kept : goal.returns-then-count-kept
returns-then-count-kept c = few_at c.args.w _
    c.requires.w_value
    (rw (
      c.class_entry-kept.ensures,
      c.class_entry-root.ensures,
      c.class_entry-count.ensures,
    ) at c.if-count-kept.true)

pub fill-requires : goal.fill-requires
fill-requires c = rw (
  c.class_entry-kept.ensures,
  c.class_entry-root.ensures,
)
    (fill_at c.args.w
    c.args.tally.now
    c.requires.w_value
    c.requires.pre_change)

pub returns : goal.returns
returns c = made_at c.args.w
    c.args.tally.now
    c.requires.w_value
    c.fill.new.store
    (rw (
      c.class_entry-kept.ensures,
      c.class_entry-root.ensures,
      c.class_entry-count.ensures,
    ) at c.if-count-kept.false)
    c.requires.pre_change.is_word.small
    (rw (
      c.class_entry-kept.ensures,
      c.class_entry-root.ensures,
    ) at c.fill.ensures)
    (same_word c.args.w _ c.requires.pre_change.is_word.short)
