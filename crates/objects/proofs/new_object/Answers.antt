use Rattle.language.specs.Limits.{object_width}
use Prim.Native.Nat.{◌*◌}
use Rattle.objects.proofs.Fresh.{new_fill, new_full, full_count, full_store, new_told}
use Rattle.objects.proofs.new_object.Goals as goal

pub returns-then-made-ge-MOST_OBJECTS : goal.returns-then-made-ge-MOST_OBJECTS
returns-then-made-ge-MOST_OBJECTS c = new_full c.args.program.now.rows.now c.args.program.now.tables.now c.args.store.now c.args.c
    c.args.tally.now
    (full_count c.args.store.now c.args.tally.now.made c.if-made-ge-MOST_OBJECTS.true)

pub returns-then-store-o : goal.returns-then-store-o
returns-then-store-o c = new_full c.args.program.now.rows.now c.args.program.now.tables.now c.args.store.now c.args.c
    c.args.tally.now
    (full_store c.args.store.now c.args.tally.now.made c.if-store-o.true)

pub fill-requires : goal.fill-requires
fill-requires c = new_fill c.requires (c.args.tally.now.made * object_width) c.if-store-o.false

pub returns : goal.returns
returns c = rw c.from.ensures
    (new_told c.args.tally.now c.if-made-ge-MOST_OBJECTS.false c.if-store-o.false c.fill.ensures)
