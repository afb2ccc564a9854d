use mathlib.Core.Path.{◌≡◌}
use Prim.Native.Nat.{ℕ, ◌+◌, ◌-◌, ◌*◌, ◌≤◌}
use native.Mathlib.Omega.{arith}
use lib.ListN.{length, length-take, length-drop, get_or}
use Rattle.objects.proofs.Values.{written_more, written_then, written_same, first_unused}
use Rattle.objects.proofs.Fresh.{first_written, first_is_word}
use Rattle.objects.specs.Acts.{first_of, field_type_in}
use Rattle.objects.proofs.fill.Goals as goal

pub write_value-requires : goal.write_value-requires
write_value-requires c = (
  omega (arith, c.loop-i.invariant.long, c.requires.room, c.requires.few),
  first_is_word (field_type_in c.args.rows.now c.args.tables.now c.args.c c.loop-i.i) _
      c.first_of_field.ensures,
)

pub loop-i-preserved : goal.loop-i-preserved
loop-i-preserved c =
    let e : c.loop-i.i + 1 - c.args.from ≡ c.loop-i.i - c.args.from + 1 = omega arith in
    let z : c.args.from + (c.loop-i.i - c.args.from) ≡ c.loop-i.i = omega arith in
    rw (e, c.write_value.ensures)
    (written_more _ _ c.loop-i.invariant (omega arith) (omega (arith, c.requires.room, c.requires.few))
    (rw z (first_written _ _ _ c.loop-i.i _ _ (omega arith) c.first_of_field.ensures)))

pub returns : goal.returns
returns c =
    let count : ℕ = get_or c.args.tables.now (c.args.c * 576 + 515) 0 in
    let used : ℕ = c.max-used.result in
    let i : c.loop-i.i ≡ used = omega arith in
    let rest : c.args.o + 18 - (c.args.o + 1 + used) ≡ 17 - used = omega arith in
    let room : c.args.o + 1 + used + (17 - used) ≤ length c.loop-i.store =
    omega (arith, c.requires.room, c.requires.few, c.loop-i.invariant.long) in
    let few : used ≤ 17 = omega (arith, c.requires.few) in
    rw rest (written_then (c.args.o + 1) c.args.from used 17
    (λ k. first_of c.args.rows.now c.args.tables.now c.args.c k count) (omega arith) few
    (rw i at c.loop-i.invariant)
    (written_same (c.args.o + 1 + used) (17 - used)
    (λ k. first_of c.args.rows.now c.args.tables.now c.args.c (used + k) count) room
    (c.fill.ensures.after (λ y e. e)) (simp (length-take, length-drop) (omega arith))
    (λ k h. first_unused c.args.rows.now c.args.tables.now c.args.c (used + k) count (omega arith))))
