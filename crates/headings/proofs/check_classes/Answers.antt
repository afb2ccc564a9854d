-- `headings::check_classes` meets its contract. Assumes nothing.
use mathlib.Core.Path.{◌≡◌, refl, ◌∙◌}
use Rattle.std.proofs.Common.{arith, rules, Err, ℕ, ◌+◌, ◌<◌}
use Rattle.headings.proofs.Whole.{Going, going_start, going_ready, going_here, going_index}
use Rattle.headings.proofs.Whole.{going_refused, going_count}
use Rattle.headings.proofs.Whole.{super_earlier, going_step, going_total, going_end, going_done}
use Rattle.headings.proofs.check_classes.Goals as goal
use Rattle.headings.proofs.check_classes.Goals.{else-loop-k-test, then-loop-k-test+in_ok-many+else-k-count}

pub loop-k-init : goal.loop-k-init
loop-k-init c = λ w. going_start w

pub check_class-requires : goal.check_class-requires
check_class-requires c = going_ready c.requires (c.loop-k.invariant c.requires) c.loop-k-test.true

pub returns-in_err-many : goal.returns-in_err-many
returns-in_err-many c = λ w.
    let e : c.from_residual.result ≡ Err c.in_err-many.field-0.0 = search rules in (
      e ∙ going_refused w (c.loop-k.invariant w) c.loop-k-test.true _ (λ v. (c.in_err-many.ensures v).0),
      λ n o. absurd (cc),
    )

pub second-over-requires : goal.second-over-requires
second-over-requires c =
    let j = going_index c.requires (c.loop-k.invariant c.requires) c.loop-k-test.true in omega (arith, j.0)

pub bounds-above-over : goal.bounds-above-over
bounds-above-over c =
    let p = c.loop-k.invariant c.requires in
    let j = going_index c.requires p c.loop-k-test.true in
    let h = super_earlier c.requires p c.loop-k-test.true _ _ _ _
    (λ v. let y = c.in_ok-many.ensures v in (y.0, y.1 _ refl)) _ c.second-over.ensures in
    omega (arith, j.2, h)

pub skip_class-r-requires : goal.skip_class-r-requires
skip_class-r-requires c = going_here c.requires (c.loop-k.invariant c.requires) c.loop-k-test.true

pub overflow_add-next : goal.overflow_add-next
overflow_add-next c =
    let j = going_count c.requires (c.loop-k.invariant c.requires) c.loop-k-test.true _ _ _ _
    (λ v. let y = c.in_ok-many.ensures v in (y.0, y.1 _ refl)) in
    omega (arith, j)

pub loop-k-preserved : goal.loop-k-preserved
loop-k-preserved c = λ w. going_step w (c.loop-k.invariant w) c.loop-k-test.true _ _ _ _
    (λ v. let y = c.in_ok-many.ensures v in (y.0, y.1 _ refl)) _ c.second-over.ensures _ c.effect_of.ensures _
    c.skip_class-r.ensures

pub overflow_cast-result : goal.overflow_cast-result
overflow_cast-result c =
    let w = c.requires in
    let last : (k : ℕ) × (c.args.count < k)
    × Going w c.loop-k-test.tables c.loop-k-test.above c.loop-k-test.methods c.loop-k-test.effects k
    c.loop-k-test.r c.loop-k-test.next = elim c.loop-k-test.branch [
      | else-loop-k-test b ↦ (
        c.loop-k.k,
        b.loop-k-test.false,
        rw (b.tables-is, b.above-is, b.methods-is, b.effects-is, b.r-is, b.next-is) (c.loop-k.invariant w),
      )
      | then-loop-k-test+in_ok-many+else-k-count b ↦ (
        c.loop-k.k + 1,
        omega arith,
        rw (b.tables-is, b.above-is, b.methods-is, b.effects-is, b.r-is, b.next-is)
            (going_step w (c.loop-k.invariant w) b.loop-k-test.true _ _ _ _
            (λ v. let y = b.in_ok-many.ensures v in (y.0, y.1 _ refl)) _ b.second-over.ensures _
            b.effect_of.ensures _ b.skip_class-r.ensures),
      )
    ] in
    let j = going_total w {k = last.0} last.2 last.1 in
    omega (arith, j)

pub returns : goal.returns
returns c = λ w.
    let last : (k : ℕ) × (c.args.count < k)
    × Going w c.loop-k-test.tables c.loop-k-test.above c.loop-k-test.methods c.loop-k-test.effects k
    c.loop-k-test.r c.loop-k-test.next = elim c.loop-k-test.branch [
      | else-loop-k-test b ↦ (
        c.loop-k.k,
        b.loop-k-test.false,
        rw (b.tables-is, b.above-is, b.methods-is, b.effects-is, b.r-is, b.next-is) (c.loop-k.invariant w),
      )
      | then-loop-k-test+in_ok-many+else-k-count b ↦ (
        c.loop-k.k + 1,
        omega arith,
        rw (b.tables-is, b.above-is, b.methods-is, b.effects-is, b.r-is, b.next-is)
            (going_step w (c.loop-k.invariant w) b.loop-k-test.true _ _ _ _
            (λ v. let y = b.in_ok-many.ensures v in (y.0, y.1 _ refl)) _ b.second-over.ensures _
            b.effect_of.ensures _ b.skip_class-r.ensures),
      )
    ] in
    (going_end w {k = last.0} last.2 last.1, λ n e. going_done w {k = last.0} last.2 last.1)
