-- `writer::format_rows` meets its contract. Assumes nothing.
use Rattle.std.proofs.Common.{◌≡◌, ◌≤◌, ◌+◌, ◌*◌, ◌<◌, length, refl, sym, ◌∙◌, arith}
use Rattle.text.proofs.Lines.{row_known}
use Rattle.language.specs.Alphabet.{ours}
use Rattle.text.proofs.Formatting.{formatting_odd, formatting_odd_held, formatting_start}
use Rattle.text.proofs.Formatting.{formatting_done, formatting_full, formatting_over}
use Rattle.text.proofs.Formatting.{formatting_over_held, formatting_bad, formatting_bad_held}
use Rattle.text.proofs.Formatting.{formatting_fits, formatting_step}
use Rattle.writer.proofs.format_rows.Goals as goal

pub returns-then-rows-ne0 : goal.returns-then-rows-ne0
returns-then-rows-ne0 c = let rows = c.args.rows.now in
    (formatting_odd ours rows c.if-rows-ne0.true, λ m. formatting_odd_held ours rows c.if-rows-ne0.true m)

pub loop-at-init : goal.loop-at-init
loop-at-init c = formatting_start ours c.args.rows.now c.args.held.now c.if-rows-ne0.false

pub returns-then-at : goal.returns-then-at
returns-then-at c =
    let i : c.loop-at.at * 4 < length c.args.rows.now = omega arith in
    let e : c.loop-at.at ≡ 60000 = omega (arith, c.loop-at.invariant.high) in (
      rw e at (formatting_over c.loop-at.invariant i (omega arith)),
      λ m. formatting_over_held c.loop-at.invariant i (omega arith) m,
    )

pub returns-then-not-are_numbers : goal.returns-then-not-are_numbers
returns-then-not-are_numbers c =
    let i : c.loop-at.at * 4 < length c.args.rows.now = omega arith in
    let bad = sym (c.are_numbers.ensures _ (sym c.count_numbers-count.ensures)) ∙ c.if-not-are_numbers.true in (
      formatting_bad c.loop-at.invariant i (omega arith) _ _ _ _ c.letter_at-code.ensures c.first-a.ensures
          c.second-b.ensures refl bad,
      λ m. formatting_bad_held c.loop-at.invariant i (omega arith) _ _ _ _ c.letter_at-code.ensures c.first-a.ensures
          c.second-b.ensures refl bad m,
    )

pub write_line-end-requires : goal.write_line-end-requires
write_line-end-requires c =
    let i : c.loop-at.at * 4 < length c.args.rows.now = omega arith in
    let good = sym (c.are_numbers.ensures _ (sym c.count_numbers-count.ensures)) ∙ c.if-not-are_numbers.false in (
      row_known _ _ _ _ good,
      formatting_fits c.loop-at.invariant i (omega arith) _ _ _ _ c.letter_at-code.ensures c.first-a.ensures
          c.second-b.ensures refl good c.requires,
      c.count_numbers-count.ensures,
    )

pub loop-at-preserved : goal.loop-at-preserved
loop-at-preserved c =
    let i : c.loop-at.at * 4 < length c.args.rows.now = omega arith in
    let good = sym (c.are_numbers.ensures _ (sym c.count_numbers-count.ensures)) ∙ c.if-not-are_numbers.false in
    let next : (c.loop-at.at + 1) * 4 ≡ c.loop-at.at * 4 + 4 = omega arith in
    rw next (formatting_step c.loop-at.invariant i (omega arith) _ _ _ _ c.letter_at-code.ensures c.first-a.ensures
    c.second-b.ensures refl good _ _ c.write_line-end.ensures.1 c.write_line-end.ensures.0)

pub returns : goal.returns
returns c =
    let i : length c.args.rows.now ≤ c.loop-at.at * 4 = omega arith in
    (formatting_done c.loop-at.invariant i, λ m. formatting_full c.loop-at.invariant i m)
