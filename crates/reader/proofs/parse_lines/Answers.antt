-- `reader::parse_lines` meets its contract. Assumes nothing.
use Rattle.std.proofs.Common.{sym, ◌∙◌}
use Rattle.language.specs.Alphabet.{ours}
use Rattle.text.proofs.Parsing.{parsing_start, parsing_done, parsing_full, parsing_over}
use Rattle.text.proofs.Parsing.{parsing_over_held, parsing_bad, parsing_bad_held, parsing_fits}
use Rattle.text.proofs.Parsing.{parsing_step}
use Rattle.reader.proofs.parse_lines.Goals as goal

pub loop-at-init : goal.loop-at-init
loop-at-init c = parsing_start ours c.args.text.now c.args.held.now

pub returns-then-line-gt-MOST_ROWS : goal.returns-then-line-gt-MOST_ROWS
returns-then-line-gt-MOST_ROWS c = (
  parsing_over c.loop-at.invariant c.loop-at-test.true c.if-line-gt-MOST_ROWS.true,
  λ m. parsing_over_held c.loop-at.invariant c.loop-at-test.true c.if-line-gt-MOST_ROWS.true m,
)

pub returns-in_default : goal.returns-in_default
returns-in_default c =
    let bad = sym c.read_line.ensures ∙ c.in_default.is in (
      parsing_bad c.loop-at.invariant c.loop-at-test.true c.if-line-gt-MOST_ROWS.false bad,
      λ m. parsing_bad_held c.loop-at.invariant c.loop-at-test.true c.if-line-gt-MOST_ROWS.false bad m,
    )

pub put_row-requires : goal.put_row-requires
put_row-requires c = parsing_fits c.loop-at.invariant c.loop-at-test.true c.if-line-gt-MOST_ROWS.false _ _ _ _
    (sym c.read_line.ensures ∙ c.in-Some.is) c.requires

pub loop-at-preserved : goal.loop-at-preserved
loop-at-preserved c = parsing_step c.loop-at.invariant c.loop-at-test.true c.if-line-gt-MOST_ROWS.false _ _ _ _
    (sym c.read_line.ensures ∙ c.in-Some.is) _ c.put_row.ensures

pub returns : goal.returns
returns c = (
  parsing_done c.loop-at.invariant c.loop-at-test.false,
  λ m. parsing_full c.loop-at.invariant c.loop-at-test.false m,
)
