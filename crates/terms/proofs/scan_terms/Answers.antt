-- `terms::scan_terms` meets its contract. Assumes nothing.
use Rattle.std.proofs.Common.{sym, ◌∙◌, arith}
use Rattle.terms.proofs.Scanning.{scan_start, scan_line, scan_done, scan_malformed}
use Rattle.terms.proofs.Scanning.{scan_signing}
use Rattle.terms.proofs.Scanning.{scan_used, scan_reversed, scan_repeated, scan_step}
use Rattle.terms.proofs.Lines.{term_at}
use Rattle.terms.proofs.Tables.{marks_none, ruled_none}
use Rattle.terms.proofs.Entering.{entered_of, entered_other}
use Rattle.terms.proofs.scan_terms.Goals.{then-term-model, else-term-model}
use Rattle.terms.proofs.scan_terms.Goals as goal

pub loop-at-init : goal.loop-at-init
loop-at-init c = scan_start _ _ _ _ _ _ marks_none (ruled_none c.args.model c.args.days.first c.args.days.count (omega arith))

pub returns-in_default : goal.returns-in_default
returns-in_default c = rw c.refused.ensures (scan_malformed c.loop-at.invariant c.loop-at-test.true
    (term_at c.loop-at.at c.args.text.now (sym c.read_term.ensures ∙ c.in_default.is)))

pub is_marked-occurred-requires : goal.is_marked-occurred-requires
is_marked-occurred-requires c =
    let term = term_at c.loop-at.at c.args.text.now (sym c.read_term.ensures ∙ c.in-Some.is) in (
      scan_signing c.loop-at.invariant c.loop-at-test.true _ _ _ _ _ _ term,
      c.loop-at.invariant.marked.long,
    )

pub returns-then-term : goal.returns-then-term
returns-then-term c =
    let term = term_at c.loop-at.at c.args.text.now (sym c.read_term.ensures ∙ c.in-Some.is) in
    rw c.refused-then-term.ensures (scan_reversed c.loop-at.invariant c.loop-at-test.true _ _ _ _ _ _ term c.if-term.true)

pub returns-then-occurred : goal.returns-then-occurred
returns-then-occurred c =
    let term = term_at c.loop-at.at c.args.text.now (sym c.read_term.ensures ∙ c.in-Some.is) in
    rw c.refused-then-occurred.ensures (scan_repeated c.loop-at.invariant c.loop-at-test.true _ _ _ _ _ _ term
    (sym c.is_marked-occurred.ensures ∙ c.if-occurred.true))

pub mark-requires : goal.mark-requires
mark-requires c =
    let term = term_at c.loop-at.at c.args.text.now (sym c.read_term.ensures ∙ c.in-Some.is) in (
      scan_signing c.loop-at.invariant c.loop-at-test.true _ _ _ _ _ _ term,
      c.loop-at.invariant.marked.long,
    )

pub overflow_add-at : goal.overflow_add-at
overflow_add-at c =
    let term = term_at c.loop-at.at c.args.text.now (sym c.read_term.ensures ∙ c.in-Some.is) in
    omega (arith, (scan_used c.loop-at.invariant c.loop-at-test.true _ _ _ _ _ _ term).1)

pub overflow_add-line : goal.overflow_add-line
overflow_add-line c = omega (arith, (scan_line c.loop-at.invariant).1)

pub loop-at-smaller : goal.loop-at-smaller
loop-at-smaller c =
    let term = term_at c.loop-at.at c.args.text.now (sym c.read_term.ensures ∙ c.in-Some.is) in
    let used = scan_used c.loop-at.invariant c.loop-at-test.true _ _ _ _ _ _ term in
    omega (arith, used.0, used.1)

pub loop-at-preserved : goal.loop-at-preserved
loop-at-preserved c =
    let term = term_at c.loop-at.at c.args.text.now (sym c.read_term.ensures ∙ c.in-Some.is) in
    scan_step c.loop-at.invariant c.loop-at-test.true _ _ _ _ _ _ term _ _ c.if-term.false
    (sym c.is_marked-occurred.ensures ∙ c.if-occurred.false) (omega arith) c.mark.ensures
    (elim c.if-term-model.branch [
      | then-term-model w ↦
          w.table-is ∙ w.enter_days.ensures ∙ entered_of _ _ _ _ _ _ _ _ w.if-term-model.true
      | else-term-model w ↦ w.table-is ∙ entered_other _ _ _ _ _ _ _ _ w.if-term-model.false
    ])

pub returns : goal.returns
returns c = scan_done c.loop-at.invariant c.loop-at-test.false
