-- `terms::read_term` meets its contract. Assumes nothing.
use Rattle.std.proofs.Common.{sym, ◌∙◌}
use Rattle.terms.proofs.Lines.{no_first, no_second, no_third, no_fourth, no_fifth, all_five}
use Rattle.terms.proofs.Lines.{ended_past, ended_other, ended_feed}
use Rattle.terms.proofs.read_term.Goals.{then-s-at-via-then-s-at, then-s-at-via-else-s-at+then-s-at-ne10}
use Rattle.terms.proofs.read_term.Goals as goal

pub returns-in_err-model : goal.returns-in_err-model
returns-in_err-model c = c.from_residual.ensures ∙ no_first _ (sym c.read_first.ensures ∙ c.in_err-model.was)

pub returns-in_err-first : goal.returns-in_err-first
returns-in_err-first c =
    let one = sym c.read_first.ensures ∙ c.in_ok-model.was in
    c.from_residual-in_err-first.ensures ∙ no_second _ one (sym c.read_number.ensures ∙ c.in_err-first.was)

pub returns-in_err-last : goal.returns-in_err-last
returns-in_err-last c =
    let one = sym c.read_first.ensures ∙ c.in_ok-model.was in
    let two = sym c.read_number.ensures ∙ c.in_ok-first.was in
    c.from_residual-in_err-last.ensures ∙ no_third _ one two (sym c.read_number-2.ensures ∙ c.in_err-last.was)

pub returns-in_err-cents : goal.returns-in_err-cents
returns-in_err-cents c =
    let one = sym c.read_first.ensures ∙ c.in_ok-model.was in
    let two = sym c.read_number.ensures ∙ c.in_ok-first.was in
    let three = sym c.read_number-2.ensures ∙ c.in_ok-last.was in
    c.from_residual-in_err-cents.ensures
    ∙ no_fourth _ one two three (sym c.read_number-3.ensures ∙ c.in_err-cents.was)

pub returns-in_err-signing : goal.returns-in_err-signing
returns-in_err-signing c =
    let one = sym c.read_first.ensures ∙ c.in_ok-model.was in
    let two = sym c.read_number.ensures ∙ c.in_ok-first.was in
    let three = sym c.read_number-2.ensures ∙ c.in_ok-last.was in
    let four = sym c.read_number-3.ensures ∙ c.in_ok-cents.was in
    c.from_residual-in_err-signing.ensures
    ∙ no_fifth _ one two three four (sym c.read_number-4.ensures ∙ c.in_err-signing.was)

pub returns-then-s-at : goal.returns-then-s-at
returns-then-s-at c =
    let one = sym c.read_first.ensures ∙ c.in_ok-model.was in
    let two = sym c.read_number.ensures ∙ c.in_ok-first.was in
    let three = sym c.read_number-2.ensures ∙ c.in_ok-last.was in
    let four = sym c.read_number-3.ensures ∙ c.in_ok-cents.was in
    let five = sym c.read_number-4.ensures ∙ c.in_ok-signing.was in
    all_five _ one two three four five (elim c.then-s-at.branch [
      | then-s-at-via-then-s-at w ↦ ended_past _ _ _ _ _ _ _ w.if-s-at.true
      | then-s-at-via-else-s-at+then-s-at-ne10 w ↦ ended_other _ _ _ _ _ _ _ w.if-s-at.false w.if-s-at-ne10.true
    ])

pub returns : goal.returns
returns c =
    let one = sym c.read_first.ensures ∙ c.in_ok-model.was in
    let two = sym c.read_number.ensures ∙ c.in_ok-first.was in
    let three = sym c.read_number-2.ensures ∙ c.in_ok-last.was in
    let four = sym c.read_number-3.ensures ∙ c.in_ok-cents.was in
    let five = sym c.read_number-4.ensures ∙ c.in_ok-signing.was in
    all_five _ one two three four five (ended_feed _ _ _ _ _ _ _ c.if-s-at.false c.if-s-at-ne10.false)
