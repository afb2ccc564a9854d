-- `members::fields::check_field` meets its contract. Assumes nothing.
use Rattle.std.proofs.Common.{◌≡◌, ◌+◌, true, rules, sym, ◌∙◌}
use Rattle.language.specs.Tree.{type_of_number}
use Rattle.language.specs.World.{is_declared_type}
use Rattle.language.specs.Program.{world}
use Rattle.members.specs.Ready.{StateReady}
use Rattle.members.proofs.Checks.{same_fault}
use Rattle.members.proofs.FieldLaws.{field_full, field_undeclared, field_twice, field_state, field_fine}
use Rattle.members.proofs.fields.check_field.Goals as goal
use Rattle.members.proofs.fields.check_field.Goals.{then-not-is_declared-via-then-not-is_declared, then-not-is_declared-via-else-not-is_declared+then-tables-base-ne0}

pub returns-then-tables-base-ge-MOST_FIELDS : goal.returns-then-tables-base-ge-MOST_FIELDS
returns-then-tables-base-ge-MOST_FIELDS c = λ w. same_fault (c.args.r + 1)
    (field_full w c.if-tables-base-ge-MOST_FIELDS.true)

pub returns-then-not-is_declared : goal.returns-then-not-is_declared
returns-then-not-is_declared c = λ w.
    same_fault (c.args.r + 1) (elim c.then-not-is_declared.branch [
      | then-not-is_declared-via-then-not-is_declared b ↦
          field_undeclared w c.if-tables-base-ge-MOST_FIELDS.false c.first-t.result c.first-t.ensures
          (sym (c.is_declared.ensures w.P w.count_is) ∙ search rules)
      | then-not-is_declared-via-else-not-is_declared+then-tables-base-ne0 b ↦
          field_twice w c.if-tables-base-ge-MOST_FIELDS.false c.first-t.result c.first-t.ensures
          (sym (c.is_declared.ensures w.P w.count_is) ∙ search rules)
          c.second-name.result c.second-name.ensures b.if-tables-base-ne0.true
    ])

pub returns-then-is_state : goal.returns-then-is_state
returns-then-is_state c = λ w.
    let known : is_declared_type (world w.P) (type_of_number c.first-t.result) ≡ true =
    sym (c.is_declared.ensures w.P w.count_is) ∙ search rules in
    let ready : StateReady c.args.tables.now c.first-t.result =
    record { P = w.P; k = w.k; lookups = w.working.lookups; known = known } in
    same_fault (c.args.r + 1) (field_state w c.if-tables-base-ge-MOST_FIELDS.false c.first-t.result c.first-t.ensures
    known c.second-name.result c.second-name.ensures c.if-tables-base-ne0.false c.is_state.result
    (c.is_state.ensures ready) c.if-is_state.true)

pub returns : goal.returns
returns c = λ w.
    let known : is_declared_type (world w.P) (type_of_number c.first-t.result) ≡ true =
    sym (c.is_declared.ensures w.P w.count_is) ∙ search rules in
    let ready : StateReady c.args.tables.now c.first-t.result =
    record { P = w.P; k = w.k; lookups = w.working.lookups; known = known } in
    same_fault (c.args.r + 1) (field_fine w c.if-tables-base-ge-MOST_FIELDS.false c.first-t.result c.first-t.ensures
    known c.second-name.result c.second-name.ensures c.if-tables-base-ne0.false c.is_state.result
    (c.is_state.ensures ready) c.if-is_state.false)
