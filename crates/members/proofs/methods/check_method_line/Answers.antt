-- `members::methods::check_method_line` meets its contract. Assumes nothing.
use Rattle.std.proofs.Common.{rules, ◌≡◌, ◌+◌, true, cond, sym, ap, ◌∙◌}
use Rattle.language.specs.Tree.{type_of_number}
use Rattle.language.specs.World.{is_declared_type}
use Rattle.language.specs.Program.{world}
use Rattle.members.proofs.Checks.{same_fault}
use Rattle.members.proofs.MethodLaws.{method_undeclared, method_twice, method_first, override_ready}
use Rattle.members.proofs.MethodLaws.{method_overrides}
use Rattle.members.proofs.methods.check_method_line.Goals as goal
use Rattle.members.proofs.methods.check_method_line.Goals.{then-entry-eq0-via-then-entry-eq0, then-entry-eq0-via-else-entry-eq0+then-may_override}
use Rattle.members.proofs.methods.check_method_line.Goals.{then-not-is_declared-via-then-not-is_declared, then-not-is_declared-via-else-not-is_declared+then-owner-entry}

pub returns-then-not-is_declared : goal.returns-then-not-is_declared
returns-then-not-is_declared c = λ w. same_fault (c.args.heading.row + 1) (elim c.then-not-is_declared.branch [
  | then-not-is_declared-via-then-not-is_declared b ↦
      method_undeclared w _ c.first.ensures
      (sym (c.is_declared.ensures w.line.program.classes w.line.count_is) ∙ search rules)
  | then-not-is_declared-via-else-not-is_declared+then-owner-entry b ↦
      method_twice w _ _ c.first.ensures c.second-name.ensures
      (sym (c.is_declared.ensures w.line.program.classes w.line.count_is) ∙ search rules)
      (rw c.from-entry.ensures at b.if-owner-entry.true)
])

pub may_override-requires : goal.may_override-requires
may_override-requires c = rw c.from-entry.ensures (override_ready c.requires _ _ c.first.ensures c.second-name.ensures
    (sym (c.is_declared.ensures c.requires.line.program.classes c.requires.line.count_is) ∙ search rules)
    (rw c.from-entry.ensures at c.if-owner-entry.false) (rw c.from-entry.ensures at c.if-entry-eq0.false))

pub returns-then-entry-eq0 : goal.returns-then-entry-eq0
returns-then-entry-eq0 c = λ w.
    let known : is_declared_type (world w.line.program.classes) (type_of_number c.first.result) ≡ true =
    sym (c.is_declared.ensures w.line.program.classes w.line.count_is) ∙ search rules in
    let low = rw c.from-entry.ensures at c.if-owner-entry.false in
    same_fault (c.args.heading.row + 1) (elim c.then-entry-eq0.branch [
      | then-entry-eq0-via-then-entry-eq0 b ↦
          method_first w _ _ c.first.ensures c.second-name.ensures known low
          (rw c.from-entry.ensures at b.if-entry-eq0.true)
      | then-entry-eq0-via-else-entry-eq0+then-may_override b ↦
          ap (λ b. cond b 0 6) (sym b.if-may_override.true)
          ∙ method_overrides w _ _ c.first.ensures c.second-name.ensures known low
          (rw c.from-entry.ensures at b.if-entry-eq0.false) b.may_override.result
          (rw c.from-entry.ensures at b.may_override.ensures)
    ])

pub returns : goal.returns
returns c = λ w.
    let known : is_declared_type (world w.line.program.classes) (type_of_number c.first.result) ≡ true =
    sym (c.is_declared.ensures w.line.program.classes w.line.count_is) ∙ search rules in
    same_fault (c.args.heading.row + 1) (ap (λ b. cond b 0 6) (sym c.if-may_override.false)
    ∙ method_overrides w _ _ c.first.ensures c.second-name.ensures known
    (rw c.from-entry.ensures at c.if-owner-entry.false) (rw c.from-entry.ensures at c.if-entry-eq0.false)
    c.may_override.result (rw c.from-entry.ensures at c.may_override.ensures))
