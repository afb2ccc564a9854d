-- `members::methods::check_effect` meets its contract. Assumes nothing.
use Rattle.members.proofs.Checks.{same_fault}
use Rattle.members.proofs.Tables.{effect_undeclared, effect_no_root, effect_order}
use Rattle.members.proofs.Tables.{effect_fine}
use Rattle.members.proofs.methods.check_effect.Goals as goal
use Rattle.members.proofs.methods.check_effect.Goals.{then-class_entry-ne-ROOT_KIND-via-then-class_entry-ne-ROOT_KIND, then-class_entry-ne-ROOT_KIND-via-else-class_entry-ne-ROOT_KIND+then-c-last}

pub returns-then-count-c : goal.returns-then-count-c
returns-then-count-c c = λ w. same_fault c.args.line (effect_undeclared w c.args.c c.args.last c.if-count-c.true)

pub returns-then-class_entry-ne-ROOT_KIND : goal.returns-then-class_entry-ne-ROOT_KIND
returns-then-class_entry-ne-ROOT_KIND c = λ w. same_fault c.args.line (elim c.then-class_entry-ne-ROOT_KIND.branch [
  | then-class_entry-ne-ROOT_KIND-via-then-class_entry-ne-ROOT_KIND b ↦
      effect_no_root w c.args.c c.args.last c.if-count-c.false c.class_entry.result c.class_entry.ensures b.if-class_entry-ne-ROOT_KIND.true
  | then-class_entry-ne-ROOT_KIND-via-else-class_entry-ne-ROOT_KIND+then-c-last b ↦
      effect_order w c.args.c c.args.last c.if-count-c.false c.class_entry.result c.class_entry.ensures b.if-class_entry-ne-ROOT_KIND.false b.if-c-last.true
])

pub returns : goal.returns
returns c = λ w. same_fault c.args.line (effect_fine w c.args.c c.args.last c.if-count-c.false c.class_entry.result
    c.class_entry.ensures c.if-class_entry-ne-ROOT_KIND.false c.if-c-last.false)
