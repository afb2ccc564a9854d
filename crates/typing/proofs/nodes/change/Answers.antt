-- `typing::nodes::change` meets its contract. Assumes nothing.
use mathlib.Core.Path.{ap, ◌∙◌}
use native.Mathlib.Omega.{arith}
use Rattle.std.specs.Prelude.{Err}
use Rattle.std.proofs.lemmas.Grind.{common_steps}
use Rattle.language.specs.Effects.{effect_of}
use Rattle.types.proofs.Laws.{known_class, known_same, applicable_known}
use Rattle.typing.specs.Nodes.{changed_answer}
use Rattle.typing.proofs.ChangeLaws.{refused_change, changed_slots}
use Rattle.typing.proofs.nodes.change.Goals as goal

pub returns-then-scope-target : goal.returns-then-scope-target
unfolding changed_answer
returns-then-scope-target c = refused_change _ 4 (ap Err c.refused.ensures) (grind (arith, common_steps))

pub returns-then-scope-k : goal.returns-then-scope-k
unfolding changed_answer
returns-then-scope-k c = refused_change _ 7 (ap Err c.refused-then-scope-k.ensures) (grind (arith, common_steps))

pub returns-then-number-eq-NO_TYPE : goal.returns-then-number-eq-NO_TYPE
unfolding changed_answer
returns-then-number-eq-NO_TYPE c = refused_change _ 7 (ap Err c.refused-then-number-eq-NO_TYPE.ensures)
    (grind (arith, common_steps))

pub returns-then-number-eq-BOOL : goal.returns-then-number-eq-BOOL
unfolding changed_answer
returns-then-number-eq-BOOL c = refused_change _ 11 (ap Err c.refused-then-number-eq-BOOL.ensures)
    (grind (arith, common_steps))

pub can_change-requires : goal.can_change-requires
can_change-requires c =
    let l = known_class (known_same c.current-number.ensures (c.requires.slots _ c.if-scope-k.false))
    c.if-number-eq-BOOL.false c.if-number-eq-NO_TYPE.false in
    (omega (arith, l, c.requires.long), omega (arith, c.requires.long))

pub effect_of-effect-requires : goal.effect_of-effect-requires
effect_of-effect-requires c = omega (arith, c.class_entry.ensures, c.requires.roots _ c.if-scope-target.false)

pub apply_all-requires : goal.apply_all-requires
apply_all-requires c = record {
  size_in_bounds = c.requires.scoped;
  by_index = λ k l.
      applicable_known c.requires.few c.requires.long c.requires.roots (c.requires.slots k l);
}

pub returns : goal.returns
unfolding changed_answer
returns c = record {
  out = grind (arith, common_steps);
  long = grind (arith, common_steps);
  rest = grind (arith, common_steps);
  slots = λ x. rw (← c.first-k.ensures, ← c.second-target.ensures)
      (changed_slots _ _ _ _ _ _ _ _ c.if-scope-k.false c.requires.scoped
      (c.effect_of-effect.ensures ∙ ap effect_of c.class_entry.ensures) c.apply_all.ensures
      c.with_current.ensures);
}
