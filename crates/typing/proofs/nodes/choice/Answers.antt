-- `typing::nodes::choice` meets its contract. Assumes nothing.
use mathlib.Core.Path.{refl, sym, ap, ◌∙◌}
use mathlib.Core.Bool.{false≢true}
use Rattle.std.specs.Prelude.{Err}
use Rattle.language.specs.Effects.{join}
use Rattle.typing.specs.Nodes.{joined_answer}
use Rattle.typing.proofs.ChoiceLaws.{chosen_other, chosen_join}
use Rattle.typing.proofs.nodes.choice.Goals as goal

pub returns-in_default : goal.returns-in_default
returns-in_default c = record {
  out = ap Err c.refused.ensures ∙ chosen_other _ _ _ _ _ _ _ c.in_default.not-Bool;
  long = refl;
  rest = λ i l. refl;
  slots = λ x. absurd (false≢true x);
}

pub returns-in_default-join_types : goal.returns-in_default-join_types
unfolding joined_answer
returns-in_default-join_types c = record {
  out = ap Err c.refused-in_default-join_types.ensures
      ∙ chosen_join _ _ _ _ _ _ _ _ c.in-Bool.is (sym c.in_default-join_types.is ∙ c.join_types.ensures);
  long = refl;
  rest = λ i l. refl;
  slots = λ x. absurd (false≢true x);
}

pub returns : goal.returns
unfolding joined_answer join
returns c = record {
  out = chosen_join _ _ _ _ _ _ _ _ c.in-Bool.is (sym c.in-Some.is ∙ c.join_types.ensures);
  long = c.join_slots.ensures.long;
  rest = c.join_slots.ensures.rest;
  slots = λ x. c.join_slots.ensures.below;
}
