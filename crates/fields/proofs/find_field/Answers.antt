-- `fields::find_field` meets its contract. Assumes nothing.
use Rattle.std.proofs.Common.{ap, sym, ◌∙◌}
use Rattle.std.proofs.lemmas.List.{take_rest}
use Rattle.language.specs.TextLines.{field}
use Rattle.fields.proofs.Fields.{field_cut, field_whole}
use Rattle.fields.proofs.find_field.Goals as goal

pub returns-in-Some : goal.returns-in-Some
returns-in-Some c = field_cut _ _ (sym c.find_end.ensures ∙ c.in-Some.is) ∙ ap field (take_rest c.args.s.now c.args.at)

pub returns-in-None : goal.returns-in-None
returns-in-None c = field_whole _ (sym c.find_end.ensures ∙ c.in-None.is) ∙ ap field (take_rest c.args.s.now c.args.at)
