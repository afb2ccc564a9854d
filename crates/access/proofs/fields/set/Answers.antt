-- `access::fields::set` meets its contract. Assumes nothing.
use mathlib.Core.Path.{◌∙◌}
use Rattle.access.proofs.FieldLaws.{found_after}
use Rattle.access.proofs.fields.set.Goals as goal

pub apply-class-requires : goal.apply-class-requires
apply-class-requires c = let w = (c.requires.object _ c.in-Class.is).0 in (w.inside, w.root)

pub is_fitting-requires-clause-number_le_classes : goal.is_fitting-requires-clause-number_le_classes
is_fitting-requires-clause-number_le_classes c = c.requires.declared _ _ c.in-Class.is
    (found_after _ _ _ _ _ _ _ c.apply-class.ensures c.first.ensures _ c.field_type.ensures ∙ c.in-Some.is)
