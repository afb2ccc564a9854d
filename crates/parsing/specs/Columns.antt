-- The limits that a pass is given, as a column of document 01's table ("Lines and rows").
use Rattle.language.specs.Limits.{Most, of_check}
use Rattle.parsing.specs.declared.limits.Limits.{Limits}

-- The column: the numbers given, and the two that both columns share.
abbrev pub most_of : Limits → Most
most_of L = record {
  rows = L.rows;
  classes = L.classes;
  fields = L.fields;
  parameters = of_check.parameters;
  slots = L.slots;
  nesting = L.nesting;
  name = of_check.name;
}
