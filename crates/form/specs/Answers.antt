-- The answer of the pass over form (document 01, "Refusals and stops").
use Rattle.std.specs.Prelude.{Result, length}
use Rattle.language.specs.declared.Refusal.{Refusal}
use Rattle.language.specs.Refusals.{result_of}
use Rattle.language.specs.Results.{Checked}
use Rattle.language.specs.Tree.{classes_lines, Program}
use Rattle.form.specs.declared.Formed.{Formed}

-- What it finds of a program: how many classes, and the row of the S line.
abbrev pub found : Program → Formed
found p = record { classes = length p.classes; start = classes_lines p.classes }

abbrev pub formed_of : Checked Program → Result Formed Refusal
formed_of = result_of found
