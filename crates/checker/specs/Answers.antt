-- The verdict as the code gives it.
use Rattle.std.specs.Prelude.{Result, Ok, Err}
use Rattle.language.specs.Verdict.{Verdict, accepted, refused}
use Rattle.language.specs.Refusals.{refusal}
use Rattle.language.specs.declared.Refusal.{Refusal}

abbrev pub verdict_case : Verdict → Result Unit Refusal
verdict_case accepted = Ok tt
verdict_case (refused number line) = Err (refusal number line)
