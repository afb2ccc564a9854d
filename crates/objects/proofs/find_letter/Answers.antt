use mathlib.Core.Path.{sym, ◌∙◌}
use native.Mathlib.Omega.{arith}
use Rattle.objects.proofs.Finding.{not_past}
use Rattle.objects.proofs.find_letter.Goals as goal

pub returns : goal.returns
returns c = record {
  later = c.loop-b.invariant.0;
  short = omega (
    arith,
    not_past c.requires.from c.loop-b.b
        c.loop-b.invariant.1,
    c.requires.from.short,
  );
  between = c.loop-b.invariant.1;
  letter = sym c.letter_at.ensures ∙ c.loop-b-test.false;
}
