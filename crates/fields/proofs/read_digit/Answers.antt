-- `fields::read_digit` meets its contract. Assumes nothing.
use Rattle.std.proofs.Common.{refl}
use native.Mathlib.Omega.{arith}
use borrow.Author.Tests.{le-leb, lt-leb}
use Rattle.language.specs.Decimals.{digit_of}
use Rattle.fields.proofs.read_digit.Goals as goal

pub returns-in-48-to-57 : goal.returns-in-48-to-57
unfolding digit_of
returns-in-48-to-57 c =
    rw (c.from.ensures, le-leb 48 c.args.b (omega arith), le-leb c.args.b 57 (omega arith)) refl

pub returns-in_default : goal.returns-in_default
unfolding digit_of
returns-in_default c = simp (lt-leb 48 c.args.b (omega arith))

pub returns-in_default-2 : goal.returns-in_default-2
unfolding digit_of
returns-in_default-2 c = let b = c.args.b in
    simp (le-leb 48 b (omega arith), lt-leb b 57 (omega arith))
