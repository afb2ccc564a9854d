-- Laws of lists and of tests that the laws of typing use. Assumes nothing.
use mathlib.Core.Path.{◌≡◌, ap}
use mathlib.Core.Option.{some}
use mathlib.Core.List.{List, [], ◌∷◌, map}
use mathlib.Core.Bool.{Bool, true, false, cond}
use Prim.Native.Nat.{ℕ, zero, suc}
use borrow.Author.Tests.{leb-true, leb-false, le-ltb, lt-ltb}
use lib.ListN.{get_or}
use lib.Dec.{leb, ltb}
use Rattle.language.specs.Lists.{nth, Never, inj}

-- The two tests of a class's number.
pub declared_test : (c n : ℕ) (b : Bool) → leb c n ≡ b → ltb n c ≡ cond b false true
declared_test c n true e = le-ltb n c (leb-true c n e)
declared_test c n false e = lt-ltb n c (leb-false c n e)

-- The number that a function makes of the i-th member.
pub number_at : {X : Type 0} (f : X → ℕ) (l : List X) (i : ℕ) (x : X) → nth l i ≡ some x
    → get_or (map f l) i 0 ≡ f x
unfolding nth
number_at f [] i x e = absurd (Never e)
number_at f (y ∷ l) zero x e = ap f (inj e)
number_at f (y ∷ l) (suc i) x e = number_at f l i x e
