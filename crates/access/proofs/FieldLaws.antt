-- Laws of fields sought, and of what is no class. Assumes nothing.
use mathlib.Core.Path.{◌≡◌, refl, sym, ap}
use mathlib.Core.List.{List, [], ◌∷◌}
use Prim.Native.Nat.{ℕ, zero, suc, ◌+◌, ◌*◌, ◌≤◌}
use lib.ListN.{length, get_or, set as replaced}
use Rattle.types.specs.declared.Typing.{Typing}
use Rattle.types.specs.declared.Typing.TheVariants.{Bool as Bool_case, Class, Null}
use Rattle.types.specs.Tables.{applied}
use Rattle.access.specs.Fields.{Sought, field_in}
use Rattle.access.specs.Fields.{NoClass}
use native.Mathlib.Omega.{arith}

-- what is not a class
pub no_class_of : (t : Typing) → ((c : ℕ) → t ≡ Class c → ⊥) → NoClass t
no_class_of Bool_case k = tt
no_class_of (Class c) k = absurd (k c refl)
no_class_of Null k = tt

-- a list stays as it is where a number past its end is replaced
pub replaced_past : (l : List ℕ) (i n : ℕ) → length l ≤ i → l ≡ replaced l i n
replaced_past [] i n h = refl
replaced_past (x ∷ l) zero n h = absurd (omega arith)
replaced_past (x ∷ l) (suc i) n h = ap (λ (k : List ℕ). x ∷ k) (replaced_past l i n (omega arith))

-- a field sought after an effect
pub found_after : (R T : List ℕ) (at φ c k f : ℕ) → k ≡ applied T φ c → f ≡ get_or R (at * 4 + 1) 0
    → (s : Sought)
    → s ≡ field_in R T k f → field_in R T (applied T φ c) (get_or R (at * 4 + 1) 0) ≡ s
found_after R T at φ c k f ek f-is s es = rw (← ek, ← f-is) (sym es)
