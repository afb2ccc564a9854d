-- Texts written one number after the other, and how long they are. Assumes nothing.
use mathlib.Core.Path.{◌≡◌, refl, ◌∙◌}
use mathlib.Core.Bool.{Bool, true, false}
use mathlib.Core.List.{List, [], ◌∷◌, ◌++◌}
use Prim.Native.Nat.{ℕ, zero, suc, ◌+◌, ◌*◌, ◌/◌, ◌≤◌, ◌<◌}
use native.Mathlib.Numerals.{add-one}
use native.Mathlib.Omega.{arith}
use borrow.Author.Tests.{ltb-true, ltb-false}
use lib.Dec.{ltb}
use lib.ListN.{length, set, length-append}
use lib.Seq.{sets}
use Rattle.language.proofs.Filling.{sets_then}
use Rattle.language.specs.Decimals.{digits}
use Rattle.fields.proofs.Decimals.{length_low, length_high}
use Rattle.language.specs.Printed.{number_text, refusal_text, counts_text}

-- ten digits are enough for a number of 32 bits
abbrev tens : ℕ → ℕ
tens zero = 1
tens (suc k) = 10 * tens k

digits_few : (k n : ℕ) → n < tens (suc k) → length (digits n) ≤ suc k
digits_few zero n h = omega (arith, length_low n (omega (arith, h)))
digits_few (suc k) n h = go (ltb n 10) refl (λ l. digits_few k (n / 10) (omega (arith, h)))
  where
    go : (t : Bool) → ltb n 10 ≡ t → (10 ≤ n → length (digits (n / 10)) ≤ suc k)
        → length (digits n) ≤ suc (suc k)
    go true e ih = omega (arith, length_low n (ltb-true n 10 e))
    go false e ih = let l : 10 ≤ n = ltb-false n 10 e in omega (arith, length_high n l, ih l)

pub digits_ten : (n : ℕ) → n < 4294967296 → length (digits n) ≤ 10
digits_ten n h = digits_few 9 n (omega (arith, h))

-- a letter, then a number
pub numbered_written : (l : List ℕ) (at x n : ℕ)
    → sets (set l at x) (at + 1) (number_text n) ≡ sets l at (x ∷ number_text n)
numbered_written l at x n = rw (add-one at)

module _ (number line : ℕ) where
  pub refusal_long : length (refusal_text number line) ≡ 4 + length (digits number) + length (digits line)
  unfolding refusal_text
  refusal_long = simp length-append (omega arith)

  pub refusal_written : (l : List ℕ) (at then end : ℕ) → then ≡ at + length (33 ∷ number_text number)
      → end ≡ then + 1 + length (digits line)
      → set (sets (sets l at (33 ∷ number_text number)) then (number_text line)) end 10
      ≡ sets l at (refusal_text number line)
  unfolding refusal_text
  refusal_written l at then end p q =
      sets_then (sets l at (33 ∷ number_text number)) then end (number_text line) (10 ∷ []) (omega (arith, q))
      ∙ sets_then l at then (33 ∷ number_text number) (number_text line ++ (10 ∷ [])) p

module _ (steps objects changes : ℕ) where
  pub counts_long : length (counts_text steps objects changes)
      ≡ 4 + length (digits steps) + length (digits objects) + length (digits changes)
  unfolding counts_text
  counts_long = simp length-append (omega arith)

  pub counts_written : (l : List ℕ) (at first second end : ℕ)
      → first ≡ at + 1 + length (digits steps) → second ≡ first + 1 + length (digits objects)
      → end ≡ second + 1 + length (digits changes)
      → set (sets (sets (sets l at (number_text steps)) first (number_text objects)) second
      (number_text changes)) end 10
      ≡ sets l at (counts_text steps objects changes)
  unfolding counts_text
  counts_written l at first second end p q r =
      sets_then (sets (sets l at (number_text steps)) first (number_text objects)) second end
      (number_text changes) (10 ∷ []) (omega (arith, r))
      ∙ sets_then (sets l at (number_text steps)) first second (number_text objects)
      (number_text changes ++ (10 ∷ [])) (omega (arith, q))
      ∙ sets_then l at first (number_text steps) (number_text objects ++ (number_text changes ++ (10 ∷ [])))
      (omega (arith, p))

-- one text after the other
pub both_long : (at then end : ℕ) (xs ys : List ℕ) → then ≡ at + length xs → end ≡ then + length ys
    → end ≡ at + length (xs ++ ys)
both_long at then end xs ys p q = omega (arith, p, q, length-append xs ys)
