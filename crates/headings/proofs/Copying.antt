-- What clearing and copying a part of the table of classes leave. Assumes nothing.
use mathlib.Core.Path.{◌≡◌, refl}
use mathlib.Core.List.{List, ◌++◌}
use Prim.Native.Nat.{ℕ, ◌+◌, ◌≤◌, ◌<◌}
use native.Mathlib.Omega.{arith}
use lib.ListN.{length, get_or, set, drop, replicate}
use Rattle.std.proofs.lemmas.Grind.{common_steps}

-- A part of a list was copied to a place after it.
pub record Copied (T T' : List ℕ) (from to n : ℕ) : Type 0 where
  pub long : length T' ≡ length T
  pub part : (i : ℕ) → i < n → get_or T' (to + i) 0 ≡ get_or T (from + i) 0
  pub before : (j : ℕ) → j < to → get_or T' j 0 ≡ get_or T j 0
  pub after : (j : ℕ) → to + n ≤ j → get_or T' j 0 ≡ get_or T j 0

-- The first numbers are 0.
pub record Cleared (T T' : List ℕ) (n : ℕ) : Type 0 where
  pub long : length T' ≡ length T
  pub zero : (i : ℕ) → i < n → get_or T' i 0 ≡ 0

pub cleared : (T S : List ℕ) (n : ℕ) → n ≤ length T → S ≡ replicate n 0 → Cleared T (S ++ drop n T) n
cleared T S n l e = rw e (record {
  long = grind (arith, common_steps);
  zero = λ i h. grind (arith, common_steps);
})

-- A copy number by number: at its start, and after one more, wherever the code says it reads and writes.
pub copied_start : (T : List ℕ) (from to : ℕ) → Copied T T from to 0
copied_start T from to = record {
  long = refl;
  part = λ i l. omega (arith, l);
  before = λ j l. refl;
  after = λ j l. refl;
}

copied_next : (T T' : List ℕ) (from to i : ℕ) → Copied T T' from to i → from + i < to → to + i < length T
    → Copied T (set T' (to + i) (get_or T' (from + i) 0)) from to (i + 1)
copied_next T T' from to i c h k = record {
  long = grind (arith, common_steps, c.long);
  part = λ j l. grind (arith, common_steps, c.long, c.part j, c.before (from + j));
  before = λ j l. grind (arith, common_steps, c.before j l);
  after = λ j l. grind (arith, common_steps, c.after j);
}

pub copied_step : (T T' : List ℕ) (from to i p q n : ℕ) → Copied T T' from to i → from + i < to → to + i < length T
    → p ≡ from + i → q ≡ to + i → n ≡ i + 1 → Copied T (set T' q (get_or T' p 0)) from to n
copied_step T T' from to i p q n c h k a b d = rw (a, b, d) (copied_next T T' from to i c h k)
