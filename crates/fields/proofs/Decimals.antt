-- Laws of decimal numbers. Assumes nothing.
use mathlib.Core.Path.{◌≡◌, refl, sym, ap, ◌∙◌}
use mathlib.Core.Bool.{Bool, true, false, cond}
use mathlib.Core.List.{List, [], ◌∷◌, ◌++◌}
use Prim.Native.Nat.{ℕ, zero, suc, ◌+◌, ◌-◌, ◌*◌, ◌/◌, ◌%◌, ◌≤◌, ◌<◌}
use native.Mathlib.Numerals.{add-one}
use native.Mathlib.Omega.{arith}
use borrow.Author.Tests.{le-leb, lt-leb, leb-true, lt-ltb, le-ltb, ltb-true, ltb-false}
use lib.Dec.{leb, ltb}
use lib.ListN.{length, get_or, drop, set, length-append}
use lib.Seq.{drop-cons, drop-length, sets}
use Rattle.language.proofs.Filling.{sets_append}
use Rattle.std.specs.Prelude.{Option, Some, None}
use Rattle.language.specs.Decimals.{scan, digit_of, add_digit, digits_in, digits}

pub scan_bad : (s : List ℕ) → scan None s ≡ None
unfolding scan
scan_bad [] = refl
scan_bad (b ∷ bs) = refl

pub digit_low : (v k : ℕ) → v * 10 + k ≤ 65535 → add_digit v (Some k) ≡ Some (v * 10 + k)
digit_low v k h = rw (le-leb (v * 10 + k) 65535 h)

pub digit_high : (v k : ℕ) → 65535 < v * 10 + k → add_digit v (Some k) ≡ None
digit_high v k h = rw (lt-leb (v * 10 + k) 65535 h)

-- one more byte: no digit, a digit too many, or a digit
module _ (s : List ℕ) (i v : ℕ) (h : i < length s) where
  scan_more : scan (Some v) (drop i s) ≡ scan (add_digit v (digit_of (get_or s i 0))) (drop (i + 1) s)
  unfolding scan
  scan_more = rw (drop-cons s i 0 h, add-one i)

  pub scan_stops : digit_of (get_or s i 0) ≡ None → scan (Some v) (drop i s) ≡ None
  scan_stops d = rw (scan_more, d) (scan_bad (drop (i + 1) s))

  module _ (k : ℕ) (d : digit_of (get_or s i 0) ≡ Some k) where
    pub scan_high : 65535 < v * 10 + k → scan (Some v) (drop i s) ≡ None
    scan_high l = rw (scan_more, d, lt-leb (v * 10 + k) 65535 l) (scan_bad (drop (i + 1) s))

    pub scan_low : v * 10 + k ≤ 65535 → scan (Some v) (drop i s) ≡ scan (Some (v * 10 + k)) (drop (i + 1) s)
    scan_low l = rw (scan_more, d, le-leb (v * 10 + k) 65535 l)

pub scan_end : (s : List ℕ) (i v : ℕ) → i ≡ length s → scan (Some v) (drop i s) ≡ Some v
unfolding scan
scan_end s i v h = ap (λ (k : ℕ). scan (Some v) (drop k s)) h ∙ ap (scan (Some v)) (drop-length s)

abbrev payload : Option ℕ → ℕ
payload (Some k) = k
payload None = 0

low_pick : (t : Bool) (x y : Option ℕ) → (t ≡ true → payload x ≤ 9) → payload y ≤ 9 → payload (cond t x y) ≤ 9
low_pick true x y f g = f refl
low_pick false x y f g = g

pub digit_small : (b k : ℕ) → digit_of b ≡ Some k → k ≤ 9
unfolding digit_of
digit_small b k e =
    let h : payload (digit_of b) ≤ 9 =
    low_pick (leb 48 b) (cond (leb b 57) (Some (b - 48)) None) None
    (λ p. low_pick (leb b 57) (Some (b - 48)) None (λ q. omega (arith, leb-true b 57 q)) (omega arith))
    (omega arith) in
    omega (arith, ap payload e)

-- the digits of a number: one below ten, else those of its tenth and its last
fuel : (k m n : ℕ) → n < k → n < m → digits_in k n ≡ digits_in m n
unfolding digits_in
fuel zero m n h l = absurd (omega (arith, h))
fuel (suc k) zero n h l = absurd (omega (arith, l))
fuel (suc k) (suc m) n h l =
    go (ltb n 10) refl (λ q. fuel k m (n / 10) (omega (arith, h, q)) (omega (arith, l, q)))
  where
    go : (t : Bool) → ltb n 10 ≡ t → (10 ≤ n → digits_in k (n / 10) ≡ digits_in m (n / 10))
        → cond t ((48 + n) ∷ []) (digits_in k (n / 10) ++ ((48 + n % 10) ∷ []))
        ≡ cond t ((48 + n) ∷ []) (digits_in m (n / 10) ++ ((48 + n % 10) ∷ []))
    go true e ih = refl
    go false e ih = ap (λ (s : List ℕ). s ++ ((48 + n % 10) ∷ [])) (ih (ltb-false n 10 e))

pub digits_low : (n : ℕ) → n < 10 → digits n ≡ (48 + n) ∷ []
unfolding digits digits_in
digits_low n h = rw (lt-ltb n 10 h)

pub digits_high : (n : ℕ) → 10 ≤ n → digits n ≡ digits (n / 10) ++ ((48 + n % 10) ∷ [])
unfolding digits digits_in
digits_high n h = rw (le-ltb n 10 h) (ap (λ (s : List ℕ). s ++ ((48 + n % 10) ∷ []))
    (fuel n (suc (n / 10)) (n / 10) (omega arith) (omega arith)))

-- how many they are
pub length_low : (n : ℕ) → n < 10 → length (digits n) ≡ 1
length_low n h = ap length (digits_low n h)

pub length_high : (n : ℕ) → 10 ≤ n → length (digits n) ≡ length (digits (n / 10)) + 1
length_high n h = ap length (digits_high n h) ∙ length-append (digits (n / 10)) ((48 + n % 10) ∷ [])

-- as many as the powers of ten up to the number
pub length_2 : (n : ℕ) → 10 ≤ n → n < 100 → length (digits n) ≡ 2
length_2 n h l = omega (arith, length_high n h, length_low (n / 10) (omega arith))

pub length_3 : (n : ℕ) → 100 ≤ n → n < 1000 → length (digits n) ≡ 3
length_3 n h l = omega (arith, length_high n (omega arith), length_2 (n / 10) (omega arith) (omega arith))

pub length_4 : (n : ℕ) → 1000 ≤ n → n < 10000 → length (digits n) ≡ 4
length_4 n h l = omega (arith, length_high n (omega arith), length_3 (n / 10) (omega arith) (omega arith))

pub length_5 : (n : ℕ) → 10000 ≤ n → n < 100000 → length (digits n) ≡ 5
length_5 n h l = omega (arith, length_high n (omega arith), length_4 (n / 10) (omega arith) (omega arith))

pub length_most : (n : ℕ) → n ≤ 65535 → length (digits n) ≤ 5
length_most n h = go (ltb n 10) refl (ltb n 100) refl (ltb n 1000) refl (ltb n 10000) refl
  where
    go : (t₁ : Bool) → ltb n 10 ≡ t₁ → (t₂ : Bool) → ltb n 100 ≡ t₂ → (t₃ : Bool) → ltb n 1000 ≡ t₃
        → (t₄ : Bool) → ltb n 10000 ≡ t₄ → length (digits n) ≤ 5
    go true e t₂ e₂ t₃ e₃ t₄ e₄ = omega (arith, length_low n (ltb-true n 10 e))
    go false e true e₂ t₃ e₃ t₄ e₄ = omega (arith, length_2 n (ltb-false n 10 e) (ltb-true n 100 e₂))
    go false e false e₂ true e₃ t₄ e₄ = omega (arith, length_3 n (ltb-false n 100 e₂) (ltb-true n 1000 e₃))
    go false e false e₂ false e₃ true e₄ =
        omega (arith, length_4 n (ltb-false n 1000 e₃) (ltb-true n 10000 e₄))
    go false e false e₂ false e₃ false e₄ =
        omega (arith, length_5 n (ltb-false n 10000 e₄) (omega (arith, h)))

-- a buffer with the digits of a number: those of its tenth, then the last
pub write_low : (l : List ℕ) (at n : ℕ) → n < 10 → set l at (48 + n) ≡ sets l at (digits n)
write_low l at n h = rw (digits_low n h)

pub write_high : (l : List ℕ) (at n : ℕ) → 10 ≤ n
    → set (sets l at (digits (n / 10))) (at + length (digits (n / 10))) (48 + n % 10) ≡ sets l at (digits n)
write_high l at n h = rw (digits_high n h) (sym (sets_append l at (digits (n / 10)) ((48 + n % 10) ∷ [])))
