-- Decimal numbers of a line
-- (document 01, "Lines and rows": one to five digits, no needless leading zero, at most 65,535).
use Rattle.std.specs.Prelude.{cond, List, [], ◌∷◌, ◌++◌, ℕ, zero, suc, ◌+◌, ◌-◌, ◌*◌, ◌/◌, ◌%◌, eqb, leb, ltb, length, get_or, Option, Some, None}
use Rattle.language.specs.Limits.{largest, most_digits}

-- The digit of a byte; 48 is the code of 0.
unfoldable pub digit_of : ℕ → Option ℕ
digit_of b = cond (leb 48 b) (cond (leb b 57) (Some (b - 48)) None) None

-- A number with one more digit, which stays in range.
abbrev pub add_digit : ℕ → Option ℕ → Option ℕ
add_digit v (Some d) = cond (leb (v * 10 + d) largest) (Some (v * 10 + d)) None
add_digit v None = None

-- What the digits from here on make of the number so far.
unfoldable pub scan : Option ℕ → List ℕ → Option ℕ
scan r [] = r
scan None (b ∷ s) = None
scan (Some v) (b ∷ s) = scan (add_digit v (digit_of b)) s

-- The number that a field holds.
unfoldable pub decimal_of : List ℕ → Option ℕ
decimal_of s =
    cond (eqb (length s) 0) None
    (cond (ltb most_digits (length s)) None
    (cond (eqb (get_or s 0 0) 48) (cond (ltb 1 (length s)) None (scan (Some 0) s)) (scan (Some 0) s)))

-- The digits of a number, without leading zeros; `k` is more than the number.
unfoldable pub digits_in : ℕ → ℕ → List ℕ
digits_in zero n = []
digits_in (suc k) n = cond (ltb n 10) ((48 + n) ∷ []) (digits_in k (n / 10) ++ ((48 + n % 10) ∷ []))

unfoldable pub digits : ℕ → List ℕ
digits n = digits_in (suc n) n
