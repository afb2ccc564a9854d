-- The digits of a number read back as that number, the field of a number is its digits, and a number in a text is read
-- exactly where its digits stand after a tab. Assumes nothing.
use mathlib.Core.Path.{◌≡◌, refl, sym, ap, ◌∙◌}
use mathlib.Core.Bool.{Bool, true, false, cond}
use mathlib.Core.List.{List, [], ◌∷◌, ◌++◌, append_assoc, append-nil}
use Prim.Native.Nat.{ℕ, zero, suc, ◌+◌, ◌-◌, ◌*◌, ◌/◌, ◌%◌, ◌≤◌, ◌<◌}
use native.Mathlib.Omega.{arith}
use borrow.Author.Tests.{le-leb, leb-true, le-ltb, ltb-true, ltb-false, ne_eqb, eqb-true, eqb-false}
use lib.Dec.{leb, ltb, eqb}
use lib.ListN.{length, get_or, take, get_or-append}
use Rattle.std.specs.Prelude.{Option, Some, None}
use Rattle.language.specs.Decimals.{digit_of, add_digit, scan, decimal_of, digits}
use Rattle.language.specs.TextLines.{field, is_end, taken, number_of}
use Rattle.fields.proofs.Decimals.{scan_bad, digit_low, digits_low, digits_high, length_low}
use Rattle.fields.proofs.Decimals.{length_high}
use Rattle.fields.proofs.Decimals.{length_most}

never : {A : Type 0} {v : ℕ} → None ≡ Some v → A
never e = absurd (cc)

scan_append : (r : Option ℕ) (s t : List ℕ) → scan r (s ++ t) ≡ scan (scan r s) t
unfolding scan
scan_append r [] t = refl
scan_append None (b ∷ s) t = sym (scan_bad t)
scan_append (Some v) (b ∷ s) t = scan_append (add_digit v (digit_of b)) s t

-- the byte of a digit, and the digit of a byte
digit_back : (d : ℕ) → d < 10 → digit_of (48 + d) ≡ Some d
unfolding digit_of
digit_back d h = let e : 48 + d - 48 ≡ d = omega arith in
    rw (le-leb 48 (48 + d) (omega arith), le-leb (48 + d) 57 (omega arith), e)

digit_inv : {A : Type 0} (b : ℕ) (r : Option ℕ) → digit_of b ≡ r
    → ((d : ℕ) → r ≡ Some d → d < 10 → b ≡ 48 + d → A) → (r ≡ None → A) → A
unfolding digit_of
digit_inv {A} b r e k z = go (leb 48 b) refl (leb b 57) refl e
  where
    go : (t : Bool) → leb 48 b ≡ t → (u : Bool) → leb b 57 ≡ u → cond t (cond u (Some (b - 48)) None) None ≡ r → A
    go true p true q e =
        k (b - 48) (sym e) (omega (arith, leb-true 48 b p, leb-true b 57 q)) (omega (arith, leb-true 48 b p))
    go true p false q e = z (sym e)
    go false p u q e = z (sym e)

-- one more digit
one_more : (v b : ℕ) (d : ℕ) → digit_of b ≡ Some d → v * 10 + d ≤ 65535
    → add_digit v (digit_of b) ≡ Some (v * 10 + d)
one_more v b d e h = rw e (digit_low v d h)

more_inv : {A : Type 0} (v b : ℕ) (s : List ℕ) (n : ℕ) → scan (Some v) (b ∷ s) ≡ Some n
    → ((d : ℕ) → d < 10 → b ≡ 48 + d → scan (Some (v * 10 + d)) s ≡ Some n → A) → A
unfolding scan
more_inv {A} v b s n e k =
    digit_inv b (digit_of b) refl (λ d p h q. go d p h q (leb (v * 10 + d) 65535) refl)
    (λ z. never (sym (scan_bad s) ∙ ap (λ (r : Option ℕ). scan (add_digit v r) s) (sym z) ∙ e))
  where
    go : (d : ℕ) → digit_of b ≡ Some d → d < 10 → b ≡ 48 + d → (t : Bool) → leb (v * 10 + d) 65535 ≡ t → A
    go d p h q true l = k d h q (rw (p, l) at e)
    go d p h q false l = never (sym (scan_bad s) ∙ (rw (p, l) at e))

-- digits read give the number with those digits
scan_grows : (s : List ℕ) (v n : ℕ) → 0 < v → scan (Some v) s ≡ Some n → digits n ≡ digits v ++ s
unfolding scan
scan_grows [] v n h e = let q : v ≡ n = cc in rw (← q) (sym (append-nil (digits v)))
scan_grows (b ∷ s) v n h e = more_inv v b s n e λ d l q f.
    let x : (v * 10 + d) / 10 ≡ v = omega (arith, l) in
    let y : (v * 10 + d) % 10 ≡ d = omega (arith, l) in
    let w : digits (v * 10 + d) ≡ digits v ++ ((48 + d) ∷ []) = digits_high (v * 10 + d) (omega (arith, h))
    ∙ rw (x, y) in
    scan_grows s (v * 10 + d) n (omega (arith, h)) f ∙ rw (w, q) (append_assoc (digits v) ((48 + d) ∷ []) s)

-- the number of a field has the field for its digits
pub decimal_back : (s : List ℕ) (n : ℕ) → decimal_of s ≡ Some n → digits n ≡ s
unfolding decimal_of scan
decimal_back [] n e = never e
decimal_back (b ∷ s) n e =
    let f = rw (ne_eqb (suc (length s)) 0 (λ z. omega (arith, z))) at e in
    go (ltb 5 (suc (length s))) (eqb b 48) refl (ltb 1 (suc (length s))) refl f
  where
    from : scan (Some 0) (b ∷ s) ≡ Some n → (b ≡ 48 → s ≡ []) → digits n ≡ b ∷ s
    from f z = more_inv 0 b s n f λ d l q g.
        let w : 0 * 10 + d ≡ d = omega arith in
        first d l q (rw w at g) (eqb d 0) refl
      where
        first : (d : ℕ) → d < 10 → b ≡ 48 + d → scan (Some d) s ≡ Some n → (t : Bool) → eqb d 0 ≡ t
            → digits n ≡ b ∷ s
        first d l q g true p =
            let k : d ≡ 0 = eqb-true d 0 p in
            let m : s ≡ [] = z (omega (arith, q, k)) in
            let r : Some d ≡ Some n = rw m at g in
            let x : d ≡ n = cc in
            rw (← x, m, digits_low d l, q)
        first d l q g false p = scan_grows s d n (omega (arith, eqb-false d 0 p)) g ∙ rw (digits_low d l, q)

    alone : ltb 1 (suc (length s)) ≡ false → s ≡ []
    alone h = empty s (ltb-false 1 (suc (length s)) h)
      where
        empty : (s : List ℕ) → suc (length s) ≤ 1 → s ≡ []
        empty [] h = refl
        empty (x ∷ s) h = absurd (omega (arith, h))

    go : (t : Bool) (u : Bool) → eqb b 48 ≡ u → (w : Bool) → ltb 1 (suc (length s)) ≡ w
        → cond t None (cond u (cond w None (scan (Some 0) (b ∷ s))) (scan (Some 0) (b ∷ s))) ≡ Some n
        → digits n ≡ b ∷ s
    go true u p w q e = never e
    go false true p true q e = never e
    go false true p false q e = from e (λ _. alone q)
    go false false p w q e = from e (λ z. absurd (eqb-false b 48 p z))

-- a number that was read is in range
scan_range : (s : List ℕ) (v n : ℕ) → v ≤ 65535 → scan (Some v) s ≡ Some n → n ≤ 65535
unfolding scan
scan_range [] v n h e = let q : v ≡ n = cc in rw (← q) h
scan_range (b ∷ s) v n h e = go (add_digit v (digit_of b)) refl e (λ w l f. scan_range s w n l f)
  where
    small : (v : ℕ) (r : Option ℕ) (w : ℕ) → add_digit v r ≡ Some w → w ≤ 65535
    small v (Some d) w q = fit (leb (v * 10 + d) 65535) refl q
      where
        fit : (t : Bool) → leb (v * 10 + d) 65535 ≡ t → cond t (Some (v * 10 + d)) None ≡ Some w → w ≤ 65535
        fit true p q = let x : v * 10 + d ≡ w = cc in omega (arith, x, leb-true (v * 10 + d) 65535 p)
        fit false p q = never q
    small v None w q = never q

    go : (r : Option ℕ) → add_digit v (digit_of b) ≡ r → scan r s ≡ Some n
        → ((w : ℕ) → w ≤ 65535 → scan (Some w) s ≡ Some n → n ≤ 65535) → n ≤ 65535
    go (Some w) q e ih = ih w (small v (digit_of b) w q) e
    go None q e ih = never (sym (scan_bad s) ∙ e)

pub decimal_range : (s : List ℕ) (n : ℕ) → decimal_of s ≡ Some n → n ≤ 65535
unfolding decimal_of
decimal_range s n e = go (eqb (length s) 0) (ltb 5 (length s)) (eqb (get_or s 0 0) 48) (ltb 1 (length s)) e
  where
    go : (t u w x : Bool)
        → cond t None (cond u None (cond w (cond x None (scan (Some 0) s)) (scan (Some 0) s))) ≡ Some n → n ≤ 65535
    go true u w x e = never e
    go false true w x e = never e
    go false false true true e = never e
    go false false true false e = scan_range s 0 n (omega arith) e
    go false false false x e = scan_range s 0 n (omega arith) e

-- the digits of a number read back as it
scan_digits : (k n : ℕ) → n < k → n ≤ 65535 → scan (Some 0) (digits n) ≡ Some n
unfolding scan
scan_digits zero n h m = absurd (omega (arith, h))
scan_digits (suc k) n h m =
    go (ltb n 10) refl (λ q. scan_digits k (n / 10) (omega (arith, h, q)) (omega (arith, m)))
  where
    go : (t : Bool) → ltb n 10 ≡ t → (10 ≤ n → scan (Some 0) (digits (n / 10)) ≡ Some (n / 10))
        → scan (Some 0) (digits n) ≡ Some n
    go true e ih =
        let l = ltb-true n 10 e in
        let w : 0 * 10 + n ≡ n = omega arith in
        rw (digits_low n l, one_more 0 (48 + n) n (digit_back n l) (omega (arith, l)), w)
    go false e ih =
        let l = ltb-false n 10 e in
        let w : n / 10 * 10 + n % 10 ≡ n = omega arith in
        rw (
          digits_high n l,
          scan_append (Some 0) (digits (n / 10)) ((48 + n % 10) ∷ []),
          ih l,
          one_more (n / 10) (48 + n % 10) (n % 10) (digit_back (n % 10) (omega arith)) (omega (arith, m)),
          w,
        )

length_some : (n : ℕ) → 0 < length (digits n)
length_some n = go (ltb n 10) refl
  where
    go : (t : Bool) → ltb n 10 ≡ t → 0 < length (digits n)
    go true e = omega (arith, length_low n (ltb-true n 10 e))
    go false e = omega (arith, length_high n (ltb-false n 10 e))

first_digit : (k n : ℕ) → n < k → 0 < n → get_or (digits n) 0 0 ≡ 48 → ⊥
first_digit zero n h p e = omega (arith, h)
first_digit (suc k) n h p e =
    go (ltb n 10) refl (λ q f. first_digit k (n / 10) (omega (arith, h, q)) (omega (arith, q)) f)
  where
    go : (t : Bool) → ltb n 10 ≡ t → (10 ≤ n → get_or (digits (n / 10)) 0 0 ≡ 48 → ⊥) → ⊥
    go true q ih = let w : 48 + n ≡ 48 = rw (digits_low n (ltb-true n 10 q)) at e in omega (arith, w, p)
    go false q ih =
        let l = ltb-false n 10 q in
        let w : get_or (digits (n / 10) ++ ((48 + n % 10) ∷ [])) 0 0 ≡ 48 = rw (digits_high n l) at e in
        ih l (sym (get_or-append (digits (n / 10)) ((48 + n % 10) ∷ []) 0 0 (length_some (n / 10))) ∙ w)

pub decimal_forth : (n : ℕ) → n ≤ 65535 → decimal_of (digits n) ≡ Some n
unfolding decimal_of
decimal_forth n h = rw (
  ne_eqb (length (digits n)) 0 (λ z. omega (arith, length_some n, z)),
  le-ltb 5
      (length (digits n)) (length_most n h),
)
    (go (eqb (get_or (digits n) 0 0) 48) refl (ltb 1 (length (digits n))) refl)
  where
    all : scan (Some 0) (digits n) ≡ Some n
    all = scan_digits (suc n) n (omega arith) h

    go : (t : Bool) → eqb (get_or (digits n) 0 0) 48 ≡ t → (u : Bool) → ltb 1 (length (digits n)) ≡ u
        → cond t (cond u None (scan (Some 0) (digits n))) (scan (Some 0) (digits n)) ≡ Some n
    go false e u f = all
    go true e false f = all
    go true e true f = absurd (zero-first (eqb n 0) refl)
      where
        zero-first : (t : Bool) → eqb n 0 ≡ t → ⊥
        zero-first true q = omega (
          arith,
          length_low n (omega (arith, eqb-true n 0 q)),
          ltb-true 1
              (length (digits n)) f,
        )
        zero-first false q =
            first_digit (suc n) n (omega arith) (omega (arith, eqb-false n 0 q))
            (eqb-true (get_or (digits n) 0 0) 48 e)

-- no digit ends a field
data Plain : List ℕ → Type 0 where
  plain_nil : Plain []
  plain_cons : {b : ℕ} {s : List ℕ} → 48 ≤ b → Plain s → Plain (b ∷ s)

plain_append : {s t : List ℕ} → Plain s → Plain t → Plain (s ++ t)
plain_append plain_nil q = q
plain_append (plain_cons h p) q = plain_cons h (plain_append p q)

plain_digits : (k n : ℕ) → n < k → Plain (digits n)
plain_digits zero n h = absurd (omega (arith, h))
plain_digits (suc k) n h = go (ltb n 10) refl (λ q. plain_digits k (n / 10) (omega (arith, h, q)))
  where
    go : (t : Bool) → ltb n 10 ≡ t → (10 ≤ n → Plain (digits (n / 10))) → Plain (digits n)
    go true e ih = rw (digits_low n (ltb-true n 10 e)) (plain_cons {b = 48 + n} (omega arith) plain_nil)
    go false e ih = rw (digits_high n (ltb-false n 10 e))
        (plain_append (ih (ltb-false n 10 e)) (plain_cons {b = 48 + n % 10} (omega arith) plain_nil))

field_plain : {s : List ℕ} → Plain s → (u : ℕ) (t : List ℕ) → is_end u ≡ true → field (s ++ (u ∷ t)) ≡ s
unfolding field
field_plain plain_nil u t e = rw e
field_plain (plain_cons {b} {s} h p) u t e =
    rw (ne_eqb b 9 (λ z. omega (arith, h, z)), ne_eqb b 10 (λ z. omega (arith, h, z)), field_plain p u t e)

pub field_digits : (n u : ℕ) (t : List ℕ) → is_end u ≡ true → field (digits n ++ (u ∷ t)) ≡ digits n
field_digits n u t e = field_plain (plain_digits (suc n) n (omega arith)) u t e

-- a field is what a text begins with
pub field_first : (s : List ℕ) → take (length (field s)) s ≡ field s
unfolding field
field_first [] = refl
field_first (b ∷ s) = go (is_end b) (field_first s)
  where
    go : (t : Bool) → take (length (field s)) s ≡ field s
        → take (length (cond t [] (b ∷ field s))) (b ∷ s) ≡ cond t [] (b ∷ field s)
    go true ih = refl
    go false ih = ap (λ (r : List ℕ). b ∷ r) ih

-- a number that was read is written as it stood
pub number_back : (s : List ℕ) (v n : ℕ) → number_of s ≡ Some (v, n) → (take n s ≡ 9 ∷ digits v) × (v ≤ 65535)
unfolding number_of
number_back [] v n e = absurd (cc)
number_back (b ∷ s) v n e = go (eqb b 9) refl (decimal_of (field s)) refl e
  where
    go : (t : Bool) → eqb b 9 ≡ t → (d : Option ℕ) → decimal_of (field s) ≡ d
        → cond t (taken (1 + length (field s)) d) None ≡ Some (v, n)
        → (take n (b ∷ s) ≡ 9 ∷ digits v) × (v ≤ 65535)
    go true q (Some w) p e =
        let f : ◌≡◌ {A = ℕ × ℕ} (w, 1 + length (field s)) (v, n) = cc in
        let x : w ≡ v = ap (λ (p : ℕ × ℕ). p.0) f in
        let y : 1 + length (field s) ≡ n = ap (λ (p : ℕ × ℕ). p.1) f in
        let z : n ≡ suc (length (field s)) = omega (arith, y) in (
          rw (z, eqb-true b 9 q, field_first s, ← x, decimal_back (field s) w p),
          rw (← x) (decimal_range (field s) w p),
        )
    go true q None p e = absurd (cc)
    go false q d p e = absurd (cc)

-- a number that was written reads back
pub number_forth : (v u : ℕ) (t : List ℕ) → v ≤ 65535 → is_end u ≡ true
    → number_of ((9 ∷ digits v) ++ (u ∷ t)) ≡ Some (v, length (9 ∷ digits v))
unfolding number_of
number_forth v u t h e =
    rw (field_digits v u t e, decimal_forth v h)
    (let z : 1 + length (digits v) ≡ suc (length (digits v)) = omega arith in ap (λ (k : ℕ). Some (v, k)) z)
