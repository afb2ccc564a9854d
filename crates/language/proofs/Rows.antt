-- Laws of letters and rows. Assumes nothing.
use mathlib.Core.Path.{◌≡◌, refl, sym, ◌∙◌}
use mathlib.Core.Option.{Option, none, some}
use mathlib.Core.Bool.{Bool, true, false, false≢true, ◌&&◌, cond}
use mathlib.Core.List.{List, [], ◌∷◌}
use Prim.Native.Nat.{ℕ, zero, suc, ◌<◌}
use native.Mathlib.Omega.{arith}
use borrow.Author.Tests.{eqb-true, ltb-true}
use lib.Dec.{eqb, leb, ltb, leb-suc-zero, eqb-suc-zero}
use Rattle.language.specs.Limits.{largest}
use Rattle.language.specs.Lists.{bind_option, given, choice}
use Rattle.language.specs.Rows.{Letter, letters, code, numbers, letter_among, numbers_after, well_made}
use Rattle.language.specs.Rows.{Record, written, row, record_of, is_row}

-- a test of every letter
abbrev every : (Letter → Bool) → List Letter → Bool
every f [] = true
every f (l ∷ ls) = cond (f l) (every f ls) false

every_step : (f : Letter → Bool) (l : Letter) (ls : List Letter) → every f (l ∷ ls) ≡ true
    → (f l ≡ true) × (every f ls ≡ true)
every_step f l ls e = go (f l) refl e
  where
    go : (t : Bool) → f l ≡ t → cond t (every f ls) false ≡ true → (f l ≡ true) × (every f ls ≡ true)
    go true q e = (q, e)
    go false q e = absurd (false≢true e)

-- the letter of a code passes the test, and the code is its own
among : (f : Letter → Bool) (ls : List Letter) → every f ls ≡ true → (n : ℕ) (l : Letter)
    → letter_among ls n ≡ some l → (f l ≡ true) × (code l ≡ n)
unfolding letter_among
among f [] a n l e = absurd (let z : ◌≡◌ {A = ℕ} 0 1 = cc in omega arith)
among f (m ∷ ms) a n l e = go (eqb (code m) n) refl e (λ e'. among f ms (every_step f m ms a).1 n l e')
  where
    go : (t : Bool) → eqb (code m) n ≡ t → choice t (λ _. some m) (λ _. letter_among ms n) ≡ some l
        → (letter_among ms n ≡ some l → (f l ≡ true) × (code l ≡ n)) → (f l ≡ true) × (code l ≡ n)
    go true q e ih = let h : m ≡ l = cc in rw (← h) ((every_step f m ms a).0, eqb-true (code m) n q)
    go false q e ih = ih e

-- a code that is a letter's is one of ASCII
pub letter_ascii : (n : ℕ) → numbers_after n < 3 → n < 128
unfolding numbers_after
letter_ascii n h = go (letter_among letters n) refl h
  where
    go : (o : Option Letter) → letter_among letters n ≡ o → given o 3 (λ l. numbers l) < 3 → n < 128
    go none e h = absurd (omega (arith, h))
    go (some l) e h = let k = among (λ l. ltb (code l) 128) letters refl n l e in
        omega (arith, ltb-true (code l) 128 k.0, k.1)

-- are these the two numbers of a record that takes so many: those in use in range, the rest 0
abbrev pub are_numbers : ℕ → ℕ → ℕ → Bool
are_numbers zero a b = eqb a 0 && eqb b 0
are_numbers (suc zero) a b = leb a largest && eqb b 0
are_numbers (suc (suc zero)) a b = leb a largest && leb b largest
are_numbers (suc (suc (suc k))) a b = false

leb_zero : (n : ℕ) → leb n 0 ≡ eqb n 0
leb_zero zero = refl
leb_zero (suc n) = leb-suc-zero n ∙ sym (eqb-suc-zero n)

turn : (x y z : Bool) → x && (y && z) ≡ z && (x && y)
turn true true true = refl
turn true true false = refl
turn true false true = refl
turn true false false = refl
turn false y true = refl
turn false y false = refl

false_left : (x : Bool) → false ≡ x && false
false_left true = refl
false_left false = refl

in_range : (k a b c : ℕ) → k < 3
    → leb a (cond (leb 1 k) largest 0) &&
    (leb b (cond (leb 2 k) largest 0) && leb c (cond (leb 3 k) largest 0)) ≡ eqb c 0 && are_numbers k a b
in_range zero a b c h = rw (leb_zero a, leb_zero b, leb_zero c) (turn (eqb a 0) (eqb b 0) (eqb c 0))
in_range (suc zero) a b c h = rw (leb_zero b, leb_zero c) (turn (leb a largest) (eqb b 0) (eqb c 0))
in_range (suc (suc zero)) a b c h = rw (leb_zero c) (turn (leb a largest) (leb b largest) (eqb c 0))
in_range (suc (suc (suc k))) a b c h = absurd (omega (arith, h))

given_cond : (t : Bool) (r : Record) → given (cond t (some r) none) false (λ _. true) ≡ t
given_cond true r = refl
given_cond false r = refl

-- what makes a row: the third number 0, and the others as its letter takes them
pub is_row_by : (n a b c : ℕ) → is_row (row n a b c) ≡ eqb c 0 && are_numbers (numbers_after n) a b
unfolding record_of numbers_after
is_row_by n a b c = go (letter_among letters n) refl
  where
    go : (o : Option Letter) → letter_among letters n ≡ o
        → given (bind_option o (λ l. cond (well_made l (row n a b c)) (some (written l a b)) none)) false
        (λ _. true) ≡ eqb c 0 && are_numbers (given o 3 (λ l. numbers l)) a b
    go none e = false_left (eqb c 0)
    go (some l) e =
        let k : numbers l < 3 =
        ltb-true (numbers l) 3 (among (λ l. ltb (numbers l) 3) letters refl n l e).0 in
        given_cond (well_made l (row n a b c)) (written l a b) ∙ in_range (numbers l) a b c k
