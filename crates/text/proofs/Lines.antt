-- Laws of lines. Assumes nothing.
use mathlib.Core.Path.{◌≡◌, refl, sym, ap, ◌∙◌}
use mathlib.Core.Option.{Option as Maybe, none, some}
use mathlib.Core.Bool.{Bool, true, false, cond, false≢true}
use mathlib.Core.List.{List, [], ◌∷◌, ◌++◌, append_assoc}
use Prim.Native.Nat.{ℕ, zero, suc, ◌+◌, ◌-◌, ◌≤◌, ◌<◌}
use native.Mathlib.Numerals.{add-one}
use native.Mathlib.Omega.{arith}
use borrow.Author.Tests.{leb-true, eqb-true, eq-eqb, ne_eqb}
use lib.Dec.{eqb, leb}
use lib.ListN.{length, get_or, drop, set, length-drop, length-append, drop_of_length-le}
use lib.Seq.{drop-cons, drop-drop, sets}
use Rattle.std.specs.Prelude.{Option, Some, None}
use Rattle.language.specs.declared.Line.{Line}
use Rattle.language.proofs.Filling.{sets_then}
use Rattle.language.specs.Lists.{given}
use Rattle.language.specs.Rows.{Letter, letters, code, numbers, letter_among, numbers_after, row, is_row}
use Rattle.language.specs.Alphabet.{Alphabet, ours}
use Rattle.language.proofs.Letters.{among_code}
use Rattle.language.proofs.Rows.{are_numbers, is_row_by}
use Rattle.language.specs.Decimals.{digits}
use Rattle.language.specs.TextLines.{number_of, line, closed, then_line, numbered, line_of}
use Rattle.language.specs.TextLines.{line_from, line_text}
use Rattle.text.specs.Places.{line_at}
use Rattle.fields.specs.Places.{number_at}
use Rattle.fields.proofs.Decimals.{length_most}
use Rattle.fields.proofs.Fields.{taken_inv, none_inv}
use Rattle.language.proofs.Booleans.{and_inv}

-- what stands at a place: past the end nothing, else a byte and the rest
pub closed_past : (code a b n at : ℕ) (s : List ℕ) → length s ≤ at → closed code a b n (drop at s) ≡ None
unfolding closed
closed_past code a b n at s h = rw (drop_of_length-le s h)

module _ (code a b n at : ℕ) (s : List ℕ) (h : at < length s) where
  pub closed_other : (get_or s at 0 ≡ 10 → ⊥) → closed code a b n (drop at s) ≡ None
  unfolding closed
  closed_other e = rw (drop-cons s at 0 h, ne_eqb (get_or s at 0) 10 e)

  pub closed_feed : get_or s at 0 ≡ 10 → closed code a b n (drop at s) ≡ Some (line code a b (n + 1))
  unfolding closed
  closed_feed e = rw (drop-cons s at 0 h, eq-eqb (get_or s at 0) 10 e)

-- a line that is closed further on in a text
closed_shift : (code a b at n : ℕ) (s : List ℕ)
    → line_at at (closed code a b n s) ≡ closed code a b (at + n) s
unfolding closed
closed_shift code a b at n [] = refl
closed_shift code a b at n (x ∷ s) = go (eqb x 10)
  where
    go : (t : Bool) → line_at at (cond t (Some (line code a b (n + 1))) None) ≡ cond t
        (Some (line code a b (at + n + 1))) None
    go true = let e : at + (n + 1) ≡ at + n + 1 = omega arith in ap (λ (m : ℕ). Some (line code a b m)) e
    go false = refl

-- under our own alphabet the byte that a line begins with is its row's code, and says how many numbers follow
line_ours : (x : ℕ) (s : List ℕ) → line_of ours (x ∷ s) ≡ numbered (numbers_after x) x s
unfolding line_of numbered numbers_after
line_ours x s = go (letter_among letters x) refl
  where
    go : (o : Maybe Letter) → letter_among letters x ≡ o
        → given o None (λ l. numbered (numbers l) (code l) s)
        ≡ numbered (given o 3 (λ l. numbers l)) x s
    go none e = refl
    go (some l) e = rw (among_code letters x l e)

-- the line at a place: past the end none, and by how many numbers its letter takes
pub line_past : (at : ℕ) (s : List ℕ) → length s ≤ at → None ≡ line_at at (line_of ours (drop at s))
unfolding line_of
line_past at s h = rw (drop_of_length-le s h)

module _ (code at : ℕ) (s : List ℕ) (h : at < length s) (is : code ≡ get_or s at 0) (count : ℕ)
    (c : count ≡ numbers_after code) where
  line_here : line_of ours (drop at s) ≡ numbered count code (drop (at + 1) s)
  line_here = rw (drop-cons s at 0 h, ← add-one at, ← is, c) (line_ours code (drop (at + 1) s))

  pub line_none : count ≡ 0
      → closed code 0 0 (at + 1) (drop (at + 1) s) ≡ line_at at (line_of ours (drop at s))
  unfolding numbered
  line_none z = sym (rw (line_here, z, closed_shift code 0 0 at 1 (drop (at + 1) s)))

  pub line_unknown : 2 < count → None ≡ line_at at (line_of ours (drop at s))
  unfolding numbered
  line_unknown l = let e : count ≡ suc (suc (suc (count - 3))) = omega arith in rw (line_here, e)

  pub line_no_first : (count ≡ 0 → ⊥) → number_at (at + 1) s ≡ None
      → None ≡ line_at at (line_of ours (drop at s))
  unfolding numbered
  line_no_first z e = sym (ap (line_at at) (line_here ∙ go count z))
    where
      go : (k : ℕ) → (k ≡ 0 → ⊥) → numbered k code (drop (at + 1) s) ≡ None
      go zero n = absurd (n refl)
      go (suc zero) n = rw (none_inv (at + 1) (number_of (drop (at + 1) s)) e)
      go (suc (suc zero)) n = rw (none_inv (at + 1) (number_of (drop (at + 1) s)) e)
      go (suc (suc (suc k))) n = refl

  module _ (a p : ℕ) (first : number_at (at + 1) s ≡ Some (a, p)) where
    pub line_one : count ≡ 1 → closed code a 0 p (drop p s) ≡ line_at at (line_of ours (drop at s))
    unfolding numbered
    line_one z = taken_inv (at + 1) a p (number_of (drop (at + 1) s)) first λ n e q.
        let w : p ≡ at + (1 + n) = omega (arith, q) in
        sym (rw (
          line_here,
          z,
          e,
          drop-drop n (at + 1) s,
          ← q,
          closed_shift code a 0 at (1 + n) (drop p s),
          ← w,
        ))

    pub line_no_second : count ≡ 2 → number_at p s ≡ None
        → None ≡ line_at at (line_of ours (drop at s))
    unfolding numbered
    line_no_second z f = taken_inv (at + 1) a p (number_of (drop (at + 1) s)) first λ n e q.
        rw (line_here, z, e, drop-drop n (at + 1) s, ← q, none_inv p (number_of (drop p s)) f)

    pub line_two : (b r : ℕ) → count ≡ 2 → number_at p s ≡ Some (b, r)
        → closed code a b r (drop r s) ≡ line_at at (line_of ours (drop at s))
    unfolding numbered
    line_two b r z second = taken_inv (at + 1) a p (number_of (drop (at + 1) s)) first λ n e q.
        taken_inv p b r (number_of (drop p s)) second λ m f w.
        let u : r ≡ at + (1 + n + m) = omega (arith, q, w) in
        let g : at + 1 + (n + m) ≡ r = omega (arith, q, w) in
        sym (rw (
          line_here,
          z,
          e,
          drop-drop n (at + 1) s,
          ← q,
          f,
          drop-drop (n + m) (at + 1) s,
          g,
          closed_shift code a b at (1 + n + m) (drop r s),
          ← u,
        ))

-- the line of a row, by its letter
pub text_by : (α : Alphabet) (n a b : ℕ) (l : Letter) → letter_among letters n ≡ some l
    → line_text α n a b ≡ line_from (α.byte l) (numbers l) a b
unfolding line_text
text_by α n a b l e = rw e

-- under our own alphabet it begins with the row's code
text_ours : (n a b : ℕ) → numbers_after n < 3 → line_text ours n a b ≡ line_from n (numbers_after n) a b
unfolding numbers_after
text_ours n a b h = go (letter_among letters n) refl h
  where
    go : (o : Maybe Letter) → letter_among letters n ≡ o → given o 3 (λ l. numbers l) < 3
        → line_text ours n a b ≡ line_from n (given o 3 (λ l. numbers l)) a b
    go none e h = absurd (omega (arith, h))
    go (some l) e h = rw (text_by ours n a b l e, among_code letters n l e)

-- a line with two numbers, each after its tab
from_two : (x a b : ℕ) → line_from x 2 a b ≡ x ∷ ((9 ∷ digits a) ++ ((9 ∷ digits b) ++ (10 ∷ [])))
from_two x a b = rw (append_assoc (digits a) (9 ∷ digits b) (10 ∷ []))

-- how long a line is, by how many numbers it has
from_one_long : (x a b : ℕ) → length (line_from x 1 a b) ≡ 3 + length (digits a)
from_one_long x a b = simp length-append (omega arith)

from_two_long : (x a b : ℕ) → length (line_from x 2 a b) ≡ 4 + length (digits a) + length (digits b)
from_two_long x a b = ap length (from_two x a b) ∙ simp length-append (omega arith)

-- so for our own alphabet
module _ (code a b : ℕ) where
  our_text : (k : ℕ) → k < 3 → numbers_after code ≡ k → line_text ours code a b ≡ line_from code k a b
  our_text k h e = text_ours code a b (omega (arith, h, e)) ∙ rw e

  pub length_none : numbers_after code ≡ 0 → length (line_text ours code a b) ≡ 2
  length_none e = ap length (our_text 0 (omega arith) e)

  pub length_one : numbers_after code ≡ 1 → length (line_text ours code a b) ≡ 3 + length (digits a)
  length_one e = ap length (our_text 1 (omega arith) e) ∙ from_one_long code a b

  pub length_two : numbers_after code ≡ 2
      → length (line_text ours code a b) ≡ 4 + length (digits a) + length (digits b)
  length_two e = ap length (our_text 2 (omega arith) e) ∙ from_two_long code a b

-- room for the letter, and for the first number where there is one
pub length_some : (code a b : ℕ) → numbers_after code < 3 → 1 ≤ length (line_text ours code a b)
length_some code a b h = omega (arith, ap length (text_ours code a b h))

pub length_first : (code a b : ℕ) → numbers_after code < 3 → (numbers_after code ≡ 0 → ⊥)
    → 3 + length (digits a) ≤ length (line_text ours code a b)
length_first code a b h n = go (numbers_after code) refl
  where
    go : (k : ℕ) → numbers_after code ≡ k → 3 + length (digits a) ≤ length (line_text ours code a b)
    go zero e = absurd (n e)
    go (suc zero) e = omega (arith, length_one code a b e)
    go (suc (suc zero)) e = omega (arith, length_two code a b e)
    go (suc (suc (suc k))) e = absurd (omega (arith, h, e))

-- two lines that are the same
pub line_injective : {c a b n c' a' b' n' : ℕ} → Some (line c a b n) ≡ Some (line c' a' b' n')
    → (c ≡ c') × (a ≡ a') × (b ≡ b') × (n ≡ n')
line_injective {c} {a} {b} {n} {c'} {a'} {b'} {n'} e = let f : line c a b n ≡ line c' a' b' n' = cc in (
  ap (λ (l : Line). l.code) f,
  ap (λ (l : Line). l.first) f,
  ap (λ (l : Line). l.second) f,
  ap (λ (l : Line). l.end) f,
)

-- a line takes two bytes at least, and no more than there are
closed_span : (code a b used : ℕ) (s : List ℕ) (code' a' b' n : ℕ)
    → closed code a b used s ≡ Some (line code' a' b' n) → (n ≡ used + 1) × (1 ≤ length s)
unfolding closed
closed_span code a b used [] code' a' b' n e = absurd (cc)
closed_span code a b used (x ∷ s) code' a' b' n e = go (eqb x 10) e
  where
    go : (t : Bool) → cond t (Some (line code a b (used + 1))) None ≡ Some (line code' a' b' n)
        → (n ≡ used + 1) × (1 ≤ suc (length s))
    go true e = (sym (line_injective e).3, omega arith)
    go false e = absurd (cc)

-- what follows a letter spans one byte less
abbrev Span : List ℕ → ℕ → Type 0
Span s n = (2 ≤ n) × (n ≤ suc (length s))

closed_after : (code a b k : ℕ) (s : List ℕ) (code' a' b' n : ℕ)
    → closed code a b (1 + k) (drop k s) ≡ Some (line code' a' b' n) → Span s n
closed_after code a b k s code' a' b' n e =
    let h = closed_span code a b (1 + k) (drop k s) code' a' b' n e in
    (omega (arith, h.0), omega (arith, h.0, h.1, length-drop k s))

one_span : (code : ℕ) (s : List ℕ) (code' a' b' n : ℕ) (t : Option (ℕ × ℕ))
    → then_line (λ a k. closed code a 0 (1 + k) (drop k s)) t ≡ Some (line code' a' b' n) → Span s n
one_span code s code' a' b' n (Some t) e = closed_after code t.0 0 t.1 s code' a' b' n e
one_span code s code' a' b' n None e = absurd (cc)

second_span : (code a k : ℕ) (s : List ℕ) (code' a' b' n : ℕ) (t : Option (ℕ × ℕ))
    → then_line (λ b m. closed code a b (1 + k + m) (drop (k + m) s)) t ≡ Some (line code' a' b' n) → Span s n
second_span code a k s code' a' b' n (Some t) e =
    let q : 1 + k + t.1 ≡ 1 + (k + t.1) = omega arith in closed_after code a t.0 (k + t.1) s code' a' b' n (rw q at e)
second_span code a k s code' a' b' n None e = absurd (cc)

two_span : (code : ℕ) (s : List ℕ) (code' a' b' n : ℕ) (t : Option (ℕ × ℕ))
    → then_line (λ a k. then_line (λ b m. closed code a b (1 + k + m) (drop (k + m) s))
    (number_of (drop k s))) t ≡ Some (line code' a' b' n) → Span s n
two_span code s code' a' b' n (Some t) e = second_span code t.0 t.1 s code' a' b' n (number_of (drop t.1 s)) e
two_span code s code' a' b' n None e = absurd (cc)

numbered_span : (count code : ℕ) (s : List ℕ) (code' a' b' n : ℕ) → numbered count code s ≡ Some (line code' a' b' n)
    → Span s n
unfolding numbered
numbered_span zero code s code' a' b' n e = let h = closed_span code 0 0 1 s code' a' b' n e in
    (omega (arith, h.0), omega (arith, h.0, h.1))
numbered_span (suc zero) code s code' a' b' n e = one_span code s code' a' b' n (number_of s) e
numbered_span (suc (suc zero)) code s code' a' b' n e = two_span code s code' a' b' n (number_of s) e
numbered_span (suc (suc (suc k))) code s code' a' b' n e = absurd (cc)

pub row_span : (α : Alphabet) (s : List ℕ) (code a b n : ℕ) → line_of α s ≡ Some (line code a b n)
    → (2 ≤ n) × (n ≤ length s)
unfolding line_of
row_span α [] code a b n e = absurd (cc)
row_span α (x ∷ s) code' a b n e = go (α.letter x) e
  where
    go : (o : Maybe Letter) → given o None (λ l. numbered (numbers l) (code l) s) ≡ Some (line code' a b n)
        → Span s n
    go none e = absurd (cc)
    go (some l) e = numbered_span (numbers l) (code l) s code' a b n e

-- a buffer with the line of a row: its letter, its numbers, the line feed
module _ (l : List ℕ) (at code a b : ℕ) where
  pub write_none : numbers_after code ≡ 0
      → set (set l at code) (at + 1) 10 ≡ sets l at (line_text ours code a b)
  write_none e = rw (our_text code a b 0 (omega arith) e, add-one at)

  module _ (then : ℕ) (p : then ≡ at + 1 + 1 + length (digits a)) where
    pub write_one : numbers_after code ≡ 1
        → set (sets (set l at code) (at + 1) (9 ∷ digits a)) then 10 ≡ sets l at (line_text ours code a b)
    write_one e =
        let q : then ≡ suc at + length (9 ∷ digits a) = omega (arith, p) in
        rw (our_text code a b 1 (omega arith) e, add-one at)
        (sets_then (set l at code) (suc at) then (9 ∷ digits a) (10 ∷ []) q)

    pub write_two : (end : ℕ) → end ≡ then + 1 + length (digits b) → numbers_after code ≡ 2
        → set (sets (sets (set l at code) (at + 1) (9 ∷ digits a)) then (9 ∷ digits b)) end 10
        ≡ sets l at (line_text ours code a b)
    write_two end w e =
        let q : then ≡ suc at + length (9 ∷ digits a) = omega (arith, p) in
        let r : end ≡ then + length (9 ∷ digits b) = omega (arith, w) in
        rw (our_text code a b 2 (omega arith) e, from_two code a b, add-one at)
        (sets_then (sets (set l at code) (suc at) (9 ∷ digits a)) then end (9 ∷ digits b) (10 ∷ []) r
        ∙ sets_then (set l at code) (suc at) then (9 ∷ digits a) ((9 ∷ digits b) ++ (10 ∷ [])) q)

-- a row's letter is known, and its line is short
numbers_known : (k a b : ℕ) → are_numbers k a b ≡ true → k < 3
numbers_known zero a b e = omega arith
numbers_known (suc zero) a b e = omega arith
numbers_known (suc (suc zero)) a b e = omega arith
numbers_known (suc (suc (suc k))) a b e = absurd (false≢true e)

row_parts : (n a b c : ℕ) → is_row (row n a b c) ≡ true
    → (eqb c 0 ≡ true) × (are_numbers (numbers_after n) a b ≡ true)
row_parts n a b c e = and_inv (eqb c 0) (are_numbers (numbers_after n) a b) (sym (is_row_by n a b c) ∙ e)

pub row_known : (n a b c : ℕ) → is_row (row n a b c) ≡ true → numbers_after n < 3
row_known n a b c e = numbers_known (numbers_after n) a b (row_parts n a b c e).1

-- so a row has a letter, and the numbers that follow it
pub row_letter : {A : Type 0} (n a b c : ℕ) → is_row (row n a b c) ≡ true
    → ((l : Letter) → letter_among letters n ≡ some l → are_numbers (numbers l) a b ≡ true → c ≡ 0 → A) → A
unfolding numbers_after
row_letter {A} n a b c e k = go (letter_among letters n) refl (row_parts n a b c e).1
  where
    go : (o : Maybe Letter) → letter_among letters n ≡ o
        → are_numbers (given o 3 (λ l. numbers l)) a b ≡ true → A
    go none q f = absurd (false≢true f)
    go (some l) q f = k l q f (eqb-true c 0 (row_parts n a b c e).0)

short_from : (k x a b : ℕ) → are_numbers k a b ≡ true → length (line_from x k a b) ≤ 14
short_from zero x a b f = omega arith
short_from (suc zero) x a b f = omega (
  arith,
  from_one_long x a b,
  length_most a (leb-true a 65535 (and_inv (leb a 65535) (eqb b 0) f).0),
)
short_from (suc (suc zero)) x a b f =
    omega (
      arith,
      from_two_long x a b,
      length_most a (leb-true a 65535 (and_inv (leb a 65535) (leb b 65535) f).0),
      length_most b (leb-true b 65535 (and_inv (leb a 65535) (leb b 65535) f).1),
    )
short_from (suc (suc (suc k))) x a b f = absurd (false≢true f)

pub row_short : (α : Alphabet) (n a b c : ℕ) → is_row (row n a b c) ≡ true
    → length (line_text α n a b) ≤ 14
row_short α n a b c e = row_letter n a b c e λ l q f _.
    rw (text_by α n a b l q) (short_from (numbers l) (α.byte l) a b f)
