-- Laws of lines that are written one for each of a list: types, slots read, fields copied, F lines; and how
-- many numbers these are. Assumes nothing.
use mathlib.Core.Path.{◌≡◌, refl, sym, ap, ◌∙◌}
use mathlib.Core.List.{List, [], ◌∷◌, ◌++◌}
use mathlib.Core.Logic.{inl, inr}
use native.Mathlib.Nat.{eq-or-lt_of_le}
use Prim.Native.Nat.{ℕ, zero, suc, ◌+◌, ◌-◌, ◌*◌, ◌≤◌, ◌<◌}
use native.Mathlib.Numerals.{add-one}
use native.Mathlib.Omega.{arith}
use lib.ListN.{length, get_or}
use Rattle.language.specs.Encoded.{LinesAt}
use Rattle.language.specs.Tree.{DeclaredType, type_number, Field}
use Rattle.emitters.specs.Writing.{Written, SomeTypes, TypesWritten, SomeFields, CopiesWritten}
use Rattle.emitters.specs.Writing.{SomeFieldLines, FieldsWritten}
use Rattle.emitters.specs.Lines.{plain_number, type_lines, read_lines, copy_lines}
use Rattle.emitters.specs.Lines.{field_lines}
use Rattle.std.proofs.lemmas.List.Concat.{flat_map-append}
use Rattle.emitters.proofs.Writing.{written_none, written_then, written_as}

-- how many numbers the lines are
pub types_length : (l : ℕ) (ts : List DeclaredType) → length (type_lines l ts) ≡ 4 * length ts
unfolding type_lines
types_length l [] = refl
types_length l (t ∷ ts) = omega (arith, types_length l ts)

pub reads_length : (s k : ℕ) → length (read_lines s k) ≡ 4 * k
unfolding read_lines
reads_length s zero = refl
reads_length s (suc k) = omega (arith, reads_length (suc s) k)

pub copies_length : (s : ℕ) (fs : List Field) → length (copy_lines s fs) ≡ 16 * length fs
unfolding copy_lines
copies_length s [] = refl
copies_length s (f ∷ fs) = omega (arith, copies_length s fs)

pub fields_length : (fs : List Field) → length (field_lines fs) ≡ 4 * length fs
unfolding field_lines
fields_length [] = refl
fields_length (f ∷ fs) = omega (arith, fields_length fs)

-- ---- lines one after another: each of them, and the last
module _ {A : Type 0} (Q : A → ℕ → Type 0) where
  line_at : (xs : List A) (at row : ℕ) → LinesAt Q xs at → at ≤ row → row < at + length xs
      → (x : A) × Q x row
  unfolding LinesAt
  line_at [] at row r l h = absurd (omega (arith, l, h))
  line_at (x ∷ xs) at row r l h = elim (eq-or-lt_of_le l) [
    | inl e ↦ (x, rw e at r.0)
    | inr n ↦ line_at xs (at + 1) row r.1 (omega (arith, n)) (omega (arith, h))
  ]

  record Last (xs : List A) (at i : ℕ) : Type 0 where
    pub front : List A
    pub last : A
    pub is : xs ≡ front ++ (last ∷ [])
    pub before : LinesAt Q front at
    pub here : Q last (at + i)
    pub counted : length front ≡ i

  last_line : (xs : List A) (at i : ℕ) → LinesAt Q xs at → length xs ≡ i + 1 → Last xs at i
  unfolding LinesAt
  last_line [] at i r e = absurd (omega (arith, e))
  last_line (x ∷ []) at i r e =
      let z : i ≡ 0 = omega (arith, e) in
      let y : at + 0 ≡ at = omega arith in
      record { front = []; last = x; is = refl; before = tt; here = rw (z, y) r.0; counted = sym z }
  last_line (x ∷ y ∷ ys) at i r e =
      let l = last_line (y ∷ ys) (at + 1) (i - 1) r.1 (omega (arith, e)) in
      let z : at + i ≡ at + 1 + (i - 1) = omega (arith, e) in
      record {
        front = x ∷ l.front;
        last = l.last;
        is = cc l.is;
        before = (r.0, l.before);
        here = rw z l.here;
        counted = omega (arith, l.counted, e);
      }

-- ---- types
module _ {R : List ℕ} {at count : ℕ} where
  pub types_in : SomeTypes R at count → (row : ℕ) → at ≤ row → row < at + count → row * 4 + 3 < length R
  types_in x row l h = (line_at _ x.ts at row x.rows l (omega (arith, x.counted, h))).1.within

module _ {R : List ℕ} {at letter place : ℕ} {O : List ℕ} where
  pub types_none : {i : ℕ} → i ≡ 0 → TypesWritten R at i letter O O place place
  unfolding type_lines
  types_none {i} z = record { each = λ l ts r e. go ts e }
    where
      go : (ts : List DeclaredType) → length ts ≡ i → Written (type_lines letter ts) O O place place
      go [] e = written_none
      go (t ∷ ts) e = absurd (omega (arith, e, z))

  pub types_more : {O₁ O₂ : List ℕ} {p q i j row n t : ℕ} → row ≡ at + i → j ≡ i + 1 → n ≡ get_or R (row * 4 + 1) 0
      → t ≡ plain_number n → TypesWritten R at i letter O O₁ place p
      → Written (letter ∷ t ∷ 0 ∷ 0 ∷ []) O₁ O₂ p q
      → TypesWritten R at j letter O O₂ place q
  unfolding type_lines
  types_more {O₁} {O₂} {p} {q} {i} {j} {row} {n} {t} z k v w a b = record {
    each = λ l ts r e.
        let y = last_line _ ts at i r (e ∙ k) in
        let f : plain_number (type_number y.last) ≡ t =
        sym (w ∙ ap (λ n. plain_number n) (v ∙ rw z y.here.first)) in
        rw (y.is, flat_map-append _ y.front (y.last ∷ []), f)
        (written_then (a.each l y.front y.before y.counted) b);
  }

-- ---- slots read
pub reads_none : (s i : ℕ) {O : List ℕ} {place : ℕ} → i ≡ 0 → Written (read_lines s i) O O place place
unfolding read_lines
reads_none s i e = rw e written_none

reads_append : (s k : ℕ) → read_lines s (suc k) ≡ read_lines s k ++ (73 ∷ (s + k) ∷ 0 ∷ 0 ∷ [])
unfolding read_lines
reads_append s zero = let e : s + 0 ≡ s = omega arith in rw e refl
reads_append s (suc k) = let e : s + suc k ≡ suc s + k = omega arith in
    rw e (ap (λ (l : List ℕ). 73 ∷ s ∷ 0 ∷ 0 ∷ l) (reads_append (suc s) k))

pub reads_more : (s k i j : ℕ) {O O₁ O₂ : List ℕ} {place p q : ℕ} → i ≡ s + k → j ≡ suc k
    → Written (read_lines s k) O O₁ place p → Written (73 ∷ i ∷ 0 ∷ 0 ∷ []) O₁ O₂ p q
    → Written (read_lines s j) O O₂ place q
reads_more s k i j e f a b = rw f (written_as (written_then a (rw e at b)) (sym (reads_append s k)))

-- ---- fields copied
module _ {R T : List ℕ} {from count : ℕ} where
  pub fields_in : SomeFields R T from count → (entry : ℕ) → from ≤ entry → entry < from + count
      → (entry < length T) × (get_or T entry 0 * 4 + 3 < length R)
  fields_in x entry l h =
      let y = line_at _ x.fs from entry x.rows l (omega (arith, x.counted, h)) in (y.1.0, y.1.1.within)

module _ {R T : List ℕ} {from s place : ℕ} {O : List ℕ} where
  pub copies_none : {i : ℕ} → i ≡ 0 → CopiesWritten R T from i s O O place place
  unfolding copy_lines
  copies_none {i} z = record { each = λ fs r e. go fs e }
    where
      go : (fs : List Field) → length fs ≡ i → Written (copy_lines s fs) O O place place
      go [] e = written_none
      go (f ∷ fs) e = absurd (omega (arith, e, z))

  pub copies_more : {O₁ O₂ : List ℕ} {p q i j entry row n : ℕ} → entry ≡ from + i → j ≡ i + 1
      → row ≡ get_or T entry 0 → n ≡ get_or R (row * 4 + 2) 0
      → CopiesWritten R T from i s O O₁ place p
      → Written (85 ∷ n ∷ 0 ∷ 0 ∷ 73 ∷ s ∷ 0 ∷ 0 ∷ 71 ∷ n ∷ 0 ∷ 0 ∷ 73 ∷ (s + 1) ∷ 0 ∷ 0 ∷ []) O₁ O₂ p q
      → CopiesWritten R T from j s O O₂ place q
  unfolding copy_lines
  copies_more {O₁} {O₂} {p} {q} {i} {j} {entry} {row} {n} z k v w a b = record {
    each = λ fs r e.
        let y = last_line _ fs from i r (e ∙ k) in
        let g : y.last.name ≡ n = sym (w ∙ rw (v, z) y.here.1.second) in
        rw (y.is, flat_map-append _ y.front (y.last ∷ []), g)
        (written_then (a.each y.front y.before y.counted) (rw add-one at b));
  }

-- ---- F lines
module _ {R : List ℕ} {at count : ℕ} where
  pub field_in : SomeFieldLines R at count → (row : ℕ) → at ≤ row → row < at + count
      → row * 4 + 3 < length R
  field_in x row l h = (line_at _ x.fs at row x.rows l (omega (arith, x.counted, h))).1.within

module _ {R : List ℕ} {at place : ℕ} {O : List ℕ} where
  pub field_none : {i : ℕ} → i ≡ 0 → FieldsWritten R at i O O place place
  unfolding field_lines
  field_none {i} z = record { each = λ fs r e. go fs e }
    where
      go : (fs : List Field) → length fs ≡ i → Written (field_lines fs) O O place place
      go [] e = written_none
      go (f ∷ fs) e = absurd (omega (arith, e, z))

  pub field_more : {O₁ O₂ : List ℕ} {p q i j row n m t : ℕ} → row ≡ at + i → j ≡ i + 1
      → n ≡ get_or R (row * 4 + 1) 0 → t ≡ plain_number n → m ≡ get_or R (row * 4 + 2) 0 → FieldsWritten R at i O O₁ place p
      → Written (70 ∷ t ∷ m ∷ 0 ∷ []) O₁ O₂ p q → FieldsWritten R at j O O₂ place q
  unfolding field_lines
  field_more {O₁} {O₂} {p} {q} {i} {j} {row} {n} {m} {t} z k v w x a b = record {
    each = λ fs r e.
        let y = last_line _ fs at i r (e ∙ k) in
        let f : plain_number (type_number y.last.type) ≡ t =
        sym (w ∙ ap (λ n. plain_number n) (v ∙ rw z y.here.first)) in
        let g : y.last.name ≡ m = sym (x ∙ rw z y.here.second) in
        rw (y.is, flat_map-append _ y.front (y.last ∷ []), f, g)
        (written_then (a.each y.front y.before y.counted) b);
  }
