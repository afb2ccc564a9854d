-- Records in rows of numbers and entries in the table of ends, one after another (`LinesAt`).
use Rattle.std.specs.Prelude.{◌≡◌, get_or, drop}
use Rattle.std.proofs.Common.{sym, ap, ◌∙◌, length-drop, get_or-drop, drop-drop}
use Rattle.std.proofs.Math.Path.{subst}
use Prim.Native.Nat.{ℕ, suc, ◌+◌, ◌*◌, ◌<◌}
use mathlib.Core.List.{List, [], ◌∷◌, ◌++◌, map}
use Rattle.std.proofs.Math.ListN.{length}
use native.Mathlib.Omega.{arith}
use Rattle.language.specs.Rows.{Record, row_of, numbers_of}
use Rattle.language.specs.Encoded.{RowAt, LinesAt}

module _ {A : Type 0} (Q : A → ℕ → Type 0) where
  lines_append : (xs ys : List A) (r : ℕ) → LinesAt Q (xs ++ ys) r
      → LinesAt Q xs r × LinesAt Q ys (r + length xs)
  unfolding LinesAt
  lines_append [] ys r h = let z : r ≡ r + 0 = omega arith in (tt, subst (LinesAt Q ys) z h)
  lines_append (x ∷ xs) ys r h =
      let t = lines_append xs ys (r + 1) h.1 in
      let z : r + 1 + length xs ≡ r + suc (length xs) = omega arith in
      ((h.0, t.0), subst (LinesAt Q ys) z t.1)

  -- Two lists one after the other, the first of n members.
  pub lines_split : (xs ys : List A) (r n : ℕ) → length xs ≡ n → LinesAt Q (xs ++ ys) r
      → LinesAt Q xs r × LinesAt Q ys (r + n)
  lines_split xs ys r n e h = let t = lines_append xs ys r h in
      (t.0, subst (λ (k : ℕ). LinesAt Q ys (r + k)) e t.1)

-- A record in rows, an entry in the table of ends.
abbrev pub RecordAt : List ℕ → Record → ℕ → Type 0
RecordAt R x r = RowAt R r x.letter x.first x.second

pub record EndAt (E : List ℕ) (n r : ℕ) : Type 0 where
  pub in_ends : r < length E
  pub end : get_or E r 0 ≡ n

-- The records whose numbers stand from row r on.
pub records_lines : (R : List ℕ) (xs : List Record) (r : ℕ) → drop (r * 4) R ≡ numbers_of (map row_of xs)
    → LinesAt (RecordAt R) xs r
unfolding LinesAt numbers_of
records_lines R [] r e = tt
records_lines R (x ∷ xs) r e = (
  record {
    within = omega (arith, length-drop (r * 4) R, ap length e);
    letter = at 0 ∙ ap (λ (l : List ℕ). get_or l 0 0) e;
    first = sym (get_or-drop (r * 4) R 1 0) ∙ ap (λ (l : List ℕ). get_or l 1 0) e;
    second = sym (get_or-drop (r * 4) R 2 0) ∙ ap (λ (l : List ℕ). get_or l 2 0) e;
  },
  records_lines R xs (r + 1) (ap (λ (n : ℕ). drop n R) z ∙ (sym (drop-drop 4 (r * 4) R) ∙ ap (drop 4) e)),
)
  where
    z : (r + 1) * 4 ≡ r * 4 + 4
    z = omega arith

    at : (i : ℕ) → get_or R (r * 4) 0 ≡ get_or (drop (r * 4) R) 0 0
    at i = let q : r * 4 ≡ r * 4 + 0 = omega arith in ap (λ (n : ℕ). get_or R n 0) q
        ∙ sym (get_or-drop (r * 4) R 0 0)

-- The entries that stand from place r on.
pub ends_lines : (E xs rest : List ℕ) (r : ℕ) → drop r E ≡ xs ++ rest → LinesAt (EndAt E) xs r
unfolding LinesAt
ends_lines E [] rest r e = tt
ends_lines E (x ∷ xs) rest r e = (
  record {
    in_ends = omega (arith, length-drop r E, ap length e);
    end = ap (λ (n : ℕ). get_or E n 0) z ∙ (sym (get_or-drop r E 0 0) ∙ ap (λ (l : List ℕ). get_or l 0 0) e);
  },
  ends_lines E xs rest (r + 1) (sym (drop-drop 1 r E) ∙ ap (drop 1) e),
)
  where
    z : r ≡ r + 0
    z = omega arith
