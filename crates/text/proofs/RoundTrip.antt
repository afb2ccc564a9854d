-- Under every alphabet with the two laws, reading what the writer made gives the rows back, and writing what the reader
-- read gives the text back. Assumes nothing.
use mathlib.Core.Path.{◌≡◌, refl, sym, ap, ◌∙◌}
use mathlib.Core.Option.{Option as Maybe, none, some}
use mathlib.Core.Bool.{Bool, true, false, cond, false≢true}
use mathlib.Core.List.{List, [], ◌∷◌, ◌++◌, append_assoc}
use Prim.Native.Nat.{ℕ, zero, suc, ◌+◌, ◌%◌, ◌≤◌}
use native.Mathlib.Omega.{arith}
use borrow.Author.Tests.{le-leb, leb-true, eq-eqb, eqb-true}
use lib.Dec.{eqb, leb}
use lib.ListN.{length, take, drop, length-append, take-append-drop}
use lib.Seq.{take-add, drop-append_seam, drop-append-add}
use Rattle.std.specs.Prelude.{Option, Some, None}
use Rattle.language.specs.declared.Line.{Line}
use Rattle.language.specs.Results.{Checked, accept, refuse}
use Rattle.language.specs.Filling.{before}
use Rattle.language.specs.Lists.{given}
use Rattle.language.specs.Rows.{Letter, letters, code, numbers, numbers_after, row, is_row}
use Rattle.language.specs.Alphabet.{Alphabet, Laws}
use Rattle.language.proofs.Letters.{among_code, code_among}
use Rattle.language.proofs.Rows.{are_numbers, is_row_by}
use Rattle.language.specs.Decimals.{digits}
use Rattle.language.specs.TextLines.{line as row_line, number_of, closed, then_line, numbered, line_of}
use Rattle.language.specs.TextLines.{line_from, line_text}
use Rattle.language.specs.Texts.{with_line, read_lines, read_text, write_lines, write_rows}
use Rattle.fields.proofs.Digits.{number_back, number_forth}
use Rattle.text.proofs.Lines.{line_injective, text_by, row_letter}
use Rattle.text.proofs.Parsing.{read_whole_rows}
use Rattle.text.proofs.Formatting.{rows_are_whole}
use Rattle.language.proofs.Booleans.{and_inv}

-- ---- after its first byte, a line that was read is the line of its row

module _ {A : Type 0} where
  no_row : {code a b n : ℕ} → None ≡ Some (row_line code a b n) → A
  no_row e = absurd (cc)

  no_rows : {number line : ℕ} {xs : List ℕ} → refuse number line ≡ accept xs → A
  no_rows e = absurd (cc)

  -- what closes a line is a line feed
  closed_inv : (code a b used : ℕ) (s : List ℕ) (code' a' b' n : ℕ)
      → closed code a b used s ≡ Some (row_line code' a' b' n)
      → (code ≡ code' → a ≡ a' → b ≡ b' → n ≡ used + 1 → take 1 s ≡ 10 ∷ [] → A) → A
  unfolding closed
  closed_inv code a b used [] code' a' b' n e k = no_row e
  closed_inv code a b used (x ∷ s) code' a' b' n e k = go (eqb x 10) refl e
    where
      go : (t : Bool) → eqb x 10 ≡ t → cond t (Some (row_line code a b (used + 1))) None ≡ Some (row_line code' a' b' n) → A
      go true q e = let h = line_injective e in k h.0 h.1 h.2 (sym h.3) (ap (λ (y : ℕ). y ∷ []) (eqb-true x 10 q))
      go false q e = no_row e

-- what a line that was read says, after its first byte `x`: its row has the letter's code `y` and the `k` numbers that
-- follow it, and its text is the line of these
abbrev Numbered : ℕ → ℕ → ℕ → List ℕ → ℕ → ℕ → ℕ → ℕ → Type 0
Numbered k y x s c a b n = (c ≡ y) × (are_numbers k a b ≡ true) × (take n (x ∷ s) ≡ line_from x k a b)

module _ (y x : ℕ) (s : List ℕ) (c a b n : ℕ) where
  none_back : closed y 0 0 1 s ≡ Some (row_line c a b n) → Numbered 0 y x s c a b n
  none_back e = closed_inv y 0 0 1 s c a b n e λ p q r w f.
      let z : n ≡ 2 = omega (arith, w) in
      rw (z, ← p, ← q, ← r) (refl, refl, ap (λ (t : List ℕ). x ∷ t) f)

  one_back : (t : Option (ℕ × ℕ)) → number_of s ≡ t
      → then_line (λ v m. closed y v 0 (1 + m) (drop m s)) t ≡ Some (row_line c a b n) → Numbered 1 y x s c a b n
  one_back None g e = no_row e
  one_back (Some t) g e =
      let v = t.0 in
      let m = t.1 in
      closed_inv y v 0 (1 + m) (drop m s) c a b n e λ p q r w f.
      let h = number_back s v m g in
      let z : n ≡ suc (m + 1) = omega (arith, w) in
      rw (z, ← p, ← q, ← r) (
        refl,
        rw (le-leb v 65535 h.1),
        ap (λ (t : List ℕ). x ∷ t) (take-add m 1 s ∙ rw (h.0, f)),
      )

  second_back : (v m : ℕ) → number_of s ≡ Some (v, m) → (t : Option (ℕ × ℕ)) → number_of (drop m s) ≡ t
      → then_line (λ u l. closed y v u (1 + m + l) (drop (m + l) s)) t ≡ Some (row_line c a b n)
      → Numbered 2 y x s c a b n
  second_back v m g None g' e = no_row e
  second_back v m g (Some t) g' e =
      let u = t.0 in
      let l = t.1 in
      closed_inv y v u (1 + m + l) (drop (m + l) s) c a b n e λ p q r w f.
      let h = number_back s v m g in
      let i = number_back (drop m s) u l g' in
      let z : n ≡ suc (m + l + 1) = omega (arith, w) in
      rw (z, ← p, ← q, ← r) (
        refl,
        rw (le-leb v 65535 h.1, le-leb u 65535 i.1),
        ap (λ (t : List ℕ). x ∷ t) (take-add (m + l) 1 s ∙ rw (take-add m l s, h.0, i.0, f)),
      )

  two_back : (t : Option (ℕ × ℕ)) → number_of s ≡ t
      → then_line (λ v m. then_line (λ u l. closed y v u (1 + m + l) (drop (m + l) s)) (number_of (drop m s)))
      t ≡ Some (row_line c a b n) → Numbered 2 y x s c a b n
  two_back None g e = no_row e
  two_back (Some t) g e = second_back t.0 t.1 g (number_of (drop t.1 s)) refl e

numbered_back : (k y x : ℕ) (s : List ℕ) (c a b n : ℕ) → numbered k y s ≡ Some (row_line c a b n)
    → Numbered k y x s c a b n
unfolding numbered
numbered_back zero y x s c a b n e = none_back y x s c a b n e
numbered_back (suc zero) y x s c a b n e = one_back y x s c a b n (number_of s) refl e
numbered_back (suc (suc zero)) y x s c a b n e = two_back y x s c a b n (number_of s) refl e
numbered_back (suc (suc (suc k))) y x s c a b n e = no_row e

-- numbers that follow a letter make a row with it
letter_row : (l : Letter) (a b : ℕ) → are_numbers (numbers l) a b ≡ true → is_row (row (code l) a b 0) ≡ true
unfolding numbers_after
letter_row l a b e = is_row_by (code l) a b 0 ∙ rw (code_among l, e)

-- ---- and a line that was written reads back

closed_forth : (code a b used : ℕ) (t : List ℕ) → closed code a b used (10 ∷ t) ≡ Some (row_line code a b (used + 1))
unfolding closed
closed_forth code a b used t = refl

module _ (y a b : ℕ) (t : List ℕ) where
  one_forth : a ≤ 65535
      → numbered 1 y ((9 ∷ digits a) ++ (10 ∷ []) ++ t)
      ≡ Some (row_line y a 0 (suc (length ((9 ∷ digits a) ++ (10 ∷ [])))))
  unfolding numbered
  one_forth h =
      let w : (9 ∷ digits a) ++ (10 ∷ []) ++ t ≡ (9 ∷ digits a) ++ (10 ∷ t) =
      append_assoc (9 ∷ digits a) (10 ∷ []) t in
      let l : length ((9 ∷ digits a) ++ (10 ∷ [])) ≡ length (9 ∷ digits a) + 1 =
      length-append (9 ∷ digits a) (10 ∷ []) in
      let n : 1 + length (9 ∷ digits a) + 1 ≡ suc (length ((9 ∷ digits a) ++ (10 ∷ []))) = omega (arith, l) in
      rw (
        w,
        number_forth a 10 t h refl,
        drop-append_seam (9 ∷ digits a) (10 ∷ t),
        closed_forth y a 0 (1 + length (9 ∷ digits a)) t,
        n,
      )

  two_forth : a ≤ 65535 → b ≤ 65535
      → numbered 2 y ((9 ∷ digits a) ++ ((9 ∷ digits b) ++ (10 ∷ [])) ++ t)
      ≡ Some (row_line y a b (suc (length ((9 ∷ digits a) ++ ((9 ∷ digits b) ++ (10 ∷ []))))))
  unfolding numbered
  two_forth h i =
      let X : List ℕ = 9 ∷ digits a in
      let Y : List ℕ = 9 ∷ digits b in
      let w : (X ++ (Y ++ (10 ∷ []))) ++ t ≡ X ++ (9 ∷ (digits b ++ (10 ∷ t))) =
      append_assoc X (Y ++ (10 ∷ [])) t ∙ ap (λ (r : List ℕ). X ++ r) (append_assoc Y (10 ∷ []) t) in
      let l : length (X ++ (Y ++ (10 ∷ []))) ≡ length X + (length Y + 1) = length-append X (Y ++ (10 ∷ []))
      ∙ ap (λ (r : ℕ). length X + r) (length-append Y (10 ∷ [])) in
      let n : 1 + length X + length Y + 1 ≡ suc (length (X ++ (Y ++ (10 ∷ [])))) = omega (arith, l) in
      rw (
        w,
        number_forth a 9 (digits b ++ (10 ∷ t)) h refl,
        drop-append_seam X (9 ∷ (digits b ++ (10 ∷ t))),
        number_forth b 10 t i refl,
        drop-append-add X (Y ++ (10 ∷ t)) (length Y),
        drop-append_seam Y (10 ∷ t),
        closed_forth y a b (1 + length X + length Y) t,
        n,
      )

  none_forth : numbered 0 y (10 ∷ t) ≡ Some (row_line y 0 0 2)
  unfolding numbered
  none_forth = closed_forth y 0 0 1 t

-- after its first byte, a line with the numbers of a row is read as that row
numbered_forth : (k y x a b : ℕ) (t : List ℕ) → are_numbers k a b ≡ true
    → numbered k y (drop 1 (line_from x k a b ++ t)) ≡ Some (row_line y a b (length (line_from x k a b)))
numbered_forth zero y x a b t f =
    let p : a ≡ 0 = eqb-true a 0 (and_inv (eqb a 0) (eqb b 0) f).0 in
    let q : b ≡ 0 = eqb-true b 0 (and_inv (eqb a 0) (eqb b 0) f).1 in
    rw (p, q) (none_forth y a b t)
numbered_forth (suc zero) y x a b t f =
    let q : b ≡ 0 = eqb-true b 0 (and_inv (leb a 65535) (eqb b 0) f).1 in
    rw q (one_forth y a b t (leb-true a 65535 (and_inv (leb a 65535) (eqb b 0) f).0))
numbered_forth (suc (suc zero)) y x a b t f =
    rw (append_assoc (digits a) (9 ∷ digits b) (10 ∷ []))
    (two_forth y a b t (leb-true a 65535 (and_inv (leb a 65535) (leb b 65535) f).0)
    (leb-true b 65535 (and_inv (leb a 65535) (leb b 65535) f).1))
numbered_forth (suc (suc (suc j))) y x a b t f = absurd (false≢true f)

-- ---- lines and whole texts, under an alphabet with both laws

before_inv : {A : Type 0} (xs ys : List ℕ) (m : Checked (List ℕ)) → before xs m ≡ accept ys
    → ((zs : List ℕ) → m ≡ accept zs → ys ≡ xs ++ zs → A) → A
before_inv xs ys (accept zs) e k = let h : xs ++ zs ≡ ys = cc in k zs refl (sym h)
before_inv xs ys (refuse number line) e k = no_rows e

module _ {α : Alphabet} (laws : Laws α) where
  -- a line that was read is the line of a row
  line_back : (s : List ℕ) (c a b n : ℕ) → line_of α s ≡ Some (row_line c a b n)
      → (is_row (row c a b 0) ≡ true) × (take n s ≡ line_text α c a b)
  unfolding line_of
  line_back [] c a b n e = no_row e
  line_back (x ∷ s) c a b n e = go (α.letter x) refl e
    where
      go : (o : Maybe Letter) → α.letter x ≡ o
          → given o None (λ l. numbered (numbers l) (code l) s) ≡ Some (row_line c a b n)
          → (is_row (row c a b 0) ≡ true) × (take n (x ∷ s) ≡ line_text α c a b)
      go none q e = no_row e
      go (some l) q e =
          let h = numbered_back (numbers l) (code l) x s c a b n e in
          rw h.0 (
            letter_row l a b h.1,
            h.2 ∙ rw (text_by α (code l) a b l (code_among l), laws.byte_of_letter x l q),
          )

  lines_back : (left line : ℕ) (s rows : List ℕ) → read_lines α left line s ≡ accept rows
      → write_lines α left line rows ≡ accept s
  unfolding read_lines write_lines
  lines_back zero line [] rows e = let h : [] ≡ rows = cc in rw (← h)
  lines_back zero line (x ∷ s) rows e = no_rows e
  lines_back (suc left) line [] rows e = let h : [] ≡ rows = cc in rw (← h)
  lines_back (suc left) line (x ∷ s) rows e =
      go (line_of α (x ∷ s)) refl e (λ n zs f. lines_back left (line + 1) (drop n (x ∷ s)) zs f)
    where
      go : (l : Option Line) → line_of α (x ∷ s) ≡ l
          → with_line line (λ used. read_lines α left (line + 1) (drop used (x ∷ s))) l ≡ accept rows
          → ((n : ℕ) (zs : List ℕ) → read_lines α left (line + 1) (drop n (x ∷ s)) ≡ accept zs
          → write_lines α left (line + 1) zs ≡ accept (drop n (x ∷ s)))
          → write_lines α (suc left) line rows ≡ accept (x ∷ s)
      go None q e ih = no_rows e
      go (Some l) q e ih =
          let c = l.code in
          let a = l.first in
          let b = l.second in
          let n = l.end in
          before_inv (c ∷ a ∷ b ∷ 0 ∷ []) rows (read_lines α left (line + 1) (drop n (x ∷ s))) e λ zs f h.
          let w = line_back (x ∷ s) c a b n q in
          rw (h, w.0, ih n zs f, ← w.1, take-append-drop n (x ∷ s))

  -- Writing what the reader read gives the text back.
  pub write_read : (text rows : List ℕ) → read_text α text ≡ accept rows → write_rows α rows ≡ accept text
  write_read text rows e =
      rw (eq-eqb (length rows % 4) 0 (read_whole_rows α text rows e)) (lines_back 60000 1 text rows e)

  -- a row's line is read as that row
  line_forth : (n a b c : ℕ) (t : List ℕ) → is_row (row n a b c) ≡ true
      → (c ≡ 0) × (line_of α (line_text α n a b ++ t) ≡ Some (row_line n a b (length (line_text α n a b))))
  unfolding line_of
  line_forth n a b c t e = row_letter n a b c e λ l q f z. (
    z,
    rw (text_by α n a b l q, laws.letter_of_byte l, ← among_code letters n l q)
        (numbered_forth (numbers l) (code l) (α.byte l) a b t f),
  )

  -- a text that begins with a line is not empty, and reading the line leaves what follows
  read_first : (left line c a b n : ℕ) (s : List ℕ) → line_of α s ≡ Some (row_line c a b n)
      → read_lines α (suc left) line s ≡ before (c ∷ a ∷ b ∷ 0 ∷ []) (read_lines α left (line + 1) (drop n s))
  unfolding read_lines line_of
  read_first left line c a b n [] e = no_row e
  read_first left line c a b n (x ∷ s) e = rw e

  empty_read : (left line : ℕ) → read_lines α left line [] ≡ accept []
  unfolding read_lines
  empty_read zero line = refl
  empty_read (suc left) line = refl

  lines_forth : (left line : ℕ) (rows s : List ℕ) → write_lines α left line rows ≡ accept s
      → read_lines α left line s ≡ accept rows
  unfolding write_lines
  lines_forth zero line [] s e = let h : [] ≡ s = cc in rw (← h) (empty_read 0 line)
  lines_forth zero line (x ∷ rows) s e = no_rows e
  lines_forth (suc left) line [] s e = let h : [] ≡ s = cc in rw (← h) (empty_read (suc left) line)
  lines_forth (suc left) line (n ∷ []) s e = no_rows e
  lines_forth (suc left) line (n ∷ a ∷ []) s e = no_rows e
  lines_forth (suc left) line (n ∷ a ∷ b ∷ []) s e = no_rows e
  lines_forth (suc left) line (n ∷ a ∷ b ∷ c ∷ rows) s e =
      go (is_row (row n a b c)) refl e (λ t f. lines_forth left (line + 1) rows t f)
    where
      go : (t : Bool) → is_row (row n a b c) ≡ t
          → cond t (before (line_text α n a b) (write_lines α left (line + 1) rows)) (refuse 1 line)
          ≡ accept s
          → ((t : List ℕ) → write_lines α left (line + 1) rows ≡ accept t
          → read_lines α left (line + 1) t ≡ accept rows)
          → read_lines α (suc left) line s ≡ accept (n ∷ a ∷ b ∷ c ∷ rows)
      go true q e ih = before_inv (line_text α n a b) s (write_lines α left (line + 1) rows) e λ zs f h.
          let w = line_forth n a b c zs q in
          rw (
            h,
            read_first left line n a b (length (line_text α n a b)) (line_text α n a b ++ zs) w.1,
            drop-append_seam (line_text α n a b) zs,
            ih zs f,
            w.0,
          )
      go false q e ih = no_rows e

  -- Reading what the writer made gives the rows back.
  pub read_write : (rows text : List ℕ) → write_rows α rows ≡ accept text → read_text α text ≡ accept rows
  read_write rows text e = rows_are_whole α rows text e λ f. lines_forth 60000 1 rows text f
