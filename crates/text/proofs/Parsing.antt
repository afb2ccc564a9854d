-- Laws of the reader: what holds between two lines while a text is parsed. Assumes nothing.
use mathlib.Core.Path.{◌≡◌, refl, sym, ap}
use mathlib.Core.Bool.{true}
use mathlib.Core.List.{List, [], ◌∷◌}
use mathlib.Core.Logic.{◌⊎◌, ⊎_elim}
use Prim.Native.Nat.{ℕ, zero, suc, ◌+◌, ◌-◌, ◌*◌, ◌/◌, ◌%◌, ◌≤◌, ◌<◌}
use native.Mathlib.Omega.{arith}
use lib.ListN.{length, drop, length-append, length-drop, drop_of_length-le}
use lib.Seq.{drop-cons, drop-drop, sets}
use Rattle.std.specs.Prelude.{Option, Some, None, Ok, Err}
use Rattle.language.specs.Refusals.{refusal}
use Rattle.language.specs.declared.Line.{Line}
use Rattle.language.specs.Results.{Checked, accept, refuse}
use Rattle.language.specs.Filling.{before, tally, is_made, made_numbers}
use Rattle.language.proofs.Filling.{Left, left_start, left_refused, left_unmade, left_done, left_full}
use Rattle.language.proofs.Filling.{left_step}
use Rattle.language.specs.Alphabet.{Alphabet}
use Rattle.language.specs.TextLines.{line as row_line, line_of}
use Rattle.language.specs.Texts.{with_line, read_lines, read_text}
use Rattle.text.specs.Places.{line_at}
use Rattle.text.proofs.Lines.{line_injective, row_span}

-- a line found at a place of a text, counted from there
line_inv : {A : Type 0} (at code a b next : ℕ) (l : Option Line) → line_at at l ≡ Some (row_line code a b next)
    → ((n : ℕ) → l ≡ Some (row_line code a b n) → next ≡ at + n → A) → A
line_inv at code a b next (Some l) e k = let h = line_injective e in
    k l.end (rw (← h.0, ← h.1, ← h.2)) (sym h.3)
line_inv at code a b next None e k = absurd (cc)

bad_inv : (at : ℕ) (l : Option Line) → line_at at l ≡ None → l ≡ None
bad_inv at (Some l) e = absurd (cc)
bad_inv at None e = refl

-- one more row is counted
tally_row : (code a b n : ℕ) (m : Checked (List ℕ))
    → tally 4 n (before (code ∷ a ∷ b ∷ 0 ∷ []) m) ≡ tally 4 (n + 1) m
tally_row code a b n (accept ys) =
    let e : n + suc (suc (suc (suc (length ys)))) / 4 ≡ n + 1 + length ys / 4 = omega arith in ap Ok e
tally_row code a b n (refuse number line) = refl

read_end : (α : Alphabet) (left line at : ℕ) (s : List ℕ)
    → length s ≤ at → read_lines α left line (drop at s) ≡ accept []
unfolding read_lines
read_end α zero line at s h = rw (drop_of_length-le s h)
read_end α (suc left) line at s h = rw (drop_of_length-le s h)

module _ (α : Alphabet) (line at : ℕ) (s : List ℕ) (h : at < length s) where
  read_over : (left : ℕ) → left ≡ 0 → read_lines α left line (drop at s) ≡ refuse 2 line
  unfolding read_lines
  read_over left z = rw (z, drop-cons s at 0 h)

  read_here : (left : ℕ)
      → read_lines α (suc left) line (drop at s)
      ≡ with_line line (λ used. read_lines α left (line + 1) (drop used (drop at s))) (line_of α (drop at s))
  unfolding read_lines
  read_here left = rw (drop-cons s at 0 h)

  read_bad : (left : ℕ) → line_at at (line_of α (drop at s)) ≡ None
      → read_lines α (suc left) line (drop at s) ≡ refuse 1 line
  read_bad left e = rw (read_here left, bad_inv at (line_of α (drop at s)) e)

  read_row : (code a b next : ℕ) → line_at at (line_of α (drop at s)) ≡ Some (row_line code a b next) → (left : ℕ)
      → read_lines α (suc left) line (drop at s)
      ≡ before (code ∷ a ∷ b ∷ 0 ∷ []) (read_lines α left (line + 1) (drop next s))
  read_row code a b next e left = line_inv at code a b next (line_of α (drop at s)) e λ n q w.
      rw (read_here left, q, drop-drop n at s, ← w)

  -- a line takes two bytes at least, and ends in the text
  line_span : (code a b next : ℕ) → line_at at (line_of α (drop at s)) ≡ Some (row_line code a b next)
      → (at + 2 ≤ next) × (next ≤ length s)
  line_span code a b next e = line_inv at code a b next (line_of α (drop at s)) e λ n q w.
      let k = row_span α (drop at s) code a b n q in
      (omega (arith, k.0, w), omega (arith, k.1, w, length-drop at s, h))

-- the rows of the text from a place on, which is where line `line` begins
abbrev rows_from : Alphabet → List ℕ → ℕ → ℕ → Checked (List ℕ)
rows_from α text at line = read_lines α (60001 - line) line (drop at text)

-- what holds between two lines while a text is parsed
pub record Parsing (α : Alphabet) (text held₀ held : List ℕ) (at line : ℕ) : Type 0 where
  pub low : 1 ≤ line
  pub high : line ≤ 60001
  pub place : 2 * (line - 1) ≤ at
  pub within : at ≤ length text
  pub left : Left 4 (read_text α text) (rows_from α text at line) (line - 1) held₀ held ((line - 1) * 4)

pub parsing_start : (α : Alphabet) (text held : List ℕ) → Parsing α text held held 0 1
parsing_start α text held =
    record {
      low = omega arith;
      high = omega arith;
      place = omega arith;
      within = omega arith;
      left = left_start 4 (read_text α text) held;
    }

module _ {α : Alphabet} {text held₀ held : List ℕ} {at line : ℕ} (p : Parsing α text held₀ held at line) where
  pub parsing_done : length text ≤ at → Ok (line - 1) ≡ tally 4 0 (read_text α text)
  parsing_done h = left_done p.left (read_end α (60001 - line) line at text h) (omega arith)

  pub parsing_full : length text ≤ at → is_made (read_text α text) ≡ true
      → held ≡ sets held₀ 0 (made_numbers (read_text α text))
  parsing_full h = left_full p.left (read_end α (60001 - line) line at text h)

  module _ (h : at < length text) where
    over : 60000 < line → rows_from α text at line ≡ refuse 2 line
    over l = read_over α line at text h (60001 - line) (omega (arith, l, p.high))

    pub parsing_over : 60000 < line → Err (refusal 2 line) ≡ tally 4 0 (read_text α text)
    parsing_over l = left_refused p.left 2 line (over l)

    pub parsing_over_held : {A : Type 0} → 60000 < line → is_made (read_text α text) ≡ true → A
    parsing_over_held l m = left_unmade p.left 2 line (over l) m

    module _ (l : line ≤ 60000) where
      more : 60001 - line ≡ suc (60000 - line)
      more = omega (arith, l)

      bad : line_at at (line_of α (drop at text)) ≡ None → rows_from α text at line ≡ refuse 1 line
      bad e = rw more (read_bad α line at text h (60000 - line) e)

      pub parsing_bad : line_at at (line_of α (drop at text)) ≡ None
          → Err (refusal 1 line) ≡ tally 4 0 (read_text α text)
      parsing_bad e = left_refused p.left 1 line (bad e)

      pub parsing_bad_held : {A : Type 0} → line_at at (line_of α (drop at text)) ≡ None
          → is_made (read_text α text) ≡ true → A
      parsing_bad_held e m = left_unmade p.left 1 line (bad e) m

      module _ (code a b next : ℕ) (e : line_at at (line_of α (drop at text)) ≡ Some (row_line code a b next)) where
        -- the row fits the buffer
        pub parsing_fits : (2 * length text ≤ length held₀) ⊎ (240000 ≤ length held₀)
            → (line - 1) * 4 + 4 ≤ length held
        parsing_fits r =
            let k = line_span α line at text h code a b next e in
            ⊎_elim (λ r. omega (arith, r, k.0, k.1, p.place, p.low, p.left.long))
            (λ r. omega (arith, r, l, p.left.long)) r

        pub parsing_step : (held' : List ℕ) → held' ≡ sets held ((line - 1) * 4) (code ∷ a ∷ b ∷ 0 ∷ [])
            → Parsing α text held₀ held' next (line + 1)
        parsing_step held' w =
            let k = line_span α line at text h code a b next e in
            let f : 60001 - (line + 1) ≡ 60000 - line = omega arith in
            let n : line + 1 - 1 ≡ line - 1 + 1 = omega (arith, p.low) in
            let i : (line + 1 - 1) * 4 ≡ (line - 1) * 4 + 4 = omega (arith, p.low) in
            record {
              low = omega arith;
              high = omega (arith, l);
              place = omega (arith, k.0, p.place, p.low);
              within = k.1;
              left = rw (f, i, n)
                  (left_step p.left (code ∷ a ∷ b ∷ 0 ∷ [])
                  (read_lines α (60000 - line) (line + 1) (drop next text)) (line - 1 + 1) held'
                  ((line - 1) * 4 + 4)
                  (rw more (read_row α line at text h code a b next e (60000 - line)))
                  (tally_row code a b (line - 1) (read_lines α (60000 - line) (line + 1) (drop next text)))
                  w refl);
            }

-- rows come whole
whole_before : (code a b : ℕ) (m : Checked (List ℕ)) → length (made_numbers m) % 4 ≡ 0
    → length (made_numbers (before (code ∷ a ∷ b ∷ 0 ∷ []) m)) % 4 ≡ 0
whole_before code a b (accept ys) e = omega (arith, e)
whole_before code a b (refuse number line) e = refl

whole_line : (line : ℕ) (rest : ℕ → Checked (List ℕ)) → ((n : ℕ) → length (made_numbers (rest n)) % 4 ≡ 0)
    → (l : Option Line) → length (made_numbers (with_line line rest l)) % 4 ≡ 0
whole_line line rest f (Some l) = whole_before l.code l.first l.second (rest l.end) (f l.end)
whole_line line rest f None = refl

pub read_whole : (α : Alphabet) (left line : ℕ) (s : List ℕ)
    → length (made_numbers (read_lines α left line s)) % 4 ≡ 0
unfolding read_lines
read_whole α zero line [] = refl
read_whole α zero line (x ∷ s) = refl
read_whole α (suc left) line [] = refl
read_whole α (suc left) line (x ∷ s) =
    whole_line line (λ used. read_lines α left (line + 1) (drop used (x ∷ s)))
    (λ n. read_whole α left (line + 1) (drop n (x ∷ s))) (line_of α (x ∷ s))

-- and are few: a line takes two bytes at least, and `left` lines are allowed
pub short_before : (xs : List ℕ) (m : Checked (List ℕ)) (k : ℕ) → length (made_numbers m) ≤ k
    → length (made_numbers (before xs m)) ≤ length xs + k
short_before xs (accept ys) k h = omega (arith, length-append xs ys, h)
short_before xs (refuse number line) k h = omega arith

read_short : (α : Alphabet) (left line : ℕ) (s : List ℕ)
    → (length (made_numbers (read_lines α left line s)) ≤ 2 * length s)
    × (length (made_numbers (read_lines α left line s)) ≤ 4 * left)
unfolding read_lines
read_short α zero line [] = (omega arith, omega arith)
read_short α zero line (x ∷ s) = (omega arith, omega arith)
read_short α (suc left) line [] = (omega arith, omega arith)
read_short α (suc left) line (x ∷ s) =
    go (line_of α (x ∷ s)) refl (λ n. read_short α left (line + 1) (drop n (x ∷ s)))
  where
    go : (l : Option Line) → line_of α (x ∷ s) ≡ l
        → ((n : ℕ) → (length (made_numbers (read_lines α left (line + 1) (drop n (x ∷ s)))) ≤ 2 * length
        (drop n (x ∷ s))) × (length (made_numbers (read_lines α left (line + 1) (drop n (x ∷ s)))) ≤ 4 *
        left))
        → (length (made_numbers (with_line line (λ used. read_lines α left (line + 1) (drop used (x ∷ s))) l))
        ≤ 2 * suc (length s))
        × (length (made_numbers (with_line line (λ used. read_lines α left (line + 1) (drop used (x ∷ s))) l))
        ≤ 4 * suc left)
    go (Some l) e ih =
        let n = l.end in
        let xs : List ℕ = l.code ∷ l.first ∷ l.second ∷ 0 ∷ [] in
        let k = row_span α (x ∷ s) l.code l.first l.second n e in
        let m = read_lines α left (line + 1) (drop n (x ∷ s)) in (
          omega (
            arith,
            short_before xs m (2 * length (drop n (x ∷ s))) (ih n).0,
            length-drop n (x ∷ s),
            k.0,
            k.1,
          ),
          omega (arith, short_before xs m (4 * left) (ih n).1),
        )
    go None e ih = (omega arith, omega arith)

-- so they fit the buffer that they are held in
pub read_fits : (α : Alphabet) (text : List ℕ) (room : ℕ) → (2 * length text ≤ room) ⊎ (240000 ≤ room)
    → length (made_numbers (read_text α text)) ≤ room
read_fits α text room r = let k = read_short α 60000 1 text in
    ⊎_elim (λ r. omega (arith, k.0, r)) (λ r. omega (arith, k.1, r)) r

-- rows that were read are whole
pub read_whole_rows : (α : Alphabet) (text rows : List ℕ) → read_text α text ≡ accept rows
    → length rows % 4 ≡ 0
read_whole_rows α text rows e = rw e at (read_whole α 60000 1 text)
