-- Laws of the writer: what holds between two rows while they are formatted. Assumes nothing.
use mathlib.Core.Path.{◌≡◌, refl, ◌∙◌}
use mathlib.Core.Bool.{Bool, true, false, cond, false≢true}
use mathlib.Core.List.{List, [], ◌∷◌}
use mathlib.Core.Logic.{◌⊎◌, ⊎_elim}
use Prim.Native.Nat.{ℕ, zero, suc, ◌+◌, ◌-◌, ◌*◌, ◌/◌, ◌%◌, ◌≤◌, ◌<◌}
use native.Mathlib.Omega.{arith}
use borrow.Author.Tests.{eq-eqb, ne_eqb}
use lib.Dec.{eqb}
use lib.ListN.{length, get_or, drop, length-append, drop_of_length-le}
use lib.Seq.{drop-cons, sets}
use Rattle.std.specs.Prelude.{Ok, Err}
use Rattle.language.specs.Refusals.{refusal}
use Rattle.language.specs.Results.{Checked, accept, refuse}
use Rattle.language.specs.Rows.{row, is_row}
use Rattle.language.specs.Filling.{before, tally, is_made, made_numbers}
use Rattle.language.proofs.Filling.{Left, left_start, left_refused, left_unmade, left_done, left_full}
use Rattle.language.proofs.Filling.{left_step}
use Rattle.language.specs.Alphabet.{Alphabet}
use Rattle.language.specs.TextLines.{line_text}
use Rattle.language.specs.Texts.{write_lines, write_rows}
use Rattle.text.proofs.Lines.{row_short}
use Rattle.text.proofs.Parsing.{short_before}

-- some bytes more are counted
tally_bytes : (xs : List ℕ) (n : ℕ) (m : Checked (List ℕ))
    → tally 1 n (before xs m) ≡ tally 1 (n + length xs) m
tally_bytes xs n (accept ys) = let e : n + (length xs + length ys) / 1 ≡ n + length xs + length ys / 1 =
    omega arith in rw (length-append xs ys, e)
tally_bytes xs n (refuse number line) = refl

-- a row from a place on
drop_row : (rows : List ℕ) (i : ℕ) → i + 4 ≤ length rows
    → drop i rows ≡ get_or rows i 0 ∷ get_or rows (i + 1) 0 ∷ get_or rows (i + 2) 0 ∷ get_or rows (i + 3) 0
    ∷ drop (i + 4) rows
drop_row rows i h =
    let e₁ : i + 1 ≡ suc i = omega arith in
    let e₂ : i + 2 ≡ suc (suc i) = omega arith in
    let e₃ : i + 3 ≡ suc (suc (suc i)) = omega arith in
    let e₄ : i + 4 ≡ suc (suc (suc (suc i))) = omega arith in
    rw (
      drop-cons rows i 0 (omega arith),
      drop-cons rows (suc i) 0 (omega arith),
      drop-cons rows (suc (suc i)) 0 (omega arith),
      drop-cons rows (suc (suc (suc i))) 0 (omega arith),
      e₁,
      e₂,
      e₃,
      e₄,
    )

write_end : (α : Alphabet) (left line i : ℕ) (rows : List ℕ) → length rows ≤ i
    → write_lines α left line (drop i rows) ≡ accept []
unfolding write_lines
write_end α zero line i rows h = rw (drop_of_length-le rows h)
write_end α (suc left) line i rows h = rw (drop_of_length-le rows h)

write_over : (α : Alphabet) (line i : ℕ) (rows : List ℕ) → i + 4 ≤ length rows → (left : ℕ) → left ≡ 0
    → write_lines α left line (drop i rows) ≡ refuse 2 line
unfolding write_lines
write_over α line i rows h left z = rw (z, drop_row rows i h)

write_here : (α : Alphabet) (line i : ℕ) (rows : List ℕ) → i + 4 ≤ length rows → (code a b c : ℕ)
    → code ≡ get_or rows i 0 → a ≡ get_or rows (i + 1) 0 → b ≡ get_or rows (i + 2) 0 → c ≡ get_or rows (i + 3) 0
    → (left : ℕ)
    → write_lines α (suc left) line (drop i rows)
    ≡ cond (is_row (row code a b c))
    (before (line_text α code a b) (write_lines α left (line + 1) (drop (i + 4) rows))) (refuse 1 line)
unfolding write_lines
write_here α line i rows h code a b c e₀ e₁ e₂ e₃ left = rw (drop_row rows i h, e₀, e₁, e₂, e₃)

-- the text of the rows from a place on, which is where line `line` begins
abbrev text_from : Alphabet → List ℕ → ℕ → ℕ → Checked (List ℕ)
text_from α rows i line = write_lines α (60001 - line) line (drop i rows)

-- what holds between two rows while they are formatted
pub record Formatting (α : Alphabet) (rows held₀ held : List ℕ) (i at line : ℕ) : Type 0 where
  pub low : 1 ≤ line
  pub high : line ≤ 60001
  pub place : i ≡ 4 * (line - 1)
  pub whole : length rows % 4 ≡ 0
  pub small : at ≤ 14 * (line - 1)
  pub left : Left 1 (write_rows α rows) (text_from α rows i line) at held₀ held at

pub formatting_odd : (α : Alphabet) (rows : List ℕ) → (length rows % 4 ≡ 0 → ⊥)
    → Err (refusal 1 0) ≡ tally 1 0 (write_rows α rows)
formatting_odd α rows n = rw (ne_eqb (length rows % 4) 0 n)

pub formatting_odd_held : {A : Type 0} (α : Alphabet) (rows : List ℕ) → (length rows % 4 ≡ 0 → ⊥)
    → is_made (write_rows α rows) ≡ true → A
formatting_odd_held α rows n m = let z : false ≡ true = rw (ne_eqb (length rows % 4) 0 n) at m in
    absurd (false≢true z)

pub formatting_start : (α : Alphabet) (rows held : List ℕ) → length rows % 4 ≡ 0
    → Formatting α rows held held 0 0 1
formatting_start α rows held h =
    let e : write_rows α rows ≡ text_from α rows 0 1 = rw (eq-eqb (length rows % 4) 0 h) in
    record {
      low = omega arith;
      high = omega arith;
      place = refl;
      whole = h;
      small = omega arith;
      left = rw e (left_start 1 (text_from α rows 0 1) held);
    }

module _ {α : Alphabet} {rows held₀ held : List ℕ} {i at line : ℕ}
    (p : Formatting α rows held₀ held i at line) where
  pub formatting_done : length rows ≤ i → Ok at ≡ tally 1 0 (write_rows α rows)
  formatting_done h = left_done p.left (write_end α (60001 - line) line i rows h) (omega arith)

  pub formatting_full : length rows ≤ i → is_made (write_rows α rows) ≡ true
      → held ≡ sets held₀ 0 (made_numbers (write_rows α rows))
  formatting_full h = left_full p.left (write_end α (60001 - line) line i rows h)

  module _ (h : i < length rows) where
    pub formatting_row : i + 4 ≤ length rows
    formatting_row = omega (arith, p.place, p.whole, h)

    above : 60000 < line → text_from α rows i line ≡ refuse 2 line
    above l = write_over α line i rows formatting_row (60001 - line) (omega (arith, l, p.high))

    pub formatting_over : 60000 < line → Err (refusal 2 line) ≡ tally 1 0 (write_rows α rows)
    formatting_over l = left_refused p.left 2 line (above l)

    pub formatting_over_held : {A : Type 0} → 60000 < line → is_made (write_rows α rows) ≡ true → A
    formatting_over_held l m = left_unmade p.left 2 line (above l) m

    module _ (l : line ≤ 60000) (code a b c : ℕ) (e₀ : code ≡ get_or rows i 0) (e₁ : a ≡ get_or rows (i + 1) 0)
        (e₂ : b ≡ get_or rows (i + 2) 0) (e₃ : c ≡ get_or rows (i + 3) 0) where
      here : text_from α rows i line
          ≡ cond (is_row (row code a b c))
          (before (line_text α code a b) (write_lines α (60000 - line) (line + 1) (drop (i + 4) rows)))
          (refuse 1 line)
      here = let e : 60001 - line ≡ suc (60000 - line) = omega (arith, l) in
          rw e (write_here α line i rows formatting_row code a b c e₀ e₁ e₂ e₃ (60000 - line))

      pub formatting_bad : is_row (row code a b c) ≡ false → Err (refusal 1 line) ≡ tally 1 0 (write_rows α rows)
      formatting_bad e = left_refused p.left 1 line (here ∙ rw e)

      pub formatting_bad_held : {A : Type 0} → is_row (row code a b c) ≡ false
          → is_made (write_rows α rows) ≡ true → A
      formatting_bad_held e m = left_unmade p.left 1 line (here ∙ rw e) m

      module _ (t : is_row (row code a b c) ≡ true) where
        -- the line fits the buffer
        pub formatting_fits : (14 * length rows ≤ 4 * length held₀) ⊎ (840000 ≤ length held₀)
            → at + length (line_text α code a b) ≤ length held
        formatting_fits r =
            let k = row_short α code a b c t in
            ⊎_elim (λ r. omega (arith, r, k, p.small, p.place, p.low, formatting_row, p.left.long))
            (λ r. omega (arith, r, k, p.small, l, p.low, p.left.long)) r

        pub formatting_step : (held' : List ℕ) (at' : ℕ) → held' ≡ sets held at (line_text α code a b)
            → at' ≡ at + length (line_text α code a b)
            → Formatting α rows held₀ held' (i + 4) at' (line + 1)
        formatting_step held' at' w q =
            let f : 60001 - (line + 1) ≡ 60000 - line = omega arith in
            record {
              low = omega arith;
              high = omega (arith, l);
              place = omega (arith, p.place, p.low);
              whole = p.whole;
              small = omega (arith, q, row_short α code a b c t, p.small, p.low);
              left = rw f
                  (left_step p.left (line_text α code a b)
                  (write_lines α (60000 - line) (line + 1) (drop (i + 4) rows)) at' held' at'
                  (here ∙ rw t) (rw q (tally_bytes (line_text α code a b) at (write_lines α (60000 - line)
                  (line + 1) (drop (i + 4) rows)))) w q);
            }

-- a text is short: 14 bytes at most for each row of four numbers, and `left` rows are allowed
write_short : (α : Alphabet) (left line : ℕ) (rows : List ℕ)
    → (4 * length (made_numbers (write_lines α left line rows)) ≤ 14 * length rows)
    × (length (made_numbers (write_lines α left line rows)) ≤ 14 * left)
unfolding write_lines
write_short α zero line [] = (omega arith, omega arith)
write_short α zero line (x ∷ rows) = (omega arith, omega arith)
write_short α (suc left) line [] = (omega arith, omega arith)
write_short α (suc left) line (code ∷ []) = (omega arith, omega arith)
write_short α (suc left) line (code ∷ a ∷ []) = (omega arith, omega arith)
write_short α (suc left) line (code ∷ a ∷ b ∷ []) = (omega arith, omega arith)
write_short α (suc left) line (code ∷ a ∷ b ∷ c ∷ rows) =
    go (is_row (row code a b c)) refl (write_short α left (line + 1) rows)
  where
    go : (t : Bool) → is_row (row code a b c) ≡ t
        → (4 * length (made_numbers (write_lines α left (line + 1) rows)) ≤ 14 * length rows)
        × (length (made_numbers (write_lines α left (line + 1) rows)) ≤ 14 * left)
        → (4 * length (made_numbers (cond t (before (line_text α code a b)
        (write_lines α left (line + 1) rows))
        (refuse 1 line))) ≤ 14 * suc (suc (suc (suc (length rows)))))
        × (length (made_numbers (cond t (before (line_text α code a b) (write_lines α left (line + 1) rows))
        (refuse 1 line))) ≤ 14 * suc left)
    go true e ih =
        let m = write_lines α left (line + 1) rows in
        let k = short_before (line_text α code a b) m (length (made_numbers m)) (omega arith) in
        (omega (arith, k, row_short α code a b c e, ih.0), omega (arith, k, row_short α code a b c e, ih.1))
    go false e ih = (omega arith, omega arith)

pub write_fits : (α : Alphabet) (rows : List ℕ) (room : ℕ) → (14 * length rows ≤ 4 * room) ⊎ (840000 ≤ room)
    → length (made_numbers (write_rows α rows)) ≤ room
write_fits α rows room r = go (eqb (length rows % 4) 0)
  where
    go : (t : Bool) → length (made_numbers (cond t (write_lines α 60000 1 rows) (refuse 1 0))) ≤ room
    go true = let k = write_short α 60000 1 rows in
        ⊎_elim (λ r. omega (arith, k.0, r)) (λ r. omega (arith, k.1, r)) r
    go false = omega arith

-- rows that were written are whole
pub rows_are_whole : {A : Type 0} (α : Alphabet) (rows text : List ℕ) → write_rows α rows ≡ accept text
    → (write_lines α 60000 1 rows ≡ accept text → A) → A
rows_are_whole {A} α rows text e k = go (eqb (length rows % 4) 0) e
  where
    go : (t : Bool) → cond t (write_lines α 60000 1 rows) (refuse 1 0) ≡ accept text → A
    go true e = k e
    go false e = absurd (cc)
