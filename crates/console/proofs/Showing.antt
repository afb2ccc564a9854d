-- From what the services answer to what the programs print. Assumes nothing.
use mathlib.Core.Path.{◌≡◌, refl, sym, ap, subst, ◌∙◌}
use mathlib.Core.Bool.{Bool, true, false, cond}
use mathlib.Core.List.{List, ◌++◌}
use Prim.Native.Nat.{ℕ, ◌+◌, ◌*◌, ◌/◌, ◌%◌, ◌≤◌, ◌<◌}
use native.Mathlib.Omega.{arith}
use borrow.Author.Tests.{le-leb, lt-leb}
use lib.Dec.{leb}
use lib.ListN.{length, take, drop, replicate}
use lib.Seq.{sets, length-sets}
use Rattle.language.specs.Results.{Checked, accept, refuse, bind_checked, bind_checked_inv}
use Rattle.language.specs.Filling.{held, filled, overwritten, answer, buffer}
use Rattle.std.specs.Prelude.{Result, Ok, Err}
use Rattle.language.specs.Refusals.{refusal}
use Rattle.language.specs.declared.Refusal.{Refusal}
use Rattle.console.specs.Shown.{Shown}
use Rattle.language.specs.State.{null, truth, object, raised, spent, deep, full, stuck}
use Rattle.language.specs.Store.{Answer, gave, ended, refused, ran, run_of}
use Rattle.language.specs.Translation.{translation}
use Rattle.language.proofs.Filling.{take_sets, sets_then, held_inv, held_again, answer_fits}
use Rattle.language.proofs.Filling.{answer_refused, answer_refused_inv, answer_done_inv, buffer_long}
use Rattle.theory.proofs.acceptance.Translatable.{translation_takes}
use Rattle.theory.proofs.acceptance.Acceptance.{numbers_whole}
use Rattle.language.specs.Alphabet.{ours}
use Rattle.language.specs.Texts.{read_text, write_rows}
use Rattle.text.proofs.Parsing.{read_whole_rows}
use Rattle.running.specs.Answers.{answer_told}
use Rattle.language.specs.Printed.{refusal_text, run_text, run_line, source_rows, printed}
use Rattle.language.specs.Printed.{plain_text, run_lines}
use Rattle.printing.specs.Told.{answer_text}
use Rattle.printing.proofs.Writing.{both_long}

-- ---- the line of a run

-- what is printed of an answer as the code holds it is what is printed of the answer
pub told_text : (a : Answer) → answer_text (answer_told a) ≡ run_text a
told_text (refused n l) = refl
told_text (ran (gave null) s n c) = refl
told_text (ran (gave (truth true)) s n c) = refl
told_text (ran (gave (truth false)) s n c) = refl
told_text (ran (gave (object j)) s n c) = refl
told_text (ran (ended (raised k)) s n c) = refl
told_text (ran (ended spent) s n c) = refl
told_text (ran (ended deep) s n c) = refl
told_text (ran (ended full) s n c) = refl
told_text (ran (ended stuck) s n c) = refl

pub line_told : (rows : List ℕ)
    → answer_text (answer_told (run_of rows 10000 (replicate 3000 0)).answer) ≡ run_line rows
unfolding run_line
line_told rows = told_text (run_of rows 10000 (replicate 3000 0)).answer

-- ---- what fills a buffer

-- a text at the start of the output
pub shown : (old new text : List ℕ) (r : ℕ) → r ≡ 0 + length text → r ≤ length old → new ≡ sets old 0 text
    → (take r new ≡ text) × (r ≤ length new)
shown old new text r p h w =
    let e : r ≡ length text = omega (arith, p) in
    (rw (w, e) (take_sets old text (omega (arith, h, e))), rw w (omega (arith, h, length-sets old 0 text)))

-- the refusal that was answered is that of what is held
held_refused : (width room : ℕ) (m : Checked (List ℕ)) (old : List ℕ) (r : Result ℕ Refusal) (e : Refusal)
    → length old ≡ room → r ≡ answer width m (length old) → r ≡ Err e → held room m ≡ refuse e.number e.line
held_refused width room m old r e h a d = ap (λ (k : ℕ). held k m) (sym h)
    ∙ answer_refused_inv width (length old) m e.number e.line (sym a ∙ d)

-- n rows stand first in a buffer
pub record RowsMade (m : Checked (List ℕ)) (new : List ℕ) (n : ℕ) : Type 0 where
  pub numbers : List ℕ
  pub is : m ≡ accept numbers
  pub place : n * 4 ≤ length new
  pub first : take (n * 4) new ≡ numbers

-- rows come whole: their numbers are the first of the buffer
rows_made : (room : ℕ) (m : Checked (List ℕ)) (old new : List ℕ) (r : Result ℕ Refusal) (n : ℕ)
    → ((xs : List ℕ) → m ≡ accept xs → length xs % 4 ≡ 0)
    → length old ≡ room → r ≡ answer 4 m (length old) → new ≡ buffer m old → r ≡ Ok n
    → RowsMade (held room m) new n
rows_made room m old new r n whole h a w d =
    let k = answer_done_inv 4 m old new n (sym a ∙ d) w in
    let e : n * 4 ≡ length k.numbers = omega (arith, k.count, whole k.numbers k.made) in
    record {
      numbers = k.numbers;
      is = ap (λ (x : ℕ). held x m) (sym h) ∙ k.is;
      place = omega (arith, e, k.fits, ap length w ∙ buffer_long m old);
      first = rw e k.first;
    }

-- ---- the source

pub source_long : (input : List ℕ) → 8192 < length input → source_rows input ≡ refuse 13 0
unfolding source_rows bind_checked
source_long input h = rw (lt-leb (length input) 8192 h)

source_read : (input : List ℕ) → length input ≤ 8192 → source_rows input ≡ held 2720 (read_text ours input)
unfolding source_rows bind_checked
source_read input h = rw (le-leb (length input) 8192 h)

module _ (input old : List ℕ) (h : length old ≡ 2720) where
  pub source_refused : 8192 < length input
      → (Err (refusal 13 0) ≡ answer 4 (source_rows input) (length old)) × (old ≡ buffer (source_rows input) old)
  source_refused l = answer_refused 4 13 0 old (source_long input l)

  source_held : length input ≤ 8192 → source_rows input ≡ held (length old) (read_text ours input)
  source_held l = source_read input l ∙ rw h

  pub source_answer : length input ≤ 8192
      → answer 4 (read_text ours input) (length old) ≡ answer 4 (source_rows input) (length old)
  source_answer l = rw (source_held l) (ap (filled 4) (sym (held_again (length old) (read_text ours input))))

  pub source_buffer : length input ≤ 8192 → buffer (read_text ours input) old ≡ buffer (source_rows input) old
  source_buffer l = rw (source_held l)
      (ap (λ (c : Checked (List ℕ)). overwritten c old)
      (sym (held_again (length old) (read_text ours input))))

pub source_whole : (input xs : List ℕ) → source_rows input ≡ accept xs → length xs % 4 ≡ 0
unfolding source_rows
source_whole input xs e =
    bind_checked_inv (held 8192 (accept input)) (λ text. held 2720 (read_text ours text)) e λ text _ f.
    read_whole_rows ours text xs (held_inv 2720 (read_text ours text) xs f).0

-- the rows of an input are held already
source_again : (input : List ℕ) → held 2720 (source_rows input) ≡ source_rows input
unfolding source_rows bind_checked
source_again input = go (leb (length input) 8192)
  where
    go : (t : Bool) → let rows = bind_checked (cond t (accept input) (refuse 13 0)) (λ text.
        held 2720 (read_text ours text)) in held 2720 rows ≡ rows
    go true = held_again 2720 (read_text ours input)
    go false = refl

-- ---- the plain program

pub translation_whole : (rows xs : List ℕ) → translation rows ≡ accept xs → length xs % 4 ≡ 0
translation_whole rows xs e = let k = translation_takes rows xs e in rw k.2 (numbers_whole _)

module _ (rows old new : List ℕ) (r : Result ℕ Refusal) (n : ℕ) (h : length old ≡ 4000)
    (a : r ≡ answer 4 (translation rows) (length old)) (w : new ≡ buffer (translation rows) old)
    (d : r ≡ Ok n) where
  pub plain_made : RowsMade (held 4000 (translation rows)) new n
  plain_made = rows_made 4000 (translation rows) old new r n (translation_whole rows) h a w d

module _ (input old new : List ℕ) (r : Result ℕ Refusal) (n : ℕ) (h : length old ≡ 2720)
    (a : r ≡ answer 4 (source_rows input) (length old)) (w : new ≡ buffer (source_rows input) old)
    (d : r ≡ Ok n) where
  pub source_made : RowsMade (source_rows input) new n
  source_made = rw (source_again input)
      at (rows_made 2720 (source_rows input) old new r n (source_whole input) h a w d)

-- ---- what is shown

-- what follows of rows that stand in a buffer, and of a refusal
pub of_rows : {m : Checked (List ℕ)} {new : List ℕ} {n : ℕ} → RowsMade m new n
    → (k : List ℕ → Checked (List ℕ)) → bind_checked m k ≡ k (take (n * 4) new)
unfolding bind_checked
of_rows g k = ap (λ (x : Checked (List ℕ)). bind_checked x k) g.is ∙ ap k (sym g.first)

of_refusal : {m : Checked (List ℕ)} {n l : ℕ} → m ≡ refuse n l → (k : List ℕ → Checked (List ℕ))
    → bind_checked m k ≡ refuse n l
unfolding bind_checked
of_refusal e k = ap (λ (x : Checked (List ℕ)). bind_checked x k) e

pub shown_as : {m m' : Checked (List ℕ)} (r : Result ℕ Refusal) (out : List ℕ) → m ≡ m' → Shown m' r out
    → Shown m r out
shown_as r out e h = rw e h

-- the text of rows, or the refusal
pub text_shown : (plain old new : List ℕ) (r : Result ℕ Refusal) → length old ≡ 8192
    → r ≡ answer 1 (write_rows ours plain) (length old) → new ≡ buffer (write_rows ours plain) old
    → Shown (held 8192 (write_rows ours plain)) r new
text_shown plain old new r h a w = subst (λ (room : ℕ). Shown (held room made) r new) h (go r a)
  where
    made : Checked (List ℕ)
    made = write_rows ours plain

    go : (r : Result ℕ Refusal) → r ≡ answer 1 made (length old) → Shown (held (length old) made) r new
    go (Ok n) a =
        let k = answer_done_inv 1 made old new n (sym a) w in
        let e : n ≡ length k.numbers = omega (arith, k.count) in (
          k.is ∙ ap (λ (t : List ℕ). accept t) (sym (ap (λ (m : ℕ). take m new) e ∙ k.first)),
          omega (arith, e, k.fits, ap length w ∙ buffer_long made old),
        )
    go (Err e) a = answer_refused_inv 1 (length old) made e.number e.line (sym a)

-- the two programs, from the rows on
module _ (rows new : List ℕ) (n : ℕ) (g : RowsMade (held 4000 (translation rows)) new n) where
  pub plain_shown : (r : Result ℕ Refusal) (out : List ℕ)
      → Shown (held 8192 (write_rows ours (take (n * 4) new))) r out → Shown (plain_text rows) r out
  unfolding plain_text
  plain_shown r out h = shown_as r out (of_rows g (λ plain. held 8192 (write_rows ours plain))) h

  pub runs_shown : (m : ℕ) (out : List ℕ)
      → (take m out ≡ run_line rows ++ run_line (take (n * 4) new)) × (m ≤ length out)
      → Shown (run_lines rows) (Ok m) out
  unfolding run_lines
  runs_shown m out h = (
    of_rows g (λ plain. accept (run_line rows ++ run_line plain)) ∙ ap (λ (t : List ℕ). accept t) (sym h.0),
    h.1,
  )

module _ (rows old : List ℕ) (r : Result ℕ Refusal) (e : Refusal) (h : length old ≡ 4000)
    (a : r ≡ answer 4 (translation rows) (length old)) (d : r ≡ Err e) where
  pub plain_refused : plain_text rows ≡ refuse e.number e.line
  unfolding plain_text
  plain_refused = of_refusal (held_refused 4 4000 (translation rows) old r e h a d)
      (λ plain. held 8192 (write_rows ours plain))

  pub runs_refused : run_lines rows ≡ refuse e.number e.line
  unfolding run_lines
  runs_refused = of_refusal (held_refused 4 4000 (translation rows) old r e h a d)
      (λ plain. accept (run_line rows ++ run_line plain))

-- a refusal of what is held is the source's own
pub source_refuse : (input old : List ℕ) (r : Result ℕ Refusal) (e : Refusal) → length old ≡ 2720
    → r ≡ answer 4 (source_rows input) (length old) → r ≡ Err e → (k : List ℕ → Checked (List ℕ))
    → bind_checked (source_rows input) k ≡ refuse e.number e.line
source_refuse input old r e h a d k =
    of_refusal (sym (source_again input) ∙ held_refused 4 2720 (source_rows input) old r e h a d) k

-- ---- what is printed of it

pub text_printed : (m : Checked (List ℕ)) (n : ℕ) (out : List ℕ) → Shown m (Ok n) out
    → (take n out ≡ printed m) × (n ≤ length out)
text_printed m n out h = (sym (ap (λ (x : Checked (List ℕ)). printed x) h.0), h.1)

pub refusal_printed : (m : Checked (List ℕ)) (n l : ℕ) (t : List ℕ) → m ≡ refuse n l → t ≡ refusal_text n l
    → t ≡ printed m
refusal_printed m n l t e q = q ∙ sym (ap (λ (x : Checked (List ℕ)). printed x) e)

-- two lines, one after the other
pub both_shown : (old mid new xs ys : List ℕ) (then r : ℕ) → then ≡ 0 + length xs → r ≡ then + length ys
    → mid ≡ sets old 0 xs → new ≡ sets mid then ys → r ≤ length old
    → (take r new ≡ xs ++ ys) × (r ≤ length new)
both_shown old mid new xs ys then r p q u v h =
    shown old new (xs ++ ys) r (both_long 0 then r xs ys p q) h
    (v ∙ ap (λ (l : List ℕ). sets l then ys) u ∙ sets_then old 0 then xs ys p)

-- ---- the text handed over to the lent output

-- copied: the text, then what was there past it
pub handed : (text old new : List ℕ) → length text ≤ length old → new ≡ text ++ drop (length text) old
    → (Ok (length text) ≡ answer 1 (accept text) (length old)) × (new ≡ buffer (accept text) old)
handed text old new l w =
    let a = answer_fits 1 text old l in
    let d : length text ≡ length text / 1 = omega arith in
    (ap (λ (n : ℕ). Ok n) d ∙ a.0, w ∙ a.1)

-- what is handed over is what was to be printed
pub handed_text : (text text' old new : List ℕ) (r : Result ℕ Refusal) → text ≡ text'
    → (r ≡ answer 1 (accept text) (length old)) × (new ≡ buffer (accept text) old)
    → (r ≡ answer 1 (accept text') (length old)) × (new ≡ buffer (accept text') old)
handed_text text text' old new r e h = rw e at h

-- the bytes that the answer counts are in the lent output
pub counted_within : (m : Checked (List ℕ)) (old new : List ℕ) (r : Result ℕ Refusal) (n : ℕ)
    → (r ≡ answer 1 m (length old)) × (new ≡ buffer m old) → r ≡ Ok n → n ≤ length new
counted_within m old new r n h d =
    let k = answer_done_inv 1 m old new n (sym h.0 ∙ d) h.1 in
    omega (arith, k.count, k.fits, ap length h.1 ∙ buffer_long m old)
