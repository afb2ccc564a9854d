-- The line of a term is read as its five numbers, and a line that is read is the line of a term. Assumes nothing.
use mathlib.Core.Path.{◌≡◌, refl, sym, ap, ◌∙◌}
use mathlib.Core.Logic.{◌↔◌}
use mathlib.Core.Bool.{true}
use mathlib.Core.List.{List, [], ◌∷◌, ◌++◌, append_assoc}
use Prim.Native.Nat.{ℕ, ◌+◌, ◌≤◌}
use lib.ListN.{length, take, drop, length-append, take-append-drop}
use lib.Seq.{take-add, drop-append_seam}
use Rattle.std.specs.Prelude.{Option as Maybe, Some, None}
use Rattle.language.specs.Decimals.{decimal_of, digits}
use Rattle.language.specs.TextLines.{field, is_end, taken, number_of}
use Rattle.fields.specs.Places.{number_at}
use Rattle.fields.proofs.Fields.{taken_inv}
use Rattle.fields.proofs.Digits.{decimal_back, decimal_forth, field_digits, field_first, number_back}
use Rattle.fields.proofs.Digits.{number_forth}
use Rattle.prices.specs.Terms.{Term, term_numbers, price_term, first_number, ended, term_line}
use Rattle.prices.proofs.Terms.{not_numbers, then_inv, ended_inv, term_line_range}
use Rattle.prices.specs.declared.TermLine.{TermLine}
use Rattle.promises.specs.PriceWords.{largest_number, term_text, Writable, BeginsWithTerm}

-- ---- a line that is read

-- Two numbers that are taken alike.
pub taken_is : {v n w m : ℕ} → ◌≡◌ {A = Maybe (ℕ × ℕ)} (Some (v, n)) (Some (w, m)) → (v ≡ w) × (n ≡ m)
taken_is {v} {n} {w} {m} e = let f : ◌≡◌ {A = ℕ × ℕ} (v, n) (w, m) = cc in
    (ap (λ (p : ℕ × ℕ). p.0) f, ap (λ (p : ℕ × ℕ). p.1) f)

-- A number that is read is written as it is in the text.
first_back : (s : List ℕ) (v n : ℕ) → first_number s ≡ Some (v, n) → take n s ≡ digits v
first_back s v n e = go (decimal_of (field s)) refl e
  where
    go : (d : Maybe ℕ) → decimal_of (field s) ≡ d → taken (length (field s)) d ≡ Some (v, n)
        → take n s ≡ digits v
    go (Some w) p e =
        let x = taken_is e in
        rw (← x.1, field_first s, ← x.0, decimal_back (field s) w p)
    go None p e = absurd (cc)

next_back : (p : ℕ) (s : List ℕ) (v q : ℕ) → number_at p s ≡ Some (v, q)
    → take q s ≡ take p s ++ (9 ∷ digits v)
next_back p s v q e = taken_inv p v q (number_of (drop p s)) e λ n f w.
    rw (w, take-add p n s, (number_back (drop p s) v n f).0)

-- The line with its parts gathered from the left, but for the line feed.
gathered : (a b c d e f : List ℕ) → a ++ b ++ c ++ d ++ e ++ f ≡ a ++ (b ++ (c ++ (d ++ (e ++ f))))
gathered a b c d e f = append_assoc (a ++ b ++ c ++ d) e f ∙ append_assoc (a ++ b ++ c) d (e ++ f)
    ∙ append_assoc (a ++ b) c (d ++ (e ++ f)) ∙ append_assoc a b (c ++ (d ++ (e ++ f)))

abbrev up_to_feed : Term → List ℕ
up_to_feed t =
    digits t.model ++ (9 ∷ digits t.first) ++ (9 ∷ digits t.last) ++ (9 ∷ digits t.cents)
    ++ (9 ∷ digits t.signing)

line_gathered : (t : Term) → term_text t ≡ up_to_feed t ++ (10 ∷ [])
unfolding term_text
line_gathered t = sym (gathered (digits t.model) (9 ∷ digits t.first) (9 ∷ digits t.last)
    (9 ∷ digits t.cents) (9 ∷ digits t.signing) (10 ∷ []))

-- What a line that is read says: its numbers are in range, and its bytes are the line of the term.
pub record LineBack (s : List ℕ) (t : Term) (used : ℕ) : Type 0 where
  pub writable : Writable t
  pub bytes : take used s ≡ term_text t
  pub used_from : 1 ≤ used
  pub used_to : used ≤ length s

bytes_back : (line : ℕ) (s : List ℕ) (model first last cents signing used : ℕ)
    → term_line s ≡ Some (term_numbers model first last cents signing used)
    → take used s ≡ term_text (price_term line model first last cents signing)
unfolding term_line
bytes_back line s m f l c g used e =
    then_inv _ (first_number s) e λ m₁ p₁ q₁ e. then_inv _ (number_at p₁ s) e λ f₁ p₂ q₂ e.
    then_inv _ (number_at p₂ s) e λ l₁ p₃ q₃ e. then_inv _ (number_at p₃ s) e λ c₁ p₄ q₄ e.
    then_inv _ (number_at p₄ s) e λ g₁ p₅ q₅ e.
    ended_inv m₁ f₁ l₁ c₁ g₁ p₅ (drop p₅ s) e λ im if il ic ig iu feed _. rw (
      ← im,
      ← if,
      ← il,
      ← ic,
      ← ig,
      ← iu,
      take-add p₅ 1 s,
      feed,
      next_back p₄ s g₁ p₅ q₅,
      next_back p₃ s c₁ p₄ q₄,
      next_back p₂ s l₁ p₃ q₃,
      next_back p₁ s f₁ p₂ q₂,
      first_back s m₁ p₁ q₁,
    )
    (sym (line_gathered (price_term line m₁ f₁ l₁ c₁ g₁)))

pub line_back : (line : ℕ) (s : List ℕ) (model first last cents signing used : ℕ)
    → term_line s ≡ Some (term_numbers model first last cents signing used)
    → LineBack s (price_term line model first last cents signing) used
line_back line s m f l c g used e = let r = term_line_range s m f l c g used e in record {
  writable = record {
    model_to = r.model_to;
    first_to = r.first_to;
    last_to = r.last_to;
    cents_to = r.cents_to;
    signing_to = r.signing_to;
  };
  bytes = bytes_back line s m f l c g used e;
  used_from = r.used_from;
  used_to = r.used_to;
}

-- ---- a line that is written

-- The number after a part of a text is read there.
pub next_forth : (p : List ℕ) (v u : ℕ) (t : List ℕ) → v ≤ largest_number → is_end u ≡ true
    → number_at (length p) (p ++ (9 ∷ digits v) ++ (u ∷ t)) ≡ Some (v, length (p ++ (9 ∷ digits v)))
next_forth p v u t h e = rw (
  append_assoc p (9 ∷ digits v) (u ∷ t),
  drop-append_seam p ((9 ∷ digits v) ++ (u ∷ t)),
  number_forth v u t h e,
  length-append p (9 ∷ digits v),
)

pub first_forth : (v u : ℕ) (t : List ℕ) → v ≤ largest_number → is_end u ≡ true
    → first_number (digits v ++ (u ∷ t)) ≡ Some (v, length (digits v))
first_forth v u t h e = rw (field_digits v u t e, decimal_forth v h)

pub line_forth : (t : Term) (rest : List ℕ) → Writable t → term_line (term_text t ++ rest)
    ≡ Some (term_numbers t.model t.first t.last t.cents t.signing (length (term_text t)))
unfolding term_line ended
line_forth t rest h =
    let M : List ℕ = digits t.model in
    let F : List ℕ = 9 ∷ digits t.first in
    let L : List ℕ = 9 ∷ digits t.last in
    let C : List ℕ = 9 ∷ digits t.cents in
    let G : List ℕ = 9 ∷ digits t.signing in
    let s : List ℕ = term_text t ++ rest in
    let s₅ : s ≡ M ++ F ++ L ++ C ++ G ++ (10 ∷ rest) = rw (line_gathered t)
    (append_assoc (up_to_feed t) (10 ∷ []) rest) in
    let s₄ : s ≡ M ++ F ++ L ++ C ++ (G ++ (10 ∷ rest)) = s₅
    ∙ append_assoc (M ++ F ++ L ++ C) G (10 ∷ rest) in
    let s₃ : s ≡ M ++ F ++ L ++ (C ++ (G ++ (10 ∷ rest))) =
    s₄ ∙ append_assoc (M ++ F ++ L) C (G ++ (10 ∷ rest)) in
    let s₂ : s ≡ M ++ F ++ (L ++ (C ++ (G ++ (10 ∷ rest)))) =
    s₃ ∙ append_assoc (M ++ F) L (C ++ (G ++ (10 ∷ rest))) in
    let s₁ : s ≡ M ++ (F ++ (L ++ (C ++ (G ++ (10 ∷ rest))))) =
    s₂ ∙ append_assoc M F (L ++ (C ++ (G ++ (10 ∷ rest)))) in
    let n₁ : first_number s ≡ Some (t.model, length M) =
    rw s₁ (first_forth t.model 9 (digits t.first ++ (L ++ (C ++ (G ++ (10 ∷ rest))))) h.model_to
    refl) in
    let n₂ : number_at (length M) s ≡ Some (t.first, length (M ++ F)) =
    rw s₂ (next_forth M t.first 9 (digits t.last ++ (C ++ (G ++ (10 ∷ rest)))) h.first_to refl) in
    let n₃ : number_at (length (M ++ F)) s ≡ Some (t.last, length (M ++ F ++ L)) =
    rw s₃ (next_forth (M ++ F) t.last 9 (digits t.cents ++ (G ++ (10 ∷ rest))) h.last_to refl) in
    let n₄ : number_at (length (M ++ F ++ L)) s ≡ Some (t.cents, length (M ++ F ++ L ++ C)) =
    rw s₄ (next_forth (M ++ F ++ L) t.cents 9 (digits t.signing ++ (10 ∷ rest)) h.cents_to refl) in
    let n₅ : number_at (length (M ++ F ++ L ++ C)) s ≡ Some (t.signing, length (M ++ F ++ L ++ C ++ G)) =
    rw s₅ (next_forth (M ++ F ++ L ++ C) t.signing 10 rest h.signing_to refl) in
    let d : drop (length (M ++ F ++ L ++ C ++ G)) s ≡ 10 ∷ rest =
    rw s₅ (drop-append_seam (M ++ F ++ L ++ C ++ G) (10 ∷ rest)) in
    let k : length (M ++ F ++ L ++ C ++ G) + 1 ≡ length (term_text t) =
    rw (line_gathered t) (sym (length-append (up_to_feed t) (10 ∷ []))) in
    rw (n₁, n₂, n₃, n₄, n₅, d, k)

-- Whether a text begins with a term's line.
pub begins : (s : List ℕ) (model first last cents signing used : ℕ)
    → term_line s ≡ Some (term_numbers model first last cents signing used) → BeginsWithTerm s
begins s m f l c g used e = let b = line_back 0 s m f l c g used e in record {
  term = price_term 0 m f l c g;
  rest = drop used s;
  writable = b.writable;
  written = sym (take-append-drop used s) ∙ ap (λ (x : List ℕ). x ++ drop used s) b.bytes;
}

-- A line is malformed exactly if the text does not begin with the line of a term.
pub malformed_lines : (s : List ℕ) → (term_line s ≡ None) ↔ (¬ BeginsWithTerm s)
malformed_lines s = (forth, go (term_line s) refl)
  where
    forth : term_line s ≡ None → ¬ BeginsWithTerm s
    forth e b = not_numbers (sym e ∙ (ap term_line b.written ∙ line_forth b.term b.rest
        b.writable))

    go : (r : Maybe TermLine) → term_line s ≡ r → ¬ BeginsWithTerm s → r ≡ None
    go None e n = refl
    go (Some t) e n = absurd (n (begins s t.model t.first t.last t.cents t.signing t.end e))
