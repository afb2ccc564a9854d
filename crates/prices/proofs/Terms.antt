-- Laws of terms read from text: the numbers of a line are in range, and there are at most 65,536 lines, because each has
-- a signing number of its own. Assumes nothing.
use mathlib.Core.Path.{◌≡◌, refl, sym, ap}
use mathlib.Core.Bool.{Bool, true, false, cond, ◌&&◌, ◌||◌, not}
use mathlib.Core.List.{List, [], ◌∷◌, ◌++◌}
use Prim.Native.Nat.{ℕ, zero, suc, ◌+◌, ◌-◌, ◌≤◌, ◌<◌}
use native.Mathlib.Omega.{arith}
use borrow.Author.Tests.{leb-true, eqb-true, eqb-false, ne_eqb, le-leb, lt-leb}
use lib.Dec.{eqb, leb}
use lib.ListN.{length, take, drop, length-append, length-drop, drop_of_length-le}
use lib.Seq.{drop-cons, drop-drop}
use Rattle.std.specs.Prelude.{Option, Some, None}
use Rattle.language.specs.Limits.{largest}
use Rattle.language.specs.Results.{Checked, accept, refuse, require, require_inv, accept≢refuse}
use Rattle.language.specs.Results.{accept_injective}
use Rattle.language.specs.Decimals.{decimal_of}
use Rattle.language.specs.TextLines.{line_feed, field, taken, number_of}
use Rattle.language.specs.WellFormed.{Each, each_nil, each_cons}
use Rattle.language.proofs.Booleans.{and_inv, not_true}
use Rattle.fields.specs.Places.{number_at}
use Rattle.fields.proofs.Digits.{decimal_range}
use Rattle.fields.proofs.Fields.{taken_inv}
use Rattle.prices.specs.Terms.{Term, price_term, first_number, then_numbers, term_numbers, ended, term_line}
use Rattle.prices.specs.Terms.{is_signed}
use Rattle.prices.specs.Terms.{next_line, with_term, terms_after, terms_of}
use Rattle.prices.specs.declared.TermLine.{TermLine}

-- ---- the numbers of a line

taken_range : (used : ℕ) (d : Option ℕ) (v n : ℕ) → ((k : ℕ) → d ≡ Some k → k ≤ largest)
    → taken used d ≡ Some (v, n)
    → v ≤ largest
taken_range used (Some k) v n f e =
    let p : ◌≡◌ {A = ℕ × ℕ} (k, used) (v, n) = cc in
    let q : k ≡ v = ap (λ (x : ℕ × ℕ). x.0) p in
    rw (← q) (f k refl)
taken_range used None v n f e = absurd (cc)

first_range : (s : List ℕ) (v n : ℕ) → first_number s ≡ Some (v, n) → v ≤ largest
first_range s v n e =
    taken_range (length (field s)) (decimal_of (field s)) v n (λ k. decimal_range (field s) k) e

number_of_range : (s : List ℕ) (v n : ℕ) → number_of s ≡ Some (v, n) → v ≤ largest
unfolding number_of
number_of_range [] v n e = absurd (cc)
number_of_range (b ∷ s) v n e = go (eqb b 9) e
  where
    go : (t : Bool) → cond t (taken (1 + length (field s)) (decimal_of (field s))) None ≡ Some (v, n)
        → v ≤ largest
    go true e =
        taken_range (1 + length (field s)) (decimal_of (field s)) v n (λ k. decimal_range (field s) k) e
    go false e = absurd (cc)

number_range : (at : ℕ) (s : List ℕ) (v n : ℕ) → number_at at s ≡ Some (v, n) → v ≤ largest
number_range at s v n e =
    taken_inv at v n (number_of (drop at s)) e λ k q w. number_of_range (drop at s) v k q

pub not_numbers : {A : Type 0} {m f l c g u : ℕ} → None ≡ Some (term_numbers m f l c g u) → A
not_numbers e = absurd (cc)

-- What is read of a line.
pub record LineInRange (s : List ℕ) (model first last cents signing used : ℕ) : Type 0 where
  pub model_to : model ≤ largest
  pub first_to : first ≤ largest
  pub last_to : last ≤ largest
  pub cents_to : cents ≤ largest
  pub signing_to : signing ≤ largest
  pub used_from : 1 ≤ used
  pub used_to : used ≤ length s

-- A line that is read has its numbers one after another, and then a line feed.
module _ {A : Type 0} {m f l c g u : ℕ} where
  pub then_inv : (rest : ℕ → ℕ → Option TermLine) (t : Option (ℕ × ℕ)) → then_numbers rest t ≡ Some (term_numbers m f l c g u)
      → ((v at : ℕ) → t ≡ Some (v, at) → rest v at ≡ Some (term_numbers m f l c g u) → A) → A
  then_inv rest (Some n) e k = k n.0 n.1 refl e
  then_inv rest None e k = not_numbers e

  pub ended_inv : (model first last cents signing used : ℕ) (s : List ℕ)
      → ended model first last cents signing used s ≡ Some (term_numbers m f l c g u)
      → (model ≡ m → first ≡ f → last ≡ l → cents ≡ c → signing ≡ g → used + 1 ≡ u
      → take 1 s ≡ line_feed ∷ [] → 1 ≤ length s → A)
      → A
  unfolding ended
  ended_inv model first last cents signing used [] e k = not_numbers e
  ended_inv model first last cents signing used (x ∷ s) e k = go (eqb x line_feed) refl e
    where
      go : (t : Bool) → eqb x line_feed ≡ t
          → cond t (Some (term_numbers model first last cents signing (used + 1))) None ≡ Some (term_numbers m f l c g u) → A
      go true q e =
          let h : term_numbers model first last cents signing (used + 1) ≡ term_numbers m f l c g u = cc in
          k (ap (λ (t : TermLine). t.model) h) (ap (λ (t : TermLine). t.first) h)
          (ap (λ (t : TermLine). t.last) h) (ap (λ (t : TermLine). t.cents) h)
          (ap (λ (t : TermLine). t.signing) h) (ap (λ (t : TermLine). t.end) h)
          (ap (λ (y : ℕ). y ∷ []) (eqb-true x line_feed q)) (omega arith)
      go false q e = not_numbers e

pub term_line_range : (s : List ℕ) (model first last cents signing used : ℕ)
    → term_line s ≡ Some (term_numbers model first last cents signing used)
    → LineInRange s model first last cents signing used
unfolding term_line
term_line_range s m f l c g u e =
    then_inv _ (first_number s) e λ v₁ p₁ q₁ e.
    then_inv _ (number_at p₁ s) e λ v₂ p₂ q₂ e.
    then_inv _ (number_at p₂ s) e λ v₃ p₃ q₃ e.
    then_inv _ (number_at p₃ s) e λ v₄ p₄ q₄ e.
    then_inv _ (number_at p₄ s) e λ v₅ p₅ q₅ e.
    ended_inv v₁ v₂ v₃ v₄ v₅ p₅ (drop p₅ s) e λ h₁ h₂ h₃ h₄ h₅ w feed k. record {
      model_to = rw (← h₁) (first_range s v₁ p₁ q₁);
      first_to = rw (← h₂) (number_range p₁ s v₂ p₂ q₂);
      last_to = rw (← h₃) (number_range p₂ s v₃ p₃ q₃);
      cents_to = rw (← h₄) (number_range p₃ s v₄ p₄ q₄);
      signing_to = rw (← h₅) (number_range p₄ s v₅ p₅ q₅);
      used_from = omega (arith, w);
      used_to = omega (arith, w, k, length-drop p₅ s);
    }

-- ---- signing numbers

pub or_false : (b : Bool) → (b || false) ≡ b
or_false true = refl
or_false false = refl

and_false : (b : Bool) → (b && false) ≡ false
and_false true = refl
and_false false = refl

pub signed_append : (n : ℕ) (ts : List Term) (t : Term)
    → is_signed n (ts ++ (t ∷ [])) ≡ (is_signed n ts || eqb t.signing n)
unfolding is_signed
signed_append n [] t = or_false (eqb t.signing n)
signed_append n (u ∷ ts) t = go (eqb u.signing n) (signed_append n ts t)
  where
    go : (b : Bool) → is_signed n (ts ++ (t ∷ [])) ≡ (is_signed n ts || eqb t.signing n)
        → (b || is_signed n (ts ++ (t ∷ []))) ≡ ((b || is_signed n ts) || eqb t.signing n)
    go true e = refl
    go false e = e

-- How many numbers below n are signing numbers of these terms.
unfoldable pub count_signed : ℕ → List Term → ℕ
count_signed zero ts = 0
count_signed (suc n) ts = cond (is_signed n ts) 1 0 + count_signed n ts

count_few : (n : ℕ) (ts : List Term) → count_signed n ts ≤ n
unfolding count_signed
count_few zero ts = omega arith
count_few (suc n) ts = go (is_signed n ts) (count_few n ts)
  where
    go : (b : Bool) → count_signed n ts ≤ n → cond b 1 0 + count_signed n ts ≤ suc n
    go true h = omega (arith, h)
    go false h = omega (arith, h)

count_none : (n : ℕ) → count_signed n [] ≡ 0
unfolding count_signed is_signed
count_none zero = refl
count_none (suc n) = omega (arith, count_none n)

-- A term whose signing number is new adds one.
module _ (ts : List Term) (t : Term) (new : is_signed t.signing ts ≡ false) where
  count_before : (n : ℕ) → n ≤ t.signing → count_signed n (ts ++ (t ∷ [])) ≡ count_signed n ts
  unfolding count_signed
  count_before zero h = refl
  count_before (suc n) h = rw (
    signed_append n ts t,
    ne_eqb t.signing n (λ e. omega (arith, h, e)),
    or_false (is_signed n ts),
    count_before n (omega (arith, h)),
  )

  count_after : (n : ℕ) → t.signing < n → count_signed n (ts ++ (t ∷ [])) ≡ suc (count_signed n ts)
  unfolding count_signed
  count_after zero h = absurd (omega (arith, h))
  count_after (suc n) h = go (eqb t.signing n) refl (λ l. count_after n l)
    where
      go : (b : Bool) → eqb t.signing n ≡ b
          → (t.signing < n → count_signed n (ts ++ (t ∷ [])) ≡ suc (count_signed n ts))
          → count_signed (suc n) (ts ++ (t ∷ [])) ≡ suc (count_signed (suc n) ts)
      go true e ih =
          let q : t.signing ≡ n = eqb-true t.signing n e in
          let z : is_signed n ts ≡ false = rw (← q) new in
          rw (signed_append n ts t, e, z, count_before n (omega (arith, q))) (omega arith)
      go false e ih =
          let l : t.signing < n = let d = eqb-false t.signing n e in omega (arith, h, d) in
          rw (signed_append n ts t, e, or_false (is_signed n ts), ih l)
          (omega arith)

-- ---- the terms of a text

-- The term on the line after those seen.
abbrev pub next_term : List Term → ℕ → ℕ → ℕ → ℕ → ℕ → Term
next_term seen model first last cents signing = price_term (next_line seen) model first last cents signing

-- The line and the price of a term are in range.
pub record TermInRange (t : Term) : Type 0 where
  pub line_from : 1 ≤ t.line
  pub cents_to : t.cents ≤ largest

-- The terms so far are in range, and there are as many as signing numbers of theirs. A signing number is at most
-- 65,535, so there are at most 65,536 terms.
pub record Seen (ts : List Term) : Type 0 where
  pub each : Each TermInRange ts
  pub count : length ts ≡ count_signed 65536 ts

pub seen_none : Seen []
seen_none = record { each = each_nil; count = sym (count_none 65536) }

pub seen_few : {ts : List Term} → Seen ts → length ts ≤ 65536
seen_few {ts} h = omega (arith, h.count, count_few 65536 ts)

each_append : {P : Term → Type 0} {ts : List Term} (t : Term) → Each P ts → P t → Each P (ts ++ (t ∷ []))
each_append t each_nil p = each_cons p each_nil
each_append t (each_cons q h) p = each_cons q (each_append t h p)

-- A line in range gives one term more.
module _ {seen : List Term} (h : Seen seen) {s : List ℕ} {m f l c g u : ℕ} (r : LineInRange s m f l c g u)
    (new : is_signed g seen ≡ false) where
  pub seen_more : Seen (seen ++ (next_term seen m f l c g ∷ []))
  seen_more =
      let k = count_after seen (next_term seen m f l c g) new 65536 (omega (arith, r.signing_to)) in
      let n = length-append seen (next_term seen m f l c g ∷ []) in
      record {
        each = each_append (next_term seen m f l c g) h.each
            (record { line_from = omega arith; cents_to = r.cents_to });
        count = omega (arith, k, n, h.count);
      }

-- A line of a text that is accepted.
with_inv : {A : Type 0} (seen : List Term) (rest : List Term → ℕ → Checked (List Term)) (line : Option TermLine)
    {ts : List Term} → with_term seen rest line ≡ accept ts
    → ((m f l c g u : ℕ) → line ≡ Some (term_numbers m f l c g u) → f ≤ l → is_signed g seen ≡ false
    → rest (seen ++ (next_term seen m f l c g ∷ [])) u ≡ accept ts → A) → A
with_inv seen rest None e k = absurd (accept≢refuse 1 (next_line seen) e)
with_inv seen rest (Some n) e k =
    require_inv (leb n.first n.last && not (is_signed n.signing seen)) 23 (next_line seen) _ e λ t q.
    let both = and_inv (leb n.first n.last) (not (is_signed n.signing seen)) t in
    k n.model n.first n.last n.cents n.signing n.end refl (leb-true n.first n.last both.0)
    (not_true (is_signed n.signing seen) both.1) q

after_seen : (seen : List Term) (skip : ℕ) (s : List ℕ) (ts : List Term) → Seen seen
    → terms_after seen skip s ≡ accept ts → Seen ts
unfolding terms_after
after_seen seen skip [] ts h e = let q : seen ≡ ts = accept_injective e in rw (← q) h
after_seen seen (suc skip) (x ∷ s) ts h e = after_seen seen skip s ts h e
after_seen seen zero (x ∷ s) ts h e =
    with_inv seen (λ us used. terms_after us (used - 1) s) (term_line (x ∷ s)) e
    λ m f l c g u q days new e.
    after_seen (seen ++ (next_term seen m f l c g ∷ [])) (u - 1) s ts
    (seen_more h (term_line_range (x ∷ s) m f l c g u q) new) e

pub terms_in_range : (text : List ℕ) (ts : List Term) → terms_of text ≡ accept ts → Each TermInRange ts
terms_in_range text ts e = (after_seen [] 0 text ts seen_none e).each

pub terms_few : (text : List ℕ) (ts : List Term) → terms_of text ≡ accept ts → length ts ≤ 65536
terms_few text ts e = seen_few (after_seen [] 0 text ts seen_none e)

-- ---- the terms of a text from a place on

terms_skip : (seen : List Term) (k : ℕ) (s : List ℕ)
    → terms_after seen k s ≡ terms_after seen 0 (drop k s)
unfolding terms_after
terms_skip seen zero s = refl
terms_skip seen (suc k) [] = refl
terms_skip seen (suc k) (x ∷ s) = terms_skip seen k s

pub terms_end : (seen : List Term) (at : ℕ) (s : List ℕ)
    → length s ≤ at → terms_after seen 0 (drop at s) ≡ accept seen
unfolding terms_after
terms_end seen at s h = rw (drop_of_length-le s h)

module _ (seen : List Term) (at : ℕ) (s : List ℕ) (h : at < length s) where
  terms_here : terms_after seen 0 (drop at s)
      ≡ with_term seen (λ ts used. terms_after ts (used - 1) (drop (suc at) s)) (term_line (drop at s))
  unfolding terms_after
  terms_here = rw (drop-cons s at 0 h)

  pub terms_malformed : term_line (drop at s) ≡ None
      → terms_after seen 0 (drop at s) ≡ refuse 1 (next_line seen)
  terms_malformed e = rw (terms_here, e)

  module _ (m f l c g u : ℕ) (e : term_line (drop at s) ≡ Some (term_numbers m f l c g u)) where
    pub terms_reversed : l < f → terms_after seen 0 (drop at s) ≡ refuse 23 (next_line seen)
    unfolding require
    terms_reversed q = rw (terms_here, e, lt-leb f l q)

    pub terms_repeated : is_signed g seen ≡ true
        → terms_after seen 0 (drop at s) ≡ refuse 23 (next_line seen)
    unfolding require
    terms_repeated q = rw (terms_here, e, q, and_false (leb f l))

    pub terms_more : f ≤ l → is_signed g seen ≡ false → 1 ≤ u
        → terms_after seen 0 (drop at s)
        ≡ terms_after (seen ++ (next_term seen m f l c g ∷ [])) 0 (drop (at + u) s)
    unfolding require
    terms_more p q w =
        let k : suc at + (u - 1) ≡ at + u = omega (arith, w) in
        rw (
          terms_here,
          e,
          le-leb f l p,
          q,
          terms_skip (seen ++ (next_term seen m f l c g ∷ [])) (u - 1) (drop (suc at) s),
          drop-drop (u - 1) (suc at) s,
          k,
        )
