-- Texts of terms are read exactly as listed: which are accepted and with what terms, and which are refused and on what
-- line. Assumes nothing.
use mathlib.Core.Path.{◌≡◌, refl, sym, ap, ◌∙◌}
use mathlib.Core.Logic.{◌↔◌, ◌≢◌, inl, inr}
use mathlib.Core.Bool.{Bool, true, false, ◌||◌}
use mathlib.Core.List.{List, [], ◌∷◌, ◌++◌, append_assoc, append-nil}
use mathlib.Core.Option.{some}
use Prim.Native.Nat.{ℕ, zero, suc, ◌≤◌, ◌<◌}
use native.Mathlib.Nat.{zero-add}
use native.Mathlib.Omega.{arith}
use borrow.Author.Tests.{leb-true, leb-false, eqb-true, eq-eqb}
use lib.Dec.{eqb, leb}
use lib.ListN.{length, drop, length-drop, take-append-drop}
use lib.Seq.{drop-append_seam, append_snoc}
use Rattle.std.specs.Prelude.{Option as Maybe, Some, None}
use Rattle.language.proofs.Booleans.{false≢, or_inl, or_inr}
use Rattle.language.specs.Limits.{line_refusal}
use Rattle.language.specs.Lists.{nth, Never, inj, nth_append, nth_append_one, nth_up, nth_lt}
use Rattle.language.specs.Results.{Checked, accept, refuse, accept≢refuse, accept_injective}
use Rattle.prices.specs.Terms.{Term, term_numbers, price_term, term_refusal, term_line, is_signed, next_line, terms_after}
use Rattle.prices.specs.Terms.{terms_of}
use Rattle.prices.proofs.Terms.{next_term, terms_malformed, terms_reversed, terms_repeated, terms_more}
use Rattle.prices.proofs.Terms.{terms_few}
use Rattle.prices.specs.declared.TermLine.{TermLine}
use Rattle.promises.specs.PriceWords.{term_text, terms_text, Writable, ProperTerms, TermsOf}
use Rattle.promises.specs.PriceWords.{Signed, TermsRefusal, malformed, ends_early, signed_again}
use Rattle.promises.proofs.prices.TermLines.{LineBack, line_back, line_forth}
use Rattle.promises.proofs.prices.TermLines.{malformed_lines}

-- ---- signing numbers

signed_if : (n : ℕ) (ts : List Term) → is_signed n ts ≡ true → Signed n ts
unfolding is_signed nth
signed_if n [] e = false≢ e
signed_if n (t ∷ ts) e = go (eqb t.signing n) refl e (λ f. signed_if n ts f)
  where
    go : (b : Bool) → eqb t.signing n ≡ b → (b || is_signed n ts) ≡ true
        → (is_signed n ts ≡ true → Signed n ts) → Signed n (t ∷ ts)
    go true q e ih = record { place = 0; term = t; there = refl; signing_is = eqb-true t.signing n q }
    go false q e ih = let w = ih e in
        record { place = suc w.place; term = w.term; there = w.there; signing_is = w.signing_is }

signed_at : (n : ℕ) (ts : List Term) (i : ℕ) (t : Term) → nth ts i ≡ some t → t.signing ≡ n
    → is_signed n ts ≡ true
unfolding is_signed nth
signed_at n [] i t e q = absurd (Never e)
signed_at n (u ∷ ts) zero t e q =
    or_inl (eqb u.signing n) (is_signed n ts)
    (eq-eqb u.signing n (ap (λ (x : Term). x.signing) (inj e) ∙ q))
signed_at n (u ∷ ts) (suc i) t e q = or_inr (eqb u.signing n) (is_signed n ts) (signed_at n ts i t e q)

signed_is : (n : ℕ) (ts : List Term) → Signed n ts → is_signed n ts ≡ true
signed_is n ts w = signed_at n ts w.place w.term w.there w.signing_is

not_signed : (n : ℕ) (ts : List Term) → ¬ Signed n ts → is_signed n ts ≡ false
not_signed n ts h = go (is_signed n ts) refl
  where
    go : (b : Bool) → is_signed n ts ≡ b → b ≡ false
    go true e = absurd (h (signed_if n ts e))
    go false e = refl

-- ---- proper terms

no_terms : ProperTerms []
unfolding nth
no_terms = record {
  writable = λ i t e. absurd (Never e);
  days_in_order = λ i t e. absurd (Never e);
  on_line = λ i t e. absurd (Never e);
  signed_once = λ i j t u e f q. absurd (Never e);
}

-- One more term, whose signing number is new.
pub one_more : (ts : List Term) (t : Term) → ProperTerms ts → Writable t → t.first ≤ t.last
    → t.line ≡ suc (length ts) → ¬ Signed t.signing ts → ProperTerms (ts ++ (t ∷ []))
one_more ts t p r d l n = record {
  writable = λ i u e. elim (nth_append_one ts t i u e) [
    | inl h ↦ p.writable i u h
    | inr h ↦ rw h.1 at r
  ];
  days_in_order = λ i u e. elim (nth_append_one ts t i u e) [
    | inl h ↦ p.days_in_order i u h
    | inr h ↦ rw h.1 at d
  ];
  on_line = λ i u e. elim (nth_append_one ts t i u e) [
    | inl h ↦ p.on_line i u h
    | inr h ↦ (let q : t.line ≡ suc i = omega (arith, l, h.0) in rw h.1 at q)
  ];
  signed_once = λ i j u v e f q. elim (nth_append_one ts t i u e) [
    | inl h ↦ elim (nth_append_one ts t j v f) [
      | inl k ↦ p.signed_once i j u v h k q
      | inr k ↦ absurd (n (record {
        place = i;
        term = u;
        there = h;
        signing_is = q ∙ ap (λ (x : Term). x.signing) (sym k.1);
      }))
    ]
    | inr h ↦ elim (nth_append_one ts t j v f) [
      | inl k ↦ absurd (n (record {
        place = j;
        term = v;
        there = k;
        signing_is = sym q ∙ ap (λ (x : Term). x.signing) (sym h.1);
      }))
      | inr k ↦ h.0 ∙ sym k.0
    ]
  ];
}

-- ---- the text of terms

text_append : (ts us : List Term) → terms_text (ts ++ us) ≡ terms_text ts ++ terms_text us
unfolding terms_text
text_append [] us = refl
text_append (t ∷ ts) us =
    ap (λ (x : List ℕ). term_text t ++ x) (text_append ts us)
    ∙ sym (append_assoc (term_text t) (terms_text ts) (terms_text us))

pub text_more : (ts : List Term) (t : Term) → terms_text (ts ++ (t ∷ [])) ≡ terms_text ts ++ term_text t
unfolding terms_text
text_more ts t = text_append ts (t ∷ []) ∙ ap (λ (y : List ℕ). terms_text ts ++ y) (append-nil (term_text t))

-- ---- a text is accepted or refused as listed

nonempty : {x : ℕ} {s : List ℕ} → x ∷ s ≢ []
nonempty e = let z = ap length e in omega (arith, z)

data Outcome (text : List ℕ) : Checked (List Term) → Type 0 where
  has_terms : {ts : List Term} → TermsOf text ts → Outcome text (accept ts)
  is_refused : {n k : ℕ} → TermsRefusal text n k → Outcome text (refuse n k)

module _ (text : List ℕ) where
  -- The text that follows the lines of these terms.
  record Follows (seen : List Term) (s : List ℕ) : Type 0 where
    is : text ≡ terms_text seen ++ s
    proper : ProperTerms seen

  at_end : (seen : List Term) → Follows seen [] → Outcome text (accept seen)
  at_end seen w = has_terms (record { written = w.is ∙ append-nil (terms_text seen); proper = w.proper })

  outcome : (n : ℕ) (seen : List Term) (s : List ℕ) → length s ≤ n → Follows seen s
      → Outcome text (terms_after seen 0 s)
  unfolding terms_after
  outcome zero seen [] h w = at_end seen w
  outcome zero seen (x ∷ s) h w = absurd (omega (arith, h))
  outcome (suc n) seen [] h w = at_end seen w
  outcome (suc n) seen (x ∷ s) h w =
      go (term_line (x ∷ s)) refl (λ ts k e f. outcome n ts (drop k (x ∷ s)) e f)
    where
      go : (r : Maybe TermLine) → term_line (x ∷ s) ≡ r
          → ((ts : List Term) (k : ℕ) → length (drop k (x ∷ s)) ≤ n → Follows ts (drop k (x ∷ s))
          → Outcome text (terms_after ts 0 (drop k (x ∷ s))))
          → Outcome text (terms_after seen 0 (x ∷ s))
      go None q ih = rw (terms_malformed seen 0 (x ∷ s) (omega arith) q)
          (is_refused (malformed seen (x ∷ s) w.proper w.is nonempty ((malformed_lines (x ∷ s)).0 q)))
      go (Some r) q ih = by_tests (leb r.first r.last) refl (is_signed r.signing seen) refl
        where
          t : Term
          t = next_term seen r.model r.first r.last r.cents r.signing

          rest : List ℕ
          rest = drop r.end (x ∷ s)

          back : LineBack (x ∷ s) t r.end
          back = line_back (next_line seen) (x ∷ s) r.model r.first r.last r.cents r.signing r.end q

          all : text ≡ terms_text seen ++ (term_text t ++ rest)
          all = w.is ∙ ap (λ (y : List ℕ). terms_text seen ++ y)
              (sym (take-append-drop r.end (x ∷ s)) ∙ ap (λ (y : List ℕ). y ++ rest) back.bytes)

          by_tests : (a : Bool) → leb r.first r.last ≡ a → (b : Bool) → is_signed r.signing seen ≡ b
              → Outcome text (terms_after seen 0 (x ∷ s))
          by_tests false p b o =
              rw (terms_reversed seen 0 (x ∷ s) (omega arith) r.model r.first r.last r.cents r.signing r.end q (leb-false r.first r.last p))
              (is_refused (ends_early seen t rest w.proper back.writable all (leb-false r.first r.last p)))
          by_tests true p true o = rw (terms_repeated seen 0 (x ∷ s) (omega arith) r.model r.first r.last r.cents r.signing r.end q o)
              (is_refused (signed_again seen t rest w.proper back.writable all (signed_if r.signing seen o)))
          by_tests true p false o =
              rw (
                terms_more seen 0 (x ∷ s) (omega arith) r.model r.first r.last r.cents r.signing r.end q (leb-true r.first r.last p) o back.used_from,
                zero-add r.end,
              )
              (ih (seen ++ (t ∷ [])) r.end (omega (arith, h, back.used_from, length-drop r.end (x ∷ s)))
              (record {
                is = all ∙ (sym (append_assoc (terms_text seen) (term_text t) rest)
                    ∙ ap (λ (y : List ℕ). y ++ rest) (sym (text_more seen t)));
                proper = one_more seen t w.proper back.writable (leb-true r.first r.last p) refl
                    (λ z. false≢ (sym o ∙ signed_is r.signing seen z));
              }))

outcome_of : (text : List ℕ) → Outcome text (terms_of text)
unfolding terms_text
outcome_of text = outcome text (length text) [] text (omega arith) (record { is = refl; proper = no_terms })

-- ---- and what is listed is returned

-- The line of a term, after these.
module _ (seen : List Term) (t : Term) (rest : List ℕ) (h : Writable t) where
  abbrev s : List ℕ
  s = term_text t ++ rest

  read : term_line s ≡ Some (term_numbers t.model t.first t.last t.cents t.signing (length (term_text t)))
  read = line_forth t rest h

  back : LineBack s (price_term 0 t.model t.first t.last t.cents t.signing)
      (length (term_text t))
  back = line_back 0 s t.model t.first t.last t.cents t.signing (length (term_text t)) read

  reversed : t.last < t.first → terms_after seen 0 s ≡ refuse term_refusal (next_line seen)
  reversed = terms_reversed seen 0 s (omega (arith, back.used_from, back.used_to)) t.model t.first
      t.last t.cents t.signing (length (term_text t)) read

  repeated : is_signed t.signing seen ≡ true → terms_after seen 0 s ≡ refuse term_refusal (next_line seen)
  repeated = terms_repeated seen 0 s (omega (arith, back.used_from, back.used_to)) t.model t.first
      t.last t.cents t.signing (length (term_text t)) read

  taken_up : t.first ≤ t.last → is_signed t.signing seen ≡ false → t.line ≡ next_line seen
      → terms_after seen 0 s ≡ terms_after (seen ++ (t ∷ [])) 0 rest
  taken_up p q l =
      let same : next_term seen t.model t.first t.last t.cents t.signing ≡ t = rw (← l) in
      terms_more seen 0 s (omega (arith, back.used_from, back.used_to)) t.model t.first
      t.last t.cents t.signing (length (term_text t)) read p q back.used_from
      ∙ rw (same, zero-add (length (term_text t)), drop-append_seam (term_text t) rest)

read_lines : (seen ts : List Term) (rest : List ℕ) → ProperTerms (seen ++ ts)
    → terms_after seen 0 (terms_text ts ++ rest) ≡ terms_after (seen ++ ts) 0 rest
unfolding terms_text nth
read_lines seen [] rest p = rw (append-nil seen)
read_lines seen (t ∷ ts) rest p =
    let at : nth (seen ++ (t ∷ ts)) (length seen) ≡ some t = nth_up seen (t ∷ ts) 0 in
    let one : seen ++ (t ∷ []) ++ ts ≡ seen ++ (t ∷ ts) = append_snoc seen t ts in
    let ih = read_lines (seen ++ (t ∷ [])) ts rest (rw (← one) at p) in
    let new : is_signed t.signing seen ≡ false = not_signed t.signing seen λ w.
    let k = nth_lt seen w.place w.term w.there in
    let q = p.signed_once w.place (length seen) w.term t
    (nth_append seen (t ∷ ts) w.place w.term w.there) at w.signing_is in
    omega (arith, k, q) in
    rw (
      append_assoc (term_text t) (terms_text ts) rest,
      taken_up seen t (terms_text ts ++ rest) (p.writable (length seen) t at)
          (p.days_in_order (length seen) t at) new (p.on_line (length seen) t at),
      ih,
      one,
    )

-- The lines of proper terms.
read_proper : (ts : List Term) (rest : List ℕ) → ProperTerms ts
    → terms_of (terms_text ts ++ rest) ≡ terms_after ts 0 rest
read_proper ts rest p = read_lines [] ts rest p

-- A text is accepted exactly if it has these terms.
pub terms_accepted : (text : List ℕ) (ts : List Term) → (terms_of text ≡ accept ts) ↔ TermsOf text ts
unfolding terms_after
terms_accepted text ts = (forth (terms_of text) (outcome_of text), back)
  where
    forth : (r : Checked (List Term)) → Outcome text r → r ≡ accept ts → TermsOf text ts
    forth (accept us) (has_terms w) e = rw (accept_injective e) at w
    forth (refuse n k) (is_refused w) e = absurd (accept≢refuse n k e)

    back : TermsOf text ts → terms_of text ≡ accept ts
    back w =
        let e : text ≡ terms_text ts ++ [] = w.written ∙ sym (append-nil (terms_text ts)) in
        rw e (read_proper ts [] w.proper)

-- A text is refused exactly as listed.
pub terms_refused : (text : List ℕ) (n k : ℕ) → (terms_of text ≡ refuse n k) ↔ TermsRefusal text n k
terms_refused text n k = (forth (terms_of text) (outcome_of text), answer)
  where
    forth : (r : Checked (List Term)) → Outcome text r → r ≡ refuse n k → TermsRefusal text n k
    forth (accept us) (has_terms w) e = absurd (accept≢refuse n k (sym e))
    forth (refuse m l) (is_refused w) e =
        let p : m ≡ n = cc in let q : l ≡ k = cc in rw (p, q) at w

    line-of-one : (ts : List Term) (rest : List ℕ) → rest ≢ [] → term_line rest ≡ None
        → terms_after ts 0 rest ≡ refuse line_refusal (next_line ts)
    line-of-one ts [] h q = absurd (h refl)
    line-of-one ts (x ∷ s) h q = terms_malformed ts 0 (x ∷ s) (omega arith) q

    answer : {n k : ℕ} → TermsRefusal text n k → terms_of text ≡ refuse n k
    answer (malformed ts rest p e more bad) =
        rw e (read_proper ts rest p ∙ line-of-one ts rest more ((malformed_lines rest).1 bad))
    answer (ends_early ts t rest p r e l) =
        rw e (read_proper ts (term_text t ++ rest) p ∙ reversed ts t rest r l)
    answer (signed_again ts t rest p r e w) =
        rw e (read_proper ts (term_text t ++ rest) p ∙ repeated ts t rest r (signed_is t.signing ts w))

-- A line that is refused is line 65,537 at the latest.
pub refused_early : (text : List ℕ) (n k : ℕ) → terms_of text ≡ refuse n k → k ≤ 65537
refused_early text n k e = go ((terms_refused text n k).0 e)
  where
    few : (ts : List Term) → ProperTerms ts → suc (length ts) ≤ 65537
    few ts p = let h = terms_few (terms_text ts) ts
        ((terms_accepted (terms_text ts) ts).1 (record { written = refl; proper = p })) in omega (arith, h)

    go : {n k : ℕ} → TermsRefusal text n k → k ≤ 65537
    go (malformed ts rest p e more bad) = few ts p
    go (ends_early ts t rest p r e l) = few ts p
    go (signed_again ts t rest p r e w) = few ts p
