-- Laws of slots. Assumes nothing.
use mathlib.Core.Path.{◌≡◌, refl, sym, ap, ◌∙◌}
use mathlib.Core.Logic.{◌⊎◌, inl, inr}
use mathlib.Core.Option.{none, some}
use mathlib.Core.List.{List}
use Prim.Native.Nat.{ℕ, zero, suc, ◌+◌, ◌-◌, ◌≤◌, ◌<◌}
use native.Mathlib.Omega.{arith}
use lib.Dec.{eqb}
use borrow.Author.Tests.{eqb-true, eqb-false}
use lib.ListN.{length, get_or, set, length-set, replicate, length-replicate}
use lib.Seq.{get_or-set_same, get_or-set_other, set_out}
use Rattle.language.specs.Frames.{at_slot, with_slot}
use Rattle.language.specs.State.{Value as Meaning, null, truth}
use Rattle.frames.specs.declared.Place.{Place}
use Rattle.objects.specs.Values.{word, meaning, case_of, outcome, bare}
use Rattle.objects.specs.Holding.{first_value_of}
use Rattle.frames.specs.Places.{slots_of, frame_of, this_of}
use Rattle.frames.specs.Slots.{Segment, Slots, PostRead, PostWrite, null_tested}
use Rattle.objects.specs.declared.Value.TheVariants.{Null, Truth, Object}
use Rattle.objects.specs.Acts.{IsWord, Written}
use mathlib.Core.Bool.{Bool, true, false, cond}
use Rattle.objects.proofs.Values.{outcome_value, outcome_stuck, outcome_word, case_null, case_truth}
use Rattle.objects.proofs.Values.{case_object, meaning_null, meaning_truth}
use Rattle.objects.proofs.Nth.{nth_none, nth_ext, lt_or}
use Rattle.objects.proofs.Objects.{mapped_at, mapped_ext, mapped_set, mapped_length}

this_some : (calls n : ℕ) → (calls ≡ 0 → ⊥) → this_of calls n ≡ some (meaning n)
this_some zero n h = absurd (h refl)
this_some (suc k) n h = refl

pub slots_length : (l : List ℕ) (from n : ℕ) → from + n ≤ length l → length (slots_of l from n) ≡ n
unfolding slots_of
slots_length l from n h = mapped_length meaning l from n h

pub slots_ext : (l l' : List ℕ) (from n : ℕ) → length l ≡ length l'
    → ((i : ℕ) → i < n → get_or l (from + i) 0 ≡ get_or l' (from + i) 0) → slots_of l from n ≡ slots_of l' from n
unfolding slots_of
slots_ext l l' from n e h = mapped_ext meaning l l' from n e h

-- Equal numbers in two places are equal slots.
pub slots_moved : (l l' : List ℕ) (from from' n : ℕ) → from + n ≤ length l → from' + n ≤ length l'
    → ((i : ℕ) → i < n → get_or l (from + i) 0 ≡ get_or l' (from' + i) 0)
    → slots_of l from n ≡ slots_of l' from' n
unfolding slots_of
slots_moved l l' from from' n h h' same =
    let a = slots_length l from n h in
    nth_ext (slots_of l from n) (slots_of l' from' n) (a ∙ sym (slots_length l' from' n h'))
    (λ i u. mapped_at meaning l from n i (omega (arith, a)) (omega (arith, a))
    ∙ (ap (λ (y : ℕ). some (meaning y)) (same i (omega (arith, a)))
    ∙ sym (mapped_at meaning l' from' n i (omega (arith, a)) (omega (arith, a)))))

-- what stands in slot k
pub slot_this : (l : List ℕ) (q : Place) → (q.calls ≡ 0 → ⊥)
    → at_slot (frame_of l q) 0 ≡ some (meaning (get_or l q.base 0))
unfolding frame_of
slot_this l q h = this_some q.calls (get_or l q.base 0) h

pub slot_no_this : (l : List ℕ) (q : Place) → q.calls ≡ 0 → at_slot (frame_of l q) 0 ≡ none
unfolding frame_of
slot_no_this l q e = ap (λ (k : ℕ). this_of k (get_or l q.base 0)) e

pub slot_at : (l : List ℕ) (q : Place) (k : ℕ) → (k ≡ 0 → ⊥) → k ≤ q.scope → q.base + q.scope < length l
    → at_slot (frame_of l q) k ≡ some (meaning (get_or l (q.base + k) 0))
unfolding frame_of slots_of
slot_at l q zero z h f = absurd (z refl)
slot_at l q (suc k) z h f =
    let e : q.base + 1 + k ≡ q.base + suc k = omega arith in
    mapped_at meaning l (q.base + 1) q.scope k (omega arith) (omega arith)
    ∙ ap (λ (x : ℕ). some (meaning (get_or l x 0))) e

pub slot_past : (l : List ℕ) (q : Place) (k : ℕ) → q.scope < k → q.base + q.scope < length l
    → at_slot (frame_of l q) k ≡ none
unfolding frame_of
slot_past l q zero h f = absurd (omega arith)
slot_past l q (suc k) h f =
    nth_none (slots_of l (q.base + 1) q.scope) k
    (omega (arith, slots_length l (q.base + 1) q.scope (omega arith)))

-- the same by one test: slots past those in scope are not there, nor is `this` outside of any call
pub slot_none : (l : List ℕ) (q : Place) (k : ℕ) → (q.scope < k) ⊎ ((k ≡ 0) × (q.calls ≡ 0))
    → q.base + q.scope < length l → at_slot (frame_of l q) k ≡ none
slot_none l q k (inl h) f = slot_past l q k h f
slot_none l q k (inr (z, h)) f = rw z (slot_no_this l q h)

pub slot_some : (l : List ℕ) (q : Place) (k : ℕ) → k ≤ q.scope
    → ((k ≡ 0) × (q.calls ≡ 0 → ⊥)) ⊎ (k ≡ 0 → ⊥)
    → q.base + q.scope < length l → at_slot (frame_of l q) k ≡ some (meaning (get_or l (q.base + k) 0))
slot_some l q k h (inl (z, c)) f = let e : q.base + 0 ≡ q.base = omega arith in rw (z, e) (slot_this l q c)
slot_some l q k h (inr z) f = slot_at l q k z h f

-- a word put among words
pub word_put : (l : List ℕ) (at x : ℕ) → ((i : ℕ) → IsWord (get_or l i 0)) → IsWord x → (i : ℕ)
    → IsWord (get_or (set l at x) i 0)
word_put l at x ws w i = go (eqb i at) refl (lt_or at (length l))
  where
    go : (b : Bool) → eqb i at ≡ b → (at < length l) ⊎ (length l ≤ at) → IsWord (get_or (set l at x) i 0)
    go true q (inl h) = let e = eqb-true i at q in rw (e, get_or-set_same l at x 0 h) w
    go true q (inr h) = rw (set_out l at x h) (ws i)
    go false q h = rw (get_or-set_other l at i x 0 (λ p. eqb-false i at q p)) (ws i)

-- words written among words
pub words_written : {l l' : List ℕ} {from n : ℕ} {f : ℕ → ℕ} → Written l l' from n f
    → ((i : ℕ) → i < n → IsWord (f i)) → ((i : ℕ) → IsWord (get_or l i 0)) → (i : ℕ) → IsWord (get_or l' i 0)
words_written {l' = l'} {from} {n} {f} w fs ws i = go (lt_or i from) (lt_or i (from + n))
  where
    go : (i < from) ⊎ (from ≤ i) → (i < from + n) ⊎ (from + n ≤ i) → IsWord (get_or l' i 0)
    go (inl a) b = rw (w.outside i (inl a)) (ws i)
    go (inr a) (inl b) =
        let e : from + (i - from) ≡ i = omega arith in
        rw (rw e at (w.inside (i - from) (omega arith))) (fs (i - from) (omega arith))
    go (inr a) (inr b) = rw (w.outside i (inr b)) (ws i)

pub word_zero : IsWord 0
word_zero = record { short = omega arith; small = rw meaning_null (omega arith) }

-- zeros are words
pub zeros_words : (m i : ℕ) → IsWord (get_or (replicate m 0) i 0)
zeros_words m i = rw (go m i) word_zero
  where
    go : (m i : ℕ) → ◌≡◌ {A = ℕ} (get_or (replicate m 0) i 0) 0
    go zero i = refl
    go (suc m) zero = refl
    go (suc m) (suc i) = go m i

-- A segment of zeros.
pub zeros : Segment (replicate 1920 0)
zeros = record { whole = length-replicate {A = ℕ} 1920 0; words = zeros_words 1920 }

pub first_word : (t : ℕ) → IsWord (word (first_value_of t))
first_word t = go (eqb t 255)
  where
    go : (b : Bool) → IsWord (word (cond b (truth false) null))
    go true = record { short = omega arith; small = rw (meaning_truth false) (omega arith) }
    go false = word_zero

module _ {l : List ℕ} {k : ℕ} {q : Place} where
  pub read_none : at_slot (frame_of l q) k ≡ none → PostRead l k q (outcome 17179869184)
  unfolding bare
  read_none e = rw outcome_stuck (record { small = tt; is = λ t. rw e })

  pub read_some : (n : ℕ) → at_slot (frame_of l q) k ≡ some (meaning n) → IsWord n
      → PostRead l k q (outcome n)
  unfolding bare
  read_some n e m = rw (outcome_value n m.short) (record { small = m.small; is = λ t. rw e })

module _ {l : List ℕ} {k : ℕ} (x : ℕ) {q : Place} (p : Slots l q) (m : IsWord x) where
  -- a slot that is not there
  pub write_none : at_slot (frame_of l q) k ≡ none → PostWrite l l k (meaning x) q (outcome 17179869184)
  unfolding bare
  write_none e = rw outcome_stuck
      (record { long = refl; same = λ i o. refl; words = p.words; small = tt; is = λ t. rw e })

  -- one that is
  wrote : {l' : List ℕ} (old : Meaning) → at_slot (frame_of l q) k ≡ some old
      → length l' ≡ length l
      → ((i : ℕ) → (i < q.base) ⊎ (q.base + q.scope < i) → get_or l' i 0 ≡ get_or l i 0)
      → ((i : ℕ) → IsWord (get_or l' i 0))
      → frame_of l' q ≡ with_slot (frame_of l q) k (meaning x)
      → PostWrite l l' k (meaning x) q (outcome x)
  unfolding bare
  wrote old e long same words is = rw (outcome_value x m.short) (record {
    long = long;
    same = same;
    words = words;
    small = m.small;
    is = λ t. rw (e, is);
  })

  write_this : k ≡ 0 → (q.calls ≡ 0 → ⊥)
      → PostWrite l (set l q.base x) k (meaning x) q (outcome x)
  unfolding frame_of
  write_this z c =
      wrote (meaning (get_or l q.base 0)) (rw z (slot_this l q c)) (length-set l q.base x)
      (λ i o. get_or-set_other l q.base i x 0 (λ p. far i o p)) (word_put l q.base x p.words m)
      (rw z go)
    where
      far : (i : ℕ) → (i < q.base) ⊎ (q.base + q.scope < i) → i ≡ q.base → ⊥
      far i (inl a) p = omega arith
      far i (inr a) p = omega arith

      go : frame_of (set l q.base x) q ≡ with_slot (frame_of l q) 0 (meaning x)
      go =
          let a = this_some q.calls (get_or (set l q.base x) q.base 0) c in
          let b = this_some q.calls (get_or l q.base 0) c in
          let d : meaning (get_or (set l q.base x) q.base 0) ≡ meaning x =
          ap meaning (get_or-set_same l q.base x 0 (omega (arith, p.room))) in
          let f = slots_ext (set l q.base x) l (q.base + 1) q.scope (length-set l q.base x)
          (λ i h. get_or-set_other l q.base (q.base + 1 + i) x 0 (λ p. omega arith)) in
          rw (a, b, d, f)

  write_at : (k ≡ 0 → ⊥) → k ≤ q.scope
      → PostWrite l (set l (q.base + k) x) k (meaning x) q (outcome x)
  unfolding frame_of slots_of
  write_at z h =
      wrote (meaning (get_or l (q.base + k) 0)) (slot_at l q k z h p.room)
      (length-set l (q.base + k) x)
      (λ i o. get_or-set_other l (q.base + k) i x 0 (λ p. far i o p))
      (word_put l (q.base + k) x p.words m) (go k z h)
    where
      far : (i : ℕ) → (i < q.base) ⊎ (q.base + q.scope < i) → i ≡ q.base + k → ⊥
      far i (inl a) p = omega arith
      far i (inr a) p = omega arith

      go : (k : ℕ) → (k ≡ 0 → ⊥) → k ≤ q.scope
          → frame_of (set l (q.base + k) x) q ≡ with_slot (frame_of l q) k (meaning x)
      go zero z h = absurd (z refl)
      go (suc k) z h =
          let i : q.base + suc k ≡ q.base + 1 + k = omega arith in
          let a : get_or (set l (q.base + 1 + k) x) q.base 0 ≡ get_or l q.base 0 =
          get_or-set_other l (q.base + 1 + k) q.base x 0 (λ p. omega arith) in
          let b = mapped_set meaning l (q.base + 1) q.scope k x (omega arith) in
          rw (i, a, b)

  pub write_some : k ≤ q.scope → ((k ≡ 0) × (q.calls ≡ 0 → ⊥)) ⊎ (k ≡ 0 → ⊥)
      → PostWrite l (set l (q.base + k) x) k (meaning x) q (outcome x)
  write_some h (inl (z, c)) = let e : q.base + k ≡ q.base = omega (arith, z) in rw e (write_this z c)
  write_some h (inr z) = write_at z h

-- Z of a value, by its case
pub null_is_true : (m : Meaning) → case_of m ≡ Null → outcome 4294967297 ≡ null_tested m
null_is_true m e = rw (case_null m e) (outcome_word (truth true) (omega arith))

pub truth_is_stuck : (m : Meaning) {b : Bool} → case_of m ≡ Truth b → outcome 17179869184 ≡ null_tested m
truth_is_stuck m e = rw (case_truth m e) outcome_stuck

pub object_is_false : (m : Meaning) {j : ℕ} → case_of m ≡ Object j → outcome 4294967296 ≡ null_tested m
object_is_false m e = let x = case_object m e in rw x.1 (outcome_word (truth false) (omega arith))
