-- Laws of values and their numbers, of what outcomes mean, and of numbers written one after the other. Assumes nothing.
use Rattle.language.specs.Limits.{object_width}
use mathlib.Core.Path.{◌≡◌, refl, sym, ap, ◌∙◌}
use mathlib.Core.Bool.{Bool, true, false, cond}
use lib.Dec.{eqb, leb, ltb}
use borrow.Author.Tests.{le-leb, lt-leb, ltb-true, ltb-false, ne_eqb}
use mathlib.Core.Logic.{◌⊎◌, inl, inr}
use mathlib.Core.List.{List}
use Prim.Native.Nat.{ℕ, zero, suc, ◌+◌, ◌-◌, ◌*◌, ◌/◌, ◌%◌, ◌≤◌, ◌<◌}
use native.Mathlib.Omega.{arith}
use lib.ListN.{length, get_or, set, length-set, replicate, length-replicate, get_or-replicate}
use Rattle.objects.proofs.Nth.{lt_or}
use Rattle.objects.specs.declared.Value.TheVariants.{Null, Truth, Object}
use Rattle.objects.specs.declared.Reached.TheVariants.{Null as ReachedNull, Nothing, At}
use Rattle.objects.specs.Values.{Outcome, Gave, Raised, Stopped, Stuck, bare, bare_state, Small}
use Rattle.objects.specs.Values.{SmallOutcome, word, meaning, case_of, numbered, of_kind, reached}
use Rattle.objects.specs.Values.{outcome}
use Rattle.objects.specs.Values.{failure}
use Rattle.objects.specs.declared.Value.{Value}
use Rattle.objects.specs.Acts.{Written, first_of, IsWord}
use lib.Seq.{get_or-set_same, get_or-set_other}
use borrow.Rule.Slice.PartMut.{put_mid}
use Rattle.std.proofs.Common.{rules}
use Rattle.std.proofs.lemmas.List.{places}
use Rattle.language.specs.Results.{ok, stop, bind}
use Rattle.language.specs.State.{Value as Meaning, null, truth, object, State, Stop, Out}
use Rattle.language.specs.Store.{value_number, value_of_number}

-- the value of a value's number
pub value_of_value_number : (v : Meaning) → value_of_number (value_number v) ≡ v
value_of_value_number null = refl
value_of_value_number (truth true) = refl
value_of_value_number (truth false) = refl
value_of_value_number (object j) = refl

pub value_number_of : (n : ℕ) → value_number (value_of_number n) ≡ n
value_number_of zero = refl
value_number_of (suc zero) = refl
value_number_of (suc (suc zero)) = refl
value_number_of (suc (suc (suc j))) = refl

-- ---- words

pub meaning_null : meaning 0 ≡ null
unfolding meaning
meaning_null = refl

pub meaning_truth : (b : Bool) → meaning (word (truth b)) ≡ truth b
unfolding meaning
meaning_truth true = refl
meaning_truth false = refl

pub meaning_object : (w j : ℕ) → w ≡ 8589934592 + suc j → suc j < 4294967296 → meaning w ≡ object j
unfolding meaning
meaning_object w j e h =
    let a : w / 4294967296 ≡ 2 = omega arith in
    let b : w % 4294967296 ≡ suc j = omega arith in
    rw (a, b)

pub meaning_word : (v : Meaning) → Small v → meaning (word v) ≡ v
meaning_word null h = meaning_null
meaning_word (truth b) h = meaning_truth b
meaning_word (object j) h = meaning_object (word (object j)) j (omega arith) (omega arith)

pub word_short : (v : Meaning) → Small v → word v < 17179869184
word_short null h = omega arith
word_short (truth true) h = omega arith
word_short (truth false) h = omega arith
word_short (object j) h = omega arith

pub small_stored : (n : ℕ) → n < 4294967296 → Small (value_of_number n)
small_stored n h = rw (value_number_of n) h

-- the value of a word by its kind
pub kind_truth : (w : ℕ) → w / 4294967296 ≡ 1 → Truth (eqb (w % 4294967296) 1) ≡ case_of (meaning w)
unfolding meaning
kind_truth w e = rw e

pub kind_object : (w : ℕ) {v : Value} → w / 4294967296 ≡ 2 → v ≡ case_of (numbered (w % 4294967296))
    → v ≡ case_of (meaning w)
unfolding meaning
kind_object w e f = rw e f

pub kind_other : (w : ℕ) → (w / 4294967296 ≡ 1 → ⊥) → (w / 4294967296 ≡ 2 → ⊥) → Null ≡ case_of (meaning w)
unfolding meaning
kind_other w a b = go (w / 4294967296) a b
  where
    go : (k : ℕ) → (k ≡ 1 → ⊥) → (k ≡ 2 → ⊥) → Null ≡ case_of (of_kind k (w % 4294967296))
    go zero a b = refl
    go (suc zero) a b = absurd (a refl)
    go (suc (suc zero)) a b = absurd (b refl)
    go (suc (suc (suc k))) a b = refl

-- ---- cases

pub case_null : (m : Meaning) → case_of m ≡ Null → m ≡ null
case_null null e = refl
case_null (truth b) e = let z : ◌≡◌ {A = ℕ} 0 1 = cc in absurd (omega arith)
case_null (object j) e = let z : ◌≡◌ {A = ℕ} 0 1 = cc in absurd (omega arith)

pub case_truth : (m : Meaning) {b : Bool} → case_of m ≡ Truth b → m ≡ truth b
case_truth null e = let z : ◌≡◌ {A = ℕ} 0 1 = cc in absurd (omega arith)
case_truth (truth c) {b} e = let z : c ≡ b = cc in ap truth z
case_truth (object j) e = let z : ◌≡◌ {A = ℕ} 0 1 = cc in absurd (omega arith)

pub case_object : (m : Meaning) {j : ℕ} → case_of m ≡ Object j → (i : ℕ) × (m ≡ object i) × (j ≡ suc i)
case_object null e = let z : ◌≡◌ {A = ℕ} 0 1 = cc in absurd (omega arith)
case_object (truth b) e = let z : ◌≡◌ {A = ℕ} 0 1 = cc in absurd (omega arith)
case_object (object i) {j} e = let z : j ≡ suc i = cc in (i, refl, z)

-- what a value leads to
pub reached_null : (made : ℕ) (m : Meaning) → ReachedNull ≡ reached made m → m ≡ null
reached_null made null e = refl
reached_null made (truth b) e = cc
reached_null made (object j) e = go (ltb j made) e
  where
    go : (t : Bool) → ReachedNull ≡ cond t (At (j * object_width)) Nothing → object j ≡ null
    go true e = cc
    go false e = cc

pub reached_at : (made : ℕ) (m : Meaning) (o : ℕ) → At o ≡ reached made m
    → (j : ℕ) × (m ≡ object j) × (j < made) × (o ≡ j * object_width)
reached_at made null o e = cc
reached_at made (truth b) o e = cc
reached_at made (object j) o e = go (ltb j made) refl e
  where
    go : (t : Bool) → ltb j made ≡ t → At o ≡ cond t (At (j * object_width)) Nothing
        → (i : ℕ) × (object j ≡ object i) × (i < made) × (o ≡ i * object_width)
    go true q e = (j, refl, ltb-true j made q, cc)
    go false q e = cc

pub truth_word : (m : Meaning) {b : Bool} {r : ℕ} → case_of m ≡ Truth b → r ≡ word (truth b) → r ≡ word m
truth_word m e f = f ∙ ap word (sym (case_truth m e))

pub object_stored : (m : Meaning) {j : ℕ} → case_of m ≡ Object j → j + 2 ≡ value_number m
object_stored m {j} e = let x = case_object m e in rw x.1 (omega (arith, x.2))

-- a truth value, or an object that is not there
pub data NoObject (made : ℕ) : Meaning → Type 0 where
  is_truth : {b : Bool} → NoObject made (truth b)
  is_past : {j : ℕ} → made ≤ j → NoObject made (object j)

pub reached_nothing : (made : ℕ) (m : Meaning) → Nothing ≡ reached made m → NoObject made m
reached_nothing made null e = cc
reached_nothing made (truth b) e = is_truth
reached_nothing made (object j) e = go (ltb j made) refl e
  where
    go : (t : Bool) → ltb j made ≡ t → Nothing ≡ cond t (At (j * object_width)) Nothing
        → NoObject made (object j)
    go true q e = cc
    go false q e = is_past (ltb-false j made q)

-- a result whose slots are not looked at
pub bare_ok : {A : Type 0} (o : Out A) {a : A} {s : State} → ok a s ≡ bare o → o ≡ ok a s
unfolding bare
bare_ok (ok b t) e = sym e
bare_ok (stop x t) e = let z : ◌≡◌ {A = ℕ} 0 1 = cc in absurd (omega arith)

pub bare_stop : {A B : Type 0} (o : Out A) (k : A → State → Out B) {x : Stop} {s : State} → stop x s ≡ bare o
    → stop x s ≡ bare (bind o k)
unfolding bare
bare_stop (ok b t) k e = let z : ◌≡◌ {A = ℕ} 0 1 = cc in absurd (omega arith)
bare_stop (stop y t) k {x} {s} e = let h₁ : x ≡ y = cc in let h₂ : s ≡ bare_state t = cc in rw (h₁, h₂)

-- past the fields of a class the first value is 0
pub first_unused : (R T : List ℕ) (c i count : ℕ) → count ≤ i → 0 ≡ first_of R T c i count
unfolding first_of
first_unused R T c i count h = rw (le-leb count i h)

-- one more number written
pub written_none : (l : List ℕ) (from : ℕ) (f : ℕ → ℕ) → Written l l from 0 f
written_none l from f = record { long = refl; inside = λ i h. absurd (omega arith); outside = λ x h. refl }

pub written_more : {l l' : List ℕ} {from n : ℕ} {f : ℕ → ℕ} (at a : ℕ) → Written l l' from n f → at ≡ from + n
    → from + n < length l → a ≡ f n
    → Written l (set l' at a) from (n + 1) f
written_more {l} {l'} {from} {n} {f} at a w e h q = record {
  long = length-set l' at a ∙ w.long;
  inside = λ i k. go i k;
  outside = λ x k. get_or-set_other l' at x a 0 (λ p. apart x k p) ∙ w.outside x (far x k);
}
  where
    go : (i : ℕ) → i < n + 1 → get_or (set l' at a) (from + i) 0 ≡ f i
    go i k = put i (split i k)
      where
        split : (i : ℕ) → i < n + 1 → (i < n) ⊎ (i ≡ n)
        split i k = elim (le-or i) [ inl p ↦ inl p | inr p ↦ inr (omega arith) ]
          where
            le-or : (i : ℕ) → (i < n) ⊎ (n ≤ i)
            le-or i = lt_or i n

        put : (i : ℕ) → (i < n) ⊎ (i ≡ n) → get_or (set l' at a) (from + i) 0 ≡ f i
        put i (inl p) = get_or-set_other l' at (from + i) a 0 (λ p'. omega arith) ∙ w.inside i p
        put i (inr p) =
            let z : from + i ≡ at = omega arith in
            ap (λ (x : ℕ). get_or (set l' at a) x 0) z
            ∙ (get_or-set_same l' at a 0 (omega (arith, w.long)) ∙ (q ∙ ap f (sym p)))

    far : (x : ℕ) → (x < from) ⊎ (from + (n + 1) ≤ x) → (x < from) ⊎ (from + n ≤ x)
    far x (inl p) = inl p
    far x (inr p) = inr (omega arith)

    apart : (x : ℕ) → (x < from) ⊎ (from + (n + 1) ≤ x) → x ≡ at → ⊥
    apart x (inl p) z = omega arith
    apart x (inr p) z = omega arith

-- numbers written up to a place, and from there on further
pub written_then : {l l₁ l₂ : List ℕ} (base from i j : ℕ) (f : ℕ → ℕ) → from ≤ i → i ≤ j
    → Written l l₁ (base + from) (i - from) (λ k. f (from + k))
    → Written l₁ l₂ (base + i) (j - i) (λ k. f (i + k))
    → Written l l₂ (base + from) (j - from) (λ k. f (from + k))
written_then {l} {l₁} {l₂} base from i j f low high a b = record {
  long = b.long ∙ a.long;
  inside = λ x h. go x h (lt_or x (i - from));
  outside = λ x h. b.outside x (near x h) ∙ a.outside x (far x h);
}
  where
    go : (x : ℕ) → x < j - from → (x < i - from) ⊎ (i - from ≤ x) → get_or l₂ (base + from + x) 0 ≡ f (from + x)
    go x h (inl k) = b.outside (base + from + x) (inl (omega arith)) ∙ a.inside x k
    go x h (inr k) =
        let e : base + i + (from + x - i) ≡ base + from + x = omega arith in
        let e' : i + (from + x - i) ≡ from + x = omega arith in
        ap (λ (y : ℕ). get_or l₂ y 0) (sym e) ∙ (b.inside (from + x - i) (omega arith) ∙ ap f e')

    near : (x : ℕ) → (x < base + from) ⊎ (base + from + (j - from) ≤ x)
        → (x < base + i) ⊎ (base + i + (j - i) ≤ x)
    near x (inl h) = inl (omega arith)
    near x (inr h) = inr (omega arith)

    far : (x : ℕ) → (x < base + from) ⊎ (base + from + (j - from) ≤ x)
        → (x < base + from) ⊎ (base + from + (i - from) ≤ x)
    far x (inl h) = inl h
    far x (inr h) = inr (omega arith)

-- a part of a list overwritten
pub written_part : (l ys : List ℕ) (a k : ℕ) (f : ℕ → ℕ) → a + k ≤ length l → length ys ≡ k
    → ((i : ℕ) → i < k → get_or ys i 0 ≡ f i) → Written l (put_mid a k l ys) a k f
written_part l ys a k f h e g = record {
  long = search (rules, places);
  inside = λ i b. inside i b;
  outside = λ x o. outside x o;
}
  where
    inside : (i : ℕ) → i < k → get_or (put_mid a k l ys) (a + i) 0 ≡ f i
    inside i b = let q = g i b in search (rules, places)

    outside : (x : ℕ) → (x < a) ⊎ (a + k ≤ x) → get_or (put_mid a k l ys) x 0 ≡ get_or l x 0
    outside x (inl b) = search (rules, places)
    outside x (inr b) = search (rules, places)

-- the same with one number
pub written_same : {l ys : List ℕ} {m v : ℕ} (a k : ℕ) (f : ℕ → ℕ) → a + k ≤ length l → ys ≡ replicate m v
    → m ≡ k → ((i : ℕ) → i < k → v ≡ f i) → Written l (put_mid a k l ys) a k f
written_same {l} {ys} {v = v} a k f h e q g = written_part l ys a k f h (rw (e, q) (length-replicate k v))
    (λ i b. rw (e, q) (get_or-replicate k i v 0 b ∙ g i b))

-- ---- outcomes

pub outcome_value : (x : ℕ) → x < 17179869184 → outcome x ≡ Gave (meaning x)
unfolding outcome
outcome_value x h = ap (λ (b : Bool). cond b (failure (x - 17179869184)) (Gave (meaning x)))
    (lt-leb 17179869184 x h)

pub outcome_failure : (x : ℕ) → 17179869184 ≤ x → outcome x ≡ failure (x - 17179869184)
unfolding outcome
outcome_failure x h =
    ap (λ (b : Bool). cond b (failure (x - 17179869184)) (Gave (meaning x))) (le-leb 17179869184 x h)

pub failure_no_value : (n : ℕ) (v : Meaning) → failure n ≡ Gave v → ⊥
failure_no_value n v e = go (eqb n 0) (leb n 2) e
  where
    go : (a b : Bool) → cond a Stuck (cond b (Raised n) (Stopped n)) ≡ Gave v → ⊥
    go true b e = let z : ◌≡◌ {A = ℕ} 0 1 = cc in omega arith
    go false true e = let z : ◌≡◌ {A = ℕ} 0 1 = cc in omega arith
    go false false e = let z : ◌≡◌ {A = ℕ} 0 1 = cc in omega arith

-- an outcome that is not a value
pub not_gave : (x : ℕ) → 17179869184 ≤ x → (v : Meaning) → outcome x ≡ Gave v → ⊥
not_gave x h v e = failure_no_value (x - 17179869184) v (sym (outcome_failure x h) ∙ e)

-- the outcomes that the code names
pub outcome_stuck : outcome 17179869184 ≡ Stuck
unfolding outcome
outcome_stuck = refl

pub outcome_null_pointer : outcome 17179869185 ≡ Raised 1
unfolding outcome
outcome_null_pointer = refl

pub outcome_bad_cast : outcome 17179869186 ≡ Raised 2
unfolding outcome
outcome_bad_cast = refl

pub outcome_spent : outcome 17179869198 ≡ Stopped 14
unfolding outcome
outcome_spent = refl

pub outcome_deep : outcome 17179869199 ≡ Stopped 15
unfolding outcome
outcome_deep = refl

pub small_of : {o : Outcome} {v : Meaning} → o ≡ Gave v → SmallOutcome o → Small v
small_of e h = rw e at h

-- the word of a value as an outcome
pub outcome_word : (v : Meaning) → Small v → outcome (word v) ≡ Gave v
outcome_word v h = outcome_value (word v) (word_short v h) ∙ ap Gave (meaning_word v h)

-- an outcome that is a value is its word
pub word_of_outcome : (x : ℕ) → x < 17179869184 → SmallOutcome (outcome x) → IsWord x
word_of_outcome x h m = record { short = h; small = small_of (outcome_value x h) m }

-- which failure a number is
pub failure_raised : (n : ℕ) → 1 ≤ n → n ≤ 2 → failure n ≡ Raised n
failure_raised n h k = rw (ne_eqb n 0 (λ e. omega arith), le-leb n 2 k)

pub failure_stopped : (n : ℕ) → 3 ≤ n → failure n ≡ Stopped n
failure_stopped n h = rw (ne_eqb n 0 (λ e. omega arith), lt-leb n 2 h)
