-- Entering a method's body, in slots that are there or in others: how much room it needs, and what it comes to. Assumes
-- nothing.
use mathlib.Core.Path.{◌≡◌, refl, sym, ap, ◌∙◌}
use mathlib.Core.Logic.{◌⊎◌, inl, inr}
use mathlib.Core.List.{List}
use Prim.Native.Nat.{ℕ, suc, ◌+◌, ◌-◌, ◌≤◌, ◌<◌}
use native.Mathlib.Omega.{arith}
use borrow.Author.Tests.{le-leb, lt-leb}
use lib.ListN.{length, get_or, replicate}
use Rattle.language.specs.Results.{ok, stop, bind}
use Rattle.language.specs.Frames.{Frame}
use Rattle.language.specs.Tree.{Expr, size, Class}
use Rattle.language.specs.Limits.{of_check}
use Rattle.language.specs.WellFormed.{BodyInForm}
use Rattle.layout.specs.NodeForms.{body_within}
use Rattle.layout.specs.ProperNodes.{Typed, Proper}
use Rattle.evaluator.proofs.Steps.{kept_of}
use Rattle.language.specs.State.{Value as Meaning, Out, with_frame}
use Rattle.language.specs.Store.{capacity}
use Rattle.language.proofs.Nodes.{head}
use Rattle.objects.specs.declared.Tally.{Tally}
use Rattle.objects.specs.Values.{Outcome, Gave, Raised, Stopped, Stuck, Answer, bare, told}
use Rattle.objects.specs.Holding.{view}
use Rattle.objects.specs.Acts.{Written, IsWord}
use Rattle.objects.proofs.Values.{bare_stop}
use Rattle.objects.proofs.Nth.{lt_or}
use Rattle.frames.specs.declared.Place.{Place}
use Rattle.frames.specs.Places.{place_of, state, frame_of}
use Rattle.frames.specs.Slots.{waiting, frame_width}
use Rattle.frames.specs.Nodes.{PreEval, evaluated}
use Rattle.evaluator.specs.Evaluator.{PostEval}
use Rattle.frames.specs.Slots.{most_nested}
use Rattle.evaluator.specs.Evaluator.{PreEnter, Entered, PostEnter, call_place}
use Rattle.frames.proofs.Frames.{slots_moved, words_written, zeros_words}

-- ---- room

-- A body needs no more slots and nests no more nodes than it has rows, and no more than the limits allow.
body_proper : (P : List Class) (n : ℕ) (e : Expr) → BodyInForm of_check (1 + n) e → Typed P e
    → Proper P (frame_width (size e) n) (suc n) (most_nested (size e)) e
unfolding frame_width most_nested
body_proper P n e f t = go (lt_or (size e) 128)
  where
    scope : 1 + n ≡ suc n
    scope = omega arith

    go : (size e < 128) ⊎ (128 ≤ size e) → Proper P (frame_width (size e) n) (suc n) (most_nested (size e)) e
    go (inl a) = rw (lt-leb 128 (size e) a) (record {
      in_form = rw scope at
          (body_within (n + 1 + size e) (size e) (1 + n) e f (inr (omega arith)) (inr (omega arith)));
      typed = t;
    })
    go (inr a) = rw (le-leb 128 (size e) a) (record {
      in_form = rw scope at (body_within 264 128 (1 + n) e f (inl (omega arith)) (inl (omega arith)));
      typed = t;
    })

-- A frame has `this` and the arguments, at most 264 slots; and at most 128 nodes nest.
width_bounds : (size n : ℕ) → n ≤ 8
    → (n + 1 ≤ frame_width size n) × (frame_width size n ≤ 264) × (most_nested size ≤ 128)
unfolding frame_width most_nested
width_bounds size n l = go (lt_or size 128)
  where
    go : (size < 128) ⊎ (128 ≤ size)
        → (n + 1 ≤ frame_width size n) × (frame_width size n ≤ 264) × (most_nested size ≤ 128)
    go (inl a) = rw (lt-leb 128 size a) (omega arith, omega arith, omega arith)
    go (inr a) = rw (le-leb 128 size a) (omega arith, omega arith, omega arith)

module _ {R E T A M s l : List ℕ} {b n top calls : ℕ} {c : Tally}
    (p : PreEnter R E T A M s l b n top calls c)
  where
    pub width_small : {w : ℕ} → w ≡ frame_width (get_or E b 0 - b) n → w ≤ 264
    width_small e = omega (arith, e, (width_bounds (get_or E b 0 - b) n p.few).1)

    pub nested_small : {d : ℕ} → d ≡ most_nested (get_or E b 0 - b) → d ≤ 128
    nested_small e = omega (arith, e, (width_bounds (get_or E b 0 - b) n p.few).2)

-- ---- the body

-- Back in slots γ.
back : (o : Outcome) (P : List Class) (s l : List ℕ) (q : Place) (n : Tally) (steps : ℕ) (γ : Frame Meaning)
    (x : Out Meaning) → told o (state P s l q n steps) ≡ bare x
    → told o (view P s n γ steps) ≡ bare (bind x λ w t. ok w (with_frame γ t))
unfolding bare
back (Gave w) P s l q n steps γ (ok v t) e =
    let e₁ : w ≡ v = cc in
    let e₂ : state P s l q n steps ≡ t = cc in
    rw (e₁, ← e₂)
back (Gave w) P s l q n steps γ (stop y t) e = let u : ◌≡◌ {A = ℕ} 0 1 = cc in absurd (omega arith)
back (Raised i) P s l q n steps γ x e = bare_stop x (λ w t. ok w (with_frame γ t)) e
back (Stopped i) P s l q n steps γ x e = bare_stop x (λ w t. ok w (with_frame γ t)) e
back Stuck P s l q n steps γ x e = bare_stop x (λ w t. ok w (with_frame γ t)) e

module _ {R E T A M s l : List ℕ} {b n top calls : ℕ} {c : Tally}
    (x : PreEnter R E T A M s l b n top calls c) where
  pub in_ends : b < length E
  in_ends = (head x.e x.encoded).in_ends

  pub ends_at : get_or E b 0 ≡ b + size x.e
  ends_at = (head x.e x.encoded).end

  -- the number of rows of the body
  size_is : get_or E b 0 - b ≡ size x.e
  size_is = omega (arith, ends_at)

  -- in slots l₁, from base on, with values that wait from t on
  module _ (l₁ : List ℕ) (base t : ℕ) {width d : ℕ} (ew : width ≡ frame_width (get_or E b 0 - b) n)
      (ed : d ≡ most_nested (get_or E b 0 - b)) (low : base + width ≤ t) (room : t + waiting d ≤ length l₁)
      (whole : length l₁ ≡ 1920) (ws : (i : ℕ) → IsWord (get_or l₁ i 0)) where
    abbrev body_pre : PreEval R E T A M s l₁ b (place_of base n t calls) c
    body_pre = record {
      P = x.P;
      e = x.e;
      width = width;
      d = d;
      ready = record {
        holding = x.holding;
        frame = low;
        scoped = omega (arith, ew, (width_bounds (get_or E b 0 - b) n x.few).0);
        whole = whole;
        above = room;
        words = ws;
        active = x.active;
        counted = omega (arith, x.counted);
      };
      encoded = x.encoded;
      proper = rw (ew, ed, size_is) (body_proper x.P n x.e x.in_form x.typed);
    }

    module _ {s' l₁' : List ℕ} {r : Answer} (F k : ℕ)
        (g : PostEval R E T A M s l₁ s' l₁' b (place_of base n t calls) c r) (z : k + c.left ≡ F) where
      body-done : {l' : List ℕ}
          → frame_of l₁ (call_place base n calls) ≡ frame_of l (call_place top n calls)
          → length l' ≡ length l → ((i : ℕ) → i < top → get_or l' i 0 ≡ get_or l i 0)
          → ((i : ℕ) → IsWord (get_or l' i 0))
          → Entered x.P s l s' l' x.e n top calls c F k r
      unfolding frame_of
      body-done fr long same words =
          let q : Place = place_of base n t calls in
          let done = g.done body_pre F k z in
          record {
            same = same;
            long = long;
            words = words;
            stored = done.kept.stored;
            falls = done.kept.falls;
            counted = omega (arith, done.kept.counted);
            small = done.kept.small;
            is = λ γ. rw (sym fr) (back r.outcome x.P s' l₁' q r.counts (F - r.counts.left) γ
                (evaluated x.P F (capacity s) calls x.e (state x.P s l₁ q c k)) done.is);
          }

-- ---- in the caller's slots

module _ {R E T A M s l : List ℕ} {b n top calls : ℕ} {c : Tally} {width d : ℕ}
    (ew : width ≡ frame_width (get_or E b 0 - b) n) (ed : d ≡ most_nested (get_or E b 0 - b))
    (room : top + width + waiting d ≤ length l) where
  pub here_pre : PreEnter R E T A M s l b n top calls c
      → PreEval R E T A M s l b (place_of top n (top + width) calls) c
  here_pre p = body_pre p l top (top + width) ew ed (omega arith) room p.whole p.words

  pub here_done : {s' l' : List ℕ} {r : Answer}
      → PostEval R E T A M s l s' l' b (place_of top n (top + width) calls) c r
      → PostEnter R E T A M s l s' l' b n top calls c r
  here_done g = record {
    done = λ x F k z.
        let a = kept_of (here_pre x) g in
        body-done x l top (top + width) ew ed (omega arith) room x.whole x.words F k g z refl
        a.long (λ i h. a.same i (omega arith) (inl h)) a.words;
  }

-- ---- in slots of its own

-- The slots that a call's are copied to are its slots.
frame_moved : (l l₁ l₀ : List ℕ) (n top calls : ℕ) → top + (n + 1) ≤ length l → n + 1 ≤ length l₁
    → Written l₀ l₁ 0 (n + 1) (λ i. get_or l (top + i) 0)
    → frame_of l₁ (call_place 0 n calls) ≡ frame_of l (call_place top n calls)
unfolding frame_of
frame_moved l l₁ l₀ n top calls room room₁ w =
    let z : top + 0 ≡ top = omega arith in
    let a : get_or l₁ 0 0 ≡ get_or l top 0 = w.inside 0 (omega arith) ∙ ap (λ (i : ℕ). get_or l i 0) z in
    let b = slots_moved l₁ l (0 + 1) (top + 1) n (omega arith) (omega arith)
    (λ i h. let y : top + (0 + 1 + i) ≡ top + 1 + i = omega arith in
    ap (λ (j : ℕ). get_or l₁ j 0) (shift i)
    ∙ (w.inside (0 + 1 + i) (omega arith) ∙ ap (λ (j : ℕ). get_or l j 0) y)) in
    rw (a, b)
  where
    shift : (i : ℕ) → 0 + 1 + i ≡ 0 + (0 + 1 + i)
    shift i = omega arith

-- Words copied among zeros are words.
pub words_copied : (l : List ℕ) {l₁ : List ℕ} {n : ℕ} (m from : ℕ)
    → Written (replicate m 0) l₁ 0 n (λ i. get_or l (from + i) 0)
    → ((i : ℕ) → IsWord (get_or l i 0)) → (i : ℕ) → IsWord (get_or l₁ i 0)
words_copied l m from w ws = words_written w (λ i h. ws (from + i)) (λ i. zeros_words m i)

-- A segment of its own has room for any call.
room_own : (E l₁ : List ℕ) (b n : ℕ) {width : ℕ} → width ≡ frame_width (get_or E b 0 - b) n → length l₁ ≡ 1920
    → n ≤ 8 → width + waiting (most_nested (get_or E b 0 - b)) ≤ length l₁
room_own E l₁ b n ew long h =
    let w = width_bounds (get_or E b 0 - b) n h in omega (arith, ew, w.1, w.2)

module _ {R E T A M s l l₁ : List ℕ} {b n top calls : ℕ} {c : Tally} {width : ℕ}
    (ew : width ≡ frame_width (get_or E b 0 - b) n) (long : length l₁ ≡ 1920)
    (ws : (i : ℕ) → IsWord (get_or l₁ i 0)) where
  pub own_pre : PreEnter R E T A M s l b n top calls c → PreEval R E T A M s l₁ b (place_of 0 n width calls) c
  own_pre p = body_pre p l₁ 0 width ew refl (omega arith)
      (room_own E l₁ b n ew long p.few) long ws

  pub own_done : {s' l₁' l₀ : List ℕ} {r : Answer} → Written l₀ l₁ 0 (n + 1) (λ i. get_or l (top + i) 0)
      → PostEval R E T A M s l₁ s' l₁' b (place_of 0 n width calls) c r
      → PostEnter R E T A M s l s' l b n top calls c r
  own_done {l₀ = l₀} w g = record {
    done = λ x F k z.
        body-done x l₁ 0 width ew refl (omega arith) (room_own E l₁ b n ew long x.few) long ws F k g z
        (frame_moved l l₁ l₀ n top calls x.there (omega (arith, x.few)) w) refl (λ i h. refl) x.words;
  }
