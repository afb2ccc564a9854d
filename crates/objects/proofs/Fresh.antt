-- Laws of first values, and of W. Assumes nothing.
use Rattle.language.specs.Limits.{object_width}
use mathlib.Core.Path.{◌≡◌, refl, sym, ap, ap₂, ◌∙◌}
use mathlib.Core.Bool.{Bool, true, false, cond}
use mathlib.Core.Logic.{◌⊎◌, inl, inr}
use mathlib.Core.Option.{some}
use mathlib.Core.List.{List, [], ◌∷◌, ◌++◌, map}
use Prim.Native.Nat.{ℕ, suc, ◌+◌, ◌-◌, ◌*◌, ◌≤◌, ◌<◌}
use native.Mathlib.Omega.{arith}
use borrow.Author.Tests.{le-leb, lt-leb}
use lib.Dec.{eqb, leb}
use lib.ListN.{length, get_or, take, drop, set, length-set, length-append, length-take, length-drop, length-map}
use lib.Seq.{get_or-set_same, get_or-set_other, ext_get_or, get_or-drop, length-take-le}
use Rattle.language.specs.Lists.{nth, nth_map, nth_append}
use Rattle.language.specs.Tree.{Class, Field}
use Rattle.language.specs.Program.{world}
use Rattle.language.specs.State.{Value as Meaning, null, truth, object, Object as Thing, initial, initials}
use Rattle.language.specs.Evaluation.{new_object, do_new, with_limits}
use Rattle.language.specs.Store.{value_number, value_of_number, heap_of_numbers, capacity}
use Rattle.objects.specs.declared.Tally.{Tally}
use Rattle.objects.specs.Values.{Gave, Stopped, outcome}
use Rattle.objects.specs.Values.{bare, answer, answered}
use Rattle.objects.specs.Holding.{Sound, Holding}
use Rattle.objects.specs.Acts.{Stored, Acts, first_of, Fill, Filled, PreNew, PostNew}
use Rattle.objects.proofs.Values.{value_of_value_number, outcome_value, meaning_object, meaning_word}
use Rattle.objects.specs.Holding.{first_value_of}
use Rattle.objects.specs.Acts.{field_type_in}
use Rattle.objects.specs.Values.{word, meaning, Small}
use Rattle.objects.proofs.Holding.{tables, fields_few, field_at}
use Rattle.objects.proofs.Acts.{acts_same}
use Rattle.objects.proofs.Nth.{lt_or, nth_ext, nth_take, nth_drop, nth_past, some_at}
use Rattle.objects.proofs.Objects.{mapped_at, mapped_length, object_at, heap_length}
use Rattle.objects.proofs.Objects.{heap_new}

-- the first value of a field, by its number
first_value : {R E T A M s : List ℕ} {P : List Class} {made : ℕ} → Holding R E T A M s P made
    → (c i : ℕ) (f : Field) → c ≤ length P
    → nth ((world P).fields c) i ≡ some f → i < length ((world P).fields c)
    → value_of_number (first_of R T c i (get_or T (c * 576 + 515) 0)) ≡ initial f.type
unfolding first_of
first_value {T = T} h c i f d e l =
    let n = (tables h).counts c d in
    rw (lt-leb (get_or T (c * 576 + 515) 0) i (omega (arith, n)), (field_at h c i f d e).1)
    (value_of_value_number (initial f.type))

-- fields kept up to `from`, first values after it
pub fields_filled : {R E T A M s₀ : List ℕ} {P : List Class} {made : ℕ} → Holding R E T A M s₀ P made
    → (s s' : List ℕ) (o c from m : ℕ)
    → c ≤ length P → from ≤ length ((world P).fields c) → from ≤ m
    → o + object_width ≤ length s → length s' ≡ length s
    → ((i : ℕ) → i < from → get_or s' (o + 1 + i) 0 ≡ get_or s (o + 1 + i) 0)
    → ((i : ℕ) → from ≤ i → i < object_width - 1
    → get_or s' (o + 1 + i) 0 ≡ first_of R T c i (get_or T (c * 576 + 515) 0))
    → map value_of_number (take (length ((world P).fields c)) (drop (o + 1) s'))
    ≡ take from (map value_of_number (take m (drop (o + 1) s)))
    ++ initials (drop from ((world P).fields c))
fields_filled {P = P} h s s' o c from m d l k room long kept first =
    let fs : List Field = (world P).fields c in
    let few : length fs ≤ 17 = fields_few h c in
    let old : List Meaning = take from (map value_of_number (take m (drop (o + 1) s))) in
    let a : length old ≡ from = old-length in
    nth_ext (map value_of_number (take (length fs) (drop (o + 1) s'))) (old ++ initials (drop from fs))
    (mapped_length value_of_number s' (o + 1) (length fs) (omega arith)
    ∙ sym (length-append old (initials (drop from fs))
    ∙ (ap₂ (λ (x y : ℕ). x + y) a
    (length-map (drop from fs) (λ (f : Field). initial f.type) ∙ length-drop from fs) ∙ omega arith)))
    (λ i b. let b' : i < length fs =
    omega (arith, mapped_length value_of_number s' (o + 1) (length fs) (omega arith)) in
    mapped_at value_of_number s' (o + 1) (length fs) i b' (omega arith) ∙ go few a i b' (lt_or i from))
  where
    old-length : length (take from (map value_of_number (take m (drop (o + 1) s)))) ≡ from
    old-length = length-take-le from (map value_of_number (take m (drop (o + 1) s)))
        (simp (length-map, length-take, length-drop) (omega (arith, fields_few h c)))

    go : length ((world P).fields c) ≤ 17
        → length (take from (map value_of_number (take m (drop (o + 1) s)))) ≡ from → (i : ℕ)
        → i < length ((world P).fields c) → (i < from) ⊎ (from ≤ i)
        → some (value_of_number (get_or s' (o + 1 + i) 0))
        ≡ nth (take from (map value_of_number (take m (drop (o + 1) s)))
        ++ initials (drop from ((world P).fields c))) i
    go few a i b (inl x) =
        let old : List Meaning = take from (map value_of_number (take m (drop (o + 1) s))) in
        let v : Meaning = value_of_number (get_or s (o + 1 + i) 0) in
        let e : nth old i ≡ some v = nth_take from (map value_of_number (take m (drop (o + 1) s))) i x
        ∙ mapped_at value_of_number s (o + 1) m i (omega arith) (omega arith) in
        ap (λ (y : ℕ). some (value_of_number y)) (kept i x)
        ∙ sym (nth_append old (initials (drop from ((world P).fields c))) i v e)
    go few a i b (inr x) =
        let fs : List Field = (world P).fields c in
        let old : List Meaning = take from (map value_of_number (take m (drop (o + 1) s))) in
        let w = some_at fs i b in
        let z : from + (i - from) ≡ i = omega arith in
        let e : nth (drop from fs) (i - from) ≡ some w.0 = nth_drop from fs (i - from) ∙ rw z w.1 in
        let y : nth (old ++ initials (drop from fs)) (length old + (i - from)) ≡ some (initial w.0.type) =
        nth_past old (initials (drop from fs)) (i - from)
        ∙ nth_map (λ (f : Field). initial f.type) (i - from) (drop from fs) w.0 e in
        let y' : nth (old ++ initials (drop from fs)) i ≡ some (initial w.0.type) = rw (a, z) at y in
        ap some (ap value_of_number (first i x (omega arith)) ∙ first_value h c i w.0 d w.1 b) ∙ sym y'

-- an object renewed: its class, fields kept up to `from`, first values after it
pub record Renewed (R T s s' : List ℕ) (o c from : ℕ) : Type 0 where
  pub long : length s' ≡ length s
  pub class : get_or s' o 0 ≡ c
  pub kept : (i : ℕ) → i < from → get_or s' (o + 1 + i) 0 ≡ get_or s (o + 1 + i) 0
  pub first : (i : ℕ) → from ≤ i → i < object_width - 1
      → get_or s' (o + 1 + i) 0 ≡ first_of R T c i (get_or T (c * 576 + 515) 0)
  pub outside : (x : ℕ) → (x < o) ⊎ (o + object_width ≤ x) → get_or s' x 0 ≡ get_or s x 0

pub renewed : {R T s s₁ : List ℕ} (o c from : ℕ) → Filled R T s s₁ o c from → from ≤ 17
    → o + object_width ≤ length s
    → Renewed R T s (set s₁ o c) o c from
renewed {R} {T} {s} {s₁} o c from w h room = record {
  long = length-set s₁ o c ∙ w.long;
  class = get_or-set_same s₁ o c 0 (omega (arith, w.long));
  kept = λ i l. get_or-set_other s₁ o (o + 1 + i) c 0 (λ e. omega arith)
      ∙ w.outside (o + 1 + i) (inl (omega arith));
  first = λ i l k.
      let e : o + 1 + from + (i - from) ≡ o + 1 + i = omega arith in
      let e' : from + (i - from) ≡ i = omega arith in
      get_or-set_other s₁ o (o + 1 + i) c 0 (λ e. omega arith)
      ∙ (rw (e, e') at (w.inside (i - from) (omega arith)));
  outside = λ x l. get_or-set_other s₁ o x c 0 (λ e. apart x l e) ∙ w.outside x (far x l);
}
  where
    apart : (x : ℕ) → (x < o) ⊎ (o + object_width ≤ x) → x ≡ o → ⊥
    apart x (inl a) e = omega arith
    apart x (inr a) e = omega arith

    far : (x : ℕ) → (x < o) ⊎ (o + object_width ≤ x)
        → (x < o + 1 + from) ⊎ (o + 1 + from + (object_width - 1 - from) ≤ x)
    far x (inl a) = inl (omega arith)
    far x (inr a) = inr (omega arith)

drop_same : (s s' : List ℕ) (n : ℕ) → length s' ≡ length s → ((x : ℕ) → n ≤ x → get_or s' x 0 ≡ get_or s x 0)
    → drop n s' ≡ drop n s
drop_same s s' n e f =
    ext_get_or 0 (drop n s') (drop n s) (simp (length-drop, e))
    (λ i h. get_or-drop n s' i 0 ∙ (f (n + i) (omega arith) ∙ sym (get_or-drop n s i 0)))

unused_first : {R E T A M s : List ℕ} {P : List Class} {made : ℕ} → Holding R E T A M s P made
    → (c i : ℕ) → c ≤ length P
    → length ((world P).fields c) ≤ i → first_of R T c i (get_or T (c * 576 + 515) 0) ≡ 0
unfolding first_of
unused_first {T = T} h c i d l =
    rw (le-leb (get_or T (c * 576 + 515) 0) i (omega (arith, (tables h).counts c d)))

module _ {R E T A M s : List ℕ} {P : List Class} {made : ℕ} (h : Holding R E T A M s P made) (s' : List ℕ)
    (made' j c from : ℕ) (r : Renewed R T s s' (j * object_width) c from)
    (d : c ≤ length P) (low : from ≤ length ((world P).fields c)) (at : j < made')
    (only : (i : ℕ) → i < made' → (i < j) ⊎ (j < i) → i < made) (room : made' * object_width ≤ length s)
    (few : made' ≤ 65535) where
  other : (i x : ℕ) → x < object_width → (i < j) ⊎ (j < i)
      → get_or s' (i * object_width + x) 0 ≡ get_or s (i * object_width + x) 0
  other i x l o = r.outside (i * object_width + x) (far o)
    where
      far : (i < j) ⊎ (j < i)
          → (i * object_width + x < j * object_width)
          ⊎ (j * object_width + object_width ≤ i * object_width + x)
      far (inl a) = inl (omega arith)
      far (inr a) = inr (omega arith)

  other_class : (i : ℕ) → (i < j) ⊎ (j < i) → get_or s' (i * object_width) 0 ≡ get_or s (i * object_width) 0
  other_class i o = let e : i * object_width + 0 ≡ i * object_width = omega arith in
      rw e at (other i 0 (omega arith) o)

  pub sound_renewed : Sound P made' s'
  sound_renewed = record {
    stored = omega (arith, r.long);
    few = few;
    declared = λ i k. declared i k (lt_or i j) (lt_or j i);
    unused = λ i x k u l. unused i x k u l (lt_or i j) (lt_or j i);
  }
    where
      declared : (i : ℕ) → i < made' → (i < j) ⊎ (j ≤ i) → (j < i) ⊎ (i ≤ j)
          → get_or s' (i * object_width) 0 ≤ length P
      declared i k (inl o) o' = rw (other_class i (inl o)) (h.sound.declared i (only i k (inl o)))
      declared i k (inr o) (inl o') = rw (other_class i (inr o')) (h.sound.declared i (only i k (inr o')))
      declared i k (inr o) (inr o') = let z : i ≡ j = omega arith in rw (z, r.class) d

      same : (i x : ℕ) → i < made' → length ((world P).fields (get_or s' (i * object_width) 0)) ≤ x
          → x < object_width - 1
          → (i < j) ⊎ (j < i) → get_or s' (i * object_width + 1 + x) 0 ≡ 0
      same i x k u l o =
          let e : i * object_width + (1 + x) ≡ i * object_width + 1 + x = omega arith in
          (rw e at (other i (1 + x) (omega arith) o))
          ∙ h.sound.unused i x (only i k o) (rw (other_class i o) at u) l

      unused : (i x : ℕ) → i < made' → length ((world P).fields (get_or s' (i * object_width) 0)) ≤ x
          → x < object_width - 1
          → (i < j) ⊎ (j ≤ i) → (j < i) ⊎ (i ≤ j) → get_or s' (i * object_width + 1 + x) 0 ≡ 0
      unused i x k u l (inl o) o' = same i x k u l (inl o)
      unused i x k u l (inr o) (inl o') = same i x k u l (inr o')
      unused i x k u l (inr o) (inr o') =
          let z : i ≡ j = omega arith in
          let u' : length ((world P).fields c) ≤ x = rw (z, r.class) at u in
          rw z (r.first x (omega arith) l ∙ unused_first h c x d u')

  pub stored_renewed : made ≤ made' → Stored P s s' made made'
  stored_renewed m = record {
    long = r.long;
    rest = drop_same s s' (made' * object_width) r.long (λ x l. r.outside x (inr (omega arith)));
    more = m;
    sound = sound_renewed;
  }

-- W
pub new_fill : {R T s : List ℕ} {c made : ℕ} (p : PreNew R T s c made) (o : ℕ) → o + object_width ≤ length s
    → Fill R T s o c 0
unfolding nth
new_fill {R} {T} {s} {c} p o h = record {
  table = omega (arith, (tables p.holding).long, p.declared);
  room = h;
  start = omega arith;
  few = omega (arith, (tables p.holding).counts c p.declared, fields_few p.holding c);
  rows = λ i l k.
      let f = some_at ((world p.P).fields c) i
      (omega (arith, (tables p.holding).counts c p.declared)) in
      (field_at p.holding c i f.0 p.declared f.1).0;
}

pub new_full : (R T s : List ℕ) (c : ℕ) (n : Tally) → capacity s ≤ n.made
    → PostNew R T s s c n (answer (outcome 17179869200) n)
unfolding bare outcome
new_full R T s c n h =
    record {
      acts = λ pre F.
          acts_same n (Stopped 16) pre.holding.sound (omega arith, omega arith)
          (λ γ k. rw (heap_length (world pre.P) n.made s, le-leb (capacity s) n.made h));
    }

pub full_count : (s : List ℕ) (made : ℕ) → 65535 ≤ made → capacity s ≤ made
unfolding capacity
full_count s made h = omega arith

pub full_store : (s : List ℕ) (made : ℕ) → length s < made * object_width + object_width → capacity s ≤ made
unfolding capacity
full_store s made h = omega arith

has_room : (s : List ℕ) (made : ℕ) → made < 65535 → made * object_width + object_width ≤ length s
    → made < capacity s
unfolding capacity
has_room s made h k = omega arith

new_acts : (R T s s₁ : List ℕ) (c : ℕ) (n : Tally) → n.made < 65535
    → n.made * object_width + object_width ≤ length s
    → Filled R T s s₁ (n.made * object_width) c 0
    → {E A M : List ℕ} {P : List Class} → Holding R E T A M s P n.made → c ≤ length P → (F : ℕ)
    → Acts P s (set s₁ (n.made * object_width) c) n
    (answer (Gave (object n.made))
    (record { left = n.left; made = n.made + 1; changes = n.changes }))
    (λ t. do_new (world P) (with_limits F (capacity s)) c t)
unfolding bare
new_acts R T s s₁ c n h room w {P = P} hold d F =
    let made : ℕ = n.made in
    let s' : List ℕ = set s₁ (made * object_width) c in
    let r : Renewed R T s s' (made * object_width) c 0 =
    renewed (made * object_width) c 0 w (omega arith) room in
    let e : made + 1 ≡ suc made = omega arith in
    let z : leb (capacity s) made ≡ false = lt-leb (capacity s) made (has_room s made h room) in
    let fields = fields_filled hold s s' (made * object_width) c 0 0 d (omega arith) (omega arith) room
    r.long
    (λ i l. r.kept i l) (λ i l k. r.first i l k) in
    let thing : object_at (world P) s' (made * object_width) ≡ new_object (world P) c
    = ap (λ (k : ℕ). record {
      class_of = k;
      fields = map value_of_number
          (take (length ((world P).fields k)) (drop (made * object_width + 1) s'));
    }) r.class
    ∙ ap (λ (y : List Meaning). record { class_of = c; fields = y }) fields in
    let heap : heap_of_numbers (world P) (made + 1) s' ≡ heap_of_numbers (world P) made s
    ++ (new_object (world P) c ∷ [])
    = rw e (heap_new (world P) made s s' r.long
    (λ i k. fields_few hold (get_or s (i * object_width) 0)) (λ x l. r.outside x (inl l))
    ∙ ap (λ (o : Thing). heap_of_numbers (world P) made s ++ (o ∷ [])) thing) in
    record {
      stored = stored_renewed hold s' (made + 1) made c 0 r d (omega arith) (omega arith)
          (λ i k o. only made i k o) (omega arith) (omega arith) (omega arith);
      left = refl;
      changed = omega arith;
      small = omega arith;
      is = λ γ k. rw (heap_length (world P) made s, z, heap);
    }
  where
    only : (made i : ℕ) → i < made + 1 → (i < made) ⊎ (made < i) → i < made
    only made i k (inl o) = o
    only made i k (inr o) = absurd (omega arith)

new_made : (R T s s₁ : List ℕ) (c : ℕ) (n : Tally) → n.made < 65535
    → n.made * object_width + object_width ≤ length s
    → Filled R T s s₁ (n.made * object_width) c 0
    → PostNew R T s (set s₁ (n.made * object_width) c) c n
    (answer (Gave (object n.made))
    (record { left = n.left; made = n.made + 1; changes = n.changes }))
new_made R T s s₁ c n h room w =
    record { acts = λ pre F. new_acts R T s s₁ c n h room w pre.holding pre.declared F }

-- the same of the word that is returned
pub new_told : {R T s s₁ : List ℕ} (n : Tally) {c : ℕ} → n.made < 65535
    → n.made * object_width + object_width ≤ length s → Filled R T s s₁ (n.made * object_width) c 0
    → PostNew R T s (set s₁ (n.made * object_width) c) c n
    (answered (8589934592 + (n.made + 1)) (record { left = n.left; made = n.made + 1; changes = n.changes }))
new_told {R} {T} {s} {s₁} n {c} h room w =
    let word : ℕ = 8589934592 + (n.made + 1) in
    let e : outcome word ≡ Gave (object n.made) = outcome_value word (omega arith)
    ∙ ap Gave (meaning_object word n.made (omega arith) (omega arith)) in
    rw e (new_made R T s s₁ c n h room w)

pub first_small : (t : ℕ) → Small (first_value_of t)
first_small t = go (eqb t 255)
  where
    go : (b : Bool) → Small (cond b (truth false) null)
    go true = omega arith
    go false = omega arith

-- what is written for a field: its first value, and null past the fields of the class
pub first_written : (R T : List ℕ) (c i count w : ℕ) → i < count
    → w ≡ word (first_value_of (field_type_in R T c i)) → value_number (meaning w) ≡ first_of R T c i count
unfolding first_of
first_written R T c i count w h e =
    let v : Meaning = first_value_of (field_type_in R T c i) in
    rw (lt-leb count i h)
    (ap (λ (x : ℕ). value_number (meaning x)) e
    ∙ ap value_number (meaning_word v (first_small (field_type_in R T c i))))

pub first_is_word : (t w : ℕ) → w ≡ word (first_value_of t) → Small (meaning w)
first_is_word t w e = rw (e, meaning_word (first_value_of t) (first_small t)) (first_small t)
