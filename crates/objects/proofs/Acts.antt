-- Laws of the acts on objects: G, U, K. Assumes nothing.
use Rattle.language.specs.Limits.{object_width}
use mathlib.Core.Path.{◌≡◌, refl, sym, ap, ◌∙◌}
use mathlib.Core.Bool.{Bool, true, false, cond}
use mathlib.Core.Logic.{◌⊎◌, inl, inr}
use mathlib.Core.Option.{Option, none, some}
use mathlib.Core.List.{List, map}
use Prim.Native.Nat.{ℕ, suc, ◌+◌, ◌-◌, ◌*◌, ◌≤◌, ◌<◌}
use native.Mathlib.Omega.{arith}
use borrow.Author.Tests.{eqb-true, eqb-false}
use Rattle.std.specs.Prelude.{None, Some}
use lib.Dec.{eqb}
use lib.ListN.{length, get_or, take, drop, set, length-set}
use lib.Seq.{get_or-set_other, drop-set-lt}
use Rattle.language.specs.Frames.{Frame}
use Rattle.language.specs.Tree.{Class}
use Rattle.language.specs.World.{place}
use Rattle.language.specs.Program.{world}
use Rattle.language.specs.ClassTables.{stored_place}
use Rattle.language.specs.State.{Value as Meaning, null, object, State, Out}
use Rattle.language.specs.Store.{value_number, value_of_number, heap_of_numbers}
use Rattle.objects.specs.declared.Reached.TheVariants.{At}
use Rattle.objects.specs.declared.Tally.{Tally}
use Rattle.objects.specs.Values.{Outcome, Gave, Raised, Stuck, word, meaning, reached, outcome}
use Rattle.objects.specs.Values.{Small, SmallOutcome, bare, told, answer}
use Rattle.language.specs.Evaluation.{do_set}
use Rattle.objects.specs.Holding.{view, Sound, Holding}
use Rattle.objects.specs.Acts.{Stored, Acts, PreObject, PostLoad, PostSave, PreCast, PostCast}
use Rattle.objects.specs.Acts.{Spot}
use Rattle.objects.specs.Acts.{field_index}
use Rattle.classes.specs.Subclasses.{is_below}
use Rattle.objects.proofs.Values.{NoObject, is_truth, is_past, reached_at, outcome_value}
use Rattle.objects.proofs.Values.{outcome_stuck}
use Rattle.objects.proofs.Values.{outcome_null_pointer, outcome_bad_cast, outcome_word, small_stored}
use Rattle.objects.proofs.Values.{value_of_value_number}
use Rattle.objects.proofs.Holding.{tables, few_classes, fields_few, below}
use Rattle.objects.proofs.Nth.{lt_or}
use Rattle.objects.proofs.Objects.{place_lt, mapped_at, mapped_set, object_at, heap_at, heap_past}
use Rattle.objects.proofs.Objects.{heap_changed}

-- a table's number for something that may not be there
place_none : (r : Option ℕ) → stored_place r ≡ 0 → r ≡ none
place_none none e = refl
place_none (some i) e = absurd (omega arith)

place_some : (r : Option ℕ) (p : ℕ) → p ≡ stored_place r → (p ≡ 0 → ⊥) → r ≡ some (p - 1)
place_some none p e h = absurd (h e)
place_some (some i) p e h = ap some (omega arith)

pub stored_same : {P : List Class} {s : List ℕ} {made : ℕ} → Sound P made s → Stored P s s made made
stored_same h = record { long = refl; rest = refl; more = omega arith; sound = h }

pub acts_same : {P : List Class} {s : List ℕ} (n : Tally) (o : Outcome) {g : State → Out Meaning}
    → Sound P n.made s → SmallOutcome o
    → ((γ : Frame Meaning) (k : ℕ) → told o (view P s n γ k) ≡ bare (g (view P s n γ k)))
    → Acts P s s n (answer o n) g
acts_same n o h m f = record { stored = stored_same h; left = refl; changed = omega arith; small = m; is = f }

small_place : (r : Option ℕ) (m : ℕ) → ((i : ℕ) → r ≡ some i → i < m) → stored_place r ≤ m
small_place none m h = omega arith
small_place (some i) m h = omega (arith, h i refl)

pub spot : {T s : List ℕ} {made : ℕ} (p : PreObject T s made) (j f : ℕ) → j < made → f < 256
    → Spot T s (j * object_width) f
spot {T} {s} p j f h l =
    let c : ℕ = get_or s (j * object_width) 0 in
    let d : c ≤ length p.P = p.holding.sound.declared j h in
    let q = (tables p.holding).places c f d l in
    record {
      class = omega (arith, (tables p.holding).long);
      room = omega (arith, p.holding.sound.stored);
      name = l;
      place = omega (
        arith,
        q,
        small_place (place f ((world p.P).fields c))
            (length ((world p.P).fields c)) (λ i e. place_lt f ((world p.P).fields c) i e),
        fields_few p.holding c,
      );
    }

-- the same of an object that a word leads to
pub reached_spot : {T s : List ℕ} {made f o : ℕ} (w : ℕ) → PreObject T s made → f < 256
    → At o ≡ reached made (meaning w) → Spot T s o f
reached_spot {made = made} {f} {o} w p l e = let x = reached_at made (meaning w) o e in
    rw x.3 (spot p x.0 f x.2 l)

-- a value that leads to no object is stuck
pub load_nothing : {T s : List ℕ} {v : Meaning} {f : ℕ} {n : Tally} → NoObject n.made v
    → PostLoad T s v f n (outcome 17179869184)
unfolding bare
load_nothing {s = s} {n = n} is_truth = rw outcome_stuck
    (record { acts = λ p. acts_same n Stuck p.holding.sound tt (λ γ k. refl) })
load_nothing {s = s} {n = n} (is_past {j} h) = rw outcome_stuck
    (record {
      acts = λ p. acts_same n Stuck p.holding.sound tt
          (λ γ k. rw (heap_past (world p.P) n.made s j h));
    })

pub save_nothing : {T s : List ℕ} {v : Meaning} {f : ℕ} {n : Tally} {w : Meaning} → NoObject n.made v
    → PostSave T s s v w f n (outcome 17179869184)
unfolding bare
save_nothing {s = s} {n = n} is_truth = rw outcome_stuck
    (record { acts = λ p. acts_same n Stuck p.holding.sound tt (λ γ k. refl) })
save_nothing {s = s} {n = n} (is_past {j} h) = rw outcome_stuck
    (record {
      acts = λ p. acts_same n Stuck p.holding.sound tt
          (λ γ k. rw (heap_past (world p.P) n.made s j h));
    })

pub cast_nothing : {A s : List ℕ} {v : Meaning} {c : ℕ} {n : Tally} → NoObject n.made v
    → PostCast A s v c n (outcome 17179869184)
unfolding bare
cast_nothing {s = s} {n = n} is_truth = rw outcome_stuck
    (record { acts = λ p. acts_same n Stuck p.holding.sound tt (λ γ k. refl) })
cast_nothing {s = s} {n = n} (is_past {j} h) = rw outcome_stuck
    (record {
      acts = λ p. acts_same n Stuck p.holding.sound tt
          (λ γ k. rw (heap_past (world p.P) n.made s j h));
    })

module _ {T s : List ℕ} {v : Meaning} {f : ℕ} {n : Tally} where
  pub load_null : v ≡ null → PostLoad T s v f n (outcome 17179869185)
  unfolding bare
  load_null e = rw outcome_null_pointer
      (record { acts = λ p. acts_same n (Raised 1) p.holding.sound tt (λ γ k. rw e) })

  pub load_missing : (j : ℕ) → v ≡ object j → j < n.made → f < 256
      → get_or T (get_or s (j * object_width) 0 * 576 + f) 0 ≡ 0 → PostLoad T s v f n (outcome 17179869184)
  unfolding bare
  load_missing j e h l z = rw outcome_stuck (record {
    acts = λ pre.
        let P = pre.P in
        let hold = pre.holding in
        let snd = hold.sound in
        let q = place_none (place f ((world P).fields (get_or s (j * object_width) 0)))
        (sym ((tables hold).places (get_or s (j * object_width) 0) f (snd.declared j h) l) ∙ z) in
        acts_same n Stuck snd tt (λ γ k. rw (e, heap_at (world P) n.made s j h, q));
  })

  pub load_at : (j : ℕ) → v ≡ object j → j < n.made → f < 256
      → (get_or T (get_or s (j * object_width) 0 * 576 + f) 0 ≡ 0 → ⊥)
      → get_or s (j * object_width + get_or T (get_or s (j * object_width) 0 * 576 + f) 0) 0 < 4294967296
      → PostLoad T s v f n
      (outcome (word (value_of_number (get_or s (j * object_width + get_or T
      (get_or s (j * object_width) 0 * 576 + f) 0) 0))))
  unfolding bare
  load_at j e h l z m =
      let number : ℕ = get_or s (j * object_width + get_or T (get_or s (j * object_width) 0 * 576 + f) 0) 0 in
      rw (outcome_word (value_of_number number) (small_stored number m)) (record {
        acts = λ pre.
            let P = pre.P in
            let hold = pre.holding in
            let snd = hold.sound in
            let c : ℕ = get_or s (j * object_width) 0 in
            let p : ℕ = get_or T (c * 576 + f) 0 in
            let i : ℕ = p - 1 in
            let d : c ≤ length P = snd.declared j h in
            let at : place f ((world P).fields c) ≡ some i =
            place_some (place f ((world P).fields c)) p ((tables hold).places c f d l) z in
            let low : i < length ((world P).fields c) = place_lt f ((world P).fields c) i at in
            let t : p ≡ suc i = omega arith in
            let x : j * object_width + 1 + i ≡ j * object_width + p = omega arith in
            let y = mapped_at value_of_number s (j * object_width + 1) (length ((world P).fields c)) i low
            (omega (arith, snd.stored, fields_few hold c)) in
            acts_same n (Gave (value_of_number number)) snd (small_stored number m)
            (λ γ k. rw (e, heap_at (world P) n.made s j h, at, y, x));
      })

module _ {T s : List ℕ} {v : Meaning} {f : ℕ} {n : Tally} where
  pub save_null : {w : Meaning} → v ≡ null → PostSave T s s v w f n (outcome 17179869185)
  unfolding bare
  save_null e = rw outcome_null_pointer
      (record { acts = λ p. acts_same n (Raised 1) p.holding.sound tt (λ γ k. rw e) })

  pub save_missing : {w : Meaning} (j : ℕ) → v ≡ object j → j < n.made → f < 256
      → get_or T (get_or s (j * object_width) 0 * 576 + f) 0 ≡ 0 → PostSave T s s v w f n (outcome 17179869184)
  unfolding bare
  save_missing j e h l z = rw outcome_stuck (record {
    acts = λ pre.
        let P = pre.P in
        let hold = pre.holding in
        let snd = hold.sound in
        let q = place_none (place f ((world P).fields (get_or s (j * object_width) 0)))
        (sym ((tables hold).places (get_or s (j * object_width) 0) f (snd.declared j h) l) ∙ z) in
        acts_same n Stuck snd tt (λ γ k. rw (e, heap_at (world P) n.made s j h, q));
  })

  save_acts : (u j : ℕ) → v ≡ object j → j < n.made → f < 256
      → (get_or T (get_or s (j * object_width) 0 * 576 + f) 0 ≡ 0 → ⊥) → Small (meaning u)
      → {R E A M : List ℕ} {P : List Class} → Holding R E T A M s P n.made
      → Acts P s (set s (j * object_width + get_or T (get_or s (j * object_width) 0 * 576 + f) 0)
      (value_number (meaning u))) n
      (answer (Gave (meaning u)) n) (λ t. do_set (world P) f v (meaning u) t)
  unfolding bare
  save_acts u j e h l z m {P = P} hold =
      let snd = hold.sound in
      let w : ℕ = value_number (meaning u) in
      let c : ℕ = get_or s (j * object_width) 0 in
      let p : ℕ = get_or T (c * 576 + f) 0 in
      let i : ℕ = p - 1 in
      let d : c ≤ length P = snd.declared j h in
      let at : place f ((world P).fields c) ≡ some i =
      place_some (place f ((world P).fields c)) p ((tables hold).places c f d l) z in
      let low : i < length ((world P).fields c) = place_lt f ((world P).fields c) i at in
      let few : length ((world P).fields c) ≤ 17 = fields_few hold c in
      let t : p ≡ suc i = omega arith in
      let y : j * object_width + p ≡ j * object_width + 1 + i = omega arith in
      let s' : List ℕ = set s (j * object_width + p) w in
      let class : get_or s' (j * object_width) 0 ≡ c =
      get_or-set_other s (j * object_width + p) (j * object_width) w 0 (λ k. omega arith) in
      let fields : map value_of_number (take (length ((world P).fields c)) (drop (j * object_width + 1) s'))
      ≡ set (map value_of_number (take (length ((world P).fields c)) (drop (j * object_width + 1) s))) i
      (meaning u)
      = rw y (mapped_set value_of_number s (j * object_width + 1) (length ((world P).fields c)) i w low
      ∙ ap (set (map value_of_number (take (length ((world P).fields c)) (drop (j * object_width + 1) s))) i)
      (value_of_value_number (meaning u))) in
      let thing : object_at (world P) s' (j * object_width)
      ≡ record {
        class_of = c;
        fields = set (map value_of_number (take (length ((world P).fields c)) (drop (j * object_width + 1) s)))
            i
            (meaning u);
      }
      = ap (λ (k : ℕ). record {
        class_of = k;
        fields = map value_of_number
            (take (length ((world P).fields k)) (drop (j * object_width + 1) s'));
      }) class
      ∙ ap (λ (y : List Meaning). record { class_of = c; fields = y }) fields in
      let heap = heap_changed (world P) n.made s s' j h (length-set s (j * object_width + p) w)
      (λ i k. fields_few hold (get_or s (i * object_width) 0))
      (λ y o. get_or-set_other s (j * object_width + p) y w 0 (λ k. apart y p (omega arith) (omega arith) o k))
      ∙ ap (set (heap_of_numbers (world P) n.made s) j) thing in
      record {
        stored = record {
          long = length-set s (j * object_width + p) w;
          rest = drop-set-lt (n.made * object_width) s (j * object_width + p) w (omega arith);
          more = omega arith;
          sound = record {
            stored = omega (arith, snd.stored, length-set s (j * object_width + p) w);
            few = snd.few;
            declared = λ i k. rw (other w i p (omega arith) (omega arith)) (snd.declared i k);
            unused = λ i y k free-from b.
                free P w i y p (omega arith) (omega arith)
                (rw (other w i p (omega arith) (omega arith)) at free-from) b
                t low k (snd.unused i y k);
          };
        };
        left = refl;
        changed = omega arith;
        small = m;
        is = λ γ k. rw (e, heap_at (world P) n.made s j h, at, heap);
      }
    where
      apart : (y p : ℕ) → 0 < p → p < object_width
          → (y < j * object_width) ⊎ (j * object_width + object_width ≤ y) → y ≡ j * object_width + p → ⊥
      apart y p a b (inl o) k = omega arith
      apart y p a b (inr o) k = omega arith

      other : (w i p : ℕ) → 0 < p → p < object_width
          → get_or (set s (j * object_width + p) w) (i * object_width) 0 ≡ get_or s (i * object_width) 0
      other w i p a b = get_or-set_other s (j * object_width + p) (i * object_width) w 0 (λ k. omega arith)

      free : (P : List Class) (w i y p : ℕ) → 0 < p → p < object_width
          → length ((world P).fields (get_or s (i * object_width) 0)) ≤ y
          → y < object_width - 1 → p ≡ suc (p - 1)
          → p - 1 < length ((world P).fields (get_or s (j * object_width) 0)) → i < n.made
          → (length ((world P).fields (get_or s (i * object_width) 0)) ≤ y → y < object_width - 1
          → get_or s (i * object_width + 1 + y) 0 ≡ 0)
          → get_or (set s (j * object_width + p) w) (i * object_width + 1 + y) 0 ≡ 0
      free P w i y p a a' u b t low k g =
          get_or-set_other s (j * object_width + p) (i * object_width + 1 + y) w 0
          (λ k. clash k (lt_or i j) (lt_or j i)) ∙ g u b
        where
          clash : i * object_width + 1 + y ≡ j * object_width + p → (i < j) ⊎ (j ≤ i) → (j < i) ⊎ (i ≤ j) → ⊥
          clash k (inl o) o' = omega arith
          clash k (inr o) (inl o') = omega arith
          clash k (inr o) (inr o') =
              let z : i ≡ j = omega arith in
              let u' : length ((world P).fields (get_or s (j * object_width) 0)) ≤ y = rw z at u in
              omega arith

  pub save_at : (u j : ℕ) → v ≡ object j → j < n.made → f < 256
      → (get_or T (get_or s (j * object_width) 0 * 576 + f) 0 ≡ 0 → ⊥) → u < 17179869184 → Small (meaning u)
      → PostSave T s (set s (j * object_width + get_or T (get_or s (j * object_width) 0 * 576 + f) 0)
      (value_number (meaning u))) v
      (meaning u) f n (outcome u)
  save_at u j e h l z short m =
      rw (outcome_value u short) (record { acts = λ pre. save_acts u j e h l z m pre.holding })

module _ {A s : List ℕ} {v : Meaning} {c : ℕ} {n : Tally} where
  pub cast_null : v ≡ null → Small v → PostCast A s v c n (Gave v)
  unfolding bare
  cast_null e m = record { acts = λ p. acts_same n (Gave v) p.holding.sound m (λ γ k. rw e) }

  pub cast_passes : (j : ℕ) → v ≡ object j → j < n.made → is_below A (get_or s (j * object_width) 0) c ≡ true
      → Small v → PostCast A s v c n (Gave v)
  unfolding bare
  cast_passes j e h t m = record {
    acts = λ pre.
        let P = pre.P in
        let hold = pre.holding in
        let snd = hold.sound in
        let q = sym (below hold (get_or s (j * object_width) 0) c (snd.declared j h)) ∙ t in
        acts_same n (Gave v) snd m (λ γ k. rw (e, heap_at (world P) n.made s j h, q));
  }

  pub cast_fails : (j : ℕ) → v ≡ object j → j < n.made → is_below A (get_or s (j * object_width) 0) c ≡ false
      → PostCast A s v c n (outcome 17179869186)
  unfolding bare
  cast_fails j e h t = rw outcome_bad_cast (record {
    acts = λ pre.
        let P = pre.P in
        let hold = pre.holding in
        let snd = hold.sound in
        let q = sym (below hold (get_or s (j * object_width) 0) c (snd.declared j h)) ∙ t in
        acts_same n (Raised 2) snd tt (λ γ k. rw (e, heap_at (world P) n.made s j h, q));
  })

-- ---- by the word of the object, and its index in the store

module _ (T s : List ℕ) (o f : ℕ) where
  abbrev place_in : ℕ
  place_in = get_or T (get_or s o 0 * 576 + f) 0

  index_lacks : None ≡ field_index T s o f → place_in ≡ 0
  unfolding field_index
  index_lacks e = go (eqb place_in 0) refl e
    where
      go : (b : Bool) → eqb place_in 0 ≡ b → None ≡ cond b None (Some (o + place_in)) → place_in ≡ 0
      go true q h = eqb-true place_in 0 q
      go false q h = cc

  index_has : {at : ℕ} → Some at ≡ field_index T s o f → (place_in ≡ 0 → ⊥) × (at ≡ o + place_in)
  unfolding field_index
  index_has {at} e = go (eqb place_in 0) refl e
    where
      go : (b : Bool) → eqb place_in 0 ≡ b → Some at ≡ cond b None (Some (o + place_in))
          → (place_in ≡ 0 → ⊥) × (at ≡ o + place_in)
      go true q h = cc
      go false q h = (λ y. eqb-false place_in 0 q y, cc)

  pub index_within : {at : ℕ} → Some at ≡ field_index T s o f → Spot T s o f → at < length s
  index_within e p = omega (arith, p.room, p.place, (index_has e).1)

module _ {T s : List ℕ} (w : ℕ) {o f : ℕ} {n : Tally} (q : At o ≡ reached n.made (meaning w)) (l : f < 256) where
  pub load_lacks : None ≡ field_index T s o f → PostLoad T s (meaning w) f n (outcome 17179869184)
  load_lacks e = let x = reached_at n.made (meaning w) o q in
      load_missing x.0 x.1 x.2 l (rw x.3 at (index_lacks T s o f e))

  pub save_lacks : {v : Meaning} → None ≡ field_index T s o f
      → PostSave T s s (meaning w) v f n (outcome 17179869184)
  save_lacks e = let x = reached_at n.made (meaning w) o q in
      save_missing x.0 x.1 x.2 l (rw x.3 at (index_lacks T s o f e))

  module _ {at : ℕ} (e : Some at ≡ field_index T s o f) where
    pub load_has : {r : ℕ} → get_or s at 0 < 4294967296
        → r ≡ word (value_of_number (get_or s at 0))
        → PostLoad T s (meaning w) f n (outcome r)
    load_has m d =
        let x = reached_at n.made (meaning w) o q in
        let y = index_has T s o f e in
        let a : at ≡ x.0 * object_width + get_or T (get_or s (x.0 * object_width) 0 * 576 + f) 0 =
        rw x.3 at y.1 in
        rw (d, a) (load_at x.0 x.1 x.2 l (rw x.3 at y.0) (rw a at m))

    pub save_has : (u : ℕ) {s' : List ℕ} → u < 17179869184 → Small (meaning u)
        → s' ≡ set s at (value_number (meaning u))
        → PostSave T s s' (meaning w) (meaning u) f n (outcome u)
    save_has u short m d =
        let x = reached_at n.made (meaning w) o q in
        let y = index_has T s o f e in
        let a : at ≡ x.0 * object_width + get_or T (get_or s (x.0 * object_width) 0 * 576 + f) 0 =
        rw x.3 at y.1 in
        rw (d, a) (save_at u x.0 x.1 x.2 l (rw x.3 at y.0) short m)

module _ {A s : List ℕ} (w : ℕ) {c o : ℕ} (n : Tally) (q : At o ≡ reached n.made (meaning w)) where
  pub cast_room : PreCast A s c n.made
      → (o + object_width ≤ length s) × (get_or s o 0 ≤ 64) × (get_or s o 0 < length A)
  cast_room p =
      let x = reached_at n.made (meaning w) o q in
      let d = p.holding.sound.declared x.0 x.2 in
      rw x.3 (
        omega (arith, p.holding.sound.stored, x.2),
        omega (arith, d, few_classes p.holding),
        omega (arith, d, (tables p.holding).long_above),
      )

  pub cast_below : is_below A (get_or s o 0) c ≡ true → w < 17179869184 → Small (meaning w)
      → PostCast A s (meaning w) c n (outcome w)
  cast_below b short m = let x = reached_at n.made (meaning w) o q in
      rw (outcome_value w short) (cast_passes x.0 x.1 x.2 (rw x.3 at b) m)

  pub cast_not_below : is_below A (get_or s o 0) c ≡ false → PostCast A s (meaning w) c n (outcome 17179869186)
  cast_not_below b = let x = reached_at n.made (meaning w) o q in
      cast_fails x.0 x.1 x.2 (rw x.3 at b)

pub cast_of_null : {A s : List ℕ} (w : ℕ) {c : ℕ} {n : Tally} → meaning w ≡ null → w < 17179869184
    → Small (meaning w) → PostCast A s (meaning w) c n (outcome w)
cast_of_null w e short m = rw (outcome_value w short) (cast_null e m)
