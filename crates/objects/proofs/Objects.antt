-- Laws of the objects that a store holds. Assumes nothing.
use Rattle.language.specs.Limits.{object_width}
use mathlib.Core.Path.{◌≡◌, refl, sym, ap, ap₂, ◌∙◌}
use mathlib.Core.Bool.{Bool, true, false}
use mathlib.Core.Logic.{◌⊎◌, inl, inr}
use mathlib.Core.Option.{Option, none, some}
use mathlib.Core.List.{List, [], ◌∷◌, ◌++◌, map}
use Prim.Native.Nat.{ℕ, zero, suc, ◌+◌, ◌*◌, ◌≤◌, ◌<◌}
use native.Mathlib.Omega.{arith}
use lib.Dec.{eqb}
use lib.ListN.{length, get_or, take, drop, set, length-append, length-take, length-drop, length-set, length-map}
use lib.Seq.{get_or-take, get_or-drop, drop-drop, ext_get_or, drop-set-add, take-set-lt, length-take-le}
use Rattle.language.specs.Lists.{nth, choice, bind_option, inj, Never, nth_set_same, nth_set_other}
use Rattle.language.specs.Lists.{nth_append, nth_last, nth_map}
use Rattle.language.specs.Tree.{Field}
use Rattle.language.specs.World.{World, place}
use Rattle.language.specs.State.{Value as Meaning, Object as Thing}
use Rattle.language.specs.Store.{value_of_number, heap_of_numbers}
use Rattle.objects.proofs.Nth.{lt_or, nth_ext, nth_getD, nth_none, map_set}

-- the place of a field is one of the list
pub place_lt : (f : ℕ) (fs : List Field) (i : ℕ) → place f fs ≡ some i → i < length fs
unfolding place
place_lt f [] i e = absurd (Never e)
place_lt f (x ∷ fs) i e = go (eqb x.name f) (place f fs) refl e (λ j q. place_lt f fs j q)
  where
    go : (t : Bool) (r : Option ℕ) → place f fs ≡ r
        → choice t (λ _. some 0) (λ _. bind_option r λ i. some (suc i)) ≡ some i
        → ((j : ℕ) → place f fs ≡ some j → j < length fs) → i < suc (length fs)
    go true r q e k = let h : 0 ≡ i = inj e in omega arith
    go false none q e k = absurd (Never e)
    go false (some j) q e k = let h : suc j ≡ i = inj e in omega (arith, k j q)

-- numbers read as values, by any function
module _ {B : Type 0} (f : ℕ → B) where
  pub mapped_at : (s : List ℕ) (from m i : ℕ) → i < m → from + i < length s
      → nth (map f (take m (drop from s))) i ≡ some (f (get_or s (from + i) 0))
  mapped_at s from m i h k =
      let n : i < length (take m (drop from s)) = simp (length-take, length-drop) (omega arith) in
      nth_map f i (take m (drop from s)) (get_or (take m (drop from s)) i 0)
      (nth_getD (take m (drop from s)) i 0 n)
      ∙ ap (λ (x : ℕ). some (f x)) (get_or-take m (drop from s) i 0 h ∙ get_or-drop from s i 0)

  pub mapped_ext : (s s' : List ℕ) (from m : ℕ) → length s ≡ length s'
      → ((i : ℕ) → i < m → get_or s (from + i) 0 ≡ get_or s' (from + i) 0)
      → map f (take m (drop from s)) ≡ map f (take m (drop from s'))
  mapped_ext s s' from m e h =
      ap (map f) (ext_get_or 0 (take m (drop from s)) (take m (drop from s'))
      (simp (length-take, length-drop, e))
      (λ i l. let k : i < m = omega (arith, length-take m (drop from s)) in
      get_or-take m (drop from s) i 0 k
      ∙ (get_or-drop from s i 0
      ∙ (h i k ∙ (sym (get_or-drop from s' i 0) ∙ sym (get_or-take m (drop from s') i 0 k))))))

  pub mapped_set : (s : List ℕ) (from m i x : ℕ) → i < m
      → map f (take m (drop from (set s (from + i) x))) ≡ set (map f (take m (drop from s))) i (f x)
  mapped_set s from m i x h =
      ap (map f) (ap (take m) (drop-set-add from s i x) ∙ take-set-lt m (drop from s) i x h)
      ∙ map_set f (take m (drop from s)) i x

  pub mapped_length : (s : List ℕ) (from m : ℕ) → from + m ≤ length s
      → length (map f (take m (drop from s))) ≡ m
  mapped_length s from m h = length-map (take m (drop from s)) f
      ∙ length-take-le m (drop from s) (simp length-drop (omega arith))

-- the object at an index of the store
module _ (W : World) where
  abbrev pub object_at : List ℕ → ℕ → Thing
  object_at s o = record {
    class_of = get_or s o 0;
    fields = map value_of_number
        (take (length (W.fields (get_or s o 0))) (drop (o + 1) s));
  }

  pub heap_length : (n : ℕ) (s : List ℕ) → length (heap_of_numbers W n s) ≡ n
  unfolding heap_of_numbers
  heap_length zero s = refl
  heap_length (suc n) s = ap suc (heap_length n (drop object_width s))

  object_shift : (s : List ℕ) (j : ℕ)
      → object_at (drop object_width s) (j * object_width) ≡ object_at s (suc j * object_width)
  object_shift s j =
      let e : object_width + j * object_width ≡ suc j * object_width = omega arith in
      let e' : object_width + (j * object_width + 1) ≡ suc j * object_width + 1 = omega arith in
      ap₂ (λ (c : ℕ) (l : List ℕ).
      record { class_of = c; fields = map value_of_number (take (length (W.fields c)) l) })
      (get_or-drop object_width s (j * object_width) 0 ∙ ap (λ (x : ℕ). get_or s x 0) e)
      (drop-drop (j * object_width + 1) object_width s ∙ ap (λ (x : ℕ). drop x s) e')

  pub heap_at : (n : ℕ) (s : List ℕ) (j : ℕ) → j < n
      → nth (heap_of_numbers W n s) j ≡ some (object_at s (j * object_width))
  unfolding heap_of_numbers nth
  heap_at zero s j h = absurd (omega arith)
  heap_at (suc n) s zero h = refl
  heap_at (suc n) s (suc j) h = heap_at n (drop object_width s) j (omega arith) ∙ ap some (object_shift s j)

  pub heap_past : (n : ℕ) (s : List ℕ) (j : ℕ) → n ≤ j → nth (heap_of_numbers W n s) j ≡ none
  heap_past n s j h = nth_none (heap_of_numbers W n s) j (omega (arith, heap_length n s))

  object_ext : (s s' : List ℕ) (o : ℕ) → length s ≡ length s' → length (W.fields (get_or s o 0)) ≤ 17
      → ((i : ℕ) → i < object_width → get_or s (o + i) 0 ≡ get_or s' (o + i) 0) → object_at s o ≡ object_at s' o
  object_ext s s' o e few h =
      let z : o + 0 ≡ o = omega arith in
      let c : get_or s o 0 ≡ get_or s' o 0 = rw z at (h 0 (omega arith)) in
      let m : ℕ = length (W.fields (get_or s o 0)) in
      ap (λ (l : List Meaning). record { class_of = get_or s o 0; fields = l })
      (mapped_ext value_of_number s s' (o + 1) m e (λ i k. shift i (h (1 + i) (omega arith))))
      ∙ ap (λ (c : ℕ). record {
        class_of = c;
        fields = map value_of_number
            (take (length (W.fields c)) (drop (o + 1) s'));
      }) c
    where
      shift : (i : ℕ) → get_or s (o + (1 + i)) 0 ≡ get_or s' (o + (1 + i)) 0
          → get_or s (o + 1 + i) 0 ≡ get_or s' (o + 1 + i) 0
      shift i q = let e : o + (1 + i) ≡ o + 1 + i = omega arith in rw e at q

  -- one object changed
  pub heap_changed : (made : ℕ) (s s' : List ℕ) (j : ℕ) → j < made → length s' ≡ length s
      → ((i : ℕ) → i < made → length (W.fields (get_or s (i * object_width) 0)) ≤ 17)
      → ((x : ℕ) → (x < j * object_width) ⊎ (j * object_width + object_width ≤ x) → get_or s' x 0 ≡ get_or s x 0)
      → heap_of_numbers W made s' ≡ set (heap_of_numbers W made s) j (object_at s' (j * object_width))
  heap_changed made s s' j h e few same =
      nth_ext (heap_of_numbers W made s') (set (heap_of_numbers W made s) j (object_at s' (j * object_width)))
      (heap_length made s'
      ∙ sym (length-set (heap_of_numbers W made s) j (object_at s' (j * object_width)) ∙ heap_length made s))
      (λ i k. let l : i < made = omega (arith, heap_length made s') in go i l (lt_or i j) (lt_or j i))
    where
      other : (i : ℕ) → i < made → (i < j) ⊎ (j < i)
          → nth (heap_of_numbers W made s') i ≡ nth (heap_of_numbers W made s) i
      other i l d = heap_at made s' i l
          ∙ (ap some (sym (object_ext s s' (i * object_width) (sym e) (few i l)
          (λ x k. sym (same (i * object_width + x) (far x k d))))) ∙ sym (heap_at made s i l))
        where
          far : (x : ℕ) → x < object_width → (i < j) ⊎ (j < i)
              → (i * object_width + x < j * object_width)
              ⊎ (j * object_width + object_width ≤ i * object_width + x)
          far x k (inl p) = inl (omega arith)
          far x k (inr p) = inr (omega arith)

      apart : (i : ℕ) → i < made → (i < j) ⊎ (j < i) → (j ≡ i → ⊥)
          → nth (heap_of_numbers W made s') i
          ≡ nth (set (heap_of_numbers W made s) j (object_at s' (j * object_width))) i
      apart i l d n = other i l d
          ∙ sym (nth_set_other (heap_of_numbers W made s) j i (object_at s' (j * object_width)) n)

      go : (i : ℕ) → i < made → (i < j) ⊎ (j ≤ i) → (j < i) ⊎ (i ≤ j)
          → nth (heap_of_numbers W made s') i
          ≡ nth (set (heap_of_numbers W made s) j (object_at s' (j * object_width))) i
      go i l (inl p) d = apart i l (inl p) (λ q. omega arith)
      go i l (inr p) (inl q) = apart i l (inr q) (λ z. omega arith)
      go i l (inr p) (inr q) =
          let z : i ≡ j = omega arith in
          rw z (heap_at made s' j h
          ∙ sym (nth_set_same (heap_of_numbers W made s) j (object_at s' (j * object_width))
          (object_at s (j * object_width))
          (heap_at made s j h)))

  -- one object more
  pub heap_new : (made : ℕ) (s s' : List ℕ) → length s' ≡ length s
      → ((i : ℕ) → i < made → length (W.fields (get_or s (i * object_width) 0)) ≤ 17)
      → ((x : ℕ) → x < made * object_width → get_or s' x 0 ≡ get_or s x 0)
      → heap_of_numbers W (suc made) s' ≡ heap_of_numbers W made s
      ++ (object_at s' (made * object_width) ∷ [])
  heap_new made s s' e few same =
      nth_ext (heap_of_numbers W (suc made) s')
      (heap_of_numbers W made s ++ (object_at s' (made * object_width) ∷ []))
      (heap_length (suc made) s'
      ∙ sym (length-append (heap_of_numbers W made s) (object_at s' (made * object_width) ∷ [])
      ∙ (ap (λ (n : ℕ). n + 1) (heap_length made s) ∙ omega arith)))
      (λ i k. let l : i < suc made = omega (arith, heap_length (suc made) s') in go i l (lt_or i made))
    where
      go : (i : ℕ) → i < suc made → (i < made) ⊎ (made ≤ i)
          → nth (heap_of_numbers W (suc made) s') i
          ≡ nth (heap_of_numbers W made s ++ (object_at s' (made * object_width) ∷ [])) i
      go i l (inl p) =
          heap_at (suc made) s' i l
          ∙ (ap some (sym (object_ext s s' (i * object_width) (sym e) (few i p)
          (λ x k. sym (same (i * object_width + x) (omega arith)))))
          ∙ sym (nth_append (heap_of_numbers W made s) (object_at s' (made * object_width) ∷ []) i
          (object_at s (i * object_width)) (heap_at made s i p)))
      go i l (inr p) =
          let z : i ≡ made = omega arith in
          let last : nth (heap_of_numbers W made s ++ (object_at s' (made * object_width) ∷ []))
          (length (heap_of_numbers W made s)) ≡ some (object_at s' (made * object_width)) =
          nth_last (heap_of_numbers W made s) (object_at s' (made * object_width)) in
          rw z (heap_at (suc made) s' made (omega arith) ∙ sym (rw (heap_length made s) at last))
