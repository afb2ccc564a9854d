-- The methods of a program where they stand: what holds of each, their order, and the pass one by one. Assumes nothing.
use mathlib.Core.Path.{◌≡◌, refl, sym, ap, ap₂, subst, ◌∙◌}
use mathlib.Core.Option.{some}
use mathlib.Core.List.{List, [], ◌∷◌, ◌++◌, map, map-append}
use Prim.Native.Nat.{ℕ, zero, suc, ◌+◌, ◌≤◌}
use native.Mathlib.Omega.{arith}
use lib.ListN.{length}
use Rattle.language.specs.Lists.{nth, Never, inj, nth_map}
use Rattle.language.specs.Results.{accept, refuse, Pass, passed, bind_checked}
use Rattle.language.specs.Tree.{Declaration, method_lines, methods_lines, Class, class_lines, classes_lines}
use Rattle.language.specs.World.{World}
use Rattle.language.specs.Effects.{effect_of_all}
use Rattle.language.specs.Program.{effect_in, methods_of}
use Rattle.language.specs.Typing.{type_method, type_methods, type_classes}
use Rattle.language.specs.WellFormed.{Each, each_nil, each_cons}
use Rattle.language.specs.MethodTables.{PlacedMethod, placed_in, placed_from, placed_methods}
use Rattle.language.specs.Layout.{EachMethod, EachClass, methods_from_row}

-- ---- what holds of each

each_split : {A : Type 0} {Q : A → Type 0} (l r : List A) → Each Q (l ++ r) → Each Q l × Each Q r
each_split [] r h = (each_nil, h)
each_split (a ∷ l) r (each_cons h hs) = let w = each_split l r hs in (each_cons h w.0, w.1)

each_head : {A : Type 0} {Q : A → Type 0} {a : A} {l : List A} → Each Q (a ∷ l) → Q a × Each Q l
each_head (each_cons x y) = (x, y)

-- ---- their declarations

declarations_in : (k r : ℕ) (ds : List Declaration)
    → map (λ (m : PlacedMethod). m.declaration) (placed_in k r ds) ≡ ds
unfolding placed_in
declarations_in k r [] = refl
declarations_in k r (d ∷ ds) =
    ap (λ (l : List Declaration). d ∷ l) (declarations_in k (r + method_lines d) ds)

declarations_from : (k r : ℕ) (cs : List Class)
    → map (λ (m : PlacedMethod). m.declaration) (placed_from k r cs) ≡ methods_of cs
unfolding placed_from methods_of
declarations_from k r [] = refl
declarations_from k r (c ∷ cs) =
    map-append (λ (m : PlacedMethod). m.declaration) (placed_in k (r + 1 + length c.fields) c.methods)
    (placed_from (suc k) (r + class_lines c) cs)
    ∙ ap₂ (λ (x y : List Declaration). x ++ y) (declarations_in k (r + 1 + length c.fields) c.methods)
    (declarations_from (suc k) (r + class_lines c) cs)

pub placed_effect : (P : List Class) (i : ℕ) (m : PlacedMethod) → nth (placed_methods P) i ≡ some m
    → effect_in P i ≡ effect_of_all m.declaration.effects
unfolding effect_in placed_methods
placed_effect P i m e =
    let f = nth_map (λ (x : PlacedMethod). x.declaration) i (placed_from 1 0 P) m e in
    rw (sym (ap (λ (l : List Declaration). nth l i) (declarations_from 1 0 P)) ∙ f)

-- ---- their order

-- Methods between two rows, one after another.
unfoldable pub Apart : ℕ → List PlacedMethod → ℕ → Type 0
Apart from [] to = from ≤ to
Apart from (m ∷ ms) to = (from ≤ m.row) × Apart (m.row + method_lines m.declaration) ms to

apart_append : (a b c : ℕ) (l r : List PlacedMethod) → Apart a l b → Apart b r c → Apart a (l ++ r) c
unfolding Apart
apart_append a b c [] r h k = sooner r k
  where
    sooner : (r : List PlacedMethod) → Apart b r c → Apart a r c
    sooner [] k = omega (arith, h, k)
    sooner (m ∷ ms) k = (omega (arith, h, k.0), k.1)
apart_append a b c (m ∷ l) r h k =
    (h.0, apart_append (m.row + method_lines m.declaration) b c l r h.1 k)

apart_in : (k r : ℕ) (ds : List Declaration) → Apart r (placed_in k r ds) (r + methods_lines ds)
unfolding Apart placed_in methods_lines
apart_in k r [] = omega arith
apart_in k r (d ∷ ds) = (
  omega arith,
  let z : r + method_lines d + methods_lines ds ≡ r + (method_lines d
      + methods_lines ds) = omega arith in rw (← z) (apart_in k (r + method_lines d) ds),
)

apart_from : (k r : ℕ) (cs : List Class) → Apart r (placed_from k r cs) (r + classes_lines cs)
unfolding Apart placed_from classes_lines class_lines placed_in
apart_from k r [] = omega arith
apart_from k r (c ∷ cs) =
    let z : r + class_lines c + classes_lines cs ≡ r + (class_lines c + classes_lines cs) = omega arith in
    apart_append r (r + class_lines c) (r + (class_lines c + classes_lines cs))
    (placed_in k (r + 1 + length c.fields) c.methods) (placed_from (suc k) (r + class_lines c) cs)
    (in_class (placed_in k (r + 1 + length c.fields) c.methods)
    (apart_in k (r + 1 + length c.fields) c.methods))
    (rw (← z) (apart_from (suc k) (r + class_lines c) cs))
  where
    in_class : (l : List PlacedMethod)
        → Apart (r + 1 + length c.fields) l (r + 1 + length c.fields + methods_lines c.methods)
        → Apart r l (r + class_lines c)
    in_class [] h = omega (arith, h)
    in_class (m ∷ ms) h =
        let z : r + 1 + length c.fields + methods_lines c.methods
        ≡ r + (1 + length c.fields + methods_lines c.methods) = omega arith in
        (omega (arith, h.0), rw (← z) h.1)

pub apart : (P : List Class) → Apart 0 (placed_methods P) (classes_lines P)
unfolding placed_methods
apart P = let z : 0 + classes_lines P ≡ classes_lines P = omega arith in
    subst (Apart 0 (placed_from 1 0 P)) z (apart_from 1 0 P)

-- Each is between the two rows.
pub apart_at : (a b : ℕ) (l : List PlacedMethod) → Apart a l b → (i : ℕ) (m : PlacedMethod)
    → nth l i ≡ some m → m.row + method_lines m.declaration ≤ b
unfolding Apart nth
apart_at a b [] h i m e = absurd (Never e)
apart_at a b (x ∷ l) h zero m e = let z : x ≡ m = inj e in rw (← z) (later l h.1)
  where
    later : {c : ℕ} (l : List PlacedMethod) → Apart c l b → c ≤ b
    later [] h = h
    later {c = c} (y ∷ l) h =
        omega (arith, h.0, later {c = y.row + method_lines y.declaration} l h.1)
apart_at a b (x ∷ l) h (suc i) m e = apart_at (x.row + method_lines x.declaration) b l h.1 i m e

-- ---- the pass one by one

-- The methods from number i on.
unfoldable pub type_placed : World → ℕ → List PlacedMethod → Pass
type_placed W i [] = passed
type_placed W i (m ∷ ms) = bind_checked (type_method W m.owner i (m.row + 1) m.declaration) λ _.
    type_placed W (suc i) ms

bind_again : (q x y : Pass)
    → bind_checked q (λ _. bind_checked x (λ _. y)) ≡ bind_checked (bind_checked q (λ _. x)) (λ _. y)
unfolding bind_checked
bind_again (accept t) x y = refl
bind_again (refuse n l) x y = refl

module _ (W : World) where
  typed_append : (i : ℕ) (l r : List PlacedMethod)
      → type_placed W i (l ++ r) ≡ bind_checked (type_placed W i l) λ _. type_placed W (i + length l) r
  unfolding type_placed bind_checked
  typed_append i [] r = let z : i + 0 ≡ i = omega arith in rw z
  typed_append i (m ∷ l) r =
      let z : suc i + length l ≡ i + suc (length l) = omega arith in
      let q = type_method W m.owner i (m.row + 1) m.declaration in
      ap (λ (x : Pass). bind_checked q λ _. x) (typed_append (suc i) l r)
      ∙ (bind_again q (type_placed W (suc i) l) (type_placed W (suc i + length l) r)
      ∙ ap (λ (n : ℕ). bind_checked (bind_checked q λ _. type_placed W (suc i) l) λ _. type_placed W n r) z)

  typed_in : (k i r : ℕ) (ds : List Declaration)
      → type_methods W k i (r + 1) ds ≡ type_placed W i (placed_in k r ds)
  unfolding type_methods type_placed placed_in
  typed_in k i r [] = refl
  typed_in k i r (d ∷ ds) =
      let z : r + 1 + method_lines d ≡ r + method_lines d + 1 = omega arith in
      ap (λ (x : Pass). bind_checked (type_method W k i (r + 1) d) λ _. x)
      (ap (λ (l : ℕ). type_methods W k (suc i) l ds) z ∙ typed_in k (suc i) (r + method_lines d) ds)

  typed_from : (k i r : ℕ) (cs : List Class)
      → type_classes W k i (r + 1) cs ≡ type_placed W i (placed_from k r cs)
  unfolding type_classes type_placed placed_from placed_in
  typed_from k i r [] = refl
  typed_from k i r (c ∷ cs) =
      let here = placed_in k (r + 1 + length c.fields) c.methods in
      let y : r + 1 + 1 + length c.fields ≡ r + 1 + length c.fields + 1 = omega arith in
      let z : r + 1 + class_lines c ≡ r + class_lines c + 1 = omega arith in
      ap₂ (λ (x y : Pass). bind_checked x λ _. y)
      (ap (λ (l : ℕ). type_methods W k i l c.methods) y
      ∙ typed_in k i (r + 1 + length c.fields) c.methods)
      (ap (λ (l : ℕ). type_classes W (suc k) (i + length c.methods) l cs) z
      ∙ (typed_from (suc k) (i + length c.methods) (r + class_lines c) cs
      ∙ ap (λ (n : ℕ). type_placed W (i + n) (placed_from (suc k) (r + class_lines c) cs))
      (long k (r + 1 + length c.fields) c.methods)))
      ∙ sym (typed_append i here (placed_from (suc k) (r + class_lines c) cs))
    where
      long : (k r : ℕ) (ds : List Declaration) → length ds ≡ length (placed_in k r ds)
      long k r [] = refl
      long k r (d ∷ ds) = ap suc (long k (r + method_lines d) ds)

  pub typed_placed : (P : List Class) → type_classes W 1 0 1 P ≡ type_placed W 0 (placed_methods P)
  unfolding placed_methods
  typed_placed P = typed_from 1 0 0 P

-- What holds of each method, class by class.
module _ (Q : ℕ → Declaration → ℕ → Type 0) where
  by_methods : (k r : ℕ) (ds : List Declaration)
      → Each (λ (m : PlacedMethod). Q m.owner m.declaration m.row) (placed_in k r ds)
      → EachMethod Q ds k r
  unfolding EachMethod placed_in
  by_methods k r [] h = tt
  by_methods k r (d ∷ ds) h =
      ((each_head h).0, by_methods k (r + method_lines d) ds (each_head h).1)

  pub by_classes : (k r : ℕ) (cs : List Class)
      → Each (λ (m : PlacedMethod). Q m.owner m.declaration m.row) (placed_from k r cs)
      → EachClass (λ k c r. EachMethod Q c.methods k (methods_from_row r c)) cs k r
  unfolding EachClass placed_from
  by_classes k r [] h = tt
  by_classes k r (c ∷ cs) h =
      let w = each_split (placed_in k (methods_from_row r c) c.methods)
      (placed_from (suc k) (r + class_lines c) cs) h in (
        by_methods k (methods_from_row r c) c.methods w.0,
        by_classes (suc k) (r + class_lines c) cs w.1,
      )
