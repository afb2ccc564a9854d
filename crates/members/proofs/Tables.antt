-- Laws of the table of classes while it is filled. Assumes nothing.
use mathlib.Core.Path.{◌≡◌, refl, sym, ap, ◌∙◌}
use mathlib.Core.Bool.{Bool, true, false, ◌&&◌, cond}
use mathlib.Core.Option.{Option, none, some}
use mathlib.Core.List.{List, [], ◌∷◌, ◌++◌}
use mathlib.Core.Logic.{inl, inr}
use Prim.Native.Nat.{ℕ, zero, suc, ◌+◌, ◌*◌, ◌≤◌, ◌<◌}
use native.Mathlib.Omega.{arith}
use borrow.Author.Tests.{eqb-true, eqb-false, eq-eqb, ne_eqb, lt-ltb, le-ltb, le-leb, lt-leb, leb-true}
use borrow.Author.Tests.{leb-false}
use lib.Dec.{eqb, leb, ltb}
use lib.ListN.{length, get_or, set, length-set, length-append}
use lib.Seq.{get_or-set_same, get_or-set_other}
use Rattle.language.specs.Lists.{nth, nth_append_one, nth_lt, nth_some}
use Rattle.language.specs.Tree.{class, type_of_number, Kind, plain, root, state, unknown, kind_number}
use Rattle.language.specs.Tree.{kind_of_number, Field, Class}
use Rattle.language.specs.World.{place, is_declared_type}
use Rattle.language.specs.Program.{class_at, is_root, is_state, is_root_class, is_state_type, world}
use Rattle.language.specs.Program.{world_with}
use Rattle.language.specs.Headings.{may_extend}
use Rattle.language.specs.ClassTables.{stored_place}
use Rattle.theory.proofs.lookups.TranslatorLookups.{place_last}
use Rattle.members.specs.Blocks.{Block, Filled, Lookups, Working}
use Rattle.members.specs.Faults.{fault_of_effect}
use Rattle.members.specs.Ready.{StateReady, EffectReady}

-- ---- numbers of types and kinds

class_type : (t : ℕ) → (t ≡ 255 → ⊥) → type_of_number t ≡ class t
class_type t n = rw (ne_eqb t 255 n)

pub declared_class : (P : List Class) (t count : ℕ) → count ≡ length P → (t ≡ 255 → ⊥)
    → leb t count ≡ is_declared_type (world P) (type_of_number t)
unfolding world world_with
declared_class P t count e n = rw (ne_eqb t 255 n, e)

-- a kind's number tells the kind
pub kind_numbers : (k : Kind) → kind_of_number (kind_number k) ≡ k
    → (eqb (kind_number k) 1 ≡ is_root k) × (eqb (kind_number k) 2 ≡ is_state k)
kind_numbers plain e = (refl, refl)
kind_numbers root e = (refl, refl)
kind_numbers state e = (refl, refl)
kind_numbers (unknown zero) e = let z : ◌≡◌ {A = ℕ} 0 1 = cc in absurd (omega arith)
kind_numbers (unknown (suc zero)) e = let z : ◌≡◌ {A = ℕ} 0 1 = cc in absurd (omega arith)
kind_numbers (unknown (suc (suc zero))) e = let z : ◌≡◌ {A = ℕ} 0 1 = cc in absurd (omega arith)
kind_numbers (unknown (suc (suc (suc n)))) e = (
  ne_eqb (suc (suc (suc n))) 1 (λ q. omega (arith, q)),
  ne_eqb (suc (suc (suc n))) 2 (λ q. omega (arith, q)),
)

-- a number up to the count of classes is Object's or a class's
pub class_or_object : {A : Type 0} (P : List Class) (k : ℕ) → k ≤ length P → (k ≡ 0 → A)
    → ((c : Class) → class_at P k ≡ some c → A) → A
unfolding class_at
class_or_object P zero p f g = f refl
class_or_object P (suc k) p f g = let y = nth_some P k (omega (arith, p)) in g y.0 y.1

pub at_object : (P : List Class) (k : ℕ) → k ≡ 0 → class_at P k ≡ none
unfolding class_at
at_object P k e = rw e

module _ {P : List Class} {n : ℕ} {T : List ℕ} (L : Lookups P n T) (t : ℕ) (p : t ≤ length P) where
  pub kind_index : t * 576 + 575 < length T
  kind_index = omega (arith, p, L.long)

  pub root_entry : eqb (get_or T (t * 576 + 512) 0) 1 ≡ is_root_class P t
  unfolding is_root_class
  root_entry = class_or_object P t p
      (λ e. rw (at_object P t e, e, L.object))
      (λ c e. rw (e, L.kinds t c e) (kind_numbers c.kind (L.proper t c e)).0)

  pub state_entry : eqb (get_or T (t * 576 + 512) 0) 2 ≡ is_state_type P (class t)
  unfolding is_state_type
  state_entry = class_or_object P t p
      (λ e. rw (at_object P t e, e, L.object))
      (λ c e. rw (e, L.kinds t c e) (kind_numbers c.kind (L.proper t c e)).1)

module _ {T : List ℕ} {t : ℕ} (w : StateReady T t) where
  pub state_bool : t ≡ 255 → false ≡ is_state_type w.P (type_of_number t)
  unfolding is_state_type
  state_bool e = rw (eq-eqb t 255 e)

  state_class : (t ≡ 255 → ⊥) → t ≤ length w.P
  state_class n = leb-true t (length w.P) (declared_class w.P t (length w.P) refl n ∙ w.known)

  pub state_index : (t ≡ 255 → ⊥) → t * 576 + 575 < length T
  state_index n = kind_index w.lookups t (state_class n)

  pub state_is : (t ≡ 255 → ⊥) → (k : ℕ) → k ≡ get_or T (t * 576 + 512) 0
      → eqb k 2 ≡ is_state_type w.P (type_of_number t)
  state_is n k k-is = rw k-is
      (state_entry w.lookups t (state_class n) ∙ ap (is_state_type w.P) (sym (class_type t n)))

module _ {T : List ℕ} {count : ℕ} (w : EffectReady T count) (c last : ℕ) where
  pub effect_undeclared : count < c → 4 ≡ fault_of_effect w.P last c
  unfolding fault_of_effect world world_with
  effect_undeclared l = rw (lt-leb c (length w.P) (omega (arith, l, w.count_is)))

  module _ (l : c ≤ count) where
    declared-effect : fault_of_effect w.P last c
        ≡ cond (eqb (get_or T (c * 576 + 512) 0) 1 && ltb last c) 0 5
    unfolding fault_of_effect world world_with
    declared-effect = rw (
      le-leb c (length w.P) (omega (arith, l, w.count_is)),
      root_entry w.lookups c
          (omega (arith, l, w.count_is)),
    )

    module _ (k : ℕ) (k-is : k ≡ get_or T (c * 576 + 512) 0) where
      pub effect_no_root : (k ≡ 1 → ⊥) → 5 ≡ fault_of_effect w.P last c
      effect_no_root n = sym (declared-effect ∙ rw (← k-is, ne_eqb k 1 n))

      pub effect_order : k ≡ 1 → c ≤ last → 5 ≡ fault_of_effect w.P last c
      effect_order e h = sym (declared-effect ∙ rw (← k-is, eq-eqb k 1 e, le-ltb last c h))

      pub effect_fine : k ≡ 1 → last < c → 0 ≡ fault_of_effect w.P last c
      effect_fine e h = sym (declared-effect ∙ rw (← k-is, eq-eqb k 1 e, lt-ltb last c h))

-- Object is extended as a plain class is
pub extend_object : (k : Kind) → may_extend k none ≡ may_extend k (some plain)
extend_object plain = refl
extend_object root = refl
extend_object state = refl
extend_object (unknown n) = refl

-- ---- tables that agree

pub block_same : {T : List ℕ} {base : ℕ} {fs : List Field} {rs : List ℕ} {ms : ℕ → Option ℕ} (T' : List ℕ)
    → Block T base fs rs ms
    → ((i : ℕ) → base ≤ i → i < base + 576 → get_or T' i 0 ≡ get_or T i 0) → Block T' base fs rs ms
block_same {base} {rs} T' b f = record {
  places = λ n l. f (base + n) (omega arith) (omega (arith, l)) ∙ b.places n l;
  entries = λ m l. f (base + 256 + m) (omega arith) (omega (arith, l)) ∙ b.entries m l;
  count = f (base + 515) (omega arith) (omega arith) ∙ b.count;
  rows = λ i r e. f (base + 520 + i) (omega arith) (omega (arith, nth_lt rs i r e, b.long, b.few))
      ∙ b.rows i r e;
  long = b.long;
  few = b.few;
}

pub filled_same : {P : List Class} {T : List ℕ} {k : ℕ} (T' : List ℕ) → Filled P T k
    → ((i : ℕ) → k * 576 ≤ i → i < k * 576 + 576 → get_or T' i 0 ≡ get_or T i 0) → Filled P T' k
filled_same {k} T' b f =
    record {
      block = block_same T' b.block f;
      root = f (k * 576 + 514) (omega arith) (omega arith) ∙ b.root;
    }

pub three : {A : Type 0} (j k : ℕ) → (j < k → A) → (j ≡ k → A) → (k < j → A) → A
three {A} j k f g h = pick (leb j k) refl (eqb j k) refl
  where
    pick : (a : Bool) → leb j k ≡ a → (b : Bool) → eqb j k ≡ b → A
    pick a p true q = g (eqb-true j k q)
    pick true p false q = f (omega (arith, leb-true j k p, eqb-false j k q))
    pick false p false q = h (leb-false j k p)

-- a change in the block of class k that leaves kind and superclass
pub lookups_same : {P : List Class} {k : ℕ} {T : List ℕ} (T' : List ℕ) → Lookups P k T → length T' ≡ length T
    → ((i : ℕ) → i < k * 576 → get_or T' i 0 ≡ get_or T i 0)
    → get_or T' (k * 576 + 512) 0 ≡ get_or T (k * 576 + 512) 0
    → get_or T' (k * 576 + 513) 0 ≡ get_or T (k * 576 + 513) 0
    → ((i : ℕ) → k * 576 + 576 ≤ i → get_or T' i 0 ≡ get_or T i 0) → Lookups P k T'
lookups_same {k} {T} T' L e low kind over high = record {
  few = L.few;
  long = omega (arith, L.long, e);
  object = at-kind 0 ∙ L.object;
  kinds = λ j c q. at-kind j ∙ L.kinds j c q;
  proper = L.proper;
  supers = λ j c q. at-super j ∙ L.supers j c q;
  earlier = L.earlier;
  blocks = λ j l. filled_same T' (L.blocks j l) (λ i a b. low i (omega (arith, b, l)));
}
  where
    at-kind : (j : ℕ) → get_or T' (j * 576 + 512) 0 ≡ get_or T (j * 576 + 512) 0
    at-kind j = three j k (λ l. low (j * 576 + 512) (omega (arith, l))) (λ q. rw q kind)
        (λ l. high (j * 576 + 512) (omega (arith, l)))

    at-super : (j : ℕ) → get_or T' (j * 576 + 513) 0 ≡ get_or T (j * 576 + 513) 0
    at-super j = three j k (λ l. low (j * 576 + 513) (omega (arith, l))) (λ q. rw q over)
        (λ l. high (j * 576 + 513) (omega (arith, l)))

-- one number of the block of class k is set
pub lookups_set : {P : List Class} {k : ℕ} {T : List ℕ} → Lookups P k T → (x v : ℕ) → x < 576 → (x ≡ 512 → ⊥)
    → (x ≡ 513 → ⊥) → Lookups P k (set T (k * 576 + x) v)
lookups_set {k} {T} L x v h m n = lookups_same (set T (k * 576 + x) v) L (length-set T (k * 576 + x) v)
    (λ i l. get_or-set_other T (k * 576 + x) i v 0 (λ e. omega (arith, l, e)))
    (get_or-set_other T (k * 576 + x) (k * 576 + 512) v 0 (λ e. m (omega (arith, e))))
    (get_or-set_other T (k * 576 + x) (k * 576 + 513) v 0 (λ e. n (omega (arith, e))))
    (λ i l. get_or-set_other T (k * 576 + x) i v 0 (λ e. omega (arith, l, e, h)))

-- ---- fields

place_other : (f : ℕ) (fs : List Field) (g : Field) → eqb g.name f ≡ false
    → place f (fs ++ (g ∷ [])) ≡ place f fs
unfolding place
place_other f [] g e = rw e
place_other f (x ∷ fs) g e = rw (place_other f fs g e)

module _ {P : List Class} {k : ℕ} {T : List ℕ} {fs : List Field} {rs : List ℕ} {ms : ℕ → Option ℕ}
    (W : Working P k T fs rs ms) where
  pub working_index : (x : ℕ) → x < 576 → k * 576 + x < length T
  working_index x l = omega (arith, l, W.within, W.lookups.long)

  -- what a new field's numbers make of the table
  module _ (g : Field) (r : ℕ) (h : g.name ≤ 255) (room : length fs < 17) (new : place g.name fs ≡ none)
    where
      abbrev pub entered : List ℕ
      entered = set (set (set T (k * 576 + g.name) (length fs + 1)) (k * 576 + (520 + length fs)) r)
          (k * 576 + 515) (length fs + 1)

      other : (i : ℕ) → (i ≡ k * 576 + g.name → ⊥) → (i ≡ k * 576 + (520 + length fs) → ⊥)
          → (i ≡ k * 576 + 515 → ⊥) → get_or entered i 0 ≡ get_or T i 0
      other i a b c = get_or-set_other (set (set T (k * 576 + g.name) (length fs + 1))
          (k * 576 + (520 + length fs)) r) (k * 576 + 515) i (length fs + 1) 0 c
          ∙ (get_or-set_other (set T (k * 576 + g.name) (length fs + 1)) (k * 576 + (520 + length fs)) i r 0 b
          ∙ get_or-set_other T (k * 576 + g.name) i (length fs + 1) 0 a)

      at_name : get_or entered (k * 576 + g.name) 0 ≡ length fs + 1
      at_name = get_or-set_other (set (set T (k * 576 + g.name) (length fs + 1)) (k * 576 + (520 + length fs))
          r)
          (k * 576 + 515) (k * 576 + g.name) (length fs + 1) 0 (λ e. omega (arith, e, h))
          ∙ (get_or-set_other (set T (k * 576 + g.name) (length fs + 1)) (k * 576 + (520 + length fs))
          (k * 576 + g.name) r 0 (λ e. omega (arith, e, h))
          ∙ get_or-set_same T (k * 576 + g.name) (length fs + 1) 0
          (working_index g.name (omega (arith, h))))

      at_row : get_or entered (k * 576 + (520 + length fs)) 0 ≡ r
      at_row = get_or-set_other
          (set (set T (k * 576 + g.name) (length fs + 1)) (k * 576 + (520 + length fs)) r)
          (k * 576 + 515) (k * 576 + (520 + length fs)) (length fs + 1) 0 (λ e. omega (arith, e))
          ∙ get_or-set_same (set T (k * 576 + g.name) (length fs + 1)) (k * 576 + (520 + length fs)) r 0
          (omega (
            arith,
            length-set T (k * 576 + g.name) (length fs + 1),
            working_index (520 + length fs) (omega (arith, room)),
          ))

      at_count : get_or entered (k * 576 + 515) 0 ≡ length fs + 1
      at_count = get_or-set_same (set (set T (k * 576 + g.name) (length fs + 1)) (k * 576 + (520 + length fs))
          r)
          (k * 576 + 515) (length fs + 1) 0
          (omega (
            arith,
            length-set (set T (k * 576 + g.name) (length fs + 1)) (k * 576 + (520 + length fs)) r,
            length-set T (k * 576 + g.name) (length fs + 1),
            working_index 515 (omega arith),
          ))

      entered-place : (f : ℕ) → f < 256
          → get_or entered (k * 576 + f) 0 ≡ stored_place (place f (fs ++ (g ∷ [])))
      entered-place f l = go (eqb g.name f) refl
        where
          go : (b : Bool) → eqb g.name f ≡ b
              → get_or entered (k * 576 + f) 0 ≡ stored_place (place f (fs ++ (g ∷ [])))
          go true q = let e = eqb-true g.name f q in let s : length fs + 1 ≡ suc (length fs) =
              omega arith in
              rw (← e) (at_name ∙ rw (place_last g fs new, s))
          go false q = other (k * 576 + f) (λ e. eqb-false g.name f q (omega (arith, e)))
              (λ e. omega (arith, e, l)) (λ e. omega (arith, e, l))
              ∙ (W.block.places f l ∙ rw (place_other f fs g q))

      entered-row : (i q : ℕ) → nth (rs ++ (r ∷ [])) i ≡ some q → get_or entered (k * 576 + 520 + i) 0 ≡ q
      entered-row i q e = elim (nth_append_one rs r i q e) [
        | inl p ↦ (let z = nth_lt rs i q p in other (k * 576 + 520 + i) (λ d. omega (arith, d, h))
            (λ d. omega (arith, d, z, W.block.long)) (λ d. omega (arith, d)) ∙ W.block.rows i q p)
        | inr p ↦ (let d : k * 576 + 520 + i ≡ k * 576 + (520 + length fs) = omega
            (arith, p.0, W.block.long) in rw d (at_row ∙ p.1))
      ]

      pub working_field : (T' : List ℕ) → T' ≡ entered → Working P k T' (fs ++ (g ∷ [])) (rs ++ (r ∷ [])) ms
      working_field T' e = rw e (record {
        lookups = lookups_set (lookups_set (lookups_set W.lookups g.name (length fs + 1)
            (omega (arith, h)) (λ q. omega (arith, q, h)) (λ q. omega (arith, q, h)))
            (520 + length fs) r (omega (arith, room)) (λ q. omega (arith, q)) (λ q. omega (arith, q))) 515
            (length fs + 1) (omega arith) (λ q. omega (arith, q)) (λ q. omega (arith, q));
        within = W.within;
        block = record {
          places = entered-place;
          entries = λ m l. other (k * 576 + 256 + m) (λ d. omega (arith, d, h)) (λ d. omega (arith, d, l))
              (λ d. omega (arith, d, l)) ∙ W.block.entries m l;
          count = at_count ∙ sym (length-append fs (g ∷ []));
          rows = entered-row;
          long = length-append rs (r ∷ []) ∙ (omega (arith, W.block.long, length-append fs (g ∷ [])));
          few = omega (arith, length-append fs (g ∷ []), room);
        };
        root = other (k * 576 + 514) (λ d. omega (arith, d, h)) (λ d. omega (arith, d))
            (λ d. omega (arith, d))
            ∙ W.root;
      })
