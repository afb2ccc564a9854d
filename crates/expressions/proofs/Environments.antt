-- Environments as lists of numbers: what each change of an environment makes of them. Assumes nothing.
use mathlib.Core.Path.{◌≡◌, refl, sym, ap, ap₂, subst, ◌∙◌}
use mathlib.Core.Bool.{Bool, true, false, false≢true}
use mathlib.Core.Option.{Option, none, some}
use mathlib.Core.List.{List, [], ◌∷◌, ◌++◌, map}
use Prim.Native.Nat.{ℕ, zero, suc, ◌<◌}
use native.Mathlib.Omega.{arith}
use lib.ListN.{length, length-map, get_or, take, set as replaced}
use Rattle.language.specs.Lists.{nth, Never, inj, map_option}
use Rattle.language.specs.Frames.{at_slot, with_slot, opened, closed, map_frame}
use Rattle.language.specs.Tree.{DeclaredType, type_number}
use Rattle.language.specs.World.{World, is_declared_type}
use Rattle.language.specs.Environment.{Slot, Environment, fresh_slot}
use Rattle.language.specs.Typing.{join_slot, join_slots, join_this, join_environments}
use Rattle.types.specs.Answers.{numbers, slot_number, this_number, slot_of, absent}

-- both types of every slot are declared
module _ (W : World) where
  abbrev pub Good : Slot → Type 0
  Good s = (is_declared_type W s.current ≡ true) × (is_declared_type W s.declared ≡ true)

  unfoldable pub AllGood : List Slot → Type 0
  AllGood [] = Unit {0}
  AllGood (s ∷ ss) = Good s × AllGood ss

  abbrev pub ThisGood : Option Slot → Type 0
  ThisGood none = Unit {0}
  ThisGood (some s) = Good s

  pub record Fine (γ : Environment) : Type 0 where
    pub this : ThisGood γ.this
    pub slots : AllGood γ.slots

  good_list : (l : List Slot) → ((k : ℕ) (s : Slot) → nth l k ≡ some s → Good s) → AllGood l
  unfolding AllGood nth
  good_list [] f = tt
  good_list (s ∷ l) f = (f 0 s refl, good_list l (λ k t e. f (suc k) t e))

  good_this : (o : Option Slot) → ((s : Slot) → o ≡ some s → Good s) → ThisGood o
  good_this none f = tt
  good_this (some s) f = f s refl

  pub fine_of : (γ : Environment) → ((k : ℕ) (s : Slot) → at_slot γ k ≡ some s → Good s) → Fine γ
  fine_of γ f = record {
    this = good_this γ.this (λ s e. f 0 s e);
    slots = good_list γ.slots
        (λ k s e. f (suc k) s e);
  }

  good_at : (l : List Slot) → AllGood l → (k : ℕ) (s : Slot) → nth l k ≡ some s → Good s
  unfolding AllGood nth
  good_at [] g k s e = absurd (Never e)
  good_at (x ∷ l) g zero s e = subst Good (inj e) g.0
  good_at (x ∷ l) g (suc k) s e = good_at l g.1 k s e

  this_at : (o : Option Slot) → ThisGood o → (s : Slot) → o ≡ some s → Good s
  this_at none g s e = absurd (Never e)
  this_at (some x) g s e = subst Good (inj e) g

  pub fine_at : {γ : Environment} → Fine γ → (k : ℕ) (s : Slot) → at_slot γ k ≡ some s → Good s
  fine_at {γ} g zero s e = this_at γ.this g.this s e
  fine_at {γ} g (suc k) s e = good_at γ.slots g.slots k s e

  -- mapped, replaced, appended, cut
  good_map : (f : Slot → Slot) → ((s : Slot) → Good s → Good (f s)) → (l : List Slot) → AllGood l
      → AllGood (map f l)
  unfolding AllGood
  good_map f k [] g = tt
  good_map f k (s ∷ l) g = (k s g.0, good_map f k l g.1)

  this_map : (f : Slot → Slot) → ((s : Slot) → Good s → Good (f s)) → (o : Option Slot) → ThisGood o
      → ThisGood (map_option f o)
  this_map f k none g = tt
  this_map f k (some s) g = k s g

  pub fine_map : (f : Slot → Slot) → ((s : Slot) → Good s → Good (f s)) → {γ : Environment} → Fine γ
      → Fine (map_frame f γ)
  fine_map f k {γ} g =
      record { this = this_map f k γ.this g.this; slots = good_map f k γ.slots g.slots }

  good_set : (l : List Slot) (k : ℕ) (s : Slot) → AllGood l → Good s → AllGood (replaced l k s)
  unfolding AllGood
  good_set [] k s g h = tt
  good_set (x ∷ l) zero s g h = (h, g.1)
  good_set (x ∷ l) (suc k) s g h = (g.0, good_set l k s g.1 h)

  pub fine_with : {γ : Environment} (k : ℕ) (s : Slot) → Fine γ → Good s → Fine (with_slot γ k s)
  fine_with {γ} zero s g h = record { this = go γ.this; slots = g.slots }
    where
      go : (o : Option Slot) → ThisGood (map_option (λ b. s) o)
      go none = tt
      go (some x) = h
  fine_with {γ} (suc k) s g h = record { this = g.this; slots = good_set γ.slots k s g.slots h }

  good_append : (l m : List Slot) → AllGood l → AllGood m → AllGood (l ++ m)
  unfolding AllGood
  good_append [] m g h = h
  good_append (s ∷ l) m g h = (g.0, good_append l m g.1 h)

  pub fine_opened : {γ : Environment} (l : List Slot) → Fine γ → AllGood l → Fine (opened γ l)
  fine_opened {γ} l g h = record { this = g.this; slots = good_append γ.slots l g.slots h }

  good_take : (n : ℕ) (l : List Slot) → AllGood l → AllGood (take n l)
  unfolding AllGood
  good_take zero l g = tt
  good_take (suc n) [] g = tt
  good_take (suc n) (s ∷ l) g = (g.0, good_take n l g.1)

  pub fine_closed : {γ : Environment} (n : ℕ) → Fine γ → Fine (closed n γ)
  fine_closed {γ} n g = record { this = g.this; slots = good_take n γ.slots g.slots }

  -- joined
  module _ (k : (s t : Slot) → Good s → Good t → Good (join_slot W s t)) where
    good-join : (l m : List Slot) → AllGood l → AllGood m → AllGood (join_slots W l m)
    unfolding AllGood join_slots
    good-join [] m g h = tt
    good-join (s ∷ l) [] g h = tt
    good-join (s ∷ l) (t ∷ m) g h = (k s t g.0 h.0, good-join l m g.1 h.1)

    this-join : (o u : Option Slot) → ThisGood o → ThisGood u → ThisGood (join_this W o u)
    this-join none u g h = tt
    this-join (some s) none g h = tt
    this-join (some s) (some t) g h = k s t g h

    pub fine_join : {γ δ : Environment} → Fine γ → Fine δ → Fine (join_environments W γ δ)
    fine_join {γ} {δ} g h =
        record {
          this = this-join γ.this δ.this g.this h.this;
          slots = good-join γ.slots δ.slots g.slots h.slots;
        }

-- numbers of an environment with all slots changed
list_map : (W : World) (f : Slot → Slot) (g : ℕ → ℕ)
    → ((s : Slot) → Good W s → slot_number (f s) ≡ g (slot_number s))
    → (l : List Slot) → AllGood W l
    → map slot_number (map f l) ≡ map g (map slot_number l)
unfolding AllGood
list_map W f g k [] h = refl
list_map W f g k (s ∷ l) h = ap₂ (λ (x : ℕ) (xs : List ℕ). x ∷ xs) (k s h.0) (list_map W f g k l h.1)

pub numbers_map : (W : World) (f : Slot → Slot) (g : ℕ → ℕ)
    → g (slot_of absent absent) ≡ slot_of absent absent
    → ((s : Slot) → Good W s → slot_number (f s) ≡ g (slot_number s))
    → {γ : Environment} → Fine W γ → numbers (map_frame f γ) ≡ map g (numbers γ)
unfolding numbers
numbers_map W f g z k {γ} h =
    ap₂ (λ (x : ℕ) (xs : List ℕ). x ∷ xs) (go γ.this h.this) (list_map W f g k γ.slots h.slots)
  where
    go : (o : Option Slot) → ThisGood W o → this_number (map_option f o) ≡ g (this_number o)
    go none t = sym z
    go (some s) t = k s t

pub get_d_map : (g : ℕ → ℕ) (l : List ℕ) (i : ℕ) → i < length l → get_or (map g l) i 0 ≡ g (get_or l i 0)
get_d_map g [] i h = absurd (omega arith)
get_d_map g (x ∷ l) zero h = refl
get_d_map g (x ∷ l) (suc i) h = get_d_map g l i (omega arith)

-- with one slot changed
list_set : (l : List Slot) (k : ℕ) (s : Slot)
    → map slot_number (replaced l k s) ≡ replaced (map slot_number l) k (slot_number s)
list_set [] k s = refl
list_set (x ∷ l) zero s = refl
list_set (x ∷ l) (suc k) s = ap (λ (r : List ℕ). slot_number x ∷ r) (list_set l k s)

pub numbers_with : (γ : Environment) (k : ℕ) (s t : Slot) → at_slot γ k ≡ some t
    → numbers (with_slot γ k s) ≡ replaced (numbers γ) k (slot_number s)
unfolding numbers
numbers_with γ zero s t e =
    ap (λ (o : Option Slot). this_number (map_option (λ b. s) o) ∷ map slot_number γ.slots) e
numbers_with γ (suc k) s t e = ap (λ (r : List ℕ). this_number γ.this ∷ r) (list_set γ.slots k s)

pub at_map : (f : Slot → Slot) (γ : Environment) (k : ℕ) (s : Slot) → at_slot γ k ≡ some s
    → at_slot (map_frame f γ) k ≡ some (f s)
at_map f γ zero s e = ap (map_option f) e
at_map f γ (suc k) s e = Rattle.language.specs.Lists.nth_map f k γ.slots s e

-- opened and closed
list_append : (l m : List Slot) → map slot_number (l ++ m) ≡ map slot_number l ++ map slot_number m
list_append [] m = refl
list_append (x ∷ l) m = ap (λ (r : List ℕ). slot_number x ∷ r) (list_append l m)

-- the slot_number of a fresh slot
abbrev pub fresh_number : DeclaredType → ℕ
fresh_number t = slot_of (type_number t) (type_number t)

pub list_fresh : (ts : List DeclaredType) → map slot_number (map fresh_slot ts) ≡ map fresh_number ts
list_fresh [] = refl
list_fresh (t ∷ ts) = ap (λ (r : List ℕ). fresh_number t ∷ r) (list_fresh ts)

pub fresh_good : (W : World) (ts : List DeclaredType)
    → ((i : ℕ) (t : DeclaredType) → nth ts i ≡ some t → is_declared_type W t ≡ true)
    → AllGood W (map fresh_slot ts)
unfolding AllGood nth
fresh_good W [] f = tt
fresh_good W (t ∷ ts) f = ((f 0 t refl, f 0 t refl), fresh_good W ts (λ i u e. f (suc i) u e))

pub numbers_opened : (γ : Environment) (ts : List DeclaredType)
    → numbers (opened γ (map fresh_slot ts)) ≡ numbers γ ++ map fresh_number ts
unfolding numbers
numbers_opened γ ts =
    ap (λ (r : List ℕ). this_number γ.this ∷ r)
    (list_append γ.slots (map fresh_slot ts)
    ∙ ap (λ (r : List ℕ). map slot_number γ.slots ++ r) (list_fresh ts))

list_take : (n : ℕ) (l : List Slot) → map slot_number (take n l) ≡ take n (map slot_number l)
list_take zero l = refl
list_take (suc n) [] = refl
list_take (suc n) (x ∷ l) = ap (λ (r : List ℕ). slot_number x ∷ r) (list_take n l)

pub numbers_closed : (n : ℕ) (γ : Environment) → numbers (closed n γ) ≡ take (suc n) (numbers γ)
unfolding numbers
numbers_closed n γ = ap (λ (r : List ℕ). this_number γ.this ∷ r) (list_take n γ.slots)

pub numbers_length : (γ : Environment) → length (numbers γ) ≡ suc (length γ.slots)
unfolding numbers
numbers_length γ = ap suc (length-map γ.slots slot_number)

-- whether there is a `this`
abbrev pub has : Option Slot → Bool
has none = false
has (some s) = true

-- joined
module _ (W : World) (g : ℕ → ℕ → ℕ)
    (z : g (slot_of absent absent) (slot_of absent absent) ≡ slot_of absent absent)
    (k : (s t : Slot) → Good W s → Good W t
    → slot_number (join_slot W s t) ≡ g (slot_number s) (slot_number t)) where
  list_join : (l m : List Slot) → AllGood W l → AllGood W m → length l ≡ length m → (i : ℕ) → i < length l
      → get_or (map slot_number (join_slots W l m)) i 0
      ≡ g (get_or (map slot_number l) i 0) (get_or (map slot_number m) i 0)
  unfolding AllGood join_slots
  list_join [] m p q e i h = absurd (omega arith)
  list_join (s ∷ l) [] p q e i h = absurd (omega arith)
  list_join (s ∷ l) (t ∷ m) p q e zero h = k s t p.0 q.0
  list_join (s ∷ l) (t ∷ m) p q e (suc i) h = list_join l m p.1 q.1 (omega arith) i (omega arith)

  join_length : (l m : List Slot) → length l ≡ length m → length (join_slots W l m) ≡ length l
  unfolding join_slots
  join_length [] m e = refl
  join_length (s ∷ l) [] e = absurd (omega arith)
  join_length (s ∷ l) (t ∷ m) e = ap suc (join_length l m (omega arith))

  pub numbers_join : {γ δ : Environment} → Fine W γ → Fine W δ → length γ.slots ≡ length δ.slots
      → has γ.this ≡ has δ.this
      → (length (numbers (join_environments W γ δ)) ≡ suc (length γ.slots))
      × ((i : ℕ) → i < suc (length γ.slots)
      → get_or (numbers (join_environments W γ δ)) i 0 ≡ g (get_or (numbers γ) i 0) (get_or (numbers δ) i 0))
  unfolding numbers
  numbers_join {γ} {δ} p q e t = (
    ap suc (length-map (join_slots W γ.slots δ.slots) slot_number
        ∙ join_length γ.slots δ.slots e),
    λ i. go i,
  )
    where
      this : (o u : Option Slot) → has o ≡ has u → ThisGood W o → ThisGood W u
          → this_number (join_this W o u) ≡ g (this_number o) (this_number u)
      this none none t a b = sym z
      this none (some s) t a b = absurd (false≢true t)
      this (some s) none t a b = absurd (false≢true (sym t))
      this (some s) (some u) t a b = k s u a b

      go : (i : ℕ) → i < suc (length γ.slots)
          → get_or (numbers (join_environments W γ δ)) i 0 ≡ g (get_or (numbers γ) i 0) (get_or (numbers δ) i 0)
      go zero h = this γ.this δ.this t p.this q.this
      go (suc i) h = list_join γ.slots δ.slots p.slots q.slots e i (omega arith)
