-- When heap and slots of a plain run match those of its source run: the j-th object against the j-th
-- Identity, variables in their places, temporaries between them. What each step of a run keeps of that.
use mathlib.Core.Path.{◌≡◌, refl, sym, ap, ◌∙◌}
use Prim.Native.Nat.{ℕ, zero, suc, ◌+◌, ◌<◌}
use native.Mathlib.Nat.{add-zero}
use mathlib.Core.Option.{Option, none, some}
use mathlib.Core.Bool.{Bool, true, false, cond}
use mathlib.Core.List.{List, [], ◌∷◌, ◌++◌, map, append-nil}
use lib.ListN.{length, take, set as replace}
use lib.Dec.{eqb, eqb-suc-suc, eqb-suc-zero}
use native.Mathlib.Omega.{arith}
use Rattle.language.specs.Limits.{identity_class}
use Rattle.language.specs.Lists.{nth, choice, Never, inj, All2, all2_mono}
use Rattle.language.specs.Frames.{Frame}
use Rattle.language.specs.World.{World, is_declared}
use Rattle.language.specs.State.{Value, object, Object}
use Rattle.language.specs.Translation.{Shape, position}
use Rattle.language.specs.Correspondence.{identities, Corresponds, both_null, same_truth, in_place}
use Rattle.language.specs.Correspondence.{implementor_of, Matches}

-- An object is an Identity.
abbrev pub is_identity : Object → Bool
is_identity o = eqb o.class_of identity_class

-- The Identities of a heap where one object takes another's place, and of a heap with one more object.
pub identities_set : (n : ℕ) (h : List Object) (i : ℕ) (o o' : Object) → nth h i ≡ some o
    → is_identity o ≡ is_identity o' → identities n (replace h i o') ≡ identities n h
unfolding identities nth
identities_set n [] i o o' e f = refl
identities_set n (x ∷ h) zero o o' e f = rw (← f, ap (λ (y : Object). eqb y.class_of 1) (sym (inj e)))
identities_set n (x ∷ h) (suc i) o o' e f = rw (identities_set (suc n) h i o o' e f)

pub identities_append : (n : ℕ) (h : List Object) (o : Object)
    → identities n (h ++ (o ∷ [])) ≡ identities n h ++ cond (is_identity o) ((n + length h) ∷ []) []
unfolding identities
identities_append n [] o = rw (add-zero n) (one (is_identity o))
  where
    one : (b : Bool) → ◌≡◌ {A = List ℕ} (choice b (λ _. n ∷ []) (λ _. [])) (cond b (n ∷ []) [])
    one true = refl
    one false = refl
identities_append n (x ∷ h) o = let e : suc n + length h ≡ n + suc (length h) = omega arith in
    rw (identities_append (suc n) h o, e) (two (is_identity x))
  where
    two : (b : Bool) → ◌≡◌ {A = List ℕ}
        (choice b (λ _. n ∷ (identities (suc n) h ++ cond (is_identity o) ((n + suc (length h)) ∷ []) []))
        (λ _. identities (suc n) h ++ cond (is_identity o) ((n + suc (length h)) ∷ []) []))
        (choice b (λ _. n ∷ identities (suc n) h) (λ _. identities (suc n) h)
        ++ cond (is_identity o) ((n + suc (length h)) ∷ []) [])
    two true = refl
    two false = refl

-- An implementor is no Identity, and adds none.
pub not_identity : (c : ℕ) → eqb (suc (suc c)) identity_class ≡ false
not_identity c = eqb-suc-suc (suc c) 0 ∙ eqb-suc-zero c

pub identities_implementor : (n : ℕ) (h : List Object) (c i : ℕ) (vs : List Value)
    → identities n (h ++ (implementor_of c i vs ∷ [])) ≡ identities n h
identities_implementor n h c i vs =
    identities_append n h (implementor_of c i vs) ∙ rw (not_identity c) (append-nil (identities n h))

-- Object m is an implementor, of now or of before, of the Identity i.
pub record Implements (W : World) (h' : List Object) (m i : ℕ) : Type 0 where
  pub c : ℕ
  pub vs : List Value
  pub here : nth h' m ≡ some (implementor_of c i vs)
  pub known : is_declared W c ≡ true

-- Heaps match: each object matches the Identity made in its place, and is of a declared class.
pub record HeapsMatch (W : World) (ids : List ℕ) (h h' : List Object) : Type 0 where
  pub each : (j : ℕ) (o : Object) → nth h j ≡ some o → Matches ids h' j o
  pub known : (j : ℕ) (o : Object) → nth h j ≡ some o → is_declared W o.class_of ≡ true
  pub one : (j k i : ℕ) → nth ids j ≡ some i → nth ids k ≡ some i → j ≡ k
  pub bound : (j i : ℕ) → nth ids j ≡ some i → i < length h'
  pub long : length ids ≡ length h
  pub made : ids ≡ identities 0 h'

-- What stays from one moment to a later one.
pub record Persists (W : World) (ids ids' : List ℕ) (h' h'' : List Object) : Type 0 where
  pub same : (j i : ℕ) → nth ids j ≡ some i → nth ids' j ≡ some i
  pub keeps : (m i : ℕ) → Implements W h' m i → Implements W h'' m i

-- Nothing happened; one thing after another.
pub persists_same : {W : World} {ids : List ℕ} {h : List Object} → Persists W ids ids h h
persists_same = record { same = λ j i e. e; keeps = λ m i e. e }

pub persists_trans : {W : World} {a b c : List ℕ} {h h' h'' : List Object} → Persists W a b h h'
    → Persists W b c h' h'' → Persists W a c h h''
persists_trans f g = record
    { same = λ j i e. g.same j i (f.same j i e); keeps = λ m i e. g.keeps m i (f.keeps m i e) }

-- Values that correspond still do later.
pub corresponds_later : {W : World} {ids ids' : List ℕ} {h h' : List Object} {v w : Value}
    → Persists W ids ids' h h'
    → Corresponds ids v w → Corresponds ids' v w
corresponds_later x both_null = both_null
corresponds_later x same_truth = same_truth
corresponds_later x (in_place e) = in_place (x.same _ _ e)

pub all_correspond_later : {W : World} {ids ids' : List ℕ} {h h' : List Object} {l l' : List Value}
    → Persists W ids ids' h h' → All2 (Corresponds ids) l l' → All2 (Corresponds ids') l l'
all_correspond_later x rs = all2_mono (λ a b r. corresponds_later x r) rs

-- For each slot of the plain program after slot 0: nothing for a variable, its value for a temporary.
abbrev pub Mask : Type 0
Mask = List (Option Value)

-- Slots match: variables correspond in their places, temporaries have the mask's values.
pub data SlotsMatch (ids : List ℕ) : Shape → Mask → List Value → List Value → Type 0 where
  no_slots : SlotsMatch ids [] [] [] []
  variable : {sh : Shape} {μ : Mask} {l l' : List Value} {v v' : Value} → Corresponds ids v v'
      → SlotsMatch ids sh μ l l' → SlotsMatch ids (true ∷ sh) (none ∷ μ) (v ∷ l) (v' ∷ l')
  temporary : {sh : Shape} {μ : Mask} {l l' : List Value} {w : Value} → SlotsMatch ids sh μ l l'
      → SlotsMatch ids (false ∷ sh) (some w ∷ μ) l (w ∷ l')

module _ {ids : List ℕ} where
  -- A variable's value corresponds to what stands in its place.
  pub slots_at : {sh : Shape} {μ : Mask} {l l' : List Value} → SlotsMatch ids sh μ l l' → (k : ℕ) (v : Value)
      → nth l k ≡ some v → (v' : Value) × (nth l' (position sh k) ≡ some v') × Corresponds ids v v'
  unfolding nth position
  slots_at no_slots k v e = absurd (Never e)
  slots_at (variable {v'} r rs) zero v e = (v', refl, rw (inj e) at r)
  slots_at (variable r rs) (suc k) v e = slots_at rs k v e
  slots_at (temporary rs) k v e = slots_at rs k v e

  -- A variable set on both sides.
  pub slots_set : {sh : Shape} {μ : Mask} {l l' : List Value} → SlotsMatch ids sh μ l l'
      → (k : ℕ) (v v' : Value)
      → Corresponds ids v v' → SlotsMatch ids sh μ (replace l k v) (replace l' (position sh k) v')
  unfolding position
  slots_set no_slots k v v' r = no_slots
  slots_set (variable r rs) zero v v' q = variable q rs
  slots_set (variable r rs) (suc k) v v' q = variable r (slots_set rs k v v' q)
  slots_set (temporary rs) k v v' q = temporary (slots_set rs k v v' q)

  -- Shape, mask and the plain program's slots are equally long.
  pub mask_length : {sh : Shape} {μ : Mask} {l l' : List Value} → SlotsMatch ids sh μ l l'
      → length μ ≡ length sh
  mask_length no_slots = refl
  mask_length (variable r rs) = ap suc (mask_length rs)
  mask_length (temporary rs) = ap suc (mask_length rs)

  pub slots_length : {sh : Shape} {μ : Mask} {l l' : List Value} → SlotsMatch ids sh μ l l'
      → length l' ≡ length sh
  slots_length no_slots = refl
  slots_length (variable r rs) = ap suc (slots_length rs)
  slots_length (temporary rs) = ap suc (slots_length rs)

  -- More slots are opened on both sides.
  pub slots_append : {sh sh₂ : Shape} {μ μ₂ : Mask} {l l' l₂ l₂' : List Value} → SlotsMatch ids sh μ l l'
      → SlotsMatch ids sh₂ μ₂ l₂ l₂' → SlotsMatch ids (sh ++ sh₂) (μ ++ μ₂) (l ++ l₂) (l' ++ l₂')
  slots_append no_slots q = q
  slots_append (variable r rs) q = variable r (slots_append rs q)
  slots_append (temporary rs) q = temporary (slots_append rs q)

  -- Temporaries only are opened.
  pub slots_temporaries : {sh sh₂ : Shape} {μ μ₂ : Mask} {l l' l₂' : List Value} → SlotsMatch ids sh μ l l'
      → SlotsMatch ids sh₂ μ₂ [] l₂' → SlotsMatch ids (sh ++ sh₂) (μ ++ μ₂) l (l' ++ l₂')
  slots_temporaries no_slots q = q
  slots_temporaries (variable r rs) q = variable r (slots_temporaries rs q)
  slots_temporaries (temporary rs) q = temporary (slots_temporaries rs q)

  -- A temporary, read and written.
  pub temporary_at : {sh : Shape} {μ : Mask} {l l' : List Value} → SlotsMatch ids sh μ l l'
      → (p : ℕ) (w : Value)
      → nth μ p ≡ some (some w) → nth l' p ≡ some w
  unfolding nth
  temporary_at no_slots p w e = absurd (Never e)
  temporary_at (variable r rs) zero w e = absurd (Never (inj e))
  temporary_at (variable r rs) (suc p) w e = temporary_at rs p w e
  temporary_at (temporary rs) zero w e = inj e
  temporary_at (temporary rs) (suc p) w e = temporary_at rs p w e

  pub temporary_set : {sh : Shape} {μ : Mask} {l l' : List Value} → SlotsMatch ids sh μ l l'
      → (p : ℕ) (w w' : Value)
      → nth μ p ≡ some (some w) → SlotsMatch ids sh (replace μ p (some w')) l (replace l' p w')
  unfolding nth
  temporary_set no_slots p w w' e = no_slots
  temporary_set (variable r rs) zero w w' e = absurd (Never (inj e))
  temporary_set (variable r rs) (suc p) w w' e = variable r (temporary_set rs p w w' e)
  temporary_set (temporary rs) zero w w' e = temporary rs
  temporary_set (temporary rs) (suc p) w w' e = temporary (temporary_set rs p w w' e)

  -- A block is left.
  pub slots_close : {ids₀ : List ℕ} {sh : Shape} (sh₂ : Shape) {μ : Mask} (μ₂ : Mask)
      {l₀ l₀' l l' : List Value}
      → SlotsMatch ids₀ sh μ l₀ l₀' → SlotsMatch ids (sh ++ sh₂) (μ ++ μ₂) l l'
      → SlotsMatch ids sh μ (take (length l₀) l) (take (length l₀') l')
  slots_close sh₂ μ₂ no_slots q = no_slots
  slots_close sh₂ μ₂ (variable r rs) (variable r' q) = variable r' (slots_close sh₂ μ₂ rs q)
  slots_close sh₂ μ₂ (temporary rs) (temporary q) = temporary (slots_close sh₂ μ₂ rs q)

  -- A block of temporaries is left.
  pub temporaries_close : {ids₀ : List ℕ} {sh : Shape} (sh₂ : Shape) {μ : Mask} (μ₂ : Mask)
      {l₀ l₀' l l' : List Value} → ((l l' : List Value) → SlotsMatch ids sh₂ μ₂ l l' → l ≡ [])
      → SlotsMatch ids₀ sh μ l₀ l₀' → SlotsMatch ids (sh ++ sh₂) (μ ++ μ₂) l l'
      → SlotsMatch ids sh μ l (take (length l₀') l')
  temporaries_close sh₂ μ₂ f no_slots q = rw (f _ _ q) no_slots
  temporaries_close sh₂ μ₂ f (variable r rs) (variable r' q) = variable r' (temporaries_close sh₂ μ₂ f rs q)
  temporaries_close sh₂ μ₂ f (temporary rs) (temporary q) = temporary (temporaries_close sh₂ μ₂ f rs q)

  -- Temporaries stand for no variable of the source.
  pub temporaries_only : {A : Type 0} (ts : List A) (μ₂ : Mask) (l l' : List Value)
      → SlotsMatch ids (map (λ t. false) ts) μ₂ l l' → l ≡ []
  temporaries_only [] μ₂ l l' no_slots = refl
  temporaries_only (t ∷ ts) μ₂ l l' (temporary q) = temporaries_only ts _ _ _ q

-- Slots that match still do later.
pub slots_later : {W : World} {ids ids' : List ℕ} {h h' : List Object} {sh : Shape} {μ : Mask}
    {l l' : List Value}
    → Persists W ids ids' h h' → SlotsMatch ids sh μ l l' → SlotsMatch ids' sh μ l l'
slots_later x no_slots = no_slots
slots_later x (variable r rs) = variable (corresponds_later x r) (slots_later x rs)
slots_later x (temporary rs) = temporary (slots_later x rs)

-- `this`: in the plain program an implementor of its Identity; a start block has none on either side.
pub data ThisMatches (W : World) (ids : List ℕ) (h' : List Object) : Option Value → Option Value
    → Type 0 where
  no_this : ThisMatches W ids h' none none
  this_implements : {j i m : ℕ} → nth ids j ≡ some i → Implements W h' m i
      → ThisMatches W ids h' (some (object j)) (some (object m))

-- `this` still matches later.
pub this_later : {W : World} {ids ids' : List ℕ} {h h' : List Object} {v w : Option Value}
    → Persists W ids ids' h h'
    → ThisMatches W ids h v w → ThisMatches W ids' h' v w
this_later x no_this = no_this
this_later x (this_implements e f) = this_implements (x.same _ _ e) (x.keeps _ _ f)

-- Frames match: `this` and the other slots.
pub record FramesMatch (W : World) (ids : List ℕ) (h' : List Object) (sh : Shape) (μ : Mask)
    (f f' : Frame Value) : Type 0 where
  pub this : ThisMatches W ids h' f.this f'.this
  pub slots : SlotsMatch ids sh μ f.slots f'.slots

-- Frames that match still do later.
pub frames_later : {W : World} {ids ids' : List ℕ} {h h' : List Object} {sh : Shape} {μ : Mask}
    {f f' : Frame Value}
    → Persists W ids ids' h h' → FramesMatch W ids h sh μ f f' → FramesMatch W ids' h' sh μ f f'
frames_later x F = record { this = this_later x F.this; slots = slots_later x F.slots }
