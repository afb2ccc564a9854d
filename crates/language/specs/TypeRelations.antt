-- What typing says of types and slots, as relations (002, section 3.3 and Figures 20 and 21; document 01, "Bodies"):
-- when a type fits another, the join of two, and an effect applied.
-- Each place where document 01 departs from 002 is marked DEPARTS. DEPARTS throughout: null has a type of its own,
-- where 002 gives it every class.
use Rattle.std.specs.Prelude.{◌≡◌, ℕ, true, false, List, [], ◌∷◌}
use Rattle.std.proofs.Math.Option.{Option, none, some}
use Rattle.language.specs.Lists.{All2}
use Rattle.language.specs.Tree.{DeclaredType, bool, class, ExprType, known, null_type, Class}
use Rattle.language.specs.Effects.{member}
use Rattle.language.specs.Environment.{Slot, Environment, with_type}
use Rattle.language.specs.ClassRelations.{Subclass, Nearest, RootOf}

-- A class or null.
pub data NotBool : ExprType → Type 0 where
  class_not_bool : {c : ℕ} → NotBool (known (class c))
  null_not_bool : NotBool null_type

-- The last type of several. That of none is null's, which no program in form has: a block holds at least one expression.
pub data LastType : List ExprType → ExprType → Type 0 where
  last_none : LastType [] null_type
  last_one : {t : ExprType} → LastType (t ∷ []) t
  last_later : {t u v : ExprType} {ts : List ExprType} → LastType (u ∷ ts) v → LastType (t ∷ u ∷ ts) v

-- Nothing stands on either side, or one thing on each.
pub data Both {A B : Type 0} (R : A → B → Type 0) : Option A → Option B → Type 0 where
  both_none : Both R none none
  both_some : {a : A} {b : B} → R a b → Both R (some a) (some b)

module _ (P : List Class) where
  -- Figure 20, t ≤ u: u widens t. DEPARTS: null fits every class.
  pub data Widens : ExprType → DeclaredType → Type 0 where
    widens_bool : Widens (known bool) bool
    widens_class : {c d : ℕ} → Subclass P c d → Widens (known (class c)) (class d)
    widens_null : {d : ℕ} → Widens null_type (class d)

  -- Figure 21, t ⊔ u is v. DEPARTS: null with a class is the class.
  pub data Joins : ExprType → ExprType → ExprType → Type 0 where
    joins_bool : Joins (known bool) (known bool) (known bool)
    joins_class : {c d m : ℕ} → Nearest P c d m → Joins (known (class c)) (known (class d)) (known (class m))
    joins_null_right : {c : ℕ} → Joins (known (class c)) null_type (known (class c))
    joins_null_left : {d : ℕ} → Joins null_type (known (class d)) (known (class d))
    joins_nulls : Joins null_type null_type null_type

  -- Figure 21, γ ⊔ δ is ε: the current types of each slot join; the declared one stays.
  pub data JoinsSlot : Slot → Slot → Slot → Type 0 where
    joins_slot : {s u : Slot} {t : DeclaredType} → Joins (known s.current) (known u.current) (known t)
        → JoinsSlot s u (with_type t s)

  pub data JoinsSlots : List Slot → List Slot → List Slot → Type 0 where
    joins_nil : JoinsSlots [] [] []
    joins_cons : {s u v : Slot} {ss us vs : List Slot} → JoinsSlot s u v → JoinsSlots ss us vs
        → JoinsSlots (s ∷ ss) (u ∷ us) (v ∷ vs)

  pub data JoinsThis : Option Slot → Option Slot → Option Slot → Type 0 where
    joins_none : JoinsThis none none none
    joins_some : {s u v : Slot} → JoinsSlot s u v → JoinsThis (some s) (some u) (some v)

  pub record JoinsEnvironments (γ δ ε : Environment) : Type 0 where
    pub this : JoinsThis γ.this δ.this ε.this
    pub slots : JoinsSlots γ.slots δ.slots ε.slots

  -- Section 3.3.2, φ @ t is u: a class whose root is in the effect becomes that root, so that one which is its own root
  -- stays; any other type stays.
  pub data Applies (φ : ℕ) : DeclaredType → DeclaredType → Type 0 where
    applies_bool : Applies φ bool bool
    applies_root : {c r : ℕ} → RootOf P c r → member φ r ≡ true → Applies φ (class c) (class r)
    applies_stays : {c r : ℕ} → RootOf P c r → member φ r ≡ false → Applies φ (class c) (class c)

  -- Of the type of an expression.
  pub data AppliesExpr (φ : ℕ) : ExprType → ExprType → Type 0 where
    applies_known : {t u : DeclaredType} → Applies φ t u → AppliesExpr φ (known t) (known u)
    applies_null : AppliesExpr φ null_type null_type

  -- φ @ γ is δ: it is applied to the current type of each slot; the declared one stays.
  pub data AppliesSlot (φ : ℕ) : Slot → Slot → Type 0 where
    applies_slot : {s : Slot} {t : DeclaredType} → Applies φ s.current t → AppliesSlot φ s (with_type t s)

  pub record AppliesAll (φ : ℕ) (γ δ : Environment) : Type 0 where
    pub this : Both (AppliesSlot φ) γ.this δ.this
    pub slots : All2 (AppliesSlot φ) γ.slots δ.slots
