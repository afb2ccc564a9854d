-- What typing says of types and slots in the world of a program with a well-formed hierarchy: its functions give what the
-- relations of TypeRelations say. A function `f` and a relation `R`: `…-is` goes from R to f, `is-…` and `its-…` back.
use mathlib.Core.Path.{◌≡◌, refl, sym, ap, ap₂, subst}
use Prim.Native.Nat.{ℕ}
use mathlib.Core.Option.{Option, none, some}
use mathlib.Core.Bool.{Bool, true, false, cond}
use mathlib.Core.List.{List, [], ◌∷◌, map}
use lib.Dec.{eqb}
use borrow.Author.Tests.{eqb-true, eq-eqb}
use Rattle.language.specs.Lists.{Never, inj, All2, a_nil, a_cons, Each, each_nil, each_cons, map_option}
use Rattle.language.specs.Frames.{frame}
use Rattle.language.specs.Tree.{DeclaredType, bool, class, ExprType, known, null_type}
use Rattle.language.specs.Tree.{Field, Class}
use Rattle.language.specs.World.{World, field_type}
use Rattle.language.specs.Effects.{member, apply_class, apply, apply_expr}
use Rattle.language.specs.Program.{world, world_with}
use Rattle.language.specs.Environment.{Slot, Environment, with_type}
use Rattle.language.specs.Typing.{not_bool, last_type, fits, all_fit, join_types, join_currents, join_slot}
use Rattle.language.specs.Typing.{join_slots, join_this, join_environments, apply_slot, apply_all, can_change}
use Rattle.language.specs.ClassRelations.{Nearest, RootOf}
use Rattle.language.specs.ClassRelations.{TypeDeclared, Changeable}
use Rattle.language.specs.ClassRelations.{FieldAt, FieldsOf}
use Rattle.language.specs.TypeRelations.{NotBool, class_not_bool, null_not_bool, LastType, last_none}
use Rattle.language.specs.TypeRelations.{last_one}
use Rattle.language.specs.TypeRelations.{last_later, Both, both_none, both_some, Widens, widens_bool}
use Rattle.language.specs.TypeRelations.{widens_class, widens_null, Joins, joins_bool, joins_class}
use Rattle.language.specs.TypeRelations.{joins_null_right, joins_null_left, joins_nulls, JoinsSlot}
use Rattle.language.specs.TypeRelations.{joins_slot}
use Rattle.language.specs.TypeRelations.{JoinsSlots, joins_nil, joins_cons, JoinsThis, joins_none, joins_some}
use Rattle.language.specs.TypeRelations.{JoinsEnvironments, Applies, applies_bool, applies_root}
use Rattle.language.specs.TypeRelations.{applies_stays}
use Rattle.language.specs.TypeRelations.{AppliesExpr, applies_known, applies_null, AppliesSlot, applies_slot}
use Rattle.language.specs.TypeRelations.{AppliesAll}
use Rattle.language.proofs.Booleans.{false≢, and_inv}
use Rattle.theory.specs.ComputedRules.{Declared, declared_nil, declared_cons}
use Rattle.theory.proofs.typing.SlotSorts.{Sort, both_bool, both_class, SortS, SortThis, sort_none}
use Rattle.theory.proofs.typing.SlotSorts.{sort_some}
use Rattle.theory.proofs.typing.SlotSorts.{SortFrame}
use Rattle.theory.proofs.lookups.Superclasses.{Hierarchy, subclass_test, test_subclass, nearest_least}
use Rattle.theory.proofs.lookups.Superclasses.{root_is}
use Rattle.theory.proofs.lookups.Superclasses.{root_one, nearest_one, same_root_changes}
use Rattle.theory.proofs.lookups.LookupsAgree.{field_is, declared_is, changeable_is, is_change}
use Rattle.theory.proofs.lookups.LookupsAgree.{fields_told}

class_injective : {c d : ℕ} → class c ≡ class d → c ≡ d
class_injective e = cc

pub not_bool_is : {t : ExprType} → NotBool t → not_bool t ≡ true
not_bool_is class_not_bool = refl
not_bool_is null_not_bool = refl

pub is_not_bool : (t : ExprType) → not_bool t ≡ true → NotBool t
is_not_bool (known bool) e = false≢ e
is_not_bool (known (class c)) e = class_not_bool
is_not_bool null_type e = null_not_bool

pub last_is : {ts : List ExprType} {t : ExprType} → LastType ts t → last_type null_type ts ≡ t
last_is last_none = refl
last_is last_one = refl
last_is (last_later l) = last_is l

pub its_last : (ts : List ExprType) → LastType ts (last_type null_type ts)
its_last [] = last_none
its_last (t ∷ []) = last_one
its_last (t ∷ u ∷ ts) = last_later (its_last (u ∷ ts))

pub stated_types : (P : List Class) {ts : List DeclaredType} → Declared (world P) ts
    → Each (TypeDeclared P) ts
stated_types P declared_nil = each_nil
stated_types P (declared_cons {t} e d) = each_cons ((declared_is P t).0 e) (stated_types P d)

pub computed_types : (P : List Class) {ts : List DeclaredType} → Each (TypeDeclared P) ts
    → Declared (world P) ts
computed_types P each_nil = declared_nil
computed_types P (each_cons {a} d ds) = declared_cons ((declared_is P a).1 d) (computed_types P ds)

module _ (P : List Class) (𝓗 : Hierarchy P) where
  abbrev W : World
  W = world P

  -- ---- effects

  pub root_found : (c : ℕ) → RootOf P c (W.root c)
  unfolding world world_with
  root_found c = root_is P 𝓗.earlier c

  pub root_told : {c r : ℕ} → RootOf P c r → W.root c ≡ r
  root_told {c} x = root_one P 𝓗.earlier (root_found c) x

  applies_is : {φ : ℕ} {t u : DeclaredType} → Applies P φ t u → apply W φ t ≡ u
  unfolding apply_class
  applies_is applies_bool = refl
  applies_is (applies_root x m) = rw (root_told x, m)
  applies_is (applies_stays x m) = rw (root_told x, m)

  pub its_applied : (φ : ℕ) (t : DeclaredType) → Applies P φ t (apply W φ t)
  unfolding apply_class
  its_applied φ bool = applies_bool
  its_applied φ (class c) = go (member φ (W.root c)) refl
    where
      go : (b : Bool) → member φ (W.root c) ≡ b → Applies P φ (class c) (class (cond b (W.root c) c))
      go true e = applies_root (root_found c) e
      go false e = applies_stays (root_found c) e

  pub applies_expr_is : {φ : ℕ} {t u : ExprType} → AppliesExpr P φ t u → apply_expr W φ t ≡ u
  applies_expr_is (applies_known x) = ap known (applies_is x)
  applies_expr_is applies_null = refl

  pub its_applied_expr : (φ : ℕ) (t : ExprType) → AppliesExpr P φ t (apply_expr W φ t)
  its_applied_expr φ (known t) = applies_known (its_applied φ t)
  its_applied_expr φ null_type = applies_null

  applies_slot_is : {φ : ℕ} {s u : Slot} → AppliesSlot P φ s u → apply_slot W φ s ≡ u
  applies_slot_is {s} (applies_slot x) = ap (λ (t : DeclaredType). with_type t s) (applies_is x)

  applies_slots_is : {φ : ℕ} {ss us : List Slot} → All2 (AppliesSlot P φ) ss us → map (apply_slot W φ) ss ≡ us
  applies_slots_is a_nil = refl
  applies_slots_is (a_cons x xs) =
      ap₂ (λ (s : Slot) (ss : List Slot). s ∷ ss) (applies_slot_is x) (applies_slots_is xs)

  applies_this_is : {φ : ℕ} {s u : Option Slot} → Both (AppliesSlot P φ) s u
      → map_option (apply_slot W φ) s ≡ u
  applies_this_is both_none = refl
  applies_this_is (both_some x) = ap some (applies_slot_is x)

  pub applies_all_is : {φ : ℕ} {γ δ : Environment} → AppliesAll P φ γ δ → apply_all W φ γ ≡ δ
  applies_all_is x = ap₂ (λ (t : Option Slot) (l : List Slot). frame t l) (applies_this_is x.this)
      (applies_slots_is x.slots)

  its_applied_slots : (φ : ℕ) (ss : List Slot) → All2 (AppliesSlot P φ) ss (map (apply_slot W φ) ss)
  its_applied_slots φ [] = a_nil
  its_applied_slots φ (s ∷ ss) = a_cons (applies_slot (its_applied φ s.current)) (its_applied_slots φ ss)

  its_applied_this : (φ : ℕ) (s : Option Slot) → Both (AppliesSlot P φ) s (map_option (apply_slot W φ) s)
  its_applied_this φ none = both_none
  its_applied_this φ (some s) = both_some (applies_slot (its_applied φ s.current))

  pub its_applied_all : (φ : ℕ) (γ : Environment) → AppliesAll P φ γ (apply_all W φ γ)
  its_applied_all φ γ =
      record { this = its_applied_this φ γ.this; slots = its_applied_slots φ γ.slots }

  -- ---- fits

  pub widens_is : {t : ExprType} {u : DeclaredType} → Widens P t u → fits W t u ≡ true
  unfolding world world_with
  widens_is widens_bool = refl
  widens_is (widens_class s) = subclass_test P 𝓗.earlier s
  widens_is widens_null = refl

  pub is_widens : (t : ExprType) (u : DeclaredType) → fits W t u ≡ true → Widens P t u
  unfolding world world_with
  is_widens (known bool) bool e = widens_bool
  is_widens (known bool) (class d) e = false≢ e
  is_widens (known (class c)) bool e = false≢ e
  is_widens (known (class c)) (class d) e = widens_class (test_subclass P 𝓗.earlier e)
  is_widens null_type bool e = false≢ e
  is_widens null_type (class d) e = widens_null

  pub widen_is : {ts : List ExprType} {us : List DeclaredType} → All2 (Widens P) ts us
      → all_fit W ts us ≡ true
  unfolding all_fit
  widen_is a_nil = refl
  widen_is (a_cons x xs) = rw (widens_is x, widen_is xs)

  pub is_widen : (ts : List ExprType) (us : List DeclaredType) → all_fit W ts us ≡ true
      → All2 (Widens P) ts us
  unfolding all_fit
  is_widen [] [] e = a_nil
  is_widen [] (u ∷ us) e = false≢ e
  is_widen (t ∷ ts) [] e = false≢ e
  is_widen (t ∷ ts) (u ∷ us) e = let p = and_inv (fits W t u) (all_fit W ts us) e in
      a_cons (is_widens t u p.0) (is_widen ts us p.1)

  -- ---- joins

  nearest_found : (c d : ℕ) → Nearest P c d (W.nearest c d)
  unfolding world world_with
  nearest_found c d = nearest_least P 𝓗.earlier c d

  nearest_told : {c d m : ℕ} → Nearest P c d m → W.nearest c d ≡ m
  nearest_told {c} {d} x = nearest_one P 𝓗.earlier (nearest_found c d) x

  pub joins_is : {t u v : ExprType} → Joins P t u v → join_types W t u ≡ some v
  joins_is joins_bool = refl
  joins_is (joins_class x) = rw (nearest_told x)
  joins_is joins_null_right = refl
  joins_is joins_null_left = refl
  joins_is joins_nulls = refl

  pub is_joins : (t u v : ExprType) → join_types W t u ≡ some v → Joins P t u v
  is_joins (known bool) (known bool) v e = rw (← inj e) joins_bool
  is_joins (known bool) (known (class d)) v e = absurd (Never e)
  is_joins (known bool) null_type v e = absurd (Never e)
  is_joins (known (class c)) (known bool) v e = absurd (Never e)
  is_joins (known (class c)) (known (class d)) v e = rw (← inj e) (joins_class (nearest_found c d))
  is_joins (known (class c)) null_type v e = rw (← inj e) joins_null_right
  is_joins null_type (known bool) v e = absurd (Never e)
  is_joins null_type (known (class d)) v e = rw (← inj e) joins_null_left
  is_joins null_type null_type v e = rw (← inj e) joins_nulls

  currents_is : {a b t : DeclaredType} → Joins P (known a) (known b) (known t) → join_currents W a b ≡ t
  currents_is joins_bool = refl
  currents_is (joins_class x) = ap class (nearest_told x)

  is_currents : {x a b : DeclaredType} → Sort x a → Sort x b
      → Joins P (known a) (known b) (known (join_currents W a b))
  is_currents both_bool both_bool = joins_bool
  is_currents (both_class {d = c}) (both_class {d}) = joins_class (nearest_found c d)

  joins_slot_is : {s u v : Slot} → JoinsSlot P s u v → join_slot W s u ≡ v
  joins_slot_is {s} (joins_slot j) = ap (λ (t : DeclaredType). with_type t s) (currents_is j)

  joins_slots_are : {ss us vs : List Slot} → JoinsSlots P ss us vs → join_slots W ss us ≡ vs
  unfolding join_slots
  joins_slots_are joins_nil = refl
  joins_slots_are (joins_cons j js) =
      ap₂ (λ (s : Slot) (ss : List Slot). s ∷ ss) (joins_slot_is j) (joins_slots_are js)

  joins_this_is : {s u v : Option Slot} → JoinsThis P s u v → join_this W s u ≡ v
  joins_this_is joins_none = refl
  joins_this_is (joins_some j) = ap some (joins_slot_is j)

  pub joins_environments_are : {γ δ ε : Environment} → JoinsEnvironments P γ δ ε → join_environments W γ δ ≡ ε
  joins_environments_are j = ap₂ (λ (t : Option Slot) (l : List Slot). frame t l) (joins_this_is j.this)
      (joins_slots_are j.slots)

  are_slots : {a b c : List Slot} → All2 SortS a b → All2 SortS a c → JoinsSlots P b c (join_slots W b c)
  unfolding join_slots
  are_slots a_nil a_nil = joins_nil
  are_slots (a_cons p ps) (a_cons q qs) = joins_cons (joins_slot (is_currents p q)) (are_slots ps qs)

  is_this : {a b c : Option Slot} → SortThis a b → SortThis a c → JoinsThis P b c (join_this W b c)
  is_this sort_none sort_none = joins_none
  is_this (sort_some p) (sort_some q) = joins_some (joins_slot (is_currents p q))

  pub are_environments : {γ δ ε : Environment} → SortFrame γ δ → SortFrame γ ε
      → JoinsEnvironments P δ ε (join_environments W δ ε)
  are_environments p q =
      record { this = is_this p.this q.this; slots = are_slots p.slots q.slots }

  -- ---- changes of class

  pub can_change_is : {c d r : ℕ} → Changeable P d → RootOf P c r → RootOf P d r → can_change W c d ≡ true
  unfolding can_change world world_with
  can_change_is {c} {d} {r} x p q = rw (
    changeable_is P (same_root_changes P 𝓗.earlier 𝓗.kinds x p q),
    changeable_is P x,
    root_told p,
    root_told q,
  ) (eq-eqb r r refl)

  pub is_can_change : (c d : ℕ) → can_change W c d ≡ true → Changeable P d × RootOf P c (W.root d)
  unfolding can_change world world_with
  is_can_change c d e = let p = and_inv (W.changeable c) _ e in
      let q = and_inv (W.changeable d) (eqb (W.root c) (W.root d)) p.1 in
      (is_change P d q.0, subst (RootOf P c) (eqb-true (W.root c) (W.root d) q.1) (root_found c))

  -- ---- fields

  pub field_told : {f c i : ℕ} {fs : List Field} {t : DeclaredType} → FieldsOf P c fs → FieldAt f fs i t
      → field_type f (W.fields c) ≡ some t
  field_told {f} {t} x y =
      subst (λ (l : List Field). field_type f l ≡ some t) (sym (fields_told P 𝓗.earlier x)) (field_is y)

  pub applied_class : {φ c d : ℕ} → Applies P φ (class c) (class d) → apply_class W φ c ≡ d
  applied_class a = class_injective (applies_is a)
