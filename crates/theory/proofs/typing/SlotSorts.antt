-- A slot keeps its sort, bool or class, while an expression is typed; so what fits the frame of either arm of
-- a choice fits the join of the two.
use mathlib.Core.Path.{◌≡◌, refl}
use Prim.Native.Nat.{ℕ, zero, suc}
use mathlib.Core.Option.{Option, none, some}
use mathlib.Core.List.{List, [], ◌∷◌}
use lib.ListN.{length}
use lib.Seq.{take-append_seam}
use Rattle.language.specs.Lists.{map_option, Never, inj, All2, a_nil, a_cons, all2_set_right, all2_take}
use Rattle.language.specs.Lists.{all2_map}
use Rattle.language.specs.Frames.{Frame, at_slot, with_slot}
use Rattle.language.specs.Tree.{DeclaredType, bool, class, ExprType, known, null_type, Expr, literal}
use Rattle.language.specs.Tree.{slot, is_null, get, cast, new, change, assign}
use Rattle.language.specs.Tree.{set, call, choose, block, Exprs, nil, cons}
use Rattle.language.specs.World.{World}
use Rattle.language.specs.Effects.{effect_of, apply}
use Rattle.language.specs.Environment.{Slot, Environment, with_type}
use Rattle.language.specs.Typing.{join_types, join_currents, join_slots}
use Rattle.language.specs.Typing.{join_this, join_environments, apply_slot, apply_all}
use Rattle.theory.specs.ComputedRules.{HasType, HaveTypes, type_literal, type_slot, type_new}
use Rattle.theory.specs.ComputedRules.{type_cast, type_get, type_set, type_assign, type_is_null}
use Rattle.theory.specs.ComputedRules.{type_call}
use Rattle.theory.specs.ComputedRules.{type_choose, type_block, type_change, types_nil, types_cons}
use Rattle.language.specs.State.{Value, Object}
use Rattle.theory.proofs.soundness.Fitting.{Fits, FitsSlot, FitsThis, this_none, this_some, FitsFrame}
use Rattle.theory.proofs.soundness.Fitting.{Laws}
use Rattle.theory.proofs.soundness.Fitting.{fits_sub}

-- slots keep their sort
pub data Sort : DeclaredType → DeclaredType → Type 0 where
  both_bool : Sort bool bool
  both_class : {c d : ℕ} → Sort (class c) (class d)

abbrev pub SortS : Slot → Slot → Type 0
SortS s u = Sort s.current u.current

pub data SortThis : Option Slot → Option Slot → Type 0 where
  sort_none : SortThis none none
  sort_some : {s u : Slot} → SortS s u → SortThis (some s) (some u)

pub record SortFrame (γ δ : Environment) : Type 0 where
  pub this : SortThis γ.this δ.this
  pub slots : All2 SortS γ.slots δ.slots

sort_refl : (t : DeclaredType) → Sort t t
sort_refl bool = both_bool
sort_refl (class c) = both_class

sort_trans : {t u w : DeclaredType} → Sort t u → Sort u w → Sort t w
sort_trans both_bool both_bool = both_bool
sort_trans both_class both_class = both_class

slots_refl : (l : List Slot) → All2 SortS l l
slots_refl [] = a_nil
slots_refl (s ∷ l) = a_cons (sort_refl s.current) (slots_refl l)

slots_trans : {a b c : List Slot} → All2 SortS a b → All2 SortS b c → All2 SortS a c
slots_trans a_nil a_nil = a_nil
slots_trans (a_cons p ps) (a_cons q qs) = a_cons (sort_trans p q) (slots_trans ps qs)

this_refl : (o : Option Slot) → SortThis o o
this_refl none = sort_none
this_refl (some s) = sort_some (sort_refl s.current)

this_trans : {a b c : Option Slot} → SortThis a b → SortThis b c → SortThis a c
this_trans sort_none sort_none = sort_none
this_trans (sort_some p) (sort_some q) = sort_some (sort_trans p q)

frames_refl : (γ : Environment) → SortFrame γ γ
frames_refl γ = record { this = this_refl γ.this; slots = slots_refl γ.slots }

frames_trans : {γ δ ε : Environment} → SortFrame γ δ → SortFrame δ ε → SortFrame γ ε
frames_trans p q = record {
  this = this_trans p.this q.this;
  slots = slots_trans p.slots
      q.slots;
}

this_class : {o u : Option Slot} (s w : Slot) → SortThis o u → o ≡ some s → SortS s w
    → SortThis o (map_option (λ b. w) u)
this_class s w sort_none e p = absurd (Never e)
this_class s w (sort_some q) e p = sort_some (rw (← inj e) at p)

frames_set : {γ δ : Environment} (k : ℕ) (s w : Slot) → SortFrame γ δ → at_slot γ k ≡ some s → SortS s w
    → SortFrame γ (with_slot δ k w)
frames_set zero s w p e q = record { this = this_class s w p.this e q; slots = p.slots }
frames_set (suc k) s w p e q = record { this = p.this; slots = all2_set_right p.slots k s w e q }

module _ (W : World) where
  sort_apply : {t u : DeclaredType} (φ : ℕ) → Sort t u → Sort t (apply W φ u)
  sort_apply φ both_bool = both_bool
  sort_apply φ both_class = both_class

  sort_join : {t u w : DeclaredType} → Sort t u → Sort t w → Sort t (join_currents W u w)
  sort_join both_bool both_bool = both_bool
  sort_join both_class both_class = both_class

  slots_join : {a b c : List Slot} → All2 SortS a b → All2 SortS a c → All2 SortS a (join_slots W b c)
  unfolding join_slots
  slots_join a_nil a_nil = a_nil
  slots_join (a_cons p ps) (a_cons q qs) = a_cons (sort_join p q) (slots_join ps qs)

  this_join : {a b c : Option Slot} → SortThis a b → SortThis a c → SortThis a (join_this W b c)
  this_join sort_none sort_none = sort_none
  this_join (sort_some p) (sort_some q) = sort_some (sort_join p q)

  this_apply : {a b : Option Slot} (φ : ℕ) → SortThis a b → SortThis a (map_option (apply_slot W φ) b)
  this_apply φ sort_none = sort_none
  this_apply φ (sort_some p) = sort_some (sort_apply φ p)

  frames_apply : {γ δ : Environment} (φ : ℕ) → SortFrame γ δ → SortFrame γ (apply_all W φ δ)
  frames_apply φ p = record {
    this = this_apply φ p.this;
    slots = all2_map (apply_slot W φ)
        (λ a b r. sort_apply φ r) p.slots;
  }

  frames_join : {γ δ ε : Environment} → SortFrame γ δ → SortFrame γ ε → SortFrame γ (join_environments W δ ε)
  frames_join p q = record { this = this_join p.this q.this; slots = slots_join p.slots q.slots }

module _ {W : World} where
  mutual
    pub shape : (e : Expr) {γ γ' : Environment} {t : ExprType} {φ : ℕ} → HasType W γ e t γ' φ → SortFrame γ γ'
    shape (literal l) {γ} type_literal = frames_refl γ
    shape (slot k) {γ} (type_slot e) = frames_refl γ
    shape (is_null e) (type_is_null d n) = shape e d
    shape (get f e) (type_get d i) = shape e d
    shape (cast c e) (type_cast d i n) = shape e d
    shape (new c) {γ} (type_new i) = frames_refl γ
    shape (change k d) {γ} (type_change {s} i e c f) =
        frames_set k s (with_type (class d) s) (frames_apply W (effect_of (W.root d)) (frames_refl γ)) e
        (rw c both_class)
    shape (assign k e) (type_assign d i f) = shape e d
    shape (set f e e') (type_set d d' i j) = frames_trans (shape e d) (shape e' d')
    shape (call m e es) (type_call M d d' i j) =
        frames_apply W M.effect (frames_trans (shape e d) (shapes es d'))
    shape (choose e x y) (type_choose d d' d'' j) =
        frames_trans (shape e d) (frames_join W (shape x d') (shape y d''))
    shape (block ts es) {γ} (type_block l d) = let p = shapes es d in
        record { this = p.this; slots = rw take-append_seam at (all2_take (length γ.slots) p.slots) }

    shapes : (es : Exprs) {γ γ' : Environment} {ts : List ExprType} {φ : ℕ} → HaveTypes W γ es ts γ' φ
        → SortFrame γ γ'
    shapes nil {γ} types_nil = frames_refl γ
    shapes (cons e es) (types_cons d d') = frames_trans (shape e d) (shapes es d')

module _ {W : World} (laws : Laws W) where
  open laws use {lub_left, lub_right}

  -- joined slots
  currents_left : {h : List Object} {v : Value} {x t u : DeclaredType} → Sort x t → Sort x u
      → Fits W h v (known t) → Fits W h v (known (join_currents W t u))
  currents_left both_bool both_bool f = f
  currents_left (both_class {d = c}) (both_class {d}) f =
      fits_sub laws (class (W.nearest c d)) f (lub_left c d)

  currents_right : {h : List Object} {v : Value} {x t u : DeclaredType} → Sort x t → Sort x u
      → Fits W h v (known u) → Fits W h v (known (join_currents W t u))
  currents_right both_bool both_bool f = f
  currents_right (both_class {d = c}) (both_class {d}) f =
      fits_sub laws (class (W.nearest c d)) f (lub_right c d)

  slots_left : {h : List Object} {vs : List Value} {a b c : List Slot} → All2 SortS a b → All2 SortS a c
      → All2 (FitsSlot W h) vs b → All2 (FitsSlot W h) vs (join_slots W b c)
  unfolding join_slots
  slots_left a_nil a_nil a_nil = a_nil
  slots_left (a_cons p ps) (a_cons q qs) (a_cons f fs) = a_cons (currents_left p q f) (slots_left ps qs fs)

  slots_right : {h : List Object} {vs : List Value} {a b c : List Slot} → All2 SortS a b → All2 SortS a c
      → All2 (FitsSlot W h) vs c → All2 (FitsSlot W h) vs (join_slots W b c)
  unfolding join_slots
  slots_right a_nil a_nil a_nil = a_nil
  slots_right (a_cons p ps) (a_cons q qs) (a_cons f fs) = a_cons (currents_right p q f) (slots_right ps qs fs)

  this_left : {h : List Object} {v : Option Value} {a b c : Option Slot} → SortThis a b → SortThis a c
      → FitsThis W h v b → FitsThis W h v (join_this W b c)
  this_left sort_none sort_none this_none = this_none
  this_left (sort_some p) (sort_some q) (this_some f) = this_some (currents_left p q f)

  this_right : {h : List Object} {v : Option Value} {a b c : Option Slot} → SortThis a b → SortThis a c
      → FitsThis W h v c → FitsThis W h v (join_this W b c)
  this_right sort_none sort_none this_none = this_none
  this_right (sort_some p) (sort_some q) (this_some f) = this_some (currents_right p q f)

  pub frames_left : {h : List Object} {f : Frame Value} {γ δ ε : Environment} → SortFrame γ δ → SortFrame γ ε
      → FitsFrame W h f δ → FitsFrame W h f (join_environments W δ ε)
  frames_left p q F = record {
    this = this_left p.this q.this F.this;
    slots = slots_left p.slots
        q.slots F.slots;
  }

  pub frames_right : {h : List Object} {f : Frame Value} {γ δ ε : Environment} → SortFrame γ δ → SortFrame γ ε
      → FitsFrame W h f ε → FitsFrame W h f (join_environments W δ ε)
  frames_right p q F =
      record {
        this = this_right p.this q.this F.this;
        slots = slots_right p.slots q.slots F.slots;
      }

  pub join_left : {h : List Object} {v : Value} (t u w : ExprType) → join_types W t u ≡ some w → Fits W h v t
      → Fits W h v w
  join_left (known bool) (known bool) w e f = rw (inj e) at f
  join_left (known bool) (known (class d)) w e f = absurd (Never e)
  join_left (known bool) null_type w e f = absurd (Never e)
  join_left (known (class c)) (known bool) w e f = absurd (Never e)
  join_left (known (class c)) (known (class d)) w e f =
      rw (inj e) at (fits_sub laws (class (W.nearest c d)) f (lub_left c d))
  join_left (known (class c)) null_type w e f = rw (inj e) at f
  join_left null_type (known bool) w e f = absurd (Never e)
  join_left null_type (known (class d)) w e f = rw (inj e) at (fits_sub laws (class d) f refl)
  join_left null_type null_type w e f = rw (inj e) at f

  pub join_right : {h : List Object} {v : Value} (t u w : ExprType) → join_types W t u ≡ some w → Fits W h v u
      → Fits W h v w
  join_right (known bool) (known bool) w e f = rw (inj e) at f
  join_right (known bool) (known (class d)) w e f = absurd (Never e)
  join_right (known bool) null_type w e f = absurd (Never e)
  join_right (known (class c)) (known bool) w e f = absurd (Never e)
  join_right (known (class c)) (known (class d)) w e f =
      rw (inj e) at (fits_sub laws (class (W.nearest c d)) f (lub_right c d))
  join_right (known (class c)) null_type w e f = rw (inj e) at (fits_sub laws (class c) f refl)
  join_right null_type (known bool) w e f = absurd (Never e)
  join_right null_type (known (class d)) w e f = rw (inj e) at f
  join_right null_type null_type w e f = rw (inj e) at f
