-- The pass over bodies (document 01, "Bodies"; 002, Figure 7): what an expression has, or its first refusal.
-- An expression at line `at` has its first child at `at + 1`, or after its V lines.
-- Children come before their node; on one line the smaller number comes first.
use Rattle.std.specs.Prelude.{ℕ, suc, ◌+◌, Bool, true, false, not, ◌&&◌, List, [], ◌∷◌, map, length, eqb}
use Rattle.std.proofs.Math.Option.{Option, none, some}
use Rattle.language.specs.Limits.{name_refusal, slot_refusal, member_refusal, type_refusal}
use Rattle.language.specs.Limits.{effect_refusal, change_refusal}
use Rattle.language.specs.Results.{Checked, accept, refuse, Pass, passed, bind_checked, need_checked}
use Rattle.language.specs.Results.{require}
use Rattle.language.specs.Frames.{frame, at_slot, with_slot, opened, closed, map_frame}
use Rattle.language.specs.Tree.{DeclaredType, bool, class, ExprType, known, null_type, Expr}
use Rattle.language.specs.Tree.{literal_type, literal, slot, is_null, get, cast}
use Rattle.language.specs.Tree.{new, change, assign, set, call, choose, block, Exprs, nil, cons, size}
use Rattle.language.specs.Tree.{Declaration, heading_lines, method_lines, Class, class_lines}
use Rattle.language.specs.Tree.{classes_lines, Program}
use Rattle.language.specs.Environment.{Slot, Environment, fresh_slot, with_type, method_environment}
use Rattle.language.specs.Environment.{start_environment}
use Rattle.language.specs.World.{World, field_type, is_declared, is_declared_type}
use Rattle.language.specs.Effects.{no_effect, effect_of, join, within, apply_class}
use Rattle.language.specs.Effects.{apply, apply_expr}
use Rattle.language.specs.Program.{world}

-- What typing gives of an expression: its type, the slots afterwards, its effect.
pub record Typed : Type 0 where
  pub type : ExprType
  pub slots : Environment
  pub effect : ℕ

-- The same of several in a row; each type has the effects of the later ones applied.
pub record TypedAll : Type 0 where
  pub types : List ExprType
  pub slots : Environment
  pub effect : ℕ

abbrev pub typed : ExprType → Environment → ℕ → Checked Typed
typed t γ φ = accept (record { type = t; slots = γ; effect = φ })

-- "G and Q need a class": the class, or a refusal.
unfoldable pub need_class : {B : Type 0} → ExprType → ℕ → ℕ → (ℕ → Checked B) → Checked B
need_class (known bool) n l k = refuse n l
need_class (known (class c)) n l k = k c
need_class null_type n l k = refuse n l

abbrev pub not_bool : ExprType → Bool
not_bool (known bool) = false
not_bool (known (class c)) = true
not_bool null_type = true

abbrev pub last_type : ExprType → List ExprType → ExprType
last_type t [] = t
last_type t (u ∷ us) = last_type u us

module _ (W : World) where
  -- Null fits every class and never bool.
  abbrev pub fits : ExprType → DeclaredType → Bool
  fits (known bool) bool = true
  fits (known bool) (class d) = false
  fits (known (class c)) bool = false
  fits (known (class c)) (class d) = W.below c d
  fits null_type bool = false
  fits null_type (class d) = true

  unfoldable pub all_fit : List ExprType → List DeclaredType → Bool
  all_fit [] [] = true
  all_fit [] (u ∷ us) = false
  all_fit (t ∷ ts) [] = false
  all_fit (t ∷ ts) (u ∷ us) = fits t u && all_fit ts us

  -- Bool joins only bool; null with a class is the class; two classes join at the nearest common superclass.
  abbrev pub join_types : ExprType → ExprType → Option ExprType
  join_types (known bool) (known bool) = some (known bool)
  join_types (known bool) (known (class d)) = none
  join_types (known bool) null_type = none
  join_types (known (class c)) (known bool) = none
  join_types (known (class c)) (known (class d)) = some (known (class (W.nearest c d)))
  join_types (known (class c)) null_type = some (known (class c))
  join_types null_type (known bool) = none
  join_types null_type (known (class d)) = some (known (class d))
  join_types null_type null_type = some null_type

  -- Both arms start with the same slots, and a slot keeps its sort: bool stays bool, a class stays a class.
  abbrev pub join_currents : DeclaredType → DeclaredType → DeclaredType
  join_currents bool u = bool
  join_currents (class c) bool = class c
  join_currents (class c) (class d) = class (W.nearest c d)

  abbrev pub join_slot : Slot → Slot → Slot
  join_slot s t = with_type (join_currents s.current t.current) s

  unfoldable pub join_slots : List Slot → List Slot → List Slot
  join_slots [] us = []
  join_slots (s ∷ ss) [] = []
  join_slots (s ∷ ss) (u ∷ us) = join_slot s u ∷ join_slots ss us

  abbrev pub join_this : Option Slot → Option Slot → Option Slot
  join_this none u = none
  join_this (some s) none = none
  join_this (some s) (some u) = some (join_slot s u)

  abbrev pub join_environments : Environment → Environment → Environment
  join_environments γ δ = frame (join_this γ.this δ.this) (join_slots γ.slots δ.slots)

  -- An effect applied to all slots.
  abbrev pub apply_slot : ℕ → Slot → Slot
  apply_slot φ s = with_type (apply W φ s.current) s

  abbrev pub apply_all : ℕ → Environment → Environment
  apply_all φ γ = map_frame (apply_slot φ) γ

  -- R: the target is a root or state class with the same root as the slot's current class.
  unfoldable pub can_change : ℕ → ℕ → Bool
  can_change c d = W.changeable c && (W.changeable d && eqb (W.root c) (W.root d))

  -- The slots after a change: the root is applied to all, then this one has the target's class.
  abbrev pub after_change : Environment → ℕ → Slot → ℕ → Environment
  after_change γ k s d = with_slot (apply_all (effect_of (W.root d)) γ) k (with_type (class d) s)

  -- A block's V lines: each names bool or a declared class.
  unfoldable pub locals_declared : ℕ → List DeclaredType → Pass
  locals_declared at [] = passed
  locals_declared at (t ∷ ts) = require (is_declared_type W t) name_refusal at λ _.
      locals_declared (at + 1) ts

  unfoldable mutual
    pub type_of : Expr → ℕ → Environment → Checked Typed
    -- T, L, N.
    type_of (literal l) at γ = typed (literal_type l) γ no_effect
    -- I: 7.
    type_of (slot k) at γ = need_checked (at_slot γ k) slot_refusal at λ s.
        typed (known s.current) γ no_effect
    -- Z takes a class or null: 9.
    type_of (is_null e) at γ =
        bind_checked (type_of e (at + 1) γ) λ a.
        require (not_bool a.type) type_refusal at λ _.
        typed (known bool) a.slots a.effect
    -- G: 9 where there is no class, 8 where there is no field.
    type_of (get f e) at γ =
        bind_checked (type_of e (at + 1) γ) λ a.
        need_class a.type type_refusal at λ c.
        need_checked (field_type f (W.fields c)) member_refusal at λ t.
        typed (known t) a.slots a.effect
    -- K takes a class or null and gives its own class: 4, 9.
    type_of (cast c e) at γ =
        bind_checked (type_of e (at + 1) γ) λ a.
        require (is_declared W c) name_refusal at λ _.
        require (not_bool a.type) type_refusal at λ _.
        typed (known (class c)) a.slots a.effect
    -- W: 4.
    type_of (new c) at γ =
        require (W.makes c) name_refusal at λ _.
        typed (known (class c)) γ no_effect
    -- R: 4, 7, 11. That root is applied to all slots, then this slot becomes d.
    type_of (change k d) at γ =
        require (is_declared W d) name_refusal at λ _.
        need_checked (at_slot γ k) slot_refusal at λ s.
        need_class (known s.current) change_refusal at λ c.
        require (can_change c d) change_refusal at λ _.
        typed (known (class d)) (after_change γ k s d) (effect_of (W.root d))
    -- A: 7, 9. The slot's current type stays; the result has the value's type.
    type_of (assign k e) at γ =
        bind_checked (type_of e (at + 1) γ) λ a.
        require (not (eqb k 0)) slot_refusal at λ _.
        need_checked (at_slot a.slots k) slot_refusal at λ s.
        require (fits a.type s.current) type_refusal at λ _.
        accept a
    -- U: 9, 8, 9. The value's effect is applied to the object's type before the field is sought.
    type_of (set f e e') at γ =
        bind_checked (type_of e (at + 1) γ) λ a.
        bind_checked (type_of e' (at + 1 + size e) a.slots) λ b.
        need_class a.type type_refusal at λ c.
        need_checked (field_type f (W.fields (apply_class W b.effect c))) member_refusal at λ t.
        require (fits b.type t) type_refusal at λ _.
        typed b.type b.slots (join a.effect b.effect)
    -- Q: 9, 8 for the method, 8 for the count, 9. The method's effect comes last, and on all slots.
    type_of (call m e es) at γ =
        bind_checked (type_of e (at + 1) γ) λ a.
        bind_checked (type_all es (at + 1 + size e) a.slots) λ b.
        need_class a.type type_refusal at λ c.
        need_checked (W.method (apply_class W b.effect c) m) member_refusal at λ M.
        require (eqb (length b.types) (length M.parameters)) member_refusal at λ _.
        require (all_fit b.types M.parameters) type_refusal at λ _.
        typed (known M.result) (apply_all M.effect b.slots)
        (join (join a.effect b.effect) M.effect)
    -- J: both arms start alike; 9 for the condition, 9 for the join.
    type_of (choose e x y) at γ =
        bind_checked (type_of e (at + 1) γ) λ a.
        bind_checked (type_of x (at + 1 + size e) a.slots) λ b.
        bind_checked (type_of y (at + 1 + size e + size x) a.slots) λ c.
        require (not (not_bool a.type)) type_refusal at λ _.
        need_checked (join_types b.type c.type) type_refusal at λ t.
        typed t (join_environments b.slots c.slots) (join a.effect (join b.effect c.effect))
    -- B: 4 on its V lines; the type of the last expression.
    type_of (block ts es) at γ =
        bind_checked (locals_declared (at + 1) ts) λ _.
        bind_checked (type_all es (at + 1 + length ts) (opened γ (map fresh_slot ts))) λ b.
        typed (last_type null_type b.types) (closed (length γ.slots) b.slots) b.effect

    pub type_all : Exprs → ℕ → Environment → Checked TypedAll
    type_all nil at γ = accept (record { types = []; slots = γ; effect = no_effect })
    type_all (cons e es) at γ =
        bind_checked (type_of e at γ) λ a.
        bind_checked (type_all es (at + size e) a.slots) λ b.
        accept (record {
          types = apply_expr W b.effect a.type ∷ b.types;
          slots = b.slots;
          effect = join a.effect b.effect;
        })

  -- A method: its body, then on its M line the body's type and effect.
  unfoldable pub type_method : ℕ → ℕ → ℕ → Declaration → Pass
  type_method owner number at m =
      bind_checked (type_of m.body (at + heading_lines m) (method_environment owner m.parameters)) λ a.
      require (fits a.type m.result) type_refusal at λ _.
      require (within a.effect (W.effect number)) effect_refusal at λ _.
      passed

  -- Methods of one class, the first of which has this number.
  unfoldable pub type_methods : ℕ → ℕ → ℕ → List Declaration → Pass
  type_methods owner number at [] = passed
  type_methods owner number at (m ∷ ms) =
      bind_checked (type_method owner number at m) λ _.
      type_methods owner (suc number) (at + method_lines m) ms

  -- The classes from number k on, the first at line `at`; `before` methods come before it.
  unfoldable pub type_classes : ℕ → ℕ → ℕ → List Class → Pass
  type_classes k number at [] = passed
  type_classes k number at (c ∷ cs) =
      bind_checked (type_methods k number (at + 1 + length c.fields) c.methods) λ _.
      type_classes (suc k) (number + length c.methods) (at + class_lines c) cs

-- The pass: the methods in order, then the start block, which follows the S line.
unfoldable pub bodies : Program → Pass
bodies p = let W = world p.classes in
    bind_checked (type_classes W 1 0 1 p.classes) λ _.
    bind_checked (type_of W p.start (2 + classes_lines p.classes) start_environment) λ _.
    passed
