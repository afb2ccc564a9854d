-- The typing rules with what they look up computed: those of Rules (crates/language/specs), where fields, methods, roots,
-- fits and joins are a world's functions instead of relations. Proofs by induction over a derivation use these, in any
-- world; RulesAgree shows that in the world of a program the two are one.
use Rattle.std.specs.Prelude.{◌≡◌, ℕ, suc, true, List, [], ◌∷◌, map, length}
use Rattle.std.proofs.Math.Option.{some}
use Rattle.language.specs.Frames.{at_slot, opened, closed}
use Rattle.language.specs.Tree.{Literal, literal_type, literal}
use Rattle.language.specs.Tree.{DeclaredType, bool, class, ExprType, known, null_type, Expr}
use Rattle.language.specs.Tree.{literal, slot, is_null, get, cast}
use Rattle.language.specs.Tree.{new, change, assign, set, call, choose, block, Exprs, nil, cons}
use Rattle.language.specs.World.{Method, World, field_type, is_declared, is_declared_type}
use Rattle.language.specs.Effects.{no_effect, effect_of, join, apply_class, apply_expr}
use Rattle.language.specs.Environment.{Slot, Environment, fresh_slot}
use Rattle.language.specs.Typing.{not_bool, last_type, fits, all_fit}
use Rattle.language.specs.Typing.{join_types, join_environments, apply_all, can_change, after_change}

module _ (W : World) where
  -- Each of a block's locals is bool or a declared class.
  pub data Declared : List DeclaredType → Type 0 where
    declared_nil : Declared []
    declared_cons : {t : DeclaredType} {ts : List DeclaredType} → is_declared_type W t ≡ true → Declared ts
        → Declared (t ∷ ts)

  mutual
    pub data HasType : Environment → Expr → ExprType → Environment → ℕ → Type 0 where
      -- T, L, N.
      type_literal : {γ : Environment} {l : Literal} → HasType γ (literal l) (literal_type l) γ no_effect
      -- I: a slot in scope has its current type.
      type_slot : {γ : Environment} {k : ℕ} {s : Slot} → at_slot γ k ≡ some s
          → HasType γ (slot k) (known s.current) γ no_effect
      -- W.
      type_new : {γ : Environment} {c : ℕ} → W.makes c ≡ true
          → HasType γ (new c) (known (class c)) γ no_effect
      -- K.
      type_cast : {γ γ' : Environment} {c : ℕ} {e : Expr} {t : ExprType} {φ : ℕ}
          → HasType γ e t γ' φ → is_declared W c ≡ true → not_bool t ≡ true
          → HasType γ (cast c e) (known (class c)) γ' φ
      -- G: the child has a class, and the class the field.
      type_get : {γ γ' : Environment} {f c : ℕ} {e : Expr} {t : DeclaredType} {φ : ℕ}
          → HasType γ e (known (class c)) γ' φ → field_type f (W.fields c) ≡ some t
          → HasType γ (get f e) (known t) γ' φ
      -- U: the value's effect is applied to the object's class before the field is sought.
      type_set : {γ γ₁ γ₂ : Environment} {f c : ℕ} {e e' : Expr} {t : ExprType} {u : DeclaredType} {φ₁ φ₂ : ℕ}
          → HasType γ e (known (class c)) γ₁ φ₁ → HasType γ₁ e' t γ₂ φ₂
          → field_type f (W.fields (apply_class W φ₂ c)) ≡ some u → fits W t u ≡ true
          → HasType γ (set f e e') t γ₂ (join φ₁ φ₂)
      -- A: the value fits the current type of a slot other than `this`.
      type_assign : {γ γ' : Environment} {k : ℕ} {e : Expr} {t : ExprType} {s : Slot} {φ : ℕ}
          → HasType γ e t γ' φ → at_slot γ' (suc k) ≡ some s → fits W t s.current ≡ true
          → HasType γ (assign (suc k) e) t γ' φ
      -- Z: of a class or null.
      type_is_null : {γ γ' : Environment} {e : Expr} {t : ExprType} {φ : ℕ}
          → HasType γ e t γ' φ → not_bool t ≡ true
          → HasType γ (is_null e) (known bool) γ' φ
      -- Q: the arguments' effects are applied to the receiver's class before the method is sought.
      type_call : {γ γ₁ γ₂ : Environment} {m c : ℕ} {e : Expr} {es : Exprs} {ts : List ExprType} {φ₁ φ₂ : ℕ}
          (M : Method)
          → HasType γ e (known (class c)) γ₁ φ₁ → HaveTypes γ₁ es ts γ₂ φ₂
          → W.method (apply_class W φ₂ c) m ≡ some M → all_fit W ts M.parameters ≡ true
          → HasType γ (call m e es) (known M.result) (apply_all W M.effect γ₂)
          (join (join φ₁ φ₂) M.effect)
      -- J: both arms start alike; types and slots join.
      type_choose : {γ γ₀ γ₁ γ₂ : Environment} {e x y : Expr} {t u v : ExprType} {φ₀ φ₁ φ₂ : ℕ}
          → HasType γ e (known bool) γ₀ φ₀ → HasType γ₀ x t γ₁ φ₁ → HasType γ₀ y u γ₂ φ₂
          → join_types W t u ≡ some v
          → HasType γ (choose e x y) v (join_environments W γ₁ γ₂) (join φ₀ (join φ₁ φ₂))
      -- B, with its V lines.
      type_block : {γ γ' : Environment} {ts : List DeclaredType} {us : List ExprType} {es : Exprs} {φ : ℕ}
          → Declared ts → HaveTypes (opened γ (map fresh_slot ts)) es us γ' φ
          → HasType γ (block ts es) (last_type null_type us) (closed (length γ.slots) γ') φ
      -- R: slot and target have the same root.
      type_change : {γ : Environment} {k c d : ℕ} {s : Slot}
          → is_declared W d ≡ true → at_slot γ k ≡ some s → s.current ≡ class c → can_change W c d ≡ true
          → HasType γ (change k d) (known (class d)) (after_change W γ k s d) (effect_of (W.root d))

    -- Several in a row; each type has the effects of the later ones applied, as a call's arguments need.
    pub data HaveTypes : Environment → Exprs → List ExprType → Environment → ℕ → Type 0 where
      -- None.
      types_nil : {γ : Environment} → HaveTypes γ nil [] γ no_effect
      -- One and the rest.
      types_cons : {γ γ₁ γ₂ : Environment} {e : Expr} {es : Exprs} {t : ExprType} {ts : List ExprType}
          {φ₁ φ₂ : ℕ}
          → HasType γ e t γ₁ φ₁ → HaveTypes γ₁ es ts γ₂ φ₂
          → HaveTypes γ (cons e es) (apply_expr W φ₂ t ∷ ts) γ₂ (join φ₁ φ₂)
