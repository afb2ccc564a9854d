-- The typing rules as relations (002, Figure 7; document 01, "Bodies"), over the relations of ClassRelations and
-- TypeRelations.
-- Each place where document 01 departs from the figure is marked DEPARTS.
-- γ ⊢ e : t ∥ γ' ∥ φ of the figure is `HasType γ e t γ' φ`: the type of e, the slots afterwards, its effect.
use Rattle.std.specs.Prelude.{◌≡◌, ℕ, suc, List, [], ◌∷◌, map, length}
use Rattle.std.proofs.Math.Option.{some}
use Rattle.language.specs.Lists.{All2, Each}
use Rattle.language.specs.Frames.{at_slot, with_slot, opened, closed}
use Rattle.language.specs.Tree.{Literal, literal_type, literal, Field, Declaration, Class}
use Rattle.language.specs.Tree.{DeclaredType, bool, class, ExprType, known, Expr}
use Rattle.language.specs.Tree.{slot, is_null, get, cast}
use Rattle.language.specs.Tree.{new, change, assign, set, call, choose, block, Exprs, nil, cons}
use Rattle.language.specs.Effects.{no_effect, effect_of, effect_of_all, join}
use Rattle.language.specs.Environment.{Slot, Environment, fresh_slot, with_type}
use Rattle.language.specs.ClassRelations.{RootOf, FieldsOf, FieldAt, FindsMethod, TypeDeclared}
use Rattle.language.specs.ClassRelations.{Changeable}
use Rattle.language.specs.TypeRelations.{NotBool, LastType, Widens, Joins, JoinsEnvironments}
use Rattle.language.specs.TypeRelations.{Applies, AppliesExpr, AppliesAll}

module _ (P : List Class) where
  mutual
    pub data HasType : Environment → Expr → ExprType → Environment → ℕ → Type 0 where
      -- T, L, N. DEPARTS: null has a type of its own; the figure gives it every class.
      type_literal : {γ : Environment} {l : Literal} → HasType γ (literal l) (literal_type l) γ no_effect
      -- I: a slot in scope has its current type.
      type_slot : {γ : Environment} {k : ℕ} {s : Slot} → at_slot γ k ≡ some s
          → HasType γ (slot k) (known s.current) γ no_effect
      -- W. DEPARTS: the class is declared, or Object.
      type_new : {γ : Environment} {c : ℕ} → TypeDeclared P (class c)
          → HasType γ (new c) (known (class c)) γ no_effect
      -- K. DEPARTS: from any class or null to any declared class; the figure asks for related classes.
      type_cast : {γ γ' : Environment} {c : ℕ} {e : Expr} {t : ExprType} {φ : ℕ}
          → HasType γ e t γ' φ → TypeDeclared P (class c) → NotBool t
          → HasType γ (cast c e) (known (class c)) γ' φ
      -- G: the child has a class, and the class the field.
      type_get : {γ γ' : Environment} {f c i : ℕ} {e : Expr} {fs : List Field} {t : DeclaredType} {φ : ℕ}
          → HasType γ e (known (class c)) γ' φ → FieldsOf P c fs → FieldAt f fs i t
          → HasType γ (get f e) (known t) γ' φ
      -- U: the value's effect is applied to the object's class before the field is sought.
      type_set : {γ γ₁ γ₂ : Environment} {f c c' i : ℕ} {e e' : Expr} {t : ExprType} {fs : List Field}
          {u : DeclaredType} {φ₁ φ₂ : ℕ}
          → HasType γ e (known (class c)) γ₁ φ₁ → HasType γ₁ e' t γ₂ φ₂
          → Applies P φ₂ (class c) (class c') → FieldsOf P c' fs → FieldAt f fs i u → Widens P t u
          → HasType γ (set f e e') t γ₂ (join φ₁ φ₂)
      -- A: the value fits the current type of a slot other than `this`.
      type_assign : {γ γ' : Environment} {k : ℕ} {e : Expr} {t : ExprType} {s : Slot} {φ : ℕ}
          → HasType γ e t γ' φ → at_slot γ' (suc k) ≡ some s → Widens P t s.current
          → HasType γ (assign (suc k) e) t γ' φ
      -- Z: of a class or null.
      type_is_null : {γ γ' : Environment} {e : Expr} {t : ExprType} {φ : ℕ}
          → HasType γ e t γ' φ → NotBool t
          → HasType γ (is_null e) (known bool) γ' φ
      -- Q: the arguments' effects are applied to the receiver's class before the method is sought; the method's own
      -- effect is applied to all slots.
      type_call : {γ γ₁ γ₂ γ₃ : Environment} {m c c' o : ℕ} {e : Expr} {es : Exprs} {ts : List ExprType}
          {φ₁ φ₂ : ℕ} (d : Declaration)
          → HasType γ e (known (class c)) γ₁ φ₁ → HaveTypes γ₁ es ts γ₂ φ₂
          → Applies P φ₂ (class c) (class c') → FindsMethod P c' m o d → All2 (Widens P) ts d.parameters
          → AppliesAll P (effect_of_all d.effects) γ₂ γ₃
          → HasType γ (call m e es) (known d.result) γ₃ (join (join φ₁ φ₂) (effect_of_all d.effects))
      -- J: both arms start alike; types and slots join.
      type_choose : {γ γ₀ γ₁ γ₂ γ₃ : Environment} {e x y : Expr} {t u v : ExprType} {φ₀ φ₁ φ₂ : ℕ}
          → HasType γ e (known bool) γ₀ φ₀ → HasType γ₀ x t γ₁ φ₁ → HasType γ₀ y u γ₂ φ₂
          → Joins P t u v → JoinsEnvironments P γ₁ γ₂ γ₃
          → HasType γ (choose e x y) v γ₃ (join φ₀ (join φ₁ φ₂))
      -- B, with its V lines. DEPARTS: the classes of locals are declared.
      type_block : {γ γ' : Environment} {ts : List DeclaredType} {us : List ExprType} {es : Exprs}
          {t : ExprType} {φ : ℕ}
          → Each (TypeDeclared P) ts → HaveTypes (opened γ (map fresh_slot ts)) es us γ' φ → LastType us t
          → HasType γ (block ts es) t (closed (length γ.slots) γ') φ
      -- R: slot and target have the same root, which is applied to all slots; then the slot has the target's class.
      type_change : {γ δ : Environment} {k c d r : ℕ} {s : Slot}
          → at_slot γ k ≡ some s → s.current ≡ class c
          → Changeable P d → RootOf P c r → RootOf P d r → AppliesAll P (effect_of r) γ δ
          → HasType γ (change k d) (known (class d)) (with_slot δ k (with_type (class d) s)) (effect_of r)

    -- Several in a row; each type has the effects of the later ones applied, as a call's arguments need.
    pub data HaveTypes : Environment → Exprs → List ExprType → Environment → ℕ → Type 0 where
      -- None.
      types_nil : {γ : Environment} → HaveTypes γ nil [] γ no_effect
      -- One and the rest.
      types_cons : {γ γ₁ γ₂ : Environment} {e : Expr} {es : Exprs} {t t' : ExprType} {ts : List ExprType}
          {φ₁ φ₂ : ℕ}
          → HasType γ e t γ₁ φ₁ → HaveTypes γ₁ es ts γ₂ φ₂ → AppliesExpr P φ₂ t t'
          → HaveTypes γ (cons e es) (t' ∷ ts) γ₂ (join φ₁ φ₂)
