-- Typing keeps whether there is a `this`, and gives as many types as there are expressions. Assumes nothing.
use mathlib.Core.Path.{◌≡◌, refl, sym, ap, ◌∙◌}
use mathlib.Core.Bool.{Bool, not}
use mathlib.Core.Option.{Option, none, some}
use mathlib.Core.List.{map}
use Prim.Native.Nat.{ℕ, zero, suc, ◌+◌}
use lib.ListN.{length}
use lib.Dec.{eqb}
use Rattle.language.specs.Lists.{map_option}
use Rattle.language.specs.Results.{accept, accept_injective, bind_checked_inv, need_checked_inv, require_inv}
use Rattle.language.specs.Frames.{at_slot, with_slot, opened}
use Rattle.language.specs.Tree.{class, ExprType, known, Expr, literal, slot, is_null, get, cast, new, change}
use Rattle.language.specs.Tree.{assign, set, call, choose, block, Exprs, nil, cons, size, count}
use Rattle.language.specs.World.{World, field_type, is_declared}
use Rattle.language.specs.Effects.{effect_of, apply_class}
use Rattle.language.specs.Environment.{Slot, Environment, fresh_slot, with_type}
use Rattle.language.specs.Typing.{Typed, TypedAll, typed, not_bool, fits, all_fit, join_types, join_this}
use Rattle.language.specs.Typing.{apply_slot, apply_all, can_change, locals_declared, type_of, type_all}
use Rattle.expressions.proofs.Typings.{class_inv}
use Rattle.expressions.proofs.Environments.{has}

done : {t : ExprType} {δ : Environment} {φ : ℕ} {a : Typed} (b : Bool) → typed t δ φ ≡ accept a
    → has δ.this ≡ b → has a.slots.this ≡ b
done b q e = ap (λ (x : Typed). has x.slots.this) (sym (accept_injective q)) ∙ e

has_map : (f : Slot → Slot) (o : Option Slot) → has (map_option f o) ≡ has o
has_map f none = refl
has_map f (some s) = refl

has_with : (γ : Environment) (k : ℕ) (s : Slot) → has (with_slot γ k s).this ≡ has γ.this
has_with γ zero s = has_map (λ b. s) γ.this
has_with γ (suc k) s = refl

has_join : (W : World) (o u : Option Slot) (b : Bool) → has o ≡ b → has u ≡ b → has (join_this W o u) ≡ b
has_join W none u b e f = e
has_join W (some s) none b e f = f
has_join W (some s) (some t) b e f = e

module _ (W : World) where
  mutual
    unfolding type_of

    pub this_kept : (e : Expr) (l : ℕ) (γ : Environment) (a : Typed) → type_of W e l γ ≡ accept a
        → has a.slots.this ≡ has γ.this
    this_kept (literal x) l γ a q = done (has γ.this) q refl
    this_kept (slot k) l γ a q = need_checked_inv (at_slot γ k) 7 l _ q λ s e q. done (has γ.this) q refl
    this_kept (is_null e) l γ a q =
        bind_checked_inv (type_of W e (l + 1) γ) _ q λ b e₁ q. require_inv (not_bool b.type) 9 l _ q λ _ q.
        done (has γ.this) q (this_kept e (l + 1) γ b e₁)
    this_kept (get f e) l γ a q =
        bind_checked_inv (type_of W e (l + 1) γ) _ q λ b e₁ q. class_inv b.type 9 l _ q λ c _ q.
        need_checked_inv (field_type f (W.fields c)) 8 l _ q λ t _ q.
        done (has γ.this) q (this_kept e (l + 1) γ b e₁)
    this_kept (cast c e) l γ a q =
        bind_checked_inv (type_of W e (l + 1) γ) _ q λ b e₁ q. require_inv (is_declared W c) 4 l _ q λ _ q.
        require_inv (not_bool b.type) 9 l _ q λ _ q. done (has γ.this) q (this_kept e (l + 1) γ b e₁)
    this_kept (new c) l γ a q = require_inv (W.makes c) 4 l _ q λ _ q. done (has γ.this) q refl
    this_kept (change k d) l γ a q =
        require_inv (is_declared W d) 4 l _ q λ _ q. need_checked_inv (at_slot γ k) 7 l _ q λ s _ q.
        class_inv (known s.current) 11 l _ q λ c _ q. require_inv (can_change W c d) 11 l _ q λ _ q.
        done (has γ.this) q
        (has_with (apply_all W (effect_of (W.root d)) γ) k (with_type (class d) s)
        ∙ has_map (apply_slot W (effect_of (W.root d))) γ.this)
    this_kept (assign k e) l γ a q =
        bind_checked_inv (type_of W e (l + 1) γ) _ q λ b e₁ q. require_inv (not (eqb k 0)) 7 l _ q λ _ q.
        need_checked_inv (at_slot b.slots k) 7 l _ q λ s _ q.
        require_inv (fits W b.type s.current) 9 l _ q λ _ q.
        done (has γ.this) q (this_kept e (l + 1) γ b e₁)
    this_kept (set f e e') l γ a q =
        bind_checked_inv (type_of W e (l + 1) γ) _ q λ b e₁ q.
        bind_checked_inv (type_of W e' (l + 1 + size e) b.slots) _ q λ d e₂ q.
        class_inv b.type 9 l _ q λ c _ q.
        need_checked_inv (field_type f (W.fields (apply_class W d.effect c))) 8 l _ q λ t _ q.
        require_inv (fits W d.type t) 9 l _ q λ _ q.
        done (has γ.this) q (this_kept e' (l + 1 + size e) b.slots d e₂ ∙ this_kept e (l + 1) γ b e₁)
    this_kept (call m e es) l γ a q =
        bind_checked_inv (type_of W e (l + 1) γ) _ q λ b e₁ q.
        bind_checked_inv (type_all W es (l + 1 + size e) b.slots) _ q λ d e₂ q.
        class_inv b.type 9 l _ q λ c _ q.
        need_checked_inv (W.method (apply_class W d.effect c) m) 8 l _ q λ M _ q.
        require_inv (eqb (length d.types) (length M.parameters)) 8 l _ q λ _ q.
        require_inv (all_fit W d.types M.parameters) 9 l _ q λ _ q.
        done (has γ.this) q
        (has_map (apply_slot W M.effect) d.slots.this
        ∙ (this_kept_all es (l + 1 + size e) b.slots d e₂ ∙ this_kept e (l + 1) γ b e₁))
    this_kept (choose e x y) l γ a q =
        bind_checked_inv (type_of W e (l + 1) γ) _ q λ b e₁ q.
        bind_checked_inv (type_of W x (l + 1 + size e) b.slots) _ q λ c e₂ q.
        bind_checked_inv (type_of W y (l + 1 + size e + size x) b.slots) _ q λ d e₃ q.
        require_inv (not (not_bool b.type)) 9 l _ q λ _ q.
        need_checked_inv (join_types W c.type d.type) 9 l _ q λ t _ q.
        done (has γ.this) q
        (has_join W c.slots.this d.slots.this (has γ.this)
        (this_kept x (l + 1 + size e) b.slots c e₂ ∙ this_kept e (l + 1) γ b e₁)
        (this_kept y (l + 1 + size e + size x) b.slots d e₃ ∙ this_kept e (l + 1) γ b e₁))
    this_kept (block ts es) l γ a q =
        bind_checked_inv (locals_declared W (l + 1) ts) _ q λ _ e₁ q.
        bind_checked_inv (type_all W es (l + 1 + length ts) (opened γ (map fresh_slot ts))) _ q λ b e₂ q.
        done (has γ.this) q (this_kept_all es (l + 1 + length ts) (opened γ (map fresh_slot ts)) b e₂)

    this_kept_all : (es : Exprs) (l : ℕ) (γ : Environment) (b : TypedAll) → type_all W es l γ ≡ accept b
        → has b.slots.this ≡ has γ.this
    this_kept_all nil l γ b q = ap (λ (x : TypedAll). has x.slots.this) (sym (accept_injective q))
    this_kept_all (cons e es) l γ b q =
        bind_checked_inv (type_of W e l γ) _ q λ a e₁ q.
        bind_checked_inv (type_all W es (l + size e) a.slots) _ q λ d e₂ q.
        ap (λ (x : TypedAll). has x.slots.this) (sym (accept_injective q))
        ∙ (this_kept_all es (l + size e) a.slots d e₂ ∙ this_kept e l γ a e₁)

  pub types_count : (es : Exprs) (l : ℕ) (γ : Environment) (b : TypedAll) → type_all W es l γ ≡ accept b
      → length b.types ≡ count es
  unfolding type_all count
  types_count nil l γ b q = ap (λ (x : TypedAll). length x.types) (sym (accept_injective q))
  types_count (cons e es) l γ b q =
      bind_checked_inv (type_of W e l γ) _ q λ a e₁ q.
      bind_checked_inv (type_all W es (l + size e) a.slots) _ q λ d e₂ q.
      ap (λ (x : TypedAll). length x.types) (sym (accept_injective q))
      ∙ ap suc (types_count es (l + size e) a.slots d e₂)
