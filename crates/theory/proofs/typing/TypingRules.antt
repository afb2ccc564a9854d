-- The rules of typing and the typing function agree.
use mathlib.Core.Path.{◌≡◌, refl, ap}
use Prim.Native.Nat.{ℕ, zero, suc, ◌+◌}
use mathlib.Core.Bool.{Bool, true, false, not, ◌&&◌}
use mathlib.Core.List.{List, [], ◌∷◌, map}
use lib.ListN.{length}
use lib.Dec.{eqb}
use native.Mathlib.Omega.{arith}
use borrow.Author.Tests.{ne_eqb}
use Rattle.language.specs.Results.{Checked, accept, passed, bind_checked, need_checked, require}
use Rattle.language.specs.Results.{bind_checked_inv, need_checked_inv, require_inv, accept_injective}
use Rattle.language.specs.Results.{accept≢refuse}
use Rattle.language.specs.Frames.{opened}
use Rattle.language.specs.Tree.{DeclaredType, bool, class, ExprType, known, null_type, Expr, literal}
use Rattle.language.specs.Tree.{slot, is_null, get, cast, new, change, assign}
use Rattle.language.specs.Tree.{set, call, choose, block, Exprs, nil, cons, size}
use Rattle.language.specs.World.{World}
use Rattle.language.specs.Environment.{Environment, fresh_slot}
use Rattle.language.specs.Typing.{Typed, TypedAll, need_class, not_bool, fits}
use Rattle.language.specs.Typing.{all_fit, locals_declared, type_of, type_all}
use Rattle.theory.specs.ComputedRules.{Declared, declared_nil, declared_cons, HasType, HaveTypes}
use Rattle.theory.specs.ComputedRules.{type_literal}
use Rattle.theory.specs.ComputedRules.{type_slot, type_new, type_cast, type_get, type_set}
use Rattle.theory.specs.ComputedRules.{type_assign, type_is_null, type_call, type_choose, type_block}
use Rattle.theory.specs.ComputedRules.{type_change}
use Rattle.theory.specs.ComputedRules.{types_nil, types_cons}
use Rattle.language.proofs.Booleans.{false≢}

need_class_inv : {B C : Type 0} (t : ExprType) (n l : ℕ) (k : ℕ → Checked B) {b : B}
    → need_class t n l k ≡ accept b → ((c : ℕ) → t ≡ known (class c) → k c ≡ accept b → C) → C
unfolding need_class
need_class_inv (known bool) n l k e f = absurd (accept≢refuse n l e)
need_class_inv (known (class c)) n l k e f = f c refl e
need_class_inv null_type n l k e f = absurd (accept≢refuse n l e)

known_injective : {t u : DeclaredType} → ◌≡◌ {A = ExprType} (known t) (known u) → t ≡ u
known_injective e = cc

not_bool_inv : (t : ExprType) → not (not_bool t) ≡ true → t ≡ known bool
not_bool_inv (known bool) e = refl
not_bool_inv (known (class c)) e = false≢ e
not_bool_inv null_type e = false≢ e

module _ (W : World) where
  locals_derive : (at : ℕ) (ts : List DeclaredType) (a : Unit {0}) → locals_declared W at ts ≡ accept a
      → Declared W ts
  unfolding locals_declared
  locals_derive at [] a q = declared_nil
  locals_derive at (t ∷ ts) a q = require_inv _ _ _ _ q λ e q. declared_cons e (locals_derive (at + 1) ts a q)

  locals_complete : (at : ℕ) {ts : List DeclaredType} → Declared W ts → locals_declared W at ts ≡ passed
  unfolding locals_declared require
  locals_complete at declared_nil = refl
  locals_complete at (declared_cons e d) = rw e (locals_complete (at + 1) d)

  pub all_fit_length : (ts : List ExprType) (us : List DeclaredType) → all_fit W ts us ≡ true
      → length ts ≡ length us
  unfolding all_fit
  all_fit_length [] [] e = refl
  all_fit_length [] (u ∷ us) e = false≢ e
  all_fit_length (t ∷ ts) [] e = false≢ e
  all_fit_length (t ∷ ts) (u ∷ us) e = ap suc (all_fit_length ts us (tail (fits W t u) e))
    where
      tail : (b : Bool) → (b && all_fit W ts us) ≡ true → all_fit W ts us ≡ true
      tail true e = e
      tail false e = false≢ e

  abbrev Has : Environment → Expr → Typed → Type 0
  Has γ e a = HasType W γ e a.type a.slots a.effect

  abbrev Have : Environment → Exprs → TypedAll → Type 0
  Have γ es a = HaveTypes W γ es a.types a.slots a.effect

  mutual
    unfolding type_of

    pub derive : (e : Expr) (at : ℕ) (γ : Environment) (a : Typed) → type_of W e at γ ≡ accept a → Has γ e a
    derive (literal l) at γ a q = rw (← accept_injective q) type_literal
    derive (slot k) at γ a q = need_checked_inv _ _ _ _ q λ s e₁ q. rw (← accept_injective q) (type_slot e₁)
    derive (is_null e) at γ a q = bind_checked_inv _ _ q λ b e₁ q. require_inv _ _ _ _ q λ e₂ q.
        rw (← accept_injective q) (type_is_null (derive e (at + 1) γ b e₁) e₂)
    derive (get f e) at γ a q = bind_checked_inv _ _ q λ b e₁ q. need_class_inv _ _ _ _ q λ c e₂ q.
        need_checked_inv _ _ _ _ q λ t e₃ q.
        rw (← accept_injective q) (type_get (rw e₂ at (derive e (at + 1) γ b e₁)) e₃)
    derive (cast c e) at γ a q = bind_checked_inv _ _ q λ b e₁ q. require_inv _ _ _ _ q λ e₂ q.
        require_inv _ _ _ _ q λ e₃ q.
        rw (← accept_injective q) (type_cast (derive e (at + 1) γ b e₁) e₂ e₃)
    derive (new c) at γ a q = require_inv _ _ _ _ q λ e₁ q. rw (← accept_injective q) (type_new e₁)
    derive (change k d) at γ a q = require_inv _ _ _ _ q λ e₁ q. need_checked_inv _ _ _ _ q λ s e₂ q.
        need_class_inv _ _ _ _ q λ c e₃ q. require_inv _ _ _ _ q λ e₄ q.
        rw (← accept_injective q) (type_change e₁ e₂ (known_injective e₃) e₄)
    derive (assign zero e) at γ a q = bind_checked_inv _ _ q λ b e₁ q. require_inv _ _ _ _ q λ e₂ q. false≢ e₂
    derive (assign (suc k) e) at γ a q = bind_checked_inv _ _ q λ b e₁ q. require_inv _ _ _ _ q λ e₂ q.
        need_checked_inv _ _ _ _ q λ s e₃ q.
        require_inv _ _ _ _ q λ e₄ q. rw (← accept_injective q) (type_assign (derive e (at + 1) γ b e₁) e₃ e₄)
    derive (set f e e') at γ a q = bind_checked_inv _ _ q λ b e₁ q. bind_checked_inv _ _ q λ b' e₁' q.
        need_class_inv _ _ _ _ q λ c e₂ q.
        need_checked_inv _ _ _ _ q λ t e₃ q. require_inv _ _ _ _ q λ e₄ q.
        rw (← accept_injective q)
        (type_set (rw e₂ at (derive e (at + 1) γ b e₁)) (derive e' (at + 1 + size e) b.slots b' e₁') e₃
        e₄)
    derive (call m e es) at γ a q = bind_checked_inv _ _ q λ b e₁ q. bind_checked_inv _ _ q λ b' e₁' q.
        need_class_inv _ _ _ _ q λ c e₂ q.
        need_checked_inv _ _ _ _ q λ M e₃ q. require_inv _ _ _ _ q λ e₄ q. require_inv _ _ _ _ q λ e₅ q.
        rw (← accept_injective q)
        (type_call M (rw e₂ at (derive e (at + 1) γ b e₁))
        (derives es (at + 1 + size e) b.slots b' e₁') e₃ e₅)
    derive (choose e x y) at γ a q = bind_checked_inv _ _ q λ b e₁ q. bind_checked_inv _ _ q λ b' e₁' q.
        bind_checked_inv _ _ q λ b'' e₁'' q.
        require_inv _ _ _ _ q λ e₂ q. need_checked_inv _ _ _ _ q λ t e₃ q.
        rw (← accept_injective q)
        (type_choose (rw (not_bool_inv b.type e₂) at (derive e (at + 1) γ b e₁))
        (derive x (at + 1 + size e) b.slots b' e₁')
        (derive y (at + 1 + size e + size x) b.slots b'' e₁'') e₃)
    derive (block ts es) at γ a q = bind_checked_inv _ _ q λ u e₀ q. bind_checked_inv _ _ q λ b e₁ q.
        rw (← accept_injective q)
        (type_block (locals_derive (at + 1) ts u e₀)
        (derives es (at + 1 + length ts) (opened γ (map fresh_slot ts)) b e₁))

    pub derives : (es : Exprs) (at : ℕ) (γ : Environment) (a : TypedAll) → type_all W es at γ ≡ accept a
        → Have γ es a
    derives nil at γ a q = rw (← accept_injective q) types_nil
    derives (cons e es) at γ a q = bind_checked_inv _ _ q λ b e₁ q. bind_checked_inv _ _ q λ b' e₁' q.
        rw (← accept_injective q)
        (types_cons (derive e at γ b e₁) (derives es (at + size e) b.slots b' e₁'))

  mutual
    unfolding type_of bind_checked need_checked need_class require

    pub complete : (e : Expr) {γ γ' : Environment} {t : ExprType} {φ : ℕ} → HasType W γ e t γ' φ → (at : ℕ)
        → type_of W e at γ ≡ accept (record { type = t; slots = γ'; effect = φ })
    complete (literal l) type_literal at = refl
    complete (slot k) (type_slot h) at = rw h
    complete (is_null e) (type_is_null d n) at = rw (complete e d (at + 1), n)
    complete (get f e) (type_get d h) at = rw (complete e d (at + 1), h)
    complete (cast c e) (type_cast d k n) at = rw (complete e d (at + 1), k, n)
    complete (new c) (type_new k) at = rw k
    complete (change k d) (type_change i h c f) at = rw (i, h, c, f)
    complete (assign (suc k) e) (type_assign d h f) at =
        rw (complete e d (at + 1), ne_eqb (suc k) 0 (omega arith), h, f)
    complete (set f e e') (type_set d d' h g) at =
        rw (complete e d (at + 1), complete e' d' (at + 1 + size e), h, g)
    complete (call m e es) (type_call {ts} M d d' h f) at =
        rw (complete e d (at + 1), completes es d' (at + 1 + size e), h, eq_lengths ts M.parameters f, f)
      where
        eq_lengths : (ts : List ExprType) (us : List DeclaredType) → all_fit W ts us ≡ true
            → eqb (length ts) (length us) ≡ true
        eq_lengths ts us f = borrow.Author.Tests.eq-eqb (length ts) (length us) (all_fit_length ts us f)
    complete (choose e x y) (type_choose d d' d'' j) at =
        rw (
          complete e d (at + 1),
          complete x d' (at + 1 + size e),
          complete y d'' (at + 1 + size e + size x),
          j,
        )
    complete (block ts es) (type_block l d) at =
        rw (locals_complete (at + 1) l, completes es d (at + 1 + length ts))
    complete (assign zero e) {γ = γ} {t = t} {φ = φ} x4 at = elim x4 [ ]

    pub completes : (es : Exprs) {γ γ' : Environment} {ts : List ExprType} {φ : ℕ} → HaveTypes W γ es ts γ' φ
        → (at : ℕ)
        → type_all W es at γ ≡ accept (record { types = ts; slots = γ'; effect = φ })
    completes nil types_nil at = refl
    completes (cons e es) (types_cons d d') at = rw (complete e d at, completes es d' (at + size e))
