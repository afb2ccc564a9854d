-- Laws of the definition's typing: the line says where a refusal stands and nothing else, and an expression's
-- lookup classes stand in its own rows. Assumes nothing.
use mathlib.Core.Path.{◌≡◌, refl, ◌∙◌}
use mathlib.Core.Bool.{Bool, true, false, not}
use mathlib.Core.Option.{Option, none, some}
use mathlib.Core.List.{List, [], ◌∷◌, map}
use Prim.Native.Nat.{ℕ, ◌+◌, ◌≤◌, ◌<◌}
use native.Mathlib.Omega.{arith}
use lib.Dec.{eqb}
use lib.ListN.{length, get_or}
use Rattle.language.specs.Results.{Checked, accept, refuse, bind_checked, need_checked, require}
use Rattle.language.specs.Results.{accept≢refuse}
use Rattle.language.specs.Frames.{at_slot, opened}
use Rattle.language.specs.Tree.{DeclaredType, bool, class, ExprType, known, null_type, Expr, literal, slot}
use Rattle.language.specs.Tree.{is_null, get, cast, new, change, assign, set, call, choose, block, Exprs, nil}
use Rattle.language.specs.Tree.{cons, size, sizes}
use Rattle.language.specs.World.{World, field_type, is_declared, is_declared_type}
use Rattle.language.specs.Effects.{apply_class}
use Rattle.language.specs.Environment.{Environment, fresh_slot}
use Rattle.language.specs.Typing.{Typed, TypedAll, not_bool, need_class, fits, all_fit, join_types}
use Rattle.language.specs.Typing.{can_change, locals_declared, type_of, type_all}
use Rattle.language.specs.LookupClasses.{LooksUp, LooksUpAll}

-- ---- the line changes where a refusal stands, and nothing else

data Same {A : Type 0} : Checked A → Checked A → Type 0 where
  same_accept : (a : A) → Same (accept a) (accept a)
  same_refuse : (n l m k : ℕ) → Same (refuse n l) (refuse m k)

same_bind : {A B : Type 0} {x y : Checked A} {f g : A → Checked B} → Same x y → ((a : A) → Same (f a) (g a))
    → Same (bind_checked x f) (bind_checked y g)
unfolding bind_checked
same_bind (same_accept a) h = h a
same_bind (same_refuse n l m k) h = same_refuse n l m k

same_need : {A B : Type 0} (o : Option A) (n l l' : ℕ) {f g : A → Checked B} → ((a : A) → Same (f a) (g a))
    → Same (need_checked o n l f) (need_checked o n l' g)
unfolding need_checked
same_need none n l l' h = same_refuse n l n l'
same_need (some a) n l l' h = h a

same_require : {B : Type 0} (b : Bool) (n l l' : ℕ) {f g : Bool → Checked B} → ((u : Bool) → Same (f u) (g u))
    → Same (require b n l f) (require b n l' g)
unfolding require
same_require true n l l' h = h true
same_require false n l l' h = same_refuse n l n l'

same_class : {B : Type 0} (t : ExprType) (n l l' : ℕ) {f g : ℕ → Checked B} → ((c : ℕ) → Same (f c) (g c))
    → Same (need_class t n l f) (need_class t n l' g)
unfolding need_class
same_class (known bool) n l l' h = same_refuse n l n l'
same_class (known (class c)) n l l' h = h c
same_class null_type n l l' h = same_refuse n l n l'

same_accepted : {A : Type 0} {x y : Checked A} {a : A} → Same x y → x ≡ accept a → y ≡ accept a
same_accepted (same_accept b) e = e
same_accepted (same_refuse n l m k) e = absurd (accept≢refuse n l e)

module _ (W : World) where
  same_locals : (ts : List DeclaredType) (l l' : ℕ) → Same (locals_declared W l ts) (locals_declared W l' ts)
  unfolding locals_declared
  same_locals [] l l' = same_accept tt
  same_locals (t ∷ ts) l l' =
      same_require (is_declared_type W t) 4 l l' (λ u. same_locals ts (l + 1) (l' + 1))

  mutual
    unfolding type_of

    same_typed : (e : Expr) (l l' : ℕ) (γ : Environment) → Same (type_of W e l γ) (type_of W e l' γ)
    same_typed (literal x) l l' γ = same_accept _
    same_typed (slot k) l l' γ = same_need (at_slot γ k) 7 l l' λ s. same_accept _
    same_typed (is_null e) l l' γ = same_bind (same_typed e (l + 1) (l' + 1) γ) λ a.
        same_require (not_bool a.type) 9 l l' (λ u. same_accept _)
    same_typed (get f e) l l' γ = same_bind (same_typed e (l + 1) (l' + 1) γ) λ a.
        same_class a.type 9 l l' λ c. same_need (field_type f (W.fields c)) 8 l l' λ t. same_accept _
    same_typed (cast c e) l l' γ = same_bind (same_typed e (l + 1) (l' + 1) γ) λ a.
        same_require (is_declared W c) 4 l l'
        (λ u. same_require (not_bool a.type) 9 l l' (λ v. same_accept _))
    same_typed (new c) l l' γ = same_require (W.makes c) 4 l l' (λ u. same_accept _)
    same_typed (change k d) l l' γ = same_require (is_declared W d) 4 l l'
        (λ u. same_need (at_slot γ k) 7 l l' λ s. same_class (known s.current) 11 l l' λ c.
        same_require (can_change W c d) 11 l l' (λ u. same_accept _))
    same_typed (assign k e) l l' γ = same_bind (same_typed e (l + 1) (l' + 1) γ) λ a.
        same_require (not (eqb k 0)) 7 l l' (λ u. same_need (at_slot a.slots k) 7 l l' λ s.
        same_require (fits W a.type s.current) 9 l l' (λ u. same_accept _))
    same_typed (set f e e') l l' γ = same_bind (same_typed e (l + 1) (l' + 1) γ) λ a.
        same_bind (same_typed e' (l + 1 + size e) (l' + 1 + size e) a.slots) λ b.
        same_class a.type 9 l l' λ c.
        same_need (field_type f (W.fields (apply_class W b.effect c))) 8 l l' λ t.
        same_require (fits W b.type t) 9 l l' (λ u. same_accept _)
    same_typed (call m e es) l l' γ = same_bind (same_typed e (l + 1) (l' + 1) γ) λ a.
        same_bind (same_typed_all es (l + 1 + size e) (l' + 1 + size e) a.slots) λ b.
        same_class a.type 9 l l' λ c. same_need (W.method (apply_class W b.effect c) m) 8 l l' λ M.
        same_require (eqb (length b.types) (length M.parameters)) 8 l l'
        (λ u. same_require (all_fit W b.types M.parameters) 9 l l' (λ u. same_accept _))
    same_typed (choose e x y) l l' γ = same_bind (same_typed e (l + 1) (l' + 1) γ) λ a.
        same_bind (same_typed x (l + 1 + size e) (l' + 1 + size e) a.slots) λ b.
        same_bind (same_typed y (l + 1 + size e + size x) (l' + 1 + size e + size x) a.slots) λ c.
        same_require (not (not_bool a.type)) 9 l l'
        (λ u. same_need (join_types W b.type c.type) 9 l l' λ t. same_accept _)
    same_typed (block ts es) l l' γ = same_bind (same_locals ts (l + 1) (l' + 1)) λ u.
        same_bind (same_typed_all es (l + 1 + length ts) (l' + 1 + length ts) (opened γ (map fresh_slot ts)))
        λ b.
        same_accept _

    same_typed_all : (es : Exprs) (l l' : ℕ) (γ : Environment) → Same (type_all W es l γ) (type_all W es l' γ)
    same_typed_all nil l l' γ = same_accept _
    same_typed_all (cons e es) l l' γ = same_bind (same_typed e l l' γ) λ a.
        same_bind (same_typed_all es (l + size e) (l' + size e) a.slots) λ b. same_accept _

  -- what is accepted on one line is accepted on every line
  pub line_free : (e : Expr) (l l' : ℕ) (γ : Environment) {a : Typed} → type_of W e l γ ≡ accept a
      → type_of W e l' γ ≡ accept a
  line_free e l l' γ h = same_accepted (same_typed e l l' γ) h

  pub line_free_all : (es : Exprs) (l l' : ℕ) (γ : Environment) {b : TypedAll} → type_all W es l γ ≡ accept b
      → type_all W es l' γ ≡ accept b
  line_free_all es l l' γ h = same_accepted (same_typed_all es l l' γ) h

-- ---- the lookup classes of an expression stand in its own rows, in tables of one length

module _ (W : World) (C C' : List ℕ) (long : length C' ≡ length C) where
  mutual
    unfolding LooksUp size

    pub looks_frame : (e : Expr) (γ : Environment) (r : ℕ)
        → ((i : ℕ) → r ≤ i → i < r + size e → get_or C' i 0 ≡ get_or C i 0)
        → LooksUp W C e γ r → LooksUp W C' e γ r
    looks_frame (literal l) γ r s h = tt
    looks_frame (slot k) γ r s h = tt
    looks_frame (is_null e) γ r s h = looks_frame e γ (r + 1) (λ i l m. s i (omega arith) (omega arith)) h
    looks_frame (get f e) γ r s h = (
      (λ l. s r (omega arith) (omega arith) ∙ h.0 (omega (arith, l, long))),
      looks_frame e γ (r + 1) (λ i l m. s i (omega arith) (omega arith)) h.1,
    )
    looks_frame (cast c e) γ r s h = looks_frame e γ (r + 1) (λ i l m. s i (omega arith) (omega arith)) h
    looks_frame (new c) γ r s h = tt
    looks_frame (change k d) γ r s h = tt
    looks_frame (assign k e) γ r s h = looks_frame e γ (r + 1) (λ i l m. s i (omega arith) (omega arith)) h
    looks_frame (set f e e') γ r s h = (
      (λ l. s r (omega arith) (omega arith) ∙ h.0 (omega (arith, l, long))),
      looks_frame e γ (r + 1) (λ i l m. s i (omega arith) (omega arith)) h.1,
      looks_frame e' _ (r + 1 + size e) (λ i l m. s i (omega arith) (omega arith)) h.2,
    )
    looks_frame (call m e es) γ r s h = (
      (λ l. s r (omega arith) (omega arith) ∙ h.0 (omega (arith, l, long))),
      looks_frame e γ (r + 1) (λ i l m. s i (omega arith) (omega arith)) h.1,
      looks_frame_all es _ (r + 1 + size e) (λ i l m. s i (omega arith) (omega arith)) h.2,
    )
    looks_frame (choose e x y) γ r s h = (
      looks_frame e γ (r + 1) (λ i l m. s i (omega arith) (omega arith)) h.0,
      looks_frame x _ (r + 1 + size e) (λ i l m. s i (omega arith) (omega arith)) h.1,
      looks_frame y _ (r + 1 + size e + size x) (λ i l m. s i (omega arith) (omega arith)) h.2,
    )
    looks_frame (block ts es) γ r s h =
        looks_frame_all es _ (r + 1 + length ts) (λ i l m. s i (omega arith) (omega arith)) h

    pub looks_frame_all : (es : Exprs) (γ : Environment) (r : ℕ)
        → ((i : ℕ) → r ≤ i → i < r + sizes es → get_or C' i 0 ≡ get_or C i 0)
        → LooksUpAll W C es γ r → LooksUpAll W C' es γ r
    looks_frame_all nil γ r s h = tt
    looks_frame_all (cons e es) γ r s h = (
      looks_frame e γ r (λ i l m. s i l (omega arith)) h.0,
      looks_frame_all es _ (r + size e) (λ i l m. s i (omega arith) (omega arith)) h.1,
    )

-- a class that is needed
pub class_inv : {B X : Type 0} (t : ExprType) (n l : ℕ) (k : ℕ → Checked B) {b : B}
    → need_class t n l k ≡ accept b → ((c : ℕ) → t ≡ known (class c) → k c ≡ accept b → X) → X
unfolding need_class
class_inv (known bool) n l k e f = absurd (accept≢refuse n l e)
class_inv (known (class c)) n l k e f = f c refl e
class_inv null_type n l k e f = absurd (accept≢refuse n l e)
