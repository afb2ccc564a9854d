-- The parts of the expression at a row, by the letter there. Assumes nothing.
use mathlib.Core.Path.{◌≡◌, refl}
use mathlib.Core.List.{List}
use Prim.Native.Nat.{ℕ, ◌*◌}
use lib.ListN.{get_or}
use Rattle.language.specs.Rows.{T_true, L_false, N_null, I_slot, Z_is_null, G_get, K_cast, W_new, R_change}
use Rattle.language.specs.Rows.{A_assign, U_set, Q_call, J_choose, B_block}
use Rattle.language.specs.Tree.{DeclaredType, Expr, literal, literal_true, literal_false, literal_null, slot}
use Rattle.language.specs.Tree.{is_null}
use Rattle.language.specs.Tree.{get, cast, new, change, assign, set, call, choose, block, Exprs}
use Rattle.language.proofs.Nodes.{Head, by_row}
use Rattle.language.specs.Rows.{code}

module _ {R E : List ℕ} {x : Expr} {r : ℕ} (p : Head R E x r) where
  pub as_literal_true : get_or R (r * 4) 0 ≡ code T_true → x ≡ (literal literal_true)
  as_literal_true h = by_row (λ x. x ≡ (literal literal_true)) T_true p h refl

  pub as_literal_false : get_or R (r * 4) 0 ≡ code L_false → x ≡ (literal literal_false)
  as_literal_false h = by_row (λ x. x ≡ (literal literal_false)) L_false p h refl

  pub as_literal_null : get_or R (r * 4) 0 ≡ code N_null → x ≡ (literal literal_null)
  as_literal_null h = by_row (λ x. x ≡ (literal literal_null)) N_null p h refl

  pub as_slot : get_or R (r * 4) 0 ≡ code I_slot → (i : ℕ) × (x ≡ slot i)
  as_slot h = by_row (λ x. (i : ℕ) × (x ≡ slot i)) I_slot p h λ i. (i, refl)

  pub as_is_null : get_or R (r * 4) 0 ≡ code Z_is_null → (e : Expr) × (x ≡ is_null e)
  as_is_null h = by_row (λ x. (e : Expr) × (x ≡ is_null e)) Z_is_null p h λ e. (e, refl)

  pub as_get : get_or R (r * 4) 0 ≡ code G_get → (f : ℕ) × (e : Expr) × (x ≡ get f e)
  as_get h = by_row (λ x. (f : ℕ) × (e : Expr) × (x ≡ get f e)) G_get p h λ f e. (f, e, refl)

  pub as_cast : get_or R (r * 4) 0 ≡ code K_cast → (c : ℕ) × (e : Expr) × (x ≡ cast c e)
  as_cast h = by_row (λ x. (c : ℕ) × (e : Expr) × (x ≡ cast c e)) K_cast p h λ c e. (c, e, refl)

  pub as_new : get_or R (r * 4) 0 ≡ code W_new → (c : ℕ) × (x ≡ new c)
  as_new h = by_row (λ x. (c : ℕ) × (x ≡ new c)) W_new p h λ c. (c, refl)

  pub as_change : get_or R (r * 4) 0 ≡ code R_change → (i : ℕ) × (c : ℕ) × (x ≡ change i c)
  as_change h = by_row (λ x. (i : ℕ) × (c : ℕ) × (x ≡ change i c)) R_change p h λ i c. (i, c, refl)

  pub as_assign : get_or R (r * 4) 0 ≡ code A_assign → (i : ℕ) × (e : Expr) × (x ≡ assign i e)
  as_assign h = by_row (λ x. (i : ℕ) × (e : Expr) × (x ≡ assign i e)) A_assign p h λ i e. (i, e, refl)

  pub as_set : get_or R (r * 4) 0 ≡ code U_set → (f : ℕ) × (e : Expr) × (e' : Expr) × (x ≡ set f e e')
  as_set h = by_row (λ x. (f : ℕ) × (e : Expr) × (e' : Expr) × (x ≡ set f e e')) U_set p h λ f e e'.
      (f, e, e', refl)

  pub as_call : get_or R (r * 4) 0 ≡ code Q_call → (m : ℕ) × (e : Expr) × (es : Exprs) × (x ≡ call m e es)
  as_call h = by_row (λ x. (m : ℕ) × (e : Expr) × (es : Exprs) × (x ≡ call m e es)) Q_call p h λ m e es.
      (m, e, es, refl)

  pub as_choose : get_or R (r * 4) 0 ≡ code J_choose → (a : Expr) × (b : Expr) × (c : Expr) × (x ≡ choose a b c)
  as_choose h = by_row (λ x. (a : Expr) × (b : Expr) × (c : Expr) × (x ≡ choose a b c)) J_choose p h λ a b c.
      (a, b, c, refl)

  pub as_block : get_or R (r * 4) 0 ≡ code B_block → (ts : List DeclaredType) × (es : Exprs) × (x ≡ block ts es)
  as_block h = by_row (λ x. (ts : List DeclaredType) × (es : Exprs) × (x ≡ block ts es)) B_block p h λ ts es.
      (ts, es, refl)
