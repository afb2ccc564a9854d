-- Laws of nodes: the letter of an expression's line, the expressions that a letter tells, and the row of an expression.
-- Assumes nothing.
use mathlib.Core.Path.{◌≡◌, sym, subst, ◌∙◌}
use mathlib.Core.Logic.{◌≢◌}
use mathlib.Core.List.{List}
use Prim.Native.Nat.{ℕ, ◌+◌, ◌*◌, ◌<◌}
use lib.ListN.{length, get_or}
use Rattle.language.specs.Rows.{Letter, code, C_class, F_field, M_method, P_parameter, X_effect}
use Rattle.language.specs.Rows.{S_start, V_local, T_true, L_false, N_null, I_slot, Z_is_null, G_get}
use Rattle.language.specs.Rows.{K_cast, W_new, R_change, A_assign, U_set, Q_call, J_choose, B_block}
use Rattle.language.specs.Tree.{DeclaredType, Expr, literal, literal_true, literal_false, literal_null}
use Rattle.language.specs.Tree.{slot}
use Rattle.language.specs.Tree.{is_null, get, cast, new, change, assign, set, call, choose, block}
use Rattle.language.specs.Tree.{Exprs, size, literal_record}
use Rattle.language.specs.Encoded.{NodeAt, Encoded}
use Rattle.language.proofs.Letters.{code_injective}

-- The letter of an expression's line.
abbrev pub letter_of : Expr → Letter
letter_of (literal l) = (literal_record l).letter
letter_of (slot k) = I_slot
letter_of (is_null e) = Z_is_null
letter_of (get f e) = G_get
letter_of (cast c e) = K_cast
letter_of (new c) = W_new
letter_of (change k d) = R_change
letter_of (assign k e) = A_assign
letter_of (set f e e') = U_set
letter_of (call m e es) = Q_call
letter_of (choose e x y) = J_choose
letter_of (block ts es) = B_block

-- Something of each expression that a letter tells; of a letter that no node has there is nothing to say.
abbrev pub EachTree : (Expr → Type 0) → Letter → Type 0
EachTree B T_true = B (literal literal_true)
EachTree B L_false = B (literal literal_false)
EachTree B N_null = B (literal literal_null)
EachTree B I_slot = (k : ℕ) → B (slot k)
EachTree B Z_is_null = (e : Expr) → B (is_null e)
EachTree B G_get = (f : ℕ) (e : Expr) → B (get f e)
EachTree B K_cast = (c : ℕ) (e : Expr) → B (cast c e)
EachTree B W_new = (c : ℕ) → B (new c)
EachTree B R_change = (k d : ℕ) → B (change k d)
EachTree B A_assign = (k : ℕ) (e : Expr) → B (assign k e)
EachTree B U_set = (f : ℕ) (e e' : Expr) → B (set f e e')
EachTree B Q_call = (m : ℕ) (e : Expr) (es : Exprs) → B (call m e es)
EachTree B J_choose = (e x y : Expr) → B (choose e x y)
EachTree B B_block = (ts : List DeclaredType) (es : Exprs) → B (block ts es)
EachTree B C_class = Unit {0}
EachTree B F_field = Unit {0}
EachTree B M_method = Unit {0}
EachTree B P_parameter = Unit {0}
EachTree B X_effect = Unit {0}
EachTree B S_start = Unit {0}
EachTree B V_local = Unit {0}

each_tree : (B : Expr → Type 0) (e : Expr) → EachTree B (letter_of e) → B e
each_tree B (literal literal_true) g = g
each_tree B (literal literal_false) g = g
each_tree B (literal literal_null) g = g
each_tree B (slot k) g = g k
each_tree B (is_null e) g = g e
each_tree B (get f e) g = g f e
each_tree B (cast c e) g = g c e
each_tree B (new c) g = g c
each_tree B (change k d) g = g k d
each_tree B (assign k e) g = g k e
each_tree B (set f e e') g = g f e e'
each_tree B (call m e es) g = g m e es
each_tree B (choose e x y) g = g e x y
each_tree B (block ts es) g = g ts es

-- what holds of each expression of a letter holds of one that has its code
by_letter : (B : Expr → Type 0) (l : Letter) (e : Expr) → code (letter_of e) ≡ code l → EachTree B l → B e
by_letter B l e h g =
    each_tree B e (subst (λ (m : Letter). EachTree B m) (sym (code_injective (letter_of e) l h)) g)

-- no expression has the letter of a line of a heading
pub no_heading : (e : Expr) → (code (letter_of e) ≢ 80) × (code (letter_of e) ≢ 88)
no_heading e =
    (λ h. by_letter (λ e. ⊥) P_parameter e h tt, λ h. by_letter (λ e. ⊥) X_effect e h tt)

-- The row of an expression, and the row after it.
pub record Head (R E : List ℕ) (e : Expr) (r : ℕ) : Type 0 where
  pub row : r * 4 + 3 < length R
  pub letter : get_or R (r * 4) 0 ≡ code (letter_of e)
  pub in_ends : r < length E
  pub end : get_or E r 0 ≡ r + size e

of_node : {R E : List ℕ} {e : Expr} {r a b : ℕ} → NodeAt R E r (letter_of e) a b (size e) → Head R E e r
of_node h = record { row = h.row.within; letter = h.row.letter; in_ends = h.in_ends; end = h.end }

pub head : {R E : List ℕ} (e : Expr) {r : ℕ} → Encoded R E e r → Head R E e r
unfolding Encoded size
head (literal l) h = of_node h
head (slot k) h = of_node h
head (is_null e) h = of_node h.0
head (get f e) h = of_node h.0
head (cast c e) h = of_node h.0
head (new c) h = of_node h
head (change k d) h = of_node h
head (assign k e) h = of_node h.0
head (set f e e') h = of_node h.0
head (call m e es) h = of_node h.0
head (choose e x y) h = of_node h.0
head (block ts es) h = of_node h.0

-- what holds of each expression of the letter that a row has holds of the expression there
pub by_row : {R E : List ℕ} {e : Expr} {r : ℕ} (B : Expr → Type 0) (l : Letter) → Head R E e r
    → get_or R (r * 4) 0 ≡ code l → EachTree B l → B e
by_row {e = e} B l x h = by_letter B l e (sym x.letter ∙ h)
