-- How rows of numbers and the table of ends hold an expression: row r has the node, its children follow, and the table
-- of ends has for each node the row after its subtree. Rows are counted from 0. The form pass fills the table; typing,
-- translation and evaluation read rows and table only through these definitions.
use Rattle.std.specs.Prelude.{◌≡◌, ℕ, ◌+◌, ◌*◌, ◌<◌, List, [], ◌∷◌, length, get_or}
use Rattle.language.specs.Rows.{Letter, I_slot, Z_is_null, G_get, K_cast}
use Rattle.language.specs.Rows.{W_new, R_change}
use Rattle.language.specs.Rows.{A_assign, U_set, Q_call, J_choose, B_block, V_local, code}
use Rattle.language.specs.Tree.{DeclaredType, type_number, Expr, literal_record, literal}
use Rattle.language.specs.Tree.{slot}
use Rattle.language.specs.Tree.{is_null, get, cast, new, change, assign, set, call, choose, block}
use Rattle.language.specs.Tree.{Exprs, nil, cons}
use Rattle.language.specs.Tree.{count, size, sizes}

-- Row r of R has a letter and two numbers.
pub record RowAt (R : List ℕ) (r : ℕ) (l : Letter) (a b : ℕ) : Type 0 where
  pub within : r * 4 + 3 < length R
  pub letter : get_or R (r * 4) 0 ≡ code l
  pub first : get_or R (r * 4 + 1) 0 ≡ a
  pub second : get_or R (r * 4 + 2) 0 ≡ b

-- The same of a node whose subtree takes n rows.
pub record NodeAt (R E : List ℕ) (r : ℕ) (l : Letter) (a b n : ℕ) : Type 0 where
  pub row : RowAt R r l a b
  pub in_ends : r < length E
  pub end : get_or E r 0 ≡ r + n

-- Lines one after another from row r on: something of each, and of its row.
module _ {A : Type 0} (Q : A → ℕ → Type 0) where
  unfoldable pub LinesAt : List A → ℕ → Type 0
  LinesAt [] r = Unit {0}
  LinesAt (x ∷ xs) r = Q x r × LinesAt xs (r + 1)

-- Lines of one letter that have a type each: V lines, and P lines.
abbrev pub TypesAt : Letter → List ℕ → List DeclaredType → ℕ → Type 0
TypesAt l R ts r = LinesAt (λ (t : DeclaredType) (i : ℕ). RowAt R i l (type_number t) 0) ts r

unfoldable mutual
  pub Encoded : List ℕ → List ℕ → Expr → ℕ → Type 0
  Encoded R E (literal l) r =
      NodeAt R E r (literal_record l).letter (literal_record l).first (literal_record l).second 1
  Encoded R E (slot k) r = NodeAt R E r I_slot k 0 1
  Encoded R E (is_null e) r = NodeAt R E r Z_is_null 0 0 (1 + size e) × Encoded R E e (r + 1)
  Encoded R E (get f e) r = NodeAt R E r G_get f 0 (1 + size e) × Encoded R E e (r + 1)
  Encoded R E (cast c e) r = NodeAt R E r K_cast c 0 (1 + size e) × Encoded R E e (r + 1)
  Encoded R E (new c) r = NodeAt R E r W_new c 0 1
  Encoded R E (change k d) r = NodeAt R E r R_change k d 1
  Encoded R E (assign k e) r = NodeAt R E r A_assign k 0 (1 + size e) × Encoded R E e (r + 1)
  Encoded R E (set f e e') r =
      NodeAt R E r U_set f 0 (1 + size e + size e') × Encoded R E e (r + 1) × Encoded R E e' (r + 1 + size e)
  Encoded R E (call m e es) r =
      NodeAt R E r Q_call m (count es) (1 + size e + sizes es)
      × Encoded R E e (r + 1)
      × EncodedAll R E es (r + 1 + size e)
  Encoded R E (choose e x y) r =
      NodeAt R E r J_choose 0 0 (1 + size e + size x + size y)
      × Encoded R E e (r + 1)
      × Encoded R E x (r + 1 + size e)
      × Encoded R E y (r + 1 + size e + size x)
  Encoded R E (block ts es) r =
      NodeAt R E r B_block (length ts) (count es) (1 + length ts + sizes es)
      × TypesAt V_local R ts (r + 1)
      × EncodedAll R E es (r + 1 + length ts)

  pub EncodedAll : List ℕ → List ℕ → Exprs → ℕ → Type 0
  EncodedAll R E nil r = Unit {0}
  EncodedAll R E (cons e es) r = Encoded R E e r × EncodedAll R E es (r + size e)
