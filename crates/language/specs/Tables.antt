-- The table of ends: for each row of a program, row 0 first, the row after what it begins.
-- A node ends after its children, an M line after its body, a C line after its methods;
-- F, P, X, V lines and the S line end at the next row.
use Rattle.std.specs.Prelude.{ℕ, zero, suc, ◌+◌, List, [], ◌∷◌, ◌++◌, length}
use Rattle.language.specs.Tree.{Expr, literal, slot, is_null, get}
use Rattle.language.specs.Tree.{cast}
use Rattle.language.specs.Tree.{new, change, assign, set, call, choose, block, Exprs, nil, cons, size}
use Rattle.language.specs.Tree.{sizes}
use Rattle.language.specs.Tree.{Declaration, method_lines, Class, class_lines, classes_lines}
use Rattle.language.specs.Tree.{Program}

-- So many rows from `at` on that each end at the next one.
unfoldable pub next_rows : ℕ → ℕ → List ℕ
next_rows at zero = []
next_rows at (suc k) = (at + 1) ∷ next_rows (at + 1) k

-- The ends of the rows of an expression, and of expressions one after another, that begin at row `at`.
unfoldable mutual
  pub ends_of : ℕ → Expr → List ℕ
  ends_of at (literal l) = (at + 1) ∷ []
  ends_of at (slot k) = (at + 1) ∷ []
  ends_of at (is_null e) = (at + (1 + size e)) ∷ ends_of (at + 1) e
  ends_of at (get f e) = (at + (1 + size e)) ∷ ends_of (at + 1) e
  ends_of at (cast c e) = (at + (1 + size e)) ∷ ends_of (at + 1) e
  ends_of at (new c) = (at + 1) ∷ []
  ends_of at (change k d) = (at + 1) ∷ []
  ends_of at (assign k e) = (at + (1 + size e)) ∷ ends_of (at + 1) e
  ends_of at (set f e e') =
      (at + (1 + size e + size e')) ∷ (ends_of (at + 1) e ++ ends_of (at + 1 + size e) e')
  ends_of at (call m e es) =
      (at + (1 + size e + sizes es)) ∷ (ends_of (at + 1) e ++ ends_list (at + 1 + size e) es)
  ends_of at (choose a b c) =
      (at + (1 + size a + size b + size c))
      ∷ (ends_of (at + 1) a ++ (ends_of (at + 1 + size a) b ++ ends_of (at + 1 + size a + size b) c))
  ends_of at (block ts es) =
      (at + (1 + length ts + sizes es))
      ∷ (next_rows (at + 1) (length ts) ++ ends_list (at + 1 + length ts) es)

  pub ends_list : ℕ → Exprs → List ℕ
  ends_list at nil = []
  ends_list at (cons e es) = ends_of at e ++ ends_list (at + size e) es

-- The ends of the rows of a method, of methods, of a class, of classes, that begin at row `at`.
unfoldable pub method_ends : ℕ → Declaration → List ℕ
method_ends at m =
    (at + method_lines m)
    ∷ (next_rows (at + 1) (length m.parameters)
    ++ (next_rows (at + 1 + length m.parameters) (length m.effects)
    ++ ends_of (at + 1 + length m.parameters + length m.effects) m.body))

unfoldable pub methods_ends : ℕ → List Declaration → List ℕ
methods_ends at [] = []
methods_ends at (m ∷ ms) = method_ends at m ++ methods_ends (at + method_lines m) ms

unfoldable pub class_ends : ℕ → Class → List ℕ
class_ends at c =
    (at + class_lines c)
    ∷ (next_rows (at + 1) (length c.fields) ++ methods_ends (at + 1 + length c.fields) c.methods)

unfoldable pub classes_ends : ℕ → List Class → List ℕ
classes_ends at [] = []
classes_ends at (c ∷ cs) = class_ends at c ++ classes_ends (at + class_lines c) cs

-- The table of a program.
unfoldable pub program_ends : Program → List ℕ
program_ends p =
    let at = classes_lines p.classes in
    classes_ends 0 p.classes ++ ((at + 1) ∷ ends_of (at + 1) p.start)
