-- Laws of the table of ends: it has an entry for each row, and a node and a method have one row at least.
-- Assumes nothing.
use Prim.Native.Nat.{ℕ, zero, suc, ◌+◌, ◌≤◌}
use mathlib.Core.Path.{◌≡◌, refl, ap}
use mathlib.Core.List.{List, [], ◌∷◌}
use native.Mathlib.Omega.{arith}
use lib.ListN.{length, length-append}
use Rattle.language.specs.Tree.{Expr, literal, slot, is_null, get}
use Rattle.language.specs.Tree.{cast, new, change, assign, set, call, choose, block, Exprs, nil, cons}
use Rattle.language.specs.Tree.{size, sizes, Declaration, heading_lines, method_lines, methods_lines}
use Rattle.language.specs.Tree.{Class, class_lines, classes_lines}
use Rattle.language.specs.Tables.{next_rows, ends_of, ends_list, method_ends, methods_ends, class_ends}
use Rattle.language.specs.Tables.{classes_ends}

pub size_positive : (e : Expr) → 1 ≤ size e
unfolding size
size_positive (literal l) = omega arith
size_positive (slot k) = omega arith
size_positive (is_null e) = omega arith
size_positive (get f e) = omega arith
size_positive (cast c e) = omega arith
size_positive (new c) = omega arith
size_positive (change k d) = omega arith
size_positive (assign k e) = omega arith
size_positive (set f e e') = omega arith
size_positive (call m e es) = omega arith
size_positive (choose a b c) = omega arith
size_positive (block ts es) = omega arith

pub method_positive : (m : Declaration) → 1 ≤ method_lines m
unfolding method_lines heading_lines
method_positive m = omega arith

pub next_rows_long : (at k : ℕ) → length (next_rows at k) ≡ k
unfolding next_rows
next_rows_long at zero = refl
next_rows_long at (suc k) = ap suc (next_rows_long (at + 1) k)

mutual
  unfolding ends_of size

  pub ends_long : (at : ℕ) (e : Expr) → length (ends_of at e) ≡ size e
  ends_long at (literal l) = refl
  ends_long at (slot k) = refl
  ends_long at (is_null e) = omega (arith, ends_long (at + 1) e)
  ends_long at (get f e) = omega (arith, ends_long (at + 1) e)
  ends_long at (cast c e) = omega (arith, ends_long (at + 1) e)
  ends_long at (new c) = refl
  ends_long at (change k d) = refl
  ends_long at (assign k e) = omega (arith, ends_long (at + 1) e)
  ends_long at (set f e e') =
      simp length-append (omega (arith, ends_long (at + 1) e, ends_long (at + 1 + size e) e'))
  ends_long at (call m e es) =
      simp length-append (omega (arith, ends_long (at + 1) e, ends_list_long (at + 1 + size e) es))
  ends_long at (choose a b c) =
      simp length-append (omega (
        arith,
        ends_long (at + 1) a,
        ends_long (at + 1 + size a) b,
        ends_long
            (at + 1 + size a + size b) c,
      ))
  ends_long at (block ts es) =
      simp length-append (omega (
        arith,
        next_rows_long (at + 1) (length ts),
        ends_list_long
            (at + 1 + length ts) es,
      ))

  pub ends_list_long : (at : ℕ) (es : Exprs) → length (ends_list at es) ≡ sizes es
  ends_list_long at nil = refl
  ends_list_long at (cons e es) =
      simp length-append (omega (arith, ends_long at e, ends_list_long (at + size e) es))

pub method_ends_long : (at : ℕ) (m : Declaration) → length (method_ends at m) ≡ method_lines m
unfolding method_ends method_lines heading_lines
method_ends_long at m =
    simp length-append (omega (
      arith,
      next_rows_long (at + 1) (length m.parameters),
      next_rows_long
          (at + 1 + length m.parameters) (length m.effects),
      ends_long (at + 1 + length m.parameters + length m.effects) m.body,
    ))

pub methods_ends_long : (at : ℕ) (ms : List Declaration) → length (methods_ends at ms) ≡ methods_lines ms
unfolding methods_ends methods_lines
methods_ends_long at [] = refl
methods_ends_long at (m ∷ ms) =
    simp length-append (omega (arith, method_ends_long at m, methods_ends_long (at + method_lines m) ms))

pub class_ends_long : (at : ℕ) (c : Class) → length (class_ends at c) ≡ class_lines c
unfolding class_ends class_lines
class_ends_long at c =
    simp length-append (omega (
      arith,
      next_rows_long (at + 1) (length c.fields),
      methods_ends_long
          (at + 1 + length c.fields) c.methods,
    ))

pub classes_ends_long : (at : ℕ) (cs : List Class) → length (classes_ends at cs) ≡ classes_lines cs
unfolding classes_ends classes_lines
classes_ends_long at [] = refl
classes_ends_long at (c ∷ cs) =
    simp length-append (omega (arith, class_ends_long at c, classes_ends_long (at + class_lines c) cs))
