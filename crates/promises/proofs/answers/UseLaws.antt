-- What the lines of a tree use has one entry a line, as many as the tree has lines; an entry that exceeds the
-- limits is a line of the program that is over them.
use mathlib.Core.Path.{◌≡◌, refl, ap}
use Prim.Native.Nat.{ℕ, suc, ◌+◌, ◌-◌}
use mathlib.Core.Option.{some}
use mathlib.Core.List.{List, [], ◌∷◌, ◌++◌, map}
use lib.ListN.{length, length-append, length-map}
use native.Mathlib.Omega.{arith}
use Rattle.language.specs.Limits.{Most}
use Rattle.language.specs.Lists.{nth}
use Rattle.language.specs.Tree.{Expr, literal, slot, is_null, get, cast}
use Rattle.language.specs.Tree.{new}
use Rattle.language.specs.Tree.{change, assign, set, call, choose, block, Exprs, nil, cons, size, sizes}
use Rattle.language.specs.Tree.{Declaration, heading_lines, method_lines, methods_lines, Class, class_lines}
use Rattle.language.specs.Tree.{classes_lines, Program}
use Rattle.language.specs.World.{World}
use Rattle.language.specs.Uses.{Use, a_parameter, a_local, a_field, no_use, a_node, counted, node_uses}
use Rattle.language.specs.Uses.{nodes_uses}
use Rattle.language.specs.Uses.{method_uses, methods_uses, class_uses, classes_uses, program_uses, Exceeds}
use Rattle.language.specs.Uses.{OverLimit, uses_too_much}
use Rattle.promises.proofs.answers.OnLines.{OnLine, here, on_from, on_nth}

pub counted_length : {A : Type 0} (of : ℕ → Use) (n : ℕ) (l : List A) → length (counted of n l) ≡ length l
unfolding counted
counted_length of n [] = refl
counted_length of n (a ∷ l) = ap suc (counted_length of (suc n) l)

mutual
  unfolding node_uses size

  pub node_length : (d n : ℕ) (e : Expr) → length (node_uses d n e) ≡ size e
  node_length d n (literal l) = refl
  node_length d n (slot k) = refl
  node_length d n (is_null e) = omega (arith, node_length (suc d) n e)
  node_length d n (get f e) = omega (arith, node_length (suc d) n e)
  node_length d n (cast c e) = omega (arith, node_length (suc d) n e)
  node_length d n (new c) = refl
  node_length d n (change k c) = refl
  node_length d n (assign k e) = omega (arith, node_length (suc d) n e)
  node_length d n (set f e e') = omega (
    arith,
    length-append (node_uses (suc d) n e) (node_uses (suc d) n e'),
    node_length (suc d) n e,
    node_length (suc d) n e',
  )
  node_length d n (call m e es) = omega (
    arith,
    length-append (node_uses (suc d) n e) (nodes_uses (suc d) n es),
    node_length (suc d) n e,
    nodes_length (suc d) n es,
  )
  node_length d n (choose a b c) = omega (
    arith,
    length-append (node_uses (suc d) n a) (node_uses (suc d) n b ++ node_uses (suc d) n c),
    length-append (node_uses (suc d) n b) (node_uses (suc d) n c),
    node_length (suc d) n a,
    node_length (suc d) n b,
    node_length (suc d) n c,
  )
  node_length d n (block ts es) = omega (
    arith,
    length-append (counted a_local n ts) (nodes_uses (suc d) (n + length ts) es),
    counted_length a_local n ts,
    nodes_length (suc d) (n + length ts) es,
  )

  pub nodes_length : (d n : ℕ) (es : Exprs) → length (nodes_uses d n es) ≡ sizes es
  nodes_length d n nil = refl
  nodes_length d n (cons e es) = omega (
    arith,
    length-append (node_uses d n e) (nodes_uses d n es),
    node_length d n e,
    nodes_length d n es,
  )

pub method_length : (m : Declaration) → length (method_uses m) ≡ method_lines m
unfolding method_uses method_lines heading_lines
method_length m = let body = node_uses 1 (1 + length m.parameters) m.body in omega (
  arith,
  length-append (counted a_parameter 0 m.parameters) (map (λ _. no_use) m.effects ++ body),
  length-append (map (λ _. no_use) m.effects) body,
  counted_length a_parameter 0 m.parameters,
  length-map m.effects (λ _. no_use),
  node_length 1 (1 + length m.parameters) m.body,
)

methods_length : (ms : List Declaration) → length (methods_uses ms) ≡ methods_lines ms
unfolding methods_uses methods_lines
methods_length [] = refl
methods_length (m ∷ ms) =
    omega (arith, length-append (method_uses m) (methods_uses ms), method_length m, methods_length ms)

pub class_length : (W : World) (k : ℕ) (c : Class) → length (class_uses W k c) ≡ class_lines c
unfolding class_uses class_lines
class_length W k c = let n = length (W.fields c.super) in omega (
  arith,
  length-append (counted a_field n c.fields) (methods_uses c.methods),
  counted_length a_field n c.fields,
  methods_length c.methods,
)

pub classes_length : (W : World) (k : ℕ) (cs : List Class) → length (classes_uses W k cs) ≡ classes_lines cs
unfolding classes_uses classes_lines
classes_length W k [] = refl
classes_length W k (c ∷ cs) = omega (
  arith,
  length-append (class_uses W k c) (classes_uses W (suc k) cs),
  class_length W k c,
  classes_length W (suc k) cs,
)

-- Of lines that use so much, the first on line `at`, line l exceeds the limits.
abbrev pub Excess : Most → ℕ → List Use → ℕ → Type 0
Excess most at us l = OnLine (Exceeds most) at us l

-- The first line of an expression is its node's.
pub node_exceeds : {most : Most} {d : ℕ} (n at : ℕ) (e : Expr) → Exceeds most (a_node d)
    → Excess most at (node_uses d n e) at
unfolding node_uses
node_exceeds n at (literal l) h = here h
node_exceeds n at (slot k) h = here h
node_exceeds n at (is_null e) h = here h
node_exceeds n at (get f e) h = here h
node_exceeds n at (cast c e) h = here h
node_exceeds n at (new c) h = here h
node_exceeds n at (change k c) h = here h
node_exceeds n at (assign k e) h = here h
node_exceeds n at (set f e e') h = here h
node_exceeds n at (call m e es) h = here h
node_exceeds n at (choose a b c) h = here h
node_exceeds n at (block ts es) h = here h

-- A line of a program that exceeds the limits is over them.
pub excess_over : {most : Most} {p : Program} {l : ℕ} → Excess most 1 (program_uses p) l → OverLimit most p l
excess_over {most} {p} {l} h = found (on_nth h (l - 1) (omega (arith, on_from h)))
  where
    found : (u : Use) × (nth (program_uses p) (l - 1) ≡ some u) × Exceeds most u → OverLimit most p l
    found (u, e, x) = uses_too_much u e x
