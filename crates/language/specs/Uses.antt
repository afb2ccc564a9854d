-- What each line of a program uses of the limits in document 01's table ("Lines and rows", "most"): one entry
-- a line, in the order of `flatten-program`; and when a line goes over a column of that table.
use Rattle.std.specs.Prelude.{◌≡◌, ℕ, suc, ◌+◌, ◌-◌, ◌<◌, List, [], ◌∷◌, ◌++◌, map, length}
use Rattle.std.proofs.Math.Option.{some}
use Rattle.language.specs.Limits.{Most}
use Rattle.language.specs.Lists.{nth}
use Rattle.language.specs.Tree.{Expr, literal, slot, is_null, get}
use Rattle.language.specs.Tree.{cast, new, change, assign, set, call, choose, block, Exprs, nil, cons}
use Rattle.language.specs.Tree.{Declaration, Class, Program}
use Rattle.language.specs.World.{World}
use Rattle.language.specs.Program.{world}

-- What a line uses.
pub data Use : Type 0 where
  -- C: the number of its class.
  a_class : ℕ → Use
  -- F: how many fields its class has with it, inherited ones included.
  a_field : ℕ → Use
  -- P: how many parameters its method has with it.
  a_parameter : ℕ → Use
  -- V: how many slots are in scope with it, slot 0 included.
  a_local : ℕ → Use
  -- A node: its nesting; a body's block has 1.
  a_node : ℕ → Use
  -- M, X and S lines use nothing that is counted.
  no_use : Use

-- The lines of a list, one for each of it, that are counted on from n.
unfoldable pub counted : {A : Type 0} → (ℕ → Use) → ℕ → List A → List Use
counted of n [] = []
counted of n (a ∷ l) = of (suc n) ∷ counted of (suc n) l

-- The lines of an expression whose node has nesting d, with n slots in scope; its children are one deeper.
unfoldable mutual
  pub node_uses : ℕ → ℕ → Expr → List Use
  node_uses d n (literal l) = a_node d ∷ []
  node_uses d n (slot k) = a_node d ∷ []
  node_uses d n (is_null e) = a_node d ∷ node_uses (suc d) n e
  node_uses d n (get f e) = a_node d ∷ node_uses (suc d) n e
  node_uses d n (cast c e) = a_node d ∷ node_uses (suc d) n e
  node_uses d n (new c) = a_node d ∷ []
  node_uses d n (change k c) = a_node d ∷ []
  node_uses d n (assign k e) = a_node d ∷ node_uses (suc d) n e
  node_uses d n (set f e e') = a_node d ∷ (node_uses (suc d) n e ++ node_uses (suc d) n e')
  node_uses d n (call m e es) = a_node d ∷ (node_uses (suc d) n e ++ nodes_uses (suc d) n es)
  node_uses d n (choose a b c) =
      a_node d ∷ (node_uses (suc d) n a ++ (node_uses (suc d) n b ++ node_uses (suc d) n c))
  node_uses d n (block ts es) = a_node d ∷ (counted a_local n ts ++ nodes_uses (suc d) (n + length ts) es)

  pub nodes_uses : ℕ → ℕ → Exprs → List Use
  nodes_uses d n nil = []
  nodes_uses d n (cons e es) = node_uses d n e ++ nodes_uses d n es

-- The lines of a method: its M line, P lines, X lines and body, which has the parameters and slot 0 in scope.
unfoldable pub method_uses : Declaration → List Use
method_uses m = no_use
    ∷ (counted a_parameter 0 m.parameters
    ++ (map (λ _. no_use) m.effects ++ node_uses 1 (1 + length m.parameters) m.body))

unfoldable pub methods_uses : List Declaration → List Use
methods_uses [] = []
methods_uses (m ∷ ms) = method_uses m ++ methods_uses ms

-- The lines of class k, its fields counted on from those that it inherits.
unfoldable pub class_uses : World → ℕ → Class → List Use
class_uses W k c =
    a_class k ∷ (counted a_field (length (W.fields c.super)) c.fields ++ methods_uses c.methods)

-- The lines of classes, the first of which has number k.
unfoldable pub classes_uses : World → ℕ → List Class → List Use
classes_uses W k [] = []
classes_uses W k (c ∷ cs) = class_uses W k c ++ classes_uses W (suc k) cs

-- The lines of a program: its classes', the S line, the start block's with slot 0 in scope.
unfoldable pub program_uses : Program → List Use
program_uses p = classes_uses (world p.classes) 1 p.classes ++ (no_use ∷ node_uses 1 1 p.start)

-- A line that uses more than there may be at most.
pub data Exceeds (most : Most) : Use → Type 0 where
  too_many_classes : {n : ℕ} → most.classes < n → Exceeds most (a_class n)
  too_many_fields : {n : ℕ} → most.fields < n → Exceeds most (a_field n)
  too_many_parameters : {n : ℕ} → most.parameters < n → Exceeds most (a_parameter n)
  too_many_slots : {n : ℕ} → most.slots < n → Exceeds most (a_local n)
  nested_too_deep : {n : ℕ} → most.nesting < n → Exceeds most (a_node n)

-- Line l of a program is over a limit: a row too many, or a line that uses too much.
pub data OverLimit (most : Most) (p : Program) (l : ℕ) : Type 0 where
  too_many_rows : most.rows < l → OverLimit most p l
  uses_too_much : (u : Use) → nth (program_uses p) (l - 1) ≡ some u → Exceeds most u → OverLimit most p l
