-- The numbers that the translator writes: for each node, method and class of an accepted program the lines of
-- its plain form, four numbers each.
use Rattle.std.specs.Prelude.{ℕ, suc, ◌+◌, List, [], ◌∷◌, ◌++◌, map}
use Rattle.language.specs.Rows.{Record, written, row_of, numbers_of, V_local, code, C_class, M_method}
use Rattle.language.specs.Rows.{P_parameter, A_assign}
use Rattle.language.specs.Tree.{DeclaredType, type_number, Expr, Exprs, nil, cons, size, Declaration, Class}
use Rattle.language.specs.Tree.{Program, flatten, flattens, flatten_program}
use Rattle.language.specs.World.{World}
use Rattle.language.specs.Environment.{Environment, method_environment}
use Rattle.language.specs.Typing.{type_of}
use Rattle.language.specs.Translation.{Shape, typed_or, variables, translate, plain_program}
use Rattle.emitters.specs.Lines.{plain_number, type_lines, field_lines}

-- The numbers of records, and of a plain tree.
unfoldable pub lines_of : List Record → List ℕ
lines_of rs = numbers_of (map row_of rs)

unfoldable pub tree_numbers : Expr → List ℕ
tree_numbers e = lines_of (flatten e)

unfoldable pub trees_numbers : Exprs → List ℕ
trees_numbers es = lines_of (flattens es)

-- The numbers of V lines.
unfoldable pub local_lines : List DeclaredType → List ℕ
local_lines ts = lines_of (map (λ t. written V_local (type_number t) 0) ts)

-- The numbers of a node's translation.
abbrev pub node_numbers : World → Expr → Environment → Shape → List ℕ
node_numbers W e γ sh = tree_numbers (translate W e γ sh)

-- Nodes one after another, each with the environment in which it is typed.
pub data Nodes : Type 0 where
  none : Nodes
  also : Expr → Environment → Nodes → Nodes

unfoldable pub how_many : Nodes → ℕ
how_many none = 0
how_many (also e γ es) = suc (how_many es)

unfoldable pub rows_taken : Nodes → ℕ
rows_taken none = 0
rows_taken (also e γ es) = size e + rows_taken es

module _ (W : World) (sh : Shape) where
  unfoldable pub nodes_numbers : Nodes → List ℕ
  nodes_numbers none = []
  nodes_numbers (also e γ es) = node_numbers W e γ sh ++ nodes_numbers es

  -- Each put in a temporary, from one on.
  unfoldable pub arguments_numbers : ℕ → Nodes → List ℕ
  arguments_numbers s none = []
  arguments_numbers s (also e γ es) =
      code A_assign ∷ s ∷ 0 ∷ 0 ∷ (node_numbers W e γ sh ++ arguments_numbers (suc s) es)

-- The nodes of a block or of a call's arguments.
unfoldable pub nodes_of : World → Exprs → Environment → Nodes
nodes_of W nil γ = none
nodes_of W (cons e es) γ = also e γ (nodes_of W es (typed_or (type_of W e 0 γ)).slots)

-- The numbers of a method of a class: its heading without X lines, then its body.
unfoldable pub method_numbers : World → ℕ → Declaration → List ℕ
method_numbers W owner m =
    (code M_method ∷ plain_number (type_number m.result) ∷ m.name ∷ 0 ∷ [])
    ++ (type_lines (code P_parameter) m.parameters
    ++ node_numbers W m.body (method_environment owner m.parameters) (variables m.parameters))

-- The numbers of methods, of a class and of classes from number k on.
unfoldable pub methods_numbers : World → ℕ → List Declaration → List ℕ
methods_numbers W k [] = []
methods_numbers W k (m ∷ ms) = method_numbers W k m ++ methods_numbers W k ms

unfoldable pub class_numbers : World → ℕ → Class → List ℕ
class_numbers W k c =
    (code C_class ∷ 0 ∷ (c.super + 2) ∷ 0 ∷ [])
    ++ (field_lines c.fields ++ methods_numbers W k c.methods)

unfoldable pub classes_numbers : World → ℕ → List Class → List ℕ
classes_numbers W k [] = []
classes_numbers W k (c ∷ cs) = class_numbers W k c ++ classes_numbers W (suc k) cs

-- The numbers of the plain program.
abbrev pub program_numbers : Program → List ℕ
program_numbers p = numbers_of (map row_of (flatten_program (plain_program p)))
