-- All that a translation goes by: of a node, of nodes, of a body, a method, a class and the program, with the
-- rows and the tables that hold them.
use Rattle.std.specs.Prelude.{◌≡◌, ℕ, suc, ◌+◌, ◌*◌, ◌≤◌, ◌<◌, List, ◌∷◌, length, get_or}
use Rattle.language.specs.Rows.{M_method, P_parameter}
use Rattle.language.specs.Tree.{DeclaredType, type_number, ExprType, Expr, size, Declaration, Class, Program}
use Rattle.language.specs.Program.{world}
use Rattle.language.specs.Encoded.{RowAt, TypesAt, Encoded}
use Rattle.language.specs.Environment.{Environment, method_environment}
use Rattle.language.specs.Translation.{Shape, plain_slot, variables}
use Rattle.language.specs.LookupClasses.{LooksUp}
use Rattle.language.specs.Layout.{EachMethod, EachClass, body_row, methods_from_row}
use Rattle.language.specs.WellFormed.{NodeInForm}
use Rattle.theory.specs.ComputedRules.{HasType}
use Rattle.theory.proofs.translation.PlainForm.{variable_count}
use Rattle.theory.proofs.acceptance.Translatable.{TranslatableRows}
use Rattle.layout.specs.Held.{Held}
use Rattle.emitters.specs.Lines.{most_numbers}
use Rattle.plain.specs.Numbers.{node_numbers, Nodes, methods_numbers, class_numbers, classes_numbers}
use Rattle.plain.specs.Numbers.{none, also}
use Rattle.language.specs.Limits.{of_translator}
use Rattle.emitters.specs.Writing.{Lent}
use Rattle.limits.specs.Standing.{MethodsStand, ClassesStand}

-- ---- nodes

-- A node in form under the translator's limits, with v source slots in scope, slot 0 included, and typed in γ.
pub record TypedIn (P : List Class) (γ : Environment) (v : ℕ) (e : Expr) : Type 0 where
  pub depth : ℕ
  pub in_form : NodeInForm of_translator depth v e
  pub scope : 1 + length γ.slots ≡ v
  pub type : ExprType
  pub after : Environment
  pub effect : ℕ
  pub has : HasType (world P) γ e type after effect

-- Something of each node of a list: its tree, its environment, its row.
module _ (Q : Expr → Environment → ℕ → Type 0) where
  unfoldable pub EachNode : Nodes → ℕ → Type 0
  EachNode none r = Unit {0}
  EachNode (also e γ es) r = Q e γ r × EachNode es (r + size e)

-- The plain slot of each source slot: S has those of the slots in scope, `next` is the next free one.
pub record Setting (P : List Class) (E R T M C S : List ℕ) (sh : Shape) (vars next : ℕ) : Type 0 where
  pub lent : Lent P E R T M C
  pub wide : length S ≡ of_translator.slots
  pub scope : vars ≤ of_translator.slots
  pub variables : vars ≡ suc (variable_count sh)
  pub free : next ≡ suc (length sh)
  pub renumbered : (k : ℕ) → k < vars → get_or S k 0 ≡ plain_slot sh k

-- All that a node's translation goes by.
pub record NodeTask (P : List Class) (E : List ℕ) (e : Expr) (γ : Environment) (sh : Shape)
    (R T M C S : List ℕ) (at vars next place : ℕ) : Type 0 where
  pub setting : Setting P E R T M C S sh vars next
  pub encoded : Encoded R E e at
  pub looks : LooksUp (world P) C e γ at
  pub typed : TypedIn P γ vars e
  pub low : next ≤ place
  pub fits : place + length (node_numbers (world P) e γ sh) ≤ most_numbers

pub record NodesTask (P : List Class) (E : List ℕ) (es : Nodes) (sh : Shape)
    (R T M C S : List ℕ) (at vars next place : ℕ) : Type 0 where
  pub setting : Setting P E R T M C S sh vars next
  pub encoded : EachNode (λ e γ r. Encoded R E e r) es at
  pub looks : EachNode (λ e γ r. LooksUp (world P) C e γ r) es at
  pub typed : EachNode (λ e γ r. TypedIn P γ vars e) es at
  pub low : next ≤ place

-- A body with its parameters, `this` before them: all that its translation goes by.
pub record BodyTask (P : List Class) (E : List ℕ) (e : Expr) (γ : Environment) (ts : List DeclaredType)
    (R T M C : List ℕ) (at place : ℕ) : Type 0 where
  pub lent : Lent P E R T M C
  pub encoded : Encoded R E e at
  pub looks : LooksUp (world P) C e γ at
  pub typed : TypedIn P γ (1 + length ts) e
  pub scope : 1 + length ts ≤ of_translator.slots
  pub low : 1 + length ts ≤ place
  pub fits : place + length (node_numbers (world P) e γ (variables ts)) ≤ most_numbers

-- ---- methods and classes

-- A method whose M line stands at a row, and its body at another.
pub record MethodTask (P : List Class) (E : List ℕ) (owner : ℕ) (m : Declaration) (R T M C : List ℕ)
    (at body place : ℕ) : Type 0 where
  pub row : RowAt R at M_method (type_number m.result) m.name
  pub parameters : TypesAt P_parameter R m.parameters (at + 1)
  pub task : BodyTask P E m.body (method_environment owner m.parameters) m.parameters R T M C body
      (place + 4 + 4 * length m.parameters)

-- The body of class k's method whose M line is row r: its lookup classes, its form and type.
pub record BodyReady (P : List Class) (C : List ℕ) (k : ℕ) (m : Declaration) (r : ℕ) : Type 0 where
  pub looks : LooksUp (world P) C m.body (method_environment k m.parameters) (body_row r m)
  pub typed : TypedIn P (method_environment k m.parameters) (1 + length m.parameters) m.body

-- The same of all bodies of class k, whose C line is row r.
abbrev pub BodiesReady : List Class → List ℕ → ℕ → Class → ℕ → Type 0
BodiesReady P C k c r = EachMethod (BodyReady P C) c.methods k (methods_from_row r c)

-- All that the translation of methods, of a class before others, and of classes goes by.
pub record MethodsTask (P : List Class) (E : List ℕ) (k : ℕ) (ms : List Declaration) (R T M C : List ℕ)
    (at place : ℕ) : Type 0 where
  pub lent : Lent P E R T M C
  pub stand : MethodsStand R E k ms at
  pub bodies : EachMethod (BodyReady P C) ms k at
  pub fits : place + length (methods_numbers (world P) k ms) ≤ most_numbers

pub record ClassTask (P : List Class) (E : List ℕ) (k : ℕ) (c : Class) (cs : List Class) (R T M C : List ℕ)
    (at place : ℕ) : Type 0 where
  pub lent : Lent P E R T M C
  pub stand : ClassesStand R E k (c ∷ cs) at
  pub bodies : BodiesReady P C k c at
  pub fits : place + length (class_numbers (world P) k c) ≤ most_numbers

pub record ClassesTask (P : List Class) (E : List ℕ) (k : ℕ) (cs : List Class) (R T M C : List ℕ)
    (at place : ℕ) : Type 0 where
  pub lent : Lent P E R T M C
  pub stand : ClassesStand R E k cs at
  pub bodies : EachClass (BodiesReady P C) cs k at
  pub fits : place + length (classes_numbers (world P) k cs) ≤ most_numbers

-- A program that rows and tables hold and that the translator takes.
pub record ProgramTask (p : Program) (E R T M C : List ℕ) : Type 0 where
  pub A : List ℕ
  pub F : List ℕ
  pub held : Held R E T A M F C p
  pub beside : length R ≤ length C * 4
  pub taken : TranslatableRows R p
