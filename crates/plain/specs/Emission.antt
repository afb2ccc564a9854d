-- What each function of the translator has to be given, and what it leaves. The buffer is a list of numbers;
-- what stands past its end is counted and not written.
use Rattle.std.specs.Prelude.{◌≡◌, ℕ, ◌+◌, ◌≤◌, List, length}
use Rattle.language.specs.Tree.{DeclaredType, Expr, cast, set, call, block, Exprs, size, Declaration, Class}
use Rattle.language.specs.Tree.{Program, methods_lines, class_lines, classes_lines}
use Rattle.language.specs.Program.{world}
use Rattle.language.specs.Environment.{Environment}
use Rattle.language.specs.Translation.{Shape, variables}
use Rattle.emitters.specs.Lines.{most_numbers}
use Rattle.plain.specs.Numbers.{node_numbers, Nodes, how_many, rows_taken, nodes_numbers}
use Rattle.plain.specs.Numbers.{arguments_numbers, method_numbers, methods_numbers, class_numbers}
use Rattle.plain.specs.Numbers.{classes_numbers, program_numbers}
use Rattle.plain.specs.Tasks.{NodeTask, NodesTask, BodyTask, MethodTask, MethodsTask, ClassTask}
use Rattle.plain.specs.Tasks.{ClassesTask, ProgramTask}
use Rattle.emitters.specs.Writing.{Written}

-- Numbers written from a place on, and lines of the source passed.
pub record Emitted (xs : List ℕ) (lines : ℕ) (O O' : List ℕ) (place at place' at' : ℕ) : Type 0 where
  pub written : Written xs O O' place place'
  pub passed : at' ≡ at + lines

-- There is a task for the node at a row; for its letter; for nodes from a row on.
pub record SomeNode (R T M C S : List ℕ) (at vars next place : ℕ) : Type 0 where
  pub P : List Class
  pub E : List ℕ
  pub e : Expr
  pub γ : Environment
  pub sh : Shape
  pub task : NodeTask P E e γ sh R T M C S at vars next place

pub record SomeCast (R T M C S : List ℕ) (at vars next place : ℕ) : Type 0 where
  pub P : List Class
  pub E : List ℕ
  pub c : ℕ
  pub e : Expr
  pub γ : Environment
  pub sh : Shape
  pub task : NodeTask P E (cast c e) γ sh R T M C S at vars next place

pub record SomeSet (R T M C S : List ℕ) (at vars next place : ℕ) : Type 0 where
  pub P : List Class
  pub E : List ℕ
  pub f : ℕ
  pub e : Expr
  pub e' : Expr
  pub γ : Environment
  pub sh : Shape
  pub task : NodeTask P E (set f e e') γ sh R T M C S at vars next place

pub record SomeCall (R T M C S : List ℕ) (at vars next place : ℕ) : Type 0 where
  pub P : List Class
  pub E : List ℕ
  pub m : ℕ
  pub e : Expr
  pub es : Exprs
  pub γ : Environment
  pub sh : Shape
  pub task : NodeTask P E (call m e es) γ sh R T M C S at vars next place

pub record SomeBlock (R T M C S : List ℕ) (at vars next place : ℕ) : Type 0 where
  pub P : List Class
  pub E : List ℕ
  pub ts : List DeclaredType
  pub es : Exprs
  pub γ : Environment
  pub sh : Shape
  pub task : NodeTask P E (block ts es) γ sh R T M C S at vars next place

pub record SomeNodes (R T M C S : List ℕ) (at vars next place count : ℕ) : Type 0 where
  pub P : List Class
  pub E : List ℕ
  pub es : Nodes
  pub sh : Shape
  pub task : NodesTask P E es sh R T M C S at vars next place
  pub counted : how_many es ≡ count
  pub fits : place + length (nodes_numbers (world P) sh es) ≤ most_numbers

pub record SomeArguments (R T M C S : List ℕ) (at vars next place count s : ℕ) : Type 0 where
  pub P : List Class
  pub E : List ℕ
  pub es : Nodes
  pub sh : Shape
  pub task : NodesTask P E es sh R T M C S at vars next place
  pub counted : how_many es ≡ count
  pub fits : place + length (arguments_numbers (world P) sh s es) ≤ most_numbers
  pub below : s + count ≤ most_numbers

-- What is left of each: whatever tree the rows hold, its translation was written.
pub record NodeEmitted (R T M C S O O' : List ℕ) (at vars next place place' at' : ℕ) : Type 0 where
  pub each : (P : List Class) (E : List ℕ) (e : Expr) (γ : Environment) (sh : Shape)
      → NodeTask P E e γ sh R T M C S at vars next place
      → Emitted (node_numbers (world P) e γ sh) (size e) O O' place at place' at'

pub record CastEmitted (R T M C S O O' : List ℕ) (at vars next place place' at' : ℕ) : Type 0 where
  pub each : (P : List Class) (E : List ℕ) (c : ℕ) (e : Expr) (γ : Environment) (sh : Shape)
      → NodeTask P E (cast c e) γ sh R T M C S at vars next place
      → Emitted (node_numbers (world P) (cast c e) γ sh) (size (cast c e)) O O' place at place' at'

pub record SetEmitted (R T M C S O O' : List ℕ) (at vars next place place' at' : ℕ) : Type 0 where
  pub each : (P : List Class) (E : List ℕ) (f : ℕ) (e e' : Expr) (γ : Environment) (sh : Shape)
      → NodeTask P E (set f e e') γ sh R T M C S at vars next place
      → Emitted (node_numbers (world P) (set f e e') γ sh) (size (set f e e')) O O' place at place' at'

pub record CallEmitted (R T M C S O O' : List ℕ) (at vars next place place' at' : ℕ) : Type 0 where
  pub each : (P : List Class) (E : List ℕ) (m : ℕ) (e : Expr) (es : Exprs) (γ : Environment) (sh : Shape)
      → NodeTask P E (call m e es) γ sh R T M C S at vars next place
      → Emitted (node_numbers (world P) (call m e es) γ sh) (size (call m e es)) O O' place at place' at'

pub record BlockEmitted (R T M C S O O' : List ℕ) (at vars next place place' at' : ℕ) : Type 0 where
  pub each : (P : List Class) (E : List ℕ) (ts : List DeclaredType) (es : Exprs) (γ : Environment)
      (sh : Shape)
      → NodeTask P E (block ts es) γ sh R T M C S at vars next place
      → Emitted (node_numbers (world P) (block ts es) γ sh) (size (block ts es)) O O' place at place' at'

pub record NodesEmitted (R T M C S O O' : List ℕ) (at vars next place count place' at' : ℕ) : Type 0 where
  pub each : (P : List Class) (E : List ℕ) (es : Nodes) (sh : Shape)
      → NodesTask P E es sh R T M C S at vars next place → how_many es ≡ count
      → place + length (nodes_numbers (world P) sh es) ≤ most_numbers
      → Emitted (nodes_numbers (world P) sh es) (rows_taken es) O O' place at place' at'

pub record ArgumentsEmitted (R T M C S O O' : List ℕ)
    (at vars next place count s place' at' : ℕ) : Type 0 where
  pub each : (P : List Class) (E : List ℕ) (es : Nodes) (sh : Shape)
      → NodesTask P E es sh R T M C S at vars next place → how_many es ≡ count
      → place + length (arguments_numbers (world P) sh s es) ≤ most_numbers
      → Emitted (arguments_numbers (world P) sh s es) (rows_taken es) O O' place at place' at'

-- There is a task for a body, and what is left of it.
pub record SomeBody (R T M C : List ℕ) (at place count : ℕ) : Type 0 where
  pub P : List Class
  pub E : List ℕ
  pub e : Expr
  pub γ : Environment
  pub ts : List DeclaredType
  pub task : BodyTask P E e γ ts R T M C at place
  pub counted : length ts ≡ count

pub record BodyEmitted (R T M C O O' : List ℕ) (at place count place' at' : ℕ) : Type 0 where
  pub each : (P : List Class) (E : List ℕ) (e : Expr) (γ : Environment) (ts : List DeclaredType)
      → BodyTask P E e γ ts R T M C at place → length ts ≡ count
      → Emitted (node_numbers (world P) e γ (variables ts)) (size e) O O' place at place' at'

-- There is a task for a method, and what is left of it.
pub record SomeMethod (R T M C : List ℕ) (at body place count : ℕ) : Type 0 where
  pub P : List Class
  pub E : List ℕ
  pub owner : ℕ
  pub m : Declaration
  pub task : MethodTask P E owner m R T M C at body place
  pub counted : length m.parameters ≡ count

pub record MethodEmitted (R T M C O O' : List ℕ) (at body place count place' at' : ℕ) : Type 0 where
  pub each : (P : List Class) (E : List ℕ) (owner : ℕ) (m : Declaration)
      → MethodTask P E owner m R T M C at body place → length m.parameters ≡ count
      → Emitted (method_numbers (world P) owner m) (size m.body) O O' place body place' at'

-- There is a task for methods, for a class, for classes; and what is left of each.
pub record SomeMethods (R T M C : List ℕ) (at place : ℕ) : Type 0 where
  pub P : List Class
  pub E : List ℕ
  pub k : ℕ
  pub ms : List Declaration
  pub task : MethodsTask P E k ms R T M C at place

pub record SomeClass (R T M C : List ℕ) (at place : ℕ) : Type 0 where
  pub P : List Class
  pub E : List ℕ
  pub k : ℕ
  pub c : Class
  pub cs : List Class
  pub task : ClassTask P E k c cs R T M C at place

pub record SomeClasses (R T M C : List ℕ) (at place : ℕ) : Type 0 where
  pub P : List Class
  pub E : List ℕ
  pub k : ℕ
  pub cs : List Class
  pub task : ClassesTask P E k cs R T M C at place

pub record MethodsEmitted (R T M C O O' : List ℕ) (at place place' at' : ℕ) : Type 0 where
  pub each : (P : List Class) (E : List ℕ) (k : ℕ) (ms : List Declaration)
      → MethodsTask P E k ms R T M C at place
      → Emitted (methods_numbers (world P) k ms) (methods_lines ms) O O' place at place' at'

pub record ClassEmitted (R T M C O O' : List ℕ) (at place place' at' : ℕ) : Type 0 where
  pub each : (P : List Class) (E : List ℕ) (k : ℕ) (c : Class) (cs : List Class)
      → ClassTask P E k c cs R T M C at place
      → Emitted (class_numbers (world P) k c) (class_lines c) O O' place at place' at'

pub record ClassesEmitted (R T M C O O' : List ℕ) (at place place' at' : ℕ) : Type 0 where
  pub each : (P : List Class) (E : List ℕ) (k : ℕ) (cs : List Class) → ClassesTask P E k cs R T M C at place
      → Emitted (classes_numbers (world P) k cs) (classes_lines cs) O O' place at place' at'

-- There is a task for the program, and what is left of it.
pub record SomeProgram (R T M C : List ℕ) : Type 0 where
  pub p : Program
  pub E : List ℕ
  pub task : ProgramTask p E R T M C

pub record ProgramWritten (R T M C O O' : List ℕ) (count : ℕ) : Type 0 where
  pub each : (p : Program) (E : List ℕ) → ProgramTask p E R T M C → Written (program_numbers p) O O' 0 count
