-- What each function over the members of a class is called on: the part of a program that its rows hold, and what the tables hold.
use Rattle.std.specs.Prelude.{◌≡◌, ℕ, ◌+◌, ◌*◌, ◌≤◌, ◌<◌, true, List, length}
use Rattle.std.proofs.Math.Option.{Option, none, some}
use Rattle.language.specs.Limits.{of_check, numbers_a_row}
use Rattle.language.specs.Lists.{nth}
use Rattle.language.specs.Rows.{P_parameter}
use Rattle.language.specs.Tree.{DeclaredType, type_of_number, Field, Declaration, Class, Program}
use Rattle.language.specs.World.{Method, place, is_declared_type}
use Rattle.language.specs.Program.{declared, class_at, world}
use Rattle.language.specs.Headings.{is_some}
use Rattle.language.specs.ClassTables.{class_row, method_number, class_width}
use Rattle.language.specs.MethodTables.{placed_methods}
use Rattle.language.specs.Encoded.{TypesAt}
use Rattle.language.specs.Layout.{FieldsAt, EffectsAt, MethodAt, ProgramAt, methods_from_row}
use Rattle.language.specs.WellFormed.{Each, TypeInForm, FieldInForm, MethodInForm}
use Rattle.language.proofs.Methods.{FoundMethod}
use Rattle.layout.specs.Found.{FieldHere}
use Rattle.members.specs.Blocks.{Lookups, Working}
use Rattle.members.specs.Numbers.{first_number, placed, own_or}
use Rattle.members.specs.Numbers.{Numbered}

-- Row r is the C line of class k of a program that stands in the rows.
pub record ClassHere (R E : List ℕ) (r : ℕ) : Type 0 where
  pub program : Program
  pub standing : ProgramAt R E program
  pub k : ℕ
  pub one : Class
  pub is : class_at program.classes k ≡ some one
  pub row_is : r ≡ class_row program.classes k

pub record StateReady (T : List ℕ) (t : ℕ) : Type 0 where
  pub P : List Class
  pub k : ℕ
  pub lookups : Lookups P k T
  pub known : is_declared_type (world P) (type_of_number t) ≡ true

-- An F line in a class whose block is in the making.
pub record FieldReady (R T : List ℕ) (r base count : ℕ) : Type 0 where
  pub P : List Class
  pub k : ℕ
  pub fields : List Field
  pub rows : List ℕ
  pub methods : ℕ → Option ℕ
  pub working : Working P k T fields rows methods
  pub field : Field
  pub at : FieldHere R field r
  pub base_is : base ≡ k * class_width
  pub count_is : count ≡ length P
  pub short : length R ≤ numbers_a_row * of_check.rows

pub record EnterReady (R T : List ℕ) (r base : ℕ) : Type 0 where
  pub P : List Class
  pub k : ℕ
  pub fields : List Field
  pub rows : List ℕ
  pub methods : ℕ → Option ℕ
  pub working : Working P k T fields rows methods
  pub field : Field
  pub at : FieldHere R field r
  pub base_is : base ≡ k * class_width
  pub short : length R ≤ numbers_a_row * of_check.rows
  pub room : length fields < of_check.fields
  pub new : place field.name fields ≡ none

pub record FieldsReady (R T : List ℕ) (r n base count : ℕ) : Type 0 where
  pub P : List Class
  pub k : ℕ
  pub fields : List Field
  pub rows : List ℕ
  pub methods : ℕ → Option ℕ
  pub working : Working P k T fields rows methods
  pub own : List Field
  pub here : FieldsAt R own r
  pub in_form : Each (FieldInForm of_check) own
  pub n_is : n ≡ length own
  pub base_is : base ≡ k * class_width
  pub count_is : count ≡ length P
  pub short : length R ≤ numbers_a_row * of_check.rows

-- X lines.
pub record EffectLines (R : List ℕ) (r n : ℕ) : Type 0 where
  pub effects : List ℕ
  pub here : EffectsAt R effects r
  pub n_is : n ≡ length effects
  pub short : length R ≤ numbers_a_row * of_check.rows

-- X lines that name classes.
pub record ClassLines (R : List ℕ) (r n : ℕ) : Type 0 where
  pub lines : EffectLines R r n
  pub small : (i c : ℕ) → nth lines.effects i ≡ some c → c ≤ of_check.classes

-- P lines.
pub record ParameterLines (R : List ℕ) (r n : ℕ) : Type 0 where
  pub types : List DeclaredType
  pub here : TypesAt P_parameter R types r
  pub in_form : Each TypeInForm types
  pub n_is : n ≡ length types
  pub short : length R ≤ numbers_a_row * of_check.rows

-- A method and the one of number n, found by its name, that it overrides.
pub record OverrideReady (R M F : List ℕ) (r np nx n : ℕ) : Type 0 where
  pub ends : List ℕ
  pub program : Program
  pub standing : ProgramAt R ends program
  pub method : Declaration
  pub at : MethodAt R ends method r
  pub in_form : MethodInForm of_check method
  pub found : Method
  pub over : FoundMethod program.classes method.name found
  pub number_is : found.number ≡ n
  pub entered : Numbered program.classes M F (n + 1)
  pub np_is : np ≡ length method.parameters
  pub nx_is : nx ≡ length method.effects

pub record EffectReady (T : List ℕ) (count : ℕ) : Type 0 where
  pub P : List Class
  pub k : ℕ
  pub lookups : Lookups P k T
  pub count_is : count ≡ length P

pub record EffectsReady (R T : List ℕ) (r n count : ℕ) : Type 0 where
  pub table : EffectReady T count
  pub lines : EffectLines R r n

-- An M line in class k, whose first method has number `first`, after the methods before it.
pub record MethodLine (R T : List ℕ) (r k first count : ℕ) : Type 0 where
  pub ends : List ℕ
  pub program : Program
  pub standing : ProgramAt R ends program
  pub super : ℕ
  pub fields : List Field
  pub rows : List ℕ
  pub own : ℕ → Option ℕ
  pub before : List Declaration
  pub working : Working program.classes k T fields rows
      (own_or own (method_number program.classes super))
  pub names : (m : ℕ) → is_some (declared before m) ≡ is_some (own m)
  pub later : (m q : ℕ) → own m ≡ some q → first ≤ q
  pub inherited : (m q : ℕ) → method_number program.classes super m ≡ some q → q < first
  pub method : Declaration
  pub at : MethodAt R ends method r
  pub in_form : MethodInForm of_check method
  pub count_is : count ≡ length program.classes

pub record MethodCounted (R T M F : List ℕ) (r np nx k first count : ℕ) : Type 0 where
  pub line : MethodLine R T r k first count
  pub entered : Numbered line.program.classes M F first
  pub np_is : np ≡ length line.method.parameters
  pub nx_is : nx ≡ length line.method.effects

-- Method `next`, which is to be entered in the tables of methods.
pub record NumberReady (R M F : List ℕ) (r np nx k next : ℕ) : Type 0 where
  pub ends : List ℕ
  pub program : Program
  pub standing : ProgramAt R ends program
  pub method : Declaration
  pub this : nth (placed_methods program.classes) next ≡ some (placed method k r)
  pub entered : Numbered program.classes M F next
  pub np_is : np ≡ length method.parameters
  pub nx_is : nx ≡ length method.effects
  pub small : (i c : ℕ) → nth method.effects i ≡ some c → c ≤ of_check.classes

pub record MethodReady (R T M F : List ℕ) (r k first next count : ℕ) : Type 0 where
  pub line : MethodLine R T r k first count
  pub entered : Numbered line.program.classes M F next
  pub low : first ≤ next
  pub this : nth (placed_methods line.program.classes) next ≡ some (placed line.method k r)

-- The methods of class k, the first of which has number `first`, from row r on.
pub record MethodsReady (R E T M F : List ℕ) (r k first count : ℕ) : Type 0 where
  pub program : Program
  pub standing : ProgramAt R E program
  pub super : ℕ
  pub fields : List Field
  pub rows : List ℕ
  pub working : Working program.classes k T fields rows (method_number program.classes super)
  pub inherited : (m q : ℕ) → method_number program.classes super m ≡ some q → q < first
  pub entered : Numbered program.classes M F first
  pub one : Class
  pub is : class_at program.classes k ≡ some one
  pub first_is : first ≡ first_number program.classes k
  pub row_is : r ≡ methods_from_row (class_row program.classes k) one
  pub count_is : count ≡ length program.classes
