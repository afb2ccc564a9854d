-- Programs as trees without line numbers, and the records of a tree in order
-- (document 01, "Lines and rows"; 002, section 3.1).
use Rattle.std.specs.Prelude.{ℕ, zero, suc, ◌+◌, cond, List, [], ◌∷◌, ◌++◌, map, length, eqb}
use Rattle.language.specs.Limits.{bool_number}
use Rattle.language.specs.Rows.{C_class, F_field, M_method, P_parameter, X_effect, S_start}
use Rattle.language.specs.Rows.{B_block, V_local, T_true, L_false, N_null, I_slot, Z_is_null, G_get}
use Rattle.language.specs.Rows.{K_cast, W_new, R_change, A_assign, U_set, Q_call, J_choose, Record}
use Rattle.language.specs.Rows.{written}

-- A type as a program writes it: bool, or a class; class 0 is Object.
pub data DeclaredType : Type 0 where
  bool : DeclaredType
  class : ℕ → DeclaredType

-- A type as an expression has it: null has one of its own.
pub data ExprType : Type 0 where
  known : DeclaredType → ExprType
  null_type : ExprType

-- T, L, N.
pub data Literal : Type 0 where
  literal_true literal_false literal_null : Literal

-- The type of a literal.
abbrev pub literal_type : Literal → ExprType
literal_type literal_true = known bool
literal_type literal_false = known bool
literal_type literal_null = null_type

abbrev pub type_number : DeclaredType → ℕ
type_number bool = bool_number
type_number (class c) = c

abbrev pub type_of_number : ℕ → DeclaredType
type_of_number n = cond (eqb n bool_number) bool (class n)

mutual
  -- T, L, N; I slot; Z; G name; K class; W class; R slot class; A slot; U name, with object and value;
  -- Q name n, with receiver and n arguments; J, with condition and arms; B v k, with v locals and k nodes.
  pub data Expr : Type 0 where
    literal : Literal → Expr
    slot : ℕ → Expr
    is_null : Expr → Expr
    get : ℕ → Expr → Expr
    cast : ℕ → Expr → Expr
    new : ℕ → Expr
    change : ℕ → ℕ → Expr
    assign : ℕ → Expr → Expr
    set : ℕ → Expr → Expr → Expr
    call : ℕ → Expr → Exprs → Expr
    choose : Expr → Expr → Expr → Expr
    block : List DeclaredType → Exprs → Expr

  pub data Exprs : Type 0 where
    nil : Exprs
    cons : Expr → Exprs → Exprs

unfoldable pub count : Exprs → ℕ
count nil = 0
count (cons e es) = suc (count es)

-- How many lines an expression takes.
unfoldable mutual
  pub size : Expr → ℕ
  size (literal l) = 1
  size (slot k) = 1
  size (is_null e) = 1 + size e
  size (get f e) = 1 + size e
  size (cast c e) = 1 + size e
  size (new c) = 1
  size (change k d) = 1
  size (assign k e) = 1 + size e
  size (set f e e') = 1 + size e + size e'
  size (call m e es) = 1 + size e + sizes es
  size (choose a b c) = 1 + size a + size b + size c
  size (block ts es) = 1 + length ts + sizes es

  pub sizes : Exprs → ℕ
  sizes nil = 0
  sizes (cons e es) = size e + sizes es

pub data Kind : Type 0 where
  plain root state : Kind
  unknown : ℕ → Kind

abbrev pub kind_number : Kind → ℕ
kind_number plain = 0
kind_number root = 1
kind_number state = 2
kind_number (unknown n) = n

abbrev pub kind_of_number : ℕ → Kind
kind_of_number zero = plain
kind_of_number (suc zero) = root
kind_of_number (suc (suc zero)) = state
kind_of_number (suc (suc (suc n))) = unknown (suc (suc (suc n)))

pub record Field : Type 0 where
  pub type : DeclaredType
  pub name : ℕ

-- A method as it is declared; its effect as the numbers of its X lines.
pub record Declaration : Type 0 where
  pub result : DeclaredType
  pub name : ℕ
  pub parameters : List DeclaredType
  pub effects : List ℕ
  pub body : Expr

pub record Class : Type 0 where
  pub kind : Kind
  pub super : ℕ
  pub fields : List Field
  pub methods : List Declaration

pub record Program : Type 0 where
  pub classes : List Class
  pub start : Expr

-- Lines of a method's heading, of methods, of a class, of classes.
unfoldable pub heading_lines : Declaration → ℕ
heading_lines m = 1 + length m.parameters + length m.effects

unfoldable pub method_lines : Declaration → ℕ
method_lines m = heading_lines m + size m.body

unfoldable pub methods_lines : List Declaration → ℕ
methods_lines [] = 0
methods_lines (m ∷ ms) = method_lines m + methods_lines ms

unfoldable pub class_lines : Class → ℕ
class_lines c = 1 + length c.fields + methods_lines c.methods

unfoldable pub classes_lines : List Class → ℕ
classes_lines [] = 0
classes_lines (c ∷ cs) = class_lines c + classes_lines cs

-- The record of a literal.
abbrev pub literal_record : Literal → Record
literal_record literal_true = written T_true 0 0
literal_record literal_false = written L_false 0 0
literal_record literal_null = written N_null 0 0

-- The records of an expression: a node, then its children.
unfoldable mutual
  pub flatten : Expr → List Record
  flatten (literal l) = literal_record l ∷ []
  flatten (slot k) = written I_slot k 0 ∷ []
  flatten (is_null e) = written Z_is_null 0 0 ∷ flatten e
  flatten (get f e) = written G_get f 0 ∷ flatten e
  flatten (cast c e) = written K_cast c 0 ∷ flatten e
  flatten (new c) = written W_new c 0 ∷ []
  flatten (change k d) = written R_change k d ∷ []
  flatten (assign k e) = written A_assign k 0 ∷ flatten e
  flatten (set f e e') = written U_set f 0 ∷ (flatten e ++ flatten e')
  flatten (call m e es) = written Q_call m (count es) ∷ (flatten e ++ flattens es)
  flatten (choose a b c) = written J_choose 0 0 ∷ (flatten a ++ (flatten b ++ flatten c))
  flatten (block ts es) =
      written B_block (length ts) (count es)
      ∷ (map (λ t. written V_local (type_number t) 0) ts ++ flattens es)

  pub flattens : Exprs → List Record
  flattens nil = []
  flattens (cons e es) = flatten e ++ flattens es

unfoldable pub flatten_methods : List Declaration → List Record
flatten_methods [] = []
flatten_methods (m ∷ ms) = written M_method (type_number m.result) m.name
    ∷ (map (λ t. written P_parameter (type_number t) 0) m.parameters
    ++ (map (λ c. written X_effect c 0) m.effects ++ (flatten m.body ++ flatten_methods ms)))

unfoldable pub flatten_classes : List Class → List Record
flatten_classes [] = []
flatten_classes (c ∷ cs) = written C_class (kind_number c.kind) c.super
    ∷ (map (λ (f : Field). written F_field (type_number f.type) f.name) c.fields
    ++ (flatten_methods c.methods ++ flatten_classes cs))

unfoldable pub flatten_program : Program → List Record
flatten_program p = flatten_classes p.classes ++ (written S_start 0 0 ∷ flatten p.start)
