-- What the functions of the typing cycle require and ensure. The slots in scope stand from 0 on, slot 0 for
-- `this`; from a scope's top on the slots are free.
use Rattle.std.specs.Prelude.{Result, ◌≡◌, true, ◌⊎◌, List, map, ℕ, ◌+◌, ◌*◌, ◌≤◌, ◌<◌, length, get_or, take}
use Rattle.std.proofs.Math.Option.{some}
use Rattle.language.specs.Results.{Checked, accept, bind_checked}
use Rattle.language.specs.declared.Refusal.{Refusal}
use Rattle.language.specs.Refusals.{result_of}
use Rattle.language.specs.Frames.{at_slot}
use Rattle.language.specs.Tree.{ExprType, known, class, Expr, Exprs, count as how_many, sizes}
use Rattle.language.specs.Tree.{Program}
use Rattle.language.specs.Lists.{nth}
use Rattle.language.specs.World.{World, is_declared_type}
use Rattle.language.specs.Effects.{join}
use Rattle.language.specs.Program.{world}
use Rattle.language.specs.Environment.{Slot, Environment}
use Rattle.language.specs.Typing.{Typed, TypedAll, typed, last_type, type_of, type_all}
use Rattle.language.specs.Encoded.{Encoded, EncodedAll}
use Rattle.language.specs.LookupClasses.{LooksUp, LooksUpAll}
use Rattle.language.specs.WellFormed.{NodeInForm, NodesInForm}
use Rattle.language.specs.Rows.{A_assign, G_get, K_cast, Z_is_null, code}
use Rattle.language.specs.Limits.{of_check}
use Rattle.layout.specs.Held.{Headed}
use Rattle.layout.specs.NodeForms.{of_width}
use Rattle.types.specs.declared.Typed.{Typed as TypedCase}
use Rattle.types.specs.declared.Typing.TheVariants.{Null}
use Rattle.types.specs.declared.slots.Scope.{Scope}
use Rattle.types.specs.declared.Program.{Program as CodeProgram}
use Rattle.types.specs.Answers.{Answer, answer_of, typed_case, typing_case, case_number, numbers}

-- A row with the letter of a node of one child.
abbrev pub Unary : List ℕ → ℕ → Type 0
Unary R at = (get_or R (at * 4) 0 ≡ code Z_is_null)
    ⊎ ((get_or R (at * 4) 0 ≡ code G_get)
    ⊎ ((get_or R (at * 4) 0 ≡ code K_cast) ⊎ (get_or R (at * 4) 0 ≡ code A_assign)))

-- The scope with another top, with n slots more kept below its top, and with n slots more in scope.
abbrev pub with_top : Scope → ℕ → Scope
with_top s top = record {
  count = s.count;
  class = s.class;
  size = s.size;
  width = s.width;
  top = top;
}

abbrev pub raised : Scope → ℕ → Scope
raised s n = with_top s (s.top + n)

abbrev pub grown : Scope → ℕ → Scope
grown s n = record {
  count = s.count;
  class = s.class;
  size = s.size + n;
  width = s.width;
  top = s.top;
}

-- The slots in scope have the types of an environment's slots, all of them declared.
pub record Views (W : World) (γ : Environment) (S : List ℕ) (scope : ℕ) : Type 0 where
  pub same : take scope S ≡ numbers γ
  pub current : (k : ℕ) (s : Slot) → at_slot γ k ≡ some s → is_declared_type W s.current ≡ true
  pub declared : (k : ℕ) (s : Slot) → at_slot γ k ≡ some s → is_declared_type W s.declared ≡ true

-- Room for d more nested nodes, each with a scope's width of slots of its own: enough for the arguments of any call.
pub record Room (S : List ℕ) (scope : Scope) (d : ℕ) : Type 0 where
  pub this : 1 ≤ scope.size
  pub scoped : scope.size ≤ scope.width
  pub arguments : of_check.parameters ≤ scope.width
  pub above : scope.width ≤ scope.top
  pub room : scope.top + scope.width * d ≤ length S

-- What no call changes: lengths, the slots between the scope's width and its top, and the lookup classes of other rows.
pub record Kept (S S' C C' : List ℕ) (from to width top : ℕ) : Type 0 where
  pub slots_long : length S' ≡ length S
  pub classes_long : length C' ≡ length C
  pub between : (i : ℕ) → width ≤ i → i < top → get_or S' i 0 ≡ get_or S i 0
  pub before : (i : ℕ) → i < from → get_or C' i 0 ≡ get_or C i 0
  pub after : (i : ℕ) → to ≤ i → get_or C' i 0 ≡ get_or C i 0

-- What is given of expression e at a row: rows and tables hold its program p, the rows from there on are its own, it may
-- nest d deep, the slots in scope have the types of γ, and there is room for it.
pub record Given (R E T A M F S : List ℕ) (at : ℕ) (scope : Scope) (p : Program) (e : Expr)
    (γ : Environment)
    (d : ℕ) : Type 0 where
  pub headed : Headed R E T A M F p scope.count
  pub encoded : Encoded R E e at
  pub in_form : NodeInForm (of_width scope.width) d scope.size e
  pub views : Views (world p.classes) γ S scope.size
  pub room : Room S scope d

pub record Pre (R E T A M F S : List ℕ) (at : ℕ) (scope : Scope) : Type 0 where
  pub p : Program
  pub e : Expr
  pub γ : Environment
  pub d : ℕ
  pub given : Given R E T A M F S at scope p e γ d

-- A type that names a declared class.
pub record Declared (W : World) (t : ExprType) : Type 0 where
  pub class_in : (c : ℕ) → t ≡ known (class c) → is_declared_type W (class c) ≡ true

pub record Accepted (W : World) (e : Expr) (γ : Environment) (at scope : ℕ) (S' C' : List ℕ) (a : Typed) :
    Type 0 where
  pub views : Views W a.slots S' scope
  pub declared : Declared W a.type
  pub looks : LooksUp W C' e γ at

-- The answer is the definition's, the line being the row's number and 1; where it is accepted, so are slots and
-- table.
pub record Is (W : World) (e : Expr) (γ : Environment) (at scope : ℕ) (S' C' : List ℕ) (r : Answer) : Type 0
  where
    pub out : r ≡ answer_of (type_of W e (at + 1) γ)
    pub accepted : (a : Typed) → type_of W e (at + 1) γ ≡ accept a → Accepted W e γ at scope S' C' a

pub record Post (R E T A M F S C S' C' : List ℕ) (at : ℕ) (scope : Scope) (r : Answer) : Type 0 where
  pub kept : Kept S S' C C' at (get_or E at 0) scope.width scope.top
  pub is : (w : Pre R E T A M F S at scope)
      → Is (world w.p.classes) w.e w.γ at scope.size S' C' r

-- The same of several expressions in a row; then of n of them.
pub record GivenAll (R E T A M F S : List ℕ) (at : ℕ) (scope : Scope) (p : Program) (es : Exprs)
    (γ : Environment) (d : ℕ) : Type 0 where
  pub headed : Headed R E T A M F p scope.count
  pub encoded : EncodedAll R E es at
  pub in_form : NodesInForm (of_width scope.width) d scope.size es
  pub views : Views (world p.classes) γ S scope.size
  pub room : Room S scope d

pub record PreList (R E T A M F S : List ℕ) (at : ℕ) (scope : Scope) (n : ℕ) : Type 0 where
  pub p : Program
  pub es : Exprs
  pub γ : Environment
  pub d : ℕ
  pub many : n ≡ how_many es
  pub given : GivenAll R E T A M F S at scope p es γ d

pub record AcceptedAll (W : World) (es : Exprs) (γ : Environment) (at scope : ℕ) (S' C' : List ℕ)
    (b : TypedAll) : Type 0 where
  pub views : Views W b.slots S' scope
  pub types : (i : ℕ) (t : ExprType) → nth b.types i ≡ some t → Declared W t
  pub looks : LooksUpAll W C' es γ at

-- A block's list after those that gave `last`, of type t: the last type, and the effects joined to those so far.
pub record ItemsAre (W : World) (es : Exprs) (γ : Environment) (at scope : ℕ) (S' C' : List ℕ) (last : TypedCase)
    (t : ExprType) (r : Answer) : Type 0 where
  pub out : r ≡ answer_of (bind_checked (type_all W es (at + 1) γ) λ b. typed (last_type t b.types)
      b.slots (join last.effect b.effect))
  pub accepted : (b : TypedAll) → type_all W es (at + 1) γ ≡ accept b → AcceptedAll W es γ at scope S' C' b

pub record PostItems (R E T A M F S C S' C' : List ℕ) (at : ℕ) (scope : Scope) (n : ℕ) (last : TypedCase) (r : Answer) :
    Type 0 where
  pub slots_long : length S' ≡ length S
  pub classes_long : length C' ≡ length C
  pub between : (i : ℕ) → scope.width ≤ i → i < scope.top → get_or S' i 0 ≡ get_or S i 0
  pub before : (i : ℕ) → i < at → get_or C' i 0 ≡ get_or C i 0
  pub after : (w : PreList R E T A M F S at scope n) (i : ℕ) → at + sizes w.es ≤ i
      → get_or C' i 0 ≡ get_or C i 0
  pub is : (w : PreList R E T A M F S at scope n) (t : ExprType) → last.typing ≡ typing_case t
      → ItemsAre (world w.p.classes) w.es w.γ at scope.size S' C' last t r

-- The numbers of arguments' types as they are stored.
unfoldable pub stored : List ExprType → List ℕ
stored ts = map (λ (t : ExprType). case_number (typing_case t)) ts

-- What is answered of a call's arguments: their effects joined.
abbrev pub effects_of : Checked TypedAll → Result ℕ Refusal
effects_of q = result_of (λ (b : TypedAll). b.effect) q

-- A call's arguments: their effects joined, and their types stored from the top on.
pub record ArgumentsAre (W : World) (es : Exprs) (γ : Environment) (at scope top n : ℕ) (S' C' : List ℕ)
    (r : Result ℕ Refusal) : Type 0 where
  pub out : r ≡ effects_of (type_all W es (at + 1) γ)
  pub accepted : (b : TypedAll) → type_all W es (at + 1) γ ≡ accept b → AcceptedAll W es γ at scope S' C' b
  pub waiting : (b : TypedAll) → type_all W es (at + 1) γ ≡ accept b → (i : ℕ) → i < n
      → get_or S' (top + i) 0 ≡ get_or (stored b.types) i 0

pub record PostArguments (R E T A M F S C S' C' : List ℕ) (at : ℕ) (scope : Scope) (n : ℕ) (r : Result ℕ Refusal) :
    Type 0 where
  pub slots_long : length S' ≡ length S
  pub classes_long : length C' ≡ length C
  pub between : (i : ℕ) → scope.width ≤ i → i < scope.top → get_or S' i 0 ≡ get_or S i 0
  pub before : (i : ℕ) → i < at → get_or C' i 0 ≡ get_or C i 0
  pub after : (w : PreList R E T A M F S at (raised scope n) n) (i : ℕ) → at + sizes w.es ≤ i
      → get_or C' i 0 ≡ get_or C i 0
  pub is : (w : PreList R E T A M F S at (raised scope n) n)
      → ArgumentsAre (world w.p.classes) w.es w.γ at scope.size scope.top n S' C' r

-- The same of the rows and tables that the functions are given.
abbrev pub PreNode : CodeProgram → List ℕ → ℕ → Scope → Type 0
PreNode t S at scope = Pre t.rows.now t.ends.now t.table.now t.above.now t.methods.now t.effects.now S at scope

abbrev pub PostNode : CodeProgram → List ℕ → List ℕ → List ℕ → List ℕ → ℕ → Scope → Answer → Type 0
PostNode t S C S' C' at scope r =
    Post t.rows.now t.ends.now t.table.now t.above.now t.methods.now t.effects.now S C S' C' at scope r

abbrev pub PreNodes : CodeProgram → List ℕ → ℕ → Scope → ℕ → Type 0
PreNodes t S at scope n =
    PreList t.rows.now t.ends.now t.table.now t.above.now t.methods.now t.effects.now S at scope n

abbrev pub PostNodes : CodeProgram → List ℕ → List ℕ → List ℕ → List ℕ → ℕ → Scope → ℕ → Answer → Type 0
PostNodes t S C S' C' at scope n r =
    PostItems t.rows.now t.ends.now t.table.now t.above.now t.methods.now t.effects.now S C S' C' at scope n
    (typed_case Null 0) r

abbrev pub PostGiven : CodeProgram → List ℕ → List ℕ → List ℕ → List ℕ → ℕ → Scope → ℕ → Result ℕ Refusal → Type 0
PostGiven t S C S' C' at scope n r =
    PostArguments t.rows.now t.ends.now t.table.now t.above.now t.methods.now t.effects.now S C S' C' at scope n r
