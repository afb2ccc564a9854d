-- What the functions over methods and over the whole program require and ensure.
use Rattle.std.specs.Prelude.{Result, ◌≡◌, ◌⊎◌, List, ℕ, ◌+◌, ◌*◌, ◌≤◌, ◌<◌, length, get_or}
use Rattle.std.proofs.Math.Option.{some}
use Rattle.language.specs.Limits.{of_check}
use Rattle.language.specs.declared.Refusal.{Refusal}
use Rattle.language.specs.Refusals.{result_of}
use Rattle.language.specs.Lists.{nth}
use Rattle.language.specs.Results.{Pass, passed}
use Rattle.language.specs.Tree.{Expr, size, Program}
use Rattle.language.specs.World.{World}
use Rattle.language.specs.Program.{world}
use Rattle.language.specs.Environment.{Environment, method_environment}
use Rattle.language.specs.Typing.{type_method, bodies}
use Rattle.language.specs.LookupClasses.{LooksUp}
use Rattle.language.specs.MethodTables.{PlacedMethod, placed_methods}
use Rattle.language.specs.Layout.{body_row, start_row, LooksUpProgram}
use Rattle.layout.specs.Held.{Headed}
use Rattle.types.specs.declared.Program.{Program as CodeProgram}
use Rattle.types.specs.Answers.{fresh_in}

-- What the pass answers: that all is accepted, or a refusal.
abbrev pub Verdict : Type 0
Verdict = Result (Unit {0}) Refusal

abbrev pub verdict_of : Pass → Verdict
verdict_of q = result_of (λ (t : Unit {0}). t) q

-- The slots at the start of a method's body: `this`, then the types of n P lines.
pub record PreEnter (R S : List ℕ) (from n : ℕ) : Type 0 where
  pub slots : n + 1 ≤ length S
  pub rows : (from + n) * 4 ≤ length R

pub record PostEnter (R S S' : List ℕ) (owner from n : ℕ) : Type 0 where
  pub long : length S' ≡ length S
  pub this : get_or S' 0 0 ≡ fresh_in owner
  pub parameters : (i : ℕ) → i < n → get_or S' (1 + i) 0 ≡ fresh_in (get_or R ((from + i) * 4 + 1) 0)

-- A method's body, its row, and the slots that it begins with.
abbrev pub body_of : PlacedMethod → Expr
body_of m = m.declaration.body

abbrev pub body_at : PlacedMethod → ℕ
body_at m = body_row m.row m.declaration

abbrev pub environment_of : PlacedMethod → Environment
environment_of m = method_environment m.owner m.declaration.parameters

-- What typing answers of the method of a number.
abbrev pub type_numbered : World → ℕ → PlacedMethod → Pass
type_numbered W number m = type_method W m.owner number (m.row + 1) m.declaration

-- Slots of a width for each level of nesting and for those in scope. Width and depth are as much as form allows, or as many
-- as there are rows; a width is enough for the arguments of any call.
pub record Spacious (R S : List ℕ) (width depth : ℕ) : Type 0 where
  pub wide : (of_check.slots ≤ width) ⊎ (length R ≤ 4 * width)
  pub deep : (of_check.nesting ≤ depth) ⊎ (length R ≤ 4 * depth)
  pub arguments : of_check.parameters ≤ width
  pub slots : width * (depth + 1) ≤ length S

-- The method of a number, m.
pub record PreMethodBody (R E T A M F S : List ℕ) (count width number : ℕ) : Type 0 where
  pub p : Program
  pub m : PlacedMethod
  pub depth : ℕ
  pub headed : Headed R E T A M F p count
  pub there : nth (placed_methods p.classes) number ≡ some m
  pub space : Spacious R S width depth

-- The answer is the definition's; the lookup classes of the body alone change, and where it passes they are the
-- definition's.
pub record MethodIs (W : World) (number : ℕ) (m : PlacedMethod) (C C' : List ℕ) (r : Verdict) : Type 0 where
  pub out : r ≡ verdict_of (type_numbered W number m)
  pub before : (i : ℕ) → i < body_at m → get_or C' i 0 ≡ get_or C i 0
  pub after : (i : ℕ) → body_at m + size (body_of m) ≤ i → get_or C' i 0 ≡ get_or C i 0
  pub looks : type_numbered W number m ≡ passed → LooksUp W C' (body_of m) (environment_of m) (body_at m)

pub record PostMethodBody (R E T A M F S C S' C' : List ℕ) (count width number : ℕ) (r : Verdict) : Type 0
  where
    pub slots_long : length S' ≡ length S
    pub classes_long : length C' ≡ length C
    pub is : (w : PreMethodBody R E T A M F S count width number)
        → MethodIs (world w.p.classes) number w.m C C' r

-- The same of the rows and tables that the function is given.
abbrev pub PreMethodHere : CodeProgram → List ℕ → ℕ → ℕ → ℕ → Type 0
PreMethodHere t S count width number =
    PreMethodBody t.rows.now t.ends.now t.table.now t.above.now t.methods.now t.effects.now S count width number

abbrev pub PostMethodHere : CodeProgram → List ℕ → List ℕ → List ℕ → List ℕ → ℕ → ℕ → ℕ → Verdict → Type 0
PostMethodHere t S C S' C' count width number r =
    PostMethodBody t.rows.now t.ends.now t.table.now t.above.now t.methods.now t.effects.now S C S' C' count
    width number r

-- A program whose form and headings pass, with its tables; its number of methods, the row of its S line, and a width for
-- its bodies.
pub record BodiesReady (R E T A M F S : List ℕ) (count many start width : ℕ) : Type 0 where
  pub p : Program
  pub headed : Headed R E T A M F p count
  pub counted : many ≡ length (placed_methods p.classes)
  pub started : start ≡ start_row p
  pub depth : ℕ
  pub space : Spacious R S width depth

-- The verdict is the definition's; where it accepts, the table has the lookup classes of every body.
pub record BodiesAre (p : Program) (C' : List ℕ) (r : Verdict) : Type 0 where
  pub out : r ≡ verdict_of (bodies p)
  pub looks : bodies p ≡ passed → LooksUpProgram C' p

pub record BodiesDone (R E T A M F S C C' : List ℕ) (count many start width : ℕ) (r : Verdict) : Type 0 where
  pub long : length C' ≡ length C
  pub are : (w : BodiesReady R E T A M F S count many start width) → BodiesAre w.p C' r
