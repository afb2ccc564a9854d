-- What rows and tables tell that hold a program (Held).
-- Of one whose headings are accepted, with `count` classes:
--   few, lower, kinds      at most 64 classes, superclasses come earlier, kinds are one of the three
--   few_fields, fields     at most 17 fields a class; a field's row, and that its type is declared
--   method_at, parameters_few   what stands in the rows of a method that is found; it has at most 8 parameters
-- Of an accepted one:
--   well                   it is well formed
--   declared_in, in_declared   the declared classes are those up to their number
--   made_in                so are those that W may make
--   field_in, method_in    a class in which a field or a method is found is declared
--   roots                  roots are declared, with a part of the fields
--   body_typed             the body of a method that is found has a type
--   start_typed            and so has the start
use Rattle.std.specs.Prelude.{◌≡◌, true, List, ℕ, ◌≤◌, ◌<◌, length}
use Rattle.std.proofs.Common.{ap, ◌∙◌, arith, length-append}
use Rattle.std.proofs.Math.Option.{some}
use borrow.Author.Tests.{leb-true, le-leb}
use Rattle.language.specs.Limits.{of_check}
use Rattle.language.specs.Lists.{nth}
use Rattle.language.specs.Tree.{unknown, ExprType, Field, Class, Program}
use Rattle.language.specs.World.{Method, place, is_declared, is_declared_type}
use Rattle.language.specs.Program.{world, world_with, class_at, body_in}
use Rattle.language.specs.ClassTables.{field_rows}
use Rattle.language.specs.Environment.{Environment, start_environment}
use Rattle.language.specs.WellFormed.{ProgramWell}
use Rattle.language.proofs.Methods.{method_found}
use Rattle.theory.specs.ComputedRules.{HasType}
use Rattle.theory.proofs.typing.RulesAgree.{computed}
use Rattle.theory.proofs.acceptance.AcceptedWell.{program_well}
use Rattle.theory.proofs.lookups.LookupLaws.{hierarchy, well_formed_laws, well_formed_bodies}
use Rattle.theory.proofs.lookups.TranslatorLookups.{well_formed_more}
use Rattle.layout.specs.Found.{MethodHere, method_here, FieldHere, field_here}
use Rattle.layout.specs.Headed.{super_lower, kinds_known, fields_few, field_declared}
use Rattle.layout.specs.Held.{Headed, Held}

-- ---- headings

module _ {R E T A M F : List ℕ} {p : Program} {count : ℕ} (h : Headed R E T A M F p count) where
  pub few : count ≤ of_check.classes
  few = omega (arith, h.counted, h.here.in_form.few)

  pub lower : (k : ℕ) (c : Class) → class_at p.classes k ≡ some c → c.super < k
  lower k c e = super_lower p.classes tt h.passes k c e

  pub kinds : (k n : ℕ) (c : Class) → class_at p.classes k ≡ some c → c.kind ≡ unknown n → ⊥
  kinds k n c e = kinds_known p.classes tt h.passes k n c e

  pub few_fields : (k : ℕ) → length ((world p.classes).fields k) ≤ of_check.fields
  few_fields k = fields_few p.classes tt h.passes k

  pub fields : (k i : ℕ) (f : Field) → nth ((world p.classes).fields k) i ≡ some f
      → (r : ℕ) × (nth (field_rows p.classes k) i ≡ some r) × FieldHere R f r
      × (is_declared_type (world p.classes) f.type ≡ true)
  fields k i f e = let x = field_here h.here k i f e in
      (x.0, x.1, x.2, field_declared p.classes tt h.passes k i f e)

  pub method_at : (k m : ℕ) (N : Method) (e : (world p.classes).method k m ≡ some N)
      → MethodHere R E p.classes (method_found p.classes k m N e).placed
  method_at k m N e = let f = method_found p.classes k m N e in
      method_here h.here N.number f.placed f.there

  pub parameters_few : (k m : ℕ) (N : Method) → (world p.classes).method k m ≡ some N
      → length N.parameters ≤ of_check.parameters
  parameters_few k m N e = omega (
    arith,
    (method_at k m N e).in_form.few,
    ap length (method_found p.classes k m N e).parameters,
  )

-- ---- accepted programs

-- Whatever the rows and tables: classes and numbers.
module _ (P : List Class) where
  pub in_declared : (c : ℕ) → is_declared (world P) c ≡ true → c ≤ length P
  unfolding world world_with
  in_declared c e = leb-true c (length P) e

  pub declared_in : (c : ℕ) → c ≤ length P → is_declared (world P) c ≡ true
  unfolding world world_with
  declared_in c l = le-leb c (length P) l

  pub made_in : (c : ℕ) → (world P).makes c ≡ true → c ≤ length P
  unfolding world world_with
  made_in c e = leb-true c (length P) e

module _ {R E T A M F C : List ℕ} {p : Program} (a : Held R E T A M F C p) where
  pub well : ProgramWell p
  well = program_well p tt tt a.headed.passes a.typed

  pub roots : (k : ℕ) → k ≤ length p.classes
      → ((world p.classes).root k ≤ length p.classes)
      × (length ((world p.classes).fields ((world p.classes).root k))
      ≤ length ((world p.classes).fields k))
  roots k l =
      let W = world p.classes in
      let laws = well_formed_laws p well in
      let x = laws.prefix k (W.root k) (laws.sub_root k) in (
        in_declared p.classes (W.root k)
            ((well_formed_more p well).declared_root k (declared_in p.classes k l)),
        omega (arith, ap length x.1 ∙ length-append (W.fields (W.root k)) x.0),
      )

  pub body_typed : (k m : ℕ) (N : Method) → (world p.classes).method k m ≡ some N
      → (γ : Environment) × (t : ExprType) × (γ' : Environment) × (φ : ℕ)
      × HasType (world p.classes) γ (body_in p.classes N.number) t γ' φ
  body_typed k m N e = (_, _, _, _, ((well_formed_bodies p well).each k m N e).types)

  pub start_typed : (t : ExprType) × (γ' : Environment) × (φ : ℕ)
      × HasType (world p.classes) start_environment p.start t γ' φ
  start_typed =
      (_, _, _, computed p.classes (hierarchy p.classes well.classes) p.start well.start)

  pub field_in : (k n i : ℕ) → place n ((world p.classes).fields k) ≡ some i → k ≤ length p.classes
  field_in k n i e = in_declared p.classes k ((well_formed_more p well).declared_field k n i e)

  pub method_in : (k m : ℕ) (N : Method) → (world p.classes).method k m ≡ some N
      → k ≤ length p.classes
  method_in k m N e = in_declared p.classes k ((well_formed_more p well).declared_method k m N e)
