-- What rows and tables that hold an accepted program tell of its classes, fields and methods, beside layout's laws.
--   first_number              a type's number tells its first value
--   still_holding             the same with another store
--   fields_few, few_classes   at most 17 fields a class, at most 64 classes
--   below                     the table of superclasses tells which class is below which
--   field_at                  the row of a field, whose type tells the first value
--   body_at                   the body of a method that is found: its row, its form, its type
-- Assumes nothing.
use mathlib.Core.Path.{◌≡◌, refl, sym, ap, subst}
use mathlib.Core.Option.{some}
use mathlib.Core.List.{List}
use Prim.Native.Nat.{ℕ, ◌+◌, ◌*◌, ◌≤◌, ◌<◌}
use native.Mathlib.Omega.{arith}
use borrow.Author.Tests.{ne_eqb}
use lib.ListN.{length, get_or}
use Rattle.language.specs.Limits.{of_check, bool_number}
use Rattle.language.specs.Lists.{nth}
use Rattle.language.specs.Tree.{DeclaredType, bool, class, type_number, type_of_number, Field, Class}
use Rattle.language.specs.Tree.{heading_lines}
use Rattle.language.specs.World.{Method}
use Rattle.language.specs.Program.{world, body_in}
use Rattle.language.specs.ClassTables.{ClassTables, class_width, rows_place}
use Rattle.language.specs.MethodTables.{method_width, body_place}
use Rattle.language.specs.Encoded.{Encoded}
use Rattle.language.specs.Layout.{body_row}
use Rattle.language.specs.State.{initial}
use Rattle.language.specs.WellFormed.{TypeInForm, BodyInForm}
use Rattle.language.proofs.Methods.{method_found}
use Rattle.classes.specs.Subclasses.{is_below}
use Rattle.classes.proofs.Below.{below_is}
use Rattle.layout.specs.HeldLaws.{few, lower, few_fields, fields, method_at, body_typed}
use Rattle.layout.specs.ProperNodes.{Typed}
use Rattle.objects.specs.Holding.{Holding, Sound, first_value_of}

-- The first value of a type, by its number.
pub first_number : (t : DeclaredType) → TypeInForm t → first_value_of (type_number t) ≡ initial t
first_number bool f = refl
first_number (class c) f = rw (ne_eqb c bool_number (λ e. no_bool f.back e))
  where
    no_bool : type_of_number c ≡ class c → c ≡ bool_number → ⊥
    no_bool b e = let q : bool ≡ class bool_number = rw e at b in let z : ◌≡◌ {A = ℕ} 0 1 = cc in omega arith

module _ {R E T A M s : List ℕ} {P : List Class} {made : ℕ} (h : Holding R E T A M s P made) where
  -- The same with another store that holds objects.
  pub still_holding : {s' : List ℕ} {made' : ℕ} → Sound P made' s' → Holding R E T A M s' P made'
  still_holding sound = record { F = h.F; C = h.C; start = h.start; held = h.held; sound = sound }

  abbrev pub tables : ClassTables P T A
  tables = h.held.headed.classes

  pub few_classes : length P ≤ of_check.classes
  few_classes = few h.held.headed

  pub fields_few : (k : ℕ) → length ((world P).fields k) ≤ of_check.fields
  fields_few k = few_fields h.held.headed k

  pub below : (k c : ℕ) → k ≤ length P → is_below A k c ≡ (world P).below k c
  below k c l = below_is P (lower h.held.headed) tables k c l

  -- The row of field i of class k, in the table, is among the rows, and its type tells the first value.
  pub field_at : (k i : ℕ) (f : Field) → k ≤ length P → nth ((world P).fields k) i ≡ some f
      → (get_or T (k * class_width + rows_place + i) 0 * 4 + 1 < length R)
      × (first_value_of (get_or R (get_or T (k * class_width + rows_place + i) 0 * 4 + 1) 0) ≡ initial f.type)
  field_at k i f l e =
      let x = fields h.held.headed k i f e in
      let r = tables.rows k i x.0 l x.1 in (
        rw r (omega (arith, x.2.line.within)),
        rw (r, x.2.line.first) (first_number f.type x.2.in_form.type),
      )

  pub body_at : (k m : ℕ) (N : Method) → (world P).method k m ≡ some N
      → Encoded R E (body_in P N.number) (get_or M (N.number * method_width + body_place) 0)
      × BodyInForm of_check (1 + length N.parameters) (body_in P N.number)
      × Typed P (body_in P N.number)
  unfolding heading_lines
  body_at k m N e =
      let f = method_found P k m N e in
      let x = method_at h.held.headed k m N e in
      let r : get_or M (N.number * method_width + body_place) 0
      ≡ body_row f.placed.row f.placed.declaration
      = omega (arith, h.held.headed.methods.bodies N.number f.placed f.there) in
      let t = body_typed h.held k m N e in (
        rw (r, f.body) x.at.body,
        subst (λ (n : ℕ). BodyInForm of_check (1 + n) (body_in P N.number))
            (ap length (sym f.parameters))
            (rw f.body x.in_form.body),
        record { before = t.0; type = t.1; after = t.2; effect = t.3; has = t.4 },
      )
