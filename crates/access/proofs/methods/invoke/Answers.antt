-- `access::methods::invoke` meets its contract. Assumes nothing.
use mathlib.Core.Path.{refl, sym, ap, ◌∙◌}
use Prim.Native.Nat.{ℕ}
use Rattle.std.specs.Prelude.{Err}
use native.Mathlib.Omega.{arith}
use lib.ListN.{set}
use Rattle.access.specs.Calls.{method_line, no_class, no_method, other_count, unfit, done}
use Rattle.access.proofs.FieldLaws.{no_class_of}
use Rattle.access.proofs.CallLaws.{place_none, place_some, called_method, done_out}
use Rattle.access.proofs.methods.invoke.Goals as goal

pub returns-in_default : goal.returns-in_default
returns-in_default c = no_class (no_class_of c.args.receiver.typing c.in_default.not-Class) (ap Err c.refused.ensures)
    (record { slots_same = refl; classes_same = refl })

pub apply-class-requires : goal.apply-class-requires
apply-class-requires c = let w = c.requires.receiver _ c.in-Class.is in (w.inside, w.root)

pub class_entry-stored-requires : goal.class_entry-stored-requires
class_entry-stored-requires c = omega (
  arith,
  c.apply-class.ensures,
  (c.requires.receiver _ c.in-Class.is).after,
  c.requires.name,
  c.first-name.ensures,
)

pub returns-in_default-checked_sub : goal.returns-in_default-checked_sub
returns-in_default-checked_sub c = no_method _ c.in-Class.is
    (place_none _ _ _ _ _ _ _ c.apply-class.ensures c.first-name.ensures
    c.class_entry-stored.ensures
    (omega (arith, c.in_default-checked_sub.ensures))) (ap Err c.refused-in_default-checked_sub.ensures)
    (record { slots_same = refl; classes_same = refl })

pub method_entry-requires : goal.method_entry-requires
method_entry-requires c = (called_method c.requires c.in-Class.is c.apply-class.ensures c.first-name.ensures c.class_entry-stored.ensures
    c.in-Some.number (omega (arith, c.in-Some.ensures))).inside

pub returns-then-method_entry-n : goal.returns-then-method_entry-n
returns-then-method_entry-n c = other_count _ _ c.in-Class.is
    (place_some _ _ _ _ _ _ _ c.apply-class.ensures c.first-name.ensures
    c.class_entry-stored.ensures (omega (arith, c.in-Some.ensures)))
    (λ e. c.if-method_entry-n.true (c.method_entry.ensures ∙ (e ∙ sym c.second-n.ensures)))
    (ap Err c.refused-then-method_entry-n.ensures)
    (record { slots_same = refl; classes_same = refl })

pub method_row-row-requires : goal.method_row-row-requires
method_row-row-requires c = omega (
  arith,
  (called_method c.requires c.in-Class.is c.apply-class.ensures c.first-name.ensures c.class_entry-stored.ensures
      c.in-Some.number (omega (arith, c.in-Some.ensures))).inside,
)

pub overflow_add-row : goal.overflow_add-row
overflow_add-row c = omega (
  arith,
  c.method_row-row.ensures,
  (called_method c.requires c.in-Class.is c.apply-class.ensures c.first-name.ensures c.class_entry-stored.ensures
      c.in-Some.number (omega (arith, c.in-Some.ensures))).line,
  c.well_formed,
)

pub are_fitting-requires : goal.are_fitting-requires
are_fitting-requires c = rw (c.second-n.ensures, c.method_row-row.ensures)
    ((called_method c.requires c.in-Class.is c.apply-class.ensures c.first-name.ensures c.class_entry-stored.ensures
    c.in-Some.number (omega (arith, c.in-Some.ensures))).fitting (sym c.method_entry.ensures ∙ (c.if-method_entry-n.false ∙ c.second-n.ensures)))

pub returns-then-not-are_fitting : goal.returns-then-not-are_fitting
returns-then-not-are_fitting c = unfit _ _ c.in-Class.is
    (place_some _ _ _ _ _ _ _ c.apply-class.ensures c.first-name.ensures
    c.class_entry-stored.ensures (omega (arith, c.in-Some.ensures)))
    (sym c.method_entry.ensures ∙ (c.if-method_entry-n.false ∙ c.second-n.ensures))
    (rw (← c.second-n.ensures, ← c.method_row-row.ensures)
    (sym c.are_fitting.ensures ∙ c.if-not-are_fitting.true))
    (ap Err c.refused-then-not-are_fitting.ensures)
    (record { slots_same = refl; classes_same = refl })

pub offset_bounds-program-number : goal.offset_bounds-program-number
offset_bounds-program-number c = omega (
  arith,
  (called_method c.requires c.in-Class.is c.apply-class.ensures c.first-name.ensures c.class_entry-stored.ensures
      c.in-Some.number (omega (arith, c.in-Some.ensures))).effect,
  c.well_formed,
)

pub bounds-program-number : goal.bounds-program-number
bounds-program-number c = (called_method c.requires c.in-Class.is c.apply-class.ensures c.first-name.ensures c.class_entry-stored.ensures
    c.in-Some.number (omega (arith, c.in-Some.ensures))).effect

pub note-requires : goal.note-requires
note-requires c = omega (arith, c.apply-class.ensures, (c.requires.receiver _ c.in-Class.is).low)

pub first-requires : goal.first-requires
first-requires c = omega (
  arith,
  c.method_row-row.ensures,
  (called_method c.requires c.in-Class.is c.apply-class.ensures c.first-name.ensures c.class_entry-stored.ensures
      c.in-Some.number (omega (arith, c.in-Some.ensures))).line,
)

pub returns : goal.returns
returns c = done _ _ c.in-Class.is
    (place_some _ _ _ _ _ _ _ c.apply-class.ensures c.first-name.ensures
    c.class_entry-stored.ensures (omega (arith, c.in-Some.ensures)))
    (sym c.method_entry.ensures ∙ (c.if-method_entry-n.false ∙ c.second-n.ensures))
    (rw (← c.second-n.ensures, ← c.method_row-row.ensures)
    (sym c.are_fitting.ensures ∙ c.if-not-are_fitting.false))
    (record {
      out = done_out c.args.program.now.rows.now
          (method_line c.args.program.now.methods.now c.in-Some.number) _ _ _ _ _ _ c.method_row-row.ensures
          (c.from_number.ensures ∙ c.first.ensures)
          c.typing_of.ensures;
      slots = c.apply_all.ensures;
      noted = c.note.ensures
          ∙ ap (λ (x : ℕ). set c.args.class_at.now c.args.at x) c.apply-class.ensures;
    })
