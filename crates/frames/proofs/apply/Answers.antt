use mathlib.Core.Path.{sym, ◌∙◌}
use Rattle.frames.proofs.Leaves.{pre_load, pre_cast, apply_rest, apply_test}
use Rattle.frames.proofs.Leaves.{apply_get, apply_cast, apply_assign}
use Rattle.objects.specs.Values.{outcome}
use native.Mathlib.Omega.{arith}
use Rattle.frames.proofs.apply.Goals as goal

pub load-requires : goal.load-requires
load-requires c = let p = pre_load c.requires (sym c.letter_at.ensures ∙ c.in-71.is) in
    rw c.first-a.ensures (record { pre_object = p.0; f_bound = p.1 })

pub cast_object-requires : goal.cast_object-requires
cast_object-requires c = rw c.first-a.ensures (record {
  pre_cast = pre_cast c.requires (sym c.letter_at.ensures ∙ c.in-75.is);
  word = c.requires.is_word;
})

pub returns-in-90 : goal.returns-in-90
returns-in-90 c = apply_test (sym c.letter_at.ensures ∙ c.in-90.is)
    c.test_null.ensures

pub returns-in-71 : goal.returns-in-71
returns-in-71 c = apply_get (outcome c.load.result)
    (sym c.letter_at.ensures ∙ c.in-71.is)
    (rw c.first-a.ensures at c.load.ensures)

pub returns-in-75 : goal.returns-in-75
returns-in-75 c = apply_cast (outcome c.cast_object.result)
    (sym c.letter_at.ensures ∙ c.in-75.is)
    (rw c.first-a.ensures at c.cast_object.ensures)

pub returns-in_default : goal.returns-in_default
returns-in_default c = apply_assign (apply_rest c.requires (λ e. omega arith) (λ e. omega arith) (λ e. omega arith))
    (rw c.first-a.ensures at c.write_slot.ensures)
