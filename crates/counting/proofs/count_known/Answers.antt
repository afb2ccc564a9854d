-- `counting::count_known` meets its contract. Assumes nothing.
use mathlib.Core.Path.{sym, ap, ◌∙◌}
use Rattle.std.specs.Prelude.{Err}
use Rattle.fleet.specs.Counts.{count_told}
use Rattle.counting.proofs.Knowledge.{accepted, is_refused, serving, related_low}
use Rattle.counting.proofs.Objects.{told_or}
use Rattle.counting.proofs.Stores.{counts_short, counts_refused, counts_unrelated, counts_related}
use Rattle.counting.proofs.count_known.Goals as goal
use Rattle.counting.proofs.count_known.Goals.{then-store-objects-via-then-store-objects, then-store-objects-via-else-store-objects+then-not-is_related}

pub returns-in_default : goal.returns-in_default
returns-in_default g c = λ w. let x = is_refused w.knows c.in_default.is in
    ap Err c.refused.ensures
    ∙ ap count_told (counts_refused w.rows _ _ _ _ g.R.Reading.plain x.0 x.1 x.2)

pub returns-then-store-objects : goal.returns-then-store-objects
returns-then-store-objects g c = λ w. ap Err c.refused-then-store-objects.ensures
    ∙ ap count_told (elim c.then-store-objects.branch [
      | then-store-objects-via-then-store-objects v ↦
          counts_short w.rows _ _ _ _ g.R.Reading.plain v.if-store-objects.true
      | then-store-objects-via-else-store-objects+then-not-is_related v ↦
          let x = accepted w.knows _ c.in-Some.is in
          counts_unrelated w.rows _ _ _ _ x.0 x.1 v.if-store-objects.false g.R.Reading.plain
          (sym (v.is_related.ensures (serving w.knows _ c.in-Some.is)) ∙ v.if-not-is_related.true)
    ])

pub count_objects-requires : goal.count_objects-requires
count_objects-requires g c = let s = serving c.requires.knows _ c.in-Some.is in
    let low = related_low s c.args.printed c.args.spoiled
    (sym (c.is_related.ensures s) ∙ c.if-not-is_related.false) in
    (s, low.0, low.1, c.if-store-objects.false)

pub returns : goal.returns
returns g c = λ w. let x = accepted w.knows _ c.in-Some.is in let s = serving w.knows _ c.in-Some.is in
    rw (c.ok_or.ensures.value, c.count_objects.ensures s, c.refused-2.ensures)
    (told_or _ ∙ ap count_told (counts_related w.rows _ _ _ _ x.0 x.1 c.if-store-objects.false g.R.Reading.plain
    (sym (c.is_related.ensures s) ∙ c.if-not-is_related.false)))
