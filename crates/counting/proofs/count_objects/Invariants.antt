-- `counting::count_objects` meets its contract. Assumes nothing.
use mathlib.Core.Path.{◌≡◌}
use Prim.Native.Nat.{◌≤◌, ◌*◌, ◌-◌}
use lib.ListN.{drop}
use Rattle.language.specs.Limits.{object_width}
use Rattle.language.specs.Program.{world}
use Rattle.counting.specs.Knowing.{Serves}
use Rattle.counting.specs.Labels.{labels_next}
use Rattle.counting.proofs.count_objects.Given as goal

abbrev pub invariant-loop-at : goal.invariant-loop-at
invariant-loop-at g l = (l.labels.printed ≤ l.at) × (l.labels.spoiled ≤ l.at)
    × ((w : Serves l.above l.classes)
    → labels_next (world w.program) l.printed l.spoiled g.R.Reading.plain l.objects l.store l.objects l.store 0 0
    ≡ labels_next (world w.program) l.printed l.spoiled g.R.Reading.plain l.objects l.store (l.objects - l.at)
    (drop (object_width * l.at) l.store)
    l.labels.printed l.labels.spoiled)
