-- `scanning::count_next` meets its contract. Assumes nothing.
use mathlib.Core.Path.{◌≡◌, ap, ◌∙◌}
use mathlib.Core.List.{List}
use Prim.Native.Nat.{ℕ, ◌-◌}
use native.Mathlib.Omega.{arith}
use lib.ListN.{length, take, drop, length-drop}
use lib.Seq.{take_all}
use Rattle.fleet.specs.Counts.{run_counts, count_told}
use Rattle.scanning.proofs.count_next.Goals as goal

pub returns : goal.returns
returns c = λ w. let S = c.args.stores.now in let n = c.args.from in
    let t : take (length S - n) (drop n S) ≡ drop n S =
    take_all (length S - n) (drop n S) (omega (arith, length-drop n S)) in
    c.count_labels.ensures w
    ∙ ap (λ (z : List ℕ).
    count_told (run_counts w.rows z c.args.objects c.args.printed
    c.args.spoiled)) t
