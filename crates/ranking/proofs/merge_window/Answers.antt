-- `ranking::merge_window` meets its contract. Assumes nothing.
use mathlib.Core.Path.{refl, ap, ◌∙◌}
use Prim.Native.Nat.{ℕ, ◌+◌}
use Rattle.ranking.proofs.Merging.{merging, batch_long}
use Rattle.ranking.proofs.merge_window.Goals as goal

pub merge_lines-requires : goal.merge_lines-requires
merge_lines-requires c = let k = c.rank.ensures in (
  c.requires.ready.few,
  merging c.requires.ready _ c.rank.auto.order k.order_after k.by_index c.requires.stands.standing
      c.requires.count_in_bounds,
)

pub returns : goal.returns
returns c = let k = c.rank.ensures in let m = c.merge_lines.ensures in
    let l = c.rank.auto.order in record {
      value = m.0 ∙ ap (λ (n : ℕ). c.args.have + n) (batch_long c.requires.ready _ l k.order_after k.by_index);
      report_after = λ es s. m.1 (merging c.requires.ready _ l k.order_after k.by_index s c.requires.count_in_bounds) ∙ rw k.order_after refl;
    }
