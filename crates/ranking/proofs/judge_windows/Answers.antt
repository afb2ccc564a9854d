-- `ranking::judge_windows` meets its contract. Assumes nothing.
use mathlib.Core.Path.{refl}
use native.Mathlib.Omega.{arith}
use Rattle.ranking.proofs.Judging.{judge_none, judged_all}
use Rattle.ranking.proofs.Looping.{some_next, judges_next, judging_on}
use Rattle.ranking.proofs.judge_windows.Goals as goal

pub loop-low-init : goal.loop-low-init
loop-low-init g c = record {
  judging = judge_none _ _ _ _ c.count.ensures.value refl refl;
  less = omega arith;
  sized = c.requires;
  kept = (refl, (refl, refl));
}

pub judge_window-j-requires : goal.judge_window-j-requires
judge_window-j-requires g c = some_next c.loop-low.invariant c.scan-s.ensures

pub loop-low-preserved : goal.loop-low-preserved
loop-low-preserved g c = let i = c.loop-low.invariant in let s = c.scan-s.ensures in
    judging_on i s (c.judge_window-j.ensures _ _ _ _ (judges_next i s))

pub returns-clause-judging : goal.returns-clause-judging
returns-clause-judging g c = let i = c.loop-low.invariant in
    judged_all i.judging i.less (omega arith)
