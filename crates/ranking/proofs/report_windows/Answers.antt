-- `ranking::report_windows` meets its contract. Assumes nothing.
use mathlib.Core.Path.{sym, ◌∙◌}
use Rattle.ranking.proofs.Ending.{refused_report, short_report, whole_report, judged_refuse}
use Rattle.ranking.proofs.Ending.{judged_sums}
use Rattle.ranking.proofs.Ending.{judged_fits, judged_over}
use Rattle.ranking.proofs.Judging.{some_is, none_is}
use Rattle.ranking.proofs.Writing.{lent_same}
use Rattle.ranking.proofs.report_windows.Goals as goal

pub returns-in-Some : goal.returns-in-Some
returns-in-Some g c = let j = c.judge_windows-j.ensures in
    refused_report _ _ _ _ _ (judged_refuse j.modelled j.judging _ c.in-Some.is)

pub write_windows-requires : goal.write_windows-requires
write_windows-requires g c = let j = c.judge_windows-j.ensures in let k = c.judge_windows-j.auto in
    let a = judged_sums j.modelled j.judging c.in_default.is in
    let o = some_is c.judge_windows-j.result.room (sym c.is_some.ensures ∙ c.if-is_some.true) in record {
      lent = lent_same k.table k.heads k.nexts c.requires;
      fits = record {
        count = a.1.0;
        clean = a.1.1;
        room = judged_fits j.modelled j.judging c.in_default.is o.0 o.1;
      };
    }

pub returns-then-is_some : goal.returns-then-is_some
returns-then-is_some g c = let j = c.judge_windows-j.ensures in
    let a = judged_sums j.modelled j.judging c.in_default.is in
    let o = some_is c.judge_windows-j.result.room (sym c.is_some.ensures ∙ c.if-is_some.true) in
    let w = c.write_windows.ensures in
    whole_report _ _ _ _ _ _ a.0 (judged_fits j.modelled j.judging c.in_default.is o.0 o.1) w.long w.are

pub returns : goal.returns
returns g c = let j = c.judge_windows-j.ensures in
    let a = judged_sums j.modelled j.judging c.in_default.is in
    let o = none_is c.judge_windows-j.result.room (sym c.is_some.ensures ∙ c.if-is_some.false) in
    short_report _ _ _ _ a.0 (judged_over j.modelled j.judging c.in_default.is o)
