-- `demands::run_both` meets its contract. Assumes nothing.
use Rattle.demands.proofs.Alike.{count_fits, both_run, both_refused}
use Rattle.demands.proofs.run_both.Goals as goal

pub run_plain-requires : goal.run_plain-requires
run_plain-requires c = count_fits _ c.args.plain.now c.translate_rows.ensures c.translate_rows.auto.out
    c.in-Ok.is

pub returns-in-Ok : goal.returns-in-Ok
returns-in-Ok c = both_run _ _ c.translate_rows.ensures c.run_rows-source.ensures _ c.in-Ok.is
    c.run_plain.ensures

pub returns-in-Err : goal.returns-in-Err
returns-in-Err c = both_refused _ _ c.translate_rows.ensures c.run_rows-source.ensures _
    c.in-Err.is
