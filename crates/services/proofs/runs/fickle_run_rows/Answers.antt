-- `services::runs::fickle_run_rows` meets its contract. Assumes nothing.
use mathlib.Core.Path.{◌∙◌}
use Rattle.language.specs.Store.{run_of}
use Rattle.services.proofs.Telling.{number_is, kind_is, content_is, steps_is, objects_is, changes_is}
use Rattle.services.proofs.runs.fickle_run_rows.Goals as goal

pub returns : goal.returns
returns c = let ran = c.run_rows-answer.ensures in
    let value = c.tell_value.ensures in
    let counts = c.tell_counts.ensures in
    let of-run = (run_of c.args.rows.now c.args.fuel c.args.store.now).answer in record {
      value = c.pack_run.ensures ∙ number_is of-run ran.answer;
      store_after = ran.store;
      kind_after = value.kind_after ∙ kind_is of-run ran.answer c.args.kind.now;
      content_after = value.content_after ∙ content_is of-run ran.answer c.args.content.now;
      steps_after = counts.steps_after ∙ steps_is of-run ran.answer c.args.steps.now;
      objects_after = counts.objects_after ∙ objects_is of-run ran.answer c.args.objects.now;
      changes_after = counts.changes_after ∙ changes_is of-run ran.answer c.args.changes.now;
    }
