-- `translator::translate_rows` meets its contract. Assumes nothing.
use Rattle.passes.proofs.Passing.{uneven}
use Rattle.translator.proofs.Translating.{translation_refused}
use Rattle.translator.proofs.translate_rows.Goals as goal

pub returns-then-rows-ne0 : goal.returns-then-rows-ne0
returns-then-rows-ne0 c = translation_refused c.args.rows.now _ (uneven c.args.rows.now c.if-rows-ne0.true)
