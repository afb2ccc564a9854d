-- `access::methods::are_fitting` meets its contract. Assumes nothing.
use Rattle.std.proofs.Common.{rules, tests, arith, ◌+◌, ◌*◌, get_or, ◌∙◌}
use Rattle.std.proofs.lemmas.Iterator.{YieldsList-from_range}
use Rattle.std.proofs.lemmas.Iterator.Search.{all_from_yields_List}
use Rattle.types.specs.Answers.{stored_case}
use Rattle.types.specs.Tables.{is_fitting}
use Rattle.access.proofs.CallLaws.{fitting_all}
use Rattle.access.proofs.methods.are_fitting.Goals as goal

pub returns : goal.returns
returns c = all_from_yields_List
    (λ i. is_fitting c.args.above.now (stored_case (get_or c.args.slots.now (c.args.from + i) 0))
    (get_or c.args.rows.now ((c.args.row + i) * 4 + 1) 0))
    _ _ _ c.all.ensures.ran (YieldsList-from_range 0 c.args.n c.args.n (cc) (omega arith))
    (λ x b q k. search (rules, tests))
    ∙ fitting_all c.args.rows.now c.args.above.now c.args.slots.now c.args.from c.args.row c.args.n
