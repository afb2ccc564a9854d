-- `members::methods::same_types` meets its contract. Assumes nothing.
use Rattle.std.proofs.Common.{rules, tests, arith, ◌+◌, ◌*◌, eqb, get_or, ◌∙◌}
use Rattle.std.proofs.lemmas.Iterator.{serves_from_Range, YieldsList-from_range}
use Rattle.std.proofs.lemmas.Iterator.Search.{all_from_yields_List}
use Rattle.members.proofs.Loops.{types_index, types_matched}
use Rattle.members.proofs.methods.same_types.Goals as goal

pub all-requires-clause-callable : goal.all-requires-clause-callable
all-requires-clause-callable c = serves_from_Range (λ x q k. search rules) (λ x l h.
    let i = types_index c.requires.0 (c.args.p + x) (omega arith) (omega (arith, h)) in
    let j = types_index c.requires.1 (c.args.q + x) (omega arith) (omega (arith, h)) in
    grind (arith, i.0, i.1, j.0))

pub returns : goal.returns
returns c = λ v w. all_from_yields_List
    (λ i. eqb (get_or c.args.rows.now ((c.args.p + i) * 4 + 1) 0) (get_or c.args.rows.now ((c.args.q + i) * 4 + 1) 0))
    _ _ _ c.all.ensures.ran (YieldsList-from_range 0 c.args.n c.args.n (cc) (omega arith))
    (λ x b q k. search (rules, tests)) ∙ types_matched v w
