-- `members::methods::lines_within` meets its contract. Assumes nothing.
use Rattle.std.proofs.Common.{rules, tests, arith, ◌+◌, ◌*◌, ltb, get_or, ◌∙◌, ◌&&◌}
use lib.Dec.{leb}
use Rattle.std.proofs.lemmas.Iterator.{serves_from_Range, YieldsList-from_range}
use Rattle.std.proofs.lemmas.Iterator.Search.{all_from_yields_List}
use Rattle.language.specs.Effects.{member}
use Rattle.members.proofs.Loops.{effects_index, effects_end, lines_tested}
use Rattle.members.proofs.methods.lines_within.Goals as goal

pub overflow_add-r : goal.overflow_add-r
overflow_add-r c = grind (arith, effects_end c.requires)

pub all-requires-clause-callable : goal.all-requires-clause-callable
all-requires-clause-callable c = serves_from_Range (λ x q k. search rules) (λ x l h.
    let i = effects_index c.requires x (omega arith) (omega (arith, h)) in
    grind (arith, i.0, i.1))

pub returns : goal.returns
returns c = λ w. all_from_yields_List
    (λ i. ltb 0 (get_or c.args.rows.now (i * 4 + 1) 0) && (leb (get_or c.args.rows.now (i * 4 + 1) 0) 64
    && member c.args.set (get_or c.args.rows.now (i * 4 + 1) 0)))
    _ _ _ c.all.ensures.ran (YieldsList-from_range c.args.r (c.args.r + c.args.n) c.args.n (cc) (omega arith))
    (λ x b q k. search (rules, tests)) ∙ lines_tested w c.args.set
