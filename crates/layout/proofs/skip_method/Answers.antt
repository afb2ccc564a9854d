-- `layout::skip_method` meets its contract. Assumes nothing.
use native.Mathlib.Omega.{arith}
use Rattle.layout.proofs.Walks.{method_parameters, method_effects, method_block}
use Rattle.layout.proofs.skip_method.Goals as goal

pub count_rows-p-requires : goal.count_rows-p-requires
count_rows-p-requires c = method_parameters c.requires

pub count_rows-x-requires : goal.count_rows-x-requires
count_rows-x-requires c = method_effects c.requires c.count_rows-p.result c.count_rows-p.ensures

pub bounds-ends-r : goal.bounds-ends-r
bounds-ends-r c = (let b = method_block c.requires c.count_rows-p.result
    c.count_rows-p.ensures c.count_rows-x.result
    c.count_rows-x.ensures in omega (arith, b.0, b.1, c.requires.short))

pub returns : goal.returns
returns c = λ w. (method_block w c.count_rows-p.result
    c.count_rows-p.ensures c.count_rows-x.result
    c.count_rows-x.ensures).2
