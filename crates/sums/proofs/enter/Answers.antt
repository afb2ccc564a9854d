-- `sums::enter` meets its contract. Assumes nothing.
use mathlib.Core.Path.{refl, sym}
use native.Mathlib.Numerals.{add-one}
use Rattle.sums.proofs.Adding.{enter_chained, enter_after}
use Rattle.sums.proofs.enter.Goals as goal

pub chain-requires-clause-chained : goal.chain-requires-clause-chained
chain-requires-clause-chained c = enter_chained c.requires.sums c.put_entry.ensures

pub returns : goal.returns
returns c = let k = c.chain.ensures in let w = sym (c.if-not-is_within.ensures) in
    rw (add-one c.args.count) (
      w,
      refl,
      enter_after c.requires.sums c.put_entry.ensures
          c.requires.count_in_bounds c.requires.lacks w k.chained_2 k.heads_len_unchanged k.nexts_len_unchanged,
    )
