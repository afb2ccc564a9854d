-- `ranking::judge_window` meets its contract. Assumes nothing.
use mathlib.Core.Path.{refl, sym, ◌∙◌}
use Rattle.ranking.proofs.Judging.{judge_earlier, judge_same, judge_more, some_is, none_is}
use Rattle.ranking.proofs.judge_window.Goals as goal

pub returns-then-is_some : goal.returns-then-is_some
returns-then-is_some c = λ number ls bytes low n.
    let k = some_is c.args.s.refusal (sym c.is_some.ensures ∙ c.if-is_some.true) in
    judge_earlier n _ k.0 k.1 refl refl

pub returns-then-is_some-2 : goal.returns-then-is_some-2
returns-then-is_some-2 c = λ number ls bytes low n.
    let k = some_is c.args.j.refusal (sym c.is_some-2.ensures ∙ c.if-is_some-2.true) in
    judge_same n k.0 (none_is c.args.s.refusal (sym c.is_some.ensures ∙ c.if-is_some.false)) k.1

pub use_room-requires : goal.use_room-requires
use_room-requires c = c.requires.next.long (none_is c.args.s.refusal (sym c.is_some.ensures ∙ c.if-is_some.false))

pub returns : goal.returns
returns c = λ number ls bytes low n.
    let z = none_is c.args.s.refusal (sym c.is_some.ensures ∙ c.if-is_some.false) in
    let f = none_is c.args.j.refusal (sym c.is_some-2.ensures ∙ c.if-is_some-2.false) in
    judge_more n _ z f refl refl (c.use_room.ensures bytes _ (n.judging.measured f))
