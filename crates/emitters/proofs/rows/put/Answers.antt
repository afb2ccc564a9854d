use mathlib.Core.Path.{◌∙◌, sym}
use mathlib.Core.Logic.{inl}
use lib.ListN.{length}
use lib.Seq.{take_all}
use native.Mathlib.Omega.{arith}
use Rattle.emitters.proofs.Writing.{put_past, put_room}
use Rattle.emitters.proofs.rows.put.Goals as goal

pub returns-then-end-out : goal.returns-then-end-out
returns-then-end-out c =
    let numbers = c.as_flattened-numbers.result.now in
    let n = length numbers in
    let all = sym (take_all n numbers (omega arith)) in
    record {
      content = put_room c.args.out.now numbers _ c.args.place n _ (c.copy_from_slice.ensures.after ∙ all)
          (omega arith) (omega arith) (omega arith) (inl (omega arith))
          ∙ cc;
      ended = cc;
    }

pub returns-else-place-out : goal.returns-else-place-out
returns-else-place-out c =
    let numbers = c.as_flattened-numbers.result.now in
    record {
      content = let e = put_past c.args.out.now numbers c.args.place c.if-place-out.false in cc;
      ended = cc;
    }
