-- `console::put_line` meets its contract. Assumes nothing.
use mathlib.Core.Path.{◌∙◌, ap}
use Prim.Native.Nat.{◌+◌, ℕ}
use lib.ListN.{length}
use lib.Seq.{sets}
use mathlib.Core.List.{List}
use Rattle.console.proofs.Showing.{line_told}
use Rattle.printing.specs.Told.{answer_text}
use Rattle.console.proofs.put_line.Goals as goal

pub returns : goal.returns
returns c = (let e = ap answer_text c.run_rows-answer.ensures.answer ∙ line_told c.args.rows.now in (
  c.put_answer.ensures.0 ∙ ap (λ (l : List ℕ). c.args.at + length l) e,
  c.put_answer.ensures.1,
  c.put_answer.ensures.2
      ∙ ap (λ (l : List ℕ). sets c.args.out.now c.args.at l) e,
))
