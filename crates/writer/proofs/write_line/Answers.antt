-- `writer::write_line` meets its contract. Assumes nothing.
use Rattle.std.proofs.Common.{◌≡◌, ◌%◌, ℕ, ◌∙◌, arith}
use lib.ListN.{length-set}
use Rattle.text.proofs.Lines.{length_none, length_one, length_two, length_some, length_first}
use Rattle.text.proofs.Lines.{write_none, write_one, write_two}
use Rattle.language.proofs.Rows.{letter_ascii}
use Rattle.writer.proofs.write_line.Goals as goal
use Rattle.writer.proofs.write_line.Goals.{then-count-ge1, else-count-ge1, then-count-ge2, else-count-ge2}

pub bounds-text-at : goal.bounds-text-at
bounds-text-at c = omega (arith, length_some c.args.code c.args.a c.args.b c.requires.0)

pub write_number-end-requires : goal.write_number-end-requires
write_number-end-requires c = simp length-set
    (omega (arith, length_first c.args.code c.args.a c.args.b c.requires.0 (λ z. omega arith)))

pub write_number-end-requires-then-count-ge2 : goal.write_number-end-requires-then-count-ge2
write_number-end-requires-then-count-ge2 c = elim c.if-count-ge1.branch [
  | then-count-ge1 w ↦ omega (arith, length-set {A = ℕ}, length_two c.args.code c.args.a c.args.b (omega arith))
  | else-count-ge1 w ↦ omega arith
]

pub bounds-text-end : goal.bounds-text-end
bounds-text-end c =
    let code = c.args.code in
    let a = c.args.a in
    let b = c.args.b in
    elim c.if-count-ge2.branch [
      | then-count-ge2 v ↦ elim c.if-count-ge1.branch [
        | then-count-ge1 w ↦ omega (arith, length-set {A = ℕ}, length_two code a b (omega arith))
        | else-count-ge1 w ↦ omega arith
      ]
      | else-count-ge2 v ↦ elim c.if-count-ge1.branch [
        | then-count-ge1 w ↦ omega (arith, length-set {A = ℕ}, length_one code a b (omega arith))
        | else-count-ge1 w ↦ omega (arith, length-set {A = ℕ}, length_none code a b (omega arith))
      ]
    ]

pub overflow_add-result : goal.overflow_add-result
overflow_add-result c =
    let code = c.args.code in
    let a = c.args.a in
    let b = c.args.b in
    elim c.if-count-ge2.branch [
      | then-count-ge2 v ↦ elim c.if-count-ge1.branch [
        | then-count-ge1 w ↦ omega (arith, length-set {A = ℕ}, length_two code a b (omega arith))
        | else-count-ge1 w ↦ omega arith
      ]
      | else-count-ge2 v ↦ elim c.if-count-ge1.branch [
        | then-count-ge1 w ↦ omega (arith, length-set {A = ℕ}, length_one code a b (omega arith))
        | else-count-ge1 w ↦ omega (arith, length-set {A = ℕ}, length_none code a b (omega arith))
      ]
    ]

pub returns : goal.returns
returns c =
    let code = c.args.code in
    let a = c.args.a in
    let b = c.args.b in
    let text = c.args.text.now in
    let at = c.args.at in
    let low : code % 256 ≡ code = omega (arith, letter_ascii code c.requires.0) in
    elim c.if-count-ge2.branch [
      | then-count-ge2 v ↦ elim c.if-count-ge1.branch [
        | then-count-ge1 w ↦ (
          omega (arith, length_two code a b (omega arith)),
          rw (v.text-is, v.write_number-end-then-count-ge2.ensures.1, w.text-is, w.write_number-end.ensures.1, low)
              (write_two text at code a b c.if-count-ge1.end (w.end-is ∙ w.write_number-end.ensures.0)
              c.if-count-ge2.end (v.end-is ∙ v.write_number-end-then-count-ge2.ensures.0) (omega arith)),
        )
        | else-count-ge1 w ↦ absurd (omega arith)
      ]
      | else-count-ge2 v ↦ elim c.if-count-ge1.branch [
        | then-count-ge1 w ↦ (
          omega (arith, length_one code a b (omega arith)),
          rw (v.text-is, w.text-is, w.write_number-end.ensures.1, low)
              (write_one text at code a b c.if-count-ge2.end (v.end-is ∙ w.end-is ∙ w.write_number-end.ensures.0)
              (omega arith)),
        )
        | else-count-ge1 w ↦ (
          omega (arith, length_none code a b (omega arith)),
          rw (v.text-is, w.text-is, v.end-is ∙ w.end-is, low) (write_none text at code a b (omega arith)),
        )
      ]
    ]
