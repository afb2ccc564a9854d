-- `writer::write_held` meets its contract. Assumes nothing.
use Rattle.std.proofs.Common.{◌≡◌, length, refl, sym, ◌∙◌, arith}
use Rattle.text.proofs.Formatting.{write_fits}
use Rattle.language.specs.Alphabet.{ours}
use Rattle.language.specs.Texts.{write_rows}
use Rattle.language.proofs.Filling.{filled_made, filled_done, replicate_long}
use Rattle.language.specs.Filling.{made_numbers}
use Rattle.writer.proofs.write_held.Goals as goal

pub shared_whole_as_front-copy_from_slice : goal.shared_whole_as_front-copy_from_slice
shared_whole_as_front-copy_from_slice g c =
    let rows = c.args.rows.now in
    let t = sym c.format_rows.ensures.0 ∙ c.in_ok-count.was in (
      omega (
        arith,
        (filled_made 1 (write_rows ours rows) _ c.args.text.now t).1,
        write_fits ours rows g.row.ROOM c.requires.enough,
      ),
      omega arith,
    )

pub returns : goal.returns
returns g c =
    let rows = c.args.rows.now in
    let text = c.args.text.now in
    let t = sym c.format_rows.ensures.0 ∙ c.in_ok-count.was in
    let made = (filled_made 1 (write_rows ours rows) _ text t).1 in
    let fits = write_fits ours rows g.row.ROOM c.requires.enough in
    let e : length (made_numbers (write_rows ours rows)) ≡ c.in_ok-count.count = omega (arith, made) in
    filled_done 1 (write_rows ours rows) _ text t (omega (arith, e)) c.format_rows.new.held _
    (omega (arith, fits, c.format_rows.auto.held, replicate_long g.row.ROOM))
    (λ m. (_, c.format_rows.auto.held, c.format_rows.ensures.1 m)) (rw (e, c.copy_from_slice.ensures.after) refl)
