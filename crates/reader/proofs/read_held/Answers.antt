-- `reader::read_held` meets its contract. Assumes nothing.
use Rattle.std.proofs.Common.{◌≡◌, ◌*◌, length, refl, sym, ◌∙◌, arith}
use Rattle.text.proofs.Parsing.{read_whole, read_fits}
use Rattle.language.specs.Alphabet.{ours}
use Rattle.language.specs.Texts.{read_text}
use Rattle.language.proofs.Filling.{filled_made, filled_done, replicate_long}
use Rattle.language.specs.Filling.{made_numbers}
use Rattle.reader.proofs.read_held.Goals as goal

pub shared_whole_as_front-copy_from_slice : goal.shared_whole_as_front-copy_from_slice
shared_whole_as_front-copy_from_slice g c =
    let text = c.args.text.now in
    let t = sym c.parse_lines.ensures.0 ∙ c.in_ok-parsed.was in (
      omega (
        arith,
        (filled_made 4 (read_text ours text) _ c.args.rows.now t).1,
        read_whole ours 60000 1 text,
        read_fits ours text g.row.ROOM c.requires.enough,
      ),
      omega arith,
    )

pub returns : goal.returns
returns g c =
    let text = c.args.text.now in
    let rows = c.args.rows.now in
    let t = sym c.parse_lines.ensures.0 ∙ c.in_ok-parsed.was in
    let made = (filled_made 4 (read_text ours text) _ rows t).1 in
    let whole = read_whole ours 60000 1 text in
    let fits = read_fits ours text g.row.ROOM c.requires.enough in
    let e : length (made_numbers (read_text ours text)) ≡ c.in_ok-parsed.parsed * 4 = omega (arith, made, whole) in
    filled_done 4 (read_text ours text) _ rows t (omega (arith, e)) c.parse_lines.new.held _
    (omega (arith, fits, c.parse_lines.auto.held, replicate_long g.row.ROOM))
    (λ m. (_, c.parse_lines.auto.held, c.parse_lines.ensures.1 m)) (rw (e, c.copy_from_slice.ensures.after) refl)
