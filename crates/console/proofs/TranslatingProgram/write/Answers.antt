-- The translating program meets its contract. Assumes nothing.
use Rattle.std.proofs.Common.{refl}
use lib.ListN.{replicate}
use Rattle.std.proofs.lemmas.Result.{err_from_is_err_and}
use Rattle.console.proofs.Showing.{plain_made, plain_shown, plain_refused, text_shown}
use Rattle.console.proofs.TranslatingProgram.write.Goals as goal

pub returns-in_err-n : goal.returns-in_err-n
returns-in_err-n c =
    let p = err_from_is_err_and c.from_residual.result c.from_residual.ensures.1 in
    rw (p.1, p.2) (plain_refused c.args.rows.now (replicate 4000 0) c.translate_rows.result c.in_err-n.field-0.0
    refl c.translate_rows.ensures.0 c.in_err-n.was)

pub returns : goal.returns
returns c =
    let made = plain_made c.args.rows.now (replicate 4000 0) c.translate_rows.new.out c.translate_rows.result
    c.in_ok-n.n refl c.translate_rows.ensures.0 c.translate_rows.ensures.1 c.in_ok-n.was in
    plain_shown c.args.rows.now c.translate_rows.new.out c.in_ok-n.n made c.write_text.result c.write_text.new.text
    (text_shown _ c.args.out.now c.write_text.new.text c.write_text.result c.requires c.write_text.ensures.0
    c.write_text.ensures.1)
