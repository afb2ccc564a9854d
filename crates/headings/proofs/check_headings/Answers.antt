-- `headings::check_headings` meets its contract. Assumes nothing.
use mathlib.Core.Path.{◌≡◌, sym, ap, ◌∙◌}
use Rattle.std.proofs.Common.{ℕ, replicate}
use Rattle.std.proofs.lemmas.List.{length-take-le}
use Rattle.headings.proofs.Copying.{cleared}
use Rattle.headings.proofs.Whole.{pass_long, read_ready, classes_ready}
use Rattle.headings.proofs.check_headings.Goals as goal

pub slice_bounds-fill-end-2 : goal.slice_bounds-fill-end-2
slice_bounds-fill-end-2 c = sym (length-take-le 576 c.args.tables.now (pass_long c.requires).0)

pub read_classes-count-requires : goal.read_classes-count-requires
read_classes-count-requires c =
    let l = (pass_long c.requires).0 in
    let s : c.fill.new.self ≡ replicate 576 0 =
    c.fill.ensures.after (λ y e. e) ∙ ap (λ (n : ℕ). replicate n 0) (length-take-le 576 c.args.tables.now l) in
    read_ready c.requires (cleared c.args.tables.now _ 576 l s)

pub check_classes-requires : goal.check_classes-requires
check_classes-requires c =
    let l = (pass_long c.requires).0 in
    let s : c.fill.new.self ≡ replicate 576 0 =
    c.fill.ensures.after (λ y e. e) ∙ ap (λ (n : ℕ). replicate n 0) (length-take-le 576 c.args.tables.now l) in
    classes_ready c.requires (cleared c.args.tables.now _ 576 l s) _ _ c.read_classes-count.ensures

pub returns : goal.returns
returns c = λ w.
    let l = (pass_long w).0 in
    let s : c.fill.new.self ≡ replicate 576 0 =
    c.fill.ensures.after (λ y e. e) ∙ ap (λ (n : ℕ). replicate n 0) (length-take-le 576 c.args.tables.now l) in
    c.check_classes.ensures (classes_ready w (cleared c.args.tables.now _ 576 l s) _ _ c.read_classes-count.ensures)
