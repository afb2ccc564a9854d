-- `layout::count_rows` meets its contract. Assumes nothing.
use Rattle.std.proofs.Common.{rules, tests, arith, ◌≡◌, ◌*◌, ◌-◌, ◌/◌, eqb, get_or, length, subst, Some}
use mathlib.Core.Bool.{not}
use Rattle.std.proofs.lemmas.Iterator.{YieldsList-from_range}
use Rattle.std.proofs.lemmas.Iterator.Search.{position_from_yields_List}
use Rattle.language.specs.Layout.{Run}
use Rattle.layout.proofs.Walks.{run_found}
use Rattle.layout.proofs.count_rows.Goals as goal

pub unwrap-requires : goal.unwrap-requires
unwrap-requires c =
    let rows = c.args.rows.now in
    let e : c.position.result ≡ Some c.requires.0 = run_found c.requires.1 _ (position_from_yields_List
    (λ i. not (eqb (get_or rows (i * 4) 0) c.args.letter)) _ _ c.position.result c.position.ensures.ran
    (YieldsList-from_range c.args.r (length rows / 4) (length rows / 4 - c.args.r) (cc) (omega arith))
    (λ x b q k. search (rules, tests))) in
    rw e (search rules)

pub returns : goal.returns
returns c =
    let rows = c.args.rows.now in
    let e : c.position.result ≡ Some c.requires.0 = run_found c.requires.1 _ (position_from_yields_List
    (λ i. not (eqb (get_or rows (i * 4) 0) c.args.letter)) _ _ c.position.result c.position.ensures.ran
    (YieldsList-from_range c.args.r (length rows / 4) (length rows / 4 - c.args.r) (cc) (omega arith))
    (λ x b q k. search (rules, tests))) in
    let n : c.requires.0 ≡ c.unwrap.result = cc in
    subst (Run rows c.args.letter c.args.r) n c.requires.1
