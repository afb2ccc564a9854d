-- `members::methods::may_override` meets its contract. Assumes nothing.
use Rattle.std.proofs.Common.{arith, ◌≡◌, ◌+◌, ◌*◌, true, get_or, sym, ◌∙◌}
use mathlib.Core.Bool.{Bool, false≢true}
use borrow.Author.Tests.{eqb-true, eqb-false}
use Rattle.language.specs.Headings.{same_types}
use Rattle.members.specs.Ready.{ParameterLines}
use Rattle.members.proofs.MethodLaws.{override_index, override_result, override_count}
use Rattle.members.proofs.MethodLaws.{own_types, over_types}
use Rattle.members.proofs.MethodLaws.{override_types, override_within}
use Rattle.members.proofs.methods.may_override.Goals as goal
use Rattle.members.proofs.methods.may_override.Goals.{then-first, else-first, then-from-heading, else-from-heading}

pub overflow_mul-n : goal.overflow_mul-n
overflow_mul-n c = let i = override_index c.requires in omega (arith, i.0)

pub offset_bounds-methods-n : goal.offset_bounds-methods-n
offset_bounds-methods-n c = let i = override_index c.requires in omega (arith, i.0)

pub bounds-methods-n : goal.bounds-methods-n
bounds-methods-n c = let i = override_index c.requires in omega (arith, i.0)

pub first-requires-2 : goal.first-requires-2
first-requires-2 c = let i = override_index c.requires in omega (arith, i.2)

pub overflow_mul-n-then-first : goal.overflow_mul-n-then-first
overflow_mul-n-then-first c = let i = override_index c.requires in omega (arith, i.0)

pub overflow_add-n : goal.overflow_add-n
overflow_add-n c = let i = override_index c.requires in omega (arith, i.0)

pub offset_bounds-methods-n-then-first : goal.offset_bounds-methods-n-then-first
offset_bounds-methods-n-then-first c = let i = override_index c.requires in omega (arith, i.0)

pub bounds-methods-n-then-first : goal.bounds-methods-n-then-first
bounds-methods-n-then-first c = let i = override_index c.requires in omega (arith, i.0)

pub same_types-requires : goal.same_types-requires
same_types-requires c =
    let second : c.first-2.result ≡ get_or c.args.rows.now (get_or c.args.methods.now (c.args.n * 4) 0 * 4 + 1) 0 =
    rw c.from-over.ensures at c.first-2.ensures in
    let same : (c.first.result ≡ c.first-2.result) × (get_or c.args.methods.now (c.args.n * 4 + 2) 0 ≡ c.args.heading.parameters) =
    elim c.if-first.branch [
      | then-first a ↦ (a.if-first.true, sym a.from.ensures ∙ eqb-true _ _ (sym a.value-is ∙ c.if-from-heading.true))
      | else-first a ↦ absurd (a.if-first.false (eqb-true _ _ (sym a.value-is ∙ c.if-from-heading.true)))
    ] in
    rw c.from-over.ensures (
      own_types c.requires _ _ c.first.ensures second same.0 same.1,
      over_types c.requires _ _ c.first.ensures second same.0 same.1,
    )

pub offset_bounds-effects-n : goal.offset_bounds-effects-n
offset_bounds-effects-n c = let i = override_index c.requires in omega (arith, i.1)

pub bounds-effects-n : goal.bounds-effects-n
bounds-effects-n c = let i = override_index c.requires in omega (arith, i.1)

pub returns-then-same_types : goal.returns-then-same_types
returns-then-same_types c = λ w.
    let second : c.first-2.result ≡ get_or c.args.rows.now (get_or c.args.methods.now (c.args.n * 4) 0 * 4 + 1) 0 =
    rw c.from-over.ensures at c.first-2.ensures in
    let tested : (c.if-first.value ≡ true) × (b : Bool) × (b ≡ true)
    × ((v : ParameterLines c.args.rows.now (c.args.heading.row + 1) c.args.heading.parameters)
    → (u : ParameterLines c.args.rows.now (get_or c.args.methods.now (c.args.n * 4) 0 + 1) c.args.heading.parameters)
    → b ≡ same_types v.types u.types) =
    elim c.if-from-heading.branch [
      | then-from-heading b ↦ (
        b.if-from-heading.true,
        b.same_types.result,
        sym b.value-is ∙ c.if-same_types.true,
        rw c.from-over.ensures at b.same_types.ensures,
      )
      | else-from-heading b ↦ absurd (false≢true (sym b.if-from-heading.false ∙ (sym b.value-is ∙ c.if-same_types.true)))
    ] in
    let same : (c.first.result ≡ c.first-2.result) × (get_or c.args.methods.now (c.args.n * 4 + 2) 0 ≡ c.args.heading.parameters) =
    elim c.if-first.branch [
      | then-first a ↦ (a.if-first.true, sym a.from.ensures ∙ eqb-true _ _ (sym a.value-is ∙ tested.0))
      | else-first a ↦ absurd (a.if-first.false (eqb-true _ _ (sym a.value-is ∙ tested.0)))
    ] in
    override_within w _ _ c.first.ensures second same.0 same.1 tested.1 tested.3 tested.2 _ c.lines_within.ensures

pub returns-else-same_types : goal.returns-else-same_types
returns-else-same_types c = λ w.
    let second : c.first-2.result ≡ get_or c.args.rows.now (get_or c.args.methods.now (c.args.n * 4) 0 * 4 + 1) 0 =
    rw c.from-over.ensures at c.first-2.ensures in
    c.if-same_types.false ∙ elim c.if-first.branch [
      | then-first a ↦ elim c.if-from-heading.branch [
        | then-from-heading b ↦
            override_types w _ _ c.first.ensures second a.if-first.true
            (sym a.from.ensures ∙ eqb-true _ _ (sym a.value-is ∙ b.if-from-heading.true)) b.same_types.result
            (rw c.from-over.ensures at b.same_types.ensures) (sym b.value-is ∙ c.if-same_types.false)
        | else-from-heading b ↦
            override_count w _ _ c.first.ensures second a.if-first.true
            (λ q. eqb-false _ _ (sym a.value-is ∙ b.if-from-heading.false) (a.from.ensures ∙ q))
      ]
      | else-first a ↦ override_result w _ _ c.first.ensures second a.if-first.false
    ]
