-- Every body of a program that stands in rows is in form within a width and a depth that are as much as form allows, or as many
-- as there are rows: `this`, each parameter and each local has a row of its own, and each level of nesting has one.
-- Assumes nothing.
use mathlib.Core.Path.{◌≡◌}
use mathlib.Core.Logic.{◌⊎◌, inl, inr, ⊎_elim}
use mathlib.Core.Option.{some}
use mathlib.Core.List.{List}
use Prim.Native.Nat.{ℕ, ◌+◌, ◌≤◌}
use native.Mathlib.Omega.{arith}
use lib.ListN.{length}
use Rattle.language.specs.Limits.{of_check}
use Rattle.language.specs.Lists.{nth}
use Rattle.language.specs.Tree.{heading_lines, method_lines, Program, size}
use Rattle.language.specs.MethodTables.{PlacedMethod, placed_methods}
use Rattle.language.specs.WellFormed.{NodeInForm}
use Rattle.language.specs.Layout.{start_row, ProgramAt}
use Rattle.layout.specs.Found.{method_here}
use Rattle.layout.specs.NodeForms.{of_width, body_within}
use Rattle.bodies.specs.Whole.{Spacious, body_of}
use Rattle.bodies.proofs.Placed.{apart, apart_at}

module _ {R E S : List ℕ} {p : Program} {width depth : ℕ} (h : ProgramAt R E p) (s : Spacious R S width depth)
  where
    -- What takes at most as many rows as the program.
    wide-for : (n : ℕ) → n ≤ start_row p + 1 + size p.start → (of_check.slots ≤ width) ⊎ (n ≤ width)
    wide-for n l = ⊎_elim inl (λ k. inr (omega (arith, h.all))) s.wide

    deep-for : (n : ℕ) → n ≤ start_row p + 1 + size p.start → (of_check.nesting ≤ depth) ⊎ (n ≤ depth)
    deep-for n l = ⊎_elim inl (λ k. inr (omega (arith, h.all))) s.deep

    pub start_in_form : NodeInForm (of_width width) depth 1 p.start
    start_in_form = body_within width depth 1 p.start h.in_form.start
        (wide-for (1 + size p.start) (omega arith)) (deep-for (size p.start) (omega arith))

    module _ (i : ℕ) (m : PlacedMethod) (e : nth (placed_methods p.classes) i ≡ some m) where
      lines-few : method_lines m.declaration ≤ start_row p + 1 + size p.start
      lines-few = omega (
        arith,
        apart_at 0 (start_row p) (placed_methods p.classes) (apart p.classes) i m e,
      )

      abbrev scoped : ℕ
      scoped = 1 + length m.declaration.parameters

      pub method_scoped : scoped ≤ width
      unfolding method_lines heading_lines
      method_scoped = ⊎_elim (λ k. omega (arith, (method_here h i m e).in_form.few)) (λ k. k)
          (wide-for scoped (omega (arith, lines-few)))

      pub method_in_form : NodeInForm (of_width width) depth scoped (body_of m)
      unfolding method_lines heading_lines
      method_in_form = body_within width depth scoped (body_of m) (method_here h i m e).in_form.body
          (wide-for (scoped + size (body_of m)) (omega (arith, lines-few)))
          (deep-for (size (body_of m)) (omega (arith, lines-few)))
