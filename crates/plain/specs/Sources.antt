-- What a clause says over the source that is translated: the rows and the three tables; and in a scope of it, whose plain
-- slots, number of variables and first free slot it has.
use Rattle.std.specs.Prelude.{ℕ, List}
use Rattle.emitters.specs.declared.slots.Scope.{Scope}
use Rattle.plain.specs.declared.node.Source.{Source}

abbrev pub over : {A : Type 1} → Source → (List ℕ → List ℕ → List ℕ → List ℕ → A) → A
over s F = F s.rows.now s.tables.now s.methods.now s.lookups.now

-- What has to be given at a row, to write from a place on.
abbrev pub given_in : {A : Type 1} → Source → Scope
    → (List ℕ → List ℕ → List ℕ → List ℕ → List ℕ → ℕ → ℕ → ℕ → ℕ → A) → ℕ → ℕ → A
given_in s c F at place = over s F c.slots.now at c.variables c.free place

-- What is left: the buffer before and after.
abbrev pub left_in : {A : Type 1} → Source → Scope
    → (List ℕ → List ℕ → List ℕ → List ℕ → List ℕ → List ℕ → List ℕ → ℕ → ℕ → ℕ → ℕ → A)
    → List ℕ → List ℕ → ℕ → ℕ → A
left_in s c F O O' at place = over s F c.slots.now O O' at c.variables c.free place
