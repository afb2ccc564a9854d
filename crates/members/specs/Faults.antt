-- The checks of one line each, as numbers: 0 where there is no fault, else the refusal's number.
use Rattle.std.specs.Prelude.{ℕ, zero, suc, ◌+◌, ◌&&◌, cond, List, length, ltb}
use Rattle.language.specs.Limits.{of_check}
use Rattle.language.specs.Results.{Pass, refuse, bind_checked}
use Rattle.language.specs.Tree.{Field, Declaration, Class}
use Rattle.language.specs.World.{place, is_declared, is_declared_type}
use Rattle.language.specs.Program.{declared, kind_at, is_root_class, is_state_type, world}
use Rattle.language.specs.Headings.{may_extend, is_some, may_override, check_parameters, check_effects}

-- What a line's fault leaves of a check.
abbrev pub faulty : ℕ → ℕ → Pass → Pass
faulty zero at rest = rest
faulty (suc n) at rest = refuse (suc n) at

module _ (P : List Class) where
  -- Of an F line, after the fields before it.
  unfoldable pub fault_of_field : List Field → Field → ℕ
  fault_of_field before f =
      cond (ltb (length before) of_check.fields)
      (cond (is_declared_type (world P) f.type)
      (cond (is_some (place f.name before)) 4 (cond (is_state_type P f.type) 5 0))
      4)
      2

  -- Of an M line, after the methods of its class before it.
  unfoldable pub fault_of_method : ℕ → List Declaration → Declaration → ℕ
  fault_of_method super before m =
      cond (is_declared_type (world P) m.result)
      (cond (is_some (declared before m.name)) 4
      (cond (may_override m ((world P).method super m.name)) 0 6))
      4

  -- Of an X line after one that names `last`.
  unfoldable pub fault_of_effect : ℕ → ℕ → ℕ
  fault_of_effect last c = cond (is_declared (world P) c) (cond (is_root_class P c && ltb last c) 0 5) 4

  -- Of a C line.
  unfoldable pub fault_of_class : ℕ → Class → ℕ
  fault_of_class k c = cond (ltb c.super k) (cond (may_extend c.kind (kind_at P c.super)) 0 5) 4

  -- A method's heading, without what follows it.
  unfoldable pub check_heading : ℕ → List Declaration → ℕ → Declaration → Pass
  check_heading super before at m = faulty (fault_of_method super before m) at
      (bind_checked (check_parameters of_check P (at + 1) m.parameters) λ _.
      check_effects of_check P 0 (at + 1 + length m.parameters) m.effects)
