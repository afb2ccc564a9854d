-- Nodes in form (`NodeInForm` of WellFormed), one level at a time, and under other limits.
--   form_parts, forms_parts   what form tells of a node and of a list: the nesting that it uses, its name, its children
--   body_within               a body in form is in form under any width and nesting that allow as much, or that are as many as
--                             its rows
use Rattle.std.specs.Prelude.{◌≡◌, ℕ, suc, ◌+◌, ◌-◌, ◌≤◌, ◌<◌, ◌⊎◌, length}
use Rattle.std.proofs.Common.{arith}
use Rattle.language.specs.Limits.{Most, of_check}
use Rattle.language.specs.Tree.{Expr, literal, slot, is_null, get, cast, new, change, assign, set}
use Rattle.language.specs.Tree.{call, choose, block, Exprs, nil, cons, size}
use Rattle.language.specs.WellFormed.{TypeInForm, Each, NodeInForm, NodesInForm}
use Rattle.language.specs.WellFormed.{form_is_null, form_get, form_cast, form_assign}
use Rattle.language.specs.WellFormed.{form_set, form_call, form_choose, form_block, form_cons}
use Rattle.language.specs.WellFormed.{BodyInForm}
use Rattle.theory.proofs.reading.FormLimits.{body_within as within}

-- The limits of the check with another width: how many slots may be in scope.
abbrev pub of_width : ℕ → Most
of_width width = record {
  rows = of_check.rows;
  classes = of_check.classes;
  fields = of_check.fields;
  parameters = of_check.parameters;
  slots = width;
  nesting = of_check.nesting;
  name = of_check.name;
}

module _ (most : Most) where
  -- What form tells of a node that may nest d deep with n slots in scope.
  abbrev pub FormParts : ℕ → ℕ → Expr → Type 0
  FormParts d n (literal l) = Unit {0}
  FormParts d n (slot k) = Unit {0}
  FormParts d n (is_null e) = (1 ≤ d) × NodeInForm most (d - 1) n e
  FormParts d n (get f e) = (1 ≤ d) × (f < suc most.name) × NodeInForm most (d - 1) n e
  FormParts d n (cast c e) = (1 ≤ d) × NodeInForm most (d - 1) n e
  FormParts d n (new c) = Unit {0}
  FormParts d n (change k c) = Unit {0}
  FormParts d n (assign k e) = (1 ≤ d) × NodeInForm most (d - 1) n e
  FormParts d n (set f e e') =
      (1 ≤ d) × (f < suc most.name) × NodeInForm most (d - 1) n e × NodeInForm most (d - 1) n e'
  FormParts d n (call m e es) =
      (1 ≤ d) × (m < suc most.name) × NodeInForm most (d - 1) n e × NodesInForm most (d - 1) n es
  FormParts d n (choose a b c) =
      (1 ≤ d) × NodeInForm most (d - 1) n a × NodeInForm most (d - 1) n b × NodeInForm most (d - 1) n c
  FormParts d n (block ts es) =
      (1 ≤ d) × (n + length ts ≤ most.slots) × Each TypeInForm ts
      × NodesInForm most (d - 1) (n + length ts) es

  less : (d : ℕ) → suc d - 1 ≡ d
  less d = omega arith

  pub form_parts : {d n : ℕ} (e : Expr) → NodeInForm most d n e → FormParts d n e
  form_parts (literal l) f = tt
  form_parts (slot k) f = tt
  form_parts (is_null e) (form_is_null {d} f) = (omega arith, rw (less d) f)
  form_parts (get m e) (form_get {d} l f) = (omega arith, omega (arith, l), rw (less d) f)
  form_parts (cast c e) (form_cast {d} l f) = (omega arith, rw (less d) f)
  form_parts (new c) f = tt
  form_parts (change k c) f = tt
  form_parts (assign k e) (form_assign {d} l f) = (omega arith, rw (less d) f)
  form_parts (set m e e') (form_set {d} l f g) =
      (omega arith, omega (arith, l), rw (less d) f, rw (less d) g)
  form_parts (call m e es) (form_call {d} l c f fs) =
      (omega arith, omega (arith, l), rw (less d) f, rw (less d) fs)
  form_parts (choose a b c) (form_choose {d} f g h) =
      (omega arith, rw (less d) f, rw (less d) g, rw (less d) h)
  form_parts (block ts es) (form_block {d} l x y z fs) = (omega arith, l, z, rw (less d) fs)

  abbrev pub FormsParts : ℕ → ℕ → Exprs → Type 0
  FormsParts d n nil = Unit {0}
  FormsParts d n (cons e es) = NodeInForm most d n e × NodesInForm most d n es

  pub forms_parts : {d n : ℕ} (es : Exprs) → NodesInForm most d n es → FormsParts d n es
  forms_parts nil f = tt
  forms_parts (cons e es) (form_cons f fs) = (f, fs)

-- ---- other limits

module _ (w : ℕ) where
  -- A body in form is in form under any width and nesting that allow as much, or that are as many as its rows.
  pub body_within : (d n : ℕ) (e : Expr) → BodyInForm of_check n e → (of_check.slots ≤ w) ⊎ (n + size e ≤ w)
      → (of_check.nesting ≤ d) ⊎ (size e ≤ d) → NodeInForm (of_width w) d n e
  body_within d n e h u v = within of_check (of_width w) (omega arith) d n e h u v
