-- What is in form within limits is in form within others: where these allow as many slots and as much nesting, or where they
-- allow as many as the node has rows, of which each slot and each level of nesting takes one.
use mathlib.Core.Path.{◌≡◌, subst}
use Prim.Native.Nat.{ℕ, suc, ◌+◌, ◌-◌, ◌≤◌, ◌<◌}
use mathlib.Core.Logic.{◌⊎◌, inl, inr, ⊎_elim}
use lib.ListN.{length}
use native.Mathlib.Omega.{arith}
use Rattle.language.specs.Limits.{Most}
use Rattle.language.specs.Tree.{Expr, literal, slot, is_null, get, cast, new, change, assign, set, call}
use Rattle.language.specs.Tree.{choose}
use Rattle.language.specs.Tree.{block, Exprs, nil, cons, size, sizes}
use Rattle.language.specs.WellFormed.{NodeInForm, NodesInForm, form_literal, form_slot, form_is_null}
use Rattle.language.specs.WellFormed.{form_get}
use Rattle.language.specs.WellFormed.{form_cast, form_new, form_change, form_assign, form_set, form_call}
use Rattle.language.specs.WellFormed.{form_choose, form_block, form_nil, form_cons, BodyInForm, form_body}

-- As many as another limit, or as many as a number of rows: the same of a part, and of a child, one level down.
part : {w a most : ℕ} (b : ℕ) → (most ≤ w) ⊎ (a ≤ w) → b ≤ a → (most ≤ w) ⊎ (b ≤ w)
part b h l = ⊎_elim inl (λ k. inr (omega arith)) h

child : {j d a : ℕ} (b : ℕ) → (suc j ≤ d) ⊎ (a ≤ d) → b < a → (j ≤ d - 1) ⊎ (b ≤ d - 1)
child b h l = ⊎_elim (λ k. inl (omega arith)) (λ k. inr (omega arith)) h

-- So one level at least is left.
deep : {j d a : ℕ} → (suc j ≤ d) ⊎ (a ≤ d) → 1 ≤ a → suc (d - 1) ≡ d
deep h l = ⊎_elim (λ k. omega arith) (λ k. omega arith) h

module _ (from to : Most) (names : from.name ≤ to.name) where
  -- A node one level down from where d are left.
  up : {d n : ℕ} {e : Expr} → suc (d - 1) ≡ d → NodeInForm to (suc (d - 1)) n e → NodeInForm to d n e
  up {n = n} {e = e} h f = subst (λ (k : ℕ). NodeInForm to k n e) h f

  named : {f : ℕ} → f ≤ from.name → f ≤ to.name
  named l = omega (arith, names)

  -- Slots and nesting that are enough for a node or a list of that many rows.
  abbrev Wide : ℕ → ℕ → Type 0
  Wide n rows = (from.slots ≤ to.slots) ⊎ (n + rows ≤ to.slots)

  abbrev Deep : ℕ → ℕ → ℕ → Type 0
  Deep j d rows = (j ≤ d) ⊎ (rows ≤ d)

  mutual
    unfolding size

    pub node_within : (e : Expr) (j d n : ℕ) → NodeInForm from j n e → Wide n (size e) → Deep j d (size e)
        → NodeInForm to d n e
    node_within (literal l) j d n form_literal u v = up (deep v (omega arith)) form_literal
    node_within (slot k) j d n (form_slot l) u v = up (deep v (omega arith)) (form_slot l)
    node_within (is_null e) j d n (form_is_null {d = i} h) u v = up (deep v (omega arith))
        (form_is_null (node_within e i (d - 1) n h (part _ u (omega arith)) (child _ v (omega arith))))
    node_within (get f e) j d n (form_get {d = i} l h) u v = up (deep v (omega arith))
        (form_get (named l) (node_within e i (d - 1) n h (part _ u (omega arith)) (child _ v (omega arith))))
    node_within (cast c e) j d n (form_cast {d = i} l h) u v = up (deep v (omega arith))
        (form_cast l (node_within e i (d - 1) n h (part _ u (omega arith)) (child _ v (omega arith))))
    node_within (new c) j d n (form_new l) u v = up (deep v (omega arith)) (form_new l)
    node_within (change k c) j d n (form_change l m) u v = up (deep v (omega arith)) (form_change l m)
    node_within (assign k e) j d n (form_assign {d = i} l h) u v = up (deep v (omega arith))
        (form_assign l (node_within e i (d - 1) n h (part _ u (omega arith)) (child _ v (omega arith))))
    node_within (set f e e') j d n (form_set {d = i} l h h') u v = up (deep v (omega arith))
        (form_set (named l) (node_within e i (d - 1) n h (part _ u (omega arith)) (child _ v (omega arith)))
        (node_within e' i (d - 1) n h' (part _ u (omega arith)) (child _ v (omega arith))))
    node_within (call m e es) j d n (form_call {d = i} l o h h') u v = up (deep v (omega arith))
        (form_call (named l) o
        (node_within e i (d - 1) n h (part _ u (omega arith)) (child _ v (omega arith)))
        (nodes_within es i (d - 1) n h' (part _ u (omega arith)) (child _ v (omega arith))))
    node_within (choose e x y) j d n (form_choose {d = i} h h' h'') u v = up (deep v (omega arith))
        (form_choose (node_within e i (d - 1) n h (part _ u (omega arith)) (child _ v (omega arith)))
        (node_within x i (d - 1) n h' (part _ u (omega arith)) (child _ v (omega arith)))
        (node_within y i (d - 1) n h'' (part _ u (omega arith)) (child _ v (omega arith))))
    node_within (block ts es) j d n (form_block {d = i} l o o' h h') u v = up (deep v (omega arith))
        (form_block (⊎_elim (λ k. omega (arith, l)) (λ k. omega arith) u) o o' h
        (nodes_within es i (d - 1) (n + length ts) h' (part _ u (omega arith)) (child _ v (omega arith))))

    nodes_within : (es : Exprs) (j d n : ℕ) → NodesInForm from j n es → Wide n (sizes es)
        → Deep j d (sizes es)
        → NodesInForm to d n es
    nodes_within nil j d n h u v = form_nil
    nodes_within (cons e es) j d n (form_cons h h') u v =
        form_cons (node_within e j d n h (part _ u (omega arith)) (part _ v (omega arith)))
        (nodes_within es j d n h' (part _ u (omega arith)) (part _ v (omega arith)))

  -- The same of a body, which is a block.
  pub body_within : (d n : ℕ) (e : Expr) → BodyInForm from n e → Wide n (size e)
      → Deep from.nesting d (size e)
      → NodeInForm to d n e
  body_within d n e (form_body h) u v = node_within _ from.nesting d n h u v
