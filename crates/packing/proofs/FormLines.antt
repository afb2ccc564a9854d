-- The pass over form reads line by line, and no line after the first that is one too many: it refuses on no line after
-- line 60,001 of a checked program.
use mathlib.Core.Path.{◌≡◌, refl, sym, ap}
use Prim.Native.Nat.{ℕ, zero, suc, ◌+◌, ◌≤◌}
use mathlib.Core.Bool.{Bool, true, false, not, cond}
use mathlib.Core.Option.{none, some}
use mathlib.Core.List.{List, [], ◌∷◌}
use lib.ListN.{length}
use lib.Dec.{eqb, leb, ltb}
use borrow.Author.Tests.{leb-true}
use native.Mathlib.Omega.{arith}
use Rattle.language.specs.Limits.{Most, limit_refusal, place_refusal}
use Rattle.language.specs.Lists.{given}
use Rattle.language.specs.Results.{Checked, accept, refuse, require, accept≢refuse}
use Rattle.language.specs.Rows.{Letter, C_class, F_field, M_method, P_parameter, X_effect, S_start, B_block}
use Rattle.language.specs.Rows.{V_local, T_true, L_false, N_null, I_slot, Z_is_null, G_get, K_cast, W_new}
use Rattle.language.specs.Rows.{R_change, A_assign, U_set, Q_call, J_choose, Record, is_node, name_of}
use Rattle.language.specs.Rows.{same_letter, Row, record_of}
use Rattle.language.specs.Tree.{DeclaredType, type_of_number, Expr, literal, literal_true, literal_false}
use Rattle.language.specs.Tree.{literal_null}
use Rattle.language.specs.Tree.{slot, is_null, get, cast, new, change, assign, set, call, choose, block, nil}
use Rattle.language.specs.Tree.{cons, size, sizes, heading_lines, method_lines, methods_lines, class_lines}
use Rattle.language.specs.Tree.{classes_lines, Program}
use Rattle.language.specs.Form.{Read, read, several, if_letter, record_on, next, maybe, locals, node_of, node}
use Rattle.language.specs.Form.{body, class_of, fields, parameters, effects, method, methods, classes, at_end}
use Rattle.language.specs.Form.{form}
use Rattle.promises.proofs.answers.Refusals.{Among, Any, Gives, gives, refuses, gives_bind, gives_after}
use Rattle.promises.proofs.answers.Refusals.{gives_need}
use Rattle.promises.proofs.answers.Refusals.{gives_require}

module _ (most : Most) where
  -- A refusal on a line that may be read: one of those allowed, or the first after them.
  abbrev Early : ℕ → ℕ → Type 0
  Early number line = line ≤ 1 + most.rows

  abbrev EarlyGives : {A : Type 0} → (A → Type 0) → Checked A → Type 0
  EarlyGives Q r = Gives Early Q r

  early : {number at : ℕ} → at ≤ 1 + most.rows → Among Early number at
  early h = record { is = h }

  -- What was read of some lines, after which the next may be read.
  record Fits {A : Type 0} (lines : A → ℕ) (at : ℕ) (x : Read A) : Type 0 where
    pub next_line : at + lines x.tree ≤ 1 + most.rows

  reads : {A : Type 0} {lines : A → ℕ} {at : ℕ} (a : A) (rs : List Row) → at + lines a ≤ 1 + most.rows
      → EarlyGives (Fits lines at) (accept (read a rs))
  reads a rs h = gives (record { next_line = h })

  stops : {A : Type 0} {Q : A → Type 0} (number at : ℕ) → at + 1 ≤ 1 + most.rows
      → EarlyGives Q (refuse number at)
  stops number at h = let low : at ≤ 1 + most.rows = omega (arith, h) in refuses low

  -- A record on a line that is allowed.
  record Allowed (at : ℕ) (x : Record) : Type 0 where
    pub low : at ≤ most.rows

  record_early : (at : ℕ) (r : Row) → at ≤ 1 + most.rows → EarlyGives (Allowed at) (record_on most at r)
  unfolding record_on require
  record_early at r h = gives_need (record_of r) (early h) λ x. go x (leb at most.rows) refl
    where
      go : (x : Record) (b : Bool) → leb at most.rows ≡ b
          → EarlyGives (Allowed at) (require b limit_refusal at λ _.
          require (leb (name_of x.letter x.first x.second) most.name) limit_refusal at λ _.
          accept x)
      go x true e = gives_require (leb (name_of x.letter x.first x.second) most.name) (early h)
          λ _. gives (record { low = leb-true at most.rows e })
      go x false e = refuses h

  next_early : {B : Type 0} {Q : B → Type 0} (at : ℕ) (rs : List Row) {k : Record → List Row → Checked B}
      → at ≤ 1 + most.rows
      → ((x : Record) (rest : List Row) → at ≤ most.rows → EarlyGives Q (k x rest))
      → EarlyGives Q (next most at rs k)
  unfolding next
  next_early at [] h g = refuses h
  next_early at (r ∷ rs) h g = gives_bind (record_early at r h) λ x w. g x rs w.low

  -- What is read of a record of a letter, if one stands here.
  maybe_early : {B : Type 0} {Q : B → Type 0} (l : Letter) (at : ℕ) (r : Row) {c : Checked B}
      {k : Record → Checked B} → at ≤ 1 + most.rows → EarlyGives Q c
      → ((x : Record) → at ≤ most.rows → EarlyGives Q (k x))
      → EarlyGives Q (given (maybe most l at r) c k)
  unfolding if_letter
  maybe_early {Q} l at r {c} {k} h g f = go (record_on most at r) (record_early at r h)
    where
      here : (x : Record) → at ≤ most.rows → (b : Bool)
          → EarlyGives Q (given (cond b (some x) none) c k)
      here x w true = f x w
      here x w false = g

      go : (o : Checked Record) → EarlyGives (Allowed at) o → EarlyGives Q (given (if_letter l o) c k)
      go (accept x) (gives w) = here x w.low (same_letter l x.letter)
      go (refuse number line) w = g

  -- V lines: as many as were asked for.
  record Locals (v at : ℕ) (x : Read (List DeclaredType)) : Type 0 where
    pub all : length x.tree ≡ v
    pub next_line : at + v ≤ 1 + most.rows

  locals_early : (v n at : ℕ) (rs : List Row) → at ≤ 1 + most.rows
      → EarlyGives (Locals v at) (locals most v n at rs)
  unfolding locals
  locals_early zero n at rs h = gives (record { all = refl; next_line = omega (arith, h) })
  locals_early (suc v) n at rs h = next_early at rs h λ x rest w.
      gives_require (same_letter V_local x.letter) (early h) λ _.
      gives_require (ltb n most.slots) (early h) λ _.
      gives_after (locals_early v (suc n) (at + 1) rest (omega (arith, w))) λ ts rest₂ q.
      gives (record { all = ap suc q.all; next_line = omega (arith, q.next_line) })

  -- A reader of nodes.
  abbrev Reads : (ℕ → List Row → Checked (Read Expr)) → Type 0
  Reads nd = (at : ℕ) (rs : List Row) → at ≤ 1 + most.rows → EarlyGives (Fits size at) (nd at rs)

  several_early : (nd : ℕ → List Row → Checked (Read Expr)) → Reads nd → (k at : ℕ) (rs : List Row)
      → at ≤ 1 + most.rows → EarlyGives (Fits sizes at) (several nd k at rs)
  unfolding several size
  several_early nd g zero at rs h = reads nil rs (omega (arith, h))
  several_early nd g (suc k) at rs h = gives_after (g at rs h) λ e rest q.
      gives_after (several_early nd g k (at + size e) rest q.next_line) λ es rest₂ p.
      reads (cons e es) rest₂ (omega (arith, p.next_line))

  -- A node of a letter on a line that is allowed, its children read by `nd`.
  node_of_early : (nd : ℕ → ℕ → List Row → Checked (Read Expr)) → ((n : ℕ) → Reads (λ at rs. nd n at rs))
      → (l : Letter) (a b n at : ℕ) (rs : List Row) → at + 1 ≤ 1 + most.rows
      → EarlyGives (Fits size at) (node_of most nd l a b n at rs)
  unfolding node_of size
  node_of_early nd g C_class a b n at rs h = stops place_refusal at h
  node_of_early nd g F_field a b n at rs h = stops place_refusal at h
  node_of_early nd g M_method a b n at rs h = stops place_refusal at h
  node_of_early nd g P_parameter a b n at rs h = stops place_refusal at h
  node_of_early nd g X_effect a b n at rs h = stops place_refusal at h
  node_of_early nd g S_start a b n at rs h = stops place_refusal at h
  node_of_early nd g V_local a b n at rs h = stops place_refusal at h
  node_of_early nd g T_true a b n at rs h = reads (literal literal_true) rs h
  node_of_early nd g L_false a b n at rs h = reads (literal literal_false) rs h
  node_of_early nd g N_null a b n at rs h = reads (literal literal_null) rs h
  node_of_early nd g I_slot a b n at rs h = reads (slot a) rs h
  node_of_early nd g W_new a b n at rs h = reads (new a) rs h
  node_of_early nd g R_change a b n at rs h = reads (change a b) rs h
  node_of_early nd g Z_is_null a b n at rs h = gives_after (g n (at + 1) rs h) λ e rest q.
      reads (is_null e) rest (omega (arith, q.next_line))
  node_of_early nd g G_get a b n at rs h = gives_after (g n (at + 1) rs h) λ e rest q.
      reads (get a e) rest (omega (arith, q.next_line))
  node_of_early nd g K_cast a b n at rs h = gives_after (g n (at + 1) rs h) λ e rest q.
      reads (cast a e) rest (omega (arith, q.next_line))
  node_of_early nd g A_assign a b n at rs h = gives_after (g n (at + 1) rs h) λ e rest q.
      reads (assign a e) rest (omega (arith, q.next_line))
  node_of_early nd g U_set a b n at rs h = gives_after (g n (at + 1) rs h) λ e rest q.
      gives_after (g n (at + 1 + size e) rest q.next_line) λ e' rest₂ p.
      reads (set a e e') rest₂ (omega (arith, p.next_line))
  node_of_early nd g Q_call a b n at rs h = gives_after (g n (at + 1) rs h) λ e rest q.
      gives_after (several_early (λ at rs. nd n at rs) (g n) b (at + 1 + size e) rest q.next_line)
      λ es rest₂ p.
      reads (call a e es) rest₂ (omega (arith, p.next_line))
  node_of_early nd g J_choose a b n at rs h = gives_after (g n (at + 1) rs h) λ e rest q.
      gives_after (g n (at + 1 + size e) rest q.next_line) λ x rest₂ p.
      gives_after (g n (at + 1 + size e + size x) rest₂ p.next_line) λ y rest₃ o.
      reads (choose e x y) rest₃ (omega (arith, o.next_line))
  node_of_early nd g B_block v k n at rs h =
      gives_require (not (eqb k 0)) (early (omega (arith, h))) λ _.
      gives_after (locals_early v n (at + 1) rs h) λ ts rest q.
      gives_after (several_early (λ at rs. nd (n + v) at rs) (g (n + v)) k (at + 1 + v) rest q.next_line)
      λ es rest₂ p.
      reads (block ts es) rest₂ (omega (arith, p.next_line, q.all))

  node_early : (d n : ℕ) → Reads (λ at rs. node most d n at rs)
  unfolding node
  node_early zero n at rs h = next_early at rs h λ x rest w.
      gives_require (not (is_node x.letter)) (early h) λ _. refuses h
  node_early (suc d) n at rs h = next_early at rs h λ x rest w.
      node_of_early (λ n at rs. node most d n at rs) (node_early d)
      x.letter x.first x.second n at rest (omega (arith, w))

  body_early : (n : ℕ) → Reads (λ at rs. body most n at rs)
  unfolding body
  body_early n at rs h = next_early at rs h λ x rest w.
      gives_require (same_letter B_block x.letter) (early h) λ _. node_early most.nesting n at rs h

  -- F and X lines, which are read as long as they come: one line and the rest.
  line_early : {A : Type 0} (of : Record → A) (l : Letter) (at : ℕ) (r : Row) (rs : List Row)
      (x : Read (List A)) → at ≤ 1 + most.rows
      → (at ≤ most.rows → at + 1 + length x.tree ≤ 1 + most.rows)
      → let y = given (maybe most l at r) (read [] (r ∷ rs)) (λ z. read (of z ∷ x.tree) x.rest) in
      at + length y.tree ≤ 1 + most.rows
  unfolding if_letter
  line_early of l at r rs x h q = go (record_on most at r) (record_early at r h)
    where
      here : (z : Record) → at ≤ most.rows → (b : Bool)
          → let y = given (cond b (some z) none) (read [] (r ∷ rs)) (λ z. read (of z ∷ x.tree) x.rest) in
          at + length y.tree ≤ 1 + most.rows
      here z w true = omega (arith, q w)
      here z w false = omega (arith, h)

      go : (o : Checked Record) → EarlyGives (Allowed at) o
          → let y = given (if_letter l o) (read [] (r ∷ rs)) (λ z. read (of z ∷ x.tree) x.rest) in
          at + length y.tree ≤ 1 + most.rows
      go (accept z) (gives w) = here z w.low (same_letter l z.letter)
      go (refuse number line) w = omega (arith, h)

  fields_early : (at : ℕ) (rs : List Row) → at ≤ 1 + most.rows
      → at + length (fields most at rs).tree ≤ 1 + most.rows
  unfolding fields
  fields_early at [] h = omega (arith, h)
  fields_early at (r ∷ rs) h =
      line_early (λ x. record { type = type_of_number x.first; name = x.second }) F_field at r rs
      (fields most (at + 1) rs) h λ w. fields_early (at + 1) rs (omega (arith, w))

  effects_early : (at : ℕ) (rs : List Row) → at ≤ 1 + most.rows
      → at + length (effects most at rs).tree ≤ 1 + most.rows
  unfolding effects
  effects_early at [] h = omega (arith, h)
  effects_early at (r ∷ rs) h = line_early (λ x. x.first) X_effect at r rs
      (effects most (at + 1) rs) h λ w. effects_early (at + 1) rs (omega (arith, w))

  parameters_early : (n at : ℕ) (rs : List Row) → at ≤ 1 + most.rows
      → EarlyGives (Fits length at) (parameters most n at rs)
  unfolding parameters
  parameters_early n at [] h = reads [] [] (omega (arith, h))
  parameters_early n at (r ∷ rs) h =
      maybe_early P_parameter at r h (reads [] (r ∷ rs) (omega (arith, h))) λ x w.
      gives_require (ltb n most.parameters) (early h) λ _.
      gives_after (parameters_early (suc n) (at + 1) rs (omega (arith, w))) λ ts rest q.
      reads (type_of_number x.first ∷ ts) rest (omega (arith, q.next_line))

  method_early : (at : ℕ) (m : Record) (rs : List Row) → at + 1 ≤ 1 + most.rows
      → EarlyGives (Fits method_lines at) (method most at m rs)
  unfolding method method_lines heading_lines
  method_early at m rs h =
      gives_after (parameters_early 0 (at + 1) rs h) λ ts rest q.
      let xs = effects most (at + 1 + length ts) rest in
      gives_after (body_early (1 + length ts) (at + 1 + length ts + length xs.tree) xs.rest
      (effects_early (at + 1 + length ts) rest q.next_line)) λ e rest₂ o.
      reads (record {
        result = type_of_number m.first;
        name = m.second;
        parameters = ts;
        effects = xs.tree;
        body = e;
      }) rest₂ (omega (arith, o.next_line))

  methods_early : (k at : ℕ) (rs : List Row) → at ≤ 1 + most.rows
      → EarlyGives (Fits methods_lines at) (methods most k at rs)
  unfolding methods methods_lines
  methods_early zero at rs h = reads [] rs (omega (arith, h))
  methods_early (suc k) at [] h = reads [] [] (omega (arith, h))
  methods_early (suc k) at (r ∷ rs) h =
      maybe_early M_method at r h (reads [] (r ∷ rs) (omega (arith, h))) λ x w.
      gives_after (method_early at x rs (omega (arith, w))) λ m rest q.
      gives_after (methods_early k (at + method_lines m) rest q.next_line) λ ms rest₂ p.
      reads (m ∷ ms) rest₂ (omega (arith, p.next_line))

  classes_early : (k n at : ℕ) (rs : List Row) → at ≤ 1 + most.rows
      → EarlyGives (Fits classes_lines at) (classes most k n at rs)
  unfolding classes classes_lines class_lines
  classes_early zero n at rs h = reads [] rs (omega (arith, h))
  classes_early (suc k) n at [] h = reads [] [] (omega (arith, h))
  classes_early (suc k) n at (r ∷ rs) h =
      maybe_early C_class at r h (reads [] (r ∷ rs) (omega (arith, h))) λ x w.
      gives_require (ltb n most.classes) (early h) λ _.
      let fs = fields most (at + 1) rs in
      gives_after (methods_early (length rs) (at + 1 + length fs.tree) fs.rest
      (fields_early (at + 1) rs (omega (arith, w)))) λ ms rest q.
      let c = class_of x fs.tree ms in
      gives_after (classes_early k (suc n) (at + class_lines c) rest (omega (arith, q.next_line)))
      λ cs rest₂ o. reads (c ∷ cs) rest₂ (omega (arith, o.next_line))

  at_end_early : (at : ℕ) (rs : List Row) (p : Program) → at ≤ 1 + most.rows
      → EarlyGives Any (at_end most at rs p)
  unfolding at_end
  at_end_early at [] p h = gives tt
  at_end_early at (r ∷ rs) p h = next_early at (r ∷ rs) h λ x rest w. refuses h

  form_gives : (rs : List Row) → EarlyGives Any (form most rs)
  unfolding form
  form_gives rs =
      gives_after (classes_early (length rs) 0 1 rs (omega arith)) λ cs rest q.
      let at = 1 + classes_lines cs in
      next_early at rest q.next_line λ x rest₂ w.
      gives_require (same_letter S_start x.letter) (early q.next_line) λ _.
      gives_after (body_early 1 (at + 1) rest₂ (omega (arith, w))) λ b rest₃ o.
      at_end_early (at + 1 + size b) rest₃ (record { classes = cs; start = b }) o.next_line

  -- The pass over form refuses on one of the lines that are allowed, or on the first after them.
  pub form_early : (rs : List Row) (number line : ℕ) → form most rs ≡ refuse number line
      → line ≤ 1 + most.rows
  form_early rs number line e = go (form most rs) (form_gives rs) e
    where
      go : (c : Checked Program) → EarlyGives Any c → c ≡ refuse number line → line ≤ 1 + most.rows
      go (accept p) w e = absurd (accept≢refuse number line (sym e))
      go (refuse n l) (refuses w) e = let z : l ≡ line = cc in omega (arith, w, z)
