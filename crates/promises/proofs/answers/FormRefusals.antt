-- The pass over form refuses with 1 on a row that is not a record, with 2 on one of the rows, or with 3 there
-- or one line past their end.
use mathlib.Core.Path.{◌≡◌, refl, sym, ap, ap₂, ◌∙◌, subst}
use Prim.Native.Nat.{ℕ, zero, suc, ◌+◌, ◌-◌, ◌≤◌}
use mathlib.Core.Bool.{not}
use mathlib.Core.Option.{Option, none, some}
use mathlib.Core.List.{List, [], ◌∷◌, ◌++◌, append_assoc}
use lib.ListN.{length, length-append}
use lib.Dec.{eqb, leb, ltb}
use native.Mathlib.Omega.{arith}
use Rattle.language.specs.Limits.{Most, line_refusal, limit_refusal}
use Rattle.language.specs.Lists.{nth, given, nth_up, nth₀}
use Rattle.language.specs.Results.{Checked, accept, need_checked, require}
use Rattle.language.specs.Rows.{Letter, C_class, F_field, M_method, P_parameter, X_effect, S_start, B_block}
use Rattle.language.specs.Rows.{V_local, T_true, L_false, N_null, I_slot, Z_is_null, G_get, K_cast, W_new}
use Rattle.language.specs.Rows.{R_change, A_assign, U_set, Q_call, J_choose, Record, name_of, same_letter}
use Rattle.language.specs.Rows.{Row, record_of}
use Rattle.language.specs.Tree.{DeclaredType, type_of_number, Expr, literal, literal_true, literal_false}
use Rattle.language.specs.Tree.{literal_null}
use Rattle.language.specs.Tree.{slot, is_null, get, cast, new, change, assign, set, call, choose, block, nil}
use Rattle.language.specs.Tree.{cons, size, sizes, heading_lines, method_lines, methods_lines, class_lines}
use Rattle.language.specs.Tree.{classes_lines, Program}
use Rattle.language.specs.Form.{Read, read, several, record_on, next, maybe, locals, node_of, node, body}
use Rattle.language.specs.Form.{class_of, fields, parameters, effects, method, methods, classes, at_end, form}
use Rattle.language.specs.Rows.{is_node}
use Rattle.promises.specs.Listed.{LineOf, FormRefusal, refuses_line, refuses_limit, refuses_place}
use Rattle.promises.proofs.answers.Refusals.{Among, Any, Gives, gives, refuses, gives_bind}
use Rattle.promises.proofs.answers.Refusals.{gives_after}
use Rattle.promises.proofs.answers.Refusals.{gives_require}

-- The rows from line `at` on, among all of them.
record From (rows : List Row) (at : ℕ) (rs : List Row) : Type 0 where
  before : List Row
  all : rows ≡ before ++ rs
  line : at ≡ 1 + length before

module _ {rows : List Row} where
  moved : {at at₂ : ℕ} {rs : List Row} → From rows at rs → at ≡ at₂ → From rows at₂ rs
  moved {rs} h e = subst (λ (n : ℕ). From rows n rs) e h

  from_one : {at : ℕ} {r : Row} {rs : List Row} → From rows at (r ∷ rs) → From rows (at + 1) rs
  from_one {r} {rs} h = record {
    before = h.before ++ (r ∷ []);
    all = h.all ∙ sym (append_assoc h.before (r ∷ []) rs);
    line = omega (arith, h.line, length-append h.before (r ∷ []));
  }

  starts : {at : ℕ} {rs : List Row} → From rows at rs → 1 ≤ at
  starts h = omega (arith, h.line)

  bound : {at : ℕ} {rs : List Row} → From rows at rs → at + length rs ≡ 1 + length rows
  bound {rs} h = omega (arith, h.line, ap length h.all, length-append h.before rs)

  first_row : {at : ℕ} {r : Row} {rs : List Row} → From rows at (r ∷ rs) → nth rows (at - 1) ≡ some r
  first_row {at} {r} {rs} h =
      let place : at - 1 ≡ length h.before = omega (arith, h.line) in
      ap₂ (λ (l : List Row) (n : ℕ). nth l n) h.all place
      ∙ (nth_up h.before (r ∷ rs) 0 ∙ nth₀ r rs)

module _ (most : Most) (rows : List Row) where
  abbrev FormGives : {A : Type 0} → (A → Type 0) → Checked A → Type 0
  FormGives Q r = Gives (FormRefusal rows) Q r

  -- A refusal on a line.
  on : {n at most : ℕ} → (LineOf most at → FormRefusal rows n at) → 1 ≤ at → at ≤ most
      → Among (FormRefusal rows) n at
  on k f b = record { is = k (record { from = f; to = b }) }

  -- The rows after what was read stand right after its lines.
  record Fits {A : Type 0} (lines : A → ℕ) (at : ℕ) (x : Read A) : Type 0 where
    pub next_rows : From rows (at + lines x.tree) x.rest

  reads : {A : Type 0} {lines : A → ℕ} {at : ℕ} (a : A) (rs : List Row) → From rows (at + lines a) rs
      → FormGives (Fits lines at) (accept (read a rs))
  reads a rs h = gives (record { next_rows = h })

  record_gives : (at : ℕ) (r : Row) (rs : List Row) → From rows at (r ∷ rs)
      → FormGives Any (record_on most at r)
  unfolding record_on need_checked
  record_gives at r rs h = go (record_of r) refl
    where
      go : (o : Option Record) → record_of r ≡ o → FormGives Any (need_checked o line_refusal at λ x.
          require (leb at most.rows) limit_refusal at λ _.
          require (leb (name_of x.letter x.first x.second) most.name) limit_refusal at λ _.
          accept x)
      go none e = refuses (refuses_line r (record { from = starts h; to = omega (arith, bound h) })
          (first_row h) e)
      go (some x) e =
          gives_require (leb at most.rows) (on refuses_limit (starts h) (omega (arith, bound h))) λ _.
          gives_require (leb (name_of x.letter x.first x.second) most.name)
          (on refuses_limit (starts h) (omega (arith, bound h))) λ _. gives tt

  next_gives : {B : Type 0} {Q : B → Type 0} (at : ℕ) (rs : List Row) {k : Record → List Row → Checked B}
      → From rows at rs
      → ((x : Record) (rest : List Row) → From rows (at + 1) rest → FormGives Q (k x rest))
      → FormGives Q (next most at rs k)
  unfolding next
  next_gives at [] h g = refuses (on refuses_place (starts h) (omega (arith, bound h))).is
  next_gives at (r ∷ rs) h g = gives_bind (record_gives at r rs h) λ x _. g x rs (from_one h)

  -- V lines: as many as were asked for.
  record Locals (v at : ℕ) (x : Read (List DeclaredType)) : Type 0 where
    pub all : length x.tree ≡ v
    pub next_rows : From rows (at + v) x.rest

  reads_locals : (v at : ℕ) (ts : List DeclaredType) (rs : List Row) → length ts ≡ v → From rows (at + v) rs
      → FormGives (Locals v at) (accept (read ts rs))
  reads_locals v at ts rs e h = gives (record { all = e; next_rows = h })

  locals_gives : (v n at : ℕ) (rs : List Row) → From rows at rs
      → FormGives (Locals v at) (locals most v n at rs)
  unfolding locals
  locals_gives zero n at rs h = reads_locals zero at [] rs refl (moved h (omega arith))
  locals_gives (suc v) n at rs h = next_gives at rs h λ x rest h₂.
      gives_require (same_letter V_local x.letter) (on refuses_place (starts h) (omega (arith, bound h)))
      λ _.
      gives_require (ltb n most.slots) (on refuses_limit (starts h) (omega (arith, bound h₂))) λ _.
      gives_after (locals_gives v (suc n) (at + 1) rest h₂) λ ts rest₂ q.
      reads_locals (suc v) at (type_of_number x.first ∷ ts) rest₂ (ap suc q.all)
      (moved q.next_rows (omega arith))

  -- A reader of nodes: the rows after what it reads stand right after it.
  abbrev Reads : (ℕ → List Row → Checked (Read Expr)) → Type 0
  Reads nd = (at : ℕ) (rs : List Row) → From rows at rs → FormGives (Fits size at) (nd at rs)

  several_gives : (nd : ℕ → List Row → Checked (Read Expr)) → Reads nd → (k at : ℕ) (rs : List Row)
      → From rows at rs → FormGives (Fits sizes at) (several nd k at rs)
  unfolding several size
  several_gives nd g zero at rs h = reads nil rs (moved h (omega arith))
  several_gives nd g (suc k) at rs h = gives_after (g at rs h) λ e rest q.
      gives_after (several_gives nd g k (at + size e) rest q.next_rows) λ es rest₂ p.
      reads (cons e es) rest₂ (moved p.next_rows (omega arith))

  -- A node of a letter on a line, its children read by `nd`.
  node_of_gives : (nd : ℕ → ℕ → List Row → Checked (Read Expr)) → ((n : ℕ) → Reads (λ at rs. nd n at rs))
      → (l : Letter) (a b n at : ℕ) (rs : List Row) → 1 ≤ at → From rows (at + 1) rs
      → FormGives (Fits size at) (node_of most nd l a b n at rs)
  unfolding node_of size
  node_of_gives nd g C_class a b n at rs f h = refuses (on refuses_place f (omega (arith, bound h))).is
  node_of_gives nd g F_field a b n at rs f h = refuses (on refuses_place f (omega (arith, bound h))).is
  node_of_gives nd g M_method a b n at rs f h = refuses (on refuses_place f (omega (arith, bound h))).is
  node_of_gives nd g P_parameter a b n at rs f h = refuses (on refuses_place f (omega (arith, bound h))).is
  node_of_gives nd g X_effect a b n at rs f h = refuses (on refuses_place f (omega (arith, bound h))).is
  node_of_gives nd g S_start a b n at rs f h = refuses (on refuses_place f (omega (arith, bound h))).is
  node_of_gives nd g V_local a b n at rs f h = refuses (on refuses_place f (omega (arith, bound h))).is
  node_of_gives nd g T_true a b n at rs f h = reads (literal literal_true) rs h
  node_of_gives nd g L_false a b n at rs f h = reads (literal literal_false) rs h
  node_of_gives nd g N_null a b n at rs f h = reads (literal literal_null) rs h
  node_of_gives nd g I_slot a b n at rs f h = reads (slot a) rs h
  node_of_gives nd g W_new a b n at rs f h = reads (new a) rs h
  node_of_gives nd g R_change a b n at rs f h = reads (change a b) rs h
  node_of_gives nd g Z_is_null a b n at rs f h = gives_after (g n (at + 1) rs h) λ e rest q.
      reads (is_null e) rest (moved q.next_rows (omega arith))
  node_of_gives nd g G_get a b n at rs f h = gives_after (g n (at + 1) rs h) λ e rest q.
      reads (get a e) rest (moved q.next_rows (omega arith))
  node_of_gives nd g K_cast a b n at rs f h = gives_after (g n (at + 1) rs h) λ e rest q.
      reads (cast a e) rest (moved q.next_rows (omega arith))
  node_of_gives nd g A_assign a b n at rs f h = gives_after (g n (at + 1) rs h) λ e rest q.
      reads (assign a e) rest (moved q.next_rows (omega arith))
  node_of_gives nd g U_set a b n at rs f h = gives_after (g n (at + 1) rs h) λ e rest q.
      gives_after (g n (at + 1 + size e) rest q.next_rows) λ e' rest₂ p.
      reads (set a e e') rest₂ (moved p.next_rows (omega arith))
  node_of_gives nd g Q_call a b n at rs f h = gives_after (g n (at + 1) rs h) λ e rest q.
      gives_after (several_gives (λ at rs. nd n at rs) (g n) b (at + 1 + size e) rest q.next_rows)
      λ es rest₂ p.
      reads (call a e es) rest₂ (moved p.next_rows (omega arith))
  node_of_gives nd g J_choose a b n at rs f h = gives_after (g n (at + 1) rs h) λ e rest q.
      gives_after (g n (at + 1 + size e) rest q.next_rows) λ x rest₂ p.
      gives_after (g n (at + 1 + size e + size x) rest₂ p.next_rows) λ y rest₃ o.
      reads (choose e x y) rest₃ (moved o.next_rows (omega arith))
  node_of_gives nd g B_block v k n at rs f h =
      gives_require (not (eqb k 0)) (on refuses_place f (omega (arith, bound h))) λ _.
      gives_after (locals_gives v n (at + 1) rs h) λ ts rest q.
      gives_after (several_gives (λ at rs. nd (n + v) at rs) (g (n + v)) k (at + 1 + v) rest q.next_rows)
      λ es rest₂ p.
      reads (block ts es) rest₂ (moved p.next_rows (omega (arith, q.all)))

  node_gives : (d n at : ℕ) (rs : List Row) → From rows at rs
      → FormGives (Fits size at) (node most d n at rs)
  unfolding node
  node_gives zero n at rs h = next_gives at rs h λ x rest h₂.
      gives_require (not (is_node x.letter)) (on refuses_limit (starts h) (omega (arith, bound h₂))) λ _.
      refuses (on refuses_place (starts h) (omega (arith, bound h))).is
  node_gives (suc d) n at rs h = next_gives at rs h λ x rest h₂.
      node_of_gives (λ n at rs. node most d n at rs) (λ n at rs. node_gives d n at rs)
      x.letter x.first x.second n at rest (starts h) h₂

  body_gives : (n at : ℕ) (rs : List Row) → From rows at rs → FormGives (Fits size at) (body most n at rs)
  unfolding body
  body_gives n at rs h = next_gives at rs h λ x rest _.
      gives_require (same_letter B_block x.letter) (on refuses_place (starts h) (omega (arith, bound h)))
      λ _.
      node_gives most.nesting n at rs h

  -- F and X lines, which are read as long as they come, are read without a refusal: one line and the rest.
  line_fits : {A : Type 0} (of : Record → A) (at : ℕ) (r : Row) (rs : List Row) (o : Option Record)
      (x : Read (List A)) → From rows at (r ∷ rs) → From rows (at + 1 + length x.tree) x.rest
      → let y = given o (read [] (r ∷ rs)) (λ z. read (of z ∷ x.tree) x.rest) in
      From rows (at + length y.tree) y.rest
  line_fits of at r rs none x h q = moved h (omega arith)
  line_fits of at r rs (some z) x h q = moved q (omega arith)

  fields_fit : (at : ℕ) (rs : List Row) → From rows at rs
      → From rows (at + length (fields most at rs).tree) (fields most at rs).rest
  unfolding fields
  fields_fit at [] h = moved h (omega arith)
  fields_fit at (r ∷ rs) h =
      line_fits (λ x. record { type = type_of_number x.first; name = x.second }) at r rs
      (maybe most F_field at r) (fields most (at + 1) rs) h (fields_fit (at + 1) rs (from_one h))

  effects_fit : (at : ℕ) (rs : List Row) → From rows at rs
      → From rows (at + length (effects most at rs).tree) (effects most at rs).rest
  unfolding effects
  effects_fit at [] h = moved h (omega arith)
  effects_fit at (r ∷ rs) h = line_fits (λ x. x.first) at r rs
      (maybe most X_effect at r) (effects most (at + 1) rs) h (effects_fit (at + 1) rs (from_one h))

  -- What is read of a record, if there is one.
  given_gives : {A B : Type 0} {Q : B → Type 0} (o : Option A) {r : Checked B} {k : A → Checked B}
      → FormGives Q r
      → ((a : A) → FormGives Q (k a)) → FormGives Q (given o r k)
  given_gives none g f = g
  given_gives (some a) g f = f a

  parameters_gives : (n at : ℕ) (rs : List Row) → From rows at rs
      → FormGives (Fits length at) (parameters most n at rs)
  unfolding parameters
  parameters_gives n at [] h = reads [] [] (moved h (omega arith))
  parameters_gives n at (r ∷ rs) h =
      given_gives (maybe most P_parameter at r) (reads [] (r ∷ rs) (moved h (omega arith))) λ x.
      gives_require (ltb n most.parameters) (on refuses_limit (starts h) (omega (arith, bound h))) λ _.
      gives_after (parameters_gives (suc n) (at + 1) rs (from_one h)) λ ts rest q.
      reads (type_of_number x.first ∷ ts) rest (moved q.next_rows (omega arith))

  method_gives : (at : ℕ) (m : Record) (rs : List Row) → From rows (at + 1) rs
      → FormGives (Fits method_lines at) (method most at m rs)
  unfolding method method_lines heading_lines
  method_gives at m rs h =
      gives_after (parameters_gives 0 (at + 1) rs h) λ ts rest q.
      let xs = effects most (at + 1 + length ts) rest in
      gives_after (body_gives (1 + length ts) (at + 1 + length ts + length xs.tree) xs.rest
      (effects_fit (at + 1 + length ts) rest q.next_rows)) λ e rest₂ o.
      reads (record {
        result = type_of_number m.first;
        name = m.second;
        parameters = ts;
        effects = xs.tree;
        body = e;
      }) rest₂ (moved o.next_rows (omega arith))

  methods_gives : (k at : ℕ) (rs : List Row) → From rows at rs
      → FormGives (Fits methods_lines at) (methods most k at rs)
  unfolding methods methods_lines
  methods_gives zero at rs h = reads [] rs (moved h (omega arith))
  methods_gives (suc k) at [] h = reads [] [] (moved h (omega arith))
  methods_gives (suc k) at (r ∷ rs) h =
      given_gives (maybe most M_method at r) (reads [] (r ∷ rs) (moved h (omega arith))) λ x.
      gives_after (method_gives at x rs (from_one h)) λ m rest q.
      gives_after (methods_gives k (at + method_lines m) rest q.next_rows) λ ms rest₂ p.
      reads (m ∷ ms) rest₂ (moved p.next_rows (omega arith))

  classes_gives : (k n at : ℕ) (rs : List Row) → From rows at rs
      → FormGives (Fits classes_lines at) (classes most k n at rs)
  unfolding classes classes_lines class_lines
  classes_gives zero n at rs h = reads [] rs (moved h (omega arith))
  classes_gives (suc k) n at [] h = reads [] [] (moved h (omega arith))
  classes_gives (suc k) n at (r ∷ rs) h =
      given_gives (maybe most C_class at r) (reads [] (r ∷ rs) (moved h (omega arith))) λ x.
      gives_require (ltb n most.classes) (on refuses_limit (starts h) (omega (arith, bound h))) λ _.
      let fs = fields most (at + 1) rs in
      gives_after (methods_gives (length rs) (at + 1 + length fs.tree) fs.rest
      (fields_fit (at + 1) rs (from_one h))) λ ms rest q.
      let c = class_of x fs.tree ms in
      gives_after (classes_gives k (suc n) (at + class_lines c) rest (moved q.next_rows (omega arith)))
      λ cs rest₂ o. reads (c ∷ cs) rest₂ (moved o.next_rows (omega arith))

  at_end_gives : (at : ℕ) (rs : List Row) (p : Program) → From rows at rs
      → FormGives Any (at_end most at rs p)
  unfolding at_end
  at_end_gives at [] p h = gives tt
  at_end_gives at (r ∷ rs) p h = next_gives at (r ∷ rs) h λ x rest _.
      refuses (on refuses_place (starts h) (omega (arith, bound h))).is

-- The pass over form refuses as listed: 1 on a row that is not a record, 2 on one of the rows, 3 there or one
-- line past the end.
pub form_refusals : (most : Most) (rs : List Row) → Gives (FormRefusal rs) Any (form most rs)
unfolding form
form_refusals most rs =
    gives_after (classes_gives most rs (length rs) 0 1 rs
    (record { before = []; all = refl; line = omega arith })) λ cs rest q.
    let at = 1 + classes_lines cs in
    next_gives most rs at rest q.next_rows λ x rest₂ h.
    gives_require (same_letter S_start x.letter)
    (on most rs refuses_place (omega arith) (omega (arith, bound q.next_rows))) λ _.
    gives_after (body_gives most rs 1 (at + 1) rest₂ h) λ b rest₃ o.
    at_end_gives most rs (at + 1 + size b) rest₃ (record { classes = cs; start = b }) o.next_rows
