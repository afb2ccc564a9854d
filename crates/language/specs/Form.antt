-- The pass over form: the tree of a program, or its first refusal, 1, 2 or 3
-- (document 01, "Lines and rows" and "Refusals and stops").
-- Rows are taken one after another, so the least line comes first; on one line 1, then 2, then 3.
use Rattle.std.specs.Prelude.{ℕ, zero, suc, ◌+◌, not, cond, List, [], ◌∷◌, length, eqb, leb, ltb}
use Rattle.std.proofs.Math.Option.{Option, none, some}
use Rattle.language.specs.Limits.{Most, line_refusal, limit_refusal, place_refusal}
use Rattle.language.specs.Lists.{given}
use Rattle.language.specs.Results.{Checked, accept, refuse, bind_checked, need_checked, require}
use Rattle.language.specs.Rows.{Letter, C_class, F_field, M_method, P_parameter, X_effect, S_start}
use Rattle.language.specs.Rows.{B_block, V_local, T_true, L_false, N_null, I_slot, Z_is_null, G_get}
use Rattle.language.specs.Rows.{K_cast, W_new, R_change, A_assign, U_set, Q_call, J_choose, Record}
use Rattle.language.specs.Rows.{is_node, name_of, same_letter, Row, record_of}
use Rattle.language.specs.Tree.{DeclaredType, type_of_number, Expr, literal, literal_true}
use Rattle.language.specs.Tree.{literal_false}
use Rattle.language.specs.Tree.{literal_null, slot, is_null, get, cast, new, change, assign, set, call}
use Rattle.language.specs.Tree.{choose, block, Exprs, nil, cons, size, kind_of_number, Field}
use Rattle.language.specs.Tree.{Declaration, method_lines, Class, class_lines, classes_lines, Program}

-- What was read, and the rows after it.
pub record Read (A : Type 0) : Type 0 where
  pub tree : A
  pub rest : List Row

abbrev pub read : {A : Type 0} → A → List Row → Read A
read a rs = record { tree = a; rest = rs }

abbrev pub done : {A : Type 0} → A → List Row → Checked (Read A)
done a rs = accept (read a rs)

unfoldable pub after : {A B : Type 0} → Checked (Read A) → (A → List Row → Checked B) → Checked B
after (accept r) k = k r.tree r.rest
after (refuse n l) k = refuse n l

-- The class of a C line, with what follows it.
abbrev pub class_of : Record → List Field → List Declaration → Class
class_of x fs ms = record { kind = kind_of_number x.first; super = x.second; fields = fs; methods = ms }

-- What was read, if it is a record of a letter.
unfoldable pub if_letter : Letter → Checked Record → Option Record
if_letter l (accept x) = cond (same_letter l x.letter) (some x) none
if_letter l (refuse n k) = none

-- So many nodes, each read by `node` from its line on.
unfoldable pub several : (ℕ → List Row → Checked (Read Expr)) → ℕ → ℕ → List Row → Checked (Read Exprs)
several node zero at rs = done nil rs
several node (suc k) at rs =
    after (node at rs) λ e rs.
    after (several node k (at + size e) rs) λ es rs.
    done (cons e es) rs

module _ (most : Most) where
  -- The record on a line by itself: 1 if malformed, 2 for a row too many or a name too large.
  unfoldable pub record_on : ℕ → Row → Checked Record
  record_on at r =
      need_checked (record_of r) line_refusal at λ x.
      require (leb at most.rows) limit_refusal at λ _.
      require (leb (name_of x.letter x.first x.second) most.name) limit_refusal at λ _.
      accept x

  -- The record that must stand here; past the end it is 3.
  unfoldable pub next : {B : Type 0} → ℕ → List Row → (Record → List Row → Checked B) → Checked B
  next at [] k = refuse place_refusal at
  next at (r ∷ rs) k = bind_checked (record_on at r) λ x. k x rs

  -- A record of a letter, if one stands here. Where none does, whatever must stand here next is refused.
  abbrev pub maybe : Letter → ℕ → Row → Option Record
  maybe l at r = if_letter l (record_on at r)

  -- So many V lines, with n slots in scope before the first; the V that makes a slot too many is 2.
  unfoldable pub locals : ℕ → ℕ → ℕ → List Row → Checked (Read (List DeclaredType))
  locals zero n at rs = done [] rs
  locals (suc v) n at rs = next at rs λ x rs.
      require (same_letter V_local x.letter) place_refusal at λ _.
      require (ltb n most.slots) limit_refusal at λ _.
      after (locals v (suc n) (at + 1) rs) λ ts rs.
      done (type_of_number x.first ∷ ts) rs

  -- A node of a letter with its numbers, at line `at` with n slots in scope; `node n at` reads a child.
  unfoldable pub node_of : (ℕ → ℕ → List Row → Checked (Read Expr))
      → Letter → ℕ → ℕ → ℕ → ℕ → List Row → Checked (Read Expr)
  node_of node C_class a b n at rs = refuse place_refusal at
  node_of node F_field a b n at rs = refuse place_refusal at
  node_of node M_method a b n at rs = refuse place_refusal at
  node_of node P_parameter a b n at rs = refuse place_refusal at
  node_of node X_effect a b n at rs = refuse place_refusal at
  node_of node S_start a b n at rs = refuse place_refusal at
  node_of node V_local a b n at rs = refuse place_refusal at
  node_of node T_true a b n at rs = done (literal literal_true) rs
  node_of node L_false a b n at rs = done (literal literal_false) rs
  node_of node N_null a b n at rs = done (literal literal_null) rs
  node_of node I_slot k b n at rs = done (slot k) rs
  node_of node Z_is_null a b n at rs = after (node n (at + 1) rs) λ e rs. done (is_null e) rs
  node_of node G_get f b n at rs = after (node n (at + 1) rs) λ e rs. done (get f e) rs
  node_of node K_cast c b n at rs = after (node n (at + 1) rs) λ e rs. done (cast c e) rs
  node_of node W_new c b n at rs = done (new c) rs
  node_of node R_change k d n at rs = done (change k d) rs
  node_of node A_assign k b n at rs = after (node n (at + 1) rs) λ e rs. done (assign k e) rs
  node_of node U_set f b n at rs =
      after (node n (at + 1) rs) λ e rs.
      after (node n (at + 1 + size e) rs) λ e' rs.
      done (set f e e') rs
  node_of node Q_call m k n at rs =
      after (node n (at + 1) rs) λ e rs.
      after (several (λ at rs. node n at rs) k (at + 1 + size e) rs) λ es rs.
      done (call m e es) rs
  node_of node J_choose a b n at rs =
      after (node n (at + 1) rs) λ e rs.
      after (node n (at + 1 + size e) rs) λ x rs.
      after (node n (at + 1 + size e + size x) rs) λ y rs.
      done (choose e x y) rs
  node_of node B_block v k n at rs =
      require (not (eqb k 0)) place_refusal at λ _.
      after (locals v n (at + 1) rs) λ ts rs.
      after (several (λ at rs. node (n + v) at rs) k (at + 1 + v) rs) λ es rs.
      done (block ts es) rs

  -- A node with so much nesting left; with none left, a node is 2 and anything else 3.
  unfoldable pub node : ℕ → ℕ → ℕ → List Row → Checked (Read Expr)
  node zero n at rs = next at rs λ x rs. require (not (is_node x.letter)) limit_refusal at λ _.
      refuse place_refusal at
  node (suc d) n at rs = next at rs λ x rs.
      node_of (λ n at rs. node d n at rs) x.letter x.first x.second n at rs

  -- A body: one block.
  unfoldable pub body : ℕ → ℕ → List Row → Checked (Read Expr)
  body n at rs = next at rs λ x _.
      require (same_letter B_block x.letter) place_refusal at λ _.
      node most.nesting n at rs

  -- F lines, as long as they come.
  unfoldable pub fields : ℕ → List Row → Read (List Field)
  fields at [] = read [] []
  fields at (r ∷ rs) = given (maybe F_field at r) (read [] (r ∷ rs)) λ x.
      let more = fields (at + 1) rs in
      read (record { type = type_of_number x.first; name = x.second } ∷ more.tree) more.rest

  -- P lines, as long as they come, after n of them; one too many is 2.
  unfoldable pub parameters : ℕ → ℕ → List Row → Checked (Read (List DeclaredType))
  parameters n at [] = done [] []
  parameters n at (r ∷ rs) = given (maybe P_parameter at r) (done [] (r ∷ rs)) λ x.
      require (ltb n most.parameters) limit_refusal at λ _.
      after (parameters (suc n) (at + 1) rs) λ ts rs.
      done (type_of_number x.first ∷ ts) rs

  -- X lines, as long as they come.
  unfoldable pub effects : ℕ → List Row → Read (List ℕ)
  effects at [] = read [] []
  effects at (r ∷ rs) = given (maybe X_effect at r) (read [] (r ∷ rs)) λ x.
      let more = effects (at + 1) rs in
      read (x.first ∷ more.tree) more.rest

  -- What follows an M line at `at`.
  unfoldable pub method : ℕ → Record → List Row → Checked (Read Declaration)
  method at m rs =
      after (parameters 0 (at + 1) rs) λ ts rs.
      let xs = effects (at + 1 + length ts) rs in
      after (body (1 + length ts) (at + 1 + length ts + length xs.tree) xs.rest) λ e rs.
      done (record {
        result = type_of_number m.first;
        name = m.second;
        parameters = ts;
        effects = xs.tree;
        body = e;
      }) rs

  -- Methods, as long as M lines come, f of them at most.
  unfoldable pub methods : ℕ → ℕ → List Row → Checked (Read (List Declaration))
  methods zero at rs = done [] rs
  methods (suc f) at [] = done [] []
  methods (suc f) at (r ∷ rs) = given (maybe M_method at r) (done [] (r ∷ rs)) λ x.
      after (method at x rs) λ m rs.
      after (methods f (at + method_lines m) rs) λ ms rs.
      done (m ∷ ms) rs

  -- Classes, as long as C lines come, f of them at most, after n of them; one too many is 2.
  unfoldable pub classes : ℕ → ℕ → ℕ → List Row → Checked (Read (List Class))
  classes zero n at rs = done [] rs
  classes (suc f) n at [] = done [] []
  classes (suc f) n at (r ∷ rs) = given (maybe C_class at r) (done [] (r ∷ rs)) λ x.
      require (ltb n most.classes) limit_refusal at λ _.
      let fs = fields (at + 1) rs in
      after (methods (length rs) (at + 1 + length fs.tree) fs.rest) λ ms rs.
      let c = class_of x fs.tree ms in
      after (classes f (suc n) (at + class_lines c) rs) λ cs rs.
      done (c ∷ cs) rs

  -- Nothing may follow the start block.
  unfoldable pub at_end : ℕ → List Row → Program → Checked Program
  at_end at [] p = accept p
  at_end at (r ∷ rs) p = next at (r ∷ rs) λ _ _. refuse place_refusal at

  -- The pass: classes, the S line, the start block, the end.
  unfoldable pub form : List Row → Checked Program
  form rs =
      after (classes (length rs) 0 1 rs) λ cs rs.
      let at = 1 + classes_lines cs in
      next at rs λ x rs.
      require (same_letter S_start x.letter) place_refusal at λ _.
      after (body 1 (at + 1) rs) λ e rs.
      at_end (at + 1 + size e) rs (record { classes = cs; start = e })
