-- Tighter limits, of a row, of locals, of nodes and of bodies: the same is read, or it is refused with 2 on a
-- line that is over them.
use mathlib.Core.Path.{◌≡◌, refl, sym, ◌∙◌, subst}
use Prim.Native.Nat.{ℕ, zero, suc, ◌+◌, ◌<◌}
use mathlib.Core.Logic.{◌⊎◌, inl, inr}
use mathlib.Core.Bool.{Bool, true, false, not}
use mathlib.Core.Option.{Option, none, some}
use mathlib.Core.List.{List, [], ◌∷◌}
use lib.Dec.{eqb, leb, ltb}
use borrow.Author.Tests.{leb-true, leb-false, le-leb, ltb-false}
use native.Mathlib.Omega.{arith}
use Rattle.language.specs.Limits.{Most, limit_refusal, line_refusal, place_refusal}
use Rattle.language.specs.Results.{Checked, accept, refuse, bind_checked, need_checked, require}
use Rattle.language.specs.Results.{accept_injective}
use Rattle.language.specs.Rows.{Letter, C_class, F_field, M_method, P_parameter, X_effect, S_start, B_block}
use Rattle.language.specs.Rows.{V_local, T_true, L_false, N_null, I_slot, Z_is_null, G_get, K_cast, W_new}
use Rattle.language.specs.Rows.{R_change, A_assign, U_set, Q_call, J_choose, Record, name_of, same_letter}
use Rattle.language.specs.Rows.{Row, record_of}
use Rattle.language.specs.Tree.{DeclaredType, type_of_number, Expr, is_null, get, cast, assign, set, call}
use Rattle.language.specs.Tree.{choose, block, Exprs, cons, size}
use Rattle.language.specs.Form.{Read, read, after, several, record_on, next, locals, node_of, node, body}
use Rattle.language.specs.Rows.{is_node}
use Rattle.language.specs.Uses.{a_local, counted, node_uses, nodes_uses, too_many_slots}
use Rattle.language.specs.Uses.{nested_too_deep}
use Rattle.theory.proofs.acceptance.Translatable.{Tighter}
use Rattle.theory.proofs.reading.FlattenParse.{after_inv, locals_back}
use Rattle.promises.proofs.answers.OnLines.{here, later, on_left, on_right}
use Rattle.promises.proofs.answers.UseLaws.{Excess, counted_length, node_length, node_exceeds}

-- What tight limits make of a check: the same answer, or 2, on a line past the last row that they allow or on
-- a line of which P holds, by what the wide limits answer. Nothing is said where the wide limits refuse.
pub data Cuts (tight : Most) {A : Type 0} (P : A → ℕ → Type 0) : Checked A → Checked A → Type 0 where
  same : {a : A} → Cuts tight P (accept a) (accept a)
  over_rows : {r : Checked A} {l : ℕ} → tight.rows < l → Cuts tight P r (refuse limit_refusal l)
  over : {a : A} {l : ℕ} → P a l → Cuts tight P (accept a) (refuse limit_refusal l)
  unsaid : {n l : ℕ} {r : Checked A} → Cuts tight P (refuse n l) r

-- A check that refuses with 2, on a line past the last row that tight limits allow.
pub data Over (tight : Most) {A : Type 0} : Checked A → Type 0 where
  is_over : {l : ℕ} → tight.rows < l → Over tight (refuse limit_refusal l)

pub over_any : {tight : Most} {A : Type 0} {P : A → ℕ → Type 0} {r r' : Checked A} → Over tight r'
    → Cuts tight P r r'
over_any (is_over h) = over_rows h

pub over_after : {tight : Most} {A B : Type 0} {r : Checked (Read A)} (k : A → List Row → Checked B)
    → Over tight r → Over tight (after r k)
unfolding after
over_after k (is_over h) = is_over h

module _ {tight : Most} {B : Type 0} {Q : B → ℕ → Type 0} where
  -- 2 on a line of which Q holds, whatever the wide limits answer.
  pub over_accepted : (r : Checked B) {l : ℕ} → ((b : B) → r ≡ accept b → Q b l)
      → Cuts tight Q r (refuse limit_refusal l)
  over_accepted (accept b) f = over (f b refl)
  over_accepted (refuse n l) f = unsaid

  pub cuts_refl : (r : Checked B) → Cuts tight Q r r
  cuts_refl (accept b) = same
  cuts_refl (refuse n l) = unsaid

  pub cuts_mono : {P : B → ℕ → Type 0} {r r' : Checked B} → Cuts tight P r r'
      → ((b : B) (l : ℕ) → P b l → Q b l) → Cuts tight Q r r'
  cuts_mono same g = same
  cuts_mono (over_rows h) g = over_rows h
  cuts_mono (over h) g = over (g _ _ h)
  cuts_mono unsaid g = unsaid

  -- What follows; a line of which P holds for the part is one of which Q holds for the whole.
  pub cuts_bind : {A : Type 0} {P : A → ℕ → Type 0} {r r' : Checked A} {k k' : A → Checked B}
      → Cuts tight P r r'
      → ((a : A) (l : ℕ) → P a l → (b : B) → k a ≡ accept b → Q b l)
      → ((a : A) → Cuts tight Q (k a) (k' a)) → Cuts tight Q (bind_checked r k) (bind_checked r' k')
  unfolding bind_checked
  cuts_bind same g f = f _
  cuts_bind (over_rows h) g f = over_rows h
  cuts_bind (over h) g f = over_accepted _ (g _ _ h)
  cuts_bind unsaid g f = unsaid

  pub cuts_after : {A : Type 0} {P : Read A → ℕ → Type 0} {r r' : Checked (Read A)}
      {k k' : A → List Row → Checked B} → Cuts tight P r r'
      → ((a : A) (rs : List Row) (l : ℕ) → P (read a rs) l → (b : B) → k a rs ≡ accept b → Q b l)
      → ((a : A) (rs : List Row) → r ≡ accept (read a rs) → Cuts tight Q (k a rs) (k' a rs))
      → Cuts tight Q (after r k) (after r' k')
  unfolding after
  cuts_after same g f = f _ _ refl
  cuts_after (over_rows h) g f = over_rows h
  cuts_after (over h) g f = over_accepted _ (g _ _ _ h)
  cuts_after unsaid g f = unsaid

  -- What must hold of rows alike; what must hold by a limit.
  pub cuts_require : (b : Bool) (n l : ℕ) {k k' : Bool → Checked B} → ((b : Bool) → Cuts tight Q (k b) (k' b))
      → Cuts tight Q (require b n l k) (require b n l k')
  unfolding require
  cuts_require true n l f = f true
  cuts_require false n l f = unsaid

  pub cuts_limit : (b b' : Bool) (l : ℕ) {k k' : Bool → Checked B}
      → (b' ≡ false → (y : B) → k true ≡ accept y → Q y l) → ((b : Bool) → Cuts tight Q (k b) (k' b))
      → Cuts tight Q (require b limit_refusal l k) (require b' limit_refusal l k')
  unfolding require
  cuts_limit true false l g f = over_accepted _ (g refl)
  cuts_limit false false l g f = unsaid
  cuts_limit true true l g f = f true
  cuts_limit false true l g f = unsaid

-- The last part of what is read.
pub cuts_last : {tight : Most} {A B : Type 0} {P : Read A → ℕ → Type 0} {Q : Read B → ℕ → Type 0}
    {r r' : Checked (Read A)} (f : A → B) → Cuts tight P r r'
    → ((a : A) (rs : List Row) (l : ℕ) → P (read a rs) l → Q (read (f a) rs) l)
    → Cuts tight Q (after r (λ a rs. accept (read (f a) rs))) (after r' (λ a rs. accept (read (f a) rs)))
unfolding after
cuts_last f same g = same
cuts_last f (over_rows h) g = over_rows h
cuts_last f (over h) g = over (g _ _ _ h)
cuts_last f unsaid g = unsaid

-- A part before the last: what is read in the end is made of both.
pub with_last : {A B : Type 0} (r : Checked (Read A)) (f : A → B) (Q : Read B → Type 0)
    → ((a : A) (rs : List Row) → Q (read (f a) rs)) → (x : Read B)
    → after r (λ a rs. accept (read (f a) rs)) ≡ accept x → Q x
with_last r f Q g x e = after_inv _ _ e λ a rs _ e. subst Q (accept_injective e) (g a rs)

module _ {wide tight : Most} (t : Tighter tight wide) (names : wide.name ≡ tight.name) where
  -- A row is read alike, or it is past the last one allowed.
  pub record_either : (at : ℕ) (r : Row)
      → (record_on wide at r ≡ record_on tight at r)
      ⊎ ((tight.rows < at) × (record_on tight at r ≡ refuse limit_refusal at))
  unfolding record_on need_checked require
  record_either at r = go (record_of r)
    where
      on : Most → Option Record → Checked Record
      on most o = need_checked o line_refusal at λ x.
          require (leb at most.rows) limit_refusal at λ _.
          require (leb (name_of x.letter x.first x.second) most.name) limit_refusal at λ _.
          accept x

      counted-rows : (x : Record) (b : Bool) → leb at tight.rows ≡ b
          → (on wide (some x) ≡ on tight (some x))
          ⊎ ((tight.rows < at) × (on tight (some x) ≡ refuse limit_refusal at))
      counted-rows x true q = inl (rw (
        q,
        le-leb at wide.rows (omega (arith, leb-true at tight.rows q, t.rows)),
        names,
      ))
      counted-rows x false q = inr (leb-false at tight.rows q, rw q)

      go : (o : Option Record)
          → (on wide o ≡ on tight o) ⊎ ((tight.rows < at) × (on tight o ≡ refuse limit_refusal at))
      go none = inl refl
      go (some x) = counted-rows x (leb at tight.rows) refl

  pub next_cuts : {B : Type 0} {Q : B → ℕ → Type 0} (at : ℕ) (rs : List Row)
      {k k' : Record → List Row → Checked B}
      → ((x : Record) (rest : List Row) → Cuts tight Q (k x rest) (k' x rest))
      → Cuts tight Q (next wide at rs k) (next tight at rs k')
  unfolding next bind_checked
  next_cuts at [] f = unsaid
  next_cuts {B} {Q} at (r ∷ rs) {k} {k'} f = go (record_either at r)
    where
      both : (c : Checked Record)
          → Cuts tight Q (bind_checked c λ x. k x rs) (bind_checked c λ x. k' x rs)
      both (accept x) = f x rs
      both (refuse n l) = unsaid

      go : (record_on wide at r ≡ record_on tight at r)
          ⊎ ((tight.rows < at) × (record_on tight at r ≡ refuse limit_refusal at))
          → Cuts tight Q (bind_checked (record_on wide at r) λ x. k x rs)
          (bind_checked (record_on tight at r) λ x. k' x rs)
      go (inl e) = rw e (both (record_on tight at r))
      go (inr h) = rw h.1 (over_rows h.0)

  -- Of V lines, of nodes and of lists of nodes, the first on line `at`: a line that exceeds tight limits.
  abbrev LocalsOver : ℕ → ℕ → Read (List DeclaredType) → ℕ → Type 0
  LocalsOver n at x l = Excess tight at (counted a_local n x.tree) l

  abbrev NodeOver : ℕ → ℕ → ℕ → Read Expr → ℕ → Type 0
  NodeOver d n at x l = Excess tight at (node_uses d n x.tree) l

  abbrev NodesOver : ℕ → ℕ → ℕ → Read Exprs → ℕ → Type 0
  NodesOver d n at x l = Excess tight at (nodes_uses d n x.tree) l

  locals_cuts : (v n at : ℕ) (rs : List Row)
      → Cuts tight (LocalsOver n at) (locals wide v n at rs) (locals tight v n at rs)
  unfolding locals counted
  locals_cuts zero n at rs = same
  locals_cuts (suc v) n at rs = next_cuts at rs λ x rest.
      cuts_require (same_letter V_local x.letter) _ _ λ _.
      cuts_limit (ltb n wide.slots) (ltb n tight.slots) at
      (λ e. with_last _ (λ (ts : List DeclaredType). type_of_number x.first ∷ ts)
      (λ y. LocalsOver n at y at)
      λ ts rs. here (too_many_slots (omega (arith, ltb-false n tight.slots e)))) λ _.
      cuts_last (λ (ts : List DeclaredType). type_of_number x.first ∷ ts)
      (locals_cuts v (suc n) (at + 1) rest) λ ts rs l h. later h

  several_cuts : (d n : ℕ) (nd nd' : ℕ → List Row → Checked (Read Expr))
      → ((at : ℕ) (rs : List Row) → Cuts tight (NodeOver d n at) (nd at rs) (nd' at rs))
      → (k at : ℕ) (rs : List Row) → Cuts tight (NodesOver d n at) (several nd k at rs) (several nd' k at rs)
  unfolding several node_uses
  several_cuts d n nd nd' g zero at rs = same
  several_cuts d n nd nd' g (suc k) at rs = cuts_after (g at rs)
      (λ e rest l h. with_last _ (cons e) (λ y. NodesOver d n at y l) λ es rest. on_left _ h) λ e rest _.
      cuts_last (cons e) (several_cuts d n nd nd' g k (at + size e) rest) λ es rest l h.
      on_right (node_uses d n e) (size e) (node_length d n e) h

  -- Children have one nesting more than their node.
  module _ (d : ℕ) (nd nd' : ℕ → ℕ → List Row → Checked (Read Expr))
      (g : (n at : ℕ) (rs : List Row) → Cuts tight (NodeOver (suc d) n at) (nd n at rs) (nd' n at rs))
    where
      node-of-cuts : (l : Letter) (a b n at : ℕ) (rs : List Row)
          → Cuts tight (NodeOver d n at) (node_of wide nd l a b n at rs) (node_of tight nd' l a b n at rs)
      unfolding node_of node_uses
      node-of-cuts C_class a b n at rs = unsaid
      node-of-cuts F_field a b n at rs = unsaid
      node-of-cuts M_method a b n at rs = unsaid
      node-of-cuts P_parameter a b n at rs = unsaid
      node-of-cuts X_effect a b n at rs = unsaid
      node-of-cuts S_start a b n at rs = unsaid
      node-of-cuts V_local a b n at rs = unsaid
      node-of-cuts T_true a b n at rs = same
      node-of-cuts L_false a b n at rs = same
      node-of-cuts N_null a b n at rs = same
      node-of-cuts I_slot a b n at rs = same
      node-of-cuts W_new a b n at rs = same
      node-of-cuts R_change a b n at rs = same
      node-of-cuts Z_is_null a b n at rs = cuts_last is_null (g n (at + 1) rs) λ e rest l h. later h
      node-of-cuts G_get a b n at rs = cuts_last (get a) (g n (at + 1) rs) λ e rest l h. later h
      node-of-cuts K_cast a b n at rs = cuts_last (cast a) (g n (at + 1) rs) λ e rest l h. later h
      node-of-cuts A_assign a b n at rs = cuts_last (assign a) (g n (at + 1) rs) λ e rest l h. later h
      node-of-cuts U_set a b n at rs = cuts_after (g n (at + 1) rs)
          (λ e rest l h. with_last _ (set a e) (λ y. NodeOver d n at y l) λ e' rest. later (on_left _ h))
          λ e rest _.
          cuts_last (set a e) (g n (at + 1 + size e) rest) λ e' rest l h.
          later (on_right (node_uses (suc d) n e) (size e) (node_length (suc d) n e) h)
      node-of-cuts Q_call a b n at rs = cuts_after (g n (at + 1) rs)
          (λ e rest l h. with_last _ (call a e) (λ y. NodeOver d n at y l) λ es rest. later (on_left _ h))
          λ e rest _.
          cuts_last (call a e) (several_cuts (suc d) n (λ at rs. nd n at rs) (λ at rs. nd' n at rs) (g n) b
          (at + 1 + size e) rest) λ es rest l h.
          later (on_right (node_uses (suc d) n e) (size e) (node_length (suc d) n e) h)
      node-of-cuts J_choose a b n at rs = cuts_after (g n (at + 1) rs)
          (λ e rest l h y q. after_inv _ _ q λ x rest _ q.
          with_last _ (choose e x) (λ y. NodeOver d n at y l) (λ z rest. later (on_left _ h)) y q) λ e rest _.
          cuts_after (g n (at + 1 + size e) rest)
          (λ x rest l h. with_last _ (choose e x) (λ y. NodeOver d n at y l) λ z rest.
          later (on_right (node_uses (suc d) n e) (size e) (node_length (suc d) n e) (on_left _ h)))
          λ x rest _.
          cuts_last (choose e x) (g n (at + 1 + size e + size x) rest) λ z rest l h.
          later (on_right (node_uses (suc d) n e) (size e) (node_length (suc d) n e)
          (on_right (node_uses (suc d) n x) (size x) (node_length (suc d) n x) h))
      node-of-cuts B_block v k n at rs = cuts_require (not (eqb k 0)) _ _ λ _.
          cuts_after (locals_cuts v n (at + 1) rs)
          (λ ts rest l h. with_last _ (block ts) (λ y. NodeOver d n at y l) λ es rest. later (on_left _ h))
          λ ts rest e. let many = (locals_back wide v n (at + 1) rs (read ts rest) e).many in
          cuts_last (block ts) (several_cuts (suc d) (n + v) (λ at rs. nd (n + v) at rs)
          (λ at rs. nd' (n + v) at rs) (g (n + v)) k (at + 1 + v) rest) λ es rest l h.
          later (on_right (counted a_local n ts) v (counted_length a_local n ts ∙ many)
          (subst (λ (m : ℕ). Excess tight (at + 1 + v) (nodes_uses (suc d) (n + m) es) l) (sym many) h))

  -- With no nesting left a node is 2, and its line exceeds the limit.
  module _ (d : ℕ) (nd : ℕ → ℕ → List Row → Checked (Read Expr)) (deep : tight.nesting < d) where
    nested : (r : Checked (Read Expr)) (n at : ℕ) → Cuts tight (NodeOver d n at) r (refuse limit_refusal at)
    nested r n at = over_accepted r λ x _. node_exceeds n at x.tree (nested_too_deep deep)

    no-nesting : (l : Letter) (a b n at : ℕ) (rs : List Row)
        → Cuts tight (NodeOver d n at) (node_of wide nd l a b n at rs)
        (require (not (is_node l)) limit_refusal at (λ _. refuse place_refusal at))
    unfolding node_of require
    no-nesting C_class a b n at rs = unsaid
    no-nesting F_field a b n at rs = unsaid
    no-nesting M_method a b n at rs = unsaid
    no-nesting P_parameter a b n at rs = unsaid
    no-nesting X_effect a b n at rs = unsaid
    no-nesting S_start a b n at rs = unsaid
    no-nesting V_local a b n at rs = unsaid
    no-nesting T_true a b n at rs = nested _ n at
    no-nesting L_false a b n at rs = nested _ n at
    no-nesting N_null a b n at rs = nested _ n at
    no-nesting I_slot a b n at rs = nested _ n at
    no-nesting W_new a b n at rs = nested _ n at
    no-nesting R_change a b n at rs = nested _ n at
    no-nesting Z_is_null a b n at rs = nested _ n at
    no-nesting G_get a b n at rs = nested _ n at
    no-nesting K_cast a b n at rs = nested _ n at
    no-nesting A_assign a b n at rs = nested _ n at
    no-nesting U_set a b n at rs = nested _ n at
    no-nesting Q_call a b n at rs = nested _ n at
    no-nesting J_choose a b n at rs = nested _ n at
    no-nesting B_block v k n at rs = nested _ n at

  no_node : {Q : Read Expr → ℕ → Type 0} {r : Checked (Read Expr)} (b : Bool) (at : ℕ)
      → Cuts tight Q (require b limit_refusal at (λ _. refuse place_refusal at)) r
  unfolding require
  no_node true at = unsaid
  no_node false at = unsaid

  -- A node of nesting k, with so much left: d by the wide limits and d' by the tight ones.
  node_cuts : (k d d' n at : ℕ) (rs : List Row) → k + d' ≡ suc tight.nesting
      → Cuts tight (NodeOver k n at) (node wide d n at rs) (node tight d' n at rs)
  unfolding node
  node_cuts k zero zero n at rs q = next_cuts at rs λ x rest. no_node (not (is_node x.letter)) at
  node_cuts k zero (suc d') n at rs q = next_cuts at rs λ x rest. no_node (not (is_node x.letter)) at
  node_cuts k (suc d) zero n at rs q = next_cuts at rs λ x rest.
      no-nesting k (λ n at rs. node wide d n at rs) (omega (arith, q)) x.letter x.first x.second n at
      rest
  node_cuts k (suc d) (suc d') n at rs q = next_cuts at rs λ x rest.
      node-of-cuts k (λ n at rs. node wide d n at rs) (λ n at rs. node tight d' n at rs)
      (λ n at rs. node_cuts (suc k) d d' n at rs (omega (arith, q))) x.letter x.first x.second
      n at rest

  -- A body's block has nesting 1.
  pub body_cuts : (n at : ℕ) (rs : List Row)
      → Cuts tight (λ x l. Excess tight at (node_uses 1 n x.tree) l) (body wide n at rs)
      (body tight n at rs)
  unfolding body
  body_cuts n at rs = next_cuts at rs λ x _. cuts_require (same_letter B_block x.letter) _ _ λ _.
      node_cuts 1 wide.nesting tight.nesting n at rs (omega arith)
