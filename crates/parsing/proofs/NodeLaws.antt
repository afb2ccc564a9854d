-- Laws of nodes: several one after another, the parts of one, its letter. Assumes nothing.
use mathlib.Core.Path.{◌≡◌, refl, sym, ap, ◌∙◌}
use mathlib.Core.Bool.{true, false}
use mathlib.Core.List.{List, [], ◌∷◌}
use Prim.Native.Nat.{ℕ, zero, suc, ◌+◌, ◌-◌, ◌*◌, ◌≤◌, ◌<◌}
use native.Mathlib.Omega.{arith}
use borrow.Author.Tests.{eq-eqb, ne_eqb}
use lib.ListN.{length, get_or}
use Rattle.language.specs.Results.{Checked, accept, refuse, require, bind_checked_inv, require_inv}
use Rattle.language.specs.Results.{accept≢refuse, accept_injective}
use Rattle.language.specs.Rows as rows
use Rattle.language.specs.Rows.{Letter, code, Children, children, arguments, locals_and_nodes, has_node, Row}
use Rattle.language.specs.Rows.{is_node}
use Rattle.language.specs.Rows.{C_class, F_field, M_method, P_parameter, X_effect, S_start, B_block, V_local}
use Rattle.language.specs.Rows.{T_true, L_false, N_null, I_slot, Z_is_null, G_get, K_cast, W_new, R_change}
use Rattle.language.specs.Rows.{A_assign, U_set, Q_call, J_choose}
use Rattle.language.specs.Tree.{DeclaredType, type_of_number, Expr, Exprs, nil, cons, count, size, sizes}
use Rattle.language.specs.Form.{Read, done, after, several, locals, node_of, node, next, body}
use Rattle.language.specs.Tables.{next_rows, ends_of, ends_list}
use Rattle.language.proofs.Letters.{code_injective}
use Rattle.language.proofs.Tables.{next_rows_long, ends_long}
use Rattle.parsing.specs.declared.limits.Limits.{Limits}
use Rattle.parsing.specs.Columns.{most_of}
use Rattle.parsing.specs.Places.{rows_from, row_checked, some_parts, parts, parts_of, parts_at, Ready, There}
use Rattle.parsing.specs.Passes.{Step, ToldNode, ToldNodes, ToldLocals, Makes, parts_read}
use Rattle.parsing.specs.declared.nodes.Parts.{Parts}
use Rattle.std.specs.Prelude.{Option, None, Ok, Err}
use Rattle.language.specs.declared.Refusal.{Refusal}
use Rattle.parsing.proofs.Places.{Here, next_here, next_refused}
use Rattle.parsing.proofs.Passes.{told_end, told_as, told_nothing, told_one, told_stop, told_after}
use Rattle.parsing.proofs.Passes.{told_close}
use Rattle.parsing.proofs.LineLaws.{ready_at}
use Rattle.parsing.proofs.Shapes.{Shaped, shaped, no_shape, parts_injective}

-- ---- several, one after another

pub record Reading (L : Limits) (R E₀ E : List ℕ) (N : ℕ → List Row → Checked (Read Expr))
    (at count i left : ℕ) : Type 0 where
  pub ready : Ready L R E i
  pub told : (s : Step) (E' : List ℕ) → ToldNodes L R E i (several N left (i + 1) (rows_from R i)) s E'
      → ToldNodes L R E₀ at (several N count (at + 1) (rows_from R at)) s E'
  pub long : length E ≡ length E₀

pub reading_start : {L : Limits} {R E : List ℕ} {at count left : ℕ} (N : ℕ → List Row → Checked (Read Expr))
    → left ≡ count → Ready L R E at → Reading L R E E N at count at left
reading_start {L} N e r = rw e (record { ready = r; told = λ s E' t. t; long = refl })

module _ {L : Limits} {R E₀ E : List ℕ} {N : ℕ → List Row → Checked (Read Expr)} {at count i left : ℕ}
    (p : Reading L R E₀ E N at count i left) where
  pub reading_end : left ≤ 0 → ToldNodes L R E₀ at (several N count (at + 1) (rows_from R at)) (Ok i) E
  unfolding several sizes ends_list
  reading_end h =
      let z : left ≡ 0 = omega arith in
      p.told (Ok i) E (rw z (told_nothing nil refl refl p.ready.within p.ready.inside))

  module _ (h : 0 < left) where
    several-here : several N left (i + 1) (rows_from R i)
        ≡ after (N (i + 1) (rows_from R i))
        (λ e rs. after (several N (left - 1) (i + 1 + size e) rs) λ es rs. done (cons e es) rs)
    unfolding several
    several-here = let e : left ≡ suc (left - 1) = omega arith in
        ap (λ (k : ℕ). several N k (i + 1) (rows_from R i)) e

    pub reading_stop : {s : Step} {r : Refusal} {E₁ : List ℕ} → ToldNode L R E i (N (i + 1) (rows_from R i)) s E₁
        → s ≡ Err r
        → ToldNodes L R E₀ at (several N count (at + 1) (rows_from R at)) (Err r) E₁
    reading_stop {s} {r} {E₁} t e =
        p.told (Err r) E₁ (told_as several-here (told_stop (N (i + 1) (rows_from R i)) _ t e))

    pub reading_step : {s : Step} {q : ℕ} {E₁ : List ℕ} → ToldNode L R E i (N (i + 1) (rows_from R i)) s E₁
        → s ≡ Ok q → length E₁ ≡ length E → {k : ℕ} → k ≡ left - 1
        → Reading L R E₀ E₁ N at count q k
    unfolding after sizes ends_list
    reading_step {s} {q} {E₁} t e m {k} f = told_end (N (i + 1) (rows_from R i)) t e λ a x y w o z.
        let g : i + 1 + size a ≡ q + 1 = omega (arith, y) in
        let v : several N left (i + 1) (rows_from R i)
        ≡ after (several N (left - 1) (q + 1) (rows_from R q)) (λ es rs. done (cons a es) rs) =
        several-here ∙ rw (x, g) in
        rw f (record {
          ready = ready_at q p.ready m w o;
          told = λ s' E' d. p.told s' E' (told_as v
              (told_after (ends_of i a) (λ es. cons a es) (several N (left - 1) (q + 1) (rows_from R q))
              (omega (arith, y, ends_long i a)) z (λ es. omega (arith, ends_long i a)) (λ es. rw y) d));
          long = m ∙ p.long;
        })

-- ---- how many were read

pub after_inv : {A B C : Type 0} (x : Checked (Read A)) (k : A → List Row → Checked B) {b : B}
    → after x k ≡ accept b
    → ((a : A) (rs : List Row) → x ≡ done a rs → k a rs ≡ accept b → C) → C
unfolding after
after_inv (accept r) k e f = f r.tree r.rest refl e
after_inv (refuse n l) k e f = absurd (accept≢refuse n l e)

pub done_tree : {A : Type 0} (a b : A) (rs qs : List Row) → done a rs ≡ done b qs → a ≡ b
done_tree a b rs qs e = ap (λ r. r.tree) (accept_injective e)

locals_count : (L : Limits) (v n line : ℕ) (rs rest : List Row) (ts : List DeclaredType)
    → locals (most_of L) v n line rs ≡ done ts rest → length ts ≡ v
unfolding locals next
locals_count L zero n line rs rest ts e = ap length (sym (done_tree [] ts rs rest e))
locals_count L (suc v) n line [] rest ts e = absurd (accept≢refuse _ _ e)
locals_count L (suc v) n line (r ∷ rs) rest ts e =
    bind_checked_inv _ _ e λ x e₁ e. require_inv _ _ _ _ e λ e₂ e. require_inv _ _ _ _ e λ e₃ e.
    after_inv _ _ e λ us qs e₄ e.
    ap length (sym (done_tree (type_of_number x.first ∷ us) ts qs rest e))
    ∙ ap suc (locals_count L v (suc n) (line + 1) rs qs us e₄)

several_count : (N : ℕ → List Row → Checked (Read Expr)) (k line : ℕ) (rs rest : List Row) (es : Exprs)
    → several N k line rs ≡ done es rest → count es ≡ k
unfolding several count
several_count N zero line rs rest es e = ap count (sym (done_tree nil es rs rest e))
several_count N (suc k) line rs rest es e =
    after_inv _ _ e λ x qs e₁ e. after_inv _ _ e λ xs ps e₂ e.
    ap count (sym (done_tree (cons x xs) es ps rest e))
    ∙ ap suc (several_count N k (line + size x) qs ps xs e₂)

-- ---- V lines, then children

module _ {L : Limits} {R E E₁ : List ℕ} (at d n v k : ℕ) {s : Step}
    (t : ToldLocals L R E (at + 1) (locals (most_of L) v n (at + 1 + 1) (rows_from R (at + 1))) s E₁)
    (make : List DeclaredType → Exprs → Expr) where
  pub parts_stop : {r : Refusal} {E₂ : List ℕ} → s ≡ Err r
      → ToldNode L R E at (parts_read L d n v k make (at + 1) (rows_from R (at + 1))) (Err r) E₂
  unfolding parts_read
  parts_stop e = told_stop (locals (most_of L) v n (at + 1 + 1) (rows_from R (at + 1))) _ t e

  module _ {first : ℕ} (f : s ≡ Ok first) {s' : Step} {E₂ : List ℕ}
      (u : ToldNodes L R E₁ first
      (several (λ at rs. node (most_of L) d (n + v) at rs) k (first + 1) (rows_from R first)) s' E₂) where
    rest-stop : (ts : List DeclaredType)
        → locals (most_of L) v n (at + 1 + 1) (rows_from R (at + 1)) ≡ done ts (rows_from R first)
        → first ≡ at + 1 + length ts
        → parts_read L d n v k make (at + 1) (rows_from R (at + 1))
        ≡ after (several (λ at rs. node (most_of L) d (n + v) at rs) k (first + 1) (rows_from R first))
        (λ es rs. done (make ts es) rs)
    unfolding parts_read after
    rest-stop ts x y =
        let c = locals_count L v n (at + 1 + 1) (rows_from R (at + 1)) (rows_from R first) ts x in
        let g : at + 1 + 1 + v ≡ first + 1 = omega (arith, y, c) in
        rw (x, g)

    pub parts_stop_late : {r : Refusal} {E₃ : List ℕ} → s' ≡ Err r
        → ToldNode L R E at (parts_read L d n v k make (at + 1) (rows_from R (at + 1))) (Err r) E₃
    parts_stop_late e = told_end (locals (most_of L) v n (at + 1 + 1) (rows_from R (at + 1))) t f
        λ ts x y w o z.
        told_as (rest-stop ts x y)
        (told_stop (several (λ at rs. node (most_of L) d (n + v) at rs) k (first + 1) (rows_from R first))
        _ u e)

    pub parts_close : {q : ℕ} → s' ≡ Ok q → Makes v k make
        → ToldNode L R E at (parts_read L d n v k make (at + 1) (rows_from R (at + 1))) (Ok q)
        (lib.ListN.set E₂ at q)
    parts_close {q} e m =
        told_end (locals (most_of L) v n (at + 1 + 1) (rows_from R (at + 1))) t f λ ts x y w o z.
        let c = locals_count L v n (at + 1 + 1) (rows_from R (at + 1)) (rows_from R first) ts x in
        let g : first ≡ at + 1 + v = omega (arith, y, c) in
        let j : length (next_rows (at + 1) v) ≡ v = next_rows_long (at + 1) v in
        told_as (rest-stop ts x y)
        (told_close (next_rows (at + 1) v) (λ es. make ts es)
        (several (λ at rs. node (most_of L) d (n + v) at rs) k (first + 1) (rows_from R first))
        (omega (arith, g, j)) (rw c at z)
        (λ es rs b. rw j (m.lines ts es c (several_count _ k (first + 1) (rows_from R first) rs es b)))
        (λ es rs b. rw (j, g) (m.ends ts es at c
        (several_count _ k (first + 1) (rows_from R first) rs es b)))
        u e)

-- ---- the letter of a node

no_node : (L : Limits) (l : Letter) (a b : ℕ) → parts_of l a b ≡ None
    → (is_node l ≡ false)
    × ((N : ℕ → ℕ → List Row → Checked (Read Expr)) (n line : ℕ) (rs : List Row)
    → node_of (most_of L) N l a b n line rs ≡ refuse 3 line)
unfolding node_of
no_node L C_class a b e = (refl, λ N n line rs. refl)
no_node L F_field a b e = (refl, λ N n line rs. refl)
no_node L M_method a b e = (refl, λ N n line rs. refl)
no_node L P_parameter a b e = (refl, λ N n line rs. refl)
no_node L X_effect a b e = (refl, λ N n line rs. refl)
no_node L S_start a b e = (refl, λ N n line rs. refl)
no_node L B_block a b e = absurd (no_shape (sym e))
no_node L V_local a b e = (refl, λ N n line rs. refl)
no_node L T_true a b e = absurd (no_shape (sym e))
no_node L L_false a b e = absurd (no_shape (sym e))
no_node L N_null a b e = absurd (no_shape (sym e))
no_node L I_slot a b e = absurd (no_shape (sym e))
no_node L Z_is_null a b e = absurd (no_shape (sym e))
no_node L G_get a b e = absurd (no_shape (sym e))
no_node L K_cast a b e = absurd (no_shape (sym e))
no_node L W_new a b e = absurd (no_shape (sym e))
no_node L R_change a b e = absurd (no_shape (sym e))
no_node L A_assign a b e = absurd (no_shape (sym e))
no_node L U_set a b e = absurd (no_shape (sym e))
no_node L Q_call a b e = absurd (no_shape (sym e))
no_node L J_choose a b e = absurd (no_shape (sym e))

a_node : (l : Letter) (a b : ℕ) {v k : ℕ} → parts_of l a b ≡ some_parts v k → is_node l ≡ true
a_node l a b e = go (rows.shape l).nodes e
  where
    go : (x : Children) {v k : ℕ} → parts x a b ≡ some_parts v k → has_node x ≡ true
    go rows.no_node e = absurd (no_shape e)
    go (children n) e = refl
    go arguments e = refl
    go locals_and_nodes e = refl

-- only a block has locals
no_locals : (l : Letter) (a b v k : ℕ) → parts_of l a b ≡ some_parts v k → (code l ≡ 66 → ⊥) → v ≡ 0
no_locals C_class a b v k e z = absurd (no_shape e)
no_locals F_field a b v k e z = absurd (no_shape e)
no_locals M_method a b v k e z = absurd (no_shape e)
no_locals P_parameter a b v k e z = absurd (no_shape e)
no_locals X_effect a b v k e z = absurd (no_shape e)
no_locals S_start a b v k e z = absurd (no_shape e)
no_locals B_block a b v k e z = absurd (z refl)
no_locals V_local a b v k e z = absurd (no_shape e)
no_locals T_true a b v k e z = sym (parts_injective e).0
no_locals L_false a b v k e z = sym (parts_injective e).0
no_locals N_null a b v k e z = sym (parts_injective e).0
no_locals I_slot a b v k e z = sym (parts_injective e).0
no_locals Z_is_null a b v k e z = sym (parts_injective e).0
no_locals G_get a b v k e z = sym (parts_injective e).0
no_locals K_cast a b v k e z = sym (parts_injective e).0
no_locals W_new a b v k e z = sym (parts_injective e).0
no_locals R_change a b v k e z = sym (parts_injective e).0
no_locals A_assign a b v k e z = sym (parts_injective e).0
no_locals U_set a b v k e z = sym (parts_injective e).0
no_locals Q_call a b v k e z = sym (parts_injective e).0
no_locals J_choose a b v k e z = sym (parts_injective e).0

read_none : (L : Limits) (d n v k line : ℕ) (rs : List Row) (make : List DeclaredType → Exprs → Expr) → v ≡ 0
    → k ≡ 0 → parts_read L d n v k make line rs ≡ done (make [] nil) rs
unfolding parts_read locals several after
read_none L d n v k line rs make p q = rw (p, q)

makes_none : (v k : ℕ) (make : List DeclaredType → Exprs → Expr) → v ≡ 0 → k ≡ 0 → Makes v k make
    → Makes 0 0 make
makes_none v k make p q m = rw (p, q) at m

abbrev first_at : List ℕ → ℕ → ℕ
first_at R at = get_or R (at * 4 + 1) 0

abbrev second_at : List ℕ → ℕ → ℕ
second_at R at = get_or R (at * 4 + 2) 0

module _ (L : Limits) (R : List ℕ) (at n : ℕ) where
  pub node_refused : (d : ℕ) {r : Refusal} → row_checked L (at + 1) (rows_from R at) ≡ Err r
      → node (most_of L) d n (at + 1) (rows_from R at) ≡ refuse r.number r.line
  unfolding node
  node_refused zero e = next_refused L R at _ e
  node_refused (suc d) e = next_refused L R at _ e

  pub body_refused : {r : Refusal} → row_checked L (at + 1) (rows_from R at) ≡ Err r
      → body (most_of L) n (at + 1) (rows_from R at) ≡ refuse r.number r.line
  unfolding body
  body_refused e = next_refused L R at _ e

  module _ (x : Here L R at) where
    pub body_other : (get_or R (at * 4) 0 ≡ 66 → ⊥)
        → body (most_of L) n (at + 1) (rows_from R at) ≡ refuse 3 (at + 1)
    unfolding body require
    body_other z = next_here x _ ∙ rw (ne_eqb 66 (code x.letter) (λ e. z (sym x.code_is ∙ sym e)))

    pub body_here : get_or R (at * 4) 0 ≡ 66
        → body (most_of L) n (at + 1) (rows_from R at)
        ≡ node (most_of L) L.nesting n (at + 1) (rows_from R at)
    unfolding body require
    body_here z = next_here x _ ∙ rw (eq-eqb 66 (code x.letter) (sym z ∙ sym x.code_is))

    parts-here : (w : Option Parts) → w ≡ parts_at (get_or R (at * 4) 0) (first_at R at) (second_at R at)
        → parts_of x.letter (first_at R at) (second_at R at) ≡ w
    unfolding parts_at
    parts-here w e = sym (rw x.found at e)

    pub node_other : (d : ℕ) → None ≡ parts_at (get_or R (at * 4) 0) (first_at R at) (second_at R at)
        → node (most_of L) d n (at + 1) (rows_from R at) ≡ refuse 3 (at + 1)
    unfolding node require
    node_other zero e = next_here x _
        ∙ rw (no_node L x.letter (first_at R at) (second_at R at) (parts-here None e)).0
    node_other (suc d) e = next_here x _
        ∙ (no_node L x.letter (first_at R at) (second_at R at) (parts-here None e)).1 _ n (at + 1)
        (rows_from R (at + 1))

    module _ {v k : ℕ} (e : some_parts v k ≡ parts_at (get_or R (at * 4) 0) (first_at R at) (second_at R at)) where
      pub node_over : (d : ℕ) → d ≡ 0 → node (most_of L) d n (at + 1) (rows_from R at) ≡ refuse 2 (at + 1)
      unfolding node require
      node_over d z = rw z (next_here x _ ∙ rw (a_node x.letter (first_at R at) (second_at R at)
          (parts-here (some_parts v k) e)))

      node-here : (d : ℕ) → (d ≡ 0 → ⊥) → node (most_of L) d n (at + 1) (rows_from R at)
          ≡ node_of (most_of L) (λ n at rs. node (most_of L) (d - 1) n at rs) x.letter (first_at R at)
          (second_at R at) n (at + 1) (rows_from R (at + 1))
      unfolding node
      node-here d z = let s : d ≡ suc (d - 1) = omega arith in
          ap (λ (j : ℕ). node (most_of L) j n (at + 1) (rows_from R at)) s ∙ next_here x _

      -- a block has as many children as it says
      block-children : get_or R (at * 4) 0 ≡ 66 → second_at R at ≡ k
      block-children c =
          let q = code_injective x.letter B_block (x.code_is ∙ c) in
          let h : some_parts (first_at R at) (second_at R at) ≡ some_parts v k = rw q at (parts-here (some_parts v k) e) in
          (parts_injective h).1

      pub node_empty : (d : ℕ) → (d ≡ 0 → ⊥) → k ≡ 0 → get_or R (at * 4) 0 ≡ 66
          → node (most_of L) d n (at + 1) (rows_from R at) ≡ refuse 3 (at + 1)
      unfolding node_of require
      node_empty d z b c = node-here d z
          ∙ rw (
            code_injective x.letter B_block (x.code_is ∙ c),
            eq-eqb (second_at R at) 0 (block-children c ∙ b),
          )

      shape : (d : ℕ) → (get_or R (at * 4) 0 ≡ 66 → k ≡ 0 → ⊥)
          → Shaped L d x.letter (first_at R at) (second_at R at) n (at + 1) v k (rows_from R (at + 1))
      shape d c = shaped L d x.letter (first_at R at) (second_at R at) n (at + 1) v k
          (rows_from R (at + 1)) (parts-here (some_parts v k) e)
          (λ w y. c (sym x.code_is ∙ w) (sym (block-children (sym x.code_is ∙ w)) ∙ y))

      pub node_leaf : (d : ℕ) {E : List ℕ} → There L R at → (d ≡ 0 → ⊥) → k ≡ 0 → (get_or R (at * 4) 0 ≡ 66 → ⊥)
          → ToldNode L R E at (node (most_of L) d n (at + 1) (rows_from R at)) (Ok (at + 1))
          (lib.ListN.set E at (at + 1))
      unfolding count sizes ends_list next_rows
      node_leaf d t z b c =
          let h = shape (d - 1) (λ w y. c w) in
          let o : v ≡ 0 = no_locals x.letter (first_at R at) (second_at R at) v k (parts-here (some_parts v k) e)
          (λ w. c (sym x.code_is ∙ w)) in
          let m = makes_none v k h.make o b h.makes in
          told_as (node-here d z ∙ h.same
          ∙ read_none L (d - 1) n v k (at + 1) (rows_from R (at + 1)) h.make o b)
          (told_one (h.make [] nil) (m.lines [] nil refl refl) (m.ends [] nil at refl refl)
          (omega (arith, t.0)) (omega (arith, t.1)))

      pub node_parts : (d : ℕ) {E E' : List ℕ} {s : Step} → (d ≡ 0 → ⊥) → (k ≡ 0 → ⊥)
          → ((make : List DeclaredType → Exprs → Expr) → Makes v k make
          → ToldNode L R E at (parts_read L (d - 1) n v k make (at + 1) (rows_from R (at + 1))) s E')
          → ToldNode L R E at (node (most_of L) d n (at + 1) (rows_from R at)) s E'
      node_parts d z c f =
          let h = shape (d - 1) (λ w y. c y) in
          told_as (node-here d z ∙ h.same) (f h.make h.makes)
