-- Each letter's node is read as its V lines and its children. Assumes nothing.
use mathlib.Core.List.{append-nil, List, [], ◌∷◌, ◌++◌}
use mathlib.Core.Path.{◌≡◌, refl, sym, ap}
use Prim.Native.Nat.{ℕ, suc, ◌+◌}
use native.Mathlib.Omega.{arith}
use borrow.Author.Tests.{ne_eqb}
use Rattle.language.specs.Results.{Checked, accept, refuse, require}
use Rattle.language.specs.Rows.{Letter, code, Row, C_class, F_field, M_method, P_parameter, X_effect, S_start}
use Rattle.language.specs.Rows.{B_block, V_local, T_true, L_false, N_null, I_slot, Z_is_null, G_get, K_cast}
use Rattle.language.specs.Rows.{W_new, R_change, A_assign, U_set, Q_call, J_choose}
use Rattle.language.specs.Tree.{DeclaredType, Expr, literal, literal_true, literal_false, literal_null, slot}
use Rattle.language.specs.Tree.{is_null}
use Rattle.language.specs.Tree.{get, cast, new, change, assign, set, call, choose, block, Exprs, nil, cons}
use Rattle.language.specs.Tree.{count, size, sizes}
use Rattle.language.specs.Form.{Read, done, after, several, locals, node_of, node}
use Rattle.language.specs.Tables.{next_rows, ends_of, ends_list}
use Rattle.parsing.specs.declared.limits.Limits.{Limits}
use Rattle.parsing.specs.Columns.{most_of}
use Rattle.parsing.specs.Places.{some_parts, parts_of}
use Rattle.parsing.specs.Passes.{Makes, parts_read}
use Rattle.parsing.specs.declared.nodes.Parts.{Parts}
use Rattle.std.specs.Prelude.{None}

abbrev first_of : Exprs → Expr
first_of nil = literal literal_null
first_of (cons e es) = e

abbrev rest_of : Exprs → Exprs
rest_of nil = nil
rest_of (cons e es) = es

pub after_after : {A B C : Type 0} (x : Checked (Read A)) (f : A → List Row → Checked (Read B))
    (g : B → List Row → Checked C)
    → after (after x f) g ≡ after x (λ a rs. after (f a rs) g)
unfolding after
after_after (accept r) f g = refl
after_after (refuse n l) f g = refl

-- ---- what letters make of their children

makes_none : (e : Expr) → size e ≡ 1 → ((at : ℕ) → ends_of at e ≡ (at + 1) ∷ []) → Makes 0 0 (λ ts es. e)
unfolding count sizes ends_list next_rows
makes_none e s f = record { lines = λ ts es p q. lines es q; ends = λ ts es at p q. ends es at q }
  where
    lines : (es : Exprs) → count es ≡ 0 → size e ≡ 1 + 0 + sizes es
    lines nil q = s
    lines (cons x es) q = absurd (omega (arith, q))

    ends : (es : Exprs) (at : ℕ) → count es ≡ 0
        → ends_of at e ≡ (at + (1 + 0 + sizes es)) ∷ (next_rows (at + 1) 0 ++ ends_list (at + 1 + 0) es)
    ends nil at q = f at
    ends (cons x es) at q = absurd (omega (arith, q))

makes_one : (f : Expr → Expr) → ((e : Expr) → size (f e) ≡ 1 + size e)
    → ((at : ℕ) (e : Expr) → ends_of at (f e) ≡ (at + (1 + size e)) ∷ ends_of (at + 1) e)
    → Makes 0 1 (λ ts es. f (first_of es))
unfolding count sizes ends_list next_rows
makes_one f s g = record { lines = λ ts es p q. lines es q; ends = λ ts es at p q. ends es at q }
  where
    lines : (es : Exprs) → count es ≡ 1 → size (f (first_of es)) ≡ 1 + 0 + sizes es
    lines nil q = absurd (omega (arith, q))
    lines (cons e nil) q = omega (arith, s e)
    lines (cons e (cons x es)) q = absurd (omega (arith, q))

    ends : (es : Exprs) (at : ℕ) → count es ≡ 1
        → ends_of at (f (first_of es)) ≡ (at + (1 + 0 + sizes es))
        ∷ (next_rows (at + 1) 0 ++ ends_list (at + 1 + 0) es)
    ends nil at q = absurd (omega (arith, q))
    ends (cons e nil) at q =
        let h : at + (1 + 0 + (size e + 0)) ≡ at + (1 + size e) = omega arith in
        let k : at + 1 + 0 ≡ at + 1 = omega arith in
        rw (h, k, append-nil (ends_of (at + 1) e)) (g at e)
    ends (cons e (cons x es)) at q = absurd (omega (arith, q))

makes_set : (f : ℕ) → Makes 0 2 (λ ts es. set f (first_of es) (first_of (rest_of es)))
unfolding count size ends_of next_rows
makes_set f = record { lines = λ ts es p q. lines es q; ends = λ ts es at p q. ends es at q }
  where
    lines : (es : Exprs) → count es ≡ 2
        → size (set f (first_of es) (first_of (rest_of es))) ≡ 1 + 0 + sizes es
    lines nil q = absurd (omega (arith, q))
    lines (cons e nil) q = absurd (omega (arith, q))
    lines (cons e (cons x nil)) q = omega arith
    lines (cons e (cons x (cons y es))) q = absurd (omega (arith, q))

    ends : (es : Exprs) (at : ℕ) → count es ≡ 2
        → ends_of at (set f (first_of es) (first_of (rest_of es))) ≡ (at + (1 + 0 + sizes es))
        ∷ (next_rows (at + 1) 0 ++ ends_list (at + 1 + 0) es)
    ends nil at q = absurd (omega (arith, q))
    ends (cons e nil) at q = absurd (omega (arith, q))
    ends (cons e (cons x nil)) at q =
        let h : at + (1 + 0 + (size e + (size x + 0))) ≡ at + (1 + size e + size x) = omega arith in
        let k : at + 1 + 0 ≡ at + 1 = omega arith in
        rw (h, k, append-nil (ends_of (at + 1 + size e) x))
    ends (cons e (cons x (cons y es))) at q = absurd (omega (arith, q))

makes_choose : Makes 0 3
    (λ ts es. choose (first_of es) (first_of (rest_of es)) (first_of (rest_of (rest_of es))))
unfolding count size ends_of next_rows
makes_choose = record { lines = λ ts es p q. lines es q; ends = λ ts es at p q. ends es at q }
  where
    lines : (es : Exprs) → count es ≡ 3
        → size (choose (first_of es) (first_of (rest_of es)) (first_of (rest_of (rest_of es))))
        ≡ 1 + 0 + sizes es
    lines nil q = absurd (omega (arith, q))
    lines (cons e nil) q = absurd (omega (arith, q))
    lines (cons e (cons x nil)) q = absurd (omega (arith, q))
    lines (cons e (cons x (cons y nil))) q = omega arith
    lines (cons e (cons x (cons y (cons z es)))) q = absurd (omega (arith, q))

    ends : (es : Exprs) (at : ℕ) → count es ≡ 3
        → ends_of at (choose (first_of es) (first_of (rest_of es)) (first_of (rest_of (rest_of es))))
        ≡ (at + (1 + 0 + sizes es)) ∷ (next_rows (at + 1) 0 ++ ends_list (at + 1 + 0) es)
    ends nil at q = absurd (omega (arith, q))
    ends (cons e nil) at q = absurd (omega (arith, q))
    ends (cons e (cons x nil)) at q = absurd (omega (arith, q))
    ends (cons e (cons x (cons y nil))) at q =
        let h : at + (1 + 0 + (size e + (size x + (size y + 0)))) ≡ at + (1 + size e + size x + size y) =
        omega arith in
        let k : at + 1 + 0 ≡ at + 1 = omega arith in
        rw (h, k, append-nil (ends_of (at + 1 + size e + size x) y))
    ends (cons e (cons x (cons y (cons z es)))) at q = absurd (omega (arith, q))

makes_call : (m b : ℕ) → Makes 0 (b + 1) (λ ts es. call m (first_of es) (rest_of es))
unfolding count size ends_of next_rows
makes_call m b = record { lines = λ ts es p q. lines es q; ends = λ ts es at p q. ends es at q }
  where
    lines : (es : Exprs) → count es ≡ b + 1 → size (call m (first_of es) (rest_of es)) ≡ 1 + 0 + sizes es
    lines nil q = absurd (omega (arith, q))
    lines (cons e es) q = omega arith

    ends : (es : Exprs) (at : ℕ) → count es ≡ b + 1
        → ends_of at (call m (first_of es) (rest_of es)) ≡ (at + (1 + 0 + sizes es))
        ∷ (next_rows (at + 1) 0 ++ ends_list (at + 1 + 0) es)
    ends nil at q = absurd (omega (arith, q))
    ends (cons e es) at q =
        let h : at + (1 + 0 + (size e + sizes es)) ≡ at + (1 + size e + sizes es) = omega arith in
        let k : at + 1 + 0 ≡ at + 1 = omega arith in
        rw (h, k)

makes_block : (v k : ℕ) → Makes v k (λ ts es. block ts es)
unfolding size ends_of
makes_block v k = record { lines = λ ts es p q. rw p; ends = λ ts es at p q. rw p }

-- ---- the shape of a node

pub record Shaped (L : Limits) (d : ℕ) (l : Letter) (a b n line v k : ℕ) (rs : List Row) : Type 0 where
  pub make : List DeclaredType → Exprs → Expr
  pub makes : Makes v k make
  pub same : node_of (most_of L) (λ n at rs. node (most_of L) d n at rs) l a b n line rs
      ≡ parts_read L d n v k make line rs

pub parts_injective : {v k v' k' : ℕ} → some_parts v k ≡ some_parts v' k' → (v ≡ v') × (k ≡ k')
parts_injective {v} {k} {v'} {k'} e =
    let w : ◌≡◌ {A = Parts} (record { locals = v; children = k }) (record { locals = v'; children = k' }) = cc in
    (ap (λ (x : Parts). x.locals) w, ap (λ (x : Parts). x.children) w)

turned : {L : Limits} {d : ℕ} {l : Letter} {a b n line v k v' k' : ℕ} {rs : List Row}
    → some_parts v' k' ≡ some_parts v k → Shaped L d l a b n line v' k' rs → Shaped L d l a b n line v k rs
turned {L} {d} {l} {a} {b} {n} {line} {v} {k} {v'} {k'} {rs} e s =
    let p = parts_injective (sym e) in
    rw (p.0, p.1) s

pub no_shape : {v k : ℕ} → None ≡ some_parts v k → ⊥
no_shape e = cc

module _ (L : Limits) (d : ℕ) (n line : ℕ) (rs : List Row) where
  leaf : (e : Expr) → done e rs ≡ parts_read L d n 0 0 (λ ts es. e) line rs
  unfolding parts_read locals several after
  leaf e = refl

  one_child : (f : Expr → Expr)
      → after (node (most_of L) d n (line + 1) rs) (λ e rs. done (f e) rs)
      ≡ parts_read L d n 0 1 (λ ts es. f (first_of es)) line rs
  unfolding parts_read locals several after
  one_child f =
      let h : n + 0 ≡ n = omega arith in
      let k : line + 1 + 0 ≡ line + 1 = omega arith in
      rw (h, k) (go (node (most_of L) d n (line + 1) rs))
    where
      go : (x : Checked (Read Expr))
          → after x (λ e rs. done (f e) rs)
          ≡ after (after x (λ e rs. done (cons e nil) rs)) (λ es rs. done (f (first_of es)) rs)
      go (accept r) = refl
      go (refuse m j) = refl

  two_children : (f : ℕ)
      → after (node (most_of L) d n (line + 1) rs)
      (λ e rs. after (node (most_of L) d n (line + 1 + size e) rs) λ x rs. done (set f e x) rs)
      ≡ parts_read L d n 0 2 (λ ts es. set f (first_of es) (first_of (rest_of es))) line rs
  unfolding parts_read locals several after
  two_children f =
      let h : n + 0 ≡ n = omega arith in
      let k : line + 1 + 0 ≡ line + 1 = omega arith in
      rw (h, k) (simp after_after)

  three_children : after (node (most_of L) d n (line + 1) rs)
      (λ e rs. after (node (most_of L) d n (line + 1 + size e) rs) λ x rs.
      after (node (most_of L) d n (line + 1 + size e + size x) rs) λ y rs. done (choose e x y) rs)
      ≡ parts_read L d n 0 3
      (λ ts es. choose (first_of es) (first_of (rest_of es)) (first_of (rest_of (rest_of es)))) line rs
  unfolding parts_read locals several after
  three_children =
      let h : n + 0 ≡ n = omega arith in
      let k : line + 1 + 0 ≡ line + 1 = omega arith in
      rw (h, k) (simp after_after)

  more_children : (m b : ℕ)
      → after (node (most_of L) d n (line + 1) rs)
      (λ e rs. after (several (λ at rs. node (most_of L) d n at rs) b (line + 1 + size e) rs) λ es rs.
      done (call m e es) rs)
      ≡ parts_read L d n 0 (b + 1) (λ ts es. call m (first_of es) (rest_of es)) line rs
  unfolding parts_read locals several after
  more_children m b =
      let h : n + 0 ≡ n = omega arith in
      let k : line + 1 + 0 ≡ line + 1 = omega arith in
      let j : b + 1 ≡ suc b = omega arith in
      rw (h, k, j) (simp after_after)

pub shaped : (L : Limits) (d : ℕ) (l : Letter) (a b n line v k : ℕ) (rs : List Row) → parts_of l a b ≡ some_parts v k
    → (code l ≡ 66 → b ≡ 0 → ⊥) → Shaped L d l a b n line v k rs
unfolding node_of size ends_of require parts_read
shaped L d C_class a b n line v k rs e z = absurd (no_shape e)
shaped L d F_field a b n line v k rs e z = absurd (no_shape e)
shaped L d M_method a b n line v k rs e z = absurd (no_shape e)
shaped L d P_parameter a b n line v k rs e z = absurd (no_shape e)
shaped L d X_effect a b n line v k rs e z = absurd (no_shape e)
shaped L d S_start a b n line v k rs e z = absurd (no_shape e)
shaped L d V_local a b n line v k rs e z = absurd (no_shape e)
shaped L d T_true a b n line v k rs e z =
    turned e (record {
      make = λ ts es. literal literal_true;
      makes = makes_none (literal literal_true) refl (λ at. refl);
      same = leaf L d n line rs (literal literal_true);
    })
shaped L d L_false a b n line v k rs e z =
    turned e (record {
      make = λ ts es. literal literal_false;
      makes = makes_none (literal literal_false) refl (λ at. refl);
      same = leaf L d n line rs (literal literal_false);
    })
shaped L d N_null a b n line v k rs e z =
    turned e (record {
      make = λ ts es. literal literal_null;
      makes = makes_none (literal literal_null) refl (λ at. refl);
      same = leaf L d n line rs (literal literal_null);
    })
shaped L d I_slot a b n line v k rs e z =
    turned e (record {
      make = λ ts es. slot a;
      makes = makes_none (slot a) refl (λ at. refl);
      same = leaf L d n line rs (slot a);
    })
shaped L d W_new a b n line v k rs e z =
    turned e (record {
      make = λ ts es. new a;
      makes = makes_none (new a) refl (λ at. refl);
      same = leaf L d n line rs (new a);
    })
shaped L d R_change a b n line v k rs e z =
    turned e (record {
      make = λ ts es. change a b;
      makes = makes_none (change a b) refl (λ at. refl);
      same = leaf L d n line rs (change a b);
    })
shaped L d Z_is_null a b n line v k rs e z =
    turned e (record {
      make = λ ts es. is_null (first_of es);
      makes = makes_one (λ e. is_null e) (λ e. refl) (λ at e. refl);
      same = one_child L d n line rs (λ e. is_null e);
    })
shaped L d G_get a b n line v k rs e z =
    turned e (record {
      make = λ ts es. get a (first_of es);
      makes = makes_one (λ e. get a e) (λ e. refl) (λ at e. refl);
      same = one_child L d n line rs (λ e. get a e);
    })
shaped L d K_cast a b n line v k rs e z =
    turned e (record {
      make = λ ts es. cast a (first_of es);
      makes = makes_one (λ e. cast a e) (λ e. refl) (λ at e. refl);
      same = one_child L d n line rs (λ e. cast a e);
    })
shaped L d A_assign a b n line v k rs e z =
    turned e (record {
      make = λ ts es. assign a (first_of es);
      makes = makes_one (λ e. assign a e) (λ e. refl) (λ at e. refl);
      same = one_child L d n line rs (λ e. assign a e);
    })
shaped L d U_set a b n line v k rs e z =
    turned e (record {
      make = λ ts es. set a (first_of es) (first_of (rest_of es));
      makes = makes_set a;
      same = two_children L d n line rs a;
    })
shaped L d J_choose a b n line v k rs e z =
    turned e (record {
      make = λ ts es.
          choose (first_of es) (first_of (rest_of es)) (first_of (rest_of (rest_of es)));
      makes = makes_choose;
      same = three_children L d n line rs;
    })
shaped L d Q_call a b n line v k rs e z =
    turned e (record {
      make = λ ts es. call a (first_of es) (rest_of es);
      makes = makes_call a b;
      same = more_children L d n line rs a b;
    })
shaped L d B_block a b n line v k rs e z =
    turned e (record { make = λ ts es. block ts es; makes = makes_block a b; same = blocks })
  where
    blocks : node_of (most_of L) (λ n at rs. node (most_of L) d n at rs) B_block a b n line rs
        ≡ parts_read L d n a b (λ ts es. block ts es) line rs
    blocks = rw (ne_eqb b 0 (λ w. z refl w))
