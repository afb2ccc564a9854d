-- Reading what was written gives the tree back.
use mathlib.Core.Path.{◌≡◌, refl, ◌∙◌}
use Prim.Native.Nat.{ℕ, suc, ◌+◌, ◌≤◌}
use mathlib.Core.List.{List, ◌∷◌, ◌++◌, map, append_assoc, map-append, map-map}
use lib.ListN.{length}
use native.Mathlib.Omega.{arith}
use borrow.Author.Tests.{ne_eqb, le-leb, lt-ltb}
use Rattle.language.specs.Limits.{Most, largest}
use Rattle.language.specs.Results.{Checked, accept, bind_checked, need_checked, require}
use Rattle.language.specs.Rows.{Letter, B_block, V_local, T_true, L_false, N_null, I_slot, Z_is_null, G_get}
use Rattle.language.specs.Rows.{K_cast, W_new, R_change, A_assign, U_set, Q_call, J_choose, Record, written}
use Rattle.language.specs.Rows.{name_of, Row, row_of, most_at, record_of}
use Rattle.language.specs.Tree.{DeclaredType, type_number, Expr, literal, literal_true, literal_false}
use Rattle.language.specs.Tree.{literal_null}
use Rattle.language.specs.Tree.{slot, is_null, get, cast, new, change, assign, set, call, choose, block}
use Rattle.language.specs.Tree.{Exprs, nil, cons, count, size, sizes, flatten, flattens}
use Rattle.language.specs.Form.{done, after, record_on, next, locals, several, node_of, node}
use Rattle.language.specs.WellFormed.{TypeInForm, Each, each_nil, each_cons, NodeInForm, NodesInForm}
use Rattle.language.specs.WellFormed.{form_literal, form_slot, form_is_null, form_get}
use Rattle.language.specs.WellFormed.{form_cast, form_new, form_change, form_assign, form_set, form_call}
use Rattle.language.specs.WellFormed.{form_choose, form_block, form_nil, form_cons}
use Rattle.language.proofs.Letters.{code_among}
use Rattle.language.proofs.Tables.{size_positive}

module _ (most : Most) (named : most.name ≤ largest) (slotted : most.slots ≤ largest) where
  pub on_line : (l : Letter) (a b at : ℕ) → a ≤ most_at 1 l → b ≤ most_at 2 l → at ≤ most.rows
      → name_of l a b ≤ most.name
      → record_on most at (row_of (written l a b)) ≡ accept (written l a b)
  unfolding record_on record_of need_checked require
  on_line l a b at p q r s =
      rw (
        code_among l,
        le-leb a (most_at 1 l) p,
        le-leb b (most_at 2 l) q,
        le-leb 0 (most_at 3 l) (third l),
        le-leb at most.rows r,
        le-leb (name_of l a b) most.name s,
      )
    where
      third : (l : Letter) → 0 ≤ most_at 3 l
      third l = omega arith

  -- a record that stands here is taken
  pub taken : {B : Type 0} (l : Letter) (a b at : ℕ) (rs : List Row) (k : Record → List Row → Checked B)
      → a ≤ most_at 1 l → b ≤ most_at 2 l → at ≤ most.rows → name_of l a b ≤ most.name
      → next most at (row_of (written l a b) ∷ rs) k ≡ k (written l a b) rs
  unfolding next bind_checked
  taken l a b at rs k p q r s = rw (on_line l a b at p q r s)

  abbrev local : DeclaredType → Row
  local t = row_of (written V_local (type_number t) 0)

  locals_flat : {ts : List DeclaredType} → Each TypeInForm ts → (n at : ℕ) (rs : List Row)
      → at + length ts ≤ suc most.rows → n + length ts ≤ most.slots
      → locals most (length ts) n at (map local ts ++ rs) ≡ done ts rs
  unfolding locals after require
  locals_flat each_nil n at rs p q = refl
  locals_flat {ts = t ∷ ts} (each_cons i is) n at rs p q =
      taken V_local (type_number t) 0 at (map local ts ++ rs) _ i.small (omega arith) (omega arith)
      (omega arith)
      ∙ rw (
        lt-ltb n most.slots (omega arith),
        locals_flat is (suc n) (at + 1) rs (omega arith) (omega arith),
        i.back,
      )

  mutual
    unfolding node node_of after several flatten size count require

    pub node_flat : (e : Expr) {d n : ℕ} → NodeInForm most d n e → (at : ℕ) (rs : List Row)
        → at + size e ≤ suc most.rows
        → node most d n at (map row_of (flatten e) ++ rs) ≡ done e rs
    node_flat (literal literal_true) form_literal at rs l =
        taken T_true 0 0 at rs _ (omega arith) (omega arith) (omega arith) (omega arith)
    node_flat (literal literal_false) form_literal at rs l =
        taken L_false 0 0 at rs _ (omega arith) (omega arith) (omega arith) (omega arith)
    node_flat (literal literal_null) form_literal at rs l =
        taken N_null 0 0 at rs _ (omega arith) (omega arith) (omega arith) (omega arith)
    node_flat (slot k) (form_slot p) at rs l =
        taken I_slot k 0 at rs _ p (omega arith) (omega arith) (omega arith)
    node_flat (is_null e) (form_is_null f) at rs l =
        taken Z_is_null 0 0 at (map row_of (flatten e) ++ rs) _ (omega arith) (omega arith)
        (omega (arith, size_positive e)) (omega arith)
        ∙ rw (node_flat e f (at + 1) rs (omega arith))
    node_flat (get g e) (form_get p f) at rs l =
        taken G_get g 0 at (map row_of (flatten e) ++ rs) _ (omega arith) (omega arith)
        (omega (arith, size_positive e)) p
        ∙ rw (node_flat e f (at + 1) rs (omega arith))
    node_flat (cast c e) (form_cast p f) at rs l =
        taken K_cast c 0 at (map row_of (flatten e) ++ rs) _ p (omega arith) (omega (arith, size_positive e))
        (omega arith)
        ∙ rw (node_flat e f (at + 1) rs (omega arith))
    node_flat (new c) (form_new p) at rs l =
        taken W_new c 0 at rs _ p (omega arith) (omega arith) (omega arith)
    node_flat (change k c) (form_change p q) at rs l =
        taken R_change k c at rs _ p q (omega arith) (omega arith)
    node_flat (assign k e) (form_assign p f) at rs l =
        taken A_assign k 0 at (map row_of (flatten e) ++ rs) _ p (omega arith)
        (omega (arith, size_positive e))
        (omega arith)
        ∙ rw (node_flat e f (at + 1) rs (omega arith))
    node_flat (set g e e') (form_set p f f') at rs l =
        taken U_set g 0 at (map row_of (flatten e ++ flatten e') ++ rs) _ (omega arith) (omega arith)
        (omega (arith, size_positive e)) p
        ∙ rw (
          map-append row_of (flatten e) (flatten e'),
          append_assoc (map row_of (flatten e)) (map row_of (flatten e')) rs,
          node_flat e f (at + 1) (map row_of (flatten e') ++ rs) (omega arith),
          node_flat e' f' (at + 1 + size e) rs (omega arith),
        )
    node_flat (call m e es) (form_call p q f fs) at rs l =
        taken Q_call m (count es) at (map row_of (flatten e ++ flattens es) ++ rs) _ (omega arith) q
        (omega (arith, size_positive e)) p
        ∙ rw (
          map-append row_of (flatten e) (flattens es),
          append_assoc (map row_of (flatten e)) (map row_of (flattens es)) rs,
          node_flat e f (at + 1) (map row_of (flattens es) ++ rs) (omega arith),
          nodes_flat es fs (at + 1 + size e) rs (omega arith),
        )
    node_flat (choose a b c) (form_choose fa fb fc) at rs l =
        taken J_choose 0 0 at (map row_of (flatten a ++ (flatten b ++ flatten c)) ++ rs) _ (omega arith)
        (omega arith) (omega (arith, size_positive a)) (omega arith)
        ∙ rw (
          map-append row_of (flatten a) (flatten b ++ flatten c),
          map-append row_of (flatten b) (flatten c),
          append_assoc (map row_of (flatten a)) (map row_of (flatten b) ++ map row_of (flatten c)) rs,
          append_assoc (map row_of (flatten b)) (map row_of (flatten c)) rs,
          node_flat a fa (at + 1) (map row_of (flatten b) ++ (map row_of (flatten c) ++ rs)) (omega arith),
          node_flat b fb (at + 1 + size a) (map row_of (flatten c) ++ rs) (omega arith),
          node_flat c fc (at + 1 + size a + size b) rs (omega arith),
        )
    node_flat (block ts es) {n} (form_block p q r t fs) at rs l =
        taken B_block (length ts)
        (count es) at (map row_of (map (λ t. written V_local (type_number t) 0) ts ++ flattens es) ++ rs)
        _ (omega (arith, small)) r (omega arith) (omega arith)
        ∙ rw (
          ne_eqb (count es) 0 (omega arith),
          map-append row_of (map (λ t. written V_local (type_number t) 0) ts) (flattens es),
          map-map row_of (λ t. written V_local (type_number t) 0) ts,
          append_assoc (map local ts) (map row_of (flattens es)) rs,
          locals_flat t n (at + 1) (map row_of (flattens es) ++ rs) (omega arith) p,
          nodes_flat es fs (at + 1 + length ts) rs (omega arith),
        )
      where
        small : length ts ≤ largest
        small = omega (arith, p, slotted)

    pub nodes_flat : (es : Exprs) {d n : ℕ} → NodesInForm most d n es → (at : ℕ) (rs : List Row)
        → at + sizes es ≤ suc most.rows
        → several (λ at rs. node most d n at rs) (count es) at (map row_of (flattens es) ++ rs) ≡ done es rs
    nodes_flat nil form_nil at rs l = refl
    nodes_flat (cons e es) (form_cons f fs) at rs l =
        rw (
          map-append row_of (flatten e) (flattens es),
          append_assoc (map row_of (flatten e)) (map row_of (flattens es)) rs,
          node_flat e f at (map row_of (flattens es) ++ rs) (omega arith),
          nodes_flat es fs (at + size e) rs (omega arith),
        )
