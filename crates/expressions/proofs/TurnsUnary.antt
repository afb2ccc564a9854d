-- The functions expression, of a node without child, and unary. Assumes nothing.
use mathlib.Core.Path.{◌≡◌, refl, sym, ap, subst, ◌∙◌}
use mathlib.Core.Logic.{inl, inr, ⊎_elim}
use mathlib.Core.List.{List}
use Prim.Native.Nat.{ℕ, ◌+◌, ◌*◌, ◌≤◌}
use native.Mathlib.Omega.{arith}
use lib.ListN.{length, get_or}
use Rattle.language.specs.Rows.{T_true, L_false, N_null, I_slot, Z_is_null, G_get, K_cast, W_new, R_change}
use Rattle.language.specs.Rows.{A_assign}
use Rattle.language.specs.Tree.{Expr, change, size}
use Rattle.language.specs.Program.{world}
use Rattle.language.specs.Typing.{type_of}
use Rattle.language.specs.Encoded.{RowAt, Encoded}
use Rattle.language.proofs.Nodes.{head}
use Rattle.language.proofs.Tables.{size_positive}
use Rattle.layout.specs.HeldLaws.{few}
use Rattle.types.specs.declared.Typed.{Typed as TypedCase}
use Rattle.std.specs.Prelude.{Ok, Err}
use Rattle.language.specs.declared.Refusal.{Refusal}
use Rattle.types.specs.declared.slots.Scope.{Scope}
use Rattle.types.specs.declared.Typing.TheVariants.{Bool as Bool_case, Null}
use Rattle.types.specs.Answers.{Answer, answer}
use Rattle.types.specs.Tables.{CaseIn, In_row}
use Rattle.typing.specs.Nodes.{null_tested, created, slot_read, cast_answer, assigned, PreAssign, PreChange}
use Rattle.typing.specs.Nodes.{PostChange}
use Rattle.access.specs.Fields.{got, got_classes, PreGet, PreField}
use Rattle.expressions.specs.Cycle.{Given, Unary, Room, Kept, Pre, Post, Is}
use Rattle.expressions.proofs.Turns.{bind_refused, is_refused, pre_of, post_of, in_row, kept_then, kept_none}
use Rattle.expressions.proofs.Turns.{kept_slots}
use Rattle.expressions.proofs.Turns.{kept_classes, room_next, room_kept, room_slots, type_low}
use Rattle.expressions.proofs.Turns.{case_low}
use Rattle.expressions.proofs.TypeNumbers.{case_known}
use Rattle.expressions.proofs.FieldTables.{field_pre}
use Rattle.expressions.proofs.Slots.{slot_low}
use Rattle.expressions.proofs.LeafNodes.{true_is, false_is, null_literal_is, slot_is, new_node_is}
use Rattle.expressions.proofs.UnaryNodes.{is_null_is, cast_is, assign_is, got_kept, get_is}
use Rattle.expressions.proofs.ChangeNode.{pre_change, change_is}
use Rattle.expressions.proofs.TurnsNodes.{did, failed, kept_in, row_of, is_null_child, get_child, get_row}
use Rattle.expressions.proofs.TurnsNodes.{cast_child, cast_row, assign_child, assign_row, by_node}

-- ---- the leaves of `expression`

module _ {R E T A M F S : List ℕ} {at : ℕ} {scope : Scope} (pre : Pre R E T A M F S at scope) where
  pub leaf_row : In_row R at
  leaf_row = let i = in_row pre in (i.0, omega (arith, i.3))

  pub leaf_slots : scope.size ≤ length S
  leaf_slots = room_slots pre.given.room

  pub change_pre : get_or R (at * 4) 0 ≡ 82 → PreChange R T S scope.count at scope.size
  unfolding Encoded
  change_pre l = by_node R_change pre.e pre.given l
      (λ _. PreChange R T S scope.count at scope.size)
      λ k c g.
      pre_change g.headed k c at scope.size pre.γ S (change-row g) g.views
      (room_slots g.room)
    where
      change-row : {k c : ℕ} → Given R E T A M F S at scope pre.p (change k c) pre.γ pre.d
          → RowAt R at R_change k c
      change-row g = g.encoded.row

module _ {R E T A M F S C : List ℕ} {at : ℕ} {scope : Scope} where
  pub true_post : {r : Answer} → get_or R (at * 4) 0 ≡ 84 → r ≡ answer Bool_case 0
      → Post R E T A M F S C S C at scope r
  true_post {r} l e = post_of kept_none λ p x γ d g.
      by_node T_true x g l (λ w. Is (world p.classes) w γ at scope.size S C r) λ g.
      rw e (true_is (world p.classes) g.views)

  pub false_post : {r : Answer} → get_or R (at * 4) 0 ≡ 76 → r ≡ answer Bool_case 0
      → Post R E T A M F S C S C at scope r
  false_post {r} l e = post_of kept_none λ p x γ d g.
      by_node L_false x g l (λ w. Is (world p.classes) w γ at scope.size S C r) λ g.
      rw e (false_is (world p.classes) g.views)

  pub null_post : {r : Answer} → get_or R (at * 4) 0 ≡ 78 → r ≡ answer Null 0
      → Post R E T A M F S C S C at scope r
  null_post {r} l e = post_of kept_none λ p x γ d g.
      by_node N_null x g l (λ w. Is (world p.classes) w γ at scope.size S C r) λ g.
      rw e (null_literal_is (world p.classes) g.views)

  pub slot_post : {r : Answer} → get_or R (at * 4) 0 ≡ 73 → r ≡ slot_read R S at scope.size
      → Post R E T A M F S C S C at scope r
  unfolding Encoded
  slot_post {r} l e = post_of kept_none λ p x γ d g.
      by_node I_slot x g l (λ w. Is (world p.classes) w γ at scope.size S C r) λ k g.
      slot_is g.headed k at r g.views (room_slots g.room) g.encoded.row.first e

  pub new_post : {r : Answer} → get_or R (at * 4) 0 ≡ 87
      → r ≡ created R scope.count at → Post R E T A M F S C S C at scope r
  unfolding Encoded
  new_post {r} l e = post_of kept_none λ p x γ d g.
      by_node W_new x g l (λ w. Is (world p.classes) w γ at scope.size S C r) λ c g.
      new_node_is g.headed c at r g.views g.encoded.row.first e

  pub change_post : {S' : List ℕ} {r : Answer} → Room S scope 0 → get_or R (at * 4) 0 ≡ 82
      → PostChange R T S S' scope.count at scope.size r
      → Post R E T A M F S C S' C at scope r
  unfolding Encoded
  change_post {S'} {r} m l q =
      post_of (kept_slots q.long (λ i u v. q.rest i (omega (arith, m.scoped)))) λ p x γ d g.
      by_node R_change x g l (λ w. Is (world p.classes) w γ at scope.size S' C r) λ k c g.
      change_is g.headed k c at scope.size γ S S' C r g.encoded.row g.views
      (room_slots g.room) q

-- ---- `unary`

pub room_none : {S : List ℕ} {scope : Scope} {d : ℕ} → Room S scope d → Room S scope 0
room_none {scope = scope} {d} m =
    room_next scope 0 m refl m.this m.scoped m.arguments m.above (omega arith)

unary_case : (R : List ℕ) (at : ℕ) {X : Type 0} → Unary R at → (get_or R (at * 4) 0 ≡ 90 → X)
    → (get_or R (at * 4) 0 ≡ 71 → X) → (get_or R (at * 4) 0 ≡ 75 → X) → (get_or R (at * 4) 0 ≡ 65 → X) → X
unary_case R at u a b c d = ⊎_elim a (λ v. ⊎_elim b (λ w. ⊎_elim c d w) v) u

pub unary_assign : {R E T A M F S : List ℕ} {at : ℕ} {scope : Scope} → Pre R E T A M F S at scope
    → Unary R at → (n : ℕ) → n ≡ get_or R (at * 4) 0 → (n ≡ 90 → ⊥) → (n ≡ 71 → ⊥) → (n ≡ 75 → ⊥)
    → get_or R (at * 4) 0 ≡ 65
unary_assign {R} {at = at} pre u n q a b c =
    unary_case R at u (λ e. absurd (a (q ∙ e))) (λ e. absurd (b (q ∙ e))) (λ e. absurd (c (q ∙ e))) (λ e. e)

module _ {R E T A M F S : List ℕ} {at : ℕ} {scope : Scope} where
  pub unary_first : Unary R at → Pre R E T A M F S at scope → Pre R E T A M F S (at + 1) scope
  unary_first u pre = unary_case R at u
      (λ l. by_node Z_is_null pre.e pre.given l (λ _. Pre R E T A M F S (at + 1) scope) λ e g.
      pre_of (is_null_child g))
      (λ l. by_node G_get pre.e pre.given l (λ _. Pre R E T A M F S (at + 1) scope) λ f e g.
      pre_of (get_child g))
      (λ l. by_node K_cast pre.e pre.given l (λ _. Pre R E T A M F S (at + 1) scope) λ c e g.
      pre_of (cast_child g))
      (λ l. by_node A_assign pre.e pre.given l (λ _. Pre R E T A M F S (at + 1) scope) λ k e g.
      pre_of (assign_child g))

  module _ {S' C C' : List ℕ} (pre : Pre R E T A M F S at scope) {r₁ : Answer}
      (q : Post R E T A M F S C S' C' (at + 1) scope r₁) where
    unary_kept : Unary R at → Kept S S' C C' at (get_or E at 0) scope.width scope.top
    unfolding size
    unary_kept u = unary_case R at u
        (λ l. by_node Z_is_null pre.e pre.given l
        (λ _. Kept S S' C C' at (get_or E at 0) scope.width scope.top) λ e g.
        kept_in scope.top (row_of g) (row_of (is_null_child g)) (omega arith) (omega arith) (omega arith)
        q.kept)
        (λ l. by_node G_get pre.e pre.given l
        (λ _. Kept S S' C C' at (get_or E at 0) scope.width scope.top) λ f e g.
        kept_in scope.top (row_of g) (row_of (get_child g)) (omega arith) (omega arith) (omega arith)
        q.kept)
        (λ l. by_node K_cast pre.e pre.given l
        (λ _. Kept S S' C C' at (get_or E at 0) scope.width scope.top) λ c e g.
        kept_in scope.top (row_of g) (row_of (cast_child g)) (omega arith) (omega arith) (omega arith)
        q.kept)
        (λ l. by_node A_assign pre.e pre.given l
        (λ _. Kept S S' C C' at (get_or E at 0) scope.width scope.top) λ k e g.
        kept_in scope.top (row_of g) (row_of (assign_child g)) (omega arith) (omega arith) (omega arith)
        q.kept)

    -- a child's refusal is the node's
    pub unary_fail : {f : Refusal} → Unary R at → r₁ ≡ Err f → Post R E T A M F S C S' C' at scope (Err f)
    unfolding type_of
    unary_fail {f} u e = post_of (unary_kept u) λ p z γ d g.
        let Q : Expr → Type 0 = λ w. Is (world p.classes) w γ at scope.size S' C' (Err f) in
        unary_case R at u
        (λ l. by_node Z_is_null z g l Q λ e' g.
        is_refused _ _ (bind_refused _ _ _ _ (failed (is_null_child g) q e)) refl)
        (λ l. by_node G_get z g l Q λ n e' g.
        is_refused _ _ (bind_refused _ _ _ _ (failed (get_child g) q e)) refl)
        (λ l. by_node K_cast z g l Q λ c e' g.
        is_refused _ _ (bind_refused _ _ _ _ (failed (cast_child g) q e)) refl)
        (λ l. by_node A_assign z g l Q λ k e' g.
        is_refused _ _ (bind_refused _ _ _ _ (failed (assign_child g) q e)) refl)

    module _ {x : TypedCase} (ok : r₁ ≡ Ok x) where
      pub is_null_post : {r : Answer} → get_or R (at * 4) 0 ≡ 90 → r ≡ null_tested at x.typing x.effect
          → Post R E T A M F S C S' C' at scope r
      is_null_post {r} l e = post_of (unary_kept (inl l)) λ p z γ d g.
          by_node Z_is_null z g l (λ w. Is (world p.classes) w γ at scope.size S' C' r) λ e' g.
          is_null_is g.headed at x r (did (is_null_child g) q ok) e

      pub cast_post : {r : Answer} → get_or R (at * 4) 0 ≡ 75 → r ≡ cast_answer R scope.count at x
          → Post R E T A M F S C S' C' at scope r
      cast_post {r} l e = post_of (unary_kept (inr (inr (inl l)))) λ p z γ d g.
          by_node K_cast z g l (λ w. Is (world p.classes) w γ at scope.size S' C' r) λ c e' g.
          cast_is g.headed c at x r (cast_row g) (did (cast_child g) q ok) e

      pub assign_post : {r : Answer} → get_or R (at * 4) 0 ≡ 65 → r ≡ assigned R A S' at scope.size x
          → Post R E T A M F S C S' C' at scope r
      assign_post {r} l e = post_of (unary_kept (inr (inr (inr l)))) λ p z γ d g.
          by_node A_assign z g l (λ w. Is (world p.classes) w γ at scope.size S' C' r) λ k e' g.
          assign_is g.headed k at x r (assign_row g) (room_slots (room_kept g.room q.kept))
          (did (assign_child g) q ok) e

      pub get_post : {C'' : List ℕ} {r : Answer} → get_or R (at * 4) 0 ≡ 71
          → r ≡ got R T at x.typing x.effect → C'' ≡ got_classes R T C' at x.typing
          → Post R E T A M F S C S' C'' at scope r
      get_post {C''} {r} l e f =
          let k = got_kept pre.given.headed C' at x.typing in
          let h = head pre.e pre.given.encoded in
          post_of (kept_then (unary_kept (inr (inl l)))
          (kept_classes at (ap length f ∙ k.0) (λ i n. ap (λ (w : List ℕ). get_or w i 0) f ∙ k.1 i n)
          (omega arith) (omega (arith, h.end, size_positive pre.e))))
          λ p z γ d g. by_node G_get z g l (λ w. Is (world p.classes) w γ at scope.size S' C'' r) λ n e' g.
          get_is g.headed n at x r (get_row g).0 (get_row g).1 (did (get_child g) q ok) e f

      -- what G and A need
      pub get_pre : get_or R (at * 4) 0 ≡ 71 → PreGet R T at x.typing
      get_pre l =
          record {
            row = leaf_row pre;
            field = λ c e. by_node G_get pre.e pre.given l
                (λ _. PreField R T c (get_or R (at * 4 + 1) 0) × (c ≤ 64))
                λ f e' g.
                let w = did (get_child g) q ok in
                let t = case_known w.a.type c (sym (ap (λ (y : TypedCase). y.typing) w.is) ∙ e) in
                let n = type_low g.headed w.a.type w.accepted.declared c t in (
                  rw (get_row g).0 (field_pre g.headed c f n (get_row g).1),
                  omega (arith, n, few g.headed),
                );
          }

      pub assign_pre : get_or R (at * 4) 0 ≡ 65 → PreAssign R A S' at scope.size x.typing
      assign_pre l = by_node A_assign pre.e pre.given l
          (λ _. PreAssign R A S' at scope.size x.typing)
          λ k e g.
          let ls = room_slots (room_kept g.room q.kept) in
          record {
            row = leaf_row pre;
            scoped = ls;
            value = let w = did (assign_child g) q ok in
                subst (λ (y : TypedCase). CaseIn (length A) y.typing) (sym w.is)
                (case_low g.headed w.a.type w.accepted.declared);
            slot = λ z m n.
                let w = did (assign_child g) q ok in
                slot_low g.headed w.accepted.views ls (get_or R (at * 4 + 1) 0) z m n;
          }
