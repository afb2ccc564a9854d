-- The function write: U's two children, then the node. Assumes nothing.
use mathlib.Core.Path.{◌≡◌, refl, sym, ap, subst, ◌∙◌}
use mathlib.Core.List.{List}
use Prim.Native.Nat.{ℕ, ◌+◌, ◌-◌, ◌*◌, ◌<◌}
use native.Mathlib.Omega.{arith}
use lib.ListN.{get_or}
use Rattle.language.specs.Tree.{Program, Expr, set, size}
use Rattle.language.specs.Rows.{U_set}
use Rattle.language.specs.Program.{world}
use Rattle.language.specs.Environment.{Environment}
use Rattle.language.specs.Typing.{type_of}
use Rattle.language.specs.Encoded.{NodeAt, Encoded}
use Rattle.types.specs.declared.Typed.{Typed as TypedCase}
use Rattle.types.specs.declared.slots.Scope.{Scope}
use Rattle.std.specs.Prelude.{Ok, Err}
use Rattle.language.specs.declared.Refusal.{Refusal}
use Rattle.types.specs.Answers.{Answer}
use Rattle.access.specs.Fields.{PrePut, put, put_classes}
use Rattle.expressions.specs.Cycle.{Given, Kept, Pre, Post, Is}
use Rattle.expressions.proofs.Turns.{parts, pre_of, post_of, kept_then, kept_classes, room_child}
use Rattle.expressions.proofs.Turns.{room_kept}
use Rattle.expressions.proofs.Turns.{is_refused, bind_refused, bind_accepted, looks_kept}
use Rattle.expressions.proofs.SetNode.{put_kept, pre_put, set_is}
use Rattle.expressions.proofs.TurnsNodes.{Did, did, failed, after_row, kept_in, row_of, by_node}

-- its children, and its row
module _ {R E T A M F S : List ℕ} {at : ℕ} {scope : Scope} {p : Program} {γ : Environment} {d : ℕ} where
  set_first : {f : ℕ} {e e' : Expr} → Given R E T A M F S at scope p (set f e e') γ d
      → Given R E T A M F S (at + 1) scope p e γ (d - 1)
  unfolding Encoded
  set_first g = record {
    headed = g.headed;
    encoded = g.encoded.1;
    in_form = (parts g).2;
    views = g.views;
    room = room_child g.room (parts g).0;
  }

  set_second : {f : ℕ} {e e' : Expr} {S' C C' : List ℕ} {x : TypedCase} {from to : ℕ}
      → Given R E T A M F S at scope p (set f e e') γ d → Kept S S' C C' from to scope.width scope.top
      → (w : Did (world p.classes) e γ (at + 1) scope.size S' C' x)
      → Given R E T A M F S' (at + 1 + size e) scope p e' w.a.slots (d - 1)
  unfolding Encoded
  set_second g k w = record {
    headed = g.headed;
    encoded = g.encoded.2;
    in_form = (parts g).3;
    views = w.accepted.views;
    room = room_kept (room_child g.room (parts g).0) k;
  }

  set_row : {f : ℕ} {e e' : Expr} → Given R E T A M F S at scope p (set f e e') γ d
      → NodeAt R E at U_set f 0 (1 + size e + size e') × (f < 256)
  unfolding Encoded
  set_row g = (g.encoded.0, (parts g).1)

module _ {R E T A M F S : List ℕ} {at : ℕ} {scope : Scope} (pre : Pre R E T A M F S at scope)
    (l : get_or R (at * 4) 0 ≡ 85) where
  pub write_first : Pre R E T A M F S (at + 1) scope
  write_first = by_node U_set pre.e pre.given l (λ _. Pre R E T A M F S (at + 1) scope)
      λ f e e' g.
      pre_of (set_first g)

  module _ {S' C C' : List ℕ} {r₁ : Answer} (q : Post R E T A M F S C S' C' (at + 1) scope r₁) where
    kept-first : Kept S S' C C' at (get_or E at 0) scope.width scope.top
    unfolding size
    kept-first = by_node U_set pre.e pre.given l
        (λ _. Kept S S' C C' at (get_or E at 0) scope.width scope.top) λ f e e' g.
        kept_in scope.top (row_of g) (row_of (set_first g)) (omega arith) (omega arith) (omega arith)
        q.kept

    pub write_fail : {f : Refusal} → r₁ ≡ Err f → Post R E T A M F S C S' C' at scope (Err f)
    unfolding type_of
    write_fail {f} h = post_of kept-first λ p z γ d g.
        by_node U_set z g l (λ w. Is (world p.classes) w γ at scope.size S' C' (Err f)) λ n e e' g.
        is_refused _ _ (bind_refused _ _ _ _ (failed (set_first g) q h)) refl

    module _ {x : TypedCase} (ok : r₁ ≡ Ok x) where
      pub write_second : Pre R E T A M F S' (get_or E (at + 1) 0) scope
      write_second = by_node U_set pre.e pre.given l
          (λ _. Pre R E T A M F S' (get_or E (at + 1) 0) scope)
          λ f e e' g.
          subst (λ (n : ℕ). Pre R E T A M F S' n scope) (sym (row_of (set_first g)).end)
          (pre_of (set_second g q.kept (did (set_first g) q ok)))

      module _ {S'' C'' : List ℕ} {r₂ : Answer}
          (q' : Post R E T A M F S' C' S'' C'' (get_or E (at + 1) 0) scope r₂) where
        second : {p : Program} {f : ℕ} {e e' : Expr} {γ : Environment} {d : ℕ}
            → Given R E T A M F S at scope p (set f e e') γ d
            → Post R E T A M F S' C' S'' C'' (at + 1 + size e) scope r₂
        second g = subst (λ (n : ℕ). Post R E T A M F S' C' S'' C'' n scope r₂) (row_of (set_first g)).end
            q'

        kept_second : Kept S S'' C C'' at (get_or E at 0) scope.width scope.top
        unfolding size
        kept_second = by_node U_set pre.e pre.given l
            (λ _. Kept S S'' C C'' at (get_or E at 0) scope.width scope.top)
            λ f e e' g.
            kept_then kept-first
            (kept_in scope.top (row_of g) (row_of (set_second g q.kept (did (set_first g) q ok)))
            (omega arith) (omega arith) (omega arith) (second g).kept)

        pub write_fail_second : {f : Refusal} → r₂ ≡ Err f → Post R E T A M F S C S'' C'' at scope (Err f)
        unfolding type_of
        write_fail_second {f} h = post_of kept_second λ p z γ d g.
            by_node U_set z g l (λ w. Is (world p.classes) w γ at scope.size S'' C'' (Err f)) λ n e e' g.
            let u = did (set_first g) q ok in
            let w = failed (set_second g q.kept u) (second g) h in
            let line : at + 1 + size e + 1 ≡ at + 1 + 1 + size e = omega arith in
            is_refused _ _
            (bind_accepted _ _ _ u.typed_at
            ∙ bind_refused _ _ _ _
            (ap (λ (m : ℕ). type_of (world p.classes) e' m u.a.slots) (sym line) ∙ w))
            refl

        pub write_pre : {y : TypedCase} → r₂ ≡ Ok y → PrePut R T A at x.typing y
        write_pre {y} f = by_node U_set pre.e pre.given l (λ _. PrePut R T A at x.typing y) λ n e e' g.
            let u = did (set_first g) q ok in
            let w = did (set_second g q.kept u) (second g) f in
            let r = set_row g in
            pre_put g.headed n at u.a w.a x y r.0.row r.1
            u.accepted.declared w.accepted.declared u.is w.is

        pub write_done : {C''' : List ℕ} {y : TypedCase} {r : Answer} → r₂ ≡ Ok y
            → r ≡ put R T A at x.typing x y → C''' ≡ put_classes R T A C'' at x.typing y
            → Post R E T A M F S C S'' C''' at scope r
        write_done {C'''} {y} {r} f e₁ e₂ =
            let k = put_kept R T A C'' C''' at x y e₂ in
            post_of (kept_then kept_second (kept_classes at k.0 k.1 (omega arith) (after_row pre)))
            λ p z γ d g. by_node U_set z g l (λ w. Is (world p.classes) w γ at scope.size S'' C''' r)
            λ n e e' g.
            let u = did (set_first g) q ok in
            let w = did (set_second g q.kept u) (second g) f in
            let v = set_row g in
            set_is g.headed n e e' at (at + 1 + size e) scope.size (at + 1 + 1)
            (at + 1 + size e + 1) γ u.a w.a S'' C'' C''' x y r v.0.row v.1 refl
            u.typed_at w.typed_at u.accepted.declared w.accepted.declared w.accepted.views
            (looks_kept (world p.classes) e γ (at + 1) (second g).kept (omega arith) u.accepted.looks)
            w.accepted.looks u.is w.is e₁ e₂
