-- The function choose: J's condition, then both arms from the same slots. Assumes nothing.
use mathlib.Core.Path.{◌≡◌, refl, sym, ap, subst, ◌∙◌}
use mathlib.Core.List.{List}
use Prim.Native.Nat.{ℕ, ◌+◌, ◌-◌, ◌*◌, ◌≤◌, ◌<◌}
use native.Mathlib.Omega.{arith}
use lib.ListN.{length, get_or}
use Rattle.language.specs.Rows.{J_choose}
use Rattle.language.specs.Tree.{Program, Expr, choose, size}
use Rattle.language.specs.World.{World}
use Rattle.language.specs.Program.{world}
use Rattle.language.specs.Environment.{Environment}
use Rattle.language.specs.Typing.{type_of}
use Rattle.language.specs.Encoded.{Encoded}
use Rattle.types.specs.declared.Typed.{Typed as TypedCase}
use Rattle.types.specs.declared.slots.Scope.{Scope}
use Rattle.expressions.specs.Cycle.{Given, raised, Views, Room, Kept, Pre, Post, Is}
use Rattle.std.specs.Prelude.{Ok, Err}
use Rattle.language.specs.declared.Refusal.{Refusal}
use Rattle.types.specs.Answers.{Answer}
use Rattle.types.specs.Tables.{Saved, Swapped}
use Rattle.typing.specs.Nodes.{PreChoice, PostChoice}
use Rattle.expressions.proofs.Turns.{parts, pre_of, post_of, in_row, kept_then, kept_slots, room_child}
use Rattle.expressions.proofs.Turns.{views_same, is_refused, bind_refused, one_level, bind_accepted}
use Rattle.expressions.proofs.Turns.{looks_kept, room_raised}
use Rattle.expressions.proofs.ChooseNode.{pre_choice, choose_is}
use Rattle.expressions.proofs.TurnsNodes.{did, failed, kept_in, row_of, by_node}

module _ {R E T A M F S : List ℕ} {at : ℕ} {scope : Scope} {p : Program} {γ : Environment} {d : ℕ}
    {e x y : Expr} (g : Given R E T A M F S at scope p (choose e x y) γ d) where
  choose_1 : Given R E T A M F S (at + 1) scope p e γ (d - 1)
  unfolding Encoded
  choose_1 = record {
    headed = g.headed;
    encoded = g.encoded.1;
    in_form = (parts g).1;
    views = g.views;
    room = room_child g.room (parts g).0;
  }

  deep : 1 ≤ d
  deep = (parts g).0

  arm_room : {S' : List ℕ} → length S' ≡ length S → Room S' (raised scope scope.size) (d - 1)
  arm_room a = let m = g.room in
      room_raised scope.size m a m.scoped deep

  choose_2 : {S' : List ℕ} {δ : Environment} → length S' ≡ length S
      → Views (world p.classes) δ S' scope.size
      → Given R E T A M F S' (at + 1 + size e) (raised scope scope.size) p x δ (d - 1)
  unfolding Encoded
  choose_2 a v = record {
    headed = g.headed;
    encoded = g.encoded.2;
    in_form = (parts g).2;
    views = v;
    room = arm_room a;
  }

  choose_3 : {S' : List ℕ} {δ : Environment} → length S' ≡ length S
      → Views (world p.classes) δ S' scope.size
      → Given R E T A M F S' (at + 1 + size e + size x) (raised scope scope.size) p y δ (d - 1)
  unfolding Encoded
  choose_3 a v = record {
    headed = g.headed;
    encoded = g.encoded.3;
    in_form = (parts g).3;
    views = v;
    room = arm_room a;
  }

  room_for_arm : scope.top + scope.width ≤ length S
  room_for_arm = omega (arith, g.room.room, one_level scope.width d deep)

module _ {R E T A M F S : List ℕ} {at : ℕ} {scope : Scope} (pre : Pre R E T A M F S at scope)
    (l : get_or R (at * 4) 0 ≡ 74) where
  pub choose_first : Pre R E T A M F S (at + 1) scope
  choose_first = by_node J_choose pre.e pre.given l (λ _. Pre R E T A M F S (at + 1) scope)
      λ e x y g.
      pre_of (choose_1 g)

  arm_room_of : scope.top + scope.width ≤ length S
  arm_room_of = by_node J_choose pre.e pre.given l (λ _. scope.top + scope.width ≤ length S)
      λ e x y g.
      room_for_arm g

  pub choose_room : (scope.top + scope.size ≤ length S) × (scope.size ≤ scope.top)
      × (scope.width ≤ scope.top)
      × (scope.size ≤ scope.width)
  choose_room = let m = pre.given.room in
      (omega (arith, arm_room_of, m.scoped), omega (arith, m.scoped, m.above), m.above, m.scoped)

  module _ {S₁ C C₁ : List ℕ} {r₁ : Answer} (q₁ : Post R E T A M F S C S₁ C₁ (at + 1) scope r₁) where
    kept-1 : Kept S S₁ C C₁ at (get_or E at 0) scope.width scope.top
    unfolding size
    kept-1 = by_node J_choose pre.e pre.given l
        (λ _. Kept S S₁ C C₁ at (get_or E at 0) scope.width scope.top) λ e x y g.
        kept_in scope.top (row_of g) (row_of (choose_1 g)) (omega arith) (omega arith) (omega arith)
        q₁.kept

    pub choose_fail : {f : Refusal} → r₁ ≡ Err f → Post R E T A M F S C S₁ C₁ at scope (Err f)
    unfolding type_of
    choose_fail {f} h = post_of kept-1 λ p z γ d g.
        by_node J_choose z g l (λ w. Is (world p.classes) w γ at scope.size S₁ C₁ (Err f)) λ e x y g.
        is_refused _ _ (bind_refused _ _ _ _ (failed (choose_1 g) q₁ h)) refl

    pub save_pre : (scope.top + scope.size ≤ length S₁) × (scope.size ≤ scope.top)
    save_pre = let r = choose_room in (omega (arith, r.0, q₁.kept.slots_long), r.1)

    module _ {a : TypedCase} (ok₁ : r₁ ≡ Ok a) {S₂ : List ℕ} (s : Saved S₁ S₂ scope.top scope.size)
      where
        slots-2 : length S₂ ≡ length S
        slots-2 = s.long ∙ q₁.kept.slots_long

        views-2 : {W : World} {δ : Environment} → Views W δ S₁ scope.size → Views W δ S₂ scope.size
        views-2 v = let r = choose_room in
            views_same v (omega (arith, save_pre.0)) s.long (λ i m. s.below i (omega (arith, r.1)))

        given-2 : {p : Program} {γ : Environment} {d : ℕ} {e x y : Expr}
            (g : Given R E T A M F S at scope p (choose e x y) γ d)
            → Given R E T A M F S₂ (at + 1 + size e) (raised scope scope.size) p x
            (did (choose_1 g) q₁ ok₁).a.slots (d - 1)
        given-2 g = choose_2 g slots-2 (views-2 (did (choose_1 g) q₁ ok₁).accepted.views)

        pub choose_second : Pre R E T A M F S₂ (get_or E (at + 1) 0) (raised scope scope.size)
        choose_second = by_node J_choose pre.e pre.given l
            (λ _. Pre R E T A M F S₂ (get_or E (at + 1) 0) (raised scope scope.size)) λ e x y g.
            subst (λ (n : ℕ). Pre R E T A M F S₂ n (raised scope scope.size))
            (sym (row_of (choose_1 g)).end)
            (pre_of (given-2 g))

        module _ {S₃ C₃ : List ℕ} {r₂ : Answer}
            (q₂ : Post R E T A M F S₂ C₁ S₃ C₃ (get_or E (at + 1) 0) (raised scope scope.size) r₂) where
          post-2 : {p : Program} {γ : Environment} {d : ℕ} {e x y : Expr}
              → Given R E T A M F S at scope p (choose e x y) γ d
              → Post R E T A M F S₂ C₁ S₃ C₃ (at + 1 + size e) (raised scope scope.size) r₂
          post-2 g = subst (λ (n : ℕ). Post R E T A M F S₂ C₁ S₃ C₃ n (raised scope scope.size) r₂)
              (row_of (choose_1 g)).end q₂

          kept-2 : Kept S S₃ C C₃ at (get_or E at 0) scope.width scope.top
          unfolding size
          kept-2 = by_node J_choose pre.e pre.given l
              (λ _. Kept S S₃ C C₃ at (get_or E at 0) scope.width scope.top) λ e x y g.
              kept_then (kept_then kept-1 (kept_slots s.long (λ i u v. s.below i v)))
              (kept_in scope.top (row_of g) (row_of (given-2 g)) (omega arith) (omega arith) (omega arith)
              (post-2 g).kept)

          pub choose_fail_second : {f : Refusal} → r₂ ≡ Err f → Post R E T A M F S C S₃ C₃ at scope (Err f)
          unfolding type_of
          choose_fail_second {f} h = post_of kept-2 λ p z γ d g.
              by_node J_choose z g l (λ w. Is (world p.classes) w γ at scope.size S₃ C₃ (Err f)) λ e x y g.
              let u = did (choose_1 g) q₁ ok₁ in
              let w = failed (given-2 g) (post-2 g) h in
              let line : at + 1 + 1 + size e ≡ at + 1 + size e + 1 = omega arith in
              is_refused _ _
              (bind_accepted _ _ _ u.typed_at
              ∙ bind_refused _ _ _ _
              (ap (λ (m : ℕ). type_of (world p.classes) x m u.a.slots) line ∙ w)) refl

          slots-3 : length S₃ ≡ length S
          slots-3 = q₂.kept.slots_long ∙ slots-2

          pub swap_pre : (scope.top + scope.size ≤ length S₃) × (scope.size ≤ scope.top)
          swap_pre = let r = choose_room in (omega (arith, r.0, slots-3), r.1)

          module _ {b : TypedCase} (ok₂ : r₂ ≡ Ok b) {S₄ : List ℕ}
              (w : Swapped S₃ S₄ scope.top scope.size) where
            slots-4 : length S₄ ≡ length S
            slots-4 = w.long ∙ slots-3

            -- the second arm starts with the slots after the condition
            again : (k : ℕ) → k < scope.size → get_or S₄ k 0 ≡ get_or S₁ k 0
            again k m = let r = choose_room in w.first k m
                ∙ (q₂.kept.between (scope.top + k) (omega (arith, r.2)) (omega arith) ∙ s.copied k m)

            views-4 : {W : World} {δ : Environment} → Views W δ S₁ scope.size → Views W δ S₄ scope.size
            views-4 v = views_same v (omega (arith, save_pre.0))
                (omega (arith, slots-4, q₁.kept.slots_long))
                again

            given-3 : {p : Program} {γ : Environment} {d : ℕ} {e x y : Expr}
                (g : Given R E T A M F S at scope p (choose e x y) γ d)
                → Given R E T A M F S₄ (at + 1 + size e + size x) (raised scope scope.size) p y
                (did (choose_1 g) q₁ ok₁).a.slots (d - 1)
            given-3 g = choose_3 g slots-4 (views-4 (did (choose_1 g) q₁ ok₁).accepted.views)

            third : {p : Program} {γ : Environment} {d : ℕ} {e x y : Expr}
                → Given R E T A M F S at scope p (choose e x y) γ d
                → get_or E (get_or E (at + 1) 0) 0 ≡ at + 1 + size e + size x
            third g = ap (λ (n : ℕ). get_or E n 0) (row_of (choose_1 g)).end ∙ (row_of (given-2 g)).end

            pub choose_third : Pre R E T A M F S₄ (get_or E (get_or E (at + 1) 0) 0)
                (raised scope scope.size)
            choose_third = by_node J_choose pre.e pre.given l
                (λ _. Pre R E T A M F S₄ (get_or E (get_or E (at + 1) 0) 0) (raised scope scope.size))
                λ e x y g.
                subst (λ (n : ℕ). Pre R E T A M F S₄ n (raised scope scope.size)) (sym (third g))
                (pre_of (given-3 g))

            module _ {S₅ C₅ : List ℕ} {r₃ : Answer}
                (q₃ : Post R E T A M F S₄ C₃ S₅ C₅ (get_or E (get_or E (at + 1) 0) 0) (raised scope scope.size)
                r₃) where
              post-3 : {p : Program} {γ : Environment} {d : ℕ} {e x y : Expr}
                  → Given R E T A M F S at scope p (choose e x y) γ d
                  → Post R E T A M F S₄ C₃ S₅ C₅ (at + 1 + size e + size x) (raised scope scope.size) r₃
              post-3 g = subst (λ (n : ℕ). Post R E T A M F S₄ C₃ S₅ C₅ n (raised scope scope.size) r₃)
                  (third g) q₃

              kept-3 : Kept S S₅ C C₅ at (get_or E at 0) scope.width scope.top
              unfolding size
              kept-3 = by_node J_choose pre.e pre.given l
                  (λ _. Kept S S₅ C C₅ at (get_or E at 0) scope.width scope.top)
                  λ e x y g.
                  kept_then (kept_then kept-2 (kept_slots w.long
                  (λ i u v. w.between i (omega (arith, choose_room.3)) v)))
                  (kept_in scope.top (row_of g) (row_of (given-3 g)) (omega arith) (omega arith)
                  (omega arith)
                  (post-3 g).kept)

              pub choose_fail_third : {f : Refusal} → r₃ ≡ Err f
                  → Post R E T A M F S C S₅ C₅ at scope (Err f)
              unfolding type_of
              choose_fail_third {f} h = post_of kept-3 λ p z γ d g.
                  by_node J_choose z g l (λ w. Is (world p.classes) w γ at scope.size S₅ C₅ (Err f))
                  λ e x y g.
                  let u = did (choose_1 g) q₁ ok₁ in
                  let v = did (given-2 g) (post-2 g) ok₂ in
                  let o = failed (given-3 g) (post-3 g) h in
                  let line : at + 1 + 1 + size e ≡ at + 1 + size e + 1 = omega arith in
                  let line' : at + 1 + 1 + size e + size x ≡ at + 1 + size e + size x + 1 = omega arith in
                  is_refused _ _ (bind_accepted _ _ _ u.typed_at
                  ∙ (bind_accepted _ _ _
                  (ap (λ (m : ℕ). type_of (world p.classes) x m u.a.slots) line ∙ v.typed_at)
                  ∙ bind_refused _ _ _ _
                  (ap (λ (m : ℕ). type_of (world p.classes) y m u.a.slots) line' ∙ o)))
                  refl

              -- the slots after the first arm stand from the top on
              saved-arm : (k : ℕ) → k < scope.size → get_or S₅ (scope.top + k) 0 ≡ get_or S₃ k 0
              saved-arm k m = let r = choose_room in
                  q₃.kept.between (scope.top + k) (omega (arith, r.2)) (omega arith) ∙ w.second k m

              slots-5 : length S₅ ≡ length S
              slots-5 = q₃.kept.slots_long ∙ slots-4

              pub choice_pre : {c : TypedCase} → r₃ ≡ Ok c
                  → PreChoice T A S₅ at scope.size scope.top b.typing c.typing
              choice_pre {c} ok₃ = by_node J_choose pre.e pre.given l
                  (λ _. PreChoice T A S₅ at scope.size scope.top b.typing c.typing) λ e x y g.
                  let v = did (given-2 g) (post-2 g) ok₂ in
                  let o = did (given-3 g) (post-3 g) ok₃ in
                  let r = choose_room in
                  pre_choice g.headed at scope.size scope.top v.a o.a S₃ S₅ b c
                  (in_row pre).0
                  v.accepted.declared o.accepted.declared
                  v.accepted.views (omega (arith, swap_pre.0)) saved-arm o.accepted.views r.1
                  (omega (arith, r.0, slots-5)) v.is o.is

              pub choose_done : {S₆ : List ℕ} {c : TypedCase} {r : Answer} → r₃ ≡ Ok c
                  → PostChoice T A S₅ S₆ at scope.size scope.top a b c r
                  → Post R E T A M F S C S₆ C₅ at scope r
              choose_done {S₆} {c} {r} ok₃ t =
                  let m = choose_room in
                  post_of (kept_then kept-3 (kept_slots t.long (λ i u v. t.rest i (omega (arith, m.3)))))
                  λ p z γ d g. by_node J_choose z g l (λ w. Is (world p.classes) w γ at scope.size S₆ C₅
                  r)
                  λ e x y g.
                  let u = did (choose_1 g) q₁ ok₁ in
                  let v = did (given-2 g) (post-2 g) ok₂ in
                  let o = did (given-3 g) (post-3 g) ok₃ in
                  choose_is g.headed e x y at (at + 1 + size e) (at + 1 + size e + size x)
                  scope.size scope.top (at + 1 + 1) (at + 1 + size e + 1) (at + 1 + size e + size x + 1)
                  γ
                  u.a
                  v.a o.a
                  S₃ S₅ S₆ C₅ a b c r refl refl u.typed_at v.typed_at o.typed_at
                  v.accepted.declared o.accepted.declared
                  v.accepted.views (omega (arith, swap_pre.0)) saved-arm o.accepted.views m.1
                  (omega (arith, m.0, slots-5))
                  (looks_kept (world p.classes) e γ (at + 1) (post-3 g).kept (omega arith)
                  (looks_kept (world p.classes) e γ (at + 1) (post-2 g).kept (omega arith)
                  u.accepted.looks))
                  (looks_kept (world p.classes) x u.a.slots (at + 1 + size e) (post-3 g).kept
                  (omega arith)
                  v.accepted.looks)
                  o.accepted.looks u.is v.is o.is t
