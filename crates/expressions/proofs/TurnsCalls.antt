-- The function call: Q's receiver, its arguments, then the node. Assumes nothing.
use mathlib.Core.Path.{◌≡◌, refl, sym, ap, subst, ◌∙◌}
use mathlib.Core.List.{List}
use Prim.Native.Nat.{ℕ, ◌+◌, ◌-◌, ◌*◌, ◌≤◌, ◌<◌}
use native.Mathlib.Omega.{arith}
use lib.ListN.{length, get_or}
use Rattle.language.specs.Rows.{Q_call}
use Rattle.language.specs.Results.{accept}
use Rattle.language.specs.Tree.{null_type, Program, Expr, call, Exprs, size, sizes, count as how_many}
use Rattle.language.specs.Program.{world}
use Rattle.language.specs.Environment.{Environment}
use Rattle.language.specs.Typing.{TypedAll, type_of, type_all}
use Rattle.language.specs.Encoded.{NodeAt, Encoded}
use Rattle.types.specs.declared.Typed.{Typed as TypedCase}
use Rattle.types.specs.declared.slots.Scope.{Scope}
use Rattle.expressions.specs.Cycle.{Given, GivenAll, raised, Views, Kept, Pre, Post, Is, PreList}
use Rattle.expressions.specs.Cycle.{AcceptedAll, PostItems, PostArguments, ArgumentsAre, stored}
use Rattle.types.specs.declared.Typing.TheVariants.{Null}
use Rattle.std.specs.Prelude.{Result, Ok, Err}
use Rattle.language.specs.declared.Refusal.{Refusal}
use Rattle.language.proofs.Refusals.{result_ok, result_err}
use Rattle.types.specs.Answers.{Answer, typed_case}
use Rattle.access.specs.Calls.{no_method_for, PreInvoke, Invoked}
use Rattle.expressions.proofs.Typings.{looks_frame}
use Rattle.expressions.proofs.Turns.{list_pre, parts, pre_of, post_of, kept_then, kept_slots}
use Rattle.expressions.proofs.Turns.{kept_classes}
use Rattle.expressions.proofs.Turns.{room_next, room_child, room_slots, room_raised, is_refused}
use Rattle.expressions.proofs.Turns.{bind_refused, bind_accepted, one_level}
use Rattle.expressions.proofs.CallNode.{invoked_kept, pre_invoke, call_is, many_is, many_refused}
use Rattle.expressions.proofs.TurnsNodes.{did, failed, after_row, kept_in, row_of, by_node}

module _ {R E T A M F S : List ℕ} {at : ℕ} {scope : Scope} {p : Program} {γ : Environment} {d : ℕ}
    {m : ℕ}
    {e : Expr} {es : Exprs}
    (g : Given R E T A M F S at scope p (call m e es) γ d) where
  call_1 : Given R E T A M F S (at + 1) scope p e γ (d - 1)
  unfolding Encoded
  call_1 = record {
    headed = g.headed;
    encoded = g.encoded.1;
    in_form = (parts g).2;
    views = g.views;
    room = room_child g.room (parts g).0;
  }

  call_row : NodeAt R E at Q_call m (how_many es) (1 + size e + sizes es) × (m < 256) × (1 ≤ d)
  unfolding Encoded
  call_row = (g.encoded.0, (parts g).1, (parts g).0)

  -- the arguments, with room for n numbers of their own
  call_all : {S' : List ℕ} {δ : Environment} (n : ℕ) → n ≡ how_many es → n ≤ 8
      → length S' ≡ length S → Views (world p.classes) δ S' scope.size
      → GivenAll R E T A M F S' (at + 1 + size e) (raised scope n) p es δ (d - 1)
  unfolding Encoded
  call_all n k o a v =
      let r = g.room in
      record {
        headed = g.headed;
        encoded = g.encoded.2;
        in_form = (parts g).3;
        views = v;
        room = room_raised n r a (omega (arith, o, r.arguments)) call_row.2;
      }

  call_all_0 : {S' : List ℕ} {δ : Environment} → length S' ≡ length S
      → Views (world p.classes) δ S' scope.size
      → GivenAll R E T A M F S' (at + 1 + size e) scope p es δ (d - 1)
  unfolding Encoded
  call_all_0 a v =
      let r = g.room in
      record {
        headed = g.headed;
        encoded = g.encoded.2;
        in_form = (parts g).3;
        views = v;
        room = room_next scope (d - 1) r a r.this r.scoped r.arguments r.above
            (omega (arith, one_level scope.width d call_row.2));
      }

module _ {R E T A M F S : List ℕ} {at : ℕ} {scope : Scope} (pre : Pre R E T A M F S at scope)
    (l : get_or R (at * 4) 0 ≡ 81) where
  abbrev next : ℕ
  next = get_or E (at + 1) 0

  pub call_first : Pre R E T A M F S (at + 1) scope
  call_first = by_node Q_call pre.e pre.given l (λ _. Pre R E T A M F S (at + 1) scope)
      λ m e es g.
      pre_of (call_1 g)

  module _ {S₁ C C₁ : List ℕ} {r₁ : Answer} (q : Post R E T A M F S C S₁ C₁ (at + 1) scope r₁) where
    kept-1 : Kept S S₁ C C₁ at (get_or E at 0) scope.width scope.top
    unfolding size
    kept-1 = by_node Q_call pre.e pre.given l
        (λ _. Kept S S₁ C C₁ at (get_or E at 0) scope.width scope.top) λ m e es g.
        kept_in scope.top (row_of g) (row_of (call_1 g)) (omega arith) (omega arith) (omega arith)
        q.kept

    pub call_fail : {f : Refusal} → r₁ ≡ Err f → Post R E T A M F S C S₁ C₁ at scope (Err f)
    unfolding type_of
    call_fail {f} h = post_of kept-1 λ p z γ d g.
        by_node Q_call z g l (λ w. Is (world p.classes) w γ at scope.size S₁ C₁ (Err f)) λ m e es g.
        is_refused _ _ (bind_refused _ _ _ _ (failed (call_1 g) q h)) refl

    module _ {a : TypedCase} (ok : r₁ ≡ Ok a) (given-n : ℕ)
        (given_is : given-n ≡ get_or R (at * 4 + 2) 0) where
      count_of : {p : Program} {γ : Environment} {d m : ℕ} {e : Expr} {es : Exprs}
          → Given R E T A M F S at scope p (call m e es) γ d → given-n ≡ how_many es
      count_of g = given_is ∙ (call_row g).0.row.second

      all-given : {p : Program} {γ : Environment} {d m : ℕ} {e : Expr} {es : Exprs}
          (g : Given R E T A M F S at scope p (call m e es) γ d)
          → GivenAll R E T A M F S₁ (at + 1 + size e) scope p es (did (call_1 g) q ok).a.slots
          (d - 1)
      all-given g = call_all_0 g q.kept.slots_long
          (did (call_1 g) q ok).accepted.views

      few-given : {p : Program} {γ : Environment} {d m : ℕ} {e : Expr} {es : Exprs} → given-n ≤ 8
          → (g : Given R E T A M F S at scope p (call m e es) γ d)
          → GivenAll R E T A M F S₁ (at + 1 + size e) (raised scope given-n) p es
          (did (call_1 g) q ok).a.slots (d - 1)
      few-given o g = call_all g given-n (count_of g) o q.kept.slots_long
          (did (call_1 g) q ok).accepted.views

      abbrev items_of : {p : Program} {γ : Environment} {d m : ℕ} {e : Expr} {es : Exprs}
          → Given R E T A M F S at scope p (call m e es) γ d
          → PreList R E T A M F S₁ (at + 1 + size e) scope given-n
      items_of g = list_pre (count_of g) (all-given g)

      abbrev arguments_of : {p : Program} {γ : Environment} {d m : ℕ} {e : Expr} {es : Exprs} → given-n ≤ 8
          → Given R E T A M F S at scope p (call m e es) γ d
          → PreList R E T A M F S₁ (at + 1 + size e) (raised scope given-n) given-n
      arguments_of o g = list_pre (count_of g) (few-given o g)

      pub call_items_pre : PreList R E T A M F S₁ next scope given-n
      call_items_pre = by_node Q_call pre.e pre.given l
          (λ _. PreList R E T A M F S₁ next scope given-n)
          λ m e es g.
          subst (λ (k : ℕ). PreList R E T A M F S₁ k scope given-n) (sym (row_of (call_1 g)).end)
          (items_of g)

      pub call_arguments_pre : given-n ≤ 8
          → (scope.width ≤ scope.top) × PreList R E T A M F S₁ next (raised scope given-n) given-n
      call_arguments_pre o = (
        pre.given.room.above,
        by_node Q_call pre.e pre.given l
            (λ _. PreList R E T A M F S₁ next (raised scope given-n) given-n)
            λ m e es g.
            subst (λ (k : ℕ). PreList R E T A M F S₁ k (raised scope given-n) given-n)
            (sym (row_of (call_1 g)).end) (arguments_of o g),
      )

      -- more than 8 arguments
      module _ {S₂ C₂ : List ℕ} {many : Answer} (o : 8 < given-n)
          (i : PostItems R E T A M F S₁ C₁ S₂ C₂ next scope given-n (typed_case Null 0) many) where
        many_next : {p : Program} {γ : Environment} {d m : ℕ} {e : Expr} {es : Exprs}
            → Given R E T A M F S at scope p (call m e es) γ d
            → PostItems R E T A M F S₁ C₁ S₂ C₂ (at + 1 + size e) scope given-n (typed_case Null 0) many
        many_next g = subst (λ (k : ℕ). PostItems R E T A M F S₁ C₁ S₂ C₂ k scope given-n (typed_case Null 0) many)
            (row_of (call_1 g)).end i

        kept-many : Kept S S₂ C C₂ at (get_or E at 0) scope.width scope.top
        kept-many = by_node Q_call pre.e pre.given l
            (λ _. Kept S S₂ C C₂ at (get_or E at 0) scope.width scope.top)
            λ m e es g.
            let n = many_next g in
            kept_then kept-1 (record {
              slots_long = n.slots_long;
              classes_long = n.classes_long;
              between = n.between;
              before = λ j u. n.before j (omega arith);
              after = λ j u. n.after (items_of g) j
                  (omega (arith, u, (call_row g).0.end));
            })

        pub call_fail_many : {f : Refusal} → many ≡ Err f → Post R E T A M F S C S₂ C₂ at scope (Err f)
        call_fail_many {f} h = post_of kept-many λ p z γ d g.
            by_node Q_call z g l (λ w. Is (world p.classes) w γ at scope.size S₂ C₂ (Err f)) λ m e es g.
            let u = did (call_1 g) q ok in
            let w = (many_next g).is (items_of g) null_type refl in
            many_refused g.headed m e es at (at + 1 + size e) scope.size (at + 1 + 1) γ u.a
            S₂ C₂ f null_type 0 refl u.typed_at (sym h ∙ w.out)

        pub call_many : {x : TypedCase} {f : Refusal} → many ≡ Ok x → f ≡ no_method_for at a.typing
            → Post R E T A M F S C S₂ C₂ at scope (Err f)
        call_many {x} {f} h e₁ = post_of kept-many λ p z γ d g.
            by_node Q_call z g l (λ w. Is (world p.classes) w γ at scope.size S₂ C₂ (Err f)) λ m e es g.
            let u = did (call_1 g) q ok in
            let w = (many_next g).is (items_of g) null_type refl in
            many_is g.headed m e es at (at + 1 + size e) scope.size (at + 1 + 1) γ u.a
            S₂ C₂ a x f null_type 0 (call_row g).1 (omega (arith, o, count_of g))
            refl u.typed_at u.accepted.declared u.is (sym h ∙ w.out) e₁

      module _ (o : given-n ≤ 8) {S₂ C₂ : List ℕ} {r₂ : Result ℕ Refusal}
          (i : PostArguments R E T A M F S₁ C₁ S₂ C₂ next scope given-n r₂) where
        at_next : {p : Program} {γ : Environment} {d m : ℕ} {e : Expr} {es : Exprs}
            → Given R E T A M F S at scope p (call m e es) γ d
            → PostArguments R E T A M F S₁ C₁ S₂ C₂ (at + 1 + size e) scope given-n r₂
        at_next g = subst (λ (k : ℕ). PostArguments R E T A M F S₁ C₁ S₂ C₂ k scope given-n r₂)
            (row_of (call_1 g)).end i

        kept-few : Kept S S₂ C C₂ at (get_or E at 0) scope.width scope.top
        kept-few = by_node Q_call pre.e pre.given l
            (λ _. Kept S S₂ C C₂ at (get_or E at 0) scope.width scope.top) λ m e es g.
            let n = at_next g in
            kept_then kept-1 (record {
              slots_long = n.slots_long;
              classes_long = n.classes_long;
              between = n.between;
              before = λ j u. n.before j (omega arith);
              after = λ j u. n.after (arguments_of o g) j
                  (omega (arith, u, (call_row g).0.end));
            })

        outcome : {p : Program} {γ : Environment} {d m : ℕ} {e : Expr} {es : Exprs}
            (g : Given R E T A M F S at scope p (call m e es) γ d)
            → ArgumentsAre (world p.classes) es (did (call_1 g) q ok).a.slots (at + 1 + size e)
            scope.size scope.top given-n S₂ C₂ r₂
        outcome g = (at_next g).is (arguments_of o g)

        pub call_fail_arguments : {f : Refusal} → r₂ ≡ Err f → Post R E T A M F S C S₂ C₂ at scope (Err f)
        unfolding type_of
        call_fail_arguments {f} h = post_of kept-few λ p z γ d g.
            by_node Q_call z g l (λ w. Is (world p.classes) w γ at scope.size S₂ C₂ (Err f)) λ m e es g.
            let u = did (call_1 g) q ok in
            let w = result_err (λ (c : TypedAll). c.effect)
            (type_all (world p.classes) es (at + 1 + size e + 1) u.a.slots) f (sym (outcome g).out ∙ h) in
            let line : at + 1 + 1 + size e ≡ at + 1 + size e + 1 = omega arith in
            is_refused _ _ (bind_accepted _ _ _ u.typed_at ∙ bind_refused _ _ _ _
            (ap (λ (j : ℕ). type_all (world p.classes) es j u.a.slots) line ∙ w)) refl

        room-few : scope.top + given-n ≤ length S₂
        room-few = by_node Q_call pre.e pre.given l (λ _. scope.top + given-n ≤ length S₂) λ m e es g.
            omega (arith, (few-given o g).room.room, q.kept.slots_long, i.slots_long)

        slots-few : scope.size ≤ length S₂
        slots-few = omega (arith, room_slots pre.given.room, kept-few.slots_long)

        module _ {ψ : ℕ} (done : r₂ ≡ Ok ψ) where
          -- the arguments were accepted
          record Argued (p : Program) (es : Exprs) (next₁ : ℕ) (δ : Environment) : Type 0 where
            c : TypedAll
            typed_at : type_all (world p.classes) es (next₁ + 1) δ ≡ accept c
            accepted : AcceptedAll (world p.classes) es δ next₁ scope.size S₂ C₂ c
            effect_is : ψ ≡ c.effect
            kept_types : (j : ℕ) → j < how_many es → get_or S₂ (scope.top + j) 0 ≡ get_or (stored c.types) j 0

          argued : {p : Program} {γ : Environment} {d m : ℕ} {e : Expr} {es : Exprs}
              (g : Given R E T A M F S at scope p (call m e es) γ d)
              → Argued p es (at + 1 + size e) (did (call_1 g) q ok).a.slots
          argued {p} {e = e} {es} g =
              let w = result_ok (λ (c : TypedAll). c.effect)
              (type_all (world p.classes) es (at + 1 + size e + 1) (did (call_1 g) q ok).a.slots)
              (sym (outcome g).out ∙ done) in
              record {
                c = w.a;
                typed_at = w.is;
                accepted = (outcome g).accepted w.a w.is;
                effect_is = sym w.gives;
                kept_types = λ j k. (outcome g).waiting w.a w.is j (omega (arith, k, count_of g));
              }

          pub call_invoke_pre : PreInvoke R T A M F S₂ at scope a.typing ψ
          call_invoke_pre = by_node Q_call pre.e pre.given l
              (λ _. PreInvoke R T A M F S₂ at scope a.typing ψ) λ m e es g.
              let u = did (call_1 g) q ok in
              let w = argued g in
              let row = call_row g in
              subst (λ (φ : ℕ). PreInvoke R T A M F S₂ at scope a.typing φ) (sym w.effect_is)
              (pre_invoke g.headed m es at (at + 1 + size e) (at + 1 + size e + 1) scope
              u.a.slots u.a w.c S₂ C₂ a row.0.row row.1
              w.typed_at w.accepted slots-few
              (omega (arith, room-few, count_of g)) u.accepted.declared w.kept_types u.is)

          pub call_done : {S₃ C₃ : List ℕ} {r : Answer}
              → Invoked R T A M F S₂ C₂ at scope a.typing a.effect ψ S₃ C₃ r
              → Post R E T A M F S C S₃ C₃ at scope r
          call_done {S₃} {C₃} {r} v =
              let k = invoked_kept {x = a} v in
              post_of (kept_then (kept_then kept-few (kept_slots k.0
              (λ j x y. k.1 j (omega (arith, pre.given.room.scoped)))))
              (kept_classes at k.2 k.3 (omega arith) (after_row pre)))
              λ p z γ d g. by_node Q_call z g l (λ w. Is (world p.classes) w γ at scope.size S₃ C₃ r)
              λ m e es g.
              let u = did (call_1 g) q ok in
              let w = argued g in
              let row = call_row g in
              call_is g.headed m e es at (at + 1 + size e) (at + 1 + 1)
              (at + 1 + size e + 1) scope γ u.a w.c S₂ C₂ S₃ C₃ a r row.0.row row.1 refl
              u.typed_at w.typed_at u.accepted.declared w.accepted slots-few w.kept_types
              (looks_frame (world p.classes) C₁ C₂ i.classes_long e γ (at + 1)
              (λ j x y. (at_next g).before j y)
              u.accepted.looks)
              u.is
              (subst (λ (φ : ℕ). Invoked R T A M F S₂ C₂ at scope a.typing a.effect φ S₃ C₃ r)
              w.effect_is v)
