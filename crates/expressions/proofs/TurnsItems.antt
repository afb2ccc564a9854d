-- The function items: the expressions of a block one by one. Assumes nothing.
use mathlib.Core.Path.{◌≡◌, refl, sym, ap, ap₂, subst, ◌∙◌}
use mathlib.Core.List.{List, [], ◌∷◌}
use Prim.Native.Nat.{ℕ, ◌+◌, ◌-◌, ◌≤◌}
use native.Mathlib.Omega.{arith}
use lib.ListN.{length, get_or}
use Rattle.language.specs.Lists.{nth}
use Rattle.language.specs.Results.{Checked, accept, refuse, bind_checked, accept≢refuse, accept_injective}
use Rattle.language.specs.Results.{bind_checked_inv}
use Rattle.language.specs.Tree.{ExprType, Program, Expr, Exprs, nil, cons, size, sizes, count as how_many}
use Rattle.language.specs.World.{World}
use Rattle.language.specs.Effects.{join, apply_expr}
use Rattle.language.specs.Program.{world}
use Rattle.language.specs.Environment.{Environment}
use Rattle.language.specs.Typing.{Typed, TypedAll, typed, last_type, type_of, type_all}
use Rattle.language.specs.LookupClasses.{LooksUp}
use Rattle.language.proofs.Nodes.{Head}
use Rattle.types.specs.declared.Typed.{Typed as TypedCase}
use Rattle.types.specs.declared.slots.Scope.{Scope}
use Rattle.types.specs.declared.Typing.{Typing}
use Rattle.std.specs.Prelude.{Ok, Err}
use Rattle.language.specs.declared.Refusal.{Refusal}
use Rattle.types.specs.Answers.{Answer, answer, answer_of, typed_case, typing_case}
use Rattle.expressions.specs.Cycle.{GivenAll, Post, PreList, AcceptedAll, ItemsAre, PostItems}
use Rattle.expressions.proofs.EffectLaws.{join_assoc, join_none, apply_none}
use Rattle.expressions.proofs.Turns.{list_pre, bind_refused}
use Rattle.expressions.proofs.TurnsNodes.{Did, did, failed, after_row, row_of}
use Rattle.expressions.proofs.TurnsLists.{none_accepted, by_nil, by_list, list_first, list_rest}
use Rattle.expressions.proofs.TurnsLists.{first_pre}
use Rattle.expressions.proofs.TurnsLists.{rest_pre, both, cons_accepted, cons_refused, all_cons}
use Rattle.expressions.proofs.TurnsLists.{first_after}

-- the last type does not depend on the first where there are more
last_same : (t u : ExprType) (ts : List ExprType) → (ts ≡ [] → t ≡ u) → last_type t ts ≡ last_type u ts
last_same t u [] f = f refl
last_same t u (x ∷ ts) f = refl

types_none : (W : World) (es : Exprs) (l : ℕ) (γ : Environment) (b : TypedAll) → type_all W es l γ ≡ accept b
    → b.types ≡ [] → b.effect ≡ 0
unfolding type_of
types_none W nil l γ b h e = sym (ap (λ (x : TypedAll). x.effect) (accept_injective h))
types_none W (cons x es) l γ b h e = bind_checked_inv (type_of W x l γ) _ h λ a p q.
    bind_checked_inv (type_all W es (l + size x) a.slots) _ q λ c u v.
    let z : apply_expr W c.effect a.type ∷ c.types ≡ [] =
    ap (λ (x : TypedAll). x.types) (accept_injective v) ∙ e in
    absurd (let y : ◌≡◌ {A = ℕ} 0 1 = cc in omega arith)

item_out : (W : World) (es : Exprs) (l : ℕ) (a : Typed) (t : ExprType) (φ : ℕ)
    → answer_of (bind_checked (type_all W es l a.slots) λ b. typed (last_type a.type b.types)
    b.slots (join (join φ a.effect) b.effect))
    ≡ answer_of (bind_checked (bind_checked (type_all W es l a.slots) λ b. accept (both W a b)) λ b. typed
    (last_type t b.types) b.slots (join φ b.effect))
unfolding bind_checked
item_out W es l a t φ = go (type_all W es l a.slots) refl
  where
    go : (q : Checked TypedAll) → type_all W es l a.slots ≡ q
        → answer_of (bind_checked q λ b. typed (last_type a.type b.types) b.slots
        (join (join φ a.effect) b.effect))
        ≡ answer_of (bind_checked (bind_checked q λ b. accept (both W a b)) λ b. typed
        (last_type t b.types) b.slots (join φ b.effect))
    go (refuse n k) e = refl
    go (accept b) e =
        let same : last_type a.type b.types ≡ last_type (apply_expr W b.effect a.type) b.types
        = last_same a.type (apply_expr W b.effect a.type) b.types
        (λ z. sym (ap (λ (ψ : ℕ). apply_expr W ψ a.type) (types_none W es l a.slots b e z) ∙
        apply_none W a.type)) in
        ap₂ (λ (u : ExprType) (ψ : ℕ). answer (typing_case u) ψ) same (join_assoc φ a.effect b.effect)

module _ {R E T A M F S C : List ℕ} {at : ℕ} {scope : Scope} {n : ℕ} {last : TypedCase} where
  items_none : {r : Answer} → n ≡ 0 → r ≡ Ok last → PostItems R E T A M F S C S C at scope n last r
  unfolding type_of LooksUp bind_checked nth
  items_none {r} z e = record {
    slots_long = refl;
    classes_long = refl;
    between = λ i l m. refl;
    before = λ i l. refl;
    after = λ ls i l. refl;
    is = λ ls t f. by_nil ls.es n ls.many z
        (λ es. ItemsAre (world ls.p.classes) es ls.γ at scope.size S C last t r)
        (record {
          out = e ∙ ap₂ (λ (u : Typing) (ψ : ℕ). answer u ψ) f (sym (join_none last.effect));
          accepted = λ b q.
              none_accepted (world ls.p.classes) ls.γ at scope.size S C b ls.given.views q;
        });
  }

module _ {R E T A M F S C : List ℕ} {at : ℕ} {scope : Scope} {n : ℕ} (z : n ≡ 0 → ⊥) {S' C' : List ℕ}
    {r₁ : Answer}
    (q : Post R E T A M F S C S' C' at scope r₁) where
  items_fail : {last : TypedCase} {f : Refusal} → r₁ ≡ Err f
      → PostItems R E T A M F S C S' C' at scope n last (Err f)
  items_fail {last} {f} h = record {
    slots_long = q.kept.slots_long;
    classes_long = q.kept.classes_long;
    between = q.kept.between;
    before = q.kept.before;
    after = first_after z q;
    is = λ ls t u.
        let W = world ls.p.classes in
        by_list ls z (λ es. ItemsAre W es ls.γ at scope.size S' C' last t (Err f)) λ e xs m g.
        let c = cons_refused W e xs at ls.γ f.number f.line (failed (list_first g) q h) in
        record {
          out = sym (ap answer_of (bind_refused (type_all W (cons e xs) (at + 1) ls.γ)
              (λ b. typed (last_type t b.types) b.slots (join last.effect b.effect)) f.number f.line
              c));
          accepted = λ b y. absurd (accept≢refuse f.number f.line (sym c ∙ y));
        };
  }

  module _ {x : TypedCase} (ok : r₁ ≡ Ok x) {so : TypedCase} {r : Answer} {S'' C'' : List ℕ}
      (o : PostItems R E T A M F S' C' S'' C'' (get_or E at 0) scope (n - 1) so r) where
    rest_at : (e : Expr)
        → Head R E e at → PostItems R E T A M F S' C' S'' C'' (at + size e) scope (n - 1) so r
    rest_at e h = subst (λ (k : ℕ). PostItems R E T A M F S' C' S'' C'' k scope (n - 1) so r) h.end o

    module _ {p : Program} {e : Expr} {xs : Exprs} {γ : Environment} {d : ℕ} (m : n - 1 ≡ how_many xs)
        (g : GivenAll R E T A M F S at scope p (cons e xs) γ d) where
      abbrev W : World
      W = world p.classes

      first-did : Did W e γ at scope.size S' C' x
      first-did = did (list_first g) q ok

      abbrev rest_of : PreList R E T A M F S' (at + size e) scope (n - 1)
      rest_of = list_pre m (list_rest g q.kept first-did)

      after-rest : (i : ℕ) → at + sizes (cons e xs) ≤ i → get_or C'' i 0 ≡ get_or C' i 0
      unfolding size
      after-rest i l = (rest_at e (row_of (list_first g))).after rest_of i (omega (arith, l))

      rest_is : so.typing ≡ x.typing
          → ItemsAre W xs first-did.a.slots (at + size e) scope.size S'' C'' so first-did.a.type r
      rest_is same = (rest_at e (row_of (list_first g))).is rest_of first-did.a.type
          (same ∙ ap (λ (y : TypedCase). y.typing) first-did.is)

      both-are : {last : TypedCase} → so ≡ typed_case x.typing (join last.effect x.effect) → (t : ExprType)
          → ItemsAre W (cons e xs) γ at scope.size S'' C'' last t r
      both-are {last} same t =
          let rest = rest_is (ap (λ (y : TypedCase). y.typing) same) in
          let w = first-did in
          let f : so.effect ≡ join last.effect w.a.effect = ap (λ (y : TypedCase). y.effect) same
          ∙ ap (λ (y : TypedCase). join last.effect y.effect) w.is in
          let c = cons_accepted W e xs at γ w.a w.typed_at in
          record {
            out = rest.out
                ∙ (ap (λ (φ : ℕ). answer_of (bind_checked (type_all W xs (at + size e + 1) w.a.slots)
                λ b. typed (last_type w.a.type b.types) b.slots (join φ b.effect))) f
                ∙ (item_out W xs (at + size e + 1) w.a t last.effect
                ∙ ap (λ (y : Checked TypedAll).
                answer_of (bind_checked y λ b. typed (last_type t b.types) b.slots
                (join last.effect b.effect))) (sym c)));
            accepted = λ b y.
                bind_checked_inv (type_all W xs (at + size e + 1) w.a.slots)
                (λ k. accept (both W w.a k))
                (sym c ∙ y) λ k u v.
                subst (λ (k : TypedAll). AcceptedAll W (cons e xs) γ at scope.size S'' C'' k)
                (accept_injective v)
                (all_cons g.headed w o.classes_long
                (λ i l. (rest_at e (row_of (list_first g))).before i l) (rest.accepted k u));
          }

    items-step : {last : TypedCase} → PreList R E T A M F S at scope n
        → so ≡ typed_case x.typing (join last.effect x.effect)
        → PostItems R E T A M F S C S'' C'' at scope n last r
    items-step {last} pre same = record {
      slots_long = o.slots_long ∙ q.kept.slots_long;
      classes_long = o.classes_long ∙ q.kept.classes_long;
      between = λ i l m. o.between i l m ∙ q.kept.between i l m;
      before = λ i l. o.before i (omega (arith, after_row (first_pre pre z))) ∙ q.kept.before i l;
      after = λ ls i l.
          by_list ls z (λ es. at + sizes es ≤ i → get_or C'' i 0 ≡ get_or C' i 0) (λ e xs m g. after-rest m g i) l
          ∙ first_after z q ls i l;
      is = λ ls t u. by_list ls z
          (λ es. ItemsAre (world ls.p.classes) es ls.γ at scope.size S'' C'' last t r) λ e xs m g.
          both-are m g same t;
    }

-- ---- the loop over the expressions of a block
-- so many are left, from a row on; what they come to after those before, all come to
pub record ItemsLoop (R E T A M F S C : List ℕ) (at : ℕ) (scope : Scope) (n : ℕ) (last : TypedCase)
    (S₁ C₁ : List ℕ)
    (so : TypedCase) (next left : ℕ) : Type 0 where
  pub pre : PreList R E T A M F S₁ next scope left
  pub later : at ≤ next
  pub slots_long : length S₁ ≡ length S
  pub classes_long : length C₁ ≡ length C
  pub rest : {S' C' : List ℕ} {r : Answer} → PostItems R E T A M F S₁ C₁ S' C' next scope left so r
      → PostItems R E T A M F S C S' C' at scope n last r

pub items_start : {R E T A M F S C : List ℕ} {at : ℕ} {scope : Scope} {n : ℕ} {last : TypedCase}
    {left : ℕ} → PreList R E T A M F S at scope n → left ≡ n → ItemsLoop R E T A M F S C at scope n last S C last at left
items_start pre e = rw e (record {
  pre = pre;
  later = omega arith;
  slots_long = refl;
  classes_long = refl;
  rest = λ o. o;
})

module _ {R E T A M F S C : List ℕ} {at : ℕ} {scope : Scope} {n : ℕ} {last : TypedCase} {S₁ C₁ : List ℕ}
    {so : TypedCase}
    {next left : ℕ} (w : ItemsLoop R E T A M F S C at scope n last S₁ C₁ so next left) where
  pub items_next : {S₂ C₂ : List ℕ} {r₁ : Answer} {x so' : TypedCase} → (left ≡ 0 → ⊥)
      → Post R E T A M F S₁ C₁ S₂ C₂ next scope r₁ → r₁ ≡ Ok x
      → so' ≡ typed_case x.typing (join so.effect x.effect) → length S₂ ≡ length S₁
      → length C₂ ≡ length C₁ → {left' : ℕ} → left' ≡ left - 1
      → ItemsLoop R E T A M F S C at scope n last S₂ C₂ so' (get_or E next 0) left'
  items_next z q ok same a b e = rw e (record {
    pre = rest_pre w.pre z q ok;
    later = omega (arith, w.later, after_row (first_pre w.pre z));
    slots_long = a ∙ w.slots_long;
    classes_long = b ∙ w.classes_long;
    rest = λ o. w.rest (items-step z q ok o w.pre same);
  })

  pub items_ended : {r : Answer} → left ≡ 0 → r ≡ Ok so
      → PostItems R E T A M F S C S₁ C₁ at scope n last r
  items_ended z e = w.rest (items_none z e)

  pub items_broken : {S₂ C₂ : List ℕ} {r₁ : Answer} {f : Refusal} → (left ≡ 0 → ⊥)
      → Post R E T A M F S₁ C₁ S₂ C₂ next scope r₁ → r₁ ≡ Err f
      → PostItems R E T A M F S C S₂ C₂ at scope n last (Err f)
  items_broken z q f = w.rest (items_fail z q f)
