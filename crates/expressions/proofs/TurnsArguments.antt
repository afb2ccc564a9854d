-- The function arguments: a call's arguments one by one, and their types after the effects of those that
-- follow. Assumes nothing.
use mathlib.Core.Path.{◌≡◌, refl, sym, ap, ap₂, subst, ◌∙◌}
use mathlib.Core.Logic.{⊎_elim}
use mathlib.Core.List.{List, ◌∷◌}
use Prim.Native.Nat.{ℕ, zero, suc, ◌+◌, ◌-◌, ◌≤◌, ◌<◌}
use native.Mathlib.Omega.{arith}
use lib.ListN.{length, get_or}
use Rattle.language.specs.Lists.{nth}
use Rattle.language.specs.Results.{Checked, accept, refuse, bind_checked, bind_checked_inv, accept≢refuse}
use Rattle.language.specs.Results.{accept_injective}
use Rattle.language.specs.Tree.{Program, Expr, Exprs, cons, size, sizes, count as how_many}
use Rattle.language.specs.World.{World}
use Rattle.language.specs.Effects.{join, apply_expr}
use Rattle.language.specs.Program.{world}
use Rattle.language.specs.Environment.{Environment}
use Rattle.language.specs.Typing.{Typed, TypedAll, type_of, type_all}
use Rattle.language.specs.LookupClasses.{LooksUp}
use Rattle.language.proofs.Lines.{less_or_same}
use Rattle.language.proofs.Nodes.{Head}
use Rattle.types.specs.declared.Typed.{Typed as TypedCase}
use Rattle.types.specs.declared.slots.Scope.{Scope}
use Rattle.std.specs.Prelude.{Result, Ok, Err}
use Rattle.language.specs.declared.Refusal.{Refusal}
use Rattle.language.specs.Refusals.{result_of}
use Rattle.types.specs.Answers.{Answer, case_number}
use Rattle.types.specs.Tables.{Applicable, Known, applied_number, PostStore}
use Rattle.expressions.specs.Cycle.{Given, GivenAll, raised, Pre, Post, PreList, AcceptedAll}
use Rattle.expressions.specs.Cycle.{PostArguments}
use Rattle.expressions.specs.Cycle.{stored}
use Rattle.expressions.proofs.EffectLaws.{join_assoc, join_none}
use Rattle.types.proofs.Laws.{known_same}
use Rattle.expressions.proofs.TypeNumbers.{applied_case}
use Rattle.expressions.proofs.AppliedNumbers.{applied_none, applied_join, known_applied, known_case}
use Rattle.expressions.proofs.AppliedNumbers.{known_applicable}
use Rattle.expressions.proofs.Turns.{pre_of, list_pre, room_next, views_same}
use Rattle.expressions.proofs.TurnsNodes.{Did, did, failed, after_row, row_of}
use Rattle.expressions.proofs.TurnsLists.{none_accepted, by_nil, by_list, list_first, list_rest, both}
use Rattle.expressions.proofs.TurnsLists.{cons_accepted, cons_refused, all_cons, first_after}

-- an argument has room below the room of all
lower_top : {R E T A M F S : List ℕ} {at : ℕ} {scope : Scope} {p : Program} {e : Expr} {γ : Environment}
    {d : ℕ} (i n : ℕ) → i ≤ n → scope.width ≤ scope.top → Given R E T A M F S at (raised scope n) p e γ d
    → Given R E T A M F S at (raised scope i) p e γ d
lower_top {scope = scope} {d = d} i n m l g = record {
  headed = g.headed;
  encoded = g.encoded;
  in_form = g.in_form;
  views = g.views;
  room = room_next (raised scope i) d g.room refl g.room.this g.room.scoped g.room.arguments
      (omega arith)
      (omega arith);
}

-- An effect so far, joined with those that are accepted.
abbrev joined_effects : ℕ → Checked TypedAll → Result ℕ Refusal
joined_effects φ q = result_of (λ (b : TypedAll). join φ b.effect) q

-- What the arguments that are left come to: the definition's answer. Where they are accepted, their effect is
-- applied to the types of the i that wait, and their own types follow.
pub record Comes (W : World) (T S S' C' : List ℕ) (at : ℕ) (scope : Scope) (i left φ : ℕ)
    (r : Result ℕ Refusal) (γ : Environment) (es : Exprs) : Type 0 where
  pub is : r ≡ joined_effects φ (type_all W es (at + 1) γ)
  pub accepted : (b : TypedAll) → type_all W es (at + 1) γ ≡ accept b
      → AcceptedAll W es γ at scope.size S' C' b
  pub waited : (b : TypedAll) → type_all W es (at + 1) γ ≡ accept b → (k : ℕ) → k < i
      → get_or S' (scope.top + k) 0 ≡ applied_number T b.effect (get_or S (scope.top + k) 0)
  pub own : (b : TypedAll) → type_all W es (at + 1) γ ≡ accept b → (k : ℕ) → k < left
      → get_or S' (scope.top + i + k) 0 ≡ get_or (stored b.types) k 0

-- What typing the arguments that are left keeps, and what they come to.
pub record PostLeft (R E T A M F S C S' C' : List ℕ) (at : ℕ) (scope : Scope) (n i left φ : ℕ)
    (r : Result ℕ Refusal) : Type 0 where
  pub slots_long : length S' ≡ length S
  pub classes_long : length C' ≡ length C
  pub between : (k : ℕ) → scope.width ≤ k → k < scope.top → get_or S' k 0 ≡ get_or S k 0
  pub before : (k : ℕ) → k < at → get_or C' k 0 ≡ get_or C k 0
  pub after : (ls : PreList R E T A M F S at (raised scope n) left) (k : ℕ) → at + sizes ls.es ≤ k
      → get_or C' k 0 ≡ get_or C k 0
  pub out : (ls : PreList R E T A M F S at (raised scope n) left)
      → Comes (world ls.p.classes) T S S' C' at scope i left φ r ls.γ ls.es

-- an effect so far is joined to that of an argument, then to those of the rest
argument_out : (W : World) (es : Exprs) (l : ℕ) (a : Typed) (φ : ℕ)
    → joined_effects (join φ a.effect) (type_all W es l a.slots)
    ≡ joined_effects φ (bind_checked (type_all W es l a.slots) λ b. accept (both W a b))
unfolding bind_checked
argument_out W es l a φ = go (type_all W es l a.slots)
  where
    go : (q : Checked TypedAll)
        → joined_effects (join φ a.effect) q ≡ joined_effects φ (bind_checked q λ b. accept (both W a b))
    go (refuse n k) = refl
    go (accept b) = ap Ok (join_assoc φ a.effect b.effect)

-- none is left
left_none : {R E T A M F S C : List ℕ} {at : ℕ} {scope : Scope} {n i left φ : ℕ} {r : Result ℕ Refusal} → left ≡ 0
    → r ≡ Ok φ → PostLeft R E T A M F S C S C at scope n i left φ r
unfolding type_of LooksUp bind_checked nth
left_none {T = T} {S = S} {C} {at} {scope} {n} {i} {left} {φ} {r} z e = record {
  slots_long = refl;
  classes_long = refl;
  between = λ k l m. refl;
  before = λ k l. refl;
  after = λ ls k l. refl;
  out = λ ls. by_nil ls.es left ls.many z
      (Comes (world ls.p.classes) T S S C at scope i left φ r ls.γ) (record {
        is = e ∙ ap Ok (sym (join_none φ));
        accepted = λ b q.
            none_accepted (world ls.p.classes) ls.γ at scope.size S C b ls.given.views q;
        waited = λ b q k l. sym (ap (λ (x : TypedAll). applied_number T x.effect
            (get_or S (scope.top + k) 0))
            (sym (accept_injective q)) ∙ applied_none T (get_or S (scope.top + k) 0));
        own = λ b q k l. absurd (omega (arith, z, l));
      });
}

-- ---- the loop over the arguments

-- From a row on some are left, and the types of i wait; what those left come to, all come to.
pub record ArgumentsLoop (R E T A M F S C : List ℕ) (at : ℕ) (scope : Scope) (n : ℕ) (S₁ C₁ : List ℕ)
    (φ next i : ℕ) : Type 0 where
  pub left : ℕ
  pub sum : i + left ≡ n
  pub above : scope.width ≤ scope.top
  pub pre : PreList R E T A M F S₁ next (raised scope n) left
  pub later : at ≤ next
  pub slots_long : length S₁ ≡ length S
  pub classes_long : length C₁ ≡ length C
  pub waiting : (k : ℕ) → k < i → Known scope.count (get_or S₁ (scope.top + k) 0)
  pub rest : {S' C' : List ℕ} {r : Result ℕ Refusal} → PostLeft R E T A M F S₁ C₁ S' C' next scope n i left φ r
      → PostArguments R E T A M F S C S' C' at scope n r

all_left : {R E T A M F S C S' C' : List ℕ} {at : ℕ} {scope : Scope} {n : ℕ} {r : Result ℕ Refusal}
    → PostLeft R E T A M F S C S' C' at scope n 0 n 0 r → PostArguments R E T A M F S C S' C' at scope n r
unfolding join
all_left {scope = scope} o = record {
  slots_long = o.slots_long;
  classes_long = o.classes_long;
  between = o.between;
  before = o.before;
  after = o.after;
  is = λ ls. let y = o.out ls in record {
    out = y.is;
    accepted = y.accepted;
    waiting = λ b t k j. let e : scope.top + k ≡ scope.top + 0 + k = omega arith in rw e (y.own b t k j);
  };
}

pub arguments_start : {R E T A M F S C : List ℕ} {at : ℕ} {scope : Scope} {n : ℕ} → scope.width ≤ scope.top
    → PreList R E T A M F S at (raised scope n) n → ArgumentsLoop R E T A M F S C at scope n S C 0 at 0
arguments_start {n = n} l pre = record {
  left = n;
  sum = omega arith;
  above = l;
  pre = pre;
  later = omega arith;
  slots_long = refl;
  classes_long = refl;
  waiting = λ k m. absurd (omega arith);
  rest = λ o. all_left o;
}

module _ {R E T A M F S C : List ℕ} {at : ℕ} {scope : Scope} {n : ℕ} {S₁ C₁ : List ℕ} {φ next i : ℕ}
    (w : ArgumentsLoop R E T A M F S C at scope n S₁ C₁ φ next i) where
  pub arguments_ended : {r : Result ℕ Refusal} → n ≤ i → r ≡ Ok φ
      → PostArguments R E T A M F S C S₁ C₁ at scope n r
  arguments_ended m e = w.rest (left_none (omega (arith, w.sum)) e)

  module _ (m : i < n) where
    more : w.left ≡ 0 → ⊥
    more e = omega (arith, w.sum)

    first_of : {p : Program} {e : Expr} {es : Exprs} {γ : Environment} {d : ℕ}
        → GivenAll R E T A M F S₁ next (raised scope n) p (cons e es) γ d
        → Given R E T A M F S₁ next (raised scope i) p e γ d
    first_of g = lower_top i n (omega arith) w.above (list_first g)

    pub argument_pre : Pre R E T A M F S₁ next (raised scope i)
    argument_pre = by_list w.pre more (λ _. Pre R E T A M F S₁ next (raised scope i)) λ e es k g.
        pre_of (first_of g)

    module _ {S₂ C₂ : List ℕ} {r₁ : Answer} (q : Post R E T A M F S₁ C₁ S₂ C₂ next (raised scope i) r₁) where
      left-fail : {f : Refusal} → r₁ ≡ Err f
          → PostLeft R E T A M F S₁ C₁ S₂ C₂ next scope n i w.left φ (Err f)
      left-fail {f} h = record {
        slots_long = q.kept.slots_long;
        classes_long = q.kept.classes_long;
        between = λ k a b. q.kept.between k a (omega arith);
        before = q.kept.before;
        after = first_after more q;
        out = λ ls.
            let W = world ls.p.classes in
            by_list ls more (Comes W T S₁ S₂ C₂ next scope i w.left φ (Err f) ls.γ) λ e xs k g.
            let c = cons_refused W e xs next ls.γ f.number f.line (failed (first_of g) q h) in record {
              is = sym (ap (joined_effects φ) c);
              accepted = λ b y. absurd (accept≢refuse f.number f.line (sym c ∙ y));
              waited = λ b y. absurd (accept≢refuse f.number f.line (sym c ∙ y));
              own = λ b y. absurd (accept≢refuse f.number f.line (sym c ∙ y));
            };
      }

      pub arguments_broken : {f : Refusal} → r₁ ≡ Err f
          → PostArguments R E T A M F S C S₂ C₂ at scope n (Err f)
      arguments_broken h = w.rest (left-fail h)

      -- the types that wait stay as they are while an argument is typed
      still : (k : ℕ) → k < i → get_or S₂ (scope.top + k) 0 ≡ get_or S₁ (scope.top + k) 0
      still k l = q.kept.between (scope.top + k) (omega (arith, w.above)) (omega arith)

      pub store_ready : (scope.top + i < length S₂)
          × ((k : ℕ) → k < i → Applicable T (get_or S₂ (scope.top + k) 0))
      store_ready = (
        omega (arith, w.pre.given.room.room, q.kept.slots_long),
        λ k l. known_applicable w.pre.given.headed (known_same (still k l) (w.waiting k l)),
      )

      module _ {x : TypedCase} (ok : r₁ ≡ Ok x) {S₃ : List ℕ} (v : PostStore T S₂ S₃ scope.top i x)
        where
          -- the argument that was typed, with what is known of all
          by_first : {X : Type 0}
              → ((e : Expr) (xs : Exprs) → w.left - 1 ≡ how_many xs
              → (g : GivenAll R E T A M F S₁ next (raised scope n) w.pre.p (cons e xs) w.pre.γ
              w.pre.d)
              → Did (world w.pre.p.classes) e w.pre.γ next scope.size S₂ C₂ x → X) → X
          by_first {X} f = by_list w.pre more (λ _. X) λ e xs k g. f e xs k g (did (first_of g) q ok)

          known_next : (k : ℕ) → k < i + 1 → Known scope.count (get_or S₃ (scope.top + k) 0)
          known_next k l = ⊎_elim
              (λ (l : k < i). known_same (v.waiting k l)
              (known_applied w.pre.given.headed x.effect (known_same (still k l) (w.waiting k l))))
              (λ (e : k ≡ i). rw e (known_same v.last (by_first λ y xs j g u.
              known_same (ap (λ (a : TypedCase). case_number a.typing) u.is)
              (known_case g.headed u.a.type u.accepted.declared))))
              (less_or_same k i (omega arith))

          -- the rest has the slots with the types that wait
          rest-given : {p : Program} {e : Expr} {xs : Exprs} {γ : Environment} {d : ℕ}
              → (g : GivenAll R E T A M F S₁ next (raised scope n) p (cons e xs) γ d)
              → (u : Did (world p.classes) e γ next scope.size S₂ C₂ x)
              → GivenAll R E T A M F S₃ (next + size e) (raised scope n) p xs u.a.slots d
          rest-given {d = d} g u = let r = list_rest g q.kept u in record {
            headed = r.headed;
            encoded = r.encoded;
            in_form = r.in_form;
            views = views_same r.views (omega (arith, r.room.room, r.room.scoped, r.room.above))
                v.long (λ k l. v.below k (omega (arith, r.room.scoped, w.above)));
            room = room_next (raised scope n) d r.room v.long r.room.this r.room.scoped
                r.room.arguments
                r.room.above (omega arith);
          }

          left-pre : PreList R E T A M F S₃ (get_or E next 0) (raised scope n) (w.left - 1)
          left-pre = by_first λ e xs k g u.
              subst (λ (j : ℕ). PreList R E T A M F S₃ j (raised scope n) (w.left - 1))
              (sym (row_of (list_first g)).end) (list_pre k (rest-given g u))

          module _ {S' C' : List ℕ} {r : Result ℕ Refusal}
              (o : PostLeft R E T A M F S₃ C₂ S' C' (get_or E next 0) scope n (i + 1) (w.left - 1)
              (join φ x.effect) r)
            where
              rest_at : (e : Expr) → Head R E e next
                  → PostLeft R E T A M F S₃ C₂ S' C' (next + size e) scope n (i + 1) (w.left - 1)
                  (join φ x.effect) r
              rest_at e h =
                  subst (λ (k : ℕ). PostLeft R E T A M F S₃ C₂ S' C' k scope n (i + 1) (w.left - 1)
                  (join φ x.effect) r) h.end o

              -- where the numbers stand in the end: those that waited, the argument's own, those of the rest
              module _ {p : Program} {e : Expr} {xs : Exprs} {γ : Environment} {d : ℕ}
                  (g : GivenAll R E T A M F S₁ next (raised scope n) p (cons e xs) γ d)
                  (u : Did (world p.classes) e γ next scope.size S₂ C₂ x) (b : TypedAll)
                  (y : (k : ℕ) → k < i + 1
                  → get_or S' (scope.top + k) 0 ≡ applied_number T b.effect (get_or S₃ (scope.top + k) 0))
                where
                  both-waited : (k : ℕ) → k < i → get_or S' (scope.top + k) 0
                      ≡ applied_number T (join u.a.effect b.effect) (get_or S₁ (scope.top + k) 0)
                  both-waited k l =
                      y k (omega arith)
                      ∙ (ap (applied_number T b.effect) (v.waiting k l
                      ∙ ap₂ (applied_number T) (ap (λ (a : TypedCase). a.effect) u.is) (still k l))
                      ∙ applied_join g.headed u.a.effect b.effect (w.waiting k l))

                  both_own : ((k : ℕ) → k < w.left - 1
                      → get_or S' (scope.top + (i + 1) + k) 0 ≡ get_or (stored b.types) k 0)
                      → (k : ℕ) → k < w.left
                      → get_or S' (scope.top + i + k) 0
                      ≡ get_or (stored (apply_expr (world p.classes) b.effect u.a.type ∷ b.types)) k
                      0
                  unfolding stored
                  both_own f zero l = let k : scope.top + i + 0 ≡ scope.top + i = omega arith in
                      rw k (y i (omega arith)
                      ∙ (ap (applied_number T b.effect)
                      (v.last ∙ ap (λ (a : TypedCase). case_number a.typing) u.is)
                      ∙ applied_case g.headed b.effect u.a.type u.accepted.declared))
                  both_own f (suc j) l =
                      let k : scope.top + i + suc j ≡ scope.top + (i + 1) + j = omega arith in
                      rw k (f j (omega (arith, l)))

              step-out : (p : Program) (e : Expr) (xs : Exprs) (γ : Environment) (d : ℕ)
                  → w.left - 1 ≡ how_many xs
                  → GivenAll R E T A M F S₁ next (raised scope n) p (cons e xs) γ d
                  → Comes (world p.classes) T S₁ S' C' next scope i w.left φ r γ (cons e xs)
              step-out p e xs γ d k g =
                  let u = did (first_of g) q ok in
                  let o' = rest_at e (row_of (list_first g)) in
                  let y = o'.out (list_pre k (rest-given g u)) in
                  let c = cons_accepted (world p.classes) e xs next γ u.a u.typed_at in record {
                    is = y.is
                        ∙ (ap (λ (a : TypedCase). joined_effects (join φ a.effect)
                        (type_all (world p.classes) xs (next + size e + 1) u.a.slots)) u.is
                        ∙ (argument_out (world p.classes) xs (next + size e + 1) u.a φ
                        ∙ ap (joined_effects φ) (sym c)));
                    accepted = λ b t. by-rest u c b t
                        (λ b. AcceptedAll (world p.classes) (cons e xs) γ next scope.size S' C' b)
                        λ b s. all_cons g.headed u o'.classes_long (λ k l. o'.before k l)
                        (y.accepted b s);
                    waited = λ b t. by-rest u c b t
                        (λ b. (k : ℕ) → k < i
                        → get_or S' (scope.top + k) 0
                        ≡ applied_number T b.effect (get_or S₁ (scope.top + k) 0))
                        λ b s. both-waited g u b (y.waited b s);
                    own = λ b t. by-rest u c b t
                        (λ b. (k : ℕ) → k < w.left
                        → get_or S' (scope.top + i + k) 0 ≡ get_or (stored b.types) k 0)
                        λ b s. both_own g u b (y.waited b s) (y.own b s);
                  }
                where
                  by-rest : (u : Did (world p.classes) e γ next scope.size S₂ C₂ x)
                      → type_all (world p.classes) (cons e xs) (next + 1) γ
                      ≡ bind_checked (type_all (world p.classes) xs (next + size e + 1) u.a.slots)
                      (λ b. accept (both (world p.classes) u.a b))
                      → (b : TypedAll) → type_all (world p.classes) (cons e xs) (next + 1) γ ≡ accept b
                      → (Q : TypedAll → Type 0)
                      → ((b : TypedAll) → type_all (world p.classes) xs (next + size e + 1) u.a.slots ≡
                      accept b
                      → Q (both (world p.classes) u.a b)) → Q b
                  by-rest u c b t Q f =
                      bind_checked_inv (type_all (world p.classes) xs (next + size e + 1) u.a.slots)
                      (λ b. accept (both (world p.classes) u.a b)) (sym c ∙ t) λ b' s h.
                      subst Q (accept_injective h) (f b' s)

              left_step : PostLeft R E T A M F S₁ C₁ S' C' next scope n i w.left φ r
              unfolding size
              left_step = record {
                slots_long = o.slots_long ∙ (v.long ∙ q.kept.slots_long);
                classes_long = o.classes_long ∙ q.kept.classes_long;
                between = λ k a b. o.between k a b ∙ (v.below k b ∙ q.kept.between k a (omega arith));
                before = λ k l. o.before k (omega (arith, after_row argument_pre)) ∙ q.kept.before k l;
                after = λ ls j l.
                    by_list ls more (λ es. next + sizes es ≤ j → get_or C' j 0 ≡ get_or C₂ j 0)
                    (λ e xs k g l. (rest_at e (row_of (list_first g))).after
                    (list_pre k (rest-given g (did (first_of g) q ok))) j (omega (arith, l))) l
                    ∙ first_after more q ls j l;
                out = λ ls. by_list ls more
                    (Comes (world ls.p.classes) T S₁ S' C' next scope i w.left φ r ls.γ) λ e xs k g.
                    step-out ls.p e xs ls.γ ls.d k g;
              }

          pub arguments_next : {ψ : ℕ} → ψ ≡ join φ x.effect
              → ArgumentsLoop R E T A M F S C at scope n S₃ C₂ ψ (get_or E next 0) (i + 1)
          arguments_next {ψ} e = record {
            left = w.left - 1;
            sum = omega (arith, w.sum);
            above = w.above;
            pre = left-pre;
            later = omega (arith, w.later, after_row argument_pre);
            slots_long = v.long ∙ (q.kept.slots_long ∙ w.slots_long);
            classes_long = q.kept.classes_long ∙ w.classes_long;
            waiting = known_next;
            rest = λ {S'} {C'} {r} o. w.rest (left_step (subst (λ (φ : ℕ). PostLeft R E T A M F S₃ C₂ S' C'
                (get_or E next 0) scope n (i + 1) (w.left - 1) φ r) e o));
          }
