-- The node Q: what its function answers, notes and leaves in the slots is what the definition says.
-- Assumes nothing.
use mathlib.Core.Path.{◌≡◌, refl, sym, ap, ap₂, subst, ◌∙◌}
use mathlib.Core.Bool.{true}
use mathlib.Core.Option.{Option, none, some}
use mathlib.Core.List.{List}
use Prim.Native.Nat.{ℕ, suc, ◌+◌, ◌*◌, ◌≤◌, ◌<◌}
use native.Mathlib.Omega.{arith}
use borrow.Author.Tests.{eq-eqb, ne_eqb}
use lib.ListN.{length, get_or, set as replaced, length-set}
use lib.Seq.{get_or-set_same, get_or-set_other}
use Rattle.language.specs.Results.{Checked, accept, refuse, bind_checked}
use Rattle.language.specs.Rows.{Q_call}
use Rattle.language.specs.Tree.{Program, bool, class, ExprType, known, null_type, Expr, Exprs, call, size}
use Rattle.language.specs.Tree.{count as how_many, Class}
use Rattle.language.specs.World.{Method}
use Rattle.language.specs.Effects.{join, apply_class}
use Rattle.language.specs.Program.{world}
use Rattle.language.specs.Environment.{Environment}
use Rattle.language.specs.Typing.{Typed, TypedAll, typed, last_type, all_fit, apply_all, type_of, type_all}
use Rattle.language.specs.Encoded.{RowAt}
use Rattle.language.specs.LookupClasses.{Notes, LooksUp, LooksUpAll}
use Rattle.language.proofs.Classes as classes
use Rattle.layout.specs.Held.{Headed}
use Rattle.layout.specs.HeldLaws.{few, lower, parameters_few}
use Rattle.types.specs.declared.Typed.{Typed as TypedCase}
use Rattle.std.specs.Prelude.{Ok, Err}
use Rattle.language.specs.declared.Refusal.{Refusal}
use Rattle.language.specs.Refusals.{refusal}
use Rattle.language.proofs.Refusals.{result_err}
use Rattle.types.specs.declared.slots.Scope.{Scope}
use Rattle.types.specs.declared.Typing.{Typing}
use Rattle.types.specs.declared.Typing.TheVariants.{Class as class_case}
use Rattle.types.specs.Answers.{Answer, answer, answer_of, answered, case_of_number, typing_case}
use Rattle.types.specs.Tables.{Changed, applied, applied_slot}
use Rattle.access.specs.Calls.{no_class, no_method, other_count, unfit, done, no_method_for}
use Rattle.access.specs.Calls.{all_fitting, method_place, method_line, parameter_count, PreMethod, Done}
use Rattle.access.specs.Calls.{PreInvoke, Invoked}
use Rattle.access.specs.Fields.{NoClass}
use Rattle.expressions.specs.Cycle.{Declared, AcceptedAll, Is, stored}
use Rattle.types.proofs.Laws.{applicable_known}
use Rattle.expressions.proofs.Worlds.{sound, applied_is}
use Rattle.expressions.proofs.Typings.{looks_frame, looks_frame_all}
use Rattle.expressions.proofs.Turns.{declared_known, type_low, is_refused}
use Rattle.expressions.proofs.Turns.{is_accepted, bind_refused}
use Rattle.expressions.proofs.TypeNumbers.{type_number_case, case_known, applied_low, in_tables}
use Rattle.expressions.proofs.Slots.{known_slots, applied_views}
use Rattle.expressions.proofs.ThisKept.{types_count}
use Rattle.expressions.proofs.MethodFound.{Called, fit_all, the_method, not_there, pre_method}
use Rattle.expressions.proofs.NodeTyping.{call_not, call_none, call_count, call_unfit, call_done}
use Rattle.expressions.proofs.NodeTyping.{call_looks, call_arguments}

-- What Q leaves of slots and table.
same_kept : {S C S' C' : List ℕ} {at scope : ℕ} → S' ≡ S → C' ≡ C
    → (length S' ≡ length S) × ((i : ℕ) → scope ≤ i → get_or S' i 0 ≡ get_or S i 0)
    × (length C' ≡ length C) × ((i : ℕ) → (i ≡ at → ⊥) → get_or C' i 0 ≡ get_or C i 0)
same_kept e f = (
  ap length e,
  (λ i l. ap (λ (x : List ℕ). get_or x i 0) e),
  ap length f,
  λ i n. ap (λ (x : List ℕ). get_or x i 0) f,
)

pub invoked_kept : {R T A M F S C : List ℕ} {at : ℕ} {scope : Scope} {x : TypedCase} {ψ : ℕ} {S' C' : List ℕ}
    {r : Answer}
    → Invoked R T A M F S C at scope x.typing x.effect ψ S' C' r
    → (length S' ≡ length S) × ((i : ℕ) → scope.size ≤ i → get_or S' i 0 ≡ get_or S i 0)
    × (length C' ≡ length C) × ((i : ℕ) → (i ≡ at → ⊥) → get_or C' i 0 ≡ get_or C i 0)
invoked_kept (no_class k e u) = same_kept u.slots_same u.classes_same
invoked_kept (no_method c t z e u) = same_kept u.slots_same u.classes_same
invoked_kept (other_count c i t z n e u) = same_kept u.slots_same u.classes_same
invoked_kept (unfit c i t z k f e u) = same_kept u.slots_same u.classes_same
invoked_kept {T = T} {C = C} {at = at} {ψ = ψ} (done c i t z k f d) = (
  d.slots.long,
  d.slots.rest,
  ap length d.noted ∙ length-set C at (applied T ψ c),
  λ i n. ap (λ (x : List ℕ). get_or x i 0) d.noted ∙ get_or-set_other C at i (applied T ψ c) 0 n,
)

many_not : (at : ℕ) (t : ExprType) → NoClass (typing_case t)
    → no_method_for at (typing_case t) ≡ refusal 9 (at + 1)
unfolding no_method_for
many_not at (known bool) k = refl
many_not at (known (class c)) k = absurd k
many_not at null_type k = refl

many_class_refused : (at c : ℕ) → no_method_for at (class_case c) ≡ refusal 8 (at + 1)
unfolding no_method_for
many_class_refused at c = refl

module _ {p : Program} {R E T A M F : List ℕ} {count : ℕ} (h : Headed R E T A M F p count)
  where
    abbrev P : List Class
    P = p.classes

    pub pre_invoke : (m : ℕ) (es : Exprs) (at next lb : ℕ) (scope : Scope) (γ : Environment) (a : Typed)
        (b : TypedAll) (S C : List ℕ) (x : TypedCase)
        → RowAt R at Q_call m (how_many es) → m < 256
        → type_all (world P) es lb γ ≡ accept b → AcceptedAll (world P) es γ next scope.size S C b
        → scope.size ≤ length S → scope.top + how_many es ≤ length S → Declared (world P) a.type
        → ((i : ℕ) → i < how_many es → get_or S (scope.top + i) 0 ≡ get_or (stored b.types) i 0)
        → x ≡ answered a → PreInvoke R T A M F S at scope x.typing b.effect
    pre_invoke m es at next lb scope γ a b S C x n lm tb ab ls lt da st ex =
        subst (λ (z : TypedCase). PreInvoke R T A M F S at scope z.typing b.effect) (sym ex) (record {
          row = (n.within, omega (arith, n.within, h.here.short));
          scoped = ls;
          name = omega (arith, n.first, lm);
          slots = λ k l. applicable_known (few h) (sound h).long
              (λ j i. omega (arith, (sound h).roots j i, few h))
              (known_slots h ab.views ls k l);
          receiver = λ c q. in_tables h b.effect c (type_low h a.type da c (case_known a.type c q));
          method = λ c i q z.
              let l = applied_low h b.effect c (type_low h a.type da c (case_known a.type c q)) in
              let w = the_method h (applied T b.effect c) m l lm i
              (ap (λ (i : ℕ). method_place T (applied T b.effect c) i) (sym n.first) ∙ z) in
              subst (λ (j : ℕ). PreMethod R A M F S scope.top j i) (sym n.second)
              (pre_method h S scope.top (how_many es) (applied T b.effect c) m i b.types w
              (types_count (world P) es lb γ b tb) lt st ab.types);
        })

    pub call_is : (m : ℕ) (e : Expr) (es : Exprs) (at next la lb : ℕ) (scope : Scope) (γ : Environment)
        (a : Typed) (b : TypedAll) (S C S' C' : List ℕ) (x : TypedCase) (r : Answer)
        → RowAt R at Q_call m (how_many es) → m < 256 → next ≡ at + 1 + size e
        → type_of (world P) e la γ ≡ accept a → type_all (world P) es lb a.slots ≡ accept b
        → Declared (world P) a.type → AcceptedAll (world P) es a.slots next scope.size S C b
        → scope.size ≤ length S
        → ((i : ℕ) → i < how_many es → get_or S (scope.top + i) 0 ≡ get_or (stored b.types) i 0)
        → LooksUp (world P) C e γ (at + 1) → x ≡ answered a
        → Invoked R T A M F S C at scope x.typing x.effect b.effect S' C' r
        → Is (world P) (call m e es) γ at scope.size S' C' r
    call_is m e es at next la lb scope γ a b S C S' C' x r n lm en ta tb da ab ls st lka ex i =
        go (subst (λ (z : TypedCase). Invoked R T A M F S C at scope z.typing z.effect b.effect S' C' r)
        ex i)
      where
        many : length b.types ≡ how_many es
        many = types_count (world P) es lb a.slots b tb

        typed-class : (c : ℕ) → typing_case a.type ≡ class_case c → a.type ≡ known (class c)
        typed-class c t = case_known a.type c t

        low : (c : ℕ) → typing_case a.type ≡ class_case c → c ≤ count
        low c t = type_low h a.type da c (typed-class c t)

        same : (c : ℕ) → typing_case a.type ≡ class_case c
            → applied T b.effect c ≡ apply_class (world P) b.effect c
        same c t = applied_is h b.effect c (low c t)

        at-world : (c : ℕ) → typing_case a.type ≡ class_case c → (o : Option Method)
            → (world P).method (applied T b.effect c) m ≡ o
            → (world P).method (apply_class (world P) b.effect c) m ≡ o
        at-world c t o z = ap (λ (k : ℕ). (world P).method k m) (sym (same c t)) ∙ z

        place : (c v : ℕ) → method_place T (applied T b.effect c) (get_or R (at * 4 + 1) 0) ≡ v
            → method_place T (applied T b.effect c) m ≡ v
        place c v z = ap (λ (j : ℕ). method_place T (applied T b.effect c) j) (sym n.first) ∙ z

        found : (c i : ℕ) → typing_case a.type ≡ class_case c
            → method_place T (applied T b.effect c) (get_or R (at * 4 + 1) 0) ≡ suc i
            → Called h (applied T b.effect c) m i
        found c i t z = the_method h (applied T b.effect c) m (applied_low h b.effect c (low c t)) lm
            i (place c (suc i) z)

        -- A method with as many parameters as the call has arguments.
        counted : {c i : ℕ} (w : Called h c m i) → parameter_count M i ≡ get_or R (at * 4 + 2) 0
            → length b.types ≡ length w.method.parameters
        counted w z = many ∙ (sym n.second ∙ (sym z ∙ w.counted))

        fitted : {c i : ℕ} (w : Called h c m i) → parameter_count M i ≡ get_or R (at * 4 + 2) 0
            → all_fitting R A S scope.top (method_line M i + 1) (get_or R (at * 4 + 2) 0)
            ≡ all_fit (world P) b.types w.method.parameters
        fitted {i = i} w z =
            ap (all_fitting R A S scope.top (method_line M i + 1)) (n.second ∙ sym many)
            ∙ fit_all h S b.types w.method.parameters scope.top (method_line M i + 1) (counted w z)
            (λ i l. st i (omega (arith, l, many))) w.lines ab.types w.parameters

        finish : (c i : ℕ) (t : typing_case a.type ≡ class_case c)
            (w : Called h (applied T b.effect c) m i) → parameter_count M i ≡ get_or R (at * 4 + 2) 0
            → all_fit (world P) b.types w.method.parameters ≡ true
            → Done R T A M F S C at scope (typing_case a.type) a.effect b.effect S' C' r c i
            → Is (world P) (call m e es) γ at scope.size S' C' r
        finish c i t w z f d =
            let N = w.method in
            let k : ℕ = apply_class (world P) b.effect c in
            let tab : C' ≡ replaced C at k = d.noted ∙ ap (λ (j : ℕ). replaced C at j) (same c t) in
            let long : length C' ≡ length C = ap length tab ∙ length-set C at k in
            let here : Notes C' at k = λ u. ap (λ (j : List ℕ). get_or j at 0) tab
            ∙ get_or-set_same C at k 0 (omega (arith, u, long)) in
            let away : (i : ℕ) → at + 1 ≤ i → get_or C' i 0 ≡ get_or C i 0 =
            λ i u. ap (λ (j : List ℕ). get_or j i 0) tab ∙ get_or-set_other C at i k 0 (λ y. omega arith) in
            is_accepted (record {
              type = known N.result;
              slots = apply_all (world P) N.effect b.slots;
              effect = join (join a.effect b.effect) N.effect;
            })
            (call_done (world P) m e es (at + 1) la lb γ a b ta tb c (typed-class c t) N
            (at-world c t (some N) w.found)
            (eq-eqb (length b.types) (length N.parameters) (counted w z)) f)
            (d.out ∙ ap₂ (λ (u : Typing) (v : ℕ). answer u (join (join a.effect b.effect) v))
            (ap case_of_number w.result_is ∙ (type_number_case h N.result w.result).0) w.effect_is)
            (record {
              views = applied_views h N.effect ab.views ls
                  (subst (λ (j : ℕ). Changed S S' scope.size (λ k. applied_slot T j (get_or S k 0)))
                  w.effect_is d.slots);
              declared = declared_known N.result w.result;
              looks = call_looks (world P) m e es (at + 1) la lb γ a b ta tb c (typed-class c t) C' at here
                  (looks_frame (world P) C C' long e γ (at + 1) (λ i u y. away i u) lka)
                  (looks_frame_all (world P) C C' long es a.slots (at + 1 + size e)
                  (λ i u y. away i (omega arith))
                  (subst (λ (j : ℕ). LooksUpAll (world P) C es a.slots j) en ab.looks));
            })

        go : Invoked R T A M F S C at scope (typing_case a.type) a.effect b.effect S' C' r
            → Is (world P) (call m e es) γ at scope.size S' C' r
        go (no_class k er u) =
            is_refused 9 (at + 1) (call_not (world P) m e es (at + 1) la lb γ a b ta tb a.type refl k) er
        go (no_method c t z er u) =
            is_refused 8 (at + 1) (call_none (world P) m e es (at + 1) la lb γ a b ta tb c (typed-class c t)
            (at-world c t none (not_there h (applied T b.effect c) m
            (applied_low h b.effect c (low c t))
            lm (place c 0 z)))) er
        go (other_count c i t z f er u) =
            let w = found c i t z in
            is_refused 8 (at + 1)
            (call_count (world P) m e es (at + 1) la lb γ a b ta tb c (typed-class c t) w.method
            (at-world c t (some w.method) w.found)
            (ne_eqb (length b.types) (length w.method.parameters)
            (λ y. f (w.counted ∙ (sym y ∙ (many ∙ sym n.second)))))) er
        go (unfit c i t z k f er u) =
            let w = found c i t z in
            is_refused 9 (at + 1)
            (call_unfit (world P) m e es (at + 1) la lb γ a b ta tb c (typed-class c t) w.method
            (at-world c t (some w.method) w.found)
            (eq-eqb (length b.types) (length w.method.parameters) (counted w k))
            (sym (fitted w k) ∙ f)) er
        go (done c i t z k f d) = let w = found c i t z in finish c i t w k (sym (fitted w k) ∙ f) d

    -- Q with more than 8 arguments: `many` is what the arguments as items give.
    module _ (m : ℕ) (e : Expr) (es : Exprs) (at next scope la : ℕ) (γ : Environment) (a : Typed)
        (S C : List ℕ)
      where
        abbrev given_items : ExprType → ℕ → Answer
        given_items t φ = answer_of (bind_checked (type_all (world P) es (next + 1) a.slots) λ b. typed
            (last_type t b.types) b.slots (join φ b.effect))

        pub many_refused : (f : Refusal) (t : ExprType) (φ : ℕ) → next ≡ at + 1 + size e
            → type_of (world P) e la γ ≡ accept a → Err f ≡ given_items t φ
            → Is (world P) (call m e es) γ at scope S C (Err f)
        unfolding bind_checked
        many_refused f t φ en ta em =
            is_refused _ _ (call_arguments (world P) m e es (at + 1) la γ a ta _ _
            (ap (λ (z : ℕ). type_all (world P) es z a.slots) (sym line) ∙ go (type_all (world P) es (next + 1) a.slots) em))
            refl
          where
            line : next + 1 ≡ at + 1 + 1 + size e
            line = omega (arith, en)

            go : (q : Checked TypedAll)
                → Err f ≡ answer_of (bind_checked q λ b. typed (last_type t b.types) b.slots (join φ b.effect))
                → q ≡ refuse f.number f.line
            go (accept b) em = absurd (cc)
            go (refuse i k) em = result_err (λ (b : TypedAll). b.effect) (refuse i k) f (let z : Err f ≡ Err (refusal i k) = em in cc)

        pub many_is : (x many : TypedCase) (f : Refusal) (t : ExprType) (φ : ℕ)
            → m < 256 → 8 < how_many es → next ≡ at + 1 + size e
            → type_of (world P) e la γ ≡ accept a → Declared (world P) a.type → x ≡ answered a
            → Ok many ≡ given_items t φ → f ≡ no_method_for at x.typing
            → Is (world P) (call m e es) γ at scope S C (Err f)
        many_is x many f t φ lm l en ta da ex em er =
            by-arguments (type_all (world P) es (next + 1) a.slots) refl
          where
            out : f ≡ no_method_for at (typing_case a.type)
            out = er ∙ ap (λ (z : TypedCase). no_method_for at z.typing) ex

            by-method : (b : TypedAll) → type_all (world P) es (next + 1) a.slots ≡ accept b
                → (c : ℕ) → a.type ≡ known (class c)
                → (o : Option Method) → (world P).method (apply_class (world P) b.effect c) m ≡ o
                → Is (world P) (call m e es) γ at scope S C (Err f)
            by-method b tb c q none w =
                is_refused 8 (at + 1) (call_none (world P) m e es (at + 1) la (next + 1) γ a b ta tb c q w)
                (ap Err (out ∙ (ap (λ (z : ExprType). no_method_for at (typing_case z)) q
                ∙ many_class_refused at c)))
            by-method b tb c q (some N) w =
                let lc = type_low h a.type da c q in
                let lk : apply_class (world P) b.effect c ≤ count =
                omega (arith, lc, classes.apply_within P (lower h) b.effect c) in
                let few = parameters_few h (apply_class (world P) b.effect c) m N w in
                let many-types = types_count (world P) es (next + 1) a.slots b tb in
                is_refused 8 (at + 1) (call_count (world P) m e es (at + 1) la (next + 1) γ a b ta tb c q N w
                (ne_eqb (length b.types) (length N.parameters) (λ y. omega (arith, few, l, many-types, y))))
                (ap Err (out ∙ (ap (λ (z : ExprType). no_method_for at (typing_case z)) q
                ∙ many_class_refused at c)))

            not_class : (b : TypedAll) → type_all (world P) es (next + 1) a.slots ≡ accept b
                → (u : ExprType) → a.type ≡ u → NoClass (typing_case u)
                → Is (world P) (call m e es) γ at scope S C (Err f)
            not_class b tb u q k =
                is_refused 9 (at + 1) (call_not (world P) m e es (at + 1) la (next + 1) γ a b ta tb u q k)
                (ap Err (out ∙ (ap (λ (z : ExprType). no_method_for at (typing_case z)) q ∙ many_not at u k)))

            by-type : (b : TypedAll) → type_all (world P) es (next + 1) a.slots ≡ accept b
                → (u : ExprType) → a.type ≡ u
                → Is (world P) (call m e es) γ at scope S C (Err f)
            by-type b tb (known bool) q = not_class b tb (known bool) q tt
            by-type b tb (known (class c)) q =
                by-method b tb c q ((world P).method (apply_class (world P) b.effect c) m) refl
            by-type b tb null_type q = not_class b tb null_type q tt

            by-arguments : (c : Checked TypedAll) → type_all (world P) es (next + 1) a.slots ≡ c
                → Is (world P) (call m e es) γ at scope S C (Err f)
            by-arguments (refuse i k) tb =
                let z : Ok many ≡ Err (refusal i k) = em ∙ ap answer_of (bind_refused _ _ i k tb) in absurd (cc)
            by-arguments (accept b) tb = by-type b tb a.type refl
