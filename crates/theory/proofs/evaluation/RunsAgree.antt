-- Evaluation as a function and as a relation agree where superclasses are earlier, under any fuel and room: what
-- the relation derives is what the function gives, and what the function gives is derived, unless it is stuck.
use mathlib.Core.Path.{◌≡◌, refl, sym, ◌∙◌}
use Prim.Native.Nat.{ℕ, zero, suc, ◌<◌}
use mathlib.Core.Option.{Option, none, some}
use mathlib.Core.Bool.{Bool, true, false, cond}
use mathlib.Core.List.{List, [], ◌∷◌, ◌++◌, map}
use lib.ListN.{length, set as replace}
use lib.Dec.{leb, eqb}
use borrow.Author.Tests.{leb-true, leb-false, le-leb, lt-leb, eq-eqb, eqb-true}
use Rattle.language.specs.Limits.{cast_exception}
use Rattle.language.specs.Lists.{nth, choice}
use Rattle.language.specs.Results.{ok, stop, bind}
use Rattle.language.specs.Frames.{at_slot, opened}
use Rattle.language.specs.Tree.{Expr, literal, slot, is_null, get, cast, Class}
use Rattle.language.specs.Tree.{new, change, assign, set, call, choose, block, Exprs, nil, cons}
use Rattle.language.specs.World.{Method, World}
use Rattle.language.specs.Program.{world, body_in}
use Rattle.language.specs.State.{Value, null, truth, object, Object, State, Stop, raised, spent, full}
use Rattle.language.specs.State.{stuck, deep, Out, entered, with_frame, with_heap, with_change, initial}
use Rattle.language.specs.Evaluation.{with_limits, need_reference, call_at, need_count, keeps_fields}
use Rattle.language.specs.Evaluation.{new_object, changed, field_of, with_field, need, need_truth}
use Rattle.language.specs.Evaluation.{do_get, do_set, do_cast, do_change, do_new, do_call, eval, eval_all}
use Rattle.language.specs.Runs.{called, Evaluates, enters, is_spent, Entered, EvaluatesAll, val}
use Rattle.language.specs.Runs.{cast_object, cast_null, id, field, isnull_true, isnull_false, assign_slot}
use Rattle.language.specs.Runs.{assign_field, recl, from_first, from_later}
use Rattle.language.specs.Runs.{choose_true, choose_false, block_end, new_made, new_full, meth, too_deep}
use Rattle.language.specs.Runs.{recl_null, cast_raises, field_null, assign_field_null, meth_null, from_cast}
use Rattle.language.specs.Runs.{from_assign, from_get, from_is_null, from_receiver, from_object, from_value}
use Rattle.language.specs.Runs.{from_arguments, from_body, from_condition, from_block, all_nil, all_cons}
use Rattle.language.proofs.Booleans.{false≢}
use Rattle.theory.proofs.evaluation.ObjectsAgree.{Found, found, new_is, is_new, reads_is, is_reads}
use Rattle.theory.proofs.evaluation.ObjectsAgree.{writes_is}
use Rattle.theory.proofs.evaluation.ObjectsAgree.{is_writes, changes_is, is_changes, below_is, is_below}
use Rattle.theory.proofs.evaluation.ObjectsAgree.{not_below}
use Rattle.theory.proofs.evaluation.ObjectsAgree.{SupersEarlier, is_method}
use Rattle.theory.proofs.lookups.LookupsAgree.{finds_body, method_told}

-- What is derived of a result, unless it is stuck.
pub data Claim {A : Type 0} (D : Out A → Type 0) : Out A → Type 0 where
  value : {a : A} {t : State} → D (ok a t) → Claim D (ok a t)
  stopped : {x : Stop} {t : State} → D (stop x t) → Claim D (stop x t)
  nothing : {t : State} → Claim D (stop stuck t)

module _ (P : List Class) (earlier : SupersEarlier P) (F K : ℕ) where
  abbrev W : World
  W = world P

  abbrev invoke : ℕ → Method → State → Out Value
  invoke n M s = call_at W (with_limits F K) (body_in P) n M s

  abbrev ev : ℕ → Expr → State → Out Value
  ev n e s = eval W (with_limits F K) (λ M s. invoke n M s) e s

  abbrev evs : ℕ → Exprs → State → Out (List Value)
  evs n es s = eval_all W (with_limits F K) (λ M s. invoke n M s) es s

  -- What is known of the bodies of calls.
  abbrev BelowSound : ℕ → Type 0
  BelowSound zero = Unit {0}
  BelowSound (suc n) = (e : Expr) (s : State) (r : Out Value) → Evaluates P F K n e s r → ev n e s ≡ r

  -- After k steps there is fuel.
  fueled : {k : ℕ} → k < F → leb F k ≡ false
  fueled {k} l = lt-leb F k l

  -- Without fuel no node is entered.
  not_entered : (e : Expr) (n : ℕ) (s : State) → leb F s.steps ≡ true → ev n e s ≡ stop spent s
  unfolding eval
  not_entered (literal x) n s l = rw l
  not_entered (slot k) n s l = rw l
  not_entered (is_null e) n s l = rw l
  not_entered (get f e) n s l = rw l
  not_entered (cast c e) n s l = rw l
  not_entered (new c) n s l = rw l
  not_entered (change k c) n s l = rw l
  not_entered (assign k e) n s l = rw l
  not_entered (set f e e') n s l = rw l
  not_entered (call m e es) n s l = rw l
  not_entered (choose a x y) n s l = rw l
  not_entered (block ts es) n s l = rw l

  mutual
    unfolding eval call_at

    sound : (e : Expr) {n : ℕ} {s : State} {r : Out Value} → BelowSound n → Evaluates P F K n e s r
        → ev n e s ≡ r
    sound (literal x) b (enters l val) = rw (fueled l)
    sound (literal x) {n} {s} b (is_spent l) = not_entered (literal x) n s (le-leb F s.steps l)
    sound (slot k) b (enters l (id h)) = rw (fueled l, h)
    sound (slot k) {n} {s} b (is_spent l) = not_entered (slot k) n s (le-leb F s.steps l)
    sound (is_null e) b (enters l (isnull_true d)) = rw (fueled l, sound e b d)
    sound (is_null e) b (enters l (isnull_false d)) = rw (fueled l, sound e b d)
    sound (is_null e) b (enters l (from_is_null d)) = rw (fueled l, sound e b d)
    sound (is_null e) {n} {s} b (is_spent l) = not_entered (is_null e) n s (le-leb F s.steps l)
    sound (get f e) b (enters l (field o d h g)) = rw (fueled l, sound e b d, h, reads_is P earlier g)
    sound (get f e) b (enters l (field_null d)) = rw (fueled l, sound e b d)
    sound (get f e) b (enters l (from_get d)) = rw (fueled l, sound e b d)
    sound (get f e) {n} {s} b (is_spent l) = not_entered (get f e) n s (le-leb F s.steps l)
    sound (cast c e) b (enters l (cast_object o d h g)) =
        rw (fueled l, sound e b d, h, below_is P earlier g)
    sound (cast c e) b (enters l (cast_null d)) = rw (fueled l, sound e b d)
    sound (cast c e) b (enters l (cast_raises o d h g)) =
        rw (fueled l, sound e b d, h, not_below P earlier o.class_of c g)
    sound (cast c e) b (enters l (from_cast d)) = rw (fueled l, sound e b d)
    sound (cast c e) {n} {s} b (is_spent l) = not_entered (cast c e) n s (le-leb F s.steps l)
    sound (new c) {s} b (enters l (new_made o k g)) =
        rw (fueled l, lt-leb K (length s.heap) k, new_is P earlier g)
    sound (new c) {s} b (enters l (new_full k)) = rw (fueled l, le-leb K (length s.heap) k)
    sound (new c) {n} {s} b (is_spent l) = not_entered (new c) n s (le-leb F s.steps l)
    sound (change k c) b (enters l (recl o o' h g i)) =
        let x = changes_is P earlier i in rw (fueled l, h, g, x.0, x.1)
    sound (change k c) b (enters l (recl_null h)) = rw (fueled l, h)
    sound (change k c) {n} {s} b (is_spent l) = not_entered (change k c) n s (le-leb F s.steps l)
    sound (assign k e) b (enters l (assign_slot d h)) = rw (fueled l, sound e b d, h)
    sound (assign k e) b (enters l (from_assign d)) = rw (fueled l, sound e b d)
    sound (assign k e) {n} {s} b (is_spent l) = not_entered (assign k e) n s (le-leb F s.steps l)
    sound (set f e e') b (enters l (assign_field o o' d d' h g)) =
        rw (fueled l, sound e b d, sound e' b d', h, writes_is P earlier g)
    sound (set f e e') b (enters l (assign_field_null d d')) = rw (fueled l, sound e b d, sound e' b d')
    sound (set f e e') b (enters l (from_object d)) = rw (fueled l, sound e b d)
    sound (set f e e') b (enters l (from_value d d')) = rw (fueled l, sound e b d, sound e' b d')
    sound (set f e e') {n} {s} b (is_spent l) = not_entered (set f e e') n s (le-leb F s.steps l)
    sound (call m e es) b (enters l (meth o owner x d d' h g i c)) =
        rw (
          fueled l,
          sound e b d,
          sounds es b d',
          h,
          method_told P earlier g,
          eq-eqb _ _ i,
          finds_body P g,
          b x.body _ _ c,
        )
    sound (call m e es) b (enters l (too_deep o owner x d d' h g i)) =
        rw (fueled l, sound e b d, sounds es b d', h, method_told P earlier g, eq-eqb _ _ i)
    sound (call m e es) b (enters l (meth_null d d')) = rw (fueled l, sound e b d, sounds es b d')
    sound (call m e es) b (enters l (from_receiver d)) = rw (fueled l, sound e b d)
    sound (call m e es) b (enters l (from_arguments d d')) = rw (fueled l, sound e b d, sounds es b d')
    sound (call m e es) b (enters l (from_body o owner x d d' h g i c)) =
        rw (
          fueled l,
          sound e b d,
          sounds es b d',
          h,
          method_told P earlier g,
          eq-eqb _ _ i,
          finds_body P g,
          b x.body _ _ c,
        )
    sound (call m e es) {n} {s} b (is_spent l) = not_entered (call m e es) n s (le-leb F s.steps l)
    sound (choose a x y) b (enters l (choose_true d d')) = rw (fueled l, sound a b d) (sound x b d')
    sound (choose a x y) b (enters l (choose_false d d')) = rw (fueled l, sound a b d) (sound y b d')
    sound (choose a x y) b (enters l (from_condition d)) = rw (fueled l, sound a b d)
    sound (choose a x y) {n} {s} b (is_spent l) = not_entered (choose a x y) n s (le-leb F s.steps l)
    sound (block ts es) b (enters l (block_end d)) = rw (fueled l, sounds es b d)
    sound (block ts es) b (enters l (from_block d)) = rw (fueled l, sounds es b d)
    sound (block ts es) {n} {s} b (is_spent l) = not_entered (block ts es) n s (le-leb F s.steps l)

    sounds : (es : Exprs) {n : ℕ} {s : State} {r : Out (List Value)} → BelowSound n
        → EvaluatesAll P F K n es s r → evs n es s ≡ r
    sounds nil b all_nil = refl
    sounds (cons e es) b (all_cons d d') = rw (sound e b d, sounds es b d')
    sounds (cons e es) b (from_first d) = rw (sound e b d)
    sounds (cons e es) b (from_later d d') = rw (sound e b d, sounds es b d')

  -- What the relation derives is what evaluation gives.
  pub all_sound : (n : ℕ) (e : Expr) (s : State) (r : Out Value) → Evaluates P F K n e s r → ev n e s ≡ r
  all_sound zero e s r d = sound e tt d
  all_sound (suc n) e s r d = sound e (λ e s r d. all_sound n e s r d) d

  -- What is claimed of an entered node is claimed of the node, with fuel to enter it.
  enters_claim : {n : ℕ} {e : Expr} {s : State} {r : Out Value} → s.steps < F
      → Claim (Entered P F K n e (entered s)) r → Claim (Evaluates P F K n e s) r
  enters_claim l (value d) = value (enters l d)
  enters_claim l (stopped d) = stopped (enters l d)
  enters_claim l nothing = nothing

  -- A node is claimed by what is claimed of it where there is fuel to enter it.
  by_fuel : (e : Expr) (n : ℕ) (s : State)
      → (leb F s.steps ≡ false → Claim (Entered P F K n e (entered s)) (ev n e s))
      → Claim (Evaluates P F K n e s) (ev n e s)
  by_fuel e n s f = go (leb F s.steps) refl
    where
      go : (b : Bool) → leb F s.steps ≡ b → Claim (Evaluates P F K n e s) (ev n e s)
      go true q = rw (not_entered e n s q) (stopped (is_spent (leb-true F s.steps q)))
      go false q = enters_claim (leb-false F s.steps q) (f q)

  -- A part, then what follows it; what must be there.
  bind_claim : {A B : Type 0} {D : Out A → Type 0} {D' : Out B → Type 0} {r : Out A} {k : A → State → Out B}
      → Claim D r → ((a : A) (t : State) → D (ok a t) → Claim D' (k a t))
      → ((x : Stop) (t : State) → D (stop x t) → D' (stop x t)) → Claim D' (bind r k)
  bind_claim (value d) f g = f _ _ d
  bind_claim (stopped d) f g = stopped (g _ _ d)
  bind_claim nothing f g = nothing

  need_claim : {A : Type 0} {D : Out Value → Type 0} (t : State) (o : Option A) {k : A → Out Value}
      → ((a : A) → o ≡ some a → Claim D (k a)) → Claim D (need o t k)
  need_claim t none f = nothing
  need_claim t (some a) f = f a refl

  get_claim : (n f : ℕ) (e : Expr) (s t : State) (v : Value) → Evaluates P F K n e s (ok v t)
      → Claim (Entered P F K n (get f e) s) (do_get W f v t)
  get_claim n f e s t null d = stopped (field_null d)
  get_claim n f e s t (truth b) d = nothing
  get_claim n f e s t (object j) d = need_claim t (nth t.heap j) λ o h.
      need_claim t (field_of W f o) λ w g. value (field o d h (is_reads P earlier o f w g))

  null_claim : (n : ℕ) (e : Expr) (s t : State) (v : Value) → Evaluates P F K n e s (ok v t)
      → Claim (Entered P F K n (is_null e) s) (need_reference v t λ b. ok (truth b) t)
  null_claim n e s t null d = value (isnull_true d)
  null_claim n e s t (truth b) d = nothing
  null_claim n e s t (object j) d = value (isnull_false d)

  cast_claim : (n c : ℕ) (e : Expr) (s t : State) (v : Value) → Evaluates P F K n e s (ok v t)
      → Claim (Entered P F K n (cast c e) s) (do_cast W c v t)
  cast_claim n c e s t null d = value (cast_null d)
  cast_claim n c e s t (truth b) d = nothing
  cast_claim n c e s t (object j) d = need_claim t (nth t.heap j) λ o h.
      go o h (W.below o.class_of c) refl
    where
      go : (o : Object) → nth t.heap j ≡ some o → (b : Bool) → W.below o.class_of c ≡ b
          → Claim (Entered P F K n (cast c e) s)
          (cond b (ok (object j) t) (stop (raised cast_exception) t))
      go o h true q = value (cast_object o d h (is_below P earlier o.class_of c q))
      go o h false q = stopped (cast_raises o d h (λ s. false≢ (sym q ∙ below_is P earlier s)))

  new_claim : (n c : ℕ) (s : State) → Claim (Entered P F K n (new c) s) (do_new W (with_limits F K) c s)
  new_claim n c s = go (leb K (length s.heap)) refl
    where
      go : (b : Bool) → leb K (length s.heap) ≡ b → Claim (Entered P F K n (new c) s)
          (cond b (stop full s)
          (ok (object (length s.heap)) (with_heap (s.heap ++ (new_object W c ∷ [])) s)))
      go true q = stopped (new_full (leb-true K (length s.heap) q))
      go false q = value (new_made (new_object W c) (leb-false K (length s.heap) q) (is_new P earlier c))

  change_claim : (n k c : ℕ) (s : State) (v : Value) → at_slot s.frame k ≡ some v
      → Claim (Entered P F K n (change k c) s) (do_change W c v s)
  change_claim n k c s null h = value (recl_null h)
  change_claim n k c s (truth b) h = nothing
  change_claim n k c s (object j) h = need_claim s (nth s.heap j) λ o g.
      go o g (keeps_fields W c o) refl
    where
      go : (o : Object) → nth s.heap j ≡ some o → (b : Bool)
          → keeps_fields W c o ≡ b
          → Claim (Entered P F K n (change k c) s) (cond b
          (ok (object j) (with_change (replace s.heap j (changed W c o)) s)) (stop stuck s))
      go o g true q = value (recl o (changed W c o) h g (is_changes P earlier o c q))
      go o g false q = nothing

  set_claim : (n f : ℕ) (e e' : Expr) (s t u : State) (v w : Value) → Evaluates P F K n e s (ok v t)
      → Evaluates P F K n e' t (ok w u)
      → Claim (Entered P F K n (set f e e') s) (do_set W f v w u)
  set_claim n f e e' s t u null w d d' = stopped (assign_field_null d d')
  set_claim n f e e' s t u (truth b) w d d' = nothing
  set_claim n f e e' s t u (object j) w d d' = need_claim u (nth u.heap j) λ o h.
      need_claim u (with_field W f w o) λ o' g.
      value (assign_field o o' d d' h (is_writes P earlier o o' f w g))

  -- What is known of the bodies of calls.
  abbrev BelowComplete : ℕ → Type 0
  BelowComplete zero = Unit {0}
  BelowComplete (suc n) = (e : Expr) (s : State) → Claim (Evaluates P F K n e s) (ev n e s)

  -- A call of a method that is found, where another call is allowed and where none is.
  back_claim : {n m j : ℕ} {e : Expr} {es : Exprs} {s t u : State} {vs : List Value} {r : Out Value}
      (o : Object) {M : Method} → Evaluates P F K (suc n) e s (ok (object j) t)
      → EvaluatesAll P F K (suc n) es t (ok vs u) → nth u.heap j ≡ some o → Found P o.class_of m M
      → length vs ≡ length M.parameters
      → Claim (Evaluates P F K n (body_in P M.number) (called j vs u)) r
      → Claim (Entered P F K (suc n) (call m e es) s) (bind r λ w t. ok w (with_frame u.frame t))
  back_claim o d d' h (found owner x g) i (value c) =
      value (meth o owner x d d' h g i (rw (finds_body P g) at c))
  back_claim o d d' h (found owner x g) i (stopped c) =
      stopped (from_body o owner x d d' h g i (rw (finds_body P g) at c))
  back_claim o d d' h (found owner x g) i nothing = nothing

  deep_claim : {m j : ℕ} {e : Expr} {es : Exprs} {s t u : State} {vs : List Value} (o : Object) {M : Method}
      → Evaluates P F K 0 e s (ok (object j) t) → EvaluatesAll P F K 0 es t (ok vs u)
      → nth u.heap j ≡ some o → Found P o.class_of m M → length vs ≡ length M.parameters
      → Claim (Entered P F K 0 (call m e es) s) (stop deep (called j vs u))
  deep_claim o d d' h (found owner x g) i = stopped (too_deep o owner x d d' h g i)

  -- The count of arguments.
  count_claim : {D : Out Value → Type 0} (t : State) (n m : ℕ) {r : Out Value}
      → (n ≡ m → Claim D r) → Claim D (need_count n m t λ _. r)
  count_claim {D} t n m {r} f = go (eqb n m) refl
    where
      go : (b : Bool) → eqb n m ≡ b → Claim D (choice b (λ _. r) (λ _. stop stuck t))
      go true q = f (eqb-true n m q)
      go false q = nothing

  call_claim : (n m : ℕ) (e : Expr) (es : Exprs) (s t u : State) (v : Value) (vs : List Value)
      → BelowComplete n
      → Evaluates P F K n e s (ok v t) → EvaluatesAll P F K n es t (ok vs u)
      → Claim (Entered P F K n (call m e es) s)
      (do_call W (with_limits F K) (λ M s. invoke n M s) m v vs u)
  unfolding call_at
  call_claim n m e es s t u null vs b d d' = stopped (meth_null d d')
  call_claim n m e es s t u (truth x) vs b d d' = nothing
  call_claim zero m e es s t u (object j) vs b d d' = need_claim u (nth u.heap j) λ o h.
      need_claim u (W.method o.class_of m) λ M g.
      count_claim u (length vs) (length M.parameters) λ i.
      deep_claim o d d' h (is_method P earlier o.class_of m M g) i
  call_claim (suc n) m e es s t u (object j) vs b d d' = need_claim u (nth u.heap j) λ o h.
      need_claim u (W.method o.class_of m) λ M g.
      count_claim u (length vs) (length M.parameters) λ i.
      back_claim o d d' h (is_method P earlier o.class_of m M g) i
      (b (body_in P M.number) (called j vs u))

  true_claim : {n : ℕ} {a x y : Expr} {s t : State} {r : Out Value}
      → Evaluates P F K n a s (ok (truth true) t) → Claim (Evaluates P F K n x t) r
      → Claim (Entered P F K n (choose a x y) s) r
  true_claim d (value c) = value (choose_true d c)
  true_claim d (stopped c) = stopped (choose_true d c)
  true_claim d nothing = nothing

  false_claim : {n : ℕ} {a x y : Expr} {s t : State} {r : Out Value}
      → Evaluates P F K n a s (ok (truth false) t) → Claim (Evaluates P F K n y t) r
      → Claim (Entered P F K n (choose a x y) s) r
  false_claim d (value c) = value (choose_false d c)
  false_claim d (stopped c) = stopped (choose_false d c)
  false_claim d nothing = nothing

  choose_claim : (n : ℕ) (a x y : Expr) (s t : State) (v : Value) → Evaluates P F K n a s (ok v t)
      → Claim (Evaluates P F K n x t) (ev n x t) → Claim (Evaluates P F K n y t) (ev n y t)
      → Claim (Entered P F K n (choose a x y) s)
      (need_truth v t λ b. choice b (λ _. ev n x t) (λ _. ev n y t))
  choose_claim n a x y s t null d c c' = nothing
  choose_claim n a x y s t (object j) d c c' = nothing
  choose_claim n a x y s t (truth true) d c c' = true_claim d c
  choose_claim n a x y s t (truth false) d c c' = false_claim d c'

  mutual
    unfolding eval

    complete : (e : Expr) (n : ℕ) → BelowComplete n → (s : State)
        → Claim (Evaluates P F K n e s) (ev n e s)
    complete (literal x) n b s = by_fuel (literal x) n s λ l. rw l (value val)
    complete (slot k) n b s = by_fuel (slot k) n s λ l.
        rw l (need_claim (entered s) (at_slot s.frame k) λ v h. value (id h))
    complete (is_null e) n b s = by_fuel (is_null e) n s λ l.
        rw l (bind_claim (complete e n b (entered s)) (λ v t d. null_claim n e (entered s) t v d)
        (λ x t d. from_is_null d))
    complete (get f e) n b s = by_fuel (get f e) n s λ l. rw l (bind_claim (complete e n b (entered s))
        (λ v t d. get_claim n f e (entered s) t v d) (λ x t d. from_get d))
    complete (cast c e) n b s = by_fuel (cast c e) n s λ l. rw l (bind_claim (complete e n b (entered s))
        (λ v t d. cast_claim n c e (entered s) t v d) (λ x t d. from_cast d))
    complete (new c) n b s = by_fuel (new c) n s λ l. rw l (new_claim n c (entered s))
    complete (change k c) n b s = by_fuel (change k c) n s λ l.
        rw l (need_claim (entered s) (at_slot s.frame k) λ v h.
        change_claim n k c (entered s) v h)
    complete (assign k e) n b s = by_fuel (assign k e) n s λ l.
        rw l (bind_claim (complete e n b (entered s)) (λ v t d. need_claim t (at_slot t.frame k) λ w h.
        value (assign_slot d h)) (λ x t d. from_assign d))
    complete (set f e e') n b s = by_fuel (set f e e') n s λ l. rw l (bind_claim (complete e n b (entered s))
        (λ v t d. bind_claim (complete e' n b t) (λ w u d'. set_claim n f e e' (entered s) t u v w d d')
        (λ x u d'. from_value d d')) (λ x t d. from_object d))
    complete (call m e es) n b s = by_fuel (call m e es) n s λ l.
        rw l (bind_claim (complete e n b (entered s))
        (λ v t d. bind_claim (completes es n b t)
        (λ vs u d'. call_claim n m e es (entered s) t u v vs b d d')
        (λ x u d'. from_arguments d d')) (λ x t d. from_receiver d))
    complete (choose a x y) n b s = by_fuel (choose a x y) n s λ l.
        rw l (bind_claim (complete a n b (entered s))
        (λ v t d. choose_claim n a x y (entered s) t v d (complete x n b t) (complete y n b t))
        (λ x t d. from_condition d))
    complete (block ts es) n b s = by_fuel (block ts es) n s λ l. rw l (bind_claim
        (completes es n b (with_frame (opened s.frame (map initial ts)) (entered s)))
        (λ vs t d. value (block_end d)) (λ x t d. from_block d))

    completes : (es : Exprs) (n : ℕ) → BelowComplete n → (s : State)
        → Claim (EvaluatesAll P F K n es s) (evs n es s)
    completes nil n b s = value all_nil
    completes (cons e es) n b s = bind_claim (complete e n b s)
        (λ v t d. bind_claim (completes es n b t) (λ vs u d'. value (all_cons d d'))
        (λ x u d'. from_later d d'))
        (λ x t d. from_first d)

  -- What evaluation gives is derived, unless it is stuck.
  pub all_complete : (n : ℕ) (e : Expr) (s : State) → Claim (Evaluates P F K n e s) (ev n e s)
  all_complete zero e s = complete e zero tt s
  all_complete (suc n) e s = complete e (suc n) (λ e s. all_complete n e s) s
