-- A run with fuel F and room K is the run without limits, or it is cut by 14 or 16 (spent or full), and then
-- the run without limits takes more than F steps or makes more than K objects.
use mathlib.Core.Path.{◌≡◌, refl}
use Prim.Native.Nat.{ℕ, zero, suc, ◌≤◌, ◌<◌}
use mathlib.Core.Option.{Option, none, some}
use mathlib.Core.Bool.{Bool, true, false, cond}
use mathlib.Core.List.{List, [], ◌∷◌, ◌++◌, map}
use lib.ListN.{length, set as replace, length-append, length-set}
use lib.Dec.{leb, eqb}
use borrow.Author.Tests.{leb-true, leb-false}
use native.Mathlib.Omega.{arith}
use Rattle.language.specs.Limits.{most_calls}
use Rattle.language.specs.Lists.{nth, choice}
use Rattle.language.specs.Results.{ok, stop, bind}
use Rattle.language.specs.Frames.{Frame, frame, at_slot, with_slot, opened, closed}
use Rattle.language.specs.Tree.{Expr, literal, slot, is_null, get, cast}
use Rattle.language.specs.Tree.{new, change, assign, set, call, choose, block, Exprs, nil, cons}
use Rattle.language.specs.World.{Method, World}
use Rattle.language.specs.State.{Value, null, truth, object, Object, State, Stop, raised, deep, spent}
use Rattle.language.specs.State.{full, stuck, Out, entered, with_frame}
use Rattle.language.specs.Evaluation.{without_limits, with_limits, need_reference, need_count, keeps_fields}
use Rattle.language.specs.State.{with_heap, initial}
use Rattle.language.specs.Evaluation.{need, need_object, need_truth, new_object, changed}
use Rattle.language.specs.Evaluation.{field_of, with_field, do_get, do_set, do_cast, do_change, do_new}
use Rattle.language.specs.Evaluation.{do_call, eval, eval_all, call_at, eval_start}
use Rattle.language.proofs.Booleans.{false≢}
use Rattle.theory.proofs.evaluation.Growth.{Later, later_same, later_frame, Grows, grows_ok}
use Rattle.theory.proofs.evaluation.Growth.{grows_stop}
use Rattle.theory.proofs.evaluation.Growth.{grows_reference}
use Rattle.theory.proofs.evaluation.Growth.{grows_entered, grows_bind, grows_truth, grows_choice}
use Rattle.theory.proofs.evaluation.Growth.{grows_get}
use Rattle.theory.proofs.evaluation.Growth.{grows_set, grows_cast, grows_call, grows, grows_all}
use Rattle.theory.proofs.evaluation.Growth.{grows_calls}
use Rattle.theory.proofs.evaluation.Growth.{grows_need}

module _ (F K : ℕ) where
  -- Within the limits; beyond one of them.
  pub record Within (s : State) : Type 0 where
    pub fuel : s.steps ≤ F
    pub room : length s.heap ≤ K

  pub data Beyond (s : State) : Type 0 where
    beyond_fuel : F < s.steps → Beyond s
    beyond_room : K < length s.heap → Beyond s

  -- Still beyond later on.
  beyond_later : {s s' : State} → Beyond s → Later s s' → Beyond s'
  beyond_later (beyond_fuel p) l = beyond_fuel (omega (arith, p, l))
  beyond_later (beyond_room p) l = beyond_room (omega (arith, p, l))

  -- 14 and 16.
  pub data Cut : Stop → Type 0 where
    cut_spent : Cut spent
    cut_full : Cut full

  -- A run that ends beyond the limits.
  pub data Over {A : Type 0} : Out A → Type 0 where
    over_ok : {a : A} {s : State} → Beyond s → Over (ok a s)
    over_stop : {x : Stop} {s : State} → Beyond s → Over (stop x s)

  -- The run without limits, and the run with them: the same or cut, within them in either case.
  pub data Limited {A : Type 0} : Out A → Out A → Type 0 where
    same_ok : {a : A} {s : State} → Within s → Limited (ok a s) (ok a s)
    same_stop : {x : Stop} {s : State} → Within s → Limited (stop x s) (stop x s)
    cut : {r : Out A} {x : Stop} {s : State} → Over r → Cut x → Within s → Limited r (stop x s)

  over : {A : Type 0} {s : State} {r : Out A} → Beyond s → Grows s r → Over r
  over b (grows_ok l) = over_ok (beyond_later b l)
  over b (grows_stop l) = over_stop (beyond_later b l)

  limited_bind : {A B : Type 0} {r r' : Out A} {k k' : A → State → Out B} → Limited r r'
      → ((a : A) (s : State) → Within s → Limited (k a s) (k' a s)) → ((a : A) (s : State) → Grows s (k a s))
      → Limited (bind r k) (bind r' k')
  limited_bind (same_ok w) f g = f _ _ w
  limited_bind (same_stop w) f g = same_stop w
  limited_bind (cut (over_ok b) c w) f g = cut (over b (g _ _)) c w
  limited_bind (cut (over_stop b) c w) f g = cut (over_stop b) c w

  limited_need : {A B : Type 0} (o : Option A) (s : State) {k k' : A → Out B} → Within s
      → ((a : A) → Limited (k a) (k' a)) → Limited (need o s k) (need o s k')
  limited_need none s w f = same_stop w
  limited_need (some a) s w f = f a

  limited_object : {B : Type 0} (v : Value) (s : State) {k k' : ℕ → Out B} → Within s
      → ((j : ℕ) → Limited (k j) (k' j)) → Limited (need_object v s k) (need_object v s k')
  limited_object null s w f = same_stop w
  limited_object (truth b) s w f = same_stop w
  limited_object (object j) s w f = f j

  limited_truth : {B : Type 0} (v : Value) (s : State) {k k' : Bool → Out B} → Within s
      → ((b : Bool) → Limited (k b) (k' b)) → Limited (need_truth v s k) (need_truth v s k')
  limited_truth null s w f = same_stop w
  limited_truth (truth b) s w f = f b
  limited_truth (object j) s w f = same_stop w

  limited_count : {B : Type 0} (n m : ℕ) (s : State) {k k' : Bool → Out B} → Within s
      → ((b : Bool) → Limited (k b) (k' b)) → Limited (need_count n m s k) (need_count n m s k')
  limited_count n m s {k} {k'} w f = go (eqb n m)
    where
      go : (b : Bool) → Limited (choice b k (λ _. stop stuck s)) (choice b k' (λ _. stop stuck s))
      go true = f true
      go false = same_stop w

  limited_reference : {B : Type 0} (v : Value) (s : State) {k k' : Bool → Out B} → Within s
      → ((b : Bool) → Limited (k b) (k' b)) → Limited (need_reference v s k) (need_reference v s k')
  limited_reference null s w f = f true
  limited_reference (truth b) s w f = same_stop w
  limited_reference (object j) s w f = f false

  limited_cond : {B : Type 0} (b : Bool) {x y x' y' : Out B} → Limited x x' → Limited y y'
      → Limited (cond b x y) (cond b x' y')
  limited_cond true p q = p
  limited_cond false p q = q

  limited_choice : {B : Type 0} (b : Bool) {x y x' y' : Out B} → Limited x x' → Limited y y'
      → Limited (choice b (λ _. x) (λ _. y)) (choice b (λ _. x') (λ _. y'))
  limited_choice true p q = p
  limited_choice false p q = q

  within_put : (s : State) (j : ℕ) (o : Object) (k : ℕ) → Within s
      → Within (record { frame = s.frame; heap = replace s.heap j o; steps = s.steps; changes = k })
  within_put s j o k w = record { fuel = w.fuel; room = omega (arith, length-set s.heap j o, w) }

  within_frame : {s : State} (f : Frame Value) → Within s → Within (with_frame f s)
  within_frame f w = record { fuel = w.fuel; room = w.room }

  module _ (W : World) where
    limited-get : (f : ℕ) (v : Value) (s : State) → Within s → Limited (do_get W f v s) (do_get W f v s)
    limited-get f v s w = limited_object v s w λ j. limited_need (nth s.heap j) s w λ o.
        limited_need (field_of W f o) s w λ x. same_ok w

    limited-set : (f : ℕ) (v x : Value) (s : State) → Within s → Limited (do_set W f v x s) (do_set W f v x s)
    limited-set f v x s w = limited_object v s w λ j. limited_need (nth s.heap j) s w λ o.
        limited_need (with_field W f x o) s w λ o'. same_ok (within_put s j o' s.changes w)

    limited-cast : (c : ℕ) (v : Value) (s : State) → Within s → Limited (do_cast W c v s) (do_cast W c v s)
    limited-cast c null s w = same_ok w
    limited-cast c (truth b) s w = same_stop w
    limited-cast c (object j) s w = limited_need (nth s.heap j) s w λ o.
        limited_cond (W.below o.class_of c) (same_ok w) (same_stop w)

    limited-change : (d : ℕ) (v : Value) (s : State) → Within s
        → Limited (do_change W d v s) (do_change W d v s)
    limited-change d null s w = same_ok w
    limited-change d (truth b) s w = same_stop w
    limited-change d (object j) s w = limited_need (nth s.heap j) s w λ o.
        limited_cond (keeps_fields W d o)
        (same_ok (within_put s j (changed W d o) (suc s.changes) w)) (same_stop w)

    limited-enter : {A : Type 0} (s : State) {x y : Out A} → Within s → (Within (entered s) → Limited x y)
        → Grows (entered s) x → Limited x (choice (leb F s.steps) (λ _. stop spent s) (λ _. y))
    limited-enter {A} s {x} {y} w f g = go (leb F s.steps) refl
      where
        go : (b : Bool) → leb F s.steps ≡ b → Limited {A = A} x (choice b (λ _. stop spent s) (λ _. y))
        go true e = cut (over (beyond_fuel (omega (arith, leb-true F s.steps e))) g) cut_spent w
        go false e = f (record { fuel = omega (arith, leb-false F s.steps e); room = w.room })

    limited-new : (c : ℕ) (s : State) → Within s
        → Limited (do_new W without_limits c s) (do_new W (with_limits F K) c s)
    limited-new c s w = go (leb K (length s.heap)) refl
      where
        made : State
        made = with_heap (s.heap ++ (new_object W c ∷ [])) s

        go : (b : Bool) → leb K (length s.heap) ≡ b
            → Limited {A = Value} (ok (object (length s.heap)) made)
            (cond b (stop full s) (ok (object (length s.heap)) made))
        go true e = cut (over_ok {s = made} (beyond_room
            (omega (arith, leb-true K (length s.heap) e, length-append s.heap (new_object W c ∷ [])))))
            cut_full w
        go false e = same_ok {s = made} (record {
          fuel = w.fuel;
          room = omega (
            arith,
            leb-false K (length s.heap) e,
            length-append s.heap
                (new_object W c ∷ []),
          );
        })

    module _ (invoke invoke' : Method → State → Out Value)
        (C : (M : Method) (s : State) → Grows s (invoke M s))
        (D : (M : Method) (s : State) → Within s → Limited (invoke M s) (invoke' M s)) where
      limited-back : (f : Frame Value) {r r' : Out Value} → Limited r r'
          → Limited (bind r (λ w t. ok w (with_frame f t))) (bind r' (λ w t. ok w (with_frame f t)))
      limited-back f (same_ok w) = same_ok (within_frame f w)
      limited-back f (same_stop w) = same_stop w
      limited-back f (cut (over_ok b) c w) = cut (over_ok (beyond_later b (later_frame _))) c w
      limited-back f (cut (over_stop b) c w) = cut (over_stop b) c w

      limited-call : (m : ℕ) (v : Value) (vs : List Value) (s : State) → Within s
          → Limited (do_call W without_limits invoke m v vs s) (do_call W (with_limits F K) invoke' m v vs s)
      limited-call m v vs s w = limited_object v s w λ j. limited_need (nth s.heap j) s w λ o.
          limited_need (W.method o.class_of m) s w λ M.
          limited_count (length vs) (length M.parameters) s w λ _.
          limited-back s.frame (D M (with_frame (frame (some (object j)) vs) s) (within_frame _ w))

      -- An expression run with limits is the expression run without, or is cut.
      mutual
        unfolding eval

        pub limited : (e : Expr) (s : State) → Within s
            → Limited (eval W without_limits invoke e s) (eval W (with_limits F K) invoke' e s)
        limited (literal l) s w = limited-enter s w (λ w. same_ok w) (grows W invoke C (literal l) s)
        limited (slot k) s w = limited-enter s w
            (λ w. limited_need (at_slot s.frame k) (entered s) w λ v. same_ok w)
            (grows W invoke C (slot k) s)
        limited (is_null e) s w = limited-enter s w
            (λ w. limited_bind (limited e (entered s) w) (λ v s w. limited_reference v s w λ b. same_ok w)
            (λ v s. grows_reference v s λ b. grows_ok (later_same s)))
            (grows W invoke C (is_null e) s)
        limited (get f e) s w = limited-enter s w
            (λ w. limited_bind (limited e (entered s) w) (λ v s w. limited-get f v s w)
            (λ v s. grows_get W f v s))
            (grows W invoke C (get f e) s)
        limited (cast c e) s w = limited-enter s w
            (λ w. limited_bind (limited e (entered s) w) (λ v s w. limited-cast c v s w)
            (λ v s. grows_cast W c v s))
            (grows W invoke C (cast c e) s)
        limited (new c) s w =
            limited-enter s w (λ w. limited-new c (entered s) w) (grows W invoke C (new c) s)
        limited (change k d) s w = limited-enter s w
            (λ w. limited_need (at_slot s.frame k) (entered s) w λ v. limited-change d v (entered s) w)
            (grows W invoke C (change k d) s)
        limited (assign k e) s w = limited-enter s w
            (λ w. limited_bind (limited e (entered s) w)
            (λ v s w. limited_need (at_slot s.frame k) s w λ _.
            same_ok (within_frame (with_slot s.frame k v) w))
            (λ v s. grows_need (at_slot s.frame k) s λ _. grows_ok (later_frame s)))
            (grows W invoke C (assign k e) s)
        limited (set f e e') s w = limited-enter s w
            (λ w. limited_bind (limited e (entered s) w)
            (λ v s w. limited_bind (limited e' s w) (λ x s w. limited-set f v x s w)
            (λ x s. grows_set W f v x s))
            (λ v s. grows_bind (grows_entered (grows W invoke C e' s)) λ x s. grows_set W f v x s))
            (grows W invoke C (set f e e') s)
        limited (call m e es) s w = limited-enter s w
            (λ w. limited_bind (limited e (entered s) w)
            (λ v s w. limited_bind (limited_all es s w) (λ vs s w. limited-call m v vs s w)
            (λ vs s. grows_call W invoke C m v vs s))
            (λ v s. grows_bind (grows_all W invoke C es s) λ vs s. grows_call W invoke C m v vs s))
            (grows W invoke C (call m e es) s)
        limited (choose e x y) s w = limited-enter s w
            (λ w. limited_bind (limited e (entered s) w)
            (λ v s w. limited_truth v s w λ b. limited_choice b (limited x s w) (limited y s w))
            (λ v s. grows_truth v s λ b.
            grows_choice b (grows_entered (grows W invoke C x s)) (grows_entered (grows W invoke C y s))))
            (grows W invoke C (choose e x y) s)
        limited (block ts es) s w = limited-enter s w
            (λ w. limited_bind
            (limited_all es (with_frame (opened s.frame (map initial ts)) (entered s)) (within_frame _ w))
            (λ vs t w. same_ok (within_frame (closed (length s.frame.slots) t.frame) w))
            (λ vs s. grows_ok (later_frame s)))
            (grows W invoke C (block ts es) s)

        pub limited_all : (es : Exprs) (s : State) → Within s
            → Limited (eval_all W without_limits invoke es s) (eval_all W (with_limits F K) invoke' es s)
        limited_all nil s w = same_ok w
        limited_all (cons e es) s w = limited_bind (limited e s w)
            (λ v s w. limited_bind (limited_all es s w) (λ vs s w. same_ok w)
            (λ vs s. grows_ok (later_same s)))
            (λ v s. grows_bind (grows_all W invoke C es s) λ vs s. grows_ok (later_same s))

    -- A call, of any depth, run with limits is the call run without, or is cut.
    pub limited_calls : (bodies : ℕ → Expr) (n : ℕ) (M : Method) (s : State) → Within s
        → Limited (call_at W without_limits bodies n M s) (call_at W (with_limits F K) bodies n M s)
    unfolding call_at
    limited_calls bodies zero M s w = same_stop w
    limited_calls bodies (suc n) M s w = limited (λ M s. call_at W without_limits bodies n M s)
        (λ M s. call_at W (with_limits F K) bodies n M s) (λ M s. grows_calls W bodies n M s)
        (λ M s w. limited_calls bodies n M s w) (bodies M.number) s w

    -- An expression outside of any call, run with fuel F and room K, is its run without limits, or is cut.
    pub limited_start : (bodies : ℕ → Expr) (e : Expr) (s : State) → Within s
        → Limited (eval_start W without_limits bodies e s) (eval_start W (with_limits F K) bodies e s)
    limited_start bodies e s w = limited (λ M s. call_at W without_limits bodies most_calls M s)
        (λ M s. call_at W (with_limits F K) bodies most_calls M s)
        (λ M s. grows_calls W bodies most_calls M s)
        (λ M s w. limited_calls bodies most_calls M s w) e s w

-- The state at the end of a run.
abbrev pub final : {A : Type 0} → Out A → State
final (ok a s) = s
final (stop x s) = s

-- A run that ends in a value, an exception or too deep a call: not cut, and not stuck.
abbrev pub proper_stop : Stop → Bool
proper_stop (raised n) = true
proper_stop deep = true
proper_stop spent = false
proper_stop full = false
proper_stop stuck = false

abbrev pub proper : {A : Type 0} → Out A → Bool
proper (ok a s) = true
proper (stop x s) = proper_stop x

module _ (F K : ℕ) where
  -- The run with limits is the run without, which keeps within them.
  pub record Kept {A : Type 0} (r r' : Out A) : Type 0 where
    pub is : r' ≡ r
    pub within : Within F K (final r)

  -- A run with limits that ends properly was not cut.
  pub kept : {A : Type 0} {r r' : Out A} → Limited F K r r' → proper r' ≡ true → Kept r r'
  kept (same_ok w) p = record { is = refl; within = w }
  kept (same_stop w) p = record { is = refl; within = w }
  kept (cut o cut_spent w) p = false≢ p
  kept (cut o cut_full w) p = false≢ p

  beyond_not : {s : State} → Beyond F K s → Within F K s → ⊥
  beyond_not (beyond_fuel p) w = omega (arith, p, w)
  beyond_not (beyond_room p) w = omega (arith, p, w)

  -- If the run without limits keeps within them, the run with limits is the same.
  pub uncut : {A : Type 0} {r r' : Out A} → Limited F K r r' → Within F K (final r) → r' ≡ r
  uncut (same_ok w) v = refl
  uncut (same_stop w) v = refl
  uncut (cut (over_ok b) c w) v = absurd (beyond_not b v)
  uncut (cut (over_stop b) c w) v = absurd (beyond_not b v)

  -- A run with limits ends within them.
  pub ends_within : {A : Type 0} {r r' : Out A} → Limited F K r r' → Within F K (final r')
  ends_within (same_ok w) = w
  ends_within (same_stop w) = w
  ends_within (cut o c w) = w
