-- Steps, objects and changes of a run without limits only grow.
use Prim.Native.Nat.{ℕ, zero, suc, ◌≤◌}
use mathlib.Core.Option.{Option, none, some}
use mathlib.Core.Bool.{Bool, true, false, cond}
use mathlib.Core.List.{List, [], ◌∷◌, ◌++◌, map}
use lib.ListN.{length, set as replace, length-append, length-set}
use lib.Dec.{eqb}
use native.Mathlib.Omega.{arith}
use Rattle.language.specs.Lists.{nth, choice}
use Rattle.language.specs.Results.{ok, stop, bind}
use Rattle.language.specs.Frames.{Frame, frame, at_slot, opened, closed}
use Rattle.language.specs.Tree.{Expr, literal, slot, is_null, get, cast}
use Rattle.language.specs.Tree.{new, change, assign, set, call, choose, block, Exprs, nil, cons}
use Rattle.language.specs.World.{Method, World}
use Rattle.language.specs.State.{Value, null, truth, object, Object, State, Stop, Out, stuck}
use Rattle.language.specs.Evaluation.{without_limits, need_reference, need_count, keeps_fields}
use Rattle.language.specs.State.{entered, with_frame, with_heap, with_change, initial}
use Rattle.language.specs.Evaluation.{last_value, need}
use Rattle.language.specs.Evaluation.{need_object, need_truth, new_object, changed, field_of, with_field}
use Rattle.language.specs.Evaluation.{do_get, do_set, do_cast, do_change, do_call, eval, eval_all, call_at}

-- One state is not before another: steps, objects and changes only grow.
pub record Later (s s' : State) : Type 0 where
  pub steps≤ : s.steps ≤ s'.steps
  pub heap≤ : length s.heap ≤ length s'.heap
  pub changes≤ : s.changes ≤ s'.changes

pub later_same : (s : State) → Later s s
later_same s = record { steps≤ = omega arith; heap≤ = omega arith; changes≤ = omega arith }

later_trans : {a b c : State} → Later a b → Later b c → Later a c
later_trans p q = record
    { steps≤ = omega (arith, p, q); heap≤ = omega (arith, p, q); changes≤ = omega (arith, p, q) }

later_entered : (s : State) → Later s (entered s)
later_entered s = record { steps≤ = omega arith; heap≤ = omega arith; changes≤ = omega arith }

pub later_frame : {f : Frame Value} (s : State) → Later s (with_frame f s)
later_frame s = let p = later_same s in
    record { steps≤ = p.steps≤; heap≤ = p.heap≤; changes≤ = p.changes≤ }

later_put : (j : ℕ) (o : Object) (s : State) → Later s (with_heap (replace s.heap j o) s)
later_put j o s = record
    { steps≤ = omega arith; heap≤ = omega (arith, length-set s.heap j o); changes≤ = omega arith }

-- A computation only goes on.
pub data Grows {A : Type 0} (s : State) : Out A → Type 0 where
  grows_ok : {a : A} {s' : State} → Later s s' → Grows s (ok a s')
  grows_stop : {x : Stop} {s' : State} → Later s s' → Grows s (stop x s')

grows_after : {A : Type 0} {s s' : State} {r : Out A} → Later s s' → Grows s' r → Grows s r
grows_after l (grows_ok l') = grows_ok (later_trans l l')
grows_after l (grows_stop l') = grows_stop (later_trans l l')

pub grows_entered : {A : Type 0} {s : State} {r : Out A} → Grows (entered s) r → Grows s r
grows_entered {s} g = grows_after (later_entered s) g

pub grows_bind : {A B : Type 0} {s : State} {r : Out A} {k : A → State → Out B} → Grows s r
    → ((a : A) (s : State) → Grows s (k a s)) → Grows s (bind r k)
grows_bind (grows_ok l) f = grows_after l (f _ _)
grows_bind (grows_stop l) f = grows_stop l

pub grows_need : {A B : Type 0} (o : Option A) (s : State) {k : A → Out B} → ((a : A) → Grows s (k a))
    → Grows s (need o s k)
grows_need none s f = grows_stop (later_same s)
grows_need (some a) s f = f a

grows_object : {B : Type 0} (v : Value) (s : State) {k : ℕ → Out B} → ((j : ℕ) → Grows s (k j))
    → Grows s (need_object v s k)
grows_object null s f = grows_stop (later_same s)
grows_object (truth b) s f = grows_stop (later_same s)
grows_object (object j) s f = f j

pub grows_truth : {B : Type 0} (v : Value) (s : State) {k : Bool → Out B} → ((b : Bool) → Grows s (k b))
    → Grows s (need_truth v s k)
grows_truth null s f = grows_stop (later_same s)
grows_truth (truth b) s f = f b
grows_truth (object j) s f = grows_stop (later_same s)

grows_count : {B : Type 0} (n m : ℕ) (s : State) {k : Bool → Out B} → ((b : Bool) → Grows s (k b))
    → Grows s (need_count n m s k)
grows_count n m s {k} f = go (eqb n m)
  where
    go : (b : Bool) → Grows s (choice b k (λ _. stop stuck s))
    go true = f true
    go false = grows_stop (later_same s)

pub grows_reference : {B : Type 0} (v : Value) (s : State) {k : Bool → Out B} → ((b : Bool) → Grows s (k b))
    → Grows s (need_reference v s k)
grows_reference null s f = f true
grows_reference (truth b) s f = grows_stop (later_same s)
grows_reference (object j) s f = f false

grows_cond : {B : Type 0} {s : State} (b : Bool) {x y : Out B} → Grows s x → Grows s y → Grows s (cond b x y)
grows_cond true p q = p
grows_cond false p q = q

pub grows_choice : {B : Type 0} {s : State} (b : Bool) {x y : Out B} → Grows s x → Grows s y
    → Grows s (choice b (λ _. x) (λ _. y))
grows_choice true p q = p
grows_choice false p q = q

-- Slots are the frame's own affair.
later_frames : {f f' : Frame Value} {s s' : State} → Later (with_frame f s) s' → Later s (with_frame f' s')
later_frames p = record { steps≤ = p.steps≤; heap≤ = p.heap≤; changes≤ = p.changes≤ }

grows_called : (f f' : Frame Value) {s : State} {r : Out Value} → Grows (with_frame f s) r
    → Grows s (bind r (λ w t. ok w (with_frame f' t)))
grows_called f f' (grows_ok p) = grows_ok (later_frames {f = f} p)
grows_called f f' (grows_stop p) =
    grows_stop (record { steps≤ = p.steps≤; heap≤ = p.heap≤; changes≤ = p.changes≤ })

grows_block : (n : ℕ) (f : Frame Value) {s : State} {r : Out (List Value)} → Grows (with_frame f s) r
    → Grows s (bind r (λ vs t. ok (last_value null vs) (with_frame (closed n t.frame) t)))
grows_block n f (grows_ok p) = grows_ok (later_frames {f = f} p)
grows_block n f (grows_stop p) =
    grows_stop (record { steps≤ = p.steps≤; heap≤ = p.heap≤; changes≤ = p.changes≤ })

module _ (W : World) where
  pub grows_get : (f : ℕ) (v : Value) (s : State) → Grows s (do_get W f v s)
  grows_get f v s = grows_object v s λ j. grows_need (nth s.heap j) s λ o.
      grows_need (field_of W f o) s λ w.
      grows_ok (later_same s)

  pub grows_set : (f : ℕ) (v w : Value) (s : State) → Grows s (do_set W f v w s)
  grows_set f v w s = grows_object v s λ j. grows_need (nth s.heap j) s λ o.
      grows_need (with_field W f w o) s λ o'. grows_ok (later_put j o' s)

  pub grows_cast : (c : ℕ) (v : Value) (s : State) → Grows s (do_cast W c v s)
  grows_cast c null s = grows_ok (later_same s)
  grows_cast c (truth b) s = grows_stop (later_same s)
  grows_cast c (object j) s = grows_need (nth s.heap j) s λ o.
      grows_cond (W.below o.class_of c) (grows_ok (later_same s)) (grows_stop (later_same s))

  grows_change : (d : ℕ) (v : Value) (s : State) → Grows s (do_change W d v s)
  grows_change d null s = grows_ok (later_same s)
  grows_change d (truth b) s = grows_stop (later_same s)
  grows_change d (object j) s = grows_need (nth s.heap j) s λ o.
      grows_cond (keeps_fields W d o) (grows_ok (put o))
      (grows_stop (later_same s))
    where
      put : (o : Object) → Later s (with_change (replace s.heap j (changed W d o)) s)
      put o = record {
        steps≤ = omega arith;
        heap≤ = omega (arith, length-set s.heap j (changed W d o));
        changes≤ = omega arith;
      }

  later_new : (c : ℕ) (s : State) → Later s (with_heap (s.heap ++ (new_object W c ∷ [])) s)
  later_new c s = record {
    steps≤ = omega arith;
    heap≤ = omega (arith, length-append s.heap (new_object W c ∷ []));
    changes≤ = omega arith;
  }

  module _ (invoke : Method → State → Out Value) (C : (M : Method) (s : State) → Grows s (invoke M s)) where
    pub grows_call : (m : ℕ) (v : Value) (vs : List Value) (s : State)
        → Grows s (do_call W without_limits invoke m v vs s)
    grows_call m v vs s = grows_object v s λ j. grows_need (nth s.heap j) s λ o.
        grows_need (W.method o.class_of m) s λ M.
        grows_count (length vs) (length M.parameters) s λ _.
        grows_called (frame (some (object j)) vs) s.frame (C M (with_frame (frame (some (object j)) vs) s))

    -- Steps, objects and changes of a run without limits only grow, from the node's own step on.
    mutual
      unfolding eval

      pub grows : (e : Expr) (s : State) → Grows (entered s) (eval W without_limits invoke e s)
      grows (literal l) s = grows_ok (later_same (entered s))
      grows (slot k) s = grows_need (at_slot s.frame k) (entered s) λ v. grows_ok (later_same (entered s))
      grows (is_null e) s = grows_bind (grows_entered (grows e (entered s))) λ v s.
          grows_reference v s λ b. grows_ok (later_same s)
      grows (get f e) s = grows_bind (grows_entered (grows e (entered s))) λ v s. grows_get f v s
      grows (cast c e) s = grows_bind (grows_entered (grows e (entered s))) λ v s. grows_cast c v s
      grows (new c) s = grows_ok (later_new c (entered s))
      grows (change k d) s = grows_need (at_slot s.frame k) (entered s) λ v. grows_change d v (entered s)
      grows (assign k e) s = grows_bind (grows_entered (grows e (entered s))) λ v s.
          grows_need (at_slot s.frame k) s λ _. grows_ok (later_frame s)
      grows (set f e e') s = grows_bind (grows_entered (grows e (entered s))) λ v s.
          grows_bind (grows_entered (grows e' s)) λ w s. grows_set f v w s
      grows (call m e es) s = grows_bind (grows_entered (grows e (entered s))) λ v s.
          grows_bind (grows_all es s) λ vs s. grows_call m v vs s
      grows (choose e x y) s = grows_bind (grows_entered (grows e (entered s))) λ v s. grows_truth v s λ b.
          grows_choice b (grows_entered (grows x s)) (grows_entered (grows y s))
      grows (block ts es) s = let f = opened s.frame (map initial ts) in
          grows_block (length s.frame.slots) f (grows_all es (with_frame f (entered s)))

      pub grows_all : (es : Exprs) (s : State) → Grows s (eval_all W without_limits invoke es s)
      grows_all nil s = grows_ok (later_same s)
      grows_all (cons e es) s = grows_bind (grows_entered (grows e s)) λ v s.
          grows_bind (grows_all es s) λ vs s. grows_ok (later_same s)

  -- So do those of a call, of any depth.
  pub grows_calls : (bodies : ℕ → Expr) (n : ℕ) (M : Method) (s : State)
      → Grows s (call_at W without_limits bodies n M s)
  unfolding call_at
  grows_calls bodies zero M s = grows_stop (later_same s)
  grows_calls bodies (suc n) M s = grows_entered (grows (λ M s. call_at W without_limits bodies n M s)
      (λ M s. grows_calls bodies n M s) (bodies M.number) s)
