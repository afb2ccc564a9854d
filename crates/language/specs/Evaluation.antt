-- Evaluation (document 01, "Evaluation"; 002, Figures 3 to 6), with limits and calls as parameters.
-- An expression gives a value and a state, or a reason to stop and the state then.
use Rattle.std.specs.Prelude.{ℕ, zero, suc, Bool, true, false, cond, ◌&&◌, List, [], ◌∷◌, ◌++◌, map, length, take, drop, set as replace, eqb, leb}
use Rattle.std.proofs.Math.Option.{Option, none, some}
use Rattle.language.specs.Limits.{most_calls, null_exception, cast_exception}
use Rattle.language.specs.State.{Value, null, truth, object, Object, State, raised, spent, deep, full}
use Rattle.language.specs.State.{stuck, Out, entered, with_frame, with_heap, with_change, initial}
use Rattle.language.specs.State.{initials, literal_value}
pub use Rattle.language.specs.State.{last_value}
use Rattle.language.specs.Lists.{nth, bind_option, choice}
use Rattle.language.specs.Results.{ok, stop, bind}
use Rattle.language.specs.Frames.{frame, at_slot, with_slot, opened, closed}
use Rattle.language.specs.Tree.{Expr, literal, slot, is_null, get, cast, new, change, assign, set}
use Rattle.language.specs.Tree.{call, choose, block, Exprs, nil, cons, Program}
use Rattle.language.specs.World.{Method, World, place}
use Rattle.language.specs.Program.{body_in, world}

-- The limits of a run: after how many steps no fuel is left, and after how many objects no room.
pub record Limits : Type 0 where
  pub spent_at : ℕ → Bool
  pub full_at : ℕ → Bool

abbrev pub without_limits : Limits
without_limits = record { spent_at = λ _. false; full_at = λ _. false }

abbrev pub with_limits : ℕ → ℕ → Limits
with_limits fuel capacity = record { spent_at = λ n. leb fuel n; full_at = λ n. leb capacity n }

-- What must be there; an object; a truth value.
abbrev pub need : {A B : Type 0} → Option A → State → (A → Out B) → Out B
need none s k = stop stuck s
need (some a) s k = k a

abbrev pub need_object : {B : Type 0} → Value → State → (ℕ → Out B) → Out B
need_object null s k = stop (raised null_exception) s
need_object (truth b) s k = stop stuck s
need_object (object j) s k = k j

abbrev pub need_count : {B : Type 0} → ℕ → ℕ → State → (Bool → Out B) → Out B
need_count n m s k = choice (eqb n m) k (λ _. stop stuck s)

abbrev pub need_truth : {B : Type 0} → Value → State → (Bool → Out B) → Out B
need_truth null s k = stop stuck s
need_truth (truth b) s k = k b
need_truth (object j) s k = stop stuck s

-- Whether a value is null; a truth value is neither null nor an object.
abbrev pub need_reference : {B : Type 0} → Value → State → (Bool → Out B) → Out B
need_reference null s k = k true
need_reference (truth b) s k = stop stuck s
need_reference (object j) s k = k false

module _ (W : World) where
  abbrev pub new_object : ℕ → Object
  new_object c = record { class_of = c; fields = initials (W.fields c) }

  -- An object changed to class d: the fields of its own class's root stay, the others of d have their first values.
  abbrev pub changed : ℕ → Object → Object
  changed d o = let n = length (W.fields (W.root o.class_of)) in
      record { class_of = d; fields = take n o.fields ++ initials (drop n (W.fields d)) }

  -- The object and the target have as many fields as stay.
  abbrev pub keeps_fields : ℕ → Object → Bool
  keeps_fields d o = let n = length (W.fields (W.root o.class_of)) in
      leb n (length o.fields) && leb n (length (W.fields d))

  abbrev pub field_of : ℕ → Object → Option Value
  field_of f o = bind_option (place f (W.fields o.class_of)) λ i. nth o.fields i

  abbrev pub with_field : ℕ → Value → Object → Option Object
  with_field f v o = bind_option (place f (W.fields o.class_of)) λ i.
      some (record { class_of = o.class_of; fields = replace o.fields i v })

  -- G, U, K and R, once their parts have values. R keeps the fields of the root of the object's class; where the object
  -- or the target lacks them, it is stuck.
  abbrev pub do_get : ℕ → Value → State → Out Value
  do_get f v s = need_object v s λ j. need (nth s.heap j) s λ o. need (field_of f o) s λ w. ok w s

  abbrev pub do_set : ℕ → Value → Value → State → Out Value
  do_set f v w s = need_object v s λ j. need (nth s.heap j) s λ o. need (with_field f w o) s λ o'.
      ok w (with_heap (replace s.heap j o') s)

  abbrev pub do_cast : ℕ → Value → State → Out Value
  do_cast c null s = ok null s
  do_cast c (truth b) s = stop stuck s
  do_cast c (object j) s = need (nth s.heap j) s λ o.
      cond (W.below o.class_of c) (ok (object j) s) (stop (raised cast_exception) s)

  abbrev pub do_change : ℕ → Value → State → Out Value
  do_change d null s = ok null s
  do_change d (truth b) s = stop stuck s
  do_change d (object j) s = need (nth s.heap j) s λ o.
      cond (keeps_fields d o)
      (ok (object j) (with_change (replace s.heap j (changed d o)) s))
      (stop stuck s)

  module _ (L : Limits) where
    -- Entering a node costs one fuel.
    abbrev pub enter : {B : Type 0} → State → (State → Out B) → Out B
    enter s k = choice (L.spent_at s.steps) (λ _. stop spent s) (λ _. k (entered s))

    -- W.
    abbrev pub do_new : ℕ → State → Out Value
    do_new c s = cond (L.full_at (length s.heap))
        (stop full s)
        (ok (object (length s.heap)) (with_heap (s.heap ++ (new_object c ∷ [])) s))

    module _ (invoke : Method → State → Out Value) where
      -- Q: as many arguments as there are parameters. The body runs in slots of its own; afterwards the caller's are as
      -- before.
      abbrev pub do_call : ℕ → Value → List Value → State → Out Value
      do_call m v vs s = need_object v s λ j. need (nth s.heap j) s λ o.
          need (W.method o.class_of m) s λ M.
          need_count (length vs) (length M.parameters) s λ _.
          bind (invoke M (with_frame (frame (some (object j)) vs) s)) λ w t. ok w (with_frame s.frame t)

      unfoldable mutual
        pub eval : Expr → State → Out Value
        eval (literal l) s = enter s λ s. ok (literal_value l) s
        eval (slot k) s = enter s λ s. need (at_slot s.frame k) s λ v. ok v s
        eval (is_null e) s = enter s λ s. bind (eval e s) λ v s. need_reference v s λ b. ok (truth b) s
        eval (get f e) s = enter s λ s. bind (eval e s) λ v s. do_get f v s
        eval (cast c e) s = enter s λ s. bind (eval e s) λ v s. do_cast c v s
        eval (new c) s = enter s λ s. do_new c s
        eval (change k d) s = enter s λ s. need (at_slot s.frame k) s λ v. do_change d v s
        eval (assign k e) s = enter s λ s. bind (eval e s) λ v s. need (at_slot s.frame k) s λ _.
            ok v (with_frame (with_slot s.frame k v) s)
        eval (set f e e') s = enter s λ s. bind (eval e s) λ v s. bind (eval e' s) λ w s. do_set f v w s
        eval (call m e es) s = enter s λ s. bind (eval e s) λ v s. bind (eval_all es s) λ vs s.
            do_call m v vs s
        eval (choose a b c) s = enter s λ s. bind (eval a s) λ v s. need_truth v s λ t.
            choice t (λ _. eval b s) (λ _. eval c s)
        eval (block ts es) s = enter s λ s. let n = length s.frame.slots in
            bind (eval_all es (with_frame (opened s.frame (map initial ts)) s)) λ vs s.
            ok (last_value null vs) (with_frame (closed n s.frame) s)

        -- Several in a row: a call's arguments, a block's expressions.
        pub eval_all : Exprs → State → Out (List Value)
        eval_all nil s = ok [] s
        eval_all (cons e es) s = bind (eval e s) λ v s. bind (eval_all es s) λ vs s. ok (v ∷ vs) s

    module _ (bodies : ℕ → Expr) where
      -- A call where n more calls are allowed; bodies go by the number of their method.
      unfoldable pub call_at : ℕ → Method → State → Out Value
      call_at zero M s = stop deep s
      call_at (suc n) M s = eval (λ M s. call_at n M s) (bodies M.number) s

      -- An expression outside of any call.
      abbrev pub eval_start : Expr → State → Out Value
      eval_start e s = eval (λ M s. call_at most_calls M s) e s

abbrev pub first_state : State
first_state = record { frame = frame none []; heap = []; steps = 0; changes = 0 }

-- The run of a program.
unfoldable pub run : Limits → Program → Out Value
run L p = eval_start (world p.classes) L (body_in p.classes) p.start first_state
