-- Evaluation as a relation (002, Figures 3 to 6; document 01, "Evaluation" and "Refusals and stops").
-- e, σ ⇝ w, σ' of the figures is `Evaluates P fuel room n e s r`: P are the classes of their program p, and r is a
-- value, an exception or a stop, with the state then.
-- The figures' rules speak of a node that has been entered (`Entered`); what stops a part stops the whole.
-- Nothing is derived that is stuck: a member that is not there, or a value of the wrong sort, has no rule.
-- Each place where document 01 departs from the figures is marked DEPARTS.
-- DEPARTS throughout: fuel, room for objects, and n more calls that are allowed bound a run; a state counts nodes
-- entered and changes of class; at an exception or stop, which ends the run, slots are left as they are.
use Rattle.std.specs.Prelude.{◌≡◌, ℕ, suc, ◌≤◌, ◌<◌, true, false, List, [], ◌∷◌, ◌++◌, map, length, set as replace}
use Rattle.std.proofs.Math.Option.{some}
use Rattle.language.specs.Limits.{null_exception, cast_exception}
use Rattle.language.specs.Lists.{nth}
use Rattle.language.specs.Results.{ok, stop}
use Rattle.language.specs.Frames.{frame, at_slot, with_slot, opened, closed}
use Rattle.language.specs.Tree.{Literal, literal, DeclaredType, Expr, slot}
use Rattle.language.specs.Tree.{is_null, get, cast, new, change, assign, set, call, choose, block}
use Rattle.language.specs.Tree.{Exprs, nil, cons, Declaration, Class}
use Rattle.language.specs.ClassRelations.{Subclass, FindsMethod}
use Rattle.language.specs.ObjectRelations.{NewObject, Reads, Writes, ChangesTo}
use Rattle.language.specs.State.{Value, null, truth, object, Object, State, Stop, raised, spent}
use Rattle.language.specs.State.{deep, full, Out, entered, with_frame, with_heap, with_change}
use Rattle.language.specs.State.{initial, literal_value, last_value}

-- The state in which a method's body runs.
abbrev pub called : ℕ → List Value → State → State
called j vs s = with_frame (frame (some (object j)) vs) s

module _ (P : List Class) (fuel room : ℕ) where
  mutual
    -- A node, which costs one fuel to enter.
    pub data Evaluates : ℕ → Expr → State → Out Value → Type 0 where
      -- There is fuel: the node is entered.
      enters : {n : ℕ} {e : Expr} {s : State} {r : Out Value}
          → s.steps < fuel → Entered n e (entered s) r → Evaluates n e s r
      -- DEPARTS: there is none, 14.
      is_spent : {n : ℕ} {e : Expr} {s : State}
          → fuel ≤ s.steps → Evaluates n e s (stop spent s)

    -- A node that has been entered.
    pub data Entered : ℕ → Expr → State → Out Value → Type 0 where
      -- Figure 3, val.
      val : {n : ℕ} {l : Literal} {s : State} → Entered n (literal l) s (ok (literal_value l) s)
      -- Figure 3, cast.
      cast_object : {n c j : ℕ} {e : Expr} {s t : State} (o : Object)
          → Evaluates n e s (ok (object j) t) → nth t.heap j ≡ some o → Subclass P o.class_of c
          → Entered n (cast c e) s (ok (object j) t)
      -- Figure 3, n-cast.
      cast_null : {n c : ℕ} {e : Expr} {s t : State}
          → Evaluates n e s (ok null t) → Entered n (cast c e) s (ok null t)
      -- Figure 3, id.
      id : {n k : ℕ} {s : State} {v : Value}
          → at_slot s.frame k ≡ some v → Entered n (slot k) s (ok v s)
      -- Figure 3, field.
      field : {n f j : ℕ} {e : Expr} {s t : State} {v : Value} (o : Object)
          → Evaluates n e s (ok (object j) t) → nth t.heap j ≡ some o → Reads P o f v
          → Entered n (get f e) s (ok v t)
      -- Figure 3, t-isnull.
      isnull_true : {n : ℕ} {e : Expr} {s t : State}
          → Evaluates n e s (ok null t) → Entered n (is_null e) s (ok (truth true) t)
      -- Figure 3, f-isnull. DEPARTS: the figure also asks that the object is there, as every object of a run is.
      isnull_false : {n j : ℕ} {e : Expr} {s t : State}
          → Evaluates n e s (ok (object j) t) → Entered n (is_null e) s (ok (truth false) t)
      -- Figure 3, a-var. DEPARTS: the slot is there, which the figure does not ask; typing has seen to it.
      assign_slot : {n k : ℕ} {e : Expr} {s t : State} {v old : Value}
          → Evaluates n e s (ok v t) → at_slot t.frame k ≡ some old
          → Entered n (assign k e) s (ok v (with_frame (with_slot t.frame k v) t))
      -- Figure 3, a-field.
      assign_field : {n f j : ℕ} {e e' : Expr} {s t u : State} {v : Value} (o o' : Object)
          → Evaluates n e s (ok (object j) t) → Evaluates n e' t (ok v u)
          → nth u.heap j ≡ some o → Writes P o f v o'
          → Entered n (set f e e') s (ok v (with_heap (replace u.heap j o') u))
      -- Figure 3, t-cond; what stops the arm stops the whole, as Figure 6 has it.
      choose_true : {n : ℕ} {e x y : Expr} {s t : State} {r : Out Value}
          → Evaluates n e s (ok (truth true) t) → Evaluates n x t r → Entered n (choose e x y) s r
      -- Figure 3, f-cond; likewise.
      choose_false : {n : ℕ} {e x y : Expr} {s t : State} {r : Out Value}
          → Evaluates n e s (ok (truth false) t) → Evaluates n y t r → Entered n (choose e x y) s r
      -- Figure 3, block.
      block_end : {n : ℕ} {ts : List DeclaredType} {es : Exprs} {s t : State} {vs : List Value}
          → EvaluatesAll n es (with_frame (opened s.frame (map initial ts)) s) (ok vs t)
          → Entered n (block ts es) s (ok (last_value null vs)
          (with_frame (closed (length s.frame.slots) t.frame) t))
      -- Figure 3, new: there is room for the object.
      new_made : {n c : ℕ} {s : State} (o : Object) → length s.heap < room → NewObject P c o
          → Entered n (new c) s (ok (object (length s.heap)) (with_heap (s.heap ++ (o ∷ [])) s))
      -- DEPARTS: there is none, 16.
      new_full : {n c : ℕ} {s : State} → room ≤ length s.heap → Entered n (new c) s (stop full s)
      -- Figure 3, meth: there are as many arguments as parameters, one call fewer is allowed in the body; afterwards the
      -- caller's slots are as before.
      meth : {n m j : ℕ} {e : Expr} {es : Exprs} {s t u w : State} {v : Value} {vs : List Value}
          (o : Object) (owner : ℕ) (d : Declaration)
          → Evaluates (suc n) e s (ok (object j) t) → EvaluatesAll (suc n) es t (ok vs u)
          → nth u.heap j ≡ some o → FindsMethod P o.class_of m owner d
          → length vs ≡ length d.parameters
          → Evaluates n d.body (called j vs u) (ok v w)
          → Entered (suc n) (call m e es) s (ok v (with_frame u.frame w))
      -- DEPARTS: a call on an object where no more calls are allowed, 15.
      too_deep : {m j : ℕ} {e : Expr} {es : Exprs} {s t u : State} {vs : List Value}
          (o : Object) (owner : ℕ) (d : Declaration)
          → Evaluates 0 e s (ok (object j) t) → EvaluatesAll 0 es t (ok vs u)
          → nth u.heap j ≡ some o → FindsMethod P o.class_of m owner d
          → length vs ≡ length d.parameters
          → Entered 0 (call m e es) s (stop deep (called j vs u))
      -- Figure 4, recl.
      recl : {n k d j : ℕ} {s : State} (o o' : Object)
          → at_slot s.frame k ≡ some (object j) → nth s.heap j ≡ some o → ChangesTo P o d o'
          → Entered n (change k d) s (ok (object j) (with_change (replace s.heap j o') s))
      -- Figure 4, n-recl.
      recl_null : {n k d : ℕ} {s : State}
          → at_slot s.frame k ≡ some null → Entered n (change k d) s (ok null s)
      -- Figure 5, e-cast.
      cast_raises : {n c j : ℕ} {e : Expr} {s t : State} (o : Object)
          → Evaluates n e s (ok (object j) t) → nth t.heap j ≡ some o
          → (Subclass P o.class_of c → ⊥)
          → Entered n (cast c e) s (stop (raised cast_exception) t)
      -- Figure 5, field_null.
      field_null : {n f : ℕ} {e : Expr} {s t : State}
          → Evaluates n e s (ok null t) → Entered n (get f e) s (stop (raised null_exception) t)
      -- Figure 5, a-field-null.
      assign_field_null : {n f : ℕ} {e e' : Expr} {s t u : State} {v : Value}
          → Evaluates n e s (ok null t) → Evaluates n e' t (ok v u)
          → Entered n (set f e e') s (stop (raised null_exception) u)
      -- Figure 5, meth_null.
      meth_null : {n m : ℕ} {e : Expr} {es : Exprs} {s t u : State} {vs : List Value}
          → Evaluates n e s (ok null t) → EvaluatesAll n es t (ok vs u)
          → Entered n (call m e es) s (stop (raised null_exception) u)
      -- Figure 6: what stops a part, exception or stop, stops the whole. K.
      from_cast : {n c : ℕ} {e : Expr} {s t : State} {x : Stop}
          → Evaluates n e s (stop x t) → Entered n (cast c e) s (stop x t)
      -- Figure 6: A.
      from_assign : {n k : ℕ} {e : Expr} {s t : State} {x : Stop}
          → Evaluates n e s (stop x t) → Entered n (assign k e) s (stop x t)
      -- Figure 6: G.
      from_get : {n f : ℕ} {e : Expr} {s t : State} {x : Stop}
          → Evaluates n e s (stop x t) → Entered n (get f e) s (stop x t)
      -- Figure 6: Z.
      from_is_null : {n : ℕ} {e : Expr} {s t : State} {x : Stop}
          → Evaluates n e s (stop x t) → Entered n (is_null e) s (stop x t)
      -- Figure 6: Q, in its receiver.
      from_receiver : {n m : ℕ} {e : Expr} {es : Exprs} {s t : State} {x : Stop}
          → Evaluates n e s (stop x t) → Entered n (call m e es) s (stop x t)
      -- Figure 6: U, in its object.
      from_object : {n f : ℕ} {e e' : Expr} {s t : State} {x : Stop}
          → Evaluates n e s (stop x t) → Entered n (set f e e') s (stop x t)
      -- Figure 6: U, in its value. DEPARTS: also where the object is null, for which the figure has no rule.
      from_value : {n f : ℕ} {e e' : Expr} {s t u : State} {v : Value} {x : Stop}
          → Evaluates n e s (ok v t) → Evaluates n e' t (stop x u) → Entered n (set f e e') s (stop x u)
      -- Figure 6: Q, in its arguments. DEPARTS: also where the receiver is null.
      from_arguments : {n m : ℕ} {e : Expr} {es : Exprs} {s t u : State} {v : Value} {x : Stop}
          → Evaluates n e s (ok v t) → EvaluatesAll n es t (stop x u) → Entered n (call m e es) s (stop x u)
      -- Figure 6: Q, in the body.
      from_body : {n m j : ℕ} {e : Expr} {es : Exprs} {s t u w : State} {vs : List Value} {x : Stop}
          (o : Object) (owner : ℕ) (d : Declaration)
          → Evaluates (suc n) e s (ok (object j) t) → EvaluatesAll (suc n) es t (ok vs u)
          → nth u.heap j ≡ some o → FindsMethod P o.class_of m owner d
          → length vs ≡ length d.parameters
          → Evaluates n d.body (called j vs u) (stop x w)
          → Entered (suc n) (call m e es) s (stop x w)
      -- Figure 6: J, in its condition.
      from_condition : {n : ℕ} {e a b : Expr} {s t : State} {x : Stop}
          → Evaluates n e s (stop x t) → Entered n (choose e a b) s (stop x t)
      -- Figure 6: B.
      from_block : {n : ℕ} {ts : List DeclaredType} {es : Exprs} {s t : State} {x : Stop}
          → EvaluatesAll n es (with_frame (opened s.frame (map initial ts)) s) (stop x t)
          → Entered n (block ts es) s (stop x t)

    -- Several in a row, up to the first that stops.
    pub data EvaluatesAll : ℕ → Exprs → State → Out (List Value) → Type 0 where
      -- None.
      all_nil : {n : ℕ} {s : State} → EvaluatesAll n nil s (ok [] s)
      -- One and the rest.
      all_cons : {n : ℕ} {e : Expr} {es : Exprs} {s t u : State} {v : Value} {vs : List Value}
          → Evaluates n e s (ok v t) → EvaluatesAll n es t (ok vs u)
          → EvaluatesAll n (cons e es) s (ok (v ∷ vs) u)
      -- The first stops.
      from_first : {n : ℕ} {e : Expr} {es : Exprs} {s t : State} {x : Stop}
          → Evaluates n e s (stop x t) → EvaluatesAll n (cons e es) s (stop x t)
      -- A later one stops.
      from_later : {n : ℕ} {e : Expr} {es : Exprs} {s t u : State} {v : Value} {x : Stop}
          → Evaluates n e s (ok v t) → EvaluatesAll n es t (stop x u)
          → EvaluatesAll n (cons e es) s (stop x u)
