-- The state that a store and the slots of a place hold; nodes that have been entered.
use Rattle.std.proofs.Math.Option.{Option, none, some}
use Rattle.std.specs.Prelude.{List, map, ℕ, zero, suc, ◌+◌, length, get_or, take, drop}
use Rattle.language.specs.Lists.{choice}
use Rattle.language.specs.Results.{ok, bind}
use Rattle.language.specs.Frames.{Frame, frame, at_slot, with_slot, opened, closed}
use Rattle.language.specs.Tree.{Expr, literal, slot, is_null, get, cast}
use Rattle.language.specs.Tree.{new, change, assign, set, call, choose, block, Class}
use Rattle.language.specs.World.{Method, World}
use Rattle.language.specs.State.{Value as Meaning, null, truth, State, Out, literal_value}
use Rattle.language.specs.Evaluation.{Limits}
use Rattle.language.specs.State.{initial, with_frame}
use Rattle.language.specs.Evaluation.{last_value, need, need_truth, need_reference}
use Rattle.language.specs.Evaluation.{do_get, do_set, do_cast, do_change, do_new, do_call, eval, eval_all}
use Rattle.objects.specs.declared.Tally.{Tally}
use Rattle.objects.specs.Values.{meaning}
use Rattle.objects.specs.Holding.{view}
use Rattle.frames.specs.declared.Place.{Place}

abbrev pub place_of : ℕ → ℕ → ℕ → ℕ → Place
place_of base scope top calls = record { base = base; scope = scope; top = top; calls = calls }

-- The slots of a place.
abbrev pub this_of : ℕ → ℕ → Option Meaning
this_of zero n = none
this_of (suc k) n = some (meaning n)

unfoldable pub slots_of : List ℕ → ℕ → ℕ → List Meaning
slots_of l from n = map meaning (take n (drop from l))

unfoldable pub frame_of : List ℕ → Place → Frame Meaning
frame_of l q = frame (this_of q.calls (get_or l q.base 0)) (slots_of l (q.base + 1) q.scope)

-- The state that store and slots hold, after `steps` steps.
abbrev pub state : List Class → List ℕ → List ℕ → Place → Tally → ℕ → State
state P s l q n steps = view P s n (frame_of l q) steps

-- A node with one child, once that has a value.
unfoldable pub after : World → Expr → Meaning → State → Out Meaning
after W (is_null e) v s = need_reference v s λ b. ok (truth b) s
after W (get f e) v s = do_get W f v s
after W (cast c e) v s = do_cast W c v s
after W (assign k e) v s = need (at_slot s.frame k) s λ _. ok v (with_frame (with_slot s.frame k v) s)
after W (literal l) v s = ok v s
after W (slot k) v s = ok v s
after W (new c) v s = ok v s
after W (change k d) v s = ok v s
after W (set f e e') v s = ok v s
after W (call m e es) v s = ok v s
after W (choose a b c) v s = ok v s
after W (block ts es) v s = ok v s

module _ (W : World) (L : Limits) where
  -- A node that has been entered.
  unfoldable pub inside : (Method → State → Out Meaning) → Expr → State → Out Meaning
  inside K (literal l) s = ok (literal_value l) s
  inside K (slot k) s = need (at_slot s.frame k) s λ v. ok v s
  inside K (is_null e) s = bind (eval W L K e s) λ v s. after W (is_null e) v s
  inside K (get f e) s = bind (eval W L K e s) λ v s. after W (get f e) v s
  inside K (cast c e) s = bind (eval W L K e s) λ v s. after W (cast c e) v s
  inside K (new c) s = do_new W L c s
  inside K (change k d) s = need (at_slot s.frame k) s λ v. do_change W d v s
  inside K (assign k e) s = bind (eval W L K e s) λ v s. after W (assign k e) v s
  inside K (set f e e') s = bind (eval W L K e s) λ v s. bind (eval W L K e' s) λ w s. do_set W f v w s
  inside K (call m e es) s = bind (eval W L K e s) λ v s. bind (eval_all W L K es s) λ vs s.
      do_call W L K m v vs s
  inside K (choose a b c) s = bind (eval W L K a s) λ v s. need_truth v s λ t.
      choice t (λ _. eval W L K b s) (λ _. eval W L K c s)
  inside K (block ts es) s =
      bind (eval_all W L K es (with_frame (opened s.frame (map initial ts)) s)) λ vs t.
      ok (last_value null vs) (with_frame (closed (length s.frame.slots) t.frame) t)
