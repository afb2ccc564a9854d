-- What the functions of the cycle require and ensure.
use Rattle.std.specs.Prelude.{◌≡◌, List, ℕ, suc, ◌+◌, ◌-◌, ◌≤◌, ◌<◌, length, get_or}
use Rattle.language.specs.Results.{ok, bind}
use Rattle.language.specs.Frames.{Frame}
use Rattle.language.specs.Tree.{Expr, Exprs, count, Class}
use Rattle.language.specs.Program.{world}
use Rattle.language.specs.Encoded.{Encoded, EncodedAll}
use Rattle.language.specs.State.{Value as Meaning, null, State, raised}
use Rattle.language.specs.State.{stuck, Out, with_frame}
use Rattle.language.specs.Evaluation.{last_value, eval_all, with_limits}
use Rattle.language.specs.Store.{capacity}
use Rattle.language.specs.Limits.{of_check, most_calls}
use Rattle.language.specs.WellFormed.{BodyInForm}
use Rattle.layout.specs.ProperNodes.{Typed, ProperAll}
use Rattle.objects.specs.Values.{stop_of, SmallOutcome, told, bare, Outcome, Gave}
use Rattle.objects.specs.declared.Tally.{Tally}
use Rattle.objects.specs.Values.{Raised, Stopped, Stuck, Answer}
use Rattle.objects.specs.Holding.{Holding, view}
use Rattle.objects.specs.Acts.{Stored, IsWord}
use Rattle.language.specs.Results.{stop}
use Rattle.objects.specs.Values.{bare_state, stop_of}
use Rattle.frames.specs.declared.Place.{Place}
use Rattle.frames.specs.Places.{slots_of, frame_of, state}
use Rattle.frames.specs.Slots.{waiting, segment_length}
use Rattle.frames.specs.Nodes.{Ready, Kept, Done, evaluated, calls_of, PreEval}

-- ---- nodes

-- F is the fuel of the whole run, of which k have been spent.
pub record PostEval (R E T A M s l s' l' : List ℕ) (at : ℕ) (q : Place) (n : Tally) (r : Answer) : Type 0
  where
    pub done : (w : PreEval R E T A M s l at q n) (F k : ℕ) → k + n.left ≡ F
        → Done w.P w.width s l s' l' q n F 0 r
        (evaluated w.P F (capacity s) q.calls w.e (state w.P s l q n k))

-- ---- lists

-- The value of no expressions.
abbrev pub nothing : Meaning
nothing = null

-- What an outcome of several values means, which stand elsewhere, with a state.
abbrev pub told_all : Outcome → List Meaning → State → Out (List Meaning)
told_all (Gave v) vs s = ok vs s
told_all (Raised n) vs s = stop (raised n) (bare_state s)
told_all (Stopped n) vs s = stop (stop_of n) (bare_state s)
told_all Stuck vs s = stop stuck (bare_state s)

abbrev pub evaluated_all : List Class → ℕ → ℕ → ℕ → Exprs → State → Out (List Meaning)
evaluated_all P F room calls es s =
    eval_all (world P) (with_limits F room) (λ M s. calls_of P F room calls M s) es s

-- A list of m expressions.
pub record PreList (R E T A M s l : List ℕ) (at : ℕ) (q : Place) (n : Tally) (m : ℕ) : Type 0 where
  pub P : List Class
  pub es : Exprs
  pub width : ℕ
  pub d : ℕ
  pub ready : Ready R E T A M s l P width q n d 0
  pub encoded : EncodedAll R E es at
  pub proper : ProperAll P width (suc q.scope) d es
  pub many : m ≡ count es
  pub few : m < 4294967296

-- The arguments of a call go to the top; there is room for them.
pub record PreArgs (R E T A M s l : List ℕ) (at : ℕ) (q : Place) (n : Tally) (m : ℕ) : Type 0 where
  pub list : PreList R E T A M s l at q n m
  pub room : q.top + m + waiting list.d ≤ length l

pub record PostItems (R E T A M s l s' l' : List ℕ) (at : ℕ) (q : Place) (n : Tally) (m : ℕ) (last : Meaning)
    (r : Answer) : Type 0 where
  pub done : (w : PreList R E T A M s l at q n m) (F k : ℕ) → k + n.left ≡ F
      → Done w.P w.width s l s' l' q n F 0 r
      (bind (evaluated_all w.P F (capacity s) q.calls w.es (state w.P s l q n k)) λ vs t.
      ok (last_value last vs) t)

-- What argument evaluation comes to: the values stand from the top on.
pub record DoneAll (P : List Class) (width : ℕ) (s l s' l' : List ℕ) (q : Place) (n : Tally) (F m : ℕ)
    (r : Answer)
    (o : Out (List Meaning)) : Type 0 where
  pub kept : Kept P width s l s' l' q n 0 r
  pub is : told_all r.outcome (slots_of l' q.top m) (state P s' l' q r.counts (F - r.counts.left))
      ≡ bare o

pub record PostArgs (R E T A M s l s' l' : List ℕ) (at : ℕ) (q : Place) (n : Tally) (m : ℕ) (r : Answer) :
    Type
    0 where
  pub done : (w : PreArgs R E T A M s l at q n m) (F k : ℕ) → k + n.left ≡ F
      → DoneAll w.list.P w.list.width s l s' l' q n F m r
      (evaluated_all w.list.P F (capacity s) q.calls w.list.es (state w.list.P s l q n k))

-- ---- calls

-- The body e of a method is at row b; `this` and n arguments are in the slots from top on; `calls` calls are active, this one
-- included.
pub record PreEnter (R E T A M s l : List ℕ) (b n top calls : ℕ) (c : Tally) : Type 0 where
  pub P : List Class
  pub e : Expr
  pub holding : Holding R E T A M s P c.made
  pub few : n ≤ of_check.parameters
  pub there : top + (n + 1) ≤ length l
  pub whole : length l ≡ segment_length
  pub words : (i : ℕ) → IsWord (get_or l i 0)
  pub active : calls ≤ most_calls
  pub counted : c.changes + c.left ≤ 4294967295
  pub encoded : Encoded R E e b
  pub in_form : BodyInForm of_check (1 + n) e
  pub typed : Typed P e

-- The place of a call whose `this` is at top.
abbrev pub call_place : ℕ → ℕ → ℕ → Place
call_place top n calls = record { base = top; scope = n; top = top; calls = calls }

-- The slots below top are kept, and outcome and state are those of the body, with the caller's slots γ again.
pub record Entered (P : List Class) (s l s' l' : List ℕ) (e : Expr) (n top calls : ℕ) (c : Tally) (F k : ℕ)
    (r : Answer) : Type 0 where
  pub same : (i : ℕ) → i < top → get_or l' i 0 ≡ get_or l i 0
  pub long : length l' ≡ length l
  pub words : (i : ℕ) → IsWord (get_or l' i 0)
  pub stored : Stored P s s' c.made r.counts.made
  pub falls : r.counts.left ≤ c.left
  pub counted : r.counts.changes + r.counts.left ≤ c.changes + c.left
  pub small : SmallOutcome r.outcome
  pub is : (γ : Frame Meaning)
      → told r.outcome (view P s' r.counts γ (F - r.counts.left))
      ≡ bare (bind (evaluated P F (capacity s) calls e (view P s c (frame_of l (call_place top n calls)) k))
      λ w t. ok w (with_frame γ t))

pub record PostEnter (R E T A M s l s' l' : List ℕ) (b n top calls : ℕ) (c : Tally) (r : Answer) : Type 0
  where
    pub done : (w : PreEnter R E T A M s l b n top calls c) (F k : ℕ) → k + c.left ≡ F
        → Entered w.P s l s' l' w.e n top calls c F k r
