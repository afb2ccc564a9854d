-- What a node requires and ensures before it is entered and once it has been, and what the functions of nodes that need no
-- child evaluated do.
use Rattle.std.specs.Prelude.{◌≡◌, true, ◌||◌, Bool, List, ℕ, suc, ◌+◌, ◌-◌, ◌*◌, ◌≤◌, ◌<◌, eqb, length, get_or, ◌⊎◌}
use Rattle.language.specs.Tree.{Expr, Class}
use Rattle.language.specs.World.{Method}
use Rattle.language.specs.Program.{world, body_in}
use Rattle.language.specs.Encoded.{Encoded}
use Rattle.language.specs.State.{Value as Meaning, State}
use Rattle.language.specs.State.{Out}
use Rattle.language.specs.Evaluation.{eval, with_limits, call_at}
use Rattle.language.specs.Store.{capacity}
use Rattle.language.specs.Limits.{most_calls}
use Rattle.layout.specs.ProperNodes.{Proper}
use Rattle.objects.specs.Values.{SmallOutcome, told, bare, Outcome}
use Rattle.objects.specs.declared.Tally.{Tally}
use Rattle.objects.specs.Values.{Answer}
use Rattle.objects.specs.Holding.{Holding}
use Rattle.objects.specs.Acts.{Stored, IsWord}
use Rattle.language.specs.Rows.{code, T_true, L_false, N_null, I_slot, Z_is_null, G_get, K_cast, W_new}
use Rattle.language.specs.Rows.{R_change, A_assign}
use Rattle.frames.specs.declared.Place.{Place}
use Rattle.frames.specs.Places.{state, after, inside}
use Rattle.frames.specs.Slots.{waiting, segment_length}

-- Everything fits: a frame of a width at base, waiting values up to top, and room for those of d nested nodes; z is 1
-- where a node has been entered.
pub record Ready (R E T A M s l : List ℕ) (P : List Class) (width : ℕ) (q : Place) (n : Tally) (d z : ℕ) :
    Type 0 where
  pub holding : Holding R E T A M s P n.made
  pub frame : q.base + width ≤ q.top
  pub scoped : q.scope + 1 ≤ width
  pub whole : length l ≡ segment_length
  pub above : q.top + waiting d ≤ length l
  pub words : (i : ℕ) → IsWord (get_or l i 0)
  pub active : q.calls ≤ most_calls
  pub counted : n.changes + n.left + z ≤ 4294967295

-- The counts once a node has been entered: one fuel less.
abbrev pub entered : Tally → Tally
entered n = record { left = n.left - 1; made = n.made; changes = n.changes }

-- What is the same afterwards.
pub record Kept (P : List Class) (width : ℕ) (s l s' l' : List ℕ) (q : Place) (n : Tally) (z : ℕ)
    (r : Answer) : Type 0
  where
    pub same : (i : ℕ) → i < q.top → (i < q.base) ⊎ (q.base + width ≤ i) → get_or l' i 0 ≡ get_or l i 0
    pub long : length l' ≡ length l
    pub words : (i : ℕ) → IsWord (get_or l' i 0)
    pub stored : Stored P s s' n.made r.counts.made
    pub falls : r.counts.left ≤ n.left
    pub counted : r.counts.changes + r.counts.left ≤ n.changes + n.left + z
    pub small : SmallOutcome r.outcome

-- What is kept, and that outcome and state are those of the definition. F is the fuel of the whole run.
pub record Done (P : List Class) (width : ℕ) (s l s' l' : List ℕ) (q : Place) (n : Tally) (F z : ℕ)
    (r : Answer)
    (o : Out Meaning) : Type 0 where
  pub kept : Kept P width s l s' l' q n z r
  pub is : told r.outcome (state P s' l' q r.counts (F - r.counts.left)) ≡ bare o

-- Calls with `calls` calls active, under fuel F and with room for `room` objects.
abbrev pub calls_of : List Class → ℕ → ℕ → ℕ → Method → State → Out Meaning
calls_of P F room calls M s = call_at (world P) (with_limits F room) (body_in P) (most_calls - calls) M s

abbrev pub evaluated : List Class → ℕ → ℕ → ℕ → Expr → State → Out Meaning
evaluated P F room calls e s = eval (world P) (with_limits F room) (λ M s. calls_of P F room calls M s) e s

abbrev pub evaluated_inside : List Class → ℕ → ℕ → ℕ → Expr → State → Out Meaning
evaluated_inside P F room calls e s =
    inside (world P) (with_limits F room) (λ M s. calls_of P F room calls M s) e s

-- A node at a row, in form and typed; z is 1 where it has been entered.
pub record PreNode (R E T A M s l : List ℕ) (at : ℕ) (q : Place) (n : Tally) (z : ℕ) : Type 0 where
  pub P : List Class
  pub e : Expr
  pub width : ℕ
  pub d : ℕ
  pub ready : Ready R E T A M s l P width q n d z
  pub encoded : Encoded R E e at
  pub proper : Proper P width (suc q.scope) d e

-- Before a node is entered, and once it has been.
abbrev pub PreEval : List ℕ → List ℕ → List ℕ → List ℕ → List ℕ → List ℕ → List ℕ → ℕ → Place → Tally
    → Type 0
PreEval R E T A M s l at q n = PreNode R E T A M s l at q n 0

abbrev pub PreEntered : List ℕ → List ℕ → List ℕ → List ℕ → List ℕ → List ℕ → List ℕ → ℕ → Place → Tally
    → Type 0
PreEntered R E T A M s l at q n = PreNode R E T A M s l at q n 1

-- The node has been entered, as the k-th step.
pub record PostNode (R E T A M s l s' l' : List ℕ) (at : ℕ) (q : Place) (n : Tally) (r : Answer) : Type 0
  where
    pub done : (w : PreEntered R E T A M s l at q n) (F k : ℕ) → k + n.left ≡ F
        → Done w.P w.width s l s' l' q n F 1 r
        (evaluated_inside w.P F (capacity s) q.calls w.e (state w.P s l q n k))

-- The letters of nodes with one child, and of nodes with none.
abbrev pub one_child : ℕ → Bool
one_child k = eqb k (code A_assign) || eqb k (code G_get) || eqb k (code K_cast) || eqb k (code Z_is_null)

abbrev pub no_child : ℕ → Bool
no_child k = eqb k (code T_true) || eqb k (code L_false) || eqb k (code N_null) || eqb k (code I_slot) || eqb
    k (code W_new) || eqb k (code R_change)

-- Functions that read no table of ends.
pub record PreLeaf (R T s l : List ℕ) (at : ℕ) (q : Place) (n : Tally) : Type 0 where
  pub E : List ℕ
  pub A : List ℕ
  pub M : List ℕ
  pub node : PreNode R E T A M s l at q n 1

pub record PostLeaf (R T s l s' : List ℕ) (at : ℕ) (q : Place) (n : Tally) (r : Answer) : Type 0 where
  pub post : (E A M : List ℕ) → PostNode R E T A M s l s' l at q n r

pub record PreApply (R T A s l : List ℕ) (at : ℕ) (q : Place) (n : Tally) (w : ℕ) : Type 0 where
  pub E : List ℕ
  pub M : List ℕ
  pub node : PreNode R E T A M s l at q n 0
  pub letter : one_child (get_or R (at * 4) 0) ≡ true
  pub is_word : IsWord w

pub record Applied (P : List Class) (width : ℕ) (s l l' : List ℕ) (e : Expr) (q : Place) (n : Tally)
    (v : Meaning)
    (r : Outcome) : Type 0 where
  pub long : length l' ≡ length l
  pub same : (i : ℕ) → (i < q.base) ⊎ (q.base + width ≤ i) → get_or l' i 0 ≡ get_or l i 0
  pub words : (i : ℕ) → IsWord (get_or l' i 0)
  pub small : SmallOutcome r
  pub is : (steps : ℕ)
      → told r (state P s l' q n steps) ≡ bare (after (world P) e v (state P s l q n steps))

pub record PostApply (R T A s l l' : List ℕ) (at : ℕ) (q : Place) (n : Tally) (v : Meaning) (r : Outcome) :
    Type 0 where
  pub applied : (E M : List ℕ) (w : PreEval R E T A M s l at q n)
      → Applied w.P w.width s l l' w.e q n v r
