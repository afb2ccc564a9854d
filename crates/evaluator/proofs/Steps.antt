-- How answers follow one another: the steps of the functions of the cycle. Assumes nothing.
use mathlib.Core.Path.{◌≡◌, refl, sym, ap, ◌∙◌}
use mathlib.Core.Bool.{Bool, true, false}
use mathlib.Core.List.{List}
use Prim.Native.Nat.{ℕ, suc, ◌+◌, ◌-◌, ◌*◌, ◌/◌, ◌≤◌, ◌<◌, min}
use native.Mathlib.Omega.{arith}
use native.Mathlib.Nat.{pos_of_ne-zero}
use borrow.Author.Tests.{eqb-true, eqb-false, le-leb, lt-leb}
use lib.Dec.{eqb, leb}
use lib.ListN.{length, get_or, drop}
use lib.Seq.{drop-drop}
use Rattle.language.specs.Limits.{object_width}
use Rattle.language.specs.Results.{ok, bind}
use Rattle.language.specs.Tree.{Expr, Class}
use Rattle.language.specs.Encoded.{Encoded}
use Rattle.layout.specs.ProperNodes.{Proper}
use Rattle.language.specs.Program.{world}
use Rattle.language.specs.State.{Value as Meaning, State, Out}
use Rattle.language.specs.Evaluation.{with_limits}
use Rattle.language.specs.Store.{capacity}
use Rattle.language.proofs.Nodes.{head}
use Rattle.objects.specs.Values.{meaning}
use Rattle.objects.specs.declared.Tally.{Tally}
use Rattle.objects.specs.Values.{Outcome, Gave, Raised, Stopped, Stuck, Answer}
use Rattle.objects.specs.Values.{SmallOutcome, bare, told, answer}
use Rattle.frames.specs.declared.Place.{Place}
use Rattle.frames.specs.Places.{state, after}
use Rattle.objects.specs.Acts.{Stored}
use Rattle.frames.specs.Nodes.{entered, Ready, Kept, Done, PreNode, PreEval, PreEntered, PostNode}
use Rattle.evaluator.specs.Evaluator.{PostEval}
use Rattle.frames.specs.Nodes.{PreLeaf, PreApply, PostApply, calls_of, evaluated, no_child}
use Rattle.frames.specs.Nodes.{one_child}
use Rattle.objects.proofs.Values.{bare_ok, bare_stop, small_of}
use Rattle.objects.proofs.Acts.{stored_same}
use Rattle.objects.proofs.Holding.{still_holding}
use Rattle.frames.proofs.Fuel.{entered_none}
use Rattle.frames.proofs.OneChild.{OneChild, one_of, child, one_encoded, one_proper, one_inside}
use Rattle.frames.proofs.OneChild.{eval_inside, rest_one_child, node_parts}
use Rattle.language.specs.Rows.{code, B_block, J_choose, Q_call, U_set}

-- ---- what is kept, one answer after another

pub stored_then : {P : List Class} {s s' s'' : List ℕ} {a b c : ℕ} → Stored P s s' a b → Stored P s' s'' b c
    → Stored P s s'' a c
stored_then {P} {s} {s'} {s''} {a} {b} {c} x y = record {
  long = y.long ∙ x.long;
  rest = y.rest ∙ further s' s (b * object_width) (c * object_width) (omega (arith, y.more)) x.rest;
  more = omega (arith, x.more, y.more);
  sound = y.sound;
}
  where
    further : (x y : List ℕ) (m n : ℕ) → m ≤ n → drop m x ≡ drop m y → drop n x ≡ drop n y
    further x y m n h e =
        let d : n ≡ m + (n - m) = omega arith in
        ap (λ (k : ℕ). drop k x) d
        ∙ (sym (drop-drop (n - m) m x)
        ∙ (ap (drop (n - m)) e ∙ (drop-drop (n - m) m y ∙ ap (λ (k : ℕ). drop k y) (sym d))))

pub kept_then : {P : List Class} {s l s' l' s'' l'' : List ℕ} {width : ℕ} {q : Place} {n : Tally}
    {r r' : Answer}
    (z z' z'' : ℕ) → Kept P width s l s' l' q n z r → Kept P width s' l' s'' l'' q r.counts z' r'
    → z + z' ≤ z''
    → Kept P width s l s'' l'' q n z'' r'
kept_then z z' z'' a b h = record {
  same = λ i u o. b.same i u o ∙ a.same i u o;
  long = b.long ∙ a.long;
  words = b.words;
  stored = stored_then a.stored b.stored;
  falls = omega (arith, a.falls, b.falls);
  counted = omega (arith, a.counted, b.counted);
  small = b.small;
}

pub kept_more : {P : List Class} {s l s' l' : List ℕ} {width : ℕ} {q : Place} {n : Tally} {r : Answer}
    (z z' : ℕ)
    → Kept P width s l s' l' q n z r → z ≤ z' → Kept P width s l s' l' q n z' r
kept_more z z' a h =
    record {
      same = a.same;
      long = a.long;
      words = a.words;
      stored = a.stored;
      falls = a.falls;
      counted = omega (arith, a.counted);
      small = a.small;
    }

-- the same with another outcome
pub kept_as : {P : List Class} {width : ℕ} {s l s' l' : List ℕ} {q : Place} {n : Tally} {r : Answer} (z : ℕ)
    (o : Outcome) → Kept P width s l s' l' q n z r → SmallOutcome o
    → Kept P width s l s' l' q n z (answer o r.counts)
kept_as z o a m = record {
  same = a.same;
  long = a.long;
  words = a.words;
  stored = a.stored;
  falls = a.falls;
  counted =
      a.counted;
  small = m;
}

-- ready for a child, and for what follows it
pub ready_child : {R E T A M s l : List ℕ} {P : List Class} {width : ℕ} {q : Place} {n : Tally} {d : ℕ}
    (z d' : ℕ)
    → Ready R E T A M s l P width q n d z → d' ≤ d → Ready R E T A M s l P width q n d' 0
ready_child z d' f h =
    record {
      holding = f.holding;
      frame = f.frame;
      scoped = f.scoped;
      whole = f.whole;
      above = omega (arith, f.above);
      words = f.words;
      active = f.active;
      counted = omega (arith, f.counted);
    }

pub refit : {R E T A M s l s' l' : List ℕ} {P : List Class} {width : ℕ} {q : Place} {n : Tally} {d : ℕ}
    {r : Answer}
    (z d' : ℕ) → Ready R E T A M s l P width q n d z → Kept P width s l s' l' q n 0 r → d' ≤ d
    → Ready R E T A M s' l' P width q r.counts d' 0
refit z d' f k h = record {
  holding = still_holding f.holding k.stored.sound;
  frame = f.frame;
  scoped = f.scoped;
  whole = omega (arith, f.whole, k.long);
  above = omega (arith, f.above, k.long);
  words = k.words;
  active = f.active;
  counted = omega (arith, f.counted, k.counted);
}

-- What evaluating a child of an entered node asks: of the first one, and of one that follows another.
module _ {R E T A M s l : List ℕ} {at : ℕ} {q : Place} {n : Tally} (p : PreEntered R E T A M s l at q n)
  where
    abbrev pub first_child : {row : ℕ} (e : Expr) → Encoded R E e row
        → Proper p.P p.width (suc q.scope) (p.d - 1) e → PreEval R E T A M s l row q n
    first_child e encoded proper = record {
      P = p.P;
      e = e;
      width = p.width;
      d = p.d - 1;
      ready = ready_child 1 (p.d - 1) p.ready (omega arith);
      encoded = encoded;
      proper = proper;
    }

    abbrev pub next_child : {s' l' : List ℕ} {r : Answer} {row : ℕ} (e : Expr)
        → Kept p.P p.width s l s' l' q n 0 r → Encoded R E e row
        → Proper p.P p.width (suc q.scope) (p.d - 1) e → PreEval R E T A M s' l' row q r.counts
    next_child e kept encoded proper = record {
      P = p.P;
      e = e;
      width = p.width;
      d = p.d - 1;
      ready = refit 1 (p.d - 1) p.ready kept (omega arith);
      encoded = encoded;
      proper = proper;
    }

pub room_same : (s s' : List ℕ) → length s' ≡ length s → capacity s' ≡ capacity s
unfolding capacity
room_same s s' e = ap (λ (n : ℕ). min (n / object_width) 65535) e

-- an answer under the capacity of the store before
pub then_eval : {R E T A M s l s' l' : List ℕ} {at : ℕ} {q : Place} {n : Tally} {r : Answer} (room : ℕ)
    → capacity s ≡ room → PostEval R E T A M s l s' l' at q n r
    → (w : PreEval R E T A M s l at q n) (F k : ℕ) → k + n.left ≡ F
    → Done w.P w.width s l s' l' q n F 0 r
    (evaluated w.P F room q.calls w.e (state w.P s l q n k))
then_eval room c g w F k z = rw c at (g.done w F k z)

-- ---- results

pub fails : (o : Outcome) (t : State) (x : Out Meaning) (k : Meaning → State → Out Meaning)
    → ((v : Meaning) → o ≡ Gave v → ⊥) → told o t ≡ bare x → told o t ≡ bare (bind x k)
fails (Gave v) t x k not e = absurd (not v refl)
fails (Raised n) t x k not e = bare_stop x k e
fails (Stopped n) t x k not e = bare_stop x k e
fails Stuck t x k not e = bare_stop x k e

pub gives : {o : Outcome} {v : Meaning} (t : State) (x : Out Meaning) → o ≡ Gave v → told o t ≡ bare x
    → x ≡ ok v t
gives t x e h = bare_ok x (rw e at h)

-- ---- eval

pub in_rows : {R E T A M s l : List ℕ} {at : ℕ} {q : Place} {n : Tally} {z : ℕ}
    → PreNode R E T A M s l at q n z
    → at * 4 + 3 < length R
in_rows p = (head p.e p.encoded).row

spent : {R E T A M s l : List ℕ} {at : ℕ} {q : Place} {n : Tally} → n.left ≡ 0
    → PostEval R E T A M s l s l at q n (answer (Stopped 14) n)
unfolding bare
spent {s = s} {l} {q = q} {n} z = record {
  done = λ w F k t.
      let g : F - n.left ≡ k = omega arith in
      let full : leb F k ≡ true = le-leb F k (omega arith) in
      record {
        kept = record {
          same = λ i h o. refl;
          long = refl;
          words = w.ready.words;
          stored = stored_same w.ready.holding.sound;
          falls = omega arith;
          counted = omega arith;
          small = (omega arith, omega arith);
        };
        is = rw (
          g,
          eval_inside (world w.P) (with_limits F (capacity s))
              (λ M t. calls_of w.P F (capacity s) q.calls M t) w.e (state w.P s l q n k),
          full,
        );
      };
}

pub eval_spent : {R E T A M s l : List ℕ} {at : ℕ} {q : Place} {n n' : Tally} {o : Outcome} → o ≡ Stopped 14
    → n.left ≡ 0 → n' ≡ entered n → PostEval R E T A M s l s l at q n (answer o n')
eval_spent {n = n} h z e = rw (h, e ∙ entered_none n z) (spent z)

-- whether fuel was left, of the test that says it
pub none_left : {left : ℕ} {b : Bool} → b ≡ eqb left 0 → b ≡ true → left ≡ 0
none_left {left} e h = eqb-true left 0 (sym e ∙ h)

pub some_left : {left : ℕ} {b : Bool} → b ≡ eqb left 0 → b ≡ false → left ≡ 0 → ⊥
some_left {left} e h = eqb-false left 0 (sym e ∙ h)

-- there is less fuel once a node is entered
pub left_falls : (n : Tally) {n' : Tally} → (n.left ≡ 0 → ⊥) → n' ≡ entered n → n'.left < n.left
left_falls n z e = omega (arith, ap (λ (n : Tally). n.left) e, pos_of_ne-zero z)

abbrev to_entered : {R E T A M s l : List ℕ} {at : ℕ} {q : Place} {n : Tally} → (n.left ≡ 0 → ⊥)
    → PreEval R E T A M s l at q n → PreEntered R E T A M s l at q (entered n)
to_entered z p =
    let f = p.ready in
    record {
      P = p.P;
      e = p.e;
      width = p.width;
      d = p.d;
      encoded = p.encoded;
      proper = p.proper;
      ready = record {
        holding = f.holding;
        frame = f.frame;
        scoped = f.scoped;
        whole = f.whole;
        above = f.above;
        words = f.words;
        active = f.active;
        counted = omega (arith, f.counted);
      };
    }

from_entered : {R E T A M s l s' l' : List ℕ} {at : ℕ} {q : Place} {n : Tally} {r : Answer}
    → (n.left ≡ 0 → ⊥)
    → PostNode R E T A M s l s' l' at q (entered n) r → PostEval R E T A M s l s' l' at q n r
from_entered {s = s} {l} {q = q} {n} z p = record {
  done = λ w F k t.
      let room : leb F k ≡ false = lt-leb F k (omega arith) in
      let g = p.done (to_entered z w) F (suc k) (omega arith) in
      record {
        kept = record {
          same = g.kept.same;
          long = g.kept.long;
          words = g.kept.words;
          stored = g.kept.stored;
          falls = omega (arith, g.kept.falls);
          counted = omega (arith, g.kept.counted);
          small = g.kept.small;
        };
        is = rw (
          eval_inside (world w.P) (with_limits F (capacity s))
              (λ M t. calls_of w.P F (capacity s) q.calls M t) w.e (state w.P s l q n k),
          room,
        ) g.is;
      };
}

pub eval_entered : {R E T A M s l s' l' : List ℕ} {at : ℕ} {q : Place} {n n' : Tally} {r : Answer}
    → (n.left ≡ 0 → ⊥) → n' ≡ entered n
    → PostNode R E T A M s l s' l' at q n' r → PostEval R E T A M s l s' l' at q n r
eval_entered z e p = from_entered z (rw e at p)

pub pre_entered : {R E T A M s l : List ℕ} {at : ℕ} {q : Place} {n n' : Tally} → (n.left ≡ 0 → ⊥)
    → n' ≡ entered n → PreEval R E T A M s l at q n → PreEntered R E T A M s l at q n'
pre_entered z e p = rw e (to_entered z p)

pub pre_leaf : {R E T A M s l : List ℕ} {at : ℕ} {q : Place} {n : Tally} → PreEntered R E T A M s l at q n
    → PreLeaf R T s l at q n
pre_leaf {E = E} {A = A} {M = M} p = record { E = E; A = A; M = M; node = p }

pub rest_one : {R E T A M s l : List ℕ} {at : ℕ} {q : Place} {n : Tally} → PreEval R E T A M s l at q n
    → no_child (get_or R (at * 4) 0) ≡ false
    → (get_or R (at * 4) 0 ≡ code B_block → ⊥) → (get_or R (at * 4) 0 ≡ code J_choose → ⊥)
    → (get_or R (at * 4) 0 ≡ code Q_call → ⊥)
    → (get_or R (at * 4) 0 ≡ code U_set → ⊥) → one_child (get_or R (at * 4) 0) ≡ true
rest_one p h h₁ h₂ h₃ h₄ =
    let x = (head p.e p.encoded).letter in
    rw x (rest_one_child p.e (rw x at h) (λ z. h₁ (x ∙ z)) (λ z. h₂ (x ∙ z)) (λ z. h₃ (x ∙ z))
    (λ z. h₄ (x ∙ z)))

-- ---- a node with one child

module _ {R E T A M s l : List ℕ} {at : ℕ} {q : Place} {n : Tally} (p : PreEntered R E T A M s l at q n)
    (h : one_child (get_or R (at * 4) 0) ≡ true) where
  pub one_is : OneChild p.e
  one_is = one_of p.e (rw (head p.e p.encoded).letter at h)

  abbrev pub one_pre : PreEval R E T A M s l (at + 1) q n
  one_pre = first_child p (child p.e) (one_encoded R E at one_is p.encoded)
      (one_proper p.P p.width (suc q.scope) p.d one_is (node_parts p refl))

-- what a callee keeps, for the program at hand
pub kept_of : {R E T A M s l s' l' : List ℕ} {at : ℕ} {q : Place} {n : Tally} {r : Answer}
    (p : PreEval R E T A M s l at q n) → PostEval R E T A M s l s' l' at q n r
    → Kept p.P p.width s l s' l' q n 0 r
kept_of {n = n} p g = (g.done p n.left 0 (omega arith)).kept

-- the node again, once its child has a value
abbrev again : {R E T A M s l s' l' : List ℕ} {at : ℕ} {q : Place} {n : Tally} {r : Answer}
    (p : PreEntered R E T A M s l at q n) → Kept p.P p.width s l s' l' q n 0 r
    → PreEval R E T A M s' l' at q r.counts
again p k = record {
  P = p.P;
  e = p.e;
  width = p.width;
  d = p.d;
  ready = refit 1 p.d p.ready k (omega arith);
  encoded = p.encoded;
  proper = p.proper;
}

pub pre_apply : {R E T A M s l s' l' : List ℕ} {at : ℕ} {q : Place} {n : Tally} {r : Answer} (w : ℕ)
    (p : PreEntered R E T A M s l at q n) (h : one_child (get_or R (at * 4) 0) ≡ true)
    → PostEval R E T A M s l s' l' (at + 1) q n r → r.outcome ≡ Gave (meaning w) → w < 17179869184
    → PreApply R T A s' l' at q r.counts w
pre_apply {E = E} {M = M} w p h g e short =
    let k = kept_of (one_pre p h) g in
    record {
      E = E;
      M = M;
      node = again p k;
      letter = h;
      is_word = record { short = short; small = small_of e k.small };
    }

module _ {R E T A M s l s' l' : List ℕ} (at : ℕ) {q : Place} {n : Tally} {r : Answer}
    (h : one_child (get_or R (at * 4) 0) ≡ true) (g : PostEval R E T A M s l s' l' (at + 1) q n r) where
  pub one_fail : ((v : Meaning) → r.outcome ≡ Gave v → ⊥) → PostNode R E T A M s l s' l' at q n r
  one_fail not = record {
    done = λ p F k z.
        let P = p.P in
        let a = g.done (one_pre p h) F k z in
        record {
          kept = kept_more 0 1 a.kept (omega arith);
          is = rw (one_inside (world P) (with_limits F (capacity s))
              (λ M t. calls_of P F (capacity s) q.calls M t) (one_is p h) (state P s l q n k))
              (fails r.outcome (state P s' l' q r.counts (F - r.counts.left))
              (evaluated P F (capacity s) q.calls (child p.e) (state P s l q n k))
              (λ v s. after (world P) p.e v s) not a.is);
        };
  }

  pub one_done : {l'' : List ℕ} {v : Meaning} (x : Outcome) → r.outcome ≡ Gave v
      → PostApply R T A s' l' l'' at q r.counts v x
      → PostNode R E T A M s l s' l'' at q n (answer x r.counts)
  one_done {l''} {v} x t applied = record {
    done = λ p F k z.
        let P = p.P in
        let a = g.done (one_pre p h) F k z in
        let b = applied.applied E M (again p a.kept) in
        let c : evaluated P F (capacity s) q.calls (child p.e) (state P s l q n k)
        ≡ ok v (state P s' l' q r.counts (F - r.counts.left)) =
        gives (state P s' l' q r.counts (F - r.counts.left))
        (evaluated P F (capacity s) q.calls (child p.e) (state P s l q n k)) t a.is in
        record {
          kept = record {
            same = λ i u y. b.same i y ∙ a.kept.same i u y;
            long = b.long ∙ a.kept.long;
            words = b.words;
            stored = a.kept.stored;
            falls = a.kept.falls;
            counted = omega (arith, a.kept.counted);
            small = b.small;
          };
          is = rw (
            one_inside (world P) (with_limits F (capacity s))
                (λ M t. calls_of P F (capacity s) q.calls M t) (one_is p h) (state P s l q n k),
            c,
          )
              (b.is (F - r.counts.left));
        };
  }
