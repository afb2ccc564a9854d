-- The steps of arguments. Assumes nothing.
use mathlib.Core.Path.{◌≡◌, refl, sym, ap, ◌∙◌}
use mathlib.Core.Logic.{inr}
use mathlib.Core.List.{List, ◌∷◌, map}
use Prim.Native.Nat.{ℕ, suc, ◌+◌, ◌-◌, ◌≤◌, ◌<◌}
use native.Mathlib.Omega.{arith}
use lib.ListN.{length, get_or, take, drop, length-set}
use lib.ListN.{set as put}
use lib.Seq.{get_or-set_same, get_or-set_other, drop-cons}
use native.Mathlib.Numerals.{add-one}
use Rattle.frames.proofs.Frames.{slots_ext, word_put}
use Rattle.evaluator.proofs.Lists.{FirstAt, list_apart, list_ended, list_first}
use Rattle.objects.specs.declared.Tally.{Tally}
use Rattle.objects.specs.Values.{meaning, Outcome, Gave, Raised, Stopped, Stuck, Answer, Small, bare}
use Rattle.objects.specs.Values.{told, answer}
use Rattle.frames.specs.declared.Place.{Place}
use Rattle.evaluator.specs.Evaluator.{told_all}
use Rattle.frames.specs.Places.{slots_of, state, frame_of}
use Rattle.objects.proofs.Holding.{still_holding}
use Rattle.objects.specs.Acts.{IsWord}
use Rattle.frames.specs.Slots.{waiting}
use Rattle.frames.specs.Nodes.{Ready, Kept}
use Rattle.evaluator.specs.Evaluator.{PostEval, PreArgs, PostArgs}
use Rattle.frames.specs.Nodes.{evaluated}
use Rattle.evaluator.specs.Evaluator.{evaluated_all}
use Rattle.objects.proofs.Values.{bare_ok, bare_stop, small_of}
use Rattle.objects.proofs.Acts.{stored_same}
use Rattle.evaluator.proofs.Steps.{kept_then, room_same, gives, kept_of}
use Rattle.language.specs.Results.{ok, bind}
use Rattle.language.specs.Tree.{Class}
use Rattle.language.specs.State.{Value as Meaning, null, State, Out}
use Rattle.language.specs.Evaluation.{eval_all}
use Rattle.language.specs.Store.{capacity}

-- the place of the next argument
abbrev pub further : Place → Place
further q = record { base = q.base; scope = q.scope; top = q.top + 1; calls = q.calls }

-- a value put above the frame leaves the frame
pub frame_above : (l : List ℕ) (q : Place) (width x : ℕ) → q.base + width ≤ q.top → q.scope + 1 ≤ width
    → frame_of (put l q.top x) (further q) ≡ frame_of l q
unfolding frame_of
frame_above l q width x h w =
    let a : get_or (put l q.top x) q.base 0 ≡ get_or l q.base 0 =
    get_or-set_other l q.top q.base x 0 (λ p. omega arith) in
    let b = slots_ext (put l q.top x) l (q.base + 1) q.scope (length-set l q.top x)
    (λ i u. get_or-set_other l q.top (q.base + 1 + i) x 0 (λ p. omega arith)) in
    rw (a, b)

pub slots_cons : (l : List ℕ) (top m : ℕ) → top < length l → (m ≡ 0 → ⊥)
    → slots_of l top m ≡ meaning (get_or l top 0) ∷ slots_of l (top + 1) (m - 1)
unfolding slots_of
slots_cons l top m h z = let e : m ≡ suc (m - 1) = omega arith in
    ap (λ (k : ℕ). map meaning (take k (drop top l))) e ∙ rw (drop-cons l top 0 h, add-one top)

push_all : (o : Outcome) (vs : List Meaning) (t : State) (x : Out (List Meaning)) (v : Meaning)
    → told_all o vs t ≡ bare x → told_all o (v ∷ vs) t ≡ bare (bind x λ vs s. ok (v ∷ vs) s)
unfolding bare
push_all (Gave w) vs t x v e = rw (bare_ok x e)
push_all (Raised n) vs t x v e = bare_stop x (λ vs s. ok (v ∷ vs) s) e
push_all (Stopped n) vs t x v e = bare_stop x (λ vs s. ok (v ∷ vs) s) e
push_all Stuck vs t x v e = bare_stop x (λ vs s. ok (v ∷ vs) s) e

fails_all : (o : Outcome) (vs : List Meaning) (t : State) (x : Out Meaning)
    (k : Meaning → State → Out (List Meaning)) → ((v : Meaning) → o ≡ Gave v → ⊥) → told o t ≡ bare x
    → told_all o vs t ≡ bare (bind x k)
fails_all (Gave v) vs t x k not e = absurd (not v refl)
fails_all (Raised n) vs t x k not e = bare_stop x k e
fails_all (Stopped n) vs t x k not e = bare_stop x k e
fails_all Stuck vs t x k not e = bare_stop x k e

pub args_none : {R E T A M s l : List ℕ} {at : ℕ} {q : Place} {n : Tally} {m : ℕ} {v : Meaning} → m ≡ 0
    → Small v
    → PostArgs R E T A M s l s l at q n m (answer (Gave v) n)
unfolding eval_all bare slots_of
args_none {n = n} z small = record {
  done = λ p F k t. record {
    kept = record {
      same = λ i h o. refl;
      long = refl;
      words = p.list.ready.words;
      stored = stored_same p.list.ready.holding.sound;
      falls = omega arith;
      counted = omega arith;
      small = small;
    };
    is = let g : F - n.left ≡ k = omega arith in rw (g, list_ended p.list z, z);
  };
}

-- ready for the next argument
ready_further : {R E T A M s l s' l' : List ℕ} {P : List Class} {width : ℕ} {q : Place} {n : Tally} {d : ℕ}
    {r : Answer}
    (m x : ℕ) → IsWord x → (m ≡ 0 → ⊥) → Ready R E T A M s l P width q n d 0
    → q.top + m + waiting d ≤ length l → Kept P width s l s' l' q n 0 r
    → Ready R E T A M s' (put l' q.top x) P width (further q) r.counts d 0
ready_further {l' = l'} {q = q} m x iw z f room k = record {
  holding = still_holding f.holding k.stored.sound;
  frame = omega (arith, f.frame);
  scoped = f.scoped;
  whole = omega (arith, f.whole, k.long, length-set l' q.top x);
  above = omega (arith, room, k.long, length-set l' q.top x);
  words = word_put l' q.top x k.words iw;
  active = f.active;
  counted = omega (arith, f.counted, k.counted);
}

abbrev args_rest : {R E T A M s l s' l' : List ℕ} {at : ℕ} {q : Place} {n : Tally} {m : ℕ} {r : Answer}
    (p : PreArgs R E T A M s l at q n m) (y : FirstAt p.list)
    (g : PostEval R E T A M s l s' l' at q n r) (x : ℕ)
    → IsWord x → PreArgs R E T A M s' (put l' q.top x) (get_or E at 0) (further q) r.counts (m - 1)
args_rest {l' = l'} {q = q} {m = m} p y g x iw =
    let kp = kept_of (list_first y) g in
    record {
      list = record {
        P = p.list.P;
        es = y.es;
        width = p.list.width;
        d = p.list.d;
        ready = ready_further m x iw (λ u. omega (arith, y.many)) p.list.ready p.room kp;
        encoded = rw y.end y.enc_rest;
        proper = y.proper_rest;
        many = omega (arith, y.many);
        few = omega (arith, p.list.few);
      };
      room = omega (arith, p.room, kp.long, length-set l' q.top x, y.many);
    }

module _ {R E T A M s l s' l' : List ℕ} {at : ℕ} {q : Place} {n : Tally} {m : ℕ} {r : Answer} (z : m ≡ 0 → ⊥)
    (g : PostEval R E T A M s l s' l' at q n r) where
  pub args_fail : ((v : Meaning) → r.outcome ≡ Gave v → ⊥) → PostArgs R E T A M s l s' l' at q n m r
  unfolding eval_all
  args_fail not = record {
    done = λ p F k t.
        let P = p.list.P in
        let x = list_apart p.list z in
        let a = g.done (list_first x) F k t in
        record {
          kept = a.kept;
          is = rw x.is (fails_all r.outcome (slots_of l' q.top m)
              (state P s' l' q r.counts (F - r.counts.left))
              (evaluated P F (capacity s) q.calls x.e (state P s l q n k))
              (λ v u. bind (evaluated_all P F (capacity s) q.calls x.es u) λ vs y. ok (v ∷ vs) y) not
              a.is);
        };
  }

  pub args_step : {s'' l'' : List ℕ} {v : Meaning} {r' : Answer} → r.outcome ≡ Gave v → (y : ℕ)
      → meaning y ≡ v → IsWord y
      → PostArgs R E T A M s' (put l' q.top y) s'' l'' (get_or E at 0) (further q) r.counts (m - 1) r'
      → PostArgs R E T A M s l s'' l'' at q n m r'
  unfolding eval_all frame_of
  args_step {s''} {l''} {v} {r'} e₁ y ey iw g' = record {
    done = λ p F k t.
        let P = p.list.P in
        let f = p.list.ready in
        let x = list_apart p.list z in
        let a = g.done (list_first x) F k t in
        let c : capacity s' ≡ capacity s = room_same s s' a.kept.stored.long in
        let st : State = state P s' l' q r.counts (F - r.counts.left) in
        let gave : evaluated P F (capacity s) q.calls x.e (state P s l q n k) ≡ ok v st =
        gives st (evaluated P F (capacity s) q.calls x.e (state P s l q n k)) e₁ a.is in
        let fr = frame_above l' q p.list.width y f.frame f.scoped in
        let top : q.top < length l' = omega (arith, p.room, a.kept.long, z) in
        let b = g'.done (args_rest p x g y iw) F (F - r.counts.left) (omega (arith, a.kept.falls)) in
        let i = rw (fr, c) at b.is in
        let stays : meaning (get_or l'' q.top 0) ≡ v =
        ap meaning (b.kept.same q.top (omega arith) (inr f.frame)
        ∙ get_or-set_same l' q.top y 0 top) ∙ ey in
        let long : length l'' ≡ length l' = b.kept.long ∙ length-set l' q.top y in
        record {
          kept = kept_then 0 0 0 a.kept (record {
            same = λ j u o. b.kept.same j (omega arith) o
                ∙ get_or-set_other l' q.top j y 0 (λ p. omega arith);
            long = long;
            words = b.kept.words;
            stored = b.kept.stored;
            falls = b.kept.falls;
            counted = b.kept.counted;
            small = b.kept.small;
          }) (omega arith);
          is = rw (x.is, gave, slots_cons l'' q.top m (omega (arith, long)) z, stays)
              (push_all r'.outcome (slots_of l'' (q.top + 1) (m - 1))
              (state P s'' l'' q r'.counts (F - r'.counts.left))
              (evaluated_all P F (capacity s) q.calls x.es st) v i);
        };
  }

-- the loop over arguments: what is left to do, and how the whole follows from it
abbrev pub to : Place → ℕ → Place
to q top = record { base = q.base; scope = q.scope; top = top; calls = q.calls }

pub record ArgsLoop (R E T A M s₀ l₀ : List ℕ) (at : ℕ) (q : Place) (m : ℕ) (r₀ : Answer) (s l : List ℕ)
    (r : Answer) (top next i : ℕ) : Type 0 where
  pub low : i ≤ m
  pub args : PreArgs R E T A M s l next (to q top) r.counts (m - i)
  pub v : Meaning
  pub gave : r.outcome ≡ Gave v
  pub small : Small v
  pub falls : r.counts.left ≤ r₀.counts.left
  pub long_store : length s ≡ length s₀
  pub long_slots : length l ≡ length l₀
  pub rest : (s' l' : List ℕ) (r' : Answer)
      → PostArgs R E T A M s l s' l' next (to q top) r.counts (m - i) r'
      → PostArgs R E T A M s₀ l₀ s' l' at q r₀.counts m r'

pub args_start : {R E T A M s l : List ℕ} {at : ℕ} {q : Place} {n : Tally} {m : ℕ} {o : Outcome}
    → PreArgs R E T A M s l at q n m → o ≡ Gave null
    → ArgsLoop R E T A M s l at q m (answer (Gave null) n) s l (answer o n) q.top at 0
args_start {m = m} p gave =
    let z : m - 0 ≡ m = omega arith in
    record {
      low = omega arith;
      args = rw z p;
      v = null;
      gave = gave;
      small = omega arith;
      falls = omega arith;
      long_store = refl;
      long_slots = refl;
      rest = λ s' l' r' g. rw z at g;
    }

module _ {R E T A M s₀ l₀ : List ℕ} {at : ℕ} {q : Place} {m : ℕ} {r₀ : Answer} {s l : List ℕ} {r : Answer}
    {top next i : ℕ} (x : ArgsLoop R E T A M s₀ l₀ at q m r₀ s l r top next i) where
  pub args_ended : m ≤ i → PostArgs R E T A M s₀ l₀ s l at q r₀.counts m r
  args_ended h =
      let z : m - i ≡ 0 = omega arith in
      let g : PostArgs R E T A M s l s l next (to q top) r.counts (m - i) (answer r.outcome r.counts)
      =
      rw x.gave (args_none z x.small) in
      x.rest s l r g

  module _ (h : i < m) where
    pub args_head : FirstAt x.args.list
    args_head = list_apart x.args.list (λ z. omega arith)

    module _ {s' l' : List ℕ} {r' : Answer} (g : PostEval R E T A M s l s' l' next (to q top) r.counts r')
      where
        pub args_broken : ((v : Meaning) → r'.outcome ≡ Gave v → ⊥)
            → PostArgs R E T A M s₀ l₀ s' l' at q r₀.counts m r'
        args_broken not = x.rest s' l' r' (args_fail (λ z. omega arith) g not)

        pub args_room : top < length l'
        args_room = omega (arith, x.args.room, (kept_of (list_first args_head) g).long)

        pub args_next : {w : Meaning} (y : ℕ) → r'.outcome ≡ Gave w → meaning y ≡ w → IsWord y
            → ArgsLoop R E T A M s₀ l₀ at q m r₀ s' (put l' top y) r' (top + 1) (get_or E next 0) (i + 1)
        args_next {w} y t ey iw =
            let k = kept_of (list_first args_head) g in
            let z : m - i - 1 ≡ m - (i + 1) = omega arith in
            record {
              low = omega arith;
              args = rw z at (args_rest x.args args_head g y iw);
              v = w;
              gave = t;
              small = small_of t k.small;
              falls = omega (arith, k.falls, x.falls);
              long_store = k.stored.long ∙ x.long_store;
              long_slots = length-set l' top y ∙ (k.long ∙ x.long_slots);
              rest = λ s'' l'' r'' p.
                  x.rest s'' l'' r'' (args_step (λ z. omega arith) g t y ey iw (rw (sym z) at p));
            }
