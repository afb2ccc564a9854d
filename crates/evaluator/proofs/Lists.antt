-- The steps of lists: a block's expressions. Assumes nothing.
use mathlib.Core.Path.{◌≡◌, refl, sym, ap, ◌∙◌, subst}
use mathlib.Core.List.{List, ◌∷◌}
use Prim.Native.Nat.{ℕ, suc, ◌+◌, ◌-◌, ◌≤◌, ◌<◌}
use native.Mathlib.Omega.{arith}
use lib.ListN.{length, get_or}
use Rattle.language.specs.Results.{ok, stop, bind}
use Rattle.language.specs.Tree.{Expr, Exprs, nil, cons, count, size}
use Rattle.language.specs.Encoded.{Encoded, EncodedAll}
use Rattle.language.specs.State.{Value as Meaning, State, Out}
use Rattle.language.specs.Evaluation.{eval_all, last_value}
use Rattle.language.specs.Store.{capacity}
use Rattle.language.proofs.Nodes.{head}
use Rattle.objects.specs.declared.Tally.{Tally}
use Rattle.objects.specs.Values.{Outcome, Gave, Raised, Stopped, Stuck, Answer, Small, bare}
use Rattle.objects.specs.Values.{told, answer}
use Rattle.frames.specs.declared.Place.{Place}
use Rattle.frames.specs.Places.{state}
use Rattle.layout.specs.HeldLaws.{parameters_few}
use Rattle.layout.specs.ProperNodes.{Proper, ProperAll, propers_parts}
use Rattle.frames.specs.Nodes.{PreEval, evaluated}
use Rattle.evaluator.specs.Evaluator.{PostEval, PreList, PostItems}
use Rattle.evaluator.specs.Evaluator.{evaluated_all}
use Rattle.objects.proofs.Values.{bare_stop, small_of}
use Rattle.objects.proofs.Acts.{stored_same}
use Rattle.evaluator.proofs.Steps.{kept_then, refit, room_same, gives, kept_of}

-- the first of a list, and the rest
pub record FirstAt {R E T A M s l : List ℕ} {at : ℕ} {q : Place} {n : Tally} {m : ℕ}
    (p : PreList R E T A M s l at q n m) : Type 0 where
  pub e : Expr
  pub es : Exprs
  pub is : p.es ≡ cons e es
  pub in_ends : at < length E
  pub end : get_or E at 0 ≡ at + size e
  pub enc_first : Encoded R E e at
  pub enc_rest : EncodedAll R E es (at + size e)
  pub proper_first : Proper p.P p.width (suc q.scope) p.d e
  pub proper_rest : ProperAll p.P p.width (suc q.scope) p.d es
  pub many : m ≡ suc (count es)

pub list_apart : {R E T A M s l : List ℕ} {at : ℕ} {q : Place} {n : Tally} {m : ℕ}
    (p : PreList R E T A M s l at q n m) → (m ≡ 0 → ⊥) → FirstAt p
unfolding EncodedAll count
list_apart {R} {E} {at = at} {q} p z = go p.es refl
  where
    go : (es : Exprs) → p.es ≡ es → FirstAt p
    go nil h = absurd (z (p.many ∙ ap count h))
    go (cons e es) h =
        let enc = subst (λ (es : Exprs). EncodedAll R E es at) h p.encoded in
        let w = propers_parts p.P (parameters_few p.ready.holding.held.headed) (cons e es)
        (subst (λ (es : Exprs). ProperAll p.P p.width (suc q.scope) p.d es) h p.proper) in
        record {
          e = e;
          es = es;
          is = h;
          in_ends = (head e enc.0).in_ends;
          end = (head e enc.0).end;
          enc_first = enc.0;
          enc_rest = enc.1;
          proper_first = w.0;
          proper_rest = w.1;
          many = p.many ∙ ap count h;
        }

-- no expressions are left
pub list_ended : {R E T A M s l : List ℕ} {at : ℕ} {q : Place} {n : Tally} {m : ℕ}
    (p : PreList R E T A M s l at q n m) → m ≡ 0 → p.es ≡ nil
unfolding count
list_ended {m = m} p z = go p.es p.many
  where
    go : (es : Exprs) → m ≡ count es → es ≡ nil
    go nil h = refl
    go (cons e es) h = absurd (omega arith)

module _ {R E T A M s l : List ℕ} {at : ℕ} {q : Place} {n : Tally} {m : ℕ}
    {p : PreList R E T A M s l at q n m} (x : FirstAt p) where
  abbrev pub list_first : PreEval R E T A M s l at q n
  list_first = record {
    P = p.P;
    e = x.e;
    width = p.width;
    d = p.d;
    ready = p.ready;
    encoded = x.enc_first;
    proper = x.proper_first;
  }

  abbrev pub list_rest : {s' l' : List ℕ} {r : Answer} → PostEval R E T A M s l s' l' at q n r
      → PreList R E T A M s' l' (get_or E at 0) q r.counts (m - 1)
  list_rest g = record {
    P = p.P;
    es = x.es;
    width = p.width;
    d = p.d;
    ready = refit 0 p.d p.ready (kept_of list_first g) (omega arith);
    encoded = rw x.end x.enc_rest;
    proper = x.proper_rest;
    many = omega (arith, x.many);
    few = omega (arith, p.few);
  }

pub items_none : {R E T A M s l : List ℕ} {at : ℕ} {q : Place} {n : Tally} {m : ℕ} {last : Meaning} → m ≡ 0
    → Small last → PostItems R E T A M s l s l at q n m last (answer (Gave last) n)
unfolding eval_all bare
items_none {n = n} z small = record {
  done = λ p F k t. record {
    kept = record {
      same = λ i h o. refl;
      long = refl;
      words = p.ready.words;
      stored = stored_same p.ready.holding.sound;
      falls = omega arith;
      counted = omega arith;
      small = small;
    };
    is = let g : F - n.left ≡ k = omega arith in rw (g, list_ended p z);
  };
}

fails_twice : (o : Outcome) (t : State) (x : Out Meaning) (k : Meaning → State → Out (List Meaning))
    (k' : List Meaning → State → Out Meaning) → ((v : Meaning) → o ≡ Gave v → ⊥) → told o t ≡ bare x
    → told o t ≡ bare (bind (bind x k) k')
fails_twice (Gave v) t x k k' not e = absurd (not v refl)
fails_twice (Raised n) t x k k' not e = bare_stop (bind x k) k' (bare_stop x k e)
fails_twice (Stopped n) t x k k' not e = bare_stop (bind x k) k' (bare_stop x k e)
fails_twice Stuck t x k k' not e = bare_stop (bind x k) k' (bare_stop x k e)

last_push : (x : Out (List Meaning)) (v w : Meaning)
    → ◌≡◌ {A = Out Meaning} (bind (bind x λ vs u. ok (v ∷ vs) u) λ vs t. ok (last_value w vs) t)
    (bind x λ vs t. ok (last_value v vs) t)
last_push (ok vs s) v w = refl
last_push (stop y s) v w = refl

module _ {R E T A M s l s' l' : List ℕ} {at : ℕ} {q : Place} {n : Tally} {m : ℕ} {last : Meaning}
    {r : Answer}
    (z : m ≡ 0 → ⊥) (g : PostEval R E T A M s l s' l' at q n r) where
  pub items_fail : ((v : Meaning) → r.outcome ≡ Gave v → ⊥) → PostItems R E T A M s l s' l' at q n m last r
  unfolding eval_all
  items_fail not = record {
    done = λ p F k t.
        let P = p.P in
        let x = list_apart p z in
        let a = g.done (list_first x) F k t in
        record {
          kept = a.kept;
          is = rw x.is (fails_twice r.outcome (state P s' l' q r.counts (F - r.counts.left))
              (evaluated P F (capacity s) q.calls x.e (state P s l q n k))
              (λ v u. bind (evaluated_all P F (capacity s) q.calls x.es u) λ vs y. ok (v ∷ vs) y)
              (λ vs y. ok (last_value last vs) y) not a.is);
        };
  }

  pub items_step : {s'' l'' : List ℕ} {v : Meaning} {r' : Answer} → r.outcome ≡ Gave v
      → PostItems R E T A M s' l' s'' l'' (get_or E at 0) q r.counts (m - 1) v r'
      → PostItems R E T A M s l s'' l'' at q n m last r'
  unfolding eval_all
  items_step {s''} {l''} {v} {r'} e₁ g' = record {
    done = λ p F k t.
        let P = p.P in
        let x = list_apart p z in
        let a = g.done (list_first x) F k t in
        let c : capacity s' ≡ capacity s = room_same s s' a.kept.stored.long in
        let st : State = state P s' l' q r.counts (F - r.counts.left) in
        let gave : evaluated P F (capacity s) q.calls x.e (state P s l q n k) ≡ ok v st =
        gives st (evaluated P F (capacity s) q.calls x.e (state P s l q n k)) e₁ a.is in
        let b = g'.done (list_rest x g) F (F - r.counts.left) (omega (arith, a.kept.falls)) in
        record {
          kept = kept_then 0 0 0 a.kept b.kept (omega arith);
          is = rw (x.is, gave, last_push (evaluated_all P F (capacity s) q.calls x.es st) v last)
              (rw c at b.is);
        };
  }

-- the loop over a list: what is left to do, and how the whole follows from it
pub record ItemsLoop (R E T A M s₀ l₀ : List ℕ) (at : ℕ) (q : Place) (m : ℕ) (r₀ : Answer) (s l : List ℕ)
    (r : Answer) (next i : ℕ) : Type 0 where
  pub low : i ≤ m
  pub list : PreList R E T A M s l next q r.counts (m - i)
  pub v : Meaning
  pub gave : r.outcome ≡ Gave v
  pub small : Small v
  pub falls : r.counts.left ≤ r₀.counts.left
  pub long_store : length s ≡ length s₀
  pub long_slots : length l ≡ length l₀
  pub rest : (last : Meaning) → r₀.outcome ≡ Gave last → (s' l' : List ℕ) (r' : Answer)
      → PostItems R E T A M s l s' l' next q r.counts (m - i) v r'
      → PostItems R E T A M s₀ l₀ s' l' at q r₀.counts m last r'

pub items_start : {R E T A M s l : List ℕ} {at : ℕ} {q : Place} {n : Tally} {m : ℕ} {last : Meaning}
    {o : Outcome} → PreList R E T A M s l at q n m → Small last → o ≡ Gave last
    → ItemsLoop R E T A M s l at q m (answer (Gave last) n) s l (answer o n) at 0
items_start {m = m} {last} p small gave =
    let z : m - 0 ≡ m = omega arith in
    record {
      low = omega arith;
      list = rw z p;
      v = last;
      gave = gave;
      small = small;
      falls = omega arith;
      long_store = refl;
      long_slots = refl;
      rest = λ last' e s' l' r' g. let y : last ≡ last' = cc in rw (← y) (rw z at g);
    }

module _ {R E T A M s₀ l₀ : List ℕ} {at : ℕ} {q : Place} {m : ℕ} {r₀ : Answer} {s l : List ℕ} {r : Answer}
    {next i : ℕ} (x : ItemsLoop R E T A M s₀ l₀ at q m r₀ s l r next i) where
  pub items_ended : {last : Meaning} → r₀.outcome ≡ Gave last → m ≤ i
      → PostItems R E T A M s₀ l₀ s l at q r₀.counts m last r
  items_ended {last} e h =
      let z : m - i ≡ 0 = omega arith in
      let g : PostItems R E T A M s l s l next q r.counts (m - i) x.v (answer r.outcome r.counts)
      =
      rw x.gave (items_none z x.small) in
      x.rest last e s l r g

  module _ (h : i < m) where
    pub items_head : FirstAt x.list
    items_head = list_apart x.list (λ z. omega arith)

    module _ {s' l' : List ℕ} {r' : Answer} (g : PostEval R E T A M s l s' l' next q r.counts r') where
      pub items_broken : {last : Meaning} → r₀.outcome ≡ Gave last
          → ((v : Meaning) → r'.outcome ≡ Gave v → ⊥)
          → PostItems R E T A M s₀ l₀ s' l' at q r₀.counts m last r'
      items_broken {last} e not = x.rest last e s' l' r' (items_fail (λ z. omega arith) g not)

      pub items_next : {w : Meaning} → r'.outcome ≡ Gave w
          → ItemsLoop R E T A M s₀ l₀ at q m r₀ s' l' r' (get_or E next 0) (i + 1)
      items_next {w} t =
          let k = kept_of (list_first items_head) g in
          let z : m - i - 1 ≡ m - (i + 1) = omega arith in
          record {
            low = omega arith;
            list = rw z at (list_rest items_head g);
            v = w;
            gave = t;
            small = small_of t k.small;
            falls = omega (arith, k.falls, x.falls);
            long_store = k.stored.long ∙ x.long_store;
            long_slots = k.long ∙ x.long_slots;
            rest = λ last e s'' l'' r'' p.
                x.rest last e s'' l'' r'' (items_step (λ z. omega arith) g t (rw (sym z) at p));
          }
