-- The steps of Q. Assumes nothing.
use mathlib.Core.Path.{◌≡◌, refl, sym, ap, ◌∙◌, subst}
use mathlib.Core.List.{List, [], ◌∷◌}
use Prim.Native.Nat.{ℕ, suc, ◌+◌, ◌-◌, ◌*◌, ◌≤◌, ◌<◌}
use native.Mathlib.Omega.{arith}
use borrow.Author.Tests.{eq-eqb}
use lib.ListN.{length, get_or}
use Rattle.frames.proofs.Frames.{slots_length, slots_ext}
use Rattle.std.specs.Prelude.{Ok, Err}
use Rattle.evaluator.proofs.Arguments.{slots_cons}
use Rattle.objects.specs.declared.Tally.{Tally}
use Rattle.objects.specs.Values.{Outcome, Gave, Raised, Stopped, Stuck, Answer, meaning}
use Rattle.objects.specs.Values.{outcome, bare, told, answer}
use Rattle.frames.specs.declared.Place.{Place}
use Rattle.evaluator.specs.Evaluator.{told_all}
use Rattle.frames.specs.Places.{slots_of, this_of, inside, state, frame_of}
use Rattle.language.specs.Environment.{Environment}
use Rattle.language.specs.WellFormed.{NodeInForm, form_cons}
use Rattle.theory.specs.ComputedRules.{HasType, type_call, types_cons}
use Rattle.layout.specs.NodeForms.{of_width, form_parts}
use Rattle.layout.specs.ProperNodes.{Proper, ProperAll}
use Rattle.objects.proofs.Holding.{still_holding}
use Rattle.frames.proofs.OneChild.{node_rows, node_parts}
use Rattle.frames.specs.Nodes.{Kept, PreEntered, PostNode}
use Rattle.evaluator.specs.Evaluator.{PreArgs, PostArgs}
use Rattle.frames.specs.Nodes.{calls_of}
use Rattle.evaluator.specs.Evaluator.{evaluated_all, PreEnter, PostEnter}
use Rattle.evaluator.specs.Evaluator.{call_place}
use Rattle.objects.specs.Acts.{PreFind, PostFind, Found, NotFound}
use Rattle.objects.proofs.Values.{bare_ok, bare_stop}
use Rattle.frames.proofs.Letters.{as_call}
use Rattle.evaluator.proofs.Steps.{kept_then, kept_more, kept_as, ready_child, room_same}
use Rattle.language.specs.Results.{ok, stop, bind}
use Rattle.language.specs.Tree.{ExprType, Expr, Exprs, cons, count, Class, call}
use Rattle.language.specs.Program.{world, body_in}
use Rattle.language.specs.World.{Method, World}
use Rattle.language.specs.Lists.{nth}
use Rattle.language.specs.Frames.{frame}
use mathlib.Core.Option.{Option, some}
use Rattle.language.specs.Encoded.{Encoded, EncodedAll}
use Rattle.language.specs.State.{Value as Meaning, null, object, State, Out}
use Rattle.language.specs.Evaluation.{Limits, eval, with_limits}
use Rattle.language.specs.State.{with_frame, Object as Thing}
use Rattle.language.specs.Evaluation.{eval_all, do_call, call_at}
use Rattle.language.specs.Store.{capacity}
use Rattle.language.proofs.Nodes.{head}
use Rattle.language.specs.Rows.{code, Q_call}

-- Receiver and arguments are one list, in form and typed.
receiver_first : (P : List Class) {w n d m : ℕ} {a : Expr} {es : Exprs} {γ γ' : Environment} {t : ExprType}
    {φ : ℕ} → NodeInForm (of_width w) d n (call m a es) → HasType (world P) γ (call m a es) t γ' φ
    → ProperAll P w n (d - 1) (cons a es)
receiver_first P {w} f (type_call M t us found fit) =
    let x = form_parts (of_width w) _ f in
    record {
      in_form = form_cons x.2 x.3;
      typed = record { before = _; types = _; after = _; effect = _; have = types_cons t us };
    }

-- Q taken apart
pub record CallAt {R E T A M s l : List ℕ} {at : ℕ} {q : Place} {n : Tally}
    (p : PreEntered R E T A M s l at q n) : Type 0 where
  pub m : ℕ
  pub a : Expr
  pub es : Exprs
  pub is : p.e ≡ call m a es
  pub deep : 1 ≤ p.d
  pub row : at * 4 + 3 < length R
  pub first : get_or R (at * 4 + 1) 0 ≡ m
  pub many : get_or R (at * 4 + 2) 0 ≡ count es
  pub name : m < 256
  pub few : count es ≤ 8
  pub enc : EncodedAll R E (cons a es) (at + 1)
  pub proper : ProperAll p.P p.width (suc q.scope) (p.d - 1) (cons a es)
  pub all : get_or R (at * 4 + 2) 0 + 1 ≡ count (cons a es)

pub call_apart : {R E T A M s l : List ℕ} {at : ℕ} {q : Place} {n : Tally}
    (p : PreEntered R E T A M s l at q n) → get_or R (at * 4) 0 ≡ code Q_call → CallAt p
unfolding Encoded count
call_apart {q = q} p h =
    let x = as_call (head p.e p.encoded) h in
    let enc = node_rows p x.3 in
    let w = node_parts p x.3 in
    let node = subst (λ (e : Expr). Proper p.P p.width (suc q.scope) p.d e) x.3 p.proper in
    record {
      m = x.0;
      a = x.1;
      es = x.2;
      is = x.3;
      deep = w.0;
      row = enc.0.row.within;
      first = enc.0.row.first;
      many = enc.0.row.second;
      name = w.1;
      few = w.2;
      enc = (enc.1, enc.2);
      proper = receiver_first p.P node.in_form node.typed.has;
      all = omega (arith, enc.0.row.second);
    }

-- receiver and arguments in a row, then the call
abbrev called_on : (Meaning → List Meaning → State → Out Meaning) → List Meaning → State → Out Meaning
called_on k [] t = k null [] t
called_on k (v ∷ vs) t = k v vs t

rest_in_a_row : (v : Meaning) (y : Out (List Meaning)) (k : Meaning → List Meaning → State → Out Meaning)
    → ◌≡◌ {A = Out Meaning} (bind y λ vs t. k v vs t)
    (bind (bind y λ vs t. ok (v ∷ vs) t) λ vs t. called_on k vs t)
rest_in_a_row v (ok vs t) k = refl
rest_in_a_row v (stop x t) k = refl

in_a_row : (x : Out Meaning) (y : State → Out (List Meaning))
    (k : Meaning → List Meaning → State → Out Meaning)
    → ◌≡◌ {A = Out Meaning} (bind x λ v s. bind (y s) λ vs t. k v vs t)
    (bind (bind x λ v s. bind (y s) λ vs t. ok (v ∷ vs) t) λ vs t. called_on k vs t)
in_a_row (ok v s) y k = rest_in_a_row v (y s) k
in_a_row (stop z s) y k = refl

call_in_a_row : (W : World) (L : Limits) (K : Method → State → Out Meaning) (m : ℕ) (a : Expr) (es : Exprs)
    (s : State)
    → inside W L K (call m a es) s ≡ bind (eval_all W L K (cons a es) s) λ vs t.
    called_on (λ v vs t. do_call W L K m v vs t) vs t
unfolding inside eval_all
call_in_a_row W L K m a es s = in_a_row (eval W L K a s) (λ t. eval_all W L K es t)
    (λ v vs t. do_call W L K m v vs t)

module _ {R E T A M s l : List ℕ} {at : ℕ} {q : Place} {n : Tally} {p : PreEntered R E T A M s l at q n}
    (x : CallAt p) where
  abbrev pub call_args : PreArgs R E T A M s l (at + 1) q n (get_or R (at * 4 + 2) 0 + 1)
  call_args = record {
    list = record {
      P = p.P;
      es = cons x.a x.es;
      width = p.width;
      d = p.d - 1;
      ready = ready_child 1 (p.d - 1) p.ready (omega arith);
      encoded = x.enc;
      proper = x.proper;
      many = x.all;
      few = omega (arith, x.many, x.few);
    };
    room = omega (arith, p.ready.above, x.deep, x.many, x.few);
  }

  module _ {s' l' : List ℕ} {r : Answer}
      (g : PostArgs R E T A M s l s' l' (at + 1) q n (get_or R (at * 4 + 2) 0 + 1) r) where
    pub kept_args : Kept p.P p.width s l s' l' q n 0 r
    kept_args = (g.done call_args n.left 0 (omega arith)).kept

    pub top_room : q.top < length l'
    top_room = omega (arith, p.ready.above, x.deep, kept_args.long)

    abbrev pub call_find : PreFind T M s' (get_or R (at * 4 + 1) 0) r.counts.made
    call_find = record {
      R = R;
      E = E;
      A = A;
      P = p.P;
      holding = still_holding p.ready.holding kept_args.stored.sound;
      name = omega (arith, x.first, x.name);
    }

    -- the arguments' values are as many as the row has
    pub arguments_given : length (slots_of l' (q.top + 1) (get_or R (at * 4 + 2) 0)) ≡ get_or R (at * 4 + 2) 0
    arguments_given = slots_length l' (q.top + 1) (get_or R (at * 4 + 2) 0)
        (omega (arith, p.ready.above, x.deep, x.many, x.few, kept_args.long))

    -- the values, of which the first is the receiver's
    module _ (v : Meaning) {w : Meaning} (e : r.outcome ≡ Gave w)
        (dv : v ≡ meaning (get_or l' q.top 0)) (F k : ℕ) (z : k + n.left ≡ F) where
      args-gave : evaluated_all p.P F (capacity s) q.calls (cons x.a x.es)
          (state p.P s l q n k)
          ≡ ok (v ∷ slots_of l' (q.top + 1) (get_or R (at * 4 + 2) 0))
          (state p.P s' l' q r.counts (F - r.counts.left))
      args-gave =
          let nn : ℕ = get_or R (at * 4 + 2) 0 in
          let z' : nn + 1 - 1 ≡ nn = omega arith in
          let y : slots_of l' q.top (nn + 1) ≡ v ∷ slots_of l' (q.top + 1) nn =
          slots_cons l' q.top (nn + 1) top_room (λ u. omega arith) ∙ rw (z', dv) in
          bare_ok (evaluated_all p.P F (capacity s) q.calls (cons x.a x.es)
          (state p.P s l q n k))
          (rw (e, y) at (g.done call_args F k z).is)

module _ {R E T A M s l s' l' : List ℕ} (at : ℕ) {q : Place} {n : Tally} {r : Answer}
    (h : get_or R (at * 4) 0 ≡ code Q_call)
    (g : PostArgs R E T A M s l s' l' (at + 1) q n (get_or R (at * 4 + 2) 0 + 1) r)
  where
    pub call_fail : ((v : Meaning) → r.outcome ≡ Gave v → ⊥) → PostNode R E T A M s l s' l' at q n r
    call_fail not = record {
      done = λ p F k z.
          let P = p.P in
          let x = call_apart p h in
          let m = g.done (call_args x) F k z in
          let K : Method → State → Out Meaning = λ N t. calls_of P F (capacity s) q.calls N t in
          record {
            kept = kept_more 0 1 m.kept (omega arith);
            is = rw (
              x.is,
              call_in_a_row (world P) (with_limits F (capacity s)) K x.m x.a x.es
                  (state P s l q n k),
            )
                (fails-list r.outcome (slots_of l' q.top (get_or R (at * 4 + 2) 0 + 1))
                (state P s' l' q r.counts (F - r.counts.left))
                (evaluated_all P F (capacity s) q.calls (cons x.a x.es) (state P s l q n k))
                (λ vs t. called_on (λ v vs t. do_call (world P) (with_limits F (capacity s)) K x.m v vs t)
                vs
                t) not m.is);
          };
    }
      where
        fails-list : (o : Outcome) (vs : List Meaning) (t : State) (x : Out (List Meaning))
            (k : List Meaning → State → Out Meaning) → ((v : Meaning) → o ≡ Gave v → ⊥)
            → told_all o vs t ≡ bare x
            → told o t ≡ bare (bind x k)
        fails-list (Gave v) vs t x k not e = absurd (not v refl)
        fails-list (Raised n) vs t x k not e = bare_stop x k e
        fails-list (Stopped n) vs t x k not e = bare_stop x k e
        fails-list Stuck vs t x k not e = bare_stop x k e

this_called : (calls n : ℕ) → this_of (calls + 1) n ≡ some (meaning n)
this_called calls n = let e : calls + 1 ≡ suc calls = omega arith in rw e

frame_kept : (l l' : List ℕ) (q : Place) → length l' ≡ length l
    → ((i : ℕ) → i ≤ q.scope → get_or l' (q.base + i) 0 ≡ get_or l (q.base + i) 0)
    → frame_of l' q ≡ frame_of l q
unfolding frame_of
frame_kept l l' q e h =
    let z : q.base + 0 ≡ q.base = omega arith in
    let a : get_or l' q.base 0 ≡ get_or l q.base 0 = rw z at (h 0 (omega arith)) in
    let b = slots_ext l' l (q.base + 1) q.scope e
    (λ i u. let y : q.base + (1 + i) ≡ q.base + 1 + i = omega arith in
    rw y at (h (1 + i) (omega arith))) in
    rw (a, b)

-- what a call comes to, its method found
run_call : (W : World) (L : Limits) (bodies : ℕ → Expr) (calls m : ℕ) (v : Meaning) (vs : List Meaning)
    (st : State) (j : ℕ) (o : Thing) (N : Method) → calls < 64 → v ≡ object j → nth st.heap j ≡ some o
    → W.method o.class_of m ≡ some N → length vs ≡ length N.parameters
    → do_call W L (λ N s. call_at W L bodies (64 - calls) N s) m v vs st
    ≡ bind (eval W L (λ N s. call_at W L bodies (64 - (calls + 1)) N s) (bodies N.number)
    (with_frame (frame (some (object j)) vs) st)) λ w t. ok w (with_frame st.frame t)
unfolding call_at
run_call W L bodies calls m v vs st j o N h e known method many =
    let le : 64 - calls ≡ suc (64 - (calls + 1)) = omega arith in
    rw (e, known, method, eq-eqb (length vs) (length N.parameters) many, le)

module _ {R E T A M s l s' l' : List ℕ} {at : ℕ} {q : Place} {n : Tally} {r : Answer} {v : Meaning}
    {p : PreEntered R E T A M s l at q n} (x : CallAt p)
    (g : PostArgs R E T A M s l s' l' (at + 1) q n (get_or R (at * 4 + 2) 0 + 1) r) {b : ℕ}
    (sought : PostFind T M s' v (get_or R (at * 4 + 1) 0) (get_or R (at * 4 + 2) 0) r.counts q.calls (Ok b))
  where
    pub found : Found R E s' p.P v (get_or R (at * 4 + 1) 0) (get_or R (at * 4 + 2) 0) r.counts q.calls b
    found = sought.is (call_find x g)

    frame-called : v ≡ meaning (get_or l' q.top 0)
        → frame_of l' (call_place q.top (get_or R (at * 4 + 2) 0) (q.calls + 1))
        ≡ frame (some (object found.j)) (slots_of l' (q.top + 1) (get_or R (at * 4 + 2) 0))
    unfolding frame_of
    frame-called dv = ap (λ (o : Option Meaning). frame o (slots_of l' (q.top + 1) (get_or R (at * 4 + 2) 0)))
        (this_called q.calls (get_or l' q.top 0) ∙ ap some (sym dv ∙ found.receiver))

    abbrev pub call_enter : PreEnter R E T A M s' l' b (get_or R (at * 4 + 2) 0) q.top (q.calls + 1)
        r.counts
    call_enter =
        let kp = kept_args x g in
        record {
          P = p.P;
          e = body_in p.P found.M.number;
          holding = still_holding p.ready.holding kp.stored.sound;
          few = omega (arith, x.many, x.few);
          there = omega (arith, (call_args x).room, kp.long);
          whole = omega (arith, p.ready.whole, kp.long);
          words = kp.words;
          active = omega (arith, found.allowed);
          counted = omega (arith, p.ready.counted, kp.counted);
          encoded = found.encoded;
          in_form = found.in_form;
          typed = found.typed;
        }

module _ {R E T A M s l s' l' : List ℕ} (at : ℕ) {q : Place} {n : Tally} {r : Answer} {w : Meaning}
    (h : get_or R (at * 4) 0 ≡ code Q_call)
    (g : PostArgs R E T A M s l s' l' (at + 1) q n (get_or R (at * 4 + 2) 0 + 1) r)
    (e₁ : r.outcome ≡ Gave w) where
  -- the receiver
  abbrev v : Meaning
  v = meaning (get_or l' q.top 0)

  dv : v ≡ meaning (get_or l' q.top 0)
  dv = refl

  pub call_ends : {o : ℕ}
      → PostFind T M s' v (get_or R (at * 4 + 1) 0) (get_or R (at * 4 + 2) 0) r.counts q.calls (Err o)
      → PostNode R E T A M s l s' l' at q n (answer (outcome o) r.counts)
  call_ends {o} sought = record {
    done = λ p F k z.
        let P = p.P in
        let x = call_apart p h in
        let kp = kept_args x g in
        let K : Method → State → Out Meaning = λ N t. calls_of P F (capacity s) q.calls N t in
        let nf : NotFound P s' v (get_or R (at * 4 + 1) 0) (get_or R (at * 4 + 2) 0) r.counts q.calls
        (outcome o) = sought.is (call_find x g) in
        let i = nf.is (with_limits F (capacity s)) (slots_of l' (q.top + 1) (get_or R (at * 4 + 2) 0))
        (frame_of l' q) (F - r.counts.left) (arguments_given x g) in
        record {
          kept = kept_as 1 (outcome o) (kept_more 0 1 kp (omega arith)) nf.small;
          is = rw (
            x.is,
            call_in_a_row (world P) (with_limits F (capacity s)) K x.m x.a x.es
                (state P s l q n k),
            args-gave x g v e₁ dv F k z,
          ) (rw x.first at i);
        };
  }

  pub call_done : {s'' l'' : List ℕ} {r' : Answer} {b : ℕ}
      → PostFind T M s' v (get_or R (at * 4 + 1) 0) (get_or R (at * 4 + 2) 0) r.counts q.calls (Ok b)
      → PostEnter R E T A M s' l' s'' l'' b (get_or R (at * 4 + 2) 0) q.top (q.calls + 1) r.counts r'
      → PostNode R E T A M s l s'' l'' at q n r'
  call_done {s''} {l''} {r'} {b} sought g' = record {
    done = λ p F k z.
        let P = p.P in
        let x = call_apart p h in
        let kp = kept_args x g in
        let fo = found x g sought in
        let nn : ℕ = get_or R (at * 4 + 2) 0 in
        let K : Method → State → Out Meaning = λ N t. calls_of P F (capacity s) q.calls N t in
        let i = g'.done (call_enter x g sought) F (F - r.counts.left) (omega (arith, kp.falls, z)) in
        let fr : frame_of l'' q ≡ frame_of l' q =
        frame_kept l' l'' q i.long
        (λ j o. i.same (q.base + j) (omega (arith, p.ready.frame, p.ready.scoped))) in
        let is' = rw (room_same s s' kp.stored.long, frame-called x g sought dv) at (i.is
        (frame_of l' q)) in
        let method : (world P).method fo.o.class_of x.m ≡ some fo.M =
        rw x.first at fo.method in
        record {
          kept = kept_then 0 0 1 kp (record {
            same = λ j o a. i.same j o;
            long = i.long;
            words = i.words;
            stored = i.stored;
            falls = i.falls;
            counted = omega (arith, i.counted);
            small = i.small;
          }) (omega arith);
          is = rw (
            x.is,
            call_in_a_row (world P) (with_limits F (capacity s)) K x.m x.a x.es (state P s l q n k),
            args-gave x g v e₁ dv F k z,
            run_call (world P) (with_limits F (capacity s)) (body_in P) q.calls x.m v
                (slots_of l' (q.top + 1) nn) (state P s' l' q r.counts (F - r.counts.left)) fo.j
                fo.o fo.M fo.allowed fo.receiver (fo.known (frame_of l' q) (F - r.counts.left))
                method (arguments_given x g ∙ fo.parameters),
            fr,
          ) is';
        };
  }
