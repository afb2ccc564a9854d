-- The steps of U. Assumes nothing.
use mathlib.Core.Path.{◌≡◌}
use mathlib.Core.List.{List}
use Prim.Native.Nat.{ℕ, suc, ◌+◌, ◌-◌, ◌*◌, ◌≤◌, ◌<◌}
use native.Mathlib.Omega.{arith}
use lib.ListN.{length, get_or}
use Rattle.language.specs.Results.{ok, bind}
use Rattle.language.specs.Tree.{Expr, set, size}
use Rattle.language.specs.Program.{world}
use Rattle.language.specs.Encoded.{Encoded}
use Rattle.language.specs.State.{Value as Meaning}
use Rattle.language.specs.Evaluation.{do_set}
use Rattle.language.specs.Store.{capacity}
use Rattle.language.proofs.Nodes.{head}
use Rattle.objects.specs.declared.Tally.{Tally}
use Rattle.objects.specs.Values.{Outcome, Gave, Answer, answer}
use Rattle.frames.specs.declared.Place.{Place}
use Rattle.frames.specs.Places.{state, frame_of, inside}
use Rattle.layout.specs.ProperNodes.{Proper}
use Rattle.objects.proofs.Holding.{still_holding}
use Rattle.frames.proofs.OneChild.{node_rows, node_parts}
use Rattle.frames.specs.Nodes.{Done, PreEval, PreEntered, PostNode, evaluated}
use Rattle.evaluator.specs.Evaluator.{PostEval}
use Rattle.objects.specs.Acts.{PostSave, PreObject}
use Rattle.frames.proofs.Letters.{as_set}
use Rattle.evaluator.proofs.Steps
use Rattle.evaluator.proofs.Steps.{first_child, next_child, kept_then, kept_more, room_same, then_eval}
use Rattle.evaluator.proofs.Steps.{fails}
use Rattle.evaluator.proofs.Steps.{gives, kept_of}
use Rattle.language.specs.Rows.{code, U_set}

-- U taken apart
pub record SetAt {R E T A M s l : List ℕ} {at : ℕ} {q : Place} {n : Tally}
    (p : PreEntered R E T A M s l at q n) : Type 0 where
  pub f : ℕ
  pub a : Expr
  pub b : Expr
  pub is : p.e ≡ set f a b
  pub deep : 1 ≤ p.d
  pub name : f < 256
  pub first : get_or R (at * 4 + 1) 0 ≡ f
  pub row : at * 4 + 3 < length R
  pub in_ends : at + 1 < length E
  pub end : get_or E (at + 1) 0 ≡ at + 1 + size a
  pub enc_a : Encoded R E a (at + 1)
  pub enc_b : Encoded R E b (at + 1 + size a)
  pub proper_a : Proper p.P p.width (suc q.scope) (p.d - 1) a
  pub proper_b : Proper p.P p.width (suc q.scope) (p.d - 1) b

pub set_apart : {R E T A M s l : List ℕ} {at : ℕ} {q : Place} {n : Tally}
    (p : PreEntered R E T A M s l at q n) → get_or R (at * 4) 0 ≡ code U_set → SetAt p
unfolding Encoded
set_apart p h =
    let c = as_set (head p.e p.encoded) h in
    let enc = node_rows p c.3 in
    let w = node_parts p c.3 in
    record {
      f = c.0;
      a = c.1;
      b = c.2;
      is = c.3;
      deep = w.0;
      name = w.1;
      first = enc.0.row.first;
      row = enc.0.row.within;
      in_ends = (head c.1 enc.1).in_ends;
      end = (head c.1 enc.1).end;
      enc_a = enc.1;
      enc_b = enc.2;
      proper_a = w.2;
      proper_b = w.3;
    }

module _ {R E T A M s l : List ℕ} {at : ℕ} {q : Place} {n : Tally} {p : PreEntered R E T A M s l at q n}
    (x : SetAt p) where
  abbrev pub set_first : PreEval R E T A M s l (at + 1) q n
  set_first = first_child p x.a x.enc_a x.proper_a

  module _ {s' l' : List ℕ} {r : Answer} (g : PostEval R E T A M s l s' l' (at + 1) q n r) where
    abbrev pub set_second : PreEval R E T A M s' l' (get_or E (at + 1) 0) q r.counts
    set_second = next_child p x.b (kept_of set_first g) (rw x.end x.enc_b) x.proper_b

    abbrev pub set_object : {s'' l'' : List ℕ} {r' : Answer}
        → PostEval R E T A M s' l' s'' l'' (get_or E (at + 1) 0) q r.counts r'
        → PreObject T s'' r'.counts.made
    set_object g' = record {
      R = R;
      E = E;
      A = A;
      M = M;
      P = p.P;
      holding = still_holding p.ready.holding (kept_of set_second g').stored.sound;
    }

    module _ {v : Meaning} (e : r.outcome ≡ Gave v) (F k : ℕ) (z : k + n.left ≡ F) where
      first-gave : evaluated p.P F (capacity s) q.calls x.a (state p.P s l q n k)
          ≡ ok v (state p.P s' l' q r.counts (F - r.counts.left))
      first-gave = gives (state p.P s' l' q r.counts (F - r.counts.left))
          (evaluated p.P F (capacity s) q.calls x.a (state p.P s l q n k)) e
          (g.done set_first F k z).is

-- U fails with its first child
pub set_fail : {R E T A M s l s' l' : List ℕ} (at : ℕ) {q : Place} {n : Tally} {r : Answer}
    → get_or R (at * 4) 0 ≡ code U_set → PostEval R E T A M s l s' l' (at + 1) q n r
    → ((v : Meaning) → r.outcome ≡ Gave v → ⊥) → PostNode R E T A M s l s' l' at q n r
unfolding inside
set_fail {R} {E} {T} {A} {M} {s} {l} {s'} {l'} at {q} {n} {r} h g not = record {
  done = λ p F k z.
      let P = p.P in
      let x = set_apart p h in
      let a = g.done (set_first x) F k z in
      record {
        kept = kept_more 0 1 a.kept (omega arith);
        is = rw x.is (fails r.outcome (state P s' l' q r.counts (F - r.counts.left))
            (evaluated P F (capacity s) q.calls x.a (state P s l q n k))
            (λ v t. bind (evaluated P F (capacity s) q.calls x.b t) λ w u.
            do_set (world P) x.f v w u) not a.is);
      };
}

module _ {R E T A M s l s' l' s'' l'' : List ℕ} (at : ℕ) {q : Place} {n : Tally} {r r' : Answer} {v : Meaning}
    (h : get_or R (at * 4) 0 ≡ code U_set)
    (g : PostEval R E T A M s l s' l' (at + 1) q n r) (t : r.outcome ≡ Gave v)
    (g' : PostEval R E T A M s' l' s'' l'' (get_or E (at + 1) 0) q r.counts r') where
  second_done : {p : PreEntered R E T A M s l at q n} (x : SetAt p) (F k : ℕ) → k + n.left ≡ F
      → Done p.P p.width s' l' s'' l'' q r.counts F 0 r'
      (evaluated p.P F (capacity s) q.calls x.b
      (state p.P s' l' q r.counts (F - r.counts.left)))
  second_done x F k z =
      let kp = kept_of (set_first x) g in
      then_eval (capacity s) (room_same s s' kp.stored.long) g' (set_second x g) F (F - r.counts.left)
      (omega (arith, kp.falls, z))

  pub set_fail_second : ((w : Meaning) → r'.outcome ≡ Gave w → ⊥) → PostNode R E T A M s l s'' l'' at q n r'
  unfolding inside
  set_fail_second not = record {
    done = λ p F k z.
        let P = p.P in
        let x = set_apart p h in
        let b = second_done x F k z in
        record {
          kept = kept_then 0 0 1 (kept_of (set_first x) g) b.kept (omega arith);
          is = rw (x.is, first-gave x g t F k z)
              (fails r'.outcome (state P s'' l'' q r'.counts (F - r'.counts.left))
              (evaluated P F (capacity s) q.calls x.b
              (state P s' l' q r.counts (F - r.counts.left)))
              (λ w u. do_set (world P) x.f v w u) not b.is);
        };
  }

  pub set_done : {s''' : List ℕ} {w : Meaning} (y : Outcome) → r'.outcome ≡ Gave w
      → PostSave T s'' s''' v w (get_or R (at * 4 + 1) 0) r'.counts y
      → PostNode R E T A M s l s''' l'' at q n (answer y r'.counts)
  unfolding inside
  set_done {s'''} {w} y t' saved = record {
    done = λ p F k z.
        let P = p.P in
        let x = set_apart p h in
        let b = second_done x F k z in
        let both = kept_then 0 0 0 (kept_of (set_first x) g) b.kept (omega arith) in
        let gave : evaluated P F (capacity s) q.calls x.b
        (state P s' l' q r.counts (F - r.counts.left))
        ≡ ok w (state P s'' l'' q r'.counts (F - r'.counts.left))
        = gives (state P s'' l'' q r'.counts (F - r'.counts.left))
        (evaluated P F (capacity s) q.calls x.b (state P s' l' q r.counts (F - r.counts.left)))
        t' b.is in
        let u = saved.acts (set_object x g g') in
        record {
          kept = record {
            same = both.same;
            long = both.long;
            words = both.words;
            stored = Steps.stored_then both.stored u.stored;
            falls = both.falls;
            counted = omega (arith, both.counted);
            small = u.small;
          };
          is = rw (x.is, first-gave x g t F k z, gave)
              (rw x.first at (u.is (frame_of l'' q) (F - r'.counts.left)));
        };
  }
