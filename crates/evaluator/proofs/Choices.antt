-- The steps of J. Assumes nothing.
use mathlib.Core.Path.{◌≡◌, refl, ◌∙◌}
use mathlib.Core.Bool.{Bool, true, false}
use mathlib.Core.Logic.{inl, inr, ⊎_elim}
use mathlib.Core.List.{List, [], ◌∷◌}
use Prim.Native.Nat.{ℕ, suc, ◌+◌, ◌-◌, ◌*◌, ◌<◌}
use native.Mathlib.Omega.{arith}
use borrow.Author.Tests.{eqb-false}
use types.Run.{OneOf}
use denote.Enum.Declared.{tag_of}
use lib.ListN.{length, get_or}
use Rattle.language.specs.Results.{ok}
use Rattle.language.specs.Lists.{choice}
use Rattle.language.specs.Tree.{Expr, choose, size}
use Rattle.language.specs.Encoded.{Encoded}
use Rattle.language.specs.State.{Value as Meaning, null, truth, object, State, Out}
use Rattle.language.specs.Evaluation.{need_truth}
use Rattle.language.specs.Store.{capacity}
use Rattle.language.proofs.Nodes.{head}
use Rattle.objects.specs.declared.Tally.{Tally}
use Rattle.objects.specs.Values.{Gave, Stuck, Answer, bare, told, answer, case_of}
use Rattle.frames.specs.declared.Place.{Place}
use Rattle.frames.specs.Places.{state, inside}
use Rattle.layout.specs.ProperNodes.{Proper}
use Rattle.frames.proofs.OneChild.{node_rows, node_parts}
use Rattle.frames.specs.Nodes.{PreEval, PreEntered, PostNode, evaluated}
use Rattle.evaluator.specs.Evaluator.{PostEval}
use Rattle.objects.specs.contracts.Value.{the_type}
use Rattle.objects.specs.declared.Value.TheVariants.{Truth}
use Rattle.frames.proofs.Letters.{as_choose}
use Rattle.evaluator.proofs.Steps.{first_child, next_child, kept_then, kept_more, kept_as, room_same}
use Rattle.evaluator.proofs.Steps.{then_eval, fails, gives, kept_of}
use Rattle.language.specs.Rows.{code, J_choose}

-- a value that is no truth value is null or an object
pub null_or_object : (v : Meaning) → ((b : Bool) → case_of v ≡ Truth b → ⊥)
    → OneOf (0 ∷ 2 ∷ []) (tag_of the_type (case_of v))
null_or_object null other = inl refl
null_or_object (truth b) other = absurd (other b refl)
null_or_object (object j) other = inr refl

-- J taken apart
pub record ChooseAt {R E T A M s l : List ℕ} {at : ℕ} {q : Place} {n : Tally}
    (p : PreEntered R E T A M s l at q n) : Type 0 where
  pub a : Expr
  pub b : Expr
  pub c : Expr
  pub is : p.e ≡ choose a b c
  pub row : at * 4 + 3 < length R
  pub in_ends : at + 1 < length E
  pub end_a : get_or E (at + 1) 0 ≡ at + 1 + size a
  pub in_ends_b : at + 1 + size a < length E
  pub end_b : get_or E (at + 1 + size a) 0 ≡ at + 1 + size a + size b
  pub enc_a : Encoded R E a (at + 1)
  pub enc_b : Encoded R E b (at + 1 + size a)
  pub enc_c : Encoded R E c (at + 1 + size a + size b)
  pub proper_a : Proper p.P p.width (suc q.scope) (p.d - 1) a
  pub proper_b : Proper p.P p.width (suc q.scope) (p.d - 1) b
  pub proper_c : Proper p.P p.width (suc q.scope) (p.d - 1) c

pub choose_apart : {R E T A M s l : List ℕ} {at : ℕ} {q : Place} {n : Tally}
    (p : PreEntered R E T A M s l at q n) → get_or R (at * 4) 0 ≡ code J_choose → ChooseAt p
unfolding Encoded
choose_apart p h =
    let x = as_choose (head p.e p.encoded) h in
    let enc = node_rows p x.3 in
    let w = node_parts p x.3 in
    record {
      a = x.0;
      b = x.1;
      c = x.2;
      is = x.3;
      row = enc.0.row.within;
      in_ends = (head x.0 enc.1).in_ends;
      end_a = (head x.0 enc.1).end;
      in_ends_b = (head x.1 enc.2).in_ends;
      end_b = (head x.1 enc.2).end;
      enc_a = enc.1;
      enc_b = enc.2;
      enc_c = enc.3;
      proper_a = w.1;
      proper_b = w.2;
      proper_c = w.3;
    }

module _ {R E T A M s l : List ℕ} {at : ℕ} {q : Place} {n : Tally} {p : PreEntered R E T A M s l at q n}
    (x : ChooseAt p) where
  abbrev pub choose_first : PreEval R E T A M s l (at + 1) q n
  choose_first = first_child p x.a x.enc_a x.proper_a

  module _ {s' l' : List ℕ} {r : Answer} (g : PostEval R E T A M s l s' l' (at + 1) q n r) where
    abbrev pub choose_second : PreEval R E T A M s' l' (get_or E (at + 1) 0) q r.counts
    choose_second = next_child p x.b (kept_of choose_first g) (rw x.end_a x.enc_b) x.proper_b

    abbrev pub choose_third : PreEval R E T A M s' l' (get_or E (get_or E (at + 1) 0) 0) q r.counts
    choose_third = next_child p x.c (kept_of choose_first g) (rw (x.end_a, x.end_b) x.enc_c)
        x.proper_c

    module _ {v : Meaning} {t : Bool} (e : r.outcome ≡ Gave v) (e' : v ≡ truth t) (F k : ℕ)
        (z : k + n.left ≡ F) where
      condition-gave : (y : Bool) → t ≡ y
          → evaluated p.P F (capacity s) q.calls x.a (state p.P s l q n k)
          ≡ ok (truth y) (state p.P s' l' q r.counts (F - r.counts.left))
      condition-gave y u =
          gives (state p.P s' l' q r.counts (F - r.counts.left))
          (evaluated p.P F (capacity s) q.calls x.a (state p.P s l q n k)) e
          (g.done choose_first F k z).is
          ∙ rw (e', u)

module _ {R E T A M s l s' l' : List ℕ} (at : ℕ) {q : Place} {n : Tally} {r : Answer}
    (h : get_or R (at * 4) 0 ≡ code J_choose) (g : PostEval R E T A M s l s' l' (at + 1) q n r) where
  pub choose_fail : ((v : Meaning) → r.outcome ≡ Gave v → ⊥) → PostNode R E T A M s l s' l' at q n r
  unfolding inside
  choose_fail not = record {
    done = λ p F k z.
        let P = p.P in
        let x = choose_apart p h in
        let m = g.done (choose_first x) F k z in
        record {
          kept = kept_more 0 1 m.kept (omega arith);
          is = rw x.is (fails r.outcome (state P s' l' q r.counts (F - r.counts.left))
              (evaluated P F (capacity s) q.calls x.a (state P s l q n k))
              (λ v u. need_truth v u λ t.
              choice t (λ _. evaluated P F (capacity s) q.calls x.b u)
              (λ _. evaluated P F (capacity s) q.calls x.c u)) not m.is);
        };
  }

  pub choose_stuck : {v : Meaning} → r.outcome ≡ Gave v → OneOf (0 ∷ 2 ∷ []) (tag_of the_type (case_of v))
      → PostNode R E T A M s l s' l' at q n (answer Stuck r.counts)
  unfolding inside bare
  choose_stuck {v} t o = record {
    done = λ p F k z.
        let P = p.P in
        let x = choose_apart p h in
        let m = g.done (choose_first x) F k z in
        let c = gives (state P s' l' q r.counts (F - r.counts.left))
        (evaluated P F (capacity s) q.calls x.a (state P s l q n k)) t m.is in
        record {
          kept = kept_as 1 Stuck (kept_more 0 1 m.kept (omega arith)) tt;
          is = rw (x.is, c) (no_truth v o (state P s' l' q r.counts (F - r.counts.left))
              (λ t. choice t (λ _. evaluated P F (capacity s) q.calls x.b
              (state P s' l' q r.counts (F - r.counts.left)))
              (λ _. evaluated P F (capacity s) q.calls x.c
              (state P s' l' q r.counts (F - r.counts.left)))));
        };
  }
    where
      no_truth : (v : Meaning) → OneOf (0 ∷ 2 ∷ []) (tag_of the_type (case_of v))
          → (u : State) (k : Bool → Out Meaning)
          → told Stuck u ≡ bare (need_truth v u k)
      no_truth null o u k = refl
      no_truth (truth b) o u k = absurd (⊎_elim (λ e. eqb-false 1 0 refl e) (λ e. eqb-false 1 2 refl e) o)
      no_truth (object j) o u k = refl

  module _ {s'' l'' : List ℕ} {r' : Answer} {v : Meaning} {t : Bool} (e₁ : r.outcome ≡ Gave v)
      (e₂ : v ≡ truth t)
    where
      pub choose_yes : t ≡ true → PostEval R E T A M s' l' s'' l'' (get_or E (at + 1) 0) q r.counts r'
          → PostNode R E T A M s l s'' l'' at q n r'
      unfolding inside
      choose_yes u g' = record {
        done = λ p F k z.
            let P = p.P in
            let x = choose_apart p h in
            let m = g.done (choose_first x) F k z in
            let i = then_eval (capacity s) (room_same s s' m.kept.stored.long) g' (choose_second x g) F
            (F - r.counts.left) (omega (arith, m.kept.falls)) in
            record {
              kept = kept_then 0 0 1 m.kept i.kept (omega arith);
              is = rw (x.is, condition-gave x g e₁ e₂ F k z true u) i.is;
            };
      }

      pub choose_no : t ≡ false
          → PostEval R E T A M s' l' s'' l'' (get_or E (get_or E (at + 1) 0) 0) q r.counts r'
          → PostNode R E T A M s l s'' l'' at q n r'
      unfolding inside
      choose_no u g' = record {
        done = λ p F k z.
            let P = p.P in
            let x = choose_apart p h in
            let m = g.done (choose_first x) F k z in
            let i = then_eval (capacity s) (room_same s s' m.kept.stored.long) g' (choose_third x g) F
            (F - r.counts.left) (omega (arith, m.kept.falls)) in
            record {
              kept = kept_then 0 0 1 m.kept i.kept (omega arith);
              is = rw (x.is, condition-gave x g e₁ e₂ F k z false u) i.is;
            };
      }
