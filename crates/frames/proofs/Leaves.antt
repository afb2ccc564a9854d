-- What the nodes without children come to, and a node with one child once that has a value. Assumes nothing.
use mathlib.Core.Path.{◌≡◌, refl, ◌∙◌}
use mathlib.Core.Bool.{true, false}
use mathlib.Core.Logic.{◌⊎◌, inl, inr}
use mathlib.Core.Option.{Option, none, some}
use mathlib.Core.List.{List}
use Prim.Native.Nat.{ℕ, ◌+◌, ◌-◌, ◌*◌, ◌≤◌, ◌<◌}
use native.Mathlib.Omega.{arith}
use borrow.Author.Tests.{ne_eqb}
use lib.ListN.{length, get_or}
use Rattle.language.specs.Results.{ok}
use Rattle.language.specs.Frames.{at_slot}
use Rattle.language.specs.Tree.{Class}
use Rattle.language.specs.Program.{world}
use Rattle.language.specs.Encoded.{Encoded}
use Rattle.language.specs.State.{Value as Meaning, null, truth, object, State, Out}
use Rattle.language.specs.Evaluation.{need, need_reference, do_change}
use Rattle.language.proofs.Nodes.{head}
use Rattle.objects.specs.declared.Tally.{Tally}
use Rattle.objects.specs.Values.{Outcome, Gave, Raised, Stopped, Stuck, outcome, Answer}
use Rattle.objects.specs.Values.{SmallOutcome, bare, told, answer}
use Rattle.frames.specs.declared.Place.{Place}
use Rattle.frames.specs.Places.{state, frame_of, inside, after}
use Rattle.objects.specs.Acts.{Acts, PostNew, PreNew, PreChange, PostChange, PostLoad, PostCast}
use Rattle.objects.specs.Acts.{PreObject, PreCast, IsWord}
use Rattle.frames.specs.Nodes.{Ready, Done, PreNode, PreEval, PreLeaf, PostLeaf}
use Rattle.frames.specs.Slots.{PostRead}
use Rattle.frames.specs.Nodes.{no_child, PreApply}
use Rattle.frames.specs.Nodes.{PostApply}
use Rattle.frames.specs.Slots.{PostWrite, null_tested, Slots}
use Rattle.objects.proofs.Acts.{stored_same}
use Rattle.objects.proofs.Values.{outcome_word}
use Rattle.frames.proofs.Letters.{as_literal_true, as_literal_false, as_literal_null}
use Rattle.frames.proofs.Letters.{as_slot}
use Rattle.frames.proofs.Letters.{as_new, as_change, as_is_null, as_get, as_cast, as_assign}
use Rattle.frames.proofs.OneChild.{rest_change, rest_assign, node_rows, node_parts}
use Rattle.language.specs.Rows.{code, A_assign, G_get, I_slot, K_cast, L_false, N_null, R_change, T_true}
use Rattle.language.specs.Rows.{W_new, Z_is_null}

-- an act as what a node comes to
pub done_acts : {R E T A M s l s' : List ℕ} {P : List Class} {width : ℕ} {q : Place} {n : Tally} {d : ℕ}
    {r : Answer}
    {o : State → Out Meaning} (F k : ℕ) → Ready R E T A M s l P width q n d 1
    → Acts P s s' n r o → k + n.left ≡ F → Done P width s l s' l q n F 1 r (o (state P s l q n k))
done_acts {l = l} {q = q} {n = n} {r = r} F k f a e = record {
  kept = record {
    same = λ i h o. refl;
    long = refl;
    words = f.words;
    stored = a.stored;
    falls = omega (arith, a.left);
    counted = omega (arith, a.left, a.changed);
    small = a.small;
  };
  is = let g : F - r.counts.left ≡ k = omega (arith, a.left) in rw g (a.is (frame_of l q) k);
}

pub done_same : {R E T A M s l : List ℕ} {P : List Class} {width : ℕ} {q : Place} {n : Tally} {d : ℕ}
    (o : Outcome)
    {x : Out Meaning} (F k : ℕ) → Ready R E T A M s l P width q n d 1
    → SmallOutcome o → k + n.left ≡ F → told o (state P s l q n k) ≡ bare x
    → Done P width s l s l q n F 1 (answer o n) x
done_same {n = n} o F k f m e h = record {
  kept = record {
    same = λ i h o. refl;
    long = refl;
    words = f.words;
    stored = stored_same f.holding.sound;
    falls = omega arith;
    counted = omega arith;
    small = m;
  };
  is = let g : F - n.left ≡ k = omega arith in rw g h;
}

-- the slot holds a value
holds_value : (x : Option Meaning) (v : Meaning) (t : State) → told (Gave v) t ≡ bare (need x t λ v. ok v t)
    → x ≡ some v
unfolding bare
holds_value none v t e = let z : ◌≡◌ {A = ℕ} 0 1 = cc in absurd (omega arith)
holds_value (some m) v t e = let z : v ≡ m = cc in rw z

module _ {R T s l : List ℕ} {at : ℕ} {q : Place} {n : Tally} where
  pub leaf_row : PreLeaf R T s l at q n → at * 4 + 3 < length R
  leaf_row p = (head p.node.e p.node.encoded).row

  pub leaf_slots : PreLeaf R T s l at q n → Slots l q
  leaf_slots p = record {
    room = omega (arith, p.node.ready.frame, p.node.ready.scoped, p.node.ready.above);
    words = p.node.ready.words;
  }

  pub leaf_true : get_or R (at * 4) 0 ≡ code T_true → PostLeaf R T s l s at q n (answer (outcome 4294967297) n)
  unfolding bare inside
  leaf_true h = record {
    post = λ E A M. record {
      done = λ p F k z.
          let c = as_literal_true (head p.e p.encoded) h in
          rw (outcome_word (truth true) (omega arith))
          (done_same (Gave (truth true)) F k p.ready (omega arith) z (rw c));
    };
  }

  pub leaf_false : get_or R (at * 4) 0 ≡ code L_false
      → PostLeaf R T s l s at q n (answer (outcome 4294967296) n)
  unfolding bare inside
  leaf_false h = record {
    post = λ E A M. record {
      done = λ p F k z.
          let c = as_literal_false (head p.e p.encoded) h in
          rw (outcome_word (truth false) (omega arith))
          (done_same (Gave (truth false)) F k p.ready (omega arith) z (rw c));
    };
  }

  pub leaf_null : get_or R (at * 4) 0 ≡ code N_null → PostLeaf R T s l s at q n (answer (outcome 0) n)
  unfolding bare inside
  leaf_null h = record {
    post = λ E A M. record {
      done = λ p F k z.
          let c = as_literal_null (head p.e p.encoded) h in
          rw (outcome_word null (omega arith)) (done_same (Gave null) F k p.ready (omega arith) z (rw c));
    };
  }

  pub leaf_slot : (o : Outcome) → get_or R (at * 4) 0 ≡ code I_slot → PostRead l (get_or R (at * 4 + 1) 0) q o
      → PostLeaf R T s l s at q n (answer o n)
  unfolding inside Encoded
  leaf_slot o h read = record {
    post = λ E A M. record {
      done = λ p F k z.
          let c = as_slot (head p.e p.encoded) h in
          let enc = node_rows p c.1 in
          done_same o F k p.ready read.small z
          (rw (c.1, ← enc.row.first) (read.is (state p.P s l q n k)));
    };
  }

  -- what W of a class asks, and R to one; the class of their rows is declared
  module _ {E A M : List ℕ} {z : ℕ} (p : PreNode R E T A M s l at q n z) where
    abbrev new_of : {c : ℕ} → c ≤ length p.P → PreNew R T s c n.made
    new_of d = record { E = E; A = A; M = M; P = p.P; holding = p.ready.holding; declared = d }

    new-declared : get_or R (at * 4) 0 ≡ code W_new → get_or R (at * 4 + 1) 0 ≤ length p.P
    unfolding Encoded
    new-declared h = let c = as_new (head p.e p.encoded) h in
        omega (arith, (node_rows p c.1).row.first, node_parts p c.1)

    change-declared : get_or R (at * 4) 0 ≡ code R_change → get_or R (at * 4 + 2) 0 ≤ length p.P
    unfolding Encoded
    change-declared h = let c = as_change (head p.e p.encoded) h in
        omega (arith, (node_rows p c.2).row.second, node_parts p c.2)

  pub pre_new : PreLeaf R T s l at q n → get_or R (at * 4) 0 ≡ code W_new
      → PreNew R T s (get_or R (at * 4 + 1) 0) n.made
  pre_new p h = new_of p.node (new-declared p.node h)

  pub leaf_new : {s' : List ℕ} {r : Answer} → get_or R (at * 4) 0 ≡ code W_new
      → PostNew R T s s' (get_or R (at * 4 + 1) 0) n r → PostLeaf R T s l s' at q n r
  unfolding inside Encoded
  leaf_new h made = record {
    post = λ E A M. record {
      done = λ p F k z.
          let c = as_new (head p.e p.encoded) h in
          rw (c.1, ← (node_rows p c.1).row.first)
          (done_acts F k p.ready (made.acts (new_of p (new-declared p h)) F) z);
    };
  }

  pub pre_change : (x : ℕ) → PreLeaf R T s l at q n → get_or R (at * 4) 0 ≡ code R_change → IsWord x
      → PreChange R T s x (get_or R (at * 4 + 2) 0) n
  pre_change x p h i = record {
    new = new_of p.node (change-declared p.node h);
    is_word = i;
    counted = omega (arith, p.node.ready.counted);
  }

  pub change_missing : (o : Outcome) → get_or R (at * 4) 0 ≡ code R_change
      → PostRead l (get_or R (at * 4 + 1) 0) q o
      → ((v : Meaning) → o ≡ Gave v → ⊥) → PostLeaf R T s l s at q n (answer o n)
  unfolding inside Encoded bare
  change_missing o h read not = record {
    post = λ E A M. record {
      done = λ p F k z.
          let c = as_change (head p.e p.encoded) h in
          done_same o F k p.ready read.small z
          (rw (c.2, ← (node_rows p c.2).row.first)
          (go (world p.P) c.1 (at_slot (frame_of l q) (get_or R (at * 4 + 1) 0)) o
          (state p.P s l q n k) not
          (read.is (state p.P s l q n k))));
    };
  }
    where
      go : (W : _) (d : ℕ) (x : Option Meaning) (o : Outcome) (t : State) → ((v : Meaning) → o ≡ Gave v → ⊥)
          → told o t ≡ bare (need x t λ v. ok v t) → told o t ≡ bare (need x t λ v. do_change W d v t)
      go W d none o t not e = e
      go W d (some m) (Gave v) t not e = absurd (not v refl)
      go W d (some m) (Raised n) t not e = let z : ◌≡◌ {A = ℕ} 0 1 = cc in absurd (omega arith)
      go W d (some m) (Stopped n) t not e = let z : ◌≡◌ {A = ℕ} 0 1 = cc in absurd (omega arith)
      go W d (some m) Stuck t not e = let z : ◌≡◌ {A = ℕ} 0 1 = cc in absurd (omega arith)

  pub change_done : {s' : List ℕ} {r : Answer} (o : Outcome) (v : Meaning) → get_or R (at * 4) 0 ≡ code R_change
      → PostRead l (get_or R (at * 4 + 1) 0) q o → o ≡ Gave v
      → PostChange R T s s' v (get_or R (at * 4 + 2) 0) n r
      → PostLeaf R T s l s' at q n r
  unfolding inside Encoded
  change_done {s'} {r} o v h read g changed = record {
    post = λ E A M. record {
      done = λ p F k z.
          let P = p.P in
          let c = as_change (head p.e p.encoded) h in
          let enc = node_rows p c.2 in
          let i : ℕ = get_or R (at * 4 + 1) 0 in
          let there : at_slot (frame_of l q) i ≡ some v =
          holds_value (at_slot (frame_of l q) i) v (state P s l q n k)
          (rw g at (read.is (state P s l q n k))) in
          let there' : at_slot (frame_of l q) c.0 ≡ some v = rw enc.row.first at there in
          let a = done_acts F k p.ready (changed.acts (new_of p (change-declared p h))) z in
          rw c.2 (rw (there', ← enc.row.second) a);
    };
  }

pub leaf_rest : {R T s l : List ℕ} {at : ℕ} {q : Place} {n : Tally} → PreLeaf R T s l at q n
    → no_child (get_or R (at * 4) 0) ≡ true
    → (get_or R (at * 4) 0 ≡ code T_true → ⊥) → (get_or R (at * 4) 0 ≡ code L_false → ⊥)
    → (get_or R (at * 4) 0 ≡ code N_null → ⊥)
    → (get_or R (at * 4) 0 ≡ code I_slot → ⊥) → (get_or R (at * 4) 0 ≡ code W_new → ⊥)
    → get_or R (at * 4) 0 ≡ code R_change
leaf_rest p h a b c d e =
    let x = (head p.node.e p.node.encoded).letter in
    x ∙ rest_change p.node.e (rw x at h) (λ z. a (x ∙ z)) (λ z. b (x ∙ z)) (λ z. c (x ∙ z))
    (λ z. d (x ∙ z)) (λ z. e (x ∙ z))

-- a node with one child, once that has a value
module _ {R E T A M s l : List ℕ} {at : ℕ} {q : Place} {n : Tally} (p : PreEval R E T A M s l at q n) where
  abbrev object_at : PreObject T s n.made
  object_at = record { R = R; E = E; A = A; M = M; P = p.P; holding = p.ready.holding }

  abbrev cast_at : get_or R (at * 4) 0 ≡ code K_cast → PreCast A s (get_or R (at * 4 + 1) 0) n.made
  unfolding Encoded
  cast_at h =
      let c = as_cast (head p.e p.encoded) h in
      record {
        R = R;
        E = E;
        T = T;
        M = M;
        P = p.P;
        holding = p.ready.holding;
        declared = omega (arith, (node_rows p c.2).0.row.first, (node_parts p c.2).1);
      }

module _ {R T A s l : List ℕ} {at : ℕ} {q : Place} {n : Tally} {x : ℕ} where
  pub apply_row : PreApply R T A s l at q n x → at * 4 + 3 < length R
  apply_row p = (head p.node.e p.node.encoded).row

  pub apply_slots : PreApply R T A s l at q n x → Slots l q
  apply_slots p = record {
    room = omega (arith, p.node.ready.frame, p.node.ready.scoped, p.node.ready.above);
    words = p.node.ready.words;
  }

  pub pre_load : PreApply R T A s l at q n x → get_or R (at * 4) 0 ≡ code G_get
      → PreObject T s n.made × (get_or R (at * 4 + 1) 0 < 256)
  unfolding Encoded
  pre_load p h =
      let c = as_get (head p.node.e p.node.encoded) h in (
        object_at p.node,
        omega (
          arith,
          (node_rows p.node c.2).0.row.first,
          (node_parts p.node c.2).1,
        ),
      )

  pub pre_cast : PreApply R T A s l at q n x → get_or R (at * 4) 0 ≡ code K_cast
      → PreCast A s (get_or R (at * 4 + 1) 0) n.made
  pre_cast p h = cast_at p.node h

  pub apply_rest : PreApply R T A s l at q n x → (get_or R (at * 4) 0 ≡ code Z_is_null → ⊥)
      → (get_or R (at * 4) 0 ≡ code G_get → ⊥)
      → (get_or R (at * 4) 0 ≡ code K_cast → ⊥) → get_or R (at * 4) 0 ≡ code A_assign
  apply_rest p a b c =
      let x = (head p.node.e p.node.encoded).letter in
      x ∙ rest_assign p.node.e (rw x at p.letter) (λ z. a (x ∙ z)) (λ z. b (x ∙ z)) (λ z. c (x ∙ z))

module _ {R T A s l : List ℕ} {at : ℕ} {q : Place} {n : Tally} {v : Meaning} where
  pub apply_test : {r : Outcome} → get_or R (at * 4) 0 ≡ code Z_is_null → r ≡ null_tested v
      → PostApply R T A s l l at q n v r
  unfolding after bare
  apply_test h g = record {
    applied = λ E M p.
        let c = as_is_null (head p.e p.encoded) h in
        record {
          long = refl;
          same = λ i o. refl;
          words = p.ready.words;
          small = rw g (small v);
          is = λ k. rw (c.1, g) (test v (state p.P s l q n k));
        };
  }
    where
      small : (v : Meaning) → SmallOutcome (null_tested v)
      small null = omega arith
      small (truth b) = tt
      small (object j) = omega arith

      test : (v : Meaning) (t : State)
          → told (null_tested v) t ≡ bare (need_reference v t λ b. ok (truth b) t)
      test null t = refl
      test (truth b) t = refl
      test (object j) t = refl

  pub apply_get : (r : Outcome) → get_or R (at * 4) 0 ≡ code G_get → PostLoad T s v (get_or R (at * 4 + 1) 0) n r
      → PostApply R T A s l l at q n v r
  unfolding after Encoded
  apply_get r h loaded = record {
    applied = λ E M p.
        let c = as_get (head p.e p.encoded) h in
        let enc = node_rows p c.2 in
        let a = loaded.acts (object_at p) in
        record {
          long = refl;
          same = λ i o. refl;
          words = p.ready.words;
          small = a.small;
          is = λ k. rw (c.2, ← enc.0.row.first) (a.is (frame_of l q) k);
        };
  }

  pub apply_cast : (r : Outcome) → get_or R (at * 4) 0 ≡ code K_cast
      → PostCast A s v (get_or R (at * 4 + 1) 0) n r
      → PostApply R T A s l l at q n v r
  unfolding after Encoded
  apply_cast r h tested = record {
    applied = λ E M p.
        let c = as_cast (head p.e p.encoded) h in
        let enc = node_rows p c.2 in
        let a = tested.acts (cast_at p h) in
        record {
          long = refl;
          same = λ i o. refl;
          words = p.ready.words;
          small = a.small;
          is = λ k. rw (c.2, ← enc.0.row.first) (a.is (frame_of l q) k);
        };
  }

  pub apply_assign : {l' : List ℕ} {r : Outcome} → get_or R (at * 4) 0 ≡ code A_assign
      → PostWrite l l' (get_or R (at * 4 + 1) 0) v q r → PostApply R T A s l l' at q n v r
  unfolding after Encoded
  apply_assign h written = record {
    applied = λ E M p.
        let c = as_assign (head p.e p.encoded) h in
        let enc = node_rows p c.2 in
        record {
          long = written.long;
          same = λ i o. written.same i (far p i o);
          words = written.words;
          small = written.small;
          is = λ k. rw (c.2, ← enc.0.row.first) (written.is (state p.P s l q n k));
        };
  }
    where
      far : {E M : List ℕ} (p : PreEval R E T A M s l at q n) (i : ℕ)
          → (i < q.base) ⊎ (q.base + p.width ≤ i) → (i < q.base) ⊎ (q.base + q.scope < i)
      far p i (inl o) = inl o
      far p i (inr o) = inr (omega (arith, p.ready.scoped))

pub no_leaf : (k : ℕ) → (k ≡ code T_true → ⊥) → (k ≡ code L_false → ⊥) → (k ≡ code N_null → ⊥)
    → (k ≡ code I_slot → ⊥) → (k ≡ code W_new → ⊥)
    → (k ≡ code R_change → ⊥) → no_child k ≡ false
no_leaf k a b c d e f =
    rw (
      ne_eqb k (code T_true) a,
      ne_eqb k (code L_false) b,
      ne_eqb k (code N_null) c,
      ne_eqb k (code I_slot) d,
      ne_eqb k (code W_new) e,
      ne_eqb k (code R_change) f,
    )
