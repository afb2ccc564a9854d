-- The run of the start block, and the store at its end. Assumes nothing.
use mathlib.Core.Path.{◌≡◌, refl, sym, ap, ap₂, ◌∙◌}
use mathlib.Core.List.{List, [], ◌∷◌, ◌++◌, map}
use Prim.Native.Nat.{ℕ, zero, suc, ◌+◌, ◌-◌, ◌*◌, ◌≤◌, ◌<◌}
use native.Mathlib.Omega.{arith}
use lib.ListN.{length, get_or, take, drop, replicate, take-append-drop, length-map, length-drop}
use lib.ListN.{length-replicate, get_or-replicate}
use lib.Seq.{drop-drop, take-add, ext_get_or, get_or-drop, get_or-take, length-take-le}
use Rattle.language.specs.Limits.{object_width}
use Rattle.language.specs.Results.{ok, stop}
use Rattle.language.specs.Tree.{Class, Program}
use Rattle.language.specs.World.{World}
use Rattle.language.specs.Program.{world}
use Rattle.language.specs.State.{Value as Meaning, State, Out}
use Rattle.language.specs.Evaluation.{with_limits, run}
use Rattle.language.specs.Store.{value_number, value_of_number, heap_of_numbers, heap_numbers, object_numbers}
use Rattle.language.specs.Store.{capacity, stored, finish, finished, ran}
use Rattle.objects.specs.declared.Tally.{Tally}
use Rattle.objects.specs.Values.{Outcome, Gave, Raised, Stopped, Stuck, Answer, outcome}
use Rattle.objects.specs.Values.{told, bare, answered, SmallOutcome}
use Rattle.frames.specs.declared.Place.{Place}
use Rattle.frames.specs.Places.{state, frame_of, slots_of}
use Rattle.objects.specs.Holding.{Holding, Sound}
use Rattle.objects.proofs.Holding.{fields_few}
use Rattle.layout.specs.HeldLaws.{start_typed}
use Rattle.frames.specs.Nodes.{PreEval}
use Rattle.evaluator.specs.Evaluator.{PostEval}
use Rattle.machine.specs.Runs.{PreRun, PostRun, end_told, outcome_of}
use Rattle.machine.specs.declared.End.{End}
use Rattle.frames.specs.Nodes.{evaluated}
use Rattle.objects.proofs.Values.{value_number_of}
use Rattle.objects.proofs.Objects.{heap_length}
use mathlib.Core.Logic.{inl}
use Rattle.layout.specs.NodeForms.{body_within}
use Rattle.evaluator.proofs.Steps.{kept_of}

-- ---- the store at the end

numbers_back : (l : List ℕ) → map value_number (map value_of_number l) ≡ l
numbers_back [] = refl
numbers_back (x ∷ l) = ap₂ (λ (y : ℕ) (z : List ℕ). y ∷ z) (value_number_of x) (numbers_back l)

zeros_at : (s : List ℕ) (from n : ℕ) → from + n ≤ length s → ((i : ℕ) → i < n → get_or s (from + i) 0 ≡ 0)
    → replicate n 0 ≡ take n (drop from s)
zeros_at s from n h z =
    ext_get_or 0 (replicate n 0) (take n (drop from s))
    (length-replicate n 0 ∙ sym (length-take-le n (drop from s) (simp length-drop (omega arith))))
    (λ i l. let k : i < n = omega (arith, length-replicate {A = ℕ} n 0) in get_or-replicate n i 0 0 k
    ∙ sym (get_or-take n (drop from s) i 0 k ∙ (get_or-drop from s i 0 ∙ z i k)))

object_back : (W : World) (s : List ℕ) → object_width ≤ length s → length (W.fields (get_or s 0 0)) ≤ 17
    → ((i : ℕ) → length (W.fields (get_or s 0 0)) ≤ i → i < object_width - 1 → get_or s (1 + i) 0 ≡ 0)
    → object_numbers (record {
      class_of = get_or s 0 0;
      fields = map value_of_number
          (take (length (W.fields (get_or s 0 0))) (drop 1 s));
    }) ≡ take object_width s
object_back W s h few z =
    let m : ℕ = length (W.fields (get_or s 0 0)) in
    let n : length (map value_of_number (take m (drop 1 s))) ≡ m =
    length-map (take m (drop 1 s)) value_of_number
    ∙ length-take-le m (drop 1 s) (simp length-drop (omega arith)) in
    let a : object_width ≡ 1 + (m + (object_width - 1 - m)) = omega arith in
    let b : 1 + m ≡ m + 1 = omega arith in
    let rest : replicate (object_width - 1 - m) 0 ≡ take (object_width - 1 - m) (drop m (drop 1 s)) =
    zeros_at s (1 + m) (object_width - 1 - m) (omega arith)
    (λ i l. let y : 1 + m + i ≡ 1 + (m + i) = omega arith in rw y (z (m + i) (omega arith) (omega arith)))
    ∙ sym (ap (take (object_width - 1 - m)) (drop-drop m 1 s)) in
    ap (λ (k : ℕ). get_or s 0 0 ∷ (map value_number (map value_of_number (take m (drop 1 s))) ++ replicate
    (object_width - 1 - k) 0)) n
    ∙ (ap₂ (λ (x y : List ℕ). get_or s 0 0 ∷ (x ++ y)) (numbers_back (take m (drop 1 s)))
    rest
    ∙ sym (ap (λ (k : ℕ). take k s) a
    ∙ (first s (m + (object_width - 1 - m)) (omega arith)
    ∙ ap (λ (x : List ℕ). get_or s 0 0 ∷ x) (take-add m (object_width - 1 - m) (drop 1 s)))))
  where
    first : (s : List ℕ) (n : ℕ) → 0 < length s → take (1 + n) s ≡ get_or s 0 0 ∷ take n (drop 1 s)
    first [] n h = absurd (omega arith)
    first (x ∷ s) n h = let e : 1 + n ≡ suc n = omega arith in rw e

heap_back : (W : World) (n : ℕ) (s : List ℕ) → n * object_width ≤ length s
    → ((j : ℕ) → j < n → length (W.fields (get_or s (j * object_width) 0)) ≤ 17)
    → ((j i : ℕ) → j < n → length (W.fields (get_or s (j * object_width) 0)) ≤ i → i < object_width - 1
    → get_or s (j * object_width + 1 + i) 0 ≡ 0)
    → heap_numbers (heap_of_numbers W n s) ≡ take (n * object_width) s
unfolding heap_of_numbers heap_numbers
heap_back W zero s h few z = refl
heap_back W (suc n) s h few z =
    let e : suc n * object_width ≡ object_width + n * object_width = omega arith in
    ap₂ (λ (x y : List ℕ). x ++ y)
    (object_back W s (omega arith) (few 0 (omega arith)) (λ i a b. z 0 i (omega arith) a b))
    (heap_back W n (drop object_width s) (simp length-drop (omega arith))
    (λ j l. rw (at j) (few (suc j) (omega arith)))
    (λ j i l a b. at' j i ∙ z (suc j) i (omega arith) (rw (at j) at a) b))
    ∙ sym (ap (λ (k : ℕ). take k s) e ∙ take-add object_width (n * object_width) s)
  where
    at : (j : ℕ) → get_or (drop object_width s) (j * object_width) 0 ≡ get_or s (suc j * object_width) 0
    at j = get_or-drop object_width s (j * object_width) 0 ∙ ap (λ (k : ℕ). get_or s k 0) (omega arith)

    at' : (j i : ℕ) → get_or (drop object_width s) (j * object_width + 1 + i) 0 ≡ get_or s
        (suc j * object_width + 1 + i) 0
    at' j i = get_or-drop object_width s (j * object_width + 1 + i) 0 ∙ ap (λ (k : ℕ). get_or s k 0) (omega arith)

stored_back : {R E T A M s₀ : List ℕ} {P : List Class} {made₀ : ℕ} → Holding R E T A M s₀ P made₀
    → (s s' : List ℕ) (made : ℕ) → Sound P made s'
    → drop (made * object_width) s' ≡ drop (made * object_width) s
    → stored (heap_of_numbers (world P) made s') s ≡ s'
unfolding stored
stored_back {P = P} h s s' made snd rest =
    let e : object_width * made ≡ made * object_width = omega arith in
    ap₂ (λ (x : List ℕ) (k : ℕ). x ++ drop (object_width * k) s)
    (heap_back (world P) made s' snd.stored (λ j l. fields_few h (get_or s' (j * object_width) 0))
    snd.unused) (heap_length (world P) made s')
    ∙ (ap (λ (k : ℕ). take (made * object_width) s' ++ drop k s) e
    ∙ (ap (λ (x : List ℕ). take (made * object_width) s' ++ x) (sym rest)
    ∙ take-append-drop (made * object_width) s'))

-- ---- the run

finish_bare : (x : Out Meaning) (s : List ℕ) → finish x s ≡ finish (bare x) s
unfolding bare
finish_bare (ok v t) s = refl
finish_bare (stop y t) s = refl

finish_told : (o : Outcome) (t : State) (s : List ℕ) → finish (told o t) s ≡ finished (outcome_of o) t s
finish_told (Gave v) t s = refl
finish_told (Raised n) t s = refl
finish_told (Stopped n) t s = refl
finish_told Stuck t s = refl

abbrev pub first_place : Place
first_place = record { base = 0; scope = 0; top = 264; calls = 0 }

abbrev pub first_counts : ℕ → Tally
first_counts fuel = record { left = fuel; made = 0; changes = 0 }

-- Before the run the store holds no objects.
pub none_made : (P : List Class) (s : List ℕ) → Sound P 0 s
none_made P s = record {
  stored = omega arith;
  few = omega arith;
  declared = λ j h. absurd (omega arith);
  unused = λ j i h. absurd (omega arith);
}

abbrev pub start_pre : {R E T A M s l : List ℕ} {at fuel : ℕ} → PreRun R E T A M l at → fuel ≤ 4294967295
    → PreEval R E T A M s l at first_place (first_counts fuel)
start_pre {s = s} w low =
    let c = w.checked in
    let t = start_typed c.held in
    record {
      P = c.p.classes;
      e = c.p.start;
      width = 264;
      d = 128;
      ready = record {
        holding = record {
          F = c.F;
          C = c.C;
          start = c.p.start;
          held = c.held;
          sound = none_made c.p.classes s;
        };
        frame = omega arith;
        scoped = omega arith;
        whole = w.segment.whole;
        above = omega (arith, w.segment.whole);
        words = w.segment.words;
        active = omega arith;
        counted = omega arith;
      };
      encoded = rw w.start c.held.headed.here.start;
      proper = record {
        in_form = body_within 264 128 1 c.p.start c.held.headed.here.in_form.start
            (inl (omega arith))
            (inl (omega arith));
        typed = record { before = _; type = t.0; after = t.1; effect = t.2; has = t.3 };
      };
    }

run_is : (P : List Class) (s l : List ℕ) (fuel : ℕ) (p : Program) → P ≡ p.classes
    → evaluated P fuel (capacity s) 0 p.start (state P s l first_place (first_counts fuel) 0)
    ≡ run (with_limits fuel (capacity s)) p
unfolding frame_of slots_of heap_of_numbers run
run_is P s l fuel p e = rw e

pub start_falls : {R E T A M s l s' l' : List ℕ} {at fuel : ℕ} {r : Answer} (p : PreRun R E T A M l at)
    → fuel ≤ 4294967295 → PostEval R E T A M s l s' l' at first_place (first_counts fuel) r
    → r.counts.left ≤ fuel
start_falls p low g = (kept_of (start_pre p low) g).falls

pub start_small : {R E T A M s l s' l' : List ℕ} {at fuel : ℕ} {r : Answer} (p : PreRun R E T A M l at)
    → fuel ≤ 4294967295 → PostEval R E T A M s l s' l' at first_place (first_counts fuel) r
    → SmallOutcome r.outcome
start_small p low g = (kept_of (start_pre p low) g).small

pub run_done : {R E T A M s l s' l' : List ℕ} {at fuel : ℕ} (o : ℕ) (n : Tally) (e : End) → fuel ≤ 4294967295
    → PostEval R E T A M s l s' l' at first_place (first_counts fuel) (answered o n)
    → e ≡ end_told (outcome_of (outcome o))
    → PostRun R E T A M s l s' at fuel
    (record { outcome = e; steps = fuel - n.left; objects = n.made; changes = n.changes })
run_done {s = s} {l} {s'} {l'} {fuel = fuel} o n e low g tells = record {
  tells = λ w.
      let p = w.checked.p in
      let pre = start_pre w low in
      let d = g.done pre fuel 0 (omega arith) in
      let st : State = state p.classes s' l' first_place n (fuel - n.left) in
      let whole : finish (run (with_limits fuel (capacity s)) p) s ≡ finished (outcome_of (outcome o)) st s
      = ap (λ (x : Out Meaning). finish x s) (sym (run_is p.classes s l fuel p refl))
      ∙ (finish_bare (evaluated p.classes fuel (capacity s) 0 p.start
      (state p.classes s l first_place (first_counts fuel) 0)) s
      ∙ (ap (λ (x : Out Meaning). finish x s) (sym d.is) ∙ finish_told (outcome o) st s)) in
      record {
        outcome = outcome_of (outcome o);
        is = whole ∙ ap₂ (λ (k : ℕ) (y : List ℕ).
            record { answer = ran (outcome_of (outcome o)) (fuel - n.left) k n.changes; store = y })
            (heap_length (world p.classes) n.made s')
            (stored_back pre.ready.holding s s' n.made d.kept.stored.sound d.kept.stored.rest);
        told = tells;
      };
}
