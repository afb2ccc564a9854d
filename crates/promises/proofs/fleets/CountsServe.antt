-- A run has counts exactly if it serves.
use mathlib.Core.Path.{◌≡◌, refl, sym, ap, ◌∙◌, subst}
use mathlib.Core.Logic.{◌↔◌, ◌⊎◌, inl, inr, ◌≢◌}
use Prim.Native.Nat.{ℕ, zero, suc, ◌+◌, ◌*◌, ◌/◌, ◌≤◌, ◌<◌}
use mathlib.Core.Bool.{Bool, true, false, ◌&&◌, not}
use mathlib.Core.Option.{Option, none, some}
use mathlib.Core.List.{List, [], ◌∷◌}
use lib.ListN.{length, get_or, drop}
use lib.Seq.{get_or-drop}
use lib.Dec.{eqb, leb, ltb}
use borrow.Author.Tests.{leb-true, ltb-true, eqb-false, le-leb, lt-ltb, ne_eqb}
use native.Mathlib.Omega.{arith}
use Rattle.language.specs.Limits.{object_class, object_width}
use Rattle.language.specs.Lists.{nth, nth_lt, Never, inj, choice}
use Rattle.language.specs.Results.{Checked, accept, refuse}
use Rattle.language.specs.Tree.{Class, Program}
use Rattle.language.specs.World.{World}
use Rattle.language.specs.Program.{world, world_with}
use Rattle.language.specs.Verdict.{check}
use Rattle.language.proofs.Booleans.{and_inv, not_true}
use Rattle.theory.proofs.lookups.LookupLaws.{below_is_subclass}
use Rattle.theory.proofs.acceptance.Acceptance.{check_accepts}
use Rattle.fleet.specs.Counts.{Counts, is_declared, relates, knows_all, count_below, classes_in}
use Rattle.fleet.specs.Counts.{holds_objects, labels_checked, run_counts}
use Rattle.promises.specs.Labels.{ended_in, IsDeclared, Serves}

-- For n objects there are n classes, and the j-th is the one that object j ended in.
pub classes_length : (n : ℕ) (store : List ℕ) → length (classes_in n store) ≡ n
unfolding classes_in
classes_length zero store = refl
classes_length (suc n) store = ap suc (classes_length n (drop object_width store))

pub class_ended_in : (n : ℕ) (store : List ℕ) (j : ℕ) → j < n
    → nth (classes_in n store) j ≡ some (ended_in store j)
unfolding classes_in nth
class_ended_in zero store j l = absurd (omega (arith, l))
class_ended_in (suc n) store zero l = refl
class_ended_in (suc n) store (suc j) l = class_ended_in n (drop object_width store) j (omega (arith, l))
    ∙ ap some (get_or-drop object_width store (object_width * j) 0
    ∙ ap (λ (k : ℕ). get_or store k 0) at)
  where
    at : object_width + object_width * j ≡ object_width * suc j
    at = omega arith

-- Two tests that hold hold together.
both_true : {a b : Bool} → a ≡ true → b ≡ true → (a && b) ≡ true
both_true e f = rw (e, f)

-- A choice that gives something, where its other arm gives nothing.
chosen : {A : Type 0} (b : Bool) {x : Option A} {a : A} → choice b (λ _. x) (λ _. none) ≡ some a
    → (b ≡ true) × (x ≡ some a)
chosen true e = (refl, e)
chosen false e = absurd (Never e)

-- A program knows all of these classes exactly if none is above its last.
knows_each : (W : World) (cs : List ℕ) → knows_all W cs ≡ true
    → (j c : ℕ) → nth cs j ≡ some c → c ≤ W.count
unfolding knows_all nth
knows_each W [] e j c q = absurd (Never q)
knows_each W (b ∷ cs) e zero c q =
    rw (← inj q) (leb-true b W.count (and_inv (leb b W.count) (knows_all W cs) e).0)
knows_each W (b ∷ cs) e (suc j) c q =
    knows_each W cs (and_inv (leb b W.count) (knows_all W cs) e).1 j c q

each_known : (W : World) (cs : List ℕ) → ((j c : ℕ) → nth cs j ≡ some c → c ≤ W.count)
    → knows_all W cs ≡ true
unfolding knows_all nth
each_known W [] f = refl
each_known W (b ∷ cs) f =
    both_true (le-leb b W.count (f 0 b refl)) (each_known W cs (λ j c q. f (suc j) c q))

-- A class that the program knows is declared or Object, and one test tells which.
declared_test : (P : List Class) (c : ℕ) → (is_declared (world P) c ≡ true) ↔ IsDeclared P c
unfolding world world_with
declared_test P c = (
  (λ e. let x = and_inv (ltb object_class c) (leb c (length P)) e in
      let later = ltb-true object_class c x.0 in
      record { not_object = omega (arith, later); within = leb-true c (length P) x.1 }),
  (λ d. both_true (lt-ltb object_class c (omega (arith, d.not_object))) (le-leb c (length P) d.within)),
)

declared_or_object : (P : List Class) (c : ℕ) → c ≤ length P → (c ≡ object_class) ⊎ IsDeclared P c
declared_or_object P zero l = inl refl
declared_or_object P (suc c) l = inr (record { not_object = omega arith; within = l })

within_count : (P : List Class) (c : ℕ) → (c ≡ object_class) ⊎ IsDeclared P c → c ≤ length P
within_count P c (inl e) = omega (arith, e)
within_count P c (inr d) = d.within

-- The test of two classes holds where both are declared and spoiled is strictly below printed.
related : (P : List Class) (printed spoiled : ℕ) → IsDeclared P printed → IsDeclared P spoiled
    → spoiled ≢ printed → (world P).below spoiled printed ≡ true
    → relates (world P) printed spoiled ≡ true
related P printed spoiled d d' n b =
    both_true ((declared_test P printed).1 d) (both_true ((declared_test P spoiled).1 d')
    (both_true (ap not (ne_eqb spoiled printed n)) b))

-- The labels among the first n objects of a store.
abbrev pub labels_in : Program → List ℕ → ℕ → ℕ → ℕ → Counts
labels_in p store n printed spoiled = record {
  printed = count_below (world p.classes) printed (classes_in n store);
  spoiled = count_below (world p.classes) spoiled (classes_in n store);
}

-- A run that serves is counted.
pub counted : (rows store : List ℕ) (n printed spoiled : ℕ) (s : Serves rows store n printed spoiled)
    → run_counts rows store n printed spoiled ≡ some (labels_in s.program store n printed spoiled)
unfolding run_counts world world_with
counted rows store n printed spoiled s =
    let p = s.program in
    let W = world p.classes in
    let cs = classes_in n store in
    let below = (below_is_subclass p s.rows_of_it.well spoiled printed).1 s.below in
    let serves : (relates W printed spoiled && knows_all W cs) ≡ true = both_true
    (related p.classes printed spoiled s.printed_declared s.spoiled_declared s.strictly below)
    (each_known W cs λ j c q.
    let l : j < n = omega (arith, nth_lt cs j c q, classes_length n store) in
    let e : ended_in store j ≡ c = inj (sym (class_ended_in n store j l) ∙ q) in
    subst (λ (c : ℕ). c ≤ length p.classes) e
    (within_count p.classes (ended_in store j) (s.known j l))) in
    rw (
      le-leb n (length store / object_width) (omega (arith, s.held)),
      (check_accepts rows p).1 s.rows_of_it,
      serves,
    )

-- A run that is counted serves.
pub counted_serves : (rows store : List ℕ) (n printed spoiled : ℕ) (c : Counts)
    → run_counts rows store n printed spoiled ≡ some c → Serves rows store n printed spoiled
unfolding run_counts world world_with
counted_serves rows store n printed spoiled c e =
    let x = chosen (holds_objects n store) e in go (check rows) refl x.1 (leb-true n _ x.0)
  where
    go : (r : Checked Program) → check rows ≡ r
        → labels_checked r printed spoiled (classes_in n store) ≡ some c
        → n ≤ length store / object_width → Serves rows store n printed spoiled
    go (refuse m l) q e h = absurd (Never e)
    go (accept p) q e h =
        let W = world p.classes in
        let cs = classes_in n store in
        let rows_of_it = (check_accepts rows p).0 q in
        let all = and_inv (relates W printed spoiled) (knows_all W cs) (chosen _ e).0 in
        let x = and_inv (is_declared W printed) _ all.0 in
        let y = and_inv (is_declared W spoiled) _ x.1 in
        let z = and_inv (not (eqb spoiled printed)) _ y.1 in
        record {
          program = p;
          rows_of_it = rows_of_it;
          printed_declared = (declared_test p.classes printed).0 x.0;
          spoiled_declared = (declared_test p.classes spoiled).0 y.0;
          below = (below_is_subclass p rows_of_it.well spoiled printed).0 z.1;
          strictly = eqb-false spoiled printed (not_true _ z.0);
          held = omega (arith, h);
          known = λ j l. declared_or_object p.classes (ended_in store j)
              (knows_each W cs all.1 j (ended_in store j) (class_ended_in n store j l));
        }

-- A run is counted exactly if it serves.
pub counted_if_serves : (rows store : List ℕ) (n printed spoiled : ℕ)
    → ((c : Counts) × (run_counts rows store n printed spoiled ≡ some c))
    ↔ Serves rows store n printed spoiled
counted_if_serves rows store n printed spoiled = (
  (λ x. counted_serves rows store n printed spoiled x.0 x.1),
  (λ s. (_, counted rows store n printed spoiled s)),
)
