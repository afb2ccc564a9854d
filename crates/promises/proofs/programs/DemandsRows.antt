-- Demand 3 over numbers: the runs of rows and of their plain rows, with fuel and lent stores, both ways.
use mathlib.Core.Path.{◌≡◌, refl, sym, ap, ◌∙◌, subst}
use Prim.Native.Nat.{ℕ, ◌+◌, ◌*◌, ◌≤◌}
use mathlib.Core.Bool.{Bool, true}
use mathlib.Core.List.{List, map}
use lib.ListN.{length}
use native.Mathlib.Omega.{arith}
use Rattle.language.specs.Limits.{most_fuel, plain_steps_a_step}
use Rattle.language.specs.Results.{ok, stop, accept}
use Rattle.language.specs.Rows.{row_of, numbers_of}
use Rattle.language.specs.Tree.{Program, flatten_program}
use Rattle.language.specs.Program.{world}
use Rattle.language.specs.Verdict.{check}
use Rattle.language.specs.State.{Value, Out}
use Rattle.language.specs.Evaluation.{with_limits, run}
use Rattle.language.specs.Translation.{plain_program, translation}
use Rattle.language.specs.Store.{capacity, Outcome, gave, ended, ran, Ran, finish, run_of}
use Rattle.language.specs.Correspondence.{EndAlike, both_give, same_exception, both_deep}
use Rattle.language.specs.WellFormed.{Each}
use Rattle.theory.proofs.lookups.LookupLaws.{well_formed_laws}
use Rattle.theory.proofs.lookups.TranslatorLookups.{well_formed_more}
use Rattle.theory.proofs.simulation.PlainSteps.{More}
use Rattle.language.specs.Lists.{nth_some}
use Rattle.language.specs.WellFormed.{RowsOf}
use Rattle.theory.proofs.acceptance.Acceptance.{check_accepts}
use Rattle.theory.proofs.soundness.Members.{accepted_run}
use Rattle.promises.proofs.programs.AcceptedTranslation.{plain_rows}
use Rattle.theory.proofs.acceptance.Translatable.{TranslatableRows, translation_takes, taken_laws}
use Rattle.theory.proofs.evaluation.LimitedRuns.{final, proper_stop, proper}
use Rattle.theory.proofs.simulation.LimitedSimulation.{outcome, EndsAlike}
use Rattle.theory.proofs.simulation.ProgramSimulation.{demand_3_run, demand_3_run_back}
use Rattle.theory.proofs.evaluation.StoreNumbers.{Shaped, stored_back, run_shaped}
use Rattle.promises.proofs.programs.RunsOfRows.{finish_answer, finish_store, ended_within_fuel}
use Rattle.promises.specs.Endings.{objects_in, Proper, a_value, an_exception, too_deep, EndsProperly}
use Rattle.promises.specs.Endings.{EndAlikeOnStores}

-- A run's result is proper exactly if its outcome is.
proper_result : (r : Out Value) → Proper (outcome r) → proper r ≡ true
proper_result r p = is r ∙ test p
  where
    tested : Outcome → Bool
    tested (gave v) = true
    tested (ended x) = proper_stop x

    test : {o : Outcome} → Proper o → tested o ≡ true
    test a_value = refl
    test an_exception = refl
    test too_deep = refl

    is : (r : Out Value) → proper r ≡ tested (outcome r)
    is (ok v s) = refl
    is (stop x s) = refl

-- Outcomes that are alike are proper.
proper_source : {ids : List ℕ} {o o' : Outcome} → EndAlike ids o o' → Proper o
proper_source (both_give c) = a_value
proper_source same_exception = an_exception
proper_source both_deep = too_deep

proper_plain : {ids : List ℕ} {o o' : Outcome} → EndAlike ids o o' → Proper o'
proper_plain (both_give c) = a_value
proper_plain same_exception = an_exception
proper_plain both_deep = too_deep

-- A finished run that ends properly.
abbrev ends : (r : Out Value) (store : List ℕ) → Proper (outcome r) → EndsProperly (finish r store)
ends r store p = record {
  outcome = outcome r;
  steps = (final r).steps;
  objects = length (final r).heap;
  changes = (final r).changes;
  answer = finish_answer r store;
  one_of = p;
}

-- What the end of a finished run says of its result.
record ResultOf (r : Out Value) {a : Ran} (e : EndsProperly a) : Type 0 where
  pub ends_properly : proper r ≡ true
  pub objects : length (final r).heap ≡ e.objects
  pub changes : (final r).changes ≡ e.changes

of_result : (r : Out Value) (store : List ℕ) {a : Ran} → a ≡ finish r store → (e : EndsProperly a)
    → ResultOf r e
of_result r store is e =
    let q : ran (outcome r) (final r).steps (length (final r).heap) (final r).changes
    ≡ ran e.outcome e.steps e.objects e.changes
    = sym (finish_answer r store) ∙ (sym (ap (λ (x : Ran). x.answer) is) ∙ e.answer) in
    let o : outcome r ≡ e.outcome = cc in
    record { ends_properly = proper_result r (subst Proper (sym o) e.one_of); objects = cc; changes = cc }

-- The objects in the store after a finished run of rows are those of its heap.
objects_back : (ns : List ℕ) (p : Program) → check ns ≡ accept p → (r : Out Value) (store : List ℕ)
    → Each (Shaped (world p.classes)) (final r).heap
    → objects_in ns (length (final r).heap) (finish r store).store ≡ (final r).heap
unfolding objects_in
objects_back ns p c r store shaped =
    rw (c, finish_store r store) (stored_back (world p.classes) (final r).heap shaped store)

-- Results that end alike, finished over stores, end alike there.
alike_on_stores : (ns out : List ℕ) (p p' : Program) → check ns ≡ accept p → check out ≡ accept p'
    → (r r' : Out Value) → Each (Shaped (world p.classes)) (final r).heap
    → Each (Shaped (world p'.classes)) (final r').heap → EndsAlike r r' → (store store' : List ℕ)
    → EndAlikeOnStores ns out (finish r store) (finish r' store')
alike_on_stores ns out p p' c c' r r' shaped shaped' a store store' =
    let back = objects_back ns p c r store shaped in
    let back' = objects_back out p' c' r' store' shaped' in
    record {
      source = ends r store (proper_source a.ends);
      plain = ends r' store' (proper_plain a.ends);
      alike = rw back' a.ends;
      objects = omega (arith, a.counts.objects);
      identities_made = rw back' a.stores.as_many;
      unchanged = a.counts.no_changes;
      steps_at_least = a.counts.at_least;
      steps_at_most = a.counts.at_most;
      each = λ j l. rw (back, back') (let x = nth_some (final r).heap j l in
          record { object = x.0; there = x.1; matches = a.stores.each j x.0 x.1 });
    }

-- What the translator asks of a program besides the check, for rows that it takes.
more : (ns : List ℕ) (p : Program) → TranslatableRows ns p → More (world p.classes)
more ns p t = let laws = taken_laws ns p t in record {
  declared_new = (well_formed_more p t.accepted.well).declared_new;
  unreserved = λ n c i e. (laws.unreserved n c i e).0;
  unique = (well_formed_more p t.accepted.well).unique;
  few = laws.few;
  short = laws.short;
}

-- Rows of a program that the translator takes, and accepted rows of its plain program.
module _ (ns out : List ℕ) (p : Program) (taken : TranslatableRows ns p) (rows : RowsOf out (plain_program p))
  where
    -- Results of the two runs that end alike, over stores.
    finished-alike : (F F' : ℕ) → F ≤ most_fuel → F' ≤ most_fuel → (S S' : List ℕ)
        → EndsAlike (run (with_limits F (capacity S)) p)
        (run (with_limits F' (capacity S')) (plain_program p))
        → EndAlikeOnStores ns out (run_of ns F S) (run_of out F' S')
    finished-alike F F' l l' S S' a =
        let L = with_limits F (capacity S) in
        let L' = with_limits F' (capacity S') in
        rw (accepted_run ns p taken.accepted F l S, accepted_run out (plain_program p) rows F' l' S')
        (alike_on_stores ns out p (plain_program p) ((check_accepts ns p).1 taken.accepted)
        ((check_accepts out (plain_program p)).1 rows) (run L p) (run L' (plain_program p))
        (run_shaped p taken.accepted.well L) (run_shaped (plain_program p) rows.well L') a S S')

    -- From the source run to the plain run.
    forward : (F F' : ℕ) → plain_steps_a_step * F ≤ F' → F' ≤ most_fuel
        → (S : List ℕ) (e : EndsProperly (run_of ns F S))
        → (S' : List ℕ) → 2 * e.objects + e.changes ≤ capacity S'
        → EndAlikeOnStores ns out (run_of ns F S) (run_of out F' S')
    forward F F' f l S e S' room =
        let l₀ : F ≤ most_fuel = omega (arith, f, l) in
        let r = run (with_limits F (capacity S)) p in
        let o = of_result r S (accepted_run ns p taken.accepted F l₀ S) e in
        finished-alike F F' l₀ l S S'
        (demand_3_run p taken.accepted.well (well_formed_laws p taken.accepted.well) (more ns p taken)
        F F' (capacity S) (capacity S') f o.ends_properly (omega (arith, room, o.objects, o.changes)))

    -- From the plain run to the source run.
    backward : (F : ℕ) (S' : List ℕ) (e : EndsProperly (run_of out F S')) → (S : List ℕ)
        → e.objects ≤ capacity S
        → EndAlikeOnStores ns out (run_of ns F S) (run_of out F S')
    backward F S' e S room =
        let l = ended_within_fuel out F S' e.answer in
        let r' = run (with_limits F (capacity S')) (plain_program p) in
        let o = of_result r' S' (accepted_run out (plain_program p) rows F l S') e in
        finished-alike F F l l S S'
        (demand_3_run_back p taken.accepted.well (well_formed_laws p taken.accepted.well)
        (more ns p taken)
        F (capacity S) (capacity S') o.ends_properly (omega (arith, room, o.objects)))

-- The plain rows of a program that the translator takes are accepted rows of its plain program.
plain_rows_of : (ns out : List ℕ) (p : Program) → TranslatableRows ns p
    → out ≡ numbers_of (map row_of (flatten_program (plain_program p))) → RowsOf out (plain_program p)
plain_rows_of ns out p t e = subst (λ (l : List ℕ). RowsOf l (plain_program p)) (sym e) (plain_rows ns p t)

-- A run of rows that the translator takes, with fuel F and a store of any numbers, that ends in a value, an
-- exception or 15, with n objects made and r changes of class: the run of their plain rows with fuel 84·F or
-- more and any store with room for 2n + r objects ends alike.
pub runs_alike : (ns out : List ℕ) → translation ns ≡ accept out
    → (F F' : ℕ) → plain_steps_a_step * F ≤ F' → F' ≤ most_fuel
    → (S : List ℕ) (e : EndsProperly (run_of ns F S)) → (S' : List ℕ)
    → 2 * e.objects + e.changes ≤ capacity S'
    → EndAlikeOnStores ns out (run_of ns F S) (run_of out F' S')
runs_alike ns out t = let x = translation_takes ns out t in
    forward ns out x.0 x.1 (plain_rows_of ns out x.0 x.1 x.2)

-- A run of the plain rows, with any fuel and any store, that ends in one of those ways: the run of the rows
-- with the same fuel and any store with room for as many objects as the plain run made ends alike.
pub runs_alike_back : (ns out : List ℕ) → translation ns ≡ accept out → (F : ℕ) (S' : List ℕ)
    → (e : EndsProperly (run_of out F S')) → (S : List ℕ) → e.objects ≤ capacity S
    → EndAlikeOnStores ns out (run_of ns F S) (run_of out F S')
runs_alike_back ns out t = let x = translation_takes ns out t in
    backward ns out x.0 x.1 (plain_rows_of ns out x.0 x.1 x.2)
