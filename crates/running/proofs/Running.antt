-- From the check to the run: what each answer tells of the run of the rows. Assumes nothing.
use mathlib.Core.Path.{◌≡◌, sym, ap, ◌∙◌}
use mathlib.Core.List.{List}
use Prim.Native.Nat.{ℕ, ◌%◌, ◌≤◌, ◌<◌}
use borrow.Author.Tests.{eq-eqb, ne_eqb, le-leb, lt-leb}
use lib.ListN.{length}
use Rattle.language.specs.Limits.{most_fuel}
use Rattle.language.specs.Results as results
use Rattle.language.specs.Results.{refuse, accept, require}
use Rattle.language.specs.Tree.{Program}
use Rattle.language.specs.Verdict.{whole_rows, check}
use Rattle.language.specs.Store as store
use Rattle.language.specs.Store.{runnable, run_checked, run_of}
use Rattle.std.specs.Prelude.{Ok, Err}
use Rattle.language.specs.Refusals.{refusal}
use Rattle.language.specs.declared.Refusal.{Refusal}
use Rattle.passes.specs.Answers.{checked_case}
use Rattle.passes.specs.Passes.{Checks}
use Rattle.passes.proofs.Passing.{checked_accepted, checked_refused}
use Rattle.machine.specs.declared.Run.{Run}
use Rattle.machine.specs.Runs.{PreChecked, PostChecked, Tells}
use Rattle.machine.proofs.Checked.{tells_run_of}
use Rattle.running.specs.Answers.{answer_told, Answers}

module _ (R s : List ℕ) (fuel : ℕ) where
  -- What is not runnable is refused, and changes nothing.
  pub refuses : (r : Refusal) → runnable R fuel ≡ refuse r.number r.line → Answers R fuel s s (Err r)
  unfolding run_of
  refuses r e =
      let z : run_of R fuel s ≡ record { answer = store.refused r.number r.line; store = s } =
      ap (λ (c : results.Checked Program). run_checked c fuel s) e in
      record {
        answer = ap (λ (x : store.Ran). answer_told x.answer) (sym z);
        store = ap (λ (x : store.Ran). x.store) (sym z);
      }

  pub uneven : (length R % 4 ≡ 0 → ⊥) → Answers R fuel s s (Err (refusal 1 0))
  unfolding runnable whole_rows require
  uneven u = refuses (refusal 1 0) (go u)
    where
      go : (length R % 4 ≡ 0 → ⊥) → runnable R fuel ≡ refuse 1 0
      go u = rw (ne_eqb (length R % 4) 0 u)

  pub over : length R % 4 ≡ 0 → most_fuel < fuel → Answers R fuel s s (Err (refusal 2 0))
  unfolding runnable whole_rows require
  over w o = refuses (refusal 2 0) (go w o)
    where
      go : length R % 4 ≡ 0 → most_fuel < fuel → runnable R fuel ≡ refuse 2 0
      go w o = rw (eq-eqb (length R % 4) 0 w, lt-leb fuel most_fuel o)

  -- Within the fuel limit the check says whether the rows are run.
  runnable_is : fuel ≤ most_fuel → runnable R fuel ≡ check R
  unfolding runnable check whole_rows require
  runnable_is l = rw (le-leb fuel most_fuel l)

  -- What the check refuses is refused.
  pub check_refuses : {r : Refusal} → fuel ≤ most_fuel → check R ≡ refuse r.number r.line → Answers R fuel s s (Err r)
  check_refuses {r} few e = refuses r (runnable_is few ∙ e)

  pub not_accepted : {r : Refusal} → fuel ≤ most_fuel → Err r ≡ checked_case (check R) → Answers R fuel s s (Err r)
  not_accepted {r} few e = check_refuses few (checked_refused (check R) r e)

-- Rows that the check accepted, with the tables that it filled.
module _ {R E T A M C : List ℕ} {n : ℕ} (f : Checks R E T A M C (Ok n)) where
  pub accepted : (p : Program) × (check R ≡ accept p)
  accepted = checked_accepted (check R) n f.answer

  abbrev pub checked : PreChecked R E T A M
  checked = let h = f.holds accepted.0 accepted.1 in
      record { F = h.0; C = C; p = accepted.0; held = h.1 }

  pub answers : {s s' : List ℕ} {fuel : ℕ} {r : Run} → fuel ≤ most_fuel → PostChecked R E T A M s s' fuel r
      → Answers R fuel s s' (Ok r)
  answers {s} {s'} {fuel} {r} few d =
      let t = tells_run_of R s s' accepted.0 fuel r accepted.1 few (d.tells checked) in
      record { answer = told t; store = ap (λ (y : store.Ran). y.store) (sym t.is) }
    where
      told : Tells (run_of R fuel s) s' r → Ok r ≡ answer_told (run_of R fuel s).answer
      told t =
          ap (λ o. Ok (record { outcome = o; steps = r.steps; objects = r.objects; changes = r.changes }))
          t.told
          ∙ ap (λ (y : store.Ran). answer_told y.answer) (sym t.is)
