-- Demand 3 as the services return it: a program is run over a lent store, translated into a lent buffer, and its plain
-- rows are run over another store. All that the calls return and leave is told by equations with the definitions, and
-- what demand 3 says of those two runs is said again. The words are those of promises/specs/Endings.
use Rattle.std.specs.Prelude.{◌≡◌, ℕ, ◌+◌, ◌*◌, ◌≤◌, List, length}
use Rattle.language.specs.Limits.{plain_steps_a_step}
use Rattle.language.specs.Results.{Checked, accept, refuse}
use Rattle.language.specs.Filling.{held, buffer}
use Rattle.language.specs.Store.{capacity, refused, Ran, run_of}
use Rattle.language.specs.Translation.{translation}
use Rattle.promises.specs.Endings.{EndsProperly, EndAlikeOnStores}
use Rattle.promises.proofs.Demands.{most_source_fuel}
use Rattle.running.specs.Answers.{Answers, answer_told}
use Rattle.demands.specs.declared.Both.{Both}

-- The run of plain rows that were made, over a store; where they were refused, that refusal, and the store as it was.
abbrev pub run_of_plain : Checked (List ℕ) → ℕ → List ℕ → Ran
run_of_plain (accept out) fuel store = run_of out fuel store
run_of_plain (refuse number line) fuel store = record { answer = refused number line; store = store }

-- Rows R are run over the store s, which is s' after, and translated into the buffer O, which is O' after; the plain
-- rows are run over the store t, which is t' after. The answers are r.
pub record RunsBoth (R : List ℕ) (fuel plain-fuel : ℕ) (s s' O O' t t' : List ℕ) (r : Both) : Type 0 where
  -- The first answer and store are those of the run of the rows.
  pub source : Answers R fuel s s' r.source
  -- The buffer holds the plain rows and then what was there past them; it is as it was where there are none or they do
  -- not fit.
  pub rows : O' ≡ buffer (translation R) O
  -- The second answer and store are those of the run of the plain rows, or of the translator's refusal, room included.
  pub plain_answer : r.plain
      ≡ answer_told (run_of_plain (held (length O) (translation R)) plain-fuel t).answer
  pub plain_store : t' ≡ (run_of_plain (held (length O) (translation R)) plain-fuel t).store
  -- Where the source ended in a value, an exception or too deep a call, with n objects and k changes, and the second store
  -- has room for 2n + k objects, the plain rows ended alike, made exactly that many, and all objects match.
  pub forth : (out : List ℕ) → held (length O) (translation R) ≡ accept out
      → fuel ≤ most_source_fuel → plain-fuel ≡ plain_steps_a_step * fuel
      → (end : EndsProperly (run_of R fuel s)) → 2 * end.objects + end.changes ≤ capacity t
      → EndAlikeOnStores R out (run_of R fuel s) (run_of out plain-fuel t)
  -- Where the plain rows ended so, on the same fuel, and the first store has room for as many objects as they made, the
  -- source ended alike.
  pub back : (out : List ℕ) → held (length O) (translation R) ≡ accept out
      → plain-fuel ≡ fuel → (end : EndsProperly (run_of out plain-fuel t)) → end.objects ≤ capacity s
      → EndAlikeOnStores R out (run_of R fuel s) (run_of out plain-fuel t)
