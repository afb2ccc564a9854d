-- Labels counted object by object, as the code counts them: what each object of a store says of a label, and both counts
-- with one more object. The store of a run and a plain store are counted in the same way; the results are those that
-- Counts, in fleet, defines.
use Rattle.std.specs.Prelude.{Bool, true, false, cond, List, ℕ, zero, suc, ◌+◌, ◌-◌, eqb, leb, get_or, drop}
use Rattle.std.specs.Prelude.{Option as Found, Some, None}
use Rattle.std.proofs.Math.Option.{Option, none, some}
use Rattle.language.specs.Limits.{object_width, object_class, identity_class, fickle_class}
use Rattle.language.specs.Lists.{choice, bind_option}
use Rattle.language.specs.World.{World}
use Rattle.fleet.specs.declared.Labels.{Labels}
use Rattle.fleet.specs.Counts.{labels}
use Rattle.fleet.specs.Counts.{Counts, is_made, class_of_value, run_counts, counts_through}
use Rattle.counting.specs.declared.Ended.{Ended}
use Rattle.counting.specs.declared.Ended.TheVariants.{In, NoLabel, Lost}

abbrev pub counted : ℕ → ℕ → Counts
counted p s = record { printed = p; spoiled = s }

-- The labels as the code has them.
abbrev pub labels_told : Option Counts → Found Labels
labels_told none = None
labels_told (some c) = Some (labels c.printed c.spoiled)

-- The class of the object that a value is, among the first n objects of a store; Object where it is none of them.
abbrev pub class_made : ℕ → List ℕ → ℕ → ℕ
class_made n store v = choice (is_made n store v) (λ _. class_of_value n store v) (λ _. object_class)

-- What an object of a class in a plain store says as an implementor.
abbrev pub implementor_ended : ℕ → Ended
implementor_ended c = choice (leb fickle_class c) (λ _. In (c - fickle_class)) (λ _. Lost)

-- What the first object of the rest of a store says; the store is that of a run, or a plain one.
abbrev pub ended_at : Bool → ℕ → List ℕ → List ℕ → Ended
ended_at false n store rest = In (get_or rest 0 0)
ended_at true n store rest = choice (eqb (get_or rest 0 0) identity_class)
    (λ _. implementor_ended (class_made n store (get_or rest 1 0)))
    (λ _. NoLabel)

module _ (W : World) (printed spoiled : ℕ) where
  -- The counts p and s with what one more object says; none where the program lacks its class.
  abbrev pub added : ℕ → ℕ → Ended → Option Counts
  added p s (In c) = choice (leb c W.count)
      (λ _. some (counted (cond (W.below c printed) (p + 1) p) (cond (W.below c spoiled) (s + 1) s)))
      (λ _. none)
  added p s NoLabel = some (counted p s)
  added p s Lost = none

  -- The counts p and s with what the next k objects say.
  unfoldable pub labels_next : Bool → ℕ → List ℕ → ℕ → List ℕ → ℕ → ℕ → Option Counts
  labels_next plain n store zero rest p s = some (counted p s)
  labels_next plain n store (suc k) rest p s = bind_option (added p s (ended_at plain n store rest)) λ c.
      labels_next plain n store k (drop object_width rest) c.printed c.spoiled

-- The labels of a run by the store that it left, or through that of its plain run.
abbrev pub counts_of : Bool → List ℕ → List ℕ → ℕ → ℕ → ℕ → Option Counts
counts_of false rows store n printed spoiled = run_counts rows store n printed spoiled
counts_of true rows store n printed spoiled = counts_through rows store n printed spoiled
