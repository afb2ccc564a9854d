-- When values, ends and objects of a source run and its plain run correspond (document 01, "The plain
-- program").
use Rattle.std.specs.Prelude.{◌≡◌, ℕ, suc, Bool, List, [], ◌∷◌, eqb}
use Rattle.std.proofs.Math.Option.{some}
use Rattle.language.specs.Limits.{identity_class}
use Rattle.language.specs.Lists.{nth, choice, All2}
use Rattle.language.specs.State.{Value, null, truth, object, Object, raised, deep}
use Rattle.language.specs.Translation.{plain_class}
use Rattle.language.specs.Store.{Outcome, gave, ended}

-- The Identities among the objects of a plain run, in the order in which they were made; n came before.
unfoldable pub identities : ℕ → List Object → List ℕ
identities n [] = []
identities n (o ∷ os) = choice (eqb o.class_of identity_class)
    (λ _. n ∷ identities (suc n) os)
    (λ _. identities (suc n) os)

-- Values correspond if both are null, the same truth value, or an object and the Identity made in its place.
pub data Corresponds (ids : List ℕ) : Value → Value → Type 0 where
  both_null : Corresponds ids null null
  same_truth : {b : Bool} → Corresponds ids (truth b) (truth b)
  in_place : {j i : ℕ} → nth ids j ≡ some i → Corresponds ids (object j) (object i)

-- Runs end alike if both give corresponding values, the same exception, or 15.
pub data EndAlike (ids : List ℕ) : Outcome → Outcome → Type 0 where
  both_give : {v w : Value} → Corresponds ids v w → EndAlike ids (gave v) (gave w)
  same_exception : {n : ℕ} → EndAlike ids (ended (raised n)) (ended (raised n))
  both_deep : EndAlike ids (ended deep) (ended deep)

-- An Identity whose `imp` is object m; an implementor of class c whose `id` is object i.
abbrev pub identity_of : ℕ → Object
identity_of m = record { class_of = identity_class; fields = object m ∷ [] }

abbrev pub implementor_of : ℕ → ℕ → List Value → Object
implementor_of c i vs = record { class_of = plain_class c; fields = object i ∷ vs }

-- Object j, o, matches the j-th Identity made, i, whose `imp` is m: an implementor of o's class with i as
-- `id`
-- and after `id` fields that correspond to o's in order.
pub record Matches (ids : List ℕ) (plain-heap : List Object) (j : ℕ) (o : Object) : Type 0 where
  pub i : ℕ
  pub m : ℕ
  pub fields : List Value
  pub identity : nth ids j ≡ some i
  pub at_identity : nth plain-heap i ≡ some (identity_of m)
  pub at_implementor : nth plain-heap m ≡ some (implementor_of o.class_of i fields)
  pub corresponding : All2 (Corresponds ids) o.fields fields
