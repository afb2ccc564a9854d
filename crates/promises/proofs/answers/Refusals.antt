-- How the refusals of a check come from those of its parts.
use mathlib.Core.Path.{◌≡◌, refl}
use Prim.Native.Nat.{ℕ}
use mathlib.Core.Bool.{Bool, true, false, cond}
use mathlib.Core.Option.{Option, none, some}
use mathlib.Core.List.{List}
use lib.Dec.{ltb}
use Rattle.language.specs.Results.{Checked, accept, refuse, bind_checked, need_checked, require, earlier}
use Rattle.language.specs.Rows.{Row}
use Rattle.language.specs.Form.{Read, read, after}

-- Nothing is said of an answer.
abbrev pub Any : {A : Type 0} → A → Type 0
Any a = Unit {0}

-- A number and a line that are among those listed.
pub record Among (Listed : ℕ → ℕ → Type 0) (n l : ℕ) : Type 0 where
  pub is : Listed n l

-- A check whose refusals are listed, and of whose answers something holds.
pub data Gives (Listed : ℕ → ℕ → Type 0) {A : Type 0} (Q : A → Type 0) : Checked A → Type 0 where
  gives : {a : A} → Q a → Gives Listed Q (accept a)
  refuses : {n l : ℕ} → Listed n l → Gives Listed Q (refuse n l)

module _ {Listed : ℕ → ℕ → Type 0} {B : Type 0} {Q : B → Type 0} where
  pub gives_bind : {A : Type 0} {Q₀ : A → Type 0} {r : Checked A} {k : A → Checked B} → Gives Listed Q₀ r
      → ((a : A) → Q₀ a → Gives Listed Q (k a)) → Gives Listed Q (bind_checked r k)
  unfolding bind_checked
  gives_bind (gives q) f = f _ q
  gives_bind (refuses w) f = refuses w

  pub gives_after : {A : Type 0} {Q₀ : Read A → Type 0} {r : Checked (Read A)} {k : A → List Row → Checked B}
      → Gives Listed Q₀ r
      → ((a : A) (rs : List Row) → Q₀ (read a rs) → Gives Listed Q (k a rs))
      → Gives Listed Q (after r k)
  unfolding after
  gives_after (gives q) f = f _ _ q
  gives_after (refuses w) f = refuses w

  pub gives_need : {A : Type 0} (o : Option A) {n l : ℕ} {k : A → Checked B} → Among Listed n l
      → ((a : A) → Gives Listed Q (k a)) → Gives Listed Q (need_checked o n l k)
  unfolding need_checked
  gives_need none w f = refuses w.is
  gives_need (some a) w f = f a

  pub gives_require : (b : Bool) {n l : ℕ} {k : Bool → Checked B} → Among Listed n l
      → ((b : Bool) → Gives Listed Q (k b)) → Gives Listed Q (require b n l k)
  unfolding require
  gives_require true w g = g true
  gives_require false w g = refuses w.is

-- A check that refuses only in listed ways.
pub data RefusesOnly (Listed : ℕ → ℕ → Type 0) {A : Type 0} : Checked A → Type 0 where
  answers : {a : A} → RefusesOnly Listed (accept a)
  refuses_as : {n l : ℕ} → Listed n l → RefusesOnly Listed (refuse n l)

pub only : {Listed Listed₂ : ℕ → ℕ → Type 0} {A : Type 0} {Q : A → Type 0} {r : Checked A}
    → Gives Listed Q r → ((n l : ℕ) → Listed n l → Listed₂ n l) → RefusesOnly Listed₂ r
only (gives q) f = answers
only (refuses w) f = refuses_as (f _ _ w)

-- A check whose refusals are listed another way, given that it refuses so.
pub only_refused : {Listed Listed₂ : ℕ → ℕ → Type 0} {A : Type 0} {r : Checked A} → RefusesOnly Listed r
    → ((n l : ℕ) → r ≡ refuse n l → Listed n l → Listed₂ n l) → RefusesOnly Listed₂ r
only_refused answers f = answers
only_refused (refuses_as w) f = refuses_as (f _ _ refl w)

pub only_mono : {Listed Listed₂ : ℕ → ℕ → Type 0} {A : Type 0} {r : Checked A} → RefusesOnly Listed r
    → ((n l : ℕ) → Listed n l → Listed₂ n l) → RefusesOnly Listed₂ r
only_mono answers f = answers
only_mono (refuses_as w) f = refuses_as (f _ _ w)

pub only_bind : {Listed : ℕ → ℕ → Type 0} {A B : Type 0} {r : Checked A} {k : A → Checked B}
    → RefusesOnly Listed r
    → ((a : A) → r ≡ accept a → RefusesOnly Listed (k a)) → RefusesOnly Listed (bind_checked r k)
unfolding bind_checked
only_bind answers f = f _ refl
only_bind (refuses_as w) f = refuses_as w

pub only_require : {Listed : ℕ → ℕ → Type 0} {B : Type 0} (b : Bool) (n l : ℕ) {k : Bool → Checked B}
    → Listed n l
    → ((b : Bool) → RefusesOnly Listed (k b)) → RefusesOnly Listed (require b n l k)
unfolding require
only_require true n l w f = f true
only_require false n l w f = refuses_as w

pub only_earlier : {Listed : ℕ → ℕ → Type 0} {A B : Type 0} {r : Checked A} {s : Checked B}
    → RefusesOnly Listed r
    → RefusesOnly Listed s → RefusesOnly Listed (earlier r s)
unfolding earlier
only_earlier answers answers = answers
only_earlier answers (refuses_as w) = refuses_as w
only_earlier (refuses_as w) answers = refuses_as w
only_earlier {Listed} (refuses_as {n} {l} v) (refuses_as {n = m} {l = k} w) = go (ltb k l)
  where
    go : (b : Bool) → RefusesOnly Listed {A = Unit {0}} (cond b (refuse m k) (refuse n l))
    go true = refuses_as w
    go false = refuses_as v
