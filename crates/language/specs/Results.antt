-- Results of a computation over a state, and answers of a check.
-- Their laws are those that the proofs over evaluation and typing use.
use Rattle.std.specs.Prelude.{◌≡◌, refl, ℕ, Bool, true, false, cond, ltb}
use Rattle.std.proofs.Math.Option.{Option, none, some}
use Rattle.language.specs.Lists.{choice}
use Rattle.std.proofs.Common.{arith}

-- A result: an answer with the state after it, or a reason to stop with the state then.
pub data Result (S X A : Type 0) : Type 0 where
  ok : A → S → Result S X A
  stop : X → S → Result S X A

-- The answer of a check, or a refusal's number and line.
pub data Checked (A : Type 0) : Type 0 where
  accept : A → Checked A
  refuse : ℕ → ℕ → Checked A

-- A check with nothing to answer but that it passed.
abbrev pub Pass : Type 0
Pass = Checked (Unit {0})

abbrev pub passed : Pass
passed = accept tt

-- What follows an answer; what it needs; what must hold. A refusal's number and line stand before what waits.
unfoldable pub bind_checked : {A B : Type 0} → Checked A → (A → Checked B) → Checked B
bind_checked (accept a) k = k a
bind_checked (refuse n l) k = refuse n l

unfoldable pub need_checked : {A B : Type 0} → Option A → ℕ → ℕ → (A → Checked B) → Checked B
need_checked none n l k = refuse n l
need_checked (some a) n l k = k a

unfoldable pub require : {B : Type 0} → Bool → ℕ → ℕ → (Bool → Checked B) → Checked B
require true n l k = k true
require false n l k = refuse n l

-- Of two refusals the one on the earlier line.
unfoldable pub earlier : {A B : Type 0} → Checked A → Checked B → Pass
earlier (accept a) (accept b) = passed
earlier (accept a) (refuse n l) = refuse n l
earlier (refuse n l) (accept b) = refuse n l
earlier (refuse n l) (refuse m k) = cond (ltb k l) (refuse m k) (refuse n l)

-- What an accepted answer says of its parts.
pub accept≢refuse : {A : Type 0} {a : A} (n l : ℕ) → ◌≡◌ {A = Checked A} (refuse n l) (accept a) → ⊥
accept≢refuse n l e = let z : ◌≡◌ {A = ℕ} 0 1 = cc in omega arith

pub accept_injective : {A : Type 0} {a b : A} → ◌≡◌ {A = Checked A} (accept a) (accept b) → a ≡ b
accept_injective e = cc

pub bind_checked_inv : {A B C : Type 0} (r : Checked A) (k : A → Checked B) {b : B}
    → bind_checked r k ≡ accept b → ((a : A) → r ≡ accept a → k a ≡ accept b → C) → C
unfolding bind_checked
bind_checked_inv (accept a) k e f = f a refl e
bind_checked_inv (refuse n l) k e f = absurd (accept≢refuse n l e)

pub need_checked_inv : {A B C : Type 0} (r : Option A) (n l : ℕ) (k : A → Checked B) {b : B}
    → need_checked r n l k ≡ accept b → ((a : A) → r ≡ some a → k a ≡ accept b → C) → C
unfolding need_checked
need_checked_inv (some a) n l k e f = f a refl e
need_checked_inv none n l k e f = absurd (accept≢refuse n l e)

pub require_inv : {B C : Type 0} (t : Bool) (n l : ℕ) (k : Bool → Checked B) {b : B}
    → require t n l k ≡ accept b → (t ≡ true → k true ≡ accept b → C) → C
unfolding require
require_inv true n l k e f = f refl e
require_inv false n l k e f = absurd (accept≢refuse n l e)

module _ {S X : Type 0} where
  abbrev pub bind : {A B : Type 0} → Result S X A → (A → S → Result S X B) → Result S X B
  bind (ok a s) k = k a s
  bind (stop x s) k = stop x s

  -- What holds of a result.
  pub data Holds {A : Type 0} (P : A → S → Type 0) (Q : X → S → Type 0) : Result S X A → Type 0 where
    holds_ok : {a : A} {s : S} → P a s → Holds P Q (ok a s)
    holds_stop : {x : X} {s : S} → Q x s → Holds P Q (stop x s)

  pub holds_bind : {A B : Type 0} {P : A → S → Type 0} {Q : X → S → Type 0} {P' : B → S → Type 0}
      {r : Result S X A} {k : A → S → Result S X B}
      → Holds P Q r → ((a : A) (s : S) → P a s → Holds P' Q (k a s)) → Holds P' Q (bind r k)
  holds_bind (holds_ok h) f = f _ _ h
  holds_bind (holds_stop h) f = holds_stop h

module _ {S X A : Type 0} {P : A → S → Type 0} {Q : X → S → Type 0} where
  pub holds_if : (b : Bool) {x y : Result S X A} → Holds P Q x → Holds P Q y → Holds P Q (cond b x y)
  holds_if true h h' = h
  holds_if false h h' = h'

  pub holds_choice : (b : Bool) {x y : Result S X A} → Holds P Q x → Holds P Q y
      → Holds P Q (choice b (λ _. x) (λ _. y))
  holds_choice true h h' = h
  holds_choice false h h' = h'

  pub holds_mono : {P' : A → S → Type 0} {r : Result S X A} → Holds P Q r
      → ((a : A) (s : S) → P a s → P' a s) → Holds P' Q r
  holds_mono (holds_ok h) f = holds_ok (f _ _ h)
  holds_mono (holds_stop h) f = holds_stop h

-- What holds between two results that end alike.
pub data Alike {S T X A B : Type 0} (P : A → S → B → T → Type 0) (Q : S → T → Type 0) :
    Result S X A → Result T X B → Type 0 where
  alike_ok : {a : A} {s : S} {b : B} {t : T} → P a s b t → Alike P Q (ok a s) (ok b t)
  alike_stop : {x : X} {s : S} {t : T} → Q s t → Alike P Q (stop x s) (stop x t)

module _ {S T X : Type 0} {Q : S → T → Type 0} where
  pub alike_bind : {A B C D : Type 0} {P : A → S → B → T → Type 0} {P' : C → S → D → T → Type 0}
      {r : Result S X A} {r' : Result T X B} {k : A → S → Result S X C} {k' : B → T → Result T X D}
      → Alike P Q r r' → ((a : A) (s : S) (b : B) (t : T) → P a s b t → Alike P' Q (k a s) (k' b t))
      → Alike P' Q (bind r k) (bind r' k')
  alike_bind (alike_ok h) f = f _ _ _ _ h
  alike_bind (alike_stop h) f = alike_stop h

  -- In a context that passes a stop on.
  pub alike_context : {A B C D : Type 0} {P : A → S → B → T → Type 0} {P' : C → S → D → T → Type 0}
      {r : Result S X A} {r' : Result T X B} {k : A → S → Result S X C} (F : Result T X B → Result T X D)
      → ((x : X) (t : T) → F (stop x t) ≡ stop x t) → Alike P Q r r'
      → ((a : A) (s : S) (b : B) (t : T) → P a s b t → Alike P' Q (k a s) (F (ok b t)))
      → Alike P' Q (bind r k) (F r')
  alike_context F z (alike_ok h) f = f _ _ _ _ h
  alike_context F z (alike_stop {x} {t} h) f = rw (z x t) (alike_stop h)

  pub alike_with : {A B : Type 0} {P : A → S → B → T → Type 0} {P₁ : A → S → Type 0} {Q₁ : X → S → Type 0}
      {r : Result S X A} {r' : Result T X B}
      → Holds P₁ Q₁ r → Alike P Q r r' → Alike (λ a s b t. P₁ a s × P a s b t) Q r r'
  alike_with (holds_ok g) (alike_ok h) = alike_ok (g, h)
  alike_with (holds_stop g) (alike_stop h) = alike_stop h

  pub alike_mono : {A B : Type 0} {P P' : A → S → B → T → Type 0} {r : Result S X A} {r' : Result T X B}
      → Alike P Q r r' → ((a : A) (s : S) (b : B) (t : T) → P a s b t → P' a s b t) → Alike P' Q r r'
  alike_mono (alike_ok h) f = alike_ok (f _ _ _ _ h)
  alike_mono (alike_stop h) f = alike_stop h

  -- The second side goes on alone.
  pub alike_wrap : {A B D : Type 0} {P : A → S → B → T → Type 0} {P' : A → S → D → T → Type 0}
      {r : Result S X A} {r' : Result T X B} (F : Result T X B → Result T X D)
      → ((x : X) (t : T) → F (stop x t) ≡ stop x t) → Alike P Q r r'
      → ((a : A) (s : S) (b : B) (t : T) → P a s b t → Alike P' Q (ok a s) (F (ok b t))) → Alike P' Q r (F r')
  alike_wrap F z (alike_ok h) f = f _ _ _ _ h
  alike_wrap F z (alike_stop {x} {t} h) f = rw (z x t) (alike_stop h)
