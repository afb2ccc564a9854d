-- Laws of marking a signing number. Assumes nothing.
use mathlib.Core.Path.{◌≡◌, refl, sym, ap, ◌∙◌}
use mathlib.Core.Bool.{Bool, true, false, ◌||◌}
use mathlib.Core.List.{List, [], ◌∷◌, ◌++◌}
use Prim.Native.Nat.{ℕ, ◌+◌, ◌/◌, ◌%◌, ◌≤◌, ◌<◌}
use native.Mathlib.Omega.{arith}
use borrow.Author.Tests.{eq-eqb, ne_eqb, eqb-true, eqb-false}
use lib.Bits.{bit_or}
use lib.Dec.{eqb}
use lib.ListN.{length, get_or, set, length-set}
use lib.Seq.{get_or-set_same, get_or-set_other}
use Rattle.language.specs.Effects.{join, effect_of}
use Rattle.language.proofs.Effects.{member_join, member_of}
use Rattle.prices.specs.Terms.{Term}
use Rattle.terms.specs.Tables.{is_marked, Marks}
use Rattle.prices.proofs.Terms.{or_false, signed_append}

-- The marks with one number more.
abbrev pub marked : List ℕ → ℕ → List ℕ
marked sets g = set sets (g / 64) (join (get_or sets (g / 64) 0) (effect_of (g % 64 + 1)))

-- Within a set of 64 a number is told by its place.
same_place : (g n : ℕ) → n / 64 ≡ g / 64 → eqb (g % 64 + 1) (n % 64 + 1) ≡ eqb g n
same_place g n q = go (eqb g n) refl
  where
    go : (b : Bool) → eqb g n ≡ b → eqb (g % 64 + 1) (n % 64 + 1) ≡ b
    go true e = let w : g ≡ n = eqb-true g n e in
        eq-eqb (g % 64 + 1) (n % 64 + 1) (ap (λ (x : ℕ). x % 64 + 1) w)
    go false e = ne_eqb (g % 64 + 1) (n % 64 + 1) (λ w. eqb-false g n e (omega (arith, w, q)))

marked_by : (sets : List ℕ) (g n : ℕ) → g / 64 < length sets
    → is_marked (marked sets g) n ≡ (is_marked sets n || eqb g n)
marked_by sets g n h = go (eqb (n / 64) (g / 64)) refl
  where
    go : (b : Bool) → eqb (n / 64) (g / 64) ≡ b → is_marked (marked sets g) n ≡ (is_marked sets n || eqb g n)
    go true e =
        let q : n / 64 ≡ g / 64 = eqb-true (n / 64) (g / 64) e in
        rw (
          q,
          get_or-set_same sets (g / 64) (join (get_or sets (g / 64) 0) (effect_of (g % 64 + 1))) 0 h,
          member_join (get_or sets (g / 64) 0) (effect_of (g % 64 + 1)) (n % 64 + 1),
          member_of (g % 64 + 1) (n % 64 + 1) (omega arith) (omega arith),
          same_place g n q,
        )
    go false e =
        let d = eqb-false (n / 64) (g / 64) e in
        rw (
          get_or-set_other sets (g / 64) (n / 64) (join (get_or sets (g / 64) 0) (effect_of (g % 64 + 1))) 0 d,
          ne_eqb g n (λ w. d (ap (λ (x : ℕ). x / 64) (sym w))),
          or_false (is_marked sets n),
        )

-- After marking, the marks are the signing numbers with the new term among them.
pub marks_more : {sets : List ℕ} {ts : List Term} (t : Term) (sets' : List ℕ) → Marks sets ts
    → t.signing ≤ 65535
    → sets' ≡ marked sets t.signing → Marks sets' (ts ++ (t ∷ []))
marks_more {sets} {ts} t sets' m h w = rw w (record {
  long = length-set sets (t.signing / 64)
      (join (get_or sets (t.signing / 64) 0) (effect_of (t.signing % 64 + 1)))
      ∙ m.long;
  each = λ n k. marked_by sets t.signing n (omega (arith, h, m.long))
      ∙ (ap (λ (b : Bool). b || eqb t.signing n) (m.each n k) ∙ sym (signed_append n ts t));
})

-- The union by bits.
pub mark_by : (sets : List ℕ) (n e : ℕ) → e ≡ effect_of (n % 64 + 1)
    → set sets (n / 64) (bit_or (get_or sets (n / 64) 0) e) ≡ marked sets n
unfolding join
mark_by sets n e q = rw q
