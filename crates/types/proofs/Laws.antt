-- Laws of the numbers that the functions over tables give. Assumes nothing.
use mathlib.Core.Path.{◌≡◌, refl, sym, ◌∙◌}
use mathlib.Core.Bool.{Bool, true, false, false≢true}
use mathlib.Core.List.{List}
use Prim.Native.Nat.{ℕ, zero, suc, ◌+◌, ◌*◌, ◌≤◌, ◌<◌}
use native.Mathlib.Omega.{arith}
use borrow.Author.Tests.{eq-eqb, ne_eqb}
use lib.ListN.{length, get_or}
use Rattle.classes.specs.Subclasses.{is_below}
use Rattle.types.specs.declared.Typing.{Typing}
use Rattle.types.specs.Tables.{PreNearest, Applicable, CaseIn, root_in, applied}
use Rattle.types.specs.Tables.{nearest_from, applied_number}
use Rattle.types.specs.Tables.{Known, a_class, a_bool, an_absence}

pub number_bool : (T : List ℕ) (φ n : ℕ) → n ≡ 255 → n ≡ applied_number T φ n
unfolding applied_number
number_bool T φ n e = rw (eq-eqb n 255 e)

pub number_absent : (T : List ℕ) (φ n : ℕ) → (n ≡ 255 → ⊥) → n ≡ 65535 → n ≡ applied_number T φ n
unfolding applied_number
number_absent T φ n f e = rw (ne_eqb n 255 f, eq-eqb n 65535 e)

pub number_class : (T : List ℕ) (φ n : ℕ) → (n ≡ 255 → ⊥) → (n ≡ 65535 → ⊥)
    → applied T φ n ≡ applied_number T φ n
unfolding applied_number
number_class T φ n f g = rw (ne_eqb n 255 f, ne_eqb n 65535 g)

-- going up to the nearest common superclass
pub record Going (T A : List ℕ) (c d k : ℕ) : Type 0 where
  pub n : ℕ
  pub enough : k < n
  pub same : nearest_from T A (suc c) c d ≡ nearest_from T A n k d
  pub low : k ≤ c

pub going_start : (T A : List ℕ) (c d : ℕ) → Going T A c d c
going_start T A c d = record { n = suc c; enough = omega arith; same = refl; low = omega arith }

pub going_end : {T A : List ℕ} {c d k : ℕ} → Going T A c d k → (b : Bool) → b ≡ is_below A d k → b ≡ true
    → k ≡ nearest_from T A (suc c) c d
unfolding nearest_from
going_end {T} {A} {c} {d} {k} g b e f = sym (g.same ∙ go g.n g.enough)
  where
    go : (n : ℕ) → k < n → nearest_from T A n k d ≡ k
    go zero h = absurd (omega arith)
    go (suc n) h = rw (sym e, f)

going_positive : (A : List ℕ) (d k : ℕ) (b : Bool) → b ≡ is_below A d k → b ≡ false → 1 ≤ k
unfolding is_below
going_positive A d zero b e f = absurd (false≢true (sym f ∙ e))
going_positive A d (suc k) b e f = omega arith

pub going_step : {T A : List ℕ} {c d k : ℕ} → PreNearest T A c d → Going T A c d k → (b : Bool)
    → b ≡ is_below A d k → b ≡ false
    → (s : ℕ) → s ≡ get_or T (k * 576 + 513) 0 → (s < k) × Going T A c d s
unfolding nearest_from
going_step {T} {A} {c} {d} {k} p g b e f s q =
    let l : s < k = omega (
      arith,
      q,
      p.sound.supers k (going_positive A d k b e f)
          (omega (arith, g.low, p.first)),
    ) in
    (l, go g.n g.enough g.same l)
  where
    go : (n : ℕ) → k < n → nearest_from T A (suc c) c d ≡ nearest_from T A n k d → s < k → Going T A c d s
    go zero h r l = absurd (omega arith)
    go (suc n) h r l = record {
      n = n;
      enough = omega arith;
      same = r ∙ rw (sym e, f, sym q);
      low = omega
          (arith, g.low);
    }

-- a number of a class is neither 255 nor 65,535
pub known_class : {count n : ℕ} → Known count n → (n ≡ 255 → ⊥) → (n ≡ 65535 → ⊥) → n ≤ count
known_class (a_class h) f g = h
known_class a_bool f g = absurd (f refl)
known_class an_absence f g = absurd (g refl)

pub known_same : {count a b : ℕ} → a ≡ b → Known count b → Known count a
known_same e h = rw e h

pub case_same : (n : ℕ) (t u : Typing) → t ≡ u → CaseIn n u → CaseIn n t
case_same n t u e h = rw e h

-- what the tables allow
pub applicable_known : {T : List ℕ} {count n : ℕ} → count ≤ 64 → (count + 1) * 576 ≤ length T
    → ((k : ℕ) → k ≤ count → root_in T k ≤ 64)
    → Known count n → Applicable T n
applicable_known f l r h = record {
  inside = λ p q. omega (arith, known_class h p q);
  root = λ p q. r _ (known_class h p q);
}
