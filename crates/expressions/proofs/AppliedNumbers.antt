-- Effects one after another on the numbers of types, and which numbers they are applied to. Assumes nothing.
use mathlib.Core.Path.{◌≡◌, refl, sym, ap, ◌∙◌}
use mathlib.Core.Bool.{Bool, true, false, cond, ◌||◌}
use mathlib.Core.Option.{Option, none, some}
use mathlib.Core.List.{List}
use Prim.Native.Nat.{ℕ, zero, suc, ◌≤◌, ◌<◌}
use native.Mathlib.Omega.{arith}
use lib.Dec.{eqb}
use Rattle.language.specs.Lists.{choice, given}
use Rattle.language.specs.Tree.{Program, bool, class, ExprType, known, null_type, Class}
use Rattle.language.specs.Effects.{member, join, apply_class}
use Rattle.language.specs.Program.{world, world_with, class_at, root_at, is_state}
use Rattle.language.proofs.Effects.{member_join, member_none}
use Rattle.layout.specs.Held.{Headed}
use Rattle.layout.specs.HeldLaws.{few, lower}
use Rattle.types.specs.Answers.{case_number, typing_case}
use Rattle.types.specs.Tables.{Applicable, Known, a_class, a_bool, an_absence, applied, applied_number}
use Rattle.expressions.specs.Cycle.{Declared}
use Rattle.types.proofs.Laws.{number_bool, number_absent, number_class, known_same, applicable_known}
use Rattle.expressions.proofs.Worlds.{class_low, sound, applied_is}
use Rattle.expressions.proofs.TypeNumbers.{applied_low}

module _ (P : List Class) (lower : (k : ℕ) (c : Class) → class_at P k ≡ some c → c.super < k) where
  root_of_root : (n m k : ℕ) → k < n → root_at P (suc m) (root_at P n k) ≡ root_at P n k
  unfolding root_at
  root_of_root zero m k l = absurd (omega arith)
  root_of_root (suc n) m k l = go (λ j x. root_of_root n m j x) (class_at P k) refl
    where
      pick : ((j : ℕ) → j < n → root_at P (suc m) (root_at P n j) ≡ root_at P n j) → (b : Bool) (c : Class)
          → class_at P k ≡ some c → is_state c.kind ≡ b
          → root_at P (suc m) (choice b (λ _. root_at P n c.super) (λ _. k))
          ≡ choice b (λ _. root_at P n c.super) (λ _. k)
      pick rec true c e s = rec c.super (omega (arith, lower k c e))
      pick rec false c e s = rw (e, s)

      go : ((j : ℕ) → j < n → root_at P (suc m) (root_at P n j) ≡ root_at P n j) → (o : Option Class)
          → class_at P k ≡ o
          → root_at P (suc m)
          (given o k (λ c. choice (is_state c.kind) (λ _. root_at P n c.super) (λ _. k)))
          ≡ given o k (λ c. choice (is_state c.kind) (λ _. root_at P n c.super) (λ _. k))
      go rec none e = rw e
      go rec (some c) e = pick rec (is_state c.kind) c e refl

  -- a root is its own root
  root_twice : (k : ℕ) → (world P).root ((world P).root k) ≡ (world P).root k
  unfolding world world_with
  root_twice k = root_of_root (suc k) (root_at P (suc k) k) k (omega arith)

  apply_join : (φ ψ c : ℕ)
      → apply_class (world P) ψ (apply_class (world P) φ c) ≡ apply_class (world P) (join φ ψ) c
  unfolding apply_class
  apply_join φ ψ c = rw (member_join φ ψ ((world P).root c)) (go (member φ ((world P).root c)))
    where
      same : (b : Bool) → cond b ((world P).root c) ((world P).root c) ≡ (world P).root c
      same true = refl
      same false = refl

      go : (b : Bool)
          → cond (member ψ ((world P).root (cond b ((world P).root c) c)))
          ((world P).root (cond b ((world P).root c) c)) (cond b ((world P).root c) c)
          ≡ cond (b || member ψ ((world P).root c)) ((world P).root c) c
      go true = rw (root_twice c) (same (member ψ ((world P).root c)))
      go false = refl

pub applied_none : (T : List ℕ) (n : ℕ) → applied_number T 0 n ≡ n
unfolding applied_number applied
applied_none T n = rw (member_none) (go (eqb n 255) (eqb n 65535))
  where
    go : (a b : Bool) → cond a n (cond b n n) ≡ n
    go true b = refl
    go false true = refl
    go false false = refl

module _ {p : Program} {R E T A M F : List ℕ} {count : ℕ} (h : Headed R E T A M F p count) where
  abbrev P : List Class
  P = p.classes

  class_number : (φ c : ℕ) → c ≤ count → applied T φ c ≡ applied_number T φ c
  class_number φ c l =
      number_class T φ c (λ e. omega (arith, few h)) (λ e. omega (arith, few h))

  -- one effect and then another are both at once
  pub applied_join : (φ ψ : ℕ) {n : ℕ} → Known count n
      → applied_number T ψ (applied_number T φ n) ≡ applied_number T (join φ ψ) n
  applied_join φ ψ {n} (a_class l) =
      let m = applied_low h φ n l in
      ap (applied_number T ψ) (sym (class_number φ n l)) ∙ (sym (class_number ψ (applied T φ n) m)
      ∙ (applied_is h ψ (applied T φ n) m ∙ (ap (apply_class (world P) ψ)
      (applied_is h φ n l) ∙ (apply_join P (lower h) φ ψ n
      ∙ (sym (applied_is h (join φ ψ) n l) ∙ class_number (join φ ψ) n l)))))
  applied_join φ ψ a_bool = ap (applied_number T ψ) (sym (number_bool T φ 255 refl))
      ∙ (sym (number_bool T ψ 255 refl) ∙ number_bool T (join φ ψ) 255 refl)
  applied_join φ ψ an_absence = let f : ◌≡◌ {A = ℕ} 65535 255 → ⊥ = λ e. omega arith in
      ap (applied_number T ψ) (sym (number_absent T φ 65535 f refl))
      ∙ (sym (number_absent T ψ 65535 f refl) ∙ number_absent T (join φ ψ) 65535 f refl)

  -- a number that waits, before and after an effect
  pub known_applied : (φ : ℕ) {n : ℕ} → Known count n → Known count (applied_number T φ n)
  known_applied φ {n} (a_class l) =
      known_same (sym (class_number φ n l)) (a_class (applied_low h φ n l))
  known_applied φ a_bool = known_same (sym (number_bool T φ 255 refl)) a_bool
  known_applied φ an_absence =
      known_same (sym (number_absent T φ 65535 (λ e. omega arith) refl)) an_absence

  pub known_case : (t : ExprType) → Declared (world P) t → Known count (case_number (typing_case t))
  known_case (known bool) d = a_bool
  known_case (known (class c)) d = a_class (class_low h c (d.class_in c refl))
  known_case null_type d = an_absence

  pub known_applicable : {n : ℕ} → Known count n → Applicable T n
  known_applicable k = applicable_known (few h) (sound h).long
      (λ j i. omega (arith, (sound h).roots j i, few h)) k
