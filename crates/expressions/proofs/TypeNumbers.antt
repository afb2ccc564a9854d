-- A declared type by its number: what the tables make of it is what the definition says. Assumes nothing.
use mathlib.Core.Path.{◌≡◌, refl, sym, ap, ◌∙◌}
use mathlib.Core.Bool.{true, false, cond, ◌||◌}
use mathlib.Core.Option.{Option, some}
use mathlib.Core.List.{List}
use Prim.Native.Nat.{ℕ, zero, suc, ◌+◌, ◌*◌, ◌≤◌}
use native.Mathlib.Omega.{arith}
use borrow.Author.Tests.{ne_eqb}
use lib.Dec.{eqb}
use lib.ListN.{get_or}
use Rattle.language.specs.Lists.{nth, given}
use Rattle.language.specs.Tree.{Program, DeclaredType, bool, class, type_number, ExprType, known, null_type}
use Rattle.language.specs.Tree.{Class, Kind, plain, root, state, unknown, kind_number}
use Rattle.language.specs.World.{is_declared_type}
use Rattle.language.specs.Effects.{apply_class, apply, apply_expr}
use Rattle.language.specs.Program.{world, world_with, class_at, is_changeable, is_root, is_state}
use Rattle.language.specs.Typing.{can_change, join_currents}
use Rattle.language.proofs.Classes as classes
use Rattle.layout.specs.Held.{Headed}
use Rattle.layout.specs.HeldLaws.{few, lower, kinds}
use Rattle.types.specs.declared.Typing.TheVariants.{Class as class_case}
use Rattle.types.specs.Answers.{case_number, case_of_number, typing_case}
use Rattle.types.specs.Tables.{joined_number, root_in, applied, applied_number}
use Rattle.typing.specs.Nodes.{changeable_in, can_change_in}
use Rattle.access.specs.Fields.{InTables}
use Rattle.expressions.specs.Cycle.{Declared}
use Rattle.types.proofs.Laws.{number_bool, number_absent, number_class}
use Rattle.expressions.proofs.Worlds.{class_low, low_class, sound, applied_is, nearest_is, not_255}
use Rattle.expressions.proofs.Turns.{declared_bool, declared_null, declared_known}

-- the class that a case tells
pub case_known : (t : ExprType) (c : ℕ) → typing_case t ≡ class_case c → t ≡ known (class c)
case_known (known bool) c e = absurd (let z : ◌≡◌ {A = ℕ} 0 1 = cc in omega arith)
case_known (known (class k)) c e = let z : k ≡ c = cc in ap (λ (x : ℕ). known (class x)) z
case_known null_type c e = absurd (let z : ◌≡◌ {A = ℕ} 0 1 = cc in omega arith)

-- what the tables make of a declared type
module _ {p : Program} {R E T A M F : List ℕ} {count : ℕ} (h : Headed R E T A M F p count) where
  abbrev P : List Class
  P = p.classes

  -- its number tells its case, and is that of nothing absent
  pub type_number_case : (t : DeclaredType) → is_declared_type (world P) t ≡ true
      → (case_of_number (type_number t) ≡ typing_case (known t)) × (type_number t ≡ 65535 → ⊥)
      × ((type_number t ≡ 255 → ⊥) → type_number t ≤ 64)
  unfolding case_of_number
  type_number_case bool d = (refl, (λ e. omega arith), (λ f. absurd (f refl)))
  type_number_case (class c) d =
      let m = class_low h c d in
      let n = few h in
      (rw (ne_eqb c 255 (λ e. omega (arith, m, n))), (λ e. omega (arith, m, n)), (λ f. omega (arith, m, n)))

  -- it is declared after an effect
  pub declared_after : (φ : ℕ) (t : ExprType) → Declared (world P) t
      → Declared (world P) (apply_expr (world P) φ t)
  declared_after φ (known bool) d = declared_bool
  declared_after φ (known (class c)) d =
      declared_known (class (apply_class (world P) φ c))
      (low_class h (apply_class (world P) φ c)
      (omega (arith, classes.apply_within P (lower h) φ c, class_low h c (d.class_in c refl))))
  declared_after φ null_type d = declared_null

  pub not_absent : (c : ℕ) → c ≤ count → eqb c 65535 ≡ false
  not_absent c l = ne_eqb c 65535 (λ e. omega (arith, few h))

  pub apply_number : (φ : ℕ) (t : DeclaredType) → is_declared_type (world P) t ≡ true
      → type_number (apply (world P) φ t) ≡ applied_number T φ (type_number t)
  unfolding applied_number
  apply_number φ bool d = refl
  apply_number φ (class c) d = let l = class_low h c d in
      rw (not_255 h c l, not_absent c l) (sym (applied_is h φ c l))

  pub apply_declared : (φ : ℕ) (t : DeclaredType) → is_declared_type (world P) t ≡ true
      → is_declared_type (world P) (apply (world P) φ t) ≡ true
  apply_declared φ bool d = refl
  apply_declared φ (class c) d =
      low_class h _ (omega (arith, class_low h c d, classes.apply_within P (lower h) φ c))

  pub joined_numbers : (t u : DeclaredType) → is_declared_type (world P) t ≡ true
      → is_declared_type (world P) u ≡ true
      → type_number (join_currents (world P) t u) ≡ joined_number T A (type_number t) (type_number u)
  unfolding joined_number
  joined_numbers bool u d e = refl
  joined_numbers (class c) bool d e = let l = class_low h c d in rw (not_255 h c l, not_absent c l)
  joined_numbers (class c) (class k) d e =
      let l = class_low h c d in
      let m = class_low h k e in
      rw (not_255 h c l, not_absent c l, not_255 h k m, not_absent k m)
      (sym (nearest_is h c k l m))

  pub join_declared : (t u : DeclaredType) → is_declared_type (world P) t ≡ true
      → is_declared_type (world P) u ≡ true
      → is_declared_type (world P) (join_currents (world P) t u) ≡ true
  join_declared bool u d e = refl
  join_declared (class c) bool d e = d
  join_declared (class c) (class k) d e =
      let l = class_low h c d in
      low_class h _ (omega (
        arith,
        l,
        classes.nearest_within P (lower h) c k
            (omega (arith, l, h.counted)),
      ))

  -- a root or state class
  changeable_is : (c : ℕ) → c ≤ count → changeable_in T c ≡ (world P).changeable c
  unfolding changeable_in world world_with is_changeable class_at
  changeable_is zero l = refl
  changeable_is (suc c) l =
      rw (ne_eqb (suc c) 0 (λ e. omega arith))
      (go (classes.class_some P (suc c) (omega arith) (omega (arith, h.counted))))
    where
      by_kind : (k : Kind) (n : ℕ) → n ≡ kind_number k → ((m : ℕ) → k ≡ unknown m → ⊥)
          → cond (eqb n 1) true (eqb n 2) ≡ is_root k || is_state k
      by_kind plain n e f = rw e
      by_kind root n e f = rw e
      by_kind state n e f = rw e
      by_kind (unknown m) n e f = absurd (f m refl)

      go : (x : Class) × (class_at P (suc c) ≡ some x)
          → cond (eqb (get_or T (suc c * 576 + 512) 0) 1) true (eqb (get_or T (suc c * 576 + 512) 0) 2)
          ≡ given (nth P c) false (λ y. is_root y.kind || is_state y.kind)
      go (x, e) =
          by_kind x.kind (get_or T (suc c * 576 + 512) 0) (h.classes.kinds (suc c) x e)
          (λ m q. kinds h (suc c) m x e q)
          ∙ sym (ap (λ (o : Option Class). given o false (λ y. is_root y.kind || is_state y.kind)) e)

  pub root_is : (d : ℕ) → d ≤ count → root_in T d ≡ (world P).root d
  root_is d l = h.classes.roots d (omega (arith, h.counted))

  pub can_change_is : (c d : ℕ) → c ≤ count → d ≤ count → can_change_in T c d ≡ can_change (world P) c d
  unfolding can_change_in can_change
  can_change_is c d l m = rw (changeable_is c l, changeable_is d m, root_is c l, root_is d m)

  pub applied_low : (φ c : ℕ) → c ≤ count → applied T φ c ≤ count
  applied_low φ c l = omega (
    arith,
    l,
    applied_is h φ c l,
    classes.apply_within P
        (lower h) φ c,
  )

  pub in_tables : (φ c : ℕ) → c ≤ count → InTables T φ c
  in_tables φ c l = record {
    inside = omega (arith, l, (sound h).long);
    root = omega (arith, l, (sound h).roots c l, few h);
    low = omega (arith, applied_low φ c l, few h);
    after = omega (arith, applied_low φ c l, (sound h).long);
  }

  -- the number of a type after an effect
  pub applied_case : (φ : ℕ) (t : ExprType) → Declared (world P) t
      → applied_number T φ (case_number (typing_case t))
      ≡ case_number (typing_case (apply_expr (world P) φ t))
  applied_case φ (known bool) d = sym (number_bool T φ 255 refl)
  applied_case φ (known (class c)) d =
      let l = class_low h c (d.class_in c refl) in
      let n = few h in
      sym (number_class T φ c (λ e. omega (arith, l, n)) (λ e. omega (arith, l, n)))
      ∙ applied_is h φ c l
  applied_case φ null_type d = sym (number_absent T φ 65535 (λ e. omega arith) refl)
