-- The subclass test over the table of superclasses is the one of the program. Assumes nothing.
use mathlib.Core.Path.{◌≡◌, sym}
use mathlib.Core.Option.{some}
use mathlib.Core.List.{List}
use Prim.Native.Nat.{ℕ, zero, suc, ◌≤◌, ◌<◌}
use native.Mathlib.Omega.{arith}
use borrow.Author.Tests.{ne_eqb}
use lib.ListN.{length}
use Rattle.language.specs.Tree.{Class}
use Rattle.language.specs.Program.{class_at, world}
use Rattle.language.specs.ClassTables.{ClassTables}
use Rattle.language.proofs.Classes as classes
use Rattle.classes.specs.Subclasses.{is_below, Subclasses}

-- Where every superclass is an earlier class, the table tells of any two classes whether one stands below the other.
module _ (P : List Class) (lower : (k : ℕ) (c : Class) → class_at P k ≡ some c → c.super < k) where
  pub below_is : {T A : List ℕ} → ClassTables P T A → (k d : ℕ) → k ≤ length P
      → is_below A k d ≡ (world P).below k d
  unfolding is_below
  below_is t k zero l = sym (classes.below_object P lower k l)
  below_is t k (suc d) l =
      rw (ne_eqb (suc d) 0 (λ e. omega arith), t.aboves k l)
      (sym (classes.below_is P lower k (suc d) l (omega arith)))

  pub subclasses : {T A : List ℕ} → ClassTables P T A → length P ≤ 64 → Subclasses P A
  subclasses t l = record { few = l; long = t.long_above; below = below_is t }
