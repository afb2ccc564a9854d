-- The functions over tables give what is looked up in the program whose classes the tables hold.
-- Assumes nothing.
use mathlib.Core.Path.{◌≡◌, refl, sym, ◌∙◌}
use mathlib.Core.Bool.{Bool, true, false, cond, false≢true}
use mathlib.Core.List.{List}
use Prim.Native.Nat.{ℕ, zero, suc, ◌+◌, ◌*◌, ◌≤◌, ◌<◌}
use native.Mathlib.Omega.{arith}
use borrow.Author.Tests.{ne_eqb, leb-true, le-leb}
use lib.Dec.{eqb}
use lib.ListN.{length, get_or}
use Rattle.language.specs.Tree.{Program, DeclaredType, bool, class, ExprType, known, null_type, type_number}
use Rattle.language.specs.Tree.{Class}
use Rattle.language.specs.World.{is_declared_type}
use Rattle.language.specs.Effects.{apply_class}
use Rattle.language.specs.Program.{world, world_with}
use Rattle.language.specs.Typing.{fits}
use Rattle.language.proofs.Classes as classes
use Rattle.layout.specs.Held.{Headed}
use Rattle.layout.specs.HeldLaws.{few, lower}
use Rattle.classes.specs.Subclasses.{is_below}
use Rattle.classes.proofs.Below.{below_is as table_below}
use Rattle.types.specs.Answers.{typing_case}
use Rattle.types.specs.Tables.{Sound, applied, nearest_from, is_fitting}

module _ {p : Program} {R E T A M F : List ℕ} {count : ℕ} (h : Headed R E T A M F p count) where
  abbrev P : List Class
  P = p.classes

  within : {k : ℕ} → k ≤ count → k ≤ length P
  within l = omega (arith, h.counted)

  -- what makes the use of the tables safe
  pub sound : Sound T A count
  sound = record {
    few = few h;
    long = omega (arith, h.classes.long, h.counted);
    long_above = omega (arith, h.classes.long_above, h.counted);
    roots = λ k l. rw (h.classes.roots k (within l)) (classes.root_within P (lower h) k);
    supers = λ k m l.
        let c = classes.class_some P k m (within l) in
        rw (h.classes.supers k c.0 c.1) (lower h k c.0 c.1);
  }

  pub applied_is : (φ k : ℕ) → k ≤ count → applied T φ k ≡ apply_class (world P) φ k
  unfolding applied apply_class
  applied_is φ k l = rw (h.classes.roots k (within l))

  below_is : (c d : ℕ) → c ≤ count → is_below A c d ≡ (world P).below c d
  below_is c d l = table_below P (lower h) h.classes c d (within l)

  nearest_go : (n k d : ℕ) → k < n → k ≤ count → d ≤ count → nearest_from T A n k d ≡ (world P).nearest k d
  unfolding nearest_from
  nearest_go zero k d m l o = absurd (omega arith)
  nearest_go (suc n) k d m l o = go (λ j x y. nearest_go n j d x y o) (is_below A d k) refl
    where
      up : ((j : ℕ) → j < n → j ≤ count → nearest_from T A n j d ≡ (world P).nearest j d)
          → (world P).below d k ≡ false → 1 ≤ k
          → nearest_from T A n (get_or T (k * 576 + 513) 0) d ≡ (world P).nearest k d
      up rec e p =
          let c = classes.class_some P k p (within l) in
          let s = lower h k c.0 c.1 in
          rw (h.classes.supers k c.0 c.1)
          (rec c.0.super (omega arith) (omega arith)
          ∙ sym (classes.nearest_up P (lower h) k d c.0 c.1 e))

      positive : (k : ℕ) → (world P).below d k ≡ false → 1 ≤ k
      positive zero e = absurd (false≢true (sym e ∙ classes.below_object P (lower h) d (within o)))
      positive (suc k) e = omega arith

      go : ((j : ℕ) → j < n → j ≤ count → nearest_from T A n j d ≡ (world P).nearest j d)
          → (b : Bool) → is_below A d k ≡ b
          → cond b k (nearest_from T A n (get_or T (k * 576 + 513) 0) d) ≡ (world P).nearest k d
      go rec true e = sym (classes.nearest_here P (lower h) k d (sym (below_is d k o) ∙ e))
      go rec false e = let f = sym (below_is d k o) ∙ e in up rec f (positive k f)

  pub nearest_is : (c d : ℕ) → c ≤ count → d ≤ count → nearest_from T A (suc c) c d ≡ (world P).nearest c d
  nearest_is c d l m = nearest_go (suc c) c d (omega arith) l m

  pub not_255 : (d : ℕ) → d ≤ count → eqb d 255 ≡ false
  not_255 d l = ne_eqb d 255 (λ e. omega (arith, few h))

  -- the declared classes are those of the tables
  pub class_low : (c : ℕ) → is_declared_type (world P) (class c) ≡ true → c ≤ count
  unfolding world world_with
  class_low c e = omega (arith, leb-true c (length P) e, h.counted)

  pub low_class : (c : ℕ) → c ≤ count → is_declared_type (world P) (class c) ≡ true
  unfolding world world_with
  low_class c l = le-leb c (length P) (omega (arith, h.counted))

  pub fitting_is : (t : ExprType) (u : DeclaredType) → ((c : ℕ) → t ≡ known (class c) → c ≤ count)
      → is_declared_type (world P) u ≡ true
      → is_fitting A (typing_case t) (type_number u) ≡ fits (world P) t u
  unfolding is_fitting
  fitting_is (known bool) bool f g = refl
  fitting_is (known bool) (class d) f g = not_255 d (class_low d g)
  fitting_is (known (class c)) bool f g = refl
  fitting_is (known (class c)) (class d) f g = rw (not_255 d (class_low d g)) (below_is c d (f c refl))
  fitting_is null_type bool f g = refl
  fitting_is null_type (class d) f g = rw (not_255 d (class_low d g))
