-- What each object says of a label, and the counts with one object more, as the code finds them. Assumes nothing.
use mathlib.Core.Path.{◌≡◌, refl, ap}
use mathlib.Core.Bool.{Bool, true, false, cond}
use mathlib.Core.List.{List}
use mathlib.Core.Option.{Option, none, some}
use Prim.Native.Nat.{ℕ, ◌+◌, ◌≤◌, ◌<◌}
use native.Mathlib.Omega.{arith}
use borrow.Author.Tests.{le-leb, lt-leb}
use lib.Dec.{leb}
use lib.ListN.{length}
use Rattle.language.specs.Lists.{choice, Never, inj}
use Rattle.language.specs.World.{World}
use Rattle.language.specs.Program.{world}
use Rattle.std.specs.Prelude.{Some, None}
use Rattle.std.specs.Option.{ok_or}
use Rattle.language.specs.Refusals.{refusal}
use Rattle.fleet.specs.Counts.{Counts, class_refusal, first_place, labels, count_told}
use Rattle.fleet.specs.declared.Labels.{Labels}
use Rattle.classes.specs.Subclasses.{is_below}
use Rattle.counting.specs.declared.Ended.{Ended}
use Rattle.counting.specs.declared.Ended.TheVariants.{In, NoLabel, Lost}
use Rattle.counting.specs.Knowing.{Serves}
use Rattle.counting.specs.Labels.{counted, added, labels_told}
use Rattle.counting.proofs.Knowledge.{count_is}

-- ---- one object more

-- The case of an answer.
pub told_labels : (o : Option Counts) (x : Labels) → Some x ≡ labels_told o
    → o ≡ some (counted x.printed x.spoiled)
told_labels none x q = absurd (cc)
told_labels (some c) x q = let e : x ≡ labels c.printed c.spoiled = cc in rw e

pub told_none : (o : Option Counts) → None ≡ labels_told o → o ≡ none
told_none none q = refl
told_none (some c) q = absurd (cc)

-- The labels, or the refusal in their place.
pub told_or : (o : Option Counts) → ok_or (labels_told o) (refusal class_refusal first_place) ≡ count_told o
told_or none = refl
told_or (some c) = refl

module _ {A : List ℕ} {n : ℕ} (w : Serves A n) (d e p s : ℕ) where
  pub class_unknown : (c : ℕ) → n < c → None ≡ labels_told (added (world w.program) d e p s (In c))
  class_unknown c l = rw (count_is w.program, lt-leb c (length w.program) (omega (arith, w.counted)))

  pub class_counted : (c x y : ℕ) → c ≤ n
      → x ≡ cond (is_below A c d) (p + 1) p → y ≡ cond (is_below A c e) (s + 1) s
      → Some (labels x y) ≡ labels_told (added (world w.program) d e p s (In c))
  class_counted c x y l f g =
      let m : c ≤ length w.program = omega (arith, w.counted) in
      rw (
        count_is w.program,
        le-leb c (length w.program) m,
        f,
        g,
        w.table.below c d m,
        w.table.below c e m,
      )

-- A count rises by at most one.
module _ (W : World) (d e p s : ℕ) where
  rises : (b : Bool) (n : ℕ) → cond b (n + 1) n ≤ n + 1
  rises true n = omega arith
  rises false n = omega arith

  little : (o : Ended) (x y : ℕ) → added W d e p s o ≡ some (counted x y) → (x ≤ p + 1) × (y ≤ s + 1)
  little Lost x y q = absurd (Never q)
  little NoLabel x y q =
      let r : counted p s ≡ counted x y = inj q in
      (omega (arith, ap (λ (c : Counts). c.printed) r), omega (arith, ap (λ (c : Counts). c.spoiled) r))
  little (In c) x y q = go (leb c W.count) q
    where
      go : (b : Bool)
          → choice b (λ _. some (counted (cond (W.below c d) (p + 1) p) (cond (W.below c e) (s + 1) s)))
          (λ _. none)
          ≡ some (counted x y)
          → (x ≤ p + 1) × (y ≤ s + 1)
      go false q = absurd (Never q)
      go true q =
          let r : counted (cond (W.below c d) (p + 1) p) (cond (W.below c e) (s + 1) s) ≡ counted x y =
          inj q in (
            omega (arith, ap (λ (c : Counts). c.printed) r, rises (W.below c d) p),
            omega (arith, ap (λ (c : Counts). c.spoiled) r, rises (W.below c e) s),
          )

  pub added_little : (o : Ended) (x : Labels) → Some x ≡ labels_told (added W d e p s o)
      → (x.printed ≤ p + 1) × (x.spoiled ≤ s + 1)
  added_little o x q = little o x.printed x.spoiled (told_labels (added W d e p s o) x q)
