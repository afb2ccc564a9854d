-- What is known of rows tells their verdict, and serves to count. Assumes nothing.
use mathlib.Core.Path.{◌≡◌, refl, sym, ap, ◌∙◌}
use mathlib.Core.Bool.{true, false, ◌&&◌}
use mathlib.Core.List.{List}
use Prim.Native.Nat.{ℕ, ◌≤◌}
use native.Mathlib.Omega.{arith}
use borrow.Author.Tests.{eq-eqb, ne_eqb, leb-true}
use lib.Dec.{leb, ltb}
use lib.ListN.{length}
use Rattle.language.specs.Results.{Checked, accept, refuse}
use Rattle.language.specs.Tree.{Class, Program}
use Rattle.language.specs.World.{World}
use Rattle.language.specs.Program.{world, world_with}
use Rattle.language.specs.Verdict.{check}
use Rattle.language.proofs.Booleans.{and_inv}
use Rattle.fleet.specs.Counts.{is_declared, relates}
use Rattle.classes.specs.Subclasses.{is_below}
use Rattle.std.specs.Prelude.{Option, Some, None}
use Rattle.counting.specs.Knowing.{classes_known, Knows, Serves, declares}

-- ---- the verdict

known_accepted : (c : Checked Program) (n : ℕ) → Some n ≡ classes_known c
    → (p : Program) × (c ≡ accept p) × (length p.classes ≡ n)
known_accepted (accept p) n e = let a : length p.classes ≡ n = cc in (p, refl, a)
known_accepted (refuse i l) n e = absurd (cc)

known_refused : (c : Checked Program) → None ≡ classes_known c
    → (i : ℕ) × (l : ℕ) × (c ≡ refuse i l)
known_refused (accept p) e = absurd (cc)
known_refused (refuse i l) e = (i, l, refl)

module _ {R A : List ℕ} {known : Option ℕ} (k : Knows R A known) where
  pub accepted : (n : ℕ) → known ≡ Some n
      → (p : Program) × (check R ≡ accept p) × (length p.classes ≡ n)
  accepted n e = known_accepted (check R) n (sym e ∙ k.verdict)

  pub is_refused : known ≡ None → (i : ℕ) × (l : ℕ) × (check R ≡ refuse i l)
  is_refused e = known_refused (check R) (sym e ∙ k.verdict)

  -- The table serves for the program's classes.
  abbrev pub serving : (n : ℕ) → known ≡ Some n → Serves A n
  serving n e = let x = accepted n e in record {
    program = x.0.classes;
    counted = x.2;
    table = k.tells x.0 x.1;
  }

-- ---- two classes that are related

pub count_is : (P : List Class) → (world P).count ≡ length P
unfolding world world_with
count_is P = refl

module _ {A : List ℕ} {n : ℕ} (w : Serves A n) (d e : ℕ) where
  abbrev W : World
  W = world w.program

  declared_is : (c : ℕ) → is_declared W c ≡ declares n c
  declared_is c = ap (λ (k : ℕ). ltb 0 c && leb c k) (count_is w.program ∙ w.counted)

  pub printed_unknown : declares n d ≡ false → false ≡ relates W d e
  printed_unknown q = rw (declared_is d, q)

  module _ (p : declares n d ≡ true) where
    pub spoiled_unknown : declares n e ≡ false → false ≡ relates W d e
    spoiled_unknown q = rw (declared_is d, p, declared_is e, q)

    module _ (q : declares n e ≡ true) where
      pub spoiled_printed : e ≡ d → false ≡ relates W d e
      spoiled_printed f = rw (declared_is d, p, declared_is e, q, eq-eqb e d f)

      pub spoiled_below : (e ≡ d → ⊥) → is_below A e d ≡ relates W d e
      spoiled_below f =
          let l : e ≤ n = leb-true e n (and_inv (ltb 0 e) (leb e n) q).1 in
          rw (declared_is d, p, declared_is e, q, ne_eqb e d f) (w.table.below e d (omega (arith, w.counted)))

  -- Related classes are among the 64 that a set has room for.
  pub related_low : relates W d e ≡ true → (d ≤ 64) × (e ≤ 64)
  related_low q =
      let x = and_inv (is_declared W d) _ q in
      let y = and_inv (is_declared W e) _ x.1 in
      (low d x.0, low e y.0)
    where
      low : (c : ℕ) → is_declared W c ≡ true → c ≤ 64
      low c q = omega (
        arith,
        leb-true c W.count (and_inv (ltb 0 c) _ q).1,
        count_is w.program,
        w.table.few,
      )
