-- Laws of the lines of one letter that follow one another in a heading, and of the lines of a method. Assumes nothing.
use mathlib.Core.Path.{◌≡◌, ap, ◌∙◌}
use mathlib.Core.Bool.{Bool, true, false, not, cond}
use mathlib.Core.List.{List}
use Prim.Native.Nat.{ℕ, zero, suc, ◌+◌, ◌-◌, ◌*◌, ◌/◌, ◌<◌}
use native.Mathlib.Omega.{arith}
use borrow.Author.Tests.{eq-eqb, ne_eqb, lt-ltb}
use lib.Dec.{eqb, ltb}
use lib.ListN.{length, get_or}
use Rattle.std.specs.Prelude.{Option, Some, None}
use Rattle.std.specs.List.{prefix_len, position_or_len, range_with_len}
use Rattle.std.proofs.lemmas.List.FromFn.{length-range_with_len}
use Rattle.language.specs.Limits.{of_check}
use Rattle.language.specs.Tree.{Declaration, heading_lines, method_lines}
use Rattle.language.specs.Layout.{Run, MethodAt, body_row}
use Rattle.language.specs.WellFormed.{MethodInForm}
use Rattle.language.proofs.Lines.{run_unique}
use Rattle.layout.specs.HeadingRuns.{block_here, parameters_run, effects_run}
use Rattle.layout.specs.Walks.{MethodStanding}

-- how many of some numbers in order pass a test that the first n alone pass
prefix_is : (q : ℕ → Bool) (r n m : ℕ) → ((i : ℕ) → i < n → q (r + i) ≡ true) → q (r + n) ≡ false → n < m
    → prefix_len q (range_with_len r m) ≡ n
prefix_is q r n zero f e l = absurd (omega (arith, l))
prefix_is q r zero (suc m) f e l = let z : q r ≡ false = ap q (omega arith) ∙ e in rw z
prefix_is q r (suc n) (suc m) f e l =
    let z : q r ≡ true = ap q (omega arith) ∙ f 0 (omega arith) in
    let more = prefix_is q (r + 1) n m
    (λ i h. ap q (omega arith) ∙ f (suc i) (omega (arith, h))) (ap q (omega arith) ∙ e) (omega (arith, l)) in
    rw (z, more) (omega arith)

module _ {R : List ℕ} {l r n : ℕ} (w : Run R l r n) where
  pub first_other : position_or_len (λ i. not (eqb (get_or R (i * 4) 0) l)) (range_with_len r (length R / 4 - r)) ≡ n
  first_other = prefix_is (λ i. not (not (eqb (get_or R (i * 4) 0) l))) r n (length R / 4 - r)
      (λ i h. ap (λ b. not (not b)) (eq-eqb _ _ (w.each i h))) (ap (λ b. not (not b)) (ne_eqb _ _ w.other))
      (omega (arith, w.inside))

  -- the first row with another letter is found, as many rows on as the run has
  pub run_found : (o : Option ℕ)
      → o ≡ cond (ltb (position_or_len (λ i. not (eqb (get_or R (i * 4) 0) l)) (range_with_len r (length R / 4 - r)))
      (length (range_with_len r (length R / 4 - r))))
      (Some (position_or_len (λ i. not (eqb (get_or R (i * 4) 0) l)) (range_with_len r (length R / 4 - r)))) None
      → o ≡ Some n
  run_found o e = e ∙ rw (
    first_other,
    length-range_with_len r (length R / 4 - r),
    lt-ltb n (length R / 4 - r) (omega (arith, w.inside)),
  )

-- ---- a method

module _ {R E : List ℕ} {m : Declaration} {r : ℕ} (h : MethodAt R E m r) (f : MethodInForm of_check m) where
  module _ (p : ℕ) (v : Run R 80 (r + 1) p) where
    pub parameters_count : p ≡ length m.parameters
    parameters_count = run_unique v (parameters_run h f)

    pub effects_after : Run R 88 (r + 1 + p) (length m.effects)
    effects_after = rw parameters_count (effects_run h f)

    pub effects_count : (x : ℕ) → Run R 88 (r + 1 + p) x → x ≡ length m.effects
    effects_count x v = run_unique v effects_after

-- ---- skipping a method, a class

module _ {R E : List ℕ} {r : ℕ} (w : MethodStanding R E r) where
  pub method_parameters : (n : ℕ) × Run R 80 (r + 1) n
  method_parameters = (length w.method.parameters, parameters_run w.at w.in_form)

  module _ (p : ℕ) (v : Run R 80 (r + 1) p) where
    pub method_effects : (n : ℕ) × Run R 88 (r + 1 + p) n
    method_effects = (length w.method.effects, effects_after w.at w.in_form p v)

    -- the block after both
    pub method_block : (x : ℕ) → Run R 88 (r + 1 + p) x
        → (r + 1 + p + x < length E) × ((r + 1 + p + x) * 4 < length R)
        × (get_or E (r + 1 + p + x) 0 ≡ r + method_lines w.method)
    unfolding method_lines heading_lines
    method_block x u =
        let a = parameters_count w.at w.in_form p v in
        let c = effects_count w.at w.in_form p v x u in
        let b = (block_here w.at w.in_form).node in
        let e : r + 1 + p + x ≡ body_row r w.method = omega (arith, a, c) in (
          omega (arith, b.in_ends, e),
          omega (arith, b.row.within, e),
          ap (λ (i : ℕ). get_or E i 0) e ∙ (b.end ∙ omega arith),
        )
