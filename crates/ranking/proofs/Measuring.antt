-- How long lines are: of lists together, of the same lines in another order.
use mathlib.Core.Path.{◌≡◌, refl, sym, ◌∙◌}
use mathlib.Core.List.{List, [], ◌∷◌, ◌++◌}
use Prim.Native.Nat.{ℕ, ◌+◌, ◌-◌, ◌≤◌, ◌<◌}
use native.Mathlib.Omega.{arith}
use lib.ListN.{length, length-append}
use Rattle.fleet.specs.Ranking.{Counted, line_of, lines_of, ranked}
use Rattle.fleet.specs.LineLists.{Permuted, permuted_nil, permuted_cons, permuted_swap, permuted_then}
use Rattle.fleet.proofs.Sorting.{ranked_permuted}
use Rattle.std.specs.Prelude.{Option as Found, Some, None}
use Rattle.std.specs.Option.{SomeIff}
use Rattle.ranking.specs.Judging.{Measured}

pub lines_append : (xs ys : List Counted)
    → length (lines_of (xs ++ ys)) ≡ length (lines_of xs) + length (lines_of ys)
unfolding lines_of
lines_append [] ys = omega arith
lines_append (x ∷ xs) ys =
    rw (length-append (line_of x) (lines_of (xs ++ ys)), length-append (line_of x) (lines_of xs))
    (omega (arith, lines_append xs ys))

pub lines_permuted : {xs ys : List Counted} → Permuted xs ys → length (lines_of xs) ≡ length (lines_of ys)
unfolding lines_of
lines_permuted permuted_nil = refl
lines_permuted (permuted_cons {a = x} {xs} {ys} h) =
    rw (length-append (line_of x) (lines_of xs), length-append (line_of x) (lines_of ys))
    (omega (arith, lines_permuted h))
lines_permuted (permuted_swap {a = x} {b = y} {xs}) =
    rw (
      length-append (line_of x) (line_of y ++ lines_of xs),
      length-append (line_of y) (lines_of xs),
      length-append (line_of y) (line_of x ++ lines_of xs),
      length-append (line_of x) (lines_of xs),
    ) (omega arith)
lines_permuted (permuted_then h k) = lines_permuted h ∙ lines_permuted k

pub lines_ranked : (ds : List Counted) → length (lines_of (ranked ds)) ≡ length (lines_of ds)
lines_ranked ds = sym (lines_permuted (ranked_permuted ds))

-- The room after more lines.
module _ (bytes : ℕ) (ds es : List Counted) (more : ℕ) (e : more ≡ length (lines_of es)) where
  pub room_used : (left : ℕ) → Measured bytes (Some left) ds → (r : Found ℕ)
      → SomeIff r (more ≤ left) (left - more) → Measured bytes r (ds ++ es)
  room_used left m (Some k) s = rw (lines_append ds es) (omega (arith, s, e))
  room_used left m None s = rw (lines_append ds es) (omega (arith, s, e))

pub room_none : (bytes : ℕ) (ds es : List Counted) → bytes < length (lines_of ds)
    → bytes < length (lines_of (ds ++ es))
room_none bytes ds es m = rw (lines_append ds es) (omega arith)
