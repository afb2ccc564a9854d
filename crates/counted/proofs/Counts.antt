-- Counted lines by their places.
use mathlib.Core.Path.{◌≡◌, refl, ap, ◌∙◌}
use mathlib.Core.Bool.{Bool, true, false}
use mathlib.Core.Option.{Option, none, some}
use mathlib.Core.List.{List, ◌∷◌}
use Prim.Native.Nat.{ℕ, zero, suc, ◌+◌, ◌*◌, ◌/◌, ◌≤◌, ◌<◌}
use native.Mathlib.Omega.{arith}
use native.Mathlib.Nat.{add-zero}
use borrow.Author.Tests.{le-leb, lt-leb}
use lib.ListN.{length, get_or, drop}
use lib.Seq.{get_or-drop, drop-drop}
use lib.Dec.{leb}
use Rattle.language.specs.Lists.{nth, choice}
use Rattle.fleet.specs.Ranking.{Counted}
use Rattle.counted.specs.Scanning.{all_models, Modelled, modelled_nil, modelled_none, modelled_some}
use Rattle.fleet.specs.Entries.{entry}
use Rattle.fleet.specs.Fleet.{counted_line, lines_in, counted_lines}

nth_lines : (n : ℕ) (ns : List ℕ) (i : ℕ) → i < n
    → nth (lines_in n ns) i ≡ some (counted_line (drop (i * 4) ns))
unfolding nth lines_in
nth_lines zero ns i l = absurd (omega arith)
nth_lines (suc n) ns zero l = refl
nth_lines (suc n) ns (suc i) l =
    let q : 4 + i * 4 ≡ suc i * 4 = omega arith in
    nth_lines n (drop 4 ns) i (omega (arith, l))
    ∙ ap (λ (z : List ℕ). some (counted_line z)) (drop-drop (i * 4) 4 ns ∙ ap (λ (k : ℕ). drop k ns) q)

module _ (ns : List ℕ) (i : ℕ) (l : i * 4 + 3 < length ns) where
  line : nth (counted_lines ns) i ≡ some (counted_line (drop (i * 4) ns))
  unfolding counted_lines
  line = nth_lines (length ns / 4) ns i (omega (arith, l))

  at : (k : ℕ) → get_or (drop (i * 4) ns) k 0 ≡ get_or ns (i * 4 + k) 0
  at k = get_or-drop (i * 4) ns k 0

  first : get_or (drop (i * 4) ns) 0 0 ≡ get_or ns (i * 4) 0
  first = at 0 ∙ ap (λ (k : ℕ). get_or ns k 0) (add-zero (i * 4))

  pub line_counts : (entry ns i).spoiled ≤ (entry ns i).printed → nth (counted_lines ns) i
      ≡ some (some (entry ns i))
  unfolding entry
  line_counts h = line
      ∙ rw (first, at 1, at 2, at 3, le-leb (get_or ns (i * 4 + 2) 0) (get_or ns (i * 4 + 1) 0) h) refl

  pub line_not : (entry ns i).printed < (entry ns i).spoiled → nth (counted_lines ns) i ≡ some none
  unfolding entry
  line_not h = line ∙ rw (first, at 1, at 2, at 3, lt-leb (get_or ns (i * 4 + 2) 0) (get_or ns (i * 4 + 1) 0) h)
      refl

-- How many lines there are, and that their models are numbers of 32 bits.
lines_long : (n : ℕ) (ns : List ℕ) → length (lines_in n ns) ≡ n
unfolding lines_in
lines_long zero ns = refl
lines_long (suc n) ns = ap suc (lines_long n (drop 4 ns))

pub counts_long : (ns : List ℕ) → length (counted_lines ns) ≡ length ns / 4
unfolding counted_lines
counts_long ns = lines_long (length ns / 4) ns

abbrev pub Small32 : List ℕ → Type 0
Small32 ns = (i : ℕ) → get_or ns i 0 < all_models

pub small_drop : (n : ℕ) (ns : List ℕ) → Small32 ns → Small32 (drop n ns)
small_drop n ns h i = rw (get_or-drop n ns i 0) (h (n + i))

modelled_lines : (n : ℕ) (ns : List ℕ) → Small32 ns → Modelled (lines_in n ns)
unfolding lines_in
modelled_lines zero ns h = modelled_nil
modelled_lines (suc n) ns h =
    go (leb (get_or ns 2 0) (get_or ns 1 0)) (modelled_lines n (drop 4 ns) (small_drop 4 ns h))
  where
    go : (b : Bool) {ls : List (Option Counted)} → Modelled ls
        → Modelled (choice b (λ _. some (record {
          model = get_or ns 0 0;
          printed = get_or ns 1 0;
          spoiled = get_or ns 2 0;
          cents = get_or ns 3 0;
        })) (λ _. none) ∷ ls)
    go true m = modelled_some (h 0) m
    go false m = modelled_none m

pub modelled_counts : (ns : List ℕ) → Small32 ns → Modelled (counted_lines ns)
unfolding counted_lines
modelled_counts ns h = modelled_lines (length ns / 4) ns h
