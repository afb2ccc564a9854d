-- Laws of the scan over a text of terms: what holds between two lines, and what is told. Assumes nothing.
use mathlib.Core.Path.{◌≡◌, refl, sym, ap, ◌∙◌}
use mathlib.Core.Bool.{true, false}
use mathlib.Core.List.{List, [], ◌∷◌, ◌++◌}
use Prim.Native.Nat.{ℕ, ◌+◌, ◌/◌, ◌%◌, ◌≤◌, ◌<◌, ◌-◌}
use native.Mathlib.Omega.{arith}
use lib.ListN.{length, drop, get_or, set, length-append, length-drop}
use Rattle.language.specs.Effects.{join, effect_of}
use Rattle.language.specs.Results.{refuse}
use Rattle.std.specs.Prelude.{Option as Kept, Some, None, Ok, Err}
use Rattle.terms.specs.declared.Entry.{Entry}
use Rattle.language.specs.Refusals.{refusal}
use Rattle.prices.specs.Terms.{Term, term_numbers, term_line, is_signed, next_line, terms_after, terms_of}
use Rattle.terms.specs.Tables.{entry, is_marked, Marks, Ruled, RuledBy}
use Rattle.prices.proofs.Terms.{next_term, Seen, seen_none, seen_few, seen_more, LineInRange, term_line_range}
use Rattle.prices.proofs.Terms.{terms_end, terms_malformed, terms_reversed, terms_repeated, terms_more}
use Rattle.terms.specs.Entering.{term_entered}
use Rattle.terms.proofs.Entering.{ruled_more}
use Rattle.terms.proofs.Marking.{marks_more}

-- Between two lines the terms of the text are those seen and those of the rest.
pub record Scanning (text : List ℕ) (model day count : ℕ) (marks : List ℕ) (table : List (Kept Entry)) (at line : ℕ) : Type 0 where
  pub seen : List Term
  pub left : terms_of text ≡ terms_after seen 0 (drop at text)
  pub within : at ≤ length text
  pub here : line ≡ next_line seen
  pub marked : Marks marks seen
  pub ruled : Ruled model day count table seen
  pub good : Seen seen

pub scan_start : (text : List ℕ) (model day count : ℕ) (marks : List ℕ) (table : List (Kept Entry)) → Marks marks []
    → Ruled model day count table [] → Scanning text model day count marks table 0 1
scan_start text model day count marks table m r =
    record {
      seen = [];
      left = refl;
      within = omega arith;
      here = refl;
      marked = m;
      ruled = r;
      good = seen_none;
    }

module _ {text : List ℕ} {model day count : ℕ} {marks : List ℕ} {table : List (Kept Entry)} {at line : ℕ}
    (p : Scanning text model day count marks table at line) where
  -- There are at most 65,536 terms, each with a signing number of its own.
  pub scan_line : (1 ≤ line) × (line ≤ 65537)
  scan_line = let few = seen_few p.good in (omega (arith, p.here), omega (arith, p.here, few))

  pub scan_done : length text ≤ at
      → RuledBy text model day count (Ok (record { terms = line - 1; table = table }))
  scan_done h = (p.seen, p.left ∙ terms_end p.seen at text h, omega (arith, p.here), p.ruled)

  refused : (number : ℕ) → terms_after p.seen 0 (drop at text) ≡ refuse number (next_line p.seen)
      → RuledBy text model day count (Err (refusal number line))
  refused number e = p.left ∙ (e ∙ ap (λ (n : ℕ). refuse number n) (sym p.here))

  module _ (h : at < length text) where
    pub scan_malformed : term_line (drop at text) ≡ None
        → RuledBy text model day count (Err (refusal 1 line))
    scan_malformed e = refused 1 (terms_malformed p.seen at text h e)

    module _ (m f l c g u : ℕ) (e : term_line (drop at text) ≡ Some (term_numbers m f l c g u)) where
      line-range : LineInRange (drop at text) m f l c g u
      line-range = term_line_range (drop at text) m f l c g u e

      -- the numbers in range, and the line's end in the text
      pub scan_signing : g ≤ 65535
      scan_signing = line-range.signing_to

      pub scan_used : (1 ≤ u) × (at + u ≤ length text)
      scan_used = (line-range.used_from, omega (arith, line-range.used_to, length-drop at text, h))

      pub scan_reversed : l < f → RuledBy text model day count (Err (refusal 23 line))
      scan_reversed q = refused 23 (terms_reversed p.seen at text h m f l c g u e q)

      pub scan_repeated : is_marked marks g ≡ true → RuledBy text model day count (Err (refusal 23 line))
      scan_repeated q = refused 23
          (terms_repeated p.seen at text h m f l c g u e (sym (p.marked.each g scan_signing) ∙ q))

      pub scan_step : (marks' : List ℕ) (table' : List (Kept Entry)) → f ≤ l → is_marked marks g ≡ false → count ≤ 31
          → marks' ≡ set marks (g / 64) (join (get_or marks (g / 64) 0) (effect_of (g % 64 + 1)))
          → table' ≡ term_entered model day count m f l (entry line g c) table
          → Scanning text model day count marks' table' (at + u) (line + 1)
      scan_step marks' table' days fresh few v w =
          let new : is_signed g p.seen ≡ false = sym (p.marked.each g scan_signing) ∙ fresh in
          record {
            seen = p.seen ++ (next_term p.seen m f l c g ∷ []);
            left = p.left ∙ terms_more p.seen at text h m f l c g u e days new line-range.used_from;
            within = scan_used.1;
            here = let n = length-append p.seen (next_term p.seen m f l c g ∷ []) in
                omega (arith, p.here, n);
            marked = marks_more (next_term p.seen m f l c g) marks' p.marked scan_signing v;
            ruled = rw (w, p.here) (ruled_more p.ruled few m f l c g);
            good = seen_more p.good line-range new;
          }
