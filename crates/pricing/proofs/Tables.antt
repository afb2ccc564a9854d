-- The prices that a table of the terms that rule has. Assumes nothing.
use mathlib.Core.Path.{◌≡◌, refl}
use mathlib.Core.List.{List}
use mathlib.Core.Option.{Option, none, some}
use Rattle.std.specs.Prelude.{Option as Kept, None}
use Prim.Native.Nat.{ℕ, ◌+◌, ◌≤◌, ◌<◌}
use native.Mathlib.Omega.{arith}
use lib.ListN.{get_or}
use Rattle.language.specs.Limits.{largest}
use Rattle.language.specs.WellFormed.{Each}
use Rattle.prices.specs.Terms.{Term}
use Rattle.prices.specs.Prices.{ruling, price_of}
use Rattle.prices.specs.Reports.{cents_on, cents_of}
use Rattle.terms.specs.declared.Entry.{Entry}
use Rattle.terms.specs.Tables.{Ruled, kept}
use Rattle.prices.proofs.Terms.{TermInRange}
use Rattle.prices.proofs.Rulings.{ruling_each}
use Rattle.pricing.specs.Runs.{Priced, cents_kept, price_kept}

kept_cents : (o : Option Term) → cents_of o ≡ cents_kept (kept o)
kept_cents none = refl
kept_cents (some t) = refl

kept_price : (o : Option Term) → price_kept (kept o) ≡ price_of o
kept_price none = refl
kept_price (some t) = refl

module _ {model day count : ℕ} {table : List (Kept Entry)} {ts : List Term} (r : Ruled model day count table ts)
  where
    -- the table has the prices of the terms that rule, whose cents are in range
    pub ruled_priced : Each TermInRange ts → Priced (cents_on model ts) day count table
    ruled_priced range = record {
      long = r.long;
      each = λ i l. rw (r.each i l) (kept_cents (ruling model (day + i) ts));
      small = λ i c l e. small_at i c (ruling model (day + i) ts) refl (rw (r.each i l) at e);
    }
      where
        small_at : (i c : ℕ) (o : Option Term) → ruling model (day + i) ts ≡ o → cents_kept (kept o) ≡ some c
            → c ≤ largest
        small_at i c none q e = absurd (cc)
        small_at i c (some t) q e = let w : t.cents ≡ c = cc in
            omega (arith, w, (ruling_each model (day + i) ts t range q).cents_to)

    -- the first day's price, by the term that rules
    pub ruled_first : 0 < count → price_kept (get_or table 0 None) ≡ price_of (ruling model day ts)
    ruled_first h =
        let e : day + 0 ≡ day = omega arith in
        rw (r.each 0 h, e) (kept_price (ruling model day ts))
