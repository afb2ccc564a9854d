-- The tables that a scan begins with. Assumes nothing.
use mathlib.Core.Path.{◌≡◌}
use mathlib.Core.List.{[]}
use Prim.Native.Nat.{ℕ, ◌+◌, ◌/◌, ◌%◌, ◌≤◌}
use native.Mathlib.Omega.{arith}
use lib.ListN.{get_or, replicate, length-replicate, get_or-replicate}
use Rattle.std.specs.Prelude.{Option as Kept, None}
use Rattle.language.proofs.Effects.{member_none}
use Rattle.prices.specs.Terms.{is_signed}
use Rattle.prices.specs.Prices.{ruling}
use Rattle.terms.specs.declared.Entry.{Entry}
use Rattle.terms.specs.Tables.{Marks, Ruled}

-- nothing is marked in a fresh table of marks
pub marks_none : Marks (replicate {A = ℕ} 1024 0) []
unfolding is_signed
marks_none = record {
  long = length-replicate {A = ℕ} 1024 0;
  each = λ n h.
      let e : get_or (replicate {A = ℕ} 1024 0) (n / 64) 0 ≡ 0 =
      get_or-replicate {A = ℕ} 1024 (n / 64) 0 0 (omega (arith, h)) in
      rw e (member_none (n % 64 + 1));
}

-- no term rules in a fresh table of days
pub ruled_none : (model day count : ℕ) → count ≤ 31
    → Ruled model day count (replicate {A = Kept Entry} 31 None) []
unfolding ruling
ruled_none model day count h = record {
  long = length-replicate {A = Kept Entry} 31 None;
  each = λ i l. get_or-replicate {A = Kept Entry} 31 i None None (omega (arith, h, l));
}
