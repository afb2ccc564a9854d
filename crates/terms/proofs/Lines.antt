-- Laws of a term's line, number by number. Assumes nothing.
use mathlib.Core.Path.{◌≡◌}
use mathlib.Core.List.{List}
use Prim.Native.Nat.{ℕ, ◌+◌, ◌-◌, ◌≤◌, ◌<◌}
use borrow.Author.Tests.{eq-eqb, ne_eqb}
use native.Mathlib.Omega.{arith}
use lib.ListN.{length, get_or, take, drop, length-drop, drop_of_length-le}
use lib.Seq.{drop-cons, take_all}
use Rattle.std.specs.Prelude.{Option, Some, None}
use Rattle.language.specs.Decimals.{decimal_of}
use Rattle.language.specs.TextLines.{field}
use Rattle.fields.specs.Places.{number_at}
use Rattle.prices.specs.Terms.{first_number, term_numbers, ended, term_line}
use Rattle.prices.specs.declared.TermLine.{TermLine}

-- the number that a line begins with
module _ (s f : List ℕ) (e : f ≡ field s) where
  pub first_bad : decimal_of f ≡ None → None ≡ first_number s
  first_bad d = rw (← e, d)

  pub first_good : (v : ℕ) → decimal_of f ≡ Some v → Some (v, (length f)) ≡ first_number s
  first_good v d = rw (← e, d)

-- the line feed: none past the end, else the byte there
module _ (model first last cents signing at : ℕ) (s : List ℕ) where
  pub ended_past : length s ≤ at → None ≡ ended model first last cents signing at (drop at s)
  unfolding ended
  ended_past h = rw (drop_of_length-le s h)

  module _ (h : at < length s) where
    pub ended_other : (get_or s at 0 ≡ 10 → ⊥) → None ≡ ended model first last cents signing at (drop at s)
    unfolding ended
    ended_other n = rw (drop-cons s at 0 h, ne_eqb (get_or s at 0) 10 n)

    pub ended_feed : get_or s at 0 ≡ 10
        → Some (term_numbers model first last cents signing (at + 1))
        ≡ ended model first last cents signing at (drop at s)
    unfolding ended
    ended_feed e = rw (drop-cons s at 0 h, eq-eqb (get_or s at 0) 10 e)

-- a line whose first, second, … number is missing, and one with all five
module _ (s : List ℕ) where
  pub no_first : first_number s ≡ None → None ≡ term_line s
  unfolding term_line
  no_first e = rw e

  module _ {model a : ℕ} (one : first_number s ≡ Some (model, a)) where
    pub no_second : number_at a s ≡ None → None ≡ term_line s
    unfolding term_line
    no_second e = rw (one, e)

    module _ {first b : ℕ} (two : number_at a s ≡ Some (first, b)) where
      pub no_third : number_at b s ≡ None → None ≡ term_line s
      unfolding term_line
      no_third e = rw (one, two, e)

      module _ {last c : ℕ} (three : number_at b s ≡ Some (last, c)) where
        pub no_fourth : number_at c s ≡ None → None ≡ term_line s
        unfolding term_line
        no_fourth e = rw (one, two, three, e)

        module _ {cents d : ℕ} (four : number_at c s ≡ Some (cents, d)) where
          pub no_fifth : number_at d s ≡ None → None ≡ term_line s
          unfolding term_line
          no_fifth e = rw (one, two, three, four, e)

          pub all_five : {signing e : ℕ} {r : Option TermLine} → number_at d s ≡ Some (signing, e)
              → r ≡ ended model first last cents signing e (drop e s) → r ≡ term_line s
          unfolding term_line
          all_five five q = rw (one, two, three, four, five) q

-- the line that the part of a text from a place on begins with
pub term_at : (at : ℕ) (s : List ℕ) {r : Option TermLine} → term_line (take (length s - at) (drop at s)) ≡ r
    → term_line (drop at s) ≡ r
term_at at s e = rw (take_all (length s - at) (drop at s) (omega (arith, length-drop at s))) at e
