-- Laws of fields and of the numbers in them. Assumes nothing.
use mathlib.Core.Path.{◌≡◌, refl, sym, ap, ◌∙◌}
use mathlib.Core.Bool.{Bool, true, false, cond}
use Rattle.std.proofs.lemmas.List.{take_all}
use mathlib.Core.List.{List, [], ◌∷◌}
use Prim.Native.Nat.{ℕ, suc, ◌+◌, ◌≤◌, ◌<◌}
use native.Mathlib.Numerals.{add-one}
use native.Mathlib.Omega.{arith}
use borrow.Author.Tests.{ne_eqb, eq-eqb, ltb-false}
use lib.Dec.{ltb}
use lib.ListN.{length, get_or, take, drop, drop_of_length-le}
use lib.Seq.{drop-cons}
use Rattle.std.specs.Prelude.{Option, Some, None}
use Rattle.std.specs.List.{position_or_len, position}
use Rattle.language.specs.Decimals.{decimal_of}
use Rattle.language.specs.TextLines.{field, is_end, taken, number_of}
use Rattle.fields.specs.Places.{taken_at, number_at}

-- a field ends at the first byte that ends one, or with the text
field_first_end : (s : List ℕ) → take (position_or_len is_end s) s ≡ field s
unfolding field
field_first_end [] = refl
field_first_end (b ∷ s) = go (is_end b) refl (field_first_end s)
  where
    go : (t : Bool) → is_end b ≡ t → take (position_or_len is_end s) s ≡ field s
        → take (position_or_len is_end (b ∷ s)) (b ∷ s) ≡ cond t [] (b ∷ field s)
    go true e ih = rw e refl
    go false e ih =
        let n : 1 + position_or_len is_end s ≡ suc (position_or_len is_end s) = omega arith in
        rw (e, n) (ap (λ (r : List ℕ). b ∷ r) ih)

pub field_cut : (s : List ℕ) (n : ℕ) → position is_end s ≡ Some n → take n s ≡ field s
field_cut s n e = go (ltb (position_or_len is_end s) (length s)) e
  where
    go : (t : Bool) → cond t (Some (position_or_len is_end s)) None ≡ Some n → take n s ≡ field s
    go true e = let q : position_or_len is_end s ≡ n = cc in rw (← q) (field_first_end s)
    go false e = absurd (cc)

pub field_whole : (s : List ℕ) → position is_end s ≡ None → s ≡ field s
field_whole s e = go (ltb (position_or_len is_end s) (length s)) refl e
  where
    go : (t : Bool) → ltb (position_or_len is_end s) (length s) ≡ t
        → cond t (Some (position_or_len is_end s)) None ≡ None → s ≡ field s
    go true q e = absurd (cc)
    go false q e = sym (take_all _ s (ltb-false _ _ q)) ∙ field_first_end s

-- the number at a place: past the end none, and none without a tab
module _ (at : ℕ) (s : List ℕ) where
  pub number_past : length s ≤ at → None ≡ number_at at s
  unfolding number_of
  number_past h = rw (drop_of_length-le s h)

  module _ (h : at < length s) where
    pub number_no_tab : (get_or s at 0 ≡ 9 → ⊥) → None ≡ number_at at s
    unfolding number_of
    number_no_tab n = rw (drop-cons s at 0 h, ne_eqb (get_or s at 0) 9 n)

    module _ (t : get_or s at 0 ≡ 9) (f : List ℕ) (e : f ≡ field (drop (at + 1) s)) where
      number-here : number_of (drop at s) ≡ taken (1 + length f) (decimal_of f)
      unfolding number_of
      number-here = rw (drop-cons s at 0 h, eq-eqb (get_or s at 0) 9 t, ← add-one at, ← e)

      pub number_bad : decimal_of f ≡ None → None ≡ number_at at s
      number_bad d = rw (number-here, d)

      pub number_good : (v : ℕ) → decimal_of f ≡ Some v
          → Some (v, at + 1 + length f) ≡ number_at at s
      number_good v d = let q : at + 1 + length f ≡ at + (1 + length f) = omega arith in
          rw (number-here, d, q)

-- a number found at a place of a text, counted from there
pub taken_inv : {A : Type 0} (p a q : ℕ) (t : Option (ℕ × ℕ)) → taken_at p t ≡ Some (a, q)
    → ((n : ℕ) → t ≡ Some (a, n) → q ≡ p + n → A) → A
taken_inv p a q (Some n) e k =
    let f : (n.0, p + n.1) ≡ (a, q) = cc in
    k n.1 (ap (λ (x : ℕ × ℕ). Some (x.0, n.1)) f) (sym (ap (λ (x : ℕ × ℕ). x.1) f))
taken_inv p a q None e k = absurd (cc)

pub none_inv : (p : ℕ) (t : Option (ℕ × ℕ)) → taken_at p t ≡ None → t ≡ None
none_inv p (Some n) e = absurd (cc)
none_inv p None e = refl
