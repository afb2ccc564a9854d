-- How summing ends: with the sums of all lines, at a line past the largest sum, or at one that is not counted.
-- Assumes nothing.
use mathlib.Core.Path.{◌≡◌, refl, sym, ap, ◌∙◌, subst}
use mathlib.Core.Logic.{◌↔◌, ◌⊎◌, inl, inr}
use Prim.Native.Nat.{ℕ, suc, ◌+◌, ◌<◌}
use native.Mathlib.Nat.{zero-add}
use native.Mathlib.Omega.{arith}
use borrow.Author.Tests.{eqb-true, eqb-false, leb-true, le-leb}
use mathlib.Core.Bool.{Bool, true, false, ◌&&◌}
use mathlib.Core.List.{List, [], ◌∷◌, ◌++◌, map}
use mathlib.Core.Option.{Option, none, some}
use lib.Dec.{eqb, leb}
use lib.ListN.{length}
use Rattle.language.specs.Lists.{choice}
use Rattle.language.specs.Results.{Checked, accept, refuse, require, accept≢refuse, accept_injective}
use Rattle.language.specs.WellFormed.{Each, each_nil, each_cons}
use Rattle.language.proofs.Booleans.{false≢, and_inv}
use Rattle.fleet.specs.Ranking.{Counted, most_sum, sum_refusal, is_within, all_within, plus, add, sums_from}
use Rattle.fleet.specs.Ranking.{sums}
use Rattle.fleet.specs.LineLists.{Other}
use Rattle.fleet.proofs.Summing.{sums_with, add_within}
use Rattle.promises.specs.Totals.{Has, has_here, has_later, totals, Within, NonePast, SumsRefusal}
use Rattle.promises.specs.Totals.{past_largest, not_counted, SumsOfLines}
use Rattle.promises.proofs.fleets.SumLaws.{added, total_none, added_sums}

-- Sums grow.
and_of : (a b : Bool) → a ≡ true → b ≡ true → (a && b) ≡ true
and_of a b e f = rw (e, f)

less_within : (a b : ℕ) → leb (a + b) most_sum ≡ true → leb a most_sum ≡ true
less_within a b e = let h = leb-true (a + b) most_sum e in le-leb a most_sum (omega arith)

plus_within : (d c : Counted) → is_within (plus d c) ≡ true → is_within d ≡ true
plus_within d c e =
    let h = and_inv (leb (d.printed + c.printed) most_sum)
    (leb (d.spoiled + c.spoiled) most_sum && leb (d.cents + c.cents) most_sum) e in
    let k = and_inv (leb (d.spoiled + c.spoiled) most_sum) (leb (d.cents + c.cents) most_sum) h.1 in
    and_of _ _ (less_within d.printed c.printed h.0)
    (and_of _ _ (less_within d.spoiled c.spoiled k.0) (less_within d.cents c.cents k.1))

add_grows : (c : Counted) (ds : List Counted) → all_within (add c ds) ≡ true → all_within ds ≡ true
unfolding add all_within
add_grows c [] e = refl
add_grows c (d ∷ ds) e = go (eqb d.model c.model) (add_grows c ds) e
  where
    go : (t : Bool) → (all_within (add c ds) ≡ true → all_within ds ≡ true)
        → all_within (choice t (λ _. plus d c ∷ ds) (λ _. d ∷ add c ds)) ≡ true → all_within (d ∷ ds) ≡ true
    go true r e = let h = and_inv (is_within (plus d c)) (all_within ds) e in
        and_of (is_within d) (all_within ds) (plus_within d c h.0) h.1
    go false r e = let h = and_inv (is_within d) (all_within (add c ds)) e in
        and_of (is_within d) (all_within ds) h.0 (r h.1)

added_grows : (ds xs : List Counted) → all_within (added ds xs) ≡ true → all_within ds ≡ true
unfolding added
added_grows ds [] e = e
added_grows ds (x ∷ xs) e = add_grows x ds (added_grows (add x ds) xs e)

-- Lines that take no sum past the largest are added.
pub sums_past : (number place : ℕ) (ds xs : List Counted) (rest : List (Option Counted))
    → all_within (added ds xs) ≡ true
    → sums_from number place ds (map some xs ++ rest)
    ≡ sums_from number (length xs + place) (added ds xs) rest
unfolding added sums_from require
sums_past number place ds [] rest e = rw (zero-add place)
sums_past number place ds (x ∷ xs) rest e = rw (added_grows (add x ds) xs e)
    (sums_past number (suc place) (add x ds) xs rest e
    ∙ ap (λ (k : ℕ). sums_from number k (added (add x ds) xs) rest) (omega arith))

-- How the sums of lines end, over sums that are not past the largest.
data SumsEnd (number place : ℕ) (ds : List Counted) (cs : List (Option Counted)) :
    Checked (List Counted) → Type 0 where
  all_summed : (xs : List Counted) → cs ≡ map some xs → all_within (added ds xs) ≡ true
      → SumsEnd number place ds cs (accept (added ds xs))
  ends_past : {k : ℕ} (xs : List Counted) (c : Counted) (rest : List (Option Counted))
      → cs ≡ map some xs ++ (some c ∷ rest) → all_within (added ds xs) ≡ true
      → all_within (add c (added ds xs)) ≡ false → k ≡ length xs + place
      → SumsEnd number place ds cs (refuse sum_refusal k)
  ends_none : {k : ℕ} (xs : List Counted) (rest : List (Option Counted))
      → cs ≡ map some xs ++ (none ∷ rest) → all_within (added ds xs) ≡ true → k ≡ length xs + place
      → SumsEnd number place ds cs (refuse number k)

sums_end : (number place : ℕ) (ds : List Counted) (cs : List (Option Counted)) → all_within ds ≡ true
    → SumsEnd number place ds cs (sums_from number place ds cs)
unfolding added sums_from require
sums_end number place ds [] h = all_summed [] refl h
sums_end number place ds (none ∷ cs) h = ends_none {k = place} [] cs refl h (omega arith)
sums_end number place ds (some c ∷ cs) h =
    go (all_within (add c ds)) refl (sums_end number (suc place) (add c ds) cs)
  where
    more : {r : Checked (List Counted)} → SumsEnd number (suc place) (add c ds) cs r
        → SumsEnd number place ds (some c ∷ cs) r
    more (all_summed xs e w) = all_summed (c ∷ xs) (ap (λ r. some c ∷ r) e) w
    more (ends_past {k = l} xs x rest e w p k) =
        ends_past {k = l} (c ∷ xs) x rest (ap (λ r. some c ∷ r) e) w p (omega (arith, k))
    more (ends_none {k = l} xs rest e w k) =
        ends_none {k = l} (c ∷ xs) rest (ap (λ r. some c ∷ r) e) w (omega (arith, k))

    go : (t : Bool) → all_within (add c ds) ≡ t
        → (all_within (add c ds) ≡ true
        → SumsEnd number (suc place) (add c ds) cs (sums_from number (suc place) (add c ds) cs))
        → SumsEnd number place ds (some c ∷ cs)
        (require t sum_refusal place λ _. sums_from number (suc place) (add c ds) cs)
    go true e r = more (r e)
    go false e r = ends_past {k = place} [] c cs refl h e (omega arith)

-- No total is past the largest exactly if no sum is.
each_within : {ds : List Counted} → Each (λ (d : Counted). is_within d ≡ true) ds → all_within ds ≡ true
unfolding all_within
each_within each_nil = refl
each_within (each_cons h hs) = and_of _ _ h (each_within hs)

has_or_not : (m : ℕ) (xs : List Counted) → Has m xs ⊎ Each (Other m) xs
has_or_not m [] = inr each_nil
has_or_not m (x ∷ xs) = go (eqb x.model m) refl (has_or_not m xs)
  where
    go : (t : Bool) → eqb x.model m ≡ t → Has m xs ⊎ Each (Other m) xs
        → Has m (x ∷ xs) ⊎ Each (Other m) (x ∷ xs)
    go true e r = inl (has_here (eqb-true x.model m e))
    go false e (inl r) = inl (has_later r)
    go false e (inr r) = inr (each_cons (eqb-false x.model m e) r)

within_is : (c : Counted) → is_within c ≡ true → Within c
within_is c e =
    let h = and_inv (leb c.printed most_sum) (leb c.spoiled most_sum && leb c.cents most_sum) e in
    let k = and_inv (leb c.spoiled most_sum) (leb c.cents most_sum) h.1 in record {
      few_printed = leb-true c.printed most_sum h.0;
      few_spoiled = leb-true c.spoiled most_sum k.0;
      few_cents = leb-true c.cents most_sum k.1;
    }

is_then_within : (c : Counted) → Within c → is_within c ≡ true
is_then_within c w =
    rw (
      le-leb c.printed most_sum w.few_printed,
      le-leb c.spoiled most_sum w.few_spoiled,
      le-leb c.cents most_sum w.few_cents,
    )

is_not_within : (c : Counted) → ¬ Within c → is_within c ≡ false
is_not_within c n = go (is_within c) refl
  where
    go : (t : Bool) → is_within c ≡ t → t ≡ false
    go true e = absurd (n (within_is c e))
    go false e = refl

within_totals : (xs : List Counted) → NonePast xs → all_within (added [] xs) ≡ true
within_totals xs w = each_within (go (added_sums xs).exact)
  where
    go : {ds : List Counted} → Each (λ (d : Counted). d ≡ totals xs d.model) ds
        → Each (λ (d : Counted). is_within d ≡ true) ds
    go each_nil = each_nil
    go (each_cons {a} e es) =
        each_cons (ap is_within e ∙ is_then_within (totals xs a.model) (w a.model)) (go es)

totals_within : (xs : List Counted) → all_within (added [] xs) ≡ true → NonePast xs
unfolding all_within
totals_within xs w m = within_is (totals xs m) (elim (has_or_not m xs)
    [ inl h ↦ one (added_sums xs).exact w (((added_sums xs).same_models m).0 h) | inr h ↦ zeros h ])
  where
    one : {ds : List Counted} → Each (λ (d : Counted). d ≡ totals xs d.model) ds → all_within ds ≡ true
        → Has m ds → is_within (totals xs m) ≡ true
    one (each_cons {a} {l} e es) w (has_here h) =
        rw h at (ap is_within (sym e) ∙ (and_inv (is_within a) (all_within l) w).0)
    one (each_cons {a} {l} e es) w (has_later h) = one es (and_inv (is_within a) (all_within l) w).1 h
    one each_nil w x5 = elim x5 [ ]

    zeros : Each (Other m) xs → is_within (totals xs m) ≡ true
    zeros h = rw (
      total_none (λ x. x.printed) m h,
      total_none (λ x. x.spoiled) m h,
      total_none
          (λ x. x.cents) m h,
    )

-- A line takes its model's totals past the largest exactly if it takes a sum past.
added_last : (ds xs : List Counted) (c : Counted) → added ds (xs ++ (c ∷ [])) ≡ add c (added ds xs)
unfolding added
added_last ds [] c = refl
added_last ds (x ∷ xs) c = added_last (add x ds) xs c

each_sums_with : {R : Counted → Type 0} (c : Counted) (ds : List Counted) → Each R (add c ds)
    → R (sums_with c ds)
unfolding add sums_with
each_sums_with c [] (each_cons h hs) = h
each_sums_with {R} c (d ∷ ds) h = go (eqb d.model c.model) (each_sums_with c ds) h
  where
    go : (t : Bool) → (Each R (add c ds) → R (sums_with c ds))
        → Each R (choice t (λ _. plus d c ∷ ds) (λ _. d ∷ add c ds))
        → R (choice t (λ _. plus d c) (λ _. sums_with c ds))
    go true r (each_cons h hs) = h
    go false r (each_cons h hs) = r hs

sums_with_model : (c : Counted) (ds : List Counted) → (sums_with c ds).model ≡ c.model
unfolding sums_with
sums_with_model c [] = refl
sums_with_model c (d ∷ ds) = go (eqb d.model c.model) refl (sums_with_model c ds)
  where
    go : (t : Bool) → eqb d.model c.model ≡ t → (sums_with c ds).model ≡ c.model
        → (choice t (λ _. plus d c) (λ _. sums_with c ds)).model ≡ c.model
    go true e r = eqb-true d.model c.model e
    go false e r = r

past_total : (xs : List Counted) (c : Counted) → all_within (added [] xs) ≡ true
    → is_within (totals (xs ++ (c ∷ [])) c.model) ≡ all_within (add c (added [] xs))
past_total xs c w =
    let ds = added [] xs in
    let s : Each (λ (d : Counted). d ≡ totals (xs ++ (c ∷ [])) d.model) (add c ds) =
    rw (added_last [] xs c) at (added_sums (xs ++ (c ∷ []))).exact in
    let e : sums_with c ds ≡ totals (xs ++ (c ∷ [])) c.model =
    each_sums_with c ds s ∙ ap (totals (xs ++ (c ∷ []))) (sums_with_model c ds) in
    ap is_within (sym e) ∙ sym (add_within c ds w)

-- Sums that are accepted are those of all the lines.
pub sums_accepted : (number : ℕ) (cs : List (Option Counted)) (ds : List Counted) → sums number cs ≡ accept ds
    → SumsOfLines cs ds
unfolding all_within
sums_accepted number cs ds e = go (sums_end number 1 [] cs refl) e
  where
    go : {r : Checked (List Counted)} → SumsEnd number 1 [] cs r → r ≡ accept ds → SumsOfLines cs ds
    go (all_summed xs f w) e = record {
      lines = xs;
      all_counted = f;
      none_past = totals_within xs w;
      sums_of_lines = rw (accept_injective e) at (added_sums xs);
    }
    go (ends_past xs c rest f w p k) e = absurd (accept≢refuse _ _ e)
    go (ends_none xs rest f w k) e = absurd (accept≢refuse _ _ e)

-- Sums are refused exactly where a line is past the largest sum or not counted.
pub sums_refused : (number : ℕ) (cs : List (Option Counted)) (n k : ℕ)
    → (sums number cs ≡ refuse n k) ↔ SumsRefusal number cs n k
unfolding all_within sums_from require
sums_refused number cs n k = (λ e. why (sums_end number 1 [] cs refl) e, is-so)
  where
    why : {n k : ℕ} {r : Checked (List Counted)} → SumsEnd number 1 [] cs r → r ≡ refuse n k
        → SumsRefusal number cs n k
    why (all_summed xs f w) e = absurd (accept≢refuse _ _ (sym e))
    why {n} {k} (ends_past {k = l} xs c rest f w p q) e =
        let a : sum_refusal ≡ n = cc in let b : 1 + length xs ≡ k = let z : l ≡ k = cc in
        omega (arith, z, q) in
        let s : SumsRefusal number cs sum_refusal (1 + length xs) =
        past_largest xs c rest f (totals_within xs w)
        (λ u. false≢ (sym (past_total xs c w ∙ p) ∙ is_then_within (totals (xs ++ (c ∷ [])) c.model)
        u)) in
        rw (a, b) at s
    why {n} {k} (ends_none {k = l} xs rest f w q) e =
        let a : number ≡ n = cc in let b : 1 + length xs ≡ k = let z : l ≡ k = cc in omega (arith, z, q) in
        let s : SumsRefusal number cs number (1 + length xs) = not_counted xs rest f (totals_within xs w) in
        subst (λ (i : ℕ). SumsRefusal number cs i k) a (rw b at s)

    is-so : {n k : ℕ} → SumsRefusal number cs n k → sums number cs ≡ refuse n k
    is-so (past_largest xs c rest f w p) = let v = within_totals xs w in
        let l : length xs + 1 ≡ 1 + length xs = omega arith in
        rw (
          f,
          sums_past number 1 [] xs (some c ∷ rest) v,
          sym (past_total xs c v)
              ∙ is_not_within (totals (xs ++ (c ∷ [])) c.model) p,
          l,
        )
    is-so (not_counted xs rest f w) =
        let l : length xs + 1 ≡ 1 + length xs = omega arith in
        rw (f, sums_past number 1 [] xs (none ∷ rest) (within_totals xs w), l)

-- Counted lines take no sum past the largest, or one of them is refused for it, whatever comes after.
pub added_or_past : (number place : ℕ) (ds xs : List Counted) (rest : List (Option Counted))
    → all_within ds ≡ true → all_within (added ds xs) ≡ false
    → (k : ℕ) × (k < length xs + place)
    × (sums_from number place ds (map some xs ++ rest) ≡ refuse sum_refusal k)
unfolding added sums_from require
added_or_past number place ds [] rest h e = false≢ (sym e ∙ h)
added_or_past number place ds (x ∷ xs) rest h e =
    go (all_within (add x ds)) refl (λ w. added_or_past number (suc place) (add x ds) xs rest w e)
  where
    go : (t : Bool) → all_within (add x ds) ≡ t
        → (all_within (add x ds) ≡ true → (k : ℕ) × (k < length xs + suc place)
        × (sums_from number (suc place) (add x ds) (map some xs ++ rest) ≡ refuse sum_refusal k))
        → (k : ℕ) × (k < suc (length xs) + place)
        × (require t sum_refusal place (λ _. sums_from number (suc place) (add x ds) (map some xs ++ rest))
        ≡ refuse sum_refusal k)
    go true f r = let s = r f in (s.0, omega (arith, s.1), s.2)
    go false f r = (place, omega arith, refl)

-- The sums of counted lines are those of adding them one after another.
map_some : (xs ys : List Counted) → map some xs ≡ map some ys → xs ≡ ys
map_some [] [] e = refl
map_some [] (y ∷ ys) e = cc
map_some (x ∷ xs) [] e = cc
map_some (x ∷ xs) (y ∷ ys) e = let f : map some xs ≡ map some ys = cc in cc (map_some xs ys f)

pub sums_are : (number : ℕ) (xs ds : List Counted) → sums number (map some xs) ≡ accept ds → ds ≡ added [] xs
unfolding all_within
sums_are number xs ds e = go (sums_end number 1 [] (map some xs) refl) e
  where
    go : {r : Checked (List Counted)} → SumsEnd number 1 [] (map some xs) r → r ≡ accept ds → ds ≡ added [] xs
    go (all_summed ys f w) e = sym (accept_injective e) ∙ ap (added []) (sym (map_some xs ys f))
    go (ends_past ys c rest f w p k) e = absurd (accept≢refuse _ _ e)
    go (ends_none ys rest f w k) e = absurd (accept≢refuse _ _ e)
