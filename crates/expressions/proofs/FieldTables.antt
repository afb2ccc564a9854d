-- A field in the tables: its place, its row and its type are the definition's. Assumes nothing.
use mathlib.Core.Path.{◌≡◌, refl, ap, ◌∙◌}
use mathlib.Core.Bool.{Bool, true, false, cond}
use mathlib.Core.Option.{Option, none, some}
use mathlib.Core.List.{List, [], ◌∷◌}
use Prim.Native.Nat.{ℕ, suc, ◌+◌, ◌*◌, ◌≤◌, ◌<◌}
use native.Mathlib.Omega.{arith}
use borrow.Author.Tests.{eq-eqb, ne_eqb}
use lib.Dec.{eqb}
use lib.ListN.{length, get_or}
use Rattle.language.specs.Lists.{nth, Never, inj, bind_option, choice, nth_lt}
use Rattle.language.specs.Tree.{Program, DeclaredType, type_number, Field, Class}
use Rattle.language.specs.World.{place, field_type, is_declared_type}
use Rattle.language.specs.Program.{world}
use Rattle.language.specs.ClassTables.{stored_place}
use Rattle.layout.specs.Held.{Headed}
use Rattle.layout.specs.HeldLaws.{few_fields, fields}
use Rattle.std.specs.Prelude.{Some, None}
use Rattle.access.specs.Fields.{sought_of, field_in, field_place, field_row, PreField}

place_in : (f i : ℕ) (fs : List Field) → place f fs ≡ some i → (x : Field) × (nth fs i ≡ some x)
unfolding place nth
place_in f i [] e = absurd (Never e)
place_in f i (x ∷ fs) e = go (eqb x.name f) (place f fs) refl e (λ j q. place_in f j fs q)
  where
    go : (b : Bool) (o : Option ℕ) → place f fs ≡ o
        → choice b (λ _. some 0) (λ _. bind_option o λ j. some (suc j)) ≡ some i
        → ((j : ℕ) → place f fs ≡ some j → (y : Field) × (nth fs j ≡ some y))
        → (y : Field) × (nth (x ∷ fs) i ≡ some y)
    go true o q e rec = let z : 0 ≡ i = inj e in rw (← z) (x, refl)
    go false none q e rec = absurd (Never e)
    go false (some j) q e rec = let z : suc j ≡ i = inj e in rw (← z) (rec j q)

module _ {p : Program} {R E T A M F : List ℕ} {count : ℕ} (h : Headed R E T A M F p count) (c f : ℕ)
    (l : c ≤ count)
    (m : f < 256) where
  abbrev P : List Class
  P = p.classes

  place_is : field_place T c f ≡ stored_place (place f ((world P).fields c))
  place_is = h.classes.places c f (omega (arith, l, h.counted)) m

  record Placed (i : ℕ) (x : Field) (r : ℕ) : Type 0 where
    at_place : nth ((world P).fields c) i ≡ some x
    row : field_row T c f ≡ r
    in_rows : r * 4 + 3 < length R
    number : get_or R (r * 4 + 1) 0 ≡ type_number x.type
    declared : is_declared_type (world P) x.type ≡ true
    few : suc i ≤ 17

  placed : (i : ℕ) → place f ((world P).fields c) ≡ some i → (x : Field) × (r : ℕ) × Placed i x r
  placed i e =
      let p = place_in f i ((world P).fields c) e in
      let s = fields h c i p.0 p.1 in
      let q : field_place T c f ≡ suc i = place_is ∙ ap stored_place e in
      let u : c * 576 + (519 + suc i) ≡ c * 576 + 520 + i = omega arith in (
        p.0,
        s.0,
        record {
          at_place = p.1;
          row = ap (λ (n : ℕ). get_or T (c * 576 + (519 + n)) 0) q
              ∙ (ap (λ (n : ℕ). get_or T n 0) u
              ∙ h.classes.rows c i s.0 (omega (arith, l, h.counted)) s.1);
          in_rows = s.2.line.within;
          number = s.2.line.first;
          declared = s.3;
          few = omega (arith, nth_lt ((world P).fields c) i p.0 p.1, few_fields h c);
        },
      )

  pub field_is : field_in R T c f ≡ sought_of (field_type f ((world P).fields c))
  unfolding field_in field_type
  field_is = go (place f ((world P).fields c)) refl
    where
      go : (o : Option ℕ) → place f ((world P).fields c) ≡ o
          → cond (eqb (field_place T c f) 0) None
          (Some (record { number = get_or R (field_row T c f * 4 + 1) 0 }))
          ≡ sought_of (bind_option o λ i. bind_option (nth ((world P).fields c) i) λ x. some x.type)
      go none e = rw (eq-eqb (field_place T c f) 0 (place_is ∙ ap stored_place e))
      go (some i) e =
          let p = placed i e in
          let q : field_place T c f ≡ suc i = place_is ∙ ap stored_place e in
          let n : get_or R (field_row T c f * 4 + 1) 0 ≡ type_number p.0.type =
          ap (λ (r : ℕ). get_or R (r * 4 + 1) 0) p.2.row ∙ p.2.number in
          rw (ne_eqb (field_place T c f) 0 (λ z. omega (arith, q, z)), p.2.at_place, n)

  pub field_declared : (t : DeclaredType) → field_type f ((world P).fields c) ≡ some t
      → is_declared_type (world P) t ≡ true
  unfolding field_type
  field_declared t = go (place f ((world P).fields c)) refl
    where
      go : (o : Option ℕ) → place f ((world P).fields c) ≡ o
          → bind_option o (λ i. bind_option (nth ((world P).fields c) i) λ x. some x.type) ≡ some t
          → is_declared_type (world P) t ≡ true
      go none e q = absurd (Never q)
      go (some i) e q = let p = placed i e in let z : p.0.type ≡ t = inj (rw p.2.at_place at q) in
          rw (← z) p.2.declared

  pub field_pre : PreField R T c f
  field_pre = record {
    inside = omega (arith, l, h.classes.long, h.counted);
    name = m;
    found = go (place f ((world P).fields c)) refl;
  }
    where
      go : (o : Option ℕ) → place f ((world P).fields c) ≡ o → (field_place T c f ≡ 0 → ⊥)
          → (field_place T c f ≤ 17) × (field_row T c f * 4 + 3 < length R)
      go none e n = absurd (n (place_is ∙ ap stored_place e))
      go (some i) e n =
          let p = placed i e in
          let q : field_place T c f ≡ suc i = place_is ∙ ap stored_place e in
          (omega (arith, q, p.2.few), omega (arith, p.2.row, p.2.in_rows))
