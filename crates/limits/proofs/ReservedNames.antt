-- Laws of the walk over names: the first field that is refused by its name. Assumes nothing.
use mathlib.Core.Path.{◌≡◌, refl, sym, ◌∙◌}
use mathlib.Core.Bool.{false, not, ◌||◌}
use mathlib.Core.Logic.{◌⊎◌, inl, inr, ◌≢◌}
use mathlib.Core.List.{List, [], ◌∷◌}
use Prim.Native.Nat.{ℕ, suc, ◌+◌, ◌-◌, ◌*◌, ◌<◌}
use native.Mathlib.Omega.{arith}
use borrow.Author.Tests.{ne_eqb}
use lib.Dec.{eqb}
use lib.ListN.{length, get_or}
use Rattle.language.specs.Limits.{reserved_refusal}
use Rattle.language.specs.Results.{bind_checked, require}
use Rattle.language.specs.Tree.{Field, Class, class_lines}
use Rattle.language.specs.Translation.{fields_free, names_free}
use Rattle.language.specs.Encoded.{LinesAt}
use Rattle.language.specs.Layout.{EachClass, FieldsAt, Run}
use Rattle.std.specs.Prelude.{Result, Ok, Err}
use Rattle.language.specs.Refusals.{refusal}
use Rattle.language.specs.declared.Refusal.{Refusal}
use Rattle.language.proofs.Refusals.{result_ok, result_err}
use Rattle.emitters.specs.Writing.{SomeFieldLines}
use Rattle.emitters.proofs.Lines.{field_in}
use Rattle.limits.specs.Standing.{ClassesStand, SomeClassesStand, MethodsPassed}
use Rattle.limits.specs.Bounds.{verdict, FieldsFree}
use Rattle.limits.specs.Bounds.{NamesFree}
use Rattle.limits.proofs.Standing.{class_rest, no_class}
use Rattle.limits.proofs.Standing.{not_class, class_counted, class_passed, class_next}
use Rattle.limits.proofs.Standing.{Walked, walk_on}

-- reserved names
reserved : (n : ℕ) → (n ≡ 254) ⊎ ((n ≢ 254) × (n ≡ 255)) → not (eqb n 254 || eqb n 255) ≡ false
reserved n (inl e) = rw e refl
reserved n (inr e) = rw e.1 refl

module _ {R : List ℕ} {at count : ℕ} where
  field_rest : SomeFieldLines R at count → count ≢ 0 → SomeFieldLines R (at + 1) (count - 1)
  unfolding LinesAt
  field_rest x h = go x.fs x.rows x.counted
    where
      go : (fs : List Field) → FieldsAt R fs at → length fs ≡ count → SomeFieldLines R (at + 1) (count - 1)
      go [] r e = absurd (h (sym e))
      go (f ∷ fs) r e = record { fs = fs; rows = r.1; counted = omega (arith, e) }

  free_none : count ≡ 0 → FieldsFree R at count (Ok tt)
  unfolding fields_free
  free_none z = record { each = λ fs r e. go fs e }
    where
      go : (fs : List Field) → length fs ≡ count → verdict (fields_free (at + 1) fs) ≡ Ok tt
      go [] e = refl
      go (f ∷ fs) e = absurd (omega (arith, e, z))

  free_here : {n : ℕ} → count ≢ 0 → n ≡ get_or R (at * 4 + 2) 0
      → (n ≡ 254) ⊎ ((n ≢ 254) × (n ≡ 255)) → FieldsFree R at count (Err (refusal reserved_refusal (at + 1)))
  unfolding fields_free LinesAt require
  free_here {n} h f d = record { each = λ fs r e. go fs r e }
    where
      go : (fs : List Field) → FieldsAt R fs at → length fs ≡ count
          → verdict (fields_free (at + 1) fs) ≡ Err (refusal reserved_refusal (at + 1))
      go [] r e = absurd (h (sym e))
      go (x ∷ fs) r e = let g : n ≡ x.name = f ∙ r.0.second in let y = reserved n d in rw (rw g at y)

  free_step : {n : ℕ} {v : Result (Unit {0}) Refusal} → count ≢ 0 → n ≡ get_or R (at * 4 + 2) 0 → n ≢ 254
      → n ≢ 255 → FieldsFree R (at + 1) (count - 1) v → FieldsFree R at count v
  unfolding fields_free LinesAt require
  free_step {n} {v} h x a b p = record { each = λ fs r e. go fs r e }
    where
      go : (fs : List Field) → FieldsAt R fs at → length fs ≡ count
          → verdict (fields_free (at + 1) fs) ≡ v
      go [] r e = absurd (h (sym e))
      go (f ∷ fs) r e =
          let g : n ≡ f.name = x ∙ r.0.second in
          rw (ne_eqb f.name 254 (rw g at a), ne_eqb f.name 255 (rw g at b))
          (p.each fs r.1 (omega (arith, e)))

-- the fields before a row have free names
abbrev pub NamesWalked : List ℕ → ℕ → ℕ → ℕ → Type 0
NamesWalked R at count row = Walked (λ row. SomeFieldLines R row (at + count - row))
    (λ row v. FieldsFree R row (at + count - row) v) at row

module _ {R : List ℕ} {at : ℕ} (count : ℕ) where
  module _ {row : ℕ} (w : NamesWalked R at count row) where
    names_whole : {v : Result (Unit {0}) Refusal} → FieldsFree R row (at + count - row) v → FieldsFree R at count v
    names_whole {v} p = let e : at + count - at ≡ count = omega arith in let q = w.whole v p in rw e at q

    pub names_row : row < at + count → row * 4 + 3 < length R
    names_row h = field_in w.rest row (omega arith) (omega (arith, h))

    pub names_end : row ≡ at + count → FieldsFree R at count (Ok tt)
    names_end e = names_whole (free_none (omega (arith, e)))

    module _ (h : row < at + count) {n : ℕ} (e : n ≡ get_or R (row * 4 + 2) 0) where
      pub names_stop : (n ≡ 254) ⊎ ((n ≢ 254) × (n ≡ 255))
          → FieldsFree R at count (Err (refusal reserved_refusal (row + 1)))
      names_stop d = names_whole (free_here (λ z. omega (arith, z, h)) e d)

      pub names_more : n ≢ 254 → n ≢ 255 → NamesWalked R at count (row + 1)
      names_more a b =
          let k : at + count - row ≢ 0 = λ z. omega (arith, z, h) in
          let z : at + count - (row + 1) ≡ at + count - row - 1 = omega arith in
          walk_on w (rw z (field_rest w.rest k)) (λ v p. free_step k e a b (rw z at p))

module _ {R E : List ℕ} {at : ℕ} where
  names_none : get_or R (at * 4) 0 ≢ 67 → NamesFree R E at (Ok tt)
  unfolding names_free
  names_none h = record { each = λ k cs t. go k cs t }
    where
      go : (k : ℕ) (cs : List Class) → ClassesStand R E k cs at → verdict (names_free (at + 1) cs) ≡ Ok tt
      go k [] t = refl
      go k (c ∷ cs) t = absurd (not_class c cs t h)

  module _ {n : ℕ} (s : Run R 70 (at + 1) n) (h : get_or R (at * 4) 0 ≡ 67) where
    own-fields : {k : ℕ} {v : Result (Unit {0}) Refusal} (c : Class) (cs : List Class)
        → ClassesStand R E k (c ∷ cs) at → FieldsFree R (at + 1) n v
        → verdict (fields_free (at + 1 + 1) c.fields) ≡ v
    unfolding EachClass
    own-fields c cs t p = p.each c.fields t.classes.0.fields (sym (class_counted c cs t s))

    names_here : {r : Refusal} → FieldsFree R (at + 1) n (Err r) → NamesFree R E at (Err r)
    unfolding names_free bind_checked
    names_here {r} p = record { each = λ k cs t. go k cs t }
      where
        go : (k : ℕ) (cs : List Class) → ClassesStand R E k cs at → verdict (names_free (at + 1) cs) ≡ Err r
        go k [] t = absurd (no_class at t.start h)
        go k (c ∷ cs) t = rw (result_err (λ u. u) _ r (own-fields c cs t p))

    names_step : {v : Result (Unit {0}) Refusal} {q : ℕ} → FieldsFree R (at + 1) n (Ok tt)
        → MethodsPassed R E (at + 1 + n) q → NamesFree R E q v → NamesFree R E at v
    unfolding names_free bind_checked
    names_step {v} {q} p u w = record { each = λ k cs t. go k cs t }
      where
        go : (k : ℕ) (cs : List Class) → ClassesStand R E k cs at → verdict (names_free (at + 1) cs) ≡ v
        go k [] t = absurd (no_class at t.start h)
        go k (c ∷ cs) t =
            let y = class_passed c cs t s u in
            let z : q + 1 ≡ at + 1 + class_lines c = omega (arith, y) in
            let o = result_ok (λ u. u) _ (own-fields c cs t p) in
            rw (o.is, ← z) (w.each (suc k) cs (class_rest c cs t q y))

-- the classes before a row have free names
abbrev pub ClassesWalked : List ℕ → List ℕ → ℕ → ℕ → Type 0
ClassesWalked R E = Walked (SomeClassesStand R E) (NamesFree R E)

module _ {R E : List ℕ} {at row : ℕ} (w : ClassesWalked R E at row) where
  pub classes_end : get_or R (row * 4) 0 ≢ 67 → NamesFree R E at (Ok tt)
  classes_end h = w.whole _ (names_none h)

  module _ (h : get_or R (row * 4) 0 ≡ 67) {n : ℕ} (s : Run R 70 (row + 1) n) where
    pub classes_stop : {r : Refusal} → FieldsFree R (row + 1) n (Err r) → NamesFree R E at (Err r)
    classes_stop p = w.whole _ (names_here s h p)

    pub classes_more : {q : ℕ} → FieldsFree R (row + 1) n (Ok tt) → MethodsPassed R E (row + 1 + n) q
        → ClassesWalked R E at q × (row < q)
    classes_more p u = let x = class_next h s u w.rest in (walk_on w x.0 (λ v a. names_step s h p u a), x.1)
