-- Laws of the walk over fields: the first field that is refused by the limit. Assumes nothing.
use mathlib.Core.Path.{◌≡◌, refl, ap, ◌∙◌}
use mathlib.Core.Bool.{Bool, true, false}
use mathlib.Core.Logic.{◌⊎◌, inl, inr, ◌≢◌}
use mathlib.Core.List.{List, [], ◌∷◌, ◌++◌}
use Prim.Native.Nat.{ℕ, suc, ◌+◌, ◌-◌, ◌*◌, ◌≤◌, ◌<◌}
use native.Mathlib.Omega.{arith}
use borrow.Author.Tests.{lt-ltb, le-ltb, ltb-true}
use lib.ListN.{length, get_or, length-append}
use Rattle.language.specs.Limits.{of_check, of_translator, limit_refusal}
use Rattle.language.specs.Results.{Checked, accept, refuse, passed, bind_checked, require, bind_checked_inv}
use Rattle.language.specs.Results.{require_inv}
use Rattle.language.specs.Tree.{DeclaredType, Field, Declaration, Class, method_lines, class_lines}
use Rattle.language.specs.Program.{world}
use Rattle.language.specs.Headings.{check_fields, check_parameters, check_effects, check_methods, check_class}
use Rattle.language.specs.Headings.{check_classes}
use Rattle.language.specs.Layout.{EachClass, Run}
use Rattle.language.proofs.Lines.{le_or_less}
use Rattle.std.specs.Prelude.{Result, Ok, Err}
use Rattle.language.specs.Refusals.{refusal}
use Rattle.language.specs.declared.Refusal.{Refusal}
use Rattle.limits.specs.Standing.{SomeMethodsStand, SomeClassesStand, MethodsPassed}
use Rattle.limits.specs.Bounds.{verdict, ClassesCounted, SomeCounted, FieldsLimited}
use Rattle.limits.proofs.Standing.{class_positive, class_known, class_stand, class_rest, no_class}
use Rattle.limits.proofs.Standing.{not_class, class_run, class_counted, class_passed}
use Rattle.limits.proofs.Standing.{Walked, walk_on}

-- what a check of several things answers, from what its parts do
required : {B : Type 0} (t : Bool) (n l : ℕ) (k : Bool → Checked B) {c : Checked B} → t ≡ true → k true ≡ c
    → require t n l k ≡ c
unfolding require
required t n l k e f = rw e f

failed : {B : Type 0} (t : Bool) (n l : ℕ) (k : Bool → Checked B) → t ≡ false → require t n l k ≡ refuse n l
unfolding require
failed t n l k e = rw e

bound : {A B : Type 0} (r : Checked A) (k : A → Checked B) {a : A} {c : Checked B} → r ≡ accept a → k a ≡ c
    → bind_checked r k ≡ c
unfolding bind_checked
bound r k e f = rw e f

stopped : {A B : Type 0} (r : Checked A) (k : A → Checked B) {n l : ℕ} → r ≡ refuse n l
    → bind_checked r k ≡ refuse n l
unfolding bind_checked
stopped r k e = rw e

-- fields too many: what the check accepts, the translator's limit refuses there and nowhere else
module _ (P : List Class) where
  fields_few : (before : List Field) (at : ℕ) (fs : List Field) (u : Unit {0})
      → check_fields of_check P before at fs ≡ accept u → length fs ≤ 16 - length before
      → check_fields of_translator P before at fs ≡ passed
  unfolding check_fields
  fields_few before at [] u q l = refl
  fields_few before at (f ∷ fs) u q l = require_inv _ _ _ _ q λ e₁ q. require_inv _ _ _ _ q λ e₂ q.
      require_inv _ _ _ _ q λ e₃ q. require_inv _ _ _ _ q λ e₄ q.
      let m = length-append before (f ∷ []) in let h : length before < 16 = omega (arith, l) in
      let l' : length fs ≤ 16 - length (before ++ (f ∷ [])) = omega (arith, l, m) in
      required _ _ _ _ (lt-ltb (length before) 16 h)
      (required _ _ _ _ e₂
      (required _ _ _ _ e₃ (required _ _ _ _ e₄ (fields_few (before ++ (f ∷ [])) (at + 1) fs u q l'))))

  fields_over : (before : List Field) (at : ℕ) (fs : List Field) (u : Unit {0})
      → check_fields of_check P before at fs ≡ accept u → 16 - length before < length fs
      → check_fields of_translator P before at fs ≡ refuse limit_refusal (at + (16 - length before))
  unfolding check_fields
  fields_over before at [] u q l = absurd (omega (arith, l))
  fields_over before at (f ∷ fs) u q l =
      go (λ q l. fields_over (before ++ (f ∷ [])) (at + 1) fs u q l) (le_or_less 16 (length before))
    where
      go : (check_fields of_check P (before ++ (f ∷ [])) (at + 1) fs ≡ accept u
          → 16 - length (before ++ (f ∷ [])) < length fs
          → check_fields of_translator P (before ++ (f ∷ [])) (at + 1) fs
          ≡ refuse limit_refusal (at + 1 + (16 - length (before ++ (f ∷ [])))))
          → (16 ≤ length before) ⊎ (length before < 16)
          → check_fields of_translator P before at (f ∷ fs)
          ≡ refuse limit_refusal (at + (16 - length before))
      go rest (inr h) = require_inv _ _ _ _ q λ e₁ q. require_inv _ _ _ _ q λ e₂ q.
          require_inv _ _ _ _ q λ e₃ q. require_inv _ _ _ _ q λ e₄ q.
          let m = length-append before (f ∷ []) in
          let l' : 16 - length (before ++ (f ∷ [])) < length fs = omega (arith, l, m, h) in
          let z : at + 1 + (16 - length (before ++ (f ∷ []))) ≡ at + (16 - length before) =
          omega (arith, m, h) in
          required _ _ _ _ (lt-ltb (length before) 16 h)
          (required _ _ _ _ e₂ (required _ _ _ _ e₃ (required _ _ _ _ e₄
          (rest q l' ∙ ap (λ (n : ℕ). refuse limit_refusal n) z))))
      go rest (inl h) =
          let z : at ≡ at + (16 - length before) = omega (arith, h) in
          failed _ _ _ _ (le-ltb (length before) 16 h) ∙ ap (λ (n : ℕ). refuse limit_refusal n) z

  parameters_few : (at : ℕ) (ts : List DeclaredType) (u : Unit {0})
      → check_parameters of_check P at ts ≡ accept u → check_parameters of_translator P at ts ≡ passed
  unfolding check_parameters
  parameters_few at [] u q = refl
  parameters_few at (t ∷ ts) u q = require_inv _ _ _ _ q λ e q.
      required _ _ _ _ e (parameters_few (at + 1) ts u q)

  effects_few : (last at : ℕ) (cs : List ℕ) (u : Unit {0}) → check_effects of_check P last at cs ≡ accept u
      → check_effects of_translator P last at cs ≡ passed
  unfolding check_effects
  effects_few last at [] u q = refl
  effects_few last at (c ∷ cs) u q = require_inv _ _ _ _ q λ e₁ q. require_inv _ _ _ _ q λ e₂ q.
      required _ _ _ _ e₁ (required _ _ _ _ e₂ (effects_few c (at + 1) cs u q))

  methods_few : (super : ℕ) (before : List Declaration) (at : ℕ) (ms : List Declaration) (u : Unit {0})
      → check_methods of_check P super before at ms ≡ accept u
      → check_methods of_translator P super before at ms ≡ passed
  unfolding check_methods
  methods_few super before at [] u q = refl
  methods_few super before at (m ∷ ms) u q = require_inv _ _ _ _ q λ e₁ q. require_inv _ _ _ _ q λ e₂ q.
      require_inv _ _ _ _ q λ e₃ q.
      bind_checked_inv _ _ q λ v e₄ q. bind_checked_inv _ _ q λ w e₅ q.
      required _ _ _ _ e₁ (required _ _ _ _ e₂ (required _ _ _ _ e₃
      (bound _ _ (parameters_few (at + 1) m.parameters v e₄)
      (bound _ _ (effects_few 0 (at + 1 + length m.parameters) m.effects w e₅)
      (methods_few super (m ∷ before) (at + method_lines m) ms u q)))))

  class_few : (k at : ℕ) (c : Class) (u : Unit {0}) → check_class of_check P k at c ≡ accept u
      → length c.fields ≤ 16 - length ((world P).fields c.super)
      → check_class of_translator P k at c ≡ passed
  unfolding check_class
  class_few k at c u q l = require_inv _ _ _ _ q λ e₁ q. require_inv _ _ _ _ q λ e₂ q.
      bind_checked_inv _ _ q λ v e₃ q.
      required _ _ _ _ e₁ (required _ _ _ _ e₂ (bound _ _
      (fields_few ((world P).fields c.super) (at + 1) c.fields v e₃ l)
      (methods_few c.super [] (at + 1 + length c.fields) c.methods u q)))

  class_over : (k at : ℕ) (c : Class) (u : Unit {0}) → check_class of_check P k at c ≡ accept u
      → 16 - length ((world P).fields c.super) < length c.fields
      → check_class of_translator P k at c
      ≡ refuse limit_refusal (at + 1 + (16 - length ((world P).fields c.super)))
  unfolding check_class
  class_over k at c u q l = require_inv _ _ _ _ q λ e₁ q. require_inv _ _ _ _ q λ e₂ q.
      bind_checked_inv _ _ q λ v e₃ q.
      required _ _ _ _ e₁ (required _ _ _ _ e₂ (stopped _ _
      (fields_over ((world P).fields c.super) (at + 1) c.fields v e₃ l)))

  super_before : (k at : ℕ) (c : Class) (u : Unit {0}) → check_class of_check P k at c ≡ accept u
      → c.super < k
  unfolding check_class
  super_before k at c u q = require_inv _ _ _ _ q λ e₁ q. ltb-true c.super k e₁

-- the first class of those that are counted, and the rest
module _ {P : List Class} {R E T : List ℕ} {k at : ℕ} where
  counted_class : (c : Class) (cs : List Class) → ClassesCounted P R E T k (c ∷ cs) at
      → (u : Unit {0}) × (check_class of_check P k (at + 1) c ≡ accept u)
      × (check_classes of_check P (suc k) (at + 1 + class_lines c) cs ≡ passed)
  unfolding check_classes
  counted_class c cs t = bind_checked_inv _ _ t.accepted λ u e₁ e₂. (u, e₁, e₂)

  counted_super : (c : Class) (cs : List Class) → ClassesCounted P R E T k (c ∷ cs) at
      → (get_or R (at * 4 + 2) 0 ≡ c.super) × (c.super ≤ length P)
      × (get_or T (c.super * 576 + 515) 0 ≡ length ((world P).fields c.super))
  unfolding EachClass
  counted_super c cs t =
      let x = counted_class c cs t in
      let l : c.super ≤ length P = omega (arith, super_before P k (at + 1) c x.0 x.1, t.numbered) in
      (t.stand.classes.0.line.second, l, t.tables.counts c.super l)

  counted_rest : (c : Class) (cs : List Class) → ClassesCounted P R E T k (c ∷ cs) at → (b : ℕ)
      → b ≡ at + class_lines c → ClassesCounted P R E T (suc k) cs b
  counted_rest c cs t b z =
      let y : b + 1 ≡ at + 1 + class_lines c = omega (arith, z) in record {
        stand = class_rest c cs t.stand b z;
        accepted = rw y (counted_class c cs t).2;
        numbered = omega (arith, t.numbered);
        A = t.A;
        tables = t.tables;
      }

module _ {R E T : List ℕ} {at : ℕ} where
  stands : SomeCounted R E T at → SomeClassesStand R E at
  stands x = record { k = x.k; cs = x.cs; stand = x.counted.stand }

  pub counted_known : SomeCounted R E T at → (at * 4 + 3 < length R) × (at < 60000)
  counted_known x = let y = class_known (stands x) in (y.0, y.1)

  pub counted_above : SomeCounted R E T at → get_or R (at * 4) 0 ≡ 67
      → get_or R (at * 4 + 2) 0 * 576 + 515 < length T
  counted_above x h = go x.cs x.counted
    where
      go : (cs : List Class)
          → ClassesCounted x.P R E T x.k cs at → get_or R (at * 4 + 2) 0 * 576 + 515 < length T
      go [] t = absurd (no_class at t.stand.start h)
      go (c ∷ cs) t = let y = counted_super c cs t in omega (arith, y.0, y.1, t.tables.long)

  limited_none : get_or R (at * 4) 0 ≢ 67 → FieldsLimited R E T at (Ok tt)
  unfolding check_classes
  limited_none h = record { each = λ P k cs t. go P k cs t }
    where
      go : (P : List Class) (k : ℕ) (cs : List Class)
          → ClassesCounted P R E T k cs at → verdict (check_classes of_translator P k (at + 1) cs) ≡ Ok tt
      go P k [] t = refl
      go P k (c ∷ cs) t = absurd (not_class c cs t.stand h)

  pub counted_run : SomeCounted R E T at → get_or R (at * 4) 0 ≡ 67 → (n : ℕ) × Run R 70 (at + 1) n
  counted_run x h = class_run h (stands x)

  module _ {n above inherited room : ℕ} (s : Run R 70 (at + 1) n) (h : get_or R (at * 4) 0 ≡ 67)
      (e : above ≡ get_or R (at * 4 + 2) 0) (f : inherited ≡ get_or T (above * 576 + 515) 0)
      (z : room ≡ 16 - inherited) where
    room-is : {P : List Class} {k : ℕ} (c : Class) (cs : List Class) → ClassesCounted P R E T k (c ∷ cs) at
        → (room ≡ 16 - length ((world P).fields c.super)) × (n ≡ length c.fields)
    room-is c cs t = let x = counted_super c cs t in
        (z ∙ rw (f, e, x.0, x.2), class_counted c cs t.stand s)

    limited_here : (line : ℕ) → line ≡ at + 2 + room → room < n
        → FieldsLimited R E T at (Err (refusal limit_refusal line))
    unfolding check_classes
    limited_here line y l = record { each = λ P k cs t. go P k cs t }
      where
        go : (P : List Class) (k : ℕ) (cs : List Class)
            → ClassesCounted P R E T k cs at → verdict (check_classes of_translator P k (at + 1) cs)
            ≡ Err (refusal limit_refusal line)
        go P k [] t = absurd (no_class at t.stand.start h)
        go P k (c ∷ cs) t =
            let x = room-is c cs t in let q = counted_class c cs t in
            let w : at + 1 + 1 + (16 - length ((world P).fields c.super)) ≡ line = omega (arith, y, x.0) in
            let l' : 16 - length ((world P).fields c.super) < length c.fields =
            omega (arith, x.0, x.1, l) in
            rw (
              stopped _ (λ _. check_classes of_translator P (suc k) (at + 1 + class_lines c) cs)
                  (class_over P k (at + 1) c q.0 q.1 l'),
              w,
            )

    limited_step : {q : ℕ} {v : Result (Unit {0}) Refusal} → n ≤ room → MethodsPassed R E (at + 1 + n) q
        → FieldsLimited R E T q v → FieldsLimited R E T at v
    unfolding check_classes
    limited_step {q} {v} l u w = record { each = λ P k cs t. go P k cs t }
      where
        go : (P : List Class) (k : ℕ) (cs : List Class)
            → ClassesCounted P R E T k cs at → verdict (check_classes of_translator P k (at + 1) cs) ≡ v
        go P k [] t = absurd (no_class at t.stand.start h)
        go P k (c ∷ cs) t =
            let x = room-is c cs t in let p = counted_class c cs t in let y =
            class_passed c cs t.stand s u in
            let z : q + 1 ≡ at + 1 + class_lines c = omega (arith, y) in
            let l' : length c.fields ≤ 16 - length ((world P).fields c.super) =
            omega (arith, x.0, x.1, l) in
            rw (
              bound _ (λ _. check_classes of_translator P (suc k) (at + 1 + class_lines c) cs)
                  (class_few P k (at + 1) c p.0 p.1 l') refl,
              ← z,
            )
            (w.each P (suc k) cs (counted_rest c cs t q y))

    pub counted_stand : SomeCounted R E T at → SomeMethodsStand R E (at + 1 + n)
    counted_stand x = class_stand h s (stands x)

    pub counted_next : {q : ℕ} → MethodsPassed R E (at + 1 + n) q
        → SomeCounted R E T at → SomeCounted R E T q × (at < q)
    counted_next {q} p x = go x.cs x.counted
      where
        go : (cs : List Class) → ClassesCounted x.P R E T x.k cs at → SomeCounted R E T q × (at < q)
        go [] t = absurd (no_class at t.stand.start h)
        go (c ∷ cs) t = let y = class_passed c cs t.stand s p in (
          record { P = x.P; k = suc x.k; cs = cs; counted = counted_rest c cs t q y },
          omega (arith, y, class_positive c),
        )

-- the classes before a row have no field too many
abbrev pub FieldsWalked : List ℕ → List ℕ → List ℕ → ℕ → ℕ → Type 0
FieldsWalked R E T = Walked (SomeCounted R E T) (FieldsLimited R E T)

module _ {R E T : List ℕ} {at row : ℕ} (w : FieldsWalked R E T at row) where
  pub fields_end : get_or R (row * 4) 0 ≢ 67 → FieldsLimited R E T at (Ok tt)
  fields_end h = w.whole _ (limited_none h)

  module _ {n above inherited room : ℕ} (h : get_or R (row * 4) 0 ≡ 67) (s : Run R 70 (row + 1) n)
      (e : above ≡ get_or R (row * 4 + 2) 0) (f : inherited ≡ get_or T (above * 576 + 515) 0)
      (z : room ≡ 16 - inherited) where
    pub fields_stop : (line : ℕ) → line ≡ row + 2 + room → room < n
        → FieldsLimited R E T at (Err (refusal limit_refusal line))
    fields_stop line y g = w.whole _ (limited_here s h e f z line y g)

    pub fields_more : {q : ℕ} → n ≤ room → MethodsPassed R E (row + 1 + n) q
        → FieldsWalked R E T at q × (row < q)
    fields_more g u = let x = counted_next s h e f z u w.rest in
        (walk_on w x.0 (λ v a. limited_step s h e f z g u a), x.1)
