-- What holds between two turns of the loops over heading lines, and what a test of each line tells. Assumes nothing.
use mathlib.Core.Path.{◌≡◌, refl, sym, ap, subst, ◌∙◌}
use mathlib.Core.Bool.{Bool, true, false, ◌&&◌}
use mathlib.Core.Logic.{⊎_elim}
use mathlib.Core.List.{List, [], ◌∷◌}
use mathlib.Core.Option.{some}
use Prim.Native.Nat.{ℕ, zero, suc, ◌+◌, ◌-◌, ◌*◌, ◌/◌, ◌%◌, ◌≤◌, ◌<◌}
use native.Mathlib.Omega.{arith}
use borrow.Author.Tests.{ne_eqb}
use lib.Arith.{bin_ind}
use lib.Bits.{bit_or, or_shr, or_mod, or_zero_r}
use lib.Dec.{eqb, leb, ltb}
use lib.ListN.{length, get_or}
use Rattle.std.specs.Prelude.{Ok, Err}
use Rattle.std.specs.List.{list_all, range_with_len}
use Rattle.language.specs.Limits.{of_check}
use Rattle.language.specs.Lists.{nth}
use Rattle.language.specs.Rows.{P_parameter, X_effect}
use Rattle.language.specs.Results.{require}
use Rattle.language.specs.Refusals.{refusal, result_of}
use Rattle.language.specs.declared.Refusal.{Refusal}
use Rattle.language.specs.Tree.{DeclaredType, bool, class, type_number, type_of_number, Class}
use Rattle.language.specs.World.{is_declared_type}
use Rattle.language.specs.Effects.{effect_of, effect_of_all, join, member}
use Rattle.language.specs.Program.{world}
use Rattle.language.specs.Headings.{same_type, same_types, lines_within, check_parameters, check_effects}
use Rattle.language.specs.Encoded.{RowAt, LinesAt, TypesAt}
use Rattle.language.specs.Layout.{EffectsAt}
use Rattle.language.specs.WellFormed.{Each, each_cons, TypeInForm}
use Rattle.language.proofs.Lines.{less_or_same}
use Rattle.members.specs.Faults.{faulty, fault_of_effect}
use Rattle.members.specs.Ready.{EffectLines, ClassLines, ParameterLines}
use Rattle.members.proofs.Checks.{faulty_none, effects_step, refused_is, passed_is}
use Rattle.members.proofs.Checks.{line_case, fault_refused, fault_none}

-- ---- lines that follow one another

-- The first of some lines, and those after it.
pub record Next {A : Type 0} (Q : A → ℕ → Type 0) (xs : List A) (at : ℕ) : Type 0 where
  pub one : A
  pub more : List A
  pub is : xs ≡ one ∷ more
  pub line : Q one at
  pub here : LinesAt Q more (at + 1)

pub next_line : {A : Type 0} (Q : A → ℕ → Type 0) (xs : List A) (at : ℕ) → LinesAt Q xs at → 0 < length xs
    → Next Q xs at
unfolding LinesAt
next_line Q [] at h l = absurd (omega (arith, l))
next_line Q (x ∷ xs) at h l = record { one = x; more = xs; is = refl; line = h.0; here = h.1 }

pub nil_of : {A : Type 0} (l : List A) → length l ≡ 0 → l ≡ []
nil_of [] e = refl
nil_of (x ∷ l) e = absurd (omega (arith, e))

-- A row among those of some lines has one of them.
pub line_among : {A : Type 0} (Q : A → ℕ → Type 0) (xs : List A) (r at : ℕ) → LinesAt Q xs r → r ≤ at
    → at < r + length xs → (x : A) × Q x at
unfolding LinesAt
line_among Q [] r at h l m = absurd (omega (arith, l, m))
line_among Q (x ∷ xs) r at h l m = ⊎_elim
    (λ p. line_among Q xs (r + 1) at h.1 (omega (arith, p)) (omega (arith, m)))
    (λ e. (x, subst (Q x) e h.0))
    (less_or_same r at l)

-- ---- X lines

abbrev EffectRow : List ℕ → ℕ → ℕ → Type 0
EffectRow R c i = RowAt R i X_effect c 0

module _ {R : List ℕ} {r n : ℕ} (w : EffectLines R r n) where
  pub effects_index : (at : ℕ) → r ≤ at → at < r + n → (at * 4 + 3 < length R) × (length R ≤ 240000)
  effects_index at l m =
      ((line_among (EffectRow R) w.effects r at w.here l (omega (arith, m, w.n_is))).1.within, w.short)

  pub effects_end : 0 < n → r + n ≤ 60000
  effects_end l =
      let j = effects_index (r + n - 1) (omega (arith, l)) (omega (arith, l)) in omega (arith, j.0, j.1, l)

  -- Testing each line against a set.
  within_test : (φ : ℕ) (cs : List ℕ) (at : ℕ) → EffectsAt R cs at
      → list_all (λ i. let c = get_or R (i * 4 + 1) 0 in ltb 0 c && (leb c 64 && member φ c))
      (range_with_len at (length cs)) ≡ lines_within cs φ
  unfolding LinesAt lines_within
  within_test φ [] at h = refl
  within_test φ (c ∷ cs) at h = rw (h.0.first, within_test φ cs (at + 1) h.1)
      (regroup (ltb 0 c) (leb c 64) (member φ c) (lines_within cs φ))
    where
      regroup : (x y z b : Bool) → ((x && (y && z)) && b) ≡ (x && (y && (z && b)))
      regroup true true z b = refl
      regroup true false z b = refl
      regroup false y z b = refl

  pub lines_tested : (φ : ℕ)
      → list_all (λ i. let c = get_or R (i * 4 + 1) 0 in ltb 0 c && (leb c 64 && member φ c))
      (range_with_len r n) ≡ lines_within w.effects φ
  lines_tested φ = rw w.n_is (within_test φ w.effects r w.here)

  -- Checking each line.
  module _ (P : List Class) where
    pub record Effecting (last at : ℕ) : Type 0 where
      pub rest : List ℕ
      pub here : EffectsAt R rest at
      pub sum : at + length rest ≡ r + n
      pub left : check_effects of_check P 0 (r + 1) w.effects ≡ check_effects of_check P last (at + 1) rest

    module _ (last at : ℕ) (p : Effecting last at) (l : at < r + n) (c : ℕ) (c-is : c ≡ get_or R (at * 4 + 1) 0)
      where
        effect_next : Next (EffectRow R) p.rest at
        effect_next = next_line (EffectRow R) p.rest at p.here (omega (arith, l, p.sum))

        fault : check_effects of_check P 0 (r + 1) w.effects
            ≡ faulty (fault_of_effect P last c) (at + 1) (check_effects of_check P c (at + 1 + 1) effect_next.more)
        fault = p.left ∙ (ap (check_effects of_check P last (at + 1)) effect_next.is
            ∙ (effects_step P last (at + 1) effect_next.one effect_next.more
            ∙ ap (λ (d : ℕ). faulty (fault_of_effect P last d) (at + 1)
            (check_effects of_check P d (at + 1 + 1) effect_next.more))
            (sym (c-is ∙ effect_next.line.first))))

        pub effecting_refused : (e : Refusal) → Err e ≡ line_case (fault_of_effect P last c) (at + 1)
            → Err e ≡ result_of (λ u. u) (check_effects of_check P 0 (r + 1) w.effects)
        effecting_refused e q = refused_is (λ u. u) _ e (fault ∙ fault_refused _ (at + 1) _ e q)

        pub effecting_step : Ok tt ≡ line_case (fault_of_effect P last c) (at + 1) → Effecting c (at + 1)
        effecting_step q = record {
          rest = effect_next.more;
          here = effect_next.here;
          sum = omega (arith, p.sum, ap length effect_next.is);
          left = fault ∙ faulty_none _ (at + 1) _ (fault_none _ (at + 1) q);
        }

    pub effecting_end : (last at : ℕ) → Effecting last at → r + n ≤ at
        → Ok tt ≡ result_of (λ u. u) (check_effects of_check P 0 (r + 1) w.effects)
    unfolding check_effects
    effecting_end last at p l = passed_is (λ u. u) _ (p.left ∙ rw (nil_of p.rest (omega (arith, l, p.sum))))

-- ---- the union of the classes on X lines

-- Numbers joined bit by bit, in another order.
or_bits : (x y z : ℕ) → x < 2 → y < 2 → z < 2 → bit_or (bit_or x y) z ≡ bit_or x (bit_or y z)
or_bits zero y z p q r = refl
or_bits (suc zero) zero z p q r = refl
or_bits (suc zero) (suc zero) zero p q r = refl
or_bits (suc zero) (suc zero) (suc zero) p q r = refl
or_bits (suc zero) (suc zero) (suc (suc z)) p q r = absurd (omega arith)
or_bits (suc zero) (suc (suc y)) z p q r = absurd (omega arith)
or_bits (suc (suc x)) y z p q r = absurd (omega arith)

same_halves : (x y : ℕ) → x / 2 ≡ y / 2 → x % 2 ≡ y % 2 → x ≡ y
same_halves x y p q = omega arith

or_assoc : (a b c : ℕ) → bit_or (bit_or a b) c ≡ bit_or a (bit_or b c)
or_assoc = bin_ind (λ (n : ℕ). (b c : ℕ) → bit_or (bit_or n b) c ≡ bit_or n (bit_or b c)) (λ b c. refl)
    (λ n ih b c. same_halves (bit_or (bit_or n b) c) (bit_or n (bit_or b c))
    (or_shr (bit_or n b) c 1 ∙ ap (λ (z : ℕ). bit_or z (c / 2)) (or_shr n b 1) ∙ ih (b / 2) (c / 2)
    ∙ sym (or_shr n (bit_or b c) 1 ∙ ap (λ (z : ℕ). bit_or (n / 2) z) (or_shr b c 1)))
    (or_mod (bit_or n b) c 1 ∙ ap (λ (z : ℕ). bit_or z (c % 2)) (or_mod n b 1)
    ∙ or_bits (n % 2) (b % 2) (c % 2) (omega arith) (omega arith) (omega arith)
    ∙ sym (or_mod n (bit_or b c) 1 ∙ ap (λ (z : ℕ). bit_or (n % 2) z) (or_mod b c 1))))

module _ {R : List ℕ} {r n : ℕ} (w : ClassLines R r n) where
  pub record Collecting (set at : ℕ) : Type 0 where
    pub rest : List ℕ
    pub here : EffectsAt R rest at
    pub sum : at + length rest ≡ r + n
    pub small : (i c : ℕ) → nth rest i ≡ some c → c ≤ of_check.classes
    pub so_far : bit_or set (effect_of_all rest) ≡ effect_of_all w.lines.effects

  module _ (set at : ℕ) (p : Collecting set at) (l : at < r + n) where
    class_next : Next (EffectRow R) p.rest at
    class_next = next_line (EffectRow R) p.rest at p.here (omega (arith, l, p.sum))

    small-on : (i c : ℕ) → nth (class_next.one ∷ class_next.more) i ≡ some c → c ≤ 64
    small-on i c e = p.small i c (ap (λ (l : List ℕ). nth l i) class_next.is ∙ e)

    pub collecting_class : (c : ℕ) → c ≡ get_or R (at * 4 + 1) 0 → c ≤ 64
    unfolding nth
    collecting_class c c-is = omega (arith, c-is, class_next.line.first, small-on 0 class_next.one refl)

    pub collecting_more : (c : ℕ) → c ≡ get_or R (at * 4 + 1) 0 → (b : ℕ) → b ≡ effect_of c
        → Collecting (bit_or set b) (at + 1)
    unfolding effect_of_all join nth
    collecting_more c c-is b e = record {
      rest = class_next.more;
      here = class_next.here;
      sum = omega (arith, p.sum, ap length class_next.is);
      small = λ i c q. small-on (suc i) c q;
      so_far = rw (e ∙ ap effect_of (c-is ∙ class_next.line.first))
          (or_assoc set (effect_of class_next.one) (effect_of_all class_next.more)
          ∙ (ap (λ (l : List ℕ). bit_or set (effect_of_all l)) (sym class_next.is) ∙ p.so_far));
    }

  pub collecting_end : (set at : ℕ) → Collecting set at → r + n ≤ at → set ≡ effect_of_all w.lines.effects
  unfolding effect_of_all
  collecting_end set at p l = sym (or_zero_r set)
      ∙ (ap (λ (l : List ℕ). bit_or set (effect_of_all l)) (sym (nil_of p.rest (omega (arith, l, p.sum))))
      ∙ p.so_far)

-- ---- P lines

abbrev TypeRow : List ℕ → DeclaredType → ℕ → Type 0
TypeRow R t i = RowAt R i P_parameter (type_number t) 0

module _ {R : List ℕ} {r n : ℕ} (w : ParameterLines R r n) where
  pub types_index : (at : ℕ) → r ≤ at → at < r + n → (at * 4 + 3 < length R) × (length R ≤ 240000)
  types_index at l m =
      ((line_among (TypeRow R) w.types r at w.here l (omega (arith, m, w.n_is))).1.within, w.short)

  pub types_end : 0 < n → r + n ≤ 60000
  types_end l =
      let j = types_index (r + n - 1) (omega (arith, l)) (omega (arith, l)) in omega (arith, j.0, j.1, l)

  pub record Declaring (P : List Class) (at : ℕ) : Type 0 where
    pub rest : List DeclaredType
    pub here : TypesAt P_parameter R rest at
    pub in_form : Each TypeInForm rest
    pub sum : at + length rest ≡ r + n
    pub left : check_parameters of_check P (r + 1) w.types ≡ check_parameters of_check P (at + 1) rest

  module _ (P : List Class) where
    module _ (at : ℕ) (p : Declaring P at) (l : at < r + n) (t : ℕ) (t-is : t ≡ get_or R (at * 4 + 1) 0) where
      type_next : Next (TypeRow R) p.rest at
      type_next = next_line (TypeRow R) p.rest at p.here (omega (arith, l, p.sum))

      forms : TypeInForm type_next.one × Each TypeInForm type_next.more
      forms = go (subst (Each TypeInForm) type_next.is p.in_form)
        where
          go : Each TypeInForm (type_next.one ∷ type_next.more) → TypeInForm type_next.one × Each TypeInForm type_next.more
          go (each_cons i is) = (i, is)

      one : check_parameters of_check P (r + 1) w.types
          ≡ require (is_declared_type (world P) (type_of_number t)) 4 (at + 1)
          (λ _. check_parameters of_check P (at + 1 + 1) type_next.more)
      unfolding check_parameters
      one = p.left ∙ (ap (check_parameters of_check P (at + 1)) type_next.is
          ∙ ap (λ (u : DeclaredType). require (is_declared_type (world P) u) 4 (at + 1)
          (λ _. check_parameters of_check P (at + 1 + 1) type_next.more))
          (sym (ap type_of_number (t-is ∙ type_next.line.first) ∙ forms.0.back)))

      pub declaring_refused : (b : Bool) → b ≡ is_declared_type (world P) (type_of_number t) → b ≡ false
          → Err (refusal 4 (at + 1)) ≡ result_of (λ u. u) (check_parameters of_check P (r + 1) w.types)
      unfolding require
      declaring_refused b e z = refused_is (λ u. u) _ (refusal 4 (at + 1)) (one ∙ rw (← e, z))

      pub declaring_step : (b : Bool) → b ≡ is_declared_type (world P) (type_of_number t) → b ≡ true
          → Declaring P (at + 1)
      unfolding require
      declaring_step b e z = record {
        rest = type_next.more;
        here = type_next.here;
        in_form = forms.1;
        sum = omega (arith, p.sum, ap length type_next.is);
        left = one ∙ rw (← e, z);
      }

    pub declaring_end : (at : ℕ) → Declaring P at → r + n ≤ at
        → Ok tt ≡ result_of (λ u. u) (check_parameters of_check P (r + 1) w.types)
    unfolding check_parameters
    declaring_end at p l = passed_is (λ u. u) _ (p.left ∙ rw (nil_of p.rest (omega (arith, l, p.sum))))

-- Two types are the same where their numbers are.
pub same_number : (t u : DeclaredType) → type_of_number (type_number t) ≡ t
    → type_of_number (type_number u) ≡ u → eqb (type_number t) (type_number u) ≡ same_type t u
same_number bool bool p q = refl
same_number (class c) (class d) p q = refl
same_number bool (class d) p q = ne_eqb 255 d (λ e. let z : class d ≡ bool = sym q ∙ rw (← e) in absurd (cc))
same_number (class c) bool p q = ne_eqb c 255 (λ e. let z : class c ≡ bool = sym p ∙ rw e in absurd (cc))

module _ {R : List ℕ} {p q n : ℕ} (v : ParameterLines R p n) (w : ParameterLines R q n) where
  matched : (ts us : List DeclaredType) (j : ℕ) → TypesAt P_parameter R ts (p + j)
      → TypesAt P_parameter R us (q + j) → Each TypeInForm ts → Each TypeInForm us → length us ≡ length ts
      → list_all (λ i. eqb (get_or R ((p + i) * 4 + 1) 0) (get_or R ((q + i) * 4 + 1) 0))
      (range_with_len j (length ts)) ≡ same_types ts us
  unfolding LinesAt same_types
  matched [] [] j g h e f l = refl
  matched [] (u ∷ us) j g h e f l = absurd (omega (arith, l))
  matched (t ∷ ts) [] j g h e f l = absurd (omega (arith, l))
  matched (t ∷ ts) (u ∷ us) j g h (each_cons a es) (each_cons b fs) l =
      let x : p + j + 1 ≡ p + (j + 1) = omega arith in
      let y : q + j + 1 ≡ q + (j + 1) = omega arith in
      let more = matched ts us (j + 1) (subst (TypesAt P_parameter R ts) x g.1)
      (subst (TypesAt P_parameter R us) y h.1) es fs (omega (arith, l)) in
      rw (g.0.first, h.0.first, same_number t u a.back b.back, more)

  pub types_matched :
      list_all (λ i. eqb (get_or R ((p + i) * 4 + 1) 0) (get_or R ((q + i) * 4 + 1) 0)) (range_with_len 0 n)
      ≡ same_types v.types w.types
  types_matched =
      let x : p ≡ p + 0 = omega arith in
      let y : q ≡ q + 0 = omega arith in
      rw v.n_is (matched v.types w.types 0 (subst (TypesAt P_parameter R v.types) x v.here)
      (subst (TypesAt P_parameter R w.types) y w.here) v.in_form w.in_form (sym w.n_is ∙ v.n_is))
