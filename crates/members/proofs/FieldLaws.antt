-- Laws of F lines: their faults, and what holds between two of them. Assumes nothing.
use mathlib.Core.Path.{◌≡◌, refl, sym, ap, subst, ◌∙◌}
use mathlib.Core.Bool.{Bool, true, false, not, cond}
use mathlib.Core.Option.{Option, none, some}
use mathlib.Core.List.{List, [], ◌∷◌, ◌++◌, append_assoc, append-nil}
use Prim.Native.Nat.{ℕ, suc, ◌+◌, ◌-◌, ◌*◌, ◌≤◌, ◌<◌}
use native.Mathlib.Omega.{arith}
use borrow.Author.Tests.{eq-eqb, ne_eqb, lt-ltb, le-ltb, ltb-true}
use lib.Dec.{eqb, ltb}
use lib.ListN.{length, get_or, set}
use Rattle.std.specs.Prelude.{Ok, Err}
use Rattle.language.specs.Limits.{of_check}
use Rattle.language.specs.Refusals.{result_of}
use Rattle.language.specs.declared.Refusal.{Refusal}
use Rattle.language.specs.Rows.{F_field}
use Rattle.language.specs.Tree.{type_number, type_of_number, Field, Class}
use Rattle.language.specs.World.{place, is_declared_type}
use Rattle.language.specs.Program.{is_state_type, world}
use Rattle.language.specs.Headings.{is_some, check_fields}
use Rattle.language.specs.ClassTables.{stored_place, rows_from}
use Rattle.language.specs.Encoded.{RowAt}
use Rattle.language.specs.Layout.{FieldsAt}
use Rattle.language.specs.WellFormed.{Each, each_cons, FieldInForm}
use Rattle.members.specs.Blocks.{Working}
use Rattle.members.specs.Faults.{faulty, fault_of_field}
use Rattle.members.specs.Ready.{FieldReady, EnterReady, FieldsReady}
use Rattle.members.proofs.Checks.{faulty_none, fields_step, refused_is, passed_is}
use Rattle.members.proofs.Checks.{line_case, fault_refused, fault_none}
use Rattle.members.proofs.Loops.{Next, next_line, nil_of, line_among}
use Rattle.members.proofs.Tables.{working_field}

pub stored_is : (o : Option ℕ) → is_some o ≡ not (eqb (stored_place o) 0)
stored_is none = refl
stored_is (some i) = rw (ne_eqb (suc i) 0 (λ e. omega (arith, e)))

module _ {R T : List ℕ} {r base count : ℕ} (w : FieldReady R T r base count) where
  count_entry : get_or T (base + 515) 0 ≡ length w.fields
  count_entry = rw w.base_is w.working.block.count

  pub field_full : 17 ≤ get_or T (base + 515) 0 → 2 ≡ fault_of_field w.P w.fields w.field
  unfolding fault_of_field
  field_full l = sym (rw (le-ltb (length w.fields) 17 (omega (arith, l, count_entry))))

  module _ (a : get_or T (base + 515) 0 < 17) (t : ℕ) (t-is : t ≡ get_or R (r * 4 + 1) 0) where
    type-is : type_of_number t ≡ w.field.type
    type-is = ap type_of_number (t-is ∙ w.at.line.first) ∙ w.at.in_form.type.back

    on : fault_of_field w.P w.fields w.field
        ≡ cond (is_declared_type (world w.P) (type_of_number t))
        (cond (is_some (place w.field.name w.fields)) 4
        (cond (is_state_type w.P (type_of_number t)) 5 0)) 4
    unfolding fault_of_field
    on = rw (lt-ltb (length w.fields) 17 (omega (arith, a, count_entry)), type-is)

    pub field_undeclared : is_declared_type (world w.P) (type_of_number t) ≡ false
        → 4 ≡ fault_of_field w.P w.fields w.field
    field_undeclared b = sym (on ∙ rw b)

    module _ (b : is_declared_type (world w.P) (type_of_number t) ≡ true)
        (f : ℕ) (f-is : f ≡ get_or R (r * 4 + 2) 0) where
      place-entry : not (eqb (get_or T (base + f) 0) 0) ≡ is_some (place w.field.name w.fields)
      place-entry = rw (
        w.base_is,
        f-is ∙ w.at.line.second,
        w.working.block.places w.field.name (omega (arith, w.at.in_form.name)),
      )
          (sym (stored_is (place w.field.name w.fields)))

      pub field_twice : (get_or T (base + f) 0 ≡ 0 → ⊥) → 4 ≡ fault_of_field w.P w.fields w.field
      field_twice n = sym (on ∙ rw (b, ← place-entry, ne_eqb (get_or T (base + f) 0) 0 n))

      module _ (e : get_or T (base + f) 0 ≡ 0) (s : Bool) (q : s ≡ is_state_type w.P (type_of_number t))
        where
          fault-state : fault_of_field w.P w.fields w.field ≡ cond s 5 0
          fault-state = on ∙ rw (b, ← place-entry, eq-eqb (get_or T (base + f) 0) 0 e, ← q)

          pub field_state : s ≡ true → 5 ≡ fault_of_field w.P w.fields w.field
          field_state z = sym (fault-state ∙ rw z)

          pub field_fine : s ≡ false → 0 ≡ fault_of_field w.P w.fields w.field
          field_fine z = sym (fault-state ∙ rw z)

-- ---- entering a field

module _ {R T : List ℕ} {r base : ℕ} (w : EnterReady R T r base) where
  pub enter_count : get_or T (base + 515) 0 ≡ length w.fields
  enter_count = rw w.base_is w.working.block.count

  module _ (f : ℕ) (f-is : f ≡ get_or R (r * 4 + 2) 0) where
    pub enter_is : (T' : List ℕ)
        → T' ≡ set (set (set T (base + f) (get_or T (base + 515) 0 + 1))
        (base + 520 + get_or T (base + 515) 0) r) (base + 515) (get_or T (base + 515) 0 + 1)
        → Working w.P w.k T' (w.fields ++ (w.field ∷ [])) (w.rows ++ (r ∷ [])) w.methods
    enter_is T' e =
        let d : w.k * 576 + 520 + length w.fields ≡ w.k * 576 + (520 + length w.fields) = omega arith
        in
        working_field w.working w.field r w.at.in_form.name w.room w.new T'
        (e ∙ rw (enter_count, f-is ∙ w.at.line.second, w.base_is, d))

-- no fault, so there is room and the name is new
sound_field : (P : List Class) (fs : List Field) (f : Field) → fault_of_field P fs f ≡ 0
    → (length fs < 17) × (place f.name fs ≡ none)
unfolding fault_of_field
sound_field P fs f e =
    go (ltb (length fs) 17) refl (is_declared_type (world P) f.type) (place f.name fs) refl
    (is_state_type P f.type) e
  where
    go : (a : Bool) → ltb (length fs) 17 ≡ a → (b : Bool) (o : Option ℕ) → place f.name fs ≡ o → (d : Bool)
        → ◌≡◌ {A = ℕ} (cond a (cond b (cond (is_some o) 4 (cond d 5 0)) 4) 2) 0
        → (length fs < 17) × (place f.name fs ≡ none)
    go false p b o q d h = absurd (omega (arith, h))
    go true p false o q d h = absurd (omega (arith, h))
    go true p true (some i) q d h = absurd (omega (arith, h))
    go true p true none q d h = (ltb-true (length fs) 17 p, q)

-- ---- the fields of a class

abbrev FieldRow : List ℕ → Field → ℕ → Type 0
FieldRow R f i = RowAt R i F_field (type_number f.type) f.name

module _ {R T₀ : List ℕ} {r n base count : ℕ} (w : FieldsReady R T₀ r n base count) where
  pub fields_end : 0 < n → r + n ≤ 60000
  fields_end l =
      let j = (line_among (FieldRow R) w.own r (r + n - 1) w.here (omega (arith, l))
      (omega (arith, l, w.n_is))).1 in
      omega (arith, j.within, w.short, l)

  pub record Fielding (T : List ℕ) (at : ℕ) : Type 0 where
    pub before : List Field
    pub rows : List ℕ
    pub rest : List Field
    pub here : FieldsAt R rest at
    pub in_form : Each (FieldInForm of_check) rest
    pub sum : at + length rest ≡ r + n
    pub working : Working w.P w.k T before rows w.methods
    pub answer : check_fields of_check w.P w.fields (r + 1) w.own
        ≡ check_fields of_check w.P before (at + 1) rest
    pub all : before ++ rest ≡ w.fields ++ w.own
    pub all_rows : rows ++ rows_from at rest ≡ w.rows ++ rows_from r w.own

  module _ {T : List ℕ} {at : ℕ} (p : Fielding T at) where
    module _ (l : at < r + n) where
      pub next : Next (FieldRow R) p.rest at
      next = next_line (FieldRow R) p.rest at p.here (omega (arith, l, p.sum))

      pub forms : FieldInForm of_check next.one × Each (FieldInForm of_check) next.more
      forms = go (subst (Each (FieldInForm of_check)) next.is p.in_form)
        where
          go : Each (FieldInForm of_check) (next.one ∷ next.more)
              → FieldInForm of_check next.one × Each (FieldInForm of_check) next.more
          go (each_cons i is) = (i, is)

      abbrev pub fielding_ready : FieldReady R T at base count
      fielding_ready = record {
        P = w.P;
        k = w.k;
        fields = p.before;
        rows = p.rows;
        methods = w.methods;
        working = p.working;
        field = next.one;
        at = record { line = next.line; in_form = forms.0 };
        base_is = w.base_is;
        count_is = w.count_is;
        short = w.short;
      }

      fault : check_fields of_check w.P w.fields (r + 1) w.own
          ≡ faulty (fault_of_field w.P p.before next.one) (at + 1)
          (check_fields of_check w.P (p.before ++ (next.one ∷ [])) (at + 1 + 1) next.more)
      fault = p.answer ∙ (ap (check_fields of_check w.P p.before (at + 1)) next.is
          ∙ fields_step w.P p.before (at + 1) next.one next.more)

      pub fielding_refused : (e : Refusal)
          → ((v : FieldReady R T at base count) → Err e ≡ line_case (fault_of_field v.P v.fields v.field) (at + 1))
          → Err e ≡ result_of (λ u. u) (check_fields of_check w.P w.fields (r + 1) w.own)
      fielding_refused e q = refused_is (λ u. u) _ e (fault ∙ fault_refused _ (at + 1) _ e (q fielding_ready))

      module _ (q : (v : FieldReady R T at base count)
          → Ok tt ≡ line_case (fault_of_field v.P v.fields v.field) (at + 1)) where
        none_is : fault_of_field w.P p.before next.one ≡ 0
        none_is = fault_none _ (at + 1) (q fielding_ready)

        pub sound : (length p.before < 17) × (place next.one.name p.before ≡ none)
        sound = sound_field w.P p.before next.one none_is

        abbrev pub fielding_enter : EnterReady R T at base
        fielding_enter = record {
          P = w.P;
          k = w.k;
          fields = p.before;
          rows = p.rows;
          methods = w.methods;
          working = p.working;
          field = next.one;
          at = record { line = next.line; in_form = forms.0 };
          base_is = w.base_is;
          short = w.short;
          room = sound.0;
          new = sound.1;
        }

        pub fielding_step : (T' : List ℕ)
            → ((v : EnterReady R T at base)
            → Working v.P v.k T' (v.fields ++ (v.field ∷ [])) (v.rows ++ (at ∷ [])) v.methods)
            → Fielding T' (at + 1)
        unfolding rows_from
        fielding_step T' h = record {
          before = p.before ++ (next.one ∷ []);
          rows = p.rows ++ (at ∷ []);
          rest = next.more;
          here = next.here;
          in_form = forms.1;
          sum = omega (arith, p.sum, ap length next.is);
          working = h fielding_enter;
          answer = fault ∙ faulty_none _ (at + 1) _ none_is;
          all = append_assoc p.before (next.one ∷ []) next.more
              ∙ (ap (λ (l : List Field). p.before ++ l) (sym next.is) ∙ p.all);
          all_rows = append_assoc p.rows (at ∷ []) (rows_from (at + 1) next.more)
              ∙ (ap (λ (l : List Field). p.rows ++ rows_from at l) (sym next.is) ∙ p.all_rows);
        }

    module _ (l : r + n ≤ at) where
      over : p.rest ≡ []
      over = nil_of p.rest (omega (arith, l, p.sum))

      pub fielding_end : Ok tt ≡ result_of (λ u. u) (check_fields of_check w.P w.fields (r + 1) w.own)
      unfolding check_fields
      fielding_end = passed_is (λ u. u) _ (p.answer ∙ rw over)

      pub fielding_done : Working w.P w.k T (w.fields ++ w.own) (w.rows ++ rows_from r w.own) w.methods
      unfolding rows_from
      fielding_done =
          let a : p.before ≡ w.fields ++ w.own = sym (append-nil p.before)
          ∙ (ap (λ (l : List Field). p.before ++ l) (sym over) ∙ p.all) in
          let b : p.rows ≡ w.rows ++ rows_from r w.own = sym (append-nil p.rows)
          ∙ (ap (λ (l : List Field). p.rows ++ rows_from at l) (sym over) ∙ p.all_rows) in
          rw (← a, ← b) p.working
