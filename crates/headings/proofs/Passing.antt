-- Laws of the pass over one class. Assumes nothing.
use mathlib.Core.Path.{◌≡◌, refl, sym, ap, ◌∙◌}
use mathlib.Core.Bool.{Bool, true, false, cond}
use mathlib.Core.Option.{some}
use mathlib.Core.List.{List, [], ◌++◌}
use Prim.Native.Nat.{ℕ, ◌+◌, ◌*◌, ◌≤◌, ◌<◌}
use native.Mathlib.Omega.{arith}
use borrow.Author.Tests.{lt-ltb, le-ltb}
use lib.ListN.{length, get_or}
use Rattle.std.specs.Prelude.{Result, Ok, Err}
use Rattle.language.specs.Limits.{of_check}
use Rattle.language.specs.Refusals.{refusal, result_of}
use Rattle.language.specs.declared.Refusal.{Refusal}
use Rattle.language.specs.Results.{bind_checked}
use Rattle.language.specs.Tree.{Kind, kind_of_number, Class}
use Rattle.language.specs.Program.{kind_at, world}
use Rattle.language.specs.Headings.{may_extend, check_fields, check_methods, check_class}
use Rattle.language.specs.ClassTables.{rows_from, class_row, field_rows, method_number}
use Rattle.language.specs.Layout.{Run, ClassAt}
use Rattle.language.specs.WellFormed.{ClassInForm}
use Rattle.language.proofs.Classes.{class_count}
use Rattle.members.specs.Answers.{headed}
use Rattle.members.specs.Blocks.{Lookups, Working}
use Rattle.members.specs.Faults.{faulty, fault_of_class}
use Rattle.members.specs.Numbers.{own_or, own_number, Numbered}
use Rattle.members.specs.Ready.{ClassHere, FieldsReady, MethodsReady}
use Rattle.headings.specs.Ready.{StartReady, ClassReady}
use Rattle.members.proofs.Checks.{class_is, faulty_none, bind_passed, bind_refused, refused_is}
use Rattle.members.proofs.Checks.{is_passed, is_refused}
use Rattle.members.proofs.Lines.{class_lines_at, class_formed, class_fields, fields_count}
use Rattle.members.proofs.Tables.{class_or_object, at_object, extend_object}
use Rattle.headings.proofs.Classes.{fields_of, field_rows_of, method_number_of, inherited_number}
use Rattle.headings.proofs.Classes.{lookups_next}

module _ {R E T M F : List ℕ} {k r first count : ℕ} (w : ClassReady R E T M F k r first count) where
  abbrev P' : List Class
  P' = w.program.classes

  -- how many methods it has
  abbrev own : ℕ
  own = length w.one.methods

  abbrev class_of : ClassHere R E r
  class_of = record {
    program = w.program;
    standing = w.standing;
    k = k;
    one = w.one;
    is = w.is;
    row_is = w.row_is;
  }

  pub at : ClassAt R E k w.one r
  at = class_lines_at class_of

  pub formed : ClassInForm of_check w.one
  formed = class_formed class_of

  within : k ≤ length P'
  within = (class_count P' k w.one w.is).1

  pub class_index : (r * 4 + 3 < length R) × (length R ≤ 240000) × (k * 576 + 576 ≤ length T) × (k ≤ 64)
  class_index = (
    at.line.within,
    w.standing.short,
    omega (arith, within, w.lookups.long),
    omega
        (arith, within, w.lookups.few),
  )

  fault_is : check_class of_check P' k (r + 1) w.one
      ≡ faulty (fault_of_class P' k w.one) (r + 1)
      (bind_checked (check_fields of_check P' ((world P').fields w.one.super) (r + 1 + 1) w.one.fields)
      λ _.
      check_methods of_check P' w.one.super [] (r + 1 + 1 + length w.one.fields) w.one.methods)
  fault_is = class_is P' k (r + 1) w.one

  pub class_late : (over : ℕ) → over ≡ get_or R (r * 4 + 2) 0 → k ≤ over
      → Err (refusal 4 (r + 1)) ≡ headed own (check_class of_check w.program.classes k (r + 1) w.one)
  unfolding fault_of_class
  class_late over over_is l = refused_is (λ _. own) _ (refusal 4 (r + 1)) (fault_is ∙ rw
      (le-ltb w.one.super k (omega (arith, l, over_is, at.line.second))))

  module _ (kind over : ℕ) (kind_is : kind ≡ get_or R (r * 4 + 1) 0) (over_is : over ≡ get_or R (r * 4 + 2) 0)
      (l : over < k) where
    pub super_is : over ≡ w.one.super
    super_is = over_is ∙ at.line.second

    earlier : w.one.super < k
    earlier = omega (arith, l, super_is)

    pub super_index : over * 576 + 575 < length T
    super_index = omega (arith, l, within, w.lookups.long)

    kind-of-super : (o : ℕ) → o ≡ w.one.super
        → may_extend w.one.kind (some (kind_of_number (get_or T (o * 576 + 512) 0)))
        ≡ may_extend w.one.kind (kind_at P' w.one.super)
    unfolding kind_at
    kind-of-super o q = class_or_object P' w.one.super (omega (arith, earlier, within))
        (λ e. let z : o ≡ 0 = q ∙ e in
        rw (z, w.lookups.object, at_object P' w.one.super e) (sym (extend_object w.one.kind)))
        (λ c e. rw (q, w.lookups.kinds w.one.super c e, w.lookups.proper w.one.super c e, e))

    extends-is : may_extend (kind_of_number kind)
        (some (kind_of_number (get_or T (over * 576 + 512) 0)))
        ≡ may_extend w.one.kind (kind_at P' w.one.super)
    extends-is = ap (λ (j : Kind). may_extend j
        (some (kind_of_number (get_or T (over * 576 + 512) 0))))
        (ap kind_of_number (kind_is ∙ at.line.first) ∙ formed.kind_back)
        ∙ kind-of-super over super_is

    module _ (b : Bool) (e : b ≡ may_extend (kind_of_number kind)
        (some (kind_of_number (get_or T (over * 576 + 512) 0)))) where
      fault-kind : fault_of_class P' k w.one ≡ cond b 0 5
      unfolding fault_of_class
      fault-kind = rw (lt-ltb w.one.super k earlier, ← extends-is, ← e)

      pub class_kind : b ≡ false
          → Err (refusal 5 (r + 1)) ≡ headed own (check_class of_check w.program.classes k (r + 1) w.one)
      class_kind z = refused_is (λ _. own) _ (refusal 5 (r + 1)) (fault_is ∙ rw (fault-kind, z))

      abbrev pub start_ready : StartReady T k over kind
      start_ready = record {
        P = w.program.classes;
        lookups = w.lookups;
        one = w.one;
        is = w.is;
        over_is = super_is;
        earlier = l;
        kind_is = kind_is ∙ at.line.first;
      }

      pub class_fields_here : (n : ℕ) × Run R 70 (r + 1) n
      class_fields_here = class_fields class_of

      module _ (z : b ≡ true) (T₁ : List ℕ)
          (s : (v : StartReady T k over kind)
          → Working v.P k T₁ ((world v.P).fields over)
          (field_rows v.P over) (method_number v.P over))
          (n : ℕ) (f : Run R 70 (r + 1) n) where
        pub n_is : n ≡ length w.one.fields
        n_is = fields_count class_of n f

        abbrev pub fields_ready : FieldsReady R T₁ (r + 1) n (k * 576) count
        fields_ready = record {
          P = w.program.classes;
          k = k;
          fields = (world w.program.classes).fields over;
          rows = field_rows w.program.classes over;
          methods = method_number w.program.classes over;
          working = s start_ready;
          own = w.one.fields;
          here = at.fields;
          in_form = formed.fields;
          n_is = n_is;
          base_is = refl;
          count_is = w.count_is;
          short = w.standing.short;
        }

        on : check_class of_check P' k (r + 1) w.one
            ≡ bind_checked (check_fields of_check P' ((world P').fields over) (r + 1 + 1)
            w.one.fields) (λ _.
            check_methods of_check P' over [] (r + 1 + 1 + length w.one.fields)
            w.one.methods)
        on = fault_is ∙ (faulty_none _ (r + 1) _ (fault-kind ∙ rw z)
            ∙ ap (λ (o : ℕ). bind_checked (check_fields of_check P' ((world P').fields o) (r + 1 + 1)
            w.one.fields) (λ _.
            check_methods of_check P' o [] (r + 1 + 1 + length w.one.fields) w.one.methods))
            (sym super_is))

        pub class_fields_refused : (e : Refusal)
            → ((v : FieldsReady R T₁ (r + 1) n (k * 576) count)
            → Err e ≡ result_of (λ u. u) (check_fields of_check v.P v.fields (r + 1 + 1) v.own))
            → Err e ≡ headed own (check_class of_check w.program.classes k (r + 1) w.one)
        class_fields_refused e g = refused_is (λ _. own) _ e
            (on ∙ bind_refused _ _ e.number e.line (is_refused (λ u. u) _ e (g fields_ready)))

        module _ (T₂ : List ℕ) (g : (v : FieldsReady R T₁ (r + 1) n (k * 576) count)
            → (Ok tt ≡ result_of (λ u. u) (check_fields of_check v.P v.fields (r + 1 + 1) v.own))
            × Working v.P v.k T₂ (v.fields ++ v.own) (v.rows ++ rows_from (r + 1) v.own) v.methods) where
          pub inherited : (m q : ℕ) → method_number w.program.classes over m ≡ some q
              → q < first
          inherited m q e = omega (
            arith,
            w.first_is,
            inherited_number P' k w.lookups.earlier over m q e l,
          )

          abbrev pub methods_ready : MethodsReady R E T₂ M F (r + 1 + n) k first count
          methods_ready = record {
            program = w.program;
            standing = w.standing;
            super = over;
            fields = (world w.program.classes).fields over ++ w.one.fields;
            rows = field_rows w.program.classes over
                ++ rows_from (r + 1) w.one.fields;
            working = (g fields_ready).1;
            inherited = inherited;
            entered = w.entered;
            one = w.one;
            is = w.is;
            first_is = w.first_is;
            row_is = omega (arith, n_is, w.row_is);
            count_is = w.count_is;
          }

          module _ (h : Result ℕ Refusal) (T₃ M₃ F₃ : List ℕ)
              (i : (v : MethodsReady R E T₂ M F (r + 1 + n) k first count)
              → (h ≡ headed (length v.one.methods)
              (check_methods of_check v.program.classes v.super
              [] (r + 1 + n + 1) v.one.methods))
              × ((m : ℕ) → h ≡ Ok m → Working v.program.classes k T₃ v.fields v.rows
              (own_or (own_number first v.one.methods) (method_number v.program.classes v.super))
              × Numbered v.program.classes M₃ F₃ (first + length v.one.methods))) where
            pub class_answer : h
                ≡ headed own (check_class of_check w.program.classes k (r + 1) w.one)
            class_answer =
                let q : r + 1 + n + 1 ≡ r + 1 + 1 + length w.one.fields = omega (arith, n_is) in
                (i methods_ready).0 ∙ ap (headed own) (ap (λ (at : ℕ). check_methods of_check P'
                over [] at w.one.methods) q
                ∙ sym (on ∙ bind_passed _ _ (is_passed (λ u. u) _ (g fields_ready).0)))

            numbers-is : (m : ℕ) → own_or (own_number first w.one.methods)
                (method_number P' over) m ≡ method_number P' k m
            numbers-is m = sym (method_number_of P' k w.lookups.earlier k w.one w.is earlier
                (omega arith) m
                ∙ (ap (λ (x : ℕ). own_or (own_number x w.one.methods) (method_number P' w.one.super)
                m)
                (sym w.first_is)
                ∙ ap (λ (x : ℕ). own_or (own_number first w.one.methods) (method_number P' x) m)
                (sym super_is)))

            pub class_done : (m : ℕ) → h ≡ Ok m → Lookups w.program.classes (k + 1) T₃
                × Numbered w.program.classes M₃ F₃ (first + length w.one.methods)
            class_done m p =
                let c = w.one in
                let e = sym super_is in
                let y = (i methods_ready).1 m p in (
                  lookups_next y.0 c w.is earlier
                      (sym (fields_of P' k w.lookups.earlier k c w.is earlier (omega arith)
                      ∙ ap (λ (o : ℕ). (world P').fields o ++ c.fields) e))
                      (sym (field_rows_of P' k w.lookups.earlier k c w.is earlier (omega arith)
                      ∙ (ap (λ (o : ℕ). field_rows P' o ++ rows_from (class_row P' k + 1) c.fields) e
                      ∙ ap (λ (s : ℕ). field_rows P' over ++ rows_from (s + 1)
                      c.fields)
                      (sym w.row_is))))
                      numbers-is,
                  y.1,
                )
