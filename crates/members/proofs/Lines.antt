-- Laws of where headings stand in rows. Assumes nothing.
use mathlib.Core.Path.{◌≡◌, refl, sym, ap, subst, ◌∙◌}
use mathlib.Core.Option.{some}
use mathlib.Core.List.{List, [], ◌∷◌}
use mathlib.Core.Logic.{◌⊎◌, inl, inr, ⊎_elim}
use Prim.Native.Nat.{ℕ, zero, suc, ◌+◌, ◌-◌, ◌*◌, ◌≤◌, ◌<◌}
use native.Mathlib.Omega.{arith}
use lib.ListN.{length, get_or, take}
use lib.Seq.{take-length}
use Rattle.language.specs.Limits.{of_check}
use Rattle.language.specs.Lists.{nth, Never, inj}
use Rattle.language.specs.Rows.{S_start}
use Rattle.language.specs.Tree.{Declaration, Class, Program, heading_lines}
use Rattle.language.specs.Tree.{method_lines, methods_lines, class_lines, classes_lines}
use Rattle.language.specs.Program.{class_at}
use Rattle.language.specs.ClassTables.{class_row}
use Rattle.language.specs.Encoded.{RowAt}
use Rattle.language.specs.Layout.{Run, ClassEnd, EachMethod, MethodAt, ClassAt, ProgramAt}
use Rattle.language.specs.Layout.{methods_from_row}
use Rattle.language.specs.WellFormed.{Each, each_cons, MethodInForm, ClassInForm}
use Rattle.language.proofs.Classes.{class_some}
use Rattle.language.proofs.Lines.{less_or_same, run_unique}
use Rattle.layout.specs.Found.{class_here, class_in_form}
use Rattle.layout.specs.HeadingRuns.{end_letter, methods_first}
use Rattle.layout.specs.HeadingRuns.{fields_run, class_ended}
use Rattle.layout.specs.Walks.{MethodStanding}
use Rattle.members.specs.Ready.{ClassHere}

-- the methods of a class from a row on, to its last
pub record MethodsFrom (R E : List ℕ) (ms : List Declaration) (at : ℕ) : Type 0 where
  pub k : ℕ
  pub here : EachMethod (λ k m r. MethodAt R E m r) ms k at
  pub in_form : Each (MethodInForm of_check) ms
  pub ended : ClassEnd R (at + methods_lines ms)

module _ {R E : List ℕ} {at : ℕ} where
  pub methods_within : (ms : List Declaration) → MethodsFrom R E ms at → at * 4 + 3 < length R
  methods_within ms h = (methods_first R E ms h.k at h.here h.ended).0

  -- an M line is there, so there is a method
  pub next_method : (ms : List Declaration) → MethodsFrom R E ms at → get_or R (at * 4) 0 ≡ 77
      → (m : Declaration) × (ds : List Declaration) × (ms ≡ m ∷ ds)
      × MethodAt R E m at × MethodInForm of_check m × MethodsFrom R E ds (at + method_lines m)
  unfolding EachMethod methods_lines
  next_method [] h e =
      let z : at + 0 ≡ at = omega arith in
      absurd (end_letter (subst (ClassEnd R) z h.ended) 77 (omega arith) (omega arith) e)
  next_method (m ∷ ds) h e = go h.in_form
    where
      z : at + (method_lines m + methods_lines ds) ≡ at + method_lines m + methods_lines ds
      z = omega arith

      go : Each (MethodInForm of_check) (m ∷ ds)
          → (n : Declaration) × (es : List Declaration) × (m ∷ ds ≡ n ∷ es)
          × MethodAt R E n at × MethodInForm of_check n × MethodsFrom R E es (at + method_lines n)
      go (each_cons i is) = (
        m,
        ds,
        refl,
        h.here.0,
        i,
        record { k = h.k; here = h.here.1; in_form = is; ended = subst (ClassEnd R) z h.ended },
      )

  -- no M line is there, so there is none
  pub no_methods : (ms : List Declaration) → MethodsFrom R E ms at → (get_or R (at * 4) 0 ≡ 77 → ⊥) → ms ≡ []
  unfolding EachMethod
  no_methods [] h n = refl
  no_methods (m ∷ ds) h n = absurd (n h.here.0.line.letter)

-- what is left of a class's methods while they are skipped
pub record Skipping (R E : List ℕ) (at end : ℕ) : Type 0 where
  pub rest : List Declaration
  pub here : MethodsFrom R E rest at
  pub sum : at + methods_lines rest ≡ end

module _ {R E : List ℕ} {at end : ℕ} (s : Skipping R E at end) where
  pub skip_within : at * 4 + 3 < length R
  skip_within = methods_within s.rest s.here

  pub skip_end : (get_or R (at * 4) 0 ≡ 77 → ⊥) → at ≡ end
  unfolding methods_lines
  skip_end n = let z : methods_lines s.rest ≡ 0 = ap methods_lines (no_methods s.rest s.here n) in
      omega (arith, s.sum, z)

  module _ (l : length R ≤ 240000) (e : get_or R (at * 4) 0 ≡ 77) where
    abbrev pub skip_here : MethodStanding R E at
    skip_here = let y = next_method s.rest s.here e in
        record { method = y.0; at = y.3; in_form = y.4; short = l }

    module _ (n : ℕ) (f : (w : MethodStanding R E at) → n ≡ at + method_lines w.method) where
      pub skip_step : Skipping R E n end
      unfolding methods_lines
      skip_step =
          let y = next_method s.rest s.here e in
          let q : n ≡ at + method_lines y.0 = f skip_here in
          let z : methods_lines s.rest ≡ method_lines y.0 + methods_lines y.1 =
          ap methods_lines y.2 in
          record { rest = y.1; here = rw q y.5; sum = omega (arith, q, s.sum, z) }

      pub skip_grows : at < n
      unfolding method_lines heading_lines
      skip_grows = omega (arith, f skip_here)

-- ---- classes

-- the row where class i + 1 would stand: its C line, or after the last class the S line
pub record ClassOrStart (R : List ℕ) (count i r : ℕ) : Type 0 where
  pub within : r * 4 + 3 < length R
  pub letter : ((get_or R (r * 4) 0 ≡ 67) × (i < count)) ⊎ ((get_or R (r * 4) 0 ≡ 83) × (i ≡ count))

module _ {R E : List ℕ} {p : Program} (h : ProgramAt R E p) where
  pub next_class : (i : ℕ) → i ≤ length p.classes
      → ClassOrStart R (length p.classes) i (class_row p.classes (i + 1))
  unfolding class_row
  next_class i l =
      let P = p.classes in
      let z : i ≡ i + 1 - 1 = omega arith in
      ⊎_elim
      (λ (q : i < length P).
      let c = class_some P (i + 1) (omega arith) (omega (arith, q)) in
      let x = (class_here h (i + 1) c.0 c.1).line in
      record { within = x.within; letter = inl (x.letter, q) })
      (λ (q : i ≡ length P).
      let x = subst (λ (j : ℕ). RowAt R j S_start 0 0)
      (ap classes_lines (sym (take-length P)) ∙ ap (λ (j : ℕ). classes_lines (take j P)) (sym q ∙ z))
      h.start_line in
      record { within = x.within; letter = inr (x.letter, q) })
      (less_or_same i (length P) l)

-- the row after a class
lines_next : (cs : List Class) (i : ℕ) (c : Class) → nth cs i ≡ some c
    → classes_lines (take (suc i) cs) ≡ classes_lines (take i cs) + class_lines c
unfolding nth classes_lines
lines_next [] i c e = absurd (Never e)
lines_next (x ∷ cs) zero c e = let q : class_lines x ≡ class_lines c = ap class_lines (inj e) in
    omega (arith, q)
lines_next (x ∷ cs) (suc i) c e = omega (arith, lines_next cs i c e)

pub row_next : (P : List Class) (k : ℕ) (c : Class) → class_at P k ≡ some c
    → class_row P (k + 1) ≡ class_row P k + class_lines c
unfolding class_at class_row
row_next P zero c e = absurd (Never e)
row_next P (suc k) c e =
    let a : suc k + 1 - 1 ≡ suc k = omega arith in
    let b : suc k - 1 ≡ k = omega arith in
    rw (a, b) (lines_next P k c e)

module _ {R E : List ℕ} {r : ℕ} (w : ClassHere R E r) where
  pub class_lines_at : ClassAt R E w.k w.one r
  class_lines_at = subst (ClassAt R E w.k w.one) (sym w.row_is)
      (class_here w.standing w.k w.one w.is)

  pub class_formed : ClassInForm of_check w.one
  class_formed = class_in_form w.standing w.k w.one w.is

  ended : ClassEnd R (r + class_lines w.one)
  ended = rw w.row_is (class_ended w.standing w.k w.one w.is)

  pub class_methods : MethodsFrom R E w.one.methods (methods_from_row r w.one)
  unfolding class_lines
  class_methods =
      let z : r + class_lines w.one ≡ methods_from_row r w.one + methods_lines w.one.methods =
      omega arith in
      record {
        k = w.k;
        here = class_lines_at.methods;
        in_form = class_formed.methods;
        ended = subst (ClassEnd R) z ended;
      }

  pub class_fields : (n : ℕ) × Run R 70 (r + 1) n
  class_fields = (length w.one.fields, fields_run class_lines_at ended)

  pub class_within : r * 4 + 3 < length R
  class_within = class_lines_at.line.within

  module _ (n : ℕ) (v : Run R 70 (r + 1) n) where
    pub fields_count : n ≡ length w.one.fields
    fields_count = run_unique v (fields_run class_lines_at ended)

    pub skip_start : Skipping R E (r + 1 + n) (r + class_lines w.one)
    unfolding class_lines
    skip_start = record {
      rest = w.one.methods;
      here = rw fields_count class_methods;
      sum = omega (arith, fields_count);
    }
