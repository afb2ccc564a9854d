-- Reading a whole program that was written gives its tree back.
use mathlib.Core.Path.{◌≡◌, refl, ◌∙◌, subst}
use Prim.Native.Nat.{ℕ, zero, suc, ◌+◌, ◌≤◌}
use mathlib.Core.Option.{none, some}
use mathlib.Core.Bool.{true, false}
use mathlib.Core.List.{List, [], ◌∷◌, ◌++◌, map}
use lib.ListN.{length, length-append}
use native.Mathlib.Omega.{arith}
use borrow.Author.Tests.{lt-ltb}
use Rattle.language.specs.Limits.{Most, largest}
use Rattle.language.specs.Results.{accept, require}
use Rattle.language.specs.Rows.{Letter, C_class, F_field, M_method, P_parameter, X_effect, S_start, B_block}
use Rattle.language.specs.Rows.{written, name_of, same_letter, Row, row_of, most_at}
use Rattle.language.specs.Tree.{DeclaredType, type_number, Expr, block, Exprs, count, size, flatten}
use Rattle.language.specs.Tree.{kind_number, Field, Declaration, Class, Program, heading_lines, method_lines}
use Rattle.language.specs.Tree.{methods_lines, class_lines, classes_lines, flatten_program}
use Rattle.language.specs.Form.{read, done, after, if_letter, maybe, body, fields, parameters, effects}
use Rattle.language.specs.Form.{method, methods, classes, at_end, form}
use Rattle.language.specs.WellFormed.{TypeInForm, Each, each_nil, each_cons, NodeInForm, BodyInForm}
use Rattle.language.specs.WellFormed.{form_body, FieldInForm, MethodInForm, ClassInForm, ProgramInForm}
use Rattle.language.specs.WellFormed.{form_block}
use Rattle.theory.proofs.reading.ParseFlatten.{on_line, taken, node_flat}
use Rattle.theory.proofs.reading.RowCounts.{field_row, parameter_row, effect_row, heading}
use Rattle.theory.proofs.reading.RowCounts.{methods_rows}
use Rattle.theory.proofs.reading.RowCounts.{classes_rows, start_rows, program_rows}
use Rattle.language.proofs.Tables.{size_positive, method_positive}

module _ (most : Most) (named : most.name ≤ largest) (slotted : most.slots ≤ largest) where
  -- a record of this letter is taken, a record of another is left
  maybe_same : (l : Letter) (a b at : ℕ) → same_letter l l ≡ true → a ≤ most_at 1 l → b ≤ most_at 2 l
      → at ≤ most.rows → name_of l a b ≤ most.name
      → maybe most l at (row_of (written l a b)) ≡ some (written l a b)
  unfolding if_letter
  maybe_same l a b at q p₁ p₂ p₃ p₄ = rw (on_line most named slotted l a b at p₁ p₂ p₃ p₄, q)

  maybe_other : (l m : Letter) (a b at : ℕ) → same_letter l m ≡ false → a ≤ most_at 1 m → b ≤ most_at 2 m
      → at ≤ most.rows → name_of m a b ≤ most.name
      → maybe most l at (row_of (written m a b)) ≡ none
  unfolding if_letter
  maybe_other l m a b at q p₁ p₂ p₃ p₄ = rw (on_line most named slotted m a b at p₁ p₂ p₃ p₄, q)

  -- the rows here do not go on with this letter
  data Stops (l : Letter) (at : ℕ) : List Row → Type 0 where
    stops_end : Stops l at []
    stops_row : {r : Row} {rs : List Row} → maybe most l at r ≡ none → Stops l at (r ∷ rs)

  fields_flat : {fs : List Field} → Each (FieldInForm most) fs → (at : ℕ) (rs : List Row)
      → at + length fs ≤ suc most.rows → Stops F_field (at + length fs) rs
      → fields most at (map field_row fs ++ rs) ≡ read fs rs
  unfolding fields
  fields_flat each_nil at rs l s = go rs (subst (λ (n : ℕ). Stops F_field n rs) (omega arith) s)
    where
      go : (rs : List Row) → Stops F_field at rs → fields most at rs ≡ read [] rs
      go [] stops_end = refl
      go (r ∷ rs) (stops_row e) = rw e
  fields_flat {fs = f ∷ fs} (each_cons i is) at rs l s =
      rw (
        maybe_same F_field (type_number f.type) f.name at refl i.type.small (omega (arith, i.name))
            (omega arith) i.name,
        fields_flat is (at + 1) rs (omega arith) (subst (λ (n : ℕ). Stops F_field n rs) (omega arith) s),
        i.type.back,
      )

  effects_flat : {cs : List ℕ} → Each (λ c. c ≤ largest) cs → (at : ℕ) (rs : List Row)
      → at + length cs ≤ suc most.rows → Stops X_effect (at + length cs) rs
      → effects most at (map effect_row cs ++ rs) ≡ read cs rs
  unfolding effects
  effects_flat each_nil at rs l s = go rs (subst (λ (n : ℕ). Stops X_effect n rs) (omega arith) s)
    where
      go : (rs : List Row) → Stops X_effect at rs → effects most at rs ≡ read [] rs
      go [] stops_end = refl
      go (r ∷ rs) (stops_row e) = rw e
  effects_flat {cs = c ∷ cs} (each_cons i is) at rs l s =
      rw (
        maybe_same X_effect c 0 at refl i (omega arith) (omega arith) (omega arith),
        effects_flat is (at + 1) rs (omega arith) (subst (λ (n : ℕ). Stops X_effect n rs) (omega arith) s),
      )

  parameters_flat : {ts : List DeclaredType} → Each TypeInForm ts → (n at : ℕ) (rs : List Row)
      → n + length ts ≤ most.parameters → at + length ts ≤ suc most.rows
      → Stops P_parameter (at + length ts) rs → parameters most n at (map parameter_row ts ++ rs) ≡ done ts rs
  unfolding parameters after require
  parameters_flat each_nil n at rs k l s = go rs (subst (λ (n : ℕ). Stops P_parameter n rs) (omega arith) s)
    where
      go : (rs : List Row) → Stops P_parameter at rs → parameters most n at rs ≡ done [] rs
      go [] stops_end = refl
      go (r ∷ rs) (stops_row e) = rw e
  parameters_flat {ts = t ∷ ts} (each_cons i is) n at rs k l s =
      rw (
        maybe_same P_parameter (type_number t) 0 at refl i.small (omega arith) (omega arith) (omega arith),
        lt-ltb n most.parameters (omega arith),
        parameters_flat is (suc n) (at + 1) rs (omega arith) (omega arith)
            (subst (λ (n : ℕ). Stops P_parameter n rs) (omega arith) s),
        i.back,
      )

  -- the first row of a body is a block's
  record BlockBounds (ts : List DeclaredType) (es : Exprs) : Type 0 where
    locals : length ts ≤ most.slots
    nodes : count es ≤ largest

  block_bounds : {d n : ℕ} {ts : List DeclaredType} {es : Exprs} → NodeInForm most d n (block ts es)
      → BlockBounds ts es
  block_bounds (form_block a b c t f) = record { locals = omega arith; nodes = c }

  body_stops : (l : Letter) {n : ℕ} {e : Expr} (at : ℕ) (rs : List Row) → same_letter l B_block ≡ false
      → BodyInForm most n e → at + size e ≤ suc most.rows → Stops l at (map row_of (flatten e) ++ rs)
  unfolding flatten size
  body_stops l at rs q (form_body {ts} {es} f) h = let b = block_bounds f in
      stops_row (maybe_other l B_block (length ts) (count es) at q (omega arith) b.nodes (omega arith)
      (omega arith))

  body_flat : {n : ℕ} {e : Expr} → BodyInForm most n e → (at : ℕ) (rs : List Row)
      → at + size e ≤ suc most.rows
      → body most n at (map row_of (flatten e) ++ rs) ≡ done e rs
  unfolding body require flatten size
  body_flat {n} (form_body {ts} {es} f) at rs l = let b = block_bounds f in
      taken most named slotted B_block (length ts) (count es) at _ _ (omega arith) b.nodes (omega arith)
      (omega arith)
      ∙ node_flat most named slotted (block ts es) f at rs l

  method_flat : (m : Declaration) → MethodInForm most m → (at : ℕ) (rs : List Row)
      → at + method_lines m ≤ suc most.rows
      → method most at (heading m)
      (map parameter_row m.parameters
      ++ (map effect_row m.effects ++ (map row_of (flatten m.body) ++ rs)))
      ≡ done m rs
  unfolding method after method_lines heading_lines
  method_flat m i at rs l =
      rw (
        parameters_flat i.parameters 0 (at + 1)
            (map effect_row m.effects ++ (map row_of (flatten m.body) ++ rs)) (omega (arith, i.few))
            (omega arith) (p-stops m.effects i.effects (omega arith)),
        effects_flat i.effects (at + 1 + length m.parameters) (map row_of (flatten m.body) ++ rs)
            (omega arith) (body_stops X_effect _ rs refl i.body (omega arith)),
        body_flat i.body (at + 1 + length m.parameters + length m.effects) rs (omega arith),
        i.result.back,
      )
    where
      p-stops : (cs : List ℕ) → Each (λ c. c ≤ largest) cs
          → at + 1 + length m.parameters + length cs + size m.body ≤ suc most.rows
          → Stops P_parameter (at + 1 + length m.parameters)
          (map effect_row cs ++ (map row_of (flatten m.body) ++ rs))
      p-stops [] each_nil h = body_stops P_parameter _ rs refl i.body (omega arith)
      p-stops (c ∷ cs) (each_cons e es) h = stops_row
          (maybe_other P_parameter X_effect c 0 _ refl e (omega arith)
          (omega (arith, size_positive m.body)) (omega arith))

  methods_flat : {ms : List Declaration} → Each (MethodInForm most) ms → (f at : ℕ) (rs : List Row)
      → length ms ≤ f
      → at + methods_lines ms ≤ suc most.rows → Stops M_method (at + methods_lines ms) rs
      → methods most f at (methods_rows ms rs) ≡ done ms rs
  unfolding methods methods_rows methods_lines after
  methods_flat each_nil zero at rs k l s = refl
  methods_flat each_nil (suc f) at rs k l s = go rs (subst (λ (n : ℕ). Stops M_method n rs) (omega arith) s)
    where
      go : (rs : List Row) → Stops M_method at rs → methods most (suc f) at rs ≡ done [] rs
      go [] stops_end = refl
      go (r ∷ rs) (stops_row e) = rw e
  methods_flat (each_cons i is) zero at rs k l s = absurd (omega arith)
  methods_flat {ms = m ∷ ms} (each_cons i is) (suc f) at rs k l s =
      rw (
        maybe_same M_method (type_number m.result) m.name at refl i.result.small
            (omega (arith, i.name))
            (omega (arith, method_positive m)) i.name,
        method_flat m i at (methods_rows ms rs) (omega arith),
        methods_flat is f (at + method_lines m) rs (omega arith) (omega arith)
            (subst (λ (n : ℕ). Stops M_method n rs) (omega arith) s),
      )

  -- a row of methods stops any other letter, and so does what follows where there are none
  methods_stop : (l : Letter) {ms : List Declaration} → same_letter l M_method ≡ false
      → Each (MethodInForm most) ms
      → (at : ℕ) (rs : List Row) → at + methods_lines ms ≤ suc most.rows
      → Stops l (at + methods_lines ms) rs → Stops l at (methods_rows ms rs)
  unfolding methods_rows methods_lines method_lines heading_lines
  methods_stop l q each_nil at rs h s = subst (λ (n : ℕ). Stops l n rs) (omega arith) s
  methods_stop l {ms = m ∷ ms} q (each_cons i is) at rs h s =
      stops_row (maybe_other l M_method (type_number m.result) m.name at q i.result.small
      (omega (arith, i.name)) (omega arith) i.name)

  class_stop : (l : Letter) {cs : List Class} → same_letter l C_class ≡ false → Each (ClassInForm most) cs
      → (at : ℕ) (rs : List Row) → at + classes_lines cs ≤ suc most.rows
      → Stops l (at + classes_lines cs) rs → Stops l at (classes_rows cs rs)
  unfolding classes_rows classes_lines class_lines
  class_stop l q each_nil at rs h s = subst (λ (n : ℕ). Stops l n rs) (omega arith) s
  class_stop l {cs = c ∷ cs} q (each_cons i is) at rs h s =
      stops_row (maybe_other l C_class (kind_number c.kind) c.super at q i.kind_small i.super
      (omega arith) (omega arith))

  -- as many rows as methods at least
  methods_long : (ms : List Declaration) (rs : List Row) → length ms ≤ length (methods_rows ms rs)
  unfolding methods_rows
  methods_long [] rs = omega arith
  methods_long (m ∷ ms) rs = omega (
    arith,
    methods_long ms rs,
    length-append (map parameter_row m.parameters)
        (map effect_row m.effects ++ (map row_of (flatten m.body) ++ methods_rows ms rs)),
    length-append (map effect_row m.effects) (map row_of (flatten m.body) ++ methods_rows ms rs),
    length-append (map row_of (flatten m.body)) (methods_rows ms rs),
  )

  classes_flat : {cs : List Class} → Each (ClassInForm most) cs → (f n at : ℕ) (rs : List Row) → length cs ≤ f
      → n + length cs ≤ most.classes → at + classes_lines cs ≤ suc most.rows
      → Stops C_class (at + classes_lines cs) rs → Stops F_field (at + classes_lines cs) rs
      → Stops M_method (at + classes_lines cs) rs
      → classes most f n at (classes_rows cs rs) ≡ done cs rs
  unfolding classes classes_rows classes_lines class_lines after require
  classes_flat each_nil zero n at rs k j l s s' s'' = refl
  classes_flat each_nil (suc f) n at rs k j l s s' s'' =
      go rs (subst (λ (n : ℕ). Stops C_class n rs) (omega arith) s)
    where
      go : (rs : List Row) → Stops C_class at rs → classes most (suc f) n at rs ≡ done [] rs
      go [] stops_end = refl
      go (r ∷ rs) (stops_row e) = rw e
  classes_flat (each_cons i is) zero n at rs k j l s s' s'' = absurd (omega arith)
  classes_flat {cs = c ∷ cs} (each_cons i is) (suc f) n at rs k j l s s' s'' =
      let after-fields : Stops F_field (at + 1 + length c.fields)
      (methods_rows c.methods (classes_rows cs rs))
      = methods_stop F_field refl i.methods _ (classes_rows cs rs) (omega arith)
      (class_stop F_field refl is _ rs (omega arith)
      (subst (λ (n : ℕ). Stops F_field n rs) (omega arith) s')) in
      let after-methods : Stops M_method (at + 1 + length c.fields + methods_lines c.methods)
      (classes_rows cs rs)
      = class_stop M_method refl is _ rs (omega arith)
      (subst (λ (n : ℕ). Stops M_method n rs) (omega arith) s'') in
      rw (
        maybe_same C_class (kind_number c.kind) c.super at refl i.kind_small i.super (omega arith)
            (omega arith),
        lt-ltb n most.classes (omega arith),
        fields_flat i.fields (at + 1) (methods_rows c.methods (classes_rows cs rs)) (omega arith)
            after-fields,
        methods_flat i.methods (length (map field_row c.fields ++ methods_rows c.methods
            (classes_rows cs rs))) (at + 1 + length c.fields) (classes_rows cs rs)
            (omega (
              arith,
              methods_long c.methods (classes_rows cs rs),
              length-append (map field_row c.fields) (methods_rows c.methods (classes_rows cs rs)),
            ))
            (omega arith) after-methods,
        i.kind_back,
        classes_flat is f (suc n) (at + (1 + length c.fields + methods_lines c.methods)) rs
            (omega arith)
            (omega arith) (omega arith)
            (subst (λ (n : ℕ). Stops C_class n rs) (omega arith) s)
            (subst (λ (n : ℕ). Stops F_field n rs) (omega arith) s')
            (subst (λ (n : ℕ). Stops M_method n rs) (omega arith) s''),
      )

  -- as many rows as classes at least
  methods_longer : (ms : List Declaration) (rs : List Row) → length rs ≤ length (methods_rows ms rs)
  unfolding methods_rows
  methods_longer [] rs = omega arith
  methods_longer (m ∷ ms) rs = omega (
    arith,
    methods_longer ms rs,
    length-append (map parameter_row m.parameters)
        (map effect_row m.effects ++ (map row_of (flatten m.body) ++ methods_rows ms rs)),
    length-append (map effect_row m.effects) (map row_of (flatten m.body) ++ methods_rows ms rs),
    length-append (map row_of (flatten m.body)) (methods_rows ms rs),
  )

  classes_long : (cs : List Class) (rs : List Row) → length cs ≤ length (classes_rows cs rs)
  unfolding classes_rows
  classes_long [] rs = omega arith
  classes_long (c ∷ cs) rs = omega (
    arith,
    classes_long cs rs,
    length-append (map field_row c.fields) (methods_rows c.methods (classes_rows cs rs)),
    methods_longer c.methods (classes_rows cs rs),
  )

  -- Form reads the rows of a program in form back as that program.
  pub form_flat : (p : Program) → ProgramInForm most p
      → 2 + classes_lines p.classes + size p.start ≤ suc most.rows
      → form most (map row_of (flatten_program p)) ≡ accept p
  unfolding form after at_end require
  form_flat p i l =
      let at = 1 + classes_lines p.classes in
      let other : (k : Letter) → same_letter k S_start ≡ false
      → Stops k (1 + classes_lines p.classes) (start_rows p.start)
      = λ k q. stops_row (maybe_other k S_start 0 0 (1 + classes_lines p.classes) q (omega arith)
      (omega arith)
      (omega (arith, size_positive p.start)) (omega arith)) in
      rw (program_rows p)
      (rw (classes_flat i.classes (length (classes_rows p.classes (start_rows p.start))) 0 1
      (start_rows p.start) (classes_long p.classes (start_rows p.start))
      (omega (arith, i.few)) (omega arith) (other C_class refl) (other F_field refl) (other M_method refl))
      (taken most named slotted S_start 0 0 (1 + classes_lines p.classes)
      (map row_of (flatten p.start) ++ []) _ (omega arith) (omega arith)
      (omega (arith, size_positive p.start)) (omega arith)
      ∙ rw (body_flat i.start (1 + classes_lines p.classes + 1) [] (omega arith))))
