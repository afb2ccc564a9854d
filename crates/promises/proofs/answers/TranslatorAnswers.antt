-- Demand 1, the translator: it refuses as the check does, then with 2 by its own limits, then with 12. Of an
-- accepted program its limits refuse with nothing but 2, and only a line that is over them.
use mathlib.Core.Path.{◌≡◌, refl, subst}
use Prim.Native.Nat.{ℕ, suc, ◌+◌}
use mathlib.Core.Bool.{not, ◌&&◌}
use mathlib.Core.List.{List, [], ◌∷◌, ◌++◌}
use lib.ListN.{length, length-append}
use lib.Dec.{ltb}
use borrow.Author.Tests.{ltb-false}
use native.Mathlib.Omega.{arith}
use Rattle.language.specs.Limits.{Most, of_check, of_translator, limit_refusal}
use Rattle.language.specs.Results.{Checked, accept, bind_checked_inv, require_inv}
use Rattle.language.specs.Results.{accept_injective, accept≢refuse}
use Rattle.language.specs.Rows.{Row, rows_of}
use Rattle.language.specs.Tree.{DeclaredType, Field, Declaration, method_lines, Class, class_lines}
use Rattle.language.specs.Tree.{Program}
use Rattle.language.specs.World.{place, is_declared, is_declared_type}
use Rattle.language.specs.Program.{declared, kind_at, is_root_class, is_state_type, world}
use Rattle.language.specs.Form.{form}
use Rattle.language.specs.Headings.{may_extend, is_some, may_override, check_fields, check_parameters}
use Rattle.language.specs.Headings.{check_effects, check_methods, check_class, check_classes, headings}
use Rattle.language.specs.Uses.{a_field, counted, class_uses, classes_uses, program_uses, too_many_fields}
use Rattle.language.specs.Uses.{too_many_rows}
use Rattle.language.specs.Verdict.{whole_rows, three_passes, check}
use Rattle.language.specs.Translation.{within_limits, translation}
use Rattle.theory.proofs.acceptance.Translatable.{translator_tighter}
use Rattle.promises.specs.Listed.{LineOf, FormRefusal, refuses_line, refuses_limit, refuses_place}
use Rattle.promises.specs.Listed.{HeadingRefusal, refuses_fields, refuses_heading_name, refuses_kind}
use Rattle.promises.specs.Listed.{refuses_override, TranslatorRefusal, by_check, over_limit}
use Rattle.promises.proofs.answers.Refusals.{Any, Gives, gives, refuses, RefusesOnly, answers}
use Rattle.promises.proofs.answers.Refusals.{refuses_as}
use Rattle.promises.proofs.answers.Refusals.{only_mono, only_bind, only_earlier}
use Rattle.promises.proofs.answers.FormRefusals.{form_refusals}
use Rattle.promises.proofs.answers.PassRefusals.{heading_refusals}
use Rattle.promises.proofs.answers.OnLines.{here, later, on_left, on_right}
use Rattle.promises.proofs.answers.UseLaws.{Excess, class_length, excess_over}
use Rattle.promises.proofs.answers.TighterNodes.{Cuts, same, over_rows, over, unsaid, cuts_bind}
use Rattle.promises.proofs.answers.TighterNodes.{cuts_require}
use Rattle.promises.proofs.answers.TighterNodes.{cuts_limit, cuts_mono}
use Rattle.promises.proofs.answers.TighterForm.{form_cuts}
use Rattle.language.specs.WellFormed.{RowsOf}
use Rattle.theory.proofs.acceptance.Acceptance.{check_accepts}
use Rattle.promises.proofs.answers.ReservedNames.{names_refuse}
use Rattle.promises.proofs.answers.ListedAnswers.{rows_read, check_refuses}

-- A list with one more at its end.
one_more : (l : List Field) (f : Field) → length (l ++ (f ∷ [])) ≡ suc (length l)
one_more l f = omega (arith, length-append l (f ∷ []))

-- The pass over headings within tighter limits: passed, or 2 on an F line that is over them, where it passes
-- within wide ones.
module _ (wide tight : Most) (P : List Class) where
  abbrev FieldsOver : ℕ → ℕ → List Field → Unit {0} → ℕ → Type 0
  FieldsOver n at fs _ l = Excess tight at (counted a_field n fs) l

  -- Parameters, effects and methods have no limit of their own here.
  abbrev NoLine : Unit {0} → ℕ → Type 0
  NoLine _ _ = ⊥

  fields_cuts : (before : List Field) (at : ℕ) (fs : List Field)
      → Cuts tight (FieldsOver (length before) at fs)
      (check_fields wide P before at fs) (check_fields tight P before at fs)
  unfolding check_fields counted
  fields_cuts before at [] = same
  fields_cuts before at (f ∷ fs) =
      cuts_limit (ltb (length before) wide.fields) (ltb (length before) tight.fields) at
      (λ e _ _. here (too_many_fields (omega (arith, ltb-false (length before) tight.fields e)))) λ _.
      cuts_require (is_declared_type (world P) f.type) _ _ λ _.
      cuts_require (not (is_some (place f.name before))) _ _ λ _.
      cuts_require (not (is_state_type P f.type)) _ _ λ _.
      cuts_mono (fields_cuts (before ++ (f ∷ [])) (at + 1) fs) λ _ l h. later
      (subst (λ (n : ℕ). Excess tight (at + 1) (counted a_field n fs) l) (one_more before f) h)

  parameters_cuts : (at : ℕ) (ts : List DeclaredType)
      → Cuts tight NoLine (check_parameters wide P at ts) (check_parameters tight P at ts)
  unfolding check_parameters
  parameters_cuts at [] = same
  parameters_cuts at (t ∷ ts) = cuts_require (is_declared_type (world P) t) _ _ λ _.
      parameters_cuts (at + 1) ts

  effects_cuts : (last at : ℕ) (cs : List ℕ)
      → Cuts tight NoLine (check_effects wide P last at cs) (check_effects tight P last at cs)
  unfolding check_effects
  effects_cuts last at [] = same
  effects_cuts last at (c ∷ cs) = cuts_require (is_declared (world P) c) _ _ λ _.
      cuts_require (is_root_class P c && ltb last c) _ _ λ _. effects_cuts c (at + 1) cs

  methods_cuts : (super : ℕ) (before : List Declaration) (at : ℕ) (ms : List Declaration)
      → Cuts tight NoLine (check_methods wide P super before at ms) (check_methods tight P super before at ms)
  unfolding check_methods
  methods_cuts super before at [] = same
  methods_cuts super before at (m ∷ ms) =
      cuts_require (is_declared_type (world P) m.result) _ _ λ _.
      cuts_require (not (is_some (declared before m.name))) _ _ λ _.
      cuts_require (may_override m ((world P).method super m.name)) _ _ λ _.
      cuts_bind (parameters_cuts (at + 1) m.parameters) (λ _ l h _ _. absurd h) λ _.
      cuts_bind (effects_cuts 0 (at + 1 + length m.parameters) m.effects) (λ _ l h _ _. absurd h) λ _.
      methods_cuts super (m ∷ before) (at + method_lines m) ms

  classes_cuts : (k at : ℕ) (cs : List Class)
      → Cuts tight (λ _ l. Excess tight at (classes_uses (world P) k cs) l)
      (check_classes wide P k at cs) (check_classes tight P k at cs)
  unfolding check_classes check_class classes_uses class_uses
  classes_cuts k at [] = same
  classes_cuts k at (c ∷ cs) = cuts_bind {P = λ _ l. Excess tight at (class_uses (world P) k c) l}
      (cuts_require (ltb c.super k) _ _ λ _.
      cuts_require (may_extend c.kind (kind_at P c.super)) _ _ λ _.
      cuts_bind (fields_cuts ((world P).fields c.super) (at + 1) c.fields)
      (λ _ l h _ _. later (on_left _ h)) λ _.
      cuts_mono (methods_cuts c.super [] (at + 1 + length c.fields) c.methods) (λ _ l h. absurd h))
      (λ _ l h _ _. on_left _ h) λ _.
      cuts_mono (classes_cuts (suc k) (at + class_lines c) cs) λ _ l h.
      on_right (class_uses (world P) k c) (class_lines c) (class_length (world P) k c) h

  headings_cuts : Cuts tight (λ _ l. Excess tight 1 (classes_uses (world P) 1 P) l)
      (headings wide P) (headings tight P)
  unfolding headings
  headings_cuts = classes_cuts 1 1 P

-- A refusal with 2 stands on one of the rows.
form_limit_line : {rows : List Row} {n l : ℕ} → FormRefusal rows n l → n ≡ limit_refusal
    → LineOf (length rows) l
form_limit_line (refuses_line r w p q) e = absurd (omega (arith, e))
form_limit_line (refuses_limit w) e = w
form_limit_line (refuses_place w) e = absurd (omega (arith, e))

heading_limit_line : {rows n l : ℕ} → HeadingRefusal rows n l → n ≡ limit_refusal → LineOf rows l
heading_limit_line (refuses_fields w) e = w
heading_limit_line (refuses_heading_name w) e = absurd (omega (arith, e))
heading_limit_line (refuses_kind w) e = absurd (omega (arith, e))
heading_limit_line (refuses_override w) e = absurd (omega (arith, e))

-- A pass that accepts within wide limits refuses within the translator's only with 2, on a line that is over
-- them.
only_limits : {ns : List ℕ} (p : Program) → RowsOf ns p → {Listed : ℕ → ℕ → Type 0} {A : Type 0}
    {P : A → ℕ → Type 0} {r r' : Checked A} {a : A}
    → ((n l : ℕ) → Listed n l → n ≡ limit_refusal → LineOf (length (rows_of ns)) l)
    → ((l : ℕ) → P a l → Excess of_translator 1 (program_uses p) l)
    → Gives Listed Any r' → Cuts of_translator P r r' → r ≡ accept a → RefusesOnly (TranslatorRefusal ns) r'
only_limits p w f g (gives q) c e = answers
only_limits p w f g (refuses v) (over_rows h) e = refuses_as (over_limit p w (f _ _ v refl) (too_many_rows h))
only_limits p w {P} f g (refuses v) (over {l} h) e =
    refuses_as (over_limit p w (f _ _ v refl)
    (excess_over (g _ (subst (λ x. P x l) (accept_injective e) h))))
only_limits p w f g (refuses v) (unsaid {n} {l}) e = absurd (accept≢refuse n l e)

-- What the check reads, and that its passes over form and headings accept it.
check_passes : (ns : List ℕ) (p : Program) → check ns ≡ accept p
    → (form of_check (rows_of ns) ≡ accept p) × (u : Unit {0}) × (headings of_check p.classes ≡ accept u)
unfolding check whole_rows three_passes
check_passes ns p e = require_inv _ _ _ _ e λ _ e. bind_checked_inv _ _ e λ q e₁ e.
    bind_checked_inv _ _ e λ u e₂ e.
    bind_checked_inv _ _ e λ v e₃ e. rw (← accept_injective e) (e₁, u, e₂)

-- The translator's limits refuse an accepted program only with 2, on a line that is over them.
limits_refuse : (ns : List ℕ) (p : Program) → check ns ≡ accept p
    → RefusesOnly (TranslatorRefusal ns) (within_limits ns p)
unfolding within_limits program_uses
limits_refuse ns p e = let x = check_passes ns p e in let rows = length (rows_of ns) in
    let w = (check_accepts ns p).0 e in
    only_earlier
    (only_limits p w (λ n l w q. form_limit_line w q) (λ l h. h) (form_refusals of_translator (rows_of ns))
    (form_cuts of_check of_translator translator_tighter refl (rows_of ns)) x.0)
    (only_limits p w (λ n l w q. heading_limit_line w q) (λ l h. on_left _ h)
    (heading_refusals of_translator p.classes rows (omega (arith, rows_read ns p x.0)))
    (headings_cuts of_check of_translator p.classes) x.2)

-- The translator refuses only in the ways listed for it.
pub translation_refuses : (ns : List ℕ) → RefusesOnly (TranslatorRefusal ns) (translation ns)
unfolding translation
translation_refuses ns =
    only_bind (only_mono (check_refuses ns) (λ n l w. by_check w)) λ p e.
    only_bind (limits_refuse ns p e) λ _ within.
    only_bind (names_refuse ns p ((check_accepts ns p).0 e) within) λ _ _. answers
