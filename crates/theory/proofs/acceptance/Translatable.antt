-- Rows that the translator takes: accepted rows within its column of limits and without reserved field names.
-- The program that the check reads of them is the one that the translator's own pass over form reads.
use mathlib.Core.Logic.{inl}
use mathlib.Core.Path.{◌≡◌, refl, sym, ap, ◌∙◌, subst}
use Prim.Native.Nat.{ℕ, ◌≤◌}
use mathlib.Core.Bool.{Bool, true, false, cond}
use mathlib.Core.List.{List, map}
use lib.Dec.{ltb}
use native.Mathlib.Omega.{arith}
use Rattle.language.specs.Limits.{Most, of_check, of_translator}
use Rattle.language.specs.Results.{Checked, accept, refuse, Pass, passed, earlier}
use Rattle.language.specs.Results.{bind_checked_inv, accept_injective, accept≢refuse}
use Rattle.language.specs.Rows.{row_of, rows_of, numbers_of}
use Rattle.language.specs.Tree.{Expr}
use Rattle.language.specs.Tree.{block, Declaration}
use Rattle.language.specs.Tree.{Class, Program, flatten_program}
use Rattle.language.specs.Program.{world}
use Rattle.language.specs.Form.{form}
use Rattle.language.specs.Headings.{headings}
use Rattle.language.specs.WellFormed.{Each, each_nil, each_cons}
use Rattle.language.specs.WellFormed.{BodyInForm, form_body, MethodInForm}
use Rattle.language.specs.WellFormed.{ClassInForm, ProgramInForm}
use Rattle.language.specs.Translation.{plain_program, within_limits, names_free, translation}
use Rattle.theory.proofs.reading.RowCounts.{length_program}
use Rattle.theory.proofs.reading.FormLimits.{node_within}
use Rattle.theory.proofs.reading.ParseProgram.{form_flat}
use Rattle.theory.proofs.reading.FlattenProgram.{form_back}
use Rattle.language.specs.WellFormed.{RowsOf}
use Rattle.theory.proofs.acceptance.Acceptance.{rows_of_numbers, check_accepts}
use Rattle.theory.proofs.lookups.TranslatorLookups.{TranslatorLaws, translatable_laws}

-- Limits of form of which the first are nowhere above the second.
pub record Tighter (tight wide : Most) : Type 0 where
  pub rows : tight.rows ≤ wide.rows
  pub classes : tight.classes ≤ wide.classes
  pub parameters : tight.parameters ≤ wide.parameters
  pub slots : tight.slots ≤ wide.slots
  pub nesting : tight.nesting ≤ wide.nesting
  pub name : tight.name ≤ wide.name

pub each_map : {A : Type 0} {R S : A → Type 0} → ((a : A) → R a → S a) → {l : List A} → Each R l → Each S l
each_map f each_nil = each_nil
each_map f (each_cons r rs) = each_cons (f _ r) (each_map f rs)

-- What is in form within tight limits is in form within wide ones.
module _ (tight wide : Most) (t : Tighter tight wide) where
  body_wider : {n : ℕ} {e : Expr} → BodyInForm tight n e → BodyInForm wide n e
  body_wider (form_body {ts} {es} i) =
      form_body (node_within tight wide t.name (block ts es) tight.nesting wide.nesting _ i
      (inl t.slots) (inl t.nesting))

  method_wider : (m : Declaration) → MethodInForm tight m → MethodInForm wide m
  method_wider m i = record {
    result = i.result;
    name = omega (arith, i.name, t.name);
    few = omega (arith, i.few, t.parameters);
    parameters = i.parameters;
    effects = i.effects;
    body = body_wider i.body;
  }

  class_wider : (c : Class) → ClassInForm tight c → ClassInForm wide c
  class_wider c i = record {
    kind_small = i.kind_small;
    kind_back = i.kind_back;
    super = i.super;
    fields = each_map (λ f j. record { type = j.type; name = omega (arith, j.name, t.name) }) i.fields;
    methods = each_map method_wider i.methods;
  }

  pub program_wider : (p : Program) → ProgramInForm tight p → ProgramInForm wide p
  program_wider p i = record {
    rows = omega (arith, i.rows, t.rows);
    few = omega (arith, i.few, t.classes);
    classes = each_map class_wider i.classes;
    start = body_wider i.start;
  }

pub translator_tighter : Tighter of_translator of_check
translator_tighter = record {
  rows = omega arith;
  classes = omega arith;
  parameters = omega arith;
  slots = omega arith;
  nesting = omega arith;
  name = omega arith;
}

-- Rows of a well-formed program that the translator takes, as its passes tell.
pub record TranslatableRows (ns : List ℕ) (p : Program) : Type 0 where
  pub accepted : RowsOf ns p
  pub in_form : ProgramInForm of_translator p
  pub few_fields : headings of_translator p.classes ≡ passed
  pub unreserved : names_free 1 p.classes ≡ passed

-- Where neither of two checks refuses, both accept.
pub earlier_inv : {A B C : Type 0} (r : Checked A) (s : Checked B) {u : Unit {0}} → earlier r s ≡ accept u
    → ((a : A) (b : B) → r ≡ accept a → s ≡ accept b → C) → C
unfolding earlier
earlier_inv (accept a) (accept b) e f = f a b refl refl
earlier_inv (accept a) (refuse n l) e f = absurd (accept≢refuse n l e)
earlier_inv (refuse n l) (accept b) e f = absurd (accept≢refuse n l e)
earlier_inv (refuse n l) (refuse m k) {u} e f = absurd (go (ltb k l) e)
  where
    go : (b : Bool) → ◌≡◌ {A = Pass} (cond b (refuse m k) (refuse n l)) (accept u) → ⊥
    go true e = accept≢refuse m k e
    go false e = accept≢refuse n l e

-- The two passes over form read the same program of the same rows.
pub same_program : (ns : List ℕ) (p q : Program) → RowsOf ns p → form of_translator (rows_of ns) ≡ accept q
    → q ≡ p
same_program ns p q r e =
    let f = form_back of_translator (omega arith) (rows_of ns) q e in
    let wide = program_wider of_translator of_check translator_tighter q f.1 in
    let again = form_flat of_check (omega arith) (omega arith) q wide
    (omega (arith, wide.rows, length_program q)) in
    let first = form_flat of_check (omega arith) (omega arith) p r.in_form
    (omega (arith, r.in_form.rows, length_program p)) in
    let same : map row_of (flatten_program q) ≡ map row_of (flatten_program p)
    = sym f.0 ∙ (ap rows_of (sym r.rows) ∙ rows_of_numbers (map row_of (flatten_program p))) in
    accept_injective (sym again ∙ (ap (form of_check) same ∙ first))

-- The translator answers only rows of such a program, and with the rows of its plain program.
pub translation_takes : (ns out : List ℕ) → translation ns ≡ accept out
    → (p : Program) × TranslatableRows ns p
    × (out ≡ numbers_of (map row_of (flatten_program (plain_program p))))
unfolding translation within_limits
translation_takes ns out e = bind_checked_inv _ _ e λ p e₁ e. bind_checked_inv _ _ e λ u e₂ e.
    bind_checked_inv _ _ e λ v e₃ e. earlier_inv _ _ e₂ λ q w e₄ e₅.
    let r = (check_accepts ns p).0 e₁ in
    let s = same_program ns p q r e₄ in (
      p,
      record {
        accepted = r;
        in_form = subst (ProgramInForm of_translator) s
            (form_back of_translator (omega arith) (rows_of ns) q e₄).1;
        few_fields = e₅;
        unreserved = e₃;
      },
      sym (accept_injective e),
    )

-- In the world of such a program the translator's laws hold.
pub taken_laws : (ns : List ℕ) (p : Program) → TranslatableRows ns p → TranslatorLaws (world p.classes)
taken_laws ns p r = translatable_laws p tt tt r.accepted.well r.in_form r.few_fields r.unreserved
