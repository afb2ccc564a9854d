-- What follows the lines of a heading, so that they are a run of their letter.
--   parameter_lines, effect_lines   P lines and X lines, with a row of another letter after them
--   block_here, parameters_run, effects_run   of a method in form: its B line, its P lines, its X lines
--   methods_first, fields_run   after the F lines of a class comes an M line, or the class has ended
--   classes_first, class_ended  where a class has ended, the next one's C line follows or the S line
use Rattle.std.specs.Prelude.{◌≡◌, ◌≢◌, ℕ, suc, ◌+◌, ◌*◌, ◌<◌, length, get_or}
use Rattle.std.proofs.Common.{sym, ◌∙◌, ⊎_elim}
use Rattle.std.proofs.Math.Path.{subst}
use Rattle.std.proofs.Math.Option.{some}
use Rattle.std.proofs.Math.Logic.{inl, inr}
use mathlib.Core.List.{List, [], ◌∷◌}
use native.Mathlib.Omega.{arith}
use Rattle.language.specs.Limits.{of_check}
use Rattle.language.specs.Rows.{P_parameter, X_effect, F_field, S_start}
use Rattle.language.specs.Tree.{DeclaredType, type_number, Field, Declaration, Class, Program, methods_lines}
use Rattle.language.specs.Tree.{class_lines, classes_lines}
use Rattle.language.specs.Program.{class_at}
use Rattle.language.specs.ClassTables.{class_row}
use Rattle.language.specs.WellFormed.{MethodInForm}
use Rattle.language.specs.Encoded.{RowAt, TypesAt}
use Rattle.language.specs.Layout.{EachMethod, EachClass, EffectsAt, Run, ClassEnd, MethodAt, ClassAt}
use Rattle.language.specs.Layout.{ProgramAt}
use Rattle.language.specs.Layout.{effects_row, body_row, methods_from_row}
use Rattle.language.proofs.Lines.{first_line, lines_run}
use Rattle.layout.specs.Found.{each_class, BlockHere, body_here}

-- ---- methods

module _ (R : List ℕ) (ts : List DeclaredType) (cs : List ℕ) (r letter : ℕ)
    (ps : TypesAt P_parameter R ts (r + 1))
    (xs : EffectsAt R cs (r + 1 + length ts)) (within : (r + 1 + length ts + length cs) * 4 + 3 < length R)
    (next : get_or R ((r + 1 + length ts + length cs) * 4) 0 ≡ letter) where
  pub effect_lines : letter ≢ 88 → Run R 88 (r + 1 + length ts) (length cs)
  effect_lines o = lines_run (λ (c i : ℕ). RowAt R i X_effect c 0) R 88 (λ c i x. x.letter) cs
      (r + 1 + length ts) xs within (λ e. o (sym next ∙ e))

  pub parameter_lines : letter ≢ 80 → Run R 80 (r + 1) (length ts)
  parameter_lines o =
      let x = first_line (λ (c i : ℕ). RowAt R i X_effect c 0)
      (λ (i : ℕ). (i * 4 + 3 < length R) × (get_or R (i * 4) 0 ≢ 80))
      (λ c i x. (x.within, λ e. omega (arith, x.letter, e))) cs (r + 1 + length ts) xs
      (within, λ e. o (sym next ∙ e)) in
      lines_run (λ (t : DeclaredType) (i : ℕ). RowAt R i P_parameter (type_number t) 0) R 80
      (λ t i x. x.letter) ts (r + 1) ps x.0 x.1

module _ {R E : List ℕ} {m : Declaration} {r : ℕ} (h : MethodAt R E m r) (f : MethodInForm of_check m) where
  pub block_here : BlockHere R E m.body (body_row r m)
  block_here = body_here (body_row r m) f.body h.body

  pub effects_run : Run R 88 (effects_row r m) (length m.effects)
  effects_run = let b = block_here.node.row in
      effect_lines R m.parameters m.effects r 66 h.parameters h.effects b.within b.letter
      (omega arith)

  pub parameters_run : Run R 80 (r + 1) (length m.parameters)
  parameters_run = let b = block_here.node.row in
      parameter_lines R m.parameters m.effects r 66 h.parameters h.effects b.within b.letter
      (omega arith)

-- ---- classes

-- A row where a class has ended has no other letter.
pub end_letter : {R : List ℕ} {r : ℕ} → ClassEnd R r → (l : ℕ) → l ≢ 67 → l ≢ 83 → get_or R (r * 4) 0 ≢ l
end_letter h l c s e = ⊎_elim (λ q. c (sym e ∙ q)) (λ q. s (sym e ∙ q)) h.letter

module _ (R E : List ℕ) where
  -- The row where the methods of a class begin.
  pub methods_first : (ms : List Declaration) (k r : ℕ) → EachMethod (λ k m r. MethodAt R E m r) ms k r
      → ClassEnd R (r + methods_lines ms) → (r * 4 + 3 < length R) × (get_or R (r * 4) 0 ≢ 70)
  unfolding EachMethod methods_lines
  methods_first [] k r h w =
      let z : r + 0 ≡ r = omega arith in
      let e : ClassEnd R r = subst (ClassEnd R) z w in
      (e.within, end_letter e 70 (omega arith) (omega arith))
  methods_first (m ∷ ms) k r h w = let x = h.0.line in (x.within, λ q. omega (arith, x.letter, q))

  -- The row where classes begin: a class before them has ended there.
  pub classes_first : (cs : List Class) (k r : ℕ) → EachClass (ClassAt R E) cs k r
      → RowAt R (r + classes_lines cs) S_start 0 0 → ClassEnd R r
  unfolding EachClass classes_lines
  classes_first [] k r h s =
      let z : r + 0 ≡ r = omega arith in
      subst (ClassEnd R) z (record { within = s.within; letter = inr s.letter })
  classes_first (c ∷ cs) k r h s = record { within = h.0.line.within; letter = inl h.0.line.letter }

  classes_ended : (cs : List Class) (k r : ℕ) → EachClass (ClassAt R E) cs k r
      → RowAt R (r + classes_lines cs) S_start 0 0
      → EachClass (λ k c r. ClassEnd R (r + class_lines c)) cs k r
  unfolding EachClass classes_lines
  classes_ended [] k r h s = tt
  classes_ended (c ∷ cs) k r h s =
      let z : r + (class_lines c + classes_lines cs) ≡ r + class_lines c + classes_lines cs = omega arith in
      let t = subst (λ (j : ℕ). RowAt R j S_start 0 0) z s in (
        classes_first cs (suc k) (r + class_lines c) h.1 t,
        classes_ended cs (suc k) (r + class_lines c) h.1 t,
      )

module _ {R E : List ℕ} where
  pub fields_run : {k : ℕ} {c : Class} {r : ℕ} → ClassAt R E k c r → ClassEnd R (r + class_lines c)
      → Run R 70 (r + 1) (length c.fields)
  unfolding class_lines
  fields_run {k} {c} {r} h w =
      let z : r + class_lines c ≡ methods_from_row r c + methods_lines c.methods = omega arith in
      let x = methods_first R E c.methods k (methods_from_row r c) h.methods (subst (ClassEnd R) z w) in
      lines_run (λ (f : Field) (i : ℕ). RowAt R i F_field (type_number f.type) f.name) R 70
      (λ f i x. x.letter) c.fields (r + 1) h.fields x.0 x.1

  pub class_ended : {p : Program} → ProgramAt R E p → (k : ℕ) (c : Class) → class_at p.classes k ≡ some c
      → ClassEnd R (class_row p.classes k + class_lines c)
  class_ended {p} h k c e =
      let P = p.classes in
      let z : classes_lines P ≡ 0 + classes_lines P = omega arith in
      each_class (λ k c r. ClassEnd R (r + class_lines c)) P
      (classes_ended R E P 1 0 h.classes (subst (λ (j : ℕ). RowAt R j S_start 0 0) z h.start_line)) k c
      e
