-- Laws of the whole program: its classes and its start block, and that what is written are the numbers of its
-- plain program. Assumes nothing.
use mathlib.Core.Path.{◌≡◌, refl, sym, ap, ◌∙◌}
use mathlib.Core.List.{List, [], ◌∷◌, ◌++◌, map, append_assoc}
use Prim.Native.Nat.{ℕ, suc, ◌+◌, ◌≤◌, ◌<◌}
use native.Mathlib.Omega.{arith}
use lib.ListN.{length, length-append, length-map}
use Rattle.language.specs.Limits.{of_check}
use Rattle.language.specs.Rows.{Letter, code, Record, written, row_of, numbers_of, C_class, F_field, S_start}
use Rattle.language.specs.Tree.{type_number, Field, Declaration, Class, Program, classes_lines, flatten}
use Rattle.language.specs.Tree.{flatten_methods, flatten_classes, flatten_program}
use Rattle.language.specs.World.{World}
use Rattle.language.specs.Program.{world}
use Rattle.language.specs.Environment.{start_environment}
use Rattle.language.specs.WellFormed.{TypeInForm, Each, each_nil, each_cons, FieldInForm, MethodInForm}
use Rattle.language.specs.WellFormed.{ClassInForm, ProgramInForm}
use Rattle.language.specs.Translation.{plain_field, plain_method, plain_classes, plain_program, translate}
use Rattle.emitters.specs.Lines.{most_numbers, field_lines}
use Rattle.plain.specs.Numbers.{lines_of, tree_numbers, node_numbers, method_numbers, methods_numbers}
use Rattle.plain.specs.Numbers.{class_numbers, classes_numbers, program_numbers}
use Rattle.emitters.specs.Writing.{Lent, Written}
use Rattle.plain.specs.Tasks.{BodyTask, ClassesTask, ProgramTask}
use Rattle.plain.specs.Emission.{SomeBody, BodyEmitted, SomeClasses, ClassesEmitted, SomeProgram}
use Rattle.plain.specs.Emission.{ProgramWritten}
use Rattle.emitters.proofs.Writing.{written_then, written_as}
use Rattle.theory.proofs.acceptance.Acceptance.{numbers_count}
use Rattle.theory.proofs.lookups.LookupLaws.{hierarchy}
use Rattle.theory.proofs.acceptance.Translatable.{TranslatableRows, taken_laws}
use Rattle.theory.proofs.translation.PlainNames.{small_world}
use Rattle.theory.proofs.translation.PlainSizes.{program_size}
use Rattle.layout.specs.HeldLaws.{well, start_typed}
use Rattle.plain.proofs.Numbers.{lines_append, plain_told}
use Rattle.plain.proofs.Typed.{typed_body, classes_ready}
use Rattle.limits.proofs.Standing.{all_stand}
use Rattle.plain.proofs.Methods.{plain_methods}

-- the numbers of plain fields, methods and classes are those that are emitted
lines_cons : (l : Letter) (a b : ℕ) (rs : List Record)
    → lines_of (written l a b ∷ rs) ≡ code l ∷ a ∷ b ∷ 0 ∷ lines_of rs
unfolding lines_of numbers_of
lines_cons l a b rs = refl

no_lines : lines_of [] ≡ []
unfolding lines_of numbers_of
no_lines = refl

field_types : {fs : List Field} → Each (FieldInForm of_check) fs
    → Each (λ (f : Field). TypeInForm f.type) fs
field_types each_nil = each_nil
field_types (each_cons i is) = each_cons i.type (field_types is)

plain_fields : (fs : List Field) → Each (λ (f : Field). TypeInForm f.type) fs
    → lines_of (map (λ (f : Field). written F_field (type_number f.type) f.name) (map plain_field fs))
    ≡ field_lines fs
unfolding lines_of numbers_of field_lines
plain_fields [] i = refl
plain_fields (f ∷ fs) (each_cons i is) = rw (plain_fields fs is, ← plain_told f.type i)

module _ (W : World) where
  methods_plain : (k : ℕ) (ms : List Declaration) → Each (MethodInForm of_check) ms
      → lines_of (flatten_methods (map (plain_method W k) ms)) ≡ methods_numbers W k ms
  unfolding flatten_methods methods_numbers lines_of numbers_of
  methods_plain k [] i = refl
  methods_plain k (m ∷ ms) (each_cons i is) =
      plain_methods W k m ms i
      ∙ ap (λ (l : List ℕ). method_numbers W k m ++ l) (methods_plain k ms is)

  classes_plain : (k : ℕ) (cs : List Class) → Each (ClassInForm of_check) cs
      → lines_of (flatten_classes (plain_classes W k cs)) ≡ classes_numbers W k cs
  unfolding flatten_classes plain_classes classes_numbers class_numbers
  classes_plain k [] i = no_lines
  classes_plain k (c ∷ cs) (each_cons i is) =
      let fs = map (λ (f : Field). written F_field (type_number f.type) f.name)
      (map plain_field c.fields) in
      let ms = flatten_methods (map (plain_method W k) c.methods) in
      let ds = flatten_classes (plain_classes W (suc k) cs) in
      let z : suc (suc c.super) ≡ c.super + 2 = omega arith in
      lines_cons C_class 0 (suc (suc c.super)) (fs ++ (ms ++ ds))
      ∙ rw (
        lines_append fs (ms ++ ds),
        lines_append ms ds,
        plain_fields c.fields (field_types i.fields),
        methods_plain k c.methods i.methods,
        classes_plain (suc k) cs is,
        z,
      )
      (ap (λ (l : List ℕ). 67 ∷ 0 ∷ (c.super + 2) ∷ 0 ∷ l)
      (sym (append_assoc (field_lines c.fields) (methods_numbers W k c.methods)
      (classes_numbers W (suc k) cs))))

abbrev head_numbers : List ℕ
head_numbers = 67 ∷ 0 ∷ 0 ∷ 0 ∷ 70 ∷ 2 ∷ 255 ∷ 0 ∷ 67 ∷ 0 ∷ 0 ∷ 0 ∷ 70 ∷ 1 ∷ 254 ∷ 0 ∷ []

-- the numbers of the plain program, part by part
program_plain : (p : Program) → ProgramInForm of_check p
    → program_numbers p ≡ head_numbers ++ (classes_numbers (world p.classes) 1 p.classes
    ++ ((83 ∷ 0 ∷ 0 ∷ 0 ∷ []) ++ node_numbers (world p.classes) p.start start_environment []))
unfolding flatten_program plain_program flatten_classes flatten_methods lines_of numbers_of tree_numbers
program_plain p i =
    let W = world p.classes in
    let cs = flatten_classes (plain_classes W 1 p.classes) in
    let st = written S_start 0 0 ∷ flatten (translate W p.start start_environment []) in
    ap (λ (l : List ℕ). head_numbers ++ l)
    (lines_append cs st ∙ ap (λ (l : List ℕ). l ++ lines_of st)
    (classes_plain W 1 p.classes i.classes))

program_length : (p : Program) → ProgramInForm of_check p
    → length (program_numbers p)
    ≡ 16 + length (classes_numbers (world p.classes) 1 p.classes) + 4 + length
    (node_numbers (world p.classes) p.start start_environment [])
program_length p i =
    let a = classes_numbers (world p.classes) 1 p.classes in let b =
    node_numbers (world p.classes) p.start start_environment [] in
    ap length (program_plain p i)
    ∙ omega (
      arith,
      length-append head_numbers (a ++ ((83 ∷ 0 ∷ 0 ∷ 0 ∷ []) ++ b)),
      length-append a ((83 ∷ 0 ∷ 0 ∷ 0 ∷ []) ++ b),
    )

-- at most 88 rows for each row of the source, and 4
plain_fits : (R : List ℕ) (p : Program) → TranslatableRows R p → length (program_numbers p) ≤ most_numbers
plain_fits R p t =
    let s = program_size p t.accepted.well (small_world p t.in_form (taken_laws R p t)) in
    omega (
      arith,
      s,
      t.in_form.rows,
      numbers_count (map row_of (flatten_program (plain_program p))),
      length-map (flatten_program (plain_program p)) row_of,
    )

module _ {p : Program} {E R T M C : List ℕ} (t : ProgramTask p E R T M C) where
  program_lent : Lent p.classes E R T M C
  program_lent = record { start = p.start; A = t.A; F = t.F; held = t.held; beside = t.beside }

  room : 16 + length (classes_numbers (world p.classes) 1 p.classes) + 4 + length
      (node_numbers (world p.classes) p.start start_environment []) ≤ most_numbers
  room = omega (arith, plain_fits R p t.taken, program_length p t.held.headed.here.in_form)

  program_classes : (q : ℕ) → q ≡ 16 → ClassesTask p.classes E 1 p.classes R T M C 0 q
  program_classes q z = record {
    lent = program_lent;
    stand = all_stand t.held.headed.here;
    bodies = classes_ready p.classes (hierarchy p.classes (well t.held).classes) C
        (well t.held).classes t.taken.in_form.classes 0 t.held.looks.methods;
    fits = omega (arith, z, room);
  }

  program_body : (b q : ℕ) → b ≡ classes_lines p.classes + 1
      → q ≡ 16 + length (classes_numbers (world p.classes) 1 p.classes) + 4
      → BodyTask p.classes E p.start start_environment [] R T M C b q
  program_body b q z y =
      let f : q + length (node_numbers (world p.classes) p.start start_environment []) ≤ most_numbers =
      omega (arith, y, room) in rw z (record {
        lent = program_lent;
        encoded = t.held.headed.here.start;
        looks = t.held.looks.start;
        typed = typed_body p.classes 1 (start_typed t.held).3 t.taken.in_form.start refl;
        scope = omega arith;
        low = omega (arith, y);
        fits = f;
      })

module _ {R T M C : List ℕ} where
  pub program_some_classes : SomeProgram R T M C → (q : ℕ) → q ≡ 16 → SomeClasses R T M C 0 q
  program_some_classes x q z =
      record { P = x.p.classes; E = x.E; k = 1; cs = x.p.classes; task = program_classes x.task q z }

  module _ {O O₁ O₂ : List ℕ} {q r b : ℕ} (w : Written head_numbers O O₁ 0 q)
      (o : ClassesEmitted R T M C O₁ O₂ 0 q r b) where
    classes-done : {p : Program} {E : List ℕ} → ProgramTask p E R T M C
        → Written (classes_numbers (world p.classes) 1 p.classes) O₁ O₂ q r
        × (b ≡ classes_lines p.classes)
        × (r ≡ 16 + length (classes_numbers (world p.classes) 1 p.classes))
    classes-done {p} {E} t = let e =
        o.each p.classes E 1 p.classes (program_classes t q (omega (arith, w.ended))) in
        (e.written, omega (arith, e.passed), omega (arith, e.written.ended, w.ended))

    pub program_room : SomeProgram R T M C → (r + 4 ≤ most_numbers) × (b < 60000)
    program_room x = let d = classes-done x.task in (
      omega (arith, d.2, room x.task),
      omega (arith, d.1, x.task.held.headed.here.all, x.task.held.headed.here.short),
    )

    pub program_some_body : {O₃ : List ℕ} {s : ℕ} → SomeProgram R T M C
        → Written (83 ∷ 0 ∷ 0 ∷ 0 ∷ []) O₂ O₃ r s → SomeBody R T M C (b + 1) s 0
    program_some_body {O₃} {s} x v = let d = classes-done x.task in
        record {
          P = x.p.classes;
          E = x.E;
          e = x.p.start;
          γ = start_environment;
          ts = [];
          task = program_body x.task (b + 1) s (omega (arith, d.1)) (omega (arith, d.2, v.ended));
          counted = refl;
        }

    pub program_done : {O₃ O₄ : List ℕ} {s n a : ℕ} → Written (83 ∷ 0 ∷ 0 ∷ 0 ∷ []) O₂ O₃ r s
        → BodyEmitted R T M C O₃ O₄ (b + 1) s 0 n a → ProgramWritten R T M C O O₄ n
    program_done {O₃} {O₄} {s} {n} {a} v u = record {
      each = λ p E t.
          let d = classes-done t in
          let e = u.each p.classes E p.start start_environment []
          (program_body t (b + 1) s (omega (arith, d.1)) (omega (arith, d.2, v.ended))) refl in
          written_as (written_then w (written_then d.0 (written_then v e.written)))
          (sym (program_plain p t.held.headed.here.in_form));
    }
