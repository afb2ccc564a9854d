-- Laws of a class: its C line, its fields, its methods; and of classes one after another. Assumes nothing.
use mathlib.Core.Path.{◌≡◌, refl, sym}
use mathlib.Core.List.{List, [], ◌∷◌}
use mathlib.Core.Logic.{◌≢◌}
use Prim.Native.Nat.{ℕ, suc, ◌+◌, ◌*◌, ◌≤◌, ◌<◌}
use native.Mathlib.Omega.{arith}
use lib.ListN.{length, get_or, length-append}
use Rattle.language.specs.Tree.{Class, class_lines, classes_lines}
use Rattle.language.specs.World.{World}
use Rattle.language.specs.Program.{world}
use Rattle.language.specs.Layout.{EachClass, Run, methods_from_row}
use Rattle.emitters.specs.Lines.{most_numbers, field_lines}
use Rattle.plain.specs.Numbers.{methods_numbers, class_numbers, classes_numbers}
use Rattle.emitters.specs.Writing.{Written, SomeFieldLines, FieldsWritten}
use Rattle.plain.specs.Emission.{Emitted, SomeMethods, SomeClass, SomeClasses, MethodsEmitted}
use Rattle.plain.specs.Emission.{ClassEmitted, ClassesEmitted}
use Rattle.plain.specs.Tasks.{MethodsTask, ClassTask, ClassesTask}
use Rattle.emitters.proofs.Writing.{written_none, written_then}
use Rattle.plain.proofs.Emission.{whole}
use Rattle.emitters.proofs.Lines.{fields_length}
use Rattle.limits.proofs.Standing as standing

class_length : (W : World) (k : ℕ) (c : Class)
    → length (class_numbers W k c) ≡ 4 + 4 * length c.fields + length (methods_numbers W k c.methods)
unfolding class_numbers
class_length W k c =
    omega (
      arith,
      length-append (field_lines c.fields) (methods_numbers W k c.methods),
      fields_length c.fields,
    )

module _ {R T M C : List ℕ} {at place : ℕ} where
  class_methods : {P : List Class} {E : List ℕ} {k : ℕ} (c : Class) (cs : List Class)
      → ClassTask P E k c cs R T M C at place → (r q : ℕ) → r ≡ methods_from_row at c
      → q ≡ place + 4 + 4 * length c.fields → MethodsTask P E k c.methods R T M C r q
  class_methods {P} {E} {k} c cs t r q z y =
      let f : q + length (methods_numbers (world P) k c.methods) ≤ most_numbers =
      omega (arith, y, t.fits, class_length (world P) k c) in rw z (record {
        lent = t.lent;
        stand = standing.class_methods c cs t.stand;
        bodies = t.bodies;
        fits = f;
      })

  pub class_known : SomeClass R T M C at place
      → (at * 4 + 3 < length R) × (at < 60000) × (get_or R (at * 4 + 2) 0 < 65536) × (place + 4 ≤ most_numbers)
  unfolding EachClass
  class_known x = let l = x.task.stand.classes.0.line in (
    l.within,
    omega (arith, l.within, x.task.stand.short),
    omega (arith, l.second, (standing.each_head x.task.stand.in_form).0.super),
    omega (arith, x.task.fits, class_length (world x.P) x.k x.c),
  )

  pub class_run : SomeClass R T M C at place → (n : ℕ) × Run R 70 (at + 1) n
  class_run x = (length x.c.fields, standing.class_runs x.c x.cs x.task.stand)

  module _ {n : ℕ} (v : Run R 70 (at + 1) n) where
    pub class_fields : (x : SomeClass R T M C at place) (p : ℕ) → p ≡ place + 4
        → SomeFieldLines R (at + 1) n × (p + 4 * n ≤ most_numbers)
    unfolding EachClass
    class_fields x p y = let e = standing.class_counted x.c x.cs x.task.stand v in (
      record { fs = x.c.fields; rows = x.task.stand.classes.0.fields; counted = sym e },
      omega (arith, e, y, x.task.fits, class_length (world x.P) x.k x.c),
    )

    module _ {O O₁ O₂ : List ℕ} {p q a : ℕ} (w : Written (67 ∷ 0 ∷ a ∷ 0 ∷ []) O O₁ place p)
        (f : FieldsWritten R (at + 1) n O₁ O₂ p q) where
      class-wrote : {P : List Class} {E : List ℕ} {k : ℕ} (c : Class) (cs : List Class)
          → ClassTask P E k c cs R T M C at place
          → (n ≡ length c.fields) × Written (field_lines c.fields) O₁ O₂ p q
          × MethodsTask P E k c.methods R T M C (at + 1 + n) q
      unfolding EachClass
      class-wrote c cs t =
          let e = standing.class_counted c cs t.stand v in
          let g = f.each c.fields t.stand.classes.0.fields (sym e) in (
            e,
            g,
            class_methods c cs t (at + 1 + n) q (omega (arith, e))
                (omega (arith, g.ended, w.ended, fields_length c.fields)),
          )

      pub class_some : SomeClass R T M C at place → SomeMethods R T M C (at + 1 + n) q
      class_some x =
          record {
            P = x.P;
            E = x.E;
            k = x.k;
            ms = x.c.methods;
            task = (class-wrote x.c x.cs x.task).2;
          }

      pub class_done : {O₃ : List ℕ} {p₃ b₃ : ℕ} → a ≡ get_or R (at * 4 + 2) 0 + 2
          → MethodsEmitted R T M C O₂ O₃ (at + 1 + n) q p₃ b₃ → ClassEmitted R T M C O O₃ at place p₃ b₃
      unfolding EachClass class_numbers class_lines
      class_done {O₃} {p₃} {b₃} h o = record {
        each = λ P E k c cs t.
            let d = class-wrote c cs t in let e = o.each P E k c.methods d.2 in
            let u : a ≡ c.super + 2 = omega (arith, h, t.stand.classes.0.line.second) in
            whole (written_then w (written_then d.1 e.written)) (rw u refl)
            (omega (arith, e.passed, d.0));
      }

-- classes: the first, and the rest
module _ {P : List Class} {E : List ℕ} {k : ℕ} {R T M C : List ℕ} {at place : ℕ} where
  class_first : (c : Class) (cs : List Class) → ClassesTask P E k (c ∷ cs) R T M C at place
      → ClassTask P E k c cs R T M C at place
  unfolding EachClass classes_numbers
  class_first c cs t =
      let f : place + length (class_numbers (world P) k c) ≤ most_numbers
      = omega (
        arith,
        t.fits,
        length-append (class_numbers (world P) k c) (classes_numbers (world P) (suc k) cs),
      ) in record {
        lent = t.lent;
        stand = t.stand;
        bodies = t.bodies.0;
        fits = f;
      }

  class_rest : (c : Class) (cs : List Class) → ClassesTask P E k (c ∷ cs) R T M C at place → (p b : ℕ)
      → p ≡ place + length (class_numbers (world P) k c)
      → b ≡ at + class_lines c → ClassesTask P E (suc k) cs R T M C b p
  unfolding EachClass classes_numbers
  class_rest c cs t p b z y =
      let f : p + length (classes_numbers (world P) (suc k) cs) ≤ most_numbers
      = omega (
        arith,
        z,
        t.fits,
        length-append (class_numbers (world P) k c) (classes_numbers (world P) (suc k) cs),
      ) in
      rw y (record {
        lent = t.lent;
        stand = standing.class_rest c cs t.stand _ refl;
        bodies = t.bodies.1;
        fits = f;
      })

module _ {R T M C : List ℕ} {at place : ℕ} where
  pub classes_known : SomeClasses R T M C at place → (at * 4 + 3 < length R) × (at < 60000)
  classes_known x = let h = standing.class_known (record { k = x.k; cs = x.cs; stand = x.task.stand }) in
      (h.0, h.1)

  pub classes_end : {O : List ℕ} → get_or R (at * 4) 0 ≢ 67 → ClassesEmitted R T M C O O at place place at
  unfolding EachClass classes_numbers classes_lines
  classes_end {O} h = record { each = λ P E k cs t. go P E k cs t }
    where
      go : (P : List Class) (E : List ℕ) (k : ℕ) (cs : List Class) → ClassesTask P E k cs R T M C at place
          → Emitted (classes_numbers (world P) k cs) (classes_lines cs) O O place at place at
      go P E k [] t = record { written = written_none; passed = omega arith }
      go P E k (c ∷ cs) t = absurd (h t.stand.classes.0.line.letter)

  with_class : {D : Type 0} {P : List Class} {E : List ℕ} {k : ℕ} (cs : List Class) → get_or R (at * 4) 0 ≡ 67
      → ClassesTask P E k cs R T M C at place
      → ((c : Class) (cs : List Class) → ClassesTask P E k (c ∷ cs) R T M C at place → D) → D
  with_class [] h t f = absurd (standing.no_class at t.stand.start h)
  with_class (c ∷ cs) h t f = f c cs t

  pub classes_class : SomeClasses R T M C at place → get_or R (at * 4) 0 ≡ 67 → SomeClass R T M C at place
  classes_class y h = with_class y.cs h y.task λ c cs t.
      record { P = y.P; E = y.E; k = y.k; c = c; cs = cs; task = class_first c cs t }

  module _ {O O₁ : List ℕ} {p b : ℕ} (o : ClassEmitted R T M C O O₁ at place p b) where
    pub classes_rest : SomeClasses R T M C at place → get_or R (at * 4) 0 ≡ 67
        → SomeClasses R T M C b p × (at < b)
    classes_rest y h = with_class y.cs h y.task λ c cs t. let d =
        o.each y.P y.E y.k c cs (class_first c cs t) in (
          record {
            P = y.P;
            E = y.E;
            k = suc y.k;
            cs = cs;
            task = class_rest c cs t p b d.written.ended d.passed;
          },
          omega (arith, d.passed, standing.class_positive c),
        )

    pub classes_step : {O₂ : List ℕ} {p₂ b₂ : ℕ} → get_or R (at * 4) 0 ≡ 67
        → ClassesEmitted R T M C O₁ O₂ b p p₂ b₂ → ClassesEmitted R T M C O O₂ at place p₂ b₂
    unfolding classes_numbers classes_lines
    classes_step {O₂} {p₂} {b₂} h v = record { each = λ P E k cs t. go P E k cs t }
      where
        go : (P : List Class) (E : List ℕ) (k : ℕ) (cs : List Class) → ClassesTask P E k cs R T M C at place
            → Emitted (classes_numbers (world P) k cs) (classes_lines cs) O O₂ place at p₂ b₂
        go P E k [] t = absurd (standing.no_class at t.stand.start h)
        go P E k (c ∷ cs) t = let d = o.each P E k c cs (class_first c cs t) in let e =
            v.each P E (suc k) cs (class_rest c cs t p b d.written.ended d.passed) in
            whole (written_then d.written e.written) refl (omega (arith, d.passed, e.passed))

-- after some of the classes: what the rest writes makes what all write
pub record ClassesLeft (R T M C O₀ O : List ℕ) (at₀ place₀ place at : ℕ) : Type 0 where
  pub rest : SomeClasses R T M C at place
  pub all : {O' : List ℕ} {q b : ℕ} → ClassesEmitted R T M C O O' at place q b
      → ClassesEmitted R T M C O₀ O' at₀ place₀ q b

pub classes_start : {R T M C O : List ℕ} {at place : ℕ} → SomeClasses R T M C at place
    → ClassesLeft R T M C O O at place place at
classes_start x = record { rest = x; all = λ n. n }

module _ {R T M C O₀ O : List ℕ} {at₀ place₀ place at : ℕ} (l : ClassesLeft R T M C O₀ O at₀ place₀ place at) where
  pub classes_done : get_or R (at * 4) 0 ≢ 67 → ClassesEmitted R T M C O₀ O at₀ place₀ place at
  classes_done h = l.all (classes_end h)

  pub classes_more : {O' : List ℕ} {p b : ℕ} → ClassEmitted R T M C O O' at place p b → get_or R (at * 4) 0 ≡ 67
      → ClassesLeft R T M C O₀ O' at₀ place₀ p b × (at < b)
  classes_more o h = let x = classes_rest o l.rest h in
      (record { rest = x.0; all = λ n. l.all (classes_step o h n) }, x.1)
