-- Laws of methods and classes that stand in rows: the rows of their parts, and the row after each. Assumes
-- nothing.
use mathlib.Core.Path.{◌≡◌, sym}
use mathlib.Core.Logic.{◌≢◌}
use mathlib.Core.List.{List, [], ◌∷◌}
use Prim.Native.Nat.{ℕ, suc, ◌+◌, ◌*◌, ◌≤◌, ◌<◌}
use native.Mathlib.Omega.{arith}
use lib.ListN.{length, get_or}
use Rattle.language.specs.Rows.{S_start}
use Rattle.language.specs.Tree.{Declaration, Class, Program, method_lines, methods_lines, class_lines}
use Rattle.language.specs.Tree.{classes_lines}
use Rattle.language.specs.Encoded.{RowAt}
use Rattle.language.specs.WellFormed.{Each, each_cons}
use Rattle.language.specs.Layout.{EachMethod, EachClass, Run, ClassEnd, ClassAt, ProgramAt, methods_from_row}
use Rattle.language.proofs.Lines.{run_unique}
use Rattle.language.proofs.Tables.{size_positive}
use Rattle.layout.specs.HeadingRuns.{end_letter, methods_first, fields_run, classes_first}
use Rattle.layout.specs.Walks.{MethodStanding}
use Rattle.limits.specs.Standing.{MethodsStand, ClassesStand, SomeMethodsStand, SomeClassesStand}
use Rattle.limits.specs.Standing.{MethodsPassed}
use Rattle.emitters.specs.Writing.{SomeFieldLines}

-- A walk over lines from a row on, which stands at another: something of the lines left, and what they answer is the
-- whole answer.
pub record Walked {V : Type 0} (Rest : ℕ → Type 0) (Answer : ℕ → V → Type 0) (at row : ℕ) : Type 0 where
  pub rest : Rest row
  pub whole : (v : V) → Answer row v → Answer at v

module _ {V : Type 0} {Rest : ℕ → Type 0} {Answer : ℕ → V → Type 0} where
  pub walk_start : {at : ℕ} → Rest at → Walked Rest Answer at at
  walk_start x = record { rest = x; whole = λ v a. a }

  pub walk_on : {at row next : ℕ} → Walked Rest Answer at row → Rest next
      → ((v : V) → Answer next v → Answer row v) → Walked Rest Answer at next
  walk_on w x f = record { rest = x; whole = λ v a. w.whole v (f v a) }

pub each_head : {A : Type 0} {Q : A → Type 0} {a : A} {l : List A} → Each Q (a ∷ l) → Q a × Each Q l
each_head (each_cons x y) = (x, y)

pub lines_positive : (m : Declaration) → 1 ≤ method_lines m
unfolding method_lines
lines_positive m = omega (arith, size_positive m.body)

pub class_positive : (c : Class) → 1 ≤ class_lines c
unfolding class_lines
class_positive c = omega arith

end_at : {R : List ℕ} {a b : ℕ} → ClassEnd R a → a ≡ b → ClassEnd R b
end_at h e = rw e at h

-- methods
pub no_method : {R : List ℕ} (at : ℕ) → ClassEnd R (at + methods_lines []) → get_or R (at * 4) 0 ≡ 77 → ⊥
unfolding methods_lines
no_method at w h = end_letter (end_at {b = at} w (omega arith)) 77 (omega arith) (omega arith) h

module _ {R E : List ℕ} {at : ℕ} where
  stand_first : {k : ℕ} (m : Declaration) (ms : List Declaration)
      → MethodsStand R E k (m ∷ ms) at → MethodStanding R E at
  unfolding EachMethod
  stand_first m ms t =
      record { method = m; at = t.methods.0; in_form = (each_head t.in_form).0; short = t.short }

  pub stand_rest : {k : ℕ} (m : Declaration) (ms : List Declaration)
      → MethodsStand R E k (m ∷ ms) at → (b : ℕ)
      → b ≡ at + method_lines m → MethodsStand R E k ms b
  unfolding EachMethod methods_lines
  stand_rest m ms t b z = rw z (record {
    methods = t.methods.1;
    after = end_at t.after (omega arith);
    in_form = (each_head t.in_form).1;
    short = t.short;
  })

  with_method : {D : Type 0} {k : ℕ} (ms : List Declaration) → get_or R (at * 4) 0 ≡ 77
      → MethodsStand R E k ms at
      → ((m : Declaration) (ms : List Declaration) → MethodsStand R E k (m ∷ ms) at → D) → D
  with_method [] h t f = absurd (no_method at t.after h)
  with_method (m ∷ ms) h t f = f m ms t

  pub stand_known : SomeMethodsStand R E at → (at * 4 + 3 < length R) × (at < 60000)
  stand_known x = let r = (methods_first R E x.ms x.k at x.stand.methods x.stand.after).0 in
      (r, omega (arith, r, x.stand.short))

  pub stand_none : get_or R (at * 4) 0 ≢ 77 → MethodsPassed R E at at
  unfolding EachMethod methods_lines
  stand_none h = record { each = λ k ms t. go k ms t }
    where
      go : (k : ℕ) (ms : List Declaration) → MethodsStand R E k ms at → at ≡ at + methods_lines ms
      go k [] t = omega arith
      go k (m ∷ ms) t = absurd (h t.methods.0.line.letter)

  module _ (h : get_or R (at * 4) 0 ≡ 77) where
    pub stand_here : SomeMethodsStand R E at → MethodStanding R E at
    stand_here y = with_method y.ms h y.stand λ m ms t. stand_first m ms t

    module _ {b : ℕ} (s : (w : MethodStanding R E at) → b ≡ at + method_lines w.method) where
      stand-after : {k : ℕ} (m : Declaration) (ms : List Declaration)
          → MethodsStand R E k (m ∷ ms) at → b ≡ at + method_lines m
      unfolding stand_first
      stand-after m ms t = s (stand_first m ms t)

      pub stand_next : SomeMethodsStand R E at → SomeMethodsStand R E b × (at < b)
      stand_next y = with_method y.ms h y.stand λ m ms t. let z = stand-after m ms t in (
        record { k = y.k; ms = ms; stand = stand_rest m ms t b z },
        omega (arith, z, lines_positive m),
      )

      pub stand_step : {q : ℕ} → MethodsPassed R E b q → MethodsPassed R E at q
      unfolding methods_lines
      stand_step {q} p = record { each = λ k ms t. go k ms t }
        where
          go : (k : ℕ) (ms : List Declaration) → MethodsStand R E k ms at → q ≡ at + methods_lines ms
          go k [] t = absurd (no_method at t.after h)
          go k (m ∷ ms) t = let z = stand-after m ms t in
              omega (arith, z, p.each k ms (stand_rest m ms t b z))

module _ {R E : List ℕ} {at row : ℕ} (w : Walked (SomeMethodsStand R E) (MethodsPassed R E) at row) where
  pub methods_end : get_or R (row * 4) 0 ≢ 77 → MethodsPassed R E at row
  methods_end h = w.whole row (stand_none h)

  pub methods_more : {b : ℕ} (h : get_or R (row * 4) 0 ≡ 77)
      → ((w : MethodStanding R E row) → b ≡ row + method_lines w.method)
      → Walked (SomeMethodsStand R E) (MethodsPassed R E) at b × (row < b)
  methods_more h s = let x = stand_next h s w.rest in (walk_on w x.0 (λ q p. stand_step h s p), x.1)

-- classes
pub no_class : {R : List ℕ} (at : ℕ) → RowAt R (at + classes_lines []) S_start 0 0 → get_or R (at * 4) 0 ≡ 67
    → ⊥
unfolding classes_lines
no_class at w h = let z : at + 0 ≡ at = omega arith in let w = rw z at w in omega (arith, w.letter, h)

pub class_end : (R E : List ℕ) (c : Class) (cs : List Class) (k r : ℕ) → EachClass (ClassAt R E) (c ∷ cs) k r
    → RowAt R (r + classes_lines (c ∷ cs)) S_start 0 0 → ClassEnd R (r + class_lines c)
unfolding EachClass classes_lines
class_end R E c cs k r h w =
    let a : r + (class_lines c + classes_lines cs) ≡ r + class_lines c + classes_lines cs = omega arith in
    classes_first R E cs (suc k) (r + class_lines c) h.1 (rw a at w)

module _ {R E : List ℕ} {at : ℕ} where
  pub class_rest : {k : ℕ} (c : Class) (cs : List Class) → ClassesStand R E k (c ∷ cs) at → (b : ℕ)
      → b ≡ at + class_lines c → ClassesStand R E (suc k) cs b
  unfolding EachClass classes_lines
  class_rest c cs t b z =
      let a : at + (class_lines c + classes_lines cs) ≡ at + class_lines c + classes_lines cs = omega arith in
      let w = t.start in rw z (record {
        classes = t.classes.1;
        start = rw a at w;
        in_form = (each_head t.in_form).1;
        short = t.short;
      })

  -- a class's fields, and how many they are
  pub class_runs : {k : ℕ} (c : Class) (cs : List Class) → ClassesStand R E k (c ∷ cs) at
      → Run R 70 (at + 1) (length c.fields)
  unfolding EachClass
  class_runs {k} c cs t = fields_run t.classes.0 (class_end R E c cs k at t.classes t.start)

  pub class_counted : {k n : ℕ} (c : Class) (cs : List Class)
      → ClassesStand R E k (c ∷ cs) at → Run R 70 (at + 1) n → n ≡ length c.fields
  class_counted c cs t v = run_unique v (class_runs c cs t)

  pub class_methods : {k : ℕ} (c : Class) (cs : List Class)
      → ClassesStand R E k (c ∷ cs) at → MethodsStand R E k c.methods (methods_from_row at c)
  unfolding EachClass class_lines
  class_methods {k} c cs t = record {
    methods = t.classes.0.methods;
    after = end_at (class_end R E c cs k at t.classes t.start) (omega arith);
    in_form = (each_head t.in_form).0.methods;
    short = t.short;
  }

  pub not_class : {k : ℕ} (c : Class) (cs : List Class)
      → ClassesStand R E k (c ∷ cs) at → get_or R (at * 4) 0 ≢ 67 → ⊥
  unfolding EachClass
  not_class c cs t h = h t.classes.0.line.letter

  with_class : {D : Type 0} {k : ℕ} (cs : List Class) → get_or R (at * 4) 0 ≡ 67 → ClassesStand R E k cs at
      → ((c : Class) (cs : List Class) → ClassesStand R E k (c ∷ cs) at → D) → D
  with_class [] h t f = absurd (no_class at t.start h)
  with_class (c ∷ cs) h t f = f c cs t

  -- the row after a class
  pub class_passed : {k n q : ℕ} (c : Class) (cs : List Class)
      → ClassesStand R E k (c ∷ cs) at → Run R 70 (at + 1) n → MethodsPassed R E (at + 1 + n) q
      → q ≡ at + class_lines c
  unfolding class_lines
  class_passed {k} {n} {q} c cs t v p = let z = class_counted c cs t v in
      omega (arith, z, p.each k c.methods (rw z (class_methods c cs t)))

  pub class_known : SomeClassesStand R E at → (at * 4 + 3 < length R) × (at < 60000) × (length R ≤ 240000)
  class_known x =
      let t = x.stand in
      let r = (classes_first R E x.cs x.k at t.classes t.start).within in
      (r, omega (arith, r, t.short), t.short)

  module _ (h : get_or R (at * 4) 0 ≡ 67) where
    pub class_run : SomeClassesStand R E at → (n : ℕ) × Run R 70 (at + 1) n
    class_run y = with_class y.cs h y.stand λ c cs t. (length c.fields, class_runs c cs t)

    module _ {n : ℕ} (v : Run R 70 (at + 1) n) where
      pub class_fields : SomeClassesStand R E at → SomeFieldLines R (at + 1) n
      unfolding EachClass
      class_fields y = with_class y.cs h y.stand λ c cs t.
          record { fs = c.fields; rows = t.classes.0.fields; counted = sym (class_counted c cs t v) }

      pub class_stand : SomeClassesStand R E at → SomeMethodsStand R E (at + 1 + n)
      class_stand y = with_class y.cs h y.stand λ c cs t.
          record { k = y.k; ms = c.methods; stand = rw (class_counted c cs t v) (class_methods c cs t) }

      pub class_next : {q : ℕ} → MethodsPassed R E (at + 1 + n) q
          → SomeClassesStand R E at → SomeClassesStand R E q × (at < q)
      class_next {q} p y = with_class y.cs h y.stand λ c cs t. let z = class_passed c cs t v p in (
        record { k = suc y.k; cs = cs; stand = class_rest c cs t q z },
        omega (arith, z, class_positive c),
      )

-- all classes of a program
pub all_stand : {R E : List ℕ} {p : Program} → ProgramAt R E p → ClassesStand R E 1 p.classes 0
all_stand {p = p} h = let z : classes_lines p.classes ≡ 0 + classes_lines p.classes = omega arith in
    let w = h.start_line in
    record { classes = h.classes; start = rw z at w; in_form = h.in_form.classes; short = h.short }
