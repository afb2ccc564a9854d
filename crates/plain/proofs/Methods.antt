-- Laws of a method: its heading, then its body, which are the numbers of its plain form; and of methods one
-- after another. Assumes nothing.
use mathlib.Core.Path.{◌≡◌, refl, sym, ap, ◌∙◌}
use mathlib.Core.List.{List, [], ◌∷◌, ◌++◌, map, append_assoc}
use Prim.Native.Nat.{ℕ, ◌+◌, ◌*◌, ◌≤◌, ◌<◌}
use native.Mathlib.Omega.{arith}
use lib.ListN.{length, get_or, length-append}
use mathlib.Core.Logic.{◌≢◌}
use Rattle.language.specs.Rows.{Letter, code, Record, written, P_parameter, M_method, numbers_of}
use Rattle.language.specs.Tree.{DeclaredType, type_number, Declaration, flatten, flatten_methods, Class, size}
use Rattle.language.specs.Tree.{heading_lines, method_lines, methods_lines}
use Rattle.language.specs.World.{World}
use Rattle.language.specs.Translation.{plain_type, plain_method, plain_body, variables}
use Rattle.language.specs.Program.{world}
use Rattle.language.specs.Environment.{method_environment}
use Rattle.language.specs.Limits.{Most}
use Rattle.language.specs.WellFormed.{TypeInForm, Each, each_nil, each_cons, MethodInForm}
use Rattle.language.specs.Layout.{EachMethod, Run, body_row}
use Rattle.emitters.specs.Lines.{most_numbers, plain_number, type_lines}
use Rattle.plain.specs.Numbers.{lines_of, tree_numbers, method_numbers, node_numbers, methods_numbers}
use Rattle.emitters.specs.Writing.{Written, TypesWritten, SomeTypes}
use Rattle.plain.specs.Emission.{SomeBody, BodyEmitted, SomeMethod, MethodEmitted, Emitted, SomeMethods}
use Rattle.plain.specs.Emission.{MethodsEmitted}
use Rattle.plain.specs.Tasks.{MethodTask, MethodsTask}
use Rattle.layout.specs.Walks.{MethodStanding}
use Rattle.layout.proofs.Walks.{parameters_count, effects_count}
use Rattle.emitters.proofs.Writing.{written_none, written_then}
use Rattle.plain.proofs.Emission.{whole}
use Rattle.plain.proofs.Numbers.{lines_append, plain_told}
use Rattle.emitters.proofs.Lines.{types_length}
use Rattle.limits.proofs.Standing.{each_head, lines_positive, no_method, stand_rest, stand_known, stand_here}

module _ {R T M C : List ℕ} {at body place count : ℕ} where
  pub method_known : SomeMethod R T M C at body place count
      → (at * 4 + 3 < length R) × (place + 4 + 4 * count ≤ most_numbers)
  method_known x = (x.task.row.within, omega (arith, x.task.task.fits, x.counted))

  pub method_types : SomeMethod R T M C at body place count → SomeTypes R (at + 1) count
  method_types x = record {
    letter = P_parameter;
    ts = x.m.parameters;
    rows = x.task.parameters;
    counted = x.counted;
  }

  pub method_ended : {O O₁ O₂ : List ℕ} {p q a b : ℕ} → SomeMethod R T M C at body place count
      → Written (77 ∷ a ∷ b ∷ 0 ∷ []) O O₁ place p
      → TypesWritten R (at + 1) count 80 O₁ O₂ p q → q ≡ place + 4 + 4 * count
  method_ended x w v =
      omega (
        arith,
        w.ended,
        (v.each P_parameter x.m.parameters x.task.parameters x.counted).ended,
        types_length 80 x.m.parameters,
        x.counted,
      )

  pub method_body : (x : SomeMethod R T M C at body place count) (q : ℕ) → q ≡ place + 4 + 4 * count
      → SomeBody R T M C body q count
  method_body x q z = let e : q ≡ place + 4 + 4 * length x.m.parameters = omega (arith, z, x.counted) in
      rw e (record {
        P = x.P;
        E = x.E;
        e = x.m.body;
        γ = _;
        ts = x.m.parameters;
        task = x.task.task;
        counted = x.counted;
      })

  pub method_done : {O O₁ O₂ O₃ : List ℕ} {p q r b n f u : ℕ} → n ≡ get_or R (at * 4 + 1) 0
      → u ≡ plain_number n → f ≡ get_or R (at * 4 + 2) 0 → Written (77 ∷ u ∷ f ∷ 0 ∷ []) O O₁ place p
      → TypesWritten R (at + 1) count 80 O₁ O₂ p q → BodyEmitted R T M C O₂ O₃ body q count r b
      → MethodEmitted R T M C O O₃ at body place count r b
  unfolding method_numbers
  method_done {O} {O₁} {O₂} {O₃} {p} {q} {r} {b} {n} {f} {u} j k l w v o = record {
    each = λ P E owner m t c.
        let h = v.each P_parameter m.parameters t.parameters c in
        let z : place + 4 + 4 * length m.parameters ≡ q =
        omega (arith, w.ended, h.ended, types_length 80 m.parameters) in
        let em = o.each P E m.body _ m.parameters (rw z at t.task) c in
        let k' : u ≡ plain_number (type_number m.result) = k
        ∙ ap (λ (n : ℕ). plain_number n) (j ∙ t.row.first) in
        whole (written_then w (written_then h em.written)) (rw (k', l ∙ t.row.second) refl) em.passed;
  }

lines_cons : (l : Letter) (a b : ℕ) (rs : List Record)
    → lines_of (written l a b ∷ rs) ≡ code l ∷ a ∷ b ∷ 0 ∷ lines_of rs
unfolding lines_of numbers_of
lines_cons l a b rs = refl

-- P lines of plain types
parameter_lines : (ts : List DeclaredType) → Each TypeInForm ts
    → lines_of (map (λ t. written P_parameter (type_number t) 0) (map plain_type ts)) ≡ type_lines 80 ts
unfolding lines_of numbers_of type_lines
parameter_lines [] each_nil = refl
parameter_lines (t ∷ ts) (each_cons i is) = rw (parameter_lines ts is, plain_told t i)

-- the numbers of a plain method are those that are emitted
pub plain_methods : {most : Most} (W : World) (owner : ℕ) (m : Declaration) (ms : List Declaration)
    → MethodInForm most m
    → lines_of (flatten_methods (map (plain_method W owner) (m ∷ ms))) ≡ method_numbers W owner m
    ++ lines_of (flatten_methods (map (plain_method W owner) ms))
unfolding flatten_methods method_numbers tree_numbers
plain_methods W owner m ms i =
    let ps = map (λ (t : DeclaredType). written P_parameter (type_number t) 0)
    (map plain_type m.parameters) in
    let b = flatten (plain_body W owner m.parameters m.body) in
    let d = flatten_methods (map (plain_method W owner) ms) in
    lines_cons M_method (type_number (plain_type m.result)) m.name (ps ++ (b ++ d))
    ∙ rw (
      lines_append ps (b ++ d),
      lines_append b d,
      parameter_lines m.parameters i.parameters,
      ← plain_told m.result i.result,
    )
    (ap (λ (l : List ℕ). 77 ∷ plain_number (type_number m.result) ∷ m.name ∷ 0 ∷ l)
    (sym (append_assoc (type_lines 80 m.parameters) (lines_of b) (lines_of d))))

-- lines of a method from its body on
method_passed : (at : ℕ) {b b' : ℕ} (m : Declaration) → b ≡ body_row at m → b' ≡ b + size m.body
    → b' ≡ at + method_lines m
unfolding method_lines heading_lines
method_passed at m z y = omega (arith, z, y)

method_length : (W : World) (k : ℕ) (m : Declaration)
    → length (method_numbers W k m)
    ≡ 4 + 4 * length m.parameters + length
    (node_numbers W m.body (method_environment k m.parameters) (variables m.parameters))
unfolding method_numbers
method_length W k m = let n =
    node_numbers W m.body (method_environment k m.parameters) (variables m.parameters) in
    omega (arith, length-append (type_lines 80 m.parameters) n, types_length 80 m.parameters)

-- methods: the first, and the rest
module _ {P : List Class} {E : List ℕ} {k : ℕ} {R T M C : List ℕ} {at place : ℕ} where
  method_first : (m : Declaration) (ms : List Declaration) → MethodsTask P E k (m ∷ ms) R T M C at place
      → (p x : ℕ) → Run R 80 (at + 1) p → Run R 88 (at + 1 + p) x
      → (p ≡ length m.parameters) × (at + 1 + p + x ≡ body_row at m)
      × MethodTask P E k m R T M C at (at + 1 + p + x) place
  unfolding EachMethod methods_numbers
  method_first m ms t p x v u =
      let y = t.stand.methods.0 in
      let i = (each_head t.stand.in_form).0 in
      let a = parameters_count y i p v in
      let z : at + 1 + p + x ≡ body_row at m = omega (arith, a, effects_count y i p v x u) in
      let f : place + 4 + 4 * length m.parameters + length
      (node_numbers (world P) m.body (method_environment k m.parameters)
      (variables m.parameters)) ≤ most_numbers
      = omega (
        arith,
        t.fits,
        length-append (method_numbers (world P) k m) (methods_numbers (world P) k ms),
        method_length (world P) k m,
      ) in (
        a,
        z,
        record {
          row = y.line;
          parameters = y.parameters;
          task = rw z (record {
            lent = t.lent;
            encoded = y.body;
            looks = t.bodies.0.looks;
            typed = t.bodies.0.typed;
            scope = omega (arith, i.few);
            low = omega arith;
            fits = f;
          });
        },
      )

  method_rest : (m : Declaration) (ms : List Declaration) → MethodsTask P E k (m ∷ ms) R T M C at place
      → (p b : ℕ) → p ≡ place + length (method_numbers (world P) k m)
      → b ≡ at + method_lines m → MethodsTask P E k ms R T M C b p
  unfolding EachMethod methods_numbers
  method_rest m ms t p b z y =
      let f : p + length (methods_numbers (world P) k ms) ≤ most_numbers
      = omega (
        arith,
        z,
        t.fits,
        length-append (method_numbers (world P) k m) (methods_numbers (world P) k ms),
      ) in rw y (record {
        lent = t.lent;
        stand = stand_rest m ms t.stand _ refl;
        bodies = t.bodies.1;
        fits = f;
      })

module _ {R T M C : List ℕ} {at place : ℕ} where
  pub methods_known : SomeMethods R T M C at place → (at * 4 + 3 < length R) × (at < 60000)
  methods_known x = stand_known (record { k = x.k; ms = x.ms; stand = x.task.stand })

  pub methods_end : {O : List ℕ} → get_or R (at * 4) 0 ≢ 77 → MethodsEmitted R T M C O O at place place at
  unfolding EachMethod methods_numbers methods_lines
  methods_end {O} h = record { each = λ P E k ms t. go P E k ms t }
    where
      go : (P : List Class) (E : List ℕ) (k : ℕ) (ms : List Declaration)
          → MethodsTask P E k ms R T M C at place
          → Emitted (methods_numbers (world P) k ms) (methods_lines ms) O O place at place at
      go P E k [] t = record { written = written_none; passed = omega arith }
      go P E k (m ∷ ms) t = absurd (h t.stand.methods.0.line.letter)

  with_method : {D : Type 0} {P : List Class} {E : List ℕ} {k : ℕ} (ms : List Declaration)
      → get_or R (at * 4) 0 ≡ 77 → MethodsTask P E k ms R T M C at place
      → ((m : Declaration) (ms : List Declaration) → MethodsTask P E k (m ∷ ms) R T M C at place → D) → D
  with_method [] h t f = absurd (no_method at t.stand.after h)
  with_method (m ∷ ms) h t f = f m ms t

  pub methods_here : (y : SomeMethods R T M C at place) → get_or R (at * 4) 0 ≡ 77
      → MethodStanding R y.E at
  methods_here y h = stand_here h (record { k = y.k; ms = y.ms; stand = y.task.stand })

  module _ {p x : ℕ} (v : Run R 80 (at + 1) p) (u : Run R 88 (at + 1 + p) x) where
    pub methods_method : SomeMethods R T M C at place → get_or R (at * 4) 0 ≡ 77
        → SomeMethod R T M C at (at + 1 + p + x) place p
    methods_method y h = with_method y.ms h y.task λ m ms t. let q = method_first m ms t p x v u in
        record { P = y.P; E = y.E; owner = y.k; m = m; task = q.2; counted = sym q.0 }

    module _ {O O₁ : List ℕ} {r b : ℕ} (o : MethodEmitted R T M C O O₁ at (at + 1 + p + x) place p r b) where
      method-emitted : {P : List Class} {E : List ℕ} {k : ℕ} (m : Declaration) (ms : List Declaration)
          → MethodsTask P E k (m ∷ ms) R T M C at place
          → Written (method_numbers (world P) k m) O O₁ place r × (b ≡ at + method_lines m)
      method-emitted {P} {E} {k} m ms t = let q = method_first m ms t p x v u in
          let e = o.each P E k m q.2 (sym q.0) in
          (e.written, method_passed at m q.1 e.passed)

      pub methods_rest : SomeMethods R T M C at place → get_or R (at * 4) 0 ≡ 77
          → SomeMethods R T M C b r × (at < b)
      methods_rest y h = with_method y.ms h y.task λ m ms t. let d = method-emitted m ms t in (
        record {
          P = y.P;
          E = y.E;
          k = y.k;
          ms = ms;
          task = method_rest m ms t r b d.0.ended d.1;
        },
        omega (arith, d.1, lines_positive m),
      )

      pub methods_step : {O₂ : List ℕ} {p₂ b₂ : ℕ} → get_or R (at * 4) 0 ≡ 77
          → MethodsEmitted R T M C O₁ O₂ b r p₂ b₂ → MethodsEmitted R T M C O O₂ at place p₂ b₂
      unfolding methods_numbers methods_lines
      methods_step {O₂} {p₂} {b₂} h w = record { each = λ P E k ms t. go P E k ms t }
        where
          go : (P : List Class) (E : List ℕ) (k : ℕ) (ms : List Declaration)
              → MethodsTask P E k ms R T M C at place
              → Emitted (methods_numbers (world P) k ms) (methods_lines ms) O O₂ place at p₂ b₂
          go P E k [] t = absurd (no_method at t.stand.after h)
          go P E k (m ∷ ms) t = let d = method-emitted m ms t in let e =
              w.each P E k ms (method_rest m ms t r b d.0.ended d.1) in
              whole (written_then d.0 e.written) refl (omega (arith, d.1, e.passed))

-- after some of the methods: what the rest writes makes what all write
pub record MethodsLeft (R T M C O₀ O : List ℕ) (at₀ place₀ place at : ℕ) : Type 0 where
  pub rest : SomeMethods R T M C at place
  pub all : {O' : List ℕ} {q b : ℕ} → MethodsEmitted R T M C O O' at place q b
      → MethodsEmitted R T M C O₀ O' at₀ place₀ q b

pub methods_start : {R T M C O : List ℕ} {at place : ℕ} → SomeMethods R T M C at place
    → MethodsLeft R T M C O O at place place at
methods_start x = record { rest = x; all = λ n. n }

module _ {R T M C O₀ O : List ℕ} {at₀ place₀ place at : ℕ} (l : MethodsLeft R T M C O₀ O at₀ place₀ place at) where
  pub methods_done : get_or R (at * 4) 0 ≢ 77 → MethodsEmitted R T M C O₀ O at₀ place₀ place at
  methods_done h = l.all (methods_end h)

  pub methods_more : {p x : ℕ} (v : Run R 80 (at + 1) p) (u : Run R 88 (at + 1 + p) x) {O' : List ℕ} {r b : ℕ}
      → MethodEmitted R T M C O O' at (at + 1 + p + x) place p r b → get_or R (at * 4) 0 ≡ 77
      → MethodsLeft R T M C O₀ O' at₀ place₀ r b × (at < b)
  methods_more v u o h = let x = methods_rest v u o l.rest h in
      (record { rest = x.0; all = λ n. l.all (methods_step v u o h n) }, x.1)
