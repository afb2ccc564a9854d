-- From pass to pass: what the answer of each tells of its definition, and what the next is called on. Assumes nothing.
use mathlib.Core.Path.{◌≡◌, sym, ap, ◌∙◌, subst}
use mathlib.Core.Logic.{◌⊎◌, inl, inr}
use mathlib.Core.List.{List, ◌++◌}
use Prim.Native.Nat.{ℕ, ◌+◌, ◌*◌, ◌%◌, ◌≤◌}
use lib.ListN.{length, drop, replicate, length-replicate}
use borrow.Author.Tests.{eq-eqb, ne_eqb}
use native.Mathlib.Omega.{arith}
use Rattle.std.specs.Prelude.{Result, Ok, Err}
use Rattle.language.specs.Limits.{of_check}
use Rattle.language.specs.declared.Refusal.{Refusal}
use Rattle.language.proofs.Refusals.{result_ok, result_err}
use Rattle.language.specs.Results.{Checked, Pass, passed, accept, refuse, bind_checked, require, accept_injective}
use Rattle.language.specs.Results.{accept≢refuse}
use Rattle.language.specs.Rows.{rows_of}
use Rattle.language.specs.Tree.{Program}
use Rattle.language.specs.Form.{form}
use Rattle.language.specs.Headings.{headings}
use Rattle.language.specs.Typing.{bodies}
use Rattle.language.specs.Tables.{program_ends}
use Rattle.language.specs.Verdict.{whole_rows, three_passes, check}
use Rattle.language.specs.ClassTables.{ClassTables}
use Rattle.language.specs.MethodTables.{MethodTables, placed_methods}
use Rattle.language.specs.Layout.{start_row}
use Rattle.layout.specs.Standing.{program_at}
use Rattle.layout.specs.Held.{Headed, Held}
use Rattle.layout.specs.HeldLaws.{few, lower}
use Rattle.classes.proofs.Below.{subclasses}
use Rattle.form.specs.Answers.{found, formed_of}
use Rattle.form.specs.declared.Formed.{Formed}
use Rattle.members.specs.Answers.{headed}
use Rattle.headings.specs.Ready.{HeadingsReady}
use Rattle.members.proofs.Checks.{is_passed, passed_count, is_refused}
use Rattle.bodies.specs.Whole.{BodiesReady, BodiesDone}
use Rattle.passes.specs.Answers.{checked_case}
use Rattle.passes.specs.Passes.{Room, ClassRoom, BodyRoom, Stands, Checks, ChecksAbove}

-- ---- answers

-- A refusal is one of the check.
module _ (R : List ℕ) (r : Refusal) (e : check R ≡ refuse r.number r.line) where
  refused_only : (Q : Program → Type 0) (p : Program) → check R ≡ accept p → Q p
  refused_only Q p g = absurd (accept≢refuse r.number r.line (sym e ∙ g))

  pub refuses : {E T A M C : List ℕ} → Checks R E T A M C (Err r)
  refuses = record { answer = ap checked_case (sym e); holds = refused_only _ }

  pub refuses_above : {A : List ℕ} → ChecksAbove R A (Err r)
  refuses_above = record { answer = ap checked_case (sym e); tells = refused_only _ }

-- The table of superclasses of what is held tells which class stands below which.
pub checks_above : {R E T A M C : List ℕ} {r : Result ℕ Refusal} → Checks R E T A M C r → ChecksAbove R A r
checks_above c = record {
  answer = c.answer;
  tells = λ p e. let h = (c.holds p e).1.headed in
      subclasses p.classes (lower h) h.classes (few h);
}

-- Where the check answers accepted, there is the program; else it refuses.
pub checked_accepted : (c : Checked Program) (n : ℕ) → ◌≡◌ {A = Result ℕ Refusal} (Ok n) (checked_case c)
    → (p : Program) × (c ≡ accept p)
checked_accepted c n e = let x = result_ok (λ (p : Program). length p.classes) c (sym e) in (x.a, x.is)

pub checked_refused : (c : Checked Program) (r : Refusal) → ◌≡◌ {A = Result ℕ Refusal} (Err r) (checked_case c)
    → c ≡ refuse r.number r.line
checked_refused c r e = result_err (λ (p : Program). length p.classes) c r (sym e)

-- ---- form

form_accepted : (c : Checked Program) (f : Formed) → ◌≡◌ {A = Result Formed Refusal} (Ok f) (formed_of c)
    → (p : Program) × (c ≡ accept p) × (length p.classes ≡ f.classes) × (start_row p ≡ f.start)
form_accepted c f e =
    let x = result_ok found c (sym e) in
    (x.a, x.is, ap (λ (f : Formed). f.classes) x.gives, ap (λ (f : Formed). f.start) x.gives)

module _ (R : List ℕ) where
  -- A length that is not a multiple of 4.
  pub uneven : (length R % 4 ≡ 0 → ⊥) → check R ≡ refuse 1 0
  unfolding check whole_rows require
  uneven u = rw (ne_eqb (length R % 4) 0 u)

  module _ (whole : length R % 4 ≡ 0) where
    check-is : check R ≡ three_passes R
    unfolding check whole_rows require
    check-is = rw (eq-eqb (length R % 4) 0 whole)

    pub stands : (E E' : List ℕ) (f : Formed)
        → ◌≡◌ {A = Result Formed Refusal} (Ok f) (formed_of (form of_check (rows_of R)))
        → ((p : Program) → form of_check (rows_of R) ≡ accept p
        → E' ≡ program_ends p ++ drop (length (program_ends p)) E)
        → Stands R E' f.classes f.start
    stands E E' f b ends =
        let x = form_accepted (form of_check (rows_of R)) f b in
        record {
          program = x.0;
          formed = x.1;
          here = program_at R E' x.0 _ x.1 whole (ends x.0 x.1);
          counted = x.2;
          started = x.3;
        }

    pub not_in_form : (r : Refusal) → ◌≡◌ {A = Result Formed Refusal} (Err r) (formed_of (form of_check (rows_of R)))
        → check R ≡ refuse r.number r.line
    unfolding three_passes bind_checked
    not_in_form r b = check-is ∙ rw (result_err found (form of_check (rows_of R)) r (sym b))

-- ---- room

-- New tables are long enough.
module _ (R : List ℕ) where
  module _ (whole : length R % 4 ≡ 0) where
    new-room : (rows numbers : ℕ) → (length R ≤ 4 * rows) ⊎ (60000 ≤ rows)
        → (length R * 4 ≤ 12 * numbers) ⊎ (80000 ≤ numbers)
        → Room R (replicate rows 0) (replicate numbers 0)
    new-room rows numbers a b =
        let e = length-replicate {A = ℕ} rows 0 in
        let m = length-replicate {A = ℕ} numbers 0 in
        record { whole = whole; room = rw e a; methods = rw m b }

    pub room_short : length R ≤ 128 → Room R (replicate 32 0) (replicate 44 0)
    room_short l = new-room 32 44 (inl (omega (arith, l))) (inl (omega (arith, l)))

    pub room_few : length R ≤ 4096 → Room R (replicate 1024 0) (replicate 1368 0)
    room_few l = new-room 1024 1368 (inl (omega (arith, l))) (inl (omega (arith, l)))

    pub room_many : Room R (replicate 60000 0) (replicate 80000 0)
    room_many = new-room 60000 80000 (inr (omega arith)) (inr (omega arith))

  -- Effects and slots of the check: 256 slots for each of 128 levels of nesting and as many again; of at most 32 rows, 32.
  body_room : (methods width depth slots : ℕ) → (length R ≤ 12 * methods) ⊎ (20000 ≤ methods)
      → (256 ≤ width) ⊎ (length R ≤ 4 * width) → (128 ≤ depth) ⊎ (length R ≤ 4 * depth) → 8 ≤ width
      → width * (depth + 1) ≤ slots → BodyRoom R (replicate methods 0) (replicate slots 0) width
  body_room methods width depth slots a wide deep arguments room =
      let f = length-replicate {A = ℕ} methods 0 in
      let s = length-replicate {A = ℕ} slots 0 in
      record {
        effects = rw f a;
        depth = depth;
        space = record { wide = wide; deep = deep; arguments = arguments; slots = rw s room };
      }

  pub body_short : length R ≤ 128 → BodyRoom R (replicate 11 0) (replicate 1056 0) 32
  body_short l = body_room 11 32 32 1056 (inl (omega (arith, l))) (inr (omega (arith, l)))
      (inr (omega (arith, l))) (omega arith) (omega arith)

  pub body_few : length R ≤ 4096 → BodyRoom R (replicate 342 0) (replicate 33024 0) 256
  body_few l = body_room 342 256 128 33024 (inl (omega (arith, l))) (inl (omega arith)) (inl (omega arith))
      (omega arith) (omega arith)

  pub body_many : BodyRoom R (replicate 20000 0) (replicate 33024 0) 256
  body_many = body_room 20000 256 128 33024 (inr (omega arith)) (inl (omega arith)) (inl (omega arith))
      (omega arith) (omega arith)

module _ (A : List ℕ) {classes : ℕ} where
  -- A table for 64 classes is long enough for any program.
  pub all_classes : {R E : List ℕ} {start : ℕ} → Stands R E classes start → 65 ≤ length A
      → ClassRoom (replicate 37440 0) A classes
  all_classes s a = record {
    blocks = omega (arith, s.counted, s.here.in_form.few, length-replicate {A = ℕ} 37440 0);
    entries = omega (arith, s.counted, s.here.in_form.few, a);
  }

-- ---- headings

-- After headings: besides, the tables hold its classes and its methods, of which there are so many.
pub record HeadingsPassed (R E T A M F : List ℕ) (classes many start : ℕ) : Type 0 where
  pub whole : length R % 4 ≡ 0
  pub stands : Stands R E classes start
  pub headed : Headed R E T A M F stands.program classes
  pub numbered : many ≡ length (placed_methods stands.program.classes)

abbrev pub ready : {R E T A M F S : List ℕ} {n start width : ℕ} → Stands R E n start → Room R E M
    → ClassRoom T A n → BodyRoom R F S width → HeadingsReady R E T A M F
ready s r c b = record {
  program = s.program;
  standing = s.here;
  long = omega (arith, s.counted, c.blocks);
  long_above = omega (arith, s.counted, c.entries);
  long_methods = r.methods;
  long_effects = b.effects;
}

module _ {R E : List ℕ} {n start : ℕ} (s : Stands R E n start) where
  abbrev P : Pass
  P = headings of_check s.program.classes

  abbrev count : ℕ
  count = length (placed_methods s.program.classes)

  pub headings_passed : {T A M F : List ℕ} {many : ℕ} → length R % 4 ≡ 0
      → ◌≡◌ {A = Result ℕ Refusal} (Ok many) (headed count P)
      → ClassTables s.program.classes T A × MethodTables s.program.classes M F
      → HeadingsPassed R E T A M F n many start
  headings_passed {many = many} whole e t = record {
    whole = whole;
    stands = s;
    headed = record {
      here = s.here;
      counted = s.counted;
      passes = is_passed (λ _. count) P e;
      classes = t.0;
      methods = t.1;
    };
    numbered = passed_count count P many e;
  }

  -- What the check comes to after form.
  after_form : length R % 4 ≡ 0
      → check R ≡ bind_checked P λ _. bind_checked (bodies s.program) λ _. accept s.program
  unfolding three_passes bind_checked
  after_form whole = check-is R whole ∙ rw s.formed

  pub headings_refused : {T A M C : List ℕ} → length R % 4 ≡ 0 → (r : Refusal)
      → ◌≡◌ {A = Result ℕ Refusal} (Err r) (headed count P) → Checks R E T A M C (Err r)
  unfolding bind_checked
  headings_refused whole r e = refuses R r (after_form whole ∙ rw (is_refused (λ _. count) P r e))

-- ---- bodies

module _ {R E T A M F : List ℕ} {n many start : ℕ} (w : HeadingsPassed R E T A M F n many start)
    {G S : List ℕ} {width : ℕ} (b : BodyRoom R G S width) where
  abbrev p : Program
  p = w.stands.program

  -- What the body pass is called on.
  abbrev pub bodies_ready : BodiesReady R E T A M F S n many start width
  bodies_ready = record {
    p = p;
    headed = w.headed;
    counted = w.numbered;
    started = sym w.stands.started;
    depth = b.depth;
    space = b.space;
  }

  after_headings : check R ≡ bind_checked (bodies p) λ _. accept p
  unfolding bind_checked
  after_headings = after_form w.stands w.whole ∙ rw w.headed.passes

  -- What it answers is what the check does.
  pub bodies_passed : {C C' : List ℕ} → BodiesDone R E T A M F S C C' n many start width (Ok tt)
      → Checks R E T A M C' (Ok n)
  unfolding bind_checked
  bodies_passed {C' = C'} d =
      let y = d.are bodies_ready in
      let q : bodies p ≡ passed = (result_ok (λ (u : Unit {0}). u) (bodies p) (sym y.out)).is in
      let a : check R ≡ accept p = after_headings ∙ rw q in
      record {
        answer = ap Ok (sym w.stands.counted) ∙ ap checked_case (sym a);
        holds = λ z g. (
          F,
          subst (Held R E T A M F C') (accept_injective (sym a ∙ g))
              (record {
                headed = subst (Headed R E T A M F p) (sym w.stands.counted) w.headed;
                typed = q;
                looks = y.looks q;
              }),
        );
      }

  pub bodies_refused : {C C' : List ℕ} (r : Refusal) → BodiesDone R E T A M F S C C' n many start width (Err r)
      → Checks R E T A M C' (Err r)
  unfolding bind_checked
  bodies_refused r d =
      let q : bodies p ≡ refuse r.number r.line =
      result_err (λ (u : Unit {0}). u) (bodies p) r (sym (d.are bodies_ready).out) in
      refuses R r (after_headings ∙ rw q)
