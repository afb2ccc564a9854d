-- Laws of the translator's answer: its limits, reserved names, room, and what the buffer then holds.
use mathlib.Core.Path.{◌≡◌, sym, ap, ◌∙◌, subst}
use mathlib.Core.List.{List, ◌++◌}
use Prim.Native.Nat.{ℕ, ◌+◌, ◌/◌, ◌≤◌, ◌<◌}
use native.Mathlib.Omega.{arith}
use lib.ListN.{length, drop}
use lib.Seq.{sets, sets-eq}
use Rattle.language.specs.Limits.{of_translator}
use Rattle.language.specs.Results.{accept, refuse, passed, bind_checked}
use Rattle.language.specs.Rows.{rows_of}
use Rattle.language.specs.Tree.{Program}
use Rattle.language.specs.Verdict.{check}
use Rattle.language.specs.Translation.{within_limits, names_free, translation}
use Rattle.language.specs.WellFormed.{ProgramInForm}
use Rattle.language.specs.Filling.{answer, buffer}
use Rattle.std.specs.Prelude.{Result, Ok, Err}
use Rattle.language.specs.Refusals.{refusal}
use Rattle.language.specs.declared.Refusal.{Refusal}
use Rattle.language.proofs.Filling.{answer_fits, answer_short, answer_refused}
use Rattle.language.proofs.Refusals.{result_ok, result_err}
use Rattle.theory.proofs.acceptance.Acceptance.{check_accepts}
use Rattle.theory.proofs.reading.FlattenProgram.{form_back}
use Rattle.theory.proofs.acceptance.Translatable.{earlier_inv, same_program}
use Rattle.plain.specs.Numbers.{program_numbers}
use Rattle.plain.specs.Tasks.{ProgramTask}
use Rattle.plain.specs.Emission.{SomeProgram, ProgramWritten}
use Rattle.limits.specs.Bounds.{NamesFree, SomeChecked, Limited}
use Rattle.limits.specs.Standing.{SomeClassesStand}
use Rattle.plain.specs.Answers.{PlainWritten, SomeAccepted}
use Rattle.limits.proofs.Standing.{all_stand}

-- the plain rows in a buffer
sets_start : (l xs : List ℕ) → length xs ≤ length l → sets l 0 xs ≡ xs ++ drop (length xs) l
sets_start l xs h = let e : 0 + length xs ≡ length xs = omega arith in sets-eq xs l 0 (omega arith)
    ∙ ap (λ (n : ℕ). xs ++ drop n l) e

module _ {R T M C O N N' : List ℕ} {count : ℕ} (w : ProgramWritten R T M C N N' count) where
  pub plain_short : length O < count → PlainWritten R T M C O O (Err (refusal 13 0))
  plain_short h = record {
    each = λ p E t.
        answer_short 4 (program_numbers p) O (omega (arith, (w.each p E t).ended, h));
  }

  pub plain_done : {O' : List ℕ} {n m : ℕ} → count ≤ length O → ProgramWritten R T M C O O' n → m ≡ n / 4
      → PlainWritten R T M C O O' (Ok m)
  plain_done {O'} {n} {m} h v q = record {
    each = λ p E t.
        let l : length (program_numbers p) ≤ length O = omega (arith, (w.each p E t).ended, h) in
        let x = v.each p E t in
        let z : n ≡ length (program_numbers p) = omega (arith, x.ended) in
        let y = answer_fits 4 (program_numbers p) O l in
        (rw (q, z) y.0, x.content ∙ sets_start O (program_numbers p) l ∙ y.1);
  }

-- what is refused by the limits or by its names is refused
limits_refuse : (R : List ℕ) (p : Program) → check R ≡ accept p → (n l : ℕ) → within_limits R p ≡ refuse n l
    → translation R ≡ refuse n l
unfolding translation bind_checked
limits_refuse R p e n l h = rw (e, h)

names_refuse : (R : List ℕ) (p : Program) → check R ≡ accept p → (u : Unit {0}) → within_limits R p ≡ accept u
    → (n l : ℕ) → names_free 1 p.classes ≡ refuse n l → translation R ≡ refuse n l
unfolding translation bind_checked
names_refuse R p e u h n l q = rw (e, h, q)

taken : (R : List ℕ) (p : Program) → check R ≡ accept p → (u v : Unit {0}) → within_limits R p ≡ accept u
    → names_free 1 p.classes ≡ accept v → translation R ≡ accept (program_numbers p)
unfolding translation bind_checked
taken R p e u v h q = rw (e, h, q)

module _ {R E T M C : List ℕ} where
  pub accepted_stand : SomeAccepted R E T M C → SomeClassesStand R E 0
  accepted_stand x = record { k = 1; cs = x.p.classes; stand = all_stand x.held.headed.here }

  abbrev checked : SomeAccepted R E T M C → SomeChecked R E T
  checked x = record {
    p = x.p;
    A = x.A;
    M = M;
    F = x.F;
    C = C;
    accepted = x.accepted;
    held = x.held;
  }

  module _ (x : SomeAccepted R E T M C) (O : List ℕ) where
    pub answer_limits : {r : Refusal} → Limited R E T (Err r)
        → (Err r ≡ answer 4 (translation R) (length O)) × (O ≡ buffer (translation R) O)
    answer_limits {r} h = answer_refused 4 r.number r.line O (limits_refuse R x.p x.accepted r.number r.line
        (result_err (λ u. u) (within_limits R x.p) r (sym (h.each (checked x)))))

    module _ (h : Limited R E T (Ok tt)) where
      fine : within_limits R x.p ≡ passed
      fine = (result_ok (λ u. u) (within_limits R x.p) (sym (h.each (checked x)))).is

      pub answer_names : {r : Refusal} → NamesFree R E 0 (Err r)
          → (Err r ≡ answer 4 (translation R) (length O)) × (O ≡ buffer (translation R) O)
      answer_names {r} f = answer_refused 4 r.number r.line O
          (names_refuse R x.p x.accepted tt fine r.number r.line
          (result_err (λ u. u) (names_free 1 x.p.classes) r (f.each 1 x.p.classes (all_stand x.held.headed.here))))

      module _ (f : NamesFree R E 0 (Ok tt)) where
        free : names_free 1 x.p.classes ≡ passed
        free = (result_ok (λ u. u) (names_free 1 x.p.classes)
            (f.each 1 x.p.classes (all_stand x.held.headed.here))).is

        task : ProgramTask x.p E R T M C
        unfolding within_limits
        task = let a = (check_accepts R x.p).0 x.accepted in
            earlier_inv _ _ fine λ q w e₄ e₅.
            let same = same_program R x.p q a e₄ in
            record {
              A = x.A;
              F = x.F;
              held = x.held;
              beside = x.beside;
              taken = record {
                accepted = a;
                in_form = subst (ProgramInForm of_translator) same
                    (form_back of_translator (omega arith) (rows_of R) q e₄).1;
                few_fields = e₅;
                unreserved = free;
              };
            }

        pub answer_some : SomeProgram R T M C
        answer_some = record { p = x.p; E = E; task = task }

        pub answer_plain : {O' : List ℕ} {s : Result ℕ Refusal} → PlainWritten R T M C O O' s
            → (s ≡ answer 4 (translation R) (length O)) × (O' ≡ buffer (translation R) O)
        answer_plain w = rw (taken R x.p x.accepted tt tt fine free) (w.each x.p E task)
