-- Laws of the start and the end of a program. Assumes nothing.
use mathlib.Core.Path.{◌≡◌, refl, sym, ap, ◌∙◌}
use mathlib.Core.List.{List, [], ◌∷◌, ◌++◌}
use Prim.Native.Nat.{ℕ, ◌+◌, ◌*◌, ◌≤◌}
use native.Mathlib.Omega.{arith}
use native.Mathlib.Numerals.{add-one}
use borrow.Author.Tests.{eq-eqb, ne_eqb}
use lib.ListN.{length, get_or, drop, set, length-append}
use lib.Seq.{sets, sets-eq}
use Rattle.language.specs.Results.{Checked, accept, refuse, bind_checked, require, accept≢refuse}
use Rattle.language.specs.Rows.{code, Row, Record, rows_of}
use Rattle.language.specs.Tree.{size, Class, classes_lines, Program}
use Rattle.language.specs.Form.{after, record_on, next, body, at_end, form}
use Rattle.language.specs.Tables.{ends_of, classes_ends, program_ends}
use Rattle.language.proofs.Tables.{ends_long, classes_ends_long}
use Rattle.language.proofs.Filling.{sets_then}
use Rattle.parsing.specs.declared.limits.Limits.{Limits}
use Rattle.parsing.specs.Columns.{most_of}
use Rattle.parsing.specs.Places.{rows_from, row_checked}
use Rattle.parsing.specs.Passes.{Step, ToldNode}
use Rattle.form.specs.Start.{start_read, Starts, Started}
use Rattle.form.specs.Answers.{formed_of}
use Rattle.form.specs.declared.Formed.{Formed}
use Rattle.std.specs.Prelude.{Result, Ok, Err}
use Rattle.language.specs.declared.Refusal.{Refusal}
use Rattle.language.specs.Refusals.{refusal}
use Rattle.parsing.proofs.Places.{rows_here, rows_end, Here, next_here, next_refused}
use Rattle.parsing.proofs.Passes.{told_end, told_failed}
use Rattle.parsing.proofs.ClassLaws.{Classes, all_classes}

-- ---- the end

module _ (L : Limits) (R : List ℕ) (at classes start : ℕ) (p : Program) (n : length p.classes ≡ classes)
    (s : classes_lines p.classes ≡ start) where
  pub finished : length R ≤ at * 4
      → Ok (record { classes = classes; start = start }) ≡ formed_of (at_end (most_of L) (at + 1) (rows_from R at) p)
  unfolding at_end
  finished h = rw (rows_end R at h, n, s)

  module _ (h : at * 4 + 4 ≤ length R) where
    more : at_end (most_of L) (at + 1) (rows_from R at) p
        ≡ next (most_of L) (at + 1) (rows_from R at) (λ _ _. refuse 3 (at + 1))
    unfolding at_end
    more = rw (rows_here R at h)

    pub not_finished : {r : Refusal} → row_checked L (at + 1) (rows_from R at) ≡ Err r
        → Err r ≡ formed_of (at_end (most_of L) (at + 1) (rows_from R at) p)
    not_finished e = rw (more, next_refused L {B = Program} R at (λ _ _. refuse 3 (at + 1)) e)

    pub more_follows : Here L R at → Err (refusal 3 (at + 1))
        ≡ formed_of (at_end (most_of L) (at + 1) (rows_from R at) p)
    more_follows x = rw (more, next_here x {B = Program} (λ _ _. refuse 3 (at + 1)))

-- ---- the start

module _ {cs : List Class} {E E' : List ℕ} {at : ℕ} where
  start_failed : (x : Checked Program) (r : Refusal) → x ≡ refuse r.number r.line
      → (Err r ≡ formed_of x) × Started cs E at x E'
  unfolding Starts
  start_failed x r e = (rw e, record { it = rw e tt })

  started : (L : Limits) (line : ℕ) (rs : List Row) (p : Program) → p.classes ≡ cs
      → E' ≡ sets E at ((at + 1) ∷ ends_of (at + 1) p.start)
      → at + 1 + size p.start ≤ length E → Started cs E at (at_end (most_of L) line rs p) E'
  unfolding Starts at_end next bind_checked
  started L line [] p c t h = record { it = (c, t, h) }
  started L line (r ∷ rs) p c t h = record { it = go (record_on (most_of L) line r) }
    where
      go : (x : Checked Record) → Starts cs E at (bind_checked x (λ _. refuse 3 line)) E'
      go (accept x) = tt
      go (refuse n l) = tt

start_here : (L : Limits) (R : List ℕ) (at : ℕ) (cs : List Class) (x : Here L R at) → get_or R (at * 4) 0 ≡ 83
    → start_read L cs (at + 1) (rows_from R at)
    ≡ after (body (most_of L) 1 (at + 1 + 1) (rows_from R (at + 1)))
    (λ e rs. at_end (most_of L) (at + 1 + 1 + size e) rs (record { classes = cs; start = e }))
unfolding start_read require
start_here L R at cs x z = next_here x _ ∙ rw (eq-eqb 83 (code x.letter) (sym z ∙ sym x.code_is))

module _ (L : Limits) (R : List ℕ) (at : ℕ) (cs : List Class) {E E₁ : List ℕ} where
  pub start_refused : {r : Refusal} → row_checked L (at + 1) (rows_from R at) ≡ Err r
      → (Err r ≡ formed_of (start_read L cs (at + 1) (rows_from R at)))
      × Started cs E at (start_read L cs (at + 1) (rows_from R at)) E₁
  unfolding start_read
  start_refused {r} e = start_failed (start_read L cs (at + 1) (rows_from R at)) r (next_refused L R at _ e)

  module _ (x : Here L R at) where
    pub start_other : (get_or R (at * 4) 0 ≡ 83 → ⊥)
        → (Err (refusal 3 (at + 1)) ≡ formed_of (start_read L cs (at + 1) (rows_from R at)))
        × Started cs E at (start_read L cs (at + 1) (rows_from R at)) E₁
    unfolding start_read require
    start_other z = start_failed (start_read L cs (at + 1) (rows_from R at)) (refusal 3 (at + 1))
        (next_here x _ ∙ rw (ne_eqb 83 (code x.letter) (λ e. z (sym x.code_is ∙ sym e))))

    module _ (z : get_or R (at * 4) 0 ≡ 83) where
      module _ {E₀ : List ℕ} {s : Step}
          (t : ToldNode L R E₀ (at + 1) (body (most_of L) 1 (at + 1 + 1) (rows_from R (at + 1))) s E₁) where
        pub start_stop : {r : Refusal} → s ≡ Err r
            → (Err r ≡ formed_of (start_read L cs (at + 1) (rows_from R at)))
            × Started cs E at (start_read L cs (at + 1) (rows_from R at)) E₁
        unfolding after
        start_stop {r} e = start_failed (start_read L cs (at + 1) (rows_from R at)) r
            (start_here L R at cs x z
            ∙ rw (told_failed (body (most_of L) 1 (at + 1 + 1) (rows_from R (at + 1))) t e))

        pub start_end : {q classes : ℕ} {r : Result Formed Refusal} → s ≡ Ok q → E₀ ≡ set E at (at + 1)
            → (q ≤ L.rows → q * 4 ≤ length R → q ≤ length E) → length cs ≡ classes → classes_lines cs ≡ at
            → ((p : Program) → length p.classes ≡ classes → classes_lines p.classes ≡ at
            → r ≡ formed_of (at_end (most_of L) (q + 1) (rows_from R q) p))
            → (r ≡ formed_of (start_read L cs (at + 1) (rows_from R at)))
            × Started cs E at (start_read L cs (at + 1) (rows_from R at)) E₁
        unfolding after
        start_end {q} {classes} {r} e w h c d f =
            told_end (body (most_of L) 1 (at + 1 + 1) (rows_from R (at + 1))) t e λ b y p v o u.
            let p₀ : Program = record { classes = cs; start = b } in
            let j : at + 1 + 1 + size b ≡ q + 1 = omega (arith, p) in
            let same : start_read L cs (at + 1) (rows_from R at)
            ≡ at_end (most_of L) (q + 1) (rows_from R q) p₀ = start_here L R at cs x z ∙ rw (y, j) in
            let table : E₁ ≡ sets E at ((at + 1) ∷ ends_of (at + 1) b) = u ∙ rw (w, add-one at) in (
              rw same (f p₀ c d),
              rw same (started L (q + 1) (rows_from R q) p₀ refl table
                  (omega (arith, p, h v o))),
            )

-- ---- the whole

module _ (L : Limits) (R E₀ : List ℕ) where
  pub form_failed : {E' : List ℕ} (r : Refusal) → all_classes L R ≡ refuse r.number r.line
      → (Err r ≡ formed_of (form (most_of L) (rows_of R)))
      × ((p : Program) → form (most_of L) (rows_of R) ≡ accept p
      → E' ≡ program_ends p ++ drop (length (program_ends p)) E₀)
  unfolding form after
  form_failed r e = (rw e, λ p z. absurd (accept≢refuse _ _ (rw e at z)))

  module _ {E : List ℕ} {i n : ℕ} (c : Classes L R E₀ E i n) where
    form-is : form (most_of L) (rows_of R) ≡ start_read L c.list (i + 1) (rows_from R i)
    unfolding form after start_read
    form-is = let j : 1 + classes_lines c.list ≡ i + 1 = omega (arith, c.rows) in rw (c.all, j)

    program-long : (p : Program) → p.classes ≡ c.list → length (program_ends p) ≡ i + 1 + size p.start
    unfolding program_ends
    program-long p e =
        length-append (classes_ends 0 p.classes) _
        ∙ omega (
          arith,
          classes_ends_long 0 p.classes,
          ends_long (classes_lines p.classes + 1) p.start,
          ap classes_lines e,
          c.rows,
        )

    pub form_done : {E' : List ℕ} {r : Result Formed Refusal} → length E ≡ length E₀
        → ((cs : List Class) → length cs ≡ n → classes_lines cs ≡ i
        → (r ≡ formed_of (start_read L cs (i + 1) (rows_from R i)))
        × Started cs E i (start_read L cs (i + 1) (rows_from R i)) E')
        → (r ≡ formed_of (form (most_of L) (rows_of R)))
        × ((p : Program) → form (most_of L) (rows_of R) ≡ accept p
        → E' ≡ program_ends p ++ drop (length (program_ends p)) E₀)
    unfolding Starts program_ends
    form_done {E'} {r} g f =
        let s = f c.list c.many (sym c.rows) in
        (rw form-is s.0, λ p e. filled p (rw (sym form-is ∙ e) at s.1.it))
      where
        written : (p : Program) → p.classes ≡ c.list
            → sets E i ((i + 1) ∷ ends_of (i + 1) p.start) ≡ sets E₀ 0 (program_ends p)
        written p e =
            let w : i ≡ 0 + length (classes_ends 0 c.list) =
            omega (arith, c.rows, classes_ends_long 0 c.list) in
            rw (e, ← c.rows, c.table)
            (sets_then E₀ 0 i (classes_ends 0 c.list) ((i + 1) ∷ ends_of (i + 1) p.start) w)

        filled : (p : Program)
            → (p.classes ≡ c.list) × (E' ≡ sets E i ((i + 1) ∷ ends_of (i + 1) p.start))
            × (i + 1 + size p.start ≤ length E)
            → E' ≡ program_ends p ++ drop (length (program_ends p)) E₀
        filled p t =
            let k = program-long p t.0 in
            let z : 0 + length (program_ends p) ≡ length (program_ends p) = omega arith in
            t.1 ∙ written p t.0 ∙ sets-eq (program_ends p) E₀ 0 (omega (arith, k, t.2, g)) ∙ rw z
