-- Laws of lines of one letter: as many as come, or as many as a block says. Assumes nothing.
use mathlib.Core.Path.{◌≡◌, refl, sym, ap, ◌∙◌}
use mathlib.Core.Bool.{true, false}
use mathlib.Core.List.{List, [], ◌∷◌}
use mathlib.Core.Logic.{⊎_elim}
use Prim.Native.Nat.{ℕ, suc, ◌+◌, ◌-◌, ◌*◌, ◌≤◌, ◌<◌}
use native.Mathlib.Numerals.{add-one}
use native.Mathlib.Omega.{arith}
use borrow.Author.Tests.{eq-eqb, ne_eqb, lt-ltb, le-ltb}
use lib.ListN.{length, get_or, set, length-set}
use lib.Seq.{sets}
use Rattle.std.specs.Prelude.{Ok, Err}
use Rattle.language.specs.declared.Refusal.{Refusal}
use Rattle.language.specs.Refusals.{refusal}
use Rattle.language.specs.Results.{refuse, require}
use Rattle.language.specs.Rows.{code, Row}
use Rattle.language.specs.Tree.{DeclaredType, type_of_number}
use Rattle.language.specs.Form.{done, after, locals}
use Rattle.language.specs.Tables.{next_rows}
use Rattle.parsing.specs.declared.limits.Limits.{Limits}
use Rattle.parsing.specs.Columns.{most_of}
use Rattle.parsing.specs.Places.{rows_from, row_checked, standing, run, Ready, There}
use Rattle.parsing.specs.Passes.{Step, ToldLocals}
use Rattle.parsing.proofs.Places.{rows_here, Here, next_here, next_refused}
use Rattle.parsing.proofs.Passes.{told_refuse, told_as, told_nothing, told_after}

-- a row that is there has its entry in the table
pub row_room : {L : Limits} {R E : List ℕ} {at : ℕ} → Ready L R E at → (i : ℕ) → There L R i → i < length E
row_room {L} r i t = ⊎_elim (λ h. omega (arith, h, t.1)) (λ h. omega (arith, h, t.0)) r.room

-- and so has every row before one that was reached
pub end_room : {L : Limits} {R E : List ℕ} {at q : ℕ} → Ready L R E at → q ≤ L.rows → q * 4 ≤ length R
    → q ≤ length E
end_room {L} r w i = ⊎_elim (λ h. omega (arith, h, i)) (λ h. omega (arith, h, w)) r.room

pub ready_at : {L : Limits} {R E E' : List ℕ} {at : ℕ} (q : ℕ) → Ready L R E at → length E' ≡ length E
    → q ≤ L.rows → q * 4 ≤ length R → Ready L R E' q
ready_at {L} q r e w i = record {
  whole = r.whole;
  room = rw e r.room;
  within = w;
  inside = i;
}

-- ---- as many as come

run_here : (L : Limits) (R : List ℕ) (i n : ℕ) → There L R i → standing L n (i + 1) (rows_from R i) ≡ true
    → run L n (i + 1) (rows_from R i) ≡ suc (run L n (i + 1 + 1) (rows_from R (i + 1)))
unfolding standing run
run_here L R i n t e = rw (rows_here R i t.1) (rw (rw (rows_here R i t.1) at e))

run_none : (L : Limits) (n line : ℕ) (rs : List Row) → standing L n line rs ≡ false → run L n line rs ≡ 0
unfolding standing run
run_none L n line [] e = refl
run_none L n line (r ∷ rs) e = rw e

pub record Passing (L : Limits) (R E₀ E : List ℕ) (at n i : ℕ) : Type 0 where
  pub ready : Ready L R E i
  pub count : i + run L n (i + 1) (rows_from R i) ≡ at + run L n (at + 1) (rows_from R at)
  pub table : sets E i (next_rows i (run L n (i + 1) (rows_from R i)))
      ≡ sets E₀ at (next_rows at (run L n (at + 1) (rows_from R at)))
  pub long : length E ≡ length E₀

pub passing_start : {L : Limits} {R E : List ℕ} {at : ℕ} (n : ℕ) → Ready L R E at → Passing L R E E at n at
passing_start {L} n r = record { ready = r; count = refl; table = refl; long = refl }

module _ {L : Limits} {R E₀ E : List ℕ} {at n i : ℕ} (p : Passing L R E₀ E at n i) where
  pub passing_step : There L R i → standing L n (i + 1) (rows_from R i) ≡ true
      → Passing L R E₀ (set E i (i + 1)) at n (i + 1)
  unfolding next_rows
  passing_step t e =
      let h = run_here L R i n t e in
      let k = run L n (i + 1 + 1) (rows_from R (i + 1)) in
      record {
        ready = ready_at (i + 1) p.ready (length-set E i (i + 1)) (omega (arith, t.0))
            (omega (arith, t.1));
        count = omega (arith, p.count, h);
        table = ap (λ (j : ℕ). sets (set E i (i + 1)) j (next_rows (i + 1) k)) (add-one i)
            ∙ (rw h at p.table);
        long = length-set E i (i + 1) ∙ p.long;
      }

  pub passing_end : standing L n (i + 1) (rows_from R i) ≡ false
      → (i ≡ at + run L n (at + 1) (rows_from R at))
      × (E ≡ sets E₀ at (next_rows at (run L n (at + 1) (rows_from R at)))) × (i ≤ L.rows)
      × (i * 4 ≤ length R)
  unfolding next_rows
  passing_end e =
      let z = run_none L n (i + 1) (rows_from R i) e in
      (omega (arith, p.count, z), rw z at p.table, p.ready.within, p.ready.inside)

-- ---- as many as a block says

pub record Declaring (L : Limits) (R E₀ E : List ℕ) (at count slots i left scope : ℕ) : Type 0 where
  pub ready : Ready L R E i
  pub sum : scope + left ≡ slots + count
  pub small : scope ≤ L.slots
  pub told : (s : Step) (E' : List ℕ)
      → ToldLocals L R E i (locals (most_of L) left scope (i + 1) (rows_from R i)) s E'
      → ToldLocals L R E₀ at (locals (most_of L) count slots (at + 1) (rows_from R at)) s E'
  pub long : length E ≡ length E₀

pub declaring_start : {L : Limits} {R E : List ℕ} {at count slots i left scope : ℕ}
    → i ≡ at → left ≡ count → scope ≡ slots
    → Ready L R E at → slots ≤ L.slots → Declaring L R E E at count slots i left scope
declaring_start {L} p q w r h =
    rw (p, q, w) (record { ready = r; sum = refl; small = h; told = λ s E' t. t; long = refl })

locals_here : (L : Limits) (n left line : ℕ) (rs : List Row) → 0 < left
    → locals (most_of L) left n line rs ≡ locals (most_of L) (suc (left - 1)) n line rs
locals_here L n left line rs h = let e : left ≡ suc (left - 1) = omega arith in
    ap (λ (k : ℕ). locals (most_of L) k n line rs) e

module _ {L : Limits} {R E₀ E : List ℕ} {at count slots i left scope : ℕ}
    (p : Declaring L R E₀ E at count slots i left scope) where
  pub declaring_end : left ≤ 0 → {q : ℕ} → i ≡ q
      → ToldLocals L R E₀ at (locals (most_of L) count slots (at + 1) (rows_from R at)) (Ok q) E
      × ((next : ℕ) → ◌≡◌ {A = Step} (Ok q) (Ok next) → slots + count ≤ L.slots)
  unfolding locals next_rows
  declaring_end h {q} e =
      let z : left ≡ 0 = omega arith in
      rw (← e) (
        p.told (Ok i) E (rw z (told_nothing {lines = λ (ts : List DeclaredType). length ts} [] refl refl
            p.ready.within p.ready.inside)),
        λ q e. omega (arith, p.sum, p.small, z),
      )

  refused : {E' : List ℕ} (r : Refusal)
      → locals (most_of L) left scope (i + 1) (rows_from R i) ≡ refuse r.number r.line
      → ToldLocals L R E₀ at (locals (most_of L) count slots (at + 1) (rows_from R at)) (Err r) E'
      × ((next : ℕ) → ◌≡◌ {A = Step} (Err r) (Ok next) → slots + count ≤ L.slots)
  refused {E'} r e = (
    p.told (Err r) E' (told_as e (told_refuse r.number r.line)),
    λ q z. absurd cc,
  )

  module _ (h : 0 < left) where
    pub declaring_refused : {E' : List ℕ} {r : Refusal} → row_checked L (i + 1) (rows_from R i) ≡ Err r
        → ToldLocals L R E₀ at (locals (most_of L) count slots (at + 1) (rows_from R at)) (Err r) E'
        × ((next : ℕ) → ◌≡◌ {A = Step} (Err r) (Ok next) → slots + count ≤ L.slots)
    unfolding locals
    declaring_refused {E'} {r} e =
        refused r (locals_here L scope left (i + 1) (rows_from R i) h ∙ next_refused L R i _ e)

    module _ (x : Here L R i) where
      pub declaring_other : {E' : List ℕ} → (get_or R (i * 4) 0 ≡ 86 → ⊥)
          → ToldLocals L R E₀ at (locals (most_of L) count slots (at + 1) (rows_from R at))
          (Err (refusal 3 (i + 1))) E' × ((next : ℕ) → ◌≡◌ {A = Step} (Err (refusal 3 (i + 1))) (Ok next) → slots + count ≤ L.slots)
      unfolding locals require
      declaring_other z =
          refused (refusal 3 (i + 1)) (locals_here L scope left (i + 1) (rows_from R i) h ∙ next_here x _
          ∙ rw (ne_eqb 86 (code x.letter) (λ e. z (sym x.code_is ∙ sym e))))

      module _ (v : get_or R (i * 4) 0 ≡ 86) where
        pub declaring_over : {E' : List ℕ} → L.slots ≤ scope
            → ToldLocals L R E₀ at (locals (most_of L) count slots (at + 1) (rows_from R at))
            (Err (refusal 2 (i + 1))) E'
            × ((next : ℕ) → ◌≡◌ {A = Step} (Err (refusal 2 (i + 1))) (Ok next) → slots + count ≤ L.slots)
        unfolding locals require
        declaring_over o =
            refused (refusal 2 (i + 1)) (locals_here L scope left (i + 1) (rows_from R i) h ∙ next_here x _
            ∙ rw (eq-eqb 86 (code x.letter) (sym v ∙ sym x.code_is), le-ltb scope L.slots o))

        pub declaring_step : There L R i → scope < L.slots → {j k n : ℕ} → j ≡ i + 1 → k ≡ left - 1
            → n ≡ scope + 1 → Declaring L R E₀ (set E i (i + 1)) at count slots j k n
        unfolding locals require next_rows
        declaring_step t o {j} {k} {n} e f g =
            let q : locals (most_of L) left scope (i + 1) (rows_from R i)
            ≡ after (locals (most_of L) (left - 1) (scope + 1) (i + 1 + 1) (rows_from R (i + 1)))
            (λ ts rs. done (type_of_number (get_or R (i * 4 + 1) 0) ∷ ts) rs) =
            locals_here L scope left (i + 1) (rows_from R i) h ∙ next_here x _
            ∙ rw (
              eq-eqb 86 (code x.letter) (sym v ∙ sym x.code_is),
              lt-ltb scope L.slots o,
              add-one scope,
            ) in
            rw (e, f, g) (record {
              ready = ready_at (i + 1) p.ready (length-set E i (i + 1)) (omega (arith, t.0))
                  (omega (arith, t.1));
              sum = omega (arith, p.sum, h);
              small = omega (arith, o);
              told = λ s E' d. p.told s E' (told_as q
                  (told_after ((i + 1) ∷ []) (λ ts. type_of_number (get_or R (i * 4 + 1) 0) ∷ ts)
                  (locals (most_of L) (left - 1) (scope + 1) (i + 1 + 1) (rows_from R (i + 1)))
                  refl refl (λ ts. omega arith) (λ ts. refl) d));
              long = length-set E i (i + 1) ∙ p.long;
            })
