-- Laws of the lines before a body: F lines, P lines, X lines, and the method that they head. Assumes nothing.
use mathlib.Core.Path.{◌≡◌, refl, sym, ap, ◌∙◌}
use mathlib.Core.Bool.{Bool, true, false, cond}
use mathlib.Core.List.{List, [], ◌∷◌, ◌++◌, append_assoc}
use mathlib.Core.Option.{none, some}
use Prim.Native.Nat.{ℕ, suc, ◌+◌, ◌-◌, ◌≤◌, ◌<◌}
use native.Mathlib.Omega.{arith}
use borrow.Author.Tests.{lt-ltb, ltb-true, ltb-false}
use lib.Dec.{eqb, ltb}
use lib.ListN.{length, drop, set, length-append}
use lib.Seq.{sets}
use Rattle.language.specs.Limits.{limit_refusal}
use Rattle.language.specs.Lists.{given}
use Rattle.language.specs.Results.{Checked, accept, refuse, require}
use Rattle.language.specs.Rows.{code, F_field, P_parameter, X_effect, Row, Record}
use Rattle.language.specs.Tree.{DeclaredType, type_of_number, Expr, size, Field, Declaration, heading_lines}
use Rattle.language.specs.Tree.{method_lines}
use Rattle.language.specs.Form.{Read, read, done, after, record_on, if_letter, fields, parameters, effects}
use Rattle.language.specs.Form.{body, method}
use Rattle.language.specs.Tables.{next_rows, method_ends}
use Rattle.language.proofs.Tables.{next_rows_long}
use Rattle.language.proofs.Filling.{sets_then}
use Rattle.parsing.specs.declared.limits.Limits.{Limits}
use Rattle.parsing.specs.Columns.{most_of}
use Rattle.parsing.specs.Places.{rows_from, has_code, run}
use Rattle.parsing.specs.Passes.{Step, ToldNode, ToldMethod}
use Rattle.std.specs.Prelude.{Ok, Err}
use Rattle.language.specs.declared.Refusal.{Refusal}
use Rattle.language.specs.Refusals.{refusal}
use Rattle.parsing.proofs.Places.{rows_skip}
use Rattle.parsing.proofs.Passes.{told_as, told_refuse, told_stop, told_close}

-- ---- as many F lines as stand there, and so for X lines

pub fields_run : (L : Limits) (line : ℕ) (rs : List Row)
    → (length (fields (most_of L) line rs).tree ≡ run L 70 line rs)
    × ((fields (most_of L) line rs).rest ≡ drop (run L 70 line rs) rs)
unfolding fields run if_letter
fields_run L line [] = (refl, refl)
fields_run L line (r ∷ rs) = go (record_on (most_of L) line r) (fields_run L (line + 1) rs)
  where
    one : Record → Read (List Field)
    one x = read (record { type = type_of_number x.first; name = x.second } ∷ (fields (most_of L)
        (line + 1) rs).tree) (fields (most_of L) (line + 1) rs).rest

    test : (x : Record) (t : Bool)
        → (length (fields (most_of L) (line + 1) rs).tree ≡ run L 70 (line + 1) rs)
        × ((fields (most_of L) (line + 1) rs).rest ≡ drop (run L 70 (line + 1) rs) rs)
        → (length (given (cond t (some x) none) (read [] (r ∷ rs)) one).tree
        ≡ cond t (suc (run L 70 (line + 1) rs)) 0)
        × ((given (cond t (some x) none) (read [] (r ∷ rs)) one).rest
        ≡ drop (cond t (suc (run L 70 (line + 1) rs)) 0) (r ∷ rs))
    test x true h = (ap suc h.0, h.1)
    test x false h = (refl, refl)

    go : (x : Checked Record)
        → (length (fields (most_of L) (line + 1) rs).tree ≡ run L 70 (line + 1) rs)
        × ((fields (most_of L) (line + 1) rs).rest ≡ drop (run L 70 (line + 1) rs) rs)
        → (length (given (if_letter F_field x) (read [] (r ∷ rs)) one).tree
        ≡ cond (has_code 70 x) (suc (run L 70 (line + 1) rs)) 0)
        × ((given (if_letter F_field x) (read [] (r ∷ rs)) one).rest
        ≡ drop (cond (has_code 70 x) (suc (run L 70 (line + 1) rs)) 0) (r ∷ rs))
    go (accept x) h = test x (eqb 70 (code x.letter)) h
    go (refuse n l) h = (refl, refl)

pub effects_run : (L : Limits) (line : ℕ) (rs : List Row)
    → (length (effects (most_of L) line rs).tree ≡ run L 88 line rs)
    × ((effects (most_of L) line rs).rest ≡ drop (run L 88 line rs) rs)
unfolding effects run if_letter
effects_run L line [] = (refl, refl)
effects_run L line (r ∷ rs) = go (record_on (most_of L) line r) (effects_run L (line + 1) rs)
  where
    one : Record → Read (List ℕ)
    one x = read (x.first ∷ (effects (most_of L) (line + 1) rs).tree)
        (effects (most_of L) (line + 1) rs).rest

    test : (x : Record) (t : Bool)
        → (length (effects (most_of L) (line + 1) rs).tree ≡ run L 88 (line + 1) rs)
        × ((effects (most_of L) (line + 1) rs).rest ≡ drop (run L 88 (line + 1) rs) rs)
        → (length (given (cond t (some x) none) (read [] (r ∷ rs)) one).tree
        ≡ cond t (suc (run L 88 (line + 1) rs)) 0)
        × ((given (cond t (some x) none) (read [] (r ∷ rs)) one).rest
        ≡ drop (cond t (suc (run L 88 (line + 1) rs)) 0) (r ∷ rs))
    test x true h = (ap suc h.0, h.1)
    test x false h = (refl, refl)

    go : (x : Checked Record)
        → (length (effects (most_of L) (line + 1) rs).tree ≡ run L 88 (line + 1) rs)
        × ((effects (most_of L) (line + 1) rs).rest ≡ drop (run L 88 (line + 1) rs) rs)
        → (length (given (if_letter X_effect x) (read [] (r ∷ rs)) one).tree
        ≡ cond (has_code 88 x) (suc (run L 88 (line + 1) rs)) 0)
        × ((given (if_letter X_effect x) (read [] (r ∷ rs)) one).rest
        ≡ drop (cond (has_code 88 x) (suc (run L 88 (line + 1) rs)) 0) (r ∷ rs))
    go (accept x) h = test x (eqb 88 (code x.letter)) h
    go (refuse n l) h = (refl, refl)

-- ---- P lines: as many as stand there, 8 at most

module _ (L : Limits) (n line : ℕ) (r : Row) (rs : List Row) where
  -- what is read of P lines that begin with row r, if it is one
  abbrev parameters_of : Checked Record → Checked (Read (List DeclaredType))
  parameters_of x = given (if_letter P_parameter x) (done [] (r ∷ rs)) λ x.
      require (ltb n 8) limit_refusal line λ _.
      after (parameters (most_of L) (suc n) (line + 1) rs) λ ts rs.
      done (type_of_number x.first ∷ ts) rs

-- P lines that were read, as many as stand there
pub record Parameters (n line : ℕ) (rs : List Row) (k : ℕ) (x : Checked (Read (List DeclaredType))) : Type 0
  where
    pub types : List DeclaredType
    pub many : length types ≡ k
    pub all : x ≡ done types (drop k rs)

pub parameters_fit : (L : Limits) (rs : List Row) (n line : ℕ) → n + run L 80 line rs ≤ 8
    → Parameters n line rs (run L 80 line rs) (parameters (most_of L) n line rs)
unfolding parameters run if_letter require after
parameters_fit L [] n line h = record { types = []; many = refl; all = refl }
parameters_fit L (r ∷ rs) n line h =
    go (record_on (most_of L) line r) h (λ h. parameters_fit L rs (suc n) (line + 1) h)
  where
    test : (x : Record) (t : Bool) → n + cond t (suc (run L 80 (line + 1) rs)) 0 ≤ 8
        → (suc n + run L 80 (line + 1) rs ≤ 8
        → Parameters (suc n) (line + 1) rs (run L 80 (line + 1) rs)
        (parameters (most_of L) (suc n) (line + 1) rs))
        → Parameters n line (r ∷ rs) (cond t (suc (run L 80 (line + 1) rs)) 0)
        (given (cond t (some x) none) (done [] (r ∷ rs)) λ x.
        require (ltb n 8) limit_refusal line λ _.
        after (parameters (most_of L) (suc n) (line + 1) rs) λ ts rs.
        done (type_of_number x.first ∷ ts) rs)
    test x true h ih =
        let i = ih (omega (arith, h)) in
        record {
          types = type_of_number x.first ∷ i.types;
          many = ap suc i.many;
          all = rw (lt-ltb n 8 (omega (arith, h)), i.all);
        }
    test x false h ih = record { types = []; many = refl; all = refl }

    go : (x : Checked Record) → n + cond (has_code 80 x) (suc (run L 80 (line + 1) rs)) 0 ≤ 8
        → (suc n + run L 80 (line + 1) rs ≤ 8
        → Parameters (suc n) (line + 1) rs (run L 80 (line + 1) rs)
        (parameters (most_of L) (suc n) (line + 1) rs))
        → Parameters n line (r ∷ rs) (cond (has_code 80 x) (suc (run L 80 (line + 1) rs)) 0)
        (parameters_of L n line r rs x)
    go (accept x) h ih = test x (eqb 80 (code x.letter)) h ih
    go (refuse m l) h ih = record { types = []; many = refl; all = refl }

pub parameters_over : (L : Limits) (rs : List Row) (n line : ℕ) → n ≤ 8 → 8 < n + run L 80 line rs
    → parameters (most_of L) n line rs ≡ refuse 2 (line + (8 - n))
unfolding parameters run if_letter require after
parameters_over L [] n line w h = absurd (omega (arith, h, w))
parameters_over L (r ∷ rs) n line w h =
    go (record_on (most_of L) line r) h (λ w h. parameters_over L rs (suc n) (line + 1) w h)
  where
    last : (t : Bool) → ltb n 8 ≡ t → (x : Record) → 8 < n + suc (run L 80 (line + 1) rs)
        → (suc n ≤ 8 → 8 < suc n + run L 80 (line + 1) rs
        → parameters (most_of L) (suc n) (line + 1) rs ≡ refuse 2 (line + 1 + (8 - suc n)))
        → require t limit_refusal line
        (λ _. after (parameters (most_of L) (suc n) (line + 1) rs) λ ts rs.
        done (type_of_number x.first ∷ ts) rs) ≡ refuse 2 (line + (8 - n))
    last true q x h ih =
        let k : n < 8 = ltb-true n 8 q in
        let e : line + 1 + (8 - suc n) ≡ line + (8 - n) = omega (arith, k) in
        rw (ih (omega (arith, k)) (omega (arith, h)), e)
    last false q x h ih =
        let k : 8 ≤ n = ltb-false n 8 q in
        let e : line + (8 - n) ≡ line = omega (arith, k) in
        rw e

    test : (x : Record) (t : Bool) → 8 < n + cond t (suc (run L 80 (line + 1) rs)) 0
        → (suc n ≤ 8 → 8 < suc n + run L 80 (line + 1) rs
        → parameters (most_of L) (suc n) (line + 1) rs ≡ refuse 2 (line + 1 + (8 - suc n)))
        → given (cond t (some x) none) (done [] (r ∷ rs)) (λ x.
        require (ltb n 8) limit_refusal line λ _.
        after (parameters (most_of L) (suc n) (line + 1) rs) λ ts rs.
        done (type_of_number x.first ∷ ts) rs) ≡ refuse 2 (line + (8 - n))
    test x true h ih = last (ltb n 8) refl x h ih
    test x false h ih = absurd (omega (arith, h, w))

    go : (x : Checked Record) → 8 < n + cond (has_code 80 x) (suc (run L 80 (line + 1) rs)) 0
        → (suc n ≤ 8 → 8 < suc n + run L 80 (line + 1) rs
        → parameters (most_of L) (suc n) (line + 1) rs ≡ refuse 2 (line + 1 + (8 - suc n)))
        → parameters_of L n line r rs x ≡ refuse 2 (line + (8 - n))
    go (accept x) h ih = test x (eqb 80 (code x.letter)) h ih
    go (refuse m l) h ih = absurd (omega (arith, h, w))

-- ---- a method

-- the method of an M line with what follows it
abbrev declared : Record → List DeclaredType → List ℕ → Expr → Declaration
declared m ts xs e =
    record { result = type_of_number m.first; name = m.second; parameters = ts; effects = xs; body = e }

module _ (L : Limits) (R : List ℕ) (at : ℕ) (x : Record) (a : ℕ)
    (p : a ≡ at + 1 + run L 80 (at + 1 + 1) (rows_from R (at + 1))) where
  pub method_over : {E E' : List ℕ} (k : ℕ) {line : ℕ} → k ≡ a - at - 1 → 8 < k → line ≡ at + 10
      → ToldMethod L R E at (method (most_of L) (at + 1) x (rows_from R (at + 1))) (Err (refusal 2 line)) E'
  unfolding method after
  method_over k {line} j h l =
      let e : at + 1 + 1 + 8 ≡ line = omega arith in
      told_as (rw (
        parameters_over L (rows_from R (at + 1)) 0 (at + 1 + 1) (omega arith)
            (omega (arith, p, j, h)),
        e,
      )) (told_refuse 2 line)

  module _ (k : ℕ) (j : k ≡ a - at - 1) (h : k ≤ 8) (b : ℕ) (q : b ≡ a + run L 88 (a + 1) (rows_from R a))
    where
      pub method_ready : Parameters 0 (at + 1 + 1) (rows_from R (at + 1))
          (run L 80 (at + 1 + 1) (rows_from R (at + 1)))
          (parameters (most_of L) 0 (at + 1 + 1) (rows_from R (at + 1)))
      method_ready = parameters_fit L (rows_from R (at + 1)) 0 (at + 1 + 1) (omega (arith, p, j, h))

      pub method_is : method (most_of L) (at + 1) x (rows_from R (at + 1))
          ≡ after (body (most_of L) (k + 1) (b + 1) (rows_from R b))
          (λ e rs. done (declared x method_ready.types
          (effects (most_of L) (a + 1) (rows_from R a)).tree e) rs)
      unfolding method after
      method_is =
          let t = method_ready in
          let f = effects_run L (a + 1) (rows_from R a) in
          let e₀ : drop (run L 80 (at + 1 + 1) (rows_from R (at + 1))) (rows_from R (at + 1))
          ≡ rows_from R a =
          rows_skip R (at + 1) _ ∙ ap (rows_from R) (sym p) in
          let e₁ : at + 1 + 1 + length t.types ≡ a + 1 = omega (arith, p, t.many) in
          let e₂ : 1 + length t.types ≡ k + 1 = omega (arith, p, t.many, j) in
          let e₃ : a + 1 + length (effects (most_of L) (a + 1) (rows_from R a)).tree ≡ b + 1 =
          omega (arith, q, f.0) in
          let e₄ : (effects (most_of L) (a + 1) (rows_from R a)).rest ≡ rows_from R b = f.1 ∙ rows_skip R a _
          ∙ ap (rows_from R) (sym q) in
          rw (t.all, e₀, e₁, e₂, e₃, e₄)

      pub method_stop : {E E₂ E₃ E₄ : List ℕ} {s : Step} {r : Refusal}
          → ToldNode L R E₂ b (body (most_of L) (k + 1) (b + 1) (rows_from R b)) s E₃ → s ≡ Err r
          → ToldMethod L R E at (method (most_of L) (at + 1) x (rows_from R (at + 1))) (Err r) E₄
      method_stop t e = told_as method_is (told_stop (body (most_of L) (k + 1) (b + 1) (rows_from R b)) _ t e)

      pub method_close : {E E₁ E₂ E₃ : List ℕ} {s : Step} {n : ℕ}
          → E₁ ≡ sets E (at + 1) (next_rows (at + 1) (run L 80 (at + 1 + 1) (rows_from R (at + 1))))
          → E₂ ≡ sets E₁ a (next_rows a (run L 88 (a + 1) (rows_from R a)))
          → ToldNode L R E₂ b (body (most_of L) (k + 1) (b + 1) (rows_from R b)) s E₃ → s ≡ Ok n
          → ToldMethod L R E at (method (most_of L) (at + 1) x (rows_from R (at + 1))) (Ok n) (set E₃ at n)
      unfolding method_lines heading_lines method_ends
      method_close {E} {E₁} {E₂} {E₃} {s} {n} w₁ w₂ t e =
          let m = method_ready in
          let f = effects_run L (a + 1) (rows_from R a) in
          let c = run L 80 (at + 1 + 1) (rows_from R (at + 1)) in
          let d = run L 88 (a + 1) (rows_from R a) in
          let j₁ : length (next_rows (at + 1) c) ≡ c = next_rows_long (at + 1) c in
          let j₂ : length (next_rows a d) ≡ d = next_rows_long a d in
          let g : length (next_rows (at + 1) c ++ next_rows a d) ≡ c + d =
          length-append (next_rows (at + 1) c) (next_rows a d) ∙ omega (arith, j₁, j₂) in
          let i₁ : at + 1 + c ≡ a = omega (arith, p) in
          let i₂ : a + d ≡ b = omega (arith, q) in
          told_as method_is (told_close (next_rows (at + 1) c ++ next_rows a d)
          (λ e. declared x m.types (effects (most_of L) (a + 1) (rows_from R a)).tree e)
          (body (most_of L) (k + 1) (b + 1) (rows_from R b))
          (omega (arith, g, p, q))
          (rw (w₂, w₁) (sets_then E (at + 1) a (next_rows (at + 1) c) (next_rows a d) (omega (arith, p, j₁))))
          (λ y rs z. omega (arith, g, m.many, f.0))
          (λ y rs z. let v : at + (1 + c + d + size y) ≡ at + (1 + (c + d) + size y) = omega arith in
          rw (m.many, f.0, g, i₁, i₂, append_assoc, v))
          t e)
