-- Laws of rows by place: what a row tells of the record that stands there. Assumes nothing.
use mathlib.Core.Path.{◌≡◌, refl, sym, ap, ◌∙◌}
use mathlib.Core.Option.{Option, none, some}
use mathlib.Core.Bool.{Bool, true, false, false≢true, cond}
use mathlib.Core.List.{List, [], ◌∷◌}
use Prim.Native.Nat.{ℕ, zero, suc, ◌+◌, ◌*◌, ◌≤◌, ◌<◌}
use native.Mathlib.Omega.{arith}
use borrow.Author.Tests.{eqb-true, eqb-false, eq-eqb, ne_eqb, le-leb, lt-leb, leb-true}
use lib.Dec.{eqb, leb}
use lib.ListN.{length, get_or, drop, drop_of_length-le}
use lib.Seq.{drop-cons, drop-nil, drop-drop}
use Rattle.language.specs.Limits.{line_refusal, limit_refusal, largest}
use Rattle.language.specs.Lists.{given, bind_option, inj}
use Rattle.language.specs.Results.{Checked, accept, refuse, bind_checked, need_checked, require}
use Rattle.language.specs.Rows.{Letter, letters, code, numbers, letter_among, name_of, most_at, well_made}
use Rattle.language.specs.Rows.{Record, written, Row, row, rows_of, record_of, is_row, C_class, F_field}
use Rattle.language.specs.Rows.{M_method, P_parameter, X_effect, S_start, B_block, V_local, T_true, L_false}
use Rattle.language.specs.Rows.{N_null, I_slot, Z_is_null, G_get, K_cast, W_new, R_change, A_assign, U_set}
use Rattle.language.specs.Rows.{Q_call, J_choose}
use Rattle.language.specs.Form.{record_on, next}
use Rattle.language.proofs.Letters.{among_code}
use Rattle.parsing.specs.declared.limits.Limits.{Limits}
use Rattle.parsing.specs.Columns.{most_of}
use Rattle.parsing.specs.Places.{rows_from, row_at, row_checked, standing, name_at}
use Rattle.parsing.specs.Places.{parts_of, parts_at, There}
use Rattle.parsing.specs.declared.nodes.Parts.{Parts}
use Rattle.std.specs.Prelude as std
use Rattle.std.specs.Prelude.{None, Some, Result, Ok, Err}
use Rattle.language.specs.declared.Refusal.{Refusal}
use Rattle.language.specs.Refusals.{refusal}
use Rattle.language.proofs.Refusals.{result_ok, result_err}
use Rattle.language.proofs.Booleans.{and_inv}

-- ---- rows from a place on

pub rows_here : (R : List ℕ) (at : ℕ) → at * 4 + 4 ≤ length R
    → rows_from R at ≡ row_at R at ∷ rows_from R (at + 1)
unfolding rows_from rows_of
rows_here R at h =
    let e₁ : at * 4 + 1 ≡ suc (at * 4) = omega arith in
    let e₂ : at * 4 + 2 ≡ suc (suc (at * 4)) = omega arith in
    let e₃ : at * 4 + 3 ≡ suc (suc (suc (at * 4))) = omega arith in
    let e₄ : (at + 1) * 4 ≡ suc (suc (suc (suc (at * 4)))) = omega arith in
    rw (
      e₁,
      e₂,
      e₃,
      e₄,
      drop-cons R (at * 4) 0 (omega arith),
      drop-cons R (suc (at * 4)) 0 (omega arith),
      drop-cons R (suc (suc (at * 4))) 0 (omega arith),
      drop-cons R (suc (suc (suc (at * 4)))) 0 (omega arith),
    )

pub rows_end : (R : List ℕ) (at : ℕ) → length R ≤ at * 4 → rows_from R at ≡ []
unfolding rows_from rows_of
rows_end R at h = rw (drop_of_length-le R h)

rows_drop : (n : ℕ) (xs : List ℕ) → drop n (rows_of xs) ≡ rows_of (drop (n * 4) xs)
unfolding rows_of
rows_drop zero xs = refl
rows_drop (suc n) [] = rw (drop-nil (suc n * 4))
rows_drop (suc n) (a ∷ []) = let e : suc n * 4 ≡ suc (suc (suc (suc (n * 4)))) = omega arith in rw e
rows_drop (suc n) (a ∷ b ∷ []) = let e : suc n * 4 ≡ suc (suc (suc (suc (n * 4)))) = omega arith in rw e
rows_drop (suc n) (a ∷ b ∷ c ∷ []) = let e : suc n * 4 ≡ suc (suc (suc (suc (n * 4)))) = omega arith in rw e
rows_drop (suc n) (a ∷ b ∷ c ∷ d ∷ xs) = let e : suc n * 4 ≡ suc (suc (suc (suc (n * 4)))) = omega arith in
    rw e (rows_drop n xs)

pub rows_skip : (R : List ℕ) (at n : ℕ) → drop n (rows_from R at) ≡ rows_from R (at + n)
unfolding rows_from
rows_skip R at n =
    let e : (at + n) * 4 ≡ at * 4 + n * 4 = omega arith in
    rows_drop n (drop (at * 4) R) ∙ rw (e, drop-drop (n * 4) (at * 4) R)

pub rows_start : (R : List ℕ) → rows_from R 0 ≡ rows_of R
unfolding rows_from
rows_start R = refl

-- ---- the record of a row

-- a row that is not malformed
pub record Known (n a b c : ℕ) : Type 0 where
  pub letter : Letter
  pub found : letter_among letters n ≡ some letter
  pub record_is : record_of (row n a b c) ≡ some (written letter a b)
  pub first_small : a ≤ 65535
  pub second_small : b ≤ 65535

in_largest : (t : Bool) (a : ℕ) → leb a (cond t largest 0) ≡ true → a ≤ 65535
in_largest true a e = leb-true a 65535 e
in_largest false a e = omega (arith, leb-true a 0 e)

module _ (n a b c : ℕ) where
  pub known : is_row (row n a b c) ≡ true → Known n a b c
  unfolding record_of
  known e = go (letter_among letters n) refl e
    where
      made : (l : Letter) → letter_among letters n ≡ some l → (t : Bool) → well_made l (row n a b c) ≡ t
          → given (cond t (some (written l a b)) none) false (λ _. true) ≡ true → Known n a b c
      made l q true w e = record {
        letter = l;
        found = q;
        record_is = rw (q, w);
        first_small = in_largest (leb 1 (numbers l)) a (and_inv (leb a (most_at 1 l)) _ w).0;
        second_small = in_largest (leb 2 (numbers l)) b
            (and_inv (leb b (most_at 2 l)) _ (and_inv (leb a (most_at 1 l)) _ w).1).0;
      }
      made l q false w e = absurd (false≢true e)

      go : (o : Option Letter) → letter_among letters n ≡ o
          → given (bind_option o (λ l. cond (well_made l (row n a b c)) (some (written l a b)) none)) false
          (λ _. true) ≡ true → Known n a b c
      go none q e = absurd (false≢true e)
      go (some l) q e = made l q (well_made l (row n a b c)) refl e

  unknown : is_row (row n a b c) ≡ false → record_of (row n a b c) ≡ none
  unknown e = go (record_of (row n a b c)) refl e
    where
      go : (o : Option Record) → record_of (row n a b c) ≡ o → given o false (λ _. true) ≡ false
          → record_of (row n a b c) ≡ none
      go none q e = q
      go (some x) q e = absurd (false≢true (sym e))

-- ---- why no record can be taken

pub row_past : (L : Limits) (R : List ℕ) (at : ℕ) → length R ≤ at * 4
    → Err (refusal 3 (at + 1)) ≡ row_checked L (at + 1) (rows_from R at)
unfolding row_checked
row_past L R at h = rw (rows_end R at h)

module _ (L : Limits) (R : List ℕ) (at : ℕ) (h : at * 4 + 4 ≤ length R) where
  pub row_malformed : is_row (row_at R at) ≡ false
      → Err (refusal 1 (at + 1)) ≡ row_checked L (at + 1) (rows_from R at)
  unfolding row_checked record_on need_checked
  row_malformed e =
      rw (
        rows_here R at h,
        unknown (get_or R (at * 4) 0) (get_or R (at * 4 + 1) 0) (get_or R (at * 4 + 2) 0) (get_or R (at * 4 + 3) 0) e,
      )

  module _ (e : is_row (row_at R at) ≡ true) where
    known-here : Known (get_or R (at * 4) 0) (get_or R (at * 4 + 1) 0) (get_or R (at * 4 + 2) 0)
        (get_or R (at * 4 + 3) 0)
    known-here = known (get_or R (at * 4) 0) (get_or R (at * 4 + 1) 0) (get_or R (at * 4 + 2) 0)
        (get_or R (at * 4 + 3) 0) e

    pub row_over : L.rows ≤ at → Err (refusal 2 (at + 1)) ≡ row_checked L (at + 1) (rows_from R at)
    unfolding row_checked record_on need_checked require
    row_over o = rw (rows_here R at h, known-here.record_is, lt-leb (at + 1) L.rows (omega arith))

    name-here : name_at (get_or R (at * 4) 0) (get_or R (at * 4 + 1) 0) (get_or R (at * 4 + 2) 0)
        ≡ name_of known-here.letter (get_or R (at * 4 + 1) 0) (get_or R (at * 4 + 2) 0)
    unfolding name_at
    name-here = rw known-here.found

    pub row_named : at < L.rows
        → 255 < name_at (get_or R (at * 4) 0) (get_or R (at * 4 + 1) 0) (get_or R (at * 4 + 2) 0)
        → Err (refusal 2 (at + 1)) ≡ row_checked L (at + 1) (rows_from R at)
    unfolding row_checked record_on need_checked require
    row_named o w =
        rw (
          rows_here R at h,
          known-here.record_is,
          le-leb (at + 1) L.rows (omega arith),
          lt-leb (name_of known-here.letter (get_or R (at * 4 + 1) 0) (get_or R (at * 4 + 2) 0)) 255
              (rw name-here at w),
        )

    taken_here : at < L.rows
        → name_at (get_or R (at * 4) 0) (get_or R (at * 4 + 1) 0) (get_or R (at * 4 + 2) 0) ≤ 255
        → record_on (most_of L) (at + 1) (row_at R at)
        ≡ accept (written known-here.letter (get_or R (at * 4 + 1) 0) (get_or R (at * 4 + 2) 0))
    unfolding record_on need_checked require
    taken_here o w =
        rw (
          known-here.record_is,
          le-leb (at + 1) L.rows (omega arith),
          le-leb (name_of known-here.letter (get_or R (at * 4 + 1) 0) (get_or R (at * 4 + 2) 0)) 255
              (rw name-here at w),
        )

    pub row_taken : at < L.rows
        → name_at (get_or R (at * 4) 0) (get_or R (at * 4 + 1) 0) (get_or R (at * 4 + 2) 0) ≤ 255
        → Ok tt ≡ row_checked L (at + 1) (rows_from R at)
    unfolding row_checked
    row_taken o w = rw (rows_here R at h, taken_here o w)

-- a record that can be taken
pub record Here (L : Limits) (R : List ℕ) (at : ℕ) : Type 0 where
  pub letter : Letter
  pub code_is : code letter ≡ get_or R (at * 4) 0
  pub found : letter_among letters (get_or R (at * 4) 0) ≡ some letter
  pub taken : record_on (most_of L) (at + 1) (row_at R at)
      ≡ accept (written letter (get_or R (at * 4 + 1) 0) (get_or R (at * 4 + 2) 0))
  pub rows : rows_from R at ≡ row_at R at ∷ rows_from R (at + 1)
  pub first_small : get_or R (at * 4 + 1) 0 ≤ 65535
  pub second_small : get_or R (at * 4 + 2) 0 ≤ 65535

-- an accepted record comes of a row that is not malformed
module _ (L : Limits) (line : ℕ) (r : Row) where
  record_row : (x : Record) → record_on (most_of L) line r ≡ accept x
      → (is_row r ≡ true) × (record_of r ≡ some x)
  unfolding record_on need_checked require
  record_row x e = go (record_of r) refl e
    where
      tail : (y : Record) (s t : Bool)
          → require s limit_refusal line (λ _. require t limit_refusal line (λ _. accept y)) ≡ accept x
          → y ≡ x
      tail y true true e = cc
      tail y true false e = let z : ◌≡◌ {A = ℕ} 0 1 = cc in absurd (omega arith)
      tail y false t e = let z : ◌≡◌ {A = ℕ} 0 1 = cc in absurd (omega arith)

      go : (o : Option Record) → record_of r ≡ o
          → need_checked o line_refusal line
          (λ x. require (leb line L.rows) limit_refusal line
          (λ _. require (leb (name_of x.letter x.first x.second) 255) limit_refusal line
          (λ _. accept x))) ≡ accept x → (is_row r ≡ true) × (record_of r ≡ some x)
      go none q e = let z : ◌≡◌ {A = ℕ} 0 1 = cc in absurd (omega arith)
      go (some y) q e = let p =
          tail y (leb line L.rows) (leb (name_of y.letter y.first y.second) 255) e in
          (rw q, rw (q, p))

pub here : {L : Limits} (R : List ℕ) (at : ℕ) → row_checked L (at + 1) (rows_from R at) ≡ Ok tt
    → There L R at → Here L R at
unfolding row_checked
here {L} R at z t =
    let q = rows_here R at t.1 in
    let w = result_ok (λ _. tt) (record_on (most_of L) (at + 1) (row_at R at)) (rw q at z) in
    go w.a w.is
  where
    go : (x : Record) → record_on (most_of L) (at + 1) (row_at R at) ≡ accept x → Here L R at
    go x e =
        let p = record_row L (at + 1) (row_at R at) x e in
        let k = known (get_or R (at * 4) 0) (get_or R (at * 4 + 1) 0) (get_or R (at * 4 + 2) 0)
        (get_or R (at * 4 + 3) 0) p.0 in
        let s : x ≡ written k.letter (get_or R (at * 4 + 1) 0) (get_or R (at * 4 + 2) 0) =
        inj (sym p.1 ∙ k.record_is) in
        record {
          letter = k.letter;
          code_is = among_code letters (get_or R (at * 4) 0) k.letter k.found;
          found = k.found;
          taken = e ∙ ap (λ (y : Record). accept y) s;
          rows = rows_here R at t.1;
          first_small = k.first_small;
          second_small = k.second_small;
        }

-- a record that must stand here and cannot be taken
pub next_refused : (L : Limits) {B : Type 0} (R : List ℕ) (at : ℕ) {r : Refusal}
    (k : Record → List Row → Checked B)
    → row_checked L (at + 1) (rows_from R at) ≡ Err r
    → next (most_of L) (at + 1) (rows_from R at) k ≡ refuse r.number r.line
unfolding row_checked next bind_checked
next_refused L {B} R at {r} k e = go (rows_from R at) e
  where
    go : (rs : List Row) → row_checked L (at + 1) rs ≡ Err r
        → next (most_of L) (at + 1) rs k ≡ refuse r.number r.line
    go [] e = let p : refusal 3 (at + 1) ≡ r = cc in ap (λ (r : Refusal). refuse r.number r.line) p
    go (x ∷ rs) e = rw (result_err (λ _. tt) (record_on (most_of L) (at + 1) x) r e)

module _ {L : Limits} {R : List ℕ} {at : ℕ} (x : Here L R at) where
  pub next_here : {B : Type 0} (k : Record → List Row → Checked B)
      → next (most_of L) (at + 1) (rows_from R at) k
      ≡ k (written x.letter (get_or R (at * 4 + 1) 0) (get_or R (at * 4 + 2) 0)) (rows_from R (at + 1))
  unfolding next bind_checked
  next_here k = rw (x.rows, x.taken)

  pub standing_here : (n : ℕ) → standing L n (at + 1) (rows_from R at) ≡ eqb n (get_or R (at * 4) 0)
  unfolding standing
  standing_here n = rw (x.rows, x.taken, x.code_is)

pub standing_refused : (L : Limits) (R : List ℕ) (at m : ℕ) {r : Refusal}
    → row_checked L (at + 1) (rows_from R at) ≡ Err r → false ≡ standing L m (at + 1) (rows_from R at)
unfolding row_checked standing
standing_refused L R at m {r} e = go (rows_from R at) e
  where
    go : (rs : List Row) → row_checked L (at + 1) rs ≡ Err r → false ≡ standing L m (at + 1) rs
    go [] e = refl
    go (x ∷ rs) e = rw (result_err (λ _. tt) (record_on (most_of L) (at + 1) x) r e)

-- ---- names and parts: letters that have none

nameless : (l : Letter) (a b : ℕ) → (code l ≡ 70 → ⊥) → (code l ≡ 77 → ⊥) → (code l ≡ 71 → ⊥)
    → (code l ≡ 85 → ⊥) → (code l ≡ 81 → ⊥) → name_of l a b ≡ 0
nameless C_class a b h70 h77 h71 h85 h81 = refl
nameless F_field a b h70 h77 h71 h85 h81 = absurd (h70 refl)
nameless M_method a b h70 h77 h71 h85 h81 = absurd (h77 refl)
nameless P_parameter a b h70 h77 h71 h85 h81 = refl
nameless X_effect a b h70 h77 h71 h85 h81 = refl
nameless S_start a b h70 h77 h71 h85 h81 = refl
nameless B_block a b h70 h77 h71 h85 h81 = refl
nameless V_local a b h70 h77 h71 h85 h81 = refl
nameless T_true a b h70 h77 h71 h85 h81 = refl
nameless L_false a b h70 h77 h71 h85 h81 = refl
nameless N_null a b h70 h77 h71 h85 h81 = refl
nameless I_slot a b h70 h77 h71 h85 h81 = refl
nameless Z_is_null a b h70 h77 h71 h85 h81 = refl
nameless G_get a b h70 h77 h71 h85 h81 = absurd (h71 refl)
nameless K_cast a b h70 h77 h71 h85 h81 = refl
nameless W_new a b h70 h77 h71 h85 h81 = refl
nameless R_change a b h70 h77 h71 h85 h81 = refl
nameless A_assign a b h70 h77 h71 h85 h81 = refl
nameless U_set a b h70 h77 h71 h85 h81 = absurd (h85 refl)
nameless Q_call a b h70 h77 h71 h85 h81 = absurd (h81 refl)
nameless J_choose a b h70 h77 h71 h85 h81 = refl

pub name_other : (n a b : ℕ) → (n ≡ 70 → ⊥) → (n ≡ 77 → ⊥) → (n ≡ 71 → ⊥) → (n ≡ 85 → ⊥) → (n ≡ 81 → ⊥)
    → 0 ≡ name_at n a b
unfolding name_at
name_other n a b h70 h77 h71 h85 h81 = go (letter_among letters n) refl
  where
    go : (o : Option Letter) → letter_among letters n ≡ o → 0 ≡ given o 0 (λ l. name_of l a b)
    go none e = refl
    go (some l) e = let q = among_code letters n l e in
        sym (nameless l a b (λ z. h70 (sym q ∙ z)) (λ z. h77 (sym q ∙ z)) (λ z. h71 (sym q ∙ z))
        (λ z. h85 (sym q ∙ z)) (λ z. h81 (sym q ∙ z)))

partless : (l : Letter) (a b : ℕ) → (code l ≡ 84 → ⊥) → (code l ≡ 76 → ⊥) → (code l ≡ 78 → ⊥)
    → (code l ≡ 73 → ⊥) → (code l ≡ 87 → ⊥) → (code l ≡ 82 → ⊥) → (code l ≡ 90 → ⊥) → (code l ≡ 71 → ⊥)
    → (code l ≡ 75 → ⊥) → (code l ≡ 65 → ⊥) → (code l ≡ 85 → ⊥) → (code l ≡ 74 → ⊥) → (code l ≡ 81 → ⊥)
    → (code l ≡ 66 → ⊥) → parts_of l a b ≡ None
partless C_class a b h84 h76 h78 h73 h87 h82 h90 h71 h75 h65 h85 h74 h81 h66 = refl
partless F_field a b h84 h76 h78 h73 h87 h82 h90 h71 h75 h65 h85 h74 h81 h66 = refl
partless M_method a b h84 h76 h78 h73 h87 h82 h90 h71 h75 h65 h85 h74 h81 h66 = refl
partless P_parameter a b h84 h76 h78 h73 h87 h82 h90 h71 h75 h65 h85 h74 h81 h66 = refl
partless X_effect a b h84 h76 h78 h73 h87 h82 h90 h71 h75 h65 h85 h74 h81 h66 = refl
partless S_start a b h84 h76 h78 h73 h87 h82 h90 h71 h75 h65 h85 h74 h81 h66 = refl
partless B_block a b h84 h76 h78 h73 h87 h82 h90 h71 h75 h65 h85 h74 h81 h66 = absurd (h66 refl)
partless V_local a b h84 h76 h78 h73 h87 h82 h90 h71 h75 h65 h85 h74 h81 h66 = refl
partless T_true a b h84 h76 h78 h73 h87 h82 h90 h71 h75 h65 h85 h74 h81 h66 = absurd (h84 refl)
partless L_false a b h84 h76 h78 h73 h87 h82 h90 h71 h75 h65 h85 h74 h81 h66 = absurd (h76 refl)
partless N_null a b h84 h76 h78 h73 h87 h82 h90 h71 h75 h65 h85 h74 h81 h66 = absurd (h78 refl)
partless I_slot a b h84 h76 h78 h73 h87 h82 h90 h71 h75 h65 h85 h74 h81 h66 = absurd (h73 refl)
partless Z_is_null a b h84 h76 h78 h73 h87 h82 h90 h71 h75 h65 h85 h74 h81 h66 = absurd (h90 refl)
partless G_get a b h84 h76 h78 h73 h87 h82 h90 h71 h75 h65 h85 h74 h81 h66 = absurd (h71 refl)
partless K_cast a b h84 h76 h78 h73 h87 h82 h90 h71 h75 h65 h85 h74 h81 h66 = absurd (h75 refl)
partless W_new a b h84 h76 h78 h73 h87 h82 h90 h71 h75 h65 h85 h74 h81 h66 = absurd (h87 refl)
partless R_change a b h84 h76 h78 h73 h87 h82 h90 h71 h75 h65 h85 h74 h81 h66 = absurd (h82 refl)
partless A_assign a b h84 h76 h78 h73 h87 h82 h90 h71 h75 h65 h85 h74 h81 h66 = absurd (h65 refl)
partless U_set a b h84 h76 h78 h73 h87 h82 h90 h71 h75 h65 h85 h74 h81 h66 = absurd (h85 refl)
partless Q_call a b h84 h76 h78 h73 h87 h82 h90 h71 h75 h65 h85 h74 h81 h66 = absurd (h81 refl)
partless J_choose a b h84 h76 h78 h73 h87 h82 h90 h71 h75 h65 h85 h74 h81 h66 = absurd (h74 refl)

pub parts_other : (n a b : ℕ) → (n ≡ 84 → ⊥) → (n ≡ 76 → ⊥) → (n ≡ 78 → ⊥) → (n ≡ 73 → ⊥) → (n ≡ 87 → ⊥)
    → (n ≡ 82 → ⊥) → (n ≡ 90 → ⊥) → (n ≡ 71 → ⊥) → (n ≡ 75 → ⊥) → (n ≡ 65 → ⊥) → (n ≡ 85 → ⊥) → (n ≡ 74 → ⊥)
    → (n ≡ 81 → ⊥) → (n ≡ 66 → ⊥) → None ≡ parts_at n a b
unfolding parts_at
parts_other n a b h84 h76 h78 h73 h87 h82 h90 h71 h75 h65 h85 h74 h81 h66 = go (letter_among letters n) refl
  where
    go : (o : Option Letter) → letter_among letters n ≡ o → ◌≡◌ {A = std.Option Parts} None (given o None (λ l. parts_of l a b))
    go none e = refl
    go (some l) e = let q = among_code letters n l e in
        sym (partless l a b (λ z. h84 (sym q ∙ z)) (λ z. h76 (sym q ∙ z)) (λ z. h78 (sym q ∙ z))
        (λ z. h73 (sym q ∙ z)) (λ z. h87 (sym q ∙ z)) (λ z. h82 (sym q ∙ z)) (λ z. h90 (sym q ∙ z))
        (λ z. h71 (sym q ∙ z)) (λ z. h75 (sym q ∙ z)) (λ z. h65 (sym q ∙ z)) (λ z. h85 (sym q ∙ z))
        (λ z. h74 (sym q ∙ z)) (λ z. h81 (sym q ∙ z)) (λ z. h66 (sym q ∙ z)))

-- the parts of equal numbers
pub parts_same : {c a b c' a' b' : ℕ} → c ≡ c' → a ≡ a' → b ≡ b' → parts_at c a b ≡ parts_at c' a' b'
parts_same p q r = rw (p, q, r)

-- a test of equality, turned round
pub eqb_turn : {a c : ℕ} (b : ℕ) → a ≡ c → eqb a b ≡ eqb b c
eqb_turn {a} b p = rw (← p) (go (eqb a b) refl)
  where
    go : (t : Bool) → eqb a b ≡ t → t ≡ eqb b a
    go true e = sym (eq-eqb b a (sym (eqb-true a b e)))
    go false e = sym (ne_eqb b a (λ z. eqb-false a b e (sym z)))
