-- The rows of a class's fields, which the table of classes has (`fields_tabled`).
use mathlib.Core.Path.{◌≡◌, refl}
use mathlib.Core.Option.{some}
use mathlib.Core.List.{List, [], ◌∷◌}
use Prim.Native.Nat.{ℕ, suc, ◌+◌, ◌*◌, ◌≤◌}
use native.Mathlib.Omega.{arith}
use lib.ListN.{length, get_or}
use Rattle.language.specs.Lists.{nth, All2, a_nil, a_cons}
use Rattle.language.specs.Tree.{Field, Class}
use Rattle.language.specs.Encoded.{LinesAt}
use Rattle.language.specs.Program.{world}
use Rattle.language.specs.ClassTables.{field_rows, class_width, rows_place}
use Rattle.layout.specs.Found.{FieldHere, all_fields_here}
use Rattle.layout.specs.HeldLaws.{few_fields}
use Rattle.emitters.specs.Writing.{Lent, FieldRows}

tabled : (R T : List ℕ) (fs : List Field) (rs : List ℕ) (at : ℕ) → All2 (FieldHere R) fs rs
    → ((i r : ℕ) → nth rs i ≡ some r → get_or T (at + i) 0 ≡ r) → at + length fs ≤ length T
    → FieldRows R T fs at
unfolding LinesAt nth
tabled R T [] [] at a_nil t l = tt
tabled R T (f ∷ fs) (r ∷ rs) at (a_cons h hs) t l =
    let z : at + 0 ≡ at = omega arith in
    let e : get_or T at 0 ≡ r = rw z at (t 0 r refl) in (
      (omega (arith, l), rw e h.line),
      tabled R T fs rs (at + 1) hs
          (λ i q u. let y : at + 1 + i ≡ at + suc i = omega arith in rw y (t (suc i) q u)) (omega (arith, l)),
    )
tabled R T [] (r ∷ rs) at x6 t l = elim x6 [ ]
tabled R T (f ∷ fs) [] at x5 t l = elim x5 [ ]

pub fields_tabled : {P : List Class} {E R T M C : List ℕ} → Lent P E R T M C → (k : ℕ) → k ≤ length P
    → FieldRows R T ((world P).fields k) (k * class_width + rows_place)
fields_tabled {P} {E} {R} {T} x k l = let h = x.held.headed in
    tabled R T ((world P).fields k) (field_rows P k) (k * 576 + 520) (all_fields_here h.here k)
    (λ i r e. h.classes.rows k i r l e) (omega (arith, h.classes.long, few_fields h k, l))
