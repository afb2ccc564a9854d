-- Laws of writing numbers from a place on, step by step. Assumes nothing.
use mathlib.Core.Path.{◌≡◌, refl, sym, ap, ◌∙◌}
use mathlib.Core.List.{List, [], ◌∷◌, ◌++◌}
use mathlib.Core.Logic.{◌⊎◌, inl, inr}
use Prim.Native.Nat.{ℕ, suc, ◌+◌, ◌*◌, ◌≤◌, ◌<◌}
use native.Mathlib.Omega.{arith}
use lib.ListN.{length, get_or, take, drop, length-append}
use lib.Seq.{sets, sets-eq, set_out, length-sets, length-take-le, take_all}
use borrow.Rule.Slice.PartMut.{put_mid}
use Rattle.std.proofs.lemmas.List.{take-append-drop, drop_more, drop_all}
use Rattle.std.proofs.lemmas.Slice.{put_mid-paste}
use Rattle.std.proofs.lemmas.Grind.{common_steps}
use Rattle.language.proofs.Filling.{sets_then}
use Rattle.emitters.specs.Lines.{all_numbers}
use Rattle.emitters.specs.Writing.{Written}

-- numbers past the end of a buffer are not written
pub put_past : (O xs : List ℕ) (place : ℕ) → length O ≤ place → sets O place xs ≡ O
put_past O [] place h = refl
put_past O (x ∷ xs) place h = rw (set_out O place x h) (put_past O xs (suc place) (omega (arith, h)))

-- as many numbers copied as there are, or as there is room for
pub put_room : (O xs ys : List ℕ) (place n k : ℕ) → ys ≡ take n xs → k ≡ n → place + n ≤ length O → n ≤ length xs
    → (length xs ≤ n) ⊎ (length O ≤ place + n) → put_mid place k O ys ≡ sets O place xs
put_room O xs ys place n k y e h l d =
    let z : length ys ≡ n = ap length y ∙ length-take-le n xs l in
    let q = sets-eq ys O place (omega (arith, z, h)) in
    let r = rw z at q in
    put_mid-paste place k O ys ys n refl (sym e) (sym z)
    ∙ ap (λ (v : List ℕ). take place O ++ v ++ drop (place + n) O) (take_all n ys (omega (arith, z)))
    ∙ sym r
    ∙ ap (λ (v : List ℕ). sets O place v) y
    ∙ elim d [
      | inl g ↦ ap (λ (v : List ℕ). sets O place v) (take_all n xs g)
      | inr g ↦
          sym (put_past (sets O place (take n xs)) (drop n xs) (place + n)
          (omega (arith, length-sets O place (take n xs), g)))
          ∙ sets_then O place (place + n) (take n xs) (drop n xs) (omega (arith, length-take-le n xs l))
          ∙ ap (λ (v : List ℕ). sets O place v) (take-append-drop n xs)
    ]

-- nothing written, and one list after another
pub written_none : {O : List ℕ} {place : ℕ} → Written [] O O place place
written_none = record { content = refl; ended = omega arith }

pub written_then : {xs ys O O₁ O₂ : List ℕ} {p q r : ℕ} → Written xs O O₁ p q → Written ys O₁ O₂ q r
    → Written (xs ++ ys) O O₂ p r
written_then {xs} {ys} {O} {O₁} {O₂} {p} {q} {r} a b = record {
  content = b.content ∙ ap (λ (l : List ℕ). sets l q ys) a.content ∙ sets_then O p q xs ys a.ended;
  ended = b.ended ∙ omega (arith, a.ended, length-append xs ys);
}

pub written_as : {xs ys O O' : List ℕ} {p q : ℕ} → Written xs O O' p q → xs ≡ ys → Written ys O O' p q
written_as w e = rw e at w

-- the buffer's length stays
pub written_long : {xs O O' : List ℕ} {p q : ℕ} → Written xs O O' p q → length O' ≡ length O
written_long {xs} {O} {O'} {p} w = ap length w.content ∙ length-sets O p xs

-- lines of four numbers one after another, the first i of them written: the others, written where these end, complete the whole
pub record Putting (O O' : List ℕ) (lines : List (List ℕ)) (place i end : ℕ) : Type 0 where
  pub whole : sets O' end (all_numbers (drop i lines)) ≡ sets O place (all_numbers lines)
  pub ended : end ≡ place + 4 * i

pub putting_start : {O : List ℕ} {lines : List (List ℕ)} {place : ℕ} → Putting O O lines place 0 place
putting_start = record { whole = refl; ended = omega arith }

four_numbers : (xs : List ℕ) → length xs ≡ 4 → get_or xs 0 0 ∷ get_or xs 1 0 ∷ get_or xs 2 0 ∷ get_or xs 3 0 ∷ [] ≡ xs
four_numbers xs e = grind (arith, common_steps)

pub putting_step : {O O' O'' : List ℕ} {lines : List (List ℕ)} {place i end : ℕ} → Putting O O' lines place i end
    → i < length lines → length (get_or lines i []) ≡ 4
    → O'' ≡ sets O' end (get_or (get_or lines i []) 0 0 ∷ get_or (get_or lines i []) 1 0 ∷ get_or (get_or lines i []) 2 0
    ∷ get_or (get_or lines i []) 3 0 ∷ [])
    → Putting O O'' lines place (i + 1) (end + 4)
putting_step {O' = O'} {O'' = O''} {lines = lines} {i = i} {end = end} p h l e =
    let line = get_or lines i [] in
    let rest = all_numbers (drop (i + 1) lines) in
    record {
      whole = ap (λ (w : List ℕ). sets w (end + 4) rest) (e ∙ ap (λ (w : List ℕ). sets O' end w) (four_numbers line l))
          ∙ sets_then O' end (end + 4) line rest (omega (arith, l))
          ∙ ap (λ (w : List (List ℕ)). sets O' end (all_numbers w)) (sym (drop_more lines i [] h))
          ∙ p.whole;
      ended = omega (arith, p.ended);
    }

pub putting_end : {O O' : List ℕ} {lines : List (List ℕ)} {place i end : ℕ} → Putting O O' lines place i end
    → length lines ≤ i → O' ≡ sets O place (all_numbers lines)
putting_end {O' = O'} {lines = lines} {i = i} {end = end} p h =
    ap (λ (w : List (List ℕ)). sets O' end (all_numbers w)) (sym (drop_all i lines h)) ∙ p.whole
