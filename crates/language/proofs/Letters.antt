-- Laws of letters and their codes. Assumes nothing.
use mathlib.Core.Path.{◌≡◌, refl, sym, ap, ◌∙◌}
use mathlib.Core.Option.{some}
use mathlib.Core.Bool.{Bool, true, false}
use mathlib.Core.List.{List, [], ◌∷◌}
use Prim.Native.Nat.{ℕ}
use native.Mathlib.Omega.{arith}
use borrow.Author.Tests.{eqb-true}
use lib.Dec.{eqb}
use Rattle.language.specs.Alphabet.{Laws, ours}
use Rattle.language.specs.Lists.{choice, inj}
use Rattle.language.specs.Rows.{Letter, letters, code, letter_among}
use Rattle.language.specs.Rows.{C_class, F_field, M_method, P_parameter, X_effect, S_start, B_block}
use Rattle.language.specs.Rows.{V_local, T_true, L_false, N_null, I_slot, Z_is_null, G_get, K_cast}
use Rattle.language.specs.Rows.{W_new, R_change, A_assign, U_set, Q_call, J_choose}

-- a letter found for a code has that code
pub among_code : (ls : List Letter) (n : ℕ) (l : Letter) → letter_among ls n ≡ some l → code l ≡ n
unfolding letter_among
among_code [] n l e = absurd (let z : ◌≡◌ {A = ℕ} 0 1 = cc in omega arith)
among_code (m ∷ ms) n l e = go (eqb (code m) n) refl e (λ e'. among_code ms n l e')
  where
    go : (t : Bool) → eqb (code m) n ≡ t → choice t (λ _. some m) (λ _. letter_among ms n) ≡ some l
        → (letter_among ms n ≡ some l → code l ≡ n) → code l ≡ n
    go true q e ih = let h : m ≡ l = cc in rw (← h) (eqb-true (code m) n q)
    go false q e ih = ih e

-- each letter is found by its code
pub code_among : (l : Letter) → letter_among letters (code l) ≡ some l
unfolding letter_among
code_among C_class = refl
code_among F_field = refl
code_among M_method = refl
code_among P_parameter = refl
code_among X_effect = refl
code_among S_start = refl
code_among B_block = refl
code_among V_local = refl
code_among T_true = refl
code_among L_false = refl
code_among N_null = refl
code_among I_slot = refl
code_among Z_is_null = refl
code_among G_get = refl
code_among K_cast = refl
code_among W_new = refl
code_among R_change = refl
code_among A_assign = refl
code_among U_set = refl
code_among Q_call = refl
code_among J_choose = refl

-- a code is one letter's alone
pub code_injective : (l m : Letter) → code l ≡ code m → l ≡ m
code_injective l m e = inj (sym (code_among l) ∙ ap (letter_among letters) e ∙ code_among m)

-- our own alphabet has both laws
pub our_laws : Laws ours
our_laws = record { letter_of_byte = code_among; byte_of_letter = among_code letters }
