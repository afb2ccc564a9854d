-- The numbers of the plain lines for which no child is translated, four to a line: of types, of fields, of slots read, of W and of R.
use Rattle.std.specs.Prelude.{ℕ, zero, suc, ◌+◌, cond, List, [], ◌∷◌, ◌++◌, eqb, length}
use Rattle.std.specs.List.{flat_map}
use Rattle.language.specs.Limits.{bool_number, identity_class, imp_field, id_field}
use Rattle.language.specs.Rows.{V_local, code, F_field, G_get, B_block, N_null, I_slot, Z_is_null, K_cast}
use Rattle.language.specs.Rows.{W_new, A_assign, U_set, J_choose}
use Rattle.language.specs.Tree.{DeclaredType, type_number, Field}

-- More numbers than any translation has.
abbrev pub most_numbers : ℕ
most_numbers = 1000000

-- The numbers of lines.
abbrev pub all_numbers : List (List ℕ) → List ℕ
all_numbers = flat_map (λ r. r)

-- A type's number in a plain program.
abbrev pub plain_number : ℕ → ℕ
plain_number n = cond (eqb n bool_number) bool_number identity_class

-- Lines of a letter's code, one for each type.
unfoldable pub type_lines : ℕ → List DeclaredType → List ℕ
type_lines l ts = flat_map (λ t. l ∷ plain_number (type_number t) ∷ 0 ∷ 0 ∷ []) ts

-- F lines of plain types.
unfoldable pub field_lines : List Field → List ℕ
field_lines fs =
    flat_map (λ (f : Field). code F_field ∷ plain_number (type_number f.type) ∷ f.name ∷ 0 ∷ []) fs

-- Slots read, from one on.
unfoldable pub read_lines : ℕ → ℕ → List ℕ
read_lines s zero = []
read_lines s (suc k) = code I_slot ∷ s ∷ 0 ∷ 0 ∷ read_lines (suc s) k

-- Fields copied to the object in a slot from the one in the next.
unfoldable pub copy_lines : ℕ → List Field → List ℕ
copy_lines o fs = flat_map (λ (f : Field).
    code U_set ∷ f.name ∷ 0 ∷ 0
    ∷ code I_slot ∷ o ∷ 0 ∷ 0
    ∷ code G_get ∷ f.name ∷ 0 ∷ 0
    ∷ code I_slot ∷ suc o ∷ 0 ∷ 0
    ∷ []) fs

-- Lines of a slot read; of W of a class c, with temporaries from n on; of R's inner block, for a class d with
-- root r and k fields; and of R of a slot.
abbrev pub slot_lines : ℕ → List ℕ
slot_lines zero = code G_get ∷ id_field ∷ 0 ∷ 0 ∷ code I_slot ∷ 0 ∷ 0 ∷ 0 ∷ []
slot_lines (suc s) = code I_slot ∷ suc s ∷ 0 ∷ 0 ∷ []

abbrev pub new_lines : ℕ → ℕ → List ℕ
new_lines n c =
    code B_block ∷ 2 ∷ 5 ∷ 0
    ∷ code V_local ∷ identity_class ∷ 0 ∷ 0
    ∷ code V_local ∷ (c + 2) ∷ 0 ∷ 0
    ∷ code A_assign ∷ n ∷ 0 ∷ 0
    ∷ code W_new ∷ identity_class ∷ 0 ∷ 0
    ∷ code A_assign ∷ (n + 1) ∷ 0 ∷ 0
    ∷ code W_new ∷ (c + 2) ∷ 0 ∷ 0
    ∷ code U_set ∷ id_field ∷ 0 ∷ 0
    ∷ code I_slot ∷ (n + 1) ∷ 0 ∷ 0
    ∷ code I_slot ∷ n ∷ 0 ∷ 0
    ∷ code U_set ∷ imp_field ∷ 0 ∷ 0
    ∷ code I_slot ∷ n ∷ 0 ∷ 0
    ∷ code I_slot ∷ (n + 1) ∷ 0 ∷ 0
    ∷ code I_slot ∷ n ∷ 0 ∷ 0
    ∷ []

abbrev pub renew_head : ℕ → ℕ → ℕ → ℕ → List ℕ
renew_head n d r k =
    code B_block ∷ 0 ∷ (k + 5) ∷ 0
    ∷ code A_assign ∷ (n + 1) ∷ 0 ∷ 0
    ∷ code W_new ∷ (d + 2) ∷ 0 ∷ 0
    ∷ code A_assign ∷ (n + 2) ∷ 0 ∷ 0
    ∷ code K_cast ∷ (r + 2) ∷ 0 ∷ 0
    ∷ code G_get ∷ imp_field ∷ 0 ∷ 0
    ∷ code I_slot ∷ n ∷ 0 ∷ 0
    ∷ code U_set ∷ id_field ∷ 0 ∷ 0
    ∷ code I_slot ∷ (n + 1) ∷ 0 ∷ 0
    ∷ code I_slot ∷ n ∷ 0 ∷ 0
    ∷ code U_set ∷ imp_field ∷ 0 ∷ 0
    ∷ code I_slot ∷ n ∷ 0 ∷ 0
    ∷ code I_slot ∷ (n + 1) ∷ 0 ∷ 0
    ∷ []

unfoldable pub renew_lines : ℕ → ℕ → ℕ → List Field → List ℕ
renew_lines n d r fs =
    renew_head n d r (length fs) ++ (copy_lines (n + 1) fs ++ (code I_slot ∷ n ∷ 0 ∷ 0 ∷ []))

abbrev pub change_head : ℕ → ℕ → ℕ → ℕ → List ℕ
change_head zero n d r =
    code B_block ∷ 3 ∷ 3 ∷ 0
    ∷ code V_local ∷ identity_class ∷ 0 ∷ 0
    ∷ code V_local ∷ (d + 2) ∷ 0 ∷ 0
    ∷ code V_local ∷ (r + 2) ∷ 0 ∷ 0
    ∷ code A_assign ∷ n ∷ 0 ∷ 0
    ∷ code G_get ∷ id_field ∷ 0 ∷ 0
    ∷ code I_slot ∷ 0 ∷ 0 ∷ 0
    ∷ []
change_head (suc s) n d r =
    code B_block ∷ 3 ∷ 2 ∷ 0
    ∷ code V_local ∷ identity_class ∷ 0 ∷ 0
    ∷ code V_local ∷ (d + 2) ∷ 0 ∷ 0
    ∷ code V_local ∷ (r + 2) ∷ 0 ∷ 0
    ∷ code J_choose ∷ 0 ∷ 0 ∷ 0
    ∷ code Z_is_null ∷ 0 ∷ 0 ∷ 0
    ∷ code A_assign ∷ n ∷ 0 ∷ 0
    ∷ code I_slot ∷ suc s ∷ 0 ∷ 0
    ∷ code N_null ∷ 0 ∷ 0 ∷ 0
    ∷ []

unfoldable pub change_lines : ℕ → ℕ → ℕ → ℕ → List Field → List ℕ
change_lines s n d r fs = change_head s n d r ++ (renew_lines n d r fs ++ (code I_slot ∷ n ∷ 0 ∷ 0 ∷ []))

-- How many numbers the head of R has.
abbrev pub head_length : ℕ → ℕ
head_length zero = 28
head_length (suc s) = 36
