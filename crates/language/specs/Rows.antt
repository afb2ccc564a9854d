-- Letters, records and rows (document 01, "Lines and rows").
use Rattle.std.specs.Prelude.{ℕ, zero, suc, Bool, true, false, ◌&&◌, cond, List, [], ◌∷◌, eqb, leb}
use Rattle.std.proofs.Math.Option.{Option, none, some}
use Rattle.language.specs.Limits.{largest}
use Rattle.language.specs.Lists.{bind_option, given, choice}

-- The letters, in the order of document 01's table.
pub data Letter : Type 0 where
  C_class F_field M_method P_parameter X_effect S_start B_block V_local : Letter
  T_true L_false N_null I_slot Z_is_null G_get K_cast W_new R_change A_assign U_set Q_call J_choose : Letter

abbrev pub letters : List Letter
letters =
    C_class ∷ F_field ∷ M_method ∷ P_parameter ∷ X_effect ∷ S_start ∷ B_block ∷ V_local
    ∷ T_true ∷ L_false ∷ N_null ∷ I_slot ∷ Z_is_null ∷ G_get ∷ K_cast ∷ W_new ∷ R_change
    ∷ A_assign ∷ U_set ∷ Q_call ∷ J_choose ∷ []

-- What nodes follow a record: none, since it is not a node; n children; a receiver and as many arguments as its second
-- number says; as many locals as its first number says, then as many nodes as its second.
pub data Children : Type 0 where
  no_node : Children
  children : ℕ → Children
  arguments locals_and_nodes : Children

-- The shape of a letter's records: the letter's ASCII code, how many numbers follow it, which of them, from 1, is a name
-- (0 for none), and the nodes that follow.
pub record Shape : Type 0 where
  pub code : ℕ
  pub numbers : ℕ
  pub name : ℕ
  pub nodes : Children

abbrev pub shaped : ℕ → ℕ → ℕ → Children → Shape
shaped c n k d = record { code = c; numbers = n; name = k; nodes = d }

abbrev pub shape : Letter → Shape
shape C_class = shaped 67 2 0 no_node
shape F_field = shaped 70 2 2 no_node
shape M_method = shaped 77 2 2 no_node
shape P_parameter = shaped 80 1 0 no_node
shape X_effect = shaped 88 1 0 no_node
shape S_start = shaped 83 0 0 no_node
shape B_block = shaped 66 2 0 locals_and_nodes
shape V_local = shaped 86 1 0 no_node
shape T_true = shaped 84 0 0 (children 0)
shape L_false = shaped 76 0 0 (children 0)
shape N_null = shaped 78 0 0 (children 0)
shape I_slot = shaped 73 1 0 (children 0)
shape Z_is_null = shaped 90 0 0 (children 1)
shape G_get = shaped 71 1 1 (children 1)
shape K_cast = shaped 75 1 0 (children 1)
shape W_new = shaped 87 1 0 (children 0)
shape R_change = shaped 82 2 0 (children 0)
shape A_assign = shaped 65 1 0 (children 1)
shape U_set = shaped 85 1 1 (children 2)
shape Q_call = shaped 81 2 1 arguments
shape J_choose = shaped 74 0 0 (children 3)

abbrev pub code : Letter → ℕ
code l = (shape l).code

abbrev pub numbers : Letter → ℕ
numbers l = (shape l).numbers

-- A record: a letter with its numbers, 0 for those that it does not take.
pub record Record : Type 0 where
  pub letter : Letter
  pub first : ℕ
  pub second : ℕ

abbrev pub written : Letter → ℕ → ℕ → Record
written l a b = record { letter = l; first = a; second = b }

-- The name that a record gives, where its letter takes one; 0 elsewhere.
abbrev pub named : ℕ → ℕ → ℕ → ℕ
named zero a b = 0
named (suc zero) a b = a
named (suc (suc n)) a b = b

abbrev pub name_of : Letter → ℕ → ℕ → ℕ
name_of l a b = named (shape l).name a b

-- Is a record with these children a node.
abbrev pub has_node : Children → Bool
has_node no_node = false
has_node (children n) = true
has_node arguments = true
has_node locals_and_nodes = true

abbrev pub is_node : Letter → Bool
is_node l = has_node (shape l).nodes

abbrev pub same_letter : Letter → Letter → Bool
same_letter l m = eqb (code l) (code m)

-- A row: four numbers.
pub record Row : Type 0 where
  pub letter_code : ℕ
  pub first : ℕ
  pub second : ℕ
  pub third : ℕ

abbrev pub row : ℕ → ℕ → ℕ → ℕ → Row
row n a b c = record { letter_code = n; first = a; second = b; third = c }

abbrev pub row_of : Record → Row
row_of r = row (code r.letter) r.first r.second 0

-- The letter of a code, among those given.
unfoldable pub letter_among : List Letter → ℕ → Option Letter
letter_among [] n = none
letter_among (l ∷ ls) n = choice (eqb (code l) n) (λ _. some l) (λ _. letter_among ls n)

-- How many numbers follow a code; 3, more than any record has, where it is no letter's.
unfoldable pub numbers_after : ℕ → ℕ
numbers_after n = given (letter_among letters n) 3 λ l. numbers l

-- What may stand at a place, from 1, in a row of a letter: up to 65,535 where it takes a number, else 0.
abbrev pub most_at : ℕ → Letter → ℕ
most_at i l = cond (leb i (numbers l)) largest 0

abbrev pub well_made : Letter → Row → Bool
well_made l r =
    leb r.first (most_at 1 l) && (leb r.second (most_at 2 l) && leb r.third (most_at 3 l))

-- The record of a row, if it is not malformed.
unfoldable pub record_of : Row → Option Record
record_of r = bind_option (letter_among letters r.letter_code) λ l.
    cond (well_made l r) (some (written l r.first r.second)) none

-- Is a row not malformed.
abbrev pub is_row : Row → Bool
is_row r = given (record_of r) false λ _. true

-- Numbers and rows; what is left over after the last whole row is dropped.
unfoldable pub rows_of : List ℕ → List Row
rows_of [] = []
rows_of (a ∷ []) = []
rows_of (a ∷ b ∷ []) = []
rows_of (a ∷ b ∷ c ∷ []) = []
rows_of (a ∷ b ∷ c ∷ d ∷ ns) = row a b c d ∷ rows_of ns

unfoldable pub numbers_of : List Row → List ℕ
numbers_of [] = []
numbers_of (r ∷ rs) = r.letter_code ∷ r.first ∷ r.second ∷ r.third ∷ numbers_of rs
