-- Laws of the numbers of plain trees: one for each constructor, and of copied fields and slots read. Assumes
-- nothing.
use mathlib.Core.Path.{◌≡◌, refl, ◌∙◌}
use mathlib.Core.Bool.{Bool, true, false, cond}
use mathlib.Core.List.{List, [], ◌∷◌, ◌++◌, map, append-nil}
use Prim.Native.Nat.{ℕ, suc, ◌+◌}
use native.Mathlib.Omega.{arith}
use lib.Dec.{eqb}
use lib.ListN.{length}
use Rattle.language.specs.Limits.{bool_number, identity_class}
use Rattle.language.specs.Rows.{Record, written, V_local, numbers_of}
use Rattle.language.specs.Tree.{DeclaredType, bool, class, type_number, Expr, literal, literal_true}
use Rattle.language.specs.Tree.{literal_false, literal_null, slot, is_null, get, cast, new, assign, set, call}
use Rattle.language.specs.Tree.{choose, block, Exprs, nil, cons, count, Field, flatten, flattens}
use Rattle.language.specs.WellFormed.{TypeInForm, Each, each_nil, each_cons}
use Rattle.language.specs.Translation.{plain_type, copies, reads}
use Rattle.plain.specs.Numbers.{lines_of, tree_numbers, trees_numbers, local_lines}
use Rattle.emitters.specs.Lines.{copy_lines, type_lines, read_lines, plain_number}

-- The number of a type that rows can hold tells its plain type: no class has the number of bool.
pub plain_told : (t : DeclaredType) → TypeInForm t → plain_number (type_number t) ≡ type_number (plain_type t)
plain_told bool i = refl
plain_told (class c) i = go (eqb c bool_number) i.back
  where
    go : (b : Bool) → cond b bool (class c) ≡ class c → cond b bool_number identity_class ≡ identity_class
    go true e = let z : ◌≡◌ {A = ℕ} 0 1 = cc in absurd (omega (arith, z))
    go false e = refl

pub lines_append : (a b : List Record) → lines_of (a ++ b) ≡ lines_of a ++ lines_of b
unfolding lines_of numbers_of
lines_append [] b = refl
lines_append (r ∷ a) b = rw (lines_append a b)

pub n_true : tree_numbers ((literal literal_true)) ≡ 84 ∷ 0 ∷ 0 ∷ 0 ∷ []
unfolding tree_numbers lines_of numbers_of flatten
n_true = refl

pub n_false : tree_numbers ((literal literal_false)) ≡ 76 ∷ 0 ∷ 0 ∷ 0 ∷ []
unfolding tree_numbers lines_of numbers_of flatten
n_false = refl

pub n_null : tree_numbers ((literal literal_null)) ≡ 78 ∷ 0 ∷ 0 ∷ 0 ∷ []
unfolding tree_numbers lines_of numbers_of flatten
n_null = refl

pub n_slot : (k : ℕ) → tree_numbers (slot k) ≡ 73 ∷ k ∷ 0 ∷ 0 ∷ []
unfolding tree_numbers lines_of numbers_of flatten
n_slot k = refl

pub n_is_null : (e : Expr) → tree_numbers (is_null e) ≡ 90 ∷ 0 ∷ 0 ∷ 0 ∷ tree_numbers e
unfolding tree_numbers lines_of numbers_of flatten
n_is_null e = refl

pub n_get : (f : ℕ) (e : Expr) → tree_numbers (get f e) ≡ 71 ∷ f ∷ 0 ∷ 0 ∷ tree_numbers e
unfolding tree_numbers lines_of numbers_of flatten
n_get f e = refl

pub n_cast : (c : ℕ) (e : Expr) → tree_numbers (cast c e) ≡ 75 ∷ c ∷ 0 ∷ 0 ∷ tree_numbers e
unfolding tree_numbers lines_of numbers_of flatten
n_cast c e = refl

pub n_new : (c : ℕ) → tree_numbers (new c) ≡ 87 ∷ c ∷ 0 ∷ 0 ∷ []
unfolding tree_numbers lines_of numbers_of flatten
n_new c = refl

pub n_assign : (k : ℕ) (e : Expr) → tree_numbers (assign k e) ≡ 65 ∷ k ∷ 0 ∷ 0 ∷ tree_numbers e
unfolding tree_numbers lines_of numbers_of flatten
n_assign k e = refl

pub n_set : (f : ℕ) (a b : Expr)
    → tree_numbers (set f a b) ≡ 85 ∷ f ∷ 0 ∷ 0 ∷ (tree_numbers a ++ tree_numbers b)
unfolding tree_numbers lines_of numbers_of flatten
n_set f a b = rw (lines_append (flatten a) (flatten b))

pub n_call : (m : ℕ) (a : Expr) (es : Exprs)
    → tree_numbers (call m a es) ≡ 81 ∷ m ∷ count es ∷ 0 ∷ (tree_numbers a ++ trees_numbers es)
unfolding tree_numbers trees_numbers lines_of numbers_of flatten
n_call m a es = rw (lines_append (flatten a) (flattens es))

pub n_choose : (a b c : Expr)
    → tree_numbers (choose a b c) ≡ 74 ∷ 0 ∷ 0 ∷ 0 ∷ (tree_numbers a ++ (tree_numbers b ++ tree_numbers c))
unfolding tree_numbers lines_of numbers_of flatten
n_choose a b c = rw (lines_append (flatten a) (flatten b ++ flatten c), lines_append (flatten b) (flatten c))

pub n_block : (ts : List DeclaredType) (es : Exprs)
    → tree_numbers (block ts es) ≡ 66 ∷ length ts ∷ count es ∷ 0 ∷ (local_lines ts ++ trees_numbers es)
unfolding tree_numbers trees_numbers local_lines lines_of numbers_of flatten
n_block ts es = rw (lines_append (map (λ t. written V_local (type_number t) 0) ts) (flattens es))

pub n_nil : trees_numbers nil ≡ []
unfolding trees_numbers lines_of numbers_of flattens
n_nil = refl

pub n_cons : (e : Expr) (es : Exprs) → trees_numbers (cons e es) ≡ tree_numbers e ++ trees_numbers es
unfolding trees_numbers tree_numbers flattens
n_cons e es = lines_append (flatten e) (flattens es)

pub n_locals_none : local_lines [] ≡ []
unfolding local_lines lines_of numbers_of
n_locals_none = refl

pub n_locals : (t : DeclaredType) (ts : List DeclaredType)
    → local_lines (t ∷ ts) ≡ 86 ∷ type_number t ∷ 0 ∷ 0 ∷ local_lines ts
unfolding local_lines lines_of numbers_of
n_locals t ts = refl

-- V lines of plain types
pub n_types : (ts : List DeclaredType) → Each TypeInForm ts
    → local_lines (map plain_type ts) ≡ type_lines 86 ts
unfolding type_lines
n_types [] each_nil = n_locals_none
n_types (t ∷ ts) (each_cons i is) = n_locals (plain_type t) (map plain_type ts)
    ∙ rw (n_types ts is, plain_told t i)

pub two : (c : ℕ) → c + 2 ≡ suc (suc c)
two c = omega arith

pub n_one : (e : Expr) → trees_numbers (cons e nil) ≡ tree_numbers e
n_one e = n_cons e nil ∙ rw n_nil (append-nil (tree_numbers e))

-- fields copied, then what follows
pub n_copies : (o : ℕ) (fs : List Field) (r : Exprs)
    → trees_numbers (copies o (suc o) fs r) ≡ copy_lines o fs ++ trees_numbers r
unfolding copies copy_lines
n_copies o [] r = refl
n_copies o (f ∷ fs) r = n_cons _ _
    ∙ rw (
      n_set f.name (slot o) (get f.name (slot (suc o))),
      n_slot o,
      n_get f.name (slot (suc o)),
      n_slot (suc o),
      n_copies o fs r,
    )

-- reads
pub n_reads : (s : ℕ) (ts : List DeclaredType) → trees_numbers (reads s ts) ≡ read_lines s (length ts)
unfolding reads read_lines
n_reads s [] = n_nil
n_reads s (t ∷ ts) = n_cons _ _ ∙ rw (n_slot s, n_reads (suc s) ts)
