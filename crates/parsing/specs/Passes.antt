-- What a pass over a part of a program tells: where the part ends and what the table of ends then holds, or the refusal.
use Rattle.std.specs.Prelude.{◌≡◌, List, ◌∷◌, ◌++◌, ℕ, ◌+◌, ◌*◌, ◌≤◌, length, Result, Ok, Err}
use Rattle.std.proofs.lemmas.List.Edits.{sets}
use Rattle.language.specs.declared.Refusal.{Refusal}
use Rattle.language.specs.Refusals.{refusal}
use Rattle.language.specs.Results.{Checked, accept, refuse}
use Rattle.language.specs.Rows.{Row, Record}
use Rattle.language.specs.Tree.{DeclaredType, Expr, Exprs, count, size, sizes, Declaration, method_lines}
use Rattle.language.specs.Tree.{methods_lines, Class, class_lines, classes_lines}
use Rattle.language.specs.Form.{Read, done, after, several, locals, node, class_of, fields, methods}
use Rattle.language.specs.Tables.{next_rows, ends_of, ends_list, method_ends, methods_ends, class_ends}
use Rattle.language.specs.Tables.{classes_ends}
use Rattle.parsing.specs.declared.limits.Limits.{Limits}
use Rattle.parsing.specs.Columns.{most_of}
use Rattle.parsing.specs.Places.{rows_from}

-- Where what was read ends, or why it could not be read.
abbrev pub Step : Type 0
Step = Result ℕ Refusal

-- What was read of `lines` rows from row `at` on ends there.
pub record Ended (L : Limits) (numbers : List ℕ) (at lines : ℕ) (rest : List Row) (s : Step) : Type 0 where
  pub end : s ≡ Ok (at + lines)
  pub rest_is : rest ≡ rows_from numbers (at + lines)
  pub within : at + lines ≤ L.rows
  pub inside : (at + lines) * 4 ≤ length numbers

-- A part with its lines and its table of ends, read from row `at` on; the table was `table` and is now `table'`.
unfoldable pub Tells : Limits → {A : Type 0} → (A → ℕ) → (ℕ → A → List ℕ) → List ℕ → List ℕ → ℕ
    → Checked (Read A) → Step → List ℕ → Type 0
Tells L lines ends numbers table at (accept x) s table' =
    Ended L numbers at (lines x.tree) x.rest s × (table' ≡ sets table at (ends at x.tree))
Tells L lines ends numbers table at (refuse n l) s table' = s ≡ Err (refusal n l)

pub record Told (L : Limits) {A : Type 0} (lines : A → ℕ) (ends : ℕ → A → List ℕ) (numbers table : List ℕ)
    (at : ℕ)
    (x : Checked (Read A)) (s : Step) (table' : List ℕ) : Type 0 where
  pub it : Tells L lines ends numbers table at x s table'

abbrev pub ToldNode : Limits → List ℕ → List ℕ → ℕ → Checked (Read Expr) → Step → List ℕ → Type 0
ToldNode L = Told L (λ e. size e) (λ at e. ends_of at e)

abbrev pub ToldNodes : Limits → List ℕ → List ℕ → ℕ → Checked (Read Exprs) → Step → List ℕ → Type 0
ToldNodes L = Told L (λ es. sizes es) (λ at es. ends_list at es)

abbrev pub ToldLocals : Limits → List ℕ → List ℕ → ℕ → Checked (Read (List DeclaredType)) → Step → List ℕ
    → Type 0
ToldLocals L = Told L (λ ts. length ts) (λ at ts. next_rows at (length ts))

abbrev pub ToldMethod : Limits → List ℕ → List ℕ → ℕ → Checked (Read Declaration) → Step → List ℕ → Type 0
ToldMethod L = Told L (λ m. method_lines m) (λ at m. method_ends at m)

abbrev pub ToldMethods : Limits → List ℕ → List ℕ → ℕ → Checked (Read (List Declaration)) → Step → List ℕ
    → Type 0
ToldMethods L = Told L (λ ms. methods_lines ms) (λ at ms. methods_ends at ms)

abbrev pub ToldClass : Limits → List ℕ → List ℕ → ℕ → Checked (Read Class) → Step → List ℕ → Type 0
ToldClass L = Told L (λ c. class_lines c) (λ at c. class_ends at c)

abbrev pub ToldClasses : Limits → List ℕ → List ℕ → ℕ → Checked (Read (List Class)) → Step → List ℕ → Type 0
ToldClasses L = Told L (λ cs. classes_lines cs) (λ at cs. classes_ends at cs)

-- A node of v locals and k children, whatever its letter makes of them.
pub record Makes (v k : ℕ) (make : List DeclaredType → Exprs → Expr) : Type 0 where
  pub lines : (ts : List DeclaredType) (es : Exprs) → length ts ≡ v → count es ≡ k
      → size (make ts es) ≡ 1 + v + sizes es
  pub ends : (ts : List DeclaredType) (es : Exprs) (at : ℕ) → length ts ≡ v → count es ≡ k
      → ends_of at (make ts es) ≡ (at + (1 + v + sizes es))
      ∷ (next_rows (at + 1) v ++ ends_list (at + 1 + v) es)

-- What follows a node's row on line `line`: v locals, k children.
unfoldable pub parts_read : Limits → ℕ → ℕ → ℕ → ℕ → (List DeclaredType → Exprs → Expr) → ℕ → List Row
    → Checked (Read Expr)
parts_read L d n v k make line rs =
    after (locals (most_of L) v n (line + 1) rs) λ ts rs.
    after (several (λ at rs. node (most_of L) d (n + v) at rs) k (line + 1 + v) rs) λ es rs.
    done (make ts es) rs

-- What follows a C line on line `line`: F lines, methods.
unfoldable pub class_read : Limits → Record → ℕ → List Row → Checked (Read Class)
class_read L x line rs =
    let fs = fields (most_of L) (line + 1) rs in
    after (methods (most_of L) (length rs) (line + 1 + length fs.tree) fs.rest) λ ms rs.
    done (class_of x fs.tree ms) rs
