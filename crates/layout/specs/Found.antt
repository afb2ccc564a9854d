-- What stands where in a program whose parts stand in rows (`ProgramAt`). No theorem here asks that classes are well
-- formed; k is any number.
--   class_here    the class of number k: its C line is row class_row P k
--   body_here     a body is a block, whose B line is its first row
--   each_placed   what holds of each method of each class holds of the placed methods
--   owned         the class that declares a placed method
--   method_here   its lines, its form, its body's B line
--   methods_few   methods are at most a third as many as rows
--   found_number, found_none   where the table has the number of a method, the method that is found; where it has none,
--                 no method is found
--   field_here    the i-th field of class k has a row, and its F line there
use Rattle.std.specs.Prelude.{◌≡◌, length, take, ◌⊎◌}
use Rattle.std.proofs.Math.Path.{refl, ap, subst}
use Rattle.std.proofs.Common.{sym, ◌∙◌, length-append}
use Prim.Native.Nat.{ℕ, zero, suc, ◌+◌, ◌-◌, ◌*◌, ◌≤◌, ◌<◌}
use Rattle.std.proofs.Math.Option.{Option, none, some}
use mathlib.Core.List.{List, [], ◌∷◌, ◌++◌}
use native.Mathlib.Omega.{arith}
use Rattle.language.specs.Limits.{Most, of_check}
use Rattle.language.specs.Lists.{nth, given, Never, inj, All2, a_nil, a_cons, all2_at', map_option}
use Rattle.language.specs.Lists.{all2_append}
use Rattle.language.specs.Rows.{F_field, B_block}
use Rattle.language.specs.Tree.{DeclaredType, type_number, Expr, block, Exprs, count, size, Field}
use Rattle.language.specs.Tree.{heading_lines}
use Rattle.language.specs.Tree.{Declaration, Class, sizes, methods_lines}
use Rattle.language.specs.Tree.{Program, method_lines, class_lines, classes_lines}
use Rattle.language.specs.World.{Method}
use Rattle.language.specs.Program.{class_at, fields_at, world, world_with}
use Rattle.language.specs.WellFormed.{Each, each_cons, FieldInForm, MethodInForm, ClassInForm, BodyInForm}
use Rattle.language.specs.WellFormed.{form_body, form_block, each_nil, NodeInForm}
use Rattle.language.specs.Tree.{nil, cons}
use Rattle.language.specs.ClassTables.{rows_from, class_row, field_rows_at, field_rows, method_number}
use Rattle.language.specs.Encoded.{RowAt, NodeAt, LinesAt, Encoded}
use Rattle.language.specs.Layout.{EachMethod, EachClass, FieldsAt, MethodAt, ClassAt, ProgramAt}
use Rattle.language.specs.Layout.{methods_from_row}
use Rattle.theory.proofs.lookups.LookupLaws.{each_at}
use Rattle.language.proofs.Tables.{size_positive}
use Rattle.language.specs.MethodTables.{PlacedMethod, placed_in, placed_from, placed_methods}
use Rattle.std.proofs.Math.Logic.{inl, inr}
use Rattle.language.specs.Layout.{start_row, body_row}

-- ---- classes

module _ (Q : ℕ → Class → ℕ → Type 0) where
  each_class_at : (cs : List Class) (k r i : ℕ) (c : Class) → EachClass Q cs k r → nth cs i ≡ some c
      → Q (k + i) c (r + classes_lines (take i cs))
  unfolding EachClass nth classes_lines
  each_class_at [] k r i c h e = absurd (Never e)
  each_class_at (x ∷ cs) k r zero c h e =
      let a : k ≡ k + 0 = omega arith in
      let b : r ≡ r + 0 = omega arith in
      subst (λ (n : ℕ). Q (k + 0) c n) b
      (subst (λ (n : ℕ). Q n c r) a (subst (λ (d : Class). Q k d r) (inj e) h.0))
  each_class_at (x ∷ cs) k r (suc i) c h e =
      let a : suc k + i ≡ k + suc i = omega arith in
      let n = classes_lines (take i cs) in
      let b : r + class_lines x + n ≡ r + (class_lines x + n) = omega arith in
      subst (λ (n : ℕ). Q (k + suc i) c n) b
      (subst (λ (j : ℕ). Q j c (r + class_lines x + n)) a
      (each_class_at cs (suc k) (r + class_lines x) i c h.1 e))

  -- What holds of each class holds of the class of a number.
  pub each_class : (P : List Class) → EachClass Q P 1 0 → (k : ℕ) (c : Class) → class_at P k ≡ some c
      → Q k c (class_row P k)
  unfolding class_at class_row
  each_class P h zero c e = absurd (Never e)
  each_class P h (suc i) c e =
      let a : 1 + i ≡ suc i = omega arith in
      let z : i ≡ suc i - 1 = omega arith in
      let b : 0 + classes_lines (take i P) ≡ classes_lines (take i P) = omega arith in
      subst (λ (n : ℕ). Q (suc i) c n) (b ∙ ap (λ (n : ℕ). classes_lines (take n P)) z)
      (subst (λ (j : ℕ). Q j c (0 + classes_lines (take i P))) a (each_class_at P 1 0 i c h e))

pub class_here : {R E : List ℕ} {p : Program} → ProgramAt R E p → (k : ℕ) (c : Class)
    → class_at p.classes k ≡ some c
    → ClassAt R E k c (class_row p.classes k)
class_here {R} {E} {p} h k c e = each_class (ClassAt R E) p.classes h.classes k c e

pub class_in_form : {R E : List ℕ} {p : Program} → ProgramAt R E p → (k : ℕ) (c : Class)
    → class_at p.classes k ≡ some c
    → ClassInForm of_check c
unfolding class_at
class_in_form h zero c e = absurd (Never e)
class_in_form h (suc i) c e = each_at h.in_form.classes i c e

-- ---- bodies

pub record BlockHere (R E : List ℕ) (e : Expr) (r : ℕ) : Type 0 where
  pub locals : List DeclaredType
  pub expressions : Exprs
  pub is_block : e ≡ block locals expressions
  pub node : NodeAt R E r B_block (length locals) (count expressions) (size e)

pub body_here : {R E : List ℕ} {most : Most} {n : ℕ} {e : Expr} (r : ℕ) → BodyInForm most n e
    → Encoded R E e r → BlockHere R E e r
unfolding Encoded size
body_here r (form_body {ts} {es} i) h = record { locals = ts; expressions = es; is_block = refl; node = h.0 }

-- ---- methods

-- What stands at a place of two lists stands in one of them.
nth_either : {A : Type 0} (l r : List A) (i : ℕ) (a : A) → nth (l ++ r) i ≡ some a
    → (nth l i ≡ some a) ⊎ ((j : ℕ) × (nth r j ≡ some a))
unfolding nth
nth_either [] r i a e = inr (i, e)
nth_either (x ∷ l) r zero a e = inl e
nth_either (x ∷ l) r (suc i) a e = nth_either l r i a e

-- What holds of each method of each class holds of each placed method.
module _ (Q : ℕ → Declaration → ℕ → Type 0) where
  abbrev Of : PlacedMethod → Type 0
  Of x = Q x.owner x.declaration x.row

  each_in : (k r : ℕ) (ds : List Declaration) (i : ℕ) (x : PlacedMethod) → EachMethod Q ds k r
      → nth (placed_in k r ds) i ≡ some x → Of x
  unfolding EachMethod placed_in nth
  each_in k r [] i x h e = absurd (Never e)
  each_in k r (d ∷ ds) zero x h e = subst Of (inj e) h.0
  each_in k r (d ∷ ds) (suc i) x h e = each_in k (r + method_lines d) ds i x h.1 e

  each_from : (k r : ℕ) (cs : List Class) (i : ℕ) (x : PlacedMethod)
      → EachClass (λ k c r. EachMethod Q c.methods k (methods_from_row r c)) cs k r
      → nth (placed_from k r cs) i ≡ some x → Of x
  unfolding EachClass placed_from nth
  each_from k r [] i x h e = absurd (Never e)
  each_from k r (c ∷ cs) i x h e =
      elim (nth_either (placed_in k (methods_from_row r c) c.methods) _ i x e) [
        | inl q ↦ each_in k (methods_from_row r c) c.methods i x h.0 q
        | inr q ↦ each_from (suc k) (r + class_lines c) cs q.0 x h.1 q.1
      ]

  pub each_placed : (P : List Class)
      → EachClass (λ k c r. EachMethod Q c.methods k (methods_from_row r c)) P 1 0
      → (i : ℕ) (x : PlacedMethod) → nth (placed_methods P) i ≡ some x
      → Q x.owner x.declaration x.row
  unfolding placed_methods
  each_placed P h i x e = each_from 1 0 P i x h e

-- The class that declares a placed method, and the method's place there.
pub record Owned (P : List Class) (x : PlacedMethod) : Type 0 where
  pub owning : Class
  pub place : ℕ
  pub is_class : class_at P x.owner ≡ some owning
  pub there : nth owning.methods place ≡ some x.declaration

owned_in : (k r : ℕ) (ds : List Declaration) (i : ℕ) (x : PlacedMethod) → nth (placed_in k r ds) i ≡ some x
    → (x.owner ≡ k) × (nth ds i ≡ some x.declaration)
unfolding placed_in nth
owned_in k r [] i x e = absurd (Never e)
owned_in k r (d ∷ ds) zero x e = let q = inj e in
    (sym (ap (λ (y : PlacedMethod). y.owner) q), ap (λ (y : PlacedMethod). some y.declaration) q)
owned_in k r (d ∷ ds) (suc i) x e = owned_in k (r + method_lines d) ds i x e

-- The same among classes of which the first has number k.
record Within (k : ℕ) (cs : List Class) (x : PlacedMethod) : Type 0 where
  number : ℕ
  owning : Class
  place : ℕ
  owner : x.owner ≡ k + number
  is_class : nth cs number ≡ some owning
  there : nth owning.methods place ≡ some x.declaration

owned_from : (k r : ℕ) (cs : List Class) (i : ℕ) (x : PlacedMethod) → nth (placed_from k r cs) i ≡ some x
    → Within k cs x
unfolding placed_from nth
owned_from k r [] i x e = absurd (Never e)
owned_from k r (c ∷ cs) i x e = elim (nth_either (placed_in k (methods_from_row r c) c.methods) _ i x e) [
  | inl q ↦ let y = owned_in k (methods_from_row r c) c.methods i x q in
      record { number = 0; owning = c; place = i; owner = omega (arith, y.0); is_class = refl; there = y.1 }
  | inr q ↦ let y = owned_from (suc k) (r + class_lines c) cs q.0 x q.1 in record {
    number = suc y.number;
    owning = y.owning;
    place = y.place;
    owner = omega (arith, y.owner);
    is_class = y.is_class;
    there = y.there;
  }
]

pub owned : (P : List Class) (i : ℕ) (x : PlacedMethod) → nth (placed_methods P) i ≡ some x → Owned P x
unfolding placed_methods class_at
owned P i x e = let y = owned_from 1 0 P i x e in
    let z : x.owner ≡ suc y.number = omega (arith, y.owner) in
    record {
      owning = y.owning;
      place = y.place;
      is_class = ap (class_at P) z ∙ y.is_class;
      there = y.there;
    }

-- A placed method of a program that stands in rows: its class, its lines, its form, its body's B line. Its row and its
-- body's row are among the rows that may be accepted.
pub record MethodHere (R E : List ℕ) (P : List Class) (x : PlacedMethod) : Type 0 where
  pub in_class : Owned P x
  pub at : MethodAt R E x.declaration x.row
  pub in_form : MethodInForm of_check x.declaration
  pub body : BlockHere R E x.declaration.body (x.row + heading_lines x.declaration)
  pub row_short : x.row < of_check.rows
  pub body_short : x.row + heading_lines x.declaration < of_check.rows

classes_methods : (R E : List ℕ) (cs : List Class) (k r : ℕ) → EachClass (ClassAt R E) cs k r
    → EachClass (λ k c r. EachMethod (λ k m r. MethodAt R E m r) c.methods k (methods_from_row r c)) cs k r
unfolding EachClass
classes_methods R E [] k r h = tt
classes_methods R E (c ∷ cs) k r h =
    (h.0.methods, classes_methods R E cs (suc k) (r + class_lines c) h.1)

pub method_here : {R E : List ℕ} {p : Program} → ProgramAt R E p → (i : ℕ) (x : PlacedMethod)
    → nth (placed_methods p.classes) i ≡ some x → MethodHere R E p.classes x
unfolding heading_lines
method_here {R} {E} {p} h i x e =
    let P = p.classes in let d = x.declaration in
    let y = owned P i x e in
    let at = each_placed (λ k m r. MethodAt R E m r) P (classes_methods R E P 1 0 h.classes) i x e in
    let form = each_at (class_in_form h x.owner y.owning y.is_class).methods y.place d
    y.there in
    let z : body_row x.row d ≡ x.row + heading_lines d = omega arith in
    let body = subst (BlockHere R E d.body) z (body_here (body_row x.row d) form.body at.body) in
    record {
      in_class = y;
      at = at;
      in_form = form;
      body = body;
      row_short = omega (arith, at.line.within, h.short);
      body_short = omega (arith, body.node.row.within, h.short);
    }

-- A method takes at least three rows: its M line, its body's B line and a node.
nodes_one : (es : Exprs) → 1 ≤ count es → 1 ≤ sizes es
unfolding count sizes
nodes_one nil l = l
nodes_one (cons e es) l = omega (arith, size_positive e)

block_two : {most : Most} {d n : ℕ} {ts : List DeclaredType} {es : Exprs} → NodeInForm most d n (block ts es)
    → 2 ≤ size (block ts es)
unfolding size
block_two {es} (form_block a b c d i) = omega (arith, nodes_one es b)

body_two : {most : Most} {n : ℕ} {e : Expr} → BodyInForm most n e → 2 ≤ size e
body_two (form_body i) = block_two i

method_three : {most : Most} (m : Declaration) → MethodInForm most m → 3 ≤ method_lines m
unfolding method_lines heading_lines
method_three m f = omega (arith, body_two f.body)

in_few : {most : Most} (k r : ℕ) {ds : List Declaration} → Each (MethodInForm most) ds
    → length (placed_in k r ds) * 3 ≤ methods_lines ds
unfolding placed_in methods_lines
in_few k r each_nil = omega arith
in_few k r (each_cons {a} i is) = omega (arith, method_three a i, in_few k (r + method_lines a) is)

from_few : {most : Most} (k r : ℕ) {cs : List Class} → Each (ClassInForm most) cs
    → length (placed_from k r cs) * 3 ≤ classes_lines cs
unfolding placed_from classes_lines class_lines
from_few k r each_nil = omega arith
from_few k r (each_cons {a} {l} i is) = omega (
  arith,
  in_few k (methods_from_row r a) i.methods,
  from_few (suc k) (r + class_lines a) is,
  length-append (placed_in k (methods_from_row r a) a.methods) (placed_from (suc k) (r + class_lines a) l),
)

-- So a program has at most a third as many methods as rows before its S line: at most 20,000.
pub methods_few : {R E : List ℕ} {p : Program} → ProgramAt R E p
    → length (placed_methods p.classes) * 3 ≤ start_row p
unfolding placed_methods
methods_few h = from_few 1 0 h.in_form.classes

-- What the number of a method in the table stands for.
module _ (P : List Class) where
  pub found_number : (k m i : ℕ) → method_number P k m ≡ some i
      → (M : Method) × ((world P).method k m ≡ some M) × (M.number ≡ i)
  unfolding method_number
  found_number k m i e = go ((world P).method k m) refl e
    where
      go : (o : Option Method) → (world P).method k m ≡ o → map_option (λ (M : Method). M.number) o ≡ some i
          → (M : Method) × ((world P).method k m ≡ some M) × (M.number ≡ i)
      go none q e = absurd (Never e)
      go (some M) q e = (M, q, inj e)

  pub found_none : (k m : ℕ) → method_number P k m ≡ none → (world P).method k m ≡ none
  unfolding method_number
  found_none k m e = go ((world P).method k m) refl e
    where
      go : (o : Option Method) → (world P).method k m ≡ o → map_option (λ (M : Method). M.number) o ≡ none
          → (world P).method k m ≡ none
      go none q e = q
      go (some M) q e = absurd (Never (sym e))

-- ---- fields

-- An F line with the field that it declares.
pub record FieldHere (R : List ℕ) (f : Field) (r : ℕ) : Type 0 where
  pub line : RowAt R r F_field (type_number f.type) f.name
  pub in_form : FieldInForm of_check f

own_fields : (R : List ℕ) (fs : List Field) (r : ℕ) → FieldsAt R fs r → Each (FieldInForm of_check) fs
    → All2 (FieldHere R) fs (rows_from r fs)
unfolding LinesAt rows_from
own_fields R [] r h i = a_nil
own_fields R (f ∷ fs) r h (each_cons i is) =
    a_cons (record { line = h.0; in_form = i }) (own_fields R fs (r + 1) h.1 is)

module _ {R E : List ℕ} {p : Program} (h : ProgramAt R E p) where
  fields_along : (n k : ℕ) → All2 (FieldHere R) (fields_at p.classes n k) (field_rows_at p.classes n k)
  unfolding fields_at field_rows_at
  fields_along zero k = a_nil
  fields_along (suc n) k = go (class_at p.classes k) refl (λ c. fields_along n c.super)
    where
      go : (o : Option Class) → class_at p.classes k ≡ o
          → ((c : Class) → All2 (FieldHere R) (fields_at p.classes n c.super)
          (field_rows_at p.classes n c.super))
          → All2 (FieldHere R) (given o [] λ c. fields_at p.classes n c.super ++ c.fields)
          (given o [] λ c. field_rows_at p.classes n c.super ++ rows_from (class_row p.classes k + 1)
          c.fields)
      go none e rec = a_nil
      go (some c) e rec = all2_append (rec c)
          (own_fields R c.fields (class_row p.classes k + 1) (class_here h k c e).fields
          (class_in_form h k c e).fields)

  pub all_fields_here : (k : ℕ)
      → All2 (FieldHere R) ((world p.classes).fields k) (field_rows p.classes k)
  unfolding world world_with field_rows
  all_fields_here k = fields_along (suc k) k

  pub field_here : (k i : ℕ) (f : Field) → nth ((world p.classes).fields k) i ≡ some f
      → (r : ℕ) × (nth (field_rows p.classes k) i ≡ some r) × FieldHere R f r
  field_here k i f e = all2_at' (all_fields_here k) i f e
