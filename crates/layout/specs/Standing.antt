-- Where the parts of a program stand in its rows and in the table of ends: the form pass's answer makes
-- `ProgramAt`.
use Rattle.std.specs.Prelude.{◌≡◌, refl, ℕ, suc, ◌+◌, ◌*◌, ◌%◌}
use Rattle.std.proofs.Common.{sym, ◌∙◌}
use Rattle.std.proofs.Math.Path.{ap, subst}
use mathlib.Core.List.{List, [], ◌∷◌, ◌++◌, map}
use Rattle.std.proofs.Math.ListN.{length, length-append}
use Rattle.std.proofs.lemmas.List.{length-map}
use native.Mathlib.Omega.{arith}
use Rattle.language.specs.Limits.{of_check}
use Rattle.language.specs.Results.{accept}
use Rattle.language.specs.Rows.{Letter, F_field, P_parameter, X_effect, S_start, V_local, Record}
use Rattle.language.specs.Rows.{written, row_of, rows_of, numbers_of}
use Rattle.language.specs.Tree.{type_number, Expr, literal}
use Rattle.language.specs.Tree.{slot}
use Rattle.language.specs.Tree.{is_null, get, cast, new, change, assign, set, call, choose, block, Exprs, nil}
use Rattle.language.specs.Tree.{cons}
use Rattle.language.specs.Tree.{count, size, sizes, Field, Declaration, Class, Program, heading_lines}
use Rattle.language.specs.Tree.{method_lines, methods_lines, class_lines, classes_lines, flatten, flattens}
use Rattle.language.specs.Tree.{flatten_methods, flatten_classes, flatten_program}
use Rattle.language.specs.Form.{form}
use Rattle.language.specs.Tables.{next_rows, ends_of, ends_list, method_ends, methods_ends, class_ends}
use Rattle.language.specs.Tables.{classes_ends}
use Rattle.language.specs.Tables.{program_ends}
use Rattle.language.specs.Encoded.{RowAt, NodeAt, LinesAt, Encoded, EncodedAll}
use Rattle.language.specs.Layout.{EachMethod, EachClass, MethodAt, ClassAt}
use Rattle.language.specs.Layout.{ProgramAt}
use Rattle.language.specs.WellFormed.{ProgramInForm}
use Rattle.language.proofs.Tables.{next_rows_long, ends_long, method_ends_long, class_ends_long}
use Rattle.language.proofs.Tables.{classes_ends_long}
use Rattle.language.proofs.Lines.{lines_map}
use Rattle.theory.proofs.reading.RowCounts.{length_flatten, length_methods, length_classes, length_program}
use Rattle.theory.proofs.reading.FlattenProgram.{form_back}
use Rattle.theory.proofs.acceptance.Acceptance.{numbers_of_rows}
use Rattle.layout.specs.Places.{lines_split, RecordAt, EndAt, records_lines, ends_lines}

rows_count : (xs : List Record) → length (numbers_of (map row_of xs)) ≡ 4 * length xs
unfolding numbers_of
rows_count [] = refl
rows_count (x ∷ xs) = omega (arith, rows_count xs)

node_at : {R E : List ℕ} {r a b : ℕ} {l : Letter} (n : ℕ) → RowAt R r l a b → EndAt E (r + n) r
    → NodeAt R E r l a b n
node_at n h e = record { row = h; in_ends = e.in_ends; end = e.end }

module _ (R E : List ℕ) where
  abbrev Records : List Record → ℕ → Type 0
  Records xs r = LinesAt (RecordAt R) xs r

  abbrev Ends : List ℕ → ℕ → Type 0
  Ends xs r = LinesAt (EndAt E) xs r

  abbrev split : (xs ys : List Record) (r n : ℕ) → length xs ≡ n → Records (xs ++ ys) r
      → Records xs r × Records ys (r + n)
  split xs ys r n e h = lines_split (RecordAt R) xs ys r n e h

  abbrev split_ends : (xs ys : List ℕ) (r n : ℕ) → length xs ≡ n → Ends (xs ++ ys) r
      → Ends xs r × Ends ys (r + n)
  split_ends xs ys r n e h = lines_split (EndAt E) xs ys r n e h

  -- An expression.
  mutual
    unfolding LinesAt flatten ends_of size count Encoded

    pub encoded : (e : Expr) (r : ℕ) → Records (flatten e) r → Ends (ends_of r e) r → Encoded R E e r
    encoded (literal l) r h z = node_at 1 h.0 z.0
    encoded (slot k) r h z = node_at 1 h.0 z.0
    encoded (is_null e) r h z = (node_at (1 + size e) h.0 z.0, encoded e (r + 1) h.1 z.1)
    encoded (get f e) r h z = (node_at (1 + size e) h.0 z.0, encoded e (r + 1) h.1 z.1)
    encoded (cast c e) r h z = (node_at (1 + size e) h.0 z.0, encoded e (r + 1) h.1 z.1)
    encoded (new c) r h z = node_at 1 h.0 z.0
    encoded (change k d) r h z = node_at 1 h.0 z.0
    encoded (assign k e) r h z = (node_at (1 + size e) h.0 z.0, encoded e (r + 1) h.1 z.1)
    encoded (set f a b) r h z =
        let x = split (flatten a) (flatten b) (r + 1) (size a) (length_flatten a) h.1 in
        let y = split_ends (ends_of (r + 1) a) (ends_of (r + 1 + size a) b) (r + 1) (size a)
        (ends_long (r + 1) a) z.1 in (
          node_at (1 + size a + size b) h.0 z.0,
          encoded a (r + 1) x.0 y.0,
          encoded b (r + 1 + size a) x.1 y.1,
        )
    encoded (call m a es) r h z =
        let x = split (flatten a) (flattens es) (r + 1) (size a) (length_flatten a) h.1 in
        let y = split_ends (ends_of (r + 1) a) (ends_list (r + 1 + size a) es) (r + 1) (size a)
        (ends_long (r + 1) a) z.1 in (
          node_at (1 + size a + sizes es) h.0 z.0,
          encoded a (r + 1) x.0 y.0,
          encoded_all es (r + 1 + size a) x.1 y.1,
        )
    encoded (choose a b c) r h z =
        let x = split (flatten a) (flatten b ++ flatten c) (r + 1) (size a) (length_flatten a) h.1 in
        let y = split_ends (ends_of (r + 1) a)
        (ends_of (r + 1 + size a) b ++ ends_of (r + 1 + size a + size b) c)
        (r + 1) (size a) (ends_long (r + 1) a) z.1 in
        let v = split (flatten b) (flatten c) (r + 1 + size a) (size b) (length_flatten b) x.1 in
        let w = split_ends (ends_of (r + 1 + size a) b) (ends_of (r + 1 + size a + size b) c)
        (r + 1 + size a) (size b) (ends_long (r + 1 + size a) b) y.1 in (
          node_at (1 + size a + size b + size c) h.0 z.0,
          encoded a (r + 1) x.0 y.0,
          encoded b (r + 1 + size a) v.0 w.0,
          encoded c (r + 1 + size a + size b) v.1 w.1,
        )
    encoded (block ts es) r h z =
        let x = split (map (λ t. written V_local (type_number t) 0) ts) (flattens es) (r + 1) (length ts)
        (length-map ts (λ t. written V_local (type_number t) 0)) h.1 in
        let y = split_ends (next_rows (r + 1) (length ts)) (ends_list (r + 1 + length ts) es) (r + 1)
        (length ts)
        (next_rows_long (r + 1) (length ts)) z.1 in (
          node_at (1 + length ts + sizes es) h.0 z.0,
          lines_map (RecordAt R) (λ t. written V_local (type_number t) 0) ts (r + 1) x.0,
          encoded_all es (r + 1 + length ts) x.1 y.1,
        )

    encoded_all : (es : Exprs) (r : ℕ) → Records (flattens es) r → Ends (ends_list r es) r
        → EncodedAll R E es r
    encoded_all nil r h z = tt
    encoded_all (cons e es) r h z =
        let x = split (flatten e) (flattens es) r (size e) (length_flatten e) h in
        let y = split_ends (ends_of r e) (ends_list (r + size e) es) r (size e) (ends_long r e) z in
        (encoded e r x.0 y.0, encoded_all es (r + size e) x.1 y.1)

  -- The methods of a class, and the classes.
  methods_at : (ms : List Declaration) (k r : ℕ) → Records (flatten_methods ms) r → Ends (methods_ends r ms) r
      → EachMethod (λ k m r. MethodAt R E m r) ms k r
  unfolding LinesAt flatten_methods methods_ends method_ends EachMethod method_lines heading_lines
  methods_at [] k r h z = tt
  methods_at (m ∷ ms) k r h z =
      let parameters = map (λ t. written P_parameter (type_number t) 0) m.parameters in
      let effects = map (λ c. written X_effect c 0) m.effects in
      let rest = flatten m.body ++ flatten_methods ms in
      let np = length m.parameters in
      let nx = length m.effects in
      let p = split parameters (effects ++ rest) (r + 1) np
      (length-map m.parameters (λ t. written P_parameter (type_number t) 0)) h.1 in
      let x = split effects rest (r + 1 + np) nx (length-map m.effects (λ c. written X_effect c 0))
      p.1 in
      let b = split (flatten m.body) (flatten_methods ms) (r + 1 + np + nx) (size m.body)
      (length_flatten m.body) x.1 in
      let e = split_ends (method_ends r m) (methods_ends (r + method_lines m) ms) r (method_lines m)
      (method_ends_long r m) z in
      let body-ends = ends_of (r + 1 + np + nx) m.body in
      let q = split_ends (next_rows (r + 1) np) (next_rows (r + 1 + np) nx ++ body-ends) (r + 1) np
      (next_rows_long (r + 1) np) e.0.1 in
      let y = split_ends (next_rows (r + 1 + np) nx) body-ends (r + 1 + np) nx
      (next_rows_long (r + 1 + np) nx) q.1 in
      let next : r + 1 + np + nx + size m.body ≡ r + method_lines m = omega arith in (
        record {
          line = h.0;
          parameters = lines_map (RecordAt R) (λ t. written P_parameter (type_number t) 0) m.parameters
              (r + 1) p.0;
          effects = lines_map (RecordAt R) (λ c. written X_effect c 0) m.effects (r + 1 + np) x.0;
          body = encoded m.body (r + 1 + np + nx) b.0 y.1;
        },
        methods_at ms k (r + method_lines m) (subst (Records (flatten_methods ms)) next b.1) e.1,
      )

  classes_at : (cs : List Class) (k r : ℕ) → Records (flatten_classes cs) r → Ends (classes_ends r cs) r
      → EachClass (ClassAt R E) cs k r
  unfolding LinesAt flatten_classes classes_ends class_ends EachClass class_lines
  classes_at [] k r h z = tt
  classes_at (c ∷ cs) k r h z =
      let fields = map (λ (f : Field). written F_field (type_number f.type) f.name) c.fields in
      let nf = length c.fields in
      let nm = methods_lines c.methods in
      let f = split fields (flatten_methods c.methods ++ flatten_classes cs) (r + 1) nf
      (length-map c.fields (λ (f : Field). written F_field (type_number f.type) f.name)) h.1 in
      let m = split (flatten_methods c.methods) (flatten_classes cs) (r + 1 + nf) nm
      (length_methods c.methods) f.1 in
      let e = split_ends (class_ends r c) (classes_ends (r + class_lines c) cs) r (class_lines c)
      (class_ends_long r c) z in
      let q = split_ends (next_rows (r + 1) nf) (methods_ends (r + 1 + nf) c.methods) (r + 1) nf
      (next_rows_long (r + 1) nf) e.0.1 in
      let next : r + 1 + nf + nm ≡ r + class_lines c = omega arith in (
        record {
          line = h.0;
          fields = lines_map (RecordAt R)
              (λ (f : Field). written F_field (type_number f.type) f.name) c.fields (r + 1) f.0;
          methods = methods_at c.methods k (r + 1 + nf) m.0 q.1;
        },
        classes_at cs (suc k) (r + class_lines c) (subst (Records (flatten_classes cs)) next m.1) e.1,
      )

  -- A program in form whose rows are these, and whose table of ends begins that of ends.
  pub program_standing : (p : Program) (rest : List ℕ) → R ≡ numbers_of (map row_of (flatten_program p))
      → ProgramInForm of_check p → E ≡ program_ends p ++ rest → ProgramAt R E p
  unfolding LinesAt flatten_program program_ends
  program_standing p rest rows formed ends =
      let P = p.classes in
      let n = classes_lines P in
      let start = (n + 1) ∷ ends_of (n + 1) p.start in
      let h = split (flatten_classes P) (written S_start 0 0 ∷ flatten p.start) 0 n (length_classes P)
      (records_lines R (flatten_program p) 0 rows) in
      let z = split_ends (classes_ends 0 P) start 0 n (classes_ends_long 0 P)
      (ends_lines E (program_ends p) rest 0 ends) in
      let zero-n : 0 + n ≡ n = omega arith in
      let s = subst (Records (written S_start 0 0 ∷ flatten p.start)) zero-n h.1 in
      let t = subst (Ends start) zero-n z.1 in
      let long : length R ≡ 4 * length (flatten_program p) = ap length rows
      ∙ rows_count (flatten_program p) in
      record {
        all = omega (arith, long, length_program p);
        short = omega (arith, long, formed.rows);
        in_ends = omega (
          arith,
          ap length ends,
          length-append (program_ends p) rest,
          length-append (classes_ends 0 P) start,
          classes_ends_long 0 P,
          ends_long (n + 1) p.start,
        );
        classes = classes_at P 1 0 h.0 z.0;
        start_line = s.0;
        start = encoded p.start (n + 1) s.1 t.1;
        in_form = formed;
      }

-- What the form pass accepts stands in the rows that it read, and in the table that it filled.
pub program_at : (R E : List ℕ) (p : Program) (rest : List ℕ) → form of_check (rows_of R) ≡ accept p
    → length R % 4 ≡ 0
    → E ≡ program_ends p ++ rest → ProgramAt R E p
program_at R E p rest e whole ends =
    let f = form_back of_check (omega arith) (rows_of R) p e in
    program_standing R E p rest (sym (numbers_of_rows R whole) ∙ ap numbers_of f.0) f.1 ends
