-- What the form pass reads of a whole program is what was written, and is in form:
-- form accepts rows only if they are the rows of a program in form, and answers that program.
use mathlib.Core.Path.{◌≡◌, refl, sym, ap, ap₂, ◌∙◌, subst}
use Prim.Native.Nat.{ℕ, zero, suc, ◌+◌, ◌≤◌}
use mathlib.Core.Option.{Option, none, some}
use mathlib.Core.List.{List, [], ◌∷◌, ◌++◌, map}
use lib.ListN.{length}
use lib.Dec.{ltb}
use native.Mathlib.Omega.{arith}
use borrow.Author.Tests.{ltb-true}
use Rattle.language.specs.Limits.{Most, largest, limit_refusal}
use Rattle.language.specs.Lists.{given, Never}
use Rattle.language.specs.Results.{Checked, accept, refuse, require, require_inv, accept_injective}
use Rattle.language.specs.Results.{accept≢refuse}
use Rattle.language.specs.Rows.{Letter, C_class, F_field, M_method, P_parameter, X_effect, S_start, B_block}
use Rattle.language.specs.Rows.{Record, written, same_letter, Row, row_of, code}
use Rattle.language.specs.Tree.{DeclaredType, type_of_number, Expr, literal, literal_true, literal_false}
use Rattle.language.specs.Tree.{literal_null}
use Rattle.language.specs.Tree.{slot, is_null, get, cast, new, change, assign, set, call, choose, block, size}
use Rattle.language.specs.Tree.{flatten, kind_number, kind_of_number, Declaration, Class, Program}
use Rattle.language.specs.Tree.{heading_lines, method_lines, methods_lines, class_lines, classes_lines}
use Rattle.language.specs.Tree.{flatten_program}
use Rattle.language.specs.Form.{Read, read, done, after, class_of, if_letter, record_on, maybe, body, fields}
use Rattle.language.specs.Form.{parameters, effects, method, methods, classes, at_end, form}
use Rattle.language.specs.WellFormed.{TypeInForm, Each, each_nil, each_cons, NodeInForm, BodyInForm}
use Rattle.language.specs.WellFormed.{form_body, FieldInForm, MethodInForm, ClassInForm, ProgramInForm}
use Rattle.theory.proofs.reading.RowCounts.{field_row, parameter_row, effect_row, method_rows}
use Rattle.theory.proofs.reading.RowCounts.{methods_rows}
use Rattle.theory.proofs.reading.RowCounts.{classes_rows, program_rows, length_program}
use Rattle.theory.proofs.reading.FlattenParse.{after_inv, cond_some, letter_is, zero_is, number_back}
use Rattle.theory.proofs.reading.FlattenParse.{type_in_form}
use Rattle.theory.proofs.reading.FlattenParse.{Taken, record_on_taken, next_inv, of_letter, LinesRead}
use Rattle.theory.proofs.reading.FlattenParse.{lines_none}
use Rattle.theory.proofs.reading.FlattenParse.{lines_one, node_back}

kind_back : (n : ℕ) → kind_number (kind_of_number n) ≡ n
kind_back zero = refl
kind_back (suc zero) = refl
kind_back (suc (suc zero)) = refl
kind_back (suc (suc (suc n))) = refl

abbrev first_code : List Row → ℕ
first_code [] = 0
first_code (r ∷ rs) = r.letter_code

module _ (most : Most) (roomy : 1 + most.parameters ≤ most.slots) where
  -- A record of a letter that was found to stand here.
  maybe_taken : (l : Letter) (at : ℕ) (r : Row) (rs : List Row) (x : Record) → maybe most l at r ≡ some x
      → Taken most at (r ∷ rs) (written l x.first x.second) rs
  unfolding if_letter
  maybe_taken l at r rs x e = go (record_on most at r) refl e
    where
      go : (c : Checked Record) → record_on most at r ≡ c → if_letter l c ≡ some x
          → Taken most at (r ∷ rs) (written l x.first x.second) rs
      go (accept y) p e = let q = cond_some (same_letter l y.letter) y x e in
          subst (λ (x : Record). Taken most at (r ∷ rs) (written l x.first x.second) rs) q.1
          (of_letter most l (letter_is l y.letter q.0) (record_on_taken most at r rs y p))
      go (refuse n k) p e = absurd (Never e)

  fields_back : (at : ℕ) (rs : List Row)
      → LinesRead most field_row (FieldInForm most) at rs (fields most at rs)
  unfolding fields
  fields_back at [] = lines_none most at []
  fields_back at (r ∷ rs) = go (maybe most F_field at r) refl (fields_back (at + 1) rs)
    where
      go : (o : Option Record) → maybe most F_field at r ≡ o
          → LinesRead most field_row (FieldInForm most) (at + 1) rs (fields most (at + 1) rs)
          → LinesRead most field_row (FieldInForm most) at (r ∷ rs) (given o (read [] (r ∷ rs)) λ x.
          read (record { type = type_of_number x.first; name = x.second } ∷ (fields most (at + 1) rs).tree)
          (fields most (at + 1) rs).rest)
      go none e h = lines_none most at (r ∷ rs)
      go (some x) e h = let t = maybe_taken F_field at r rs x e in
          lines_one most at (r ∷ rs) (row_of (written F_field x.first x.second)) rs
          (record { type = type_of_number x.first; name = x.second }) (fields most (at + 1) rs) t.line
          t.is
          (ap (λ (a : ℕ). row_of (written F_field a x.second)) (sym (number_back x.first)))
          (record { type = type_in_form x.first t.first; name = t.name }) h

  effects_back : (at : ℕ) (rs : List Row)
      → LinesRead most effect_row (λ c. c ≤ largest) at rs (effects most at rs)
  unfolding effects
  effects_back at [] = lines_none most at []
  effects_back at (r ∷ rs) = go (maybe most X_effect at r) refl (effects_back (at + 1) rs)
    where
      go : (o : Option Record) → maybe most X_effect at r ≡ o
          → LinesRead most effect_row (λ c. c ≤ largest) (at + 1) rs (effects most (at + 1) rs)
          → LinesRead most effect_row (λ c. c ≤ largest) at (r ∷ rs) (given o (read [] (r ∷ rs)) λ x.
          read (x.first ∷ (effects most (at + 1) rs).tree) (effects most (at + 1) rs).rest)
      go none e h = lines_none most at (r ∷ rs)
      go (some x) e h = let t = maybe_taken X_effect at r rs x e in
          lines_one most at (r ∷ rs) (row_of (written X_effect x.first x.second)) rs x.first
          (effects most (at + 1) rs) t.line t.is
          (ap (λ (b : ℕ). row_of (written X_effect x.first b)) (zero_is x.second t.second))
          t.first h

  -- P lines that were read: no parameter too many.
  record ParametersRead (n at : ℕ) (rs : List Row) (x : Read (List DeclaredType)) : Type 0 where
    read_lines : LinesRead most parameter_row TypeInForm at rs x
    few : n ≤ most.parameters → n + length x.tree ≤ most.parameters

  parameters_back : (n at : ℕ) (rs : List Row) (x : Read (List DeclaredType))
      → parameters most n at rs ≡ accept x
      → ParametersRead n at rs x
  unfolding parameters
  parameters_back n at [] x e = subst (ParametersRead n at []) (accept_injective e)
      (record { read_lines = lines_none most at []; few = λ l. omega arith })
  parameters_back n at (r ∷ rs) x e =
      go (maybe most P_parameter at r) refl (λ x e. parameters_back (suc n) (at + 1) rs x e) e
    where
      go : (o : Option Record) → maybe most P_parameter at r ≡ o
          → ((x : Read (List DeclaredType)) → parameters most (suc n) (at + 1) rs ≡ accept x
          → ParametersRead (suc n) (at + 1) rs x)
          → given o (done [] (r ∷ rs)) (λ x. require (ltb n most.parameters) limit_refusal at λ _.
          after (parameters most (suc n) (at + 1) rs) λ ts rs. done (type_of_number x.first ∷ ts) rs)
          ≡ accept x
          → ParametersRead n at (r ∷ rs) x
      go none p ih e = subst (ParametersRead n at (r ∷ rs)) (accept_injective e)
          (record { read_lines = lines_none most at (r ∷ rs); few = λ l. omega arith })
      go (some y) p ih e = require_inv _ _ _ _ e λ e₁ e. after_inv _ _ e λ ts rs₁ e₂ e.
          let t = maybe_taken P_parameter at r rs y p in
          let h = ih (read ts rs₁) e₂ in
          let s = ltb-true n most.parameters e₁ in
          subst (ParametersRead n at (r ∷ rs)) (accept_injective e) (record {
            read_lines = lines_one most at (r ∷ rs) (row_of (written P_parameter y.first y.second)) rs
                (type_of_number y.first) (read ts rs₁) t.line t.is
                (ap₂ (λ (a b : ℕ). row_of (written P_parameter a b)) (sym (number_back y.first))
                (zero_is y.second t.second))
                (type_in_form y.first t.first) h.read_lines;
            few = λ _. omega (arith, h.few (omega arith));
          })

  -- An expression whose first row is a block's is a block.
  block_first : (n : ℕ) (e : Expr) (rs : List Row) → NodeInForm most most.nesting n e
      → first_code (map row_of (flatten e) ++ rs) ≡ code B_block → BodyInForm most n e
  unfolding flatten
  block_first n (literal literal_true) rs i q = absurd (omega (arith, q))
  block_first n (literal literal_false) rs i q = absurd (omega (arith, q))
  block_first n (literal literal_null) rs i q = absurd (omega (arith, q))
  block_first n (slot k) rs i q = absurd (omega (arith, q))
  block_first n (is_null e) rs i q = absurd (omega (arith, q))
  block_first n (get f e) rs i q = absurd (omega (arith, q))
  block_first n (cast c e) rs i q = absurd (omega (arith, q))
  block_first n (new c) rs i q = absurd (omega (arith, q))
  block_first n (change k d) rs i q = absurd (omega (arith, q))
  block_first n (assign k e) rs i q = absurd (omega (arith, q))
  block_first n (set f e e') rs i q = absurd (omega (arith, q))
  block_first n (call m e es) rs i q = absurd (omega (arith, q))
  block_first n (choose a b c) rs i q = absurd (omega (arith, q))
  block_first n (block ts es) rs i q = form_body i

  record BodyRead (n at : ℕ) (rs : List Row) (x : Read Expr) : Type 0 where
    is : rs ≡ map row_of (flatten x.tree) ++ x.rest
    formed : BodyInForm most n x.tree
    lines : at + size x.tree ≤ suc most.rows

  body_back : (n at : ℕ) (rs : List Row) (x : Read Expr) → n ≤ most.slots → body most n at rs ≡ accept x
      → BodyRead n at rs x
  unfolding body
  body_back n at rs x s e = next_inv most at rs _ e λ r rest t e. require_inv _ _ _ _ e λ e₁ e.
      let h = node_back most most.nesting n at rs x s e in
      record {
        is = h.is;
        formed = block_first n x.tree x.rest h.formed
            (ap first_code (sym h.is ∙ t.is) ∙ ap code (sym (letter_is B_block r.letter e₁)));
        lines = h.lines;
      }

  record MethodRead (at : ℕ) (rs : List Row) (x : Read Declaration) : Type 0 where
    is : rs ≡ method_rows x.tree x.rest
    formed : MethodInForm most x.tree
    lines : at + method_lines x.tree ≤ suc most.rows

  method_back : (at a b : ℕ) (rs rest : List Row) (x : Read Declaration)
      → Taken most at rs (written M_method a b) rest → method most at (written M_method a b) rest ≡ accept x
      → MethodRead at rs x
  unfolding method method_lines heading_lines
  method_back at a b rs rest x t e = after_inv _ _ e λ ts rs₁ e₁ e.
      let p = parameters_back 0 (at + 1) rest (read ts rs₁) e₁ in
      let few = p.few (omega arith) in
      let x-lines = effects_back (at + 1 + length ts) rs₁ in
      after_inv _ _ e λ d rs₂ e₂ e.
      let h = body_back (1 + length ts) _ _ (read d rs₂) (omega arith) e₂ in
      subst (MethodRead at rs) (accept_injective e) (record {
        is = t.is ∙ ap₂ (λ (a : ℕ) (l : List Row). row_of (written M_method a b) ∷ l) (sym (number_back a))
            (p.read_lines.is ∙ ap (λ (l : List Row). map parameter_row ts ++ l)
            (x-lines.is
            ∙ ap (λ (l : List Row). map effect_row (effects most (at + 1 + length ts) rs₁).tree ++ l)
            h.is));
        formed = record {
          result = type_in_form a t.first;
          name = t.name;
          few = omega arith;
          parameters = p.read_lines.formed;
          effects = x-lines.formed;
          body = h.formed;
        };
        lines = omega (arith, h.lines);
      })

  record MethodsRead (at : ℕ) (rs : List Row) (x : Read (List Declaration)) : Type 0 where
    is : rs ≡ methods_rows x.tree x.rest
    formed : Each (MethodInForm most) x.tree
    lines : at ≤ suc most.rows → at + methods_lines x.tree ≤ suc most.rows

  methods_none : (at : ℕ) (rs : List Row) → MethodsRead at rs (read [] rs)
  unfolding methods_rows methods_lines
  methods_none at rs = record { is = refl; formed = each_nil; lines = λ l. omega arith }

  methods_back : (f at : ℕ) (rs : List Row) (x : Read (List Declaration)) → methods most f at rs ≡ accept x
      → MethodsRead at rs x
  unfolding methods method methods_rows methods_lines
  methods_back zero at rs x e = subst (MethodsRead at rs) (accept_injective e) (methods_none at rs)
  methods_back (suc f) at [] x e = subst (MethodsRead at []) (accept_injective e) (methods_none at [])
  methods_back (suc f) at (r ∷ rs) x e =
      go (maybe most M_method at r) refl (λ at rs x e. methods_back f at rs x e) e
    where
      go : (o : Option Record) → maybe most M_method at r ≡ o
          → ((at : ℕ) (rs : List Row) (x : Read (List Declaration)) → methods most f at rs ≡ accept x
          → MethodsRead at rs x)
          → given o (done [] (r ∷ rs)) (λ x. after (method most at x rs) λ m rs.
          after (methods most f (at + method_lines m) rs) λ ms rs. done (m ∷ ms) rs) ≡ accept x
          → MethodsRead at (r ∷ rs) x
      go none p ih e = subst (MethodsRead at (r ∷ rs)) (accept_injective e) (methods_none at (r ∷ rs))
      go (some y) p ih e = after_inv _ _ e λ m rs₁ e₁ e. after_inv _ _ e λ ms rs₂ e₂ e.
          let g = method_back at y.first y.second (r ∷ rs) rs (read m rs₁)
          (maybe_taken M_method at r rs y p) e₁ in
          let h = ih (at + method_lines m) rs₁ (read ms rs₂) e₂ in
          subst (MethodsRead at (r ∷ rs)) (accept_injective e) (record {
            is = g.is ∙ ap (λ (l : List Row). method_rows m l) h.is;
            formed = each_cons g.formed h.formed;
            lines = λ _. omega (arith, h.lines g.lines);
          })

  record ClassesRead (n at : ℕ) (rs : List Row) (x : Read (List Class)) : Type 0 where
    is : rs ≡ classes_rows x.tree x.rest
    formed : Each (ClassInForm most) x.tree
    few : n ≤ most.classes → n + length x.tree ≤ most.classes
    lines : at ≤ suc most.rows → at + classes_lines x.tree ≤ suc most.rows

  classes_none : (n at : ℕ) (rs : List Row) → ClassesRead n at rs (read [] rs)
  unfolding classes_rows classes_lines
  classes_none n at rs =
      record { is = refl; formed = each_nil; few = λ l. omega arith; lines = λ l. omega arith }

  classes_back : (f n at : ℕ) (rs : List Row) (x : Read (List Class)) → classes most f n at rs ≡ accept x
      → ClassesRead n at rs x
  unfolding classes classes_rows classes_lines class_lines
  classes_back zero n at rs x e = subst (ClassesRead n at rs) (accept_injective e) (classes_none n at rs)
  classes_back (suc f) n at [] x e = subst (ClassesRead n at []) (accept_injective e) (classes_none n at [])
  classes_back (suc f) n at (r ∷ rs) x e =
      go (maybe most C_class at r) refl (λ n at rs x e. classes_back f n at rs x e) e
    where
      go : (o : Option Record) → maybe most C_class at r ≡ o
          → ((n at : ℕ) (rs : List Row) (x : Read (List Class)) → classes most f n at rs ≡ accept x
          → ClassesRead n at rs x)
          → given o (done [] (r ∷ rs)) (λ x. require (ltb n most.classes) limit_refusal at λ _.
          after (methods most (length rs) (at + 1 + length (fields most (at + 1) rs).tree)
          (fields most (at + 1) rs).rest) λ ms rs₁. let c = class_of x (fields most (at + 1) rs).tree ms in
          after (classes most f (suc n) (at + class_lines c) rs₁) λ cs rs₂. done (c ∷ cs) rs₂) ≡ accept x
          → ClassesRead n at (r ∷ rs) x
      go none p ih e = subst (ClassesRead n at (r ∷ rs)) (accept_injective e) (classes_none n at (r ∷ rs))
      go (some y) p ih e = require_inv _ _ _ _ e λ e₀ e. after_inv _ _ e λ ms rs₁ e₁ e.
          after_inv _ _ e λ cs rs₂ e₂ e.
          let t = maybe_taken C_class at r rs y p in
          let s = ltb-true n most.classes e₀ in
          let f-lines = fields_back (at + 1) rs in
          let g = methods_back (length rs) _ _ (read ms rs₁) e₁ in
          let h = ih (suc n) _ rs₁ (read cs rs₂) e₂ in
          let number : kind_number (kind_of_number y.first) ≡ y.first = kind_back y.first in
          subst (ClassesRead n at (r ∷ rs)) (accept_injective e) (record {
            is = t.is ∙ ap₂ (λ (a : ℕ) (l : List Row). row_of (written C_class a y.second) ∷ l)
                (sym number)
                (f-lines.is ∙ ap (λ (l : List Row). map field_row (fields most (at + 1) rs).tree ++ l)
                (g.is ∙ ap (λ (l : List Row). methods_rows ms l) h.is));
            formed = each_cons (record {
              kind_small = subst (λ (k : ℕ). k ≤ largest) (sym number) t.first;
              kind_back = ap kind_of_number number;
              super = t.second;
              fields = f-lines.formed;
              methods = g.formed;
            }) h.formed;
            few = λ _. omega (arith, h.few (omega arith));
            lines = λ _. omega (
              arith,
              h.lines (omega
                  (arith, g.lines (f-lines.lines (omega (arith, t.line))))),
            );
          })

  -- Form accepts rows only if they are the rows of a program in form, and answers that program.
  pub form_back : (rs : List Row) (p : Program) → form most rs ≡ accept p
      → (rs ≡ map row_of (flatten_program p)) × ProgramInForm most p
  unfolding form at_end
  form_back rs p e = after_inv _ _ e λ cs rs₁ e₁ e. next_inv most _ rs₁ _ e λ x rs₂ t e.
      require_inv _ _ _ _ e λ e₂ e. after_inv _ _ e λ d rs₃ e₃ e.
      let g = classes_back (length rs) 0 1 rs (read cs rs₁) e₁ in
      let s = of_letter most S_start (letter_is S_start x.letter e₂) t in
      let h = body_back 1 _ rs₂ (read d rs₃) (omega arith) e₃ in
      ends rs₃ _ _ e λ z e.
      subst (λ (p : Program). (rs ≡ map row_of (flatten_program p)) × ProgramInForm most p) e (
        g.is ∙ (ap (λ (l : List Row). classes_rows cs l)
            (s.is ∙ ap₂ (λ (r : Row) (l : List Row). r ∷ l)
            (ap₂ (λ (a b : ℕ). row_of (written S_start a b)) (zero_is x.first s.first)
            (zero_is x.second s.second))
            (h.is ∙ ap (λ (l : List Row). map row_of (flatten d) ++ l) z))
            ∙ sym (program_rows (record { classes = cs; start = d }))),
        record {
          rows = omega (arith, length_program (record { classes = cs; start = d }), h.lines);
          few = omega (arith, g.few (omega arith));
          classes = g.formed;
          start = h.formed;
        },
      )
    where
      ends : {C : Type 0} (rs : List Row) (at : ℕ) (q : Program) → at_end most at rs q ≡ accept p
          → (rs ≡ [] → q ≡ p → C) → C
      ends [] at q e f = f refl (accept_injective e)
      ends (r ∷ rs) at q e f = next_inv most at (r ∷ rs) _ e λ x rest t e. absurd (accept≢refuse _ _ e)
