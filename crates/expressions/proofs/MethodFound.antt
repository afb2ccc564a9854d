-- The method that the tables lead to: its heading, and arguments against its parameters. Assumes nothing.
use mathlib.Core.Path.{◌≡◌, refl, sym, ap, ap₂, subst, ◌∙◌}
use mathlib.Core.Bool.{Bool, true, ◌&&◌}
use mathlib.Core.Option.{Option, none, some}
use mathlib.Core.List.{List, [], ◌∷◌}
use Prim.Native.Nat.{ℕ, zero, suc, ◌+◌, ◌*◌, ◌≤◌, ◌<◌}
use native.Mathlib.Omega.{arith}
use lib.ListN.{length, get_or}
use Rattle.language.specs.Lists.{nth, Never, inj, nth_some, nth_lt}
use Rattle.language.specs.Rows.{P_parameter}
use Rattle.language.specs.Tree.{Program, DeclaredType, bool, class, ExprType, known, null_type, type_number}
use Rattle.language.specs.Tree.{Class}
use Rattle.language.specs.World.{Method, is_declared_type}
use Rattle.language.specs.ClassTables.{stored_place, method_number}
use Rattle.language.specs.MethodTables.{placed_methods}
use Rattle.language.specs.Program.{world}
use Rattle.language.specs.Typing.{all_fit}
use Rattle.language.specs.Encoded.{LinesAt, TypesAt}
use Rattle.language.proofs.Lines.{line_at}
use Rattle.language.proofs.Methods.{method_found}
use Rattle.language.proofs.Nodes.{head}
use Rattle.layout.specs.Found.{method_here, found_number, found_none}
use Rattle.layout.specs.Headed.{method_headed, declared_nth}
use Rattle.layout.specs.Held.{Headed}
use Rattle.types.specs.declared.Typing.{Typing}
use Rattle.types.specs.Answers.{case_number, case_of_number, typing_case, stored_case}
use Rattle.types.specs.Tables.{is_fitting}
use Rattle.access.specs.Calls.{all_fitting, method_place, method_line, parameter_count, PreMethod}
use Rattle.expressions.specs.Cycle.{Declared, stored}
use Rattle.expressions.proofs.TypeLines.{TypeAt}
use Rattle.types.proofs.Laws.{case_same}
use Rattle.expressions.proofs.Worlds.{class_low, not_255, fitting_is}
use Rattle.expressions.proofs.Turns.{type_low, case_low}
use Rattle.expressions.proofs.TypeNumbers.{type_number_case, not_absent}

stored_some : (o : Option ℕ) (r : ℕ) → stored_place o ≡ suc r → o ≡ some r
stored_some none r e = absurd (omega (arith, e))
stored_some (some i) r e = let z : i ≡ r = omega (arith, e) in ap some z

stored_none : (o : Option ℕ) → stored_place o ≡ 0 → o ≡ none
stored_none none e = refl
stored_none (some i) e = absurd (omega (arith, e))

stored_at : (ts : List ExprType) (i : ℕ) (t : ExprType) → nth ts i ≡ some t
    → get_or (stored ts) i 0 ≡ case_number (typing_case t)
unfolding stored nth
stored_at [] i t e = absurd (Never e)
stored_at (u ∷ ts) zero t e = ap (λ (x : ExprType). case_number (typing_case x)) (inj e)
stored_at (u ∷ ts) (suc i) t e = stored_at ts i t e

module _ {p : Program} {R E T A M F : List ℕ} {count : ℕ} (h : Headed R E T A M F p count) where
  abbrev P : List Class
  P = p.classes

  stored_is : (t : ExprType) → Declared (world P) t
      → stored_case (case_number (typing_case t)) ≡ typing_case t
  unfolding stored_case case_of_number
  stored_is (known bool) d = refl
  stored_is (known (class c)) d = let l = class_low h c (d.class_in c refl) in
      rw (not_absent h c l, not_255 h c l)
  stored_is null_type d = refl

  -- the arguments against the parameters
  pub fit_all : (S : List ℕ) (ts : List ExprType) (us : List DeclaredType) (from row : ℕ)
      → length ts ≡ length us
      → ((i : ℕ) → i < length ts → get_or S (from + i) 0 ≡ get_or (stored ts) i 0) → TypesAt P_parameter R us row
      → ((i : ℕ) (t : ExprType) → nth ts i ≡ some t → Declared (world P) t)
      → ((i : ℕ) (u : DeclaredType) → nth us i ≡ some u → is_declared_type (world P) u ≡ true)
      → all_fitting R A S from row (length ts) ≡ all_fit (world P) ts us
  unfolding all_fitting all_fit LinesAt nth stored
  fit_all S [] [] from row e f n d g = refl
  fit_all S [] (u ∷ us) from row e f n d g = absurd (omega (arith, e))
  fit_all S (t ∷ ts) [] from row e f n d g = absurd (omega (arith, e))
  fit_all S (t ∷ ts) (u ∷ us) from row e f n d g =
      let q : from + 0 ≡ from = omega arith in
      let w : stored_case (get_or S from 0) ≡ typing_case t =
      ap stored_case (ap (λ (x : ℕ). get_or S x 0) (sym q) ∙ f 0 (omega arith)) ∙ stored_is t (d 0 t refl) in
      ap₂ (λ (x : Bool) (y : Bool). x && y)
      (ap₂ (λ (x : Typing) (y : ℕ). is_fitting A x y) w n.0.first
      ∙ fitting_is h t u (type_low h t (d 0 t refl)) (g 0 u refl))
      (fit_all S ts us (from + 1) (row + 1) (omega (arith, e))
      (λ i l. let z : from + 1 + i ≡ from + suc i = omega arith in ap (λ (x : ℕ). get_or S x 0) z
      ∙ f (suc i) (omega arith))
      n.1 (λ i v x. d (suc i) v x) (λ i v x. g (suc i) v x))

  -- What the tables lead to under name m in class k: the method of number i.
  pub record Called (k m i : ℕ) : Type 0 where
    pub method : Method
    pub found : (world P).method k m ≡ some method
    pub inside : i * 4 + 2 < length M
    pub effect_inside : i < length F
    pub line : method_line M i * 4 + 3 < length R
    pub result_is : get_or R (method_line M i * 4 + 1) 0 ≡ type_number method.result
    pub counted : parameter_count M i ≡ length method.parameters
    pub effect_is : get_or F i 0 ≡ method.effect
    pub lines : TypesAt P_parameter R method.parameters (method_line M i + 1)
    pub after_lines : (method_line M i + 1 + length method.parameters) * 4 ≤ length R
    pub result : is_declared_type (world P) method.result ≡ true
    pub parameters : (j : ℕ) (t : DeclaredType) → nth method.parameters j ≡ some t
        → is_declared_type (world P) t ≡ true

  called : (k m i : ℕ) (N : Method) → (world P).method k m ≡ some N → N.number ≡ i → Called k m i
  called k m i N e n =
      let f = method_found P k m N e in
      let x = f.placed in
      let there : nth (placed_methods P) i ≡ some x =
      subst (λ (j : ℕ). nth (placed_methods P) j ≡ some x) n f.there in
      let w = method_here h.here i x there in
      let d = method_headed P tt h.passes x w.in_class in
      let row : method_line M i ≡ x.row = h.methods.rows i x there in
      let same = ap length f.parameters in
      let low = nth_lt (placed_methods P) i x there in
      record {
        method = N;
        found = e;
        inside = omega (arith, low, h.methods.long);
        effect_inside = omega (arith, low, h.methods.long_effects);
        line = omega (arith, row, w.at.line.within);
        result_is = ap (λ (r : ℕ). get_or R (r * 4 + 1) 0) row
            ∙ (w.at.line.first ∙ ap type_number (sym f.result));
        counted = h.methods.parameters i x there ∙ sym same;
        effect_is = h.methods.effects i x there ∙ sym f.effect;
        lines = subst (λ (r : ℕ). TypesAt P_parameter R N.parameters (r + 1)) (sym row)
            (subst (λ (ts : List DeclaredType). TypesAt P_parameter R ts (x.row + 1)) (sym f.parameters)
            w.at.parameters);
        after_lines = omega (arith, row, same, (head x.declaration.body w.at.body).row);
        result = subst (λ (t : DeclaredType). is_declared_type (world P) t ≡ true) (sym f.result)
            d.result;
        parameters = λ j t q.
            declared_nth P d.parameters j t (sym (ap (λ (l : List DeclaredType). nth l j) f.parameters)
            ∙ q);
      }

  module _ (k m : ℕ) (lk : k ≤ count) (lm : m < 256) where
    method-is : method_place T k m ≡ stored_place (method_number P k m)
    method-is = let q : k * 576 + (256 + m) ≡ k * 576 + 256 + m = omega arith in
        ap (λ (x : ℕ). get_or T x 0) q ∙ h.classes.methods k m (omega (arith, h.counted)) lm

    pub the_method : (i : ℕ) → method_place T k m ≡ suc i → Called k m i
    the_method i e =
        let w = found_number P k m i (stored_some (method_number P k m) i (sym method-is ∙ e)) in
        called k m i w.0 w.1 w.2

    pub not_there : method_place T k m ≡ 0 → (world P).method k m ≡ none
    not_there e = found_none P k m (stored_none (method_number P k m) (sym method-is ∙ e))

  pub pre_method : (S : List ℕ) (top n k m i : ℕ) (ts : List ExprType) → Called k m i
      → length ts ≡ n → top + n ≤ length S → ((i : ℕ) → i < n → get_or S (top + i) 0 ≡ get_or (stored ts) i 0)
      → ((i : ℕ) (t : ExprType) → nth ts i ≡ some t → Declared (world P) t) → PreMethod R A M F S top n i
  pre_method S top n k m i ts g en lt st td = record {
    inside = g.inside;
    effect = g.effect_inside;
    line = g.line;
    fitting = λ e. let q : n ≡ length g.method.parameters = sym e ∙ g.counted in record {
      slots = lt;
      rows = omega (arith, g.after_lines, q);
      values = λ i l.
          let t = nth_some ts i (omega (arith, en)) in
          case_same (length A) (stored_case (get_or S (top + i) 0)) (typing_case t.0)
          (ap stored_case (st i l ∙ stored_at ts i t.0 t.1) ∙ stored_is t.0 (td i t.0 t.1))
          (case_low h t.0 (td i t.0 t.1));
      types = λ j l ne.
          let t = nth_some g.method.parameters j (omega (arith, q)) in
          let z = (line_at (TypeAt P_parameter R) g.method.parameters (method_line M i + 1) g.lines j
          t.0 t.1).first in
          omega (arith, z, (type_number_case h t.0 (g.parameters j t.0 t.1)).2 (λ y. ne (z ∙ y)));
    };
  }
