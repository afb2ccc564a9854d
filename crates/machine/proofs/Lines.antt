-- Rows of which none has a given letter. Assumes nothing.
use mathlib.Core.Path.{◌≡◌, refl, sym, ◌∙◌}
use mathlib.Core.Logic.{◌⊎◌, inl, inr}
use mathlib.Core.List.{List, [], ◌∷◌}
use Prim.Native.Nat.{ℕ, suc, ◌+◌, ◌-◌, ◌*◌, ◌≤◌, ◌<◌}
use native.Mathlib.Omega.{arith}
use lib.ListN.{length, get_or}
use Rattle.language.specs.Rows.{Letter, code}
use Rattle.language.specs.Tree.{Expr, literal, literal_true, literal_false, literal_null, slot}
use Rattle.language.specs.Tree.{is_null, get, cast, new, change, assign, set, call, choose, block, Exprs, nil}
use Rattle.language.specs.Tree.{cons, size, sizes, Declaration, method_lines, methods_lines, heading_lines}
use Rattle.language.specs.Tree.{Class, class_lines, classes_lines}
use Rattle.language.specs.Encoded.{RowAt, LinesAt, Encoded, EncodedAll}
use Rattle.language.specs.Layout.{EachMethod, EachClass, MethodAt, ClassAt}
use Rattle.language.proofs.Lines.{each_line}
use Rattle.objects.proofs.Nth.{lt_or}

-- None of n rows from a row on has a letter of code x.
pub record Without (R : List ℕ) (x from n : ℕ) : Type 0 where
  pub none : (i : ℕ) → from ≤ i → i < from + n → get_or R (i * 4) 0 ≡ x → ⊥

without_nil : {R : List ℕ} {x r : ℕ} → Without R x r 0
without_nil = record { none = λ i a b e. omega arith }

without_row : {R : List ℕ} {x r a b : ℕ} {l : Letter} → (code l ≡ x → ⊥) → RowAt R r l a b
    → Without R x r 1
without_row {R} {x} {r} n h =
    record { none = λ i a b e. let z : i ≡ r = omega arith in n (sym h.letter ∙ (rw z at e)) }

without_then : {R : List ℕ} {x : ℕ} (r m r' n k : ℕ) → Without R x r m → Without R x r' n → r + m ≡ r'
    → m + n ≡ k → Without R x r k
without_then {R} {x} r m r' n k p q s t = record { none = λ i a b e. go i a b e (lt_or i r') }
  where
    go : (i : ℕ) → r ≤ i → i < r + k → get_or R (i * 4) 0 ≡ x → (i < r') ⊎ (r' ≤ i) → ⊥
    go i a b e (inl l) = p.none i a (omega arith) e
    go i a b e (inr l) = q.none i l (omega arith) e

-- Lines of which none has the letter.
without_lines : {A : Type 0} {Q : A → ℕ → Type 0} {R : List ℕ} {x : ℕ}
    → ((y : A) (i : ℕ) → Q y i → get_or R (i * 4) 0 ≡ x → ⊥) → (xs : List A) (r : ℕ) → LinesAt Q xs r
    → Without R x r (length xs)
without_lines {Q = Q} {R} {x} other xs r h = record {
  none = λ i a b e. let z : i ≡ r + (i - r) = omega arith in
      each_line Q (λ i. get_or R (i * 4) 0 ≡ x → ⊥) other xs r h (i - r) (omega arith) (rw z at e);
}

-- Before the S line of a program there is no other.
module _ (R E : List ℕ) where
  abbrev No : ℕ → ℕ → Type 0
  No r n = Without R 83 r n

  mutual
    unfolding Encoded size

    no_start : (e : Expr) (r : ℕ) → Encoded R E e r → No r (size e)
    no_start (literal literal_true) r h = without_row (λ e. omega arith) h.row
    no_start (literal literal_false) r h = without_row (λ e. omega arith) h.row
    no_start (literal literal_null) r h = without_row (λ e. omega arith) h.row
    no_start (slot k) r h = without_row (λ e. omega arith) h.row
    no_start (new c) r h = without_row (λ e. omega arith) h.row
    no_start (change k d) r h = without_row (λ e. omega arith) h.row
    no_start (is_null e) r h =
        without_then r 1 (r + 1) (size e) (1 + size e) (without_row (λ e. omega arith) h.0.row)
        (no_start e (r + 1) h.1) refl refl
    no_start (get f e) r h =
        without_then r 1 (r + 1) (size e) (1 + size e) (without_row (λ e. omega arith) h.0.row)
        (no_start e (r + 1) h.1) refl refl
    no_start (cast c e) r h =
        without_then r 1 (r + 1) (size e) (1 + size e) (without_row (λ e. omega arith) h.0.row)
        (no_start e (r + 1) h.1) refl refl
    no_start (assign k e) r h =
        without_then r 1 (r + 1) (size e) (1 + size e) (without_row (λ e. omega arith) h.0.row)
        (no_start e (r + 1) h.1) refl refl
    no_start (set f e e') r h =
        let a = without_then r 1 (r + 1) (size e) (1 + size e) (without_row (λ e. omega arith) h.0.row)
        (no_start e (r + 1) h.1) refl refl in
        without_then r (1 + size e) (r + 1 + size e) (size e') (1 + size e + size e') a
        (no_start e' (r + 1 + size e) h.2) (omega arith) refl
    no_start (call m e es) r h =
        let a = without_then r 1 (r + 1) (size e) (1 + size e) (without_row (λ e. omega arith) h.0.row)
        (no_start e (r + 1) h.1) refl refl in
        without_then r (1 + size e) (r + 1 + size e) (sizes es) (1 + size e + sizes es) a
        (no_starts es (r + 1 + size e) h.2) (omega arith) refl
    no_start (choose a b c) r h =
        let x = without_then r 1 (r + 1) (size a) (1 + size a) (without_row (λ e. omega arith) h.0.row)
        (no_start a (r + 1) h.1) refl refl in
        let y = without_then r (1 + size a) (r + 1 + size a) (size b) (1 + size a + size b) x
        (no_start b (r + 1 + size a) h.2) (omega arith) refl in
        without_then r (1 + size a + size b) (r + 1 + size a + size b) (size c) (1 + size a + size b + size c)
        y (no_start c (r + 1 + size a + size b) h.3) (omega arith) refl
    no_start (block ts es) r h =
        let a : No r (1 + length ts) = without_then r 1 (r + 1) (length ts) (1 + length ts)
        (without_row (λ e. omega arith) h.0.row)
        (without_lines (λ t i v e. omega (arith, v.letter, e)) ts (r + 1) h.1) refl refl in
        without_then r (1 + length ts) (r + 1 + length ts) (sizes es) (1 + length ts + sizes es) a
        (no_starts es (r + 1 + length ts) h.2) (omega arith) refl

    no_starts : (es : Exprs) (r : ℕ) → EncodedAll R E es r → No r (sizes es)
    no_starts nil r h = without_nil
    no_starts (cons e es) r h =
        without_then r (size e) (r + size e) (sizes es) (size e + sizes es) (no_start e r h.0)
        (no_starts es (r + size e) h.1) refl refl

  no_method : (m : Declaration) (r : ℕ) → MethodAt R E m r → No r (method_lines m)
  unfolding method_lines heading_lines
  no_method m r h =
      let np = length m.parameters in
      let nx = length m.effects in
      let a : No r (1 + np) =
      without_then r 1 (r + 1) np (1 + np) (without_row (λ e. omega arith) h.line)
      (without_lines (λ t i v e. omega (arith, v.letter, e)) m.parameters (r + 1) h.parameters) refl
      refl in
      let b : No r (1 + np + nx) =
      without_then r (1 + np) (r + 1 + np) nx (1 + np + nx) a
      (without_lines (λ c i v e. omega (arith, v.letter, e)) m.effects (r + 1 + np) h.effects)
      (omega arith) refl in
      without_then r (1 + np + nx) (r + 1 + np + nx) (size m.body) (1 + np + nx + size m.body) b
      (no_start m.body (r + 1 + np + nx) h.body) (omega arith) refl

  no_methods : (ms : List Declaration) (k r : ℕ) → EachMethod (λ k m r. MethodAt R E m r) ms k r
      → No r (methods_lines ms)
  unfolding EachMethod methods_lines
  no_methods [] k r h = without_nil
  no_methods (m ∷ ms) k r h =
      without_then r (method_lines m) (r + method_lines m) (methods_lines ms)
      (method_lines m + methods_lines ms) (no_method m r h.0) (no_methods ms k (r + method_lines m) h.1)
      refl refl

  no_class : (k : ℕ) (c : Class) (r : ℕ) → ClassAt R E k c r → No r (class_lines c)
  unfolding class_lines
  no_class k c r h =
      let nf = length c.fields in
      let a : No r (1 + nf) =
      without_then r 1 (r + 1) nf (1 + nf) (without_row (λ e. omega arith) h.line)
      (without_lines (λ f i v e. omega (arith, v.letter, e)) c.fields (r + 1) h.fields) refl refl in
      without_then r (1 + nf) (r + 1 + nf) (methods_lines c.methods) (1 + nf + methods_lines c.methods)
      a (no_methods c.methods k (r + 1 + nf) h.methods) (omega arith) refl

  pub no_classes : (cs : List Class) (k r : ℕ) → EachClass (ClassAt R E) cs k r → No r (classes_lines cs)
  unfolding EachClass classes_lines
  no_classes [] k r h = without_nil
  no_classes (c ∷ cs) k r h =
      without_then r (class_lines c) (r + class_lines c) (classes_lines cs) (class_lines c + classes_lines cs)
      (no_class k c r h.0) (no_classes cs (suc k) (r + class_lines c) h.1) refl refl
