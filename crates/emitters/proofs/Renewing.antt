-- Laws of R: the inner block with its copies, then the whole. Assumes nothing.
use mathlib.Core.Path.{◌≡◌, refl, sym, ◌∙◌}
use mathlib.Core.List.{List, [], ◌∷◌}
use Prim.Native.Nat.{ℕ, zero, suc, ◌+◌, ◌*◌, ◌≤◌}
use native.Mathlib.Omega.{arith}
use lib.ListN.{length, get_or, length-append}
use Rattle.language.specs.Tree.{Field}
use Rattle.language.specs.Program.{world}
use Rattle.layout.specs.HeldLaws.{few_fields, roots}
use Rattle.emitters.specs.Lines.{most_numbers, copy_lines, renew_head, renew_lines, change_head}
use Rattle.emitters.specs.Lines.{change_lines, head_length}
use Rattle.emitters.specs.Writing.{Written, SomeCopies, SomeFields, CopiesWritten, RenewWritten}
use Rattle.emitters.specs.Writing.{SomeChange, ChangeWritten}
use Rattle.emitters.proofs.Writing.{written_then}
use Rattle.emitters.proofs.Lines.{copies_length}
use Rattle.emitters.proofs.Tabled.{fields_tabled}

renew_length : (n d r : ℕ) (fs : List Field) → length (renew_lines n d r fs) ≡ 56 + 16 * length fs
unfolding renew_lines
renew_length n d r fs =
    omega (arith, copies_length (n + 1) fs, length-append (copy_lines (n + 1) fs) (73 ∷ n ∷ 0 ∷ 0 ∷ []))

module _ {R T : List ℕ} {place root : ℕ} where
  pub renew_in : SomeCopies R T place root → root * 576 + 576 ≤ length T
  renew_in x = omega (arith, x.lent.held.headed.classes.long, x.declared)

-- the root has as many fields as were read
module _ {R T : List ℕ} {place root count : ℕ} (e : count ≡ get_or T (root * 576 + 515) 0) where
  pub renew_known : SomeCopies R T place root → (count ≤ 17) × (place + 16 * count ≤ most_numbers)
  renew_known x = let c = e ∙ x.lent.held.headed.classes.counts root x.declared in
      (omega (arith, c, few_fields x.lent.held.headed root), omega (arith, c, x.fits))

  pub renew_fields : SomeCopies R T place root → SomeFields R T (root * 576 + 520) count
  renew_fields x = record {
    fs = (world x.P).fields root;
    rows = fields_tabled x.lent root x.declared;
    counted = sym (e ∙ x.lent.held.headed.classes.counts root x.declared);
  }

  pub copies_ended : {O O' : List ℕ} {s p q : ℕ} → SomeCopies R T place root
      → CopiesWritten R T (root * 576 + 520) count s O O' p q → q ≡ p + 16 * count
  copies_ended {O} {O'} {s} x m = let y = renew_fields x in
      omega (arith, (m.each y.fs y.rows y.counted).ended, copies_length s y.fs, y.counted)

  pub renew_done : {O O₁ O₂ O₃ : List ℕ} {n d p q r : ℕ} → Written (renew_head n d root count) O O₁ place p
      → CopiesWritten R T (root * 576 + 520) count (n + 1) O₁ O₂ p q → Written (73 ∷ n ∷ 0 ∷ 0 ∷ []) O₂ O₃ q r
      → RenewWritten R T n d root O O₃ place r
  unfolding renew_lines
  renew_done {O} {O₁} {O₂} {O₃} {n} {d} h m l = record {
    each = λ x.
        let fs = (world x.P).fields root in
        let c = e ∙ x.lent.held.headed.classes.counts root x.declared in
        let h' : Written (renew_head n d root (length fs)) O O₁ place _ = rw c at h in
        written_then h' (written_then (m.each fs (fields_tabled x.lent root x.declared) (sym c)) l);
  }

-- ---- the whole

head_counted : (s n d r : ℕ) → length (change_head s n d r) ≡ head_length s
head_counted zero n d r = refl
head_counted (suc s) n d r = refl

head_ended : (s n d r : ℕ) {O O' : List ℕ} {place p : ℕ} → Written (change_head s n d r) O O' place p
    → p ≡ place + head_length s
head_ended s n d r h = omega (arith, h.ended, head_counted s n d r)

module _ {R T : List ℕ} {place s d : ℕ} where
  pub change_root : SomeChange R T place s d
      → (d * 576 + 576 ≤ length T) × (place + head_length s + 60 ≤ most_numbers)
  change_root x = (omega (arith, x.lent.held.headed.classes.long, x.declared), omega (arith, x.fits))

  root_copies : (x : SomeChange R T place s d) (p : ℕ) → p ≡ place + head_length s
      → SomeCopies R T (p + 56) ((world x.P).root d)
  root_copies x p q = record {
    P = x.P;
    E = x.E;
    M = x.M;
    C = x.C;
    lent = x.lent;
    declared = (roots x.lent.held d x.declared).0;
    fits = omega (arith, x.fits, q);
  }

-- the root that was read
module _ {R T : List ℕ} {place s d r : ℕ} (a : r ≡ get_or T (d * 576 + 514) 0) where
  root_read : (x : SomeChange R T place s d) → r ≡ (world x.P).root d
  root_read x = a ∙ x.lent.held.headed.classes.roots d x.declared

  pub change_copies : {O O' : List ℕ} {p : ℕ} (n : ℕ) → SomeChange R T place s d
      → Written (change_head s n d r) O O' place p → SomeCopies R T (p + 56) r
  change_copies {p = p} n x h = rw (root_read x) (root_copies x p (head_ended s n d r h))

  pub change_after : {O O₁ O₂ : List ℕ} {n p q : ℕ} → SomeChange R T place s d
      → Written (change_head s n d r) O O₁ place p → RenewWritten R T n d r O₁ O₂ p q → q + 4 ≤ most_numbers
  unfolding root_copies
  change_after {n = n} {p = p} x h m =
      let m' = rw (root_read x) at m in
      let w = m'.each (root_copies x p (head_ended s n d r h)) in
      omega (
        arith,
        w.ended,
        renew_length n d ((world x.P).root d) ((world x.P).fields ((world x.P).root d)),
        x.fits,
        head_ended s n d r h,
      )

  pub change_done : {O O₁ O₂ O₃ : List ℕ} {n p q p' : ℕ} → Written (change_head s n d r) O O₁ place p
      → RenewWritten R T n d r O₁ O₂ p q → Written (73 ∷ n ∷ 0 ∷ 0 ∷ []) O₂ O₃ q p'
      → ChangeWritten R T s n d O O₃ place p'
  unfolding change_lines root_copies
  change_done {n = n} {p = p} h m l = record {
    each = λ x.
        let z = root_read x in
        let h' = rw z at h in
        let m' = rw z at m in
        written_then h' (written_then (m'.each (root_copies x p (head_ended s n d r h))) l);
  }
