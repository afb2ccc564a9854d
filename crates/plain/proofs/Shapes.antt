-- Laws of shapes: which of the plain slots are variables, the plain slot of a source slot, and what becomes
-- of these where temporaries or a block's locals are added. Assumes nothing.
use mathlib.Core.Path.{◌≡◌, refl, sym, ap, ◌∙◌}
use mathlib.Core.Bool.{true, false}
use mathlib.Core.Logic.{◌⊎◌, inl, inr}
use mathlib.Core.List.{List, [], ◌∷◌, ◌++◌}
use Prim.Native.Nat.{ℕ, zero, suc, ◌+◌, ◌-◌, ◌≤◌, ◌<◌}
use native.Mathlib.Omega.{arith}
use lib.ListN.{length, get_or, length-append, length-map}
use Rattle.language.specs.Tree.{DeclaredType, Class}
use Rattle.language.specs.Translation.{Shape, position, plain_slot, variables}
use Rattle.language.proofs.Lines.{le_or_less}
use Rattle.theory.proofs.translation.PlainForm.{variable_count, count_append, count_variables}
use Rattle.plain.specs.Tasks.{Setting}
use Rattle.emitters.specs.Writing.{Extended}

position_kept : (a b : Shape) (k : ℕ) → k < variable_count a → position (a ++ b) k ≡ position a k
unfolding position variable_count
position_kept [] b k h = absurd (omega (arith, h))
position_kept (true ∷ a) b zero h = refl
position_kept (true ∷ a) b (suc k) h = ap suc (position_kept a b k (omega (arith, h)))
position_kept (false ∷ a) b k h = ap suc (position_kept a b k h)

plain_slot_kept : (a b : Shape) (k : ℕ) → k < suc (variable_count a) → plain_slot (a ++ b) k ≡ plain_slot a k
unfolding plain_slot
plain_slot_kept a b zero h = refl
plain_slot_kept a b (suc k) h = ap suc (position_kept a b k (omega (arith, h)))

position_all : (ts : List DeclaredType) (i : ℕ) → i < length ts → position (variables ts) i ≡ i
unfolding position
position_all [] i h = absurd (omega (arith, h))
position_all (t ∷ ts) zero h = refl
position_all (t ∷ ts) (suc i) h = ap suc (position_all ts i (omega (arith, h)))

position_added : (a : Shape) (ts : List DeclaredType) (k i : ℕ) → k ≡ variable_count a + i → i < length ts
    → position (a ++ variables ts) k ≡ length a + i
unfolding position variable_count
position_added [] ts k i e h = let z : k ≡ i = omega (arith, e) in rw z (position_all ts i h ∙ omega arith)
position_added (true ∷ a) ts zero i e h = absurd (omega (arith, e))
position_added (true ∷ a) ts (suc k) i e h = let r = position_added a ts k i (omega (arith, e)) h in
    omega (arith, r)
position_added (false ∷ a) ts k i e h = let r = position_added a ts k i e h in omega (arith, r)

module _ {P : List Class} {E R T M C S : List ℕ} {sh : Shape} {vars next : ℕ}
    (x : Setting P E R T M C S sh vars next)
  where
    -- temporaries added
    pub setting_temporaries : (fs : Shape) → variable_count fs ≡ 0
        → Setting P E R T M C S (sh ++ fs) vars (next + length fs)
    setting_temporaries fs z = record {
      lent = x.lent;
      wide = x.wide;
      scope = x.scope;
      variables = omega (arith, x.variables, count_append sh fs, z);
      free = omega (arith, x.free, length-append sh fs);
      renumbered = λ k h. x.renumbered k h ∙ sym (plain_slot_kept sh fs k (omega (arith, h, x.variables)));
    }

    -- a block's locals added
    pub setting_locals : (ts : List DeclaredType) (S' : List ℕ) → Extended S S' vars next (length ts)
        → vars + length ts ≤ 32
        → Setting P E R T M C S' (sh ++ variables ts) (vars + length ts) (next + length ts)
    unfolding plain_slot
    setting_locals ts S' y h = record {
      lent = x.lent;
      wide = y.wide;
      scope = h;
      variables = omega (arith, x.variables, count_append sh (variables ts), count_variables ts);
      free = omega (arith, x.free, length-append sh (variables ts), length-map ts (λ t. true));
      renumbered = λ k l. go k l (le_or_less vars k);
    }
      where
        go : (k : ℕ) → k < vars + length ts → (vars ≤ k) ⊎ (k < vars)
            → get_or S' k 0 ≡ plain_slot (sh ++ variables ts) k
        go k l (inr h) = y.kept k h ∙ x.renumbered k h
            ∙ sym (plain_slot_kept sh (variables ts) k (omega (arith, h, x.variables)))
        go k l (inl h) =
            let i = k - vars in
            let a : vars + i ≡ k = omega (arith, h) in
            let b : k ≡ suc (variable_count sh + i) = omega (arith, h, x.variables) in
            let c : get_or S' k 0 ≡ next + i = rw a at (y.added i (omega (arith, h, l))) in
            let d : next + i ≡ suc (length sh + i) = omega (arith, x.free) in
            c ∙ d ∙ ap suc (sym (position_added sh ts (variable_count sh + i) i refl (omega (arith, h, l))))
            ∙ ap (λ (m : ℕ). plain_slot (sh ++ variables ts) m) (sym b)

-- a slot's plain slot
pub slot_at : {P : List Class} {E R T M C S : List ℕ} {sh : Shape} {vars next j k : ℕ}
    → Setting P E R T M C S sh vars next → j ≡ k → k < vars → get_or S j 0 ≡ plain_slot sh k
slot_at x e h = rw e (x.renumbered _ h)
