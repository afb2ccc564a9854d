-- Laws of the methods of a program by number: what a lookup finds is the method of its number. Assumes nothing.
use mathlib.Core.Path.{◌≡◌, refl, ap, ◌∙◌, sym, subst}
use mathlib.Core.Option.{Option, none, some}
use mathlib.Core.List.{List, [], ◌∷◌, ◌++◌}
use Prim.Native.Nat.{ℕ, zero, suc, ◌+◌}
use native.Mathlib.Omega.{arith}
use lib.ListN.{length, take, length-append}
use Rattle.language.specs.Lists.{nth, given, Never, inj, nth_append}
use Rattle.language.specs.Tree.{Declaration, method_lines, Class, class_lines}
use Rattle.language.specs.World.{Method}
use Rattle.language.specs.Effects.{effect_of_all}
use Rattle.language.specs.Program.{declared, methods_of, class_at, number_at, method_of, method_at}
use Rattle.language.specs.Program.{effect_in}
use Rattle.language.specs.Program.{body_in, world, world_with}
use Rattle.language.specs.MethodTables.{PlacedMethod, placed_in, placed_from, placed_methods}
use Rattle.language.proofs.Worlds.{declared_there, nth_after, number_is, effect_there, body_there}

-- A declaration of class k stands at a place among placed methods.
record At (l : List PlacedMethod) (i k : ℕ) (d : Declaration) : Type 0 where
  placed : PlacedMethod
  there : nth l i ≡ some placed
  declaration : placed.declaration ≡ d
  owner : placed.owner ≡ k

in_class : (k r : ℕ) (ds : List Declaration) (j : ℕ) (d : Declaration) → nth ds j ≡ some d
    → At (placed_in k r ds) j k d
unfolding nth placed_in
in_class k r [] j d e = absurd (Never e)
in_class k r (x ∷ ds) zero d e =
    record {
      placed = record { declaration = x; owner = k; row = r };
      there = refl;
      declaration = inj e;
      owner = refl;
    }
in_class k r (x ∷ ds) (suc j) d e = let y = in_class k (r + method_lines x) ds j d e in
    record { placed = y.placed; there = y.there; declaration = y.declaration; owner = y.owner }

pub placed_long : (k r : ℕ) (ds : List Declaration) → length (placed_in k r ds) ≡ length ds
unfolding placed_in
placed_long k r [] = refl
placed_long k r (d ∷ ds) = ap suc (placed_long k (r + method_lines d) ds)

-- Method j of the i-th of some classes, the first of which has number k.
in_classes : (k r : ℕ) (P : List Class) (i j : ℕ) (c : Class) (d : Declaration) → nth P i ≡ some c
    → nth c.methods j ≡ some d → At (placed_from k r P) (length (methods_of (take i P)) + j) (k + i) d
unfolding nth placed_from methods_of
in_classes k r [] i j c d e f = absurd (Never e)
in_classes k r (y ∷ P) zero j c d e f =
    let h : y.methods ≡ c.methods = ap (λ (z : Class). z.methods) (inj e) in
    let here = placed_in k (r + 1 + length y.fields) y.methods in
    let x = in_class k (r + 1 + length y.fields) y.methods j d (rw h f) in
    let q : 0 + j ≡ j = omega arith in
    record {
      placed = x.placed;
      there = rw q (nth_append here (placed_from (suc k) (r + class_lines y) P) j x.placed x.there);
      declaration = x.declaration;
      owner = omega (arith, x.owner);
    }
in_classes k r (y ∷ P) (suc i) j c d e f =
    let here = placed_in k (r + 1 + length y.fields) y.methods in
    let n = length (methods_of (take i P)) in
    let x = in_classes (suc k) (r + class_lines y) P i j c d e f in
    let q : length (y.methods ++ methods_of (take i P)) + j ≡ length here + (n + j) =
    omega (
      arith,
      length-append y.methods (methods_of (take i P)),
      placed_long k (r + 1 + length y.fields) y.methods,
    ) in
    record {
      placed = x.placed;
      there = rw (q, nth_after here (placed_from (suc k) (r + class_lines y) P) (n + j)) x.there;
      declaration = x.declaration;
      owner = omega (arith, x.owner);
    }

-- What a lookup under name m finds: the method of its number, as it is declared.
pub record FoundMethod (P : List Class) (m : ℕ) (M : Method) : Type 0 where
  pub placed : PlacedMethod
  pub there : nth (placed_methods P) M.number ≡ some placed
  pub name : placed.declaration.name ≡ m
  pub owner : M.owner ≡ placed.owner
  pub result : M.result ≡ placed.declaration.result
  pub parameters : M.parameters ≡ placed.declaration.parameters
  pub effect : M.effect ≡ effect_of_all placed.declaration.effects
  pub body : body_in P M.number ≡ placed.declaration.body

-- The same of a declaration that class k has under that name.
own_found : (P : List Class) (k m : ℕ) (c : Class) (d : Declaration) → class_at P k ≡ some c
    → declared c.methods m ≡ some d → FoundMethod P m (method_of P (effect_in P) k d)
unfolding class_at placed_methods
own_found P zero m c d e f = absurd (Never e)
own_found P (suc i) m c d e f =
    let y = declared_there c.methods m d f in
    let x = in_classes 1 0 P i y.place c d e y.there in
    let same = sym x.declaration in
    let z : number_at P (suc i) d.name ≡ number_at P (suc i) m = ap (number_at P (suc i)) y.name in
    record {
      placed = x.placed;
      there = rw (z, number_is P i m c y.place e y.is) x.there;
      name = ap (λ (z : Declaration). z.name) x.declaration ∙ y.name;
      owner = omega (arith, x.owner);
      result = ap (λ (z : Declaration). z.result) same;
      parameters = ap (λ (z : Declaration). z.parameters) same;
      effect = rw z (effect_there P (suc i) m c d e f ∙ ap (λ (z : Declaration). effect_of_all z.effects)
          same);
      body = rw z (body_there P (suc i) m c d e f ∙ ap (λ (z : Declaration). z.body) same);
    }

going_found : (P : List Class) (n k m : ℕ) (M : Method) → method_at P (effect_in P) n k m ≡ some M
    → FoundMethod P m M
unfolding method_at
going_found P zero k m M e = absurd (Never e)
going_found P (suc n) k m M e = go (class_at P k) refl (λ c e. going_found P n c.super m M e) e
  where
    own : (c : Class) → class_at P k ≡ some c → (o : Option Declaration) → declared c.methods m ≡ o
        → (method_at P (effect_in P) n c.super m ≡ some M → FoundMethod P m M)
        → given o (method_at P (effect_in P) n c.super m) (λ d. some (method_of P (effect_in P) k d))
        ≡ some M
        → FoundMethod P m M
    own c p none q rec e = rec e
    own c p (some d) q rec e = subst (FoundMethod P m) (inj e) (own_found P k m c d p q)

    go : (o : Option Class) → class_at P k ≡ o
        → ((c : Class) → method_at P (effect_in P) n c.super m ≡ some M → FoundMethod P m M)
        → given o none (λ c. given (declared c.methods m) (method_at P (effect_in P) n c.super m)
        (λ d. some (method_of P (effect_in P) k d)))
        ≡ some M
        → FoundMethod P m M
    go none p rec e = absurd (Never e)
    go (some c) p rec e = own c p (declared c.methods m) refl (rec c) e

pub method_found : (P : List Class) (k m : ℕ) (M : Method) → (world P).method k m ≡ some M → FoundMethod P m M
unfolding world world_with
method_found P k m M e = going_found P (suc k) k m M e
