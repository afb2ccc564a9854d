-- Methods of a program by number: what a class declares is found by its number, and the methods of classes in order have
-- consecutive numbers.
use mathlib.Core.Path.{◌≡◌, refl, ap, ◌∙◌}
use Prim.Native.Nat.{ℕ, suc, ◌+◌}
use mathlib.Core.Option.{some}
use mathlib.Core.List.{List, ◌∷◌}
use lib.ListN.{length}
use native.Mathlib.Omega.{arith}
use Rattle.language.specs.Lists.{nth, nth_append}
use Rattle.language.specs.Tree.{Declaration, Class}
use Rattle.language.specs.World.{Method}
use Rattle.language.specs.Effects.{effect_of_all}
use Rattle.language.specs.Program.{declared, class_at, number_at, method_of, methods_of, effect_in, body_in}
use Rattle.language.specs.Program.{world}
use Rattle.language.specs.Program.{world_with}
use Rattle.language.proofs.Worlds.{declared_there, effect_there, body_there, nth_after}

module _ (P : List Class) where
  -- The method that class k declares as d, as a lookup finds it.
  abbrev pub method_as : ℕ → Declaration → Method
  method_as k d = record {
    number = number_at P k d.name;
    owner = k;
    result = d.result;
    parameters = d.parameters;
    effect = effect_of_all d.effects;
  }

  -- Its number gives its effect and its body.
  own_number : (k m : ℕ) (c : Class) (d : Declaration) → declared c.methods m ≡ some d
      → number_at P k d.name ≡ number_at P k m
  own_number k m c d q = ap (number_at P k) (declared_there c.methods m d q).name

  pub own_effect : (k m : ℕ) (c : Class) (d : Declaration) → class_at P k ≡ some c
      → declared c.methods m ≡ some d → effect_in P (number_at P k d.name) ≡ effect_of_all d.effects
  own_effect k m c d p q = ap (effect_in P) (own_number k m c d q) ∙ effect_there P k m c d p q

  pub own_body : (k m : ℕ) (c : Class) (d : Declaration) → class_at P k ≡ some c
      → declared c.methods m ≡ some d → body_in P (number_at P k d.name) ≡ d.body
  own_body k m c d p q = ap (body_in P) (own_number k m c d q) ∙ body_there P k m c d p q

  pub own_method : (k m : ℕ) (c : Class) (d : Declaration) → class_at P k ≡ some c
      → declared c.methods m ≡ some d → method_of P (effect_in P) k d ≡ method_as k d
  own_method k m c d p q = rw (own_effect k m c d p q)

  -- Some methods have the numbers from one on.
  abbrev pub NumberedFrom : ℕ → List Declaration → Type 0
  NumberedFrom n ds = (i : ℕ) (d : Declaration) → nth ds i ≡ some d → nth (methods_of P) (n + i) ≡ some d

  -- The first of them has that effect in the world of the program.
  pub first_effect : (n : ℕ) (d : Declaration) (ds : List Declaration) → NumberedFrom n (d ∷ ds)
      → (world P).effect n ≡ effect_of_all d.effects
  unfolding world world_with effect_in nth
  first_effect n d ds h = let z : n + 0 ≡ n = omega arith in
      let e : nth (methods_of P) n ≡ some d = rw z at (h 0 d refl) in rw e

  pub numbered_rest : (n : ℕ) (d : Declaration) (ds : List Declaration) → NumberedFrom n (d ∷ ds)
      → NumberedFrom (suc n) ds
  unfolding nth
  numbered_rest n d ds h i x e = let z : suc n + i ≡ n + suc i = omega arith in rw z (h (suc i) x e)

  -- All methods are numbered from 0 on; those of a class come before those of the next.
  pub numbered_all : NumberedFrom 0 (methods_of P)
  numbered_all i d e = let z : 0 + i ≡ i = omega arith in rw z e

  pub numbered_class : (n : ℕ) (c : Class) (cs : List Class) → NumberedFrom n (methods_of (c ∷ cs))
      → NumberedFrom n c.methods
  unfolding methods_of
  numbered_class n c cs h i d e = h i d (nth_append c.methods (methods_of cs) i d e)

  pub numbered_classes : (n : ℕ) (c : Class) (cs : List Class) → NumberedFrom n (methods_of (c ∷ cs))
      → NumberedFrom (n + length c.methods) (methods_of cs)
  unfolding methods_of
  numbered_classes n c cs h i d e =
      let z : (n + length c.methods) + i ≡ n + (length c.methods + i) = omega arith in
      rw z (h (length c.methods + i) d (nth_after c.methods (methods_of cs) i ∙ e))
