-- Where superclasses are earlier, what evaluation does with objects in the world of a class list is what the relations of
-- ObjectRelations have: an object made, a field read or written, a class changed; and so are the subclass test of K and
-- the methods of Q.
use mathlib.Core.Path.{◌≡◌, refl, subst}
use Prim.Native.Nat.{ℕ, ◌<◌}
use mathlib.Core.Option.{some}
use mathlib.Core.Bool.{Bool, true, false}
use mathlib.Core.List.{List}
use lib.ListN.{length}
use borrow.Author.Tests.{leb-true, le-leb}
use Rattle.language.proofs.Booleans.{and_inv}
use Rattle.language.specs.Lists.{bind_option_inv, inj}
use Rattle.language.specs.Tree.{Declaration, Class}
use Rattle.language.specs.World.{Method}
use Rattle.language.specs.Program.{class_at, world, world_with}
use Rattle.language.specs.ClassRelations.{Subclass, FindsMethod}
use Rattle.language.specs.State.{Value, Object}
use Rattle.language.specs.ObjectRelations.{NewObject, object_made, Reads, field_read, Writes, field_written}
use Rattle.language.specs.ObjectRelations.{ChangesTo, class_changed}
use Rattle.language.specs.Evaluation.{new_object, changed, field_of, with_field, keeps_fields}
use Rattle.theory.proofs.lookups.LookupsAgree.{field_place, place_field, fields_are, its_fields}
use Rattle.theory.proofs.lookups.LookupsAgree.{fields_told}
use Rattle.theory.proofs.lookups.LookupsAgree.{fields_found}
use Rattle.theory.proofs.lookups.LookupsAgree.{world_finds}
use Rattle.theory.proofs.lookups.MethodNumbers.{method_as}
use Rattle.theory.proofs.lookups.Superclasses.{root_is, root_one, test_subclass, subclass_test}

-- A method that is found, with the class that declares it.
pub data Found (P : List Class) (k m : ℕ) : Method → Type 0 where
  found : (owner : ℕ) (d : Declaration) → FindsMethod P k m owner d → Found P k m (method_as P owner d)

-- Superclasses come before their classes.
abbrev pub SupersEarlier : List Class → Type 0
SupersEarlier P = (k : ℕ) (c : Class) → class_at P k ≡ some c → c.super < k

module _ (P : List Class) (earlier : SupersEarlier P) where
  -- W.
  pub new_is : {c : ℕ} {o : Object} → NewObject P c o → new_object (world P) c ≡ o
  new_is (object_made x) = rw (fields_told P earlier x)

  pub is_new : (c : ℕ) → NewObject P c (new_object (world P) c)
  is_new c = object_made (fields_found P earlier c)

  -- G.
  pub reads_is : {o : Object} {f : ℕ} {v : Value} → Reads P o f v → field_of (world P) f o ≡ some v
  reads_is (field_read x y e) = rw (fields_told P earlier x, field_place y, e)

  pub is_reads : (o : Object) (f : ℕ) (v : Value) → field_of (world P) f o ≡ some v → Reads P o f v
  is_reads o f v e = bind_option_inv _ _ e λ i p q.
      field_read (fields_found P earlier o.class_of) (place_field f _ i p).1 q

  -- U.
  pub writes_is : {o o' : Object} {f : ℕ} {v : Value} → Writes P o f v o'
      → with_field (world P) f v o ≡ some o'
  writes_is (field_written x y) = rw (fields_told P earlier x, field_place y)

  pub is_writes : (o o' : Object) (f : ℕ) (v : Value) → with_field (world P) f v o ≡ some o'
      → Writes P o f v o'
  is_writes o o' f v e = bind_option_inv _ _ e λ i p q.
      subst (Writes P o f v) (inj q)
      (field_written (fields_found P earlier o.class_of) (place_field f _ i p).1)

  -- R.
  pub changes_is : {o o' : Object} {d : ℕ} → ChangesTo P o d o'
      → (keeps_fields (world P) d o ≡ true) × (changed (world P) d o ≡ o')
  unfolding world world_with
  changes_is {o} (class_changed {kept} {fs} r x y l m) =
      rw (
        root_one P earlier (root_is P earlier o.class_of) r,
        fields_are P earlier x,
        fields_are P earlier y,
      )
      (rw (le-leb (length kept) (length o.fields) l, le-leb (length kept) (length fs) m), refl)

  pub is_changes : (o : Object) (d : ℕ)
      → keeps_fields (world P) d o ≡ true
      → ChangesTo P o d (changed (world P) d o)
  unfolding world world_with
  is_changes o d e = let b = and_inv _ _ e in
      class_changed (root_is P earlier o.class_of) (its_fields P earlier _) (its_fields P earlier d)
      (leb-true _ (length o.fields) b.0) (leb-true _ (length ((world P).fields d)) b.1)

  -- K.
  pub below_is : {k d : ℕ} → Subclass P k d → (world P).below k d ≡ true
  unfolding world world_with
  below_is s = subclass_test P earlier s

  pub is_below : (k d : ℕ) → (world P).below k d ≡ true → Subclass P k d
  unfolding world world_with
  is_below k d e = test_subclass P earlier e

  pub not_below : (k d : ℕ) → (Subclass P k d → ⊥) → (world P).below k d ≡ false
  not_below k d n = go ((world P).below k d) refl
    where
      go : (b : Bool) → (world P).below k d ≡ b → b ≡ false
      go true e = absurd (n (is_below k d e))
      go false e = refl

  -- Q.
  pub is_method : (k m : ℕ) (M : Method) → (world P).method k m ≡ some M → Found P k m M
  is_method k m M e = let x = world_finds P earlier k m M e in
      subst (Found P k m) x.is (found x.owner x.declaration x.finds)
