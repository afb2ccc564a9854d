-- What evaluation does with objects, as relations (002, section 3.2 and Figures 3 and 4): an object made, a field read,
-- a field written, a class changed. An object has a value for each field of its class in the order of 𝓕s, so its
-- superclass's first and its root's among these.
use Rattle.std.specs.Prelude.{◌≡◌, ℕ, ◌≤◌, List, ◌++◌, length, take, drop, set as replace}
use Rattle.std.proofs.Math.Option.{some}
use Rattle.language.specs.Lists.{nth}
use Rattle.language.specs.Tree.{DeclaredType, Field, Class}
use Rattle.language.specs.ClassRelations.{FieldAt, RootOf, FieldsOf}
use Rattle.language.specs.State.{Value, Object, initials}

module _ (P : List Class) where
  -- Figure 3, new: an object of class c, each field with the value that is initial for its type.
  pub data NewObject (c : ℕ) : Object → Type 0 where
    object_made : {fs : List Field} → FieldsOf P c fs
        → NewObject c (record { class_of = c; fields = initials fs })

  -- Figure 3, field: o(f) is v.
  pub data Reads (o : Object) (f : ℕ) (v : Value) : Type 0 where
    field_read : {fs : List Field} {i : ℕ} {t : DeclaredType}
        → FieldsOf P o.class_of fs → FieldAt f fs i t → nth o.fields i ≡ some v → Reads o f v

  -- Figure 3, a-field: o[f ↦ v]. DEPARTS: o(f) is defined if o's class has field f; the old value is not asked for.
  pub data Writes (o : Object) (f : ℕ) (v : Value) : Object → Type 0 where
    field_written : {fs : List Field} {i : ℕ} {t : DeclaredType}
        → FieldsOf P o.class_of fs → FieldAt f fs i t
        → Writes o f v (record { class_of = o.class_of; fields = replace o.fields i v })

  -- Figure 4, recl: o has a value for each field of the root of its class; these stay, and the other fields of d have
  -- the values that are initial for their types. DEPARTS: d has at least as many fields as stay, which the figure does not
  -- ask; typing gives d the same root.
  pub data ChangesTo (o : Object) (d : ℕ) : Object → Type 0 where
    class_changed : {r : ℕ} {kept fs : List Field}
        → RootOf P o.class_of r → FieldsOf P r kept → FieldsOf P d fs
        → length kept ≤ length o.fields → length kept ≤ length fs
        → ChangesTo o d (record {
          class_of = d;
          fields = take (length kept) o.fields ++ initials (drop (length kept) fs);
        })
