-- What the translation needs of names and of how much there is of each holds of the programs that the
-- translator takes.
use mathlib.Core.Path.{◌≡◌, refl}
use Prim.Native.Nat.{ℕ, zero, suc, ◌≤◌}
use mathlib.Core.Option.{Option, none, some}
use mathlib.Core.List.{List, [], ◌++◌}
use Rattle.language.specs.Limits.{Most, of_translator}
use Rattle.language.specs.Lists.{given, Never}
use Rattle.language.specs.Tree.{Field, Class, Program}
use Rattle.language.specs.World.{World}
use Rattle.language.specs.Program.{class_at, fields_at, world, world_with}
use Rattle.language.specs.WellFormed.{Each, each_nil, each_cons, FieldInForm, ClassInForm, ProgramInForm}
use Rattle.theory.proofs.lookups.LookupLaws.{each_at, each_append}
use Rattle.theory.proofs.lookups.TranslatorLookups.{MoreLaws, TranslatorLaws}
use Rattle.theory.proofs.translation.PlainTypes.{NameLaws}
use Rattle.theory.proofs.translation.PlainSizes.{Small}

-- The laws of names are among those of a program that the translator takes.
pub name_laws : (W : World) → MoreLaws W → TranslatorLaws W → NameLaws W
name_laws W m t = record {
  declared_field = λ c n i e. m.declared_field c n i e;
  declared_method = λ c n M e. m.declared_method c n M e;
  declared_new = λ c e. m.declared_new c e;
  declared_root = λ c d. m.declared_root c d;
  unique = λ c i f e. m.unique c i f e;
  unreserved = λ c n i e. (t.unreserved n c i e).0;
  top = λ c. m.top c;
}

names_of : (most : Most) {fs : List Field} → Each (FieldInForm most) fs
    → Each (λ (f : Field). f.name ≤ most.name) fs
names_of most each_nil = each_nil
names_of most (each_cons i is) = each_cons i.name (names_of most is)

-- Every field has a name within the limit.
names_small : (most : Most) (P : List Class) → Each (ClassInForm most) P → (n k : ℕ)
    → Each (λ (f : Field). f.name ≤ most.name) (fields_at P n k)
unfolding fields_at class_at
names_small most P form zero k = each_nil
names_small most P form (suc n) k = go (class_at P k) refl (λ j. names_small most P form n j)
  where
    class-form : (k : ℕ) (c : Class) → class_at P k ≡ some c → ClassInForm most c
    class-form k c e = of-class P form k c e
      where
        of-class : (P : List Class) → Each (ClassInForm most) P → (k : ℕ) (c : Class) → class_at P k ≡ some c
            → ClassInForm most c
        of-class P form zero c e = absurd (Never e)
        of-class P form (suc i) c e = each_at form i c e

    go : (o : Option Class) → class_at P k ≡ o
        → ((j : ℕ) → Each (λ (f : Field). f.name ≤ most.name) (fields_at P n j))
        → Each (λ (f : Field). f.name ≤ most.name) (given o [] (λ c. fields_at P n c.super ++ c.fields))
    go none e ih = each_nil
    go (some c) e ih = each_append (ih c.super) (names_of most (class-form k c e).fields)

-- A program that the translator takes is small.
pub small_world : (p : Program) → ProgramInForm of_translator p → TranslatorLaws (world p.classes)
    → Small (world p.classes)
unfolding world world_with
small_world p i t = record {
  classes = i.few;
  fields = λ c. t.few c;
  names = λ c. names_small of_translator p.classes i.classes (suc c) c;
  parameters = λ c m M e. t.short c m M e;
}
