-- What stands in a program's classes, as relations (002, Appendix A with Figures 20 and 21, and 𝓡 of section 3.2):
-- subclasses, least upper bounds, roots, fields, methods, and which types are declared.
-- `class_at P k ≡ some c` is 𝓒(p, k) of the appendix: class k is declared, and is c. Classes count from 1; 0 is Object.
-- Each place where document 01 departs from 002 is marked DEPARTS.
use Rattle.std.specs.Prelude.{◌≡◌, ℕ, suc, ◌≤◌, List, [], ◌∷◌, ◌++◌, ◌≢◌, length}
use Rattle.std.proofs.Math.Option.{none, some}
use Rattle.language.specs.Limits.{object_class}
use Rattle.language.specs.Tree.{DeclaredType, bool, class, root, state, Field, Declaration, Class}
use Rattle.language.specs.Program.{class_at}

-- The field of a name among fields: its place, from 0, and its type. It is the first of that name; a well-formed class
-- has no two of one name, inherited ones included.
pub data FieldAt (n : ℕ) : List Field → ℕ → DeclaredType → Type 0 where
  field_here : {f : Field} {fs : List Field} → f.name ≡ n → FieldAt n (f ∷ fs) 0 f.type
  field_later : {f : Field} {fs : List Field} {i : ℕ} {t : DeclaredType}
      → f.name ≢ n → FieldAt n fs i t → FieldAt n (f ∷ fs) (suc i) t

-- 𝓜𝓓: the method of a name among those that one class declares. It is the first of that name; a well-formed class has
-- no two of one name.
pub data Declares (m : ℕ) : List Declaration → Declaration → Type 0 where
  declares_here : {d : Declaration} {ds : List Declaration} → d.name ≡ m → Declares m (d ∷ ds) d
  declares_later : {d e : Declaration} {ds : List Declaration}
      → d.name ≢ m → Declares m ds e → Declares m (d ∷ ds) e

-- 𝓜𝓓 is undefined: none of them has the name.
pub data Undeclared (m : ℕ) : List Declaration → Type 0 where
  undeclared_nil : Undeclared m []
  undeclared_cons : {d : Declaration} {ds : List Declaration}
      → d.name ≢ m → Undeclared m ds → Undeclared m (d ∷ ds)

module _ (P : List Class) where
  -- Figure 20, ⊑: a class and those above it. DEPARTS: a number that is no class is right below Object.
  pub data Subclass : ℕ → ℕ → Type 0 where
    itself : {k : ℕ} → Subclass k k
    below_object : {k : ℕ} → class_at P k ≡ none → Subclass k object_class
    above : {k d : ℕ} (c : Class) → class_at P k ≡ some c → Subclass c.super d → Subclass k d

  -- Figure 21, ⊔: the least upper bound of two classes.
  pub record Nearest (c d m : ℕ) : Type 0 where
    pub left : Subclass c m
    pub right : Subclass d m
    pub least : (e : ℕ) → Subclass c e → Subclass d e → Subclass m e

  -- 𝓡: a state class has the root of its superclass; any other class, and a number that is no class, is its own.
  pub data RootOf : ℕ → ℕ → Type 0 where
    root_none : {k : ℕ} → class_at P k ≡ none → RootOf k k
    root_stays : {k : ℕ} (c : Class) → class_at P k ≡ some c → c.kind ≢ state → RootOf k k
    root_above : {k r : ℕ} (c : Class) → class_at P k ≡ some c → c.kind ≡ state → RootOf c.super r
        → RootOf k r

  -- 𝓕s: the fields of a class, those of its superclass first; Object has none. 002 has no order among them.
  pub data FieldsOf : ℕ → List Field → Type 0 where
    fields_none : {k : ℕ} → class_at P k ≡ none → FieldsOf k []
    fields_more : {k : ℕ} {fs : List Field} (c : Class) → class_at P k ≡ some c → FieldsOf c.super fs
        → FieldsOf k (fs ++ c.fields)

  -- 𝓜: class k finds method m as d, which class o declares: its own, or else the one that its superclass finds.
  pub data FindsMethod : ℕ → ℕ → ℕ → Declaration → Type 0 where
    finds_own : {k m : ℕ} {d : Declaration} (c : Class) → class_at P k ≡ some c → Declares m c.methods d
        → FindsMethod k m k d
    finds_above : {k m o : ℕ} {d : Declaration} (c : Class) → class_at P k ≡ some c
        → Undeclared m c.methods → FindsMethod c.super m o d → FindsMethod k m o d

  -- Bool, or a class that is declared. DEPARTS: Object, 0, counts as declared.
  pub data TypeDeclared : DeclaredType → Type 0 where
    bool_declared : TypeDeclared bool
    class_declared : {k : ℕ} → k ≤ length P → TypeDeclared (class k)

  -- Figure 20, ◇ft: the types that a field may have. DEPARTS: Object is one of them.
  pub data FieldType : DeclaredType → Type 0 where
    field_bool : FieldType bool
    field_object : FieldType (class object_class)
    field_class : {k : ℕ} (c : Class) → class_at P k ≡ some c → c.kind ≢ state → FieldType (class k)

  -- Figure 20, ◇rt: the classes that an object may change to.
  pub data Changeable : ℕ → Type 0 where
    changes_root : {k : ℕ} (c : Class) → class_at P k ≡ some c → c.kind ≡ root → Changeable k
    changes_state : {k : ℕ} (c : Class) → class_at P k ≡ some c → c.kind ≡ state → Changeable k
