-- What the world of a program looks up in its classes is what the relations of ClassRelations say, where superclasses come
-- before their classes.
use mathlib.Core.Path.{◌≡◌, refl, sym, ap, ◌∙◌, subst}
use Prim.Native.Nat.{ℕ, zero, suc, ◌≤◌, ◌<◌}
use mathlib.Core.Option.{Option, none, some}
use mathlib.Core.Bool.{Bool, true, false, ◌||◌}
use mathlib.Core.Logic.{◌≢◌, ◌↔◌}
use mathlib.Core.List.{List, [], ◌∷◌}
use lib.ListN.{length}
use lib.Dec.{eqb, leb}
use borrow.Author.Tests.{eqb-true, eqb-false, eq-eqb, ne_eqb, leb-true, le-leb}
use native.Mathlib.Omega.{arith}
use Rattle.language.specs.Limits.{object_class}
use Rattle.language.specs.Lists.{nth, given, choice, bind_option, bind_option_inv, Never, inj, nth_some}
use Rattle.language.specs.Lists.{nth_lt}
use Rattle.language.specs.Lists.{Each, each_nil, each_cons}
use Rattle.language.specs.Tree.{DeclaredType, bool, class, Kind, plain, root, state, unknown, Field}
use Rattle.language.specs.Tree.{Declaration}
use Rattle.language.specs.Tree.{Class}
use Rattle.language.specs.World.{Method, place, field_type, is_declared_type}
use Rattle.language.specs.Program.{is_root, is_state, method_of, declared, class_at, is_state_type}
use Rattle.language.specs.Program.{world_with}
use Rattle.language.specs.Program.{fields_at, method_at, is_changeable, world, body_in, effect_in, number_at}
use Rattle.language.specs.ClassRelations.{FieldAt, field_here, field_later, Declares, declares_here}
use Rattle.language.specs.ClassRelations.{declares_later, Undeclared, undeclared_nil, undeclared_cons}
use Rattle.language.specs.ClassRelations.{FieldsOf, fields_none, fields_more, itself, Subclass, above}
use Rattle.language.specs.ClassRelations.{FindsMethod, finds_own, finds_above, TypeDeclared, bool_declared}
use Rattle.language.specs.ClassRelations.{class_declared, FieldType, field_bool, field_object, field_class}
use Rattle.language.specs.ClassRelations.{Changeable, changes_root, changes_state}
use Rattle.language.proofs.Booleans.{false≢}
use Rattle.theory.proofs.lookups.Superclasses.{object_is_no_class, other_kind}
use Rattle.theory.proofs.lookups.Superclasses.{fields_of_class, no_class_no_fields}
use Rattle.theory.proofs.lookups.MethodNumbers.{method_as, own_method, own_body}

-- ---- fields by name

pub field_place : {n i : ℕ} {fs : List Field} {t : DeclaredType} → FieldAt n fs i t → place n fs ≡ some i
unfolding place
field_place {n} (field_here {f} e) = rw (eq-eqb f.name n e)
field_place {n} (field_later {f} e x) = rw (ne_eqb f.name n e, field_place x)

pub place_field : (n : ℕ) (fs : List Field) (i : ℕ) → place n fs ≡ some i
    → (t : DeclaredType) × FieldAt n fs i t
unfolding place
place_field n [] i e = absurd (Never e)
place_field n (f ∷ fs) i e = go (eqb f.name n) refl (λ k q. place_field n fs k q) e
  where
    Here : ℕ → Type 0
    Here i = (t : DeclaredType) × FieldAt n (f ∷ fs) i t

    go : (b : Bool) → eqb f.name n ≡ b
        → ((k : ℕ) → place n fs ≡ some k → (t : DeclaredType) × FieldAt n fs k t)
        → choice b (λ _. some 0) (λ _. bind_option (place n fs) λ i. some (suc i)) ≡ some i → Here i
    go true q ih e = subst Here (inj e) (f.type, field_here (eqb-true f.name n q))
    go false q ih e = bind_option_inv _ _ e λ k p e.
        let x = ih k p in subst Here (inj e) (x.0, field_later (eqb-false f.name n q) x.1)

-- The field of a place has the type that is told.
field_there : {n i : ℕ} {fs : List Field} {t : DeclaredType} → FieldAt n fs i t
    → (f : Field) × (nth fs i ≡ some f) × (f.type ≡ t)
unfolding nth
field_there (field_here {f} e) = (f, refl, refl)
field_there (field_later e x) = field_there x

pub field_is : {n i : ℕ} {fs : List Field} {t : DeclaredType} → FieldAt n fs i t → field_type n fs ≡ some t
unfolding field_type
field_is x = let y = field_there x in rw (field_place x, y.1, y.2)

pub is_field : (n : ℕ) (fs : List Field) (t : DeclaredType) → field_type n fs ≡ some t
    → (i : ℕ) × FieldAt n fs i t
unfolding field_type
is_field n fs t e = bind_option_inv (place n fs) _ e λ i p e. bind_option_inv (nth fs i) _ e λ f q e.
    let x = place_field n fs i p in let y = field_there x.1 in (
      i,
      subst (FieldAt n fs i) (sym y.2 ∙ ap (λ (g : Field). g.type) (inj (sym y.1 ∙ q)) ∙ inj e)
          x.1,
    )

-- A name that no field has.
pub unnamed_place : {n : ℕ} {fs : List Field} → Each (λ g. g.name ≢ n) fs → place n fs ≡ none
unfolding place
unnamed_place each_nil = refl
unnamed_place {n} (each_cons {a} e es) = rw (ne_eqb a.name n e, unnamed_place es)

pub place_unnamed : (n : ℕ) (fs : List Field) → place n fs ≡ none → Each (λ g. g.name ≢ n) fs
unfolding place
place_unnamed n [] e = each_nil
place_unnamed n (f ∷ fs) e = go (eqb f.name n) refl (place n fs) (λ q. place_unnamed n fs q) e
  where
    go : (b : Bool) → eqb f.name n ≡ b → (o : Option ℕ) → (o ≡ none → Each (λ g. g.name ≢ n) fs)
        → choice b (λ _. some 0) (λ _. bind_option o λ i. some (suc i)) ≡ none
        → Each (λ g. g.name ≢ n) (f ∷ fs)
    go true q o ih e = absurd (Never (sym e))
    go false q none ih e = each_cons (eqb-false f.name n q) (ih refl)
    go false q (some i) ih e = absurd (Never (sym e))

-- ---- methods of one class by name

declares_is : {m : ℕ} {ds : List Declaration} {d : Declaration} → Declares m ds d → declared ds m ≡ some d
unfolding declared
declares_is {m} (declares_here {d} e) = rw (eq-eqb d.name m e)
declares_is {m} (declares_later {d} e x) = rw (ne_eqb d.name m e) (declares_is x)

pub undeclared_is : {m : ℕ} {ds : List Declaration} → Undeclared m ds → declared ds m ≡ none
unfolding declared
undeclared_is undeclared_nil = refl
undeclared_is {m} (undeclared_cons {d} e x) = rw (ne_eqb d.name m e) (undeclared_is x)

is_declares : (m : ℕ) (ds : List Declaration) (d : Declaration) → declared ds m ≡ some d → Declares m ds d
unfolding declared
is_declares m [] d e = absurd (Never e)
is_declares m (x ∷ ds) d e = go (eqb x.name m) refl (λ q. is_declares m ds d q) e
  where
    go : (b : Bool) → eqb x.name m ≡ b → (declared ds m ≡ some d → Declares m ds d)
        → choice b (λ _. some x) (λ _. declared ds m) ≡ some d → Declares m (x ∷ ds) d
    go true q ih e = subst (Declares m (x ∷ ds)) (inj e) (declares_here (eqb-true x.name m q))
    go false q ih e = declares_later (eqb-false x.name m q) (ih e)

pub is_undeclared : (m : ℕ) (ds : List Declaration) → declared ds m ≡ none → Undeclared m ds
unfolding declared
is_undeclared m [] e = undeclared_nil
is_undeclared m (x ∷ ds) e = go (eqb x.name m) refl (λ q. is_undeclared m ds q) e
  where
    go : (b : Bool) → eqb x.name m ≡ b → (declared ds m ≡ none → Undeclared m ds)
        → choice b (λ _. some x) (λ _. declared ds m) ≡ none → Undeclared m (x ∷ ds)
    go true q ih e = absurd (Never (sym e))
    go false q ih e = undeclared_cons (eqb-false x.name m q) (ih e)

module _ (P : List Class) where
  -- ---- declared types, types of fields, classes that may change

  pub declared_is : (t : DeclaredType) → (is_declared_type (world P) t ≡ true) ↔ TypeDeclared P t
  unfolding world world_with
  declared_is bool = ((λ _. bool_declared), (λ _. refl))
  declared_is (class k) = ((λ e. class_declared (leb-true k (length P) e)), (λ d. low k d))
    where
      low : (k : ℕ) → TypeDeclared P (class k) → leb k (length P) ≡ true
      low k (class_declared l) = le-leb k (length P) l

  class_declares : (k : ℕ) (c : Class) → class_at P k ≡ some c → k ≤ length P
  unfolding class_at
  class_declares zero c e = absurd (Never e)
  class_declares (suc k) c e = nth_lt P k c e

  pub field_type_declared : {t : DeclaredType} → FieldType P t → TypeDeclared P t
  field_type_declared field_bool = bool_declared
  field_type_declared field_object = class_declared {k = object_class} (omega arith)
  field_type_declared (field_class {k} c p s) = class_declared (class_declares k c p)

  pub field_type_no_state : {t : DeclaredType} → FieldType P t → is_state_type P t ≡ false
  unfolding is_state_type
  field_type_no_state field_bool = refl
  field_type_no_state field_object = rw (object_is_no_class P)
  field_type_no_state (field_class c p s) = rw p (no-state c.kind s)
    where
      no-state : (k : Kind) → k ≢ state → is_state k ≡ false
      no-state plain s = refl
      no-state root s = refl
      no-state state s = absurd (s refl)
      no-state (unknown n) s = refl

  pub is_field_type : (t : DeclaredType) → TypeDeclared P t → is_state_type P t ≡ false → FieldType P t
  unfolding is_state_type class_at
  is_field_type bool d e = field_bool
  is_field_type (class zero) d e = field_object
  is_field_type (class (suc k)) (class_declared l) e = let x = nth_some P k l in
      field_class x.0 x.1 (other_kind x.0.kind (rw x.1 at e))

  pub changeable_declared : {k : ℕ} → Changeable P k → TypeDeclared P (class k)
  changeable_declared {k} (changes_root c p e) = class_declared (class_declares k c p)
  changeable_declared {k} (changes_state c p e) = class_declared (class_declares k c p)

  pub changeable_is : {k : ℕ} → Changeable P k → is_changeable P k ≡ true
  unfolding is_changeable
  changeable_is (changes_root c p e) = rw (p, e)
  changeable_is (changes_state c p e) = rw (p, e)

  pub is_change : (k : ℕ) → is_changeable P k ≡ true → Changeable P k
  unfolding is_changeable
  is_change k e = go (class_at P k) refl e
    where
      kinds : (c : Class) → class_at P k ≡ some c → (j : Kind) → c.kind ≡ j
          → (is_root j || is_state j) ≡ true
          → Changeable P k
      kinds c p plain q e = false≢ e
      kinds c p root q e = changes_root c p q
      kinds c p state q e = changes_state c p q
      kinds c p (unknown n) q e = false≢ e

      go : (o : Option Class) → class_at P k ≡ o
          → given o false (λ c. is_root c.kind || is_state c.kind) ≡ true → Changeable P k
      go none p e = false≢ e
      go (some c) p e = kinds c p c.kind refl e

  -- ---- through superclasses

  -- What a lookup finds, as the relation has it.
  pub record Finds (k m : ℕ) (M : Method) : Type 0 where
    pub owner : ℕ
    pub declaration : Declaration
    pub finds : FindsMethod P k m owner declaration
    pub is : method_as P owner declaration ≡ M

  module _ (earlier : (k : ℕ) (c : Class) → class_at P k ≡ some c → c.super < k) where
    pub fields_are : {k : ℕ} {fs : List Field} → FieldsOf P k fs → fields_at P (suc k) k ≡ fs
    fields_are {k} (fields_none p) = no_class_no_fields P earlier k p
    fields_are {k} (fields_more c p x) = fields_of_class P earlier k c p ∙ rw (fields_are x)

    are-fields : (n k : ℕ) → k < n → FieldsOf P k (fields_at P (suc k) k)
    are-fields zero k l = absurd (omega (arith, l))
    are-fields (suc n) k l =
        go (class_at P k) refl (λ c p. are-fields n c.super (omega (arith, earlier k c p, l)))
      where
        go : (o : Option Class) → class_at P k ≡ o
            → ((c : Class) → class_at P k ≡ some c
            → FieldsOf P c.super (fields_at P (suc c.super) c.super))
            → FieldsOf P k (fields_at P (suc k) k)
        go none p ih = rw (no_class_no_fields P earlier k p) (fields_none p)
        go (some c) p ih = rw (fields_of_class P earlier k c p) (fields_more c p (ih c p))

    pub its_fields : (k : ℕ) → FieldsOf P k (fields_at P (suc k) k)
    its_fields k = are-fields (suc k) k (omega arith)

    -- More steps than there are superclasses find no other method.
    method-enough : (n n' k m : ℕ) → k < n → k < n'
        → method_at P (effect_in P) n k m ≡ method_at P (effect_in P) n' k m
    unfolding method_at
    method-enough zero n' k m l l' = absurd (omega (arith, l))
    method-enough (suc n) zero k m l l' = absurd (omega (arith, l'))
    method-enough (suc n) (suc n') k m l l' = go (class_at P k) refl (λ c p. method-enough n n' c.super m
        (omega (arith, earlier k c p, l)) (omega (arith, earlier k c p, l')))
      where
        go : (o : Option Class) → class_at P k ≡ o
            → ((c : Class) → class_at P k ≡ some c
            → method_at P (effect_in P) n c.super m ≡ method_at P (effect_in P) n' c.super m)
            → given o none (λ c. given (declared c.methods m) (method_at P (effect_in P) n c.super m)
            λ d. some
            (method_of P (effect_in P) k d))
            ≡ given o none (λ c. given (declared c.methods m) (method_at P (effect_in P) n' c.super m)
            λ d. some
            (method_of P (effect_in P) k d))
        go none e ih = refl
        go (some c) e ih = rw (ih c e)

    -- A class's method is its own, or else its superclass's; Object has none.
    pub method_of_class : (k m : ℕ) (c : Class) → class_at P k ≡ some c
        → method_at P (effect_in P) (suc k) k m
        ≡ given (declared c.methods m) (method_at P (effect_in P) (suc c.super) c.super m) λ d.
        some (method_of P (effect_in P) k d)
    unfolding method_at
    method_of_class k m c p =
        rw (p, method-enough k (suc c.super) c.super m (earlier k c p) (omega arith))

    pub no_class_no_method : (k m : ℕ) → class_at P k ≡ none → method_at P (effect_in P) (suc k) k m ≡ none
    unfolding method_at
    no_class_no_method k m p = rw p

    pub finds_is : {k m o : ℕ} {d : Declaration} → FindsMethod P k m o d
        → method_at P (effect_in P) (suc k) k m ≡ some (method_as P o d)
    finds_is {k} {m} {d} (finds_own c p x) = let e = declares_is x in
        method_of_class k m c p ∙ rw e (ap some (own_method P k m c d p e))
    finds_is {k} {m} (finds_above c p u x) = method_of_class k m c p ∙ rw (undeclared_is u) (finds_is x)

    is-finds-from : (n k m : ℕ) (M : Method) → k < n → method_at P (effect_in P) (suc k) k m ≡ some M
        → Finds k m M
    is-finds-from zero k m M l e = absurd (omega (arith, l))
    is-finds-from (suc n) k m M l e = go (class_at P k) refl
        (λ c p q. is-finds-from n c.super m M (omega (arith, earlier k c p, l)) q)
      where
        own : (c : Class) → class_at P k ≡ some c → (o : Option Declaration) → declared c.methods m ≡ o
            → (method_at P (effect_in P) (suc c.super) c.super m ≡ some M → Finds c.super m M)
            → given o (method_at P (effect_in P) (suc c.super) c.super m)
            (λ d. some (method_of P (effect_in P) k d)) ≡ some M
            → Finds k m M
        own c p none q ih e = let x = ih e in record {
          owner = x.owner;
          declaration = x.declaration;
          finds = finds_above c p (is_undeclared m c.methods q) x.finds;
          is = x.is;
        }
        own c p (some d) q ih e = record {
          owner = k;
          declaration = d;
          finds = finds_own c p (is_declares m c.methods d q);
          is = sym (own_method P k m c d p q) ∙ inj e;
        }

        go : (o : Option Class) → class_at P k ≡ o
            → ((c : Class) → class_at P k ≡ some c
            → method_at P (effect_in P) (suc c.super) c.super m ≡ some M
            → Finds c.super m M)
            → Finds k m M
        go none p ih = absurd (Never (sym (no_class_no_method k m p) ∙ e))
        go (some c) p ih = own c p (declared c.methods m) refl (ih c p) (sym (method_of_class k m c p) ∙ e)

    pub is_finds : (k m : ℕ) (M : Method) → method_at P (effect_in P) (suc k) k m ≡ some M → Finds k m M
    is_finds k m M e = is-finds-from (suc k) k m M (omega arith) e

    -- The same of the world of these classes.
    pub fields_told : {k : ℕ} {fs : List Field} → FieldsOf P k fs → (world P).fields k ≡ fs
    unfolding world world_with
    fields_told x = fields_are x

    pub fields_found : (k : ℕ) → FieldsOf P k ((world P).fields k)
    unfolding world world_with
    fields_found k = its_fields k

    pub method_told : {k m o : ℕ} {d : Declaration} → FindsMethod P k m o d
        → (world P).method k m ≡ some (method_as P o d)
    unfolding world world_with
    method_told x = finds_is x

    pub world_finds : (k m : ℕ) (M : Method) → (world P).method k m ≡ some M → Finds k m M
    unfolding world world_with
    world_finds k m M e = is_finds k m M e

  -- The class that declares what class k finds, at or above k.
  pub record Declarer (k m o : ℕ) (d : Declaration) : Type 0 where
    pub owning : Class
    pub there : class_at P o ≡ some owning
    pub declares : declared owning.methods m ≡ some d
    pub subclass : Subclass P k o

  pub declarer : {k m o : ℕ} {d : Declaration} → FindsMethod P k m o d → Declarer k m o d
  declarer (finds_own c p x) = record { owning = c; there = p; declares = declares_is x; subclass = itself }
  declarer (finds_above c p u x) = let y = declarer x in record {
    owning = y.owning;
    there = y.there;
    declares = y.declares;
    subclass = above c p y.subclass;
  }

  -- The body that the relation finds is that of the method's number.
  pub finds_body : {k m o : ℕ} {d : Declaration} → FindsMethod P k m o d
      → body_in P (number_at P o d.name) ≡ d.body
  finds_body {m} {o} {d} x = let y = declarer x in own_body P o m y.owning d y.there y.declares
