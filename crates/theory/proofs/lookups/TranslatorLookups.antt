-- What the translator's proofs use of lookups besides the laws of soundness, for class lists of any length:
-- of a well-formed program that no field name stands twice, that Object is above all, that what is found in a
-- class is found in a declared one and that no class has more than 17 fields; of one within the translator's
-- limits how much there is of each.
use mathlib.Core.Path.{◌≡◌, refl, sym, ap, ◌∙◌, subst}
use Prim.Native.Nat.{ℕ, zero, suc, ◌+◌, ◌≤◌}
use mathlib.Core.Option.{Option, none, some}
use mathlib.Core.Bool.{Bool, true, false, not, ◌||◌}
use mathlib.Core.Logic.{◌⊎◌, inl, inr}
use mathlib.Core.List.{List, [], ◌∷◌, ◌++◌, append_assoc, append-nil}
use lib.ListN.{length, length-append}
use lib.Dec.{eqb, leb}
use borrow.Author.Tests.{eqb-true, eq-eqb, ne_eqb, ltb-true, leb-true, le-leb}
use native.Mathlib.Omega.{arith}
use Rattle.language.specs.Limits.{Most, of_check, of_translator, object_class, id_field, imp_field}
use Rattle.language.specs.Lists.{nth, given, choice, bind_option, bind_option_inv, Never, inj, nth_append_one}
use Rattle.language.specs.Results.{accept, bind_checked_inv, require_inv}
use Rattle.language.specs.Tree.{Field, Declaration, Class, class_lines, Program}
use Rattle.language.specs.World.{Method, World, place, is_declared}
use Rattle.language.specs.Program.{method_of, declared, class_at, fields_at, method_at, world, world_with}
use Rattle.language.specs.Headings.{check_fields, check_class, check_classes, headings}
use Rattle.language.specs.WellFormed.{Each, each_nil, each_cons, ClassInForm, ProgramInForm, FieldsWell}
use Rattle.language.specs.WellFormed.{well_nil, well_cons, ClassWell, ProgramWell}
use Rattle.language.specs.Translation.{fields_free, names_free}
use Rattle.language.proofs.Booleans.{false≢}
use Rattle.theory.proofs.soundness.Fitting.{Laws}
use Rattle.theory.proofs.soundness.ActsSound.{place_append}
use Rattle.theory.proofs.acceptance.WellAccepted.{class_count}
use Rattle.theory.proofs.lookups.Superclasses.{subclass_test, subclass_top, no_class_no_fields, root_is}
use Rattle.theory.proofs.lookups.Superclasses.{root_subclass, fields_law, above_earlier}
use Rattle.theory.proofs.lookups.LookupsAgree.{unnamed_place, is_finds, declarer}
use Rattle.theory.proofs.lookups.LookupLaws.{superclass_earlier, ordered, fields_follow, each_at}
use Rattle.theory.proofs.lookups.LookupLaws.{each_append}
use Rattle.theory.proofs.lookups.LookupLaws.{class_well}
use Rattle.theory.proofs.lookups.LookupLaws.{well_formed_laws}
use Rattle.language.specs.Program.{effect_in}

-- Every field is found under its name.
record Distinct (fs : List Field) : Type 0 where
  found : (i : ℕ) (f : Field) → nth fs i ≡ some f → place f.name fs ≡ some i

pub place_last : (f : Field) (fs : List Field) → place f.name fs ≡ none
    → place f.name (fs ++ (f ∷ [])) ≡ some (length fs)
unfolding place
place_last f [] e = rw (eq-eqb f.name f.name refl)
place_last f (g ∷ fs) e = go (eqb g.name f.name) (place_last f fs) e
  where
    rest : (o : Option ℕ) → bind_option o (λ i. some (suc i)) ≡ none → o ≡ none
    rest none e = refl
    rest (some i) e = absurd (Never (sym e))

    go : (b : Bool) → (place f.name fs ≡ none → place f.name (fs ++ (f ∷ [])) ≡ some (length fs))
        → choice b (λ _. some 0) (λ _. bind_option (place f.name fs) λ i. some (suc i)) ≡ none
        → choice b (λ _. some 0) (λ _. bind_option (place f.name (fs ++ (f ∷ []))) λ i. some (suc i))
        ≡ some (suc (length fs))
    go true ih e = absurd (Never (sym e))
    go false ih e = rw (ih (rest (place f.name fs) e))

-- A name that is found is the name of the field found.
place_named : (n : ℕ) (fs : List Field) (i : ℕ) → place n fs ≡ some i
    → (f : Field) × (nth fs i ≡ some f) × (f.name ≡ n)
unfolding place nth
place_named n [] i e = absurd (Never e)
place_named n (f ∷ fs) i e = go (eqb f.name n) refl (λ k q. place_named n fs k q) e
  where
    Named : ℕ → Type 0
    Named i = (g : Field) × (nth (f ∷ fs) i ≡ some g) × (g.name ≡ n)

    go : (b : Bool) → eqb f.name n ≡ b
        → ((k : ℕ) → place n fs ≡ some k → (g : Field) × (nth fs k ≡ some g) × (g.name ≡ n))
        → choice b (λ _. some 0) (λ _. bind_option (place n fs) λ i. some (suc i)) ≡ some i
        → (g : Field) × (nth (f ∷ fs) i ≡ some g) × (g.name ≡ n)
    go true q ih e = subst Named (inj e) (f, refl, eqb-true f.name n q)
    go false q ih e = bind_option_inv _ _ e λ k p e. subst Named (inj e) (ih k p)

-- Where the pass over names accepts, it accepts the fields of each class.
pub names_free_at : (at : ℕ) (cs : List Class) (u : Unit {0}) → names_free at cs ≡ accept u
    → (i : ℕ) (c : Class)
    → nth cs i ≡ some c → (at' : ℕ) × (v : Unit {0}) × (fields_free at' c.fields ≡ accept v)
unfolding names_free nth
names_free_at at [] u q i c e = absurd (Never e)
names_free_at at (x ∷ cs) u q zero c e = bind_checked_inv _ _ q λ v p q.
    (at + 1, v, subst (λ (c : Class). fields_free (at + 1) c.fields ≡ accept v) (inj e) p)
names_free_at at (x ∷ cs) u q (suc i) c e = bind_checked_inv _ _ q λ v p q.
    names_free_at (at + class_lines x) cs u q i c e

-- A field name other than the two reserved ones.
unfoldable pub Free : Field → Type 0
Free f = (eqb id_field f.name ≡ false) × (eqb imp_field f.name ≡ false)

-- Where it accepts fields, none has a reserved name.
pub fields_are_free : (at : ℕ) (fs : List Field) (u : Unit {0}) → fields_free at fs ≡ accept u → Each Free fs
unfolding fields_free Free
fields_are_free at [] u q = each_nil
fields_are_free at (f ∷ fs) u q = require_inv _ _ _ _ q λ e q.
    each_cons (free f.name e) (fields_are_free (at + 1) fs u q)
  where
    turned : (a b : ℕ) → eqb a b ≡ false → eqb b a ≡ false
    turned a b e = ne_eqb b a (λ h. false≢ (sym e ∙ eq-eqb a b (sym h)))

    both : (a b : Bool) → not (a || b) ≡ true → (a ≡ false) × (b ≡ false)
    both true b e = false≢ e
    both false true e = false≢ e
    both false false e = (refl, refl)

    free : (n : ℕ) → not (eqb n id_field || eqb n imp_field) ≡ true
        → (eqb id_field n ≡ false) × (eqb imp_field n ≡ false)
    free n e = let h = both (eqb n id_field) (eqb n imp_field) e in
        (turned n id_field h.0, turned n imp_field h.1)

-- Where the heading pass accepts F lines, they are with those before at most as many as its limit.
check_fields_few : (most : Most) (P : List Class) (before : List Field) (at : ℕ) (fs : List Field)
    (u : Unit {0})
    → check_fields most P before at fs ≡ accept u → length before ≤ most.fields
    → length before + length fs ≤ most.fields
unfolding check_fields
check_fields_few most P before at [] u q l = omega arith
check_fields_few most P before at (f ∷ fs) u q l =
    require_inv _ _ _ _ q λ e₁ q. require_inv _ _ _ _ q λ e₂ q.
    require_inv _ _ _ _ q λ e₃ q. require_inv _ _ _ _ q λ e₄ q.
    let a = ltb-true (length before) most.fields e₁ in
    let b = length-append before (f ∷ []) in
    let c = check_fields_few most P (before ++ (f ∷ [])) (at + 1) fs u q (omega arith) in
    omega arith

-- So it is for each class, whose fields follow its superclass's.
pub check_classes_few : (most : Most) (P : List Class) (k at : ℕ) (cs : List Class) (u : Unit {0})
    → check_classes most P k at cs ≡ accept u → (i : ℕ) (c : Class) → nth cs i ≡ some c
    → length ((world P).fields c.super) ≤ most.fields
    → length ((world P).fields c.super) + length c.fields ≤ most.fields
unfolding check_classes check_class nth
check_classes_few most P k at [] u q i c e l = absurd (Never e)
check_classes_few most P k at (x ∷ cs) u q zero c e l =
    bind_checked_inv _ _ q λ a p q. require_inv _ _ _ _ p λ e₁ p. require_inv _ _ _ _ p λ e₂ p.
    bind_checked_inv _ _ p λ b e₃ p.
    check_fields_few most P ((world P).fields c.super) (at + 1) c.fields b
    (subst (λ (c : Class). check_fields most P ((world P).fields c.super) (at + 1) c.fields ≡ accept b)
    (inj e) e₃) l
check_classes_few most P k at (x ∷ cs) u q (suc i) c e l = bind_checked_inv _ _ q λ a p q.
    check_classes_few most P (suc k) (at + class_lines x) cs u q i c e l

-- A declared method is one of the list.
pub each_declared : {R : Declaration → Type 0} {ds : List Declaration} → Each R ds → (m : ℕ) (d : Declaration)
    → declared ds m ≡ some d → R d
unfolding declared
each_declared each_nil m d e = absurd (Never e)
each_declared {R} (each_cons {a} {l} r rs) m d e = go (eqb a.name m) (λ q. each_declared rs m d q) e
  where
    go : (b : Bool) → (declared l m ≡ some d → R d) → choice b (λ _. some a) (λ _. declared l m) ≡ some d
        → R d
    go true ih e = subst R (inj e) r
    go false ih e = ih e

-- Fields of a heading that is in order are within the limit.
pub own_few : {P : List Class} {before fs : List Field} → FieldsWell P before fs
    → length before ≤ of_check.fields
    → length (before ++ fs) ≤ of_check.fields
own_few {before} well_nil l = omega (arith, l, length-append before [])
own_few {before} (well_cons {fs} {f} a b c w) l =
    subst (λ (r : List Field). length r ≤ of_check.fields)
    (append_assoc before (f ∷ []) fs) (own_few w (omega (arith, a, length-append before (f ∷ []))))

-- What a well-formed program's lookups give besides the laws of soundness.
pub record MoreLaws (W : World) : Type 0 where
  -- No field name stands twice in a class.
  pub unique : (c i : ℕ) (f : Field) → nth (W.fields c) i ≡ some f → place f.name (W.fields c) ≡ some i
  -- Every class is below Object.
  pub top : (c : ℕ) → W.below c object_class ≡ true
  -- A class with a field or a method is declared, so is one that W may make an object of, and the root of a declared class is.
  pub declared_field : (c n i : ℕ) → place n (W.fields c) ≡ some i → is_declared W c ≡ true
  pub declared_method : (c m : ℕ) (M : Method) → W.method c m ≡ some M → is_declared W c ≡ true
  pub declared_new : (c : ℕ) → W.makes c ≡ true → is_declared W c ≡ true
  pub declared_root : (c : ℕ) → is_declared W c ≡ true → is_declared W (W.root c) ≡ true
  -- A class has at most 17 fields, inherited included.
  pub few_fields : (c : ℕ) → length (W.fields c) ≤ of_check.fields

-- What the translator's limits and its check of names give of lookups.
pub record TranslatorLaws (W : World) : Type 0 where
  -- No field has a reserved name.
  pub unreserved : (n c i : ℕ) → place n (W.fields c) ≡ some i
      → (eqb id_field n ≡ false) × (eqb imp_field n ≡ false)
  -- A class has at most 16 fields, inherited included, and a method at most 8 parameters.
  pub few : (c : ℕ) → length (W.fields c) ≤ of_translator.fields
  pub short : (c m : ℕ) (M : Method) → W.method c m ≡ some M
      → length M.parameters ≤ of_translator.parameters

module _ (P : List Class) (laws : Laws (world P))
    (well : (k : ℕ) (c : Class) → class_at P k ≡ some c → ClassWell P k c)
  where
    distinct_more : {before : List Field} (f : Field) → Distinct before → place f.name before ≡ none
        → Distinct (before ++ (f ∷ []))
    distinct_more {before} f d n = record { found = λ i g e. go i g (nth_append_one before f i g e) }
      where
        go : (i : ℕ) (g : Field) → (nth before i ≡ some g) ⊎ ((i ≡ length before) × (f ≡ g))
            → place g.name (before ++ (f ∷ [])) ≡ some i
        go i g (inl e) = place_append g.name before (f ∷ []) i (d.found i g e)
        go i g (inr e) = rw (e.0, ← e.1) (place_last f before n)

    distinct-own : {before fs : List Field} → FieldsWell P before fs → Distinct before
        → Distinct (before ++ fs)
    distinct-own {before} well_nil d = rw append-nil d
    distinct-own {before} (well_cons {fs} {f} a b c w) d =
        rw append_assoc at (distinct-own w (distinct_more f d (unnamed_place c)))

    all-distinct : (k : ℕ) → Distinct (fields_at P (suc k) k)
    unfolding world world_with nth
    all-distinct k = fields_law P (superclass_earlier P well) Distinct
        (record { found = λ i f e. absurd (Never e) })
        (λ k c p d. distinct-own (fields_follow P (ordered P well) (well k c p)) d) (suc k) k (omega arith)

    all-few : (k : ℕ) → length (fields_at P (suc k) k) ≤ of_check.fields
    unfolding world world_with
    all-few k = fields_law P (superclass_earlier P well) (λ fs. length fs ≤ of_check.fields) (omega arith)
        (λ k c p l. own_few (fields_follow P (ordered P well) (well k c p)) l) (suc k) k (omega arith)

    class-with-field : (k n i : ℕ) → place n (fields_at P (suc k) k) ≡ some i → leb k (length P) ≡ true
    unfolding place
    class-with-field k n i e = go (class_at P k) refl
      where
        go : (o : Option Class) → class_at P k ≡ o → leb k (length P) ≡ true
        go none p = absurd (Never (sym (ap (place n) (no_class_no_fields P (superclass_earlier P well) k p)) ∙
            e))
        go (some c) p = class_count P k c p

    class-with-method : (k m : ℕ) (M : Method) → method_at P (effect_in P) (suc k) k m ≡ some M
        → leb k (length P) ≡ true
    unfolding method_at
    class-with-method k m M e = go (class_at P k) refl e
      where
        go : (o : Option Class) → class_at P k ≡ o
            → given o none (λ c. given (declared c.methods m) (method_at P (effect_in P) k c.super m)
            λ d. some
            (method_of P (effect_in P) k d))
            ≡ some M
            → leb k (length P) ≡ true
        go none p e = absurd (Never e)
        go (some c) p e = class_count P k c p

    classes-more : MoreLaws (world P)
    unfolding world world_with
    classes-more = record {
      unique = λ c i f e. (all-distinct c).found i f e;
      top = λ c. subclass_test P (superclass_earlier P well) (subclass_top P (superclass_earlier P well) c);
      declared_field = λ c n i e. class-with-field c n i e;
      declared_method = λ c m M e. class-with-method c m M e;
      declared_new = λ c e. e;
      declared_root = λ c e. le-leb _ (length P) (omega (
        arith,
        leb-true c (length P) e,
        above_earlier P (superclass_earlier P well)
            (root_subclass P (superclass_earlier P well) (root_is P (superclass_earlier P well) c)),
      ));
      few_fields = λ c. all-few c;
    }

    -- Within the translator's limits.
    module _ (u v : Unit {0}) (heads : headings of_translator P ≡ accept u) (free : names_free 1 P ≡ accept v)
        (formed : Each (ClassInForm of_translator) P) where
      fields-few : (k : ℕ) → length (fields_at P (suc k) k) ≤ of_translator.fields
      unfolding headings world world_with class_at
      fields-few k = fields_law P (superclass_earlier P well) (λ fs. length fs ≤ of_translator.fields)
          (omega arith) more (suc k) k
          (omega arith)
        where
          more : (k : ℕ) (c : Class) → class_at P k ≡ some c
              → length (fields_at P (suc c.super) c.super) ≤ of_translator.fields
              → length (fields_at P (suc c.super) c.super ++ c.fields) ≤ of_translator.fields
          more zero c p l = absurd (Never p)
          more (suc i) c p l = omega (
            arith,
            length-append (fields_at P (suc c.super) c.super) c.fields,
            check_classes_few of_translator P 1 1 P u heads i c p l,
          )

      all-free : (k : ℕ) → Each Free (fields_at P (suc k) k)
      unfolding class_at
      all-free k = fields_law P (superclass_earlier P well) (Each Free) each_nil
          (λ k c p d. each_append d (own k c p)) (suc k) k
          (omega arith)
        where
          own : (k : ℕ) (c : Class) → class_at P k ≡ some c → Each Free c.fields
          own zero c p = absurd (Never p)
          own (suc i) c p = let x = names_free_at 1 P v free i c p in
              fields_are_free x.0 c.fields x.1 x.2

      class-formed : (k : ℕ) (c : Class) → class_at P k ≡ some c → ClassInForm of_translator c
      unfolding class_at
      class-formed zero c p = absurd (Never p)
      class-formed (suc i) c p = each_at formed i c p

      classes-translatable : TranslatorLaws (world P)
      unfolding world world_with Free
      classes-translatable = record {
        unreserved = λ n c i e. let x = place_named n (fields_at P (suc c) c) i e in
            subst (λ (m : ℕ). (eqb id_field m ≡ false) × (eqb imp_field m ≡ false)) x.2
            (each_at (all-free c) i x.0 x.1);
        few = λ c. fields-few c;
        short = λ c m M e. let x = is_finds P (superclass_earlier P well) c m M e in
            let y = declarer P x.finds in
            subst (λ (N : Method). length N.parameters ≤ of_translator.parameters) x.is
            (each_declared (class-formed x.owner y.owning y.there).methods
            m x.declaration y.declares).few;
      }

-- No field name stands twice in a class, Object is above all, what is found is found in a declared class, and
-- no class has more than 17 fields.
pub well_formed_more : (p : Program) → ProgramWell p → MoreLaws (world p.classes)
well_formed_more p w =
    classes-more p.classes (well_formed_laws p w) (class_well p.classes w.classes)

-- Of a program that is well formed, in form within the translator's limits and free of reserved names.
pub translatable_laws : (p : Program) (u v : Unit {0}) → ProgramWell p → ProgramInForm of_translator p
    → headings of_translator p.classes ≡ accept u → names_free 1 p.classes ≡ accept v
    → TranslatorLaws (world p.classes)
translatable_laws p u v w i h f = classes-translatable p.classes (well_formed_laws p w)
    (class_well p.classes w.classes) u v h f i.classes
