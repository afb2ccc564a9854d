-- What the heading rules give of superclasses, their fields and their roots, for class lists of any length:
-- the subclass test is the subclass relation, an order with Object on top; the nearest common superclass is
-- the least upper bound; a subclass's fields begin with its superclass's; the root law of soundness.
use mathlib.Core.Path.{◌≡◌, refl, sym, ap, ◌∙◌, subst}
use Prim.Native.Nat.{ℕ, zero, suc, ◌≤◌, ◌<◌}
use mathlib.Core.Option.{Option, none, some}
use mathlib.Core.Bool.{Bool, true, false}
use mathlib.Core.Logic.{◌⊎◌, inl, inr, ◌≢◌}
use mathlib.Core.List.{List, [], ◌++◌, append_assoc, append-nil}
use lib.Dec.{eqb}
use borrow.Author.Tests.{eqb-true, eq-eqb}
use native.Mathlib.Omega.{arith}
use Rattle.language.specs.Limits.{object_class}
use Rattle.language.specs.Lists.{given, choice, map_option, Never, inj}
use Rattle.language.specs.Tree.{Kind, plain, root, state, unknown, Field, Class}
use Rattle.language.specs.Program.{is_root, is_state, class_at, fields_at, below_at, root_at}
use Rattle.language.specs.Program.{nearest_at}
use Rattle.language.specs.WellFormed.{Extends, plain_object, plain_plain, root_object, root_plain, state_root}
use Rattle.language.specs.WellFormed.{state_state}
use Rattle.language.specs.ClassRelations.{Subclass, itself, below_object, above, Nearest, RootOf, root_none}
use Rattle.language.specs.ClassRelations.{root_stays, root_above, Changeable, changes_root, changes_state}
use Rattle.language.proofs.Booleans.{false≢, or_inl, or_inr, or_inv}

-- What stands at one place is one thing.
pub one_class : {a b : Class} {o : Option Class} → o ≡ some a → o ≡ some b → a ≡ b
one_class p q = inj (sym p ∙ q)

pub no_class : {A : Type 0} {a : Class} {o : Option Class} → o ≡ none → o ≡ some a → A
no_class p q = absurd (Never (sym p ∙ q))

pub state_kind : (k : Kind) → is_state k ≡ true → k ≡ state
state_kind plain e = false≢ e
state_kind root e = false≢ e
state_kind state e = refl
state_kind (unknown n) e = false≢ e

pub other_kind : (k : Kind) → is_state k ≡ false → k ≢ state
other_kind k e p = false≢ (sym e ∙ ap is_state p)

plain_no_state : {k : Kind} → k ≡ plain → k ≢ state
plain_no_state e p = false≢ (ap is_state (sym e ∙ p))

module _ (P : List Class) where
  -- The kind that a class extends; none where that is Object.
  abbrev pub kind_over : Class → Option Kind
  kind_over c = map_option (λ (b : Class). b.kind) (class_at P c.super)

  -- Figure 20, ◇h: superclasses come before their classes, and kinds extend as they may.
  pub record Hierarchy : Type 0 where
    pub earlier : (k : ℕ) (c : Class) → class_at P k ≡ some c → c.super < k
    pub kinds : (k : ℕ) (c : Class) → class_at P k ≡ some c → Extends c.kind (kind_over c)

  -- A class that an object may change to is a class, and not a plain one.
  changeable_class : {k : ℕ} → Changeable P k → (c : Class) × (class_at P k ≡ some c) × (c.kind ≢ plain)
  changeable_class (changes_root c p e) = (c, p, λ q. false≢ (ap is_root (sym q ∙ e)))
  changeable_class (changes_state c p e) = (c, p, λ q. plain_no_state q e)

  pub object_is_no_class : class_at P object_class ≡ none
  unfolding class_at
  object_is_no_class = refl

  pub subclass_trans : {k d e : ℕ} → Subclass P k d → Subclass P d e → Subclass P k e
  subclass_trans itself q = q
  subclass_trans (below_object p) itself = below_object p
  subclass_trans (below_object p) (below_object q) = below_object p
  subclass_trans (below_object p) (above c q r) = no_class object_is_no_class q
  subclass_trans (above c p r) q = above c p (subclass_trans r q)

  -- Superclasses come before their classes.
  module _ (earlier : (k : ℕ) (c : Class) → class_at P k ≡ some c → c.super < k) where
    -- The test of as many steps as there may be superclasses is the relation.
    below-subclass : (n k d : ℕ) → k < n → below_at P n k d ≡ true → Subclass P k d
    unfolding below_at
    below-subclass zero k d l e = absurd (omega (arith, l))
    below-subclass (suc n) k d l e =
        go (class_at P k) refl (λ c p q. below-subclass n c.super d (omega (arith, earlier k c p, l)) q)
        (or_inv (eqb k d) _ e)
      where
        go : (o : Option Class) → class_at P k ≡ o
            → ((c : Class) → class_at P k ≡ some c → below_at P n c.super d ≡ true
            → Subclass P c.super d)
            → (eqb k d ≡ true) ⊎ (given o (eqb d object_class) (λ c. below_at P n c.super d) ≡ true)
            → Subclass P k d
        go o q ih (inl p) = subst (λ x. Subclass P k x) (eqb-true k d p) itself
        go none q ih (inr p) = subst (λ x. Subclass P k x) (sym (eqb-true d object_class p)) (below_object q)
        go (some c) q ih (inr p) = above c q (ih c q p)

    subclass-below : {k d : ℕ} → Subclass P k d → (n : ℕ) → k < n → below_at P n k d ≡ true
    unfolding below_at
    subclass-below a zero l = absurd (omega (arith, l))
    subclass-below {k} itself (suc n) l = or_inl (eqb k k) _ (eq-eqb k k refl)
    subclass-below {k} (below_object p) (suc n) l = or_inr (eqb k object_class) _ (rw p)
    subclass-below {k} {d} (above c p r) (suc n) l =
        or_inr (eqb k d) _ (rw p (subclass-below r n (omega (arith, earlier k c p, l))))

    pub test_subclass : {k d : ℕ} → below_at P (suc k) k d ≡ true → Subclass P k d
    test_subclass {k} {d} e = below-subclass (suc k) k d (omega arith) e

    pub subclass_test : {k d : ℕ} → Subclass P k d → below_at P (suc k) k d ≡ true
    subclass_test {k} s = subclass-below s (suc k) (omega arith)

    -- Object is above every class.
    below_top : (n k : ℕ) → k < n → Subclass P k object_class
    below_top zero k l = absurd (omega (arith, l))
    below_top (suc n) k l =
        go (class_at P k) refl (λ c p. below_top n c.super (omega (arith, earlier k c p, l)))
      where
        go : (o : Option Class) → class_at P k ≡ o
            → ((c : Class) → class_at P k ≡ some c → Subclass P c.super object_class)
            → Subclass P k object_class
        go none e ih = below_object e
        go (some c) e ih = above c e (ih c e)

    pub subclass_top : (k : ℕ) → Subclass P k object_class
    subclass_top k = below_top (suc k) k (omega arith)

    -- The nearest common superclass is one, and below every other.
    nearest-above : (n k d : ℕ) → k < n → Nearest P k d (nearest_at P n k d)
    unfolding nearest_at
    nearest-above zero k d l = absurd (omega (arith, l))
    nearest-above (suc n) k d l =
        tested (below_at P (suc d) d k) refl
        (λ c p. nearest-above n c.super d (omega (arith, earlier k c p, l)))
      where
        only-object : (e : ℕ) → class_at P k ≡ none → (Subclass P d k → ⊥) → Subclass P k e → Subclass P d e
            → Subclass P object_class e
        only-object e p not itself t = absurd (not t)
        only-object e p not (below_object q) t = itself
        only-object e p not (above c q r) t = no_class p q

        further : (c : Class) (e m : ℕ) → class_at P k ≡ some c → (Subclass P d k → ⊥)
            → ((e : ℕ) → Subclass P c.super e → Subclass P d e → Subclass P m e)
            → Subclass P k e → Subclass P d e → Subclass P m e
        further c e m p not f itself t = absurd (not t)
        further c e m p not f (below_object q) t = no_class q p
        further c e m p not f (above b q r) t =
            f e (subst (λ (x : Class). Subclass P x.super e) (one_class q p) r) t

        go : (o : Option Class) → class_at P k ≡ o → (Subclass P d k → ⊥)
            → ((c : Class) → class_at P k ≡ some c → Nearest P c.super d (nearest_at P n c.super d))
            → Nearest P k d (given o object_class λ c. nearest_at P n c.super d)
        go none p not ih = record
            { left = below_object p; right = subclass_top d; least = λ e s t. only-object e p not s t }
        go (some c) p not ih = record {
          left = above c p (ih c p).left;
          right = (ih c p).right;
          least = λ e s t. further c e _ p not (ih c p).least s t;
        }

        tested : (b : Bool) → below_at P (suc d) d k ≡ b
            → ((c : Class) → class_at P k ≡ some c → Nearest P c.super d (nearest_at P n c.super d))
            → Nearest P k d (choice b (λ _. k) (λ _. given (class_at P k) object_class λ c. nearest_at P n
            c.super d))
        tested true e ih = record { left = itself; right = test_subclass e; least = λ e s t. s }
        tested false e ih = go (class_at P k) refl (λ s. false≢ (sym e ∙ subclass_test s)) ih

    pub nearest_least : (k d : ℕ) → Nearest P k d (nearest_at P (suc k) k d)
    nearest_least k d = nearest-above (suc k) k d (omega arith)

    -- What is above a class does not come after it, so there is one nearest.
    pub above_earlier : {k d : ℕ} → Subclass P k d → d ≤ k
    above_earlier itself = omega arith
    above_earlier (below_object p) = omega arith
    above_earlier {k} (above c p s) = omega (arith, above_earlier s, earlier k c p)

    pub nearest_one : {c d m n : ℕ} → Nearest P c d m → Nearest P c d n → m ≡ n
    nearest_one {m} {n} x y = omega (
      arith,
      above_earlier (x.least n y.left y.right),
      above_earlier (y.least m x.left x.right),
    )

    -- More steps than there are superclasses find no more fields.
    fields-enough : (n m k : ℕ) → k < n → k < m → fields_at P n k ≡ fields_at P m k
    unfolding fields_at
    fields-enough zero m k l l' = absurd (omega (arith, l))
    fields-enough (suc n) zero k l l' = absurd (omega (arith, l'))
    fields-enough (suc n) (suc m) k l l' = go (class_at P k) refl
        (λ c p. fields-enough n m c.super (omega (arith, earlier k c p, l))
        (omega (arith, earlier k c p, l')))
      where
        go : (o : Option Class) → class_at P k ≡ o
            → ((c : Class) → class_at P k ≡ some c → fields_at P n c.super ≡ fields_at P m c.super)
            → given o [] (λ c. fields_at P n c.super ++ c.fields)
            ≡ given o [] (λ c. fields_at P m c.super ++ c.fields)
        go none e ih = refl
        go (some c) e ih = rw (ih c e)

    -- A class's fields are its superclass's, then its own; Object has none.
    pub fields_of_class : (k : ℕ) (c : Class) → class_at P k ≡ some c
        → fields_at P (suc k) k ≡ fields_at P (suc c.super) c.super ++ c.fields
    unfolding fields_at
    fields_of_class k c p = rw (p, fields-enough k (suc c.super) c.super (earlier k c p) (omega arith))

    pub no_class_no_fields : (k : ℕ) → class_at P k ≡ none → fields_at P (suc k) k ≡ []
    unfolding fields_at
    no_class_no_fields k p = rw p

    -- A law that a class's fields have if its superclass's have it.
    pub fields_law : (R : List Field → Type 0) → R []
        → ((k : ℕ) (c : Class) → class_at P k ≡ some c → R (fields_at P (suc c.super) c.super)
        → R (fields_at P (suc c.super) c.super ++ c.fields))
        → (n k : ℕ) → k < n → R (fields_at P (suc k) k)
    fields_law R r f zero k l = absurd (omega arith)
    fields_law R r f (suc n) k l =
        go (class_at P k) refl (λ c p. fields_law R r f n c.super (omega (arith, earlier k c p)))
      where
        go : (o : Option Class) → class_at P k ≡ o
            → ((c : Class) → class_at P k ≡ some c → R (fields_at P (suc c.super) c.super))
            → R (fields_at P (suc k) k)
        go none e ih = subst R (sym (no_class_no_fields k e)) r
        go (some c) e ih = subst R (sym (fields_of_class k c e))
            (f k c e (ih c e))

    pub fields_prefix : {k d : ℕ} → Subclass P k d
        → (fs : List Field) × (fields_at P (suc k) k ≡ fields_at P (suc d) d ++ fs)
    fields_prefix itself = ([], sym (append-nil _))
    fields_prefix {k} (below_object p) =
        (fields_at P (suc k) k, rw (no_class_no_fields object_class object_is_no_class))
    fields_prefix {k} {d} (above c p r) = let x = fields_prefix r in (
      x.0 ++ c.fields,
      fields_of_class k c p ∙ rw x.1 (append_assoc (fields_at P (suc d) d) x.0 c.fields),
    )

    -- Every number has a root.
    root-found : (n k : ℕ) → k < n → RootOf P k (root_at P n k)
    unfolding root_at
    root-found zero k l = absurd (omega (arith, l))
    root-found (suc n) k l =
        go (class_at P k) refl (λ c p. root-found n c.super (omega (arith, earlier k c p, l)))
      where
        kinds : (c : Class) → class_at P k ≡ some c → RootOf P c.super (root_at P n c.super)
            → (b : Bool)
            → is_state c.kind ≡ b → RootOf P k (choice b (λ _. root_at P n c.super) (λ _. k))
        kinds c e ih true q = root_above c e (state_kind c.kind q) ih
        kinds c e ih false q = root_stays c e (other_kind c.kind q)

        go : (o : Option Class) → class_at P k ≡ o
            → ((c : Class) → class_at P k ≡ some c → RootOf P c.super (root_at P n c.super))
            → RootOf P k (given o k λ c. choice (is_state c.kind) (λ _. root_at P n c.super) (λ _. k))
        go none e ih = root_none e
        go (some c) e ih = kinds c e (ih c e) (is_state c.kind) refl

    pub root_is : (k : ℕ) → RootOf P k (root_at P (suc k) k)
    root_is k = root-found (suc k) k (omega arith)

    -- It has one.
    pub root_one : {k r q : ℕ} → RootOf P k r → RootOf P k q → r ≡ q
    root_one (root_none e) (root_none e') = refl
    root_one (root_none e) (root_stays c p s) = refl
    root_one (root_none e) (root_above c p s x) = no_class e p
    root_one (root_stays c p s) (root_none e) = refl
    root_one (root_stays c p s) (root_stays c' p' s') = refl
    root_one (root_stays c p s) (root_above c' p' s' x) =
        absurd (s (ap (λ (c : Class). c.kind) (one_class p p') ∙ s'))
    root_one (root_above c p s x) (root_none e) = no_class e p
    root_one (root_above c p s x) (root_stays c' p' s') =
        absurd (s' (ap (λ (c : Class). c.kind) (one_class p' p) ∙ s))
    root_one {q} (root_above c p s x) (root_above c' p' s' x') =
        root_one {q = q} x (subst (λ (c : Class). RootOf P c.super q) (one_class p' p) x')

    -- A class is its root or below it.
    pub root_subclass : {k r : ℕ} → RootOf P k r → Subclass P k r
    root_subclass (root_none e) = itself
    root_subclass (root_stays c p s) = itself
    root_subclass (root_above c p s x) = above c p (root_subclass x)

    -- A class that is no state class is its own root.
    pub root_of_other : {k r : ℕ} → ((c : Class) → class_at P k ≡ some c → c.kind ≢ state) → RootOf P k r
        → r ≡ k
    root_of_other f (root_none e) = refl
    root_of_other f (root_stays c p s) = refl
    root_of_other f (root_above c p s x) = absurd (f c p s)

    -- Kinds extend as Figure 20 has it, so above a class that is no state class there are plain classes only.
    module _ (kinds : (k : ℕ) (c : Class) → class_at P k ≡ some c → Extends c.kind (kind_over c))
      where
        plain-extended : {k : Kind} {o : Option Kind} → Extends k o → k ≢ state → (j : Kind) → o ≡ some j
            → j ≡ plain
        plain-extended plain_object s j e = absurd (Never e)
        plain-extended plain_plain s j e = sym (inj e)
        plain-extended root_object s j e = absurd (Never e)
        plain-extended root_plain s j e = sym (inj e)
        plain-extended state_root s j e = absurd (s refl)
        plain-extended state_state s j e = absurd (s refl)

        superclass-plain : (k : ℕ) (c b : Class) → class_at P k ≡ some c → c.kind ≢ state
            → class_at P c.super ≡ some b → b.kind ≡ plain
        superclass-plain k c b p s q = plain-extended (kinds k c p) s b.kind (rw q)

        plain-above : {j d : ℕ} → Subclass P j d → ((b : Class) → class_at P j ≡ some b → b.kind ≡ plain)
            → (b : Class) → class_at P d ≡ some b → b.kind ≡ plain
        plain-above itself f = f
        plain-above (below_object p) f = λ b q. no_class object_is_no_class q
        plain-above {j} (above c p r) f =
            plain-above r (λ b q. superclass-plain j c b p (plain_no_state (f c p)) q)

        -- A state class extends a root or state class.
        state-extended : {k : Kind} {o : Option Kind} → Extends k o → k ≡ state
            → (o ≡ some root) ⊎ (o ≡ some state)
        state-extended plain_object e = false≢ (ap is_state e)
        state-extended plain_plain e = false≢ (ap is_state e)
        state-extended root_object e = false≢ (ap is_state e)
        state-extended root_plain e = false≢ (ap is_state e)
        state-extended state_root e = inl refl
        state-extended state_state e = inr refl

        superclass-changes : (k : ℕ) (c : Class) → class_at P k ≡ some c → c.kind ≡ state
            → Changeable P c.super
        superclass-changes k c p s = go (class_at P c.super) refl (state-extended (kinds k c p) s)
          where
            go : (o : Option Class) → class_at P c.super ≡ o
                → (map_option (λ (b : Class). b.kind) o ≡ some root)
                ⊎ (map_option (λ (b : Class). b.kind) o ≡ some state)
                → Changeable P c.super
            go none q (inl e) = absurd (Never e)
            go none q (inr e) = absurd (Never e)
            go (some b) q (inl e) = changes_root b q (inj e)
            go (some b) q (inr e) = changes_state b q (inj e)

        -- So its root is a root or state class, and so is every class of the same root.
        root-changes : {k r : ℕ} → RootOf P k r → Changeable P k → Changeable P r
        root-changes (root_none e) f = f
        root-changes (root_stays c p s) f = f
        root-changes {k} (root_above c p s x) f = root-changes x (superclass-changes k c p s)

        pub same_root_changes : {c d r : ℕ} → Changeable P d → RootOf P c r → RootOf P d r → Changeable P c
        same_root_changes f (root_none e) y = root-changes y f
        same_root_changes f (root_stays c p s) y = root-changes y f
        same_root_changes f (root_above c p s x) y = changes_state c p s

        -- What stands above a class that is no state class.
        above-plain : (k : ℕ) {d : ℕ} (c b : Class) → class_at P k ≡ some c → class_at P k ≡ some b
            → b.kind ≢ state → Subclass P c.super d
            → (x : Class) → class_at P d ≡ some x → x.kind ≡ plain
        above-plain k c b p q s a = plain-above a
            (λ x e. superclass-plain k c x p (subst (λ (y : Class). y.kind ≢ state) (one_class q p) s) e)

        -- Up from a class either its root stays the root, or every class is its own root and above that root.
        pub root_up : {k d r q : ℕ} → Subclass P k d → RootOf P k r → RootOf P d q
            → (q ≡ r) ⊎ ((q ≡ d) × Subclass P r d)
        root_up itself x y = inl (root_one y x)
        root_up (below_object p) (root_none e) y =
            inr (root_one y (root_none object_is_no_class), below_object p)
        root_up (below_object p) (root_stays c e s) y = no_class p e
        root_up (below_object p) (root_above c e s x) y = no_class p e
        root_up (above c p a) (root_none e) y = no_class e p
        root_up {k} (above c p a) (root_stays b q s) y =
            inr (
              root_of_other (λ x e. plain_no_state (above-plain k c b p q s a x e)) y,
              above c p a,
            )
        root_up {r} (above c p a) (root_above b q s x) y =
            root_up {r = r} a (subst (λ (c : Class). RootOf P c.super r) (one_class q p) x) y

        -- A class below a root or state class has the same root.
        pub root_same : {k d r q : ℕ} → Subclass P k d → Changeable P d → RootOf P k r → RootOf P d q → r ≡ q
        root_same itself f x y = root_one x y
        root_same (below_object p) f x y = no_class object_is_no_class (changeable_class f).1
        root_same (above c p a) f (root_none z) y = no_class z p
        root_same {k} (above c p a) f (root_stays c' p' s) y = let x = changeable_class f in
            absurd (x.2 (above-plain k c c' p p' s a x.0 x.1))
        root_same {r} (above c p a) f (root_above c' p' s x) y =
            root_same {r = r} a f (subst (λ (c : Class). RootOf P c.super r) (one_class p' p) x) y
