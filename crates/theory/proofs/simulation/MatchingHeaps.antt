-- Heaps that match still match after a field is set, an object made, or an object's class changed.
use mathlib.Core.Path.{◌≡◌, refl, sym, ap, ◌∙◌}
use Prim.Native.Nat.{ℕ, suc, ◌+◌, ◌<◌}
use native.Mathlib.Nat.{zero-add}
use mathlib.Core.Option.{Option, none, some}
use mathlib.Core.Bool.{true}
use mathlib.Core.Logic.{◌⊎◌, inl, inr, ◌≢◌}
use mathlib.Core.List.{List, [], ◌∷◌, ◌++◌}
use lib.ListN.{length, set as replace, length-append, length-set}
use native.Mathlib.Omega.{arith}
use native.Mathlib.Decide.{ℕ_discrete}
use Rattle.language.specs.Lists.{nth, All2, nth_set_same, nth_set_other, nth_append, nth_last, nth_append_one}
use Rattle.language.specs.Lists.{nth_set}
use Rattle.language.specs.World.{World, is_declared}
use Rattle.language.specs.State.{Value, null, truth, object, Object}
use Rattle.language.specs.Correspondence.{Corresponds, identity_of, implementor_of, Matches}
use Rattle.theory.proofs.simulation.Matching.{identities_set, identities_append, identities_implementor}
use Rattle.theory.proofs.simulation.Matching.{not_identity, Implements, HeapsMatch, Persists}
use Rattle.theory.proofs.simulation.Matching.{all_correspond_later}

-- An implementor tells its Identity, and is none.
abbrev object_number : Value → ℕ
object_number null = 0
object_number (truth b) = 0
object_number (object i) = i

abbrev first_value : List Value → Value
first_value [] = null
first_value (v ∷ vs) = v

abbrev first_number : Option Object → ℕ
first_number none = 0
first_number (some o) = object_number (first_value o.fields)

abbrev class_number : Option Object → ℕ
class_number none = 0
class_number (some o) = o.class_of

pub implementor_tells : {x : Option Object} {i i' c c' : ℕ} {vs vs' : List Value}
    → x ≡ some (implementor_of c i vs)
    → x ≡ some (implementor_of c' i' vs') → i ≡ i'
implementor_tells e f = ap first_number (sym e ∙ f)

pub implementor_no_identity : {x : Option Object} {m i c : ℕ} {vs : List Value} → x ≡ some (identity_of m)
    → x ≡ some (implementor_of c i vs) → ⊥
implementor_no_identity {c} e f = let z : 1 ≡ suc (suc c) = ap class_number (sym e ∙ f) in omega arith

-- What implemented an Identity before still does.
pub keeps_put : {W : World} {ids : List ℕ} {h' : List Object} (i m c c₂ : ℕ) (vs vs₂ : List Value)
    → nth h' m ≡ some (implementor_of c i vs) → is_declared W c₂ ≡ true
    → Persists W ids ids h' (replace h' m (implementor_of c₂ i vs₂))
keeps_put {W} {ids} {h'} i m c c₂ vs vs₂ b dc =
    record { same = λ j x e. e; keeps = λ k x e. go k x e (ℕ_discrete m k) }
  where
    go : (k x : ℕ) → Implements W h' k x → Dec (m ≡ k)
        → Implements W (replace h' m (implementor_of c₂ i vs₂)) k x
    go k x e (yes z) = record {
      c = c₂;
      vs = vs₂;
      known = dc;
      here = rw (← z, implementor_tells e.here (sym (ap (nth h') z) ∙ b)) (nth_set_same h' m _ _ b);
    }
    go k x e (no z) = record {
      c = e.c;
      vs = e.vs;
      known = e.known;
      here = nth_set_other h' m k _ z ∙
          e.here;
    }

pub keeps_new : {W : World} {ids : List ℕ} {h' : List Object} (i : ℕ) (a b : Object)
    → Persists W ids (ids ++ (i ∷ [])) h' ((h' ++ (a ∷ [])) ++ (b ∷ []))
keeps_new {W} {ids} {h'} i a b = record {
  same = λ j x p. nth_append ids _ j x p;
  keeps = λ m x p. record {
    c = p.c;
    vs = p.vs;
    known = p.known;
    here = nth_append (h' ++ (a ∷ [])) _ m _ (nth_append h' _ m _ p.here);
  };
}

pub keeps_renew : {W : World} {ids : List ℕ} {h' : List Object} (i m : ℕ) (N : Object) (k : ℕ)
    → nth h' i ≡ some (identity_of m)
    → Persists W ids ids h' (replace (h' ++ (N ∷ [])) i (identity_of k))
keeps_renew {W} {ids} {h'} i m N k a = record {
  same = λ j x p. p;
  keeps = λ q x p. record {
    c = p.c;
    vs = p.vs;
    known = p.known;
    here = nth_set_other (h' ++ (N ∷ [])) i q (identity_of k)
        (λ z. implementor_no_identity a (ap (nth h') z ∙ p.here)) ∙ nth_append h' _ q _ p.here;
  };
}

module _ {W : World} where
  -- Where one object is put in the place of another, each is still of a declared class.
  still_known : {ids : List ℕ} {h h' : List Object} {j : ℕ} {o₂ : Object} → HeapsMatch W ids h h'
      → is_declared W o₂.class_of ≡ true → (k : ℕ) (q : Object)
      → ((j ≢ k) × (nth h k ≡ some q)) ⊎ ((j ≡ k) × (o₂ ≡ q)) → is_declared W q.class_of ≡ true
  still_known H dc k q (inl y) = H.known k q y.1
  still_known H dc k q (inr y) = rw (← y.1) dc

  -- A field is set: object and implementor change in place.
  pub heap_put : {ids : List ℕ} {h h' : List Object} → HeapsMatch W ids h h' → (j i m : ℕ) (o o₂ : Object)
      (vs vs₂ : List Value) → nth h j ≡ some o → nth ids j ≡ some i → nth h' i ≡ some (identity_of m)
      → nth h' m ≡ some (implementor_of o.class_of i vs) → is_declared W o₂.class_of ≡ true
      → All2 (Corresponds ids) o₂.fields vs₂
      → HeapsMatch W ids (replace h j o₂) (replace h' m (implementor_of o₂.class_of i vs₂))
  heap_put {ids} {h} {h'} H j i m o o₂ vs vs₂ p e a b dc r = record {
    one = H.one;
    bound = λ k x y. rw (length-set h' m N) (H.bound k x y);
    long = H.long ∙ sym (length-set h j o₂);
    made = H.made
        ∙ sym (identities_set 0 h' m _ N b (not_identity o.class_of ∙ sym (not_identity o₂.class_of)));
    each = λ k q y. go k q (nth_set h j o₂ k q y);
    known = λ k q y. still_known H dc k q (nth_set h j o₂ k q y);
  }
    where
      N : Object
      N = implementor_of o₂.class_of i vs₂

      go : (k : ℕ) (q : Object) → ((j ≢ k) × (nth h k ≡ some q)) ⊎ ((j ≡ k) × (o₂ ≡ q))
          → Matches ids (replace h' m N) k q
      go k q (inl y) = let x = H.each k q y.1 in
          record {
            i = x.i;
            m = x.m;
            fields = x.fields;
            identity = x.identity;
            corresponding = x.corresponding;
            at_identity = nth_set_other h' m x.i N
                (λ z. implementor_no_identity x.at_identity (sym (ap (nth h') z) ∙ b)) ∙ x.at_identity;
            at_implementor = nth_set_other h' m x.m N (λ z. y.0 (H.one j k i e (x.identity
                ∙ ap some (implementor_tells x.at_implementor (sym (ap (nth h') z) ∙ b)))))
                ∙ x.at_implementor;
          }
      go k q (inr y) = rw (← y.0, ← y.1) (record {
        i = i;
        m = m;
        fields = vs₂;
        identity = e;
        corresponding = r;
        at_identity = nth_set_other h' m i N (λ z. implementor_no_identity a (sym (ap (nth h') z) ∙ b)) ∙ a;
        at_implementor = nth_set_same h' m N _ b;
      })

  -- An object is made: an Identity and its implementor.
  pub heap_new : {ids : List ℕ} {h h' : List Object} → HeapsMatch W ids h h'
      → (o : Object) (vs : List Value) (m : ℕ)
      → m ≡ suc (length h') → is_declared W o.class_of ≡ true
      → ((ids : List ℕ) → All2 (Corresponds ids) o.fields vs)
      → HeapsMatch W (ids ++ (length h' ∷ [])) (h ++ (o ∷ []))
      ((h' ++ (identity_of m ∷ [])) ++ (implementor_of o.class_of (length h') vs ∷ []))
  heap_new {ids} {h} {h'} H o vs m e dc r = record {
    each = λ j p q. go j p (nth_append_one h o j p q);
    known = λ j p q. kn j p (nth_append_one h o j p q);
    one = λ j k x p q. two j k x (nth_append_one ids i j x p) (nth_append_one ids i k x q);
    bound = λ j x p. rw (long₂) (le j x (nth_append_one ids i j x p));
    long = rw (length-append ids (i ∷ []), length-append h (o ∷ []), H.long);
    made = sym (identities_implementor 0 h₁ o.class_of i vs ∙ identities_append 0 h' (identity_of m)
        ∙ rw (zero-add (length h'), ← H.made) refl);
  }
    where
      i : ℕ
      i = length h'

      B : Object
      B = implementor_of o.class_of i vs

      h₁ : List Object
      h₁ = h' ++ (identity_of m ∷ [])

      long₁ : length h₁ ≡ length h' + 1
      long₁ = length-append h' _

      long₂ : length (h₁ ++ (B ∷ [])) ≡ length h' + 1 + 1
      long₂ = length-append h₁ (B ∷ []) ∙ ap (λ x. x + 1) long₁

      old : (k : ℕ) (p : Object) → nth h' k ≡ some p → nth (h₁ ++ (B ∷ [])) k ≡ some p
      old k p q = nth_append h₁ _ k p (nth_append h' _ k p q)

      keep : (j x : ℕ) → nth ids j ≡ some x → nth (ids ++ (i ∷ [])) j ≡ some x
      keep j x p = nth_append ids _ j x p

      ex : Persists W ids (ids ++ (i ∷ [])) [] []
      ex = record { same = keep; keeps = λ m x p. p }

      m-is : length h₁ ≡ m
      m-is = omega (arith, long₁, e)

      kn : (j : ℕ) (p : Object) → (nth h j ≡ some p) ⊎ ((j ≡ length h) × (o ≡ p))
          → is_declared W p.class_of ≡ true
      kn j p (inl q) = H.known j p q
      kn j p (inr q) = rw (← q.1) dc

      go : (j : ℕ) (p : Object) → (nth h j ≡ some p) ⊎ ((j ≡ length h) × (o ≡ p))
          → Matches (ids ++ (i ∷ [])) (h₁ ++ (B ∷ [])) j p
      go j p (inl q) = let x = H.each j p q in record {
        i = x.i;
        m = x.m;
        fields = x.fields;
        identity = keep j x.i x.identity;
        corresponding = all_correspond_later ex x.corresponding;
        at_identity = old x.i _ x.at_identity;
        at_implementor = old x.m _ x.at_implementor;
      }
      go j p (inr q) = rw (q.0, ← q.1, ← H.long) (record {
        i = i;
        m = m;
        fields = vs;
        identity = nth_last ids i;
        corresponding = r _;
        at_identity = nth_append h₁ _ i _ (nth_last h' (identity_of m));
        at_implementor = ap (nth (h₁ ++ (B ∷ []))) (sym m-is) ∙ nth_last h₁ B;
      })

      two : (j k x : ℕ) → (nth ids j ≡ some x) ⊎ ((j ≡ length ids) × (i ≡ x))
          → (nth ids k ≡ some x) ⊎ ((k ≡ length ids) × (i ≡ x)) → j ≡ k
      two j k x (inl p) (inl q) = H.one j k x p q
      two j k x (inl p) (inr q) = absurd (omega (arith, H.bound j x p, q.1))
      two j k x (inr p) (inl q) = absurd (omega (arith, H.bound k x q, p.1))
      two j k x (inr p) (inr q) = p.0 ∙ sym q.0

      le : (j x : ℕ) → (nth ids j ≡ some x) ⊎ ((j ≡ length ids) × (i ≡ x)) → x < length h' + 1 + 1
      le j x (inl p) = omega (arith, H.bound j x p)
      le j x (inr p) = omega (arith, p.1)

  -- An object's class changes: its Identity has a new implementor.
  pub heap_renew : {ids : List ℕ} {h h' : List Object} → HeapsMatch W ids h h' → (j i m : ℕ) (o o₂ : Object)
      (vs₂ : List Value) → nth h j ≡ some o → nth ids j ≡ some i → nth h' i ≡ some (identity_of m)
      → is_declared W o₂.class_of ≡ true → All2 (Corresponds ids) o₂.fields vs₂
      → HeapsMatch W ids (replace h j o₂)
      (replace (h' ++ (implementor_of o₂.class_of i vs₂ ∷ [])) i (identity_of (length h')))
  heap_renew {ids} {h} {h'} H j i m o o₂ vs₂ p e a dc r = record {
    one = H.one;
    bound = λ k x y. rw (length-set h₁ i I, length-append h' (N ∷ [])) (omega (arith, H.bound k x y));
    long = H.long ∙ sym (length-set h j o₂);
    made = H.made ∙ sym (identities_set 0 h₁ i _ I a₁ refl ∙ identities_implementor 0 h' o₂.class_of i
        vs₂);
    each = λ k q y. go k q (nth_set h j o₂ k q y);
    known = λ k q y. still_known H dc k q (nth_set h j o₂ k q y);
  }
    where
      N : Object
      N = implementor_of o₂.class_of i vs₂

      I : Object
      I = identity_of (length h')

      h₁ : List Object
      h₁ = h' ++ (N ∷ [])

      a₁ : nth h₁ i ≡ some (identity_of m)
      a₁ = nth_append h' _ i _ a

      go : (k : ℕ) (q : Object) → ((j ≢ k) × (nth h k ≡ some q)) ⊎ ((j ≡ k) × (o₂ ≡ q))
          → Matches ids (replace h₁ i I) k q
      go k q (inl y) = let x = H.each k q y.1 in
          record {
            i = x.i;
            m = x.m;
            fields = x.fields;
            identity = x.identity;
            corresponding = x.corresponding;
            at_identity = nth_set_other h₁ i x.i I
                (λ z. y.0 (H.one j k i e (x.identity ∙ ap some (sym z))))
                ∙ nth_append h' _ x.i _ x.at_identity;
            at_implementor = nth_set_other h₁ i x.m I
                (λ z. implementor_no_identity a (ap (nth h') z ∙ x.at_implementor))
                ∙ nth_append h' _ x.m _ x.at_implementor;
          }
      go k q (inr y) = rw (← y.0, ← y.1) (record {
        i = i;
        m = length h';
        fields = vs₂;
        identity = e;
        corresponding = r;
        at_identity = nth_set_same h₁ i I _ a₁;
        at_implementor = nth_set_other h₁ i (length h') I (λ z. omega (arith, H.bound j i e, z))
            ∙ nth_last h' N;
      })
