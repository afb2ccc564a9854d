-- Types, classes and fields of a plain world: where a source type fits, its plain form does; plain classes
-- are declared; a field's plain form is found where the field is.
use mathlib.Core.Path.{◌≡◌, refl, sym, ap, ◌∙◌, subst}
use Prim.Native.Nat.{ℕ}
use mathlib.Core.Option.{some}
use mathlib.Core.Bool.{Bool, true, false, not, ◌||◌}
use mathlib.Core.List.{List, [], ◌∷◌, map}
use lib.Dec.{eqb}
use native.Mathlib.Omega.{arith}
use borrow.Author.Tests.{leb-true, le-leb, eq-eqb, ne_eqb}
use Rattle.language.specs.Limits.{object_class, identity_class, fickle_class, imp_field, id_field}
use Rattle.language.specs.Lists.{nth, bind_option_inv, Never, inj, map_option, nth_append, nth_map}
use Rattle.language.specs.Tree.{DeclaredType, bool, class, ExprType, known, null_type, Field}
use Rattle.language.specs.World.{Method, World, place, field_type, is_declared, is_declared_type}
use Rattle.language.specs.Typing.{not_bool, fits, all_fit, join_types}
use Rattle.theory.specs.ComputedRules.{Declared, declared_nil, declared_cons}
use Rattle.language.specs.Translation.{plain_class, plain_type, plain_field}
use Rattle.language.proofs.Booleans.{false≢, and_inv}
use Rattle.theory.proofs.soundness.Fitting.{Laws}
use Rattle.theory.proofs.translation.PlainWorld.{plain_form, place_map}
use Rattle.theory.proofs.translation.PlainOf.{PlainOf}
use Rattle.theory.proofs.translation.PlainSlots.{TypesMatch, both_bool, both_class, both_null, null_class}

-- What else the checks of headings and the translator's own check of names give.
pub record NameLaws (W : World) : Type 0 where
  -- A class with a field or a method is declared, and the root of a declared class is.
  pub declared_field : (c n i : ℕ) → place n (W.fields c) ≡ some i → is_declared W c ≡ true
  pub declared_method : (c m : ℕ) (M : Method) → W.method c m ≡ some M → is_declared W c ≡ true
  pub declared_new : (c : ℕ) → W.makes c ≡ true → is_declared W c ≡ true
  pub declared_root : (c : ℕ) → is_declared W c ≡ true → is_declared W (W.root c) ≡ true
  -- No field name stands twice in a class, and none is that of `id`.
  pub unique : (c i : ℕ) (f : Field) → nth (W.fields c) i ≡ some f → place f.name (W.fields c) ≡ some i
  pub unreserved : (c n i : ℕ) → place n (W.fields c) ≡ some i → eqb id_field n ≡ false
  -- Every class is below Object.
  pub top : (c : ℕ) → W.below c object_class ≡ true

-- A name that is not reserved is not that of `id`.
pub free_name : (n : ℕ) → not (eqb n id_field || eqb n imp_field) ≡ true → eqb id_field n ≡ false
free_name n e = go (eqb n id_field) refl e
  where
    go : (b : Bool) → eqb n id_field ≡ b → not (b || eqb n imp_field) ≡ true → eqb id_field n ≡ false
    go true p q = false≢ q
    go false p q = ne_eqb id_field n (λ h. false≢ (sym p ∙ eq-eqb n id_field (sym h)))

module _ {W W' : World} (𝓟 : PlainOf W W') where
  -- Where a source type fits, its plain form does.
  pub fits_plain : {t u : ExprType} (w : DeclaredType) → TypesMatch t u → fits W t w ≡ true
      → fits W' u (plain_type w) ≡ true
  fits_plain bool both_bool e = refl
  fits_plain (class d) both_bool e = e
  fits_plain bool both_class e = e
  fits_plain (class d) both_class e = 𝓟.below_identity
  fits_plain bool both_null e = e
  fits_plain (class d) both_null e = refl
  fits_plain bool null_class e = e
  fits_plain (class d) null_class e = 𝓟.below_identity

  pub fits_identity : {t u : ExprType} → TypesMatch t u → not_bool t ≡ true
      → fits W' u (class identity_class) ≡ true
  fits_identity both_bool n = n
  fits_identity both_class n = 𝓟.below_identity
  fits_identity both_null n = refl
  fits_identity null_class n = 𝓟.below_identity

  pub fits_itself : (w : DeclaredType) → fits W' (known (plain_type w)) (plain_type w) ≡ true
  fits_itself bool = refl
  fits_itself (class c) = 𝓟.below_identity

  pub all_fit_itself : (ws : List DeclaredType)
      → all_fit W' (map (λ t. known (plain_type t)) ws) (map plain_type ws) ≡ true
  unfolding all_fit
  all_fit_itself [] = refl
  all_fit_itself (w ∷ ws) = rw (fits_itself w, all_fit_itself ws)

  pub join_plain : {t t' u u' v : ExprType} → TypesMatch t u → TypesMatch t' u' → join_types W t t' ≡ some v
      → (w : ExprType) × (join_types W' u u' ≡ some w) × TypesMatch v w
  join_plain both_bool both_bool e =
      (known bool, refl, subst (λ x. TypesMatch x (known bool)) (inj e) both_bool)
  join_plain both_bool both_class e = absurd (Never e)
  join_plain both_bool both_null e = absurd (Never e)
  join_plain both_bool null_class e = absurd (Never e)
  join_plain both_class both_bool e = absurd (Never e)
  join_plain both_class both_class e = (
    known (class 1),
    rw (𝓟.nearest_same 1),
    subst (λ x. TypesMatch x (known (class 1))) (inj e) both_class,
  )
  join_plain both_class both_null e =
      (known (class 1), refl, subst (λ x. TypesMatch x (known (class 1))) (inj e) both_class)
  join_plain both_class null_class e = (
    known (class 1),
    rw (𝓟.nearest_same 1),
    subst (λ x. TypesMatch x (known (class 1))) (inj e) both_class,
  )
  join_plain both_null both_bool e = absurd (Never e)
  join_plain both_null both_class e =
      (known (class 1), refl, subst (λ x. TypesMatch x (known (class 1))) (inj e) both_class)
  join_plain both_null both_null e = (null_type, refl, subst (λ x. TypesMatch x null_type) (inj e) both_null)
  join_plain both_null null_class e =
      (known (class 1), refl, subst (λ x. TypesMatch x (known (class 1))) (inj e) null_class)
  join_plain null_class both_bool e = absurd (Never e)
  join_plain null_class both_class e = (
    known (class 1),
    rw (𝓟.nearest_same 1),
    subst (λ x. TypesMatch x (known (class 1))) (inj e) both_class,
  )
  join_plain null_class both_null e =
      (known (class 1), refl, subst (λ x. TypesMatch x (known (class 1))) (inj e) null_class)
  join_plain null_class null_class e = (
    known (class 1),
    rw (𝓟.nearest_same 1),
    subst (λ x. TypesMatch x (known (class 1))) (inj e) null_class,
  )

  -- Plain classes are declared.
  pub plain_declared : (c : ℕ) → is_declared W c ≡ true → is_declared W' (plain_class c) ≡ true
  plain_declared c d =
      rw 𝓟.count (le-leb (plain_class c) (plain_class W.count) (omega (arith, leb-true c W.count d)))

  pub identity_declared : is_declared W' identity_class ≡ true
  identity_declared = rw 𝓟.count (le-leb 1 (plain_class W.count) (omega arith))

  pub type_declared : (t : DeclaredType) → is_declared_type W' (plain_type t) ≡ true
  type_declared bool = refl
  type_declared (class c) = identity_declared

  pub types_declared : (ts : List DeclaredType) → Declared W' (map plain_type ts)
  types_declared [] = declared_nil
  types_declared (t ∷ ts) = declared_cons (type_declared t) (types_declared ts)

  -- The fields `imp` and `id`.
  pub imp_type : field_type imp_field (W'.fields identity_class) ≡ some (class fickle_class)
  unfolding field_type place nth
  imp_type = rw 𝓟.identity_fields

  pub id_type : (c : ℕ) → is_declared W c ≡ true
      → field_type id_field (W'.fields (plain_class c)) ≡ some (class identity_class)
  unfolding field_type place nth
  id_type c d = rw (𝓟.fields c d)

  pub fickle_declared : is_declared W' fickle_class ≡ true
  fickle_declared = rw 𝓟.count (le-leb 2 (plain_class W.count) (omega arith))

  pub method_plain : (c m : ℕ) (M : Method) → W.method c m ≡ some M
      → W'.method (plain_class c) m ≡ some (plain_form M)
  method_plain c m M e = 𝓟.method c m ∙ ap (map_option plain_form) e

-- A field found has a declared class, and its plain form is found there.
pub field_declared : {W : World} (𝓝 : NameLaws W) (f c : ℕ) (t : DeclaredType)
    → field_type f (W.fields c) ≡ some t
    → is_declared W c ≡ true
unfolding field_type
field_declared 𝓝 f c t e = bind_option_inv _ _ e λ i p e. 𝓝.declared_field c f i p

module _ {W W' : World} (𝓟 : PlainOf W W') (𝓝 : NameLaws W) where
  pub field_plain : (f c : ℕ) (t : DeclaredType) → field_type f (W.fields c) ≡ some t
      → field_type f (W'.fields (plain_class c)) ≡ some (plain_type t)
  unfolding field_type place nth
  field_plain f c t e = bind_option_inv _ _ e λ i p e. bind_option_inv _ _ e λ g q e.
      rw (
        𝓟.fields c (𝓝.declared_field c f i p),
        𝓝.unreserved c f i p,
        place_map f (W.fields c),
        p,
        nth_map plain_field i (W.fields c) g q,
        ap plain_type (inj e),
      )

  pub fits_fickle : (c : ℕ) → is_declared W c ≡ true
      → fits W' (known (class (plain_class c))) (class fickle_class) ≡ true
  fits_fickle c d = 𝓟.below c 0 d ∙ 𝓝.top c

pub fits_same : {W W' : World} → PlainOf W W' → Laws W → (c : ℕ) → is_declared W c ≡ true
    → fits W' (known (class (plain_class c))) (class (plain_class c)) ≡ true
fits_same 𝓟 laws c d = 𝓟.below c c d ∙ laws.sub_refl c

pub root_field : {W : World} → Laws W → NameLaws W → (c d : ℕ) (f : Field) (k : ℕ) → W.below d c ≡ true
    → nth (W.fields c) k ≡ some f
    → field_type f.name (W.fields d) ≡ some f.type
unfolding field_type
root_field {W} laws 𝓝 c d f k s e = let p = laws.prefix d c s in
    let q : nth (W.fields d) k ≡ some f = ap (λ r. nth r k) p.1 ∙ nth_append _ p.0 k f e in
    rw (𝓝.unique d k f q, q)

module _ (W : World) where
  pub fits_first : {A : Type 0} (t : ExprType) (ts : List ExprType) → all_fit W (t ∷ ts) [] ≡ true → A
  unfolding all_fit
  fits_first t ts e = false≢ e

  pub fits_rest : (t : ExprType) (ts : List ExprType) (u : DeclaredType) (us : List DeclaredType)
      → all_fit W (t ∷ ts) (u ∷ us) ≡ true
      → (fits W t u ≡ true) × (all_fit W ts us ≡ true)
  unfolding all_fit
  fits_rest t ts u us e = and_inv (fits W t u) (all_fit W ts us) e
