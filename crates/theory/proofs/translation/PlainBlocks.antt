-- The blocks that the translation makes are typed: the reading of a slot, of an implementor and of arguments,
-- and the change of class.
use mathlib.Core.Path.{◌≡◌, refl, sym, ap, ◌∙◌}
use Prim.Native.Nat.{ℕ, zero, suc}
use mathlib.Core.Option.{Option, none, some}
use mathlib.Core.Bool.{true}
use mathlib.Core.List.{List, [], ◌∷◌, ◌++◌, map, append-nil}
use lib.ListN.{length}
use Rattle.language.specs.Limits.{identity_class, id_field}
use Rattle.language.specs.Lists.{nth, Never, inj, nth_append, nth₀, nth₁, nth₂, up, up_suc, All2}
use Rattle.language.specs.Frames.{Frame, at_slot, opened}
use Rattle.language.specs.Tree.{DeclaredType, class, ExprType, known, null_type, Expr, slot, get, block}
use Rattle.language.specs.Tree.{Exprs, nil, Field}
use Rattle.language.specs.World.{World, field_type, is_declared}
use Rattle.language.specs.Environment.{Slot, Environment}
use Rattle.language.specs.Typing.{last_type, after_change}
use Rattle.theory.specs.ComputedRules.{Declared, declared_nil, declared_cons}
use Rattle.language.specs.Translation.{plain_class, plain_type, Shape, position, read_slot, ◌then◌, ◌⊕◌}
use Rattle.language.specs.Translation.{implementor, reads, copies, renew, change_types, plain_change}
use Rattle.theory.proofs.soundness.Fitting.{Laws}
use Rattle.theory.proofs.translation.PlainOf.{PlainOf}
use Rattle.theory.proofs.translation.PlainRules.{Plain, Plains, plain_literal, plain_slot as slot_plain}
use Rattle.theory.proofs.translation.PlainRules.{plain_new as new_plain, plain_cast as cast_plain}
use Rattle.theory.proofs.translation.PlainRules.{plain_get}
use Rattle.theory.proofs.translation.PlainRules.{plain_set, plain_assign, plain_is_null, plain_choose}
use Rattle.theory.proofs.translation.PlainRules.{plain_block}
use Rattle.theory.proofs.translation.PlainRules.{plains_nil, plains_cons}
use Rattle.theory.proofs.translation.PlainSlots.{TypesMatch, both_class, match_plain, ThisMatch, no_this}
use Rattle.theory.proofs.translation.PlainSlots.{a_this}
use Rattle.theory.proofs.translation.PlainSlots.{Match, match_change, variable_at, temporary_at}
use Rattle.theory.proofs.translation.PlainTypes.{NameLaws, fits_itself, plain_declared, identity_declared}
use Rattle.theory.proofs.translation.PlainTypes.{imp_type}
use Rattle.theory.proofs.translation.PlainTypes.{id_type, field_plain, fits_same, fits_fickle, root_field}

-- The answer for a translated expression, and for several in a row.
pub record TypedPlainly (W W' : World) (sh : Shape) (δ : Frame DeclaredType) (e : Expr) (t : ExprType)
    (γ' : Environment) :
    Type 0 where
  pub u : ExprType
  pub typed : Plain W' δ e u
  pub matches : TypesMatch t u
  pub slots : Match W sh γ' δ

pub record AllTypedPlainly (W W' : World) (sh : Shape) (δ : Frame DeclaredType) (es : Exprs)
    (ts : List ExprType)
    (γ' : Environment) : Type 0 where
  pub us : List ExprType
  pub typed : Plains W' δ es us
  pub matches : All2 TypesMatch ts us
  pub slots : Match W sh γ' δ

pub last_snoc : (t : ExprType) (us : List ExprType) (u : ExprType) → last_type t (us ++ (u ∷ [])) ≡ u
last_snoc t [] u = refl
last_snoc t (x ∷ us) u = last_snoc x us u

module _ {W' : World} where
  pub plains_append : {δ : Frame DeclaredType} {us vs : List ExprType} {es rs : Exprs} → Plains W' δ es us
      → Plains W' δ rs vs
      → Plains W' δ (es ⊕ rs) (us ++ vs)
  unfolding ◌⊕◌
  plains_append plains_nil q = q
  plains_append (plains_cons d p) q = plains_cons d (plains_append p q)

  pub reads_typed : {δ : Frame DeclaredType} (ps : List DeclaredType) (n : ℕ)
      → ((q : ℕ) (u : DeclaredType) → nth (map plain_type ps) q ≡ some u → nth δ.slots (up q n) ≡ some u)
      → Plains W' δ (reads (suc n) ps) (map (λ t. known (plain_type t)) ps)
  unfolding reads nth
  reads_typed [] n f = plains_nil
  reads_typed {δ} (p ∷ ps) n f =
      let g : (q : ℕ) (u : DeclaredType) → nth (map plain_type ps) q ≡ some u
      → nth δ.slots (up q (suc n)) ≡ some u
      = λ q u e. rw (up_suc q n) (f (suc q) u e) in
      plains_cons (slot_plain (f 0 (plain_type p) refl)) (reads_typed ps (suc n) g)

  pub block_typed : {δ : Frame DeclaredType} {us : List ExprType} {es : Exprs} → Plains W' δ es us
      → Plain W' δ (block [] es) (last_type null_type us)
  block_typed {δ} {us} {es} p = let q : Plains W' (opened δ []) es us = rw (append-nil δ.slots) p in
      plain_block declared_nil q

module _ {W W' : World} (𝓟 : PlainOf W W') where
  -- The implementor of the Identity in a temporary.
  pub implementor_typed : {δ : Frame DeclaredType} (c n : ℕ) → is_declared W c ≡ true
      → nth δ.slots n ≡ some (class identity_class)
      → Plain W' δ (implementor c (suc n)) (known (class (plain_class c)))
  implementor_typed c n d e = cast_plain (plain_get (slot_plain e) (imp_type 𝓟)) (plain_declared 𝓟 c d) refl

  pub slot_typed : {sh : Shape} {γ : Environment} {δ : Frame DeclaredType} (k : ℕ) (s : Slot) → Match W sh γ δ
      → at_slot γ k ≡ some s
      → TypedPlainly W W' sh δ (read_slot sh k) (known s.current) γ
  unfolding read_slot
  slot_typed {sh} {γ} {δ} zero s m e = go γ.this δ.this refl refl m.this e
    where
      go : (o : Option Slot) (p : Option DeclaredType) → γ.this ≡ o → δ.this ≡ p → ThisMatch W o p
          → o ≡ some s
          → TypedPlainly W W' sh δ (get id_field (slot 0)) (known s.current) γ
      go none none a b no_this f = absurd (Never f)
      go (some x) (some y) a b (a_this {c} {o} h i) f =
          record {
            u = known (class 1);
            typed = plain_get (slot_plain b) (id_type 𝓟 o i);
            matches = rw (sym (ap (λ (z : Slot). z.current) (inj f)) ∙ h) both_class;
            slots = m;
          }
      go none (some y) a b x10 f = elim x10 [ ]
      go (some x) none a b x9 f = elim x9 [ ]
  slot_typed (suc k) s m e = record {
    u = known (plain_type s.current);
    typed = slot_plain (variable_at W m k s e);
    matches = match_plain s.current;
    slots = m;
  }

module _ {W W' : World} (𝓟 : PlainOf W W') (laws : Laws W) (𝓝 : NameLaws W) where
  -- R's copies of the root's fields, and its inner block.
  copies_typed : {δ : Frame DeclaredType} (o p c d : ℕ) (fs : List Field) (r : Exprs) (us : List ExprType)
      → nth δ.slots o ≡ some (class (plain_class d)) → nth δ.slots p ≡ some (class (plain_class c))
      → ((f : Field) (k : ℕ) → nth fs k ≡ some f
      → (field_type f.name (W.fields c) ≡ some f.type)
      × (field_type f.name (W.fields d) ≡ some f.type))
      → Plains W' δ r us → (vs : List ExprType) × Plains W' δ (copies (suc o) (suc p) fs r) (vs ++ us)
  unfolding copies nth
  copies_typed o p c d [] r us a b f q = ([], q)
  copies_typed o p c d (g ∷ fs) r us a b f q =
      let x = copies_typed o p c d fs r us a b (λ h k e. f h (suc k) e) q in let y = f g 0 refl in (
        known (plain_type g.type) ∷ x.0,
        plains_cons (plain_set (slot_plain a) (plain_get (slot_plain b)
            (field_plain 𝓟 𝓝 g.name c g.type y.0))
            (field_plain 𝓟 𝓝 g.name d g.type y.1) (fits_itself 𝓟 g.type)) x.1,
      )

  renew_typed : {δ : Frame DeclaredType} (n d : ℕ) → is_declared W d ≡ true
      → nth δ.slots n ≡ some (class identity_class)
      → nth δ.slots (suc n) ≡ some (class (plain_class d))
      → nth δ.slots (suc (suc n)) ≡ some (class (plain_class (W.root d)))
      → Plain W' δ (renew W (suc n) d) (known (class identity_class))
  renew_typed {δ} n d i a b c =
      let r = W.root d in let j = 𝓝.declared_root d i in
      let x = copies_typed {δ = δ} (suc n) (suc (suc n)) r d (W.fields r) (slot (suc n) then nil)
      (known (class 1) ∷ []) b c
      (λ f k e. (
        root_field laws 𝓝 r r f k (laws.sub_refl r) e,
        root_field laws 𝓝 r d f k (laws.sub_root d)
            e,
      ))
      (plains_cons (slot_plain a) plains_nil) in
      let y : Plains W' δ _
      (known (class (plain_class d)) ∷ known (class (plain_class r)) ∷ known (class 1) ∷ known
      (class (plain_class d)) ∷ (x.0 ++ (known (class 1) ∷ [])))
      = plains_cons (plain_assign (new_plain (plain_declared 𝓟 d i)) b (fits_same 𝓟 laws d i))
      (plains_cons (plain_assign (implementor_typed 𝓟 r n j a) c (fits_same 𝓟 laws r j))
      (plains_cons (plain_set (slot_plain {k = suc (suc n)} b) (slot_plain {k = suc n} a) (id_type 𝓟 d i)
      𝓟.below_identity)
      (plains_cons (plain_set (slot_plain {k = suc n} a) (slot_plain {k = suc (suc n)} b) (imp_type 𝓟)
      (fits_fickle 𝓟 𝓝 d i)) x.1))) in
      rw (last_snoc (known (class (plain_class d))) x.0 (known (class 1))) at (block_typed y)

  change_declared : (d : ℕ) → is_declared W d ≡ true → Declared W' (change_types W d)
  change_declared d i = declared_cons (identity_declared 𝓟)
      (declared_cons (plain_declared 𝓟 d i)
      (declared_cons (plain_declared 𝓟 (W.root d) (𝓝.declared_root d i)) declared_nil))

  -- The first value of R's block: the Identity in the slot.
  pub change_typed : (k c d : ℕ) (s : Slot) (sh : Shape) (γ : Environment) (δ : Frame DeclaredType)
      → Match W sh γ δ
      → is_declared W d ≡ true
      → at_slot γ k ≡ some s → s.current ≡ class c
      → TypedPlainly W W' sh δ (plain_change W (suc (length sh)) sh k d) (known (class d))
      (after_change W γ k s d)
  unfolding plain_change
  change_typed zero c d s sh γ δ m i e h =
      let Δ₂ = change_types W d in let n = length sh in
      let at₀ : nth (δ.slots ++ Δ₂) n ≡ some (class 1) = temporary_at W Δ₂ 0 _ m (nth₀ _ _) in
      let at₁ : nth (δ.slots ++ Δ₂) (suc n) ≡ some (class (plain_class d)) =
      temporary_at W Δ₂ 1 _ m (nth₁ _ _ _) in
      let at₂ : nth (δ.slots ++ Δ₂) (suc (suc n)) ≡ some (class (plain_class (W.root d)))
      = temporary_at W Δ₂ 2 _ m (nth₂ _ _ _ _) in
      let own : (o : ℕ) × (is_declared W o ≡ true) × (δ.this ≡ some (class (plain_class o)))
      = this-plain γ.this δ.this refl m.this e in
      record {
        u = known (class 1);
        matches = both_class;
        slots = match_change W m zero c d s e h;
        typed = plain_block (change_declared d i)
            (plains_cons (plain_assign (plain_get (slot_plain own.2) (id_type 𝓟 own.0 own.1)) at₀
            𝓟.below_identity)
            (plains_cons (renew_typed n d i at₀ at₁ at₂) (plains_cons (slot_plain at₀) plains_nil)));
      }
    where
      this-plain : (o : Option Slot) (p : Option DeclaredType) → δ.this ≡ p → ThisMatch W o p → o ≡ some s
          → (o : ℕ) × (is_declared W o ≡ true) × (δ.this ≡ some (class (plain_class o)))
      this-plain none none a no_this f = absurd (Never f)
      this-plain (some x) (some y) a (a_this {o} q j) f = (o, j, a)
      this-plain none (some y) a x10 f = elim x10 [ ]
      this-plain (some x) none a x10 f = elim x10 [ ]
  change_typed (suc k) c d s sh γ δ m i e h =
      let Δ₂ = change_types W d in let n = length sh in
      let at₀ : nth (δ.slots ++ Δ₂) n ≡ some (class 1) = temporary_at W Δ₂ 0 _ m (nth₀ _ _) in
      let at₁ : nth (δ.slots ++ Δ₂) (suc n) ≡ some (class (plain_class d)) =
      temporary_at W Δ₂ 1 _ m (nth₁ _ _ _) in
      let at₂ : nth (δ.slots ++ Δ₂) (suc (suc n)) ≡ some (class (plain_class (W.root d)))
      = temporary_at W Δ₂ 2 _ m (nth₂ _ _ _ _) in
      let own : nth (δ.slots ++ Δ₂) (position sh k) ≡ some (class 1)
      = nth_append δ.slots Δ₂ (position sh k) _
      (variable_at W m k s e ∙ ap (λ (t : DeclaredType). some (plain_type t)) h) in
      record {
        u = known (class 1);
        matches = both_class;
        slots = match_change W m (suc k) c d s e h;
        typed = plain_block (change_declared d i)
            (plains_cons (plain_choose (plain_is_null
            (plain_assign (slot_plain own) at₀ 𝓟.below_identity) refl) plain_literal
            (renew_typed n d i at₀ at₁ at₂) refl)
            (plains_cons (slot_plain at₀) plains_nil));
      }
