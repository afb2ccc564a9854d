-- The translation of a typed expression is typed in every plain world, without effect:
-- its type fits Identity, or is bool, and it is bool exactly where the source's type is.
use mathlib.Core.Path.{◌≡◌, refl, ◌∙◌}
use Prim.Native.Nat.{ℕ, suc}
use mathlib.Core.Option.{some}
use mathlib.Core.Bool.{true, false}
use mathlib.Core.List.{List, [], ◌∷◌, ◌++◌, map}
use lib.ListN.{length}
use Rattle.language.specs.Lists.{nth, nth₀, nth₁, nth_suc, up, up_suc, a_nil, a_cons}
use Rattle.language.specs.Frames.{Frame, opened}
use Rattle.language.specs.Tree.{DeclaredType, bool, class, ExprType, known, null_type, Expr, literal}
use Rattle.language.specs.Tree.{slot, is_null, get, cast, new, change, assign}
use Rattle.language.specs.Tree.{set, call, choose, block, Exprs, nil, cons, literal_type}
use Rattle.language.specs.World.{World}
use Rattle.language.specs.Effects.{no_effect, apply_class, apply_expr}
use Rattle.language.specs.Environment.{Environment}
use Rattle.language.specs.Typing.{last_type, all_fit}
use Rattle.theory.specs.ComputedRules.{declared_nil, declared_cons, HasType, HaveTypes, type_literal}
use Rattle.theory.specs.ComputedRules.{type_slot, type_new, type_cast, type_get, type_set, type_assign}
use Rattle.theory.specs.ComputedRules.{type_is_null, type_call, type_choose, type_block, type_change}
use Rattle.theory.specs.ComputedRules.{types_nil}
use Rattle.theory.specs.ComputedRules.{types_cons}
use Rattle.language.specs.Translation.{plain_class, plain_type, Shape, variables, temporaries, translate}
use Rattle.language.specs.Translation.{translate_all, translate_arguments}
use Rattle.theory.proofs.soundness.Fitting.{Laws}
use Rattle.theory.proofs.translation.PlainWorld.{plain_form}
use Rattle.theory.proofs.translation.PlainOf.{PlainOf}
use Rattle.theory.proofs.simulation.TranslationEquations.{plain_literal as translate_literal}
use Rattle.theory.proofs.simulation.TranslationEquations.{plain_read as translate_slot}
use Rattle.theory.proofs.simulation.TranslationEquations.{plain_is_null as translate_is_null}
use Rattle.theory.proofs.simulation.TranslationEquations.{plain_get as translate_get}
use Rattle.theory.proofs.simulation.TranslationEquations.{plain_cast_is as translate_cast}
use Rattle.theory.proofs.simulation.TranslationEquations.{plain_new_is as translate_new}
use Rattle.theory.proofs.simulation.TranslationEquations.{plain_change_is as translate_change}
use Rattle.theory.proofs.simulation.TranslationEquations.{plain_assign as translate_assign}
use Rattle.theory.proofs.simulation.TranslationEquations.{plain_set as translate_set, plain_call as translate_call}
use Rattle.theory.proofs.simulation.TranslationEquations.{plain_choose as translate_choose}
use Rattle.theory.proofs.simulation.TranslationEquations.{plain_block as translate_block}
use Rattle.theory.proofs.simulation.TranslationEquations.{plain_nil as translate_all_nil}
use Rattle.theory.proofs.simulation.TranslationEquations.{plain_cons as translate_all_cons}
use Rattle.theory.proofs.simulation.TranslationEquations.{plain_no_arguments as translate_arguments_nil}
use Rattle.theory.proofs.simulation.TranslationEquations.{plain_arguments as translate_arguments_cons}
use Rattle.theory.proofs.translation.PlainRules.{fresh, Plains, plain_literal}
use Rattle.theory.proofs.translation.PlainRules.{plain_slot as slot_plain, plain_new as new_plain}
use Rattle.theory.proofs.translation.PlainRules.{plain_cast as cast_plain, plain_get, plain_set}
use Rattle.theory.proofs.translation.PlainRules.{plain_assign}
use Rattle.theory.proofs.translation.PlainRules.{plain_is_null, plain_call, plain_choose, plain_block}
use Rattle.theory.proofs.translation.PlainRules.{plains_nil}
use Rattle.theory.proofs.translation.PlainRules.{plains_cons, plain_has}
use Rattle.theory.proofs.translation.PlainSlots.{assigned_slot, TypesMatch, both_bool, both_class}
use Rattle.theory.proofs.translation.PlainSlots.{both_null}
use Rattle.theory.proofs.translation.PlainSlots.{bool_only, class_only, match_plain, match_not_bool}
use Rattle.theory.proofs.translation.PlainSlots.{last_match}
use Rattle.theory.proofs.translation.PlainSlots.{Match, match_apply, fits_match, all_apply, match_join}
use Rattle.theory.proofs.translation.PlainSlots.{match_opened}
use Rattle.theory.proofs.translation.PlainSlots.{match_closed, no_temporary, a_temporary}
use Rattle.theory.proofs.translation.PlainSlots.{typed_temporaries}
use Rattle.theory.proofs.translation.PlainSlots.{match_more, match_fewer, variable_at, temporary_at}
use Rattle.theory.proofs.translation.PlainSlots.{literal_matches}
use Rattle.theory.proofs.translation.PlainTypes.{NameLaws, fits_plain, fits_identity, fits_itself}
use Rattle.theory.proofs.translation.PlainTypes.{all_fit_itself}
use Rattle.theory.proofs.translation.PlainTypes.{join_plain, plain_declared, identity_declared}
use Rattle.theory.proofs.translation.PlainTypes.{type_declared}
use Rattle.theory.proofs.translation.PlainTypes.{types_declared, imp_type, id_type, method_plain}
use Rattle.theory.proofs.translation.PlainTypes.{field_declared}
use Rattle.theory.proofs.translation.PlainTypes.{field_plain, fits_same, fits_fickle, fits_first}
use Rattle.theory.proofs.translation.PlainTypes.{fits_rest}
use Rattle.theory.proofs.translation.PlainBlocks.{TypedPlainly, AllTypedPlainly, last_snoc, plains_append}
use Rattle.theory.proofs.translation.PlainBlocks.{reads_typed, implementor_typed, slot_typed, change_typed}

module _ {W W' : World} (𝓟 : PlainOf W W') (laws : Laws W) (𝓝 : NameLaws W) where
  mutual
    -- The translation of a typed expression is typed plainly.
    pub translation_typed : (e : Expr) {γ γ' : Environment} {t : ExprType} {φ : ℕ} → HasType W γ e t γ' φ
        → (sh : Shape) (δ : Frame DeclaredType) → Match W sh γ δ
        → TypedPlainly W W' sh δ (translate W e γ sh) t γ'
    translation_typed (literal l) {γ} type_literal sh δ m =
        rw (translate_literal W l γ sh)
        (record { u = literal_type l; typed = plain_literal; matches = literal_matches l; slots = m })
    translation_typed (slot k) {γ} (type_slot {s} e) sh δ m =
        rw (translate_slot W k γ sh) (slot_typed 𝓟 k s m e)
    translation_typed (is_null e) {γ} (type_is_null d n) sh δ m = let a = translation_typed e d sh δ m in
        rw (translate_is_null W e γ sh)
        (record {
          u = known bool;
          typed = plain_is_null a.typed (match_not_bool a.matches n);
          matches = both_bool;
          slots = a.slots;
        })
    translation_typed (get f e) (type_get {c} {t} d i) sh δ m = let a = translation_typed e d sh δ m in
        rw (translate_get W f sh d) (record {
          u = known (plain_type t);
          matches = match_plain t;
          slots = a.slots;
          typed = plain_get (cast_plain (plain_get (rw (class_only a.matches) at a.typed) (imp_type 𝓟))
              (plain_declared 𝓟 c (field_declared 𝓝 f c t i)) refl) (field_plain 𝓟 𝓝 f c t i);
        })
    translation_typed (cast c e) {γ} (type_cast d i n) sh δ m =
        let Δ₂ = class 1 ∷ [] in let T = a_temporary W (class 1) (no_temporary W) in
        let a = translation_typed e d (sh ++ (false ∷ [])) (opened δ Δ₂) (match_more W m T) in
        let at₀ : nth (δ.slots ++ Δ₂) (length sh) ≡ some (class 1) = temporary_at W Δ₂ 0 _ m (nth₀ _ _) in
        rw (translate_cast W c e γ sh) (record {
          u = known (class 1);
          matches = both_class;
          slots = match_fewer W T m a.slots;
          typed = plain_block (declared_cons (identity_declared 𝓟) declared_nil) (plains_cons
              (plain_choose (plain_is_null (plain_assign a.typed at₀ (fits_identity 𝓟 a.matches n))
              (match_not_bool a.matches n)) plain_literal
              (plain_get (implementor_typed 𝓟 c (length sh) i at₀) (id_type 𝓟 c i)) refl) plains_nil);
        })
    translation_typed (new c) {γ} (type_new j) sh δ m =
        let Δ₂ = class 1 ∷ class (plain_class c) ∷ [] in
        let at₀ : nth (δ.slots ++ Δ₂) (length sh) ≡ some (class 1) = temporary_at W Δ₂ 0 _ m (nth₀ _ _) in
        let at₁ : nth (δ.slots ++ Δ₂) (suc (length sh)) ≡ some (class (plain_class c)) =
        temporary_at W Δ₂ 1 _ m (nth₁ _ _ _) in
        let i = 𝓝.declared_new c j in
        rw (translate_new W c γ sh (length sh) refl) (record {
          u = known (class 1);
          matches = both_class;
          slots = m;
          typed = plain_block (declared_cons (identity_declared 𝓟)
              (declared_cons (plain_declared 𝓟 c i) declared_nil))
              (plains_cons (plain_assign (new_plain (identity_declared 𝓟)) at₀ 𝓟.below_identity)
              (plains_cons (plain_assign (new_plain (plain_declared 𝓟 c i)) at₁ (fits_same 𝓟 laws c i))
              (plains_cons (plain_set (slot_plain at₁) (slot_plain at₀) (id_type 𝓟 c i) 𝓟.below_identity)
              (plains_cons (plain_set (slot_plain at₀) (slot_plain at₁) (imp_type 𝓟) (fits_fickle 𝓟 𝓝 c i))
              (plains_cons (slot_plain at₀) plains_nil)))));
        })
    translation_typed (change k d) {γ} (type_change {c} {s} i e h f) sh δ m
        = rw (translate_change W k d γ sh (length sh) refl) (change_typed 𝓟 laws 𝓝 k c d s sh γ δ m i e h)
    translation_typed (assign (suc k) e) {γ} (type_assign {s} d i f) sh δ m = let a =
        translation_typed e d sh δ m in
        rw (translate_assign W (suc k) e γ sh, assigned_slot sh k) (record {
          u = a.u;
          matches = a.matches;
          slots = a.slots;
          typed = plain_assign a.typed (variable_at W a.slots k s i)
              (fits_plain 𝓟 s.current a.matches f);
        })
    translation_typed (set f e e') (type_set {c} {t} {u} {φ₂} d d' i j) sh δ m =
        let Δ₂ = class 1 ∷ plain_type u ∷ [] in let sh₂ = false ∷ false ∷ [] in
        let T = a_temporary W (class 1) (a_temporary W (plain_type u) (no_temporary W)) in
        let a = translation_typed e d (sh ++ sh₂) (opened δ Δ₂) (match_more W m T) in
        let b = translation_typed e' d' (sh ++ sh₂) (opened δ Δ₂) a.slots in
        let at₀ : nth (δ.slots ++ Δ₂) (length sh) ≡ some (class 1) = temporary_at W Δ₂ 0 _ m (nth₀ _ _) in
        let at₁ : nth (δ.slots ++ Δ₂) (suc (length sh)) ≡ some (plain_type u) =
        temporary_at W Δ₂ 1 _ m (nth₁ _ _ _) in
        rw (translate_set W f sh d d' i) (record {
          u = known (plain_type u);
          matches = fits_match W t u j;
          slots = match_fewer W T m b.slots;
          typed = plain_block (declared_cons (identity_declared 𝓟)
              (declared_cons (type_declared 𝓟 u) declared_nil))
              (plains_cons (plain_assign a.typed at₀ (rw (class_only a.matches) 𝓟.below_identity))
              (plains_cons (plain_assign b.typed at₁ (fits_plain 𝓟 u b.matches j))
              (plains_cons (plain_set (implementor_typed 𝓟 _ (length sh) (field_declared 𝓝 f _ u i) at₀)
              (slot_plain at₁)
              (field_plain 𝓟 𝓝 f _ u i) (fits_itself 𝓟 u))
              plains_nil)));
        })
    translation_typed (call m e es) (type_call {c} {ts} {φ₂} M d d' i j) sh δ mt =
        let ps = M.parameters in let Δ₂ = class 1 ∷ map plain_type ps in let sh₂ =
        false ∷ temporaries ps in let n = length sh in
        let T = a_temporary W (class 1) (typed_temporaries W ps) in
        let a = translation_typed e d (sh ++ sh₂) (opened δ Δ₂) (match_more W mt T) in
        let at₀ : nth (δ.slots ++ Δ₂) n ≡ some (class 1) = temporary_at W Δ₂ 0 _ mt (nth₀ _ _) in
        let rest : (q : ℕ) (u : DeclaredType) → nth (map plain_type ps) q ≡ some u
        → nth (δ.slots ++ Δ₂) (up q (suc n)) ≡ some u
        = λ q u e. rw (up_suc q n) (temporary_at W Δ₂ (suc q) u mt (nth_suc _ _ q ∙ e)) in
        let b = arguments_typed es d' (sh ++ sh₂) (opened δ Δ₂) a.slots ps (suc n) rest j in
        let y = plains_append b.0.1 (plains_cons (plain_call (plain_form M)
        (implementor_typed 𝓟 (apply_class W φ₂ c) n (𝓝.declared_method _ m M i) at₀)
        (reads_typed ps (suc n) rest)
        (method_plain 𝓟 _ m M i) refl (all_fit_itself 𝓟 ps)) plains_nil) in
        rw (translate_call W m M sh d d' i) (record {
          u = last_type a.u (b.0.0 ++ (known (plain_type M.result) ∷ []));
          matches = rw (last_snoc a.u b.0.0 (known (plain_type M.result)))
              (match_plain M.result);
          slots = all_apply W M.effect (match_fewer W T mt b.1);
          typed = plain_block (declared_cons (identity_declared 𝓟) (types_declared 𝓟 ps))
              (plains_cons (plain_assign a.typed at₀ (rw (class_only a.matches) 𝓟.below_identity))
              y);
        })
    translation_typed (choose e x y) (type_choose d d' d'' j) sh δ m =
        let a = translation_typed e d sh δ m in let b = translation_typed x d' sh δ a.slots in
        let c = translation_typed y d'' sh δ a.slots in let w = join_plain 𝓟 b.matches c.matches j in
        rw (translate_choose W x y sh d) (record {
          u = w.0;
          matches = w.2;
          slots = match_join W b.slots c.slots;
          typed = plain_choose (rw (bool_only a.matches) at a.typed) b.typed c.typed w.1;
        })
    translation_typed (block ts es) {γ} (type_block l d) sh δ m =
        let a = all_typed es d (sh ++ variables ts) (opened δ (map plain_type ts)) (match_opened W ts m) in
        rw (translate_block W ts es γ sh) (record {
          u = last_type null_type a.us;
          matches = last_match both_null a.matches;
          slots = match_closed W (variables ts) (map plain_type ts) m a.slots;
          typed = plain_block (types_declared 𝓟 ts) a.typed;
        })
    translation_typed (assign Prim.Native.Nat.zero e) {γ = γ} {t = t} {φ = φ} x10 sh δ m = elim x10 [ ]

    pub all_typed : (es : Exprs) {γ γ' : Environment} {ts : List ExprType} {φ : ℕ}
        → HaveTypes W γ es ts γ' φ
        → (sh : Shape) (δ : Frame DeclaredType) → Match W sh γ δ
        → AllTypedPlainly W W' sh δ (translate_all W es γ sh) ts γ'
    all_typed nil {γ} types_nil sh δ m = rw (translate_all_nil W γ sh)
        (record { us = []; typed = plains_nil; matches = a_nil; slots = m })
    all_typed (cons e es) (types_cons {φ₂} d d') sh δ m = let a = translation_typed e d sh δ m in
        let b = all_typed es d' sh δ a.slots in
        rw (translate_all_cons W es sh d) (record {
          us = a.u ∷ b.us;
          typed = plains_cons a.typed b.typed;
          matches = a_cons (match_apply W φ₂ a.matches) b.matches;
          slots = b.slots;
        })

    -- Arguments, each put in its temporary.
    arguments_typed : (es : Exprs) {γ γ' : Environment} {ts : List ExprType} {φ : ℕ}
        → HaveTypes W γ es ts γ' φ
        → (sh : Shape) (δ : Frame DeclaredType) → Match W sh γ δ → (ps : List DeclaredType) (n : ℕ)
        → ((q : ℕ) (u : DeclaredType) → nth (map plain_type ps) q ≡ some u
        → nth δ.slots (up q n) ≡ some u)
        → all_fit W ts ps ≡ true
        → ((us : List ExprType) × Plains W' δ (translate_arguments W es γ sh (suc n)) us) × Match W sh γ' δ
    arguments_typed nil {γ} types_nil sh δ m ps n f j =
        rw (translate_arguments_nil W γ sh (suc n)) (([], plains_nil), m)
    arguments_typed (cons e es) (types_cons {t} {ts} {φ₂} d d') sh δ m [] n f j =
        fits_first W (apply_expr W φ₂ t) ts j
    arguments_typed (cons e es) (types_cons {t} {ts} {φ₂} d d') sh δ m (p ∷ ps) n f j =
        let a = translation_typed e d sh δ m in let y = fits_rest W (apply_expr W φ₂ t) ts p ps j in
        let g : (q : ℕ) (u : DeclaredType) → nth (map plain_type ps) q ≡ some u
        → nth δ.slots (up q (suc n)) ≡ some u
        = λ q u e. rw (up_suc q n) (f (suc q) u (nth_suc _ _ q ∙ e)) in
        let b = arguments_typed es d' sh δ a.slots ps (suc n) g y.1 in
        rw (translate_arguments_cons W es sh (suc n) d) (
          (
            a.u ∷ b.0.0,
            plains_cons (plain_assign a.typed (f 0 (plain_type p) (nth₀ _ _))
                (fits_plain 𝓟 p (match_apply W φ₂ a.matches) y.0)) b.0.1,
          ),
          b.1,
        )

  -- The plain form of a typed expression has a type by the typing rules; its slots stay and it has no effect.
  pub translation_has : (e : Expr) {γ γ' : Environment} {t : ExprType} {φ : ℕ} → HasType W γ e t γ' φ
      → (sh : Shape) (δ : Frame DeclaredType) → Match W sh γ δ
      → (u : ExprType) × HasType W' (fresh δ) (translate W e γ sh) u (fresh δ) no_effect × TypesMatch t u
  translation_has e {γ} d sh δ m = let a = translation_typed e d sh δ m in (
    a.u,
    plain_has W' (λ c. 𝓟.nearest_same c) (λ c. 𝓟.makes c) (translate W e γ sh) a.typed,
    a.matches,
  )
