-- Typing where nothing changes class: the rules of typing for plain expressions, in slots whose types stay.
-- What these rules give, the typing rules give, with the same slots afterwards and no effect.
use mathlib.Core.Path.{◌≡◌, refl, ap, ap₂, ◌∙◌, subst}
use Prim.Native.Nat.{ℕ, zero, suc}
use mathlib.Core.Option.{Option, none, some}
use mathlib.Core.Bool.{true}
use mathlib.Core.List.{List, [], ◌∷◌, map, map-append}
use lib.ListN.{length}
use lib.Seq.{take-append_seam}
use Rattle.language.specs.Lists.{nth, map_option, nth_map}
use Rattle.language.specs.Frames.{Frame, frame, at_slot, opened, closed}
use Rattle.language.specs.Tree.{DeclaredType, bool, class, ExprType, known, null_type, Expr, literal}
use Rattle.language.specs.Tree.{slot, is_null, get, cast, new, assign, set, call}
use Rattle.language.specs.Tree.{choose, block, Exprs, nil, cons, Literal, literal_type}
use Rattle.language.specs.World.{Method, World, field_type, is_declared}
use Rattle.language.specs.Effects.{no_effect, join, apply_expr}
use Rattle.language.specs.Environment.{Slot, Environment, fresh_slot}
use Rattle.language.specs.Typing.{not_bool, last_type, fits, all_fit}
use Rattle.language.specs.Typing.{join_types, join_currents, join_slot, join_slots, join_this}
use Rattle.language.specs.Typing.{join_environments, apply_slot, apply_all}
use Rattle.theory.specs.ComputedRules.{Declared, HasType, HaveTypes, type_literal, type_slot}
use Rattle.theory.specs.ComputedRules.{type_new, type_cast, type_get, type_set, type_assign}
use Rattle.theory.specs.ComputedRules.{type_is_null}
use Rattle.theory.specs.ComputedRules.{type_call, type_choose, type_block, types_nil, types_cons}
use Rattle.theory.proofs.typing.EffectLaws.{class_kept, type_kept, expr_kept}

-- Slots that have the types they were declared with.
abbrev pub fresh : Frame DeclaredType → Environment
fresh δ = frame (map_option fresh_slot δ.this) (map fresh_slot δ.slots)

module _ (W : World) where
  mutual
    pub data Plain : Frame DeclaredType → Expr → ExprType → Type 0 where
      plain_literal : {δ : Frame DeclaredType} {l : Literal} → Plain δ (literal l) (literal_type l)
      plain_slot : {δ : Frame DeclaredType} {k : ℕ} {u : DeclaredType} → at_slot δ k ≡ some u
          → Plain δ (slot k) (known u)
      plain_new : {δ : Frame DeclaredType} {c : ℕ} → is_declared W c ≡ true
          → Plain δ (new c) (known (class c))
      plain_cast : {δ : Frame DeclaredType} {c : ℕ} {e : Expr} {t : ExprType}
          → Plain δ e t → is_declared W c ≡ true → not_bool t ≡ true → Plain δ (cast c e) (known (class c))
      plain_get : {δ : Frame DeclaredType} {f c : ℕ} {e : Expr} {u : DeclaredType}
          → Plain δ e (known (class c)) → field_type f (W.fields c) ≡ some u → Plain δ (get f e) (known u)
      plain_set : {δ : Frame DeclaredType} {f c : ℕ} {e e' : Expr} {t : ExprType} {u : DeclaredType}
          → Plain δ e (known (class c)) → Plain δ e' t → field_type f (W.fields c) ≡ some u
          → fits W t u ≡ true
          → Plain δ (set f e e') t
      plain_assign : {δ : Frame DeclaredType} {k : ℕ} {e : Expr} {t : ExprType} {u : DeclaredType}
          → Plain δ e t → nth δ.slots k ≡ some u → fits W t u ≡ true → Plain δ (assign (suc k) e) t
      plain_is_null : {δ : Frame DeclaredType} {e : Expr} {t : ExprType}
          → Plain δ e t → not_bool t ≡ true → Plain δ (is_null e) (known bool)
      plain_call : {δ : Frame DeclaredType} {m c : ℕ} {e : Expr} {es : Exprs} {ts : List ExprType}
          (M : Method)
          → Plain δ e (known (class c)) → Plains δ es ts → W.method c m ≡ some M → M.effect ≡ no_effect
          → all_fit W ts M.parameters ≡ true → Plain δ (call m e es) (known M.result)
      plain_choose : {δ : Frame DeclaredType} {e x y : Expr} {t u v : ExprType}
          → Plain δ e (known bool) → Plain δ x t → Plain δ y u → join_types W t u ≡ some v
          → Plain δ (choose e x y) v
      plain_block : {δ : Frame DeclaredType} {ts : List DeclaredType} {us : List ExprType} {es : Exprs}
          → Declared W ts → Plains (opened δ ts) es us → Plain δ (block ts es) (last_type null_type us)

    pub data Plains : Frame DeclaredType → Exprs → List ExprType → Type 0 where
      plains_nil : {δ : Frame DeclaredType} → Plains δ nil []
      plains_cons : {δ : Frame DeclaredType} {e : Expr} {es : Exprs} {t : ExprType} {ts : List ExprType}
          → Plain δ e t → Plains δ es ts → Plains δ (cons e es) (t ∷ ts)

  slot_kept : (s : Slot) → apply_slot W no_effect s ≡ s
  slot_kept s = rw (type_kept W s.current)

  slots_kept : (ss : List Slot) → map (apply_slot W no_effect) ss ≡ ss
  slots_kept [] = refl
  slots_kept (s ∷ ss) = ap₂ (λ (x : Slot) (xs : List Slot). x ∷ xs) (slot_kept s) (slots_kept ss)

  this_kept : (o : Option Slot) → map_option (apply_slot W no_effect) o ≡ o
  this_kept none = refl
  this_kept (some s) = ap (λ (x : Slot). some x) (slot_kept s)

  all_kept : (γ : Environment) → apply_all W no_effect γ ≡ γ
  all_kept γ = ap₂ (λ (o : Option Slot) (ss : List Slot). frame o ss) (this_kept γ.this)
      (slots_kept γ.slots)

  join_none : join no_effect no_effect ≡ no_effect
  unfolding join
  join_none = refl

  at_fresh : (δ : Frame DeclaredType) (k : ℕ) (u : DeclaredType) → at_slot δ k ≡ some u
      → at_slot (fresh δ) k ≡ some (fresh_slot u)
  at_fresh δ zero u e = ap (map_option fresh_slot) e
  at_fresh δ (suc k) u e = nth_map fresh_slot k δ.slots u e

  fresh_opened : (δ : Frame DeclaredType) (ts : List DeclaredType)
      → fresh (opened δ ts) ≡ opened (fresh δ) (map fresh_slot ts)
  fresh_opened δ ts = ap (λ (ss : List Slot). frame (map_option fresh_slot δ.this) ss)
      (map-append fresh_slot δ.slots ts)

  fresh_closed : (δ : Frame DeclaredType) (ts : List DeclaredType)
      → closed (length (map fresh_slot δ.slots)) (opened (fresh δ) (map fresh_slot ts)) ≡ fresh δ
  fresh_closed δ ts = ap (λ (ss : List Slot). frame (map_option fresh_slot δ.this) ss)
      (take-append_seam (map fresh_slot δ.slots) (map fresh_slot ts))

  module _ (same : (c : ℕ) → W.nearest c c ≡ c)
      (makes : (c : ℕ) → is_declared W c ≡ true → W.makes c ≡ true) where
    -- Slots joined with themselves stay.
    current-joined : (t : DeclaredType) → join_currents W t t ≡ t
    current-joined bool = refl
    current-joined (class c) = ap class (same c)

    slot-joined : (s : Slot) → join_slot W s s ≡ s
    slot-joined s = rw (current-joined s.current)

    slots-joined : (ss : List Slot) → join_slots W ss ss ≡ ss
    unfolding join_slots
    slots-joined [] = refl
    slots-joined (s ∷ ss) = ap₂ (λ (x : Slot) (xs : List Slot). x ∷ xs) (slot-joined s) (slots-joined ss)

    this-joined : (o : Option Slot) → join_this W o o ≡ o
    this-joined none = refl
    this-joined (some s) = ap (λ (x : Slot). some x) (slot-joined s)

    all-joined : (γ : Environment) → join_environments W γ γ ≡ γ
    all-joined γ = ap₂ (λ (o : Option Slot) (ss : List Slot). frame o ss) (this-joined γ.this)
        (slots-joined γ.slots)

    -- A plain expression has its type by the typing rules; its slots stay and its effect is none.
    mutual
      pub plain_has : (e : Expr) {δ : Frame DeclaredType} {t : ExprType} → Plain δ e t
          → HasType W (fresh δ) e t (fresh δ) no_effect
      plain_has (literal l) plain_literal = type_literal
      plain_has (slot k) {δ} (plain_slot {u} e) = type_slot (at_fresh δ k u e)
      plain_has (new c) (plain_new i) = type_new (makes c i)
      plain_has (cast c e) (plain_cast d i n) = type_cast (plain_has e d) i n
      plain_has (get f e) (plain_get d i) = type_get (plain_has e d) i
      plain_has (set f e e') (plain_set {c} d d' i j) = rw join_none at
          (type_set (plain_has e d) (plain_has e' d')
          (ap (λ (x : ℕ). field_type f (W.fields x)) (class_kept W c) ∙ i) j)
      plain_has (assign (suc k) e) {δ} (plain_assign {u} d i j)
          = type_assign (plain_has e d) (nth_map fresh_slot k δ.slots u i) j
      plain_has (is_null e) (plain_is_null d n) = type_is_null (plain_has e d) n
      plain_has (call m e es) {δ} (plain_call {c} M d d' i z j) =
          let h : HasType W (fresh δ) (call m e es) (known M.result) (apply_all W M.effect (fresh δ))
          (join (join no_effect no_effect) M.effect)
          = type_call M (plain_has e d) (plains_have es d')
          (ap (λ (x : ℕ). W.method x m) (class_kept W c) ∙ i)
          j in
          let g : HasType W (fresh δ) (call m e es) (known M.result) (apply_all W no_effect (fresh δ))
          (join (join no_effect no_effect) no_effect)
          = rw z at h in
          subst (λ γ. HasType W (fresh δ) (call m e es) (known M.result) γ no_effect) (all_kept (fresh δ))
          (rw (join_none, join_none) at g)
      plain_has (choose e x y) {δ} (plain_choose {v} d d' d'' j) =
          subst (λ γ. HasType W (fresh δ) (choose e x y) v γ no_effect) (all-joined (fresh δ))
          (rw (join_none, join_none) at (type_choose (plain_has e d) (plain_has x d') (plain_has y d'') j))
      plain_has (block ts es) {δ} (plain_block {us} l d) =
          let h : HaveTypes W (opened (fresh δ) (map fresh_slot ts)) es us
          (opened (fresh δ) (map fresh_slot ts)) no_effect
          = rw (fresh_opened δ ts) at (plains_have es d) in
          subst (λ γ. HasType W (fresh δ) (block ts es) (last_type null_type us) γ no_effect)
          (fresh_closed δ ts) (type_block l h)
      plain_has (Rattle.language.specs.Tree.change _ _) {δ = δ} {t = t} x4 = elim x4 [ ]
      plain_has (assign zero e) {δ = δ} {t = t} x5 = elim x5 [ ]

      pub plains_have : (es : Exprs) {δ : Frame DeclaredType} {ts : List ExprType} → Plains δ es ts
          → HaveTypes W (fresh δ) es ts (fresh δ) no_effect
      plains_have nil plains_nil = types_nil
      plains_have (cons e es) {δ} (plains_cons {t} {ts} d d') =
          let h : HaveTypes W (fresh δ) (cons e es) (apply_expr W no_effect t ∷ ts) (fresh δ)
          (join no_effect no_effect)
          = types_cons (plain_has e d) (plains_have es d') in
          rw (expr_kept W t, join_none) at h
