-- The typing rules of Rules, over relations, and those of ComputedRules, over a world's functions, are one in the world of
-- a program with a well-formed hierarchy. Slots keep their sort in the computed rules, so that the slots of two arms join.
use mathlib.Core.Path.{◌≡◌, sym, subst}
use Prim.Native.Nat.{ℕ, suc}
use mathlib.Core.Option.{some}
use mathlib.Core.Bool.{true}
use mathlib.Core.Logic.{◌↔◌}
use mathlib.Core.List.{List, ◌∷◌}
use lib.ListN.{length}
use Rattle.language.specs.Frames.{with_slot, closed}
use Rattle.language.specs.Tree.{class, ExprType, known, Expr, literal, slot}
use Rattle.language.specs.Tree.{is_null, get, cast, new, change, assign}
use Rattle.language.specs.Tree.{set, call, choose, block, Exprs, nil, cons}
use Rattle.language.specs.Tree.{Class}
use Rattle.language.specs.World.{Method, World, field_type}
use Rattle.language.specs.Effects.{effect_of, effect_of_all, join, apply_class}
use Rattle.language.specs.Program.{world, world_with}
use Rattle.language.specs.Environment.{Environment, with_type}
use Rattle.language.specs.Typing.{all_fit}
use Rattle.language.specs.Typing.{apply_all}
use Rattle.language.specs.ClassRelations.{TypeDeclared}
use Rattle.language.specs.Rules.{HasType, HaveTypes, type_literal, type_slot, type_new, type_cast, type_get}
use Rattle.language.specs.Rules.{type_set, type_assign, type_is_null, type_call, type_choose, type_block}
use Rattle.language.specs.Rules.{type_change, types_nil, types_cons}
use Rattle.theory.specs.ComputedRules.{HasType as Computed, HaveTypes as ComputedAll}
use Rattle.theory.specs.ComputedRules.{type_literal as computed_literal, type_slot as computed_slot}
use Rattle.theory.specs.ComputedRules.{type_new as computed_new, type_cast as computed_cast}
use Rattle.theory.specs.ComputedRules.{type_get as computed_get, type_set as computed_set}
use Rattle.theory.specs.ComputedRules.{type_assign as computed_assign, type_is_null as computed_is_null}
use Rattle.theory.specs.ComputedRules.{type_call as computed_call, type_choose as computed_choose}
use Rattle.theory.specs.ComputedRules.{type_block as computed_block, type_change as computed_change}
use Rattle.theory.specs.ComputedRules.{types_nil as computed_nil, types_cons as computed_cons}
use Rattle.theory.proofs.typing.SlotSorts.{shape}
use Rattle.theory.proofs.lookups.Superclasses.{Hierarchy}
use Rattle.theory.proofs.lookups.LookupsAgree.{is_field, declared_is, method_told, fields_found}
use Rattle.theory.proofs.lookups.LookupsAgree.{world_finds}
use Rattle.theory.proofs.lookups.LookupsAgree.{changeable_declared}
use Rattle.theory.proofs.typing.TypesAgree.{not_bool_is, is_not_bool, last_is, its_last, stated_types}
use Rattle.theory.proofs.typing.TypesAgree.{computed_types}
use Rattle.theory.proofs.typing.TypesAgree.{root_found, root_told, its_applied, applies_expr_is}
use Rattle.theory.proofs.typing.TypesAgree.{its_applied_expr, applies_all_is}
use Rattle.theory.proofs.typing.TypesAgree.{its_applied_all, widens_is, is_widens, widen_is, is_widen}
use Rattle.theory.proofs.typing.TypesAgree.{joins_is}
use Rattle.theory.proofs.typing.TypesAgree.{is_joins, joins_environments_are, are_environments}
use Rattle.theory.proofs.typing.TypesAgree.{can_change_is}
use Rattle.theory.proofs.typing.TypesAgree.{is_can_change, field_told}
use Rattle.theory.proofs.typing.TypesAgree.{applied_class}
use Rattle.theory.proofs.lookups.MethodNumbers.{method_as}

module _ (P : List Class) (𝓗 : Hierarchy P) where
  abbrev W : World
  W = world P

  -- W may make an object of a class that is declared, and of no other.
  makes_is : (c : ℕ) → (W.makes c ≡ true) ↔ TypeDeclared P (class c)
  unfolding world world_with
  makes_is c = declared_is P (class c)

  mutual
    -- What the rules derive, the computed ones do.
    pub computed : (e : Expr) {γ γ' : Environment} {t : ExprType} {φ : ℕ} → HasType P γ e t γ' φ
        → Computed W γ e t γ' φ
    computed (literal l) type_literal = computed_literal
    computed (slot k) (type_slot e) = computed_slot e
    computed (is_null e) (type_is_null h n) = computed_is_null (computed e h) (not_bool_is n)
    computed (get f e) (type_get h x y) = computed_get (computed e h) (field_told P 𝓗 x y)
    computed (cast c e) (type_cast h d n) =
        computed_cast (computed e h) ((declared_is P (class c)).1 d) (not_bool_is n)
    computed (new c) (type_new d) = computed_new ((makes_is c).1 d)
    computed (change k d) {γ} (type_change {r} {s} e p x q y a) =
        subst (λ (δ : Environment).
        Computed W γ (change k d) (known (class d)) (with_slot δ k (with_type (class d) s))
        (effect_of r)) (applies_all_is P 𝓗 a)
        (subst (λ (r : ℕ). Computed W γ (change k d) (known (class d))
        (with_slot (apply_all W (effect_of r) γ) k (with_type (class d) s)) (effect_of r)) (root_told P 𝓗 y)
        (computed_change ((declared_is P (class d)).1 (changeable_declared P x)) e p
        (can_change_is P 𝓗 x q y)))
    computed (assign (suc k) e) (type_assign h p w) = computed_assign (computed e h) p (widens_is P 𝓗 w)
    computed (set f e e') (type_set {u} h h' a x y w) =
        computed_set (computed e h) (computed e' h')
        (subst (λ (d : ℕ). field_type f (W.fields d) ≡ some u) (sym (applied_class P 𝓗 a))
        (field_told P 𝓗 x y))
        (widens_is P 𝓗 w)
    computed (call m e es) {γ} (type_call {γ₂} {o} {φ₁} {φ₂} d h hs a f w b) =
        let φ = effect_of_all d.effects in
        subst (λ (δ : Environment). Computed W γ (call m e es) (known d.result) δ (join (join φ₁ φ₂) φ))
        (applies_all_is P 𝓗 b)
        (computed_call (method_as P o d) (computed e h) (computed_all es hs)
        (subst (λ (k : ℕ). W.method k m ≡ some (method_as P o d)) (sym (applied_class P 𝓗 a))
        (method_told P 𝓗.earlier f)) (widen_is P 𝓗 w))
    computed (choose e x y) {γ} (type_choose {v} {φ₀} {φ₁} {φ₂} h h' h'' j js) =
        subst (λ (ε : Environment). Computed W γ (choose e x y) v ε (join φ₀ (join φ₁ φ₂)))
        (joins_environments_are P 𝓗 js)
        (computed_choose (computed e h) (computed x h') (computed y h'') (joins_is P 𝓗 j))
    computed (block ts es) {γ} {φ} (type_block {γ'} d hs l) =
        subst (λ (t : ExprType). Computed W γ (block ts es) t (closed (length γ.slots) γ') φ) (last_is l)
        (computed_block (computed_types P d) (computed_all es hs))
    computed (assign Prim.Native.Nat.zero e) {γ = γ} {t = t} {φ = φ} x4 = elim x4 [ ]

    computed_all : (es : Exprs) {γ γ' : Environment} {ts : List ExprType} {φ : ℕ} → HaveTypes P γ es ts γ' φ
        → ComputedAll W γ es ts γ' φ
    computed_all nil types_nil = computed_nil
    computed_all (cons e es) {γ} {γ'} {φ} (types_cons {ts} h hs a) =
        subst (λ (t : ExprType). ComputedAll W γ (cons e es) (t ∷ ts) γ' φ) (applies_expr_is P 𝓗 a)
        (computed_cons (computed e h) (computed_all es hs))

  mutual
    -- What the computed rules derive, the rules do.
    pub stated : (e : Expr) {γ γ' : Environment} {t : ExprType} {φ : ℕ} → Computed W γ e t γ' φ
        → HasType P γ e t γ' φ
    stated (literal l) computed_literal = type_literal
    stated (slot k) (computed_slot e) = type_slot e
    stated (is_null e) (computed_is_null {t} h n) = type_is_null (stated e h) (is_not_bool t n)
    stated (get f e) (computed_get {c} {t} h x) = let y = is_field f (W.fields c) t x in
        type_get (stated e h) (fields_found P 𝓗.earlier c) y.1
    stated (cast c e) (computed_cast {t} h d n) =
        type_cast (stated e h) ((declared_is P (class c)).0 d) (is_not_bool t n)
    stated (new c) (computed_new d) = type_new ((makes_is c).0 d)
    stated (change k d) {γ} (computed_change {c} i e p q) = let x = is_can_change P 𝓗 c d q in
        type_change e p x.0 x.1 (root_found P 𝓗 d) (its_applied_all P 𝓗 (effect_of (W.root d)) γ)
    stated (assign (suc k) e) (computed_assign {t} {s} h p w) =
        type_assign (stated e h) p (is_widens P 𝓗 t s.current w)
    stated (set f e e') (computed_set {c} {t} {u} {φ₂} h h' x w) =
        let d = apply_class W φ₂ c in let y = is_field f (W.fields d) u x in
        type_set (stated e h) (stated e' h') (its_applied P 𝓗 φ₂ (class c)) (fields_found P 𝓗.earlier d)
        y.1
        (is_widens P 𝓗 t u w)
    stated (call m e es) {γ} (computed_call {γ₂} {c} {ts} {φ₁} {φ₂} M h hs x w) =
        let y = world_finds P 𝓗.earlier (apply_class W φ₂ c) m M x in
        subst (λ (N : Method). HasType P γ (call m e es) (known N.result) (apply_all W N.effect γ₂)
        (join (join φ₁ φ₂) N.effect)) y.is
        (type_call y.declaration (stated e h) (stated_all es hs) (its_applied P 𝓗 φ₂ (class c)) y.finds
        (is_widen P 𝓗 ts y.declaration.parameters
        (subst (λ (N : Method). all_fit W ts N.parameters ≡ true) (sym y.is) w))
        (its_applied_all P 𝓗 (effect_of_all y.declaration.effects) γ₂))
    stated (choose e x y) (computed_choose {t} {u} {v} h h' h'' j) =
        type_choose (stated e h) (stated x h') (stated y h'') (is_joins P 𝓗 t u v j)
        (are_environments P 𝓗 (shape x h') (shape y h''))
    stated (block ts es) (computed_block {us} d hs) =
        type_block (stated_types P d) (stated_all es hs) (its_last us)
    stated (assign Prim.Native.Nat.zero e) {γ = γ} {t = t} {φ = φ} x4 = elim x4 [ ]

    stated_all : (es : Exprs) {γ γ' : Environment} {ts : List ExprType} {φ : ℕ} → ComputedAll W γ es ts γ' φ
        → HaveTypes P γ es ts γ' φ
    stated_all nil computed_nil = types_nil
    stated_all (cons e es) (computed_cons {t} {φ₂} h hs) =
        types_cons (stated e h) (stated_all es hs) (its_applied_expr P 𝓗 φ₂ t)

  -- The two are one.
  pub rules_agree : (e : Expr) (γ γ' : Environment) (t : ExprType) (φ : ℕ)
      → HasType P γ e t γ' φ ↔ Computed W γ e t γ' φ
  rules_agree e γ γ' t φ = ((λ h. computed e h), (λ h. stated e h))
