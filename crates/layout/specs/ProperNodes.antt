-- Nodes of an accepted program: in form with room for their slots, and typed; and what this tells of a node, one level at a
-- time (`proper_parts`, `propers_parts`): the nesting that it uses, its name, its class, its children.
use Rattle.std.specs.Prelude.{◌≡◌, List, length}
use Rattle.std.proofs.Math.Path.{refl, ap}
use Rattle.std.proofs.Math.Option.{some}
use Prim.Native.Nat.{ℕ, suc, ◌+◌, ◌-◌, ◌≤◌, ◌<◌}
use Rattle.std.proofs.Common.{arith}
use Rattle.language.specs.Limits.{of_check}
use Rattle.language.specs.Tree.{ExprType, Expr, literal, slot, is_null, get, cast, new, change, assign, set}
use Rattle.language.specs.Tree.{call, choose, block, Exprs, nil, cons, count, Class}
use Rattle.language.specs.World.{Method}
use Rattle.language.specs.Program.{world}
use Rattle.language.specs.Environment.{Environment}
use Rattle.language.specs.WellFormed.{TypeInForm, Each, NodeInForm, NodesInForm}
use Rattle.theory.specs.ComputedRules.{HasType, HaveTypes, type_new, type_cast, type_get, type_set}
use Rattle.theory.specs.ComputedRules.{type_assign}
use Rattle.theory.specs.ComputedRules.{type_is_null, type_call, type_choose, type_block, type_change}
use Rattle.theory.specs.ComputedRules.{types_nil}
use Rattle.theory.specs.ComputedRules.{types_cons}
use Rattle.theory.proofs.typing.TypingRules.{all_fit_length}
use Rattle.layout.specs.HeldLaws.{in_declared, made_in}
use Rattle.layout.specs.NodeForms.{of_width, form_parts, forms_parts}

module _ (P : List Class) where
  -- An expression with a type, whatever the environment.
  pub record Typed (e : Expr) : Type 0 where
    pub before : Environment
    pub type : ExprType
    pub after : Environment
    pub effect : ℕ
    pub has : HasType (world P) before e type after effect

  pub record TypedAll (es : Exprs) : Type 0 where
    pub before : Environment
    pub types : List ExprType
    pub after : Environment
    pub effect : ℕ
    pub have : HaveTypes (world P) before es types after effect

  -- A node in form that may nest d deep, with n of `width` slots in scope, slot 0 included, and typed.
  pub record Proper (width n d : ℕ) (e : Expr) : Type 0 where
    pub in_form : NodeInForm (of_width width) d n e
    pub typed : Typed e

  pub record ProperAll (width n d : ℕ) (es : Exprs) : Type 0 where
    pub in_form : NodesInForm (of_width width) d n es
    pub typed : TypedAll es

  abbrev pub ProperParts : ℕ → ℕ → ℕ → Expr → Type 0
  ProperParts w n d (literal l) = Unit {0}
  ProperParts w n d (slot k) = Unit {0}
  ProperParts w n d (is_null e) = (1 ≤ d) × Proper w n (d - 1) e
  ProperParts w n d (get f e) = (1 ≤ d) × (f < suc of_check.name) × Proper w n (d - 1) e
  ProperParts w n d (cast c e) = (1 ≤ d) × (c ≤ length P) × Proper w n (d - 1) e
  ProperParts w n d (new c) = c ≤ length P
  ProperParts w n d (change k c) = c ≤ length P
  ProperParts w n d (assign k e) = (1 ≤ d) × Proper w n (d - 1) e
  ProperParts w n d (set f e e') =
      (1 ≤ d) × (f < suc of_check.name) × Proper w n (d - 1) e × Proper w n (d - 1) e'
  ProperParts w n d (call m e es) = (1 ≤ d) × (m < suc of_check.name) × (count es ≤ of_check.parameters)
      × Proper w n (d - 1) e × ProperAll w n (d - 1) es
  ProperParts w n d (choose a b c) =
      (1 ≤ d) × Proper w n (d - 1) a × Proper w n (d - 1) b × Proper w n (d - 1) c
  ProperParts w n d (block ts es) =
      (1 ≤ d) × (n + length ts ≤ w) × Each TypeInForm ts × ProperAll w (n + length ts) (d - 1) es

  abbrev pub ProperAllParts : ℕ → ℕ → ℕ → Exprs → Type 0
  ProperAllParts w n d nil = Unit {0}
  ProperAllParts w n d (cons e es) = Proper w n d e × ProperAll w n d es

  -- A node from its form and its type, and a list.
  proper : {w n d : ℕ} {e : Expr} {γ γ' : Environment} {t : ExprType} {φ : ℕ} → NodeInForm (of_width w) d n e
      → HasType (world P) γ e t γ' φ → Proper w n d e
  proper f t = record { in_form = f; typed = record { before = _; type = _; after = _; effect = _; has = t } }

  propers : {w n d : ℕ} {es : Exprs} {γ γ' : Environment} {ts : List ExprType} {φ : ℕ}
      → NodesInForm (of_width w) d n es → HaveTypes (world P) γ es ts γ' φ → ProperAll w n d es
  propers f t = record {
    in_form = f;
    typed =
        record { before = _; types = _; after = _; effect = _; have = t };
  }

  types_count : (es : Exprs) {γ γ' : Environment} {ts : List ExprType} {φ : ℕ}
      → HaveTypes (world P) γ es ts γ' φ → count es ≡ length ts
  unfolding count
  types_count nil types_nil = refl
  types_count (cons e es) (types_cons d ds) = ap suc (types_count es ds)

  module _ (short : (c m : ℕ) (M : Method) → (world P).method c m ≡ some M
      → length M.parameters ≤ of_check.parameters) where
    parts : {w n d : ℕ} (e : Expr) {γ γ' : Environment} {t : ExprType} {φ : ℕ}
        → NodeInForm (of_width w) d n e → HasType (world P) γ e t γ' φ → ProperParts w n d e
    parts (literal l) f t = tt
    parts (slot k) f t = tt
    parts {w} (is_null e) f (type_is_null t b) = let x = form_parts (of_width w) _ f in
        (x.0, proper x.1 t)
    parts {w} (get m e) f (type_get t b) = let x = form_parts (of_width w) _ f in
        (x.0, x.1, proper x.2 t)
    parts {w} (cast c e) f (type_cast t b q) = let x = form_parts (of_width w) _ f in
        (x.0, in_declared P c b, proper x.1 t)
    parts (new c) f (type_new b) = made_in P c b
    parts (change k c) f (type_change b x y z) = in_declared P c b
    parts {w} (assign k e) f (type_assign t b q) = let x = form_parts (of_width w) _ f in
        (x.0, proper x.1 t)
    parts {w} (set m e e') f (type_set t t' b q) = let x = form_parts (of_width w) _ f in
        (x.0, x.1, proper x.2 t, proper x.3 t')
    parts {w} (call m e es) f (type_call {ts = ts} M t us found fit) =
        let x = form_parts (of_width w) _ f in (
          x.0,
          x.1,
          omega (
            arith,
            types_count es us,
            all_fit_length (world P) ts M.parameters fit,
            short _ m M found,
          ),
          proper x.2 t,
          propers x.3 us,
        )
    parts {w} (choose a b c) f (type_choose t u v q) = let x = form_parts (of_width w) _ f in
        (x.0, proper x.1 t, proper x.2 u, proper x.3 v)
    parts {w} (block ts es) f (type_block b us) = let x = form_parts (of_width w) _ f in
        (x.0, x.1, x.2, propers x.3 us)

    pub proper_parts : {w n d : ℕ} (e : Expr) → Proper w n d e → ProperParts w n d e
    proper_parts e h = parts e h.in_form h.typed.has

    all-parts : {w n d : ℕ} (es : Exprs) {γ γ' : Environment} {ts : List ExprType} {φ : ℕ}
        → NodesInForm (of_width w) d n es → HaveTypes (world P) γ es ts γ' φ → ProperAllParts w n d es
    all-parts nil f types_nil = tt
    all-parts {w} (cons e es) f (types_cons t ts) = let x = forms_parts (of_width w) _ f in
        (proper x.0 t, propers x.1 ts)

    pub propers_parts : {w n d : ℕ} (es : Exprs) → ProperAll w n d es → ProperAllParts w n d es
    propers_parts es h = all-parts es h.in_form h.typed.have
