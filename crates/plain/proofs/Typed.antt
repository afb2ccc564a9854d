-- What form under the translator's limits and a type tell of a node, one level at a time (`typed_parts`): slots
-- are in scope, classes are declared, members are found, and the parts are in form and typed. And that the bodies
-- of a program that the translator takes are so (`typed_body`, `classes_ready`).
use mathlib.Core.Path.{◌≡◌, refl, sym, ap, ◌∙◌, subst}
use mathlib.Core.Option.{some}
use mathlib.Core.List.{List, map}
use Prim.Native.Nat.{ℕ, zero, suc, ◌+◌, ◌≤◌, ◌<◌}
use native.Mathlib.Omega.{arith}
use lib.ListN.{length, length-append, length-map}
use Rattle.language.specs.Limits.{of_translator, largest}
use Rattle.language.specs.Lists.{nth, bind_option_inv, nth_lt}
use Rattle.language.specs.Frames.{at_slot, opened}
use Rattle.language.specs.Tree.{DeclaredType, ExprType, Expr, literal, slot, is_null, get, cast, new, change}
use Rattle.language.specs.Tree.{assign, set, call, choose, block, Exprs, nil, cons, count, size, Field}
use Rattle.language.specs.Tree.{Declaration, Class}
use Rattle.language.specs.World.{Method, World, place, field_type}
use Rattle.language.specs.Effects.{apply_class}
use Rattle.language.specs.Program.{world}
use Rattle.language.specs.Environment.{Slot, Environment, fresh_slot, method_environment}
use Rattle.language.specs.Typing.{type_of, type_all}
use Rattle.language.specs.Translation.{typed_or, typed_all_or, class_or}
use Rattle.language.specs.LookupClasses.{LooksUp}
use Rattle.language.specs.Layout.{EachMethod, EachClass, body_row, methods_from_row}
use Rattle.language.specs.WellFormed.{Each, TypeInForm, each_nil, each_cons, MethodInForm, ClassInForm}
use Rattle.language.specs.WellFormed.{NodeInForm, NodesInForm, form_is_null, form_get, form_cast, form_new}
use Rattle.language.specs.WellFormed.{form_change, form_assign, form_set, form_call, form_choose, form_block}
use Rattle.language.specs.WellFormed.{form_cons, BodyInForm, form_body, MethodsWell, methods_nil}
use Rattle.language.specs.WellFormed.{methods_cons, ClassesWell, classes_nil, classes_cons}
use Rattle.language.proofs.Methods.{method_found}
use Rattle.theory.specs.ComputedRules.{HasType, HaveTypes, type_literal, type_slot, type_new, type_cast}
use Rattle.theory.specs.ComputedRules.{type_get, type_set, type_assign, type_is_null, type_call, type_choose}
use Rattle.theory.specs.ComputedRules.{type_block, type_change, types_nil, types_cons}
use Rattle.theory.proofs.typing.TypingRules.{complete, completes, all_fit_length}
use Rattle.theory.proofs.lookups.Superclasses.{Hierarchy}
use Rattle.theory.proofs.typing.RulesAgree.{computed}
use Rattle.theory.proofs.translation.PlainForm.{slots_same}
use Rattle.layout.specs.HeldLaws.{fields, method_at, in_declared, field_in, method_in}
use Rattle.plain.specs.Numbers.{nodes_of}
use Rattle.emitters.specs.Writing.{Lent}
use Rattle.plain.specs.Tasks.{TypedIn, EachNode, BodyReady, BodiesReady}

-- A slot that is there stands below the number of slots.
slot_below : (γ : Environment) (k v : ℕ) (s : Slot) → 1 + length γ.slots ≡ v → at_slot γ k ≡ some s → k < v
slot_below γ zero v s z e = omega (arith, z)
slot_below γ (suc k) v s z e = omega (arith, z, nth_lt γ.slots k s e)

types_count : {W : World} {es : Exprs} {γ γ' : Environment} {ts : List ExprType} {φ : ℕ}
    → HaveTypes W γ es ts γ' φ → length ts ≡ count es
unfolding count
types_count types_nil = refl
types_count (types_cons d d') = ap suc (types_count d')

module _ (P : List Class) where
  -- A field that is found in a class, and a method with n parameters; rows can hold their types.
  abbrev pub FieldFound : ℕ → ℕ → Type 0
  FieldFound c f = (i : ℕ) × (g : Field) × (place f ((world P).fields c) ≡ some i)
      × (nth ((world P).fields c) i ≡ some g) × TypeInForm g.type

  abbrev pub MethodFound : ℕ → ℕ → ℕ → Type 0
  MethodFound c m n = (M : Method) × ((world P).method c m ≡ some M) × (length M.parameters ≡ n)
      × Each TypeInForm M.parameters

  abbrev pub TypedNodes : Exprs → Environment → ℕ → Type 0
  TypedNodes es γ v = (r : ℕ) → EachNode (λ e γ r. TypedIn P γ v e) (nodes_of (world P) es γ) r

  abbrev pub TypedParts : Expr → Environment → ℕ → Type 0
  TypedParts (literal l) γ v = Unit {0}
  TypedParts (slot k) γ v = k < v
  TypedParts (is_null e) γ v = TypedIn P γ v e
  TypedParts (get f e) γ v = TypedIn P γ v e
  TypedParts (cast c e) γ v = (c ≤ largest) × TypedIn P γ v e
  TypedParts (new c) γ v = c ≤ largest
  TypedParts (change k d) γ v = (k < v) × (d ≤ largest) × (d ≤ length P)
  TypedParts (assign k e) γ v = (k < v) × TypedIn P γ v e
  TypedParts (set f e e') γ v =
      let W = world P in
      let a = typed_or (type_of W e 0 γ) in
      let b = typed_or (type_of W e' 0 a.slots) in
      let c = apply_class W b.effect (class_or a.type) in
      (f < 256) × (c ≤ length P) × FieldFound c f × TypedIn P γ v e × TypedIn P a.slots v e'
  TypedParts (call m e es) γ v =
      let W = world P in
      let a = typed_or (type_of W e 0 γ) in
      let b = typed_all_or (type_all W es 0 a.slots) in
      let c = apply_class W b.effect (class_or a.type) in
      (m < 256) × (c ≤ length P) × MethodFound c m (count es) × TypedIn P γ v e × TypedNodes es a.slots v
  TypedParts (choose e x y) γ v = let δ = (typed_or (type_of (world P) e 0 γ)).slots in
      TypedIn P γ v e × TypedIn P δ v x × TypedIn P δ v y
  TypedParts (block ts es) γ v = (v + length ts ≤ of_translator.slots) × Each TypeInForm ts
      × TypedNodes es (opened γ (map fresh_slot ts)) (v + length ts)

  typed_in : {e : Expr} {d v : ℕ} {γ γ' : Environment} {t : ExprType} {φ : ℕ} → NodeInForm of_translator d v e
      → 1 + length γ.slots ≡ v → HasType (world P) γ e t γ' φ → TypedIn P γ v e
  typed_in i z h =
      record { depth = _; in_form = i; scope = z; type = _; after = _; effect = _; has = h }

  typed_nodes : (es : Exprs) {d v : ℕ} {γ γ' : Environment} {ts : List ExprType} {φ : ℕ}
      → NodesInForm of_translator d v es → 1 + length γ.slots ≡ v → HaveTypes (world P) γ es ts γ' φ
      → TypedNodes es γ v
  unfolding EachNode nodes_of
  typed_nodes nil i z types_nil r = tt
  typed_nodes (cons e es) (form_cons i is) z (types_cons h h') r =
      rw (complete (world P) e h 0)
      (typed_in i z h, typed_nodes es is (omega (arith, z, slots_same (world P) e h)) h' (r + size e))

module _ {P : List Class} {E R T M C : List ℕ} (l : Lent P E R T M C) where
  field_found : (c f : ℕ) (u : DeclaredType) → field_type f ((world P).fields c) ≡ some u
      → (c ≤ length P) × FieldFound P c f
  unfolding field_type
  field_found c f u e = bind_option_inv _ _ e λ i e₁ e. bind_option_inv _ _ e λ g e₂ e. (
    field_in l.held c f i e₁,
    (i, g, e₁, e₂, (fields l.held.headed c i g e₂).2.in_form.type),
  )

  method_here : (c m n : ℕ) (M : Method) → (world P).method c m ≡ some M → length M.parameters ≡ n
      → (c ≤ length P) × MethodFound P c m n
  method_here c m n M e z =
      let i = (method_at l.held.headed c m M e).in_form.parameters in
      let r = (method_found P c m M e).parameters in
      (method_in l.held c m M e, (M, e, z, subst (Each TypeInForm) (sym r) i))

  parts : (e : Expr) {d v : ℕ} {γ γ' : Environment} {t : ExprType} {φ : ℕ} → NodeInForm of_translator d v e
      → 1 + length γ.slots ≡ v → HasType (world P) γ e t γ' φ → TypedParts P e γ v
  parts (literal k) i z type_literal = tt
  parts (slot k) {γ} i z (type_slot {s} h) = slot_below γ k _ s z h
  parts (is_null e) (form_is_null i) z (type_is_null h n) = typed_in P i z h
  parts (get f e) (form_get p i) z (type_get h n) = typed_in P i z h
  parts (cast c e) (form_cast p i) z (type_cast h n m) = (p, typed_in P i z h)
  parts (new c) (form_new p) z (type_new h) = p
  parts (change k c) {γ} (form_change q p) z (type_change {s} n h _ f) =
      (slot_below γ k _ s z h, p, in_declared P c n)
  parts (assign (suc k) e) (form_assign p i) z (type_assign {γ'} {s} h n f) = (
    slot_below γ' (suc k) _ s (omega (arith, z, slots_same (world P) e h)) n,
    typed_in P i z h,
  )
  parts (set f e e') (form_set p i j) z (type_set {u} h h' n m) =
      rw (complete (world P) e h 0, complete (world P) e' h' 0) (
      let x = field_found _ f u n in (
        omega (arith, p),
        x.0,
        x.1,
        typed_in P i z h,
        typed_in P j (omega (arith, z, slots_same (world P) e h)) h',
      )
      )
  parts (call m e es) (form_call p q i is) z (type_call {ts} M h h' n f) =
      rw (complete (world P) e h 0, completes (world P) es h' 0) (
      let x = method_here _ m (count es) M n
      (sym (all_fit_length (world P) ts M.parameters f) ∙ types_count h') in (
        omega (arith, p),
        x.0,
        x.1,
        typed_in P i z h,
        typed_nodes P es is (omega (arith, z, slots_same (world P) e h)) h',
      )
      )
  parts (choose e x y) (form_choose i i' i'') z (type_choose h h' h'' j) =
      rw (complete (world P) e h 0) (
      let w = slots_same (world P) e h in
      (typed_in P i z h, typed_in P i' (omega (arith, z, w)) h', typed_in P i'' (omega (arith, z, w)) h'')
      )
  parts (block ts es) {γ} (form_block p q r ps is) z (type_block d h) = (
    p,
    ps,
    typed_nodes P es is
        (omega (arith, z, length-append γ.slots (map fresh_slot ts), length-map ts fresh_slot)) h,
  )
  parts (assign zero e) {d = d} {v = v} {γ = γ} {t = t} {φ = φ} i z x5 = elim x5 [ ]

  pub typed_parts : (e : Expr) {v : ℕ} {γ : Environment} → TypedIn P γ v e → TypedParts P e γ v
  typed_parts e h = parts e h.in_form h.scope h.has

-- ---- bodies

module _ (P : List Class) where
  pub typed_body : {e : Expr} {γ γ' : Environment} {t : ExprType} {φ : ℕ} (v : ℕ)
      → HasType (world P) γ e t γ' φ → BodyInForm of_translator v e → 1 + length γ.slots ≡ v
      → TypedIn P γ v e
  typed_body v h (form_body i) z = typed_in P i z h

  module _ (𝓗 : Hierarchy P) (C : List ℕ) where
    each-ready : (k super : ℕ) {before ms : List Declaration} → MethodsWell P k super before ms
        → Each (MethodInForm of_translator) ms → (r : ℕ)
        → EachMethod (λ k m r. LooksUp (world P) C m.body (method_environment k m.parameters)
        (body_row r m)) ms k r
        → EachMethod (BodyReady P C) ms k r
    unfolding EachMethod
    each-ready k super methods_nil each_nil r h = tt
    each-ready k super (methods_cons {m} w ws) (each_cons i is) r h = (
      record {
        looks = h.0;
        typed = typed_body (1 + length m.parameters) (computed P 𝓗 m.body w.body) i.body
            (omega (arith, length-map m.parameters fresh_slot));
      },
      each-ready k super ws is _ h.1,
    )

    pub classes_ready : {k : ℕ} {cs : List Class} → ClassesWell P k cs
        → Each (ClassInForm of_translator) cs → (r : ℕ)
        → EachClass (λ k c r. EachMethod (λ k m r. LooksUp (world P) C m.body
        (method_environment k m.parameters) (body_row r m))
        c.methods k (methods_from_row r c)) cs k r
        → EachClass (BodiesReady P C) cs k r
    unfolding EachClass
    classes_ready classes_nil each_nil r h = tt
    classes_ready {k} (classes_cons {c} w ws) (each_cons i is) r h =
        (each-ready k c.super w.methods i.methods _ h.0, classes_ready ws is _ h.1)
