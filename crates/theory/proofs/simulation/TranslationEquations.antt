-- The translation of a typed expression, with what typing says of its parts put in.
use mathlib.Core.Path.{◌≡◌, refl}
use Prim.Native.Nat.{ℕ, suc}
use mathlib.Core.Option.{some}
use mathlib.Core.Bool.{false}
use mathlib.Core.List.{List, [], ◌∷◌, ◌++◌, map}
use lib.ListN.{length}
use Rattle.language.specs.Limits.{identity_class, imp_field}
use Rattle.language.specs.Frames.{opened}
use Rattle.language.specs.Tree.{DeclaredType, class, ExprType, known, Expr, literal}
use Rattle.language.specs.Tree.{slot, is_null, get, cast, new, change, assign, set, call}
use Rattle.language.specs.Tree.{choose, block, Exprs, nil, cons, Literal}
use Rattle.language.specs.World.{Method, World, field_type}
use Rattle.language.specs.Effects.{apply_class}
use Rattle.language.specs.Environment.{Environment, fresh_slot}
use Rattle.theory.specs.ComputedRules.{HasType, HaveTypes}
use Rattle.language.specs.Translation.{plain_class, plain_type, Shape, variables, temporaries, plain_slot}
use Rattle.language.specs.Translation.{read_slot, ◌then◌, ◌⊕◌, implementor, reads, plain_new, plain_cast}
use Rattle.language.specs.Translation.{plain_change, translate, translate_all, translate_arguments}
use Rattle.theory.proofs.typing.TypingRules.{complete, completes}

module _ (W : World) where
  -- T, L, N.
  pub plain_literal : (l : Literal) (γ : Environment) (sh : Shape) → translate W (literal l) γ sh ≡ literal l
  unfolding translate
  plain_literal l γ sh = refl

  -- I.
  pub plain_read : (k : ℕ) (γ : Environment) (sh : Shape) → translate W (slot k) γ sh ≡ read_slot sh k
  unfolding translate
  plain_read k γ sh = refl

  -- Z.
  pub plain_is_null : (e : Expr) (γ : Environment) (sh : Shape)
      → translate W (is_null e) γ sh ≡ is_null (translate W e γ sh)
  unfolding translate
  plain_is_null e γ sh = refl

  -- G.
  pub plain_get : {γ γ' : Environment} {e : Expr} {c φ : ℕ} (f : ℕ) (sh : Shape)
      → HasType W γ e (known (class c)) γ' φ
      → translate W (get f e) γ sh ≡ get f (cast (plain_class c) (get imp_field (translate W e γ sh)))
  unfolding translate
  plain_get {e} f sh d = rw (complete W e d 0)

  -- K.
  pub plain_cast_is : (c : ℕ) (e : Expr) (γ : Environment) (sh : Shape)
      → translate W (cast c e) γ sh ≡ plain_cast (suc (length sh)) c (translate W e γ (sh ++ (false ∷ [])))
  unfolding translate
  plain_cast_is c e γ sh = refl

  -- W.
  pub plain_new_is : (c : ℕ) (γ : Environment) (sh : Shape) (n : ℕ) → n ≡ length sh
      → translate W (new c) γ sh ≡ plain_new (suc n) c
  unfolding translate
  plain_new_is c γ sh n e = rw e

  -- R.
  pub plain_change_is : (k d : ℕ) (γ : Environment) (sh : Shape) (n : ℕ) → n ≡ length sh
      → translate W (change k d) γ sh ≡ plain_change W (suc n) sh k d
  unfolding translate
  plain_change_is k d γ sh n e = rw e

  -- A.
  pub plain_assign : (k : ℕ) (e : Expr) (γ : Environment) (sh : Shape)
      → translate W (assign k e) γ sh ≡ assign (plain_slot sh k) (translate W e γ sh)
  unfolding translate
  plain_assign k e γ sh = refl

  -- U.
  pub plain_set : {γ γ₁ γ₂ : Environment} {e e' : Expr} {t : ExprType} {u : DeclaredType} {c φ₁ φ₂ : ℕ}
      (f : ℕ)
      (sh : Shape) → HasType W γ e (known (class c)) γ₁ φ₁ → HasType W γ₁ e' t γ₂ φ₂
      → field_type f (W.fields (apply_class W φ₂ c)) ≡ some u
      → translate W (set f e e') γ sh ≡ block (class identity_class ∷ plain_type u ∷ [])
      (assign (suc (length sh)) (translate W e γ (sh ++ (false ∷ false ∷ [])))
      then assign (suc (suc (length sh))) (translate W e' γ₁ (sh ++ (false ∷ false ∷ [])))
      then set f (implementor (apply_class W φ₂ c) (suc (length sh))) (slot (suc (suc (length sh))))
      then nil)
  unfolding translate
  plain_set {e} {e'} f sh d d' i = rw (complete W e d 0, complete W e' d' 0, i)

  -- Q.
  pub plain_call : {γ γ₁ γ₂ : Environment} {e : Expr} {es : Exprs} {us : List ExprType} {c φ₁ φ₂ : ℕ} (m : ℕ)
      (M : Method) (sh : Shape) → HasType W γ e (known (class c)) γ₁ φ₁ → HaveTypes W γ₁ es us γ₂ φ₂
      → W.method (apply_class W φ₂ c) m ≡ some M
      → (let sh' = sh ++ (false ∷ temporaries M.parameters) in let n = suc (length sh) in
      translate W (call m e es) γ sh ≡ block (class identity_class ∷ map plain_type M.parameters)
      (assign n (translate W e γ sh')
      then (translate_arguments W es γ₁ sh' (suc n)
      ⊕ (call m (implementor (apply_class W φ₂ c) n) (reads (suc n) M.parameters) then nil))))
  unfolding translate
  plain_call {e} {es} m M sh d d' i = rw (complete W e d 0, completes W es d' 0, i)

  -- J.
  pub plain_choose : {γ γ' : Environment} {e : Expr} {t : ExprType} {φ : ℕ} (x y : Expr) (sh : Shape)
      → HasType W γ e t γ' φ
      → translate W (choose e x y) γ sh
      ≡ choose (translate W e γ sh) (translate W x γ' sh) (translate W y γ' sh)
  unfolding translate
  plain_choose {e} x y sh d = rw (complete W e d 0)

  -- B.
  pub plain_block : (ts : List DeclaredType) (es : Exprs) (γ : Environment) (sh : Shape)
      → translate W (block ts es) γ sh ≡ block (map plain_type ts)
      (translate_all W es (opened γ (map fresh_slot ts)) (sh ++ variables ts))
  unfolding translate
  plain_block ts es γ sh = refl

  -- A block's expressions.
  pub plain_nil : (γ : Environment) (sh : Shape) → translate_all W nil γ sh ≡ nil
  unfolding translate
  plain_nil γ sh = refl

  pub plain_cons : {γ γ' : Environment} {e : Expr} {t : ExprType} {φ : ℕ} (es : Exprs) (sh : Shape)
      → HasType W γ e t γ' φ
      → translate_all W (cons e es) γ sh ≡ cons (translate W e γ sh) (translate_all W es γ' sh)
  unfolding translate
  plain_cons {e} es sh d = rw (complete W e d 0)

  -- A call's arguments.
  pub plain_no_arguments : (γ : Environment) (sh : Shape) (n : ℕ) → translate_arguments W nil γ sh n ≡ nil
  unfolding translate
  plain_no_arguments γ sh n = refl

  pub plain_arguments : {γ γ' : Environment} {e : Expr} {t : ExprType} {φ : ℕ} (es : Exprs) (sh : Shape)
      (n : ℕ)
      → HasType W γ e t γ' φ
      → translate_arguments W (cons e es) γ sh n
      ≡ cons (assign n (translate W e γ sh)) (translate_arguments W es γ' sh (suc n))
  unfolding translate
  plain_arguments {e} es sh n d = rw (complete W e d 0)
