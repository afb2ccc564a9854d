-- Laws of the numbers of translated nodes, letter by letter. Assumes nothing.
use mathlib.Core.Path.{◌≡◌, refl, ◌∙◌}
use mathlib.Core.Bool.{false}
use mathlib.Core.List.{List, [], ◌∷◌, ◌++◌, map, append_assoc, append-nil}
use lib.ListN.{length-map, length}
use Prim.Native.Nat.{ℕ, zero, suc, ◌+◌}
use native.Mathlib.Omega.{arith}
use native.Mathlib.Numerals.{add-one}
use Rattle.language.specs.Limits.{identity_class, id_field, imp_field}
use Rattle.language.specs.Tree.{DeclaredType, class, type_number, Expr, literal_null, slot, is_null, get}
use Rattle.language.specs.Tree.{cast, new, change, assign, set, call, choose, block, Exprs, nil, cons, count}
use Rattle.language.specs.Tree.{literal}
use Rattle.language.specs.World.{World, field_type}
use Rattle.language.specs.Effects.{apply_class}
use Rattle.language.specs.Frames.{opened}
use Rattle.language.specs.Environment.{Environment, fresh_slot}
use Rattle.language.specs.Typing.{type_of, type_all}
use Rattle.language.specs.Translation.{Shape, position, plain_slot, read_slot, plain_type, plain_class}
use Rattle.language.specs.Translation.{plain_change, translate, translate_all, translate_arguments, ◌⊕◌}
use Rattle.language.specs.Translation.{copies, renew, reads, variables, typed_or, typed_all_or, class_or}
use Rattle.language.specs.Translation.{type_or, parameters_or, temporaries}
use Rattle.theory.proofs.translation.PlainForm.{count_copies, count_reads}
use Rattle.plain.specs.Numbers.{none, also, nodes_of, nodes_numbers, arguments_numbers, tree_numbers}
use Rattle.plain.specs.Numbers.{trees_numbers, node_numbers}
use Rattle.emitters.specs.Lines.{slot_lines, new_lines, renew_lines, change_lines, type_lines, read_lines}
use Rattle.language.specs.WellFormed.{Each, TypeInForm}
use Rattle.plain.proofs.Numbers.{n_null, n_slot, n_is_null, n_get, n_cast, n_new, n_assign, n_set}
use Rattle.plain.proofs.Numbers.{n_call, n_choose, n_block, n_nil, n_cons, n_locals_none, n_locals}
use Rattle.plain.proofs.Numbers.{n_types, two, n_one, n_copies, n_reads}

module _ (W : World) (γ : Environment) (sh : Shape) where
  pub t_slot : (k : ℕ) → node_numbers W (slot k) γ sh ≡ slot_lines (plain_slot sh k)
  unfolding translate read_slot plain_slot
  t_slot zero = n_get id_field (slot 0) ∙ rw (n_slot 0)
  t_slot (suc k) = n_slot _

  pub t_is_null : (e : Expr)
      → node_numbers W (is_null e) γ sh ≡ (90 ∷ 0 ∷ 0 ∷ 0 ∷ []) ++ node_numbers W e γ sh
  unfolding translate
  t_is_null e = n_is_null _

  pub t_assign : (k : ℕ) (e : Expr)
      → node_numbers W (assign k e) γ sh ≡ (65 ∷ plain_slot sh k ∷ 0 ∷ 0 ∷ []) ++ node_numbers W e γ sh
  unfolding translate
  t_assign k e = n_assign _ _

  pub t_get : (f : ℕ) (e : Expr) → node_numbers W (get f e) γ sh
      ≡ (71 ∷ f ∷ 0 ∷ 0 ∷ 75 ∷ (class_or (typed_or (type_of W e 0 γ)).type + 2) ∷ 0 ∷ 0 ∷ 71 ∷ 255 ∷ 0 ∷ 0
      ∷ []) ++ node_numbers W e γ sh
  unfolding translate
  t_get f e = simp (n_get, n_cast, two)

  pub t_cast : (c : ℕ) (e : Expr) → node_numbers W (cast c e) γ sh
      ≡ (66 ∷ 1 ∷ 1 ∷ 0 ∷ 86 ∷ 1 ∷ 0 ∷ 0 ∷ 74 ∷ 0 ∷ 0 ∷ 0 ∷ 90 ∷ 0 ∷ 0 ∷ 0 ∷ 65 ∷ suc (length sh) ∷ 0 ∷ 0
      ∷ [])
      ++ (node_numbers W e γ (sh ++ (false ∷ []))
      ++ (78 ∷ 0 ∷ 0 ∷ 0 ∷ 71 ∷ 254 ∷ 0 ∷ 0 ∷ 75 ∷ (c + 2) ∷ 0 ∷ 0 ∷ 71 ∷ 255 ∷ 0 ∷ 0 ∷ 73
      ∷ suc (length sh) ∷ 0 ∷ 0 ∷ []))
  unfolding translate count
  t_cast c e = simp (
    n_block,
    n_one,
    n_locals,
    n_locals_none,
    n_choose,
    n_is_null,
    n_assign,
    n_null,
    n_get,
    n_cast,
    n_slot,
    two,
  )

  pub t_new : (c : ℕ) → node_numbers W (new c) γ sh ≡ new_lines (suc (length sh)) c
  unfolding translate count
  t_new c = simp (
    n_block,
    n_cons,
    n_nil,
    n_locals,
    n_locals_none,
    n_assign,
    n_new,
    n_set,
    n_slot,
    two,
    add-one,
  )

  n_renew : (n d : ℕ) → tree_numbers (renew W n d) ≡ renew_lines n d (W.root d) (W.fields (W.root d))
  unfolding count renew_lines
  n_renew n d =
      let fs = W.fields (W.root d) in
      let k : count (copies (suc n) (suc (suc n)) fs (cons (slot n) nil)) ≡ length fs + 1 =
      count_copies (suc n) (suc (suc n)) fs (cons (slot n) nil) in
      let e : length fs + 5 ≡ suc (suc (suc (suc (suc (length fs))))) = omega arith in
      simp (
        n_block,
        n_cons,
        n_locals_none,
        n_assign,
        n_new,
        n_set,
        n_slot,
        n_cast,
        n_get,
        two,
        add-one,
        n_copies,
        n_nil,
        k,
        e,
      )

  pub t_change : (k d : ℕ) → node_numbers W (change k d) γ sh
      ≡ change_lines (plain_slot sh k) (suc (length sh)) d (W.root d) (W.fields (W.root d))
  unfolding translate plain_change plain_slot change_lines count
  t_change zero d =
      let n = suc (length sh) in
      n_block _ _ ∙ rw (
        n_cons (assign n (get id_field (slot 0))) (cons (renew W n d) (cons (slot n) nil)),
        n_cons (renew W n d) (cons (slot n) nil),
        n_renew n d,
        n_one (slot n),
        n_slot n,
      )
      (simp (n_locals, n_locals_none, n_assign, n_get, n_slot, two))
  t_change (suc k) d =
      let n = suc (length sh) in
      let arm = is_null (assign n (slot (suc (position sh k)))) in
      n_block _ _ ∙ rw (
        n_cons (choose arm (literal literal_null) (renew W n d)) (cons (slot n) nil),
        n_choose arm
            (literal literal_null) (renew W n d),
        n_renew n d,
        n_one (slot n),
        n_slot n,
      )
      (simp (n_locals, n_locals_none, n_is_null, n_null, n_assign, n_slot, two))

  pub t_choose : (e x y : Expr) → node_numbers W (choose e x y) γ sh
      ≡ (74 ∷ 0 ∷ 0 ∷ 0 ∷ [])
      ++ nodes_numbers W sh
      (also e γ (also x (typed_or (type_of W e 0 γ)).slots
      (also y (typed_or (type_of W e 0 γ)).slots none)))
  unfolding translate nodes_numbers
  t_choose e x y = n_choose _ _ _ ∙ rw (append-nil (node_numbers W y (typed_or (type_of W e 0 γ)).slots sh))

-- nodes one after another
t_all : (W : World) (sh : Shape) (es : Exprs) (γ : Environment)
    → trees_numbers (translate_all W es γ sh) ≡ nodes_numbers W sh (nodes_of W es γ)
unfolding translate_all nodes_of nodes_numbers
t_all W sh nil γ = n_nil
t_all W sh (cons e es) γ = n_cons _ _ ∙ rw (t_all W sh es (typed_or (type_of W e 0 γ)).slots)

c_all : (W : World) (sh : Shape) (es : Exprs) (γ : Environment) → count (translate_all W es γ sh) ≡ count es
unfolding translate_all count
c_all W sh nil γ = refl
c_all W sh (cons e es) γ = rw (c_all W sh es (typed_or (type_of W e 0 γ)).slots)

pub t_block : (W : World) (γ : Environment) (sh : Shape) (ts : List DeclaredType) (es : Exprs)
    → Each TypeInForm ts
    → node_numbers W (block ts es) γ sh
    ≡ (66 ∷ length ts ∷ count es ∷ 0 ∷ [])
    ++ (type_lines 86 ts
    ++ nodes_numbers W (sh ++ variables ts) (nodes_of W es (opened γ (map fresh_slot ts))))
unfolding translate
t_block W γ sh ts es p = n_block _ _
    ∙ rw (
      n_types ts p,
      t_all W (sh ++ variables ts) es (opened γ (map fresh_slot ts)),
      c_all W (sh ++ variables ts) es (opened γ (map fresh_slot ts)),
      length-map ts plain_type,
    )

-- arguments, then what follows
t_arguments : (W : World) (sh : Shape) (es : Exprs) (γ : Environment) (n : ℕ) (r : Exprs)
    → trees_numbers (translate_arguments W es γ sh n ⊕ r) ≡ arguments_numbers W sh n (nodes_of W es γ)
    ++ trees_numbers r
unfolding translate_arguments nodes_of arguments_numbers ◌⊕◌
t_arguments W sh nil γ n r = refl
t_arguments W sh (cons e es) γ n r = n_cons _ _
    ∙ rw (
      n_assign n (translate W e γ sh),
      t_arguments W sh es (typed_or (type_of W e 0 γ)).slots (suc n) r,
      append_assoc (node_numbers W e γ sh)
          (arguments_numbers W sh (suc n) (nodes_of W es (typed_or (type_of W e 0 γ)).slots))
          (trees_numbers r),
    )

c_arguments : (W : World) (sh : Shape) (es : Exprs) (γ : Environment) (n : ℕ) (r : Exprs)
    → count (translate_arguments W es γ sh n ⊕ r) ≡ count es + count r
unfolding translate_arguments ◌⊕◌ count
c_arguments W sh nil γ n r = omega arith
c_arguments W sh (cons e es) γ n r =
    omega (arith, c_arguments W sh es (typed_or (type_of W e 0 γ)).slots (suc n) r)

-- U and Q: temporaries filled, then the act
pub t_set : (W : World) (γ : Environment) (sh : Shape) (f : ℕ) (e e' : Expr) →
    let a = typed_or (type_of W e 0 γ) in
    let b = typed_or (type_of W e' 0 a.slots) in
    let c = apply_class W b.effect (class_or a.type) in
    node_numbers W (set f e e') γ sh
    ≡ (66 ∷ 2 ∷ 3 ∷ 0 ∷ 86 ∷ 1 ∷ 0 ∷ 0 ∷ 86 ∷ type_number (plain_type (type_or (field_type f (W.fields c))))
    ∷ 0 ∷ 0 ∷ [])
    ++ (arguments_numbers W (sh ++ (false ∷ false ∷ [])) (suc (length sh))
    (also e γ (also e' a.slots none))
    ++ (85 ∷ f ∷ 0 ∷ 0 ∷ 75 ∷ (c + 2) ∷ 0 ∷ 0 ∷ 71 ∷ 255 ∷ 0 ∷ 0 ∷ 73 ∷ suc (length sh) ∷ 0 ∷ 0 ∷ 73
    ∷ (suc (length sh) + 1) ∷ 0 ∷ 0 ∷ []))
unfolding translate count arguments_numbers
t_set W γ sh f e e' =
    let a = typed_or (type_of W e 0 γ) in
    let sh' = sh ++ (false ∷ false ∷ []) in
    simp (
      n_block,
      n_cons,
      n_nil,
      n_locals,
      n_locals_none,
      n_assign,
      n_set,
      n_cast,
      n_get,
      n_slot,
      two,
      add-one,
      append-nil,
    )
    (rw append_assoc refl)

pub t_call : (W : World) (γ : Environment) (sh : Shape) (m : ℕ) (e : Expr) (es : Exprs) →
    let a = typed_or (type_of W e 0 γ) in
    let b = typed_all_or (type_all W es 0 a.slots) in
    let c = apply_class W b.effect (class_or a.type) in
    let ts = parameters_or (W.method c m) in
    length ts ≡ count es → Each TypeInForm ts →
    node_numbers W (call m e es) γ sh
    ≡ (66 ∷ (count es + 1) ∷ (count es + 2) ∷ 0 ∷ 86 ∷ 1 ∷ 0 ∷ 0 ∷ [])
    ++ (type_lines 86 ts
    ++ (arguments_numbers W (sh ++ (false ∷ temporaries ts)) (suc (length sh))
    (also e γ (nodes_of W es a.slots))
    ++ ((81 ∷ m ∷ count es ∷ 0 ∷ 75 ∷ (c + 2) ∷ 0 ∷ 0 ∷ 71 ∷ 255 ∷ 0 ∷ 0 ∷ 73 ∷ suc (length sh) ∷ 0 ∷ 0 ∷ [])
    ++ read_lines (suc (length sh) + 1) (count es))))
unfolding translate arguments_numbers count
t_call W γ sh m e es h p =
    let a = typed_or (type_of W e 0 γ) in
    let b = typed_all_or (type_all W es 0 a.slots) in
    let c = apply_class W b.effect (class_or a.type) in
    let ts = parameters_or (W.method c m) in
    let sh' = sh ++ (false ∷ temporaries ts) in
    let n = suc (length sh) in
    let act = call m (cast (plain_class c) (get imp_field (slot n))) (reads (suc n) ts) in
    let q : trees_numbers (cons act nil)
    ≡ (81 ∷ m ∷ count es ∷ 0 ∷ 75 ∷ (c + 2) ∷ 0 ∷ 0 ∷ 71 ∷ 255 ∷ 0 ∷ 0 ∷ 73 ∷ n ∷ 0 ∷ 0 ∷ [])
    ++ read_lines (n + 1) (count es)
    = n_one act ∙ simp (n_call, n_cast, n_get, n_slot, n_reads, count_reads, h, two, add-one) in
    let k : count (translate_arguments W es a.slots sh' (suc n) ⊕ cons act nil) ≡ count es + 1 =
    c_arguments W sh' es a.slots (suc n) (cons act nil) in
    n_block _ _ ∙ rw (
      k,
      n_locals (class identity_class) (map plain_type ts),
      n_types ts p,
      length-map ts plain_type,
      h,
      n_cons (assign n (translate W e γ sh'))
          (translate_arguments W es a.slots sh' (suc n) ⊕ cons act nil),
      n_assign n (translate W e γ sh'),
      t_arguments W sh' es a.slots (suc n) (cons act nil),
      q,
    )
    (simp (append_assoc, two, add-one))
