-- The plain form of a typed expression within the translator's limits is within the limits of the check.
-- Nesting: a source node with d of 24 left has a plain form with 32 + 4 · d of 128 left; K takes four for its
-- child, R seven. Slots: on each level of nesting a call adds at most nine temporaries to at most 32
-- variables, so there are never 256.
use mathlib.Core.Path.{◌≡◌, refl, sym, ap, ◌∙◌}
use Prim.Native.Nat.{ℕ, suc, ◌+◌, ◌≤◌}
use mathlib.Core.Bool.{true, false}
use mathlib.Core.List.{List, [], ◌∷◌, ◌++◌, map}
use lib.ListN.{length, length-map, length-append}
use native.Mathlib.Omega.{arith}
use Rattle.language.specs.Limits.{of_check, of_translator}
use Rattle.language.specs.Lists.{nth_lt}
use Rattle.language.specs.Frames.{opened}
use Rattle.language.specs.Tree.{ExprType, Expr, literal, slot, is_null, get}
use Rattle.language.specs.Tree.{cast, new, change, assign, set, call, choose, block, Exprs, nil, cons, count}
use Rattle.language.specs.World.{World}
use Rattle.language.specs.Effects.{apply_class}
use Rattle.language.specs.Environment.{Environment, fresh_slot}
use Rattle.theory.specs.ComputedRules.{HasType, HaveTypes, type_literal, type_slot, type_new}
use Rattle.theory.specs.ComputedRules.{type_cast, type_get, type_set, type_assign, type_is_null}
use Rattle.theory.specs.ComputedRules.{type_call}
use Rattle.theory.specs.ComputedRules.{type_choose, type_block, type_change, types_nil, types_cons}
use Rattle.language.specs.WellFormed.{each_nil, each_cons, NodeInForm, NodesInForm, form_literal}
use Rattle.language.specs.WellFormed.{form_slot, form_is_null, form_get, form_cast, form_new}
use Rattle.language.specs.WellFormed.{form_change, form_assign, form_set, form_call, form_choose, form_block}
use Rattle.language.specs.WellFormed.{form_nil, form_cons}
use Rattle.language.specs.Translation.{plain_type, Shape, variables, temporaries, position, ◌then◌, ◌⊕◌}
use Rattle.language.specs.Translation.{implementor, reads, translate, translate_all, translate_arguments}
use Rattle.theory.proofs.typing.TypingRules.{all_fit_length}
use Rattle.theory.proofs.simulation.TranslationEquations.{plain_literal as translate_literal}
use Rattle.theory.proofs.simulation.TranslationEquations.{plain_read as translate_slot}
use Rattle.theory.proofs.simulation.TranslationEquations.{plain_is_null as translate_is_null}
use Rattle.theory.proofs.simulation.TranslationEquations.{plain_get as translate_get}
use Rattle.theory.proofs.simulation.TranslationEquations.{plain_cast_is as translate_cast}
use Rattle.theory.proofs.simulation.TranslationEquations.{plain_new_is as translate_new}
use Rattle.theory.proofs.simulation.TranslationEquations.{plain_change_is as translate_change}
use Rattle.theory.proofs.simulation.TranslationEquations.{plain_assign as translate_assign}
use Rattle.theory.proofs.simulation.TranslationEquations.{plain_set as translate_set, plain_call as translate_call}
use Rattle.theory.proofs.simulation.TranslationEquations.{plain_choose as translate_choose}
use Rattle.theory.proofs.simulation.TranslationEquations.{plain_block as translate_block}
use Rattle.theory.proofs.simulation.TranslationEquations.{plain_nil as translate_all_nil}
use Rattle.theory.proofs.simulation.TranslationEquations.{plain_cons as translate_all_cons}
use Rattle.theory.proofs.simulation.TranslationEquations.{plain_no_arguments as translate_arguments_nil}
use Rattle.theory.proofs.simulation.TranslationEquations.{plain_arguments as translate_arguments_cons}
use Rattle.theory.proofs.translation.PlainSlots.{assigned_slot}
use Rattle.theory.proofs.translation.PlainTypes.{NameLaws}
use Rattle.theory.proofs.translation.PlainSizes.{Small, types_count}
use Rattle.theory.proofs.translation.PlainForm.{one_deeper, all_deeper, two_deeper, three_deeper}
use Rattle.theory.proofs.translation.PlainForm.{more_left}
use Rattle.theory.proofs.translation.PlainForm.{plain_left, variable_count, position_within, count_append}
use Rattle.theory.proofs.translation.PlainForm.{count_variables, slots_same, count_joined, count_reads}
use Rattle.theory.proofs.translation.PlainForm.{identity_form, plain_type_form, plain_types_form}
use Rattle.theory.proofs.translation.PlainForm.{class_form}
use Rattle.theory.proofs.translation.PlainForm.{block_form, slot_small, class_small, one_small, id_small}
use Rattle.theory.proofs.translation.PlainForm.{imp_small}
use Rattle.theory.proofs.translation.PlainForm.{implementor_form, reads_form, joined_form, same_room}
use Rattle.theory.proofs.translation.PlainForm.{more_room}
use Rattle.theory.proofs.translation.PlainForm.{block_room, slots_fit, still_variables, declared_small}
use Rattle.theory.proofs.translation.PlainForm.{read_form}
use Rattle.theory.proofs.translation.PlainForm.{field_small, change_form, Room}

module _ (W : World) (𝓢 : Small W) (𝓝 : NameLaws W) where
  count_all : (es : Exprs) (γ : Environment) (sh : Shape) → count (translate_all W es γ sh) ≡ count es
  unfolding translate count
  count_all nil γ sh = refl
  count_all (cons e es) γ sh = ap suc (count_all es _ sh)

  count_arguments : (es : Exprs) (γ : Environment) (sh : Shape) (n : ℕ)
      → count (translate_arguments W es γ sh n) ≡ count es
  unfolding translate count
  count_arguments nil γ sh n = refl
  count_arguments (cons e es) γ sh n = ap suc (count_arguments es _ sh (suc n))

  mutual
    unfolding more_left count variable_count

    -- The plain form of a typed node in form is in form.
    pub node_in_form : (e : Expr) {γ γ' : Environment} {t : ExprType} {φ : ℕ} → HasType W γ e t γ' φ
        → {d n : ℕ}
        → NodeInForm of_translator d n e
        → (sh : Shape) → variable_count sh ≡ length γ.slots → Room d n sh
        → NodeInForm of_check (plain_left d) (suc (length sh)) (translate W e γ sh)
    node_in_form (literal l) {γ} type_literal form_literal sh v r =
        rw (translate_literal W l γ sh) form_literal
    node_in_form (slot k) {γ} (type_slot {s} e) (form_slot p) sh v r =
        rw (translate_slot W k γ sh) (read_form γ sh k s v (omega (arith, r.room, r.few)) e)
    node_in_form (is_null e) {γ} (type_is_null d i) (form_is_null f) sh v r =
        rw (translate_is_null W e γ sh)
        (form_is_null (three_deeper _ (node_in_form e d f sh v (same_room r))))
    node_in_form (get g e) (type_get {c} {t} d i) (form_get p f) sh v r =
        rw (translate_get W g sh d)
        (form_get p (form_cast (class_small c (field_small 𝓢 𝓝 g c t i)) (form_get imp_small
        (one_deeper _ (node_in_form e d f sh v (same_room r))))))
    node_in_form (cast c e) {γ} (type_cast d i j) (form_cast p f) sh v r =
        let sh₂ = false ∷ [] in let l = slots_fit sh₂ r (omega arith) in
        let k₀ : suc (length sh) ≤ 256 = omega (arith, length-append sh sh₂) in
        let v' : variable_count (sh ++ sh₂) ≡ length γ.slots = still_variables sh [] ∙ v in
        rw (translate_cast W c e γ sh)
        (block_form sh sh₂ refl l (omega arith) (omega arith) (each_cons identity_form each_nil)
        (form_cons (form_choose
        (form_is_null (form_assign (slot_small _ k₀)
        (node_in_form e d f (sh ++ sh₂) v' (more_room sh₂ r (omega arith)))))
        form_literal
        (form_get id_small (implementor_form c (suc (length sh)) (declared_small 𝓢 c i) k₀))) form_nil))
    node_in_form (new c) {γ} (type_new i) (form_new p) sh v r =
        let sh₂ = false ∷ false ∷ [] in let l = slots_fit sh₂ r (omega arith) in let j =
        declared_small 𝓢 c (𝓝.declared_new c i) in
        let k₀ = slot_small (suc (length sh)) (omega (arith, length-append sh sh₂)) in
        let k₁ = slot_small (suc (suc (length sh))) (omega (arith, length-append sh sh₂)) in
        rw (translate_new W c γ sh (length sh) refl) (block_form sh sh₂ refl l (omega arith) (omega arith)
        (each_cons identity_form (each_cons (class_form c j) each_nil))
        (form_cons (form_assign k₀ (form_new one_small))
        (form_cons (form_assign k₁ (form_new (class_small c j)))
        (form_cons (form_set id_small (form_slot k₁) (form_slot k₀))
        (form_cons (form_set imp_small (form_slot k₀) (form_slot k₁))
        (form_cons (form_slot k₀) form_nil))))))
    node_in_form (change k c) {γ} (type_change {s} i e h g) (form_change p q) sh v r =
        rw (translate_change W k c γ sh (length sh) refl) (change_form 𝓢 𝓝 γ sh k c s i v r e)
    node_in_form (assign (suc k) e) {γ} (type_assign {γ'} {s} d i j) (form_assign p f) sh v r =
        let own = slot_small (suc (position sh k)) (omega (
          arith,
          r.room,
          r.few,
          position_within sh k (omega (arith, nth_lt γ'.slots k s i, slots_same W e d)),
        )) in
        rw (translate_assign W (suc k) e γ sh, assigned_slot sh k)
        (form_assign own (three_deeper _ (node_in_form e d f sh v (same_room r))))
    node_in_form (set g e e') {γ} (type_set {γ₁} {u} d d' i j) (form_set p f f') sh v r =
        let sh₂ = false ∷ false ∷ [] in let l = slots_fit sh₂ r (omega arith) in
        let k₀ : suc (length sh) ≤ 256 = omega (arith, length-append sh sh₂) in
        let k₁ : suc (suc (length sh)) ≤ 256 = omega (arith, length-append sh sh₂) in
        let v' : variable_count (sh ++ sh₂) ≡ length γ.slots = omega (arith, count_append sh sh₂) in
        let v'' : variable_count (sh ++ sh₂) ≡ length γ₁.slots = v' ∙ sym (slots_same W e d) in
        rw (translate_set W g sh d d' i) (block_form sh sh₂ refl l (omega arith) (omega arith)
        (each_cons identity_form (each_cons (plain_type_form u) each_nil))
        (form_cons (form_assign (slot_small _ k₀)
        (two_deeper _ (node_in_form e d f (sh ++ sh₂) v' (more_room sh₂ r (omega arith)))))
        (form_cons (form_assign (slot_small _ k₁)
        (two_deeper _ (node_in_form e' d' f' (sh ++ sh₂) v'' (more_room sh₂ r (omega arith)))))
        (form_cons (form_set p (implementor_form _ (suc (length sh)) (field_small 𝓢 𝓝 g _ u i) k₀)
        (form_slot (slot_small _ k₁))) form_nil))))
    node_in_form (call m e es) {γ} (type_call {γ₁} {c} {ts} {φ₂} M d d' i j) (form_call p q f fs) sh v r =
        let ps = M.parameters in let sh₂ = false ∷ temporaries ps in
        let few : length ps ≤ 8 = 𝓢.parameters _ m M i in
        let wide : length sh₂ ≤ 9 = omega (arith, length-map ps (λ t. false)) in
        let l = slots_fit sh₂ r wide in
        let k₀ : suc (length sh) ≤ 256 = omega (arith, length-append sh sh₂) in
        let k₁ : suc (suc (length sh)) + length ps ≤ 257 =
        omega (arith, length-append sh sh₂, length-map ps (λ t. false)) in
        let n : count es ≡ length ps = sym (types_count W 𝓢 d') ∙ all_fit_length W ts ps j in
        let v' : variable_count (sh ++ sh₂) ≡ length γ.slots = still_variables sh ps ∙ v in
        let v'' : variable_count (sh ++ sh₂) ≡ length γ₁.slots = v' ∙ sym (slots_same W e d) in
        let act = call m (implementor (apply_class W φ₂ c) (suc (length sh)))
        (reads (suc (suc (length sh))) ps) in
        let args = translate_arguments W es γ₁ (sh ++ sh₂) (suc (suc (length sh))) in
        let total : count (args ⊕ (act then nil)) ≡ length ps + 1 = count_joined args (act then nil)
        ∙ omega (arith, count_arguments es γ₁ (sh ++ sh₂) (suc (suc (length sh)))) in
        rw (translate_call W m M sh d d' i) (block_form sh sh₂
        (omega (arith, length-map ps plain_type, length-map ps (λ t. false))) l (omega arith) (omega arith)
        (each_cons identity_form (plain_types_form ps))
        (form_cons (form_assign (slot_small _ k₀)
        (two_deeper _ (node_in_form e d f (sh ++ sh₂) v' (more_room sh₂ r wide))))
        (joined_form args (act then nil)
        (arguments_in_form es d' fs (sh ++ sh₂) v'' (more_room sh₂ r wide) (suc (suc (length sh)))
        (omega arith))
        (form_cons (form_call p (omega (arith, count_reads (suc (suc (length sh))) ps))
        (implementor_form _ (suc (length sh)) (declared_small 𝓢 _ (𝓝.declared_method _ m M i)) k₀)
        (reads_form (suc (suc (length sh))) ps k₁)) form_nil))))
    node_in_form (choose e x y) {γ} (type_choose {γ₀} d d' d'' j) (form_choose f g h) sh v r =
        let v' : variable_count sh ≡ length γ₀.slots = v ∙ sym (slots_same W e d) in
        rw (translate_choose W x y sh d) (form_choose (three_deeper _ (node_in_form e d f sh v (same_room r)))
        (three_deeper _ (node_in_form x d' g sh v' (same_room r)))
        (three_deeper _ (node_in_form y d'' h sh v' (same_room r))))
    node_in_form (block ts es) {γ} (type_block l d) (form_block a b c t fs) sh v r =
        let sh₂ = variables ts in
        let k : length sh₂ ≡ length ts = length-map ts (λ t. true) in
        let v' : variable_count (sh ++ sh₂) ≡ length (γ.slots ++ map fresh_slot ts)
        = omega (
          arith,
          count_append sh sh₂,
          count_variables ts,
          length-append γ.slots (map fresh_slot ts),
          length-map ts fresh_slot,
        ) in
        rw (translate_block W ts es γ sh) (block_form sh sh₂ (length-map ts plain_type ∙ sym k)
        (omega (arith, r.room, length-append sh sh₂))
        (rw (count_all es (opened γ (map fresh_slot ts)) (sh ++ sh₂)) b)
        (rw (count_all es (opened γ (map fresh_slot ts)) (sh ++ sh₂)) c)
        (plain_types_form ts) (all_deeper _
        (all_deeper _ (all_deeper _ (nodes_in_form es d fs (sh ++ sh₂) v' (block_room ts r a))))))
    node_in_form (assign Prim.Native.Nat.zero e) {γ = γ} {t = t} {φ = φ} x16 {d = d} {n = n} _ sh v r = elim x16 [ ]

    nodes_in_form : (es : Exprs) {γ γ' : Environment} {ts : List ExprType} {φ : ℕ} → HaveTypes W γ es ts γ' φ
        → {d n : ℕ}
        → NodesInForm of_translator d n es → (sh : Shape) → variable_count sh ≡ length γ.slots
        → Room d n sh
        → NodesInForm of_check (plain_left d) (suc (length sh)) (translate_all W es γ sh)
    nodes_in_form nil {γ} types_nil form_nil sh v r = rw (translate_all_nil W γ sh) form_nil
    nodes_in_form (cons e es) (types_cons d d') (form_cons f fs) sh v r =
        rw (translate_all_cons W es sh d) (form_cons (node_in_form e d f sh v r)
        (nodes_in_form es d' fs sh (v ∙ sym (slots_same W e d)) r))

    -- Arguments, each put in its temporary, from slot k on.
    arguments_in_form : (es : Exprs) {γ γ' : Environment} {ts : List ExprType} {φ : ℕ}
        → HaveTypes W γ es ts γ' φ → {d n : ℕ}
        → NodesInForm of_translator d n es → (sh : Shape) → variable_count sh ≡ length γ.slots
        → Room d n sh → (k : ℕ)
        → k + count es ≤ 257
        → NodesInForm of_check (suc (suc (suc (plain_left d)))) (suc (length sh))
        (translate_arguments W es γ sh k)
    arguments_in_form nil {γ} types_nil form_nil sh v r k l = rw (translate_arguments_nil W γ sh k) form_nil
    arguments_in_form (cons e es) (types_cons d d') (form_cons f fs) sh v r k l =
        rw (translate_arguments_cons W es sh k d)
        (form_cons (form_assign (slot_small k (omega arith)) (two_deeper _ (node_in_form e d f sh v r)))
        (arguments_in_form es d' fs sh (v ∙ sym (slots_same W e d)) r (suc k) (omega arith)))
