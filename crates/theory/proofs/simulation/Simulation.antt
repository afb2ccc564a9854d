-- Every typed expression and its translation, run without limits from states that match, end alike: in
-- corresponding values and states that match, or in the same stop.
use mathlib.Core.Path.{◌≡◌, refl, sym, ◌∙◌, subst}
use Prim.Native.Nat.{ℕ, zero, suc, ◌+◌}
use native.Mathlib.Nat.{suc_inj}
use mathlib.Core.Option.{some}
use mathlib.Core.Bool.{false}
use mathlib.Core.List.{List, [], ◌∷◌, ◌++◌, map}
use lib.ListN.{length, length-append, length-map}
use lib.Seq.{append_snoc}
use native.Mathlib.Omega.{arith}
use Rattle.language.specs.Limits.{imp_field, id_field}
use Rattle.language.specs.Lists.{nth, choice, a_nil, a_cons, all2_append, nth₀, nth₁, nth_suc, nth_map}
use Rattle.language.specs.Lists.{up_suc}
use Rattle.language.specs.Results.{ok, bind, Alike, alike_ok, alike_stop, alike_bind, alike_context}
use Rattle.language.specs.Results.{alike_with, alike_mono, alike_wrap}
use Rattle.language.specs.Frames.{with_slot, opened, closed}
use Rattle.language.specs.Tree.{DeclaredType, class, ExprType, known, Expr, literal}
use Rattle.language.specs.Tree.{literal_null, slot, is_null, get, cast, new, change, assign, set, call}
use Rattle.language.specs.Tree.{choose, block, Exprs, nil, cons}
use Rattle.language.specs.World.{Method, World}
use Rattle.language.specs.Effects.{apply_class}
use Rattle.language.specs.Environment.{Environment}
use Rattle.theory.specs.ComputedRules.{HasType, HaveTypes, type_literal, type_slot, type_new}
use Rattle.theory.specs.ComputedRules.{type_cast, type_get, type_set, type_assign, type_is_null}
use Rattle.theory.specs.ComputedRules.{type_call}
use Rattle.theory.specs.ComputedRules.{type_choose, type_block, type_change, types_nil, types_cons}
use Rattle.language.specs.State.{Value, null, truth, State, Out, entered, with_frame, initial}
use Rattle.language.specs.Evaluation.{last_value, need, need_truth, need_reference, do_get, do_cast}
use Rattle.language.specs.Evaluation.{without_limits, eval, eval_all, call_at}
use Rattle.language.specs.Translation.{plain_class, plain_type, Shape, variables, temporaries, plain_slot}
use Rattle.language.specs.Translation.{implementor, reads, ◌then◌, ◌⊕◌, translate, translate_all}
use Rattle.language.specs.Translation.{translate_arguments}
use Rattle.language.specs.Correspondence.{both_null, same_truth}
use Rattle.theory.proofs.typing.TypingRules.{all_fit_length}
use Rattle.theory.proofs.soundness.Soundness.{expression_sound, expressions_sound, calls_ok}
use Rattle.theory.proofs.soundness.Fitting.{Laws, Fits, HeapOk, FitsFrame, fits_evolves, locals_fit}
use Rattle.theory.proofs.soundness.Fitting.{BodiesOk}
use Rattle.theory.proofs.soundness.ActsSound.{CallOk, at}
use Rattle.theory.proofs.translation.PlainWorld.{IsPlain, PlainBodies}
use Rattle.theory.proofs.simulation.Matching.{persists_same, persists_trans, corresponds_later, Mask}
use Rattle.theory.proofs.simulation.Matching.{no_slots}
use Rattle.theory.proofs.simulation.Matching.{temporary, mask_length}
use Rattle.theory.proofs.simulation.MatchingStates.{literal_alike, StatesMatch, After, AfterAll, ArgumentsPut}
use Rattle.theory.proofs.simulation.MatchingStates.{Ended}
use Rattle.theory.proofs.simulation.MatchingStates.{recount, both_enter, entering, spare, from_before}
use Rattle.theory.proofs.simulation.MatchingStates.{no_values, frames_set, frames_open, frames_temporaries}
use Rattle.theory.proofs.simulation.MatchingStates.{frames_temporary, states_put, frames_close, close_block}
use Rattle.theory.proofs.simulation.MatchingStates.{null_alike, choose_alike, last_alike, last_of_more}
use Rattle.theory.proofs.simulation.MatchingStates.{same_literal, frames_variable, temporaries_match}
use Rattle.theory.proofs.simulation.MatchingStates.{one_temporary, two_temporaries, more_temporaries}
use Rattle.theory.proofs.simulation.PlainSteps.{More, run_append}
use Rattle.theory.proofs.simulation.TranslationEquations.{plain_literal, plain_read}
use Rattle.theory.proofs.simulation.TranslationEquations.{plain_is_null, plain_get, plain_cast_is, plain_assign}
use Rattle.theory.proofs.simulation.TranslationEquations.{plain_set, plain_call, plain_choose, plain_block}
use Rattle.theory.proofs.simulation.TranslationEquations.{plain_nil, plain_cons, plain_no_arguments}
use Rattle.theory.proofs.simulation.TranslationEquations.{plain_arguments}
use Rattle.theory.proofs.simulation.ActsSimulated.{slot_found, read_acts, new_acts, get_acts, set_acts}
use Rattle.theory.proofs.simulation.ActsSimulated.{cast_acts}
use Rattle.theory.proofs.simulation.CallSimulated.{CallsMatch, call_acts}
use Rattle.theory.proofs.simulation.ChangeSimulated.{change_acts}

module _ (W W' : World) (P : IsPlain W W') (laws : Laws W) (𝓜 : More W) where
  module _ (invoke invoke' : Method → State → Out Value) (C : CallOk W invoke)
      (D : CallsMatch W W' P laws 𝓜 invoke invoke') where
    abbrev plain : Expr → State → Out Value
    plain e t = eval W' without_limits invoke' e t

    -- What A does, the value having been computed, with the n-th slot after slot 0.
    abbrev put : ℕ → Value → State → Out Value
    put n v t = need (nth t.frame.slots n) t λ _. ok v (with_frame (with_slot t.frame (suc n) v) t)

    abbrev plain_all : Exprs → State → Out (List Value)
    plain_all es t = eval_all W' without_limits invoke' es t

    mutual
      unfolding eval

      pub simulates : (e : Expr) {γ γ' : Environment} {ty : ExprType} {φ : ℕ} → HasType W γ e ty γ' φ
          → (ids : List ℕ) (sh : Shape) (μ : Mask) (z : ℕ) (s t : State) → HeapOk W s.heap
          → FitsFrame W s.heap s.frame γ → StatesMatch W ids sh μ z s t
          → Alike (After W ids t.heap sh μ z) (Ended W) (eval W without_limits invoke e s)
          (eval W' without_limits invoke' (translate W e γ sh) t)
      simulates (literal l) {γ} type_literal ids sh μ z s t H S R =
          rw (plain_literal W l γ sh) (literal_alike (same_literal l) R)
      simulates (slot k) {γ} (type_slot {s = u} e) ids sh μ z s t H S R =
          let x = at s.frame γ S k u e in
          rw (plain_read W k γ sh, x.is)
          (read_acts W W' P laws 𝓜 invoke' k ids sh μ z s t x.v R
          (slot_found R.frames k x.v x.is))
      simulates (is_null e) {γ} (type_is_null d n) ids sh μ z s t H S R = rw (plain_is_null W e γ sh)
          (alike_bind (alike_with (expression_sound laws without_limits invoke C e d (entered s) H S)
          (simulates e d ids sh μ (83 + z) (entered s) (entered t) H S (both_enter R)))
          λ v s₁ v' t₁ p. null_alike p.1.value s₁ t₁ n p.0.value_ok λ b. record {
            ids' = p.1.ids';
            persists = p.1.persists;
            value = same_truth;
            match = spare 83 p.1.match;
          })
      simulates (get f e) (type_get {c} {t = u} d i) ids sh μ z s t H S R = rw (plain_get W f sh d)
          (alike_context
          (λ r. bind (bind (bind r (λ v t. do_get W' imp_field v t)) (λ v t. do_cast W' (plain_class c) v t))
          (λ v t. do_get W' f v t))
          (λ x t. refl)
          (alike_with (expression_sound laws without_limits invoke C e d (entered s) H S)
          (simulates e d ids sh μ (81 + z) (entered s) (entered (entered (entered t))) H S
          (entering 3 R (omega arith) refl refl refl (omega arith)))) λ v s₁ v' t₁ p.
          get_acts W W' P laws 𝓜 invoke' f c u v v' s₁ t₁ p.0.heap_ok p.0.value_ok i p.1)
      simulates (cast c e) {γ} (type_cast {t = u} d i nb) ids sh μ z s t H S R =
          let n = length sh in
          let t₀ : State = with_frame (opened t.frame (null ∷ [])) (entered t) in
          let done : List Value → State → Out Value = λ vs t'. ok (last_value null vs)
          (with_frame (closed (length t.frame.slots) t'.frame) t') in
          let N : length μ ≡ n = mask_length R.frames.slots in
          rw (plain_cast_is W c e γ sh)
          (alike_context
          (λ r. bind (bind (bind (bind (bind r (λ v t. put n v t))
          (λ v t. need_reference v t λ b. ok (truth b) t))
          (λ v t. need_truth v t λ b. choice b (λ _. plain (literal literal_null) t)
          (λ _. plain (get id_field (implementor c (suc n))) t)))
          (λ v t. ok (v ∷ []) t)) done)
          (λ x t. refl)
          (alike_with (expression_sound laws without_limits invoke C e d (entered s) H S)
          (simulates e d ids (sh ++ (false ∷ [])) (μ ++ (some null ∷ [])) (4 + z) (entered s)
          (entered (entered (entered t₀))) H S
          (record {
            frames = frames_temporaries R.frames (temporary no_slots);
            core = recount R.core refl refl refl refl (omega (arith, R.core)) (omega (arith, R.core));
          })))
          λ v s₁ v' t₁ p.
          let t₁' : State = with_frame (with_slot t₁.frame (suc n) v') t₁ in
          let R₁ = states_put μ _ 0 _ null v' p.1.match N (nth₀ _ _) in
          rw (frames_temporary μ _ 0 _ null p.1.match.frames N (nth₀ _ _)) (
          alike_wrap (λ r. bind (bind r (λ v t. ok (v ∷ []) t)) done) (λ x t. refl)
          (cast_acts W W' P laws 𝓜 invoke' c n u v v' s₁ t₁' nb p.0.value_ok p.1.ids' p.1.persists
          R₁ p.1.value (frames_temporary μ _ 0 _ v' R₁.frames N (nth₀ _ _)))
          λ x s₃ x' t₃ a. close_block (false ∷ []) (some v' ∷ []) t.frame (λ ids l l' r. one_temporary r)
          R.frames a))
      simulates (new c) {γ} (type_new i) ids sh μ z s t H S R =
          new_acts W W' P laws 𝓜 invoke' c γ ids sh μ z s t (𝓜.declared_new c i) R
      simulates (change k d) {γ} (type_change {c} {s = u} i e q f) ids sh μ z s t H S R =
          let x = at s.frame γ S k u e in
          let fit : Fits W s.heap x.v (known (class c))
          = subst (λ (y : DeclaredType). Fits W s.heap x.v (known y)) q x.fit in
          rw x.is
          (change_acts W W' P laws 𝓜 invoke' k c d γ ids sh μ z s t H R i x.v fit f
          (slot_found R.frames k x.v x.is))
      simulates (assign (suc k) e) {γ} (type_assign d i f) ids sh μ z s t H S R =
          rw (plain_assign W (suc k) e γ sh)
          (alike_bind (alike_with (expression_sound laws without_limits invoke C e d (entered s) H S)
          (simulates e d ids sh μ (83 + z) (entered s) (entered t) H S (both_enter R)))
          λ v s₁ v' t₁ q. let p = q.1 in let x = at s₁.frame _ q.0.slots_ok (suc k) _ i in
          rw (x.is, (frames_variable k x.v p.match.frames x.is).1) (
          alike_ok {s = with_frame (with_slot s₁.frame (suc k) v) s₁}
          {t = with_frame (with_slot t₁.frame (plain_slot sh (suc k)) v') t₁}
          (record {
            ids' = p.ids';
            persists = p.persists;
            value = p.value;
            match = record {
              frames = frames_set p.match.frames k p.value;
              core = recount p.match.core refl refl refl refl (omega (arith, p.match.core))
                  (omega (arith, p.match.core));
            };
          })))
      simulates (set f e e') {γ} (type_set {γ₁} {c} {t = y} {u} {φ₂} d d' i j) ids sh μ z s t H S R =
          let n = length sh in let sh' = sh ++ (false ∷ false ∷ []) in
          let t₀ : State = with_frame (opened t.frame (null ∷ initial (plain_type u) ∷ [])) (entered t) in
          let done : List Value → State → Out Value = λ vs t'. ok (last_value null vs)
          (with_frame (closed (length t.frame.slots) t'.frame) t') in
          let act : Exprs = set f (implementor (apply_class W φ₂ c) (suc n)) (slot (suc (suc n))) then nil in
          let N : length μ ≡ n = mask_length R.frames.slots in
          rw (plain_set W f sh d d' i)
          (alike_context
          (λ r. bind (bind (bind r (λ v t. put n v t))
          (λ v t. bind (plain_all (cons (assign (suc (suc n)) (translate W e' γ₁ sh')) act) t)
          (λ vs t. ok (v ∷ vs) t))) done)
          (λ x t. refl)
          (alike_with (expression_sound laws without_limits invoke C e d (entered s) H S)
          (simulates e d ids sh' (μ ++ (some null ∷ some (initial (plain_type u)) ∷ [])) (82 + z) (entered s)
          (entered t₀) H S
          (record {
            frames = frames_temporaries R.frames (temporary (temporary no_slots));
            core = recount R.core refl refl refl refl (omega (arith, R.core)) (omega (arith, R.core));
          })))
          λ v s₁ v' t₁ p.
          let t₁' : State = with_frame (with_slot t₁.frame (suc n) v') t₁ in
          rw (frames_temporary μ _ 0 _ null p.1.match.frames N (nth₀ _ _)) (
          alike_context
          (λ r. bind (bind (bind (bind r (λ v t. put (suc n) v t))
          (λ v t. bind (plain_all act t) (λ vs t. ok (v ∷ vs) t))) (λ vs t. ok (v' ∷ vs) t)) done)
          (λ x t. refl)
          (alike_with (expression_sound laws without_limits invoke C e' d' s₁ p.0.heap_ok
          p.0.slots_ok)
          (simulates e' d' p.1.ids' sh' (μ ++ (some v' ∷ some (initial (plain_type u)) ∷ [])) (5 + z) s₁
          (entered t₁') p.0.heap_ok p.0.slots_ok
          (record {
            frames = (states_put μ _ 0 _ null v' p.1.match N (nth₀ _ _)).frames;
            core = recount p.1.match.core refl refl refl refl (omega (arith, p.1.match.core))
                (omega (arith, p.1.match.core));
          })))
          λ w s₂ w' t₂ q.
          let t₂' : State = with_frame (with_slot t₂.frame (suc (suc n)) w') t₂ in
          let X₂ = persists_trans p.1.persists q.1.persists in
          let R₂ = states_put μ _ 1 _ (initial (plain_type u)) w' q.1.match N (nth₁ _ _ _) in
          rw (frames_temporary μ _ 1 _ (initial (plain_type u)) q.1.match.frames N (nth₁ _ _ _)) (
          alike_wrap
          (λ r. bind (bind (bind (bind r (λ v t. ok (v ∷ []) t)) (λ vs t. ok (w' ∷ vs) t))
          (λ vs t. ok (v' ∷ vs) t)) done)
          (λ x t. refl)
          (set_acts W W' P laws 𝓜 invoke' f (apply_class W φ₂ c) n u v v' w w' s₂ t₂' q.0.heap_ok
          (fits_evolves laws q.0.evolves p.0.value_ok) i q.1.ids' X₂
          R₂ (corresponds_later q.1.persists p.1.value) q.1.value
          (frames_temporary μ _ 0 _ v' R₂.frames N (nth₀ _ _))
          (frames_temporary μ _ 1 _ w' R₂.frames N (nth₁ _ _ _)))
          λ x s₃ x' t₃ a. close_block (false ∷ false ∷ []) (some v' ∷ some w' ∷ []) t.frame
          (λ ids l l' r. two_temporaries r) R.frames a)))
      simulates (call m e es) {γ} (type_call {γ₁} {c} {ts = us} {φ₂} M d d' i j) ids sh μ z s t H S R =
          let n = length sh in let ps = M.parameters in let sh₂ = false ∷ temporaries ps in
          let xs = map initial (map plain_type ps) in
          let t₀ : State = with_frame (opened t.frame (null ∷ xs)) (entered t) in
          let done : List Value → State → Out Value = λ vs t'. ok (last_value null vs)
          (with_frame (closed (length t.frame.slots) t'.frame) t') in
          let act : Exprs = call m (implementor (apply_class W φ₂ c) (suc n)) (reads (suc (suc n)) ps) then
          nil in
          let N : length μ ≡ n = mask_length R.frames.slots in
          rw (plain_call W m M sh d d' i)
          (alike_context
          (λ r. bind (bind (bind r (λ v t. put n v t))
          (λ v t. bind (plain_all (translate_arguments W es γ₁ (sh ++ sh₂) (suc (suc n)) ⊕ act) t)
          (λ vs t. ok (v ∷ vs) t))) done)
          (λ x t. refl)
          (alike_with (expression_sound laws without_limits invoke C e d (entered s) H S)
          (simulates e d ids (sh ++ sh₂) (μ ++ (some null ∷ map some xs)) (82 + z) (entered s) (entered t₀) H
          S
          (record {
            frames = frames_temporaries R.frames (temporary (temporaries_match ids ps));
            core = recount R.core refl refl refl refl (omega (arith, R.core)) (omega (arith, R.core));
          })))
          λ v s₁ v' t₁ p.
          let t₁' : State = with_frame (with_slot t₁.frame (suc n) v') t₁ in
          let ln : length xs ≡ length ps = length-map (map plain_type ps) initial
          ∙ length-map ps plain_type in
          let sh8 = 𝓜.short _ m M i in
          let R₁ = states_put μ (some null ∷ map some xs) 0 n null v' p.1.match N (nth₀ _ _) in
          rw (
            frames_temporary μ _ 0 n null p.1.match.frames N (nth₀ _ _),
            run_append W W' P invoke' (translate_arguments W es γ₁ (sh ++ sh₂) (suc (suc n))) act t₁',
          )
          (alike_context
          (λ r. bind (bind (bind r (λ vs t. bind (plain_all act t) (λ ws t. ok (vs ++ ws) t)))
          (λ vs t. ok (v' ∷ vs) t)) done)
          (λ x t. refl)
          (alike_with (expressions_sound laws without_limits invoke C es d' s₁ p.0.heap_ok
          p.0.slots_ok)
          (simulates_arguments es d' p.1.ids' (sh ++ sh₂) (μ ++ (some v' ∷ [])) xs (4 + length ps + z) s₁
          t₁'
          (ln ∙ sym (all_fit_length W us ps j)) p.0.heap_ok p.0.slots_ok
          (record {
            frames = rw (append_snoc μ (some v') (map some xs)) R₁.frames;
            core = recount p.1.match.core refl refl refl refl (omega (arith, p.1.match.core))
                (omega (arith, p.1.match.core, ln, sh8));
          })
          (suc n) (omega (arith, length-append μ (some v' ∷ []), N))))
          λ vs s₂ vs' t₂ q.
          let R₂ : StatesMatch W q.1.ids' (sh ++ sh₂) (μ ++ (some v' ∷ map some vs')) (4 + length ps + z)
          s₂ t₂
          = rw (append_snoc μ (some v') (map some vs')) at q.1.match in
          alike_wrap
          (λ r. bind (bind (bind (bind r (λ v t. ok (v ∷ []) t)) (λ ws t. ok (vs' ++ ws) t))
          (λ vs t. ok (v' ∷ vs) t)) done)
          (λ x t. refl)
          (call_acts W W' P laws 𝓜 invoke invoke' D m (apply_class W φ₂ c) n M v v' vs vs' us s₂ t₂
          q.0.heap_ok
          (fits_evolves laws q.0.evolves p.0.value_ok) q.0.value_ok j i q.1.ids'
          (persists_trans p.1.persists q.1.persists) R₂
          (corresponds_later q.1.persists p.1.value)
          q.1.values (frames_temporary μ _ 0 n v' R₂.frames N (nth₀ _ _))
          (λ k w y. rw (up_suc k n) (frames_temporary μ (some v' ∷ map some vs') (suc k) n w R₂.frames N
          (nth_suc _ _ k ∙ nth_map some k vs' w y))))
          λ x s₃ x' t₃ a. rw (last_of_more v' vs' x')
          (close_block sh₂ (some v' ∷ map some vs') t.frame (λ ids l l' r. more_temporaries ps r)
          R.frames a)))
      simulates (choose e x y) (type_choose d d' d'' j) ids sh μ z s t H S R = rw (plain_choose W x y sh d)
          (alike_bind (alike_with (expression_sound laws without_limits invoke C e d (entered s) H S)
          (simulates e d ids sh μ (83 + z) (entered s) (entered t) H S (both_enter R))) λ v s₁ v' t₁ p.
          choose_alike p.1.value s₁ t₁ p.0.value_ok
          (alike_mono (simulates x d' p.1.ids' sh μ z s₁ t₁ p.0.heap_ok p.0.slots_ok
          (spare 83 p.1.match))
          λ w s₂ w' t₂ q. from_before p.1.persists q)
          (alike_mono (simulates y d'' p.1.ids' sh μ z s₁ t₁ p.0.heap_ok p.0.slots_ok
          (spare 83 p.1.match))
          λ w s₂ w' t₂ q. from_before p.1.persists q))
      simulates (block ts es) {γ} (type_block l d) ids sh μ z s t H S R = rw (plain_block W ts es γ sh)
          (alike_bind (simulates_all es d ids (sh ++ variables ts) (μ ++ no_values ts) (83 + z)
          (with_frame (opened s.frame (map initial ts)) (entered s))
          (with_frame (opened t.frame (map initial (map plain_type ts))) (entered t)) H
          (record { this = S.this; slots = all2_append S.slots (locals_fit _ ts) })
          (record {
            frames = frames_open R.frames ts;
            core = recount R.core refl refl refl refl (omega (arith, R.core)) (omega (arith, R.core));
          }))
          λ vs s₁ vs' t₁ p.
          alike_ok {s = with_frame (closed (length s.frame.slots) s₁.frame) s₁}
          {t = with_frame (closed (length t.frame.slots) t₁.frame) t₁}
          (record {
            ids' = p.ids';
            persists = p.persists;
            value = last_alike both_null p.values;
            match = record {
              frames = frames_close (variables ts) (no_values ts) R.frames p.match.frames;
              core = recount p.match.core refl refl refl refl (omega (arith, p.match.core))
                  (omega (arith, p.match.core));
            };
          }))
      simulates (assign zero e) {γ = γ} {ty = ty} {φ = φ} x16 ids sh μ z s t H S R = elim x16 [ ]

      -- A call's arguments, put into temporaries from place n on, which hold xs.
      pub simulates_arguments : (es : Exprs) {γ γ' : Environment} {tys : List ExprType} {φ : ℕ}
          → HaveTypes W γ es tys γ' φ
          → (ids : List ℕ) (sh : Shape) (μ : Mask) (xs : List Value) (z : ℕ) (s t : State)
          → length xs ≡ length tys → HeapOk W s.heap → FitsFrame W s.heap s.frame γ
          → StatesMatch W ids sh (μ ++ map some xs) (length xs + z) s t → (n : ℕ) → length μ ≡ n
          → Alike (ArgumentsPut W ids t.heap sh μ z) (Ended W) (eval_all W without_limits invoke es s)
          (eval_all W' without_limits invoke' (translate_arguments W es γ sh (suc n)) t)
      simulates_arguments nil {γ} types_nil ids sh μ [] z s t L H S R n e =
          rw (plain_no_arguments W γ sh (suc n))
          (alike_ok (record { ids' = ids; persists = persists_same; match = spare 0 R; values = a_nil }))
      simulates_arguments nil types_nil ids sh μ (x ∷ xs) z s t L H S R n e = absurd (omega (arith, L))
      simulates_arguments (cons e₁ es) (types_cons d d') ids sh μ [] z s t L H S R n e =
          absurd (omega (arith, L))
      simulates_arguments (cons e₁ es) (types_cons {γ₁} d d') ids sh μ (x ∷ xs) z s t L H S R n e =
          rw (plain_arguments W es sh (suc n) d)
          (alike_context
          (λ r. bind (bind r (λ v t. put n v t))
          (λ v t. bind (plain_all (translate_arguments W es γ₁ sh (suc (suc n))) t) (λ vs t. ok (v ∷ vs) t)))
          (λ x t. refl)
          (alike_with (expression_sound laws without_limits invoke C e₁ d s H S)
          (simulates e₁ d ids sh (μ ++ map some (x ∷ xs)) (length xs + z) s (entered t) H S
          (record {
            frames = R.frames;
            core = recount R.core refl refl refl refl (omega (arith, R.core)) (omega (arith, R.core));
          })))
          λ v s₁ v' t₁ p.
          let t₁' : State = with_frame (with_slot t₁.frame (suc n) v') t₁ in
          let R₁ = states_put μ (some x ∷ map some xs) 0 n x v' p.1.match e (nth₀ _ _) in
          rw (frames_temporary μ _ 0 n x p.1.match.frames e (nth₀ _ _)) (
          alike_bind (simulates_arguments es d' p.1.ids' sh (μ ++ (some v' ∷ [])) xs z s₁ t₁' (suc_inj L)
          p.0.heap_ok p.0.slots_ok
          (rw (append_snoc μ (some v') (map some xs)) R₁)
          (suc n) (omega (arith, length-append μ (some v' ∷ []), e))) λ vs s₂ vs' t₂ q.
          alike_ok (record {
            ids' = q.ids';
            persists = persists_trans p.1.persists q.persists;
            match = rw (append_snoc μ (some v') (map some vs')) at q.match;
            values = a_cons (corresponds_later q.persists p.1.value) q.values;
          })))

      -- A block's expressions.
      pub simulates_all : (es : Exprs) {γ γ' : Environment} {tys : List ExprType} {φ : ℕ}
          → HaveTypes W γ es tys γ' φ
          → (ids : List ℕ) (sh : Shape) (μ : Mask) (z : ℕ) (s t : State) → HeapOk W s.heap
          → FitsFrame W s.heap s.frame γ → StatesMatch W ids sh μ z s t
          → Alike (AfterAll W ids t.heap sh μ z) (Ended W) (eval_all W without_limits invoke es s)
          (eval_all W' without_limits invoke' (translate_all W es γ sh) t)
      simulates_all nil {γ} types_nil ids sh μ z s t H S R = rw (plain_nil W γ sh)
          (alike_ok (record { ids' = ids; persists = persists_same; match = R; values = a_nil }))
      simulates_all (cons e es) (types_cons d d') ids sh μ z s t H S R = rw (plain_cons W es sh d)
          (alike_bind (alike_with (expression_sound laws without_limits invoke C e d s H S)
          (simulates e d ids sh μ z s t H S R))
          λ v s₁ v' t₁ p.
          alike_bind (simulates_all es d' p.1.ids' sh μ z s₁ t₁ p.0.heap_ok p.0.slots_ok
          p.1.match)
          λ vs s₂ vs' t₂ q.
          alike_ok (record {
            ids' = q.ids';
            persists = persists_trans p.1.persists q.persists;
            match = q.match;
            values = a_cons (corresponds_later q.persists p.1.value) q.values;
          }))

  -- Calls, of any depth, end alike.
  pub calls_simulate : (bodies bodies' : ℕ → Expr) → BodiesOk W bodies → PlainBodies W bodies bodies'
      → (n : ℕ)
      → CallsMatch W W' P laws 𝓜 (λ M s. call_at W without_limits bodies n M s)
      (λ M t. call_at W' without_limits bodies' n M t)
  unfolding call_at
  calls_simulate bodies bodies' 𝓑 𝓣 zero = record {
    alike = λ k m M e ids z s t H S c μ F. alike_stop (record {
      ids' = ids;
      core = recount c refl refl refl refl c.low (omega (arith, c));
    });
  }
  calls_simulate bodies bodies' 𝓑 𝓣 (suc n) = record {
    alike = λ k m M e ids z s t H S c μ F. rw (𝓣.each k m M e)
        (alike_mono (simulates (λ M s. call_at W without_limits bodies n M s)
        (λ M t. call_at W' without_limits bodies' n M t)
        (calls_ok laws bodies 𝓑 without_limits n) (calls_simulate bodies bodies' 𝓑 𝓣 n) (bodies M.number)
        (𝓑.each k m M e).types ids (variables M.parameters) μ z s t H S
        (record { core = c; frames = F }))
        λ v s' v' t' a. record {
          ids' = a.ids';
          persists = a.persists;
          core = a.match.core;
          value = a.value;
        });
  }
