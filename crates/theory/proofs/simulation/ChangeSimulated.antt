-- What R does, the slot having a value: the source and its plain form end alike.
use mathlib.Core.Path.{◌≡◌, refl, ◌∙◌}
use Prim.Native.Nat.{ℕ, zero, suc, ◌≤◌}
use mathlib.Core.Option.{some}
use mathlib.Core.Bool.{true}
use mathlib.Core.List.{List, [], ◌∷◌, ◌++◌}
use lib.ListN.{length, set as replace, length-append, length-set}
use lib.Seq.{take-append_seam}
use native.Mathlib.Omega.{arith}
use Rattle.language.specs.Lists.{nth, nth_append, up, nth_up, nth₀, drop_map}
use Rattle.language.specs.Results.{ok, Alike, alike_ok}
use Rattle.language.specs.Tree.{class, known, Expr, change}
use Rattle.language.specs.World.{Method, World, is_declared}
use Rattle.language.specs.Environment.{Environment}
use Rattle.language.specs.Typing.{can_change}
use Rattle.language.specs.State.{Value, null, object, Object, State, Out, entered}
use Rattle.language.specs.Evaluation.{without_limits}
use Rattle.language.specs.State.{with_change, initial}
use Rattle.language.specs.Evaluation.{changed, do_change, eval}
use Rattle.language.specs.Translation.{Shape, position, renew, plain_change, change_types, translate}
use Rattle.language.specs.Correspondence.{both_null, in_place, identity_of, implementor_of}
use Rattle.theory.proofs.soundness.Fitting.{Laws, Fits, object_fits, HeapOk}
use Rattle.theory.proofs.soundness.ActsSound.{can_inv, root_fields}
use Rattle.theory.proofs.translation.PlainWorld.{IsPlain}
use Rattle.theory.proofs.simulation.Matching.{Persists, persists_same, Mask, slots_length, frames_later}
use Rattle.theory.proofs.simulation.MatchingHeaps.{heap_renew, keeps_renew}
use Rattle.theory.proofs.simulation.MatchingStates.{StatesMatch, After, Ended, recount, implementor_found}
use Rattle.theory.proofs.simulation.PlainSteps.{More, state_of, up_is, runs_nil, runs_cons, block_runs}
use Rattle.theory.proofs.simulation.PlainSteps.{run_read}
use Rattle.theory.proofs.simulation.Renewal.{after_copies, after_copies_is, renewed, first_null}
use Rattle.theory.proofs.simulation.Renewal.{first_object}
use Rattle.theory.proofs.simulation.Renewal.{first_this}
use Rattle.theory.proofs.simulation.TranslationEquations.{plain_change_is}
use Rattle.theory.proofs.simulation.ActsSimulated.{SlotAt, at_this, at_variable}
use Rattle.theory.proofs.simulation.PlainSteps.{written}

module _ (W W' : World) (P : IsPlain W W') (laws : Laws W) (𝓜 : More W) where
  module _ (invoke' : Method → State → Out Value) where
    abbrev run : Expr → State → Out Value
    run e t = eval W' without_limits invoke' e t

    -- R of an object, once its Identity stands in the first of three temporaries: it is renewed, and read
    -- back.
    change-object : (d : ℕ) (ids : List ℕ) (sh : Shape) (μ : Mask) (z : ℕ) (s t : State) → HeapOk W s.heap
        → StatesMatch W ids sh μ z s t → is_declared W d ≡ true → (j i : ℕ) (o : Object) → nth ids j ≡ some i
        → nth s.heap j ≡ some o → W.root o.class_of ≡ W.root d → (x : Out Value) (k : ℕ) → k ≤ 5
        → 1 ≤ k
        → (let this = t.frame.this in let l = t.frame.slots in let h = t.heap in
        (m : ℕ) (ws : List Value)
        → run (renew W (suc (length l)) d)
        (state_of this (l ++ (object i ∷ null ∷ null ∷ [])) h (up k t.steps) t.changes)
        ≡ ok (object i) (state_of this (l ++ (object i ∷ object (length h) ∷ object m ∷ []))
        (replace (h ++ (implementor_of d i ws ∷ [])) i (identity_of (length h)))
        (after_copies (W.fields (W.root d)) (up 13 (up k t.steps))) t.changes)
        → x ≡ ok (object i) (state_of this l (replace (h ++ (implementor_of d i ws ∷ [])) i
        (identity_of (length h)))
        (suc (after_copies (W.fields (W.root d)) (up 13 (up k t.steps)))) t.changes))
        → Alike (After W ids t.heap sh μ z) (Ended W)
        (ok (object j) (with_change (replace s.heap j (changed W d o)) (entered s))) x
    change-object d ids sh μ z s t H R dd j i o e p rt x k k≤ k≥ f =
        let h = t.heap in
        let g = implementor_found R.core j i o e p in
        let y = renewed W W' P laws 𝓜 invoke' ids t.frame.this t.frame.slots null null h
        (up k t.steps) t.changes
        i g.m o.class_of d g.vs o.fields s.heap g.known dd g.at_identity
        g.at_implementor
        g.values (H.each j o p) (rw rt at (laws.sub_root o.class_of)) in
        let N : Object = implementor_of d i y.ws' in
        let h₂ = replace (h ++ (N ∷ [])) i (identity_of (length h)) in
        let t₂ : State = state_of t.frame.this t.frame.slots h₂
        (suc (after_copies (W.fields (W.root d)) (up 13 (up k t.steps)))) t.changes in
        let E : Persists W ids ids h h₂ = keeps_renew i g.m N (length h) g.at_identity in
        let st = after_copies_is (W.fields (W.root d)) (up 13 (up k t.steps)) in
        let fw = 𝓜.few (W.root d) in let uk = up_is k t.steps in
        let l1 = length-set (h ++ (N ∷ [])) i (identity_of (length h)) in let l2 = length-append h (N ∷ []) in
        let l3 = length-set s.heap j (changed W d o) in
        rw (f g.m y.ws' y.ran)
        (alike_ok {s = with_change (replace s.heap j (changed W d o)) (entered s)} {t = t₂} (record {
          ids' = ids;
          persists = E;
          value = in_place e;
          match = record {
            frames = frames_later E R.frames;
            core = record {
              heaps = heap_renew R.core.heaps j i g.m o (changed W d o) y.ws' p e g.at_identity
                  dd
                  (rw rt (rw (drop_map (λ f. initial f.type) (length (W.fields (W.root d)))
                  (W.fields d)) at y.values));
              count = omega (arith, R.core, l1, l2, l3);
              low = omega (arith, R.core, st, uk);
              high = omega (arith, R.core, st, fw, uk);
              unchanged = R.core.unchanged;
            };
          };
        }))

    -- R.
    pub change_acts : (k c d : ℕ) (γ : Environment) (ids : List ℕ) (sh : Shape) (μ : Mask) (z : ℕ)
        (s t : State)
        → HeapOk W s.heap → StatesMatch W ids sh μ z s t → is_declared W d ≡ true → (v : Value)
        → Fits W s.heap v (known (class c)) → can_change W c d ≡ true
        → SlotAt W ids t.heap sh t.frame k v
        → Alike (After W ids t.heap sh μ z) (Ended W) (do_change W d v (entered s))
        (run (translate W (change k d) γ sh) t)
    unfolding plain_change
    change_acts zero c d γ ids sh μ z s t H R dd (object j) (object_fits o p q) can (at_this {i} {m} e a x) =
        let l = t.frame.slots in let n = length l in let g = can_inv W c d can in
        let rt : W.root o.class_of ≡ W.root d = laws.fickle_root o.class_of c q g.0 ∙ g.1 in
        rw (
          plain_change_is W 0 d γ sh n (slots_length R.frames.slots),
          p,
          root_fields laws s.heap o d rt (H.each j o p),
        )
        (change-object d ids sh μ z s t H R dd j i o e p rt _ 4
        (omega arith) (omega arith) λ m' ws ran.
        block_runs W W' P invoke' (change_types W d) t _
        (runs_cons (first_this W W' P laws 𝓜 invoke' n i m x.c x.vs t.frame.this
        (l ++ (null ∷ null ∷ null ∷ [])) _ t.heap (suc t.steps) t.changes x.known a x.here
        (written l _ 0 _ (object i) (nth₀ _ _)))
        (runs_cons ran
        (runs_cons (run_read W W' P invoke' n (object i) t.frame.this _ _ _ t.changes
        (nth_up l _ 0 ∙ nth₀ _ _))
        runs_nil)))
        ∙ rw take-append_seam)
    change_acts (suc k) c d γ ids sh μ z s t H R dd null F can (at_variable a both_null) =
        let l = t.frame.slots in let n = length l in
        let t₂ : State = state_of t.frame.this l t.heap (up 7 t.steps) t.changes in
        let ran : run (plain_change W (suc n) sh (suc k) d) t ≡ ok null t₂
        = block_runs W W' P invoke' (change_types W d) t _
        (runs_cons (first_null W W' P laws 𝓜 invoke' n (position sh k) d t.frame.this
        (l ++ (null ∷ null ∷ null ∷ [])) _ t.heap (suc t.steps) t.changes
        (nth_append l _ _ _ a) (written l _ 0 _ null (nth₀ _ _)))
        (runs_cons (run_read W W' P invoke' n null t.frame.this _ _ _ t.changes
        (nth_up l _ 0 ∙ nth₀ _ _))
        runs_nil))
        ∙ rw take-append_seam in
        rw (plain_change_is W (suc k) d γ sh n (slots_length R.frames.slots), ran)
        (alike_ok {s = entered s} {t = t₂} (record {
          ids' = ids;
          persists = persists_same;
          value = both_null;
          match = record {
            frames = R.frames;
            core = recount R.core refl refl refl refl (omega (arith, R.core)) (omega (arith, R.core));
          };
        }))
    change_acts (suc k) c d γ ids sh μ z s t H R dd (object j) (object_fits o p q) can
        (at_variable a (in_place {i} e)) =
        let l = t.frame.slots in let n = length l in let g = can_inv W c d can in
        let rt : W.root o.class_of ≡ W.root d = laws.fickle_root o.class_of c q g.0 ∙ g.1 in
        rw (
          plain_change_is W (suc k) d γ sh n (slots_length R.frames.slots),
          p,
          root_fields laws s.heap o d rt (H.each j o p),
        )
        (change-object d ids sh μ z s t H R dd j i o e p rt _ 5
        (omega arith) (omega arith) λ m' ws ran.
        block_runs W W' P invoke' (change_types W d) t _
        (runs_cons (first_object W W' P laws 𝓜 invoke' n (position sh k) d i t.frame.this
        (l ++ (null ∷ null ∷ null ∷ [])) _ t.heap (suc t.steps) t.changes
        (nth_append l _ _ _ a) (written l _ 0 _ (object i) (nth₀ _ _)) ∙ ran)
        (runs_cons (run_read W W' P invoke' n (object i) t.frame.this _ _ _ t.changes
        (nth_up l _ 0 ∙ nth₀ _ _))
        runs_nil))
        ∙ rw take-append_seam)
    change_acts zero c d γ ids sh μ z s t H R dd null F can x9 = elim x9 [ ]
    change_acts zero c d γ ids sh μ z s t H R dd (Rattle.language.specs.State.truth _) F can _ = elim F [ ]
    change_acts (suc k) c d γ ids sh μ z s t H R dd (Rattle.language.specs.State.truth _) F can _ = elim F [ ]
