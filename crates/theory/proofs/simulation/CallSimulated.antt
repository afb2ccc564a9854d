-- What Q does, receiver and arguments having values: if calls end alike, the source and its plain form do.
use mathlib.Core.Path.{◌≡◌, refl, sym, ◌∙◌, ap}
use Prim.Native.Nat.{ℕ, suc, ◌+◌}
use mathlib.Core.Option.{some}
use mathlib.Core.Bool.{true}
use mathlib.Core.List.{List, [], ◌∷◌}
use lib.ListN.{length, length-map}
use native.Mathlib.Omega.{arith}
use Rattle.language.specs.Lists.{nth, All2, a_nil, a_cons, all2_length, up}
use Rattle.language.specs.Results.{Alike, alike_ok, alike_stop, alike_bind}
use Rattle.language.specs.Frames.{frame}
use Rattle.language.specs.Tree.{DeclaredType, class, ExprType, known, call}
use Rattle.language.specs.World.{Method, World}
use Rattle.language.specs.Environment.{fresh_slot, method_environment}
use Rattle.language.specs.Typing.{all_fit}
use Rattle.language.specs.State.{Value, object, Object, State, Out, entered, with_frame}
use Rattle.language.specs.Evaluation.{without_limits}
use Rattle.language.specs.Evaluation.{do_call, eval}
use Rattle.language.specs.Translation.{Shape, variables, implementor, reads}
use Rattle.language.specs.Correspondence.{Corresponds, both_null, in_place}
use Rattle.theory.proofs.soundness.Fitting.{Laws, Fits, null_fits, object_fits, HeapOk, FitsFrame}
use Rattle.theory.proofs.soundness.Fitting.{this_some}
use Rattle.theory.proofs.soundness.ActsSound.{fits_all, arguments_counted}
use Rattle.theory.proofs.translation.PlainWorld.{IsPlain, plain_form}
use Rattle.theory.proofs.simulation.Matching.{Persists, persists_trans, Mask, SlotsMatch, no_slots}
use Rattle.theory.proofs.simulation.Matching.{variable}
use Rattle.theory.proofs.simulation.Matching.{this_implements, FramesMatch, frames_later}
use Rattle.theory.proofs.simulation.MatchingStates.{Matched, StatesMatch, After, Returned, Ended, recount}
use Rattle.theory.proofs.simulation.MatchingStates.{ended_at}
use Rattle.theory.proofs.simulation.MatchingStates.{implementor_found, no_values}
use Rattle.theory.proofs.simulation.PlainSteps.{More, state_of, past, past_is, method_step}
use Rattle.theory.proofs.simulation.PlainSteps.{implementor_run}
use Rattle.theory.proofs.simulation.PlainSteps.{implementor_null, run_reads}

-- The arguments' values, as the callee's variables.
arguments_match : {ids : List ℕ} {vs vs' : List Value} (ts : List DeclaredType)
    → All2 (Corresponds ids) vs vs'
    → length vs ≡ length ts → SlotsMatch ids (variables ts) (no_values ts) vs vs'
arguments_match [] a_nil e = no_slots
arguments_match [] (a_cons r rs) e = absurd (omega (arith, e))
arguments_match (t ∷ ts) a_nil e = absurd (omega (arith, e))
arguments_match (t ∷ ts) (a_cons r rs) e = variable r (arguments_match ts rs (omega (arith, e)))

module _ (W W' : World) (P : IsPlain W W') (laws : Laws W) (𝓜 : More W) where
  -- Calls on both sides end alike.
  pub record CallsMatch (invoke invoke' : Method → State → Out Value) : Type 0 where
    pub alike : (k m : ℕ) (M : Method) → W.method k m ≡ some M → (ids : List ℕ) (z : ℕ) (s t : State)
        → HeapOk W s.heap
        → FitsFrame W s.heap s.frame (method_environment M.owner M.parameters)
        → Matched W ids z s t
        → (μ : Mask) → FramesMatch W ids t.heap (variables M.parameters) μ s.frame t.frame
        → Alike (Returned W ids t.heap z) (Ended W) (invoke M s) (invoke' (plain_form M) t)

  -- Q, its receiver and arguments in temporaries.
  pub call_acts : (invoke invoke' : Method → State → Out Value) → CallsMatch invoke invoke'
      → {ids : List ℕ} {h₀ : List Object} {sh : Shape} {μ : Mask} {z : ℕ} (m c n : ℕ) (M : Method)
      (v v' : Value)
      (vs vs' : List Value) (us : List ExprType) (s t : State) → HeapOk W s.heap
      → Fits W s.heap v (known (class c)) → All2 (Fits W s.heap) vs us
      → all_fit W us M.parameters ≡ true
      → W.method c m ≡ some M → (ids' : List ℕ) → Persists W ids ids' h₀ t.heap
      → StatesMatch W ids' sh μ (4 + length M.parameters + z) s t → Corresponds ids' v v'
      → All2 (Corresponds ids') vs vs' → nth t.frame.slots n ≡ some v'
      → ((q : ℕ) (w : Value) → nth vs' q ≡ some w → nth t.frame.slots (up q (suc n)) ≡ some w)
      → Alike (After W ids h₀ sh μ z) (Ended W) (do_call W without_limits invoke m v vs s)
      (eval W' without_limits invoke' (call m (implementor c (suc n)) (reads (suc (suc n)) M.parameters))
      t)
  unfolding eval
  call_acts invoke invoke' D m c n M v v' vs vs' us s t H (null_fits _) A f i ids' X R both_null r a b =
      rw (implementor_null W W' P invoke' c n (entered t) a)
      (alike_stop (ended_at 4 (entered (entered (entered (entered t)))) R.core (omega arith) refl refl
      (omega arith)))
  call_acts invoke invoke' D {z} m c n M (object j) (object k) vs vs' us s t H (object_fits o p q) A f i ids'
      X R
      (in_place e)
      r a b =
      let g = implementor_found R.core j k o e p in let x = laws.override o.class_of c m M q i in
      let M' =
      x.0 in
      let fa = fits_all laws s.heap vs us M.parameters A f in
      let len : length vs ≡ length M.parameters = all2_length fa ∙ length-map M.parameters fresh_slot in
      let len' : length vs' ≡ length M.parameters = sym (all2_length r) ∙ len in
      let t₅ : State = state_of t.frame.this t.frame.slots t.heap
      (past M.parameters (up 4 t.steps))
      t.changes in
      let st = past_is M.parameters (up 4 t.steps) in
      let callee : FitsFrame W s.heap (frame (some (object j)) vs)
      (method_environment M'.owner M'.parameters)
      = record { this = this_some (object_fits o p (laws.owned _ _ _ x.1)); slots = rw x.2 fa } in
      let callee' : FramesMatch W ids' t.heap (variables M'.parameters) (no_values M'.parameters)
      (frame (some (object j)) vs) (frame (some (object g.m)) vs')
      = record {
        this = this_implements e
            (record { c = o.class_of; vs = g.vs; here = g.at_implementor; known = g.known });
        slots = rw x.2 (arguments_match M.parameters r len);
      } in
      rw (
        p,
        x.1,
        arguments_counted laws M.parameters x.2 fa,
        implementor_run W W' P invoke' c o.class_of k g.m n g.vs (entered t) g.known a
            g.at_identity
            g.at_implementor q,
        run_reads W W' P invoke' M.parameters vs' (suc n) t.frame.this t.frame.slots t.heap
            (up 4 t.steps)
            t.changes len' b,
        method_step W W' P o.class_of k g.m m M' vs' g.vs t₅ invoke' g.known g.at_implementor
            x.1 (len' ∙ ap length (sym x.2)),
      )
      (alike_bind (D.alike _ m M' x.1 ids' z (with_frame (frame (some (object j)) vs) s)
      (with_frame (frame (some (object g.m)) vs') t₅) H callee
      (recount R.core refl refl refl refl (omega (arith, st, R.core)) (omega (arith, st, R.core))) _
      callee')
      λ w s' w' t' y. alike_ok {s = with_frame s.frame s'} {t = with_frame t.frame t'} (record {
        ids' = y.ids';
        persists = persists_trans X y.persists;
        value = y.value;
        match = record {
          frames = frames_later y.persists R.frames;
          core = recount y.core refl refl refl refl (omega (arith, y.core)) (omega (arith, y.core));
        };
      }))
  call_acts invoke invoke' D {ids = ids} {h₀ = h₀} {sh = sh} {μ = μ} {z = z} m c n M (object _) Rattle.language.specs.State.null vs vs' us s t H (object_fits {j = j} o p q) A f i ids' X R x16 r a b = elim x16 [ ]
  call_acts invoke invoke' D {ids = ids} {h₀ = h₀} {sh = sh} {μ = μ} {z = z} m c n M (object _) (Rattle.language.specs.State.truth _) vs vs' us s t H (object_fits {j = j} o p q) A f i ids' X R x18 r a b = elim x18 [ ]
