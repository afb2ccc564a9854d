-- What I, W, G, U and K do, their parts having values: the source and its plain form end alike.
use mathlib.Core.Path.{◌≡◌, refl}
use Prim.Native.Nat.{ℕ, zero, suc, ◌+◌}
use mathlib.Core.Option.{Option, some}
use mathlib.Core.Bool.{Bool, true, false, cond}
use mathlib.Core.List.{List, [], ◌∷◌, ◌++◌, map}
use lib.ListN.{length, take, set as replace, length-append, length-set}
use lib.Seq.{take-append_seam}
use native.Mathlib.Omega.{arith}
use Rattle.language.specs.Limits.{imp_field, id_field, cast_exception}
use Rattle.language.specs.Lists.{nth, choice, Never, inj, all2_at, all2_at', all2_set₂, nth_last, up}
use Rattle.language.specs.Results.{ok, stop, bind, Alike, alike_ok, alike_stop}
use Rattle.language.specs.Frames.{Frame, at_slot}
use Rattle.language.specs.Tree.{DeclaredType, class, ExprType, known, Expr, literal_null, slot, get, new, set}
use Rattle.language.specs.World.{Method, World, field_type, is_declared}
use Rattle.language.specs.Environment.{Environment}
use Rattle.language.specs.Typing.{not_bool}
use Rattle.language.specs.State.{Value, truth, object, Object, State, raised, Out}
use Rattle.language.specs.Evaluation.{without_limits}
use Rattle.language.specs.State.{entered, with_heap, initials}
use Rattle.language.specs.Evaluation.{need_truth, need_reference, new_object}
use Rattle.language.specs.Evaluation.{do_get, do_set, do_cast, do_new, eval}
use Rattle.language.specs.Translation.{plain_class, plain_field, Shape, position, read_slot, implementor}
use Rattle.language.specs.Translation.{translate}
use Rattle.language.specs.Correspondence.{Corresponds, both_null, same_truth, in_place, identity_of}
use Rattle.language.specs.Correspondence.{implementor_of}
use Rattle.language.proofs.Booleans.{false≢}
use Rattle.theory.proofs.soundness.Fitting.{Laws, Fits, null_fits, truth_fits, object_fits, HeapOk}
use Rattle.theory.proofs.soundness.ActsSound.{inherit}
use Rattle.theory.proofs.translation.PlainWorld.{IsPlain}
use Rattle.theory.proofs.simulation.Matching.{Implements, Persists, persists_same, persists_trans, Mask}
use Rattle.theory.proofs.simulation.Matching.{slots_at}
use Rattle.theory.proofs.simulation.Matching.{slots_length, ThisMatches, no_this, this_implements}
use Rattle.theory.proofs.simulation.Matching.{FramesMatch}
use Rattle.theory.proofs.simulation.Matching.{frames_later}
use Rattle.theory.proofs.simulation.MatchingHeaps.{heap_put, keeps_put, heap_new, keeps_new}
use Rattle.theory.proofs.simulation.MatchingStates.{StatesMatch, After, Ended, recount, spare, spend, ended}
use Rattle.theory.proofs.simulation.MatchingStates.{ended_at, ImplementorOf, implementor_found}
use Rattle.theory.proofs.simulation.PlainSteps.{More, state_of, initials_correspond, first_identity}
use Rattle.theory.proofs.simulation.PlainSteps.{get_step}
use Rattle.theory.proofs.simulation.PlainSteps.{set_step, implementor_step, id_step, implementor_run}
use Rattle.theory.proofs.simulation.PlainSteps.{implementor_null, implementor_fails, run_this}
use Rattle.theory.proofs.simulation.PlainSteps.{run_plain_new}
use Rattle.theory.proofs.simulation.TranslationEquations.{plain_new_is}
use Rattle.language.specs.Tree.{literal}

-- The value of a slot of the source, and where the plain program has it.
pub data SlotAt (W : World) (ids : List ℕ) (h : List Object) (sh : Shape) (f' : Frame Value) : ℕ → Value
    → Type 0 where
  at_this : {j i m : ℕ} → nth ids j ≡ some i → f'.this ≡ some (object m) → Implements W h m i
      → SlotAt W ids h sh f' 0 (object j)
  at_variable : {k : ℕ} {v v' : Value} → nth f'.slots (position sh k) ≡ some v' → Corresponds ids v v'
      → SlotAt W ids h sh f' (suc k) v

-- Every slot of the source has its value somewhere in the plain program.
pub slot_found : {W : World} {ids : List ℕ} {h : List Object} {sh : Shape} {μ : Mask} {f f' : Frame Value}
    → FramesMatch W ids h sh μ f f' → (k : ℕ) (v : Value) → at_slot f k ≡ some v → SlotAt W ids h sh f' k v
slot_found {W} {ids} {h} {sh} {f'} F zero v e = go F.this refl e
  where
    go : {a b : Option Value} → ThisMatches W ids h a b → f'.this ≡ b → a ≡ some v → SlotAt W ids h sh f' 0 v
    go no_this q e = absurd (Never e)
    go (this_implements {j} i x) q e = let r : SlotAt W ids h sh f' 0 (object j) = at_this i q x in
        rw (inj e) at r
slot_found F (suc k) v e = let x = slots_at F.slots k v e in at_variable x.1 x.2

module _ (W W' : World) (P : IsPlain W W') (laws : Laws W) (𝓜 : More W) where
  module _ (invoke' : Method → State → Out Value) where
    abbrev run : Expr → State → Out Value
    run e t = eval W' without_limits invoke' e t

    -- I.
    pub read_acts : (k : ℕ) (ids : List ℕ) (sh : Shape) (μ : Mask) (z : ℕ) (s t : State) (v : Value)
        → StatesMatch W ids sh μ z s t → SlotAt W ids t.heap sh t.frame k v
        → Alike (After W ids t.heap sh μ z) (Ended W) (ok v (entered s)) (run (read_slot sh k) t)
    unfolding eval read_slot
    read_acts zero ids sh μ z s t (object j) R (at_this {i} {m} e a x) =
        rw (run_this W W' P invoke' i m x.c x.vs t.frame.this t.frame.slots t.heap t.steps
        t.changes
        x.known a x.here)
        (alike_ok {s = entered s} {t = entered (entered t)} (record {
          ids' = ids;
          persists = persists_same;
          value = in_place e;
          match = record {
            frames = R.frames;
            core = recount R.core refl refl refl refl (omega (arith, R.core)) (omega (arith, R.core));
          };
        }))
    read_acts (suc k) ids sh μ z s t v R (at_variable a r) =
        rw a (alike_ok {s = entered s} {t = entered t} (record {
          ids' = ids;
          persists = persists_same;
          value = r;
          match = record {
            frames = R.frames;
            core = recount R.core refl refl refl refl (omega (arith, R.core)) (omega (arith, R.core));
          };
        }))
    read_acts zero ids sh μ z s t Rattle.language.specs.State.null R x4 = elim x4 [ ]
    read_acts zero ids sh μ z s t (truth _) R x6 = elim x6 [ ]

    -- W.
    pub new_acts : (c : ℕ) (γ : Environment) (ids : List ℕ) (sh : Shape) (μ : Mask) (z : ℕ) (s t : State)
        → is_declared W c ≡ true → StatesMatch W ids sh μ z s t
        → Alike (After W ids t.heap sh μ z) (Ended W) (do_new W without_limits c (entered s))
        (run (translate W (new c) γ sh) t)
    new_acts c γ ids sh μ z s t dc R =
        let l = t.frame.slots in let h = t.heap in
        let i = length h in let m = length (h ++ (first_identity ∷ [])) in
        let B : Object = implementor_of c i (initials (map plain_field (W.fields c))) in
        let h₂ = (h ++ (identity_of m ∷ [])) ++ (B ∷ []) in
        let l₂ = l ++ (object i ∷ object m ∷ []) in
        let t₂ : State = state_of t.frame.this (take (length l) l₂) h₂ (up 12 t.steps) t.changes in
        let E : Persists W ids (ids ++ (i ∷ [])) h h₂ = keeps_new i (identity_of m) B in
        let lm : m ≡ length h + 1 = length-append h (first_identity ∷ []) in
        let l1 = length-append h (identity_of m ∷ []) in
        let l2 = length-append (h ++ (identity_of m ∷ [])) (B ∷ []) in
        let l3 = length-append s.heap (new_object W c ∷ []) in
        rw (
          plain_new_is W c γ sh (length l) (slots_length R.frames.slots),
          run_plain_new W W' P invoke' c t dc,
        )
        (alike_ok {s = with_heap (s.heap ++ (new_object W c ∷ [])) (entered s)} {t = t₂} (record {
          ids' = ids ++ (i ∷ []);
          persists = E;
          value = in_place (rw R.core.heaps.long at (nth_last ids i));
          match = record {
            frames = rw (take-append_seam) (frames_later E R.frames);
            core = record {
              heaps = heap_new R.core.heaps (new_object W c) _ m (omega (arith, lm)) dc
                  (λ ids. initials_correspond ids (W.fields c));
              count = omega (arith, R.core, l1, l2, l3);
              low = omega (arith, R.core);
              high = omega (arith, R.core);
              unchanged = R.core.unchanged;
            };
          };
        }))

    -- G, of the child's value.
    pub get_acts : {ids : List ℕ} {h₀ : List Object} {sh : Shape} {μ : Mask} {z : ℕ} (f c : ℕ)
        (u : DeclaredType)
        (v v' : Value) (s t : State) → HeapOk W s.heap → Fits W s.heap v (known (class c))
        → field_type f (W.fields c) ≡ some u → After W ids h₀ sh μ (81 + z) v s v' t
        → Alike (After W ids h₀ sh μ z) (Ended W) (do_get W f v s)
        (bind (bind (do_get W' imp_field v' t) (λ v t. do_cast W' (plain_class c) v t))
        (λ v t. do_get W' f v t))
    get_acts {ids} {h₀} {sh} {μ} {z} f c u v v' s t H F i a = go a.value F
      where
        go : {v v' : Value} → Corresponds a.ids' v v' → Fits W s.heap v (known (class c))
            → Alike (After W ids h₀ sh μ z) (Ended W) (do_get W f v s)
            (bind (bind (do_get W' imp_field v' t) (λ v t. do_cast W' (plain_class c) v t))
            (λ v t. do_get W' f v t))
        go both_null (null_fits n) = alike_stop (ended a.match.core)
        go (in_place {j} {i = k} e) (object_fits o p q) =
            let x = inherit laws o.class_of c f u q i in let y =
            all2_at (H.each j o p) x.i x.fld x.is in
            let g = implementor_found a.match.core j k o e p in
            let y' = all2_at' g.values x.i y.0 y.1 in
            rw (
              p,
              x.at,
              y.1,
              implementor_step W W' P c o.class_of k g.m g.vs t g.known g.at_identity
                  g.at_implementor q,
              get_step W W' P 𝓜 f o.class_of k g.m x.i g.vs y'.0 t g.known
                  g.at_implementor x.at
                  y'.1,
            )
            (alike_ok {s = s} {t = t} (record
            { ids' = a.ids'; persists = a.persists; value = y'.2; match = spare 81 a.match }))
        go (same_truth {b = b}) x4 = elim x4 [ ]

    -- U, its object and value in temporaries.
    pub set_acts : {ids : List ℕ} {h₀ : List Object} {sh : Shape} {μ : Mask} {z : ℕ} (f c n : ℕ)
        (u : DeclaredType)
        (v v' w w' : Value) (s t : State) → HeapOk W s.heap → Fits W s.heap v (known (class c))
        → field_type f (W.fields c) ≡ some u → (ids' : List ℕ) → Persists W ids ids' h₀ t.heap
        → StatesMatch W ids' sh μ (5 + z) s t → Corresponds ids' v v' → Corresponds ids' w w'
        → nth t.frame.slots n ≡ some v' → nth t.frame.slots (suc n) ≡ some w'
        → Alike (After W ids h₀ sh μ z) (Ended W) (do_set W f v w s)
        (run (set f (implementor c (suc n)) (slot (suc (suc n)))) t)
    unfolding eval
    set_acts {z} f c n u v v' w w' s t H (null_fits _) i ids' X R both_null r a b =
        rw (implementor_null W W' P invoke' c n (entered t) a)
        (alike_stop (ended_at 4 (entered (entered (entered (entered t)))) R.core (omega arith) refl refl
        (omega arith)))
    set_acts {z} f c n u (object j) (object k) w w' s t H (object_fits o p q) i ids' X R (in_place e) r a b =
        let x = inherit laws o.class_of c f u q i in let g = implementor_found R.core j k o e p in
        let o₂ : Object = record { class_of = o.class_of; fields = replace o.fields x.i w } in
        let N : Object = implementor_of o.class_of k (replace g.vs x.i w') in
        let t₁ : State = entered (entered (entered (entered (entered t)))) in
        let t₂ : State = with_heap (replace t.heap g.m N) t₁ in
        let E : Persists W ids' ids' t.heap (replace t.heap g.m N)
        = keeps_put k g.m o.class_of o.class_of g.vs _ g.at_implementor g.known in
        rw (
          p,
          x.at,
          implementor_run W W' P invoke' c o.class_of k g.m n g.vs (entered t) g.known a
              g.at_identity
              g.at_implementor q,
          b,
          set_step W W' P 𝓜 f o.class_of k g.m x.i g.vs w' t₁ g.known g.at_implementor
              x.at,
        )
        (alike_ok {s = with_heap (replace s.heap j o₂) s} {t = t₂} (record {
          ids' = ids';
          persists = persists_trans X E;
          value = r;
          match = record {
            frames = frames_later E R.frames;
            core = record {
              heaps = heap_put R.core.heaps j k g.m o o₂ g.vs (replace g.vs x.i w') p e
                  g.at_identity
                  g.at_implementor g.known (all2_set₂ g.values x.i w w' r);
              count = rw (length-set t.heap g.m N, length-set s.heap j o₂) R.core.count;
              low = omega (arith, R.core);
              high = omega (arith, R.core);
              unchanged = R.core.unchanged;
            };
          };
        }))
    set_acts {ids = ids} {h₀ = h₀} {sh = sh} {μ = μ} {z = z} f c n u (object _) Rattle.language.specs.State.null w w' s t H (object_fits {j = j} o p q) i ids' X R x14 r a b = elim x14 [ ]
    set_acts {ids = ids} {h₀ = h₀} {sh = sh} {μ = μ} {z = z} f c n u (object _) (truth _) w w' s t H (object_fits {j = j} o p q) i ids' X R x16 r a b = elim x16 [ ]

    -- K's arms, the value in its temporary.
    pub cast_acts : {ids : List ℕ} {h₀ : List Object} {sh : Shape} {μ : Mask} {z : ℕ} (c n : ℕ) (u : ExprType)
        (v v' : Value) (s t : State) → not_bool u ≡ true → Fits W s.heap v u
        → (ids' : List ℕ) → Persists W ids ids' h₀ t.heap → StatesMatch W ids' sh μ (4 + z) s t
        → Corresponds ids' v v' → nth t.frame.slots n ≡ some v'
        → Alike (After W ids h₀ sh μ z) (Ended W) (do_cast W c v s)
        (bind (need_reference v' t λ b. ok (truth b) t) λ x t. need_truth x t
        λ b. choice b (λ _. run (literal literal_null) t) (λ _. run (get id_field (implementor c (suc n))) t))
    unfolding eval
    cast_acts {z} c n u v v' s t N F ids' X R both_null a = alike_ok {s = s} {t = entered t} (record {
      ids' = ids';
      persists = X;
      value = both_null;
      match = record {
        frames = R.frames;
        core = spend 1 (entered t) R.core (omega arith) refl refl (omega arith);
      };
    })
    cast_acts c n u v v' s t N truth_fits ids' X R same_truth a = false≢ N
    cast_acts {ids} {h₀} {sh} {μ} {z} c n u (object j) (object i) s t N (object_fits o p q) ids' X R
        (in_place e) a
        =
        rw p (go (W.below o.class_of c) refl)
      where
        g : ImplementorOf W ids' t i o
        g = implementor_found R.core j i o e p

        t₄ : State
        t₄ = entered (entered (entered (entered t)))

        go : (b : Bool) → W.below o.class_of c ≡ b → Alike (After W ids h₀ sh μ z) (Ended W)
            (cond b (ok (object j) s) (stop (raised cast_exception) s))
            (run (get id_field (implementor c (suc n))) t)
        go true y = rw (
          implementor_run W W' P invoke' c o.class_of i g.m n g.vs (entered t) g.known a
              g.at_identity g.at_implementor y,
          id_step W W' P o.class_of i g.m g.vs t₄ g.known g.at_implementor,
        )
            (alike_ok {s = s} {t = t₄} (record {
              ids' = ids';
              persists = X;
              value = in_place e;
              match = record {
                frames = R.frames;
                core = spend 4 t₄ R.core (omega arith) refl refl (omega arith);
              };
            }))
        go false y = rw (implementor_fails W W' P invoke' c o.class_of i g.m n g.vs (entered t)
            g.known a
            g.at_identity g.at_implementor y)
            (alike_stop (ended_at 4 t₄ R.core (omega arith) refl refl (omega arith)))
