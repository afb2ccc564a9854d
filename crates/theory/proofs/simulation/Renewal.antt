-- R in the plain program: a new implementor for an Identity, with the root's fields copied from the old one.
use mathlib.Core.Path.{◌≡◌, refl, sym, ap, ◌∙◌}
use Prim.Native.Nat.{ℕ, suc, ◌+◌, ◌*◌, ◌<◌}
use mathlib.Core.Option.{Option, some}
use mathlib.Core.Bool.{true}
use mathlib.Core.List.{List, [], ◌∷◌, ◌++◌, map, append-nil}
use lib.ListN.{length, set as replace, length-append}
use lib.Seq.{append_snoc, set_comm}
use native.Mathlib.Omega.{arith}
use Rattle.language.specs.Limits.{id_field}
use Rattle.language.specs.Lists.{nth, All2, all2_at, all2_at', all2_set₂, nth_set_other, nth_append, nth_last}
use Rattle.language.specs.Lists.{up, nth_up, nth₀, nth₁, nth₂, nth_lt, mix, mix_step, nth_map}
use Rattle.language.specs.Results.{ok}
use Rattle.language.specs.Tree.{Expr, literal_null, slot, is_null, get, assign, set, choose, nil, Field}
use Rattle.language.specs.World.{Method, World, place, is_declared}
use Rattle.language.specs.State.{Value, null, object, Object, State, Out, initial}
use Rattle.language.specs.Evaluation.{without_limits}
use Rattle.language.specs.State.{initials}
use Rattle.language.specs.Evaluation.{eval}
use Rattle.language.specs.Translation.{plain_field, implementor, ◌then◌, copies, renew}
use Rattle.language.specs.Correspondence.{Corresponds, identity_of, implementor_of}
use Rattle.theory.proofs.soundness.Fitting.{Laws, FitsField}
use Rattle.theory.proofs.translation.PlainWorld.{IsPlain}
use Rattle.theory.proofs.simulation.MatchingHeaps.{implementor_no_identity}
use Rattle.theory.proofs.simulation.PlainSteps.{More, state_of, set_last, initials_correspond}
use Rattle.theory.proofs.simulation.PlainSteps.{first_implementor}
use Rattle.theory.proofs.simulation.PlainSteps.{get_step, set_step, implementor_run, Runs, runs_nil}
use Rattle.theory.proofs.simulation.PlainSteps.{runs_cons}
use Rattle.theory.proofs.simulation.PlainSteps.{plain_block_runs, run_read, run_assign}
use Rattle.theory.proofs.simulation.PlainSteps.{run_new_implementor}
use Rattle.theory.proofs.simulation.PlainSteps.{run_put_id, run_put_imp, run_this, Written, written}
use Rattle.language.specs.Tree.{literal}

-- Steps after the copies of fields and a last read.
abbrev pub after_copies : List Field → ℕ → ℕ
after_copies [] k = suc k
after_copies (f ∷ fs) k = after_copies fs (up 4 k)

-- Four steps a field.
pub after_copies_is : (fs : List Field) (k : ℕ) → after_copies fs k ≡ k + 1 + 4 * length fs
after_copies_is [] k = omega arith
after_copies_is (f ∷ fs) k = omega (arith, after_copies_is fs (up 4 k))

module _ (W W' : World) (P : IsPlain W W') (laws : Laws W) (𝓜 : More W) (invoke' : Method → State → Out Value)
  where
    abbrev run : Expr → State → Out Value
    run e t = eval W' without_limits invoke' e t

    -- A field copied from the object in one slot to that in another.
    run-copy : (f a b x y q : ℕ) (w : Value) (c d i i' : ℕ) (vs ws : List Value) (this : Option Value)
        (l : List Value)
        (h h₂ : List Object) (k r : ℕ) → is_declared W c ≡ true → is_declared W d ≡ true
        → nth l a ≡ some (object x) → nth l b ≡ some (object y) → nth h y ≡ some (implementor_of c i vs)
        → nth h x ≡ some (implementor_of d i' ws) → place f (W.fields c) ≡ some q
        → place f (W.fields d) ≡ some q
        → nth vs q ≡ some w → replace h x (implementor_of d i' (replace ws q w)) ≡ h₂
        → run (set f (slot (suc a)) (get f (slot (suc b)))) (state_of this l h k r)
        ≡ ok w (state_of this l h₂ (up 4 k) r)
    unfolding eval
    run-copy f a b x y q w c d i i' vs ws this l h h₂ k r dc dd p p' e g pc pd v z =
        rw (
          p,
          p',
          get_step W W' P 𝓜 f c i y q vs w (state_of this l h (up 4 k) r) dc e pc v,
          set_step W W' P 𝓜 f d i' x q ws w (state_of this l h (up 4 k) r) dd g pd,
          z,
        )

    -- All of the root's fields, one after another.
    module _ (ids : List ℕ) (this : Option Value) (l : List Value) (h : List Object) (r i m c d x : ℕ)
        (vs A : List Value)
        (dc : is_declared W c ≡ true) (dd : is_declared W d ≡ true)
        (rest : List Field) (is_c : W.fields c ≡ W.fields (W.root d) ++ rest)
        (rest' : List Field) (is-d : W.fields d ≡ W.fields (W.root d) ++ rest')
        (n : ℕ) (at₀ : nth l n ≡ some (object i)) (at₁ : nth l (suc n) ≡ some (object x))
        (at₂ : nth l (suc (suc n)) ≡ some (object m)) (is_x : length h ≡ x) (lt : i < x)
        (id-at : nth h i ≡ some (identity_of m)) (imp-at : nth h m ≡ some (implementor_of c i vs))
        (alike : All2 (Corresponds ids) A vs) (hs : List Object)
        (fits-a : All2 (FitsField W hs) A (W.fields c))
      where
        abbrev heap_of : List Value → List Object
        heap_of ws = replace (h ++ (implementor_of d i ws ∷ [])) i (identity_of x)

        record Copied (fs : List Field) (ws : List Value) (k : ℕ) : Type 0 where
          pub ws' : List Value
          pub values : All2 (Corresponds ids)
              (mix (length (W.fields (W.root d))) A (initials (W.fields d)))
              ws'
          pub ran : (u : Value) → Runs W W' P invoke'
              (copies (suc (suc n)) (suc (suc (suc n))) fs (slot (suc n) then nil))
              (state_of this l (heap_of ws) k r) u
              (object i) (state_of this l (heap_of ws') (after_copies fs k) r)

        heap-old : (ws : List Value) → nth (heap_of ws) m ≡ some (implementor_of c i vs)
        heap-old ws = nth_set_other _ i m (identity_of x)
            (λ z. implementor_no_identity id-at (ap (nth h) z ∙ imp-at))
            ∙ nth_append h _ m _ imp-at

        heap-fresh : (ws : List Value) → nth (heap_of ws) x ≡ some (implementor_of d i ws)
        heap-fresh ws = nth_set_other _ i x (identity_of x) (λ z. omega (arith, lt, z))
            ∙ ap (nth (h ++ (implementor_of d i ws ∷ []))) (sym is_x) ∙ nth_last h _

        heap-next : (ws : List Value) (q : ℕ) (w : Value)
            → replace (heap_of ws) x (implementor_of d i (replace ws q w)) ≡ heap_of (replace ws q w)
        heap-next ws q w =
            set_comm (h ++ (implementor_of d i ws ∷ [])) i x (identity_of x)
            (implementor_of d i (replace ws q w))
            (λ z. omega (arith, lt, z))
            ∙ ap (λ y. replace y i (identity_of x))
            (ap (λ y. replace (h ++ (implementor_of d i ws ∷ [])) y (implementor_of d i (replace ws q w)))
            (sym is_x)
            ∙ set_last h _ _)

        copied : (fs pre : List Field) → pre ++ fs ≡ W.fields (W.root d) → (ws : List Value) (k : ℕ)
            → All2 (Corresponds ids) (mix (length pre) A (initials (W.fields d))) ws → Copied fs ws k
        unfolding copies
        copied [] pre e ws k a =
            let q : length pre ≡ length (W.fields (W.root d)) = ap length (sym (append-nil pre) ∙ e) in
            record {
              ws' = ws;
              values = rw q at a;
              ran = λ u. runs_cons (run_read W W' P invoke' n (object i) this l _ k r at₀) runs_nil;
            }
        copied (f ∷ fs) pre e ws k a =
            let q = length pre in
            let f-at : nth (W.fields (W.root d)) q ≡ some f
            = ap (λ y. nth y q) (sym e) ∙ nth_up pre (f ∷ fs) 0 ∙ nth₀ f fs in
            let c-at : nth (W.fields c) q ≡ some f = ap (λ y. nth y q) is_c ∙ nth_append _ rest q f f-at in
            let d-at : nth (W.fields d) q ≡ some f = ap (λ y. nth y q) is-d ∙ nth_append _ rest' q f f-at in
            let y = all2_at fits-a q f c-at in let w = all2_at' alike q y.0 y.1 in
            let len : length (pre ++ (f ∷ [])) ≡ suc q = omega (arith, length-append pre (f ∷ [])) in
            let a' : All2 (Corresponds ids) (mix (suc q) A (initials (W.fields d))) (replace ws q w.0)
            = rw (mix_step q A (initials (W.fields d)) y.0 (initial f.type) y.1
            (nth_map (λ g. initial g.type) q (W.fields d) f d-at)) at (all2_set₂ a q y.0 w.0
            w.2) in
            let x' = copied fs (pre ++ (f ∷ [])) (append_snoc pre f fs ∙ e) (replace ws q w.0) (up 4 k)
            (rw len a') in
            record {
              ws' = x'.ws';
              values = x'.values;
              ran = λ u. runs_cons
                  {t₂ = state_of this l (heap_of x'.ws') (after_copies fs (up 4 k)) r}
                  (run-copy f.name (suc n) (suc (suc n)) x m q w.0 c d i i vs ws this l (heap_of ws)
                  (heap_of (replace ws q w.0)) k r dc dd at₁ at₂ (heap-old ws) (heap-fresh ws)
                  (𝓜.unique c q f c-at) (𝓜.unique d q f d-at) w.1 (heap-next ws q w.0))
                  (x'.ran w.0);
            }

    -- What R's inner block does, with Identity i, of implementor m, in the first of three slots.
    pub record Renewed (ids : List ℕ) (this : Option Value) (l₀ : List Value) (a b : Value) (h : List Object)
        (k r i m d : ℕ) (A : List Value) : Type 0 where
      pub ws' : List Value
      pub values : All2 (Corresponds ids) (mix (length (W.fields (W.root d))) A (initials (W.fields d)))
          ws'
      pub ran : run (renew W (suc (length l₀)) d) (state_of this (l₀ ++ (object i ∷ a ∷ b ∷ [])) h k r)
          ≡ ok (object i) (state_of this (l₀ ++ (object i ∷ object (length h) ∷ object m ∷ []))
          (replace (h ++ (implementor_of d i ws' ∷ [])) i (identity_of (length h)))
          (after_copies (W.fields (W.root d)) (up 13 k)) r)

    -- R's inner block gives the Identity a new implementor of class d, with the root's fields kept.
    pub renewed : (ids : List ℕ) (this : Option Value) (l₀ : List Value) (a b : Value) (h : List Object)
        (k r i m c d : ℕ) (vs A : List Value) (hs : List Object) → is_declared W c ≡ true
        → is_declared W d ≡ true
        → nth h i ≡ some (identity_of m) → nth h m ≡ some (implementor_of c i vs)
        → All2 (Corresponds ids) A vs
        → All2 (FitsField W hs) A (W.fields c) → W.below c (W.root d) ≡ true
        → Renewed ids this l₀ a b h k r i m d A
    renewed ids this l₀ a b h k r i m c d vs A hs dc dd id-at imp-at al ft sb =
        let n = length l₀ in let x = length h in let F = W.fields (W.root d) in
        let p = laws.prefix c (W.root d) sb in let q = laws.prefix d (W.root d) (laws.sub_root d) in
        let ws = initials (map plain_field (W.fields d)) in
        let B₀ : Object = first_implementor d ws in let B₁ : Object = implementor_of d i ws in
        let l₁ = l₀ ++ (object i ∷ object x ∷ b ∷ []) in let l₂ =
        l₀ ++ (object i ∷ object x ∷ object m ∷ []) in
        let at₀ : nth l₂ n ≡ some (object i) = nth_up l₀ _ 0 ∙ nth₀ _ _ in
        let at₁ : nth l₂ (suc n) ≡ some (object x) = nth_up l₀ _ 1 ∙ nth₁ _ _ _ in
        let at₂ : nth l₂ (suc (suc n)) ≡ some (object m) = nth_up l₀ _ 2 ∙ nth₂ _ _ _ _ in
        let lt : i < x = nth_lt h i _ id-at in
        let X = copied ids this l₂ h r i m c d x vs A dc dd p.0 p.1 q.0 q.1 n at₀ at₁ at₂ refl lt
        id-at imp-at
        al hs ft F [] refl ws (up 13 k) (initials_correspond ids (W.fields d)) in
        record {
          ws' = X.ws';
          values = X.values;
          ran = plain_block_runs W W' P invoke' (state_of this (l₀ ++ (object i ∷ a ∷ b ∷ [])) h k r) _
              (runs_cons (run_new_implementor W W' P invoke' (suc n) d this (l₀ ++ (object i ∷ a ∷ b ∷ [])) l₁
              h
              (suc k) r dd
              (written l₀ _ 1 _ (object x) (nth₁ _ _ _)))
              (runs_cons (run_assign W W' P invoke' (suc (suc n)) (implementor (W.root d) (suc n)) (object m)
              this l₁ l₂
              (h ++ (B₀ ∷ [])) (up 3 k) (up 7 k) r
              (implementor_run W W' P invoke' (W.root d) c i m n vs
              (state_of this l₁ (h ++ (B₀ ∷ [])) (up 4 k) r) dc
              (nth_up l₀ _ 0 ∙ nth₀ _ _) (nth_append h _ i _ id-at) (nth_append h _ m _ imp-at) sb)
              (written l₀ _ 2 _ (object m) (nth₂ _ _ _ _)))
              (runs_cons (run_put_id W W' P invoke' (suc n) n x i d ws this l₂ (h ++ (B₀ ∷ []))
              (h ++ (B₁ ∷ []))
              (up 7 k) r dd
              at₁ at₀ (nth_last h B₀) (set_last h B₀ B₁))
              (runs_cons (run_put_imp W W' P invoke' n (suc n) i x (object m) this l₂ (h ++ (B₁ ∷ [])) _
              (up 10 k) r at₀ at₁
              (nth_append h _ i _ id-at) refl)
              (X.ran (object x))))))
              (length-append l₀ _ ∙ sym (length-append l₀ _));
        }

    -- The first statement of R: the slot's value goes to its temporary, and is renewed if it is an object.
    pub first_null : (n p d : ℕ) (this : Option Value) (l l₂ : List Value) (h : List Object) (k r : ℕ)
        → nth l p ≡ some null → Written l n null l₂
        → run (choose (is_null (assign (suc n) (slot (suc p)))) (literal literal_null) (renew W (suc n) d))
        (state_of this l h k r)
        ≡ ok null (state_of this l₂ h (up 5 k) r)
    unfolding eval
    first_null n p d this l l₂ h k r e f = rw (e, f.there, f.is)

    pub first_object : (n p d i : ℕ) (this : Option Value) (l l₂ : List Value) (h : List Object) (k r : ℕ)
        → nth l p ≡ some (object i) → Written l n (object i) l₂
        → run (choose (is_null (assign (suc n) (slot (suc p)))) (literal literal_null) (renew W (suc n) d))
        (state_of this l h k r)
        ≡ run (renew W (suc n) d) (state_of this l₂ h (up 4 k) r)
    unfolding eval
    first_object n p d i this l l₂ h k r e f = rw (e, f.there, f.is)

    pub first_this : (n i m c : ℕ) (vs : List Value) (this : Option Value) (l l₂ : List Value)
        (h : List Object)
        (k r : ℕ) → is_declared W c ≡ true → this ≡ some (object m) → nth h m ≡ some (implementor_of c i vs)
        → Written l n (object i) l₂
        → run (assign (suc n) (get id_field (slot 0))) (state_of this l h k r)
        ≡ ok (object i) (state_of this l₂ h (up 3 k) r)
    first_this n i m c vs this l l₂ h k r dc e g f =
        run_assign W W' P invoke' n (get id_field (slot 0)) (object i) this l l₂ h k (up 3 k) r
        (run_this W W' P invoke' i m c vs this l h (suc k) r dc e g) f
