-- What the pieces of a plain program do, run without limits: an Identity's implementor, its fields, a block
-- of temporaries, a new object.
use mathlib.Core.Path.{◌≡◌, refl, sym, ap, ◌∙◌}
use Prim.Native.Nat.{ℕ, zero, suc, ◌+◌, ◌≤◌}
use native.Mathlib.Nat.{suc_inj}
use mathlib.Core.Option.{Option, some}
use mathlib.Core.Bool.{true, false}
use mathlib.Core.List.{List, [], ◌∷◌, ◌++◌, map, append-nil}
use lib.ListN.{length, take, set as replace, length-append, length-map}
use lib.Seq.{set-append_seam, set-append_left, take-length}
use lib.Dec.{eqb}
use borrow.Author.Tests.{eq-eqb}
use native.Mathlib.Omega.{arith}
use Rattle.language.specs.Limits.{identity_class, imp_field, id_field, null_exception, cast_exception}
use Rattle.language.specs.Lists.{nth, All2, a_nil, a_cons, nth_append, nth_last, up, up_suc, nth_up, set_up}
use Rattle.language.specs.Lists.{nth₀, nth₁}
use Rattle.language.specs.Results.{ok, stop, bind}
use Rattle.language.specs.Frames.{frame, opened, closed}
use Rattle.language.specs.Tree.{DeclaredType, class, Expr, slot, get, new, assign, set, block, Exprs, nil}
use Rattle.language.specs.Tree.{cons, Field}
use Rattle.language.specs.World.{Method, World, place, is_declared}
use Rattle.language.specs.State.{Value, null, object, Object, State, raised, Out}
use Rattle.language.specs.Evaluation.{without_limits}
use Rattle.language.specs.State.{entered, with_frame, with_heap, initial, initials}
use Rattle.language.specs.Evaluation.{last_value}
use Rattle.language.specs.Evaluation.{new_object, with_field, do_get, do_set, do_cast, do_call, eval}
use Rattle.language.specs.Evaluation.{eval_all}
use Rattle.language.specs.Translation.{plain_class, plain_field, implementor, reads, ◌⊕◌, plain_new}
use Rattle.language.specs.Correspondence.{Corresponds, identity_of, implementor_of}
use Rattle.theory.proofs.translation.PlainWorld.{place_map, IsPlain, plain_form}
use Rattle.theory.proofs.simulation.MatchingStates.{initial_corresponds}
use Rattle.language.specs.Translation.{plain_type}

-- What the translator asks of a program besides the check.
pub record More (W : World) : Type 0 where
  pub declared_new : (c : ℕ) → W.makes c ≡ true → is_declared W c ≡ true
  pub unreserved : (n c i : ℕ) → place n (W.fields c) ≡ some i → eqb id_field n ≡ false
  pub unique : (c i : ℕ) (f : Field) → nth (W.fields c) i ≡ some f → place f.name (W.fields c) ≡ some i
  pub few : (c : ℕ) → length (W.fields c) ≤ 16
  pub short : (c m : ℕ) (M : Method) → W.method c m ≡ some M → length M.parameters ≤ 8

-- A state by its parts: `this`, the other slots, heap, steps, changes.
abbrev pub state_of : Option Value → List Value → List Object → ℕ → ℕ → State
state_of this l h k r = record { frame = frame this l; heap = h; steps = k; changes = r }

-- `up` is a sum.
pub up_is : (k n : ℕ) → up k n ≡ n + k
up_is zero n = omega arith
up_is (suc k) n = omega (arith, up_is k n)

-- A step for each of a list.
abbrev pub past : {A : Type 0} → List A → ℕ → ℕ
past [] k = k
past (x ∷ xs) k = past xs (suc k)

-- `past` is a sum.
pub past_is : {A : Type 0} (xs : List A) (k : ℕ) → past xs k ≡ k + length xs
past_is [] k = omega arith
past_is (x ∷ xs) k = omega (arith, past_is xs (suc k))

-- The last object of a heap replaced.
pub set_last : (l : List Object) (a b : Object) → replace (l ++ (a ∷ [])) (length l) b ≡ l ++ (b ∷ [])
set_last l a b = set-append_seam l a [] b

-- A value put in a slot that is there.
pub record Written (l : List Value) (a : ℕ) (v : Value) (l₂ : List Value) : Type 0 where
  pub old : Value
  pub there : nth l a ≡ some old
  pub is : replace l a v ≡ l₂

-- A value put in the k-th slot after l.
pub written : (l m : List Value) (k : ℕ) (w v : Value) → nth m k ≡ some w
    → Written (l ++ m) (up k (length l)) v (l ++ replace m k v)
written l m k w v e = record { old = w; there = nth_up l m k ∙ e; is = set_up l m k v }

-- First values of fields correspond.
pub initials_correspond : (ids : List ℕ) (fs : List Field)
    → All2 (Corresponds ids) (initials fs) (initials (map plain_field fs))
initials_correspond ids [] = a_nil
initials_correspond ids (f ∷ fs) = a_cons (initial_corresponds ids f.type) (initials_correspond ids fs)

-- An Identity before it has its implementor; an implementor before it has its Identity.
abbrev pub first_identity : Object
first_identity = record { class_of = identity_class; fields = null ∷ [] }

abbrev pub first_implementor : ℕ → List Value → Object
first_implementor c vs = record { class_of = plain_class c; fields = null ∷ vs }

module _ (W W' : World) (P : IsPlain W W') (𝓜 : More W) where
  -- A field of the source stands one place further in its implementor.
  pub place_plain : (n k i : ℕ) → is_declared W k ≡ true → place n (W.fields k) ≡ some i
      → place n (W'.fields (plain_class k)) ≡ some (suc i)
  unfolding place
  place_plain n k i dc e =
      rw (P.implementor_fields k dc, 𝓜.unreserved n k i e, place_map n (W.fields k), e)

  -- A field of the source, read and written in the implementor.
  pub get_step : (n k i m q : ℕ) (vs : List Value) (w : Value) (t : State) → is_declared W k ≡ true
      → nth t.heap m ≡ some (implementor_of k i vs) → place n (W.fields k) ≡ some q → nth vs q ≡ some w
      → do_get W' n (object m) t ≡ ok w t
  unfolding nth
  get_step n k i m q vs w t dc e f g = rw (e, place_plain n k q dc f, g)

  pub set_step : (n k i m q : ℕ) (vs : List Value) (w : Value) (t : State) → is_declared W k ≡ true
      → nth t.heap m ≡ some (implementor_of k i vs) → place n (W.fields k) ≡ some q
      → do_set W' n (object m) w t
      ≡ ok w (with_heap (replace t.heap m (implementor_of k i (replace vs q w))) t)
  set_step n k i m q vs w t dc e f = rw (e, place_plain n k q dc f)

module _ (W W' : World) (P : IsPlain W W') where
  -- From an Identity to its implementor, cast to a class that it has.
  pub implementor_step : (c k i m : ℕ) (vs : List Value) (t : State) → is_declared W k ≡ true
      → nth t.heap i ≡ some (identity_of m) → nth t.heap m ≡ some (implementor_of k i vs)
      → W.below k c ≡ true
      → bind (do_get W' imp_field (object i) t) (λ v t. do_cast W' (plain_class c) v t) ≡ ok (object m) t
  unfolding nth place
  implementor_step c k i m vs t dc e f g = rw (e, P.identity_fields, f, P.implementor_below k c dc, g)

  -- Back to the Identity.
  pub id_step : (k i m : ℕ) (vs : List Value) (t : State) → is_declared W k ≡ true
      → nth t.heap m ≡ some (implementor_of k i vs) → do_get W' id_field (object m) t ≡ ok (object i) t
  unfolding nth place
  id_step k i m vs t dc e = rw (e, P.implementor_fields k dc)

  put_id : (c : ℕ) (v w : Value) (vs : List Value) → is_declared W c ≡ true
      → with_field W' id_field w (record { class_of = plain_class c; fields = v ∷ vs })
      ≡ some (record { class_of = plain_class c; fields = w ∷ vs })
  unfolding place
  put_id c v w vs dc = rw (P.implementor_fields c dc)

  put_imp : (v w : Value) → with_field W' imp_field w (record { class_of = identity_class; fields = v ∷ [] })
      ≡ some (record { class_of = identity_class; fields = w ∷ [] })
  unfolding place
  put_imp v w = rw P.identity_fields

  new_identity : new_object W' identity_class ≡ first_identity
  new_identity = rw P.identity_fields

  new_implementor : (c : ℕ) → is_declared W c ≡ true
      → new_object W' (plain_class c) ≡ first_implementor c (initials (map plain_field (W.fields c)))
  new_implementor c dc = rw (P.implementor_fields c dc)

  -- A method of the source, called on the implementor.
  pub method_step : (k i x m : ℕ) (M : Method) (vs ws : List Value) (t : State)
      (invoke' : Method → State → Out Value)
      → is_declared W k ≡ true → nth t.heap x ≡ some (implementor_of k i ws) → W.method k m ≡ some M
      → length vs ≡ length M.parameters
      → do_call W' without_limits invoke' m (object x) vs t
      ≡ bind (invoke' (plain_form M) (with_frame (frame (some (object x)) vs) t))
      (λ w t'. ok w (with_frame t.frame t'))
  method_step k i x m M vs ws t invoke' dc e f l = rw (
    e,
    P.implementor_method k m M dc f,
    eq-eqb (length vs) (length (map plain_type M.parameters))
        (l ∙ sym (length-map M.parameters plain_type)),
  )

  module _ (invoke' : Method → State → Out Value) where
    abbrev run : Expr → State → Out Value
    run e t = eval W' without_limits invoke' e t

    abbrev run_all : Exprs → State → Out (List Value)
    run_all es t = eval_all W' without_limits invoke' es t

    -- The implementor of the Identity in a slot.
    pub implementor_run : (c k i m n : ℕ) (vs : List Value) (t : State) → is_declared W k ≡ true
        → nth t.frame.slots n ≡ some (object i) → nth t.heap i ≡ some (identity_of m)
        → nth t.heap m ≡ some (implementor_of k i vs) → W.below k c ≡ true
        → run (implementor c (suc n)) t ≡ ok (object m) (entered (entered (entered t)))
    unfolding eval
    implementor_run c k i m n vs t dc p e f g =
        rw p (implementor_step c k i m vs (entered (entered (entered t))) dc e f g)

    -- Null raises exception 1; a class that it has not raises exception 2.
    pub implementor_null : (c n : ℕ) (t : State) → nth t.frame.slots n ≡ some null
        → run (implementor c (suc n)) t ≡ stop (raised null_exception) (entered (entered (entered t)))
    unfolding eval
    implementor_null c n t p = rw p

    pub implementor_fails : (c k i m n : ℕ) (vs : List Value) (t : State) → is_declared W k ≡ true
        → nth t.frame.slots n ≡ some (object i) → nth t.heap i ≡ some (identity_of m)
        → nth t.heap m ≡ some (implementor_of k i vs) → W.below k c ≡ false
        → run (implementor c (suc n)) t ≡ stop (raised cast_exception) (entered (entered (entered t)))
    unfolding eval nth place
    implementor_fails c k i m n vs t dc p e f g =
        rw (p, e, P.identity_fields, f, P.implementor_below k c dc, g)

    -- Expressions run one after another, to the last value.
    pub data Runs : Exprs → State → Value → Value → State → Type 0 where
      runs_nil : {t : State} {v : Value} → Runs nil t v v t
      runs_cons : {e : Expr} {es : Exprs} {t t₁ t₂ : State} {u v w : Value} → run e t ≡ ok w t₁
          → Runs es t₁ w v t₂ → Runs (cons e es) t u v t₂

    runs : {es : Exprs} {t t₂ : State} {u v : Value} → Runs es t u v t₂
        → (vs : List Value) × (run_all es t ≡ ok vs t₂) × (last_value u vs ≡ v)
    unfolding eval
    runs runs_nil = ([], refl, refl)
    runs (runs_cons {w} e r) = let x = runs r in (w ∷ x.0, rw (e, x.1), x.2)

    -- A block gives the last value; one without locals leaves the slots as its expressions do.
    pub block_runs : (ts : List DeclaredType) {es : Exprs} (t t₂ : State) {v : Value}
        → Runs es (with_frame (opened t.frame (map initial ts)) (entered t)) null v t₂
        → run (block ts es) t ≡ ok v (with_frame (closed (length t.frame.slots) t₂.frame) t₂)
    unfolding eval
    block_runs ts t t₂ r = let x = runs r in rw (x.1, x.2)

    pub plain_block_runs : {es : Exprs} (t t₂ : State) {v : Value} → Runs es (entered t) null v t₂
        → length t₂.frame.slots ≡ length t.frame.slots → run (block [] es) t ≡ ok v t₂
    unfolding eval
    plain_block_runs t t₂ r e = let x = runs r in
        rw (append-nil t.frame.slots, x.1, x.2, ← e, take-length t₂.frame.slots)

    -- A slot read.
    pub run_read : (a : ℕ) (w : Value) (this : Option Value) (l : List Value) (h : List Object) (k r : ℕ)
        → nth l a ≡ some w → run (slot (suc a)) (state_of this l h k r) ≡ ok w (state_of this l h (suc k) r)
    unfolding eval
    run_read a w this l h k r e = rw e

    -- `this`: the `id` of the implementor there.
    pub run_this : (i m c : ℕ) (vs : List Value) (this : Option Value) (l : List Value) (h : List Object)
        (k r : ℕ)
        → is_declared W c ≡ true → this ≡ some (object m) → nth h m ≡ some (implementor_of c i vs)
        → run (get id_field (slot 0)) (state_of this l h k r) ≡ ok (object i) (state_of this l h (up 2 k) r)
    unfolding eval
    run_this i m c vs this l h k r dc e g =
        rw e (id_step c i m vs (state_of (some (object m)) l h (up 2 k) r) dc g)

    -- What an expression gives, put in a slot.
    pub run_assign : (a : ℕ) (e : Expr) (v : Value) (this : Option Value) (l l₂ : List Value)
        (h : List Object)
        (k k₂ r : ℕ) → run e (state_of this l h (suc k) r) ≡ ok v (state_of this l h k₂ r)
        → Written l a v l₂
        → run (assign (suc a) e) (state_of this l h k r) ≡ ok v (state_of this l₂ h k₂ r)
    unfolding eval
    run_assign a e v this l l₂ h k k₂ r p q = rw (p, q.there, q.is)

    -- A new object put in a slot.
    run-new : (a c : ℕ) (this : Option Value) (l l₂ : List Value) (h : List Object) (k r : ℕ) (n : Object)
        → new_object W' c ≡ n → Written l a (object (length h)) l₂
        → run (assign (suc a) (new c)) (state_of this l h k r)
        ≡ ok (object (length h)) (state_of this l₂ (h ++ (n ∷ [])) (up 2 k) r)
    unfolding eval
    run-new a c this l l₂ h k r n e f = rw (← e, f.there, ← f.is)

    -- A slot put in a field.
    run-put : (f a b x : ℕ) (w : Value) (o o' : Object) (this : Option Value) (l : List Value)
        (h h₂ : List Object)
        (k r : ℕ) → nth l a ≡ some (object x) → nth l b ≡ some w → nth h x ≡ some o
        → with_field W' f w o ≡ some o'
        → replace h x o' ≡ h₂
        → run (set f (slot (suc a)) (slot (suc b))) (state_of this l h k r)
        ≡ ok w (state_of this l h₂ (up 3 k) r)
    unfolding eval
    run-put f a b x w o o' this l h h₂ k r p q z e g = rw (p, q, z, e, g)

    -- A new implementor put in a slot; an Identity put in the `id`, an implementor in the `imp`.
    pub run_new_implementor : (a c : ℕ) (this : Option Value) (l l₂ : List Value) (h : List Object) (k r : ℕ)
        → is_declared W c ≡ true → Written l a (object (length h)) l₂
        → run (assign (suc a) (new (plain_class c))) (state_of this l h k r) ≡ ok (object (length h))
        (state_of this l₂ (h ++ (first_implementor c (initials (map plain_field (W.fields c))) ∷ []))
        (up 2 k) r)
    run_new_implementor a c this l l₂ h k r dc e =
        run-new a (plain_class c) this l l₂ h k r _ (new_implementor c dc) e

    pub run_put_id : (a b x i c : ℕ) (vs : List Value) (this : Option Value) (l : List Value)
        (h h₂ : List Object)
        (k r : ℕ) → is_declared W c ≡ true → nth l a ≡ some (object x) → nth l b ≡ some (object i)
        → nth h x ≡ some (first_implementor c vs) → replace h x (implementor_of c i vs) ≡ h₂
        → run (set id_field (slot (suc a)) (slot (suc b))) (state_of this l h k r)
        ≡ ok (object i) (state_of this l h₂ (up 3 k) r)
    run_put_id a b x i c vs this l h h₂ k r dc p q z g =
        run-put id_field a b x (object i) _ _ this l h h₂ k r p q z (put_id c null (object i) vs dc) g

    pub run_put_imp : (a b x m : ℕ) (v : Value) (this : Option Value) (l : List Value) (h h₂ : List Object)
        (k r : ℕ)
        → nth l a ≡ some (object x) → nth l b ≡ some (object m)
        → nth h x ≡ some (record { class_of = identity_class; fields = v ∷ [] })
        → replace h x (identity_of m) ≡ h₂
        → run (set imp_field (slot (suc a)) (slot (suc b))) (state_of this l h k r)
        ≡ ok (object m) (state_of this l h₂ (up 3 k) r)
    run_put_imp a b x m v this l h h₂ k r p q z g =
        run-put imp_field a b x (object m) _ _ this l h h₂ k r p q z (put_imp v (object m)) g

    -- W: a new Identity and its implementor.
    pub run_plain_new : (c : ℕ) (t : State) → is_declared W c ≡ true
        → (let h = t.heap in let i = length h in let m = length (h ++ (first_identity ∷ [])) in
        run (plain_new (suc (length t.frame.slots)) c) t ≡ ok (object i) (state_of t.frame.this
        (take (length t.frame.slots) (t.frame.slots ++ (object i ∷ object m ∷ [])))
        ((h ++ (identity_of m ∷ [])) ++ (implementor_of c i (initials (map plain_field (W.fields c))) ∷ []))
        (up 12 t.steps) t.changes))
    run_plain_new c t dc =
        let this = t.frame.this in let l = t.frame.slots in let h = t.heap in let k = suc t.steps in
        let r = t.changes in
        let i = length h in let m = length (h ++ (first_identity ∷ [])) in let n = length l in
        let vs = initials (map plain_field (W.fields c)) in
        let B : Object = first_implementor c vs in let B' : Object = implementor_of c i vs in
        let l₂ = l ++ (object i ∷ object m ∷ []) in let h₁ = h ++ (first_identity ∷ []) in
        let at₀ : nth l₂ n ≡ some (object i) = nth_up l _ 0 ∙ nth₀ _ _ in
        let at₁ : nth l₂ (suc n) ≡ some (object m) = nth_up l _ 1 ∙ nth₁ _ _ _ in
        block_runs (class identity_class ∷ class (plain_class c) ∷ []) t _
        (runs_cons (run-new n identity_class this (l ++ (null ∷ null ∷ [])) (l ++ (object i ∷ null ∷ [])) h k
        r
        first_identity new_identity (written l _ 0 _ (object i) (nth₀ _ _)))
        (runs_cons (run_new_implementor (suc n) c this (l ++ (object i ∷ null ∷ [])) l₂ h₁ (up 2 k) r dc
        (written l _ 1 _ (object m) (nth₁ _ _ _)))
        (runs_cons (run_put_id (suc n) n m i c vs this l₂ (h₁ ++ (B ∷ [])) (h₁ ++ (B' ∷ [])) (up 4 k) r dc at₁
        at₀
        (nth_last h₁ B) (set_last h₁ B B'))
        (runs_cons (run_put_imp n (suc n) i m null this l₂ (h₁ ++ (B' ∷ []))
        ((h ++ (identity_of m ∷ [])) ++ (B' ∷ [])) (up 7 k) r at₀ at₁
        (nth_append h₁ _ i first_identity (nth_last h first_identity))
        (set-append_left h₁ (B' ∷ []) i (identity_of m) (omega (arith, length-append h (first_identity ∷ [])))
        ∙ ap (λ x. x ++ (B' ∷ [])) (set_last h first_identity (identity_of m))))
        (runs_cons (run_read n (object i) this l₂ _ (up 10 k) r at₀) runs_nil)))))

    -- One list of expressions after another.
    pub run_append : (es fs : Exprs) (t : State) → run_all (es ⊕ fs) t
        ≡ bind (run_all es t) (λ vs t. bind (run_all fs t) (λ ws t. ok (vs ++ ws) t))
    unfolding eval ◌⊕◌
    run_append nil fs t = sym (same (run_all fs t))
      where
        same : (x : Out (List Value)) → bind x (λ ws t. ok ([] ++ ws) t) ≡ x
        same (ok v t) = refl
        same (stop v t) = refl
    run_append (cons e es) fs t = go (run e t) (λ t. run_append es fs t)
      where
        rest : (v : Value) (x : Out (List Value))
            → bind (bind x (λ vs t. bind (run_all fs t) (λ ws t. ok (vs ++ ws) t))) (λ vs t. ok (v ∷ vs) t)
            ≡ bind (bind x (λ vs t. ok (v ∷ vs) t)) (λ vs t. bind (run_all fs t) (λ ws t. ok (vs ++ ws) t))
        rest v (stop x t) = refl
        rest v (ok vs t) = last (run_all fs t)
          where
            last : (x : Out (List Value)) → bind (bind x (λ ws t. ok (vs ++ ws) t)) (λ vs t. ok (v ∷ vs) t)
                ≡ bind x (λ ws t. ok ((v ∷ vs) ++ ws) t)
            last (ok a t) = refl
            last (stop a t) = refl

        go : (x : Out Value)
            → ((t : State) → run_all (es ⊕ fs) t
            ≡ bind (run_all es t) (λ vs t. bind (run_all fs t) (λ ws t. ok (vs ++ ws) t)))
            → bind x (λ v t. bind (run_all (es ⊕ fs) t) (λ vs t. ok (v ∷ vs) t))
            ≡ bind (bind x (λ v t. bind (run_all es t) (λ vs t. ok (v ∷ vs) t)))
            (λ vs t. bind (run_all fs t) (λ ws t. ok (vs ++ ws) t))
        go (stop a t) ih = refl
        go (ok v t) ih = rw (ih t) (rest v (run_all es t))

    -- Slots read one after another, from place p on.
    pub run_reads : (ts : List DeclaredType) (vs : List Value) (p : ℕ) (this : Option Value) (l : List Value)
        (h : List Object) (k r : ℕ) → length vs ≡ length ts
        → ((q : ℕ) (w : Value) → nth vs q ≡ some w → nth l (up q p) ≡ some w)
        → run_all (reads (suc p) ts) (state_of this l h k r) ≡ ok vs (state_of this l h (past ts k) r)
    unfolding eval reads nth
    run_reads [] [] p this l h k r e f = refl
    run_reads [] (v ∷ vs) p this l h k r e f = absurd (omega (arith, e))
    run_reads (u ∷ ts) [] p this l h k r e f = absurd (omega (arith, e))
    run_reads (u ∷ ts) (v ∷ vs) p this l h k r e f = rw (
      f 0 v (nth₀ v vs),
      run_reads ts vs (suc p) this l h (suc k) r (suc_inj e) (λ q w z. rw (up_suc q p) (f (suc q) w z)),
    )
