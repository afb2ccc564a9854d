-- Type soundness of each operation: where heap and values fit, it never gets stuck, and they fit afterwards.
use mathlib.Core.Path.{◌≡◌, refl, sym, ap, ◌∙◌}
use Prim.Native.Nat.{ℕ, zero, suc, ◌+◌}
use mathlib.Core.Option.{Option, some}
use mathlib.Core.Bool.{Bool, true, false, ◌&&◌, cond}
use mathlib.Core.List.{List, [], ◌∷◌, ◌++◌, map}
use lib.ListN.{length, set as replace, length-append, length-map}
use lib.Seq.{take-append_seam, drop-append_seam}
use lib.Dec.{eqb}
use borrow.Author.Tests.{eqb-true, le-leb, eq-eqb}
use native.Mathlib.Omega.{arith}
use Rattle.language.specs.Lists.{nth, bind_option, bind_option_inv, map_option, choice, Never, inj, All2}
use Rattle.language.specs.Lists.{a_nil, a_cons, all2_at, all2_set, all2_set_right, all2_append, all2_take}
use Rattle.language.specs.Lists.{all2_length, all2_mono_at, nth_set_same, nth_append, nth_last}
use Rattle.language.specs.Results.{ok, stop, Holds, holds_ok, holds_stop, holds_bind, holds_if}
use Rattle.language.specs.Frames.{Frame, frame, at_slot, with_slot}
use Rattle.language.specs.Tree.{DeclaredType, bool, class, ExprType, known, Field}
use Rattle.language.specs.World.{Method, World, place, field_type}
use Rattle.language.specs.Effects.{no_effect, effect_of}
use Rattle.language.specs.Environment.{Slot, Environment, fresh_slot, method_environment}
use Rattle.language.specs.Typing.{not_bool, fits, all_fit}
use Rattle.language.specs.Typing.{apply_all, can_change}
use Rattle.language.specs.State.{Value, null, object, Object, State, raised, Out, with_frame, truth}
use Rattle.language.specs.Evaluation.{Limits, need_reference, keeps_fields}
use Rattle.language.specs.Evaluation.{need_truth, new_object, changed, do_get, do_set, do_cast, do_change}
use Rattle.language.specs.Evaluation.{do_new, do_call}
use Rattle.language.proofs.Booleans.{false≢, and_inv}
use Rattle.theory.proofs.typing.EffectLaws.{has_one}
use Rattle.theory.proofs.soundness.Fitting.{Fits, null_fits, truth_fits, object_fits, FitsField}
use Rattle.theory.proofs.soundness.Fitting.{FitsSlot}
use Rattle.theory.proofs.soundness.Fitting.{FitsThis, this_none}
use Rattle.theory.proofs.soundness.Fitting.{this_some, FitsFrame, Laws, HeapOk, same, moved, Evolves}
use Rattle.theory.proofs.soundness.Fitting.{Fine}
use Rattle.theory.proofs.soundness.Fitting.{fine_null, fine_cast, fine_full, Good, evolve_refl}
use Rattle.theory.proofs.soundness.Fitting.{evolve_within}
use Rattle.theory.proofs.soundness.Fitting.{evolve_set, evolve_append, initials_fit, fits_evolves}
use Rattle.theory.proofs.soundness.Fitting.{fits_sub}
use Rattle.theory.proofs.soundness.Fitting.{fits_grow, heap_set, heap_append, frame_evolves}

pub place_append : (n : ℕ) (fs gs : List Field) (i : ℕ) → place n fs ≡ some i → place n (fs ++ gs) ≡ some i
unfolding place
place_append n [] gs i e = absurd (Never e)
place_append n (f ∷ fs) gs i e = go (λ k q. place_append n fs gs k q) (eqb f.name n) e
  where
    go : ((k : ℕ) → place n fs ≡ some k → place n (fs ++ gs) ≡ some k) → (b : Bool)
        → ◌≡◌ {A = Option ℕ} (choice b (λ _. some 0) (λ _. bind_option (place n fs) (λ i. some (suc i))))
        (some i)
        → ◌≡◌ {A = Option ℕ}
        (choice b (λ _. some 0) (λ _. bind_option (place n (fs ++ gs)) (λ i. some (suc i)))) (some i)
    go ih true e = e
    go ih false e = bind_option_inv _ _ e λ k q e. rw (ih k q) e

-- a field found by its name
pub record Found (fs : List Field) (n : ℕ) (t : DeclaredType) : Type 0 where
  pub i : ℕ
  pub fld : Field
  pub at : place n fs ≡ some i
  pub is : nth fs i ≡ some fld
  pub ty : fld.type ≡ t

found : (n : ℕ) (fs : List Field) (t : DeclaredType) → field_type n fs ≡ some t → Found fs n t
unfolding field_type
found n fs t e = bind_option_inv _ _ e λ i p e. bind_option_inv _ _ e λ f q e.
    record { i = i; fld = f; at = p; is = q; ty = inj e }

-- what an operation leaves, the slots not being touched
pub record Left (W : World) (φ : ℕ) (t : ExprType) (s : State) (v : Value) (s' : State) : Type 0 where
  pub heap_ok : HeapOk W s'.heap
  pub evolves : Evolves W φ s.heap s'.heap
  pub frame_same : s'.frame ≡ s.frame
  pub value_ok : Fits W s'.heap v t

-- what stands in a slot
pub record At (W : World) (h : List Object) (f : Frame Value) (k : ℕ) (s : Slot) : Type 0 where
  pub v : Value
  pub is : at_slot f k ≡ some v
  pub fit : FitsSlot W h v s

-- what a call of a method does that a lookup finds
pub record Called (W : World) (M : Method) (h : List Object) (v : Value) (s : State) : Type 0 where
  pub heap_ok : HeapOk W s.heap
  pub evolves : Evolves W M.effect h s.heap
  pub value_ok : Fits W s.heap v (known M.result)

pub record CallOk (W : World) (invoke : Method → State → Out Value) : Type 0 where
  pub good : (c m : ℕ) (M : Method) → W.method c m ≡ some M → (s : State) → HeapOk W s.heap
      → FitsFrame W s.heap s.frame (method_environment M.owner M.parameters)
      → Holds (Called W M s.heap) (Fine W) (invoke M s)

-- What the test of R gives.
pub can_inv : (W : World) (c d : ℕ) → can_change W c d ≡ true
    → (W.changeable c ≡ true) × (W.root c ≡ W.root d)
unfolding can_change
can_inv W c d e = let p = and_inv (W.changeable c) (W.changeable d && eqb (W.root c) (W.root d)) e in
    let q = and_inv (W.changeable d) (eqb (W.root c) (W.root d)) p.1 in (p.0, eqb-true _ _ q.1)

module _ {W : World} where
  this_at : {h : List Object} {v : Option Value} {t : Option Slot} (s : Slot) → FitsThis W h v t → t ≡ some s
      → (w : Value) × (v ≡ some w) × FitsSlot W h w s
  this_at s this_none e = absurd (Never e)
  this_at s (this_some f) e = (_, refl, rw (inj e) at f)

  pub at : {h : List Object} (f : Frame Value) (γ : Environment) → FitsFrame W h f γ → (k : ℕ) (s : Slot)
      → at_slot γ k ≡ some s → At W h f k s
  at f γ F zero s e = let x = this_at s F.this e in record { v = x.0; is = x.1; fit = x.2 }
  at f γ F (suc k) s e = let x = all2_at F.slots k s e in record { v = x.0; is = x.1; fit = x.2 }

  this_set : {h : List Object} {v : Option Value} {t : Option Slot} (w : Value) (s : Slot) → FitsThis W h v t
      → v ≡ some w → FitsSlot W h w s → FitsThis W h v (map_option (λ b. s) t)
  this_set w s this_none e f = absurd (Never e)
  this_set w s (this_some g) e f = this_some (rw (← inj e) at f)

  -- another type for a slot whose value fits it
  pub retyped : {h : List Object} (f : Frame Value) (γ : Environment) → FitsFrame W h f γ
      → (k : ℕ) (w : Value) (s : Slot) → at_slot f k ≡ some w → FitsSlot W h w s
      → FitsFrame W h f (with_slot γ k s)
  retyped f γ F zero w s e g = record { this = this_set w s F.this e g; slots = F.slots }
  retyped f γ F (suc k) w s e g = record { this = F.this; slots = all2_set_right F.slots k w s e g }

  pub cast_ok : {Γ : Environment} {φ : ℕ} {t : ExprType} {h : List Object} (c : ℕ) (v : Value) (s : State)
      → not_bool t ≡ true → Good W Γ φ t h v s
      → Holds (Good W Γ φ (known (class c)) h) (Fine W) (do_cast W c v s)
  cast_ok {Γ} {φ} {t} {h} c v s n g = go v t n g.value_ok
    where
      fin : (w : Value) → Fits W s.heap w (known (class c)) → Good W Γ φ (known (class c)) h w s
      fin w f = record { heap_ok = g.heap_ok; evolves = g.evolves; slots_ok = g.slots_ok; value_ok = f }

      two : (j : ℕ) (o : Object) → nth s.heap j ≡ some o → (b : Bool) → W.below o.class_of c ≡ b
          → Holds (Good W Γ φ (known (class c)) h) (Fine W) (cond b (ok (object j) s) (stop (raised 2) s))
      two j o p true e = holds_ok (fin (object j) (object_fits o p e))
      two j o p false e = holds_stop (fine_cast g.heap_ok)

      go : (v : Value) (t : ExprType) → not_bool t ≡ true → Fits W s.heap v t
          → Holds (Good W Γ φ (known (class c)) h) (Fine W) (do_cast W c v s)
      go v t n (null_fits z) = holds_ok (fin null (null_fits refl))
      go v t n truth_fits = false≢ n
      go (object j) t n (object_fits o p q) = rw p (two j o p (W.below o.class_of c) refl)

  pub null_ok : {P : Value → State → Type 0} {v : Value} {t : ExprType} {h : List Object} (s : State)
      → not_bool t ≡ true → Fits W h v t → ((b : Bool) → P (truth b) s)
      → Holds P (Fine W) (need_reference v s λ b. ok (truth b) s)
  null_ok s n (null_fits z) f = holds_ok (f true)
  null_ok s n truth_fits f = false≢ n
  null_ok s n (object_fits o p q) f = holds_ok (f false)

  pub if_ok : {P : Value → State → Type 0} {v : Value} {h : List Object} (s : State) {x y : Out Value}
      → Fits W h v (known bool) → Holds P (Fine W) x → Holds P (Fine W) y
      → Holds P (Fine W) (need_truth v s λ t. choice t (λ _. x) (λ _. y))
  if_ok s (null_fits z) a b = false≢ z
  if_ok s (truth_fits {b = true}) a b = a
  if_ok s (truth_fits {b = false}) a b = b

module _ {W : World} (laws : Laws W) where
  open laws use {sub_refl, sub_root, fickle_root, prefix, solid, override, owned}

  pub inherit : (c d n : ℕ) (t : DeclaredType) → W.below c d ≡ true → field_type n (W.fields d) ≡ some t
      → Found (W.fields c) n t
  inherit c d n t s e = let p = prefix c d s in let x = found n (W.fields d) t e in
      rw p.1 (record {
        i = x.i;
        fld = x.fld;
        at = place_append n _ p.0 _ x.at;
        is = nth_append _
            p.0 _ _ x.is;
        ty = x.ty;
      })

  pub get_ok : (n c : ℕ) (t : DeclaredType) (v : Value) (s : State) → HeapOk W s.heap
      → Fits W s.heap v (known (class c)) → field_type n (W.fields c) ≡ some t
      → Holds (λ w s'. (s' ≡ s) × Fits W s.heap w (known t)) (Fine W) (do_get W n v s)
  get_ok n c t v s H (null_fits z) e = holds_stop (fine_null H)
  get_ok n c t v s H (object_fits o p q) e =
      let x = inherit o.class_of c n t q e in let y = all2_at (H.each _ o p) x.i x.fld x.is in
      rw (p, x.at, y.1) (holds_ok (refl, rw x.ty at y.2))

  pub set_ok : (n c : ℕ) (t : ExprType) (u : DeclaredType) (v w : Value) (s : State) → HeapOk W s.heap
      → Fits W s.heap v (known (class c)) → field_type n (W.fields c) ≡ some u
      → Fits W s.heap w t → fits W t u ≡ true → Holds (Left W no_effect t s) (Fine W) (do_set W n v w s)
  set_ok n c t u v w s H (null_fits z) e f g = holds_stop (fine_null H)
  set_ok n c t u (object j) w s H (object_fits o p q) e f g =
      let x = inherit o.class_of c n u q e in
      let n' : Object = record { class_of = o.class_of; fields = replace o.fields x.i w } in
      let ev : Evolves W no_effect s.heap (replace s.heap j n') =
      evolve_set s.heap j o n' p (same refl) in
      let old : All2 (FitsField W (replace s.heap j n')) o.fields (W.fields o.class_of) =
      all2_mono_at (H.each j o p) (λ i a b z r. fits_grow laws ev r) in
      let neu = all2_set old x.i w x.fld x.is
      (rw x.ty (fits_grow laws ev (fits_sub laws u f g))) in
      rw (p, x.at) (holds_ok (record {
        heap_ok = heap_set laws s.heap j n' ev H neu;
        evolves = ev;
        frame_same =
            refl;
        value_ok = fits_grow laws ev f;
      }))

  pub new_ok : (L : Limits) (c : ℕ) (s : State) → HeapOk W s.heap
      → Holds (Left W no_effect (known (class c)) s) (Fine W) (do_new W L c s)
  new_ok L c s H = holds_if (L.full_at (length s.heap)) (holds_stop (fine_full H)) (holds_ok (record {
    heap_ok = heap_append laws s.heap (new_object W c) H (initials_fit _ _);
    evolves = evolve_append s.heap (new_object W c);
    frame_same = refl;
    value_ok = object_fits (new_object W c) (nth_last s.heap (new_object W c)) (sub_refl c);
  }))

  -- the root's fields of an object, and first values for the others of d
  changed_ok : (h h' : List Object) (d : ℕ) (o : Object) → W.root o.class_of ≡ W.root d
      → All2 (FitsField W h) o.fields (W.fields o.class_of)
      → Evolves W (effect_of (W.root d)) h h' → All2 (FitsField W h') (changed W d o).fields (W.fields d)
  changed_ok h h' d o r a ev =
      let p = prefix o.class_of (W.root d) (rw r at (sub_root o.class_of)) in
      let q = prefix d (W.root d) (sub_root d) in
      let b : All2 (FitsField W h') o.fields (W.fields (W.root d) ++ p.0)
      = rw p.1 at (all2_mono_at a
      (λ i v f z x. rw (solid o.class_of i f z _) at (fits_evolves laws ev x))) in
      rw (r, q.1, drop-append_seam)
      (all2_append (rw take-append_seam at (all2_take (length (W.fields (W.root d))) b))
      (initials_fit h' q.0))

  -- an object has the fields of its class's root, and so has a class of the same root
  pub root_fields : (h : List Object) (o : Object) (d : ℕ) → W.root o.class_of ≡ W.root d
      → All2 (FitsField W h) o.fields (W.fields o.class_of) → keeps_fields W d o ≡ true
  root_fields h o d r a =
      let c = W.root o.class_of in
      let p = prefix o.class_of c (sub_root o.class_of) in
      let q = prefix d c (rw (← r) at (sub_root d)) in
      let l : length o.fields ≡ length (W.fields c) + length p.0
      = all2_length a ∙ ap length p.1 ∙ length-append (W.fields c) p.0 in
      let m : length (W.fields d) ≡ length (W.fields c) + length q.0
      = ap length q.1 ∙ length-append (W.fields c) q.0 in
      rw (
        le-leb (length (W.fields c)) (length o.fields) (omega (arith, l)),
        le-leb (length (W.fields c)) (length (W.fields d)) (omega (arith, m)),
      )

  pub change_ok : (c d : ℕ) (v : Value) (s : State) → HeapOk W s.heap
      → Fits W s.heap v (known (class c))
      → can_change W c d ≡ true
      → Holds (λ w s'. (w ≡ v) × Left W (effect_of (W.root d)) (known (class d)) s w s') (Fine W)
      (do_change W d v s)
  change_ok c d v s H (null_fits z) e =
      holds_ok (
        refl,
        record {
          heap_ok = H;
          evolves = evolve_refl s.heap;
          frame_same = refl;
          value_ok = null_fits
              refl;
        },
      )
  change_ok c d (object j) s H (object_fits o p q) e =
      let g = can_inv W c d e in
      let r : W.root o.class_of ≡ W.root d = fickle_root o.class_of c q g.0 ∙ g.1 in
      let ev : Evolves W (effect_of (W.root d)) s.heap (replace s.heap j (changed W d o)) =
      evolve_set s.heap j o (changed W d o) p (moved (rw r (has_one (W.root d))) (sym r)) in
      rw (p, root_fields s.heap o d r (H.each j o p)) (holds_ok (
        refl,
        record {
          heap_ok = heap_set laws s.heap j (changed W d o) ev H
              (changed_ok s.heap _ d o r (H.each j o p) ev);
          evolves = ev;
          frame_same = refl;
          value_ok = object_fits (changed W d o) (nth_set_same s.heap j _ o p) (sub_refl d);
        },
      ))

  pub fits_all : (h : List Object) (vs : List Value) (ts : List ExprType) (us : List DeclaredType)
      → All2 (Fits W h) vs ts → all_fit W ts us ≡ true → All2 (FitsSlot W h) vs (map fresh_slot us)
  unfolding all_fit
  fits_all h [] [] [] a_nil e = a_nil
  fits_all h [] [] (u ∷ us) a_nil e = false≢ e
  fits_all h (v ∷ vs) (t ∷ ts) [] (a_cons f fs) e = false≢ e
  fits_all h (v ∷ vs) (t ∷ ts) (u ∷ us) (a_cons f fs) e = let p = and_inv (fits W t u) (all_fit W ts us) e in
      a_cons (fits_sub laws u f p.0) (fits_all h vs ts us fs p.1)
  fits_all h [] (t ∷ ts) us x4 e = elim x4 [ ]
  fits_all h (v ∷ vs) [] us x4 e = elim x4 [ ]

  -- a checked call has as many arguments as the method that is found has parameters
  pub arguments_counted : {h : List Object} {vs : List Value} (us : List DeclaredType)
      {ws : List DeclaredType} → ws ≡ us
      → All2 (FitsSlot W h) vs (map fresh_slot us) → eqb (length vs) (length ws) ≡ true
  arguments_counted us e a = eq-eqb _ _ (all2_length a ∙ length-map us fresh_slot ∙ ap length (sym e))

  pub call_ok : (L : Limits) (invoke : Method → State → Out Value) → CallOk W invoke
      → (m c : ℕ) (M : Method) (v : Value) (vs : List Value) (ts : List ExprType) (Γ : Environment)
      (s : State)
      → HeapOk W s.heap → FitsFrame W s.heap s.frame Γ → Fits W s.heap v (known (class c))
      → All2 (Fits W s.heap) vs ts
      → W.method c m ≡ some M → all_fit W ts M.parameters ≡ true
      → Holds (Good W (apply_all W M.effect Γ) M.effect (known M.result) s.heap) (Fine W)
      (do_call W L invoke m v vs s)
  call_ok L invoke C m c M v vs ts Γ s H S (null_fits z) A e f = holds_stop (fine_null H)
  call_ok L invoke C m c M (object j) vs ts Γ s H S (object_fits o p q) A e f =
      let x = override o.class_of c m M q e in let M' = x.0 in
      let fa = fits_all _ vs ts M.parameters A f in
      rw (p, x.1, arguments_counted M.parameters x.2 fa) (holds_bind
      (C.good _ m M' x.1 (with_frame (frame (some (object j)) vs) s) H
      (record {
        this = this_some (object_fits o p (owned _ _ _ x.1));
        slots = rw x.2 fa;
      }))
      λ w s' g. let ev = evolve_within x.4 g.evolves in
      holds_ok (record {
        heap_ok = g.heap_ok;
        evolves = ev;
        slots_ok = frame_evolves laws ev S;
        value_ok = rw x.3 at g.value_ok;
      }))
