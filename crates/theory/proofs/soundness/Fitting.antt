-- When values, slots and heaps fit their types, what the heading rules give (`Laws`), and how fitting lasts
-- while the classes of objects change within an effect.
use mathlib.Core.Path.{◌≡◌, refl, sym, ap, ◌∙◌}
use Prim.Native.Nat.{ℕ}
use mathlib.Core.Option.{Option, none, some}
use mathlib.Core.Bool.{Bool, true, false, cond}
use mathlib.Core.Logic.{◌⊎◌, inl, inr, ◌≢◌}
use mathlib.Core.List.{List, [], ◌∷◌, ◌++◌, map}
use lib.ListN.{length, set as replace}
use native.Mathlib.Decide.{ℕ_discrete}
use Rattle.language.specs.Limits.{null_exception, cast_exception}
use Rattle.language.specs.Lists.{nth, map_option, inj, All2, a_nil, a_cons, all2_map, all2_mono, all2_mono_at}
use Rattle.language.specs.Lists.{nth_set_same, nth_set_other, nth_append, nth_append_one, nth_set}
use Rattle.language.specs.Frames.{Frame}
use Rattle.language.specs.Tree.{literal_true, literal_false, literal_null}
use Rattle.language.specs.Tree.{DeclaredType, bool, class, ExprType, known, null_type, Field, Literal, Expr}
use Rattle.language.specs.World.{Method, World}
use Rattle.language.specs.Effects.{no_effect, member, join, within, apply_class, apply, apply_expr}
use Rattle.language.specs.Environment.{Slot, Environment, fresh_slot, method_environment}
use Rattle.language.specs.Typing.{not_bool, fits}
use Rattle.language.specs.Typing.{apply_slot, apply_all}
use Rattle.theory.specs.ComputedRules.{HasType}
use Rattle.language.specs.State.{Value, null, truth, object, Object, State, Stop, raised, deep, spent}
use Rattle.language.specs.State.{full, initial, initials, literal_value}
use Rattle.language.proofs.Effects.{member_none}
use Rattle.language.proofs.Booleans.{false≢}
use Rattle.theory.proofs.typing.EffectLaws.{has_left, has_right, has_within, expr_kept}
use Rattle.language.specs.Tree.{literal_type}

-- a value fits a type
pub data Fits (W : World) (h : List Object) : Value → ExprType → Type 0 where
  null_fits : {t : ExprType} → not_bool t ≡ true → Fits W h null t
  truth_fits : {b : Bool} → Fits W h (truth b) (known bool)
  object_fits : {j c : ℕ} (o : Object) → nth h j ≡ some o → W.below o.class_of c ≡ true
      → Fits W h (object j) (known (class c))

abbrev pub FitsField : World → List Object → Value → Field → Type 0
FitsField W h v f = Fits W h v (known f.type)

abbrev pub FitsSlot : World → List Object → Value → Slot → Type 0
FitsSlot W h v s = Fits W h v (known s.current)

-- slots fit their types, `this` apart
pub data FitsThis (W : World) (h : List Object) : Option Value → Option Slot → Type 0 where
  this_none : FitsThis W h none none
  this_some : {v : Value} {s : Slot} → FitsSlot W h v s → FitsThis W h (some v) (some s)

pub record FitsFrame (W : World) (h : List Object) (f : Frame Value) (γ : Environment) : Type 0 where
  pub this : FitsThis W h f.this γ.this
  pub slots : All2 (FitsSlot W h) f.slots γ.slots

-- The body of a method is typed as its heading says; bodies go by the number of their method.
pub record BodyOk (W : World) (bodies : ℕ → Expr) (M : Method) : Type 0 where
  pub ty : ExprType
  pub env : Environment
  pub eff : ℕ
  pub types : HasType W (method_environment M.owner M.parameters) (bodies M.number) ty env eff
  pub fits_ret : fits W ty M.result ≡ true
  pub inside : within eff M.effect ≡ true

-- what the checks of the headings give
pub record Laws (W : World) : Type 0 where
  pub sub_refl : (c : ℕ) → W.below c c ≡ true
  pub sub_trans : (c d e : ℕ) → W.below c d ≡ true → W.below d e ≡ true → W.below c e ≡ true
  pub sub_root : (c : ℕ) → W.below c (W.root c) ≡ true
  pub up : (c d : ℕ) → W.below c d ≡ true
      → (W.root d ≡ W.root c) ⊎ ((W.root d ≡ d) × (W.below (W.root c) d ≡ true))
  pub fickle_root : (c d : ℕ) → W.below c d ≡ true → W.changeable d ≡ true → W.root c ≡ W.root d
  pub prefix : (c d : ℕ) → W.below c d ≡ true → (fs : List Field) × (W.fields c ≡ W.fields d ++ fs)
  pub solid : (c i : ℕ) (f : Field) → nth (W.fields c) i ≡ some f → (φ : ℕ) → apply W φ f.type ≡ f.type
  pub lub_left : (c d : ℕ) → W.below c (W.nearest c d) ≡ true
  pub lub_right : (c d : ℕ) → W.below d (W.nearest c d) ≡ true
  pub override : (c d m : ℕ) (M : Method) → W.below c d ≡ true → W.method d m ≡ some M
      → (M' : Method) × (W.method c m ≡ some M') × (M'.parameters ≡ M.parameters)
      × (M'.result ≡ M.result) × (within M'.effect M.effect ≡ true)
  pub owned : (c m : ℕ) (M : Method) → W.method c m ≡ some M → W.below c M.owner ≡ true

-- So is the body of every method that a lookup finds.
pub record BodiesOk (W : World) (bodies : ℕ → Expr) : Type 0 where
  pub each : (c m : ℕ) (M : Method) → W.method c m ≡ some M → BodyOk W bodies M

pub record HeapOk (W : World) (h : List Object) : Type 0 where
  pub each : (j : ℕ) (o : Object) → nth h j ≡ some o
      → All2 (FitsField W h) o.fields (W.fields o.class_of)

-- the class of an object before and after a computation of an effect
pub data Shift (W : World) (φ : ℕ) (c c' : ℕ) : Type 0 where
  same : c' ≡ c → Shift W φ c c'
  moved : member φ (W.root c) ≡ true → W.root c' ≡ W.root c → Shift W φ c c'

-- an object after a computation of an effect
pub record Moved (W : World) (φ : ℕ) (h' : List Object) (j : ℕ) (o : Object) : Type 0 where
  pub now : Object
  pub there : nth h' j ≡ some now
  pub how : Shift W φ o.class_of now.class_of

pub record Evolves (W : World) (φ : ℕ) (h h' : List Object) : Type 0 where
  pub to : (j : ℕ) (o : Object) → nth h j ≡ some o → Moved W φ h' j o

-- a stop that an accepted expression may come to, with a heap that fits its classes then
pub data Fine (W : World) : Stop → State → Type 0 where
  fine_null : {s : State} → HeapOk W s.heap → Fine W (raised null_exception) s
  fine_cast : {s : State} → HeapOk W s.heap → Fine W (raised cast_exception) s
  fine_deep : {s : State} → HeapOk W s.heap → Fine W deep s
  fine_spent : {s : State} → HeapOk W s.heap → Fine W spent s
  fine_full : {s : State} → HeapOk W s.heap → Fine W full s

pub record Good (W : World) (Γ : Environment) (φ : ℕ) (t : ExprType) (h : List Object) (v : Value)
    (s : State) : Type 0 where
  pub heap_ok : HeapOk W s.heap
  pub evolves : Evolves W φ h s.heap
  pub slots_ok : FitsFrame W s.heap s.frame Γ
  pub value_ok : Fits W s.heap v t

pub record Goods (W : World) (Γ : Environment) (φ : ℕ) (ts : List ExprType) (h : List Object)
    (vs : List Value) (s : State) : Type 0 where
  pub heap_ok : HeapOk W s.heap
  pub evolves : Evolves W φ h s.heap
  pub slots_ok : FitsFrame W s.heap s.frame Γ
  pub value_ok : All2 (Fits W s.heap) vs ts

module _ {W : World} where
  pub evolve_refl : {φ : ℕ} (h : List Object) → Evolves W φ h h
  evolve_refl h = record { to = λ j o e. record { now = o; there = e; how = same refl } }

  shift_trans : (φ ψ : ℕ) {a b c : ℕ} → Shift W φ a b → Shift W ψ b c → Shift W (join φ ψ) a c
  shift_trans φ ψ (same p) (same q) = same (q ∙ p)
  shift_trans φ ψ (same p) (moved h q) = moved (has_right φ ψ _ (rw p at h)) (rw p at q)
  shift_trans φ ψ (moved h p) (same q) = moved (has_left φ ψ _ h) (ap W.root q ∙ p)
  shift_trans φ ψ (moved h p) (moved k q) = moved (has_left φ ψ _ h) (q ∙ p)

  pub evolve_trans : {φ ψ : ℕ} {h h' h'' : List Object} → Evolves W φ h h' → Evolves W ψ h' h''
      → Evolves W (join φ ψ) h h''
  evolve_trans {φ} {ψ} f g = record {
    to = λ j o e.
        let a = f.to j o e in let b = g.to j a.now a.there in
        record { now = b.now; there = b.there; how = shift_trans φ ψ a.how b.how };
  }

  shift_within : {φ ψ : ℕ} {a b : ℕ} → within φ ψ ≡ true → Shift W φ a b → Shift W ψ a b
  shift_within i (same p) = same p
  shift_within {φ} {ψ} i (moved h p) = moved (has_within φ ψ _ i h) p

  pub evolve_within : {φ ψ : ℕ} {h h' : List Object} → within φ ψ ≡ true → Evolves W φ h h' → Evolves W ψ h h'
  evolve_within i f = record {
    to = λ j o e. let a = f.to j o e in
        record { now = a.now; there = a.there; how = shift_within i a.how };
  }

  shift_none : {a b : ℕ} → Shift W no_effect a b → b ≡ a
  shift_none (same p) = p
  shift_none {a} (moved h p) = false≢ (sym (member_none (W.root a)) ∙ h)

  pub evolve_then : {φ : ℕ} {h h' h'' : List Object} → Evolves W φ h h' → Evolves W no_effect h' h''
      → Evolves W φ h h''
  evolve_then f g = record {
    to = λ j o e. let a = f.to j o e in let b = g.to j a.now a.there in
        record { now = b.now; there = b.there; how = rw (shift_none b.how) a.how };
  }

  shift_left : {φ : ℕ} (ψ : ℕ) {a b : ℕ} → Shift W φ a b → Shift W (join φ ψ) a b
  shift_left ψ (same p) = same p
  shift_left {φ} ψ (moved h p) = moved (has_left φ ψ _ h) p

  shift_right : (φ : ℕ) {ψ : ℕ} {a b : ℕ} → Shift W ψ a b → Shift W (join φ ψ) a b
  shift_right φ (same p) = same p
  shift_right φ {ψ} (moved h p) = moved (has_right φ ψ _ h) p

  pub evolve_left : {φ : ℕ} (ψ : ℕ) {h h' : List Object} → Evolves W φ h h' → Evolves W (join φ ψ) h h'
  evolve_left ψ f = record {
    to = λ j o e. let a = f.to j o e in
        record { now = a.now; there = a.there; how = shift_left ψ a.how };
  }

  pub evolve_right : (φ : ℕ) {ψ : ℕ} {h h' : List Object} → Evolves W ψ h h' → Evolves W (join φ ψ) h h'
  evolve_right φ f = record {
    to = λ j o e. let a = f.to j o e in
        record { now = a.now; there = a.there; how = shift_right φ a.how };
  }

  pub evolve_set : {φ : ℕ} (h : List Object) (j : ℕ) (o n : Object) → nth h j ≡ some o
      → Shift W φ o.class_of n.class_of → Evolves W φ h (replace h j n)
  evolve_set {φ} h j o n e sh = record { to = λ k p q. go k p q (ℕ_discrete j k) }
    where
      go : (k : ℕ) (p : Object) → nth h k ≡ some p → Dec (j ≡ k) → Moved W φ (replace h j n) k p
      go k p q (yes r) = record {
        now = n;
        there = rw (← r) (nth_set_same h j n o e);
        how = rw
            (inj (sym e ∙ ap (nth h) r ∙ q)) at sh;
      }
      go k p q (no r) = record { now = p; there = nth_set_other h j k n r ∙ q; how = same refl }

  pub evolve_append : (h : List Object) (n : Object) → Evolves W no_effect h (h ++ (n ∷ []))
  evolve_append h n = record {
    to = λ j o e.
        record { now = o; there = nth_append h _ j o e; how = same refl };
  }

  -- The value of a literal fits its type.
  pub literal_fits : {h : List Object} (l : Literal) → Fits W h (literal_value l) (literal_type l)
  literal_fits literal_true = truth_fits
  literal_fits literal_false = truth_fits
  literal_fits literal_null = null_fits refl

  initial_fits : (h : List Object) (t : DeclaredType) → Fits W h (initial t) (known t)
  initial_fits h bool = truth_fits
  initial_fits h (class c) = null_fits refl

  pub initials_fit : (h : List Object) (fs : List Field) → All2 (FitsField W h) (initials fs) fs
  initials_fit h [] = a_nil
  initials_fit h (f ∷ fs) = a_cons (initial_fits h f.type) (initials_fit h fs)

  pub locals_fit : (h : List Object) (ts : List DeclaredType)
      → All2 (FitsSlot W h) (map initial ts) (map fresh_slot ts)
  locals_fit h [] = a_nil
  locals_fit h (t ∷ ts) = a_cons (initial_fits h t) (locals_fit h ts)

module _ {W : World} (laws : Laws W) where
  open laws use {sub_trans, sub_root, up, solid}

  -- what a type becomes by an effect lets an object be as the effect left it
  sub_evolves : {φ : ℕ} {o n : ℕ} (c : ℕ) → Shift W φ o n → W.below o c ≡ true
      → W.below n (apply_class W φ c) ≡ true
  unfolding apply_class
  sub_evolves {φ} {o} c (same p) s = rw p (go (member φ (W.root c)))
    where
      go : (b : Bool) → W.below o (cond b (W.root c) c) ≡ true
      go true = sub_trans _ _ _ s (sub_root c)
      go false = s
  sub_evolves {φ} {o} {n} c (moved h p) s = go (up o c s) (member φ (W.root c)) refl
    where
      below : W.below n (W.root o) ≡ true
      below = rw p at (sub_root n)

      go : (W.root c ≡ W.root o) ⊎ ((W.root c ≡ c) × (W.below (W.root o) c ≡ true)) → (b : Bool)
          → member φ (W.root c) ≡ b
          → W.below n (cond b (W.root c) c) ≡ true
      go (inl r) true e = rw r below
      go (inl r) false e = false≢ (sym e ∙ rw r h)
      go (inr r) true e = rw r.0 (sub_trans _ _ _ below r.1)
      go (inr r) false e = sub_trans _ _ _ below r.1

  pub fits_evolves : {φ : ℕ} {h h' : List Object} {v : Value} {t : ExprType} → Evolves W φ h h' → Fits W h v t
      → Fits W h' v (apply_expr W φ t)
  fits_evolves {t = known (class c)} ev (null_fits n) = null_fits refl
  fits_evolves {t = null_type} ev (null_fits n) = null_fits refl
  fits_evolves {t = known bool} ev (null_fits n) = null_fits n
  fits_evolves ev truth_fits = truth_fits
  fits_evolves ev (object_fits o e s) = let a = ev.to _ o e in
      object_fits a.now a.there (sub_evolves _ a.how s)

  pub fits_sub : {h : List Object} {v : Value} {t : ExprType} (u : DeclaredType) → Fits W h v t
      → fits W t u ≡ true → Fits W h v (known u)
  fits_sub bool (null_fits {t = known (class c)} n) e = false≢ e
  fits_sub bool (null_fits {t = null_type} n) e = false≢ e
  fits_sub bool (null_fits {t = known bool} n) e = null_fits n
  fits_sub (class d) (null_fits n) e = null_fits refl
  fits_sub bool truth_fits e = truth_fits
  fits_sub (class d) truth_fits e = false≢ e
  fits_sub bool (object_fits o p s) e = false≢ e
  fits_sub (class d) (object_fits o p s) e = object_fits o p (sub_trans _ _ _ s e)

  -- with no effect
  pub fits_grow : {h h' : List Object} {v : Value} {t : ExprType} → Evolves W no_effect h h' → Fits W h v t
      → Fits W h' v t
  fits_grow ev f = rw (expr_kept W) at (fits_evolves ev f)

  -- the heap still fits, if each object is as it was or fits
  heap_step : {φ : ℕ} {h h' : List Object} → Evolves W φ h h' → HeapOk W h
      → ((j : ℕ) (o : Object) → nth h' j ≡ some o
      → (nth h j ≡ some o) ⊎ All2 (FitsField W h') o.fields (W.fields o.class_of)) → HeapOk W h'
  heap_step {φ} {h} {h'} ev ok₀ f = record { each = λ j o e. go j o (f j o e) }
    where
      go : (j : ℕ) (o : Object)
          → (nth h j ≡ some o) ⊎ All2 (FitsField W h') o.fields (W.fields o.class_of)
          → All2 (FitsField W h') o.fields (W.fields o.class_of)
      go j o (inl e) = all2_mono_at (ok₀.each j o e)
          (λ i v g p r. rw (solid o.class_of i g p φ) at (fits_evolves ev r))
      go j o (inr a) = a

  pub heap_set : {φ : ℕ} (h : List Object) (j : ℕ) (n : Object) → Evolves W φ h (replace h j n) → HeapOk W h
      → All2 (FitsField W (replace h j n)) n.fields (W.fields n.class_of) → HeapOk W (replace h j n)
  heap_set h j n ev H a = heap_step ev H λ k p q. go k p (nth_set h j n k p q)
    where
      go : (k : ℕ) (p : Object) → ((j ≢ k) × (nth h k ≡ some p)) ⊎ ((j ≡ k) × (n ≡ p))
          → (nth h k ≡ some p) ⊎ All2 (FitsField W (replace h j n)) p.fields (W.fields p.class_of)
      go k p (inl q) = inl q.1
      go k p (inr q) = inr (rw (← q.1) a)

  pub heap_append : (h : List Object) (n : Object) → HeapOk W h
      → All2 (FitsField W (h ++ (n ∷ []))) n.fields (W.fields n.class_of) → HeapOk W (h ++ (n ∷ []))
  heap_append h n H a = heap_step (evolve_append h n) H λ k p q. go k p (nth_append_one h n k p q)
    where
      go : (k : ℕ) (p : Object) → (nth h k ≡ some p) ⊎ ((k ≡ length h) × (n ≡ p))
          → (nth h k ≡ some p) ⊎ All2 (FitsField W (h ++ (n ∷ []))) p.fields (W.fields p.class_of)
      go k p (inl q) = inl q
      go k p (inr q) = inr (rw (← q.1) a)

  -- what stands in slots, after an effect
  this_evolves : {φ : ℕ} {h h' : List Object} {v : Option Value} {s : Option Slot} → Evolves W φ h h'
      → FitsThis W h v s → FitsThis W h' v (map_option (apply_slot W φ) s)
  this_evolves ev this_none = this_none
  this_evolves ev (this_some f) = this_some (fits_evolves ev f)

  pub frame_evolves : {φ : ℕ} {h h' : List Object} {f : Frame Value} {γ : Environment} → Evolves W φ h h'
      → FitsFrame W h f γ → FitsFrame W h' f (apply_all W φ γ)
  frame_evolves {φ} ev F =
      record {
        this = this_evolves ev F.this;
        slots = all2_map (apply_slot W φ) (λ a b r. fits_evolves ev r) F.slots;
      }

  this_grow : {h h' : List Object} {v : Option Value} {s : Option Slot} → Evolves W no_effect h h'
      → FitsThis W h v s → FitsThis W h' v s
  this_grow ev this_none = this_none
  this_grow ev (this_some f) = this_some (fits_grow ev f)

  pub frame_grow : {γ : Environment} {h h' : List Object} {f f' : Frame Value} → Evolves W no_effect h h'
      → f' ≡ f
      → FitsFrame W h f γ → FitsFrame W h' f' γ
  frame_grow ev e F = rw e (record {
    this = this_grow ev F.this;
    slots = all2_mono
        (λ a b r. fits_grow ev r) F.slots;
  })
