-- When a state of the plain run matches a state of the source run: heaps, slots and counts.
-- The plain run has entered at least as many nodes, and at most 84 times as many; it has made 2n + r objects
-- where the source made n and changed the class of one r times; it has changed no class itself.
use mathlib.Core.Path.{◌≡◌, refl, sym, ◌∙◌}
use Prim.Native.Nat.{ℕ, suc, ◌+◌, ◌*◌, ◌≤◌}
use mathlib.Core.Option.{none, some}
use mathlib.Core.Bool.{Bool, true, false}
use mathlib.Core.List.{List, [], ◌∷◌, ◌++◌, map}
use lib.ListN.{length, set as replace}
use native.Mathlib.Omega.{arith}
use Rattle.language.specs.Results.{ok, alike_ok, Alike}
use Rattle.language.specs.State.{entered, Value, Object, State, Stop, with_frame, initial, truth, Out}
use Rattle.language.specs.Evaluation.{last_value, need_truth, need_reference}
use Rattle.language.specs.Limits.{plain_steps_a_step}
use Rattle.language.specs.Lists.{nth, inj, All2, up, nth_up, set_up, choice, a_nil, a_cons}
use Rattle.language.specs.Frames.{Frame, with_slot, opened, closed, at_slot}
use Rattle.language.specs.Tree.{literal_true, literal_false, literal_null, ExprType}
use Rattle.language.specs.Tree.{DeclaredType, bool, class, known, Literal}
use Rattle.language.specs.World.{World, is_declared}
use Rattle.language.specs.Translation.{plain_type, Shape, variables, plain_slot, temporaries}
use Rattle.language.specs.Correspondence.{Corresponds, both_null, same_truth, identity_of, implementor_of}
use Rattle.language.specs.Correspondence.{in_place}
use Rattle.language.proofs.Booleans.{false≢}
use Rattle.theory.proofs.simulation.Matching.{persists_same, HeapsMatch, Persists, persists_trans, Mask}
use Rattle.theory.proofs.simulation.Matching.{SlotsMatch}
use Rattle.theory.proofs.simulation.Matching.{no_slots, variable, slots_set, slots_append}
use Rattle.theory.proofs.simulation.Matching.{slots_temporaries}
use Rattle.theory.proofs.simulation.Matching.{temporary_at, temporary_set, slots_close}
use Rattle.theory.proofs.simulation.Matching.{temporaries_close}
use Rattle.theory.proofs.simulation.Matching.{FramesMatch, temporary, temporaries_only, slots_at}
use Rattle.language.specs.Typing.{not_bool}
use Rattle.theory.proofs.soundness.Fitting.{Fits, null_fits, truth_fits}
use Rattle.language.specs.State.{literal_value}

-- Heaps and counts match; z is what the plain side may still spend.
pub record Matched (W : World) (ids : List ℕ) (z : ℕ) (s t : State) : Type 0 where
  pub heaps : HeapsMatch W ids s.heap t.heap
  pub count : length t.heap ≡ 2 * length s.heap + s.changes
  pub low : s.steps ≤ t.steps
  pub high : t.steps + z ≤ plain_steps_a_step * s.steps
  pub unchanged : t.changes ≡ 0

-- The same with slots: variables and temporaries by shape and mask.
pub record StatesMatch (W : World) (ids : List ℕ) (sh : Shape) (μ : Mask) (z : ℕ) (s t : State) : Type 0 where
  pub core : Matched W ids z s t
  pub frames : FramesMatch W ids t.heap sh μ s.frame t.frame

-- After an expression and its translation: the states match, and the values correspond.
pub record After (W : World) (ids : List ℕ) (h₀ : List Object) (sh : Shape) (μ : Mask) (z : ℕ)
    (v : Value) (s : State) (v' : Value) (t : State) : Type 0 where
  pub ids' : List ℕ
  pub persists : Persists W ids ids' h₀ t.heap
  pub match : StatesMatch W ids' sh μ z s t
  pub value : Corresponds ids' v v'

-- After several.
pub record AfterAll (W : World) (ids : List ℕ) (h₀ : List Object) (sh : Shape) (μ : Mask) (z : ℕ)
    (vs : List Value) (s : State) (vs' : List Value) (t : State) : Type 0 where
  pub ids' : List ℕ
  pub persists : Persists W ids ids' h₀ t.heap
  pub match : StatesMatch W ids' sh μ z s t
  pub values : All2 (Corresponds ids') vs vs'

-- After arguments that were put into temporaries.
pub record ArgumentsPut (W : World) (ids : List ℕ) (h₀ : List Object) (sh : Shape) (μ : Mask) (z : ℕ)
    (vs : List Value) (s : State) (vs' : List Value) (t : State) : Type 0 where
  pub ids' : List ℕ
  pub persists : Persists W ids ids' h₀ t.heap
  pub match : StatesMatch W ids' sh (μ ++ map some vs') z s t
  pub values : All2 (Corresponds ids') vs vs'

-- After a call: the caller's slots are its own affair.
pub record Returned (W : World) (ids : List ℕ) (h₀ : List Object) (z : ℕ)
    (v : Value) (s : State) (v' : Value) (t : State) : Type 0 where
  pub ids' : List ℕ
  pub persists : Persists W ids ids' h₀ t.heap
  pub core : Matched W ids' z s t
  pub value : Corresponds ids' v v'

-- After a stop.
pub record Ended (W : World) (s t : State) : Type 0 where
  pub ids' : List ℕ
  pub core : Matched W ids' 0 s t

-- The implementor of an object whose Identity is known.
pub record ImplementorOf (W : World) (ids : List ℕ) (t : State) (i : ℕ) (o : Object) : Type 0 where
  pub m : ℕ
  pub vs : List Value
  pub at_identity : nth t.heap i ≡ some (identity_of m)
  pub at_implementor : nth t.heap m ≡ some (implementor_of o.class_of i vs)
  pub values : All2 (Corresponds ids) o.fields vs
  pub known : is_declared W o.class_of ≡ true

module _ {W : World} where
  -- Heaps and changes stay; steps go on.
  pub recount : {ids : List ℕ} {z z' : ℕ} {s s' t t' : State} → Matched W ids z s t → s'.heap ≡ s.heap
      → t'.heap ≡ t.heap → s'.changes ≡ s.changes → t'.changes ≡ t.changes → s'.steps ≤ t'.steps
      → t'.steps + z' ≤ plain_steps_a_step * s'.steps → Matched W ids z' s' t'
  recount c e f g g' l u = record {
    heaps = rw (e, f) c.heaps;
    count = rw (e, f, g) c.count;
    low = l;
    high = u;
    unchanged = g' ∙ c.unchanged;
  }

  -- Both sides enter a node.
  pub both_enter : {ids : List ℕ} {sh : Shape} {μ : Mask} {z : ℕ} {s t : State} → StatesMatch W ids sh μ z s t
      → StatesMatch W ids sh μ (83 + z) (entered s) (entered t)
  both_enter R = record {
    frames = R.frames;
    core = recount R.core refl refl refl refl (omega arith)
        (omega arith);
  }

  -- The source enters a node, the plain side n.
  pub entering : {ids : List ℕ} {sh : Shape} {μ : Mask} {z z' : ℕ} {s t t' : State} (n : ℕ)
      → StatesMatch W ids sh μ z s t → t'.steps ≡ t.steps + n → t'.frame ≡ t.frame → t'.heap ≡ t.heap
      → t'.changes ≡ t.changes → (1 ≤ n) × (n + z' ≤ 84 + z) → StatesMatch W ids sh μ z' (entered s) t'
  entering n R e f g g' b = record
      { frames = rw (f, g) R.frames; core = recount R.core refl g refl g' (omega arith) (omega arith) }

  -- Some of what may still be spent is let go.
  pub spare : {ids : List ℕ} {sh : Shape} {μ : Mask} (n : ℕ) {z : ℕ} {s t : State}
      → StatesMatch W ids sh μ (n + z) s t → StatesMatch W ids sh μ z s t
  spare n R = record {
    frames = R.frames;
    core = recount R.core refl refl refl refl (omega arith)
        (omega arith);
  }

  -- The plain side goes on alone for n steps.
  pub spend : {ids : List ℕ} {m z : ℕ} {s t : State} (n : ℕ) (t' : State) → Matched W ids m s t → n + z ≤ m
      → t'.heap ≡ t.heap → t'.changes ≡ t.changes → t'.steps ≡ t.steps + n → Matched W ids z s t'
  spend n t' c l e g f = recount c refl e refl g (omega arith) (omega arith)

  -- Both stop; the plain side after n steps alone.
  pub ended : {ids : List ℕ} {z : ℕ} {s t : State} → Matched W ids z s t → Ended W s t
  ended {ids} c = record { ids' = ids; core = recount c refl refl refl refl (omega arith) (omega arith) }

  pub ended_at : {ids : List ℕ} {m : ℕ} {s t : State} (n : ℕ) (t' : State) → Matched W ids m s t → n ≤ m
      → t'.heap ≡ t.heap → t'.changes ≡ t.changes → t'.steps ≡ t.steps + n → Ended W s t'
  ended_at {ids} n t' c l e g f =
      record { ids' = ids; core = recount c refl e refl g (omega arith) (omega arith) }

  -- What came after a later moment came after an earlier one.
  pub from_before : {ids₀ ids : List ℕ} {h₀ h : List Object} {sh : Shape} {μ : Mask} {z : ℕ} {v v' : Value}
      {s t : State} → Persists W ids₀ ids h₀ h → After W ids h sh μ z v s v' t
      → After W ids₀ h₀ sh μ z v s v' t
  from_before x a = record
      { ids' = a.ids'; persists = persists_trans x a.persists; match = a.match; value = a.value }

  -- Each object has an implementor.
  pub implementor_found : {ids : List ℕ} {z : ℕ} {s t : State} → Matched W ids z s t → (j i : ℕ) (o : Object)
      → nth ids j ≡ some i → nth s.heap j ≡ some o → ImplementorOf W ids t i o
  implementor_found c j i o e p = let x = c.heaps.each j o p in let y : i ≡ x.i =
      inj (sym e ∙ x.identity) in
      record {
        m = x.m;
        vs = x.fields;
        at_identity = rw y x.at_identity;
        at_implementor = rw y x.at_implementor;
        values = x.corresponding;
        known = c.heaps.known j o p;
      }

-- The value of a literal corresponds to itself.
pub same_literal : {ids : List ℕ} (l : Literal) → Corresponds ids (literal_value l) (literal_value l)
same_literal literal_true = same_truth
same_literal literal_false = same_truth
same_literal literal_null = both_null

-- First values correspond, and so do a block's locals.
pub initial_corresponds : (ids : List ℕ) (u : DeclaredType)
    → Corresponds ids (initial u) (initial (plain_type u))
initial_corresponds ids bool = same_truth
initial_corresponds ids (class c) = both_null

abbrev pub no_values : List DeclaredType → Mask
no_values ts = map (λ t. none) ts

pub locals_match : (ids : List ℕ) (ts : List DeclaredType)
    → SlotsMatch ids (variables ts) (no_values ts) (map initial ts) (map initial (map plain_type ts))
locals_match ids [] = no_slots
locals_match ids (u ∷ ts) = variable (initial_corresponds ids u) (locals_match ids ts)

module _ {W : World} {ids : List ℕ} {h : List Object} {sh : Shape} where
  -- A variable set on both sides.
  pub frames_set : {μ : Mask} {f f' : Frame Value} {v v' : Value} → FramesMatch W ids h sh μ f f' → (k : ℕ)
      → Corresponds ids v v'
      → FramesMatch W ids h sh μ (with_slot f (suc k) v) (with_slot f' (plain_slot sh (suc k)) v')
  unfolding plain_slot
  frames_set F k r = record { this = F.this; slots = slots_set F.slots k _ _ r }

  -- The slot of a variable is there in the plain program.
  pub frames_variable : {μ : Mask} {f f' : Frame Value} (k : ℕ) (v : Value) → FramesMatch W ids h sh μ f f'
      → at_slot f (suc k) ≡ some v → (v' : Value) × (at_slot f' (plain_slot sh (suc k)) ≡ some v')
  unfolding plain_slot
  frames_variable k v F e = let x = slots_at F.slots k v e in (x.0, x.1)

  -- A block's locals are opened; temporaries are opened.
  pub frames_open : {μ : Mask} {f f' : Frame Value} → FramesMatch W ids h sh μ f f' → (ts : List DeclaredType)
      → FramesMatch W ids h (sh ++ variables ts) (μ ++ no_values ts) (opened f (map initial ts))
      (opened f' (map initial (map plain_type ts)))
  frames_open F ts = record { this = F.this; slots = slots_append F.slots (locals_match ids ts) }

  pub frames_temporaries : {sh₂ : Shape} {μ μ₂ : Mask} {f f' : Frame Value} {ws : List Value}
      → FramesMatch W ids h sh μ f f' → SlotsMatch ids sh₂ μ₂ [] ws
      → FramesMatch W ids h (sh ++ sh₂) (μ ++ μ₂) f (opened f' ws)
  frames_temporaries F r = record { this = F.this; slots = slots_temporaries F.slots r }

  -- The k-th temporary after n slots, read.
  pub frames_temporary : (μ μ₂ : Mask) {f f' : Frame Value} (k n : ℕ) (w : Value)
      → FramesMatch W ids h sh (μ ++ μ₂) f f' → length μ ≡ n → nth μ₂ k ≡ some (some w)
      → nth f'.slots (up k n) ≡ some w
  frames_temporary μ μ₂ k n w F p e =
      rw (sym p) (temporary_at F.slots (up k (length μ)) w (nth_up μ μ₂ k ∙ e))

  -- A block is left; a block of temporaries is left.
  pub frames_close : {ids₀ : List ℕ} {h₀ : List Object} (sh₂ : Shape) {μ : Mask} (μ₂ : Mask)
      {f₀ f₀' f f' : Frame Value} → FramesMatch W ids₀ h₀ sh μ f₀ f₀'
      → FramesMatch W ids h (sh ++ sh₂) (μ ++ μ₂) f f'
      → FramesMatch W ids h sh μ (closed (length f₀.slots) f) (closed (length f₀'.slots) f')
  frames_close sh₂ μ₂ F₀ F = record { this = F.this; slots = slots_close sh₂ μ₂ F₀.slots F.slots }

  pub frames_exit : {ids₀ : List ℕ} {h₀ : List Object} (sh₂ : Shape) {μ : Mask} (μ₂ : Mask)
      {f₀ f₀' f f' : Frame Value} → ((l l' : List Value) → SlotsMatch ids sh₂ μ₂ l l' → l ≡ [])
      → FramesMatch W ids₀ h₀ sh μ f₀ f₀' → FramesMatch W ids h (sh ++ sh₂) (μ ++ μ₂) f f'
      → FramesMatch W ids h sh μ f (closed (length f₀'.slots) f')
  frames_exit sh₂ μ₂ g F₀ F =
      record { this = F.this; slots = temporaries_close sh₂ μ₂ g F₀.slots F.slots }

-- The k-th temporary after n slots, written.
pub states_put : {W : World} {ids : List ℕ} {sh : Shape} (μ μ₂ : Mask) {z : ℕ} {s t : State}
    (k n : ℕ) (w w' : Value) → StatesMatch W ids sh (μ ++ μ₂) z s t → length μ ≡ n → nth μ₂ k ≡ some (some w)
    → StatesMatch W ids sh (μ ++ replace μ₂ k (some w')) z s
    (with_frame (with_slot t.frame (suc (up k n)) w') t)
states_put μ μ₂ {t} k n w w' R p e = rw (sym p) (record {
  core = spend 0 (with_frame (with_slot t.frame (suc (up k (length μ))) w') t) R.core (omega arith)
      refl refl (omega arith);
  frames = record {
    this = R.frames.this;
    slots = rw (set_up μ μ₂ k (some w')) at
        (temporary_set R.frames.slots (up k (length μ)) w w' (nth_up μ μ₂ k ∙ e));
  };
})

-- What a block of temporaries answers.
pub close_block : {W : World} {ids₀ ids : List ℕ} {h₀ h : List Object} {sh : Shape} (sh₂ : Shape) {μ : Mask}
    (μ₂ : Mask) {z : ℕ} {v v' : Value} {s t : State} {f₀ : Frame Value} (f₀' : Frame Value)
    → ((ids : List ℕ) (l l' : List Value) → SlotsMatch ids sh₂ μ₂ l l' → l ≡ [])
    → FramesMatch W ids₀ h sh μ f₀ f₀' → After W ids h₀ (sh ++ sh₂) (μ ++ μ₂) z v s v' t
    → Alike {X = Stop} (After W ids h₀ sh μ z) (Ended W) (ok v s)
    (ok v' (with_frame (closed (length f₀'.slots) t.frame) t))
close_block sh₂ μ₂ {s} {t} f₀' g F a =
    alike_ok {s = s} {t = with_frame (closed (length f₀'.slots) t.frame) t} (record {
      ids' = a.ids';
      persists = a.persists;
      value = a.value;
      match = record {
        frames = frames_exit sh₂ μ₂ (g a.ids') F a.match.frames;
        core = recount a.match.core refl refl refl refl a.match.core.low a.match.core.high;
      };
    })

-- Z of values that correspond; J on a truth value; the last of values that correspond.
pub null_alike : {W : World} {A : Value → State → Value → State → Type 0} {ids : List ℕ} {h : List Object}
    {u : ExprType} {v v' : Value} → Corresponds ids v v' → (s t : State) → not_bool u ≡ true → Fits W h v u
    → ((b : Bool) → A (truth b) s (truth b) t)
    → Alike A (Ended W) (need_reference v s λ b. ok (truth b) s) (need_reference v' t λ b. ok (truth b) t)
null_alike both_null s t n f g = alike_ok (g true)
null_alike same_truth s t n truth_fits g = false≢ n
null_alike (in_place e) s t n f g = alike_ok (g false)

pub choose_alike : {W : World} {A : Value → State → Value → State → Type 0} {ids : List ℕ} {h : List Object}
    {v v' : Value}
    → Corresponds ids v v' → (s t : State) {x y x' y' : Out Value} → Fits W h v (known bool)
    → Alike A (Ended W) x x' → Alike A (Ended W) y y'
    → Alike A (Ended W) (need_truth v s λ b. choice b (λ _. x) (λ _. y))
    (need_truth v' t λ b. choice b (λ _. x') (λ _. y'))
choose_alike both_null s t (null_fits n) a b = false≢ n
choose_alike (same_truth {b = true}) s t f a b = a
choose_alike (same_truth {b = false}) s t f a b = b
choose_alike {W = W} {A = A} {ids = ids} {h = h} (in_place {j = j} {i = i} _) s t {y = y} f a b = elim f [ ]

pub last_alike : {ids : List ℕ} {v v' : Value} {vs vs' : List Value} → Corresponds ids v v'
    → All2 (Corresponds ids) vs vs' → Corresponds ids (last_value v vs) (last_value v' vs')
last_alike r a_nil = r
last_alike r (a_cons q qs) = last_alike q qs

pub last_of_more : (u : Value) (vs : List Value) (x : Value) → last_value u (vs ++ (x ∷ [])) ≡ x
last_of_more u [] x = refl
last_of_more u (v ∷ vs) x = last_of_more v vs x

-- One temporary, two, and one for each parameter after one.
pub one_temporary : {ids : List ℕ} {μ : Mask} {l l' : List Value} → SlotsMatch ids (false ∷ []) μ l l'
    → l ≡ []
one_temporary (temporary no_slots) = refl

pub two_temporaries : {ids : List ℕ} {μ : Mask} {l l' : List Value}
    → SlotsMatch ids (false ∷ false ∷ []) μ l l'
    → l ≡ []
two_temporaries (temporary (temporary no_slots)) = refl

pub more_temporaries : {ids : List ℕ} {μ : Mask} {l l' : List Value} (ts : List DeclaredType)
    → SlotsMatch ids (false ∷ temporaries ts) μ l l' → l ≡ []
more_temporaries ts (temporary r) = temporaries_only ts _ _ _ r

pub temporaries_match : (ids : List ℕ) (ts : List DeclaredType)
    → SlotsMatch ids (temporaries ts) (map some (map initial (map plain_type ts))) []
    (map initial (map plain_type ts))
temporaries_match ids [] = no_slots
temporaries_match ids (t ∷ ts) = temporary (temporaries_match ids ts)

-- A literal on both sides.
pub literal_alike : {W : World} {ids : List ℕ} {sh : Shape} {μ : Mask} {z : ℕ} {v v' : Value} {s t : State}
    → Corresponds ids v v' → StatesMatch W ids sh μ z s t
    → Alike {X = Stop} (After W ids t.heap sh μ z) (Ended W) (ok v (entered s)) (ok v' (entered t))
literal_alike {ids} {s} {t} r R = alike_ok {s = entered s} {t = entered t}
    (record { ids' = ids; persists = persists_same; value = r; match = spare 83 (both_enter R) })
