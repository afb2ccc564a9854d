-- Demand 3 for a start block, at the level of worlds: a source run and its plain run, with limits, both ways.
use mathlib.Core.Path.{◌≡◌, refl, sym, ap, ◌∙◌}
use Prim.Native.Nat.{ℕ, ◌+◌, ◌*◌, ◌≤◌}
use mathlib.Core.Option.{some}
use mathlib.Core.Bool.{Bool, true}
use mathlib.Core.List.{List, []}
use lib.ListN.{length}
use native.Mathlib.Omega.{arith}
use Rattle.language.specs.Limits.{most_calls, plain_steps_a_step}
use Rattle.language.specs.Lists.{nth, Never, a_nil}
use Rattle.language.specs.Results.{ok, stop, Alike, alike_ok, alike_stop}
use Rattle.language.specs.Tree.{ExprType, Expr}
use Rattle.language.specs.World.{World}
use Rattle.language.specs.Environment.{Environment, start_environment}
use Rattle.theory.specs.ComputedRules.{HasType}
use Rattle.language.specs.State.{Value, Object, State, Stop, raised, deep, spent, full, stuck, Out}
use Rattle.language.specs.Evaluation.{without_limits, with_limits, call_at, eval_start, first_state}
use Rattle.language.specs.Store.{Outcome, gave, ended}
use Rattle.language.specs.Translation.{translate}
use Rattle.language.specs.Correspondence.{identities, EndAlike, both_give, same_exception, both_deep, Matches}
use Rattle.language.proofs.Booleans.{false≢}
use Rattle.theory.proofs.soundness.Soundness.{calls_ok}
use Rattle.theory.proofs.soundness.Fitting.{Laws, this_none, BodiesOk}
use Rattle.theory.proofs.translation.PlainWorld.{IsPlain, PlainBodies}
use Rattle.theory.proofs.evaluation.LimitedRuns.{Within, limited_start, final, proper_stop, proper, kept}
use Rattle.theory.proofs.evaluation.LimitedRuns.{uncut}
use Rattle.theory.proofs.simulation.Matching.{Mask, no_slots, no_this}
use Rattle.theory.proofs.simulation.MatchingStates.{Matched, After, Ended}
use Rattle.theory.proofs.simulation.PlainSteps.{More}
use Rattle.theory.proofs.simulation.Simulation.{simulates, calls_simulate}

-- How a run ended.
abbrev pub outcome : Out Value → Outcome
outcome (ok v s) = gave v
outcome (stop x s) = ended x

-- The counts of a source run and its plain run: the plain run takes at least as many steps and at most 84
-- times as many, makes 2n + r objects where the source makes n and changes r, and changes no class.
pub record CountsMatch (s t : State) : Type 0 where
  pub at_least : s.steps ≤ t.steps
  pub at_most : t.steps ≤ plain_steps_a_step * s.steps
  pub objects : length t.heap ≡ 2 * length s.heap + s.changes
  pub no_changes : t.changes ≡ 0

-- The stores of a source run and its plain run: as many Identities as objects, and object j matches the j-th
-- Identity made.
pub record StoresMatch (h h' : List Object) : Type 0 where
  pub as_many : length (identities 0 h') ≡ length h
  pub each : (j : ℕ) (o : Object) → nth h j ≡ some o → Matches (identities 0 h') h' j o

-- A source run and its plain run end alike, with counts and stores that match.
pub record EndsAlike (r r' : Out Value) : Type 0 where
  pub ends : EndAlike (identities 0 (final r').heap) (outcome r) (outcome r')
  pub counts : CountsMatch (final r) (final r')
  pub stores : StoresMatch (final r).heap (final r').heap

counts_match : {W : World} {ids : List ℕ} {z : ℕ} {s t : State} → Matched W ids z s t → CountsMatch s t
counts_match c = record {
  at_least = c.low;
  at_most = omega (arith, c);
  objects = c.count;
  no_changes =
      c.unchanged;
}

stores_match : {W : World} {ids : List ℕ} {z : ℕ} {s t : State} → Matched W ids z s t
    → StoresMatch s.heap t.heap
stores_match c = record {
  as_many = ap length (sym c.heaps.made) ∙ c.heaps.long;
  each = λ j o e. rw c.heaps.made at (c.heaps.each j o e);
}

-- Runs without limits that end in states that match.
record Both (r r' : Out Value) : Type 0 where
  pub counts : CountsMatch (final r) (final r')
  pub stores : StoresMatch (final r).heap (final r').heap
  pub ends : proper r ≡ true → EndAlike (identities 0 (final r').heap) (outcome r) (outcome r')
  pub proper_too : proper r ≡ proper r'

stop_alike : (ids : List ℕ) (x : Stop) → proper_stop x ≡ true → EndAlike ids (ended x) (ended x)
stop_alike ids (raised n) p = same_exception
stop_alike ids deep p = both_deep
stop_alike ids spent p = false≢ p
stop_alike ids full p = false≢ p
stop_alike ids stuck p = false≢ p

both : {W : World} {ids : List ℕ} {h : List Object} {sh : List Bool} {μ : Mask} {z : ℕ} {r r' : Out Value}
    → Alike (After W ids h sh μ z) (Ended W) r r' → Both r r'
both (alike_ok a) = record {
  counts = counts_match a.match.core;
  stores = stores_match a.match.core;
  ends = λ p. both_give (rw a.match.core.heaps.made at a.value);
  proper_too = refl;
}
both (alike_stop {x} e) = record {
  counts = counts_match e.core;
  stores = stores_match e.core;
  ends = λ p. stop_alike _ x p;
  proper_too = refl;
}

module _ (W W' : World) (P : IsPlain W W') (laws : Laws W) (𝓜 : More W) (bodies bodies' : ℕ → Expr)
    (𝓑 : BodiesOk W bodies) (𝓣 : PlainBodies W bodies bodies') (start : Expr) {t : ExprType} {γ : Environment}
    {φ : ℕ} (typed : HasType W start_environment start t γ φ) where
  -- The runs of the start block and of its translation, with fuel and room.
  abbrev pub source_run : ℕ → ℕ → Out Value
  source_run F K = eval_start W (with_limits F K) bodies start first_state

  abbrev pub plain_run : ℕ → ℕ → Out Value
  plain_run F K = eval_start W' (with_limits F K) bodies' (translate W start start_environment []) first_state

  abbrev source_free : Out Value
  source_free = eval_start W without_limits bodies start first_state

  abbrev plain_free : Out Value
  plain_free = eval_start W' without_limits bodies' (translate W start start_environment []) first_state

  whole : Both source_free plain_free
  unfolding nth identities
  whole = both (simulates W W' P laws 𝓜 (λ M s. call_at W without_limits bodies most_calls M s)
      (λ M s. call_at W' without_limits bodies' most_calls M s)
      (calls_ok laws bodies 𝓑 without_limits most_calls)
      (calls_simulate W W' P laws 𝓜 bodies bodies' 𝓑 𝓣 most_calls) start typed [] [] [] 0 first_state
      first_state
      (record { each = λ j o e. absurd (Never e) }) (record { this = this_none; slots = a_nil })
      (record {
        frames = record { this = no_this; slots = no_slots };
        core = record {
          count = refl;
          low = omega arith;
          high = omega arith;
          unchanged = refl;
          heaps = record {
            each = λ j o e. absurd (Never e);
            known = λ j o e. absurd (Never e);
            one = λ j k i e. absurd (Never e);
            bound = λ j i e. absurd (Never e);
            long = refl;
            made = refl;
          };
        };
      }))

  -- From the first state every limit is kept.
  within_first : (F K : ℕ) → Within F K first_state
  within_first F K = record { fuel = omega arith; room = omega arith }

  -- Demand 3, forward. A source run with fuel F and room K that ends in a value, an exception or 15, with n
  -- objects made and r changes of class: its plain run with fuel 84·F or more and room for 2n + r objects or
  -- more ends alike.
  pub demand_3_forward : (F F' K K' : ℕ) → plain_steps_a_step * F ≤ F' → proper (source_run F K) ≡ true
      → 2 * length (final (source_run F K)).heap + (final (source_run F K)).changes ≤ K'
      → EndsAlike (source_run F K) (plain_run F' K')
  demand_3_forward F F' K K' l p m =
      let k = kept F K (limited_start F K W bodies start first_state (within_first F K)) p in
      let q = whole.counts in
      let m' : 2 * length (final source_free).heap + (final source_free).changes ≤ K' = rw k.is at m in
      let u = uncut F' K' (limited_start F' K' W' bodies' (translate W start start_environment []) first_state
      (within_first F' K'))
      (record { fuel = omega (arith, l, q, k.within); room = omega (arith, q, m') }) in
      rw (k.is, u) (record { ends = whole.ends (rw k.is at p); counts = q; stores = whole.stores })

  -- Demand 3, backward. A plain run with fuel F and room K' that ends in a value, an exception or 15: its
  -- source run with fuel F and room for as many objects as the plain run made ends alike.
  pub demand_3_backward : (F K K' : ℕ) → proper (plain_run F K') ≡ true
      → length (final (plain_run F K')).heap ≤ K → EndsAlike (source_run F K) (plain_run F K')
  demand_3_backward F K K' p m =
      let k = kept F K' (limited_start F K' W' bodies' (translate W start start_environment []) first_state
      (within_first F K')) p in
      let q = whole.counts in
      let m' : length (final plain_free).heap ≤ K = rw k.is at m in
      let u = uncut F K (limited_start F K W bodies start first_state (within_first F K))
      (record { fuel = omega (arith, q, k.within); room = omega (arith, q, m') }) in
      rw (k.is, u) (record {
        ends = whole.ends (whole.proper_too ∙ rw k.is at p);
        counts = q;
        stores =
            whole.stores;
      })
