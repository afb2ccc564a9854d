-- Type soundness: an accepted expression, run where heap and slots fit their types, never gets stuck, and
-- they fit afterwards; where it stops the heap fits then.
use mathlib.Core.Path.{refl, subst}
use Prim.Native.Nat.{ℕ, zero, suc}
use mathlib.Core.List.{List, [], ◌∷◌, map}
use lib.ListN.{length}
use Rattle.language.specs.Lists.{All2, a_nil, a_cons, all2_set, all2_append, all2_take, all2_length}
use Rattle.language.specs.Results.{Holds, holds_ok, holds_stop, holds_bind, holds_choice, holds_mono}
use Rattle.language.specs.Frames.{opened}
use Rattle.language.specs.Tree.{DeclaredType, ExprType, known, Expr, literal}
use Rattle.language.specs.Tree.{slot, is_null, get, cast, new, change, assign, set, call}
use Rattle.language.specs.Tree.{choose, block, Exprs, nil, cons}
use Rattle.language.specs.World.{Method, World}
use Rattle.language.specs.Environment.{Environment}
use Rattle.language.specs.Typing.{last_type}
use Rattle.theory.specs.ComputedRules.{HasType, HaveTypes, type_literal, type_slot, type_new}
use Rattle.theory.specs.ComputedRules.{type_cast, type_get, type_set, type_assign, type_is_null}
use Rattle.theory.specs.ComputedRules.{type_call}
use Rattle.theory.specs.ComputedRules.{type_choose, type_block, type_change, types_nil, types_cons}
use Rattle.language.specs.State.{Value, Object, State, Out, entered, with_frame, initial}
use Rattle.language.specs.Evaluation.{Limits}
use Rattle.language.specs.Evaluation.{last_value, eval, eval_all, call_at}
use Rattle.theory.proofs.soundness.Fitting.{Fits, null_fits, truth_fits, FitsFrame, Laws, HeapOk, Fine}
use Rattle.theory.proofs.soundness.Fitting.{fine_deep}
use Rattle.theory.proofs.soundness.Fitting.{fine_spent, Good, Goods, evolve_refl, evolve_trans}
use Rattle.theory.proofs.soundness.Fitting.{evolve_within}
use Rattle.theory.proofs.soundness.Fitting.{evolve_then, evolve_left, evolve_right, locals_fit}
use Rattle.theory.proofs.soundness.Fitting.{fits_evolves}
use Rattle.theory.proofs.soundness.Fitting.{fits_sub, frame_evolves, frame_grow, literal_fits}
use Rattle.theory.proofs.soundness.Fitting.{BodiesOk}
use Rattle.theory.proofs.soundness.ActsSound.{at, retyped, CallOk, cast_ok, if_ok, get_ok, set_ok}
use Rattle.theory.proofs.soundness.ActsSound.{new_ok}
use Rattle.theory.proofs.soundness.ActsSound.{change_ok, call_ok, null_ok}
use Rattle.theory.proofs.typing.SlotSorts.{shape, frames_left, frames_right, join_left, join_right}

module _ {W : World} where
  -- the value of a block
  last_fits : {h : List Object} {v : Value} {t : ExprType} (vs : List Value) (ts : List ExprType)
      → Fits W h v t → All2 (Fits W h) vs ts → Fits W h (last_value v vs) (last_type t ts)
  last_fits [] [] f a_nil = f
  last_fits (w ∷ vs) (u ∷ ts) f (a_cons g gs) = last_fits vs ts g gs
  last_fits {h = h} {v = v} {t = t} [] (u ∷ ts) f x4 = elim x4 [ ]
  last_fits {h = h} {v = v} {t = t} (w ∷ vs) [] f x4 = elim x4 [ ]

module _ {W : World} (laws : Laws W) where
  module _ (L : Limits) (invoke : Method → State → Out Value) (C : CallOk W invoke) where
    mutual
      unfolding eval

      pub expression_sound : (e : Expr) {Γ Γ' : Environment} {t : ExprType} {φ : ℕ} → HasType W Γ e t Γ' φ
          → (s : State)
          → HeapOk W s.heap → FitsFrame W s.heap s.frame Γ
          → Holds (Good W Γ' φ t s.heap) (Fine W) (eval W L invoke e s)
      expression_sound (literal l) type_literal s H S =
          holds_choice (L.spent_at s.steps) (holds_stop (fine_spent H))
          (holds_ok (record {
            heap_ok = H;
            evolves = evolve_refl _;
            slots_ok = S;
            value_ok = literal_fits
                l;
          }))
      expression_sound (slot k) {Γ} (type_slot {s = u} e) s H S =
          holds_choice (L.spent_at s.steps) (holds_stop (fine_spent H))
          (let x = at s.frame Γ S k u e in
          rw x.is (holds_ok (record {
            heap_ok = H;
            evolves = evolve_refl _;
            slots_ok = S;
            value_ok =
                x.fit;
          })))
      expression_sound (assign (suc k) e) (type_assign d i f) s H S =
          holds_choice (L.spent_at s.steps) (holds_stop (fine_spent H))
          (holds_bind (expression_sound e d (entered s) H S) λ v s' g.
          rw (at s'.frame _ g.slots_ok (suc k) _ i).is (holds_ok (record {
            heap_ok = g.heap_ok;
            evolves = g.evolves;
            slots_ok = record {
              this = g.slots_ok.this;
              slots = all2_set g.slots_ok.slots k v _ i
                  (fits_sub laws _ g.value_ok f);
            };
            value_ok = g.value_ok;
          })))
      expression_sound (new c) (type_new i) s H S =
          holds_choice (L.spent_at s.steps) (holds_stop (fine_spent H))
          (holds_mono (new_ok laws L c (entered s) H) λ v s' g.
          record {
            heap_ok = g.heap_ok;
            evolves = g.evolves;
            slots_ok = frame_grow laws g.evolves g.frame_same S;
            value_ok = g.value_ok;
          })
      expression_sound (change k d) {Γ} (type_change {s = u} i e c f) s H S =
          holds_choice (L.spent_at s.steps) (holds_stop (fine_spent H))
          (let x = at s.frame Γ S k u e in
          rw x.is (holds_mono (change_ok laws _ d x.v (entered s) H
          (subst (λ (t : DeclaredType). Fits W s.heap x.v (known t)) c x.fit) f) λ w s' g.
          record {
            heap_ok = g.1.heap_ok;
            evolves = g.1.evolves;
            value_ok = g.1.value_ok;
            slots_ok = rw g.1.frame_same (retyped s.frame _ (frame_evolves laws g.1.evolves S) k
                x.v
                _
                x.is (rw g.0 at g.1.value_ok));
          }))
      expression_sound (is_null e) (type_is_null d n) s H S =
          holds_choice (L.spent_at s.steps) (holds_stop (fine_spent H))
          (holds_bind (expression_sound e d (entered s) H S) λ v s' g. null_ok s' n g.value_ok λ b.
          record {
            heap_ok = g.heap_ok;
            evolves = g.evolves;
            slots_ok = g.slots_ok;
            value_ok = truth_fits;
          })
      expression_sound (cast c e) (type_cast d i n) s H S =
          holds_choice (L.spent_at s.steps) (holds_stop (fine_spent H))
          (holds_bind (expression_sound e d (entered s) H S) λ v s' g. cast_ok c v s' n g)
      expression_sound (get f e) (type_get d i) s H S =
          holds_choice (L.spent_at s.steps) (holds_stop (fine_spent H))
          (holds_bind (expression_sound e d (entered s) H S) λ v s' g.
          holds_mono (get_ok laws f _ _ v s' g.heap_ok g.value_ok i) λ w s'' q.
          rw q.0 (record {
            heap_ok = g.heap_ok;
            evolves = g.evolves;
            slots_ok = g.slots_ok;
            value_ok =
                q.1;
          }))
      expression_sound (set f e e') (type_set d d' i j) s H S =
          holds_choice (L.spent_at s.steps) (holds_stop (fine_spent H))
          (holds_bind (expression_sound e d (entered s) H S) λ v s₁ g.
          holds_bind (expression_sound e' d' s₁ g.heap_ok g.slots_ok) λ w s₂ g'.
          holds_mono (set_ok laws f _ _ _ v w s₂ g'.heap_ok (fits_evolves laws g'.evolves g.value_ok)
          i
          g'.value_ok j) λ x s₃ q.
          record {
            heap_ok = q.heap_ok;
            evolves = evolve_then (evolve_trans g.evolves g'.evolves) q.evolves;
            slots_ok = frame_grow laws q.evolves q.frame_same g'.slots_ok;
            value_ok = q.value_ok;
          })
      expression_sound (call m e es) (type_call M d d' i j) s H S =
          holds_choice (L.spent_at s.steps) (holds_stop (fine_spent H))
          (holds_bind (expression_sound e d (entered s) H S) λ v s₁ g.
          holds_bind (expressions_sound es d' s₁ g.heap_ok g.slots_ok) λ vs s₂ g'.
          holds_mono (call_ok laws L invoke C m _ M v vs _ _ s₂ g'.heap_ok g'.slots_ok
          (fits_evolves laws g'.evolves g.value_ok) g'.value_ok i j) λ w s₃ q.
          record {
            heap_ok = q.heap_ok;
            evolves = evolve_trans (evolve_trans g.evolves g'.evolves) q.evolves;
            slots_ok = q.slots_ok;
            value_ok = q.value_ok;
          })
      expression_sound (choose e x y) (type_choose {t} {φ₁} d d' d'' j) s H S =
          holds_choice (L.spent_at s.steps) (holds_stop (fine_spent H))
          (holds_bind (expression_sound e d (entered s) H S) λ v s₁ g. if_ok s₁ g.value_ok
          (holds_mono (expression_sound x d' s₁ g.heap_ok g.slots_ok) λ w s₂ q.
          record {
            heap_ok = q.heap_ok;
            evolves = evolve_trans g.evolves (evolve_left _ q.evolves);
            slots_ok = frames_left laws (shape x d') (shape y d'') q.slots_ok;
            value_ok = join_left laws _ _ _ j q.value_ok;
          })
          (holds_mono (expression_sound y d'' s₁ g.heap_ok g.slots_ok) λ w s₂ q.
          record {
            heap_ok = q.heap_ok;
            evolves = evolve_trans g.evolves (evolve_right φ₁ q.evolves);
            slots_ok = frames_right laws (shape x d') (shape y d'') q.slots_ok;
            value_ok = join_right laws t _ _ j q.value_ok;
          }))
      expression_sound (block ts es) {Γ} (type_block l d) s H S =
          holds_choice (L.spent_at s.steps) (holds_stop (fine_spent H))
          (holds_bind (expressions_sound es d (with_frame (opened s.frame (map initial ts)) (entered s)) H
          (record { this = S.this; slots = all2_append S.slots (locals_fit _ ts) })) λ vs s' g.
          holds_ok (record {
            heap_ok = g.heap_ok;
            evolves = g.evolves;
            slots_ok = record {
              this = g.slots_ok.this;
              slots = rw (all2_length S.slots)
                  (all2_take (length Γ.slots) g.slots_ok.slots);
            };
            value_ok = last_fits vs _ (null_fits refl) g.value_ok;
          }))
      expression_sound (assign zero e) {Γ = Γ} {t = t} {φ = φ} x8 s H S = elim x8 [ ]

      pub expressions_sound : (es : Exprs) {Γ Γ' : Environment} {ts : List ExprType} {φ : ℕ}
          → HaveTypes W Γ es ts Γ' φ
          → (s : State) → HeapOk W s.heap → FitsFrame W s.heap s.frame Γ
          → Holds (Goods W Γ' φ ts s.heap) (Fine W) (eval_all W L invoke es s)
      expressions_sound nil types_nil s H S =
          holds_ok (record { heap_ok = H; evolves = evolve_refl _; slots_ok = S; value_ok = a_nil })
      expressions_sound (cons e es) (types_cons d d') s H S =
          holds_bind (expression_sound e d s H S) λ v s₁ g.
          holds_bind (expressions_sound es d' s₁ g.heap_ok g.slots_ok) λ vs s₂ g'.
          holds_ok (record {
            heap_ok = g'.heap_ok;
            evolves = evolve_trans g.evolves g'.evolves;
            slots_ok = g'.slots_ok;
            value_ok = a_cons (fits_evolves laws g'.evolves g.value_ok) g'.value_ok;
          })

  -- calls, of any depth
  pub calls_ok : (bodies : ℕ → Expr) → BodiesOk W bodies → (L : Limits) (n : ℕ)
      → CallOk W (λ M s. call_at W L bodies n M s)
  unfolding call_at
  calls_ok bodies 𝓑 L zero = record { good = λ c m M e s H S. holds_stop (fine_deep H) }
  calls_ok bodies 𝓑 L (suc n) = record {
    good = λ c m M e s H S. let B = 𝓑.each c m M e in
        holds_mono (expression_sound L (λ M s. call_at W L bodies n M s) (calls_ok bodies 𝓑 L n)
        (bodies M.number) B.types s H S) λ v s' g.
        record {
          heap_ok = g.heap_ok;
          evolves = evolve_within B.inside g.evolves;
          value_ok = fits_sub laws _ g.value_ok B.fits_ret;
        };
  }
