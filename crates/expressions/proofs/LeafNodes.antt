-- The nodes T, L, N, I and W: what their functions answer is what the definition says. Assumes nothing.
use mathlib.Core.Path.{◌≡◌, refl, sym, ap, subst, ◌∙◌}
use mathlib.Core.Logic.{⊎_elim}
use mathlib.Core.Option.{Option, none, some}
use mathlib.Core.List.{List}
use mathlib.Core.Bool.{Bool, true, false, cond}
use Prim.Native.Nat.{ℕ, ◌+◌, ◌*◌, ◌≤◌}
use lib.ListN.{length, get_or}
use lib.Dec.{leb, ltb}
use borrow.Author.Tests.{eq-eqb, ne_eqb, le-leb, lt-leb}
use Rattle.language.specs.Results.{need_checked, accept_injective, need_checked_inv, require_inv}
use Rattle.language.specs.Results.{require}
use Rattle.language.specs.Frames.{at_slot}
use Rattle.language.specs.Tree.{Program, class, known, Class, literal, literal_true, literal_false}
use Rattle.language.specs.Tree.{literal_null, slot, new}
use Rattle.language.specs.World.{World}
use Rattle.language.specs.Program.{world, world_with}
use Rattle.language.specs.Environment.{Slot, Environment}
use Rattle.language.specs.Typing.{Typed, typed, type_of}
use Rattle.language.specs.LookupClasses.{LooksUp}
use Rattle.language.proofs.Lines.{le_or_less}
use Rattle.layout.specs.Held.{Headed}
use Rattle.types.specs.declared.Typing.{Typing}
use Rattle.types.specs.declared.Typing.TheVariants.{Bool as Bool_case, Null}
use Rattle.types.specs.Answers.{Answer, answer, answer_of, case_of_number, current_in, refused}
use Rattle.typing.specs.Nodes.{created, slot_read}
use Rattle.expressions.specs.Cycle.{Views, Accepted, Is}
use Rattle.expressions.proofs.Lists.{declared_test}
use Rattle.expressions.proofs.Turns.{declared_bool, declared_null, declared_known, is_accepted}
use Rattle.expressions.proofs.TypeNumbers.{type_number_case}
use Rattle.expressions.proofs.Slots.{slot_some, slot_none}

-- ---- T, L, N

module _ (W : World) {γ : Environment} {at scope : ℕ} {S C : List ℕ} (v : Views W γ S scope) where
  pub true_is : Is W (literal literal_true) γ at scope S C (answer Bool_case 0)
  unfolding type_of LooksUp
  true_is = is_accepted _ refl refl (record { views = v; declared = declared_bool; looks = tt })

  pub false_is : Is W (literal literal_false) γ at scope S C (answer Bool_case 0)
  unfolding type_of LooksUp
  false_is = is_accepted _ refl refl (record { views = v; declared = declared_bool; looks = tt })

  pub null_literal_is : Is W (literal literal_null) γ at scope S C (answer Null 0)
  unfolding type_of LooksUp
  null_literal_is = is_accepted _ refl refl (record { views = v; declared = declared_null; looks = tt })

-- ---- I, W

new_is : (P : List Class) (R : List ℕ) (c at : ℕ) (γ : Environment) → get_or R (at * 4 + 1) 0 ≡ c
    → created R (length P) at ≡ answer_of (type_of (world P) (new c) (at + 1) γ)
unfolding created type_of require world world_with
new_is P R c at γ e = rw e (go (leb c (length P)) refl)
  where
    go : (b : Bool) → leb c (length P) ≡ b
        → cond (ltb (length P) c) (refused 4 at) (answer_of (typed (known (class c)) γ 0))
        ≡ answer_of (require b 4 (at + 1) λ _. typed (known (class c)) γ 0)
    go true f = rw (declared_test c (length P) true f)
    go false f = rw (declared_test c (length P) false f)

module _ {p : Program} {R E T A M F : List ℕ} {count : ℕ} (h : Headed R E T A M F p count) where
  abbrev P : List Class
  P = p.classes

  slot_reads : {γ : Environment} {S : List ℕ} {scope : ℕ} (k at : ℕ) → Views (world P) γ S scope
      → scope ≤ length S → get_or R (at * 4 + 1) 0 ≡ k
      → slot_read R S at scope
      ≡ answer_of (need_checked (at_slot γ k) 7 (at + 1) λ s. typed (known s.current) γ 0)
  unfolding need_checked slot_read
  slot_reads {γ} {S} {scope} k at v l e = go (at_slot γ k) refl
    where
      go : (o : Option Slot) → at_slot γ k ≡ o
          → slot_read R S at scope ≡ answer_of (need_checked o 7 (at + 1) λ s. typed (known s.current) γ 0)
      go none q = ⊎_elim (λ m. rw (e, le-leb scope k m))
          (λ m. rw (e, lt-leb scope k m, eq-eqb (current_in (get_or S k 0)) 65535 (slot_none v l k q m).1)) (le_or_less scope k)
      go (some s) q =
          let w = slot_some h v l k s q in
          let t = type_number_case h s.current (v.current k s q) in
          rw (e, lt-leb scope k w.0, ne_eqb (current_in (get_or S k 0)) 65535 (λ z. t.1 (sym w.1 ∙ z)))
          (ap (λ (x : Typing). answer x 0) (ap case_of_number w.1 ∙ t.0))

  pub slot_is : {γ : Environment} {S C : List ℕ} {scope : ℕ} (k at : ℕ) (r : Answer)
      → Views (world P) γ S scope → scope ≤ length S → get_or R (at * 4 + 1) 0 ≡ k
      → r ≡ slot_read R S at scope → Is (world P) (slot k) γ at scope S C r
  unfolding type_of LooksUp
  slot_is {γ} {S} {C} {scope} k at r v l e f = record {
    out = f ∙ slot_reads k at v l e;
    accepted = λ a q. need_checked_inv (at_slot γ k) 7 (at + 1) _ q λ s p w.
        subst (λ (x : Typed). Accepted (world P) (slot k) γ at scope S C x) (accept_injective w)
        (record { views = v; declared = declared_known s.current (v.current k s p); looks = tt });
  }

  pub new_node_is : {γ : Environment} {S C : List ℕ} {scope : ℕ} (c at : ℕ) (r : Answer)
      → Views (world P) γ S scope → get_or R (at * 4 + 1) 0 ≡ c
      → r ≡ created R count at → Is (world P) (new c) γ at scope S C r
  unfolding type_of LooksUp world world_with
  new_node_is {γ} {S} {C} {scope} c at r v e f = record {
    out = f ∙ (ap (λ (n : ℕ). created R n at) (sym h.counted) ∙ new_is P R c at γ e);
    accepted = λ a q. require_inv ((world P).makes c) 4 (at + 1) _ q λ d w.
        subst (λ (x : Typed). Accepted (world P) (new c) γ at scope S C x) (accept_injective w)
        (record { views = v; declared = declared_known (class c) d; looks = tt });
  }
