-- The node R: what its function answers and leaves in the slots is what the definition says. Assumes nothing.
use mathlib.Core.Path.{◌≡◌, refl, sym, ap, ap₂, ◌∙◌}
use mathlib.Core.Bool.{Bool, true, false, cond}
use mathlib.Core.Option.{Option, none, some}
use mathlib.Core.Logic.{⊎_elim}
use mathlib.Core.List.{List, map}
use Prim.Native.Nat.{ℕ, ◌+◌, ◌*◌, ◌≤◌, ◌<◌}
use native.Mathlib.Omega.{arith}
use borrow.Author.Tests.{eq-eqb, eqb-true, eqb-false, leb-false, le-leb, lt-leb, lt-ltb, le-ltb}
use lib.Dec.{eqb, leb}
use lib.ListN.{length, get_or, set as replaced, length-set, length-map}
use lib.Seq.{get_or-set_same, get_or-set_other}
use Rattle.language.specs.Rows.{R_change}
use Rattle.language.specs.Frames.{at_slot}
use Rattle.language.specs.Tree.{Program, DeclaredType, bool, class, type_number, known, change, Class}
use Rattle.language.specs.World.{is_declared_type}
use Rattle.language.specs.Effects.{effect_of}
use Rattle.language.specs.Program.{world, world_with}
use Rattle.language.specs.Environment.{Slot, Environment, with_type}
use Rattle.language.specs.Typing.{can_change, apply_slot, apply_all, after_change}
use Rattle.language.specs.Encoded.{RowAt}
use Rattle.language.proofs.Lines.{le_or_less}
use Rattle.layout.specs.Held.{Headed}
use Rattle.layout.specs.HeldLaws.{few}
use Rattle.types.specs.declared.Typing.TheVariants.{Class as class_case}
use Rattle.types.specs.Answers.{Answer, answer, numbers, slot_number, current_in, with_current, refused}
use Rattle.std.specs.Prelude.{is_ok}
use Rattle.types.specs.Tables.{root_in, applied_slot}
use Rattle.typing.specs.Nodes.{PreChange, PostChange, changed_answer, number_after}
use Rattle.expressions.specs.Cycle.{Views, Is}
use Rattle.expressions.proofs.Worlds.{class_low, low_class, sound, not_255}
use Rattle.expressions.proofs.Turns.{declared_known, is_refused, is_accepted}
use Rattle.expressions.proofs.TypeNumbers.{not_absent, root_is, can_change_is}
use Rattle.expressions.proofs.Environments.{fine_with, get_d_map, numbers_with, at_map}
use Rattle.expressions.proofs.Slots.{views_of, views_fine, views_long, views_at, slot_some, slot_none}
use Rattle.expressions.proofs.Slots.{known_slots, numbers_applied, fine_applied, whole_some}
use Rattle.expressions.proofs.Slots.{with_type_number}
use Rattle.expressions.proofs.NodeTyping.{change_no_name, change_no_slot, change_bool_slot}
use Rattle.expressions.proofs.NodeTyping.{change_cannot}
use Rattle.expressions.proofs.NodeTyping.{change_can, looks_change}

module _ {p : Program} {R E T A M F : List ℕ} {count : ℕ} (h : Headed R E T A M F p count) where
  abbrev P : List Class
  P = p.classes

  module _ (S : List ℕ) (k d at scope : ℕ) where
    answer-no-name : leb d (world P).count ≡ false → changed_answer T S count at scope k d ≡ refused 4 at
    unfolding changed_answer world world_with
    answer-no-name e = rw (lt-ltb count d (omega (arith, leb-false d (length P) e, h.counted)))

    answer-no-slot : d ≤ count → (k < scope → current_in (get_or S k 0) ≡ 65535)
        → changed_answer T S count at scope k d ≡ refused 7 at
    unfolding changed_answer
    answer-no-slot l f = ⊎_elim
        (λ (m : scope ≤ k). rw (le-ltb count d l, le-leb scope k m))
        (λ (m : k < scope). rw (
          le-ltb count d l,
          lt-leb scope k m,
          eq-eqb (current_in (get_or S k 0)) 65535
              (f m),
        ))
        (le_or_less scope k)

    answer-bool : d ≤ count → k < scope → current_in (get_or S k 0) ≡ 255
        → changed_answer T S count at scope k d ≡ refused 11 at
    unfolding changed_answer
    answer-bool l m e = rw (le-ltb count d l, lt-leb scope k m, e)

    module _ (c : ℕ) (l : d ≤ count) (m : k < scope) (e : current_in (get_or S k 0) ≡ c) (lc : c ≤ count) where
      answer-cannot : can_change (world P) c d ≡ false → changed_answer T S count at scope k d ≡ refused 11 at
      unfolding changed_answer
      answer-cannot f = rw (
        le-ltb count d l,
        lt-leb scope k m,
        e,
        not_absent h c lc,
        not_255 h c lc,
        can_change_is h c d lc l ∙ f,
      )

      answer-change : can_change (world P) c d ≡ true
          → changed_answer T S count at scope k d ≡ answer (class_case d) (effect_of ((world P).root d))
      unfolding changed_answer
      answer-change f = rw (
        le-ltb count d l,
        lt-leb scope k m,
        e,
        not_absent h c lc,
        not_255 h c lc,
        can_change_is h c d lc l ∙ f,
        root_is h d l,
      )

  change_views : (k d scope : ℕ) (γ : Environment) (S S' : List ℕ) (s : Slot) → at_slot γ k ≡ some s
      → Views (world P) γ S scope → scope ≤ length S
      → d ≤ count → length S' ≡ length S → ((i : ℕ) → i < scope → get_or S' i 0 ≡ number_after T S k d i)
      → Views (world P) (after_change (world P) γ k s d) S' scope
  unfolding number_after
  change_views k d scope γ S S' s es v l ld el f =
      views_of (world P) (after_change (world P) γ k s d) S' scope
      (fine_with (world P) k (with_type (class d) s) (fine_applied h φ (views_fine (world P) v))
      (low_class h d ld, v.declared k s es))
      (omega (arith, l, el))
      (ap length list ∙ (length-set (map (applied_slot T φ) (numbers γ)) k changed ∙
      (length-map (numbers γ) (applied_slot T φ) ∙ views_long v l)))
      (λ i m. f i m ∙ (pick i m (eqb i k) refl ∙ sym (ap (λ (x : List ℕ). get_or x i 0) list)))
    where
      φ : ℕ
      φ = effect_of ((world P).root d)

      changed : ℕ
      changed = slot_number (with_type (class d) s)

      list : numbers (after_change (world P) γ k s d)
          ≡ replaced (map (applied_slot T φ) (numbers γ)) k changed
      list =
          numbers_with (apply_all (world P) φ γ) k (with_type (class d) s) (apply_slot (world P) φ s)
          (at_map (apply_slot (world P) φ) γ k s es)
          ∙ ap (λ (x : List ℕ). replaced x k changed) (numbers_applied h φ (views_fine (world P) v))

      -- what the slot has is its number with the target's class
      whole : with_current (get_or S k 0) d ≡ changed
      whole = ap (λ (x : ℕ). with_current x d) (whole_some v l k s es).1
          ∙ sym (with_type_number h s (v.current k s es) (class d) (low_class h d ld))

      pick : (i : ℕ) → i < scope → (b : Bool) → eqb i k ≡ b
          → cond (eqb i k) (with_current (get_or S i 0) d)
          (applied_slot T (effect_of (root_in T d)) (get_or S i 0))
          ≡ get_or (replaced (map (applied_slot T φ) (numbers γ)) k changed) i 0
      pick i m true e =
          let q : i ≡ k = eqb-true i k e in
          ap (λ (b : Bool). cond b (with_current (get_or S i 0) d)
          (applied_slot T (effect_of (root_in T d)) (get_or S i 0))) e
          ∙ (ap (λ (x : ℕ). with_current (get_or S x 0) d) q
          ∙ (whole
          ∙ (sym (get_or-set_same (map (applied_slot T φ) (numbers γ)) k changed 0
          (omega (arith, q, m, length-map (numbers γ) (applied_slot T φ), views_long v l)))
          ∙ ap (λ (x : ℕ). get_or (replaced (map (applied_slot T φ) (numbers γ)) k changed) x 0) (sym q))))
      pick i m false e =
          ap (λ (b : Bool). cond b (with_current (get_or S i 0) d)
          (applied_slot T (effect_of (root_in T d)) (get_or S i 0))) e
          ∙ (ap₂ (λ (x : ℕ) (y : ℕ). applied_slot T (effect_of x) y) (root_is h d ld) (views_at v l i m)
          ∙ (sym (get_d_map (applied_slot T φ) (numbers γ) i (omega (arith, m, views_long v l)))
          ∙ sym (get_or-set_other (map (applied_slot T φ) (numbers γ)) k i changed 0 (eqb-false i k e))))

  pub pre_change : (k d at scope : ℕ) (γ : Environment) (S : List ℕ) → RowAt R at R_change k d
      → Views (world P) γ S scope
      → scope ≤ length S → PreChange R T S count at scope
  pre_change k d at scope γ S n v l = record {
    row = (n.within, omega (arith, n.within, h.here.short));
    few = few h;
    long = (sound h).long;
    roots = λ j m. omega (arith, (sound h).roots j m, few h);
    scoped = l;
    slots = known_slots h v l;
  }

  pub change_is : (k d at scope : ℕ) (γ : Environment) (S S' C : List ℕ) (r : Answer)
      → RowAt R at R_change k d
      → Views (world P) γ S scope → scope ≤ length S → PostChange R T S S' count at scope r
      → Is (world P) (change k d) γ at scope S' C r
  change_is k d at scope γ S S' C r n v l p = by_name (leb d (world P).count) refl
    where
      here : changed_answer T S count at scope (get_or R (at * 4 + 1) 0) (get_or R (at * 4 + 2) 0)
          ≡ changed_answer T S count at scope k d
      here = ap₂ (λ (x : ℕ) (y : ℕ). changed_answer T S count at scope x y) n.first n.second

      by-change : d ≤ count → (s : Slot) → at_slot γ k ≡ some s → leb d (world P).count ≡ true → (c : ℕ)
          → s.current ≡ class c → c ≤ count → (b : Bool)
          → can_change (world P) c d ≡ b → Is (world P) (change k d) γ at scope S' C r
      by-change ld s es el c ec lc false f =
          is_refused 11 (at + 1) (change_cannot (world P) k d (at + 1) γ s c el es ec f)
          (p.out ∙ here ∙ answer-cannot S k d at scope c ld (slot_some h v l k s es).0
          ((slot_some h v l k s es).1 ∙ ap type_number ec) lc f)
      by-change ld s es el c ec lc true f =
          let o : r ≡ answer (class_case d) (effect_of ((world P).root d)) =
          p.out ∙ here ∙ answer-change S k d at scope c ld (slot_some h v l k s es).0
          ((slot_some h v l k s es).1 ∙ ap type_number ec) lc f in
          is_accepted (record {
            type = known (class d);
            slots = after_change (world P) γ k s d;
            effect = effect_of ((world P).root d);
          })
          (change_can (world P) k d (at + 1) γ s c el es ec f) o
          (record {
            views = change_views k d scope γ S S' s es v l ld p.long
                (λ i m. p.slots (ap is_ok o) i m
                ∙ ap₂ (λ (x : ℕ) (y : ℕ). number_after T S x y i) n.first n.second);
            declared = declared_known (class d) (low_class h d ld);
            looks = looks_change (world P) C k d γ at;
          })

      by-type : d ≤ count → (s : Slot) → at_slot γ k ≡ some s → leb d (world P).count ≡ true
          → (t : DeclaredType) → s.current ≡ t
          → Is (world P) (change k d) γ at scope S' C r
      by-type ld s es el bool ec =
          is_refused 11 (at + 1) (change_bool_slot (world P) k d (at + 1) γ s el es ec)
          (p.out ∙ here ∙ answer-bool S k d at scope ld (slot_some h v l k s es).0
          ((slot_some h v l k s es).1 ∙ ap type_number ec))
      by-type ld s es el (class c) ec =
          by-change ld s es el c ec
          (class_low h c (ap (is_declared_type (world P)) (sym ec) ∙ v.current k s es))
          (can_change (world P) c d) refl

      by-slot : d ≤ count → leb d (world P).count ≡ true → (o : Option Slot) → at_slot γ k ≡ o
          → Is (world P) (change k d) γ at scope S' C r
      by-slot ld el none es =
          is_refused 7 (at + 1) (change_no_slot (world P) k d (at + 1) γ el es)
          (p.out ∙ here ∙ answer-no-slot S k d at scope ld (λ m. (slot_none v l k es m).1))
      by-slot ld el (some s) es = by-type ld s es el s.current refl

      by_name : (b : Bool) → leb d (world P).count ≡ b → Is (world P) (change k d) γ at scope S' C r
      by_name false e =
          is_refused 4 (at + 1) (change_no_name (world P) k d (at + 1) γ e)
          (p.out ∙ here ∙ answer-no-name S k d at scope e)
      by_name true e = by-slot (class_low h d e) e (at_slot γ k) refl
