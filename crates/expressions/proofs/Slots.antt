-- Slots that hold an environment's numbers: the number of each, and of all after an effect. Assumes nothing.
use mathlib.Core.Path.{◌≡◌, refl, sym, ap, subst, ◌∙◌}
use mathlib.Core.Option.{Option, none, some}
use mathlib.Core.List.{List, [], ◌∷◌, map}
use Prim.Native.Nat.{ℕ, zero, suc, ◌≤◌, ◌<◌}
use native.Mathlib.Omega.{arith}
use lib.ListN.{length, get_or, take, length-map}
use lib.Seq.{ext_get_or, get_or-take, length-take-le}
use mathlib.Core.Bool.{true}
use Rattle.language.specs.Lists.{nth, Never, nth_lt, nth_some}
use Rattle.language.specs.Frames.{at_slot}
use Rattle.language.specs.Tree.{Program, DeclaredType, bool, class, type_number, Class}
use Rattle.language.specs.World.{World, is_declared_type}
use Rattle.language.specs.Program.{world}
use Rattle.language.specs.Environment.{Slot, Environment, with_type}
use Rattle.language.specs.Typing.{apply_slot, apply_all}
use Rattle.language.specs.Effects.{apply}
use Rattle.layout.specs.Held.{Headed}
use Rattle.layout.specs.HeldLaws.{few}
use Rattle.types.specs.Answers.{numbers, this_number, absent, slot_of, current_in, slot_number, with_current}
use Rattle.types.specs.Answers.{declared_in, half, fresh_in}
use Rattle.types.specs.Tables.{Changed, Known, a_class, a_bool, an_absence, applied_number, applied_slot}
use Rattle.expressions.specs.Cycle.{Views}
use Rattle.expressions.proofs.Worlds.{class_low}
use Rattle.expressions.proofs.Lists.{number_at}
use Rattle.expressions.proofs.TypeNumbers.{type_number_case, apply_number, apply_declared}
use Rattle.expressions.proofs.Environments.{Fine, fine_of, fine_at, fine_map, numbers_map, get_d_map}
use Rattle.expressions.proofs.Environments.{fresh_number}
use Rattle.types.proofs.Halves.{current_slot, with_slot, fresh_slot_of}

-- from the numbers to the environment, and back
module _ (W : World) where
  pub views_of : (γ : Environment) (S : List ℕ) (scope : ℕ) → Fine W γ → scope ≤ length S
      → length (numbers γ) ≡ scope
      → ((k : ℕ) → k < scope → get_or S k 0 ≡ get_or (numbers γ) k 0) → Views W γ S scope
  views_of γ S scope g l e f = record {
    same =
        let a : length (take scope S) ≡ scope = length-take-le scope S l in
        ext_get_or 0 (take scope S) (numbers γ) (a ∙ sym e)
        (λ i m. let q : i < scope = omega (arith, a) in get_or-take scope S i 0 q ∙ f i q);
    current = λ k s e. (fine_at W g k s e).0;
    declared = λ k s e. (fine_at W g k s e).1;
  }

  pub views_fine : {γ : Environment} {S : List ℕ} {scope : ℕ} → Views W γ S scope → Fine W γ
  views_fine {γ} v = fine_of W γ (λ k s e. (v.current k s e, v.declared k s e))

-- the number in a slot
list_none : (l : List Slot) (k : ℕ) → nth l k ≡ none → length (map slot_number l) ≤ k
unfolding nth
list_none [] k e = omega arith
list_none (x ∷ l) zero e = absurd (Never (sym e))
list_none (x ∷ l) (suc k) e = omega (arith, list_none l k e)

numbers_some : (γ : Environment) (k : ℕ) (s : Slot) → at_slot γ k ≡ some s
    → (k < length (numbers γ)) × (get_or (numbers γ) k 0 ≡ slot_number s)
unfolding numbers
numbers_some γ zero s e = (omega arith, ap this_number e)
numbers_some γ (suc k) s e = (
  omega (arith, nth_lt γ.slots k s e, length-map γ.slots slot_number),
  number_at slot_number γ.slots k s e,
)

numbers_none : (γ : Environment) (k : ℕ) → at_slot γ k ≡ none → k < length (numbers γ)
    → (k ≡ 0) × (get_or (numbers γ) k 0 ≡ slot_of absent absent)
unfolding numbers
numbers_none γ zero e l = (refl, ap this_number e)
numbers_none γ (suc k) e l = absurd (omega (arith, list_none γ.slots k e, l))

module _ {W : World} {γ : Environment} {S : List ℕ} {scope : ℕ} (v : Views W γ S scope) (l : scope ≤ length S)
  where
    pub views_long : length (numbers γ) ≡ scope
    views_long = ap length (sym v.same) ∙ length-take-le scope S l

    pub views_at : (k : ℕ) → k < scope → get_or S k 0 ≡ get_or (numbers γ) k 0
    views_at k m = sym (get_or-take scope S k 0 m) ∙ ap (λ (x : List ℕ). get_or x k 0) v.same

    -- a slot in scope has its types' numbers
    pub whole_some : (k : ℕ) (s : Slot) → at_slot γ k ≡ some s → (k < scope) × (get_or S k 0 ≡ slot_number s)
    whole_some k s e = let h = numbers_some γ k s e in let m : k < scope = omega (arith, h.0, views_long) in
        (m, views_at k m ∙ h.1)

    -- what is no slot is out of scope, or an absent `this`
    pub slot_none : (k : ℕ) → at_slot γ k ≡ none → k < scope → (k ≡ 0) × (current_in (get_or S k 0) ≡ absent)
    unfolding current_in slot_of
    slot_none k e m = let h = numbers_none γ k e (omega (arith, views_long)) in
        (h.0, ap current_in (views_at k m ∙ h.1))

module _ {p : Program} {R E T A M F : List ℕ} {count : ℕ} (h : Headed R E T A M F p count) where
  abbrev P : List Class
  P = p.classes

  -- the number of a declared type is below half
  pub type_small : (t : DeclaredType) → is_declared_type (world P) t ≡ true → type_number t < half
  type_small bool d = omega arith
  type_small (class c) d = omega (arith, class_low h c d, few h)

  -- the number of a slot's current type
  pub slot_some : {γ : Environment} {S : List ℕ} {scope : ℕ} (v : Views (world P) γ S scope)
      → scope ≤ length S
      → (k : ℕ) (s : Slot) → at_slot γ k ≡ some s
      → (k < scope) × (current_in (get_or S k 0) ≡ type_number s.current)
  slot_some v l k s e = let w = whole_some v l k s e in (
    w.0,
    ap current_in w.1
        ∙ current_slot (type_number s.declared) (type_number s.current)
        (type_small s.current (v.current k s e)),
  )

  -- the number of a slot that is no `this` is bool's or a class's
  pub slot_low : {γ : Environment} {S : List ℕ} {scope : ℕ} → Views (world P) γ S scope → scope ≤ length S
      → (k : ℕ) → (k ≡ 0 → ⊥) → k < scope → (current_in (get_or S k 0) ≡ 255 → ⊥) → current_in (get_or S k 0) ≤ 64
  slot_low {γ} {S} {scope} v l k z m n = go (at_slot γ k) refl
    where
      go : (o : Option Slot) → at_slot γ k ≡ o → current_in (get_or S k 0) ≤ 64
      go none e = absurd (z (slot_none v l k e m).0)
      go (some s) e =
          let w = slot_some v l k s e in
          let t = type_number_case h s.current (v.current k s e) in
          omega (arith, w.1, t.2 (λ y. n (w.1 ∙ y)))

  -- the number of any slot
  pub known_slots : {γ : Environment} {S : List ℕ} {scope : ℕ} → Views (world P) γ S scope → scope ≤ length S
      → (k : ℕ) → k < scope → Known count (current_in (get_or S k 0))
  known_slots {γ} {S} {scope} v l k m = go (at_slot γ k) refl
    where
      of-type : (s : Slot) → at_slot γ k ≡ some s → (t : DeclaredType) → s.current ≡ t
          → Known count (type_number t)
      of-type s e bool q = a_bool
      of-type s e (class c) q =
          a_class (class_low h c (ap (is_declared_type (world P)) (sym q) ∙ v.current k s e))

      go : (o : Option Slot) → at_slot γ k ≡ o → Known count (current_in (get_or S k 0))
      go none e = subst (Known count) (sym (slot_none v l k e m).1) an_absence
      go (some s) e = subst (Known count) (sym (slot_some v l k s e).1) (of-type s e s.current refl)

  -- the numbers of fresh slots
  pub fresh_numbers : (ts : List DeclaredType)
      → ((i : ℕ) (t : DeclaredType) → nth ts i ≡ some t → is_declared_type (world P) t ≡ true)
      → (j : ℕ) → j < length ts → fresh_in (get_or (map type_number ts) j 0) ≡ get_or (map fresh_number ts) j 0
  fresh_numbers ts d j l =
      let t = nth_some ts j l in
      ap fresh_in (number_at type_number ts j t.0 t.1)
      ∙ (fresh_slot_of (type_number t.0) (type_small t.0 (d j t.0 t.1))
      ∙ sym (number_at fresh_number ts j t.0 t.1))

  applied_absent : (φ : ℕ) → applied_slot T φ (slot_of absent absent) ≡ slot_of absent absent
  unfolding applied_slot applied_number slot_of current_in with_current declared_in
  applied_absent φ = refl

  -- a slot with another current type
  pub with_type_number : (s : Slot) → is_declared_type (world P) s.current ≡ true → (t : DeclaredType)
      → is_declared_type (world P) t ≡ true
      → slot_number (with_type t s) ≡ with_current (slot_number s) (type_number t)
  with_type_number s d t e =
      sym (with_slot (type_number s.declared) (type_number s.current) (type_number t)
      (type_small s.current d) (type_small t e))

  -- a slot's current type in its number
  pub current_is : (s : Slot) → is_declared_type (world P) s.current ≡ true
      → type_number s.current ≡ current_in (slot_number s)
  current_is s d =
      sym (current_slot (type_number s.declared) (type_number s.current) (type_small s.current d))

  applied_number_slot : (φ : ℕ) (s : Slot) → is_declared_type (world P) s.current ≡ true
      → slot_number (apply_slot (world P) φ s) ≡ applied_slot T φ (slot_number s)
  unfolding applied_slot
  applied_number_slot φ s d =
      with_type_number s d (apply (world P) φ s.current) (apply_declared h φ s.current d)
      ∙ ap (with_current (slot_number s)) (apply_number h φ s.current d
      ∙ ap (applied_number T φ) (current_is s d))

  -- slots after an effect
  pub numbers_applied : (φ : ℕ) {γ : Environment} → Fine (world P) γ
      → numbers (apply_all (world P) φ γ) ≡ map (applied_slot T φ) (numbers γ)
  numbers_applied φ g =
      numbers_map (world P) (apply_slot (world P) φ) (applied_slot T φ) (applied_absent φ)
      (λ s d. applied_number_slot φ s d.0) g

  pub fine_applied : (φ : ℕ) {γ : Environment} → Fine (world P) γ → Fine (world P) (apply_all (world P) φ γ)
  fine_applied φ g = fine_map (world P) (apply_slot (world P) φ)
      (λ s d. (apply_declared h φ s.current d.0, d.1)) g

  pub applied_views : (φ : ℕ) {γ : Environment} {S S' : List ℕ} {scope : ℕ} → Views (world P) γ S scope
      → scope ≤ length S
      → Changed S S' scope (λ k. applied_slot T φ (get_or S k 0))
      → Views (world P) (apply_all (world P) φ γ) S' scope
  applied_views φ {γ} {S} {S'} {scope} v l c =
      views_of (world P) (apply_all (world P) φ γ) S' scope (fine_applied φ (views_fine (world P) v))
      (omega (arith, l, c.long))
      (ap length (numbers_applied φ (views_fine (world P) v))
      ∙ (length-map (numbers γ) (applied_slot T φ) ∙ views_long v l))
      (λ k m. c.below k m ∙ (ap (applied_slot T φ) (views_at v l k m)
      ∙ (sym (get_d_map (applied_slot T φ) (numbers γ) k (omega (arith, m, views_long v l)))
      ∙ sym (ap (λ (x : List ℕ). get_or x k 0) (numbers_applied φ (views_fine (world P) v))))))
