-- The slots at the start of a method's body and of the start block. Assumes nothing.
use mathlib.Core.Path.{◌≡◌, refl, sym, ap, subst, ◌∙◌}
use mathlib.Core.Bool.{true}
use mathlib.Core.Option.{some}
use mathlib.Core.List.{List, [], ◌∷◌, map}
use Prim.Native.Nat.{ℕ, zero, suc, ◌+◌, ◌*◌, ◌≤◌, ◌<◌}
use native.Mathlib.Omega.{arith}
use lib.ListN.{length, get_or, length-map}
use Rattle.language.specs.Lists.{nth}
use Rattle.language.specs.Tree.{DeclaredType, class, type_number, Program}
use Rattle.language.specs.World.{World, is_declared_type}
use Rattle.language.specs.Program.{world}
use Rattle.language.specs.Environment.{method_environment, start_environment}
use Rattle.language.specs.Layout.{start_row}
use Rattle.layout.specs.Held.{Headed}
use Rattle.types.specs.declared.slots.Scope.{Scope}
use Rattle.types.specs.Answers.{Answer, numbers, slot_of, fresh_in, absent, half}
use Rattle.expressions.specs.Cycle.{Given, Views, Pre, Post, Is}
use Rattle.bodies.specs.Whole.{BodiesReady}
use Rattle.expressions.proofs.Worlds.{low_class}
use Rattle.expressions.proofs.Turns.{pre_of, post_is}
use Rattle.bodies.proofs.Within.{start_in_form}
use Rattle.expressions.proofs.Environments.{AllGood, fresh_good, fresh_number, list_fresh}
use Rattle.expressions.proofs.Slots.{views_of, type_small, fresh_numbers}
use Rattle.types.proofs.Halves.{fresh_slot_of}

-- The slots at the start of a method's body.
method_numbers : (owner : ℕ) (ts : List DeclaredType)
    → numbers (method_environment owner ts) ≡ slot_of owner owner ∷ map fresh_number ts
unfolding numbers
method_numbers owner ts = ap (λ (l : List ℕ). slot_of owner owner ∷ l) (list_fresh ts)

pub method_views : {p : Program} {R E T A M F : List ℕ} {count : ℕ} → Headed R E T A M F p count
    → (owner : ℕ) → owner ≤ length p.classes → (ts : List DeclaredType)
    → ((i : ℕ) (t : DeclaredType) → nth ts i ≡ some t → is_declared_type (world p.classes) t ≡ true)
    → (S : List ℕ)
    → 1 + length ts ≤ length S → get_or S 0 0 ≡ fresh_in owner
    → ((i : ℕ) → i < length ts → get_or S (1 + i) 0 ≡ fresh_in (get_or (map type_number ts) i 0))
    → Views (world p.classes) (method_environment owner ts) S (1 + length ts)
method_views {p} h owner l ts d S ls e f =
    views_of (world p.classes) (method_environment owner ts) S (1 + length ts)
    (record {
      this = (here, here);
      slots = fresh_good (world p.classes) ts d;
    })
    ls
    (let z : suc (length ts) ≡ 1 + length ts = omega arith in
    ap length (method_numbers owner ts) ∙ (ap suc (length-map ts fresh_number) ∙ z))
    (λ k m. at k m ∙ sym (ap (λ (x : List ℕ). get_or x k 0) (method_numbers owner ts)))
  where
    here : is_declared_type (world p.classes) (class owner) ≡ true
    here = low_class h owner (omega (arith, h.counted))

    at : (k : ℕ) → k < 1 + length ts → get_or S k 0 ≡ get_or (slot_of owner owner ∷ map fresh_number ts) k 0
    at zero m = e ∙ fresh_slot_of owner (type_small h (class owner) here)
    at (suc k) m =
        let z : 1 + k ≡ suc k = omega arith in
        subst (λ (i : ℕ). get_or S i 0 ≡ get_or (map fresh_number ts) k 0) z
        (f k (omega (arith, m)) ∙ fresh_numbers h ts d k (omega (arith, m)))

-- The scopes at the start of a method's body and of the start block.
abbrev pub method_scope : ℕ → ℕ → ℕ → ℕ → Scope
method_scope count owner n width = record {
  count = count;
  class = owner;
  size = n + 1;
  width = width;
  top = width;
}

abbrev pub start_scope : ℕ → ℕ → Scope
start_scope count width = record { count = count; class = 0; size = 1; width = width; top = width }

-- The slots of all levels.
pub level_first : (width depth : ℕ) → width * (depth + 1) ≡ width + width * depth
level_first width depth = omega arith

-- The start block: one slot, which holds no `this`.
start_views : (W : World) (S : List ℕ) → 1 ≤ length S → get_or S 0 0 ≡ absent * half + absent
    → Views W start_environment S 1
unfolding numbers AllGood slot_of
start_views W S l e = views_of W start_environment S 1 (record { this = tt; slots = tt }) l refl at
  where
    at : (k : ℕ) → k < 1 → get_or S k 0 ≡ get_or ((absent * half + absent) ∷ []) k 0
    at zero m = e
    at (suc k) m = absurd (omega (arith, m))

-- There is a slot for `this`.
pub ready_slots : {R E T A M F S : List ℕ} {count many start width : ℕ}
    → BodiesReady R E T A M F S count many start width → 1 ≤ length S
ready_slots {width = width} r =
    omega (arith, r.space.slots, level_first width r.depth, r.space.arguments)

-- What is given of the start block, with `this` absent.
module _ {R E T A M F S S₁ : List ℕ} {count many start width : ℕ}
    (r : BodiesReady R E T A M F S count many start width) (ls : length S₁ ≡ length S)
    (e : get_or S₁ 0 0 ≡ absent * half + absent) where
  start_given : Given R E T A M F S₁ (start + 1) (start_scope count width) r.p r.p.start
      start_environment r.depth
  start_given = let one = level_first width r.depth in record {
    headed = r.headed;
    encoded = rw r.started r.headed.here.start;
    in_form = start_in_form r.headed.here r.space;
    views = start_views (world r.p.classes) S₁ (omega (arith, ready_slots r, ls)) e;
    room = record {
      this = omega arith;
      scoped = omega (arith, r.space.arguments);
      arguments = r.space.arguments;
      above = omega arith;
      room = omega (arith, r.space.slots, ls, one);
    };
  }

  pub start_pre : Pre R E T A M F S₁ (start + 1) (start_scope count width)
  start_pre = pre_of start_given

  pub start_is : {C₁ S₂ C₂ : List ℕ} {a : Answer}
      → Post R E T A M F S₁ C₁ S₂ C₂ (start + 1) (start_scope count width) a
      → Is (world r.p.classes) r.p.start start_environment (start_row r.p + 1) 1 S₂ C₂ a
  start_is {S₂ = S₂} {C₂} {a} q = subst
      (λ (x : ℕ). Is (world r.p.classes) r.p.start start_environment (x + 1) 1 S₂ C₂ a) r.started
      (post_is q start_given)
