-- The node B: the locals it opens, and that what its function answers is what the definition says.
-- Assumes nothing.
use mathlib.Core.Path.{◌≡◌, refl, sym, ap, ap₂, subst, ◌∙◌}
use mathlib.Core.Bool.{Bool, true, false, cond}
use mathlib.Core.Option.{some}
use mathlib.Core.Logic.{◌⊎◌, inl, inr, ⊎_elim}
use mathlib.Core.List.{List, [], ◌∷◌, ◌++◌, map}
use Prim.Native.Nat.{ℕ, zero, suc, ◌+◌, ◌-◌, ◌*◌, ◌≤◌, ◌<◌}
use native.Mathlib.Omega.{arith}
use lib.Dec.{eqb, leb}
use lib.ListN.{length, get_or, take, length-append, length-map, get_or-append}
use lib.Seq.{get_or-append-add, take-take}
use Rattle.language.specs.Results.{Checked, accept, refuse, Pass, passed, bind_checked, require, require_inv}
use Rattle.language.specs.Lists.{nth, Never, inj}
use Rattle.language.specs.Rows.{B_block, V_local}
use Rattle.language.specs.Frames.{opened, closed, at_slot}
use Rattle.language.specs.Tree.{Program, DeclaredType, bool, class, type_number, type_of_number, ExprType}
use Rattle.language.specs.Tree.{null_type, Exprs, block, count as how_many, Class}
use Rattle.language.specs.World.{World, is_declared_type}
use Rattle.language.specs.Effects.{join}
use Rattle.language.specs.Program.{world, world_with}
use Rattle.language.specs.Environment.{Environment, fresh_slot, Slot}
use Rattle.language.specs.Typing.{TypedAll, typed, last_type, locals_declared, type_all}
use Rattle.language.specs.Encoded.{RowAt, LinesAt, TypesAt}
use Rattle.language.specs.LookupClasses.{LooksUpAll}
use Rattle.language.proofs.Lines.{each_line, le_or_less}
use Rattle.language.specs.WellFormed.{TypeInForm, Each, each_cons}
use Rattle.layout.specs.Held.{Headed}
use Rattle.std.specs.Prelude.{Result, Ok, Err}
use Rattle.language.specs.declared.Refusal.{Refusal}
use Rattle.language.specs.Refusals.{refusal, result_of}
use Rattle.language.proofs.Refusals.{result_err}
use Rattle.types.specs.Answers.{Answer, answer, answer_of, typing_case, numbers, fresh_in}
use Rattle.types.specs.Answers.{names_type}
use Rattle.typing.specs.Nodes.{opening, PreOpen, PostOpen}
use Rattle.expressions.specs.Cycle.{Views, Declared, AcceptedAll, Is}
use Rattle.expressions.proofs.EffectLaws.{none_join}
use Rattle.expressions.proofs.Turns.{declared_null, is_refused, is_accepted, bind_refused}
use Rattle.expressions.proofs.Turns.{bind_accepted}
use Rattle.expressions.proofs.TypeLines.{TypeAt, types_number}
use Rattle.expressions.proofs.Environments.{fine_at, fine_opened, fine_closed, numbers_opened}
use Rattle.expressions.proofs.Environments.{numbers_closed, numbers_length, fresh_number, Good}
use Rattle.expressions.proofs.Environments.{fresh_good}
use Rattle.expressions.proofs.Slots.{views_of, views_fine, views_long, views_at, fresh_numbers}
use Rattle.expressions.proofs.NodeTyping.{block_refused, block_inner, block_done, looks_block}

-- The answer to locals that are declared, or refused.
abbrev pass_answer : Pass → Result (Unit {0}) Refusal
pass_answer q = result_of (λ (u : Unit {0}). u) q

-- Types that are their numbers' types.
proper_class : (c : ℕ) → type_of_number (type_number (class c)) ≡ class c → eqb c 255 ≡ false
proper_class c e = go (eqb c 255) refl
  where
    go : (b : Bool) → eqb c 255 ≡ b → eqb c 255 ≡ false
    go false q = q
    go true q = absurd (bool-class c (sym (ap (λ (b : Bool). cond b bool (class c)) q) ∙ e))
      where
        bool-class : (c : ℕ) → bool ≡ class c → ⊥
        bool-class c e = let z : ◌≡◌ {A = ℕ} 0 1 = cc in omega arith

locals_inside : (R : List ℕ) (ts : List DeclaredType) (row : ℕ) → row * 4 ≤ length R
    → TypesAt V_local R ts row
    → (row + length ts) * 4 ≤ length R
locals_inside R ts row l n = ⊎_elim (λ (z : length ts ≤ 0). omega (arith, l, z))
    (λ (z : 0 < length ts). omega (
      arith,
      z,
      each_line (TypeAt V_local R) (λ i. i * 4 + 3 < length R)
          (λ t i h. h.within) ts row n (length ts - 1) (omega (arith, z)),
    ))
    (le_or_less (length ts) 0)

-- A list's last type is declared where all are.
last_declared : (W : World) (t : ExprType) (us : List ExprType) → Declared W t
    → ((i : ℕ) (u : ExprType) → nth us i ≡ some u → Declared W u) → Declared W (last_type t us)
unfolding nth
last_declared W t [] d f = d
last_declared W t (u ∷ us) d f = last_declared W u us (f 0 u refl) (λ i v e. f (suc i) v e)

pass_tt : (q : Pass) → Ok tt ≡ pass_answer q → q ≡ passed
pass_tt (accept tt) e = refl
pass_tt (refuse n l) e = absurd (cc)

module _ {p : Program} {R E T A M F : List ℕ} {count : ℕ} (h : Headed R E T A M F p count) where
  abbrev P : List Class
  P = p.classes

  names_is : (t : DeclaredType) → type_of_number (type_number t) ≡ t
      → names_type count (type_number t) ≡ is_declared_type (world P) t
  unfolding names_type world world_with
  names_is bool e = refl
  names_is (class c) e = rw (proper_class c e) (ap (leb c) (sym h.counted))

  opening_is : (ts : List DeclaredType) (row : ℕ) → TypesAt V_local R ts row → Each TypeInForm ts
      → opening R count row (length ts) ≡ pass_answer (locals_declared (world P) (row + 1) ts)
  unfolding opening locals_declared LinesAt require
  opening_is [] row n f = refl
  opening_is (t ∷ ts) row n (each_cons f fs) =
      ap (λ (b : Bool). cond b (opening R count (row + 1) (length ts)) (Err (refusal 4 (row + 1))))
      (ap (names_type count) n.0.first ∙ names_is t f.back)
      ∙ go (opening_is ts (row + 1) n.1 fs) (is_declared_type (world P) t)
    where
      go : opening R count (row + 1) (length ts) ≡ pass_answer (locals_declared (world P) (row + 1 + 1) ts)
          → (b : Bool)
          → cond b (opening R count (row + 1) (length ts)) (Err (refusal 4 (row + 1)))
          ≡ pass_answer (require b 4 (row + 1) λ _. locals_declared (world P) (row + 1 + 1) ts)
      go rec true = rec
      go rec false = refl

  locals_at : (ts : List DeclaredType) (l : ℕ) → locals_declared (world P) l ts ≡ passed
      → (i : ℕ) (t : DeclaredType) → nth ts i ≡ some t → is_declared_type (world P) t ≡ true
  unfolding locals_declared nth
  locals_at [] l e i t q = absurd (Never q)
  locals_at (u ∷ ts) l e zero t q = require_inv (is_declared_type (world P) u) 4 l _ e λ d e.
      subst (λ (x : DeclaredType). is_declared_type (world P) x ≡ true) (inj q) d
  locals_at (u ∷ ts) l e (suc i) t q = require_inv (is_declared_type (world P) u) 4 l _ e λ d e.
      locals_at ts (l + 1) e i t q

  pub pre_open : (ts : List DeclaredType) (es : Exprs) (at scope v : ℕ) (S : List ℕ)
      → RowAt R at B_block (length ts) (how_many es) → TypesAt V_local R ts (at + 1)
      → v ≡ get_or R (at * 4 + 1) 0
      → scope + length ts ≤ length S → PreOpen R S at scope v
  pre_open ts es at scope v S n ln ev l =
      let e : v ≡ length ts = ev ∙ n.first in
      let i = locals_inside R ts (at + 1) (omega (arith, n.within)) ln in
      record {
        rows = omega (arith, e, i);
        low = omega (arith, e, i, h.here.short);
        slots = omega (arith, e, l);
      }

  pub open_refused : (ts : List DeclaredType) (es : Exprs) (at scope v : ℕ) (γ : Environment)
      (S S' C : List ℕ) (f : Refusal)
      → RowAt R at B_block (length ts) (how_many es) → TypesAt V_local R ts (at + 1)
      → v ≡ get_or R (at * 4 + 1) 0
      → Each TypeInForm ts → PostOpen R S S' count at scope v (Err f)
      → Is (world P) (block ts es) γ at scope S' C (Err f)
  open_refused ts es at scope v γ S S' C f n ln ev pr po =
      let q : v ≡ length ts = ev ∙ n.first in
      let o : Err f ≡ pass_answer (locals_declared (world P) (at + 1 + 1) ts) = po.out
      ∙ (ap (opening R count (at + 1)) q ∙ opening_is ts (at + 1) ln pr) in
      is_refused _ _ (block_refused (world P) ts es (at + 1) γ _ _
      (result_err (λ (u : Unit {0}). u) (locals_declared (world P) (at + 1 + 1) ts) f (sym o))) refl

  -- The locals of an opened block.
  pub open_done : (ts : List DeclaredType) (es : Exprs) (at scope v : ℕ) (γ : Environment) (S S' : List ℕ)
      → RowAt R at B_block (length ts) (how_many es) → TypesAt V_local R ts (at + 1)
      → v ≡ get_or R (at * 4 + 1) 0
      → Each TypeInForm ts → Views (world P) γ S scope → scope + length ts ≤ length S
      → PostOpen R S S' count at scope v (Ok tt)
      → (locals_declared (world P) (at + 1 + 1) ts ≡ passed)
      × Views (world P) (opened γ (map fresh_slot ts)) S' (scope + v)
  open_done ts es at scope v γ S S' n ln ev pr vs l po = (
    w,
    views_of (world P) (opened γ (map fresh_slot ts)) S' (scope + v)
        (fine_opened (world P) (map fresh_slot ts) (views_fine (world P) vs)
        (fresh_good (world P) ts (locals_at ts (at + 1 + 1) w)))
        (omega (arith, q, l, po.long))
        (ap length (numbers_opened γ ts)
        ∙ (length-append (numbers γ) (map fresh_number ts)
        ∙ ap₂ (λ (x : ℕ) (y : ℕ). x + y) (views_long vs (omega (arith, l)))
        (length-map ts fresh_number ∙ sym q)))
        (λ k m. at_slots k m (le_or_less scope k)
        ∙ sym (ap (λ (x : List ℕ). get_or x k 0) (numbers_opened γ ts))),
  )
    where
      q : v ≡ length ts
      q = ev ∙ n.first

      w : locals_declared (world P) (at + 1 + 1) ts ≡ passed
      w = pass_tt (locals_declared (world P) (at + 1 + 1) ts)
          (po.out ∙ (ap (opening R count (at + 1)) q ∙ opening_is ts (at + 1) ln pr))

      at_slots : (k : ℕ) → k < scope + v → (scope ≤ k) ⊎ (k < scope)
          → get_or S' k 0 ≡ get_or (numbers γ ++ map fresh_number ts) k 0
      at_slots k m (inr lt) =
          po.below k lt ∙ (views_at vs (omega (arith, l)) k lt ∙ sym
          (get_or-append (numbers γ) (map fresh_number ts) 0 k
          (omega (arith, lt, views_long vs (omega (arith, l))))))
      at_slots k m (inl ge) =
          let j : ℕ = k - scope in
          let ek : k ≡ scope + j = omega arith in
          let en : scope + j ≡ length (numbers γ) + j =
          ap (λ (x : ℕ). x + j) (sym (views_long vs (omega (arith, l)))) in
          ap (λ (x : ℕ). get_or S' x 0) ek
          ∙ (po.filled refl j (omega arith)
          ∙ ((ap fresh_in (types_number V_local R ts (at + 1) ln j (omega (arith, q, m, ge)))
          ∙ fresh_numbers h ts (locals_at ts (at + 1 + 1) w) j (omega (arith, q, m, ge)))
          ∙ (sym (get_or-append-add (numbers γ) (map fresh_number ts) j 0)
          ∙ ap (λ (x : ℕ). get_or (numbers γ ++ map fresh_number ts) x 0) (sym (ek ∙ en)))))

  -- The whole block: what its items give, in the opened scope.
  pub block_is : (ts : List DeclaredType) (es : Exprs) (at scope v : ℕ) (γ : Environment) (S S' C' : List ℕ)
      (r : Answer)
      → RowAt R at B_block (length ts) (how_many es) → TypesAt V_local R ts (at + 1)
      → v ≡ get_or R (at * 4 + 1) 0
      → Views (world P) γ S scope → scope ≤ length S
      → locals_declared (world P) (at + 1 + 1) ts ≡ passed
      → (r ≡ answer_of (bind_checked (type_all (world P) es (at + 1 + v + 1) (opened γ (map fresh_slot ts)))
      λ b.
      typed (last_type null_type b.types) b.slots (join 0 b.effect)))
      → ((b : TypedAll) → type_all (world P) es (at + 1 + v + 1) (opened γ (map fresh_slot ts)) ≡ accept b
      → AcceptedAll (world P) es (opened γ (map fresh_slot ts)) (at + 1 + v) (scope + v) S' C' b)
      → Is (world P) (block ts es) γ at scope S' C' r
  block_is ts es at scope v γ S S' C' r n ln ev vs l ld er ab =
      go (type_all (world P) es (at + 1 + v + 1) (opened γ (map fresh_slot ts))) refl
    where
      q : v ≡ length ts
      q = ev ∙ n.first

      line : at + 1 + v + 1 ≡ at + 1 + 1 + length ts
      line = omega (arith, q)

      same : type_all (world P) es (at + 1 + 1 + length ts) (opened γ (map fresh_slot ts))
          ≡ type_all (world P) es (at + 1 + v + 1) (opened γ (map fresh_slot ts))
      same = ap (λ (x : ℕ). type_all (world P) es x (opened γ (map fresh_slot ts))) (sym line)

      closed_at : {δ : Environment} → Views (world P) δ S' (scope + v) → (k : ℕ) (s : Slot)
          → at_slot (closed (length γ.slots) δ) k ≡ some s → Good (world P) s
      closed_at u k s x =
          fine_at (world P) (fine_closed (world P) (length γ.slots) (views_fine (world P) u)) k s x

      go : (c : Checked TypedAll)
          → type_all (world P) es (at + 1 + v + 1) (opened γ (map fresh_slot ts)) ≡ c
          → Is (world P) (block ts es) γ at scope S' C' r
      go (refuse m k) e =
          is_refused m k (block_inner (world P) ts es (at + 1) γ ld m k (same ∙ e))
          (er ∙ ap answer_of (bind_refused _ _ m k e))
      go (accept b) e =
          let w = ab b e in
          let z : suc (length γ.slots) ≡ scope = sym (numbers_length γ) ∙ views_long vs l in
          is_accepted (record {
            type = last_type null_type b.types;
            slots = closed (length γ.slots)
                b.slots;
            effect = b.effect;
          })
          (block_done (world P) ts es (at + 1) γ ld b (same ∙ e))
          (er ∙ (ap answer_of (bind_accepted _ _ b e)
          ∙ ap (answer (typing_case (last_type null_type b.types))) (none_join b.effect)))
          (record {
            views = record {
              same = sym (numbers_closed (length γ.slots) b.slots
                  ∙ (ap₂ (λ (x : ℕ) (y : List ℕ). take x y) z (sym w.views.same)
                  ∙ take-take scope (scope + v) S' (omega arith)));
              current = λ k s x. (closed_at w.views k s x).0;
              declared = λ k s x. (closed_at w.views k s x).1;
            };
            declared = last_declared (world P) null_type b.types declared_null w.types;
            looks = looks_block (world P) C' ts es
                γ at (subst (λ (x : ℕ). LooksUpAll (world P) C' es (opened γ (map fresh_slot ts)) x)
                (ap (λ (x : ℕ). at + 1 + x) q) w.looks);
          })
