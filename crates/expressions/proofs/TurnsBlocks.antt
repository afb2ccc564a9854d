-- The function block: B's V lines, then its expressions. Assumes nothing.
use mathlib.Core.Path.{◌≡◌, refl, subst, ◌∙◌}
use mathlib.Core.List.{List, map}
use Prim.Native.Nat.{ℕ, ◌+◌, ◌-◌, ◌*◌, ◌≤◌}
use native.Mathlib.Omega.{arith}
use lib.ListN.{length, get_or}
use Rattle.language.specs.Rows.{B_block, V_local}
use Rattle.language.specs.Results.{passed}
use Rattle.language.specs.Frames.{opened}
use Rattle.language.specs.Tree.{DeclaredType, null_type, Program, block, Exprs, sizes, count as how_many}
use Rattle.language.specs.Program.{world}
use Rattle.language.specs.Environment.{Environment, fresh_slot}
use Rattle.language.specs.WellFormed.{Each, TypeInForm}
use Rattle.language.specs.Typing.{locals_declared}
use Rattle.language.specs.Encoded.{NodeAt, TypesAt, Encoded}
use Rattle.types.specs.declared.slots.Scope.{Scope}
use Rattle.types.specs.declared.Typing.TheVariants.{Null}
use Rattle.std.specs.Prelude.{Result, Ok, Err}
use Rattle.language.specs.declared.Refusal.{Refusal}
use Rattle.types.specs.Answers.{Answer, typed_case}
use Rattle.typing.specs.Nodes.{PreOpen, PostOpen}
use Rattle.expressions.specs.Cycle.{Given, GivenAll, Views, Kept, Pre, Post, Is, PreList, PostItems}
use Rattle.expressions.specs.Cycle.{grown}
use Rattle.expressions.proofs.TurnsNodes.{by_node}
use Rattle.expressions.proofs.Turns.{list_pre, parts, post_of, kept_then, kept_slots, room_next}
use Rattle.expressions.proofs.Turns.{room_slots}
use Rattle.expressions.proofs.Turns.{one_level}
use Rattle.expressions.proofs.BlockNode.{pre_open, open_refused, open_done, block_is}

module _ {R E T A M F S : List ℕ} {at : ℕ} {scope : Scope} {p : Program} {γ : Environment} {d : ℕ}
    {ts : List DeclaredType} {es : Exprs}
    (g : Given R E T A M F S at scope p (block ts es) γ d) where
  block_row : NodeAt R E at B_block (length ts) (how_many es) (1 + length ts + sizes es)
  unfolding Encoded
  block_row = g.encoded.0

  block_locals : TypesAt V_local R ts (at + 1)
  unfolding Encoded
  block_locals = g.encoded.1

  block_limits : (1 ≤ d) × (scope.size + length ts ≤ scope.width) × Each TypeInForm ts
  block_limits = ((parts g).0, (parts g).1, (parts g).2)

  block_slots : scope.size + length ts ≤ length S
  block_slots = omega (arith, block_limits.1, g.room.room, g.room.above)

  block_all : {S' : List ℕ} {δ : Environment} (v : ℕ) → v ≡ length ts → length S' ≡ length S
      → Views (world p.classes) δ S' (scope.size + v)
      → GivenAll R E T A M F S' (at + 1 + v) (grown scope v) p es δ (d - 1)
  unfolding Encoded
  block_all v e a vs =
      let m = g.room in
      record {
        headed = g.headed;
        encoded = rw e g.encoded.2;
        in_form = rw e (parts g).3;
        views = vs;
        room = room_next (grown scope v) (d - 1) m a (omega (arith, m.this))
            (omega (arith, block_limits.1, e)) m.arguments m.above
            (omega (arith, one_level scope.width d block_limits.0));
      }

module _ {R E T A M F S : List ℕ} {at : ℕ} {scope : Scope} (pre : Pre R E T A M F S at scope)
    (l : get_or R (at * 4) 0 ≡ 66) (locals nodes : ℕ) (locals-is : locals ≡ get_or R (at * 4 + 1) 0)
    (nodes-is : nodes ≡ get_or R (at * 4 + 2) 0) where
  block_few : (scope.size + locals ≤ scope.width) × (scope.width ≤ scope.top)
  block_few = by_node B_block pre.e pre.given l
      (λ _. (scope.size + locals ≤ scope.width) × (scope.width ≤ scope.top)) λ ts es g.
      (omega (arith, (block_limits g).1, locals-is, (block_row g).row.first), g.room.above)

  pub block_open_pre : PreOpen R S at scope.size locals
  block_open_pre = by_node B_block pre.e pre.given l (λ _. PreOpen R S at scope.size locals)
      λ ts es g.
      pre_open g.headed ts es at scope.size locals S (block_row g).row (block_locals g)
      locals-is
      (block_slots g)

  module _ {S₁ : List ℕ} {a : Result (Unit {0}) Refusal} (o : PostOpen R S S₁ scope.count at scope.size locals a) where
    kept-open : {C : List ℕ} → Kept S S₁ C C at (get_or E at 0) scope.width scope.top
    kept-open = kept_slots o.long (λ i u v. o.after i (omega (arith, block_few.0)))

    pub block_fail : {C : List ℕ} {f : Refusal} → a ≡ Err f → Post R E T A M F S C S₁ C at scope (Err f)
    block_fail {C} {f} e = post_of kept-open λ p z γ d g.
        by_node B_block z g l (λ w. Is (world p.classes) w γ at scope.size S₁ C (Err f)) λ ts es g.
        open_refused g.headed ts es at scope.size locals γ S S₁ C f (block_row g).row
        (block_locals g) locals-is (block_limits g).2 (subst (PostOpen R S S₁ scope.count at scope.size locals) e o)

    module _ (ok : a ≡ Ok tt) where
      opened-block : {p : Program} {γ : Environment} {d : ℕ} {ts : List DeclaredType} {es : Exprs}
          (g : Given R E T A M F S at scope p (block ts es) γ d)
          → (locals_declared (world p.classes) (at + 1 + 1) ts ≡ passed)
          × Views (world p.classes) (opened γ (map fresh_slot ts)) S₁ (scope.size + locals)
      opened-block {γ = γ} {ts = ts} {es} g =
          open_done g.headed ts es at scope.size locals γ S S₁ (block_row g).row
          (block_locals g) locals-is (block_limits g).2 g.views (block_slots g)
          (subst (PostOpen R S S₁ scope.count at scope.size locals) ok o)

      given-block : {p : Program} {γ : Environment} {d : ℕ} {ts : List DeclaredType} {es : Exprs}
          (g : Given R E T A M F S at scope p (block ts es) γ d)
          → GivenAll R E T A M F S₁ (at + 1 + locals) (grown scope locals) p es
          (opened γ (map fresh_slot ts)) (d - 1)
      given-block g = block_all g locals (locals-is ∙ (block_row g).row.first) o.long (opened-block g).1

      abbrev items_of : {p : Program} {γ : Environment} {d : ℕ} {ts : List DeclaredType} {es : Exprs}
          → Given R E T A M F S at scope p (block ts es) γ d
          → PreList R E T A M F S₁ (at + 1 + locals) (grown scope locals) nodes
      items_of g = list_pre (nodes-is ∙ (block_row g).row.second) (given-block g)

      pub block_items_pre : PreList R E T A M F S₁ (at + 1 + locals) (grown scope locals) nodes
      block_items_pre = by_node B_block pre.e pre.given l
          (λ _. PreList R E T A M F S₁ (at + 1 + locals) (grown scope locals) nodes) λ ts es g.
          items_of g

      module _ {S₂ C C₂ : List ℕ} {r : Answer}
          (q : PostItems R E T A M F S₁ C S₂ C₂ (at + 1 + locals) (grown scope locals) nodes (typed_case Null 0) r) where
        kept_block : Kept S S₂ C C₂ at (get_or E at 0) scope.width scope.top
        kept_block = by_node B_block pre.e pre.given l
            (λ _. Kept S S₂ C C₂ at (get_or E at 0) scope.width scope.top)
            λ ts es g.
            kept_then kept-open (record {
              slots_long = q.slots_long;
              classes_long = q.classes_long;
              between = q.between;
              before = λ i u. q.before i (omega arith);
              after = λ i u. q.after (items_of g) i
                  (omega (arith, u, (block_row g).end, locals-is, (block_row g).row.first));
            })

        pub block_done : Post R E T A M F S C S₂ C₂ at scope r
        block_done = post_of kept_block λ p z γ d g.
            by_node B_block z g l (λ w. Is (world p.classes) w γ at scope.size S₂ C₂ r) λ ts es g.
            let b = opened-block g in
            let w = q.is (items_of g) null_type refl in
            block_is g.headed ts es at scope.size locals γ S S₂ C₂ r (block_row g).row
            (block_locals g) locals-is g.views (room_slots g.room) b.0
            w.out w.accepted
