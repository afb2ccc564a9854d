-- Each node's children, and the node that a letter tells. Assumes nothing.
use mathlib.Core.Path.{◌≡◌, sym, ◌∙◌}
use mathlib.Core.List.{List}
use Prim.Native.Nat.{ℕ, ◌+◌, ◌-◌, ◌*◌, ◌≤◌, ◌<◌}
use native.Mathlib.Omega.{arith}
use lib.ListN.{get_or}
use Rattle.language.specs.Results.{accept, refuse}
use Rattle.language.specs.Tree.{Program, Expr, is_null, get, cast, assign, size}
use Rattle.language.specs.World.{World}
use Rattle.language.specs.Program.{world}
use Rattle.language.specs.Environment.{Environment}
use Rattle.language.specs.Typing.{Typed, type_of}
use Rattle.language.specs.Encoded.{Encoded}
use Rattle.language.specs.Rows.{Letter, code}
use Rattle.language.proofs.Nodes.{EachTree, Head, head, by_row}
use Rattle.language.proofs.Tables.{size_positive}
use Rattle.types.specs.declared.Typed.{Typed as TypedCase}
use Rattle.types.specs.declared.slots.Scope.{Scope}
use Rattle.std.specs.Prelude.{Ok, Err}
use Rattle.language.specs.declared.Refusal.{Refusal}
use Rattle.language.proofs.Refusals.{result_err}
use Rattle.types.specs.Answers.{Answer, answered}
use Rattle.expressions.specs.Cycle.{Given, Kept, Pre, Post, Accepted}
use Rattle.expressions.proofs.Turns.{parts, post_is, kept_wider, room_child, accepted_of}

-- ---- a child that was accepted, or refused

pub record Did (W : World) (e : Expr) (γ : Environment) (at scope : ℕ) (S C : List ℕ) (x : TypedCase) :
    Type 0
  where
    pub a : Typed
    pub typed_at : type_of W e (at + 1) γ ≡ accept a
    pub is : x ≡ answered a
    pub accepted : Accepted W e γ at scope S C a

module _ {R E T A M F S C S' C' : List ℕ} {at : ℕ} {scope : Scope} {p : Program} {e : Expr}
    {γ : Environment}
    {d : ℕ} {r : Answer} where
  pub did : {x : TypedCase} → Given R E T A M F S at scope p e γ d → Post R E T A M F S C S' C' at scope r
      → r ≡ Ok x
      → Did (world p.classes) e γ at scope.size S' C' x
  did g q f = let i = post_is q g in
      accepted_of (type_of (world p.classes) e (at + 1) γ) i.out f λ a t s.
      record { a = a; typed_at = t; is = s; accepted = i.accepted a t }

  pub failed : {f : Refusal} → Given R E T A M F S at scope p e γ d → Post R E T A M F S C S' C' at scope r
      → r ≡ Err f
      → type_of (world p.classes) e (at + 1) γ ≡ refuse f.number f.line
  failed {f} g q h = result_err answered (type_of (world p.classes) e (at + 1) γ) f (sym (post_is q g).out ∙ h)

-- the row after a node
pub after_row : {R E T A M F S : List ℕ} {at : ℕ} {scope : Scope} → Pre R E T A M F S at scope
    → at < get_or E at 0
after_row pre = omega (arith, (head pre.e pre.given.encoded).end, size_positive pre.e)

-- what a child's call keeps, its node's keeps
pub kept_in : {R E S S' C C' : List ℕ} {at c width top' : ℕ} {x y : Expr} (top : ℕ)
    → Head R E x at → Head R E y c
    → at ≤ c → c + size y ≤ at + size x → top ≤ top'
    → Kept S S' C C' c (get_or E c 0) width top' → Kept S S' C C' at (get_or E at 0) width top
kept_in {E = E} {at = at} {c} top hx hy u v w k =
    kept_wider at (get_or E at 0) top k u (omega (arith, hx.end, hy.end)) w

pub row_of : {R E T A M F S : List ℕ} {at : ℕ} {scope : Scope} {p : Program} {e : Expr} {γ : Environment}
    {d : ℕ}
    → Given R E T A M F S at scope p e γ d → Head R E e at
row_of {e = e} g = head e g.encoded

-- ---- nodes of one child

module _ {R E T A M F S : List ℕ} {at : ℕ} {scope : Scope} {p : Program} {γ : Environment} {d : ℕ} where
  pub is_null_child : {e : Expr} → Given R E T A M F S at scope p (is_null e) γ d
      → Given R E T A M F S (at + 1) scope p e γ (d - 1)
  unfolding Encoded
  is_null_child g = record {
    headed = g.headed;
    encoded = g.encoded.1;
    in_form = (parts g).1;
    views = g.views;
    room = room_child g.room (parts g).0;
  }

  pub get_child : {f : ℕ} {e : Expr} → Given R E T A M F S at scope p (get f e) γ d
      → Given R E T A M F S (at + 1) scope p e γ (d - 1)
  unfolding Encoded
  get_child g = record {
    headed = g.headed;
    encoded = g.encoded.1;
    in_form = (parts g).2;
    views = g.views;
    room = room_child g.room (parts g).0;
  }

  pub get_row : {f : ℕ} {e : Expr} → Given R E T A M F S at scope p (get f e) γ d
      → (get_or R (at * 4 + 1) 0 ≡ f) × (f < 256)
  unfolding Encoded
  get_row g = (g.encoded.0.row.first, (parts g).1)

  pub cast_child : {c : ℕ} {e : Expr} → Given R E T A M F S at scope p (cast c e) γ d
      → Given R E T A M F S (at + 1) scope p e γ (d - 1)
  unfolding Encoded
  cast_child g = record {
    headed = g.headed;
    encoded = g.encoded.1;
    in_form = (parts g).1;
    views = g.views;
    room = room_child g.room (parts g).0;
  }

  pub cast_row : {c : ℕ} {e : Expr} → Given R E T A M F S at scope p (cast c e) γ d
      → get_or R (at * 4 + 1) 0 ≡ c
  unfolding Encoded
  cast_row g = g.encoded.0.row.first

  pub assign_child : {k : ℕ} {e : Expr} → Given R E T A M F S at scope p (assign k e) γ d
      → Given R E T A M F S (at + 1) scope p e γ (d - 1)
  unfolding Encoded
  assign_child g = record {
    headed = g.headed;
    encoded = g.encoded.1;
    in_form = (parts g).1;
    views = g.views;
    room = room_child g.room (parts g).0;
  }

  pub assign_row : {k : ℕ} {e : Expr} → Given R E T A M F S at scope p (assign k e) γ d
      → get_or R (at * 4 + 1) 0 ≡ k
  unfolding Encoded
  assign_row g = g.encoded.0.row.first

-- what holds of each node of the letter that the row has holds of the node there
pub by_node : {R E T A M F S : List ℕ} {at : ℕ} {scope : Scope} {p : Program} {γ : Environment} {d : ℕ}
    (l : Letter) (z : Expr) → Given R E T A M F S at scope p z γ d → get_or R (at * 4) 0 ≡ code l
    → (Q : Expr → Type 0) → EachTree (λ w. Given R E T A M F S at scope p w γ d → Q w) l → Q z
by_node {R} {E} {T} {A} {M} {F} {S} {at} {scope} {p} {γ} {d} l z g h Q q =
    by_row (λ w. Given R E T A M F S at scope p w γ d → Q w) l (row_of g) h q g
