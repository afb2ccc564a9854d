-- Nodes with one child; a node that is entered; what a letter tells that is none of some others. Assumes nothing.
use mathlib.Core.Path.{◌≡◌, refl, sym, subst}
use mathlib.Core.Logic.{◌≢◌}
use mathlib.Core.Bool.{true, false, false≢true}
use mathlib.Core.List.{List}
use Prim.Native.Nat.{ℕ, suc, ◌+◌, ◌-◌}
use Rattle.language.specs.Results.{bind}
use Rattle.language.specs.Tree.{Expr, literal, literal_true, literal_false, literal_null, slot, is_null}
use Rattle.language.specs.Tree.{get, cast, new, change, assign, set, call, choose, block, Class}
use Rattle.language.specs.Rows.{code}
use Rattle.language.specs.World.{World, Method}
use Rattle.language.specs.Encoded.{Encoded}
use Rattle.language.specs.State.{Value as Meaning, State, Out}
use Rattle.language.specs.Evaluation.{Limits, enter, eval}
use Rattle.language.proofs.Nodes.{letter_of}
use Rattle.layout.specs.HeldLaws.{parameters_few}
use Rattle.layout.specs.ProperNodes.{Proper, ProperParts, proper_parts}
use Rattle.objects.specs.declared.Tally.{Tally}
use Rattle.frames.specs.declared.Place.{Place}
use Rattle.frames.specs.Places.{inside, after}
use Rattle.frames.specs.Nodes.{one_child, no_child, PreNode}
use Rattle.language.specs.Rows.{A_assign, B_block, G_get, I_slot, J_choose, K_cast, L_false, N_null, Q_call}
use Rattle.language.specs.Rows.{R_change, T_true, U_set, W_new, Z_is_null}

-- a node has one child
pub data OneChild : Expr → Type 0 where
  one_null : {e : Expr} → OneChild (is_null e)
  one_get : {f : ℕ} {e : Expr} → OneChild (get f e)
  one_cast : {c : ℕ} {e : Expr} → OneChild (cast c e)
  one_assign : {k : ℕ} {e : Expr} → OneChild (assign k e)

pub one_of : (e : Expr) → one_child (code (letter_of e)) ≡ true → OneChild e
one_of (literal literal_true) h = absurd (false≢true h)
one_of (literal literal_false) h = absurd (false≢true h)
one_of (literal literal_null) h = absurd (false≢true h)
one_of (slot i) h = absurd (false≢true h)
one_of (is_null e) h = one_null
one_of (get f e) h = one_get
one_of (cast c e) h = one_cast
one_of (new c) h = absurd (false≢true h)
one_of (change i c) h = absurd (false≢true h)
one_of (assign i e) h = one_assign
one_of (set f e e') h = absurd (false≢true h)
one_of (call m e es) h = absurd (false≢true h)
one_of (choose a b c) h = absurd (false≢true h)
one_of (block ts es) h = absurd (false≢true h)

abbrev pub child : Expr → Expr
child (literal l) = (literal l)
child (slot i) = (slot i)
child (is_null e) = e
child (get f e) = e
child (cast c e) = e
child (new c) = (new c)
child (change i c) = (change i c)
child (assign i e) = e
child (set f e e') = (set f e e')
child (call m e es) = (call m e es)
child (choose a b c) = (choose a b c)
child (block ts es) = (block ts es)

pub one_encoded : (R E : List ℕ) {e : Expr} (r : ℕ) → OneChild e → Encoded R E e r
    → Encoded R E (child e) (r + 1)
unfolding Encoded
one_encoded R E r one_null h = h.1
one_encoded R E r one_get h = h.1
one_encoded R E r one_cast h = h.1
one_encoded R E r one_assign h = h.1

pub one_proper : (P : List Class) (w n d : ℕ) {e : Expr} → OneChild e → ProperParts P w n d e
    → Proper P w n (d - 1) (child e)
one_proper P w n d one_null h = h.1
one_proper P w n d one_get h = h.2
one_proper P w n d one_cast h = h.2
one_proper P w n d one_assign h = h.1

-- a node one level at a time: its rows, and what its form and type tell
module _ {R E T A M s l : List ℕ} {at : ℕ} {q : Place} {n : Tally} {z : ℕ}
    (p : PreNode R E T A M s l at q n z) {e : Expr} (h : p.e ≡ e) where
  pub node_rows : Encoded R E e at
  node_rows = subst (λ (e : Expr). Encoded R E e at) h p.encoded

  pub node_parts : ProperParts p.P p.width (suc q.scope) p.d e
  node_parts = proper_parts p.P (parameters_few p.ready.holding.held.headed) e
      (subst (λ (e : Expr). Proper p.P p.width (suc q.scope) p.d e) h p.proper)

module _ (W : World) (L : Limits) (K : Method → State → Out Meaning) where
  pub one_inside : {e : Expr} → OneChild e → (s : State)
      → inside W L K e s ≡ bind (eval W L K (child e) s) (λ v s. after W e v s)
  unfolding inside
  one_inside one_null s = refl
  one_inside one_get s = refl
  one_inside one_cast s = refl
  one_inside one_assign s = refl

  -- a node is entered, then what it is
  pub eval_inside : (e : Expr) (s : State) → eval W L K e s ≡ enter W L s (λ t. inside W L K e t)
  unfolding eval inside after
  eval_inside (literal l) s = refl
  eval_inside (slot i) s = refl
  eval_inside (is_null e) s = refl
  eval_inside (get f e) s = refl
  eval_inside (cast c e) s = refl
  eval_inside (new c) s = refl
  eval_inside (change i c) s = refl
  eval_inside (assign i e) s = refl
  eval_inside (set f e e') s = refl
  eval_inside (call m e es) s = refl
  eval_inside (choose a b c) s = refl
  eval_inside (block ts es) s = refl

-- what has a child and is none of the others has one
pub rest_one_child : (e : Expr) → no_child (code (letter_of e)) ≡ false → code (letter_of e) ≢ code B_block
    → code (letter_of e) ≢ code J_choose → code (letter_of e) ≢ code Q_call → code (letter_of e) ≢ code U_set
    → one_child (code (letter_of e)) ≡ true
rest_one_child (literal literal_true) h h₁ h₂ h₃ h₄ = absurd (false≢true (sym h))
rest_one_child (literal literal_false) h h₁ h₂ h₃ h₄ = absurd (false≢true (sym h))
rest_one_child (literal literal_null) h h₁ h₂ h₃ h₄ = absurd (false≢true (sym h))
rest_one_child (slot i) h h₁ h₂ h₃ h₄ = absurd (false≢true (sym h))
rest_one_child (is_null e) h h₁ h₂ h₃ h₄ = refl
rest_one_child (get f e) h h₁ h₂ h₃ h₄ = refl
rest_one_child (cast c e) h h₁ h₂ h₃ h₄ = refl
rest_one_child (new c) h h₁ h₂ h₃ h₄ = absurd (false≢true (sym h))
rest_one_child (change i c) h h₁ h₂ h₃ h₄ = absurd (false≢true (sym h))
rest_one_child (assign i e) h h₁ h₂ h₃ h₄ = refl
rest_one_child (set f e e') h h₁ h₂ h₃ h₄ = absurd (h₄ refl)
rest_one_child (call m e es) h h₁ h₂ h₃ h₄ = absurd (h₃ refl)
rest_one_child (choose a b c) h h₁ h₂ h₃ h₄ = absurd (h₂ refl)
rest_one_child (block ts es) h h₁ h₂ h₃ h₄ = absurd (h₁ refl)

-- what has no child and is none of the others is R
pub rest_change : (e : Expr) → no_child (code (letter_of e)) ≡ true → code (letter_of e) ≢ code T_true
    → code (letter_of e) ≢ code L_false → code (letter_of e) ≢ code N_null → code (letter_of e) ≢ code I_slot
    → code (letter_of e) ≢ code W_new
    → code (letter_of e) ≡ code R_change
rest_change (literal literal_true) h h₁ h₂ h₃ h₄ h₅ = absurd (h₁ refl)
rest_change (literal literal_false) h h₁ h₂ h₃ h₄ h₅ = absurd (h₂ refl)
rest_change (literal literal_null) h h₁ h₂ h₃ h₄ h₅ = absurd (h₃ refl)
rest_change (slot i) h h₁ h₂ h₃ h₄ h₅ = absurd (h₄ refl)
rest_change (is_null e) h h₁ h₂ h₃ h₄ h₅ = absurd (false≢true h)
rest_change (get f e) h h₁ h₂ h₃ h₄ h₅ = absurd (false≢true h)
rest_change (cast c e) h h₁ h₂ h₃ h₄ h₅ = absurd (false≢true h)
rest_change (new c) h h₁ h₂ h₃ h₄ h₅ = absurd (h₅ refl)
rest_change (change i c) h h₁ h₂ h₃ h₄ h₅ = refl
rest_change (assign i e) h h₁ h₂ h₃ h₄ h₅ = absurd (false≢true h)
rest_change (set f e e') h h₁ h₂ h₃ h₄ h₅ = absurd (false≢true h)
rest_change (call m e es) h h₁ h₂ h₃ h₄ h₅ = absurd (false≢true h)
rest_change (choose a b c) h h₁ h₂ h₃ h₄ h₅ = absurd (false≢true h)
rest_change (block ts es) h h₁ h₂ h₃ h₄ h₅ = absurd (false≢true h)

pub rest_assign : (e : Expr) → one_child (code (letter_of e)) ≡ true → code (letter_of e) ≢ code Z_is_null
    → code (letter_of e) ≢ code G_get → code (letter_of e) ≢ code K_cast → code (letter_of e) ≡ code A_assign
rest_assign (literal literal_true) h h₁ h₂ h₃ = absurd (false≢true h)
rest_assign (literal literal_false) h h₁ h₂ h₃ = absurd (false≢true h)
rest_assign (literal literal_null) h h₁ h₂ h₃ = absurd (false≢true h)
rest_assign (slot i) h h₁ h₂ h₃ = absurd (false≢true h)
rest_assign (is_null e) h h₁ h₂ h₃ = absurd (h₁ refl)
rest_assign (get f e) h h₁ h₂ h₃ = absurd (h₂ refl)
rest_assign (cast c e) h h₁ h₂ h₃ = absurd (h₃ refl)
rest_assign (new c) h h₁ h₂ h₃ = absurd (false≢true h)
rest_assign (change i c) h h₁ h₂ h₃ = absurd (false≢true h)
rest_assign (assign i e) h h₁ h₂ h₃ = refl
rest_assign (set f e e') h h₁ h₂ h₃ = absurd (false≢true h)
rest_assign (call m e es) h h₁ h₂ h₃ = absurd (false≢true h)
rest_assign (choose a b c) h h₁ h₂ h₃ = absurd (false≢true h)
rest_assign (block ts es) h h₁ h₂ h₃ = absurd (false≢true h)
