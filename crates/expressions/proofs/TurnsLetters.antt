-- What a letter is that is none of some others. Assumes nothing.
use mathlib.Core.Path.{◌≡◌, ◌∙◌}
use mathlib.Core.Logic.{inl, inr}
use mathlib.Core.List.{List}
use Prim.Native.Nat.{ℕ, ◌*◌}
use lib.ListN.{get_or}
use Rattle.language.specs.Tree.{Expr, literal, literal_true, literal_false, literal_null, slot, is_null, get}
use Rattle.language.specs.Tree.{cast, new, change, assign, set, call, choose, block}
use Rattle.language.specs.Encoded.{Encoded}
use Rattle.language.proofs.Nodes.{head}
use Rattle.expressions.specs.Cycle.{Unary}

-- a letter that is none of the others is one of Z, G, K and A
pub rest_unary : (R E : List ℕ) (x : Expr) (r : ℕ) → Encoded R E x r → (n : ℕ) → n ≡ get_or R (r * 4) 0
    → (n ≡ 84 → ⊥) → (n ≡ 76 → ⊥) → (n ≡ 78 → ⊥) → (n ≡ 73 → ⊥) → (n ≡ 87 → ⊥) → (n ≡ 82 → ⊥) → (n ≡ 85 → ⊥)
    → (n ≡ 81 → ⊥) → (n ≡ 74 → ⊥) → (n ≡ 66 → ⊥)
    → Unary R r
rest_unary R E (literal literal_true) r h n q n0 n1 n2 n3 n4 n5 n6 n7 n8 n9 =
    absurd (n0 (q ∙ (head (literal literal_true) h).letter))
rest_unary R E (literal literal_false) r h n q n0 n1 n2 n3 n4 n5 n6 n7 n8 n9 =
    absurd (n1 (q ∙ (head (literal literal_false) h).letter))
rest_unary R E (literal literal_null) r h n q n0 n1 n2 n3 n4 n5 n6 n7 n8 n9 =
    absurd (n2 (q ∙ (head (literal literal_null) h).letter))
rest_unary R E (slot k) r h n q n0 n1 n2 n3 n4 n5 n6 n7 n8 n9 = absurd (n3 (q ∙ (head (slot k) h).letter))
rest_unary R E (is_null e) r h n q n0 n1 n2 n3 n4 n5 n6 n7 n8 n9 = inl (head (is_null e) h).letter
rest_unary R E (get f e) r h n q n0 n1 n2 n3 n4 n5 n6 n7 n8 n9 = inr (inl (head (get f e) h).letter)
rest_unary R E (cast c e) r h n q n0 n1 n2 n3 n4 n5 n6 n7 n8 n9 = inr (inr (inl (head (cast c e) h).letter))
rest_unary R E (new c) r h n q n0 n1 n2 n3 n4 n5 n6 n7 n8 n9 = absurd (n4 (q ∙ (head (new c) h).letter))
rest_unary R E (change k c) r h n q n0 n1 n2 n3 n4 n5 n6 n7 n8 n9 =
    absurd (n5 (q ∙ (head (change k c) h).letter))
rest_unary R E (assign k e) r h n q n0 n1 n2 n3 n4 n5 n6 n7 n8 n9 =
    inr (inr (inr (head (assign k e) h).letter))
rest_unary R E (set f e e') r h n q n0 n1 n2 n3 n4 n5 n6 n7 n8 n9 =
    absurd (n6 (q ∙ (head (set f e e') h).letter))
rest_unary R E (call m e es) r h n q n0 n1 n2 n3 n4 n5 n6 n7 n8 n9 =
    absurd (n7 (q ∙ (head (call m e es) h).letter))
rest_unary R E (choose e x y) r h n q n0 n1 n2 n3 n4 n5 n6 n7 n8 n9 =
    absurd (n8 (q ∙ (head (choose e x y) h).letter))
rest_unary R E (block ts es) r h n q n0 n1 n2 n3 n4 n5 n6 n7 n8 n9 =
    absurd (n9 (q ∙ (head (block ts es) h).letter))
