-- The table of lookup classes: for each G, U and Q the class in which its member is sought, as typing finds it.
-- The body pass fills it, by row from 0; the translator reads it and does no typing of its own. A table that
-- is shorter than the rows tells of the rows that it has an entry for, and an empty one of none.
use Rattle.std.specs.Prelude.{◌≡◌, ℕ, ◌+◌, ◌<◌, List, map, length, get_or}
use Rattle.language.specs.Frames.{opened}
use Rattle.language.specs.Tree.{Expr, literal, slot, is_null, get}
use Rattle.language.specs.Tree.{cast, new}
use Rattle.language.specs.Tree.{change, assign, set, call, choose, block, Exprs, nil, cons, size}
use Rattle.language.specs.World.{World}
use Rattle.language.specs.Effects.{apply_class}
use Rattle.language.specs.Environment.{Environment, fresh_slot}
use Rattle.language.specs.Typing.{type_of, type_all}
use Rattle.language.specs.Translation.{typed_or, typed_all_or, class_or}

-- The table has class c for row r, where it has an entry for that row at all.
abbrev pub Notes : List ℕ → ℕ → ℕ → Type 0
Notes C r c = r < length C → get_or C r 0 ≡ c

module _ (W : World) (C : List ℕ) where
  -- The table holds the lookup classes of an expression at row r, typed in γ.
  unfoldable mutual
    pub LooksUp : Expr → Environment → ℕ → Type 0
    LooksUp (literal l) γ r = Unit {0}
    LooksUp (slot k) γ r = Unit {0}
    LooksUp (is_null e) γ r = LooksUp e γ (r + 1)
    LooksUp (get f e) γ r = Notes C r (class_or (typed_or (type_of W e 0 γ)).type) × LooksUp e γ (r + 1)
    LooksUp (cast c e) γ r = LooksUp e γ (r + 1)
    LooksUp (new c) γ r = Unit {0}
    LooksUp (change k d) γ r = Unit {0}
    LooksUp (assign k e) γ r = LooksUp e γ (r + 1)
    LooksUp (set f e e') γ r =
        let a = typed_or (type_of W e 0 γ) in
        let b = typed_or (type_of W e' 0 a.slots) in
        Notes C r (apply_class W b.effect (class_or a.type))
        × LooksUp e γ (r + 1)
        × LooksUp e' a.slots (r + 1 + size e)
    LooksUp (call m e es) γ r =
        let a = typed_or (type_of W e 0 γ) in
        let b = typed_all_or (type_all W es 0 a.slots) in
        Notes C r (apply_class W b.effect (class_or a.type))
        × LooksUp e γ (r + 1)
        × LooksUpAll es a.slots (r + 1 + size e)
    LooksUp (choose e x y) γ r = let δ = (typed_or (type_of W e 0 γ)).slots in
        LooksUp e γ (r + 1) × LooksUp x δ (r + 1 + size e) × LooksUp y δ (r + 1 + size e + size x)
    LooksUp (block ts es) γ r = LooksUpAll es (opened γ (map fresh_slot ts)) (r + 1 + length ts)

    pub LooksUpAll : Exprs → Environment → ℕ → Type 0
    LooksUpAll nil γ r = Unit {0}
    LooksUpAll (cons e es) γ r = LooksUp e γ r
        × LooksUpAll es (typed_or (type_of W e 0 γ)).slots (r + size e)
