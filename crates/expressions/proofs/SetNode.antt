-- The node U: what its function answers and notes is what the definition says. Assumes nothing.
use mathlib.Core.Path.{◌≡◌, refl, sym, ap, ap₂, subst, ◌∙◌}
use mathlib.Core.Bool.{Bool, true, false, cond}
use mathlib.Core.Option.{Option, none, some}
use mathlib.Core.List.{List}
use Prim.Native.Nat.{ℕ, ◌+◌, ◌*◌, ◌≤◌, ◌<◌}
use native.Mathlib.Omega.{arith}
use lib.ListN.{length, get_or, set as replaced, length-set}
use lib.Seq.{get_or-set_same, get_or-set_other}
use Rattle.language.specs.Results.{accept}
use Rattle.language.specs.Rows.{U_set}
use Rattle.language.specs.Tree.{Program, DeclaredType, bool, class, type_number, ExprType, known, null_type}
use Rattle.language.specs.Tree.{Expr, set, size, Class}
use Rattle.language.specs.World.{field_type}
use Rattle.language.specs.Effects.{join, apply_class}
use Rattle.language.specs.Program.{world}
use Rattle.language.specs.Environment.{Environment}
use Rattle.language.specs.Typing.{Typed, fits, type_of}
use Rattle.language.specs.Encoded.{RowAt}
use Rattle.language.specs.LookupClasses.{Notes, LooksUp}
use Rattle.language.proofs.Classes as classes
use Rattle.layout.specs.Held.{Headed}
use Rattle.layout.specs.HeldLaws.{lower}
use Rattle.types.specs.declared.Typed.{Typed as TypedCase}
use Rattle.std.specs.Prelude.{Some, None}
use Rattle.types.specs.declared.Typing.{Typing}
use Rattle.types.specs.declared.Typing.TheVariants.{Bool as Bool_case, Class as class_case, Null}
use Rattle.types.specs.Answers.{Answer, answer, answered, typing_case, refused}
use Rattle.access.specs.Fields.{Sought, sought_of, field_in, PreField, NoClass, PrePut, put, put_answer, put_noted}
use Rattle.access.specs.Fields.{put_classes}
use Rattle.types.specs.Tables.{applied, is_fitting}
use Rattle.expressions.specs.Cycle.{Views, Declared, Is}
use Rattle.expressions.proofs.Worlds.{applied_is, fitting_is}
use Rattle.expressions.proofs.Typings.{looks_frame}
use Rattle.expressions.proofs.Turns.{type_low, case_low, is_refused, is_accepted}
use Rattle.expressions.proofs.TypeNumbers.{type_number_case, case_known, applied_low, in_tables}
use Rattle.expressions.proofs.FieldTables.{field_is, field_declared, field_pre}
use Rattle.expressions.proofs.NodeTyping.{set_not, set_missing, set_unfit, set_done, set_looks}

-- What is found is not missing, and has one number.
missing_found : (n : ℕ) → ◌≡◌ {A = Sought} None (Some (record { number = n })) → ⊥
missing_found n e = let z : ◌≡◌ {A = ℕ} 0 1 = cc in omega arith

abbrev sought_number : Sought → ℕ
sought_number None = 0
sought_number (Some u) = u.number

found_number : (m n : ℕ) → ◌≡◌ {A = Sought} (Some (record { number = m })) (Some (record { number = n }))
    → m ≡ n
found_number m n e = ap sought_number e

put_noted_kept : (A C : List ℕ) (at k : ℕ) (y : TypedCase) (s : Sought)
    → (length (put_noted A C at k y s) ≡ length C)
    × ((i : ℕ) → (i ≡ at → ⊥) → get_or (put_noted A C at k y s) i 0 ≡ get_or C i 0)
unfolding put_noted
put_noted_kept A C at k y None = (refl, λ i n. refl)
put_noted_kept A C at k y (Some u) = go (is_fitting A y.typing u.number)
  where
    go : (b : Bool) → (length (cond b (replaced C at k) C) ≡ length C) ×
        ((i : ℕ) → (i ≡ at → ⊥) → get_or (cond b (replaced C at k) C) i 0 ≡ get_or C i 0)
    go true = (length-set C at k, λ i n. get_or-set_other C at i k 0 n)
    go false = (refl, λ i n. refl)

-- What U leaves of the table.
pub put_kept : (R T A C C' : List ℕ) (at : ℕ) (x y : TypedCase) → C' ≡ put_classes R T A C at x.typing y
    → (length C' ≡ length C) × ((i : ℕ) → (i ≡ at → ⊥) → get_or C' i 0 ≡ get_or C i 0)
unfolding put_classes
put_kept R T A C C' at x y e = rw e (go x.typing)
  where
    noted : (k : ℕ) (s : Sought)
        → (length (put_noted A C at k y s) ≡ length C)
        × ((i : ℕ) → (i ≡ at → ⊥) → get_or (put_noted A C at k y s) i 0 ≡ get_or C i 0)
    noted k s = put_noted_kept A C at k y s

    go : (t : Typing) → (length (put_classes R T A C at t y) ≡ length C) ×
        ((i : ℕ) → (i ≡ at → ⊥) → get_or (put_classes R T A C at t y) i 0 ≡ get_or C i 0)
    go Bool_case = (refl, λ i n. refl)
    go (class_case c) = noted (applied T y.effect c)
        (field_in R T (applied T y.effect c) (get_or R (at * 4 + 1) 0))
    go Null = (refl, λ i n. refl)

put_not : (R T A : List ℕ) (at : ℕ) (t : Typing) (x y : TypedCase) → NoClass t
    → put R T A at t x y ≡ refused 9 at
unfolding put
put_not R T A at Bool_case x y k = refl
put_not R T A at (class_case c) x y k = absurd k
put_not R T A at Null x y k = refl

module _ {p : Program} {R E T A M F : List ℕ} {count : ℕ} (h : Headed R E T A M F p count) where
  abbrev P : List Class
  P = p.classes

  found_low : (c f : ℕ) → c ≤ count → f < 256 → (n : ℕ) → field_in R T c f ≡ Some (record { number = n })
      → (n ≡ 255 → ⊥) → n ≤ 64
  found_low c f l m n e = go (field_type f ((world P).fields c)) refl
    where
      go : (o : Option DeclaredType) → field_type f ((world P).fields c) ≡ o → (n ≡ 255 → ⊥) → n ≤ 64
      go none q k = absurd (missing_found n (sym (field_is h c f l m ∙ ap sought_of q) ∙ e))
      go (some t) q k =
          let z : type_number t ≡ n =
          found_number (type_number t) n (sym (field_is h c f l m ∙ ap sought_of q) ∙ e) in
          omega (arith, z, (type_number_case h t (field_declared h c f l m t q)).2 (λ y. k (sym z ∙ y)))

  -- what U answers where the object has a class
  module _ (f : ℕ) (at c : ℕ) (a b : Typed) (C : List ℕ) (n : get_or R (at * 4 + 1) 0 ≡ f) (lf : f < 256)
      (lc : c ≤ count) (db : Declared (world P) b.type) where
    abbrev k : ℕ
    k = apply_class (world P) b.effect c

    k-low : k ≤ count
    k-low = omega (arith, lc, classes.apply_within P (lower h) b.effect c)

    sought-here : field_in R T (applied T b.effect c) (get_or R (at * 4 + 1) 0)
        ≡ sought_of (field_type f ((world P).fields k))
    sought-here = ap₂ (λ (x : ℕ) (y : ℕ). field_in R T x y) (applied_is h b.effect c lc) n
        ∙ field_is h k f k-low lf

    put-none : field_type f ((world P).fields k) ≡ none
        → (put R T A at (class_case c) (answered a) (answered b) ≡ refused 8 at)
        × (put_classes R T A C at (class_case c) (answered b) ≡ C)
    unfolding put put_classes put_answer put_noted
    put-none m = (rw (sought-here, m), rw (sought-here, m))

    module _ (t : DeclaredType) (m : field_type f ((world P).fields k) ≡ some t) where
      fit-here : is_fitting A (typing_case b.type) (type_number t) ≡ fits (world P) b.type t
      fit-here = fitting_is h b.type t (type_low h b.type db)
          (field_declared h k f k-low lf t m)

      put-bad : fits (world P) b.type t ≡ false
          → (put R T A at (class_case c) (answered a) (answered b) ≡ refused 9 at)
          × (put_classes R T A C at (class_case c) (answered b) ≡ C)
      unfolding put put_classes put_answer put_noted
      put-bad g = (rw (sought-here, m, fit-here, g), rw (sought-here, m, fit-here, g))

      put-good : fits (world P) b.type t ≡ true
          → (put R T A at (class_case c) (answered a) (answered b)
          ≡ answer (typing_case b.type) (join a.effect b.effect))
          × (put_classes R T A C at (class_case c) (answered b) ≡ replaced C at k)
      unfolding put put_classes put_answer put_noted
      put-good g = (
        rw (sought-here, m, fit-here, g),
        rw (sought-here, m, fit-here, g)
            (ap (λ (x : ℕ). replaced C at x) (applied_is h b.effect c lc)),
      )

  -- U. The lines of the children's typing may be any.
  pub pre_put : (f at : ℕ) (a b : Typed) (x y : TypedCase) → RowAt R at U_set f 0 → f < 256
      → Declared (world P) a.type → Declared (world P) b.type → x ≡ answered a → y ≡ answered b
      → PrePut R T A at x.typing y
  pre_put f at a b x y n l da db ex ey =
      subst (λ (z : TypedCase). PrePut R T A at z.typing y) (sym ex)
      (subst (λ (z : TypedCase). PrePut R T A at (typing_case a.type) z) (sym ey) (record {
        row = (n.within, omega (arith, n.within, h.here.short));
        value = case_low h b.type db;
        object = λ c q.
            let lc = type_low h a.type da c (case_known a.type c q) in (
              in_tables h b.effect c lc,
              subst (λ (z : ℕ). PreField R T (applied T b.effect c) z) (sym n.first)
                  (field_pre h (applied T b.effect c) f (applied_low h b.effect c lc) l),
            );
        declared = λ c i q e.
            let lc = type_low h a.type da c (case_known a.type c q) in
            found_low (applied T b.effect c) f (applied_low h b.effect c lc) l i
            (ap (λ (z : ℕ). field_in R T (applied T b.effect c) z) (sym n.first) ∙ e);
      }))

  pub set_is : (f : ℕ) (e e' : Expr) (at next scope la lb : ℕ) (γ : Environment) (a b : Typed)
      (S C C' : List ℕ) (x y : TypedCase) (r : Answer)
      → RowAt R at U_set f 0 → f < 256 → next ≡ at + 1 + size e
      → type_of (world P) e la γ ≡ accept a → type_of (world P) e' lb a.slots ≡ accept b
      → Declared (world P) a.type → Declared (world P) b.type → Views (world P) b.slots S scope
      → LooksUp (world P) C e γ (at + 1) → LooksUp (world P) C e' a.slots next
      → x ≡ answered a → y ≡ answered b
      → r ≡ put R T A at x.typing x y → C' ≡ put_classes R T A C at x.typing y
      → Is (world P) (set f e e') γ at scope S C' r
  set_is f e e' at next scope la lb γ a b S C C' x y r n l en ta tb da db v lka lkb ex ey er ec =
      by-type a.type refl
    where
      out : r ≡ put R T A at (typing_case a.type) (answered a) (answered b)
      out = er ∙ ap₂ (λ (p : TypedCase) (q : TypedCase). put R T A at p.typing p q) ex ey

      table : C' ≡ put_classes R T A C at (typing_case a.type) (answered b)
      table = ec ∙ ap₂ (λ (p : TypedCase) (q : TypedCase). put_classes R T A C at p.typing q) ex ey

      by-fit : (c : ℕ) → a.type ≡ known (class c) → c ≤ count → (t : DeclaredType)
          → field_type f ((world P).fields (apply_class (world P) b.effect c)) ≡ some t
          → (g : Bool) → fits (world P) b.type t ≡ g → Is (world P) (set f e e') γ at scope S C' r
      by-fit c q lc t o false g =
          is_refused 9 (at + 1) (set_unfit (world P) f e e' (at + 1) la lb γ a b ta tb c q t o g)
          (out ∙ ap (λ (z : ExprType). put R T A at (typing_case z) (answered a) (answered b)) q
          ∙ (put-bad f at c a b C n.first l lc db t o g).0)
      by-fit c q lc t o true g =
          let w = put-good f at c a b C n.first l lc db t o g in
          let k : ℕ = apply_class (world P) b.effect c in
          let tab : C' ≡ replaced C at k = table
          ∙ (ap (λ (z : ExprType). put_classes R T A C at (typing_case z) (answered b)) q ∙ w.1) in
          let long : length C' ≡ length C = ap length tab ∙ length-set C at k in
          let here : Notes C' at k = λ u. ap (λ (z : List ℕ). get_or z at 0) tab
          ∙ get_or-set_same C at k 0 (omega (arith, u, long)) in
          let away : (i : ℕ) → at + 1 ≤ i → get_or C' i 0 ≡ get_or C i 0 =
          λ i u. ap (λ (z : List ℕ). get_or z i 0) tab ∙ get_or-set_other C at i k 0 (λ z. omega arith) in
          is_accepted (record { type = b.type; slots = b.slots; effect = join a.effect b.effect })
          (set_done (world P) f e e' (at + 1) la lb γ a b ta tb c q t o g)
          (out ∙ (ap (λ (z : ExprType). put R T A at (typing_case z) (answered a) (answered b)) q ∙ w.0))
          (record {
            views = v;
            declared = db;
            looks = set_looks (world P) f e e' (at + 1) la lb γ a b ta tb c q C' at here
                (looks_frame (world P) C C' long e γ (at + 1) (λ i u z. away i u) lka)
                (looks_frame (world P) C C' long e' a.slots (at + 1 + size e)
                (λ i u z. away i (omega arith))
                (subst (λ (z : ℕ). LooksUp (world P) C e' a.slots z) en lkb));
          })

      by_field : (c : ℕ) → a.type ≡ known (class c) → c ≤ count → (o : Option DeclaredType)
          → field_type f ((world P).fields (apply_class (world P) b.effect c)) ≡ o
          → Is (world P) (set f e e') γ at scope S C' r
      by_field c q lc none o =
          is_refused 8 (at + 1) (set_missing (world P) f e e' (at + 1) la lb γ a b ta tb c q o)
          (out ∙ (ap (λ (z : ExprType). put R T A at (typing_case z) (answered a) (answered b)) q
          ∙ (put-none f at c a b C n.first l lc db o).0))
      by_field c q lc (some t) o = by-fit c q lc t o (fits (world P) b.type t) refl

      none-class : (t : ExprType) → a.type ≡ t → NoClass (typing_case t)
          → Is (world P) (set f e e') γ at scope S C' r
      none-class t q k =
          is_refused 9 (at + 1) (set_not (world P) f e e' (at + 1) la lb γ a b ta tb t q k)
          (out ∙ (ap (λ (z : ExprType). put R T A at (typing_case z) (answered a) (answered b)) q
          ∙ put_not R T A at (typing_case t) (answered a) (answered b) k))

      by-type : (t : ExprType) → a.type ≡ t → Is (world P) (set f e e') γ at scope S C' r
      by-type (known bool) q = none-class (known bool) q tt
      by-type (known (class c)) q =
          by_field c q (type_low h a.type da c q)
          (field_type f ((world P).fields (apply_class (world P) b.effect c))) refl
      by-type null_type q = none-class null_type q tt
