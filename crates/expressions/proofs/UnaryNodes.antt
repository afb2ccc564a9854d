-- The nodes Z, K, A and G: what their functions answer is what the definition says, where their child's answer
-- is. Assumes nothing.
use mathlib.Core.Path.{◌≡◌, refl, sym, ap, subst, ◌∙◌}
use mathlib.Core.Bool.{Bool, true, false, not, cond}
use mathlib.Core.Logic.{⊎_elim}
use mathlib.Core.Option.{Option, none, some}
use mathlib.Core.List.{List}
use Prim.Native.Nat.{ℕ, zero, suc, ◌+◌, ◌*◌, ◌≤◌, ◌<◌}
use native.Mathlib.Omega.{arith}
use borrow.Author.Tests.{le-leb, lt-leb, ne_eqb}
use lib.Dec.{eqb, leb, ltb}
use lib.ListN.{length, get_or, length-set}
use lib.Seq.{get_or-set_same, get_or-set_other}
use Rattle.language.specs.Lists.{nth}
use Rattle.language.specs.Results.{Checked, accept, need_checked, require}
use Rattle.language.specs.Results.{accept_injective, need_checked_inv, require_inv}
use Rattle.language.specs.Frames.{at_slot}
use Rattle.language.specs.Tree.{Program, DeclaredType, bool, class, ExprType, known, null_type, Class, Expr}
use Rattle.language.specs.Tree.{is_null, get, cast, assign}
use Rattle.language.specs.World.{field_type, is_declared, is_declared_type}
use Rattle.language.specs.Program.{world, world_with}
use Rattle.language.specs.Environment.{Slot, Environment}
use Rattle.language.specs.Typing.{Typed, typed, not_bool, need_class, fits, type_of}
use Rattle.language.specs.LookupClasses.{Notes, LooksUp}
use Rattle.language.specs.Translation.{typed_or, class_or}
use Rattle.language.proofs.Lines.{le_or_less}
use Rattle.layout.specs.Held.{Headed}
use Rattle.types.specs.declared.Typed.{Typed as TypedCase}
use Rattle.std.specs.Prelude.{Some, None}
use Rattle.types.specs.declared.Typing.{Typing}
use Rattle.types.specs.declared.Typing.TheVariants.{Bool as Bool_case, Class as class_case, Null}
use Rattle.types.specs.Answers.{Answer, answer, answer_of, typed_case, typing_case, current_in, refused}
use Rattle.access.specs.Fields.{Sought, sought_of, field_in, got, got_classes, found_answer, noted}
use Rattle.types.specs.Tables.{is_fitting}
use Rattle.typing.specs.Nodes.{null_tested, casted, cast_answer, assigned}
use Rattle.expressions.specs.Cycle.{Views, Declared, Accepted, Is}
use Rattle.expressions.proofs.Lists.{declared_test}
use Rattle.expressions.proofs.Worlds.{class_low, fitting_is}
use Rattle.expressions.proofs.Typings.{line_free, looks_frame, class_inv}
use Rattle.expressions.proofs.Turns.{declared_bool, declared_known, type_low, bind_accepted}
use Rattle.expressions.proofs.TurnsNodes.{Did}
use Rattle.expressions.proofs.TypeNumbers.{type_number_case}
use Rattle.expressions.proofs.Slots.{slot_some, slot_none}
use Rattle.expressions.proofs.FieldTables.{field_is, field_declared}

-- ---- Z

null_go : (at : ℕ) (a : Typed) → null_tested at (typing_case a.type) a.effect
    ≡ answer_of (require (not_bool a.type) 9 (at + 1) λ _. typed (known bool) a.slots a.effect)
unfolding null_tested require
null_go at a = go a.type
  where
    go : (t : ExprType) → null_tested at (typing_case t) a.effect
        ≡ answer_of (require (not_bool t) 9 (at + 1) λ _. typed (known bool) a.slots a.effect)
    go (known bool) = refl
    go (known (class c)) = refl
    go null_type = refl

module _ {p : Program} {R E T A M F : List ℕ} {count : ℕ} (h : Headed R E T A M F p count) where
  abbrev P : List Class
  P = p.classes

  pub is_null_is : {e : Expr} {γ : Environment} {S C : List ℕ} {scope : ℕ} (at : ℕ) (x : TypedCase) (r : Answer)
      → Did (world P) e γ (at + 1) scope S C x
      → r ≡ null_tested at x.typing x.effect → Is (world P) (is_null e) γ at scope S C r
  unfolding type_of LooksUp
  is_null_is {e} {γ} {S} {C} {scope} at x r w f =
      let node : type_of (world P) (is_null e) (at + 1) γ
      ≡ require (not_bool w.a.type) 9 (at + 1) λ _. typed (known bool) w.a.slots w.a.effect =
      bind_accepted _ _ w.a w.typed_at in
      record {
        out = f ∙ (ap (λ (y : TypedCase). null_tested at y.typing y.effect) w.is
            ∙ (null_go at w.a ∙ sym (ap answer_of node)));
        accepted = λ a q. require_inv (not_bool w.a.type) 9 (at + 1) _ (sym node ∙ q) λ d u.
            subst (λ (y : Typed). Accepted (world P) (is_null e) γ at scope S C y) (accept_injective u)
            (record { views = w.accepted.views; declared = declared_bool; looks = w.accepted.looks });
      }

  -- ---- K

  casts : (c at : ℕ) (a : Typed) → get_or R (at * 4 + 1) 0 ≡ c
      → cast_answer R count at (typed_case (typing_case a.type) a.effect)
      ≡ answer_of (require (leb c count) 4 (at + 1) λ _. require (not_bool a.type) 9
      (at + 1) λ _. typed (known (class c)) a.slots a.effect)
  unfolding cast_answer require casted
  casts c at a e = rw e (go (leb c count) refl a.type)
    where
      go : (b : Bool) → leb c count ≡ b → (t : ExprType)
          → cond (ltb count c) (refused 4 at) (casted at c (typing_case t) a.effect)
          ≡ answer_of (require b 4 (at + 1) λ _. require (not_bool t) 9 (at + 1) λ _. typed (known (class c))
          a.slots a.effect)
      go true f (known bool) = rw (declared_test c count true f)
      go true f (known (class d)) = rw (declared_test c count true f)
      go true f null_type = rw (declared_test c count true f)
      go false f t = rw (declared_test c count false f)

  pub cast_is : {e : Expr} {γ : Environment} {S C : List ℕ} {scope : ℕ} (c at : ℕ) (x : TypedCase) (r : Answer)
      → get_or R (at * 4 + 1) 0 ≡ c → Did (world P) e γ (at + 1) scope S C x
      → r ≡ cast_answer R count at x → Is (world P) (cast c e) γ at scope S C r
  unfolding type_of LooksUp world world_with
  cast_is {e} {γ} {S} {C} {scope} c at x r z w f =
      let node : type_of (world P) (cast c e) (at + 1) γ
      ≡ require (is_declared (world P) c) 4 (at + 1) λ _. require (not_bool w.a.type) 9 (at + 1) λ _.
      typed (known (class c)) w.a.slots w.a.effect = bind_accepted _ _ w.a w.typed_at in
      record {
        out = f ∙ (ap (cast_answer R count at) w.is ∙ (casts c at w.a z
            ∙ (ap (λ (n : ℕ). answer_of (require (leb c n) 4 (at + 1) λ _. require (not_bool w.a.type) 9
            (at + 1) λ _. typed (known (class c)) w.a.slots w.a.effect)) (sym h.counted)
            ∙ sym (ap answer_of node))));
        accepted = λ a q. require_inv (is_declared (world P) c) 4 (at + 1) _ (sym node ∙ q) λ d u.
            require_inv (not_bool w.a.type) 9 (at + 1) _ u λ d' u'.
            subst (λ (y : Typed). Accepted (world P) (cast c e) γ at scope S C y) (accept_injective u')
            (record {
              views = w.accepted.views;
              declared = declared_known (class c) d;
              looks = w.accepted.looks;
            });
      }

  -- ---- A

  assigns : (S : List ℕ) (scope k at : ℕ) (a : Typed) → Views (world P) a.slots S scope → scope ≤ length S
      → Declared (world P) a.type → get_or R (at * 4 + 1) 0 ≡ k
      → assigned R A S at scope (typed_case (typing_case a.type) a.effect)
      ≡ answer_of (require (not (eqb k 0)) 7 (at + 1) λ _. need_checked (at_slot a.slots k) 7 (at + 1) λ s.
      require (fits (world P) a.type s.current) 9 (at + 1) λ _. accept a)
  unfolding assigned require need_checked
  assigns S scope zero at a v l d e = rw e
  assigns S scope (suc k) at a v l d e =
      rw (e, ne_eqb (suc k) 0 (λ z. omega arith)) (go (nth a.slots.slots k) refl)
    where
      fit : (s : Slot) (b : Bool) → fits (world P) a.type s.current ≡ b
          → cond b (answer (typing_case a.type) a.effect) (refused 9 at)
          ≡ answer_of (require b 9 (at + 1) λ _. accept a)
      fit s true q = refl
      fit s false q = refl

      go : (o : Option Slot) → nth a.slots.slots k ≡ o
          → cond (leb scope (suc k)) (refused 7 at)
          (cond (is_fitting A (typing_case a.type) (current_in (get_or S (suc k) 0)))
          (answer (typing_case a.type) a.effect) (refused 9 at))
          ≡ answer_of (need_checked o 7 (at + 1) λ s. require (fits (world P) a.type s.current) 9
          (at + 1) λ _. accept a)
      go none q = ⊎_elim
          (λ m. rw (le-leb scope (suc k) m))
          (λ m. absurd (omega (arith, (slot_none v l (suc k) q m).0)))
          (le_or_less scope (suc k))
      go (some s) q =
          let w = slot_some h v l (suc k) s q in
          let x = fitting_is h a.type s.current (type_low h a.type d)
          (v.current (suc k) s q) in
          rw (lt-leb scope (suc k) w.0, w.1, x) (fit s (fits (world P) a.type s.current) refl)

  pub assign_is : {e : Expr} {γ : Environment} {S C : List ℕ} {scope : ℕ} (k at : ℕ) (x : TypedCase) (r : Answer)
      → get_or R (at * 4 + 1) 0 ≡ k → scope ≤ length S
      → Did (world P) e γ (at + 1) scope S C x → r ≡ assigned R A S at scope x
      → Is (world P) (assign k e) γ at scope S C r
  unfolding type_of LooksUp
  assign_is {e} {γ} {S} {C} {scope} k at x r z l w f =
      let node : type_of (world P) (assign k e) (at + 1) γ
      ≡ require (not (eqb k 0)) 7 (at + 1) λ _. need_checked (at_slot w.a.slots k) 7 (at + 1) λ s.
      require (fits (world P) w.a.type s.current) 9 (at + 1) λ _. accept w.a =
      bind_accepted _ _ w.a w.typed_at in
      record {
        out = f ∙ (ap (assigned R A S at scope) w.is
            ∙ (assigns S scope k at w.a w.accepted.views l w.accepted.declared z ∙ sym (ap answer_of node)));
        accepted = λ a q. require_inv (not (eqb k 0)) 7 (at + 1) _ (sym node ∙ q) λ d u.
            need_checked_inv (at_slot w.a.slots k) 7 (at + 1) _ u λ s p' u'.
            require_inv (fits (world P) w.a.type s.current) 9 (at + 1) _ u' λ d' u''.
            subst (λ (y : Typed). Accepted (world P) (assign k e) γ at scope S C y) (accept_injective u'')
            (record {
              views = w.accepted.views;
              declared = w.accepted.declared;
              looks = w.accepted.looks;
            });
      }

  -- ---- G

  found_is : (at φ : ℕ) (γ : Environment) (o : Option DeclaredType)
      → ((t : DeclaredType) → o ≡ some t → is_declared_type (world P) t ≡ true)
      → found_answer at φ (sought_of o) ≡ answer_of (need_checked o 8 (at + 1) λ t. typed (known t) γ φ)
  unfolding found_answer need_checked
  found_is at φ γ none d = refl
  found_is at φ γ (some t) d = ap (λ (x : Typing). answer x φ) (type_number_case h t (d t refl)).0

  gets : (f at : ℕ) (a : Typed) → f < 256 → Declared (world P) a.type → get_or R (at * 4 + 1) 0 ≡ f
      → got R T at (typing_case a.type) a.effect
      ≡ answer_of (need_class a.type 9 (at + 1) λ c. need_checked (field_type f ((world P).fields c)) 8
      (at + 1) λ t. typed (known t) a.slots a.effect)
  unfolding got need_class
  gets f at a m d e = go a.type d
    where
      go : (t : ExprType) → Declared (world P) t → got R T at (typing_case t) a.effect
          ≡ answer_of (need_class t 9 (at + 1) λ c. need_checked (field_type f ((world P).fields c)) 8 (at + 1)
          λ u. typed (known u) a.slots a.effect)
      go (known bool) d = refl
      go (known (class c)) d =
          let l = class_low h c (d.class_in c refl) in
          rw (e, field_is h c f l m)
          (found_is at a.effect a.slots (field_type f ((world P).fields c))
          (field_declared h c f l m))
      go null_type d = refl

  -- what G leaves of the table
  pub got_kept : (C : List ℕ) (at : ℕ) (t : Typing)
      → (length (got_classes R T C at t) ≡ length C)
      × ((i : ℕ) → (i ≡ at → ⊥) → get_or (got_classes R T C at t) i 0 ≡ get_or C i 0)
  unfolding got_classes noted
  got_kept C at Bool_case = (refl, λ i n. refl)
  got_kept C at (class_case c) = go (field_in R T c (get_or R (at * 4 + 1) 0))
    where
      go : (s : Sought) → (length (noted C at c s) ≡ length C) ×
          ((i : ℕ) → (i ≡ at → ⊥) → get_or (noted C at c s) i 0 ≡ get_or C i 0)
      go None = (refl, λ i n. refl)
      go (Some u) = (length-set C at c, λ i n. get_or-set_other C at i c 0 n)
  got_kept C at Null = (refl, λ i n. refl)

  got_noted : (C : List ℕ) (c f at : ℕ) (t : DeclaredType) → at < length C → c ≤ count → f < 256
      → get_or R (at * 4 + 1) 0 ≡ f → field_type f ((world P).fields c) ≡ some t
      → get_or (got_classes R T C at (class_case c)) at 0 ≡ c
  unfolding got_classes noted
  got_noted C c f at t l m n e q = rw (e, field_is h c f m n, q) (get_or-set_same C at c 0 l)

  pub get_is : {e : Expr} {γ : Environment} {S C C' : List ℕ} {scope : ℕ} (f at : ℕ) (x : TypedCase) (r : Answer)
      → get_or R (at * 4 + 1) 0 ≡ f → f < 256
      → Did (world P) e γ (at + 1) scope S C x → r ≡ got R T at x.typing x.effect
      → C' ≡ got_classes R T C at x.typing
      → Is (world P) (get f e) γ at scope S C' r
  unfolding type_of LooksUp
  get_is {e} {γ} {S} {C} {C'} {scope} f at x r z m w v y =
      let b = w.a in
      let ac = w.accepted in
      let node : type_of (world P) (get f e) (at + 1) γ
      ≡ need_class b.type 9 (at + 1) λ c. need_checked (field_type f ((world P).fields c)) 8 (at + 1) λ t.
      typed (known t) b.slots b.effect = bind_accepted _ _ b w.typed_at in
      record {
        out = v ∙ (ap (λ (u : TypedCase). got R T at u.typing u.effect) w.is
            ∙ (gets f at b m ac.declared z ∙ sym (ap answer_of node)));
        accepted = λ a q. class_inv b.type 9 (at + 1) _ (sym node ∙ q) λ c tc u.
            need_checked_inv (field_type f ((world P).fields c)) 8 (at + 1) _ u λ t ft u'.
            let ct : x.typing ≡ class_case c = ap (λ (u : TypedCase). u.typing) w.is ∙ ap typing_case tc in
            let l : c ≤ count = type_low h b.type ac.declared c tc in
            let cc' : C' ≡ got_classes R T C at (class_case c) = y ∙ ap (got_classes R T C at) ct in
            let k = got_kept C at (class_case c) in
            let long : length C' ≡ length C = ap length cc' ∙ k.0 in
            let here : Notes C' at c = λ n. ap (λ (u : List ℕ). get_or u at 0) cc'
            ∙ got_noted C c f at t (omega (arith, n, long)) l m z ft in
            let lf : type_of (world P) e 0 γ ≡ accept b = line_free (world P) e (at + 1 + 1) 0 γ w.typed_at in
            subst (λ (u : Typed). Accepted (world P) (get f e) γ at scope S C' u) (accept_injective u')
            (record {
              views = ac.views;
              declared = declared_known t (field_declared h c f l m t ft);
              looks = (
                (λ n. here n ∙ sym (ap (λ (u : Checked Typed). class_or (typed_or u).type) lf ∙ ap class_or tc)),
                looks_frame (world P) C C' long e γ (at + 1)
                    (λ j u v. ap (λ (w : List ℕ). get_or w j 0) cc' ∙ k.1 j (λ z. omega arith)) ac.looks,
              );
            });
      }
