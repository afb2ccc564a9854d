-- The node J: what its function answers and leaves in the slots is what the definition says. Assumes nothing.
use mathlib.Core.Path.{◌≡◌, refl, sym, ap, ap₂, subst, ◌∙◌}
use mathlib.Core.Bool.{Bool, true, false, false≢true}
use mathlib.Core.Option.{Option, none, some}
use mathlib.Core.List.{List}
use Prim.Native.Nat.{ℕ, suc, ◌+◌, ◌*◌, ◌≤◌, ◌<◌}
use native.Mathlib.Omega.{arith}
use lib.ListN.{length, get_or}
use Rattle.language.specs.Results.{accept}
use Rattle.language.specs.Lists.{Never, inj}
use Rattle.language.specs.Tree.{Program, bool, class, ExprType, known, null_type, Expr, choose, size, Class}
use Rattle.language.specs.Effects.{join}
use Rattle.language.specs.Program.{world}
use Rattle.language.specs.Environment.{Environment, Slot}
use Rattle.language.specs.Typing.{Typed, not_bool, join_types, join_environments, type_of, join_slot}
use Rattle.language.specs.Typing.{join_currents}
use Rattle.language.specs.LookupClasses.{LooksUp}
use Rattle.language.specs.World.{is_declared_type}
use Rattle.layout.specs.Held.{Headed}
use Rattle.types.specs.declared.Typed.{Typed as TypedCase}
use Rattle.std.specs.Prelude.{Option as CodeOption, Some, None, is_ok}
use Rattle.types.specs.declared.Typing.{Typing}
use Rattle.types.specs.declared.Typing.TheVariants.{Class as class_case}
use Rattle.types.specs.Answers.{Answer, answer, answered, typing_case, current_in, slot_of, with_current}
use Rattle.types.specs.Answers.{declared_in, absent, slot_number, refused}
use Rattle.types.specs.Tables.{joined_number, Known, joined_slot, joined_case, BothClasses}
use Rattle.typing.specs.Nodes.{joined_answer, chosen, PreChoice, PostChoice}
use Rattle.expressions.specs.Cycle.{Views, Declared, Is}
use Rattle.expressions.proofs.Worlds.{class_low, sound, nearest_is}
use Rattle.expressions.proofs.Turns.{declared_known, is_refused, is_accepted}
use Rattle.expressions.proofs.TypeNumbers.{joined_numbers, join_declared}
use Rattle.expressions.proofs.Environments.{fine_join, numbers_length, has, numbers_join}
use Rattle.expressions.proofs.Slots.{views_of, views_fine, views_long, views_at, known_slots}
use Rattle.expressions.proofs.Slots.{with_type_number, current_is}
use Rattle.expressions.proofs.ThisKept.{this_kept}
use Rattle.expressions.proofs.NodeTyping.{choose_not, choose_apart, choose_done, choose_looks}

chosen_not : (T A : List ℕ) (at φ : ℕ) (t : ExprType) (u v : Typing) → not_bool t ≡ true
    → chosen T A at (typing_case t) φ u v ≡ refused 9 at
unfolding chosen
chosen_not T A at φ (known bool) u v e = absurd (false≢true e)
chosen_not T A at φ (known (class c)) u v e = refl
chosen_not T A at φ null_type u v e = refl

chosen_bool : (T A : List ℕ) (at φ : ℕ) (t : ExprType) (u v : Typing) → not_bool t ≡ false
    → chosen T A at (typing_case t) φ u v ≡ joined_answer at φ (joined_case T A u v)
unfolding chosen
chosen_bool T A at φ (known bool) u v e = refl
chosen_bool T A at φ (known (class c)) u v e = absurd (false≢true (sym e))
chosen_bool T A at φ null_type u v e = absurd (false≢true (sym e))

joined_typing : (at φ : ℕ) (t : ExprType) → joined_answer at φ (Some (typing_case t)) ≡ answer (typing_case t) φ
unfolding joined_answer
joined_typing at φ t = refl

joined_refused : (at φ : ℕ) → joined_answer at φ None ≡ refused 9 at
unfolding joined_answer
joined_refused at φ = refl

abbrev joined_result : Option ExprType → CodeOption Typing
joined_result none = None
joined_result (some t) = Some (typing_case t)

module _ {p : Program} {R E T A M F : List ℕ} {count : ℕ} (h : Headed R E T A M F p count) where
  abbrev P : List Class
  P = p.classes

  joined_is : (t u : ExprType) → Declared (world P) t → Declared (world P) u
      → joined_case T A (typing_case t) (typing_case u) ≡ joined_result (join_types (world P) t u)
  unfolding joined_case
  joined_is (known bool) (known bool) d e = refl
  joined_is (known bool) (known (class k)) d e = refl
  joined_is (known bool) null_type d e = refl
  joined_is (known (class c)) (known bool) d e = refl
  joined_is (known (class c)) (known (class k)) d e =
      ap (λ (n : ℕ). Some (class_case n)) (nearest_is h c k (class_low h c (d.class_in c refl))
      (class_low h k (e.class_in k refl)))
  joined_is (known (class c)) null_type d e = refl
  joined_is null_type (known bool) d e = refl
  joined_is null_type (known (class k)) d e = refl
  joined_is null_type null_type d e = refl

  both_classes : (t u : ExprType) → Declared (world P) t → Declared (world P) u
      → BothClasses T A (typing_case t) (typing_case u)
  both_classes (known bool) u d e = tt
  both_classes (known (class c)) (known bool) d e = tt
  both_classes (known (class c)) (known (class k)) d e =
      record {
        count = count;
        sound = sound h;
        first = class_low h c (d.class_in c refl);
        second = class_low h k (e.class_in k refl);
      }
  both_classes (known (class c)) null_type d e = tt
  both_classes null_type u d e = tt

  joined_declared : (t u v : ExprType) → Declared (world P) t → Declared (world P) u
      → join_types (world P) t u ≡ some v → Declared (world P) v
  joined_declared (known bool) (known bool) v d e q = subst (Declared (world P)) (inj q) d
  joined_declared (known bool) (known (class k)) v d e q = absurd (Never q)
  joined_declared (known bool) null_type v d e q = absurd (Never q)
  joined_declared (known (class c)) (known bool) v d e q = absurd (Never q)
  joined_declared (known (class c)) (known (class k)) v d e q =
      subst (Declared (world P)) (inj q)
      (declared_known (class ((world P).nearest c k))
      (join_declared h (class c) (class k) (d.class_in c refl) (e.class_in k refl)))
  joined_declared (known (class c)) null_type v d e q = subst (Declared (world P)) (inj q) d
  joined_declared null_type (known bool) v d e q = absurd (Never q)
  joined_declared null_type (known (class k)) v d e q = subst (Declared (world P)) (inj q) e
  joined_declared null_type null_type v d e q = subst (Declared (world P)) (inj q) d

  joined_absent : joined_slot T A (slot_of absent absent) (slot_of absent absent) ≡ slot_of absent absent
  unfolding joined_slot joined_number slot_of current_in with_current declared_in
  joined_absent = refl

  joined_slots_number : (s u : Slot) → is_declared_type (world P) s.current ≡ true
      → is_declared_type (world P) u.current ≡ true
      → slot_number (join_slot (world P) s u) ≡ joined_slot T A (slot_number s) (slot_number u)
  unfolding joined_slot
  joined_slots_number s u d e =
      with_type_number h s d (join_currents (world P) s.current u.current)
      (join_declared h s.current u.current d e)
      ∙ ap (with_current (slot_number s)) (joined_numbers h s.current u.current d e
      ∙ ap₂ (joined_number T A) (current_is h s d) (current_is h u e))

  join_views : (b c : Environment) (S₁ S S' : List ℕ) (scope top : ℕ) → Views (world P) b S₁ scope
      → scope ≤ length S₁ → Views (world P) c S scope → scope ≤ length S
      → length S' ≡ length S → has b.this ≡ has c.this
      → ((k : ℕ) → k < scope → get_or S (top + k) 0 ≡ get_or S₁ k 0)
      → ((k : ℕ) → k < scope → get_or S' k 0 ≡ joined_slot T A (get_or S (top + k) 0) (get_or S k 0))
      → Views (world P) (join_environments (world P) b c) S' scope
  join_views b c S₁ S S' scope top v₁ l₁ v l el t sv f =
      let e₁ : suc (length b.slots) ≡ scope = sym (numbers_length b) ∙ views_long v₁ l₁ in
      let e₂ : suc (length c.slots) ≡ scope = sym (numbers_length c) ∙ views_long v l in
      let w = numbers_join (world P) (joined_slot T A) joined_absent
      (λ s u d e. joined_slots_number s u d.0 e.0)
      (views_fine (world P) v₁) (views_fine (world P) v) (omega arith) t in
      views_of (world P) (join_environments (world P) b c) S' scope
      (fine_join (world P) (λ s u d e. (join_declared h s.current u.current d.0 e.0, d.1))
      (views_fine (world P) v₁) (views_fine (world P) v))
      (omega (arith, l, el))
      (w.0 ∙ e₁)
      (λ k m. f k m ∙ (ap₂ (joined_slot T A) (sv k m ∙ views_at v₁ l₁ k m) (views_at v l k m) ∙ sym
      (w.1 k (omega (arith, e₁, m)))))

  -- J: S has the slots after the second arm, and from `top` on those after the first, S₁.
  pub pre_choice : (at scope top : ℕ) (b c : Typed) (S₁ S : List ℕ) (y z : TypedCase) → at * 4 + 3 < length R
      → Declared (world P) b.type → Declared (world P) c.type
      → Views (world P) b.slots S₁ scope → scope ≤ length S₁
      → ((k : ℕ) → k < scope → get_or S (top + k) 0 ≡ get_or S₁ k 0)
      → Views (world P) c.slots S scope → scope ≤ top → top + scope ≤ length S
      → y ≡ answered b → z ≡ answered c → PreChoice T A S at scope top y.typing z.typing
  pre_choice at scope top b c S₁ S y z n db dc v₁ l₁ sv v l lt ey ez =
      subst (λ (x : TypedCase). PreChoice T A S at scope top x.typing z.typing) (sym ey)
      (subst (λ (x : TypedCase). PreChoice T A S at scope top (typing_case b.type) x.typing) (sym ez)
      (record {
        low = omega (arith, n, h.here.short);
        types = both_classes b.type c.type db dc;
        slots = record {
          count = count;
          sound = sound h;
          apart = l;
          room = lt;
          slots = known_slots h v (omega (arith, l, lt));
          saved = λ k m. subst (Known count) (ap current_in (sym (sv k m))) (known_slots h v₁ l₁ k m);
        };
      }))

  pub choose_is : (e p q : Expr) (at next third scope top la lb lc : ℕ) (γ : Environment) (a b c : Typed)
      (S₁ S S' C : List ℕ) (x y z : TypedCase) (r : Answer)
      → next ≡ at + 1 + size e → third ≡ next + size p
      → type_of (world P) e la γ ≡ accept a → type_of (world P) p lb a.slots ≡ accept b
      → type_of (world P) q lc a.slots ≡ accept c
      → Declared (world P) b.type → Declared (world P) c.type
      → Views (world P) b.slots S₁ scope → scope ≤ length S₁
      → ((k : ℕ) → k < scope → get_or S (top + k) 0 ≡ get_or S₁ k 0)
      → Views (world P) c.slots S scope → scope ≤ top → top + scope ≤ length S
      → LooksUp (world P) C e γ (at + 1) → LooksUp (world P) C p a.slots next
      → LooksUp (world P) C q a.slots third
      → x ≡ answered a → y ≡ answered b → z ≡ answered c
      → PostChoice T A S S' at scope top x y z r
      → Is (world P) (choose e p q) γ at scope S' C r
  choose_is e p q at next third scope top la lb lc γ a b c S₁ S S' C x y z r en et ta tb tc db dc v₁ l₁ sv v
      l
      lt lka lkb lkc ex ey ez pc =
      by_bool (not_bool a.type) refl
    where
      φ : ℕ
      φ = join a.effect (join b.effect c.effect)

      out : r ≡ chosen T A at (typing_case a.type) φ (typing_case b.type) (typing_case c.type)
      out = pc.out ∙ (ap (λ (w : TypedCase). chosen T A at w.typing
          (join w.effect (join y.effect z.effect)) y.typing z.typing) ex
          ∙ ap₂ (λ (u : TypedCase) (w : TypedCase).
          chosen T A at (typing_case a.type) (join a.effect (join u.effect w.effect))
          u.typing w.typing) ey ez)

      by-join : not_bool a.type ≡ false → (o : Option ExprType)
          → join_types (world P) b.type c.type ≡ o → Is (world P) (choose e p q) γ at scope S' C r
      by-join f none o =
          is_refused 9 (at + 1) (choose_apart (world P) e p q (at + 1) la lb lc γ a b c ta tb tc f o)
          (out ∙ (chosen_bool T A at φ a.type (typing_case b.type) (typing_case c.type) f
          ∙ (ap (joined_answer at φ) (joined_is b.type c.type db dc ∙ ap joined_result o)
          ∙ joined_refused at φ)))
      by-join f (some t) o =
          let w : r ≡ answer (typing_case t) φ =
          out ∙ (chosen_bool T A at φ a.type (typing_case b.type) (typing_case c.type) f
          ∙ (ap (joined_answer at φ) (joined_is b.type c.type db dc ∙ ap joined_result o)
          ∙ joined_typing at φ t)) in
          is_accepted (record {
            type = t;
            slots = join_environments (world P) b.slots c.slots;
            effect = φ;
          })
          (choose_done (world P) e p q (at + 1) la lb lc γ a b c ta tb tc t f o) w
          (record {
            views = join_views b.slots c.slots S₁ S S' scope top v₁ l₁ v (omega (arith, l, lt))
                pc.long
                (this_kept (world P) p lb a.slots b tb ∙ sym (this_kept (world P) q lc a.slots c tc))
                sv
                (pc.slots (ap is_ok w));
            declared = joined_declared b.type c.type t db dc o;
            looks = choose_looks (world P) e p q (at + 1) la lb lc γ a b c ta tb tc C at lka
                (subst (λ (i : ℕ). LooksUp (world P) C p a.slots i) en lkb)
                (subst (λ (i : ℕ). LooksUp (world P) C q a.slots i) (et ∙ ap (λ (i : ℕ). i + size p) en)
                lkc);
          })

      by_bool : (g : Bool) → not_bool a.type ≡ g → Is (world P) (choose e p q) γ at scope S' C r
      by_bool true f =
          is_refused 9 (at + 1) (choose_not (world P) e p q (at + 1) la lb lc γ a b c ta tb tc f)
          (out ∙ chosen_not T A at φ a.type (typing_case b.type) (typing_case c.type) f)
      by_bool false f = by-join f (join_types (world P) b.type c.type) refl
