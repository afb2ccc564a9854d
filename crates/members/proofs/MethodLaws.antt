-- Laws of M lines: what a method's row tells, its faults, and what holds between two of them. Assumes nothing.
use mathlib.Core.Path.{◌≡◌, refl, sym, ap, subst, ◌∙◌}
use mathlib.Core.Bool.{Bool, true, false, ◌&&◌, cond}
use mathlib.Core.Option.{Option, none, some}
use mathlib.Core.List.{List, [], ◌∷◌}
use Prim.Native.Nat.{ℕ, suc, ◌+◌, ◌-◌, ◌*◌, ◌≤◌, ◌<◌}
use native.Mathlib.Omega.{arith}
use borrow.Author.Tests.{eq-eqb, ne_eqb}
use lib.ListN.{length, get_or}
use Rattle.language.specs.Lists.{nth, nth_lt}
use Rattle.language.specs.Tree.{DeclaredType, type_of_number, Declaration, Class}
use Rattle.language.specs.World.{Method, is_declared_type}
use Rattle.language.specs.Effects.{effect_of_all}
use Rattle.language.specs.Program.{world}
use Rattle.language.specs.Headings.{is_some, same_type, same_types, lines_within, may_override}
use Rattle.language.specs.ClassTables.{stored_place, method_number}
use Rattle.language.specs.MethodTables.{placed_methods}
use Rattle.language.specs.Layout.{MethodAt}
use Rattle.language.proofs.Methods.{FoundMethod, method_found}
use Rattle.layout.specs.Found.{MethodHere, method_here, found_number, found_none}
use Rattle.members.specs.Faults.{fault_of_method}
use Rattle.members.specs.Numbers.{own_or}
use Rattle.members.specs.Ready.{EffectLines, ParameterLines, OverrideReady, MethodLine, MethodCounted}
use Rattle.members.proofs.Numbers.{numbered_fewer}
use Rattle.members.proofs.Loops.{same_number}

-- ---- overriding

-- the tests, by the heading that a lookup found
override_tests : (m : Declaration) (N : Method) (t : DeclaredType) (ts : List DeclaredType) (φ : ℕ)
    → N.result ≡ t
    → N.parameters ≡ ts → N.effect ≡ φ
    → may_override m (some N)
    ≡ same_type m.result t && (same_types m.parameters ts && lines_within m.effects φ)
override_tests m N t ts φ e f g = rw (e, f, g)

module _ {R M F : List ℕ} {r np nx n : ℕ} (w : OverrideReady R M F r np nx n) where
  -- the overridden method
  d : Declaration
  d = w.over.placed.declaration

  there : nth (placed_methods w.program.classes) n ≡ some w.over.placed
  there = ap (nth (placed_methods w.program.classes)) (sym w.number_is) ∙ w.over.there

  here : MethodHere R w.ends w.program.classes w.over.placed
  here = method_here w.standing n w.over.placed there

  over_row : get_or M (n * 4) 0 ≡ w.over.placed.row
  over_row = w.entered.rows n w.over.placed (omega arith) there

  over_at : MethodAt R w.ends d (get_or M (n * 4) 0)
  unfolding d
  over_at = subst (MethodAt R w.ends w.over.placed.declaration) (sym over_row) here.at

  -- what is read lies in the rows and the tables
  pub override_index : (n * 4 + 3 < length M) × (n < length F) × (get_or M (n * 4) 0 * 4 + 3 < length R)
  override_index =
      let l = nth_lt (placed_methods w.program.classes) n w.over.placed there in (
        omega (arith, l, w.entered.long),
        omega (arith, l, w.entered.long_effects),
        over_at.line.within,
      )

  tests : may_override w.method (some w.found)
      ≡ same_type w.method.result d.result && (same_types w.method.parameters d.parameters
      && lines_within w.method.effects (effect_of_all d.effects))
  unfolding d
  tests = override_tests w.method w.found _ _ _ w.over.result w.over.parameters
      w.over.effect

  pub override_result : (t u : ℕ) → t ≡ get_or R (r * 4 + 1) 0 → u ≡ get_or R (get_or M (n * 4) 0 * 4 + 1) 0
      → (t ≡ u → ⊥)
      → false ≡ may_override w.method (some w.found)
  unfolding d
  override_result t u t-is u-is o = sym (tests ∙ rw (
    ← same_number w.method.result d.result w.in_form.result.back here.in_form.result.back,
    ne_eqb _ _ (λ e. o (t-is ∙ (w.at.line.first ∙ (e ∙ sym (u-is ∙ over_at.line.first))))),
  ))

  module _ (t u : ℕ) (t-is : t ≡ get_or R (r * 4 + 1) 0) (u-is : u ≡ get_or R (get_or M (n * 4) 0 * 4 + 1) 0)
      (e : t ≡ u) where
    after-result : may_override w.method (some w.found)
        ≡ same_types w.method.parameters d.parameters && lines_within w.method.effects
        (effect_of_all d.effects)
    unfolding d
    after-result = tests ∙ rw (
      ← same_number w.method.result d.result w.in_form.result.back here.in_form.result.back,
      eq-eqb _ _ (sym (t-is ∙ w.at.line.first) ∙ (e ∙ (u-is ∙ over_at.line.first))),
    )

    count_is : get_or M (n * 4 + 2) 0 ≡ length d.parameters
    unfolding d
    count_is = w.entered.parameters n w.over.placed (omega arith) there

    other_length : (ts us : List DeclaredType) → (length us ≡ length ts → ⊥) → same_types ts us ≡ false
    unfolding same_types
    other_length [] [] n = absurd (n refl)
    other_length [] (u ∷ us) n = refl
    other_length (t ∷ ts) [] n = refl
    other_length (t ∷ ts) (u ∷ us) n = both (same_type t u) (other_length ts us (λ e. n (ap suc e)))
      where
        both : (b : Bool) {c : Bool} → c ≡ false → b && c ≡ false
        both true e = e
        both false e = refl

    pub override_count : (get_or M (n * 4 + 2) 0 ≡ np → ⊥) → false ≡ may_override w.method (some w.found)
    override_count o = sym (after-result ∙ rw (other_length w.method.parameters d.parameters
        (λ q. o (count_is ∙ (q ∙ sym w.np_is)))))

    module _ (q : get_or M (n * 4 + 2) 0 ≡ np) where
      abbrev pub own_types : ParameterLines R (r + 1) np
      own_types = record {
        types = w.method.parameters;
        here = w.at.parameters;
        in_form = w.in_form.parameters;
        n_is = w.np_is;
        short = w.standing.short;
      }

      pub over_types : ParameterLines R (get_or M (n * 4) 0 + 1) np
      unfolding d
      over_types = record {
        types = w.over.placed.declaration.parameters;
        here = over_at.parameters;
        in_form = here.in_form.parameters;
        n_is = sym q ∙ count_is;
        short = w.standing.short;
      }

      module _ (b : Bool) (g : (v : ParameterLines R (r + 1) np)
          → (u : ParameterLines R (get_or M (n * 4) 0 + 1) np) → b ≡ same_types v.types u.types) where
        types-is : b ≡ same_types w.method.parameters d.parameters
        unfolding d over_types
        types-is = g own_types over_types

        pub override_types : b ≡ false → false ≡ may_override w.method (some w.found)
        override_types z = sym (after-result ∙ rw (← types-is, z))

        abbrev pub own_lines : EffectLines R (r + 1 + np) nx
        own_lines = record {
          effects = w.method.effects;
          here = rw w.np_is w.at.effects;
          n_is = w.nx_is;
          short = w.standing.short;
        }

        effect_is : get_or F n 0 ≡ effect_of_all d.effects
        unfolding d
        effect_is = w.entered.effects n w.over.placed (omega arith) there

        pub override_within : b ≡ true → (t : Bool)
            → ((v : EffectLines R (r + 1 + np) nx) → t ≡ lines_within v.effects (get_or F n 0))
            → t ≡ may_override w.method (some w.found)
        override_within z t j = j own_lines ∙ (ap (lines_within w.method.effects) effect_is
            ∙ sym (after-result ∙ rw (← types-is, z)))

-- ---- the fault of an M line

module _ {R T M F : List ℕ} {r np nx k first count : ℕ} (v : MethodCounted R T M F r np nx k first count)
  where
    w : MethodLine R T r k first count
    w = v.line

    P : List Class
    P = w.program.classes

    abbrev fault : ℕ
    fault = fault_of_method v.line.program.classes v.line.super v.line.before v.line.method

    type-is : (t : ℕ) → t ≡ get_or R (r * 4 + 1) 0 → type_of_number t ≡ w.method.result
    unfolding w
    type-is t t-is = ap type_of_number (t-is ∙ w.at.line.first) ∙ w.in_form.result.back

    pub method_undeclared : (t : ℕ) → t ≡ get_or R (r * 4 + 1) 0
        → is_declared_type (world v.line.program.classes) (type_of_number t) ≡ false → 4 ≡ fault
    unfolding fault_of_method w
    method_undeclared t t-is b = let b' = rw (type-is t t-is) at b in sym (rw b')

    module _ (t name : ℕ) (t-is : t ≡ get_or R (r * 4 + 1) 0) (name-is : name ≡ get_or R (r * 4 + 2) 0)
        (b : is_declared_type (world v.line.program.classes) (type_of_number t) ≡ true) where
      -- the entry of the method's name in the class
      abbrev entry : ℕ
      entry = get_or T (k * 576 + 256 + name) 0

      entry-is : entry ≡ stored_place (own_or w.own (method_number P w.super) w.method.name)
      unfolding w P
      entry-is = ap (λ (n : ℕ). get_or T (k * 576 + 256 + n) 0) (name-is ∙ w.at.line.second)
          ∙ w.working.block.entries w.method.name (omega (arith, w.in_form.name))

      on : fault ≡ cond (is_some (w.own w.method.name)) 4
          (cond (may_override w.method ((world P).method w.super w.method.name)) 0 6)
      unfolding fault_of_method w P
      on = let b' = rw (type-is t t-is) at b in rw (b', w.names w.method.name)

      -- one of this class, none, or an inherited one
      cases : {A : Type 0} (o : Option ℕ) → w.own w.method.name ≡ o → (q : Option ℕ)
          → method_number P w.super w.method.name ≡ q
          → (first < entry → is_some (w.own w.method.name) ≡ true → A)
          → (entry ≤ first → is_some (w.own w.method.name) ≡ false
          → entry ≡ stored_place (method_number P w.super w.method.name) → A) → A
      unfolding w P
      cases (some x) e q d f g =
          let h : entry ≡ suc x = rw e at entry-is in
          f (omega (arith, h, w.later w.method.name x e)) (rw e)
      cases none e (some y) d f g =
          let h : entry ≡ suc y = rw (e, d) at entry-is in
          g (omega (arith, h, w.inherited w.method.name y d)) (rw e) (rw d h)
      cases none e none d f g =
          let h : entry ≡ 0 = rw (e, d) at entry-is in
          g (omega (arith, h)) (rw e) (rw d h)

      pub method_twice : first < entry → 4 ≡ fault
      unfolding w P
      method_twice l = cases (w.own w.method.name) refl (method_number P w.super w.method.name)
          refl
          (λ a s. sym (on ∙ rw s)) (λ a s e. absurd (omega (arith, a, l)))

      module _ (l : entry ≤ first) where
        over-on : (fault ≡ cond (may_override w.method ((world P).method w.super w.method.name)) 0 6)
            × (entry ≡ stored_place (method_number P w.super w.method.name))
        unfolding w P
        over-on = cases (w.own w.method.name) refl (method_number P w.super w.method.name) refl
            (λ a s. absurd (omega (arith, a, l))) (λ a s e. (on ∙ rw s, e))

        pub method_first : entry ≡ 0 → 0 ≡ fault
        unfolding w P
        method_first z = go (method_number P w.super w.method.name) refl
          where
            go : (o : Option ℕ) → method_number P w.super w.method.name ≡ o → 0 ≡ fault
            go none q = sym (over-on.0 ∙ rw (found_none P w.super w.method.name q))
            go (some x) q = absurd (omega (arith, z, over-on.1 ∙ ap stored_place q))

        module _ (n : entry ≡ 0 → ⊥) where
          -- the overridden method
          pub overridden : (N : Method) × FoundMethod v.line.program.classes v.line.method.name N
              × (N.number ≡ entry - 1) × (fault ≡ cond (may_override v.line.method (some N)) 0 6)
          unfolding w P
          overridden = go (method_number P w.super w.method.name) refl
            where
              go : (o : Option ℕ) → method_number P w.super w.method.name ≡ o
                  → (N : Method) × FoundMethod v.line.program.classes v.line.method.name N
                  × (N.number ≡ entry - 1) × (fault ≡ cond (may_override v.line.method (some N)) 0 6)
              go none q = absurd (n (over-on.1 ∙ ap stored_place q))
              go (some x) q =
                  let y = found_number P w.super w.method.name x q in (
                    y.0,
                    method_found P w.super w.method.name y.0 y.1,
                    omega (arith, y.2, over-on.1 ∙ ap stored_place q),
                    over-on.0 ∙ rw y.1,
                  )

          abbrev pub override_ready : OverrideReady R M F r np nx (entry - 1)
          override_ready = record {
            ends = v.line.ends;
            program = v.line.program;
            standing = v.line.standing;
            method = v.line.method;
            at = v.line.at;
            in_form = v.line.in_form;
            found = overridden.0;
            over = overridden.1;
            number_is = overridden.2;
            entered = numbered_fewer v.entered (entry - 1 + 1) (omega (arith, l, n));
            np_is = v.np_is;
            nx_is = v.nx_is;
          }

          pub method_overrides : (b : Bool)
              → ((u : OverrideReady R M F r np nx (entry - 1))
              → b ≡ may_override u.method (some u.found))
              → cond b 0 6 ≡ fault
          method_overrides b f = sym (overridden.3 ∙ rw (← (f override_ready)))
