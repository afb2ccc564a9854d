-- Laws of checking and entering one method. Assumes nothing.
use mathlib.Core.Path.{◌≡◌, refl, sym, ap, subst, ◌∙◌}
use mathlib.Core.Bool.{Bool, true, false}
use mathlib.Core.Option.{Option, some}
use mathlib.Core.List.{List}
use Prim.Native.Nat.{ℕ, ◌+◌, ◌*◌, ◌≤◌, ◌<◌}
use native.Mathlib.Omega.{arith}
use borrow.Author.Tests.{eqb-true, eqb-false}
use lib.Dec.{eqb}
use lib.ListN.{length, get_or, set}
use lib.Seq.{get_or-set_same, get_or-set_other}
use Rattle.std.specs.Prelude.{Ok, Err}
use Rattle.language.specs.Limits.{of_check}
use Rattle.language.specs.Refusals.{result_of}
use Rattle.language.specs.declared.Refusal.{Refusal}
use Rattle.language.specs.Lists.{nth, choice, nth_lt}
use Rattle.language.specs.Results.{Pass, passed, bind_checked}
use Rattle.language.specs.Tree.{Field, Class}
use Rattle.language.specs.Headings.{check_parameters, check_effects}
use Rattle.language.specs.ClassTables.{stored_place, method_number}
use Rattle.language.specs.MethodTables.{placed_methods}
use Rattle.language.specs.Layout.{Run, EffectsAt}
use Rattle.theory.proofs.lookups.LookupLaws.{each_at}
use Rattle.theory.proofs.acceptance.AcceptedWell.{effects_well}
use Rattle.layout.specs.Found.{methods_few}
use Rattle.layout.specs.Headed.{effects_declared}
use Rattle.members.specs.Blocks.{Working}
use Rattle.members.specs.Faults.{fault_of_method, check_heading}
use Rattle.members.specs.Numbers.{own_or, with_number}
use Rattle.layout.specs.Walks.{MethodStanding}
use Rattle.members.specs.Ready.{ParameterLines, EffectsReady, MethodCounted, NumberReady}
use Rattle.members.specs.Ready.{MethodReady}
use Rattle.members.proofs.Checks.{heading_refused, heading_on, bind_passed, bind_refused, refused_is}
use Rattle.members.proofs.Checks.{passed_is, is_passed, is_refused, line_case}
use Rattle.layout.proofs.Walks.{parameters_count, effects_count}
use Rattle.members.proofs.Numbers.{numbered_fewer}
use Rattle.members.proofs.Tables.{lookups_set, working_index}

-- ---- numbers of methods in the block

module _ {P : List Class} {k : ℕ} {T : List ℕ} {fs : List Field} {rs : List ℕ} {ms : ℕ → Option ℕ}
    (W : Working P k T fs rs ms) where
  -- the same numbers by another name
  pub working_numbers : {ms' : ℕ → Option ℕ} → ((m : ℕ) → ms m ≡ ms' m) → Working P k T fs rs ms'
  working_numbers f = record {
    lookups = W.lookups;
    within = W.within;
    block = record {
      places = W.block.places;
      entries = λ m l. W.block.entries m l ∙ ap stored_place (f m);
      count = W.block.count;
      rows = W.block.rows;
      long = W.block.long;
      few = W.block.few;
    };
    root = W.root;
  }

  module _ (name n : ℕ) (h : name ≤ 255) where
    other : (i : ℕ) → (i ≡ k * 576 + (256 + name) → ⊥)
        → get_or (set T (k * 576 + (256 + name)) (n + 1)) i 0 ≡ get_or T i 0
    other i o = get_or-set_other T (k * 576 + (256 + name)) i (n + 1) 0 o

    entry : (m : ℕ) → m < 256
        → get_or (set T (k * 576 + (256 + name)) (n + 1)) (k * 576 + 256 + m) 0
        ≡ stored_place (with_number name n ms m)
    entry m l = go (eqb name m) refl
      where
        go : (b : Bool) → eqb name m ≡ b
            → get_or (set T (k * 576 + (256 + name)) (n + 1)) (k * 576 + 256 + m) 0
            ≡ stored_place (choice b (λ _. some n) (λ _. ms m))
        go true q = let e : k * 576 + 256 + m ≡ k * 576 + (256 + name) = omega (arith, eqb-true name m q) in
            ap (λ (i : ℕ). get_or (set T (k * 576 + (256 + name)) (n + 1)) i 0) e
            ∙ (get_or-set_same T (k * 576 + (256 + name)) (n + 1) 0
            (working_index W (256 + name) (omega (arith, h))) ∙ omega arith)
        go false q = other (k * 576 + 256 + m) (λ e. eqb-false name m q (omega (arith, e)))
            ∙ W.block.entries m l

    pub working_method : Working P k (set T (k * 576 + (256 + name)) (n + 1)) fs rs (with_number name n ms)
    working_method = record {
      lookups = lookups_set W.lookups (256 + name) (n + 1) (omega (arith, h)) (λ e. omega (arith, e, h))
          (λ e. omega (arith, e, h));
      within = W.within;
      block = record {
        places = λ f l. other (k * 576 + f) (λ e. omega (arith, e, l)) ∙ W.block.places f l;
        entries = entry;
        count = other (k * 576 + 515) (λ e. omega (arith, e, h)) ∙ W.block.count;
        rows = λ i q e. other (k * 576 + 520 + i) (λ d. omega (arith, d, h)) ∙ W.block.rows i q e;
        long = W.block.long;
        few = W.block.few;
      };
      root = other (k * 576 + 514) (λ e. omega (arith, e, h)) ∙ W.root;
    }

-- ---- one method

module _ {R T M F : List ℕ} {r k first next count : ℕ} (v : MethodReady R T M F r k first next count) where
  abbrev P : List Class
  P = v.line.program.classes

  -- the check of its heading
  abbrev checking : Pass
  checking = check_heading v.line.program.classes v.line.super v.line.before (r + 1)
      v.line.method

  abbrev pub method_here : MethodStanding R v.line.ends r
  method_here = record {
    method = v.line.method;
    at = v.line.at;
    in_form = v.line.in_form;
    short = v.line.standing.short;
  }

  module _ (p x : ℕ) (f : Run R 80 (r + 1) p) (g : Run R 88 (r + 1 + p) x) where
    pub counts : (p ≡ length v.line.method.parameters) × (x ≡ length v.line.method.effects)
    counts = (
      parameters_count v.line.at v.line.in_form p f,
      effects_count v.line.at v.line.in_form p f x g,
    )

    abbrev pub method_counted : MethodCounted R T M F r p x k first count
    method_counted = record {
      line = v.line;
      entered = numbered_fewer v.entered first v.low;
      np_is = counts.0;
      nx_is = counts.1;
    }

    abbrev pub method_types : ParameterLines R (r + 1) p
    method_types = record {
      types = v.line.method.parameters;
      here = v.line.at.parameters;
      in_form = v.line.in_form.parameters;
      n_is = counts.0;
      short = v.line.standing.short;
    }

    pub effects_at : EffectsAt R v.line.method.effects (r + 1 + p)
    effects_at = rw counts.0 v.line.at.effects

    abbrev pub method_effects_ready : EffectsReady R T (r + 1 + p) x count
    method_effects_ready = record {
      table = record {
        P = v.line.program.classes;
        k = k;
        lookups = v.line.working.lookups;
        count_is = v.line.count_is;
      };
      lines = record {
        effects = v.line.method.effects;
        here = effects_at;
        n_is = counts.1;
        short = v.line.standing.short;
      };
    }

    pub method_refused : (e : Refusal)
        → ((u : MethodCounted R T M F r p x k first count)
        → Err e ≡ line_case (fault_of_method u.line.program.classes u.line.super u.line.before u.line.method)
        (r + 1))
        → Err e ≡ result_of (λ u. u) checking
    method_refused e h = refused_is (λ u. u) _ e
        (heading_refused P v.line.super v.line.before (r + 1) v.line.method e (h method_counted))

    module _ (h : (u : MethodCounted R T M F r p x k first count)
        → Ok tt ≡ line_case (fault_of_method u.line.program.classes u.line.super u.line.before u.line.method)
        (r + 1)) where
      heading : checking ≡ bind_checked (check_parameters of_check P (r + 1 + 1)
          v.line.method.parameters)
          (λ _. check_effects of_check P 0 (r + 1 + 1 + length v.line.method.parameters)
          v.line.method.effects)
      heading = heading_on P v.line.super v.line.before (r + 1) v.line.method (h method_counted)

      pub method_parameters_refused : (e : Refusal)
          → ((u : ParameterLines R (r + 1) p) → (P : List Class) → count ≡ length P
          → Err e ≡ result_of (λ u. u) (check_parameters of_check P (r + 1 + 1) u.types))
          → Err e ≡ result_of (λ u. u) checking
      method_parameters_refused e i = refused_is (λ u. u) _ e (heading ∙ bind_refused _ _ e.number e.line
          (is_refused (λ u. u) _ e (i method_types P v.line.count_is)))

      module _ (i : (u : ParameterLines R (r + 1) p) → (P : List Class) → count ≡ length P
          → Ok tt ≡ result_of (λ u. u) (check_parameters of_check P (r + 1 + 1) u.types)) where
        heading-effects : checking ≡ check_effects of_check P 0 (r + 1 + p + 1) v.line.method.effects
        heading-effects =
            let q : r + 1 + p + 1 ≡ r + 1 + 1 + length v.line.method.parameters =
            omega (arith, counts.0) in
            heading ∙ (bind_passed _ _ (is_passed (λ u. u) _ (i method_types P v.line.count_is))
            ∙ ap (λ (at : ℕ). check_effects of_check P 0 at v.line.method.effects) (sym q))

        pub method_effects_refused : (e : Refusal)
            → ((u : EffectsReady R T (r + 1 + p) x count)
            → Err e ≡ result_of (λ u. u) (check_effects of_check u.table.P 0 (r + 1 + p + 1) u.lines.effects))
            → Err e ≡ result_of (λ u. u) checking
        method_effects_refused e j = refused_is (λ u. u) _ e
            (heading-effects ∙ is_refused (λ u. u) _ e (j method_effects_ready))

        module _ (j : (u : EffectsReady R T (r + 1 + p) x count)
            → Ok tt ≡ result_of (λ u. u) (check_effects of_check u.table.P 0 (r + 1 + p + 1) u.lines.effects))
          where
            fine : check_effects of_check P 0 (r + 1 + p + 1) v.line.method.effects ≡ passed
            fine = is_passed (λ u. u) _ (j method_effects_ready)

            pub method_entered : Ok tt ≡ result_of (λ u. u) checking
            method_entered = passed_is (λ u. u) _ (heading-effects ∙ fine)

            pub small : (i c : ℕ) → nth v.line.method.effects i ≡ some c → c ≤ of_check.classes
            small i c q =
                let y = effects_well P 0 (r + 1 + p + 1) v.line.method.effects tt fine in
                omega (arith, (each_at (effects_declared P y) i c q).1, v.line.working.lookups.few)

            abbrev pub number_ready : NumberReady R M F r p x k next
            number_ready = record {
              ends = v.line.ends;
              program = v.line.program;
              standing = v.line.standing;
              method = v.line.method;
              this = v.this;
              entered = v.entered;
              np_is = counts.0;
              nx_is = counts.1;
              small = small;
            }

  pub method_working : (name : ℕ) → name ≡ get_or R (r * 4 + 2) 0 → Working v.line.program.classes k
      (set T (k * 576 + 256 + name) (next + 1)) v.line.fields v.line.rows
      (with_number v.line.method.name next (own_or v.line.own
      (method_number v.line.program.classes v.line.super)))
  method_working name name-is =
      let e : k * 576 + (256 + v.line.method.name) ≡ k * 576 + 256 + name =
      omega (arith, name-is, v.line.at.line.second) in
      subst (λ (i : ℕ). Working P k (set T i (next + 1)) v.line.fields v.line.rows
      (with_number v.line.method.name next (own_or v.line.own (method_number P v.line.super)))) e
      (working_method v.line.working v.line.method.name next v.line.in_form.name)

  -- what is read and written lies in the rows and the table; there are at most 20,000 methods
  pub method_index : (r * 4 + 3 < length R) × (length R ≤ 240000) × (get_or R (r * 4 + 2) 0 ≤ 255)
      × (k * 576 + 256 + get_or R (r * 4 + 2) 0 < length T) × (k ≤ 64) × (next < 20000)
  method_index =
      let e = v.line.at.line.second in
      let W = v.line.working in (
        v.line.at.line.within,
        v.line.standing.short,
        omega (arith, e, v.line.in_form.name),
        omega (
          arith,
          e,
          working_index W (256 + v.line.method.name)
              (omega (arith, v.line.in_form.name)),
        ),
        omega (arith, W.within, W.lookups.few),
        omega (
          arith,
          nth_lt (placed_methods P) next _ v.this,
          methods_few v.line.standing,
          v.line.standing.all,
          v.line.standing.short,
        ),
      )
