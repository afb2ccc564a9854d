-- Laws of checking and entering the methods of a class. Assumes nothing.
use mathlib.Core.Path.{◌≡◌, refl, sym, ap, subst, ◌∙◌}
use mathlib.Core.Bool.{Bool, true, false, cond, false≢true}
use mathlib.Core.Option.{Option, none, some}
use mathlib.Core.List.{List, [], ◌∷◌}
use Prim.Native.Nat.{ℕ, suc, ◌+◌, ◌-◌, ◌*◌, ◌≤◌, ◌<◌}
use native.Mathlib.Omega.{arith}
use borrow.Author.Tests.{eqb-true}
use lib.Dec.{eqb}
use lib.ListN.{length, get_or}
use Rattle.std.specs.Prelude.{Ok, Err}
use Rattle.language.specs.Limits.{of_check}
use Rattle.language.specs.Refusals.{result_of}
use Rattle.language.specs.declared.Refusal.{Refusal}
use Rattle.language.specs.Lists.{nth, given, choice, map_option, Never, inj}
use Rattle.language.specs.Results.{Pass, passed, bind_checked}
use Rattle.language.specs.Tree.{Declaration, Class, heading_lines, method_lines}
use Rattle.language.specs.World.{is_declared_type}
use Rattle.language.specs.Program.{declared, declared_place, world}
use Rattle.language.specs.Headings.{is_some, may_override, check_methods}
use Rattle.language.specs.ClassTables.{class_row, method_number}
use Rattle.language.specs.MethodTables.{PlacedMethod, placed_in, placed_methods}
use Rattle.language.specs.Layout.{MethodAt}
use Rattle.language.specs.WellFormed.{MethodInForm}
use Rattle.layout.specs.Found.{methods_few}
use Rattle.members.specs.Answers.{headed}
use Rattle.members.specs.Blocks.{Working}
use Rattle.members.specs.Faults.{faulty, fault_of_method, check_heading}
use Rattle.members.specs.Numbers.{placed, own_or, own_number, with_number, Numbered}
use Rattle.layout.specs.Walks.{MethodStanding}
use Rattle.members.specs.Ready.{ClassHere, MethodReady, MethodsReady}
use Rattle.members.proofs.Checks.{methods_step, bind_passed, bind_refused, refused_is, passed_is}
use Rattle.members.proofs.Checks.{is_passed, is_refused}
use Rattle.members.proofs.Lines.{MethodsFrom, methods_within, next_method, no_methods, class_methods}
use Rattle.members.proofs.Numbers.{class_placed, first_few}
use Rattle.members.proofs.Heading.{working_numbers}

-- ---- the methods of a class

-- a heading that passed gives a new name
sound_heading : (P : List Class) (super : ℕ) (before : List Declaration) (at : ℕ) (m : Declaration)
    → check_heading P super before at m ≡ passed
    → is_some (declared before m.name) ≡ false
unfolding check_heading fault_of_method
sound_heading P super before at m e =
    go (is_declared_type (world P) m.result) (is_some (declared before m.name)) refl
    (may_override m ((world P).method super m.name)) _ e
  where
    go : (a b : Bool) → is_some (declared before m.name) ≡ b → (c : Bool) (rest : Pass)
        → faulty (cond a (cond b 4 (cond c 0 6)) 4) at rest ≡ passed
        → is_some (declared before m.name) ≡ false
    go a false q c rest h = q
    go false true q c rest h = let z : ◌≡◌ {A = ℕ} 0 1 = cc in absurd (omega arith)
    go true true q c rest h = let z : ◌≡◌ {A = ℕ} 0 1 = cc in absurd (omega arith)

no_number : (o : Option ℕ) → is_some o ≡ false → o ≡ none
no_number none e = refl
no_number (some x) e = absurd (false≢true (sym e))

with_own : (name n : ℕ) (own others : ℕ → Option ℕ) (m : ℕ)
    → with_number name n (own_or own others) m ≡ own_or (with_number name n own) others m
with_own name n own others m = go (eqb name m)
  where
    go : (b : Bool) → choice b (λ _. some n) (λ _. given (own m) (others m) λ n. some n) ≡ given
        (choice b (λ _. some n) (λ _. own m)) (others m) λ n. some n
    go true = refl
    go false = refl

-- the numbers of methods of which the first has number n: that one's, then those from the next number on
own_cons : (n : ℕ) (d : Declaration) (ds : List Declaration) (m : ℕ)
    → own_number n (d ∷ ds) m ≡ with_number d.name n (own_number (n + 1) ds) m
unfolding declared_place
own_cons n d ds m = go (eqb d.name m) (declared_place ds m)
  where
    go : (b : Bool) (o : Option ℕ)
        → map_option (λ i. n + i) (choice b (λ _. some 0) (λ _. map_option suc o))
        ≡ choice b (λ _. some n) (λ _. map_option (λ i. n + 1 + i) o)
    go true o = ap some (omega arith)
    go false none = refl
    go false (some i) = ap some (omega arith)

module _ {R E T₀ M₀ F₀ : List ℕ} {r k first count : ℕ} (w : MethodsReady R E T₀ M₀ F₀ r k first count) where
  abbrev P : List Class
  P = w.program.classes

  -- the check of all methods
  abbrev checking : Pass
  checking = check_methods of_check w.program.classes w.super [] (r + 1) w.one.methods

  pub record Entering (T M F : List ℕ) (at next : ℕ) : Type 0 where
    pub before : List Declaration
    pub own : ℕ → Option ℕ
    pub rest : List Declaration
    pub here : MethodsFrom R E rest at
    pub working : Working w.program.classes k T w.fields w.rows
        (own_or own (method_number w.program.classes w.super))
    pub entered : Numbered w.program.classes M F next
    pub answer : check_methods of_check w.program.classes w.super [] (r + 1) w.one.methods
        ≡ check_methods of_check w.program.classes w.super before (at + 1) rest
    pub names : (m : ℕ) → is_some (declared before m) ≡ is_some (own m)
    pub later : (m q : ℕ) → own m ≡ some q → first ≤ q
    pub low : first ≤ next
    pub left : next + length rest ≡ first + length w.one.methods
    pub numbers : (i : ℕ) (x : PlacedMethod) → nth (placed_in k at rest) i ≡ some x
        → nth (placed_methods w.program.classes) (next + i) ≡ some x
    pub all : (m : ℕ) → own_number first w.one.methods m ≡ own_or own (own_number next rest) m

  abbrev class_of : ClassHere R E (class_row w.program.classes k)
  class_of = record {
    program = w.program;
    standing = w.standing;
    k = k;
    one = w.one;
    is = w.is;
    row_is = refl;
  }

  pub entering_start : Entering T₀ M₀ F₀ r first
  unfolding declared
  entering_start = record {
    before = [];
    own = λ m. none;
    rest = w.one.methods;
    here = rw w.row_is (class_methods class_of);
    working = w.working;
    entered = w.entered;
    answer = refl;
    names = λ m. refl;
    later = λ m q e. absurd (Never e);
    low = omega arith;
    left = refl;
    numbers = λ i x e. rw w.first_is (class_placed P k i w.one x w.is (rw w.row_is at e));
    all = λ m. refl;
  }

  module _ {T M F : List ℕ} {at next : ℕ} (p : Entering T M F at next) where
    pub entering_within : at * 4 + 3 < length R
    entering_within = methods_within p.rest p.here

    -- there are at most 20,000
    pub entering_count : (first ≤ next) × (next ≤ 20000)
    entering_count = (
      p.low,
      omega (
        arith,
        p.left,
        w.first_is,
        first_few P k w.one w.is,
        methods_few w.standing,
        w.standing.all,
        w.standing.short,
      ),
    )

    module _ (l : get_or R (at * 4) 0 ≡ 77) where
      pub one : (m : Declaration) × (ds : List Declaration) × (p.rest ≡ m ∷ ds)
          × MethodAt R E m at × MethodInForm of_check m × MethodsFrom R E ds (at + method_lines m)
      one = next_method p.rest p.here l

      numbers_on : (i : ℕ) (x : PlacedMethod) → nth (placed_in k at (one.0 ∷ one.1)) i ≡ some x
          → nth (placed_methods P) (next + i) ≡ some x
      numbers_on i x e = p.numbers i x (ap (λ (l : List Declaration). nth (placed_in k at l) i) one.2 ∙ e)

      pub this : nth (placed_methods P) next ≡ some (placed one.0 k at)
      unfolding nth placed_in
      this = let z : next ≡ next + 0 = omega arith in
          ap (nth (placed_methods P)) z ∙ numbers_on 0 (placed one.0 k at) refl

      abbrev pub entering_ready : MethodReady R T M F at k first next count
      entering_ready = record {
        line = record {
          ends = E;
          program = w.program;
          standing = w.standing;
          super = w.super;
          fields = w.fields;
          rows = w.rows;
          own = p.own;
          before = p.before;
          working = p.working;
          names = p.names;
          later = p.later;
          inherited = w.inherited;
          method = one.0;
          at = one.3;
          in_form = one.4;
          count_is = w.count_is;
        };
        entered = p.entered;
        low = p.low;
        this = this;
      }

      abbrev pub entering_here : MethodStanding R E at
      entering_here = record { method = one.0; at = one.3; in_form = one.4; short = w.standing.short }

      pub entering_grows : (n : ℕ) → ((v : MethodStanding R E at) → n ≡ at + method_lines v.method)
          → at < n
      unfolding method_lines heading_lines
      entering_grows n f = omega (arith, f entering_here)

      methods-on : checking
          ≡ bind_checked (check_heading P w.super p.before (at + 1) one.0)
          (λ _. check_methods of_check P w.super (one.0 ∷ p.before) (at + 1 + method_lines one.0)
          one.1)
      methods-on = p.answer
          ∙ (ap (check_methods of_check P w.super p.before (at + 1)) one.2
          ∙ methods_step P w.super p.before (at + 1) one.0 one.1)

      pub entering_refused : (e : Refusal)
          → Err e ≡ result_of (λ u. u) (check_heading w.program.classes w.super p.before (at + 1) one.0)
          → Err e ≡ headed (length w.one.methods) checking
      entering_refused e q = refused_is (λ _. length w.one.methods) _ e
          (methods-on ∙ bind_refused _ _ e.number e.line (is_refused (λ u. u) _ e q))

      module _ (q : Ok tt ≡ result_of (λ u. u) (check_heading w.program.classes w.super p.before (at + 1) one.0))
        where
          fine : check_heading P w.super p.before (at + 1) one.0 ≡ passed
          fine = is_passed (λ u. u) _ q

          new : p.own one.0.name ≡ none
          new = no_number (p.own one.0.name)
              (sym (p.names one.0.name)
              ∙ sound_heading P w.super p.before (at + 1) one.0 fine)

          names-on : (m : ℕ) → is_some (declared (one.0 ∷ p.before) m) ≡ is_some
              (with_number one.0.name next p.own m)
          unfolding declared
          names-on m = go (eqb one.0.name m)
            where
              go : (b : Bool) → is_some (choice b (λ _. some one.0) (λ _. declared p.before m)) ≡
                  is_some (choice b (λ _. some next) (λ _. p.own m))
              go true = refl
              go false = p.names m

          later-on : (m q : ℕ) → with_number one.0.name next p.own m ≡ some q → first ≤ q
          later-on m q h = go (eqb one.0.name m) h
            where
              go : (b : Bool) → choice b (λ _. some next) (λ _. p.own m) ≡ some q → first ≤ q
              go true h = omega (arith, inj h, p.low)
              go false h = p.later m q h

          all-on : (m : ℕ) → own_number first w.one.methods m
              ≡ own_or (with_number one.0.name next p.own) (own_number (next + 1) one.1) m
          all-on m = p.all m ∙ (ap (λ (l : List Declaration). own_or p.own (own_number next l) m) one.2
              ∙ (ap (λ (o : Option ℕ). given (p.own m) o (λ n. some n)) (own_cons next one.0 one.1 m)
              ∙ go (eqb one.0.name m) refl))
            where
              go : (b : Bool) → eqb one.0.name m ≡ b
                  → given (p.own m) (choice b (λ _. some next) (λ _. own_number (next + 1) one.1 m))
                  (λ n. some n)
                  ≡ given (choice b (λ _. some next) (λ _. p.own m)) (own_number (next + 1) one.1 m)
                  (λ n. some n)
              go true q = let z : p.own m ≡ none = ap p.own (sym (eqb-true one.0.name m q)) ∙ new in
                  rw z
              go false q = refl

          numbers-next : (i : ℕ) (x : PlacedMethod)
              → nth (placed_in k (at + method_lines one.0) one.1) i ≡ some x
              → nth (placed_methods P) (next + 1 + i) ≡ some x
          unfolding nth placed_in
          numbers-next i x h = let z : next + 1 + i ≡ next + suc i = omega arith in
              ap (nth (placed_methods P)) z ∙ numbers_on (suc i) x h

          pub entering_step : (T' M' F' : List ℕ)
              → Working w.program.classes k T' w.fields w.rows
              (with_number one.0.name next (own_or p.own (method_number w.program.classes w.super)))
              × Numbered w.program.classes M' F' (next + 1)
              → (n : ℕ) → ((v : MethodStanding R E at) → n ≡ at + method_lines v.method)
              → Entering T' M' F' n (next + 1)
          entering_step T' M' F' y n g =
              let q : n ≡ at + method_lines one.0 = g entering_here in
              let d : at + method_lines one.0 + 1 ≡ at + 1 + method_lines one.0 = omega arith in
              rw q (record {
                before = one.0 ∷ p.before;
                own = with_number one.0.name next p.own;
                rest = one.1;
                here = one.5;
                working = working_numbers y.0
                    (with_own one.0.name next p.own (method_number P w.super));
                entered = y.1;
                answer = methods-on ∙ (bind_passed _ _ fine ∙ rw d);
                names = names-on;
                later = later-on;
                low = omega (arith, p.low);
                left = omega (arith, p.left, ap length one.2);
                numbers = numbers-next;
                all = all-on;
              })

    module _ (n : get_or R (at * 4) 0 ≡ 77 → ⊥) where
      over : p.rest ≡ []
      over = no_methods p.rest p.here n

      total : next ≡ first + length w.one.methods
      total = omega (arith, p.left, ap length over)

      pub entering_end : Ok (next - first) ≡ headed (length w.one.methods) checking
      unfolding check_methods
      entering_end = let z : next - first ≡ length w.one.methods = omega (arith, total) in
          rw z (passed_is (λ _. length w.one.methods) _ (p.answer ∙ ap
          (check_methods of_check P w.super p.before (at + 1)) over))

      pub entering_done : Working w.program.classes k T w.fields w.rows
          (own_or (own_number first w.one.methods) (method_number w.program.classes w.super))
          × Numbered w.program.classes M F (first + length w.one.methods)
      unfolding declared_place
      entering_done = (
        working_numbers p.working
            (λ m. sym (ap (λ (o : Option ℕ). given o (method_number P w.super m) (λ n. some n))
            (p.all m ∙ (ap (λ (l : List Declaration). own_or p.own (own_number next l) m) over
            ∙ same (p.own m))))),
        subst (Numbered P M F) total p.entered,
      )
        where
          same : (o : Option ℕ) → given o none (λ n. some n) ≡ o
          same none = refl
          same (some n) = refl
