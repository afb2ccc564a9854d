-- Laws of the whole pass: all classes in order, and the tables when they have passed. Assumes nothing.
use mathlib.Core.Path.{◌≡◌, refl, sym, ap, subst, ◌∙◌}
use mathlib.Core.Option.{some}
use mathlib.Core.List.{List, [], ◌∷◌}
use mathlib.Core.Logic.{⊎_elim}
use Prim.Native.Nat.{ℕ, suc, ◌+◌, ◌*◌, ◌≤◌, ◌<◌}
use native.Mathlib.Omega.{arith}
use lib.Bits.{bit_or}
use lib.ListN.{length, get_or, set, length-set}
use lib.Seq.{get_or-set_same, get_or-set_other}
use Rattle.std.specs.Prelude.{Ok, Err}
use Rattle.language.specs.Limits.{of_check}
use Rattle.language.specs.declared.Refusal.{Refusal}
use Rattle.language.specs.Lists.{nth}
use Rattle.language.specs.Results.{bind_checked}
use Rattle.language.specs.Rows.{C_class}
use Rattle.language.specs.Tree.{kind_number, Class, class_lines, classes_lines}
use Rattle.language.specs.Effects.{effect_of, join}
use Rattle.language.specs.Program.{class_at, methods_of}
use Rattle.language.specs.Headings.{check_class, check_classes, headings}
use Rattle.language.specs.ClassTables.{ClassTables, class_row, above_at, above}
use Rattle.language.specs.MethodTables.{placed_methods, MethodTables}
use Rattle.language.specs.Encoded.{RowAt}
use Rattle.language.proofs.Lines.{less_or_same}
use Rattle.layout.specs.Found.{methods_few}
use Rattle.members.specs.Answers.{headed}
use Rattle.members.specs.Blocks.{Lookups}
use Rattle.members.specs.Numbers.{first_number, Numbered}
use Rattle.members.specs.Ready.{ClassHere}
use Rattle.headings.proofs.Copying.{Cleared}
use Rattle.headings.specs.Ready.{ClassReady, ReadReady, ClassesReady, HeadingsReady}
use Rattle.members.proofs.Checks.{bind_passed, bind_refused, refused_is, passed_is, is_passed}
use Rattle.members.proofs.Checks.{passed_count}
use Rattle.members.proofs.Checks.{is_refused}
use Rattle.members.proofs.Lines.{row_next, class_lines_at}
use Rattle.members.proofs.Numbers.{first_next, first_few, all_placed, numbered_all}
use Rattle.members.proofs.Loops.{nil_of}
use Rattle.headings.proofs.Classes.{above_of}

cons_of : {A : Type 0} (l : List A) → 0 < length l → (x : A) × (xs : List A) × (l ≡ x ∷ xs)
cons_of [] e = absurd (omega (arith, e))
cons_of (x ∷ xs) e = (x, xs, refl)

-- the tables of a program that has passed
tables_of : (P : List Class) (T A : List ℕ) → Lookups P (length P + 1) T → length P + 1 ≤ length A
    → ((j : ℕ) → j < length P + 1 → get_or A j 0 ≡ above P j) → ClassTables P T A
tables_of P T A L l f = record {
  long = L.long;
  long_above = l;
  places = λ k n p q. (L.blocks k (omega (arith, p))).block.places n q;
  methods = λ k m p q. (L.blocks k (omega (arith, p))).block.entries m q;
  kinds = L.kinds;
  supers = L.supers;
  roots = λ k p. (L.blocks k (omega (arith, p))).root;
  counts = λ k p. (L.blocks k (omega (arith, p))).block.count;
  rows = λ k i r p e. (L.blocks k (omega (arith, p))).block.rows i r e;
  aboves = λ k p. f k (omega (arith, p));
}

module _ {R E T₀ A₀ M₀ F₀ : List ℕ} {count : ℕ} (w : ClassesReady R E T₀ A₀ M₀ F₀ count) where
  -- how many methods there are
  abbrev all : ℕ
  all = length (placed_methods w.program.classes)

  pub record Going (T A M F : List ℕ) (k r next : ℕ) : Type 0 where
    pub rest : List Class
    pub left : k + length rest ≡ length w.program.classes + 1
    pub rest_is : (i : ℕ) → class_at w.program.classes (k + i) ≡ nth rest i
    pub row_is : r ≡ class_row w.program.classes k
    pub answer : headings of_check w.program.classes
        ≡ check_classes of_check w.program.classes k (r + 1) rest
    pub lookups : Lookups w.program.classes k T
    pub next_is : next ≡ first_number w.program.classes k
    pub entered : Numbered w.program.classes M F next
    pub aboves : (j : ℕ) → j < k → get_or A j 0 ≡ above w.program.classes j
    pub long_above : length A ≡ length A₀

  pub going_start : Going T₀ A₀ M₀ F₀ 1 0 0
  unfolding class_at class_row classes_lines headings above above_at first_number methods_of
  going_start = record {
    rest = w.program.classes;
    left = omega arith;
    rest_is = λ i. let e : 1 + i ≡ suc i = omega arith in rw e;
    row_is = refl;
    answer = refl;
    lookups = w.lookups;
    next_is = refl;
    entered = w.entered;
    aboves = λ j l. let e : j ≡ 0 = omega (arith, l) in rw e w.object;
    long_above = refl;
  }

  module _ {T A M F : List ℕ} {k r next : ℕ} (p : Going T A M F k r next) where
    module _ (l : k ≤ count) where
      pub one : (c : Class) × (ds : List Class) × (p.rest ≡ c ∷ ds)
      one = cons_of p.rest (omega (arith, l, p.left, w.count_is))

      pub this : class_at w.program.classes k ≡ some one.0
      unfolding nth
      this = let e : k ≡ k + 0 = omega arith in ap (class_at w.program.classes) e
          ∙ (p.rest_is 0 ∙ ap (λ (l : List Class). nth l 0) one.2)

      rest-on : (i : ℕ) → class_at w.program.classes (k + 1 + i) ≡ nth one.1 i
      unfolding nth
      rest-on i = let e : k + 1 + i ≡ k + suc i = omega arith in ap (class_at w.program.classes) e
          ∙ (p.rest_is (suc i) ∙ ap (λ (l : List Class). nth l (suc i)) one.2)

      abbrev pub going_ready : ClassReady R E T M F k r next count
      going_ready = record {
        program = w.program;
        standing = w.standing;
        lookups = p.lookups;
        entered = p.entered;
        one = one.0;
        is = this;
        row_is = p.row_is;
        first_is = p.next_is;
        count_is = w.count_is;
      }

      abbrev pub going_here : ClassHere R E r
      going_here = record {
        program = w.program;
        standing = w.standing;
        k = k;
        one = one.0;
        is = this;
        row_is = p.row_is;
      }

      line : RowAt R r C_class (kind_number one.0.kind) one.0.super
      line = (class_lines_at going_here).line

      pub going_index : (r * 4 + 3 < length R) × (length R ≤ 240000) × (k < length A) × (k ≤ 64)
      going_index = (
        line.within,
        w.standing.short,
        omega
            (arith, l, w.count_is, w.long_above, p.long_above),
        omega (arith, l, w.count_is, w.standing.in_form.few),
      )

      on : headings of_check w.program.classes
          ≡ bind_checked (check_class of_check w.program.classes k (r + 1) one.0) (λ _.
          check_classes of_check w.program.classes (suc k) (r + 1 + class_lines one.0) one.1)
      unfolding check_classes
      on = p.answer ∙ ap (check_classes of_check w.program.classes k (r + 1)) one.2

      pub going_refused : (e : Refusal)
          → ((v : ClassReady R E T M F k r next count)
          → (Err e ≡ headed (length v.one.methods) (check_class of_check v.program.classes k (r + 1) v.one)))
          → Err e ≡ headed all (headings of_check w.program.classes)
      going_refused e f = refused_is (λ _. all) _ e (on ∙ bind_refused _ _ e.number e.line
          (is_refused (λ _. length one.0.methods) _ e (f going_ready)))

      module _ (n : ℕ) (T' M' F' : List ℕ) (f : (v : ClassReady R E T M F k r next count)
          → (Ok n ≡ headed (length v.one.methods) (check_class of_check v.program.classes k (r + 1) v.one))
          × (Lookups v.program.classes (k + 1) T'
          × Numbered v.program.classes M' F' (next + length v.one.methods))) where
        -- the class has n methods
        n_is : n ≡ length one.0.methods
        n_is = passed_count (length one.0.methods)
            (check_class of_check w.program.classes k (r + 1) one.0) n (f going_ready).0

        -- there are at most 20,000 in all
        pub going_count : next + n ≤ 20000
        going_count = omega (
          arith,
          n_is,
          p.next_is,
          first_few w.program.classes k one.0 this,
          methods_few w.standing,
          w.standing.all,
          w.standing.short,
        )

        pub super_earlier : (over : ℕ) → over ≡ get_or R (r * 4 + 2) 0 → over < k
        super_earlier over over_is = omega (
          arith,
          over_is,
          (f going_ready).1.0.earlier k one.0 (omega arith) this,
          line.second,
        )

        above-is : (over : ℕ) → over ≡ get_or R (r * 4 + 2) 0 → (b : ℕ) → b ≡ effect_of k
            → bit_or b (get_or A over 0) ≡ above w.program.classes k
        unfolding join
        above-is over over_is b e =
            let s = over_is ∙ line.second in
            let c = one.0 in
            let h : c.super < k = omega (arith, super_earlier over over_is, s) in
            rw (e, p.aboves over (super_earlier over over_is), s)
            (sym (above_of w.program.classes k p.lookups.earlier k c this h (omega arith)))

        pub going_step : (over : ℕ) → over ≡ get_or R (r * 4 + 2) 0 → (b : ℕ) → b ≡ effect_of k → (row : ℕ)
            → ((v : ClassHere R E r) → row ≡ r + class_lines v.one)
            → Going T' (set A k (bit_or b (get_or A over 0))) M' F' (k + 1) row (next + n)
        going_step over over_is b e row g =
            let x = bit_or b (get_or A over 0) in
            let q : row ≡ r + class_lines one.0 = g going_here in
            let s : k + 1 ≡ suc k = omega arith in
            let t : r + class_lines one.0 + 1 ≡ r + 1 + class_lines one.0 = omega arith in
            record {
              rest = one.1;
              left = omega (arith, p.left, ap length one.2);
              rest_is = rest-on;
              row_is = omega (arith, q, p.row_is, row_next w.program.classes k one.0 this);
              answer = on ∙ (bind_passed _ _ (is_passed (λ _. length one.0.methods) _ (f going_ready).0)
                  ∙ rw (q, s, t));
              lookups = (f going_ready).1.0;
              next_is = omega (arith, n_is, p.next_is, first_next w.program.classes k one.0 this);
              entered = rw n_is (f going_ready).1.1;
              aboves = λ j h. ⊎_elim
                  (λ y. get_or-set_other A k j x 0 (λ z. omega (arith, z, y)) ∙ p.aboves j y)
                  (λ y. ap (λ (j : ℕ). get_or (set A k x) j 0) y
                  ∙ (get_or-set_same A k x 0 going_index.2
                  ∙ (above-is over over_is b e ∙ ap (above w.program.classes) (sym y))))
                  (less_or_same j k (omega (arith, h)));
              long_above = length-set A k x ∙ p.long_above;
            }

    module _ (l : count < k) where
      over : p.rest ≡ []
      over = nil_of p.rest (omega (arith, l, p.left, w.count_is))

      last : k ≡ length w.program.classes + 1
      last = omega (arith, p.left, ap length over)

      total : next ≡ all
      total = p.next_is ∙ (ap (first_number w.program.classes) last ∙ all_placed w.program.classes)

      pub going_total : next ≤ 20000
      going_total = omega (arith, total, methods_few w.standing, w.standing.all, w.standing.short)

      pub going_end : Ok next ≡ headed all (headings of_check w.program.classes)
      unfolding check_classes
      going_end = rw total (passed_is (λ _. all) _ (p.answer ∙ ap
          (check_classes of_check w.program.classes k (r + 1)) over))

      pub going_done : ClassTables w.program.classes T A × MethodTables w.program.classes M F
      going_done = (
        tables_of w.program.classes T A
            (subst (λ (n : ℕ). Lookups w.program.classes n T) last p.lookups)
            (omega (arith, w.long_above, p.long_above))
            (λ j h. p.aboves j (omega (arith, h, last))),
        numbered_all p.entered total,
      )

-- ---- the pass

module _ {R E T A M F : List ℕ} (w : HeadingsReady R E T A M F) where
  pub pass_long : (576 ≤ length T) × (0 < length A)
  pass_long = (omega (arith, w.long), omega (arith, w.long_above))

  -- a method takes at least twelve numbers of the rows
  effects_long : length (placed_methods w.program.classes) ≤ length F
  effects_long = ⊎_elim
      (λ q. omega (arith, q, methods_few w.standing, w.standing.all))
      (λ q. omega (arith, q, methods_few w.standing, w.standing.all, w.standing.short))
      w.long_effects

  methods_long : length (placed_methods w.program.classes) * 4 ≤ length M
  methods_long = ⊎_elim
      (λ q. omega (arith, q, methods_few w.standing, w.standing.all))
      (λ q. omega (arith, q, methods_few w.standing, w.standing.all, w.standing.short))
      w.long_methods

  pub none_entered : Numbered w.program.classes M F 0
  none_entered = record {
    long = methods_long;
    long_effects = effects_long;
    rows = λ i x l e. absurd (omega (arith, l));
    owners = λ i x l e. absurd (omega (arith, l));
    parameters = λ i x l e. absurd (omega (arith, l));
    bodies = λ i x l e. absurd (omega (arith, l));
    effects = λ i x l e. absurd (omega (arith, l));
  }

  module _ {T₁ : List ℕ} (c : Cleared T T₁ 576) where
    abbrev pub read_ready : ReadReady R E T₁
    read_ready = record { program = w.program; standing = w.standing; long = long; zero = c.zero }
      where
        long : (length w.program.classes + 1) * 576 ≤ length T₁
        long = omega (arith, w.long, c.long)

    module _ (n : ℕ) (T₂ : List ℕ)
        (f : (v : ReadReady R E T₁) → (n ≡ length v.program.classes) × Lookups v.program.classes 1 T₂)
      where
        abbrev pub classes_ready : ClassesReady R E T₂ (set A 0 0) M F n
        classes_ready = record {
          program = w.program;
          standing = w.standing;
          lookups = (f read_ready).1;
          long_above = long;
          object = get_or-set_same A 0 0 0 pass_long.1;
          entered = none_entered;
          count_is = (f read_ready).0;
        }
          where
            long : length w.program.classes + 1 ≤ length (set A 0 0)
            long = omega (arith, w.long_above, length-set A 0 0)
