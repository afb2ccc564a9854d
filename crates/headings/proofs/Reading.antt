-- Laws of reading the C lines: kinds and superclasses of all classes, and the block of Object. Assumes nothing.
use mathlib.Core.Path.{◌≡◌, refl, sym, ap, subst, ◌∙◌}
use mathlib.Core.Option.{some}
use mathlib.Core.List.{List}
use mathlib.Core.Logic.{⊎_elim}
use Prim.Native.Nat.{ℕ, ◌+◌, ◌*◌, ◌≤◌, ◌<◌}
use native.Mathlib.Omega.{arith}
use lib.ListN.{length, get_or, set, length-set}
use lib.Seq.{get_or-set_same, get_or-set_other}
use Rattle.language.specs.Lists.{nth, Never, inj}
use Rattle.language.specs.Tree.{kind_number, Class, class_lines, classes_lines}
use Rattle.language.specs.World.{place}
use Rattle.language.specs.Program.{class_at, fields_at, method_at, root_at, world, world_with}
use Rattle.language.specs.ClassTables.{class_row, field_rows_at, field_rows, method_number}
use Rattle.language.proofs.Lines.{less_or_same}
use Rattle.language.proofs.Classes.{class_some, class_count}
use Rattle.layout.specs.Found.{class_in_form}
use Rattle.members.specs.Blocks.{Filled, Lookups}
use Rattle.members.specs.Ready.{ClassHere}
use Rattle.headings.specs.Ready.{ReadReady}
use Rattle.members.proofs.Lines.{ClassOrStart, next_class, row_next}
use Rattle.members.proofs.Lines.{class_lines_at, class_formed}

-- Object's block
object_filled : (P : List Class) (T : List ℕ) → ((i : ℕ) → i < 576 → get_or T i 0 ≡ 0) → Filled P T 0
unfolding world world_with field_rows field_rows_at method_number method_at fields_at root_at class_at nth
    place
object_filled P T z = record {
  block = record {
    places = λ f l. z (0 + f) (omega (arith, l));
    entries = λ m l. z (256 + m) (omega (arith, l));
    count = z 515 (omega arith);
    rows = λ i r e. absurd (Never e);
    long = refl;
    few = omega arith;
  };
  root = z 514 (omega arith);
}

module _ {R E T₀ : List ℕ} (w : ReadReady R E T₀) where
  pub record Reading (T : List ℕ) (k r : ℕ) : Type 0 where
    pub within : k ≤ length w.program.classes
    pub row_is : r ≡ class_row w.program.classes (k + 1)
    pub long : length T ≡ length T₀
    pub zero : (i : ℕ) → i < 576 → get_or T i 0 ≡ 0
    pub kinds : (j : ℕ) (c : Class) → j ≤ k → class_at w.program.classes j ≡ some c
        → get_or T (j * 576 + 512) 0 ≡ kind_number c.kind
    pub supers : (j : ℕ) (c : Class) → j ≤ k → class_at w.program.classes j ≡ some c
        → get_or T (j * 576 + 513) 0 ≡ c.super

  pub reading_start : Reading T₀ 0 0
  unfolding class_row classes_lines
  reading_start = record {
    within = omega arith;
    row_is = refl;
    long = refl;
    zero = w.zero;
    kinds = λ j c l e. absurd (omega (arith, l, (class_count w.program.classes j c e).0));
    supers = λ j c l e. absurd (omega (arith, l, (class_count w.program.classes j c e).0));
  }

  module _ {T : List ℕ} {k r : ℕ} (p : Reading T k r) where
    here : ClassOrStart R (length w.program.classes) k r
    here = subst (ClassOrStart R (length w.program.classes) k) (sym p.row_is)
        (next_class w.standing k p.within)

    pub reading_index : (r * 4 + 3 < length R) × (length R ≤ 240000)
    reading_index = (here.within, w.standing.short)

    module _ (l : get_or R (r * 4) 0 ≡ 67) where
      more : k < length w.program.classes
      more = ⊎_elim (λ q. q.1) (λ q. absurd (omega (arith, q.0, l))) here.letter

      pub next : (c : Class) × (class_at w.program.classes (k + 1) ≡ some c)
      next = class_some w.program.classes (k + 1) (omega arith) (omega (arith, more))

      abbrev pub reading_here : ClassHere R E r
      reading_here = record {
        program = w.program;
        standing = w.standing;
        k = k + 1;
        one = next.0;
        is = next.1;
        row_is = p.row_is;
      }

      pub reading_bounds : (k + 1 ≤ 64) × ((k + 1) * 576 + 575 < length T) × (get_or R (r * 4 + 1) 0 ≤ 65535)
          × (get_or R (r * 4 + 2) 0 ≤ 65535)
      reading_bounds = let c = (class_lines_at reading_here).line in (
        omega (arith, more, w.standing.in_form.few),
        omega (arith, more, w.long, p.long),
        omega (arith, c.first, (class_formed reading_here).kind_small),
        omega (arith, c.second, (class_formed reading_here).super),
      )

      pub reading_step : (a b : ℕ) → a ≡ get_or R (r * 4 + 1) 0 → b ≡ get_or R (r * 4 + 2) 0 → (T' : List ℕ)
          → T' ≡ set (set T ((k + 1) * 576 + 512) a) ((k + 1) * 576 + 513) b
          → (n : ℕ) → ((v : ClassHere R E r) → n ≡ r + class_lines v.one) → Reading T' (k + 1) n
      reading_step a b a-is b-is T' e n f =
          let x = (k + 1) * 576 in
          let T₁ = set T (x + 512) a in
          let line = (class_lines_at reading_here).line in
          let q : n ≡ r + class_lines next.0 = f reading_here in
          let o : (i : ℕ) → (i ≡ x + 512 → ⊥) → (i ≡ x + 513 → ⊥) → get_or T' i 0 ≡ get_or T i 0 =
          λ i m m'. ap (λ (t : List ℕ). get_or t i 0) e
          ∙ (get_or-set_other T₁ (x + 513) i b 0 m' ∙ get_or-set_other T (x + 512) i a 0 m) in
          let u : get_or T' (x + 512) 0 ≡ a = ap (λ (t : List ℕ). get_or t (x + 512) 0) e
          ∙ (get_or-set_other T₁ (x + 513) (x + 512) b 0 (λ d. omega (arith, d))
          ∙ get_or-set_same T (x + 512) a 0 (omega (arith, reading_bounds.1))) in
          let v : get_or T' (x + 513) 0 ≡ b = ap (λ (t : List ℕ). get_or t (x + 513) 0) e
          ∙ get_or-set_same T₁ (x + 513) b 0 (omega (arith, length-set T (x + 512) a, reading_bounds.1)) in
          record {
            within = omega (arith, more);
            row_is = omega (
              arith,
              q,
              p.row_is,
              row_next w.program.classes (k + 1) next.0 next.1,
            );
            long = ap length e ∙ (length-set T₁ (x + 513) b ∙ (length-set T (x + 512) a ∙ p.long));
            zero = λ i h. o i (λ d. omega (arith, d, h)) (λ d. omega (arith, d, h)) ∙ p.zero i h;
            kinds = λ j c h d. ⊎_elim
                (λ s. o (j * 576 + 512) (λ y. omega (arith, y, s)) (λ y. omega (arith, y, s))
                ∙ p.kinds j c (omega (arith, s)) d)
                (λ s. let z : next.0 ≡ c =
                inj (sym next.1 ∙ (ap (class_at w.program.classes) (sym s) ∙ d)) in
                ap (λ (j : ℕ). get_or T' (j * 576 + 512) 0) s
                ∙ (u ∙ (a-is ∙ (line.first ∙ ap (λ (c : Class). kind_number c.kind) z))))
                (less_or_same j (k + 1) h);
            supers = λ j c h d. ⊎_elim
                (λ s. o (j * 576 + 513) (λ y. omega (arith, y, s)) (λ y. omega (arith, y, s))
                ∙ p.supers j c (omega (arith, s)) d)
                (λ s. let z : next.0 ≡ c =
                inj (sym next.1 ∙ (ap (class_at w.program.classes) (sym s) ∙ d)) in
                ap (λ (j : ℕ). get_or T' (j * 576 + 513) 0) s
                ∙ (v ∙ (b-is ∙ (line.second ∙ ap (λ (c : Class). c.super) z))))
                (less_or_same j (k + 1) h);
          }

    module _ (n : get_or R (r * 4) 0 ≡ 67 → ⊥) where
      pub reading_count : k ≡ length w.program.classes
      reading_count = ⊎_elim (λ q. absurd (n q.0)) (λ q. q.1) here.letter

      pub reading_done : Lookups w.program.classes 1 T
      reading_done = record {
        few = w.standing.in_form.few;
        long = omega (arith, w.long, p.long);
        object = p.zero 512 (omega arith);
        kinds = λ j c e. p.kinds j c (omega (
          arith,
          reading_count,
          (class_count w.program.classes j c
              e).1,
        )) e;
        proper = λ j c e. (class_in_form w.standing j c e).kind_back;
        supers = λ j c e. p.supers j c (omega (
          arith,
          reading_count,
          (class_count w.program.classes j c
              e).1,
        )) e;
        earlier = λ j c l e. absurd (omega (arith, l, (class_count w.program.classes j c e).0));
        blocks = λ j l. let z : j ≡ 0 = omega (arith, l) in
            rw z (object_filled w.program.classes T p.zero);
      }
