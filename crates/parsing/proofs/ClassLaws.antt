-- Laws of methods, a class, and classes. Assumes nothing.
use mathlib.Core.Path.{◌≡◌, refl, sym, ap, ◌∙◌}
use mathlib.Core.Bool.{true, false, false≢true}
use mathlib.Core.List.{List, [], ◌∷◌}
use mathlib.Core.Option.{none, some}
use Prim.Native.Nat.{ℕ, zero, suc, ◌+◌, ◌-◌, ◌≤◌, ◌<◌}
use native.Mathlib.Numerals.{add-one}
use native.Mathlib.Omega.{arith}
use borrow.Author.Tests.{lt-ltb, le-ltb}
use lib.ListN.{length, set, length-drop}
use lib.Seq.{sets}
use Rattle.language.specs.Results.{Checked, accept, refuse, require}
use Rattle.language.specs.Rows.{Letter, code, C_class, M_method, Row, Record, rows_of}
use Rattle.language.specs.Tree.{heading_lines, method_lines, methods_lines, Class, class_lines, classes_lines}
use Rattle.language.specs.Form.{Read, done, after, record_on, if_letter, maybe, fields, method, methods}
use Rattle.language.specs.Form.{class_of, classes}
use Rattle.language.specs.Tables.{next_rows, method_ends, methods_ends, class_ends, classes_ends}
use Rattle.language.proofs.Tables.{next_rows_long, method_ends_long, class_ends_long}
use Rattle.parsing.specs.declared.limits.Limits.{Limits}
use Rattle.parsing.specs.Columns.{most_of}
use Rattle.parsing.specs.Places.{rows_from, row_at, has_code, standing, run, Ready, There}
use Rattle.parsing.specs.Passes.{Step, ToldMethod, ToldMethods, ToldClass, ToldClasses, class_read}
use Rattle.std.specs.Prelude.{Ok, Err}
use Rattle.language.specs.declared.Refusal.{Refusal}
use Rattle.language.specs.Refusals.{refusal}
use Rattle.parsing.proofs.Places.{rows_here, rows_skip, rows_start}
use Rattle.parsing.proofs.Passes.{told_end, told_failed, told_refuse, told_as, told_nothing, told_stop}
use Rattle.parsing.proofs.Passes.{told_after, told_close}
use Rattle.parsing.proofs.LineLaws.{ready_at}
use Rattle.parsing.proofs.NodeLaws.{done_tree}
use Rattle.parsing.proofs.Shapes.{after_after}
use Rattle.parsing.proofs.Headings.{fields_run}

-- ---- a record of a letter, where one stands, and none where none does

maybe_one : (l : Letter) (x : Checked Record) → has_code (code l) x ≡ true
    → (y : Record) × (if_letter l x ≡ some y)
unfolding if_letter
maybe_one l (accept x) e = (x, rw e)
maybe_one l (refuse n k) e = absurd (false≢true e)

maybe_none : (l : Letter) (x : Checked Record) → has_code (code l) x ≡ false → if_letter l x ≡ none
unfolding if_letter
maybe_none l (accept x) e = rw e
maybe_none l (refuse n k) e = refl

standing_one : (L : Limits) (l : Letter) (R : List ℕ) (i : ℕ) → There L R i
    → standing L (code l) (i + 1) (rows_from R i) ≡ true
    → (y : Record) × (maybe (most_of L) l (i + 1) (row_at R i) ≡ some y)
unfolding standing
standing_one L l R i t e =
    maybe_one l (record_on (most_of L) (i + 1) (row_at R i)) (rw (rows_here R i t.1) at e)

-- rows further on are no more
pub fewer : (R : List ℕ) (i q : ℕ) → i ≤ q → length (rows_from R q) ≤ length (rows_from R i)
fewer R i q h =
    let e : i + (q - i) ≡ q = omega (arith, h) in
    let w : length (rows_from R q) ≡ length (rows_from R i) - (q - i) =
    ap (λ (j : ℕ). length (rows_from R j)) (sym e) ∙ ap length (sym (rows_skip R i (q - i)))
    ∙ length-drop (q - i) (rows_from R i) in
    omega (arith, w)

-- ---- methods, as long as M lines come

methods_none : (L : Limits) (g line : ℕ) (rs : List Row) → standing L 77 line rs ≡ false
    → methods (most_of L) g line rs ≡ done [] rs
unfolding standing methods
methods_none L zero line rs e = refl
methods_none L (suc g) line [] e = refl
methods_none L (suc g) line (r ∷ rs) e = rw (maybe_none M_method (record_on (most_of L) line r) e)

pub record Listing (L : Limits) (R E₀ E : List ℕ) (at i : ℕ) : Type 0 where
  pub ready : Ready L R E i
  pub told : (f : ℕ) → length (rows_from R at) ≤ f
      → (g : ℕ) × (length (rows_from R i) ≤ g)
      × ((s : Step) (E' : List ℕ)
      → ToldMethods L R E i (methods (most_of L) g (i + 1) (rows_from R i)) s E'
      → ToldMethods L R E₀ at (methods (most_of L) f (at + 1) (rows_from R at)) s E')
  pub long : length E ≡ length E₀

pub listing_start : {L : Limits} {R E : List ℕ} {at : ℕ} → Ready L R E at → Listing L R E E at at
listing_start {L} r = record { ready = r; told = λ f h. (f, h, λ s E' t. t); long = refl }

module _ {L : Limits} {R E₀ E : List ℕ} {at i : ℕ} (p : Listing L R E₀ E at i) where
  pub listing_end : standing L 77 (i + 1) (rows_from R i) ≡ false → (f : ℕ) → length (rows_from R at) ≤ f
      → ToldMethods L R E₀ at (methods (most_of L) f (at + 1) (rows_from R at)) (Ok i) E
  unfolding methods_lines methods_ends
  listing_end e f h =
      let t = p.told f h in
      t.2 (Ok i) E (told_as (methods_none L t.0 (i + 1) (rows_from R i) e)
      (told_nothing [] refl refl p.ready.within p.ready.inside))

  module _ (t : There L R i) (e : standing L 77 (i + 1) (rows_from R i) ≡ true) where
    the-record : (y : Record) × (maybe (most_of L) M_method (i + 1) (row_at R i) ≡ some y)
    the-record = standing_one L M_method R i t e

    listing-here : (g : ℕ) → length (rows_from R i) ≤ g → methods (most_of L) g (i + 1) (rows_from R i)
        ≡ after (method (most_of L) (i + 1) the-record.0 (rows_from R (i + 1)))
        (λ m rs. after (methods (most_of L) (g - 1) (i + 1 + method_lines m) rs) λ ms rs.
        done (m ∷ ms) rs)
    unfolding methods
    listing-here g h =
        let r = rows_here R i t.1 in
        let k : suc (length (rows_from R (i + 1))) ≤ g = rw r at h in
        let z : g ≡ suc (g - 1) = omega (arith, k) in
        ap (λ (j : ℕ). methods (most_of L) j (i + 1) (rows_from R i)) z ∙ rw (r, the-record.1)

    pub listing_stop : {s : Step} {r : Refusal} {E₁ : List ℕ}
        → ((x : Record) → ToldMethod L R E i (method (most_of L) (i + 1) x (rows_from R (i + 1))) s E₁)
        → s ≡ Err r
        → (f : ℕ) → length (rows_from R at) ≤ f
        → ToldMethods L R E₀ at (methods (most_of L) f (at + 1) (rows_from R at)) (Err r) E₁
    listing_stop {s} {r} {E₁} u w f h =
        let k = p.told f h in
        k.2 (Err r) E₁ (told_as (listing-here k.0 k.1)
        (told_stop (method (most_of L) (i + 1) the-record.0 (rows_from R (i + 1))) _
        (u the-record.0) w))

    -- a method takes a row at least
    pub listing_less : {s : Step} {q : ℕ} {E₁ : List ℕ}
        → ((x : Record) → ToldMethod L R E i (method (most_of L) (i + 1) x (rows_from R (i + 1))) s E₁)
        → s ≡ Ok q → i < q
    unfolding method_lines heading_lines
    listing_less u w = told_end (method (most_of L) (i + 1) the-record.0 (rows_from R (i + 1)))
        (u the-record.0) w λ m x y v b z. omega (arith, y)

    pub listing_step : {s : Step} {q : ℕ} {E₁ : List ℕ}
        → ((x : Record) → ToldMethod L R E i (method (most_of L) (i + 1) x (rows_from R (i + 1))) s E₁)
        → s ≡ Ok q
        → length E₁ ≡ length E → Listing L R E₀ E₁ at q
    unfolding after methods_lines methods_ends method_lines heading_lines
    listing_step {s} {q} {E₁} u w o =
        told_end (method (most_of L) (i + 1) the-record.0 (rows_from R (i + 1))) (u the-record.0) w
        λ m x y v b z.
        record {
          ready = ready_at q p.ready o v b;
          told = λ f h.
              let k = p.told f h in
              let r : suc (length (rows_from R (i + 1))) ≤ k.0 = rw (rows_here R i t.1) at k.1 in
              let c : i + 1 + method_lines m ≡ q + 1 = omega (arith, y) in (
                k.0 - 1,
                omega (arith, r, fewer R (i + 1) q (omega (arith, y))),
                λ s' E' d. k.2 s' E' (told_as (listing-here k.0 k.1 ∙ rw (x, c))
                    (told_after (method_ends i m) (λ ms. m ∷ ms)
                    (methods (most_of L) (k.0 - 1) (q + 1) (rows_from R q))
                    (omega (arith, y, method_ends_long i m)) z (λ ms. omega (arith, method_ends_long i m))
                    (λ ms. rw y) d)),
              );
          long = o ∙ p.long;
        }

-- ---- a class

module _ (L : Limits) (R : List ℕ) (at : ℕ) (x : Record) (a : ℕ)
    (p : a ≡ at + 1 + run L 70 (at + 1 + 1) (rows_from R (at + 1))) where
  class_is : class_read L x (at + 1) (rows_from R (at + 1))
      ≡ after (methods (most_of L) (length (rows_from R (at + 1))) (a + 1) (rows_from R a))
      (λ ms rs. done (class_of x (fields (most_of L) (at + 1 + 1) (rows_from R (at + 1))).tree ms) rs)
  unfolding class_read
  class_is =
      let f = fields_run L (at + 1 + 1) (rows_from R (at + 1)) in
      let e₁ : at + 1 + 1 + length (fields (most_of L) (at + 1 + 1) (rows_from R (at + 1))).tree ≡ a + 1 =
      omega (arith, p, f.0) in
      let e₂ : (fields (most_of L) (at + 1 + 1) (rows_from R (at + 1))).rest ≡ rows_from R a = f.1
      ∙ rows_skip R (at + 1) _ ∙ ap (rows_from R) (sym p) in
      rw (e₁, e₂)

  module _ {E₁ E₂ : List ℕ} {s : Step}
      (t : (f : ℕ) → length (rows_from R a) ≤ f
      → ToldMethods L R E₁ a (methods (most_of L) f (a + 1) (rows_from R a)) s E₂) where
    methods-told : ToldMethods L R E₁ a
        (methods (most_of L) (length (rows_from R (at + 1))) (a + 1) (rows_from R a)) s E₂
    methods-told = t (length (rows_from R (at + 1))) (fewer R (at + 1) a (omega (arith, p)))

    pub class_stop : {E E₃ : List ℕ} {r : Refusal} → s ≡ Err r
        → ToldClass L R E at (class_read L x (at + 1) (rows_from R (at + 1))) (Err r) E₃
    class_stop e = told_as class_is (told_stop
        (methods (most_of L) (length (rows_from R (at + 1))) (a + 1) (rows_from R a)) _ methods-told e)

    pub class_close : {E : List ℕ} {n : ℕ}
        → E₁ ≡ sets E (at + 1) (next_rows (at + 1) (run L 70 (at + 1 + 1) (rows_from R (at + 1)))) → s ≡ Ok n
        → ToldClass L R E at (class_read L x (at + 1) (rows_from R (at + 1))) (Ok n) (set E₂ at n)
    unfolding class_lines class_ends
    class_close w e =
        let f = fields_run L (at + 1 + 1) (rows_from R (at + 1)) in
        let c = run L 70 (at + 1 + 1) (rows_from R (at + 1)) in
        let j : length (next_rows (at + 1) c) ≡ c = next_rows_long (at + 1) c in
        let i : at + 1 + c ≡ a = omega (arith, p) in
        told_as class_is (told_close (next_rows (at + 1) c)
        (λ ms. class_of x (fields (most_of L) (at + 1 + 1) (rows_from R (at + 1))).tree ms)
        (methods (most_of L) (length (rows_from R (at + 1))) (a + 1) (rows_from R a))
        (omega (arith, p, j)) w
        (λ ms rs z. omega (arith, j, f.0))
        (λ ms rs z. rw (f.0, j, i))
        methods-told e)

-- ---- classes, as long as C lines come

classes_none : (L : Limits) (g n line : ℕ) (rs : List Row) → standing L 67 line rs ≡ false
    → classes (most_of L) g n line rs ≡ done [] rs
unfolding standing classes
classes_none L zero n line rs e = refl
classes_none L (suc g) n line [] e = refl
classes_none L (suc g) n line (r ∷ rs) e = rw (maybe_none C_class (record_on (most_of L) line r) e)

abbrev pub all_classes : Limits → List ℕ → Checked (Read (List Class))
all_classes L R = classes (most_of L) (length (rows_of R)) 0 1 (rows_of R)

pub record Classing (L : Limits) (R E₀ E : List ℕ) (i n : ℕ) : Type 0 where
  pub ready : Ready L R E i
  pub few : n ≤ L.classes
  pub left : ℕ
  pub enough : length (rows_from R i) ≤ left
  pub told : (s : Step) (E' : List ℕ)
      → ToldClasses L R E i (classes (most_of L) left n (i + 1) (rows_from R i)) s E'
      → ToldClasses L R E₀ 0 (all_classes L R) s E'
  pub counted : (cs : List Class) (rs : List Row)
      → classes (most_of L) left n (i + 1) (rows_from R i) ≡ done cs rs
      → (ds : List Class) × (all_classes L R ≡ done ds rs) × (length ds ≡ n + length cs)
  pub long : length E ≡ length E₀

pub classing_start : {L : Limits} (R E : List ℕ) → Ready L R E 0 → Classing L R E E 0 0
classing_start {L} R E r = record {
  ready = r;
  few = omega arith;
  left = length (rows_of R);
  enough = rw (rows_start R) (omega arith);
  told = λ s E' t. rw (rows_start R) at t;
  counted = λ cs rs e. (cs, rw (rows_start R) at e, omega arith);
  long = refl;
}

-- the classes that were read, once no C line stands there
pub record Classes (L : Limits) (R E₀ E : List ℕ) (i n : ℕ) : Type 0 where
  pub list : List Class
  pub many : length list ≡ n
  pub all : all_classes L R ≡ done list (rows_from R i)
  pub rows : i ≡ classes_lines list
  pub table : E ≡ sets E₀ 0 (classes_ends 0 list)

module _ {L : Limits} {R E₀ E : List ℕ} {i n : ℕ} (p : Classing L R E₀ E i n) where
  pub classing_end : standing L 67 (i + 1) (rows_from R i) ≡ false → Classes L R E₀ E i n
  unfolding classes_lines classes_ends
  classing_end e =
      let z = classes_none L p.left n (i + 1) (rows_from R i) e in
      let c = p.counted [] (rows_from R i) z in
      told_end (all_classes L R)
      (p.told (Ok i) E (told_as z (told_nothing [] refl refl p.ready.within p.ready.inside)))
      refl λ cs x y v b w.
      let s = done_tree cs c.0 (rows_from R i) (rows_from R i) (sym x ∙ c.1) in
      record {
        list = cs;
        many = ap length s ∙ omega (arith, c.2);
        all = x;
        rows = omega (arith, y);
        table = w;
      }

  module _ (t : There L R i) (e : standing L 67 (i + 1) (rows_from R i) ≡ true) where
    the-line : (y : Record) × (maybe (most_of L) C_class (i + 1) (row_at R i) ≡ some y)
    the-line = standing_one L C_class R i t e

    more_left : suc (length (rows_from R (i + 1))) ≤ p.left
    more_left = rw (rows_here R i t.1) at p.enough

    classing-here : classes (most_of L) p.left n (i + 1) (rows_from R i)
        ≡ classes (most_of L) (suc (p.left - 1)) n (i + 1) (row_at R i ∷ rows_from R (i + 1))
    classing-here =
        let z : p.left ≡ suc (p.left - 1) = omega (arith, more_left) in
        ap (λ (j : ℕ). classes (most_of L) j n (i + 1) (rows_from R i)) z ∙ rw (rows_here R i t.1)

    pub classing_over : L.classes ≤ n → all_classes L R ≡ refuse 2 (i + 1)
    unfolding classes require
    classing_over h =
        told_failed (all_classes L R)
        (p.told (Err (refusal 2 (i + 1))) E
        (told_as (classing-here ∙ rw (the-line.1, le-ltb n L.classes h)) (told_refuse 2 (i + 1))))
        refl

    module _ (h : n < L.classes) where
      classing-next : classes (most_of L) p.left n (i + 1) (rows_from R i)
          ≡ after (class_read L the-line.0 (i + 1) (rows_from R (i + 1)))
          (λ c rs. after (classes (most_of L) (p.left - 1) (n + 1) (i + 1 + class_lines c) rs) λ cs rs.
          done (c ∷ cs) rs)
      unfolding classes require class_read after
      classing-next =
          let fs = fields (most_of L) (i + 1 + 1) (rows_from R (i + 1)) in
          classing-here ∙ rw (the-line.1, lt-ltb n L.classes h, add-one n)
          (sym (after_after (methods (most_of L) (length (rows_from R (i + 1)))
          (i + 1 + 1 + length fs.tree) fs.rest)
          (λ ms rs. done (class_of the-line.0 fs.tree ms) rs)
          (λ c rs. after (classes (most_of L) (p.left - 1) (suc n) (i + 1 + class_lines c) rs) λ cs rs.
          done (c ∷ cs) rs)))

      module _ {s : Step} {E₁ : List ℕ}
          (u : (x : Record) → ToldClass L R E i (class_read L x (i + 1) (rows_from R (i + 1))) s E₁) where
        pub classing_stop : {r : Refusal} → s ≡ Err r → all_classes L R ≡ refuse r.number r.line
        classing_stop {r} w = told_failed (all_classes L R)
            (p.told (Err r) E₁ (told_as classing-next (told_stop
            (class_read L the-line.0 (i + 1) (rows_from R (i + 1))) _ (u the-line.0) w))) refl

        -- a class takes a row at least
        pub classing_less : {q : ℕ} → s ≡ Ok q → i < q
        unfolding class_lines
        classing_less w = told_end (class_read L the-line.0 (i + 1) (rows_from R (i + 1)))
            (u the-line.0) w λ c x y v b z. omega (arith, y)

        pub classing_step : {q : ℕ} → s ≡ Ok q → length E₁ ≡ length E → Classing L R E₀ E₁ q (n + 1)
        unfolding after classes_lines classes_ends class_lines
        classing_step {q} w o =
            told_end (class_read L the-line.0 (i + 1) (rows_from R (i + 1))) (u the-line.0) w
            λ c x y v b z.
            let j : i + 1 + class_lines c ≡ q + 1 = omega (arith, y) in
            let same : classes (most_of L) p.left n (i + 1) (rows_from R i)
            ≡ after (classes (most_of L) (p.left - 1) (n + 1) (q + 1) (rows_from R q))
            (λ cs rs. done (c ∷ cs) rs) =
            classing-next ∙ rw (x, j) in
            record {
              ready = ready_at q p.ready o v b;
              few = omega (arith, h);
              left = p.left - 1;
              enough = omega (arith, more_left, fewer R (i + 1) q (omega (arith, y)));
              told = λ s' E' d. p.told s' E' (told_as same
                  (told_after (class_ends i c) (λ cs. c ∷ cs)
                  (classes (most_of L) (p.left - 1) (n + 1) (q + 1) (rows_from R q))
                  (omega (arith, y, class_ends_long i c)) z (λ cs. omega (arith, class_ends_long i c))
                  (λ cs. rw y) d));
              counted = λ cs rs e.
                  let d = p.counted (c ∷ cs) rs (same ∙ rw e) in
                  (d.0, d.1, d.2 ∙ omega arith);
              long = o ∙ p.long;
            }
