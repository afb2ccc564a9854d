-- Laws of R. Assumes nothing.
use Rattle.language.specs.Limits.{object_width}
use mathlib.Core.Path.{◌≡◌, refl, sym, ap, ◌∙◌}
use mathlib.Core.Bool.{true, false}
use mathlib.Core.List.{List, ◌++◌, map}
use Prim.Native.Nat.{ℕ, suc, ◌+◌, ◌*◌, ◌≤◌, ◌<◌}
use native.Mathlib.Omega.{arith}
use borrow.Author.Tests.{le-leb, lt-leb}
use lib.Dec.{leb}
use lib.ListN.{length, get_or, take, drop, set}
use Rattle.language.specs.Tree.{Class}
use Rattle.language.specs.Program.{world}
use Rattle.language.specs.State.{Value as Meaning, null, object, initials}
use Rattle.language.specs.Evaluation.{changed, do_change}
use Rattle.language.specs.Store.{value_of_number, heap_of_numbers}
use Rattle.objects.specs.declared.Tally.{Tally}
use Rattle.objects.specs.Values.{Outcome, Gave, Stuck, meaning, reached, outcome}
use Rattle.objects.specs.declared.Reached.TheVariants.{At}
use Rattle.objects.specs.Values.{Small, bare, Answer, answer}
use Rattle.objects.specs.Holding.{Holding}
use Rattle.objects.specs.Acts.{Acts, Fill, Filled, PreNew, PreChange, PostChange}
use Rattle.objects.proofs.Values.{NoObject, is_truth, is_past, reached_at, outcome_value}
use Rattle.layout.specs.HeldLaws.{roots}
use Rattle.objects.proofs.Holding.{tables, few_classes, fields_few}
use Rattle.objects.proofs.Acts.{acts_same}
use Rattle.objects.proofs.Objects.{mapped_length, object_at, heap_at}
use Rattle.objects.proofs.Objects.{heap_past, heap_changed}
use Rattle.objects.proofs.Fresh.{Renewed, renewed, fields_filled, stored_renewed, new_fill}

-- how many fields the root of class c has, by the table
abbrev pub kept_in : List ℕ → ℕ → ℕ
kept_in T c = get_or T (get_or T (c * 576 + 514) 0 * 576 + 515) 0

module _ {R E T A M s : List ℕ} {P : List Class} {made : ℕ} (hold : Holding R E T A M s P made) (j : ℕ)
    (h : j < made) where
  -- the fields that R keeps; the object has them
  kept_count : kept_in T (get_or s (j * object_width) 0)
      ≡ length ((world P).fields ((world P).root (get_or s (j * object_width) 0)))
  kept_count =
      let c : ℕ = get_or s (j * object_width) 0 in
      ap (λ (x : ℕ). get_or T (x * 576 + 515) 0) ((tables hold).roots c (hold.sound.declared j h))
      ∙ (tables hold).counts ((world P).root c) (roots hold.held c (hold.sound.declared j h)).0

  kept_own : leb (length ((world P).fields ((world P).root (get_or s (j * object_width) 0))))
      (length (object_at (world P) s (j * object_width)).fields) ≡ true
  kept_own =
      let c : ℕ = get_or s (j * object_width) 0 in
      let own : length (object_at (world P) s (j * object_width)).fields ≡ length ((world P).fields c)
      = mapped_length value_of_number s (j * object_width + 1) (length ((world P).fields c))
      (omega (arith, hold.sound.stored, fields_few hold c)) in
      le-leb (length ((world P).fields ((world P).root c)))
      (length (object_at (world P) s (j * object_width)).fields)
      (omega (arith, own, (roots hold.held c (hold.sound.declared j h)).1))

pub change_nothing : {R T s : List ℕ} {v : Meaning} {d : ℕ} {n : Tally} → NoObject n.made v
    → PostChange R T s s v d n (answer (outcome 17179869184) n)
unfolding bare outcome
change_nothing {s = s} {n = n} is_truth =
    record { acts = λ pre. acts_same n Stuck pre.holding.sound tt (λ γ k. refl) }
change_nothing {s = s} {n = n} (is_past {j} h) = record {
  acts = λ pre. acts_same n Stuck pre.holding.sound tt
      (λ γ k. rw (heap_past (world pre.P) n.made s j h));
}

module _ {R T s : List ℕ} {v : Meaning} {d : ℕ} {n : Tally} where
  pub change_null : v ≡ null → Small v → PostChange R T s s v d n (answer (Gave v) n)
  unfolding bare
  change_null e m = record { acts = λ pre. acts_same n (Gave v) pre.holding.sound m (λ γ k. rw e) }

  change_few : (j : ℕ) → v ≡ object j → j < n.made
      → get_or T (d * 576 + 515) 0 < kept_in T (get_or s (j * object_width) 0)
      → PostChange R T s s v d n (answer (outcome 17179869184) n)
  unfolding bare outcome
  change_few j e h few = record {
    acts = λ pre.
        let P = pre.P in
        let hold = pre.holding in
        let snd = hold.sound in
        let dd = pre.declared in
        let x : ℕ = length ((world P).fields ((world P).root (get_or s (j * object_width) 0))) in
        let z : leb x (length ((world P).fields d)) ≡ false
        = lt-leb x (length ((world P).fields d))
        (omega (arith, kept_count hold j h, (tables hold).counts d dd)) in
        acts_same n Stuck snd tt
        (λ γ k. rw (e, heap_at (world P) n.made s j h, kept_own hold j h, z));
  }

  change_acts : (s₁ : List ℕ) (j : ℕ) → v ≡ object j → j < n.made
      → kept_in T (get_or s (j * object_width) 0) ≤ get_or T (d * 576 + 515) 0 → Small v
      → Filled R T s s₁ (j * object_width) d (kept_in T (get_or s (j * object_width) 0))
      → {E A M : List ℕ} {P : List Class} → Holding R E T A M s P n.made → d ≤ length P
      → Acts P s (set s₁ (j * object_width) d) n
      (answer (Gave v) (record { left = n.left; made = n.made; changes = n.changes + 1 }))
      (λ t. do_change (world P) d v t)
  unfolding bare
  change_acts s₁ j e h many m w {P = P} hold dd =
      let snd = hold.sound in
      let made : ℕ = n.made in
      let s' : List ℕ = set s₁ (j * object_width) d in
      let c : ℕ = get_or s (j * object_width) 0 in
      let from : ℕ = kept_in T c in
      let g : from ≡ length ((world P).fields ((world P).root c)) = kept_count hold j h in
      let room : j * object_width + object_width ≤ length s = omega (arith, snd.stored) in
      let own : from ≤ length ((world P).fields c) =
      omega (arith, g, (roots hold.held c (snd.declared j h)).1) in
      let r : Renewed R T s s' (j * object_width) d from = renewed (j * object_width) d from w
      (omega (arith, own, fields_few hold c)) room in
      let low : from ≤ length ((world P).fields d) = omega (arith, many, (tables hold).counts d dd) in
      let x : ℕ = length ((world P).fields ((world P).root c)) in
      let z : leb x (length ((world P).fields d)) ≡ true =
      le-leb x (length ((world P).fields d)) (omega (arith, g, low)) in
      let fields = fields_filled hold s s' (j * object_width) d from (length ((world P).fields c)) dd
      low own room r.long (λ i l. r.kept i l) (λ i l k. r.first i l k) in
      let thing : object_at (world P) s' (j * object_width)
      ≡ changed (world P) d (object_at (world P) s (j * object_width))
      = ap (λ (k : ℕ). record {
        class_of = k;
        fields = map value_of_number
            (take (length ((world P).fields k)) (drop (j * object_width + 1) s'));
      }) r.class
      ∙ (ap (λ (y : List Meaning). record { class_of = d; fields = y }) fields
      ∙ ap (λ (x : ℕ). record {
        class_of = d;
        fields = take x
            (map value_of_number
            (take (length ((world P).fields (get_or s (j * object_width) 0))) (drop (j * object_width + 1) s)))
            ++ initials (drop x ((world P).fields d));
      }) g) in
      let heap : heap_of_numbers (world P) made s'
      ≡ set (heap_of_numbers (world P) made s) j
      (changed (world P) d (object_at (world P) s (j * object_width)))
      = heap_changed (world P) made s s' j h r.long
      (λ i k. fields_few hold (get_or s (i * object_width) 0)) (λ x o. r.outside x o)
      ∙ ap (set (heap_of_numbers (world P) made s) j) thing in
      record {
        stored = stored_renewed hold s' made j d from r dd low h (λ i k o. k) snd.stored
            snd.few (omega arith);
        left = refl;
        changed = omega arith;
        small = m;
        is = λ γ k. let one : n.changes + 1 ≡ suc n.changes = omega arith in
            rw (e, heap_at (world P) made s j h, kept_own hold j h, z, heap, one);
      }

  change_made : (s₁ : List ℕ) (j : ℕ) → v ≡ object j → j < n.made
      → kept_in T (get_or s (j * object_width) 0) ≤ get_or T (d * 576 + 515) 0 → Small v
      → Filled R T s s₁ (j * object_width) d (kept_in T (get_or s (j * object_width) 0))
      → PostChange R T s (set s₁ (j * object_width) d) v d n
      (answer (Gave v) (record { left = n.left; made = n.made; changes = n.changes + 1 }))
  change_made s₁ j e h many m w =
      record { acts = λ pre. change_acts s₁ j e h many m w pre.holding pre.declared }

-- the same of the word, which is returned
pub same_word : (w : ℕ) (n : Tally) → w < 17179869184 → answer (Gave (meaning w)) n ≡ answer (outcome w) n
same_word w n h = ap (λ (o : Outcome). answer o n) (sym (outcome_value w h))

-- what R reads in the tables: of the object's class and its root, and of the target
pub record Spots (R T s : List ℕ) (o d : ℕ) : Type 0 where
  pub stored : o + object_width ≤ length s
  pub own : get_or s o 0 * 576 + 576 ≤ length T
  pub class : get_or s o 0 ≤ 64
  pub root : get_or T (get_or s o 0 * 576 + 514) 0 * 576 + 576 ≤ length T
  pub target : d * 576 + 576 ≤ length T
  pub kept : kept_in T (get_or s o 0) ≤ 17

spots : {R T s : List ℕ} {d made : ℕ} → PreNew R T s d made → (j : ℕ) → j < made
    → Spots R T s (j * object_width) d
spots {R} {T} {s} {made = made} p j h =
    let c : ℕ = get_or s (j * object_width) 0 in
    let k = p.holding.sound.declared j h in
    let r = roots p.holding.held c k in
    record {
      stored = omega (arith, p.holding.sound.stored);
      own = omega (arith, (tables p.holding).long, k);
      class = omega (arith, k, few_classes p.holding);
      root = omega (arith, (tables p.holding).long, (tables p.holding).roots c k, r.0);
      target = omega (arith, (tables p.holding).long, p.declared);
      kept = omega (
        arith,
        kept_count p.holding j h,
        r.1,
        fields_few p.holding c,
      );
    }

-- first values from a place on that the object has
change_fill : {R T s : List ℕ} {d made : ℕ} (p : PreNew R T s d made) (j : ℕ) → j < made
    → Fill R T s (j * object_width) d (kept_in T (get_or s (j * object_width) 0))
change_fill p j h =
    let f = new_fill p (j * object_width) (omega (arith, p.holding.sound.stored)) in
    record {
      table = f.table;
      room = f.room;
      start = (spots p j h).kept;
      few = f.few;
      rows = f.rows;
    }

-- ---- by the word of the object, and its index in the store

module _ {R T s : List ℕ} (w : ℕ) {o d : ℕ} (n : Tally) (q : At o ≡ reached n.made (meaning w)) where
  pub reached_spots : PreChange R T s w d n → Spots R T s o d
  reached_spots p = let x = reached_at n.made (meaning w) o q in rw x.3 (spots p.new x.0 x.2)

  pub fill_at : PreChange R T s w d n → Fill R T s o d (kept_in T (get_or s o 0))
  fill_at p = let x = reached_at n.made (meaning w) o q in rw x.3 (change_fill p.new x.0 x.2)

  pub few_at : get_or T (d * 576 + 515) 0 < kept_in T (get_or s o 0)
      → PostChange R T s s (meaning w) d n (answer (outcome 17179869184) n)
  few_at h = let x = reached_at n.made (meaning w) o q in
      change_few x.0 x.1 x.2 (rw x.3 at h)

  pub made_at : (s₁ : List ℕ) {r : Answer} → kept_in T (get_or s o 0) ≤ get_or T (d * 576 + 515) 0
      → Small (meaning w) → Filled R T s s₁ o d (kept_in T (get_or s o 0))
      → answer (Gave (meaning w)) (record { left = n.left; made = n.made; changes = n.changes + 1 }) ≡ r
      → PostChange R T s (set s₁ o d) (meaning w) d n r
  made_at s₁ h m f e = let x = reached_at n.made (meaning w) o q in
      rw (← e, x.3) (change_made s₁ x.0 x.1 x.2 (rw x.3 at h) m (rw x.3 at f))

pub change_of_null : {R T s : List ℕ} (w : ℕ) {d : ℕ} (n : Tally) → meaning w ≡ null → w < 17179869184
    → Small (meaning w) → PostChange R T s s (meaning w) d n (answer (outcome w) n)
change_of_null w n e short m = rw (sym (same_word w n short)) (change_null e m)
