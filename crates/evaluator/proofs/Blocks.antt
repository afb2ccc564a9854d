-- The steps of B. Assumes nothing.
use mathlib.Core.Path.{◌≡◌, refl, sym, ap, ap₂, ◌∙◌}
use mathlib.Core.Bool.{false}
use mathlib.Core.Logic.{◌⊎◌, inl, inr}
use mathlib.Core.List.{List, [], ◌∷◌, ◌++◌, map}
use Prim.Native.Nat.{ℕ, zero, suc, ◌+◌, ◌-◌, ◌*◌, ◌≤◌, ◌<◌}
use native.Mathlib.Omega.{arith}
use lib.ListN.{length, get_or, take, drop, length-append, length-map}
use lib.Seq.{take-take}
use mathlib.Core.Option.{some}
use Rattle.language.specs.Lists.{nth, nth_append, nth_map}
use Rattle.language.specs.Frames.{opened, closed}
use Rattle.frames.proofs.Frames.{slots_length, words_written, first_word}
use Rattle.objects.proofs.Nth.{lt_or, nth_ext, nth_past, some_at}
use Rattle.objects.proofs.Objects.{mapped_at}
use Rattle.objects.proofs.Values.{meaning_null, meaning_truth}
use Rattle.objects.specs.declared.Tally.{Tally}
use Rattle.objects.specs.Values.{word, meaning, Outcome, Gave, Raised, Stopped, Stuck, Answer}
use Rattle.objects.specs.Values.{bare, told}
use Rattle.frames.specs.declared.Place.{Place}
use Rattle.frames.specs.Places.{slots_of, inside, state, frame_of}
use Rattle.language.specs.WellFormed.{TypeInForm, Each}
use Rattle.theory.proofs.lookups.LookupLaws.{each_at}
use Rattle.layout.specs.ProperNodes.{ProperAll}
use Rattle.objects.proofs.Holding.{first_number}
use Rattle.frames.proofs.OneChild.{node_rows, node_parts}
use Rattle.frames.specs.Nodes.{PreEntered, PostNode}
use Rattle.evaluator.specs.Evaluator.{PreList, PostItems}
use Rattle.frames.specs.Slots.{Opened, Locals}
use Rattle.evaluator.specs.Evaluator.{evaluated_all}
use Rattle.objects.specs.Holding.{first_value_of}
use Rattle.frames.proofs.Letters.{as_block}
use Rattle.language.specs.Results.{ok, stop, bind}
use Rattle.language.specs.Tree.{Exprs, count, Class, DeclaredType, bool, class, type_number, block}
use Rattle.language.specs.Encoded.{TypesAt, Encoded, EncodedAll}
use Rattle.language.specs.Rows.{V_local}
use Rattle.language.specs.State.{Value as Meaning, null, Out, initial, with_frame}
use Rattle.language.specs.Evaluation.{last_value}
use Rattle.language.specs.Store.{capacity}
use Rattle.language.proofs.Nodes.{head}
use Rattle.language.proofs.Lines.{line_at}
use Rattle.language.specs.Rows.{code, B_block}

-- the place inside a block
abbrev pub inner : Place → ℕ → Place
inner q v = record { base = q.base; scope = q.scope + v; top = q.top; calls = q.calls }

first_initial : (t : DeclaredType) → TypeInForm t
    → meaning (word (first_value_of (type_number t))) ≡ initial t
first_initial bool f = meaning_truth false
first_initial (class c) f = ap (λ (v : Meaning). meaning (word v)) (first_number (class c) f) ∙ meaning_null

slots_at : (l : List ℕ) (from m i : ℕ) → i < m → from + i < length l
    → nth (slots_of l from m) i ≡ some (meaning (get_or l (from + i) 0))
unfolding slots_of
slots_at l from m i h k = mapped_at meaning l from m i h k

nth_from : (xs ys : List Meaning) (n j i : ℕ) → length xs ≡ n → n + j ≡ i → nth (xs ++ ys) i ≡ nth ys j
nth_from xs ys n j i a e = ap (nth (xs ++ ys)) (sym e ∙ ap (λ (k : ℕ). k + j) (sym a)) ∙ nth_past xs ys j

-- B taken apart
pub record BlockAt {R E T A M s l : List ℕ} {at : ℕ} {q : Place} {n : Tally}
    (p : PreEntered R E T A M s l at q n) : Type 0 where
  pub ts : List DeclaredType
  pub es : Exprs
  pub is : p.e ≡ block ts es
  pub row : at * 4 + 3 < length R
  pub locals : get_or R (at * 4 + 1) 0 ≡ length ts
  pub many : get_or R (at * 4 + 2) 0 ≡ count es
  pub wide : suc q.scope + length ts ≤ p.width
  pub types : Each TypeInForm ts
  pub lines : TypesAt V_local R ts (at + 1)
  pub enc : EncodedAll R E es (at + 1 + length ts)
  pub proper : ProperAll p.P p.width (suc (q.scope + length ts)) (p.d - 1) es

pub block_apart : {R E T A M s l : List ℕ} {at : ℕ} {q : Place} {n : Tally}
    (p : PreEntered R E T A M s l at q n) → get_or R (at * 4) 0 ≡ code B_block → BlockAt p
unfolding Encoded
block_apart {q = q} p h =
    let x = as_block (head p.e p.encoded) h in
    let enc = node_rows p x.2 in
    let w = node_parts p x.2 in
    let scope : suc q.scope + length x.0 ≡ suc (q.scope + length x.0) = omega arith in
    record {
      ts = x.0;
      es = x.1;
      is = x.2;
      row = enc.0.row.within;
      locals = enc.0.row.first;
      many = enc.0.row.second;
      wide = w.1;
      types = w.2;
      lines = enc.1;
      enc = enc.2;
      proper = rw scope at w.3;
    }

module _ {R E T A M s l : List ℕ} {at : ℕ} {q : Place} {n : Tally} {p : PreEntered R E T A M s l at q n}
    (x : BlockAt p) where
  pub block_locals : Locals R l (at + 1) (q.base + 1 + q.scope) (get_or R (at * 4 + 1) 0)
  block_locals = record {
    room = omega (arith, x.locals, x.wide, p.ready.frame, p.ready.above);
    rows = λ i h. let t = some_at x.ts i (omega (arith, x.locals)) in
        omega (arith, (line_at _ x.ts (at + 1) x.lines i t.0 t.1).within);
  }

  module _ {l' : List ℕ} (w : Opened R l l' (at + 1) (q.base + 1 + q.scope) (get_or R (at * 4 + 1) 0)) where
    opened-slots : slots_of l' (q.base + 1) (q.scope + get_or R (at * 4 + 1) 0)
        ≡ slots_of l (q.base + 1) q.scope ++ map initial x.ts
    opened-slots =
        let v : ℕ = get_or R (at * 4 + 1) 0 in
        let room : q.base + 1 + (q.scope + v) ≤ length l' =
        omega (arith, w.long, x.locals, x.wide, p.ready.frame, p.ready.above) in
        let a = slots_length l (q.base + 1) q.scope (omega (arith, w.long)) in
        nth_ext (slots_of l' (q.base + 1) (q.scope + v))
        (slots_of l (q.base + 1) q.scope ++ map initial x.ts)
        (slots_length l' (q.base + 1) (q.scope + v) room
        ∙ sym (length-append (slots_of l (q.base + 1) q.scope) (map initial x.ts)
        ∙ (ap₂ (λ (x y : ℕ). x + y) a (length-map x.ts initial) ∙ omega (arith, x.locals))))
        (λ i h. let h' : i < q.scope + v =
        omega (arith, slots_length l' (q.base + 1) (q.scope + v) room) in
        slots_at l' (q.base + 1) (q.scope + v) i h' (omega arith) ∙ go a room i h' (lt_or i q.scope))
      where
        go : length (slots_of l (q.base + 1) q.scope) ≡ q.scope
            → q.base + 1 + (q.scope + get_or R (at * 4 + 1) 0) ≤ length l' → (i : ℕ)
            → i < q.scope + get_or R (at * 4 + 1) 0 → (i < q.scope) ⊎ (q.scope ≤ i)
            → some (meaning (get_or l' (q.base + 1 + i) 0))
            ≡ nth (slots_of l (q.base + 1) q.scope ++ map initial x.ts) i
        go a room i h (inl o) =
            ap (λ (y : ℕ). some (meaning y)) (w.outside (q.base + 1 + i) (inl (omega arith)))
            ∙ sym (nth_append (slots_of l (q.base + 1) q.scope) (map initial x.ts) i
            (meaning (get_or l (q.base + 1 + i) 0))
            (slots_at l (q.base + 1) q.scope i o (omega (arith, w.long))))
        go a room i h (inr o) =
            let j : ℕ = i - q.scope in
            let t = some_at x.ts j (omega (arith, x.locals)) in
            let e : q.base + 1 + q.scope + j ≡ q.base + 1 + i = omega arith in
            let e' : q.scope + j ≡ i = omega arith in
            let y = rw e at (w.inside j (omega arith)) in
            let f : get_or R ((at + 1 + j) * 4 + 1) 0 ≡ type_number t.0 =
            (line_at _ x.ts (at + 1) x.lines j t.0 t.1).first in
            let is : nth (slots_of l (q.base + 1) q.scope ++ map initial x.ts) i
            ≡ some (initial t.0) =
            nth_from (slots_of l (q.base + 1) q.scope) (map initial x.ts) q.scope j i a e'
            ∙ nth_map initial j x.ts t.0 t.1 in
            ap some (ap meaning (y ∙ ap (λ (x : ℕ). word (first_value_of x)) f)
            ∙ first_initial t.0 (each_at x.types j t.0 t.1)) ∙ sym is

    pub frame_opened : frame_of l' (inner q (get_or R (at * 4 + 1) 0))
        ≡ opened (frame_of l q) (map initial x.ts)
    unfolding frame_of
    frame_opened = rw (w.outside q.base (inl (omega arith)), opened-slots)

    abbrev pub block_items : get_or R (at * 4 + 2) 0 < 4294967296
        → PreList R E T A M s l' (at + 1 + get_or R (at * 4 + 1) 0) (inner q (get_or R (at * 4 + 1) 0)) n
        (get_or R (at * 4 + 2) 0)
    block_items few = record {
      P = p.P;
      es = x.es;
      width = p.width;
      d = p.d - 1;
      ready = record {
        holding = p.ready.holding;
        frame = p.ready.frame;
        scoped = omega (arith, x.wide, x.locals);
        whole = omega (arith, p.ready.whole, w.long);
        above = omega (arith, p.ready.above, w.long);
        words = words_written w (λ i h. first_word (get_or R ((at + 1 + i) * 4 + 1) 0)) p.ready.words;
        active = p.ready.active;
        counted = omega (arith, p.ready.counted);
      };
      encoded = rw x.locals x.enc;
      proper = rw x.locals x.proper;
      many = x.many;
      few = few;
    }

-- the slots of a block go when it ends
closed_slots : (l : List ℕ) (from m v : ℕ) → take m (slots_of l from (m + v)) ≡ slots_of l from m
unfolding slots_of
closed_slots l from m v = sym (map-take meaning m (take (m + v) (drop from l)))
    ∙ ap (map meaning) (take-take m (m + v) (drop from l) (omega arith))
  where
    map-take : {A B : Type 0} (f : A → B) (n : ℕ) (l : List A) → map f (take n l) ≡ take n (map f l)
    map-take f zero l = refl
    map-take f (suc n) [] = refl
    map-take {B = B} f (suc n) (x ∷ xs) = ap (λ (l : List B). f x ∷ l) (map-take f n xs)

-- from the value of the last to that of the block
close : (o : Outcome) (P : List Class) (s l : List ℕ) (q : Place) (v m : ℕ) (n : Tally) (steps : ℕ)
    (x : Out (List Meaning)) → m ≡ q.scope
    → told o (state P s l (inner q v) n steps) ≡ bare (bind x λ vs t. ok (last_value null vs) t)
    → told o (state P s l q n steps)
    ≡ bare (bind x λ vs t. ok (last_value null vs) (with_frame (closed m t.frame) t))
unfolding bare frame_of
close (Gave w) P s l q v m n steps (ok vs t) z e =
    let e₁ : w ≡ last_value null vs = cc in
    let e₂ : state P s l (inner q v) n steps ≡ t = cc in
    rw (e₁, ← e₂, z, closed_slots l (q.base + 1) q.scope v)
close (Gave w) P s l q v m n steps (stop y t) z e = let u : ◌≡◌ {A = ℕ} 0 1 = cc in absurd (omega arith)
close (Raised i) P s l q v m n steps (ok vs t) z e = let u : ◌≡◌ {A = ℕ} 0 1 = cc in absurd (omega arith)
close (Raised i) P s l q v m n steps (stop y t) z e = e
close (Stopped i) P s l q v m n steps (ok vs t) z e = let u : ◌≡◌ {A = ℕ} 0 1 = cc in absurd (omega arith)
close (Stopped i) P s l q v m n steps (stop y t) z e = e
close Stuck P s l q v m n steps (ok vs t) z e = let u : ◌≡◌ {A = ℕ} 0 1 = cc in absurd (omega arith)
close Stuck P s l q v m n steps (stop y t) z e = e

frame_scope : (l : List ℕ) (q : Place) → q.base + 1 + q.scope ≤ length l
    → length (frame_of l q).slots ≡ q.scope
unfolding frame_of
frame_scope l q h = slots_length l (q.base + 1) q.scope h

pub block_done : {R E T A M s l l' s'' l'' : List ℕ} (at : ℕ) {q : Place} {n : Tally} {r : Answer}
    → get_or R (at * 4) 0 ≡ code B_block
    → Opened R l l' (at + 1) (q.base + 1 + q.scope) (get_or R (at * 4 + 1) 0)
    → get_or R (at * 4 + 2) 0 < 4294967296
    → PostItems R E T A M s l' s'' l'' (at + 1 + get_or R (at * 4 + 1) 0) (inner q (get_or R (at * 4 + 1) 0)) n
    (get_or R (at * 4 + 2) 0) null r → PostNode R E T A M s l s'' l'' at q n r
unfolding inside
block_done {R} {E} {T} {A} {M} {s} {l} {l'} {s''} {l''} at {q} {n} {r} h w few g = record {
  done = λ p F k z.
      let P = p.P in
      let x = block_apart p h in
      let b = g.done (block_items x w few) F k z in
      let i = rw (frame_opened x w) at b.is in
      record {
        kept = record {
          same = λ i u o. b.kept.same i u o ∙ w.outside i (far x i o);
          long = b.kept.long ∙ w.long;
          words = b.kept.words;
          stored = b.kept.stored;
          falls = b.kept.falls;
          counted = omega (arith, b.kept.counted);
          small = b.kept.small;
        };
        is = rw x.is (close r.outcome P s'' l'' q (get_or R (at * 4 + 1) 0) (length (frame_of l q).slots)
            r.counts (F - r.counts.left)
            (evaluated_all P F (capacity s) q.calls x.es
            (with_frame (opened (frame_of l q) (map initial x.ts)) (state P s l q n k)))
            (frame_scope l q (omega (arith, p.ready.frame, p.ready.scoped, p.ready.above))) i);
      };
}
  where
    far : {p : PreEntered R E T A M s l at q n} → BlockAt p → (i : ℕ)
        → (i < q.base) ⊎ (q.base + p.width ≤ i)
        → (i < q.base + 1 + q.scope) ⊎ (q.base + 1 + q.scope + get_or R (at * 4 + 1) 0 ≤ i)
    far x i (inl o) = inl (omega arith)
    far x i (inr o) = inr (omega (arith, x.wide, x.locals))
