-- Labels counted object by object are those that the definitions count (Counts of fleet). Assumes nothing.
use mathlib.Core.Path.{◌≡◌, refl, sym, ◌∙◌}
use mathlib.Core.Bool.{Bool, true, false, cond, ◌&&◌}
use mathlib.Core.List.{List, [], ◌∷◌}
use mathlib.Core.Option.{Option, none, some}
use Prim.Native.Nat.{ℕ, zero, suc, ◌+◌, ◌-◌, ◌*◌, ◌/◌, ◌≤◌, ◌<◌}
use native.Mathlib.Omega.{arith}
use borrow.Author.Tests.{le-leb, lt-leb}
use lib.Dec.{eqb, leb}
use lib.ListN.{length, get_or, drop}
use lib.Seq.{drop-drop}
use Rattle.language.specs.Limits.{identity_class, object_width}
use Rattle.language.specs.Lists.{choice, given, bind_option, map_option}
use Rattle.language.specs.Results.{accept, refuse}
use Rattle.language.specs.Tree.{Program}
use Rattle.language.specs.World.{World}
use Rattle.language.specs.Program.{world}
use Rattle.language.specs.Verdict.{check}
use Rattle.fleet.specs.Counts.{Counts, relates, knows_all, count_below, labels_of, classes_in}
use Rattle.std.specs.Prelude.{Some, None}
use Rattle.fleet.specs.declared.Labels.{Labels}
use Rattle.fleet.specs.Counts.{implemented, through_next, classes_through, run_counts}
use Rattle.fleet.specs.Counts.{is_made, class_of_value, counts_through}
use Rattle.counting.specs.declared.Ended.{Ended}
use Rattle.counting.specs.declared.Ended.TheVariants.{In, NoLabel, Lost}
use Rattle.counting.specs.Labels.{counted, class_made, implementor_ended, ended_at, added, labels_next}
use Rattle.counting.specs.Labels.{counts_of, labels_told}
use Rattle.counting.proofs.Objects.{told_labels, told_none}

module _ (W : World) (d e : ℕ) where
  -- The counts p and s with objects that ended in these classes; none where the program lacks one of them.
  abbrev labels_on : ℕ → ℕ → List ℕ → Option Counts
  labels_on p s cs = choice (knows_all W cs)
      (λ _. some (counted (p + count_below W d cs) (s + count_below W e cs)))
      (λ _. none)

  more_on : (b : Bool) (p m : ℕ) → cond b (p + 1) p + m ≡ p + cond b (suc m) m
  more_on true p m = omega arith
  more_on false p m = refl

  on_nil : (p s : ℕ) → some (counted p s) ≡ labels_on p s []
  unfolding knows_all count_below
  on_nil p s = let f : p + 0 ≡ p = omega arith in let g : s + 0 ≡ s = omega arith in rw (f, g)

  -- A class more.
  on_cons : (p s c : ℕ) (cs : List ℕ) → leb c W.count ≡ true
      → labels_on (cond (W.below c d) (p + 1) p) (cond (W.below c e) (s + 1) s) cs ≡ labels_on p s (c ∷ cs)
  unfolding knows_all count_below
  on_cons p s c cs l = rw (
    l,
    more_on (W.below c d) p (count_below W d cs),
    more_on (W.below c e) s (count_below W e cs),
  )

  on_unknown : (p s c : ℕ) (cs : List ℕ) → leb c W.count ≡ false → none ≡ labels_on p s (c ∷ cs)
  unfolding knows_all
  on_unknown p s c cs l = rw l

  module _ (n : ℕ) (store : List ℕ) where
    -- Every object of a run's store.
    next-run : (k : ℕ) (rest : List ℕ) (p s : ℕ)
        → labels_next W d e false n store k rest p s ≡ labels_on p s (classes_in k rest)
    unfolding labels_next classes_in
    next-run zero rest p s = on_nil p s
    next-run (suc k) rest p s =
        go (λ x y. next-run k (drop object_width rest) x y) (leb (get_or rest 0 0) W.count) refl
      where
        go : ((x y : ℕ) → labels_next W d e false n store k (drop object_width rest) x y
            ≡ labels_on x y (classes_in k (drop object_width rest)))
            → (b : Bool) → leb (get_or rest 0 0) W.count ≡ b
            → bind_option (added W d e p s (In (get_or rest 0 0)))
            (λ c. labels_next W d e false n store k (drop object_width rest) c.printed c.spoiled)
            ≡ labels_on p s (get_or rest 0 0 ∷ classes_in k (drop object_width rest))
        go rec true l = rw l (rec _ _ ∙ on_cons p s (get_or rest 0 0) (classes_in k (drop object_width rest)) l)
        go rec false l = rw l (on_unknown p s (get_or rest 0 0) (classes_in k (drop object_width rest)) l)

    -- What the implementor that a value is says.
    held-is : (v : ℕ) → implementor_ended (class_made n store v) ≡ given (implemented n store v) Lost λ c. In
        c
    held-is v = go (is_made n store v) (class_of_value n store v)
      where
        pick : (b : Bool) (c : ℕ)
            → choice b (λ _. In (c - 2)) (λ _. Lost)
            ≡ given (choice b (λ _. some (c - 2)) (λ _. none)) Lost λ c. In c
        pick true c = refl
        pick false c = refl

        go : (b : Bool) (c : ℕ) → implementor_ended (choice b (λ _. c) (λ _. 0))
            ≡ given (choice (b && leb 2 c) (λ _. some (c - 2)) (λ _. none)) Lost λ c. In c
        go true c = pick (leb 2 c) c
        go false c = refl

    -- The Identities of a plain store.
    next-plain : (k : ℕ) (rest : List ℕ) (p s : ℕ)
        → labels_next W d e true n store k rest p s
        ≡ bind_option (through_next n store k rest) λ cs. labels_on p s cs
    unfolding labels_next through_next
    next-plain zero rest p s = on_nil p s
    next-plain (suc k) rest p s = go (λ x y. next-plain k (drop object_width rest) x y)
        (eqb (get_or rest 0 0) identity_class) (implemented n store (get_or rest 1 0))
        (implementor_ended (class_made n store (get_or rest 1 0))) (held-is (get_or rest 1 0))
      where
        Rec : Type 0
        Rec = (x y : ℕ) → labels_next W d e true n store k (drop object_width rest) x y
            ≡ bind_option (through_next n store k (drop object_width rest)) λ cs. labels_on x y cs

        unknown : (c : ℕ) (t : Option (List ℕ)) → leb c W.count ≡ false
            → none ≡ bind_option (map_option (λ cs. c ∷ cs) t) λ cs. labels_on p s cs
        unknown c none l = refl
        unknown c (some cs) l = on_unknown p s c cs l

        one : (c : ℕ) (t : Option (List ℕ)) → leb c W.count ≡ true
            → bind_option t (λ cs. labels_on (cond (W.below c d) (p + 1) p) (cond (W.below c e) (s + 1) s)
            cs)
            ≡ bind_option (map_option (λ cs. c ∷ cs) t) λ cs. labels_on p s cs
        one c none l = refl
        one c (some cs) l = on_cons p s c cs l

        add : Rec → (c : ℕ) (b : Bool) → leb c W.count ≡ b
            → bind_option (added W d e p s (In c))
            (λ t. labels_next W d e true n store k (drop object_width rest) t.printed t.spoiled)
            ≡ bind_option (map_option (λ cs. c ∷ cs) (through_next n store k (drop object_width rest))) λ cs.
            labels_on p s cs
        add rec c true l = rw l (rec _ _ ∙ one c (through_next n store k (drop object_width rest)) l)
        add rec c false l = rw l (unknown c (through_next n store k (drop object_width rest)) l)

        go : Rec → (b : Bool) (v : Option ℕ) (h : Ended) → h ≡ given v Lost (λ c. In c)
            → bind_option (added W d e p s (choice b (λ _. h) (λ _. NoLabel)))
            (λ t. labels_next W d e true n store k (drop object_width rest) t.printed t.spoiled)
            ≡ bind_option (choice b
            (λ _. bind_option v λ c.
            map_option (λ cs. c ∷ cs) (through_next n store k (drop object_width rest)))
            (λ _. through_next n store k (drop object_width rest))) λ cs. labels_on p s cs
        go rec false v h q = rec p s
        go rec true none h q = rw q
        go rec true (some c) h q = rw q (add rec c (leb c W.count) refl)

    -- Object i of the store comes next.
    module _ (plain : Bool) (i p s : ℕ) (l : i < n) where
      next_is : (m : ℕ) → n - i ≡ suc m
          → labels_next W d e plain n store (n - i) (drop (object_width * i) store) p s
          ≡ bind_option (added W d e p s (ended_at plain n store (drop (object_width * i) store))) λ c.
          labels_next W d e plain n store m (drop (object_width * (i + 1)) store) c.printed c.spoiled
      unfolding labels_next
      next_is m q =
          let r : object_width * i + object_width ≡ object_width * (i + 1) = omega arith in
          rw (q, drop-drop object_width (object_width * i) store, r)

      pub next_some : (o : Ended) → o ≡ ended_at plain n store (drop (object_width * i) store)
          → (x : Labels) → Some x ≡ labels_told (added W d e p s o)
          → labels_next W d e plain n store (n - i) (drop (object_width * i) store) p s
          ≡ labels_next W d e plain n store (n - (i + 1)) (drop (object_width * (i + 1)) store) x.printed x.spoiled
      next_some o q x f =
          next_is (n - (i + 1)) (omega arith) ∙ rw (sym q, told_labels (added W d e p s o) x f)

      pub next_none : (o : Ended) → o ≡ ended_at plain n store (drop (object_width * i) store)
          → None ≡ labels_told (added W d e p s o)
          → labels_next W d e plain n store (n - i) (drop (object_width * i) store) p s ≡ none
      next_none o q f =
          next_is (n - (i + 1)) (omega arith) ∙ rw (sym q, told_none (added W d e p s o) f)

    pub next_start : (plain : Bool)
        → labels_next W d e plain n store n store 0 0
        ≡ labels_next W d e plain n store (n - 0) (drop (object_width * 0) store) 0 0
    next_start plain = let z : n - 0 ≡ n = omega arith in rw z

    pub next_end : (plain : Bool) (i : ℕ) (rest : List ℕ) (p s : ℕ) → n ≤ i
        → labels_next W d e plain n store (n - i) rest p s ≡ some (counted p s)
    unfolding labels_next
    next_end plain i rest p s l = let z : n - i ≡ 0 = omega arith in rw z

  related_first : (cs : List ℕ)
      → labels_of W d e cs ≡ choice (relates W d e) (λ _. labels_on 0 0 cs) (λ _. none)
  related_first cs = go (relates W d e)
    where
      zeros : (b : Bool) (x y : ℕ)
          → choice b (λ _. some (counted x y)) (λ _. none)
          ≡ choice b (λ _. some (counted (0 + x) (0 + y))) (λ _. none)
      zeros b x y = let f : 0 + x ≡ x = omega arith in let g : 0 + y ≡ y = omega arith in rw (f, g)

      go : (b : Bool)
          → choice (b && knows_all W cs)
          (λ _. some (counted (count_below W d cs) (count_below W e cs)))
          (λ _. none)
          ≡ choice b (λ _. labels_on 0 0 cs) (λ _. none)
      go true = zeros (knows_all W cs) (count_below W d cs) (count_below W e cs)
      go false = refl

-- ---- all the labels of a run

module _ (R store : List ℕ) (n d e : ℕ) where
  pub counts_short : (plain : Bool) → length store / object_width < n → none ≡ counts_of plain R store n d e
  unfolding run_counts counts_through
  counts_short false l = rw (lt-leb n (length store / object_width) l)
  counts_short true l = rw (lt-leb n (length store / object_width) l)

  pub counts_refused : (plain : Bool) (i l : ℕ) → check R ≡ refuse i l → none ≡ counts_of plain R store n d e
  unfolding run_counts counts_through
  counts_refused false i l q = rw q (go (leb n (length store / object_width)))
    where
      go : (b : Bool) → none ≡ choice {A = Option Counts} b (λ _. none) (λ _. none)
      go true = refl
      go false = refl
  counts_refused true i l q = rw q (go (leb n (length store / object_width)) (classes_through n store))
    where
      go : (b : Bool) (o : Option (List ℕ))
          → none ≡ choice b (λ _. bind_option {B = Counts} o λ cs. none) (λ _. none)
      go true none = refl
      go true (some cs) = refl
      go false o = refl

  module _ (p : Program) (q : check R ≡ accept p) (l : n ≤ length store / object_width) where
    abbrev W : World
    W = world p.classes

    counts-accepted : (plain : Bool) → counts_of plain R store n d e
        ≡ choice (relates W d e) (λ _. labels_next W d e plain n store n store 0 0) (λ _. none)
    unfolding run_counts counts_through classes_through
    counts-accepted false =
        rw (q, le-leb n (length store / object_width) l, next-run W d e n store n store 0 0)
        (related_first W d e (classes_in n store))
    counts-accepted true =
        rw (q, le-leb n (length store / object_width) l, next-plain W d e n store n store 0 0)
        (go (through_next n store n store))
      where
        none_left : (b : Bool) → none ≡ choice {A = Option Counts} b (λ _. none) (λ _. none)
        none_left true = refl
        none_left false = refl

        go : (o : Option (List ℕ)) → bind_option o (λ cs. labels_of W d e cs)
            ≡ choice (relates W d e) (λ _. bind_option o λ cs. labels_on W d e 0 0 cs) (λ _. none)
        go none = none_left (relates W d e)
        go (some cs) = related_first W d e cs

    pub counts_unrelated : (plain : Bool) → relates W d e ≡ false → none ≡ counts_of plain R store n d e
    counts_unrelated plain f = sym (counts-accepted plain ∙ rw f)

    pub counts_related : (plain : Bool) → relates W d e ≡ true
        → labels_next W d e plain n store n store 0 0 ≡ counts_of plain R store n d e
    counts_related plain f = sym (counts-accepted plain ∙ rw f)
