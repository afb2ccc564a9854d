-- The labels of a run counted through the Identities of its plain run: the j-th Identity's implementor has
-- the class of object j, so both counts are over the same classes.
use mathlib.Core.Path.{◌≡◌, refl, sym, ap, ◌∙◌}
use Prim.Native.Nat.{ℕ, zero, suc, ◌+◌, ◌-◌, ◌*◌, ◌<◌}
use mathlib.Core.Bool.{Bool, true, false}
use mathlib.Core.Option.{Option, some}
use mathlib.Core.List.{List, [], ◌∷◌, map}
use lib.ListN.{length, get_or, take, drop}
use lib.Seq.{get_or-drop, drop-drop}
use lib.Dec.{eqb}
use borrow.Author.Tests.{le-leb, lt-ltb}
use native.Mathlib.Omega.{arith}
use Rattle.language.specs.Limits.{object_width, identity_class, fickle_class}
use Rattle.language.specs.Lists.{nth, nth_lt, inj, choice, bind_option, map_option, All2, a_nil, a_cons}
use Rattle.language.specs.World.{World}
use Rattle.language.specs.Program.{world}
use Rattle.language.specs.Verdict.{check}
use Rattle.language.specs.State.{Value, object, Object}
use Rattle.language.specs.Translation.{plain_class}
use Rattle.language.specs.Store.{value_of_number, heap_of_numbers, capacity, ran, Ran, run_of}
use Rattle.language.specs.Correspondence.{identities, identity_of, implementor_of, Matches}
use Rattle.fleet.specs.Counts.{classes_in, holds_objects, class_of_value, implemented}
use Rattle.fleet.specs.Counts.{through_next, classes_through, run_counts, counts_through}
use Rattle.promises.specs.Labels.{ended_in}
use Rattle.promises.proofs.fleets.CountsServe.{classes_length, class_ended_in}
use Rattle.promises.specs.Listed.{ListedRun, is_refused_run, is_run}
use Rattle.promises.proofs.answers.ListedAnswers.{run_listed}
use Rattle.promises.specs.Endings.{EndsProperly, classes_read, objects_in, EndAlikeOnStores}

-- The object that numbers begin with.
abbrev first_object : World → List ℕ → Object
first_object W rest = record {
  class_of = get_or rest 0 0;
  fields = map value_of_number (take (length (W.fields (get_or rest 0 0))) (drop 1 rest));
}

-- Past a numbers and then past b more is past all of them.
past_both : (a b c : ℕ) (store : List ℕ) → a + b ≡ c → drop b (drop a store) ≡ drop c store
past_both a b c store e = drop-drop b a store ∙ ap (λ (k : ℕ). drop k store) e

-- Of n objects read there are n, each from its own numbers.
objects_read : (W : World) (n : ℕ) (store : List ℕ) → length (heap_of_numbers W n store) ≡ n
unfolding heap_of_numbers
objects_read W zero store = refl
objects_read W (suc n) store = ap suc (objects_read W n (drop object_width store))

object_read : (W : World) (n : ℕ) (store : List ℕ) (m : ℕ) → m < n
    → nth (heap_of_numbers W n store) m ≡ some (first_object W (drop (object_width * m) store))
unfolding heap_of_numbers nth
object_read W zero store m l = absurd (omega (arith, l))
object_read W (suc n) store zero l = refl
object_read W (suc n) store (suc m) l =
    object_read W n (drop object_width store) m (omega (arith, l))
    ∙ ap (λ (rest : List ℕ). some (first_object W rest))
    (past_both object_width (object_width * m) (object_width * suc m) store (omega arith))

-- The number of a value that is object m.
object_number : (v m : ℕ) → value_of_number v ≡ object m → v ≡ 3 + m
object_number zero m e = absurd (let z : ◌≡◌ {A = ℕ} 0 1 = cc in omega arith)
object_number (suc zero) m e = absurd (let z : ◌≡◌ {A = ℕ} 0 1 = cc in omega arith)
object_number (suc (suc zero)) m e = absurd (let z : ◌≡◌ {A = ℕ} 0 1 = cc in omega arith)
object_number (suc (suc (suc j))) m e = let q : j ≡ m = cc in omega (arith, q)

-- The number of the first field, where that holds object m.
first_field : (k : ℕ) (ns : List ℕ) (m : ℕ) (vs : List Value)
    → map value_of_number (take k ns) ≡ object m ∷ vs → get_or ns 0 0 ≡ 3 + m
first_field zero ns m vs e = absurd (let z : ◌≡◌ {A = ℕ} 0 1 = cc in omega arith)
first_field (suc k) [] m vs e = absurd (let z : ◌≡◌ {A = ℕ} 0 1 = cc in omega arith)
first_field (suc k) (v ∷ ns) m vs e = object_number v m cc

-- Object i of a heap is an Identity whose `imp` is an implementor of class c.
record Implements (heap : List Object) (i c : ℕ) : Type 0 where
  pub m : ℕ
  pub id : ℕ
  pub fields : List Value
  pub identity : nth heap i ≡ some (identity_of m)
  pub implementor : nth heap m ≡ some (implementor_of c id fields)

module _ (W : World) (n : ℕ) (store : List ℕ) where
  -- The first n objects of a store.
  abbrev objects : List Object
  objects = heap_of_numbers W n store

  -- An object among them is read from its own numbers, and its class is the first of them.
  read_as : (i : ℕ) (o : Object) → nth objects i ≡ some o
      → (i < n) × (first_object W (drop (object_width * i) store) ≡ o)
  read_as i o e =
      let l : i < n = omega (arith, nth_lt objects i o e, objects_read W n store) in
      (l, inj (sym (object_read W n store i l) ∙ e))

  class_there : (i : ℕ) (o : Object) → nth objects i ≡ some o
      → ended_in store i ≡ o.class_of
  class_there i o e = let at : object_width * i ≡ object_width * i + 0 = omega arith in
      ap (λ (k : ℕ). get_or store k 0) at ∙ (sym (get_or-drop (object_width * i) store 0 0)
      ∙ ap (λ (o : Object). o.class_of) (read_as i o e).1)

  -- Where object m is an implementor of class c, that class is found from its value, 3 + m.
  implementor_found : (v m c : ℕ) → v ≡ 3 + m → m < n → ended_in store m ≡ plain_class c
      → implemented n store v ≡ some c
  implementor_found v m c e l q =
      let place : v - 3 ≡ m = omega (arith, e) in
      let class : class_of_value n store v ≡ plain_class c = ap (ended_in store) place ∙ q in
      rw (
        le-leb 3 v (omega (arith, e)),
        lt-ltb (v - 3) n (omega (arith, place, l)),
        class,
        le-leb fickle_class (plain_class c) (omega arith),
      ) (ap some (omega arith))

  -- So it is from the first field of an Identity, whose implementor it is.
  finds_implementor : (i c : ℕ) → Implements objects i c
      → implemented n store (get_or (drop (object_width * i) store) 1 0) ≡ some c
  finds_implementor i c x =
      let rest = drop (object_width * i) store in
      let imp : map value_of_number (take (length (W.fields (get_or rest 0 0))) (drop 1 rest))
      ≡ object x.m ∷ [] =
      ap (λ (o : Object). o.fields) (read_as i (identity_of x.m) x.identity).1 in
      let implementor = implementor_of c x.id x.fields in
      implementor_found (get_or rest 1 0) x.m c
      (sym (get_or-drop 1 rest 0 0)
      ∙ first_field (length (W.fields (get_or rest 0 0))) (drop 1 rest) x.m [] imp)
      (read_as x.m implementor x.implementor).0 (class_there x.m implementor x.implementor)

  -- The Identities among the objects from the i-th on give the classes of their implementors.
  walk : (k i : ℕ) → (cs : List ℕ)
      → All2 (Implements objects)
      (identities i (heap_of_numbers W k (drop (object_width * i) store))) cs
      → through_next n store k (drop (object_width * i) store) ≡ some cs
  unfolding heap_of_numbers identities through_next
  walk zero i cs a = none_left a
    where
      none_left : {cs : List ℕ} → All2 (Implements objects) [] cs
          → ◌≡◌ {A = Option (List ℕ)} (some []) (some cs)
      none_left a_nil = refl
  walk (suc k) i cs a =
      let rest = drop (object_width * i) store in
      let next : drop object_width rest ≡ drop (object_width * suc i) store =
      past_both (object_width * i) object_width (object_width * suc i) store (omega arith) in
      let ih : (cs : List ℕ) → All2 (Implements objects)
      (identities (suc i) (heap_of_numbers W k (drop object_width rest))) cs
      → through_next n store k (drop object_width rest) ≡ some cs =
      λ cs a. rw next (walk k (suc i) cs (rw next at a)) in
      go (eqb (get_or rest 0 0) identity_class) a ih
    where
      go : (b : Bool) {ids : List ℕ} {cs : List ℕ} {later : Option (List ℕ)}
          → All2 (Implements objects) (choice b (λ _. i ∷ ids) (λ _. ids)) cs
          → ((cs : List ℕ) → All2 (Implements objects) ids cs → later ≡ some cs)
          → choice b
          (λ _. bind_option (implemented n store (get_or (drop (object_width * i) store) 1 0)) λ c.
          map_option (λ cs. c ∷ cs) later) (λ _. later)
          ≡ some cs
      go true (a_cons {b = c} x xs) f = rw (finds_implementor i c x, f _ xs)
      go false xs f = f _ xs

  -- All Identities give the classes of their implementors.
  through_all : (cs : List ℕ)
      → All2 (Implements objects) (identities 0 objects) cs
      → classes_through n store ≡ some cs
  unfolding classes_through
  through_all cs a = walk n 0 cs a

-- Lists of one length, related at each place.
all2_places : {A B : Type 0} {R : A → B → Type 0} (xs : List A) (ys : List B) → length xs ≡ length ys
    → ((j : ℕ) (x : A) (y : B) → nth xs j ≡ some x → nth ys j ≡ some y → R x y) → All2 R xs ys
unfolding nth
all2_places [] [] e f = a_nil
all2_places [] (y ∷ ys) e f = absurd (omega (arith, e))
all2_places (x ∷ xs) [] e f = absurd (omega (arith, e))
all2_places (x ∷ xs) (y ∷ ys) e f =
    a_cons (f 0 x y refl refl) (all2_places xs ys (omega (arith, e)) (λ j x y p q. f (suc j) x y p q))

-- The store of a run that ends properly holds the objects that it made.
holds_them : (ns : List ℕ) (fuel : ℕ) (store : List ℕ) (e : EndsProperly (run_of ns fuel store))
    → holds_objects e.objects (run_of ns fuel store).store ≡ true
unfolding capacity
holds_them ns fuel store e = go (run_listed ns fuel store) e
  where
    go : {a : Ran} → ListedRun ns fuel store a → (e : EndsProperly a)
        → holds_objects e.objects a.store ≡ true
    go (is_refused_run w) e = absurd (let z : ◌≡◌ {A = ℕ} 0 1 = cc in omega arith)
    go (is_run {objects} o f k l d) e = let q : objects ≡ e.objects = cc in
        le-leb e.objects _ (omega (arith, q, k, l))

-- The Identity that an object of class c matches has an implementor of class c.
implemented_by : {ids : List ℕ} {heap : List Object} {j : ℕ} {o : Object} → Matches ids heap j o
    → (i c : ℕ) → nth ids j ≡ some i → o.class_of ≡ c → Implements heap i c
implemented_by x i c p q = record {
  m = x.m;
  id = x.i;
  fields = x.fields;
  identity = rw (inj (sym p ∙ x.identity)) x.at_identity;
  implementor = rw (← q) x.at_implementor;
}

-- The classes that the objects of a run ended in are those of the implementors in its plain run.
classes_alike : (ns out : List ℕ) {a a' : Ran} (e : EndAlikeOnStores ns out a a')
    → classes_through e.plain.objects a'.store ≡ some (classes_in e.source.objects a.store)
unfolding objects_in
classes_alike ns out {a} {a'} e =
    let n = e.source.objects in
    let W = world (classes_read (check ns)) in
    through_all (world (classes_read (check out))) e.plain.objects a'.store _
    (all2_places _ (classes_in n a.store) (e.identities_made ∙ sym (classes_length n a.store))
    λ j i c p q.
    let l : j < n = omega (arith, nth_lt (classes_in n a.store) j c q, classes_length n a.store) in
    let x = e.each j l in
    let o = x.object in
    let class : o.class_of ≡ c = sym (class_there W n a.store j o x.there)
    ∙ inj (sym (class_ended_in n a.store j l) ∙ q) in
    implemented_by x.matches i c p class)

-- Where two runs end alike, the labels counted through the plain store are those of the source's store.
pub counted_alike : (ns out : List ℕ) (fuel fuel' : ℕ) (store plain_store : List ℕ)
    → (e : EndAlikeOnStores ns out (run_of ns fuel store) (run_of out fuel' plain_store))
    → (printed spoiled : ℕ)
    → counts_through ns (run_of out fuel' plain_store).store e.plain.objects printed spoiled
    ≡ run_counts ns (run_of ns fuel store).store e.source.objects printed spoiled
unfolding counts_through run_counts
counted_alike ns out fuel fuel' store plain_store e printed spoiled =
    rw (
      holds_them ns fuel store e.source,
      holds_them out fuel' plain_store e.plain,
      classes_alike ns out e,
    )

-- A run ends with one number of objects.
one_number : {a : Ran} (x y : EndsProperly a) → x.objects ≡ y.objects
one_number x y = let q : ran x.outcome x.steps x.objects x.changes
    ≡ ran y.outcome y.steps y.objects y.changes = sym x.answer ∙ y.answer in cc

-- So the labels are the same with the objects of any proper ends of the two runs.
pub counted_as_ended : (ns out : List ℕ) (fuel fuel' : ℕ) (store plain_store : List ℕ)
    → EndAlikeOnStores ns out (run_of ns fuel store) (run_of out fuel' plain_store)
    → (end : EndsProperly (run_of ns fuel store)) (plain_end : EndsProperly (run_of out fuel' plain_store))
    → (printed spoiled : ℕ)
    → counts_through ns (run_of out fuel' plain_store).store plain_end.objects printed spoiled
    ≡ run_counts ns (run_of ns fuel store).store end.objects printed spoiled
counted_as_ended ns out fuel fuel' store plain_store e end plain_end printed spoiled =
    rw (one_number plain_end e.plain, one_number end e.source)
    (counted_alike ns out fuel fuel' store plain_store e printed spoiled)
