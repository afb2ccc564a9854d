-- Objects read back from the numbers of a store (document 01, "Evaluation"): what the numbers of a store
-- afterwards hold are the objects that the run made, and what held none is unchanged.
use mathlib.Core.Path.{◌≡◌, refl, ap, ◌∙◌}
use Prim.Native.Nat.{ℕ, suc, ◌-◌, ◌*◌, ◌≤◌}
use mathlib.Core.Bool.{true, false}
use mathlib.Core.Option.{some}
use mathlib.Core.List.{List, [], ◌∷◌, ◌++◌, map, append_assoc}
use lib.ListN.{length, take, drop, replicate, length-append, length-replicate, length-drop, length-map}
use lib.Seq.{take_at, drop_at}
use native.Mathlib.Omega.{arith}
use Rattle.language.specs.Limits.{of_check, object_width}
use Rattle.language.specs.Lists.{nth, all2_length}
use Rattle.language.specs.Results.{Holds, holds_ok, holds_stop}
use Rattle.language.specs.Tree.{Program}
use Rattle.language.specs.World.{World}
use Rattle.language.specs.Program.{world}
use Rattle.language.specs.State.{Value, null, truth, object, Object, State, Stop, Out}
use Rattle.language.specs.Evaluation.{Limits, run}
use Rattle.language.specs.Store.{value_number, value_of_number, object_numbers, heap_numbers, heap_of_numbers}
use Rattle.language.specs.Store.{capacity, stored}
use Rattle.language.specs.WellFormed.{Each, each_nil, each_cons, ProgramWell}
use Rattle.theory.proofs.soundness.Fitting.{HeapOk, Good, Fine, fine_null, fine_cast, fine_deep}
use Rattle.theory.proofs.soundness.Fitting.{fine_spent}
use Rattle.theory.proofs.soundness.Fitting.{fine_full}
use Rattle.theory.proofs.lookups.TranslatorLookups.{well_formed_more}
use Rattle.theory.proofs.soundness.Members.{run_sound}
use Rattle.theory.proofs.evaluation.LimitedRuns.{final}

-- A value's number stands for it.
pub value_back : (v : Value) → value_of_number (value_number v) ≡ v
value_back null = refl
value_back (truth true) = refl
value_back (truth false) = refl
value_back (object j) = refl

values_back : (vs : List Value) → map value_of_number (map value_number vs) ≡ vs
values_back [] = refl
values_back (v ∷ vs) = rw (value_back v, values_back vs)

-- An object has the fields of its class, at most 17.
pub record Shaped (W : World) (o : Object) : Type 0 where
  pub fields : length o.fields ≡ length (W.fields o.class_of)
  pub few : length o.fields ≤ of_check.fields

-- Such an object takes 18 numbers.
pub object_length : {W : World} (o : Object) → Shaped W o → length (object_numbers o) ≡ object_width
object_length o s = omega (
  arith,
  s.few,
  length-append (map value_number o.fields) (replicate (object_width - 1 - length o.fields) 0),
  length-map o.fields value_number,
  length-replicate {A = ℕ} (object_width - 1 - length o.fields) 0,
)

-- So many objects more take 18 numbers each.
pub heap_length : {W : World} (h : List Object) → Each (Shaped W) h
    → length (heap_numbers h) ≡ object_width * length h
unfolding heap_numbers
heap_length [] each_nil = refl
heap_length (o ∷ h) (each_cons s ss) =
    omega (arith, object_length o s, heap_length h ss, length-append (object_numbers o) (heap_numbers h))

-- Reading an object back from its numbers gives the object, and what stands after them is read next.
read_object : (W : World) (o : Object) → Shaped W o → (n : ℕ) (rest : List ℕ)
    → heap_of_numbers W (suc n) (object_numbers o ++ rest) ≡ o ∷ heap_of_numbers W n rest
unfolding heap_of_numbers
read_object W o s n rest =
    let values = map value_number o.fields in
    let unused : List ℕ = replicate (object_width - 1 - length o.fields) 0 in
    let taken : take (length (W.fields o.class_of)) ((values ++ unused) ++ rest) ≡ values =
    ap (take (length (W.fields o.class_of))) (append_assoc values unused rest)
    ∙ take_at values (unused ++ rest) _ (length-map o.fields value_number ∙ s.fields) in
    let fields : map value_of_number (take (length (W.fields o.class_of)) ((values ++ unused) ++ rest))
    ≡ o.fields =
    ap (map value_of_number) taken ∙ values_back o.fields in
    ap (λ (vs : List Value). record { class_of = o.class_of; fields = vs }
    ∷ heap_of_numbers W n (drop object_width (object_numbers o ++ rest))) fields
    ∙ ap (λ (store : List ℕ). o ∷ heap_of_numbers W n store)
    (drop_at (object_numbers o) rest object_width (object_length o s))

-- Reading as many objects as were made back from their numbers gives them, whatever stands after.
pub heap_back : (W : World) (h : List Object) → Each (Shaped W) h → (rest : List ℕ)
    → heap_of_numbers W (length h) (heap_numbers h ++ rest) ≡ h
unfolding heap_of_numbers heap_numbers
heap_back W [] each_nil rest = refl
heap_back W (o ∷ h) (each_cons s ss) rest =
    ap (heap_of_numbers W (suc (length h))) (append_assoc (object_numbers o) (heap_numbers h) rest)
    ∙ (read_object W o s (length h) (heap_numbers h ++ rest)
    ∙ ap (λ (l : List Object). o ∷ l) (heap_back W h ss rest))

-- The objects in a store afterwards are those that were made.
pub stored_back : (W : World) (h : List Object) → Each (Shaped W) h → (store : List ℕ)
    → heap_of_numbers W (length h) (stored h store) ≡ h
unfolding stored
stored_back W h ss store = heap_back W h ss (drop (object_width * length h) store)

-- What held no object is unchanged: the numbers past the objects made are those that stood there.
pub stored_rest : {W : World} (h : List Object) → Each (Shaped W) h → (store : List ℕ)
    → drop (object_width * length h) (stored h store) ≡ drop (object_width * length h) store
unfolding stored
stored_rest h ss store = drop_at (heap_numbers h) _ (object_width * length h) (heap_length h ss)

-- A store with room for the objects is as long as before.
pub stored_length : {W : World} (h : List Object) → Each (Shaped W) h → (store : List ℕ)
    → length h ≤ capacity store
    → length (stored h store) ≡ length store
unfolding stored capacity
stored_length h ss store l = omega (
  arith,
  l,
  heap_length h ss,
  length-append (heap_numbers h) (drop (object_width * length h) store),
  length-drop (object_width * length h) store,
)

-- Objects of a heap that fits its classes have the fields of their classes.
shaped_each : (W : World) (h : List Object) → ((j : ℕ) (o : Object) → nth h j ≡ some o → Shaped W o)
    → Each (Shaped W) h
unfolding nth
shaped_each W [] f = each_nil
shaped_each W (o ∷ h) f = each_cons (f 0 o refl) (shaped_each W h (λ j p e. f (suc j) p e))

fine_heap : {W : World} {x : Stop} {s : State} → Fine W x s → HeapOk W s.heap
fine_heap (fine_null h) = h
fine_heap (fine_cast h) = h
fine_heap (fine_deep h) = h
fine_heap (fine_spent h) = h
fine_heap (fine_full h) = h

-- At the end of a run of a well-formed program, whatever its limits, each object has the fields of its class.
pub run_shaped : (p : Program) → ProgramWell p → (L : Limits)
    → Each (Shaped (world p.classes)) (final (run L p)).heap
run_shaped p w L = shaped_each W (final (run L p)).heap λ j o e. let l =
    all2_length ((heap (run_sound p w L)).each j o e) in
    record { fields = l; few = omega (arith, l, (well_formed_more p w).few_fields o.class_of) }
  where
    W : World
    W = world p.classes

    heap : {r : Out Value} → Holds (Good W w.γ w.φ w.t []) (Fine W) r → HeapOk W (final r).heap
    heap (holds_ok g) = g.heap_ok
    heap (holds_stop f) = fine_heap f
