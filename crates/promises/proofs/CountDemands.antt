-- The demands on the labels of one run (document 02, §1): which runs can be counted, what their counts say,
-- and that a plain run gives the same counts as the run of its source. What it is to serve and to count for a
-- class is in Labels. The proofs are in the files cited.
use mathlib.Core.Path.{◌≡◌}
use mathlib.Core.Logic.{◌↔◌}
use Prim.Native.Nat.{ℕ, ◌+◌, ◌*◌, ◌≤◌}
use mathlib.Core.Option.{some}
use mathlib.Core.List.{List}
use Rattle.language.specs.Limits.{object_class, plain_steps_a_step}
use Rattle.language.specs.Results.{accept}
use Rattle.language.specs.Translation.{translation}
use Rattle.language.specs.Tree.{Class}
use Rattle.language.specs.Store.{capacity, run_of}
use Rattle.fleet.specs.Counts.{Counts, run_counts, counts_through}
use Rattle.promises.specs.Labels.{ended_in, IsDeclared, Serves, OneOf, CountsFor}
use Rattle.promises.specs.Endings.{EndsProperly, EndAlikeOnStores}
use Rattle.promises.proofs.Demands.{most_source_fuel, demand_3, demand_3_back}
use Rattle.promises.proofs.fleets.CountsServe.{counted_if_serves}
use Rattle.promises.proofs.fleets.CountsExact.{counts_exactly, spoiled_counts, no_more_spoiled}
use Rattle.promises.proofs.fleets.CountsExact.{object_not_counted}
use Rattle.promises.proofs.fleets.CountsThrough.{counted_alike, counted_as_ended}

-- Which runs are counted. Whatever the numbers, a run has counts exactly if its program is accepted and
-- declares both classes, spoiled strictly below printed, and its store holds the objects made and no class
-- that the program lacks other than Object.
pub count_serves : (rows store : List ℕ) (n printed spoiled : ℕ)
    → ((c : Counts) × (run_counts rows store n printed spoiled ≡ some c))
    ↔ Serves rows store n printed spoiled
count_serves = counted_if_serves

-- What the counts are. An object counts for a class exactly if it ended in it or below it: the counts of a
-- run that serves are the number of objects made that count for printed and the number that count for
-- spoiled, and nothing else is.
pub counts_exact : (rows store : List ℕ) (n printed spoiled : ℕ) (s : Serves rows store n printed spoiled)
    → (c : Counts) → (run_counts rows store n printed spoiled ≡ some c)
    ↔ (CountsFor s.program.classes store n printed c.printed
    × CountsFor s.program.classes store n spoiled c.spoiled)
counts_exact = counts_exactly

-- Spoiled labels were printed: each object that counts for spoiled counts for printed.
pub spoiled_is_printed : {rows store : List ℕ} {n printed spoiled a b : ℕ}
    → (s : Serves rows store n printed spoiled)
    → (x : CountsFor s.program.classes store n printed a)
    → (y : CountsFor s.program.classes store n spoiled b)
    → (j : ℕ) → OneOf j y.places → OneOf j x.places
spoiled_is_printed = spoiled_counts

-- So no run has more spoiled labels than printed ones.
pub spoiled_within_printed : (rows store : List ℕ) (n printed spoiled : ℕ) (c : Counts)
    → run_counts rows store n printed spoiled ≡ some c → c.spoiled ≤ c.printed
spoiled_within_printed = no_more_spoiled

-- An object that ended in Object counts for no declared class.
pub object_counts_nowhere : {P : List Class} {store : List ℕ} {n d a : ℕ} (x : CountsFor P store n d a)
    → IsDeclared P d → (j : ℕ) → ended_in store j ≡ object_class → OneOf j x.places → ⊥
object_counts_nowhere = object_not_counted

-- Counts of plain runs. Where the run of a program and the run of its plain rows end alike, the labels
-- counted through the Identities in the plain run's store are those counted in the source's own, whatever the
-- two classes; and neither has counts where the other has none.
pub counts_alike : (ns out : List ℕ) (fuel fuel' : ℕ) (store plain_store : List ℕ)
    → (e : EndAlikeOnStores ns out (run_of ns fuel store) (run_of out fuel' plain_store))
    → (printed spoiled : ℕ)
    → counts_through ns (run_of out fuel' plain_store).store e.plain.objects printed spoiled
    ≡ run_counts ns (run_of ns fuel store).store e.source.objects printed spoiled
counts_alike = counted_alike

-- From the source to the plain run. Take any program that has a translation, any fuel up to 1,000,000 and any
-- store. If its run ends in a value, an exception or 15, with n objects made and r changes of class, then
-- with 84 times the fuel and any store with room for 2n + r objects the run of its plain rows ends so too,
-- and the labels counted through the plain store are those of the source's store.
pub counts_forth : (ns out : List ℕ) → translation ns ≡ accept out
    → (fuel : ℕ) → fuel ≤ most_source_fuel
    → (store : List ℕ) (end : EndsProperly (run_of ns fuel store))
    → (plain_store : List ℕ)
    → 2 * end.objects + end.changes ≤ capacity plain_store
    → (plain_end : EndsProperly (run_of out (plain_steps_a_step * fuel) plain_store))
    × ((printed spoiled : ℕ)
    → counts_through ns (run_of out (plain_steps_a_step * fuel) plain_store).store plain_end.objects
    printed spoiled
    ≡ run_counts ns (run_of ns fuel store).store end.objects printed spoiled)
counts_forth ns out t fuel l store end plain_store room =
    let e = demand_3 ns out t fuel l store end plain_store room in
    (e.plain, counted_as_ended ns out fuel _ store plain_store e end e.plain)

-- And back. If the run of the plain rows, with any fuel and any store, ends in one of those ways, then with
-- the same fuel and any store with room for as many objects as it made the run of the program ends so too,
-- and the labels of its store are those counted through the plain store.
pub counts_back : (ns out : List ℕ) → translation ns ≡ accept out
    → (fuel : ℕ) (plain_store : List ℕ) (plain_end : EndsProperly (run_of out fuel plain_store))
    → (store : List ℕ)
    → plain_end.objects ≤ capacity store
    → (end : EndsProperly (run_of ns fuel store))
    × ((printed spoiled : ℕ)
    → counts_through ns (run_of out fuel plain_store).store plain_end.objects printed spoiled
    ≡ run_counts ns (run_of ns fuel store).store end.objects printed spoiled)
counts_back ns out t fuel plain_store plain_end store room =
    let e = demand_3_back ns out t fuel plain_store plain_end store room in
    (e.source, counted_as_ended ns out fuel fuel store plain_store e e.source plain_end)
