-- What a count of the numbers to write tells of the answer and the buffer. Assumes nothing.
use mathlib.Core.Path.{◌≡◌, refl, sym, ap, ◌∙◌}
use mathlib.Core.Bool.{Bool, true, false, cond, false≢true}
use mathlib.Core.List.{List, [], ◌∷◌, ◌++◌}
use Prim.Native.Nat.{ℕ, suc, ◌+◌, ◌/◌, ◌≤◌, ◌<◌}
use native.Mathlib.Numerals.{add-one}
use native.Mathlib.Omega.{arith}
use borrow.Author.Tests.{le-leb, lt-leb, leb-true}
use lib.Dec.{leb}
use lib.ListN.{length, get_or, take, drop, set, replicate, length-append, length-drop, length-replicate}
use lib.Seq.{sets, sets-eq, length-sets, length-take-le, take-append_seam, take-suc, drop-cons, set_at}
use lib.Seq.{append_snoc}
use Rattle.language.specs.Results.{Checked, accept, refuse}
use Rattle.language.specs.Filling.{before, held, filled, overwritten, answer, buffer, tally, is_made}
use Rattle.language.specs.Filling.{made_numbers}
use Rattle.std.specs.Prelude.{Ok, Err}
use Rattle.language.specs.Refusals.{refusal}
use Rattle.language.proofs.Refusals.{err_injective}

-- two lists written one after the other
pub sets_append : (l : List ℕ) (i : ℕ) (xs ys : List ℕ)
    → sets l i (xs ++ ys) ≡ sets (sets l i xs) (i + length xs) ys
sets_append l i [] ys = let e : i + 0 ≡ i = omega arith in rw e
sets_append l i (x ∷ xs) ys = let e : i + suc (length xs) ≡ suc i + length xs = omega arith in
    rw e (sets_append (set l i x) (suc i) xs ys)

pub sets_then : (l : List ℕ) (i j : ℕ) (xs ys : List ℕ) → j ≡ i + length xs
    → sets (sets l i xs) j ys ≡ sets l i (xs ++ ys)
sets_then l i j xs ys e = rw e (sym (sets_append l i xs ys))

-- written from the start: the list, then what was there past it
sets_start : (l xs : List ℕ) → length xs ≤ length l → sets l 0 xs ≡ xs ++ drop (length xs) l
sets_start l xs h = let e : 0 + length xs ≡ length xs = omega arith in sets-eq xs l 0 (omega arith)
    ∙ ap (λ (n : ℕ). xs ++ drop n l) e

-- a fresh buffer is as long as it says
pub replicate_long : (n : ℕ) → n ≤ length (replicate {A = ℕ} n 0)
replicate_long n = omega (arith, length-replicate {A = ℕ} n 0)

-- ---- filling a buffer step by step

is_made_before : (xs : List ℕ) (m : Checked (List ℕ)) → is_made (before xs m) ≡ is_made m
is_made_before xs (accept ys) = refl
is_made_before xs (refuse number line) = refl

numbers_before : (xs : List ℕ) (m : Checked (List ℕ)) → is_made m ≡ true
    → made_numbers (before xs m) ≡ xs ++ made_numbers m
numbers_before xs (accept ys) e = refl
numbers_before xs (refuse number line) e = absurd (false≢true e)

-- What is left to do: m is what is made of the rest of the input, n records having been counted and i numbers written
-- before it. Writing the rest of the numbers at place i gives the buffer as it is to be.
pub record Left (width : ℕ) (m₀ m : Checked (List ℕ)) (n : ℕ) (held₀ held : List ℕ) (i : ℕ) : Type 0 where
  pub count : tally width 0 m₀ ≡ tally width n m
  pub same : is_made m₀ ≡ is_made m
  pub goal : is_made m₀ ≡ true → sets held i (made_numbers m) ≡ sets held₀ 0 (made_numbers m₀)
  pub long : length held ≡ length held₀

pub left_start : (width : ℕ) (m : Checked (List ℕ)) (held : List ℕ) → Left width m m 0 held held 0
left_start width m held = record { count = refl; same = refl; goal = λ e. refl; long = refl }

module _ {width : ℕ} {m₀ m : Checked (List ℕ)} {n : ℕ} {held₀ held : List ℕ} {i : ℕ}
    (l : Left width m₀ m n held₀ held i) where
  pub left_refused : (number line : ℕ) → m ≡ refuse number line → Err (refusal number line) ≡ tally width 0 m₀
  left_refused number line e = sym (l.count ∙ ap (tally width n) e)

  pub left_unmade : {A : Type 0} (number line : ℕ) → m ≡ refuse number line → is_made m₀ ≡ true → A
  left_unmade number line e f =
      absurd (false≢true (ap (λ (x : Checked (List ℕ)). is_made x) (sym e) ∙ sym l.same ∙ f))

  pub left_done : m ≡ accept [] → n + 0 / width ≡ n → Ok n ≡ tally width 0 m₀
  left_done e q = sym (l.count ∙ ap (tally width n) e ∙ ap Ok q)

  pub left_full : m ≡ accept [] → is_made m₀ ≡ true → held ≡ sets held₀ 0 (made_numbers m₀)
  left_full e f = rw e at (l.goal f)

  -- a record is written
  pub left_step : (xs : List ℕ) (m' : Checked (List ℕ)) (n' : ℕ) (held' : List ℕ) (i' : ℕ) → m ≡ before xs m'
      → tally width n (before xs m') ≡ tally width n' m'
      → held' ≡ sets held i xs → i' ≡ i + length xs → Left width m₀ m' n' held₀ held' i'
  left_step xs m' n' held' i' e c w p = record {
    count = l.count ∙ ap (tally width n) e ∙ c;
    same = l.same ∙ ap (λ (x : Checked (List ℕ)). is_made x) e ∙ is_made_before xs m';
    goal = λ f.
        let g : is_made m' ≡ true = sym (is_made_before xs m')
        ∙ ap (λ (x : Checked (List ℕ)). is_made x) (sym e) ∙ sym l.same ∙ f in
        let h : sets held i (xs ++ made_numbers m') ≡ sets held₀ 0 (made_numbers m₀) =
        rw (e, numbers_before xs m' g) at (l.goal f) in
        rw w (sets_then held i i' xs (made_numbers m') p ∙ h);
    long = ap length w ∙ length-sets held i xs ∙ l.long;
  }

-- ---- copying a buffer's first numbers to another, one by one

pub record Copying (from to₀ to : List ℕ) (count i : ℕ) : Type 0 where
  pub within : i ≤ count
  pub copied : to ≡ take i from ++ drop i to₀

pub copying_start : (from to : List ℕ) (count : ℕ) → Copying from to to count 0
copying_start from to count = record { within = omega arith; copied = refl }

module _ {from to₀ to : List ℕ} {count i : ℕ} (p : Copying from to₀ to count i) (f : count ≤ length from)
    (t : count ≤ length to₀) where
  pub copying_long : length to ≡ length to₀
  copying_long =
      ap length p.copied ∙ length-append (take i from) (drop i to₀)
      ∙ omega (arith, length-take-le i from (omega (arith, p.within, f)), length-drop i to₀, p.within, t)

  pub copying_step : i < count → Copying from to₀ (set to i (get_or from i 0)) count (i + 1)
  copying_step l =
      let h : i < length from = omega (arith, f, l) in
      let k : i < length to₀ = omega (arith, t, l) in
      record {
        within = omega (arith, l);
        copied = rw (
          p.copied,
          drop-cons to₀ i 0 k,
          set_at (take i from) (get_or to₀ i 0) (drop (suc i) to₀)
              (get_or from i 0) i (length-take-le i from (omega (arith, h))),
          add-one i,
          take-suc from i 0 h,
        )
            (sym (append_snoc (take i from) (get_or from i 0) (drop (suc i) to₀)));
      }

  pub copying_end : count ≤ i → to ≡ take count from ++ drop count to₀
  copying_end l = let e : i ≡ count = omega (arith, p.within, l) in rw e at p.copied

-- ---- what is made, by the room that is lent for it

-- it fits
pub held_fits : (room : ℕ) (xs : List ℕ) → length xs ≤ room → held room (accept xs) ≡ accept xs
held_fits room xs h = rw (le-leb (length xs) room h)

-- it is longer
pub held_short : (room : ℕ) (xs : List ℕ) → room < length xs → held room (accept xs) ≡ refuse 13 0
held_short room xs h = rw (lt-leb (length xs) room h)

-- what is held was made, and fits
pub held_inv : (room : ℕ) (m : Checked (List ℕ)) (xs : List ℕ) → held room m ≡ accept xs
    → (m ≡ accept xs) × (length xs ≤ room)
held_inv room (accept ys) xs e = go (leb (length ys) room) refl e
  where
    go : (t : Bool) → leb (length ys) room ≡ t → cond t (accept ys) (refuse 13 0) ≡ accept xs
        → (accept ys ≡ accept xs) × (length xs ≤ room)
    go true q e = let f : ys ≡ xs = cc in (e, rw (← f) (leb-true (length ys) room q))
    go false q e = let z : ◌≡◌ {A = ℕ} 0 1 = cc in absurd (omega arith)
held_inv room (refuse n l) xs e = let z : ◌≡◌ {A = ℕ} 0 1 = cc in absurd (omega arith)

-- what is held once is held again
pub held_again : (room : ℕ) (m : Checked (List ℕ)) → held room (held room m) ≡ held room m
held_again room (accept xs) = go (leb (length xs) room) refl
  where
    go : (t : Bool) → leb (length xs) room ≡ t
        → held room (cond t (accept xs) (refuse 13 0)) ≡ cond t (accept xs) (refuse 13 0)
    go true e = rw e
    go false e = refl
held_again room (refuse n l) = refl

-- ---- the answer and the buffer of what is made

-- the answer and the buffer where it fits
pub answer_fits : (width : ℕ) (xs old : List ℕ) → length xs ≤ length old
    → (Ok (length xs / width) ≡ answer width (accept xs) (length old))
    × (xs ++ drop (length xs) old ≡ buffer (accept xs) old)
answer_fits width xs old h = (rw (held_fits (length old) xs h), rw (held_fits (length old) xs h))

-- where it does not
pub answer_short : (width : ℕ) (xs old : List ℕ) → length old < length xs
    → (Err (refusal 13 0) ≡ answer width (accept xs) (length old)) × (old ≡ buffer (accept xs) old)
answer_short width xs old h = (rw (held_short (length old) xs h), rw (held_short (length old) xs h))

-- where it is refused
pub answer_refused : (width : ℕ) {m : Checked (List ℕ)} (n l : ℕ) (old : List ℕ) → m ≡ refuse n l
    → (Err (refusal n l) ≡ answer width m (length old)) × (old ≡ buffer m old)
answer_refused width n l old e = (rw e refl, rw e refl)

-- a refused answer: that is what is made for the room
pub answer_refused_inv : (width room : ℕ) (m : Checked (List ℕ)) (n l : ℕ) → answer width m room ≡ Err (refusal n l)
    → held room m ≡ refuse n l
answer_refused_inv width room m n l e = go (held room m) e
  where
    go : (c : Checked (List ℕ)) → filled width c ≡ Err (refusal n l) → c ≡ refuse n l
    go (accept xs) e = let z : ◌≡◌ {A = ℕ} 0 1 = cc in absurd (omega arith)
    go (refuse k j) e = let p = err_injective e in rw (p.0, p.1)

-- an answer that n records are written: their numbers are made, and stand first in the buffer
pub record Made (width : ℕ) (m : Checked (List ℕ)) (old new : List ℕ) (n : ℕ) : Type 0 where
  pub numbers : List ℕ
  pub is : held (length old) m ≡ accept numbers
  pub made : m ≡ accept numbers
  pub count : n ≡ length numbers / width
  pub fits : length numbers ≤ length old
  pub first : take (length numbers) new ≡ numbers

pub answer_done_inv : (width : ℕ) (m : Checked (List ℕ)) (old new : List ℕ) (n : ℕ)
    → answer width m (length old) ≡ Ok n → new ≡ buffer m old → Made width m old new n
answer_done_inv width m old new n e w = go (held (length old) m) refl e w
  where
    go : (c : Checked (List ℕ)) → held (length old) m ≡ c → filled width c ≡ Ok n → new ≡ overwritten c old
        → Made width m old new n
    go (accept xs) q e w = let k : length xs / width ≡ n = cc in let h = held_inv (length old) m xs q in
        record {
          numbers = xs;
          is = q;
          made = h.0;
          count = sym k;
          fits = h.1;
          first = rw w (take-append_seam xs (drop (length xs) old));
        }
    go (refuse k j) q e w = let z : ◌≡◌ {A = ℕ} 0 1 = cc in absurd (omega arith)

-- a lent buffer keeps its length
pub buffer_long : (m : Checked (List ℕ)) (old : List ℕ) → length (buffer m old) ≡ length old
buffer_long m old = go (held (length old) m) refl
  where
    go : (c : Checked (List ℕ)) → held (length old) m ≡ c → length (overwritten c old) ≡ length old
    go (accept xs) q = omega (
      arith,
      length-append xs (drop (length xs) old),
      length-drop (length xs) old,
      (held_inv (length old) m xs q).1,
    )
    go (refuse k j) q = refl

-- ---- the answer, told by the count of what was made aside

-- the numbers written, read back
pub take_sets : (l xs : List ℕ) → length xs ≤ length l → take (length xs) (sets l 0 xs) ≡ xs
take_sets l xs h = rw (sets_start l xs h) (take-append_seam xs (drop (length xs) l))

-- a refusal
pub filled_refused : (width : ℕ) (m : Checked (List ℕ)) (number line room : ℕ) (old : List ℕ)
    → tally width 0 m ≡ Err (refusal number line)
    → (tally width 0 m ≡ answer width m room) × (old ≡ buffer m old)
filled_refused width (accept xs) number line room old e = let z : ◌≡◌ {A = ℕ} 0 1 = cc in absurd (omega arith)
filled_refused width (refuse k l) number line room old e = (refl, refl)

module _ (width : ℕ) (m : Checked (List ℕ)) (n : ℕ) (old : List ℕ) where
  -- all was made, n records of it
  pub filled_made : tally width 0 m ≡ Ok n → (is_made m ≡ true) × (n ≡ length (made_numbers m) / width)
  filled_made e = go m e
    where
      go : (m : Checked (List ℕ)) → tally width 0 m ≡ Ok n
          → (is_made m ≡ true) × (n ≡ length (made_numbers m) / width)
      go (accept xs) e = let h : 0 + length xs / width ≡ n = cc in (refl, omega (arith, h))
      go (refuse k l) e = let z : ◌≡◌ {A = ℕ} 0 1 = cc in absurd (omega arith)

  -- no room
  pub filled_short : tally width 0 m ≡ Ok n → length old < length (made_numbers m)
      → (Err (refusal 13 0) ≡ answer width m (length old)) × (old ≡ buffer m old)
  filled_short e l = go m e l
    where
      go : (m : Checked (List ℕ)) → tally width 0 m ≡ Ok n → length old < length (made_numbers m)
          → (Err (refusal 13 0) ≡ answer width m (length old)) × (old ≡ buffer m old)
      go (accept xs) e l = answer_short width xs old l
      go (refuse k l) e h = let z : ◌≡◌ {A = ℕ} 0 1 = cc in absurd (omega arith)

  -- copied from a buffer that holds what was made
  pub filled_done : tally width 0 m ≡ Ok n → length (made_numbers m) ≤ length old → (held new : List ℕ)
      → length (made_numbers m) ≤ length held
      → (is_made m ≡ true → (held' : List ℕ) × (length held ≡ length held') ×
      (held ≡ sets held' 0 (made_numbers m)))
      → new ≡ take (length (made_numbers m)) held ++ drop (length (made_numbers m)) old
      → (Ok n ≡ answer width m (length old)) × (new ≡ buffer m old)
  filled_done e l held new k f w = go m e l k f w
    where
      go : (m : Checked (List ℕ)) → tally width 0 m ≡ Ok n → length (made_numbers m) ≤ length old
          → length (made_numbers m) ≤ length held
          → (is_made m ≡ true → (held' : List ℕ) × (length held ≡ length held') ×
          (held ≡ sets held' 0 (made_numbers m)))
          → new ≡ take (length (made_numbers m)) held ++ drop (length (made_numbers m)) old
          → (Ok n ≡ answer width m (length old)) × (new ≡ buffer m old)
      go (accept xs) e l k f w =
          let h : 0 + length xs / width ≡ n = cc in
          let q : n ≡ length xs / width = omega (arith, h) in
          let b = f refl in
          let t : take (length xs) held ≡ xs = ap (take (length xs)) b.2
          ∙ take_sets b.0 xs (omega (arith, k, b.1)) in
          let a = answer_fits width xs old l in
          (ap Ok q ∙ a.0, w ∙ ap (λ (ys : List ℕ). ys ++ drop (length xs) old) t ∙ a.1)
      go (refuse k l) e h j f w = let z : ◌≡◌ {A = ℕ} 0 1 = cc in absurd (omega arith)
