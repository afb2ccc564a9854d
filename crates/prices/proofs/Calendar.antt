-- The day of a date: a day in range is the day of its date, and a date has a day exactly if it is in the calendar,
-- not before the first date and not after the last. Assumes nothing.
use mathlib.Core.Path.{◌≡◌, refl, sym, ap, ◌∙◌}
use mathlib.Core.Bool.{Bool, true, false}
use mathlib.Core.Logic.{◌↔◌, ◌≢◌}
use Prim.Native.Nat.{ℕ, zero, suc, ◌+◌, ◌-◌, ◌≤◌, ◌<◌}
use native.Mathlib.Omega.{arith}
use borrow.Author.Tests.{ltb-true, ltb-false, eqb-true, eq-eqb}
use lib.Dec.{eqb, ltb}
use Rattle.language.specs.Limits.{no_line}
use Rattle.language.specs.Lists.{choice}
use Rattle.language.specs.Results.{Checked, accept, refuse, accept≢refuse, accept_injective}
use Rattle.language.proofs.Booleans.{false≢, and_inv}
use Rattle.prices.specs.Calendar.{Date, date, date_refusal, last_day, first_date, same_date}
use Rattle.prices.specs.Calendar.{is_leap, days_in, next, date_of, day_from, day_of}
use Rattle.prices.specs.Dates.{InCalendar, by_year, HasNoDay, InRange}
use Rattle.prices.specs.Numbering.{first_year, year_start, month_start, day_number}
use Rattle.prices.proofs.Numbering.{date_in_calendar, date_from_2000, number_of_first, number_of_date}
use Rattle.prices.proofs.Numbering.{years_mono}
use Rattle.prices.proofs.DateOrder.{DatesCompared, earlier, equal, later, dates_compared}
use Rattle.prices.proofs.DateOrder.{same_fields, number_in_year, number_rises, date_of_number, one_day}

-- The test on dates is passed by the same dates alone.
same_is : (a b : Date) → same_date a b ≡ true → a ≡ b
same_is a b e =
    let h = and_inv (eqb a.year b.year) _ e in
    let k = and_inv (eqb a.month b.month) _ h.1 in
    same_fields (eqb-true _ _ h.0) (eqb-true _ _ k.0) (eqb-true _ _ k.1)

is_same : (a : Date) → same_date a a ≡ true
is_same a = rw (eq-eqb a.year _ refl, eq-eqb a.month _ refl, eq-eqb a.day _ refl)

-- How the search for a date ends over the `left` days from n on.
data Ends (left n : ℕ) (d : Date) (r : Checked ℕ) : Type 0 where
  found : (m : ℕ) → n ≤ m → m < n + left → date_of m ≡ d → r ≡ accept m → Ends left n d r
  missing : ((m : ℕ) → n ≤ m → m < n + left → date_of m ≢ d) → r ≡ refuse date_refusal no_line
      → Ends left n d r

-- The next date of a day's is that of the next day.
next_date : (n : ℕ) (here : Date) → here ≡ date_of n → next here ≡ date_of (suc n)
unfolding date_of
next_date n here e = ap next e

-- A date that is not that of day n and not that of a later day is not that of a day from n on.
none_from : (left n : ℕ) (here d : Date) → here ≡ date_of n → same_date here d ≡ false
    → ((m : ℕ) → suc n ≤ m → m < suc n + left → date_of m ≢ d)
    → (m : ℕ) → n ≤ m → m < n + suc left → date_of m ≢ d
none_from left n here d e f none m l k q = go (ltb n m) refl
  where
    go : (t : Bool) → ltb n m ≡ t → ⊥
    go true h = none m (ltb-true n m h) (omega arith) q
    go false h = let i : n ≡ m = omega (arith, ltb-false n m h) in
        let j : here ≡ d = e ∙ ap date_of i ∙ q in false≢ (sym f ∙ (rw j (is_same d)))

-- The search ends at a day with the date; or no day has it.
day_from_ends : (left n : ℕ) (here d : Date) → here ≡ date_of n → Ends left n d (day_from left n here d)
unfolding day_from
day_from_ends zero n here d e = missing (λ m l k. absurd (omega arith)) refl
day_from_ends (suc left) n here d e =
    go (same_date here d) refl (day_from_ends left (suc n) (next here) d (next_date n here e))
  where
    go : (t : Bool) → same_date here d ≡ t → Ends left (suc n) d (day_from left (suc n) (next here) d)
        → Ends (suc left) n d (choice t (λ _. accept n) (λ _. day_from left (suc n) (next here) d))
    go true f r = found n (omega arith) (omega arith) (sym e ∙ same_is here d f) refl
    go false f (found m l k q a) = found m (omega arith) (omega arith) q a
    go false f (missing none a) = missing (none_from left n here d e f none) a

first_is : first_date ≡ date_of 0
unfolding date_of
first_is = refl

-- So ends the search in the whole range.
day_of_ends : (d : Date) → Ends (suc last_day) 0 d (day_of d)
unfolding day_of
day_of_ends d = day_from_ends (suc last_day) 0 first_date d first_is

-- A date that no day in range has is refused.
pub no_day : (d : Date) → ((n : ℕ) → n ≤ last_day → date_of n ≢ d) → day_of d ≡ refuse date_refusal no_line
no_day d none = go (day_of_ends d)
  where
    go : Ends (suc last_day) 0 d (day_of d) → day_of d ≡ refuse date_refusal no_line
    go (found m l k q a) = absurd (none m (omega arith) q)
    go (missing f a) = a

-- The day of a day's date is the day.
pub day_of_date_of : (n : ℕ) → n ≤ last_day → day_of (date_of n) ≡ accept n
day_of_date_of n h = go (day_of_ends (date_of n))
  where
    go : Ends (suc last_day) 0 (date_of n) (day_of (date_of n)) → day_of (date_of n) ≡ accept n
    go (found m l k q a) = a ∙ ap accept (one_day m n q)
    go (missing none a) = absurd (none n (omega arith) (omega arith) refl)

-- The day of a date is in range, and has the date.
pub date_of_day_of : (d : Date) (n : ℕ) → day_of d ≡ accept n → (n ≤ last_day) × (date_of n ≡ d)
date_of_day_of d n e = go (day_of_ends d)
  where
    go : Ends (suc last_day) 0 d (day_of d) → (n ≤ last_day) × (date_of n ≡ d)
    go (found m l k q a) = let i : m ≡ n = accept_injective (sym a ∙ e) in
        (omega arith, ap date_of (sym i) ∙ q)
    go (missing none a) = absurd (accept≢refuse _ _ (sym a ∙ e))

-- A date is refused exactly if no day in range has it, always by number 24 and no line.
pub day_refused : (d : Date) (number line : ℕ) → (day_of d ≡ refuse number line) ↔ HasNoDay d number line
day_refused d number line = (why, is-so)
  where
    why : day_of d ≡ refuse number line → HasNoDay d number line
    why e = go (day_of_ends d)
      where
        go : Ends (suc last_day) 0 d (day_of d) → HasNoDay d number line
        go (found m l k q a) = absurd (accept≢refuse _ _ (sym e ∙ a))
        go (missing none a) = record {
          number_is = cc;
          line_is = cc;
          none_has = λ n l. none n (omega arith) (omega arith);
        }

    is-so : HasNoDay d number line → day_of d ≡ refuse number line
    is-so h = rw (h.number_is, h.line_is) (no_day d h.none_has)

-- A calendar date from 2000 on whose number is in range has its number as day.
pub day_by_number : (d : Date) → InCalendar d → first_year ≤ d.year → day_number d ≤ last_day
    → day_of d ≡ accept (day_number d)
day_by_number d h from l = ap day_of (sym (date_of_number d h from)) ∙ day_of_date_of (day_number d) l

-- The day of a date is its number.
pub number_of_day : (d : Date) (n : ℕ) → day_of d ≡ accept n
    → InCalendar d × (first_year ≤ d.year) × (n ≡ day_number d)
number_of_day d n e = let h = (date_of_day_of d n e).1 in (
  rw h at (date_in_calendar n),
  rw h at (date_from_2000 n),
  sym (number_of_date n) ∙ ap day_number h,
)

-- A date is refused that is not in the calendar.
pub not_in_calendar : (d : Date) → (InCalendar d → ⊥) → day_of d ≡ refuse date_refusal no_line
not_in_calendar d h = no_day d λ n l e. h (rw e at (date_in_calendar n))

-- A date is refused that is before 2000.
pub year_before : (d : Date) → d.year < first_year → day_of d ≡ refuse date_refusal no_line
year_before d h = no_day d λ n l e. omega (arith, h, rw e at (date_from_2000 n))

-- A date is refused that has a number out of range.
pub number_past : (d : Date) → last_day < day_number d → day_of d ≡ refuse date_refusal no_line
number_past d h = no_day d λ n l e. omega (arith, h, l, sym (number_of_date n) ∙ ap day_number e)

-- The 180 years from 2000 on have more days than the range.
pub years_180 : year_start 180 ≡ 65744
unfolding year_start is_leap
years_180 = refl

-- A date is refused that is after 2179.
pub year_past : (d : Date) → 2179 < d.year → day_of d ≡ refuse date_refusal no_line
year_past d h = no_day d λ n l e.
    let k = rw e at (number_in_year (date_of n) (date_in_calendar n) (date_from_2000 n)).0 in
    let i : n ≡ day_number d = sym (number_of_date n) ∙ ap day_number e in
    omega (arith, h, l, k, i, years_180, years_mono 180 (d.year - first_year) (omega (arith, h)))

-- The date of the last day. It is in the calendar, and its number is the last day.
abbrev last_date : Date
last_date = date 2179 6 6

number_of_last : day_number last_date ≡ last_day
unfolding day_number year_start month_start is_leap days_in
number_of_last = refl

last_in_calendar : InCalendar last_date
unfolding days_in
last_in_calendar =
    record { month_from = omega arith; month_to = omega arith; day_from = omega arith; day_to = omega arith }

-- The last day is 2179-06-06.
pub date_of_last : date_of last_day ≡ last_date
date_of_last = ap date_of (sym number_of_last) ∙ date_of_number last_date last_in_calendar (omega arith)

-- A date has a day exactly if it is in the calendar, not before 2000-01-01 and not after 2179-06-06.
pub range_of_dates : (d : Date) → ((n : ℕ) × (day_of d ≡ accept n)) ↔ InRange d
range_of_dates d = (λ p. in_range p.0 p.1, has-day)
  where
    in_range : (n : ℕ) → day_of d ≡ accept n → InRange d
    in_range n e =
        let h = number_of_day d n e in let l = (date_of_day_of d n e).0 in
        record {
          in_calendar = h.0;
          not_before = λ k. omega (
            arith,
            number_of_first,
            number_rises d first_date h.0 h.1 (rw (← first_is) at (date_in_calendar 0)) (omega arith) k,
          );
          not_after = λ k. omega (
            arith,
            l,
            h.2,
            number_of_last,
            number_rises last_date d last_in_calendar (omega arith) h.0 h.1 k,
          );
        }

    from_first : InRange d → (t : Bool) → ltb d.year first_year ≡ t → first_year ≤ d.year
    from_first h true e = absurd (h.not_before (by_year (ltb-true _ _ e)))
    from_first h false e = ltb-false _ _ e

    to_last : InRange d → first_year ≤ d.year → DatesCompared d last_date → day_number d ≤ last_day
    to_last h from (earlier l) = omega (
      arith,
      number_of_last,
      number_rises d last_date h.in_calendar from last_in_calendar (omega arith) l,
    )
    to_last h from (equal e) = omega (arith, number_of_last, ap day_number e)
    to_last h from (later l) = absurd (h.not_after l)

    has-day : InRange d → (n : ℕ) × (day_of d ≡ accept n)
    has-day h = let from = from_first h _ refl in
        (day_number d, day_by_number d h.in_calendar from (to_last h from (dates_compared d last_date)))
