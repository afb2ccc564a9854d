-- The report of a model and a month: its bytes, its refusals, what the service returns, and how its lines are read
-- back. Assumes nothing.
use mathlib.Core.Path.{◌≡◌, refl, sym, ap, ◌∙◌}
use mathlib.Core.Logic.{◌↔◌, ◌≢◌}
use mathlib.Core.List.{List, [], ◌∷◌, ◌++◌, append_assoc}
use mathlib.Core.Option.{some}
use Prim.Native.Nat.{ℕ, suc, ◌+◌, ◌≤◌}
use native.Mathlib.Omega.{arith}
use lib.ListN.{length, drop}
use lib.Seq.{drop-append_seam, drop-nil}
use Rattle.promises.proofs.prices.TermLines.{taken_is}
use Rattle.language.specs.Limits.{no_line}
use Rattle.language.specs.Decimals.{digits}
use Rattle.language.specs.Results.{Checked, accept, refuse, bind_checked, bind_checked_inv, accept≢refuse}
use Rattle.language.specs.WellFormed.{Each, each_nil, each_cons}
use Rattle.fields.specs.Places.{number_at}
use Rattle.prices.specs.Calendar.{date_refusal}
use Rattle.prices.specs.Terms.{Term, terms_of, first_number}
use Rattle.prices.specs.Reports.{Days, month_days, PriceRun, price_runs, cents_on, run_line, run_lines}
use Rattle.prices.specs.Reports.{days_report, price_report}
use Rattle.language.specs.Filling.{answer, buffer}
use Rattle.promises.specs.Listed.{ListedFilling}
use Rattle.promises.proofs.answers.ListedAnswers.{filling_listed}
use Rattle.promises.proofs.answers.Refusals.{RefusesOnly, answers, refuses_as}
use Rattle.promises.specs.PriceWords.{largest_number, InOrder, run_then, HasPrice}
use Rattle.promises.specs.PriceWords.{ReportOfMonth, ReportRefusal, report_by_text, no_such_month}
use Rattle.promises.specs.PriceWords.{RunWritable, BeginsWithRun, ReadsAs, no_line_left, run_line_then}
use Rattle.promises.proofs.prices.TermLines.{next_forth, first_forth}
use Rattle.promises.proofs.prices.TermsRead.{terms_accepted, terms_refused}
use Rattle.promises.proofs.prices.PricesHighest.{cents_highest}
use Rattle.promises.proofs.prices.PriceRuns.{runs_are}
use Rattle.promises.proofs.prices.MonthDays.{month_is, month_is_refused}

-- A refusal of one thing as that of another.
moved : {A B : Type 0} (i j n k : ℕ) → ◌≡◌ {A = Checked A} (refuse i j) (refuse n k)
    → ◌≡◌ {A = Checked B} (refuse i j) (refuse n k)
moved i j n k e = let a : i ≡ n = cc in let b : j ≡ k = cc in rw (a, b)

module _ (text : List ℕ) (model year month : ℕ) where
  -- Bytes are returned exactly if they are the report of the month.
  pub report_is : (bytes : List ℕ)
      → (price_report text model year month ≡ accept bytes) ↔ ReportOfMonth text model year month bytes
  unfolding days_report bind_checked
  report_is bytes = (forth, back)
    where
      forth : price_report text model year month ≡ accept bytes → ReportOfMonth text model year month bytes
      forth e = bind_checked_inv (terms_of text) _ e λ ts p e.
          bind_checked_inv (month_days year month) _ e λ ds q e.
          record {
            terms = ts;
            days = ds;
            runs = price_runs (cents_on model ts) ds.first ds.count;
            terms_of_text = (terms_accepted text ts).0 p;
            days_of_month = (month_is year month ds).0 q;
            runs_of_days = (runs_are (cents_on model ts) ds.first ds.count _).0 refl;
            written = sym (cc);
          }

      back : ReportOfMonth text model year month bytes → price_report text model year month ≡ accept bytes
      back w = rw (
        (terms_accepted text w.terms).1 w.terms_of_text,
        (month_is year month w.days).1 w.days_of_month,
        (runs_are (cents_on model w.terms) w.days.first w.days.count w.runs).1 w.runs_of_days,
        w.written,
      )

  -- A report is refused exactly as listed.
  pub report_is_refused : (n k : ℕ)
      → (price_report text model year month ≡ refuse n k) ↔ ReportRefusal text year month n k
  unfolding days_report bind_checked
  report_is_refused n k = (forth (terms_of text) refl, back)
    where
      with-days : (ts : List Term) → Checked Days → Checked (List ℕ)
      with-days ts r = bind_checked r λ days.
          accept (run_lines (price_runs (cents_on model ts) days.first days.count))

      by-month : (ts : List Term) → terms_of text ≡ accept ts → (r : Checked Days) → month_days year month ≡ r
          → with-days ts r ≡ refuse n k → ReportRefusal text year month n k
      by-month ts p (accept ds) q e = absurd (accept≢refuse n k (sym e))
      by-month ts p (refuse i j) q e =
          let v = (month_is_refused year month n k).0 (q ∙ moved i j n k e) in
          rw (v.0, v.1) (no_such_month ts ((terms_accepted text ts).0 p) v.2)

      forth : (r : Checked (List Term)) → terms_of text ≡ r
          → bind_checked r (λ ts. with-days ts (month_days year month)) ≡ refuse n k
          → ReportRefusal text year month n k
      forth (accept ts) p e = by-month ts p (month_days year month) refl e
      forth (refuse i j) p e = report_by_text ((terms_refused text n k).0 (p ∙ moved i j n k e))

      back : {n k : ℕ} → ReportRefusal text year month n k → price_report text model year month ≡ refuse n k
      back {n} {k} (report_by_text w) = rw ((terms_refused text n k).1 w)
      back (no_such_month ts w h) = rw (
        (terms_accepted text ts).1 w,
        (month_is_refused year month date_refusal no_line).1 (refl, refl, h),
      )

  report_refuses : RefusesOnly (ReportRefusal text year month) (price_report text model year month)
  report_refuses = go (price_report text model year month) refl
    where
      go : (r : Checked (List ℕ)) → price_report text model year month ≡ r
          → RefusesOnly (ReportRefusal text year month) r
      go (accept bytes) e = answers
      go (refuse n k) e = refuses_as ((report_is_refused n k).0 e)

  -- What the service returns is listed.
  pub report_listed : (old : List ℕ)
      → ListedFilling 1 (ReportRefusal text year month) (price_report text model year month) old
      (answer 1 (price_report text model year month) (length old))
      (buffer (price_report text model year month) old)
  report_listed old = filling_listed 1 report_refuses old

-- ---- lines of runs

-- The line of a run is read as its three numbers.
pub run_read : (r : PriceRun) (rest : List ℕ) → RunWritable r → BeginsWithRun (run_line r ++ rest) r rest
unfolding run_line
run_read r rest h =
    let F : List ℕ = digits r.from in
    let T : List ℕ = 9 ∷ digits r.to in
    let C : List ℕ = 9 ∷ digits r.cents in
    let s : List ℕ = run_line r ++ rest in
    let s₁ : s ≡ F ++ (T ++ (C ++ (10 ∷ rest))) = append_assoc F (T ++ (C ++ (10 ∷ []))) rest
    ∙ ap (λ (x : List ℕ). F ++ x) (append_assoc T (C ++ (10 ∷ [])) rest
    ∙ ap (λ (x : List ℕ). T ++ x) (append_assoc C (10 ∷ []) rest)) in
    let s₂ : s ≡ F ++ T ++ (C ++ (10 ∷ rest)) = s₁ ∙ sym (append_assoc F T (C ++ (10 ∷ rest))) in
    let s₃ : s ≡ F ++ T ++ C ++ (10 ∷ rest) = s₂ ∙ sym (append_assoc (F ++ T) C (10 ∷ rest)) in record {
      after_from = length F;
      after_to = length (F ++ T);
      after_cents = length (F ++ T ++ C);
      from_read = ap first_number s₁
          ∙ first_forth r.from 9 (digits r.to ++ (C ++ (10 ∷ rest))) h.from_to refl;
      to_read = ap (number_at (length F)) s₂
          ∙ next_forth F r.to 9 (digits r.cents ++ (10 ∷ rest)) h.to_to refl;
      cents_read = ap (number_at (length (F ++ T))) s₃
          ∙ next_forth (F ++ T) r.cents 10 rest h.cents_to refl;
      ended = ap (drop (length (F ++ T ++ C))) s₃ ∙ drop-append_seam (F ++ T ++ C) (10 ∷ rest);
    }

-- The numbers of a report's runs are numbers that a line can have.
pub runs_writable : (text : List ℕ) (model year month : ℕ) (bytes : List ℕ)
    → (w : ReportOfMonth text model year month bytes) → Each RunWritable w.runs
runs_writable text model year month bytes w =
    go w.days.first w.runs w.runs_of_days.in_order w.runs_of_days.priced
  where
    end : ℕ
    end = w.days.first + w.days.count

    small : (day c : ℕ) → cents_on model w.terms day ≡ some c → c ≤ largest_number
    small day c e =
        let t = (cents_highest model day w.terms w.terms_of_text.proper c).0 e in
        omega (arith, t.2, (w.terms_of_text.proper.writable t.1.place t.0 t.1.there).cents_to)

    go : (first : ℕ) (rs : List PriceRun) → InOrder end first rs
        → Each (HasPrice (cents_on model w.terms)) rs
        → Each RunWritable rs
    go first [] o h = each_nil
    go first (r ∷ rs) (run_then a b c o) (each_cons p ps) = each_cons {a = r} (record {
      from_to = omega (arith, b, c, w.days_of_month.in_range);
      to_to = omega (arith, c, w.days_of_month.in_range);
      cents_to = small r.from r.cents (p r.from (omega arith) b);
    }) (go (suc r.to) rs o ps)

-- The lines of runs are read back one after another.
lines_read : (rs : List PriceRun) → Each RunWritable rs → ReadsAs (run_lines rs) rs
unfolding run_lines
lines_read [] h = no_line_left
lines_read (r ∷ rs) (each_cons h hs) = run_line_then (run_read r (run_lines rs) h) (lines_read rs hs)

pub report_reads : (text : List ℕ) (model year month : ℕ) (bytes : List ℕ)
    → (w : ReportOfMonth text model year month bytes) → ReadsAs bytes w.runs
report_reads text model year month bytes w =
    rw w.written (lines_read w.runs (runs_writable text model year month bytes w))

-- A text begins with one run, and the lines of runs tell them.
one_reading : {s : List ℕ} {r q : PriceRun} {x y : List ℕ} → BeginsWithRun s r x → BeginsWithRun s q y
    → (r ≡ q) × (x ≡ y)
one_reading {s} {r} {q} {x} {y} a b =
    let from = taken_is (sym a.from_read ∙ b.from_read) in
    let to = taken_is (sym a.to_read ∙ (ap (λ (i : ℕ). number_at i s) from.1 ∙ b.to_read)) in
    let cents = taken_is (sym a.cents_read ∙ (ap (λ (i : ℕ). number_at i s) to.1 ∙ b.cents_read)) in
    let ends : 10 ∷ x ≡ 10 ∷ y = sym a.ended ∙ (ap (λ (i : ℕ). drop i s) cents.1 ∙ b.ended) in
    (rw (from.0, to.0, cents.0), (cc))

not_empty : (r : PriceRun) (rest : List ℕ) → RunWritable r → run_line r ++ rest ≢ []
not_empty r rest h e = let a = run_read r rest h in
    let z = ap length (sym a.ended ∙ (ap (drop a.after_cents) e ∙ drop-nil a.after_cents)) in
    omega (arith, z)

pub runs_told : (rs qs : List PriceRun) → Each RunWritable rs → Each RunWritable qs
    → run_lines rs ≡ run_lines qs
    → rs ≡ qs
unfolding run_lines
runs_told [] [] h k e = refl
runs_told (r ∷ rs) [] (each_cons h hs) k e = absurd (not_empty r (run_lines rs) h e)
runs_told [] (q ∷ qs) h (each_cons k ks) e = absurd (not_empty q (run_lines qs) k (sym e))
runs_told (r ∷ rs) (q ∷ qs) (each_cons h hs) (each_cons k ks) e =
    let a : BeginsWithRun (run_line q ++ run_lines qs) r (run_lines rs) =
    rw e at (run_read r (run_lines rs) h) in
    let w = one_reading a (run_read q (run_lines qs) k) in
    rw (w.0, runs_told rs qs hs ks w.1)
