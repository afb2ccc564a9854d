-- Laws of passes: one part after another, and a part closed by the entry of its first row. Assumes nothing.
use mathlib.Core.Path.{◌≡◌, refl, sym, ap, ◌∙◌}
use mathlib.Core.List.{List, [], ◌∷◌, ◌++◌}
use Prim.Native.Nat.{ℕ, suc, ◌+◌, ◌*◌, ◌≤◌, ◌<◌}
use native.Mathlib.Numerals.{add-one}
use native.Mathlib.Omega.{arith}
use lib.ListN.{length, set}
use lib.Seq.{sets, set_comm}
use Rattle.language.specs.Results.{Checked, accept, refuse}
use Rattle.language.specs.Rows.{Row}
use Rattle.language.specs.Form.{Read, done, after}
use Rattle.language.proofs.Filling.{sets_then}
use Rattle.std.specs.Prelude.{Ok, Err}
use Rattle.language.specs.declared.Refusal.{Refusal}
use Rattle.language.specs.Refusals.{refusal}
use Rattle.parsing.specs.declared.limits.Limits.{Limits}
use Rattle.parsing.specs.Places.{rows_from}
use Rattle.parsing.specs.Passes.{Step, Tells, Told}

-- an entry before what is written
set_sets : (l : List ℕ) (at i q : ℕ) (xs : List ℕ) → at < i → set (sets l i xs) at q ≡ sets (set l at q) i xs
set_sets l at i q [] h = refl
set_sets l at i q (x ∷ xs) h =
    set_sets (set l i x) at (suc i) q xs (omega arith) ∙ rw (set_comm l i at x q (λ e. omega arith))

module _ {L : Limits} {A : Type 0} {lines : A → ℕ} {ends : ℕ → A → List ℕ} {R E : List ℕ} {at : ℕ} where
  -- a pass that ended: what it read, where it ended, what the table holds
  pub told_end : {C : Type 0} (x : Checked (Read A)) {s : Step} {q : ℕ} {E' : List ℕ}
      → Told L lines ends R E at x s E' → s ≡ Ok q
      → ((a : A) → x ≡ done a (rows_from R q) → q ≡ at + lines a → q ≤ L.rows → q * 4 ≤ length R
      → E' ≡ sets E at (ends at a) → C) → C
  unfolding Tells
  told_end (refuse n l) t e k = let z = t.it in absurd cc
  told_end (accept x) {s} {q} t e k =
      let y = t.it.0.end in
      let p : q ≡ at + lines x.tree = cc in
      k x.tree (rw p (ap (λ (rs : List Row). done x.tree rs) t.it.0.rest_is)) p
      (omega (arith, p, t.it.0.within)) (omega (arith, p, t.it.0.inside)) t.it.1

  pub told_failed : (x : Checked (Read A)) {s : Step} {r : Refusal} {E' : List ℕ}
      → Told L lines ends R E at x s E' → s ≡ Err r → x ≡ refuse r.number r.line
  unfolding Tells
  told_failed (refuse m k) {s} {r} t e =
      let z = t.it in
      let p : refusal m k ≡ r = cc in
      ap (λ (r : Refusal). refuse r.number r.line) p
  told_failed (accept x) t e = let z = t.it.0.end in absurd cc

  -- a refusal
  pub told_refuse : (n l : ℕ) {E' : List ℕ} → Told L lines ends R E at (refuse n l) (Err (refusal n l)) E'
  unfolding Tells
  told_refuse n l = record { it = refl }

  pub told_as : {x y : Checked (Read A)} {s : Step} {E' : List ℕ} → y ≡ x → Told L lines ends R E at x s E'
      → Told L lines ends R E at y s E'
  told_as e t = rw e t

  -- nothing read
  pub told_nothing : (a : A) → lines a ≡ 0 → ends at a ≡ [] → at ≤ L.rows → at * 4 ≤ length R
      → Told L lines ends R E at (done a (rows_from R at)) (Ok at) E
  unfolding Tells
  told_nothing a z e w i =
      let p : at + lines a ≡ at = omega (arith, z) in
      record { it = (record { end = rw p; rest_is = rw p; within = rw p w; inside = rw p i }, rw e) }

  -- one row read
  pub told_one : (a : A) → lines a ≡ 1 → ends at a ≡ (at + 1) ∷ [] → at + 1 ≤ L.rows
      → (at + 1) * 4 ≤ length R
      → Told L lines ends R E at (done a (rows_from R (at + 1))) (Ok (at + 1)) (set E at (at + 1))
  unfolding Tells
  told_one a z e w i =
      record { it = (record { end = rw z; rest_is = rw z; within = rw z w; inside = rw z i }, rw e) }

module _ {L : Limits} {A B : Type 0} {sA : A → ℕ} {eA : ℕ → A → List ℕ} {sB : B → ℕ} {eB : ℕ → B → List ℕ}
    {R E : List ℕ} {at : ℕ} where
  pub told_stop : {p : ℕ} {E₀ E₁ E₂ : List ℕ} (x : Checked (Read A)) (k : A → List Row → Checked (Read B))
      {s : Step} {r : Refusal} → Told L sA eA R E₀ p x s E₁ → s ≡ Err r
      → Told L sB eB R E at (after x k) (Err r) E₂
  unfolding Tells after
  told_stop (refuse m j) k t e = record { it = sym e ∙ t.it }
  told_stop (accept x) k t e = let z = t.it.0.end in absurd cc

  -- a part after a first one, whose entries are `first`
  pub told_after : {E₁ E' : List ℕ} {q : ℕ} {s : Step} (first : List ℕ) (f : A → B) (x : Checked (Read A))
      → q ≡ at + length first → E₁ ≡ sets E at first
      → ((a : A) → sB (f a) ≡ length first + sA a) → ((a : A) → eB at (f a) ≡ first ++ eA q a)
      → Told L sA eA R E₁ q x s E' → Told L sB eB R E at (after x (λ a rs. done (f a) rs)) s E'
  unfolding Tells after
  told_after first f (refuse n l) p w m g t = record { it = t.it }
  told_after {E₁} {E'} {q} {s} first f (accept x) p w m g t =
      let e : at + sB (f x.tree) ≡ q + sA x.tree = omega (arith, p, m x.tree) in
      record {
        it = (
          record {
            end = rw e t.it.0.end;
            rest_is = rw e t.it.0.rest_is;
            within = rw e t.it.0.within;
            inside = rw e t.it.0.inside;
          },
          t.it.1 ∙ rw (w, g x.tree) (sets_then E at q first (eA q x.tree) p),
        );
      }

  -- a part whose first row is closed last: its entries are its end, those of what stands first in it, and the
  -- rest
  pub told_close : {E₁ E₂ : List ℕ} {p q : ℕ} {s : Step} (first : List ℕ) (f : A → B) (x : Checked (Read A))
      → p ≡ at + 1 + length first → E₁ ≡ sets E (at + 1) first
      → ((a : A) (rs : List Row) → x ≡ done a rs → sB (f a) ≡ 1 + length first + sA a)
      → ((a : A) (rs : List Row) → x ≡ done a rs
      → eB at (f a) ≡ (at + (1 + length first + sA a)) ∷ (first ++ eA p a))
      → Told L sA eA R E₁ p x s E₂ → s ≡ Ok q
      → Told L sB eB R E at (after x (λ a rs. done (f a) rs)) (Ok q) (set E₂ at q)
  unfolding Tells after
  told_close first f (refuse n l) h w m g t e = let z = t.it in absurd cc
  told_close {E₁} {E₂} {p} {q} {s} first f (accept x) h w m g t z =
      let a = x.tree in
      let y = t.it.0.end in
      let o : q ≡ p + sA a = cc in
      let e : at + sB (f a) ≡ p + sA a = omega (arith, h, m a x.rest refl) in
      let v : at + (1 + length first + sA a) ≡ q = omega (arith, h, o) in
      record {
        it = (
          record {
            end = rw (e, o);
            rest_is = rw e t.it.0.rest_is;
            within = rw e t.it.0.within;
            inside = rw e t.it.0.inside;
          },
          rw (
            t.it.1,
            w,
            g a x.rest refl,
            v,
            sets_then E (at + 1) p first (eA p a) h,
            set_sets E at (at + 1) q (first ++ eA p a) (omega arith),
            add-one at,
          ),
        );
      }
