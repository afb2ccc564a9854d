-- Laws of the first row with a letter, and of the method that Q seeks. Assumes nothing.
use Rattle.language.specs.Limits.{object_width}
use mathlib.Core.Path.{◌≡◌, refl, sym, ap, ◌∙◌, subst}
use mathlib.Core.Bool.{Bool, true, false, cond}
use mathlib.Core.Logic.{⊎_elim}
use mathlib.Core.Option.{Option, none, some}
use mathlib.Core.List.{List}
use Prim.Native.Nat.{ℕ, zero, suc, ◌+◌, ◌-◌, ◌*◌, ◌≤◌, ◌<◌}
use native.Mathlib.Omega.{arith}
use borrow.Author.Tests.{eq-eqb, ne_eqb, eqb-true, eqb-false, leb-true, leb-false, le-leb, lt-leb}
use lib.Dec.{eqb, leb}
use lib.ListN.{length, get_or}
use Rattle.language.specs.Tree.{Class}
use Rattle.language.specs.World.{Method}
use Rattle.language.specs.Program.{world, body_in}
use Rattle.language.specs.ClassTables.{method_number, stored_place}
use Rattle.language.specs.MethodTables.{placed_methods}
use Rattle.language.specs.Lists.{map_option, nth_lt}
use Rattle.language.specs.Encoded.{Encoded}
use Rattle.language.proofs.Methods.{method_found}
use Rattle.language.specs.Evaluation.{call_at}
use Rattle.language.specs.State.{Value as Meaning, null, object}
use Rattle.objects.specs.declared.Tally.{Tally}
use Rattle.objects.specs.Values.{Outcome, outcome, meaning, reached}
use Rattle.objects.specs.declared.Reached.TheVariants.{At}
use Rattle.objects.specs.Values.{bare}
use Rattle.std.specs.Prelude.{Ok, Err}
use Rattle.objects.specs.Holding.{Holding}
use Rattle.objects.specs.Acts.{PreFind, PostFind, NotFound, LetterFrom, MethodsOf, target_at}
use Rattle.objects.specs.Acts.{target_in}
use Rattle.objects.specs.Acts.{allowed_in}
use Rattle.objects.proofs.Values.{NoObject, is_truth, is_past, reached_at, outcome_stuck}
use Rattle.objects.proofs.Values.{outcome_null_pointer, outcome_deep}
use Rattle.objects.proofs.Holding.{tables, body_at}
use Rattle.objects.proofs.Nth.{lt_or}
use Rattle.objects.proofs.Objects.{object_at, heap_at, heap_past}

-- the first row with a letter
pub not_past : {R : List ℕ} {x row found : ℕ} → LetterFrom R x row found → (b : ℕ)
    → ((i : ℕ) → row ≤ i → i < b → get_or R (i * 4) 0 ≡ x → ⊥) → b ≤ found
not_past {found = found} p b f =
    ⊎_elim (λ (h : found < b). absurd (f found p.later h p.letter)) (λ (h : b ≤ found). h)
    (lt_or found b)

pub none_more : (R : List ℕ) (x row b : ℕ) → ((i : ℕ) → row ≤ i → i < b → get_or R (i * 4) 0 ≡ x → ⊥)
    → (get_or R (b * 4) 0 ≡ x → ⊥)
    → (i : ℕ) → row ≤ i → i < b + 1 → get_or R (i * 4) 0 ≡ x → ⊥
none_more R x row b f g i a h e =
    ⊎_elim (λ (l : i < b). f i a l e) (λ (l : b ≤ i). let z : i ≡ b = omega arith in g (rw z at e))
    (lt_or i b)

pub same_letter : {R : List ℕ} {x row a b : ℕ} → LetterFrom R x row a → LetterFrom R x row b → a ≡ b
same_letter {a = a} {b} p q =
    ⊎_elim (λ (h : a < b). absurd (q.between a p.later h p.letter))
    (λ (h : b ≤ a). ⊎_elim (λ (k : b < a). absurd (p.between b q.later k q.letter))
    (λ (k : a ≤ b). omega arith) (lt_or b a)) (lt_or a b)

-- what the table of classes has for method m of object j: 0, or the method's number and 1 more
abbrev pub number_in : List ℕ → List ℕ → ℕ → ℕ → ℕ
number_in T s j m = get_or T (get_or s (j * object_width) 0 * 576 + 256 + m) 0

-- The method of class k under name m, where the table has i for its number.
record Sought (P : List Class) (M : List ℕ) (k m i : ℕ) : Type 0 where
  found : Method
  method : (world P).method k m ≡ some found
  number : found.number ≡ i
  there : i * 4 + 4 ≤ length M
  parameters : get_or M (i * 4 + 2) 0 ≡ length found.parameters

number_none : (o : Option Method) → stored_place (map_option (λ (N : Method). N.number) o) ≡ 0 → o ≡ none
number_none none e = refl
number_none (some N) e = absurd (omega arith)

number_some : (o : Option Method) (r : ℕ) → r ≡ stored_place (map_option (λ (N : Method). N.number) o)
    → (r ≡ 0 → ⊥)
    → (N : Method) × (o ≡ some N) × (N.number ≡ r - 1)
number_some none r e h = absurd (h e)
number_some (some N) r e h = (N, refl, omega arith)

module _ {R E T A M s : List ℕ} {P : List Class} {made : ℕ} (hold : Holding R E T A M s P made) where
  none_sought : (k m : ℕ) → k ≤ length P → m < 256 → get_or T (k * 576 + 256 + m) 0 ≡ 0
      → (world P).method k m ≡ none
  unfolding method_number
  none_sought k m l h z = number_none ((world P).method k m) (sym ((tables hold).methods k m l h) ∙ z)

  sought : (k m : ℕ) → k ≤ length P → m < 256
      → (get_or T (k * 576 + 256 + m) 0 ≡ 0 → ⊥)
      → Sought P M k m (get_or T (k * 576 + 256 + m) 0 - 1)
  unfolding method_number
  sought k m l h z =
      let x = number_some ((world P).method k m) (get_or T (k * 576 + 256 + m) 0) ((tables hold).methods k m l h)
      z in
      let f = method_found P k m x.0 x.1 in
      let t = hold.held.headed.methods in
      let few = nth_lt (placed_methods P) x.0.number f.placed f.there in
      let many = t.parameters x.0.number f.placed f.there ∙ ap length (sym f.parameters) in
      record {
        found = x.0;
        method = x.1;
        number = x.2;
        there = omega (arith, t.long, few, x.2);
        parameters = rw x.2 at many;
      }

module _ {T M s : List ℕ} {m made : ℕ} (p : PreFind T M s m made) (j : ℕ) (h : j < made) where
  -- what a lookup reads
  pub methods_of : MethodsOf T M (get_or s (j * object_width) 0) m
  methods_of = record {
    table = omega (arith, (tables p.holding).long, p.holding.sound.declared j h);
    name = p.name;
    methods = λ i e. omega (arith, e, number-spot (λ z. omega (arith, e)));
  }
    where
      number-spot : (number_in T s j m ≡ 0 → ⊥) → (number_in T s j m - 1) * 4 + 4 ≤ length M
      number-spot z =
          (sought p.holding (get_or s (j * object_width) 0) m (p.holding.sound.declared j h) p.name
          z).there

not_found : {T M s : List ℕ} {v : Meaning} {m given : ℕ} {n : Tally} {calls : ℕ} {o : Outcome} {r : ℕ}
    → outcome r ≡ o
    → ((pre : PreFind T M s m n.made) → NotFound pre.P s v m given n calls o)
    → PostFind T M s v m given n calls (Err r)
not_found e f = record { is = λ pre. rw e (f pre) }

pub find_nothing : {T M s : List ℕ} {v : Meaning} {m given : ℕ} {n : Tally} {calls : ℕ}
    → NoObject n.made v
    → PostFind T M s v m given n calls (Err 17179869184)
unfolding bare
find_nothing is_truth = not_found outcome_stuck (λ pre.
    record {
      small = tt;
      is = λ L vs γ k q. refl;
      fails = λ w q. let z : ◌≡◌ {A = ℕ} 0 1 = cc in omega arith;
    })
find_nothing {s = s} {n = n} (is_past {j} h) = not_found outcome_stuck (λ pre.
    record {
      small = tt;
      is = λ L vs γ k q. rw (heap_past (world pre.P) n.made s j h);
      fails = λ w q. let z : ◌≡◌ {A = ℕ} 0 1 = cc in omega arith;
    })

module _ {T M s : List ℕ} {v : Meaning} {m given : ℕ} {n : Tally} {calls : ℕ} where
  pub find_null : v ≡ null → PostFind T M s v m given n calls (Err 17179869185)
  unfolding bare
  find_null e = not_found outcome_null_pointer (λ pre.
      record {
        small = tt;
        is = λ L vs γ k q. rw e;
        fails = λ w q. let z : ◌≡◌ {A = ℕ} 0 1 = cc in omega arith;
      })

  -- the receiver is object j
  module _ (j : ℕ) (e : v ≡ object j) (h : j < n.made) (l : m < 256) where
    find-missing : number_in T s j m ≡ 0 → PostFind T M s v m given n calls (Err 17179869184)
    unfolding bare
    find-missing z = not_found outcome_stuck (λ pre.
        let q = none_sought pre.holding (get_or s (j * object_width) 0) m (pre.holding.sound.declared j h)
        l z in
        record {
          small = tt;
          is = λ L vs γ k many. rw (e, heap_at (world pre.P) n.made s j h, q);
          fails = λ w q. let z : ◌≡◌ {A = ℕ} 0 1 = cc in omega arith;
        })

    module _ (z : number_in T s j m ≡ 0 → ⊥) where
      -- another number of arguments than the method has parameters
      find-other : (get_or M ((number_in T s j m - 1) * 4 + 2) 0 ≡ given → ⊥)
          → PostFind T M s v m given n calls (Err 17179869184)
      unfolding bare
      find-other t = not_found outcome_stuck (λ pre.
          let y = sought pre.holding (get_or s (j * object_width) 0) m (pre.holding.sound.declared j h) l
          z in
          record {
            small = tt;
            is = λ L vs γ k many.
                let d = ne_eqb (length vs) (length y.found.parameters)
                (λ q. t (y.parameters ∙ (sym q ∙ many))) in
                rw (e, heap_at (world pre.P) n.made s j h, y.method, d);
            fails = λ w q. let z : ◌≡◌ {A = ℕ} 0 1 = cc in omega arith;
          })

      module _ (t : get_or M ((number_in T s j m - 1) * 4 + 2) 0 ≡ given) where
        find-deep : 64 ≤ calls → PostFind T M s v m given n calls (Err 17179869199)
        unfolding bare call_at
        find-deep a = not_found outcome_deep (λ pre.
            let y = sought pre.holding (get_or s (j * object_width) 0) m (pre.holding.sound.declared j h)
            l z in
            let none_left : 64 - calls ≡ 0 = omega arith in
            record {
              small = (omega arith, omega arith);
              is = λ L vs γ k many.
                  let d = eq-eqb (length vs) (length y.found.parameters)
                  (many ∙ (sym t ∙ y.parameters)) in
                  rw (e, heap_at (world pre.P) n.made s j h, y.method, d, none_left);
              fails = λ w q. let z : ◌≡◌ {A = ℕ} 0 1 = cc in omega arith;
            })

        find-found : calls < 64
            → PostFind T M s v m given n calls (Ok (get_or M ((number_in T s j m - 1) * 4 + 3) 0))
        find-found a = record {
          is = λ pre.
              let y = sought pre.holding (get_or s (j * object_width) 0) m
              (pre.holding.sound.declared j h) l z in
              let b = body_at pre.holding (get_or s (j * object_width) 0) m y.found y.method in
              record {
                j = j;
                o = object_at (world pre.P) s (j * object_width);
                M = y.found;
                receiver = e;
                known = λ γ k. heap_at (world pre.P) n.made s j h;
                method = y.method;
                parameters = sym t ∙ y.parameters;
                encoded = subst (λ (i : ℕ). Encoded pre.R pre.E (body_in pre.P y.found.number)
                    (get_or M (i * 4 + 3) 0)) y.number b.0;
                in_form = rw (sym t ∙ y.parameters) b.1;
                typed = b.2;
                allowed = a;
              };
        }

    -- what the tables tell of the call
    pub find_in : PostFind T M s v m given n calls (target_in T M (get_or s (j * object_width) 0) m given calls)
    unfolding target_in
    find_in = go (number_in T s j m) refl
      where
        allowed : (i : ℕ) → number_in T s j m ≡ suc i → (a b : Bool)
            → eqb (get_or M (i * 4 + 2) 0) given ≡ a → leb 64 calls ≡ b
            → PostFind T M s v m given n calls
            (cond a (cond b (Err 17179869199) (Ok (get_or M (i * 4 + 3) 0))) (Err 17179869184))
        allowed i q true true x y =
            let o : number_in T s j m - 1 ≡ i = omega arith in
            find-deep (λ z. omega arith) (rw o (eqb-true (get_or M (i * 4 + 2) 0) given x))
            (leb-true 64 calls y)
        allowed i q true false x y =
            let o : number_in T s j m - 1 ≡ i = omega arith in
            rw o at (find-found (λ z. omega arith) (rw o (eqb-true (get_or M (i * 4 + 2) 0) given x))
            (leb-false 64 calls y))
        allowed i q false b x y =
            let o : number_in T s j m - 1 ≡ i = omega arith in
            find-other (λ z. omega arith) (rw o (λ z. eqb-false (get_or M (i * 4 + 2) 0) given x z))

        go : (k : ℕ) → number_in T s j m ≡ k → PostFind T M s v m given n calls (target_at M k given calls)
        go zero q = find-missing q
        go (suc i) q = allowed i q (eqb (get_or M (i * 4 + 2) 0) given) (leb 64 calls) refl refl

pub find_at : {T M s : List ℕ} (w : ℕ) {o m given : ℕ} {n : Tally} {calls : ℕ}
    → At o ≡ reached n.made (meaning w) → m < 256
    → PostFind T M s (meaning w) m given n calls (target_in T M (get_or s o 0) m given calls)
find_at w {o} {n = n} q l = let x = reached_at n.made (meaning w) o q in
    rw x.3 (find_in x.0 x.1 x.2 l)

pub find_room : {T M s : List ℕ} {m made o : ℕ} (w : ℕ) → PreFind T M s m made
    → At o ≡ reached made (meaning w) → (o + object_width ≤ length s) × MethodsOf T M (get_or s o 0) m
find_room {made = made} {o} w p q = let x = reached_at made (meaning w) o q in
    rw x.3 (omega (arith, p.holding.sound.stored, x.2), methods_of p x.0 x.2)

-- what the tables tell, by the tests that are made: r is what the table of classes has for the method
module _ (T M : List ℕ) (c m given calls : ℕ) {r : ℕ} (e : r ≡ get_or T (c * 576 + (256 + m)) 0) where
  number_read : r ≡ get_or T (c * 576 + 256 + m) 0
  number_read = let z : c * 576 + (256 + m) ≡ c * 576 + 256 + m = omega arith in rw z at e

  by_number : target_in T M c m given calls ≡ target_at M r given calls
  unfolding target_in
  by_number = rw number_read

  pub target_none : r ≡ 0 → Err 17179869184 ≡ target_in T M c m given calls
  target_none z = sym (by_number ∙ ap (λ (n : ℕ). target_at M n given calls) z)

  module _ (z : r ≡ 0 → ⊥) where
    number_suc : r ≡ suc (r - 1)
    number_suc = omega (arith, z)

    pub method_within : MethodsOf T M c m → (r - 1) * 4 + 4 ≤ length M
    method_within h = h.methods (r - 1) (sym number_read ∙ number_suc)

    by_suc : target_in T M c m given calls ≡ allowed_in M (r - 1) given calls
    by_suc = by_number ∙ ap (λ (n : ℕ). target_at M n given calls) number_suc

    pub target_other : (get_or M ((r - 1) * 4 + 2) 0 ≡ given → ⊥) → Err 17179869184 ≡ target_in T M c m given calls
    target_other h = sym (by_suc ∙ rw (ne_eqb (get_or M ((r - 1) * 4 + 2) 0) given h))

    module _ (q : get_or M ((r - 1) * 4 + 2) 0 ≡ given) where
      pub target_deep : 64 ≤ calls → Err 17179869199 ≡ target_in T M c m given calls
      target_deep h = sym (by_suc ∙ rw (eq-eqb (get_or M ((r - 1) * 4 + 2) 0) given q, le-leb 64 calls h))

      pub target_body : calls < 64 → Ok (get_or M ((r - 1) * 4 + 3) 0) ≡ target_in T M c m given calls
      target_body h = sym (by_suc ∙ rw (eq-eqb (get_or M ((r - 1) * 4 + 2) 0) given q, lt-leb 64 calls h))
