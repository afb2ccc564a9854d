-- Laws of methods by number: where they stand in order, what a class declares, and the tables while they are filled.
-- Assumes nothing.
use mathlib.Core.Path.{◌≡◌, refl, sym, ap, ◌∙◌}
use mathlib.Core.Bool.{Bool, true, false}
use mathlib.Core.Option.{Option, none, some}
use mathlib.Core.List.{List, [], ◌∷◌, ◌++◌}
use mathlib.Core.Logic.{⊎_elim}
use Prim.Native.Nat.{ℕ, zero, suc, ◌+◌, ◌-◌, ◌*◌, ◌≤◌, ◌<◌}
use native.Mathlib.Omega.{arith}
use lib.Dec.{eqb}
use lib.ListN.{length, get_or, set, take, length-set, length-append}
use lib.Seq.{get_or-set_same, get_or-set_other, take-length, sets, length-sets}
use Rattle.language.specs.Lists.{nth, given, choice, map_option, Never, inj, nth_lt, nth_append}
use Rattle.language.specs.Tree.{Declaration, Class, heading_lines, class_lines, classes_lines}
use Rattle.language.specs.World.{Method}
use Rattle.language.specs.Effects.{effect_of_all}
use Rattle.language.specs.Program.{declared, declared_place, methods_of, class_at, number_at, method_of}
use Rattle.language.specs.Program.{effect_in}
use Rattle.language.specs.ClassTables.{class_row}
use Rattle.language.specs.MethodTables.{PlacedMethod, placed_in, placed_from, placed_methods, MethodTables}
use Rattle.language.specs.Layout.{methods_from_row, EffectsAt}
use Rattle.language.proofs.Classes.{class_count}
use Rattle.language.proofs.Lines.{less_or_same}
use Rattle.language.proofs.Methods.{placed_long}
use Rattle.language.proofs.Worlds.{declared_there, nth_after, number_is}
use Rattle.layout.specs.Found.{MethodHere, method_here}
use Rattle.members.specs.Numbers.{first_number, placed, own_number, Numbered}
use Rattle.members.specs.Ready.{ClassLines, NumberReady}

-- ---- how many methods come before a class

-- the methods of one class more
methods_next : (P : List Class) (i : ℕ) (c : Class) → nth P i ≡ some c
    → length (methods_of (take (suc i) P)) ≡ length (methods_of (take i P)) + length c.methods
unfolding nth methods_of
methods_next [] i c e = absurd (Never e)
methods_next (x ∷ P) zero c e =
    omega (arith, length-append x.methods [], ap (λ (y : Class). length y.methods) (inj e))
methods_next (x ∷ P) (suc i) c e = omega (
  arith,
  length-append x.methods (methods_of (take (suc i) P)),
  length-append x.methods (methods_of (take i P)),
  methods_next P i c e,
)

-- they are no fewer before a later class
methods_more : (P : List Class) (i j : ℕ) → i ≤ j
    → length (methods_of (take i P)) ≤ length (methods_of (take j P))
unfolding methods_of
methods_more P zero j l = omega arith
methods_more P (suc i) zero l = absurd (omega (arith, l))
methods_more [] (suc i) (suc j) l = omega arith
methods_more (x ∷ P) (suc i) (suc j) l = omega (
  arith,
  length-append x.methods (methods_of (take i P)),
  length-append x.methods (methods_of (take j P)),
  methods_more P i j (omega (arith, l)),
)

module _ (P : List Class) where
  pub first_next : (k : ℕ) (c : Class) → class_at P k ≡ some c
      → first_number P (k + 1) ≡ first_number P k + length c.methods
  unfolding class_at first_number
  first_next zero c e = absurd (Never e)
  first_next (suc i) c e =
      let a : suc i + 1 - 1 ≡ suc i = omega arith in
      let b : suc i - 1 ≡ i = omega arith in
      rw (a, b) (methods_next P i c e)

  pub first_after : (j k : ℕ) (c : Class) → class_at P j ≡ some c → j < k
      → first_number P j + length c.methods ≤ first_number P k
  unfolding first_number
  first_after j k c e l =
      omega (arith, first_next j c e, methods_more P (j + 1 - 1) (k - 1) (omega (arith, l)))

-- ---- where methods stand in order

placed_of : (k r : ℕ) (P : List Class) (i j : ℕ) (c : Class) (x : PlacedMethod) → nth P i ≡ some c
    → nth (placed_in (k + i) (methods_from_row (r + classes_lines (take i P)) c) c.methods) j ≡ some x
    → nth (placed_from k r P) (length (methods_of (take i P)) + j) ≡ some x
unfolding nth placed_from methods_of classes_lines
placed_of k r [] i j c x e f = absurd (Never e)
placed_of k r (y ∷ P) zero j c x e f =
    let h : y ≡ c = inj e in
    let a : k + 0 ≡ k = omega arith in
    let b : r + 0 ≡ r = omega arith in
    let q : 0 + j ≡ j = omega arith in
    let f' : nth (placed_in k (methods_from_row r y) y.methods) j ≡ some x = rw (a, b, ← h) at f in
    rw q (nth_append (placed_in k (methods_from_row r y) y.methods) _ j x f')
placed_of k r (y ∷ P) (suc i) j c x e f =
    let here = placed_in k (methods_from_row r y) y.methods in
    let n = length (methods_of (take i P)) in
    let a : k + suc i ≡ suc k + i = omega arith in
    let b : r + (class_lines y + classes_lines (take i P)) ≡ r + class_lines y + classes_lines (take i P) =
    omega arith in
    let q : length (y.methods ++ methods_of (take i P)) + j ≡ length here + (n + j) =
    omega (
      arith,
      length-append y.methods (methods_of (take i P)),
      placed_long k (methods_from_row r y) y.methods,
    ) in
    rw (q, nth_after here (placed_from (suc k) (r + class_lines y) P) (n + j))
    (placed_of (suc k) (r + class_lines y) P i j c x e (rw (a, b) at f))

placed_count : (k r : ℕ) (P : List Class) → length (placed_from k r P) ≡ length (methods_of P)
unfolding placed_from methods_of
placed_count k r [] = refl
placed_count k r (c ∷ P) = omega (
  arith,
  length-append (placed_in k (methods_from_row r c) c.methods) (placed_from (suc k) (r + class_lines c) P),
  length-append c.methods (methods_of P),
  placed_long k (methods_from_row r c) c.methods,
  placed_count (suc k) (r + class_lines c) P,
)

module _ (P : List Class) where
  -- the methods of class k have the numbers from its first on
  pub class_placed : (k j : ℕ) (c : Class) (x : PlacedMethod) → class_at P k ≡ some c
      → nth (placed_in k (methods_from_row (class_row P k) c) c.methods) j ≡ some x
      → nth (placed_methods P) (first_number P k + j) ≡ some x
  unfolding class_at class_row first_number placed_methods
  class_placed zero j c x e f = absurd (Never e)
  class_placed (suc i) j c x e f =
      let a : suc i ≡ 1 + i = omega arith in
      let b : suc i - 1 ≡ i = omega arith in
      let z : classes_lines (take i P) ≡ 0 + classes_lines (take i P) = omega arith in
      rw b (placed_of 1 0 P i j c x e (rw (← a, ← z) (rw b at f)))

  -- all methods come before the class after the last
  pub all_placed : first_number P (length P + 1) ≡ length (placed_methods P)
  unfolding first_number placed_methods
  all_placed = let z : length P + 1 - 1 ≡ length P = omega arith in
      rw (z, take-length P) (sym (placed_count 1 0 P))

  -- so those of a class are among them
  pub first_few : (k : ℕ) (c : Class) → class_at P k ≡ some c
      → first_number P k + length c.methods ≤ length (placed_methods P)
  first_few k c e = omega (
    arith,
    first_after P k (length P + 1) c e (omega (arith, (class_count P k c e).1)),
    all_placed,
  )

-- ---- what a class declares

-- a declaration found under a name: its number, and that it is one of the class's
pub record OwnNumber (P : List Class) (k m : ℕ) (c : Class) (d : Declaration) : Type 0 where
  pub place : ℕ
  pub is : declared_place c.methods m ≡ some place
  pub number_is : number_at P k d.name ≡ first_number P k + place
  pub in_class : place < length c.methods

pub own_numbered : (P : List Class) (k m : ℕ) (c : Class) (d : Declaration) → class_at P k ≡ some c
    → declared c.methods m ≡ some d → OwnNumber P k m c d
unfolding class_at first_number
own_numbered P zero m c d e f = absurd (Never e)
own_numbered P (suc i) m c d e f =
    let y = declared_there c.methods m d f in
    let b : i ≡ suc i - 1 = omega arith in
    record {
      place = y.place;
      is = y.is;
      number_is = ap (number_at P (suc i)) y.name ∙ (number_is P i m c y.place e y.is
          ∙ ap (λ (n : ℕ). length (methods_of (take n P)) + y.place) b);
      in_class = nth_lt c.methods y.place d y.there;
    }

no_place : (ds : List Declaration) (m : ℕ) → declared ds m ≡ none → declared_place ds m ≡ none
unfolding declared declared_place
no_place [] m e = refl
no_place (d ∷ ds) m e = go (eqb d.name m) e (λ h. no_place ds m h)
  where
    go : (b : Bool) → choice b (λ _. some d) (λ _. declared ds m) ≡ none
        → (declared ds m ≡ none → declared_place ds m ≡ none)
        → choice b (λ _. some 0) (λ _. map_option suc (declared_place ds m)) ≡ none
    go true h ih = absurd (Never (sym h))
    go false h ih = ap (map_option suc) (ih h)

-- the number that a class has under a name: its own, else its superclass's
pub own_numbers : (P : List Class) (k m : ℕ) (c : Class) → class_at P k ≡ some c → (o : Option Declaration)
    → declared c.methods m ≡ o → (up : Option Method)
    → map_option (λ (M : Method). M.number) (given o up (λ d. some (method_of P (effect_in P) k d)))
    ≡ given (own_number (first_number P k) c.methods m) (map_option (λ (M : Method). M.number) up)
    (λ n. some n)
own_numbers P k m c e none f up = rw (no_place c.methods m f)
own_numbers P k m c e (some d) f up = let y = own_numbered P k m c d e f in rw (y.is, y.number_is)

-- ---- the tables of methods

-- numbers written one after another
before_sets : (xs l : List ℕ) (i j : ℕ) → j < i → get_or (sets l i xs) j 0 ≡ get_or l j 0
before_sets [] l i j h = refl
before_sets (x ∷ xs) l i j h = before_sets xs (set l i x) (suc i) j (omega (arith, h))
    ∙ get_or-set_other l i j x 0 (λ e. omega (arith, e, h))

among_sets : (xs l : List ℕ) (i j : ℕ) → j < length xs → i + length xs ≤ length l
    → get_or (sets l i xs) (i + j) 0 ≡ get_or xs j 0
among_sets [] l i j h r = absurd (omega (arith, h))
among_sets (x ∷ xs) l i zero h r =
    let e : i + 0 ≡ i = omega arith in
    rw e (before_sets xs (set l i x) (suc i) i (omega arith) ∙ get_or-set_same l i x 0 (omega (arith, r)))
among_sets (x ∷ xs) l i (suc j) h r =
    let e : i + suc j ≡ suc i + j = omega arith in
    rw e (among_sets xs (set l i x) (suc i) j (omega (arith, h)) (omega (arith, r, length-set l i x)))

module _ {P : List Class} {M F : List ℕ} {n : ℕ} (w : Numbered P M F n) where
  pub numbered_fewer : (m : ℕ) → m ≤ n → Numbered P M F m
  numbered_fewer m l = record {
    long = w.long;
    long_effects = w.long_effects;
    rows = λ i x h e. w.rows i x (omega (arith, h, l)) e;
    owners = λ i x h e. w.owners i x (omega (arith, h, l)) e;
    parameters = λ i x h e. w.parameters i x (omega (arith, h, l)) e;
    bodies = λ i x h e. w.bodies i x (omega (arith, h, l)) e;
    effects = λ i x h e. w.effects i x (omega (arith, h, l)) e;
  }

  pub numbered_all : n ≡ length (placed_methods P) → MethodTables P M F
  numbered_all e = record {
    long = w.long;
    long_effects = w.long_effects;
    rows = λ i x h. w.rows i x (omega (arith, e, nth_lt (placed_methods P) i x h)) h;
    owners = λ i x h. w.owners i x (omega (arith, e, nth_lt (placed_methods P) i x h)) h;
    parameters = λ i x h. w.parameters i x (omega (arith, e, nth_lt (placed_methods P) i x h)) h;
    bodies = λ i x h. w.bodies i x (omega (arith, e, nth_lt (placed_methods P) i x h)) h;
    effects = λ i x h. w.effects i x (omega (arith, e, nth_lt (placed_methods P) i x h)) h;
  }

  -- the next method is entered
  module _ (x : PlacedMethod) (e : nth (placed_methods P) n ≡ some x) (s : ℕ)
      (s-is : s ≡ effect_of_all x.declaration.effects) (a b c d : ℕ) (a-is : a ≡ x.row)
      (b-is : b ≡ x.owner)
      (c-is : c ≡ length x.declaration.parameters) (d-is : d ≡ x.row + heading_lines x.declaration)
    where
      abbrev entry : List ℕ
      entry = a ∷ b ∷ c ∷ d ∷ []

      abbrev with_entry : List ℕ
      with_entry = set (set (set (set M (n * 4) a) (n * 4 + 1) b) (n * 4 + 2) c) (n * 4 + 3) d

      entry_set : with_entry ≡ sets M (n * 4) entry
      entry_set =
          let p : n * 4 + 1 ≡ suc (n * 4) = omega arith in
          let q : n * 4 + 2 ≡ suc (suc (n * 4)) = omega arith in
          let r : n * 4 + 3 ≡ suc (suc (suc (n * 4))) = omega arith in
          rw (p, q, r)

      room : n < length (placed_methods P)
      room = nth_lt (placed_methods P) n x e

      -- a number of each method: the earlier ones keep it, the next one has it
      each-entry : (f : PlacedMethod → ℕ) (j : ℕ) → j < 4 → get_or entry j 0 ≡ f x
          → ((i : ℕ) (y : PlacedMethod) → i < n → nth (placed_methods P) i ≡ some y
          → get_or M (i * 4 + j) 0 ≡ f y)
          → (i : ℕ) (y : PlacedMethod) → i < n + 1 → nth (placed_methods P) i ≡ some y
          → get_or with_entry (i * 4 + j) 0 ≡ f y
      each-entry f j l g h i y m p = ⊎_elim
          (λ q. ap (λ (t : List ℕ). get_or t (i * 4 + j) 0) entry_set
          ∙ (before_sets entry M (n * 4) (i * 4 + j) (omega (arith, q, l)) ∙ h i y q p))
          (λ q. let z : x ≡ y = inj (sym e ∙ (ap (nth (placed_methods P)) (sym q) ∙ p)) in
          ap (λ (k : ℕ). get_or with_entry (k * 4 + j) 0) q
          ∙ (ap (λ (t : List ℕ). get_or t (n * 4 + j) 0) entry_set
          ∙ (among_sets entry M (n * 4) j l (omega (arith, room, w.long)) ∙ (g ∙ ap f z))))
          (less_or_same i n (omega (arith, m)))

      first_entry : (i : ℕ) (y : PlacedMethod) → i < n + 1 → nth (placed_methods P) i ≡ some y
          → get_or with_entry (i * 4) 0 ≡ y.row
      first_entry i y m p =
          let z : (i : ℕ) → i * 4 + 0 ≡ i * 4 = λ i. omega arith in
          ap (λ (k : ℕ). get_or with_entry k 0) (sym (z i))
          ∙ each-entry (λ (y : PlacedMethod). y.row) 0 (omega arith) a-is
          (λ i y q h. ap (λ (k : ℕ). get_or M k 0) (z i) ∙ w.rows i y q h) i y m p

      pub numbered_next : Numbered P with_entry (set F n s) (n + 1)
      numbered_next = record {
        long = omega (arith, w.long, ap length entry_set, length-sets M (n * 4) entry);
        long_effects = omega (arith, w.long_effects, length-set F n s);
        rows = first_entry;
        owners = each-entry (λ (y : PlacedMethod). y.owner) 1 (omega arith) b-is w.owners;
        parameters = each-entry (λ (y : PlacedMethod). length y.declaration.parameters) 2 (omega arith)
            c-is
            w.parameters;
        bodies = each-entry (λ (y : PlacedMethod). y.row + heading_lines y.declaration) 3 (omega arith)
            d-is
            w.bodies;
        effects = λ i y m p. ⊎_elim
            (λ q. get_or-set_other F n i s 0 (λ z. omega (arith, z, q)) ∙ w.effects i y q p)
            (λ q. let z : x ≡ y = inj (sym e ∙ (ap (nth (placed_methods P)) (sym q) ∙ p)) in
            ap (λ (k : ℕ). get_or (set F n s) k 0) q
            ∙ (get_or-set_same F n s 0 (omega (arith, room, w.long_effects))
            ∙ (s-is ∙ ap (λ (y : PlacedMethod). effect_of_all y.declaration.effects) z)))
            (less_or_same i n (omega (arith, m)));
      }

-- ---- entering a method in the tables of methods

module _ {R M F : List ℕ} {r np nx k next : ℕ} (w : NumberReady R M F r np nx k next) where
  here : MethodHere R w.ends w.program.classes (placed w.method k r)
  here = method_here w.standing next (placed w.method k r) w.this

  pub number_index : (next * 4 + 3 < length M) × (next < length F) × (k ≤ 64)
      × ((r + 1 + np + nx) * 4 + 3 < length R) × (length R ≤ 240000)
  unfolding heading_lines
  number_index =
      let l = nth_lt (placed_methods w.program.classes) next (placed w.method k r) w.this in (
        omega (arith, l, w.entered.long),
        omega (arith, l, w.entered.long_effects),
        omega (
          arith,
          (class_count w.program.classes k here.in_class.owning here.in_class.is_class).1,
          w.standing.in_form.few,
        ),
        omega (arith, here.body.node.row.within, w.np_is, w.nx_is),
        w.standing.short,
      )

  pub number_effects : EffectsAt R w.method.effects (r + 1 + np)
  number_effects = rw w.np_is here.at.effects

  abbrev pub number_lines : ClassLines R (r + 1 + np) nx
  number_lines = record {
    lines = record {
      effects = w.method.effects;
      here = number_effects;
      n_is = w.nx_is;
      short = w.standing.short;
    };
    small = w.small;
  }

  pub number_entered : (s : ℕ) → ((v : ClassLines R (r + 1 + np) nx) → s ≡ effect_of_all v.lines.effects)
      → Numbered w.program.classes
      (set (set (set (set M (next * 4) r) (next * 4 + 1) k) (next * 4 + 2) np) (next * 4 + 3)
      (r + 1 + np + nx))
      (set F next s) (next + 1)
  unfolding heading_lines
  number_entered s f = numbered_next w.entered (placed w.method k r) w.this s (f number_lines)
      r k np (r + 1 + np + nx) refl refl w.np_is (omega (arith, w.np_is, w.nx_is))
