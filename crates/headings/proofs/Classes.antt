-- Laws of a class's block: how it starts, and that it is filled when the class has passed. Assumes nothing.
use mathlib.Core.Path.{◌≡◌, refl, sym, ap, subst, ◌∙◌}
use mathlib.Core.Bool.{Bool}
use mathlib.Core.Option.{Option, none, some}
use mathlib.Core.List.{List, [], ◌++◌}
use mathlib.Core.Logic.{⊎_elim}
use Prim.Native.Nat.{ℕ, zero, suc, ◌+◌, ◌*◌, ◌≤◌, ◌<◌}
use native.Mathlib.Omega.{arith}
use borrow.Author.Tests.{eq-eqb, ne_eqb}
use lib.Dec.{eqb}
use lib.ListN.{length, get_or, set}
use lib.Seq.{get_or-set_same, get_or-set_other}
use Rattle.language.specs.Lists.{nth, given, choice, map_option, Never, inj, nth_lt}
use Rattle.language.specs.Tree.{Field, Declaration, Class}
use Rattle.language.specs.World.{Method, place}
use Rattle.language.specs.Effects.{effect_of, join}
use Rattle.language.specs.Program.{is_state, declared, class_at, method_of, fields_at, method_at, root_at}
use Rattle.language.specs.Program.{effect_in}
use Rattle.language.specs.Program.{world, world_with}
use Rattle.language.specs.ClassTables.{stored_place, rows_from, class_row, field_rows_at}
use Rattle.language.specs.ClassTables.{field_rows, method_number, above_at, above}
use Rattle.language.proofs.Lines.{less_or_same}
use Rattle.members.specs.Blocks.{Block, Filled, Lookups, Working}
use Rattle.members.specs.Numbers.{first_number, own_or, own_number}
use Rattle.headings.specs.Ready.{StartReady}
use Rattle.headings.proofs.Copying.{Copied}
use Rattle.members.proofs.Numbers.{first_after, own_numbered, own_numbers}
use Rattle.members.proofs.Tables.{kind_numbers, lookups_same, lookups_set}

-- ---- up through the superclasses, which are earlier

module _ (P : List Class) (top : ℕ)
    (earlier : (k : ℕ) (c : Class) → k < top → class_at P k ≡ some c → c.super < k) where
  module _ {A : Type 0} (F : ℕ → ℕ → A) (z : ℕ → A) (step : ℕ → Class → A → A)
      (is : (n k : ℕ) → F (suc n) k ≡ given (class_at P k) (z k) (λ c. step k c (F n c.super))) where
    enough : (n m k : ℕ) → k < n → k < m → k < top → F n k ≡ F m k
    enough zero m k l l' t = absurd (omega (arith, l))
    enough (suc n) zero k l l' t = absurd (omega (arith, l'))
    enough (suc n) (suc m) k l l' t = is n k ∙ (go (class_at P k) refl
        (λ c e. enough n m c.super (omega (arith, l, earlier k c t e)) (omega (arith, l', earlier k c t e))
        (omega (arith, t, earlier k c t e))) ∙ sym (is m k))
      where
        go : (o : Option Class) → class_at P k ≡ o
            → ((c : Class) → class_at P k ≡ some c → F n c.super ≡ F m c.super)
            → given o (z k) (λ c. step k c (F n c.super)) ≡ given o (z k) (λ c. step k c (F m c.super))
        go none e ih = refl
        go (some c) e ih = ap (step k c) (ih c e)

    up_one : (k : ℕ) (c : Class) → class_at P k ≡ some c → c.super < k → k ≤ top
        → F (suc k) k ≡ step k c (F (suc c.super) c.super)
    up_one k c e l t = is k k ∙ (ap (λ (o : Option Class). given o (z k) (λ c. step k c (F k c.super))) e
        ∙ ap (step k c) (enough k (suc c.super) c.super l (omega arith) (omega (arith, l, t))))

  module _ (k : ℕ) (c : Class) (e : class_at P k ≡ some c) (l : c.super < k) (t : k ≤ top) where
    pub fields_of : (world P).fields k ≡ (world P).fields c.super ++ c.fields
    unfolding world world_with fields_at
    fields_of = up_one (fields_at P) (λ k. []) (λ k c x. x ++ c.fields) (λ n k. refl) k c e l t

    pub field_rows_of : field_rows P k ≡ field_rows P c.super ++ rows_from (class_row P k + 1) c.fields
    unfolding field_rows field_rows_at
    field_rows_of = up_one (field_rows_at P) (λ k. [])
        (λ k c x. x ++ rows_from (class_row P k + 1) c.fields) (λ n k. refl) k c e l t

    method-of-class : (m : ℕ) → (world P).method k m
        ≡ given (declared c.methods m) ((world P).method c.super m)
        (λ d. some (method_of P (effect_in P) k d))
    unfolding world world_with method_at
    method-of-class m = up_one (λ n k. method_at P (effect_in P) n k m) (λ k. none)
        (λ k c x. given (declared c.methods m) x (λ d. some (method_of P (effect_in P) k d))) (λ n k. refl)
        k c e l t

    pub method_number_of : (m : ℕ)
        → method_number P k m
        ≡ own_or (own_number (first_number P k) c.methods) (method_number P c.super) m
    unfolding method_number
    method_number_of m = ap (map_option λ (M : Method). M.number) (method-of-class m)
        ∙ own_numbers P k m c e (declared c.methods m) refl ((world P).method c.super m)

    pub root_of : (world P).root k ≡ choice (is_state c.kind) (λ _. (world P).root c.super) (λ _. k)
    unfolding world world_with root_at
    root_of = up_one (root_at P) (λ k. k) (λ k c x. choice (is_state c.kind) (λ _. x) (λ _. k))
        (λ n k. refl) k c e l t

    pub above_of : above P k ≡ join (effect_of k) (above P c.super)
    unfolding above above_at
    above_of = up_one (above_at P) (λ k. 0) (λ k c x. join (effect_of k) x) (λ n k. refl) k c e l t

  -- an inherited method has a number before those of the class
  number_before : (n j m q : ℕ)
      → map_option (λ (M : Method). M.number) (method_at P (effect_in P) n j m) ≡ some q
      → j < top → q < first_number P top
  unfolding method_at
  number_before zero j m q e l = absurd (Never e)
  number_before (suc n) j m q e l =
      go (class_at P j) refl e (λ c d h. number_before n c.super m q h (omega (arith, l, earlier j c l d)))
    where
      own : (c : Class) → class_at P j ≡ some c → (o : Option Declaration) → declared c.methods m ≡ o
          → map_option (λ (M : Method). M.number) (given o (method_at P (effect_in P) n c.super m)
          (λ d. some (method_of P (effect_in P) j d))) ≡ some q
          → (map_option (λ (M : Method). M.number) (method_at P (effect_in P) n c.super m) ≡ some q
          → q < first_number P top)
          → q < first_number P top
      own c p none f h ih = ih h
      own c p (some d) f h ih = let y = own_numbered P j m c d p f in
          omega (arith, inj h, y.number_is, y.in_class, first_after P j top c p l)

      go : (o : Option Class) → class_at P j ≡ o
          → map_option (λ (M : Method). M.number) (given o none (λ c. given (declared c.methods m)
          (method_at P (effect_in P) n c.super m) λ d. some (method_of P (effect_in P) j d))) ≡ some q
          → ((c : Class) → class_at P j ≡ some c
          → map_option (λ (M : Method). M.number) (method_at P (effect_in P) n c.super m) ≡ some q
          → q < first_number P top)
          → q < first_number P top
      go none p h ih = absurd (Never h)
      go (some c) p h ih = own c p (declared c.methods m) refl h (ih c p)

  pub inherited_number : (j m q : ℕ) → method_number P j m ≡ some q → j < top → q < first_number P top
  unfolding method_number world world_with
  inherited_number j m q e l = number_before (suc j) j m q e l

-- ---- starting a block as a copy

-- the block of class k is as that of an earlier one but for kind and superclass
pub record Started (T T' : List ℕ) (k over : ℕ) : Type 0 where
  pub long : length T' ≡ length T
  pub low : (i : ℕ) → i < k * 576 → get_or T' i 0 ≡ get_or T i 0
  pub kind : get_or T' (k * 576 + 512) 0 ≡ get_or T (k * 576 + 512) 0
  pub super : get_or T' (k * 576 + 513) 0 ≡ get_or T (k * 576 + 513) 0
  pub first : (x : ℕ) → x < 512 → get_or T' (k * 576 + x) 0 ≡ get_or T (over * 576 + x) 0
  pub second : (x : ℕ) → x < 62 → get_or T' (k * 576 + 514 + x) 0 ≡ get_or T (over * 576 + 514 + x) 0
  pub high : (i : ℕ) → k * 576 + 576 ≤ i → get_or T' i 0 ≡ get_or T i 0

pub both_copied : {T T₁ T₂ : List ℕ} {k over : ℕ} → over < k → Copied T T₁ (over * 576) (k * 576) 512
    → Copied T₁ T₂ (over * 576 + 514) (k * 576 + 514) 62 → Started T T₂ k over
both_copied {k} {over} l a b = record {
  long = b.long ∙ a.long;
  low = λ i h. b.before i (omega (arith, h)) ∙ a.before i h;
  kind = b.before (k * 576 + 512) (omega arith) ∙ a.after (k * 576 + 512) (omega arith);
  super = b.before (k * 576 + 513) (omega arith) ∙ a.after (k * 576 + 513) (omega arith);
  first = λ x h. b.before (k * 576 + x) (omega (arith, h)) ∙ a.part x h;
  second = λ x h. b.part x h ∙ a.before (over * 576 + 514 + x) (omega (arith, h, l));
  high = λ i h. b.after i (omega (arith, h)) ∙ a.after i (omega (arith, h));
}

module _ {T : List ℕ} {k over kind : ℕ} (w : StartReady T k over kind) where
  within : k ≤ length w.P
  unfolding class_at
  within = go k w.is
    where
      go : (k : ℕ) → class_at w.P k ≡ some w.one → k ≤ length w.P
      go zero e = omega arith
      go (suc k) e = omega (arith, nth_lt w.P k w.one e)

  pub start_index : (k * 576 + 576 ≤ length T) × (over < k) × (k ≤ 64)
  start_index = (omega (arith, within, w.lookups.long), w.earlier, omega (arith, within, w.lookups.few))

  -- the two parts of the earlier block were copied whole
  pub started : {T₁ T₂ : List ℕ} {m n : ℕ} → m ≡ 512 → n ≡ 62 → Copied T T₁ (over * 576) (k * 576) m
      → Copied T₁ T₂ (over * 576 + 514) (k * 576 + 514) n → Started T T₂ k over
  started {T₁} {T₂} e f a b = both_copied w.earlier (subst (Copied T T₁ (over * 576) (k * 576)) e a)
      (subst (Copied T₁ T₂ (over * 576 + 514) (k * 576 + 514)) f b)

  module _ {T' : List ℕ} (s : Started T T' k over) where
    lookups : Lookups w.P k T'
    lookups = lookups_same T' w.lookups s.long s.low s.kind s.super s.high

    old : Filled w.P T over
    old = w.lookups.blocks over w.earlier

    block : Block T' (k * 576) ((world w.P).fields over) (field_rows w.P over)
        (method_number w.P over)
    block = record {
      places = λ f l. s.first f (omega (arith, l)) ∙ old.block.places f l;
      entries = λ m l.
          let a : k * 576 + 256 + m ≡ k * 576 + (256 + m) = omega arith in
          let b : over * 576 + (256 + m) ≡ over * 576 + 256 + m = omega arith in
          ap (λ (i : ℕ). get_or T' i 0) a
          ∙ (s.first (256 + m) (omega (arith, l))
          ∙ (ap (λ (i : ℕ). get_or T i 0) b ∙ old.block.entries m l));
      count =
          let a : k * 576 + 515 ≡ k * 576 + 514 + 1 = omega arith in
          let b : over * 576 + 514 + 1 ≡ over * 576 + 515 = omega arith in
          ap (λ (i : ℕ). get_or T' i 0) a
          ∙ (s.second 1 (omega arith) ∙ (ap (λ (i : ℕ). get_or T i 0) b ∙ old.block.count));
      rows = λ i r e.
          let h = nth_lt (field_rows w.P over) i r e in
          let a : k * 576 + 520 + i ≡ k * 576 + 514 + (6 + i) = omega arith in
          let b : over * 576 + 514 + (6 + i) ≡ over * 576 + 520 + i = omega arith in
          ap (λ (i : ℕ). get_or T' i 0) a
          ∙ (s.second (6 + i) (omega (arith, h, old.block.long, old.block.few))
          ∙ (ap (λ (i : ℕ). get_or T i 0) b ∙ old.block.rows i r e));
      long = old.block.long;
      few = old.block.few;
    }

    kind-test : eqb kind 2 ≡ is_state w.one.kind
    kind-test = ap (λ (n : ℕ). eqb n 2) w.kind_is
        ∙ (kind_numbers w.one.kind (w.lookups.proper k w.one w.is)).1

    root_is : (world w.P).root k ≡ choice (eqb kind 2) (λ _. (world w.P).root over) (λ _. k)
    root_is = root_of w.P k w.lookups.earlier k w.one w.is
        (omega (arith, w.earlier, w.over_is)) (omega arith)
        ∙ (ap (λ (b : Bool). choice b (λ _. (world w.P).root w.one.super) (λ _. k)) (sym kind-test)
        ∙ ap (λ (o : ℕ). choice (eqb kind 2) (λ _. (world w.P).root o) (λ _. k)) (sym w.over_is))

    -- a state class has its superclass's root
    pub start_state : kind ≡ 2
        → Working w.P k T' ((world w.P).fields over) (field_rows w.P over) (method_number w.P over)
    start_state e =
        let a : k * 576 + 514 ≡ k * 576 + 514 + 0 = omega arith in
        let b : over * 576 + 514 + 0 ≡ over * 576 + 514 = omega arith in
        let r : (world w.P).root k ≡ (world w.P).root over = root_is ∙ rw (eq-eqb kind 2 e) in
        record {
          lookups = lookups;
          within = within;
          block = block;
          root = ap (λ (i : ℕ). get_or T' i 0) a
              ∙ (s.second 0 (omega arith) ∙ (ap (λ (i : ℕ). get_or T i 0) b ∙ (old.root ∙ sym r)));
        }

    -- any other is its own root
    pub start_other : (kind ≡ 2 → ⊥)
        → Working w.P k (set T' (k * 576 + 514) k) ((world w.P).fields over) (field_rows w.P over)
        (method_number w.P over)
    start_other n =
        let r : (world w.P).root k ≡ k = root_is ∙ rw (ne_eqb kind 2 n) in
        let o : (i : ℕ) → (i ≡ k * 576 + 514 → ⊥)
        → get_or (set T' (k * 576 + 514) k) i 0 ≡ get_or T' i 0 = λ i h.
        get_or-set_other T' (k * 576 + 514) i k 0 h in
        record {
          lookups = lookups_set lookups 514 k (omega arith) (λ e. omega (arith, e)) (λ e. omega (arith, e));
          within = within;
          block = record {
            places = λ f l. o (k * 576 + f) (λ e. omega (arith, e, l)) ∙ block.places f l;
            entries = λ m l. o (k * 576 + 256 + m) (λ e. omega (arith, e, l)) ∙ block.entries m l;
            count = o (k * 576 + 515) (λ e. omega (arith, e)) ∙ block.count;
            rows = λ i r e. o (k * 576 + 520 + i) (λ d. omega (arith, d)) ∙ block.rows i r e;
            long = block.long;
            few = block.few;
          };
          root = get_or-set_same T' (k * 576 + 514) k 0 (omega (arith, s.long, start_index.0)) ∙ sym r;
        }

-- ---- a class that has passed

module _ {P : List Class} {k : ℕ} {T : List ℕ} {fs : List Field} {rs : List ℕ} {ms : ℕ → Option ℕ}
    (W : Working P k T fs rs ms) (c : Class) (e : class_at P k ≡ some c) (l : c.super < k)
    (f : fs ≡ (world P).fields k) (g : rs ≡ field_rows P k) (h : (m : ℕ) → ms m ≡ method_number P k m) where
  filled : Filled P T k
  filled = record {
    block = record {
      places = λ n q. W.block.places n q ∙ ap (λ (fs : List Field). stored_place (place n fs)) f;
      entries = λ m q. W.block.entries m q ∙ ap stored_place (h m);
      count = W.block.count ∙ ap length f;
      rows = λ i r q. W.block.rows i r (ap (λ (rs : List ℕ). nth rs i) g ∙ q);
      long = sym (ap length g) ∙ (W.block.long ∙ ap length f);
      few = omega (arith, W.block.few, ap length f);
    };
    root = W.root;
  }

  pub lookups_next : Lookups P (k + 1) T
  lookups_next = record {
    few = W.lookups.few;
    long = W.lookups.long;
    object = W.lookups.object;
    kinds = W.lookups.kinds;
    proper = W.lookups.proper;
    supers = W.lookups.supers;
    earlier = λ j d q p.
        ⊎_elim (λ s. W.lookups.earlier j d s p)
        (λ s. let z : c ≡ d = inj (sym e ∙ (ap (class_at P) (sym s) ∙ p)) in rw (s, ← z) l)
        (less_or_same j k (omega (arith, q)));
    blocks = λ j q. ⊎_elim (λ s. W.lookups.blocks j s) (λ s. rw s filled)
        (less_or_same j k (omega (arith, q)));
  }
