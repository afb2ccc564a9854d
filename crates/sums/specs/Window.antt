-- The sums of a window of models in a table of fixed length: entry e has four numbers, model, printed, spoiled, cents.
-- Entries of one bucket are chained: the bucket's head is the last of them, and each names the one before it; they count
-- from 1 there, and 0 is none.
use Rattle.std.specs.Prelude.{◌≡◌, ◌≢◌, ◌⊎◌, Bool, true, false, ◌&&◌, List, [], ◌∷◌, ◌++◌, ℕ, suc, ◌+◌, ◌-◌, ◌*◌, ◌/◌, ◌^◌, ◌≤◌, ◌<◌, leb, ltb, length, get_or}
use Rattle.std.specs.Prelude.{Option, Some, None, Result, Ok, Err}
use Rattle.std.specs.Int.Bits.{bit_and}
use Rattle.fleet.specs.Ranking.{Counted, add, plus, is_within, all_within}
use Rattle.fleet.specs.Entries.{entry, entries}
use Rattle.fleet.specs.LineLists.{Distinct, in_models}
use Rattle.sums.specs.declared.Window.{Window}
use Rattle.sums.specs.declared.Unadded.{Unadded}
use Rattle.sums.specs.declared.Unadded.TheVariants.{Exceeds, Full}

-- The models from `low` on that are below `end`.
abbrev pub in_window : ℕ → ℕ → ℕ → Bool
in_window low end m = leb low m && ltb m end

-- The bucket of a model, of n buckets.
unfoldable pub bucket_of : ℕ → ℕ → ℕ
bucket_of buckets m = bit_and (m * 2654435769 / 2 ^ 18) (buckets - 1)

-- The lent slices fit together.
pub record Sized (T H N : List ℕ) : Type 0 where
  pub buckets : 1 ≤ length H
  pub table : length N * 4 ≤ length T
  pub least : 2 ≤ length N
  pub most : length N < 65536

module _ (T H N : List ℕ) where
  abbrev pub bucket_at : ℕ → ℕ
  bucket_at e = bucket_of (length H) (entry T e).model

  -- The chains of the first n entries.
  pub record Chained (n : ℕ) : Type 0 where
    pub head_last : (j : ℕ) → j < n → suc j ≤ get_or H (bucket_at j) 0
    pub head_own : (b e : ℕ) → b < length H → get_or H b 0 ≡ suc e → (e < n) × (bucket_at e ≡ b)
    pub next_last : (e j : ℕ) → e < n → j < e → bucket_at j ≡ bucket_at e → suc j ≤ get_or N e 0
    pub next_own : (e k : ℕ) → e < n → get_or N e 0 ≡ suc k → (k < e) × (bucket_at k ≡ bucket_at e)

  -- The table holds n sums, of different models, none past the largest.
  pub record Sums (n : ℕ) : Type 0 where
    pub sized : Sized T H N
    pub count : n ≤ length N
    pub chained : Chained n
    pub distinct : Distinct (entries T n)
    pub within : all_within (entries T n) ≡ true

-- There are sums in the table.
pub record SomeSums (T H N : List ℕ) : Type 0 where
  pub count : ℕ
  pub sums : Sums T H N count

-- No entry is of a model; an entry is of a model.
abbrev pub Lacks : List ℕ → ℕ → ℕ → Type 0
Lacks T n m = (j : ℕ) → j < n → (entry T j).model ≢ m

abbrev pub HasAt : List ℕ → ℕ → ℕ → ℕ → Type 0
HasAt T n m e = (e < n) × ((entry T e).model ≡ m)

-- What finding a model answers: its entry.
abbrev pub Found : List ℕ → ℕ → ℕ → Option ℕ → Type 0
Found T n m None = Lacks T n m
Found T n m (Some e) = HasAt T n m e

-- A table with a line put at an entry.
pub record Put (T T' : List ℕ) (e : ℕ) (c : Counted) : Type 0 where
  pub is : entry T' e ≡ c
  pub same : (i : ℕ) → (i < e * 4) ⊎ (e * 4 + 4 ≤ i) → get_or T i 0 ≡ get_or T' i 0
  pub long : length T' ≡ length T

-- What adding a line to a model's sums answers.
abbrev pub Added : Counted → Counted → Option Counted → Type 0
Added d c None = is_within (plus d c) ≡ false
Added d c (Some s) = (s ≡ plus d c) × (is_within (plus d c) ≡ true)

-- The sums and slices after a line that was taken.
pub record SumsAfter (T H N T' H' N' : List ℕ) (es : List Counted) (n : ℕ) : Type 0 where
  pub sums : Sums T' H' N' n
  pub are : entries T' n ≡ es
  pub kept : (length T' ≡ length T) × ((length H' ≡ length H) × (length N' ≡ length N))

-- What entering the first line of a model answers.
abbrev pub Enters : (T H N T' H' N' : List ℕ) → ℕ → Counted → Option ℕ → Type 0
Enters T H N T' H' N' n c None = is_within c ≡ false
Enters T H N T' H' N' n c (Some k) = (is_within c ≡ true) × (k ≡ suc n)
    × SumsAfter T H N T' H' N' (entries T n ++ (c ∷ [])) k

-- What adding a line to the sums of a table answers.
abbrev pub Adds : (T H N T' H' N' : List ℕ) → ℕ → Counted → Result ℕ Unadded → Type 0
Adds T H N T' H' N' n c (Ok k) = SumsAfter T H N T' H' N' (add c (entries T n)) k
Adds T H N T' H' N' n c (Err Exceeds) = all_within (add c (entries T n)) ≡ false
Adds T H N T' H' N' n c (Err Full) =
    (n ≡ length N) × (Lacks T n c.model × ((T' ≡ T) × ((H' ≡ H) × (N' ≡ N))))

-- Those below a number.
abbrev pub below : ℕ → List Counted → List Counted
below end ds = in_models (λ m. ltb m end) ds

-- An entry whose model is below a number is put after those kept; another is not.
abbrev pub KeepsEntry : List ℕ → List ℕ → ℕ → ℕ → ℕ → ℕ → Type 0
KeepsEntry T T' kept e end r =
    ((r ≡ kept + 1) × ((get_or T (e * 4) 0 < end) × Put T T' kept (entry T e)))
    ⊎ ((r ≡ kept) × ((end ≤ get_or T (e * 4) 0) × (T' ≡ T)))

-- A window from `low` on with the sums of its models.
pub record Open (T H N : List ℕ) (low : ℕ) (w : Window) : Type 0 where
  pub sums : Sums T H N w.count
  pub wide : low < w.end
  pub most : w.end ≤ 4294967296
  pub all_in : (j : ℕ) → j < w.count → (low ≤ (entry T j).model) × ((entry T j).model < w.end)

-- What narrowing a window gives: the sums of its lower models, and room for one more.
pub record Narrows (T H N T' H' N' : List ℕ) (low : ℕ) (w v : Window) : Type 0 where
  pub wide : low < v.end
  pub less : v.end ≤ w.end
  pub room : v.count < length N'
  pub after : SumsAfter T H N T' H' N' (below v.end (entries T w.count)) v.count

-- What taking a line into a window answers. The window may have become narrower.
abbrev pub Takes : (T H N T' H' N' : List ℕ) → ℕ → Window → Counted → Option Window → Type 0
Takes T H N T' H' N' low w c (Some v) = (low < v.end) × ((v.end ≤ w.end)
    × (SumsAfter T H N T' H' N' (in_models (in_window low v.end) (add c (entries T w.count)))
    v.count))
Takes T H N T' H' N' low w c None =
    (in_window low w.end c.model ≡ true) × (all_within (add c (entries T w.count)) ≡ false)
