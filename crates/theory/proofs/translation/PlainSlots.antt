-- Slots and types of a source expression beside those of its plain form.
-- A variable has the plain type of its current type, whatever changes class; temporaries stand between.
use mathlib.Core.Path.{◌≡◌, refl, sym, ap, ◌∙◌}
use Prim.Native.Nat.{ℕ, zero, suc}
use mathlib.Core.Option.{Option, none, some}
use mathlib.Core.Bool.{true, false}
use mathlib.Core.List.{List, [], ◌∷◌, ◌++◌, map}
use lib.ListN.{length, take, set as replace}
use Rattle.language.specs.Limits.{identity_class}
use Rattle.language.specs.Lists.{nth, map_option, Never, inj, nth_map, nth_up, up, All2, a_nil, a_cons}
use Rattle.language.specs.Frames.{Frame, frame, at_slot, opened, closed}
use Rattle.language.specs.Tree.{literal_true, literal_false, literal_null}
use Rattle.language.specs.Tree.{DeclaredType, bool, class, ExprType, known, null_type, Literal, literal_type}
use Rattle.language.specs.World.{World, is_declared}
use Rattle.language.specs.Effects.{effect_of, apply, apply_expr, apply_class}
use Rattle.language.specs.Environment.{Slot, Environment, fresh_slot, with_type}
use Rattle.language.specs.Typing.{not_bool, last_type, fits}
use Rattle.language.specs.Typing.{join_currents, join_slot, join_slots, join_this, join_environments}
use Rattle.language.specs.Typing.{apply_slot, apply_all, after_change}
use Rattle.language.specs.Translation.{plain_class, plain_type, Shape, variables, temporaries, position}
use Rattle.language.specs.Translation.{plain_slot}
use Rattle.language.proofs.Booleans.{false≢}

-- Where a source slot other than `this` stands.
pub assigned_slot : (sh : Shape) (k : ℕ) → plain_slot sh (suc k) ≡ suc (position sh k)
unfolding plain_slot
assigned_slot sh k = refl

-- The types of slots after slot 0: those of variables match, those of temporaries are their own.
pub data SlotsMatch : Shape → List Slot → List DeclaredType → Type 0 where
  match_nil : SlotsMatch [] [] []
  match_variable : {sh : Shape} {Γ : List Slot} {Δ : List DeclaredType} {s : Slot} {u : DeclaredType}
      → plain_type s.current ≡ u → SlotsMatch sh Γ Δ → SlotsMatch (true ∷ sh) (s ∷ Γ) (u ∷ Δ)
  match_temporary : {sh : Shape} {Γ : List Slot} {Δ : List DeclaredType} {u : DeclaredType}
      → SlotsMatch sh Γ Δ → SlotsMatch (false ∷ sh) Γ (u ∷ Δ)

-- The type of a source expression, and that of its plain form: null may have become Identity.
pub data TypesMatch : ExprType → ExprType → Type 0 where
  both_bool : TypesMatch (known bool) (known bool)
  both_class : {c : ℕ} → TypesMatch (known (class c)) (known (class identity_class))
  both_null : TypesMatch null_type null_type
  null_class : TypesMatch null_type (known (class identity_class))

-- A bool's plain form is a bool's, and no other is.
pub bool_only : {u : ExprType} → TypesMatch (known bool) u → u ≡ known bool
bool_only both_bool = refl

pub class_only : {c : ℕ} {u : ExprType} → TypesMatch (known (class c)) u → u ≡ known (class identity_class)
class_only both_class = refl

pub match_plain : (t : DeclaredType) → TypesMatch (known t) (known (plain_type t))
match_plain bool = both_bool
match_plain (class c) = both_class

pub literal_matches : (l : Literal) → TypesMatch (literal_type l) (literal_type l)
literal_matches literal_true = both_bool
literal_matches literal_false = both_bool
literal_matches literal_null = both_null

pub match_not_bool : {t u : ExprType} → TypesMatch t u → not_bool t ≡ true → not_bool u ≡ true
match_not_bool both_bool n = n
match_not_bool both_class n = refl
match_not_bool both_null n = refl
match_not_bool null_class n = refl

pub last_match : {t u : ExprType} {ts us : List ExprType} → TypesMatch t u → All2 TypesMatch ts us
    → TypesMatch (last_type t ts) (last_type u us)
last_match x a_nil = x
last_match x (a_cons y ys) = last_match y ys

module _ (W : World) where
  -- `this` has a class, and its plain form the plain form of a declared class.
  pub data ThisMatch : Option Slot → Option DeclaredType → Type 0 where
    no_this : ThisMatch none none
    a_this : {s : Slot} {c o : ℕ} → s.current ≡ class c → is_declared W o ≡ true
        → ThisMatch (some s) (some (class (plain_class o)))

  pub record Match (sh : Shape) (γ : Environment) (δ : Frame DeclaredType) : Type 0 where
    pub this : ThisMatch γ.this δ.this
    pub slots : SlotsMatch sh γ.slots δ.slots

  pub match_apply : (φ : ℕ) {t u : ExprType} → TypesMatch t u → TypesMatch (apply_expr W φ t) u
  match_apply φ both_bool = both_bool
  match_apply φ both_class = both_class
  match_apply φ both_null = both_null
  match_apply φ null_class = null_class

  pub fits_match : (t : ExprType) (w : DeclaredType) → fits W t w ≡ true → TypesMatch t (known (plain_type w))
  fits_match (known bool) bool e = both_bool
  fits_match (known bool) (class d) e = false≢ e
  fits_match (known (class c)) bool e = false≢ e
  fits_match (known (class c)) (class d) e = both_class
  fits_match null_type bool e = false≢ e
  fits_match null_type (class d) e = null_class

  -- An effect applied keeps plain types.
  plain_apply : (φ : ℕ) (t : DeclaredType) → plain_type (apply W φ t) ≡ plain_type t
  plain_apply φ bool = refl
  plain_apply φ (class c) = refl

  slots_apply : (φ : ℕ) {sh : Shape} {Γ : List Slot} {Δ : List DeclaredType} → SlotsMatch sh Γ Δ
      → SlotsMatch sh (map (apply_slot W φ) Γ) Δ
  slots_apply φ match_nil = match_nil
  slots_apply φ (match_variable {s} v r) = match_variable (plain_apply φ s.current ∙ v) (slots_apply φ r)
  slots_apply φ (match_temporary r) = match_temporary (slots_apply φ r)

  this_apply : (φ : ℕ) {o : Option Slot} {p : Option DeclaredType} → ThisMatch o p
      → ThisMatch (map_option (apply_slot W φ) o) p
  this_apply φ no_this = no_this
  this_apply φ (a_this e i) = a_this (ap (apply W φ) e) i

  pub all_apply : (φ : ℕ) {sh : Shape} {γ : Environment} {δ : Frame DeclaredType} → Match sh γ δ
      → Match sh (apply_all W φ γ) δ
  all_apply φ m = record { this = this_apply φ m.this; slots = slots_apply φ m.slots }

  -- A slot of one class put in the place of one of another.
  slots_set : {sh : Shape} {Γ : List Slot} {Δ : List DeclaredType} → SlotsMatch sh Γ Δ
      → (k : ℕ) (s s' : Slot) (c d : ℕ)
      → nth Γ k ≡ some s → s.current ≡ class c → s'.current ≡ class d → SlotsMatch sh (replace Γ k s') Δ
  unfolding nth
  slots_set match_nil k s s' c d e p q = match_nil
  slots_set (match_variable v r) zero s s' c d e p q =
      match_variable (ap plain_type q ∙ (sym (ap plain_type p) ∙
      (ap (λ (x : Slot). plain_type x.current) (sym (inj e)) ∙ v))) r
  slots_set (match_variable v r) (suc k) s s' c d e p q = match_variable v (slots_set r k s s' c d e p q)
  slots_set (match_temporary r) k s s' c d e p q = match_temporary (slots_set r k s s' c d e p q)

  this_set : {o : Option Slot} {p : Option DeclaredType} (s' : Slot) (d : ℕ) → ThisMatch o p
      → s'.current ≡ class d
      → ThisMatch (map_option (λ b. s') o) p
  this_set s' d no_this q = no_this
  this_set s' d (a_this e i) q = a_this q i

  pub match_change : {sh : Shape} {γ : Environment} {δ : Frame DeclaredType} → Match sh γ δ
      → (k c d : ℕ) (s : Slot)
      → at_slot γ k ≡ some s → s.current ≡ class c → Match sh (after_change W γ k s d) δ
  match_change m zero c d s e p = let a = all_apply (effect_of (W.root d)) m in
      record { this = this_set (with_type (class d) s) d a.this refl; slots = a.slots }
  match_change {γ} m (suc k) c d s e p = let φ = effect_of (W.root d) in let a = all_apply φ m in
      record {
        this = a.this;
        slots = slots_set a.slots k (apply_slot W φ s) (with_type (class d) s) (apply_class W φ c) d
            (nth_map (apply_slot W φ) k γ.slots s e) (ap (apply W φ) p) refl;
      }

  -- Slots joined.
  plain_join : (t u : DeclaredType) → plain_type (join_currents W t u) ≡ plain_type t
  plain_join bool u = refl
  plain_join (class c) bool = refl
  plain_join (class c) (class d) = refl

  slots_join : {sh : Shape} {Γ Γ' : List Slot} {Δ : List DeclaredType} → SlotsMatch sh Γ Δ
      → SlotsMatch sh Γ' Δ
      → SlotsMatch sh (join_slots W Γ Γ') Δ
  unfolding join_slots
  slots_join match_nil match_nil = match_nil
  slots_join (match_variable {s} v r) (match_variable {s = s'} v' r') =
      match_variable (plain_join s.current s'.current ∙ v) (slots_join r r')
  slots_join (match_temporary r) (match_temporary r') = match_temporary (slots_join r r')

  this_join : {o o' : Option Slot} {p : Option DeclaredType} → ThisMatch o p → ThisMatch o' p
      → ThisMatch (join_this W o o') p
  this_join no_this no_this = no_this
  this_join (a_this {s} {c} e i) (a_this {s = s'} {c = c'} e' i')
      = a_this {s = join_slot W s s'} {c = W.nearest c c'} (rw (e, e')) i

  pub match_join : {sh : Shape} {γ γ' : Environment} {δ : Frame DeclaredType} → Match sh γ δ → Match sh γ' δ
      → Match sh (join_environments W γ γ') δ
  match_join m m' = record {
    this = this_join m.this m'.this;
    slots = slots_join m.slots
        m'.slots;
  }

  -- Slots in scope: more come, and go.
  slots_append : {sh sh₂ : Shape} {Γ Γ₂ : List Slot} {Δ Δ₂ : List DeclaredType} → SlotsMatch sh Γ Δ
      → SlotsMatch sh₂ Γ₂ Δ₂
      → SlotsMatch (sh ++ sh₂) (Γ ++ Γ₂) (Δ ++ Δ₂)
  slots_append match_nil q = q
  slots_append (match_variable v r) q = match_variable v (slots_append r q)
  slots_append (match_temporary r) q = match_temporary (slots_append r q)

  slots_more : {sh sh₂ : Shape} {Γ : List Slot} {Δ Δ₂ : List DeclaredType} → SlotsMatch sh Γ Δ
      → SlotsMatch sh₂ [] Δ₂
      → SlotsMatch (sh ++ sh₂) Γ (Δ ++ Δ₂)
  slots_more match_nil q = q
  slots_more (match_variable v r) q = match_variable v (slots_more r q)
  slots_more (match_temporary r) q = match_temporary (slots_more r q)

  fresh_match : (ts : List DeclaredType) → SlotsMatch (variables ts) (map fresh_slot ts) (map plain_type ts)
  fresh_match [] = match_nil
  fresh_match (t ∷ ts) = match_variable refl (fresh_match ts)

  pub method_match : (c o : ℕ) (ts : List DeclaredType) → is_declared W o ≡ true
      → Match (variables ts) (frame (some (fresh_slot (class c))) (map fresh_slot ts))
      (frame (some (class (plain_class o))) (map plain_type ts))
  method_match c o ts i = record { this = a_this refl i; slots = fresh_match ts }

  pub start_match : Match [] (frame none []) (frame none [])
  start_match = record { this = no_this; slots = match_nil }

  pub match_opened : {sh : Shape} {γ : Environment} {δ : Frame DeclaredType} (ts : List DeclaredType)
      → Match sh γ δ
      → Match (sh ++ variables ts) (opened γ (map fresh_slot ts)) (opened δ (map plain_type ts))
  match_opened ts m = record { this = m.this; slots = slots_append m.slots (fresh_match ts) }

  slots_closed : {sh : Shape} (sh₂ : Shape) {Γ Γ₀ : List Slot} {Δ : List DeclaredType}
      (Δ₂ : List DeclaredType)
      → SlotsMatch sh Γ₀ Δ → SlotsMatch (sh ++ sh₂) Γ (Δ ++ Δ₂) → SlotsMatch sh (take (length Γ₀) Γ) Δ
  slots_closed sh₂ Δ₂ match_nil q = match_nil
  slots_closed sh₂ Δ₂ (match_variable v r) (match_variable v' q) = match_variable v' (slots_closed sh₂ Δ₂ r q)
  slots_closed sh₂ Δ₂ (match_temporary r) (match_temporary q) = match_temporary (slots_closed sh₂ Δ₂ r q)

  pub match_closed : {sh : Shape} (sh₂ : Shape) {γ γ₀ : Environment} {δ : Frame DeclaredType}
      (Δ₂ : List DeclaredType)
      → Match sh γ₀ δ → Match (sh ++ sh₂) γ (opened δ Δ₂) → Match sh (closed (length γ₀.slots) γ) δ
  match_closed sh₂ Δ₂ m q = record { this = q.this; slots = slots_closed sh₂ Δ₂ m.slots q.slots }

  -- Slots that are temporaries alone hold no variable.
  pub record Temporary (sh : Shape) (Δ : List DeclaredType) : Type 0 where
    pub given : SlotsMatch sh [] Δ
    pub alone : (Γ : List Slot) → SlotsMatch sh Γ Δ → Γ ≡ []

  pub no_temporary : Temporary [] []
  no_temporary = record { given = match_nil; alone = go }
    where
      go : (Γ : List Slot) → SlotsMatch [] Γ [] → Γ ≡ []
      go Γ match_nil = refl

  pub a_temporary : {sh : Shape} {Δ : List DeclaredType} (u : DeclaredType) → Temporary sh Δ
      → Temporary (false ∷ sh) (u ∷ Δ)
  a_temporary {sh} {Δ} u t = record { given = match_temporary t.given; alone = go }
    where
      go : (Γ : List Slot) → SlotsMatch (false ∷ sh) Γ (u ∷ Δ) → Γ ≡ []
      go Γ (match_temporary r) = t.alone Γ r

  pub typed_temporaries : (ts : List DeclaredType) → Temporary (temporaries ts) (map plain_type ts)
  typed_temporaries [] = no_temporary
  typed_temporaries (t ∷ ts) = a_temporary (plain_type t) (typed_temporaries ts)

  pub match_more : {sh sh₂ : Shape} {γ : Environment} {δ : Frame DeclaredType} {Δ₂ : List DeclaredType}
      → Match sh γ δ
      → Temporary sh₂ Δ₂ → Match (sh ++ sh₂) γ (opened δ Δ₂)
  match_more m t = record { this = m.this; slots = slots_more m.slots t.given }

  slots_fewer : {sh sh₂ : Shape} {Γ Γ₀ : List Slot} {Δ Δ₂ : List DeclaredType} → Temporary sh₂ Δ₂
      → SlotsMatch sh Γ₀ Δ → SlotsMatch (sh ++ sh₂) Γ (Δ ++ Δ₂) → SlotsMatch sh Γ Δ
  slots_fewer t match_nil q = rw (t.alone _ q) match_nil
  slots_fewer t (match_variable v r) (match_variable v' q) = match_variable v' (slots_fewer t r q)
  slots_fewer t (match_temporary r) (match_temporary q) = match_temporary (slots_fewer t r q)

  pub match_fewer : {sh sh₂ : Shape} {γ γ₀ : Environment} {δ : Frame DeclaredType} {Δ₂ : List DeclaredType}
      → Temporary sh₂ Δ₂
      → Match sh γ₀ δ → Match (sh ++ sh₂) γ (opened δ Δ₂) → Match sh γ δ
  match_fewer t m q = record { this = q.this; slots = slots_fewer t m.slots q.slots }

  -- The type of a variable, and of a temporary.
  slots_at : {sh : Shape} {Γ : List Slot} {Δ : List DeclaredType} → SlotsMatch sh Γ Δ → (k : ℕ) (s : Slot)
      → nth Γ k ≡ some s
      → nth Δ (position sh k) ≡ some (plain_type s.current)
  unfolding nth position
  slots_at match_nil k s e = absurd (Never e)
  slots_at (match_variable v r) zero s e = ap (λ (u : DeclaredType). some u)
      (sym v ∙ ap (λ (x : Slot). plain_type x.current) (inj e))
  slots_at (match_variable v r) (suc k) s e = slots_at r k s e
  slots_at (match_temporary r) k s e = slots_at r k s e

  pub variable_at : {sh : Shape} {γ : Environment} {δ : Frame DeclaredType} → Match sh γ δ
      → (k : ℕ) (s : Slot)
      → nth γ.slots k ≡ some s → nth δ.slots (position sh k) ≡ some (plain_type s.current)
  variable_at m k s e = slots_at m.slots k s e

  slots_length : {sh : Shape} {Γ : List Slot} {Δ : List DeclaredType} → SlotsMatch sh Γ Δ
      → length Δ ≡ length sh
  slots_length match_nil = refl
  slots_length (match_variable v r) = ap suc (slots_length r)
  slots_length (match_temporary r) = ap suc (slots_length r)

  pub temporary_at : {sh : Shape} {γ : Environment} {δ : Frame DeclaredType} (Δ₂ : List DeclaredType) (k : ℕ)
      (u : DeclaredType)
      → Match sh γ δ → nth Δ₂ k ≡ some u → nth (δ.slots ++ Δ₂) (up k (length sh)) ≡ some u
  temporary_at {δ} Δ₂ k u m e = rw (← slots_length m.slots) (nth_up δ.slots Δ₂ k ∙ e)
