-- Pieces of the translation in form: nesting, variables and their positions, numbers, blocks, and the change
-- of class.
use mathlib.Core.Path.{◌≡◌, refl, sym, ap, subst}
use Prim.Native.Nat.{ℕ, zero, suc, ◌+◌, ◌*◌, ◌≤◌, ◌<◌}
use mathlib.Core.Option.{some}
use mathlib.Core.Bool.{true, false}
use mathlib.Core.List.{List, [], ◌∷◌, ◌++◌, map}
use lib.ListN.{length, length-map, length-append}
use native.Mathlib.Omega.{arith}
use borrow.Author.Tests.{leb-true, ne_eqb}
use Rattle.language.specs.Limits.{Most, of_check, largest, identity_class, id_field, imp_field}
use Rattle.language.specs.Lists.{nth_lt, bind_option_inv, all2_length}
use Rattle.language.specs.Frames.{at_slot}
use Rattle.language.specs.Tree.{DeclaredType, bool, class, ExprType, Expr, literal}
use Rattle.language.specs.Tree.{slot, is_null, get, cast, new, change, assign, set, call}
use Rattle.language.specs.Tree.{choose, block, Exprs, nil, cons, count, Field}
use Rattle.language.specs.World.{World, field_type, is_declared}
use Rattle.language.specs.Environment.{Slot, Environment}
use Rattle.theory.specs.ComputedRules.{HasType}
use Rattle.language.specs.WellFormed.{TypeInForm, Each, each_nil, each_cons, NodeInForm, NodesInForm}
use Rattle.language.specs.WellFormed.{form_literal, form_slot, form_is_null, form_get}
use Rattle.language.specs.WellFormed.{form_cast, form_new, form_change, form_assign, form_set, form_call}
use Rattle.language.specs.WellFormed.{form_choose, form_block, form_nil, form_cons}
use Rattle.language.specs.Translation.{plain_class, plain_type, Shape, variables, temporaries, position}
use Rattle.language.specs.Translation.{read_slot, ◌⊕◌, implementor, reads, copies, renew, plain_change}
use Rattle.theory.proofs.translation.PlainTypes.{NameLaws}
use Rattle.theory.proofs.translation.PlainSizes.{Small}
use Rattle.theory.proofs.typing.SlotSorts.{shape}

-- A node in form is so with more nesting left.
module _ {most : Most} where
  mutual
    pub one_deeper : {d n : ℕ} (e : Expr) → NodeInForm most d n e → NodeInForm most (suc d) n e
    one_deeper (literal l) form_literal = form_literal
    one_deeper (slot k) (form_slot p) = form_slot p
    one_deeper (is_null e) (form_is_null f) = form_is_null (one_deeper e f)
    one_deeper (get g e) (form_get p f) = form_get p (one_deeper e f)
    one_deeper (cast c e) (form_cast p f) = form_cast p (one_deeper e f)
    one_deeper (new c) (form_new p) = form_new p
    one_deeper (change k c) (form_change p q) = form_change p q
    one_deeper (assign k e) (form_assign p f) = form_assign p (one_deeper e f)
    one_deeper (set g e e') (form_set p f f') = form_set p (one_deeper e f) (one_deeper e' f')
    one_deeper (call m e es) (form_call p q f fs) = form_call p q (one_deeper e f) (all_deeper es fs)
    one_deeper (choose a b c) (form_choose f g h) =
        form_choose (one_deeper a f) (one_deeper b g) (one_deeper c h)
    one_deeper (block ts es) (form_block p q r t fs) = form_block p q r t (all_deeper es fs)

    pub all_deeper : {d n : ℕ} (es : Exprs) → NodesInForm most d n es → NodesInForm most (suc d) n es
    all_deeper nil form_nil = form_nil
    all_deeper (cons e es) (form_cons f fs) = form_cons (one_deeper e f) (all_deeper es fs)

  pub two_deeper : {d n : ℕ} (e : Expr) → NodeInForm most d n e → NodeInForm most (suc (suc d)) n e
  two_deeper e f = one_deeper e (one_deeper e f)

  pub three_deeper : {d n : ℕ} (e : Expr) → NodeInForm most d n e → NodeInForm most (suc (suc (suc d))) n e
  three_deeper e f = one_deeper e (two_deeper e f)

-- The nesting left to a plain form: 32 + 4 · d, three of it in sight.
unfoldable pub more_left : ℕ → ℕ
more_left zero = 29
more_left (suc d) = suc (suc (suc (suc (more_left d))))

abbrev pub plain_left : ℕ → ℕ
plain_left d = suc (suc (suc (more_left d)))

-- Variables among the slots, and where they stand.
unfoldable pub variable_count : Shape → ℕ
variable_count [] = 0
variable_count (true ∷ sh) = suc (variable_count sh)
variable_count (false ∷ sh) = variable_count sh

pub position_within : (sh : Shape) (k : ℕ) → k < variable_count sh → position sh k < length sh
unfolding variable_count position
position_within [] k l = absurd (omega arith)
position_within (true ∷ sh) zero l = omega arith
position_within (true ∷ sh) (suc k) l = omega (arith, position_within sh k (omega arith))
position_within (false ∷ sh) k l = omega (arith, position_within sh k l)

pub count_append : (sh sh₂ : Shape) → variable_count (sh ++ sh₂) ≡ variable_count sh + variable_count sh₂
unfolding variable_count
count_append [] sh₂ = omega arith
count_append (true ∷ sh) sh₂ = omega (arith, count_append sh sh₂)
count_append (false ∷ sh) sh₂ = count_append sh sh₂

pub count_variables : (ts : List DeclaredType) → variable_count (variables ts) ≡ length ts
unfolding variable_count
count_variables [] = refl
count_variables (t ∷ ts) = ap suc (count_variables ts)

pub count_temporaries : (ts : List DeclaredType) → variable_count (temporaries ts) ≡ 0
unfolding variable_count
count_temporaries [] = refl
count_temporaries (t ∷ ts) = count_temporaries ts

-- Typing keeps the number of slots.
pub slots_same : (W : World) (e : Expr) {γ γ' : Environment} {t : ExprType} {φ : ℕ} → HasType W γ e t γ' φ
    → length γ'.slots ≡ length γ.slots
slots_same W e d = sym (all2_length (shape e d).slots)

-- How many nodes stand in a row.
pub count_joined : (es rs : Exprs) → count (es ⊕ rs) ≡ count es + count rs
unfolding ◌⊕◌ count
count_joined nil rs = omega arith
count_joined (cons e es) rs = omega (arith, count_joined es rs)

pub count_reads : (n : ℕ) (ts : List DeclaredType) → count (reads n ts) ≡ length ts
unfolding reads count
count_reads n [] = refl
count_reads n (t ∷ ts) = ap suc (count_reads (suc n) ts)

pub count_copies : (o p : ℕ) (fs : List Field) (r : Exprs) → count (copies o p fs r) ≡ length fs + count r
unfolding copies count
count_copies o p [] r = omega arith
count_copies o p (f ∷ fs) r = omega (arith, count_copies o p fs r)

-- Types in form.
pub identity_form : TypeInForm (class identity_class)
identity_form = record { small = omega arith; back = refl }

pub plain_type_form : (t : DeclaredType) → TypeInForm (plain_type t)
plain_type_form bool = record { small = omega arith; back = refl }
plain_type_form (class c) = identity_form

pub plain_types_form : (ts : List DeclaredType) → Each TypeInForm (map plain_type ts)
plain_types_form [] = each_nil
plain_types_form (t ∷ ts) = each_cons (plain_type_form t) (plain_types_form ts)

pub class_form : (c : ℕ) → c ≤ 62 → TypeInForm (class (plain_class c))
class_form c l = record { small = omega arith; back = rw (ne_eqb (plain_class c) 255 (omega arith)) }

-- Blocks in form, with locals of the shape sh₂, and without.
pub block_form : {d : ℕ} {ts : List DeclaredType} {es : Exprs} (sh sh₂ : Shape) → length ts ≡ length sh₂
    → suc (length (sh ++ sh₂)) ≤ 256
    → 1 ≤ count es → count es ≤ largest → Each TypeInForm ts
    → NodesInForm of_check d (suc (length (sh ++ sh₂))) es
    → NodeInForm of_check (suc d) (suc (length sh)) (block ts es)
block_form {d} {ts} {es} sh sh₂ l b c c' t f =
    let q : suc (length (sh ++ sh₂)) ≡ suc (length sh) + length ts = omega (arith, length-append sh sh₂) in
    form_block {n = suc (length sh)} {ts = ts} (omega arith) c c' t
    (subst (λ (n : ℕ). NodesInForm of_check d n es) q f)

bare_form : {d n : ℕ} {es : Exprs} → n ≤ 256 → 1 ≤ count es → count es ≤ largest → NodesInForm of_check d n es
    → NodeInForm of_check (suc d) n (block [] es)
bare_form {d} {n} {es} b c c' f = let q : n ≡ n + 0 = omega arith in
    form_block {n = n} {ts = []} (omega arith) c c' each_nil
    (subst (λ (n : ℕ). NodesInForm of_check d n es) q f)

-- Numbers in form.
pub slot_small : (k : ℕ) → k ≤ 256 → k ≤ largest
slot_small k l = omega arith

pub class_small : (c : ℕ) → c ≤ 62 → plain_class c ≤ largest
class_small c l = omega arith

pub one_small : identity_class ≤ largest
one_small = omega arith

pub id_small : id_field ≤ of_check.name
id_small = omega arith

pub imp_small : imp_field ≤ of_check.name
imp_small = omega arith

-- Pieces of the translation in form.
pub implementor_form : {d n : ℕ} (c k : ℕ) → c ≤ 62 → k ≤ 256
    → NodeInForm of_check (suc (suc (suc d))) n (implementor c k)
implementor_form c k p q = form_cast (class_small c p) (form_get imp_small (form_slot (slot_small k q)))

pub reads_form : {d n : ℕ} (k : ℕ) (ts : List DeclaredType) → k + length ts ≤ 257
    → NodesInForm of_check (suc d) n (reads k ts)
unfolding reads
reads_form k [] l = form_nil
reads_form k (t ∷ ts) l =
    form_cons (form_slot (slot_small k (omega arith))) (reads_form (suc k) ts (omega arith))

copies_form : {d n : ℕ} (o p : ℕ) (fs : List Field) (r : Exprs) → Each (λ (f : Field). f.name ≤ 255) fs
    → o ≤ 256 → p ≤ 256
    → NodesInForm of_check (suc (suc (suc d))) n r
    → NodesInForm of_check (suc (suc (suc d))) n (copies o p fs r)
unfolding copies
copies_form o p [] r each_nil a b q = q
copies_form o p (f ∷ fs) r (each_cons e es) a b q =
    form_cons (form_set e (form_slot (slot_small o a)) (form_get e (form_slot (slot_small p b))))
    (copies_form o p fs r es a b q)

pub joined_form : {d n : ℕ} (es rs : Exprs) → NodesInForm of_check d n es → NodesInForm of_check d n rs
    → NodesInForm of_check d n (es ⊕ rs)
unfolding ◌⊕◌
joined_form nil rs form_nil q = q
joined_form (cons e es) rs (form_cons f fs) q = form_cons f (joined_form es rs fs q)

-- Room for slots: n variables with slot 0, and nine temporaries for each level of nesting passed.
pub record Room (d n : ℕ) (sh : Shape) : Type 0 where
  pub few : n ≤ 32
  pub room : suc (length sh) + 9 * d ≤ n + 216

pub same_room : {d n : ℕ} {sh : Shape} → Room (suc d) n sh → Room d n sh
same_room r = record { few = r.few; room = omega (arith, r.room) }

pub more_room : {d n : ℕ} {sh : Shape} (sh₂ : Shape) → Room (suc d) n sh → length sh₂ ≤ 9
    → Room d n (sh ++ sh₂)
more_room {sh} sh₂ r l = record { few = r.few; room = omega (arith, r.room, length-append sh sh₂) }

pub block_room : {d n : ℕ} {sh : Shape} (ts : List DeclaredType) → Room (suc d) n sh → n + length ts ≤ 32
    → Room d (n + length ts) (sh ++ variables ts)
block_room {sh} ts r l = record {
  few = l;
  room = omega (arith, r.room, length-append sh (variables ts), length-map ts (λ t. true));
}

-- Nine slots more fit in any case.
pub slots_fit : {d n : ℕ} {sh : Shape} (sh₂ : Shape) → Room (suc d) n sh → length sh₂ ≤ 9
    → suc (length (sh ++ sh₂)) ≤ 256
slots_fit {sh} sh₂ r l = omega (arith, r.room, r.few, length-append sh sh₂)

-- No variable is added by temporaries.
pub still_variables : (sh : Shape) (ts : List DeclaredType)
    → variable_count (sh ++ (false ∷ temporaries ts)) ≡ variable_count sh
unfolding variable_count
still_variables sh ts = omega (arith, count_append sh (false ∷ temporaries ts), count_temporaries ts)

pub declared_small : {W : World} → Small W → (c : ℕ) → is_declared W c ≡ true → c ≤ 62
declared_small {W} 𝓢 c d = omega (arith, leb-true c W.count d, 𝓢.classes)

pub read_form : {d n : ℕ} (γ : Environment) (sh : Shape) (k : ℕ) (s : Slot)
    → variable_count sh ≡ length γ.slots
    → suc (length sh) ≤ 256
    → at_slot γ k ≡ some s → NodeInForm of_check (suc (suc d)) n (read_slot sh k)
unfolding read_slot
read_form γ sh zero s v l e = form_get id_small (form_slot (slot_small 0 (omega arith)))
read_form γ sh (suc k) s v l e =
    form_slot (slot_small (suc (position sh k))
    (omega (arith, position_within sh k (omega (arith, nth_lt γ.slots k s e)))))

module _ {W : World} (𝓢 : Small W) (𝓝 : NameLaws W) where
  pub field_small : (f c : ℕ) (t : DeclaredType) → field_type f (W.fields c) ≡ some t → c ≤ 62
  unfolding field_type
  field_small f c t e = bind_option_inv _ _ e λ i p e. declared_small 𝓢 c (𝓝.declared_field c f i p)

  -- R's inner block, with Identity in slot k and two more slots after it.
  renew_form : {d n : ℕ} (k c : ℕ) → is_declared W c ≡ true → n ≤ 256 → suc (suc k) ≤ 256
      → NodeInForm of_check (suc (suc (suc (suc (suc d))))) n (renew W k c)
  unfolding count
  renew_form k c i l b =
      let r = W.root c in let fs = W.fields r in
      let j = declared_small 𝓢 c i in let j' = declared_small 𝓢 r (𝓝.declared_root c i) in
      let k₀ = slot_small k (omega arith) in let k₁ = slot_small (suc k) (omega arith) in let k₂ =
      slot_small (suc (suc k)) b in
      let q : count (copies (suc k) (suc (suc k)) fs (cons (slot k) nil)) ≡ length fs + 1
      = count_copies (suc k) (suc (suc k)) fs (cons (slot k) nil) in
      let q' : length fs ≤ 16 = 𝓢.fields r in
      bare_form l (omega arith) (omega arith)
      (form_cons (form_assign k₁ (form_new (class_small c j)))
      (form_cons (form_assign k₂ (implementor_form r k j' (omega arith)))
      (form_cons (form_set id_small (form_slot k₁) (form_slot k₀))
      (form_cons (form_set imp_small (form_slot k₀) (form_slot k₁))
      (copies_form (suc k) (suc (suc k)) fs (cons (slot k) nil) (𝓢.names r) (omega arith) b
      (form_cons (form_slot k₀) form_nil))))))

  pub change_form : {d n x : ℕ} (γ : Environment) (sh : Shape) (k c : ℕ) (s : Slot) → is_declared W c ≡ true
      → variable_count sh ≡ length γ.slots
      → Room (suc d) n sh → at_slot γ k ≡ some s
      → NodeInForm of_check (suc (suc (suc (suc (suc (suc (suc x))))))) (suc (length sh))
      (plain_change W (suc (length sh)) sh k c)
  unfolding plain_change count
  change_form γ sh zero c s i v r e =
      let sh₂ = false ∷ false ∷ false ∷ [] in let l = slots_fit sh₂ r (omega arith) in
      let j = declared_small 𝓢 c i in let j' = declared_small 𝓢 (W.root c) (𝓝.declared_root c i) in
      let m : suc (suc (suc (length sh))) ≤ 256 = omega (arith, length-append sh sh₂) in
      let k₀ = slot_small (suc (length sh)) (omega arith) in
      block_form sh sh₂ refl l (omega arith) (omega arith)
      (each_cons identity_form (each_cons (class_form c j) (each_cons (class_form (W.root c) j') each_nil)))
      (form_cons (form_assign k₀ (form_get id_small (form_slot (slot_small 0 (omega arith)))))
      (form_cons (one_deeper (renew W (suc (length sh)) c) (renew_form (suc (length sh)) c i l m))
      (form_cons (form_slot k₀) form_nil)))
  change_form γ sh (suc k) c s i v r e =
      let sh₂ = false ∷ false ∷ false ∷ [] in let l = slots_fit sh₂ r (omega arith) in
      let j = declared_small 𝓢 c i in let j' = declared_small 𝓢 (W.root c) (𝓝.declared_root c i) in
      let m : suc (suc (suc (length sh))) ≤ 256 = omega (arith, length-append sh sh₂) in
      let k₀ = slot_small (suc (length sh)) (omega arith) in
      let own = slot_small (suc (position sh k))
      (omega (arith, position_within sh k (omega (arith, nth_lt γ.slots k s e)))) in
      block_form sh sh₂ refl l (omega arith) (omega arith)
      (each_cons identity_form (each_cons (class_form c j) (each_cons (class_form (W.root c) j') each_nil)))
      (form_cons (form_choose (form_is_null (form_assign k₀ (form_slot own))) form_literal
      (renew_form (suc (length sh)) c i l m))
      (form_cons (form_slot k₀) form_nil))
