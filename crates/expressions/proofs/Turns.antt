-- How answers follow one another in the cycle: what is given of a node, its children, and what stays.
-- Assumes nothing.
use mathlib.Core.Path.{◌≡◌, refl, sym, ap, subst, ◌∙◌}
use mathlib.Core.Bool.{true}
use mathlib.Core.List.{List}
use Prim.Native.Nat.{ℕ, zero, suc, ◌+◌, ◌-◌, ◌*◌, ◌≤◌, ◌<◌}
use native.Mathlib.Omega.{arith}
use lib.ListN.{length, get_or, take}
use lib.Seq.{ext_get_or, get_or-take, length-take-le}
use Rattle.language.specs.Results.{Checked, accept, refuse, bind_checked, accept≢refuse, accept_injective}
use Rattle.language.specs.Tree.{Program, DeclaredType, bool, class, ExprType, known, null_type, Expr, Exprs}
use Rattle.language.specs.Tree.{size, count as how_many}
use Rattle.language.specs.World.{World, is_declared_type}
use Rattle.language.specs.Program.{world}
use Rattle.language.specs.Environment.{Environment}
use Rattle.language.specs.Typing.{Typed, type_of}
use Rattle.language.specs.LookupClasses.{LooksUp}
use Rattle.language.specs.Limits.{of_check}
use Rattle.language.specs.Rows.{code}
use Rattle.language.proofs.Nodes.{letter_of, head}
use Rattle.layout.specs.Held.{Headed}
use Rattle.layout.specs.NodeForms.{of_width, FormParts, FormsParts, form_parts, forms_parts}
use Rattle.types.specs.declared.Typed.{Typed as TypedCase}
use Rattle.types.specs.declared.slots.Scope.{Scope}
use Rattle.std.specs.Prelude.{Result, Ok, Err}
use Rattle.std.specs.Result.{IsErrAnd}
use Rattle.language.specs.declared.Refusal.{Refusal}
use Rattle.language.specs.Refusals.{refusal}
use Rattle.types.specs.Answers.{Answer, answer, answer_of, answered, typing_case}
use Rattle.types.specs.Tables.{CaseIn}
use Rattle.expressions.specs.Cycle.{Given, GivenAll, Views, Room, Kept, Pre, Post, Declared, Accepted}
use Rattle.expressions.specs.Cycle.{Is}
use Rattle.expressions.specs.Cycle.{PreList, raised}
use Rattle.expressions.proofs.Worlds.{class_low}
use Rattle.expressions.proofs.Typings.{looks_frame}

-- ---- what is given of an expression, and of several in a row

module _ {R E T A M F S : List ℕ} {at : ℕ} {scope : Scope} where
  abbrev pub pre_of : {p : Program} {e : Expr} {γ : Environment} {d : ℕ}
      → Given R E T A M F S at scope p e γ d → Pre R E T A M F S at scope
  pre_of {p} {e} {γ} {d} g = record { p = p; e = e; γ = γ; d = d; given = g }

  abbrev pub list_pre : {p : Program} {es : Exprs} {γ : Environment} {d n : ℕ} → n ≡ how_many es
      → GivenAll R E T A M F S at scope p es γ d → PreList R E T A M F S at scope n
  list_pre {p} {es} {γ} {d} m g = record { p = p; es = es; γ = γ; d = d; many = m; given = g }

  pub post_is : {C S' C' : List ℕ} {r : Answer} {p : Program} {e : Expr} {γ : Environment} {d : ℕ}
      → Post R E T A M F S C S' C' at scope r
      → Given R E T A M F S at scope p e γ d → Is (world p.classes) e γ at scope.size S' C' r
  post_is q g = q.is (pre_of g)

  pub post_of : {C S' C' : List ℕ} {r : Answer} → Kept S S' C C' at (get_or E at 0) scope.width scope.top
      → ((p : Program) (e : Expr) (γ : Environment) (d : ℕ) → Given R E T A M F S at scope p e γ d
      → Is (world p.classes) e γ at scope.size S' C' r)
      → Post R E T A M F S C S' C' at scope r
  post_of k f = record { kept = k; is = λ w. f w.p w.e w.γ w.d w.given }

  -- what its form tells of a node and of a list
  pub parts : {p : Program} {e : Expr} {γ : Environment} {d : ℕ} → Given R E T A M F S at scope p e γ d
      → FormParts (of_width scope.width) d scope.size e
  parts {e = e} g = form_parts (of_width scope.width) e g.in_form

  pub all_parts : {p : Program} {es : Exprs} {γ : Environment} {d : ℕ}
      → GivenAll R E T A M F S at scope p es γ d
      → FormsParts (of_width scope.width) d scope.size es
  all_parts {es = es} g = forms_parts (of_width scope.width) es g.in_form

  -- the node's row
  pub in_row : (pre : Pre R E T A M F S at scope)
      → (at * 4 + 3 < length R) × (at < length E) × (get_or R (at * 4) 0 ≡ code (letter_of pre.e))
      × (at < 60000)
  in_row pre = let h = head pre.e pre.given.encoded in
      (h.row, h.in_ends, h.letter, omega (arith, h.row, pre.given.headed.here.short))

-- ---- what stays

module _ {S S' C C' : List ℕ} {width : ℕ} where
  pub kept_wider : {from to top : ℕ} (from' to' top' : ℕ) → Kept S S' C C' from to width top → from' ≤ from
      → to ≤ to' → top' ≤ top → Kept S S' C C' from' to' width top'
  kept_wider from' to' top' k a b c = record {
    slots_long = k.slots_long;
    classes_long = k.classes_long;
    between = λ i l m. k.between i l (omega arith);
    before = λ i l. k.before i (omega arith);
    after = λ i l. k.after i (omega arith);
  }

  pub kept_then : {S'' C'' : List ℕ} {from to top : ℕ} → Kept S S' C C' from to width top
      → Kept S' S'' C' C'' from to width top → Kept S S'' C C'' from to width top
  kept_then a b = record {
    slots_long = b.slots_long ∙ a.slots_long;
    classes_long = b.classes_long ∙ a.classes_long;
    between = λ i l m. b.between i l m ∙ a.between i l m;
    before = λ i l. b.before i l ∙ a.before i l;
    after = λ i l. b.after i l ∙ a.after i l;
  }

pub kept_none : {S C : List ℕ} {from to width top : ℕ} → Kept S S C C from to width top
kept_none = record {
  slots_long = refl;
  classes_long = refl;
  between = λ i l m. refl;
  before = λ i l. refl;
  after = λ i l. refl;
}

-- slots change below the width or from the top on only
pub kept_slots : {S S' C : List ℕ} {from to width top : ℕ} → length S' ≡ length S
    → ((i : ℕ) → width ≤ i → i < top → get_or S' i 0 ≡ get_or S i 0) → Kept S S' C C from to width top
kept_slots e f = record {
  slots_long = e;
  classes_long = refl;
  between = f;
  before = λ i l. refl;
  after = λ i l. refl;
}

-- the table changes in one row only
pub kept_classes : {S C C' : List ℕ} {from to width top : ℕ} (at : ℕ) → length C' ≡ length C
    → ((i : ℕ) → (i ≡ at → ⊥) → get_or C' i 0 ≡ get_or C i 0) → from ≤ at → at < to
    → Kept S S C C' from to width top
kept_classes at e f l m = record {
  slots_long = refl;
  classes_long = e;
  between = λ i a b. refl;
  before = λ i a. f i (λ z. omega arith);
  after = λ i a. f i (λ z. omega arith);
}

-- the slots of one level more
pub one_level : (width d : ℕ) → 1 ≤ d → width * (d - 1) + width ≡ width * d
one_level width zero l = absurd (omega arith)
one_level width (suc d) l = let z : suc d - 1 ≡ d = omega arith in
    rw z (sym (level-sum width d))
  where
    level-sum : (w d : ℕ) → w * suc d ≡ w * d + w
    level-sum w d = omega arith

-- room for what comes next
pub room_next : {S S' : List ℕ} {scope : Scope} {d : ℕ} (scope' : Scope) (d' : ℕ)
    → Room S scope d
    → length S' ≡ length S
    → 1 ≤ scope'.size → scope'.size ≤ scope'.width → of_check.parameters ≤ scope'.width
    → scope'.width ≤ scope'.top
    → scope'.top + scope'.width * d' ≤ scope.top + scope.width * d → Room S' scope' d'
room_next scope' d' m a u v y w x = record {
  this = u;
  scoped = v;
  arguments = y;
  above = w;
  room = omega (arith, m.room, a, x);
}

-- n slots more are kept below the top for one level less
pub room_raised : {S S' : List ℕ} {scope : Scope} {d : ℕ} (n : ℕ) → Room S scope d
    → length S' ≡ length S → n ≤ scope.width → 1 ≤ d → Room S' (raised scope n) (d - 1)
room_raised {scope = scope} {d} n m a l o =
    room_next (raised scope n) (d - 1) m a m.this m.scoped m.arguments (omega (arith, m.above))
    (omega (arith, one_level scope.width d o))

pub room_child : {S : List ℕ} {scope : Scope} {d : ℕ} → Room S scope d → 1 ≤ d
    → Room S scope (d - 1)
room_child {scope = scope} {d} m l =
    room_next scope (d - 1) m refl m.this m.scoped m.arguments m.above
    (omega (arith, one_level scope.width d l))

pub room_kept : {S C S' C' : List ℕ} {scope : Scope} {d from to width top : ℕ} → Room S scope d
    → Kept S S' C C' from to width top → Room S' scope d
room_kept {scope = scope} {d} m k =
    room_next scope d m k.slots_long m.this m.scoped m.arguments m.above (omega arith)

pub room_slots : {S : List ℕ} {scope : Scope} {d : ℕ} → Room S scope d → scope.size ≤ length S
room_slots m = omega (arith, m.room, m.above, m.scoped)

-- ---- the slots in scope

take_same : (n : ℕ) (S S' : List ℕ) → n ≤ length S → length S' ≡ length S
    → ((i : ℕ) → i < n → get_or S' i 0 ≡ get_or S i 0) → take n S' ≡ take n S
take_same n S S' l e f =
    let a : length (take n S) ≡ n = length-take-le n S l in
    let b : length (take n S') ≡ n = length-take-le n S' (omega (arith, e)) in
    ext_get_or 0 (take n S') (take n S) (b ∙ sym a)
    (λ i m. let k : i < n = omega (arith, b) in get_or-take n S' i 0 k ∙ (f i k ∙ sym (get_or-take n S i 0 k)))

pub views_same : {W : World} {γ : Environment} {S S' : List ℕ} {scope : ℕ} → Views W γ S scope
    → scope ≤ length S → length S' ≡ length S
    → ((i : ℕ) → i < scope → get_or S' i 0 ≡ get_or S i 0) → Views W γ S' scope
views_same {S = S} {S'} {scope} v l e f =
    record { same = take_same scope S S' l e f ∙ v.same; current = v.current; declared = v.declared }

-- ---- types

pub declared_bool : {W : World} → Declared W (known bool)
declared_bool = record { class_in = λ c e. absurd (let z : ◌≡◌ {A = ℕ} 0 1 = cc in omega arith) }

pub declared_null : {W : World} → Declared W null_type
declared_null = record { class_in = λ c e. absurd (let z : ◌≡◌ {A = ℕ} 0 1 = cc in omega arith) }

pub declared_known : {W : World} (t : DeclaredType) → is_declared_type W t ≡ true → Declared W (known t)
declared_known bool h = declared_bool
declared_known {W} (class k) h = record { class_in = λ c e. let z : k ≡ c = cc in rw (← z) h }

-- a declared class's number is in the tables
module _ {p : Program} {R E T A M F : List ℕ} {count : ℕ} (h : Headed R E T A M F p count) where
  pub type_low : (t : ExprType) → Declared (world p.classes) t → (c : ℕ) → t ≡ known (class c) → c ≤ count
  type_low t d c e = class_low h c (d.class_in c e)

  pub case_low : (t : ExprType) → Declared (world p.classes) t → CaseIn (length A) (typing_case t)
  case_low (known bool) d = tt
  case_low (known (class c)) d =
      omega (arith, class_low h c (d.class_in c refl), h.classes.long_above, h.counted)
  case_low null_type d = tt

-- ---- answers

-- an answer that is no refusal is an accepted one
pub accepted_of : {X : Type 0} (q : Checked Typed) {r : Answer} {x : TypedCase} → r ≡ answer_of q → r ≡ Ok x
    → ((a : Typed) → q ≡ accept a → x ≡ answered a → X) → X
accepted_of (accept a) {r} {x} e f k = let g : x ≡ answered a = cc in k a refl g
accepted_of (refuse n l) e f k = absurd (cc)

-- what `?` returns of a refusal
pub passed_on : {A : Type 0} {f : Refusal} (r : Result A Refusal) → IsErrAnd r (λ (y : Refusal). y ≡ f) → r ≡ Err f
passed_on (Ok x) h = absurd h
passed_on (Err g) h = ap Err h

pub is_refused : {W : World} {e : Expr} {γ : Environment} {at scope : ℕ} {S C : List ℕ} {r : Answer} (n l : ℕ)
    → type_of W e (at + 1) γ ≡ refuse n l → r ≡ Err (refusal n l)
    → Is W e γ at scope S C r
is_refused n l e f = record {
  out = f ∙ sym (ap answer_of e);
  accepted = λ a q. absurd (accept≢refuse n l (sym e ∙ q));
}

pub is_accepted : {W : World} {e : Expr} {γ : Environment} {at scope : ℕ} {S C : List ℕ} {r : Answer}
    (a : Typed) → type_of W e (at + 1) γ ≡ accept a
    → r ≡ answer (typing_case a.type) a.effect → Accepted W e γ at scope S C a → Is W e γ at scope S C r
is_accepted {W} {e} {γ} {at} {scope} {S} {C} a h f k = record {
  out = f ∙ sym (ap answer_of h);
  accepted = λ b q. subst (λ (x : Typed). Accepted W e γ at scope S C x) (accept_injective (sym h ∙ q)) k;
}

-- one child's refusal is the node's
pub bind_refused : {A B : Type 0} (q : Checked A) (k : A → Checked B) (n l : ℕ) → q ≡ refuse n l
    → bind_checked q k ≡ refuse n l
unfolding bind_checked
bind_refused q k n l e = rw e

pub bind_accepted : {A B : Type 0} (q : Checked A) (k : A → Checked B) (a : A) → q ≡ accept a
    → bind_checked q k ≡ k a
unfolding bind_checked
bind_accepted q k a e = rw e

-- the table of a node stays where a later call does not touch it
pub looks_kept : (W : World) {S S' C C' : List ℕ} {from to width top : ℕ} (e : Expr) (γ : Environment)
    (at : ℕ)
    → Kept S S' C C' from to width top → at + size e ≤ from
    → LooksUp W C e γ at → LooksUp W C' e γ at
looks_kept W {C = C} {C'} e γ at k l h =
    looks_frame W C C' k.classes_long e γ at (λ i u v. k.before i (omega arith)) h
