-- How the definition types R, U, B, J and Q, case by case, where their children are accepted, on whatever
-- line. Assumes nothing.
use mathlib.Core.Path.{◌≡◌, ◌∙◌}
use mathlib.Core.Bool.{true, false, not}
use mathlib.Core.Option.{none, some}
use mathlib.Core.List.{List, map}
use Prim.Native.Nat.{ℕ, ◌+◌}
use lib.Dec.{eqb, leb}
use lib.ListN.{length}
use Rattle.language.specs.Results.{Checked, accept, refuse, passed, bind_checked, need_checked, require}
use Rattle.language.specs.Frames.{at_slot, opened, closed}
use Rattle.language.specs.Tree.{DeclaredType, bool, class, ExprType, known, null_type, Expr, Exprs, change}
use Rattle.language.specs.Tree.{set, call, choose, block, size}
use Rattle.language.specs.World.{Method, World, field_type}
use Rattle.language.specs.Effects.{join, effect_of, apply_class}
use Rattle.language.specs.Environment.{Slot, Environment, fresh_slot}
use Rattle.language.specs.Typing.{Typed, TypedAll, typed, last_type, need_class, not_bool, all_fit}
use Rattle.language.specs.Typing.{join_types, join_environments, fits, can_change, apply_all, after_change}
use Rattle.language.specs.Typing.{locals_declared, type_of, type_all}
use Rattle.language.specs.LookupClasses.{Notes, LooksUp, LooksUpAll}
use Rattle.types.specs.Answers.{typing_case}
use Rattle.access.specs.Fields.{NoClass}
use Rattle.expressions.proofs.Typings.{line_free, line_free_all}

-- R
module _ (W : World) (k d l : ℕ) (γ : Environment) where
  pub change_no_name : leb d W.count ≡ false → type_of W (change k d) l γ ≡ refuse 4 l
  unfolding type_of require
  change_no_name e = rw e

  pub change_no_slot : leb d W.count ≡ true → at_slot γ k ≡ none → type_of W (change k d) l γ ≡ refuse 7 l
  unfolding type_of require need_checked
  change_no_slot e f = rw (e, f)

  pub change_bool_slot : (s : Slot) → leb d W.count ≡ true → at_slot γ k ≡ some s → s.current ≡ bool
      → type_of W (change k d) l γ ≡ refuse 11 l
  unfolding type_of require need_checked need_class
  change_bool_slot s e f g = rw (e, f, g)

  pub change_cannot : (s : Slot) (c : ℕ) → leb d W.count ≡ true → at_slot γ k ≡ some s
      → s.current ≡ class c
      → can_change W c d ≡ false
      → type_of W (change k d) l γ ≡ refuse 11 l
  unfolding type_of require need_checked need_class
  change_cannot s c e f g i = rw (e, f, g, i)

  pub change_can : (s : Slot) (c : ℕ) → leb d W.count ≡ true → at_slot γ k ≡ some s → s.current ≡ class c
      → can_change W c d ≡ true
      → type_of W (change k d) l γ
      ≡ accept (record {
        type = known (class d);
        slots = after_change W γ k s d;
        effect = effect_of (W.root d);
      })
  unfolding type_of require need_checked need_class
  change_can s c e f g i = rw (e, f, g, i)

pub looks_change : (W : World) (C : List ℕ) (k d : ℕ) (γ : Environment) (r : ℕ) → LooksUp W C (change k d) γ r
unfolding LooksUp
looks_change W C k d γ r = tt

-- U
module _ (W : World) (f : ℕ) (e e' : Expr) (l la lb : ℕ) (γ : Environment) (a b : Typed)
    (ta : type_of W e la γ ≡ accept a) (tb : type_of W e' lb a.slots ≡ accept b) where
  abbrev set_tail : Checked Typed
  set_tail =
      need_class a.type 9 l λ c.
      need_checked (field_type f (W.fields (apply_class W b.effect c))) 8 l λ t.
      require (fits W b.type t) 9 l λ _. typed b.type b.slots (join a.effect b.effect)

  set_opened : type_of W (set f e e') l γ ≡ set_tail
  unfolding type_of bind_checked
  set_opened = rw (line_free W e la (l + 1) γ ta, line_free W e' lb (l + 1 + size e) a.slots tb)

  pub set_not : (t : ExprType) → a.type ≡ t → NoClass (typing_case t)
      → type_of W (set f e e') l γ ≡ refuse 9 l
  unfolding need_class
  set_not (known bool) q k = set_opened ∙ rw q
  set_not (known (class c)) q k = absurd k
  set_not null_type q k = set_opened ∙ rw q

  module _ (c : ℕ) (q : a.type ≡ known (class c)) where
    pub set_missing : field_type f (W.fields (apply_class W b.effect c)) ≡ none
        → type_of W (set f e e') l γ ≡ refuse 8 l
    unfolding need_class need_checked
    set_missing m = set_opened ∙ rw (q, m)

    pub set_unfit : (t : DeclaredType) → field_type f (W.fields (apply_class W b.effect c)) ≡ some t
        → fits W b.type t ≡ false
        → type_of W (set f e e') l γ ≡ refuse 9 l
    unfolding need_class need_checked require
    set_unfit t m g = set_opened ∙ rw (q, m, g)

    pub set_done : (t : DeclaredType) → field_type f (W.fields (apply_class W b.effect c)) ≡ some t
        → fits W b.type t ≡ true
        → type_of W (set f e e') l γ
        ≡ accept (record { type = b.type; slots = b.slots; effect = join a.effect b.effect })
    unfolding need_class need_checked require
    set_done t m g = set_opened ∙ rw (q, m, g)

    pub set_looks : (C : List ℕ) (r : ℕ) → Notes C r (apply_class W b.effect c) → LooksUp W C e γ (r + 1)
        → LooksUp W C e' a.slots (r + 1 + size e)
        → LooksUp W C (set f e e') γ r
    unfolding LooksUp
    set_looks C r x y z = rw (line_free W e la 0 γ ta, line_free W e' lb 0 a.slots tb, q) (x, y, z)

-- B
module _ (W : World) (ts : List DeclaredType) (es : Exprs) (l : ℕ) (γ : Environment) where
  pub block_refused : (n k : ℕ) → locals_declared W (l + 1) ts ≡ refuse n k
      → type_of W (block ts es) l γ ≡ refuse n k
  unfolding type_of bind_checked
  block_refused n k e = rw e

  module _ (d : locals_declared W (l + 1) ts ≡ passed) where
    pub block_inner : (n k : ℕ)
        → type_all W es (l + 1 + length ts) (opened γ (map fresh_slot ts)) ≡ refuse n k
        → type_of W (block ts es) l γ ≡ refuse n k
    unfolding type_of bind_checked
    block_inner n k e = rw (d, e)

    pub block_done : (b : TypedAll)
        → type_all W es (l + 1 + length ts) (opened γ (map fresh_slot ts)) ≡ accept b
        → type_of W (block ts es) l γ
        ≡ accept (record {
          type = last_type null_type b.types;
          slots = closed (length γ.slots) b.slots;
          effect = b.effect;
        })
    unfolding type_of bind_checked
    block_done b e = rw (d, e)

pub looks_block : (W : World) (C : List ℕ) (ts : List DeclaredType) (es : Exprs) (γ : Environment) (r : ℕ)
    → LooksUpAll W C es (opened γ (map fresh_slot ts)) (r + 1 + length ts) → LooksUp W C (block ts es) γ r
unfolding LooksUp
looks_block W C ts es γ r x = x

-- J
module _ (W : World) (e p q : Expr) (l la lb lc : ℕ) (γ : Environment) (a b c : Typed)
    (ta : type_of W e la γ ≡ accept a)
    (tb : type_of W p lb a.slots ≡ accept b) (tc : type_of W q lc a.slots ≡ accept c) where
  abbrev choose_tail : Checked Typed
  choose_tail =
      require (not (not_bool a.type)) 9 l λ _. need_checked (join_types W b.type c.type) 9 l λ t.
      typed t (join_environments W b.slots c.slots) (join a.effect (join b.effect c.effect))

  choose_opened : type_of W (choose e p q) l γ ≡ choose_tail
  unfolding type_of bind_checked
  choose_opened = rw (
    line_free W e la (l + 1) γ ta,
    line_free W p lb (l + 1 + size e) a.slots tb,
    line_free W q lc (l + 1 + size e + size p) a.slots tc,
  )

  pub choose_not : not_bool a.type ≡ true → type_of W (choose e p q) l γ ≡ refuse 9 l
  unfolding require
  choose_not f = choose_opened ∙ rw f

  pub choose_apart : not_bool a.type ≡ false → join_types W b.type c.type ≡ none
      → type_of W (choose e p q) l γ ≡ refuse 9 l
  unfolding require need_checked
  choose_apart f g = choose_opened ∙ rw (f, g)

  pub choose_done : (t : ExprType) → not_bool a.type ≡ false → join_types W b.type c.type ≡ some t
      → type_of W (choose e p q) l γ
      ≡ accept (record {
        type = t;
        slots = join_environments W b.slots c.slots;
        effect = join a.effect (join b.effect c.effect);
      })
  unfolding require need_checked
  choose_done t f g = choose_opened ∙ rw (f, g)

  pub choose_looks : (C : List ℕ) (r : ℕ) → LooksUp W C e γ (r + 1)
      → LooksUp W C p a.slots (r + 1 + size e)
      → LooksUp W C q a.slots (r + 1 + size e + size p)
      → LooksUp W C (choose e p q) γ r
  unfolding LooksUp
  choose_looks C r x y z = rw (line_free W e la 0 γ ta) (x, y, z)

-- Q
module _ (W : World) (m : ℕ) (e : Expr) (es : Exprs) (l la lb : ℕ) (γ : Environment) (a : Typed)
    (b : TypedAll) (ta : type_of W e la γ ≡ accept a)
    (tb : type_all W es lb a.slots ≡ accept b) where
  abbrev call_tail : Checked Typed
  call_tail =
      need_class a.type 9 l λ c. need_checked (W.method (apply_class W b.effect c) m) 8 l λ M.
      require (eqb (length b.types) (length M.parameters)) 8 l λ _.
      require (all_fit W b.types M.parameters) 9 l λ _.
      typed (known M.result) (apply_all W M.effect b.slots)
      (join (join a.effect b.effect) M.effect)

  call_opened : type_of W (call m e es) l γ ≡ call_tail
  unfolding type_of bind_checked
  call_opened = rw (line_free W e la (l + 1) γ ta, line_free_all W es lb (l + 1 + size e) a.slots tb)

  pub call_not : (t : ExprType) → a.type ≡ t → NoClass (typing_case t)
      → type_of W (call m e es) l γ ≡ refuse 9 l
  unfolding need_class
  call_not (known bool) q k = call_opened ∙ rw q
  call_not (known (class c)) q k = absurd k
  call_not null_type q k = call_opened ∙ rw q

  module _ (c : ℕ) (q : a.type ≡ known (class c)) where
    pub call_none : W.method (apply_class W b.effect c) m ≡ none
        → type_of W (call m e es) l γ ≡ refuse 8 l
    unfolding need_class need_checked
    call_none w = call_opened ∙ rw (q, w)

    module _ (M : Method) (w : W.method (apply_class W b.effect c) m ≡ some M) where
      pub call_count : eqb (length b.types) (length M.parameters) ≡ false
          → type_of W (call m e es) l γ ≡ refuse 8 l
      unfolding need_class need_checked require
      call_count f = call_opened ∙ rw (q, w, f)

      pub call_unfit : eqb (length b.types) (length M.parameters) ≡ true
          → all_fit W b.types M.parameters ≡ false → type_of W (call m e es) l γ ≡ refuse 9 l
      unfolding need_class need_checked require
      call_unfit f g = call_opened ∙ rw (q, w, f, g)

      pub call_done : eqb (length b.types) (length M.parameters) ≡ true
          → all_fit W b.types M.parameters ≡ true
          → type_of W (call m e es) l γ
          ≡ accept (record {
            type = known M.result;
            slots = apply_all W M.effect b.slots;
            effect = join (join a.effect b.effect) M.effect;
          })
      unfolding need_class need_checked require
      call_done f g = call_opened ∙ rw (q, w, f, g)

    pub call_looks : (C : List ℕ) (r : ℕ) → Notes C r (apply_class W b.effect c) → LooksUp W C e γ (r + 1)
        → LooksUpAll W C es a.slots (r + 1 + size e)
        → LooksUp W C (call m e es) γ r
    unfolding LooksUp
    call_looks C r x y z = rw (line_free W e la 0 γ ta, line_free_all W es lb 0 a.slots tb, q) (x, y, z)

pub call_arguments : (W : World) (m : ℕ) (e : Expr) (es : Exprs) (l la : ℕ) (γ : Environment) (a : Typed)
    → type_of W e la γ ≡ accept a → (n k : ℕ)
    → type_all W es (l + 1 + size e) a.slots ≡ refuse n k → type_of W (call m e es) l γ ≡ refuse n k
unfolding type_of bind_checked
call_arguments W m e es l la γ a ta n k f = rw (line_free W e la (l + 1) γ ta, f)
