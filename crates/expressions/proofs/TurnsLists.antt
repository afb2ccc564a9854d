-- Expressions in a row: the first, the rest, and what is typed of both. Assumes nothing.
use mathlib.Core.Path.{◌≡◌, refl, sym, ap, subst, ◌∙◌}
use mathlib.Core.Option.{some}
use mathlib.Core.List.{List, ◌∷◌}
use Prim.Native.Nat.{ℕ, zero, suc, ◌+◌, ◌-◌, ◌≤◌, ◌<◌}
use native.Mathlib.Omega.{arith}
use lib.ListN.{length, get_or}
use Rattle.language.specs.Lists.{Never, nth, inj}
use Rattle.language.specs.Results.{accept_injective, Checked, accept, refuse, bind_checked}
use Rattle.language.specs.Tree.{Program, ExprType, Expr, Exprs, nil, cons, size, sizes, count as how_many}
use Rattle.language.specs.World.{World}
use Rattle.language.specs.Effects.{join, apply_expr}
use Rattle.language.specs.Program.{world}
use Rattle.language.specs.Environment.{Environment}
use Rattle.language.specs.Typing.{Typed, TypedAll, type_of, type_all}
use Rattle.language.specs.Encoded.{Encoded}
use Rattle.language.specs.LookupClasses.{LooksUp, LooksUpAll}
use Rattle.language.specs.Translation.{typed_or}
use Rattle.language.proofs.Nodes.{Head}
use Rattle.layout.specs.Held.{Headed}
use Rattle.types.specs.declared.Typed.{Typed as TypedCase}
use Rattle.types.specs.declared.slots.Scope.{Scope}
use Rattle.std.specs.Prelude.{Ok}
use Rattle.types.specs.Answers.{Answer}
use Rattle.expressions.specs.Cycle.{Given, GivenAll, Views, Kept, Pre, Post, Declared, PreList}
use Rattle.expressions.specs.Cycle.{AcceptedAll}
use Rattle.expressions.proofs.Typings.{line_free, looks_frame}
use Rattle.expressions.proofs.TypeNumbers.{declared_after}
use Rattle.expressions.proofs.Turns.{list_pre, all_parts, pre_of, room_kept}
use Rattle.expressions.proofs.Turns.{bind_refused, bind_accepted}
use Rattle.expressions.proofs.TurnsNodes.{Did, did, row_of}

-- none left, or one and the rest
pub by_nil : (es : Exprs) (n : ℕ) → n ≡ how_many es → n ≡ 0 → (Q : Exprs → Type 0) → Q nil → Q es
unfolding how_many
by_nil nil n e z Q q = q
by_nil (cons x es) n e z Q q = absurd (omega (arith, e, z))

by_cons : (es : Exprs) (n : ℕ) → n ≡ how_many es → (n ≡ 0 → ⊥) → (Q : Exprs → Type 0)
    → ((x : Expr) (xs : Exprs) → n - 1 ≡ how_many xs → es ≡ cons x xs → Q (cons x xs)) → Q es
unfolding how_many
by_cons nil n e z Q q = absurd (z e)
by_cons (cons x es) n e z Q q = q x es (omega (arith, e)) refl

-- a list that is not empty, with what is given of it
pub by_list : {R E T A M F S : List ℕ} {at : ℕ} {scope : Scope} {n : ℕ}
    (ls : PreList R E T A M F S at scope n) → (n ≡ 0 → ⊥) → (Q : Exprs → Type 0)
    → ((e : Expr) (es : Exprs) → n - 1 ≡ how_many es
    → GivenAll R E T A M F S at scope ls.p (cons e es) ls.γ ls.d → Q (cons e es)) → Q ls.es
by_list {R} {E} {T} {A} {M} {F} {S} {at} {scope} {n} ls z Q f = by_cons ls.es n ls.many z
    (λ es. GivenAll R E T A M F S at scope ls.p es ls.γ ls.d → Q es) (λ e es m s g. f e es m g)
    ls.given

module _ {R E T A M F S : List ℕ} {at : ℕ} {scope : Scope} {p : Program} {γ : Environment} {d : ℕ} where
  pub list_first : {e : Expr} {es : Exprs} → GivenAll R E T A M F S at scope p (cons e es) γ d
      → Given R E T A M F S at scope p e γ d
  unfolding Encoded
  list_first g = record {
    headed = g.headed;
    encoded = g.encoded.0;
    in_form = (all_parts g).0;
    views = g.views;
    room = g.room;
  }

  pub list_rest : {e : Expr} {es : Exprs} {S' C C' : List ℕ} {x : TypedCase} {from to width top' : ℕ}
      → GivenAll R E T A M F S at scope p (cons e es) γ d → Kept S S' C C' from to width top'
      → (w : Did (world p.classes) e γ at scope.size S' C' x)
      → GivenAll R E T A M F S' (at + size e) scope p es w.a.slots d
  unfolding Encoded
  list_rest g k w = record {
    headed = g.headed;
    encoded = g.encoded.1;
    in_form = (all_parts g).1;
    views = w.accepted.views;
    room = room_kept g.room k;
  }

module _ {R E T A M F S : List ℕ} {at : ℕ} {scope : Scope} {n : ℕ}
    (pre : PreList R E T A M F S at scope n)
    (z : n ≡ 0 → ⊥) where
  pub first_pre : Pre R E T A M F S at scope
  first_pre = by_list pre z (λ _. Pre R E T A M F S at scope) λ e es m g. pre_of (list_first g)

  pub rest_pre : {S' C C' : List ℕ} {r : Answer} {x : TypedCase} → Post R E T A M F S C S' C' at scope r
      → r ≡ Ok x
      → PreList R E T A M F S' (get_or E at 0) scope (n - 1)
  rest_pre {S'} q ok =
      by_list pre z (λ _. PreList R E T A M F S' (get_or E at 0) scope (n - 1)) λ e es m g.
      subst (λ (k : ℕ). PreList R E T A M F S' k scope (n - 1)) (sym (row_of (list_first g)).end)
      (list_pre m (list_rest g q.kept (did (list_first g) q ok)))

-- what is typed of the first and of the rest
abbrev pub both : World → Typed → TypedAll → TypedAll
both W a b = record {
  types = apply_expr W b.effect a.type ∷ b.types;
  slots = b.slots;
  effect = join
      a.effect b.effect;
}

pub cons_accepted : (W : World) (e : Expr) (es : Exprs) (at : ℕ) (γ : Environment) (a : Typed)
    → type_of W e (at + 1) γ ≡ accept a
    → type_all W (cons e es) (at + 1) γ ≡ bind_checked (type_all W es (at + size e + 1) a.slots) λ b.
    accept (both W a b)
unfolding type_of
cons_accepted W e es at γ a h =
    let line : at + 1 + size e ≡ at + size e + 1 = omega arith in
    bind_accepted _ _ a h
    ∙ ap (λ (l : ℕ). bind_checked (type_all W es l a.slots) λ b. accept (both W a b)) line

pub cons_refused : (W : World) (e : Expr) (es : Exprs) (at : ℕ) (γ : Environment) (n l : ℕ)
    → type_of W e (at + 1) γ ≡ refuse n l → type_all W (cons e es) (at + 1) γ ≡ refuse n l
unfolding type_of
cons_refused W e es at γ n l h = bind_refused _ _ n l h

pub all_cons : {p : Program} {R E T A M F : List ℕ} {count : ℕ} {e : Expr} {es : Exprs} {γ : Environment}
    {at scope : ℕ} {S' C' S'' C'' : List ℕ} {x : TypedCase} {b : TypedAll}
    → Headed R E T A M F p count → (w : Did (world p.classes) e γ at scope S' C' x)
    → length C'' ≡ length C' → ((i : ℕ) → i < at + size e → get_or C'' i 0 ≡ get_or C' i 0)
    → AcceptedAll (world p.classes) es w.a.slots (at + size e) scope S'' C'' b
    → AcceptedAll (world p.classes) (cons e es) γ at scope S'' C'' (both (world p.classes) w.a b)
unfolding LooksUp nth
all_cons {p} {e = e} {es} {γ} {at} {scope} {S'} {C'} {S''} {C''} {x} {b} h w long f g = record {
  views = g.views;
  types = go;
  looks = (
    looks_frame (world p.classes) C' C'' long e γ at (λ i u v. f i v) w.accepted.looks,
    subst (λ (δ : Environment). LooksUpAll (world p.classes) C'' es δ (at + size e))
        (sym (ap (λ (q : Checked Typed). (typed_or q).slots)
        (line_free (world p.classes) e (at + 1) 0 γ w.typed_at))) g.looks,
  );
}
  where
    go : (i : ℕ) (t : ExprType)
        → nth (apply_expr (world p.classes) b.effect w.a.type ∷ b.types) i ≡ some t
        → Declared (world p.classes) t
    go zero t q = subst (Declared (world p.classes)) (inj q)
        (declared_after h b.effect w.a.type w.accepted.declared)
    go (suc i) t q = g.types i t q

-- nothing is typed of none
pub none_accepted : (W : World) (γ : Environment) (at scope : ℕ) (S C : List ℕ) (b : TypedAll)
    → Views W γ S scope → type_all W nil (at + 1) γ ≡ accept b → AcceptedAll W nil γ at scope S C b
unfolding type_of LooksUp nth
none_accepted W γ at scope S C b v q = subst (λ (x : TypedAll). AcceptedAll W nil γ at scope S C x)
    (accept_injective q) (record { views = v; types = λ i u w. absurd (Never w); looks = tt })

-- a list's first node ends within the list
ends_in : {R E : List ℕ} {at : ℕ} (e : Expr) (es : Exprs)
    → Head R E e at → get_or E at 0 ≤ at + sizes (cons e es)
unfolding size
ends_in e es h = omega (arith, h.end)

module _ {R E T A M F S C : List ℕ} {at : ℕ} {scope : Scope} {n : ℕ} (z : n ≡ 0 → ⊥) {S' C' : List ℕ}
    {r : Answer}
    (q : Post R E T A M F S C S' C' at scope r) where
  pub first_after : {scope' : Scope} (ls : PreList R E T A M F S at scope' n) (i : ℕ)
      → at + sizes ls.es ≤ i → get_or C' i 0 ≡ get_or C i 0
  first_after ls i = by_list ls z (λ es. at + sizes es ≤ i → get_or C' i 0 ≡ get_or C i 0) λ e es m g l.
      q.kept.after i (omega (arith, ends_in e es (row_of (list_first g))))
