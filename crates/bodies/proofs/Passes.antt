-- The pass over a program: each turn of its loop, and its end. Assumes nothing.
use mathlib.Core.Path.{◌≡◌, refl, sym, ap, ◌∙◌}
use mathlib.Core.Option.{some}
use mathlib.Core.List.{List, [], ◌∷◌}
use Prim.Native.Nat.{ℕ, suc, ◌+◌, ◌*◌, ◌≤◌, ◌<◌}
use native.Mathlib.Omega.{arith}
use lib.ListN.{length, get_or}
use Rattle.language.specs.Lists.{nth}
use Rattle.language.specs.Results.{accept, refuse, Pass, passed, bind_checked}
use Rattle.language.specs.Tree.{heading_lines, method_lines, size, classes_lines, Program}
use Rattle.language.specs.World.{World}
use Rattle.language.specs.Program.{world}
use Rattle.language.specs.Environment.{start_environment}
use Rattle.language.specs.Typing.{Typed, type_of, type_classes, bodies}
use Rattle.language.specs.LookupClasses.{LooksUp}
use Rattle.language.specs.WellFormed.{Each, each_nil, each_cons}
use Rattle.language.specs.MethodTables.{PlacedMethod, placed_methods}
use Rattle.language.specs.Layout.{start_row}
use Rattle.std.specs.Prelude.{Ok, Err}
use Rattle.language.specs.declared.Refusal.{Refusal}
use Rattle.language.proofs.Refusals.{result_err}
use Rattle.types.specs.declared.Typed.{Typed as TypedCase}
use Rattle.types.specs.Answers.{Answer, answered, absent, half}
use Rattle.expressions.specs.Cycle.{Pre, Post, Is}
use Rattle.bodies.specs.Whole.{body_of, body_at, environment_of, type_numbered, PreMethodBody}
use Rattle.bodies.specs.Whole.{PostMethodBody, BodiesReady, BodiesDone, Verdict, verdict_of}
use Rattle.expressions.proofs.Typings.{looks_frame}
use Rattle.expressions.proofs.Turns.{accepted_of}
use Rattle.bodies.proofs.Placed.{Apart, apart, type_placed, typed_placed, by_classes}
use Rattle.bodies.proofs.Methods.{not_passed}
use Rattle.bodies.proofs.Starts.{start_scope, start_pre, start_is}

-- ---- the methods from a number on

-- The lookup classes of a method's body.
abbrev pub Looks : World → List ℕ → PlacedMethod → Type 0
Looks W C m = LooksUp W C (body_of m) (environment_of m) (body_at m)

-- Before method i: the methods that are left, which stand from row `from` on, and what their passing gives.
pub record Left (p : Program) (C : List ℕ) (i from : ℕ) (ms : List PlacedMethod) : Type 0 where
  pub places : (j : ℕ) → nth (placed_methods p.classes) (i + j) ≡ nth ms j
  pub many : i + length ms ≡ length (placed_methods p.classes)
  pub rows : Apart from ms (start_row p)
  pub same : type_classes (world p.classes) 1 0 1 p.classes ≡ type_placed (world p.classes) i ms
  pub whole : (C'' : List ℕ) → length C'' ≡ length C → ((r : ℕ) → r < from → get_or C'' r 0 ≡ get_or C r 0)
      → Each (Looks (world p.classes) C'') ms
      → Each (Looks (world p.classes) C'') (placed_methods p.classes)

pub record Walk (p : Program) (C : List ℕ) (i : ℕ) : Type 0 where
  pub from : ℕ
  pub rest : List PlacedMethod
  pub left : Left p C i from rest

walk_start : (p : Program) (C : List ℕ) → Walk p C 0
walk_start p C = record {
  from = 0;
  rest = placed_methods p.classes;
  left = record {
    places = λ j. let z : 0 + j ≡ j = omega arith in ap (nth (placed_methods p.classes)) z;
    many = omega arith;
    rows = apart p.classes;
    same = typed_placed (world p.classes) p.classes;
    whole = λ C'' n e l. l;
  };
}

body_ends : (m : PlacedMethod) → body_at m + size (body_of m) ≡ m.row + method_lines m.declaration
unfolding method_lines heading_lines
body_ends m = omega arith

-- One method: it stands at its number, a refusal is the whole pass's, and else the next is looked at.
module _ {p : Program} {C : List ℕ} {i from : ℕ} {m : PlacedMethod} {ms : List PlacedMethod}
    (l : Left p C i from (m ∷ ms)) where
  first_there : nth (placed_methods p.classes) i ≡ some m
  unfolding nth
  first_there = let z : i ≡ i + 0 = omega arith in ap (nth (placed_methods p.classes)) z ∙ l.places 0

  first_refused : (n j : ℕ) → type_numbered (world p.classes) i m ≡ refuse n j
      → type_classes (world p.classes) 1 0 1 p.classes ≡ refuse n j
  unfolding type_placed bind_checked
  first_refused n j e = l.same ∙ rw e refl

  next_left : (C₁ : List ℕ) → length C₁ ≡ length C → ((r : ℕ) → r < body_at m → get_or C₁ r 0 ≡ get_or C r 0)
      → type_numbered (world p.classes) i m ≡ passed → Looks (world p.classes) C₁ m
      → Left p C₁ (i + 1) (m.row + method_lines m.declaration) ms
  unfolding type_placed bind_checked Apart nth
  next_left C₁ long kept e look = let z : suc i ≡ i + 1 = omega arith in record {
    places = λ j. let y : i + 1 + j ≡ i + suc j = omega arith in
        ap (nth (placed_methods p.classes)) y ∙ l.places (suc j);
    many = omega (arith, l.many);
    rows = l.rows.1;
    same = l.same ∙ (rw e (ap (λ (n : ℕ). type_placed (world p.classes) n ms) z));
    whole = λ C'' n k x. l.whole C'' (n ∙ long)
        (λ r o. k r (omega (arith, l.rows.0)) ∙ kept r (omega (arith, l.rows.0)))
        (each_cons
        (looks_frame (world p.classes) C₁ C'' n (body_of m) (environment_of m) (body_at m)
        (λ r u v. k r (omega (arith, body_ends m))) look)
        x);
  }

-- ---- the whole definition, by cases

bodies_refused : (p : Program) (n l : ℕ) → type_classes (world p.classes) 1 0 1 p.classes ≡ refuse n l
    → bodies p ≡ refuse n l
unfolding bodies bind_checked
bodies_refused p n l e = rw e

module _ (p : Program) (e : type_classes (world p.classes) 1 0 1 p.classes ≡ passed) where
  same_line : type_of (world p.classes) p.start (2 + classes_lines p.classes) start_environment
      ≡ type_of (world p.classes) p.start (start_row p + 1 + 1) start_environment
  same_line = let q : 2 + classes_lines p.classes ≡ start_row p + 1 + 1 = omega arith in
      ap (λ (x : ℕ). type_of (world p.classes) p.start x start_environment) q

  start_refused : (n l : ℕ)
      → type_of (world p.classes) p.start (start_row p + 1 + 1) start_environment ≡ refuse n l
      → bodies p ≡ refuse n l
  unfolding bodies bind_checked
  start_refused n l f = rw (e, same_line ∙ f)

  start_passed : (a : Typed)
      → type_of (world p.classes) p.start (start_row p + 1 + 1) start_environment ≡ accept a
      → bodies p ≡ passed
  unfolding bodies bind_checked
  start_passed a f = rw (e, same_line ∙ f)

-- ---- the loop

pub record Going (R E T A M F S C S' C' : List ℕ) (count many start width i : ℕ) : Type 0 where
  pub slots_long : length S' ≡ length S
  pub classes_long : length C' ≡ length C
  pub few : i ≤ many
  pub walk : (w : BodiesReady R E T A M F S count many start width) → Walk w.p C' i

pub going_start : {R E T A M F S C : List ℕ} {count many start width : ℕ}
    → Going R E T A M F S C S C count many start width 0
going_start {C = C} = record {
  slots_long = refl;
  classes_long = refl;
  few = omega arith;
  walk = λ r. walk_start r.p C;
}

module _ {R E T A M F S C S' C' : List ℕ} {count many start width i : ℕ}
    (w : Going R E T A M F S C S' C' count many start width i) where
  module _ (low : i < many) (r : BodiesReady R E T A M F S count many start width) where
    abbrev p : Program
    p = r.p

    -- The method at hand.
    record AtMethod : Type 0 where
      from : ℕ
      m : PlacedMethod
      ms : List PlacedMethod
      left : Left p C' i from (m ∷ ms)

    at-method : AtMethod
    at-method = go (w.walk r).rest (w.walk r).left
      where
        go : (ms : List PlacedMethod) → Left p C' i (w.walk r).from ms → AtMethod
        go [] l = absurd (omega (arith, l.many, r.counted))
        go (m ∷ ms) l = record { from = (w.walk r).from; m = m; ms = ms; left = l }

    pub going_method : PreMethodBody R E T A M F S' count width i
    going_method = record {
      p = p;
      m = at-method.m;
      depth = r.depth;
      headed = r.headed;
      there = first_there at-method.left;
      space = let s = r.space in record {
        wide = s.wide;
        deep = s.deep;
        arguments = s.arguments;
        slots = omega (arith, s.slots, w.slots_long);
      };
    }

  module _ (low : i < many) {S'' C'' : List ℕ} {v : Verdict}
      (l : PostMethodBody R E T A M F S' C' S'' C'' count width i v) where
    pub going_on : v ≡ Ok tt → Going R E T A M F S C S'' C'' count many start width (i + 1)
    unfolding going_method at-method
    going_on e = record {
      slots_long = l.slots_long ∙ w.slots_long;
      classes_long = l.classes_long ∙ w.classes_long;
      few = omega arith;
      walk = λ r.
          let p = r.p in
          let a = at-method low r in
          let is = l.is (going_method low r) in
          let t = accepted-pass (type_numbered (world p.classes) i a.m) (sym e ∙ is.out) in
          record {
            from = a.m.row + method_lines a.m.declaration;
            rest = a.ms;
            left = next_left a.left C'' l.classes_long is.before t (is.looks t);
          };
    }
      where
        accepted-pass : (q : Pass) → Ok tt ≡ verdict_of q → q ≡ passed
        accepted-pass (accept tt) e = refl
        accepted-pass (refuse n l) e = absurd (cc)

    pub going_refused : {f : Refusal} → v ≡ Err f
        → BodiesDone R E T A M F S C C'' count many start width (Err f)
    unfolding going_method at-method
    going_refused {f} e = record {
      long = l.classes_long ∙ w.classes_long;
      are = λ r.
          let p = r.p in
          let a = at-method low r in
          let is = l.is (going_method low r) in
          let z = bodies_refused p f.number f.line (first_refused a.left f.number f.line
          (result_err (λ (t : Unit {0}). t) (type_numbered (world p.classes) i a.m) f (sym is.out ∙ e))) in
          record { out = sym (ap verdict_of z); looks = λ x. not_passed f.number f.line z x };
    }

-- ---- the start block

module _ {R E T A M F S C S' C' : List ℕ} {count many start width i : ℕ}
    (w : Going R E T A M F S C S' C' count many start width i) (last : many ≤ i) where
  -- All methods have passed.
  record Ended (p : Program) : Type 0 where
    from : ℕ
    before : from ≤ start_row p
    same : type_classes (world p.classes) 1 0 1 p.classes ≡ passed
    whole : (C'' : List ℕ) → length C'' ≡ length C' → ((r : ℕ) → r < from → get_or C'' r 0 ≡ get_or C' r 0)
        → Each (Looks (world p.classes) C'') (placed_methods p.classes)

  ended : (r : BodiesReady R E T A M F S count many start width) → Ended r.p
  unfolding type_placed Apart
  ended r = go (w.walk r).rest (w.walk r).left
    where
      go : (ms : List PlacedMethod) → Left r.p C' i (w.walk r).from ms → Ended r.p
      go [] l = record {
        from = (w.walk r).from;
        before = l.rows;
        same = l.same;
        whole = λ C'' n k. l.whole C'' n k each_nil;
      }
      go (m ∷ ms) l = absurd (omega (arith, l.many, r.counted, last))

  module _ {S₁ : List ℕ} (e₁ : length S₁ ≡ length S') (z₁ : get_or S₁ 0 0 ≡ absent * half + absent) where
    pub going_start_pre : BodiesReady R E T A M F S count many start width
        → Pre R E T A M F S₁ (start + 1) (start_scope count width)
    going_start_pre r = start_pre r (e₁ ∙ w.slots_long) z₁

    module _ {S₂ C₂ : List ℕ} {a : Answer}
        (q : Post R E T A M F S₁ C' S₂ C₂ (start + 1) (start_scope count width) a) where
      start_of : (r : BodiesReady R E T A M F S count many start width)
          → Is (world r.p.classes) r.p.start start_environment (start_row r.p + 1) 1 S₂ C₂ a
      start_of r = start_is r (e₁ ∙ w.slots_long) z₁ q

      pub going_long : length C₂ ≡ length C
      going_long = q.kept.classes_long ∙ w.classes_long

      pub going_start_refused : {f : Refusal} → a ≡ Err f
          → BodiesDone R E T A M F S C C₂ count many start width (Err f)
      going_start_refused {f} e = record {
        long = going_long;
        are = λ r.
            let p = r.p in
            let z = start_refused p (ended r).same f.number f.line (result_err answered
            (type_of (world p.classes) p.start (start_row p + 1 + 1) start_environment) f
            (sym (start_of r).out ∙ e)) in
            record { out = sym (ap verdict_of z); looks = λ h. not_passed f.number f.line z h };
      }

      pub going_accepted : {x : TypedCase} → a ≡ Ok x
          → BodiesDone R E T A M F S C C₂ count many start width (Ok tt)
      unfolding placed_methods
      going_accepted g = record {
        long = going_long;
        are = λ r.
            let p = r.p in
            accepted_of (type_of (world p.classes) p.start (start_row p + 1 + 1) start_environment)
            (start_of r).out g λ t f o.
            let z = start_passed p (ended r).same t f in
            record {
              out = sym (ap verdict_of z);
              looks = λ h. record {
                methods = by_classes _ 1 0 p.classes
                    ((ended r).whole C₂ q.kept.classes_long (λ i l. q.kept.before i
                    (omega (arith, (ended r).before, r.started))));
                start = ((start_of r).accepted t f).looks;
              };
            };
      }
