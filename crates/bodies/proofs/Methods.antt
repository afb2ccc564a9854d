-- A method's verdict from what typing its body gives. Assumes nothing.
use mathlib.Core.Path.{◌≡◌, refl, sym, ap, ap₂, subst, ◌∙◌}
use mathlib.Core.Bool.{Bool, true, false}
use mathlib.Core.List.{List}
use Prim.Native.Nat.{ℕ, ◌+◌, ◌*◌, ◌≤◌, ◌<◌}
use native.Mathlib.Omega.{arith}
use lib.ListN.{length, get_or}
use Rattle.language.specs.Lists.{nth_lt}
use Rattle.language.specs.Results.{accept, refuse, Pass, passed, accept≢refuse, bind_checked, require}
use Rattle.language.specs.Rows.{P_parameter}
use Rattle.language.specs.Tree.{type_number, heading_lines, size, Class}
use Rattle.language.specs.World.{World}
use Rattle.language.specs.Effects.{within}
use Rattle.language.specs.Program.{world, world_with, effect_in}
use Rattle.language.specs.Typing.{Typed, fits, type_of, type_method}
use Rattle.language.specs.LookupClasses.{LooksUp}
use Rattle.language.specs.MethodTables.{PlacedMethod, placed_methods}
use Rattle.language.proofs.Nodes.{head}
use Rattle.language.specs.WellFormed.{NodeInForm}
use Rattle.language.proofs.Classes.{class_count}
use Rattle.layout.specs.Found.{MethodHere, method_here}
use Rattle.layout.specs.Headed.{MethodHeaded, method_headed, declared_nth}
use Rattle.layout.specs.HeldLaws.{few}
use Rattle.layout.specs.NodeForms.{of_width}
use Rattle.types.specs.declared.Typing.{Typing}
use Rattle.std.specs.Prelude.{Ok, Err}
use Rattle.language.specs.declared.Refusal.{Refusal}
use Rattle.language.specs.Refusals.{refusal}
use Rattle.language.proofs.Refusals.{result_err}
use Rattle.types.specs.declared.Typed.{Typed as TypedCase}
use Rattle.types.specs.declared.slots.Scope.{Scope}
use Rattle.types.specs.Answers.{Answer, answered, fresh_in}
use Rattle.types.specs.Tables.{CaseIn, is_fitting}
use Rattle.expressions.specs.Cycle.{Given, Views, Pre, Post, Is, Accepted as Accepted_as}
use Rattle.bodies.specs.Whole.{PreEnter, PostEnter, body_of, body_at, environment_of, type_numbered}
use Rattle.bodies.specs.Whole.{PreMethodBody, PostMethodBody, Verdict, verdict_of}
use Rattle.expressions.proofs.Worlds.{fitting_is}
use Rattle.expressions.proofs.Turns.{pre_of, post_is, case_low, type_low, accepted_of}
use Rattle.expressions.proofs.TypeNumbers.{type_number_case}
use Rattle.expressions.proofs.TypeLines.{types_number}
use Rattle.bodies.proofs.Placed.{placed_effect}
use Rattle.bodies.proofs.Within.{method_scoped, method_in_form}
use Rattle.bodies.proofs.Starts.{level_first, method_scope, method_views}

module _ {R E T A M F S : List ℕ} {count width number : ℕ}
    (w : PreMethodBody R E T A M F S count width number)
  where
    abbrev P : List Class
    P = w.p.classes

    abbrev m : PlacedMethod
    m = w.m

    here : MethodHere R E P m
    here = method_here w.headed.here number m w.there

    declares : MethodHeaded P m.declaration
    declares = method_headed P tt w.headed.passes m here.in_class

    owner-low : m.owner ≤ length P
    owner-low = (class_count P m.owner here.in_class.owning here.in_class.is_class).1

    body-inside : body_at m * 4 + 3 < length R
    body-inside = (head (body_of m) here.at.body).row

    -- What the tables have under its number.
    pub in_methods : number * 4 + 3 < length M
    in_methods = omega (
      arith,
      nth_lt (placed_methods P) number m w.there,
      w.headed.methods.long,
    )

    pub in_effects : number < length F
    in_effects = omega (
      arith,
      nth_lt (placed_methods P) number m w.there,
      w.headed.methods.long_effects,
    )

    row_is : get_or M (number * 4) 0 ≡ m.row
    row_is = w.headed.methods.rows number m w.there

    owner-is : get_or M (number * 4 + 1) 0 ≡ m.owner
    owner-is = w.headed.methods.owners number m w.there

    pub owner_small : get_or M (number * 4 + 1) 0 ≤ 64
    owner_small = omega (arith, owner-is, owner-low, w.headed.counted, few w.headed)

    parameters-are : get_or M (number * 4 + 2) 0 ≡ length m.declaration.parameters
    parameters-are = w.headed.methods.parameters number m w.there

    body_is : get_or M (number * 4 + 3) 0 ≡ body_at m
    unfolding heading_lines
    body_is = let q : m.row + (1 + length m.declaration.parameters + length m.declaration.effects)
        ≡ body_at m = omega arith in
        w.headed.methods.bodies number m w.there ∙ q

    pub effect_is : get_or F number 0 ≡ (world P).effect number
    unfolding world world_with effect_in
    effect_is = w.headed.methods.effects number m w.there
        ∙ sym (placed_effect P number m w.there)

    pub result_low : (u : ℕ) → u ≡ get_or R (get_or M (number * 4) 0 * 4 + 1) 0 → (u ≡ 255 → ⊥) → u ≤ 64
    result_low u e k =
        let z : u ≡ type_number m.declaration.result =
        e ∙ (ap (λ (x : ℕ). get_or R (x * 4 + 1) 0) row_is ∙ here.at.line.first) in
        omega (
          arith,
          z,
          (type_number_case w.headed m.declaration.result declares.result).2 (λ y. k (z ∙ y)),
        )

    wide : width ≤ length S
    wide = omega (arith, w.space.slots, level_first width w.depth)

    scoped : 1 + length m.declaration.parameters ≤ width
    scoped = method_scoped w.headed.here w.space number m w.there

    pub enter_ready : PreEnter R S (get_or M (number * 4) 0 + 1) (get_or M (number * 4 + 2) 0)
    enter_ready = record {
      slots = omega (arith, parameters-are, scoped, wide);
      rows = omega (arith, parameters-are, row_is, body-inside);
    }

    pub parameters_low : get_or M (number * 4 + 2) 0 ≤ 8
    parameters_low = omega (arith, parameters-are, here.in_form.few)

    pub row_low : get_or M (number * 4) 0 < 60000
    row_low = omega (arith, row_is, w.headed.here.short, body-inside)

    pub row_inside : get_or M (number * 4) 0 * 4 + 3 < length R
    row_inside = omega (arith, row_is, body-inside)

    abbrev scope_is : Scope
    scope_is = method_scope count (get_or M (number * 4 + 1) 0) (get_or M (number * 4 + 2) 0) width

    given-body : {S₁ : List ℕ} → PostEnter R S S₁ (get_or M (number * 4 + 1) 0) (get_or M (number * 4) 0 + 1)
        (get_or M (number * 4 + 2) 0)
        → Given R E T A M F S₁ (get_or M (number * 4 + 3) 0) scope_is w.p (body_of m) (environment_of m)
        w.depth
    given-body {S₁} en =
        let n = length m.declaration.parameters in
        let q : 1 + n ≡ get_or M (number * 4 + 2) 0 + 1 = omega (arith, parameters-are) in
        record {
          headed = w.headed;
          encoded = rw body_is here.at.body;
          in_form = subst (λ (x : ℕ). NodeInForm (of_width width) w.depth x (body_of m)) q
              (method_in_form w.headed.here w.space number m w.there);
          views = subst
              (λ (x : ℕ). Views (world P) (environment_of m) S₁ x) q
              (method_views w.headed m.owner owner-low m.declaration.parameters
              (declared_nth P declares.parameters) S₁
              (omega (arith, en.long, scoped, wide))
              (en.this ∙ ap fresh_in owner-is)
              (λ i l. en.parameters i (omega (arith, parameters-are, l))
              ∙ ap fresh_in (ap (λ (x : ℕ). get_or R ((x + 1 + i) * 4 + 1) 0) row_is
              ∙ types_number P_parameter R m.declaration.parameters (m.row + 1)
              here.at.parameters i l)));
          room = record {
            this = omega arith;
            scoped = omega (arith, parameters-are, scoped);
            arguments = w.space.arguments;
            above = omega arith;
            room = omega (arith, en.long, w.space.slots, level_first width w.depth);
          };
        }

    pub body_pre : {S₁ : List ℕ} → PostEnter R S S₁ (get_or M (number * 4 + 1) 0) (get_or M (number * 4) 0 + 1)
        (get_or M (number * 4 + 2) 0)
        → Pre R E T A M F S₁ (get_or M (number * 4 + 3) 0) scope_is
    body_pre en = pre_of (given-body en)

    module _ {S₁ C S₂ C₂ : List ℕ} {r : Answer}
        (en : PostEnter R S S₁ (get_or M (number * 4 + 1) 0) (get_or M (number * 4) 0 + 1)
        (get_or M (number * 4 + 2) 0))
        (q : Post R E T A M F S₁ C S₂ C₂ (get_or M (number * 4 + 3) 0) scope_is r) where
      typed-is : Is (world P) (body_of m)
          (environment_of m) (body_at m)
          (get_or M (number * 4 + 2) 0 + 1) S₂ C₂ r
      typed-is = subst (λ (x : ℕ). Is (world P) (body_of m)
          (environment_of m) x (get_or M (number * 4 + 2) 0 + 1)
          S₂ C₂ r) body_is (post_is q (given-body en))

      typed-kept : ((i : ℕ) → i < body_at m → get_or C₂ i 0 ≡ get_or C i 0)
          × ((i : ℕ) → body_at m + size (body_of m) ≤ i
          → get_or C₂ i 0 ≡ get_or C i 0)
      typed-kept =
          let e : get_or E (get_or M (number * 4 + 3) 0) 0
          ≡ body_at m + size (body_of m) =
          ap (λ (x : ℕ). get_or E x 0) body_is ∙ (head (body_of m) here.at.body).end in (
            (λ i l. q.kept.before i (omega (arith, body_is, l))),
            λ i l. q.kept.after i (omega (arith, e, l)),
          )

-- What typing the body leaves.
pub record BodyTyped (R E T A M F S C S₂ C₂ : List ℕ) (count width number : ℕ) (r : Answer) : Type 0 where
  pub scope : ℕ
  pub slots_long : length S₂ ≡ length S
  pub classes_long : length C₂ ≡ length C
  pub is : (w : PreMethodBody R E T A M F S count width number)
      → Is (world w.p.classes) (body_of w.m) (environment_of w.m) (body_at w.m) scope S₂ C₂ r
      × (((i : ℕ) → i < body_at w.m → get_or C₂ i 0 ≡ get_or C i 0)
      × ((i : ℕ) → body_at w.m + size (body_of w.m) ≤ i → get_or C₂ i 0 ≡ get_or C i 0))

-- What the code reads of a method: the row of its M line, its class, its number of parameters, and the row of its body.
pub record MethodRead (M : List ℕ) (number at owner n body : ℕ) : Type 0 where
  pub row : at ≡ get_or M (number * 4) 0
  pub class : owner ≡ get_or M (number * 4 + 1) 0
  pub count : n ≡ get_or M (number * 4 + 2) 0
  pub start : body ≡ get_or M (number * 4 + 3) 0

module _ {R E T A M F S : List ℕ} {count width number at owner n body : ℕ} (e : MethodRead M number at owner n body)
  where
    pub read_ready : PreMethodBody R E T A M F S count width number → PreEnter R S (at + 1) n
    read_ready w = rw (e.row, e.count) (enter_ready w)

    pub read_pre : {S₁ : List ℕ} → PreMethodBody R E T A M F S count width number → PostEnter R S S₁ owner (at + 1) n
        → Pre R E T A M F S₁ body (method_scope count owner n width)
    read_pre w p = rw (e.start, e.class, e.count)
        (body_pre w (rw (e.row, e.class, e.count) at p))

    pub body_typed : {C S₁ S₂ C₂ : List ℕ} {r : Answer} → PostEnter R S S₁ owner (at + 1) n
        → Post R E T A M F S₁ C S₂ C₂ body (method_scope count owner n width) r
        → BodyTyped R E T A M F S C S₂ C₂ count width number r
    body_typed p q =
        let p' = rw (e.row, e.class, e.count) at p in
        let q' = rw (e.start, e.class, e.count) at q in
        record {
          scope = get_or M (number * 4 + 2) 0 + 1;
          slots_long = q.kept.slots_long ∙ p.long;
          classes_long = q.kept.classes_long;
          is = λ w. (typed-is w p' q', typed-kept w p' q');
        }

-- the definition, by cases
module _ (W : World) (number : ℕ) (m : PlacedMethod) where
  same_line : type_of W (body_of m) (m.row + 1 + heading_lines m.declaration) (environment_of m)
      ≡ type_of W (body_of m) (body_at m + 1) (environment_of m)
  unfolding heading_lines
  same_line =
      let q : m.row + 1 + (1 + length m.declaration.parameters + length m.declaration.effects)
      ≡ body_at m + 1 = omega arith in
      ap (λ (x : ℕ). type_of W (body_of m) x (environment_of m)) q

  by_refusal : (n l : ℕ) → type_of W (body_of m) (body_at m + 1) (environment_of m) ≡ refuse n l
      → type_numbered W number m ≡ refuse n l
  unfolding type_method bind_checked
  by_refusal n l e = rw (same_line ∙ e)

  module _ (a : Typed) (e : type_of W (body_of m) (body_at m + 1) (environment_of m) ≡ accept a) where
    by-type : fits W a.type m.declaration.result ≡ false
        → type_numbered W number m ≡ refuse 9 (m.row + 1)
    unfolding type_method bind_checked require
    by-type f = rw (same_line ∙ e, f)

    by-effect : fits W a.type m.declaration.result ≡ true
        → within a.effect (W.effect number) ≡ false
        → type_numbered W number m ≡ refuse 10 (m.row + 1)
    unfolding type_method bind_checked require
    by-effect f g = rw (same_line ∙ e, f, g)

    by_both : fits W a.type m.declaration.result ≡ true
        → within a.effect (W.effect number) ≡ true → type_numbered W number m ≡ passed
    unfolding type_method bind_checked require
    by_both f g = rw (same_line ∙ e, f, g)

pub not_passed : {X : Type 0} {q : Pass} (n k : ℕ) → q ≡ refuse n k → q ≡ passed → X
not_passed n k e f = absurd (accept≢refuse n k (sym e ∙ f))

module _ {R E T A M F S C S₂ C₂ : List ℕ} {count width number : ℕ} {r : Answer}
    (b : BodyTyped R E T A M F S C S₂ C₂ count width number r) where
  -- What is to be shown of the verdict.
  abbrev Shown : Verdict → PreMethodBody R E T A M F S count width number → Type 0
  Shown v w = (v ≡ verdict_of (type_numbered (world w.p.classes) number w.m))
      × (type_numbered (world w.p.classes) number w.m ≡ passed
      → LooksUp (world w.p.classes) C₂ (body_of w.m) (environment_of w.m) (body_at w.m))

  whole : (v : Verdict) → ((w : PreMethodBody R E T A M F S count width number) → Shown v w)
      → PostMethodBody R E T A M F S C S₂ C₂ count width number v
  whole v k = record {
    slots_long = b.slots_long;
    classes_long = b.classes_long;
    is = λ w. record { out = (k w).0; before = (b.is w).1.0; after = (b.is w).1.1; looks = (k w).1 };
  }

  -- A verdict that refuses.
  shown_refused : (w : PreMethodBody R E T A M F S count width number) (v : Verdict) (n l : ℕ)
      → type_numbered (world w.p.classes) number w.m ≡ refuse n l → v ≡ Err (refusal n l) → Shown v w
  shown_refused w v n l e f = (f ∙ sym (ap verdict_of e), λ x. not_passed n l e x)

  pub method_refused : {f : Refusal} → r ≡ Err f
      → PostMethodBody R E T A M F S C S₂ C₂ count width number (Err f)
  method_refused {f} e = whole (Err f) λ w.
      let W = world w.p.classes in
      let m = w.m in
      shown_refused w (Err f) f.number f.line (by_refusal W number m _ _
      (result_err answered (type_of W (body_of m) (body_at m + 1) (environment_of m)) f
      (sym (b.is w).0.out ∙ e))) refl

  module _ {x : TypedCase} (k : r ≡ Ok x) where
    -- What the body was accepted with.
    record BodyDid (w : PreMethodBody R E T A M F S count width number) : Type 0 where
      a : Typed
      typed_at : type_of (world w.p.classes) (body_of w.m) (body_at w.m + 1) (environment_of w.m)
          ≡ accept a
      is : x ≡ answered a
      accepted : Accepted_as (world w.p.classes) (body_of w.m) (environment_of w.m) (body_at w.m)
          b.scope S₂ C₂ a

    body-did : (w : PreMethodBody R E T A M F S count width number) → BodyDid w
    body-did w =
        let i = (b.is w).0 in
        accepted_of (type_of (world w.p.classes) (body_of w.m) (body_at w.m + 1)
        (environment_of w.m)) i.out k λ a q o.
        record { a = a; typed_at = q; is = o; accepted = i.accepted a q }

    pub body_case : PreMethodBody R E T A M F S count width number → CaseIn (length A) x.typing
    body_case w = let d = body-did w in
        subst (λ (y : TypedCase). CaseIn (length A) y.typing) (sym d.is)
        (case_low w.headed d.a.type d.accepted.declared)

    module _ (u : ℕ) (eu : u ≡ get_or R (get_or M (number * 4) 0 * 4 + 1) 0) (g : Bool)
        (eg : g ≡ is_fitting A x.typing u) where
      fits-of : (w : PreMethodBody R E T A M F S count width number)
          → g ≡ fits (world w.p.classes) (body-did w).a.type w.m.declaration.result
      fits-of w =
          let d = body-did w in
          eg ∙ (ap₂ (λ (t : Typing) (n : ℕ). is_fitting A t n) (ap (λ (y : TypedCase). y.typing) d.is)
          (eu ∙ (ap (λ (n : ℕ). get_or R (n * 4 + 1) 0) (row_is w) ∙ (here w).at.line.first))
          ∙ fitting_is w.headed d.a.type w.m.declaration.result
          (type_low w.headed d.a.type d.accepted.declared) (declares w).result)

      pub method_unfit : g ≡ false → {f : Refusal} → f ≡ refusal 9 (get_or M (number * 4) 0 + 1)
          → PostMethodBody R E T A M F S C S₂ C₂ count width number (Err f)
      method_unfit z {f} ef = whole (Err f) λ w.
          let d = body-did w in
          shown_refused w (Err f) 9 (w.m.row + 1)
          (by-type (world w.p.classes) number w.m d.a d.typed_at (sym (fits-of w) ∙ z))
          (ap Err (ef ∙ ap (λ (n : ℕ). refusal 9 (n + 1)) (row_is w)))

      module _ (z : g ≡ true) (h : Bool) (eh : h ≡ within x.effect (get_or F number 0)) where
        within_of : (w : PreMethodBody R E T A M F S count width number)
            → h ≡ within (body-did w).a.effect ((world w.p.classes).effect number)
        within_of w = eh ∙ ap₂ within (ap (λ (y : TypedCase). y.effect) (body-did w).is) (effect_is w)

        pub method_wide : h ≡ false → {f : Refusal} → f ≡ refusal 10 (get_or M (number * 4) 0 + 1)
            → PostMethodBody R E T A M F S C S₂ C₂ count width number (Err f)
        method_wide y {f} ef = whole (Err f) λ w.
            let d = body-did w in
            shown_refused w (Err f) 10 (w.m.row + 1)
            (by-effect (world w.p.classes) number w.m d.a d.typed_at (sym (fits-of w) ∙ z)
            (sym (within_of w) ∙ y))
            (ap Err (ef ∙ ap (λ (n : ℕ). refusal 10 (n + 1)) (row_is w)))

        pub method_accepted : h ≡ true
            → PostMethodBody R E T A M F S C S₂ C₂ count width number (Ok tt)
        method_accepted y = whole (Ok tt) λ w.
            let d = body-did w in
            let e = by_both (world w.p.classes) number w.m d.a d.typed_at (sym (fits-of w) ∙ z)
            (sym (within_of w) ∙ y) in
            (sym (ap verdict_of e), λ _. d.accepted.looks)
