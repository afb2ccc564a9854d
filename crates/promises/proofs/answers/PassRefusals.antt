-- The pass over headings refuses with 2 (for fields), 4, 5 or 6, on a line of the classes; the pass over
-- bodies with 4 or 7 to 11, on a line of the program.
use Prim.Native.Nat.{ℕ, suc, ◌+◌, ◌≤◌}
use mathlib.Core.Bool.{not, ◌&&◌}
use mathlib.Core.List.{List, [], ◌∷◌, ◌++◌, map}
use lib.ListN.{length}
use lib.Dec.{eqb, ltb}
use native.Mathlib.Omega.{arith}
use Rattle.language.specs.Limits.{Most}
use Rattle.language.specs.Results.{Checked}
use Rattle.language.specs.Frames.{at_slot, opened}
use Rattle.language.specs.Tree.{DeclaredType, bool, class, ExprType, known, null_type, Expr, literal}
use Rattle.language.specs.Tree.{slot, is_null, get, cast, new, change, assign}
use Rattle.language.specs.Tree.{set, call, choose, block, Exprs, nil, cons, size, sizes, Field, Declaration}
use Rattle.language.specs.Tree.{heading_lines, method_lines, methods_lines, Class, class_lines, classes_lines}
use Rattle.language.specs.Tree.{Program}
use Rattle.language.specs.World.{World, place, field_type, is_declared, is_declared_type}
use Rattle.language.specs.Effects.{apply_class, within}
use Rattle.language.specs.Program.{declared, kind_at, is_root_class, is_state_type, world}
use Rattle.language.specs.Headings.{may_extend, is_some, may_override, check_fields, check_parameters}
use Rattle.language.specs.Headings.{check_effects, check_methods, check_class, check_classes, headings}
use Rattle.language.specs.Environment.{Environment, fresh_slot, method_environment, start_environment}
use Rattle.language.specs.Typing.{need_class}
use Rattle.language.specs.Typing.{not_bool, fits, all_fit, join_types, can_change, locals_declared, type_of}
use Rattle.language.specs.Typing.{type_all, type_method, type_methods, type_classes, bodies}
use Rattle.promises.specs.Listed.{LineOf, HeadingRefusal, refuses_fields, refuses_heading_name}
use Rattle.promises.specs.Listed.{refuses_kind, refuses_override, BodyRefusal, refuses_name}
use Rattle.promises.specs.Listed.{refuses_slot}
use Rattle.promises.specs.Listed.{refuses_member, refuses_type, refuses_effect, refuses_change}
use Rattle.promises.proofs.answers.Refusals.{Among, Any, Gives, gives, refuses, gives_bind, gives_need}
use Rattle.promises.proofs.answers.Refusals.{gives_require}

module _ (most : Most) (P : List Class) (rows : ℕ) where
  abbrev HeadingGives : {A : Type 0} → Checked A → Type 0
  HeadingGives r = Gives (HeadingRefusal rows) Any r

  heading_on : {n at : ℕ} → (LineOf rows at → HeadingRefusal rows n at) → 1 ≤ at → at ≤ rows
      → Among (HeadingRefusal rows) n at
  heading_on k f b = record { is = k (record { from = f; to = b }) }

  fields_give : (before : List Field) (at : ℕ) (fs : List Field) → 1 ≤ at → at + length fs ≤ 1 + rows
      → HeadingGives (check_fields most P before at fs)
  unfolding check_fields
  fields_give before at [] f h = gives tt
  fields_give before at (x ∷ fs) f h = let b : at ≤ rows = omega (arith, h) in
      gives_require (ltb (length before) most.fields) (heading_on refuses_fields f b) λ _.
      gives_require (is_declared_type (world P) x.type) (heading_on refuses_heading_name f b) λ _.
      gives_require (not (is_some (place x.name before))) (heading_on refuses_heading_name f b) λ _.
      gives_require (not (is_state_type P x.type)) (heading_on refuses_kind f b) λ _.
      fields_give (before ++ (x ∷ [])) (at + 1) fs (omega (arith, f)) (omega (arith, h))

  parameters_give : (at : ℕ) (ts : List DeclaredType) → 1 ≤ at → at + length ts ≤ 1 + rows
      → HeadingGives (check_parameters most P at ts)
  unfolding check_parameters
  parameters_give at [] f h = gives tt
  parameters_give at (t ∷ ts) f h =
      gives_require (is_declared_type (world P) t) (heading_on refuses_heading_name f (omega (arith, h))) λ _.
      parameters_give (at + 1) ts (omega (arith, f)) (omega (arith, h))

  effects_give : (last at : ℕ) (cs : List ℕ) → 1 ≤ at → at + length cs ≤ 1 + rows
      → HeadingGives (check_effects most P last at cs)
  unfolding check_effects
  effects_give last at [] f h = gives tt
  effects_give last at (c ∷ cs) f h = let b : at ≤ rows = omega (arith, h) in
      gives_require (is_declared (world P) c) (heading_on refuses_heading_name f b) λ _.
      gives_require (is_root_class P c && ltb last c) (heading_on refuses_kind f b) λ _.
      effects_give c (at + 1) cs (omega (arith, f)) (omega (arith, h))

  methods_give : (super : ℕ) (before : List Declaration) (at : ℕ) (ms : List Declaration) → 1 ≤ at
      → at + methods_lines ms ≤ 1 + rows → HeadingGives (check_methods most P super before at ms)
  unfolding check_methods methods_lines method_lines heading_lines
  methods_give super before at [] f h = gives tt
  methods_give super before at (m ∷ ms) f h = let b : at ≤ rows = omega (arith, h) in
      gives_require (is_declared_type (world P) m.result) (heading_on refuses_heading_name f b) λ _.
      gives_require (not (is_some (declared before m.name))) (heading_on refuses_heading_name f b) λ _.
      gives_require (may_override m ((world P).method super m.name)) (heading_on refuses_override f b) λ _.
      gives_bind (parameters_give (at + 1) m.parameters (omega (arith, f)) (omega (arith, h))) λ _ _.
      gives_bind (effects_give 0 (at + 1 + length m.parameters) m.effects (omega (arith, f))
      (omega (arith, h)))
      λ _ _. methods_give super (m ∷ before) (at + method_lines m) ms (omega (arith, f)) (omega (arith, h))

  class_gives : (k at : ℕ) (c : Class) → 1 ≤ at → at + class_lines c ≤ 1 + rows
      → HeadingGives (check_class most P k at c)
  unfolding check_class class_lines
  class_gives k at c f h = let b : at ≤ rows = omega (arith, h) in
      gives_require (ltb c.super k) (heading_on refuses_heading_name f b) λ _.
      gives_require (may_extend c.kind (kind_at P c.super)) (heading_on refuses_kind f b) λ _.
      gives_bind (fields_give ((world P).fields c.super) (at + 1) c.fields (omega (arith, f))
      (omega (arith, h)))
      λ _ _. methods_give c.super [] (at + 1 + length c.fields) c.methods (omega (arith, f))
      (omega (arith, h))

  classes_give : (k at : ℕ) (cs : List Class) → 1 ≤ at → at + classes_lines cs ≤ 1 + rows
      → HeadingGives (check_classes most P k at cs)
  unfolding check_classes classes_lines
  classes_give k at [] f h = gives tt
  classes_give k at (c ∷ cs) f h = gives_bind (class_gives k at c f (omega (arith, h))) λ _ _.
      classes_give (suc k) (at + class_lines c) cs (omega (arith, f)) (omega (arith, h))

-- The pass over headings refuses as listed, where the classes take no more lines than there are rows.
pub heading_refusals : (most : Most) (P : List Class) (rows : ℕ) → classes_lines P ≤ rows
    → Gives (HeadingRefusal rows) Any (headings most P)
unfolding headings
heading_refusals most P rows l = classes_give most P rows 1 1 P (omega arith) (omega (arith, l))

module _ (W : World) (rows : ℕ) where
  abbrev BodyGives : {A : Type 0} → Checked A → Type 0
  BodyGives r = Gives (BodyRefusal rows) Any r

  on : {n at : ℕ} → (LineOf rows at → BodyRefusal rows n at) → 1 ≤ at → at ≤ rows
      → Among (BodyRefusal rows) n at
  on k f b = record { is = k (record { from = f; to = b }) }

  class_needed : {B : Type 0} (t : ExprType) {n l : ℕ} {k : ℕ → Checked B} → Among (BodyRefusal rows) n l
      → ((c : ℕ) → BodyGives (k c)) → BodyGives (need_class t n l k)
  unfolding need_class
  class_needed (known bool) w f = refuses w.is
  class_needed (known (class c)) w f = f c
  class_needed null_type w f = refuses w.is

  locals_give : (at : ℕ) (ts : List DeclaredType) → 1 ≤ at → at + length ts ≤ 1 + rows
      → BodyGives (locals_declared W at ts)
  unfolding locals_declared
  locals_give at [] f h = gives tt
  locals_give at (t ∷ ts) f h =
      gives_require (is_declared_type W t) (on refuses_name f (omega (arith, h))) λ _.
      locals_give (at + 1) ts (omega (arith, f)) (omega (arith, h))

  mutual
    unfolding type_of size

    type_gives : (e : Expr) (at : ℕ) (γ : Environment) → 1 ≤ at → at + size e ≤ 1 + rows
        → BodyGives (type_of W e at γ)
    type_gives (literal l) at γ f h = gives tt
    type_gives (slot k) at γ f h = gives_need (at_slot γ k) (on refuses_slot f (omega (arith, h))) λ s.
        gives tt
    type_gives (is_null e) at γ f h = let b : at ≤ rows = omega (arith, h) in
        gives_bind (type_gives e (at + 1) γ (omega (arith, f)) (omega (arith, h))) λ a _.
        gives_require (not_bool a.type) (on refuses_type f b) λ _. gives tt
    type_gives (get n e) at γ f h = let b : at ≤ rows = omega (arith, h) in
        gives_bind (type_gives e (at + 1) γ (omega (arith, f)) (omega (arith, h))) λ a _.
        class_needed a.type (on refuses_type f b) λ c.
        gives_need (field_type n (W.fields c)) (on refuses_member f b) λ t. gives tt
    type_gives (cast c e) at γ f h = let b : at ≤ rows = omega (arith, h) in
        gives_bind (type_gives e (at + 1) γ (omega (arith, f)) (omega (arith, h))) λ a _.
        gives_require (is_declared W c) (on refuses_name f b) λ _.
        gives_require (not_bool a.type) (on refuses_type f b) λ _. gives tt
    type_gives (new c) at γ f h = gives_require (W.makes c) (on refuses_name f (omega (arith, h))) λ _.
        gives tt
    type_gives (change k d) at γ f h = let b : at ≤ rows = omega (arith, h) in
        gives_require (is_declared W d) (on refuses_name f b) λ _.
        gives_need (at_slot γ k) (on refuses_slot f b) λ s.
        class_needed (known s.current) (on refuses_change f b) λ c.
        gives_require (can_change W c d) (on refuses_change f b) λ _. gives tt
    type_gives (assign k e) at γ f h = let b : at ≤ rows = omega (arith, h) in
        gives_bind (type_gives e (at + 1) γ (omega (arith, f)) (omega (arith, h))) λ a _.
        gives_require (not (eqb k 0)) (on refuses_slot f b) λ _.
        gives_need (at_slot a.slots k) (on refuses_slot f b) λ s.
        gives_require (fits W a.type s.current) (on refuses_type f b) λ _. gives tt
    type_gives (set n e e') at γ f h = let b : at ≤ rows = omega (arith, h) in
        gives_bind (type_gives e (at + 1) γ (omega (arith, f)) (omega (arith, h))) λ a _.
        gives_bind (type_gives e' (at + 1 + size e) a.slots (omega (arith, f)) (omega (arith, h))) λ a' _.
        class_needed a.type (on refuses_type f b) λ c.
        gives_need (field_type n (W.fields (apply_class W a'.effect c))) (on refuses_member f b) λ t.
        gives_require (fits W a'.type t) (on refuses_type f b) λ _. gives tt
    type_gives (call m e es) at γ f h = let b : at ≤ rows = omega (arith, h) in
        gives_bind (type_gives e (at + 1) γ (omega (arith, f)) (omega (arith, h))) λ a _.
        gives_bind (types_give es (at + 1 + size e) a.slots (omega (arith, f)) (omega (arith, h))) λ a' _.
        class_needed a.type (on refuses_type f b) λ c.
        gives_need (W.method (apply_class W a'.effect c) m) (on refuses_member f b) λ M.
        gives_require (eqb (length a'.types) (length M.parameters)) (on refuses_member f b) λ _.
        gives_require (all_fit W a'.types M.parameters) (on refuses_type f b) λ _. gives tt
    type_gives (choose e x y) at γ f h = let b : at ≤ rows = omega (arith, h) in
        gives_bind (type_gives e (at + 1) γ (omega (arith, f)) (omega (arith, h))) λ a _.
        gives_bind (type_gives x (at + 1 + size e) a.slots (omega (arith, f)) (omega (arith, h))) λ a' _.
        gives_bind (type_gives y (at + 1 + size e + size x) a.slots (omega (arith, f)) (omega (arith, h)))
        λ a'' _.
        gives_require (not (not_bool a.type)) (on refuses_type f b) λ _.
        gives_need (join_types W a'.type a''.type) (on refuses_type f b) λ t. gives tt
    type_gives (block ts es) at γ f h =
        gives_bind (locals_give (at + 1) ts (omega (arith, f)) (omega (arith, h))) λ _ _.
        gives_bind (types_give es (at + 1 + length ts) (opened γ (map fresh_slot ts)) (omega (arith, f))
        (omega (arith, h))) λ a _. gives tt

    types_give : (es : Exprs) (at : ℕ) (γ : Environment) → 1 ≤ at → at + sizes es ≤ 1 + rows
        → BodyGives (type_all W es at γ)
    types_give nil at γ f h = gives tt
    types_give (cons e es) at γ f h = gives_bind (type_gives e at γ f (omega (arith, h))) λ a _.
        gives_bind (types_give es (at + size e) a.slots (omega (arith, f)) (omega (arith, h))) λ a' _.
        gives tt

  method_gives : (owner number at : ℕ) (m : Declaration) → 1 ≤ at → at + method_lines m ≤ 1 + rows
      → BodyGives (type_method W owner number at m)
  unfolding type_method method_lines heading_lines
  method_gives owner number at m f h = let b : at ≤ rows = omega (arith, h) in
      gives_bind (type_gives m.body (at + heading_lines m) (method_environment owner m.parameters)
      (omega (arith, f)) (omega (arith, h))) λ a _.
      gives_require (fits W a.type m.result) (on refuses_type f b) λ _.
      gives_require (within a.effect (W.effect number)) (on refuses_effect f b) λ _. gives tt

  bodies_of_methods : (owner number at : ℕ) (ms : List Declaration) → 1 ≤ at
      → at + methods_lines ms ≤ 1 + rows → BodyGives (type_methods W owner number at ms)
  unfolding type_methods methods_lines
  bodies_of_methods owner number at [] f h = gives tt
  bodies_of_methods owner number at (m ∷ ms) f h =
      gives_bind (method_gives owner number at m f (omega (arith, h))) λ _ _.
      bodies_of_methods owner (suc number) (at + method_lines m) ms (omega (arith, f)) (omega (arith, h))

  bodies_of_classes : (k number at : ℕ) (cs : List Class) → 1 ≤ at → at + classes_lines cs ≤ 1 + rows
      → BodyGives (type_classes W k number at cs)
  unfolding type_classes classes_lines class_lines
  bodies_of_classes k number at [] f h = gives tt
  bodies_of_classes k number at (c ∷ cs) f h =
      gives_bind (bodies_of_methods k number (at + 1 + length c.fields) c.methods (omega (arith, f))
      (omega (arith, h)))
      λ _ _. bodies_of_classes (suc k) (number + length c.methods) (at + class_lines c) cs
      (omega (arith, f)) (omega (arith, h))

-- The pass over bodies refuses as listed, where the program takes no more lines than there are rows.
pub body_refusals : (p : Program) (rows : ℕ) → 1 + classes_lines p.classes + size p.start ≤ rows
    → Gives (BodyRefusal rows) Any (bodies p)
unfolding bodies
body_refusals p rows l = let W = world p.classes in
    gives_bind (bodies_of_classes W rows 1 0 1 p.classes (omega arith) (omega (arith, l))) λ _ _.
    gives_bind (type_gives W rows p.start (2 + classes_lines p.classes) start_environment (omega arith)
    (omega (arith, l))) λ _ _. gives tt
