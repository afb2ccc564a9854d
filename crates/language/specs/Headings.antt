-- The pass over headings: passed, or its first refusal, 2 for fields, 4, 5 or 6, in line order
-- (document 01, "Headings"; 002, Figures 8 and 20).
use Rattle.std.specs.Prelude.{ℕ, suc, ◌+◌, Bool, true, false, not, ◌&&◌, ◌||◌, List, [], ◌∷◌, ◌++◌, length, eqb, leb, ltb}
use Rattle.std.proofs.Math.Option.{Option, none, some}
use Rattle.language.specs.Limits.{Most, of_check, limit_refusal, name_refusal, kind_refusal}
use Rattle.language.specs.Limits.{override_refusal}
use Rattle.language.specs.Results.{Pass, passed, bind_checked, require}
use Rattle.language.specs.Tree.{DeclaredType, bool, class, Kind, plain, root, state}
use Rattle.language.specs.Tree.{unknown, Field, Declaration, method_lines, Class}
use Rattle.language.specs.Tree.{class_lines}
use Rattle.language.specs.World.{Method, place, is_declared, is_declared_type}
use Rattle.language.specs.Effects.{member}
use Rattle.language.specs.Program.{is_plain, is_root, is_state, declared, kind_at, is_root_class}
use Rattle.language.specs.Program.{is_state_type, world}

-- Which kind of class may extend which; no kind stands for Object.
abbrev pub may_extend : Kind → Option Kind → Bool
may_extend plain none = true
may_extend plain (some k) = is_plain k
may_extend root none = true
may_extend root (some k) = is_plain k
may_extend state none = false
may_extend state (some k) = is_root k || is_state k
may_extend (unknown n) k = false

abbrev pub is_some : {A : Type 0} → Option A → Bool
is_some none = false
is_some (some a) = true

abbrev pub same_type : DeclaredType → DeclaredType → Bool
same_type bool bool = true
same_type bool (class d) = false
same_type (class c) bool = false
same_type (class c) (class d) = eqb c d

unfoldable pub same_types : List DeclaredType → List DeclaredType → Bool
same_types [] [] = true
same_types [] (u ∷ us) = false
same_types (t ∷ ts) [] = false
same_types (t ∷ ts) (u ∷ us) = same_type t u && same_types ts us

-- The numbers of X lines lie within an effect; a number that is no class of 1 to 64 does not.
unfoldable pub lines_within : List ℕ → ℕ → Bool
lines_within [] φ = true
lines_within (c ∷ cs) φ = ltb 0 c && (leb c of_check.classes && (member φ c && lines_within cs φ))

-- A method against the one it overrides, if there is one.
abbrev pub may_override : Declaration → Option Method → Bool
may_override m none = true
may_override m (some M) = same_type m.result M.result
    && (same_types m.parameters M.parameters && lines_within m.effects M.effect)

module _ (most : Most) (P : List Class) where
  -- F lines, after the fields inherited and declared before: 2, then 4, then 5.
  unfoldable pub check_fields : List Field → ℕ → List Field → Pass
  check_fields before at [] = passed
  check_fields before at (f ∷ fs) =
      require (ltb (length before) most.fields) limit_refusal at λ _.
      require (is_declared_type (world P) f.type) name_refusal at λ _.
      require (not (is_some (place f.name before))) name_refusal at λ _.
      require (not (is_state_type P f.type)) kind_refusal at λ _.
      check_fields (before ++ (f ∷ [])) (at + 1) fs

  -- P lines.
  unfoldable pub check_parameters : ℕ → List DeclaredType → Pass
  check_parameters at [] = passed
  check_parameters at (t ∷ ts) =
      require (is_declared_type (world P) t) name_refusal at λ _.
      check_parameters (at + 1) ts

  -- X lines after one that names `last`: each names a root, in strictly ascending order.
  unfoldable pub check_effects : ℕ → ℕ → List ℕ → Pass
  check_effects last at [] = passed
  check_effects last at (c ∷ cs) =
      require (is_declared (world P) c) name_refusal at λ _.
      require (is_root_class P c && ltb last c) kind_refusal at λ _.
      check_effects c (at + 1) cs

  -- M lines with their P and X lines, after the methods declared before.
  -- The overridden method is the nearest ancestor's.
  unfoldable pub check_methods : ℕ → List Declaration → ℕ → List Declaration → Pass
  check_methods super before at [] = passed
  check_methods super before at (m ∷ ms) =
      require (is_declared_type (world P) m.result) name_refusal at λ _.
      require (not (is_some (declared before m.name))) name_refusal at λ _.
      require (may_override m ((world P).method super m.name)) override_refusal at λ _.
      bind_checked (check_parameters (at + 1) m.parameters) λ _.
      bind_checked (check_effects 0 (at + 1 + length m.parameters) m.effects) λ _.
      check_methods super (m ∷ before) (at + method_lines m) ms

  -- Class k, its C line at `at`: the superclass is 0 or an earlier class, and of a kind that may be extended.
  unfoldable pub check_class : ℕ → ℕ → Class → Pass
  check_class k at c =
      require (ltb c.super k) name_refusal at λ _.
      require (may_extend c.kind (kind_at P c.super)) kind_refusal at λ _.
      bind_checked (check_fields ((world P).fields c.super) (at + 1) c.fields) λ _.
      check_methods c.super [] (at + 1 + length c.fields) c.methods

  unfoldable pub check_classes : ℕ → ℕ → List Class → Pass
  check_classes k at [] = passed
  check_classes k at (c ∷ cs) = bind_checked (check_class k at c) λ _.
      check_classes (suc k) (at + class_lines c) cs

  unfoldable pub headings : Pass
  headings = check_classes 1 1 P
