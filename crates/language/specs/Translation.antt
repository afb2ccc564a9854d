-- The plain program (document 01, "The plain program"; 002, section 6), on trees and then on rows.
-- Each place where document 01 departs from 002 is marked DEPARTS.
use Rattle.std.specs.Prelude.{ℕ, zero, suc, ◌+◌, Bool, true, false, not, ◌||◌, List, [], ◌∷◌, ◌++◌, map, length, eqb}
use Rattle.std.proofs.Math.Option.{Option, none, some}
use Rattle.language.specs.Limits.{of_translator, object_class, identity_class, fickle_class, imp_field}
use Rattle.language.specs.Limits.{id_field, reserved_refusal}
use Rattle.language.specs.Results.{Checked, accept, refuse, Pass, passed, bind_checked, require}
use Rattle.language.specs.Results.{earlier}
use Rattle.language.specs.Frames.{opened}
use Rattle.language.specs.Rows.{row_of, rows_of, numbers_of}
use Rattle.language.specs.Tree.{DeclaredType, bool, class, ExprType, known, null_type, Expr}
use Rattle.language.specs.Tree.{literal, literal_null, slot, is_null, get, cast}
use Rattle.language.specs.Tree.{new, change, assign, set, call, choose, block, Exprs, nil, cons, plain}
use Rattle.language.specs.Tree.{Field, Declaration, Class, class_lines, Program, flatten_program}
use Rattle.language.specs.World.{Method, World, field_type}
use Rattle.language.specs.Effects.{no_effect, apply_class}
use Rattle.language.specs.Program.{world}
use Rattle.language.specs.Form.{form}
use Rattle.language.specs.Headings.{headings}
use Rattle.language.specs.Environment.{Environment, fresh_slot, method_environment, start_environment}
use Rattle.language.specs.Typing.{Typed}
use Rattle.language.specs.Typing.{TypedAll, type_of, type_all}
use Rattle.language.specs.Verdict.{check}

-- Class k becomes k + 2; Object becomes FickleObject by the same rule.
abbrev pub plain_class : ℕ → ℕ
plain_class c = suc (suc c)

-- Declared class types become Identity, bool stays.
abbrev pub plain_type : DeclaredType → DeclaredType
plain_type bool = bool
plain_type (class c) = class identity_class

abbrev pub plain_field : Field → Field
plain_field f = record { type = plain_type f.type; name = f.name }

-- The slots of a plain program after slot 0: variables of the source (true) and temporaries (false).
abbrev pub Shape : Type 0
Shape = List Bool

abbrev pub variables : List DeclaredType → Shape
variables ts = map (λ t. true) ts

abbrev pub temporaries : List DeclaredType → Shape
temporaries ts = map (λ t. false) ts

-- The place of the k-th variable, both from 0.
unfoldable pub position : Shape → ℕ → ℕ
position [] k = k
position (true ∷ sh) zero = zero
position (true ∷ sh) (suc k) = suc (position sh k)
position (false ∷ sh) k = suc (position sh k)

-- Slots renumbered; reading `this` is reading its `id`.
unfoldable pub plain_slot : Shape → ℕ → ℕ
plain_slot sh zero = 0
plain_slot sh (suc k) = suc (position sh k)

unfoldable pub read_slot : Shape → ℕ → Expr
read_slot sh zero = get id_field (slot 0)
read_slot sh (suc k) = slot (suc (position sh k))

-- Expressions one after another.
infixr 60 ◌then◌
abbrev pub ◌then◌ : Expr → Exprs → Exprs
◌then◌ e es = cons e es

infixr 60 ◌⊕◌
unfoldable pub ◌⊕◌ : Exprs → Exprs → Exprs
◌⊕◌ nil r = r
◌⊕◌ (cons e es) r = cons e (es ⊕ r)

-- What typing gives where it accepts.
abbrev pub typed_or : Checked Typed → Typed
typed_or (accept a) = a
typed_or (refuse n l) = record { type = null_type; slots = start_environment; effect = no_effect }

abbrev pub typed_all_or : Checked TypedAll → TypedAll
typed_all_or (accept a) = a
typed_all_or (refuse n l) = record { types = []; slots = start_environment; effect = no_effect }

abbrev pub class_or : ExprType → ℕ
class_or (known bool) = object_class
class_or (known (class c)) = c
class_or null_type = object_class

abbrev pub type_or : Option DeclaredType → DeclaredType
type_or none = bool
type_or (some t) = t

abbrev pub parameters_or : Option Method → List DeclaredType
parameters_or none = []
parameters_or (some M) = M.parameters

-- The implementor of the Identity in slot n, cast to the plain form of class c.
abbrev pub implementor : ℕ → ℕ → Expr
implementor c n = cast (plain_class c) (get imp_field (slot n))

-- Slots n, n + 1, … read, one for each type.
unfoldable pub reads : ℕ → List DeclaredType → Exprs
reads n [] = nil
reads n (t ∷ ts) = slot n then reads (suc n) ts

-- W, with Identity i in slot n and new class o in the next. DEPARTS: 002 declares o before i.
abbrev pub plain_new : ℕ → ℕ → Expr
plain_new n c = block (class identity_class ∷ class (plain_class c) ∷ [])
    (assign n (new identity_class)
    then assign (suc n) (new (plain_class c))
    then set id_field (slot (suc n)) (slot n)
    then set imp_field (slot n) (slot (suc n))
    then slot n
    then nil)

-- K, with Identity t in slot n.
abbrev pub plain_cast : ℕ → ℕ → Expr → Expr
plain_cast n c e = block (class identity_class ∷ [])
    (choose (is_null (assign n e)) (literal literal_null) (get id_field (implementor c n)) then nil)

-- Each root field copied from the object in slot p to the one in slot o.
unfoldable pub copies : ℕ → ℕ → List Field → Exprs → Exprs
copies o p [] r = r
copies o p (f ∷ fs) r = set f.name (slot o) (get f.name (slot p)) then copies o p fs r

module _ (W : World) where
  -- R's inner block, with Identity i in slot n, target o and root p in the next two. DEPARTS: o's `id` is set before
  -- i's `imp`, which 002 sets first; the block ends with i, where 002's else arm ends with the last copy.
  abbrev pub renew : ℕ → ℕ → Expr
  renew n d = block []
      (assign (suc n) (new (plain_class d))
      then assign (suc (suc n)) (implementor (W.root d) n)
      then set id_field (slot (suc n)) (slot n)
      then set imp_field (slot n) (slot (suc n))
      then copies (suc n) (suc (suc n)) (W.fields (W.root d)) (slot n then nil))

  abbrev pub change_types : ℕ → List DeclaredType
  change_types d = class identity_class ∷ class (plain_class d) ∷ class (plain_class (W.root d)) ∷ []

  -- R of `this`, and of another slot. DEPARTS: R of `this` has the inner block too, where 002 has one block.
  unfoldable pub plain_change : ℕ → Shape → ℕ → ℕ → Expr
  plain_change n sh zero d = block (change_types d)
      (assign n (get id_field (slot 0)) then renew n d then slot n then nil)
  plain_change n sh (suc k) d = block (change_types d)
      (choose (is_null (assign n (slot (suc (position sh k))))) (literal literal_null) (renew n d) then slot n
      then nil)

  -- An expression typed in γ, its plain form in slots of shape sh. Temporaries stand from slot n on.
  unfoldable mutual
    pub translate : Expr → Environment → Shape → Expr
    -- Literals, other slots, Z, A, J, B: node for node. `this`: its `id`.
    translate (literal l) γ sh = (literal l)
    translate (slot k) γ sh = read_slot sh k
    translate (is_null e) γ sh = is_null (translate e γ sh)
    -- G: read from the cast of the child's `imp` to the child's class.
    translate (get f e) γ sh = let c = class_or (typed_or (type_of W e 0 γ)).type in
        get f (cast (plain_class c) (get imp_field (translate e γ sh)))
    -- K, W and R: as above, with temporaries from the next free slot on.
    translate (cast c e) γ sh = plain_cast (suc (length sh)) c (translate e γ (sh ++ (false ∷ [])))
    translate (new c) γ sh = plain_new (suc (length sh)) c
    translate (change k d) γ sh = plain_change (suc (length sh)) sh k d
    -- A.
    translate (assign k e) γ sh = assign (plain_slot sh k) (translate e γ sh)
    -- U: i = object, the value in a temporary, then the act on the class used for lookup. DEPARTS: the temporary has
    -- the field's type, where 002 gives it the value's.
    translate (set f e e') γ sh =
        let n = suc (length sh) in
        let a = typed_or (type_of W e 0 γ) in
        let b = typed_or (type_of W e' 0 a.slots) in
        let c = apply_class W b.effect (class_or a.type) in
        let sh' = sh ++ (false ∷ false ∷ []) in
        block (class identity_class ∷ plain_type (type_or (field_type f (W.fields c))) ∷ [])
        (assign n (translate e γ sh')
        then assign (suc n) (translate e' a.slots sh')
        then set f (implementor c n) (slot (suc n))
        then nil)
    -- Q: i = receiver, the arguments in temporaries, then the call. DEPARTS: the temporaries have the parameters'
    -- types, where 002 gives them the arguments'.
    translate (call m e es) γ sh =
        let n = suc (length sh) in
        let a = typed_or (type_of W e 0 γ) in
        let b = typed_all_or (type_all W es 0 a.slots) in
        let c = apply_class W b.effect (class_or a.type) in
        let ts = parameters_or (W.method c m) in
        let sh' = sh ++ (false ∷ temporaries ts) in
        block (class identity_class ∷ map plain_type ts)
        (assign n (translate e γ sh')
        then (translate_arguments es a.slots sh' (suc n)
        ⊕ (call m (implementor c n) (reads (suc n) ts) then nil)))
    -- J and B.
    translate (choose e x y) γ sh = let δ = (typed_or (type_of W e 0 γ)).slots in
        choose (translate e γ sh) (translate x δ sh) (translate y δ sh)
    translate (block ts es) γ sh =
        block (map plain_type ts) (translate_all es (opened γ (map fresh_slot ts)) (sh ++ variables ts))

    pub translate_all : Exprs → Environment → Shape → Exprs
    translate_all nil γ sh = nil
    translate_all (cons e es) γ sh = translate e γ sh
        then translate_all es (typed_or (type_of W e 0 γ)).slots sh

    -- Each argument put in its temporary, from slot n on.
    pub translate_arguments : Exprs → Environment → Shape → ℕ → Exprs
    translate_arguments nil γ sh n = nil
    translate_arguments (cons e es) γ sh n =
        assign n (translate e γ sh) then translate_arguments es (typed_or (type_of W e 0 γ)).slots sh (suc n)

  -- A method's body in the class that owns it.
  abbrev pub plain_body : ℕ → List DeclaredType → Expr → Expr
  plain_body owner ts e = translate e (method_environment owner ts) (variables ts)

  -- X lines go.
  abbrev pub plain_method : ℕ → Declaration → Declaration
  plain_method owner m = record {
    result = plain_type m.result;
    name = m.name;
    parameters = map plain_type m.parameters;
    effects = [];
    body = plain_body owner m.parameters m.body;
  }

  -- The classes from number k on.
  unfoldable pub plain_classes : ℕ → List Class → List Class
  plain_classes k [] = []
  plain_classes k (c ∷ cs) = record {
    kind = plain;
    super = plain_class c.super;
    fields = map plain_field c.fields;
    methods = map (plain_method k) c.methods;
  } ∷ plain_classes (suc k) cs

-- Identity and FickleObject.
abbrev pub identity : Class
identity = record {
  kind = plain;
  super = object_class;
  fields = record { type = class fickle_class; name = imp_field } ∷ [];
  methods = [];
}

abbrev pub fickle_object : Class
fickle_object = record {
  kind = plain;
  super = object_class;
  fields = record { type = class identity_class; name = id_field } ∷ [];
  methods = [];
}

-- A program. DEPARTS: its start block is translated like a body, in which no slot is `this`.
unfoldable pub plain_program : Program → Program
plain_program p = let W = world p.classes in record {
  classes = identity ∷ fickle_object ∷ plain_classes W 1 p.classes;
  start = translate W p.start start_environment [];
}

-- The translator's limits, in line order: the passes over form and headings under its own column of limits.
-- Of an accepted program they refuse nothing else.
unfoldable pub within_limits : List ℕ → Program → Pass
within_limits ns p = earlier (form of_translator (rows_of ns)) (headings of_translator p.classes)

-- Field names 254 and 255 are reserved: F lines in order.
unfoldable pub fields_free : ℕ → List Field → Pass
fields_free at [] = passed
fields_free at (f ∷ fs) =
    require (not (eqb f.name id_field || eqb f.name imp_field)) reserved_refusal at λ _.
    fields_free (at + 1) fs

unfoldable pub names_free : ℕ → List Class → Pass
names_free at [] = passed
names_free at (c ∷ cs) = bind_checked (fields_free (at + 1) c.fields) λ _.
    names_free (at + class_lines c) cs

-- The plain rows of rows, or the first refusal: the check, the translator's limits, reserved names.
unfoldable pub translation : List ℕ → Checked (List ℕ)
translation ns =
    bind_checked (check ns) λ p.
    bind_checked (within_limits ns p) λ _.
    bind_checked (names_free 1 p.classes) λ _.
    accept (numbers_of (map row_of (flatten_program (plain_program p))))
