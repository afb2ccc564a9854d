-- Well-formed programs as relations: the form that rows can have, headings and bodies
-- (document 01, "Lines and rows" with its table of limits, and "Verdict"; 002, Figures 8, 19 and 20), over the relations
-- of ClassRelations, TypeRelations and Rules.
-- DEPARTS marks where document 01 leaves 002.
use Rattle.std.specs.Prelude.{◌≡◌, ℕ, suc, ◌+◌, ◌≤◌, ◌<◌, true, List, [], ◌∷◌, ◌++◌, map, length, ◌≢◌}
use Rattle.std.proofs.Math.Option.{Option, none, some}
use Rattle.language.specs.Limits.{Most, of_check, largest}
use Rattle.language.specs.Lists.{map_option}
use Rattle.language.specs.Rows.{row_of, numbers_of}
pub use Rattle.language.specs.Lists.{Each, each_nil, each_cons}
use Rattle.language.specs.Tree.{DeclaredType, type_number, type_of_number, ExprType, Expr, Literal}
use Rattle.language.specs.Tree.{literal, slot, is_null, get, cast}
use Rattle.language.specs.Tree.{new, change, assign, set, call, choose, block, Exprs, nil, cons, count}
use Rattle.language.specs.Tree.{Kind, plain, root, state, kind_number, kind_of_number, Field}
use Rattle.language.specs.Tree.{Declaration, Class, Program, flatten_program}
use Rattle.language.specs.Effects.{effect_of_all, within}
use Rattle.language.specs.Program.{class_at}
use Rattle.language.specs.Environment.{Environment, method_environment, start_environment}
use Rattle.language.specs.ClassRelations.{Undeclared, FieldsOf, FindsMethod, TypeDeclared, FieldType}
use Rattle.language.specs.TypeRelations.{Widens}
use Rattle.language.specs.Rules.{HasType}

-- A type that a number can stand for.
pub record TypeInForm (t : DeclaredType) : Type 0 where
  pub small : type_number t ≤ largest
  pub back : type_of_number (type_number t) ≡ t

module _ (most : Most) where
  mutual
    -- A node that may nest d deep, itself included, with n slots in scope, slot 0 always included.
    pub data NodeInForm : ℕ → ℕ → Expr → Type 0 where
      form_literal : {d n : ℕ} {l : Literal} → NodeInForm (suc d) n (literal l)
      form_slot : {d n k : ℕ} → k ≤ largest → NodeInForm (suc d) n (slot k)
      form_is_null : {d n : ℕ} {e : Expr} → NodeInForm d n e → NodeInForm (suc d) n (is_null e)
      form_get : {d n f : ℕ} {e : Expr} → f ≤ most.name → NodeInForm d n e → NodeInForm (suc d) n (get f e)
      form_cast : {d n c : ℕ} {e : Expr} → c ≤ largest → NodeInForm d n e → NodeInForm (suc d) n (cast c e)
      form_new : {d n c : ℕ} → c ≤ largest → NodeInForm (suc d) n (new c)
      form_change : {d n k c : ℕ} → k ≤ largest → c ≤ largest → NodeInForm (suc d) n (change k c)
      form_assign : {d n k : ℕ} {e : Expr} → k ≤ largest → NodeInForm d n e
          → NodeInForm (suc d) n (assign k e)
      form_set : {d n f : ℕ} {e e' : Expr}
          → f ≤ most.name → NodeInForm d n e → NodeInForm d n e' → NodeInForm (suc d) n (set f e e')
      form_call : {d n m : ℕ} {e : Expr} {es : Exprs}
          → m ≤ most.name → count es ≤ largest → NodeInForm d n e → NodesInForm d n es
          → NodeInForm (suc d) n (call m e es)
      form_choose : {d n : ℕ} {a b c : Expr}
          → NodeInForm d n a → NodeInForm d n b → NodeInForm d n c → NodeInForm (suc d) n (choose a b c)
      form_block : {d n : ℕ} {ts : List DeclaredType} {es : Exprs}
          → n + length ts ≤ most.slots → 1 ≤ count es → count es ≤ largest → Each TypeInForm ts
          → NodesInForm d (n + length ts) es → NodeInForm (suc d) n (block ts es)

    pub data NodesInForm : ℕ → ℕ → Exprs → Type 0 where
      form_nil : {d n : ℕ} → NodesInForm d n nil
      form_cons : {d n : ℕ} {e : Expr} {es : Exprs} → NodeInForm d n e → NodesInForm d n es
          → NodesInForm d n (cons e es)

  -- A body is one block.
  pub data BodyInForm : ℕ → Expr → Type 0 where
    form_body : {n : ℕ} {ts : List DeclaredType} {es : Exprs}
        → NodeInForm most.nesting n (block ts es) → BodyInForm n (block ts es)

  pub record FieldInForm (f : Field) : Type 0 where
    pub type : TypeInForm f.type
    pub name : f.name ≤ most.name

  pub record MethodInForm (m : Declaration) : Type 0 where
    pub result : TypeInForm m.result
    pub name : m.name ≤ most.name
    pub few : length m.parameters ≤ most.parameters
    pub parameters : Each TypeInForm m.parameters
    pub effects : Each (λ c. c ≤ largest) m.effects
    pub body : BodyInForm (1 + length m.parameters) m.body

  pub record ClassInForm (c : Class) : Type 0 where
    pub kind_small : kind_number c.kind ≤ largest
    pub kind_back : kind_of_number (kind_number c.kind) ≡ c.kind
    pub super : c.super ≤ largest
    pub fields : Each FieldInForm c.fields
    pub methods : Each MethodInForm c.methods

  -- The trees that rows within the limits of form have.
  pub record ProgramInForm (p : Program) : Type 0 where
    pub rows : length (flatten_program p) ≤ most.rows
    pub few : length p.classes ≤ most.classes
    pub classes : Each ClassInForm p.classes
    pub start : BodyInForm 1 p.start

-- Figure 20: plain extends plain, root extends plain, state extends root or state. DEPARTS: plain and root may extend
-- Object, which has no kind, and for which the figure has no rule.
pub data Extends : Kind → Option Kind → Type 0 where
  plain_object : Extends plain none
  plain_plain : Extends plain (some plain)
  root_object : Extends root none
  root_plain : Extends root (some plain)
  state_root : Extends state (some root)
  state_state : Extends state (some state)

module _ (P : List Class) where
  -- Figures 8 and 19: fields, after those inherited and declared before, each of a name that none of these has.
  -- DEPARTS: at most 17.
  pub data FieldsWell : List Field → List Field → Type 0 where
    well_nil : {before : List Field} → FieldsWell before []
    well_cons : {before fs : List Field} {f : Field}
        → length before < of_check.fields → FieldType P f.type → Each (λ g. g.name ≢ f.name) before
        → FieldsWell (before ++ (f ∷ [])) fs
        → FieldsWell before (f ∷ fs)

  -- An effect: distinct roots. DEPARTS: in ascending order, each after `last`.
  pub data EffectWell : ℕ → List ℕ → Type 0 where
    well_none : {last : ℕ} → EffectWell last []
    well_root : {last k : ℕ} {ks : List ℕ} (c : Class)
        → class_at P k ≡ some c → c.kind ≡ root → last < k → EffectWell k ks → EffectWell last (k ∷ ks)

  -- Figure 8: the superclass finds no method of the name, or finds one of the same heading with an effect that the new
  -- one's is within.
  pub data Overrides (super : ℕ) (m : Declaration) : Type 0 where
    first : ((o : ℕ) (d : Declaration) → FindsMethod P super m.name o d → ⊥) → Overrides super m
    again : (o : ℕ) (d : Declaration) → FindsMethod P super m.name o d
        → m.result ≡ d.result → m.parameters ≡ d.parameters
        → within (effect_of_all m.effects) (effect_of_all d.effects) ≡ true → Overrides super m

  -- Figures 8 and 19: a method of class k, of a name that none before it has, whose body has type t, slots γ afterwards
  -- and effect φ. DEPARTS: the classes of its result and parameters are declared.
  pub record MethodWell (k super : ℕ) (before : List Declaration) (m : Declaration) : Type 0 where
    pub result : TypeDeclared P m.result
    pub parameters : Each (TypeDeclared P) m.parameters
    pub name : Undeclared m.name before
    pub overrides : Overrides super m
    pub effects : EffectWell 0 m.effects
    pub t : ExprType
    pub γ : Environment
    pub φ : ℕ
    pub body : HasType P (method_environment k m.parameters) m.body t γ φ
    pub body_type : Widens P t m.result
    pub body_effect : within φ (effect_of_all m.effects) ≡ true

  pub data MethodsWell (k super : ℕ) : List Declaration → List Declaration → Type 0 where
    methods_nil : {before : List Declaration} → MethodsWell k super before []
    methods_cons : {before ms : List Declaration} {m : Declaration}
        → MethodWell k super before m → MethodsWell k super (m ∷ before) ms
        → MethodsWell k super before (m ∷ ms)

  -- Figure 8: class k. DEPARTS: its superclass is earlier, where Figure 20 asks that no class is above itself.
  pub record ClassWell (k : ℕ) (c : Class) : Type 0 where
    pub earlier : c.super < k
    pub kind : Extends c.kind (map_option (λ (b : Class). b.kind) (class_at P c.super))
    pub inherited : List Field
    pub inherits : FieldsOf P c.super inherited
    pub fields : FieldsWell inherited c.fields
    pub methods : MethodsWell k c.super [] c.methods

  pub data ClassesWell : ℕ → List Class → Type 0 where
    classes_nil : {k : ℕ} → ClassesWell k []
    classes_cons : {k : ℕ} {c : Class} {cs : List Class} → ClassWell k c → ClassesWell (suc k) cs
        → ClassesWell k (c ∷ cs)

-- Figure 8: a program. DEPARTS: its start block, of any type and effect.
pub record ProgramWell (p : Program) : Type 0 where
  pub classes : ClassesWell p.classes 1 p.classes
  pub t : ExprType
  pub γ : Environment
  pub φ : ℕ
  pub start : HasType p.classes start_environment p.start t γ φ

-- The numbers are whole rows, those of a program that is in form, within the limits of 60,000 rows, 64
-- classes, 8 parameters, 256 slots, nesting 128 and names up to 255, and whose headings and bodies are well
-- formed.
pub record RowsOf (ns : List ℕ) (p : Program) : Type 0 where
  pub rows : numbers_of (map row_of (flatten_program p)) ≡ ns
  pub in_form : ProgramInForm of_check p
  pub well : ProgramWell p

-- The numbers are the rows of a well-formed program.
pub record WellFormedRows (ns : List ℕ) : Type 0 where
  pub program : Program
  pub rows_of_it : RowsOf ns program
