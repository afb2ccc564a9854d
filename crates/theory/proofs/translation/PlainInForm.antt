-- The plain program of a well-formed program within the translator's limits is within the limits of form of
-- the check.
use mathlib.Core.Path.{◌≡◌, refl, sym, ◌∙◌, subst}
use Prim.Native.Nat.{ℕ, suc, ◌+◌, ◌≤◌}
use mathlib.Core.Bool.{true}
use mathlib.Core.List.{List, [], map}
use lib.ListN.{length, length-map}
use native.Mathlib.Omega.{arith}
use Rattle.language.specs.Limits.{Most, of_check, of_translator}
use Rattle.language.specs.Tree.{DeclaredType, type_number, type_of_number, ExprType, Expr, block, Exprs}
use Rattle.language.specs.Tree.{Field, Declaration, Class, Program}
use Rattle.language.specs.World.{World}
use Rattle.language.specs.Program.{world}
use Rattle.language.specs.Environment.{Environment, fresh_slot}
use Rattle.theory.specs.ComputedRules.{HasType}
use Rattle.language.specs.WellFormed.{Each, each_nil, each_cons, NodeInForm, form_block, BodyInForm}
use Rattle.language.specs.WellFormed.{form_body, FieldInForm, MethodInForm, ClassInForm, ProgramInForm}
use Rattle.language.specs.WellFormed.{MethodWell, MethodsWell, methods_nil, methods_cons, ClassWell}
use Rattle.language.specs.WellFormed.{ClassesWell, classes_nil, classes_cons, ProgramWell}
use Rattle.language.specs.Translation.{plain_type, plain_field, Shape, variables, plain_method, plain_classes}
use Rattle.language.specs.Translation.{identity, fickle_object, plain_program, translate}
use Rattle.theory.proofs.translation.PlainWorld.{imp_of_identity, id_of_implementor}
use Rattle.theory.proofs.simulation.TranslationEquations.{plain_block as translate_block}
use Rattle.theory.proofs.translation.PlainLookups.{plain_one, length_plain}
use Rattle.theory.proofs.translation.PlainTypes.{NameLaws}
use Rattle.theory.proofs.translation.PlainSizes.{Small, program_size}
use Rattle.theory.proofs.translation.PlainForm.{more_left, variable_count, count_variables}
use Rattle.theory.proofs.translation.PlainForm.{plain_type_form}
use Rattle.theory.proofs.translation.PlainForm.{plain_types_form, Room}
use Rattle.theory.proofs.translation.TranslationInForm.{node_in_form}
use Rattle.theory.proofs.lookups.Superclasses.{Hierarchy}
use Rattle.theory.proofs.typing.RulesAgree.{computed}
use Rattle.theory.proofs.lookups.LookupLaws.{hierarchy}

slots_few : {most : Most} {d n : ℕ} {ts : List DeclaredType} {es : Exprs} → NodeInForm most d n (block ts es)
    → n ≤ most.slots
slots_few (form_block a b c t f) = omega arith

module _ (P : List Class) (𝓗 : Hierarchy P) (𝓢 : Small (world P)) (𝓝 : NameLaws (world P)) where
  abbrev W : World
  W = world P

  -- A body's plain form is a block in form.
  body_in_form : {n : ℕ} {e : Expr} {γ γ' : Environment} {t : ExprType} {φ : ℕ} → BodyInForm of_translator n e
      → HasType W γ e t γ' φ
      → (sh : Shape) → variable_count sh ≡ length γ.slots → suc (length sh) ≡ n
      → BodyInForm of_check n (translate W e γ sh)
  unfolding more_left
  body_in_form {γ} (form_body {n} {ts} {es} f) d sh v q =
      let r : Room 24 n sh = record { few = slots_few f; room = omega arith } in
      let h : NodeInForm of_check 128 n (translate W (block ts es) γ sh)
      = subst (λ (n : ℕ). NodeInForm of_check 128 n (translate W (block ts es) γ sh)) q
      (node_in_form W 𝓢 𝓝 (block ts es) d f sh v r) in
      rw (translate_block W ts es γ sh) (form_body (rw (translate_block W ts es γ sh) at h))

  fields_in_form : {fs : List Field} → Each (FieldInForm of_translator) fs
      → Each (FieldInForm of_check) (map plain_field fs)
  fields_in_form each_nil = each_nil
  fields_in_form (each_cons {a} i is) =
      each_cons (record { type = plain_type_form a.type; name = i.name })
      (fields_in_form is)

  method_in_form : (k super : ℕ) (before : List Declaration) (m : Declaration) → MethodWell P k super before m
      → MethodInForm of_translator m
      → MethodInForm of_check (plain_method W k m)
  method_in_form k super before m w i = record {
    result = plain_type_form m.result;
    name = i.name;
    few = omega (arith, i.few, length-map m.parameters plain_type);
    parameters = plain_types_form m.parameters;
    effects = each_nil;
    body = subst (λ (n : ℕ). BodyInForm of_check n (plain_method W k m).body)
        (omega (arith, length-map m.parameters plain_type))
        (body_in_form i.body (computed P 𝓗 m.body w.body) (variables m.parameters)
        (count_variables m.parameters ∙ sym (length-map m.parameters fresh_slot))
        (omega (arith, length-map m.parameters (λ t. true))));
  }

  methods_in_form : (k super : ℕ) {before ms : List Declaration} → MethodsWell P k super before ms
      → Each (MethodInForm of_translator) ms
      → Each (MethodInForm of_check) (map (plain_method W k) ms)
  methods_in_form k super methods_nil each_nil = each_nil
  methods_in_form k super {before} (methods_cons {m} w ws) (each_cons i is)
      = each_cons (method_in_form k super before m w i) (methods_in_form k super ws is)

  class_in_form : (k : ℕ) (c : Class) → ClassWell P k c → ClassInForm of_translator c → k ≤ 62
      → ClassInForm of_check (plain_one W k c)
  class_in_form k c w i l = record {
    kind_small = omega arith;
    kind_back = refl;
    super = omega (arith, w.earlier);
    fields = fields_in_form i.fields;
    methods = methods_in_form k c.super w.methods i.methods;
  }

  classes_in_form : {k : ℕ} {cs : List Class} → ClassesWell P k cs → Each (ClassInForm of_translator) cs
      → k + length cs ≤ 63
      → Each (ClassInForm of_check) (plain_classes W k cs)
  unfolding plain_classes
  classes_in_form classes_nil each_nil l = each_nil
  classes_in_form {k} (classes_cons {c} w ws) (each_cons i is) l
      = each_cons (class_in_form k c w i (omega arith)) (classes_in_form ws is (omega arith))

  -- Identity and FickleObject.
  own_field : (f : Field) → type_number f.type ≤ 2 → type_of_number (type_number f.type) ≡ f.type
      → f.name ≤ 255
      → FieldInForm of_check f
  own_field f l b n = record { type = record { small = omega arith; back = b }; name = n }

  identity_in_form : ClassInForm of_check identity
  identity_in_form = record {
    kind_small = omega arith;
    kind_back = refl;
    super = omega arith;
    fields = each_cons (own_field imp_of_identity (omega arith) refl (omega arith)) each_nil;
    methods = each_nil;
  }

  fickle_in_form : ClassInForm of_check fickle_object
  fickle_in_form = record {
    kind_small = omega arith;
    kind_back = refl;
    super = omega arith;
    fields = each_cons (own_field id_of_implementor (omega arith) refl (omega arith)) each_nil;
    methods = each_nil;
  }

-- The plain program is in form.
pub plain_in_form : (p : Program) → ProgramWell p → Small (world p.classes) → NameLaws (world p.classes)
    → ProgramInForm of_translator p
    → ProgramInForm of_check (plain_program p)
unfolding plain_program variable_count
plain_in_form p w 𝓢 𝓝 i = let P = p.classes in let 𝓗 = hierarchy P w.classes in record {
  rows = omega (arith, program_size p w 𝓢, i.rows);
  few = omega (arith, length_plain (world P) 1 P, i.few);
  classes = each_cons (identity_in_form P 𝓗 𝓢 𝓝) (each_cons (fickle_in_form P 𝓗 𝓢 𝓝)
      (classes_in_form P 𝓗 𝓢 𝓝 w.classes i.classes (omega (arith, i.few))));
  start = body_in_form P 𝓗 𝓢 𝓝 i.start (computed P 𝓗 p.start w.start) [] refl refl;
}
