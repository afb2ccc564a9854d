-- Laws of the checks: what each line's fault makes of them. Assumes nothing.
use mathlib.Core.Path.{◌≡◌, refl, sym, ap, ◌∙◌}
use mathlib.Core.Bool.{Bool, true, false, not, ◌&&◌, cond}
use mathlib.Core.List.{List, [], ◌∷◌, ◌++◌}
use Prim.Native.Nat.{ℕ, zero, suc, ◌+◌}
use lib.ListN.{length}
use lib.Dec.{ltb}
use Rattle.std.specs.Prelude.{Result, Ok, Err}
use Rattle.language.specs.Limits.{of_check}
use Rattle.language.specs.Results.{Checked, accept, refuse, Pass, passed, bind_checked, require}
use Rattle.language.specs.Refusals.{result_of}
use Rattle.language.specs.declared.Refusal.{Refusal}
use Rattle.language.proofs.Refusals.{result_ok, result_err}
use Rattle.language.specs.Tree.{Field, Declaration, Class, method_lines}
use Rattle.language.specs.World.{place, is_declared, is_declared_type}
use Rattle.language.specs.Program.{declared, kind_at, is_root_class, is_state_type, world}
use Rattle.language.specs.Headings.{is_some, may_extend, may_override, check_fields, check_parameters}
use Rattle.language.specs.Headings.{check_effects, check_methods, check_class}
use Rattle.members.specs.Answers.{headed}
use Rattle.members.specs.Faults.{faulty, fault_of_field, fault_of_method, fault_of_effect}
use Rattle.members.specs.Faults.{fault_of_class, check_heading}

pub faulty_none : (n at : ℕ) (rest : Pass) → n ≡ 0 → faulty n at rest ≡ rest
faulty_none n at rest e = rw e

-- ---- answers as the code gives them

module _ {A : Type 0} (f : Unit {0} → A) where
  pub refused_is : (x : Pass) (e : Refusal) → x ≡ refuse e.number e.line
      → ◌≡◌ {A = Result A Refusal} (Err e) (result_of f x)
  refused_is x e q = rw q

  pub passed_is : (x : Pass) → x ≡ passed → ◌≡◌ {A = Result A Refusal} (Ok (f tt)) (result_of f x)
  passed_is x q = rw q

  pub is_passed : (x : Pass) {a : A} → ◌≡◌ {A = Result A Refusal} (Ok a) (result_of f x) → x ≡ passed
  is_passed x q = (result_ok f x (sym q)).is

  pub is_refused : (x : Pass) (e : Refusal) → ◌≡◌ {A = Result A Refusal} (Err e) (result_of f x)
      → x ≡ refuse e.number e.line
  is_refused x e q = result_err f x e (sym q)

pub passed_count : (count : ℕ) (x : Pass) (m : ℕ) → ◌≡◌ {A = Result ℕ Refusal} (Ok m) (headed count x)
    → m ≡ count
passed_count count (accept a) m e = cc
passed_count count (refuse n l) m e = absurd (cc)

-- what the answer on one line tells of its fault, and of a check that begins with that line
abbrev pub line_case : ℕ → ℕ → Result (Unit {0}) Refusal
line_case n at = result_of (λ u. u) (faulty n at passed)

pub fault_refused : (n at : ℕ) (rest : Pass) (e : Refusal) → Err e ≡ line_case n at
    → faulty n at rest ≡ refuse e.number e.line
fault_refused zero at rest e q = absurd (cc)
fault_refused (suc n) at rest e q = is_refused (λ u. u) (refuse (suc n) at) e q

pub fault_none : (n at : ℕ) → Ok tt ≡ line_case n at → n ≡ 0
fault_none zero at q = refl
fault_none (suc n) at q = absurd (cc)

-- two faults that are the same
pub same_fault : (at : ℕ) {n m : ℕ} → n ≡ m → line_case n at ≡ line_case m at
same_fault at e = ap (λ n. line_case n at) e

-- ---- checks line by line

four : (a b c d : Bool) (at : ℕ) (rest : Pass)
    → require a 2 at (λ _. require b 4 at (λ _. require (not c) 4 at (λ _. require (not d) 5 at (λ _. rest))))
    ≡ faulty (cond a (cond b (cond c 4 (cond d 5 0)) 4) 2) at rest
unfolding require
four false b c d at rest = refl
four true false c d at rest = refl
four true true true d at rest = refl
four true true false true at rest = refl
four true true false false at rest = refl

three : (a b c : Bool) (at : ℕ) (rest : Pass)
    → require a 4 at (λ _. require (not b) 4 at (λ _. require c 6 at (λ _. rest)))
    ≡ faulty (cond a (cond b 4 (cond c 0 6)) 4) at rest
unfolding require
three false b c at rest = refl
three true true c at rest = refl
three true false true at rest = refl
three true false false at rest = refl

two : (a b : Bool) (at : ℕ) (rest : Pass)
    → require a 4 at (λ _. require b 5 at (λ _. rest)) ≡ faulty (cond a (cond b 0 5) 4) at rest
unfolding require
two false b at rest = refl
two true true at rest = refl
two true false at rest = refl

bind_bind : {A B C : Type 0} (x : Checked A) (f : Checked B) (g : Checked C)
    → bind_checked x (λ _. bind_checked f (λ _. g)) ≡ bind_checked (bind_checked x (λ _. f)) (λ _. g)
unfolding bind_checked
bind_bind (accept a) f g = refl
bind_bind (refuse n l) f g = refl

faulty_bind : (n at : ℕ) (x : Pass) (g : Pass)
    → faulty n at (bind_checked x (λ _. g)) ≡ bind_checked (faulty n at x) (λ _. g)
unfolding bind_checked
faulty_bind zero at x g = refl
faulty_bind (suc n) at x g = refl

module _ (P : List Class) where
  pub fields_step : (before : List Field) (at : ℕ) (f : Field) (fs : List Field)
      → check_fields of_check P before at (f ∷ fs)
      ≡ faulty (fault_of_field P before f) at (check_fields of_check P (before ++ (f ∷ [])) (at + 1) fs)
  unfolding check_fields fault_of_field
  fields_step before at f fs =
      four (ltb (length before) 17) (is_declared_type (world P) f.type) (is_some (place f.name before))
      (is_state_type P f.type) at
      (check_fields of_check P (before ++ (f ∷ [])) (at + 1) fs)

  pub effects_step : (last at c : ℕ) (cs : List ℕ)
      → check_effects of_check P last at (c ∷ cs)
      ≡ faulty (fault_of_effect P last c) at (check_effects of_check P c (at + 1) cs)
  unfolding check_effects fault_of_effect
  effects_step last at c cs =
      two (is_declared (world P) c)
      (is_root_class P c && ltb last c) at (check_effects of_check P c (at + 1) cs)

  heading_is : (super : ℕ) (before : List Declaration) (at : ℕ) (m : Declaration)
      → check_heading P super before at m
      ≡ faulty (fault_of_method P super before m) at
      (bind_checked (check_parameters of_check P (at + 1) m.parameters) λ _.
      check_effects of_check P 0 (at + 1 + length m.parameters) m.effects)
  unfolding check_heading
  heading_is super before at m = refl

  pub heading_refused : (super : ℕ) (before : List Declaration) (at : ℕ) (m : Declaration) (e : Refusal)
      → Err e ≡ line_case (fault_of_method P super before m) at
      → check_heading P super before at m ≡ refuse e.number e.line
  heading_refused super before at m e q = heading_is super before at m ∙ fault_refused _ at _ e q

  pub heading_on : (super : ℕ) (before : List Declaration) (at : ℕ) (m : Declaration)
      → Ok tt ≡ line_case (fault_of_method P super before m) at
      → check_heading P super before at m
      ≡ bind_checked (check_parameters of_check P (at + 1) m.parameters) λ _.
      check_effects of_check P 0 (at + 1 + length m.parameters) m.effects
  heading_on super before at m q = heading_is super before at m ∙ faulty_none _ at _ (fault_none _ at q)

  pub methods_step : (super : ℕ) (before : List Declaration) (at : ℕ) (m : Declaration)
      (ms : List Declaration)
      → check_methods of_check P super before at (m ∷ ms)
      ≡ bind_checked (check_heading P super before at m)
      (λ _. check_methods of_check P super (m ∷ before) (at + method_lines m) ms)
  unfolding check_methods check_heading fault_of_method
  methods_step super before at m ms =
      let x = check_parameters of_check P (at + 1) m.parameters in
      let y = check_effects of_check P 0 (at + 1 + length m.parameters) m.effects in
      let z = check_methods of_check P super (m ∷ before) (at + method_lines m) ms in
      three (is_declared_type (world P) m.result) (is_some (declared before m.name))
      (may_override m ((world P).method super m.name)) at
      (bind_checked x (λ _. bind_checked y (λ _. z)))
      ∙ ap (faulty (fault_of_method P super before m) at) (bind_bind x y z)
      ∙ faulty_bind (fault_of_method P super before m) at (bind_checked x (λ _. y)) z

  pub class_is : (k at : ℕ) (c : Class)
      → check_class of_check P k at c
      ≡ faulty (fault_of_class P k c) at
      (bind_checked (check_fields of_check P ((world P).fields c.super) (at + 1) c.fields) λ _.
      check_methods of_check P c.super [] (at + 1 + length c.fields) c.methods)
  unfolding check_class fault_of_class
  class_is k at c = two (ltb c.super k) (may_extend c.kind (kind_at P c.super)) at
      (bind_checked (check_fields of_check P ((world P).fields c.super) (at + 1) c.fields) λ _.
      check_methods of_check P c.super [] (at + 1 + length c.fields) c.methods)

-- what follows an answer
pub bind_passed : (x y : Pass) → x ≡ passed → bind_checked x (λ _. y) ≡ y
unfolding bind_checked
bind_passed x y e = rw e

pub bind_refused : (x y : Pass) (n l : ℕ) → x ≡ refuse n l → bind_checked x (λ _. y) ≡ refuse n l
unfolding bind_checked
bind_refused x y n l e = rw e
