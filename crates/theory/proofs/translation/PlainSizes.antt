-- Rows of the plain program: at most 88 for a row of the source, and 4 for Identity and FickleObject.
use mathlib.Core.Path.{◌≡◌, refl, ap}
use Prim.Native.Nat.{ℕ, zero, suc, ◌+◌, ◌*◌, ◌≤◌}
use mathlib.Core.Option.{some}
use mathlib.Core.Bool.{false}
use mathlib.Core.List.{List, [], ◌∷◌, ◌++◌, map}
use lib.ListN.{length, length-map}
use native.Mathlib.Omega.{arith}
use Rattle.language.specs.Limits.{of_translator}
use Rattle.language.specs.Tree.{DeclaredType, ExprType, Expr, literal, slot}
use Rattle.language.specs.Tree.{is_null, get, cast, new, change, assign, set, call, choose, block, Exprs, nil}
use Rattle.language.specs.Tree.{cons, count, size, sizes, Field, Declaration, Class, Program, heading_lines}
use Rattle.language.specs.Tree.{method_lines, methods_lines, class_lines, classes_lines, flatten_program}
use Rattle.language.specs.World.{Method, World}
use Rattle.language.specs.Program.{world}
use Rattle.language.specs.Environment.{Environment}
use Rattle.theory.specs.ComputedRules.{HasType, HaveTypes, type_literal, type_slot, type_new}
use Rattle.theory.specs.ComputedRules.{type_cast, type_get, type_set, type_assign, type_is_null}
use Rattle.theory.specs.ComputedRules.{type_call}
use Rattle.theory.specs.ComputedRules.{type_choose, type_block, type_change, types_nil, types_cons}
use Rattle.language.specs.WellFormed.{Each, MethodsWell, methods_nil, methods_cons, ClassesWell, classes_nil}
use Rattle.language.specs.WellFormed.{classes_cons, ProgramWell}
use Rattle.language.specs.Translation.{Shape, read_slot, ◌⊕◌, reads, copies, plain_change, translate}
use Rattle.language.specs.Translation.{translate_all, translate_arguments, plain_type, plain_field, variables}
use Rattle.language.specs.Translation.{temporaries, plain_method, plain_classes, plain_program}
use Rattle.theory.proofs.typing.TypingRules.{all_fit_length}
use Rattle.theory.proofs.reading.RowCounts.{length_program}
use Rattle.theory.proofs.simulation.TranslationEquations.{plain_literal as translate_literal}
use Rattle.theory.proofs.simulation.TranslationEquations.{plain_read as translate_slot}
use Rattle.theory.proofs.simulation.TranslationEquations.{plain_is_null as translate_is_null}
use Rattle.theory.proofs.simulation.TranslationEquations.{plain_get as translate_get}
use Rattle.theory.proofs.simulation.TranslationEquations.{plain_cast_is as translate_cast}
use Rattle.theory.proofs.simulation.TranslationEquations.{plain_new_is as translate_new}
use Rattle.theory.proofs.simulation.TranslationEquations.{plain_change_is as translate_change}
use Rattle.theory.proofs.simulation.TranslationEquations.{plain_assign as translate_assign}
use Rattle.theory.proofs.simulation.TranslationEquations.{plain_set as translate_set, plain_call as translate_call}
use Rattle.theory.proofs.simulation.TranslationEquations.{plain_choose as translate_choose}
use Rattle.theory.proofs.simulation.TranslationEquations.{plain_block as translate_block}
use Rattle.theory.proofs.simulation.TranslationEquations.{plain_nil as translate_all_nil}
use Rattle.theory.proofs.simulation.TranslationEquations.{plain_cons as translate_all_cons}
use Rattle.theory.proofs.simulation.TranslationEquations.{plain_no_arguments as translate_arguments_nil}
use Rattle.theory.proofs.simulation.TranslationEquations.{plain_arguments as translate_arguments_cons}
use Rattle.theory.proofs.lookups.Superclasses.{Hierarchy}
use Rattle.theory.proofs.typing.RulesAgree.{computed}
use Rattle.theory.proofs.lookups.LookupLaws.{hierarchy}

-- What the translator's limits say of lookups: classes, fields with those inherited, names, parameters.
pub record Small (W : World) : Type 0 where
  pub classes : W.count ≤ of_translator.classes
  pub fields : (c : ℕ) → length (W.fields c) ≤ of_translator.fields
  pub names : (c : ℕ) → Each (λ (f : Field). f.name ≤ of_translator.name) (W.fields c)
  pub parameters : (c m : ℕ) (M : Method) → W.method c m ≡ some M
      → length M.parameters ≤ of_translator.parameters

-- Sizes of the pieces that the translation is made of.
sizes_append : (es rs : Exprs) → sizes (es ⊕ rs) ≡ sizes es + sizes rs
unfolding ◌⊕◌ size
sizes_append nil rs = omega arith
sizes_append (cons e es) rs = omega (arith, sizes_append es rs)

sizes_reads : (n : ℕ) (ts : List DeclaredType) → sizes (reads n ts) ≡ length ts
unfolding reads size
sizes_reads n [] = refl
sizes_reads n (t ∷ ts) = omega (arith, sizes_reads (suc n) ts)

sizes_copies : (o p : ℕ) (fs : List Field) (r : Exprs) → sizes (copies o p fs r) ≡ 4 * length fs + sizes r
unfolding copies size
sizes_copies o p [] r = omega arith
sizes_copies o p (f ∷ fs) r = omega (arith, sizes_copies o p fs r)

size_read : (sh : Shape) (k : ℕ) → size (read_slot sh k) ≤ 2
unfolding read_slot size
size_read sh zero = omega arith
size_read sh (suc k) = omega arith

module _ (W : World) (𝓢 : Small W) where
  -- As many arguments as types of arguments.
  pub types_count : {es : Exprs} {γ γ' : Environment} {ts : List ExprType} {φ : ℕ} → HaveTypes W γ es ts γ' φ
      → length ts ≡ count es
  unfolding count
  types_count types_nil = refl
  types_count (types_cons d d') = ap suc (types_count d')

  -- R of a slot, with 16 root fields: 88 rows.
  size_change : (n : ℕ) (sh : Shape) (k d : ℕ) → size (plain_change W n sh k d) ≤ 88
  unfolding plain_change size
  size_change n sh zero d = omega (
    arith,
    𝓢.fields (W.root d),
    sizes_copies (suc n) (suc (suc n)) (W.fields (W.root d)) (cons (slot n) nil),
  )
  size_change n sh (suc k) d = omega (
    arith,
    𝓢.fields (W.root d),
    sizes_copies (suc n) (suc (suc n)) (W.fields (W.root d)) (cons (slot n) nil),
  )

  mutual
    unfolding size

    -- A typed expression's plain form has at most 88 rows for each of its rows.
    pub translated_size : (e : Expr) {γ γ' : Environment} {t : ExprType} {φ : ℕ} → HasType W γ e t γ' φ
        → (sh : Shape)
        → size (translate W e γ sh) ≤ 88 * size e
    translated_size (literal l) {γ} type_literal sh = rw (translate_literal W l γ sh) (omega arith)
    translated_size (slot k) {γ} (type_slot e) sh =
        rw (translate_slot W k γ sh) (omega (arith, size_read sh k))
    translated_size (is_null e) {γ} (type_is_null d n) sh
        = rw (translate_is_null W e γ sh) (omega (arith, translated_size e d sh))
    translated_size (get f e) (type_get d i) sh =
        rw (translate_get W f sh d) (omega (arith, translated_size e d sh))
    translated_size (cast c e) {γ} (type_cast d i n) sh =
        rw (translate_cast W c e γ sh) (omega (arith, translated_size e d (sh ++ (false ∷ []))))
    translated_size (new c) {γ} (type_new i) sh = rw (translate_new W c γ sh (length sh) refl) (omega arith)
    translated_size (change k c) {γ} (type_change i e h f) sh
        = rw (translate_change W k c γ sh (length sh) refl)
        (omega (arith, size_change (suc (length sh)) sh k c))
    translated_size (assign (suc k) e) {γ} (type_assign d i f) sh
        = rw (translate_assign W (suc k) e γ sh) (omega (arith, translated_size e d sh))
    translated_size (assign zero e) {γ = γ} {t = t} {φ = φ} x5 sh = elim x5 [ ]
    translated_size (set f e e') (type_set d d' i j) sh = rw (translate_set W f sh d d' i)
        (omega (
          arith,
          translated_size e d (sh ++ (false ∷ false ∷ [])),
          translated_size e' d' (sh ++ (false ∷ false ∷ [])),
        ))
    translated_size (call m e es) {γ} (type_call {γ₁} {c} {ts} {φ₂} M d d' i j) sh =
        let ps = M.parameters in let sh' = sh ++ (false ∷ temporaries ps) in let n = suc (suc (length sh)) in
        rw (
          translate_call W m M sh d d' i,
          sizes_append (translate_arguments W es γ₁ sh' n)
              (cons (call m (cast _ (get _ (slot (suc (length sh))))) (reads n ps)) nil),
          sizes_reads n ps,
        )
        (omega (
          arith,
          translated_size e d sh',
          arguments_size es d' sh' n,
          all_fit_length W ts ps j,
          𝓢.parameters _ m M i,
          length-map ps plain_type,
        ))
    translated_size (choose e x y) (type_choose d d' d'' j) sh =
        rw (translate_choose W x y sh d)
        (omega (arith, translated_size e d sh, translated_size x d' sh, translated_size y d'' sh))
    translated_size (block ts es) {γ} (type_block l d) sh =
        rw (translate_block W ts es γ sh)
        (omega (arith, length-map ts plain_type, all_size es d (sh ++ variables ts)))

    all_size : (es : Exprs) {γ γ' : Environment} {ts : List ExprType} {φ : ℕ} → HaveTypes W γ es ts γ' φ
        → (sh : Shape)
        → sizes (translate_all W es γ sh) ≤ 88 * sizes es
    all_size nil {γ} types_nil sh = rw (translate_all_nil W γ sh) (omega arith)
    all_size (cons e es) (types_cons d d') sh
        = rw (translate_all_cons W es sh d) (omega (arith, translated_size e d sh, all_size es d' sh))

    -- An argument has one row more, of the assignment to its temporary.
    arguments_size : (es : Exprs) {γ γ' : Environment} {ts : List ExprType} {φ : ℕ} → HaveTypes W γ es ts γ' φ
        → (sh : Shape) (n : ℕ)
        → sizes (translate_arguments W es γ sh n) ≤ 88 * sizes es + length ts
    arguments_size nil {γ} types_nil sh n = rw (translate_arguments_nil W γ sh n) (omega arith)
    arguments_size (cons e es) (types_cons d d') sh n =
        rw (translate_arguments_cons W es sh n d)
        (omega (arith, translated_size e d sh, arguments_size es d' sh (suc n)))

module _ (P : List Class) (𝓗 : Hierarchy P) (𝓢 : Small (world P)) where
  methods_size : (k super : ℕ) {before ms : List Declaration} → MethodsWell P k super before ms
      → methods_lines (map (plain_method (world P) k) ms) ≤ 88 * methods_lines ms
  unfolding methods_lines method_lines heading_lines
  methods_size k super methods_nil = omega arith
  methods_size k super (methods_cons {m} w ws) = omega (
    arith,
    methods_size k super ws,
    length-map m.parameters plain_type,
    translated_size (world P) 𝓢 m.body (computed P 𝓗 m.body w.body) (variables m.parameters),
  )

  classes_size : {k : ℕ} {cs : List Class} → ClassesWell P k cs
      → classes_lines (plain_classes (world P) k cs) ≤ 88 * classes_lines cs
  unfolding classes_lines class_lines plain_classes
  classes_size classes_nil = omega arith
  classes_size {k} (classes_cons {c} w ws) = omega
      (arith, methods_size k c.super w.methods, classes_size ws, length-map c.fields plain_field)

-- The plain program of a well-formed program has at most 88 rows for each row of the source, and 4.
pub program_size : (p : Program) → ProgramWell p → Small (world p.classes)
    → length (flatten_program (plain_program p)) ≤ 88 * length (flatten_program p) + 4
unfolding plain_program classes_lines class_lines methods_lines
program_size p w 𝓢 = let 𝓗 = hierarchy p.classes w.classes in omega (
  arith,
  length_program (plain_program p),
  length_program p,
  classes_size p.classes 𝓗 𝓢 w.classes,
  translated_size (world p.classes) 𝓢 p.start (computed p.classes 𝓗 p.start w.start) [],
)
