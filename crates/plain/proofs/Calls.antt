-- Laws of Q, which becomes a block with a temporary for the object and each argument: the method's
-- parameters, the task of its nodes, and what they write together. Assumes nothing.
use mathlib.Core.Path.{◌≡◌, sym, ap, subst, ◌∙◌}
use mathlib.Core.Bool.{false}
use mathlib.Core.List.{List, [], ◌∷◌, ◌++◌}
use Prim.Native.Nat.{ℕ, suc, ◌+◌, ◌-◌, ◌*◌, ◌≤◌, ◌<◌}
use native.Mathlib.Omega.{arith}
use lib.ListN.{length, get_or, length-append, length-map}
use Rattle.language.specs.Lists.{nth_lt}
use Rattle.language.specs.Rows.{P_parameter}
use Rattle.language.specs.Tree.{DeclaredType, Expr, call, Exprs, count, size, Class}
use Rattle.language.specs.WellFormed.{Each, TypeInForm}
use Rattle.language.specs.Effects.{apply_class}
use Rattle.language.specs.Program.{world}
use Rattle.language.specs.Encoded.{TypesAt, Encoded}
use Rattle.language.specs.Environment.{Environment}
use Rattle.language.specs.Typing.{type_of, type_all}
use Rattle.language.specs.Translation.{Shape, typed_or, typed_all_or, class_or, parameters_or, temporaries}
use Rattle.language.specs.LookupClasses.{LooksUp}
use Rattle.language.specs.ClassTables.{method_number}
use Rattle.language.specs.MethodTables.{placed_methods}
use Rattle.language.proofs.Methods.{method_found}
use Rattle.layout.specs.HeldLaws.{method_at}
use Rattle.theory.proofs.translation.PlainForm.{variable_count, count_temporaries}
use Rattle.emitters.specs.Lines.{most_numbers, type_lines, read_lines}
use Rattle.plain.specs.Numbers.{arguments_numbers, Nodes, also, nodes_of, how_many, rows_taken}
use Rattle.emitters.specs.Writing.{Written, SomeTypes, TypesWritten}
use Rattle.plain.specs.Emission.{SomeCall, SomeArguments, CallEmitted, ArgumentsEmitted}
use Rattle.plain.specs.Tasks.{NodeTask, NodesTask, EachNode}
use Rattle.emitters.proofs.Writing.{written_then}
use Rattle.plain.proofs.Emission.{whole}
use Rattle.plain.proofs.Translated.{t_call}
use Rattle.plain.proofs.Tasks.{node_row, node_parts}
use Rattle.plain.proofs.Shapes.{setting_temporaries}
use Rattle.emitters.proofs.Lines.{types_length, reads_length}
use Rattle.plain.proofs.Nodes.{encoded_nodes, looks_nodes, nodes_counted, nodes_sizes}

module _ {P : List Class} {E : List ℕ} {γ : Environment} {sh : Shape} {R T M C S : List ℕ}
    {at vars next place : ℕ} {m : ℕ} {e : Expr} {es : Exprs}
    (t : NodeTask P E (call m e es) γ sh R T M C S at vars next place) where
  abbrev call_class : ℕ
  call_class =
      let a = typed_or (type_of (world P) e 0 γ) in
      apply_class (world P) (typed_all_or (type_all (world P) es 0 a.slots)).effect (class_or a.type)

  abbrev call_types : List DeclaredType
  call_types = parameters_or ((world P).method call_class m)

  call_name : (get_or R (at * 4 + 1) 0 ≡ m) × (get_or R (at * 4 + 2) 0 ≡ count es) × (get_or C at 0 ≡ call_class)
      × (m < 256) × (call_class ≤ length P)
  unfolding Encoded LooksUp
  call_name = let h = node_parts t in (
    t.encoded.0.row.first,
    t.encoded.0.row.second,
    t.looks.0 (node_row t).2,
    h.0,
    h.1,
  )

  -- the method's number in the table of classes, and its P lines
  call_method : (length call_types ≡ count es) × Each TypeInForm call_types × (i : ℕ)
      × (get_or T (call_class * 576 + 256 + m) 0 ≡ suc i) × (i * 4 < length M)
      × TypesAt P_parameter R call_types (get_or M (i * 4) 0 + 1)
  unfolding method_number
  call_method =
      let found = (node_parts t).2 in
      let held = t.setting.lent.held.headed in
      let x = method_found P call_class m found.0 found.1 in
      let i = found.0.number in
      let entry = held.classes.methods call_class m call_name.4 call_name.3 in
      let row = held.methods.rows i x.placed x.there in
      let below = nth_lt (placed_methods P) i x.placed x.there in
      rw found.1 (
        found.2,
        found.3,
        i,
        rw found.1 at entry,
        omega (arith, below, held.methods.long),
        rw row (subst (λ (ts : List DeclaredType). TypesAt P_parameter R ts (x.placed.row + 1))
            (sym x.parameters) (method_at held call_class m found.0 found.1).at.parameters),
      )

  abbrev call_arguments : Nodes
  call_arguments = also e γ (nodes_of (world P) es (typed_or (type_of (world P) e 0 γ)).slots)

  abbrev call_shape : Shape
  call_shape = sh ++ (false ∷ temporaries call_types)

  call_room : place + 24 + 8 * count es + length
      (arguments_numbers (world P) call_shape (suc (length sh)) call_arguments) ≤ most_numbers
  call_room = omega (
    arith,
    t.fits,
    ap length (t_call (world P) γ sh m e es call_method.0 call_method.1),
    call_method.0,
    types_length 86 call_types,
    reads_length (suc (length sh) + 1) (count es),
    length-append (type_lines 86 call_types)
        (arguments_numbers (world P) call_shape (suc (length sh)) call_arguments
        ++ ((81 ∷ m ∷ count es ∷ 0 ∷ 75 ∷ (call_class + 2) ∷ 0 ∷ 0 ∷ 71 ∷ 255 ∷ 0 ∷ 0 ∷ 73 ∷ suc (length sh)
        ∷ 0 ∷ 0 ∷ []) ++ read_lines (suc (length sh) + 1) (count es))),
    length-append (arguments_numbers (world P) call_shape (suc (length sh)) call_arguments)
        ((81 ∷ m ∷ count es ∷ 0 ∷ 75 ∷ (call_class + 2) ∷ 0 ∷ 0 ∷ 71 ∷ 255 ∷ 0 ∷ 0 ∷ 73 ∷ suc (length sh) ∷ 0
        ∷ 0 ∷ []) ++ read_lines (suc (length sh) + 1) (count es)),
  )

  call_nodes : (p : ℕ) → p ≡ place + 8 + 4 * count es
      → NodesTask P E call_arguments call_shape R T M C S (at + 1) vars (next + (count es + 1)) p
  unfolding Encoded LooksUp EachNode variable_count
  call_nodes p q =
      let h = node_parts t in
      let γ' = (typed_or (type_of (world P) e 0 γ)).slots in
      let z : next + length (false ∷ temporaries call_types) ≡ next + (count es + 1) =
      omega (arith, call_method.0, length-map call_types (λ (t : DeclaredType). false)) in
      record {
        setting = rw z at (setting_temporaries t.setting (false ∷ temporaries call_types)
            (count_temporaries call_types));
        encoded = (t.encoded.1, encoded_nodes (world P) R E es γ' (at + 1 + size e) t.encoded.2);
        looks = (t.looks.1, looks_nodes (world P) C es γ' (at + 1 + size e) t.looks.2);
        typed = (h.3, h.4 (at + 1 + size e));
        low = omega (arith, t.low, q);
      }

module _ {R T M C S : List ℕ} {at vars next place : ℕ} where
  pub call_row : SomeCall R T M C S at vars next place
      → (at * 4 + 3 < length R) × (at < 60000) × (at < length C) × (next + 24 ≤ most_numbers)
  call_row x = let t = x.task in let r = node_row t in
      (r.0, r.1, r.2, omega (arith, t.low, call_room t))

-- what is read on the way to the method's parameters: its name, how many arguments there are, its entry
module _ {R T M C S : List ℕ} {at vars next place f l class : ℕ} (a : f ≡ get_or R (at * 4 + 1) 0)
    (d : l ≡ get_or R (at * 4 + 2) 0) (class_is : class ≡ get_or C at 0) where
  pub call_known : SomeCall R T M C S at vars next place
      → (f < 256) × (class * 576 + (256 + f) < length T)
      × (place + 24 + 8 * l ≤ most_numbers) × (next + (l + 1) ≤ most_numbers)
  call_known x = let t = x.task in let n = call_name t in
      rw (a ∙ n.0, d ∙ n.1, class_is ∙ n.2) (
        n.3,
        omega (arith, n.3, n.4, t.setting.lent.held.headed.classes.long),
        omega (arith, call_room t),
        omega (arith, t.low, call_room t),
      )

  pub call_some_arguments : (x : SomeCall R T M C S at vars next place) (q : ℕ)
      → q ≡ place + 8 + 4 * l → SomeArguments R T M C S (at + 1) vars (next + (l + 1)) q (l + 1) next
  unfolding how_many
  call_some_arguments x q z = let t = x.task in let n = call_name t in
      let z' : q ≡ place + 8 + 4 * count x.es = omega (arith, z, d, n.1) in
      rw (d ∙ n.1) (record {
        P = x.P;
        E = x.E;
        es = call_arguments t;
        sh = call_shape t;
        task = call_nodes t q z';
        counted = omega (
          arith,
          nodes_counted (world x.P) x.es
              (typed_or (type_of (world x.P) x.e 0 x.γ)).slots,
        );
        fits = rw (z', t.setting.free) (omega (arith, call_room t));
        below = omega (arith, t.low, call_room t);
      })

  pub call_room_after : {O₁ O₂ : List ℕ} {q r b : ℕ} → SomeCall R T M C S at vars next place
      → q ≡ place + 8 + 4 * l
      → ArgumentsEmitted R T M C S O₁ O₂ (at + 1) vars (next + (l + 1)) q (l + 1) next r b
      → r + 16 + 4 * l ≤ most_numbers
  unfolding how_many
  call_room_after {O₁} {O₂} {q} {r} {b} x z o = let t = x.task in let n = call_name t in
      let z' : q ≡ place + 8 + 4 * count x.es = omega (arith, z, d, n.1) in
      let o' = rw (d ∙ n.1) at o in
      let em = o'.each x.P x.E (call_arguments t) (call_shape t) (call_nodes t q z')
      (omega (
        arith,
        nodes_counted (world x.P) x.es
            (typed_or (type_of (world x.P) x.e 0 x.γ)).slots,
      ))
      (rw (z', t.setting.free) (omega (arith, call_room t))) in
      omega (arith, z', d, n.1, rw t.setting.free at em.written.ended, call_room t)

  module _ {i : ℕ} (g : i ≡ get_or T (class * 576 + (256 + f)) 0) where
    -- the entry of the method
    call-entry : {P : List Class} {E : List ℕ} {γ : Environment} {sh : Shape} {m : ℕ} {e : Expr} {es : Exprs}
        (t : NodeTask P E (call m e es) γ sh R T M C S at vars next place) → i ≡ suc (call_method t).2
    call-entry {m = m} t = let n = call_name t in
        let z : call_class t * 576 + (256 + m) ≡ call_class t * 576 + 256 + m = omega arith in
        rw (a ∙ n.0, class_is ∙ n.2, z) at g ∙ (call_method t).3

    pub call_found : SomeCall R T M C S at vars next place → (1 ≤ i) × ((i - 1) * 4 < length M)
    call_found x = let z = call-entry x.task in
        (omega (arith, z), omega (arith, z, (call_method x.task).4))

    module _ {row : ℕ} (row_is : row ≡ get_or M ((i - 1) * 4) 0) where
      pub call_some_types : SomeCall R T M C S at vars next place → SomeTypes R (row + 1) l
      call_some_types x = let t = x.task in let n = call_name t in let h = call_method t in
          let z : i - 1 ≡ h.2 = omega (arith, call-entry t) in
          rw (row_is, d ∙ n.1, z) (record { letter = P_parameter; ts = call_types t; rows = h.5; counted = h.0 })

      pub call_ended : {O O₁ O₂ : List ℕ} {p q c c' : ℕ} → (x : SomeCall R T M C S at vars next place)
          → Written (66 ∷ c ∷ c' ∷ 0 ∷ 86 ∷ 1 ∷ 0 ∷ 0 ∷ []) O O₁ place p
          → TypesWritten R (row + 1) l 86 O₁ O₂ p q
          → q ≡ place + 8 + 4 * l
      call_ended x w v = let y = call_some_types x in
          omega (
            arith,
            w.ended,
            (v.each y.letter y.ts y.rows y.counted).ended,
            types_length 86 y.ts,
            y.counted,
          )

      pub call_done : {O O₁ O₂ O₃ O₄ O₅ : List ℕ} {p q r p' q' b : ℕ}
          → Written (66 ∷ (l + 1) ∷ (l + 2) ∷ 0 ∷ 86 ∷ 1 ∷ 0 ∷ 0 ∷ []) O O₁ place p
          → TypesWritten R (row + 1) l 86 O₁ O₂ p q
          → ArgumentsEmitted R T M C S O₂ O₃ (at + 1) vars (next + (l + 1)) q (l + 1) next r b
          → Written (81 ∷ f ∷ l ∷ 0 ∷ 75 ∷ (class + 2) ∷ 0 ∷ 0 ∷ 71 ∷ 255 ∷ 0 ∷ 0 ∷ 73 ∷ next ∷ 0 ∷ 0 ∷
          [])
          O₃ O₄ r p'
          → Written (read_lines (next + 1) l) O₄ O₅ p' q' → CallEmitted R T M C S O O₅ at vars next place q' b
      unfolding size how_many rows_taken
      call_done {O} {O₁} {O₂} {O₃} {O₄} {O₅} {p} {q} {r} {p'} {q'} {b} w v o j k = record {
        each = λ P E m e es γ sh t.
            let n = call_name t in let h = call_method t in
            let γ' = (typed_or (type_of (world P) e 0 γ)).slots in
            let x : SomeCall R T M C S at vars next place =
            record { P = P; E = E; m = m; e = e; es = es; γ = γ; sh = sh; task = t } in
            let z : q ≡ place + 8 + 4 * count es = rw (d ∙ n.1) at (call_ended x w v) in
            let y : i - 1 ≡ h.2 = omega (arith, call-entry t) in
            let v' = rw (row_is, d ∙ n.1, y) at v in
            let u = v'.each P_parameter (call_types t) h.5 h.0 in
            let o' = rw (d ∙ n.1) at o in
            let em = o'.each P E (call_arguments t) (call_shape t) (call_nodes t q z)
            (omega (arith, nodes_counted (world P) es γ'))
            (rw (z, t.setting.free) (omega (arith, call_room t))) in
            whole (written_then w (written_then u (written_then em.written (written_then j k))))
            (rw (a ∙ n.0, d ∙ n.1, class_is ∙ n.2, t.setting.free) (sym (t_call (world P) γ sh m e es h.0 h.1)))
            (omega (arith, em.passed, nodes_sizes (world P) es γ'));
      }
