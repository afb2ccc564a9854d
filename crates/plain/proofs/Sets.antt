-- Laws of U, which becomes a block with two temporaries: the field's type, the task of its nodes, and what
-- they write together. Assumes nothing.
use mathlib.Core.Path.{◌≡◌, refl, sym, ap, ◌∙◌}
use mathlib.Core.Option.{Option}
use mathlib.Core.Bool.{false}
use mathlib.Core.List.{List, [], ◌∷◌, ◌++◌}
use Prim.Native.Nat.{ℕ, suc, ◌+◌, ◌*◌, ◌≤◌, ◌<◌}
use native.Mathlib.Omega.{arith}
use lib.ListN.{length, get_or, length-append}
use Rattle.language.specs.Tree.{type_number, Expr, set, size, Field, Class}
use Rattle.language.specs.World.{field_type}
use Rattle.language.specs.Effects.{apply_class}
use Rattle.language.specs.Program.{world}
use Rattle.language.specs.ClassTables.{stored_place}
use Rattle.language.specs.Encoded.{Encoded}
use Rattle.language.specs.Environment.{Environment}
use Rattle.language.specs.Typing.{type_of}
use Rattle.language.specs.Translation.{Shape, plain_type, typed_or, class_or, type_or}
use Rattle.language.specs.LookupClasses.{LooksUp}
use Rattle.language.proofs.Lines.{line_at}
use Rattle.theory.proofs.translation.PlainForm.{variable_count}
use Rattle.emitters.specs.Lines.{most_numbers, plain_number}
use Rattle.plain.specs.Numbers.{arguments_numbers, Nodes, none, also, how_many, rows_taken}
use Rattle.emitters.specs.Writing.{Written}
use Rattle.plain.specs.Emission.{SomeSet, SomeArguments, SetEmitted, ArgumentsEmitted}
use Rattle.plain.specs.Tasks.{NodeTask, NodesTask, EachNode}
use Rattle.emitters.proofs.Writing.{written_then}
use Rattle.plain.proofs.Emission.{whole}
use Rattle.plain.proofs.Translated.{t_set}
use Rattle.plain.proofs.Tasks.{node_row, node_parts}
use Rattle.plain.proofs.Numbers.{plain_told}
use Rattle.emitters.proofs.Tabled.{fields_tabled}
use Rattle.plain.proofs.Shapes.{setting_temporaries}

module _ {P : List Class} {E : List ℕ} {γ : Environment} {sh : Shape} {R T M C S : List ℕ}
    {at vars next place : ℕ} {f : ℕ} {e e' : Expr}
    (t : NodeTask P E (set f e e') γ sh R T M C S at vars next place) where
  abbrev set_class : ℕ
  set_class =
      let a = typed_or (type_of (world P) e 0 γ) in
      apply_class (world P) (typed_or (type_of (world P) e' 0 a.slots)).effect (class_or a.type)

  set_name : (get_or R (at * 4 + 1) 0 ≡ f) × (get_or C at 0 ≡ set_class) × (f < 256) × (set_class ≤ length P)
  unfolding Encoded LooksUp
  set_name = let h = node_parts t in
      (t.encoded.0.row.first, t.looks.0 (node_row t).2, h.0, h.1)

  -- the field's entry, its row and its plain type
  set_field : (i : ℕ) × (g : Field) × (get_or T (set_class * 576 + f) 0 ≡ suc i)
      × (set_class * 576 + 520 + i < length T) × (get_or T (set_class * 576 + 520 + i) 0 * 4 + 3 < length R)
      × (plain_number (get_or R (get_or T (set_class * 576 + 520 + i) 0 * 4 + 1) 0)
      ≡ type_number (plain_type (type_or (field_type f ((world P).fields set_class)))))
  unfolding field_type
  set_field =
      let F = (node_parts t).2 in
      let row = line_at _ ((world P).fields set_class) (set_class * 576 + 520)
      (fields_tabled t.setting.lent set_class set_name.3) F.0 F.1 F.3 in (
        F.0,
        F.1,
        t.setting.lent.held.headed.classes.places set_class f set_name.3 set_name.2
            ∙ ap (λ (o : Option ℕ). stored_place o) F.2,
        row.0,
        row.1.within,
        ap (λ (n : ℕ). plain_number n) row.1.first ∙ plain_told F.1.type F.4
            ∙ rw (F.2, F.3) refl,
      )

  abbrev set_arguments : Nodes
  set_arguments = also e γ (also e' (typed_or (type_of (world P) e 0 γ)).slots none)

  set_room : place + 32 + length
      (arguments_numbers (world P) (sh ++ (false ∷ false ∷ [])) (suc (length sh)) set_arguments)
      ≤ most_numbers
  set_room = omega (
    arith,
    t.fits,
    ap length (t_set (world P) γ sh f e e'),
    length-append (arguments_numbers (world P) (sh ++ (false ∷ false ∷ [])) (suc (length sh)) set_arguments)
        (85 ∷ f ∷ 0 ∷ 0 ∷ 75 ∷ (set_class + 2) ∷ 0 ∷ 0 ∷ 71 ∷ 255 ∷ 0 ∷ 0 ∷ 73 ∷ suc (length sh) ∷ 0 ∷ 0 ∷ 73
        ∷ (suc (length sh) + 1) ∷ 0 ∷ 0 ∷ []),
  )

  set_nodes : (p : ℕ) → p ≡ place + 12
      → NodesTask P E set_arguments (sh ++ (false ∷ false ∷ [])) R T M C S (at + 1) vars (next + 2) p
  unfolding Encoded LooksUp EachNode variable_count
  set_nodes p q = let h = node_parts t in record {
    setting = setting_temporaries t.setting (false ∷ false ∷ []) refl;
    encoded = (t.encoded.1, (t.encoded.2, tt));
    looks = (t.looks.1, (t.looks.2, tt));
    typed = (h.3, (h.4, tt));
    low = omega (arith, t.low, q);
  }

module _ {R T M C S : List ℕ} {at vars next place : ℕ} where
  pub set_row : SomeSet R T M C S at vars next place
      → (at * 4 + 3 < length R) × (at < 60000) × (at < length C)
  set_row x = node_row x.task

  pub set_fits : SomeSet R T M C S at vars next place → (place + 32 ≤ most_numbers) × (next ≤ most_numbers)
  set_fits x = let t = x.task in (omega (arith, set_room t), omega (arith, t.low, set_room t))

  pub set_ended : {O O₁ : List ℕ} {p : ℕ} {u : ℕ} → SomeSet R T M C S at vars next place
      → Written (66 ∷ 2 ∷ 3 ∷ 0 ∷ 86 ∷ 1 ∷ 0 ∷ 0 ∷ 86 ∷ u ∷ 0 ∷ 0 ∷ []) O O₁ place p
      → SomeArguments R T M C S (at + 1) vars (next + 2) p 2 next
  unfolding how_many
  set_ended x w = let t = x.task in let z : _ ≡ place + 12 = w.ended in
      record {
        P = x.P;
        E = x.E;
        es = set_arguments t;
        sh = x.sh ++ (false ∷ false ∷ []);
        task = set_nodes t _ z;
        counted = refl;
        fits = rw (z, t.setting.free) (omega (arith, set_room t));
        below = omega (arith, t.low, set_room t);
      }

  pub set_room_after : {O₁ O₂ : List ℕ} {p q b : ℕ} → SomeSet R T M C S at vars next place → p ≡ place + 12
      → ArgumentsEmitted R T M C S O₁ O₂ (at + 1) vars (next + 2) p 2 next q b
      → q + 20 ≤ most_numbers
  unfolding how_many
  set_room_after x z m = let t = x.task in
      let em = m.each x.P x.E (set_arguments t) (x.sh ++ (false ∷ false ∷ [])) (set_nodes t _ z) refl
      (rw (z, t.setting.free) (omega (arith, set_room t))) in
      omega (arith, em.written.ended, z, rw t.setting.free at em.written.ended, set_room t)

-- what is read on the way to the field's type: its name, its entry, its row, its number
module _ {R T M C S : List ℕ} {at vars next place n class : ℕ} (a : n ≡ get_or R (at * 4 + 1) 0)
    (class_is : class ≡ get_or C at 0) where
  pub set_known : SomeSet R T M C S at vars next place → (n < 256) × (class * 576 + n < length T)
  set_known x = let t = x.task in let m = set_name t in
      rw (a ∙ m.0, class_is ∙ m.1) (m.2, omega (arith, m.2, m.3, t.setting.lent.held.headed.classes.long))

  module _ {i : ℕ} (b : i ≡ get_or T (class * 576 + n) 0) where
    -- the entry of the field's row, in the terms of its tree
    set-entry : {P : List Class} {E : List ℕ} {γ : Environment} {sh : Shape} {f : ℕ} {e e' : Expr}
        (t : NodeTask P E (set f e e') γ sh R T M C S at vars next place)
        → class * 576 + (519 + i) ≡ set_class t * 576 + 520 + (set_field t).0
    set-entry t = let m = set_name t in let d = set_field t in
        omega (arith, class_is ∙ m.1, rw (a ∙ m.0, class_is ∙ m.1, d.2) at b)

    pub set_found : SomeSet R T M C S at vars next place → class * 576 + (519 + i) < length T
    set_found x = omega (arith, set-entry x.task, (set_field x.task).3)

    module _ {r : ℕ} (c : r ≡ get_or T (class * 576 + (519 + i)) 0) where
      pub set_within : SomeSet R T M C S at vars next place → r * 4 + 3 < length R
      set_within x = let t = x.task in rw (c, set-entry t) (set_field t).4

      pub set_done : {O O₁ O₂ O₃ : List ℕ} {p q p' j l u : ℕ} → l ≡ get_or R (r * 4 + 1) 0 → u ≡ plain_number l
          → Written (66 ∷ 2 ∷ 3 ∷ 0 ∷ 86 ∷ 1 ∷ 0 ∷ 0 ∷ 86 ∷ u ∷ 0 ∷ 0 ∷ []) O O₁ place p
          → ArgumentsEmitted R T M C S O₁ O₂ (at + 1) vars (next + 2) p 2 next q j
          → Written (85 ∷ n ∷ 0 ∷ 0 ∷ 75 ∷ (class + 2) ∷ 0 ∷ 0 ∷ 71 ∷ 255 ∷ 0 ∷ 0 ∷ 73 ∷ next ∷ 0 ∷ 0 ∷
          73
          ∷ (next + 1) ∷ 0 ∷ 0 ∷ []) O₂ O₃ q p'
          → SetEmitted R T M C S O O₃ at vars next place p' j
      unfolding size how_many rows_taken
      set_done {O} {O₁} {O₂} {O₃} {p} {q} {p'} {j} {l} {u} g k w m v = record {
        each = λ P E f e e' γ sh t.
            let d = set_name t in
            let z : p ≡ place + 12 = w.ended in
            let k' : u ≡ type_number (plain_type (type_or (field_type f ((world P).fields (set_class t))))) =
            k ∙ rw (g, c, set-entry t) (set_field t).5 in
            let em = m.each P E (set_arguments t) (sh ++ (false ∷ false ∷ [])) (set_nodes t p z) refl
            (rw (z, t.setting.free) (omega (arith, set_room t))) in
            whole (written_then w (written_then em.written v))
            (rw (k', a ∙ d.0, class_is ∙ d.1, t.setting.free) (sym (t_set (world P) γ sh f e e')))
            (omega (arith, em.passed));
      }
