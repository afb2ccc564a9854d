-- Laws of the tasks of nodes: what a node's row holds, the task of its parts, and what they write together.
-- Assumes nothing.
use mathlib.Core.Path.{◌≡◌, refl, sym, ap, ◌∙◌}
use mathlib.Core.Bool.{false}
use mathlib.Core.List.{List, [], ◌∷◌, ◌++◌}
use Prim.Native.Nat.{ℕ, suc, ◌+◌, ◌*◌, ◌≤◌, ◌<◌}
use native.Mathlib.Omega.{arith}
use lib.ListN.{length, get_or, length-append}
use Rattle.language.specs.Limits.{largest}
use Rattle.language.specs.Tree.{Expr, slot, is_null, get, cast, new, change, assign, choose, size, Class}
use Rattle.language.specs.Program.{world}
use Rattle.language.specs.Encoded.{Encoded}
use Rattle.language.specs.Environment.{Environment}
use Rattle.language.specs.Typing.{type_of}
use Rattle.language.specs.Translation.{Shape, typed_or, class_or}
use Rattle.language.specs.LookupClasses.{LooksUp}
use Rattle.language.proofs.Nodes.{head}
use Rattle.theory.proofs.translation.PlainForm.{variable_count}
use Rattle.emitters.specs.Lines.{most_numbers}
use Rattle.plain.specs.Numbers.{node_numbers, nodes_numbers, none, also}
use Rattle.emitters.specs.Writing.{Written}
use Rattle.plain.specs.Emission.{Emitted, NodeEmitted}
use Rattle.plain.specs.Tasks.{NodeTask, NodesTask, EachNode}
use Rattle.emitters.proofs.Writing.{written_then}
use Rattle.plain.proofs.Emission.{whole}
use Rattle.plain.proofs.Translated.{t_is_null, t_assign, t_get, t_cast, t_choose}
use Rattle.plain.proofs.Typed.{TypedParts, typed_parts}
use Rattle.plain.proofs.Shapes.{setting_temporaries}

module _ {P : List Class} {E : List ℕ} {γ : Environment} {sh : Shape} {R T M C S : List ℕ}
    {at vars next place : ℕ} where
  pub node_row : {e : Expr} → NodeTask P E e γ sh R T M C S at vars next place
      → (at * 4 + 3 < length R) × (at < 60000) × (at < length C)
  node_row {e} t = let h = (head e t.encoded).row in (
    h,
    omega (arith, h, t.setting.lent.held.headed.here.short),
    omega (arith, h, t.setting.lent.beside),
  )

  pub node_parts : {e : Expr} → NodeTask P E e γ sh R T M C S at vars next place → TypedParts P e γ vars
  node_parts {e} t = typed_parts t.setting.lent e t.typed

  -- K
  cast_class : {c : ℕ} {e : Expr} → NodeTask P E (cast c e) γ sh R T M C S at vars next place
      → get_or R (at * 4 + 1) 0 ≡ c
  unfolding Encoded
  cast_class t = t.encoded.0.row.first

  pub cast_small : {c : ℕ} {e : Expr} → NodeTask P E (cast c e) γ sh R T M C S at vars next place
      → get_or R (at * 4 + 1) 0 < 65536
  cast_small t = omega (arith, cast_class t, (node_parts t).0)

  pub cast_room : {c : ℕ} {e : Expr} → NodeTask P E (cast c e) γ sh R T M C S at vars next place
      → place + 40 + length (node_numbers (world P) e γ (sh ++ (false ∷ []))) ≤ most_numbers
  cast_room {c} {e} t =
      omega (
        arith,
        t.fits,
        ap length (t_cast (world P) γ sh c e),
        length-append (node_numbers (world P) e γ (sh ++ (false ∷ [])))
            (78 ∷ 0 ∷ 0 ∷ 0 ∷ 71 ∷ 254 ∷ 0 ∷ 0 ∷ 75 ∷ (c + 2) ∷ 0 ∷ 0 ∷ 71 ∷ 255 ∷ 0 ∷ 0 ∷ 73
            ∷ suc (length sh) ∷ 0
            ∷ 0 ∷ []),
      )

  pub cast_child : {c : ℕ} {e : Expr} → NodeTask P E (cast c e) γ sh R T M C S at vars next place → (p : ℕ)
      → p ≡ place + 20
      → NodeTask P E e γ (sh ++ (false ∷ [])) R T M C S (at + 1) vars (next + 1) p
  unfolding Encoded LooksUp variable_count
  cast_child {c} {e} t p q = record {
    setting = setting_temporaries t.setting (false ∷ []) refl;
    encoded = t.encoded.1;
    looks = t.looks;
    typed = (node_parts t).1;
    low = omega (arith, t.low, q);
    fits = omega (arith, cast_room t, q);
  }

  pub cast_done : {c n : ℕ} {e : Expr} {O O₁ O₂ O₃ : List ℕ} {p q p' b : ℕ} → n ≡ get_or R (at * 4 + 1) 0
      → NodeTask P E (cast c e) γ sh R T M C S at vars next place
      → Written (66 ∷ 1 ∷ 1 ∷ 0 ∷ 86 ∷ 1 ∷ 0 ∷ 0 ∷ 74 ∷ 0 ∷ 0 ∷ 0 ∷ 90 ∷ 0 ∷ 0 ∷ 0 ∷ 65 ∷ next ∷ 0 ∷ 0 ∷ []) O
      O₁ place p
      → NodeEmitted R T M C S O₁ O₂ (at + 1) vars (next + 1) p q b
      → Written (78 ∷ 0 ∷ 0 ∷ 0 ∷ 71 ∷ 254 ∷ 0 ∷ 0 ∷ 75 ∷ (n + 2) ∷ 0 ∷ 0 ∷ 71 ∷ 255 ∷ 0 ∷
      0 ∷ 73 ∷ next ∷ 0 ∷ 0 ∷ []) O₂ O₃ q p'
      → Emitted (node_numbers (world P) (cast c e) γ sh) (size (cast c e)) O O₃ place at p' b
  unfolding size
  cast_done {c} {n} {e} k t h m w =
      let ch = cast_child t _ h.ended in
      let em = m.each P E e γ (sh ++ (false ∷ [])) ch in
      whole (written_then h (written_then em.written w))
      (rw (t.setting.free, k ∙ cast_class t) (sym (t_cast (world P) γ sh c e)))
      (omega (arith, em.passed))

  -- Z, A and G
  pub is_null_child : {e : Expr} → NodeTask P E (is_null e) γ sh R T M C S at vars next place → (p : ℕ)
      → p ≡ place + 4 → NodeTask P E e γ sh R T M C S (at + 1) vars next p
  unfolding Encoded LooksUp
  is_null_child {e} t p q = record {
    setting = t.setting;
    encoded = t.encoded.1;
    looks = t.looks;
    typed = node_parts t;
    low = omega (arith, t.low, q);
    fits = omega (arith, t.fits, ap length (t_is_null (world P) γ sh e), q);
  }

  pub assign_slot : {k : ℕ} {e : Expr} → NodeTask P E (assign k e) γ sh R T M C S at vars next place
      → (get_or R (at * 4 + 1) 0 ≡ k) × (k < vars)
  unfolding Encoded
  assign_slot t = (t.encoded.0.row.first, (node_parts t).0)

  pub assign_child : {k : ℕ} {e : Expr} → NodeTask P E (assign k e) γ sh R T M C S at vars next place
      → (p : ℕ)
      → p ≡ place + 4 → NodeTask P E e γ sh R T M C S (at + 1) vars next p
  unfolding Encoded LooksUp
  assign_child {k} {e} t p q = record {
    setting = t.setting;
    encoded = t.encoded.1;
    looks = t.looks;
    typed = (node_parts t).1;
    low = omega (arith, t.low, q);
    fits = omega (arith, t.fits, ap length (t_assign (world P) γ sh k e), q);
  }

  pub get_name : {f : ℕ} {e : Expr} → NodeTask P E (get f e) γ sh R T M C S at vars next place
      → (get_or R (at * 4 + 1) 0 ≡ f) × (get_or C at 0 ≡ class_or (typed_or (type_of (world P) e 0 γ)).type)
  unfolding Encoded LooksUp
  get_name t = (t.encoded.0.row.first, t.looks.0 (node_row t).2)

  pub get_child : {f : ℕ} {e : Expr} → NodeTask P E (get f e) γ sh R T M C S at vars next place → (p : ℕ)
      → p ≡ place + 12 → NodeTask P E e γ sh R T M C S (at + 1) vars next p
  unfolding Encoded LooksUp
  get_child {f} {e} t p q = record {
    setting = t.setting;
    encoded = t.encoded.1;
    looks = t.looks.1;
    typed = node_parts t;
    low = omega (arith, t.low, q);
    fits = omega (arith, t.fits, ap length (t_get (world P) γ sh f e), q);
  }

  -- I, W and R
  pub slot_slot : {k : ℕ} → NodeTask P E (slot k) γ sh R T M C S at vars next place
      → (get_or R (at * 4 + 1) 0 ≡ k) × (k < vars)
  unfolding Encoded
  slot_slot t = (t.encoded.row.first, node_parts t)

  pub new_class : {c : ℕ} → NodeTask P E (new c) γ sh R T M C S at vars next place
      → (get_or R (at * 4 + 1) 0 ≡ c) × (c ≤ largest)
  unfolding Encoded
  new_class t = (t.encoded.row.first, node_parts t)

  pub change_slot : {k d : ℕ} → NodeTask P E (change k d) γ sh R T M C S at vars next place
      → (get_or R (at * 4 + 1) 0 ≡ k) × (get_or R (at * 4 + 2) 0 ≡ d) × (k < vars) × (d ≤ largest)
      × (d ≤ length P)
  unfolding Encoded
  change_slot t = let h = node_parts t in
      (t.encoded.row.first, t.encoded.row.second, h.0, h.1, h.2)

  -- J
  pub choose_nodes : {e x y : Expr} → NodeTask P E (choose e x y) γ sh R T M C S at vars next place → (p : ℕ)
      → p ≡ place + 4
      → NodesTask P E (also e γ (also x (typed_or (type_of (world P) e 0 γ)).slots
      (also y (typed_or (type_of (world P) e 0 γ)).slots none))) sh R T M C S (at + 1) vars next p
  unfolding Encoded LooksUp EachNode
  choose_nodes t p q = let h = node_parts t in record {
    setting = t.setting;
    encoded = (t.encoded.1, (t.encoded.2, (t.encoded.3, tt)));
    looks = (t.looks.0, (t.looks.1, (t.looks.2, tt)));
    typed = (h.0, (h.1, (h.2, tt)));
    low = omega (arith, t.low, q);
  }

  pub choose_room : {e x y : Expr} → NodeTask P E (choose e x y) γ sh R T M C S at vars next place
      → place + 4 + length
      (nodes_numbers (world P) sh
      (also e γ (also x (typed_or (type_of (world P) e 0 γ)).slots
      (also y (typed_or (type_of (world P) e 0 γ)).slots none)))) ≤ most_numbers
  choose_room {e} {x} {y} t = omega (arith, t.fits, ap length (t_choose (world P) γ sh e x y))
