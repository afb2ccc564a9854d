-- Laws of the dispatch on a node's letter: what each arm has to know, and what it has written. Assumes
-- nothing.
use mathlib.Core.Path.{◌≡◌, refl, sym, ap, ◌∙◌}
use mathlib.Core.Logic.{◌⊎◌, inl, inr, ◌≢◌}
use mathlib.Core.List.{List, [], ◌∷◌, ◌++◌}
use Prim.Native.Nat.{ℕ, zero, suc, ◌+◌, ◌*◌, ◌≤◌, ◌<◌}
use native.Mathlib.Omega.{arith}
use lib.ListN.{length, get_or, length-append}
use Rattle.language.specs.Rows.{Letter, code, T_true, L_false, N_null, I_slot, Z_is_null, G_get, K_cast}
use Rattle.language.specs.Rows.{W_new, R_change, A_assign, U_set, Q_call, J_choose, B_block}
use Rattle.language.specs.Tree.{Expr, literal, literal_true, literal_false, literal_null, slot, is_null, get}
use Rattle.language.specs.Tree.{cast, new, change, assign, set, call, choose, block, size, Field, Class}
use Rattle.language.specs.Program.{world}
use Rattle.language.specs.Environment.{Environment}
use Rattle.language.specs.Translation.{Shape, plain_slot, translate}
use Rattle.language.proofs.Nodes.{letter_of, EachTree, head, by_row}
use Rattle.emitters.specs.Lines.{most_numbers, slot_lines, new_lines, change_lines, renew_lines, renew_head}
use Rattle.emitters.specs.Lines.{copy_lines, head_length}
use Rattle.plain.specs.Numbers.{node_numbers, how_many, rows_taken}
use Rattle.emitters.specs.Writing.{Written, SomeChange, ChangeWritten}
use Rattle.plain.specs.Emission.{Emitted, SomeNode, SomeCast, SomeSet, SomeCall, SomeBlock, SomeNodes}
use Rattle.plain.specs.Emission.{NodeEmitted, CastEmitted, SetEmitted, CallEmitted, BlockEmitted}
use Rattle.plain.specs.Emission.{NodesEmitted}
use Rattle.plain.specs.Tasks.{NodeTask}
use Rattle.emitters.proofs.Writing.{written_then}
use Rattle.plain.proofs.Emission.{whole}
use Rattle.plain.proofs.Numbers.{n_true, n_false, n_null}
use Rattle.plain.proofs.Translated.{t_slot, t_is_null, t_assign, t_get, t_new, t_choose, t_change}
use Rattle.plain.proofs.Tasks.{node_row, slot_slot, new_class, change_slot, is_null_child, assign_slot}
use Rattle.plain.proofs.Tasks.{assign_child, get_name, get_child, choose_nodes, choose_room}
use Rattle.plain.proofs.Shapes.{slot_at}
use Rattle.emitters.proofs.Lines.{copies_length}

-- none of the other letters: a block
rest_block : (e : Expr) → (n : ℕ) → n ≡ code (letter_of e) → n ≢ 84 → n ≢ 76 → n ≢ 78 → n ≢ 73
    → n ≢ 90 → n ≢ 71 → n ≢ 75 → n ≢ 87 → n ≢ 82 → n ≢ 65 → n ≢ 85 → n ≢ 81 → n ≢ 74 → n ≡ 66
rest_block (literal literal_true) n z h0 h1 h2 h3 h4 h5 h6 h7 h8 h9 h10 h11 h12 = absurd (h0 z)
rest_block (literal literal_false) n z h0 h1 h2 h3 h4 h5 h6 h7 h8 h9 h10 h11 h12 = absurd (h1 z)
rest_block (literal literal_null) n z h0 h1 h2 h3 h4 h5 h6 h7 h8 h9 h10 h11 h12 = absurd (h2 z)
rest_block (slot k) n z h0 h1 h2 h3 h4 h5 h6 h7 h8 h9 h10 h11 h12 = absurd (h3 z)
rest_block (is_null e) n z h0 h1 h2 h3 h4 h5 h6 h7 h8 h9 h10 h11 h12 = absurd (h4 z)
rest_block (get f e) n z h0 h1 h2 h3 h4 h5 h6 h7 h8 h9 h10 h11 h12 = absurd (h5 z)
rest_block (cast c e) n z h0 h1 h2 h3 h4 h5 h6 h7 h8 h9 h10 h11 h12 = absurd (h6 z)
rest_block (new c) n z h0 h1 h2 h3 h4 h5 h6 h7 h8 h9 h10 h11 h12 = absurd (h7 z)
rest_block (change k d) n z h0 h1 h2 h3 h4 h5 h6 h7 h8 h9 h10 h11 h12 = absurd (h8 z)
rest_block (assign k e) n z h0 h1 h2 h3 h4 h5 h6 h7 h8 h9 h10 h11 h12 = absurd (h9 z)
rest_block (set f e e') n z h0 h1 h2 h3 h4 h5 h6 h7 h8 h9 h10 h11 h12 = absurd (h10 z)
rest_block (call m e es) n z h0 h1 h2 h3 h4 h5 h6 h7 h8 h9 h10 h11 h12 = absurd (h11 z)
rest_block (choose e x y) n z h0 h1 h2 h3 h4 h5 h6 h7 h8 h9 h10 h11 h12 = absurd (h12 z)
rest_block (block ts es) n z h0 h1 h2 h3 h4 h5 h6 h7 h8 h9 h10 h11 h12 = z

module _ {R T M C S : List ℕ} {at vars next place : ℕ} where
  -- a node whose letter is known: it is enough to know what follows of each tree of the letter
  of_letter : {B : Type 0} (l : Letter) → SomeNode R T M C S at vars next place → get_or R (at * 4) 0 ≡ code l
      → ((P : List Class) (E : List ℕ) (γ : Environment) (sh : Shape)
      → EachTree (λ e. NodeTask P E e γ sh R T M C S at vars next place → B) l)
      → B
  of_letter {B} l x h g =
      by_row (λ (e : Expr). NodeTask x.P x.E e x.γ x.sh R T M C S at vars next place → B) l
      (head x.e x.task.encoded) h (g x.P x.E x.γ x.sh) x.task

  all_letter : {O O' : List ℕ} {q b : ℕ} (l : Letter) → get_or R (at * 4) 0 ≡ code l
      → ((P : List Class) (E : List ℕ) (γ : Environment) (sh : Shape)
      → EachTree (λ e. NodeTask P E e γ sh R T M C S at vars next place
      → Emitted (node_numbers (world P) e γ sh) (size e) O O' place at q b) l)
      → NodeEmitted R T M C S O O' at vars next place q b
  all_letter {O} {O'} {q} {b} l h g = record {
    each = λ P E e γ sh t. by_row
        (λ (e : Expr). NodeTask P E e γ sh R T M C S at vars next place
        → Emitted (node_numbers (world P) e γ sh) (size e) O O' place at q b) l
        (head e t.encoded) h (g P E γ sh) t;
  }

  pub row_known : SomeNode R T M C S at vars next place
      → (at * 4 + 3 < length R) × (at < 60000) × (at < length C)
  row_known x = node_row x.task

  pub literal_known : SomeNode R T M C S at vars next place
      → (get_or R (at * 4) 0 ≡ 76) ⊎ ((get_or R (at * 4) 0 ≡ 78) ⊎ (get_or R (at * 4) 0 ≡ 84))
      → place + 4 ≤ most_numbers
  unfolding translate
  literal_known x (inl h) = of_letter L_false x h λ P E γ sh t. omega (arith, t.fits, ap length n_false)
  literal_known x (inr (inl h)) = of_letter N_null x h λ P E γ sh t. omega (arith, t.fits, ap length n_null)
  literal_known x (inr (inr h)) = of_letter T_true x h λ P E γ sh t. omega (arith, t.fits, ap length n_true)

  pub literal_arm : {O O' : List ℕ} {p : ℕ}
      → (get_or R (at * 4) 0 ≡ 76) ⊎ ((get_or R (at * 4) 0 ≡ 78) ⊎ (get_or R (at * 4) 0 ≡ 84))
      → Written (get_or R (at * 4) 0 ∷ 0 ∷ 0 ∷ 0 ∷ []) O O' place p
      → NodeEmitted R T M C S O O' at vars next place p (at + 1)
  unfolding translate size
  literal_arm (inl h) w = all_letter L_false h λ P E γ sh t. whole w (rw h (sym n_false)) refl
  literal_arm (inr (inl h)) w = all_letter N_null h λ P E γ sh t. whole w (rw h (sym n_null)) refl
  literal_arm (inr (inr h)) w = all_letter T_true h λ P E γ sh t. whole w (rw h (sym n_true)) refl

  pub slot_known : SomeNode R T M C S at vars next place → get_or R (at * 4) 0 ≡ 73
      → (get_or R (at * 4 + 1) 0 < 32)
      × (place + length (slot_lines (get_or S (get_or R (at * 4 + 1) 0) 0)) ≤ most_numbers)
  slot_known x h = of_letter I_slot x h λ P E γ sh k t. let z = slot_slot t in (
    omega (arith, z.0, z.1, t.setting.scope),
    rw (slot_at t.setting z.0 z.1)
        (omega (arith, t.fits, ap length (t_slot (world P) γ sh k))),
  )

  pub slot_arm : {O O' : List ℕ} {p : ℕ} → get_or R (at * 4) 0 ≡ 73
      → Written (slot_lines (get_or S (get_or R (at * 4 + 1) 0) 0)) O O' place p
      → NodeEmitted R T M C S O O' at vars next place p (at + 1)
  unfolding size
  slot_arm h w = all_letter I_slot h λ P E γ sh k t. let z = slot_slot t in
      whole w (ap (λ (n : ℕ). slot_lines n) (slot_at t.setting z.0 z.1)
      ∙ sym (t_slot (world P) γ sh k)) refl

  pub new_known : SomeNode R T M C S at vars next place → get_or R (at * 4) 0 ≡ 87
      → (place + 56 ≤ most_numbers) × (next ≤ most_numbers) × (get_or R (at * 4 + 1) 0 < 65536)
  new_known x h = of_letter W_new x h λ P E γ sh c t. let r : place + 56 ≤ most_numbers =
      omega (arith, t.fits, ap length (t_new (world P) γ sh c)) in
      (r, omega (arith, r, t.low), omega (arith, (new_class t).0, (new_class t).1))

  pub new_arm : {O O' : List ℕ} {p : ℕ} → get_or R (at * 4) 0 ≡ 87
      → Written (new_lines next (get_or R (at * 4 + 1) 0)) O O' place p
      → NodeEmitted R T M C S O O' at vars next place p (at + 1)
  unfolding size
  new_arm h w = all_letter W_new h λ P E γ sh c t.
      whole w (rw (t.setting.free, (new_class t).0) (sym (t_new (world P) γ sh c))) refl

  change_room : {P : List Class} {E : List ℕ} {γ : Environment} {sh : Shape} {k d : ℕ}
      → NodeTask P E (change k d) γ sh R T M C S at vars next place
      → place + head_length (plain_slot sh k) + 60 + 16 * length ((world P).fields ((world P).root d))
      ≤ most_numbers
  unfolding change_lines renew_lines
  change_room {P} {E} {γ} {sh} {k} {d} t =
      rooms ((world P).fields ((world P).root d)) (suc (length sh)) ((world P).root d) (plain_slot sh k)
      (rw (t_change (world P) γ sh k d) at t.fits)
    where
      rooms : (fs : List Field) (n r s : ℕ) → place + length (change_lines s n d r fs) ≤ most_numbers
          → place + head_length s + 60 + 16 * length fs ≤ most_numbers
      rooms fs n r zero h =
          omega (
            arith,
            h,
            copies_length (n + 1) fs,
            length-append (copy_lines (n + 1) fs) (73 ∷ n ∷ 0 ∷ 0 ∷ []),
            length-append (renew_head n d r (length fs) ++ (copy_lines (n + 1) fs ++ (73 ∷ n ∷ 0 ∷ 0 ∷ [])))
                (73 ∷ n ∷ 0 ∷ 0 ∷ []),
          )
      rooms fs n r (suc s) h =
          omega (
            arith,
            h,
            copies_length (n + 1) fs,
            length-append (copy_lines (n + 1) fs) (73 ∷ n ∷ 0 ∷ 0 ∷ []),
            length-append (renew_head n d r (length fs) ++ (copy_lines (n + 1) fs ++ (73 ∷ n ∷ 0 ∷ 0 ∷ [])))
                (73 ∷ n ∷ 0 ∷ 0 ∷ []),
          )

  change_some : {P : List Class} {E : List ℕ} {γ : Environment} {sh : Shape} {k d : ℕ}
      → NodeTask P E (change k d) γ sh R T M C S at vars next place → SomeChange R T place (plain_slot sh k) d
  change_some {P} {E} t = record {
    P = P;
    E = E;
    M = M;
    C = C;
    lent = t.setting.lent;
    declared = (change_slot t).4;
    fits = change_room t;
  }

  pub change_known : SomeNode R T M C S at vars next place → get_or R (at * 4) 0 ≡ 82
      → (get_or R (at * 4 + 1) 0 < 32)
      × SomeChange R T place (get_or S (get_or R (at * 4 + 1) 0) 0) (get_or R (at * 4 + 2) 0)
      × (next + 2 < most_numbers) × (get_or R (at * 4 + 2) 0 < 65536)
  change_known x h = of_letter R_change x h λ P E γ sh k d t. let z = change_slot t in (
    omega (arith, z.0, z.2, t.setting.scope),
    rw (slot_at t.setting z.0 z.2, z.1) (change_some t),
    omega (arith, t.low, change_room t),
    omega (arith, z.1, z.3),
  )

  pub change_arm : {O O' : List ℕ} {p : ℕ} → get_or R (at * 4) 0 ≡ 82
      → ChangeWritten R T (get_or S (get_or R (at * 4 + 1) 0) 0) next (get_or R (at * 4 + 2) 0) O O' place p
      → NodeEmitted R T M C S O O' at vars next place p (at + 1)
  unfolding size change_some
  change_arm h m = all_letter R_change h λ P E γ sh k d t. let z = change_slot t in
      let m' = rw (slot_at t.setting z.0 z.2, z.1, t.setting.free) at m in
      whole (m'.each (change_some t)) (sym (t_change (world P) γ sh k d)) refl

  pub is_null_known : SomeNode R T M C S at vars next place → get_or R (at * 4) 0 ≡ 90
      → place + 4 ≤ most_numbers
  is_null_known x h = of_letter Z_is_null x h λ P E γ sh e t.
      omega (arith, t.fits, ap length (t_is_null (world P) γ sh e))

  pub is_null_some : SomeNode R T M C S at vars next place → get_or R (at * 4) 0 ≡ 90 → (p : ℕ) → p ≡ place + 4
      → SomeNode R T M C S (at + 1) vars next p
  is_null_some x h p q = of_letter Z_is_null x h λ P E γ sh e t.
      record { P = P; E = E; e = e; γ = γ; sh = sh; task = is_null_child t p q }

  pub is_null_arm : {O O₁ O₂ : List ℕ} {p q b : ℕ} → get_or R (at * 4) 0 ≡ 90
      → Written (90 ∷ 0 ∷ 0 ∷ 0 ∷ []) O O₁ place p
      → NodeEmitted R T M C S O₁ O₂ (at + 1) vars next p q b
      → NodeEmitted R T M C S O O₂ at vars next place q b
  unfolding size
  is_null_arm h w m = all_letter Z_is_null h λ P E γ sh e t. let em =
      m.each P E e γ sh (is_null_child t _ w.ended) in
      whole (written_then w em.written) (sym (t_is_null (world P) γ sh e)) (omega (arith, em.passed))

  pub assign_known : SomeNode R T M C S at vars next place → get_or R (at * 4) 0 ≡ 65
      → (get_or R (at * 4 + 1) 0 < 32) × (place + 4 ≤ most_numbers)
  assign_known x h = of_letter A_assign x h λ P E γ sh k e t. let z = assign_slot t in (
    omega (arith, z.0, z.1, t.setting.scope),
    omega (arith, t.fits, ap length (t_assign (world P) γ sh k e)),
  )

  pub assign_some : SomeNode R T M C S at vars next place → get_or R (at * 4) 0 ≡ 65 → (p : ℕ) → p ≡ place + 4
      → SomeNode R T M C S (at + 1) vars next p
  assign_some x h p q = of_letter A_assign x h λ P E γ sh k e t.
      record { P = P; E = E; e = e; γ = γ; sh = sh; task = assign_child t p q }

  pub assign_arm : {O O₁ O₂ : List ℕ} {p q b : ℕ} → get_or R (at * 4) 0 ≡ 65
      → Written (65 ∷ get_or S (get_or R (at * 4 + 1) 0) 0 ∷ 0 ∷ 0 ∷ []) O O₁ place p
      → NodeEmitted R T M C S O₁ O₂ (at + 1) vars next p q b
      → NodeEmitted R T M C S O O₂ at vars next place q b
  unfolding size
  assign_arm h w m = all_letter A_assign h λ P E γ sh k e t. let z = assign_slot t in let em =
      m.each P E e γ sh (assign_child t _ w.ended) in
      whole (written_then w em.written)
      (rw (slot_at t.setting z.0 z.1) (sym (t_assign (world P) γ sh k e)))
      (omega (arith, em.passed))

  pub get_known : SomeNode R T M C S at vars next place → get_or R (at * 4) 0 ≡ 71 → place + 12 ≤ most_numbers
  get_known x h = of_letter G_get x h λ P E γ sh f e t.
      omega (arith, t.fits, ap length (t_get (world P) γ sh f e))

  pub get_some : SomeNode R T M C S at vars next place → get_or R (at * 4) 0 ≡ 71 → (p : ℕ) → p ≡ place + 12
      → SomeNode R T M C S (at + 1) vars next p
  get_some x h p q = of_letter G_get x h λ P E γ sh f e t.
      record { P = P; E = E; e = e; γ = γ; sh = sh; task = get_child t p q }

  pub get_arm : {O O₁ O₂ : List ℕ} {p q b : ℕ} → get_or R (at * 4) 0 ≡ 71
      → Written (71 ∷ get_or R (at * 4 + 1) 0 ∷ 0 ∷ 0 ∷ 75 ∷ (get_or C at 0 + 2) ∷ 0 ∷ 0 ∷ 71 ∷ 255 ∷ 0 ∷ 0 ∷ [])
      O O₁ place p
      → NodeEmitted R T M C S O₁ O₂ (at + 1) vars next p q b
      → NodeEmitted R T M C S O O₂ at vars next place q b
  unfolding size
  get_arm h w m = all_letter G_get h λ P E γ sh f e t. let z = get_name t in let em =
      m.each P E e γ sh (get_child t _ w.ended) in
      whole (written_then w em.written) (rw (z.0, z.1) (sym (t_get (world P) γ sh f e)))
      (omega (arith, em.passed))

  pub choose_known : SomeNode R T M C S at vars next place → get_or R (at * 4) 0 ≡ 74 → place + 4 ≤ most_numbers
  choose_known x h = of_letter J_choose x h λ P E γ sh e y z t. omega (arith, choose_room t)

  pub choose_some : SomeNode R T M C S at vars next place → get_or R (at * 4) 0 ≡ 74 → (p : ℕ) → p ≡ place + 4
      → SomeNodes R T M C S (at + 1) vars next p 3
  unfolding how_many
  choose_some x h p q = of_letter J_choose x h λ P E γ sh e y z t.
      record {
        P = P;
        E = E;
        es = _;
        sh = sh;
        task = choose_nodes t p q;
        counted = refl;
        fits = rw q (choose_room t);
      }

  pub choose_arm : {O O₁ O₂ : List ℕ} {p q b : ℕ} → get_or R (at * 4) 0 ≡ 74
      → Written (74 ∷ 0 ∷ 0 ∷ 0 ∷ []) O O₁ place p
      → NodesEmitted R T M C S O₁ O₂ (at + 1) vars next p 3 q b
      → NodeEmitted R T M C S O O₂ at vars next place q b
  unfolding size how_many rows_taken
  choose_arm h w m = all_letter J_choose h λ P E γ sh e y z t.
      let em = m.each P E _ sh (choose_nodes t _ w.ended) refl (rw w.ended (choose_room t)) in
      whole (written_then w em.written) (sym (t_choose (world P) γ sh e y z)) (omega (arith, em.passed))

  pub cast_some : SomeNode R T M C S at vars next place → get_or R (at * 4) 0 ≡ 75
      → SomeCast R T M C S at vars next place
  cast_some x h = of_letter K_cast x h λ P E γ sh c e t.
      record { P = P; E = E; c = c; e = e; γ = γ; sh = sh; task = t }

  pub cast_arm : {O O' : List ℕ} {q b : ℕ} → get_or R (at * 4) 0 ≡ 75
      → CastEmitted R T M C S O O' at vars next place q b → NodeEmitted R T M C S O O' at vars next place q b
  cast_arm h o = all_letter K_cast h λ P E γ sh c e t. o.each P E c e γ sh t

  pub set_some : SomeNode R T M C S at vars next place → get_or R (at * 4) 0 ≡ 85
      → SomeSet R T M C S at vars next place
  set_some x h = of_letter U_set x h λ P E γ sh f e e' t.
      record { P = P; E = E; f = f; e = e; e' = e'; γ = γ; sh = sh; task = t }

  pub set_arm : {O O' : List ℕ} {q b : ℕ} → get_or R (at * 4) 0 ≡ 85
      → SetEmitted R T M C S O O' at vars next place q b → NodeEmitted R T M C S O O' at vars next place q b
  set_arm h o = all_letter U_set h λ P E γ sh f e e' t. o.each P E f e e' γ sh t

  pub call_some : SomeNode R T M C S at vars next place → get_or R (at * 4) 0 ≡ 81
      → SomeCall R T M C S at vars next place
  call_some x h = of_letter Q_call x h λ P E γ sh m e es t.
      record { P = P; E = E; m = m; e = e; es = es; γ = γ; sh = sh; task = t }

  pub call_arm : {O O' : List ℕ} {q b : ℕ} → get_or R (at * 4) 0 ≡ 81
      → CallEmitted R T M C S O O' at vars next place q b → NodeEmitted R T M C S O O' at vars next place q b
  call_arm h o = all_letter Q_call h λ P E γ sh m e es t. o.each P E m e es γ sh t

  pub block_some : SomeNode R T M C S at vars next place → get_or R (at * 4) 0 ≡ 66
      → SomeBlock R T M C S at vars next place
  block_some x h = of_letter B_block x h λ P E γ sh ts es t.
      record { P = P; E = E; ts = ts; es = es; γ = γ; sh = sh; task = t }

  pub block_arm : {O O' : List ℕ} {q b : ℕ} → get_or R (at * 4) 0 ≡ 66
      → BlockEmitted R T M C S O O' at vars next place q b → NodeEmitted R T M C S O O' at vars next place q b
  block_arm h o = all_letter B_block h λ P E γ sh ts es t. o.each P E ts es γ sh t

  pub rest_letter : {l : ℕ} → SomeNode R T M C S at vars next place → l ≡ get_or R (at * 4) 0
      → l ≢ 84 → l ≢ 76 → l ≢ 78 → l ≢ 73 → l ≢ 90 → l ≢ 71 → l ≢ 75 → l ≢ 87 → l ≢ 82 → l ≢ 65 → l ≢ 85
      → l ≢ 81
      → l ≢ 74 → l ≡ 66
  rest_letter {l} x e = rest_block x.e l (e ∙ (head x.e x.task.encoded).letter)
