-- Laws of B: what its row and its locals' rows hold, the task of its nodes, and what they write together.
-- Assumes nothing.
use mathlib.Core.Path.{◌≡◌, sym, ap, ◌∙◌}
use mathlib.Core.List.{List, [], ◌∷◌, ◌++◌, map}
use Prim.Native.Nat.{ℕ, ◌+◌, ◌*◌, ◌≤◌, ◌<◌}
use native.Mathlib.Omega.{arith}
use lib.ListN.{length, get_or, length-append}
use Rattle.language.specs.Frames.{opened}
use Rattle.language.specs.Rows.{V_local}
use Rattle.language.specs.Tree.{DeclaredType, block, Exprs, count, size, Class}
use Rattle.language.specs.WellFormed.{Each, TypeInForm}
use Rattle.language.specs.Program.{world}
use Rattle.language.specs.Encoded.{TypesAt, Encoded}
use Rattle.language.specs.Environment.{Environment, fresh_slot}
use Rattle.language.specs.Translation.{Shape, variables}
use Rattle.language.specs.LookupClasses.{LooksUp}
use Rattle.emitters.specs.Lines.{most_numbers, type_lines}
use Rattle.plain.specs.Numbers.{nodes_numbers, nodes_of}
use Rattle.emitters.specs.Writing.{Written, Extended, SomeTypes, TypesWritten}
use Rattle.plain.specs.Emission.{SomeBlock, SomeNodes, BlockEmitted, NodesEmitted}
use Rattle.plain.specs.Tasks.{NodeTask, NodesTask}
use Rattle.emitters.proofs.Writing.{written_then}
use Rattle.plain.proofs.Emission.{whole}
use Rattle.plain.proofs.Translated.{t_block}
use Rattle.plain.proofs.Tasks.{node_row, node_parts}
use Rattle.plain.proofs.Shapes.{setting_locals}
use Rattle.emitters.proofs.Lines.{types_length}
use Rattle.plain.proofs.Nodes.{encoded_nodes, looks_nodes, nodes_counted, nodes_sizes}

module _ {P : List Class} {E : List ℕ} {γ : Environment} {sh : Shape} {R T M C S : List ℕ}
    {at vars next place : ℕ} {ts : List DeclaredType} {es : Exprs}
    (t : NodeTask P E (block ts es) γ sh R T M C S at vars next place) where
  block_numbers : (get_or R (at * 4 + 1) 0 ≡ length ts) × (get_or R (at * 4 + 2) 0 ≡ count es)
  unfolding Encoded
  block_numbers = (t.encoded.0.row.first, t.encoded.0.row.second)

  block_types : TypesAt V_local R ts (at + 1)
  unfolding Encoded
  block_types = t.encoded.1

  block_ready : (vars + length ts ≤ 32) × Each TypeInForm ts
  block_ready = let h = node_parts t in (h.0, h.1)

  block_room : place + 4 + 4 * length ts + length
      (nodes_numbers (world P) (sh ++ variables ts) (nodes_of (world P) es (opened γ (map fresh_slot ts))))
      ≤ most_numbers
  block_room = omega (
    arith,
    t.fits,
    ap length (t_block (world P) γ sh ts es block_ready.1),
    types_length 86 ts,
    length-append (type_lines 86 ts)
        (nodes_numbers (world P) (sh ++ variables ts) (nodes_of (world P) es (opened γ (map fresh_slot ts)))),
  )

  block_nodes : (S' : List ℕ) → Extended S S' vars next (length ts) → (p : ℕ) → p ≡ place + 4 + 4 * length ts
      → NodesTask P E (nodes_of (world P) es (opened γ (map fresh_slot ts))) (sh ++ variables ts) R T M C S'
      (at + 1 + length ts) (vars + length ts) (next + length ts) p
  unfolding Encoded LooksUp
  block_nodes S' y p q = record {
    setting = setting_locals t.setting ts S' y block_ready.0;
    encoded = encoded_nodes (world P) R E es (opened γ (map fresh_slot ts)) (at + 1 + length ts)
        t.encoded.2;
    looks = looks_nodes (world P) C es (opened γ (map fresh_slot ts)) (at + 1 + length ts) t.looks;
    typed = (node_parts t).2 (at + 1 + length ts);
    low = omega (arith, t.low, q);
  }

module _ {R T M C S : List ℕ} {at vars next place n k : ℕ} (e : n ≡ get_or R (at * 4 + 1) 0)
    (f : k ≡ get_or R (at * 4 + 2) 0) where
  pub block_known : SomeBlock R T M C S at vars next place
      → (at * 4 + 3 < length R) × (at < 60000) × (place + 4 + 4 * n ≤ most_numbers)
      × (vars + n ≤ 32) × (next ≤ most_numbers) × (length S ≡ 32)
  block_known x = let t = x.task in let l = e ∙ (block_numbers t).0 in let r = node_row t in (
    r.0,
    r.1,
    omega (arith, l, block_room t),
    omega (arith, l, (block_ready t).0),
    omega (arith, t.low, block_room t),
    t.setting.wide,
  )

  pub block_some_types : SomeBlock R T M C S at vars next place → SomeTypes R (at + 1) n
  block_some_types x = let t = x.task in
      record { letter = V_local; ts = x.ts; rows = block_types t; counted = sym (e ∙ (block_numbers t).0) }

  pub block_some : (x : SomeBlock R T M C S at vars next place) (S' : List ℕ) → Extended S S' vars next n
      → (p : ℕ) → p ≡ place + 4 + 4 * n → SomeNodes R T M C S' (at + 1 + n) (vars + n) (next + n) p k
  block_some x S' y p q = let t = x.task in let l = e ∙ (block_numbers t).0 in
      let q' : p ≡ place + 4 + 4 * length x.ts = omega (arith, q, l) in
      rw l (record {
        P = x.P;
        E = x.E;
        es = nodes_of (world x.P) x.es (opened x.γ (map fresh_slot x.ts));
        sh = x.sh ++ variables x.ts;
        task = block_nodes t S' (rw l at y) p q';
        counted = nodes_counted (world x.P) x.es (opened x.γ (map fresh_slot x.ts))
            ∙ sym (f ∙ (block_numbers t).1);
        fits = rw q' (block_room t);
      })

  pub block_ended : {O O₁ O₂ : List ℕ} {p q : ℕ} → SomeBlock R T M C S at vars next place
      → Written (66 ∷ n ∷ k ∷ 0 ∷ []) O O₁ place p → TypesWritten R (at + 1) n 86 O₁ O₂ p q
      → q ≡ place + 4 + 4 * n
  block_ended x w v = let l = e ∙ (block_numbers x.task).0 in
      omega (
        arith,
        l,
        w.ended,
        (v.each V_local x.ts (block_types x.task) (sym l)).ended,
        types_length 86 x.ts,
      )

  pub block_done : {O O₁ O₂ O₃ : List ℕ} {p q r j : ℕ} (S' : List ℕ)
      → Written (66 ∷ n ∷ k ∷ 0 ∷ []) O O₁ place p → TypesWritten R (at + 1) n 86 O₁ O₂ p q
      → Extended S S' vars next n
      → NodesEmitted R T M C S' O₂ O₃ (at + 1 + n) (vars + n) (next + n) q k r j
      → BlockEmitted R T M C S O O₃ at vars next place r j
  unfolding size
  block_done {O} {O₁} {O₂} {O₃} {p} {q} {r} {j} S' w v y m = record {
    each = λ P E ts es γ sh t.
        let a = e ∙ (block_numbers t).0 in let b = f ∙ (block_numbers t).1 in
        let γ' = opened γ (map fresh_slot ts) in
        let u = v.each V_local ts (block_types t) (sym a) in
        let q' : q ≡ place + 4 + 4 * length ts = omega (arith, w.ended, u.ended, types_length 86 ts) in
        let m' = rw (a, b) at m in
        let em = m'.each P E (nodes_of (world P) es γ') (sh ++ variables ts)
        (block_nodes t S' (rw a at y) _ q')
        (nodes_counted (world P) es γ') (rw q' (block_room t)) in
        whole (written_then w (written_then u em.written))
        (rw (a, b) (sym (t_block (world P) γ sh ts es (block_ready t).1)))
        (omega (arith, em.passed, nodes_sizes (world P) es γ'));
  }
