-- Laws of nodes one after another, and of arguments that are put in temporaries: their rows, the first, the
-- rest, and what they write together. Assumes nothing.
use mathlib.Core.Path.{◌≡◌, refl, sym, ap}
use mathlib.Core.Logic.{◌≢◌}
use mathlib.Core.List.{List, [], ◌∷◌}
use Prim.Native.Nat.{ℕ, suc, ◌+◌, ◌-◌, ◌≤◌, ◌<◌}
use native.Mathlib.Omega.{arith}
use native.Mathlib.Numerals.{add-one}
use lib.ListN.{length, length-append}
use Rattle.language.specs.Tree.{Expr, count, size, Class, Exprs, nil, cons, sizes}
use Rattle.language.specs.Program.{world}
use Rattle.language.specs.Environment.{Environment}
use Rattle.language.specs.Typing.{type_of}
use Rattle.language.specs.Translation.{Shape, typed_or}
use Rattle.language.specs.World.{World}
use Rattle.language.specs.Encoded.{Encoded, EncodedAll}
use Rattle.language.specs.LookupClasses.{LooksUp, LooksUpAll}
use Rattle.language.proofs.Tables.{size_positive}
use Rattle.emitters.specs.Lines.{most_numbers}
use Rattle.plain.specs.Numbers.{node_numbers, nodes_numbers, arguments_numbers, Nodes, none, also}
use Rattle.plain.specs.Numbers.{how_many, rows_taken, nodes_of}
use Rattle.emitters.specs.Writing.{Written}
use Rattle.plain.specs.Emission.{Emitted, SomeNode, SomeNodes, SomeArguments, NodeEmitted, NodesEmitted}
use Rattle.plain.specs.Emission.{ArgumentsEmitted}
use Rattle.plain.specs.Tasks.{NodeTask, NodesTask, EachNode}
use Rattle.emitters.proofs.Writing.{written_none, written_then}
use Rattle.plain.proofs.Emission.{whole}
use Rattle.plain.proofs.Tasks.{node_row}

-- the nodes of a block or of a call's arguments
pub encoded_nodes : (W : World) (R E : List ℕ) (es : Exprs) (γ : Environment) (r : ℕ) → EncodedAll R E es r
    → EachNode (λ e γ r. Encoded R E e r) (nodes_of W es γ) r
unfolding EncodedAll EachNode nodes_of
encoded_nodes W R E nil γ r h = tt
encoded_nodes W R E (cons e es) γ r h =
    (h.0, encoded_nodes W R E es (typed_or (type_of W e 0 γ)).slots (r + size e) h.1)

pub looks_nodes : (W : World) (C : List ℕ) (es : Exprs) (γ : Environment) (r : ℕ) → LooksUpAll W C es γ r
    → EachNode (λ e γ r. LooksUp W C e γ r) (nodes_of W es γ) r
unfolding LooksUpAll EachNode nodes_of
looks_nodes W C nil γ r h = tt
looks_nodes W C (cons e es) γ r h =
    (h.0, looks_nodes W C es (typed_or (type_of W e 0 γ)).slots (r + size e) h.1)

pub nodes_counted : (W : World) (es : Exprs) (γ : Environment) → how_many (nodes_of W es γ) ≡ count es
unfolding how_many nodes_of count
nodes_counted W nil γ = refl
nodes_counted W (cons e es) γ = ap suc (nodes_counted W es (typed_or (type_of W e 0 γ)).slots)

pub nodes_sizes : (W : World) (es : Exprs) (γ : Environment) → rows_taken (nodes_of W es γ) ≡ sizes es
unfolding rows_taken nodes_of sizes
nodes_sizes W nil γ = refl
nodes_sizes W (cons e es) γ =
    ap (λ (n : ℕ). size e + n) (nodes_sizes W es (typed_or (type_of W e 0 γ)).slots)

module _ {P : List Class} {E : List ℕ} {γ : Environment} {sh : Shape} {R T M C S : List ℕ}
    {at vars next place : ℕ} {e : Expr} {es : Nodes} where
  first_task : NodesTask P E (also e γ es) sh R T M C S at vars next place → (p : ℕ) → place ≤ p
      → p + length (node_numbers (world P) e γ sh) ≤ most_numbers
      → NodeTask P E e γ sh R T M C S at vars next p
  unfolding EachNode
  first_task t p h f =
      record {
        setting = t.setting;
        encoded = t.encoded.0;
        looks = t.looks.0;
        typed = t.typed.0;
        low = omega (arith, t.low, h);
        fits = f;
      }

  pub rest_task : NodesTask P E (also e γ es) sh R T M C S at vars next place → (p b : ℕ) → place ≤ p
      → b ≡ at + size e → NodesTask P E es sh R T M C S b vars next p
  unfolding EachNode
  rest_task t p b h k =
      rw k (record {
        setting = t.setting;
        encoded = t.encoded.1;
        looks = t.looks.1;
        typed = t.typed.1;
        low = omega (arith, t.low, h);
      })

module _ {R T M C S : List ℕ} {at vars next place count : ℕ} where
  pub nodes_first : SomeNodes R T M C S at vars next place count → count ≢ 0
      → SomeNode R T M C S at vars next place
  unfolding how_many nodes_numbers
  nodes_first x h = go x.es x.task x.counted x.fits
    where
      go : (es : Nodes) → NodesTask x.P x.E es x.sh R T M C S at vars next place
          → how_many es ≡ count
          → place + length (nodes_numbers (world x.P) x.sh es) ≤ most_numbers
          → SomeNode R T M C S at vars next place
      go none t k f = absurd (h (sym k))
      go (also e γ es) t k f = record {
        P = x.P;
        E = x.E;
        e = e;
        γ = γ;
        sh = x.sh;
        task = first_task t place (omega arith)
            (omega (
              arith,
              f,
              length-append (node_numbers (world x.P) e γ x.sh)
                  (nodes_numbers (world x.P) x.sh es),
            ));
      }

  pub nodes_rest : {O O₁ : List ℕ} {p b : ℕ} → SomeNodes R T M C S at vars next place count → count ≢ 0
      → NodeEmitted R T M C S O O₁ at vars next place p b
      → SomeNodes R T M C S b vars next p (count - 1) × (at < b)
  unfolding how_many nodes_numbers
  nodes_rest {O} {O₁} {p} {b} x h m = go x.es x.task x.counted x.fits
    where
      go : (es : Nodes) → NodesTask x.P x.E es x.sh R T M C S at vars next place
          → how_many es ≡ count
          → place + length (nodes_numbers (world x.P) x.sh es) ≤ most_numbers
          → SomeNodes R T M C S b vars next p (count - 1) × (at < b)
      go none t k f = absurd (h (sym k))
      go (also e γ es) t k f =
          let r = length-append (node_numbers (world x.P) e γ x.sh)
          (nodes_numbers (world x.P) x.sh es) in
          let o = m.each x.P x.E e γ x.sh
          (first_task t place (omega arith) (omega (arith, f, r))) in (
            record {
              P = x.P;
              E = x.E;
              es = es;
              sh = x.sh;
              task = rest_task t p b (omega (arith, o.written.ended)) o.passed;
              counted = omega (arith, k);
              fits = omega (arith, f, r, o.written.ended);
            },
            omega (arith, o.passed, size_positive e),
          )

  pub nodes_step : {O O₁ O₂ : List ℕ} {p b q d : ℕ} → count ≢ 0
      → NodeEmitted R T M C S O O₁ at vars next place p b
      → NodesEmitted R T M C S O₁ O₂ b vars next p (count - 1) q d
      → NodesEmitted R T M C S O O₂ at vars next place count q d
  unfolding how_many nodes_numbers rows_taken
  nodes_step {O} {O₁} {O₂} {p} {b} {q} {d} h m n = record { each = λ P E es sh t k f. go P E es sh t k f }
    where
      go : (P : List Class) (E : List ℕ) (es : Nodes) (sh : Shape)
          → NodesTask P E es sh R T M C S at vars next place → how_many es ≡ count
          → place + length (nodes_numbers (world P) sh es) ≤ most_numbers
          → Emitted (nodes_numbers (world P) sh es) (rows_taken es) O O₂ place at q d
      go P E none sh t k f = absurd (h (sym k))
      go P E (also e γ es) sh t k f =
          let r = length-append (node_numbers (world P) e γ sh) (nodes_numbers (world P) sh es) in
          let o = m.each P E e γ sh (first_task t place (omega arith) (omega (arith, f, r))) in
          let u = n.each P E es sh (rest_task t p b (omega (arith, o.written.ended)) o.passed)
          (omega (arith, k))
          (omega (arith, f, r, o.written.ended)) in
          whole (written_then o.written u.written) refl (omega (arith, o.passed, u.passed))

module _ {R T M C S O : List ℕ} {at vars next place count : ℕ} where
  pub nodes_none : count ≡ 0 → NodesEmitted R T M C S O O at vars next place count place at
  unfolding nodes_numbers rows_taken how_many
  nodes_none z = record { each = λ P E es sh t k f. go P E es sh k }
    where
      go : (P : List Class) (E : List ℕ) (es : Nodes) (sh : Shape) → how_many es ≡ count
          → Emitted (nodes_numbers (world P) sh es) (rows_taken es) O O place at place at
      go P E none sh k = record { written = written_none; passed = omega arith }
      go P E (also e γ es) sh k = absurd (omega (arith, k, z))

-- after some of the nodes: what the rest writes makes what all write
pub record NodesLeft (R T M C S O₀ O : List ℕ) (at₀ vars next place₀ count place at left : ℕ) : Type 0 where
  pub rest : SomeNodes R T M C S at vars next place left
  pub below : at₀ ≤ at
  pub all : {O' : List ℕ} {q d : ℕ} → NodesEmitted R T M C S O O' at vars next place left q d
      → NodesEmitted R T M C S O₀ O' at₀ vars next place₀ count q d

pub left_start : {R T M C S O : List ℕ} {at vars next place count left : ℕ} → left ≡ count
    → SomeNodes R T M C S at vars next place count
    → NodesLeft R T M C S O O at vars next place count place at left
left_start z x = rw z (record { rest = x; below = omega arith; all = λ n. n })

module _ {R T M C S O₀ O : List ℕ} {at₀ vars next place₀ count place at left : ℕ}
    (l : NodesLeft R T M C S O₀ O at₀ vars next place₀ count place at left) where
  pub left_end : left ≡ 0 → NodesEmitted R T M C S O₀ O at₀ vars next place₀ count place at
  left_end z = l.all (nodes_none z)

  pub left_more : {O' : List ℕ} {p b k : ℕ} → left ≡ k + 1 → NodeEmitted R T M C S O O' at vars next place p b
      → NodesLeft R T M C S O₀ O' at₀ vars next place₀ count p b k
  left_more {k = k} z m =
      let h : left ≢ 0 = λ e. omega (arith, z, e) in
      let r = nodes_rest l.rest h m in
      let y : left - 1 ≡ k = omega (arith, z) in
      record {
        rest = rw y at r.0;
        below = omega (arith, l.below, r.1);
        all = λ n. l.all (nodes_step h m (rw (← y) at n));
      }

module _ {R T M C S : List ℕ} {at vars next place count s : ℕ} where
  pub arguments_first : SomeArguments R T M C S at vars next place count s → count ≢ 0 → (p : ℕ)
      → p ≡ place + 4
      → SomeNode R T M C S at vars next p
  unfolding how_many arguments_numbers
  arguments_first x h p q = go x.es x.task x.counted x.fits
    where
      go : (es : Nodes) → NodesTask x.P x.E es x.sh R T M C S at vars next place
          → how_many es ≡ count
          → place + length (arguments_numbers (world x.P) x.sh s es) ≤ most_numbers
          → SomeNode R T M C S at vars next p
      go none t k f = absurd (h (sym k))
      go (also e γ es) t k f = record {
        P = x.P;
        E = x.E;
        e = e;
        γ = γ;
        sh = x.sh;
        task = first_task t p (omega (arith, q))
            (omega (
              arith,
              q,
              f,
              length-append (node_numbers (world x.P) e γ x.sh)
                  (arguments_numbers (world x.P) x.sh (suc s) es),
            ));
      }

  pub arguments_line : SomeArguments R T M C S at vars next place count s → count ≢ 0
      → (place + 4 ≤ most_numbers) × (at < 60000)
  unfolding how_many arguments_numbers
  arguments_line x h = go x.es x.task x.counted x.fits
    where
      go : (es : Nodes) → NodesTask x.P x.E es x.sh R T M C S at vars next place
          → how_many es ≡ count
          → place + length (arguments_numbers (world x.P) x.sh s es) ≤ most_numbers
          → (place + 4 ≤ most_numbers) × (at < 60000)
      go none t k f = absurd (h (sym k))
      go (also e γ es) t k f =
          let r = length-append (node_numbers (world x.P) e γ x.sh)
          (arguments_numbers (world x.P) x.sh (suc s) es) in
          let g : place + 4 ≤ most_numbers = omega (arith, f) in
          (g, (node_row (first_task t place (omega arith) (omega (arith, f, r)))).1)

  pub arguments_rest : {O O₁ : List ℕ} {p q b : ℕ} → SomeArguments R T M C S at vars next place count s
      → count ≢ 0 → p ≡ place + 4 → NodeEmitted R T M C S O O₁ at vars next p q b
      → SomeArguments R T M C S b vars next q (count - 1) (s + 1) × (at < b)
  unfolding how_many arguments_numbers
  arguments_rest {O} {O₁} {p} {q} {b} x h z m = go x.es x.task x.counted x.fits
    where
      go : (es : Nodes) → NodesTask x.P x.E es x.sh R T M C S at vars next place
          → how_many es ≡ count
          → place + length (arguments_numbers (world x.P) x.sh s es) ≤ most_numbers
          → SomeArguments R T M C S b vars next q (count - 1) (s + 1) × (at < b)
      go none t k f = absurd (h (sym k))
      go (also e γ es) t k f =
          let r = length-append (node_numbers (world x.P) e γ x.sh)
          (arguments_numbers (world x.P) x.sh (suc s) es) in
          let o = m.each x.P x.E e γ x.sh
          (first_task t p (omega (arith, z)) (omega (arith, z, f, r))) in (
            record {
              P = x.P;
              E = x.E;
              es = es;
              sh = x.sh;
              task = rest_task t q b (omega (arith, z, o.written.ended)) o.passed;
              counted = omega (arith, k);
              fits = rw add-one (omega (arith, f, r, z, o.written.ended));
              below = omega (arith, x.below, h);
            },
            omega (arith, o.passed, size_positive e),
          )

  pub arguments_step : {O O₁ O₂ O₃ : List ℕ} {p q b r d : ℕ} → count ≢ 0
      → Written (65 ∷ s ∷ 0 ∷ 0 ∷ []) O O₁ place p → NodeEmitted R T M C S O₁ O₂ at vars next p q b
      → ArgumentsEmitted R T M C S O₂ O₃ b vars next q (count - 1) (s + 1) r d
      → ArgumentsEmitted R T M C S O O₃ at vars next place count s r d
  unfolding how_many arguments_numbers rows_taken
  arguments_step {O} {O₁} {O₂} {O₃} {p} {q} {b} {r} {d} h w m n =
      record { each = λ P E es sh t k f. go P E es sh t k f }
    where
      go : (P : List Class) (E : List ℕ) (es : Nodes) (sh : Shape)
          → NodesTask P E es sh R T M C S at vars next place → how_many es ≡ count
          → place + length (arguments_numbers (world P) sh s es) ≤ most_numbers
          → Emitted (arguments_numbers (world P) sh s es) (rows_taken es) O O₃ place at r d
      go P E none sh t k f = absurd (h (sym k))
      go P E (also e γ es) sh t k f =
          let l = length-append (node_numbers (world P) e γ sh) (arguments_numbers (world P) sh (suc s) es) in
          let z : p ≡ place + 4 = w.ended in
          let o = m.each P E e γ sh (first_task t p (omega (arith, z)) (omega (arith, z, f, l))) in
          let u = n.each P E es sh (rest_task t q b (omega (arith, z, o.written.ended)) o.passed)
          (omega (arith, k)) (rw add-one (omega (arith, f, l, z, o.written.ended))) in
          whole (written_then w (written_then o.written u.written)) (rw add-one refl)
          (omega (arith, o.passed, u.passed))

module _ {R T M C S O : List ℕ} {at vars next place count s : ℕ} where
  pub arguments_none : count ≡ 0 → ArgumentsEmitted R T M C S O O at vars next place count s place at
  unfolding arguments_numbers rows_taken how_many
  arguments_none z = record { each = λ P E es sh t k f. go P E es sh k }
    where
      go : (P : List Class) (E : List ℕ) (es : Nodes) (sh : Shape) → how_many es ≡ count
          → Emitted (arguments_numbers (world P) sh s es) (rows_taken es) O O place at place at
      go P E none sh k = record { written = written_none; passed = omega arith }
      go P E (also e γ es) sh k = absurd (omega (arith, k, z))

-- the same of arguments, of which the next is put in slot s
pub record ArgumentsLeft (R T M C S O₀ O : List ℕ) (at₀ vars next place₀ count s₀ place at left s : ℕ) :
    Type 0 where
  pub rest : SomeArguments R T M C S at vars next place left s
  pub below : at₀ ≤ at
  pub all : {O' : List ℕ} {q d : ℕ} → ArgumentsEmitted R T M C S O O' at vars next place left s q d
      → ArgumentsEmitted R T M C S O₀ O' at₀ vars next place₀ count s₀ q d

pub arguments_start : {R T M C S O : List ℕ} {at vars next place count s left : ℕ} → left ≡ count
    → SomeArguments R T M C S at vars next place count s
    → ArgumentsLeft R T M C S O O at vars next place count s place at left s
arguments_start z x = rw z (record { rest = x; below = omega arith; all = λ n. n })

module _ {R T M C S O₀ O : List ℕ} {at₀ vars next place₀ count s₀ place at left s : ℕ}
    (l : ArgumentsLeft R T M C S O₀ O at₀ vars next place₀ count s₀ place at left s) where
  pub arguments_end : left ≡ 0 → ArgumentsEmitted R T M C S O₀ O at₀ vars next place₀ count s₀ place at
  arguments_end z = l.all (arguments_none z)

  pub arguments_more : {O₁ O₂ : List ℕ} {p q b k : ℕ} → left ≡ k + 1
      → Written (65 ∷ s ∷ 0 ∷ 0 ∷ []) O O₁ place p → NodeEmitted R T M C S O₁ O₂ at vars next p q b
      → ArgumentsLeft R T M C S O₀ O₂ at₀ vars next place₀ count s₀ q b k (s + 1)
  arguments_more {k = k} z w m =
      let h : left ≢ 0 = λ e. omega (arith, z, e) in
      let r = arguments_rest l.rest h w.ended m in
      let y : left - 1 ≡ k = omega (arith, z) in
      record {
        rest = rw y at r.0;
        below = omega (arith, l.below, r.1);
        all = λ n. l.all (arguments_step h w m (rw (← y) at n));
      }
