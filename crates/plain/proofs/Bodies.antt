-- Laws of a body: the slots at its start. Assumes nothing.
use mathlib.Core.Path.{◌≡◌, refl, sym}
use mathlib.Core.List.{List, []}
use Prim.Native.Nat.{ℕ, zero, suc, ◌+◌, ◌≤◌, ◌<◌}
use native.Mathlib.Omega.{arith}
use lib.ListN.{length, get_or, replicate}
use Rattle.language.specs.Tree.{DeclaredType, Expr, Class}
use Rattle.language.specs.Environment.{Environment}
use Rattle.language.specs.Translation.{plain_slot, variables}
use Rattle.theory.proofs.translation.PlainForm.{variable_count}
use Rattle.plain.specs.Tasks.{Setting, NodeTask, BodyTask}
use Rattle.emitters.specs.Writing.{Extended}
use Rattle.plain.specs.Emission.{SomeNode, NodeEmitted, SomeBody, BodyEmitted}
use Rattle.plain.proofs.Shapes.{setting_locals}

-- no slot but `this`
first_setting : {P : List Class} {E : List ℕ} {e : Expr} {γ : Environment} {ts : List DeclaredType}
    {R T M C : List ℕ} {at place : ℕ}
    → BodyTask P E e γ ts R T M C at place → Setting P E R T M C (replicate 32 0) [] 1 1
unfolding variable_count plain_slot
first_setting t = record {
  lent = t.lent;
  wide = refl;
  scope = omega arith;
  variables = refl;
  free = refl;
  renumbered = λ k h. go k h;
}
  where
    go : (k : ℕ) → k < 1 → get_or (replicate 32 0) k 0 ≡ plain_slot [] k
    go zero h = refl
    go (suc k) h = absurd (omega (arith, h))

body_node : {P : List Class} {E : List ℕ} {e : Expr} {γ : Environment} {ts : List DeclaredType}
    {R T M C : List ℕ} {at place : ℕ}
    → BodyTask P E e γ ts R T M C at place → (count : ℕ) → length ts ≡ count → (S : List ℕ)
    → Extended (replicate 32 0) S 1 1 count
    → NodeTask P E e γ (variables ts) R T M C S at (1 + count) (1 + count) place
body_node {ts = ts} t count c S y = rw (sym c) (record {
  setting = setting_locals (first_setting t) ts S (rw (sym c) at y) t.scope;
  encoded = t.encoded;
  looks = t.looks;
  typed = t.typed;
  low = t.low;
  fits = t.fits;
})

module _ {R T M C : List ℕ} {at place count : ℕ} where
  pub body_known : SomeBody R T M C at place count → 1 + count ≤ 32
  body_known x = omega (arith, x.task.scope, x.counted)

  pub body_some : SomeBody R T M C at place count → (S : List ℕ) → Extended (replicate 32 0) S 1 1 count
      → (v n : ℕ) → v ≡ 1 + count → n ≡ 1 + count
      → SomeNode R T M C S at v n place
  body_some x S y v n e f =
      rw (e, f) (record {
        P = x.P;
        E = x.E;
        e = x.e;
        γ = x.γ;
        sh = variables x.ts;
        task = body_node
            x.task count x.counted S y;
      })

  pub body_done : {O O' : List ℕ} {q b : ℕ} (S : List ℕ) → Extended (replicate 32 0) S 1 1 count → (v n : ℕ)
      → v ≡ 1 + count → n ≡ 1 + count
      → NodeEmitted R T M C S O O' at v n place q b → BodyEmitted R T M C O O' at place count q b
  body_done S y v n e f m =
      record {
        each = λ P E x γ ts t c. let m' = rw (e, f) at m in
            m'.each P E x γ (variables ts) (body_node t count c S y);
      }
