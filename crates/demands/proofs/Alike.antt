-- What the services return is told by the definitions, and demand 3 of crate theory says how the two runs end. Assumes
-- nothing.
use mathlib.Core.Path.{◌≡◌, sym, ap, ◌∙◌, subst}
use mathlib.Core.List.{List}
use Prim.Native.Nat.{ℕ, ◌*◌, ◌/◌, ◌≤◌}
use native.Mathlib.Omega.{arith}
use lib.ListN.{length, take}
use Rattle.language.specs.Results.{accept, refuse}
use Rattle.std.specs.Prelude.{Result, Ok, Err}
use Rattle.language.specs.declared.Refusal.{Refusal}
use Rattle.language.specs.Filling.{held, answer, buffer}
use Rattle.language.proofs.Filling.{Made, held_inv, answer_refused_inv, answer_done_inv}
use Rattle.language.specs.Store.{capacity, run_of}
use Rattle.language.specs.Translation.{translation}
use Rattle.theory.proofs.acceptance.Acceptance.{numbers_count}
use Rattle.theory.proofs.acceptance.Translatable.{translation_takes}
use Rattle.promises.specs.Endings.{EndsProperly, EndAlikeOnStores}
use Rattle.promises.proofs.Demands.{demand_3, demand_3_back}
use Rattle.machine.specs.declared.Run.{Run}
use Rattle.running.specs.Answers.{answer_told, Answers}
use Rattle.demands.specs.Both.{run_of_plain, RunsBoth}

-- Plain rows come whole.
out_whole : (R out : List ℕ) → translation R ≡ accept out → length out / 4 * 4 ≡ length out
out_whole R out e = let x = translation_takes R out e in
    let k = ap length x.2 ∙ numbers_count _ in omega (arith, k)

-- The rows and the buffer after translating, with the answer that was given.
module _ (R O : List ℕ) {O' : List ℕ} {t : Result ℕ Refusal}
    (filled : (t ≡ answer 4 (translation R) (length O)) × (O' ≡ buffer (translation R) O)) where
  done : {n : ℕ} → t ≡ Ok n → Made 4 (translation R) O O' n
  done {n} d = answer_done_inv 4 (translation R) O O' n (sym filled.0 ∙ d) filled.1

  pub count_fits : {n : ℕ} → length O' ≡ length O → t ≡ Ok n → n * 4 ≤ length O'
  count_fits {n} k d = let x = done d in omega (arith, k, x.count, x.fits)

  -- What the rows are run as stands at the start of the buffer.
  starts : {n : ℕ} (d : t ≡ Ok n) → take (n * 4) O' ≡ (done d).numbers
  starts {n} d = let x = done d in
      let whole : n * 4 ≡ length x.numbers = ap (λ (k : ℕ). k * 4) x.count
      ∙ out_whole R x.numbers x.made in
      ap (λ (k : ℕ). take k O') whole ∙ x.first

  not_held : {e : Refusal} → t ≡ Err e → held (length O) (translation R) ≡ refuse e.number e.line
  not_held {e} d = answer_refused_inv 4 (length O) (translation R) e.number e.line (sym filled.0 ∙ d)

  -- Where rows were made for the room, they are the translation.
  made : (out : List ℕ) → held (length O) (translation R) ≡ accept out → translation R ≡ accept out
  made out e = (held_inv (length O) (translation R) out e).0

  module _ {fuel plain-fuel : ℕ} {s s' u u' : List ℕ} {a b : Result Run Refusal} (x : Answers R fuel s s' a) where
    both : b ≡ answer_told (run_of_plain (held (length O) (translation R)) plain-fuel u).answer
        → u' ≡ (run_of_plain (held (length O) (translation R)) plain-fuel u).store
        → RunsBoth R fuel plain-fuel s s' O O' u u' (record { source = a; plain = b })
    both p q = record {
      source = x;
      rows = filled.1;
      plain_answer = p;
      plain_store = q;
      forth = λ out e l g end room. rw g (demand_3 R out (made out e) fuel l s end u room);
      back = λ out e g end room.
          subst (λ (k : ℕ). (end : EndsProperly (run_of out k u)) → end.objects ≤ capacity s
          → EndAlikeOnStores R out (run_of R fuel s) (run_of out k u)) (sym g)
          (λ end room. demand_3_back R out (made out e) fuel u end s room) end room;
    }

    pub both_run : (n : ℕ) → t ≡ Ok n → Answers (take (n * 4) O') plain-fuel u u' b
        → RunsBoth R fuel plain-fuel s s' O O' u u' (record { source = a; plain = b })
    both_run n d y = both
        (y.answer ∙ rw (starts d, (done d).is))
        (y.store ∙ rw (starts d, (done d).is))

  pub both_refused : {fuel plain-fuel : ℕ} {s s' u : List ℕ} {a : Result Run Refusal} → Answers R fuel s s' a
      → (e : Refusal) → t ≡ Err e
      → RunsBoth R fuel plain-fuel s s' O O' u u (record { source = a; plain = Err e })
  both_refused x e d = both x (rw (not_held d)) (rw (not_held d))
