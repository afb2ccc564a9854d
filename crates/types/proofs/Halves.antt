-- Laws of slots as numbers with two halves. Assumes nothing.
use mathlib.Core.Path.{◌≡◌}
use Prim.Native.Nat.{ℕ, ◌<◌}
use native.Mathlib.Omega.{arith}
use Rattle.types.specs.Answers.{half, slot_of, current_in, declared_in, with_current, fresh_in}

pub current_slot : (d c : ℕ) → c < half → current_in (slot_of d c) ≡ c
unfolding current_in slot_of
current_slot d c l = omega arith

pub with_slot : (d c e : ℕ) → c < half → e < half → with_current (slot_of d c) e ≡ slot_of d e
unfolding with_current declared_in slot_of
with_slot d c e l m = omega arith

pub with_again : (n c e : ℕ) → with_current (with_current n c) e ≡ with_current n e
unfolding with_current declared_in slot_of
with_again n c e = omega arith

pub fresh_slot_of : (n : ℕ) → n < half → fresh_in n ≡ slot_of n n
unfolding fresh_in slot_of
fresh_slot_of n l = omega arith
