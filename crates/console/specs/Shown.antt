-- What a step of the programs writes into the bytes held aside.
use Rattle.std.specs.Prelude.{◌≡◌, ◌≤◌, ℕ, List, length, take, Result, Ok, Err}
use Rattle.language.specs.Results.{Checked, accept, refuse, bind_checked}
use Rattle.language.specs.Printed.{source_rows, printed}
use Rattle.language.specs.declared.Refusal.{Refusal}

-- The text that is made stands at the start of the bytes, and its length is answered; or the refusal is.
abbrev pub Shown : Checked (List ℕ) → Result ℕ Refusal → List ℕ → Type 0
Shown made (Ok n) out = (made ≡ accept (take n out)) × (n ≤ length out)
Shown made (Err r) out = made ≡ refuse r.number r.line

-- The output for an input, where `made` is what is made of its rows.
abbrev pub output : (List ℕ → Checked (List ℕ)) → List ℕ → List ℕ
output made input = printed (bind_checked (source_rows input) made)
