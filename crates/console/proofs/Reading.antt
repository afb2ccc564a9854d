-- Bytes that one read after another consumes.
use Rattle.std.proofs.Common.{◌≡◌, ℕ, ◌+◌, ◌≤◌, List, ◌++◌, length, take, ap, ◌∙◌, append_assoc}
use Rattle.std.specs.Prelude.{None, Some}
use Rattle.std.specs.declared.option.Option.{Option}
use Rattle.std.specs.Io.KnownBytes.{Consumes}
use Rattle.std.proofs.lemmas.List.{take-append-le, take_at, drop_at}
use Rattle.std.proofs.lemmas.List.{length-take-le}
use Rattle.std.proofs.Math.Seq.{take-add}
use borrow.Rule.Slice.PartMut.{put_mid, post_of}

-- What is consumed first and what is consumed then are consumed together.
pub consumes_both : (a b c : Option (List ℕ)) (xs ys : List ℕ) → Consumes a b xs → Consumes b c ys → Consumes a c (xs ++ ys)
consumes_both None b c xs ys h k = tt
consumes_both (Some s) (Some t) None xs ys h k = elim k [ ]
consumes_both (Some s) None c xs ys h k = elim h [ ]
consumes_both (Some s) (Some t) (Some u) xs ys h k = rw append_assoc (h ∙ ap (λ (l : List ℕ). xs ++ l) k)

-- The first k bytes of a buffer and n that were read behind them.
pub take_read : (k m n : ℕ) (xs ys : List ℕ) → k ≤ length xs → n ≤ length ys
    → take (k + n) (put_mid k m xs ys) ≡ take k xs ++ take n ys
take_read k m n xs ys h i =
    let t : length (take k xs) ≡ k = length-take-le k xs h in
    rw (take-add k n, take_at (take k xs) (ys ++ post_of k m xs) k t, drop_at (take k xs) (ys ++ post_of k m xs) k t, take-append-le n ys (post_of k m xs) i)
