use Rattle.std.proofs.Common.{◌≡◌, ◌≤◌, ◌-◌, length, arith}
use Rattle.console.proofs.Reading.{consumes_both, take_read}
use borrow.Rule.Slice.PartMut.{put_mid, same_len_mid}
use Rattle.console.proofs.read_input.Goals as goal

pub loop-filled-preserved : goal.loop-filled-preserved
loop-filled-preserved g c =
    let within : c.in-Ok.n ≤ length c.read.new.buf = c.in-Ok.ensures.bound.0 in
    let long : length (put_mid c.loop-filled.filled (length c.loop-filled.buffer - c.loop-filled.filled) c.loop-filled.buffer c.read.new.buf)
    ≡ length c.loop-filled.buffer = same_len_mid _ _ _ _ c.read.auto.buf in (
      omega (arith, long, same_len_mid, c.read.auto.buf),
      rw (take_read c.loop-filled.filled (length c.loop-filled.buffer - c.loop-filled.filled) c.in-Ok.n c.loop-filled.buffer c.read.new.buf c.loop-filled.invariant.0 within)
          (consumes_both _ _ _ _ _ c.loop-filled.invariant.1 c.in-Ok.ensures.bytes.0),
    )
