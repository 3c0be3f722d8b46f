use Rattle.std.proofs.Common.{◌-◌, length}
use Rattle.std.proofs.KnownBytes.{Consumes-trans}
use Rattle.link.proofs.Steps.{take-write, write-fits}
use Rattle.link.proofs.transfer.fill.Goals as goal

pub loop-count-preserved : goal.loop-count-preserved
loop-count-preserved g c =
    let inv = c.loop-count.invariant in
    let at = c.loop-count.count in
    let more = c.in_ok-more.more in
    let old = c.loop-count.buf in
    let rest = c.receive.new.buf in (
      c.in_ok-more.ensures.failed,
      write-fits at (length old - at) more old rest inv.1 c.in_ok-more.ensures.bound,
      rw (take-write at (length old - at) more old rest inv.1 c.in_ok-more.ensures.bound) (Consumes-trans _ _ _ _ _ inv.2 c.in_ok-more.ensures.bytes.0),
    )
