use Rattle.std.proofs.Common.{◌++◌, take, arith, length-append, length-take}
use Rattle.std.proofs.KnownBytes.{Consumes-kept, Consumes-trans}
use Rattle.link.proofs.transfer.read_within.Goals as goal

pub returns-in-Err-clause-refused : goal.returns-in-Err-clause-refused
returns-in-Err-clause-refused g c =
    let inv = c.loop-bytes.invariant in
    (c.loop-bytes.bytes.items, inv.1, Consumes-kept _ _ _ _ inv.3 c.in-Err.ensures.bytes)

pub returns-then-limit-len-clause-refused : goal.returns-then-limit-len-clause-refused
returns-then-limit-len-clause-refused g c =
    let inv = c.loop-bytes.invariant in (
      c.loop-bytes.bytes.items ++ take c.in-Ok.count c.receive.new.buf,
      grind (arith, length-append, length-take),
      grind (arith, length-append, length-take),
      Consumes-trans _ _ _ _ _ inv.3 c.in-Ok.ensures.bytes.0,
    )

pub returns-then-is_err-clause-refused : goal.returns-then-is_err-clause-refused
returns-then-is_err-clause-refused g c =
    let inv = c.loop-bytes.invariant in (
      c.loop-bytes.bytes.items ++ take c.in-Ok.count c.receive.new.buf,
      grind (arith, length-append, length-take),
      Consumes-trans _ _ _ _ _ inv.3 c.in-Ok.ensures.bytes.0,
    )
