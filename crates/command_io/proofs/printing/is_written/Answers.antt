use Rattle.std.proofs.Common.{length, arith}
use Rattle.command_io.proofs.Writing.{begun_more}
use Rattle.command_io.proofs.printing.is_written.Goals as goal

pub loop-rest-preserved : goal.loop-rest-preserved
loop-rest-preserved g c =
    begun_more _ _ _ _ c.loop-rest.rest.now c.in-Ok.count (length c.loop-rest.rest.now) (omega arith) c.loop-rest.invariant c.in-Ok.ensures.bytes
