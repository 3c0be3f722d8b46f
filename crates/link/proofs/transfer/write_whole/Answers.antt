use Rattle.std.proofs.Common.{length, arith, rules}
use Rattle.link.proofs.Steps.{part-more}
use Rattle.link.proofs.transfer.write_whole.Goals as goal

pub loop-rest-preserved : goal.loop-rest-preserved
loop-rest-preserved g c =
    let inv = c.loop-rest.invariant.1 in (
      search rules,
      part-more _ _ _ c.args.text.now inv.0 c.loop-rest.rest.now c.in_ok-count.count (length c.loop-rest.rest.now)
          (omega arith) inv.1 inv.2 c.in_ok-count.ensures.written,
    )
