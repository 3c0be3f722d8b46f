use Rattle.std.proofs.Common.{◌∙◌, ap, arith}
use Rattle.local_memory.specs.Accesses.{region_of_bytes}
use Rattle.local_memory.proofs.Padded.{one_more}
use Rattle.local_memory.proofs.bytes.write_up_to.Goals as goal

pub loop-preserved : goal.loop-preserved
loop-preserved c =
    let less = c.loop-test.true in
    let few = c.requires.new in
    let count = c.loop.invariant.1 in
    let more = c.push_reserved.ensures.len in (
      ap region_of_bytes c.push_reserved.ensures.items ∙ one_more 65536 c.loop.written.items (omega (arith, less, few, count)) ∙ c.loop.invariant.0,
      omega (arith, more, count),
      c.push_reserved.ensures.capacity ∙ c.loop.invariant.2,
      omega (arith, less, few),
    )
