use Rattle.std.proofs.Common.{◌≡◌, ◌∙◌, ◌+◌, ◌-◌, ap, take, arith}
use Rattle.local_memory.specs.Accesses.{region_of_bytes}
use Rattle.local_memory.proofs.Padded.{one_less}
use Rattle.local_memory.proofs.bytes.used_bytes.Goals as goal

pub loop-count-preserved : goal.loop-count-preserved
loop-count-preserved c =
    let bytes = c.args.bytes.now in
    let few = c.loop-count.invariant.few in
    let some = c.loop-count-test.true in
    let last : c.loop-count.count - 1 + 1 ≡ c.loop-count.count = omega (arith, some) in
    record {
      few = omega (arith, few);
      same = one_less 65536 bytes (c.loop-count.count - 1) (omega (arith, few, some)) c.requires c.if-bytes-count-eq0.true
          ∙ (ap (λ count. region_of_bytes (take count bytes)) last ∙ c.loop-count.invariant.same);
    }
