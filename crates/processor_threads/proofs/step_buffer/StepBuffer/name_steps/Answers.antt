use Rattle.std.proofs.Common.{arith}
use Rattle.processor_threads.proofs.Buffering.{left_many}
use Rattle.processor_threads.proofs.step_buffer.StepBuffer.name_steps.Goals as goal

pub returns : goal.returns
returns g c =
    let long = c.loop-place.invariant in
    let few = c.requires.few in
    let many = left_many c.loop-place.self-inside.steps 0 c.args.count (omega arith) (omega (arith, long, few)) in
    omega (arith, many)
