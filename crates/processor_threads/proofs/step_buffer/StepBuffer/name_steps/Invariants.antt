use Rattle.std.proofs.Common.{◌≡◌, length}
use Rattle.processor_threads.proofs.step_buffer.StepBuffer.name_steps.Given as goal

abbrev pub invariant-loop-place : goal.invariant-loop-place
invariant-loop-place g l = length l.self-inside.steps ≡ 512
