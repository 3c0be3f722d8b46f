use Rattle.std.proofs.Common.{take}
use Rattle.std.specs.Prelude.{All}
use Rattle.flat_machine.specs.Limits.{IsWithinLimits}
use Rattle.study_rows.specs.Sizes.{with_size}
use Rattle.study_command.proofs.running.check_sizes.Given as goal

abbrev pub invariant-loop-size : goal.invariant-loop-size
invariant-loop-size l = All (λ size. IsWithinLimits (with_size l.config size)) (take l.size-index l.sizes)
