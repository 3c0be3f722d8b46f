use Rattle.std.proofs.Common.{take}
use Rattle.explore_command.specs.Sizes.{IsGreatestWith}
use Rattle.explore_command.proofs.greatest.greatest_in.Given as goal

abbrev pub invariant-loop-processor : goal.invariant-loop-processor
invariant-loop-processor l = IsGreatestWith l.fn.status (take l.processor-index l.processors) l.greatest
