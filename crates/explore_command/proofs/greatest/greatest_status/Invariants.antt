use Rattle.std.proofs.Common.{take}
use Rattle.explore_command.specs.Sizes.{IsGreatestStatus}
use Rattle.explore_command.proofs.greatest.greatest_status.Given as goal

abbrev pub invariant-loop-result : goal.invariant-loop-result
invariant-loop-result l = IsGreatestStatus (take l.result-index l.results) l.greatest
