use Rattle.std.proofs.Common.{All}
use Rattle.hunt_command.specs.Taken.{IsTaken}
use Rattle.hunt_command.proofs.ahead.take_runs.Given as goal

abbrev pub invariant-loop : goal.invariant-loop
invariant-loop l = All (IsTaken l.hunt l.config l.image) l.all.items
