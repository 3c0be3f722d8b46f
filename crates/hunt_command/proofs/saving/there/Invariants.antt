use Rattle.std.proofs.Common.{take}
use Rattle.hunt_command.specs.Findings.{firsts}
use Rattle.hunt_command.specs.Traces.{AreFree}
use Rattle.hunt_command.proofs.saving.there.Given as goal

abbrev pub invariant-loop-place : goal.invariant-loop-place
invariant-loop-place g l = AreFree g.T.Traces.finds (take l.place (firsts l.findings.found)) l.traces
