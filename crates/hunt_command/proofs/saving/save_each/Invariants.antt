use Rattle.std.proofs.Common.{take}
use Rattle.hunt_command.specs.Findings.{firsts}
use Rattle.hunt_command.specs.Traces.{AreWritten}
use Rattle.hunt_command.proofs.saving.save_each.Given as goal

abbrev pub invariant-loop-place : goal.invariant-loop-place
invariant-loop-place g l =
    AreWritten g.T.Traces.opens g.T.Traces.closes g.T.Writer.Link.has_failed g.T.Writer.Write.contents l.config l.image l.policy
    (take l.place (firsts l.findings.found)) l.fn.traces l.traces
