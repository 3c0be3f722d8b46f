use Rattle.std.proofs.Common.{take}
use Rattle.trace_counts.proofs.LatencyRuns.{AreFound}
use Rattle.trace_counts.proofs.latencies.find_latencies.Given as goal

abbrev pub invariant-loop-step : goal.invariant-loop-step
invariant-loop-step l = AreFound l.initial.machine (take l.step-index l.steps) l.machine l.latencies
