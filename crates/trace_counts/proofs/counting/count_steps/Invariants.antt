use Rattle.std.proofs.Common.{take}
use Rattle.trace_counts.proofs.StatsSteps.{AreCounted}
use Rattle.trace_counts.proofs.counting.count_steps.Given as goal

abbrev pub invariant-loop-step : goal.invariant-loop-step
invariant-loop-step l = AreCounted l.initial.machine (take l.step-index l.steps) l.machine l.counts l.groups l.longest
