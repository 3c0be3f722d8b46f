use Rattle.std.proofs.Common.{take}
use Rattle.run_counts.proofs.Order.{AreBegun}
use Rattle.run_counts.proofs.rounds.rounds_of.Given as goal

abbrev pub invariant-loop-step : goal.invariant-loop-step
invariant-loop-step l = AreBegun (take l.step-index l.steps) l.begun
