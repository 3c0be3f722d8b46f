use Rattle.std.proofs.Common.{◌≡◌, map}
use Rattle.std.specs.List.{range_with_len}
use Rattle.witness_traces.specs.Witnesses.{processor_left}
use Rattle.witness_traces.proofs.left.processors_left.Given as goal

abbrev pub invariant-loop-p : goal.invariant-loop-p
invariant-loop-p l = l.processors.items ≡ map (processor_left l.machine l.tally.shown) (range_with_len 0 l.p)
