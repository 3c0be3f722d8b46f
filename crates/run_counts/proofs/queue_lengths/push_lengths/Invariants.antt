use Rattle.std.proofs.Common.{◌≡◌, ◌++◌, take}
use Rattle.std.specs.Prelude.{string_bytes}
use Rattle.run_counts.specs.QueueLengths.{lengths_lines}
use Rattle.run_counts.proofs.queue_lengths.push_lengths.Given as goal

abbrev pub invariant-loop-one : goal.invariant-loop-one
invariant-loop-one l =
    string_bytes l.text ≡ string_bytes l.initial.text ++ lengths_lines l.format (take l.one-index l.lengths)
