use Rattle.std.proofs.Common.{◌≡◌, List, ◌++◌, length, false}
use Rattle.std.specs.Io.KnownBytes.{Appends}
use Rattle.steps.specs.declared.step.Step.{Step}
use Rattle.trace_file.specs.Traces.{records_bytes}
use Rattle.trace_file.proofs.write.write_records.Given as goal

-- The steps are those whose records were written, followed by those that are left.
abbrev pub invariant-loop-rest : goal.invariant-loop-rest
invariant-loop-rest g l =
    (g.W.Link.has_failed l.writer ≡ false) × ((written : List Step) × (l.steps ≡ written ++ l.rest)
    × Appends (g.W.Write.contents l.fn.writer) (g.W.Write.contents l.writer) (records_bytes written))

abbrev pub decreases-loop-rest : goal.decreases-loop-rest
decreases-loop-rest g l = length l.rest
