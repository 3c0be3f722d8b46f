use Rattle.std.proofs.Common.{◌≡◌, ◌++◌}
use Rattle.std.specs.Prelude.{string_bytes}
use Rattle.run_reports.specs.Reports.{processor_lines}
use Rattle.run_reports.proofs.reporting.push_processors.Given as goal

abbrev pub invariant-loop-p : goal.invariant-loop-p
invariant-loop-p l = string_bytes l.text ≡ string_bytes l.initial.text ++ processor_lines l.machine l.tally.shown l.p
