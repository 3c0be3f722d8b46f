use Rattle.std.proofs.Common.{◌≡◌, ◌++◌}
use Rattle.std.specs.Prelude.{string_bytes}
use Rattle.run_counts.specs.Lines.{first_lines, stage_line}
use Rattle.run_counts.proofs.lines.push_stages.Given as goal

abbrev pub invariant-loop-stage : goal.invariant-loop-stage
invariant-loop-stage l = string_bytes l.text ≡ string_bytes l.initial.text ++ first_lines (stage_line l.counts l.longest) l.stage
