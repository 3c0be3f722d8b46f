use Rattle.std.proofs.Common.{◌≡◌, ◌++◌}
use Rattle.std.specs.Prelude.{string_bytes}
use Rattle.run_counts.specs.Lines.{first_lines, module_line}
use Rattle.run_counts.proofs.lines.push_modules.Given as goal

abbrev pub invariant-loop-at : goal.invariant-loop-at
invariant-loop-at l = string_bytes l.text ≡ string_bytes l.initial.text ++ first_lines (module_line l.counts) l.at
