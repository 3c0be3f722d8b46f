use Rattle.std.proofs.Common.{◌≡◌, ◌++◌, Some}
use Rattle.std.specs.Prelude.{string_bytes}
use Rattle.hunt_command.specs.Lines.{observed_lines}
use Rattle.hunt_command.proofs.lines.push_chosen.Given as goal

abbrev pub invariant-loop-number : goal.invariant-loop-number
invariant-loop-number l = string_bytes l.text ≡ string_bytes l.initial.text ++ observed_lines (Some l.words) l.machine l.number
