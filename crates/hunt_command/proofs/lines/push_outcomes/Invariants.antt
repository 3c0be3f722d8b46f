use Rattle.std.proofs.Common.{◌≡◌, ◌++◌}
use Rattle.std.specs.Prelude.{string_bytes}
use Rattle.hunt_command.specs.Lines.{outcome_lines}
use Rattle.hunt_command.proofs.lines.push_outcomes.Given as goal

abbrev pub invariant-loop-p : goal.invariant-loop-p
invariant-loop-p l = string_bytes l.text ≡ string_bytes l.initial.text ++ outcome_lines l.has_pc l.machine l.tally.shown l.p
