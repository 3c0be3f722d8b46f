use Rattle.std.proofs.Common.{take}
use Rattle.std.specs.Prelude.{string_bytes}
use Rattle.page_command.proofs.ChangeLines.{HasLines}
use Rattle.page_command.proofs.step_changes.push_change_lines.Given as goal

abbrev pub invariant-loop-step : goal.invariant-loop-step
invariant-loop-step l =
    HasLines l.initial.machine (take l.step-index l.steps) (string_bytes l.initial.text) (string_bytes l.text) l.machine
