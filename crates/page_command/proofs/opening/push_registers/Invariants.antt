use Rattle.std.proofs.Common.{◌≡◌, ◌++◌}
use Rattle.std.specs.Prelude.{string_bytes}
use Rattle.machine_views.specs.Subjects.{processors_of}
use Rattle.page_command.specs.Openings.{registers_set}
use Rattle.page_command.specs.Views.{view_at}
use Rattle.page_command.proofs.Lists.{text_to}
use Rattle.page_command.proofs.opening.push_registers.Given as goal

abbrev pub invariant-loop-register : goal.invariant-loop-register
invariant-loop-register l = string_bytes l.text ≡ string_bytes l.initial.text
    ++ text_to (view_at l.machine) (registers_set l.processor (processors_of l.machine l.processor).registers l.register)
