use Rattle.std.proofs.Common.{◌≡◌, ◌++◌, drop}
use Rattle.std.specs.Prelude.{string_bytes}
use Rattle.words_command.specs.Report.{register_lines}
use Rattle.words_command.proofs.report.push_registers.Given as goal

abbrev pub invariant-loop-number : goal.invariant-loop-number
invariant-loop-number l =
    string_bytes l.initial.text ++ register_lines 0 l.registers ≡ string_bytes l.text ++ register_lines l.number (drop l.number l.registers)
