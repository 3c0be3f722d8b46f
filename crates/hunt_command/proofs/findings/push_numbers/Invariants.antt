use Rattle.std.proofs.Common.{◌≡◌, ◌++◌, drop}
use Rattle.std.specs.Prelude.{string_bytes}
use Rattle.hunt_command.specs.Findings.{numbers_text}
use Rattle.hunt_command.proofs.findings.push_numbers.Given as goal

abbrev pub invariant-loop-number : goal.invariant-loop-number
invariant-loop-number l =
    string_bytes l.text ++ numbers_text (drop l.number-index l.numbers) ≡ string_bytes l.initial.text ++ numbers_text l.numbers
