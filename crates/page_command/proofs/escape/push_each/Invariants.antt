use Rattle.std.proofs.Common.{◌≡◌, ◌++◌}
use Rattle.std.specs.Prelude.{string_bytes}
use Rattle.std.specs.List.{flat_map}
use Rattle.page_command.specs.Pages.{escaped_char}
use Rattle.page_command.proofs.escape.push_each.Given as goal

abbrev pub invariant-loop-letter : goal.invariant-loop-letter
invariant-loop-letter l =
    string_bytes l.text ≡ string_bytes l.initial.text ++ flat_map escaped_char l.yielded
