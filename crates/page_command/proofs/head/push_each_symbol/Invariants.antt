use Rattle.std.proofs.Common.{◌≡◌, ◌++◌, take, flat_map}
use Rattle.std.specs.Prelude.{string_bytes}
use Rattle.page_command.specs.Pages.{line_of}
use Rattle.page_command.proofs.head.push_each_symbol.Given as goal

abbrev pub invariant-loop-symbol : goal.invariant-loop-symbol
invariant-loop-symbol l =
    string_bytes l.text ≡ string_bytes l.initial.text ++ flat_map line_of (take l.symbol-index l.symbols)
