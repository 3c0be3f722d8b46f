use Rattle.std.proofs.Common.{◌≡◌, ◌++◌, drop}
use Rattle.std.specs.Prelude.{string_bytes}
use Rattle.line_faults.specs.Places.{place_of}
use Rattle.asm_commands.specs.SymbolMaps.{label_lines}
use Rattle.asm_commands.proofs.symbols.push_labels.Given as goal

-- The text so far, followed by the lines of the labels that are left, is the whole text.
abbrev pub invariant-loop-at : goal.invariant-loop-at
invariant-loop-at l =
    string_bytes l.text ++ label_lines (place_of l.end) (drop l.at l.labels) ≡ string_bytes l.fn.text ++ label_lines (place_of l.end) l.labels
