use Rattle.std.proofs.Common.{◌≡◌, ◌++◌, drop, filter_map, map}
use Rattle.assembler.specs.Passes.{nows}
use Rattle.line_faults.specs.Places.{label_values}
use Rattle.asm_commands.specs.SymbolMaps.{row_of, row_of_line}
use Rattle.asm_commands.proofs.symbols.labels_in.Given as goal

-- The labels so far, followed by those of the lines that are left, are all labels.
abbrev pub invariant-loop-line : goal.invariant-loop-line
invariant-loop-line l =
    map row_of l.labels.items ++ filter_map (row_of_line (label_values l.values)) (nows (drop l.line-index l.lines))
    ≡ filter_map (row_of_line (label_values l.values)) (nows l.lines)
