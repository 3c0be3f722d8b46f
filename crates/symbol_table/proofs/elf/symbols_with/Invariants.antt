use Rattle.std.proofs.Common.{◌≡◌, ◌+◌, ◌-◌, ◌*◌, ◌++◌, filter_map, map}
use Rattle.std.specs.List.{range_with_len}
use Rattle.symbol_table.specs.Elf.{entry_row, symbol_entries, symbol_entry}
use Rattle.symbol_table.specs.Rows.{row_of}
use Rattle.symbol_table.proofs.elf.symbols_with.Given as goal

-- The rows so far, followed by those of the entries from the number on, are all rows.
abbrev pub invariant-loop-number : goal.invariant-loop-number
invariant-loop-number l =
    map row_of l.symbols.items
    ++ filter_map (entry_row l.strings) (map (λ k. symbol_entry l.file (l.table.sh_offset + 16 * k)) (range_with_len l.number (l.count - l.number)))
    ≡ filter_map (entry_row l.strings) (symbol_entries l.file l.table)
