use Rattle.std.proofs.Common.{◌≡◌, ◌+◌, ◌-◌, ◌*◌, find, map}
use Rattle.std.specs.List.{range_with_len}
use Rattle.symbol_table.specs.Elf.{is_symbol_table, section_header, section_headers}
use Rattle.symbol_table.proofs.elf.ElfHeader.symbol_table.Given as goal

-- The first symbol table is among the section headers from the number on.
abbrev pub invariant-loop-number : goal.invariant-loop-number
invariant-loop-number l =
    find is_symbol_table (map (λ k. section_header l.file (l.self.e_shoff + 40 * k)) (range_with_len l.number (l.count - l.number)))
    ≡ find is_symbol_table (section_headers l.self l.file)
