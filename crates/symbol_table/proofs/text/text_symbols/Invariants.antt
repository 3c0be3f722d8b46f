use Rattle.std.proofs.Common.{◌≡◌, ◌++◌, filter_map, length, map}
use Rattle.symbol_table.specs.Parts.{parts_at}
use Rattle.symbol_table.specs.Rows.{row_of}
use Rattle.symbol_table.specs.Text.{line_row}
use Rattle.symbol_table.proofs.text.text_symbols.Given as goal

-- The rows so far, followed by those of the rest, are all rows.
abbrev pub invariant-loop-line : goal.invariant-loop-line
invariant-loop-line l = map row_of l.symbols.items ++ filter_map line_row (parts_at 10 l.rest) ≡ filter_map line_row (parts_at 10 l.text)

abbrev pub decreases-loop-line : goal.decreases-loop-line
decreases-loop-line l = length l.rest
