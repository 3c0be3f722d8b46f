-- The lines of symbols are those of their rows.
use Rattle.std.proofs.Common.{◌≡◌, ℕ, List, [], ◌∷◌, ◌++◌, map, flat_map, refl, ap, sym, append-nil}
use Rattle.symbol_table.specs.Rows.{row_of}
use Rattle.symbol_table.specs.declared.row.Symbol.{Symbol}
use Rattle.page_command.specs.Pages.{line_of, symbol_lines}

-- A line for each symbol is a line for each of their rows.
pub lines_of_rows : (symbols : List Symbol) → flat_map line_of symbols ≡ symbol_lines (map row_of symbols)
unfolding symbol_lines
lines_of_rows [] = refl
lines_of_rows (symbol ∷ symbols) = ap (λ text. line_of symbol ++ text) (lines_of_rows symbols)

-- Without symbols nothing is appended.
pub no_lines : (text : List ℕ) → text ≡ text ++ symbol_lines []
unfolding symbol_lines
no_lines text = sym (append-nil text)
