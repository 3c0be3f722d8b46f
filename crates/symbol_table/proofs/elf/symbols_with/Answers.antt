use Rattle.std.proofs.Common.{◌≡◌, ℕ, ◌+◌, ◌-◌, ◌*◌, List, ◌++◌, ap, arith, ◌∙◌, filter_map, map}
use Rattle.std.specs.List.{range_with_len}
use Rattle.symbol_table.specs.Elf.{entry_row, symbol_entries, symbol_entry}
use Rattle.symbol_table.specs.declared.row.Symbol.{Symbol}
use Rattle.symbol_table.specs.Rows.{SymbolRow, row_of}
use Rattle.symbol_table.proofs.Kept.{all_rows, next_row}
use Rattle.symbol_table.proofs.elf.symbols_with.Goals as goal

pub loop-number-init : goal.loop-number-init
loop-number-init c =
    let file = c.args.file.now in
    let table = c.args.table.now in
    let count = c.whole_count-count.result in
    let rows : ℕ → List SymbolRow =
    λ n. filter_map (entry_row c.args.strings.now) (map (λ k. symbol_entry file (table.sh_offset + 16 * k)) (range_with_len 0 n)) in
    let all : count - 0 ≡ count = omega arith in
    ap (λ (symbols : List Symbol). map row_of symbols ++ rows (count - 0)) c.new-symbols.ensures.items ∙ ap rows (all ∙ c.whole_count-count.ensures)

pub loop-number-preserved : goal.loop-number-preserved
loop-number-preserved c =
    let file = c.args.file.now in
    let table = c.args.table.now in
    let strings = c.args.strings.now in
    next_row (entry_row strings) (λ k. symbol_entry file (table.sh_offset + 16 * k)) c.loop-number.number c.whole_count-count.result
    c.loop-number.symbols.items (filter_map (entry_row strings) (symbol_entries file table)) c.loop-number.invariant c.keep.new.symbols.items
    c.symbol.result (omega arith) c.in_ok-keep.ensures (c.symbol.ensures ∙ ap (entry_row strings) c.at-entry.ensures)

pub returns : goal.returns
returns c =
    let file = c.args.file.now in
    let table = c.args.table.now in
    let strings = c.args.strings.now in
    all_rows (entry_row strings) (λ k. symbol_entry file (table.sh_offset + 16 * k)) c.loop-number.number c.whole_count-count.result
    c.loop-number.symbols.items (filter_map (entry_row strings) (symbol_entries file table)) c.loop-number.invariant (omega arith)
