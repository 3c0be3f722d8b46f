use Rattle.std.proofs.Common.{ap, sym, ◌∙◌, append-nil, filter_map, map, ◌++◌, List, ℕ, []}
use Rattle.symbol_table.specs.Parts.{parts_at}
use Rattle.symbol_table.specs.Rows.{row_of}
use Rattle.symbol_table.specs.Text.{line_row}
use Rattle.symbol_table.proofs.Kept.{kept_row}
use Rattle.symbol_table.proofs.text.text_symbols.Goals as goal

pub loop-line-preserved : goal.loop-line-preserved
loop-line-preserved c =
    kept_row line_row c.in-Some.line.now (parts_at 10 c.in-Some.after.now) c.loop-line.symbols.items c.keep.new.symbols.items c.line_symbol.result
    (filter_map line_row (parts_at 10 c.args.text.now)) c.in_ok-keep.ensures c.line_symbol.ensures
    (ap (λ (lines : List (List ℕ)). map row_of c.loop-line.symbols.items ++ filter_map line_row lines) (sym c.in-Some.ensures.parts) ∙ c.loop-line.invariant)

pub returns : goal.returns
returns c =
    sym (append-nil (map row_of c.keep-2.new.symbols.items))
    ∙ kept_row line_row c.loop-line.rest.now [] c.loop-line.symbols.items c.keep-2.new.symbols.items c.line_symbol-2.result
    (filter_map line_row (parts_at 10 c.args.text.now)) c.in_ok-keep-2.ensures c.line_symbol-2.ensures
    (ap (λ (lines : List (List ℕ)). map row_of c.loop-line.symbols.items ++ filter_map line_row lines) (sym c.in_default.ensures.parts) ∙ c.loop-line.invariant)
