use Rattle.std.proofs.Common.{arith, Bor, List, [], ℕ}
use Rattle.line_faults.specs.Places.{label_values}
use Rattle.asm_commands.specs.SymbolMaps.{row_of_line}
use Rattle.asm_commands.proofs.SymbolMaps.{kept_all, kept_more}
use Rattle.asm_commands.proofs.symbols.labels_in.Goals as goal

nothing : Bor (List ℕ)
nothing = record { ref_ptr = (0, 0); now = [] }

pub loop-line-preserved : goal.loop-line-preserved
unfolding nothing
loop-line-preserved c =
    kept_more (row_of_line (label_values c.args.values.now)) c.args.lines.now c.loop-line.line-index nothing c.loop-line.labels.items
    c.keep.new.labels.items c.in_ok-found.found (omega arith) c.loop-line.invariant c.in_ok-found.ensures c.in_ok-keep.ensures

pub returns : goal.returns
returns c =
    kept_all (row_of_line (label_values c.args.values.now)) c.args.lines.now c.loop-line.line-index c.loop-line.labels.items (omega arith)
    c.loop-line.invariant
