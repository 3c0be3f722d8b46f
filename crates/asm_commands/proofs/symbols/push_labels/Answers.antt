use Rattle.std.proofs.Common.{arith, []}
use Rattle.std.specs.Prelude.{string_bytes}
use Rattle.line_faults.specs.Places.{place_of}
use Rattle.asm_lines.specs.declared.statement.Section.TheVariants.{Code}
use Rattle.asm_commands.specs.declared.text_label.TextLabel.{TextLabel}
use Rattle.asm_commands.proofs.SymbolMaps.{all_printed, more_printed}
use Rattle.asm_commands.proofs.symbols.push_labels.Goals as goal

nothing : TextLabel
nothing = record { name = record { ref_ptr = (0, 0); now = [] }; section = Code; address = 0 }

pub loop-at-preserved : goal.loop-at-preserved
unfolding nothing
loop-at-preserved c =
    more_printed (place_of c.args.end.now) c.args.labels.now c.loop-at.at nothing c.split_at.result.1.now c.end_before.result
    (string_bytes c.loop-at.text) (string_bytes c.push_label.new.text) (string_bytes c.args.text.now) (omega arith) c.split_at.ensures.back
    c.end_before.ensures c.in_ok-push_label.ensures c.loop-at.invariant

pub returns : goal.returns
returns c =
    all_printed (place_of c.args.end.now) c.args.labels.now c.loop-at.at (string_bytes c.loop-at.text) (string_bytes c.args.text.now) (omega arith)
    c.loop-at.invariant
