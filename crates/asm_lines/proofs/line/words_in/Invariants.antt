use Rattle.std.proofs.Common.{◌≡◌, map, drop}
use Rattle.asm_lines.specs.Statements.{val_of, each, word_in}
use Rattle.asm_lines.proofs.Lines.{with_front}
use Rattle.asm_lines.proofs.line.words_in.Given as goal

-- The values so far, followed by those of the rest, are the values of all operands.
abbrev pub invariant-loop-operand : goal.invariant-loop-operand
invariant-loop-operand l = with_front (map val_of l.values.items) (each word_in (map (λ operand. operand.now) (drop l.operand-index l.operands)))
    ≡ each word_in (map (λ operand. operand.now) l.operands)
