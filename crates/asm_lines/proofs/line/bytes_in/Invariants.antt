use Rattle.std.proofs.Common.{◌≡◌, map, drop}
use Rattle.asm_lines.specs.Statements.{each, byte_in}
use Rattle.asm_lines.proofs.Lines.{with_front}
use Rattle.asm_lines.proofs.line.bytes_in.Given as goal

-- The bytes so far, followed by those of the rest, are the bytes of all operands.
abbrev pub invariant-loop-operand : goal.invariant-loop-operand
invariant-loop-operand l = with_front (map (λ byte. byte) l.bytes.items) (each byte_in (map (λ operand. operand.now) (drop l.operand-index l.operands)))
    ≡ each byte_in (map (λ operand. operand.now) l.operands)
