-- The operands of an instruction, and the fields of its format.
--
-- Source: the RISC-V Unprivileged ISA manual, "Base Instruction Formats" and "Immediate Encoding Variants".
use Rattle.std.specs.Prelude.{ℕ, ◌+◌, ◌*◌, ◌^◌, cond, List, [], ◌∷◌}
use Rattle.rv_table.specs.declared.insn.Insn.{Insn}
use Rattle.rv_table.specs.declared.insn.Insn.TheVariants.{Op, OpImm, Shift, Load, Store, Branch, Upper, Jal, Jalr}
use Rattle.rv_table.specs.declared.insn.Insn.TheVariants.{Fence, Ecall, Ebreak, Amo}
use Rattle.rv_table.specs.declared.table.Format.{Format}
use Rattle.rv_table.specs.declared.table.Format.TheVariants as format
use Rattle.rv_table.specs.Rows.{bits}

-- the fields of a word, from rd on, with the parts of an immediate put together
abbrev pub fields_of : Format → (word : ℕ) → List ℕ
fields_of format.RType w = bits w 11 7 ∷ bits w 19 15 ∷ bits w 24 20 ∷ []
fields_of format.IType w = bits w 11 7 ∷ bits w 19 15 ∷ bits w 31 20 ∷ []
fields_of format.SType w = bits w 19 15 ∷ bits w 24 20 ∷ (bits w 31 25 * 2 ^ 5 + bits w 11 7) ∷ []
fields_of format.BType w =
    bits w 19 15 ∷ bits w 24 20 ∷ (bits w 31 31 * 2 ^ 11 + bits w 7 7 * 2 ^ 10 + bits w 30 25 * 2 ^ 4 + bits w 11 8) ∷ []
fields_of format.UType w = bits w 11 7 ∷ bits w 31 12 ∷ []
fields_of format.JType w =
    bits w 11 7 ∷ (bits w 31 31 * 2 ^ 19 + bits w 19 12 * 2 ^ 11 + bits w 20 20 * 2 ^ 10 + bits w 30 21) ∷ []
fields_of format.Shift w = bits w 11 7 ∷ bits w 19 15 ∷ bits w 24 20 ∷ []
fields_of format.Fence w = bits w 11 7 ∷ bits w 19 15 ∷ bits w 31 20 ∷ []
fields_of format.System w = []
fields_of format.Atomic w = bits w 11 7 ∷ bits w 19 15 ∷ bits w 24 20 ∷ bits w 26 26 ∷ bits w 25 25 ∷ []

-- the operands of an instruction, in that order
abbrev pub operands_of : Insn → List ℕ
operands_of (Op op rd rs1 rs2) = rd ∷ rs1 ∷ rs2 ∷ []
operands_of (OpImm op rd rs1 imm) = rd ∷ rs1 ∷ imm ∷ []
operands_of (Shift op rd rs1 amount) = rd ∷ rs1 ∷ amount ∷ []
operands_of (Load op rd rs1 imm) = rd ∷ rs1 ∷ imm ∷ []
operands_of (Store op rs1 rs2 imm) = rs1 ∷ rs2 ∷ imm ∷ []
operands_of (Branch op rs1 rs2 offset) = rs1 ∷ rs2 ∷ offset ∷ []
operands_of (Upper op rd upper) = rd ∷ upper ∷ []
operands_of (Jal rd offset) = rd ∷ offset ∷ []
operands_of (Jalr rd rs1 imm) = rd ∷ rs1 ∷ imm ∷ []
operands_of (Fence rd rs1 ordering) = rd ∷ rs1 ∷ ordering ∷ []
operands_of Ecall = []
operands_of Ebreak = []
operands_of (Amo op rd rs1 rs2 aq rl) = rd ∷ rs1 ∷ rs2 ∷ cond aq 1 0 ∷ cond rl 1 0 ∷ []
