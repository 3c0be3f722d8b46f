-- Words and the instructions that they spell.
--
-- Source: the RISC-V Unprivileged ISA manual, "Base Instruction Formats" and "Immediate Encoding Variants".
use Rattle.std.specs.Prelude.{ℕ, ◌+◌, ◌*◌, ◌^◌, cond, Option, MatchOption}
use Rattle.rv_table.specs.declared.insn.Insn.{Insn}
use Rattle.rv_table.specs.declared.insn.Insn.TheVariants.{Op, OpImm, Shift, Load, Store, Branch, Upper, Jal, Jalr}
use Rattle.rv_table.specs.declared.insn.Insn.TheVariants.{Fence, Ecall, Ebreak, Amo}
use Rattle.rv_table.specs.Rows.{bits, match_of, Spells}

-- The result of reading a word is an instruction that the word spells, or `None` if it spells none.
abbrev pub IsReading : ℕ → Option Insn → Type 0
IsReading w result = MatchOption result ((i : Insn) → ¬ Spells w i) (Spells w)

-- ---- the operands in their places, for each format

abbrev pub r_operands : (rd rs1 rs2 : ℕ) → ℕ
r_operands rd rs1 rs2 = rd * 2 ^ 7 + rs1 * 2 ^ 15 + rs2 * 2 ^ 20

abbrev pub i_operands : (rd rs1 imm : ℕ) → ℕ
i_operands rd rs1 imm = rd * 2 ^ 7 + rs1 * 2 ^ 15 + imm * 2 ^ 20

abbrev pub s_operands : (rs1 rs2 imm : ℕ) → ℕ
s_operands rs1 rs2 imm = bits imm 4 0 * 2 ^ 7 + rs1 * 2 ^ 15 + rs2 * 2 ^ 20 + bits imm 11 5 * 2 ^ 25

-- bit k of the offset is bit k + 1 of the manual's immediate, whose bit 0 is always 0
abbrev pub b_operands : (rs1 rs2 offset : ℕ) → ℕ
b_operands rs1 rs2 offset =
    bits offset 10 10 * 2 ^ 7 + bits offset 3 0 * 2 ^ 8 + rs1 * 2 ^ 15 + rs2 * 2 ^ 20 + bits offset 9 4 * 2 ^ 25 + bits offset 11 11 * 2 ^ 31

abbrev pub u_operands : (rd upper : ℕ) → ℕ
u_operands rd upper = rd * 2 ^ 7 + upper * 2 ^ 12

-- as in `b_operands`
abbrev pub j_operands : (rd offset : ℕ) → ℕ
j_operands rd offset =
    rd * 2 ^ 7 + bits offset 18 11 * 2 ^ 12 + bits offset 10 10 * 2 ^ 20 + bits offset 9 0 * 2 ^ 21 + bits offset 19 19 * 2 ^ 31

abbrev pub operands_of : Insn → ℕ
operands_of (Op op rd rs1 rs2) = r_operands rd rs1 rs2
operands_of (OpImm op rd rs1 imm) = i_operands rd rs1 imm
operands_of (Shift op rd rs1 amount) = r_operands rd rs1 amount
operands_of (Load op rd rs1 imm) = i_operands rd rs1 imm
operands_of (Store op rs1 rs2 imm) = s_operands rs1 rs2 imm
operands_of (Branch op rs1 rs2 offset) = b_operands rs1 rs2 offset
operands_of (Upper op rd upper) = u_operands rd upper
operands_of (Jal rd offset) = j_operands rd offset
operands_of (Jalr rd rs1 imm) = i_operands rd rs1 imm
operands_of (Fence rd rs1 ordering) = i_operands rd rs1 ordering
operands_of Ecall = 0
operands_of Ebreak = 0
operands_of (Amo op rd rs1 rs2 aq rl) = r_operands rd rs1 rs2 + cond aq 1 0 * 2 ^ 26 + cond rl 1 0 * 2 ^ 25

-- the word of an instruction: its row's match, and its operands in their places
abbrev pub word_of : Insn → ℕ
word_of i = match_of i + operands_of i
