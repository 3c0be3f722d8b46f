-- The instruction table, and which word spells which instruction.
--
-- Source: the RISC-V Unprivileged ISA manual, "RV32/64G Instruction Set Listings" (masks, matches), "Base Instruction
-- Formats" and "Immediate Encoding Variants" (fields). Bit 31 of a word is its highest.
use Rattle.std.specs.Prelude.{◌≡◌, ℕ, ◌+◌, ◌-◌, ◌*◌, ◌/◌, ◌%◌, ◌^◌, ◌<◌, ◌==◌, bit_and, cond, List, [], ◌∷◌, Option}
use Rattle.std.specs.Prelude.{find}
use Rattle.rv_table.specs.declared.insn.Insn.{Insn}
use Rattle.rv_table.specs.declared.insn.Insn.TheVariants.{Op, OpImm, Shift, Load, Store, Branch, Upper, Jal, Jalr}
use Rattle.rv_table.specs.declared.insn.Insn.TheVariants.{Fence, Ecall, Ebreak, Amo}
use Rattle.rv_table.specs.declared.operation.RegisterOp.{RegisterOp}
use Rattle.rv_table.specs.declared.operation.RegisterOp.TheVariants as reg
use Rattle.rv_table.specs.declared.operation.ImmediateOp.{ImmediateOp}
use Rattle.rv_table.specs.declared.operation.ImmediateOp.TheVariants.{Addi, Slti, Sltiu, Xori, Ori, Andi}
use Rattle.rv_table.specs.declared.operation.ShiftOp.{ShiftOp}
use Rattle.rv_table.specs.declared.operation.ShiftOp.TheVariants.{Slli, Srli, Srai}
use Rattle.rv_table.specs.declared.operation.LoadOp.{LoadOp}
use Rattle.rv_table.specs.declared.operation.LoadOp.TheVariants.{Lb, Lh, Lw, Lbu, Lhu}
use Rattle.rv_table.specs.declared.operation.StoreOp.{StoreOp}
use Rattle.rv_table.specs.declared.operation.StoreOp.TheVariants.{Sb, Sh, Sw}
use Rattle.rv_table.specs.declared.operation.BranchOp.{BranchOp}
use Rattle.rv_table.specs.declared.operation.BranchOp.TheVariants.{Beq, Bne, Blt, Bge, Bltu, Bgeu}
use Rattle.rv_table.specs.declared.operation.UpperOp.{UpperOp}
use Rattle.rv_table.specs.declared.operation.UpperOp.TheVariants.{Lui, Auipc}
use Rattle.rv_table.specs.declared.operation.AmoOp.{AmoOp}
use Rattle.rv_table.specs.declared.operation.AmoOp.TheVariants as amo
use Rattle.rv_table.specs.declared.table.Row.{Row}
use Rattle.rv_table.specs.declared.table.Format.{Format}
use Rattle.rv_table.specs.declared.table.Format.TheVariants as format

-- ---- the table

abbrev pub row : (mask match : ℕ) → Format → Row
row mask match operands = record { mask = mask; match_ = match; format = operands }

-- The 57 rows, in the order of the listing, with those of extension "M" last.
unfoldable pub rows : List Row
rows =
    row 0x0000007F 0x00000037 format.UType ∷  -- LUI
    row 0x0000007F 0x00000017 format.UType ∷  -- AUIPC
    row 0x0000007F 0x0000006F format.JType ∷  -- JAL
    row 0x0000707F 0x00000067 format.IType ∷  -- JALR
    row 0x0000707F 0x00000063 format.BType ∷  -- BEQ
    row 0x0000707F 0x00001063 format.BType ∷  -- BNE
    row 0x0000707F 0x00004063 format.BType ∷  -- BLT
    row 0x0000707F 0x00005063 format.BType ∷  -- BGE
    row 0x0000707F 0x00006063 format.BType ∷  -- BLTU
    row 0x0000707F 0x00007063 format.BType ∷  -- BGEU
    row 0x0000707F 0x00000003 format.IType ∷  -- LB
    row 0x0000707F 0x00001003 format.IType ∷  -- LH
    row 0x0000707F 0x00002003 format.IType ∷  -- LW
    row 0x0000707F 0x00004003 format.IType ∷  -- LBU
    row 0x0000707F 0x00005003 format.IType ∷  -- LHU
    row 0x0000707F 0x00000023 format.SType ∷  -- SB
    row 0x0000707F 0x00001023 format.SType ∷  -- SH
    row 0x0000707F 0x00002023 format.SType ∷  -- SW
    row 0x0000707F 0x00000013 format.IType ∷  -- ADDI
    row 0x0000707F 0x00002013 format.IType ∷  -- SLTI
    row 0x0000707F 0x00003013 format.IType ∷  -- SLTIU
    row 0x0000707F 0x00004013 format.IType ∷  -- XORI
    row 0x0000707F 0x00006013 format.IType ∷  -- ORI
    row 0x0000707F 0x00007013 format.IType ∷  -- ANDI
    row 0xFE00707F 0x00001013 format.Shift ∷  -- SLLI
    row 0xFE00707F 0x00005013 format.Shift ∷  -- SRLI
    row 0xFE00707F 0x40005013 format.Shift ∷  -- SRAI
    row 0xFE00707F 0x00000033 format.RType ∷  -- ADD
    row 0xFE00707F 0x40000033 format.RType ∷  -- SUB
    row 0xFE00707F 0x00001033 format.RType ∷  -- SLL
    row 0xFE00707F 0x00002033 format.RType ∷  -- SLT
    row 0xFE00707F 0x00003033 format.RType ∷  -- SLTU
    row 0xFE00707F 0x00004033 format.RType ∷  -- XOR
    row 0xFE00707F 0x00005033 format.RType ∷  -- SRL
    row 0xFE00707F 0x40005033 format.RType ∷  -- SRA
    row 0xFE00707F 0x00006033 format.RType ∷  -- OR
    row 0xFE00707F 0x00007033 format.RType ∷  -- AND
    row 0x0000707F 0x0000000F format.Fence ∷  -- FENCE
    row 0xFFFFFFFF 0x00000073 format.System ∷  -- ECALL
    row 0xFFFFFFFF 0x00100073 format.System ∷  -- EBREAK
    row 0xF800707F 0x0000202F format.Atomic ∷  -- AMOADD.W
    row 0xF800707F 0x0800202F format.Atomic ∷  -- AMOSWAP.W
    row 0xF800707F 0x2000202F format.Atomic ∷  -- AMOXOR.W
    row 0xF800707F 0x4000202F format.Atomic ∷  -- AMOOR.W
    row 0xF800707F 0x6000202F format.Atomic ∷  -- AMOAND.W
    row 0xF800707F 0x8000202F format.Atomic ∷  -- AMOMIN.W
    row 0xF800707F 0xA000202F format.Atomic ∷  -- AMOMAX.W
    row 0xF800707F 0xC000202F format.Atomic ∷  -- AMOMINU.W
    row 0xF800707F 0xE000202F format.Atomic ∷  -- AMOMAXU.W
    row 0xFE00707F 0x02000033 format.RType ∷  -- MUL
    row 0xFE00707F 0x02001033 format.RType ∷  -- MULH
    row 0xFE00707F 0x02002033 format.RType ∷  -- MULHSU
    row 0xFE00707F 0x02003033 format.RType ∷  -- MULHU
    row 0xFE00707F 0x02004033 format.RType ∷  -- DIV
    row 0xFE00707F 0x02005033 format.RType ∷  -- DIVU
    row 0xFE00707F 0x02006033 format.RType ∷  -- REM
    row 0xFE00707F 0x02007033 format.RType ∷  -- REMU
    []

-- ---- the row of an instruction

abbrev pub mask_of : Insn → ℕ
mask_of (Op op rd rs1 rs2) = 0xFE00707F
mask_of (OpImm op rd rs1 imm) = 0x0000707F
mask_of (Shift op rd rs1 amount) = 0xFE00707F
mask_of (Load op rd rs1 imm) = 0x0000707F
mask_of (Store op rs1 rs2 imm) = 0x0000707F
mask_of (Branch op rs1 rs2 offset) = 0x0000707F
mask_of (Upper op rd upper) = 0x0000007F
mask_of (Jal rd offset) = 0x0000007F
mask_of (Jalr rd rs1 imm) = 0x0000707F
mask_of (Fence rd rs1 ordering) = 0x0000707F
mask_of Ecall = 0xFFFFFFFF
mask_of Ebreak = 0xFFFFFFFF
mask_of (Amo op rd rs1 rs2 aq rl) = 0xF800707F

abbrev pub register_match : RegisterOp → ℕ
register_match reg.Add = 0x00000033
register_match reg.Sub = 0x40000033
register_match reg.Sll = 0x00001033
register_match reg.Slt = 0x00002033
register_match reg.Sltu = 0x00003033
register_match reg.Xor = 0x00004033
register_match reg.Srl = 0x00005033
register_match reg.Sra = 0x40005033
register_match reg.Or = 0x00006033
register_match reg.And = 0x00007033
register_match reg.Mul = 0x02000033
register_match reg.Mulh = 0x02001033
register_match reg.Mulhsu = 0x02002033
register_match reg.Mulhu = 0x02003033
register_match reg.Div = 0x02004033
register_match reg.Divu = 0x02005033
register_match reg.Rem = 0x02006033
register_match reg.Remu = 0x02007033

abbrev pub immediate_match : ImmediateOp → ℕ
immediate_match Addi = 0x00000013
immediate_match Slti = 0x00002013
immediate_match Sltiu = 0x00003013
immediate_match Xori = 0x00004013
immediate_match Ori = 0x00006013
immediate_match Andi = 0x00007013

abbrev pub shift_match : ShiftOp → ℕ
shift_match Slli = 0x00001013
shift_match Srli = 0x00005013
shift_match Srai = 0x40005013

abbrev pub load_match : LoadOp → ℕ
load_match Lb = 0x00000003
load_match Lh = 0x00001003
load_match Lw = 0x00002003
load_match Lbu = 0x00004003
load_match Lhu = 0x00005003

abbrev pub store_match : StoreOp → ℕ
store_match Sb = 0x00000023
store_match Sh = 0x00001023
store_match Sw = 0x00002023

abbrev pub branch_match : BranchOp → ℕ
branch_match Beq = 0x00000063
branch_match Bne = 0x00001063
branch_match Blt = 0x00004063
branch_match Bge = 0x00005063
branch_match Bltu = 0x00006063
branch_match Bgeu = 0x00007063

abbrev pub upper_match : UpperOp → ℕ
upper_match Lui = 0x00000037
upper_match Auipc = 0x00000017

abbrev pub amo_match : AmoOp → ℕ
amo_match amo.Add = 0x0000202F
amo_match amo.Swap = 0x0800202F
amo_match amo.Xor = 0x2000202F
amo_match amo.Or = 0x4000202F
amo_match amo.And = 0x6000202F
amo_match amo.Min = 0x8000202F
amo_match amo.Max = 0xA000202F
amo_match amo.Minu = 0xC000202F
amo_match amo.Maxu = 0xE000202F

abbrev pub match_of : Insn → ℕ
match_of (Op op rd rs1 rs2) = register_match op
match_of (OpImm op rd rs1 imm) = immediate_match op
match_of (Shift op rd rs1 amount) = shift_match op
match_of (Load op rd rs1 imm) = load_match op
match_of (Store op rs1 rs2 imm) = store_match op
match_of (Branch op rs1 rs2 offset) = branch_match op
match_of (Upper op rd upper) = upper_match op
match_of (Jal rd offset) = 0x0000006F
match_of (Jalr rd rs1 imm) = 0x00000067
match_of (Fence rd rs1 ordering) = 0x0000000F
match_of Ecall = 0x00000073
match_of Ebreak = 0x00100073
match_of (Amo op rd rs1 rs2 aq rl) = amo_match op

abbrev pub format_of : Insn → Format
format_of (Op op rd rs1 rs2) = format.RType
format_of (OpImm op rd rs1 imm) = format.IType
format_of (Shift op rd rs1 amount) = format.Shift
format_of (Load op rd rs1 imm) = format.IType
format_of (Store op rs1 rs2 imm) = format.SType
format_of (Branch op rs1 rs2 offset) = format.BType
format_of (Upper op rd upper) = format.UType
format_of (Jal rd offset) = format.JType
format_of (Jalr rd rs1 imm) = format.IType
format_of (Fence rd rs1 ordering) = format.Fence
format_of Ecall = format.System
format_of Ebreak = format.System
format_of (Amo op rd rs1 rs2 aq rl) = format.Atomic

abbrev pub row_of : Insn → Row
row_of i = row (mask_of i) (match_of i) (format_of i)

-- ---- spelling

-- bits `high` to `low` of a word, as a number
abbrev pub bits : ℕ → ℕ → ℕ → ℕ
bits w high low = w / 2 ^ low % 2 ^ (high + 1 - low)

-- The operands of the instruction are the fields of the word.
abbrev pub HasOperands : ℕ → Insn → Type 0
HasOperands w (Op op rd rs1 rs2) = (rd ≡ bits w 11 7) × (rs1 ≡ bits w 19 15) × (rs2 ≡ bits w 24 20)
HasOperands w (OpImm op rd rs1 imm) = (rd ≡ bits w 11 7) × (rs1 ≡ bits w 19 15) × (imm ≡ bits w 31 20)
HasOperands w (Shift op rd rs1 amount) = (rd ≡ bits w 11 7) × (rs1 ≡ bits w 19 15) × (amount ≡ bits w 24 20)
HasOperands w (Load op rd rs1 imm) = (rd ≡ bits w 11 7) × (rs1 ≡ bits w 19 15) × (imm ≡ bits w 31 20)
HasOperands w (Store op rs1 rs2 imm) = (rs1 ≡ bits w 19 15) × (rs2 ≡ bits w 24 20)
    × (imm ≡ bits w 31 25 * 2 ^ 5 + bits w 11 7)
HasOperands w (Branch op rs1 rs2 offset) =
    (rs1 ≡ bits w 19 15) × (rs2 ≡ bits w 24 20)
    × (offset ≡ bits w 31 31 * 2 ^ 11 + bits w 7 7 * 2 ^ 10 + bits w 30 25 * 2 ^ 4 + bits w 11 8)
HasOperands w (Upper op rd upper) = (rd ≡ bits w 11 7) × (upper ≡ bits w 31 12)
HasOperands w (Jal rd offset) = (rd ≡ bits w 11 7)
    × (offset ≡ bits w 31 31 * 2 ^ 19 + bits w 19 12 * 2 ^ 11 + bits w 20 20 * 2 ^ 10 + bits w 30 21)
HasOperands w (Jalr rd rs1 imm) = (rd ≡ bits w 11 7) × (rs1 ≡ bits w 19 15) × (imm ≡ bits w 31 20)
HasOperands w (Fence rd rs1 ordering) = (rd ≡ bits w 11 7) × (rs1 ≡ bits w 19 15) × (ordering ≡ bits w 31 20)
HasOperands w Ecall = Unit {0}
HasOperands w Ebreak = Unit {0}
HasOperands w (Amo op rd rs1 rs2 aq rl) =
    (rd ≡ bits w 11 7) × (rs1 ≡ bits w 19 15) × (rs2 ≡ bits w 24 20) × (cond aq 1 0 ≡ bits w 26 26)
    × (cond rl 1 0 ≡ bits w 25 25)

-- The word spells the instruction: it fits the instruction's row, and its fields are the operands.
pub record Spells (w : ℕ) (i : Insn) : Type 0 where
  pub row : bit_and w (mask_of i) ≡ match_of i
  pub operands : HasOperands w i

-- The operands have the widths of their fields.
abbrev pub InRange : Insn → Type 0
InRange (Op op rd rs1 rs2) = (rd < 2 ^ 5) × (rs1 < 2 ^ 5) × (rs2 < 2 ^ 5)
InRange (OpImm op rd rs1 imm) = (rd < 2 ^ 5) × (rs1 < 2 ^ 5) × (imm < 2 ^ 12)
InRange (Shift op rd rs1 amount) = (rd < 2 ^ 5) × (rs1 < 2 ^ 5) × (amount < 2 ^ 5)
InRange (Load op rd rs1 imm) = (rd < 2 ^ 5) × (rs1 < 2 ^ 5) × (imm < 2 ^ 12)
InRange (Store op rs1 rs2 imm) = (rs1 < 2 ^ 5) × (rs2 < 2 ^ 5) × (imm < 2 ^ 12)
InRange (Branch op rs1 rs2 offset) = (rs1 < 2 ^ 5) × (rs2 < 2 ^ 5) × (offset < 2 ^ 12)
InRange (Upper op rd upper) = (rd < 2 ^ 5) × (upper < 2 ^ 20)
InRange (Jal rd offset) = (rd < 2 ^ 5) × (offset < 2 ^ 20)
InRange (Jalr rd rs1 imm) = (rd < 2 ^ 5) × (rs1 < 2 ^ 5) × (imm < 2 ^ 12)
InRange (Fence rd rs1 ordering) = (rd < 2 ^ 5) × (rs1 < 2 ^ 5) × (ordering < 2 ^ 12)
InRange Ecall = Unit {0}
InRange Ebreak = Unit {0}
InRange (Amo op rd rs1 rs2 aq rl) = (rd < 2 ^ 5) × (rs1 < 2 ^ 5) × (rs2 < 2 ^ 5)

-- ---- reading

-- the 57 instructions whose operands are the fields of a word: one for each row, in the order of the table
abbrev pub candidates : ℕ → List Insn
candidates w =
    let rd = bits w 11 7 in
    let rs1 = bits w 19 15 in
    let rs2 = bits w 24 20 in
    let imm = bits w 31 20 in
    let store_imm = bits w 31 25 * 2 ^ 5 + bits w 11 7 in
    let branch_offset = bits w 31 31 * 2 ^ 11 + bits w 7 7 * 2 ^ 10 + bits w 30 25 * 2 ^ 4 + bits w 11 8 in
    let jump_offset = bits w 31 31 * 2 ^ 19 + bits w 19 12 * 2 ^ 11 + bits w 20 20 * 2 ^ 10 + bits w 30 21 in
    let aq = bits w 26 26 == 1 in
    let rl = bits w 25 25 == 1 in
    (Upper Lui rd (bits w 31 12)) ∷
    (Upper Auipc rd (bits w 31 12)) ∷
    (Jal rd jump_offset) ∷
    (Jalr rd rs1 imm) ∷
    (Branch Beq rs1 rs2 branch_offset) ∷
    (Branch Bne rs1 rs2 branch_offset) ∷
    (Branch Blt rs1 rs2 branch_offset) ∷
    (Branch Bge rs1 rs2 branch_offset) ∷
    (Branch Bltu rs1 rs2 branch_offset) ∷
    (Branch Bgeu rs1 rs2 branch_offset) ∷
    (Load Lb rd rs1 imm) ∷
    (Load Lh rd rs1 imm) ∷
    (Load Lw rd rs1 imm) ∷
    (Load Lbu rd rs1 imm) ∷
    (Load Lhu rd rs1 imm) ∷
    (Store Sb rs1 rs2 store_imm) ∷
    (Store Sh rs1 rs2 store_imm) ∷
    (Store Sw rs1 rs2 store_imm) ∷
    (OpImm Addi rd rs1 imm) ∷
    (OpImm Slti rd rs1 imm) ∷
    (OpImm Sltiu rd rs1 imm) ∷
    (OpImm Xori rd rs1 imm) ∷
    (OpImm Ori rd rs1 imm) ∷
    (OpImm Andi rd rs1 imm) ∷
    (Shift Slli rd rs1 rs2) ∷
    (Shift Srli rd rs1 rs2) ∷
    (Shift Srai rd rs1 rs2) ∷
    (Op reg.Add rd rs1 rs2) ∷
    (Op reg.Sub rd rs1 rs2) ∷
    (Op reg.Sll rd rs1 rs2) ∷
    (Op reg.Slt rd rs1 rs2) ∷
    (Op reg.Sltu rd rs1 rs2) ∷
    (Op reg.Xor rd rs1 rs2) ∷
    (Op reg.Srl rd rs1 rs2) ∷
    (Op reg.Sra rd rs1 rs2) ∷
    (Op reg.Or rd rs1 rs2) ∷
    (Op reg.And rd rs1 rs2) ∷
    (Fence rd rs1 imm) ∷
    Ecall ∷
    Ebreak ∷
    (Amo amo.Add rd rs1 rs2 aq rl) ∷
    (Amo amo.Swap rd rs1 rs2 aq rl) ∷
    (Amo amo.Xor rd rs1 rs2 aq rl) ∷
    (Amo amo.Or rd rs1 rs2 aq rl) ∷
    (Amo amo.And rd rs1 rs2 aq rl) ∷
    (Amo amo.Min rd rs1 rs2 aq rl) ∷
    (Amo amo.Max rd rs1 rs2 aq rl) ∷
    (Amo amo.Minu rd rs1 rs2 aq rl) ∷
    (Amo amo.Maxu rd rs1 rs2 aq rl) ∷
    (Op reg.Mul rd rs1 rs2) ∷
    (Op reg.Mulh rd rs1 rs2) ∷
    (Op reg.Mulhsu rd rs1 rs2) ∷
    (Op reg.Mulhu rd rs1 rs2) ∷
    (Op reg.Div rd rs1 rs2) ∷
    (Op reg.Divu rd rs1 rs2) ∷
    (Op reg.Rem rd rs1 rs2) ∷
    (Op reg.Remu rd rs1 rs2) ∷
    []

-- the instruction that a word spells: the candidate whose row the word fits
unfoldable pub insn_of : ℕ → Option Insn
insn_of w = find (λ i. bit_and w (mask_of i) == match_of i) (candidates w)
