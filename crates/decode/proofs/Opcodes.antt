-- A word that spells an instruction has its opcode, so only the instructions with that opcode need checking.
use Rattle.std.proofs.Common.{◌≡◌, ◌↔◌, ℕ, ◌^◌, ◌<◌, Option, None, Some, refl, sym, ap, subst, ◌∙◌, arith}
use Rattle.std.specs.Prelude.{bit_and}
use Rattle.std.proofs.lemmas.Nat.{and_assoc, and_mask}
use Rattle.rv_table.specs.declared.insn.Insn.{Insn}
use Rattle.rv_table.specs.declared.insn.Insn.TheVariants.{Op, OpImm, Shift, Load, Store, Branch, Upper, Jal, Jalr, Fence, Ecall, Ebreak, Amo}
use Rattle.rv_table.specs.declared.operation.RegisterOp.{RegisterOp}
use Rattle.rv_table.specs.declared.operation.RegisterOp.TheVariants as reg
use Rattle.rv_table.specs.declared.operation.ImmediateOp.{ImmediateOp}
use Rattle.rv_table.specs.declared.operation.ImmediateOp.TheVariants.{Addi}
use Rattle.rv_table.specs.declared.operation.ShiftOp.{ShiftOp}
use Rattle.rv_table.specs.declared.operation.ShiftOp.TheVariants.{Slli}
use Rattle.rv_table.specs.declared.operation.LoadOp.{LoadOp}
use Rattle.rv_table.specs.declared.operation.LoadOp.TheVariants.{Lb}
use Rattle.rv_table.specs.declared.operation.StoreOp.{StoreOp}
use Rattle.rv_table.specs.declared.operation.StoreOp.TheVariants.{Sb}
use Rattle.rv_table.specs.declared.operation.BranchOp.{BranchOp}
use Rattle.rv_table.specs.declared.operation.BranchOp.TheVariants.{Beq}
use Rattle.rv_table.specs.declared.operation.UpperOp.TheVariants.{Lui, Auipc}
use Rattle.rv_table.specs.declared.operation.AmoOp.{AmoOp}
use Rattle.rv_table.specs.declared.operation.AmoOp.TheVariants as amo
use Rattle.decode.specs.Words.{IsReading}
use Rattle.rv_table.specs.Rows.{Spells, mask_of, match_of, register_match, immediate_match, shift_match, load_match, store_match, branch_match, amo_match}

abbrev pub opcode_of : Insn → ℕ
opcode_of (Op op rd rs1 rs2) = 0x33
opcode_of (OpImm op rd rs1 imm) = 0x13
opcode_of (Shift op rd rs1 amount) = 0x13
opcode_of (Load op rd rs1 imm) = 0x03
opcode_of (Store op rs1 rs2 imm) = 0x23
opcode_of (Branch op rs1 rs2 offset) = 0x63
opcode_of (Upper Lui rd upper) = 0x37
opcode_of (Upper Auipc rd upper) = 0x17
opcode_of (Jal rd offset) = 0x6F
opcode_of (Jalr rd rs1 imm) = 0x67
opcode_of (Fence rd rs1 ordering) = 0x0F
opcode_of Ecall = 0x73
opcode_of Ebreak = 0x73
opcode_of (Amo op rd rs1 rs2 aq rl) = 0x2F

opcode_of_match : (i : Insn) → bit_and (match_of i) 0x7F ≡ opcode_of i
opcode_of_match (Op reg.Add rd rs1 rs2) = refl
opcode_of_match (OpImm Addi rd rs1 imm) = refl
opcode_of_match (Shift Slli rd rs1 amount) = refl
opcode_of_match (Load Lb rd rs1 imm) = refl
opcode_of_match (Store Sb rs1 rs2 imm) = refl
opcode_of_match (Branch Beq rs1 rs2 offset) = refl
opcode_of_match (Upper Lui rd upper) = refl
opcode_of_match (Amo amo.Add rd rs1 rs2 aq rl) = refl
opcode_of_match _ = refl

mask_has_opcode : (i : Insn) → bit_and (mask_of i) 0x7F ≡ 0x7F
mask_has_opcode Ecall = refl
mask_has_opcode _ = refl

-- What a word has under a mask determines what it has under a part of the mask.
coarser : (w mask part match : ℕ) → bit_and mask part ≡ part → bit_and w mask ≡ match → bit_and w part ≡ bit_and match part
coarser w mask part match inside row = ap (bit_and w) (sym inside) ∙ sym (and_assoc part w mask) ∙ ap (λ m. bit_and m part) row

-- A word that spells an instruction has the opcode of that instruction.
pub opcode_from_spells : (w : ℕ) (i : Insn) → Spells w i → bit_and w 0x7F ≡ opcode_of i
opcode_from_spells w i s = coarser w (mask_of i) 0x7F (match_of i) (mask_has_opcode i) s.row ∙ opcode_of_match i

-- ---- if no operation with the opcode has the match of the word, the word spells nothing

-- `None` is the reading of a word that spells no instruction.
pub unread : {w : ℕ} {r : Option Insn} → r ≡ None → ((i : Insn) → ¬ Spells w i) → IsReading w r
unread {w} {r} is none = subst (IsReading w) (sym is) none

-- A word with the opcode of register operations spells no instruction if it fits none of their rows.
pub no_op : (w : ℕ) → bit_and w 0x7F ≡ 0x33 → ((op : RegisterOp) → ¬ register_match op ≡ bit_and w 0xFE00707F) → (i : Insn) → ¬ Spells w i
no_op w opcode none (Op op rd rs1 rs2) s = none op (sym s.row)
no_op w opcode none i s = grind (arith, opcode_from_spells w i s)

-- A word with the opcode of immediate operations spells no instruction if it fits no row of an immediate operation or
-- of a shift.
pub no_op_imm : (w : ℕ) → bit_and w 0x7F ≡ 0x13 → ((op : ImmediateOp) → ¬ immediate_match op ≡ bit_and w 0x707F) →
    ((op : ShiftOp) → ¬ shift_match op ≡ bit_and w 0xFE00707F) → (i : Insn) → ¬ Spells w i
no_op_imm w opcode none no_shift (OpImm op rd rs1 imm) s = none op (sym s.row)
no_op_imm w opcode none no_shift (Shift op rd rs1 amount) s = no_shift op (sym s.row)
no_op_imm w opcode none no_shift i s = grind (arith, opcode_from_spells w i s)

-- A word with the opcode of loads spells no instruction if it fits none of their rows.
pub no_load : (w : ℕ) → bit_and w 0x7F ≡ 0x03 → ((op : LoadOp) → ¬ load_match op ≡ bit_and w 0x707F) → (i : Insn) → ¬ Spells w i
no_load w opcode none (Load op rd rs1 imm) s = none op (sym s.row)
no_load w opcode none i s = grind (arith, opcode_from_spells w i s)

-- A word with the opcode of stores spells no instruction if it fits none of their rows.
pub no_store : (w : ℕ) → bit_and w 0x7F ≡ 0x23 → ((op : StoreOp) → ¬ store_match op ≡ bit_and w 0x707F) → (i : Insn) → ¬ Spells w i
no_store w opcode none (Store op rs1 rs2 imm) s = none op (sym s.row)
no_store w opcode none i s = grind (arith, opcode_from_spells w i s)

-- A word with the opcode of branches spells no instruction if it fits none of their rows.
pub no_branch : (w : ℕ) → bit_and w 0x7F ≡ 0x63 → ((op : BranchOp) → ¬ branch_match op ≡ bit_and w 0x707F) → (i : Insn) → ¬ Spells w i
no_branch w opcode none (Branch op rs1 rs2 offset) s = none op (sym s.row)
no_branch w opcode none i s = grind (arith, opcode_from_spells w i s)

-- A word with the opcode of JALR spells no instruction if it does not fit the row of JALR.
pub no_jalr : (w : ℕ) → bit_and w 0x7F ≡ 0x67 → ¬ bit_and w 0x707F ≡ 0x67 → (i : Insn) → ¬ Spells w i
no_jalr w opcode none (Jalr rd rs1 imm) s = none s.row
no_jalr w opcode none i s = grind (arith, opcode_from_spells w i s)

-- A word with the opcode of FENCE spells no instruction if it does not fit the row of FENCE.
pub no_fence : (w : ℕ) → bit_and w 0x7F ≡ 0x0F → ¬ bit_and w 0x707F ≡ 0x0F → (i : Insn) → ¬ Spells w i
no_fence w opcode none (Fence rd rs1 ordering) s = none s.row
no_fence w opcode none i s = grind (arith, opcode_from_spells w i s)

-- A word with the opcode of ECALL and EBREAK spells no instruction if it is neither of the two.
pub no_system : (w : ℕ) → w < 2 ^ 32 → bit_and w 0x7F ≡ 0x73 → ¬ w ≡ 0x73 → ¬ w ≡ 0x00100073 → (i : Insn) → ¬ Spells w i
no_system w range opcode no_ecall no_ebreak Ecall s =
    let row : bit_and w 0xFFFFFFFF ≡ 0x73 = s.row in
    omega (arith, and_mask w 32)
no_system w range opcode no_ecall no_ebreak Ebreak s =
    let row : bit_and w 0xFFFFFFFF ≡ 0x00100073 = s.row in
    omega (arith, and_mask w 32)
no_system w range opcode no_ecall no_ebreak i s = grind (arith, opcode_from_spells w i s)

-- A word with the opcode of atomic operations spells no instruction if it fits none of their rows.
pub no_amo : (w : ℕ) → bit_and w 0x7F ≡ 0x2F → ((op : AmoOp) → ¬ amo_match op ≡ bit_and w 0xF800707F) → (i : Insn) → ¬ Spells w i
no_amo w opcode none (Amo op rd rs1 rs2 aq rl) s = none op (sym s.row)
no_amo w opcode none i s = grind (arith, opcode_from_spells w i s)

-- A reading of a word is the same as any exact reading.
pub reading_is : (w : ℕ) (r o : Option Insn) → ((i : Insn) → (o ≡ Some i) ↔ Spells w i) → IsReading w r → r ≡ o
reading_is w None None exact none = refl
reading_is w None (Some i) exact none = absurd (none i ((exact i).0 refl))
reading_is w (Some i) o exact s = sym ((exact i).1 s)
