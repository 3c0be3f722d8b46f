-- A row's match, with the operands in their places, is the only word that spells the instruction.
use Rattle.std.proofs.Common.{◌≡◌, ℕ, ◌+◌, ◌^◌, ◌<◌, refl, arith, cond, Bool, true, false}
use Rattle.std.specs.Prelude.{bit_and}
use Rattle.rv_table.specs.declared.insn.Insn.{Insn}
use Rattle.rv_table.specs.declared.insn.Insn.TheVariants.{Op, OpImm, Shift, Load, Store, Branch, Upper, Jal, Ecall, Ebreak, Amo}
use Rattle.rv_table.specs.declared.operation.RegisterOp.TheVariants as reg
use Rattle.rv_table.specs.declared.operation.ImmediateOp.TheVariants.{Addi}
use Rattle.rv_table.specs.declared.operation.ShiftOp.TheVariants.{Slli}
use Rattle.rv_table.specs.declared.operation.LoadOp.TheVariants.{Lb}
use Rattle.rv_table.specs.declared.operation.StoreOp.TheVariants.{Sb}
use Rattle.rv_table.specs.declared.operation.BranchOp.TheVariants.{Beq}
use Rattle.rv_table.specs.declared.operation.UpperOp.TheVariants.{Lui}
use Rattle.rv_table.specs.declared.operation.AmoOp.TheVariants as amo
use Rattle.rv_table.specs.Rows.{mask_of, match_of, InRange, Spells}
use Rattle.decode.specs.Words.{operands_of}
use Rattle.decode.proofs.Masks.{mask_opcode, mask_funct3, mask_funct5, mask_funct7, mask_all}

-- The match of a row has ones only where the row's mask has.
match_under_mask : (i : Insn) → bit_and (match_of i) (mask_of i) ≡ match_of i
match_under_mask (Op reg.Add rd rs1 rs2) = refl
match_under_mask (OpImm Addi rd rs1 imm) = refl
match_under_mask (Shift Slli rd rs1 amount) = refl
match_under_mask (Load Lb rd rs1 imm) = refl
match_under_mask (Store Sb rs1 rs2 imm) = refl
match_under_mask (Branch Beq rs1 rs2 offset) = refl
match_under_mask (Upper Lui rd upper) = refl
match_under_mask (Amo amo.Add rd rs1 rs2 aq rl) = refl
match_under_mask _ = refl

flag_below : (flag : Bool) → cond flag 1 0 < 2
flag_below true = omega arith
flag_below false = omega arith

-- The word made of the match and the operands spells the instruction.
pub spells : (w : ℕ) (i : Insn) → w ≡ match_of i + operands_of i → InRange i → Spells w i
spells w Ecall is r = record { row = rw is refl; operands = tt }
spells w Ebreak is r = record { row = rw is refl; operands = tt }
spells w (Upper op rd upper) is r =
    let i = Upper op rd upper in
    let under = match_under_mask i in
    let of_match = mask_opcode (match_of i) in
    let of_word = mask_opcode w in
    record { row = omega arith; operands = (omega arith, omega arith) }
spells w (Jal rd offset) is r =
    let i = Jal rd offset in
    let under = match_under_mask i in
    let of_match = mask_opcode (match_of i) in
    let of_word = mask_opcode w in
    record { row = omega arith; operands = (omega arith, omega arith) }
spells w (Op op rd rs1 rs2) is r =
    let i = Op op rd rs1 rs2 in
    let under = match_under_mask i in
    let of_match = mask_funct7 (match_of i) in
    let of_word = mask_funct7 w in
    record { row = omega arith; operands = (omega arith, omega arith, omega arith) }
spells w (Shift op rd rs1 amount) is r =
    let i = Shift op rd rs1 amount in
    let under = match_under_mask i in
    let of_match = mask_funct7 (match_of i) in
    let of_word = mask_funct7 w in
    record { row = omega arith; operands = (omega arith, omega arith, omega arith) }
spells w (Amo op rd rs1 rs2 aq rl) is r =
    let i = Amo op rd rs1 rs2 aq rl in
    let under = match_under_mask i in
    let of_match = mask_funct5 (match_of i) in
    let of_word = mask_funct5 w in
    let aq_below = flag_below aq in
    let rl_below = flag_below rl in
    record { row = omega arith; operands = (omega arith, omega arith, omega arith, omega arith, omega arith) }
spells w i is r =
    let under = match_under_mask i in
    let of_match = mask_funct3 (match_of i) in
    let of_word = mask_funct3 w in
    record { row = omega arith; operands = (omega arith, omega arith, omega arith) }

-- No other word spells the instruction.
pub only : (w : ℕ) (i : Insn) → w < 2 ^ 32 → Spells w i → w ≡ match_of i + operands_of i
only w Ecall range s = omega (arith, mask_all w, s.row)
only w Ebreak range s = omega (arith, mask_all w, s.row)
only w (Upper op rd upper) range s = omega (arith, mask_opcode w, s.row, s.operands)
only w (Jal rd offset) range s = omega (arith, mask_opcode w, s.row, s.operands)
only w (Op op rd rs1 rs2) range s = omega (arith, mask_funct7 w, s.row, s.operands)
only w (Shift op rd rs1 amount) range s = omega (arith, mask_funct7 w, s.row, s.operands)
only w (Amo op rd rs1 rs2 aq rl) range s = omega (arith, mask_funct5 w, s.row, s.operands)
only w i range s = omega (arith, mask_funct3 w, s.row, s.operands)
