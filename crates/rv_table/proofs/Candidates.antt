-- The candidates of a word are the instructions of the table with the fields of the word as operands.
use Rattle.std.proofs.Common.{◌≡◌, ℕ, ◌+◌, ◌*◌, ◌^◌, ◌<◌, Bool, true, false, cond, refl, ap, subst, ◌∙◌, arith}
use Rattle.std.specs.Prelude.{◌==◌, map, Contains}
use Rattle.std.proofs.Math.ListN.{get_or-map}
use Rattle.std.proofs.lemmas.Bool.Decides.{nat_tests}
use Rattle.rv_table.specs.declared.insn.Insn.{Insn}
use Rattle.rv_table.specs.declared.insn.Insn.TheVariants.{Op, OpImm, Shift, Load, Store, Branch, Upper, Jal, Jalr, Fence, Ecall, Ebreak, Amo}
use Rattle.rv_table.specs.declared.operation.RegisterOp.TheVariants as reg
use Rattle.rv_table.specs.declared.operation.ImmediateOp.TheVariants.{Addi, Slti, Sltiu, Xori, Ori, Andi}
use Rattle.rv_table.specs.declared.operation.ShiftOp.TheVariants.{Slli, Srli, Srai}
use Rattle.rv_table.specs.declared.operation.LoadOp.TheVariants.{Lb, Lh, Lw, Lbu, Lhu}
use Rattle.rv_table.specs.declared.operation.StoreOp.TheVariants.{Sb, Sh, Sw}
use Rattle.rv_table.specs.declared.operation.BranchOp.TheVariants.{Beq, Bne, Blt, Bge, Bltu, Bgeu}
use Rattle.rv_table.specs.declared.operation.UpperOp.TheVariants.{Lui, Auipc}
use Rattle.rv_table.specs.declared.operation.AmoOp.TheVariants as amo
use Rattle.rv_table.specs.Rows.{rows, row_of, bits, HasOperands, candidates}

-- the operation of the instruction, on the operands in the fields of the word
abbrev pub with_fields : ℕ → Insn → Insn
with_fields w (Op op rd rs1 rs2) = Op op (bits w 11 7) (bits w 19 15) (bits w 24 20)
with_fields w (OpImm op rd rs1 imm) = OpImm op (bits w 11 7) (bits w 19 15) (bits w 31 20)
with_fields w (Shift op rd rs1 amount) = Shift op (bits w 11 7) (bits w 19 15) (bits w 24 20)
with_fields w (Load op rd rs1 imm) = Load op (bits w 11 7) (bits w 19 15) (bits w 31 20)
with_fields w (Store op rs1 rs2 imm) = Store op (bits w 19 15) (bits w 24 20) (bits w 31 25 * 2 ^ 5 + bits w 11 7)
with_fields w (Branch op rs1 rs2 offset) =
    Branch op (bits w 19 15) (bits w 24 20) (bits w 31 31 * 2 ^ 11 + bits w 7 7 * 2 ^ 10 + bits w 30 25 * 2 ^ 4 + bits w 11 8)
with_fields w (Upper op rd upper) = Upper op (bits w 11 7) (bits w 31 12)
with_fields w (Jal rd offset) = Jal (bits w 11 7) (bits w 31 31 * 2 ^ 19 + bits w 19 12 * 2 ^ 11 + bits w 20 20 * 2 ^ 10 + bits w 30 21)
with_fields w (Jalr rd rs1 imm) = Jalr (bits w 11 7) (bits w 19 15) (bits w 31 20)
with_fields w (Fence rd rs1 ordering) = Fence (bits w 11 7) (bits w 19 15) (bits w 31 20)
with_fields w Ecall = Ecall
with_fields w Ebreak = Ebreak
with_fields w (Amo op rd rs1 rs2 aq rl) = Amo op (bits w 11 7) (bits w 19 15) (bits w 24 20) (bits w 26 26 == 1) (bits w 25 25 == 1)

pub row_of-with_fields : (w : ℕ) (i : Insn) → row_of (with_fields w i) ≡ row_of i
row_of-with_fields w Ecall = refl
row_of-with_fields w _ = refl

flag_of_bit : (bit : ℕ) → bit < 2 → cond (bit == 1) 1 0 ≡ bit
flag_of_bit bit h = grind (arith, nat_tests)

bit_of_flag : (flag : Bool) (bit : ℕ) → cond flag 1 0 ≡ bit → (bit == 1) ≡ flag
bit_of_flag true bit e = rw (← e) refl
bit_of_flag false bit e = rw (← e) refl

-- An instruction whose operands are replaced by the fields of a word has the operands of that word.
pub has_fields : (w : ℕ) (i : Insn) → HasOperands w (with_fields w i)
has_fields w Ecall = tt
has_fields w Ebreak = tt
has_fields w (Amo op rd rs1 rs2 aq rl) = (refl, refl, refl, flag_of_bit _ (omega arith), flag_of_bit _ (omega arith))
has_fields w (Upper op rd upper) = (refl, refl)
has_fields w (Jal rd offset) = (refl, refl)
has_fields w _ = (refl, refl, refl)

-- If an instruction has the operands of a word, replacing them by the fields of the word changes nothing.
pub same_from_operands : (w : ℕ) (i : Insn) → HasOperands w i → with_fields w i ≡ i
same_from_operands w Ecall h = refl
same_from_operands w Ebreak h = refl
same_from_operands w (Amo op rd rs1 rs2 aq rl) h =
    let aq_is = bit_of_flag aq _ h.3 in
    let rl_is = bit_of_flag rl _ h.4 in
    cc
same_from_operands w (Upper op rd upper) h = cc (h.0, h.1)
same_from_operands w (Jal rd offset) h = cc (h.0, h.1)
same_from_operands w _ h = cc (h.0, h.1, h.2)

-- Each candidate of a word has the fields of the word as its operands.
pub candidates_have_fields : (w : ℕ) → map (with_fields w) (candidates w) ≡ candidates w
candidates_have_fields w = refl

-- The rows of a word's candidates are the rows of the table, in order.
pub candidates_have_rows : (w : ℕ) → map row_of (candidates w) ≡ rows
unfolding rows
candidates_have_rows w = refl

-- Each instruction, with the fields of the word as operands, is in the list at the place of its row.
pub listed : (w : ℕ) (i : Insn) → Contains (candidates w) (with_fields w i)
listed w (Upper Lui rd upper) = (0, omega arith, refl)
listed w (Upper Auipc rd upper) = (1, omega arith, refl)
listed w (Jal rd offset) = (2, omega arith, refl)
listed w (Jalr rd rs1 imm) = (3, omega arith, refl)
listed w (Branch Beq rs1 rs2 offset) = (4, omega arith, refl)
listed w (Branch Bne rs1 rs2 offset) = (5, omega arith, refl)
listed w (Branch Blt rs1 rs2 offset) = (6, omega arith, refl)
listed w (Branch Bge rs1 rs2 offset) = (7, omega arith, refl)
listed w (Branch Bltu rs1 rs2 offset) = (8, omega arith, refl)
listed w (Branch Bgeu rs1 rs2 offset) = (9, omega arith, refl)
listed w (Load Lb rd rs1 imm) = (10, omega arith, refl)
listed w (Load Lh rd rs1 imm) = (11, omega arith, refl)
listed w (Load Lw rd rs1 imm) = (12, omega arith, refl)
listed w (Load Lbu rd rs1 imm) = (13, omega arith, refl)
listed w (Load Lhu rd rs1 imm) = (14, omega arith, refl)
listed w (Store Sb rs1 rs2 imm) = (15, omega arith, refl)
listed w (Store Sh rs1 rs2 imm) = (16, omega arith, refl)
listed w (Store Sw rs1 rs2 imm) = (17, omega arith, refl)
listed w (OpImm Addi rd rs1 imm) = (18, omega arith, refl)
listed w (OpImm Slti rd rs1 imm) = (19, omega arith, refl)
listed w (OpImm Sltiu rd rs1 imm) = (20, omega arith, refl)
listed w (OpImm Xori rd rs1 imm) = (21, omega arith, refl)
listed w (OpImm Ori rd rs1 imm) = (22, omega arith, refl)
listed w (OpImm Andi rd rs1 imm) = (23, omega arith, refl)
listed w (Shift Slli rd rs1 amount) = (24, omega arith, refl)
listed w (Shift Srli rd rs1 amount) = (25, omega arith, refl)
listed w (Shift Srai rd rs1 amount) = (26, omega arith, refl)
listed w (Op reg.Add rd rs1 rs2) = (27, omega arith, refl)
listed w (Op reg.Sub rd rs1 rs2) = (28, omega arith, refl)
listed w (Op reg.Sll rd rs1 rs2) = (29, omega arith, refl)
listed w (Op reg.Slt rd rs1 rs2) = (30, omega arith, refl)
listed w (Op reg.Sltu rd rs1 rs2) = (31, omega arith, refl)
listed w (Op reg.Xor rd rs1 rs2) = (32, omega arith, refl)
listed w (Op reg.Srl rd rs1 rs2) = (33, omega arith, refl)
listed w (Op reg.Sra rd rs1 rs2) = (34, omega arith, refl)
listed w (Op reg.Or rd rs1 rs2) = (35, omega arith, refl)
listed w (Op reg.And rd rs1 rs2) = (36, omega arith, refl)
listed w (Fence rd rs1 ordering) = (37, omega arith, refl)
listed w Ecall = (38, omega arith, refl)
listed w Ebreak = (39, omega arith, refl)
listed w (Amo amo.Add rd rs1 rs2 aq rl) = (40, omega arith, refl)
listed w (Amo amo.Swap rd rs1 rs2 aq rl) = (41, omega arith, refl)
listed w (Amo amo.Xor rd rs1 rs2 aq rl) = (42, omega arith, refl)
listed w (Amo amo.Or rd rs1 rs2 aq rl) = (43, omega arith, refl)
listed w (Amo amo.And rd rs1 rs2 aq rl) = (44, omega arith, refl)
listed w (Amo amo.Min rd rs1 rs2 aq rl) = (45, omega arith, refl)
listed w (Amo amo.Max rd rs1 rs2 aq rl) = (46, omega arith, refl)
listed w (Amo amo.Minu rd rs1 rs2 aq rl) = (47, omega arith, refl)
listed w (Amo amo.Maxu rd rs1 rs2 aq rl) = (48, omega arith, refl)
listed w (Op reg.Mul rd rs1 rs2) = (49, omega arith, refl)
listed w (Op reg.Mulh rd rs1 rs2) = (50, omega arith, refl)
listed w (Op reg.Mulhsu rd rs1 rs2) = (51, omega arith, refl)
listed w (Op reg.Mulhu rd rs1 rs2) = (52, omega arith, refl)
listed w (Op reg.Div rd rs1 rs2) = (53, omega arith, refl)
listed w (Op reg.Divu rd rs1 rs2) = (54, omega arith, refl)
listed w (Op reg.Rem rd rs1 rs2) = (55, omega arith, refl)
listed w (Op reg.Remu rd rs1 rs2) = (56, omega arith, refl)

-- The table has the row of each instruction.
pub row_listed : (i : Insn) → Contains rows (row_of i)
row_listed i =
    let place = listed 0 i in
    let at_place = get_or-map row_of (candidates 0) place.0 (with_fields 0 i) ∙ ap row_of place.2 in
    let among : Contains (map row_of (candidates 0)) (row_of (with_fields 0 i)) = (place.0, place.1, at_place) in
    let among_rows = subst (λ rs. Contains rs (row_of (with_fields 0 i))) (candidates_have_rows 0) among in
    subst (Contains rows) (row_of-with_fields 0 i) among_rows
