-- The text of an instruction: its mnemonic, one blank, and its operands with `, ` between them.
use Rattle.std.specs.Prelude.{◌≡◌, ℕ, true, int_le, ◌*◌, ◌^◌, nat_lt, List, [], ◌∷◌, ◌++◌, if◌then◌else◌, ℤ, pos, ◌-ℤ◌}
use Rattle.std.specs.Fmt.{decimal, signed_decimal}
use Rattle.rv_table.specs.declared.insn.Insn.{Insn}
use Rattle.rv_table.specs.declared.insn.Insn.TheVariants.{Op, OpImm, Shift, Load, Store, Branch, Upper, Jal, Jalr}
use Rattle.rv_table.specs.declared.insn.Insn.TheVariants.{Fence, Ecall, Ebreak, Amo}
use Rattle.asm_lines.specs.declared.mnemonic.Mnemonic.{Mnemonic}
use Rattle.asm_lines.specs.declared.mnemonic.Mnemonic.TheVariants as mnemonics
use Rattle.asm_lines.specs.declared.mnemonic.Order.{Order}
use Rattle.asm_lines.specs.Number.{low_bits}
use Rattle.asm_lines.specs.Names.{written, unordered, x_name}
use Rattle.asm_lines.specs.Statements.{Instr, whole, op_imm, load, store, branch, upper, jal, jalr, number}

abbrev pub mnemonic_of_insn : Insn → Mnemonic
mnemonic_of_insn (Op op rd rs1 rs2) = mnemonics.Op op
mnemonic_of_insn (OpImm op rd rs1 imm) = mnemonics.OpImm op
mnemonic_of_insn (Shift op rd rs1 amount) = mnemonics.Shift op
mnemonic_of_insn (Load op rd rs1 imm) = mnemonics.Load op
mnemonic_of_insn (Store op rs1 rs2 imm) = mnemonics.Store op
mnemonic_of_insn (Branch op rs1 rs2 offset) = mnemonics.Branch op
mnemonic_of_insn (Upper op rd v) = mnemonics.Upper op
mnemonic_of_insn (Jal rd offset) = mnemonics.Jal
mnemonic_of_insn (Jalr rd rs1 imm) = mnemonics.Jalr
mnemonic_of_insn (Fence rd rs1 ordering) = mnemonics.Fence
mnemonic_of_insn Ecall = mnemonics.Ecall
mnemonic_of_insn Ebreak = mnemonics.Ebreak
mnemonic_of_insn (Amo op rd rs1 rs2 aq rl) = mnemonics.Amo op

abbrev pub order_of_insn : Insn → Order
order_of_insn (Amo op rd rs1 rs2 aq rl) = record { aq = aq; rl = rl }
order_of_insn _ = unordered

-- a field as a number in two's complement, with a sign bit of this weight
abbrev pub signed : (sign field : ℕ) → ℤ
signed sign field = if nat_lt field sign then pos field else (pos field -ℤ pos (2 * sign))

-- the byte offset of a target, whose field is in units of two bytes
abbrev pub offset : (sign field : ℕ) → ℤ
offset sign field = signed (2 * sign) (2 * field)

-- The number is even, and from `least` to `most`.
abbrev pub IsEvenWithin : (least most : ℤ) → ℤ → Type 0
IsEvenWithin least most z = (int_le least z ≡ true) × (int_le z most ≡ true) × (low_bits 2 z ≡ 0)

abbrev pub in_brackets : (front inside : List ℕ) → List ℕ
in_brackets front inside = front ++ 40 ∷ (inside ++ 41 ∷ [])

abbrev pub operands_written : Insn → List (List ℕ)
operands_written (Op op rd rs1 rs2) = x_name rd ∷ x_name rs1 ∷ x_name rs2 ∷ []
operands_written (OpImm op rd rs1 imm) = x_name rd ∷ x_name rs1 ∷ signed_decimal (signed (2 ^ 11) imm) ∷ []
operands_written (Shift op rd rs1 amount) = x_name rd ∷ x_name rs1 ∷ decimal amount ∷ []
operands_written (Load op rd rs1 imm) = x_name rd ∷ in_brackets (signed_decimal (signed (2 ^ 11) imm)) (x_name rs1) ∷ []
operands_written (Store op rs1 rs2 imm) =
    x_name rs2 ∷ in_brackets (signed_decimal (signed (2 ^ 11) imm)) (x_name rs1) ∷ []
operands_written (Branch op rs1 rs2 field) = x_name rs1 ∷ x_name rs2 ∷ signed_decimal (offset (2 ^ 11) field) ∷ []
operands_written (Upper op rd v) = x_name rd ∷ decimal v ∷ []
operands_written (Jal rd field) = x_name rd ∷ signed_decimal (offset (2 ^ 19) field) ∷ []
operands_written (Jalr rd rs1 imm) = x_name rd ∷ in_brackets (signed_decimal (signed (2 ^ 11) imm)) (x_name rs1) ∷ []
operands_written (Fence rd rs1 ordering) = x_name rd ∷ x_name rs1 ∷ decimal ordering ∷ []
operands_written Ecall = []
operands_written Ebreak = []
operands_written (Amo op rd rs1 rs2 aq rl) = x_name rd ∷ x_name rs2 ∷ in_brackets [] (x_name rs1) ∷ []

-- the operands after the first, each with a comma and a blank before it
abbrev pub after_commas : List (List ℕ) → List ℕ
after_commas [] = []
after_commas (operand ∷ operands) = 44 ∷ 32 ∷ (operand ++ after_commas operands)

abbrev pub with_operands : List ℕ → List (List ℕ) → List ℕ
with_operands word [] = word
with_operands word (operand ∷ operands) = word ++ 32 ∷ (operand ++ after_commas operands)

-- the text of an instruction
unfoldable pub text_of : Insn → List ℕ
text_of i = with_operands (written (mnemonic_of_insn i) (order_of_insn i)) (operands_written i)

-- the instruction that a line says, with its immediate as a number
abbrev pub as_said : Insn → Instr
as_said (OpImm op rd rs1 imm) = op_imm op rd rs1 (number (signed (2 ^ 11) imm))
as_said (Load op rd rs1 imm) = load op rd rs1 (number (signed (2 ^ 11) imm))
as_said (Store op rs1 rs2 imm) = store op rs1 rs2 (number (signed (2 ^ 11) imm))
as_said (Branch op rs1 rs2 field) = branch op rs1 rs2 (number (offset (2 ^ 11) field))
as_said (Upper op rd v) = upper op rd (number (pos v))
as_said (Jal rd field) = jal rd (number (offset (2 ^ 19) field))
as_said (Jalr rd rs1 imm) = jalr rd rs1 (number (signed (2 ^ 11) imm))
as_said i = whole i
