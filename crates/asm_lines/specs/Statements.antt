-- What a line of text says.
use Rattle.std.specs.Prelude.{ℕ, ◌-◌, ◌^◌, Bool, false, ◌==◌, ◌&&◌, ◌||◌, nat_le, List, []}
use Rattle.std.specs.Prelude.{◌∷◌, length, take, map, Option, Some, None, ok_or, Result, Ok}
use Rattle.std.specs.Prelude.{Err, if◌then◌else◌, ℤ, pos, negsuc, codes, slice_index}
use Rattle.std.specs.List.{list_all}
use Rattle.std.specs.Option.{option_map}
use Rattle.std.specs.Str.{bytes_eq}
use Rattle.rv_table.specs.declared.insn.Insn.{Insn}
use Rattle.rv_table.specs.declared.insn.Insn.TheVariants as insns
use Rattle.rv_table.specs.declared.operation.RegisterOp.{RegisterOp}
use Rattle.rv_table.specs.declared.operation.ImmediateOp.{ImmediateOp}
use Rattle.rv_table.specs.declared.operation.ShiftOp.{ShiftOp}
use Rattle.rv_table.specs.declared.operation.LoadOp.{LoadOp}
use Rattle.rv_table.specs.declared.operation.StoreOp.{StoreOp}
use Rattle.rv_table.specs.declared.operation.BranchOp.{BranchOp}
use Rattle.rv_table.specs.declared.operation.UpperOp.{UpperOp}
use Rattle.rv_table.specs.declared.operation.AmoOp.{AmoOp}
use Rattle.asm_lines.specs.declared.instruction.Addressed.{Addressed}
use Rattle.asm_lines.specs.declared.instruction.Addressed.TheVariants as kinds
use Rattle.asm_lines.specs.declared.fault.LineFault.{LineFault}
use Rattle.asm_lines.specs.declared.fault.LineFault.TheVariants.{Unknown, Form}
use Rattle.asm_lines.specs.declared.mnemonic.Mnemonic.{Mnemonic}
use Rattle.asm_lines.specs.declared.mnemonic.Mnemonic.TheVariants.{Op, OpImm, Shift, Load, Store, Branch, Upper, Jal}
use Rattle.asm_lines.specs.declared.mnemonic.Mnemonic.TheVariants.{Jalr, Fence, Ecall, Ebreak, Amo}
use Rattle.asm_lines.specs.declared.mnemonic.Order.{Order}
use Rattle.asm_lines.specs.declared.statement.Section.{Section}
use Rattle.asm_lines.specs.declared.directive.Directive.{Directive}
use Rattle.asm_lines.specs.declared.directive.Directive.TheVariants as directives
use Rattle.asm_lines.specs.declared.statement.Value.{Value}
use Rattle.asm_lines.specs.declared.statement.Value.TheVariants as values
use Rattle.asm_lines.specs.declared.statement.Instruction.{Instruction}
use Rattle.asm_lines.specs.declared.statement.Instruction.TheVariants as instructions
use Rattle.asm_lines.specs.declared.statement.Statement.{Statement}
use Rattle.asm_lines.specs.declared.statement.Statement.TheVariants as statements
use Rattle.asm_lines.specs.declared.statement.Line.{Line}
use Rattle.asm_lines.specs.Steps.{◌>>=◌}
use Rattle.asm_lines.specs.Text.{is_blank, trimmed, cut_at, cut_last_at, operands_of}
use Rattle.asm_lines.specs.Number.{number_within, natural_within, low_bits}
use Rattle.asm_lines.specs.Names.{mnemonic_of, directive_of, register_of}

-- a number, or a label, for which its place uses the value, %hi, %lo or the distance
pub data Val : Type 0 where
  number : ℤ → Val
  label : List ℕ → Val

-- an instruction, whose immediate may be a label
pub data Instr : Type 0 where
  whole : Insn → Instr
  op_imm : ImmediateOp → (rd rs1 : ℕ) → Val → Instr
  load : LoadOp → (rd rs1 : ℕ) → Val → Instr
  store : StoreOp → (rs1 rs2 : ℕ) → Val → Instr
  branch : BranchOp → (rs1 rs2 : ℕ) → Val → Instr
  upper : UpperOp → (rd : ℕ) → Val → Instr
  jal : (rd : ℕ) → Val → Instr
  jalr : (rd rs1 : ℕ) → Val → Instr

pub data Stmt : Type 0 where
  section : Section → Stmt
  words : List Val → Stmt
  bytes : List ℕ → Stmt
  zeros : ℕ → Stmt
  instruction : Instr → Stmt

-- a line: its label and its statement, if it has them
pub record Said : Type 0 where
  pub name : Option (List ℕ)
  pub statement : Option Stmt

-- ---- names

abbrev pub is_letter : ℕ → Bool
is_letter b = (nat_le 65 b && nat_le b 90) || (nat_le 97 b && nat_le b 122) || (b == 95)

abbrev pub is_name_byte : ℕ → Bool
is_name_byte b = is_letter b || (nat_le 48 b && nat_le b 57)

-- a letter or _, then letters, digits, _
unfoldable pub is_name : List ℕ → Bool
is_name [] = false
is_name (b ∷ bs) = is_letter b && list_all is_name_byte bs

-- ---- operands, without the blanks around them

unfoldable pub register_in : List ℕ → Result ℕ LineFault
register_in operand = ok_or (register_of operand) Form

-- a label, or a number in range
unfoldable pub value_in : (least most : ℤ) → List ℕ → Result Val LineFault
value_in least most operand =
    if is_name operand then Ok (label operand)
    else (number_within least most operand >>= λ z. Ok (number z))

-- the parts of `front(inside)`
unfoldable pub bracket_parts : List ℕ → Option (List ℕ × List ℕ)
bracket_parts operand =
    if slice_index operand (length operand - 1) == 41
    then option_map (λ parts. (trimmed parts.0, trimmed parts.1)) (cut_last_at 40 (take (length operand - 1) operand))
    else None

-- the label of %hi(label) or %lo(label)
abbrev pub label_of_part : List ℕ → Option (List ℕ × List ℕ) → Option (List ℕ)
label_of_part modifier None = None
label_of_part modifier (Some parts) = if bytes_eq parts.0 modifier && is_name parts.1 then Some parts.1 else None

unfoldable pub part_in : List ℕ → List ℕ → Option (List ℕ)
part_in modifier operand = label_of_part modifier (bracket_parts operand)

abbrev pub or_number : (least most : ℤ) → List ℕ → Option (List ℕ) → Result Val LineFault
or_number least most operand (Some name) = Ok (label name)
or_number least most operand None = number_within least most operand >>= λ z. Ok (number z)

-- %hi(label), or the upper 20 bits
unfoldable pub upper_in : List ℕ → Result Val LineFault
upper_in operand = or_number (pos 0) (pos 1048575) operand (part_in (codes "%hi") operand)

-- %lo(label), or a number of 12 bits
unfoldable pub lower_in : List ℕ → Result Val LineFault
lower_in operand = or_number (negsuc 2047) (pos 2047) operand (part_in (codes "%lo") operand)

-- (rs1)
unfoldable pub base_in : List ℕ → Result ℕ LineFault
base_in operand = do
  parts ← ok_or (bracket_parts operand) Form
  if length parts.0 == 0 then register_in parts.1 else Err Form

-- no operand
unfoldable pub nothing_in : List (List ℕ) → Result (Unit {0}) LineFault
nothing_in ([] ∷ []) = Ok tt
nothing_in _ = Err Form

-- ---- instructions, read from their operands

-- op rd, rs1, rs2
unfoldable pub op_in : RegisterOp → List (List ℕ) → Result Instr LineFault
op_in op (a ∷ b ∷ c ∷ []) = do
  rd ← register_in a
  rs1 ← register_in b
  rs2 ← register_in c
  Ok (whole (insns.Op op rd rs1 rs2))
op_in op _ = Err Form

-- op rd, rs1, i
unfoldable pub op_imm_in : ImmediateOp → List (List ℕ) → Result Instr LineFault
op_imm_in op (a ∷ b ∷ c ∷ []) = do
  rd ← register_in a
  rs1 ← register_in b
  i ← lower_in c
  Ok (op_imm op rd rs1 i)
op_imm_in op _ = Err Form

-- op rd, rs1, i
unfoldable pub shift_in : ShiftOp → List (List ℕ) → Result Instr LineFault
shift_in op (a ∷ b ∷ c ∷ []) = do
  rd ← register_in a
  rs1 ← register_in b
  i ← natural_within 31 c
  Ok (whole (insns.Shift op rd rs1 i))
shift_in op _ = Err Form

-- the instruction with a register, and with rs1 and an immediate as its address
abbrev pub addressed : Addressed → (register rs1 : ℕ) → Val → Instr
addressed (kinds.Load op) register rs1 i = load op register rs1 i
addressed (kinds.Store op) register rs1 i = store op rs1 register i
addressed kinds.Jalr register rs1 i = jalr register rs1 i

-- op rd, i(rs1); op rs2, i(rs1); jalr rd, i(rs1)
unfoldable pub addressed_in : Addressed → List (List ℕ) → Result Instr LineFault
addressed_in kind (a ∷ b ∷ []) = do
  register ← register_in a
  address ← ok_or (bracket_parts b) Form
  i ← lower_in address.0
  rs1 ← register_in address.1
  Ok (addressed kind register rs1 i)
addressed_in kind _ = Err Form

-- op rs1, rs2, target
unfoldable pub branch_in : BranchOp → List (List ℕ) → Result Instr LineFault
branch_in op (a ∷ b ∷ c ∷ []) = do
  rs1 ← register_in a
  rs2 ← register_in b
  target ← value_in (negsuc 4095) (pos 4094) c
  Ok (branch op rs1 rs2 target)
branch_in op _ = Err Form

-- op rd, v
unfoldable pub upper_insn_in : UpperOp → List (List ℕ) → Result Instr LineFault
upper_insn_in op (a ∷ b ∷ []) = do
  rd ← register_in a
  v ← upper_in b
  Ok (upper op rd v)
upper_insn_in op _ = Err Form

-- jal rd, target
unfoldable pub jal_in : List (List ℕ) → Result Instr LineFault
jal_in (a ∷ b ∷ []) = do
  rd ← register_in a
  target ← value_in (negsuc 1048575) (pos 1048574) b
  Ok (jal rd target)
jal_in _ = Err Form

-- fence rd, rs1, v
unfoldable pub fence_in : List (List ℕ) → Result Instr LineFault
fence_in (a ∷ b ∷ c ∷ []) = do
  rd ← register_in a
  rs1 ← register_in b
  v ← natural_within 4095 c
  Ok (whole (insns.Fence rd rs1 v))
fence_in _ = Err Form

-- op rd, rs2, (rs1)
unfoldable pub amo_in : AmoOp → Order → List (List ℕ) → Result Instr LineFault
amo_in op order (a ∷ b ∷ c ∷ []) = do
  rd ← register_in a
  rs2 ← register_in b
  rs1 ← base_in c
  Ok (whole (insns.Amo op rd rs1 rs2 order.aq order.rl))
amo_in op order _ = Err Form

-- ecall, ebreak
abbrev pub bare : Insn → List (List ℕ) → Result Instr LineFault
bare insn operands = nothing_in operands >>= λ _. Ok (whole insn)

abbrev pub instruction_in : Mnemonic → Order → List (List ℕ) → Result Instr LineFault
instruction_in (Op op) order operands = op_in op operands
instruction_in (OpImm op) order operands = op_imm_in op operands
instruction_in (Shift op) order operands = shift_in op operands
instruction_in (Load op) order operands = addressed_in (kinds.Load op) operands
instruction_in (Store op) order operands = addressed_in (kinds.Store op) operands
instruction_in (Branch op) order operands = branch_in op operands
instruction_in (Upper op) order operands = upper_insn_in op operands
instruction_in Jal order operands = jal_in operands
instruction_in Jalr order operands = addressed_in kinds.Jalr operands
instruction_in Fence order operands = fence_in operands
instruction_in Ecall order operands = bare insns.Ecall operands
instruction_in Ebreak order operands = bare insns.Ebreak operands
instruction_in (Amo op) order operands = amo_in op order operands

-- ---- directives, read from their operands

-- all operands, read in turn
abbrev pub each : {A : Type 0} → (List ℕ → Result A LineFault) → List (List ℕ) → Result (List A) LineFault
each read [] = Ok []
each read (operand ∷ operands) = do
  x ← read operand
  xs ← each read operands
  Ok (x ∷ xs)

-- a label, or a number that fits in a word, signed or unsigned
abbrev pub word_in : List ℕ → Result Val LineFault
word_in operand = value_in (negsuc 2147483647) (pos 4294967295) operand

-- a byte, signed or unsigned
unfoldable pub byte_in : List ℕ → Result ℕ LineFault
byte_in operand = number_within (negsuc 127) (pos 255) operand >>= λ z. Ok (low_bits (2 ^ 8) z)

abbrev pub count_in : List (List ℕ) → Result ℕ LineFault
count_in (operand ∷ []) = natural_within 1048576 operand
count_in _ = Err Form

unfoldable pub directive_in : Directive → List (List ℕ) → Result Stmt LineFault
directive_in (directives.Section s) operands = nothing_in operands >>= λ _. Ok (section s)
directive_in directives.Word operands = each word_in operands >>= λ vs. Ok (words vs)
directive_in directives.Byte operands = each byte_in operands >>= λ bs. Ok (bytes bs)
directive_in directives.Zero operands = count_in operands >>= λ n. Ok (zeros n)

-- ---- lines

-- the statement of a first word, a directive or a mnemonic, with its operands
abbrev pub chosen : Option Directive → Option (Mnemonic × Order) → List (List ℕ) → Result Stmt LineFault
chosen (Some d) m operands = directive_in d operands
chosen None (Some m) operands = instruction_in m.0 m.1 operands >>= λ i. Ok (instruction i)
chosen None None operands = Err Unknown

unfoldable pub statement_in : (word rest : List ℕ) → Result Stmt LineFault
statement_in word rest = chosen (directive_of word) (mnemonic_of word) (operands_of rest)

-- the statement of a text, whose first word ends at the first blank
abbrev pub statement_parts : List ℕ → Option (List ℕ × List ℕ) → Result Stmt LineFault
statement_parts word None = statement_in word []
statement_parts word (Some parts) = statement_in parts.0 parts.1

-- the statement of a text without a label, or none if the text is blank
unfoldable pub rest_of_line : List ℕ → Result (Option Stmt) LineFault
rest_of_line text =
    if length (trimmed text) == 0 then Ok None
    else (statement_parts (trimmed text) (cut_at is_blank (trimmed text)) >>= λ s. Ok (Some s))

-- the line before its comment
abbrev pub before_comment : List ℕ → Option (List ℕ × List ℕ) → List ℕ
before_comment line None = line
before_comment line (Some parts) = parts.0

-- the label before the first colon, if a name is there, and the text after it
abbrev pub label_parts : List ℕ → Option (List ℕ × List ℕ) → Option (List ℕ) × List ℕ
label_parts text None = (None, text)
label_parts text (Some parts) = if is_name (trimmed parts.0) then (Some (trimmed parts.0), parts.1) else (None, text)

unfoldable pub label_in : List ℕ → Option (List ℕ) × List ℕ
label_in text = label_parts text (cut_at (λ b. b == 58) text)

-- what a text says: a label and a statement, if it has them
unfoldable pub said_in : List ℕ → Result Said LineFault
said_in text = rest_of_line (label_in text).1 >>= λ s. Ok (record { name = (label_in text).0; statement = s })

-- what a line says, given without its LF
unfoldable pub line_of : List ℕ → Result Said LineFault
line_of line = said_in (before_comment line (cut_at (λ b. b == 35) line))

-- ---- the code's types as mathematical values

abbrev pub val_of : Value → Val
val_of (values.Number z) = number z
val_of (values.Label name) = label name.now

abbrev pub instr_of : Instruction → Instr
instr_of (instructions.Whole insn) = whole insn
instr_of (instructions.OpImm op rd rs1 imm) = op_imm op rd rs1 (val_of imm)
instr_of (instructions.Load op rd rs1 imm) = load op rd rs1 (val_of imm)
instr_of (instructions.Store op rs1 rs2 imm) = store op rs1 rs2 (val_of imm)
instr_of (instructions.Branch op rs1 rs2 target) = branch op rs1 rs2 (val_of target)
instr_of (instructions.Upper op rd v) = upper op rd (val_of v)
instr_of (instructions.Jal rd target) = jal rd (val_of target)
instr_of (instructions.Jalr rd rs1 imm) = jalr rd rs1 (val_of imm)

abbrev pub stmt_of : Statement → Stmt
stmt_of (statements.Section s) = section s
stmt_of (statements.Words vs) = words (map val_of vs.items)
stmt_of (statements.Bytes bs) = bytes bs.items
stmt_of (statements.Zeros n) = zeros n
stmt_of (statements.Instruction i) = instruction (instr_of i)

abbrev pub said_of : Line → Said
said_of line = record { name = option_map (λ n. n.now) line.label; statement = option_map stmt_of line.statement }
