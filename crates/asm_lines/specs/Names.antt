-- The words of the language: mnemonics, directives and registers.
use Rattle.std.specs.Prelude.{ℕ, Bool, true, false, List, [], ◌∷◌, ◌++◌, Option, Some, None, option_and_then, codes}
use Rattle.std.specs.Prelude.{find, ◌||◌, if◌then◌else◌, slice_index_or}
use Rattle.std.specs.Str.{bytes_eq}
use Rattle.rv_table.specs.declared.operation.RegisterOp.TheVariants as reg
use Rattle.rv_table.specs.declared.operation.ImmediateOp.TheVariants.{Addi, Slti, Sltiu, Xori, Ori, Andi}
use Rattle.rv_table.specs.declared.operation.ShiftOp.TheVariants.{Slli, Srli, Srai}
use Rattle.rv_table.specs.declared.operation.LoadOp.TheVariants.{Lb, Lh, Lw, Lbu, Lhu}
use Rattle.rv_table.specs.declared.operation.StoreOp.TheVariants.{Sb, Sh, Sw}
use Rattle.rv_table.specs.declared.operation.BranchOp.TheVariants.{Beq, Bne, Blt, Bge, Bltu, Bgeu}
use Rattle.rv_table.specs.declared.operation.UpperOp.TheVariants.{Lui, Auipc}
use Rattle.rv_table.specs.declared.operation.AmoOp.TheVariants as amo
use Rattle.asm_lines.specs.declared.mnemonic.Mnemonic.{Mnemonic}
use Rattle.asm_lines.specs.declared.mnemonic.Mnemonic.TheVariants.{Op, OpImm, Shift, Load, Store, Branch, Upper, Jal}
use Rattle.asm_lines.specs.declared.mnemonic.Mnemonic.TheVariants.{Jalr, Fence, Ecall, Ebreak, Amo}
use Rattle.asm_lines.specs.declared.mnemonic.Order.{Order}
use Rattle.asm_lines.specs.declared.statement.Section.TheVariants.{Code, Local, Shared}
use Rattle.asm_lines.specs.declared.directive.Directive.{Directive}
use Rattle.asm_lines.specs.declared.directive.Directive.TheVariants.{Section, Word, Byte, Zero}
use Rattle.asm_lines.specs.Text.{cut_last_at}

-- ---- mnemonics

-- the text of each mnemonic, without a suffix
abbrev pub name_of : Mnemonic → List ℕ
name_of (Upper Lui) = codes "lui"
name_of (Upper Auipc) = codes "auipc"
name_of Jal = codes "jal"
name_of Jalr = codes "jalr"
name_of (Branch Beq) = codes "beq"
name_of (Branch Bne) = codes "bne"
name_of (Branch Blt) = codes "blt"
name_of (Branch Bge) = codes "bge"
name_of (Branch Bltu) = codes "bltu"
name_of (Branch Bgeu) = codes "bgeu"
name_of (Load Lb) = codes "lb"
name_of (Load Lh) = codes "lh"
name_of (Load Lw) = codes "lw"
name_of (Load Lbu) = codes "lbu"
name_of (Load Lhu) = codes "lhu"
name_of (Store Sb) = codes "sb"
name_of (Store Sh) = codes "sh"
name_of (Store Sw) = codes "sw"
name_of (OpImm Addi) = codes "addi"
name_of (OpImm Slti) = codes "slti"
name_of (OpImm Sltiu) = codes "sltiu"
name_of (OpImm Xori) = codes "xori"
name_of (OpImm Ori) = codes "ori"
name_of (OpImm Andi) = codes "andi"
name_of (Shift Slli) = codes "slli"
name_of (Shift Srli) = codes "srli"
name_of (Shift Srai) = codes "srai"
name_of (Op reg.Add) = codes "add"
name_of (Op reg.Sub) = codes "sub"
name_of (Op reg.Sll) = codes "sll"
name_of (Op reg.Slt) = codes "slt"
name_of (Op reg.Sltu) = codes "sltu"
name_of (Op reg.Xor) = codes "xor"
name_of (Op reg.Srl) = codes "srl"
name_of (Op reg.Sra) = codes "sra"
name_of (Op reg.Or) = codes "or"
name_of (Op reg.And) = codes "and"
name_of Fence = codes "fence"
name_of Ecall = codes "ecall"
name_of Ebreak = codes "ebreak"
name_of (Amo amo.Add) = codes "amoadd.w"
name_of (Amo amo.Swap) = codes "amoswap.w"
name_of (Amo amo.Xor) = codes "amoxor.w"
name_of (Amo amo.Or) = codes "amoor.w"
name_of (Amo amo.And) = codes "amoand.w"
name_of (Amo amo.Min) = codes "amomin.w"
name_of (Amo amo.Max) = codes "amomax.w"
name_of (Amo amo.Minu) = codes "amominu.w"
name_of (Amo amo.Maxu) = codes "amomaxu.w"
name_of (Op reg.Mul) = codes "mul"
name_of (Op reg.Mulh) = codes "mulh"
name_of (Op reg.Mulhsu) = codes "mulhsu"
name_of (Op reg.Mulhu) = codes "mulhu"
name_of (Op reg.Div) = codes "div"
name_of (Op reg.Divu) = codes "divu"
name_of (Op reg.Rem) = codes "rem"
name_of (Op reg.Remu) = codes "remu"

-- the mnemonics of the table of instructions, in its order
abbrev pub mnemonics : List Mnemonic
mnemonics =
    (Upper Lui) ∷
    (Upper Auipc) ∷
    Jal ∷
    Jalr ∷
    (Branch Beq) ∷
    (Branch Bne) ∷
    (Branch Blt) ∷
    (Branch Bge) ∷
    (Branch Bltu) ∷
    (Branch Bgeu) ∷
    (Load Lb) ∷
    (Load Lh) ∷
    (Load Lw) ∷
    (Load Lbu) ∷
    (Load Lhu) ∷
    (Store Sb) ∷
    (Store Sh) ∷
    (Store Sw) ∷
    (OpImm Addi) ∷
    (OpImm Slti) ∷
    (OpImm Sltiu) ∷
    (OpImm Xori) ∷
    (OpImm Ori) ∷
    (OpImm Andi) ∷
    (Shift Slli) ∷
    (Shift Srli) ∷
    (Shift Srai) ∷
    (Op reg.Add) ∷
    (Op reg.Sub) ∷
    (Op reg.Sll) ∷
    (Op reg.Slt) ∷
    (Op reg.Sltu) ∷
    (Op reg.Xor) ∷
    (Op reg.Srl) ∷
    (Op reg.Sra) ∷
    (Op reg.Or) ∷
    (Op reg.And) ∷
    Fence ∷
    Ecall ∷
    Ebreak ∷
    (Amo amo.Add) ∷
    (Amo amo.Swap) ∷
    (Amo amo.Xor) ∷
    (Amo amo.Or) ∷
    (Amo amo.And) ∷
    (Amo amo.Min) ∷
    (Amo amo.Max) ∷
    (Amo amo.Minu) ∷
    (Amo amo.Maxu) ∷
    (Op reg.Mul) ∷
    (Op reg.Mulh) ∷
    (Op reg.Mulhsu) ∷
    (Op reg.Mulhu) ∷
    (Op reg.Div) ∷
    (Op reg.Divu) ∷
    (Op reg.Rem) ∷
    (Op reg.Remu) ∷
    []

-- ---- atomic memory operations

abbrev pub unordered : Order
unordered = record { aq = false; rl = false }

abbrev pub suffix_by : (aq rl : Bool) → List ℕ
suffix_by false false = []
suffix_by true false = codes ".aq"
suffix_by false true = codes ".rl"
suffix_by true true = codes ".aqrl"

-- the suffix of a mnemonic with this ordering
abbrev pub suffix_of : Order → List ℕ
suffix_of order = suffix_by order.aq order.rl

-- a mnemonic with its suffix
abbrev pub written : Mnemonic → Order → List ℕ
written m order = name_of m ++ suffix_of order

-- the ordering with this suffix, which follows the last dot
abbrev pub order_of : List ℕ → Option Order
order_of bytes =
    if bytes_eq bytes (codes "aq") then Some (record { aq = true; rl = false })
    else (if bytes_eq bytes (codes "rl") then Some (record { aq = false; rl = true })
    else (if bytes_eq bytes (codes "aqrl") then Some (record { aq = true; rl = true })
    else None))

-- ---- mnemonics with their suffix

-- the mnemonic that is written as the word, without a suffix
unfoldable pub plain_mnemonic : List ℕ → Option Mnemonic
plain_mnemonic word = find (λ m. bytes_eq (name_of m) word) mnemonics

-- a mnemonic with its ordering, which only an atomic memory operation has
abbrev pub with_order : Option Mnemonic → Option Order → Option (Mnemonic × Order)
with_order (Some (Amo op)) (Some order) = Some (Amo op, order)
with_order _ _ = None

abbrev pub or_ordered : List ℕ → Option Mnemonic → Option (Mnemonic × Order)
or_ordered word (Some m) = Some (m, unordered)
or_ordered word None = option_and_then (λ parts. with_order (plain_mnemonic parts.0) (order_of parts.1))
    (cut_last_at 46 word)

-- the mnemonic that is written as the word, with its ordering
unfoldable pub mnemonic_of : List ℕ → Option (Mnemonic × Order)
mnemonic_of word = or_ordered word (plain_mnemonic word)

-- ---- directives

abbrev pub directive_name : Directive → List ℕ
directive_name (Section Code) = codes ".code"
directive_name (Section Local) = codes ".local"
directive_name (Section Shared) = codes ".shared"
directive_name Word = codes ".word"
directive_name Byte = codes ".byte"
directive_name Zero = codes ".zero"

abbrev pub directives : List Directive
directives = Section Code ∷ Section Local ∷ Section Shared ∷ Word ∷ Byte ∷ Zero ∷ []

-- the directive that is written as the word
unfoldable pub directive_of : List ℕ → Option Directive
directive_of word = find (λ d. bytes_eq (directive_name d) word) directives

-- ---- registers

-- the registers' names, by number and by use
abbrev pub x_names : List (List ℕ)
x_names =
    codes "x0" ∷ codes "x1" ∷ codes "x2" ∷ codes "x3" ∷ codes "x4" ∷ codes "x5" ∷ codes "x6" ∷ codes "x7" ∷
    codes "x8" ∷ codes "x9" ∷ codes "x10" ∷ codes "x11" ∷ codes "x12" ∷ codes "x13" ∷ codes "x14" ∷ codes "x15" ∷
    codes "x16" ∷ codes "x17" ∷ codes "x18" ∷ codes "x19" ∷ codes "x20" ∷ codes "x21" ∷ codes "x22" ∷ codes "x23" ∷
    codes "x24" ∷ codes "x25" ∷ codes "x26" ∷ codes "x27" ∷ codes "x28" ∷ codes "x29" ∷ codes "x30" ∷ codes "x31" ∷
    []

abbrev pub use_names : List (List ℕ)
use_names =
    codes "zero" ∷ codes "ra" ∷ codes "sp" ∷ codes "gp" ∷ codes "tp" ∷ codes "t0" ∷ codes "t1" ∷ codes "t2" ∷
    codes "s0" ∷ codes "s1" ∷ codes "a0" ∷ codes "a1" ∷ codes "a2" ∷ codes "a3" ∷ codes "a4" ∷ codes "a5" ∷
    codes "a6" ∷ codes "a7" ∷ codes "s2" ∷ codes "s3" ∷ codes "s4" ∷ codes "s5" ∷ codes "s6" ∷ codes "s7" ∷
    codes "s8" ∷ codes "s9" ∷ codes "s10" ∷ codes "s11" ∷ codes "t3" ∷ codes "t4" ∷ codes "t5" ∷ codes "t6" ∷
    []

abbrev pub x_name : ℕ → List ℕ
x_name number = slice_index_or x_names number []

abbrev pub use_name : ℕ → List ℕ
use_name number = slice_index_or use_names number []

abbrev pub numbers : List ℕ
numbers =
    0 ∷ 1 ∷ 2 ∷ 3 ∷ 4 ∷ 5 ∷ 6 ∷ 7 ∷ 8 ∷ 9 ∷ 10 ∷ 11 ∷ 12 ∷ 13 ∷ 14 ∷ 15 ∷ 16
    ∷ 17 ∷ 18 ∷ 19 ∷ 20 ∷ 21 ∷ 22 ∷ 23 ∷ 24 ∷ 25 ∷ 26 ∷ 27 ∷ 28 ∷ 29 ∷ 30 ∷ 31 ∷ []

-- the register that is written as the word
unfoldable pub register_of : List ℕ → Option ℕ
register_of word = find (λ number. bytes_eq (x_name number) word || bytes_eq (use_name number) word) numbers
