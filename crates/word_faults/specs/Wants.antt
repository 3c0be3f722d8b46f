-- What the operands of a statement have to be, as in the table of instructions of docs/ASSEMBLER.md.
use Rattle.std.specs.Prelude.{ℕ, Bool, true, false, List, [], ◌∷◌, Option, Some, None, ℤ, pos, negsuc, codes, slice_get}
use Rattle.std.specs.Prelude.{if◌then◌else◌}
use Rattle.asm_lines.specs.declared.mnemonic.Mnemonic.{Mnemonic}
use Rattle.asm_lines.specs.declared.mnemonic.Mnemonic.TheVariants.{Op, OpImm, Load, Store, Jal, Jalr, Ecall, Ebreak}
use Rattle.asm_lines.specs.declared.mnemonic.Mnemonic.TheVariants.{Amo}
use Rattle.asm_lines.specs.declared.mnemonic.Mnemonic.TheVariants as mnemonics
use Rattle.asm_lines.specs.declared.mnemonic.Order.{Order}
use Rattle.asm_lines.specs.declared.directive.Directive.{Directive}
use Rattle.asm_lines.specs.declared.directive.Directive.TheVariants as directives
use Rattle.asm_lines.specs.Names.{directive_of, mnemonic_of}
use Rattle.word_faults.specs.declared.shape.Wanted.{Wanted}
use Rattle.word_faults.specs.declared.shape.Wanted.TheVariants.{Register, Lower, Upper, Shift, Fence, Branch, Jump}
use Rattle.word_faults.specs.declared.shape.Wanted.TheVariants.{Address, Base, Word, Byte, Count}
use Rattle.word_faults.specs.declared.shape.Shape.{Shape}

-- the least and the greatest number that is allowed
abbrev pub range_of : Wanted → ℤ × ℤ
range_of Register = (pos 0, pos 0)
range_of Base = (pos 0, pos 0)
range_of Lower = (negsuc 2047, pos 2047)
range_of Address = (negsuc 2047, pos 2047)
range_of Upper = (pos 0, pos 1048575)
range_of Shift = (pos 0, pos 31)
range_of Fence = (pos 0, pos 4095)
range_of Branch = (negsuc 4095, pos 4094)
range_of Jump = (negsuc 1048575, pos 1048574)
range_of Word = (negsuc 2147483647, pos 4294967295)
range_of Byte = (negsuc 127, pos 255)
range_of Count = (pos 0, pos 1048576)

-- the operands that a first word takes: how they are written, what each has to be, and whether there may be any number
-- like the first
pub record Wants : Type 0 where
  pub form : List ℕ
  pub each : List Wanted
  pub is_list : Bool

abbrev pub wants : List ℕ → List Wanted → Wants
wants form each = record { form = form; each = each; is_list = false }

abbrev pub list_of : Wanted → Wants
list_of wanted = record { form = codes "v, .."; each = wanted ∷ []; is_list = true }

abbrev pub nothing : Wants
nothing = wants [] []

abbrev pub of_directive : Directive → Wants
of_directive (directives.Section s) = nothing
of_directive directives.Word = list_of Word
of_directive directives.Byte = list_of Byte
of_directive directives.Zero = wants (codes "n") (Count ∷ [])

abbrev pub of_mnemonic : Mnemonic → Wants
of_mnemonic (Op op) = wants (codes "rd, rs1, rs2") (Register ∷ Register ∷ Register ∷ [])
of_mnemonic (OpImm op) = wants (codes "rd, rs1, i") (Register ∷ Register ∷ Lower ∷ [])
of_mnemonic (mnemonics.Shift op) = wants (codes "rd, rs1, i") (Register ∷ Register ∷ Shift ∷ [])
of_mnemonic (Load op) = wants (codes "rd, i(rs1)") (Register ∷ Address ∷ [])
of_mnemonic Jalr = wants (codes "rd, i(rs1)") (Register ∷ Address ∷ [])
of_mnemonic (Store op) = wants (codes "rs2, i(rs1)") (Register ∷ Address ∷ [])
of_mnemonic (mnemonics.Branch op) = wants (codes "rs1, rs2, target") (Register ∷ Register ∷ Branch ∷ [])
of_mnemonic (mnemonics.Upper op) = wants (codes "rd, u") (Register ∷ Upper ∷ [])
of_mnemonic Jal = wants (codes "rd, target") (Register ∷ Jump ∷ [])
of_mnemonic mnemonics.Fence = wants (codes "rd, rs1, v") (Register ∷ Register ∷ Fence ∷ [])
of_mnemonic (Amo op) = wants (codes "rd, rs2, (rs1)") (Register ∷ Register ∷ Base ∷ [])
of_mnemonic Ecall = nothing
of_mnemonic Ebreak = nothing

abbrev pub wants_by : Option Directive → Option (Mnemonic × Order) → Option Wants
wants_by (Some d) m = Some (of_directive d)
wants_by None (Some m) = Some (of_mnemonic m.0)
wants_by None None = None

-- the operands that a first word takes, if it is one
unfoldable pub wants_of : List ℕ → Option Wants
wants_of word = wants_by (directive_of word) (mnemonic_of word)

-- what the operand with this number, from 0, has to be
abbrev pub wanted_at : Wants → ℕ → Option Wanted
wanted_at w number = slice_get w.each (if w.is_list then 0 else number)

-- the code's shape as a value
abbrev pub shape_wants : Shape → Wants
shape_wants s = record { form = s.form.now; each = s.operands.now; is_list = s.is_list }
