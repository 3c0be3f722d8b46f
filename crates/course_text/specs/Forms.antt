-- Forms of the plain grammar's own instructions that only course texts have.
use Rattle.std.specs.Prelude.{ℕ, ◌+◌, ◌*◌, ◌==◌, ◌&&◌, nat_lt, List, [], ◌∷◌, ◌++◌, codes, slice_index, is_some}
use Rattle.std.specs.Prelude.{Option, Some, None, option_and_then, if◌then◌else◌, drop}
use Rattle.std.specs.Fmt.{decimal}
use Rattle.std.specs.Option.{option_map}
use Rattle.asm_lines.specs.declared.mnemonic.Mnemonic.{Mnemonic}
use Rattle.asm_lines.specs.declared.mnemonic.Mnemonic.TheVariants.{Op, OpImm, Shift, Load, Store, Branch, Upper, Jal}
use Rattle.asm_lines.specs.declared.mnemonic.Mnemonic.TheVariants.{Jalr, Fence, Ecall, Ebreak, Amo}
use Rattle.asm_lines.specs.declared.mnemonic.Order.{Order}
use Rattle.asm_lines.specs.Names.{register_of}
use Rattle.asm_lines.specs.Statements.{is_name}
use Rattle.course_text.specs.Templates.{filled}

-- a load or a store at `(rs1)`, without a number
abbrev pub at_base : (address : List ℕ) → Option (List ℕ)
at_base address = if slice_index address 0 == 40 then Some (codes "@ A, 0B") else None

-- `lw rd, label` and `lw rd, (rs1)`
abbrev pub load_form : (words : List (List ℕ)) → Option (List ℕ)
load_form (w ∷ rd ∷ address ∷ []) =
    if is_name address then Some (codes "lui A, %hi(B)" ++ (10 ∷ codes "@ A, %lo(B)(A)")) else at_base address
load_form _ = None

abbrev pub store_at : (name : List ℕ) → Option (List ℕ)
store_at name =
    if is_name name then Some (codes "lui C, %hi(B)" ++ (10 ∷ codes "@ A, %lo(B)(C)")) else None

-- `sw rs2, label, rt` and `sw rs2, (rs1)`
abbrev pub store_form : (words : List (List ℕ)) → Option (List ℕ)
store_form (w ∷ rs2 ∷ address ∷ []) = at_base address
store_form (w ∷ rs2 ∷ name ∷ rt ∷ []) = store_at name
store_form _ = None

-- `jal target`
abbrev pub jal_form : (words : List (List ℕ)) → Option (List ℕ)
jal_form (w ∷ target ∷ []) = Some (codes "jal ra, A")
jal_form _ = None

abbrev pub jalr_to : (operand : List ℕ) → Option (List ℕ)
jalr_to operand = if is_some (register_of operand) then Some (codes "jalr A, 0(B)") else at_base operand

-- `jalr rs1`, `jalr rd, rs1`, `jalr rd, (rs1)` and `jalr rd, rs1, i`
abbrev pub jalr_form : (words : List (List ℕ)) → Option (List ℕ)
jalr_form (w ∷ rs1 ∷ []) = Some (codes "jalr ra, 0(A)")
jalr_form (w ∷ rd ∷ rs1 ∷ []) = jalr_to rs1
jalr_form (w ∷ rd ∷ rs1 ∷ i ∷ []) = Some (codes "jalr A, C(B)")
jalr_form _ = None

-- an atomic memory operation at `0(rs1)`
abbrev pub amo_form : (words : List (List ℕ)) → Option (List ℕ)
amo_form (w ∷ rd ∷ rs2 ∷ address ∷ []) =
    if (slice_index address 0 == 48) && (slice_index address 1 == 40)
    then Some (filled (w ∷ rd ∷ rs2 ∷ drop 1 address ∷ []) (codes "@ A, B, C")) else None
amo_form _ = None

-- ---- fences

-- the bit of a letter: i (device input), o (device output), r (memory reads), w (memory writes)
abbrev pub bit_of : ℕ → Option ℕ
bit_of b =
    if b == 105 then Some 8 else (if b == 111 then Some 4 else (if b == 114 then Some 2 else (if b == 119 then Some 1
    else None)))

-- the bits of letters in this order, after letters with these bits, the last of which has the bit `last`
abbrev pub bits_after : (last bits : ℕ) → List ℕ → Option ℕ
bits_after last bits [] = Some bits
bits_after last bits (b ∷ bs) =
    option_and_then (λ bit. if nat_lt bit last then bits_after bit (bits + bit) bs else None) (bit_of b)

-- the bits of a set: at least one of the letters i, o, r, w, in this order
unfoldable pub set_of : List ℕ → Option ℕ
set_of [] = None
set_of (b ∷ bs) = bits_after 16 0 (b ∷ bs)

-- `fence`, and `fence predecessor, successor`
abbrev pub fence_bits : (words : List (List ℕ)) → Option ℕ
fence_bits (w ∷ []) = Some 255
fence_bits (w ∷ predecessor ∷ successor ∷ []) =
    option_and_then (λ p. option_map (λ s. 16 * p + s) (set_of successor)) (set_of predecessor)
fence_bits _ = None

abbrev pub fence_text : ℕ → List ℕ
fence_text bits = codes "fence x0, x0, " ++ decimal bits

-- ---- all forms

-- the plain line of a form of this instruction
abbrev pub form_of : Mnemonic → (words : List (List ℕ)) → Option (List ℕ)
form_of (Load op) words = option_map (filled words) (load_form words)
form_of (Store op) words = option_map (filled words) (store_form words)
form_of Jal words = option_map (filled words) (jal_form words)
form_of Jalr words = option_map (filled words) (jalr_form words)
form_of (Amo op) words = amo_form words
form_of Fence words = option_map fence_text (fence_bits words)
form_of (Op op) words = None
form_of (OpImm op) words = None
form_of (Shift op) words = None
form_of (Branch op) words = None
form_of (Upper op) words = None
form_of Ecall words = None
form_of Ebreak words = None

abbrev pub form_text : Option (Mnemonic × Order) → (words : List (List ℕ)) → Option (List ℕ)
form_text None words = None
form_text (Some m) words = form_of m.0 words
