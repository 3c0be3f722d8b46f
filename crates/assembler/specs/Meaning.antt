-- What a text means: the bytes that its lines place, section by section, and its entry. The lines before a line
-- determine its place; the whole text determines the values of labels.
--
-- The language is this project's own. Source of %hi and %lo: the RISC-V manual, Volume I, "RISC-V Assembly Programmer's
-- Handbook", and "Integer Register-Immediate Instructions" (LUI and AUIPC with a signed low part).
use Rattle.std.specs.Prelude.{◌≡◌, ℕ, ◌+◌, ◌-◌, ◌*◌, ◌/◌, ◌%◌, ◌^◌, ◌<◌, ◌≤◌, Bool, true, false, ◌==◌, ◌&&◌, nat_le}
use Rattle.std.specs.Prelude.{IsOk, List, [], ◌∷◌, ◌++◌, length, replicate, fold, Option, Some, None, ok_or, is_some}
use Rattle.std.specs.Prelude.{Result, Ok, Err, if◌then◌else◌, ℤ, pos, negsuc, ◌-ℤ◌, int_le, codes, slice_get}
use Rattle.std.specs.List.{flat_map, All}
use Rattle.std.specs.Map.{update}
use Rattle.std.specs.Str.{bytes_eq}
use Rattle.std.specs.Int.{w32, to_le_bytes}
use Rattle.rv_table.specs.declared.insn.Insn.{Insn}
use Rattle.rv_table.specs.declared.insn.Insn.TheVariants.{OpImm, Load, Store, Branch, Upper, Jal, Jalr}
use Rattle.decode.specs.Words.{word_of}
use Rattle.elf_image.specs.declared.layout.Layout.{Layout}
use Rattle.asm_lines.specs.declared.statement.Section.{Section}
use Rattle.asm_lines.specs.declared.statement.Section.TheVariants.{Code, Local, Shared}
use Rattle.asm_lines.specs.Text.{parts_at}
use Rattle.asm_lines.specs.Number.{low_bits}
use Rattle.asm_lines.specs.Statements.{Val, number, label, Instr, whole, op_imm, load, store, branch, upper, jal}
use Rattle.asm_lines.specs.Statements.{jalr, Stmt, section, words, bytes, zeros, instruction, Said, line_of}
use Rattle.assembler.specs.declared.fault.AsmFault.{AsmFault}
use Rattle.assembler.specs.declared.fault.AsmFault.TheVariants.{Form, Range, LabelTwice, LabelMissing, SectionFull}
use Rattle.assembler.specs.declared.fault.AsmError.{AsmError}
use Rattle.assembler.specs.declared.symbol.Symbol.{Symbol}
use Rattle.assembler.specs.Faults.{◌>>=◌, lifted}

-- ---- places

-- the symbols of the labels met so far
abbrev pub Labels : Type 0
Labels = List ℕ → Option Symbol

-- the place of a line: the section, how many bytes each section has, and the labels, all before the line
pub record Place : Type 0 where
  pub section : Section
  pub code : ℕ
  pub local : ℕ
  pub shared : ℕ
  pub labels : Labels

-- the place of the first line: in code, with no bytes and no labels
abbrev pub start : Place
start = record { section = Code; code = 0; local = 0; shared = 0; labels = λ _. None }

abbrev pub base_of : Section → ℕ
base_of Code = 0x0001_0000
base_of Local = 0x0002_0000
base_of Shared = 0x8000_0000

abbrev pub room_of : Section → ℕ
room_of Code = 65536
room_of Local = 65536
room_of Shared = 786432

abbrev pub count_of : Section → Place → ℕ
count_of Code at = at.code
count_of Local at = at.local
count_of Shared at = at.shared

-- the address of the next byte
abbrev pub address : Place → ℕ
address at = base_of at.section + count_of at.section at

-- how many bytes a statement places
abbrev pub size_of : Stmt → ℕ
size_of (section s) = 0
size_of (words vs) = 4 * length vs
size_of (bytes bs) = length bs
size_of (zeros n) = n
size_of (instruction i) = 4

-- the place after `n` more bytes of a section
abbrev pub grown : Section → ℕ → Place → Place
grown Code n at = record at { code = at.code + n }
grown Local n at = record at { local = at.local + n }
grown Shared n at = record at { shared = at.shared + n }

-- the place after a statement: a section directive continues its section
abbrev pub after_statement : Place → Stmt → Place
after_statement at (section s) = record at { section = s }
after_statement at s = grown at.section (size_of s) at

abbrev pub after_option : Place → Option Stmt → Place
after_option at None = at
after_option at (Some s) = after_statement at s

-- the place after a label, whose value is the address of the next byte
abbrev pub labelled : Option (List ℕ) → Place → Place
labelled None at = at
labelled (Some name) at =
    record at { labels = update bytes_eq at.labels name (Some (record { section = at.section; address = address at })) }

-- the place after a line; a line that cannot be read places no bytes and has no label
unfoldable pub after_said : Place → Said → Place
after_said at said = after_option (labelled said.name at) said.statement

abbrev pub after_read : {E : Type 0} → Place → Result Said E → Place
after_read at (Ok said) = after_said at said
after_read at (Err f) = at

abbrev pub after : Place → List ℕ → Place
after at line = after_read at (line_of line)

-- ---- the faults of a line that need no label's value

-- a statement at its place
pub record Placed : Type 0 where
  pub section : Section
  pub address : ℕ
  pub statement : Option Stmt

-- a statement at the next byte
abbrev pub placed_at : Place → Option Stmt → Placed
placed_at at s = record { section = at.section; address = address at; statement = s }

abbrev pub unaligned : ℕ → Option AsmFault
unaligned n = if n % 4 == 0 then None else Some Range

-- the fault of a statement at an address: instructions are allowed only in code; they and words need alignment to 4
abbrev pub misplacement : Section → ℕ → Stmt → Option AsmFault
misplacement Code n (instruction i) = unaligned n
misplacement Local n (instruction i) = Some Form
misplacement Shared n (instruction i) = Some Form
misplacement s n (words vs) = unaligned n
misplacement s n (section t) = None
misplacement s n (bytes bs) = None
misplacement s n (zeros m) = None

abbrev pub fit_or_fault : Option AsmFault → Place → Stmt → Result Placed AsmFault
fit_or_fault (Some f) at s = Err f
fit_or_fault None at s =
    if nat_le (count_of at.section at + size_of s) (room_of at.section)
    then Ok (placed_at at (Some s)) else Err SectionFull

abbrev pub place_statement : Place → Option Stmt → Result Placed AsmFault
place_statement at None = Ok (placed_at at None)
place_statement at (Some s) = fit_or_fault (misplacement at.section (address at) s) at s

abbrev pub is_taken : Place → Option (List ℕ) → Bool
is_taken at None = false
is_taken at (Some name) = is_some (at.labels name)

unfoldable pub place_said : Place → Said → Result Placed AsmFault
place_said at said = if is_taken at said.name then Err LabelTwice else place_statement at said.statement

-- a line at its place
abbrev pub place_line : Place → List ℕ → Result Placed AsmFault
place_line at line = lifted (line_of line) >>= place_said at

-- ---- values

abbrev pub value_of : Labels → List ℕ → Result Symbol AsmFault
value_of labels name = ok_or (labels name) LabelMissing

-- %hi(label): the immediate of LUI or AUIPC to which adding %lo(label) gives the value
abbrev pub high_part : ℕ → ℤ
high_part v = pos ((v + 0x800) % 2 ^ 32 / 4096)

-- %lo(label): the low 12 bits, as a signed number
abbrev pub low_part : ℕ → ℤ
low_part v = pos ((v + 0x800) % 4096) -ℤ pos 0x800

-- a number, or what `part` makes of a label's value
abbrev pub part_of : (ℕ → ℤ) → Labels → Val → Result ℤ AsmFault
part_of part labels (number z) = Ok z
part_of part labels (label name) = value_of labels name >>= λ symbol. Ok (part symbol.address)

-- the offset from the instruction's own address
abbrev pub offset_from : (at : ℕ) → ℕ → ℤ
offset_from at v = pos v -ℤ pos at

-- the offset of a target from the instruction's own address, which has to be even and in range
unfoldable pub offset_of : (least most : ℤ) → Labels → (at : ℕ) → Val → Result ℤ AsmFault
offset_of least most labels at target = do
  z ← part_of (offset_from at) labels target
  if int_le least z && int_le z most && (low_bits 2 z == 0) then Ok z else Err Range

-- ---- the fields of an instruction, from a number or a label

abbrev pub lower_field : Labels → Val → Result ℕ AsmFault
lower_field labels v = part_of low_part labels v >>= λ z. Ok (low_bits (2 ^ 12) z)

abbrev pub upper_field : Labels → Val → Result ℕ AsmFault
upper_field labels v = part_of high_part labels v >>= λ z. Ok (low_bits (2 ^ 20) z)

-- a target in steps of two bytes
abbrev pub branch_field : Labels → (at : ℕ) → Val → Result ℕ AsmFault
branch_field labels at v = offset_of (negsuc 4095) (pos 4094) labels at v >>= λ z. Ok (low_bits (2 ^ 13) z / 2)

abbrev pub jump_field : Labels → (at : ℕ) → Val → Result ℕ AsmFault
jump_field labels at v = offset_of (negsuc 1048575) (pos 1048574) labels at v >>= λ z. Ok (low_bits (2 ^ 21) z / 2)

-- an instruction at its address, with the values of its labels
abbrev pub insn_at : Labels → (at : ℕ) → Instr → Result Insn AsmFault
insn_at labels at (whole i) = Ok i
insn_at labels at (op_imm op rd rs1 v) = lower_field labels v >>= λ f. Ok (OpImm op rd rs1 f)
insn_at labels at (load op rd rs1 v) = lower_field labels v >>= λ f. Ok (Load op rd rs1 f)
insn_at labels at (store op rs1 rs2 v) = lower_field labels v >>= λ f. Ok (Store op rs1 rs2 f)
insn_at labels at (branch op rs1 rs2 v) = branch_field labels at v >>= λ f. Ok (Branch op rs1 rs2 f)
insn_at labels at (upper op rd v) = upper_field labels v >>= λ f. Ok (Upper op rd f)
insn_at labels at (jal rd v) = jump_field labels at v >>= λ f. Ok (Jal rd f)
insn_at labels at (jalr rd rs1 v) = lower_field labels v >>= λ f. Ok (Jalr rd rs1 f)

-- ---- bytes

abbrev pub word_bytes : ℕ → List ℕ
word_bytes w = to_le_bytes w32 w

unfoldable pub words_bytes : Labels → List Val → Result (List ℕ) AsmFault
words_bytes labels [] = Ok []
words_bytes labels (v ∷ vs) = do
  z ← part_of pos labels v
  bs ← words_bytes labels vs
  Ok (word_bytes (low_bits (2 ^ 32) z) ++ bs)

abbrev pub statement_bytes : Labels → ℕ → Stmt → Result (List ℕ) AsmFault
statement_bytes labels at (section s) = Ok []
statement_bytes labels at (words vs) = words_bytes labels vs
statement_bytes labels at (bytes bs) = Ok bs
statement_bytes labels at (zeros n) = Ok (replicate n 0)
statement_bytes labels at (instruction i) = insn_at labels at i >>= λ insn. Ok (word_bytes (word_of insn))

abbrev pub option_bytes : Labels → ℕ → Option Stmt → Result (List ℕ) AsmFault
option_bytes labels at None = Ok []
option_bytes labels at (Some s) = statement_bytes labels at s

-- bytes, and their section
abbrev pub Piece : Type 0
Piece = Section × List ℕ

-- what a statement places at its place
unfoldable pub piece_of : Labels → Placed → Result Piece AsmFault
piece_of labels p = option_bytes labels p.address p.statement >>= λ bs. Ok (p.section, bs)

-- ---- the whole text

-- the lines of a text, which end with LF; the last LF is optional, since an empty last line places nothing
abbrev pub lines_of : List ℕ → List (List ℕ)
lines_of text = parts_at 10 text

-- what a line places at its place, or its fault
abbrev pub line_piece : Labels → Place → List ℕ → Result Piece AsmFault
line_piece labels at line = place_line at line >>= piece_of labels

-- what each line places, or its fault, from a place on
abbrev pub pieces_from : Labels → Place → List (List ℕ) → List (Result Piece AsmFault)
pieces_from labels at [] = []
pieces_from labels at (line ∷ lines) = line_piece labels at line ∷ pieces_from labels (after at line) lines

-- each label's value, from the whole text
abbrev pub labels_of : List (List ℕ) → Labels
labels_of lines = (fold after start lines).labels

unfoldable pub pieces_of : List (List ℕ) → List (Result Piece AsmFault)
pieces_of lines = pieces_from (labels_of lines) start lines

-- whether two sections are the same
abbrev pub same_section : Section → Section → Bool
same_section Code Code = true
same_section Local Local = true
same_section Shared Shared = true
same_section _ _ = false

abbrev pub bytes_in : Section → Result Piece AsmFault → List ℕ
bytes_in s (Ok piece) = if same_section s piece.0 then piece.1 else []
bytes_in s (Err f) = []

-- the bytes of a section
abbrev pub section_bytes : Section → List (Result Piece AsmFault) → List ℕ
section_bytes s pieces = flat_map (bytes_in s) pieces

-- the value of `start` if it is a label in code divisible by 4, else the first address of code
abbrev pub entry_of : Option Symbol → ℕ
entry_of None = 0x0001_0000
entry_of (Some symbol) = if same_section symbol.section Code
    && (symbol.address % 4 == 0) then symbol.address else 0x0001_0000

-- The text means the layout: no line has a fault, and each section has the bytes that the lines place.
pub record IsMeaning (text : List ℕ) (layout : Layout) : Type 0 where
  pub faultless : All IsOk (pieces_of (lines_of text))
  pub code : layout.code ≡ section_bytes Code (pieces_of (lines_of text))
  pub local : layout.local ≡ section_bytes Local (pieces_of (lines_of text))
  pub shared : layout.shared ≡ section_bytes Shared (pieces_of (lines_of text))
  pub entry : layout.entry ≡ entry_of (labels_of (lines_of text) (codes "start"))

-- Each section fits into its region.
pub record FitsRegions (layout : Layout) : Type 0 where
  pub code : length layout.code ≤ 65536
  pub local : length layout.local ≤ 65536
  pub shared : length layout.shared ≤ 786432

-- The line, counted from 1, has this fault.
abbrev pub IsPresent : List ℕ → AsmError → Type 0
IsPresent text e = (0 < e.line) × (slice_get (pieces_of (lines_of text)) (e.line - 1) ≡ Some (Err e.fault))
