-- Instructions with registers by the names of their use, and with the addresses to which they jump.
use Rattle.std.specs.Prelude.{ℕ, ◌+◌, ◌-◌, ◌%◌, ◌^◌, ◌||◌, Bool, List, [], ◌∷◌, ◌++◌}
use Rattle.std.specs.Prelude.{Option, None, bytes_eq, codes, if◌then◌else◌}
use Rattle.std.specs.Int.{w32, to_be_bytes}
use Rattle.std.specs.Option.{option_map, option_map_or}
use Rattle.asm_lines.specs.Names.{register_of, use_name}
use Rattle.hex.specs.Hex.{encode_lower}
use Rattle.line_shapes.specs.Cuts.{after, is_nil, upto, words_of}
use Rattle.line_shapes.specs.Numbers.{decimal_value}
use Rattle.line_formats.specs.Places.{NamedPlace, place_between}

-- ---- registers

-- a register by the name of its use (RISC-V calling convention), and any other word as it is
abbrev pub operand_text : List ℕ → List ℕ
operand_text word = option_map_or use_name (register_of word) word

-- what stands between brackets: a register
abbrev pub in_brackets : (rest : List ℕ) → List ℕ
in_brackets rest =
    option_map_or (λ inside. option_map_or (λ x. codes "(" ++ operand_text x.0 ++ x.1) (upto (codes ")") inside) rest)
    (after (codes "(") rest)
    rest

-- a word that is no operand followed by a comma: an address `IMM(REGISTER)`, or an operand alone
abbrev pub last_operand_text : List ℕ → List ℕ
last_operand_text word = option_map_or (λ x. x.0 ++ in_brackets x.1) (upto (codes "(") word) (operand_text word)

-- a word of an instruction: an operand and its comma, or another
abbrev pub word_text : List ℕ → List ℕ
word_text word = option_map_or (λ x. operand_text x.0 ++ x.1) (upto (codes ",") word) (last_operand_text word)

-- ---- jumps

-- whether an instruction with this name jumps by the offset in its last operand
abbrev pub is_jump : (mnemonic : List ℕ) → Bool
is_jump mnemonic =
    bytes_eq mnemonic (codes "beq") || bytes_eq mnemonic (codes "bne") || bytes_eq mnemonic (codes "blt")
    || bytes_eq mnemonic (codes "bge") || bytes_eq mnemonic (codes "bltu") || bytes_eq mnemonic (codes "bgeu")
    || bytes_eq mnemonic (codes "jal")

-- the address to which an offset, such as `-8` or `12`, leads from an address
abbrev pub target_of : (origin : ℕ) → (offset : List ℕ) → Option ℕ
target_of origin offset =
    option_map_or
    (λ digits. option_map (λ n. (origin + (2 ^ 32 - n)) % 2 ^ 32) (decimal_value digits))
    (after (codes "-") offset)
    (option_map (λ n. (origin + n) % 2 ^ 32) (decimal_value offset))

-- an address in eight hex digits, and its place
abbrev pub target_text : (place : ℕ → Option NamedPlace) → (address : ℕ) → List ℕ
target_text place address =
    encode_lower (to_be_bytes w32 address) ++ place_between (codes " <") (codes ">") (place address)

-- the target in place of the offset, if that is a number
abbrev pub jump_text : (place : ℕ → Option NamedPlace) → (origin : ℕ) → (offset : List ℕ) → List ℕ
jump_text place origin offset = option_map_or (target_text place) (target_of origin offset) offset

-- ---- instructions

-- the address from which an instruction jumps, if it does
abbrev pub origin_of : (address : Option ℕ) → (mnemonic : List ℕ) → Option ℕ
origin_of address mnemonic = if is_jump mnemonic then address else None

-- the last word of an instruction
abbrev pub last_word_text : (place : ℕ → Option NamedPlace) → (origin : Option ℕ) → (word : List ℕ) → List ℕ
last_word_text place origin word =
    option_map_or (λ address. jump_text place address word) origin (last_operand_text word)

-- the words of an instruction, the last of them by a rule of its own
abbrev pub words_text : (last : List ℕ → List ℕ) → (words : List (List ℕ)) → List ℕ
words_text last [] = []
words_text last (word ∷ words) =
    if is_nil words then last word else word_text word ++ codes " " ++ words_text last words

abbrev pub first_of : List (List ℕ) → List ℕ
first_of [] = []
first_of (word ∷ words) = word

-- the text of an instruction at an address, if its address is known
unfoldable pub instruction_text : (place : ℕ → Option NamedPlace) → (address : Option ℕ) → (text : List ℕ) → List ℕ
instruction_text place address text =
    words_text (last_word_text place (origin_of address (first_of (words_of text)))) (words_of text)
