-- Lines with the names of their addresses, and with values in decimal.
use Rattle.std.specs.Prelude.{◌≡◌, ℕ, ◌+◌, ◌*◌, ◌^◌, ◌||◌, nat_lt, Bool, true, false, List, [], ◌∷◌, ◌++◌, Option}
use Rattle.std.specs.Prelude.{Some, None, bytes_eq, codes, flat_map, if◌then◌else◌, option_and_then}
use Rattle.std.specs.Option.{option_map_or, option_or}
use Rattle.line_formats.specs.Decimals.{decimal_text}
use Rattle.line_formats.specs.Instructions.{instruction_text}
use Rattle.line_shapes.specs.Numbers.{decimal_value, word_value}
use Rattle.line_shapes.specs.Parts.{cuts_of, shape_of}
use Rattle.line_formats.specs.Places.{NamedPlace, place_between}
use Rattle.line_shapes.specs.declared.shape.Kind.{Kind}
use Rattle.line_shapes.specs.declared.shape.Kind.TheVariants as kinds
use Rattle.line_shapes.specs.declared.shape.Part.{Part}
use Rattle.line_shapes.specs.declared.shape.Part.TheVariants as part
use Rattle.line_shapes.specs.declared.shape.Shape.{Shape}

-- ---- addresses

-- the address of the shared word with this number, if it has one
abbrev pub address_of_number : ℕ → Option ℕ
address_of_number number = if nat_lt number (2 ^ 29) then Some (0x8000_0000 + 4 * number) else None

-- the address of the shared word whose number is this text
abbrev pub address_of_word : List ℕ → Option ℕ
address_of_word text = option_and_then address_of_number (decimal_value text)

-- whether a field of this name has an address
abbrev pub is_address : (name : List ℕ) → Bool
is_address name = bytes_eq name (codes "pc") || bytes_eq name (codes "address")

-- ---- lines

-- what is printed after a field: the place of its address, or of its shared word
abbrev pub place_after : (place : ℕ → Option NamedPlace) → (name : List ℕ) → Kind → (text : List ℕ) → List ℕ
place_after place name kinds.Word text =
    if is_address name then place_between (codes " <") (codes ">") (option_and_then place (word_value text)) else []
place_after place name kinds.Number text =
    if bytes_eq name (codes "word")
    then place_between (codes " (") (codes ")") (option_and_then place (address_of_word text))
    else []
place_after place name other text = []

-- how fields are written: instructions, and values
pub record Writing : Type 0 where
  pub insn : List ℕ → List ℕ
  pub value : List ℕ → List ℕ

-- the text of a field
abbrev pub field_text : Writing → (name : List ℕ) → Kind → (text : List ℕ) → List ℕ
field_text w name kinds.Text text = if bytes_eq name (codes "instruction") then w.insn text else text
field_text w name kinds.Word text = if is_address name then text else w.value text
field_text w name kinds.Words text = w.value text
field_text w name kinds.Function text = w.value text
field_text w name other text = text

-- a part with its field, and the place of its field
abbrev pub named_part : (place : ℕ → Option NamedPlace) → Writing → Part → (text : List ℕ) → List ℕ
named_part place w (part.Literal word) text = word.now
named_part place w (part.Field word name kind) text =
    word.now ++ field_text w name.now kind text ++ place_after place name.now kind text

-- a line that has these parts, with names
abbrev pub named_parts : (place : ℕ → Option NamedPlace) → Writing → List (Part × List ℕ) → List ℕ
named_parts place w cuts = flat_map (λ c. named_part place w c.0 c.1) cuts

-- ---- the address of a line

-- the address that a part has, if it is the field `address`
abbrev pub part_address : Part → (text : List ℕ) → Option ℕ
part_address (part.Literal word) text = None
part_address (part.Field word name kind) text = if bytes_eq name.now (codes "address") then word_value text else None

-- the address of the first part that has one
abbrev pub line_address : List (Part × List ℕ) → Option ℕ
line_address [] = None
line_address (c ∷ cuts) = option_or (part_address c.0 c.1) (line_address cuts)

-- ---- lines

-- how an instruction is written in the line with this address: with names, if that is wanted
abbrev pub insn_text : (place : ℕ → Option NamedPlace) → (wanted : Bool) → (address : Option ℕ) → (text : List ℕ) →
    List ℕ
insn_text place false address text = text
insn_text place true address text = instruction_text place address text

-- how a value is written: in decimal, if that is wanted
abbrev pub value_text : (wanted : Bool) → (text : List ℕ) → List ℕ
value_text false text = text
value_text true text = decimal_text text

-- how the fields of the line with this address are written
abbrev pub writing : (place : ℕ → Option NamedPlace) → (abi decimal : Bool) → (address : Option ℕ) → Writing
writing place abi decimal address = record { insn = insn_text place abi address; value = value_text decimal }

-- A line with names, by the first of these shapes that it has. A line that has none goes as it is.
unfoldable pub named_line : (place : ℕ → Option NamedPlace) → (abi decimal : Bool) → List Shape → (line : List ℕ) →
    List ℕ
named_line place abi decimal shapes line =
    option_map_or
    (λ s. let cuts = cuts_of s.1.now line in named_parts place (writing place abi decimal (line_address cuts)) cuts)
    (shape_of shapes line)
    line

-- ---- a law

-- With no place for any address, and with instructions and values as they are, each line goes as it is.
abbrev pub LinesStay : Type 0
LinesStay = (shapes : List Shape) (line : List ℕ) → named_line (λ address. None) false false shapes line ≡ line
