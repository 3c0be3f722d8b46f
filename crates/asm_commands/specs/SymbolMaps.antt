-- What `ultra asm --symbols` writes: the labels of a text by address, one a line, as `nm -S` prints symbols.
--
-- Source: the manual page of GNU nm. A line has the value of a symbol and its size in hex digits, a letter for its
-- type, and its name. The letter is `t` in a section of code and `d` in one of data, for symbols that no other file
-- sees.
use Rattle.std.specs.Prelude.{◌≡◌, ℕ, ◌+◌, ◌-◌, ◌%◌, ◌^◌, ◌==◌, List, [], ◌∷◌, ◌++◌, codes, filter, filter_map}
use Rattle.std.specs.Prelude.{fold, map, min, Option, None, Result, Ok, Err, option_and_then, option_map}
use Rattle.std.specs.List.{flat_map}
use Rattle.std.specs.List.Sorted.{IsNonDecreasingBy}
use Rattle.asm_lines.specs.declared.statement.Section.{Section}
use Rattle.asm_lines.specs.declared.statement.Section.TheVariants.{Code, Local, Shared}
use Rattle.asm_lines.specs.declared.fault.LineFault.{LineFault}
use Rattle.asm_lines.specs.Statements.{Said, line_of}
use Rattle.assembler.specs.declared.symbol.Symbol.{Symbol}
use Rattle.assembler.specs.Meaning.{Labels, Place, start, after, base_of, count_of, labels_of, lines_of}
use Rattle.command_io.specs.Digits.{hex_of_word, line_feed}
use Rattle.asm_commands.specs.declared.text_label.TextLabel.{TextLabel}
use Rattle.fault_lists.specs.Words.{shown_byte}

-- ---- the labels of a text

-- a label, with its section and value
pub record LabelRow : Type 0 where
  pub name : List ℕ
  pub symbol : Symbol

abbrev pub row_of : TextLabel → LabelRow
row_of l = record { name = l.name.now; symbol = record { section = l.section; address = l.address } }

-- a label with the value that it has, if it has one
abbrev pub row_with : Labels → (name : List ℕ) → Option LabelRow
row_with labels name = option_map (λ symbol. record { name = name; symbol = symbol }) (labels name)

abbrev pub row_of_said : Labels → Result Said LineFault → Option LabelRow
row_of_said labels (Ok said) = option_and_then (row_with labels) said.name
row_of_said labels (Err f) = None

-- the label of a line, if it has one
abbrev pub row_of_line : Labels → (line : List ℕ) → Option LabelRow
row_of_line labels line = row_of_said labels (line_of line)

-- the labels of lines in their order, each with its value in the whole text
abbrev pub label_rows : (lines : List (List ℕ)) → List LabelRow
label_rows lines = filter_map (row_of_line (labels_of lines)) lines

-- ---- by address

-- the labels with this value
abbrev pub labels_at : (address : ℕ) → List TextLabel → List TextLabel
labels_at address labels = filter (λ label. address == label.address) labels

-- the letter for the type of a symbol in a section, between blanks
abbrev pub type_text : Section → List ℕ
type_text Code = codes " t "
type_text Local = codes " d "
type_text Shared = codes " d "

-- eight hex digits
abbrev pub number_text : ℕ → List ℕ
number_text n = hex_of_word (n % 2 ^ 32)

-- `AAAAAAAA SSSSSSSS T NAME` of a label whose bytes end at this address
abbrev pub label_line : (end : ℕ) → TextLabel → List ℕ
label_line end l = number_text l.address ++ codes " " ++ number_text (end - l.address) ++ type_text l.section
    ++ flat_map shown_byte l.name.now ++ line_feed

-- the address after the last byte of a section, at the end of a text
abbrev pub end_of : Place → Section → ℕ
end_of at s = base_of s + count_of s at

-- where the bytes of a label end: at the first of the labels after it, and not past the end of its section
abbrev pub end_before : Place → Section → List TextLabel → ℕ
end_before at s [] = end_of at s
end_before at s (next ∷ rest) = min next.address (end_of at s)

-- the lines of labels, which are by address
abbrev pub label_lines : Place → List TextLabel → List ℕ
label_lines at [] = []
label_lines at (l ∷ rest) = label_line (end_before at l.section rest) l ++ label_lines at rest

-- the place after the last line of a text
abbrev pub end_place : (text : List ℕ) → Place
end_place text = fold after start (lines_of text)

-- The printed bytes have a line for each label of the text, by address. Labels at one address stay in their order.
pub record IsSymbolMap (text printed : List ℕ) : Type 0 where
  pub labels : List TextLabel
  pub all : map row_of labels ≡ label_rows (lines_of text)
  pub sorted : List TextLabel
  pub order : IsNonDecreasingBy (λ (l : TextLabel). l.address) sorted
  pub same : (address : ℕ) → labels_at address sorted ≡ labels_at address labels
  pub lines : printed ≡ label_lines (end_place text) sorted
