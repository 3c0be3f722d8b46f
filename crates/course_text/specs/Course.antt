-- What a course text says: its plain text, line by line.
use Rattle.std.specs.Prelude.{ℕ, ◌+◌, List, [], ◌∷◌, ◌++◌, codes, length, replicate, drop, is_ok}
use Rattle.std.specs.Prelude.{Option, Some, None, if◌then◌else◌, slice_index, ◌-◌}
use Rattle.std.specs.List.{flat_map, starts_with}
use Rattle.std.specs.Prelude.{nat_eq, ◌||◌}
use Rattle.std.specs.Option.{option_map_or}
use Rattle.std.specs.Str.{bytes_eq}
use Rattle.asm_lines.specs.Names.{mnemonic_of}
use Rattle.asm_lines.specs.Statements.{line_of}
use Rattle.asm_lines.specs.Text.{parts_at}
use Rattle.course_text.specs.declared.place.Place.{Place}
use Rattle.course_text.specs.declared.table.Word.{Word}
use Rattle.course_text.specs.declared.table.Word.TheVariants as kinds
use Rattle.course_text.specs.Parts.{Parts, parts_of, given}
use Rattle.course_text.specs.Table.{course_word}
use Rattle.course_text.specs.Templates.{row_text}
use Rattle.course_text.specs.Forms.{form_text}
use Rattle.course_text.specs.Numbers.{li_text, constant_text, align_text, balign_text, wrong_form}
use Rattle.course_text.specs.Constants.{Constants, constants_of, defines, replaced}
use Rattle.course_text.specs.Places.{start, count, after_text}

-- ---- one line

-- a section, by the beginning of its name
abbrev pub section_named : (name : List ℕ) → Option (List ℕ)
section_named name =
    if starts_with nat_eq name (codes ".text") || starts_with nat_eq name (codes ".rodata") then Some (codes ".code")
    else (if starts_with nat_eq name (codes ".data") || starts_with nat_eq name (codes ".bss")
    || starts_with nat_eq name (codes ".sdata") || starts_with nat_eq name (codes ".sbss") then Some (codes ".shared")
    else (if starts_with nat_eq name (codes ".local") then Some (codes ".local") else None))

abbrev pub section_text : (words : List (List ℕ)) → Option (List ℕ)
section_text (w ∷ name ∷ flags) = section_named name
section_text _ = Some wrong_form

-- the plain statement of a word of course texts and its operands, after this many bytes of the section
abbrev pub by_word : (count : ℕ) → (words : List (List ℕ)) → Word → Option (List ℕ)
by_word count words (kinds.Row row) = Some (row_text row words)
by_word count words (kinds.Silent silent) = Some []
by_word count words kinds.Li = Some (li_text words)
by_word count words kinds.DotEqu = Some (constant_text words)
by_word count words kinds.DotSet = Some (constant_text words)
by_word count words kinds.DotAlign = Some (align_text count words)
by_word count words kinds.DotP2align = Some (align_text count words)
by_word count words kinds.DotBalign = Some (balign_text count words)
by_word count words kinds.DotSection = section_text words

abbrev pub by_words : (count : ℕ) → (word : List ℕ) → (words : List (List ℕ)) → Option Word → Option (List ℕ)
by_words count word words (Some w) = by_word count words w
by_words count word words None = form_text (mnemonic_of word) words

-- the plain statement of a first word and the text after it, if it is one of course texts
unfoldable pub statement_text : (count : ℕ) → (word rest : List ℕ) → Option (List ℕ)
statement_text count word rest = by_words count word (word ∷ given rest) (course_word word)

-- a label with its colon
abbrev pub lead : Option (List ℕ) → List ℕ
lead name = option_map_or (λ n. n ++ codes ": ") name []

-- the text of the operands, with numbers for constants
abbrev pub operand_text : Constants → Parts → List ℕ
operand_text constants p =
    if defines (course_word p.word) then p.rest else replaced constants p.rest

-- the line itself if it names no constant
abbrev pub with_numbers : (line : List ℕ) → Parts → (rest : List ℕ) → List ℕ
with_numbers line p rest =
    if bytes_eq rest p.rest then line else lead p.name ++ (p.word ++ (codes " " ++ rest))

-- A line that the plain grammar reads is itself. Any other is rewritten if it has a word or a form of course texts.
abbrev pub unless_plain : (at : Place) → Parts → (rest line : List ℕ) → List ℕ
unless_plain at p rest line =
    if is_ok (line_of line) then line
    else option_map_or (λ text. lead p.name ++ text) (statement_text (count at) p.word rest) line

-- the plain line or lines of a course line at its place, with LF between two lines
unfoldable pub plain_line : Constants → (at : Place) → (line : List ℕ) → List ℕ
plain_line constants at line =
    let p = parts_of line in
    let rest = operand_text constants p in
    unless_plain at p rest (with_numbers line p rest)

-- ---- the whole text

-- the plain lines of each course line
abbrev pub plain_from : Constants → (at : Place) → (lines : List (List ℕ)) → List (List ℕ)
plain_from constants at [] = []
plain_from constants at (line ∷ lines) =
    plain_line constants at line ∷ plain_from constants (after_text at (plain_line constants at line)) lines

abbrev pub plain_lines : (text : List ℕ) → List (List ℕ)
plain_lines text = plain_from (constants_of (parts_at 10 text)) start (parts_at 10 text)

abbrev pub after_feed : (line : List ℕ) → List ℕ
after_feed line = 10 ∷ line

-- the plain text of a course text
unfoldable pub plain_text : (text : List ℕ) → List ℕ
plain_text text = drop 1 (flat_map after_feed (plain_lines text))

-- the course line of each plain line, counted from 1
abbrev pub origins_from : (number : ℕ) → (plain : List (List ℕ)) → List ℕ
origins_from number [] = []
origins_from number (text ∷ texts) = replicate (length (parts_at 10 text)) number ++ origins_from (number + 1) texts

unfoldable pub origins : (text : List ℕ) → List ℕ
origins text = origins_from 1 (plain_lines text)

-- the course line of a plain line, both counted from 1
abbrev pub origin : (text : List ℕ) → (line : ℕ) → ℕ
origin text line = slice_index (origins text) (line - 1)
