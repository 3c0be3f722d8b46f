-- The lines of a report.
use Rattle.std.specs.Prelude.{ℕ, ◌==◌, List, [], ◌∷◌, ◌++◌, codes, if◌then◌else◌}
use Rattle.std.specs.Fmt.{decimal}
use Rattle.flat_machine.specs.declared.event.Status.{Status}
use Rattle.command_io.specs.Digits.{hex_of_bytes, hex_of_word, line_feed, status_text}
use Rattle.command_io.specs.Tallies.{ShownBy}

-- two hex digits for each byte, or `-` if there are none
abbrev pub console_text : List ℕ → List ℕ
console_text [] = codes "-"
console_text (byte ∷ bytes) = hex_of_bytes (byte ∷ bytes)

-- `processor P pc VVVVVVVV STATUS retired N console HEX`
unfoldable pub processor_line : (number pc : ℕ) → Status → ShownBy → List ℕ
processor_line number pc status shown =
    codes "processor " ++ decimal number ++ codes " pc " ++ hex_of_word pc ++ codes " " ++ status_text status
    ++ codes " retired " ++ decimal shown.retired ++ codes " console " ++ console_text shown.console ++ line_feed

-- `word I VVVVVVVV`
unfoldable pub word_line : (number word : ℕ) → List ℕ
word_line number word = codes "word " ++ decimal number ++ codes " " ++ hex_of_word word ++ line_feed

-- the line of a word; a word that is zero has none
abbrev pub word_lines : (number word : ℕ) → List ℕ
word_lines number word = if word == 0 then [] else word_line number word
