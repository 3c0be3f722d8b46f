-- The meaning of a file of hex words.
use Rattle.std.specs.Prelude.{ℕ, ◌+◌, ◌==◌, List, [], ◌∷◌, Option, Some, None, Result, Ok, Err, if◌then◌else◌}
use Rattle.std.specs.Int.{w32, from_be_bytes}
use Rattle.hex.specs.declared.error.FromHexError.{FromHexError}
use Rattle.hex.specs.Hex.{decode_sized}

-- the lines after a byte is put before them: it begins the first of them
abbrev pub before_lines : ℕ → List (List ℕ) → List (List ℕ)
before_lines byte [] = (byte ∷ []) ∷ []
before_lines byte (line ∷ lines) = (byte ∷ line) ∷ lines

-- the lines of a text, without the LF (10) that ends each; the last LF may be missing
abbrev pub lines_of : List ℕ → List (List ℕ)
lines_of [] = []
lines_of (byte ∷ text) = if byte == 10 then [] ∷ lines_of text else before_lines byte (lines_of text)

abbrev pub word_of_bytes : Result (List ℕ) FromHexError → Option ℕ
word_of_bytes (Ok bytes) = Some (from_be_bytes w32 bytes)
word_of_bytes (Err error) = None

-- the word that eight hex digits of either case spell, the highest digit first
abbrev pub word_of_line : List ℕ → Option ℕ
word_of_line line = word_of_bytes (decode_sized line 4)

-- the words of lines after the word of one more is put before them, or that line's number if it spells no word
abbrev pub in_front : Option ℕ → ℕ → Result (List ℕ) ℕ → Result (List ℕ) ℕ
in_front None number rest = Err number
in_front (Some word) number (Ok words) = Ok (word ∷ words)
in_front (Some word) number (Err bad) = Err bad

-- the words of lines, with `before` other lines before them, or the number (from 1) of the first bad line: the first
-- that does not spell a word, or the one after the 16,384th
abbrev pub words_of_lines : (before : ℕ) → List (List ℕ) → Result (List ℕ) ℕ
words_of_lines before [] = Ok []
words_of_lines before (line ∷ lines) =
    if before == 16384 then Err 16385 else in_front (word_of_line line) (before + 1) (words_of_lines (before + 1) lines)

abbrev pub words_of_text : List ℕ → Result (List ℕ) ℕ
words_of_text text = words_of_lines 0 (lines_of text)
