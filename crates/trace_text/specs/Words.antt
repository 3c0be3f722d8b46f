-- The words of a line, and the numbers that words say.
use Rattle.std.specs.Prelude.{ℕ, Bool, ◌==◌, List, [], ◌∷◌, length, filter, not, Option, Some, None, Result, Ok, Err}
use Rattle.std.specs.Int.{w32, from_be_bytes}
use Rattle.std.specs.List.{before_first, slice_split}
use Rattle.hex.specs.declared.error.FromHexError.{FromHexError}
use Rattle.hex.specs.Hex.{decode_sized}
use Rattle.asm_lines.specs.Text.{is_blank}
use Rattle.asm_lines.specs.Number.{natural_within}
use Rattle.asm_lines.specs.declared.fault.LineFault.{LineFault}
use Rattle.asm_lines.specs.declared.fault.LineFault.TheVariants as number_fault
use Rattle.trace_text.specs.declared.fault.TextFault.{TextFault}
use Rattle.trace_text.specs.declared.fault.TextFault.TheVariants as fault

-- whether a part of a line is not empty
abbrev pub is_word : List ℕ → Bool
is_word part = not (length part == 0)

-- the words of a line: the parts between its blanks, up to a `#`, that are not empty
unfoldable pub words_of : List ℕ → List (List ℕ)
words_of line = filter is_word (slice_split is_blank (before_first (λ b. b == 35) line))

-- ---- steps that may fail

infixl 10 ◌>>=◌
abbrev pub ◌>>=◌ : {A B E : Type 0} → Result A E → (A → Result B E) → Result B E
(Ok x) >>= f = f x
(Err e) >>= f = Err e

-- ---- numbers

abbrev pub fault_of_number : LineFault → TextFault
fault_of_number number_fault.Range = fault.Range
fault_of_number number_fault.Form = fault.Form
fault_of_number number_fault.Unknown = fault.Form

abbrev pub number_or_fault : Result ℕ LineFault → Result ℕ TextFault
number_or_fault (Ok n) = Ok n
number_or_fault (Err e) = Err (fault_of_number e)

-- the number from 0 to 255 that a word says, as assembler texts say it
unfoldable pub number_in : List ℕ → Result ℕ TextFault
number_in word = number_or_fault (natural_within 255 word)

abbrev pub word_of_bytes : Result (List ℕ) FromHexError → Option ℕ
word_of_bytes (Ok bytes) = Some (from_be_bytes w32 bytes)
word_of_bytes (Err e) = None

-- the value or address of eight hex digits, the highest first
unfoldable pub hex_word_in : List ℕ → Option ℕ
hex_word_in word = word_of_bytes (decode_sized word 4)

abbrev pub byte_of_bytes : Result (List ℕ) FromHexError → Option ℕ
byte_of_bytes (Ok (byte ∷ [])) = Some byte
byte_of_bytes (Ok other) = None
byte_of_bytes (Err e) = None

-- the byte of two hex digits
unfoldable pub hex_byte_in : List ℕ → Option ℕ
hex_byte_in word = byte_of_bytes (decode_sized word 1)
