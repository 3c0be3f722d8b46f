-- Numbers as they are printed.
use Rattle.std.specs.Prelude.{ℕ, List, [], ◌∷◌, ◌++◌, codes}
use Rattle.std.specs.Int.{w32, to_be_bytes}
use Rattle.std.specs.Fmt.{decimal}
use Rattle.hex.specs.Hex.{encode_lower}
use Rattle.flat_machine.specs.declared.event.Status.{Status}
use Rattle.flat_machine.specs.declared.event.Status.TheVariants.{Running, Halted, Faulted}
use Rattle.flat_machine.specs.State.{number_of_fault}

-- each byte as two lower-case hex digits
abbrev pub hex_of_bytes : List ℕ → List ℕ
hex_of_bytes bytes = encode_lower bytes

-- eight hex digits, most significant first
abbrev pub hex_of_word : ℕ → List ℕ
hex_of_word word = hex_of_bytes (to_be_bytes w32 word)

-- two hex digits
abbrev pub hex_of_byte : ℕ → List ℕ
hex_of_byte byte = hex_of_bytes (byte ∷ [])

-- the end of a line
abbrev pub line_feed : List ℕ
line_feed = 10 ∷ []

-- the status of a processor
abbrev pub status_text : Status → List ℕ
status_text Running = codes "run"
status_text (Halted byte) = codes "halt " ++ hex_of_byte byte
status_text (Faulted fault) = codes "fault " ++ decimal (number_of_fault fault)
