-- Words of a text, as they are printed.
use Rattle.std.specs.Prelude.{ℕ, List, [], ◌∷◌, ◌++◌, length, take, codes, nat_le, ◌&&◌, if◌then◌else◌}
use Rattle.std.specs.List.{flat_map}
use Rattle.command_io.specs.Digits.{hex_of_bytes}

-- a byte as it is printed: printable ASCII, blanks included, as it is, and any other as two hex digits
abbrev pub shown_byte : ℕ → List ℕ
shown_byte byte = if nat_le 32 byte && nat_le byte 126 then byte ∷ [] else codes "\\x" ++ hex_of_bytes (byte ∷ [])

-- the first 64 bytes of a word, with two dots if there are more
abbrev pub shown : List ℕ → List ℕ
shown word = if nat_le (length word) 64 then flat_map shown_byte word else flat_map shown_byte (take 64 word)
    ++ codes ".."

abbrev pub after_code : List ℕ → List ℕ
after_code [] = []
after_code (b ∷ bs) = codes " " ++ shown (b ∷ bs)
