-- The numbers that digits spell.
use Rattle.std.specs.Prelude.{ℕ, ◌+◌, ◌-◌, ◌*◌, ◌==◌, ◌&&◌, nat_le, Bool, List, [], ◌∷◌, length, Option, Some, None}
use Rattle.std.specs.Prelude.{if◌then◌else◌}
use Rattle.std.specs.List.{list_all}
use Rattle.line_shapes.specs.Fields.{hex_value_after, is_hex_digit}

-- the number that eight hex digits spell
abbrev pub word_value : List ℕ → Option ℕ
word_value text = if (length text == 8) && list_all is_hex_digit text then Some (hex_value_after 0 text) else None

-- whether the byte is a decimal digit
abbrev pub is_digit : ℕ → Bool
is_digit b = nat_le 48 b && nat_le b 57

-- the number whose decimal digits are those of a number and then these
abbrev pub decimal_value_after : ℕ → List ℕ → ℕ
decimal_value_after n [] = n
decimal_value_after n (b ∷ text) = decimal_value_after (n * 10 + (b - 48)) text

-- the number that at most nine decimal digits spell
abbrev pub decimal_value : List ℕ → Option ℕ
decimal_value text =
    if nat_le (length text) 9 && list_all is_digit text then Some (decimal_value_after 0 text) else None
