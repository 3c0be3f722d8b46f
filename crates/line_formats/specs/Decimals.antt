-- Values in decimal.
use Rattle.std.specs.Prelude.{ℕ, List, [], ◌∷◌, ◌++◌, codes}
use Rattle.std.specs.Fmt.{signed_decimal}
use Rattle.std.specs.Int.{w32, cast_signed}
use Rattle.std.specs.Option.{option_map_or}
use Rattle.line_shapes.specs.Cuts.{words_of}
use Rattle.line_shapes.specs.Numbers.{word_value}

-- a word of eight hex digits as the number in two's complement that it spells, and any other as it stands
abbrev pub decimal_word : (word : List ℕ) → List ℕ
decimal_word word = option_map_or (λ value. signed_decimal (cast_signed w32 value)) (word_value word) word

-- words, with a blank between two of them
abbrev pub decimal_words : (words : List (List ℕ)) → List ℕ
decimal_words [] = []
decimal_words (word ∷ []) = decimal_word word
decimal_words (word ∷ next ∷ words) = decimal_word word ++ codes " " ++ decimal_words (next ∷ words)

-- a text whose words of eight hex digits are values
abbrev pub decimal_text : (text : List ℕ) → List ℕ
decimal_text text = decimal_words (words_of text)
