-- Why a file of hex words is refused.
use Rattle.std.specs.Prelude.{◌≡◌, ℕ, List, Err}
use Rattle.words_command.specs.declared.read.WordsError.{WordsError}
use Rattle.words_command.specs.declared.read.WordsError.TheVariants.{Line, Memory}
use Rattle.words_command.specs.HexText.{words_of_text}

-- The line is the first bad one of the text. Out of memory says nothing of the text.
abbrev pub IsFirstBad : List ℕ → WordsError → Type 0
IsFirstBad text (Line number) = words_of_text text ≡ Err number
IsFirstBad text Memory = Unit {0}
