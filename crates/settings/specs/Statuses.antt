-- The exit status for a command line that gives no settings.
use Rattle.std.specs.Prelude.{ℕ, Bool, false, List, ◌∷◌, codes, if◌then◌else◌}
use Rattle.std.specs.Str.{bytes_eq}
use Rattle.clap.specs.Words.{Text}
use Rattle.clap.specs.declared.error.kind.ErrorKind.{ErrorKind}
use Rattle.clap.specs.declared.error.kind.ErrorKind.TheVariants as kind

-- whether the words are the program's name, the command `help`, and any others
abbrev pub is_help : List Text → Bool
is_help (program ∷ command ∷ others) = bytes_eq command (codes "help")
is_help other = false

-- the exit status if the parser's error has this kind: help that the command `help` prints is no refusal
abbrev pub status_of_error : (words : List Text) → ErrorKind → ℕ
status_of_error words kind.OutOfMemory = 4
status_of_error words kind.DisplayHelp = if is_help words then 0 else 2
status_of_error words other = 2
