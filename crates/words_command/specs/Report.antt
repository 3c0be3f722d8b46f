-- The report of `ultra words`: 34 lines.
use Rattle.std.specs.Prelude.{ℕ, ◌+◌, List, [], ◌∷◌, ◌++◌, codes}
use Rattle.std.specs.Fmt.{decimal}
use Rattle.flat_machine.specs.State.{Processor}
use Rattle.command_io.specs.Digits.{hex_of_word, line_feed, status_text}

abbrev pub register_line : (number value : ℕ) → List ℕ
register_line number value = codes "x" ++ decimal number ++ codes " " ++ hex_of_word value ++ line_feed

-- a line for each register, from this number on
abbrev pub register_lines : (number : ℕ) → List ℕ → List ℕ
register_lines number [] = []
register_lines number (value ∷ values) = register_line number value ++ register_lines (number + 1) values

-- the lines of a processor's registers, its pc, and its status
unfoldable pub report_of : Processor → List ℕ
report_of p = register_lines 0 p.registers ++ codes "pc " ++ hex_of_word p.pc ++ line_feed ++ status_text p.status
    ++ line_feed
