-- The values that a line of a story tells beside the outcome of its step.
use Rattle.std.specs.Prelude.{ℕ, List, [], ◌++◌, codes, Option, Some, None}
use Rattle.std.specs.Fmt.{decimal}
use Rattle.command_io.specs.Digits.{hex_of_word}
use Rattle.trace_lines.specs.declared.values.Values.{Values}
use Rattle.trace_lines.specs.declared.values.Values.TheVariants.{Nothing, Sent, Joined, Served, Answered}
use Rattle.trace_lines.specs.Functions.{function_text}

-- ` VVVVVVVV`, if there is a value
abbrev pub value_text : Option ℕ → List ℕ
value_text None = []
value_text (Some value) = codes " " ++ hex_of_word value

-- ` FUNCTION to word I` of a request that is sent, `: FUNCTION goes on, FUNCTION is kept` of a combination, `: word I
-- VVVVVVVV to VVVVVVVV` of a service, and `: VVVVVVVV ..` of a split
abbrev pub values_text : Values → List ℕ
values_text Nothing = []
values_text (Sent phi word) = codes " " ++ function_text phi ++ codes " to word " ++ decimal word
values_text (Joined both kept) =
    codes ": " ++ function_text both ++ codes " goes on, " ++ function_text kept ++ codes " is kept"
values_text (Served r) =
    codes ": word " ++ decimal r.word ++ codes " " ++ hex_of_word r.before ++ codes " to " ++ hex_of_word r.after
values_text (Answered first second third) =
    codes ":" ++ value_text first ++ value_text second ++ value_text third
