-- The lines of a serial order: what each entry does in the flat machine that has taken the entries before it.
use Rattle.std.specs.Prelude.{ℕ, ◌+◌, List, [], ◌∷◌, ◌++◌, Option, Some, None, slice_get}
use Rattle.std.specs.Prelude.{if◌then◌else◌}
use Rattle.flat_machine.specs.declared.event.Event.{Event}
use Rattle.flat_machine.specs.declared.poke.Entry.{Entry}
use Rattle.flat_machine.specs.declared.poke.Entry.TheVariants as entry
use Rattle.flat_machine.specs.State.{FlatState, Processor}
use Rattle.flat_machine.specs.Flat.{flat_event, flat_step, is_lawful}
use Rattle.trace_lines.specs.declared.choice.Choice.{Choice}
use Rattle.trace_lines.specs.Choices.{takes}
use Rattle.trace_lines.specs.declared.reference.Reference.{Reference}
use Rattle.trace_lines.specs.References.{processor_of, reference_of, word_of}
use Rattle.trace_lines.specs.OrderTexts.{poke_line, turn_line}

-- the line of a turn of processor k, in this state before it, that shows this event; empty if it shows none
abbrev pub line_of_turn : (number k : ℕ) → Option Processor → Option Event → Option Reference → List ℕ
line_of_turn number k (Some p) (Some event) reference = turn_line number k p.pc event reference
line_of_turn number k (Some p) None reference = []
line_of_turn number k None event reference = []

-- The line of the entry with this number, in the flat machine before it. It is empty if the entry does nothing: a turn
-- of a stopped processor, or an unlawful poke.
abbrev pub line_of : FlatState → (number : ℕ) → Entry → List ℕ
line_of m number (entry.Processor k) =
    line_of_turn number k (slice_get m.processors k) (flat_event m (entry.Processor k))
    (reference_of m (entry.Processor k))
line_of m number (entry.Poke q) = if is_lawful m q then poke_line number q (reference_of m (entry.Poke q)) else []

-- the line of an entry if it is chosen, and nothing otherwise
abbrev pub chosen_line : Choice → FlatState → (number : ℕ) → Entry → List ℕ
chosen_line choice m number e = if takes choice number (processor_of e) (word_of m e) then line_of m number e else []

-- The lines of a list of entries, each in the flat machine that has taken the entries before it. Entries that are not
-- chosen are numbered too.
abbrev pub lines_from : Choice → FlatState → (number : ℕ) → List Entry → List ℕ
lines_from choice m number [] = []
lines_from choice m number (e ∷ es) = chosen_line choice m number e ++ lines_from choice (flat_step m e) (number + 1) es

-- the lines of a serial order, from entry 0
abbrev pub lines_of : Choice → FlatState → List Entry → List ℕ
lines_of choice m entries = lines_from choice m 0 entries
