-- Laws of the lines of a serial order.
use Rattle.std.specs.Prelude.{◌≡◌, ℕ, ◌+◌, List, [], ◌∷◌, ◌++◌, length, Some, None, slice_get}
use Rattle.flat_machine.specs.declared.event.Cause.{Cause}
use Rattle.flat_machine.specs.declared.event.Event.TheVariants as event
use Rattle.flat_machine.specs.declared.event.Retired.{Retired}
use Rattle.flat_machine.specs.declared.poke.Entry.{Entry}
use Rattle.flat_machine.specs.declared.poke.Entry.TheVariants as entry
use Rattle.flat_machine.specs.Effects.{effect_of}
use Rattle.flat_machine.specs.State.{FlatState, Processor, setting_of}
use Rattle.flat_machine.specs.Turns.{performed}
use Rattle.flat_machine.specs.Flat.{flat_event, flat_run}
use Rattle.trace_lines.specs.declared.choice.Choice.{Choice}
use Rattle.trace_lines.specs.OrderLines.{chosen_line, lines_from}
use Rattle.trace_lines.specs.References.{word_of, word_of_turn}

-- An entry at the end of a list adds its line, if it is chosen, in the flat machine that has taken the list.
abbrev pub LinesGoOn : Type 0
LinesGoOn = (choice : Choice) (m : FlatState) (number : ℕ) (es : List Entry) (e : Entry) →
    lines_from choice m number (es ++ e ∷ []) ≡ lines_from choice m number es
    ++ chosen_line choice (flat_run m es) (number + length es) e

-- A turn that retires an instruction acts on the same word as the instruction in the processor's state before.
abbrev pub RetiredTurnsHaveWords : Type 0
RetiredTurnsHaveWords = (m : FlatState) (k : ℕ) (p : Processor) (r : Retired) →
    slice_get m.processors k ≡ Some p → flat_event m (entry.Processor k) ≡ Some (event.Retired r) →
    word_of m (entry.Processor k)
    ≡ word_of_turn (performed (setting_of m k) m.code p r.insn (effect_of (setting_of m k) p.pc p.registers r.insn))

-- A turn that stops its processor acts on no shared word.
abbrev pub StoppedTurnsHaveNone : Type 0
StoppedTurnsHaveNone =
    (m : FlatState) (k : ℕ) (cause : Cause) → flat_event m (entry.Processor k) ≡ Some (event.Stopped cause) →
    word_of m (entry.Processor k) ≡ None
