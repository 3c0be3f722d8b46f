-- The text of a line of a serial order.
use Rattle.std.specs.Prelude.{ℕ, ◌==◌, List, [], ◌++◌, codes, Option, Some, None, if◌then◌else◌}
use Rattle.std.specs.Fmt.{decimal}
use Rattle.assembler.specs.asm_lines.Written.{text_of}
use Rattle.flat_machine.specs.declared.event.Event.{Event}
use Rattle.flat_machine.specs.declared.event.Event.TheVariants.{Retired, Stopped}
use Rattle.flat_machine.specs.declared.poke.Poke.{Poke}
use Rattle.flat_machine.specs.declared.poke.Poke.TheVariants as poke
use Rattle.flat_machine.specs.State.{status_of}
use Rattle.command_io.specs.Digits.{hex_of_byte, hex_of_word, line_feed, status_text}
use Rattle.trace_lines.specs.declared.reference.Reference.{Reference}

-- ` = VVVVVVVV`: the value written to a register
abbrev pub result_text : Option ℕ → List ℕ
result_text None = []
result_text (Some value) = codes " = " ++ hex_of_word value

-- ` console BB`: the byte written to the console
abbrev pub console_text : Option ℕ → List ℕ
console_text None = []
console_text (Some byte) = codes " console " ++ hex_of_byte byte

-- ` word I BBBBBBBB AAAAAAAA`: a shared word, its value before and after
abbrev pub reference_text : Option Reference → List ℕ
reference_text None = []
reference_text (Some r) = codes " word " ++ decimal r.word ++ codes " " ++ hex_of_word r.before ++ codes " "
    ++ hex_of_word r.after

-- the instruction and its results, or how the processor stopped, as `halt HH` or `fault N`
abbrev pub event_text : Event → List ℕ
event_text (Retired r) = text_of r.insn ++ result_text r.result ++ console_text r.out
event_text (Stopped cause) = status_text (status_of cause)

-- `N P AAAAAAAA EVENT REFERENCE`
unfoldable pub turn_line : (number processor pc : ℕ) → Event → Option Reference → List ℕ
turn_line number processor pc event reference =
    decimal number ++ codes " " ++ decimal processor ++ codes " " ++ hex_of_word pc ++ codes " " ++ event_text event
    ++ reference_text reference ++ line_feed

-- `x1` to `x31`, or `pc`
abbrev pub register_text : ℕ → List ℕ
register_text register = if register == 32 then codes "pc" else codes "x" ++ decimal register

-- the processor that a poke writes to, or `-` if it writes to a shared word
abbrev pub owner_text : Poke → List ℕ
owner_text (poke.Register k register value) = decimal k
owner_text (poke.Local k address value) = decimal k
owner_text (poke.Shared address value) = codes "-"

-- the register that a poke writes, or the address of the byte, and the new value
abbrev pub written_text : Poke → List ℕ
written_text (poke.Register k register value) = register_text register ++ codes " " ++ hex_of_word value
written_text (poke.Local k address value) = hex_of_word address ++ codes " " ++ hex_of_byte value
written_text (poke.Shared address value) = hex_of_word address ++ codes " " ++ hex_of_byte value

-- `N P poke WRITTEN REFERENCE`
unfoldable pub poke_line : (number : ℕ) → Poke → Option Reference → List ℕ
poke_line number q reference =
    decimal number ++ codes " " ++ owner_text q ++ codes " poke " ++ written_text q ++ reference_text reference
    ++ line_feed
