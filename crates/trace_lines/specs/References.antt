-- The shared word that an entry of a serial order acts on, and the entry's processor.
use Rattle.std.specs.Prelude.{ℕ, ◌-◌, ◌/◌, ◌^◌, List, Option, Some, None, Result, Ok, Err, slice_get, slice_index}
use Rattle.flat_machine.specs.declared.effect.Region.{Region}
use Rattle.flat_machine.specs.declared.effect.Region.TheVariants as region
use Rattle.flat_machine.specs.declared.fault.Fault.{Fault}
use Rattle.flat_machine.specs.declared.poke.Poke.{Poke}
use Rattle.flat_machine.specs.declared.poke.Poke.TheVariants as poke
use Rattle.flat_machine.specs.declared.poke.Entry.{Entry}
use Rattle.flat_machine.specs.declared.poke.Entry.TheVariants as entry
use Rattle.flat_machine.specs.State.{FlatState, Processor, setting_of}
use Rattle.flat_machine.specs.Turns.{Turn, Retires, Reaches, Stops, turn_of}
use Rattle.flat_machine.specs.Flat.{flat_step}
use Rattle.trace_lines.specs.declared.reference.Reference.{Reference}

-- the shared word that an access goes to, if any
abbrev pub word_of_region : Result Region Fault → Option ℕ
word_of_region (Ok (region.Shared word)) = Some word
word_of_region (Ok (region.Local place)) = None
word_of_region (Ok (region.Code place)) = None
word_of_region (Err fault) = None

-- the shared word that a turn acts on, if any
abbrev pub word_of_turn : Turn → Option ℕ
word_of_turn (Retires after retired) = None
word_of_turn (Reaches word change after) = Some word
word_of_turn (Stops cause) = None

-- the shared word that the next turn of processor k acts on
abbrev pub word_of_processor : FlatState → ℕ → Option Processor → Option ℕ
word_of_processor m k None = None
word_of_processor m k (Some p) = word_of_turn (turn_of (setting_of m k) m.code p)

-- the shared word in which a poke writes a byte
abbrev pub word_of_poke : Poke → Option ℕ
word_of_poke (poke.Register k register value) = None
word_of_poke (poke.Local k address value) = None
word_of_poke (poke.Shared address value) = Some ((address - 2 ^ 31) / 4)

abbrev pub word_of : FlatState → Entry → Option ℕ
word_of m (entry.Processor k) = word_of_processor m k (slice_get m.processors k)
word_of m (entry.Poke q) = word_of_poke q

-- the processor whose register or local memory a poke writes
abbrev pub processor_of_poke : Poke → Option ℕ
processor_of_poke (poke.Register k register value) = Some k
processor_of_poke (poke.Local k address value) = Some k
processor_of_poke (poke.Shared address value) = None

abbrev pub processor_of : Entry → Option ℕ
processor_of (entry.Processor k) = Some k
processor_of (entry.Poke q) = processor_of_poke q

-- a shared word with its values in two lists of words
abbrev pub referred : (before after : List ℕ) → (word : Option ℕ) → Option Reference
referred before after None = None
referred before after (Some word) =
    Some (record { word = word; before = slice_index before word; after = slice_index after word })

-- the shared word that an entry acts on, with its value before the entry and after it
abbrev pub reference_of : FlatState → Entry → Option Reference
reference_of m e = referred m.shared (flat_step m e).shared (word_of m e)
