-- Steps and runs of the whole flat machine.
use Rattle.std.specs.Prelude.{ℕ, ◌-◌, ◌/◌, ◌%◌, ◌^◌, Bool, ◌==◌, ◌&&◌, ◌||◌, nat_lt, nat_le, List, [], ◌∷◌, ◌++◌}
use Rattle.std.specs.Prelude.{Option, Some, None, slice_get, slice_index, slice_set, length, if◌then◌else◌}
use Rattle.flat_machine.specs.declared.event.Event.{Event}
use Rattle.flat_machine.specs.declared.event.Event.TheVariants.{Retired, Stopped}
use Rattle.flat_machine.specs.declared.poke.Poke.{Poke}
use Rattle.flat_machine.specs.declared.poke.Poke.TheVariants as poke
use Rattle.flat_machine.specs.declared.poke.Entry.{Entry}
use Rattle.flat_machine.specs.declared.poke.Entry.TheVariants as entry
use Rattle.flat_machine.specs.State.{Processor, FlatState, setting_of, status_of, is_running}
use Rattle.flat_machine.specs.Words.{with_part}
use Rattle.flat_machine.specs.Memory.{in_local, in_shared}
use Rattle.flat_machine.specs.Turns.{Turn, Retires, Reaches, Stops, turn_of}

-- ---- a processor's step

-- a processor's turn on the shared words: the processor and the words after it, and the event
abbrev pub taken : Processor → List ℕ → Turn → Processor × List ℕ × Event
taken p shared (Retires after retired) = (after, shared, Retired retired)
taken p shared (Reaches word change after) =
    let old = slice_index shared word in ((after old).0, slice_set shared word (change old), Retired (after old).1)
taken p shared (Stops cause) = (record p { status = status_of cause }, shared, Stopped cause)

-- the machine with processor k and shared memory as its turn leaves them
abbrev pub with_taken : FlatState → ℕ → Processor × List ℕ × Event → FlatState
with_taken m k done = record m { processors = slice_set m.processors k done.0; shared = done.1 }

-- one whole instruction of processor k, whose state is p
abbrev pub step_of : FlatState → ℕ → Processor → Processor × List ℕ × Event
step_of m k p = taken p m.shared (turn_of (setting_of m k) m.code p)

-- the machine after processor k's turn; if the processor is missing or does not run, nothing changes
abbrev pub turned : FlatState → ℕ → Option Processor → FlatState
turned m k None = m
turned m k (Some p) = if is_running p.status then with_taken m k (step_of m k p) else m

abbrev pub turn_event : FlatState → ℕ → Option Processor → Option Event
turn_event m k None = None
turn_event m k (Some p) = if is_running p.status then Some (step_of m k p).2 else None

-- ---- pokes

-- A lawful poke writes register 1 to 31, pc (as 32) with a value divisible by 4, or a byte of local or shared memory.
abbrev pub is_lawful_register : (register value : ℕ) → Bool
is_lawful_register register value = nat_le 1 register && (nat_lt register 32 || (register == 32 && value % 4 == 0))

abbrev pub is_lawful : FlatState → Poke → Bool
is_lawful m (poke.Register k register value) = nat_lt k (length m.processors) && is_lawful_register register value
is_lawful m (poke.Local k address value) = nat_lt k (length m.processors) && in_local address
is_lawful m (poke.Shared address value) = in_shared (length m.shared) address

abbrev pub with_poked_register : (register value : ℕ) → Processor → Processor
with_poked_register register value p =
    if register == 32 then record p { pc = value } else record p { registers = slice_set p.registers register value }

abbrev pub with_poked_byte : (address value : ℕ) → Processor → Processor
with_poked_byte address value p = record p { local = slice_set p.local (address % 2 ^ 16) value }

-- the shared words with a byte written at an address
abbrev pub with_shared_byte : (address value : ℕ) → List ℕ → List ℕ
with_shared_byte address value shared =
    let word = (address - 2 ^ 31) / 4 in
    slice_set shared word (with_part 1 (address % 4) (slice_index shared word) value)

-- the machine with its processor k changed, if there is one
abbrev pub with_processor : FlatState → ℕ → (Processor → Processor) → Option Processor → FlatState
with_processor m k change None = m
with_processor m k change (Some p) = record m { processors = slice_set m.processors k (change p) }

abbrev pub written : FlatState → Poke → FlatState
written m (poke.Register k register value) =
    with_processor m k (with_poked_register register value) (slice_get m.processors k)
written m (poke.Local k address value) = with_processor m k (with_poked_byte address value) (slice_get m.processors k)
written m (poke.Shared address value) = record m { shared = with_shared_byte address value m.shared }

-- the machine after a poke; an unlawful one writes nothing
abbrev pub poked : FlatState → Poke → FlatState
poked m p = if is_lawful m p then written m p else m

-- ---- steps and runs

-- the machine after an entry
unfoldable pub flat_step : FlatState → Entry → FlatState
flat_step m (entry.Processor k) = turned m k (slice_get m.processors k)
flat_step m (entry.Poke p) = poked m p

-- the event of an entry, if any: a poke has none, nor has a processor that takes no instruction
unfoldable pub flat_event : FlatState → Entry → Option Event
flat_event m (entry.Processor k) = turn_event m k (slice_get m.processors k)
flat_event m (entry.Poke p) = None

-- the machine after a list of entries
abbrev pub flat_run : FlatState → List Entry → FlatState
flat_run m [] = m
flat_run m (e ∷ es) = flat_run (flat_step m e) es

-- an event with the number of its processor
abbrev pub with_processor_number : Entry → Option Event → List (ℕ × Event)
with_processor_number (entry.Processor k) (Some event) = (k, event) ∷ []
with_processor_number _ _ = []

-- the events of a list of entries, in order
abbrev pub flat_events : FlatState → List Entry → List (ℕ × Event)
flat_events m [] = []
flat_events m (e ∷ es) = with_processor_number e (flat_event m e) ++ flat_events (flat_step m e) es
