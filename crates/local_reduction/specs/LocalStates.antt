-- Processors with what they have printed, and what each does alone: until its next reference to a shared word or its
-- stop, or for ever.
use Rattle.std.specs.Prelude.{◌≡◌, ◌⊎◌, ℕ, zero, suc, true, ◌==◌, List, [], ◌∷◌, if◌then◌else◌}
use Rattle.flat_machine.specs.declared.setting.Setting.{Setting}
use Rattle.flat_machine.specs.declared.event.Event.{Event}
use Rattle.flat_machine.specs.declared.event.Event.TheVariants as event
use Rattle.flat_machine.specs.declared.event.Retired.{Retired}
use Rattle.flat_machine.specs.declared.event.Cause.{Cause}
use Rattle.flat_machine.specs.declared.poke.Entry.{Entry}
use Rattle.flat_machine.specs.declared.poke.Entry.TheVariants as entry
use Rattle.flat_machine.specs.State.{Processor, is_running, status_of}
use Rattle.flat_machine.specs.Turns.{Turn, Retires, Reaches, Stops, turn_of}
pub use Rattle.flat_machine.specs.Turns.{IsReference, with_byte}

-- ---- what processors print

abbrev pub printed_after : List ℕ → Event → List ℕ
printed_after console (event.Retired retired) = with_byte console retired.out
printed_after console (event.Stopped cause) = console

-- the console of processor k after these events, of which only its own count
abbrev pub console_after : (k : ℕ) → List ℕ → List (ℕ × Event) → List ℕ
console_after k console [] = console
console_after k console ((j, shown) ∷ events) =
    console_after k (if j == k then printed_after console shown else console) events

-- the consoles of all processors
abbrev pub consoles_after : (ℕ → List ℕ) → List (ℕ × Event) → ℕ → List ℕ
consoles_after consoles events k = console_after k (consoles k) events

-- a turn of each of these processors
abbrev pub turns : List ℕ → List Entry
turns [] = []
turns (k ∷ ks) = entry.Processor k ∷ turns ks

-- ---- a processor alone

-- a processor, and the bytes that it has printed
pub record LocalState : Type 0 where
  pub processor : Processor
  pub console : List ℕ

-- the local state after an instruction that retired
abbrev pub retire : LocalState → Processor × Retired → LocalState
retire a done = record { processor = done.0; console = with_byte a.console done.1.out }

abbrev pub stopped_by : LocalState → Cause → LocalState
stopped_by a cause = record { processor = record a.processor { status = status_of cause }; console = a.console }

-- the local state after a turn that needs no shared word
abbrev pub alone_by : LocalState → Turn → LocalState
alone_by a (Retires after retired) = retire a (after, retired)
alone_by a (Reaches word change after) = a
alone_by a (Stops cause) = stopped_by a cause

-- the local state after a turn alone, if the processor runs
abbrev pub alone_once : Setting → (code : List ℕ) → LocalState → LocalState
alone_once s code a = if is_running a.processor.status then alone_by a (turn_of s code a.processor) else a

-- the local state after this many turns alone
abbrev pub alone : (count : ℕ) → Setting → (code : List ℕ) → LocalState → LocalState
alone zero s code a = a
alone (suc n) s code a = alone n s code (alone_once s code a)

-- The processor runs, and its next turn is no reference.
abbrev pub GoesOn : Setting → (code : List ℕ) → Processor → Type 0
GoesOn s code p = (is_running p.status ≡ true) × (IsReference (turn_of s code p) → ⊥)

-- The processor goes on in each of this many turns.
abbrev pub GoesOnFor : (count : ℕ) → Setting → (code : List ℕ) → LocalState → Type 0
GoesOnFor zero s code a = Unit {0}
GoesOnFor (suc n) s code a = GoesOn s code a.processor × GoesOnFor n s code (alone_once s code a)

-- The processor spins: it goes on for any number of turns.
abbrev pub Spins : Setting → (code : List ℕ) → Processor → Type 0
Spins s code p = (n : ℕ) → GoesOn s code (alone n s code (record { processor = p; console = [] })).processor

-- The processor has stopped, or its next turn is a reference, or it spins.
abbrev pub IsAtReference : Setting → (code : List ℕ) → Processor → Type 0
IsAtReference s code p = is_running p.status ≡ true → IsReference (turn_of s code p) ⊎ Spins s code p
