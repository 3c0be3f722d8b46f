-- Final results of the flat machine: what is left when no processor runs any more.
use Rattle.std.specs.Prelude.{◌≡◌, ℕ, false, List, [], length, map, slice_get, slice_index_or, Some}
use Rattle.std.specs.List.{range_with_len}
use Rattle.flat_machine.specs.declared.event.Event.{Event}
use Rattle.flat_machine.specs.declared.event.Status.{Status}
use Rattle.flat_machine.specs.declared.event.Status.TheVariants.{Halted}
use Rattle.flat_machine.specs.State.{FlatState, Processor, is_running}
use Rattle.flat_machine.specs.Flat.{flat_run, flat_events}
use Rattle.local_reduction.specs.LocalStates.{LocalState, consoles_after, turns}
use Rattle.local_reduction.specs.Closing.{MacroState, HasStopped}
use Rattle.local_reduction.specs.Exchanging.{Exchange}

-- the pc of a processor that has stopped, how it stopped (by a halt with its byte, or by a fault), and the bytes that
-- it has printed
pub record ProcessorResult : Type 0 where
  pub pc : ℕ
  pub status : Status
  pub console : List ℕ

-- the processors, by their numbers, and the shared words
pub record FinalResult : Type 0 where
  pub processors : List ProcessorResult
  pub words : List ℕ

abbrev pub result_with : Processor → (console : List ℕ) → ProcessorResult
result_with p console = record { pc = p.pc; status = p.status; console = console }

-- ---- of the flat machine

-- the processor of a number that names none
abbrev pub no_processor : Processor
no_processor = record { pc = 0; registers = []; local = []; status = Halted 0 }

-- the result of processor k, if the processors have shown these events
abbrev pub processor_result : FlatState → List (ℕ × Event) → (k : ℕ) → ProcessorResult
processor_result m events k =
    result_with (slice_index_or m.processors k no_processor) (consoles_after (λ j. []) events k)

-- the result of the flat machine, if its processors have shown these events
abbrev pub result_of : FlatState → List (ℕ × Event) → FinalResult
result_of m events = record {
  processors = map (processor_result m events) (range_with_len 0 (length m.processors));
  words = m.shared;
}

-- Some order of turns ends with this result.
abbrev pub IsFlatResult : FlatState → FinalResult → Type 0
IsFlatResult m r =
    (order : List ℕ) × HasStopped (flat_run m (turns order))
    × (r ≡ result_of (flat_run m (turns order)) (flat_events m (turns order)))

-- ---- of states between references

-- No processor runs.
abbrev pub HaveStopped : MacroState → Type 0
HaveStopped s = (k : ℕ) (a : LocalState) → slice_get s.local_states k ≡ Some a → is_running a.processor.status ≡ false

abbrev pub local_state_result : LocalState → ProcessorResult
local_state_result a = result_with a.processor a.console

abbrev pub result_at : MacroState → FinalResult
result_at s = record { processors = map local_state_result s.local_states; words = s.shared }

-- ---- exchanges

-- Result q is r with each processor in the place that it takes.
pub record IsResultExchanged (place : ℕ → ℕ) (r q : FinalResult) : Type 0 where
  pub words : q.words ≡ r.words
  pub each : (k : ℕ) → slice_get q.processors k ≡ slice_get r.processors (place k)

-- Result r stands for q: q is an exchange of r, of processors of one class.
abbrev pub StandsFor : (classes : List ℕ) → FinalResult → FinalResult → Type 0
StandsFor classes r q = (x : Exchange classes) × IsResultExchanged x.place r q
