-- The report of a machine: a line for each processor, and a line for each shared word that is not zero. If no reference
-- is open, it is the report of the flat machine.
use Rattle.std.specs.Prelude.{◌≡◌, ℕ, zero, suc, ◌^◌, ◌<◌, List, [], ◌++◌, Vec, map, slice_index, slice_index_or}
use Rattle.std.specs.Global.{Global}
use Rattle.flat_machine.specs.declared.config.Config.{Config}
use Rattle.flat_machine.specs.declared.event.Event.{Event}
use Rattle.flat_machine.specs.declared.poke.Entry.{Entry}
use Rattle.flat_machine.specs.Flat.{flat_events, flat_run}
use Rattle.flat_machine.specs.State.{FlatState, Processor}
use Rattle.machine_steps.specs.Runs.{with_events}
use Rattle.machine_steps.specs.machine_theory.Processors.{no_processor, word_at}
use Rattle.machine_steps.specs.Machines.{MachineLists}
use Rattle.machine_steps.specs.Standing.{HasFaulted, IsFaulted, processor_of}
use Rattle.command_io.specs.Events.{shown_by}
use Rattle.command_io.specs.Tallies.{ShownBy, nothing_shown}
use Rattle.command_io.specs.Lines.{processor_line, word_lines}

-- The bytes received are the bytes that the processors have shown on their consoles.
abbrev pub AreHeard : (shown : List ShownBy) → (consoles : List (Vec ℕ Global)) → Type 0
AreHeard shown consoles = map (λ (v : Vec ℕ Global). v.items) consoles ≡ map (λ (s : ShownBy). s.console) shown

-- the lines of the first processors, which have shown this
abbrev pub processor_lines : MachineLists → List ShownBy → (count : ℕ) → List ℕ
processor_lines m shown zero = []
processor_lines m shown (suc p) =
    processor_lines m shown p
    ++ processor_line p (processor_of m p).pc (processor_of m p).status (slice_index_or shown p nothing_shown)

-- the lines of the first shared words
abbrev pub shared_lines : MachineLists → (count : ℕ) → List ℕ
shared_lines m zero = []
shared_lines m (suc i) = shared_lines m i ++ word_lines i (word_at m.config.k m.modules i)

-- the report of a machine whose processors have shown this
abbrev pub report_of : MachineLists → List ShownBy → List ℕ
report_of m shown = processor_lines m shown (2 ^ m.config.k) ++ shared_lines m m.config.shared_words

-- This is the exit status of the machine: 1 if a fault has stopped a processor, else 0.
pub record IsExitOf (m : MachineLists) (status : ℕ) : Type 0 where
  pub faulted : HasFaulted m → status ≡ 1
  pub sound : (HasFaulted m → ⊥) → status ≡ 0

-- ---- the flat machine

-- a processor of a flat machine
abbrev pub flat_processor : FlatState → ℕ → Processor
flat_processor F p = slice_index_or F.processors p no_processor

-- the lines of the first processors of a flat machine, which have shown these events
abbrev pub flat_processor_lines : FlatState → (events : ℕ → List Event) → (count : ℕ) → List ℕ
flat_processor_lines F events zero = []
flat_processor_lines F events (suc p) =
    flat_processor_lines F events p
    ++ processor_line p (flat_processor F p).pc (flat_processor F p).status (shown_by (events p))

-- the lines of its first shared words
abbrev pub flat_shared_lines : FlatState → (count : ℕ) → List ℕ
flat_shared_lines F zero = []
flat_shared_lines F (suc i) = flat_shared_lines F i ++ word_lines i (slice_index F.shared i)

-- the report of a flat machine of this size, whose processors have shown these events
abbrev pub flat_report : Config → FlatState → (events : ℕ → List Event) → List ℕ
flat_report c F events = flat_processor_lines F events (2 ^ c.k) ++ flat_shared_lines F c.shared_words

-- A fault has stopped a processor of the flat machine of this size.
abbrev pub HasFlatFaulted : Config → FlatState → Type 0
HasFlatFaulted c F = (p : ℕ) × (p < 2 ^ c.k) × IsFaulted (flat_processor F p).status

-- This is the report of the flat machine of this size that has taken the entries one after another, and this is its
-- exit status.
pub record IsFlatReport (c : Config) (opening : FlatState) (order : List Entry) (text : List ℕ)
    (status : ℕ) : Type 0 where
  pub is : text ≡ flat_report c (flat_run opening order) (with_events (λ p. []) (flat_events opening order))
  pub faulted : HasFlatFaulted c (flat_run opening order) → status ≡ 1
  pub sound : (HasFlatFaulted c (flat_run opening order) → ⊥) → status ≡ 0
