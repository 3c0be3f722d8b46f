-- What a page shows of a machine, part by part.
use Rattle.std.specs.Prelude.{◌≡◌, ℕ, ◌^◌, ◌<◌, ◌≤◌, Bool, List, [], Option, None}
use Rattle.std.specs.Prelude.{slice_index, if◌then◌else◌}
use Rattle.flat_machine.specs.declared.config.Config.{Config}
use Rattle.flat_machine.specs.declared.event.Status.{Status}
use Rattle.flat_machine.specs.declared.event.Status.TheVariants.{Halted}
use Rattle.flat_machine.specs.State.{Processor}
use Rattle.flat_machine.specs.Turns.{turn_of}
use Rattle.messages.specs.declared.message.Request.{Request}
use Rattle.messages.specs.declared.message.Record.{Record}
use Rattle.messages.specs.declared.message.Reply.{Reply}
use Rattle.messages.specs.Network.{Net}
use Rattle.omega_network.specs.Networks.{net_of}
use Rattle.machine_steps.specs.Machines.{MachineLists}
use Rattle.machine_steps.specs.machine_theory.Processors.{ObservedCore, open_at, setting_of, word_at}
use Rattle.machine_steps.specs.machine_theory.Theory as theory
use Rattle.machine_views.specs.Places.{records_before}
use Rattle.machine_views.specs.Subjects.{processors_of}
use Rattle.trace_lines.specs.References.{word_of_turn}

-- ---- parts and what they hold

-- A part of a machine that a page shows: a processor, one of its registers, a place of the network, a shared word.
pub data Part : Type 0 where
  Core : (processor : ℕ) → Part
  Register : (processor register : ℕ) → Part
  Place : (depth wire : ℕ) → Part
  Word : (number : ℕ) → Part

-- What a part holds: a processor its `pc`, its status and the word of its open reference; a place its messages; a
-- register or a word its value.
pub data Content : Type 0 where
  Stands : (pc : ℕ) → Status → (word : Option ℕ) → Content
  Messages : List Request → List Record → List Reply → Content
  Value : ℕ → Content

-- what each part holds
abbrev pub View : Type 0
View = Part → Content

-- ---- the view of a machine

-- the word of a processor's reference, if it is open
abbrev pub word_open : Config → (code : List ℕ) → Bool → (processor : ℕ) → Processor → Option ℕ
word_open c code is_open p state = if is_open then word_of_turn (turn_of (setting_of c p) code state) else None

-- the view of a machine of this size, with this code, network, memory, processors and open references
unfoldable pub view_by : Config → (code : List ℕ) → Net → (memory : ℕ → ℕ) → (processors : ℕ → Processor) →
    (is_open : ℕ → Bool) → View
view_by c code net memory processors is_open (Core p) =
    Stands (processors p).pc (processors p).status (word_open c code (is_open p) p (processors p))
view_by c code net memory processors is_open (Register p r) = Value (slice_index (processors p).registers r)
view_by c code net memory processors is_open (Place d w) =
    Messages (net.requests d w) (records_before net d w) (net.replies d w)
view_by c code net memory processors is_open (Word i) = Value (memory i)

-- the view of the theory's machine
abbrev pub view_on : Config → (code : List ℕ) → theory.Machine ObservedCore → View
view_on c code M = view_by c code M.net M.mem (λ p. (M.core p).state) M.is_open

-- the view of a machine
abbrev pub view_at : MachineLists → View
view_at m =
    view_by m.config m.code (net_of m.network) (word_at m.config.k m.modules) (processors_of m) (open_at m.ports)

-- ---- views that are the same

-- A machine of k stages has the part.
abbrev pub IsPart : (k : ℕ) → Part → Type 0
IsPart k (Core p) = p < 2 ^ k
IsPart k (Register p r) = (p < 2 ^ k) × (r < 32)
IsPart k (Place d w) = (d ≤ k) × (w < 2 ^ k)
IsPart k (Word i) = Unit {0}

-- Each part of a machine of k stages holds the same in both views.
abbrev pub AreSameViews : (k : ℕ) → View → View → Type 0
AreSameViews k one other = (part : Part) → IsPart k part → one part ≡ other part

-- a view of processors that have halted, registers and words that are 0, and places without messages
abbrev pub blank : View
blank (Core p) = Stands 0 (Halted 0) None
blank (Register p r) = Value 0
blank (Place d w) = Messages [] [] []
blank (Word i) = Value 0
