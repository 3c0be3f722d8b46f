-- The changes that lead from a blank view to that of a machine.
use Rattle.std.specs.Prelude.{ℕ, zero, suc, ◌+◌, ◌^◌, ◌==◌, ◌&&◌, Bool, List, [], ◌∷◌, ◌++◌, slice_get, slice_index}
use Rattle.std.specs.Prelude.{is_none, if◌then◌else◌}
use Rattle.flat_machine.specs.declared.config.Config.{Config}
use Rattle.flat_machine.specs.State.{Processor}
use Rattle.messages.specs.Network.{Net}
use Rattle.omega_network.specs.Networks.{net_of}
use Rattle.machine_steps.specs.Machines.{MachineLists}
use Rattle.machine_views.specs.Places.{records_before}
use Rattle.machine_steps.specs.machine_theory.Processors.{word_at}
use Rattle.machine_views.specs.Subjects.{processors_of}
use Rattle.page_command.specs.Changes.{Change, changes_to}
use Rattle.page_command.specs.Views.{Core, Part, Place, Register, Word, view_at}

-- those of the first registers of a processor that are not 0
unfoldable pub registers_set : (processor : ℕ) → (registers : List ℕ) → (count : ℕ) → List Part
registers_set p registers zero = []
registers_set p registers (suc r) =
    registers_set p registers r ++ (if slice_index registers r == 0 then [] else Register p r ∷ [])

-- a processor and its registers that are not 0
abbrev pub processor_set : (processor : ℕ) → Processor → List Part
processor_set p state = Core p ∷ [] ++ registers_set p state.registers 32

-- the same of the first processors
unfoldable pub processors_set : (ℕ → Processor) → (count : ℕ) → List Part
processors_set states zero = []
processors_set states (suc p) = processors_set states p ++ processor_set p (states p)

-- those of the first words that are not 0
unfoldable pub words_set : (memory : ℕ → ℕ) → (count : ℕ) → List Part
words_set memory zero = []
words_set memory (suc i) = words_set memory i ++ (if memory i == 0 then [] else Word i ∷ [])

-- whether nothing stands at a place
abbrev pub is_clear : Net → (depth wire : ℕ) → Bool
is_clear net d w = is_none (slice_get (net.requests d w) 0) && (is_none (slice_get (records_before net d w) 0)
    && is_none (slice_get (net.replies d w) 0))

-- of a depth, the places on the first wires at which something stands
unfoldable pub places_at : Net → (depth count : ℕ) → List Part
places_at net d zero = []
places_at net d (suc w) = places_at net d w ++ (if is_clear net d w then [] else Place d w ∷ [])

-- the same of the first depths, each with this many wires
unfoldable pub places_set : Net → (wires count : ℕ) → List Part
places_set net n zero = []
places_set net n (suc d) = places_set net n d ++ places_at net d n

-- all processors, the registers and words that are not 0, and the places at which something stands
unfoldable pub parts_set : Config → (memory : ℕ → ℕ) → (ℕ → Processor) → Net → List Part
parts_set c memory states net =
    processors_set states (2 ^ c.k) ++ (words_set memory c.shared_words ++ places_set net (2 ^ c.k) (c.k + 1))

-- the changes that lead to a machine
abbrev pub opening_changes : MachineLists → List Change
opening_changes m = changes_to (view_at m)
    (parts_set m.config (word_at m.config.k m.modules) (processors_of m) (net_of m.network))
