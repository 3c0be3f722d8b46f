-- What a contract sees of a `Machine`, and what holds of every machine.
use Rattle.std.specs.Prelude.{◌≡◌, ℕ, ◌^◌, ◌<◌, ◌≤◌, Bool, true, false, ◌&&◌, not, List, [], length, nat_lt}
use Rattle.std.specs.Prelude.{slice_index_or, slice_set}
use Rattle.flat_machine.specs.declared.config.Config.{Config}
use Rattle.flat_machine.specs.declared.event.Event.{Event}
use Rattle.flat_machine.specs.State.{is_running}
use Rattle.flat_machine.specs.Limits.{IsWithinLimits}
use Rattle.flat_machine.specs.Laws.{HasWords, AreBelow}
use Rattle.elf_image.specs.Images.{ImageContents}
use Rattle.omega_network.specs.Networks.{NetworkLists, net_of}
use Rattle.omega_network.specs.Networks as network
use Rattle.machine_theory.specs.network_theory.Roles.{Role}
use Rattle.machine_theory.specs.Theory as theory
use Rattle.machine_theory.specs.serialization.Steadiness.{Steady}
use Rattle.steps.specs.declared.step.Step.{Step}
use Rattle.steps.specs.declared.step.Outcome.{Outcome}
use Rattle.hart.specs.State.{CoreState}
use Rattle.machine_ports.specs.Ports.{PortState, is_away, no_processor}
use Rattle.machine_steps.specs.Parts.{places_of}
use Rattle.machine_theory.specs.Processors.{ObservedCore, sizes_of, setting_of, program, port_at, open_at, word_at}
use Rattle.machine_theory.specs.Steps.{machine_of_parts, IsStepOf}

pub record MachineLists : Type 0 where
  pub config : Config
  pub image : ImageContents
  pub network : NetworkLists
  pub ports : List PortState
  pub modules : List (List ℕ)
  pub code : List ℕ

-- the theory's machine of these parts, whose processors have shown these events
abbrev pub machine_of : MachineLists → (shown : ℕ → List Event) → theory.Machine ObservedCore
machine_of m shown = machine_of_parts m.config (net_of m.network) m.ports m.modules shown

-- No reference is open.
abbrev pub IsIdle : MachineLists → Type 0
IsIdle m = (p : ℕ) → p < 2 ^ m.config.k → open_at m.ports p ≡ false

-- ---- cores that are away

-- whether the core of processor p is away
abbrev pub away_at : MachineLists → (p : ℕ) → Bool
away_at m p = is_away (port_at m.ports p).core.state

-- No core is away.
abbrev pub AreHome : MachineLists → Type 0
AreHome m = (p : ℕ) → p < 2 ^ m.config.k → away_at m p ≡ false

-- whether there is a processor of this number, and its core is not away
abbrev pub is_there : MachineLists → (p : ℕ) → Bool
is_there m p = nat_lt p (2 ^ m.config.k) && not (away_at m p)

-- whether the core can be taken out: it is there, and its processor runs and has no reference open
abbrev pub is_free : MachineLists → (p : ℕ) → Bool
is_free m p = is_there m p && (is_running (port_at m.ports p).core.state.status && not (open_at m.ports p))

-- the machine with another core at a processor's port
abbrev pub with_core_at : MachineLists → (p : ℕ) → CoreState → MachineLists
with_core_at m p core = record m { ports = slice_set m.ports p (record (port_at m.ports p) { core = core }) }

-- the machine while a processor's core is away
abbrev pub without_core_at : MachineLists → (p : ℕ) → MachineLists
without_core_at m p = with_core_at m p (record (port_at m.ports p).core { state = no_processor })

-- ---- what holds of every machine

-- There is a port for each processor. Its core knows its number, and has words in its registers and bytes in its
-- memory. If the core is away, nothing of it is left.
pub record ArePorts (c : Config) (ports : List PortState) : Type 0 where
  pub all : length ports ≡ 2 ^ c.k
  pub settings : (p : ℕ) → p < 2 ^ c.k → (port_at ports p).core.setting ≡ setting_of c p
  pub words : (p : ℕ) → HasWords (port_at ports p).core.state
  pub rest : (p : ℕ) → is_away (port_at ports p).core.state ≡ true → (port_at ports p).core.state ≡ no_processor

-- There are all modules, each with places for its words. Past the last shared word there are zeros.
pub record AreModules (c : Config) (modules : List (List ℕ)) : Type 0 where
  pub all : length modules ≡ 2 ^ c.k
  pub places : (m : ℕ) → m < 2 ^ c.k → length (slice_index_or modules m []) ≡ places_of c
  pub words : (i : ℕ) → word_at c.k modules i < 2 ^ 32
  pub end : (i : ℕ) → c.shared_words ≤ i → word_at c.k modules i ≡ 0

-- What holds of every machine: its numbers are within limits, its parts fit them, and its messages are where they
-- belong (`Steady`).
pub record IsMachine (m : MachineLists) : Type 0 where
  pub limits : IsWithinLimits m.config
  pub sizes : network.sizes_of m.network ≡ sizes_of m.config
  pub ports : ArePorts m.config m.ports
  pub modules : AreModules m.config m.modules
  pub code : AreBelow 256 m.code
  pub role : ℕ → Role
  pub steady : Steady (sizes_of m.config) (program m.config m.code) (machine_of m (λ p. [])) role

-- These parts make a machine.
abbrev pub ArePartsOfOne : Config → ImageContents → NetworkLists → (ports : List PortState) →
    (modules : List (List ℕ)) → (code : List ℕ) → Type 0
ArePartsOfOne config image network ports modules code =
    IsMachine (record {
      config = config;
      image = image;
      network = network;
      ports = ports;
      modules = modules;
      code = code;
    })

-- ---- a step

-- The machine keeps its size, its image and its code, the same cores are away, and its other parts are as the machine
-- step says.
pub record IsStep (old : MachineLists) (s : Step) (o : Outcome) (new : MachineLists) : Type 0 where
  pub config : new.config ≡ old.config
  pub image : new.image ≡ old.image
  pub code : new.code ≡ old.code
  pub cores : (p : ℕ) → away_at new p ≡ away_at old p
  pub step : IsStepOf old.config old.code (net_of old.network) old.ports old.modules s o
      (net_of new.network) new.ports new.modules
