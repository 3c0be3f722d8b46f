-- The view of a machine: what its processors do, and what each place of its network holds.
use Rattle.std.specs.Prelude.{ℕ, ◌^◌, Option, None, if◌then◌else◌}
use Rattle.std.specs.Option.{option_map}
use Rattle.flat_machine.specs.Turns.{turn_of}
use Rattle.omega_network.specs.Networks.{net_of}
use Rattle.machine_steps.specs.Machines.{MachineLists}
use Rattle.machine_steps.specs.machine_theory.Processors.{open_at, port_at, setting_of, word_at}
use Rattle.trace_lines.specs.References.{word_of_turn}
use Rattle.machine_views.specs.Places.{each_below, place_views}
use Rattle.machine_views.specs.declared.view.MachineView.{MachineView}
use Rattle.machine_views.specs.declared.view.ProcessorView.{ProcessorView}
use Rattle.machine_views.specs.declared.view.SharedWord.{SharedWord}

-- ---- processors

-- a shared word, with the value that its module holds
abbrev pub shared_word : MachineLists → (number : ℕ) → SharedWord
shared_word m number = record { number = number; value = word_at m.config.k m.modules number }

-- the shared word that the next turn of a processor acts on, if any
abbrev pub next_word : MachineLists → (processor : ℕ) → Option ℕ
next_word m p = word_of_turn (turn_of (setting_of m.config p) m.code (port_at m.ports p).core.state)

-- the shared word of a processor's open reference, if one is open
abbrev pub word_referred : MachineLists → (processor : ℕ) → Option SharedWord
word_referred m p = if open_at m.ports p then option_map (shared_word m) (next_word m p) else None

abbrev pub processor_view : MachineLists → (processor : ℕ) → ProcessorView
processor_view m p = record {
  pc = (port_at m.ports p).core.state.pc;
  status = (port_at m.ports p).core.state.status;
  is_open = open_at m.ports p;
  word = word_referred m p;
}

-- ---- the machine

-- the view of a machine that has taken this many steps
unfoldable pub view_of : MachineLists → (steps : ℕ) → MachineView
view_of m steps = record {
  config = m.config;
  steps = steps;
  processors = each_below (processor_view m) (2 ^ m.config.k);
  places = place_views (net_of m.network) m.config.k;
}
