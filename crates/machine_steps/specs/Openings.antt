-- The state in which a machine opens.
use Rattle.std.specs.Prelude.{◌≡◌, ℕ, ◌^◌, List, map}
use Rattle.std.specs.List.{range_with_len}
use Rattle.flat_machine.specs.declared.config.Config.{Config}
use Rattle.flat_machine.specs.declared.event.Event.{Event}
use Rattle.flat_machine.specs.State.{FlatState}
use Rattle.elf_image.specs.declared.layout.Layout.{Layout}
use Rattle.elf_image.specs.Images.{ImageContents}
use Rattle.elf_image.specs.Openings.{opening}
use Rattle.messages.specs.Network.{empty_net}
use Rattle.machine_theory.specs.Theory as theory
use Rattle.machine_ports.specs.Ports.{PortState}
use Rattle.machine_steps.specs.Parts.{opening_ports, opening_modules}
use Rattle.machine_theory.specs.Processors.{ObservedCore, word_at}
use Rattle.machine_theory.specs.Steps.{machine_of_parts}
use Rattle.machine_steps.specs.Machines.{MachineLists, machine_of, AreHome, IsIdle}

-- the flat machine that a machine's processors, words and code make
abbrev pub flat_state : MachineLists → FlatState
flat_state m = record {
  processors = map (λ (p : PortState). p.core.state) m.ports;
  shared = map (word_at m.config.k m.modules) (range_with_len 0 m.config.shared_words);
  code = m.code;
}

-- the theory's machine of this size that opens on a layout, whose processors have shown these events; its network
-- is empty
abbrev pub opening_machine : Config → Layout → (shown : ℕ → List Event) → theory.Machine ObservedCore
opening_machine c layout shown =
    machine_of_parts c empty_net (opening_ports c layout (2 ^ c.k)) (opening_modules c layout.shared (2 ^ c.k)) shown

-- The machine of this size opens on an image: no reference is open, no core is away, and its processors, words and code
-- are those of the image. All machines that open on an image are the same.
pub record IsOpening (c : Config) (image : ImageContents) (m : MachineLists) : Type 0 where
  pub config : m.config ≡ c
  pub image_is : m.image ≡ image
  pub idle : IsIdle m
  pub home : AreHome m
  pub flat : flat_state m ≡ opening c image.layout
  pub machine : (shown : ℕ → List Event) → machine_of m shown ≡ opening_machine c image.layout shown
