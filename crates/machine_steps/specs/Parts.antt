-- The parts with which a machine opens.
use Rattle.std.specs.Prelude.{◌≡◌, ℕ, ◌+◌, ◌*◌, ◌/◌, ◌^◌, ◌<◌, ◌≤◌, false, List, length, map}
use Rattle.std.specs.List.{range_with_len}
use Rattle.flat_machine.specs.declared.config.Config.{Config}
use Rattle.flat_machine.specs.Limits.{IsWithinLimits}
use Rattle.flat_machine.specs.Memory.{number_at}
use Rattle.flat_machine.specs.State.{FlatState}
use Rattle.elf_image.specs.declared.layout.Layout.{Layout}
use Rattle.elf_image.specs.Openings.{opening}
use Rattle.hart.specs.State.{new_core}
use Rattle.machine_ports.specs.Ports.{PortState}
use Rattle.machine_theory.specs.Processors.{setting_of, word_at}

-- the port of processor p, at the layout's entry
abbrev pub opening_port : Config → Layout → ℕ → PortState
opening_port c layout p = record { core = new_core (setting_of c p) layout.entry layout.local; is_open = false }

abbrev pub opening_ports : Config → Layout → (count : ℕ) → List PortState
opening_ports c layout count = map (opening_port c layout) (range_with_len 0 count)

-- how many words a module has: at least one for each of its shared words
abbrev pub places_of : Config → ℕ
places_of c = c.shared_words / 2 ^ c.k + 1

-- a word of a module: its place has word place * 2 ^ k + number of the shared bytes, with zeros after the last
abbrev pub opening_word : Config → (shared : List ℕ) → (number place : ℕ) → ℕ
opening_word c shared number place = number_at shared (4 * (place * 2 ^ c.k + number)) 4

abbrev pub opening_module : Config → (shared : List ℕ) → (count number : ℕ) → List ℕ
opening_module c shared count number = map (opening_word c shared number) (range_with_len 0 count)

abbrev pub opening_modules : Config → (shared : List ℕ) → (count : ℕ) → List (List ℕ)
opening_modules c shared count = map (opening_module c shared (places_of c)) (range_with_len 0 count)

-- The ports' processors and the modules' words are those of the flat machine that opens on the layout.
pub record AreTheOpening (c : Config) (layout : Layout) : Type 0 where
  pub processors : map (λ (p : PortState). p.core.state) (opening_ports c layout (2 ^ c.k))
      ≡ (opening c layout).processors
  pub shared : map (word_at c.k (opening_modules c layout.shared (2 ^ c.k))) (range_with_len 0 c.shared_words)
      ≡ (opening c layout).shared
