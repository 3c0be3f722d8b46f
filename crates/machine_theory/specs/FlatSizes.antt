-- The flat machines of a size.
use Rattle.std.specs.Prelude.{◌≡◌, ℕ, ◌^◌, List, length}
use Rattle.machine_ports.specs.flat_machine.declared.config.Config.{Config}
use Rattle.machine_ports.specs.flat_machine.State.{FlatState}
use Rattle.machine_ports.specs.flat_machine.Laws.{IsInRange}

-- The flat machine has this size and this code.
pub record HasSize (c : Config) (code : List ℕ) (F : FlatState) : Type 0 where
  pub processors : length F.processors ≡ 2 ^ c.k
  pub shared : length F.shared ≡ c.shared_words
  pub code_is : F.code ≡ code

-- The flat machine has this size, its words are below 2^32, and its bytes below 256.
pub record IsSoundFlat (c : Config) (code : List ℕ) (F : FlatState) : Type 0 where
  pub size : HasSize c code F
  pub ranges : IsInRange F
