-- What the kind of a processor's turn says of the turn.
use Rattle.std.proofs.Common.{◌≡◌, ℕ, Bool, true, false, refl, sym}
use Rattle.machine_ports.specs.flat_machine.declared.event.Retired as retirement
use Rattle.machine_ports.specs.flat_machine.State.{Processor}
use Rattle.machine_ports.specs.flat_machine.Turns.{Turn, Retires, Reaches, Stops}
use Rattle.serialization.specs.Program.{Kind, Rests, Refers}
use Rattle.machine_theory.specs.Processors.{kind_of, kind_of_turn}

-- The turn reaches a word.
pub record Reached (t : Turn) : Type 0 where
  -- the word that it reaches
  pub word : ℕ
  -- what it does to the word
  pub change : ℕ → ℕ
  -- what the processor becomes and what retires, by the word found
  pub after : ℕ → Processor × retirement.Retired
  -- the turn is that reference
  pub is : t ≡ Reaches word change after

-- A turn whose kind is to refer reaches a word.
pub reaches_of : (t : Turn) → kind_of_turn t ≡ Refers → Reached t
reaches_of (Reaches word change after) e = record { word = word; change = change; after = after; is = refl }
reaches_of (Retires after retired) e = absurd (cc)
reaches_of (Stops cause) e = absurd (cc)

-- A processor whose turn does not rest runs, and the kind is that of its turn.
pub runs_by : (b : Bool) (t : Turn) (k : Kind) → kind_of b t ≡ k → (k ≡ Rests → ⊥) → (b ≡ true) × (kind_of_turn t ≡ k)
runs_by true t k e some = (refl, e)
runs_by false t k e some = absurd (some (sym e))
